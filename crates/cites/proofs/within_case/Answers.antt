use Prim.Native.Nat.{◌*◌, ◌+◌}
use mathlib.Core.Path.{◌≡◌, ◌∙◌}
use native.Mathlib.Omega.{arith}
use Rattle.labels.specs.Labels.{value_of, label_few}
use Rattle.description.specs.Literals.{code}
use Rattle.cites.specs.Cites.{none_put, case_put, of_entry}
use borrow.Author.Rules.{rules}
use Rattle.cites.proofs.within_case.Goals as goal

pub returns-then-e-ge-MOST_ENTRIES : goal.returns-then-e-ge-MOST_ENTRIES
returns-then-e-ge-MOST_ENTRIES c = let g = c.args in let y = c.label.result in let few = label_few y (search rules) (search rules) in
    c.lies_within.ensures ∙ none_put (value_of y) few _ (value_of g.x) g.e.0 g.denied c.label.ensures c.if-e-ge-MOST_ENTRIES.true

pub returns-then-denied : goal.returns-then-denied
returns-then-denied c = let g = c.args in let z : 2 * g.e.0 + 1 ≡ code (of_entry g.e.0 g.denied) = rw c.if-denied.true (omega arith) in
    c.within_one.ensures ∙ case_put _ (value_of g.x) g.e.0 _ g.denied z

pub returns : goal.returns
returns c = let g = c.args in let z : 2 * g.e.0 ≡ code (of_entry g.e.0 g.denied) = rw c.if-denied.false (omega arith) in
    c.within_one-2.ensures ∙ case_put _ (value_of g.x) g.e.0 _ g.denied z
