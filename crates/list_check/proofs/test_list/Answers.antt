use Prim.Native.Nat.{ℕ}
use mathlib.Core.Path.{◌≡◌, sym, ◌∙◌, ap}
use native.Mathlib.Omega.{arith}
use Rattle.std.specs.Prelude.{Some}
use Rattle.evidence.specs.declared.Head.TheVariants.{RefutationOf}
use Rattle.evidence.specs.Evidence.{head_of}
use Rattle.labels.specs.Labels.{value_of}
use Rattle.list_check.specs.CheckSteps.{head_is_list, head_no_list, head_stop, head_on}
use Rattle.list_check.proofs.test_list.Goals.{In-Some-RefutationOf}
use Rattle.list_check.proofs.test_list.Goals as goal

-- the head of a list
head : (c : In-Some-RefutationOf) → Some (RefutationOf c.in-Some-RefutationOf.n) ≡ head_of c.args.s.now
head c = sym (ap Some c.in-Some-RefutationOf.field-0-is) ∙ sym c.in-Some-RefutationOf.is ∙ c.read_head.ensures.0

pub test_all-requires : goal.test_all-requires
test_all-requires c = (head_is_list c.args.s.now _ (head (goal.at.test_all-requires c).In-Some-RefutationOf)).1.1

pub returns-in-Some-RefutationOf : goal.returns-in-Some-RefutationOf
returns-in-Some-RefutationOf c = let g = c.args in
    let w = head_is_list g.s.now _ (head (goal.at.returns-in-Some-RefutationOf c).In-Some-RefutationOf) in
    c.test_all.ensures ∙ head_on g.o.now.marks g.o.now.masks g.o.now.concepts.now g.o.now.query.now (value_of g.want) g.s.now _ _ w.0 w.1.0
    c.layout_of.ensures

pub returns-in-Some-GraphOf : goal.returns-in-Some-GraphOf
returns-in-Some-GraphOf c = let g = c.args in
    rw c.whole-off.ensures (head_stop g.o.now.marks g.o.now.masks g.o.now.concepts.now g.o.now.query.now (value_of g.want) g.s.now
    (head_no_list g.s.now _ c.read_head.ensures.0
    (λ n e. let q = c.in-Some-GraphOf.is in let r = c.in-Some-GraphOf.field-0-is in let z : ◌≡◌ {A = ℕ} 0 1 = cc in omega arith)))

pub returns-in-None : goal.returns-in-None
returns-in-None c = let g = c.args in
    rw c.whole-off.ensures (head_stop g.o.now.marks g.o.now.masks g.o.now.concepts.now g.o.now.query.now (value_of g.want) g.s.now
    (head_no_list g.s.now _ c.read_head.ensures.0
    (λ n e. let q = c.in-None.is in let z : ◌≡◌ {A = ℕ} 0 1 = cc in omega arith)))
