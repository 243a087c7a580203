use Prim.Native.Nat.{◌+◌, ◌-◌, ◌*◌, ◌%◌}
use mathlib.Core.Path.{◌≡◌, ◌∙◌, ap, sym, subst}
use native.Mathlib.Omega.{arith}
use native.Mathlib.Nat.{mod-eq_of_lt}
use lib.Dec.{eqb}
use mathlib.Core.Bool.{◌&&◌}
use Rattle.logic.specs.Bounded.{any_none, any_stop, any_more}
use Rattle.logic.specs.Sets.{has}
use Rattle.labels.specs.Labels.{value_of}
use Rattle.labels.specs.Words.{rest_at, rest_front}
use Rattle.tables.specs.Tables.{fields_at}
use Rattle.sources.specs.Sources.{every_above}
use Rattle.sources.proofs.Above.meets.Goals.{After-has_held}
use Rattle.sources.proofs.Above.meets.Goals as goal

pub loop-f-init : goal.loop-f-init
loop-f-init c = (λ h. absurd (omega arith), any_none _)

-- the word is that of the entry, which is below 64
here : (c : After-has_held) → c.next_rest-rest.result ≡ rest_at (value_of c.args.x) c.loop-f.f
here c = let z : c.loop-f.f % 64 ≡ c.loop-f.f = mod-eq_of_lt (omega (arith, c.entry_count-f-end.ensures.1)) in
    rw z at (c.next_rest-rest.ensures (rw z c.loop-f.invariant.0))

-- what is in front is the entry
front : (c : After-has_held) → c.has_held.result
    ≡ (has (value_of c.args.x) (2 * c.loop-f.f)
    && every_above c.args.self.now.above c.args.self.now.l
    (fields_at c.args.self.now.cs.now c.loop-f.f))
front c = let a = c.args.self.now in let f = c.loop-f.f in
    c.has_held.ensures ∙ ap (λ b. b && every_above a.above a.l (fields_at a.cs.now f))
    (ap (λ n. eqb (n % 2) 1) (here c) ∙ rest_front (value_of c.args.x) f)

pub returns-then-has_held : goal.returns-then-has_held
returns-then-has_held c = sym (any_stop _ c.loop-f.f _ (omega arith) (sym (front (goal.at.returns-then-has_held c).After-has_held) ∙ c.if-has_held.true))

pub loop-f-preserved : goal.loop-f-preserved
loop-f-preserved c = let f = c.loop-f.f in let v = c.loop-f.invariant in let e : f ≡ f + 1 - 1 = omega arith in (
  λ _. subst (λ f. c.next_rest-rest.result ≡ rest_at (value_of c.args.x) f) e (here (goal.at.loop-f-preserved c).After-has_held),
  any_more _ f v.1 (sym (front (goal.at.loop-f-preserved c).After-has_held) ∙ c.if-has_held.false),
)
