use Prim.Native.Nat.{◌+◌, ◌*◌}
use mathlib.Core.Path.{◌∙◌, ap}
use lib.ListN.{set, drop, length-set}
use Rattle.laying.specs.Laying.{laid_fits}
use Rattle.edit_lay.specs.Lays.{six_bytes}
use Rattle.edit_state.specs.RoleLaws.{changed_beyond}
use Rattle.edit_state.specs.EditLaws.{short_edits, done_edits}
use Rattle.edit_judge.specs.Judging.{allowed}
use Rattle.edit_judge.proofs.ConceptLaws.{concept_put}
use Rattle.edit_state.specs.Lent.{concepts_from, state_bytes}
use native.Mathlib.Omega.{arith}
use Rattle.edit_judge.proofs.put_concept.Goals.{Start}
use Rattle.std.proofs.Common.{rules}
use Rattle.edit_judge.proofs.put_concept.Goals as goal

pub returns-in_err-enough : goal.returns-in_err-enough
returns-in_err-enough c = let h = c.in_err-enough.ensures.short in short_edits _ _ _ (search rules) h.1

pub returns : goal.returns
returns c = let w =
    (goal.at.returns c).Start in let st = w.args.st.now in let e = c.count_entries-e.result in
    let laid-is = c.lay_entry.ensures ∙ laid_fits (set st 1 (e + 1)) (concepts_from + 6 * e) (six_bytes w.args.f)
    (omega (arith, c.in_ok-enough.ensures.whole, length-set st 1 (e + 1))) in
    done_edits _ st _ (omega (arith, c.in_ok-enough.ensures.whole)) (λ T rest l. let a = allowed _ st c.in_ok-judge_concept.ensures T rest l in (
      a,
      laid-is ∙ concept_put st w.args.f e c.count_entries-e.ensures.0 T rest l a,
    )) (ap (drop state_bytes) laid-is ∙ changed_beyond st 1 (e + 1) (concepts_from + 6 * e) (six_bytes w.args.f) (omega (arith, c.in_ok-enough.ensures.whole))
    (omega (arith, c.in_ok-enough.ensures.whole))
    (omega (arith, c.in_ok-enough.ensures.whole)))
