use Prim.Native.Nat.{◌+◌, ◌*◌}
use mathlib.Core.Path.{◌∙◌, sym, ap, refl}
use lib.ListN.{take, drop}
use Rattle.parts.specs.Numbers.{up_to}
use Rattle.laying.specs.Laying.{laid, laid_fits}
use Rattle.edit_lay.specs.Lays.{six_bytes}
use Rattle.answers.specs.Answers.{of_change}
use Rattle.edit_judge.specs.Judging.{refused_judges}
use Rattle.edit_judge.proofs.ConceptLaws.{last_told, concept_full, concept_4, concept_last}
use Rattle.edit_state.specs.Lent.{concepts_from}
use native.Mathlib.Omega.{arith}
use Rattle.answers.specs.declared.Reason.TheVariants as is
use Rattle.edit_judge.proofs.judge_concept.Goals as goal

pub returns-then-e-ge-MOST_ENTRIES : goal.returns-then-e-ge-MOST_ENTRIES
returns-then-e-ge-MOST_ENTRIES c = refused_judges _ c.args.st.now is.Full _ c.whole.ensures (omega arith) (λ T rest l. concept_full c.args.st.now c.args.f _
    c.count_entries-e.result refl
    c.count_entries-e.ensures.0 T rest l (omega arith))

pub returns-then-not-fields_ok : goal.returns-then-not-fields_ok
returns-then-not-fields_ok c = refused_judges _ c.args.st.now is.Entry _ c.whole-then-not-fields_ok.ensures (omega arith) (λ T rest l. concept_4 c.args.st.now c.args.f c.count_roles-n.result
    c.count_entries-e.result c.count_roles-n.ensures.0 c.count_entries-e.ensures.0 T rest l (omega (arith, c.if-e-ge-MOST_ENTRIES.false)) (sym
    c.fields_ok.ensures ∙ c.if-not-fields_ok.true))

pub returns : goal.returns
returns c = record {
  told = last_told c.span.result.now c.count_entries-e.result c.records.result (up_to 16 c.count_roles-n.result) _
      c.judge_last.ensures;
  made = λ T rest l. ap of_change c.judge_last.ensures ∙ concept_last c.args.st.now c.args.f c.count_roles-n.result
      c.count_entries-e.result c.count_roles-n.ensures.0 c.count_entries-e.ensures.0 T rest l c.concepts_of.result.now
      c.span.result.now c.records.result
      (c.concepts_of.ensures.0 ∙ ap (λ n. take (6 * n) (drop concepts_from c.args.st.now)) (sym c.count_entries-e.ensures.0))
      (c.span.ensures ∙ ap (λ b. take (6 * c.count_entries-e.result + 6) (drop 0 b))
      (c.lay_entry.ensures ∙ laid_fits _ _ _ (omega arith) ∙ ap (λ b. laid b (6 * c.count_entries-e.result) (six_bytes c.args.f))
      (c.copy_bytes.ensures ∙ laid_fits _ 0 c.concepts_of.result.now (omega (arith, c.concepts_of.ensures.1)))))
      c.records.ensures (omega (arith, c.if-e-ge-MOST_ENTRIES.false)) (sym c.fields_ok.ensures ∙ c.if-not-fields_ok.false);
}
