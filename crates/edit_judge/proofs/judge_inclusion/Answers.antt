use Prim.Native.Nat.{◌*◌}
use mathlib.Core.Path.{◌∙◌, sym}
use lib.ListN.{drop}
use Rattle.edit_judge.specs.Judging.{refused_judges, done_judges}
use Rattle.edit_judge.specs.InclusionLaws.{inclusion_past, inclusion_5, inclusion_7, inclusion_passes}
use Rattle.edit_state.specs.Lent.{roles_from}
use native.Mathlib.Omega.{arith}
use Rattle.answers.specs.declared.Reason.TheVariants as is
use Rattle.std.proofs.Common.{refl, ap, take}
use Rattle.edit_judge.proofs.judge_inclusion.Goals as goal

pub returns-then-not-are_roles : goal.returns-then-not-are_roles
returns-then-not-are_roles c = refused_judges _ c.args.st.now is.Role _ c.whole.ensures (omega arith) (λ T rest l. inclusion_past c.args.st.now c.args.r.0 c.args.p.0
    c.count_roles-n.result c.count_roles-n.ensures.0 T rest l (sym c.are_roles.ensures ∙ c.if-not-are_roles.true))

pub returns-then-not-simples_ok : goal.returns-then-not-simples_ok
returns-then-not-simples_ok c = refused_judges _ c.args.st.now is.Simple _ c.whole-then-not-simples_ok.ensures (omega arith) (λ T rest l. inclusion_5 c.args.st.now c.args.r.0 c.args.p.0
    c.count_roles-n.result c.count_roles-n.ensures.0 T rest l c.roles_of.result.now c.concepts_of-cs.result.now
    c.records_with-table.result _ (c.roles_of.ensures.0 ∙ ap (λ n. take (3 * n) (drop roles_from c.args.st.now)) (sym c.count_roles-n.ensures.0)) refl c.concepts_of-cs.ensures.0
    c.records_with-table.ensures (sym c.are_roles.ensures ∙ c.if-not-are_roles.false) (sym c.simples_ok.ensures ∙ c.if-not-simples_ok.true))

pub returns-then-not-everys_ok : goal.returns-then-not-everys_ok
returns-then-not-everys_ok c = refused_judges _ c.args.st.now is.MissingEvery _ c.whole-then-not-everys_ok.ensures (omega arith) (λ T rest l. inclusion_7 c.args.st.now c.args.r.0 c.args.p.0
    c.count_roles-n.result c.count_roles-n.ensures.0 T rest l c.roles_of.result.now c.concepts_of-cs.result.now
    c.records_with-table.result _ (c.roles_of.ensures.0 ∙ ap (λ n. take (3 * n) (drop roles_from c.args.st.now)) (sym c.count_roles-n.ensures.0)) refl c.concepts_of-cs.ensures.0
    c.records_with-table.ensures (sym c.are_roles.ensures ∙ c.if-not-are_roles.false) (sym c.simples_ok.ensures ∙ c.if-not-simples_ok.false) (sym c.everys_ok.ensures ∙ c.if-not-everys_ok.true))

pub returns : goal.returns
returns c = done_judges _ c.args.st.now (λ T rest l. inclusion_passes c.args.st.now c.args.r.0 c.args.p.0
    c.count_roles-n.result c.count_roles-n.ensures.0 T rest l c.roles_of.result.now c.concepts_of-cs.result.now
    c.records_with-table.result _ (c.roles_of.ensures.0 ∙ ap (λ n. take (3 * n) (drop roles_from c.args.st.now)) (sym c.count_roles-n.ensures.0)) refl c.concepts_of-cs.ensures.0
    c.records_with-table.ensures (sym c.are_roles.ensures ∙ c.if-not-are_roles.false) (sym c.simples_ok.ensures ∙ c.if-not-simples_ok.false) (sym c.everys_ok.ensures ∙ c.if-not-everys_ok.false))
