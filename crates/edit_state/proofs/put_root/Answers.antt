use mathlib.Core.Path.{◌∙◌, sym}
use lib.ListN.{length-set}
use Rattle.edit_state.specs.EditLaws.{short_edits, refused_edits, done_edits}
use Rattle.edit_state.specs.QueryLaws.{sets_beyond, root_past, root_put}
use Rattle.edit_state.specs.Lent.{query_from}
use native.Mathlib.Omega.{arith}
use Rattle.answers.specs.declared.Reason.TheVariants as is
use Rattle.std.proofs.Common.{rules}
use Rattle.edit_state.proofs.put_root.Goals as goal

pub returns-in_err-enough : goal.returns-in_err-enough
returns-in_err-enough c = let h = c.in_err-enough.ensures.short in short_edits _ _ _ (search rules) h.1

pub returns-then-not-is_literal : goal.returns-then-not-is_literal
returns-then-not-is_literal c = refused_edits _ c.args.st.now is.Question _ c.whole.ensures (omega (arith, c.in_ok-enough.ensures.whole)) (omega (arith, c.in_ok-enough.ensures.whole)) (λ T rest l. root_past c.args.st.now c.args.literal
    c.count_entries.result
    c.count_entries.ensures.0 T rest l (sym c.is_literal.ensures ∙ c.if-not-is_literal.true))

pub bounds-st-436 : goal.bounds-st-436
bounds-st-436 c = omega (arith, c.in_ok-enough.ensures.whole, length-set c.args.st.now 2 1)

pub returns : goal.returns
returns c = done_edits _ c.args.st.now _ (omega (arith, c.in_ok-enough.ensures.whole)) (λ T rest l. root_put c.args.st.now c.args.literal c.count_entries.result
    c.count_entries.ensures.0 T rest l (sym c.is_literal.ensures ∙ c.if-not-is_literal.false)) (sets_beyond c.args.st.now 2 1
    query_from c.args.literal (omega (arith, c.in_ok-enough.ensures.whole)) (omega (arith, c.in_ok-enough.ensures.whole)))
