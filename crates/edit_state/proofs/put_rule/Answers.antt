use Prim.Native.Nat.{◌+◌}
use mathlib.Core.Path.{◌∙◌, sym, refl}
use lib.ListN.{length-set}
use Rattle.edit_state.specs.EditLaws.{short_edits, refused_edits, done_edits}
use Rattle.edit_state.specs.QueryLaws.{sets_beyond, rule_full, rule_past, rule_added}
use Rattle.edit_state.specs.Lent.{rules_from}
use native.Mathlib.Omega.{arith}
use Rattle.answers.specs.declared.Reason.TheVariants as is
use Rattle.std.proofs.Common.{rules}
use Rattle.edit_state.proofs.put_rule.Goals as goal

pub returns-in_err-enough : goal.returns-in_err-enough
returns-in_err-enough c = let h = c.in_err-enough.ensures.short in short_edits _ _ _ (search rules) h.1

pub returns-then-k-ge16 : goal.returns-then-k-ge16
returns-then-k-ge16 c = refused_edits _ c.args.st.now is.Full _ c.whole.ensures (omega (arith, c.in_ok-enough.ensures.whole)) (omega (arith, c.in_ok-enough.ensures.whole)) (λ T rest l. rule_full c.args.st.now
    c.args.literal _ refl T rest l
    c.count_rules-k.result c.count_rules-k.ensures.0 (omega (arith, c.in_ok-enough.ensures.whole)))

pub returns-then-not-is_literal : goal.returns-then-not-is_literal
returns-then-not-is_literal c = refused_edits _ c.args.st.now is.Question _ c.whole-then-not-is_literal.ensures (omega (arith, c.in_ok-enough.ensures.whole)) (omega (arith, c.in_ok-enough.ensures.whole)) (λ T rest l. rule_past c.args.st.now c.args.literal
    c.count_entries.result c.count_entries.ensures.0 T rest l c.count_rules-k.result c.count_rules-k.ensures.0 (omega (arith, c.in_ok-enough.ensures.whole)) (sym
    c.is_literal.ensures ∙ c.if-not-is_literal.true))

pub bounds-st-k : goal.bounds-st-k
bounds-st-k c = omega (arith, c.in_ok-enough.ensures.whole, length-set c.args.st.now 3 (c.count_rules-k.result + 1))

pub returns : goal.returns
returns c = done_edits _ c.args.st.now _ (omega (arith, c.in_ok-enough.ensures.whole)) (λ T rest l. rule_added c.args.st.now c.args.literal c.count_entries.result
    c.count_entries.ensures.0 T rest l c.count_rules-k.result c.count_rules-k.ensures.0 (omega (arith, c.in_ok-enough.ensures.whole)) (sym c.is_literal.ensures ∙
    c.if-not-is_literal.false)) (sets_beyond c.args.st.now 3 (c.count_rules-k.result + 1) (rules_from + c.count_rules-k.result)
    c.args.literal (omega (arith, c.in_ok-enough.ensures.whole)) (omega (arith, c.in_ok-enough.ensures.whole)))
