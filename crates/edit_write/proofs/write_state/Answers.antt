use Prim.Native.Nat.{◌*◌}
use mathlib.Core.Path.{◌∙◌, sym, ap}
use mathlib.Core.Bool.{◌&&◌}
use lib.Dec.{eqb, leb}
use lib.ListN.{drop}
use Rattle.edit_write.specs.WriteLaws.{size_is, short_writes, refused_writes, done_writes, out_part, out_short, out_done, rules_few}
use Rattle.edit_state.specs.Lent.{roles_from, concepts_from}
use native.Mathlib.Omega.{arith}
use Rattle.answers.specs.declared.Reason.TheVariants as is
use Rattle.std.proofs.Common.{rules, refl, take}
use Rattle.edit_write.proofs.write_state.Goals as goal

pub returns-in_err-enough : goal.returns-in_err-enough
returns-in_err-enough c = let h = c.in_err-enough.ensures.short in short_writes _ _ _ (search rules) h.1

pub returns-then-not-is_whole : goal.returns-then-not-is_whole
returns-then-not-is_whole c = refused_writes c.args.st.now c.args.buf.now is.Part _ c.whole.ensures (omega (arith, c.in_ok-enough.ensures.whole)) (omega (arith, c.in_ok-enough.ensures.whole)) (λ T rest l. out_part c.args.st.now
    c.count_roles-n.result c.count_entries-e.result c.count_roles-n.ensures.0 c.count_entries-e.ensures.0 T rest l _ (sym (ap (λ b. leb 1
    c.count_roles-n.result && (leb 1 c.count_entries-e.result && eqb b 1)) c.byte.ensures) ∙ sym c.is_whole.ensures ∙ c.if-not-is_whole.true))

pub overflow_add-size-2 : goal.overflow_add-size-2
overflow_add-size-2 c = omega (arith, c.roles_of-rs.ensures.1, c.concepts_of-cs.ensures.1, c.query_of-qs.ensures.1)

pub overflow_add-size-3 : goal.overflow_add-size-3
overflow_add-size-3 c = omega (arith, c.roles_of-rs.ensures.1, c.concepts_of-cs.ensures.1, c.query_of-qs.ensures.1)

pub returns-then-buf-size : goal.returns-then-buf-size
returns-then-buf-size c = refused_writes c.args.st.now c.args.buf.now is.Short _ c.whole-then-buf-size.ensures (omega (arith, c.in_ok-enough.ensures.whole)) (omega (arith, c.in_ok-enough.ensures.whole)) (λ T rest l. out_short c.args.st.now
    c.count_roles-n.result c.count_entries-e.result c.count_roles-n.ensures.0 c.count_entries-e.ensures.0 T rest l _ refl c.roles_of-rs.result.now c.concepts_of-cs.result.now c.query_of-qs.result.now (c.roles_of-rs.ensures.0 ∙ ap (λ n. take (3 * n) (drop roles_from c.args.st.now)) (sym c.count_roles-n.ensures.0))
    (c.concepts_of-cs.ensures.0 ∙ ap (λ n. take (6 * n) (drop concepts_from c.args.st.now)) (sym c.count_entries-e.ensures.0)) c.query_of-qs.ensures.0 c.args.buf.now (sym (ap (λ b. leb 1 c.count_roles-n.result && (leb 1
    c.count_entries-e.result && eqb b 1)) c.byte.ensures) ∙ sym c.is_whole.ensures ∙ c.if-not-is_whole.false) (omega (arith, c.in_ok-enough.ensures.whole)))

pub lay_description-requires : goal.lay_description-requires
lay_description-requires c = (
  omega (arith, c.in_ok-enough.ensures.whole),
  omega (arith, c.roles_of-rs.ensures.1, c.concepts_of-cs.ensures.1, c.query_of-qs.ensures.1),
)

pub returns : goal.returns
returns c = rw c.lay_description.ensures (done_writes c.args.st.now c.args.buf.now c.roles_of-rs.result.now c.concepts_of-cs.result.now
    c.query_of-qs.result.now (omega (arith, c.in_ok-enough.ensures.whole)) (size_is c.args.st.now c.roles_of-rs.result.now c.concepts_of-cs.result.now
    c.query_of-qs.result.now _ _ _ (omega (arith, c.in_ok-enough.ensures.whole)) c.count_roles-n.ensures c.count_entries-e.ensures (refl, rules_few c.args.st.now)
    (c.roles_of-rs.ensures.0 ∙ ap (λ n. take (3 * n) (drop roles_from c.args.st.now)) (sym c.count_roles-n.ensures.0)) (c.concepts_of-cs.ensures.0 ∙ ap (λ n. take (6 * n) (drop concepts_from c.args.st.now)) (sym c.count_entries-e.ensures.0)) c.query_of-qs.ensures.0) (λ T rest l. out_done c.args.st.now c.count_roles-n.result
    c.count_entries-e.result
    c.count_roles-n.ensures.0 c.count_entries-e.ensures.0 T rest l _ refl
    c.roles_of-rs.result.now c.concepts_of-cs.result.now c.query_of-qs.result.now (c.roles_of-rs.ensures.0 ∙ ap (λ n. take (3 * n) (drop roles_from c.args.st.now)) (sym c.count_roles-n.ensures.0)) (c.concepts_of-cs.ensures.0 ∙ ap (λ n. take (6 * n) (drop concepts_from c.args.st.now)) (sym c.count_entries-e.ensures.0)) c.query_of-qs.ensures.0
    c.args.buf.now (sym (ap (λ b. leb 1 c.count_roles-n.result && (leb 1 c.count_entries-e.result && eqb b 1)) c.byte.ensures) ∙
    sym c.is_whole.ensures ∙ c.if-not-is_whole.false) (omega (arith, c.if-buf-size.false))))
