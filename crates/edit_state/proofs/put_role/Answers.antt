use Prim.Native.Nat.{◌+◌, ◌*◌}
use mathlib.Core.Path.{◌∙◌}
use mathlib.Core.List.{◌∷◌}
use lib.ListN.{set, length-set}
use Rattle.laying.specs.Laying.{laid_fits}
use Rattle.laying.specs.Numbers.{two}
use Rattle.edit_state.specs.EditLaws.{short_edits, refused_edits, done_edits}
use Rattle.edit_state.specs.RoleLaws.{changed_beyond, role_full, role_past, role_added}
use Rattle.edit_state.specs.Lent.{roles_from}
use native.Mathlib.Omega.{arith}
use Rattle.answers.specs.declared.Reason.TheVariants as is
use Rattle.std.proofs.Common.{rules}
use Rattle.edit_state.proofs.put_role.Goals as goal

pub returns-in_err-enough : goal.returns-in_err-enough
returns-in_err-enough c = let h = c.in_err-enough.ensures.short in short_edits _ _ _ (search rules) h.1

pub returns-then-n-ge16 : goal.returns-then-n-ge16
returns-then-n-ge16 c = refused_edits _ c.args.st.now is.Full _ c.whole.ensures (omega (arith, c.in_ok-enough.ensures.whole)) (omega (arith, c.in_ok-enough.ensures.whole)) (λ T rest l. role_full c.args.st.now c.args.transitive
    c.count_roles-n.result c.count_roles-n.ensures.0 T rest l (omega (arith, c.in_ok-enough.ensures.whole)))

pub returns-then-transitive-gt1 : goal.returns-then-transitive-gt1
returns-then-transitive-gt1 c = refused_edits _ c.args.st.now is.Role _ c.whole-then-transitive-gt1.ensures (omega (arith, c.in_ok-enough.ensures.whole)) (omega (arith, c.in_ok-enough.ensures.whole)) (λ T rest l. role_past c.args.st.now c.args.transitive
    c.count_roles-n.result c.count_roles-n.ensures.0 T rest l (omega (arith, c.in_ok-enough.ensures.whole)) (omega (arith, c.in_ok-enough.ensures.whole)))

pub shape_of-st : goal.shape_of-st
shape_of-st c = omega (arith, c.in_ok-enough.ensures.whole, length-set c.args.st.now 0 (c.count_roles-n.result + 1))

pub returns : goal.returns
returns c = let
    st = c.args.st.now in let n = c.count_roles-n.result in
    let laid-is = c.lay_role.ensures ∙ laid_fits (set st 0 (n + 1)) (roles_from + 3 * n) (c.args.transitive ∷ two 0)
    (omega (arith, c.in_ok-enough.ensures.whole, length-set st 0 (n + 1))) in
    done_edits _ st _ (omega (arith, c.in_ok-enough.ensures.whole)) (λ T rest l. rw laid-is (role_added st c.args.transitive n c.count_roles-n.ensures.0 T rest l
    (omega (arith, c.in_ok-enough.ensures.whole)) (omega (arith, c.in_ok-enough.ensures.whole)))) (rw laid-is (changed_beyond st 0 (n + 1) (roles_from + 3 * n) (c.args.transitive ∷ two 0) (omega (arith, c.in_ok-enough.ensures.whole))
    (omega (arith, c.in_ok-enough.ensures.whole)) (omega (arith, c.in_ok-enough.ensures.whole))))
