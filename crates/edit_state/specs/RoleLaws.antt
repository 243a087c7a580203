-- A role, put in: its three bytes behind the others.
use Rattle.std.specs.Prelude.{ℕ, ◌+◌, ◌*◌, ◌≤◌, ◌<◌, ◌≡◌, List, [], ◌∷◌, ◌++◌, set, drop}
use Rattle.std.proofs.Math.Path.{refl, ap₂}
use Rattle.std.proofs.Common.{sym, ◌∙◌, ap, arith, length-set, drop-set-lt}
use Rattle.std.proofs.Math.Option.{none, some}
use borrow.Author.Tests.{lt-ltb, le-ltb, lt-leb, le-leb}
use Rattle.std.proofs.Math.ListN.{length}
use Rattle.logic.specs.Lists.{length_snoc}
use Rattle.laying.specs.Numbers.{two}
use Rattle.laying.specs.Laying.{laid}
use Rattle.editing.specs.Editing.{RoleIn, lone_role, Draft, is_set, new_role, put_in, refusal}
use Rattle.editing.proofs.Answers.{role_answers}
use Rattle.edit_bytes.specs.Out.{role_bytes, roles_out, concepts_out, query_out}
use Rattle.edit_bytes.proofs.OutLaws.{roles_long}
use Rattle.edit_state.specs.Lent.{roles_room, concepts_room, query_room, roles_from, state_bytes, filled, flag, in_bytes, draft_bytes}
use Rattle.edit_state.specs.Lent.{Lends, roles_in}
use Rattle.edit_state.specs.FillLaws.{filled_on, bytes_snoc}
use Rattle.edit_state.specs.PlaceLaws.{laid_beyond, roles_count, roles_laid}

-- behind the state's bytes nothing changes, of a number set and bytes laid before
pub changed_beyond : (old : List ℕ) (i a at : ℕ) (w : List ℕ) → i < state_bytes → at + length w ≤ state_bytes → state_bytes ≤ length old
    → drop state_bytes (laid (set old i a) at w) ≡ drop state_bytes old
changed_beyond old i a at w h k l = laid_beyond (set old i a) at w k (omega (arith, length-set old i a)) ∙ drop-set-lt state_bytes old i a h

-- one role more
new_role_lem : (T : Draft) (b : ℕ) → length T.roles < 16
    → laid (filled roles_room (roles_out T)) (3 * length T.roles) (b ∷ two 0) ≡ filled roles_room (roles_out (put_in T (new_role b)))
unfolding roles_out
new_role_lem T b k = filled_on roles_room (roles_out T) (b ∷ two 0) (3 * length T.roles) (sym (roles_long T)) (omega (arith, roles_long T))
    ∙ ap (filled roles_room) (sym (bytes_snoc 3 role_bytes (λ R. refl) T.roles (lone_role b)))

module _ (old : List ℕ) (b n : ℕ) (e : n ≡ roles_in old) (T : Draft) (rest : List ℕ) (l : Lends old T rest) where
  counted : n ≡ length T.roles
  counted = e ∙ roles_count old T rest l

  pub role_full : 16 ≤ n → refusal T (new_role b) ≡ some 25
  role_full k = role_answers T l.made b ∙ rw (le-ltb (length T.roles) 16 (omega (arith, counted))) refl

  pub role_past : n < 16 → 1 < b → refusal T (new_role b) ≡ some 3
  role_past k u = role_answers T l.made b ∙ rw (lt-ltb (length T.roles) 16 (omega (arith, counted)), lt-leb b 1 u) refl

  pub role_added : n < 16 → b ≤ 1 → (refusal T (new_role b) ≡ none)
      × (laid (set old 0 (n + 1)) (roles_from + 3 * n) (b ∷ two 0) ≡ draft_bytes (put_in T (new_role b)) ++ rest)
  unfolding draft_bytes concepts_out
  role_added k u = (
    role_answers T l.made b ∙ rw (lt-ltb (length T.roles) 16 (omega (arith, counted)), le-leb b 1 u) refl,
    ap₂ (λ o n. laid (set o 0 (n + 1)) (roles_from + 3 * n) (b ∷ two 0)) l.same counted
        ∙ roles_laid T l.made (length T.roles + 1) (length T.entries) (flag (is_set T.root)) (length T.rules) rest
        (3 * length T.roles) (b ∷ two 0) (omega (arith, counted))
        ∙ ap₂ (λ n rs. in_bytes n (length T.entries) (flag (is_set T.root)) (length T.rules) rs (filled concepts_room (concepts_out T))
        (filled query_room (query_out T)) ++ rest)
        (let z : length T.roles + 1 ≡ length (T.roles ++ (new ∷ [])) = omega (arith, length_snoc T.roles new) in z)
        (new_role_lem T b (omega (arith, counted))),
  )
    where
      new : RoleIn
      new = lone_role b
