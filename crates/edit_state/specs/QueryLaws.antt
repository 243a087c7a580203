-- The root and the rules, put in.
use Rattle.std.specs.Prelude.{ℕ, ◌+◌, ◌*◌, ◌≤◌, ◌<◌, ◌≡◌, true, false, List, [], ◌∷◌, ◌++◌, ltb, set, drop}
use Rattle.std.proofs.Math.Path.{refl, sym, ap, ap₂}
use Rattle.std.proofs.Common.{◌∙◌, lt-ltb, le-ltb, length-set, drop-set-lt}
use Rattle.std.proofs.Math.Option.{none, some}
use native.Mathlib.Omega.{arith}
use Rattle.std.proofs.Math.ListN.{length}
use Rattle.logic.specs.Lists.{length_snoc}
use Rattle.laying.specs.Laying.{laid, laid_one}
use Rattle.description.specs.Literals.{literal}
use Rattle.description.specs.Acceptance.{literal_test}
use Rattle.intake.specs.Steps.{literal_is}
use Rattle.editing.specs.Editing.{Draft, is_set, describes, new_root, new_rule, put_in, refusal}
use Rattle.editing.proofs.Answers.{root_answers, rule_answers}
use Rattle.edit_bytes.specs.Out.{roles_out, concepts_out, query_out}
use Rattle.edit_state.specs.Lent.{roles_room, concepts_room, query_room, query_from, rules_from, state_bytes, filled, flag, in_bytes}
use Rattle.edit_state.specs.Lent.{draft_bytes, Lends, entries_in, rules_in}
use Rattle.edit_state.specs.FillLaws.{filled_on}
use Rattle.edit_state.specs.PlaceLaws.{enough, entries_count, rules_count, query_fit, query_laid}

-- behind the state's bytes nothing changes, of two numbers set before
pub sets_beyond : (old : List ℕ) (i a j b : ℕ) → i < state_bytes → j < state_bytes → drop state_bytes (set (set old i a) j b)
    ≡ drop state_bytes old
sets_beyond old i a j b h k = drop-set-lt state_bytes (set old i a) j b k ∙ drop-set-lt state_bytes old i a h

module _ (old : List ℕ) (l n : ℕ) (e : n ≡ entries_in old) (T : Draft) (rest : List ℕ) (w : Lends old T rest) where
  counted : n ≡ length T.entries
  counted = e ∙ entries_count old T rest w

  literal_test_lem : literal_test (describes T) (literal l) ≡ ltb l (2 * n)
  literal_test_lem = sym (literal_is l (length T.entries)) ∙ ap (λ n. ltb l (2 * n)) (sym counted)

  -- one byte of the query, whatever the four numbers are
  byte_put : (a b c d : ℕ) (at : ℕ) → at < query_room
      → laid (in_bytes a b c d (filled roles_room (roles_out T)) (filled concepts_room (concepts_out T)) (filled query_room
      (query_out T)) ++ rest) (query_from + at) (l ∷ [])
      ≡ in_bytes a b c d (filled roles_room (roles_out T)) (filled concepts_room (concepts_out T)) (laid (filled query_room (query_out T)) at
      (l ∷ [])) ++ rest
  byte_put a b c d at h = query_laid T w.made a b c d rest at (l ∷ []) (omega arith)

  set_laid : (i a at : ℕ) → at < state_bytes → set (set old i a) at l ≡ laid (set old i a) at (l ∷ [])
  set_laid i a at h = laid_one (set old i a) at l (omega (arith, length-set old i a, enough old T rest w))

  -- ---- the root
  pub root_past : ltb l (2 * n) ≡ false → refusal T (new_root l) ≡ some 8
  root_past k = root_answers T w.made l ∙ rw (literal_test_lem ∙ k) refl

  root_laid : laid (filled query_room (query_out T)) 0 (l ∷ []) ≡ filled query_room (query_out (put_in T (new_root l)))
  unfolding filled
  root_laid = sym (laid_one (filled query_room (query_out T)) 0 l (omega (arith, query_fit T w.made)))

  pub root_put : ltb l (2 * n) ≡ true → (refusal T (new_root l) ≡ none)
      × (set (set old 2 1) query_from l ≡ draft_bytes (put_in T (new_root l)) ++ rest)
  unfolding draft_bytes roles_out concepts_out
  root_put k = (
    root_answers T w.made l ∙ rw (literal_test_lem ∙ k) refl,
    set_laid 2 1 query_from (omega arith) ∙ ap (λ o. laid (set o 2 1) query_from (l ∷ [])) w.same
        ∙ byte_put (length T.roles) (length T.entries) 1 (length T.rules) 0 (omega arith)
        ∙ ap (λ qs. in_bytes (length T.roles) (length T.entries) 1 (length T.rules) (filled roles_room (roles_out T))
        (filled concepts_room (concepts_out T)) qs ++ rest) root_laid,
  )

  -- ---- a rule
  module _ (k : ℕ) (f : k ≡ rules_in old) where
    ruled : k ≡ length T.rules
    ruled = f ∙ rules_count old T rest w

    pub rule_full : 16 ≤ k → refusal T (new_rule l) ≡ some 25
    rule_full h = rule_answers T w.made l ∙ rw (le-ltb (length T.rules) 16 (omega (arith, ruled))) refl

    pub rule_past : k < 16 → ltb l (2 * n) ≡ false → refusal T (new_rule l) ≡ some 8
    rule_past h u = rule_answers T w.made l ∙ rw (lt-ltb (length T.rules) 16 (omega (arith, ruled)), literal_test_lem ∙ u) refl

    pub rule_added : k < 16 → ltb l (2 * n) ≡ true → (refusal T (new_rule l) ≡ none)
        × (set (set old 3 (k + 1)) (rules_from + k) l ≡ draft_bytes (put_in T (new_rule l)) ++ rest)
    unfolding draft_bytes roles_out concepts_out
    rule_added h u = (
      rule_answers T w.made l ∙ rw (lt-ltb (length T.rules) 16 (omega (arith, ruled)), literal_test_lem ∙ u) refl,
      set_laid 3 (k + 1) (rules_from + k) (omega arith)
          ∙ ap₂ (λ o i. laid (set o 3 (k + 1)) i (l ∷ [])) w.same (let z : rules_from + k ≡ query_from + (1 + k) = omega arith in z)
          ∙ byte_put (length T.roles) (length T.entries) (flag (is_set T.root)) (k + 1) (1 + k) (omega arith)
          ∙ ap₂ (λ i qs. in_bytes (length T.roles) (length T.entries) (flag (is_set T.root)) i (filled roles_room (roles_out T))
          (filled concepts_room (concepts_out T)) qs ++ rest)
          (let z : k + 1 ≡ length (T.rules ++ (l ∷ [])) = omega (arith, length_snoc T.rules l, ruled) in z)
          (filled_on query_room (query_out T) (l ∷ []) (1 + k) (omega (arith, ruled)) (omega (arith, ruled))),
    )
