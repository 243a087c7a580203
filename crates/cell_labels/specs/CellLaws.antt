-- Laws for the code of rule 18: labels that grow in loops, sets in words, and what is read of entries.
use Rattle.std.specs.Prelude.{ℕ, ◌+◌, ◌*◌, ◌^◌, ◌≤◌, ◌<◌, ◌≡◌, refl, ◌↔◌, Bool, true, false, cond, not, ◌&&◌, ◌||◌, List, ltb}
use Rattle.std.proofs.Common.{sym, ◌∙◌, subst, arith, add-one, lt-ltb, le-ltb}
use Rattle.std.proofs.Math.Path.{ap}
use Rattle.std.proofs.Math.Logic.{inl, inr}
use Rattle.std.proofs.Math.Bool.{or-false, or_assoc}
use Rattle.std.proofs.lemmas.Bool.{false≢true}
use Rattle.std.proofs.Math.Decide.{dec_lt}
use Rattle.std.specs.Int.Bits.{bit_and, bit_or}
use Rattle.std.proofs.Math.Dec.{eqb}
use Rattle.logic.specs.Tests.{So, so_and, and_l, and_r, or_l, or_r, or_cases}
use Rattle.logic.specs.Tests.{so_eqb, so_ltb, ltb_so, eqb↔, so_not, not_so, same_test}
use Rattle.logic.specs.Bounded.{any_below, any_elim, any_intro}
use Rattle.logic.specs.Sets.{has, with, set_of}
use Rattle.logic.specs.SetLaws.{has_lt, no_member, has_none, some_member, with↔, and_members, has_or, set_ext, set_of↔}
use Rattle.labels.specs.Labels.{label_with}
use Rattle.description.specs.Literals.{Literal, code}
use Rattle.description.specs.Descriptions.{Entry, top, name, both, every, at_least, entry_of_fields}
use Rattle.tables.specs.Tables.{fields_at}
use Rattle.tables.specs.Concepts.{concept_of, concept_at}
use Rattle.tables.specs.declared.Concept.{Concept}
use Rattle.tables.specs.declared.Concept.TheVariants.{Top, Name, Both, Every, AtLeast}
use Rattle.cell_labels.specs.CellShows.{room, is_every, passes, entry_in, in_room, Puts}

-- ---- labels that grow
-- what is put in in two steps
two_steps : (a b x y : Bool) → ((a || (b && x)) || (b && y)) ≡ (a || (b && (x || y)))
two_steps a true x y = or_assoc a x y
two_steps a false x y = or-false (a || false)

pub puts_nothing : (N : ℕ) → Puts N N (λ l. false)
puts_nothing N l = go (has N l) (in_room l)
  where
    go : (a b : Bool) → a ≡ (a || (b && false))
    go true b = refl
    go false true = refl
    go false false = refl

-- for a loop: what has been put in after the first i
pub puts_none : (N : ℕ) (p : ℕ → ℕ → Bool) → Puts N N (λ l. any_below 0 (λ j. p j l))
unfolding any_below
puts_none N p = puts_nothing N

module _ (N M i : ℕ) (p : ℕ → ℕ → Bool) (f : Puts N M (λ l. any_below i (λ j. p j l))) where
  pub puts_more : (K : ℕ) → Puts M K (p i) → Puts N K (λ l. any_below (i + 1) (λ j. p j l))
  unfolding any_below
  puts_more K g l = rw (add-one i) (g l ∙ ap (λ b. b || (in_room l && p i l)) (f l)
      ∙ two_steps (has N l) (in_room l) (any_below i (λ j. p j l)) (p i l))

  pub puts_done : (n : ℕ) → i ≤ n → n ≤ i → Puts N M (λ l. any_below n (λ j. p j l))
  puts_done n h k = let e : i ≡ n = omega arith in subst (λ n. Puts N M (λ l. any_below n (λ j. p j l))) e f

-- ---- sets in words
-- two masks have a role in common
pub meet_is : (x y : ℕ) → x < 2 ^ 16 → not (eqb (bit_and x y) 0) ≡ any_below 16 (λ t. has x t && has y t)
meet_is x y h = same_test _ _
    (λ u. let w = some_member (bit_and x y) (some u) in let v = (and_members x y w.0).0 w.1 in
    any_intro 16 (λ t. has x t && has y t) w.0 (has_lt 16 x w.0 h v.0) (so_and (has x w.0) _ v.0 v.1))
    (λ u. let w = any_elim 16 (λ t. has x t && has y t) u in so_not (eqb (bit_and x y) 0) (λ e. no_member w.0
    (subst (λ n. So (has n w.0)) (so_eqb (bit_and x y) 0 e)
    ((and_members x y w.0).1 (and_l (has x w.0) _ w.2, and_r (has x w.0) _ w.2)))))
  where
    some : So (not (eqb (bit_and x y) 0)) → 1 ≤ bit_and x y
    some u = elim (dec_lt 0 (bit_and x y)) [
      | yes q ↦ omega arith
      | no q ↦ absurd (let z : bit_and x y ≡ 0 = omega arith in not_so (eqb (bit_and x y) 0) u ((eqb↔ (bit_and x y) 0).1 z))
    ]

-- what is in one of two labels, the other put into the first
pub join_puts : (x y M : ℕ) → y < 2 ^ room → M ≡ bit_or x y → Puts x M (has y)
join_puts x y M few e l = ap (λ n. has n l) e ∙ has_or x y l
    ∙ ap (λ t. has x l || t) (same_test _ _ (λ u. so_and (ltb l room) _ (ltb_so l room (has_lt room y l few u)) u) (and_r (ltb l room) _))

module _ (x y : ℕ) where
  pub add_on : (M : ℕ) (b : Bool) → b ≡ true → y < 2 ^ room → M ≡ bit_or x y → Puts x M (λ l. b && has y l)
  add_on M b e few q = rw e (join_puts x y M few q)

  pub add_off : (b : Bool) → b ≡ false → Puts x x (λ l. b && has y l)
  add_off b e = rw e (puts_nothing x)

-- ---- a literal put in
module _ (N l : ℕ) where
  pub put_on : (M : ℕ) (b : Bool) → b ≡ true → M ≡ label_with N l → Puts N M (λ m. b && eqb l m)
  unfolding label_with
  put_on M b e q m = ap (λ n. has n m) q ∙ rw e (go (dec_lt l room))
    where
      in_room_lem : l < room → So (has (with N l) m) → So (has N m || (ltb m room && eqb l m))
      in_room_lem h u = elim ((with↔ N l m).0 u) [
        | inl v ↦ or_l (has N m) _ v
        | inr v ↦ or_r (has N m) _ (so_and (ltb m room) (eqb l m) (ltb_so m room (omega arith)) ((eqb↔ l m).1 (sym v)))
      ]

      put_in : So (has N m || (ltb m room && eqb l m)) → So (has (with N l) m)
      put_in u = (with↔ N l m).1 (elim (or_cases (has N m) _ u) [ inl v ↦ inl v | inr v ↦ inr (sym (so_eqb l m (and_r (ltb m room) _ v))) ])

      past : (l < room → ⊥) → So (has N m || (ltb m room && eqb l m)) → So (has N m)
      past h u = elim (or_cases (has N m) _ u) [
        | inl v ↦ v
        | inr v ↦ absurd (let z = so_eqb l m (and_r (ltb m room) _ v) in let w = so_ltb m room (and_l (ltb m room) _ v) in h (omega arith))
      ]

      go : Dec (l < room) → has (cond (ltb l room) (with N l) N) m ≡ (has N m || (ltb m room && eqb l m))
      go (yes h) = rw (lt-ltb l room h) (same_test _ _ (in_room_lem h) put_in)
      go (no h) = let z : room ≤ l = omega arith in rw (le-ltb l room z) (same_test _ _ (or_l (has N m) _) (past h))

  pub put_off : (b : Bool) → b ≡ false → Puts N N (λ m. b && eqb l m)
  put_off b e = rw e (puts_nothing N)

  pub puts_one : (M : ℕ) → M ≡ label_with N l → Puts N M (eqb l)
  puts_one M e = put_on M true refl e

-- the label of the literal q alone, and a label that begins with it
pub one_in : (T q l : ℕ) → T ≡ label_with 0 q → has T l ≡ (ltb l room && eqb q l)
one_in T q l e = put_on 0 q T true refl e l ∙ ap (λ b. b || (ltb l room && eqb q l)) (has_none l)

pub put_set : (T Q q : ℕ) (p : ℕ → Bool) → T ≡ label_with 0 q → Puts T Q p → Q ≡ set_of room (λ l. eqb q l || p l)
put_set T Q q p e h = set_ext Q (set_of room r)
    (λ l u. let v = sym (told l) ∙ u in (set_of↔ room r l).1 (so_ltb l room (and_l (ltb l room) (r l) v), and_r (ltb l room) (r l) v))
    (λ l u. let w = (set_of↔ room r l).0 u in told l ∙ so_and (ltb l room) (r l) (ltb_so l room w.0) w.1)
  where
    r : ℕ → Bool
    r l = eqb q l || p l

    told : (l : ℕ) → has Q l ≡ (ltb l room && r l)
    told l = h l ∙ ap (λ b. b || (ltb l room && p l)) (one_in T q l e) ∙ two_steps false (ltb l room) (eqb q l) (p l)

-- ---- what an entry shows
-- a test that only an "every" can pass
pub is_every↔ : (f : ℕ → Literal → Bool) (x : Entry) → So (is_every f x) ↔ ((r : ℕ) × (l : Literal) × (x ≡ every r l) × So (f r l))
unfolding is_every
is_every↔ f x = (
  elim x as (λ y. So (is_every f y) → (r : ℕ) × (l : Literal) × (y ≡ every r l) × So (f r l)) [
    | top ↦ λ h. absurd (false≢true h)
    | name ↦ λ h. absurd (false≢true h)
    | both a b ↦ λ h. absurd (false≢true h)
    | every r l ↦ λ h. (r, l, refl, h)
    | at_least r l n ↦ λ h. absurd (false≢true h)
  ],
  λ w. subst (λ y. So (is_every f y)) (sym w.2) w.3,
)

-- a test of "every", on the concept that the code has read
abbrev pub every_of : (ℕ → ℕ → Bool) → Concept → Bool
every_of f Top = false
every_of f Name = false
every_of f (Both a b) = false
every_of f (Every r l) = f r.0 l
every_of f (AtLeast m) = false

every_of_lem : (f : ℕ → ℕ → Bool) (x : Entry) → every_of f (concept_of x) ≡ is_every (λ t q. f t (code q)) x
unfolding concept_of is_every
every_of_lem f top = refl
every_of_lem f name = refl
every_of_lem f (both a b) = refl
every_of_lem f (every r l) = refl
every_of_lem f (at_least r l n) = refl

-- the concept read is x, which is v
module _ (cs : List ℕ) (f : ℕ) (x v : Concept) (p : x ≡ concept_at cs f) (q : x ≡ v) where
  pub every_read : (t : ℕ → ℕ → Bool) → every_of t v ≡ is_every (λ r l. t r (code l)) (entry_of_fields (fields_at cs f))
  every_read t = ap (every_of t) (sym q ∙ p) ∙ every_of_lem t (entry_of_fields (fields_at cs f))

-- it is put into none, where b and d tell that it is held and carried on
pub passed_from : (T M K X f q : ℕ) (b d on : Bool) → T ≡ 0 → b ≡ entry_in X f → d ≡ on → Puts T M (λ l. b && eqb q l)
    → Puts M K (λ l. d && eqb (2 * f) l)
    → Puts 0 K (passes X on true f q)
passed_from T M K X f q b d on e p g h k l = k l ∙ ap (λ z. z || (ltb l room && (d && eqb (2 * f) l))) (h l)
    ∙ two_steps (has T l) (ltb l room) (b && eqb q l) (d && eqb (2 * f) l) ∙ rw (e, p, g) refl
