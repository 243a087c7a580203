-- Lists: membership, tests of all and of some members, the list of a function's first values, an element past the end.
use Rattle.std.specs.Prelude.{ℕ, zero, suc, ◌+◌, ◌≤◌, ◌<◌, ◌≡◌, refl, ◌↔◌, ◌⊎◌, Bool, true, false, ◌&&◌, ◌||◌, length, get_or}
use Rattle.std.proofs.Common.{sym, ◌∙◌, ap, ap₂, subst, inl, inr, arith}
use Rattle.std.proofs.lemmas.Bool.{false≢true}
use mathlib.Core.List.Memᴰ
use mathlib.Core.List.{List, [], ◌∷◌, ◌++◌, Memᴰ}
use Rattle.logic.specs.Tests.{So, so_and, and_l, and_r, or_l, or_r, or_cases, same_test}
use Rattle.logic.specs.Bounded.{below, below_cases, all_elim, all_intro, all_below}

infix 30 ◌∈◌
abbrev pub ◌∈◌ : {A : Type 0} → A → List A → Type 0
x ∈ xs = Memᴰ x xs

unfoldable pub each : {A : Type 0} → List A → (A → Bool) → Bool
each [] p = true
each (x ∷ xs) p = p x && each xs p

unfoldable pub some? : {A : Type 0} → List A → (A → Bool) → Bool
some? [] p = false
some? (x ∷ xs) p = p x || some? xs p

pub each↔ : {A : Type 0} (xs : List A) (p : A → Bool) → So (each xs p) ↔ ((x : A) → x ∈ xs → So (p x))
unfolding each
each↔ [] p = (λ h x m. elim m [ ], λ h. refl)
each↔ (y ∷ xs) p = (
  λ h x m. elim (Memᴰ.cases_cons m) [
    | inl e ↦ subst (λ z. So (p z)) (sym e) (and_l (p y) (each xs p) h)
    | inr t ↦ (each↔ xs p).0 (and_r (p y) (each xs p) h) x t
  ],
  λ h. so_and (p y) (each xs p) (h y (Memᴰ.head refl)) ((each↔ xs p).1 (λ x m. h x (Memᴰ.tail m))),
)

pub some↔ : {A : Type 0} (xs : List A) (p : A → Bool) → So (some? xs p) ↔ ((x : A) × (x ∈ xs) × So (p x))
unfolding some?
some↔ [] p = (λ h. absurd (false≢true h), λ w. elim w.1 [ ])
some↔ (y ∷ xs) p = (
  λ h. elim (or_cases (p y) (some? xs p) h) [
    | inl u ↦ (y, Memᴰ.head refl, u)
    | inr u ↦ let w = (some↔ xs p).0 u in (w.0, Memᴰ.tail w.1, w.2)
  ],
  λ w. elim (Memᴰ.cases_cons w.1) [
    | inl e ↦ or_l (p y) (some? xs p) (subst (λ z. So (p z)) e w.2)
    | inr t ↦ or_r (p y) (some? xs p) ((some↔ xs p).1 (w.0, t, w.2))
  ],
)

-- ---- f 0, …, f (n - 1) as a list
unfoldable pub tabulate : {A : Type 0} → ℕ → (ℕ → A) → List A
tabulate zero f = []
tabulate (suc n) f = f 0 ∷ tabulate n (λ i. f (suc i))

pub length_tabulate : {A : Type 0} (n : ℕ) (f : ℕ → A) → length (tabulate n f) ≡ n
unfolding tabulate
length_tabulate zero f = refl
length_tabulate (suc n) f = ap suc (length_tabulate n (λ i. f (suc i)))

pub at_tabulate : {A : Type 0} (n : ℕ) (f : ℕ → A) (d : A) (i : ℕ) → i < n → get_or (tabulate n f) i d ≡ f i
unfolding tabulate
at_tabulate zero f d i h = absurd (omega arith)
at_tabulate (suc n) f d zero h = refl
at_tabulate (suc n) f d (suc i) h = at_tabulate n (λ j. f (suc j)) d i (omega arith)

pub tabulate_cong : {A : Type 0} (n : ℕ) (f g : ℕ → A) → ((i : ℕ) → i < n → f i ≡ g i) → tabulate n f ≡ tabulate n g
unfolding tabulate
tabulate_cong zero f g h = refl
tabulate_cong (suc n) f g h = ap₂ ◌∷◌ (h 0 (omega arith)) (tabulate_cong n (λ i. f (suc i)) (λ i. g (suc i)) (λ i l. h (suc i) (omega arith)))

-- one value more
pub tabulate_snoc : {A : Type 0} (n : ℕ) (f : ℕ → A) → tabulate (suc n) f ≡ tabulate n f ++ (f n ∷ [])
unfolding tabulate
tabulate_snoc zero f = refl
tabulate_snoc (suc n) f = ap (λ xs. f 0 ∷ xs) (tabulate_snoc n (λ i. f (suc i)))

-- a test of all values is the test of each element
all_front : (n : ℕ) (p : ℕ → Bool) → all_below (suc n) p ≡ (p 0 && all_below n (λ i. p (suc i)))
all_front n p = same_test _ _
    (λ h. so_and (p 0) _ (all_elim (suc n) p h 0 (omega arith)) (all_intro n (λ i. p (suc i)) (λ i l. all_elim (suc n) p h (suc i) (omega arith))))
    (λ h. all_intro (suc n) p (λ i l. at i l (and_l (p 0) _ h) (all_elim n (λ i. p (suc i)) (and_r (p 0) _ h))))
  where
    at : (i : ℕ) → i < suc n → So (p 0) → ((i : ℕ) → i < n → So (p (suc i))) → So (p i)
    at zero l z f = z
    at (suc i) l z f = f i (omega arith)

pub each_tabulate : {A : Type 0} (n : ℕ) (f : ℕ → A) (p : A → Bool) → all_below n (λ i. p (f i)) ≡ each (tabulate n f) p
unfolding each tabulate all_below
each_tabulate zero f p = refl
each_tabulate (suc n) f p = all_front n (λ i. p (f i)) ∙ ap (λ b. p (f 0) && b) (each_tabulate n (λ i. f (suc i)) p)

-- ---- one element more
pub length_snoc : {A : Type 0} (xs : List A) (x : A) → length (xs ++ (x ∷ [])) ≡ suc (length xs)
length_snoc [] x = refl
length_snoc (y ∷ xs) x = ap suc (length_snoc xs x)

pub at_snoc_old : {A : Type 0} (xs : List A) (x d : A) (i : ℕ) → i < length xs → get_or (xs ++ (x ∷ [])) i d ≡ get_or xs i d
at_snoc_old [] x d i h = absurd (omega arith)
at_snoc_old (y ∷ xs) x d zero h = refl
at_snoc_old (y ∷ xs) x d (suc i) h = at_snoc_old xs x d i (omega arith)

pub at_snoc_new : {A : Type 0} (xs : List A) (x d : A) → get_or (xs ++ (x ∷ [])) (length xs) d ≡ x
at_snoc_new [] x d = refl
at_snoc_new (y ∷ xs) x d = at_snoc_new xs x d

-- an element at a place is a member
pub at_member : {A : Type 0} (xs : List A) (d : A) (i : ℕ) → i < length xs → get_or xs i d ∈ xs
at_member [] d i h = absurd (omega arith)
at_member (x ∷ xs) d zero h = Memᴰ.head refl
at_member (x ∷ xs) d (suc i) h = Memᴰ.tail (at_member xs d i (omega arith))

pub member_at : {A : Type 0} (xs : List A) (d x : A) → x ∈ xs → (i : ℕ) × (i < length xs) × (get_or xs i d ≡ x)
member_at [] d x m = elim m [ ]
member_at (y ∷ xs) d x m = elim (Memᴰ.cases_cons m) [
  | inl e ↦ (0, omega arith, sym e)
  | inr t ↦ let r = member_at xs d x t in (suc r.0, omega (arith, r.1), r.2)
]

pub ruleset listed = (below, each↔, some↔)
