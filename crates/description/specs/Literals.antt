-- Literals, and sets of literals (01, "The description"; FORMAT 2).
use Rattle.std.specs.Prelude.{ℕ, zero, suc, ◌+◌, ◌*◌, ◌/◌, ◌%◌, ◌<◌, ◌≡◌, refl, ◌↔◌, ◌⊎◌, Bool, cond, ◌||◌, List, [], ◌∷◌, eqb}
use Rattle.std.proofs.Common.{sym, ap, subst, inl, inr, arith}
use Rattle.std.proofs.Math.Decide.{dec_le}
use Rattle.logic.specs.Tests.{So, so_eqb, eqb_so, or_l, or_r, or_cases, same_test}
use Rattle.logic.specs.Sets.{has, narrow, within, with, set_of}
use Rattle.logic.specs.SetLaws.{no_member, narrow↔, within↔, with↔, set_of↔}

-- entry e, or its complement
pub data Literal : Type 0 where
  pos neg : ℕ → Literal

-- a literal's number: 2e is entry e, 2e + 1 its complement
abbrev pub code : Literal → ℕ
code (pos e) = 2 * e
code (neg e) = 2 * e + 1

unfoldable pub literal : ℕ → Literal
literal n = cond (eqb (n % 2) 0) (pos (n / 2)) (neg (n / 2))

abbrev pub opposite : Literal → Literal
opposite (pos e) = neg e
opposite (neg e) = pos e

abbrev pub entry_of : Literal → ℕ
entry_of (pos e) = e
entry_of (neg e) = e

abbrev pub same_literal : Literal → Literal → Bool
same_literal a b = eqb (code a) (code b)

-- a set of literals
abbrev pub Label : Type 0
Label = Literal → Bool

-- the set that a number stands for: bit l is literal l
unfoldable pub members : ℕ → Label
members n l = has n (code l)

-- the label N with the literal l put in, as a number
unfoldable pub adding : ℕ → Literal → ℕ
adding N l = with N (code l)

-- the set of the literals of a list, as a number
unfoldable pub literal_set : List Literal → ℕ
literal_set [] = 0
literal_set (l ∷ W) = adding (literal_set W) l

-- L with l put in
abbrev pub plus : Label → Literal → Label
plus L l m = L m || same_literal l m

abbrev pub Within : Label → Label → Type 0
Within L M = (l : Literal) → So (L l) → So (M l)

-- every literal is of an entry below n
abbrev pub InTable : ℕ → Label → Type 0
InTable n L = (l : Literal) → So (L l) → entry_of l < n

-- ---- laws
pub code_injective : (a b : Literal) → code a ≡ code b → a ≡ b
code_injective (pos a) (pos b) e = let z : a ≡ b = omega arith in ap pos z
code_injective (pos a) (neg b) e = absurd (omega arith)
code_injective (neg a) (pos b) e = absurd (omega arith)
code_injective (neg a) (neg b) e = let z : a ≡ b = omega arith in ap neg z

pub literal_code : (l : Literal) → literal (code l) ≡ l
unfolding literal
literal_code (pos e) = let p : 2 * e % 2 ≡ 0 = omega arith in let q : 2 * e / 2 ≡ e = omega arith in rw (p, q)
literal_code (neg e) = let p : (2 * e + 1) % 2 ≡ 1 = omega arith in let q : (2 * e + 1) / 2 ≡ e = omega arith in rw (p, q)

pub code_literal : (n : ℕ) → code (literal n) ≡ n
unfolding literal
code_literal n = elim (dec_le 1 (n % 2)) [
  | yes q ↦ (let z : n % 2 ≡ 1 = omega arith in rw z (omega arith))
  | no q ↦ (let z : n % 2 ≡ 0 = omega arith in rw z (omega arith))
]

pub opposite_opposite : (l : Literal) → opposite (opposite l) ≡ l
opposite_opposite (pos e) = refl
opposite_opposite (neg e) = refl

pub entry_of_opposite : (l : Literal) → entry_of (opposite l) ≡ entry_of l
entry_of_opposite (pos e) = refl
entry_of_opposite (neg e) = refl

pub code_entry : (l : Literal) (n : ℕ) → (code l < 2 * n) ↔ (entry_of l < n)
code_entry (pos e) n = (λ h. omega arith, λ h. omega arith)
code_entry (neg e) n = (λ h. omega arith, λ h. omega arith)

pub same_literal_lem : (a b : Literal) → So (same_literal a b) → a ≡ b
same_literal_lem a b e = code_injective a b (so_eqb (code a) (code b) e)

pub literal_same : (l : Literal) → So (same_literal l l)
literal_same l = eqb_so (code l)

pub same_literal↔ : (a b : Literal) → So (same_literal a b) ↔ (a ≡ b)
same_literal↔ a b = (same_literal_lem a b, λ e. subst (λ l. So (same_literal a l)) e (literal_same a))

pub plus↔ : (L : Label) (l m : Literal) → So (plus L l m) ↔ (So (L m) ⊎ (l ≡ m))
plus↔ L l m = (
  λ h. elim (or_cases (L m) (same_literal l m) h) [ inl u ↦ inl u | inr u ↦ inr (same_literal_lem l m u) ],
  λ h. elim h [ inl u ↦ or_l (L m) _ u | inr e ↦ or_r (L m) _ ((same_literal↔ l m).1 e) ],
)

-- ---- labels as numbers
-- a label lies in a table of n entries
pub in_table↔ : (N n : ℕ) → So (narrow N (2 * n)) ↔ InTable n (members N)
unfolding members
in_table↔ N n = (
  λ h l u. (code_entry l n).0 ((narrow↔ N (2 * n)).0 h (code l) u),
  λ h. (narrow↔ N (2 * n)).1 (λ i u. rw (code_literal i) at ((code_entry (literal i) n).1 (h (literal i) (rw (code_literal i) u)))),
)

pub within_members↔ : (M N : ℕ) → So (within M N) ↔ Within (members M) (members N)
unfolding members
within_members↔ M N = (
  λ h l u. (within↔ M N).0 h (code l) u,
  λ h. (within↔ M N).1 (λ i u. rw (code_literal i) at (h (literal i) (rw (code_literal i) u))),
)

pub no_literal : (l : Literal) → So (members 0 l) → ⊥
unfolding members
no_literal l h = no_member (code l) h

pub members_adding : (N : ℕ) (l m : Literal) → members (adding N l) m ≡ plus (members N) l m
unfolding members adding
members_adding N l m = same_test _ _
    (λ h. (plus↔ (λ m. has N (code m)) l m).1 (elim ((with↔ N (code l) (code m)).0 h) [ inl u ↦ inl u | inr e ↦ inr (code_injective l m (sym e)) ]))
    (λ h. (with↔ N (code l) (code m)).1 (elim ((plus↔ (λ m. has N (code m)) l m).0 h) [ inl u ↦ inl u | inr e ↦ inr (ap code (sym e)) ]))

pub adding↔ : (N : ℕ) (l m : Literal) → So (members (adding N l) m) ↔ (So (members N m) ⊎ (l ≡ m))
adding↔ N l m = rw (members_adding N l m) (plus↔ (members N) l m)

-- the number of a set of literals of n entries
unfoldable pub label_of : ℕ → Label → ℕ
label_of n L = set_of (2 * n) (λ i. L (literal i))

pub members_label_of : (n : ℕ) (L : Label) (l : Literal) → So (members (label_of n L) l) ↔ ((entry_of l < n) × So (L l))
unfolding members label_of
members_label_of n L l = (
  λ h. let w = (set_of↔ (2 * n) (λ i. L (literal i)) (code l)).0 h in ((code_entry l n).0 w.0, rw (literal_code l) at w.1),
  λ h. (set_of↔ (2 * n) (λ i. L (literal i)) (code l)).1 ((code_entry l n).1 h.0, rw (literal_code l) h.1),
)
