-- Tests (values of Bool) as statements: `So b` says that the test b passes. Each `…↔` law turns a composed test into the
-- statement that it tests; `simp reading` applies them all, which gives most tests of this repository their iff.
use Rattle.std.specs.Prelude.{ℕ, zero, suc, ◌≤◌, ◌<◌, ◌≡◌, refl, ◌↔◌, ◌⊎◌, Bool, true, false, not, ◌&&◌, ◌||◌, T, eqb, leb, ltb}
use Rattle.std.proofs.Common.{sym, ◌∙◌, subst, inl, inr, eqb→eq, leb→le, le→leb}
use Rattle.std.proofs.lemmas.Bool.{false≢true}
use Rattle.std.proofs.Math.Dec.{eqb_refl}

abbrev pub So : Bool → Type 0
So b = b ≡ true

-- if the first passes, so does the second
infixr 25 ◌⇒◌
abbrev pub ◌⇒◌ : Bool → Bool → Bool
true ⇒ b = b
false ⇒ b = true

pub T→So : (b : Bool) → T b → So b
T→So true t = refl
T→So false t = absurd t

pub So→T : (b : Bool) → So b → T b
So→T b e = subst T (sym e) tt

pub decide : (a : Bool) → So a ⊎ (So a → ⊥)
decide true = inl refl
decide false = inr false≢true

-- ---- both, one of two, not, if
pub so_and : (a b : Bool) → So a → So b → So (a && b)
so_and true b p q = q
so_and false b p q = p

pub and_l : (a b : Bool) → So (a && b) → So a
and_l true b e = refl
and_l false b e = e

pub and_r : (a b : Bool) → So (a && b) → So b
and_r true b e = e
and_r false b e = absurd (false≢true e)

pub or_l : (a b : Bool) → So a → So (a || b)
or_l true b e = refl
or_l false b e = absurd (false≢true e)

pub or_r : (a b : Bool) → So b → So (a || b)
or_r true b e = refl
or_r false b e = e

pub or_cases : (a b : Bool) → So (a || b) → So a ⊎ So b
or_cases true b e = inl refl
or_cases false b e = inr e

pub not_so : (a : Bool) → So (not a) → So a → ⊥
not_so true e p = false≢true e
not_so false e p = false≢true p

pub so_not : (a : Bool) → (So a → ⊥) → So (not a)
so_not true h = absurd (h refl)
so_not false h = refl

pub so_false : (a : Bool) → (So a → ⊥) → a ≡ false
so_false true h = absurd (h refl)
so_false false h = refl

pub imp_in : (a b : Bool) → (So a → So b) → So (a ⇒ b)
imp_in true b f = f refl
imp_in false b f = refl

pub imp_out : (a b : Bool) → So (a ⇒ b) → So a → So b
imp_out true b h p = h
imp_out false b h p = absurd (false≢true p)

pub not_not : (b : Bool) → not (not b) ≡ b
not_not true = refl
not_not false = refl

pub not_and : (a b : Bool) → not (a && b) ≡ (a ⇒ not b)
not_and true b = refl
not_and false b = refl

-- "if a and b then x", the premises tested together
pub premises_hold : (a b x : Bool) → (a && b) ≡ true → x ≡ (a ⇒ (b ⇒ x))
premises_hold true true x h = refl
premises_hold true false x h = absurd (false≢true h)
premises_hold false b x h = absurd (false≢true h)

pub premise_fails : (a b x : Bool) → (a && b) ≡ false → true ≡ (a ⇒ (b ⇒ x))
premise_fails true true x h = absurd (false≢true (sym h))
premise_fails true false x h = refl
premise_fails false b x h = refl

-- two tests that pass in the same cases are one
pub same_test : (a b : Bool) → (So a → So b) → (So b → So a) → a ≡ b
same_test true b h k = sym (h refl)
same_test false b h k = sym (so_false b (λ u. false≢true (k u)))

-- ---- numbers
pub so_eqb : (m n : ℕ) → So (eqb m n) → m ≡ n
so_eqb m n e = eqb→eq m n (So→T _ e)

pub eqb_so : (n : ℕ) → So (eqb n n)
eqb_so n = T→So _ (eqb_refl n)

pub so_leb : (m n : ℕ) → So (leb m n) → m ≤ n
so_leb m n e = leb→le m n (So→T _ e)

pub leb_so : (m n : ℕ) → m ≤ n → So (leb m n)
leb_so m n h = T→So _ (le→leb m n h)

pub so_ltb : (m n : ℕ) → So (ltb m n) → m < n
so_ltb m n e = so_leb (suc m) n e

pub ltb_so : (m n : ℕ) → m < n → So (ltb m n)
ltb_so m n h = leb_so (suc m) n h

-- ---- a test is the statement
pub and↔ : (a b : Bool) → So (a && b) ↔ (So a × So b)
and↔ a b = (λ h. (and_l a b h, and_r a b h), λ h. so_and a b h.0 h.1)

pub or↔ : (a b : Bool) → So (a || b) ↔ (So a ⊎ So b)
or↔ a b = (or_cases a b, λ h. elim h [ inl p ↦ or_l a b p | inr p ↦ or_r a b p ])

pub not↔ : (a : Bool) → So (not a) ↔ (So a → ⊥)
not↔ a = (not_so a, so_not a)

pub imp↔ : (a b : Bool) → So (a ⇒ b) ↔ (So a → So b)
imp↔ a b = (imp_out a b, imp_in a b)

pub eqb↔ : (m n : ℕ) → So (eqb m n) ↔ (m ≡ n)
eqb↔ m n = (so_eqb m n, λ e. subst (λ k. So (eqb m k)) e (eqb_so m))

pub leb↔ : (m n : ℕ) → So (leb m n) ↔ (m ≤ n)
leb↔ m n = (so_leb m n, leb_so m n)

pub ltb↔ : (m n : ℕ) → So (ltb m n) ↔ (m < n)
ltb↔ m n = (so_ltb m n, ltb_so m n)

pub ruleset reading = (and↔, or↔, not↔, imp↔, eqb↔, leb↔, ltb↔)
