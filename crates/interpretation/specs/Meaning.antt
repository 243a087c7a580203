-- Finite interpretations, and what is true where: the semantics of SHQ (Figure 1 of document 001; 01, the opening).
use Prim.Native.Nat.{ℕ, zero, suc, ◌≤◌, ◌<◌}
use Rattle.std.specs.Prelude.{◌≡◌, refl, Bool, true, false, not, ◌&&◌, leb}
use Rattle.std.proofs.Common.{sym, ◌∙◌, ap₂, arith}
use Rattle.std.proofs.Math.Path.{ap, fun_ext}
use Rattle.logic.specs.Tests.{So, ◌⇒◌}
use Rattle.logic.specs.Bounded.{all_below}
use Rattle.logic.specs.Sums.{count_below}
use Rattle.description.specs.Literals.{Literal, pos, neg, opposite, entry_of}
use Rattle.description.specs.Descriptions.{Entry, top, name, both, every, at_least, Description}
use Rattle.description.specs.Acceptance.{EntryOk, Accepted}

-- a finite interpretation (01: a line; that it is finite is 01's): elements 0 to size - 1, the elements of each name, the pairs of each
-- role. That there is an element is asked of models
pub record Interpretation : Type 0 where
  pub size : ℕ
  pub name : ℕ → ℕ → Bool
  pub role : ℕ → ℕ → ℕ → Bool

-- a literal at x, given which entries are true where
abbrev pub literal_in : (ℕ → ℕ → Bool) → Literal → ℕ → Bool
literal_in v (pos e) x = v e x
literal_in v (neg e) x = not (v e x)

-- what entry e says of x, given which entries are true where
unfoldable pub meaning : Interpretation → (ℕ → ℕ → Bool) → ℕ → ℕ → Entry → Bool
meaning I v e x top = true
meaning I v e x name = I.name e x
meaning I v e x (both a b) = literal_in v a x && literal_in v b x
meaning I v e x (every r l) = all_below I.size (λ y. I.role r x y ⇒ literal_in v l y)
meaning I v e x (at_least r l n) = leb n (count_below I.size (λ y. I.role r x y && literal_in v l y))

-- entries use earlier entries alone, so fuel e + 1 is enough for entry e
unfoldable pub truth_with : Description → Interpretation → ℕ → ℕ → ℕ → Bool
truth_with D I zero e x = false
truth_with D I (suc fuel) e x = meaning I (truth_with D I fuel) e x (D.entry e)

-- entry e is true at x
unfoldable pub truth : Description → Interpretation → ℕ → ℕ → Bool
truth D I e x = truth_with D I (suc e) e x

-- literal l is true at x
abbrev pub holds : Description → Interpretation → Literal → ℕ → Bool
holds D I l x = literal_in (truth D I) l x

-- ---- the equation of truth
literal_in_cong : (v w : ℕ → ℕ → Bool) (l : Literal) (y : ℕ) → v (entry_of l) y ≡ w (entry_of l) y → literal_in v l y ≡ literal_in w l y
literal_in_cong v w (pos e) y h = h
literal_in_cong v w (neg e) y h = ap not h

-- only earlier entries bear on what an entry means
meaning_cong : (D : Description) (I : Interpretation) (v w : ℕ → ℕ → Bool) (e x : ℕ) (k : Entry) → EntryOk D e k
    → ((f y : ℕ) → f < e → v f y ≡ w f y) → meaning I v e x k ≡ meaning I w e x k
unfolding meaning
meaning_cong D I v w e x top ok h = refl
meaning_cong D I v w e x name ok h = refl
meaning_cong D I v w e x (both a b) ok h = ap₂ ◌&&◌ (literal_in_cong v w a x (h _ x ok.0)) (literal_in_cong v w b x (h _ x ok.1))
meaning_cong D I v w e x (every r l) ok h =
    ap (λ g. all_below I.size (λ y. I.role r x y ⇒ g y)) (fun_ext (λ y. literal_in_cong v w l y (h _ y ok.1)))
meaning_cong D I v w e x (at_least r l n) ok h =
    ap (λ g. leb n (count_below I.size (λ y. I.role r x y && g y))) (fun_ext (λ y. literal_in_cong v w l y (h _ y ok.0.1)))

module _ (D : Description) (A : Accepted D) (I : Interpretation) where
  fuel_enough : (f g e x : ℕ) → e < f → e < g → e < D.entries → truth_with D I f e x ≡ truth_with D I g e x
  unfolding truth_with
  fuel_enough zero g e x hf hg he = absurd (omega arith)
  fuel_enough (suc f) zero e x hf hg he = absurd (omega arith)
  fuel_enough (suc f) (suc g) e x hf hg he = meaning_cong D I (truth_with D I f) (truth_with D I g) e x (D.entry e) (A.fields e he)
      (λ i y h. fuel_enough f g i y (omega arith) (omega arith) (omega arith))

  -- each entry is true just where its meaning says so
  pub truth_eq : (e x : ℕ) (k : Entry) → e < D.entries → D.entry e ≡ k → truth D I e x ≡ meaning I (truth D I) e x k
  unfolding truth truth_with
  truth_eq e x k he q = meaning_cong D I (truth_with D I e) (truth D I) e x (D.entry e) (A.fields e he)
      (λ i y h. fuel_enough e (suc i) i y h (omega arith) (omega arith))
      ∙ ap (meaning I (truth D I) e x) q

pub holds_opposite : (D : Description) (I : Interpretation) (l : Literal) (x : ℕ) → holds D I (opposite l) x ≡ not (holds D I l x)
holds_opposite D I (pos e) x = refl
holds_opposite D I (neg e) x = twice (truth D I e x)
  where
    twice : (b : Bool) → b ≡ not (not b)
    twice true = refl
    twice false = refl
