-- Interpretations that agree on their elements, on the names and on the roles of a description are models of it alike.
use Rattle.std.specs.Prelude.{ℕ, zero, suc, ◌<◌, ◌≡◌, not, List, leb}
use Rattle.std.proofs.Math.Path.{refl, ap, ap₂}
use Rattle.std.proofs.Common.{sym, ◌∙◌, arith}
use Rattle.std.proofs.Math.Bool.{◌&&◌}
use Rattle.logic.specs.Tests.{◌⇒◌}
use Rattle.logic.specs.Bounded.{all_below, all_cong}
use Rattle.logic.specs.Lists.{◌∈◌}
use Rattle.logic.specs.Sums.{only, count_below, sum_cong}
use Rattle.description.specs.Literals.{Literal, pos, neg, entry_of}
use Rattle.description.specs.Descriptions.{Entry, top, name, both, every, at_least, Description}
use Rattle.description.specs.Acceptance.{EntryOk, Accepted}
use Rattle.interpretation.specs.Meaning.{Interpretation, meaning, truth, truth_eq, holds}
use Rattle.interpretation.specs.Models.{Model, Satisfies}

pub record Alike (D : Description) (I J : Interpretation) : Type 0 where
  pub size : I.size ≡ J.size
  pub names : (e : ℕ) → e < D.entries → D.entry e ≡ name → (x : ℕ) → x < I.size → I.name e x ≡ J.name e x
  pub roles : (r : ℕ) → r < D.roles → (x y : ℕ) → x < I.size → y < I.size → I.role r x y ≡ J.role r x y

module _ (D : Description) (A : Accepted D) (I J : Interpretation) (same : Alike D I J) where
  -- entries below e are true at the same elements
  abbrev Below : ℕ → Type 0
  Below e = (f x : ℕ) → f < e → x < I.size → truth D I f x ≡ truth D J f x

  literal_alike : (e : ℕ) → Below e → (l : Literal) (x : ℕ) → entry_of l < e → x < I.size → holds D I l x ≡ holds D J l x
  literal_alike e b (pos f) x h k = b f x h k
  literal_alike e b (neg f) x h k = ap not (b f x h k)

  meaning_alike : (e x : ℕ) (k : Entry) → e < D.entries → D.entry e ≡ k → Below e → x < I.size → EntryOk D e k
      → meaning I (truth D I) e x k ≡ meaning J (truth D J) e x k
  unfolding meaning
  meaning_alike e x top he q b hx o = refl
  meaning_alike e x name he q b hx o = same.names e he q x hx
  meaning_alike e x (both l m) he q b hx o = ap₂ ◌&&◌ (literal_alike e b l x o.0 hx) (literal_alike e b m x o.1 hx)
  meaning_alike e x (every r l) he q b hx o =
      all_cong I.size _ _ (λ y hy. ap₂ ◌⇒◌ (same.roles r o.0 x y hx hy) (literal_alike e b l y o.1 hy))
      ∙ ap (λ n. all_below n (λ y. J.role r x y ⇒ holds D J l y)) same.size
  meaning_alike e x (at_least r l n) he q b hx o = ap (leb n)
      (sum_cong I.size _ _ (λ y hy. ap₂ (λ p q. only (p && q) 1) (same.roles r o.0.0 x y hx hy) (literal_alike e b l y o.0.1 hy))
      ∙ ap (λ m. count_below m (λ y. J.role r x y && holds D J l y)) same.size)

  below_alike : (n : ℕ) (f x : ℕ) → f < n → f < D.entries → x < I.size → truth D I f x ≡ truth D J f x
  below_alike zero f x h he hx = absurd (omega arith)
  below_alike (suc n) f x h he hx = truth_eq D A I f x (D.entry f) he refl
      ∙ meaning_alike f x (D.entry f) he refl (λ g y k hy. below_alike n g y (omega arith) (omega arith) hy) hx (A.fields f he)
      ∙ sym (truth_eq D A J f x (D.entry f) he refl)

  holds_alike : (l : Literal) (x : ℕ) → entry_of l < D.entries → x < I.size → holds D I l x ≡ holds D J l x
  holds_alike l x h hx = literal_alike D.entries (λ f y k hy. below_alike D.entries f y k k hy) l x h hx

  pub model_alike : Model D I → Model D J
  model_alike M = record {
    nonempty = rw same.size at M.nonempty;
    inclusion = λ r hr s hs p x hx y hy q. sym (role s hs x y hx hy) ∙ M.inclusion r hr s hs p x (here x hx) y (here y hy) (role r hr x y hx hy ∙ q);
    transitivity = λ t ht c x hx y hy p z hz q. sym (role t ht x z hx hz)
        ∙ M.transitivity t ht c x (here x hx) y (here y hy) (role t ht x y hx hy ∙ p) z (here z hz) (role t ht y z hy hz ∙ q);
    disjointness = λ x hx y hy i hi p q. let o = (A.disjoints_ok i hi).0 in
        M.disjointness x (here x hx) y (here y hy) i hi (role _ o.0 x y hx hy ∙ p) (role _ o.1 x y hx hy ∙ q);
    rules = λ i hi x hx. sym (holds_alike (D.rule i) x (A.rules_inside i hi) (here x hx)) ∙ M.rules i hi x (here x hx);
  }
    where
      here : (x : ℕ) → x < J.size → x < I.size
      here x h = rw same.size h

      role : (r : ℕ) → r < D.roles → (x y : ℕ) → x < J.size → y < J.size → I.role r x y ≡ J.role r x y
      role r hr x y hx hy = same.roles r hr x y (here x hx) (here y hy)

  pub satisfies_alike : (W : List Literal) → ((l : Literal) → l ∈ W → entry_of l < D.entries) → Satisfies D W I → Satisfies D W J
  satisfies_alike W inside w = (w.0, rw same.size at w.1, λ l m. sym (holds_alike l w.0 (inside l m) w.1) ∙ w.2 l m)
