-- Of the labels, a record's rules look at its own and at its targets' alone.
use Rattle.std.specs.Prelude.{ℕ, ◌+◌, ◌≡◌, refl, ◌⊎◌, Bool, List, [], ◌∷◌}
use Rattle.std.proofs.Common.{sym, ap, ap₂, subst}
use Rattle.std.proofs.Math.Path.{fun_ext}
use mathlib.Core.List.Memᴰ
use Rattle.logic.specs.Tests.{So}
use Rattle.logic.specs.Lists.{◌∈◌}
use Rattle.logic.specs.Sums.{only}
use Rattle.description.specs.Literals.{Literal, opposite, Label}
use Rattle.description.specs.Descriptions.{Description}
use Rattle.graph.specs.Graphs.{Edge, total, counted, Passes, NodeOk}

pub total_cong : (es : List Edge) (p q : Edge → Bool) → ((E : Edge) → E ∈ es → p E ≡ q E) → total es p ≡ total es q
unfolding total
total_cong [] p q h = refl
total_cong (E ∷ es) p q h = ap₂ ◌+◌ (ap (λ b. only b E.count) (h E (Memᴰ.head refl))) (total_cong es p q (λ F m. h F (Memᴰ.tail m)))

-- with the same literals in its label and in its targets' labels, a record keeps the rules as before
pub relabel : (D : Description) (size : ℕ) (lab lab' : ℕ → Label) (W : List Literal) (L L' : Label) (es : List Edge)
    → ((E : Edge) → E ∈ es → (l : Literal) → lab' E.target l ≡ lab E.target l) → ((l : Literal) → L' l ≡ L l)
    → NodeOk D size lab W L es → NodeOk D size lab' W L' es
relabel D size lab lab' W L L' es same own o = rw (fun_ext own) (record {
  label_ok = o.label_ok;
  both_ok = o.both_ok;
  edges_ok = o.edges_ok;
  every_ok = λ e h r l q. let w = o.every_ok e h r l q in (
    λ u E m k. move E m (Passes D r l E) (w.0 u E m k),
    λ u. let v = w.1 u in (v.0, v.1, (v.2.0, move v.0 v.1 (λ M. So (M (opposite l))) v.2.1)),
  );
  count_ok = λ e h r l n q. let w = o.count_ok e h r l n q in rw (counts r l) (
    w.0,
    λ u. ((w.1 u).0, λ E m k. move E m (λ M. So (M l) ⊎ So (M (opposite l))) ((w.1 u).1 E m k)),
  );
})
  where
    move : (E : Edge) → E ∈ es → (P : Label → Type 0) → P (lab E.target) → P (lab' E.target)
    move E m P = subst P (sym (fun_ext (same E m)))

    counts : (r : ℕ) (l : Literal) → counted lab' es r l ≡ counted lab es r l
    counts r l = total_cong es _ _ (λ E m. rw (same E m l))
