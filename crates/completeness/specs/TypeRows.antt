-- The row literals of a type, all of them, rising; and the edges that a solution of their rows gives.
use Rattle.std.specs.Prelude.{ℕ, zero, suc, ◌+◌, ◌*◌, ◌-◌, ◌^◌, ◌≤◌, ◌<◌, ◌≡◌, refl, ◌↔◌, ◌⊎◌, Bool, true, false, cond, not, ◌&&◌, List, [], ◌∷◌, ◌++◌, ltb, length, get_or}
use Rattle.std.proofs.Common.{sym, ◌∙◌, ap, subst, inl, inr, arith}
use Rattle.std.proofs.lemmas.Bool.{false≢true}
use mathlib.Core.List.Memᴰ
use Rattle.std.proofs.Math.Decide.{dec_le}
use Rattle.logic.specs.Tests.{So, decide, so_false, so_ltb, ltb_so}
use Rattle.logic.specs.Bounded.{up_to_lem}
use Rattle.logic.specs.Lists.{◌∈◌, length_snoc, at_snoc_old, at_snoc_new, member_at}
use Rattle.logic.specs.Sums.{sum_below, only, only_off, only_le}
use Rattle.description.specs.Literals.{Literal, pos, neg, code}
use Rattle.description.specs.Descriptions.{Description}
use Rattle.graph.specs.Graphs.{Edge, total}
use Rattle.refutation.specs.Cells.{row_of, is_row}
use Rattle.refutation.specs.Records.{literal_at}
use Rattle.completeness.specs.Types.{chosen}

-- the row literals of the choice p among the entries below m
pub record TypeRows (D : Description) (p : ℕ → Bool) (m : ℕ) : Type 0 where
  pub lits : List Literal
  pub picked : (j : ℕ) → j < length lits → (e : ℕ) × (e < m) × (literal_at lits j ≡ chosen p e)
  pub are_rows : (j : ℕ) → j < length lits → So (is_row (row_of D (literal_at lits j)))
  pub rising : (j : ℕ) → j < length lits → suc j < length lits → code (literal_at lits j) < code (literal_at lits (suc j))
  pub there : (e : ℕ) → e < m → So (is_row (row_of D (chosen p e))) → (i : ℕ) × (i < length lits) × (literal_at lits i ≡ chosen p e)

code_low : (p : ℕ → Bool) (e : ℕ) → 2 * e ≤ code (chosen p e)
code_low p e = go (p e)
  where
    go : (b : Bool) → 2 * e ≤ code (cond b (pos e) (neg e))
    go true = omega arith
    go false = omega arith

code_high : (p : ℕ → Bool) (e : ℕ) → code (chosen p e) ≤ 2 * e + 1
code_high p e = go (p e)
  where
    go : (b : Bool) → code (cond b (pos e) (neg e)) ≤ 2 * e + 1
    go true = omega arith
    go false = omega arith

pub rows_of_type : (D : Description) (p : ℕ → Bool) (m : ℕ) → TypeRows D p m
rows_of_type D p zero = record {
  lits = [];
  picked = λ j h. absurd (omega arith);
  are_rows = λ j h. absurd (omega arith);
  rising = λ j h. absurd (omega arith);
  there = λ e h. absurd (omega arith);
}
rows_of_type D p (suc m) = next (rows_of_type D p m) (decide (is_row (row_of D (chosen p m))))
  where
    next : TypeRows D p m → So (is_row (row_of D (chosen p m))) ⊎ (So (is_row (row_of D (chosen p m))) → ⊥) → TypeRows D p (suc m)
    next T (inr u) = record {
      lits = T.lits;
      picked = λ j h. let w = T.picked j h in (w.0, omega (arith, w.1), w.2);
      are_rows = T.are_rows;
      rising = T.rising;
      there = up_to_lem (λ e. So (is_row (row_of D (chosen p e))) → (i : ℕ) × (i < length T.lits) × (literal_at T.lits i ≡ chosen p e)) m T.there (λ v. absurd (u v));
    }
    next T (inl u) = record {
      lits = more;
      picked = λ j h. up_to_lem (λ j. (e : ℕ) × (e < suc m) × (literal_at more j ≡ chosen p e)) n
          (λ j g. let w = T.picked j g in (w.0, omega (arith, w.1), old j g ∙ w.2)) (m, omega arith, new) j (rw long at h);
      are_rows = λ j h. up_to_lem (λ j. So (is_row (row_of D (literal_at more j)))) n (λ j g. rw (old j g) (T.are_rows j g)) (rw new u) j (rw long at h);
      rising = λ j _ h. up_to_lem (λ k. (j : ℕ) → suc j ≡ k → code (literal_at more j) < code (literal_at more k)) n
          (λ k g j e. subst (λ i. code (literal_at more j) < code (literal_at more i)) e (before j (rw (← e) at g)))
          (λ j e. last j e) (suc j) (rw long at h) j refl;
      there = up_to_lem (λ e. So (is_row (row_of D (chosen p e))) → (i : ℕ) × (i < length more) × (literal_at more i ≡ chosen p e)) m
          (λ e h v. let w = T.there e h v in (w.0, omega (arith, w.1, long), old w.0 w.1 ∙ w.2)) (λ v. (n, omega (arith, long), new));
    }
      where
        n : ℕ
        n = length T.lits

        more : List Literal
        more = T.lits ++ (chosen p m ∷ [])

        long : length more ≡ suc n
        long = length_snoc T.lits (chosen p m)

        old : (j : ℕ) → j < n → literal_at more j ≡ literal_at T.lits j
        old j h = at_snoc_old T.lits (chosen p m) (pos 0) j h

        new : literal_at more n ≡ chosen p m
        new = at_snoc_new T.lits (chosen p m) (pos 0)

        before : (j : ℕ) → suc j < n → code (literal_at more j) < code (literal_at more (suc j))
        before j h = rw (old j (omega arith), old (suc j) h) (T.rising j (omega arith) h)

        last : (j : ℕ) → suc j ≡ n → code (literal_at more j) < code (literal_at more n)
        last j e =
            let w = T.picked j (omega arith) in
            omega (arith, ap code (old j (omega arith) ∙ w.2), ap code new, w.1, code_high p w.0, code_low p m)

-- what holds at every place of a list holds of every member
pub at_places : (P : Literal → Type 0) (lits : List Literal) → ((j : ℕ) → j < length lits → P (literal_at lits j)) → (l : Literal) → l ∈ lits → P l
at_places P lits f l m = let w = member_at lits (pos 0) l m in subst P w.2 (f w.0 w.1)

-- ---- an edge for each cell that has fillers
unfoldable pub edges_below : (ℕ → Edge) → ℕ → List Edge
edges_below edge zero = []
edges_below edge (suc m) = cond (ltb 0 (edge m).count) (edge m ∷ edges_below edge m) (edges_below edge m)

pub edge_of_cell : (edge : ℕ → Edge) (N : ℕ) (E : Edge) → E ∈ edges_below edge N → (m : ℕ) × (m < N) × (1 ≤ (edge m).count) × (E ≡ edge m)
unfolding edges_below
edge_of_cell edge zero E h = elim h [ ]
edge_of_cell edge (suc N) E h = go (λ t. edge_of_cell edge N E t) (ltb 0 (edge N).count) refl h
  where
    go : (E ∈ edges_below edge N → (m : ℕ) × (m < N) × (1 ≤ (edge m).count) × (E ≡ edge m)) → (b : Bool) → ltb 0 (edge N).count ≡ b
        → E ∈ cond b (edge N ∷ edges_below edge N) (edges_below edge N) → (m : ℕ) × (m < suc N) × (1 ≤ (edge m).count) × (E ≡ edge m)
    go ih true q t = elim (Memᴰ.cases_cons t) [
      | inl e ↦ (N, omega arith, so_ltb 0 (edge N).count q, e)
      | inr u ↦ let w = ih u in (w.0, omega (arith, w.1), w.2, w.3)
    ]
    go ih false q t = let w = ih t in (w.0, omega (arith, w.1), w.2, w.3)

pub edges_total : (edge : ℕ → Edge) (q : Edge → Bool) (N : ℕ) → total (edges_below edge N) q ≡ sum_below N (λ m. only (q (edge m)) (edge m).count)
unfolding edges_below total sum_below
edges_total edge q zero = refl
edges_total edge q (suc N) = go (edges_total edge q N) (ltb 0 (edge N).count) refl
  where
    go : total (edges_below edge N) q ≡ sum_below N (λ m. only (q (edge m)) (edge m).count) → (b : Bool) → ltb 0 (edge N).count ≡ b
        → total (cond b (edge N ∷ edges_below edge N) (edges_below edge N)) q ≡ sum_below N (λ m. only (q (edge m)) (edge m).count) + only (q (edge N)) (edge N).count
    go ih true e = omega arith
    go ih false e = elim (dec_le 1 (edge N).count) [
      | yes g ↦ absurd (false≢true (sym e ∙ ltb_so 0 (edge N).count g))
      | no g ↦ omega (arith, ih, only_le (q (edge N)) (edge N).count)
    ]

pub total_some : (es : List Edge) (q : Edge → Bool) → 1 ≤ total es q → (E : Edge) × (E ∈ es) × So (q E)
unfolding total
total_some [] q h = absurd (omega arith)
total_some (E ∷ es) q h = elim (decide (q E)) [
  | inl u ↦ (E, Memᴰ.head refl, u)
  | inr u ↦ let r = total_some es q (omega (arith, only_off (q E) E.count u)) in (r.0, Memᴰ.tail r.1, r.2)
]
