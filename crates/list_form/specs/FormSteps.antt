-- The form of a record as the code finds it: where each tree ends, without the tree.
use Prim.Native.Nat.{ℕ, zero, suc, ◌+◌, ◌-◌, ◌*◌, ◌%◌, ◌^◌, ◌≤◌, ◌<◌}
use Rattle.std.specs.Prelude as Rust
use Rattle.std.specs.Prelude.{Some, None, ◌≡◌, Bool, true, false, cond, ◌&&◌, ◌||◌, List, leb, ltb}
use Rattle.std.proofs.Math.Path.{refl, ap}
use Rattle.std.proofs.Common.{sym, ◌∙◌, inl, inr, pow_mono, pow_pos}
use Rattle.std.proofs.lemmas.Bool.{false≢true}
use Rattle.std.proofs.lemmas.Option.{none-some, same_Some}
use Rattle.std.proofs.Math.Option.{Option, none, some, some-injective, none-ne-some}
use native.Mathlib.Omega.{arith}
use Rattle.std.proofs.Math.Decide.{dec_lt}
use borrow.Author.Tests.{le-leb, lt-leb, lt-ltb, le-ltb, eq-eqb, ne_eqb}
use Rattle.std.proofs.Math.Dec.{eqb}
use Rattle.std.proofs.Math.ListN.{length}
use Rattle.std.proofs.Math.Numerals.{add-one}
use Rattle.logic.specs.Tests.{same_test, or_l, or_r, or_cases, so_eqb, eqb↔, so_leb, leb_so}
use Rattle.logic.specs.Refusals.{unless}
use Rattle.logic.specs.SetLaws.{single_word}
use Rattle.counting.specs.Trees.{Tree, split}
use Rattle.parts.specs.Numbers.{byte_at, num2}
use Rattle.list_form.specs.ListForm.{Placed, is_mark, node_in, node_refusal, is_node, by_node, leaf_in, tree_in, and_then, given, tree_at, most_depth, counting_in, sized, step_of, step_in}
use Rattle.refutation.specs.Records.{Step}
use Rattle.list_form.specs.declared.Node.{Node}
use Rattle.list_form.specs.declared.Node.TheVariants.{Leaf, Split}

-- the end of what is placed, if there is something
abbrev pub end_of : Option Placed → Rust.Option ℕ
end_of none = None
end_of (some t) = Some t.end

-- there is something
abbrev pub formed : {A : Type 0} → Option A → Bool
formed none = false
formed (some x) = true

given_formed : {A : Type 0} (b : Bool) (x : A) → b ≡ formed (given b x)
given_formed true x = refl
given_formed false x = refl

-- ---- laws for a cell's byte
-- bytes from the first mark on are marks
pub mark_from : (marks : Bool) (first b : ℕ) → b < 256 → first ≡ cond marks 254 255 → leb first b ≡ is_mark marks b
mark_from marks first b h e = rw e (go marks)
  where
    go : (m : Bool) → leb (cond m 254 255) b ≡ is_mark m b
    go true = same_test _ _
        (λ u. let k = so_leb 254 b u in elim (dec_lt b 255) [
          | yes q ↦ (let z : b ≡ 254 = omega arith in or_r (eqb b 255) (eqb b 254) ((eqb↔ b 254).1 z))
          | no q ↦ (let z : b ≡ 255 = omega arith in or_l (eqb b 255) (eqb b 254) ((eqb↔ b 255).1 z))
        ])
        (λ u. elim (or_cases (eqb b 255) (eqb b 254) u) [
          | inl v ↦ (let z = so_eqb b 255 v in leb_so 254 b (omega arith))
          | inr v ↦ (let z = so_eqb b 254 v in leb_so 254 b (omega arith))
        ])
    go false = same_test _ _
        (λ u. let k = so_leb 255 b u in let z : b ≡ 255 = omega arith in or_l (eqb b 255) false ((eqb↔ b 255).1 z))
        (λ u. elim (or_cases (eqb b 255) false u) [
          | inl v ↦ (let z = so_eqb b 255 v in leb_so 255 b (omega arith))
          | inr v ↦ absurd (false≢true v)
        ])

-- ---- laws for the reader of a node
-- its case has the number of the case
pub node_told : (ds : List ℕ) (limits at : ℕ) (x : Rust.Option Node) → x ≡ node_in ds limits at → (x ≡ node_in ds limits at) × (node_refusal x ≡ unless (is_node (node_in ds limits at)) 10 none)
node_told ds limits at x e = (e, ap node_refusal e ∙ go (node_in ds limits at))
  where
    go : (x : Rust.Option Node) → node_refusal x ≡ unless (is_node x) 10 none
    go (Some (Leaf end)) = refl
    go (Some Split) = refl
    go None = refl

pub node_past : (ds : List ℕ) (limits at : ℕ) → length ds ≤ at → None ≡ node_in ds limits at
unfolding node_in
node_past ds limits at h = let z : length ds < at + 4 = omega arith in rw (le-ltb _ _ h, lt-leb _ _ z) refl

module _ (ds : List ℕ) (limits at tag : ℕ) (p : tag ≡ byte_at ds at) (h : at < length ds) where
  pub node_leaf : tag ≡ 0 → at + 1 + limits ≤ length ds → Some (Leaf (at + 1 + limits)) ≡ node_in ds limits at
  unfolding node_in
  node_leaf e k = rw (← p, lt-ltb _ _ h, eq-eqb _ _ e, le-leb _ _ k) refl

  pub node_cut : tag ≡ 0 → length ds < at + 1 + limits → None ≡ node_in ds limits at
  unfolding node_in
  node_cut e k = rw (← p, lt-ltb _ _ h, eq-eqb _ _ e, lt-leb _ _ k) refl

  pub node_split : (tag ≡ 0 → ⊥) → (leb (at + 4) (length ds) && eqb tag 1) ≡ true → Some Split ≡ node_in ds limits at
  unfolding node_in
  node_split e q = rw (← p, lt-ltb _ _ h, ne_eqb _ _ e, q) refl

  pub node_off : (tag ≡ 0 → ⊥) → (leb (at + 4) (length ds) && eqb tag 1) ≡ false → None ≡ node_in ds limits at
  unfolding node_in
  node_off e q = rw (← p, lt-ltb _ _ h, ne_eqb _ _ e, q) refl

-- a leaf has its tag and its multipliers
pub leaf_room : (ds : List ℕ) (limits at end : ℕ) → Some (Leaf end) ≡ node_in ds limits at → (end ≡ at + 1 + limits) × (end ≤ length ds)
unfolding node_in
leaf_room ds limits at end e = go (ltb at (length ds) && eqb (byte_at ds at) 0) (leb (at + 1 + limits) (length ds)) refl (leb (at + 4) (length ds) && eqb (byte_at ds at) 1) e
  where
    go : (a b : Bool) → leb (at + 1 + limits) (length ds) ≡ b → (c : Bool) → Some (Leaf end) ≡ cond a (cond b (Some (Leaf (at + 1 + limits))) None) (cond c (Some Split) None)
        → (end ≡ at + 1 + limits) × (end ≤ length ds)
    go true true h c q = let z : end ≡ at + 1 + limits = cc in (z, omega (arith, so_leb (at + 1 + limits) (length ds) h))
    go true false h c q = absurd (let z : ◌≡◌ {A = ℕ} 0 1 = cc in omega arith)
    go false b h true q = absurd (let z : ◌≡◌ {A = ℕ} 0 1 = cc in omega arith)
    go false b h false q = absurd (let z : ◌≡◌ {A = ℕ} 0 1 = cc in omega arith)

-- a split has its four bytes
pub split_room : (ds : List ℕ) (limits at : ℕ) → Some Split ≡ node_in ds limits at → at + 4 ≤ length ds
unfolding node_in
split_room ds limits at e = go (ltb at (length ds) && eqb (byte_at ds at) 0) (leb (at + 1 + limits) (length ds)) (leb (at + 4) (length ds)) refl (eqb (byte_at ds at) 1) e
  where
    go : (a b c : Bool) → leb (at + 4) (length ds) ≡ c → (d : Bool) → Some Split ≡ cond a (cond b (Some (Leaf (at + 1 + limits))) None) (cond (c && d) (Some Split) None) → at + 4 ≤ length ds
    go false b true h true q = so_leb (at + 4) (length ds) h
    go false b true h false q = absurd (let z : ◌≡◌ {A = ℕ} 0 1 = cc in omega arith)
    go false b false h d q = absurd (let z : ◌≡◌ {A = ℕ} 0 1 = cc in omega arith)
    go true true c h d q = absurd (let z : ◌≡◌ {A = ℕ} 0 1 = cc in omega arith)
    go true false c h d q = absurd (let z : ◌≡◌ {A = ℕ} 0 1 = cc in omega arith)

-- ---- laws for the recursion
module _ (ds : List ℕ) (limits at : ℕ) where
  -- by the node that stands there
  pub tree_off : (left : ℕ) → None ≡ node_in ds limits at → None ≡ end_of (tree_in ds left limits at)
  unfolding tree_in
  tree_off zero e = rw (← e) refl
  tree_off (suc left) e = rw (← e) refl

  pub tree_leaf : (left end : ℕ) → Some (Leaf end) ≡ node_in ds limits at → Some end ≡ end_of (tree_in ds left limits at)
  unfolding tree_in
  tree_leaf zero end e = rw (← e) refl
  tree_leaf (suc left) end e = rw (← e) refl

  pub tree_deep : (left : ℕ) → left ≡ 0 → Some Split ≡ node_in ds limits at → None ≡ end_of (tree_in ds left limits at)
  unfolding tree_in
  tree_deep left z e = rw (z, ← e) refl

-- no tree ends at 0
leaf_past : (ds : List ℕ) (limits at end : ℕ) (t : Placed) → Some (Leaf end) ≡ node_in ds limits at → leaf_in ds limits at end ≡ some t → 0 < t.end
leaf_past ds limits at end t x e = let z : end ≡ t.end = ap (λ (x : Placed). x.end) (some-injective _ _ e) in omega (arith, z, (leaf_room ds limits at end x).0)

pub tree_past : (ds : List ℕ) (left limits at : ℕ) (t : Placed) → tree_in ds left limits at ≡ some t → 0 < t.end
unfolding tree_in
tree_past ds zero limits at t e = go (node_in ds limits at) refl e
  where
    go : (x : Rust.Option Node) → x ≡ node_in ds limits at → by_node (leaf_in ds limits at) none x ≡ some t → 0 < t.end
    go (Some (Leaf end)) h q = leaf_past ds limits at end t h q
    go (Some Split) h q = absurd (none-ne-some t q)
    go None h q = absurd (none-ne-some t q)
tree_past ds (suc left) limits at t e = go (tree_past ds left (suc limits)) (node_in ds limits at) refl e
  where
    made : Placed → Placed → Placed
    made l r = record { tree = split (byte_at ds (at + 1)) (num2 ds (at + 2)) l.tree r.tree; end = r.end }

    Below : Type 0
    Below = (at : ℕ) (t : Placed) → tree_in ds left (suc limits) at ≡ some t → 0 < t.end

    second : Below → (l : Placed) (o : Option Placed) → tree_in ds left (suc limits) l.end ≡ o → and_then o (λ r. some (made l r)) ≡ some t → 0 < t.end
    second ih l none h q = absurd (none-ne-some t q)
    second ih l (some r) h q = let z : r.end ≡ t.end = ap (λ (x : Placed). x.end) (some-injective _ _ q) in omega (arith, z, ih l.end r h)

    first : Below → (o : Option Placed) → and_then o (λ l. and_then (tree_in ds left (suc limits) l.end) (λ r. some (made l r))) ≡ some t → 0 < t.end
    first ih none q = absurd (none-ne-some t q)
    first ih (some l) q = second ih l (tree_in ds left (suc limits) l.end) refl q

    go : Below → (x : Rust.Option Node) → x ≡ node_in ds limits at
        → by_node (leaf_in ds limits at) (and_then (tree_in ds left (suc limits) (at + 4)) (λ l. and_then (tree_in ds left (suc limits) l.end) (λ r. some (made l r)))) x ≡ some t → 0 < t.end
    go ih (Some (Leaf end)) h q = leaf_past ds limits at end t h q
    go ih (Some Split) h q = first ih (tree_in ds left (suc limits) (at + 4)) q
    go ih None h q = absurd (none-ne-some t q)

-- what an end says
end_none : (o : Option Placed) → None ≡ end_of o → o ≡ none
end_none none e = refl
end_none (some t) e = absurd (none-some _ e)

end_some : (o : Option Placed) (p : ℕ) → Some p ≡ end_of o → (t : Placed) × (o ≡ some t) × (t.end ≡ p)
end_some none p e = absurd (none-some p (sym e))
end_some (some t) p e = (t, refl, same_Some _ _ (sym e))

-- a second tree's end is the whole's
second_end : (o : Option Placed) (f : Placed → Tree) → end_of o ≡ end_of (and_then o (λ r. some (record { tree = f r; end = r.end })))
second_end none f = refl
second_end (some r) f = refl

module _ (ds : List ℕ) (limits at : ℕ) where
  -- a split: its first tree, and then its second
  pub tree_first : (left : ℕ) → Some Split ≡ node_in ds limits at → (left ≡ 0 → ⊥) → None ≡ end_of (tree_in ds (left - 1) (limits + 1) (at + 4))
      → None ≡ end_of (tree_in ds left limits at)
  unfolding tree_in
  tree_first zero e h q = absurd (h refl)
  tree_first (suc l) e h q = let z : suc l - 1 ≡ l = omega arith in
      rw (← e, end_none (tree_in ds l (suc limits) (at + 4)) (rw (z, add-one limits) at q)) refl

  pub tree_second : (left p : ℕ) (r : Rust.Option ℕ) → Some Split ≡ node_in ds limits at → (left ≡ 0 → ⊥) → Some p ≡ end_of (tree_in ds (left - 1) (limits + 1) (at + 4))
      → r ≡ end_of (tree_in ds (left - 1) (limits + 1) p) → r ≡ end_of (tree_in ds left limits at)
  unfolding tree_in
  tree_second zero p r e h q s = absurd (h refl)
  tree_second (suc l) p r e h q s = let z : suc l - 1 ≡ l = omega arith in
      let u = end_some (tree_in ds l (suc limits) (at + 4)) p (rw (z, add-one limits) at q) in
      (rw (z, add-one limits) at s) ∙ rw (← e, u.1, u.2) (second_end (tree_in ds l (suc limits) p) (λ x. split (byte_at ds (at + 1)) (num2 ds (at + 2)) u.0.tree x.tree))

-- ---- laws for a counting step
-- the shift that gives 2 ^ k
pub shifted : (k : ℕ) → k ≤ 6 → (1 * 2 ^ k % 2 ^ 64 ≡ 2 ^ k) × (1 ≤ 2 ^ k) × (2 ^ k ≤ 64)
shifted k h = let z : 2 ^ k ≤ 2 ^ 6 = pow_mono h in (single_word 64 k (omega arith), pow_pos k, omega arith)

module _ (marks : Bool) (ds : List ℕ) (k : ℕ) where
  pub rows_none : k < 1 → false ≡ formed (counting_in marks ds k)
  unfolding counting_in
  rows_none h = rw (lt-leb _ _ h) refl

  pub rows_many : 1 ≤ k → 6 < k → false ≡ formed (counting_in marks ds k)
  unfolding counting_in
  rows_many h g = rw (le-leb _ _ h, lt-leb _ _ g) refl

  pub cells_cut : 1 ≤ k → k ≤ 6 → length ds < tree_at k → false ≡ formed (counting_in marks ds k)
  unfolding counting_in
  cells_cut h g c = rw (le-leb _ _ h, le-leb _ _ g, lt-leb _ _ c) refl

  pub tree_told : (start q : ℕ) → 1 ≤ k → k ≤ 6 → start ≡ tree_at k → start ≤ length ds → Some q ≡ end_of (tree_in ds most_depth k start)
      → eqb q (length ds) ≡ formed (counting_in marks ds k)
  unfolding counting_in
  tree_told start q h g s c e = let d : tree_at k ≤ length ds = omega arith in
      rw (le-leb _ _ h, le-leb _ _ g, le-leb _ _ d) (go (tree_in ds most_depth k (tree_at k)) _ (e ∙ ap (λ at. end_of (tree_in ds most_depth k at)) s))
    where
      go : (o : Option Placed) (f : Placed → Step) → Some q ≡ end_of o → eqb q (length ds) ≡ formed (and_then o (λ t. given (eqb t.end (length ds)) (f t)))
      go none f x = absurd (none-some q (sym x))
      go (some t) f x = ap (λ n. eqb n (length ds)) (same_Some _ _ x) ∙ given_formed (eqb t.end (length ds)) (f t)

  pub tree_missing : (start : ℕ) → 1 ≤ k → k ≤ 6 → start ≡ tree_at k → start ≤ length ds → None ≡ end_of (tree_in ds most_depth k start)
      → false ≡ formed (counting_in marks ds k)
  unfolding counting_in
  tree_missing start h g s c e = let d : tree_at k ≤ length ds = omega arith in
      rw (le-leb _ _ h, le-leb _ _ g, le-leb _ _ d, end_none (tree_in ds most_depth k (tree_at k)) (e ∙ ap (λ at. end_of (tree_in ds most_depth k at)) s)) refl

-- ---- laws for a step
module _ (marks : Bool) (ds : List ℕ) where
  pub step_size : (tag n : ℕ) (s : Step) → byte_at ds 0 ≡ tag → step_of marks ds tag ≡ sized ds n s → eqb (length ds) n ≡ formed (step_in marks ds)
  step_size tag n s e q = given_formed (eqb (length ds) n) s ∙ ap formed (sym (ap (step_of marks ds) e ∙ q))

  pub step_counting : (k : ℕ) → byte_at ds 0 ≡ 6 → k ≡ byte_at ds 1 → formed (counting_in marks ds k) ≡ formed (step_in marks ds)
  unfolding step_of
  step_counting k e p = rw (e, p) refl

  pub step_unknown : (k : ℕ) → k ≡ byte_at ds 0 → (k ≡ 1 → ⊥) → (k ≡ 2 → ⊥) → (k ≡ 3 → ⊥) → (k ≡ 4 → ⊥) → (k ≡ 5 → ⊥) → (k ≡ 6 → ⊥)
      → false ≡ formed (step_in marks ds)
  unfolding step_of
  step_unknown zero p h1 h2 h3 h4 h5 h6 = rw (← p) refl
  step_unknown (suc zero) p h1 h2 h3 h4 h5 h6 = absurd (h1 refl)
  step_unknown (suc (suc zero)) p h1 h2 h3 h4 h5 h6 = absurd (h2 refl)
  step_unknown (suc (suc (suc zero))) p h1 h2 h3 h4 h5 h6 = absurd (h3 refl)
  step_unknown (suc (suc (suc (suc zero)))) p h1 h2 h3 h4 h5 h6 = absurd (h4 refl)
  step_unknown (suc (suc (suc (suc (suc zero))))) p h1 h2 h3 h4 h5 h6 = absurd (h5 refl)
  step_unknown (suc (suc (suc (suc (suc (suc zero)))))) p h1 h2 h3 h4 h5 h6 = absurd (h6 refl)
  step_unknown (suc (suc (suc (suc (suc (suc (suc k))))))) p h1 h2 h3 h4 h5 h6 = rw (← p) refl
