-- The bytes of a tree: that they are read back, and that they are written again as they were read.
use Prim.Native.Nat.{ℕ, zero, suc, ◌+◌, ◌≤◌, ◌<◌}
use Rattle.std.specs.Prelude as Rust
use Rattle.std.specs.Prelude.{Some, None, ◌≡◌, ◌⊎◌, Bool, cond, ◌&&◌, ltb, get_or}
use Rattle.std.proofs.Math.Path.{refl, ap, subst}
use Rattle.std.proofs.Common.{sym, ◌∙◌}
use Rattle.std.proofs.Math.Logic.{inl, inr}
use Rattle.std.proofs.Math.Bool.{true, false}
use mathlib.Core.List.{List, [], ◌∷◌, ◌++◌, map}
use Rattle.std.proofs.Math.Option.{Option, none, some, some-injective, none-ne-some}
use native.Mathlib.Omega.{arith}
use borrow.Author.Tests.{lt-ltb, le-leb}
use Rattle.std.proofs.Math.Dec.{eqb, leb}
use Rattle.std.proofs.Math.ListN.{length, length-append}
use Rattle.logic.specs.Tests.{So, and_l, and_r, so_eqb, so_leb}
use Rattle.logic.specs.Lists.{length_tabulate, at_tabulate, tabulate_cong}
use Rattle.parts.specs.Numbers.{byte_at, num2}
use Rattle.counting.specs.Trees.{Tree, leaf, split, formed, depth}
use Rattle.list_form.specs.declared.Node.{Node}
use Rattle.list_form.specs.declared.Node.TheVariants.{Leaf, Split}
use Rattle.list_form.specs.ListForm.{Placed, and_then, given, bytes_at, node_in, by_node, leaf_in, tree_in}
use Rattle.laying.specs.Places.{Stands, first, second, byte, stands_append, stands_more, read_off, map_tabulate, Small, small_more, small_append, small_at, small_in}
use Rattle.laying.specs.Numbers.{two}
use Rattle.laying.proofs.Numbers.{two_bytes}
use Rattle.encoding.specs.Trees.{encode_tree, TreeWidth}

-- numbers of one byte each, read where they stand
pub bytes_back : {A : Type 0} {s : List ℕ} {at : ℕ} (f : ℕ → A) (d : A) (w : List ℕ) (xs : List A) → Stands s at w → length w ≡ length xs
    → ((i : ℕ) → i < length xs → f (byte_at w i) ≡ get_or xs i d) → bytes_at f s at (length xs) ≡ xs
bytes_back {s} {at} f d w xs h e back = read_off d xs (length xs) (λ i. f (byte_at s (at + i))) refl (λ i k. ap f (h.same i (omega arith)) ∙ back i k)

-- and written again as they were read
pub bytes_here : {s : List ℕ} {at : ℕ} (n : ℕ) → at + n ≤ length s → Stands s at (bytes_at (λ b. b) s at n)
bytes_here {s} {at} n h = let l = length_tabulate n (λ i. byte_at s (at + i)) in
    record { inside = omega arith; same = λ i k. sym (at_tabulate n (λ i. byte_at s (at + i)) 0 i (omega arith)) }

pub bytes_again : {A : Type 0} {s : List ℕ} {at : ℕ} (f : ℕ → A) (g : A → ℕ) → ((b : ℕ) → g (f b) ≡ b) → (n : ℕ) → at + n ≤ length s → Stands s at (map g (bytes_at f s at n))
bytes_again {A} {s} {at} f g again n h = subst (Stands s at) (sym (map_tabulate g n (λ i. f (byte_at s (at + i))) ∙ tabulate_cong n _ _ (λ i l. again (byte_at s (at + i))))) (bytes_here n h)

module _ (s : List ℕ) where
  -- by the node that stands there
  at_leaf : (left at : ℕ) (ms : List ℕ) → Stands s at (0 ∷ ms) → tree_in s left (length ms) at ≡ leaf_in s (length ms) at (at + 1 + length ms)
  unfolding tree_in node_in
  at_leaf left at ms h = let a : at < length s = omega (arith, h.inside) in let b : at + 1 + length ms ≤ length s = omega (arith, h.inside) in
      elim left as (λ left. tree_in s left (length ms) at ≡ leaf_in s (length ms) at (at + 1 + length ms)) [
        | zero ↦ rw (lt-ltb _ _ a, byte 0 ms h, le-leb _ _ b) refl
        | suc k ↦ rw (lt-ltb _ _ a, byte 0 ms h, le-leb _ _ b) refl
      ]

  at_split : (left limits at c v : ℕ) (w : List ℕ) (l r : Placed) → Stands s at (1 ∷ c ∷ (two v ++ w)) → tree_in s left (suc limits) (at + 4) ≡ some l
      → tree_in s left (suc limits) l.end ≡ some r → tree_in s (suc left) limits at ≡ some (record { tree = split c v l.tree r.tree; end = r.end })
  unfolding tree_in node_in
  at_split left limits at c v w l r h p q = let a : at < length s = omega (arith, h.inside) in let b : at + 4 ≤ length s = omega (arith, h.inside) in
      rw (
        lt-ltb _ _ a,
        byte 1 (c ∷ (two v ++ w)) h,
        le-leb _ _ b,
        p,
        q,
        byte c (two v ++ w) (second (1 ∷ []) (c ∷ (two v ++ w)) h),
        two_bytes.back v (first (two v) w (second (1 ∷ c ∷ []) (two v ++ w) h)),
      ) refl

  -- a tree of the right form is read where it stands
  pub tree_back : (t : Tree) (left limits at : ℕ) → Stands s at (encode_tree t) → So (formed limits t) → depth t ≤ left
      → tree_in s left limits at ≡ some (record { tree = t; end = at + length (encode_tree t) })
  unfolding encode_tree formed depth
  tree_back (leaf ms) left limits at h f d = let z : at + 1 + length ms ≡ at + suc (length ms) = omega arith in
      rw (← so_eqb (length ms) limits f, at_leaf left at ms h, bytes_back (λ b. b) 0 ms ms (second (0 ∷ []) ms h) refl (λ i k. refl), z) refl
  tree_back (split c v l r) zero limits at h f d = absurd (omega arith)
  tree_back (split c v l r) (suc left) limits at h f d =
      let below = second (1 ∷ c ∷ two v) (encode_tree l ++ encode_tree r) h in
      at_split left limits at c v (encode_tree l ++ encode_tree r) _ _ h
      (tree_back l left (suc limits) (at + 4) (first (encode_tree l) (encode_tree r) below) (and_l (formed (suc limits) l) (formed (suc limits) r) f) (omega arith))
      (tree_back r left (suc limits) (at + 4 + length (encode_tree l)) (second (encode_tree l) (encode_tree r) below) (and_r (formed (suc limits) l) (formed (suc limits) r) f) (omega arith))
      ∙ ap (λ e. some (record { tree = split c v l r; end = e })) (omega (arith, length-append (encode_tree l) (encode_tree r)))

-- it is bytes
pub tree_small : (t : Tree) → TreeWidth t → Small (encode_tree t)
unfolding encode_tree
tree_small (leaf ms) h = small_more (omega arith) h
tree_small (split c v l r) h = small_more (omega arith) (small_more h.0 (small_append (two v) (two_bytes.small v h.1) (small_append (encode_tree l) (tree_small l h.2) (tree_small r h.3))))

-- ---- written again as it was read
-- what came of one thing after another
pub and_then_lem : {A B : Type 0} (o : Option A) (f : A → Option B) (y : B) → and_then o f ≡ some y → (x : A) × (o ≡ some x) × (f x ≡ some y)
and_then_lem none f y e = absurd (none-ne-some y e)
and_then_lem (some x) f y e = (x, refl, e)

pub given_there : {A : Type 0} (b : Bool) (x y : A) → given b x ≡ some y → So b × (x ≡ y)
given_there true x y e = (refl, some-injective x y e)
given_there false x y e = absurd (none-ne-some y e)

by_node_lem : {A : Type 0} (f : ℕ → Option A) (g : Option A) (x : Rust.Option Node) (y : A) → by_node f g x ≡ some y
    → ((end : ℕ) × (x ≡ Some (Leaf end)) × (f end ≡ some y)) ⊎ ((x ≡ Some Split) × (g ≡ some y))
by_node_lem f g (Some (Leaf end)) y e = inl (end, refl, e)
by_node_lem f g (Some Split) y e = inr (refl, e)
by_node_lem f g None y e = absurd (none-ne-some y e)

module _ {s : List ℕ} (b : Small s) where
  -- what stands where a node was read
  abbrev NodeThere : ℕ → ℕ → Rust.Option Node → Type 0
  NodeThere limits at (Some (Leaf end)) = (byte_at s at ≡ 0) × (end ≡ at + 1 + limits) × (end ≤ length s)
  NodeThere limits at (Some Split) = (byte_at s at ≡ 1) × (at + 4 ≤ length s)
  NodeThere limits at None = Unit {0}

  node_there : (limits at : ℕ) → NodeThere limits at (node_in s limits at)
  unfolding node_in
  node_there limits at = go (ltb at (length s) && eqb (byte_at s at) 0) (leb (at + 1 + limits) (length s)) (leb (at + 4) (length s) && eqb (byte_at s at) 1) refl refl refl
    where
      go : (x y z : Bool) → (ltb at (length s) && eqb (byte_at s at) 0) ≡ x → leb (at + 1 + limits) (length s) ≡ y → (leb (at + 4) (length s) && eqb (byte_at s at) 1) ≡ z
          → NodeThere limits at (cond x (cond y (Some (Leaf (at + 1 + limits))) None) (cond z (Some Split) None))
      go true true z p q r = (so_eqb (byte_at s at) 0 (and_r (ltb at (length s)) _ p), refl, so_leb _ _ q)
      go true false z p q r = tt
      go false y true p q r = (so_eqb (byte_at s at) 1 (and_r (leb (at + 4) (length s)) _ r), so_leb _ _ (and_l _ _ r))
      go false y false p q r = tt

  pub record Again (at : ℕ) (t : Placed) : Type 0 where
    pub there : Stands s at (encode_tree t.tree)
    pub ends : t.end ≡ at + length (encode_tree t.tree)
    pub width : TreeWidth t.tree

  leaf_again : (limits at end : ℕ) (t : Placed) → NodeThere limits at (Some (Leaf end)) → leaf_in s limits at end ≡ some t → Again at t
  unfolding encode_tree
  leaf_again limits at end t h e = subst (Again at) (some-injective _ _ e) (record {
    there = stands_more 0 ms h.0 here;
    ends = omega (arith, h.1, length_tabulate limits (λ i. byte_at s (at + 1 + i)));
    width = small_in b here;
  })
    where
      ms : List ℕ
      ms = bytes_at (λ b. b) s (at + 1) limits

      here : Stands s (at + 1) ms
      here = bytes_here limits (omega (arith, h.1, h.2))

  split_again : (limits at : ℕ) (l r : Placed) → NodeThere limits at (Some Split) → Again (at + 4) l → Again l.end r
      → Again at (record { tree = split (byte_at s (at + 1)) (num2 s (at + 2)) l.tree r.tree; end = r.end })
  unfolding encode_tree
  split_again limits at l r h p q =
      let z : at + 1 + 1 ≡ at + 2 = omega arith in let y : at + 2 + 2 ≡ at + 4 = omega arith in
      let below = stands_append (encode_tree l.tree) (encode_tree r.tree) p.there (subst (λ e. Stands s e (encode_tree r.tree)) p.ends q.there) in
      record {
        there = stands_more 1 _ h.0 (stands_more _ _ refl (rw z (stands_append (two (num2 s (at + 2))) _ (two_bytes.again b (omega (arith, h.1))) (rw y below))));
        ends = omega (arith, p.ends, q.ends, length-append (encode_tree l.tree) (encode_tree r.tree));
        width = (small_at b (at + 1), two_bytes.fits (at + 2) b, p.width, q.width);
      }

  pub tree_again : (left limits at : ℕ) (t : Placed) → tree_in s left limits at ≡ some t → Again at t
  unfolding tree_in
  tree_again zero limits at t e = elim (by_node_lem (leaf_in s limits at) none (node_in s limits at) t e) [
    | inl w ↦ leaf_again limits at w.0 t (subst (NodeThere limits at) w.1 (node_there limits at)) w.2
    | inr w ↦ absurd (none-ne-some t w.1)
  ]
  tree_again (suc left) limits at t e = elim (by_node_lem (leaf_in s limits at) _ (node_in s limits at) t e) [
    | inl w ↦ leaf_again limits at w.0 t (subst (NodeThere limits at) w.1 (node_there limits at)) w.2
    | inr w ↦ (let l = and_then_lem (tree_in s left (suc limits) (at + 4)) _ t w.1 in let r = and_then_lem (tree_in s left (suc limits) l.0.end) _ t l.2 in
        subst (Again at) (some-injective _ _ r.2) (split_again limits at l.0 r.0 (subst (NodeThere limits at) w.0 (node_there limits at))
        (tree_again left (suc limits) (at + 4) l.0 l.1) (tree_again left (suc limits) l.0.end r.0 r.1)))
  ]
