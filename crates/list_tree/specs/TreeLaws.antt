-- Laws of the walk: a tree closes under its limits exactly if the walk over its bytes ends.
use Prim.Native.Nat.{ℕ, zero, suc, ◌+◌, ◌-◌, ◌^◌, ◌≤◌, ◌<◌}
use Rattle.std.proofs.Math.Path.{◌≡◌, refl, ap, ap₂}
use Rattle.std.proofs.Common.{sym, ◌∙◌, inl, inr, add-one, lt-ltb, le-ltb, pow_mono}
use Rattle.std.specs.Prelude as Rust
use Rattle.std.specs.Prelude.{Some, None, ◌⊎◌, Bool, List, [], ◌∷◌, ◌++◌, ltb, pos}
use Rattle.std.proofs.Math.Bool.{true, false, cond, ◌&&◌}
use Rattle.std.proofs.lemmas.Option.{none-some, same_Some}
use Rattle.std.proofs.Math.Option.{Option, none, some, some-injective, none-ne-some}
use native.Mathlib.Omega.{arith}
use Rattle.std.proofs.Math.Decide.{dec_lt}
use Rattle.std.proofs.Math.Dec.{leb}
use Rattle.std.specs.Int.Signed.{lt_z}
use Rattle.logic.specs.Tests.{So, ◌⇒◌, decide, and_r, so_false, so_leb}
use Rattle.logic.specs.Bounded.{all_cong}
use Rattle.logic.specs.Refusals.{unless}
use Rattle.parts.specs.Numbers.{byte_at, num2}
use Rattle.counting.specs.Trees as Counting
use Rattle.counting.specs.Trees.{Tree, leaf, split, lower, upper, weight, gap, live, leaf_test, tree_test, at_most, more_than}
use Rattle.list_form.specs.ListForm.{Placed, bytes_at, node_in, tree_in, and_then, given}
use Rattle.list_form.specs.FormSteps.{tree_past}
use Rattle.list_form.specs.declared.Node.{Node}
use Rattle.list_form.specs.declared.Node.TheVariants.{Leaf, Split}
use Rattle.list_tree.specs.declared.Fit.{Fit}
use Rattle.list_tree.specs.declared.Fit.TheVariants.{Closing, Splitting}
use Rattle.list_leaf.specs.Leaf.{marked}
use Rattle.list_leaf.specs.OpenLaws.{Among}
use Rattle.list_tree.specs.ListTree.{value_fits}
use Rattle.list_tree.specs.TreeSteps.{split_test, fit, fit_node, fit_refusal, is_fit, closed_in, end_of}

-- ---- the case of a node has the number of the case
pub fit_told : (x y : Rust.Option Fit) → x ≡ y → (x ≡ y) × (fit_refusal x ≡ unless (is_fit y) 19 none)
fit_told x y e = (e, ap fit_refusal e ∙ go y)
  where
    go : (y : Rust.Option Fit) → fit_refusal y ≡ unless (is_fit y) 19 none
    go (Some x) = refl
    go None = refl

-- ---- what an end says
closed_past : (ds : List ℕ) (k : ℕ) (open? : ℕ → Bool) (left n : ℕ) (ls : List Counting.Limit) (at p : ℕ) → closed_in ds k open? left n ls at ≡ some p → 0 < p
unfolding closed_in
closed_past ds k open? left n ls at p e = go (tree_in ds left n at) refl e
  where
    there : (b : Bool) (t : Placed) → 0 < t.end → given b t.end ≡ some p → 0 < p
    there true t h q = let z : t.end ≡ p = some-injective _ _ q in omega (arith, z, h)
    there false t h q = absurd (none-ne-some p q)

    go : (o : Option Placed) → tree_in ds left n at ≡ o → and_then o (λ t. given (tree_test (2 ^ k) open? value_fits ls t.tree) t.end) ≡ some p → 0 < p
    go none h q = absurd (none-ne-some p q)
    go (some t) h q = there (tree_test (2 ^ k) open? value_fits ls t.tree) t (tree_past ds left n at t h) q

end_none : (o : Option ℕ) → None ≡ end_of o → o ≡ none
end_none none e = refl
end_none (some p) e = absurd (none-some p e)

end_some : (o : Option ℕ) (p : ℕ) → Some p ≡ end_of o → o ≡ some p
end_some none p e = absurd (none-some p (sym e))
end_some (some q) p e = ap some (sym (same_Some _ _ e))

given_all : (b a e : Bool) (x : ℕ) (f : ℕ → Option ℕ) (p : ℕ) → f p ≡ given e x → given (b && (a && e)) x ≡ cond b (and_then (given a p) f) none
given_all true true e x f p q = sym q
given_all true false e x f p q = refl
given_all false a e x f p q = refl

given_none : (b a : Bool) (f : ℕ → Option ℕ) (p : ℕ) → f p ≡ none → none ≡ cond b (and_then (given a p) f) none
given_none true true f p q = sym q
given_none true false f p q = refl
given_none false a f p q = refl

module _ (ds : List ℕ) (k : ℕ) (open? : ℕ → Bool) (n : ℕ) (ls : List Counting.Limit) (at : ℕ) where
  abbrev cell : ℕ
  cell = byte_at ds (at + 1)

  abbrev value : ℕ
  value = num2 ds (at + 2)

  abbrev lows : List Counting.Limit
  lows = ls ++ (at_most cell value ∷ [])

  abbrev highs : List Counting.Limit
  highs = ls ++ (more_than cell value ∷ [])

  -- the tests of a leaf and of a split there, and the walk over the tree there
  abbrev leaf_here : Bool
  leaf_here = leaf_test (2 ^ k) open? ls (bytes_at (λ b. b) ds (at + 1) n)

  abbrev split_here : Bool
  split_here = split_test k open? cell value

  abbrev walk : ℕ → Option ℕ
  walk left = closed_in ds k open? left n ls at

  abbrev node : Rust.Option Fit
  node = fit_node ds k open? n ls at

  -- ---- the node
  pub fit_leaf : (end : ℕ) (t : Bool) → Some (Leaf end) ≡ node_in ds n at → t ≡ leaf_here → cond t (Some (Closing end)) None ≡ node
  unfolding fit_node
  fit_leaf end t e q = rw (← e, ← q) refl

  pub fit_split : (t : Bool) → Some Split ≡ node_in ds n at → t ≡ split_here → cond t (Some Splitting) None ≡ node
  unfolding fit_node
  fit_split t e q = rw (← e, ← q) refl

  pub fit_off : None ≡ node_in ds n at → None ≡ node
  unfolding fit_node
  fit_off e = rw (← e) refl

  -- ---- a split: its two halves, one after the other
  closed_split : (left : ℕ) → Some Split ≡ node_in ds n at
      → walk (suc left) ≡ cond split_here (and_then (closed_in ds k open? left (suc n) lows (at + 4)) (λ p. closed_in ds k open? left (suc n) highs p)) none
  unfolding closed_in tree_in tree_test
  closed_split left e = rw (← e) (first (tree_in ds left (suc n) (at + 4)))
    where
      made : Placed → Placed → Placed
      made l r = record { tree = split cell value l.tree r.tree; end = r.end }

      under : List Counting.Limit → Placed → Bool
      under xs t = tree_test (2 ^ k) open? value_fits xs t.tree

      tested : List Counting.Limit → Placed → Option ℕ
      tested xs t = given (under xs t) t.end

      rest : ℕ → Option ℕ
      rest p = and_then (tree_in ds left (suc n) p) (tested highs)

      second : (l : Placed) (o : Option Placed) → tree_in ds left (suc n) l.end ≡ o
          → and_then (and_then o (λ r. some (made l r))) (tested ls) ≡ cond split_here (and_then (tested lows l) rest) none
      second l none h = given_none split_here (under lows l) rest l.end (rw h refl)
      second l (some r) h = given_all split_here (under lows l) (under highs r) r.end rest l.end (rw h refl)

      shut : (b : Bool) → ◌≡◌ {A = Option ℕ} none (cond b none none)
      shut true = refl
      shut false = refl

      first : (o : Option Placed) → and_then (and_then o (λ l. and_then (tree_in ds left (suc n) l.end) (λ r. some (made l r)))) (tested ls)
          ≡ cond split_here (and_then (and_then o (tested lows)) rest) none
      first none = shut split_here
      first (some l) = second l (tree_in ds left (suc n) l.end) refl

  -- ---- the other nodes
  closed_at_leaf : (left end : ℕ) → Some (Leaf end) ≡ node_in ds n at → walk left ≡ given leaf_here end
  unfolding closed_in tree_in tree_test
  closed_at_leaf zero end e = rw (← e) refl
  closed_at_leaf (suc left) end e = rw (← e) refl

  closed_at_off : (left : ℕ) → None ≡ node_in ds n at → walk left ≡ none
  unfolding closed_in tree_in
  closed_at_off zero e = rw (← e) refl
  closed_at_off (suc left) e = rw (← e) refl

  closed_too_deep : Some Split ≡ node_in ds n at → walk zero ≡ none
  unfolding closed_in tree_in
  closed_too_deep e = rw (← e) refl

  -- ---- by the node that fits
  pub fit_is_split : Some Splitting ≡ node → (Some Split ≡ node_in ds n at) × (split_here ≡ true)
  unfolding fit_node
  fit_is_split e = go (node_in ds n at) refl e
    where
      split_on : (b : Bool) → split_here ≡ b → Some Splitting ≡ cond b (Some Splitting) None → split_here ≡ true
      split_on true h q = h
      split_on false h q = absurd (let z : ◌≡◌ {A = ℕ} 0 1 = cc in omega arith)

      no_leaf : (b : Bool) (end : ℕ) → Some Splitting ≡ cond b (Some (Closing end)) None → ⊥
      no_leaf true end q = let z : ◌≡◌ {A = ℕ} 0 1 = cc in omega arith
      no_leaf false end q = let z : ◌≡◌ {A = ℕ} 0 1 = cc in omega arith

      go : (x : Rust.Option Node) → x ≡ node_in ds n at → Some Splitting ≡ fit ds k open? n ls at x → (Some Split ≡ node_in ds n at) × (split_here ≡ true)
      go (Some (Leaf end)) h q = absurd (no_leaf leaf_here end q)
      go (Some Split) h q = (h, split_on split_here refl q)
      go None h q = absurd (let z : ◌≡◌ {A = ℕ} 0 1 = cc in omega arith)

  pub closed_leaf : (left end : ℕ) → Some (Closing end) ≡ node → Some end ≡ end_of (walk left)
  unfolding fit_node
  closed_leaf left end e = go (node_in ds n at) refl e
    where
      leaf_on : (f : ℕ) (b : Bool) → leaf_here ≡ b → Some (Leaf f) ≡ node_in ds n at → Some (Closing end) ≡ cond b (Some (Closing f)) None → Some end ≡ end_of (walk left)
      leaf_on f true h x q = let z : end ≡ f = cc in rw (closed_at_leaf left f x, h) (ap Some z)
      leaf_on f false h x q = absurd (let z : ◌≡◌ {A = ℕ} 0 1 = cc in omega arith)

      no_split : (b : Bool) → Some (Closing end) ≡ cond b (Some Splitting) None → ⊥
      no_split true q = let z : ◌≡◌ {A = ℕ} 0 1 = cc in omega arith
      no_split false q = let z : ◌≡◌ {A = ℕ} 0 1 = cc in omega arith

      go : (x : Rust.Option Node) → x ≡ node_in ds n at → Some (Closing end) ≡ fit ds k open? n ls at x → Some end ≡ end_of (walk left)
      go (Some (Leaf f)) h q = leaf_on f leaf_here refl h q
      go (Some Split) h q = absurd (no_split split_here q)
      go None h q = absurd (let z : ◌≡◌ {A = ℕ} 0 1 = cc in omega arith)

  pub closed_off : (left : ℕ) → None ≡ node → None ≡ end_of (walk left)
  unfolding fit_node
  closed_off left e = ap end_of (sym (go (node_in ds n at) refl e))
    where
      leaf_open : (f : ℕ) (b : Bool) → leaf_here ≡ b → Some (Leaf f) ≡ node_in ds n at → None ≡ cond b (Some (Closing f)) None → walk left ≡ none
      leaf_open f true h x q = absurd (let z : ◌≡◌ {A = ℕ} 0 1 = cc in omega arith)
      leaf_open f false h x q = closed_at_leaf left f x ∙ rw h refl

      split_off : (left : ℕ) (b : Bool) → split_here ≡ b → Some Split ≡ node_in ds n at → None ≡ cond b (Some Splitting) None → walk left ≡ none
      split_off left true h x q = absurd (let z : ◌≡◌ {A = ℕ} 0 1 = cc in omega arith)
      split_off zero false h x q = closed_too_deep x
      split_off (suc left) false h x q = closed_split left x ∙ rw h refl

      go : (x : Rust.Option Node) → x ≡ node_in ds n at → None ≡ fit ds k open? n ls at x → walk left ≡ none
      go (Some (Leaf f)) h q = leaf_open f leaf_here refl h q
      go (Some Split) h q = split_off left split_here refl h q
      go None h q = closed_at_off left h

  pub closed_deep : (left : ℕ) → left ≡ 0 → Some Splitting ≡ node → None ≡ end_of (walk left)
  closed_deep left z e = rw (z, closed_too_deep (fit_is_split e).0) refl

  -- a split that fits: its first half, and then its second
  module _ (left : ℕ) (e : Some Splitting ≡ node) (h : left ≡ 0 → ⊥) where
    abbrev walk_under : List Counting.Limit → ℕ → Option ℕ
    walk_under xs p = closed_in ds k open? (left - 1) (n + 1) xs p

    halves : walk left ≡ and_then (walk_under lows (at + 4)) (λ p. walk_under highs p)
    halves = let z : left ≡ suc (left - 1) = omega arith in let s = fit_is_split e in
        ap walk z ∙ closed_split (left - 1) s.0 ∙ rw (s.1, add-one n) refl

    pub closed_first : (xs : List Counting.Limit) → xs ≡ lows → None ≡ end_of (walk_under xs (at + 4)) → None ≡ end_of (walk left)
    closed_first xs x q = rw (halves, ← x, end_none (walk_under xs (at + 4)) q) refl

    pub closed_second : (xs ys : List Counting.Limit) (p : ℕ) (r : Rust.Option ℕ) → xs ≡ lows → ys ≡ highs
        → Some p ≡ end_of (walk_under xs (at + 4)) → r ≡ end_of (walk_under ys p) → r ≡ end_of (walk left)
    closed_second xs ys p r x y q t = t ∙ rw (halves, ← x, ← y, end_some (walk_under xs (at + 4)) p q) refl

-- ---- a split's test
pub split_among : (k : ℕ) (marks : List Bool) (c v : ℕ) → k ≤ 6 → Among k marks → (ltb c 64 && (marked marks c && value_fits v)) ≡ split_test k (marked marks) c v
split_among k marks c v h a = go (decide (marked marks c))
  where
    shut : (x y z f : Bool) → (x && (false && f)) ≡ (y && ((z && false) && f))
    shut true true true f = refl
    shut true true false f = refl
    shut true false z f = refl
    shut false true true f = refl
    shut false true false f = refl
    shut false false z f = refl

    go : So (marked marks c) ⊎ (So (marked marks c) → ⊥) → (ltb c 64 && (marked marks c && value_fits v)) ≡ split_test k (marked marks) c v
    go (inl m) = let w : 2 ^ k ≤ 2 ^ 6 = pow_mono h in let l = a.below c m in let g : c < 64 = omega arith in
        rw (m, lt-ltb c 64 g, lt-ltb c (2 ^ k) l, lt-ltb 0 c (a.above c m)) refl
    go (inr m) = rw (so_false (marked marks c) m) (shut (ltb c 64) (ltb c (2 ^ k)) (ltb 0 c) (value_fits v))

pub split_value : (k : ℕ) (open? : ℕ → Bool) (c v : ℕ) → split_test k open? c v ≡ true → v ≤ 1000
split_value k open? c v h = so_leb v 1000 (and_r (live open? c) _ (and_r (ltb c (2 ^ k)) _ h))

-- ---- a tree over the same open cells
module _ (n : ℕ) (open? also? : ℕ → Bool) (fits : ℕ → Bool) (same : (c : ℕ) → c < n → live open? c ≡ live also? c) where
  test_same : (ls : List Counting.Limit) (t : Tree) → tree_test n open? fits ls t ≡ tree_test n also? fits ls t
  unfolding tree_test leaf_test
  test_same ls (leaf ms) = ap (λ b. b && lt_z (pos 0) (gap ls ms)) (all_cong n (λ c. live open? c ⇒ leb (weight lower ls ms c) (weight upper ls ms c))
      (λ c. live also? c ⇒ leb (weight lower ls ms c) (weight upper ls ms c)) (λ c l. rw (same c l) refl))
  test_same ls (split c v l r) = ap₂ ◌&&◌ (here (dec_lt c n)) (ap₂ ◌&&◌ (test_same (ls ++ (at_most c v ∷ [])) l) (test_same (ls ++ (more_than c v ∷ [])) r))
    where
      here : Dec (c < n) → (ltb c n && (live open? c && fits v)) ≡ (ltb c n && (live also? c && fits v))
      here (yes h) = rw (same c h) refl
      here (no h) = let g : n ≤ c = omega arith in rw (le-ltb c n g) refl

pub closed_same : (ds : List ℕ) (k : ℕ) (open? also? : ℕ → Bool) (left n : ℕ) (ls : List Counting.Limit) (at : ℕ) → ((c : ℕ) → c < 2 ^ k → live open? c ≡ live also? c)
    → closed_in ds k open? left n ls at ≡ closed_in ds k also? left n ls at
unfolding closed_in
closed_same ds k open? also? left n ls at h = go (tree_in ds left n at)
  where
    go : (o : Option Placed) → and_then o (λ t. given (tree_test (2 ^ k) open? value_fits ls t.tree) t.end) ≡ and_then o (λ t. given (tree_test (2 ^ k) also? value_fits ls t.tree) t.end)
    go none = refl
    go (some t) = ap (λ b. given b t.end) (test_same (2 ^ k) open? also? value_fits h ls t.tree)
