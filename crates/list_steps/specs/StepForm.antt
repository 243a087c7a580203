-- The step of bytes that have the form of one, by its first byte.
use Prim.Native.Nat.{ℕ, zero, suc, ◌+◌, ◌-◌, ◌^◌, ◌≤◌}
use Rattle.std.specs.Prelude.{◌≡◌, Bool, false, cond, ◌&&◌, List, eqb, length}
use Rattle.std.proofs.Math.Path.{refl, sym, ap}
use Rattle.std.proofs.Common.{◌∙◌}
use Rattle.std.proofs.Math.Bool.{true}
use Rattle.std.proofs.lemmas.Bool.{false≢true}
use Rattle.std.proofs.Math.Option.{Option, none, some}
use Rattle.std.proofs.Math.Dec.{leb}
use Rattle.logic.specs.Tests.{and_l, and_r, so_leb}
use Rattle.parts.specs.Numbers.{byte_at}
use Rattle.description.specs.Literals.{literal}
use Rattle.refutation.specs.Records.{Counting, Step, contradiction, conjunction, disjunction, by_rule, case_split, counting}
use Rattle.list_form.specs.ListForm.{Placed, and_then, given, bytes_at, cell_of, tree_in, tree_at, most_depth, counting_in, sized, step_of, step_in}
use Rattle.list_form.specs.FormSteps.{formed}

-- a counting step, but for its tree
abbrev pub with_tree : Bool → List ℕ → ℕ → Placed → Counting
with_tree marks ds k t = record { rows = bytes_at literal ds 2 k; cells = bytes_at (cell_of marks) ds (2 + k) (2 ^ k - 1); tree = t.tree }

module _ (marks : Bool) (ds : List ℕ) (f : formed (step_in marks ds) ≡ true) where
  given_is : (b : Bool) (x : Step) → formed (given b x) ≡ true → given b x ≡ some x
  given_is true x h = refl
  given_is false x h = absurd (false≢true h)

  sized_is : (tag n : ℕ) (x : Step) → byte_at ds 0 ≡ tag → step_of marks ds tag ≡ sized ds n x → step_in marks ds ≡ some x
  sized_is tag n x e q = let z = ap (step_of marks ds) e ∙ q in z ∙ given_is (eqb (length ds) n) x (ap formed (sym z) ∙ f)

  pub step_1_is : byte_at ds 0 ≡ 1 → step_in marks ds ≡ some (contradiction (literal (byte_at ds 1)))
  unfolding step_of
  step_1_is e = sized_is 1 2 _ e refl

  pub step_2_is : byte_at ds 0 ≡ 2 → step_in marks ds ≡ some (conjunction (byte_at ds 1) (byte_at ds 2))
  unfolding step_of
  step_2_is e = sized_is 2 3 _ e refl

  pub step_3_is : byte_at ds 0 ≡ 3 → step_in marks ds ≡ some (disjunction (byte_at ds 1) (byte_at ds 2) (byte_at ds 3))
  unfolding step_of
  step_3_is e = sized_is 3 4 _ e refl

  pub step_4_is : byte_at ds 0 ≡ 4 → step_in marks ds ≡ some (by_rule (byte_at ds 1) (byte_at ds 2))
  unfolding step_of
  step_4_is e = sized_is 4 3 _ e refl

  pub step_5_is : byte_at ds 0 ≡ 5 → step_in marks ds ≡ some (case_split (byte_at ds 1) (byte_at ds 2) (byte_at ds 3))
  unfolding step_of
  step_5_is e = sized_is 5 4 _ e refl

  -- any other first byte is 6
  pub rest_is : (n : ℕ) → n ≡ byte_at ds 0 → (n ≡ 1 → ⊥) → (n ≡ 2 → ⊥) → (n ≡ 3 → ⊥) → (n ≡ 4 → ⊥) → (n ≡ 5 → ⊥) → byte_at ds 0 ≡ 6
  unfolding step_of
  rest_is n p h1 h2 h3 h4 h5 = go n p (ap (λ m. formed (step_of marks ds m)) p ∙ f)
    where
      go : (m : ℕ) → m ≡ byte_at ds 0 → formed (step_of marks ds m) ≡ true → byte_at ds 0 ≡ 6
      go zero q g = absurd (false≢true g)
      go (suc zero) q g = absurd (h1 (p ∙ sym q))
      go (suc (suc zero)) q g = absurd (h2 (p ∙ sym q))
      go (suc (suc (suc zero))) q g = absurd (h3 (p ∙ sym q))
      go (suc (suc (suc (suc zero)))) q g = absurd (h4 (p ∙ sym q))
      go (suc (suc (suc (suc (suc zero))))) q g = absurd (h5 (p ∙ sym q))
      go (suc (suc (suc (suc (suc (suc zero)))))) q g = sym q
      go (suc (suc (suc (suc (suc (suc (suc m))))))) q g = absurd (false≢true g)

  -- 6 has 1 to 6 rows, and a tree
  pub step_6_is : byte_at ds 0 ≡ 6 → let k = byte_at ds 1 in
      (t : Placed) × (1 ≤ k) × (k ≤ 6) × (tree_in ds most_depth k (tree_at k) ≡ some t) ×
      (step_in marks ds ≡ some (counting (with_tree marks ds k t)))
  unfolding step_of counting_in
  step_6_is e = let z = ap (step_of marks ds) e in
      let w = go (leb 1 k && (leb k 6 && leb (tree_at k) (length ds))) refl (ap formed (sym z) ∙ f) in (w.0, w.1, w.2, w.3, z ∙ w.4)
    where
      k : ℕ
      k = byte_at ds 1

      next : Option Placed → Option Step
      next o = and_then o (λ t. given (eqb t.end (length ds)) (counting (with_tree marks ds k t)))

      tree : (o : Option Placed) → tree_in ds most_depth k (tree_at k) ≡ o → formed (next o) ≡ true
          → (t : Placed) × (tree_in ds most_depth k (tree_at k) ≡ some t) × (next o ≡ some (counting (with_tree marks ds k t)))
      tree none q g = absurd (false≢true g)
      tree (some t) q g = (t, q, given_is (eqb t.end (length ds)) (counting (with_tree marks ds k t)) g)

      go : (b : Bool) → (leb 1 k && (leb k 6 && leb (tree_at k) (length ds))) ≡ b → formed (cond b (next (tree_in ds most_depth k (tree_at k))) none) ≡ true
          → (t : Placed) × (1 ≤ k) × (k ≤ 6) × (tree_in ds most_depth k (tree_at k) ≡ some t)
          × (cond b (next (tree_in ds most_depth k (tree_at k))) none ≡ some (counting (with_tree marks ds k t)))
      go true h g = let w = tree (tree_in ds most_depth k (tree_at k)) refl g in
          (w.0, so_leb 1 k (and_l _ _ h), so_leb k 6 (and_l _ _ (and_r (leb 1 k) _ h)), w.1, w.2)
      go false h g = absurd (false≢true g)
