-- The form of a counting step by where its tree ends, or by 0 where there is no tree.
use Rattle.std.specs.Prelude as Rust
use Rattle.std.specs.Prelude.{ℕ, ◌≤◌, ◌≡◌, refl, Bool, List, eqb, length, Some, None}
use Rattle.std.specs.Option.{unwrap_or}
use Rattle.std.proofs.Common.{◌∙◌, ap, arith, ne_eqb}
use Rattle.list_form.specs.ListForm.{tree_in, tree_at, most_depth, counting_in}
use Rattle.list_form.specs.FormSteps as Steps
use Rattle.list_form.specs.FormSteps.{end_of, formed, tree_missing}

module _ (marks : Bool) (ds : List ℕ) (k : ℕ) where
  pub tree_told : (start q : ℕ) → 1 ≤ k → k ≤ 6 → start ≡ tree_at k → start ≤ length ds → q ≡ unwrap_or (end_of (tree_in ds most_depth k start)) 0
      → eqb q (length ds) ≡ formed (counting_in marks ds k)
  tree_told start q h g s c e = go (end_of (tree_in ds most_depth k start)) refl e
    where
      go : (o : Rust.Option ℕ) → o ≡ end_of (tree_in ds most_depth k start) → q ≡ unwrap_or o 0 → eqb q (length ds) ≡ formed (counting_in marks ds k)
      go None x y = ne_eqb q (length ds) (λ z. omega arith) ∙ tree_missing marks ds k start h g s c x
      go (Some p) x y = ap (λ n. eqb n (length ds)) y ∙ Steps.tree_told marks ds k start p h g s c x
