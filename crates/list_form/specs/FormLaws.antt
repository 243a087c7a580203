-- Bytes that have the form of a record are a step that has it (refusal 10), within the limits of stored refutations.
use Prim.Native.Nat.{ℕ, zero, suc, ◌+◌, ◌-◌, ◌^◌, ◌≤◌}
use Rattle.std.specs.Prelude as Rust
use Rattle.std.specs.Prelude.{Some, None, ◌≡◌, Bool, true, false, cond, ◌&&◌, List, eqb, length}
use Rattle.std.proofs.Math.Path.{refl, subst}
use Rattle.std.proofs.Math.Option.{Option, none, some, some-injective, none-ne-some}
use Rattle.std.proofs.Common.{arith}
use Rattle.std.proofs.Math.Dec.{leb}
use Rattle.std.proofs.Math.Pow.{pow_pos}
use Rattle.logic.specs.Tests.{So, so_and, and_l, and_r, so_leb, leb_so, eqb_so, eqb↔}
use Rattle.logic.specs.Lists.{length_tabulate}
use Rattle.logic.specs.Refusals.{unless}
use Rattle.parts.specs.Numbers.{byte_at, num2}
use Rattle.counting.specs.Trees.{split, formed, depth}
use Rattle.description.specs.Literals.{literal}
use Rattle.refutation.specs.Records.{Counting, Step, counting}
use Rattle.refutation.specs.RecordTests.{stored_refutation, form_test, record_form, when_counting}
use Rattle.list_form.specs.declared.Node.{Node}
use Rattle.list_form.specs.declared.Node.TheVariants.{Leaf, Split}
use Rattle.list_form.specs.ListForm.{Placed, and_then, given, bytes_at, node_in, by_node, leaf_in, tree_in, most_depth, cell_of, tree_at, counting_in, sized, step_of, step_in}

-- a tree that was read has a multiplier for each bound at every leaf, and no more splits than allowed
module _ (ds : List ℕ) where
  abbrev Fine : ℕ → ℕ → Placed → Type 0
  Fine left limits t = So (formed limits t.tree) × (depth t.tree ≤ left)

  leaf_fine : (left limits at end : ℕ) (t : Placed) → leaf_in ds limits at end ≡ some t → Fine left limits t
  unfolding formed depth
  leaf_fine left limits at end t e = subst (Fine left limits) (some-injective _ _ e)
      ((eqb↔ (length (bytes_at (λ b. b) ds (at + 1) limits)) limits).1 (length_tabulate limits (λ i. byte_at ds (at + 1 + i))), omega arith)

  pub tree_fine : (left limits at : ℕ) (t : Placed) → tree_in ds left limits at ≡ some t → Fine left limits t
  unfolding tree_in formed depth
  tree_fine zero limits at t e = go (node_in ds limits at) e
    where
      go : (x : Rust.Option Node) → by_node (leaf_in ds limits at) none x ≡ some t → Fine zero limits t
      go (Some (Leaf end)) q = leaf_fine zero limits at end t q
      go (Some Split) q = absurd (none-ne-some t q)
      go None q = absurd (none-ne-some t q)
  tree_fine (suc left) limits at t e = go (tree_fine left (suc limits)) (node_in ds limits at) e
    where
      made : Placed → Placed → Placed
      made l r = record { tree = split (byte_at ds (at + 1)) (num2 ds (at + 2)) l.tree r.tree; end = r.end }

      Below : Type 0
      Below = (at : ℕ) (t : Placed) → tree_in ds left (suc limits) at ≡ some t → Fine left (suc limits) t

      joined : (l r : Placed) → Fine left (suc limits) l → Fine left (suc limits) r → some (made l r) ≡ some t → Fine (suc left) limits t
      joined l r a b q = subst (Fine (suc left) limits) (some-injective _ _ q)
          (so_and (formed (suc limits) l.tree) (formed (suc limits) r.tree) a.0 b.0, omega (arith, a.1, b.1))

      second : Below → (l : Placed) → Fine left (suc limits) l → (o : Option Placed) → tree_in ds left (suc limits) l.end ≡ o
          → and_then o (λ r. some (made l r)) ≡ some t → Fine (suc left) limits t
      second ih l a none h q = absurd (none-ne-some t q)
      second ih l a (some r) h q = joined l r a (ih l.end r h) q

      first : Below → (o : Option Placed) → tree_in ds left (suc limits) (at + 4) ≡ o
          → and_then o (λ l. and_then (tree_in ds left (suc limits) l.end) (λ r. some (made l r))) ≡ some t → Fine (suc left) limits t
      first ih none h q = absurd (none-ne-some t q)
      first ih (some l) h q = second ih l (ih (at + 4) l h) (tree_in ds left (suc limits) l.end) refl q

      go : Below → (x : Rust.Option Node)
          → by_node (leaf_in ds limits at) (and_then (tree_in ds left (suc limits) (at + 4)) (λ l. and_then (tree_in ds left (suc limits) l.end) (λ r. some (made l r)))) x ≡ some t
          → Fine (suc left) limits t
      go ih (Some (Leaf end)) q = leaf_fine (suc left) limits at end t q
      go ih (Some Split) q = first ih (tree_in ds left (suc limits) (at + 4)) refl q
      go ih None q = absurd (none-ne-some t q)

-- ---- 10 on bytes is 10 of the step
module _ (marks : Bool) (ds : List ℕ) where
  -- where something is given, its test has passed
  given_some : {A : Type 0} (b : Bool) (x y : A) → given b x ≡ some y → So b × (x ≡ y)
  given_some true x y e = (refl, some-injective x y e)
  given_some false x y e = absurd (none-ne-some y e)

  -- a counting step that was read
  made : ℕ → Placed → Counting
  made k t = record { rows = bytes_at literal ds 2 k; cells = bytes_at (cell_of marks) ds (2 + k) (2 ^ k - 1); tree = t.tree }

  made_fine : (k : ℕ) (t : Placed) → 1 ≤ k → k ≤ 6 → Fine ds most_depth k t → So (form_test stored_refutation (made k t))
  unfolding made
  made_fine k t h g f = let z : suc (2 ^ k - 1) ≡ 2 ^ k = omega (arith, pow_pos k) in
      rw (length_tabulate k (λ i. literal (byte_at ds (2 + i))), length_tabulate (2 ^ k - 1) (λ i. cell_of marks (byte_at ds (2 + k + i))), z)
      (so_and _ _ (so_and _ _ (leb_so 1 k h) (so_and _ _ (eqb_so (2 ^ k)) f.0)) (so_and _ _ (leb_so k 6 g) (leb_so (depth t.tree) 8 f.1)))

  passes : (b : Bool) → So b → unless b 10 none ≡ none
  passes b h = rw h refl

  counting_fine : (k : ℕ) (s : Step) → counting_in marks ds k ≡ some s → record_form stored_refutation s ≡ none
  unfolding counting_in when_counting made
  counting_fine k s e = go (leb 1 k && (leb k 6 && leb (tree_at k) (length ds))) refl e
    where
      tree : 1 ≤ k → k ≤ 6 → (o : Option Placed) → tree_in ds most_depth k (tree_at k) ≡ o
          → and_then o (λ t. given (eqb t.end (length ds)) (counting (made k t))) ≡ some s → record_form stored_refutation s ≡ none
      tree h g none q r = absurd (none-ne-some s r)
      tree h g (some t) q r = let w = given_some (eqb t.end (length ds)) (counting (made k t)) s r in
          subst (λ x. record_form stored_refutation x ≡ none) w.1 (passes (form_test stored_refutation (made k t)) (made_fine k t h g (tree_fine ds most_depth k (tree_at k) t q)))

      go : (b : Bool) → (leb 1 k && (leb k 6 && leb (tree_at k) (length ds))) ≡ b
          → cond b (and_then (tree_in ds most_depth k (tree_at k)) (λ t. given (eqb t.end (length ds)) (counting (made k t)))) none ≡ some s → record_form stored_refutation s ≡ none
      go true h r = tree (so_leb 1 k (and_l _ _ h)) (so_leb k 6 (and_l _ _ (and_r (leb 1 k) _ h))) (tree_in ds most_depth k (tree_at k)) refl r
      go false h r = absurd (none-ne-some s r)

  sized_fine : (n : ℕ) (x s : Step) → record_form stored_refutation x ≡ none → sized ds n x ≡ some s → record_form stored_refutation s ≡ none
  sized_fine n x s h e = subst (λ y. record_form stored_refutation y ≡ none) (given_some (eqb (length ds) n) x s e).1 h

  step_fine : (tag : ℕ) (s : Step) → step_of marks ds tag ≡ some s → record_form stored_refutation s ≡ none
  unfolding step_of when_counting
  step_fine zero s e = absurd (none-ne-some s e)
  step_fine (suc zero) s e = sized_fine 2 _ s refl e
  step_fine (suc (suc zero)) s e = sized_fine 3 _ s refl e
  step_fine (suc (suc (suc zero))) s e = sized_fine 4 _ s refl e
  step_fine (suc (suc (suc (suc zero)))) s e = sized_fine 3 _ s refl e
  step_fine (suc (suc (suc (suc (suc zero))))) s e = sized_fine 4 _ s refl e
  step_fine (suc (suc (suc (suc (suc (suc zero)))))) s e = counting_fine (byte_at ds 1) s e
  step_fine (suc (suc (suc (suc (suc (suc (suc k))))))) s e = absurd (none-ne-some s e)

  pub form_fine : (s : Step) → step_in marks ds ≡ some s → record_form stored_refutation s ≡ none
  form_fine s e = step_fine (byte_at ds 0) s e
