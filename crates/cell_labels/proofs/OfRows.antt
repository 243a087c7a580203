-- An array that is made of what each row gives, and of nothing behind the last.
use Rattle.std.specs.Prelude.{ℕ, ◌≤◌, ◌<◌, ◌≡◌, List, length, get_or}
use Rattle.std.proofs.Common.{arith, lt-ltb, le-ltb}
use Rattle.std.proofs.Math.Decide.{dec_lt}
use Rattle.rows.specs.declared.Row as Held
use Rattle.rows.specs.HeldRows.{first_at}
use Rattle.rows.specs.HeldRows.{held_at}
use Rattle.cell_labels.specs.CellRows.{SixOf, six_made}

pub six_of : {A : Type 0} {v : A → ℕ} {d : A} (rows : List Held.Row) (k : ℕ) (f : Held.Row → ℕ) (out : List A) → length out ≡ 6
    → ((i : ℕ) → i < 6 → (i < k → v (get_or out i d) ≡ f (first_at rows k i)) × (k ≤ i → v (get_or out i d) ≡ 0))
    → SixOf v d (λ i. f (held_at rows i)) k out
six_of rows k f out s h = six_made rows k f out s (λ i l. elim (dec_lt i k) [
  | yes g ↦ rw (lt-ltb i k g) ((h i l).0 g)
  | no g ↦ (let z : k ≤ i = omega arith in rw (le-ltb i k z) ((h i l).1 z))
])
