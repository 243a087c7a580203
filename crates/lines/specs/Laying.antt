-- Numbers of w bytes laid in a buffer, one after another: what each loop of a writer keeps. For any width w.
use Rattle.std.specs.Prelude.{ℕ, ◌+◌, ◌*◌, ◌≤◌, ◌<◌, ◌≡◌, ◌⊎◌, Bool, List, length}
use Rattle.parts.specs.Numbers.{byte_at, num2}
use Rattle.labels.specs.Labels.{name_bytes, names_in}

-- the first n numbers at `at`, as `read` reads them, are those of g, and all other bytes are as in `old`
pub record Laid (w : ℕ) (read : List ℕ → ℕ → ℕ) (at : ℕ) (g : ℕ → ℕ) (old : List ℕ) (n : ℕ) (new : List ℕ) : Type 0 where
  pub whole : length new ≡ length old
  pub numbers : (i : ℕ) → i < n → read new (at + w * i) ≡ g i
  pub others : (p : ℕ) → (p < at) ⊎ (at + w * n ≤ p) → byte_at new p ≡ byte_at old p

-- role masks, and name masks
abbrev pub Masks : ℕ → (ℕ → ℕ) → List ℕ → ℕ → List ℕ → Type 0
Masks = Laid 2 num2

abbrev pub Names : Bool → ℕ → (ℕ → ℕ) → List ℕ → ℕ → List ℕ → Type 0
Names broad = Laid (name_bytes broad) (names_in broad)
