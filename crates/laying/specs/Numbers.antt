-- Numbers of several bytes, high byte first (01, opening and "Evidence"): written, and read where they stand. For any width.
use Rattle.std.specs.Prelude.{ℕ, ◌+◌, ◌*◌, ◌/◌, ◌%◌, ◌^◌, ◌≤◌, ◌<◌, ◌≡◌, Bool, cond, List, [], ◌∷◌, ◌++◌, length}
use Rattle.laying.specs.Places.{Stands, Small}

abbrev pub two : ℕ → List ℕ
two n = n / 256 ∷ n % 256 ∷ []

abbrev pub four : ℕ → List ℕ
four n = two (n / 2 ^ 16) ++ two (n % 2 ^ 16)

abbrev pub eight : ℕ → List ℕ
eight n = four (n / 2 ^ 32) ++ four (n % 2 ^ 32)

abbrev pub sixteen : ℕ → List ℕ
sixteen n = eight (n / 2 ^ 64) ++ eight (n % 2 ^ 64)

-- a label, wide or not
unfoldable pub label : Bool → ℕ → List ℕ
label broad n = cond broad (sixteen n) (eight n)

-- numbers of w bytes: as they are written they are read, and they are bytes if the number has no more
pub record Written (w : ℕ) (write : ℕ → List ℕ) (read : List ℕ → ℕ → ℕ) : Type 0 where
  pub long : (n : ℕ) → length (write n) ≡ w
  pub back : {s : List ℕ} {at : ℕ} (n : ℕ) → Stands s at (write n) → read s at ≡ n
  pub small : (n : ℕ) → n < 2 ^ (8 * w) → Small (write n)
  -- and as they are read from bytes they are written, and have no more
  pub again : {s : List ℕ} {at : ℕ} → Small s → at + w ≤ length s → Stands s at (write (read s at))
  pub fits : {s : List ℕ} (at : ℕ) → Small s → read s at < 2 ^ (8 * w)
