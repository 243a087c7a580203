-- The order of refusals: the first test of a chain that fails, and the first record of several that is refused.
use Prim.Native.Nat.{ℕ, zero, suc, ◌+◌, ◌-◌, ◌≤◌, ◌<◌}
use Rattle.std.specs.Prelude.{◌≡◌, ◌↔◌, Bool, true, false}
use Rattle.std.proofs.Math.Path.{refl}
use Rattle.std.proofs.Common.{sym, ◌∙◌, ap, subst, zero-add, add-zero}
use Rattle.std.proofs.lemmas.Bool.{false≢true}
use Rattle.std.proofs.Math.Option.{Option, none, some, none-ne-some}
use native.Mathlib.Omega.{arith}
use Rattle.std.proofs.Math.Decide.{dec_lt}
use Rattle.std.proofs.Math.Nat.{sub-zero}
use Rattle.logic.specs.Tests.{So}

-- a refusal's number in the table, and the record that it names
pub record Refusal : Type 0 where
  pub number : ℕ
  pub place : ℕ

-- the number, unless the test passes; then what comes after
abbrev pub unless : Bool → ℕ → Option ℕ → Option ℕ
unless true n later = later
unless false n later = some n

-- the refusal of the record i with that number, or what comes after
abbrev pub refuse : ℕ → Option ℕ → Option Refusal → Option Refusal
refuse i none later = later
refuse i (some n) later = some (record { number = n; place = i })

-- the records i, i + 1, … of which k are left, rising
unfoldable pub refuse_from : (ℕ → Option ℕ) → ℕ → ℕ → Option Refusal → Option Refusal
refuse_from f zero i later = later
refuse_from f (suc k) i later = refuse i (f i) (refuse_from f k (i + 1) later)

pub unless↔ : (b : Bool) (n : ℕ) (later : Option ℕ) → (unless b n later ≡ none) ↔ (So b × (later ≡ none))
unless↔ true n later = (λ e. (refl, e), λ h. h.1)
unless↔ false n later = (λ e. absurd (none-ne-some n (sym e)), λ h. absurd (false≢true h.0))

-- what comes after matters only where the test passes
pub unless_then : (a b : Bool) (n : ℕ) (x y : Option ℕ) → a ≡ b → (So a → x ≡ y) → unless a n x ≡ unless b n y
unless_then true b n x y e h = rw (← e) (h refl)
unless_then false b n x y e h = rw (← e) refl

pub refuse↔ : (i : ℕ) (o : Option ℕ) (later : Option Refusal) → (refuse i o later ≡ none) ↔ ((o ≡ none) × (later ≡ none))
refuse↔ i none later = (λ e. (refl, e), λ h. h.1)
refuse↔ i (some n) later = (λ e. absurd (none-ne-some _ (sym e)), λ h. absurd (none-ne-some n (sym h.0)))

-- none of n records is refused, and nothing after them
pub records↔ : (f : ℕ → Option ℕ) (n : ℕ) (later : Option Refusal) → (refuse_from f n 0 later ≡ none) ↔ (((j : ℕ) → j < n → f j ≡ none) × (later ≡ none))
unfolding refuse_from
records↔ f n later = (
  λ h. let r = out n 0 h in (λ j l. rw zero-add at (r.0 j l), r.1),
  λ h. back n 0 (λ j l. rw zero-add (h.0 j l)) h.1,
)
  where
    out : (k i : ℕ) → refuse_from f k i later ≡ none → ((j : ℕ) → j < k → f (i + j) ≡ none) × (later ≡ none)
    out zero i h = (λ j l. absurd (omega arith), h)
    out (suc k) i h = let w = (refuse↔ i (f i) (refuse_from f k (i + 1) later)).0 h in let r = out k (i + 1) w.1 in (at r w.0, r.1)
      where
        at : ((j : ℕ) → j < k → f (i + 1 + j) ≡ none) × (later ≡ none) → f i ≡ none → (j : ℕ) → j < suc k → f (i + j) ≡ none
        at r z zero l = rw add-zero z
        at r z (suc j) l = let e : i + suc j ≡ i + 1 + j = omega arith in rw e (r.0 j (omega arith))

    back : (k i : ℕ) → ((j : ℕ) → j < k → f (i + j) ≡ none) → later ≡ none → refuse_from f k i later ≡ none
    back zero i h z = z
    back (suc k) i h z = (refuse↔ i (f i) (refuse_from f k (i + 1) later)).1 (
      rw add-zero at (h 0 (omega arith)),
      back k (i + 1) (λ j l. let e : i + 1 + j ≡ i + suc j = omega arith in rw e (h (suc j) (omega arith))) z,
    )

-- the first of two refusals, in the order of the table
abbrev pub first_of : Option Refusal → Option Refusal → Option Refusal
first_of none later = later
first_of (some x) later = some x

pub first↔ : (o later : Option Refusal) → (first_of o later ≡ none) ↔ ((o ≡ none) × (later ≡ none))
first↔ none later = (λ e. (refl, e), λ h. h.1)
first↔ (some x) later = (λ e. absurd (none-ne-some x (sym e)), λ h. absurd (none-ne-some x (sym h.0)))

-- ---- for loops over rising records that stop at the first refusal
-- what comes after does not matter where something refuses
pub refuse_some : (i : ℕ) (o : Option ℕ) (later : Option Refusal) (z : Refusal) → refuse i o none ≡ some z → refuse i o later ≡ some z
refuse_some i none later z e = absurd (none-ne-some z e)
refuse_some i (some n) later z e = e

pub refuse_none : (i : ℕ) (o : Option ℕ) (later : Option Refusal) → refuse i o none ≡ none → refuse i o later ≡ later
refuse_none i o later e = rw ((refuse↔ i o none).0 e).0 refl

-- and matters alone where nothing does
pub refuse_then : (i : ℕ) (o : Option ℕ) (x y : Option Refusal) → (o ≡ none → x ≡ y) → refuse i o x ≡ refuse i o y
refuse_then i none x y h = h refl
refuse_then i (some n) x y h = refl

-- one test of a record
pub test_passes : (i n : ℕ) (b : Bool) → b ≡ true → refuse i (unless b n none) none ≡ none
test_passes i n b e = rw e refl

pub test_refuses : (i n : ℕ) (b : Bool) → b ≡ false → refuse i (unless b n none) none ≡ some (record { number = n; place = i })
test_refuses i n b e = rw e refl

module _ (f : ℕ → Option ℕ) (later : Option Refusal) where
  pub records_start : (n : ℕ) → refuse_from f (n - 0) 0 later ≡ refuse_from f n 0 later
  records_start n = rw sub-zero refl

  pub records_on : (n i : ℕ) → i < n → refuse i (f i) none ≡ none → refuse_from f (n - i) i later ≡ refuse_from f (n - (i + 1)) (i + 1) later
  unfolding refuse_from
  records_on n i h e = let z : n - i ≡ suc (n - (i + 1)) = omega arith in rw (z, ((refuse↔ i (f i) none).0 e).0) refl

  pub records_stop : (n i : ℕ) (z : Refusal) → i < n → refuse i (f i) none ≡ some z → refuse_from f (n - i) i later ≡ some z
  unfolding refuse_from
  records_stop n i z h e = let k : n - i ≡ suc (n - (i + 1)) = omega arith in rw k (refuse_some i (f i) (refuse_from f (n - (i + 1)) (i + 1) later) z e)

  pub records_end : (n i : ℕ) → n ≤ i → refuse_from f (n - i) i later ≡ later
  unfolding refuse_from
  records_end n i h = let z : n - i ≡ 0 = omega arith in rw z refl

-- the records from i on, then what comes after
pub records_then : (f : ℕ → Option ℕ) (k i : ℕ) (later : Option Refusal) → refuse_from f k i none ≡ none → refuse_from f k i later ≡ later
unfolding refuse_from
records_then f zero i later e = refl
records_then f (suc k) i later e = let w = (refuse↔ i (f i) (refuse_from f k (i + 1) none)).0 e in rw w.0 (records_then f k (i + 1) later w.1)

pub records_refused : (f : ℕ → Option ℕ) (k i : ℕ) (later : Option Refusal) (z : Refusal) → refuse_from f k i none ≡ some z → refuse_from f k i later ≡ some z
unfolding refuse_from
records_refused f zero i later z e = absurd (none-ne-some z e)
records_refused f (suc k) i later z e = go (f i) (records_refused f k (i + 1) later z) e
  where
    go : (o : Option ℕ) → (refuse_from f k (i + 1) none ≡ some z → refuse_from f k (i + 1) later ≡ some z)
        → refuse i o (refuse_from f k (i + 1) none) ≡ some z → refuse i o (refuse_from f k (i + 1) later) ≡ some z
    go none on q = on q
    go (some n) on q = q

-- tests that agree on the records that there are
pub records_cong : (f g : ℕ → Option ℕ) (k i : ℕ) (later : Option Refusal) → ((j : ℕ) → i ≤ j → j < i + k → f j ≡ g j) → refuse_from f k i later ≡ refuse_from g k i later
unfolding refuse_from
records_cong f g zero i later h = refl
records_cong f g (suc k) i later h = rw (h i (omega arith) (omega arith)) (ap (refuse i (g i)) (records_cong f g k (i + 1) later (λ j a b. h j (omega arith) (omega arith))))

-- what comes after the records matters only where none of them is refused
pub records_later : (f : ℕ → Option ℕ) (k i : ℕ) (x y : Option Refusal) → (((j : ℕ) → i ≤ j → j < i + k → f j ≡ none) → x ≡ y) → refuse_from f k i x ≡ refuse_from f k i y
unfolding refuse_from
records_later f zero i x y h = h (λ j a b. absurd (omega arith))
records_later f (suc k) i x y h = refuse_then i (f i) (refuse_from f k (i + 1) x) (refuse_from f k (i + 1) y)
    (λ e. records_later f k (i + 1) x y (λ pass. h (λ j a b. elim (dec_lt i j) [
      | yes l ↦ pass j (omega arith) (omega arith)
      | no l ↦ (let z : i ≡ j = omega arith in rw z at e)
    ])))
