-- A list of n elements whose first i are those of a function: the invariant of a loop that fills an array, one store a turn.
use Rattle.std.specs.Prelude.{ℕ, ◌+◌, ◌<◌, List, ◌≡◌, length, get_or, set}
use Rattle.std.proofs.Common.{◌∙◌, arith, length-set, get_or-set_same, get_or-set_other}
use Rattle.std.proofs.Math.Decide.{dec_lt}

-- d stands past the end
pub record FilledBy {A : Type 0} (d : A) (n : ℕ) (f : ℕ → A) (i : ℕ) (out : List A) : Type 0 where
  pub size : length out ≡ n
  pub at : (m : ℕ) → m < i → get_or out m d ≡ f m

abbrev pub Filled : ℕ → (ℕ → ℕ) → ℕ → List ℕ → Type 0
Filled = FilledBy 0

pub filled_none : {A : Type 0} {d : A} (n : ℕ) (f : ℕ → A) (out : List A) → length out ≡ n → FilledBy d n f 0 out
filled_none n f out e = record { size = e; at = λ m h. absurd (omega arith) }

pub filled_more : {A : Type 0} {d : A} {n : ℕ} {f : ℕ → A} {i : ℕ} {out : List A} (v : A) → i < n → v ≡ f i → FilledBy d n f i out → FilledBy d n f (i + 1) (set out i v)
filled_more {A} {d} {n} {f} {i} {out} v h e r = record { size = simp length-set r.size; at = λ m hm. go m hm (dec_lt m i) }
  where
    go : (m : ℕ) → m < i + 1 → Dec (m < i) → get_or (set out i v) m d ≡ f m
    go m hm (yes l) = get_or-set_other out i m v d (λ q. omega arith) ∙ r.at m l
    go m hm (no l) =
        let z : m ≡ i = omega arith in
        rw z (get_or-set_same out i v d (omega (arith, r.size)) ∙ e)
