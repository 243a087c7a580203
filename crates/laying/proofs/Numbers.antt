-- Numbers of several bytes are read as they were written, at any width.
use Rattle.std.specs.Prelude.{ℕ, ◌+◌, ◌*◌, ◌/◌, ◌%◌, ◌^◌, ◌≤◌, ◌≡◌, refl, Bool, true, false, List, [], ◌∷◌, ◌++◌, length, take, drop}
use Rattle.std.proofs.Common.{sym, ◌∙◌, ap, ap₂, arith, mod-lt, shr_lt, pow_pos, length-append, take-append-drop}
use Rattle.std.proofs.Math.Pow as Pow
use Rattle.std.proofs.Math.Pow.{split}
use Rattle.std.proofs.Math.Seq.{drop-append_seam}
use Rattle.parts.specs.Numbers.{byte_at, num2}
use Rattle.labels.specs.Blocks.{block, block_lt}
use Rattle.labels.specs.Labels.{label_bytes, num8, label_in}
use Rattle.laying.specs.Places.{stands_end, first, second, byte, part, stands_none, stands_append, stands_more, Small}
use Rattle.laying.specs.Places.{small_none, small_more, small_append, small_at}
use Rattle.laying.specs.Numbers.{two, eight, label, Written}

one : Written 1 (λ n. n ∷ []) byte_at
one = record {
  long = λ n. refl;
  back = λ n h. byte n [] h;
  small = λ n h. small_more h small_none;
  again = λ b h. stands_more _ [] refl (stands_none h);
  fits = λ at b. small_at b at;
}

-- twice as wide
twice : {w : ℕ} {write : ℕ → List ℕ} {read : List ℕ → ℕ → ℕ} → Written w write read
    → Written (2 * w) (λ n. write (n / 2 ^ (8 * w)) ++ write (n % 2 ^ (8 * w))) (λ s at. block (8 * w) (read s at) (read s (at + w)))
twice {w} {write} {read} k = record {
  long = λ n. length-append (write (high n)) (write (low n)) ∙ (omega (arith, k.long (high n), k.long (low n)));
  back = λ {s} {at} n h. ap₂ (block (8 * w)) (k.back (high n) (first (write (high n)) (write (low n)) h))
      (k.back (low n) (rw (k.long (high n)) at (second (write (high n)) (write (low n)) h))) ∙ split n (8 * w);
  small = λ n h. let e : 8 * (2 * w) ≡ 8 * w + 8 * w = omega arith in
      small_append (write (high n)) (k.small (high n) (shr_lt (8 * w) (8 * w) (rw e at h))) (k.small (low n) (mod-lt n (pow_pos
      (8 * w))));
  again = λ {s} {at} b h. let l = k.fits (at + w) b in
      rw (Pow.high (read s at) (8 * w) l, Pow.low (read s at) (8 * w) l) (stands_append (write (read s at)) (write (read s (at + w)))
      (k.again b (omega arith)) (rw (k.long (read s at)) (k.again b (omega arith))));
  fits = λ {s} at b. let e : 8 * (2 * w) ≡ 8 * w + 8 * w = omega arith in
      rw e (block_lt (8 * w) (read s at) (read s (at + w)) (k.fits at b) (k.fits (at + w) b));
}
  where
    high : ℕ → ℕ
    high n = n / 2 ^ (8 * w)

    low : ℕ → ℕ
    low n = n % 2 ^ (8 * w)

pub two_bytes : Written 2 two num2
two_bytes = twice one

eight_bytes : Written 8 eight num8
eight_bytes = twice (twice two_bytes)

pub label_bytes_lem : (broad : Bool) → Written (label_bytes broad) (label broad) (label_in broad)
unfolding label label_bytes label_in
label_bytes_lem true = twice eight_bytes
label_bytes_lem false = eight_bytes

-- a label at the front
module _ (broad : Bool) where
  pub label_back : (n : ℕ) (after : List ℕ) → label_in broad (label broad n ++ after) 0 ≡ n
  label_back n after = (label_bytes_lem broad).back n (first (label broad n) after (stands_end [] (label broad n ++ after)))

  pub label_behind : (n : ℕ) (after : List ℕ) → drop (label_bytes broad) (label broad n ++ after) ≡ after
  label_behind n after = ap (λ w. drop w (label broad n ++ after)) (sym ((label_bytes_lem broad).long n)) ∙ drop-append_seam
      (label broad n) after

  pub label_again : {r : List ℕ} (after : List ℕ) → Small r → label_bytes broad ≤ length r → after ≡ drop (label_bytes broad) r
      → label broad (label_in broad r 0) ++ after ≡ r
  label_again {r} after b h e = let n = label_in broad r 0 in
      ap₂ ◌++◌ (sym (part (label broad n) ((label_bytes_lem broad).again {at = 0} b (omega arith))) ∙ ap (λ w. take w r)
      ((label_bytes_lem broad).long n)) e ∙ take-append-drop (label_bytes broad) r
