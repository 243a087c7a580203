-- A row takes over from another.
use Rattle.std.specs.Prelude.{ℕ, ◌+◌, ◌*◌, ◌/◌, ◌%◌, ◌≤◌, ◌<◌, ◌≡◌, refl, ◌⊎◌, List, length}
use Rattle.std.proofs.Common.{sym, ◌∙◌, ap, ap₂, inl, inr, arith}
use Rattle.std.specs.Int.Bits.{bit_and, bit_or, and_lt, and_zero_r, or_zero_r}
use Rattle.std.proofs.lemmas.Nat.{and_block, or_block}
use Rattle.parts.specs.Numbers.{byte_at, num2}
use Rattle.lines.specs.Numerals.{Bytes}
use Rattle.lines.specs.Laying.{Masks}
use Rattle.lines.proofs.Laying.{put2, laid_rest, mask_more, two_local}

-- two rows of n masks lie in `long` bytes, and the second is the first, or behind it, or wholly before it
pub record RowsLie (at from n long : ℕ) : Type 0 where
  pub first : at + 2 * n ≤ long
  pub second : from + 2 * n ≤ long
  pub apart : (at ≤ from) ⊎ (from + 2 * n ≤ at)

-- mask i of the masks at `at`, with the roles of m that mask i of those at `from` has
abbrev pub join_mask : List ℕ → ℕ → ℕ → ℕ → ℕ → ℕ
join_mask l at from m i = bit_or (num2 l (at + 2 * i)) (bit_and (num2 l (from + 2 * i)) m)

-- with the roles of t that mask k of its own row has
abbrev pub over_mask : List ℕ → ℕ → ℕ → ℕ → ℕ → ℕ → ℕ
over_mask l row from k t = join_mask l row from (bit_and (num2 l (row + 2 * k)) t)

-- byte by byte
join_bytes : (a b c d m : ℕ) → b < 256 → d < 256 → m < 65536
    → bit_or a (bit_and c (m / 256 % 256)) * 256 + bit_or b (bit_and d (m % 256)) ≡ bit_or (a * 256 + b) (bit_and (c * 256 + d) m)
join_bytes a b c d m hb hd hm = let e : m ≡ m / 256 % 256 * 256 + m % 256 = omega arith in let l : m % 256 < 256 = omega arith in
    sym (ap (λ n. bit_or (a * 256 + b) (bit_and (c * 256 + d) n)) e
    ∙ ap (bit_or (a * 256 + b)) (and_block 8 c (m / 256 % 256) d (m % 256) hd l)
    ∙ or_block 8 a (bit_and c (m / 256 % 256)) b (bit_and d (m % 256)) hb (and_lt 8 d (m % 256) hd l))

-- what is read has not been written: the source is the row itself, or lies behind it, or wholly before it
pub join_more : (at from m y n : ℕ) (old new : List ℕ) → y < n → RowsLie at from n (length old) → m < 65536 → Bytes new
    → Masks at (join_mask old at from m) old y new
    → Masks at (join_mask old at from m) old (y + 1)
    (put2 new (at + 2 * y) (bit_or (byte_at new (at + 2 * y)) (bit_and (byte_at new (from + 2 * y)) (m / 256 % 256)))
    (bit_or (byte_at new (at + 2 * y + 1)) (bit_and (byte_at new (from + 2 * y + 1)) (m % 256))))
join_more at from m y n old new h lie hm bytes l = mask_more at y _ _ (join_mask old at from m) old new (omega arith)
    (join_bytes (byte_at new (at + 2 * y)) (byte_at new (at + 2 * y + 1)) (byte_at new (from + 2 * y)) (byte_at new (from + 2 * y + 1)) m
    (bytes (at + 2 * y + 1)) (bytes (from + 2 * y + 1)) hm
    ∙ ap₂ (λ (a b : ℕ). bit_or a (bit_and b m)) (laid_rest 2 num2 two_local l (at + 2 * y) (inr (omega arith)))
    (laid_rest 2 num2 two_local l (from + 2 * y) (elim lie.apart [ inl q ↦ inr (omega arith) | inr q ↦ inl (omega arith) ]))) l

-- no role: the row stays
pub row_stays : (row from n m : ℕ) (l : List ℕ) → m ≡ 0 → Masks row (join_mask l row from m) l n l
row_stays row from n m l z = record {
  whole = refl;
  numbers = λ c _. sym (rw z (ap (bit_or (num2 l (row + 2 * c))) (and_zero_r (num2 l (from + 2 * c))) ∙ or_zero_r (num2 l (row + 2 * c))));
  others = λ p _. refl;
}
