-- Rows of vectors: what digits say, and the fields that a mark ends.
use Rattle.std.specs.Prelude.{ℕ, zero, suc, ◌+◌, ◌*◌, ◌/◌, ◌%◌, ◌≤◌, ◌<◌, min, ◌≡◌, refl, Bool, cond, ◌&&◌, List, [], ◌∷◌, eqb, ltb, length, get_or, set, take, drop}
use Rattle.std.proofs.Common.{arith, drop_of_length-le, drop-cons}
use Rattle.std.proofs.Math.Numerals.{add-one}
use borrow.Author.Tests.{eq-eqb, ne_eqb, lt-ltb, le-ltb}
use Rattle.logic.specs.Bounded.{all_below}
use Rattle.parts.specs.Numbers.{byte_at}
use Rattle.parts.specs.Filling.{Filled}

-- ---- digits
-- the value of a hexadecimal digit, lower case
abbrev pub digit_of : ℕ → ℕ
digit_of c = cond (ltb c 58) (c % 16) ((c % 16 + 9) % 16)

-- byte i of those that the digits say, two to a byte; `past` where they end
unfoldable pub byte_said : List ℕ → ℕ → ℕ → ℕ
byte_said hex i past = cond (ltb i (length hex / 2)) (16 * digit_of (byte_at hex (2 * i)) + digit_of (byte_at hex (2 * i + 1))) past

-- whether each byte of a buffer is the one that the digits say, and `past` where they end
abbrev pub bytes_said : List ℕ → List ℕ → ℕ → Bool
bytes_said buf hex past = all_below (length buf) (λ i. eqb (byte_at buf i) (byte_said hex i past))

-- the first n bytes of a buffer are those that the digits say, and n is as many as fit
pub record Decoded (hex old new : List ℕ) (n : ℕ) : Type 0 where
  pub count : n ≡ min (length hex / 2) (length old)
  pub filled : Filled (length old) (λ i. byte_said hex i 0) n new
  pub part : n ≡ length (take n new)

-- the number that decimal digits say after n, cut to two bytes
unfoldable pub number_from : ℕ → List ℕ → ℕ
number_from n [] = n
number_from n (c ∷ cs) = number_from ((10 * n + c % 16) % 65536) cs

-- ---- files
-- the bytes of the longest data file, and more
abbrev pub longest_file : ℕ
longest_file = 1048576

-- one more at place k of the counts, if it is there and not yet a million
unfoldable pub counted : List ℕ → ℕ → List ℕ
counted ns k = cond (ltb k (length ns) && ltb (get_or ns k 0) 1000000) (set ns k (get_or ns k 0 + 1)) ns

-- ---- fields
-- what stands before the first mark
unfoldable pub until : ℕ → List ℕ → List ℕ
until mark [] = []
until mark (x ∷ xs) = cond (eqb x mark) [] (x ∷ until mark xs)

-- what stands after the first k marks
unfoldable pub skip : ℕ → ℕ → List ℕ → List ℕ
skip mark zero xs = xs
skip mark (suc k) xs = skip mark k (drop (length (until mark xs) + 1) xs)

-- field k of those that the mark ends
abbrev pub field_of : ℕ → ℕ → List ℕ → List ℕ
field_of mark k xs = until mark (skip mark k xs)

-- ---- laws: for loops that go up
-- byte i where the digits say it, and where they do not
pub said_there : (hex : List ℕ) (i past a b : ℕ) → i < length hex / 2 → a ≡ digit_of (byte_at hex (2 * i)) → b ≡ digit_of (byte_at hex (2 * i + 1)) → 16 * a + b ≡ byte_said hex i past
unfolding byte_said
said_there hex i past a b h e g = rw (lt-ltb _ _ h, e, g) refl

pub said_past : (hex : List ℕ) (i past : ℕ) → length hex / 2 ≤ i → past ≡ byte_said hex i past
unfolding byte_said
said_past hex i past h = rw (le-ltb _ _ h) refl

pub counted_more : (ns : List ℕ) (k : ℕ) → k < length ns → get_or ns k 0 < 1000000 → set ns k (get_or ns k 0 + 1) ≡ counted ns k
unfolding counted
counted_more ns k h g = rw (lt-ltb _ _ h, lt-ltb _ _ g) refl

pub counted_full : (ns : List ℕ) (k : ℕ) → k < length ns → 1000000 ≤ get_or ns k 0 → ns ≡ counted ns k
unfolding counted
counted_full ns k h g = rw (lt-ltb _ _ h, le-ltb _ _ g) refl

pub counted_past : (ns : List ℕ) (k : ℕ) → length ns ≤ k → ns ≡ counted ns k
unfolding counted
counted_past ns k h = rw (le-ltb _ _ h) refl

pub number_more : (ds : List ℕ) (n i : ℕ) → i < length ds → number_from n (drop i ds) ≡ number_from ((10 * n + byte_at ds i % 16) % 65536) (drop (i + 1) ds)
unfolding number_from
number_more ds n i h = rw (drop-cons ds i 0 h, add-one i) refl

pub number_end : (ds : List ℕ) (n i : ℕ) → length ds ≤ i → number_from n (drop i ds) ≡ n
unfolding number_from
number_end ds n i h = rw (drop_of_length-le _ h) refl

-- where the mark stands, looked for from place i on
module _ (mark : ℕ) (all : List ℕ) (i : ℕ) where
  pub mark_stop : i < length all → byte_at all i ≡ mark → i ≡ i + length (until mark (drop i all))
  unfolding until
  mark_stop h e = rw (drop-cons all i 0 h, eq-eqb _ _ e) (omega arith)

  pub mark_more : i < length all → (byte_at all i ≡ mark → ⊥) → i + 1 + length (until mark (drop (i + 1) all)) ≡ i + length (until mark (drop i all))
  unfolding until
  mark_more h e = rw (drop-cons all i 0 h, ne_eqb _ _ e, add-one i) (omega arith)

  pub mark_end : length all ≤ i → i ≡ i + length (until mark (drop i all))
  unfolding until
  mark_end h = rw (drop_of_length-le _ h) (omega arith)
