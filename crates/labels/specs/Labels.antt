-- Labels and name masks as they are stored and as the code holds them (01, "Evidence" and "The written line"; 02, job 2; FORMAT 4, 7).
use Rattle.std.specs.Prelude.{ℕ, ◌+◌, ◌*◌, ◌^◌, ◌≤◌, ◌<◌, ◌≡◌, Bool, true, false, cond, List, ltb, length}
use Rattle.std.proofs.Math.Path.{refl}
use Rattle.std.proofs.Common.{arith}
use Rattle.logic.specs.Sets.{with}
use Rattle.parts.specs.Numbers.{byte_at, num2, past}
use Rattle.labels.specs.Blocks.{block, block_lt}
use Rattle.labels.specs.declared.Label.{Label}

-- ---- limits: a table has at most 64 entries, so that a label has at most 128 literals
abbrev pub most_entries : ℕ
most_entries = 64

abbrev pub most_literals : ℕ
most_literals = 128

-- ---- widths: what is stored goes by the number n of entries of the table; with more than 32 it is wide
abbrev pub most_narrow : ℕ
most_narrow = 32

abbrev pub wide : ℕ → Bool
wide n = ltb most_narrow n

-- the bytes of a label, and of a name mask
unfoldable pub label_bytes : Bool → ℕ
label_bytes broad = cond broad 16 8

unfoldable pub name_bytes : Bool → ℕ
name_bytes broad = cond broad 8 4

-- numbers of 4, 8 and 16 bytes at a place, high byte first
abbrev pub num4 : List ℕ → ℕ → ℕ
num4 s at = block 16 (num2 s at) (num2 s (at + 2))

abbrev pub num8 : List ℕ → ℕ → ℕ
num8 s at = block 32 (num4 s at) (num4 s (at + 4))

abbrev pub num16 : List ℕ → ℕ → ℕ
num16 s at = block 64 (num8 s at) (num8 s (at + 8))

-- the label and the name mask at a place: bit l is literal l, bit e is name entry e
unfoldable pub label_in : Bool → List ℕ → ℕ → ℕ
label_in broad s at = cond broad (num16 s at) (num8 s at)

unfoldable pub names_in : Bool → List ℕ → ℕ → ℕ
names_in broad s at = cond broad (num8 s at) (num4 s at)

-- ---- held by the code
-- the set that the two words are
abbrev pub value_of : Label → ℕ
value_of x = block 64 x.high x.low

-- the label of no literal
abbrev pub no_label : Label
no_label = record { high = 0; low = 0 }

-- a label that is held has no literal past its room
pub label_few : (x : Label) → x.high < 2 ^ 64 → x.low < 2 ^ 64 → value_of x < 2 ^ most_literals
label_few x h g = block_lt 64 x.high x.low h g

-- the label with a literal put in, if it has room
unfoldable pub label_with : ℕ → ℕ → ℕ
label_with N l = cond (ltb l most_literals) (with N l) N

-- ---- laws for the code
pub bytes_wide : (broad : Bool) → broad ≡ true → 16 ≡ label_bytes broad
unfolding label_bytes
bytes_wide broad e = rw e refl

pub bytes_narrow : (broad : Bool) → broad ≡ false → 8 ≡ label_bytes broad
unfolding label_bytes
bytes_narrow broad e = rw e refl

pub bytes_some : (broad : Bool) → (8 ≤ label_bytes broad) × (label_bytes broad ≤ 16)
unfolding label_bytes
bytes_some true = (omega arith, omega arith)
bytes_some false = (omega arith, omega arith)

pub mask_wide : (broad : Bool) → broad ≡ true → 8 ≡ name_bytes broad
unfolding name_bytes
mask_wide broad e = rw e refl

pub mask_narrow : (broad : Bool) → broad ≡ false → 4 ≡ name_bytes broad
unfolding name_bytes
mask_narrow broad e = rw e refl

pub mask_some : (broad : Bool) → (4 ≤ name_bytes broad) × (name_bytes broad ≤ 8)
unfolding name_bytes
mask_some true = (omega arith, omega arith)
mask_some false = (omega arith, omega arith)

-- past the end numbers are 0
pub past4 : (s : List ℕ) (at : ℕ) → length s ≤ at → 0 ≡ num4 s at
past4 s at h = rw (← past s at h, ← past s (at + 2) (omega arith)) refl

pub past8 : (s : List ℕ) (at : ℕ) → length s ≤ at → 0 ≡ num8 s at
past8 s at h = rw (← past4 s at h, ← past4 s (at + 4) (omega arith)) refl

-- eight bytes one by one
pub octet_read : (s : List ℕ) (at a b : ℕ) → a ≡ block 16 (byte_at s at * 256 + byte_at s (at + 1)) (byte_at s (at + 2) * 256 + byte_at s (at + 3))
    → b ≡ block 16 (byte_at s (at + 4) * 256 + byte_at s (at + 5)) (byte_at s (at + 6) * 256 + byte_at s (at + 7)) → block 32 a b ≡ num8 s at
octet_read s at a b h k =
    let three : at + 2 + 1 ≡ at + 3 = omega arith in
    let five : at + 4 + 1 ≡ at + 5 = omega arith in
    let six : at + 4 + 2 ≡ at + 6 = omega arith in
    let seven : at + 6 + 1 ≡ at + 7 = omega arith in
    rw (h, k, three, five, six, seven) refl

-- a label and a name mask, of either width
module _ (s : List ℕ) (at : ℕ) (broad : Bool) where
  pub narrow_read : (a : ℕ) → broad ≡ false → a ≡ num8 s at → block 64 0 a ≡ label_in broad s at
  unfolding label_in
  narrow_read a e h = rw (e, h) (omega arith)

  pub past_read : broad ≡ true → length s ≤ at → block 64 0 0 ≡ label_in broad s at
  unfolding label_in
  past_read e h = rw (e, ← past8 s at h, ← past8 s (at + 8) (omega arith)) refl

  pub wide_read : (a b : ℕ) → broad ≡ true → a ≡ num8 s at → b ≡ num8 s (at + 8) → block 64 a b ≡ label_in broad s at
  unfolding label_in
  wide_read a b e h k = rw (e, h, k) refl

  pub names_wide : (a : ℕ) → broad ≡ true → a ≡ num8 s at → a ≡ names_in broad s at
  unfolding names_in
  names_wide a e h = rw e h

  pub names_narrow : (a : ℕ) → broad ≡ false → a ≡ num4 s at → a ≡ names_in broad s at
  unfolding names_in
  names_narrow a e h = rw e h
