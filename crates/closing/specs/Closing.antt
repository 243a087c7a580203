-- Closing the transitive roles of a line in its bytes (01, "The written line").
use Rattle.std.specs.Prelude.{ℕ, ◌+◌, ◌-◌, ◌*◌, ◌/◌, ◌%◌, Bool, cond, ◌&&◌, ◌||◌, List, eqb, leb, ltb, length, get_or}
use Rattle.logic.specs.Bounded.{any_below}
use Rattle.logic.specs.Closure.{closure}
use Rattle.logic.specs.Sets.{has, set_of}
use Rattle.parts.specs.Numbers.{byte_at, num2}
use Rattle.lines.specs.Lines.{byte_of}

-- the roles of the pair (x, y) of d elements, the first role mask at `at`
abbrev pub mask_at : List ℕ → ℕ → ℕ → ℕ → ℕ → ℕ
mask_at m at d x y = num2 m (at + 2 * (x * d + y))

-- role r joins x to y
abbrev pub joined_by : List ℕ → ℕ → ℕ → ℕ → ℕ → ℕ → Bool
joined_by m at d r x y = has (mask_at m at d x y) r

-- the roles of a pair after closing: its own, and each transitive role (in the mask t) whose closure joins the pair, with its ancestors (in the masks a)
unfoldable pub closed_mask : List ℕ → ℕ → ℕ → ℕ → List ℕ → ℕ → ℕ → ℕ
closed_mask m at d t a x y = set_of 16 (λ r. joined_by m at d r x y
    || any_below 16 (λ u. has t u && ((eqb u r || has (get_or a u 0) r) && closure d (joined_by m at d u) x y)))

-- byte q of the role masks
abbrev pub closed_pair : List ℕ → ℕ → ℕ → ℕ → List ℕ → ℕ → ℕ
closed_pair m at d t a q = byte_of 2 (closed_mask m at d t a (q / 2 / d) (q / 2 % d)) (q % 2)

-- where the role masks end
abbrev pub masks_end : ℕ → ℕ → ℕ
masks_end at d = at + 2 * (d * d)

-- byte p of the buffer m afterwards: as it was outside the role masks, and everywhere if they do not lie in the buffer
unfoldable pub closed_byte : List ℕ → ℕ → ℕ → ℕ → List ℕ → ℕ → ℕ
closed_byte m at d t a p = cond (leb (masks_end at d) (length m) && (leb at p && ltb p (masks_end at d)))
    (closed_pair m at d t a (p - at)) (byte_at m p)
