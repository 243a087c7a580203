-- The bytes behind the passes are those of the closed line.
use Rattle.std.specs.Prelude.{ℕ, zero, suc, ◌+◌, ◌-◌, ◌*◌, ◌/◌, ◌%◌, ◌≤◌, ◌<◌, ◌≡◌, ◌&&◌, List, leb, length}
use Rattle.std.proofs.Math.Path.{refl, sym, ap}
use Rattle.std.proofs.Common.{◌∙◌, inl}
use Rattle.std.proofs.Math.Logic.{inr}
use Rattle.std.proofs.Math.Bool.{cond}
use native.Mathlib.Omega.{arith}
use Rattle.std.proofs.Math.Decide.{dec_lt}
use borrow.Author.Tests.{lt-leb, le-leb, lt-ltb, le-ltb}
use Rattle.std.proofs.Math.Dec.{ltb}
use Rattle.parts.specs.Numbers.{byte_at}
use Rattle.lines.specs.Lines.{byte_of}
use Rattle.lines.specs.Numerals.{Bytes}
use Rattle.lines.specs.Laying.{Masks}
use Rattle.closing.specs.Closing.{closed_mask, closed_pair, masks_end, closed_byte}
use Rattle.closing.specs.Steps.{mask_no, stop_mask, raised_to, raised_mask, raised_is}

module _ (m : List ℕ) (at d t : ℕ) (a : List ℕ) where
  pub closed_short : length m < masks_end at d → (p : ℕ) → byte_at m p ≡ closed_byte m at d t a p
  unfolding closed_byte
  closed_short h p = rw (lt-leb _ _ h) refl

  module _ (mid new : List ℕ) (bytes : Bytes new) (b : Masks at (stop_mask m at d t d) m (d * d) mid) (c : Masks at (raised_mask mid at t a) mid (d * d) new) where
    closed_no : (i : ℕ) → i < d * d → mask_no new at i ≡ closed_mask m at d t a (i / d) (i % d)
    unfolding stop_mask raised_mask
    closed_no i h = c.numbers i h ∙ ap (λ n. raised_to n t a 16) (b.numbers i h) ∙ raised_is m at d t a (i / d) (i % d)

    pair_byte_lem : (q : ℕ) → q < 2 * (d * d) → byte_at new (at + q) ≡ closed_pair m at d t a q
    pair_byte_lem q h = go (q % 2) refl
      where
        n : ℕ
        n = closed_mask m at d t a (q / 2 / d) (q / 2 % d)

        e : byte_at new (at + 2 * (q / 2)) * 256 + byte_at new (at + 2 * (q / 2) + 1) ≡ n
        e = closed_no (q / 2) (omega arith)

        go : (r : ℕ) → q % 2 ≡ r → byte_at new (at + q) ≡ byte_of 2 n r
        go zero z = let k : at + q ≡ at + 2 * (q / 2) = omega arith in
            ap (byte_at new) k ∙ omega (arith, e, bytes (at + 2 * (q / 2)), bytes (at + 2 * (q / 2) + 1))
        go (suc zero) z = let k : at + q ≡ at + 2 * (q / 2) + 1 = omega arith in
            ap (byte_at new) k ∙ omega (arith, e, bytes (at + 2 * (q / 2)), bytes (at + 2 * (q / 2) + 1))
        go (suc (suc r)) z = absurd (omega arith)

    pub closed_bytes : masks_end at d ≤ length m → (p : ℕ) → byte_at new p ≡ closed_byte m at d t a p
    unfolding closed_byte
    closed_bytes room p = rw (le-leb _ _ room) (go (dec_lt p at) (dec_lt p (masks_end at d)))
      where
        go : Dec (p < at) → Dec (p < masks_end at d) → byte_at new p ≡ cond (leb at p && ltb p (masks_end at d)) (closed_pair m at d t a (p - at)) (byte_at m p)
        go (yes l) k = rw (lt-leb _ _ l) (c.others p (inl l) ∙ b.others p (inl l))
        go (no l) (yes k) = let h : at ≤ p = omega arith in let z : at + (p - at) ≡ p = omega arith in
            rw (le-leb _ _ h, lt-ltb _ _ k) (ap (byte_at new) (sym z) ∙ pair_byte_lem (p - at) (omega arith))
        go (no l) (no k) = let h : masks_end at d ≤ p = omega arith in let g : at ≤ p = omega arith in rw (le-leb _ _ g, le-ltb _ _ h) (c.others p (inr h) ∙ b.others p (inr h))
