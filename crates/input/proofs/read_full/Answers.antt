use Rattle.std.proofs.Common.{◌≡◌, ℕ, ◌+◌, ◌-◌, ◌≤◌, List, ◌++◌, rules, arith, length, take, slice_range, sym, ap, ◌∙◌, subst, le_refl, drop_at, length-take-le}
use Rattle.std.proofs.lemmas.Slice.{take-put_mid_below}
use Rattle.std.specs.Io.KnownBytes.{Consumes}
use Rattle.std.proofs.KnownBytes.{Consumes-trans}
use borrow.Rule.Slice.PartMut.{put_mid, post_of}
use lib.Seq.{take-add, take-append-le}
use Rattle.input.proofs.read_full.Goals as goal

-- what stands before place a and then up to b
joined : (a b : ℕ) (old new : List ℕ) → a ≤ b → take a new ≡ take a old → take a old ++ slice_range new a b ≡ take b new
joined a b old new h front =
    let same : a + (b - a) ≡ b = omega arith in
    ap (λ l. l ++ slice_range new a b) (sym front) ∙ sym (take-add a (b - a) new) ∙ ap (λ n. take n new) same

-- the n bytes that a read put behind place a
read_part : (a k n : ℕ) (xs ys : List ℕ) → a ≤ length xs → n ≤ length ys → slice_range (put_mid a k xs ys) a (a + n) ≡ take n ys
read_part a k n xs ys within fits =
    let same : (a + n) - a ≡ n = omega arith in
    ap (take ((a + n) - a)) (drop_at (take a xs) (ys ++ post_of a k xs) a (length-take-le a xs within)) ∙ ap (λ m. take m (ys ++ post_of a k xs)) same ∙ take-append-le n ys (post_of a k xs) fits

pub loop-n-preserved : goal.loop-n-preserved
loop-n-preserved g c =
    let n = c.loop-n.n in
    let k = c.in_ok-k.k in
    let room = length c.loop-n.space - n in
    let within = c.loop-n.invariant.1 in
    let part = read_part n room k c.loop-n.space c.read.new.buf within c.in_ok-k.ensures.bound.0 in
    let front = joined n (n + k) c.loop-n.space (put_mid n room c.loop-n.space c.read.new.buf) (omega arith) (take-put_mid_below _ _ _ _ _ (le_refl _) within) in
    (search rules, search rules, subst (Consumes _ _) (ap (λ l. take n c.loop-n.space ++ l) (sym part) ∙ front) (Consumes-trans _ _ _ _ _ c.loop-n.invariant.2 c.in_ok-k.ensures.bytes.0))
