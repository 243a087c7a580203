-- Records under a head: that they are read back, and that they are written again as they were read.
use Prim.Native.Nat.{ℕ, zero, suc, ◌+◌, ◌*◌, ◌≤◌, ◌<◌}
use Rattle.std.specs.Prelude.{◌≡◌, get_or, drop}
use Rattle.std.proofs.Math.Path.{refl, ap, subst}
use Rattle.std.proofs.Common.{sym, ◌∙◌, length-drop, length-take-le}
use mathlib.Core.List.{List, [], ◌∷◌, ◌++◌, map, flatten}
use native.Mathlib.Omega.{arith}
use Rattle.std.proofs.Math.ListN.{length, length-append}
use Rattle.std.proofs.lemmas.List.{length-map}
use Rattle.logic.specs.Lists.{◌∈◌, tabulate, length_tabulate, at_tabulate, tabulate_cong, at_member, member_at}
use Rattle.parts.specs.Numbers.{byte_at}
use Rattle.parts.specs.Pairs.{offset_at, length_at, begin_at, Fills, pair_inside}
use Rattle.evidence.specs.Evidence.{HeadOk, record_count, record_at}
use Rattle.laying.specs.Places.{Stands, stands_end, stands_in, first, second, part, stands_part, stands_append, stands_more, stands_whole, before, stands_piece, before_next, before_all, before_even, stands_flatten, read_off, at_map, each_map, map_tabulate, Small, small_more, small_append, small_flatten, small_in}
use Rattle.laying.specs.Numbers.{two}
use Rattle.laying.proofs.Numbers.{two_bytes}
use Rattle.encoding.specs.Bundles.{start, pair_of, pairs, bundle, Fits, records_in}

module _ (rs : List (List ℕ)) where
  pairs_many : length (pairs rs) ≡ length rs
  pairs_many = length_tabulate (length rs) (pair_of rs)

  pair_at_lem : (i : ℕ) → i < length rs → get_or (pairs rs) i [] ≡ pair_of rs i
  pair_at_lem i h = at_tabulate (length rs) (pair_of rs) [] i h

  before_pair : (i : ℕ) → i ≤ length rs → before (pairs rs) i ≡ 4 * i
  before_pair i h = before_even 4 (pairs rs) [] (λ j k. ap length (pair_at_lem j (omega (arith, pairs_many)))) i (omega (arith, pairs_many))

  pairs_length : length (flatten (pairs rs)) ≡ 4 * length rs
  pairs_length = sym (before_all (pairs rs)) ∙ ap (before (pairs rs)) pairs_many ∙ before_pair (length rs) (omega arith)

module _ (kind : ℕ) (rs : List (List ℕ)) where
  bundle_length : length (bundle kind rs) ≡ start rs (length rs)
  unfolding bundle
  bundle_length = omega (arith, length-append (flatten (pairs rs)) (flatten rs), pairs_length rs, before_all rs)

  stands_pair : (i : ℕ) → i < length rs → Stands (bundle kind rs) (2 + 4 * i) (pair_of rs i)
  unfolding bundle
  stands_pair i h = rw (pair_at_lem rs i h, before_pair rs i (omega arith)) at
      (stands_in (first (flatten (pairs rs)) (flatten rs) (stands_end (kind ∷ length rs ∷ []) (flatten (pairs rs) ++ flatten rs))) (stands_piece (pairs rs) [] i (omega (arith, pairs_many rs))))

  stands_record : (i : ℕ) → i < length rs → Stands (bundle kind rs) (start rs i) (get_or rs i [])
  unfolding bundle
  stands_record i h = let e : length (kind ∷ length rs ∷ flatten (pairs rs)) ≡ 2 + 4 * length rs = omega (arith, pairs_length rs) in
      rw e at (stands_in (stands_end (kind ∷ length rs ∷ flatten (pairs rs)) (flatten rs)) (stands_piece rs [] i h))

  offset_back : (i : ℕ) → i < length rs → offset_at (bundle kind rs) 2 i ≡ start rs i
  offset_back i h = two_bytes.back (start rs i) (first (two (start rs i)) (two (length (get_or rs i []))) (stands_pair i h))

  length_back : (i : ℕ) → i < length rs → length_at (bundle kind rs) 2 i ≡ length (get_or rs i [])
  length_back i h = two_bytes.back (length (get_or rs i [])) (second (two (start rs i)) (two (length (get_or rs i []))) (stands_pair i h))

  begin_back : (i : ℕ) → i ≤ length rs → begin_at (bundle kind rs) 2 (2 + 4 * length rs) i ≡ start rs i
  unfolding flatten
  begin_back zero h = omega arith
  begin_back (suc i) h = omega (arith, offset_back i h, length_back i h, before_next rs [] i h)

  pub bundle_fills : Fills (bundle kind rs) 2 (length rs) (2 + 4 * length rs)
  bundle_fills = (omega (arith, bundle_length), (λ i h. offset_back i h ∙ sym (begin_back i (omega arith)), begin_back (length rs) (omega arith) ∙ sym bundle_length))

  -- the head is in order, and each record is read back
  pub bundle_kind : byte_at (bundle kind rs) 0 ≡ kind
  unfolding bundle
  bundle_kind = refl

  pub bundle_count : byte_at (bundle kind rs) 1 ≡ length rs
  unfolding bundle
  bundle_count = refl

  pub bundle_head : 1 ≤ kind → kind ≤ 2 → Fits rs → HeadOk (bundle kind rs)
  bundle_head a b f = rw (bundle_kind, bundle_count) ((a, b), (f.some_record, (f.few_records, bundle_fills)))

  pub bundle_record : (i : ℕ) → i < length rs → record_at (bundle kind rs) i ≡ get_or rs i []
  bundle_record i h = rw (offset_back i h, length_back i h) (part (get_or rs i []) (stands_record i h))

  -- a bundle of bytes is bytes
  pub bundle_small : kind < 256 → Fits rs → ((r : List ℕ) → r ∈ rs → Small r) → Small (bundle kind rs)
  unfolding bundle
  bundle_small h f small = small_more h (small_more (omega (arith, f.few_records)) (small_append (flatten (pairs rs)) (small_flatten (pairs rs) each_pair) (small_flatten rs small)))
    where
      each_pair : (w : List ℕ) → w ∈ pairs rs → Small w
      each_pair w m = let t = member_at (pairs rs) [] w m in let l : t.0 < length rs = omega (arith, t.1, pairs_many rs) in
          subst Small (sym (pair_at_lem rs t.0 l) ∙ t.2) (small_append (two (start rs t.0)) (two_bytes.small _ (f.starts t.0 l)) (two_bytes.small _ (f.lengths t.0 l)))

-- ---- a bundle of what is encoded piece by piece
module _ {A : Type 0} (kind : ℕ) (encode : A → List ℕ) (xs : List A) where
  -- what holds of each piece holds of each record
  pub each_record : (P : List ℕ → Type 0) → ((x : A) → x ∈ xs → P (encode x))
      → (i : ℕ) → i < record_count (bundle kind (map encode xs)) → P (record_at (bundle kind (map encode xs)) i)
  each_record P h i l = let k : i < length (map encode xs) = omega (arith, bundle_count kind (map encode xs)) in
      rw (bundle_record kind (map encode xs) i k) (each_map P encode xs h _ (at_member (map encode xs) [] i k))

  -- if each piece is read back, then all are
  pub records_back : (read : List ℕ → A) (d : A) → ((x : A) → x ∈ xs → read (encode x) ≡ x)
      → tabulate (record_count (bundle kind (map encode xs))) (λ i. read (record_at (bundle kind (map encode xs)) i)) ≡ xs
  records_back read d back = read_off d xs _ _ (bundle_count kind (map encode xs) ∙ length-map xs encode)
      (λ i h. let l : i < length xs = omega (arith, bundle_count kind (map encode xs), length-map xs encode) in
      ap read (bundle_record kind (map encode xs) i (omega (arith, length-map xs encode)) ∙ at_map encode xs d [] i l) ∙ back (get_or xs i d) (at_member xs d i l))

module _ {s : List ℕ} (b : Small s) (head : HeadOk s) where
  abbrev n : ℕ
  n = record_count s

  filled : Fills s 2 n (2 + 4 * n)
  filled = head.1.1.1

  stands_there : (i : ℕ) → i < n → Stands s (offset_at s 2 i) (record_at s i)
  stands_there i h = stands_part (length_at s 2 i) (pair_inside s 2 n (2 + 4 * n) i filled h)

  pub part_small : (i : ℕ) → i < n → Small (record_at s i)
  part_small i h = small_in b (stands_there i h)

  records_many : length (records_in s) ≡ n
  records_many = length_tabulate n (record_at s)

  record_there : (i : ℕ) → i < n → get_or (records_in s) i [] ≡ record_at s i
  record_there i h = at_tabulate n (record_at s) [] i h

  length_again : (i : ℕ) → i < n → length (get_or (records_in s) i []) ≡ length_at s 2 i
  length_again i h = ap length (record_there i h) ∙ length-take-le (length_at s 2 i) (drop (offset_at s 2 i) s)
      (omega (arith, pair_inside s 2 n (2 + 4 * n) i filled h, length-drop (offset_at s 2 i) s))

  start_again : (i : ℕ) → i ≤ n → start (records_in s) i ≡ begin_at s 2 (2 + 4 * n) i
  unfolding flatten
  start_again zero h = omega (arith, records_many)
  start_again (suc i) h = omega (arith, start_again i (omega arith), filled.1.0 i h, before_next (records_in s) [] i (omega (arith, records_many)), length_again i h)

  offset_again : (i : ℕ) → i < n → start (records_in s) i ≡ offset_at s 2 i
  offset_again i h = start_again i (omega arith) ∙ sym (filled.1.0 i h)

  pairs_here : Stands s 2 (flatten (pairs (records_in s)))
  pairs_here = stands_flatten (pairs (records_in s)) (omega (arith, filled.0)) (λ i h. let l : i < n = omega (arith, pairs_many (records_in s), records_many) in
      rw (before_pair (records_in s) i (omega (arith, records_many)), pair_at_lem (records_in s) i (omega (arith, records_many)), offset_again i l, length_again i l)
      (stands_append (two (offset_at s 2 i)) (two (length_at s 2 i)) (two_bytes.again b (omega (arith, filled.0))) (two_bytes.again b (omega (arith, filled.0)))))

  records_here : Stands s (2 + 4 * n) (flatten (records_in s))
  records_here = stands_flatten (records_in s) (omega (arith, filled.0)) (λ i h. let l : i < n = omega (arith, records_many) in
      let z : 2 + 4 * n + before (records_in s) i ≡ offset_at s 2 i = omega (arith, offset_again i l, records_many) in rw (z, record_there i l) (stands_there i l))

  pub bundle_again : bundle (byte_at s 0) (records_in s) ≡ s
  unfolding bundle
  bundle_again = let z : 2 + length (flatten (pairs (records_in s))) ≡ 2 + 4 * n = omega (arith, pairs_length (records_in s), records_many) in
      stands_whole _ (stands_more _ _ refl (stands_more _ _ (sym records_many) (stands_append (flatten (pairs (records_in s))) (flatten (records_in s)) pairs_here (rw z records_here))))
      (bundle_length (byte_at s 0) (records_in s) ∙ ap (start (records_in s)) records_many ∙ start_again n (omega arith) ∙ filled.1.1)

  pub bundle_fits : Fits (records_in s)
  bundle_fits = record {
    some_record = omega (arith, head.1.0, records_many);
    few_records = omega (arith, head.1.1.0, records_many);
    starts = λ i h. let l : i < n = omega (arith, records_many) in rw (offset_again i l) (two_bytes.fits (2 + 4 * i) b);
    lengths = λ i h. let l : i < n = omega (arith, records_many) in rw (length_again i l) (two_bytes.fits (2 + 4 * i + 2) b);
  }

-- if each record is written again as it was read, then all are
pub records_again : {A : Type 0} (s : List ℕ) (encode : A → List ℕ) (read : List ℕ → A) → ((i : ℕ) → i < record_count s → encode (read (record_at s i)) ≡ record_at s i)
    → map encode (tabulate (record_count s) (λ i. read (record_at s i))) ≡ records_in s
records_again s encode read again = map_tabulate encode (record_count s) (λ i. read (record_at s i)) ∙ tabulate_cong (record_count s) _ (record_at s) again
