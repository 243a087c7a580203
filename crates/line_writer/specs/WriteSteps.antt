-- The bytes that the code writes, place by place: from the evidence, before the roles are closed.
use Rattle.std.specs.Prelude.{ℕ, zero, suc, ◌+◌, ◌*◌, ◌/◌, ◌%◌, ◌^◌, ◌≤◌, ◌<◌, ◌≡◌, refl, Bool, cond, ◌&&◌, List, eqb, ltb, length, get_or}
use Rattle.std.proofs.Common.{◌∙◌, ap, subst, arith, mul-le-mul_left, mul-le-mul_right, suc-mul, zero-mul, add-one, ne_eqb, lt-ltb, le-ltb, pow_mono}
use Rattle.lines.proofs.LineLaws.{pair_row, pair_column, name_room}
use Rattle.std.proofs.Math.Decide.{dec_lt}
use Rattle.logic.specs.Sets.{has, set_of}
use Rattle.logic.specs.SetLaws.{set_of_lt}
use Rattle.parts.specs.Numbers.{byte_at, num2, up_to}
use Rattle.description.specs.Descriptions.{entry_from, entry_of_fields, is_name}
use Rattle.tables.specs.Tables.{fields_at, entry_count}
use Rattle.labels.specs.Labels.{most_entries, wide, name_bytes}
use Rattle.evidence.specs.declared.Layout.{Layout}
use Rattle.evidence.specs.Evidence.{label_of, edges_part}
use Rattle.lines.specs.Laying.{Masks}
use Rattle.lines.proofs.Laying.{two_local, laid_none, laid_append}
use Rattle.copies.specs.Copying.{owner_mask}

-- the name entries of the table that a label N has
abbrev pub name_in : List ℕ → ℕ → ℕ → Bool
name_in cs N e = is_name (entry_of_fields (fields_at cs e)) && has N (2 * e)

unfoldable pub names_of : List ℕ → ℕ → ℕ
names_of cs N = set_of (entry_count cs) (name_in cs N)

-- the name mask of element z, with k copies of each record
abbrev pub element_names : List ℕ → Layout → List ℕ → ℕ → ℕ → ℕ
element_names cs f s k z = names_of cs (label_of f s (z / k))

-- the transitive ones of m roles, by their masks a
unfoldable pub transitives_in : List ℕ → ℕ → ℕ
transitives_in a m = set_of (up_to 16 m) (λ r. has (get_or a (16 + r) 0) r)

-- the direct pairs from a copy of a record with edges es, to element w
abbrev pub row_masks : List ℕ → ℕ → ℕ → ℕ
row_masks es k w = owner_mask es (w / k) (w % k)

-- element w is copy j of record y, with k copies of each; the code counts the three on
abbrev pub CopyOf : ℕ → ℕ → ℕ → ℕ → Type 0
CopyOf k w y j = (j < k) × (w ≡ y * k + j)

pub copy_next : (k w y j v i : ℕ) → CopyOf k w y j → v ≡ cond (ltb (j + 1) k) y (y + 1) → i ≡ cond (ltb (j + 1) k) (j + 1) 0
    → CopyOf k (w + 1) v i
copy_next k w y j v i (h, e) p q = elim (dec_lt (j + 1) k) [
  | yes l ↦ (let a = rw (lt-ltb _ _ l) at p in let b = rw (lt-ltb _ _ l) at q in rw (a, b) (omega arith, omega arith))
  | no l ↦ (let g : k ≤ j + 1 = omega arith in let a = rw (le-ltb _ _ g) at p in let b = rw (le-ltb _ _ g) at q in
      let z : (y + 1) * k ≡ y * k + k = rw (add-one y) (suc-mul y k ∙ refl) in rw (a, b) (omega arith, omega arith))
]

pub copy_least : (k w y j : ℕ) → CopyOf k w y j → y ≤ w
copy_least k w y j (h, e) = let z : y * 1 ≤ y * k = mul-le-mul_left y (let o : 1 ≤ k = omega arith in o) in omega arith

pub copy_mask : (es : List ℕ) (k w y j m : ℕ) → CopyOf k w y j → m ≡ owner_mask es y j → m ≡ row_masks es k w
copy_mask es k w y j m (h, e) p = rw (e, pair_row k y j h, pair_column k y j h) p

-- pair i of the d * d direct pairs
abbrev pub direct_masks : Layout → List ℕ → ℕ → ℕ → ℕ → ℕ
direct_masks f s k d i = row_masks (edges_part f s (i / d / k)) k (i % d)

-- row z ends within the line
pub row_room : (d z : ℕ) → z < d → z * d + d ≤ d * d
row_room d z h = let k : suc z * d ≤ d * d = mul-le-mul_right d h in let e : suc z * d ≡ z * d + d = suc-mul z d in omega arith

-- row z
pub row_in_rows : (f : Layout) (s es : List ℕ) (k d z : ℕ) → es ≡ edges_part f s (z / k) → (w : ℕ) → w < d
    → row_masks es k w ≡ direct_masks f s k d (z * d + w)
row_in_rows f s es k d z e w h = rw (pair_row d z w h, pair_column d z w h, e) refl

-- the rows one after another, the first at `at`
pub rows_start : (f : Layout) (s : List ℕ) (k d at : ℕ) (old : List ℕ) → Masks at (direct_masks f s k d) old (0 * d) old
rows_start f s k d at old = rw zero-mul (laid_none 2 num2 two_local at (direct_masks f s k d) old)

pub rows_more : (f : Layout) (s es : List ℕ) (k d at z row : ℕ) (old mid new : List ℕ) → es ≡ edges_part f s (z / k) → row ≡ at + 2 * (z * d)
    → Masks at (direct_masks f s k d) old (z * d) mid → Masks row (row_masks es k) mid d new
    → Masks at (direct_masks f s k d) old ((z + 1) * d) new
rows_more f s es k d at z row old mid new e q a b = let n : z * d + d ≡ (z + 1) * d = omega arith in
    subst (λ m. Masks at (direct_masks f s k d) old m new) n
    (laid_append 2 num2 two_local at (z * d) d (direct_masks f s k d) (row_masks es k) old mid new a (rw q at b)
    (λ w h. row_in_rows f s es k d z e w h))

-- ---- laws for the code
-- kind 1 is a name
kind_name : (k r a b n : ℕ) → eqb k 1 ≡ is_name (entry_from k r a b n)
unfolding entry_from
kind_name zero r a b n = refl
kind_name (suc zero) r a b n = refl
kind_name (suc (suc zero)) r a b n = refl
kind_name (suc (suc (suc zero))) r a b n = refl
kind_name (suc (suc (suc (suc k)))) r a b n = ne_eqb (suc (suc (suc (suc k)))) 1 (λ e. omega arith)

pub name_read : (cs : List ℕ) (N e k : ℕ) (b : Bool) → k ≡ byte_at cs (6 * e) → b ≡ has N (2 * e) → (eqb k 1 && b) ≡ name_in cs N e
name_read cs N e k b p q = rw (p, q, kind_name (byte_at cs (6 * e)) (byte_at cs (6 * e + 1)) (byte_at cs (6 * e + 2)) (byte_at cs (6 * e + 3)) (num2 cs (6 * e + 4))) refl

-- all entries looked at; a name mask has room for them
pub names_done : (cs : List ℕ) (N e n x : ℕ) → n ≡ entry_count cs → e ≤ n → n ≤ e → x ≡ set_of e (name_in cs N)
    → (x ≡ names_of cs N) × (x < 2 ^ (8 * name_bytes (wide (length cs / 6))))
unfolding names_of
names_done cs N e n x p h g q = let b = set_of_lt e (name_in cs N) in let z : e ≡ entry_count cs = (let y : e ≡ n = omega arith in y ∙ p) in
    let room = name_room (entry_count cs) (length cs / 6) few.0 few.1 in
    let w : 2 ^ e ≤ 2 ^ (8 * name_bytes (wide (length cs / 6))) = pow_mono (rw z room) in
    (q ∙ ap (λ k. set_of k (name_in cs N)) z, omega arith)
  where
    few : (entry_count cs ≤ length cs / 6) × (entry_count cs ≤ most_entries)
    few = elim (dec_lt (length cs / 6) most_entries) [
      | yes l ↦ rw (lt-ltb _ _ l) (omega arith, omega arith)
      | no l ↦ (let z : most_entries ≤ length cs / 6 = omega arith in rw (le-ltb _ _ z) (omega arith, omega arith))
    ]

pub transitives_done : (a : List ℕ) (m r n x : ℕ) → n ≡ up_to 16 m → r ≤ n → n ≤ r → x ≡ set_of r (λ r. has (get_or a (16 + r) 0) r)
    → x ≡ transitives_in a m
unfolding transitives_in
transitives_done a m r n x p h g q = let z : r ≡ up_to 16 m = (let y : r ≡ n = omega arith in y ∙ p) in
    q ∙ ap (λ k. set_of k (λ r. has (get_or a (16 + r) 0) r)) z
