-- The bytes of an interpretation, place by place: what is written there, and that it is read back.
use Rattle.std.specs.Prelude.{ℕ, suc, ◌+◌, ◌-◌, ◌*◌, ◌/◌, ◌%◌, ◌^◌, ◌≤◌, ◌<◌, ◌≡◌, Bool, true, false, ◌&&◌, List, ◌++◌, length, drop}
use Rattle.std.proofs.Math.Path.{refl}
use Rattle.std.proofs.Common.{sym, ◌∙◌, ap, ap₂, mod-eq_of_lt, mul-le-mul_left, mul-le-mul_right, mul_comm, mul-suc, suc-mul, pow_mono, length-append, length-drop, ext_get_or, get_or-append-add, get_or-drop}
use native.Mathlib.Omega.{arith}
use Rattle.std.proofs.Math.Decide.{dec_lt}
use Rattle.std.proofs.Math.Nat.{mul-add-div_right, mul-add-mod_self_right, div-eq_of_lt}
use borrow.Author.Tests.{lt-ltb, le-ltb, ltb-false, ne_eqb}
use Rattle.std.proofs.Math.ListN.{get_or-append}
use Rattle.logic.specs.Tests.{and_l}
use Rattle.logic.specs.Lists.{length_tabulate, at_tabulate}
use Rattle.logic.specs.Sets.{has, set_of}
use Rattle.logic.specs.SetLaws.{set_of_lt, has_set_of, set_of↔}
use Rattle.parts.specs.Numbers.{byte_at, num2}
use Rattle.labels.specs.Labels.{most_entries, wide, name_bytes, mask_wide, mask_narrow}
use Rattle.description.specs.Descriptions.{Description, is_name}
use Rattle.interpretation.specs.Meaning.{Interpretation}
use Rattle.lines.specs.Lines.{wide_names, name_size, name_at, pair_at, line_length, elements, names_at, line_in, LineOk, most_elements}
use Rattle.lines.specs.Lines.{name_mask, role_mask, byte_of, pair_byte, line_byte, line_bytes}
use Rattle.lines.proofs.Numerals.{two, names}
use Rattle.lines.specs.Alike.{Alike}

-- ---- places
-- the pair (x, y) among the d * d pairs
pub pair_below : (d x y : ℕ) → x < d → y < d → x * d + y < d * d
pair_below d x y hx hy = let k : suc x * d ≤ d * d = mul-le-mul_right d hx in let e : suc x * d ≡ x * d + d = suc-mul x d in omega arith

pub pair_row : (d x y : ℕ) → y < d → (x * d + y) / d ≡ x
pair_row d x y h = mul-add-div_right (let z : 1 ≤ d = omega arith in z) x y ∙ (let e = div-eq_of_lt h in omega arith)

pub pair_column : (d x y : ℕ) → y < d → (x * d + y) % d ≡ y
pair_column d x y h = mul-add-mod_self_right x d y ∙ mod-eq_of_lt h

-- byte i of the k bytes of the name mask x, and where the next mask begins
name_row : (k x i : ℕ) → i < k → (name_at k x + i - 1) / k ≡ x
name_row k x i h = let z : name_at k x + i - 1 ≡ x * k + i = (let c = mul_comm k x in omega arith) in rw z (pair_row k x i h)

name_column : (k x i : ℕ) → i < k → (name_at k x + i - 1) % k ≡ i
name_column k x i h = let z : name_at k x + i - 1 ≡ x * k + i = (let c = mul_comm k x in omega arith) in rw z (pair_column k x i h)

pub name_next : (k x n : ℕ) → x < n → name_at k x + k ≤ name_at k n
name_next k x n h = let m : k * suc x ≤ k * n = mul-le-mul_left k h in let e : k * suc x ≡ k * x + k = mul-suc k x in omega arith

-- a name mask has room for all entries of a table of n
pub name_room : (m n : ℕ) → m ≤ n → m ≤ most_entries → m ≤ 8 * name_bytes (wide n)
name_room m n h few = go (wide n) refl
  where
    go : (b : Bool) → wide n ≡ b → m ≤ 8 * name_bytes (wide n)
    go true e = let z = mask_wide (wide n) e in omega arith
    go false e = let z = mask_narrow (wide n) e in let k = ltb-false _ n e in omega arith

module _ (D : Description) (I : Interpretation) where
  -- the bytes of a name mask
  abbrev k : ℕ
  k = name_size D

  pub byte_size : line_byte D I 0 ≡ I.size
  unfolding line_byte
  byte_size = refl

  pub byte_names : (p : ℕ) → (p ≡ 0 → ⊥) → p < name_at k I.size → line_byte D I p ≡ byte_of k (name_mask D I ((p - 1) / k)) ((p - 1) % k)
  unfolding line_byte
  byte_names p h l = rw (ne_eqb p 0 h, lt-ltb _ _ l) refl

  pub byte_pairs : (p : ℕ) → name_at k I.size ≤ p → line_byte D I p ≡ pair_byte D I (p - name_at k I.size)
  unfolding line_byte
  byte_pairs p h = let z : p ≡ 0 → ⊥ = λ e. omega arith in rw (ne_eqb p 0 z, le-ltb _ _ h) refl

  byte_name : (x i : ℕ) → x < I.size → i < k → line_byte D I (name_at k x + i) ≡ byte_of k (name_mask D I x) i
  byte_name x i hx hi = byte_names (name_at k x + i) (λ e. omega arith) (omega (arith, name_next k x I.size hx))
      ∙ ap₂ (λ (a b : ℕ). byte_of k (name_mask D I a) b) (name_row k x i hi) (name_column k x i hi)

  byte_pair : (x y i : ℕ) → x < I.size → y < I.size → i < 2 → line_byte D I (pair_at k I.size x y + i) ≡ byte_of 2 (role_mask D I x y) i
  byte_pair x y i hx hy hi = byte_pairs (pair_at k d x y + i) (omega arith)
      ∙ ap₂ (λ (a b : ℕ). byte_of 2 (role_mask D I (a / d) (a % d)) b) half odd
      ∙ ap₂ (λ (a b : ℕ). byte_of 2 (role_mask D I a b) i) (pair_row d x y hy) (pair_column d x y hy)
    where
      d : ℕ
      d = I.size

      half : (pair_at k d x y + i - name_at k d) / 2 ≡ x * d + y
      half = omega arith

      odd : (pair_at k d x y + i - name_at k d) % 2 ≡ i
      odd = omega arith

  -- ---- reading back
  byte_line : (p : ℕ) → p < line_length k I.size → byte_at (line_bytes D I) p ≡ line_byte D I p
  byte_line p h = at_tabulate (line_length k I.size) (line_byte D I) 0 p h

  pub elements_back : elements (line_bytes D I) ≡ I.size
  elements_back = byte_line 0 (omega arith) ∙ byte_size

  -- a set of at most k numbers is below 2 ^ k
  set_below : (n k : ℕ) (p : ℕ → Bool) → n ≤ k → set_of n p < 2 ^ k
  set_below n k p h = let a = set_of_lt n p in let b : 2 ^ n ≤ 2 ^ k = pow_mono h in omega arith

  pub pair_back : (x y : ℕ) → D.roles ≤ 16 → x < I.size → y < I.size → num2 (line_bytes D I) (pair_at k I.size x y) ≡ role_mask D I x y
  pair_back x y few hx hy = two.made (line_bytes D I) (pair_at k I.size x y) (role_mask D I x y)
      (set_below D.roles 16 (λ r. I.role r x y) few)
      (λ i hi. byte_line (pair_at k I.size x y + i) (omega (arith, pair_below I.size x y hx hy)) ∙ byte_pair x y i hx hy hi)

  pub name_back : (x : ℕ) → D.entries ≤ most_entries → x < I.size → names_at (wide_names D) (line_bytes D I) x ≡ name_mask D I x
  name_back x few hx = (names (wide_names D)).made (line_bytes D I) (name_at k x) (name_mask D I x)
      (set_below D.entries (8 * k) (λ e. is_name (D.entry e) && I.name e x) (name_room D.entries D.entries (omega arith) few))
      (λ i hi. byte_line (name_at k x + i) (omega (arith, name_next k x I.size hx)) ∙ byte_name x i hx hi)

  -- the bytes are the interpretation
  pub back : D.entries ≤ most_entries → D.roles ≤ 16 → Alike D I (line_in (wide_names D) (line_bytes D I))
  back entries roles = record {
    size = sym elements_back;
    names = λ e he q x hx. sym (ap (λ n. has n e) (name_back x entries hx) ∙ has_set_of D.entries (λ e. is_name (D.entry e) && I.name e x) e he ∙ ap (λ k. is_name k && I.name e x) q);
    roles = λ r hr x y hx hy. sym (ap (λ n. has (num2 (line_bytes D I) (pair_at k n x y)) r) elements_back
        ∙ ap (λ n. has n r) (pair_back x y roles hx hy) ∙ has_set_of D.roles (λ r. I.role r x y) r hr);
  }

  -- and have the form of a line
  pub back_ok : D.entries ≤ most_entries → D.roles ≤ 16 → 1 ≤ I.size → I.size ≤ most_elements → LineOk D (line_bytes D I)
  back_ok entries roles some few = record {
    some_element = rw elements_back some;
    few_elements = rw elements_back few;
    whole = length_tabulate (line_length k I.size) (line_byte D I) ∙ ap (line_length k) (sym elements_back);
    names_inside = λ x hx e u. let w = (set_of↔ D.entries (λ e. is_name (D.entry e) && I.name e x) e).0
        (sym (ap (λ n. has n e) (name_back x entries (rw elements_back at hx))) ∙ u) in (w.0, and_l (is_name (D.entry e)) (I.name e x) w.1);
    roles_inside = λ x hx y hy r u. ((set_of↔ D.roles (λ r. I.role r x y) r).0
        (sym (ap (λ n. has (num2 (line_bytes D I) (pair_at k n x y)) r) elements_back ∙ ap (λ n. has n r) (pair_back x y roles (rw elements_back at hx) (rw elements_back at hy))) ∙ u)).0;
  }

  -- ---- writing
  -- a buffer whose first bytes are those of the line, and whose others are as they were
  pub written : (old new : List ℕ) → length new ≡ length old → line_length k I.size ≤ length old
      → ((p : ℕ) → p < line_length k I.size → byte_at new p ≡ line_byte D I p)
      → ((p : ℕ) → line_length k I.size ≤ p → byte_at new p ≡ byte_at old p)
      → new ≡ line_bytes D I ++ drop (line_length k I.size) old
  written old new e h first rest = ext_get_or 0 new (line_bytes D I ++ drop n old) size (λ p k. at p (dec_lt p n))
    where
      n : ℕ
      n = line_length k I.size

      long : length (line_bytes D I) ≡ n
      long = length_tabulate n (line_byte D I)

      size : length new ≡ length (line_bytes D I ++ drop n old)
      size = e ∙ sym (length-append (line_bytes D I) (drop n old) ∙ ap₂ ◌+◌ long (length-drop n old) ∙ (omega arith))

      at : (p : ℕ) → Dec (p < n) → byte_at new p ≡ byte_at (line_bytes D I ++ drop n old) p
      at p (yes k) = first p k ∙ sym (byte_line p k) ∙ sym (get_or-append (line_bytes D I) (drop n old) 0 p (omega (arith, long)))
      at p (no k) = let z : length (line_bytes D I) + (p - n) ≡ p = omega (arith, long) in let y : n + (p - n) ≡ p = omega arith in
          rest p (omega arith) ∙ ap (byte_at old) (sym y) ∙ sym (get_or-drop n old (p - n) 0) ∙ sym (get_or-append-add (line_bytes D I) (drop n old) (p - n) 0) ∙ ap (byte_at (line_bytes D I ++ drop n old)) z
