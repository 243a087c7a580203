-- The form of a line, the inclusions, transitivity and roles that never share a filler as the code tests them, on bytes and on rows as words.
use Rattle.std.specs.Prelude.{ℕ, zero, suc, ◌+◌, ◌-◌, ◌*◌, ◌/◌, ◌≤◌, ◌<◌, ◌≡◌, refl, Bool, true, false, ◌&&◌, List, eqb, leb, length, get_or}
use Rattle.std.proofs.Common.{sym, ◌∙◌, ap, subst, arith, mul-le-mul, suc-mul, zero-mul, eq-eqb, ne_eqb}
use Rattle.std.proofs.Math.Option.{Option}
use Rattle.std.proofs.Math.Decide.{dec_lt}
use Rattle.logic.specs.Tests.{So, ◌⇒◌, reading, so_and, and_l, and_r, so_eqb, same_test, imp_in}
use Rattle.logic.specs.Bounded.{all_below, all_intro, all_elim, all_cong}
use Rattle.logic.specs.Sets.{has, narrow, within, set_of}
use Rattle.logic.specs.SetLaws.{has_set_of, within↔, no_member}
use Rattle.parts.specs.Numbers.{byte_at, num2}
use Rattle.labels.specs.Labels.{wide, name_bytes}
use Rattle.description.specs.Descriptions.{Description, Entry, top, name, both, every, at_least, is_name, entry_of_fields}
use Rattle.tables.specs.Tables.{fields_at, describe}
use Rattle.roles.specs.Disjoint.{records_by, compatible_by, compatible_all}
use Rattle.tables.specs.Concepts.{concept_of}
use Rattle.tables.specs.declared.Concept.TheVariants.{Name}
use Rattle.interpretation.specs.Meaning.{Interpretation}
use Rattle.lines.specs.Lines.{wide_names, name_size, name_at, line_length, elements, names_at, line_test, most_elements, name_set}
use Rattle.words.specs.Words.{within_set_of}

-- role mask q of those from `at` on, and whether role r joins x to y, of d elements
abbrev pub mask_at : List ℕ → ℕ → ℕ → ℕ
mask_at s at q = num2 s (at + 2 * q)

abbrev pub pair_in : List ℕ → ℕ → ℕ → ℕ → ℕ → ℕ → Bool
pair_in s at d r x y = has (mask_at s at (x * d + y)) r

-- the elements that x reaches by the role r
abbrev pub row_of : List ℕ → ℕ → ℕ → ℕ → ℕ → ℕ
row_of s at d r x = set_of d (pair_in s at d r x)

-- the interpretation that the bytes are, the number d of elements apart
abbrev pub sized : Bool → List ℕ → ℕ → Interpretation
sized broad s d = record { size = d; name = λ e x. has (names_at broad s x) e; role = pair_in s (name_at (name_bytes broad) d) d }

-- ---- 23
-- entry e is a name
abbrev pub name_entry : List ℕ → ℕ → Bool
name_entry cs e = is_name (entry_of_fields (fields_at cs e))

-- the number of elements, and the length that they ask for
abbrev pub size_test : Bool → List ℕ → Bool
size_test broad s = leb 1 (elements s) && (leb (elements s) most_elements && eqb (length s) (line_length (name_bytes broad) (elements s)))

-- ---- inclusions and transitivity
-- each pair of role r is one of the parents' too; the parents of the table
abbrev pub up_by : List ℕ → ℕ → ℕ → ℕ → ℕ → Bool
up_by s at d r parents = all_below (d * d) (λ q. has (mask_at s at q) r ⇒ within parents (mask_at s at q))

abbrev pub up_at : List ℕ → List ℕ → ℕ → ℕ → ℕ → Bool
up_at rs s at d r = up_by s at d r (num2 rs (3 * r + 1))

-- if row x holds y, it holds all of row y
abbrev pub closed_at : List ℕ → ℕ → ℕ → Bool
closed_at rows x y = has (get_or rows x 0) y ⇒ within (get_or rows y 0) (get_or rows x 0)

-- role t composes with itself, if it is transitive
abbrev pub composes_at : List ℕ → ℕ → (ℕ → ℕ → ℕ → Bool) → ℕ → Bool
composes_at rs d role t = eqb (byte_at rs (3 * t)) 1
    ⇒ all_below d (λ x. all_below d (λ y. role t x y ⇒ all_below d (λ z. role t y z ⇒ role t x z)))

-- ---- places
-- at most m rows of m
pub few_pairs : (m d x : ℕ) → d ≤ m → x ≤ m → x * d ≤ m * m
few_pairs m d x h k = mul-le-mul k h

-- the pair (x, y) as row x holds it
pub row_bit : (s : List ℕ) (at d x y r row : ℕ) {b : Bool} → row ≡ at + 2 * (x * d)
    → b ≡ has (num2 s (row + 2 * y)) r → b ≡ pair_in s at d r x y
row_bit s at d x y r row e f = f ∙ ap (λ n. has (num2 s n) r) (let z : row + 2 * y ≡ at + 2 * (x * d + y) = omega arith in z)

-- ---- laws for 23
-- a name is told by its concept
pub name_told : (k : Entry) → concept_of k ≡ Name → true ≡ is_name k
unfolding concept_of
name_told top e = cc
name_told name e = refl
name_told (both a b) e = cc
name_told (every r l) e = cc
name_told (at_least r l n) e = cc

pub name_not : (k : Entry) → (concept_of k ≡ Name → ⊥) → false ≡ is_name k
unfolding concept_of
name_not top h = refl
name_not name h = absurd (h refl)
name_not (both a b) h = refl
name_not (every r l) h = refl
name_not (at_least r l n) h = refl

-- rows of d, one after another
all_append : (a b : ℕ) (p : ℕ → Bool) → all_below (a + b) p ≡ (all_below a p && all_below b (λ i. p (a + i)))
all_append a b p = same_test _ _
    (λ h. so_and _ _ (all_intro a p (λ i l. all_elim (a + b) p h i (omega arith))) (all_intro b (λ i. p (a + i)) (λ i l. all_elim (a + b) p h (a + i) (omega arith))))
    (λ h. all_intro (a + b) p (λ i l. elim (dec_lt i a) [
      | yes k ↦ all_elim a p (and_l _ _ h) i k
      | no k ↦ (let e : a + (i - a) ≡ i = omega arith in subst (λ j. So (p j)) e (all_elim b (λ i. p (a + i)) (and_r (all_below a p) _ h) (i - a) (omega arith)))
    ]))

pub all_rows : (n d : ℕ) (p : ℕ → Bool) → all_below (n * d) p ≡ all_below n (λ x. all_below d (λ y. p (x * d + y)))
unfolding all_below
all_rows zero d p = rw zero-mul refl
all_rows (suc n) d p = rw suc-mul (all_append (n * d) d p ∙ ap (λ b. b && all_below d (λ y. p (n * d + y))) (all_rows n d p))

-- the number of elements and the length first
line_is : (D : Description) (s : List ℕ) → line_test D s ≡ (size_test (wide_names D) s
    && (all_below (elements s) (λ x. within (names_at (wide_names D) s x) (name_set D))
    && all_below (elements s * elements s) (λ q. narrow (mask_at s (name_at (name_size D) (elements s)) q) D.roles)))
unfolding line_test
line_is D s = apart (leb 1 (elements s)) (leb (elements s) most_elements) (eqb (length s) (line_length (name_size D) (elements s))) _
    ∙ ap (λ b. size_test (wide_names D) s && (all_below (elements s) (λ x. within (names_at (wide_names D) s x) (name_set D)) && b))
    (sym (all_rows (elements s) (elements s) (λ q. narrow (mask_at s (name_at (name_size D) (elements s)) q) D.roles)))
  where
    apart : (a b c r : Bool) → (a && (b && (c && r))) ≡ ((a && (b && c)) && r)
    apart true true c r = refl
    apart true false c r = refl
    apart false b c r = refl

-- the number of elements of a line of the right size
pub size_fits : (broad : Bool) (s : List ℕ) → size_test broad s ≡ true → (1 ≤ elements s) × (elements s ≤ most_elements)
size_fits broad s h = let t = simp reading at h in (t.0, t.1.0)

module _ (rs cs s : List ℕ) (broad : Bool) (w : broad ≡ wide (length cs / 6)) where
  pub line_stops : size_test broad s ≡ false → (qs : List ℕ) (p : Option (List ℕ)) → false ≡ line_test (describe rs cs qs p) s
  line_stops e qs p = sym (line_is (describe rs cs qs p) s ∙ rw (sym w, e) refl)

  -- the rest is tested where the size is right
  pub line_goes_on : (d at set : ℕ) (names masks : Bool) → size_test broad s ≡ true → d ≡ elements s → at ≡ name_at (name_bytes broad) d
      → set ≡ set_of (length cs / 6) (name_entry cs) → names ≡ all_below d (λ x. within (names_at broad s x) set)
      → masks ≡ all_below (d * d) (λ q. narrow (mask_at s at q) (length rs / 3))
      → (qs : List ℕ) (p : Option (List ℕ)) → (names && masks) ≡ line_test (describe rs cs qs p) s
  line_goes_on d at set names masks e f l g n k qs p = sym (line_is (describe rs cs qs p) s ∙ rw (sym w, e, n, k, g, l, f) refl)

-- no pair has two roles that never share a filler, by the records of the masks a
abbrev pub separated_by : List ℕ → List ℕ → ℕ → ℕ → Bool
separated_by a s at d = all_below (d * d) (λ q. compatible_by a (mask_at s at q))

pub none_separated : (a s : List ℕ) (at d : ℕ) → eqb (records_by a) 0 ≡ true → true ≡ separated_by a s at d
none_separated a s at d e = sym (all_intro (d * d) _ (λ q _. compatible_all a (mask_at s at q) (so_eqb (records_by a) 0 e)))

-- ---- laws for inclusions
pub no_parents : (rs s : List ℕ) (at d r : ℕ) → num2 rs (3 * r + 1) ≡ 0 → true ≡ up_at rs s at d r
no_parents rs s at d r e = rw e (sym (all_intro (d * d) _
    (λ q _. imp_in (has (mask_at s at q) r) (within 0 (mask_at s at q)) (λ _. (within↔ 0 (mask_at s at q)).1 (λ i u. absurd (no_member i u))))))

-- ---- laws for transitivity
module _ (rs s : List ℕ) (at d t k : ℕ) where
  -- role t
  abbrev role : ℕ → ℕ → Bool
  role = pair_in s at d t

  -- rows that are closed compose
  rows_compose : (rows : List ℕ) → ((x : ℕ) → x < d → get_or rows x 0 ≡ row_of s at d t x) → all_below d (λ x. all_below d (closed_at rows x))
      ≡ all_below d (λ x. all_below d (λ y. role x y ⇒ all_below d (λ z. role y z ⇒ role x z)))
  rows_compose rows h = all_cong d _ _ (λ x hx. all_cong d _ _ (λ y hy.
      ap (λ m. has m y ⇒ within (get_or rows y 0) m) (h x hx) ∙ ap (λ m. has (row_of s at d t x) y ⇒ within m (row_of s at d t x)) (h y hy)
      ∙ ap (λ b. b ⇒ within (row_of s at d t y) (row_of s at d t x)) (has_set_of d (role x) y hy)
      ∙ ap (λ b. role x y ⇒ b) (within_set_of d (role y) (role x))))

  pub composes_on : (rows : List ℕ) (b : Bool) → k ≡ byte_at rs (3 * t) → k ≡ 1 → ((x : ℕ) → x < d → get_or rows x 0 ≡ row_of s at d t x)
      → b ≡ all_below d (λ x. all_below d (closed_at rows x)) → b ≡ composes_at rs d (pair_in s at d) t
  composes_on rows b e q h r = r ∙ rows_compose rows h ∙ rw (eq-eqb _ _ (sym e ∙ q)) refl

pub composes_off : (rs : List ℕ) (d : ℕ) (role : ℕ → ℕ → ℕ → Bool) (t k : ℕ) → k ≡ byte_at rs (3 * t) → (k ≡ 1 → ⊥)
    → true ≡ composes_at rs d role t
composes_off rs d role t k e q = rw (ne_eqb _ _ (λ z. q (e ∙ z))) refl
