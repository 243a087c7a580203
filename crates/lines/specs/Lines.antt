-- Interpretations in bytes (01, "The written line"; FORMAT 7): which one a line is, its form (refusal 23), and the bytes of one.
use Rattle.std.specs.Prelude.{ℕ, ◌+◌, ◌-◌, ◌*◌, ◌/◌, ◌%◌, ◌^◌, ◌≤◌, ◌<◌, ◌≡◌, ◌↔◌, Bool, cond, ◌&&◌, List, eqb, leb, ltb, length}
use Rattle.logic.specs.Tests.{So}
use Rattle.logic.specs.Bounded.{all_below, below}
use Rattle.logic.specs.Lists.{tabulate}
use Rattle.logic.specs.Sets.{has, narrow, within, set_of}
use Rattle.logic.specs.SetLaws.{narrow↔, within↔, set_of↔}
use Rattle.parts.specs.Numbers.{byte_at, num2}
use Rattle.labels.specs.Labels.{wide, name_bytes, names_in}
use Rattle.description.specs.Descriptions.{Description, is_name}
use Rattle.interpretation.specs.Meaning.{Interpretation}

-- ---- name masks are wide if the table has many entries
abbrev pub wide_names : Description → Bool
wide_names D = wide D.entries

-- the bytes of one
abbrev pub name_size : Description → ℕ
name_size D = name_bytes (wide_names D)

-- ---- places: the number d of elements, their name masks of k bytes, their rows of pairs;
-- row x has a role mask of 2 bytes for each element that x may lead to
abbrev pub name_at : ℕ → ℕ → ℕ
name_at k x = 1 + k * x

abbrev pub pair_at : ℕ → ℕ → ℕ → ℕ → ℕ
pair_at k d x y = name_at k d + 2 * (x * d + y)

abbrev pub line_length : ℕ → ℕ → ℕ
line_length k d = name_at k d + 2 * (d * d)

abbrev pub elements : List ℕ → ℕ
elements s = byte_at s 0

-- the name mask of element x, wide or narrow
abbrev pub names_at : Bool → List ℕ → ℕ → ℕ
names_at broad s x = names_in broad s (name_at (name_bytes broad) x)

-- the interpretation that the bytes are
abbrev pub line_in : Bool → List ℕ → Interpretation
line_in broad s = record {
  size = elements s;
  name = λ e x. has (names_at broad s x) e;
  role = λ r x y. has (num2 s (pair_at (name_bytes broad) (elements s) x y)) r;
}

-- ---- 23: 1 to 64 elements, the length that they ask for, and no bit but for a name entry or a role of the table
abbrev pub most_elements : ℕ
most_elements = 64

pub record LineOk (D : Description) (s : List ℕ) : Type 0 where
  pub some_element : 1 ≤ elements s
  pub few_elements : elements s ≤ most_elements
  pub whole : length s ≡ line_length (name_size D) (elements s)
  pub names_inside : (x : ℕ) → x < elements s → (e : ℕ) → So (has (names_at (wide_names D) s x) e) → (e < D.entries) × So (is_name (D.entry e))
  pub roles_inside : (x : ℕ) → x < elements s → (y : ℕ) → y < elements s
      → (r : ℕ) → So (has (num2 s (pair_at (name_size D) (elements s) x y)) r) → r < D.roles

-- the name entries of the table
abbrev pub name_set : Description → ℕ
name_set D = set_of D.entries (λ e. is_name (D.entry e))

unfoldable pub line_test : Description → List ℕ → Bool
line_test D s = leb 1 (elements s) && (leb (elements s) most_elements && (eqb (length s) (line_length (name_size D) (elements s))
    && (all_below (elements s) (λ x. within (names_at (wide_names D) s x) (name_set D))
    && all_below (elements s) (λ x. all_below (elements s) (λ y. narrow (num2 s (pair_at (name_size D) (elements s) x y)) D.roles)))))

pub line↔ : (D : Description) (s : List ℕ) → So (line_test D s) ↔ LineOk D s
unfolding line_test
line↔ D s = simp (below, narrow↔, within↔, set_of↔) (
  λ t. record { some_element = t.0; few_elements = t.1.0; whole = t.1.1.0; names_inside = t.1.1.1.0; roles_inside = t.1.1.1.1 },
  λ o. (o.some_element, (o.few_elements, (o.whole, (o.names_inside, o.roles_inside)))),
)

-- ---- the bytes of an interpretation
-- the name entries that element x has, and the roles of the pair (x, y)
abbrev pub name_mask : Description → Interpretation → ℕ → ℕ
name_mask D I x = set_of D.entries (λ e. is_name (D.entry e) && I.name e x)

abbrev pub role_mask : Description → Interpretation → ℕ → ℕ → ℕ
role_mask D I x y = set_of D.roles (λ r. I.role r x y)

-- byte i of the k bytes of n, high byte first
abbrev pub byte_of : ℕ → ℕ → ℕ → ℕ
byte_of k n i = n / 256 ^ (k - 1 - i) % 256

-- byte p of the line; q counts from the first role mask
abbrev pub pair_byte : Description → Interpretation → ℕ → ℕ
pair_byte D I q = byte_of 2 (role_mask D I (q / 2 / I.size) (q / 2 % I.size)) (q % 2)

unfoldable pub line_byte : Description → Interpretation → ℕ → ℕ
line_byte D I p = cond (eqb p 0) I.size
    (cond (ltb p (name_at (name_size D) I.size)) (byte_of (name_size D) (name_mask D I ((p - 1) / name_size D)) ((p - 1) % name_size D))
    (pair_byte D I (p - name_at (name_size D) I.size)))

abbrev pub line_bytes : Description → Interpretation → List ℕ
line_bytes D I = tabulate (line_length (name_size D) I.size) (line_byte D I)
