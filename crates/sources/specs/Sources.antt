-- What a label carries on, and the table of sources: for each entry "every r l" with r transitive, the entries whose presence in a label
-- makes the r edges carry it on. With it, rule 14 asks of a label only whether it meets a set.
use Prim.Native.Nat.{ℕ, zero, suc, ◌+◌, ◌*◌, ◌/◌, ◌%◌, ◌≤◌, ◌<◌}
use Rattle.std.specs.Prelude.{◌≡◌, ◌↔◌, Bool, true, false, cond, not, ◌&&◌, List, eqb, length, get_or}
use Rattle.std.proofs.Math.Path.{refl}
use Rattle.std.proofs.Common.{sym, ◌∙◌, ap, inl, inr, arith, lt-ltb, le-ltb}
use Rattle.std.proofs.lemmas.Bool.{false≢true}
use Rattle.std.proofs.Math.Decide.{dec_lt}
use Rattle.std.proofs.Math.Numerals.{add-one}
use Rattle.logic.specs.Tests.{So, so_and, and_l, and_r, so_eqb, so_false, same_test}
use Rattle.logic.specs.Bounded.{any_below, any_intro, any_elim}
use Rattle.logic.specs.Sums.{only}
use Rattle.logic.specs.Sets.{has}
use Rattle.logic.specs.SetLaws.{no_member, with↔}
use Rattle.description.specs.Literals.{Literal, code, literal_code, code_literal}
use Rattle.description.specs.Descriptions.{Entry, every, Fields, fields_of, entry_from, entry_of_fields}
use Rattle.tables.specs.Concepts.{fields_struct}
use Rattle.tables.specs.declared.Fields as Code
use Rattle.labels.specs.Labels.{most_entries, most_literals, label_with}
use Rattle.labels.specs.Words.{meet, entries_of, entries_meet}
use Rattle.parts.specs.Filling.{Filled}
use Rattle.tables.specs.Tables.{fields_at, entry_count}

-- the fields are those of an "every q l" with q in the mask `above`
abbrev pub every_above : ℕ → ℕ → Fields → Bool
every_above above l F = eqb F.kind 3 && (eqb F.first l && has above F.role)

-- the label N has such an entry
abbrev pub has_above : List ℕ → ℕ → ℕ → ℕ → Bool
has_above cs N above l = any_below (entry_count cs) (λ f. has N (2 * f) && every_above above l (fields_at cs f))

-- r is transitive and the label has an "every q l" with r ⊑* q: the r edges carry "every r l" on. The masks m of the roles have behind the
-- ancestors those of transitive roles, and none for the others
abbrev pub carried : List ℕ → List ℕ → ℕ → ℕ → ℕ → Bool
carried cs m N r l = has_above cs N (get_or m (16 + r % 16) 0) l

-- ---- the table
-- the label of the entries below n that pass
unfoldable pub marked : (ℕ → Bool) → ℕ → ℕ
marked p zero = 0
marked p (suc f) = cond (p f) (label_with (marked p f) (2 * f)) (marked p f)

-- the entries "every q l" with q in the mask `above`
abbrev pub sources_above : List ℕ → ℕ → ℕ → ℕ
sources_above cs above l = marked (λ f. every_above above l (fields_at cs f)) (entry_count cs)

-- of the entry with the fields F: none, if it is no "every" or its role is not transitive
abbrev pub sources_of : List ℕ → List ℕ → Fields → ℕ
sources_of m cs F = only (eqb F.kind 3) (sources_above cs (get_or m (16 + F.role % 16) 0) F.first)

-- the table is that of the concepts and the masks of the roles: the entries of each set, in one word
abbrev pub SourcesOf : List ℕ → List ℕ → List ℕ → Type 0
SourcesOf m cs src = (e : ℕ) → e < entry_count cs → get_or src e 0 ≡ entries_of (sources_of m cs (fields_at cs e))

-- ---- "every r l" by its fields
pub every_fields : (F : Fields) (r : ℕ) (l : Literal) → (entry_of_fields F ≡ every r l) ↔ ((F.kind ≡ 3) × (F.role ≡ r) × (F.first ≡ code l))
unfolding entry_from
every_fields F r l = (
  go F.kind F.role F.first F.second F.number,
  λ h. rw (h.0, h.1, h.2, literal_code l) refl,
)
  where
    kind : Entry → ℕ
    kind x = (fields_of x).kind

    go : (k q a b n : ℕ) → entry_from k q a b n ≡ every r l → (k ≡ 3) × (q ≡ r) × (a ≡ code l)
    go zero q a b n e = absurd (let z = ap kind e in omega arith)
    go (suc zero) q a b n e = absurd (let z = ap kind e in omega arith)
    go (suc (suc zero)) q a b n e = absurd (let z = ap kind e in omega arith)
    go (suc (suc (suc zero))) q a b n e = (refl, ap (λ x. (fields_of x).role) e, sym (code_literal a) ∙ ap (λ x. (fields_of x).first) e)
    go (suc (suc (suc (suc k)))) q a b n e = absurd (let z = ap kind e in omega arith)

-- ---- a label meets them exactly if it carries the entry on
-- the entries marked, by number
marked_next : (p : ℕ → Bool) (f e : ℕ) → suc f ≤ most_entries → So (has (marked p f) (2 * e)) ↔ ((e < f) × So (p e)) → (b : Bool) → p f ≡ b
    → So (has (cond b (label_with (marked p f) (2 * f)) (marked p f)) (2 * e)) ↔ ((e < suc f) × So (p e))
unfolding label_with
marked_next p f e h below true q = rw (lt-ltb (2 * f) most_literals (let z : 2 * f < most_literals = omega arith in z)) (
  λ u. elim ((with↔ (marked p f) (2 * f) (2 * e)).0 u) [
    | inl v ↦ (let w = below.0 v in (omega (arith, w.0), w.1))
    | inr v ↦ (let z : e ≡ f = omega arith in (omega arith, ap p z ∙ q))
  ],
  λ w. (with↔ (marked p f) (2 * f) (2 * e)).1 (elim (dec_lt e f) [ yes g ↦ inl (below.1 (g, w.1)) | no g ↦ inr (let k = w.0 in let z : 2 * e ≡ 2 * f = omega arith in z) ]),
)
marked_next p f e h below false q = (
  λ u. let w = below.0 u in (omega (arith, w.0), w.1),
  λ w. below.1 (elim (dec_lt e f) [ yes g ↦ g | no g ↦ absurd (let k = w.0 in let z : e ≡ f = omega arith in false≢true (sym q ∙ ap p (sym z) ∙ w.1)) ], w.1),
)

marked_has : (p : ℕ → Bool) (n e : ℕ) → n ≤ most_entries → So (has (marked p n) (2 * e)) ↔ ((e < n) × So (p e))
unfolding marked
marked_has p zero e h = (λ u. absurd (no_member (2 * e) u), λ w. absurd (let z = w.0 in omega arith))
marked_has p (suc f) e h = marked_next p f e h (marked_has p f e (omega arith)) (p f) refl

-- a label meets the marked entries exactly if it has one of them
meet_marked : (N : ℕ) (p : ℕ → Bool) (n : ℕ) → n ≤ most_entries → meet (entries_of N) (entries_of (marked p n)) ≡ any_below n (λ f. has N (2 * f) && p f)
meet_marked N p n h = entries_meet N (marked p n) ∙ same_test _ _
    (λ u. let w = any_elim most_entries (λ f. has N (2 * f) && has (marked p n) (2 * f)) u in let m = (marked_has p n w.0 h).0 (and_r (has N (2 * w.0)) _ w.2) in
    any_intro n (λ f. has N (2 * f) && p f) w.0 m.0 (so_and (has N (2 * w.0)) (p w.0) (and_l (has N (2 * w.0)) _ w.2) m.1))
    (λ u. let w = any_elim n (λ f. has N (2 * f) && p f) u in let l = w.1 in any_intro most_entries (λ f. has N (2 * f) && has (marked p n) (2 * f)) w.0 (omega arith)
    (so_and (has N (2 * w.0)) _ (and_l (has N (2 * w.0)) _ w.2) ((marked_has p n w.0 h).1 (w.1, and_r (has N (2 * w.0)) _ w.2))))

module _ (m cs : List ℕ) (N : ℕ) where
  few : entry_count cs ≤ most_entries
  few = elim (dec_lt (length cs / 6) most_entries) [
    | yes h ↦ rw (lt-ltb (length cs / 6) most_entries h) (omega arith)
    | no h ↦ let z : most_entries ≤ length cs / 6 = omega arith in rw (le-ltb (length cs / 6) most_entries z) (omega arith)
  ]

  -- a label meets the sources of "every r l" exactly if the r edges carry it on
  pub meets_sources : (F : Fields) (r : ℕ) (l : Literal) → entry_of_fields F ≡ every r l → meet (entries_of N) (entries_of (sources_of m cs F)) ≡ carried cs m N r (code l)
  meets_sources F r l e = let k = (every_fields F r l).0 e in rw (k.0, k.1, k.2)
      (meet_marked N (λ f. every_above (get_or m (16 + r % 16) 0) (code l) (fields_at cs f)) (entry_count cs) few)

-- ---- laws for the code
pub above_read : (cs : List ℕ) (above l f : ℕ) (g : Code.Fields) (q : Bool) → g ≡ fields_struct cs f → q ≡ has above g.role
    → (eqb g.kind 3 && (eqb g.first l && q)) ≡ every_above above l (fields_at cs f)
above_read cs above l f g q e hq = rw (hq, e) refl

-- no "every" has its role in an empty mask
pub none_above : (l : ℕ) (F : Fields) → every_above 0 l F ≡ false
none_above l F = so_false _ (λ u. no_member F.role (and_r (eqb F.first l) _ (and_r (eqb F.kind 3) _ u)))

pub none_carried : (cs : List ℕ) (N above l : ℕ) → above ≡ 0 → false ≡ has_above cs N above l
none_carried cs N above l e = sym (so_false _ (λ u. let w = any_elim (entry_count cs) (λ f. has N (2 * f) && every_above above l (fields_at cs f)) u in
    false≢true (sym (none_above l (fields_at cs w.0)) ∙ ap (λ a. every_above a l (fields_at cs w.0)) (sym e) ∙ and_r (has N (2 * w.0)) _ w.2)))

pub marked_none : (p : ℕ → Bool) → 0 ≡ marked p 0
unfolding marked
marked_none p = refl

module _ (p : ℕ → Bool) (f t : ℕ) (e : t ≡ marked p f) where
  pub marked_more : (v : ℕ) → v ≡ cond (p f) (label_with t (2 * f)) t → v ≡ marked p (f + 1)
  unfolding marked
  marked_more v q = q ∙ rw (e, add-one f) refl

  pub marked_done : (n : ℕ) → f ≤ n → n ≤ f → t ≡ marked p n
  marked_done n h k = let z : f ≡ n = omega arith in rw z at e

-- the sources of the entry whose fields g were read
module _ (m cs : List ℕ) (e : ℕ) (g : Code.Fields) (q : g ≡ fields_struct cs e) where
  abbrev above : ℕ
  above = get_or m (16 + g.role % 16) 0

  none_marked : (p : ℕ → Bool) (n : ℕ) → ((f : ℕ) → p f ≡ false) → marked p n ≡ 0
  unfolding marked
  none_marked p zero h = refl
  none_marked p (suc f) h = rw (h f) (none_marked p f h)

  pub sources_on : (v : ℕ) → (eqb g.kind 3 && not (eqb above 0)) ≡ true → v ≡ sources_above cs above g.first → v ≡ sources_of m cs (fields_at cs e)
  sources_on v k p = p ∙ ap (λ g. sources_above cs (get_or m (16 + g.role % 16) 0) g.first) q
      ∙ rw (ap (λ g. g.kind) (sym q) ∙ so_eqb g.kind 3 (and_l (eqb g.kind 3) _ k)) refl

  pub sources_off : (eqb g.kind 3 && not (eqb above 0)) ≡ false → 0 ≡ sources_of m cs (fields_at cs e)
  sources_off k = go (eqb g.kind 3) (eqb above 0) refl refl ∙ ap (λ g. only (eqb g.kind 3) (sources_above cs (get_or m (16 + g.role % 16) 0) g.first)) q
    where
      go : (b c : Bool) → eqb g.kind 3 ≡ b → eqb above 0 ≡ c → 0 ≡ only (eqb g.kind 3) (sources_above cs above g.first)
      go false c p z = rw p refl
      go true true p z = rw (p, so_eqb above 0 z) (sym (none_marked (λ f. every_above 0 g.first (fields_at cs f)) (entry_count cs) (λ f. none_above g.first (fields_at cs f))))
      go true false p z = absurd (false≢true (sym k ∙ rw (p, z) refl))

-- for the loop that fills the table: what is known after the first i entries
module _ (m cs : List ℕ) where
  abbrev pub Sourced : ℕ → List ℕ → Type 0
  Sourced = Filled most_entries (λ e. entries_of (sources_of m cs (fields_at cs e)))

  pub sourced_done : (src : List ℕ) (i n : ℕ) → n ≡ entry_count cs → i ≤ n → n ≤ i → Sourced i src → SourcesOf m cs src
  sourced_done src i n q h k T = λ e l. T.at e (omega arith)
