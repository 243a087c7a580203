-- What each row of a step gives to the cells, found once for the step and held in four arrays of six; 0 stands behind the last row.
use Rattle.std.specs.Prelude.{ℕ, zero, suc, ◌+◌, ◌%◌, ◌≤◌, ◌<◌, ◌≡◌, refl, Bool, true, false, cond, ◌&&◌, ◌||◌, List, eqb, ltb, length, get_or, set, replicate}
use Rattle.std.proofs.Common.{sym, ◌∙◌, subst, inl, inr, arith, lt-ltb, le-ltb, length-set, get_or-set_same, get_or-set_other, get_or-take}
use Rattle.std.proofs.Math.Path.{ap}
use Rattle.std.proofs.Math.Decide.{dec_lt}
use Rattle.logic.specs.Tests.{So, decide, and_l, and_r, or_cases, same_test, so_eqb, eqb↔, so_ltb, ltb_so}
use Rattle.logic.specs.Bounded.{any_below, any_elim}
use Rattle.logic.specs.Sums.{only}
use Rattle.logic.specs.Sets.{has, set_of}
use Rattle.logic.specs.SetLaws.{no_member, has_none, set_ext}
use Rattle.parts.specs.Numbers.{up_to}
use Rattle.labels.specs.Labels.{label_with, value_of, no_label}
use Rattle.labels.specs.declared.Label.{Label}
use Rattle.description.specs.Literals.{literal, opposite, code, code_literal}
use Rattle.description.specs.Descriptions.{Fields, entry_from, entry_of_fields}
use Rattle.tables.specs.Tables.{fields_at, entry_count}
use Rattle.tables.specs.Concepts.{fields_struct, concept_of, concept_at}
use Rattle.tables.specs.declared.Fields as Code
use Rattle.tables.specs.declared.Concept.{Concept}
use Rattle.tables.specs.declared.Concept.TheVariants.{Every}
use Rattle.tables.specs.declared.RoleNo.{RoleNo}
use Rattle.sources.specs.Sources.{carried}
use Rattle.refutation.specs.Cells.{Row}
use Rattle.roles.specs.Disjoint.{role_bit}
use Rattle.rows.specs.declared.Row as Held
use Rattle.rows.specs.HeldRows.{given, held_at, first_at, no_row}
use Rattle.rows.proofs.HeldRows.{at_held}
use Rattle.cell_labels.specs.CellShows.{room, every_shows, carried_at, passes, in_room, Puts}
use Rattle.cell_labels.specs.CellLaws.{puts_nothing, puts_more, put_set, is_every↔, every_of, every_read}

-- ---- arrays of six
-- the values of the first k elements are those of f, and 0 behind them; v tells an element's value, and d stands past the end
pub record SixOf {A : Type 0} (v : A → ℕ) (d : A) (f : ℕ → ℕ) (k : ℕ) (out : List A) : Type 0 where
  pub size : length out ≡ 6
  pub at : (i : ℕ) → i < 6 → v (get_or out i d) ≡ only (ltb i k) (f i)

-- the number at i of an array of masks, or of labels
abbrev pub mask_at : List ℕ → ℕ → ℕ
mask_at out i = get_or out i 0

abbrev pub label_at : List Label → ℕ → ℕ
label_at out i = value_of (get_or out i no_label)

abbrev pub Masks : (ℕ → ℕ) → ℕ → List ℕ → Type 0
Masks = SixOf (λ x. x) 0

abbrev pub Labels : (ℕ → ℕ) → ℕ → List Label → Type 0
Labels = SixOf value_of no_label

-- ---- what a row gives, if it is there
abbrev pub only_if : Bool → ℕ → ℕ
only_if = only

-- the roles above its own, by the masks a of the roles, and the mask of its own
abbrev pub above_of : List ℕ → Row → ℕ
above_of a R = get_or a (R.role % 16) 0

abbrev pub bit_of : Row → ℕ
bit_of R = role_bit R.role

-- it shows l of its own cells: its qualifier, or what an entry shows by its role alone
abbrev pub shows_own : List ℕ → List ℕ → ℕ → (ℕ → Bool) → Row → ℕ → Bool
shows_own cs a N on R l = eqb (code R.qualifier) l || any_below (entry_count cs) (every_shows cs N on (has (above_of a R)) l)

unfoldable pub shown_by : List ℕ → List ℕ → ℕ → (ℕ → Bool) → Row → ℕ
shown_by cs a N on R = set_of room (shows_own cs a N on R)

-- the literal that it shows of other cells that have its role
abbrev pub denied_by : Row → ℕ
denied_by R = code (opposite R.qualifier)

-- row i shows l of its own cells by entry f; `above` has the roles above that of each row
abbrev pub entry_shows : List ℕ → List ℕ → ℕ → List ℕ → ℕ → ℕ → ℕ → Bool
entry_shows cs a N above f i l = every_shows cs N (carried_at cs a N) (has (mask_at above i)) l f

-- ---- what a cell has of the arrays
-- row i shows l of cell c: inside the row by what it shows of its own cells, outside by its opposite qualifier, if the role is among those
-- of the cell
abbrev pub gives : (ℕ → Bool) → List ℕ → List Label → List ℕ → ℕ → ℕ → ℕ → Bool
gives among own shown against c l i = cond (has c i) (has (label_at shown i) l)
    (any_below 16 (λ t. among t && has (mask_at own i) t) && eqb (mask_at against i) l)

-- the known label of cell c; `among` tells its roles, for the rows outside
unfoldable pub gathered_by : (ℕ → Bool) → List ℕ → List Label → List ℕ → ℕ → ℕ
gathered_by among own shown against c = set_of room (λ l. eqb 0 l || any_below 6 (gives among own shown against c l))

-- what a row shows of its own cells, put into a label
pub shown_is : (cs a : List ℕ) (N : ℕ) (on : ℕ → Bool) (R : Held.Row) (T Q : ℕ) → T ≡ label_with 0 R.qualifier
    → Puts T Q (λ l. any_below (entry_count cs) (every_shows cs N on (has (get_or a (R.role.0 % 16) 0)) l)) → Q ≡ shown_by cs a N on (given R)
unfolding shown_by
shown_is cs a N on R T Q e h = put_set T Q (code (literal R.qualifier)) _ (rw (code_literal R.qualifier) e) h

-- a row put in
module _ (N M : ℕ) (b d : Bool) (p q : ℕ → Bool) where
  pub row_within : b ≡ true → Puts N M p → Puts N M (λ l. cond b (p l) (d && q l))
  row_within e h l = h l ∙ rw e refl

  pub row_reached : b ≡ false → d ≡ true → Puts N M q → Puts N M (λ l. cond b (p l) (d && q l))
  row_reached e g h l = h l ∙ rw (e, g) refl

  -- where they are tests of the row
  pub row_told : (e g : Bool) → b ≡ e → d ≡ g → Puts N M (λ l. cond b (p l) (d && q l)) → Puts N M (λ l. cond e (p l) (g && q l))
  row_told e g x y h = subst (λ d. Puts N M (λ l. cond e (p l) (d && q l))) y (subst (λ b. Puts N M (λ l. cond b (p l) (d && q l))) x h)

pub row_neither : (N : ℕ) (b d : Bool) (p q : ℕ → Bool) → b ≡ false → d ≡ false → Puts N N (λ l. cond b (p l) (d && q l))
row_neither N b d p q e g l = puts_nothing N l ∙ rw (e, g) refl

-- the label with what the rows show
pub gathered_is : (among : ℕ → Bool) (own : List ℕ) (shown : List Label) (against : List ℕ) (c T Q : ℕ) → T ≡ label_with 0 0
    → Puts T Q (λ l. any_below 6 (gives among own shown against c l)) → Q ≡ gathered_by among own shown against c
unfolding gathered_by
gathered_is among own shown against c T Q e h = put_set T Q 0 _ e h

-- ---- filling the arrays
pub six_start : {A : Type 0} {v : A → ℕ} {d : A} (f : ℕ → ℕ) (x : A) → v x ≡ 0 → v d ≡ 0 → SixOf v d f 0 (replicate 6 x)
six_start {A} {v} {d} f x e q = record { size = refl; at = λ i _. let z : 0 ≤ i = omega arith in rw (le-ltb i 0 z) (go i) }
  where
    go : (i : ℕ) → v (get_or (replicate 6 x) i d) ≡ 0
    go zero = e
    go (suc zero) = e
    go (suc (suc zero)) = e
    go (suc (suc (suc zero))) = e
    go (suc (suc (suc (suc zero)))) = e
    go (suc (suc (suc (suc (suc zero))))) = e
    go (suc (suc (suc (suc (suc (suc i)))))) = q

-- an element of an array that one is put into
set_at : {A : Type 0} (out : List A) (i m : ℕ) (x d : A) (P : A → Type 0) → length out ≡ 6 → i < 6 → (m ≡ i → P x) → ((m ≡ i → ⊥)
    → P (get_or out m d)) → P (get_or (set out i x) m d)
set_at out i m x d P s h here there = elim (decide (eqb m i)) [
  | inl u ↦ (let e = so_eqb m i u in
      subst P (sym (ap (λ m. get_or (set out i x) m d) e ∙ get_or-set_same out i x d (omega (arith, s)))) (here e))
  | inr u ↦ (let e : m ≡ i → ⊥ = λ q. u ((eqb↔ m i).1 q) in subst P (sym (get_or-set_other out i m x d e)) (there e))
]

-- the numbers below i + 1 but i
ltb_next : (m i : ℕ) → (m ≡ i → ⊥) → ltb m i ≡ ltb m (i + 1)
ltb_next m i e = same_test _ _ (λ u. let z = so_ltb m i u in ltb_so m (i + 1) (omega arith)) (λ u. let z = so_ltb m (i + 1) u in
    ltb_so m i (omega (arith, e)))

module _ {A : Type 0} {v : A → ℕ} {d : A} {f : ℕ → ℕ} {out : List A} {i : ℕ} (r : SixOf v d f i out) where
  pub six_more : (x : A) → i < 6 → v x ≡ f i → SixOf v d f (i + 1) (set out i x)
  six_more x h e = record {
    size = simp length-set r.size;
    at = λ m b. set_at out i m x d (λ y. v y ≡ only (ltb m (i + 1)) (f m)) r.size h
        (λ q. let z : i < i + 1 = omega arith in rw (q, lt-ltb i (i + 1) z) e)
        (λ q. r.at m b ∙ ap (λ t. only t (f m)) (ltb_next m i q));
  }

  -- all six, with 0 behind the first k
  pub six_done : (k : ℕ) (g : ℕ → ℕ) → 6 ≤ i → ((m : ℕ) → f m ≡ only (ltb m k) (g m)) → SixOf v d g k out
  six_done k g h e = record { size = r.size; at = λ m b. let z : m < i = omega arith in r.at m b ∙ rw (lt-ltb m i z) (e m) }

-- what a row gives that is read as one of the first k, if it is one
pub six_row : (rows : List Held.Row) (k i : ℕ) (x : Held.Row) (f : Held.Row → ℕ) → i < 6 → x ≡ first_at rows k i
    → only (ltb i k) (f x) ≡ only (ltb i k) (f (held_at rows i))
six_row rows k i x f h e = elim (dec_lt i k) [
  | yes l ↦ ap (λ R. only (ltb i k) (f R)) (at_held rows i x h (e ∙ get_or-take (up_to 6 k) rows i no_row (inside l)))
  | no l ↦ (let z : k ≤ i = omega arith in rw (le-ltb i k z) refl)
]
  where
    inside : i < k → i < up_to 6 k
    inside l = elim (dec_lt k 6) [ yes g ↦ rw (lt-ltb k 6 g) l | no g ↦ (let z : 6 ≤ k = omega arith in rw (le-ltb k 6 z) h) ]

-- an array that is made of what each of the first k rows gives
pub six_made : {A : Type 0} {v : A → ℕ} {d : A} (rows : List Held.Row) (k : ℕ) (f : Held.Row → ℕ) (out : List A) → length out ≡ 6
    → ((i : ℕ) → i < 6 → v (get_or out i d) ≡ only (ltb i k) (f (first_at rows k i))) → SixOf v d (λ i. f (held_at rows i)) k out
six_made rows k f out s h = record { size = s; at = λ i l. h i l ∙ six_row rows k i _ f l refl }

-- ---- labels that grow together
-- each label of `new` has what that of `old` has, and of what passes p what fits
pub record Grown (old new : List Label) (p : ℕ → ℕ → Bool) : Type 0 where
  pub size : length new ≡ 6
  pub at : (i : ℕ) → i < 6 → Puts (label_at old i) (label_at new i) (p i)

pub grown_nothing : (old : List Label) (p : ℕ → ℕ → Bool) → length old ≡ 6 → ((i l : ℕ) → p i l ≡ false) → Grown old old p
grown_nothing old p e h = record {
  size = e;
  at = λ i _ l. puts_nothing (label_at old i) l ∙ ap (λ b. has (label_at old i) l || (in_room l && b)) (sym (h i l));
}

-- entry by entry
pub grown_none : (old : List Label) (p : ℕ → ℕ → ℕ → Bool) → length old ≡ 6 → Grown old old (λ i l. any_below 0 (λ g. p g i l))
unfolding any_below
grown_none old p e = grown_nothing old _ e (λ i l. refl)

module _ (old mid : List Label) (f : ℕ) (p : ℕ → ℕ → ℕ → Bool) (A : Grown old mid (λ i l. any_below f (λ g. p g i l))) where
  pub grown_more : (new : List Label) → Grown mid new (p f) → Grown old new (λ i l. any_below (f + 1) (λ g. p g i l))
  grown_more new B = record {
    size = B.size;
    at = λ i h. puts_more (label_at old i) (label_at mid i) f (λ g. p g i) (A.at i h) (label_at new i) (B.at i h);
  }

  pub grown_done : (n : ℕ) → f ≤ n → n ≤ f → Grown old mid (λ i l. any_below n (λ g. p g i l))
  grown_done n h k = let e : f ≡ n = omega arith in subst (λ n. Grown old mid (λ i l. any_below n (λ g. p g i l))) e A

-- row by row
pub grown_start : (old : List Label) (p : ℕ → ℕ → Bool) → length old ≡ 6 → Grown old old (λ m l. ltb m 0 && p m l)
grown_start old p e = grown_nothing old _ e (λ m l. let z : 0 ≤ m = omega arith in rw (le-ltb m 0 z) refl)

module _ (old out : List Label) (i : ℕ) (p : ℕ → ℕ → Bool) (A : Grown old out (λ m l. ltb m i && p m l)) where
  pub grown_row : (x : Label) → i < 6 → Puts (label_at out i) (value_of x) (p i) → Grown old (set out i x) (λ m l. ltb m (i + 1) && p m l)
  grown_row x h B = record {
    size = simp length-set A.size;
    at = λ m b. set_at out i m x no_label (λ y. Puts (label_at old m) (value_of y) (λ l. ltb m (i + 1) && p m l)) A.size h
        (λ q. subst (λ m. Puts (label_at old m) (value_of x) (λ l. ltb m (i + 1) && p m l)) (sym q) here)
        (λ q. subst (λ t. Puts (label_at old m) (label_at out m) (λ l. t && p m l)) (ltb_next m i q) (A.at m b));
  }
    where
      here : Puts (label_at old i) (value_of x) (λ l. ltb i (i + 1) && p i l)
      here l = let y : i ≤ i = omega arith in let z : i < i + 1 = omega arith in
          let same : has (label_at out i) l ≡ has (label_at old i) l = A.at i h l
          ∙ rw (le-ltb i i y) (sym (puts_nothing (label_at old i) l)) in
          B l ∙ rw (same, lt-ltb i (i + 1) z) refl

  pub grown_rows : 6 ≤ i → Grown old out p
  grown_rows h = record { size = A.size; at = λ m b. let z : m < i = omega arith in rw (lt-ltb m i z) at (A.at m b) }

pub put_told : (N M : ℕ) (b d : Bool) (p : ℕ → Bool) → b ≡ d → Puts N M (λ l. b && p l) → Puts N M (λ l. d && p l)
put_told N M b d p e h = subst (λ b. Puts N M (λ l. b && p l)) e h

-- by an entry: x is the concept that is read
module _ (cs a : List ℕ) (N : ℕ) (above : List ℕ) (f : ℕ) (old : List Label) (x v : Concept) (e : x ≡ concept_at cs f) (q : x ≡ v) where
  pub grown_other : length old ≡ 6 → ((t : ℕ → ℕ → Bool) → every_of t v ≡ false) → Grown old old (entry_shows cs a N above f)
  grown_other s no-every = grown_nothing old (entry_shows cs a N above f) s
      (λ i l. sym (every_read cs f x v e q (λ t k. passes N (carried_at cs a N f) (has (mask_at above i) t) f k l)) ∙ no-every _)

  pub grown_every : (new : List Label) (t : RoleNo) (l M : ℕ) → v ≡ Every t l → Puts 0 M (passes N (carried cs a N t.0 l) true f l)
      → Grown old new (λ i m. has (mask_at above i) t.0 && has M m) → Grown old new (entry_shows cs a N above f)
  grown_every new t l M u h g = record { size = g.size; at = λ i b m. g.at i b m ∙ ap (λ z. has (label_at old i) m || z) (told i m) }
    where
      onward : carried cs a N t.0 l ≡ carried_at cs a N f
      onward = every_read cs f x (Every t l) e (q ∙ u) (carried cs a N)

      twice : (r b c : Bool) → (r && (b && (r && c))) ≡ (r && (b && c))
      twice true b c = refl
      twice false b c = refl

      told : (i m : ℕ) → (in_room m && (has (mask_at above i) t.0 && has M m)) ≡ (in_room m && entry_shows cs a N above f i m)
      told i m = ap (λ z. in_room m && (has (mask_at above i) t.0 && z)) (h m
          ∙ ap (λ z. z || (in_room m && passes N (carried cs a N t.0 l) true f l m)) (has_none m))
          ∙ twice (in_room m) (has (mask_at above i) t.0) _
          ∙ ap (λ z. in_room m && passes N z (has (mask_at above i) t.0) f l m) onward
          ∙ ap (λ z. in_room m && z) (every_read cs f x (Every t l) e (q
          ∙ u) (λ t k. passes N (carried_at cs a N f) (has (mask_at above i) t) f k m))

-- the concept of the fields that the code has read
module _ (cs : List ℕ) (f : ℕ) (g : Code.Fields) (e : g ≡ fields_struct cs f) where
  pub every_concept : g.kind ≡ 3 → concept_at cs f ≡ Every (record { 0 = g.role }) g.first
  unfolding concept_of entry_from
  every_concept k = let z : (fields_at cs f).kind ≡ 3 = ap (λ g. g.kind) (sym e) ∙ k in
      rw (z, e) (ap (Every (record { 0 = (fields_at cs f).role })) (code_literal (fields_at cs f).first))

  pub other_concept : (g.kind ≡ 3 → ⊥) → (t : ℕ → ℕ → Bool) → every_of t (concept_at cs f) ≡ false
  unfolding concept_of entry_from
  other_concept k t = go (fields_at cs f).kind (λ z. k (ap (λ g. g.kind) e ∙ z))
    where
      F : Fields
      F = fields_at cs f

      go : (n : ℕ) → (n ≡ 3 → ⊥) → every_of t (concept_of (entry_from n F.role F.first F.second F.number)) ≡ false
      go zero h = refl
      go (suc zero) h = refl
      go (suc (suc zero)) h = refl
      go (suc (suc (suc zero))) h = absurd (h refl)
      go (suc (suc (suc (suc n)))) h = refl

-- what is shown of no role
shown_none : (cs : List ℕ) (N : ℕ) (on : ℕ → Bool) (T Q M n : ℕ) → T ≡ 0 → M ≡ 0
    → Puts T Q (λ l. any_below n (every_shows cs N on (has M) l)) → Q ≡ 0
shown_none cs N on T Q M n e g h = set_ext Q 0
    (λ l u. elim (or_cases (has T l) _ (sym (h l) ∙ u)) [
      | inl v ↦ subst (λ n. So (has n l)) e v
      | inr v ↦ (let w = any_elim n (every_shows cs N on (has M) l) (and_r (in_room l) _ v) in
          let y = (is_every↔ _ (entry_of_fields (fields_at cs w.0))).0 w.2 in
          absurd (no_member y.0 (subst (λ n. So (has n y.0)) g (and_l (has M y.0) _ y.3))))
    ])
    (λ l u. absurd (no_member l u))

-- the qualifiers, with what all entries show
pub shown_six : (cs a : List ℕ) (N : ℕ) (on : ℕ → Bool) (rows : List Held.Row) (k : ℕ) (above : List ℕ) (old new : List Label)
    → Labels (λ i. label_with 0 (held_at rows i).qualifier) k old → Masks (λ i. above_of a (given (held_at rows i))) k above
    → Grown old new (λ i l. any_below (entry_count cs) (every_shows cs N on (has (mask_at above i)) l))
    → Labels (λ i. shown_by cs a N on (given (held_at rows i))) k new
shown_six cs a N on rows k above old new S B G = record { size = G.size; at = λ i h. go i h (dec_lt i k) }
  where
    go : (i : ℕ) → i < 6 → Dec (i < k) → label_at new i ≡ only (ltb i k) (shown_by cs a N on (given (held_at rows i)))
    go i h (yes l) = rw (lt-ltb i k l) (shown_is cs a N on (held_at rows i) (label_at old i) (label_at new i) (rw (lt-ltb i k l) at
        (S.at i h))
        (subst (λ m. Puts (label_at old i) (label_at new i) (λ l. any_below (entry_count cs) (every_shows cs N on (has m) l))) (rw
        (lt-ltb i k l) at (B.at i h)) (G.at i h)))
    go i h (no l) = let z : k ≤ i = omega arith in rw (le-ltb i k z)
        (shown_none cs N on (label_at old i) (label_at new i) (mask_at above i) (entry_count cs) (rw (le-ltb i k z) at (S.at i h))
        (rw (le-ltb i k z) at (B.at i h)) (G.at i h))
