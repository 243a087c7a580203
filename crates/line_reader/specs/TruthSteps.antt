-- The set of elements at which each entry is true, as the code computes it in the order of the table, and that it is what is true there.
use Rattle.std.specs.Prelude.{ℕ, ◌+◌, ◌-◌, ◌*◌, ◌/◌, ◌%◌, ◌≤◌, ◌<◌, ◌≡◌, Bool, cond, not, ◌&&◌, List, [], ◌∷◌, leb, ltb, length, get_or, set}
use Rattle.std.proofs.Math.Path.{refl, sym, ap}
use Rattle.std.proofs.Common.{◌∙◌, ap₂, subst, arith, eq-eqb, ne_eqb, lt-ltb, le-ltb}
use Rattle.std.proofs.Math.Bool.{and-true}
use Rattle.std.proofs.Math.Option.{Option}
use Rattle.std.proofs.Math.Decide.{dec_lt}
use Rattle.std.specs.Int.Bits.{bit_and}
use Rattle.std.proofs.Math.Dec.{eqb}
use Rattle.std.proofs.Math.ListN.{get_or-eq_default}
use Rattle.logic.specs.Tests.{◌⇒◌}
use Rattle.logic.specs.Bounded.{all_below, all_cong, any_cong}
use Rattle.logic.specs.Lists.{each}
use Rattle.logic.specs.Sums.{only, count_below, sum_cong}
use Rattle.logic.specs.Sets.{has, nonempty, within, set_of}
use Rattle.logic.specs.SetLaws.{has_set_of, set_of_cong}
use Rattle.parts.specs.Numbers.{byte_at}
use Rattle.parts.specs.Filling.{Filled, filled_more}
use Rattle.labels.specs.Labels.{most_entries, most_literals}
use Rattle.description.specs.Literals.{Literal, pos, neg, literal, code, code_literal, entry_of}
use Rattle.description.specs.Descriptions.{Entry, top, name, both, every, at_least, Description, entry_of_fields}
use Rattle.description.specs.Acceptance.{Accepted, EntryOk}
use Rattle.tables.specs.Tables.{fields_at, describe}
use Rattle.tables.specs.Concepts.{concept_of, concept_at}
use Rattle.tables.specs.declared.Concept.{Concept}
use Rattle.tables.specs.declared.Concept.TheVariants.{Top, Name, Both, Every, AtLeast}
use Rattle.interpretation.specs.Meaning.{Interpretation, literal_in, meaning, truth, truth_eq, holds}
use Rattle.interpretation.specs.Reading.{follows, satisfies}
use Rattle.words.specs.Words.{all_of, all_set_of, and_all, and_set_of, within_set_of, full_set_of, some_set_of, not_set_of}

-- the set that a table of sets of elements has for entry f, and so which entries are true where
abbrev pub set_in : List ℕ → ℕ → ℕ
set_in t f = cond (ltb f most_entries) (get_or t f 0) 0

abbrev pub told : List ℕ → ℕ → ℕ → Bool
told t f y = has (set_in t f) y

-- the elements at which literal l is true, if x are those at which its entry is
unfoldable pub literal_of : ℕ → ℕ → ℕ → ℕ
literal_of d x l = cond (eqb (l % 2) 0) (bit_and (all_of d) x) (all_of d - bit_and (all_of d) x)

-- the same, with the table
abbrev pub literal_set : ℕ → List ℕ → ℕ → ℕ
literal_set d t l = literal_of d (set_in t (l / 2)) l

-- the elements that x reaches by the role r
abbrev pub reached : Interpretation → ℕ → ℕ → ℕ
reached I r x = set_of I.size (I.role r x)

-- the elements at which entry e is true, if it is that concept
unfoldable pub concept_set : Interpretation → List ℕ → ℕ → Concept → ℕ
concept_set I t e Top = all_of I.size
concept_set I t e Name = set_of I.size (I.name e)
concept_set I t e (Both a b) = bit_and (literal_set I.size t a) (literal_set I.size t b)
concept_set I t e (Every r l) = set_of I.size (λ x. within (reached I r.0 x) (literal_set I.size t l))
concept_set I t e (AtLeast m) = set_of I.size
    (λ x. leb m.bound (count_below I.size (has (bit_and (reached I m.role.0 x) (literal_set I.size t m.literal)))))

-- the first n sets of the table are those at which the entries are true, whatever the other parts of an accepted description are
abbrev pub TruthSets : List ℕ → Interpretation → ℕ → List ℕ → Type 0
TruthSets cs I n t = (rs qs : List ℕ) (p : Option (List ℕ)) → Accepted (describe rs cs qs p)
    → Filled most_entries (λ e. set_of I.size (truth (describe rs cs qs p) I e)) n t

-- ---- literals
literal_is : (d : ℕ) (t : List ℕ) (l : Literal) → literal_set d t (code l) ≡ set_of d (literal_in (told t) l)
unfolding literal_of
literal_is d t (pos e) = let p : 2 * e % 2 ≡ 0 = omega arith in let q : 2 * e / 2 ≡ e = omega arith in rw (p, q) (and_all d (set_in t e))
literal_is d t (neg e) = let p : (2 * e + 1) % 2 ≡ 1 = omega arith in let q : (2 * e + 1) / 2 ≡ e = omega arith in
    rw (p, q, and_all d (set_in t e)) (not_set_of d (has (set_in t e)))

-- ---- entries by kind
concept_is : (I : Interpretation) (t : List ℕ) (e : ℕ) (k : Entry)
    → concept_set I t e (concept_of k) ≡ set_of I.size (λ x. meaning I (told t) e x k)
unfolding concept_set concept_of meaning
concept_is I t e top = all_set_of I.size
concept_is I t e name = refl
concept_is I t e (both a b) = rw (literal_is I.size t a, literal_is I.size t b)
    (and_set_of I.size (literal_in (told t) a) (literal_in (told t) b))
concept_is I t e (every r l) = set_of_cong I.size _ _ (λ x _. ap (within (reached I r x)) (literal_is I.size t l)
    ∙ within_set_of I.size (I.role r x) (literal_in (told t) l))
concept_is I t e (at_least r l n) = set_of_cong I.size _ _ (λ x _. ap (leb n)
    (ap (λ m. count_below I.size (has (bit_and (reached I r x) m))) (literal_is I.size t l)
    ∙ ap (λ m. count_below I.size (has m)) (and_set_of I.size (I.role r x) (literal_in (told t) l))
    ∙ sum_cong I.size _ _ (λ y h. ap (λ b. only b 1) (has_set_of I.size (λ y. I.role r x y && literal_in (told t) l y) y h))))

-- what an entry means at x depends on earlier entries at the elements alone
literal_cong : (v w : ℕ → ℕ → Bool) (l : Literal) (y : ℕ) → v (entry_of l) y ≡ w (entry_of l) y → literal_in v l y ≡ literal_in w l y
literal_cong v w (pos e) y h = h
literal_cong v w (neg e) y h = ap not h

meaning_cong : (D : Description) (I : Interpretation) (v w : ℕ → ℕ → Bool) (e x : ℕ) (k : Entry) → EntryOk D e k → x < I.size
    → ((f : ℕ) → f < e → (y : ℕ) → y < I.size → v f y ≡ w f y) → meaning I v e x k ≡ meaning I w e x k
unfolding meaning
meaning_cong D I v w e x top ok hx h = refl
meaning_cong D I v w e x name ok hx h = refl
meaning_cong D I v w e x (both a b) ok hx h = ap₂ ◌&&◌ (literal_cong v w a x (h _ ok.0 x hx)) (literal_cong v w b x (h _ ok.1 x hx))
meaning_cong D I v w e x (every r l) ok hx h = all_cong I.size _ _ (λ y hy. ap (λ b. I.role r x y ⇒ b) (literal_cong v w l y (h _ ok.1 y hy)))
meaning_cong D I v w e x (at_least r l n) ok hx h =
    ap (leb n) (sum_cong I.size _ _ (λ y hy. ap (λ b. only (I.role r x y && b) 1) (literal_cong v w l y (h _ ok.0.1 y hy))))

-- a table of all entries has 0 past them
set_whole : (t : List ℕ) (f : ℕ) → length t ≡ most_entries → set_in t f ≡ get_or t f 0
set_whole t f e = elim (dec_lt f most_entries) [
  | yes h ↦ rw (lt-ltb f most_entries h) refl
  | no h ↦ rw (le-ltb f most_entries (omega arith)) (sym (get_or-eq_default t 0 (omega arith)))
]

-- where the table is right below n, the set of entry n is right
module _ (rs cs qs : List ℕ) (p : Option (List ℕ)) (t : List ℕ) (I : Interpretation) (n : ℕ) (A : Accepted (describe rs cs qs p))
    (F : Filled most_entries (λ e. set_of I.size (truth (describe rs cs qs p) I e)) n t) where
  told_true : (f : ℕ) → f < n → (y : ℕ) → y < I.size → told t f y ≡ truth (describe rs cs qs p) I f y
  told_true f h y hy = ap (λ m. has m y) (set_whole t f F.size ∙ F.at f h) ∙ has_set_of I.size (truth (describe rs cs qs p) I f) y hy

  entry_true : n < length cs / 6 → concept_set I t n (concept_at cs n) ≡ set_of I.size (truth (describe rs cs qs p) I n)
  entry_true h = concept_is I t n (entry_of_fields (fields_at cs n))
      ∙ set_of_cong I.size _ _ (λ x hx.
      meaning_cong (describe rs cs qs p) I (told t) (truth (describe rs cs qs p) I) n x _ (A.fields n h) hx told_true
      ∙ sym (truth_eq (describe rs cs qs p) A I n x _ h refl))

  -- a literal of the table is told right
  literal_true : (l : ℕ) → entry_of (literal l) < n → literal_set I.size t l ≡ set_of I.size (holds (describe rs cs qs p) I (literal l))
  literal_true l h = ap (literal_set I.size t) (sym (code_literal l)) ∙ literal_is I.size t (literal l)
      ∙ set_of_cong I.size _ _ (λ y hy. literal_cong (told t) (truth (describe rs cs qs p) I) (literal l) y (told_true _ h y hy))

-- ---- laws for the code
pub set_here : (t : List ℕ) (l : ℕ) → l < most_literals → get_or t (l / 2) 0 ≡ set_in t (l / 2)
set_here t l h = let z : l / 2 < most_entries = omega arith in rw (lt-ltb _ _ z) refl

pub set_past : (t : List ℕ) (l : ℕ) → most_literals ≤ l → 0 ≡ set_in t (l / 2)
set_past t l h = let z : most_entries ≤ l / 2 = omega arith in rw (le-ltb _ _ z) refl

module _ (d x l full : ℕ) (e : full ≡ all_of d) where
  pub literal_own : l % 2 ≡ 0 → bit_and full x ≡ literal_of d x l
  unfolding literal_of
  literal_own h = rw (eq-eqb _ _ h, e) refl

  pub literal_other : (l % 2 ≡ 0 → ⊥) → full - bit_and full x ≡ literal_of d x l
  unfolding literal_of
  literal_other h = rw (ne_eqb _ _ h, e) refl

pub concept_read : (cs : List ℕ) (I : Interpretation) (t : List ℕ) (e : ℕ) (k c : Concept) (v : ℕ) → c ≡ k → c ≡ concept_at cs e
    → v ≡ concept_set I t e k → v ≡ concept_set I t e (concept_at cs e)
concept_read cs I t e k c v p q r = r ∙ ap (concept_set I t e) (sym p ∙ q)

-- one entry more
pub truth_more : (cs : List ℕ) (I : Interpretation) (e : ℕ) (t : List ℕ) (v : ℕ) → e < most_entries → e < length cs / 6
    → v ≡ concept_set I t e (concept_at cs e) → TruthSets cs I e t → TruthSets cs I (e + 1) (set t e v)
truth_more cs I e t v h k q F rs qs p A = filled_more v h (q ∙ entry_true rs cs qs p t I e A (F rs qs p A) k) (F rs qs p A)

pub truth_done : (cs : List ℕ) (I : Interpretation) (e n : ℕ) (t : List ℕ) → e ≤ n → n ≤ e → TruthSets cs I e t → TruthSets cs I n t
truth_done cs I e n t h k F = let z : e ≡ n = omega arith in subst (λ m. TruthSets cs I m t) z F

-- the rules everywhere and the root somewhere
module _ (rs cs qs : List ℕ) (p : Option (List ℕ)) (t : List ℕ) (I : Interpretation) (A : Accepted (describe rs cs qs p)) (F : TruthSets cs I (length cs / 6) t) where
  pub follows_is : all_below (length qs - 1) (λ i. eqb (literal_set I.size t (byte_at qs (i + 1))) (all_of I.size))
      ≡ follows (describe rs cs qs p) I
  unfolding follows
  follows_is = all_cong (length qs - 1) _ _ (λ i h. ap (λ m. eqb m (all_of I.size))
      (literal_true rs cs qs p t I _ A (F rs qs p A) (byte_at qs (i + 1)) (A.rules_inside i h))
      ∙ full_set_of I.size (holds (describe rs cs qs p) I (literal (byte_at qs (i + 1)))))

  pub satisfies_is : nonempty (literal_set I.size t (byte_at qs 0)) ≡ satisfies (describe rs cs qs p) I ((describe rs cs qs p).root ∷ [])
  unfolding satisfies each
  satisfies_is = ap nonempty (literal_true rs cs qs p t I _ A (F rs qs p A) (byte_at qs 0) A.root_in)
      ∙ some_set_of I.size (holds (describe rs cs qs p) I (literal (byte_at qs 0)))
      ∙ any_cong I.size _ _ (λ x _. sym (and-true (holds (describe rs cs qs p) I (literal (byte_at qs 0)) x)))
