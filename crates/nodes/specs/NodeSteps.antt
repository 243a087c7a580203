-- Rules 11 and 12 of a graph's record as the code tests them, on literals by number.
use Prim.Native.Nat.{ℕ, zero, suc, ◌+◌, ◌-◌, ◌*◌, ◌/◌, ◌%◌, ◌≤◌, ◌<◌}
use Rattle.std.specs.Prelude.{◌≡◌, Bool, true, false, not, ◌&&◌, ◌||◌, List, length}
use Rattle.std.proofs.Math.Path.{refl, ap}
use Rattle.std.proofs.Common.{sym, ◌∙◌, ap₂, subst, inl, inr, arith, lt-ltb}
use Rattle.std.proofs.Math.Option.{Option}
use Rattle.std.proofs.Math.Decide.{dec_lt}
use Rattle.logic.specs.Tests.{So, ◌⇒◌, so_and, and_l, and_r, same_test, imp↔}
use Rattle.logic.specs.Bounded.{all_below, all_cong, all_intro, all_elim}
use Rattle.logic.specs.Sets.{has, narrow, within, with}
use Rattle.logic.specs.SetLaws.{narrow↔, within↔, with↔}
use Rattle.parts.specs.Numbers.{byte_at}
use Rattle.labels.specs.Labels.{most_entries, most_literals, label_with}
use Rattle.labels.specs.Words.{unopposed}
use Rattle.description.specs.Literals.{Literal, opposite, code, literal, entry_of, adding, literal_set, members, code_literal, literal_code, code_entry}
use Rattle.description.proofs.Literals.{within_set}
use Rattle.description.specs.Descriptions.{Entry, top, name, both, every, at_least, entry_of_fields, if_both, wanted}
use Rattle.tables.specs.Tables.{entry_count, fields_at, describe}
use Rattle.tables.specs.Concepts.{concept_of, concept_at}
use Rattle.tables.specs.declared.Concept.{Concept}
use Rattle.tables.specs.declared.Concept.TheVariants.{Top, Name, Both, Every, AtLeast}
use Rattle.graph.specs.GraphTests.{label_test, both_test}

-- the number of the opposite literal
abbrev pub opposed : ℕ → ℕ
opposed l = code (opposite (literal l))

-- ---- 11
-- the set M with the first i rules put in
unfoldable pub with_rules : List ℕ → ℕ → ℕ → ℕ
with_rules qs zero M = M
with_rules qs (suc i) M = label_with (with_rules qs i M) (byte_at qs (i + 1))

-- what a label is to have of which M is wanted: that, the rules and literal 0
abbrev pub required_set : List ℕ → ℕ → ℕ
required_set qs M = label_with (with_rules qs (length qs - 1) M) 0

-- the label N of a table of n entries has what it is to have, the set M
abbrev pub label_code : ℕ → ℕ → ℕ → Bool
label_code n N M = narrow N (2 * n) && (within M N && all_below n (unopposed N))

-- the root as a set: what a plain question wants
abbrev pub root_set : List ℕ → ℕ
root_set qs = label_with 0 (byte_at qs 0)

-- entries past the table have no literal in a label of the table
apart_in : (n N : ℕ) → n ≤ most_entries → So (narrow N (2 * n)) → all_below most_entries (unopposed N) ≡ all_below n (unopposed N)
apart_in n N few t = same_test _ _
    (λ u. all_intro n (unopposed N) (λ e l. all_elim most_entries (unopposed N) u e (omega arith)))
    (λ u. all_intro most_entries (unopposed N) (λ e l. elim (dec_lt e n) [
      | yes p ↦ all_elim n (unopposed N) u e p
      | no p ↦ (imp↔ (has N (2 * e)) _).1 (λ m. absurd (let z = (narrow↔ N (2 * n)).0 t (2 * e) m in omega arith))
    ]))

-- ---- what a label is to have
-- a label with a literal put in lies within another
within_put : (M N l : ℕ) → l < most_literals → within (label_with M l) N ≡ (has N l && within M N)
unfolding label_with
within_put M N l h = rw (lt-ltb l most_literals h) (same_test (within (with M l) N) (has N l && within M N)
    (λ u. so_and _ _ ((within↔ (with M l) N).0 u l ((with↔ M l l).1 (inr refl))) ((within↔ M N).1 (λ i v. (within↔ (with M l) N).0 u i ((with↔ M l i).1 (inl v)))))
    (λ u. (within↔ (with M l) N).1 (λ i v. elim ((with↔ M l i).0 v) [
      | inl w ↦ (within↔ M N).0 (and_r (has N l) _ u) i w
      | inr e ↦ subst (λ j. So (has N j)) (sym e) (and_l (has N l) _ u)
    ])))

-- a literal of a table that has room in a label, and such a literal put in
pub has_room_lem : (n l : ℕ) → n ≤ most_entries → entry_of (literal l) < n → l < most_literals
has_room_lem n l few h = let y : l < 2 * n = rw (code_literal l) at ((code_entry (literal l) n).1 h) in omega arith

pub put_is : (n N l : ℕ) → n ≤ most_entries → entry_of (literal l) < n → label_with N l ≡ adding N (literal l)
unfolding label_with adding
put_is n N l few h = rw (lt-ltb l most_literals (has_room_lem n l few h), code_literal l) refl

pub root_is : (rs cs qs : List ℕ) (p : Option (List ℕ)) → length cs / 6 ≤ most_entries → entry_of (literal (byte_at qs 0)) < length cs / 6
    → root_set qs ≡ literal_set (wanted (describe rs cs qs p))
unfolding literal_set
root_is rs cs qs p few h = put_is (length cs / 6) 0 (byte_at qs 0) few h

-- what is required of a label, one by one
module _ (qs : List ℕ) (N : ℕ) where
  rule_in : ℕ → Bool
  rule_in i = has N (byte_at qs (i + 1))

  turned : (a b c : Bool) → (a && (b && c)) ≡ ((b && a) && c)
  turned true true c = refl
  turned true false c = refl
  turned false true c = refl
  turned false false c = refl

  within_rules : (M i : ℕ) → ((j : ℕ) → j < i → byte_at qs (j + 1) < most_literals) → within (with_rules qs i M) N ≡ (all_below i rule_in && within M N)
  unfolding with_rules all_below rule_in
  within_rules M zero h = refl
  within_rules M (suc i) h = within_put (with_rules qs i M) N (byte_at qs (i + 1)) (h i (omega arith))
      ∙ ap (λ b. has N (byte_at qs (i + 1)) && b) (within_rules M i (λ j l. h j (omega arith)))
      ∙ turned (has N (byte_at qs (i + 1))) (all_below i rule_in) (within M N)

-- rule 11, for a table whose literals have room
pub label_is : (rs cs qs : List ℕ) (p : Option (List ℕ)) → length cs / 6 ≤ most_entries
    → ((i : ℕ) → i < length qs - 1 → entry_of (literal (byte_at qs (i + 1))) < length cs / 6)
    → (W : List Literal) (N : ℕ) → label_code (length cs / 6) N (required_set qs (literal_set W)) ≡ label_test (describe rs cs qs p) W N
unfolding label_test members rule_in
label_is rs cs qs p few rules W N = ap (λ b. narrow N (2 * n) && b) (
    ap (λ b. b && all_below n (unopposed N)) (within_put (with_rules qs (length qs - 1) (literal_set W)) N 0 (omega arith)
    ∙ ap (λ b. has N 0 && b) (within_rules qs N (literal_set W) (length qs - 1) (λ j h. has_room_lem n (byte_at qs (j + 1)) few (rules j h))))
    ∙ arranged (has N 0) (all_below (length qs - 1) (rule_in qs N)) (all_below n (unopposed N)) (within (literal_set W) N)
    ∙ ap₂ (λ b c. has N 0 && (b && (all_below n (unopposed N) && c)))
    (all_cong (length qs - 1) _ _ (λ i _. ap (has N) (sym (code_literal (byte_at qs (i + 1)))))) (within_set W N))
  where
    n : ℕ
    n = length cs / 6

    arranged : (h r u w : Bool) → ((h && (r && w)) && u) ≡ (h && (r && (u && w)))
    arranged false r u w = refl
    arranged true false u w = refl
    arranged true true true true = refl
    arranged true true true false = refl
    arranged true true false true = refl
    arranged true true false false = refl

-- ---- 12
-- of "both a b", entry e
abbrev pub parts_in : ℕ → ℕ → ℕ → ℕ → Bool
parts_in N e a b = (has N (2 * e) ⇒ (has N a && has N b)) && (has N (2 * e + 1) ⇒ (has N (opposed a) || has N (opposed b)))

abbrev pub both_at : List ℕ → ℕ → ℕ → Bool
both_at cs N e = if_both (λ a b. parts_in N e (code a) (code b)) (entry_of_fields (fields_at cs e))

pub both_is : (rs cs qs : List ℕ) (p : Option (List ℕ)) (N : ℕ) → all_below (length cs / 6) (both_at cs N) ≡ both_test (describe rs cs qs p) (members N)
unfolding both_test members if_both
both_is rs cs qs p N = all_cong (length cs / 6) _ _ (λ e _. kind e (entry_of_fields (fields_at cs e)))
  where
    kind : (e : ℕ) (x : Entry) → if_both (λ a b. parts_in N e (code a) (code b)) x
        ≡ if_both (λ a b. (has N (2 * e) ⇒ (has N (code a) && has N (code b))) && (has N (2 * e + 1) ⇒ (has N (code (opposite a)) || has N (code (opposite b))))) x
    kind e (both a b) = rw (literal_code a, literal_code b) refl
    kind e top = refl
    kind e name = refl
    kind e (every r l) = refl
    kind e (at_least r l n) = refl

-- ---- laws for the code
pub rules_none : (qs : List ℕ) (M : ℕ) → M ≡ with_rules qs 0 M
unfolding with_rules
rules_none qs M = refl

pub rules_more : (qs : List ℕ) (i M : ℕ) → label_with (with_rules qs i M) (byte_at qs (i + 1)) ≡ with_rules qs (i + 1) M
unfolding with_rules
rules_more qs i M = let e : suc i ≡ i + 1 = omega arith in ap (λ k. with_rules qs k M) e

pub rules_all : (qs : List ℕ) (M n i : ℕ) → i ≡ n → with_rules qs i M ≡ with_rules qs n M
rules_all qs M n i e = ap (λ k. with_rules qs k M) e

pub opposed_even : (l : ℕ) → l % 2 ≡ 0 → l + 1 ≡ opposed l
unfolding literal
opposed_even l h = rw h (omega arith)

pub opposed_odd : (l : ℕ) → (l % 2 ≡ 0 → ⊥) → l - 1 ≡ opposed l
unfolding literal
opposed_odd l h = let z : l % 2 ≡ 1 = omega arith in rw z (omega arith)

-- "if a then b" as the code tests it
pub if_then : (a b : Bool) → (not a || b) ≡ (a ⇒ b)
if_then true b = refl
if_then false b = refl

pub parts_read : (N e a b : ℕ) (p q r s t u : Bool) → p ≡ has N (2 * e) → q ≡ has N a → r ≡ has N b → s ≡ has N (2 * e + 1) → t ≡ has N (opposed a) → u ≡ has N (opposed b)
    → ((not p || (q && r)) && (not s || (t || u))) ≡ parts_in N e a b
parts_read N e a b p q r s t u hp hq hr hs ht hu = ap (λ z. z && (not s || (t || u))) (if_then p (q && r)) ∙ ap (λ z. (p ⇒ (q && r)) && z) (if_then s (t || u)) ∙ rw (hp, hq, hr, hs, ht, hu) refl

pub label_read : (cs : List ℕ) (N n M : ℕ) (p q r : Bool) → (n ≡ entry_count cs) × (n ≤ most_entries) → p ≡ narrow N (2 * n) → q ≡ within M N
    → r ≡ all_below most_entries (unopposed N) → (p && (q && r)) ≡ label_code (entry_count cs) N M
label_read cs N n M p q r hn hp hq hr = rw (hp, hq, hr, ← hn.0) (go (narrow N (2 * n)) refl)
  where
    go : (b : Bool) → narrow N (2 * n) ≡ b → (b && (within M N && all_below most_entries (unopposed N))) ≡ (b && (within M N && all_below n (unopposed N)))
    go true e = ap (λ c. within M N && c) (apart_in n N hn.1 e)
    go false e = refl

-- a test of "both", on the concept that the code has read
abbrev pub of_both : (ℕ → ℕ → Bool) → Concept → Bool
of_both p Top = true
of_both p Name = true
of_both p (Both a b) = p a b
of_both p (Every r l) = true
of_both p (AtLeast m) = true

of_both_lem : (p : ℕ → ℕ → Bool) (x : Entry) → of_both p (concept_of x) ≡ if_both (λ a b. p (code a) (code b)) x
unfolding concept_of if_both
of_both_lem p top = refl
of_both_lem p name = refl
of_both_lem p (both a b) = refl
of_both_lem p (every r l) = refl
of_both_lem p (at_least r l n) = refl

pub both_read : (cs : List ℕ) (p : ℕ → ℕ → Bool) (e : ℕ) (c : Concept) → c ≡ concept_at cs e → of_both p c ≡ if_both (λ a b. p (code a) (code b)) (entry_of_fields (fields_at cs e))
both_read cs p e c q = ap (of_both p) q ∙ of_both_lem p (entry_of_fields (fields_at cs e))

no_both : (p : ℕ → ℕ → Bool) (c : Concept) → ((a b : ℕ) → c ≡ Both a b → ⊥) → true ≡ of_both p c
no_both p Top h = refl
no_both p Name h = refl
no_both p (Both a b) h = absurd (h a b refl)
no_both p (Every r l) h = refl
no_both p (AtLeast m) h = refl

-- and on one that is no "both"
pub other_read : (cs : List ℕ) (p : ℕ → ℕ → Bool) (e : ℕ) (c : Concept) → c ≡ concept_at cs e → ((a b : ℕ) → c ≡ Both a b → ⊥)
    → true ≡ if_both (λ a b. p (code a) (code b)) (entry_of_fields (fields_at cs e))
other_read cs p e c q h = no_both p c h ∙ both_read cs p e c q
