-- Test 7 as the code makes it: for each literal the roles that there is an "every" of, and for each "every R l" the transitive roles
-- that are included in R.
use Prim.Native.Nat.{ℕ, zero, suc, ◌+◌, ◌/◌, ◌%◌, ◌≤◌, ◌<◌}
use Rattle.std.proofs.Math.Path.{◌≡◌, refl, sym, ap}
use Rattle.std.proofs.Common.{◌∙◌, ap₂, inl, inr, arith, mod-eq_of_lt, add-one, ne_eqb, length-set, get_or-set_same, get_or-set_other}
use Rattle.std.specs.Prelude.{Bool, true, false, ◌&&◌, ◌||◌, List, ◌⊎◌, ltb, length, get_or, set}
use Rattle.std.proofs.lemmas.Bool.{false≢true}
use Rattle.std.proofs.Math.Option.{Option}
use Rattle.std.proofs.Math.Dec.{eqb}
use Rattle.logic.specs.Tests.{So, ◌⇒◌, so_and, and_l, and_r, or_l, or_r, or_cases, so_ltb, ltb_so, imp_in, imp_out}
use Rattle.logic.specs.Tests.{same_test, decide, so_eqb, eqb↔, reading}
use Rattle.logic.specs.Bounded.{all_below, any_below, all_intro, all_elim, all_cong, any_intro}
use Rattle.logic.specs.Sets.{has, within, set_of}
use Rattle.logic.specs.SetLaws.{has_set_of, set_of↔, set_ext, within↔, with↔, no_member}
use Rattle.words.specs.Words.{put_in}
use Rattle.parts.specs.Numbers.{up_to, up_to_all}
use Rattle.description.specs.Literals.{Literal, literal, code, literal_code, code_literal}
use Rattle.description.specs.Descriptions.{Entry, top, name, both, every, at_least, Description, Fields, fields_of, entry_from}
use Rattle.description.specs.Descriptions.{entry_of_fields, same_entry, same_entry↔, if_every}
use Rattle.description.specs.Roles.{ancestor}
use Rattle.labels.specs.Labels.{most_entries}
use Rattle.tables.specs.Concepts.{fields_struct}
use Rattle.tables.specs.Tables.{entry_count, fields_at, describe}
use Rattle.tables.specs.declared.Fields as Code
use Rattle.roles.specs.Ancestors.{role_count}
use Rattle.roles.specs.Records.{role_at, role_table, table_bytes, table_masks}
use Rattle.roles.specs.declared.Role.{Role}

-- the role of this record is transitive and included in role r; the roles of which this is so, of the first n records
abbrev pub below_is : Role → ℕ → Bool
below_is x r = eqb x.transitive 1 && has x.ancestors r

abbrev pub below_in : List Role → ℕ → ℕ → ℕ
below_in t n r = set_of n (λ i. below_is (role_at t i) r)

-- of the first m entries one is "every i l"; the roles i of which this is so, and of all entries
abbrev some_every : List ℕ → ℕ → ℕ → ℕ → Bool
some_every cs m l i = any_below m (λ f. same_entry (every i (literal l)) (entry_of_fields (fields_at cs f)))

abbrev pub everys_to : List ℕ → ℕ → ℕ → ℕ
everys_to cs m l = set_of 16 (some_every cs m l)

abbrev pub everys_in : List ℕ → ℕ → ℕ
everys_in cs l = everys_to cs (entry_count cs) l

-- the roles of m have their "every l"
abbrev pub all_there : List ℕ → ℕ → ℕ → Bool
all_there cs m l = within m (everys_in cs (l % 128))

-- 7, of one entry, with the first n records
abbrev pub every_at : List ℕ → List Role → ℕ → ℕ → Bool
every_at cs t n e = if_every (λ r l. all_there cs (below_in t n (r % 16)) (code l)) (entry_of_fields (fields_at cs e))

-- with the table of what is below each role, and that of what `everysIn` gives for each literal
abbrev pub LowerOf : List Role → ℕ → List ℕ → Type 0
LowerOf t n lower = (r : ℕ) → r < 16 → get_or lower r 0 ≡ below_in t n r

abbrev pub every_by : Code.Fields → List ℕ → List ℕ → Bool
every_by g lower held = eqb g.kind 3 ⇒ within (get_or lower (g.role % 16) 0) (get_or held (g.first % 128) 0)

-- ---- it is the theory's test
within_below : (n : ℕ) (p q : ℕ → Bool) → n ≤ 16 → within (set_of n p) (set_of 16 q) ≡ all_below n (λ i. p i ⇒ q i)
within_below n p q few = same_test _ _
    (λ h. all_intro n (λ i. p i ⇒ q i) (λ i l. imp_in (p i) (q i) (λ u.
    ((set_of↔ 16 q i).0 ((within↔ (set_of n p) (set_of 16 q)).0 h i ((set_of↔ n p i).1 (l, u)))).1)))
    (λ h. (within↔ (set_of n p) (set_of 16 q)).1 (λ i u. let w = (set_of↔ n p i).0 u in
    (set_of↔ 16 q i).1 (omega (arith, w.0), imp_out (p i) (q i) (all_elim n (λ i. p i ⇒ q i) h i w.0) w.1)))

two_tests : (a b c : Bool) → ((a && b) ⇒ c) ≡ (a ⇒ (b ⇒ c))
two_tests true b c = refl
two_tests false b c = refl

pub every_there_is : (rs cs qs : List ℕ) (p : Option (List ℕ)) (t : List Role) → t ≡ role_table rs → length rs / 3 ≤ 16 → length cs / 6 ≤ most_entries
    → (r : ℕ) (l : Literal) → r < 16 → code l < 128
    → all_there cs (below_in t (up_to 16 (role_count rs)) r) (code l)
    ≡ all_below (length rs / 3) (λ i. (describe rs cs qs p).transitive i ⇒ (ancestor (describe rs cs qs p) i r
    ⇒ any_below (length cs / 6) (λ f. same_entry (every i l) ((describe rs cs qs p).entry f))))
every_there_is rs cs qs p t tab few small r l hr hl =
    rw (mod-eq_of_lt hl, up_to_all 16 n few, up_to_all 16 n few, up_to_all most_entries m small)
    (within_below n _ _ few ∙ all_cong n _ _ (λ i h. let k : i < 16 = omega arith in
    two_tests (eqb (role_at t i).transitive 1) (has (role_at t i).ancestors r) (some_every cs m (code l) i)
    ∙ ap (λ b. eqb b 1 ⇒ (has (role_at t i).ancestors r ⇒ some_every cs m (code l) i)) (table_bytes rs t tab i k)
    ∙ ap (λ b. D.transitive i ⇒ (b ⇒ some_every cs m (code l) i))
    (ap (λ x. has x r) (table_masks rs t tab cs qs p few i k) ∙ has_set_of 16 (ancestor D i) r hr)
    ∙ ap (λ q. D.transitive i ⇒ (ancestor D i r ⇒ any_below m (λ f. same_entry (every i q) (D.entry f)))) (literal_code l)))
  where
    D : Description
    D = describe rs cs qs p

    n : ℕ
    n = length rs / 3

    m : ℕ
    m = length cs / 6

-- ---- laws for the code
-- "every T l", by kind, role and first literal
pub is_every_lem : (F : Fields) (t l : ℕ)
    → (eqb F.kind 3 && (eqb F.role t && eqb F.first l)) ≡ same_entry (every t (literal l)) (entry_of_fields F)
unfolding entry_from
is_every_lem F t l = same_test _ _
    (λ h. let q = simp reading at h in (same_entry↔ (every t (literal l)) (entry_of_fields F)).1 (rw (q.0, q.1.0, q.1.1) refl))
    (λ h. go F.kind F.role F.first F.second F.number ((same_entry↔ (every t (literal l)) (entry_of_fields F)).0 h))
  where
    kind : Entry → ℕ
    kind x = (fields_of x).kind

    go : (k r a b n : ℕ) → every t (literal l) ≡ entry_from k r a b n → So (eqb k 3 && (eqb r t && eqb a l))
    go zero r a b n e = absurd (let z = ap kind e in omega arith)
    go (suc zero) r a b n e = absurd (let z = ap kind e in omega arith)
    go (suc (suc zero)) r a b n e = absurd (let z = ap kind e in omega arith)
    go (suc (suc (suc zero))) r a b n e =
        simp reading (
          refl,
          (
            sym (ap (λ x. (fields_of x).role) e),
            sym (sym (code_literal l) ∙ ap (λ x. (fields_of x).first) e ∙ code_literal a),
          ),
        )
    go (suc (suc (suc (suc k)))) r a b n e = absurd (let z = ap kind e in omega arith)

-- the mask of literal l with the role of an entry with these fields, if it is an "every" of the literal
abbrev pub every_put : ℕ → Code.Fields → ℕ → ℕ
every_put m g l = put_in m g.role (ltb g.role 16 && (eqb g.kind 3 && eqb g.first l))

module _ (cs : List ℕ) where
  -- one entry more
  put_is : (e l : ℕ) (g : Code.Fields) → g ≡ fields_struct cs e → every_put (everys_to cs e l) g l ≡ everys_to cs (suc e) l
  unfolding any_below
  put_is e l g q = rw q (set_ext _ _
      (λ i u. (set_of↔ 16 (some_every cs (suc e) l) i).1 (out i b refl u))
      (λ i u. let w = (set_of↔ 16 (some_every cs (suc e) l) i).0 u in back i b refl w.0 (or_cases (some_every cs e l i) _ w.1)))
    where
      F : Fields
      F = fields_at cs e

      b : Bool
      b = ltb F.role 16 && (eqb F.kind 3 && eqb F.first l)

      X : ℕ
      X = everys_to cs e l

      new : (i : ℕ) → Bool
      new i = same_entry (every i (literal l)) (entry_of_fields F)

      out : (i : ℕ) (c : Bool) → b ≡ c → So (has (put_in X F.role c) i) → (i < 16) × So (some_every cs e l i || new i)
      out i false z u = let w = (set_of↔ 16 (some_every cs e l) i).0 u in (w.0, or_l _ _ w.1)
      out i true z u = elim ((with↔ X F.role i).0 u) [
        | inl v ↦ (let w = (set_of↔ 16 (some_every cs e l) i).0 v in (w.0, or_l _ _ w.1))
        | inr v ↦ (let k = and_r (ltb F.role 16) _ z in (
          omega (arith, so_ltb F.role 16 (and_l (ltb F.role 16) _ z), v),
          or_r (some_every cs e l i) _ (sym (is_every_lem F i l)
              ∙ so_and _ _ (and_l (eqb F.kind 3) _ k) (so_and _ _ ((eqb↔ F.role i).1 (sym v)) (and_r (eqb F.kind 3) _ k))),
        ))
      ]

      role_of_lem : (i : ℕ) → So (new i) → F.role ≡ i
      role_of_lem i v = so_eqb F.role i (and_l (eqb F.role i) _ (and_r (eqb F.kind 3) _ (is_every_lem F i l ∙ v)))

      back : (i : ℕ) (c : Bool) → b ≡ c → i < 16 → So (some_every cs e l i) ⊎ So (new i) → So (has (put_in X F.role c) i)
      back i true z h (inl v) = (with↔ X F.role i).1 (inl ((set_of↔ 16 (some_every cs e l) i).1 (h, v)))
      back i true z h (inr v) = (with↔ X F.role i).1 (inr (sym (role_of_lem i v)))
      back i false z h (inl v) = (set_of↔ 16 (some_every cs e l) i).1 (h, v)
      back i false z h (inr v) = let k = is_every_lem F i l ∙ v in
          absurd (false≢true (sym z ∙ so_and _ _ (ltb_so F.role 16 (omega (arith, role_of_lem i v)))
          (so_and _ _ (and_l (eqb F.kind 3) _ k) (and_r (eqb F.role i) _ (and_r (eqb F.kind 3) _ k)))))

  -- the table with the first e entries
  pub record EverysTo (e : ℕ) (out : List ℕ) : Type 0 where
    pub size : length out ≡ 128
    pub at : (l : ℕ) → l < 128 → get_or out l 0 ≡ everys_to cs e l

  pub everys_none : (out : List ℕ) → length out ≡ 128 → ((l : ℕ) → l < 128 → get_or out l 0 ≡ 0) → EverysTo 0 out
  unfolding any_below
  everys_none out e z = record {
    size = e;
    at = λ l h. z l h ∙ sym (set_ext _ 0
        (λ i u. absurd (let w = ((set_of↔ 16 (some_every cs 0 l) i).0 u).1 in let x : ◌≡◌ {A = ℕ} 0 1 = cc in omega arith))
        (λ i u. absurd (no_member i u)));
  }

  pub everys_more : (e l v : ℕ) (g : Code.Fields) (out : List ℕ) → g ≡ fields_struct cs e → l ≡ g.first % 128
      → v ≡ every_put (get_or out l 0) g l → EverysTo e out → EverysTo (e + 1) (set out l v)
  everys_more e l v g out q p w r = rw (add-one e) (record { size = length-set out l v ∙ r.size; at = λ m h. go m h (decide (eqb m l)) })
    where
      inside : l < 128
      inside = omega (arith, p)

      go : (m : ℕ) → m < 128 → So (eqb m l) ⊎ (So (eqb m l) → ⊥) → get_or (set out l v) m 0 ≡ everys_to cs (suc e) m
      go m h (inl z) = rw (so_eqb m l z) (get_or-set_same out l v 0 (omega (arith, r.size, inside)) ∙ w
          ∙ ap (λ x. every_put x g l) (r.at l inside) ∙ put_is e l g q)
      go m h (inr z) = get_or-set_other out l m v 0 (λ y. z ((eqb↔ m l).1 y)) ∙ r.at m h ∙ same ∙ put_is e m g q
        where
          other : eqb g.first m ≡ false
          other = ne_eqb g.first m (λ y. z ((eqb↔ m l).1 (sym (mod-eq_of_lt h) ∙ ap (λ x. x % 128) (sym y) ∙ sym p)))

          off : (a b : Bool) → (a && (b && false)) ≡ false
          off true true = refl
          off true false = refl
          off false b = refl

          same : everys_to cs e m ≡ every_put (everys_to cs e m) g m
          same = rw (other, off (ltb g.role 16) (eqb g.kind 3)) refl

  every_by_kind : (p : ℕ → ℕ → Bool) (k r a b n : ℕ) → (eqb k 3 ⇒ p r a) ≡ if_every (λ r l. p r (code l)) (entry_from k r a b n)
  unfolding entry_from if_every
  every_by_kind p zero r a b n = refl
  every_by_kind p (suc zero) r a b n = refl
  every_by_kind p (suc (suc zero)) r a b n = refl
  every_by_kind p (suc (suc (suc zero))) r a b n = ap (p r) (sym (code_literal a))
  every_by_kind p (suc (suc (suc (suc k)))) r a b n = rw (ne_eqb (suc (suc (suc (suc k)))) 3 (λ e. omega arith)) refl

  pub every_by_is : (t : List Role) (n : ℕ) (lower held : List ℕ) (e : ℕ) (g : Code.Fields) → g ≡ fields_struct cs e → LowerOf t n lower
      → ((l : ℕ) → l < 128 → get_or held l 0 ≡ everys_in cs l) → every_by g lower held ≡ every_at cs t n e
  every_by_is t n lower held e g q low f =
      ap₂ (λ x y. eqb g.kind 3 ⇒ within x y) (low (g.role % 16) (omega arith)) (f (g.first % 128) (omega arith))
      ∙ rw q (let F = fields_at cs e in
      every_by_kind (λ r l. all_there cs (below_in t n (r % 16)) l) F.kind F.role F.first F.second F.number)

  pub everys_by : (t : List Role) (n : ℕ) (lower held : List ℕ) → LowerOf t n lower → ((l : ℕ) → l < 128 → get_or held l 0 ≡ everys_in cs l)
      → all_below (entry_count cs) (λ e. every_by (fields_struct cs e) lower held) ≡ all_below (entry_count cs) (every_at cs t n)
  everys_by t n lower held low f = all_cong (entry_count cs) _ _ (λ e _. every_by_is t n lower held e (fields_struct cs e) refl low f)

  -- where no role is transitive, nothing is asked for
  pub none_asked : (t : List Role) (n : ℕ) → any_below n (λ i. eqb (role_at t i).transitive 1) ≡ false
      → all_below (entry_count cs) (every_at cs t n) ≡ true
  unfolding if_every
  none_asked t n e = all_intro (entry_count cs) (every_at cs t n) (λ f _. go (entry_of_fields (fields_at cs f)))
    where
      nothing : (r l : ℕ) → So (all_there cs (below_in t n r) l)
      nothing r l = (within↔ (below_in t n r) (everys_in cs (l % 128))).1 (λ i u. absurd (false≢true (sym e
          ∙ let w = (set_of↔ n (λ i. below_is (role_at t i) r) i).0 u in
          any_intro n (λ i. eqb (role_at t i).transitive 1) i w.0 (and_l (eqb (role_at t i).transitive 1) _ w.1))))

      go : (x : Entry) → So (if_every (λ r l. all_there cs (below_in t n (r % 16)) (code l)) x)
      go (every r l) = nothing (r % 16) (code l)
      go top = refl
      go name = refl
      go (both a b) = refl
      go (at_least r l k) = refl
