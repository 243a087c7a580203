-- Descriptions as data (01, "The description"; 02, job 5; FORMAT 2): roles, concept entries, the query, and roles that never share a filler.
use Rattle.std.specs.Prelude.{ℕ, zero, suc, ◌<◌, ◌≡◌, refl, ◌↔◌, Bool, true, false, not, ◌&&◌, List, [], ◌∷◌, eqb}
use Rattle.std.proofs.Common.{sym, ◌∙◌, ap, subst}
use Rattle.std.proofs.Math.Logic.Iff
use Rattle.std.proofs.lemmas.Bool.{false≢true}
use Rattle.std.proofs.Math.Option.{Option, none, some, some-injective}
use Rattle.logic.specs.Tests.{So, ◌⇒◌, so_and, eqb_so, reading}
use Rattle.logic.specs.Bounded.{all_below, below}
use Rattle.logic.specs.Sets.{has}
use Rattle.description.specs.Literals.{Literal, code, literal, literal_code}

-- kinds 0 to 4: ⊤, a concept name, a ⊓ b, ∀R.l, ≥n R.l; ∃R.l and ≤m R.l are complements of entries
pub data Entry : Type 0 where
  top name : Entry
  both : (first second : Literal) → Entry
  every : (role : ℕ) (qualifier : Literal) → Entry
  at_least : (role : ℕ) (qualifier : Literal) (number : ℕ) → Entry

-- two roles that have no pair of elements in common
pub record Disjoint : Type 0 where
  pub one : ℕ
  pub other : ℕ

-- only what is numbered below roles, entries, rules and disjoints is part of a description
pub record Description : Type 0 where
  pub roles : ℕ
  pub transitive : ℕ → Bool
  -- bit s: included in role s
  pub parents : ℕ → ℕ
  pub entries : ℕ
  pub entry : ℕ → Entry
  pub root : Literal
  pub rules : ℕ
  pub rule : ℕ → Literal
  pub disjoints : ℕ
  pub disjoint : ℕ → Disjoint
  -- whether it has a part for these records, be it empty: evidence is then stored with a mark for cells that their roles bar
  pub fourth : Bool

-- a set of roles that one pair of elements may have: it does not hold both roles of a record
abbrev pub Compatible : Description → (ℕ → Bool) → Type 0
Compatible D m = (i : ℕ) → i < D.disjoints → So (m (D.disjoint i).one) → So (m (D.disjoint i).other) → ⊥

-- the same as a test
unfoldable pub compatible : Description → (ℕ → Bool) → Bool
compatible D m = all_below D.disjoints (λ i. m (D.disjoint i).one ⇒ not (m (D.disjoint i).other))

pub compatible↔ : (D : Description) (m : ℕ → Bool) → So (compatible D m) ↔ Compatible D m
unfolding compatible
compatible↔ D m = simp below Iff.rfl

abbrev pub included : Description → ℕ → ℕ → Bool
included D r s = has (D.parents r) s

abbrev pub is_name : Entry → Bool
is_name top = false
is_name name = true
is_name (both a b) = false
is_name (every r l) = false
is_name (at_least r l n) = false

-- ---- an entry by its five fields
pub record Fields : Type 0 where
  pub kind : ℕ
  pub role : ℕ
  pub first : ℕ
  pub second : ℕ
  pub number : ℕ

abbrev pub fields_of : Entry → Fields
fields_of top = record { kind = 0; role = 0; first = 0; second = 0; number = 0 }
fields_of name = record { kind = 1; role = 0; first = 0; second = 0; number = 0 }
fields_of (both a b) = record { kind = 2; role = 0; first = code a; second = code b; number = 0 }
fields_of (every r l) = record { kind = 3; role = r; first = code l; second = 0; number = 0 }
fields_of (at_least r l n) = record { kind = 4; role = r; first = code l; second = 0; number = n }

-- the entry that five fields give; a kind above 4 is read as 4
unfoldable pub entry_from : ℕ → ℕ → ℕ → ℕ → ℕ → Entry
entry_from zero r a b n = top
entry_from (suc zero) r a b n = name
entry_from (suc (suc zero)) r a b n = both (literal a) (literal b)
entry_from (suc (suc (suc zero))) r a b n = every r (literal a)
entry_from (suc (suc (suc (suc k)))) r a b n = at_least r (literal a) n

abbrev pub entry_of_fields : Fields → Entry
entry_of_fields F = entry_from F.kind F.role F.first F.second F.number

pub entry_back : (x : Entry) → entry_of_fields (fields_of x) ≡ x
unfolding entry_from
entry_back top = refl
entry_back name = refl
entry_back (both a b) = rw (literal_code a, literal_code b)
entry_back (every r l) = rw (literal_code l)
entry_back (at_least r l n) = rw (literal_code l)

-- all fields are the same
abbrev pub same_fields : Fields → Fields → Bool
same_fields F G = eqb F.kind G.kind && (eqb F.role G.role
    && (eqb F.first G.first && (eqb F.second G.second && eqb F.number G.number)))

unfoldable pub same_entry : Entry → Entry → Bool
same_entry x y = same_fields (fields_of x) (fields_of y)

pub same_fields↔ : (F G : Fields) → So (same_fields F G) ↔ (F ≡ G)
same_fields↔ F G = (
  λ h. let t = simp reading at h in same t.0 t.1.0 t.1.1.0 t.1.1.1.0 t.1.1.1.1,
  λ e. subst (λ H. So (same_fields F H)) e (search (so_and, eqb_so)),
)
  where
    made : ℕ → ℕ → ℕ → ℕ → ℕ → Fields
    made k r a b n = record { kind = k; role = r; first = a; second = b; number = n }

    same : F.kind ≡ G.kind → F.role ≡ G.role → F.first ≡ G.first → F.second ≡ G.second → F.number ≡ G.number
        → made F.kind F.role F.first F.second F.number ≡ made G.kind G.role G.first G.second G.number
    same k r a b n = rw (k, r, a, b, n)

pub same_entry↔ : (x y : Entry) → So (same_entry x y) ↔ (x ≡ y)
unfolding same_entry
same_entry↔ x y = (
  λ h. sym (entry_back x) ∙ ap entry_of_fields ((same_fields↔ (fields_of x) (fields_of y)).0 h) ∙ entry_back y,
  λ e. (same_fields↔ (fields_of x) (fields_of y)).1 (ap fields_of e),
)

-- what is wanted of a plain question: the root
abbrev pub wanted : Description → List Literal
wanted D = D.root ∷ []

-- ---- what an entry gives by its kind: in turn for kinds 0 and 1, for "both", for "every", for "at least"
abbrev pub by_kind : {A : Type 0} → A → (Literal → Literal → A) → (ℕ → Literal → A) → (ℕ → Literal → ℕ → A) → Entry → A
by_kind o f g h top = o
by_kind o f g h name = o
by_kind o f g h (both a b) = f a b
by_kind o f g h (every r l) = g r l
by_kind o f g h (at_least r l n) = h r l n

-- kinds 2 to 4
abbrev pub compound : Entry → Bool
compound = by_kind false (λ a b. true) (λ r l. true) (λ r l n. true)

-- a test of the entries of one kind, which any other entry passes
unfoldable pub if_both : (Literal → Literal → Bool) → Entry → Bool
if_both f = by_kind true f (λ _ _. true) (λ _ _ _. true)

unfoldable pub if_every : (ℕ → Literal → Bool) → Entry → Bool
if_every f = by_kind true (λ _ _. true) f (λ _ _ _. true)

unfoldable pub if_least : (ℕ → Literal → ℕ → Bool) → Entry → Bool
if_least f = by_kind true (λ _ _. true) (λ _ _. true) f

-- a test that only a "both" can pass
unfoldable pub is_both : (Literal → Literal → Bool) → Entry → Bool
is_both f = by_kind false f (λ _ _. false) (λ _ _ _. false)

pub if_both↔ : (f : Literal → Literal → Bool) (x : Entry) → So (if_both f x) ↔ ((a b : Literal) → x ≡ both a b → So (f a b))
unfolding if_both
if_both↔ f x = (
  λ h a b e. subst (λ y. So (if_both f y)) e h,
  elim x as (λ x. ((a b : Literal) → x ≡ both a b → So (f a b)) → So (if_both f x)) [ top ↦ λ h. refl | name ↦ λ h. refl | both a b ↦ λ h. h a b refl | every r l ↦ λ h. refl | at_least r l n ↦ λ h. refl ],
)

pub if_every↔ : (f : ℕ → Literal → Bool) (x : Entry) → So (if_every f x) ↔ ((r : ℕ) (l : Literal) → x ≡ every r l → So (f r l))
unfolding if_every
if_every↔ f x = (
  λ h r l e. subst (λ y. So (if_every f y)) e h,
  elim x as (λ x. ((r : ℕ) (l : Literal) → x ≡ every r l → So (f r l)) → So (if_every f x)) [ top ↦ λ h. refl | name ↦ λ h. refl | both a b ↦ λ h. refl | every r l ↦ λ h. h r l refl | at_least r l n ↦ λ h. refl ],
)

pub if_least↔ : (f : ℕ → Literal → ℕ → Bool) (x : Entry) → So (if_least f x) ↔ ((r : ℕ) (l : Literal) (n : ℕ) → x ≡ at_least r l n → So (f r l n))
unfolding if_least
if_least↔ f x = (
  λ h r l n e. subst (λ y. So (if_least f y)) e h,
  elim x as (λ x. ((r : ℕ) (l : Literal) (n : ℕ) → x ≡ at_least r l n → So (f r l n)) → So (if_least f x)) [ top ↦ λ h. refl | name ↦ λ h. refl | both a b ↦ λ h. refl | every r l ↦ λ h. refl | at_least r l n ↦ λ h. h r l n refl ],
)

pub is_both↔ : (f : Literal → Literal → Bool) (x : Entry) → So (is_both f x) ↔ ((a : Literal) × (b : Literal) × (x ≡ both a b) × So (f a b))
unfolding is_both
is_both↔ f x = (
  elim x as (λ x. So (is_both f x) → (a : Literal) × (b : Literal) × (x ≡ both a b) × So (f a b)) [
    | top ↦ λ h. absurd (false≢true h)
    | name ↦ λ h. absurd (false≢true h)
    | both a b ↦ λ h. (a, b, refl, h)
    | every r l ↦ λ h. absurd (false≢true h)
    | at_least r l n ↦ λ h. absurd (false≢true h)
  ],
  λ w. subst (λ y. So (is_both f y)) (sym w.2) w.3,
)

pub ruleset kinds = (if_both↔, if_every↔, if_least↔, is_both↔, same_entry↔)
