-- Fields and concepts as the code holds them.
use Prim.Native.Nat.{ℕ, suc, ◌-◌, ◌/◌, ◌%◌, ◌<◌}
use Rattle.std.specs.Prelude.{◌≡◌, List}
use Rattle.std.proofs.Math.Path.{refl}
use native.Mathlib.Omega.{arith}
use Rattle.description.specs.Literals.{Literal, pos, neg, literal, code, code_literal}
use Rattle.description.specs.Descriptions.{Entry, top, name, both, every, at_least, entry_from, entry_of_fields}
use Rattle.description.specs.Descriptions as Theory
use Rattle.tables.specs.Tables.{fields_at}
use Rattle.tables.specs.declared.Fields.{Fields}
use Rattle.tables.specs.declared.Concept.{Concept}
use Rattle.tables.specs.declared.Concept.TheVariants.{Top, Name, Both, Every, AtLeast}
use Rattle.tables.specs.declared.Count.{Count}
use Rattle.tables.specs.declared.LiteralConcept.{LiteralConcept}
use Rattle.tables.specs.declared.LiteralConcept.TheVariants.{Is, Not}
use Rattle.tables.specs.declared.Side.TheVariants.{Lower, Upper}

-- the theory's fields as the code's, and back
abbrev pub fields_out : Theory.Fields → Fields
fields_out F = record { kind = F.kind; role = F.role; first = F.first; second = F.second; number = F.number }

abbrev pub fields_in : Fields → Theory.Fields
fields_in F = record { kind = F.kind; role = F.role; first = F.first; second = F.second; number = F.number }

-- the code's fields of entry e
abbrev pub fields_struct : List ℕ → ℕ → Fields
fields_struct cs e = fields_out (fields_at cs e)

-- an entry as a concept: literals by their numbers; the side of an "at least" is the lower
unfoldable pub concept_of : Entry → Concept
concept_of top = Top
concept_of name = Name
concept_of (both a b) = Both (code a) (code b)
concept_of (every r l) = Every (record { 0 = r }) (code l)
concept_of (at_least r l n) = AtLeast (record { role = record { 0 = r }; literal = code l; bound = n; side = Lower })

-- the concept of the code's fields, and at entry e
abbrev pub concept_from : Fields → Concept
concept_from F = concept_of (entry_of_fields (fields_in F))

abbrev pub concept_at : List ℕ → ℕ → Concept
concept_at cs e = concept_of (entry_of_fields (fields_at cs e))

-- the bound that a concept carries, if it carries one
abbrev pub bound_in : Concept → ℕ
bound_in Top = 0
bound_in Name = 0
bound_in (Both a b) = 0
bound_in (Every r l) = 0
bound_in (AtLeast m) = m.bound

-- ---- the concept of a literal
-- at most one less than the bound: what denies a lower count; a bound of 0, which 4 refuses, stays 0
abbrev pub fewer_of : Count → Count
fewer_of m = record { role = m.role; literal = m.literal; bound = m.bound - 1; side = Upper }

pub none_fewer : (m : Count) → m.bound ≡ 0 → ◌≡◌ {A = Count} (record { role = m.role; literal = m.literal; bound = 0; side = Upper }) (fewer_of m)
none_fewer m e = rw e refl

-- the complement of an entry's concept, in which a count binds from below: of "at least n" it is a count again, of any other the denial
abbrev pub complement_of : Concept → LiteralConcept
complement_of Top = Not Top
complement_of Name = Not Name
complement_of (Both a b) = Not (Both a b)
complement_of (Every r l) = Not (Every r l)
complement_of (AtLeast m) = Is (AtLeast (fewer_of m))

abbrev pub literal_concept : List ℕ → Literal → LiteralConcept
literal_concept cs (pos e) = Is (concept_at cs e)
literal_concept cs (neg e) = complement_of (concept_at cs e)

-- the bound that it carries
abbrev pub bound_of : LiteralConcept → ℕ
bound_of (Is c) = bound_in c
bound_of (Not c) = bound_in c

complement_bound : (c : Concept) → bound_in c < 65536 → bound_of (complement_of c) < 65536
complement_bound Top h = h
complement_bound Name h = h
complement_bound (Both a b) h = h
complement_bound (Every r l) h = h
complement_bound (AtLeast m) h = omega arith

-- what the code reads at an even literal and at an odd one
pub even_literal : (cs : List ℕ) (l : ℕ) (c : Concept) → l % 2 ≡ 0 → c ≡ concept_at cs (l / 2) → bound_in c < 65536
    → (Is c ≡ literal_concept cs (literal l)) × (bound_of (Is c) < 65536)
unfolding literal
even_literal cs l c h e b = (rw (h, e) refl, b)

pub odd_literal : (cs : List ℕ) (l : ℕ) (c : Concept) (x : LiteralConcept) → (l % 2 ≡ 0 → ⊥) → c ≡ concept_at cs (l / 2) → bound_in c < 65536 → x ≡ complement_of c
    → (x ≡ literal_concept cs (literal l)) × (bound_of x < 65536)
unfolding literal
odd_literal cs l c x h e b q = let z : l % 2 ≡ 1 = omega arith in (rw (z, q, e) refl, rw q (complement_bound c b))

-- ---- the concept of fields, kind by kind
module _ (F : Fields) where
  pub as_top : F.kind ≡ 0 → Top ≡ concept_from F
  unfolding concept_of entry_from
  as_top e = rw e refl

  pub as_name : F.kind ≡ 1 → Name ≡ concept_from F
  unfolding concept_of entry_from
  as_name e = rw e refl

  pub as_both_lem : F.kind ≡ 2 → Both F.first F.second ≡ concept_from F
  unfolding concept_of entry_from
  as_both_lem e = rw (e, code_literal F.first, code_literal F.second) refl

  pub as_every : F.kind ≡ 3 → Every (record { 0 = F.role }) F.first ≡ concept_from F
  unfolding concept_of entry_from
  as_every e = rw (e, code_literal F.first) refl

  pub as_least : (F.kind ≡ 0 → ⊥) → (F.kind ≡ 1 → ⊥) → (F.kind ≡ 2 → ⊥) → (F.kind ≡ 3 → ⊥)
      → AtLeast (record { role = record { 0 = F.role }; literal = F.first; bound = F.number; side = Lower }) ≡ concept_from F
  unfolding concept_of entry_from
  as_least p q r s = let z : F.kind ≡ suc (suc (suc (suc (F.kind - 4)))) = omega arith in rw (z, code_literal F.first) refl
