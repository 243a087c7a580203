-- Laws of the rows that the code holds.
use Rattle.std.specs.Prelude as Rust
use Rattle.std.specs.Prelude.{Some, None, ℕ, zero, suc, ◌+◌, ◌-◌, ◌<◌, ◌≤◌, ◌≡◌, refl, List, [], ◌∷◌, cond, ltb, length, get_or, take, replicate}
use Rattle.std.proofs.Common.{sym, ◌∙◌, ap, ap₂, arith, lt-ltb, le-ltb, get_or-take}
use Rattle.std.proofs.Math.Option.{Option, none, some}
use Rattle.std.proofs.Math.Decide.{dec_lt}
use Rattle.std.proofs.Math.ListN.{get_or-eq_default}
use Rattle.logic.specs.Lists.{tabulate}
use Rattle.logic.specs.Refusals.{unless}
use Rattle.parts.specs.Numbers.{byte_at, up_to_all}
use Rattle.counting.specs.Trees as Counting
use Rattle.description.specs.Literals.{Literal, pos, neg, literal, literal_code}
use Rattle.description.specs.Descriptions.{Entry, top, name, both, every, at_least, entry_of_fields}
use Rattle.refutation.specs.Cells as Theory
use Rattle.refutation.specs.Cells.{row_of, row_from, rows_of}
use Rattle.tables.specs.Tables.{fields_at, describe}
use Rattle.tables.specs.Concepts.{concept_of, bound_in, complement_of, literal_concept, bound_of}
use Rattle.tables.specs.declared.LiteralConcept.{LiteralConcept}
use Rattle.tables.specs.declared.Concept.{Concept}
use Rattle.tables.specs.declared.Concept.TheVariants.{Every, AtLeast}
use Rattle.tables.specs.declared.Count.{Count}
use Rattle.tables.specs.declared.RoleNo.{RoleNo}
use Rattle.nodes.specs.NodeSteps.{opposed}
use Rattle.list_form.specs.ListForm.{bytes_at}
use Rattle.tables.specs.declared.Side.TheVariants.{Lower}
use Rattle.rows.specs.declared.Row.{Row}
use Rattle.rows.specs.HeldRows.{without_roles, held_side, side_of, held, given, held_row, row_refusal, there, no_row, held_at, first_at, rows_held, row_in, count_row, some_row, concept_row}

row_told : (o : Option Theory.Row) (x : Rust.Option Row) → x ≡ held_row o → (x ≡ held_row o) × (row_refusal x ≡ unless (there o) 17 none)
row_told none x e = (e, ap row_refusal e)
row_told (some R) x e = (e, ap row_refusal e)

-- ---- the rows of literals are told by the entries alone
pub row_same : (rs cs qs : List ℕ) (p : Option (List ℕ)) (l : Literal) → row_of (without_roles cs []) l ≡ row_of (describe rs cs qs p) l
row_same rs cs qs p (pos e) = refl
row_same rs cs qs p (neg e) = refl

pub rows_same : (rs cs qs : List ℕ) (p : Option (List ℕ)) (lits : List Literal)
    → rows_of (without_roles cs []) lits ≡ rows_of (describe rs cs qs p) lits
unfolding rows_of
rows_same rs cs qs p [] = refl
rows_same rs cs qs p (l ∷ lits) = ap₂ (λ o rows. row_from o ∷ rows) (row_same rs cs qs p l) (rows_same rs cs qs p lits)

-- ---- laws for the row of a literal
-- the concept of a literal gives the literal's row
concept_row_lem : (cs : List ℕ) (l : Literal) → concept_row (literal_concept cs l) ≡ held_row (row_of (without_roles cs []) l)
unfolding concept_of
concept_row_lem cs (pos e) = go (entry_of_fields (fields_at cs e))
  where
    go : (x : Entry) → count_row (concept_of x) ≡ held_row (Theory.positive_row x)
    go top = refl
    go name = refl
    go (both a c) = refl
    go (every r l) = refl
    go (at_least r l n) = refl
concept_row_lem cs (neg e) = go (entry_of_fields (fields_at cs e))
  where
    go : (x : Entry) → concept_row (complement_of (concept_of x)) ≡ held_row (Theory.negative_row x)
    go top = refl
    go name = refl
    go (both a c) = refl
    go (every r l) = rw (literal_code l) refl
    go (at_least r l n) = refl

pub row_read : (cs : List ℕ) (l : ℕ) (x : Rust.Option Row) (c d : LiteralConcept) → c ≡ literal_concept cs (literal l) → c ≡ d → x ≡ concept_row d
    → (x ≡ held_row (row_of (without_roles cs []) (literal l)))
    × (row_refusal x ≡ unless (there (row_of (without_roles cs []) (literal l))) 17 none)
row_read cs l x c d p q e = row_told (row_of (without_roles cs []) (literal l)) x (e ∙ ap concept_row (sym q ∙ p) ∙ concept_row_lem cs (literal l))

-- the bound of a count that was read
pub bound_few : (c d : LiteralConcept) → bound_of c < 65536 → c ≡ d → bound_of d < 65536
bound_few c d h e = rw e at h

pub count_few : (c : Concept) (m : Count) → bound_in c < 65536 → c ≡ AtLeast m → m.bound < 65536
count_few c m h e = rw e at h

pub count_made : (m : Count) (n : ℕ) → n ≡ m.bound → Some (record { role = m.role; qualifier = m.literal; bound = n; side = m.side }) ≡ count_row (AtLeast m)
count_made m n e = rw e refl

pub some_made : (r : RoleNo) (l q : ℕ) → q ≡ opposed l → Some (record { role = r; qualifier = q; bound = 1; side = Lower }) ≡ some_row (Every r l)
some_made r l q e = rw e refl

-- row i of the step, where its literal gives a row, and where it gives none
module _ (cs ds : List ℕ) (i l : ℕ) (p : l ≡ byte_at ds (2 + i)) where
  abbrev found : Option Theory.Row
  found = row_of (without_roles cs []) (literal l)

  at_step : held (row_from found) ≡ row_in cs ds i
  at_step = ap (λ m. held (row_from (row_of (without_roles cs []) (literal m)))) p

  pub in_row : (y : Rust.Option Row) (x : Row) → y ≡ held_row found → y ≡ Some x → x ≡ row_in cs ds i
  in_row y x e q = is found (sym q ∙ e) ∙ at_step
    where
      is : (o : Option Theory.Row) → Some x ≡ held_row o → x ≡ held (row_from o)
      is none e = absurd (let z : ◌≡◌ {A = ℕ} 0 1 = cc in omega arith)
      is (some R) e = cc

  pub in_none : (y : Rust.Option Row) → y ≡ held_row found → y ≡ None → no_row ≡ row_in cs ds i
  in_none y e q = is found (sym q ∙ e) ∙ at_step
    where
      is : (o : Option Theory.Row) → None ≡ held_row o → no_row ≡ held (row_from o)
      is none e = refl
      is (some R) e = absurd (let z : ◌≡◌ {A = ℕ} 0 1 = cc in omega arith)

-- ---- laws for the array
pub at_held : (rows : List Row) (i : ℕ) (x : Row) → i < 6 → x ≡ get_or rows i no_row → x ≡ held_at rows i
unfolding held_at
at_held rows i x h e = rw (lt-ltb i 6 h) e

-- each of the first k rows is the array's
pub first_held : (rows : List Row) (k i : ℕ) (x : Row) → i < k → k ≤ 6 → x ≡ first_at rows k i → x ≡ held_at rows i
first_held rows k i x l few e = at_held rows i x (omega arith)
    (e ∙ ap (λ n. get_or (take n rows) i no_row) (up_to_all 6 k few) ∙ get_or-take k rows i no_row l)

-- what is held is given back
pub given_held : (R : Theory.Row) → given (held R) ≡ R
given_held R = same R.role R.bound _ _ _ _ (literal_code R.qualifier) (side R.side)
  where
    same : (r b : ℕ) (l m : Literal) (s t : Counting.Side) → l ≡ m → s ≡ t
        → ◌≡◌ {A = Theory.Row} (record { role = r; qualifier = l; side = s; bound = b }) (record { role = r; qualifier = m; side = t; bound = b })
    same r b l m s t p q = rw (p, q) refl

    side : (s : Counting.Side) → side_of (held_side s) ≡ s
    side Counting.lower = refl
    side Counting.upper = refl

-- an array that holds the first k rows of the step
pub rows_held_lem : (cs ds : List ℕ) (rows : List Row) (k : ℕ) → k ≤ 6 → ((i : ℕ) → i < k → get_or rows i no_row ≡ row_in cs ds i)
    → rows_held rows k ≡ rows_of (without_roles cs []) (bytes_at literal ds 2 k)
unfolding rows_of tabulate
rows_held_lem cs ds rows k few e = go k (λ i. given (held_at rows i)) (λ i. literal (byte_at ds (2 + i)))
    (λ i h. ap given (sym (at_held rows i (row_in cs ds i) (omega arith) (sym (e i h))))
    ∙ given_held (row_from (row_of (without_roles cs []) (literal (byte_at ds (2 + i))))))
  where
    go : (k : ℕ) (f : ℕ → Theory.Row) (g : ℕ → Literal) → ((i : ℕ) → i < k → f i ≡ row_from (row_of (without_roles cs []) (g i)))
        → tabulate k f ≡ rows_of (without_roles cs []) (tabulate k g)
    go zero f g h = refl
    go (suc k) f g h = ap₂ ◌∷◌ (h 0 (omega arith)) (go k (λ i. f (suc i)) (λ i. g (suc i)) (λ i l. h (suc i) (omega arith)))

-- six rows that are none have none at every place
pub none_behind : (x : Row) → x ≡ no_row → (m : ℕ) → get_or (replicate 6 x) m no_row ≡ no_row
none_behind x e zero = e
none_behind x e (suc zero) = e
none_behind x e (suc (suc zero)) = e
none_behind x e (suc (suc (suc zero))) = e
none_behind x e (suc (suc (suc (suc zero)))) = e
none_behind x e (suc (suc (suc (suc (suc zero))))) = e
none_behind x e (suc (suc (suc (suc (suc (suc m)))))) = refl

-- behind the rows that are filled stands none
pub behind : (f : ℕ → Row) (n : ℕ) (rows : List Row) → length rows ≡ 6 → ((i : ℕ) → i < 6 → get_or rows i no_row ≡ cond (ltb i n) (f i) no_row)
    → (i : ℕ) → n ≤ i → get_or rows i no_row ≡ no_row
behind f n rows s made i l = elim (dec_lt i 6) [
  | yes h ↦ made i h ∙ rw (le-ltb i n l) refl
  | no h ↦ (let z : length rows ≤ i = omega arith in get_or-eq_default rows no_row z)
]

pub none_held : (rows : List Row) (i : ℕ) → get_or rows i no_row ≡ no_row → held_at rows i ≡ no_row
unfolding held_at
none_held rows i e = elim (dec_lt i 6) [ yes l ↦ rw (lt-ltb i 6 l) e | no l ↦ (let z : 6 ≤ i = omega arith in rw (le-ltb i 6 z) refl) ]
