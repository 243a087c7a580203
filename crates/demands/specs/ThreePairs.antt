-- For belief: with three pairs all is as it was before there was a fourth (02, job 5). Each definition that has changed is, for a
-- description of three pairs, the expression that it was, written out here; and what is added asks nothing of it.
use Rattle.std.specs.Prelude.{ℕ, ◌+◌, ◌<◌, ◌≡◌, ◌↔◌, Bool, cond, ◌&&◌, List, eqb, ltb, length}
use Rattle.std.proofs.Math.Path.{refl}
use Rattle.std.proofs.Common.{sym, ◌∙◌, ap, arith}
use Rattle.std.proofs.Math.Bool.{true, false, and-true}
use Rattle.std.proofs.lemmas.Bool.{false≢true}
use Rattle.std.proofs.Math.Option.{none}
use Rattle.std.proofs.Math.Dec.{leb}
use Rattle.logic.specs.Tests.{So, ◌⇒◌}
use Rattle.logic.specs.Bounded.{all_below, all_intro}
use Rattle.logic.specs.Refusals.{unless}
use Rattle.logic.specs.Sets.{nonempty, narrow, within}
use Rattle.parts.specs.Pairs.{fills}
use Rattle.description.specs.Literals.{Literal, Label, members}
use Rattle.description.specs.Descriptions.{Description, Compatible, compatible}
use Rattle.description.specs.Roles.{ancestor}
use Rattle.description.specs.Acceptance.{roles_test, entries_test, simples_test, distincts_test, everys_test, query_test, description_tests}
use Rattle.interpretation.specs.Meaning.{Interpretation}
use Rattle.interpretation.specs.Reading.{includes, composes, separates, follows, satisfies, reads}
use Rattle.graph.specs.Graphs.{Edge, of_role, GraphLimits}
use Rattle.graph.specs.GraphTests.{edge_test}
use Rattle.refutation.specs.Cells.{Row, cell_role, Known}
use Rattle.refutation.specs.Records.{Cell, unshown, cited, barred, CellFits}
use Rattle.refutation.specs.RecordTests.{if_cited, known_label, knows, answer_for, cell_fits}
use Rattle.tables.specs.Tables.{describe}
use Rattle.labels.specs.Labels.{wide, most_entries}
use Rattle.directory.specs.Directory.{four, roles_part, concepts_part, query_part}
use Rattle.intake.specs.Intake.{described, three_pairs, most_roles, most_rules, records_test, sizes_test}
use Rattle.intake.specs.Intake.{role_form, entry_form, parts_test, bytes_test}
use Rattle.evidence.specs.Evidence.{layout_of}
use Rattle.list_form.specs.ListForm.{cell_of}

-- ---- a description without records
module _ (D : Description) (e : D.disjoints ≡ 0) where
  -- every set of roles is compatible: so much is added to the rules of models, of edges and of cells, and so little is it
  pub nothing_asked : (m : ℕ → Bool) → Compatible D m
  nothing_asked m i h = absurd (omega (arith, e))

  pub all_compatible : (m : ℕ → Bool) → compatible D m ≡ true
  unfolding compatible all_below
  all_compatible m = rw e refl

  -- 3 to 8
  pub tests_before : (rf ef : ℕ → Bool) → description_tests rf ef D
      ≡ unless (roles_test rf D) 3 (unless (entries_test ef D) 4 (unless (simples_test D) 5 (unless (distincts_test D) 6
      (unless (everys_test D) 7 (unless (query_test D) 8 none)))))
  unfolding description_tests all_below
  tests_before rf ef = rw e refl

  -- 13
  pub edge_before : (lim : GraphLimits) (size : ℕ) (E : Edge) → edge_test lim D size E
      ≡ ((ltb E.target size && (nonempty E.mask && (narrow E.mask D.roles
      && (all_below D.roles (λ r. of_role r E ⇒ all_below D.roles (λ s. ancestor D r s ⇒ of_role s E)) && leb 1 E.count))))
      && lim.count E.count)
  unfolding edge_test
  edge_before lim size E = rw (all_compatible (λ r. of_role r E)) refl

  -- 18, as a rule: an open cell keeps it, a cite is to be known of the cell, and nothing is barred
  module _ (num : ℕ → ℕ) (i : ℕ) (L : Label) (rows : List Row) (c : ℕ) where
    pub open_before : CellFits D num i L rows c unshown
    open_before = nothing_asked (cell_role D rows c)

    pub cite_before : (j : ℕ) → CellFits D num i L rows c (cited j) ↔ ((l : Literal) → So (members (num j) l) → Known D L rows c l)
    cite_before j = (λ h. h.1, λ h. (nothing_asked (cell_role D rows c), h))

    pub never_barred : CellFits D num i L rows c barred → ⊥
    never_barred h = h (nothing_asked (cell_role D rows c))

  -- and as a test, of a cell as three pairs store it
  pub cell_before : (num : ℕ → ℕ) (N : ℕ) (lits : List Literal) (c b : ℕ) → cell_fits num (answer_for D N lits c) (cell_of false b)
      ≡ if_cited (λ j. within (num j) (known_label D N lits c)) (cell_of false b)
  unfolding cell_fits if_cited
  cell_before num N lits c b = rw (all_compatible _) (go (eqb b 255))
    where
      go : (is_open : Bool) → cell_fits num (knows (known_label D N lits c)) (cond is_open unshown (cited b))
          ≡ if_cited (λ j. within (num j) (known_label D N lits c)) (cond is_open unshown (cited b))
      go true = refl
      go false = refl

  -- the direct reading
  pub reads_before : (I : Interpretation) (W : List Literal)
      → reads D I W ≡ (leb 1 I.size && (includes D I && (composes D I && (follows D I && satisfies D I W))))
  unfolding separates
  reads_before I W = rw separated refl
    where
      separated : separates D I ≡ true
      separated = all_intro I.size _ (λ x _. all_intro I.size _ (λ y _. all_compatible (λ r. I.role r x y)))

-- a cell byte
pub cell_byte_before : (b : ℕ) → cell_of false b ≡ cond (eqb b 255) unshown (cited b)
cell_byte_before b = refl

-- ---- the bytes of a description of three pairs: 1, 2, then 3 to 8 of what they are; evidence is stored without the mark
module _ (d : List ℕ) (three : four d ≡ false) where
  abbrev D : Description
  D = describe (roles_part d) (concepts_part d) (query_part d) none

  pub described_before : (described d ≡ D) × (D.disjoints ≡ 0) × (layout_of D ≡ record { wide = wide D.entries; marks = false })
  described_before = ((three_pairs d three).2, refl, refl)

  pub bytes_before : bytes_test d ≡ unless (fills d 0 3 12) 1 (unless (records_test 3 most_roles (roles_part d)
      && (records_test 6 most_entries (concepts_part d) && (leb 1 (length (query_part d)) && leb (length (query_part d)) (1 + most_rules)))) 2
      (unless (roles_test (role_form (roles_part d)) D) 3 (unless (entries_test (entry_form (concepts_part d)) D) 4 (unless (simples_test D) 5
      (unless (distincts_test D) 6 (unless (everys_test D) 7 (unless (query_test D) 8 none)))))))
  unfolding bytes_test parts_test sizes_test
  bytes_before = let t = three_pairs d three in
      rw (
        t.0,
        t.1,
        and-true (leb 1 (length (query_part d)) && leb (length (query_part d)) (1 + most_rules)),
        tests_before D refl (role_form (roles_part d)) (entry_form (concepts_part d)),
      ) refl
