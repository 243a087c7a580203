-- Tests 9 to 15 as the code makes them, for parts and evidence of every length; for an accepted description they are those of GraphEvidence.
use Rattle.std.specs.Prelude.{ℕ, ◌/◌, ◌≡◌, Bool, true, false, cond, List, eqb, length}
use Rattle.std.proofs.Math.Path.{refl, fun_ext}
use Rattle.std.proofs.Common.{sym, ap, ne_eqb}
use Rattle.std.proofs.Math.Option.{Option, none, some}
use Rattle.logic.specs.Refusals.{Refusal, unless, refuse, refuse_from, records_then, records_refused}
use Rattle.logic.specs.Bounded.{all_below}
use Rattle.parts.specs.Numbers.{up_to}
use Rattle.parts.specs.Pairs.{length_at}
use Rattle.evidence.specs.declared.Layout.{Layout}
use Rattle.evidence.specs.Evidence.{record_count, layout_for, edges_part, node_form_test, label_of}
use Rattle.nodes.specs.NodeSteps.{label_code, required_set, both_at}
use Rattle.tables.specs.Tables.{entry_count}
use Rattle.edges.specs.EdgeSteps.{edges_code}
use Rattle.sources.specs.Sources.{SourcesOf}
use Rattle.fillers.specs.FillerSteps.{everys_code, everys_with, counts_code}
use Rattle.fillers.specs.FillerLaws.{everys_with_lem}
use Rattle.answers.specs.declared.Refusal as Code
use Rattle.answers.specs.declared.Reason.TheVariants as is
use Rattle.answers.specs.Reasons.{refused}
use Rattle.answers.specs.Answers.{numbered}
use Rattle.graph_check.specs.GraphEvidence.{graph_head}

-- 10, of record i, by the length that its pair gives
abbrev pub form_code : Layout → List ℕ → ℕ → Bool
form_code f s i = node_form_test f (length_at s 2 i)

abbrev pub form_of : Layout → List ℕ → ℕ → Option ℕ
form_of f s i = unless (form_code f s i) 10 none

-- one of two sets: of record 0, and of the others
abbrev pub need_of : ℕ → ℕ → ℕ → ℕ
need_of first later i = cond (eqb i 0) first later

-- 11 to 15, of a record with label N and edges es, which is to have the set K, in a graph of n records, with the masks a of m roles;
-- num y is the label of record y, and `every` says that 14 holds
unfoldable pub node_tests : List ℕ → ℕ → List ℕ → Bool → ℕ → (ℕ → ℕ) → ℕ → ℕ → List ℕ → Option ℕ
node_tests a m cs every K num n N es =
    unless (label_code (entry_count cs) N K) 11
    (unless (all_below (entry_count cs) (both_at cs N)) 12
    (unless (edges_code a (up_to 16 m) n es) 13
    (unless every 14
    (unless (counts_code cs num N es) 15 none))))

-- with the masks of the roles; and with the table of sources that is made of them once
abbrev pub record_needs : List ℕ → ℕ → List ℕ → ℕ → Layout → List ℕ → ℕ → ℕ → Option ℕ
record_needs a m cs K f s n i = node_tests a m cs (everys_code a cs (label_of f s) (label_of f s i) (edges_part f s i)) K (label_of f s) n (label_of f s i) (edges_part f s i)

abbrev pub node_with : List ℕ → ℕ → List ℕ → List ℕ → ℕ → (ℕ → ℕ) → ℕ → ℕ → List ℕ → Option ℕ
node_with a m cs src K num n N es = node_tests a m cs (everys_with cs num src N es) K num n N es

abbrev pub record_with : List ℕ → ℕ → List ℕ → List ℕ → ℕ → Layout → List ℕ → ℕ → ℕ → Option ℕ
record_with a m cs src K f s n i = node_with a m cs src K (label_of f s) n (label_of f s i) (edges_part f s i)

-- record 0 is to have one set, the others another; so where the set M is wanted of record 0
abbrev pub record_for : List ℕ → ℕ → List ℕ → ℕ → ℕ → Layout → List ℕ → ℕ → ℕ → Option ℕ
record_for a m cs first later f s n i = record_needs a m cs (need_of first later i) f s n i

abbrev pub record_code : List ℕ → ℕ → List ℕ → List ℕ → ℕ → Layout → List ℕ → ℕ → ℕ → Option ℕ
record_code a m cs qs M f s n i = record_for a m cs (required_set qs M) (required_set qs 0) f s n i

-- 10 to 15, of evidence stored as for the part cs; a graph has no cells, so that it is read without their mark
abbrev pub layout_in : List ℕ → Layout
layout_in cs = layout_for (length cs / 6) false

unfoldable pub records_code : List ℕ → ℕ → List ℕ → List ℕ → ℕ → List ℕ → ℕ → Option Refusal
records_code a m cs qs M s n = refuse_from (form_of (layout_in cs) s) n 0 (refuse_from (record_code a m cs qs M (layout_in cs) s n) n 0 none)

-- 9 to 15
unfoldable pub graph_code : List ℕ → ℕ → List ℕ → List ℕ → ℕ → List ℕ → Option Refusal
graph_code a m cs qs M s = refuse 0 (unless (graph_head s) 9 none) (records_code a m cs qs M s (record_count s))

-- ---- laws for the code
pub need_first : (first later i : ℕ) → i ≡ 0 → first ≡ need_of first later i
need_first first later i e = rw e refl

pub need_later : (first later i : ℕ) → (i ≡ 0 → ⊥) → later ≡ need_of first later i
need_later first later i e = rw (ne_eqb i 0 e) refl

module _ (a : List ℕ) (m : ℕ) (cs src : List ℕ) (K : ℕ) (num : ℕ → ℕ) (n i N : ℕ) (es : List ℕ) where
  abbrev node : Option Refusal
  node = refuse i (node_with a m cs src K num n N es) none

  pub stops_11 : label_code (entry_count cs) N K ≡ false → (r : Code.Refusal) → r ≡ refused is.Label i → some (numbered r) ≡ node
  unfolding node_tests
  stops_11 e r k = rw (e, k) refl

  pub stops_12 : label_code (entry_count cs) N K ≡ true → all_below (entry_count cs) (both_at cs N) ≡ false
      → (r : Code.Refusal) → r ≡ refused is.Both i → some (numbered r) ≡ node
  unfolding node_tests
  stops_12 p e r k = rw (p, e, k) refl

  pub stops_13 : label_code (entry_count cs) N K ≡ true → all_below (entry_count cs) (both_at cs N) ≡ true → edges_code a (up_to 16 m) n es ≡ false
      → (r : Code.Refusal) → r ≡ refused is.Edge i → some (numbered r) ≡ node
  unfolding node_tests
  stops_13 p q e r k = rw (p, q, e, k) refl

  pub goes_on : label_code (entry_count cs) N K ≡ true → all_below (entry_count cs) (both_at cs N) ≡ true → edges_code a (up_to 16 m) n es ≡ true
      → refuse i (unless (everys_with cs num src N es) 14 (unless (counts_code cs num N es) 15 none)) none ≡ node
  unfolding node_tests
  goes_on p q r = rw (p, q, r) refl

-- the record's label and edges, as they are read
pub record_read : (a : List ℕ) (m : ℕ) (cs src : List ℕ) (K : ℕ) (f : Layout) (s : List ℕ) (n i N : ℕ) (es : List ℕ) → N ≡ label_of f s i → es ≡ edges_part f s i
    → refuse i (node_with a m cs src K (label_of f s) n N es) none ≡ refuse i (record_with a m cs src K f s n i) none
record_read a m cs src K f s n i N es p q = rw (p, q) refl

-- one record after the other, with the table of sources
record_with_lem : (a : List ℕ) (m : ℕ) (cs src : List ℕ) (K : ℕ) (f : Layout) (s : List ℕ) (n i : ℕ) → SourcesOf a cs src
    → record_with a m cs src K f s n i ≡ record_needs a m cs K f s n i
record_with_lem a m cs src K f s n i T = ap (λ b. node_tests a m cs b K (label_of f s) n (label_of f s i) (edges_part f s i))
    (everys_with_lem a cs (label_of f s i) (label_of f s) (edges_part f s i) src T)

abbrev pub records_with : List ℕ → ℕ → List ℕ → List ℕ → ℕ → ℕ → Layout → List ℕ → ℕ → ℕ → Option ℕ
records_with a m cs src first later f s n i = record_with a m cs src (need_of first later i) f s n i

pub records_with_lem : (a : List ℕ) (m : ℕ) (cs src : List ℕ) (first later : ℕ) (f : Layout) (s : List ℕ) (n : ℕ) → SourcesOf a cs src
    → refuse_from (records_with a m cs src first later f s n) n 0 none ≡ refuse_from (record_for a m cs first later f s n) n 0 none
records_with_lem a m cs src first later f s n T = ap (λ g. refuse_from g n 0 none) (fun_ext (λ i. record_with_lem a m cs src (need_of first later i) f s n i T))

-- 10, then 11 to 15, of evidence stored as f says
module _ (a : List ℕ) (m : ℕ) (cs qs : List ℕ) (M : ℕ) (s : List ℕ) (n : ℕ) (f : Layout) (e : f ≡ layout_in cs) where
  pub forms_stop : (z : Refusal) → refuse_from (form_of f s) n 0 none ≡ some z → some z ≡ records_code a m cs qs M s n
  unfolding records_code
  forms_stop z q = rw (← e) (sym (records_refused (form_of f s) n 0 (refuse_from (record_code a m cs qs M f s n) n 0 none) z q))

  pub forms_on : refuse_from (form_of f s) n 0 none ≡ none → refuse_from (record_code a m cs qs M f s n) n 0 none ≡ records_code a m cs qs M s n
  unfolding records_code
  forms_on q = rw (← e) (sym (records_then (form_of f s) n 0 (refuse_from (record_code a m cs qs M f s n) n 0 none) q))

-- 9, then those
module _ (a : List ℕ) (m : ℕ) (cs qs : List ℕ) (M : ℕ) (s : List ℕ) where
  pub head_stop : graph_head s ≡ false → (r : Code.Refusal) → r ≡ refused is.Head 0 → some (numbered r) ≡ graph_code a m cs qs M s
  unfolding graph_code
  head_stop e r k = rw (e, k) refl

  pub head_on : (n : ℕ) → graph_head s ≡ true → n ≡ record_count s → records_code a m cs qs M s n ≡ graph_code a m cs qs M s
  unfolding graph_code
  head_on n e q = rw (e, q) refl
