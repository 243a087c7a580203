-- Lifted evidence that keeps the rules has labels, masks, literals, entries, rules, targets and cites that the description or it has.
use Rattle.std.specs.Prelude.{ℕ, suc, ◌-◌, ◌*◌, ◌^◌, ◌≤◌, ◌<◌, ◌≡◌, List}
use Rattle.std.proofs.Common.{arith, pow_mono}
use Rattle.logic.specs.Tests.{so_ltb}
use Rattle.logic.specs.Lists.{member_at}
use Rattle.logic.specs.Sets.{narrow}
use Rattle.logic.specs.SetLaws.{lt_has}
use Rattle.description.specs.Literals.{code_entry, Label, members, InTable, in_table↔}
use Rattle.description.specs.Descriptions.{Description}
use Rattle.graph.specs.Graphs.{node_at}
use Rattle.refutation.specs.Records.{unshown, cited, Step, contradiction, conjunction, disjunction, by_rule, case_split, counting}
use Rattle.refutation.specs.Records.{record_at, number_at, Formed, CiteOk}
use Rattle.intake.specs.Intake.{described, AcceptedBytes, accepted_sizes}
use Rattle.labels.proofs.Labels.{literals_fit}
use Rattle.evidence.specs.Evidence.{layout_of, label_size}
use Rattle.demands.specs.Lifted.{Evidence, sample, refutation, KeepsRules}
use Rattle.demands.specs.InTable.{StepInTable, EvidenceInTable, Fitting}

label_below : (N n : ℕ) → InTable n (members N) → N < 2 ^ (2 * n)
unfolding narrow
label_below N n h = so_ltb N (2 ^ (2 * n)) ((in_table↔ N n).1 h)

module _ (D : Description) (num : ℕ → ℕ) (i : ℕ) (L : Label) where
  step_in_table : (s : Step) → Formed s → CiteOk D num i L s → StepInTable D i s
  step_in_table (contradiction l) f o = (code_entry l D.entries).1 o
  step_in_table (conjunction e c) f o = o
  step_in_table (disjunction e c d) f o = (o.0, o.1.0, o.1.1)
  step_in_table (by_rule q c) f o = o
  step_in_table (case_split e c d) f o = (o.0, o.1.0, o.1.1)
  step_in_table (counting K) f o = (
    λ l m. (code_entry l D.entries).1 (o.0 l m),
    λ j m.
        let p = member_at K.cells unshown (cited j) m in
        let e : suc p.0 - 1 ≡ p.0 = omega arith in
        o.1 (suc p.0) (omega (arith, f.1.0, p.1)) (omega arith) j (rw e p.2),
  )

-- for any description
pub keeps_in_table : (D : Description) (E : Evidence) → KeepsRules D E → EvidenceInTable D E
keeps_in_table D (sample G) k = λ x l. let n = k.nodes x l in record {
  label_inside = label_below (node_at G x).label D.entries n.label_ok.inside_table;
  masks_in = λ E m. lt_has D.roles E.mask (n.edges_ok E m).roles_inside;
  targets_in = λ E m. (n.edges_ok E m).target_in;
}
keeps_in_table D (refutation C) k = λ i l. let r = k.valid.records i l in record {
  label_inside = label_below (number_at C i) D.entries r.inside_table;
  step_inside = step_in_table D (number_at C) i (members (number_at C i)) (record_at C i).step (k.valid.forms i l) r.cite_ok;
}

-- so lifted evidence has room in the bytes of stored evidence, for a description that bytes are
pub keeps_fitting : (d : List ℕ) → AcceptedBytes d → (E : Evidence) → KeepsRules (described d) E → Fitting (layout_of (described d)) E
keeps_fitting d a E k = go E (keeps_in_table (described d) E k)
  where
    D : Description
    D = described d

    labels : 2 ^ (2 * D.entries) ≤ 2 ^ (8 * label_size (layout_of D))
    labels = pow_mono (literals_fit D.entries (accepted_sizes d a).3)

    masks : 2 ^ D.roles ≤ 2 ^ 16
    masks = let h : D.roles ≤ 16 = omega (arith, accepted_sizes d a) in pow_mono h

    go : (E : Evidence) → EvidenceInTable D E → Fitting (layout_of D) E
    go (sample G) t = λ x l. (omega (arith, labels, (t x l).label_inside), λ E m. omega (arith, masks, (t x l).masks_in E m))
    go (refutation C) t = λ i l. omega (arith, labels, (t i l).label_inside)
