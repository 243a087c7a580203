use denote.Param.Always.{mut_total}
use Rattle.evidence_vectors.proofs.run_rows.Goals as goal

pub run_parts-requires : goal.run_parts-requires
run_parts-requires g c = mut_total _ _ (λ s a. record { at = λ x. c.requires s.1.now x.0 })
