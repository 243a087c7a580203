use Rattle.shq_check.proofs.answer.Goals as goal

pub returns : goal.returns
returns c = let w = c.write_answer.ensures in
    record {
      bytes = rw (← c.evidence_part.ensures, ← c.description_part.ensures, ← c.check_evidence-v.ensures) w.bytes;
      part = w.part;
    }
