use Rattle.report.specs.Text.{decimal, text_of}
use Rattle.report.specs.TextLaws.{over_first, answered}
use Rattle.report.proofs.write_answer.Goals as goal

pub returns-in-Inhabited : goal.returns-in-Inhabited
unfolding text_of decimal
returns-in-Inhabited c = let w = answered _ _ _ _ _ c.in-Inhabited.is (over_first _ _ _ _ c.lay.ensures) in
    record { bytes = w.0; size = w.1.0; part = w.1.1 }

pub returns-in-Empty : goal.returns-in-Empty
unfolding text_of decimal
returns-in-Empty c = let w = answered _ _ _ _ _ c.in-Empty.is (over_first _ _ _ _ c.lay-in-Empty.ensures) in
    record { bytes = w.0; size = w.1.0; part = w.1.1 }

pub returns-in-Refused : goal.returns-in-Refused
returns-in-Refused c = let w = answered _ _ _ _ _ c.in-Refused.is
    (rw (← c.number.ensures) (record { bytes = c.write_refusal.ensures.bytes; size = c.write_refusal.ensures.size })) in
    record { bytes = w.0; size = w.1.0; part = w.1.1 }
