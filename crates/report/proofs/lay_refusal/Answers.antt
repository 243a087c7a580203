use Rattle.report.specs.Text.{text_of}
use Rattle.report.specs.TextLaws.{over_first, over_next}
use Rattle.report.proofs.lay_refusal.Goals as goal

pub returns : goal.returns
unfolding text_of
returns c = over_next _ _ _ _ _ _ _ (over_next _ _ _ _ _ _ _ (over_next _ _ _ _ _ _ _ (over_next _ _ _ _ _ _ _ (over_first _ _ _ _ c.lay-a.ensures)
    c.lay_number-b.ensures.0 c.lay_number-b.ensures.1) c.lay-c.ensures.0 c.lay-c.ensures.1) c.lay_number-d.ensures.0 c.lay_number-d.ensures.1) c.lay.ensures.0 c.lay.ensures.1
