use native.Mathlib.Omega.{arith}
use Rattle.lines.proofs.Numerals.{two}
use Rattle.parts.specs.Numbers.{num2}
use Rattle.words.specs.Words.{push_none, push_more, push_done}
use Rattle.line_reader.specs.LineSteps.{pair_in, row_bit}
use Rattle.line_reader.proofs.places.Line.row.Goals as goal

pub loop-y-init : goal.loop-y-init
loop-y-init c = let l = c.args.self.now in push_none (pair_in l.bytes.now l.rows l.size c.args.r.0 c.args.x) _

pub loop-y-preserved : goal.loop-y-preserved
loop-y-preserved c = let l = c.args.self.now in let few = l.few in push_more (pair_in l.bytes.now l.rows l.size c.args.r.0 c.args.x) l.size c.loop-y.y _ _ _
    (omega arith) (omega arith) (omega arith) c.loop-y.invariant
    (row_bit l.bytes.now _ _ _ _ _ _ c.row_at-row.ensures (c.bit_at.ensures num2 two)) c.push-out.ensures

pub returns : goal.returns
returns c = let l = c.args.self.now in push_done (pair_in l.bytes.now l.rows l.size c.args.r.0 c.args.x) _ c.loop-y.y _ (omega arith) c.loop-y.invariant
