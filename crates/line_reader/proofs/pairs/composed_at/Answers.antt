use Rattle.std.proofs.Common.{rules}
use Rattle.line_reader.specs.LineSteps.{pair_in, composes_on, composes_off}
use Rattle.line_reader.proofs.pairs.composed_at.Goals as goal

pub returns-then-byte-eq1 : goal.returns-then-byte-eq1
returns-then-byte-eq1 c = composes_on c.args.rs.now c.args.l.now.bytes.now _ _ _ _ c.lay_rows.new.rows _ c.byte.ensures c.if-byte-eq1.true (c.lay_rows.ensures (search rules)) c.rows_closed.ensures

pub returns-else-byte-eq1 : goal.returns-else-byte-eq1
returns-else-byte-eq1 c = composes_off c.args.rs.now _ (pair_in c.args.l.now.bytes.now _ _) _ _ c.byte.ensures c.if-byte-eq1.false
