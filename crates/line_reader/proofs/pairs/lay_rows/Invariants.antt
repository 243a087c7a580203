use Rattle.std.specs.Prelude.{◌≡◌, length}
use Rattle.parts.specs.Filling.{Filled}
use Rattle.line_reader.specs.LineSteps.{row_of}
use Rattle.line_reader.proofs.pairs.lay_rows.Given as goal

abbrev pub invariant-loop-x : goal.invariant-loop-x
invariant-loop-x v = length v.initial.rows ≡ 64 → Filled 64 (row_of v.l.bytes.now v.l.rows v.l.size v.r.0) v.x v.rows
