use Rattle.std.proofs.Common.{◌≡◌, ◌<◌, drop}
use Rattle.vector_rows.specs.Rows.{number_from}
use Rattle.vector_rows.proofs.number.Given as goal

abbrev pub invariant-loop-c : goal.invariant-loop-c
invariant-loop-c l = (l.n < 65536) × (number_from l.n (drop l.c-index l.digits) ≡ number_from 0 l.digits)
