use Rattle.std.specs.Prelude.{◌≡◌, true}
use Rattle.logic.specs.Tests.{◌⇒◌}
use Rattle.logic.specs.Bounded.{all_below}
use Rattle.logic.specs.Sets.{has, within}
use Rattle.line_reader.specs.LineSteps.{mask_at}
use Rattle.line_reader.proofs.pairs.pairs_up.Given as goal

abbrev pub invariant-loop-p : goal.invariant-loop-p
invariant-loop-p l = all_below l.p (λ q. let m = mask_at l.l.bytes.now l.l.rows q in has m l.r.0 ⇒ within l.parents m) ≡ true
