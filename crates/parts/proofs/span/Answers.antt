use native.Mathlib.Omega.{arith}
use Rattle.parts.specs.Pairs.{span_past, span_cut, span_whole}
use Rattle.parts.proofs.span.Goals as goal

pub returns-then-s-from : goal.returns-then-s-from
returns-then-s-from c = let p = c.args in span_past p.s.now p.from p.n (omega arith)

pub returns-then-s-from-2 : goal.returns-then-s-from-2
returns-then-s-from-2 c = let p = c.args in span_cut p.s.now p.from p.n (omega arith) (omega arith)

pub returns : goal.returns
returns c = let p = c.args in span_whole p.s.now p.from p.n
