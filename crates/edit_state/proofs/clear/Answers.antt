use Rattle.edit_state.specs.EditLaws.{short_starts, done_starts}
use mathlib.Core.Path.{◌∙◌}
use native.Mathlib.Omega.{arith}
use lib.ListN.{replicate}
use Rattle.laying.specs.Laying.{laid_fits}
use Rattle.edit_state.specs.Lent.{state_bytes}
use Rattle.std.proofs.Common.{rules}
use Rattle.edit_state.proofs.clear.Goals as goal

pub returns-in_err-enough : goal.returns-in_err-enough
returns-in_err-enough c = let h = c.in_err-enough.ensures.short in short_starts _ _ (search rules) h.1

pub returns : goal.returns
returns c = rw (c.copy_bytes.ensures ∙ laid_fits _ 0 (replicate state_bytes 0) (omega (arith, c.in_ok-enough.ensures.whole))) (done_starts _
    c.in_ok-enough.ensures.whole)
