use mathlib.Core.Path.{◌∙◌}
use Rattle.entry_tests.specs.Entries.{simple_read}
use Rattle.entry_tests.proofs.simple_ok.Goals as goal

pub returns : goal.returns
returns c = c.counts_simple.ensures ∙ simple_read c.args.cs.now c.args.t.now c.args.e.0 _ c.fields_at-g.ensures.0
