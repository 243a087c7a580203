use borrow.Author.Tests.{not-true, not-false}
use Rattle.labels.specs.Labels.{narrow_read, past_read, wide_read}
use Rattle.labels.proofs.load.Goals as goal

pub returns-then-not-broad : goal.returns-then-not-broad
returns-then-not-broad c = narrow_read c.args.s.now _ c.args.broad _ (c.if-not-broad.true) c.octet.ensures

pub returns-then-s-at : goal.returns-then-s-at
returns-then-s-at c = past_read c.args.s.now _ c.args.broad (c.if-not-broad.false) c.if-s-at.true

pub returns : goal.returns
returns c = wide_read c.args.s.now _ c.args.broad _ _ (c.if-not-broad.false) c.octet-2.ensures c.octet-3.ensures
