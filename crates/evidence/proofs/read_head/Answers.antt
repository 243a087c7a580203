use mathlib.Core.Path.{sym, ◌∙◌}
use Rattle.evidence.specs.Evidence.{head_graph, head_refutation, head_off, head_told}
use Rattle.evidence.proofs.read_head.Goals as goal

pub returns-then-byte-eq1 : goal.returns-then-byte-eq1
returns-then-byte-eq1 c = head_told _ _ (head_graph c.args.s.now (sym c.head_ok.ensures ∙ c.if-head_ok.true) (sym c.byte.ensures ∙ c.if-byte-eq1.true) _ c.byte-then-byte-eq1.ensures)

pub returns-else-byte-eq1 : goal.returns-else-byte-eq1
returns-else-byte-eq1 c = head_told _ _ (head_refutation c.args.s.now (sym c.head_ok.ensures ∙ c.if-head_ok.true) (λ e. c.if-byte-eq1.false (c.byte.ensures ∙ e)) _ c.byte-else-byte-eq1.ensures)

pub returns-else-head_ok : goal.returns-else-head_ok
returns-else-head_ok c = head_told _ _ (head_off c.args.s.now (sym c.head_ok.ensures ∙ c.if-head_ok.false))
