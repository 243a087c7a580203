use Prim.Native.Nat.{ℕ}
use mathlib.Core.Path.{◌≡◌, sym, ◌∙◌, ap}
use mathlib.Core.Bool.{Bool, true, false, cond, ◌&&◌}
use mathlib.Core.List.{List}
use mathlib.Core.Option.{Option, none, some}
use Rattle.tables.specs.Tables.{records_in}
use Rattle.roles.specs.Records.{MasksOf}
use Rattle.answers.specs.Answers.{REFUSED, HOLDS, FAILS, answer, numbered}
use Rattle.intake.specs.Intake.{AcceptedParts}
use Rattle.line_reader.specs.Order.{model_read, line_refused, line_answer, line_answered}
use Rattle.line_reader.proofs.read_line.Goals.{After-plain_ok-rest}
use Rattle.line_reader.proofs.read_line.Goals as goal

pub returns-in_default : goal.returns-in_default
returns-in_default c = let g = c.args in λ p A m. ap (λ r. answer REFUSED (some (numbered r))) c.whole.ensures ∙ line_refused g.rs.now g.cs.now g.qs.now p g.s.now (sym (c.in_default.ensures.form g.qs.now p))

-- what both parts of the reading say together
read : (c : After-plain_ok-rest) (b : Bool) → (c.separated_ok-apart.result && c.plain_ok-rest.result) ≡ b → let g = c.args in (p : Option (List ℕ))
    → AcceptedParts g.rs.now g.cs.now g.qs.now p → MasksOf g.rs.now (records_in p) g.a.now
    → answer (cond b HOLDS FAILS) none ≡ line_answer g.rs.now g.cs.now g.qs.now p g.s.now
read c b e p A m = let g = c.args in let l = c.in-Some.line in let f = c.in-Some.ensures.line in
    line_answered g.rs.now g.cs.now g.qs.now p l.bytes.now l.broad l.size b (f.1 ∙ c.is_wide.ensures)
    (rw f.0 (sym (c.in-Some.ensures.form g.qs.now p))) (rw f.0 f.2)
    (sym e ∙ model_read g.rs.now g.cs.now g.qs.now p l.bytes.now l.broad l.rows l.size l.behind A.2 g.a.now _ _ m A.0 A.3 f.3
    c.separated_ok-apart.ensures (c.plain_ok-rest.ensures p A.2))
    ∙ ap (line_answer g.rs.now g.cs.now g.qs.now p) f.0

pub returns-then-holds : goal.returns-then-holds
returns-then-holds c = read (goal.at.returns-then-holds c).After-plain_ok-rest true c.if-holds.true

pub returns-else-holds : goal.returns-else-holds
returns-else-holds c = read (goal.at.returns-else-holds c).After-plain_ok-rest false c.if-holds.false
