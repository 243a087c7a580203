use mathlib.Core.Path.{◌∙◌, ◌≡◌, ap, sym, subst}
use mathlib.Core.Option.{none}
use Rattle.std.proofs.lemmas.Result.{err_from_is_err_and}
use Rattle.tables.specs.Tables.{records_in}
use Rattle.roles.specs.Records.{MasksOf}
use Rattle.directory.specs.Directory.{disjoint_part}
use Rattle.answers.specs.Answers.{refusal_of, wholly}
use Rattle.intake.specs.Intake.{AcceptedParts, bytes_test}
use Rattle.line_reader.specs.Order.{read_ready, read_opened, read_refused}
use Rattle.line_reader.proofs.read_interpretation.Goals.{After-query_part}
use Rattle.line_reader.proofs.read_interpretation.Goals as goal

pub returns-in_err-o : goal.returns-in_err-o
returns-in_err-o c = let p = err_from_is_err_and c.from_residual.result c.from_residual.ensures.1 in
    rw (p.1, p.2) (read_refused c.args.d.now c.args.s.now _ (sym (ap refusal_of c.in_err-o.was) ∙ c.open_description-o.ensures.tested))

tested : (c : After-query_part) → none ≡ wholly (bytes_test c.args.d.now)
tested c = sym (ap refusal_of c.in_ok-o.was) ∙ c.open_description-o.ensures.tested

ready : (c : After-query_part) → AcceptedParts c.roles_part.result.now c.concepts_part.result.now c.query_part.result.now (disjoint_part c.args.d.now)
ready c = read_ready c.args.d.now c.args.s.now (tested c) _ _ _ c.roles_part.ensures c.concepts_part.ensures c.query_part.ensures

pub read_line-requires : goal.read_line-requires
read_line-requires c = let k = ready (goal.at.read_line-requires c).After-query_part in (k.0, k.1)

pub returns : goal.returns
returns c = let d = c.args.d.now in let w = (goal.at.returns c).After-query_part in
    c.read_line.ensures (disjoint_part d) (ready w)
    (subst (λ rs. MasksOf rs (records_in (disjoint_part d)) c.open_description-o.result.masks) (sym c.roles_part.ensures) c.open_description-o.ensures.masks)
    ∙ read_opened d c.args.s.now (tested w) _ _ _ c.roles_part.ensures c.concepts_part.ensures c.query_part.ensures
