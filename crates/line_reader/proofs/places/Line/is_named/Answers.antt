use mathlib.Core.Path.{◌∙◌, ap, sym, subst}
use Rattle.logic.specs.Sets.{has}
use Rattle.labels.specs.Labels.{names_in}
use Rattle.lines.specs.Numerals.{Numeral}
use Rattle.lines.proofs.Numerals.{names}
use Rattle.line_reader.proofs.places.Line.is_named.Goals as goal

pub returns : goal.returns
returns c = let l = c.args.self.now in
    c.bit_at.ensures (names_in l.broad)
    (subst (λ w. Numeral w (names_in l.broad)) (sym c.name_bytes.ensures.0) (names l.broad))
    ∙ ap (λ n. has (names_in l.broad l.bytes.now n) c.args.e) c.name_at.ensures.0
