use mathlib.Core.Bool.{not, ◌&&◌}
use Rattle.std.proofs.Common.{rules}
use Rattle.evidence.specs.Evidence.{label_of}
use Rattle.fillers.specs.Gathered.{in_mask, in_word, both_read}
use Rattle.fillers.proofs.targets.Targets.all_have_both.Goals as goal

pub returns : goal.returns
returns c = let t = c.args.self.now in let masks = t.rows.now.masks in let words = t.rows.now.words in let p = c.role_place-p.result in let from = c.from_of-from.result in let i = c.place_no-i.result in
    both_read (label_of t.s.layout t.s.bytes.now) t.es.now masks words t.gathered c.args.r.0 c.args.l p from i c.role_place-p.ensures.0 c.from_of-from.ensures.0 c.place_no-i.ensures.0
    c.args.m c.from_of-next.result c.place_no-o.result _ c.from_of-next.ensures.0 c.place_no-o.ensures.0
    (c.some_place.ensures (λ j. in_mask masks p j && not (in_word words from i j && in_word words c.from_of-next.result c.place_no-o.result j)) (λ j w h e. search rules))
