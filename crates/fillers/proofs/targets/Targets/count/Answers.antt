use mathlib.Core.Path.{◌∙◌, ap, ap₂}
use mathlib.Core.Bool.{◌&&◌}
use native.Mathlib.Omega.{arith}
use lib.ListN.{get_or}
use Rattle.logic.specs.Sums.{only}
use Rattle.evidence.specs.Evidence.{label_of}
use Rattle.fillers.specs.FillerSteps.{sum_none, sum_more, sum_done}
use Rattle.fillers.specs.Gathered.{fillers_read}
use Rattle.fillers.proofs.targets.Targets.count.Goals as goal

pub loop-j-init : goal.loop-j-init
loop-j-init c = (omega arith, sum_none _)

pub loop-j-preserved : goal.loop-j-preserved
loop-j-preserved c = let v = c.loop-j.invariant in let g = c.args in (
  omega arith,
  sum_more _ c.loop-j.j _ v.1 _ (c.count_if-sum.ensures.0 ∙ ap (λ b. only b (get_or g.self.now.rows.now.counts c.loop-j.j 0))
      (c.with-found.ensures ∙ ap₂ ◌&&◌ c.edge.ensures c.target.ensures)),
)

pub returns : goal.returns
returns c = let t = c.args.self.now in let rows = t.rows.now in
    fillers_read (label_of t.s.layout t.s.bytes.now) t.es.now rows.masks rows.words t.gathered c.args.r.0 c.args.l _ _ _ c.role_place-p.ensures.0 c.from_of-from.ensures.0 c.place_no-i.ensures.0
    rows.counts t.counted _ (sum_done _ c.loop-j.j _ c.loop-j.invariant.1 _ (omega arith) (omega arith))
