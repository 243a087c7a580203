use Rattle.std.proofs.Common.{rules}
use Rattle.roles.specs.Records.{mask_of, masks_made}
use Rattle.roles.proofs.Filled.{filled}
use Rattle.roles.proofs.role_masks.Goals as goal

pub returns : goal.returns
returns c = masks_made _ _ _ (search rules) (filled _ 0 (mask_of c.args.t.now c.args.ps.now) (λ x y q l e. search rules) c.from_fn.ensures.items)
