use Rattle.roles.specs.Ancestors.{own_is}
use borrow.Author.Rules.{rules}
use Rattle.roles.proofs.own_mask.Goals as goal

pub returns : goal.returns
returns c = own_is c.args.rs.now _ _ (search rules) (search rules) c.mask2.ensures
