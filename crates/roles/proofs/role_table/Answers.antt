use Rattle.std.proofs.Common.{rules, get_or}
use Rattle.roles.specs.Records.{no_role, record_with, complex_from, record_made, table_made}
use Rattle.roles.proofs.Filled.{filled}
use Rattle.roles.proofs.role_table.Goals as goal

pub returns : goal.returns
returns c = let anc = c.ancestors-a.ensures in
    let e = complex_from _ c.ancestors-a.result _ anc c.complex_roles-complex.ensures in
    table_made _ _ (search rules) (λ i h. record_made _ c.ancestors-a.result _ _ _ anc e h
    (filled _ no_role (λ i. record_with c.args.rs.now c.complex_roles-complex.result i (get_or c.ancestors-a.result i 0))
    (λ x y q l e. search rules) c.from_fn.ensures.items i h))
