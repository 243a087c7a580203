use Rattle.std.proofs.Common.{ℕ, Bool, rules, refl, sym, ◌∙◌, ap, eqb}
use Rattle.std.proofs.lemmas.Iterator.{YieldsList-from_range}
use Rattle.logic.proofs.Ranges.{all_range}
use Rattle.logic.specs.Bounded.{all_below, any_below}
use Rattle.tables.specs.Tables.{entry_count}
use Rattle.tables.specs.Concepts.{fields_struct}
use Rattle.roles.specs.Records.{role_at}
use Rattle.entry_tests.specs.Everys.{every_at, every_by, everys_by, none_asked}
use Rattle.entry_tests.proofs.everys.everys_ok.Goals as goal

pub returns-then-not-some_transitive : goal.returns-then-not-some_transitive
returns-then-not-some_transitive c = let g = c.args in
    sym (none_asked g.cs.now g.t.now _ (ap (λ n. any_below n (λ i. eqb (role_at g.t.now i).transitive 1)) (sym c.up_to-k.ensures.0)
    ∙ sym c.some_transitive.ensures ∙ c.if-not-some_transitive.true))

pub returns : goal.returns
returns c = let g = c.args in
    let test : ℕ → Bool = λ e. every_by (fields_struct g.cs.now e) c.lower_roles-lower.result c.everys_of-held.result in
    all_range test _ _ _ _ c.all.ensures.ran (YieldsList-from_range 0 _ _ refl refl) (λ x b q e. search rules)
    ∙ ap (λ m. all_below m test) c.entry_count.ensures.0
    ∙ everys_by g.cs.now g.t.now _ _ _ c.lower_roles-lower.ensures c.everys_of-held.ensures
    ∙ ap (λ n. all_below (entry_count g.cs.now) (every_at g.cs.now g.t.now n)) c.up_to-k.ensures.0
