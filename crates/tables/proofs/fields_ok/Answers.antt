use mathlib.Core.Path.{refl, sym}
use Rattle.tables.specs.Tables.{field_test, unknown_kind}
use Rattle.tables.proofs.fields_ok.Goals as goal

pub returns-in-0 : goal.returns-in-0
unfolding field_test
returns-in-0 c = rw (c.unused.ensures, c.in-0.is) refl

pub returns-in-1 : goal.returns-in-1
unfolding field_test
returns-in-1 c = rw (c.unused-in-1.ensures, c.in-1.is) refl

pub returns-in-2 : goal.returns-in-2
unfolding field_test
returns-in-2 c = rw (c.both_ok.ensures, c.in-2.is) refl

pub returns-in-3 : goal.returns-in-3
unfolding field_test
returns-in-3 c = rw (c.every_ok.ensures, c.in-3.is) refl

pub returns-in-4 : goal.returns-in-4
unfolding field_test
returns-in-4 c = rw (c.at_least_ok.ensures, c.in-4.is) refl

pub returns-in_default : goal.returns-in_default
returns-in_default c = let r = c.in_default.in_default-own.rest in sym (unknown_kind _ _ _ _ _ _ _ r.0.0.0.0.1 r.0.0.0.1 r.0.0.1 r.0.1 r.1)
