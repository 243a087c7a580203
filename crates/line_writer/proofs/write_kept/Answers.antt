use Prim.Native.Nat.{◌≤◌}
use mathlib.Core.Path.{◌≡◌, ap}
use native.Mathlib.Omega.{arith}
use Rattle.line_writer.specs.WriteOrder.{size_in, size_read, some_copy, copies_few, told_of, too_big, too_short_lem, laid_out}
use Rattle.line_writer.proofs.write_kept.Goals.{After-element_count-size}
use Rattle.line_writer.specs.WriteSteps.{transitives_in}
use Rattle.line_writer.proofs.write_kept.Goals as goal

-- the number of elements, and of copies
size_is : (c : After-element_count-size) → c.element_count-size.result ≡ size_in c.layout_of.result c.args.s.now
size_is c = size_read c.layout_of.result c.args.s.now _ _ _ c.byte-n.ensures c.most_copies-k.ensures.0 c.element_count-size.ensures

some : (c : After-element_count-size) → 1 ≤ c.most_copies-k.result
some c = some_copy c.layout_of.result c.args.s.now _ _ c.most_copies-k.ensures.0

few : (c : After-element_count-size) → c.most_copies-k.result ≤ c.element_count-size.result
few c = copies_few c.byte-n.result c.most_copies-k.result _ (let b = c.byte-n.ensures in omega arith) c.element_count-size.ensures

pub returns-then-size-gt-MOST_ELEMENTS : goal.returns-then-size-gt-MOST_ELEMENTS
returns-then-size-gt-MOST_ELEMENTS c = let a = c.args in rw c.whole.ensures
    (told_of (transitives_in a.o.now.masks a.o.now.count) a.o.now.concepts.now c.layout_of.result a.s.now a.o.now.masks a.buf.now _ _ c.layout_of.ensures
    (too_big (transitives_in a.o.now.masks a.o.now.count) a.o.now.concepts.now c.layout_of.result a.s.now a.o.now.masks a.buf.now _
    (size_is (goal.at.returns-then-size-gt-MOST_ELEMENTS c).After-element_count-size) (omega arith)))

pub overflow_cast-p : goal.overflow_cast-p
overflow_cast-p c = omega arith

pub overflow_cast-p-2 : goal.overflow_cast-p-2
overflow_cast-p-2 c = let h = few (goal.at.overflow_cast-p-2 c).After-element_count-size in omega arith

pub invariant_of-p : goal.invariant_of-p
invariant_of-p c = record { some = some (goal.at.invariant_of-p c).After-element_count-size; width = ap (λ g. g.wide) c.layout_of.ensures }

pub returns-then-buf-len : goal.returns-then-buf-len
returns-then-buf-len c = let a = c.args in rw c.whole-then-buf-len.ensures
    (told_of (transitives_in a.o.now.masks a.o.now.count) a.o.now.concepts.now c.layout_of.result a.s.now a.o.now.masks a.buf.now _ _ c.layout_of.ensures
    (too_short_lem (transitives_in a.o.now.masks a.o.now.count) a.o.now.concepts.now c.layout_of.result a.s.now a.o.now.masks a.buf.now _
    (size_is (goal.at.returns-then-buf-len c).After-element_count-size) (omega arith) (omega arith)))

pub lay_line-requires : goal.lay_line-requires
lay_line-requires c = let l = c.len-len.ensures in omega arith

pub returns : goal.returns
returns c = let a = c.args in
    told_of (transitives_in a.o.now.masks a.o.now.count) a.o.now.concepts.now c.layout_of.result a.s.now a.o.now.masks a.buf.now _ _ c.layout_of.ensures
    (laid_out (transitives_in a.o.now.masks a.o.now.count) a.o.now.concepts.now c.layout_of.result a.s.now a.o.now.masks a.buf.now _
    (size_is (goal.at.returns c).After-element_count-size) _ _ _ c.len-len.result c.byte-n.ensures c.most_copies-k.ensures.0 c.len-len.ensures
    (omega arith) (omega arith) (rw c.transitive_roles.ensures at c.lay_line.ensures))
