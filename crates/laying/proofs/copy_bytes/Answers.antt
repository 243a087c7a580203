use Rattle.std.proofs.Common.{◌≡◌, refl, sym, ap, ◌∙◌, ◌+◌, length, get_or, arith, add-one, length-set}
use Rattle.std.proofs.Math.ListN.{set}
use Rattle.std.proofs.Math.Seq.{paste, paste-zero, paste-suc}
use Rattle.std.proofs.lemmas.Bool.{leb-true}
use Rattle.laying.specs.Laying.{laid_past, laid_fits, laid_copied}
use Rattle.laying.proofs.copy_bytes.Goals as goal

pub returns-then-not-has_room : goal.returns-then-not-has_room
returns-then-not-has_room c = laid_past _ _ _ (sym c.has_room.ensures ∙ c.if-not-has_room.true)

pub loop-i-init : goal.loop-i-init
loop-i-init c = let a = c.args in (
  refl,
  paste-zero a.buf.now a.at a.src.now,
  leb-true (a.at + length a.src.now) (length a.buf.now) (sym c.has_room.ensures ∙ c.if-not-has_room.false),
)

pub loop-i-preserved : goal.loop-i-preserved
loop-i-preserved c = let l = c.loop-i in let v = l.invariant in let a = c.args in (
  length-set l.buf _ _ ∙ v.0,
  ap (λ b. set b (a.at + l.i) (get_or a.src.now l.i 0)) v.1
      ∙ paste-suc a.buf.now a.at a.src.now l.i 0 (omega arith) (omega arith)
      ∙ ap (paste a.buf.now a.at a.src.now) (sym (add-one l.i)),
  v.2,
)

pub shape_of-buf : goal.shape_of-buf
shape_of-buf c = c.loop-i.invariant.0

pub returns : goal.returns
returns c = let v = c.loop-i in let a = c.args in let z : v.i ≡ length a.src.now = omega arith in
    v.invariant.1 ∙ ap (paste a.buf.now a.at a.src.now) z
    ∙ laid_copied a.buf.now a.at a.src.now ∙ sym (laid_fits a.buf.now a.at a.src.now v.invariant.2)
