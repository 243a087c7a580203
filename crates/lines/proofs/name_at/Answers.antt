use Rattle.std.proofs.Common.{ℕ, ◌+◌, ◌*◌, ◌≤◌, ap₂, arith, mul-le-mul}
use Rattle.lines.proofs.name_at.Goals as goal

few : (a b k x : ℕ) → k ≤ a → x ≤ b → k * x ≤ a * b
few a b k x h l = mul-le-mul h l

pub overflow_mul-result : goal.overflow_mul-result
overflow_mul-result c = let h = few 8 255 c.name_bytes.result c.from.result (omega arith) (omega arith) in omega arith

pub overflow_add-result : goal.overflow_add-result
overflow_add-result c = let h = few 8 255 c.name_bytes.result c.from.result (omega arith) (omega arith) in omega arith

pub returns : goal.returns
returns c = let h = few 8 255 c.name_bytes.result c.from.result (omega arith) (omega arith) in
    (ap₂ (λ w n. 1 + w * n) c.name_bytes.ensures.0 c.from.ensures, omega arith)
