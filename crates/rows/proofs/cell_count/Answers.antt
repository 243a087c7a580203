use Prim.Native.Nat.{ℕ, zero, suc, ◌^◌, ◌≤◌}
use mathlib.Core.List.{◌∷◌, []}
use mathlib.Core.Path.{◌≡◌, refl, ◌∙◌, ap}
use native.Mathlib.Omega.{arith}
use lib.ListN.{get_or}
use Rattle.rows.proofs.cell_count.Goals as goal

-- the table has the powers of 2
powers : (n : ℕ) → n ≤ 6 → let t = get_or {A = ℕ} (1 ∷ 2 ∷ 4 ∷ 8 ∷ 16 ∷ 32 ∷ 64 ∷ []) n 0 in (t ≡ 2 ^ n) × (t ≤ 64)
powers zero h = (refl, omega arith)
powers (suc zero) h = (refl, omega arith)
powers (suc (suc zero)) h = (refl, omega arith)
powers (suc (suc (suc zero))) h = (refl, omega arith)
powers (suc (suc (suc (suc zero)))) h = (refl, omega arith)
powers (suc (suc (suc (suc (suc zero))))) h = (refl, omega arith)
powers (suc (suc (suc (suc (suc (suc zero)))))) h = (refl, omega arith)
powers (suc (suc (suc (suc (suc (suc (suc n))))))) h = absurd (omega arith)

pub returns : goal.returns
returns c = let u = c.up_to.ensures in let p = powers c.up_to.result (omega (arith, u.1)) in (p.0 ∙ ap (λ n. 2 ^ n) u.0, p.1)
