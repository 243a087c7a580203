use Prim.Native.Nat.{◌+◌}
use lib.Dec.{eqb}
use Rattle.std.proofs.Common.{ℕ, rules, refl, ap, ◌∙◌, arith}
use Rattle.std.proofs.lemmas.Iterator.{YieldsList-from_range}
use Rattle.std.proofs.lemmas.Iterator.Search.{all_from_yields_List}
use Rattle.logic.proofs.Ranges.{all_listed}
use Rattle.logic.specs.Bounded.{all_cong}
use Rattle.parts.specs.Numbers.{byte_at}
use Rattle.words.specs.Words.{all_of}
use Rattle.line_reader.specs.TruthSteps.{literal_set}
use Rattle.line_reader.proofs.truth.rules_ok.Goals as goal

pub returns : goal.returns
returns c = let d = c.args.l.now.size in let test = λ (i : ℕ). eqb (literal_set d c.args.t.now (byte_at c.args.qs.now i)) (all_of d) in
    all_from_yields_List test _ _ _ c.all.ensures.ran (YieldsList-from_range 1 _ _ refl refl) (λ x b q e. search rules)
    ∙ all_listed test 1 _ ∙ all_cong _ _ _ (λ i l. ap test {x = 1 + i} {y = i + 1} (omega arith))
