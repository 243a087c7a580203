-- Cites: only earlier records (refusal 16), and labels with literals put in (01, "Evidence", Closing list).
use Rattle.std.specs.Prelude as Rust
use Rattle.std.specs.Prelude.{Some, None, Ok, Err, ok_or, is_some, ℕ, ◌^◌, ◌≤◌, ◌<◌, ◌≡◌, refl, Bool, cond, ltb}
use Rattle.std.proofs.Common.{sym, ◌∙◌, ap, lt-ltb, le-ltb}
use Rattle.std.proofs.Math.Logic.{inl, inr}
use Rattle.std.proofs.Math.Bool.{true, false}
use native.Mathlib.Omega.{arith}
use Rattle.std.proofs.Math.Decide.{dec_lt}
use Rattle.std.proofs.Math.Option.{Option, none, some}
use Rattle.logic.specs.Tests.{So, same_test}
use Rattle.logic.specs.Refusals.{unless}
use Rattle.logic.specs.Sets.{has, within, with}
use Rattle.logic.specs.SetLaws.{has_lt, within↔, with↔}
use Rattle.description.specs.Literals.{Literal, pos, neg, literal, code, code_literal, literal_code, adding}
use Rattle.description.specs.Descriptions.{Description}
use Rattle.refutation.specs.Records.{Step}
use Rattle.refutation.specs.RecordTests.{cite_test, step_test}
use Rattle.labels.specs.Labels.{most_entries, most_literals, label_with}

-- what record i finds where it cites record j
unfoldable pub cite_of : ℕ → ℕ → Rust.Option ℕ
cite_of i j = cond (ltb j i) (Some j) None

-- the paper's number of each case
abbrev pub cite_refusal : Rust.Option ℕ → Option ℕ
cite_refusal (Some j) = none
cite_refusal None = some 16

-- entry e, or its complement
abbrev pub of_entry : ℕ → Bool → Literal
of_entry e true = neg e
of_entry e false = pos e

-- 16, then 17, of a step: what it names exists, and the label follows by it (10, 18 and 19 stand beside)
unfoldable pub named_refusal : Description → (ℕ → ℕ) → ℕ → ℕ → Step → Option ℕ
named_refusal D num i N x = unless (cite_test D num i N x) 16 (unless (step_test D num i N x) 17 none)

-- ---- laws for the code
pub cite_earlier : (i j : ℕ) → j < i → Some j ≡ cite_of i j
unfolding cite_of
cite_earlier i j h = rw (lt-ltb j i h) refl

pub cite_bad : (i j : ℕ) → i ≤ j → None ≡ cite_of i j
unfolding cite_of
cite_bad i j h = rw (le-ltb j i h) refl

pub cite_told : (i j : ℕ) (x : Rust.Option ℕ) → x ≡ cite_of i j → (x ≡ cite_of i j) × (cite_refusal x ≡ unless (ltb j i) 16 none)
unfolding cite_of
cite_told i j x e = (e, ap cite_refusal e ∙ go (ltb j i))
  where
    go : (b : Bool) → cite_refusal (cond b (Some j) None) ≡ unless b 16 none
    go true = refl
    go false = refl

-- and what the answer says
pub is_earlier : (i j c : ℕ) (x : Rust.Option ℕ) → x ≡ cite_of i j → x ≡ Some c → (ltb j i ≡ true) × (c ≡ j)
unfolding cite_of
is_earlier i j c x e q = go (ltb j i) (sym q ∙ e)
  where
    go : (b : Bool) → Some c ≡ cond b (Some j) None → (b ≡ true) × (c ≡ j)
    go true h = (refl, cc)
    go false h = absurd (let z : ◌≡◌ {A = ℕ} 0 1 = cc in omega arith)

pub is_bad : (i j : ℕ) (x : Rust.Option ℕ) → x ≡ cite_of i j → x ≡ None → ltb j i ≡ false
unfolding cite_of
is_bad i j x e q = go (ltb j i) (sym q ∙ e)
  where
    go : (b : Bool) → None ≡ cond b (Some j) None → b ≡ false
    go true h = absurd (let z : ◌≡◌ {A = ℕ} 0 1 = cc in omega arith)
    go false h = refl

pub cite_there : (i j : ℕ) (x : Rust.Option ℕ) (t : Bool) → x ≡ cite_of i j → t ≡ is_some x → ltb j i ≡ t
unfolding cite_of
cite_there i j x t e q = sym (q ∙ ap is_some e ∙ go (ltb j i))
  where
    go : (b : Bool) → is_some (cond b (Some j) None) ≡ b
    go true = refl
    go false = refl

-- the same where a refusal r stands for a cite that is bad
pub cite_ok : {E : Type 0} (i j c : ℕ) (x : Rust.Option ℕ) (r : E) → x ≡ cite_of i j → Ok c ≡ ok_or x r → (ltb j i ≡ true) × (c ≡ j)
cite_ok i j c None r e q = absurd (let z : ◌≡◌ {A = ℕ} 0 1 = cc in omega arith)
cite_ok i j c (Some d) r e q = is_earlier i j c (Some d) e cc

pub cite_err : {E : Type 0} (i j : ℕ) (x : Rust.Option ℕ) (r z : E) → x ≡ cite_of i j → Err z ≡ ok_or x r → (ltb j i ≡ false) × (z ≡ r)
cite_err i j None r z e q = (is_bad i j None e refl, cc)
cite_err i j (Some d) r z e q = absurd (let z : ◌≡◌ {A = ℕ} 0 1 = cc in omega arith)

-- a label asks nothing of the literals past its room
module _ (M : ℕ) (few : M < 2 ^ most_literals) where
  same_within : (A B : ℕ) → ((i : ℕ) → i < most_literals → (So (has A i) → So (has B i)) × (So (has B i) → So (has A i))) → within M A ≡ within M B
  same_within A B e = same_test _ _
      (λ h. (within↔ M B).1 (λ i u. (e i (has_lt most_literals M i few u)).0 ((within↔ M A).0 h i u)))
      (λ h. (within↔ M A).1 (λ i u. (e i (has_lt most_literals M i few u)).1 ((within↔ M B).0 h i u)))

  -- the label with a literal put in, as the code has it
  with_room : (A B l i : ℕ) → i < most_literals → (So (has A i) → So (has B i)) × (So (has B i) → So (has A i))
      → (So (has (label_with A l) i) → So (has (with B l) i)) × (So (has (with B l) i) → So (has (label_with A l) i))
  unfolding label_with
  with_room A B l i h e = elim (dec_lt l most_literals) [
    | yes g ↦ rw (lt-ltb l most_literals g) (
      λ u. (with↔ B l i).1 (elim ((with↔ A l i).0 u) [ inl v ↦ inl (e.0 v) | inr v ↦ inr v ]),
      λ u. (with↔ A l i).1 (elim ((with↔ B l i).0 u) [ inl v ↦ inl (e.1 v) | inr v ↦ inr v ]),
    )
    | no g ↦ rw (le-ltb l most_literals (let z : most_literals ≤ l = omega arith in z)) (
      λ u. (with↔ B l i).1 (inl (e.0 u)),
      λ u. elim ((with↔ B l i).0 u) [ inl v ↦ e.1 v | inr v ↦ absurd (omega arith) ],
    )
  ]

  pub one_put : (K N P a : ℕ) → M ≡ K → P ≡ label_with N a → within M P ≡ within K (adding N (literal a))
  unfolding adding
  one_put K N P a k p = rw (p, ← k, code_literal a) (same_within (label_with N a) (with N a) (λ i h. with_room N N a i h (λ u. u, λ u. u)))

  pub two_put : (K N P Q a b : ℕ) → M ≡ K → P ≡ label_with N a → Q ≡ label_with P b → within M Q ≡ within K (adding (adding N (literal a)) (literal b))
  unfolding adding
  two_put K N P Q a b k p q = rw (q, p, ← k, code_literal a, code_literal b)
      (same_within (label_with (label_with N a) b) (with (with N a) b) (λ i h. with_room (label_with N a) (with N a) b i h (with_room N N a i h (λ u. u, λ u. u))))

  pub none_put : (K N e : ℕ) (denied : Bool) → M ≡ K → most_entries ≤ e → within M N ≡ within K (adding N (of_entry e denied))
  unfolding adding
  none_put K N e denied k h = rw (← k) (same_within N (with N (code (of_entry e denied))) (λ i g.
      (λ u. (with↔ N (code (of_entry e denied)) i).1 (inl u), λ u. elim ((with↔ N (code (of_entry e denied)) i).0 u) [ inl v ↦ v | inr v ↦ absurd (past denied i g v) ])))
    where
      past : (denied : Bool) (i : ℕ) → i < most_literals → i ≡ code (of_entry e denied) → ⊥
      past true i g v = omega arith
      past false i g v = omega arith

-- an entry and its complement by number
pub case_put : (K N e l : ℕ) (denied : Bool) → l ≡ code (of_entry e denied) → within K (adding N (literal l)) ≡ within K (adding N (of_entry e denied))
case_put K N e l denied p = rw (p, literal_code (of_entry e denied)) refl
