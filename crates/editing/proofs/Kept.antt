-- Drafts that are made by the operations break none of 3 to 8 and keep within the limits (02, job 4).
use Rattle.std.specs.Prelude.{ℕ, suc, ◌≤◌, ◌<◌, ◌≡◌, refl, ◌↔◌, Bool, ◌&&◌, length}
use Rattle.std.proofs.Common.{sym, ◌∙◌, ap, subst, arith, length-set}
use Rattle.std.proofs.Math.Option.{Option, none, some}
use Rattle.logic.specs.Tests.{So, ◌⇒◌, and_r, so_ltb}
use Rattle.logic.specs.Bounded.{all_below, all_intro, all_elim, all_cong}
use Rattle.logic.specs.Lists.{length_snoc}
use Rattle.logic.specs.Refusals.{unless↔}
use Rattle.logic.specs.Sets.{narrow}
use Rattle.logic.specs.SetLaws.{narrow↔}
use Rattle.description.specs.Descriptions.{Description, Entry, top, name, both, every, at_least}
use Rattle.description.specs.Acceptance.{roles_test, entries_test, entry_test, simples_test, distincts_test, everys_test, literal_test}
use Rattle.labels.specs.Labels.{most_entries}
use Rattle.intake.specs.Intake.{most_roles, most_rules}
use Rattle.answers.specs.Answers.{wholly, unless_refused}
use Rattle.editing.specs.Inclusions.{ParentsIn}
use Rattle.editing.specs.Editing.{lone_role, Draft, is_set, describes, role_form, entry_form, query_kept, tests, broken, nothing, Edit}
use Rattle.editing.specs.Editing.{new_role, inclusion, concept, new_root, new_rule, put_in, has_room, in_table, refusal, Made, start, next}

pub broken_is : (T : Draft) → broken T ≡ tests (role_form T) (entry_form T) (query_kept T) (describes T)
unfolding broken
broken_is T = refl

-- what a draft that breaks nothing passes
pub record Passes (T : Draft) : Type 0 where
  pub roles : So (roles_test (role_form T) (describes T))
  pub entries : So (entries_test (entry_form T) (describes T))
  pub simples : So (simples_test (describes T))
  pub distincts : So (distincts_test (describes T))
  pub everys : So (everys_test (describes T))
  pub query : So (query_kept T)

pub passes↔ : (T : Draft) → (broken T ≡ none) ↔ Passes T
unfolding broken
passes↔ T = (
  λ e. let a = (unless↔ (roles_test (role_form T) D) 3 _).0 e in let b = (unless↔ (entries_test (entry_form T) D) 4 _).0 a.1 in
      let c = (unless↔ (simples_test D) 5 _).0 b.1 in let d = (unless↔ (distincts_test D) 6 _).0 c.1 in
      let f = (unless↔ (everys_test D) 7 _).0 d.1 in let g = (unless↔ (query_kept T) 8 none).0 f.1 in
      record { roles = a.0; entries = b.0; simples = c.0; distincts = d.0; everys = f.0; query = g.0 },
  λ p. rw (p.roles, p.entries, p.simples, p.distincts, p.everys, p.query) refl,
)
  where
    D : Description
    D = describes T

-- ---- what is made
-- an operation that is not refused passes its tests, and leaves the draft with it put in
pub done↔ : (T : Draft) (e : Edit) → (refusal T e ≡ none) ↔ (So (has_room T e) × (So (in_table T e) × (broken (put_in T e) ≡ none)))
unfolding refusal
done↔ T e = (
  λ q. let a = (unless↔ (has_room T e) 25 _).0 q in (a.0, (unless↔ (in_table T e) 3 (broken (put_in T e))).0 a.1),
  λ h. (unless↔ (has_room T e) 25 _).1 (h.0, (unless↔ (in_table T e) 3 (broken (put_in T e))).1 h.1),
)

-- what holds at the start, and of what a done operation leaves, holds of all drafts that are made
pub made_ind : (P : Draft → Type 0) → P nothing
    → ((T : Draft) (e : Edit) → P T → refusal T e ≡ none → P (put_in T e)) → (T : Draft) → Made T → P T
made_ind P z s T start = z
made_ind P z s T (next {T = U} e m) = go (made_ind P z s U m) (refusal U e) refl
  where
    go : P U → (o : Option ℕ) → refusal U e ≡ o → P (unless_refused U (put_in U e) (wholly o))
    go k (some n) q = k
    go k none q = s U e k q

pub made_kept : (T : Draft) → Made T → broken T ≡ none
unfolding broken all_below
made_kept = made_ind (λ T. broken T ≡ none) refl (λ T e _ q. ((done↔ T e).0 q).1.1)

pub passed : {T : Draft} → Made T → Passes T
passed {T} m = (passes↔ T).0 (made_kept T m)

-- within the limits
abbrev pub Few : Draft → Type 0
Few T = (length T.roles ≤ most_roles) × (length T.entries ≤ most_entries) × (length T.rules ≤ most_rules)

pub made_few : (T : Draft) → Made T → Few T
made_few = made_ind Few (omega arith, omega arith, omega arith) (λ T e f q. still T e f ((done↔ T e).0 q).0)
  where
    still : (T : Draft) (e : Edit) → Few T → So (has_room T e) → Few (put_in T e)
    still T (new_role t) f h = (
      let l = so_ltb (length T.roles) most_roles h in omega (arith, length_snoc T.roles (lone_role t)),
      f.1,
      f.2,
    )
    still T (inclusion r p) f h = (subst (λ n. n ≤ most_roles) (sym (length-set T.roles r _)) f.0, f.1, f.2)
    still T (concept F) f h = (f.0, let l = so_ltb (length T.entries) most_entries h in omega (arith, length_snoc T.entries F), f.2)
    still T (new_root l) f h = f
    still T (new_rule l) f h = (f.0, f.1, let k = so_ltb (length T.rules) most_rules h in omega (arith, length_snoc T.rules l))

-- an operation that is not refused leaves a draft that is made
pub made_next : (T : Draft) (e : Edit) → Made T → So (has_room T e) → So (in_table T e) → broken (put_in T e) ≡ none → Made (put_in T e)
made_next T e m r i b = subst (λ o. Made (unless_refused T (put_in T e) (wholly o))) ((done↔ T e).1 (r, (i, b))) (next e m)

-- ---- laws for the tests of one operation
-- a test of all up to n, where all below n pass
pub all_last : (n : ℕ) (p : ℕ → Bool) → ((i : ℕ) → i < n → So (p i)) → all_below (suc n) p ≡ p n
unfolding all_below
all_last n p h = rw (all_intro n p h) refl

-- 3 of one role
pub role_fine : (T : Draft) → Passes T → (r : ℕ) → r < (describes T).roles
    → So (role_form T r && narrow ((describes T).parents r) (describes T).roles)
role_fine T P r h = all_elim (describes T).roles _ P.roles r h

pub parents_in : (T : Draft) → Passes T → ParentsIn (describes T)
parents_in T P r h s u = (narrow↔ ((describes T).parents r) (describes T).roles).0 (and_r (role_form T r) _ (role_fine T P r h)) s u

-- 4 of one entry asks of the description only how many roles it has
pub entry_roles : (D E : Description) (e : ℕ) (x : Entry) → D.roles ≡ E.roles → entry_test D e x ≡ entry_test E e x
unfolding entry_test
entry_roles D E e top q = refl
entry_roles D E e name q = refl
entry_roles D E e (both a b) q = refl
entry_roles D E e (every s l) q = rw q refl
entry_roles D E e (at_least s l k) q = rw q refl

-- so the entries, if they stay as they are, keep 4 with as many roles
pub entries_roles : (T : Draft) → Passes T → (E : Description) → E.roles ≡ (describes T).roles
    → So (all_below (describes T).entries (λ e. entry_form T e && entry_test E e ((describes T).entry e)))
entries_roles T P E q = all_cong (describes T).entries _ _ (λ e _.
    ap (λ b. entry_form T e && b) (entry_roles E (describes T) e ((describes T).entry e) q)) ∙ P.entries

-- 8 of the rules
pub rules_kept : (T : Draft) → Passes T → So (all_below (length T.rules) (λ i. literal_test (describes T) ((describes T).rule i)))
rules_kept T P = and_r (is_set T.root ⇒ literal_test (describes T) (describes T).root) _ P.query
