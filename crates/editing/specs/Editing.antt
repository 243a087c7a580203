-- The editor (02, job 4): what has been put in, the operations, what each refuses, and what has been put in after it.
use Rattle.std.specs.Prelude.{ℕ, Bool, true, false, ◌&&◌, List, [], ◌∷◌, ◌++◌, eqb, leb, ltb, length, get_or, set}
use Rattle.std.proofs.Math.Option.{Option, none, some}
use Rattle.logic.specs.Tests.{◌⇒◌}
use Rattle.logic.specs.Bounded.{all_below}
use Rattle.logic.specs.Sets.{with}
use Rattle.logic.specs.Refusals.{unless}
use Rattle.description.specs.Literals.{literal}
use Rattle.description.specs.Descriptions.{Description, Fields, fields_of, top, entry_of_fields, same_fields}
use Rattle.description.specs.Acceptance.{roles_test, entries_test, simples_test, distincts_test, everys_test, literal_test}
use Rattle.labels.specs.Labels.{most_entries}
use Rattle.intake.specs.Intake.{most_roles, most_rules}
use Rattle.answers.specs.Answers.{wholly, unless_refused}

-- ---- a draft
-- a role as it was put in: its transitive byte, and the parents that inclusions gave it, as a mask
pub record RoleIn : Type 0 where
  pub transitive : ℕ
  pub parents : ℕ

-- a role without parents
abbrev pub lone_role : ℕ → RoleIn
lone_role t = record { transitive = t; parents = 0 }

-- what has been put in, in that order
pub record Draft : Type 0 where
  pub roles : List RoleIn
  pub entries : List Fields
  pub root : Option ℕ
  pub rules : List ℕ

-- the start: nothing is in it
abbrev pub nothing : Draft
nothing = record { roles = []; entries = []; root = none; rules = [] }

-- role r, and the fields of entry e
abbrev pub role_in : Draft → ℕ → RoleIn
role_in T r = get_or T.roles r (lone_role 0)

abbrev pub fields_in : Draft → ℕ → Fields
fields_in T e = get_or T.entries e (fields_of top)

-- whether a root is set, and which
abbrev pub is_set : Option ℕ → Bool
is_set none = false
is_set (some l) = true

abbrev pub root_of : Option ℕ → ℕ
root_of none = 0
root_of (some l) = l

-- the description so far, of three parts; where no root is set, literal 0 stands for it
abbrev pub describes : Draft → Description
describes T = record {
  roles = length T.roles;
  transitive = λ r. eqb (role_in T r).transitive 1;
  parents = λ r. (role_in T r).parents;
  entries = length T.entries;
  entry = λ e. entry_of_fields (fields_in T e);
  root = literal (root_of T.root);
  rules = length T.rules;
  rule = λ i. literal (get_or T.rules i 0);
  disjoints = 0;
  disjoint = λ i. record { one = 0; other = 0 };
  fourth = false;
}

-- ---- 3 to 8, as for the bytes of a description
-- what is in 3 and 4 beside the description: a transitive byte of 0 or 1; fields that are those of an entry
abbrev pub role_form : Draft → ℕ → Bool
role_form T r = leb (role_in T r).transitive 1

abbrev pub entry_form : Draft → ℕ → Bool
entry_form T e = same_fields (fields_in T e) (fields_of (entry_of_fields (fields_in T e)))

-- 8: a root that is set, and the rules, are literals of the table
abbrev pub query_kept : Draft → Bool
query_kept T = (is_set T.root ⇒ literal_test (describes T) (describes T).root)
    && all_below (length T.rules) (λ i. literal_test (describes T) ((describes T).rule i))

-- the first of 3 to 8 that refuses a description, with what 3, 4 and 8 ask beside it; and so of a draft
abbrev pub tests : (ℕ → Bool) → (ℕ → Bool) → Bool → Description → Option ℕ
tests role_form entry_form query D =
    unless (roles_test role_form D) 3 (unless (entries_test entry_form D) 4
    (unless (simples_test D) 5 (unless (distincts_test D) 6 (unless (everys_test D) 7 (unless query 8 none)))))

unfoldable pub broken : Draft → Option ℕ
broken T = tests (role_form T) (entry_form T) (query_kept T) (describes T)

-- ---- the operations: add a role, an inclusion of r in p, a concept; set the root; add a rule
pub data Edit : Type 0 where
  new_role : (transitive : ℕ) → Edit
  inclusion : (r p : ℕ) → Edit
  concept : Fields → Edit
  new_root : (l : ℕ) → Edit
  new_rule : (l : ℕ) → Edit

-- the draft with it put in: a role comes without parents, an inclusion adds bit p to the parents of r (p may be r), the last root counts
abbrev pub put_in : Draft → Edit → Draft
put_in T (new_role t) = record {
  roles = T.roles ++ (lone_role t ∷ []);
  entries = T.entries;
  root = T.root;
  rules = T.rules;
}
put_in T (inclusion r p) = record {
  roles = set T.roles r (record { transitive = (role_in T r).transitive; parents = with (role_in T r).parents p });
  entries = T.entries;
  root = T.root;
  rules = T.rules;
}
put_in T (concept F) = record { roles = T.roles; entries = T.entries ++ (F ∷ []); root = T.root; rules = T.rules }
put_in T (new_root l) = record { roles = T.roles; entries = T.entries; root = some l; rules = T.rules }
put_in T (new_rule l) = record { roles = T.roles; entries = T.entries; root = T.root; rules = T.rules ++ (l ∷ []) }

-- 25: the table that grows has not reached its limit
abbrev pub has_room : Draft → Edit → Bool
has_room T (new_role t) = ltb (length T.roles) most_roles
has_room T (inclusion r p) = true
has_room T (concept F) = ltb (length T.entries) most_entries
has_room T (new_root l) = true
has_room T (new_rule l) = ltb (length T.rules) most_rules

-- 3: both roles of an inclusion are there
abbrev pub in_table : Draft → Edit → Bool
in_table T (new_role t) = true
in_table T (inclusion r p) = ltb r (length T.roles) && ltb p (length T.roles)
in_table T (concept F) = true
in_table T (new_root l) = true
in_table T (new_rule l) = true

-- 25 comes first; then the lowest number of 3 to 8 that the draft would break with it
unfoldable pub refusal : Draft → Edit → Option ℕ
refusal T e = unless (has_room T e) 25 (unless (in_table T e) 3 (broken (put_in T e)))

-- the draft after it: on a refusal all is as before
abbrev pub edited : Draft → Edit → Draft
edited T e = unless_refused T (put_in T e) (wholly (refusal T e))

-- the drafts that the operations make, from the start on
pub data Made : Draft → Type 0 where
  start : Made nothing
  next : {T : Draft} (e : Edit) → Made T → Made (edited T e)
