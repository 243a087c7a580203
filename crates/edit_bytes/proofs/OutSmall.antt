-- What the editor writes out of a draft that is made is bytes (02, job 4): no number in it exceeds the bytes that it has.
use Prim.Native.Nat.{ℕ, ◌+◌, ◌≤◌, ◌<◌}
use Rattle.std.proofs.Common.{sym, arith}
use Rattle.std.proofs.Math.Path.{subst}
use mathlib.Core.List.{List}
use Rattle.std.proofs.Math.Option.{Option, none, some}
use Rattle.std.proofs.Math.ListN.{length}
use Rattle.logic.specs.Tests.{So, ◌⇒◌, and_l, and_r, so_leb, so_ltb}
use Rattle.logic.specs.Bounded.{all_elim}
use Rattle.logic.specs.Lists.{member_at}
use Rattle.logic.specs.SetLaws.{lt_has}
use Rattle.laying.specs.Places.{each_map, Byte, Small, small_more, small_append, small_flatten}
use Rattle.laying.specs.Numbers.{two}
use Rattle.laying.proofs.Numbers.{two_bytes}
use Rattle.description.specs.Literals.{Literal, code, literal, code_literal, code_entry, entry_of}
use Rattle.description.specs.Descriptions.{Description, Entry, top, name, both, every, at_least, fields_of, same_fields↔}
use Rattle.description.specs.Acceptance.{EntryOk, literal_test}
use Rattle.description.proofs.Acceptance.{entry↔}
use Rattle.labels.specs.Labels.{most_entries}
use Rattle.intake.specs.Intake.{most_roles}
use Rattle.editing.specs.Editing.{lone_role, Draft, role_in, fields_in, is_set, root_of, describes, role_form, entry_form, Made}
use Rattle.editing.proofs.Kept.{Passes, passed, Few, made_few, role_fine, parents_in, rules_kept}
use Rattle.edit_bytes.specs.Out.{role_bytes, entry_bytes, roles_out, concepts_out, query_out, pair, out_bytes}
use Rattle.edit_bytes.proofs.OutLaws.{roles_long, concepts_long}

small_two : (n : ℕ) → n < 65536 → Small (two n)
small_two n h = two_bytes.small n h

-- a literal of a table within the limit
small_code : (l : Literal) (e : ℕ) → entry_of l < e → e ≤ most_entries → Byte (code l)
small_code l e h k = let z = (code_entry l e).1 h in omega arith

-- an entry that keeps 4
small_entry : (D : Description) (e : ℕ) (x : Entry) → D.roles ≤ most_roles → e ≤ most_entries → EntryOk D e x → Small (entry_bytes
    (fields_of x))
small_entry D e x few h k = go x k
  where
    five : (a b c d n : ℕ) → Byte a → Byte b → Byte c → Byte d → n < 65536
        → Small (entry_bytes (record { kind = a; role = b; first = c; second = d; number = n }))
    five a b c d n p q r s t = small_more p (small_more q (small_more r (small_more s (small_two n t))))

    go : (y : Entry) → EntryOk D e y → Small (entry_bytes (fields_of y))
    go top o = five 0 0 0 0 0 (omega arith) (omega arith) (omega arith) (omega arith) (omega arith)
    go name o = five 1 0 0 0 0 (omega arith) (omega arith) (omega arith) (omega arith) (omega arith)
    go (both a b) o = five 2 0 (code a) (code b) 0 (omega arith) (omega arith) (small_code a e o.0 h) (small_code b e o.1 h)
        (omega arith)
    go (every r l) o = five 3 r (code l) 0 0 (omega arith) (omega arith) (small_code l e o.1 h) (omega arith) (omega arith)
    go (at_least r l n) o = five 4 r (code l) 0 n (omega arith) (omega arith) (small_code l e o.0.1 h) (omega arith) (omega arith)

module _ (T : Draft) (m : Made T) where
  abbrev D : Description
  D = describes T

  P : Passes T
  P = passed m

  few : Few T
  few = made_few T m

  roles_small : Small (roles_out T)
  unfolding roles_out
  roles_small = small_flatten _ (each_map Small role_bytes T.roles
      (λ R k. let i = member_at T.roles (lone_role 0) R k in
      subst (λ R. Small (role_bytes R)) i.2 (role_small i.0 i.1)))
    where
      role_small : (r : ℕ) → r < D.roles → Small (role_bytes (role_in T r))
      role_small r h = small_more (let z = so_leb (role_in T r).transitive 1 (and_l (role_form T r) _ (role_fine T P r h)) in omega arith)
          (small_two (D.parents r) (lt_has 16 (D.parents r) (λ s u. let z = parents_in T P r h s u in omega (arith, few))))

  concepts_small : Small (concepts_out T)
  unfolding concepts_out
  concepts_small = small_flatten _ (each_map Small entry_bytes T.entries (λ F k. let i = member_at T.entries (fields_of top) F k in
      subst (λ F. Small (entry_bytes F)) i.2 (entry_small i.0 i.1)))
    where
      entry_small : (e : ℕ) → e < D.entries → Small (entry_bytes (fields_in T e))
      entry_small e h = let w = all_elim D.entries _ P.entries e h in
          subst (λ F. Small (entry_bytes F)) (sym ((same_fields↔ _ _).0 (and_l (entry_form T e) _ w)))
          (small_entry D e (D.entry e) few.0 (omega (arith, few)) ((entry↔ D e (D.entry e)).0 (and_r (entry_form T e) _ w)))

  literal_small : (l : ℕ) → So (literal_test D (literal l)) → Byte l
  literal_small l u = let z = (code_entry (literal l) D.entries).1 (so_ltb _ D.entries u) in omega (arith, code_literal l, few)

  query_small : Small (query_out T)
  query_small = small_more (root_small T.root (and_l (is_set T.root ⇒ literal_test D D.root) _ P.query)) (λ l k.
      let i = member_at T.rules 0 l k in subst Byte i.2 (literal_small _ (all_elim D.rules _ (rules_kept T P) i.0 i.1)))
    where
      root_small : (o : Option ℕ) → So (is_set o ⇒ literal_test D (literal (root_of o))) → Byte (root_of o)
      root_small none u = omega arith
      root_small (some l) u = literal_small l u

  pub out_small : Small (out_bytes T)
  unfolding out_bytes
  out_small = let f = few in let l = roles_long T in let k = concepts_long T in
      small_append (pair 12 rs) (pair_small 12 rs (omega arith) (omega arith))
      (small_append (pair (12 + length rs) cs) (pair_small (12 + length rs) cs (omega arith) (omega arith))
      (small_append (pair (12 + length rs + length cs) qs) (pair_small (12 + length rs + length cs) qs (omega arith) (omega arith))
      (small_append rs roles_small (small_append cs concepts_small query_small))))
    where
      rs : List ℕ
      rs = roles_out T

      cs : List ℕ
      cs = concepts_out T

      qs : List ℕ
      qs = query_out T

      pair_small : (at : ℕ) (s : List ℕ) → at < 65536 → length s < 65536 → Small (pair at s)
      pair_small at s a b = small_append (two at) (small_two at a) (small_two (length s) b)
