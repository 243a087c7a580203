-- Where things lie among the bytes of a state: what is laid there, and what the code reads there.
use Rattle.std.specs.Prelude.{ℕ, ◌+◌, ◌-◌, ◌*◌, ◌≤◌, ◌<◌, ◌≡◌, Bool, true, false, drop}
use Rattle.std.proofs.Math.Path.{refl, ap}
use Rattle.std.proofs.Common.{sym, ◌∙◌, arith, length-append, length-take, get_or-append-add, drop_at, drop-drop, length-take-le}
use mathlib.Core.List.{List, [], ◌∷◌, ◌++◌, append_assoc}
use Rattle.std.proofs.Math.Dec.{eqb}
use Rattle.std.proofs.Math.ListN.{length, take, get_or-append}
use Rattle.std.proofs.lemmas.List.{take-append-le}
use Rattle.std.proofs.Math.Seq.{drop-append-add}
use Rattle.parts.specs.Numbers.{byte_at, up_to_all}
use Rattle.laying.specs.Laying.{laid}
use Rattle.roles.specs.Records.{role_table}
use Rattle.editing.specs.Editing.{Draft, is_set, Made}
use Rattle.editing.proofs.Kept.{made_few}
use Rattle.edit_bytes.specs.Out.{roles_out, concepts_out, query_out}
use Rattle.edit_bytes.proofs.OutLaws.{roles_long, concepts_long}
use Rattle.edit_state.specs.Lent.{roles_room, concepts_room, query_room, roles_from, concepts_from, query_from, state_bytes, filled, flag}
use Rattle.edit_state.specs.Lent.{in_bytes, draft_bytes, Lends, roles_in, entries_in, rules_in, table_in}
use Rattle.edit_state.specs.FillLaws.{filled_front, filled_long, laid_behind, laid_front}

-- ---- three parts behind four numbers
module _ (ns rs cs qs rest : List ℕ) (a : length ns ≡ roles_from) (b : length rs ≡ roles_room) (c : length cs ≡ concepts_room) where
  two_long : length (ns ++ rs) ≡ concepts_from
  two_long = omega (arith, a, b, length-append ns rs)

  three_long : length (ns ++ rs ++ cs) ≡ query_from
  three_long = omega (arith, c, two_long, length-append (ns ++ rs) cs)

  four_long : length (ns ++ rs ++ cs ++ qs) ≡ query_from + length qs
  four_long = omega (arith, three_long, length-append (ns ++ rs ++ cs) qs)

  -- laid into one of them
  in_roles : (at : ℕ) (w : List ℕ) → at + length w ≤ roles_room
      → laid (ns ++ rs ++ cs ++ qs ++ rest) (roles_from + at) w ≡ ns ++ laid rs at w ++ cs ++ qs ++ rest
  in_roles at w h = laid_front (ns ++ rs ++ cs ++ qs) rest (roles_from + at) w (omega (arith, four_long))
      ∙ ap (λ y. y ++ rest) (laid_front (ns ++ rs ++ cs) qs (roles_from + at) w (omega (arith, three_long))
      ∙ ap (λ y. y ++ qs) (laid_front (ns ++ rs) cs (roles_from + at) w (omega (arith, two_long))
      ∙ ap (λ y. y ++ cs) (ap (λ i. laid (ns ++ rs) (i + at) w) (sym a) ∙ laid_behind ns rs at w)))

  in_concepts : (at : ℕ) (w : List ℕ) → at + length w ≤ concepts_room
      → laid (ns ++ rs ++ cs ++ qs ++ rest) (concepts_from + at) w ≡ ns ++ rs ++ laid cs at w ++ qs ++ rest
  in_concepts at w h = laid_front (ns ++ rs ++ cs ++ qs) rest (concepts_from + at) w (omega (arith, four_long))
      ∙ ap (λ y. y ++ rest) (laid_front (ns ++ rs ++ cs) qs (concepts_from + at) w (omega (arith, three_long))
      ∙ ap (λ y. y ++ qs) (ap (λ i. laid (ns ++ rs ++ cs) (i + at) w) (sym two_long) ∙ laid_behind (ns ++ rs) cs at w))

  in_query : (at : ℕ) (w : List ℕ) → at + length w ≤ length qs
      → laid (ns ++ rs ++ cs ++ qs ++ rest) (query_from + at) w ≡ ns ++ rs ++ cs ++ laid qs at w ++ rest
  in_query at w h = laid_front (ns ++ rs ++ cs ++ qs) rest (query_from + at) w (omega (arith, four_long))
      ∙ ap (λ y. y ++ rest) (ap (λ i. laid (ns ++ rs ++ cs ++ qs) (i + at) w) (sym three_long) ∙ laid_behind (ns ++ rs ++ cs) qs at w)

  -- and read there
  of_roles_lem : (n : ℕ) → n ≤ roles_room → take n (drop roles_from (ns ++ rs ++ cs ++ qs ++ rest)) ≡ take n rs
  of_roles_lem n h = ap (λ y. take n (drop roles_from y)) (append_assoc (ns ++ rs ++ cs) qs rest ∙ append_assoc (ns ++ rs) cs (qs ++ rest)
      ∙ append_assoc ns rs (cs ++ (qs ++ rest)))
      ∙ ap (take n) (drop_at ns (rs ++ (cs ++ (qs ++ rest))) roles_from a) ∙ take-append-le n rs (cs ++ (qs ++ rest)) (omega arith)

  of_concepts : (n : ℕ) → n ≤ concepts_room → take n (drop concepts_from (ns ++ rs ++ cs ++ qs ++ rest)) ≡ take n cs
  of_concepts n h = ap (λ y. take n (drop concepts_from y)) (append_assoc (ns ++ rs ++ cs) qs rest ∙ append_assoc (ns ++ rs) cs (qs ++ rest))
      ∙ ap (take n) (drop_at (ns ++ rs) (cs ++ (qs ++ rest)) concepts_from two_long) ∙ take-append-le n cs (qs ++ rest) (omega arith)

  of_query : (n : ℕ) → n ≤ length qs → take n (drop query_from (ns ++ rs ++ cs ++ qs ++ rest)) ≡ take n qs
  of_query n h = ap (λ y. take n (drop query_from y)) (append_assoc (ns ++ rs ++ cs) qs rest)
      ∙ ap (take n) (drop_at (ns ++ rs ++ cs) (qs ++ rest) query_from three_long) ∙ take-append-le n qs rest h

  role_byte : (i : ℕ) → i < roles_room → byte_at (ns ++ rs ++ cs ++ qs ++ rest) (roles_from + i) ≡ byte_at rs i
  role_byte i h = get_or-append (ns ++ rs ++ cs ++ qs) rest 0 (roles_from + i) (omega (arith, four_long))
      ∙ get_or-append (ns ++ rs ++ cs) qs 0 (roles_from + i) (omega (arith, three_long))
      ∙ get_or-append (ns ++ rs) cs 0 (roles_from + i) (omega (arith, two_long))
      ∙ ap (λ j. byte_at (ns ++ rs) (j + i)) (sym a) ∙ get_or-append-add ns rs i 0

-- ---- behind the state's bytes nothing changes
pub laid_beyond : (old : List ℕ) (at : ℕ) (w : List ℕ) → at + length w ≤ state_bytes → state_bytes ≤ length old → drop state_bytes
    (laid old at w) ≡ drop state_bytes old
unfolding laid
laid_beyond old at w h l = ap (λ n. drop n (front ++ drop k old)) (let z : state_bytes ≡ length front + (state_bytes - k) = omega
    (arith, long) in z)
    ∙ drop-append-add front (drop k old) (state_bytes - k) ∙ drop-drop (state_bytes - k) k old
    ∙ ap (λ n. drop n old) (let z : k + (state_bytes - k) ≡ state_bytes = omega arith in z)
  where
    k : ℕ
    k = at + length w

    front : List ℕ
    front = take at old ++ w

    long : length front ≡ at + length w
    long = length-append (take at old) w ∙ ap (λ n. n + length w) (length-take-le at old (omega arith))

-- ---- a span is no longer than what is asked for
pub span_short : (n : ℕ) (s r : List ℕ) → r ≡ take n s → length r ≤ n
span_short n s r e = rw e (omega (arith, length-take n s))

-- ---- of a draft
flag_back : (b : Bool) → eqb (flag b) 1 ≡ b
flag_back true = refl
flag_back false = refl

module _ (T : Draft) (h : Made T) where
  abbrev rs : List ℕ
  rs = filled roles_room (roles_out T)

  abbrev cs : List ℕ
  cs = filled concepts_room (concepts_out T)

  abbrev qs : List ℕ
  qs = filled query_room (query_out T)

  roles_fit : length rs ≡ roles_room
  roles_fit = filled_long roles_room (roles_out T) (omega (arith, made_few T h, roles_long T))

  concepts_fit : length cs ≡ concepts_room
  concepts_fit = filled_long concepts_room (concepts_out T) (omega (arith, made_few T h, concepts_long T))

  pub query_fit : length qs ≡ query_room
  query_fit = filled_long query_room (query_out T) (omega (arith, made_few T h))

  draft_long : length (draft_bytes T) ≡ state_bytes
  unfolding draft_bytes
  draft_long = let ns = length T.roles ∷ length T.entries ∷ flag (is_set T.root) ∷ length T.rules ∷ [] in
      omega (arith, query_fit, four_long ns rs cs qs [] refl roles_fit concepts_fit)

  -- laid, whatever the four numbers are
  module _ (n m f k : ℕ) (rest : List ℕ) where
    abbrev ns : List ℕ
    ns = n ∷ m ∷ f ∷ k ∷ []

    pub roles_laid : (at : ℕ) (w : List ℕ) → at + length w ≤ roles_room
        → laid (in_bytes n m f k rs cs qs ++ rest) (roles_from + at) w ≡ in_bytes n m f k (laid rs at w) cs qs ++ rest
    roles_laid = in_roles ns rs cs qs rest refl roles_fit concepts_fit

    pub concepts_laid : (at : ℕ) (w : List ℕ) → at + length w ≤ concepts_room
        → laid (in_bytes n m f k rs cs qs ++ rest) (concepts_from + at) w ≡ in_bytes n m f k rs (laid cs at w) qs ++ rest
    concepts_laid = in_concepts ns rs cs qs rest refl roles_fit concepts_fit

    pub query_laid : (at : ℕ) (w : List ℕ) → at + length w ≤ query_room
        → laid (in_bytes n m f k rs cs qs ++ rest) (query_from + at) w ≡ in_bytes n m f k rs cs (laid qs at w) ++ rest
    query_laid at w h = in_query ns rs cs qs rest refl roles_fit concepts_fit at w (omega (arith, query_fit))

-- ---- what the code reads, of such bytes
module _ (old : List ℕ) (T : Draft) (rest : List ℕ) (l : Lends old T rest) where
  abbrev first : List ℕ
  first = length T.roles ∷ length T.entries ∷ flag (is_set T.root) ∷ length T.rules ∷ []

  pub enough : state_bytes ≤ length old
  enough = rw l.same (omega (arith, draft_long T l.made, length-append (draft_bytes T) rest))

  pub roles_count : roles_in old ≡ length T.roles
  unfolding draft_bytes
  roles_count = ap roles_in l.same ∙ up_to_all 16 (length T.roles) (made_few T l.made).0

  pub entries_count : entries_in old ≡ length T.entries
  unfolding draft_bytes
  entries_count = ap entries_in l.same ∙ up_to_all 64 (length T.entries) (made_few T l.made).1

  pub rules_count : rules_in old ≡ length T.rules
  unfolding draft_bytes
  rules_count = ap rules_in l.same ∙ up_to_all 16 (length T.rules) (made_few T l.made).2

  pub root_flag : eqb (byte_at old 2) 1 ≡ is_set T.root
  unfolding draft_bytes
  root_flag = ap (λ b. eqb (byte_at b 2) 1) l.same ∙ flag_back (is_set T.root)

  pub roles_read : (n : ℕ) → n ≡ length T.roles → take (3 * n) (drop roles_from old) ≡ roles_out T
  unfolding draft_bytes
  roles_read n e = let m = l.made in ap (λ b. take (3 * n) (drop roles_from b)) l.same
      ∙ of_roles_lem first (rs T m) (cs T m) (qs T m) rest refl (roles_fit T m) (concepts_fit T m) (3 * n) (omega (arith, made_few T m, e))
      ∙ filled_front roles_room (roles_out T) (3 * n) (omega (arith, e, roles_long T))

  pub role_byte_read : (i : ℕ) → i < roles_room → byte_at old (roles_from + i) ≡ byte_at (filled roles_room (roles_out T)) i
  unfolding draft_bytes
  role_byte_read i k = let m = l.made in ap (λ b. byte_at b (roles_from + i)) l.same
      ∙ role_byte first (rs T m) (cs T m) (qs T m) rest refl (roles_fit T m) (concepts_fit T m) i k

  pub concepts_read : (n : ℕ) → n ≡ length T.entries → take (6 * n) (drop concepts_from old) ≡ concepts_out T
  unfolding draft_bytes
  concepts_read n e = let m = l.made in ap (λ b. take (6 * n) (drop concepts_from b)) l.same
      ∙ of_concepts first (rs T m) (cs T m) (qs T m) rest refl (roles_fit T m) (concepts_fit T m) (6 * n) (omega (arith, made_few T m, e))
      ∙ filled_front concepts_room (concepts_out T) (6 * n) (omega (arith, e, concepts_long T))

  pub query_read : (k : ℕ) → k ≡ length T.rules → take (1 + k) (drop query_from old) ≡ query_out T
  unfolding draft_bytes
  query_read k e = let m = l.made in ap (λ b. take (1 + k) (drop query_from b)) l.same
      ∙ of_query first (rs T m) (cs T m) (qs T m) rest refl (roles_fit T m) (concepts_fit T m) (1 + k)
      (omega (arith, made_few T m, e, query_fit T m))
      ∙ filled_front query_room (query_out T) (1 + k) (omega (arith, e))

  pub table_read : table_in old ≡ role_table (roles_out T)
  table_read = ap role_table (roles_read (roles_in old) roles_count)
