-- The buffer that the code leaves has the bytes of the line of the graph, and then the old ones.
use Rattle.std.specs.Prelude.{ℕ, ◌+◌, ◌-◌, ◌*◌, ◌/◌, ◌%◌, ◌≤◌, ◌<◌, ◌≡◌, ◌↔◌, Bool, ◌&&◌, List, ◌++◌, length, drop, get_or, set}
use Rattle.std.proofs.Math.Path.{refl, ap}
use Rattle.std.proofs.Common.{sym, ◌∙◌, inl, inr, div-add-mod', div-lt_iff_lt-mul, mod-lt, mul_comm}
use Rattle.std.proofs.Math.Bool.{true, false}
use Rattle.std.proofs.Math.Option.{Option}
use native.Mathlib.Omega.{arith}
use Rattle.std.proofs.Math.Decide.{dec_lt, dec_le}
use Rattle.std.proofs.Math.Nat.{mul-le-mul}
use borrow.Author.Tests.{le-leb, lt-leb, lt-ltb, le-ltb}
use Rattle.logic.specs.Tests.{So}
use Rattle.logic.specs.Sets.{has, set_of}
use Rattle.logic.specs.SetLaws.{set_of_cong, set_of↔}
use Rattle.parts.specs.Numbers.{byte_at, up_to_all}
use Rattle.description.specs.Literals.{members}
use Rattle.description.specs.Descriptions.{Description, is_name, wanted}
use Rattle.description.specs.Roles.{ancestor}
use Rattle.description.specs.Acceptance.{Accepted}
use Rattle.tables.specs.Tables.{records_in, describe}
use Rattle.roles.specs.Ancestors.{role_count}
use Rattle.roles.specs.Records.{MasksOf, masks_above, masks_transitive}
use Rattle.labels.specs.Labels.{most_entries, name_bytes, names_in, mask_some}
use Rattle.evidence.specs.declared.Layout.{Layout}
use Rattle.evidence.specs.Evidence.{record_count, HeadOk, record_at, label_of, edges_part, graph_in, graph_size, NodeForm}
use Rattle.evidence.proofs.InPlace.{label_there, edges_there, edges_few}
use Rattle.copies.specs.Copying.{owner_mask}
use Rattle.copies.proofs.Copying.{owner_is}
use Rattle.closing.specs.Closing.{mask_at, closed_mask, closed_byte}
use Rattle.graph.specs.Graphs.{Graph, Keeps}
use Rattle.graph.specs.Line.{copies, joins, direct, line}
use Rattle.graph.proofs.Copies.{copies_pos}
use Rattle.lines.specs.Lines.{wide_names, name_size, name_at, line_length, name_mask, role_mask, byte_of, line_byte, pair_byte, line_bytes}
use Rattle.lines.proofs.LineLaws.{pair_below, pair_row, pair_column, name_next, byte_size, byte_names, byte_pairs, written}
use Rattle.lines.specs.Numerals.{Bytes}
use Rattle.lines.proofs.Numerals.{names}
use Rattle.lines.specs.Laying.{Laid, Masks, Names}
use Rattle.lines.proofs.Laying.{names_local, laid_one}
use Rattle.graph_check.specs.GraphSteps.{layout_in}
use Rattle.line_writer.specs.WriteSteps.{names_of, element_names, transitives_in, direct_masks}
use Rattle.line_writer.specs.WriteJoin.{closed_is}

-- where the role masks of d elements begin
abbrev pub rows_at : Layout → ℕ → ℕ
rows_at f d = name_at (name_bytes f.wide) d

-- what the code leaves in a buffer, with the mask t of transitive roles and the ancestors a of each role: the number of elements, then the name masks, then the direct pairs, then these closed
pub record LaidLine (t : ℕ) (cs : List ℕ) (f : Layout) (s a : List ℕ) (k d : ℕ) (old new : List ℕ) : Type 0 where
  pub counted : List ℕ
  pub named : List ℕ
  pub direct : List ℕ
  pub count : Laid 1 byte_at 0 (λ i. d) old 1 counted
  pub names : Names f.wide 1 (element_names cs f s k) counted d named
  pub rows : Masks (rows_at f d) (direct_masks f s k d) named (d * d) direct
  pub small : Bytes direct
  pub size : length new ≡ length direct
  pub bytes : (p : ℕ) → byte_at new p ≡ closed_byte direct (rows_at f d) d t a p

-- the code's four steps, the role masks at `at`
pub lay_steps : (t : ℕ) (cs : List ℕ) (f : Layout) (s a : List ℕ) (k d at : ℕ) (old named direct new : List ℕ)
    → 0 < length old → at ≡ rows_at f d
    → Names f.wide 1 (element_names cs f s k) (set old 0 d) d named → Masks at (direct_masks f s k d) named (d * d) direct → Bytes direct
    → (length new ≡ length direct) × ((p : ℕ) → byte_at new p ≡ closed_byte direct at d t a p) → LaidLine t cs f s a k d old new
lay_steps t cs f s a k d at old named direct new some q n r b c = record {
  counted = set old 0 d;
  named = named;
  direct = direct;
  count = laid_one old 0 d some;
  names = n;
  rows = rw q at r;
  small = b;
  size = c.0;
  bytes = λ p. c.1 p ∙ ap (λ i. closed_byte direct i d t a p) q;
}

-- for a graph as the code reads it, which is the same with and without the mark of a cell
module _ (rs cs qs : List ℕ) (p : Option (List ℕ)) (A : Accepted (describe rs cs qs p)) (few : length rs / 3 ≤ 16)
    (table : length cs / 6 ≤ most_entries) (s : List ℕ) (head : HeadOk s)
    (formed : (x : ℕ) → x < record_count s → NodeForm (layout_in cs) (length (record_at s x)))
    (keeps : Keeps (describe rs cs qs p) (wanted (describe rs cs qs p)) (graph_in (layout_in cs) s)) where
  abbrev D : Description
  D = describe rs cs qs p

  -- how the evidence is stored, the bytes of a name mask, and the graph
  abbrev f : Layout
  f = layout_in cs

  abbrev w : ℕ
  w = name_size D

  abbrev G : Graph
  G = graph_in f s

  abbrev k : ℕ
  k = copies G

  abbrev d : ℕ
  d = length G * k

  -- where the role masks begin
  abbrev at : ℕ
  at = name_at w d

  -- byte p of the name masks is byte (p - 1) % w of mask (p - 1) / w
  some_bytes : 1 ≤ w
  some_bytes = omega (arith, mask_some (wide_names D))

  name_of : (p : ℕ) → 1 ≤ p → p < at → (p - 1) / w < d
  name_of p h g = (div-lt_iff_lt-mul some_bytes).1 (let z = mul_comm w d in omega arith)

  name_place : (p : ℕ) → 1 ≤ p → name_at w ((p - 1) / w) + (p - 1) % w ≡ p
  name_place p h = let z = div-add-mod' (p - 1) w in let y = mul_comm w ((p - 1) / w) in omega arith

  node_in_lem : (x : ℕ) → x < d → x / k < record_count s
  node_in_lem x h = rw (graph_size f s) at ((div-lt_iff_lt-mul (copies_pos G)).1 h)

  -- the name mask of element x
  name_is : (x : ℕ) → x < d → names_of cs (label_of f s (x / k)) ≡ name_mask D (line D G) x
  unfolding members names_of
  name_is x h = ap (λ n. set_of n (λ e. is_name (D.entry e) && has (label_of f s (x / k)) (2 * e))) (up_to_all most_entries (length cs / 6) table)
      ∙ set_of_cong D.entries _ _ (λ e _. twice (is_name (D.entry e)) _ _ (ap (λ n. has n (2 * e)) (sym (label_there s head f formed (x / k) (node_in_lem x h)))))
    where
      twice : (a b c : Bool) → b ≡ c → (a && b) ≡ (a && (a && c))
      twice true b c e = e
      twice false b c e = refl

  -- the direct pairs of elements x and y
  direct_is : (x y : ℕ) → x < d → (r : ℕ) → has (owner_mask (edges_part f s (x / k)) (y / k) (y % k)) r ≡ direct G k r x y
  unfolding direct
  direct_is x y h r = owner_is (edges_part f s (x / k)) (y / k) (y % k) (edges_few s head f formed (x / k) (node_in_lem x h)) r
      ∙ ap (λ es. joins es (y / k) (y % k) r) (sym (edges_there s head f formed (x / k) (node_in_lem x h)))

  -- a buffer b with the direct pairs as its role masks
  module _ (b mid : List ℕ) (rows : Masks at (direct_masks f s k d) mid (d * d) b) where
    mask_is : (x y : ℕ) → x < d → y < d → mask_at b at d x y ≡ owner_mask (edges_part f s (x / k)) (y / k) (y % k)
    mask_is x y hx hy = rows.numbers (x * d + y) (pair_below d x y hx hy) ∙ rw (pair_row d x y hy, pair_column d x y hy) refl

    -- the mask of the transitive roles, and the masks of the roles
    module _ (t : ℕ) (transitive : (r : ℕ) → So (has t r) ↔ ((r < D.roles) × So (D.transitive r)))
        (a : List ℕ) (ancestors : (r : ℕ) → r < D.roles → get_or a r 0 ≡ set_of 16 (ancestor D r)) where
      closed_mask_lem : (x y : ℕ) → x < d → y < d → closed_mask b at d t a x y ≡ role_mask D (line D G) x y
      unfolding closed_mask
      closed_mask_lem = closed_is D A few (wanted D) G keeps (mask_at b at d)
          (λ x y hx hy r. ap (λ m. has m r) (mask_is x y hx hy) ∙ direct_is x y hx r) t transitive a ancestors

      -- outside the role masks nothing is closed
      outside : (p : ℕ) → line_length w d ≤ length b → (at ≤ p → p < line_length w d → ⊥) → closed_byte b at d t a p ≡ byte_at b p
      unfolding closed_byte
      outside p room h = elim (dec_le at p) [
        | yes l ↦ (let z : line_length w d ≤ p = elim (dec_lt p (line_length w d)) [ yes g ↦ absurd (h l g) | no g ↦ omega arith ] in rw (le-leb _ _ room, le-leb _ _ l, le-ltb _ _ z) refl)
        | no l ↦ (let z : p < at = omega arith in rw (le-leb _ _ room, lt-leb _ _ z) refl)
      ]

      inside : (p : ℕ) → line_length w d ≤ length b → at ≤ p → p < line_length w d → closed_byte b at d t a p ≡ pair_byte D (line D G) (p - at)
      unfolding closed_byte
      inside p room h g = rw (le-leb _ _ room, le-leb _ _ h, lt-ltb _ _ g) (ap (λ m. byte_of 2 m ((p - at) % 2))
          (closed_mask_lem ((p - at) / 2 / d) ((p - at) / 2 % d) ((div-lt_iff_lt-mul some).1 (omega arith)) (mod-lt ((p - at) / 2) some)))
        where
          some : 0 < d
          some = omega (arith, mul-le-mul keeps.some_node (copies_pos G))

      -- all bytes of the buffer: the number of elements, the name masks, the closed role masks, and then the old bytes
      pub line_written : (old new : List ℕ) → length b ≡ length old → line_length w d ≤ length old → byte_at b 0 ≡ d
          → ((p : ℕ) → 1 ≤ p → p < at → byte_at b p ≡ byte_of w (element_names cs f s k ((p - 1) / w)) ((p - 1) % w))
          → ((p : ℕ) → line_length w d ≤ p → byte_at b p ≡ byte_at old p)
          → length new ≡ length b → ((p : ℕ) → byte_at new p ≡ closed_byte b at d t a p)
          → new ≡ line_bytes D (line D G) ++ drop (line_length w d) old
      line_written old new size room first names rest same bytes = written D (line D G) old new (same ∙ size) room
          (λ p h. bytes p ∙ elim (dec_lt p at) [ yes l ↦ early p l | no l ↦ late p (omega arith) h ])
          (λ p h. bytes p ∙ beyond p h ∙ rest p h)
        where
          early : (p : ℕ) → p < at → closed_byte b at d t a p ≡ line_byte D (line D G) p
          early p h = outside p (rw size room) (λ l g. omega arith) ∙ elim (dec_lt 0 p) [
            | yes l ↦ names p l h ∙ ap (λ m. byte_of w m ((p - 1) % w)) (name_is ((p - 1) / w) (name_of p l h))
                ∙ sym (byte_names D (line D G) p (λ e. omega arith) h)
            | no l ↦ (let z : p ≡ 0 = omega arith in rw z (first ∙ sym (byte_size D (line D G))))
          ]

          late : (p : ℕ) → at ≤ p → p < line_length w d → closed_byte b at d t a p ≡ line_byte D (line D G) p
          late p h g = inside p (rw size room) h g ∙ sym (byte_pairs D (line D G) p h)

          beyond : (p : ℕ) → line_length w d ≤ p → closed_byte b at d t a p ≡ byte_at b p
          beyond p h = outside p (rw size room) (λ l g. omega arith)

  -- so a buffer that the code has filled is the line, and then the old bytes
  pub laid_line : (a old new : List ℕ) → MasksOf rs (records_in p) a → line_length w d ≤ length old
      → LaidLine (transitives_in a (role_count rs)) cs f s a k d old new → new ≡ line_bytes D (line D G) ++ drop (line_length w d) old
  unfolding transitives_in
  laid_line a old new masks room L = line_written L.direct L.named L.rows (transitives_in a (role_count rs)) transitive a
      (λ r h. masks_above rs (records_in p) a masks r (omega arith) cs qs p few) old new
      (L.rows.whole ∙ L.names.whole ∙ L.count.whole) room
      (L.rows.others 0 (inl (omega arith)) ∙ L.names.others 0 (inl (omega arith)) ∙ L.count.numbers 0 (omega arith))
      name_byte
      (λ p h. L.rows.others p (inr h) ∙ L.names.others p (inr (omega arith)) ∙ L.count.others p (inr (omega arith)))
      L.size L.bytes
    where
      transitive : (r : ℕ) → So (has (transitives_in a (role_count rs)) r) ↔ ((r < D.roles) × So (D.transitive r))
      transitive r = rw (
        up_to_all 16 (length rs / 3) few,
        up_to_all 16 (length rs / 3) few,
        set_of_cong (length rs / 3) (λ r. has (get_or a (16 + r) 0) r) D.transitive
            (λ i h. masks_transitive rs (records_in p) a masks i (omega arith) cs qs p few),
      )
          (set_of↔ (length rs / 3) D.transitive r)

      -- name masks lie before the rows
      name_there : (z : ℕ) → z < d → names_in f.wide L.direct (name_at w z) ≡ element_names cs f s k z
      name_there z h = names_local f.wide L.direct L.named (name_at w z) (λ q a b. L.rows.others q (inl (omega (arith, name_next w z d h))))
          ∙ L.names.numbers z h

      name_byte : (p : ℕ) → 1 ≤ p → p < at → byte_at L.direct p ≡ byte_of w (element_names cs f s k ((p - 1) / w)) ((p - 1) % w)
      name_byte p h g = ap (byte_at L.direct) (sym (name_place p h))
          ∙ (names f.wide).byte L.direct (name_at w ((p - 1) / w)) ((p - 1) % w) L.small (mod-lt (p - 1) some_bytes)
          ∙ ap (λ m. byte_of w m ((p - 1) % w)) (name_there ((p - 1) / w) (name_of p h g))
