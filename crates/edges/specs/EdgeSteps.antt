-- Rule 13 of a graph's edges as the code tests it, on masks.
use Prim.Native.Nat.{ℕ, ◌+◌, ◌*◌, ◌/◌, ◌≤◌}
use Rattle.std.specs.Prelude.{◌≡◌, refl, Bool, true, false, ◌&&◌, List, eqb, ltb, length, get_or}
use Rattle.std.proofs.Common.{sym, ◌∙◌, arith}
use Rattle.std.proofs.Math.Path.{ap}
use Rattle.std.proofs.Math.Bool.{and-true, and-false}
use Rattle.std.specs.Int.Bits.{bit_and}
use Rattle.std.proofs.Math.Dec.{leb}
use Rattle.logic.specs.Tests.{So, ◌⇒◌, same_test, so_and, and_l, and_r, so_eqb, imp_in, imp_out}
use Rattle.logic.specs.Bounded.{all_below, all_cong, all_intro, all_elim, any_intro, any_elim}
use Rattle.logic.specs.Sums.{only}
use Rattle.logic.specs.Sets.{has, nonempty, narrow, within}
use Rattle.logic.specs.SetLaws.{narrow↔, within↔}
use Rattle.parts.specs.Numbers.{byte_at, num2, up_to}
use Rattle.roles.specs.Disjoint.{records_by, compatible_by, compatible_all}
use Rattle.evidence.specs.Evidence.{most_edges}
use Rattle.edges.specs.declared.Edge as Code
use Rattle.edges.specs.Unions.{union_below, has_union, has_only}

-- the number of edges of the bytes es, at most 32
abbrev pub edge_count : List ℕ → ℕ
edge_count es = up_to most_edges (length es / 5)

-- the code's edge j
abbrev pub edge_struct : List ℕ → ℕ → Code.Edge
edge_struct es j = record { target = byte_at es (5 * j); mask = num2 es (5 * j + 1); count = num2 es (5 * j + 3) }

-- role r of the mask m brings its ancestors, by the masks a of the roles
abbrev pub upward_at : List ℕ → ℕ → ℕ → Bool
upward_at a m r = has m r ⇒ within (get_or a r 0) m

-- 13, of one edge, in a table of n roles and a graph of `size` records; `free` says whether its roles hold no record of disjoint ones
abbrev pub edge_with : List ℕ → ℕ → ℕ → Bool → Code.Edge → Bool
edge_with a n size free E = (ltb E.target size
    && (nonempty E.mask && (narrow E.mask n && (all_below n (upward_at a E.mask) && (free && leb 1 E.count)))))
    && leb E.count 1000

-- so by the masks `a`
abbrev pub edge_code : List ℕ → ℕ → ℕ → Code.Edge → Bool
edge_code a n size E = edge_with a n size (compatible_by a E.mask) E

-- of all edges of the slice, at most 32
abbrev pub edges_code : List ℕ → ℕ → ℕ → List ℕ → Bool
edges_code a n size es = all_below (edge_count es) (λ j. edge_code a n size (edge_struct es j))

-- ---- laws for the code
-- what a test says of edge j, which the code has read as E
pub edge_told : (es : List ℕ) (j : ℕ) (f : Code.Edge → Bool) (E : Code.Edge) (b v : Bool)
    → E ≡ edge_struct es j → b ≡ f E → b ≡ v → f (edge_struct es j) ≡ v
edge_told es j f E b v p q r = ap f (sym p) ∙ sym q ∙ r

-- a test of two parts, over all
pub all_and : (n : ℕ) (p q : ℕ → Bool) → all_below n (λ j. p j && q j) ≡ (all_below n p && all_below n q)
all_and n p q = same_test _ _
    (λ u. let w = all_elim n (λ j. p j && q j) u in
    so_and (all_below n p) (all_below n q)
    (all_intro n p (λ j h. and_l (p j) (q j) (w j h))) (all_intro n q (λ j h. and_r (p j) (q j) (w j h))))
    (λ u. all_intro n (λ j. p j && q j) (λ j h.
    so_and (p j) (q j)
    (all_elim n p (and_l (all_below n p) (all_below n q) u) j h) (all_elim n q (and_r (all_below n p) (all_below n q) u) j h)))

-- the records may be asked for apart from the rest
edge_apart : (a : List ℕ) (n size : ℕ) (free : Bool) (E : Code.Edge) → edge_with a n size free E ≡ (edge_with a n size true E && free)
edge_apart a n size true E = sym (and-true (edge_with a n size true E))
edge_apart a n size false E = simp and-false

pub edges_read : (es a : List ℕ) (roles size k n : ℕ) (held free : Bool) → k ≡ edge_count es → n ≡ up_to 16 roles
    → held ≡ all_below k (λ j. edge_with a n size true (edge_struct es j)) → free ≡ all_below k (λ j. compatible_by a (edge_struct es j).mask)
    → (held && free) ≡ edges_code a (up_to 16 roles) size es
edges_read es a roles size k n held free p q h f = rw (h, f, p, q) (sym (
    all_cong (edge_count es) _ _ (λ j _. edge_apart a (up_to 16 roles) size (compatible_by a (edge_struct es j).mask) (edge_struct es j))
    ∙ all_and (edge_count es) (λ j. edge_with a (up_to 16 roles) size true (edge_struct es j)) (λ j. compatible_by a (edge_struct es j).mask)))

-- without a record every edge is free of them
pub no_record : (a es : List ℕ) (k : ℕ) → eqb (records_by a) 0 ≡ true → true ≡ all_below k (λ j. compatible_by a (edge_struct es j).mask)
no_record a es k e = sym (all_intro k _ (λ j _. compatible_all a (edge_struct es j).mask (so_eqb (records_by a) 0 e)))

-- all ancestors of the roles of the mask m
abbrev pub raised : List ℕ → ℕ → ℕ
raised a m = union_below 16 (λ r. only (has m r) (get_or a r 0))

-- they lie in the mask exactly if each of its roles brings its ancestors
raised_is : (a : List ℕ) (m n : ℕ) → n ≤ 16 → So (narrow m n) → within (raised a m) m ≡ all_below n (upward_at a m)
raised_is a m n h g = same_test _ _
    (λ u. all_intro n (upward_at a m) (λ r l. imp_in _ _ (λ v. (within↔ (get_or a r 0) m).1 (λ i w. (within↔ (raised a m) m).0 u i
    (has_union 16 (λ r. only (has m r) (get_or a r 0)) i ∙ any_intro 16 (λ r. has (only (has m r) (get_or a r 0)) i) r (omega arith) (has_only (has m r) (get_or a r 0) i ∙ so_and (has m r) (has (get_or a r 0) i) v w))))))
    (λ u. (within↔ (raised a m) m).1 (λ i v. let w = any_elim 16 (λ r. has (only (has m r) (get_or a r 0)) i) (sym (has_union 16 (λ r. only (has m r) (get_or a r 0)) i) ∙ v) in
    let r = w.0 in let k = sym (has_only (has m r) (get_or a r 0) i) ∙ w.2 in let p = and_l (has m r) (has (get_or a r 0) i) k in
    (within↔ (get_or a r 0) m).0 (imp_out _ _ (all_elim n (upward_at a m) u r ((narrow↔ m n).0 g r p)) p) i (and_r (has m r) (has (get_or a r 0) i) k)))

pub edge_read : (a : List ℕ) (n size : ℕ) (E : Code.Edge) (p q : Bool) → n ≤ 16 → p ≡ narrow E.mask n → q ≡ within (raised a E.mask) E.mask
    → ((ltb E.target size && (nonempty E.mask && (p && (q && leb 1 E.count)))) && leb E.count 1000) ≡ edge_with a n size true E
edge_read a n size E p q h hp hq = rw (hp, hq) (ap (λ b. (ltb E.target size && (nonempty E.mask && b)) && leb E.count 1000) (go (narrow E.mask n) refl))
  where
    go : (b : Bool) → narrow E.mask n ≡ b → (b && (within (raised a E.mask) E.mask && leb 1 E.count)) ≡ (b && (all_below n (upward_at a E.mask) && leb 1 E.count))
    go true z = ap (λ b. b && leb 1 E.count) (raised_is a E.mask n h z)
    go false z = refl
