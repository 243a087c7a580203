-- Bytes that stand at a place of other bytes, and lists that are read off place by place.
use Rattle.std.specs.Prelude.{ℕ, zero, suc, ◌+◌, ◌-◌, ◌*◌, ◌≤◌, ◌<◌, ◌≡◌, refl, length, get_or, take, drop}
use Rattle.std.proofs.Common.{sym, ◌∙◌, ap, subst, inl, inr, arith, add-zero, length-append, length-take, length-drop, ext_get_or, get_or-take, get_or-drop, get_or-append-add}
use mathlib.Core.List.Memᴰ
use mathlib.Core.List.{List, [], ◌∷◌, ◌++◌, map, flatten}
use Rattle.std.proofs.Math.Decide.{dec_lt}
use Rattle.std.proofs.Math.ListN.{get_or-append, get_or-eq_default}
use Rattle.std.proofs.Math.Seq.{take-length}
use Rattle.logic.specs.Lists.{◌∈◌, tabulate, length_tabulate, at_tabulate, at_member, member_at}
use Rattle.parts.specs.Numbers.{byte_at}

-- the bytes w stand in s at that place
pub record Stands (s : List ℕ) (at : ℕ) (w : List ℕ) : Type 0 where
  pub inside : at + length w ≤ length s
  pub same : (i : ℕ) → i < length w → byte_at s (at + i) ≡ byte_at w i

-- what is appended stands at the end of what it is appended to
pub stands_end : (u v : List ℕ) → Stands (u ++ v) (length u) v
stands_end u v = record { inside = omega (arith, length-append u v); same = λ i h. get_or-append-add u v i 0 }

-- what stands in what stands there
pub stands_in : {s : List ℕ} {at : ℕ} {w : List ℕ} {i : ℕ} {v : List ℕ} → Stands s at w → Stands w i v → Stands s (at + i) v
stands_in {s} {at} {w} {i} {v} a b = record {
  inside = omega (arith, a.inside, b.inside);
  same = λ j h. let z : at + i + j ≡ at + (i + j) = omega arith in rw z (a.same (i + j) (omega (arith, b.inside)) ∙ b.same j h);
}

module _ {s : List ℕ} {at : ℕ} where
  -- the first of two, and the second
  pub first : (u v : List ℕ) → Stands s at (u ++ v) → Stands s at u
  first u v h = record {
    inside = omega (arith, h.inside, length-append u v);
    same = λ i l. h.same i (omega (arith, length-append u v)) ∙ get_or-append u v 0 i l;
  }

  pub second : (u v : List ℕ) → Stands s at (u ++ v) → Stands s (at + length u) v
  second u v h = stands_in h (stands_end u v)

  pub byte : (b : ℕ) (w : List ℕ) → Stands s at (b ∷ w) → byte_at s at ≡ b
  byte b w h = rw add-zero at (h.same 0 (omega arith))

  -- cut out
  pub part : (w : List ℕ) → Stands s at w → take (length w) (drop at s) ≡ w
  part w h = ext_get_or 0 (take (length w) (drop at s)) w long (λ i l. let k : i < length w = omega (arith, long) in
      get_or-take (length w) (drop at s) i 0 k ∙ get_or-drop at s i 0 ∙ h.same i k)
    where
      long : length (take (length w) (drop at s)) ≡ length w
      long = length-take (length w) (drop at s) ∙ (omega (arith, h.inside, length-drop at s))

  -- and so what is cut out stands there
  pub stands_part : (n : ℕ) → at + n ≤ length s → Stands s at (take n (drop at s))
  stands_part n h = let l = length-take n (drop at s) in let k = length-drop at s in record {
    inside = omega arith;
    same = λ i e. sym (get_or-take n (drop at s) i 0 (omega arith) ∙ get_or-drop at s i 0);
  }

  -- nothing; a byte and what stands behind it; one after the other
  pub stands_none : at ≤ length s → Stands s at []
  stands_none h = record { inside = omega arith; same = λ i l. absurd (omega arith) }

  pub stands_append : (u v : List ℕ) → Stands s at u → Stands s (at + length u) v → Stands s at (u ++ v)
  stands_append u v a b = record {
    inside = omega (arith, b.inside, length-append u v);
    same = λ i l. elim (dec_lt i (length u)) [
      | yes k ↦ a.same i k ∙ sym (get_or-append u v 0 i k)
      | no k ↦ (let e : length u + (i - length u) ≡ i = omega arith in let z : at + length u + (i - length u) ≡ at + i = omega arith in
          subst (λ j. byte_at s (at + i) ≡ byte_at (u ++ v) j) e (rw z at (b.same (i - length u) (omega (arith, length-append u v)))
          ∙ sym (get_or-append-add u v (i - length u) 0)))
    ];
  }

  pub stands_more : (b : ℕ) (w : List ℕ) → byte_at s at ≡ b → Stands s (at + 1) w → Stands s at (b ∷ w)
  stands_more b w e h = stands_append (b ∷ []) w (record {
    inside = omega (arith, h.inside);
    same = λ i l. let z : i
        ≡ 0 = omega arith in rw (z, add-zero) e;
  }) h

-- what stands there and is as long is the whole
pub stands_whole : {s : List ℕ} (w : List ℕ) → Stands s 0 w → length w ≡ length s → w ≡ s
stands_whole {s} w h e = ext_get_or 0 w s e (λ i l. let z : 0 + i ≡ i = omega arith in sym (rw z at (h.same i l)))

-- ---- pieces one after another
-- where piece i begins
abbrev pub before : List (List ℕ) → ℕ → ℕ
before ws i = length (flatten (take i ws))

pub stands_piece : (ws : List (List ℕ)) (d : List ℕ) (i : ℕ) → i < length ws → Stands (flatten ws) (before ws i) (get_or ws i d)
unfolding flatten
stands_piece [] d i h = absurd (omega arith)
stands_piece (w ∷ ws) d zero h = first w (flatten ws) (stands_end [] (w ++ flatten ws))
stands_piece (w ∷ ws) d (suc i) h = rw (length-append w (flatten (take i ws))) (stands_in (stands_end w (flatten ws))
    (stands_piece ws d i (omega arith)))

-- a piece begins where its predecessor ends
pub before_next : (ws : List (List ℕ)) (d : List ℕ) (i : ℕ) → i < length ws → before ws (suc i) ≡ before ws i + length (get_or ws i d)
unfolding flatten
before_next [] d i h = absurd (omega arith)
before_next (w ∷ ws) d zero h = omega (arith, length-append w [])
before_next (w ∷ ws) d (suc i) h = omega (
  arith,
  before_next ws d i (omega arith),
  length-append w (flatten (take
      (suc i) ws)),
  length-append w (flatten (take i ws)),
)

-- the last ends where they all end
pub before_all : (ws : List (List ℕ)) → before ws (length ws) ≡ length (flatten ws)
before_all ws = ap (λ vs. length (flatten vs)) (take-length ws)

-- by how long the pieces are at least and at most
pub before_between : (a b : ℕ) (ws : List (List ℕ)) (d : List ℕ) → ((i : ℕ) → i < length ws → (a ≤ length (get_or ws i d)) × (length
    (get_or ws i d) ≤ b))
    → (i : ℕ) → i ≤ length ws → (a * i ≤ before ws i) × (before ws i ≤ b * i)
unfolding flatten
before_between a b ws d h zero l = omega arith
before_between a b ws d h (suc i) l = omega (arith, before_next ws d i l, h i l, before_between a b ws d h i (omega arith))

pub before_even : (k : ℕ) (ws : List (List ℕ)) (d : List ℕ) → ((i : ℕ) → i < length ws → length (get_or ws i d) ≡ k) → (i : ℕ)
    → i ≤ length ws → before ws i ≡ k * i
before_even k ws d e i l = omega (arith, before_between k k ws d (λ j h. omega (arith, e j h)) i l)

-- pieces that stand one after another
pub stands_flatten : {s : List ℕ} {at : ℕ} (ws : List (List ℕ)) → at ≤ length s → ((i : ℕ) → i < length ws → Stands s (at + before ws i)
    (get_or ws i [])) → Stands s at (flatten ws)
unfolding flatten
stands_flatten [] l h = stands_none l
stands_flatten {s} {at} (w ∷ ws) l h = let a : Stands s at w = rw add-zero at (h 0 (omega arith)) in
    stands_append w (flatten ws) a (stands_flatten {at = at + length w} ws a.inside (λ i k.
    let z : at + before (w ∷ ws) (suc i) ≡ at + length w + before ws i = omega (arith, length-append w (flatten (take i ws))) in rw z at
    (h (suc i) (omega arith))))

-- ---- a list read off by number is the list
pub read_off : {A : Type 0} (d : A) (xs : List A) (n : ℕ) (f : ℕ → A) → n ≡ length xs → ((i : ℕ) → i < n → f i ≡ get_or xs i d)
    → tabulate n f ≡ xs
read_off d xs n f e h = ext_get_or d (tabulate n f) xs (length_tabulate n f ∙ e) (λ i l. let k : i < n = omega
    (arith, length_tabulate n f) in at_tabulate n f d i k ∙ h i k)

pub at_map : {A B : Type 0} (f : A → B) (xs : List A) (d : A) (e : B) (i : ℕ) → i < length xs → get_or (map f xs) i e ≡ f (get_or xs i d)
at_map f [] d e i h = absurd (omega arith)
at_map f (x ∷ xs) d e zero h = refl
at_map f (x ∷ xs) d e (suc i) h = at_map f xs d e i (omega arith)

pub each_map : {A B : Type 0} (P : B → Type 0) (f : A → B) (xs : List A) → ((x : A) → x ∈ xs → P (f x)) → (y : B) → y ∈ map f xs → P y
each_map P f [] h y m = elim m [ ]
each_map P f (x ∷ xs) h y m = elim (Memᴰ.cases_cons m) [
  | inl e ↦ subst P (sym e) (h x (Memᴰ.head refl))
  | inr n ↦ each_map P f xs (λ z k. h z (Memᴰ.tail k)) y n
]

pub each_value : {A : Type 0} (P : A → Type 0) (n : ℕ) (f : ℕ → A) → ((i : ℕ) → i < n → P (f i)) → (x : A) → x ∈ tabulate n f → P x
each_value P n f h x m = let t = member_at (tabulate n f) x x m in let l : t.0 < n = omega (arith, t.1, length_tabulate n f) in
    subst P (sym (at_tabulate n f x t.0 l) ∙ t.2) (h t.0 l)

pub map_tabulate : {A B : Type 0} (g : A → B) (n : ℕ) (f : ℕ → A) → map g (tabulate n f) ≡ tabulate n (λ i. g (f i))
unfolding tabulate
map_tabulate g zero f = refl
map_tabulate g (suc n) f = ap (λ xs. g (f 0) ∷ xs) (map_tabulate g n (λ i. f (suc i)))

-- ---- numbers below 256
abbrev pub Byte : ℕ → Type 0
Byte b = b < 256

abbrev pub Small : List ℕ → Type 0
Small w = (b : ℕ) → b ∈ w → Byte b

pub small_none : Small []
small_none b m = elim m [ ]

pub small_more : {x : ℕ} {w : List ℕ} → Byte x → Small w → Small (x ∷ w)
small_more h k b m = elim (Memᴰ.cases_cons m) [ inl e ↦ rw e h | inr n ↦ k b n ]

pub small_append : (u : List ℕ) {v : List ℕ} → Small u → Small v → Small (u ++ v)
small_append u h k b m = elim (Memᴰ.append_cases u m) [ inl n ↦ h b n | inr n ↦ k b n ]

pub small_flatten : (ws : List (List ℕ)) → ((w : List ℕ) → w ∈ ws → Small w) → Small (flatten ws)
unfolding flatten
small_flatten [] h = small_none
small_flatten (w ∷ ws) h = small_append w (h w (Memᴰ.head refl)) (small_flatten ws (λ v m. h v (Memᴰ.tail m)))

-- at every place
pub small_at : {w : List ℕ} → Small w → (p : ℕ) → byte_at w p < 256
small_at {w} h p = elim (dec_lt p (length w)) [
  | yes l ↦ h (byte_at w p) (at_member w 0 p l)
  | no l ↦ (let z : length w ≤ p = omega arith in rw (get_or-eq_default w 0 z) (omega arith))
]

pub small_all : {w : List ℕ} → ((p : ℕ) → byte_at w p < 256) → Small w
small_all {w} h b m = let t = member_at w 0 b m in rw (← t.2) (h t.0)

-- what stands in bytes is bytes
pub small_in : {s : List ℕ} {at : ℕ} {w : List ℕ} → Small s → Stands s at w → Small w
small_in {s} {at} {w} h k b m = let t = member_at w 0 b m in rw (← t.2, ← k.same t.0 t.1) (small_at h (at + t.0))

pub small_drop : (n : ℕ) {w : List ℕ} → Small w → Small (drop n w)
small_drop n {w} h = small_all (λ p. rw (get_or-drop n w p 0) (small_at h (n + p)))
