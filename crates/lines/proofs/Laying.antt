-- Numbers laid one after another: what each loop of a writer keeps.
use Rattle.std.specs.Prelude.{ℕ, suc, ◌+◌, ◌-◌, ◌*◌, ◌/◌, ◌%◌, ◌^◌, ◌≤◌, ◌<◌, ◌≡◌, refl, ◌⊎◌, Bool, List, length, set}
use Rattle.std.proofs.Common.{sym, ◌∙◌, ap, ap₂, inl, inr, arith, mul-le-mul_left, mul-suc, mul-add, div-one, pow-suc, length-set, get_or-set_same, get_or-set_other}
use Rattle.std.proofs.Math.Decide.{dec_lt}
use Rattle.std.proofs.Math.Nat.{div-div-eq-div-mul}
use Rattle.parts.specs.Numbers.{byte_at, num2}
use Rattle.labels.specs.Labels.{name_bytes, names_in}
use Rattle.lines.specs.Lines.{byte_of}
use Rattle.lines.specs.Numerals.{Local, Numeral}
use Rattle.lines.proofs.Numerals.{two, names}
use Rattle.lines.specs.Laying.{Masks, Laid}

-- role masks are read from their own bytes alone, and so are name masks
pub two_local : Local 2 num2
two_local = two.local

pub names_local : (broad : Bool) → Local (name_bytes broad) (names_in broad)
names_local broad = (names broad).local

-- a number lies before the next one
before_next : (w i n : ℕ) → i < n → w * i + w ≤ w * n
before_next w i n h = let k : w * suc i ≤ w * n = mul-le-mul_left w h in let e : w * suc i ≡ w * i + w = mul-suc w i in omega arith

module _ (w : ℕ) (read : List ℕ → ℕ → ℕ) (local : Local w read) where
  pub laid_none : (at : ℕ) (g : ℕ → ℕ) (l : List ℕ) → Laid w read at g l 0 l
  laid_none at g l = record { whole = refl; numbers = λ i h. absurd (omega arith); others = λ p _. refl }

  -- the numbers past those that are laid are as before
  pub laid_rest : {at : ℕ} {g : ℕ → ℕ} {old : List ℕ} {n : ℕ} {new : List ℕ} → Laid w read at g old n new → (p : ℕ) → (p + w ≤ at) ⊎ (at + w * n ≤ p) → read new p ≡ read old p
  laid_rest {at} {g} {old} {n} {new} l p o = local new old p (λ q a b. l.others q (elim o [ inl k ↦ inl (omega arith) | inr k ↦ inr (omega arith) ]))

  -- k numbers more
  pub laid_append : (at n k : ℕ) (g h : ℕ → ℕ) (old mid new : List ℕ) → Laid w read at g old n mid → Laid w read (at + w * n) h mid k new
      → ((i : ℕ) → i < k → h i ≡ g (n + i)) → Laid w read at g old (n + k) new
  laid_append at n k g h old mid new a b e = record {
    whole = b.whole ∙ a.whole;
    numbers = λ i l. go i l (dec_lt i n);
    others = λ p o. let z : w * (n + k) ≡ w * n + w * k = mul-add w n k in
        b.others p (elim o [ inl q ↦ inl (omega arith) | inr q ↦ inr (omega arith) ]) ∙ a.others p (elim o [ inl q ↦ inl q | inr q ↦ inr (omega arith) ]);
  }
    where
      go : (i : ℕ) → i < n + k → Dec (i < n) → read new (at + w * i) ≡ g i
      go i l (yes j) = laid_rest b (at + w * i) (inl (omega (arith, before_next w i n j))) ∙ a.numbers i j
      go i l (no j) = let q : n + (i - n) ≡ i = omega arith in let z : w * i ≡ w * n + w * (i - n) = ap (λ m. w * m) (sym q) ∙ mul-add w n (i - n) in
          let p : at + w * i ≡ at + w * n + w * (i - n) = omega arith in
          ap (read new) p ∙ b.numbers (i - n) (omega arith) ∙ e (i - n) (omega arith) ∙ ap g q

  -- one number more
  pub laid_more : (at y v : ℕ) (g : ℕ → ℕ) (old mid new : List ℕ) → Laid w read at g old y mid → Laid w read (at + w * y) (λ i. v) mid 1 new → v ≡ g y
      → Laid w read at g old (y + 1) new
  laid_more at y v g old mid new a b e = laid_append at y 1 g (λ i. v) old mid new a b (λ i h. e ∙ ap g (omega arith))

  -- the same numbers by another name
  pub laid_as : (at n : ℕ) (f g : ℕ → ℕ) (old new : List ℕ) → Laid w read at f old n new → ((i : ℕ) → i < n → f i ≡ g i) → Laid w read at g old n new
  laid_as at n f g old new l e = record { whole = l.whole; numbers = λ i h. l.numbers i h ∙ e i h; others = l.others }

  -- one laying after another, in the same place
  pub laid_then : (at n : ℕ) (f g : ℕ → ℕ) (old mid new : List ℕ) → Laid w read at f old n mid → Laid w read at g mid n new → Laid w read at g old n new
  laid_then at n f g old mid new a b = record { whole = b.whole ∙ a.whole; numbers = b.numbers; others = λ p o. b.others p o ∙ a.others p o }

-- ---- stores
-- two bytes at a place
abbrev pub put2 : List ℕ → ℕ → ℕ → ℕ → List ℕ
put2 l at v w = set (set l at v) (at + 1) w

put2_else : (l : List ℕ) (at v w p : ℕ) → (p < at) ⊎ (at + 2 ≤ p) → byte_at (put2 l at v w) p ≡ byte_at l p
put2_else l at v w p o = get_or-set_other (set l at v) (at + 1) p w 0 (λ e. elim o [ inl q ↦ omega arith | inr q ↦ omega arith ])
    ∙ get_or-set_other l at p v 0 (λ e. elim o [ inl q ↦ omega arith | inr q ↦ omega arith ])

pub put2_whole : (l : List ℕ) (at v w : ℕ) → length (put2 l at v w) ≡ length l
put2_whole l at v w = length-set (set l at v) (at + 1) w ∙ length-set l at v

put2_here : (l : List ℕ) (at v w : ℕ) → at + 2 ≤ length l → num2 (put2 l at v w) at ≡ v * 256 + w
put2_here l at v w h = ap₂ (λ (a b : ℕ). a * 256 + b)
    (get_or-set_other (set l at v) (at + 1) at w 0 (λ e. omega arith) ∙ get_or-set_same l at v 0 (omega arith))
    (get_or-set_same (set l at v) (at + 1) w 0 (omega (arith, length-set l at v)))

-- one byte
pub laid_one : (l : List ℕ) (at v : ℕ) → at < length l → Laid 1 byte_at at (λ i. v) l 1 (set l at v)
laid_one l at v h = record {
  whole = length-set l at v;
  numbers = λ i k. let z : at + 1 * i ≡ at = omega arith in rw z (get_or-set_same l at v 0 h);
  others = λ p o. get_or-set_other l at p v 0 (λ e. elim o [ inl q ↦ omega arith | inr q ↦ omega arith ]);
}

-- one role mask
pub laid_two : (l : List ℕ) (at v w m : ℕ) → at + 2 ≤ length l → v * 256 + w ≡ m → Masks at (λ i. m) l 1 (put2 l at v w)
laid_two l at v w m h e = record {
  whole = put2_whole l at v w;
  numbers = λ i k. let z : at + 2 * i ≡ at = omega arith in rw z (put2_here l at v w h ∙ e);
  others = λ p o. put2_else l at v w p (elim o [ inl q ↦ inl q | inr q ↦ inr (omega arith) ]);
}

-- one role mask more
pub mask_more : (at y v w : ℕ) (g : ℕ → ℕ) (old new : List ℕ) → at + 2 * y + 1 < length old → v * 256 + w ≡ g y → Masks at g old y new
    → Masks at g old (y + 1) (put2 new (at + 2 * y) v w)
mask_more at y v w g old new h e l = laid_more 2 num2 two_local at y (g y) g old new _ l (laid_two new (at + 2 * y) v w (g y) (omega (arith, l.whole)) e) refl

-- ---- a number of w bytes, stored from the last byte to the first
-- the bytes of m from byte i on stand at `at`, and all others are as in `old`
pub record Ending (w at m : ℕ) (old : List ℕ) (i : ℕ) (new : List ℕ) : Type 0 where
  pub whole : length new ≡ length old
  pub bytes : (j : ℕ) → i ≤ j → j < w → byte_at new (at + j) ≡ byte_of w m j
  pub others : (p : ℕ) → (p < at + i) ⊎ (at + w ≤ p) → byte_at new p ≡ byte_at old p

module _ (w at m : ℕ) (old : List ℕ) where
  pub ending_none : (i : ℕ) → i ≡ w → Ending w at m old i old
  ending_none i e = record { whole = refl; bytes = λ j h k. absurd (omega arith); others = λ p _. refl }

  -- one byte more: the last of what is left of m
  pub ending_more : (i rest : ℕ) (mid : List ℕ) → 1 ≤ i → i ≤ w → at + w ≤ length old → rest ≡ m / 256 ^ (w - i) → Ending w at m old i mid
      → Ending w at m old (i - 1) (set mid (at + (i - 1)) (rest % 256))
  ending_more i rest mid some h room e r = record {
    whole = length-set mid (at + (i - 1)) (rest % 256) ∙ r.whole;
    bytes = λ j l g. go j l g (dec_lt j i);
    others = λ p o. get_or-set_other mid (at + (i - 1)) p (rest % 256) 0 (λ q. elim o [ inl z ↦ omega arith | inr z ↦ omega arith ])
        ∙ r.others p (elim o [ inl z ↦ inl (omega arith) | inr z ↦ inr z ]);
  }
    where
      go : (j : ℕ) → i - 1 ≤ j → j < w → Dec (j < i) → byte_at (set mid (at + (i - 1)) (rest % 256)) (at + j) ≡ byte_of w m j
      go j l g (yes k) = let z : j ≡ i - 1 = omega arith in let y : w - i ≡ w - 1 - (i - 1) = omega arith in
          rw z (get_or-set_same mid (at + (i - 1)) (rest % 256) 0 (omega (arith, r.whole)) ∙ rw e (ap (λ (n : ℕ). m / 256 ^ n % 256) y))
      go j l g (no k) = get_or-set_other mid (at + (i - 1)) (at + j) (rest % 256) 0 (λ q. omega arith) ∙ r.bytes j (omega arith) g

  -- what is left of m: at first all of it, then without the bytes stored
  pub rest_none : (i : ℕ) → i ≡ w → m ≡ m / 256 ^ (w - i)
  rest_none i e = let z : w - i ≡ 0 = omega arith in rw z (sym (div-one m))

  pub rest_more : (i rest : ℕ) → 1 ≤ i → i ≤ w → rest ≡ m / 256 ^ (w - i) → rest / 256 ≡ m / 256 ^ (w - (i - 1))
  rest_more i rest some h e = let z : suc (w - i) ≡ w - (i - 1) = omega arith in
      ap (λ (n : ℕ). n / 256) e ∙ div-div-eq-div-mul m (256 ^ (w - i)) 256 ∙ ap (λ (n : ℕ). m / n) (sym (pow-suc 256 (w - i)))
      ∙ ap (λ (n : ℕ). m / 256 ^ n) z

  pub ending_all : (read : List ℕ → ℕ → ℕ) (new : List ℕ) → Numeral w read → m < 2 ^ (8 * w) → Ending w at m old 0 new
      → Laid w read at (λ i. m) old 1 new
  ending_all read new k few r = record {
    whole = r.whole;
    numbers = λ i h. let z : i ≡ 0 = omega arith in let y : at + w * 0 ≡ at = omega arith in
        rw (z, y) (k.made new at m few (λ j g. r.bytes j (omega arith) g));
    others = λ p o. r.others p (elim o [ inl q ↦ inl (omega arith) | inr q ↦ inr (omega arith) ]);
  }
