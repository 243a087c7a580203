-- Writing out: what the code lays into the buffer, for every state; and of a state that holds a draft, that it is what was put in.
use Rattle.std.specs.Prelude.{ℕ, ◌+◌, ◌-◌, ◌*◌, ◌≤◌, ◌<◌, ◌≡◌, Bool, true, false, ◌&&◌, eqb, leb, length, take, drop, Result, Ok, Err}
use Rattle.std.proofs.Math.Path.{refl, ap}
use Rattle.std.proofs.Common.{sym, ◌∙◌, inl, inr, arith, length-drop, drop-drop, length-take-le}
use mathlib.Core.List.{List}
use Rattle.std.proofs.Math.Option.{none, some}
use borrow.Author.Tests.{lt-leb, le-leb}
use Rattle.std.proofs.Math.Seq.{drop-append-add}
use Rattle.std.proofs.Math.Decide.{dec_lt}
use Rattle.parts.specs.Numbers.{byte_at, up_to_all, up_to_most}
use Rattle.answers.specs.declared.Reason.{Reason}
use Rattle.answers.specs.declared.Reason.TheVariants as is
use Rattle.answers.specs.declared.Refusal.{Refusal}
use Rattle.answers.specs.Reasons.{number_of, refused}
use Rattle.answers.specs.Answers.{wholly, answer, WRITTEN, unless_refused, over, buffered}
use Rattle.editing.specs.Editing.{Draft}
use Rattle.edit_bytes.specs.Out.{with_pairs, out_bytes, whole, out_refused}
use Rattle.edit_lay.specs.Lays.{size_with}
use Rattle.edit_lay.specs.LayLaws.{with_pairs_long}
use Rattle.edit_state.specs.Lent.{roles_from, concepts_from, query_from, state_bytes, out_most, Lends, roles_in, entries_in, rules_in}
use Rattle.edit_state.specs.Lent.{size_in, Writes}
use Rattle.edit_state.specs.PlaceLaws.{enough, roles_count, entries_count, rules_count, root_flag, roles_read, concepts_read}
use Rattle.edit_state.specs.PlaceLaws.{query_read}

-- the rules of every state
pub rules_few : (state : List ℕ) → rules_in state ≤ 16
rules_few state = elim (dec_lt (byte_at state 3) 16) [
  | yes l ↦ omega (arith, up_to_all 16 (byte_at state 3) (let z : byte_at state 3 ≤ 16 = omega arith in z))
  | no l ↦ omega (arith, up_to_most 16 (byte_at state 3) (let z : 16 ≤ byte_at state 3 = omega arith in z))
]

-- the parts of every state
pub size_is : (state rs cs qs : List ℕ) (n e k : ℕ) → state_bytes ≤ length state → (n ≡ roles_in state) × (n ≤ 16)
    → (e ≡ entries_in state) × (e ≤ 64) → (k ≡ rules_in state) × (k ≤ 16) → rs ≡ take (3 * n) (drop roles_from state)
    → cs ≡ take (6 * e) (drop concepts_from state) → qs ≡ take (1 + k) (drop query_from state)
    → (size_with rs cs qs ≡ size_in state) × (size_in state ≤ out_most)
size_is state rs cs qs n e k h en ee ek er ec eq = rw (← en.0, ← ee.0, ← ek.0) (
  omega (arith, long, en, ee, ek),
  omega
      (arith, en, ee, ek),
)
  where
    spanned : (m at : ℕ) (r : List ℕ) → r ≡ take m (drop at state) → at + m ≤ length state → length r ≡ m
    spanned m at r q u = ap length q ∙ length-take-le m (drop at state) (omega (arith, length-drop at state))

    long : (length rs ≡ 3 * n) × (length cs ≡ 6 * e) × (length qs ≡ 1 + k)
    long = (
      spanned (3 * n) roles_from rs er (omega (arith, en)),
      spanned (6 * e) concepts_from cs ec (omega (arith, ee)),
      spanned (1 + k) query_from qs eq (omega (arith, ek)),
    )

pub short_writes : (state old : List ℕ) (r : Result ℕ Refusal) → r ≡ Err (refused is.Short 0) → length state < state_bytes
    → Writes state old r old
short_writes state old r q h = rw q (record {
  made = λ T rest l. absurd (omega (arith, enough state T rest l));
  told = inr (22, omega arith, refl);
  kept = refl;
  size = tt;
  past = refl;
  most = refl;
  short = λ _. refl;
})

pub refused_writes : (state old : List ℕ) (x : Reason) (r : Refusal) → r ≡ refused x 0 → number_of x ≤ 25 → state_bytes ≤ length state
    → ((T : Draft) (rest : List ℕ) → Lends state T rest → out_refused T (length old) ≡ some (number_of x)) → Writes state old (Err r) old
refused_writes state old x r z u h f = rw z (record {
  made = λ T rest l. let q = f T rest l in (
    sym (ap (λ o. answer WRITTEN (wholly o)) q),
    sym (ap (λ o. unless_refused 0 (length (out_bytes T)) (wholly o)) q),
    sym (ap (λ o. buffered (out_bytes T) old (wholly o)) q),
  );
  told = inr (number_of x, u, refl);
  kept = refl;
  size = tt;
  past = refl;
  most = refl;
  short = λ k. absurd (omega arith);
})

-- bytes past what is written stay
past_stays : (rs cs qs old : List ℕ) (m : ℕ) → size_with rs cs qs ≤ m → drop m (over (with_pairs rs cs qs) old) ≡ drop m old
past_stays rs cs qs old m h = ap (λ n. drop n (over text old)) (let z : m ≡ k + (m - k) = omega (arith, long) in z)
    ∙ drop-append-add text (drop k old) (m - k) ∙ drop-drop (m - k) k old
    ∙ ap (λ n. drop n old) (let z : k + (m - k) ≡ m = omega (arith, long) in z)
  where
    text : List ℕ
    text = with_pairs rs cs qs

    k : ℕ
    k = length text

    long : length text ≡ size_with rs cs qs
    long = with_pairs_long rs cs qs

pub done_writes : (state old rs cs qs : List ℕ) → state_bytes ≤ length state
    → (size_with rs cs qs ≡ size_in state) × (size_in state ≤ out_most)
    → ((T : Draft) (rest : List ℕ) → Lends state T rest → (out_refused T (length old) ≡ none) × (size_with rs cs qs ≡ length (out_bytes T))
    × (over (with_pairs rs cs qs) old ≡ over (out_bytes T) old))
    → Writes state old (Ok (size_with rs cs qs)) (over (with_pairs rs cs qs) old)
done_writes state old rs cs qs h k f = record {
  made = λ T rest l. let q = f T rest l in (
    sym (ap (λ o. answer WRITTEN (wholly o)) q.0),
    q.1 ∙ sym (ap (λ o. unless_refused 0 (length (out_bytes T)) (wholly o)) q.0),
    q.2 ∙ sym (ap (λ o. buffered (out_bytes T) old (wholly o)) q.0),
  );
  told = inl refl;
  kept = tt;
  size = k.0;
  past = past_stays rs cs qs old (size_in state) (omega (arith, k));
  most = past_stays rs cs qs old out_most (omega (arith, k));
  short = λ m. absurd (omega arith);
}

-- ---- what the code reads
module _ (state : List ℕ) (n e : ℕ) (en : n ≡ roles_in state) (ee : e ≡ entries_in state)
    (T : Draft) (rest : List ℕ) (l : Lends state T rest) where
  abbrev held : Bool
  held = leb 1 n && (leb 1 e && eqb (byte_at state 2) 1)

  counted : n ≡ length T.roles
  counted = en ∙ roles_count state T rest l

  entered : e ≡ length T.entries
  entered = ee ∙ entries_count state T rest l

  is_whole : whole T ≡ held
  is_whole = same (sym counted) (sym entered) (sym (root_flag state T rest l))
    where
      same : {a b c d : ℕ} {u v : Bool} → a ≡ b → c ≡ d → u ≡ v → (leb 1 a && (leb 1 c && u)) ≡ (leb 1 b && (leb 1 d && v))
      same p q r = rw (p, q, r) refl

  -- 2
  pub out_part : (m : ℕ) → held ≡ false → out_refused T m ≡ some 2
  unfolding out_refused
  out_part m e = rw (is_whole ∙ e) refl

  -- the three parts are what is written out
  module _ (k : ℕ) (ek : k ≡ rules_in state) (rs cs qs : List ℕ) (er : rs ≡ take (3 * n) (drop roles_from state))
      (ec : cs ≡ take (6 * e) (drop concepts_from state)) (eq : qs ≡ take (1 + k) (drop query_from state)) (old : List ℕ) where
    out_is : with_pairs rs cs qs ≡ out_bytes T
    unfolding out_bytes
    out_is = same (er ∙ roles_read state T rest l n counted) (ec ∙ concepts_read state T rest l e entered)
        (eq ∙ query_read state T rest l k (ek ∙ rules_count state T rest l))
      where
        same : {R R' C C' Q Q' : List ℕ} → R ≡ R' → C ≡ C' → Q ≡ Q' → with_pairs R C Q ≡ with_pairs R' C' Q'
        same p q r = rw (p, q, r) refl

    out_size : size_with rs cs qs ≡ length (out_bytes T)
    out_size = sym (with_pairs_long rs cs qs) ∙ ap length out_is

    pub out_short : held ≡ true → length old < size_with rs cs qs → out_refused T (length old) ≡ some 22
    unfolding out_refused
    out_short a b = rw (is_whole ∙ a, lt-leb (length (out_bytes T)) (length old) (omega (arith, out_size))) refl

    pub out_done : held ≡ true → size_with rs cs qs ≤ length old → (out_refused T (length old) ≡ none)
        × (size_with rs cs qs ≡ length (out_bytes T)) × (over (with_pairs rs cs qs) old ≡ over (out_bytes T) old)
    unfolding out_refused
    out_done a b = (
      rw (is_whole ∙ a, le-leb (length (out_bytes T)) (length old) (omega (arith, out_size))) refl,
      out_size,
      ap (λ w. over w old) out_is,
    )
