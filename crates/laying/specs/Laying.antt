-- Pieces laid into a buffer one behind the other (02, job 4): together they are the output, and what lies behind it stays.
use Rattle.std.specs.Prelude.{ℕ, ◌+◌, ◌-◌, ◌≤◌, ◌<◌, ◌≡◌, refl, false, cond, leb, length, set, take, drop}
use Rattle.std.proofs.Common.{sym, ◌∙◌, ap, ap₂, arith, zero-add, add-zero, le-leb, length-append, take_at, drop-drop, length-take-le}
use mathlib.Core.List.{List, [], ◌∷◌, ◌++◌, flatten, append_assoc}
use Rattle.std.proofs.Math.Decide.{dec_le}
use Rattle.std.proofs.lemmas.Bool.{lt-leb}
use Rattle.std.proofs.Math.Seq.{paste, paste-zero, paste-suc, take-length, drop-append-add}
use Rattle.std.proofs.lemmas.List.Edits.{length-paste}

-- the text at a place, and all other bytes as before
unfoldable pub laid : List ℕ → ℕ → List ℕ → List ℕ
laid old at text = take at old ++ text ++ drop (at + length text) old

-- what a function lays: the text if it fits, else nothing
unfoldable pub laid_in : List ℕ → ℕ → List ℕ → List ℕ
laid_in old at text = cond (leb (at + length text) (length old)) (laid old at text) old

-- pieces from a place on, one behind the other
unfoldable pub laid_from : ℕ → List (List ℕ) → List ℕ → List ℕ
laid_from at [] old = old
laid_from at (w ∷ ws) old = laid_from (at + length w) ws (laid_in old at w)

-- ---- the test
pub leb_minus : (at n room : ℕ) → n ≤ room → leb at (room - n) ≡ leb (at + n) room
leb_minus at n room h = elim (dec_le (at + n) room) [
  | yes l ↦ le-leb at (room - n) (omega arith) ∙ sym (le-leb (at + n) room l)
  | no l ↦ lt-leb at (room - n) (omega arith) ∙ sym (lt-leb (at + n) room (omega arith))
]

pub laid_past : (old : List ℕ) (at : ℕ) (text : List ℕ) → leb (at + length text) (length old) ≡ false → old ≡ laid_in old at text
unfolding laid_in
laid_past old at text h = rw h refl

pub laid_fits : (old : List ℕ) (at : ℕ) (text : List ℕ) → at + length text ≤ length old → laid_in old at text ≡ laid old at text
unfolding laid_in
laid_fits old at text h = rw (le-leb (at + length text) (length old) h) refl

-- ---- stores
-- all of the text that is copied is laid
pub laid_copied : (old : List ℕ) (at : ℕ) (text : List ℕ) → paste old at text (length text) ≡ laid old at text
unfolding laid
laid_copied old at text = ap (λ w. take at old ++ w ++ drop (at + length text) old) (take-length text)

-- one byte
pub laid_one : (old : List ℕ) (at a : ℕ) → at < length old → set old at a ≡ laid old at (a ∷ [])
laid_one old at a h = rw (add-zero at) at ((ap (λ l. set l (at + 0) a) (paste-zero old at (a ∷ [])))
    ∙ paste-suc old at (a ∷ []) 0 0 (omega arith) (omega arith)) ∙ laid_copied old at (a ∷ [])

-- two bytes, one after the other
pub laid_two : (old : List ℕ) (at a b : ℕ) → at + 2 ≤ length old → set (set old at a) (at + 1) b ≡ laid old at (a ∷ b ∷ [])
laid_two old at a b h = ap (λ l. set l (at + 1) b) first ∙ second ∙ laid_copied old at (a ∷ b ∷ [])
  where
    first : set old at a ≡ paste old at (a ∷ b ∷ []) 1
    first = rw (add-zero at) at ((ap (λ l. set l (at + 0) a) (paste-zero old at (a ∷ b ∷ [])))
        ∙ paste-suc old at (a ∷ b ∷ []) 0 0 (omega arith) (omega arith))

    second : set (paste old at (a ∷ b ∷ []) 1) (at + 1) b ≡ paste old at (a ∷ b ∷ []) 2
    second = paste-suc old at (a ∷ b ∷ []) 1 0 (omega arith) (omega arith)

-- ---- pieces
-- a piece behind a piece is one piece
pub laid_on : (old : List ℕ) (at : ℕ) (u v : List ℕ) → at + length u ≤ length old
    → laid (laid old at u) (at + length u) v ≡ laid old at (u ++ v)
unfolding laid
laid_on old at u v h = ap₂ (λ a b. a ++ v ++ b) (take_at front rest (at + length u) long) behind
    ∙ ap (λ a. a ++ tail) (append_assoc (take at old) u v)
  where
    front : List ℕ
    front = take at old ++ u

    rest : List ℕ
    rest = drop (at + length u) old

    tail : List ℕ
    tail = drop (at + length (u ++ v)) old

    long : length front ≡ at + length u
    long = length-append (take at old) u ∙ ap (λ n. n + length u) (length-take-le at old (omega arith))

    behind : drop (at + length u + length v) (front ++ rest) ≡ tail
    behind = ap (λ n. drop (n + length v) (front ++ rest)) (sym long) ∙ drop-append-add front rest (length v)
        ∙ drop-drop (length v) (at + length u) old
        ∙ ap (λ n. drop n old) (let z : at + length u + length v ≡ at + length (u ++ v) = omega (arith, length-append u v) in z)

pub laid_long : (old : List ℕ) (at : ℕ) (text : List ℕ) → at + length text ≤ length old → length (laid old at text) ≡ length old
laid_long old at text h = ap length (sym (laid_copied old at text)) ∙ length-paste old at text (length text) h (omega arith)

-- pieces are their bytes, in one piece
pub laid_pieces : (at : ℕ) (ws : List (List ℕ)) (old : List ℕ) → at + length (flatten ws) ≤ length old
    → laid_from at ws old ≡ laid old at (flatten ws)
unfolding laid_from flatten
laid_pieces at [] old h = paste-zero old at [] ∙ laid_copied old at []
laid_pieces at (w ∷ ws) old h = let l = length-append w (flatten ws) in
    ap (laid_from (at + length w) ws) (laid_fits old at w (omega arith)) ∙ laid_pieces (at + length w) ws (laid old at w) (omega
    (arith, laid_long old at w (omega arith)))
    ∙ laid_on old at w (flatten ws) (omega arith)

-- so from the front on they leave their bytes, and behind them the old ones: what a writer leaves if nothing refuses
pub laid_output : (ws : List (List ℕ)) (old : List ℕ) → length (flatten ws) ≤ length old
    → laid_from 0 ws old ≡ flatten ws ++ drop (length (flatten ws)) old
unfolding laid
laid_output ws old h = laid_pieces 0 ws old (omega arith) ∙ ap (λ n. flatten ws ++ drop n old) (zero-add (length (flatten ws)))
