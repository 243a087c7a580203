-- The writer's answers in their order: 1 to 8 and 26, 9 to 15 of the graph, then 21, then 22, then the line.
use Rattle.std.specs.Prelude.{ℕ, ◌*◌, ◌≤◌, ◌<◌, ◌≡◌, refl, List, length, Result, Ok, Err}
use Rattle.std.proofs.Math.Path.{sym}
use Rattle.std.proofs.Common.{◌∙◌, ap, subst, arith, mul-le-mul, mul-le-mul_right, one-mul, le-leb}
use Rattle.std.proofs.Math.Option.{Option, none, some}
use Rattle.std.proofs.lemmas.Bool.{lt-leb}
use Rattle.logic.specs.Tests.{and_l}
use Rattle.logic.specs.Refusals.{Refusal, unless, unless↔, refuse, refuse↔, first_of}
use Rattle.labels.specs.Labels.{name_bytes}
use Rattle.evidence.specs.declared.Layout.{Layout}
use Rattle.evidence.specs.Evidence.{record_count, head_test, head↔}
use Rattle.copies.specs.Copying.{copies_in}
use Rattle.lines.specs.Lines.{line_length, most_elements}
use Rattle.answers.specs.declared.Reason.TheVariants.{Big, Short}
use Rattle.answers.specs.declared.Refusal as Refusals
use Rattle.answers.specs.Reasons.{refused}
use Rattle.answers.specs.Answers.{answer, numbered, WRITTEN, of_written, length_of, unless_refused}
use Rattle.nodes.specs.NodeSteps.{root_set}
use Rattle.graph_check.specs.GraphEvidence.{graph_head}
use Rattle.graph_check.specs.GraphSteps.{layout_in, graph_code}
use Rattle.line_writer.specs.Writing.{room_test}
use Rattle.line_writer.specs.WriteSteps.{transitives_in}
use Rattle.line_writer.specs.WriteBytes.{LaidLine}

-- the number of elements, and the length of their line, by the evidence
abbrev pub size_in : Layout → List ℕ → ℕ
size_in f s = record_count s * copies_in f s (record_count s)

abbrev pub length_in : Layout → ℕ → ℕ
length_in f size = line_length (name_bytes f.wide) size

-- what the buffer is afterwards: the laid line, or as before
abbrev pub After : ℕ → List ℕ → Layout → List ℕ → List ℕ → List ℕ → List ℕ → Option Refusal → Type 0
After t cs f s a old new none = LaidLine t cs f s a (copies_in f s (record_count s)) (size_in f s) old new
After t cs f s a old new (some z) = new ≡ old

-- the answer, its length, and the buffer, after the refusals o
pub record Told (t : ℕ) (cs : List ℕ) (f : Layout) (s a old new : List ℕ) (r : Result ℕ Refusals.Refusal) (o : Option Refusal) : Type 0 where
  pub says : of_written r ≡ answer WRITTEN o
  pub long : length_of r ≡ unless_refused 0 (length_in f (size_in f s)) o
  pub after : After t cs f s a old new o

-- 21, then 22
abbrev pub room_in : Layout → List ℕ → ℕ → Option Refusal
room_in f s n = refuse 0 (room_test (size_in f s) (length_in f (size_in f s)) n) none

-- a product of numbers within bounds
pub product_within : (x a y b : ℕ) → x ≤ a → y ≤ b → x * y ≤ a * b
product_within x a y b h k = mul-le-mul h k

pub size_read : (f : Layout) (s : List ℕ) (n k size : ℕ) → n ≡ record_count s → k ≡ copies_in f s n → size ≡ n * k → size ≡ size_in f s
size_read f s n k size p q r = rw (r, q, p) refl

pub some_copy : (f : Layout) (s : List ℕ) (n k : ℕ) → k ≡ copies_in f s n → 1 ≤ k
unfolding copies_in
some_copy f s n k e = omega arith

-- there are no more copies of a record than elements
pub copies_few : (n k size : ℕ) → 1 ≤ n → size ≡ n * k → k ≤ size
copies_few n k size h e = omega (arith, mul-le-mul_right k h, one-mul k)

module _ (t : ℕ) (cs : List ℕ) (f : Layout) (s a old : List ℕ) (size : ℕ) (e : size ≡ size_in f s) where
  pub too_big : most_elements < size → Told t cs f s a old old (Err (refused Big 0)) (room_in f s (length old))
  too_big h = let z : most_elements < size_in f s = omega arith in rw (lt-leb _ _ z) (record { says = refl; long = refl; after = refl })

  pub too_short_lem : size ≤ most_elements → length old < length_in f size → Told t cs f s a old old (Err (refused Short 0)) (room_in f s (length old))
  too_short_lem h g = let z : size_in f s ≤ most_elements = omega arith in let y : length old < length_in f (size_in f s) = rw e at g in
      rw (le-leb _ _ z, lt-leb _ _ y) (record { says = refl; long = refl; after = refl })

  pub laid_out : (new : List ℕ) (n k len : ℕ) → n ≡ record_count s → k ≡ copies_in f s n → len ≡ length_in f size
      → size ≤ most_elements → len ≤ length old
      → LaidLine t cs f s a k size old new → Told t cs f s a old new (Ok len) (room_in f s (length old))
  laid_out new n k len p q r h g L = let z : size_in f s ≤ most_elements = omega arith in
      let y : length_in f (size_in f s) ≤ length old = rw (r, e) at g in
      let u : k ≡ copies_in f s (record_count s) = q ∙ ap (copies_in f s) p in
      rw (le-leb _ _ z, le-leb _ _ y) (record { says = refl; long = r ∙ ap (length_in f) e; after = rw (u, e) at L })

-- of evidence that is stored as for the part cs
abbrev pub ToldOf : ℕ → List ℕ → List ℕ → List ℕ → List ℕ → List ℕ → Result ℕ Refusals.Refusal → Type 0
ToldOf t cs s a old new r = Told t cs (layout_in cs) s a old new r (room_in (layout_in cs) s (length old))

pub told_of : (t : ℕ) (cs : List ℕ) (f : Layout) (s a old new : List ℕ) (r : Result ℕ Refusals.Refusal) → f ≡ layout_in cs
    → Told t cs f s a old new r (room_in f s (length old)) → ToldOf t cs s a old new r
told_of t cs f s a old new r e T = subst (λ g. Told t cs g s a old new r (room_in g s (length old))) e T

-- ---- an opened description: 9 to 15 of the graph, then those, by the masks a of m roles
abbrev pub OpenedTold : List ℕ → ℕ → List ℕ → List ℕ → List ℕ → List ℕ → List ℕ → Result ℕ Refusals.Refusal → Type 0
OpenedTold a m cs qs s old new r = Told (transitives_in a m) cs (layout_in cs) s a old new r
    (first_of (graph_code a m cs qs (root_set qs) s) (room_in (layout_in cs) s (length old)))

module _ (a : List ℕ) (m : ℕ) (cs qs s old : List ℕ) where
  pub graph_stops : (r : Refusals.Refusal) → some (numbered r) ≡ graph_code a m cs qs (root_set qs) s
      → OpenedTold a m cs qs s old old (Err r)
  graph_stops r e = rw (← e) (record { says = refl; long = refl; after = refl })

  pub graph_on : none ≡ graph_code a m cs qs (root_set qs) s → (t : ℕ) (new : List ℕ) (r : Result ℕ Refusals.Refusal)
      → t ≡ transitives_in a m → ToldOf t cs s a old new r → OpenedTold a m cs qs s old new r
  graph_on e t new r p T = rw (← e, ← p) T

  pub some_record : none ≡ graph_code a m cs qs (root_set qs) s → 1 ≤ record_count s
  unfolding graph_code
  some_record e = let k = ((refuse↔ 0 (unless (graph_head s) 9 none) _).0 (sym e)).0 in
      ((head↔ s).0 (and_l (head_test s) _ ((unless↔ (graph_head s) 9 none).0 k).0)).1.0
