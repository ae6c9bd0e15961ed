-- The line of a record, as the code puts it together, and how long it can be.
use mathlib.Core.Path.{◌≡◌, sym, ap, ◌∙◌}
use mathlib.Core.Logic.{◌≢◌}
use mathlib.Core.Bool.{Bool, true, false}
use mathlib.Core.List.{List, [], ◌++◌, append_assoc, append-nil}
use Prim.Native.Nat.{ℕ, zero, suc, ◌+◌, ◌*◌, ◌/◌, ◌≤◌, ◌<◌}
use native.Mathlib.Nat.{add-zero}
use native.Mathlib.Omega.{arith}
use lib.Dec.{eqb}
use lib.ListN.{length, get_or, drop, length-append}
use lib.Seq.{get_or-take, get_or-drop}
use Rattle.std.specs.Simd.{first_chunks}
use borrow.Author.Tests.{eq-eqb, ne_eqb}
use Rattle.meaning.specs.Files.{Quad, quad, quads}
use Rattle.meaning.specs.Finite.{pick}
use Rattle.meaning.specs.Ascii.{ascii}
use Rattle.meaning.specs.Text.{decimal, numbered, record_line, record_lines, kind_name}
use Rattle.constraints.specs.Record.{kind_number}
use Rattle.constraints.specs.declared.Kind.{Kind}
use Rattle.constraints.specs.declared.Kind.TheVariants.{Child, Below, StrictlyBelow, Same, Differ, Root, Leaf, Label, Before}
use Rattle.answers.proofs.Quads.{quad_at, quad_at_lem, no_quad}
use Rattle.putting.proofs.Numbers.{byte_digits}

-- two numbers with a space between them
abbrev pub pair : ℕ → ℕ → List ℕ
pair a b = decimal a ++ (ascii " " ++ decimal b)

pub pair_short : (a b : ℕ) → a < 256 → b < 256 → length (pair a b) ≤ 7
unfolding ascii
pair_short a b h l = omega (arith, length-append (decimal a) (ascii " " ++ decimal b), byte_digits a h, byte_digits b l)

module _ (k a b c : ℕ) where
  pub place_line : k ≢ 1 → (ascii "var " ++ pair a b) ++ ascii "\n" ≡ record_line (quad k a b c)
  unfolding record_line numbered pick
  place_line h = rw (ne_eqb k 1 h) (simp append_assoc)

  pub node_line : k ≡ 1 → (ascii "node " ++ pair a b) ++ (ascii " " ++ (decimal c ++ ascii "\n")) ≡ record_line (quad k a b c)
  unfolding record_line numbered pick
  node_line h = rw (eq-eqb k 1 h) (simp append_assoc)

  pub record_short : a < 256 → b < 256 → c < 256 → length (record_line (quad k a b c)) ≤ 17
  unfolding ascii record_line numbered pick
  record_short h l m = by (eqb k 1)
    where
      by : (t : Bool) → length (pick t (ascii "node " ++ (decimal a ++ (ascii " " ++ (decimal b ++ numbered " " c)))) (ascii "var " ++ (decimal a ++ numbered " " b))) ≤ 17
      by true = simp (length-append) (omega (arith, byte_digits a h, byte_digits b l, byte_digits c m))
      by false = simp (length-append) (omega (arith, byte_digits a h, byte_digits b l))

-- ---- the records as the loop has them

byte_of : (n : ℕ) (bs : List ℕ) (i j : ℕ) → i < n → j < 4 → get_or (get_or (first_chunks 4 n bs) i []) j 0 ≡ get_or
    bs (i * 4 + j) 0
byte_of zero bs i j h l = absurd (omega arith)
byte_of (suc n) bs zero j h l = let e : j ≡ zero * 4 + j = omega arith in get_or-take 4 bs j 0 l ∙ ap
    (λ (k : ℕ). get_or bs k 0) e
byte_of (suc n) bs (suc i) j h l =
    let e : 4 + (i * 4 + j) ≡ suc i * 4 + j = omega arith in
    byte_of n (drop 4 bs) i j (omega arith) l ∙ get_or-drop 4 bs (i * 4 + j) 0 ∙ ap (λ (k : ℕ). get_or bs k 0) e

-- the record of a chunk
abbrev pub quad_in : List ℕ → Quad
quad_in r = quad (get_or r 0 0) (get_or r 1 0) (get_or r 2 0) (get_or r 3 0)

pub chunk_quad : (bs : List ℕ) (rs : List (List ℕ)) → rs ≡ first_chunks 4 (length bs / 4) bs → (i : ℕ) → i < length
    bs / 4 → quad_in (get_or rs i []) ≡ quad_at bs i
chunk_quad bs rs e i h =
    rw (
      e,
      byte_of (length bs / 4) bs i 0 h (omega arith),
      byte_of (length bs / 4) bs i 1 h (omega arith),
      byte_of (length bs / 4) bs i 2 h (omega arith),
      byte_of (length bs / 4) bs i 3 h (omega arith),
      add-zero,
    )

-- one record more
pub lines_more : (bs text : List ℕ) (i : ℕ) → i < length bs / 4 → record_lines (quads bs) ≡ text ++ record_lines (drop i (quads bs))
    → record_lines (quads bs) ≡ (text ++ record_line (quad_at bs i)) ++ record_lines (drop (i + 1) (quads bs))
unfolding record_lines
lines_more bs text i h e = e ∙ ap (λ (qs : List Quad). text ++ record_lines qs) (quad_at_lem bs i h) ∙ sym (append_assoc text (record_line (quad_at bs i)) (record_lines (drop (i + 1) (quads bs))))

-- no record is left
pub lines_all : (bs text : List ℕ) (i : ℕ) → length bs / 4 ≤ i → record_lines (quads bs) ≡ text ++ record_lines (drop i (quads bs)) → text ≡ record_lines (quads bs)
unfolding record_lines
lines_all bs text i h e = sym (append-nil text) ∙ sym (ap (λ (qs : List Quad). text ++ record_lines qs) (no_quad bs i h)) ∙ sym e

pub name_short : (k : Kind) → length (ascii (kind_name (kind_number k))) ≤ 14
unfolding ascii kind_name pick
name_short Child = omega arith
name_short Below = omega arith
name_short StrictlyBelow = omega arith
name_short Same = omega arith
name_short Differ = omega arith
name_short Root = omega arith
name_short Leaf = omega arith
name_short Label = omega arith
name_short Before = omega arith
