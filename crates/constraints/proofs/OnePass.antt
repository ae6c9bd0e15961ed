-- The loop of `constraints::judge` is the meaning's pass: where it reads the record at the byte `at`, what it keeps is n of the records before.
use mathlib.Core.Path.{◌≡◌, refl, sym, ap, ◌∙◌}
use mathlib.Core.Logic.{◌⊎◌, inl, inr, ◌≢◌, ⊎_elim}
use mathlib.Core.Bool.{true}
use Rattle.std.specs.Prelude.{Ok, Err}
use Rattle.std.specs.Simd.{first_chunks}
use native.Mathlib.Nat.{add-zero}
use mathlib.Core.List.{List, [], ◌∷◌}
use Prim.Native.Nat.{ℕ, zero, suc, max, ◌+◌, ◌*◌, ◌/◌, ◌≤◌, ◌<◌, ◌%◌}
use native.Mathlib.Omega.{arith}
use lib.ListN.{length, get_or, take, drop, take-append-drop}
use lib.Seq.{length-take-le, take_all, take-add, get_or-take, get_or-drop}
use Rattle.meaning.specs.Constraint.{vars}
use Rattle.meaning.specs.Finite.{pick}
use Rattle.meaning.specs.Files.{quads, Whole, bad, judge_record, judge_records, judge}
use Rattle.meaning.specs.OnePass.{so_far, kept_of, counting, keep, onwards, FromHere}
use Rattle.meaning.proofs.OnePass.{onwards_refused, one_pass}
use Rattle.constraints.specs.Judgement.{is_good, judgement_of, judgement}
use Rattle.constraints.proofs.Passing.{good_record}
use Rattle.constraints.proofs.Records.{here, drop_four}

-- the records before the byte `at` are accepted, and n of them is this
abbrev ReadSoFar : List ℕ → ℕ → ℕ → Type 0
ReadSoFar file at n = kept_of (judge (take at file)) ≡ so_far n

-- n is one more than the highest variable, and 0 before the first record
abbrev OneMore : ℕ → ℕ → ℕ → Type 0
OneMore at highest n = ((at ≡ 0) × (highest ≡ 0) × (n ≡ 0)) ⊎ (n ≡ suc highest)

-- what the loop keeps of the records before `at` is n
pub record Keeps (file : List ℕ) (at highest : ℕ) : Type 0 where
  pub n : ℕ
  pub read : ReadSoFar file at n
  pub one_more : OneMore at highest n
  pub low : highest ≤ 15

pub none_read : (file : List ℕ) → Keeps file 0 0
unfolding judge judge_records kept_of vars pick
none_read file = record { n = 0; read = refl; one_more = inl (refl, refl, refl); low = omega arith }

pub no_records : (file : List ℕ) → length file ≡ 0 → judgement file ≡ Ok 0
unfolding judgement judgement_of judge judge_records kept_of vars pick
no_records [] e = refl
no_records (b ∷ bs) e = absurd (omega arith)

module _ (file : List ℕ) (short : length file ≤ 1024) (whole : Whole file) where
  split_here : (at : ℕ) → at ≤ length file → at % 4 ≡ 0 → FromHere (take at file) (drop at file)
  split_here at l w = (one_pass file).from_any_record short whole (sym (take-append-drop at file)) (ap (λ (k : ℕ). k % 4) (length-take-le at file l) ∙ w)

  split_next : (at : ℕ) → at + 4 ≤ length file → at % 4 ≡ 0 → FromHere (take at file) (take 4 (drop at file))
  split_next at l w =
      let e = length-take-le (at + 4) file l in
      (one_pass (take (at + 4) file)).from_any_record (omega arith) (omega (arith, w)) (take-add at 4 file) (ap (λ (k : ℕ). k % 4) (length-take-le at file (omega arith)) ∙ w)

  -- the record at `at` is refused: so is the file, whatever comes after it
  pub refused_here : (at highest q : ℕ) → at + 3 < length file → at % 4 ≡ 0 → Keeps file at highest
      → here file at ≡ bad q → judgement file ≡ Err q
  unfolding judgement judgement_of onwards keep counting quads
  refused_here at highest q l w s e =
      let kept : kept_of (judge file) ≡ onwards (counting s.n (here file at)) (quads (drop (at + 4) file)) =
      ap (λ (bs : List ℕ). kept_of (judge bs)) (sym (take-append-drop at file)) ∙ sym (split_here at (omega arith) w).gives ∙ rw (s.read, drop_four file at l)
      in
      rw (kept, e, onwards_refused q (quads (drop (at + 4) file)))

  counted : (at n : ℕ) → at + 3 < length file → at % 4 ≡ 0 → ReadSoFar file at n → kept_of (judge (take (at + 4) file)) ≡ counting n (here file at)
  unfolding onwards keep quads
  counted at n l w s =
      ap (λ (bs : List ℕ). kept_of (judge bs)) (take-add at 4 file) ∙ sym (split_next at (omega arith) w).gives ∙ rw (s, drop_four file at l)

  -- it passes: its x and y are counted too
  pub one_read : (at highest : ℕ) → at + 3 < length file → at % 4 ≡ 0 → Keeps file at highest → is_good (here file at) ≡ true
      → Keeps file (at + 4) (max (max highest (get_or file (at + 1) 0)) (get_or file (at + 2) 0))
  one_read at highest l w s e =
      let x = get_or file (at + 1) 0 in
      let y = get_or file (at + 2) 0 in
      let k = good_record s.n _ _ _ _ e in
      record {
        n = max s.n (suc (max x y));
        read = counted at s.n l w s.read ∙ k.counts;
        one_more = inr (⊎_elim (λ z. omega (arith, z.1, z.2)) (λ z. omega (arith, z)) s.one_more);
        low = omega (arith, s.low, k.low_x, k.low_y);
      }

-- ---- the records as the loop has them

-- with no record and no rest a file is empty, and it is read once as many records are
pub file_empty : (n : ℕ) {a b : ℕ} → a ≡ n / 4 → b ≡ n % 4 → a ≡ 0 → b ≡ 0 → n ≡ 0
file_empty n e f g h = omega arith

pub file_read : (n i : ℕ) {a b : ℕ} → a ≡ n / 4 → b ≡ n % 4 → a ≤ i → b ≡ 0 → n ≤ i * 4
file_read n i e f g h = omega arith

pub some_records : (n : ℕ) {a : ℕ} → a ≡ n / 4 → a ≢ 0 → n ≢ 0
some_records n e f z = f (omega arith)

byte_of : (n : ℕ) (bs : List ℕ) (i j : ℕ) → i < n → j < 4
    → get_or (get_or (first_chunks 4 n bs) i []) j 0 ≡ get_or bs (i * 4 + j) 0
byte_of zero bs i j h l = absurd (omega arith)
byte_of (suc n) bs zero j h l =
    let e : j ≡ zero * 4 + j = omega arith in get_or-take 4 bs j 0 l ∙ ap (λ (k : ℕ). get_or bs k 0) e
byte_of (suc n) bs (suc i) j h l =
    let e : 4 + (i * 4 + j) ≡ suc i * 4 + j = omega arith in
    byte_of n (drop 4 bs) i j (omega arith) l ∙ get_or-drop 4 bs (i * 4 + j) 0 ∙ ap (λ (k : ℕ). get_or bs k 0) e

module _ (file : List ℕ) (rs : List (List ℕ)) (short : length file ≤ 1024) (whole : Whole file)
    (cut : rs ≡ first_chunks 4 (length file / 4) file) (many : length rs ≡ length file / 4) (i : ℕ)
    (h : i < length rs) where
  abbrev byte : ℕ → ℕ
  byte j = get_or (get_or rs i []) j 0

  byte_is : (j : ℕ) → j < 4 → byte j ≡ get_or file (i * 4 + j) 0
  byte_is j l =
      ap (λ (r : List (List ℕ)). get_or (get_or r i []) j 0) cut ∙ byte_of (length file / 4) file i j (omega arith) l

  is_here : judge_record (byte 0) (byte 1) (byte 2) (byte 3) ≡ here file (i * 4)
  is_here =
      rw (
        byte_is 0 (omega arith),
        byte_is 1 (omega arith),
        byte_is 2 (omega arith),
        byte_is 3 (omega arith),
        add-zero,
      )

  -- the record at i is refused
  pub refused_record : {highest q : ℕ} → Keeps file (i * 4) highest
      → judge_record (byte 0) (byte 1) (byte 2) (byte 3) ≡ bad q → judgement file ≡ Err q
  refused_record s e = refused_here file short whole (i * 4) _ _ (omega arith) (omega arith) s (sym is_here ∙ e)

  -- it passes
  pub record_read : {highest : ℕ} → Keeps file (i * 4) highest
      → is_good (judge_record (byte 0) (byte 1) (byte 2) (byte 3)) ≡ true
      → Keeps file ((i + 1) * 4) (max (max highest (byte 1)) (byte 2))
  record_read {highest} s e =
      let n : i * 4 + 4 ≡ (i + 1) * 4 = omega arith in
      rw (byte_is 1 (omega arith), byte_is 2 (omega arith), ← n)
      (one_read file short whole (i * 4) highest (omega arith) (omega arith) s (ap is_good (sym is_here) ∙ e))

-- no record is left
pub all_read : (file : List ℕ) (at highest : ℕ) → length file ≤ at → length file ≢ 0 → Keeps file at highest
    → judgement file ≡ Ok (highest + 1)
unfolding judgement judgement_of
all_read file at highest l some s = ⊎_elim (λ z. absurd (some (omega (arith, l, z.0)))) (λ z. answer (omega (arith, z))) s.one_more
  where
    kept : kept_of (judge file) ≡ so_far s.n
    kept = rw (take_all at file l) at s.read

    answer : s.n ≡ highest + 1 → judgement_of (kept_of (judge file)) ≡ Ok (highest + 1)
    answer e = ap judgement_of (kept ∙ ap so_far e)
