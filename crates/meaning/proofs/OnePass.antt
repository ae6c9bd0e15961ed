-- One pass: from any record on, what is kept and the later records give the file's number or n.
use mathlib.Core.Path.{◌≡◌, refl, sym, ap, ◌∙◌, subst}
use mathlib.Core.Bool.{Bool, true, false}
use mathlib.Core.List.{List, [], ◌∷◌, ◌++◌}
use Prim.Native.Nat.{ℕ, max, ◌≤◌}
use native.Mathlib.Omega.{arith}
use lib.ListN.{length, length-append}
use Rattle.meaning.specs.Constraint.{named, vars}
use Rattle.meaning.specs.Finite.{Yes, pick, ◌and◌}
use Rattle.meaning.specs.Files.{Quad, quad, quads, Whole, JudgedRecord, bad, good, judge_pair, judge_single, judge_record, Judged, refused, accepted, with_rest, judge_records, judge}
use Rattle.meaning.specs.OnePass.{NumberOrN, number_refused, so_far, kept_of, counting, keep, onwards, FromHere, OnePass}
use Rattle.meaning.proofs.Records.{quads_append}
use Rattle.meaning.proofs.Tests.{pick_yes, le_yes, is_eq, eq_yes}

-- ---- docs/FORMAT.md's example, by computing

first_read : onwards (so_far 0) (quad 7 3 0 0 ∷ []) ≡ so_far 4
unfolding onwards keep counting judge_record judge_single named pick ◌and◌
first_read = refl

not_higher : onwards (so_far 4) (quad 1 0 1 0 ∷ []) ≡ so_far 4
unfolding onwards keep counting judge_record judge_pair named pick ◌and◌
not_higher = refl

refused_6 : onwards (so_far 4) (quad 6 0 16 0 ∷ []) ≡ number_refused 6
unfolding onwards keep counting judge_record judge_single pick ◌and◌
refused_6 = refl

still_6 : onwards (number_refused 6) (quad 0 0 0 0 ∷ quad 7 15 0 0 ∷ []) ≡ number_refused 6
unfolding onwards keep counting judge_record judge_single named pick ◌and◌
still_6 = refl

-- ---- the pass

onwards_append : (k : NumberOrN) (rs ss : List Quad) → onwards (onwards k rs) ss ≡ onwards k (rs ++ ss)
unfolding onwards
onwards_append k [] ss = refl
onwards_append k (r ∷ rs) ss = onwards_append (keep k r) rs ss

-- a number, once refused, is kept
pub onwards_refused : (q : ℕ) (rs : List Quad) → onwards (number_refused q) rs ≡ number_refused q
unfolding onwards keep
onwards_refused q [] = refl
onwards_refused q (r ∷ rs) = onwards_refused q rs

-- what the later records give where n variables were counted before
unfoldable from : ℕ → Judged → NumberOrN
from n (refused q) = number_refused q
from n (accepted cs) = so_far (max n (vars cs))

from_rest : (n : ℕ) (r : JudgedRecord) (rs : List Quad) (j : Judged) → ((m : ℕ) → onwards (so_far m) rs ≡ from m j) → onwards (counting n r) rs ≡ from n (with_rest r j)
unfolding counting from with_rest vars
from_rest n (bad q) rs j h = onwards_refused q rs
from_rest n (good c) rs (refused q) h = h (max n (named c))
from_rest n (good c) rs (accepted cs) h =
    let e : max (max n (named c)) (vars cs) ≡ max n (max (named c) (vars cs)) = omega arith in
    h (max n (named c)) ∙ ap so_far e

onwards_from : (n : ℕ) (bs : List ℕ) → Whole bs → onwards (so_far n) (quads bs) ≡ from n (judge_records bs)
unfolding onwards keep from judge_records quads vars
onwards_from n [] w = let e : n ≡ max n 0 = omega arith in ap so_far e
onwards_from n (k ∷ []) w = absurd (omega arith)
onwards_from n (k ∷ x ∷ []) w = absurd (omega arith)
onwards_from n (k ∷ x ∷ y ∷ []) w = absurd (omega arith)
onwards_from n (k ∷ x ∷ y ∷ l ∷ bs) w = from_rest n _ (quads bs) (judge_records bs) (λ m. onwards_from m bs (omega arith))

from_start : (j : Judged) → from 0 j ≡ kept_of j
unfolding from kept_of
from_start (refused q) = refl
from_start (accepted cs) = let e : max 0 (vars cs) ≡ vars cs = omega arith in ap so_far e

-- ---- of a file

-- the file's number or n, where questions 1 and 2 are passed
pass_of_file : (file : List ℕ) → length file ≤ 1024 → Whole file → onwards (so_far 0) (quads file) ≡ kept_of (judge file)
unfolding judge
pass_of_file file l w =
    onwards_from 0 file w ∙ from_start (judge_records file) ∙ ap kept_of (sym (pick_yes _ _ (le_yes l) ∙ pick_yes _ _ (eq_yes w)))

split_here : (read coming : List ℕ) → length (read ++ coming) ≤ 1024 → Whole (read ++ coming) → Whole read → FromHere read coming
split_here read coming l w v = record {
  kept = kept read l v;
  gives = gives read l v;
  alone = λ others u m e. sym (gives others m u) ∙ ap (λ (k : NumberOrN). onwards k (quads coming)) e ∙ gives read l v;
}
  where
    kept : (front : List ℕ) → length (front ++ coming) ≤ 1024 → Whole front → onwards (so_far 0) (quads front) ≡ kept_of (judge front)
    kept front m u = let a = length-append front coming in pass_of_file front (omega arith) u

    gives : (front : List ℕ) → length (front ++ coming) ≤ 1024 → Whole front → onwards (kept_of (judge front)) (quads coming) ≡ kept_of (judge (front ++ coming))
    gives front m u =
        let a = length-append read coming in
        let b = length-append front coming in
        ap (λ (k : NumberOrN). onwards k (quads coming)) (sym (kept front m u))
        ∙ onwards_append (so_far 0) (quads front) (quads coming)
        ∙ ap (onwards (so_far 0)) (sym (quads_append front coming u))
        ∙ pass_of_file (front ++ coming) m (omega (arith, w, u, v))

asked : (b : Bool) (j : Judged) (k : NumberOrN) (q : ℕ) → (Yes b → kept_of j ≡ k) → kept_of (pick b j (refused q)) ≡ pick b k (number_refused q)
unfolding pick kept_of
asked true j k q f = f refl
asked false j k q f = refl

pub one_pass : (file : List ℕ) → OnePass file
unfolding judge
one_pass file = record {
  is_pass = asked _ _ _ 1 (λ l. asked _ _ _ 2 (λ w. sym (onwards_from 0 file (is_eq w) ∙ from_start (judge_records file))));
  from_any_record = λ l w {read} {coming} e v. split_here read coming (subst (λ (bs : List ℕ). length bs ≤ 1024) e l) (subst Whole e w) v;
}
