-- Node records alone that are shortened are judged as all of them are, whatever follows: more than 64 records are refused by 9 or by 10, and by
-- which of them depends only on whether all are node records.
use mathlib.Core.Path.{◌≡◌, refl, sym, ap, ◌∙◌}
use mathlib.Core.Bool.{Bool, true, false}
use mathlib.Core.List.{List, [], ◌∷◌, ◌++◌, append-nil, append_assoc}
use Prim.Native.Nat.{ℕ, ◌%◌, ◌≤◌, ◌<◌}
use native.Mathlib.Decide.{dec_lt, ℕ_discrete}
use native.Mathlib.Omega.{arith}
use lib.Dec.{eqb}
use lib.ListN.{length, drop, length-append}
use lib.Seq.{drop-length}
use borrow.Author.Tests.{eq-eqb, ne_eqb, le-leb, lt-leb}
use Rattle.meaning.specs.Finite.{pick, ◌and◌}
use Rattle.meaning.specs.Files.{Quad, quads, all_places, all_nodes, refused_nodes, judge_nodes}
use Rattle.answers.specs.Judgement.{leading}
use Rattle.answers.specs.Shorter.{kind_of_all, shortened}
use Rattle.answers.specs.Pieces.{kept, joined, NodesAsJoined}
use Rattle.answers.proofs.Steps.{and_assoc}
use Rattle.answers.proofs.NodesAlone.{leading_all_nodes, leading_some_nodes}
use Rattle.answers.proofs.Shorter.{stand_in, kind_after_nodes, front, first81, behind81, is_81, front_quads, all_quads, same_rest, is_shortened, short_kept, part_kept}

-- ---- all are node records

all_nodes_append : (f u : List Quad) → all_nodes (f ++ u) ≡ all_nodes f and all_nodes u
unfolding all_nodes ◌and◌
all_nodes_append [] u = refl
all_nodes_append (q ∷ f) u = rw (all_nodes_append f u) (and_assoc (eqb q.first 1) _ _)

kind_nodes : (g : List Quad) → eqb (kind_of_all g) 1 ≡ all_nodes g
unfolding kind_of_all all_places pick
kind_nodes g = by (ℕ_discrete (leading g) (length g))
  where
    other : (b : Bool) → eqb (pick b 2 0) 1 ≡ false
    other true = refl
    other false = refl

    by : Dec (leading g ≡ length g) → eqb (pick (all_places (drop (leading g) g)) (pick (eqb (leading g) (length g)) 1 2) 0) 1 ≡ all_nodes g
    by (yes e) = rw (e, drop-length g, eq-eqb (length g) (length g) refl, leading_all_nodes g e)
    by (no n) = rw (ne_eqb (leading g) (length g) n, leading_some_nodes g n) (other (all_places (drop (leading g) g)))

same_nodes : (f g w : List Quad) → all_nodes (f ++ (stand_in (kind_of_all (f ++ g)) ∷ w)) ≡ all_nodes (f ++ (g ++ w))
unfolding all_nodes ◌and◌
same_nodes f g w = rw (all_nodes_append f (stand_in (kind_of_all (f ++ g)) ∷ w), all_nodes_append f (g ++ w), all_nodes_append g w) (by (ℕ_discrete (leading f) (length f)))
  where
    by : Dec (leading f ≡ length f) → all_nodes f and (eqb (kind_of_all (f ++ g)) 1 and all_nodes w) ≡ all_nodes f and (all_nodes g and all_nodes w)
    by (yes e) = rw (kind_after_nodes f g e, kind_nodes g)
    by (no n) = rw (leading_some_nodes f n)

-- ---- more than 64 records

many : (bs : List ℕ) → 64 < length (quads bs) → judge_nodes bs ≡ pick (eqb (length bs % 4) 0) (pick (all_nodes (quads bs)) (refused_nodes 10) (refused_nodes 9)) (refused_nodes 8)
unfolding judge_nodes pick ◌and◌
many bs l = rw (le-leb 2 (length (quads bs)) (omega arith), lt-leb (length (quads bs)) 64 l)

module _ (bs : List ℕ) (m : length bs % 4 ≡ 0) (h : 328 ≤ length bs) (more : List ℕ) where
  long_front : 64 < length (quads (front bs ++ more))
  long_front =
      let a = ap length (front_quads bs m h more) in
      let b = length-append (first81 bs m h) (stand_in (kind_of_all (first81 bs m h ++ behind81 bs m h)) ∷ quads more) in
      let c = is_81 bs m h in
      omega arith

  long_all : 64 < length (quads (bs ++ more))
  long_all =
      let a = ap length (all_quads bs m h more) in
      let b = length-append (first81 bs m h) (behind81 bs m h ++ quads more) in
      let c = is_81 bs m h in
      omega arith

  front_nodes : judge_nodes (front bs ++ more) ≡ judge_nodes (bs ++ more)
  front_nodes =
      let s : all_nodes (quads (front bs ++ more)) ≡ all_nodes (quads (bs ++ more)) =
      ap all_nodes (front_quads bs m h more) ∙ same_nodes (first81 bs m h) (behind81 bs m h) (quads more) ∙ ap all_nodes (sym (all_quads bs m h more)) in
      rw (many (front bs ++ more) long_front, many (bs ++ more) long_all, same_rest bs m h more, s)

shorter_nodes : (bs more : List ℕ) → judge_nodes (shortened bs ++ more) ≡ judge_nodes (bs ++ more)
shorter_nodes bs more = by (dec_lt (length bs) 328) (ℕ_discrete (length bs % 4) 0)
  where
    by : Dec (length bs < 328) → Dec (length bs % 4 ≡ 0) → judge_nodes (shortened bs ++ more) ≡ judge_nodes (bs ++ more)
    by (yes l) d = rw (short_kept bs l)
    by (no l) (no n) = rw (part_kept bs n)
    by (no l) (yes m) = rw (is_shortened bs m (omega arith)) (front_nodes bs m (omega arith) more)

-- ---- the pieces

kept_then : (pieces : List (List ℕ)) (more : List ℕ) → judge_nodes (kept pieces ++ more) ≡ judge_nodes (joined pieces ++ more)
unfolding kept joined
kept_then [] more = refl
kept_then (piece ∷ pieces) more = shorter_nodes (kept pieces ++ piece) more ∙ rw (append_assoc, append_assoc) (kept_then pieces (piece ++ more))

pub nodes_as_joined : NodesAsJoined
nodes_as_joined pieces = rw (append-nil, append-nil) at (kept_then pieces [])
