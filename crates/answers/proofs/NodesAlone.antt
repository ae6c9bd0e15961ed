-- Questions 8 to 11 of node records alone, in the code's terms: all are node records exactly when as many stand at the front as there are.
use mathlib.Core.Path.{◌≡◌, refl, ap, ◌∙◌}
use mathlib.Core.Bool.{Bool, true, false}
use mathlib.Core.List.{List, [], ◌∷◌, map}
use Prim.Native.Nat.{ℕ, suc, ◌/◌, ◌%◌}
use native.Mathlib.Omega.{arith}
use lib.Dec.{eqb, leb}
use lib.ListN.{length, length-map}
use borrow.Author.Tests.{eq-eqb, ne_eqb}
use Rattle.meaning.specs.Finite.{pick, ◌and◌}
use Rattle.meaning.specs.ReadOff.{NodeRecord}
use Rattle.meaning.specs.Files.{Quad, quads, nodes_fine, node_of, all_nodes, JudgedNodes, refused_nodes, accepted_nodes, judge_nodes}
use Rattle.meaning.proofs.Records.{length_quads}
use Rattle.answers.specs.Judgement.{leading, judged_nodes_as, nodes_judgement, nodes_checked}
use Rattle.std.specs.Prelude.{Ok, Err}

pub leading_all_nodes : (qs : List Quad) → leading qs ≡ length qs → all_nodes qs ≡ true
unfolding leading all_nodes pick ◌and◌
leading_all_nodes [] e = refl
leading_all_nodes (q ∷ qs) e = by (eqb q.first 1) (leading_all_nodes qs) e
  where
    by : (b : Bool) → (leading qs ≡ length qs → all_nodes qs ≡ true) → pick b (suc (leading qs)) 0 ≡ suc (length qs) → b and all_nodes qs ≡ true
    by true r d = r (omega arith)
    by false r d = absurd (omega arith)

pub leading_some_nodes : (qs : List Quad) → (leading qs ≡ length qs → ⊥) → all_nodes qs ≡ false
unfolding leading all_nodes pick ◌and◌
leading_some_nodes [] n = absurd (n refl)
leading_some_nodes (q ∷ qs) n = by (eqb q.first 1) (leading_some_nodes qs) n
  where
    by : (b : Bool) → ((leading qs ≡ length qs → ⊥) → all_nodes qs ≡ false) → (pick b (suc (leading qs)) 0 ≡ suc (length qs) → ⊥) → b and all_nodes qs ≡ false
    by true r m = r (λ e. m (ap suc e))
    by false r m = refl

module _ (bs : List ℕ) where
  pub nodes_8 : (length bs % 4 ≡ 0 → ⊥) → judge_nodes bs ≡ refused_nodes 8
  unfolding judge_nodes pick
  nodes_8 h = rw (ne_eqb _ _ h)

  module _ (m : length bs % 4 ≡ 0) (k : ℕ) (e : k ≡ leading (quads bs)) where
    pub nodes_9 : (k ≡ length bs / 4 → ⊥) → judge_nodes bs ≡ refused_nodes 9
    unfolding judge_nodes pick
    nodes_9 n = rw (eq-eqb _ _ m, leading_some_nodes (quads bs) (λ d. n (e ∙ d ∙ length_quads bs)))

    is_all : k ≡ length bs / 4 → all_nodes (quads bs) ≡ true
    is_all d = leading_all_nodes (quads bs) (omega (arith, length_quads bs))

    pub nodes_10_11 : k ≡ length bs / 4 → nodes_judgement bs ≡ nodes_checked (quads bs)
    unfolding nodes_judgement judged_nodes_as judge_nodes nodes_checked pick
    nodes_10_11 d = rw (eq-eqb _ _ m, is_all d) (by (leb 2 (length (quads bs)) and leb (length (quads bs)) 64)
        (nodes_fine 0 (quads bs)))
      where
        by : (a b : Bool)
            → judged_nodes_as (pick a (pick b (accepted_nodes (map node_of (quads bs))) (refused_nodes 11))
            (refused_nodes 10))
            ≡ pick a (pick b (Ok (length (quads bs))) (Err 11)) (Err 10)
        by true true = ap Ok (length-map (quads bs) node_of)
        by true false = refl
        by false b = refl

-- ---- what the code's judgement says

pub accepted_alone : (bs : List ℕ) (k : ℕ) → nodes_judgement bs ≡ Ok k
    → (vs : List NodeRecord) × (judge_nodes bs ≡ accepted_nodes vs)
unfolding nodes_judgement judged_nodes_as
accepted_alone bs k d = by (judge_nodes bs) refl d
  where
    by : (j : JudgedNodes) → judge_nodes bs ≡ j → judged_nodes_as j ≡ Ok k
        → (vs : List NodeRecord) × (judge_nodes bs ≡ accepted_nodes vs)
    by (refused_nodes q) e t = let z : ◌≡◌ {A = ℕ} 0 1 = cc in absurd (omega arith)
    by (accepted_nodes vs) e t = (vs, e)

pub refused_alone : (bs : List ℕ) (q : ℕ) → nodes_judgement bs ≡ Err q → judge_nodes bs ≡ refused_nodes q
unfolding nodes_judgement judged_nodes_as
refused_alone bs q d = by (judge_nodes bs) d
  where
    by : (j : JudgedNodes) → judged_nodes_as j ≡ Err q → j ≡ refused_nodes q
    by (refused_nodes p) t = cc
    by (accepted_nodes vs) t = let z : ◌≡◌ {A = ℕ} 0 1 = cc in absurd (omega arith)
