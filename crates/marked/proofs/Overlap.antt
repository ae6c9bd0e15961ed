-- What O1 and O2 were is computed by the rules of before, which leave one answer. The search of each file is computed once: an allowance only says whether
-- its count is within it.
use mathlib.Core.Path.{◌≡◌, refl, ap, ◌∙◌, subst}
use mathlib.Core.List.{List, [], ◌∷◌}
use Prim.Native.Nat.{ℕ}
use native.Mathlib.Nat.{le_refl}
use Rattle.meaning.specs.Constraint.{Constraint, is_child, is_below, is_strictly_below, is_before, Fact, facts_of, vars, named}
use Rattle.meaning.specs.Demand.{Answer, a_tree}
use Rattle.meaning.specs.FixedSearch.{in_tree, in_none}
use Rattle.meaning.specs.Finite.{pick, ◌and◌, ◌or◌, neg, anyb, tab, sum, one, any_in, found, without, arranged, picked, position, smallest}
use Rattle.meaning.specs.ReadOff.{same, over, lowest, depth, layer, layers, order, element, front, node_at, place, nearest, parent_of, label_of, nodes, places, node_bytes, place_bytes, answer_file}
use Rattle.meaning.specs.Files.{accepted, judge_pair, judge_record, with_rest, judge_records, judge}
use Rattle.theory.specs.Find.{is_in, chosen, first, when, or_else}
use Rattle.theory.specs.Fixpoint.{again, grew, iterate}
use Rattle.theory.specs.Closure.{follows, equal, is_given, labels_of, labels_in, look, upto, rows, tabulate, pass, pairs, facts_over, candidates, settle, holds}
use Rattle.theory.specs.Search.{Ended, ended, clashes_at, clashes, is_a_join, first_of, first_join, after_first, branch, line, search_f, search_by}
use Rattle.theory.specs.Solve.{shown, answer}
use Rattle.theory.specs.Overlap.{second_before, AnsweredBefore, solve_before}
use Rattle.theory.proofs.Overlap.{answered_before, before_unique}
use Rattle.marked.specs.Table.{O2-tree}
use Rattle.marked.specs.Overlap.{Was, RowsBefore}

-- the file is these constraints, their search of before ends so, and that is answered so
was : {file : List ℕ} {A : ℕ} {a : Answer} {e : Ended} (cs : List Constraint)
    → judge file ≡ accepted cs → search_by second_before (vars cs) (facts_of cs) ≡ e → answer A (vars cs) e ≡ a
    → Was file A a
unfolding solve_before
was {A = A} {a = a} cs accepts ends answers = record {
  constraints = cs;
  accepts = accepts;
  answered = subst (AnsweredBefore A (vars cs) cs) e (answered_before A (vars cs) cs (le_refl _));
  only = λ {b} u. before_unique A (vars cs) cs (le_refl _) b u ∙ e;
} where
  e : solve_before A (vars cs) cs ≡ a
  e = ap (answer A (vars cs)) ends ∙ answers

abbrev O1-constraints : List Constraint
O1-constraints = is_below 1 2 ∷ is_strictly_below 0 2 ∷ is_before 0 3 ∷ is_before 2 3 ∷ []

O1-ends : search_by second_before 4 (facts_of O1-constraints) ≡ ended in_none 10
unfolding pick ◌and◌ ◌or◌ neg same holds settle candidates facts_over pairs pass tabulate rows upto look labels_of labels_in is_given equal follows iterate grew again anyb any_in is_in chosen tab search_by search_f line branch after_first first_join first_of is_a_join clashes clashes_at first when or_else
O1-ends = refl

abbrev O2-constraints : List Constraint
O2-constraints = is_child 1 2 ∷ is_below 0 3 ∷ is_below 2 3 ∷ is_before 0 4 ∷ is_before 3 4 ∷ []

O2-ends : (S : List Fact) × (search_by second_before 5 (facts_of O2-constraints) ≡ ended (in_tree S) 11)
unfolding pick ◌and◌ ◌or◌ neg same holds settle candidates facts_over pairs pass tabulate rows upto look labels_of labels_in is_given equal follows iterate grew again anyb any_in is_in chosen tab search_by search_f line branch after_first first_join first_of is_a_join clashes clashes_at first when or_else
O2-ends = (_, refl)

O2-read : answer_file 5 (holds 5 O2-ends.0) ≡ O2-tree
unfolding O2-ends pick ◌and◌ ◌or◌ neg same holds settle candidates facts_over pairs pass tabulate rows upto look labels_of labels_in is_given equal follows iterate grew again anyb any_in is_in chosen tab sum one found without arranged picked position smallest over lowest depth layer layers order element front node_at place places nearest parent_of label_of nodes node_bytes place_bytes answer_file
O2-read = refl

pub rows_before : RowsBefore
unfolding judge judge_records with_rest judge_record judge_pair vars named pick ◌and◌ ◌or◌ answer shown
rows_before = record {
  O1-none = was O1-constraints refl O1-ends refl;
  O1-ten = was O1-constraints refl O1-ends refl;
  O1-nine = was O1-constraints refl O1-ends refl;
  O1-eight = was O1-constraints refl O1-ends refl;
  O2-found = was O2-constraints refl O2-ends.1 (ap (a_tree 11) O2-read);
  O2-ten = was O2-constraints refl O2-ends.1 refl;
  O2-nine = was O2-constraints refl O2-ends.1 refl;
}
