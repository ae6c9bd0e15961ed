-- Shuffled papers (docs/FORMAT.md): a constraint file with its records in another order, or with its variables renumbered, and what solver and
-- marker owe to both files. A file is taken by its records, `quads`.
use Rattle.std.specs.Prelude.{◌≡◌, ◌↔◌, ℕ, ◌≤◌, ◌<◌, length, eqb, leb}
use mathlib.Core.List.{List, [], ◌∷◌, ◌++◌, map, Memᴰ}
use Rattle.meaning.specs.Tree.{Var, Node, Assignment, Tree}
use Rattle.meaning.specs.Constraint.{Constraint, Meets, vars}
use Rattle.meaning.specs.Finite.{pick, ◌or◌}
use Rattle.meaning.specs.ReadOff.{NodeRecord, tree_of}
use Rattle.meaning.specs.Demand.{a_none, a_spent}
use Rattle.meaning.specs.Marking.{met, unmet}
use Rattle.meaning.specs.Files.{Quad, quad, quads, Whole, bad, judge_quad, Spells, refused, accepted, judge, accepted_answer, judge_answer, assigned}
use Rattle.meaning.specs.Results.{Solved, solver_answers, Marked, marker_refuses, marker_answers}
use Rattle.meaning.specs.Promises.{SolverPromise, MarkerPromise, SameRoom, OneAnswer}

-- ---- records in another order

-- the same members, each as often, in any order: a permutation
pub data Reordered {A : Type 0} : List A → List A → Type 0 where
  nothing : Reordered [] []
  first_kept : {x : A} {xs ys : List A} → Reordered xs ys → Reordered (x ∷ xs) (x ∷ ys)
  exchanged : {x y : A} {xs : List A} → Reordered (x ∷ y ∷ xs) (y ∷ x ∷ xs)
  in_turn : {xs ys zs : List A} → Reordered xs ys → Reordered ys zs → Reordered xs zs

-- the other file has the records of this one in another order, or in the same
pub record AnotherOrder (file other : List ℕ) : Type 0 where
  pub whole : Whole file
  pub other_whole : Whole other
  pub reordered : Reordered (quads file) (quads other)

-- the first that is looked for: x is at position i, from 0, and all that come before it are otherwise
pub record FirstAt {A : Type 0} (Otherwise : A → Type 0) (xs : List A) (i : ℕ) (x : A) : Type 0 where
  pub earlier : List A
  pub later : List A
  pub is_list : xs ≡ earlier ++ (x ∷ later)
  pub position : length earlier ≡ i
  pub otherwise : (y : A) → Memᴰ y earlier → Otherwise y

-- the first of the records that questions 3 to 6 refuse is refused with p
abbrev pub FirstRefused : List Quad → ℕ → Type 0
FirstRefused qs p = (i : ℕ) × (q : Quad) × FirstAt (λ r. (c : Constraint) × Spells r c) qs i q × (judge_quad q ≡ bad p)

-- "any reordering of an accepted file gets, under the same allowance, the same verdict, count and bytes from the solver"
pub record SameSolved (file other : List ℕ) : Type 0 where
  -- it is accepted, with the same n
  pub accepts : {cs : List Constraint} → judge file ≡ accepted cs → (ds : List Constraint) × (judge other ≡ accepted ds) × (vars ds ≡ vars cs)
  -- a refused file stays refused; 1 stays 1, and any other number is that of the first bad record in the new order
  pub refuses : {q : ℕ} → judge file ≡ refused q
      → (p : ℕ) × (judge other ≡ refused p) × ((p ≡ 1) ↔ (q ≡ 1)) × (¬ (p ≡ 1) → FirstRefused (quads other) p)
  pub answers : {cs : List Constraint} → judge file ≡ accepted cs → OneAnswer file other

-- the record's constraint is met, or is not
abbrev pub MetRecord : Tree → Assignment → Quad → Type 0
MetRecord t a q = (c : Constraint) × Spells q c × Meets t a c

abbrev pub UnmetRecord : Tree → Assignment → Quad → Type 0
UnmetRecord t a q = (c : Constraint) × Spells q c × (¬ Meets t a c)

-- the first of the records that is not met is at position i, and its first byte is k
abbrev pub FirstUnmet : Tree → Assignment → List Quad → ℕ → ℕ → Type 0
FirstUnmet t a qs i k = (q : Quad) × FirstAt (MetRecord t a) qs i q × UnmetRecord t a q × (q.first ≡ k)

-- the marker, of any one answer file
pub record SameMarked (file other : List ℕ) : Type 0 where
  pub refuses_iff : {cs : List Constraint} {answer : List ℕ} {r s : Marked} {q : ℕ} → judge file ≡ accepted cs
      → MarkerPromise file answer r → MarkerPromise other answer s → (s ≡ marker_refuses q) ↔ (r ≡ marker_refuses q)
  pub met_iff : {cs : List Constraint} {answer : List ℕ} {r s : Marked} → judge file ≡ accepted cs
      → MarkerPromise file answer r → MarkerPromise other answer s → (s ≡ marker_answers met) ↔ (r ≡ marker_answers met)
  -- "The marker's first unmet position does follow the record order"
  pub unmet_iff : {cs : List Constraint} {answer : List ℕ} {vs : List NodeRecord} {ps : List Node} {s : Marked} {i k : ℕ}
      → judge file ≡ accepted cs → judge_answer (vars cs) answer ≡ accepted_answer vs ps → MarkerPromise other answer s
      → (s ≡ marker_answers (unmet i k)) ↔ FirstUnmet (tree_of vs) (assigned ps) (quads other) i k

-- ---- variables renumbered

-- "one-to-one renumbering of 0 to n−1"
pub record Renumbering (n : ℕ) (to : Var → Var) : Type 0 where
  pub inside : (x : Var) → x < n → to x < n
  pub one_to_one : (x y : Var) → x < n → y < n → to x ≡ to y → x ≡ y

-- of an accepted file: kinds 1 to 5 and 9 name x and y, kinds 6 to 8 name x alone; all other bytes stay
unfoldable pub renumber_quad : (Var → Var) → Quad → Quad
renumber_quad to q = quad q.first (to q.second) (pick (leb q.first 5 or eqb q.first 9) (to q.third) q.third) q.fourth

pub record Renumbered (to : Var → Var) (file other : List ℕ) : Type 0 where
  pub whole : Whole file
  pub other_whole : Whole other
  pub renumbered : quads other ≡ map (renumber_quad to) (quads file)

abbrev pub SaysNone : Solved → Type 0
SaysNone r = (c : ℕ) × (r ≡ solver_answers (a_none c))

abbrev pub SaysSpent : Solved → Type 0
SaysSpent r = (c : ℕ) × (r ≡ solver_answers (a_spent c))

-- "one file gets none if and only if the other does, when neither is spent": each under its own allowance and over its own number of variables
pub record SameNone (n : ℕ) (file other : List ℕ) : Type 0 where
  -- the other file is accepted, with n variables or fewer
  pub accepts : (ds : List Constraint) × (judge other ≡ accepted ds) × (vars ds ≤ n)
  pub none_iff : {A B : ℕ} {buffer after lent later : List ℕ} {r s : Solved} → SameRoom buffer lent
      → SolverPromise A file buffer r after → SolverPromise B other lent s later → ¬ SaysSpent r → ¬ SaysSpent s → SaysNone r ↔ SaysNone s
