-- The records of four texts, worked out by hand. They pin what no law about trees can: the numbers of the variables, the order of the records, and
-- that all roots share one number.
use mathlib.Core.Path.{◌≡◌, refl}
use mathlib.Core.List.{[], ◌∷◌}
use Prim.Native.Nat.{ℕ}
use Rattle.meaning.specs.Finite.{Yes}
use Rattle.meaning.specs.Constraint.{is_child, is_same, is_root, is_label}
use Rattle.meaning.specs.Paths.{to_self, to_child, to_parent, is_letter, letter, any, alone, from_root, from_here, one, more, move, having}
use Rattle.meaning.specs.PathRecords.{records_of}

-- /
pub root_alone : records_of (alone ∷ []) ≡ is_root 1 ∷ is_same 1 0 ∷ []
unfolding records_of
root_alone = refl

-- child::a[child::b]/child::c, with any letters
pub brackets_between : (a b c : ℕ) (k : Yes (is_letter a)) (l : Yes (is_letter b)) (m : Yes (is_letter c))
    → records_of (from_here (more (having (move to_child (letter a k)) (from_here (one (move to_child (letter b l))))) (one (move to_child (letter c m)))) ∷ [])
    ≡ is_child 1 2 ∷ is_label 2 a ∷ is_child 2 3 ∷ is_label 3 b ∷ is_child 2 0 ∷ is_label 0 c ∷ []
unfolding records_of
brackets_between a b c k l m = refl

-- /child::* and /parent::*
pub root_twice : records_of (from_root (one (move to_child any)) ∷ from_root (one (move to_parent any)) ∷ []) ≡ is_root 1 ∷ is_child 1 0 ∷ is_child 0 1 ∷ []
unfolding records_of
root_twice = refl

-- self::*[/][/child::*]
pub root_in_brackets : records_of (from_here (one (having (having (move to_self any) alone) (from_root (one (move to_child any))))) ∷ []) ≡ is_same 1 0 ∷ is_root 2 ∷ is_child 2 3 ∷ []
unfolding records_of
root_in_brackets = refl
