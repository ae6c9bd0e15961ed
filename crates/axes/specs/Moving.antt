-- What is read of an axis and a test: what stands for the axis, the byte of the test, and the bytes behind them.
use Rattle.std.specs.Prelude.{◌≡◌, Bool, ◌||◌, eqb, List, ℕ, length, drop, Option, None, Some, option_map}
use Rattle.std.specs.Borrow.{Bor}
use Rattle.meaning.specs.Finite.{pick}
use Rattle.meaning.specs.Paths as spec
use Rattle.meaning.specs.Paths.{is_letter, Test, Step, move, test_byte}
use Rattle.theory.specs.Reader.{Got, nothing, got, front}
use Rattle.axes.specs.declared.Axis.{Axis}
use Rattle.axes.specs.declared.Axis.TheVariants.{Itself, Child, Parent, Descendant, Ancestor, DescendantOrSelf, AncestorOrSelf, FollowingSibling, PrecedingSibling}

-- the code's axis for an axis of the meaning
abbrev pub axis_for : spec.Axis → Axis
axis_for spec.to_self = Itself
axis_for spec.to_child = Child
axis_for spec.to_parent = Parent
axis_for spec.to_descendant = Descendant
axis_for spec.to_ancestor = Ancestor
axis_for spec.to_descendant_or_self = DescendantOrSelf
axis_for spec.to_ancestor_or_self = AncestorOrSelf
axis_for spec.to_following_sibling = FollowingSibling
axis_for spec.to_preceding_sibling = PrecedingSibling

-- what was read, with the bytes behind the reference
abbrev pub axis_view : Option (Axis × Bor (List ℕ)) → Option (Axis × List ℕ)
axis_view r = option_map (λ p. (p.0, p.1.now)) r

abbrev pub move_view : Option (Axis × ℕ × Bor (List ℕ)) → Option (Axis × ℕ × List ℕ)
move_view r = option_map (λ m. (m.0, m.1, m.2.now)) r

-- an axis and the bytes behind its name, if the name is the front of s
abbrev pub name_got : List ℕ → List ℕ → Axis → Option (Axis × List ℕ)
name_got s name a = pick (front s name) (Some (a, drop (length name) s)) None

abbrev pub NameRead : List ℕ → List ℕ → Axis → Option (Axis × Bor (List ℕ)) → Type 0
NameRead s name a r = axis_view r ≡ name_got s name a

-- r is an axis that was got, and the bytes behind its name
abbrev pub AxisRead : Got spec.Axis → Option (Axis × Bor (List ℕ)) → Type 0
AxisRead nothing r = r ≡ None
AxisRead (got a rest) r = axis_view r ≡ Some (axis_for a, rest)

-- a letter or *
abbrev pub is_tested : ℕ → Bool
is_tested b = is_letter b || eqb b 42

-- r is a move that was got, and the bytes behind it
abbrev pub MoveRead : Got Step → Option (Axis × ℕ × Bor (List ℕ)) → Type 0
MoveRead nothing r = r ≡ None
MoveRead (got m rest) r =
    (a : spec.Axis) × (t : Test) × (m ≡ move a t) × (move_view r ≡ Some (axis_for a, test_byte t, rest))
