-- A sheet with its records as bytes, what is done to it, and how it follows the meaning's sheet of records.
use Rattle.std.specs.Prelude.{◌≡◌, List, [], ◌∷◌, ℕ, zero, suc, ◌+◌, ◌≤◌, ◌<◌, length, take, replicate, eqb, leb, ltb, Option, None, Some, unwrap_or}
use Rattle.std.proofs.lemmas.List.Edits.{sets}
use Rattle.meaning.specs.Finite.{pick}
use Rattle.meaning.specs.Tree.{Var}
use Rattle.meaning.specs.PathRecords.{Sheet, file_bytes}
use Rattle.constraints.specs.declared.Kind.{Kind}
use Rattle.constraints.specs.declared.Kind.TheVariants as kind
use Rattle.constraints.specs.Record.{kind_number}
use Rattle.axes.specs.declared.Axis.{Axis}
use Rattle.axes.specs.declared.Axis.TheVariants as axis
use Rattle.sheet.specs.declared.Sheet as code

-- ---- a sheet of bytes

-- what the code's sheet holds
pub record Bytes : Type 0 where
  pub records : List ℕ
  pub length : ℕ
  pub next : ℕ
  pub root : Option ℕ

abbrev pub plain : code.Sheet → Bytes
plain b = record { records = b.records; length = b.length; next = b.next; root = b.root }

abbrev pub root_in : Bytes → ℕ
root_in b = unwrap_or b.root 0

unfoldable pub blank_in : Bytes
blank_in = record { records = replicate 192 0; length = 0; next = 1; root = None }

-- one number given away
unfoldable pub numbered_in : Bytes → Bytes
numbered_in b =
    pick (ltb b.next 17) (record { records = b.records; length = b.length; next = b.next + 1; root = b.root }) b

-- one record more
unfoldable pub put_in : Kind → ℕ → ℕ → ℕ → Bytes → Bytes
put_in k x y l b =
    pick (leb (b.length + 4) 192)
    (record {
      records = sets b.records b.length (kind_number k ∷ x ∷ y ∷ l ∷ []);
      length = b.length + 4;
      next = b.next;
      root = b.root;
    })
    b

-- a start at the root
abbrev pub root_given : Option ℕ → Bytes → Bytes
root_given (Some r) b = b
root_given None b =
    let n = numbered_in b in
    put_in kind.Root b.next 0 0 (record { records = n.records; length = n.length; next = n.next; root = Some b.next })

unfoldable pub rooted_in : Bytes → Bytes
rooted_in b = root_given b.root b

-- the records of a step
abbrev pub axis_in : Axis → ℕ → ℕ → Bytes → Bytes
axis_in axis.Itself x y b = put_in kind.Same x y 0 b
axis_in axis.Child x y b = put_in kind.Child x y 0 b
axis_in axis.Parent x y b = put_in kind.Child y x 0 b
axis_in axis.Descendant x y b = put_in kind.StrictlyBelow x y 0 b
axis_in axis.Ancestor x y b = put_in kind.StrictlyBelow y x 0 b
axis_in axis.DescendantOrSelf x y b = put_in kind.Below x y 0 b
axis_in axis.AncestorOrSelf x y b = put_in kind.Below y x 0 b
axis_in axis.FollowingSibling x y b = put_in kind.Before x y 0 b
axis_in axis.PrecedingSibling x y b = put_in kind.Before y x 0 b

unfoldable pub move_in : Axis → ℕ → ℕ → ℕ → Bytes → Bytes
move_in a t x y b = pick (eqb t 42) (axis_in a x y b) (put_in kind.Label y 0 t (axis_in a x y b))

-- ---- how it follows a sheet of records

-- the meaning's sheet has 0 for the root while it has none
abbrev pub root_for : Var → Option ℕ
root_for zero = None
root_for (suc r) = Some (suc r)

-- of at most 16 variables the numbers are the sheet's, and of at most 48 records the bytes are
pub record Follows (v : Sheet) (b : Bytes) : Type 0 where
  pub size : length b.records ≡ 192
  pub few : v.next ≤ 16 → (b.next ≡ v.next) × (b.root ≡ root_for v.root_at)
  pub many : 16 < v.next → b.next ≡ 17
  pub exact : v.next ≤ 16 → length v.records ≤ 48
      → (b.length ≡ length (file_bytes v.records)) × (take b.length b.records ≡ file_bytes v.records)

-- x is the number X, if the sheet has at most 16 variables
abbrev pub For : Sheet → ℕ → Var → Type 0
For v x X = v.next ≤ 16 → x ≡ X
