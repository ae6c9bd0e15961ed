-- Questions set as paths (docs/FORMAT.md, "Paths"): the paths and the text of each. A value of these types is a path of that form, so the grammar
-- needs no definition beside the text.
use Rattle.std.specs.Prelude.{◌≡◌, Bool, List, [], ◌∷◌, ◌++◌, ℕ, ◌≤◌, length, leb}
use Rattle.meaning.specs.Tree.{Label, is_capital}
use Rattle.meaning.specs.Finite.{Yes, ◌and◌, ◌or◌}
use Rattle.meaning.specs.Ascii.{ascii}

-- ---- paths

pub data Axis : Type 0 where
  to_self to_child to_parent to_descendant to_ancestor to_descendant_or_self to_ancestor_or_self to_following_sibling to_preceding_sibling : Axis

-- a to z
unfoldable pub is_small : ℕ → Bool
is_small b = leb 97 b and leb b 122

-- a to z, and A to Z
unfoldable pub is_letter : ℕ → Bool
is_letter b = is_small b or is_capital b

-- "A test is one letter a to z, whose byte is the label, or `*`"; "path tests, which now admit A to Z"
pub data Test : Type 0 where
  letter : (b : Label) → Yes (is_letter b) → Test
  any : Test

-- "A path is an optional `/` and steps parted by `/`, or `/` alone. A step is an axis, `::`, a test and any number of `[path]`": `having s p` is
-- the step s with the brackets [p] behind it
mutual
  pub data Path : Type 0 where
    alone : Path
    from_root from_here : Steps → Path

  pub data Steps : Type 0 where
    one : Step → Steps
    more : Step → Steps → Steps

  pub data Step : Type 0 where
    move : Axis → Test → Step
    having : Step → Path → Step

-- ---- their text

unfoldable pub axis_text : Axis → List ℕ
axis_text to_self = ascii "self"
axis_text to_child = ascii "child"
axis_text to_parent = ascii "parent"
axis_text to_descendant = ascii "descendant"
axis_text to_ancestor = ascii "ancestor"
axis_text to_descendant_or_self = ascii "descendant-or-self"
axis_text to_ancestor_or_self = ascii "ancestor-or-self"
axis_text to_following_sibling = ascii "following-sibling"
axis_text to_preceding_sibling = ascii "preceding-sibling"

-- 42 is *
unfoldable pub test_byte : Test → ℕ
test_byte (letter b l) = b
test_byte any = 42

-- 47 is /, 58 is :, 91 and 93 are [ and ]
unfoldable mutual
  pub path_text : Path → List ℕ
  path_text alone = 47 ∷ []
  path_text (from_root ss) = 47 ∷ steps_text ss
  path_text (from_here ss) = steps_text ss

  pub steps_text : Steps → List ℕ
  steps_text (one s) = step_text s
  steps_text (more s ss) = step_text s ++ (47 ∷ steps_text ss)

  pub step_text : Step → List ℕ
  step_text (move a t) = axis_text a ++ (58 ∷ 58 ∷ test_byte t ∷ [])
  step_text (having s p) = step_text s ++ (91 ∷ path_text p ++ (93 ∷ []))

-- each line is ended by byte 10
unfoldable pub lines_text : List Path → List ℕ
lines_text [] = []
lines_text (p ∷ ps) = path_text p ++ (10 ∷ lines_text ps)

-- "Read 1 to 8 lines, each ended by byte 10, at most 1,024 bytes in all"
pub record OfForm (text : List ℕ) (ps : List Path) : Type 0 where
  pub is : text ≡ lines_text ps
  pub some_line : 1 ≤ length ps
  pub few_lines : length ps ≤ 8
  pub short : length text ≤ 1024
