-- Texts of paths and what is answered, as one table, worked out by hand from docs/FORMAT.md ("Paths"). A row is said of the promise of the meaning
-- alone: whatever buffer of at least 1,024 bytes is lent, its answer is promised, and no other is.
use Rattle.std.specs.Prelude.{◌≡◌, List, [], ◌∷◌, ◌++◌, ℕ, ◌≤◌, length}
use Prim.Native.String.{String}
use Rattle.meaning.specs.Ascii.{ascii}
use Rattle.meaning.specs.Results.{Fill, fill_refused, fill_written, fill_wrote}
use Rattle.meaning.specs.Promises.{PathsPromise}

pub record Row : Type 0 where
  pub text : List ℕ
  pub answer : Fill

-- the path reader's promise holds of r and the buffer as r leaves it, and of nothing else
pub record OnlyRead (text buffer : List ℕ) (r : Fill) : Type 0 where
  pub promised : PathsPromise text buffer r (fill_wrote r buffer)
  pub only : {s : Fill} {after : List ℕ} → PathsPromise text buffer s after → (s ≡ r) × (after ≡ fill_wrote r buffer)

abbrev pub Holds : Row → Type 0
Holds row = (buffer : List ℕ) → 1024 ≤ length buffer → OnlyRead row.text buffer row.answer

-- ---- the rows

-- a record: kind, x, y, label
abbrev pub four : ℕ → ℕ → ℕ → ℕ → List ℕ
four a b c d = a ∷ b ∷ c ∷ d ∷ []

abbrev pub reads : String → List ℕ → Row
reads text bytes = record { text = ascii text; answer = fill_written bytes }

abbrev pub refuses : String → ℕ → Row
refuses text question = record { text = ascii text; answer = fill_refused question }

-- same(1,0) label(0,a): the start has the first number left
abbrev pub P1 : Row
P1 = reads "self::a\n" (four 4 1 0 0 ++ four 8 0 0 97)

-- child(1,2) label(2,a), from its node child(2,3) label(3,b), and again from it child(2,0) label(0,c)
abbrev pub P2 : Row
P2 = reads "child::a[child::b]/child::c\n" (four 1 1 2 0 ++ four 8 2 0 97 ++ four 1 2 3 0 ++ four 8 3 0 98 ++ four 1 2 0 0 ++ four 8 0 0 99)

-- root(1) same(1,0)
abbrev pub P3 : Row
P3 = reads "/\n" (four 6 1 0 0 ++ four 4 1 0 0)

-- root(1) same(1,0), then child(1,0) label(0,a)
abbrev pub P4 : Row
P4 = reads "/\n/child::a\n" (four 6 1 0 0 ++ four 4 1 0 0 ++ four 1 1 0 0 ++ four 8 0 0 97)

-- root(1) child(1,0) label(0,a), then child(0,1) label(0,b): one root, and of parent x is the node reached
abbrev pub P5 : Row
P5 = reads "/child::a\n/parent::b\n" (four 6 1 0 0 ++ four 1 1 0 0 ++ four 8 0 0 97 ++ four 1 0 1 0 ++ four 8 0 0 98)

-- same(1,0), root(2) child(2,3) label(3,a), child(2,4) label(4,b)
abbrev pub P6 : Row
P6 = reads "self::*[/child::a][/child::b]\n" (four 4 1 0 0 ++ four 6 2 0 0 ++ four 1 2 3 0 ++ four 8 3 0 97 ++ four 1 2 4 0 ++ four 8 4 0 98)

-- strictly-below(1,0) label(0,a) root(2): in brackets `/` alone says no more than that there is a root
abbrev pub P7 : Row
P7 = reads "descendant::a[/]\n" (four 3 1 0 0 ++ four 8 0 0 97 ++ four 6 2 0 0)

-- same(1,2), child(2,3), child(4,3), strictly-below(4,5), strictly-below(6,5), below(6,7), below(0,7), each with its label
abbrev pub P8 : Row
P8 =
    reads "self::a/child::b/parent::c/descendant::d/ancestor::e/descendant-or-self::f/ancestor-or-self::z\n"
    (four 4 1 2 0
    ++ four 8 2 0 97
    ++ four 1 2 3 0
    ++ four 8 3 0 98
    ++ four 1 4 3 0
    ++ four 8 4 0 99
    ++ four 3 4 5 0
    ++ four 8 5 0 100
    ++ four 3 6 5 0
    ++ four 8 6 0 101
    ++ four 2 6 7 0
    ++ four 8 7 0 102
    ++ four 2 0 7 0
    ++ four 8 0 0 122)

-- below(2,1) label(2,z), same(2,3) label(3,y), child(3,4) label(4,x), strictly-below(2,0)
abbrev pub P9 : Row
P9 =
    reads "ancestor-or-self::z[self::y[child::x]]/descendant::*\n"
    (four 2 2 1 0 ++ four 8 2 0 122 ++ four 4 2 3 0 ++ four 8 3 0 121 ++ four 1 3 4 0 ++ four 8 4 0 120 ++ four 3 2 0 0)

-- child(1,0) label(0,a), then child(0,2) label(0,b): each line has a start of its own, and both end in 0
abbrev pub P10 : Row
P10 = reads "child::a\nparent::b\n" (four 1 1 0 0 ++ four 8 0 0 97 ++ four 1 0 2 0 ++ four 8 0 0 98)

-- variables 0 to 15
abbrev pub P11 : Row
P11 =
    reads "child::*/child::*/child::*/child::*/child::*/child::*/child::*/child::*/child::*/child::*/child::*/child::*/child::*/child::*/child::*\n"
    (four 1 1 2 0
    ++ four 1 2 3 0
    ++ four 1 3 4 0
    ++ four 1 4 5 0
    ++ four 1 5 6 0
    ++ four 1 6 7 0
    ++ four 1 7 8 0
    ++ four 1 8 9 0
    ++ four 1 9 10 0
    ++ four 1 10 11 0
    ++ four 1 11 12 0
    ++ four 1 12 13 0
    ++ four 1 13 14 0
    ++ four 1 14 15 0
    ++ four 1 15 0 0)

-- one step more
abbrev pub P12 : Row
P12 = refuses "child::*/child::*/child::*/child::*/child::*/child::*/child::*/child::*/child::*/child::*/child::*/child::*/child::*/child::*/child::*/child::*\n" 14

-- eight lines, each with same(1,0)
abbrev pub P13 : Row
P13 =
    reads "/\n/\n/\n/\n/\n/\n/\n/\n"
    (four 6 1 0 0 ++ four 4 1 0 0 ++ four 4 1 0 0 ++ four 4 1 0 0 ++ four 4 1 0 0 ++ four 4 1 0 0 ++ four 4 1 0 0 ++ four 4 1 0 0 ++ four 4 1 0 0)

-- before(1,2) label(2,a), then before(0,2) label(0,b): of preceding-sibling x is the node reached
abbrev pub P14 : Row
P14 = reads "following-sibling::a/preceding-sibling::b\n" (four 9 1 2 0 ++ four 8 2 0 97 ++ four 9 0 2 0 ++ four 8 0 0 98)

-- root(1) child(1,0) label(0,a), before(2,0), before(0,3)
abbrev pub P15 : Row
P15 = reads "/child::a[preceding-sibling::*][following-sibling::*]\n" (four 6 1 0 0 ++ four 1 1 0 0 ++ four 8 0 0 97 ++ four 9 2 0 0 ++ four 9 0 3 0)

-- same(1,0) label(0,A): the byte that stands in the text
abbrev pub P16 : Row
P16 = reads "self::A\n" (four 4 1 0 0 ++ four 8 0 0 65)

-- child(1,2) label(2,Z), same(2,0) label(0,z)
abbrev pub P17 : Row
P17 = reads "child::Z/self::z\n" (four 1 1 2 0 ++ four 8 2 0 90 ++ four 4 2 0 0 ++ four 8 0 0 122)

unfoldable pub table : List Row
table =
    P1
    ∷ P2
    ∷ P3
    ∷ P4
    ∷ P5
    ∷ P6
    ∷ P7
    ∷ P8
    ∷ P9
    ∷ P10
    ∷ P11
    ∷ P12
    ∷ P13
    ∷ P14
    ∷ P15
    ∷ P16
    ∷ P17
    ∷ refuses "/\n/\n/\n/\n/\n/\n/\n/\n/\n" 13
    ∷ refuses "" 13
    ∷ refuses "child::a" 13
    ∷ refuses "child:a\n" 13
    ∷ refuses "child::@\n" 13
    ∷ refuses "child::[\n" 13
    ∷ refuses "child::`\n" 13
    ∷ refuses "child::{\n" 13
    ∷ refuses "CHILD::a\n" 13
    ∷ refuses "/A\n" 13
    ∷ refuses "following::a\n" 13
    ∷ refuses "preceding-siblings::a\n" 13
    ∷ refuses "child::a/\n" 13
    ∷ refuses "//child::a\n" 13
    ∷ refuses "child::a[]\n" 13
    ∷ refuses "child::a[child::b\n" 13
    ∷ refuses "child::a\n\n" 13
    ∷ []
