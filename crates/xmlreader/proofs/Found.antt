-- What the reader's answers say: one element is an element alone, and the nodes are counted by what was put, since each element puts one parent and one
-- label.
use mathlib.Core.Path.{◌≡◌, refl, ap, ◌∙◌}
use mathlib.Core.List.{List, ◌++◌, map}
use Prim.Native.Nat.{ℕ, ◌+◌, ◌<◌}
use lib.ListN.{length-map}
use Rattle.meaning.specs.Tree.{Label}
use Rattle.meaning.specs.Finite.{Yes}
use Rattle.meaning.specs.ReadOff.{NodeRecord}
use Rattle.meaning.specs.Xml.{Forest, no_element, element, count, all_nameable, forest_text, forest_records}
use Rattle.meaning.proofs.XmlTrees.{records_length}
use Rattle.lent.specs.Putting.{Put}
use Rattle.xmlreader.specs.Reading.{Single, Missed}
use Rattle.xmlreader.proofs.Forests.{one}

-- ---- one element

pub single_is : (w : Forest) (q : List ℕ) → Single w q → (l : Label) × (c : Forest) × (w ≡ one l c)
single_is no_element q k = absurd k
single_is (element l c no_element) q k = (l, c, refl)
single_is (element l c (element m d s)) q k = absurd k

-- to miss one element is to miss each element alone
pub missed_one : (text : List ℕ) (nodes : ℕ)
    → ((l : Label) (c : Forest) (q : List ℕ) → text ≡ forest_text (one l c) ++ q → Yes (all_nameable (one l c)) → 64 < nodes + count (one l c))
    → Missed Single text nodes
missed_one text nodes m no_element q k e y = absurd k
missed_one text nodes m (element l c no_element) q k e y = m l c q e y
missed_one text nodes m (element l c (element i d s)) q k e y = absurd k

-- ---- what is put

pub put_count : (f : NodeRecord → ℕ) (u i : ℕ) (w : Forest) {l m : List ℕ} {k : ℕ} → Put l i (map f (forest_records u i w)) k m → k ≡ i + count w
put_count f u i w p = p.end ∙ ap (λ (n : ℕ). i + n) (length-map (forest_records u i w) f ∙ records_length w u i)
