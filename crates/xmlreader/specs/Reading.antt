-- What the reader has found in the bytes left: elements under a node, with their parents and labels behind those that were gathered, or that none
-- of the sort asked for stand there, unless they are too many.
use Rattle.std.specs.Prelude.{◌≡◌, List, ◌∷◌, ◌++◌, map, ℕ, ◌+◌, ◌<◌, Option, None, Some, Result, Ok, Err}
use Rattle.std.proofs.Common.{Bor}
use Rattle.meaning.specs.Finite.{Yes}
use Rattle.meaning.specs.Xml.{Forest, no_element, element, count, all_nameable, forest_text, forest_records}
use Rattle.lent.specs.Putting.{Put}
use Rattle.questions.specs.declared.Question.{Question}
use Rattle.questions.specs.declared.Question.TheVariants.{XmlForm}
use Rattle.theory.specs.Xml.{is_name, opens}
use Rattle.xmlreader.specs.declared.gathered.Gathered.{Gathered}

-- ---- what is left

-- behind < and a name
abbrev pub Opened : List ℕ → Option (ℕ × Bor (List ℕ)) → Type 0
Opened text (Some (name, left)) = (text ≡ 60 ∷ name ∷ left.now) × Yes (is_name name)
Opened text None = (name : ℕ) (q : List ℕ) → Yes (is_name name) → ¬ (text ≡ 60 ∷ name ∷ q)

-- behind a word
abbrev pub After : List ℕ → List ℕ → Option (Bor (List ℕ)) → Type 0
After word text (Some left) = text ≡ word ++ left.now
After word text None = (q : List ℕ) → ¬ (text ≡ word ++ q)

-- ---- the sorts of forests that are asked for, by what follows them

-- one element
abbrev pub Single : Forest → List ℕ → Type 0
Single no_element q = ⊥
Single (element l c no_element) q = Unit {0}
Single (element l c (element m d s)) q = ⊥

-- as many as follow
abbrev pub Ended : Forest → List ℕ → Type 0
Ended w q = ¬ Yes (opens q)

-- such a forest stands there, and the rest is left behind it
pub record Found (P : Forest → List ℕ → Type 0) (text : List ℕ) (up : ℕ) (g : Gathered) (rest : List ℕ) (h : Gathered) : Type 0 where
  pub forest : Forest
  pub sort : P forest rest
  pub is : text ≡ forest_text forest ++ rest
  pub nameable : Yes (all_nameable forest)
  pub put_ups : Put g.ups g.count (map (λ v. v.up) (forest_records up g.count forest)) h.count h.ups
  pub put_labels : Put g.labels g.count (map (λ v. v.label) (forest_records up g.count forest)) h.count h.labels

-- whatever of this sort stands there has too many nodes
abbrev pub Missed : (Forest → List ℕ → Type 0) → List ℕ → ℕ → Type 0
Missed P text nodes = (w : Forest) (q : List ℕ) → P w q → text ≡ forest_text w ++ q → Yes (all_nameable w) → 64 < nodes + count w

-- where no element starts nothing was gathered
abbrev pub ElementRead : List ℕ → ℕ → Gathered → Result (Option (Bor (List ℕ))) Question → Gathered → Type 0
ElementRead text up g (Ok (Some rest)) h = Yes (opens text) × Found Single text up g rest.now h
ElementRead text up g (Ok None) h = (¬ Yes (opens text)) × (h ≡ g)
ElementRead text up g (Err q) h = (q ≡ XmlForm) × Yes (opens text) × Missed Single text g.count

abbrev pub ElementsRead : List ℕ → ℕ → Gathered → Result (Bor (List ℕ)) Question → Gathered → Type 0
ElementsRead text up g (Ok rest) h = Found Ended text up g rest.now h
ElementsRead text up g (Err q) h = (q ≡ XmlForm) × Missed Ended text g.count
