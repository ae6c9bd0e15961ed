-- The nodes that are gathered: one more, or none if there are 64, and the records that are written of them.
use Rattle.std.specs.Prelude.{◌≡◌, List, [], ◌∷◌, ℕ, ◌*◌, ◌≤◌, ◌<◌, length, get_or, replicate, Result, Ok, Err}
use Rattle.meaning.specs.ReadOff.{NodeRecord, blank_record, node_bytes}
use Rattle.lent.specs.Putting.{Put}
use Rattle.questions.specs.declared.Question.{Question}
use Rattle.questions.specs.declared.Question.TheVariants.{XmlForm}
use Rattle.xmlreader.specs.declared.gathered.Gathered.{Gathered}

-- the document node alone
pub record Fresh (g : Gathered) : Type 0 where
  pub ups : g.ups ≡ replicate 64 0
  pub labels : g.labels ≡ replicate 64 0
  pub count : g.count ≡ 1

-- one node more
pub record Added (g : Gathered) (up label node : ℕ) (h : Gathered) : Type 0 where
  pub numbered : node ≡ g.count
  pub put_up : Put g.ups g.count (up ∷ []) h.count h.ups
  pub put_label : Put g.labels g.count (label ∷ []) h.count h.labels

abbrev pub AddedOr : Gathered → ℕ → ℕ → Result ℕ Question → Gathered → Type 0
AddedOr g up label (Ok node) h = Added g up label node h
AddedOr g up label (Err q) h = (q ≡ XmlForm) × (64 ≤ g.count)

-- these are the parents and labels of the records
abbrev pub Columns : Gathered → List NodeRecord → Type 0
Columns g vs =
    (i : ℕ) → i < length vs
    → (get_or g.ups i 0 ≡ (get_or vs i blank_record).up) × (get_or g.labels i 0 ≡ (get_or vs i blank_record).label)

abbrev pub NodesWritten : Gathered → List ℕ → List ℕ → Type 0
NodesWritten g before after =
    (vs : List NodeRecord) → length vs ≡ g.count → Columns g vs → Put before 0 (node_bytes 0 vs) (g.count * 4) after
