-- The elements that follow one another: none where no element starts, and otherwise the first and those after it. The text is split in one way, so
-- to miss the first, or those after it, is to miss them all.
use mathlib.Core.Path.{◌≡◌, refl, sym, ap, ◌∙◌, subst}
use mathlib.Core.List.{List, ◌++◌, map}
use Prim.Native.Nat.{ℕ, ◌+◌, ◌<◌}
use native.Mathlib.Omega.{arith}
use lib.ListN.{length, length-append}
use Rattle.std.proofs.Common.{Bor, Result, Ok, Err}
use Rattle.meaning.specs.Tree.{Label}
use Rattle.meaning.specs.Finite.{Yes}
use Rattle.meaning.specs.ReadOff.{NodeRecord}
use Rattle.meaning.specs.Xml.{Forest, no_element, element, count, all_nameable, forest_text, forest_records}
use Rattle.questions.specs.declared.Question.{Question}
use Rattle.theory.specs.Xml.{opens}
use Rattle.lent.proofs.Stores.{put_none, put_same, put_then}
use Rattle.xmlreader.specs.declared.gathered.Gathered.{Gathered}
use Rattle.xmlreader.specs.Reading.{Single, Ended, Found, Missed, ElementsRead}
use Rattle.xmlreader.proofs.Forests.{one, nameable_first, nameable_both, count_none, count_first, first_text, one_some, one_split, first_records}
use Rattle.xmlreader.proofs.Found.{single_is, put_count}

pub found_none : {text : List ℕ} (up : ℕ) (g : Gathered) → ¬ Yes (opens text) → Found Ended text up g text g
found_none up g n =
    let u = g.long_ups in
    let l = g.long_labels in
    let f = g.few in
    record {
      forest = no_element;
      sort = n;
      is = unfold forest_text in refl;
      nameable = unfold all_nameable in refl;
      put_ups = unfold forest_records in put_none g.ups g.count (omega arith);
      put_labels = unfold forest_records in put_none g.labels g.count (omega arith);
    }

-- to miss those that follow, where an element starts, is to miss them by the first
missed_more : (text : List ℕ) (nodes : ℕ) → Yes (opens text)
    → ((l : Label) (c r : Forest) (q : List ℕ) → Ended r q → text ≡ forest_text (one l c) ++ (forest_text r ++ q)
    → Yes (all_nameable (one l c)) → Yes (all_nameable r) → 64 < nodes + count (element l c r))
    → Missed Ended text nodes
unfolding forest_text
missed_more text nodes o m no_element q k e y = absurd (k (subst (λ (x : List ℕ). Yes (opens x)) e o))
missed_more text nodes o m (element l c r) q k e y = let n = nameable_first l c r y in m l c r q k (e ∙ first_text l c r q) n.0 n.1

pub miss_first : (text : List ℕ) (nodes : ℕ) → Yes (opens text) → Missed Single text nodes → Missed Ended text nodes
miss_first text nodes o m =
    missed_more text nodes o λ l c r q k e y z.
    let a = m (one l c) (forest_text r ++ q) tt e y in
    let b = count_first l c r in
    let d = count_first l c no_element in
    let n = count_none in
    omega arith

module _ {text : List ℕ} {up : ℕ} {g : Gathered} {rest : List ℕ} {h : Gathered} (f : Found Single text up g rest h) where
  abbrev label : Label
  label = (single_is f.forest rest f.sort).0

  abbrev children : Forest
  children = (single_is f.forest rest f.sort).1

  is_one : f.forest ≡ one label children
  is_one = (single_is f.forest rest f.sort).2

  first_is : text ≡ forest_text (one label children) ++ rest
  first_is = f.is ∙ ap (λ (w : Forest). forest_text w ++ rest) is_one

  first_nameable : Yes (all_nameable (one label children))
  first_nameable = subst (λ (w : Forest). Yes (all_nameable w)) is_one f.nameable

  counted : h.count ≡ g.count + count (one label children)
  counted = put_count (λ (v : NodeRecord). v.up) up g.count f.forest f.put_ups ∙ ap (λ (w : Forest). g.count + count w) is_one

  pub shorter : length rest < length text
  shorter =
      let a = ap length first_is in
      let b = length-append (forest_text (one label children)) rest in
      let s = one_some label children in
      omega arith

  found_more : {last : List ℕ} {k : Gathered} → Found Ended rest up h last k → Found Ended text up g last k
  found_more {last} m =
      let r = m.forest in
      record {
        forest = element label children r;
        sort = m.sort;
        is = first_is ∙ ap (λ (x : List ℕ). forest_text (one label children) ++ x) m.is ∙ sym (first_text label children r last);
        nameable = nameable_both label children r first_nameable m.nameable;
        put_ups = put_same (records (λ (v : NodeRecord). v.up) r) (put_then f.put_ups m.put_ups);
        put_labels = put_same (records (λ (v : NodeRecord). v.label) r) (put_then f.put_labels m.put_labels);
      }
    where
      records : (p : NodeRecord → ℕ) (r : Forest)
          → map p (forest_records up g.count f.forest) ++ map p (forest_records up h.count r)
          ≡ map p (forest_records up g.count (element label children r))
      records p r =
          ap (λ (w : Forest). map p (forest_records up g.count w) ++ map p (forest_records up h.count r)) is_one
          ∙ first_records p up g.count h.count label children r counted

  miss_more : Yes (opens text) → Missed Ended rest h.count → Missed Ended text g.count
  miss_more o m =
      missed_more text g.count o λ l c r q k e y z.
      let s = one_split label l children c rest (forest_text r ++ q) first_nameable y (sym first_is ∙ e) in
      let a = m r q k s.1 z in
      let b = ap count s.0 in
      let n = counted in
      let i = count_first label children no_element in
      let j = count_first l c r in
      let d = count_none in
      omega arith

  pub then_more : Yes (opens text) → (r : Result (Bor (List ℕ)) Question) (k : Gathered)
      → ElementsRead rest up h r k → ElementsRead text up g r k
  then_more o (Ok last) k m = found_more m
  then_more o (Err q) k m = (m.0, miss_more o m.1)
