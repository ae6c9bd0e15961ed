-- The element that stands there, by the tests in the code's order: where one fails no element stands there that is not too large, and where all hold
-- it is the leaf, or the element around what was found behind its >. An element that stands there starts with the same bytes, so what is inside it
-- is what was found.
use mathlib.Core.Path.{◌≡◌, refl, sym, ap, ◌∙◌, subst}
use mathlib.Core.Logic.{◌⊎◌, inl, inr, ⊎_elim}
use mathlib.Core.List.{List, [], ◌∷◌, ◌++◌, map}
use Prim.Native.Nat.{ℕ, ◌+◌, ◌≤◌}
use native.Mathlib.Omega.{arith}
use Rattle.meaning.specs.Tree.{Label}
use Rattle.meaning.specs.Finite.{Yes}
use Rattle.meaning.specs.ReadOff.{NodeRecord}
use Rattle.meaning.specs.Xml.{Forest, no_element, element, count, is_nameable, all_nameable, name_of, forest_text, forest_records}
use Rattle.theory.specs.Xml.{opens}
use Rattle.theory.proofs.XmlReader.{label_name, label_nameable, closing}
use Rattle.lent.proofs.Stores.{put_same, put_then}
use Rattle.xmlreader.specs.declared.gathered.Gathered.{Gathered}
use Rattle.xmlreader.specs.Gathering.{Added}
use Rattle.xmlreader.specs.Reading.{Single, Ended, Found, Missed}
use Rattle.xmlreader.proofs.Opens.{Started}
use Rattle.xmlreader.proofs.Forests.{one, one_nameable, nameable_one, count_none, count_first, one_leaf, one_whole, one_around, one_opens, forest_split, clash_bytes, one_records}
use Rattle.xmlreader.proofs.Found.{missed_one, put_count}

-- no element starts there
pub miss_start : (text : List ℕ) (nodes : ℕ) → ¬ Yes (opens text) → Missed Single text nodes
miss_start text nodes n =
    missed_one text nodes λ l c q e y. absurd (n (subst (λ (x : List ℕ). Yes (opens x)) (sym e) (one_opens l c q (one_nameable l c y).0)))

pub miss_many : (text : List ℕ) (nodes : ℕ) → 64 ≤ nodes → Missed Single text nodes
miss_many text nodes f = missed_one text nodes λ l c q e y. let n = count_first l c no_element in omega arith

module _ {text left : List ℕ} {name label : ℕ} (start : Started text left name label) where
  -- behind the name stand >, the elements c and the end of the element
  record Around (c : Forest) (q : List ℕ) : Type 0 where
    some : 1 ≤ count c
    named : Yes (all_nameable c)
    is : left ≡ 62 ∷ (forest_text c ++ (60 ∷ 47 ∷ name ∷ 62 ∷ q))

  -- an element that stands there is a leaf, or one around others
  shape : (l : Label) (c : Forest) (q : List ℕ) → text ≡ forest_text (one l c) ++ q → Yes (all_nameable (one l c))
      → (left ≡ 47 ∷ 62 ∷ q) ⊎ Around c q
  shape l no_element q e y =
      let h : 60 ∷ name ∷ left ≡ 60 ∷ name_of l ∷ 47 ∷ 62 ∷ q = sym start.is ∙ e ∙ one_leaf l q in
      inl cc
  shape l (element m d s) q e y =
      let c = element m d s in
      let h : 60 ∷ name ∷ left ≡ 60 ∷ name_of l ∷ 62 ∷ (forest_text c ++ (60 ∷ 47 ∷ name_of l ∷ 62 ∷ q)) =
      sym start.is ∙ e ∙ one_whole l m d s q in
      let a : name ≡ name_of l = cc in
      let b : left ≡ 62 ∷ (forest_text c ++ (60 ∷ 47 ∷ name_of l ∷ 62 ∷ q)) = cc in
      let n = count_first m d s in
      inr (record {
        some = omega arith;
        named = (one_nameable l c y).1;
        is = b ∙ ap (λ (x : ℕ). 62 ∷ (forest_text c ++ (60 ∷ 47 ∷ x ∷ 62 ∷ q))) (sym a);
      })

  module _ (nodes : ℕ) where
    -- neither /> nor >
    pub miss_neither : ((q : List ℕ) → ¬ (left ≡ 47 ∷ 62 ∷ q)) → ((q : List ℕ) → ¬ (left ≡ 62 ∷ q)) → Missed Single text nodes
    miss_neither a b = missed_one text nodes λ l c q e y. ⊎_elim (λ h. absurd (a q h)) (λ h. absurd (b _ h.is)) (shape l c q e y)

    -- > and then what is inside
    module _ {within : List ℕ} (bracket : left ≡ 62 ∷ within) where
      inside : (l : Label) (c : Forest) (q : List ℕ) → text ≡ forest_text (one l c) ++ q → Yes (all_nameable (one l c))
          → (1 ≤ count c) × Yes (all_nameable c) × (within ≡ forest_text c ++ (60 ∷ 47 ∷ name ∷ 62 ∷ q))
      inside l c q e y =
          ⊎_elim (λ h. clash_bytes (sym h ∙ bracket))
          (λ h. let k : 62 ∷ within ≡ 62 ∷ (forest_text c ++ (60 ∷ 47 ∷ name ∷ 62 ∷ q)) = sym bracket ∙ h.is in (h.some, h.named, cc))
          (shape l c q e y)

      pub miss_inside : {k : ℕ} → k ≡ nodes + 1 → Missed Ended within k → Missed Single text nodes
      miss_inside d m =
          missed_one text nodes λ l c q e y.
          let h = inside l c q e y in
          let a = m c (60 ∷ 47 ∷ name ∷ 62 ∷ q) (closing _) h.2 h.1 in
          let n = count_first l c no_element in
          let z = count_none in
          omega arith

      module _ {u : ℕ} {g : Gathered} {end : List ℕ} {h : Gathered} (f : Found Ended within u g end h) where
        -- what was found is what is inside
        found_inside : (l : Label) (c : Forest) (q : List ℕ) → text ≡ forest_text (one l c) ++ q → Yes (all_nameable (one l c))
            → (f.forest ≡ c) × (end ≡ 60 ∷ 47 ∷ name ∷ 62 ∷ q)
        found_inside l c q e y =
            let i = inside l c q e y in
            forest_split f.forest c end (60 ∷ 47 ∷ name ∷ 62 ∷ q) f.nameable i.1 f.sort (closing _) (sym f.is ∙ i.2)

        pub miss_empty : h.count ≡ g.count → Missed Single text nodes
        miss_empty t =
            missed_one text nodes λ l c q e y.
            let a = ap count (found_inside l c q e y).0 in
            let b = put_count (λ (v : NodeRecord). v.up) u g.count f.forest f.put_ups in
            let i = (inside l c q e y).0 in
            absurd (omega arith)

        pub miss_close : ((q : List ℕ) → ¬ (end ≡ 60 ∷ 47 ∷ name ∷ 62 ∷ q)) → Missed Single text nodes
        miss_close n = missed_one text nodes λ l c q e y. absurd (n q (found_inside l c q e y).1)

  -- ---- found

  named : name_of label ≡ name
  named = ap name_of start.labelled ∙ label_name name start.named

  nameable : Yes (is_nameable label)
  nameable = subst (λ (l : Label). Yes (is_nameable l)) (sym start.labelled) (label_nameable name start.named)

  module _ {up node : ℕ} {g h : Gathered} (one_more : Added g up label node h) where
    pub found_leaf : {rest : List ℕ} → left ≡ 47 ∷ 62 ∷ rest → Found Single text up g rest h
    found_leaf {rest} b =
        record {
          forest = one label no_element;
          sort = tt;
          is = start.is ∙ ap (λ (x : List ℕ). 60 ∷ name ∷ x) b ∙ ap (λ (x : ℕ). 60 ∷ x ∷ 47 ∷ 62 ∷ rest) (sym named) ∙ sym (one_leaf label rest);
          nameable = nameable_one label no_element nameable (unfold all_nameable in refl);
          put_ups = unfold forest_records in one_more.put_up;
          put_labels = unfold forest_records in one_more.put_label;
        }

    -- the element around what was found, its end behind it
    pub found_around : {within end rest : List ℕ} {k : Gathered} → left ≡ 62 ∷ within → Found Ended within node h end k
        → (k.count ≡ node + 1 → ⊥) → end ≡ 60 ∷ 47 ∷ name ∷ 62 ∷ rest → Found Single text up g rest k
    found_around {rest = rest} {k = k} b f t y =
        let w = f.forest in
        let n = put_count (λ (v : NodeRecord). v.up) node h.count w f.put_ups in
        let i = one_more.numbered in
        let j = one_more.put_up.end in
        let e = start.is ∙ ap (λ (x : List ℕ). 60 ∷ name ∷ x) b ∙ ap (λ (x : List ℕ). 60 ∷ name ∷ 62 ∷ x) (f.is ∙ ap (λ (x : List ℕ). forest_text w ++ x) y) in
        record {
          forest = one label w;
          sort = tt;
          is = e ∙ ap (λ (x : ℕ). 60 ∷ x ∷ 62 ∷ (forest_text w ++ (60 ∷ 47 ∷ x ∷ 62 ∷ rest))) (sym named) ∙ sym (one_around label w rest (omega arith));
          nameable = nameable_one label w nameable f.nameable;
          put_ups = put_same (records (λ (v : NodeRecord). v.up) w) (put_then one_more.put_up f.put_ups);
          put_labels = put_same (records (λ (v : NodeRecord). v.label) w) (put_then one_more.put_label f.put_labels);
        }
      where
        records : (p : NodeRecord → ℕ) (w : Forest)
            → (p (record { up = up; label = label }) ∷ []) ++ map p (forest_records node h.count w) ≡ map p (forest_records up g.count (one label w))
        records p w =
            ap (λ (i : ℕ). (p (record { up = up; label = label }) ∷ []) ++ map p (forest_records i h.count w)) one_more.numbered
            ∙ ap (λ (i : ℕ). (p (record { up = up; label = label }) ∷ []) ++ map p (forest_records g.count i w)) one_more.put_up.end
            ∙ one_records p up g.count label w
