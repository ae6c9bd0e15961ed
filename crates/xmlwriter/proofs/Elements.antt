-- A forest that is held by links is written: the element's own bytes, then the elements inside it and those after it, whose nodes have larger numbers.
use mathlib.Core.Path.{◌≡◌, refl, sym, ap, ◌∙◌}
use mathlib.Core.List.{List, [], ◌∷◌, ◌++◌, append_assoc}
use Prim.Native.Nat.{ℕ, suc, ◌+◌, ◌-◌, ◌≤◌, ◌<◌}
use native.Mathlib.Omega.{arith}
use lib.Dec.{eqb}
use lib.ListN.{length, get_or, length-append}
use Rattle.meaning.specs.Tree.{Label}
use Rattle.meaning.specs.Finite.{pick}
use Rattle.meaning.specs.Ascii.{ascii}
use Rattle.meaning.specs.Xml.{Forest, no_element, element, name_of, enclosed, forest_text}
use Rattle.meaning.proofs.Tests.{pick_yes, pick_no, is_eq, eq_yes}
use Rattle.lent.specs.Putting.{Put}
use Rattle.lent.proofs.Stores.{put_none, put_then, put_same}
use Rattle.xmlwriter.specs.declared.links.Links.{Links}
use Rattle.xmlwriter.specs.Links.{Linked, Fits, ForestWritten}
use Rattle.xmlwriter.proofs.Linking.{linked_below}

-- ---- the text of a forest, in the order of the code

leaf_is : (l : Label) (r : Forest) → forest_text (element l no_element r) ≡ (60 ∷ name_of l ∷ 47 ∷ 62 ∷ []) ++ forest_text r
unfolding forest_text enclosed ascii
leaf_is l r = refl

whole_is : (l m : Label) (d s r : Forest)
    → forest_text (element l (element m d s) r) ≡ ((60 ∷ name_of l ∷ 62 ∷ []) ++ forest_text (element m d s)) ++ ((60 ∷ 47 ∷ name_of l ∷ 62 ∷ []) ++ forest_text r)
unfolding forest_text enclosed ascii
whole_is l m d s r =
    let c = forest_text (element m d s) in
    ap (λ (x : List ℕ). 60 ∷ name_of l ∷ 62 ∷ x) (append_assoc c (60 ∷ 47 ∷ name_of l ∷ 62 ∷ []) (forest_text r))

leaf_length : (l : Label) (r : Forest) → length (forest_text (element l no_element r)) ≡ 4 + length (forest_text r)
leaf_length l r = ap length (leaf_is l r) ∙ length-append (60 ∷ name_of l ∷ 47 ∷ 62 ∷ []) (forest_text r)

whole_length : (l m : Label) (d s r : Forest) → length (forest_text (element l (element m d s) r)) ≡ 7 + length (forest_text (element m d s)) + length (forest_text r)
whole_length l m d s r =
    let a = ap length (whole_is l m d s r) in
    let b = length-append ((60 ∷ name_of l ∷ 62 ∷ []) ++ forest_text (element m d s)) ((60 ∷ 47 ∷ name_of l ∷ 62 ∷ []) ++ forest_text r) in
    omega arith

-- ---- what falls from a node to its first child and to its next sibling

abbrev pub left : ℕ → ℕ
left v = pick (eqb v 0) 0 (64 - v)

left_of : (links : Links) (v y : ℕ) (w : Forest) → ¬ (v ≡ 0) → v < 64 → Linked links (suc v) y w → left y < left v
left_of links v y no_element nz l h =
    let a : left y ≡ 0 = pick_yes _ _ (eq_yes h) in
    let b : left v ≡ 64 - v = pick_no _ _ (λ e. nz (is_eq e)) in
    omega arith
left_of links v y (element m c r) nz l h =
    let p = h.1 in
    let q = h.0 in
    let a : left y ≡ 64 - y = pick_no _ _ (λ e. let z : y ≡ 0 = is_eq e in omega arith) in
    let b : left v ≡ 64 - v = pick_no _ _ (λ e. nz (is_eq e)) in
    omega arith

-- ---- an element and those after it

from_one : (links : Links) (k x : ℕ) (w : Forest) → 1 ≤ k → Linked links k x w → Linked links 1 x w
from_one links k x w l h = linked_below w links 1 k x l h

pub none_written : (links : Links) (v : ℕ) (old : List ℕ) (at : ℕ) → v ≡ 0 → at ≤ length old → ForestWritten links v old at at old
unfolding forest_text
none_written links v old at z l no_element h = put_none old at l
none_written links v old at z l (element m c r) h = absurd (let p = h.1 in omega arith)

module _ (links : Links) (v : ℕ) (old : List ℕ) (at : ℕ) (nz : ¬ (v ≡ 0)) where
  abbrev Room : Forest → Type 0
  Room w = at + length (forest_text w) ≤ length old

  pub small : (w : Forest) → Linked links 1 v w → v < 64
  small no_element h = absurd (nz h)
  small (element l c r) h = h.2

  pub inner_falls : (w : Forest) → Linked links 1 v w → left (get_or links.first v 0) < left v
  inner_falls no_element h = absurd (nz h)
  inner_falls (element l c r) h = left_of links v (get_or links.first v 0) c nz h.2 h.4

  pub after_falls : (w : Forest) → Linked links 1 v w → left (get_or links.next v 0) < left v
  after_falls no_element h = absurd (nz h)
  after_falls (element l c r) h = left_of links v (get_or links.next v 0) r nz h.2 h.5

  -- a leaf
  module _ (z : get_or links.first v 0 ≡ 0) where
    pub leaf_room : (w : Forest) → Linked links 1 v w → Room w → at + 4 ≤ length old
    leaf_room no_element h q = absurd (nz h)
    leaf_room (element l no_element r) h q = let a = leaf_length l r in omega arith
    leaf_room (element l (element m d s) r) h q = absurd (let p = h.4.1 in omega arith)

    module _ (mid : List ℕ) (k : ℕ) (p : Put old at (60 ∷ get_or links.names v 0 ∷ 47 ∷ 62 ∷ []) k mid) where
      pub leaf_fits : (w : Forest) → Linked links 1 v w → Room w → Fits links (get_or links.next v 0) mid k
      leaf_fits no_element h q = absurd (nz h)
      leaf_fits (element l no_element r) h q =
          let a = leaf_length l r in
          let e = p.end in
          let s = p.same_length in
          record { forest = r; linked = from_one links (suc v) (get_or links.next v 0) r (omega arith) h.5; room = omega arith }
      leaf_fits (element l (element m d s) r) h q = absurd (let t = h.4.1 in omega arith)

      pub leaf_written : (new : List ℕ) (end : ℕ) → ForestWritten links (get_or links.next v 0) mid k end new → ForestWritten links v old at end new
      leaf_written new end x no_element h = absurd (nz h)
      leaf_written new end x (element l no_element r) h =
          let b = x r (from_one links (suc v) (get_or links.next v 0) r (omega arith) h.5) in
          put_same (ap (λ (i : ℕ). (60 ∷ i ∷ 47 ∷ 62 ∷ []) ++ forest_text r) h.3 ∙ sym (leaf_is l r)) (put_then p b)
      leaf_written new end x (element l (element m d s) r) h = absurd (let t = h.4.1 in omega arith)

  -- an element with elements inside it
  module _ (some : ¬ (get_or links.first v 0 ≡ 0)) where
    pub whole_room : (w : Forest) → Linked links 1 v w → Room w → at + 3 ≤ length old
    whole_room no_element h q = absurd (nz h)
    whole_room (element l no_element r) h q = absurd (some h.4)
    whole_room (element l (element m d s) r) h q = let a = whole_length l m d s r in omega arith

    module _ (mid : List ℕ) (k : ℕ) (p : Put old at (60 ∷ get_or links.names v 0 ∷ 62 ∷ []) k mid) where
      pub whole_fits : (w : Forest) → Linked links 1 v w → Room w → Fits links (get_or links.first v 0) mid k
      whole_fits no_element h q = absurd (nz h)
      whole_fits (element l no_element r) h q = absurd (some h.4)
      whole_fits (element l (element m d s) r) h q =
          let a = whole_length l m d s r in
          let e = p.end in
          let i = p.same_length in
          record { forest = element m d s; linked = from_one links (suc v) (get_or links.first v 0) (element m d s) (omega arith) h.4; room = omega arith }

      module _ (mid2 : List ℕ) (close : ℕ) (x : ForestWritten links (get_or links.first v 0) mid k close mid2) where
        inner_put : (l m : Label) (d s r : Forest) → Linked links 1 v (element l (element m d s) r) → Put mid k (forest_text (element m d s)) close mid2
        inner_put l m d s r h = x (element m d s) (from_one links (suc v) (get_or links.first v 0) (element m d s) (omega arith) h.4)

        pub close_room : (w : Forest) → Linked links 1 v w → Room w → close + 4 ≤ length mid2
        close_room no_element h q = absurd (nz h)
        close_room (element l no_element r) h q = absurd (some h.4)
        close_room (element l (element m d s) r) h q =
            let a = whole_length l m d s r in
            let i = inner_put l m d s r h in
            let e1 = p.end in
            let e2 = i.end in
            let s1 = p.same_length in
            let s2 = i.same_length in
            omega arith

        module _ (mid3 : List ℕ) (k2 : ℕ) (p2 : Put mid2 close (60 ∷ 47 ∷ get_or links.names v 0 ∷ 62 ∷ []) k2 mid3) where
          pub after_fits : (w : Forest) → Linked links 1 v w → Room w → Fits links (get_or links.next v 0) mid3 k2
          after_fits no_element h q = absurd (nz h)
          after_fits (element l no_element r) h q = absurd (some h.4)
          after_fits (element l (element m d s) r) h q =
              let a = whole_length l m d s r in
              let i = inner_put l m d s r h in
              let e1 = p.end in
              let e2 = i.end in
              let e3 = p2.end in
              let s1 = p.same_length in
              let s2 = i.same_length in
              let s3 = p2.same_length in
              record { forest = r; linked = from_one links (suc v) (get_or links.next v 0) r (omega arith) h.5; room = omega arith }

          pub whole_written : (new : List ℕ) (end : ℕ) → ForestWritten links (get_or links.next v 0) mid3 k2 end new → ForestWritten links v old at end new
          whole_written new end y no_element h = absurd (nz h)
          whole_written new end y (element l no_element r) h = absurd (some h.4)
          whole_written new end y (element l (element m d s) r) h =
              let i = inner_put l m d s r h in
              let b = y r (from_one links (suc v) (get_or links.next v 0) r (omega arith) h.5) in
              let c = forest_text (element m d s) in
              put_same (ap (λ (o : ℕ). ((60 ∷ o ∷ 62 ∷ []) ++ c) ++ ((60 ∷ 47 ∷ o ∷ 62 ∷ []) ++ forest_text r)) h.3 ∙ sym (whole_is l m d s r)) (put_then (put_then p i) (put_then p2 b))
