-- What the text and the records of elements say of them. A text is split in one way into the elements that follow and the bytes left, since the computed
-- reader reads every forest whole; so is a text that starts with one element, as an element ends with its own end. The records of an element are its
-- own and those of what is inside it, and those of elements are those of the first and of the others.
use mathlib.Core.Path.{◌≡◌, refl, sym, ap, ◌∙◌, subst}
use mathlib.Core.List.{List, [], ◌∷◌, ◌++◌, map, map-append, append-nil}
use Prim.Native.Nat.{ℕ, suc, ◌+◌, ◌≤◌}
use native.Mathlib.Numerals.{add-one}
use native.Mathlib.Omega.{arith}
use lib.ListN.{length}
use Rattle.meaning.specs.Tree.{Label}
use Rattle.meaning.specs.Finite.{Yes}
use Rattle.meaning.specs.ReadOff.{NodeRecord}
use Rattle.meaning.specs.Xml.{Forest, no_element, element, count, is_nameable, all_nameable, name_of, forest_text, forest_records}
use Rattle.meaning.proofs.Tests.{and_left, and_right, and_both}
use Rattle.theory.specs.Reader.{got}
use Rattle.theory.specs.Xml.{forest_at, opens}
use Rattle.theory.proofs.XmlReader.{name_is, leaf_text, whole_text, forest_read, opens_name, closing}

abbrev pub one : Label → Forest → Forest
one l c = element l c no_element

-- ---- labels

pub one_nameable : (l : Label) (c : Forest) → Yes (all_nameable (one l c)) → Yes (is_nameable l) × Yes (all_nameable c)
unfolding all_nameable
one_nameable l c y = (and_left _ y, and_left _ (and_right _ y))

pub nameable_one : (l : Label) (c : Forest) → Yes (is_nameable l) → Yes (all_nameable c) → Yes (all_nameable (one l c))
unfolding all_nameable
nameable_one l c y z = and_both y (and_both z refl)

pub nameable_first : (l : Label) (c r : Forest) → Yes (all_nameable (element l c r)) → Yes (all_nameable (one l c)) × Yes (all_nameable r)
unfolding all_nameable
nameable_first l c r y = (and_both (and_left _ y) (and_both (and_left _ (and_right _ y)) refl), and_right _ (and_right _ y))

pub nameable_both : (l : Label) (c r : Forest) → Yes (all_nameable (one l c)) → Yes (all_nameable r) → Yes (all_nameable (element l c r))
unfolding all_nameable
nameable_both l c r y z = and_both (and_left _ y) (and_both (and_left _ (and_right _ y)) z)

-- ---- how many

pub count_none : count no_element ≡ 0
unfolding count
count_none = refl

pub count_first : (l : Label) (c r : Forest) → count (element l c r) ≡ suc (count c + count r)
unfolding count
count_first l c r = refl

-- ---- the text

pub one_leaf : (l : Label) (q : List ℕ) → forest_text (one l no_element) ++ q ≡ 60 ∷ name_of l ∷ 47 ∷ 62 ∷ q
one_leaf l q = leaf_text l no_element q ∙ (unfold forest_text in refl)

pub one_whole : (l m : Label) (d s : Forest) (q : List ℕ)
    → forest_text (one l (element m d s)) ++ q ≡ 60 ∷ name_of l ∷ 62 ∷ (forest_text (element m d s) ++ (60 ∷ 47 ∷ name_of l ∷ 62 ∷ q))
one_whole l m d s q = whole_text l m d s no_element q ∙ (unfold forest_text in refl)

-- the text around others
pub one_around : (l : Label) (c : Forest) (q : List ℕ) → 1 ≤ count c → forest_text (one l c) ++ q ≡ 60 ∷ name_of l ∷ 62 ∷ (forest_text c ++ (60 ∷ 47 ∷ name_of l ∷ 62 ∷ q))
one_around l no_element q h = absurd (let z = count_none in omega arith)
one_around l (element m d s) q h = one_whole l m d s q

pub first_text : (l : Label) (c r : Forest) (q : List ℕ) → forest_text (element l c r) ++ q ≡ forest_text (one l c) ++ (forest_text r ++ q)
first_text l no_element r q = leaf_text l r q ∙ sym (one_leaf l (forest_text r ++ q))
first_text l (element m d s) r q = whole_text l m d s r q ∙ sym (one_whole l m d s (forest_text r ++ q))

pub one_some : (l : Label) (c : Forest) → 1 ≤ length (forest_text (one l c))
one_some l no_element = let a = ap length (sym (append-nil (forest_text (one l no_element))) ∙ one_leaf l []) in omega arith
one_some l (element m d s) = let a = ap length (sym (append-nil (forest_text (one l (element m d s)))) ∙ one_whole l m d s []) in omega arith

-- an element that has a name starts
pub one_opens : (l : Label) (c : Forest) (q : List ℕ) → Yes (is_nameable l) → Yes (opens (forest_text (one l c) ++ q))
one_opens l no_element q y = subst (λ (x : List ℕ). Yes (opens x)) (sym (one_leaf l q)) (opens_name (name_of l) _ (name_is l y))
one_opens l (element m d s) q y = subst (λ (x : List ℕ). Yes (opens x)) (sym (one_whole l m d s q)) (opens_name (name_of l) _ (name_is l y))

-- ---- is split in one way

pub forest_split : (w v : Forest) (q p : List ℕ) → Yes (all_nameable w) → Yes (all_nameable v) → ¬ Yes (opens q) → ¬ Yes (opens p)
    → forest_text w ++ q ≡ forest_text v ++ p → (w ≡ v) × (q ≡ p)
forest_split w v q p y z a b e =
    let k = suc (count w + count v) in
    let d : got w q ≡ got v p = sym (forest_read w y q a k (omega arith)) ∙ ap (forest_at k) e ∙ forest_read v z p b k (omega arith) in
    (cc, cc)

-- / is not >
pub clash_bytes : {A : Type 0} {x y : List ℕ} → 47 ∷ x ≡ 62 ∷ y → A
clash_bytes e = absurd (let h : ◌≡◌ {A = ℕ} 47 62 = cc in omega arith)

pub one_split : (l m : Label) (c d : Forest) (q p : List ℕ) → Yes (all_nameable (one l c)) → Yes (all_nameable (one m d))
    → forest_text (one l c) ++ q ≡ forest_text (one m d) ++ p → (c ≡ d) × (q ≡ p)
one_split l m no_element no_element q p y z e =
    let h : 60 ∷ name_of l ∷ 47 ∷ 62 ∷ q ≡ 60 ∷ name_of m ∷ 47 ∷ 62 ∷ p = sym (one_leaf l q) ∙ e ∙ one_leaf m p in
    (refl, cc)
one_split l m no_element (element i f g) q p y z e =
    let x = forest_text (element i f g) ++ (60 ∷ 47 ∷ name_of m ∷ 62 ∷ p) in
    let h : 60 ∷ name_of l ∷ 47 ∷ 62 ∷ q ≡ 60 ∷ name_of m ∷ 62 ∷ x = sym (one_leaf l q) ∙ e ∙ one_whole m i f g p in
    let k : 47 ∷ 62 ∷ q ≡ 62 ∷ x = cc in
    clash_bytes k
one_split l m (element i f g) no_element q p y z e =
    let x = forest_text (element i f g) ++ (60 ∷ 47 ∷ name_of l ∷ 62 ∷ q) in
    let h : 60 ∷ name_of m ∷ 47 ∷ 62 ∷ p ≡ 60 ∷ name_of l ∷ 62 ∷ x = sym (one_leaf m p) ∙ sym e ∙ one_whole l i f g q in
    let k : 47 ∷ 62 ∷ p ≡ 62 ∷ x = cc in
    clash_bytes k
one_split l m (element i f g) (element j o t) q p y z e =
    let x : List ℕ = 60 ∷ 47 ∷ name_of l ∷ 62 ∷ q in
    let v : List ℕ = 60 ∷ 47 ∷ name_of m ∷ 62 ∷ p in
    let h : 60 ∷ name_of l ∷ 62 ∷ (forest_text (element i f g) ++ x) ≡ 60 ∷ name_of m ∷ 62 ∷ (forest_text (element j o t) ++ v) =
    sym (one_whole l i f g q) ∙ e ∙ one_whole m j o t p in
    let k : forest_text (element i f g) ++ x ≡ forest_text (element j o t) ++ v = cc in
    let s = forest_split (element i f g) (element j o t) x v (one_nameable l _ y).1 (one_nameable m _ z).1 (closing _) (closing _) k in
    let r = s.1 in
    (s.0, cc)

-- ---- the records

pub one_records : (f : NodeRecord → ℕ) (u i : ℕ) (l : Label) (c : Forest)
    → (f (record { up = u; label = l }) ∷ []) ++ map f (forest_records i (i + 1) c) ≡ map f (forest_records u i (one l c))
unfolding forest_records
one_records f u i l c =
    ap (λ (k : ℕ). f (record { up = u; label = l }) ∷ map f (forest_records i k c)) (add-one i)
    ∙ ap (λ (vs : List NodeRecord). map f (record { up = u; label = l } ∷ vs)) (sym (append-nil (forest_records i (suc i) c)))

pub first_records : (f : NodeRecord → ℕ) (u i j : ℕ) (l : Label) (c r : Forest) → j ≡ i + count (one l c)
    → map f (forest_records u i (one l c)) ++ map f (forest_records u j r) ≡ map f (forest_records u i (element l c r))
unfolding forest_records
first_records f u i j l c r e =
    let n = count_first l c no_element in
    let z = count_none in
    let d : j ≡ suc i + count c = omega arith in
    let x = forest_records i (suc i) c in
    ap (λ (ns : List ℕ). f (record { up = u; label = l }) ∷ ns)
    (ap (λ (vs : List NodeRecord). map f vs ++ map f (forest_records u j r)) (append-nil x)
    ∙ ap (λ (k : ℕ). map f x ++ map f (forest_records u k r)) d
    ∙ sym (map-append f x (forest_records u (suc i + count c) r)))
