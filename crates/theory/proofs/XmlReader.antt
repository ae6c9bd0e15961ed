-- The computed reader reads the text of every forest, and what it has read has that text. So it decides whether a text is of the form, no two
-- ordered trees have one text, and a text of at most 63 elements is short.
use mathlib.Core.Path.{◌≡◌, refl, sym, ap, ◌∙◌, subst}
use mathlib.Core.Logic.{⊎_elim}
use mathlib.Core.Bool.{false≢true}
use mathlib.Core.List.{List, [], ◌∷◌, ◌++◌, append_assoc, append-nil}
use Prim.Native.Nat.{ℕ, zero, suc, ◌+◌, ◌*◌, ◌≤◌, ◌<◌}
use native.Mathlib.Nat.{not-suc-le-zero}
use native.Mathlib.Omega.{arith}
use lib.ListN.{length, drop, length-append}
use lib.Dec.{eqb, leb}
use Rattle.meaning.specs.Finite.{Yes, pick, ◌and◌, ◌or◌}
use Rattle.meaning.specs.Tree.{Label, is_capital}
use Rattle.meaning.specs.Ascii.{ascii}
use Rattle.meaning.specs.Paths.{is_small, is_letter}
use Rattle.meaning.specs.Xml.{Forest, no_element, element, Element, alone, count, is_nameable, all_nameable, name_of, enclosed, forest_text, element_text, XmlForm}
use Rattle.theory.specs.Reader.{Got, nothing, got, and_then, front}
use Rattle.theory.specs.Xml.{name_at, is_name, label_named, opens, some, forest_at, outermost, text_element}
use Rattle.meaning.proofs.Tests.{pick_yes, pick_no, pick_has, is_eq, self_eq, is_le, le_yes, and_left, and_right, and_both, or_left, or_right, or_cases}
use Rattle.theory.proofs.Reader.{front_is, front_self, no_bytes}

-- ---- by computing: what is let in by a change shows here

-- <a></a>
empty_not_read : forest_at 3 (60 ∷ 97 ∷ 62 ∷ 60 ∷ 47 ∷ 97 ∷ 62 ∷ []) ≡ nothing
unfolding forest_at opens some front is_name label_named is_letter is_small is_capital pick ◌and◌ ◌or◌
empty_not_read = refl

-- 65 nodes
many_not_read : (e : Element) (q : List ℕ) → suc (count (alone e)) ≡ 65 → outermost (got (alone e) q) ≡ nothing
unfolding outermost
many_not_read e q m = pick_no _ _ (λ y. let l : suc (count (alone e)) ≤ 64 = is_le (and_right (eqb (length q) 0) y) in omega arith)

-- ---- names

-- what is no letter equals none
letter_not : (c : ℕ) → ¬ Yes (is_letter c) → (b : ℕ) → Yes (is_letter b) → ¬ (b ≡ c)
letter_not c n b y e = n (subst (λ (k : ℕ). Yes (is_letter k)) e y)

not_blank : (b : ℕ) → Yes (is_letter b) → ¬ (b ≡ 0)
not_blank = letter_not 0 (unfold is_letter is_small is_capital ◌and◌ ◌or◌ in (λ y. false≢true y))

not_line : (b : ℕ) → Yes (is_letter b) → ¬ (b ≡ 95)
not_line = letter_not 95 (unfold is_letter is_small is_capital ◌and◌ ◌or◌ in (λ y. false≢true y))

-- a nameable label has a name, and the name tells the label
pub name_is : (l : Label) → Yes (is_nameable l) → Yes (is_name (name_of l))
unfolding is_nameable is_name name_of
name_is l y =
    ⊎_elim (λ t. subst (λ (b : ℕ). Yes (eqb b 95 or is_letter b)) (sym (pick_yes 95 l t)) (or_left _ (self_eq 95)))
    (λ t. subst (λ (b : ℕ). Yes (eqb b 95 or is_letter b)) (sym (pick_no 95 l (λ z. not_blank l t (is_eq z)))) (or_right _ t))
    (or_cases _ _ y)

pub name_label : (l : Label) → Yes (is_nameable l) → label_named (name_of l) ≡ l
unfolding is_nameable label_named name_of
name_label l y =
    ⊎_elim (λ t. ap (λ (b : ℕ). pick (eqb b 95) 0 b) (pick_yes 95 l t) ∙ pick_yes 0 95 (self_eq 95) ∙ sym (is_eq t))
    (λ t. ap (λ (b : ℕ). pick (eqb b 95) 0 b) (pick_no 95 l (λ z. not_blank l t (is_eq z))) ∙ pick_no 0 l (λ z. not_line l t (is_eq z)))
    (or_cases _ _ y)

-- and the other way round
pub label_name : (b : ℕ) → Yes (is_name b) → name_of (label_named b) ≡ b
unfolding is_name label_named name_of
label_name b y =
    ⊎_elim (λ t. ap (λ (l : ℕ). pick (eqb l 0) 95 l) (pick_yes 0 b t) ∙ pick_yes 95 0 (self_eq 0) ∙ sym (is_eq t))
    (λ t. ap (λ (l : ℕ). pick (eqb l 0) 95 l) (pick_no 0 b (λ z. not_line b t (is_eq z))) ∙ pick_no 95 b (λ z. not_blank b t (is_eq z)))
    (or_cases _ _ y)

pub label_nameable : (b : ℕ) → Yes (is_name b) → Yes (is_nameable (label_named b))
unfolding is_name label_named is_nameable
label_nameable b y =
    ⊎_elim (λ t. subst (λ (l : ℕ). Yes (eqb l 0 or is_letter l)) (sym (pick_yes 0 b t)) (or_left _ (self_eq 0)))
    (λ t. subst (λ (l : ℕ). Yes (eqb l 0 or is_letter l)) (sym (pick_no 0 b (λ z. not_line b t (is_eq z)))) (or_right _ t))
    (or_cases _ _ y)

-- ---- the text of a forest

pub leaf_text : (l : Label) (r : Forest) (q : List ℕ) → forest_text (element l no_element r) ++ q ≡ 60 ∷ name_of l ∷ 47 ∷ 62 ∷ (forest_text r ++ q)
unfolding forest_text enclosed ascii
leaf_text l r q = refl

pub whole_text : (l m : Label) (d s r : Forest) (q : List ℕ)
    → forest_text (element l (element m d s) r) ++ q ≡ 60 ∷ name_of l ∷ 62 ∷ (forest_text (element m d s) ++ (60 ∷ 47 ∷ name_of l ∷ 62 ∷ (forest_text r ++ q)))
unfolding forest_text enclosed ascii
whole_text l m d s r q =
    ap (λ (x : List ℕ). 60 ∷ name_of l ∷ 62 ∷ x)
    (ap (λ (x : List ℕ). x ++ q) (append_assoc (forest_text (element m d s)) (60 ∷ 47 ∷ name_of l ∷ 62 ∷ []) (forest_text r))
    ∙ append_assoc (forest_text (element m d s)) (60 ∷ 47 ∷ name_of l ∷ 62 ∷ forest_text r) q)

-- ---- every forest is read

pub opens_name : (n : ℕ) (q : List ℕ) → Yes (is_name n) → Yes (opens (60 ∷ n ∷ q))
unfolding opens
opens_name n q y = and_both (front_self (60 ∷ n ∷ []) q) y

leaf_read : (n k : ℕ) (x q : List ℕ) (r : Forest) → Yes (is_name n) → forest_at k x ≡ got r q → forest_at (suc k) (60 ∷ n ∷ 47 ∷ 62 ∷ x) ≡ got (element (label_named n) no_element r) q
unfolding forest_at
leaf_read n k x q r y e =
    pick_yes _ _ (opens_name n (47 ∷ 62 ∷ x) y)
    ∙ pick_yes _ _ (front_self (47 ∷ 62 ∷ []) x)
    ∙ ap (λ (g : Got Forest). and_then g λ r q. got (element (label_named n) no_element r) q) e

whole_read : (n k : ℕ) (x z q : List ℕ) (c r : Forest) → Yes (is_name n) → Yes (some c) → forest_at k x ≡ got c (60 ∷ 47 ∷ n ∷ 62 ∷ z) → forest_at k z ≡ got r q
    → forest_at (suc k) (60 ∷ n ∷ 62 ∷ x) ≡ got (element (label_named n) c r) q
unfolding forest_at
whole_read n k x z q c r y t e d =
    pick_yes _ _ (opens_name n (62 ∷ x) y)
    ∙ pick_no _ _ (unfold front ◌and◌ in (λ f. false≢true f))
    ∙ pick_yes _ _ (front_self (62 ∷ []) x)
    ∙ ap (λ (g : Got Forest). and_then g λ c q. pick (some c and front q (60 ∷ 47 ∷ n ∷ 62 ∷ [])) (and_then (forest_at k (drop 4 q)) λ r s. got (element (label_named n) c r) s) nothing) e
    ∙ pick_yes _ _ (and_both t (front_self (60 ∷ 47 ∷ n ∷ 62 ∷ []) z))
    ∙ ap (λ (g : Got Forest). and_then g λ r s. got (element (label_named n) c r) s) d

-- after </ no element follows
slash_no_name : ¬ Yes (is_name 47)
unfolding is_name is_letter is_small is_capital ◌and◌ ◌or◌
slash_no_name y = false≢true y

pub closing : (q : List ℕ) → ¬ Yes (opens (60 ∷ 47 ∷ q))
unfolding opens
closing q y = slash_no_name (and_right _ y)

none_read : (k : ℕ) (q : List ℕ) → ¬ Yes (opens q) → forest_at (suc k) q ≡ got no_element q
unfolding forest_at
none_read k q n = pick_no _ _ n

pub forest_read : (w : Forest) → Yes (all_nameable w) → (q : List ℕ) → ¬ Yes (opens q) → (k : ℕ) → count w < k → forest_at k (forest_text w ++ q) ≡ got w q
unfolding all_nameable count
forest_read w y q n zero l = absurd (not-suc-le-zero l)
forest_read no_element y q n (suc k) l = unfold forest_text in none_read k q n
forest_read (element l no_element r) y q n (suc k) b =
    let a = and_left _ y in
    ap (forest_at (suc k)) (leaf_text l r q)
    ∙ leaf_read (name_of l) k (forest_text r ++ q) q r (name_is l a) (forest_read r (and_right _ (and_right _ y)) q n k (omega arith))
    ∙ ap (λ (m : Label). got (element m no_element r) q) (name_label l a)
forest_read (element l (element m d s) r) y q n (suc k) b =
    let a = and_left _ y in
    let c = element m d s in
    let z = forest_text r ++ q in
    ap (forest_at (suc k)) (whole_text l m d s r q)
    ∙ whole_read (name_of l) k _ z q c r (name_is l a) (unfold some in refl)
    (forest_read (element m d s) (and_left _ (and_right _ y)) (60 ∷ 47 ∷ name_of l ∷ 62 ∷ z) (closing _) k (omega arith))
    (forest_read r (and_right _ (and_right _ y)) q n k (omega arith))
    ∙ ap (λ (i : Label). got (element i c r) q) (name_label l a)

-- ---- no two ordered trees have one text

pub element_forest : (e : Element) → forest_text (alone e) ≡ element_text e
unfolding forest_text element_text
element_forest e = append-nil _

end_no_element : ¬ Yes (opens [])
unfolding opens front ◌and◌
end_no_element y = false≢true y

pub forest_whole : (w : Forest) → Yes (all_nameable w) → (k : ℕ) → count w < k → forest_at k (forest_text w) ≡ got w []
forest_whole w y k l = ap (forest_at k) (sym (append-nil (forest_text w))) ∙ forest_read w y [] end_no_element k l

pub forest_text_unique : (w v : Forest) → Yes (all_nameable w) → Yes (all_nameable v) → forest_text w ≡ forest_text v → w ≡ v
forest_text_unique w v y z e =
    let k = suc (count w + count v) in
    let d : got w [] ≡ got v [] = sym (forest_whole w y k (omega arith)) ∙ ap (forest_at k) e ∙ forest_whole v z k (omega arith) in
    cc

pub text_unique : (e f : Element) → Yes (all_nameable (alone e)) → Yes (all_nameable (alone f)) → element_text e ≡ element_text f → e ≡ f
text_unique e f y z d =
    let h : alone e ≡ alone f = forest_text_unique (alone e) (alone f) y z (element_forest e ∙ d ∙ sym (element_forest f)) in
    let a : e.label ≡ f.label = cc in
    let b : e.children ≡ f.children = cc in
    ap (λ (l : Label). record { label = l; children = e.children }) a ∙ ap (λ (c : Forest). record { label = f.label; children = c }) b

pub form_unique : {text : List ℕ} {e f : Element} → XmlForm text e → XmlForm text f → e ≡ f
form_unique {e = e} {f = f} a b = text_unique e f a.nameable b.nameable (sym a.is ∙ b.is)

-- ---- what was read has the text

abbrev Reads : List ℕ → Got Forest → Type 0
Reads bs nothing = Unit {0}
Reads bs (got w q) = (bs ≡ forest_text w ++ q) × Yes (all_nameable w)

then_case : {A B : Type 0} (P : Got B → Type 0) (g : Got A) (f : A → List ℕ → Got B) → P nothing → ((a : A) (q : List ℕ) → g ≡ got a q → P (f a q)) → P (and_then g f)
then_case P nothing f h k = h
then_case P (got a q) f h k = k a q refl

pub opens_is : (bs : List ℕ) → Yes (opens bs) → (bs ≡ 60 ∷ name_at bs ∷ drop 2 bs) × Yes (is_name (name_at bs))
unfolding opens
opens_is bs y = (front_is bs (60 ∷ name_at bs ∷ []) (and_left _ y), and_right _ y)

leaf_reads : (bs x q : List ℕ) (n : ℕ) (r : Forest) → Yes (is_name n) → bs ≡ 60 ∷ n ∷ 47 ∷ 62 ∷ x → Reads x (got r q) → Reads bs (got (element (label_named n) no_element r) q)
unfolding all_nameable
leaf_reads bs x q n r y e h = (
  e ∙ ap (λ (m : ℕ). 60 ∷ m ∷ 47 ∷ 62 ∷ x) (sym (label_name n y)) ∙ ap (λ (z : List ℕ). 60 ∷ name_of (label_named n) ∷ 47 ∷ 62 ∷ z) h.0 ∙ sym (leaf_text (label_named n) r q),
  and_both (label_nameable n y) (and_both refl h.1),
)

whole_reads : (bs x z p q : List ℕ) (n : ℕ) (c r : Forest) → Yes (is_name n) → Yes (some c) → bs ≡ 60 ∷ n ∷ 62 ∷ x → p ≡ 60 ∷ 47 ∷ n ∷ 62 ∷ z
    → Reads x (got c p) → Reads z (got r q) → Reads bs (got (element (label_named n) c r) q)
unfolding all_nameable
whole_reads bs x z p q n no_element r y t e d a b = absurd (unfold some in (false≢true t))
whole_reads bs x z p q n (element m f s) r y t e d a b =
    let c = element m f s in (
      e ∙ ap (λ (k : List ℕ). 60 ∷ n ∷ 62 ∷ k) (a.0 ∙ ap (λ (k : List ℕ). forest_text c ++ k) (d ∙ ap (λ (k : List ℕ). 60 ∷ 47 ∷ n ∷ 62 ∷ k) b.0))
          ∙ ap (λ (i : ℕ). 60 ∷ i ∷ 62 ∷ (forest_text c ++ (60 ∷ 47 ∷ i ∷ 62 ∷ (forest_text r ++ q)))) (sym (label_name n y))
          ∙ sym (whole_text (label_named n) m f s r q),
      and_both (label_nameable n y) (and_both a.1 b.1),
    )

pub forest_reads : (k : ℕ) (bs : List ℕ) → Reads bs (forest_at k bs)
unfolding forest_at
forest_reads zero bs = tt
forest_reads (suc k) bs =
    pick_has (Reads bs) (opens bs) _ _
    (λ y. let o = opens_is bs y in
    pick_has (Reads bs) (front (drop 2 bs) (47 ∷ 62 ∷ [])) _ _
    (λ f. then_case (Reads bs) (forest_at k (drop 2 (drop 2 bs))) _ tt λ r q d.
    leaf_reads bs (drop 2 (drop 2 bs)) q (name_at bs) r o.1 (o.0 ∙ ap (λ (x : List ℕ). 60 ∷ name_at bs ∷ x) (front_is (drop 2 bs) (47 ∷ 62 ∷ []) f))
    (subst (Reads (drop 2 (drop 2 bs))) d (forest_reads k (drop 2 (drop 2 bs)))))
    (pick_has (Reads bs) (front (drop 2 bs) (62 ∷ [])) _ _
    (λ f. then_case (Reads bs) (forest_at k (drop 1 (drop 2 bs))) _ tt λ c p d.
    pick_has (Reads bs) (some c and front p (60 ∷ 47 ∷ name_at bs ∷ 62 ∷ [])) _ _
    (λ t. then_case (Reads bs) (forest_at k (drop 4 p)) _ tt λ r q g.
    whole_reads bs (drop 1 (drop 2 bs)) (drop 4 p) p q (name_at bs) c r o.1 (and_left _ t) (o.0 ∙ ap (λ (x : List ℕ). 60 ∷ name_at bs ∷ x) (front_is (drop 2 bs) (62 ∷ []) f))
    (front_is p (60 ∷ 47 ∷ name_at bs ∷ 62 ∷ []) (and_right _ t))
    (subst (Reads (drop 1 (drop 2 bs))) d (forest_reads k (drop 1 (drop 2 bs))))
    (subst (Reads (drop 4 p)) g (forest_reads k (drop 4 p))))
    tt)
    tt))
    (unfold forest_text all_nameable in (refl, refl))

-- ---- the reader decides the form

pub form_read : {text : List ℕ} {e : Element} → XmlForm text e → text_element text ≡ got e []
unfolding text_element outermost
form_read {e = e} f =
    ap (λ (x : List ℕ). outermost (forest_at 64 x)) (f.is ∙ sym (element_forest e))
    ∙ ap outermost (forest_whole (alone e) f.nameable 64 f.few)
    ∙ pick_yes _ _ (and_both (self_eq 0) (le_yes f.few))

-- what was read is of the form, and all the bytes
abbrev FormOf : List ℕ → Got Element → Type 0
FormOf text nothing = Unit {0}
FormOf text (got e q) = XmlForm text e × (q ≡ [])

outermost_form : (text : List ℕ) (g : Got Forest) → Reads text g → FormOf text (outermost g)
unfolding outermost
outermost_form text nothing h = tt
outermost_form text (got no_element q) h = tt
outermost_form text (got (element l c no_element) q) h =
    let e : Element = record { label = l; children = c } in
    pick_has (FormOf text) (eqb (length q) 0 and leb (suc (count (alone e))) 64) _ _
    (λ y. let z = no_bytes q (and_left _ y) in (
      record {
        is = h.0 ∙ ap (λ (x : List ℕ). forest_text (alone e) ++ x) z ∙ append-nil _ ∙ element_forest e;
        nameable = h.1;
        few = is_le (and_right _ y);
      },
      z,
    ))
    tt
outermost_form text (got (element l c (element m d s)) q) h = tt

pub read_form : (text : List ℕ) → FormOf text (text_element text)
unfolding text_element
read_form text = outermost_form text (forest_at 64 text) (forest_reads 64 text)

pub form_of : {text : List ℕ} {e : Element} {q : List ℕ} → text_element text ≡ got e q → XmlForm text e
form_of {text} d = (subst (FormOf text) d (read_form text)).0

abbrev IsGot : Got Element → Type 0
IsGot nothing = ⊥
IsGot (got e q) = Unit {0}

pub no_form : (text : List ℕ) → ((e : Element) → ¬ XmlForm text e) → text_element text ≡ nothing
no_form text n = go (text_element text) refl
  where
    go : (g : Got Element) → text_element text ≡ g → g ≡ nothing
    go nothing d = refl
    go (got e q) d = absurd (n e (form_of d))

pub not_read : (text : List ℕ) → text_element text ≡ nothing → (e : Element) → ¬ XmlForm text e
not_read text d e f = subst IsGot (sym (form_read f) ∙ d) tt

-- ---- how long a text is

enclosed_length : (n : ℕ) (l : Label) (c r : Forest) (x : List ℕ) → length (enclosed n (element l c r) x) ≡ 7 + length x
unfolding enclosed ascii
enclosed_length n l c r x = let a = length-append x (60 ∷ 47 ∷ n ∷ 62 ∷ []) in omega arith

forest_length : (l : Label) (c r : Forest) → length (forest_text (element l c r)) ≡ length (enclosed (name_of l) c (forest_text c)) + length (forest_text r)
unfolding forest_text
forest_length l c r = length-append (enclosed (name_of l) c (forest_text c)) (forest_text r)

-- a leaf has 4 bytes, another element 7
abbrev Short : Forest → Type 0
Short no_element = Unit {0}
Short (element l c r) = length (forest_text (element l c r)) + 3 ≤ 7 * count (element l c r)

short_step : (l : Label) (c r : Forest) → Short c → Short r → Short (element l c r)
unfolding count
short_step l no_element no_element h k = let a = forest_length l no_element no_element in unfold enclosed ascii forest_text in omega arith
short_step l no_element (element i f g) h k = let a = forest_length l no_element (element i f g) in unfold enclosed ascii in omega arith
short_step l (element m d s) no_element h k =
    let a = forest_length l (element m d s) no_element in
    let b = enclosed_length (name_of l) m d s (forest_text (element m d s)) in
    let z : length (forest_text no_element) ≡ 0 = unfold forest_text in refl in
    omega arith
short_step l (element m d s) (element i f g) h k =
    let a = forest_length l (element m d s) (element i f g) in
    let b = enclosed_length (name_of l) m d s (forest_text (element m d s)) in
    omega arith

forest_short : (w : Forest) → Short w
forest_short no_element = tt
forest_short (element l c r) = short_step l c r (forest_short c) (forest_short r)

pub form_short : {text : List ℕ} {e : Element} → XmlForm text e → length text ≤ 438
form_short {e = e} f =
    let a : length (forest_text (alone e)) + 3 ≤ 7 * count (alone e) = forest_short (alone e) in
    let b = ap length (element_forest e) in
    let d = ap length f.is in
    let h = f.few in
    omega arith
