-- The tables of a round are those of the glued facts, table by table: a table of two variables, a row of one, and the labels.
-- The group, which shares every fact afterwards, is what both masks have, u and w.
use mathlib.Core.Path.{◌≡◌, sym, ◌∙◌, subst}
use mathlib.Core.Logic.{◌≢◌, ◌⊎◌, inl, inr, ⊎_elim}
use mathlib.Core.List.{List}
use Prim.Native.Nat.{ℕ, ◌<◌}
use lib.Dec.{eqb}
use lib.Bits.{bit_and}
use Rattle.meaning.specs.Tree.{Var, Label}
use Rattle.meaning.specs.Constraint.{Fact, below}
use Rattle.meaning.specs.Finite.{Yes, ◌and◌, neg}
use Rattle.meaning.proofs.Tests.{clash, yes_case, yes_eq, and_left, and_right, is_eq, eq_yes, pick_yes, pick_no}
use Rattle.rowbits.specs.Bit.{bit}
use Rattle.tables.specs.Tables.{row, Columns}
use Rattle.tables.specs.Rows.{gained, meets, Union, LabelOf}
use Rattle.tables.proofs.Bits.{in_both, both_in, gained_up, gained_has, gained_case, meets_in, meets_out}
use Rattle.tables.proofs.Groups.{Twin, One, Two, own, pair}
use Rattle.tables.proofs.Wider.{Wide}
use Rattle.grouping.specs.Rows.{In, Painted, Spread}
use Rattle.meaning.specs.Closed.{Sharing}
use Rattle.grouping.proofs.Glue.{Cut, mid_twin, twin_cases}

pub columns_spread : (t r : List ℕ) (group along across : ℕ) (t' r' : List ℕ) → Columns t r → Spread t group along across t' → Spread r group across along r' → Columns t' r'
columns_spread t r group along across t' r' c h k x y lx ly =
    yes_eq _ _
    (λ u. ⊎_elim (λ a. h.keeps x y (sym (c x y lx ly) ∙ a)) (λ a. ⊎_elim (λ b. h.columns x y b.1 b.0) (λ b. h.rows x y b.1 b.0) a) (k.out y x u))
    (λ u. ⊎_elim (λ a. k.keeps y x (c x y lx ly ∙ a)) (λ a. ⊎_elim (λ b. k.columns y x b.1 b.0) (λ b. k.rows y x b.1 b.0) a) (h.out x y u))

module _ (n : ℕ) (P : Fact → Type 0) (u w : ℕ) (s : Sharing n P) (c : Cut P (In u) (In w)) where
  abbrev G : Var → Type 0
  G = In (bit_and u w)

  abbrev B : Var → Var → Type 0
  B = Wide P (In u) (In w)

  abbrev W : Var → Var → Type 0
  W = Twin B

  together : (i j : Var) → G i → G j → W i j
  together i j a b = mid_twin n P (In u) (In w) s c (in_both u w i a) (in_both u w j b)

  cases : (i j : Var) → W i j → (P (below i j) × P (below j i)) ⊎ (G i × G j)
  cases i j t = ⊎_elim inl (λ p. inr (both_in u w i p.0.0 p.0.1, both_in u w j p.1.0 p.1.1)) (twin_cases n P (In u) (In w) s c t)

  -- ---- a table of two variables: the group's rows gain what they hold together, and the rows that hold one of the group gain it all

  abbrev R : List ℕ → Var → Var → Type 0
  R t i j = Yes (bit (row t i) j)

  -- q is the table t so shared: the rows that hold one of the group are `across`
  pub record Shares (t q : List ℕ) (along across : ℕ) : Type 0 where
    pub to_left : (i j k : Var) → P (below i k) → P (below k i) → R t i j → R t k j
    pub to_right : (i j k : Var) → P (below j k) → P (below k j) → R t i j → R t i k
    pub selves : (i j : Var) → R t i j → W i i × W j j
    pub apart : (i j : Var) → G i → G j → ¬ R t i j
    pub is_along : Union t (bit_and u w) along
    pub from : (i : Var) → In across i → (k : Var) × G k × R t i k
    pub to : (i k : Var) → G k → R t i k → In across i
    pub spreads : Spread t (bit_and u w) along across q

  module _ (t q : List ℕ) (along across : ℕ) (h : Shares t q along across) where
    pub two_out : (i j : Var) → Yes (bit (row q i) j) → Two B (R t) i j
    two_out i j y =
        ⊎_elim
        (λ y. pair (h.selves i j y).0 (h.selves i j y).1 y)
        (λ y. ⊎_elim
        (λ y. let k = h.is_along.from j y.1 in
        record { left = k.0; right = j; left_twin = together k.0 i k.1 y.0; right_twin = (h.selves k.0 j k.2).1; holds = k.2 })
        (λ y. let k = h.from i y.0 in
        record { left = i; right = k.0; left_twin = (h.selves i k.0 k.2).0; right_twin = together k.0 j k.1 y.1; holds = k.2 })
        y)
        (h.spreads.out i j y)

    pub two_in : (i j : Var) → Two B (R t) i j → Yes (bit (row q i) j)
    two_in i j a =
        ⊎_elim
        (λ x. let y = h.to_left a.left a.right i x.0 x.1 a.holds in ⊎_elim
        (λ z. h.spreads.keeps i j (h.to_right i a.right j z.0 z.1 y))
        (λ z. h.spreads.columns i j (h.to i a.right z.0 y) z.1)
        (cases a.right j a.right_twin))
        (λ x. ⊎_elim
        (λ z. h.spreads.rows i j x.1 (h.is_along.to a.left j x.0 (h.to_right a.left a.right j z.0 z.1 a.holds)))
        (λ z. absurd (h.apart a.left a.right x.0 z.0 a.holds))
        (cases a.right j a.right_twin))
        (cases a.left i a.left_twin)

    -- what holds one of the group afterwards held one before
    pub two_over : (i j : Var) → G j → Yes (bit (row q i) j) → In across i
    two_over i j g y =
        ⊎_elim (λ y. h.to i j g y)
        (λ y. ⊎_elim (λ y. let k = h.is_along.from j y.1 in absurd (h.apart k.0 j k.1 g k.2)) (λ y. y.0) y)
        (h.spreads.out i j y)

    -- and what one of the group holds afterwards one held before
    pub two_under : (i j : Var) → G i → Yes (bit (row q i) j) → In along j
    two_under i j g y =
        ⊎_elim (λ y. h.is_along.to i j g y)
        (λ y. ⊎_elim (λ y. y.1) (λ y. let k = h.from i y.0 in absurd (h.apart i k.0 g k.1 k.2)) y)
        (h.spreads.out i j y)

  -- ---- a row of variables: the group is added if it is met

  module _ (t : ℕ) (small : t < 65536) (to-twin : (i k : Var) → P (below i k) → P (below k i) → In t i → In t k) (self : (i : Var) → In t i → W i i) where
    pub one_out : (i : Var) → In (gained (meets t (bit_and u w)) t (bit_and u w)) i → One B (In t) i
    one_out i y =
        ⊎_elim (λ y. own (self i y) y)
        (λ y. let k = meets_out t (bit_and u w) small y.0 in record { it = k.0; twin = together k.0 i k.2 y.1; holds = k.1 })
        (gained_case _ t (bit_and u w) i y)

    pub one_in : (i : Var) → One B (In t) i → In (gained (meets t (bit_and u w)) t (bit_and u w)) i
    one_in i a =
        ⊎_elim (λ x. (gained_up _ t (bit_and u w)).kept i (to-twin a.it i x.0 x.1 a.holds))
        (λ x. gained_has _ t (bit_and u w) i (meets_in t (bit_and u w) a.it a.holds x.0) x.1)
        (cases a.it i a.twin)

  -- ---- labels: the group's is painted over it

  -- the label of i in t is v, and v is one
  abbrev L : List ℕ → Label → Var → Type 0
  L t v i = Yes (eqb (row t i) v and neg (eqb v 0))

  module _ (t : List ℕ) (v : Label) (to-twin : (i k : Var) → P (below i k) → P (below k i) → L t v i → L t v k) (self : (i : Var) → L t v i → W i i)
      (l : ℕ) (lo : LabelOf t (bit_and u w) l) (one : (i : Var) → G i → row t i ≢ 0 → row t i ≡ l) (r : List ℕ) (h : Painted t (bit_and u w) l r) where
    abbrev Is : ℕ → Type 0
    Is a = Yes (eqb a v and neg (eqb v 0))

    not_zero : (a : ℕ) → Is a → a ≢ 0
    not_zero a y z = clash (eq_yes (sym (is_eq (and_left _ y)) ∙ z)) (and_right _ y)

    inner : (i : Var) → G i → row r i ≡ l
    inner i g = h.paints i ∙ pick_yes l (row t i) g

    outer : (i : Var) → Yes (neg (bit (bit_and u w) i)) → row r i ≡ row t i
    outer i g = h.paints i ∙ pick_no l (row t i) (λ q. clash q g)

    pub label_out : (i : Var) → L r v i → One B (L t v) i
    label_out i y =
        ⊎_elim
        (λ g. let z = subst Is (inner i g) y in
        let k = lo.some (not_zero l z) in
        record { it = k.0; twin = together k.0 i k.1 g; holds = subst Is (sym k.2) z })
        (λ g. let z = subst Is (outer i g) y in own (self i z) z)
        (yes_case (bit (bit_and u w) i))

    shared : (i k : Var) → G i → G k → L t v k → L r v i
    shared i k a b z = subst Is (sym (inner i a)) (subst Is (one k b (not_zero _ z)) z)

    pub label_in : (i : Var) → One B (L t v) i → L r v i
    label_in i a =
        ⊎_elim
        (λ x. let z = to-twin a.it i x.0 x.1 a.holds in
        ⊎_elim (λ g. shared i i g g z) (λ g. subst Is (sym (outer i g)) z) (yes_case (bit (bit_and u w) i)))
        (λ x. shared i a.it x.1 x.0 a.holds)
        (cases a.it i a.twin)
