-- Facts added to a set that is closed but for what they say: all of First before all of Last, and all of Over a parent of all of Kin, with
-- differ both ways. Where the four are closed under what is the same, First under earlier, Last under later, Kin under both, and Over is
-- at or above Kin, the set is closed then.
use mathlib.Core.Logic.{◌⊎◌, inl, inr, ⊎_elim}
use Prim.Native.Nat.{ℕ}
use Rattle.meaning.specs.Tree.{Var}
use Rattle.meaning.specs.Constraint.{Fact, child, below, differ, before, root, leaf, label}
use Rattle.meaning.specs.Closed.{Sharing, Siblings}
use Rattle.grouping.specs.Grouping.{Through}

-- all of A and all of B, either way round
abbrev pub Across : (A B : Var → Type 0) → Var → Var → Type 0
Across A B x y = (A x × B y) ⊎ (B x × A y)

abbrev pub Added : (P : Fact → Type 0) (First Last Over Kin : Var → Type 0) → Fact → Type 0
Added P First Last Over Kin (child x y) = P (child x y) ⊎ (Over x × Kin y)
Added P First Last Over Kin (below x y) = P (below x y)
Added P First Last Over Kin (differ x y) = P (differ x y) ⊎ (Across First Last x y ⊎ Across Over Kin x y)
Added P First Last Over Kin (before x y) = P (before x y) ⊎ (First x × Last y)
Added P First Last Over Kin (root x) = P (root x)
Added P First Last Over Kin (leaf x) = P (leaf x)
Added P First Last Over Kin (label x l) = P (label x l)

-- A is closed under what is the same
abbrev pub Same : (P : Fact → Type 0) (A : Var → Type 0) → Type 0
Same P A = (x y : Var) → P (below x y) → P (below y x) → A x → A y

pub record Adding (P : Fact → Type 0) (First Last Over Kin : Var → Type 0) : Type 0 where
  pub siblings : Through P Over First Last
  pub first_same : Same P First
  pub last_same : Same P Last
  pub over_same : Same P Over
  pub kin_same : Same P Kin
  pub first_earlier : (x y : Var) → P (before x y) → First y → First x
  pub last_later : (x y : Var) → P (before x y) → Last x → Last y
  pub kin_earlier : (x y : Var) → P (before x y) → Kin y → Kin x
  pub kin_later : (x y : Var) → P (before x y) → Kin x → Kin y
  pub first_kin : (x : Var) → First x → Kin x
  pub last_kin : (x : Var) → Last x → Kin x
  pub kin_parents : (x y : Var) → P (child x y) → Kin y → Over x
  pub over_kin : (x y : Var) → Over x → Kin y → P (below x y)

module _ (n : ℕ) (P : Fact → Type 0) (First Last Over Kin : Var → Type 0) (s : Sharing n P) (a : Adding P First Last Over Kin) where
  abbrev Q : Fact → Type 0
  Q = Added P First Last Over Kin

  turn : (A B : Var → Type 0) {x y : Var} → Across A B x y → Across A B y x
  turn A B (inl h) = inr (h.1, h.0)
  turn A B (inr h) = inl (h.1, h.0)

  move : (A B : Var → Type 0) → Same P A → Same P B → {x y u : Var} → P (below x u) → P (below u x) → Across A B x y → Across A B u y
  move A B k m p q (inl h) = inl (k _ _ p q h.0, h.1)
  move A B k m p q (inr h) = inr (m _ _ p q h.0, h.1)

  pub added_sharing : Sharing n Q
  added_sharing = record {
    child_below = λ x y c. ⊎_elim (s.child_below x y) (λ h. a.over_kin x y h.0 h.1) c;
    child_differ = λ x y c. ⊎_elim (λ h. inl (s.child_differ x y h)) (λ h. inr (inr (inl h))) c;
    self_below = s.self_below;
    chain = s.chain;
    root_below = s.root_below;
    leaf_below = s.leaf_below;
    differ_back = λ x y d. ⊎_elim (λ h. inl (s.differ_back x y h)) (λ h. inr (⊎_elim (λ k. inl (turn First Last k)) (λ k. inr (turn Over Kin k)) h)) d;
    same_parent = λ x y u p q c. ⊎_elim (λ h. inl (s.same_parent x y u p q h)) (λ h. inr (a.over_same x u p q h.0, h.1)) c;
    same_child = λ x y u p q c. ⊎_elim (λ h. inl (s.same_child x y u p q h)) (λ h. inr (h.0, a.kin_same y u p q h.1)) c;
    same_differ = λ x y u p q d. ⊎_elim (λ h. inl (s.same_differ x y u p q h))
        (λ h. inr (⊎_elim (λ k. inl (move First Last a.first_same a.last_same p q k)) (λ k. inr (move Over Kin a.over_same a.kin_same p q k)) h)) d;
    same_root = s.same_root;
    same_leaf = s.same_leaf;
    same_label = s.same_label;
  }

  linked : {x y z : Var} → Q (before x y) → Q (before y z) → Q (before x z)
  linked (inl p) (inl q) = a.siblings.before_chain _ _ _ p q
  linked (inl p) (inr q) = inr (a.first_earlier _ _ p q.0, q.1)
  linked (inr p) (inl q) = inr (p.0, a.last_later _ _ q p.1)
  linked (inr p) (inr q) = inr (p.0, q.1)

  passed_on : {x y u : Var} → Q (before x y) → Q (child u x) → Q (child u y)
  passed_on (inl p) (inl q) = ⊎_elim inl (λ h. inr (h.0, a.last_kin _ h.1)) (a.siblings.before_child _ _ _ p q)
  passed_on (inl p) (inr q) = inr (q.0, a.kin_later _ _ p q.1)
  passed_on (inr p) (inl q) = inr (a.kin_parents _ _ q (a.first_kin _ p.0), a.last_kin _ p.1)
  passed_on (inr p) (inr q) = inr (q.0, a.last_kin _ p.1)

  passed_back : {x y u : Var} → Q (before x y) → Q (child u y) → Q (child u x)
  passed_back (inl p) (inl q) = ⊎_elim inl (λ h. inr (h.0, a.first_kin _ h.1)) (a.siblings.after_child _ _ _ p q)
  passed_back (inl p) (inr q) = inr (q.0, a.kin_earlier _ _ p q.1)
  passed_back (inr p) (inl q) = inr (a.kin_parents _ _ q (a.last_kin _ p.1), a.first_kin _ p.0)
  passed_back (inr p) (inr q) = inr (q.0, a.first_kin _ p.0)

  pub added_siblings : Siblings n Q
  added_siblings = record {
    before_chain = λ x y z p q. linked p q;
    before_differ = λ x y p. ⊎_elim (λ h. inl (a.siblings.before_differ x y h)) (λ h. inr (inl (inl h))) p;
    before_child = λ x y u p q. passed_on p q;
    after_child = λ x y u p q. passed_back p q;
    same_before = λ x y u p q b. ⊎_elim (λ h. inl (a.siblings.same_before x y u p q h)) (λ h. inr (a.first_same x u p q h.0, h.1)) b;
    same_after = λ x y u p q b. ⊎_elim (λ h. inl (a.siblings.same_after x y u p q h)) (λ h. inr (h.0, a.last_same y u p q h.1)) b;
  }

  -- two parents of one variable are those of before, or both are in Over
  pub added_parents : (x y z : Var) → Q (child x z) → Q (child y z) → (P (child x z) × P (child y z)) ⊎ (Over x × Over y)
  added_parents x y z (inl p) (inl q) = inl (p, q)
  added_parents x y z (inl p) (inr q) = inr (a.kin_parents x z p q.1, q.0)
  added_parents x y z (inr p) (inl q) = inr (p.0, a.kin_parents y z q p.1)
  added_parents x y z (inr p) (inr q) = inr (p.0, q.0)
