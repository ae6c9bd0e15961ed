-- Variables renumbered one to one: the other file's records are those of the constraints renumbered, and these can be met exactly when the first
-- ones can, by the renumbering and by its inverse. Nothing of the settled set or of joins is renumbered, so new rules do not touch this.
use mathlib.Core.Path.{◌≡◌, refl, sym, ap, ◌∙◌, subst}
use mathlib.Core.Logic.{⊎_elim}
use mathlib.Core.List.{List, [], ◌∷◌, map, Memᴰ}
use Prim.Native.Nat.{ℕ, suc, max, ◌*◌, ◌≤◌, ◌<◌}
use native.Mathlib.Nat.{le_refl, le_trans}
use native.Mathlib.Omega.{arith}
use lib.ListN.{length, length-map}
use lib.Dec.{eqb}
use Rattle.meaning.specs.Tree.{Var, Label, Assignment, Tree}
use Rattle.meaning.specs.Constraint.{Constraint, is_child, is_below, is_strictly_below, is_same, is_differ, is_root, is_leaf, is_label, is_before, Meets, CanBeMet, named, vars}
use Rattle.meaning.specs.Finite.{pick, ◌or◌, anyb, smallest}
use Rattle.meaning.specs.Files.{quads, quad_of, accepted, judge}
use Rattle.meaning.specs.Shuffled.{Renumbering, renumber_quad, Renumbered, SameNone}
use Rattle.meaning.proofs.Tests.{yes_case, is_eq, self_eq}
use Rattle.meaning.proofs.Finite.{any_intro, smallest_passes, smallest_none}
use Rattle.meaning.proofs.Lists.{in_map, from_map}
use Rattle.meaning.proofs.Constraints.{OnLabelOf, Names, names_below, meets_agree, named_most, vars_least}
use Rattle.meaning.proofs.Records.{Askable, FileOf, quads_length, accepted_file, file_accepted, file_vars}
use Rattle.meaning.proofs.Said.{answered, said_none, says_none}
use Rattle.meaning.proofs.Unnamed.{unnamed_met}

-- ---- one constraint

abbrev renumber : (Var → Var) → Constraint → Constraint
renumber to (is_child x y) = is_child (to x) (to y)
renumber to (is_below x y) = is_below (to x) (to y)
renumber to (is_strictly_below x y) = is_strictly_below (to x) (to y)
renumber to (is_same x y) = is_same (to x) (to y)
renumber to (is_differ x y) = is_differ (to x) (to y)
renumber to (is_root x) = is_root (to x)
renumber to (is_leaf x) = is_leaf (to x)
renumber to (is_label x l) = is_label (to x) l
renumber to (is_before x y) = is_before (to x) (to y)

module _ (to : Var → Var) where
  -- its record is the record renumbered
  quad_renumber : (c : Constraint) → renumber_quad to (quad_of c) ≡ quad_of (renumber to c)
  unfolding renumber_quad pick ◌or◌
  quad_renumber (is_child x y) = refl
  quad_renumber (is_below x y) = refl
  quad_renumber (is_strictly_below x y) = refl
  quad_renumber (is_same x y) = refl
  quad_renumber (is_differ x y) = refl
  quad_renumber (is_root x) = refl
  quad_renumber (is_leaf x) = refl
  quad_renumber (is_label x l) = refl
  quad_renumber (is_before x y) = refl

  label_renumber : (P : Label → Type 0) (c : Constraint) → OnLabelOf P c → OnLabelOf P (renumber to c)
  label_renumber P (is_child x y) h = h
  label_renumber P (is_below x y) h = h
  label_renumber P (is_strictly_below x y) h = h
  label_renumber P (is_same x y) h = h
  label_renumber P (is_differ x y) h = h
  label_renumber P (is_root x) h = h
  label_renumber P (is_leaf x) h = h
  label_renumber P (is_label x l) h = h
  label_renumber P (is_before x y) h = h

  -- it is met where the constraint is met with each variable on the node of its new number
  meets_renumber : (t : Tree) (a : Assignment) (c : Constraint) → Meets t a (renumber to c) ≡ Meets t (λ x. a (to x)) c
  meets_renumber t a (is_child x y) = refl
  meets_renumber t a (is_below x y) = refl
  meets_renumber t a (is_strictly_below x y) = refl
  meets_renumber t a (is_same x y) = refl
  meets_renumber t a (is_differ x y) = refl
  meets_renumber t a (is_root x) = refl
  meets_renumber t a (is_leaf x) = refl
  meets_renumber t a (is_label x l) = refl
  meets_renumber t a (is_before x y) = refl

  pair_below : (n : ℕ) → ((x : Var) → x < n → to x < n) → (x y : Var) → suc (max x y) ≤ n → suc (max (to x) (to y)) ≤ n
  pair_below n f x y l = let a = f x (omega arith) in let b = f y (omega arith) in omega arith

  named_renumber : (n : ℕ) → ((x : Var) → x < n → to x < n) → (c : Constraint) → named c ≤ n → named (renumber to c) ≤ n
  unfolding named
  named_renumber n f (is_child x y) l = pair_below n f x y l
  named_renumber n f (is_below x y) l = pair_below n f x y l
  named_renumber n f (is_strictly_below x y) l = pair_below n f x y l
  named_renumber n f (is_same x y) l = pair_below n f x y l
  named_renumber n f (is_differ x y) l = pair_below n f x y l
  named_renumber n f (is_root x) l = f x l
  named_renumber n f (is_leaf x) l = f x l
  named_renumber n f (is_label x k) l = f x l
  named_renumber n f (is_before x y) l = pair_below n f x y l

-- ---- trees

module _ (n : ℕ) (to : Var → Var) (r : Renumbering n to) where
  -- the variable that is renumbered to y, and 0 if there is none
  back : Var → Var
  back y = smallest n (λ x. eqb (to x) y)

  back_to : (x : Var) → x < n → back (to x) ≡ x
  unfolding back
  back_to x l =
      let w = smallest_passes n (λ u. eqb (to u) (to x)) (any_intro n (λ u. eqb (to u) (to x)) x l (self_eq (to x))) in
      r.one_to_one _ x w.0 l (is_eq w.1)

  back_inside : (y : Var) → 0 < n → back y < n
  unfolding back
  back_inside y l =
      ⊎_elim (λ t. (smallest_passes n (λ x. eqb (to x) y) t).0) (λ z. subst (λ (k : ℕ). k < n) (sym (smallest_none n (λ x. eqb (to x) y) z)) l)
      (yes_case (anyb n (λ x. eqb (to x) y)))

  module _ (cs : List Constraint) (few : vars cs ≤ n) where
    vars_renumber : vars (map (renumber to) cs) ≤ n
    vars_renumber = vars_least n (map (renumber to) cs) (λ d m. let w = from_map (renumber to) cs d m in
        subst (λ (c : Constraint). named c ≤ n) (sym w.2) (named_renumber to n r.inside w.0 (le_trans (named_most cs w.0 w.1) few)))

    within : (c : Constraint) → Memᴰ c cs → (v : Var) → Names c v → v < n
    within c m v w = le_trans (names_below c v w) (le_trans (named_most cs c m) few)

    met_renumber : CanBeMet n cs → CanBeMet (vars (map (renumber to) cs)) (map (renumber to) cs)
    met_renumber w = record { tree = w.tree; is_tree = w.is_tree; assignment = b; meets = record { placed = placed; every = every } }
      where
        a : Assignment
        a = w.assignment

        b : Assignment
        b y = a (back y)

        placed : (y : Var) → y < vars (map (renumber to) cs) → b y < w.tree.size
        placed y l = w.meets.placed (back y) (back_inside y (let m = vars_renumber in omega arith))

        every : (d : Constraint) → Memᴰ d (map (renumber to) cs) → Meets w.tree b d
        every d k =
            let c = from_map (renumber to) cs d k in
            let h = meets_agree w.tree a (λ x. b (to x)) c.0 (λ v q. ap a (sym (back_to v (within c.0 c.1 v q)))) (w.meets.every c.0 c.1) in
            subst (Meets w.tree b) (sym c.2) (coe 1 0 (i. meets_renumber to w.tree b c.0 i) h)

    met_back : CanBeMet (vars (map (renumber to) cs)) (map (renumber to) cs) → CanBeMet n cs
    met_back v =
        let w = unnamed_met (vars (map (renumber to) cs)) n (map (renumber to) cs) (le_refl _) v in
        record {
          tree = w.tree;
          is_tree = w.is_tree;
          assignment = λ x. w.assignment (to x);
          meets = record {
            placed = λ x l. w.meets.placed (to x) (r.inside x l);
            every = λ c k. coe 0 1 (i. meets_renumber to w.tree w.assignment c i) (w.meets.every (renumber to c) (in_map (renumber to) k));
          };
        }

-- ---- files

records_renumber : (to : Var → Var) (cs : List Constraint) → map (renumber_quad to) (map quad_of cs) ≡ map quad_of (map (renumber to) cs)
records_renumber to [] = refl
records_renumber to (c ∷ cs) = let h = quad_renumber to c in let t = records_renumber to cs in cc

module _ {to : Var → Var} {file other : List ℕ} (p : Renumbered to file other) {cs : List Constraint} (e : judge file ≡ accepted cs) (r : Renumbering (vars cs) to) where
  f : FileOf file cs
  f = accepted_file e

  ds : List Constraint
  ds = map (renumber to) cs

  few : vars ds ≤ vars cs
  unfolding ds
  few = vars_renumber (vars cs) to r cs (le_refl _)

  askable : (d : Constraint) → Memᴰ d ds → Askable d
  unfolding ds
  askable d m =
      let w = from_map (renumber to) cs d m in
      record {
        few = le_trans (named_most ds d m) (le_trans few (file_vars f));
        labelled = subst (OnLabelOf (λ l. 1 ≤ l)) (sym w.2) (label_renumber to (λ l. 1 ≤ l) w.0 (f.of.askable w.0 w.1).labelled);
      }

  same_length : length other ≡ length file
  same_length =
      sym (quads_length other p.other_whole) ∙ ap (λ (k : ℕ). 4 * k) (ap length p.renumbered ∙ length-map (quads file) (renumber_quad to)) ∙ quads_length file p.whole

  other_judged : judge other ≡ accepted ds
  unfolding ds
  other_judged = file_accepted (record {
    short = subst (λ (k : ℕ). k ≤ 1024) (sym same_length) f.short;
    whole = p.other_whole;
    of = record { records = p.renumbered ∙ ap (map (renumber_quad to)) f.of.records ∙ records_renumber to cs; askable = askable };
  })

  pub same_none : SameNone (vars cs) file other
  unfolding ds
  same_none = record {
    accepts = (ds, other_judged, few);
    none_iff = λ room u v f g. (
      λ w. says_none v other_judged g (room.0 (answered u e w.1).0) (λ m. said_none u e w (met_back (vars cs) to r cs (le_refl _) m)),
      λ w. says_none u e f (room.1 (answered v other_judged w.1).0) (λ m. said_none v other_judged w (met_renumber (vars cs) to r cs (le_refl _) m)),
    );
  }
