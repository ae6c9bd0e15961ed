-- The records written for some lines can be met exactly when some tree has a node that every line selects (docs/FORMAT.md, "Paths"). An axis record
-- says of the nodes of x and y what the axis denotes; so an assignment that meets the records shows where each step leads, and nodes to which the
-- steps lead, taken as the variables are numbered, are an assignment that meets them.
use mathlib.Core.Path.{◌≡◌, refl, sym, ap, ◌∙◌, subst}
use mathlib.Core.Logic.{◌↔◌, ⊎_elim}
use mathlib.Core.List.Memᴰ
use mathlib.Core.List.{List, [], ◌∷◌, Memᴰ}
use Prim.Native.Nat.{ℕ, zero, suc, ◌≤◌, ◌<◌, zero-le, suc-le-suc}
use native.Mathlib.Nat.{le_refl, le_trans, not-suc-le-zero}
use native.Mathlib.Omega.{arith}
use Rattle.meaning.specs.Tree.{Var, Node, Label, folded, Assignment, Tree, IsTree}
use Rattle.meaning.specs.Constraint.{Constraint, is_same, is_root, Meets, MeetsAll, CanBeMet, vars}
use Rattle.meaning.specs.Paths.{to_self, is_letter, letter, any, Path, alone, from_root, from_here, Steps, one, more, Step, move, having}
use Rattle.meaning.specs.Selection.{Expr, Denotes, axis_expr, test_expr, path_expr, steps_expr, step_expr, Selects, SomeTreeSelects}
use Rattle.meaning.specs.PathRecords.{Sheet, blank_sheet, next_taken, with_records, rooted_by, rooted, move_records, path_sheet, steps_sheet, step_sheet, end_sheet, line_sheet, lines_sheet, records_of, variables_of}
use Rattle.meaning.proofs.Labels.{folded_least}
use Rattle.meaning.proofs.Trees.{document_blank, no_parent, some_node}
use Rattle.meaning.specs.Finite.{Yes, pick}
use Rattle.meaning.proofs.Tests.{pick_yes, pick_no, is_eq, self_eq}
use Rattle.meaning.proofs.Finite.{split_lt}
use Rattle.meaning.proofs.Constraints.{names_below, meets_agree, vars_least}
use lib.Dec.{eqb}
use Rattle.meaning.proofs.PathCounts.{variables_are}
use Rattle.meaning.proofs.PathSheets.{Fine, Grown, blank_fine, next_taken_grown, rooted_grown, path_grown, steps_grown, step_grown, end_grown, line_grown, lines_grown, next_low, letter_range}
use Rattle.meaning.proofs.PathMoves.{met_nil, met_cons, met_append, move_meets, move_denotes}

-- ---- where the records are met, every line selects the node of variable 0

module _ (t : Tree) (i : IsTree t) (a : Assignment) (n : ℕ) (placed : (x : Var) → x < n → a x < t.size) where
  -- the records are met, and its variables are on nodes
  record Kept (w : Sheet) : Type 0 where
    low : w.next ≤ n
    met : (c : Constraint) → Memᴰ c w.records → Meets t a c

  back : {w v : Sheet} → Grown w v → Kept v → Kept w
  back g k = record { low = le_trans g.next_le k.low; met = λ c m. k.met c (g.keeps c m) }

  on_root : (w : Sheet) → Fine w → 0 < w.root_at → Kept w → a w.root_at ≡ 0
  on_root w f h k = no_parent t i (placed _ (le_trans f.root_low k.low)) (k.met (is_root w.root_at) (f.recorded h))

  -- some node is reached
  abbrev Leads : (Node → Node → Type 0) → Node → Type 0
  Leads R u = (v : Node) × (v < t.size) × R u v

  mutual
    unfolding step_sheet step_expr

    path_leads : (p : Path) (x : Var) (w : Sheet) → Fine w → x < w.next → Kept (path_sheet p x w) → Leads (Denotes t (path_expr p)) (a x)
    path_leads alone x w f l k = (0, some_node t i, refl)
    path_leads (from_root ss) x w f l k =
        let r = rooted_grown w f in
        let g = steps_grown ss (rooted w).root_at (rooted w) r.grown.fine r.grown.fine.root_low in
        let d = steps_lead ss (rooted w).root_at (rooted w) r.grown.fine r.grown.fine.root_low k in
        (d.0, d.1, (0, some_node t i, refl, subst (λ (u : Node). Denotes t (steps_expr ss) u d.0) (on_root (rooted w) r.grown.fine r.positive (back g k)) d.2))
    path_leads (from_here ss) x w f l k = steps_lead ss x w f l k

    steps_lead : (ss : Steps) (x : Var) (w : Sheet) → Fine w → x < w.next → Kept (steps_sheet ss x w) → Leads (Denotes t (steps_expr ss)) (a x)
    steps_lead (one s) x w f l k =
        let g = next_taken_grown w f in
        let h = step_grown s x w.next (next_taken w) g.fine (le_trans l g.next_le) (next_low w) in
        (a w.next, placed w.next (le_trans (next_low w) (back h k).low), step_leads s x w.next (next_taken w) g.fine (le_trans l g.next_le) (next_low w) k)
    steps_lead (more s ss) x w f l k =
        let g = next_taken_grown w f in
        let h = step_grown s x w.next (next_taken w) g.fine (le_trans l g.next_le) (next_low w) in
        let q = steps_grown ss w.next (step_sheet s x w.next (next_taken w)) h.fine (le_trans (next_low w) h.next_le) in
        let d = steps_lead ss w.next (step_sheet s x w.next (next_taken w)) h.fine (le_trans (next_low w) h.next_le) k in
        let e = step_leads s x w.next (next_taken w) g.fine (le_trans l g.next_le) (next_low w) (back q k) in
        (d.0, d.1, (a w.next, placed w.next (le_trans (next_low w) (back h (back q k)).low), e, d.2))

    step_leads : (s : Step) (x y : Var) (w : Sheet) → Fine w → x < w.next → y < w.next → Kept (step_sheet s x y w) → Denotes t (step_expr s) (a x) (a y)
    step_leads (move j q) x y w f l m k =
        move_denotes t i a j q x y (placed y (le_trans m k.low)) (λ c h. k.met c (Memᴰ.append_right w.records h))
    step_leads (having s p) x y w f l m k =
        let g = step_grown s x y w f l m in
        let b = back (path_grown p y (step_sheet s x y w) g.fine (le_trans m g.next_le)) k in
        (step_leads s x y w f l m b, path_leads p y (step_sheet s x y w) g.fine (le_trans m g.next_le) k)

  end_leads : (ss : Steps) (x : Var) (w : Sheet) → Fine w → x < w.next → Kept (end_sheet ss x w) → Denotes t (steps_expr ss) (a x) (a 0)
  unfolding end_sheet step_expr
  end_leads (one s) x w f l k = step_leads s x 0 w f l f.first k
  end_leads (more s ss) x w f l k =
      let g = next_taken_grown w f in
      let h = step_grown s x w.next (next_taken w) g.fine (le_trans l g.next_le) (next_low w) in
      let q = end_grown ss w.next (step_sheet s x w.next (next_taken w)) h.fine (le_trans (next_low w) h.next_le) in
      let d = end_leads ss w.next (step_sheet s x w.next (next_taken w)) h.fine (le_trans (next_low w) h.next_le) k in
      let e = step_leads s x w.next (next_taken w) g.fine (le_trans l g.next_le) (next_low w) (back q k) in
      (a w.next, placed w.next (le_trans (next_low w) (back h (back q k)).low), e, d)

  line_selects : (p : Path) (w : Sheet) → Fine w → Kept (line_sheet p w) → Selects t p (a 0)
  unfolding line_sheet with_records step_expr
  line_selects alone w f k =
      let r = rooted_grown w f in
      let m : Kept (rooted w) = record { low = k.low; met = λ c h. k.met c (Memᴰ.append_left _ h) } in
      let e : a (rooted w).root_at ≡ a 0 = k.met (is_same (rooted w).root_at 0) (Memᴰ.append_right (rooted w).records (Memᴰ.head refl)) in
      record { start = 0; inside = some_node t i; leads = sym e ∙ on_root (rooted w) r.grown.fine r.positive m }
  line_selects (from_root ss) w f k =
      let r = rooted_grown w f in
      let g = end_grown ss (rooted w).root_at (rooted w) r.grown.fine r.grown.fine.root_low in
      let d = end_leads ss (rooted w).root_at (rooted w) r.grown.fine r.grown.fine.root_low k in
      let e = on_root (rooted w) r.grown.fine r.positive (back g k) in
      record { start = 0; inside = some_node t i; leads = (0, some_node t i, refl, subst (λ (u : Node). Denotes t (steps_expr ss) u (a 0)) e d) }
  line_selects (from_here ss) w f k =
      let g = next_taken_grown w f in
      let h = end_grown ss w.next (next_taken w) g.fine (next_low w) in
      record { start = a w.next; inside = placed w.next (le_trans (next_low w) (back h k).low); leads = end_leads ss w.next (next_taken w) g.fine (next_low w) k }

  lines_select : (ps : List Path) (w : Sheet) → Fine w → Kept (lines_sheet ps w) → (p : Path) → Memᴰ p ps → Selects t p (a 0)
  unfolding lines_sheet
  lines_select [] w f k p m = absurd (Memᴰ.not-nil m)
  lines_select (q ∷ qs) w f k p m =
      let g = line_grown q w f in
      ⊎_elim (λ e. subst (λ (r : Path). Selects t r (a 0)) (sym e) (line_selects q w f (back (lines_grown qs (line_sheet q w) g.fine) k)))
      (λ h. lines_select qs (line_sheet q w) g.fine k p h) (Memᴰ.cases_cons m)

-- ---- where every line selects a node, the records can be met: a variable is put where its step leads as it is numbered

put : Assignment → Var → Node → Assignment
put a k v x = pick (eqb x k) v (a x)

put_at : (a : Assignment) (k : Var) (v : Node) → put a k v k ≡ v
unfolding put
put_at a k v = pick_yes v (a k) (self_eq k)

put_off : (a : Assignment) (k : Var) (v : Node) (x : Var) → x < k → put a k v x ≡ a x
unfolding put
put_off a k v x l = pick_no v (a x) (λ e. let h : x ≡ k = is_eq e in omega arith)

module _ (t : Tree) (i : IsTree t) where
  record Good (a : Assignment) (w : Sheet) : Type 0 where
    placed : (x : Var) → x < w.next → a x < t.size
    met : (c : Constraint) → Memᴰ c w.records → Meets t a c
    on_first : 0 < w.root_at → a w.root_at ≡ 0

  -- an assignment that keeps the variables of w and is good for v
  record Extended (a : Assignment) (w v : Sheet) : Type 0 where
    to : Assignment
    agrees : (x : Var) → x < w.next → to x ≡ a x
    good : Good to v

  extended_trans : {a : Assignment} {u w v : Sheet} (e : Extended a u w) → u.next ≤ w.next → Extended e.to w v → Extended a u v
  extended_trans e l d = record { to = d.to; agrees = λ x h. d.agrees x (le_trans h l) ∙ e.agrees x h; good = d.good }

  -- one variable more, on the node v
  next_taken_good : (a : Assignment) (w : Sheet) → Fine w → Good a w → (v : Node) → v < t.size → Good (put a w.next v) (next_taken w)
  unfolding next_taken
  next_taken_good a w f g v l = record {
    placed = λ x h. ⊎_elim (λ e. subst (λ (k : Node). k < t.size) (sym (ap (put a w.next v) e ∙ put_at a w.next v)) l)
        (λ h. subst (λ (k : Node). k < t.size) (sym (put_off a w.next v x h)) (g.placed x h)) (split_lt h);
    met = λ c m. meets_agree t a (put a w.next v) c (λ x h. sym (put_off a w.next v x (le_trans (names_below c x h) (f.low c m)))) (g.met c m);
    on_first = λ h. put_off a w.next v w.root_at f.root_low ∙ g.on_first h;
  }

  with_records_good : (a : Assignment) (cs : List Constraint) (w : Sheet) → Good a w → ((c : Constraint) → Memᴰ c cs → Meets t a c) → Good a (with_records cs w)
  unfolding with_records
  with_records_good a cs w g h = record { placed = g.placed; met = met_append t i a w.records cs g.met h; on_first = g.on_first }

  stay : {a : Assignment} {w v : Sheet} → Good a v → Extended a w v
  stay {a} g = record { to = a; agrees = λ x l. refl; good = g }

  rooted_by_lem : (a : Assignment) (w : Sheet) → Fine w → Good a w → (r : Var) → w.root_at ≡ r → Extended a w (rooted_by r w)
  unfolding rooted_by next_taken
  rooted_by_lem a w f g zero e =
      let h = next_taken_good a w f g 0 (some_node t i) in
      let b = put a w.next 0 in
      record {
        to = b;
        agrees = λ x l. put_off a w.next 0 x l;
        good = record {
          placed = h.placed;
          met = met_append t i b w.records _ h.met
              (met_cons t i b {c = is_root w.next} (λ u p. let q = p.not_first in let z = put_at a w.next 0 in omega arith) (met_nil t i b));
          on_first = λ _. put_at a w.next 0;
        };
      }
  rooted_by_lem a w f g (suc r) e = stay g

  rooted_good : (a : Assignment) (w : Sheet) → Fine w → Good a w → Extended a w (rooted w)
  unfolding rooted
  rooted_good a w f g = rooted_by_lem a w f g w.root_at refl

  abbrev next_taken_extended : (a : Assignment) (w : Sheet) → Fine w → Good a w → (v : Node) → v < t.size → Extended a w (next_taken w)
  next_taken_extended a w f g v l = record { to = put a w.next v; agrees = λ x h. put_off a w.next v x h; good = next_taken_good a w f g v l }

  -- both ends moved along equations
  moved : (e : Expr) {u v u' v' : Node} → u ≡ u' → v ≡ v' → Denotes t e u v → Denotes t e u' v'
  moved e {v = v} {u' = u'} p q d = subst (Denotes t e u') q (subst (λ (k : Node). Denotes t e k v) p d)

  mutual
    unfolding step_sheet step_expr

    path_met : (p : Path) (x : Var) (w : Sheet) (a : Assignment) → Fine w → x < w.next → Good a w → (v : Node) → v < t.size → Denotes t (path_expr p) (a x) v → Extended a w (path_sheet p x w)
    path_met alone x w a f l g v k d = rooted_good a w f g
    path_met (from_root ss) x w a f l g v k d =
        let r = rooted_grown w f in
        let e = rooted_good a w f g in
        extended_trans e r.grown.next_le
        (steps_met ss (rooted w).root_at (rooted w) e.to r.grown.fine r.grown.fine.root_low e.good v k
        (moved (steps_expr ss) (d.2 ∙ sym (e.good.on_first r.positive)) refl d.3))
    path_met (from_here ss) x w a f l g v k d = steps_met ss x w a f l g v k d

    steps_met : (ss : Steps) (x : Var) (w : Sheet) (a : Assignment) → Fine w → x < w.next → Good a w → (v : Node) → v < t.size → Denotes t (steps_expr ss) (a x) v → Extended a w (steps_sheet ss x w)
    steps_met (one s) x w a f l g v k d =
        let n = next_taken_grown w f in
        let e = next_taken_extended a w f g v k in
        extended_trans e n.next_le
        (step_met s x w.next (next_taken w) e.to n.fine (le_trans l n.next_le) (next_low w) e.good
        (moved (step_expr s) (sym (put_off a w.next v x l)) (sym (put_at a w.next v)) d))
    steps_met (more s ss) x w a f l g v k d =
        let n = next_taken_grown w f in
        let e = next_taken_extended a w f g d.0 d.1 in
        let h = step_grown s x w.next (next_taken w) n.fine (le_trans l n.next_le) (next_low w) in
        let e₂ = step_met s x w.next (next_taken w) e.to n.fine (le_trans l n.next_le) (next_low w) e.good
        (moved (step_expr s) (sym (put_off a w.next d.0 x l)) (sym (put_at a w.next d.0)) d.2) in
        let e₃ = steps_met ss w.next (step_sheet s x w.next (next_taken w)) e₂.to h.fine (le_trans (next_low w) h.next_le) e₂.good v k
        (moved (steps_expr ss) (sym (e₂.agrees w.next (next_low w) ∙ put_at a w.next d.0)) refl d.3) in
        extended_trans e n.next_le (extended_trans e₂ h.next_le e₃)

    step_met : (s : Step) (x y : Var) (w : Sheet) (a : Assignment) → Fine w → x < w.next → y < w.next → Good a w → Denotes t (step_expr s) (a x) (a y) → Extended a w (step_sheet s x y w)
    step_met (move j q) x y w a f l m g d = stay (with_records_good a (move_records j q x y) w g (move_meets t i a j q x y d))
    step_met (having s p) x y w a f l m g d =
        let h = step_grown s x y w f l m in
        let e = step_met s x y w a f l m g d.0 in
        extended_trans e h.next_le
        (path_met p y (step_sheet s x y w) e.to h.fine (le_trans m h.next_le) e.good d.1.0 d.1.1
        (moved (path_expr p) (sym (e.agrees y m)) refl d.1.2))

  end_met : (ss : Steps) (x : Var) (w : Sheet) (a : Assignment) → Fine w → x < w.next → Good a w → Denotes t (steps_expr ss) (a x) (a 0) → Extended a w (end_sheet ss x w)
  unfolding end_sheet step_expr
  end_met (one s) x w a f l g d = step_met s x 0 w a f l f.first g d
  end_met (more s ss) x w a f l g d =
      let n = next_taken_grown w f in
      let e = next_taken_extended a w f g d.0 d.1 in
      let h = step_grown s x w.next (next_taken w) n.fine (le_trans l n.next_le) (next_low w) in
      let e₂ = step_met s x w.next (next_taken w) e.to n.fine (le_trans l n.next_le) (next_low w) e.good
      (moved (step_expr s) (sym (put_off a w.next d.0 x l)) (sym (put_at a w.next d.0)) d.2) in
      let e₃ = end_met ss w.next (step_sheet s x w.next (next_taken w)) e₂.to h.fine (le_trans (next_low w) h.next_le) e₂.good
      (moved (steps_expr ss) (sym (e₂.agrees w.next (next_low w) ∙ put_at a w.next d.0))
      (sym (e₂.agrees 0 n.fine.first ∙ put_off a w.next d.0 0 f.first)) d.3) in
      extended_trans e n.next_le (extended_trans e₂ h.next_le e₃)

  line_met : (p : Path) (w : Sheet) (a : Assignment) → Fine w → Good a w → Selects t p (a 0) → Extended a w (line_sheet p w)
  unfolding line_sheet step_expr
  line_met alone w a f g s =
      let r = rooted_grown w f in
      let e = rooted_good a w f g in
      let b = e.to in
      record {
        to = b;
        agrees = e.agrees;
        good = with_records_good b _ (rooted w) e.good
            (met_cons t i b {c = is_same (rooted w).root_at 0} (e.good.on_first r.positive ∙ sym (e.agrees 0 f.first ∙ s.leads)) (met_nil t i b));
      }
  line_met (from_root ss) w a f g s =
      let r = rooted_grown w f in
      let e = rooted_good a w f g in
      let d = s.leads in
      extended_trans e r.grown.next_le
      (end_met ss (rooted w).root_at (rooted w) e.to r.grown.fine r.grown.fine.root_low e.good
      (moved (steps_expr ss) (d.2 ∙ sym (e.good.on_first r.positive)) (sym (e.agrees 0 f.first)) d.3))
  line_met (from_here ss) w a f g s =
      let n = next_taken_grown w f in
      let e = next_taken_extended a w f g s.start s.inside in
      extended_trans e n.next_le
      (end_met ss w.next (next_taken w) e.to n.fine (next_low w) e.good
      (moved (steps_expr ss) (sym (put_at a w.next s.start)) (sym (put_off a w.next s.start 0 f.first)) s.leads))

  lines_met : (ps : List Path) (w : Sheet) (a : Assignment) → Fine w → Good a w → ((p : Path) → Memᴰ p ps → Selects t p (a 0)) → Extended a w (lines_sheet ps w)
  unfolding lines_sheet
  lines_met [] w a f g h = stay g
  lines_met (p ∷ ps) w a f g h =
      let n = line_grown p w f in
      let e = line_met p w a f g (h p (Memᴰ.head refl)) in
      extended_trans e n.next_le
      (lines_met ps (line_sheet p w) e.to n.fine e.good (λ q m. subst (Selects t q) (sym (e.agrees 0 f.first)) (h q (Memᴰ.tail m))))

-- ---- the theorem

-- before the first line: variable 0 is on the node
first_good : (t : Tree) (i : IsTree t) (v : Node) → v < t.size → Good t i (λ _. v) blank_sheet
unfolding blank_sheet
first_good t i v l = record { placed = λ x h. l; met = λ c m. absurd (Memᴰ.not-nil m); on_first = λ h. absurd (not-suc-le-zero h) }

first_low : (ps : List Path) → 0 < variables_of ps
unfolding variables_of
first_low ps = (lines_grown ps blank_sheet blank_fine).fine.first

kept_select : (t : Tree) (i : IsTree t) (a : Assignment) (ps : List Path) → ((x : Var) → x < variables_of ps → a x < t.size)
    → ((c : Constraint) → Memᴰ c (records_of ps) → Meets t a c) → (p : Path) → Memᴰ p ps → Selects t p (a 0)
unfolding variables_of records_of
kept_select t i a ps on met = lines_select t i a (variables_of ps) on ps blank_sheet blank_fine (record { low = le_refl _; met = met })

-- a node that every line selects is one where variable 0 can stand
placed_at : (ps : List Path) (t : Tree) (i : IsTree t) (v : Node) → v < t.size → ((p : Path) → Memᴰ p ps → Selects t p v)
    → (a : Assignment) × (a 0 ≡ v) × MeetsAll (vars (records_of ps)) t a (records_of ps)
unfolding records_of
placed_at ps t i v l h =
    let e = lines_met t i ps blank_sheet (λ _. v) blank_fine (first_good t i v l) h in
    let low = (lines_grown ps blank_sheet blank_fine).fine.low in
    (e.to, e.agrees 0 blank_fine.first, record { placed = λ x k. e.good.placed x (le_trans k (vars_least _ _ low)); every = e.good.met })

-- and where it stands, every line selects
selected_at : (ps : List Path) (t : Tree) (i : IsTree t) (a : Assignment) → MeetsAll (vars (records_of ps)) t a (records_of ps) → (p : Path) → Memᴰ p ps → Selects t p (a 0)
selected_at [] t i a m = λ p h. absurd (Memᴰ.not-nil h)
selected_at (q ∷ ps) t i a m =
    let n = variables_are (q ∷ ps) (suc-le-suc zero-le) in
    kept_select t i a (q ∷ ps) (λ x l. m.placed x (subst (λ (k : ℕ). x < k) n l)) m.every

-- "Variable 0 is the node where all lines end": of one tree, the nodes that every line selects are those where variable 0 can stand
pub ends_iff : (ps : List Path) {t : Tree} → IsTree t → {v : Node} → v < t.size
    → ((p : Path) → Memᴰ p ps → Selects t p v) ↔ ((a : Assignment) × (a 0 ≡ v) × MeetsAll (vars (records_of ps)) t a (records_of ps))
ends_iff ps {t} i {v} l = (placed_at ps t i v l, λ m p h. subst (Selects t p) m.1 (selected_at ps t i m.0 m.2 p h))

pub met_if_selected : (ps : List Path) → SomeTreeSelects ps → CanBeMet (vars (records_of ps)) (records_of ps)
met_if_selected ps s =
    let e = placed_at ps s.tree s.is_tree s.node s.inside s.by_every in
    record { tree = s.tree; is_tree = s.is_tree; assignment = e.0; meets = e.2 }

pub selected_if_met : (ps : List Path) → CanBeMet (vars (records_of ps)) (records_of ps) → SomeTreeSelects ps
selected_if_met [] m =
    record { tree = m.tree; is_tree = m.is_tree; node = 0; inside = some_node m.tree m.is_tree; by_every = λ p h. absurd (Memᴰ.not-nil h) }
selected_if_met (p ∷ ps) m =
    let n = variables_are (p ∷ ps) (suc-le-suc zero-le) in
    record {
      tree = m.tree;
      is_tree = m.is_tree;
      node = m.assignment 0;
      inside = m.meets.placed 0 (subst (λ (k : ℕ). 0 < k) n (first_low (p ∷ ps)));
      by_every = selected_at (p ∷ ps) m.tree m.is_tree m.assignment m.meets;
    }

-- "The records written can be met if and only if some tree has a node selected by every line"
pub met_iff_selected : (ps : List Path) → CanBeMet (vars (records_of ps)) (records_of ps) ↔ SomeTreeSelects ps
met_iff_selected ps = (selected_if_met ps, met_if_selected ps)

-- ---- the document node has no name

-- "`*` still passes the document node"
pub star_passes : {t : Tree} → IsTree t → Selects t (from_root (one (move to_self any))) 0
unfolding path_expr steps_expr step_expr test_expr axis_expr
star_passes {t} i = record { start = 0; inside = some_node t i; leads = (0, some_node t i, refl, refl) }

-- no letter does: of `/self::a` no tree has a node selected
pub letter_stops : (b : Label) (l : Yes (is_letter b)) → ¬ SomeTreeSelects (from_root (one (move to_self (letter b l))) ∷ [])
unfolding path_expr steps_expr step_expr test_expr axis_expr
letter_stops b l s =
    let d = (s.by_every _ (Memᴰ.head refl)).leads in
    let w = d.3 in
    let e : 0 ≡ folded b = sym (document_blank s.tree s.is_tree (sym w.2 ∙ d.2)) ∙ w.3.1 in
    let m = (letter_range b l).0 in
    omega (arith, e, folded_least b, m)
