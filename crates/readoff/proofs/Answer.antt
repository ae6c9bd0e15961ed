-- What is written, the nodes in front, those of the groups and the places, is the answer file.
use mathlib.Core.Path.{◌≡◌, sym, ap, subst, ◌∙◌}
use mathlib.Core.Logic.{◌⊎◌, ⊎_elim}
use mathlib.Core.List.{List, [], ◌∷◌, ◌++◌}
use Prim.Native.Nat.{ℕ, suc, ◌+◌, ◌-◌, ◌*◌, ◌/◌, ◌%◌, ◌≤◌, ◌<◌}
use native.Mathlib.Nat.{mod-lt, div-add-mod'}
use native.Mathlib.Decide.{dec_lt}
use native.Mathlib.Omega.{arith}
use lib.Count.{ones}
use lib.ListN.{length, get_or, drop, length-append, length-drop, get_or-append}
use lib.Seq.{get_or-append-add, get_or-drop, ext_get_or}
use mir.Syntax.{w8, w16}
use mir.Val.{Fits}
use Rattle.meaning.specs.Constraint.{Fact}
use Rattle.meaning.specs.Finite.{tab}
use Rattle.meaning.specs.ReadOff.{FactSet, order, element, node_at, NodeRecord, nodes, tree_of, place, places, node_bytes, place_bytes, answer_file}
use Rattle.meaning.proofs.Finite.{length_tab}
use Rattle.meaning.proofs.Nodes.{node, tree, size_is, node_at_lem, node_inside, InFront, front_at, which, order_most, nodes_most}
use Rattle.theory.proofs.AnswerFile.{length_node_bytes, length_place_bytes}
use Rattle.tables.specs.declared.Facts.{Facts}
use Rattle.tables.specs.Tables.{row, has, Columns, Ready}
use Rattle.ordering.specs.declared.Order.{Order}
use Rattle.ordering.specs.Rows.{Gathered, is_lowest, AreLayers}
use Rattle.ordering.specs.Numbering.{element_of, numbered}
use Rattle.ordering.specs.Listing.{Strict, listed}
use Rattle.ordering.specs.Groups.{groups}
use Rattle.readoff.specs.Nodes.{Led, place_in, group_record}
use Rattle.readoff.specs.Written.{Recorded, blank_at, place_record, FileWritten}
use Rattle.ordering.proofs.Listing.{count_is}
use Rattle.readoff.proofs.Numbering.{element_is, numbered_is}
use Rattle.readoff.proofs.Meaning.{record_is, places_are}
use Rattle.readoff.proofs.Preceding.{SayBefore, says_before, strict}
use Rattle.readoff.proofs.Layers.{order_is, tops_are}
use Rattle.readoff.proofs.Leading.{led}
use Rattle.readoff.proofs.Written.{node_record, node_bytes_at, place_bytes_at, recorded_as}

-- ---- of any facts

module _ (n : ℕ) (h : FactSet) where
  abbrev size : ℕ
  size = length (nodes n h)

  size_exact : size ≡ node_at n h (length (order n h))
  unfolding tree tree_of
  size_exact = size_is n h

  few_front : suc (element n h) ≤ size
  unfolding node_at
  few_front = omega (arith, size_exact)

  places_length : length (places n h) ≡ n
  unfolding places
  places_length = length_tab n (place n h)

  file_length : length (answer_file n h) ≡ (size + n) * 4
  unfolding answer_file
  file_length =
      let a = length-append (node_bytes 0 (nodes n h)) (place_bytes 0 (places n h)) in
      omega (arith, length_node_bytes 0 (nodes n h), length_place_bytes 0 (places n h), places_length)

  -- ---- a buffer that has every record of the file, and behind them what it had

  module _ (old new : List ℕ) (room : (size + n) * 4 ≤ length old) where
    abbrev file : List ℕ
    file = answer_file n h ++ drop (length (answer_file n h)) old

    at_node : (v j : ℕ) → v < size → j < 4 → get_or file (v * 4 + j) 0 ≡ get_or (node_record (nodes n h) v) j 0
    unfolding answer_file
    at_node v j l m =
        get_or-append (answer_file n h) _ 0 (v * 4 + j) (omega (arith, file_length))
        ∙ get_or-append (node_bytes 0 (nodes n h)) _ 0 (v * 4 + j) (omega (arith, length_node_bytes 0 (nodes n h))) ∙ node_bytes_at (nodes n h) v j l m

    at_place : (x j : ℕ) → x < n → j < 4 → get_or file ((size + x) * 4 + j) 0 ≡ get_or (place_record (places n h) x) j 0
    unfolding answer_file
    at_place x j l m =
        let e : (size + x) * 4 + j ≡ length (node_bytes 0 (nodes n h)) + (x * 4 + j) = omega (arith, length_node_bytes 0 (nodes n h)) in
        get_or-append (answer_file n h) _ 0 ((size + x) * 4 + j) (omega (arith, file_length)) ∙ ap (λ (k : ℕ). get_or (answer_file n h) k 0) e
        ∙ get_or-append-add (node_bytes 0 (nodes n h)) (place_bytes 0 (places n h)) (x * 4 + j) 0 ∙ place_bytes_at (places n h) x j (omega (arith, places_length)) m

    at_behind : (p : ℕ) → (size + n) * 4 ≤ p → get_or file p 0 ≡ get_or old p 0
    at_behind p l =
        let e : length (answer_file n h) + (p - length (answer_file n h)) ≡ p = omega (arith, file_length) in
        ap (λ (k : ℕ). get_or file k 0) (sym e) ∙ get_or-append-add (answer_file n h) _ (p - length (answer_file n h)) 0
        ∙ get_or-drop (length (answer_file n h)) old (p - length (answer_file n h)) 0 ∙ ap (λ (k : ℕ). get_or old k 0) e

    whole : length new ≡ length old → ((v j : ℕ) → j < 4 → get_or new (v * 4 + j) 0 ≡ get_or file (v * 4 + j) 0) → new ≡ file
    whole long each =
        ext_get_or 0 new file (let a = length-append (answer_file n h) (drop (length (answer_file n h)) old) in omega (arith, length-drop (length (answer_file n h)) old, file_length))
        (λ p l. subst (λ (k : ℕ). get_or new k 0 ≡ get_or file k 0) (div-add-mod' p 4) (each (p / 4) (p % 4) (mod-lt p (omega arith))))

  -- each node is in front or that of a group, and has its record
  node_written : (old first second : List ℕ) → Recorded (λ v. v) blank_at (suc (element n h)) old first
      → Recorded (node_at n h) (λ i. node_bytes (node_at n h i) (node n h (get_or (order n h) i 0) ∷ [])) (length (order n h)) first second
      → (v j : ℕ) → InFront n h v ⊎ ((i : ℕ) × (i < length (order n h)) × (v ≡ node_at n h i)) → j < 4 → get_or second (v * 4 + j) 0 ≡ get_or (node_record (nodes n h) v) j 0
  node_written old first second a g v j w m =
      ⊎_elim
      (λ q. g.others v j (λ i k. q.apart i) m ∙ a.these v j q.early m
      ∙ ap (λ (r : NodeRecord). get_or (node_bytes v (r ∷ [])) j 0) (sym (front_at n h v q.early)))
      (λ q. subst (λ (k : ℕ). get_or second (k * 4 + j) 0 ≡ get_or (node_record (nodes n h) k) j 0) (sym q.2)
      (g.these q.0 j q.1 m ∙ ap (λ (r : NodeRecord). get_or (node_bytes (node_at n h q.0) (r ∷ [])) j 0) (sym (node_at_lem n h q.0 q.1))))
      w

  answered : (old first second new : List ℕ) → n ≤ 16 → 136 ≤ length old → Recorded (λ v. v) blank_at (suc (element n h)) old first
      → Recorded (node_at n h) (λ i. node_bytes (node_at n h i) (node n h (get_or (order n h) i 0) ∷ [])) (length (order n h)) first second
      → Recorded (λ x. size + x) (place_record (places n h)) n second new → FileWritten n h old ((size + n) * 4) new
  unfolding tree tree_of
  answered old first second new few room a g p = record {
    size = sym file_length;
    bytes = whole old new fits (p.long ∙ g.long ∙ a.long) (λ v j m. byte v j m (dec_lt v size) (dec_lt v (size + n)));
    most = omega (arith, nodes_most n h);
  }
    where
      fits : (size + n) * 4 ≤ length old
      fits = omega (arith, nodes_most n h)

      byte : (v j : ℕ) → j < 4 → Dec (v < size) → Dec (v < size + n) → get_or new (v * 4 + j) 0 ≡ get_or (file old new fits) (v * 4 + j) 0
      byte v j m (yes l) _ = p.others v j (λ x i e. let q : v ≡ size + x = e in omega arith) m ∙ node_written old first second a g v j (which n h v l) m ∙ sym (at_node old new fits v j l m)
      byte v j m (no l) (yes k) =
          let e : size + (v - size) ≡ v = omega arith in
          subst (λ (i : ℕ). get_or new (i * 4 + j) 0 ≡ get_or (file old new fits) (i * 4 + j) 0) e
          (p.these (v - size) j (omega arith) m ∙ sym (at_place old new fits (v - size) j (omega arith) m))
      byte v j m (no l) (no k) =
          p.others v j (λ x i e. let q : v ≡ size + x = e in omega arith) m ∙ g.others v j (λ i k e. let q = node_inside n h k in omega arith) m
          ∙ a.others v j (λ i k e. let q : v ≡ i = e in omega (arith, few_front)) m ∙ sym (at_behind old new fits (v * 4 + j) (omega arith))

-- ---- of the tables

-- what is known of tables that are ready once the lowest of their groups are in layers
pub record Prepared (S : List Fact) (f : Facts) (n lows : ℕ) (rows : List ℕ) : Type 0 where
  pub few : n ≤ 16
  pub ready : Ready n S f
  pub long : length f.after ≡ 16
  pub fits : (g : ℕ) → Fits w16 (row f.after g)
  pub low : Gathered n (is_lowest f.below f.above f.root) lows
  pub layered : AreLayers f.below f.above n lows rows

pub prepared : {S : List Fact} {f : Facts} {n lows : ℕ} {rows : List ℕ} → n ≤ 16 → Ready n S f
    → length f.after ≡ 16 → ((g : ℕ) → Fits w16 (row f.after g)) → Gathered n (is_lowest f.below f.above f.root) lows
    → AreLayers f.below f.above n lows rows → Prepared S f n lows rows
prepared a r l f g d = record { few = a; ready = r; long = l; fits = f; low = g; layered = d }

module _ {S : List Fact} {f : Facts} {n lows : ℕ} {rows : List ℕ} (w : Prepared S f n lows rows) where
  columns : Columns f.below f.above
  columns = w.ready.mirrored.ancestors

  says : SayBefore f
  says = says_before f n w.few S w.ready w.long (λ g. (w.fits g).fits)

  listed_are : listed f.after rows n ≡ order n (has f)
  listed_are = order_is f n w.few columns lows w.low rows w.layered says

  pub strict_after : Strict f.after
  strict_after = strict f n w.few S w.ready w.long (λ g. (w.fits g).fits)

  pub room_for : length (listed f.after rows n) ≤ 16
  room_for = let a = order_most n (has f) in let b = w.few in omega (arith, ap length listed_are)

module _ {S : List Fact} {f : Facts} {n lows : ℕ} {rows : List ℕ} (w : Prepared S f n lows rows) (o : Order)
    (these : groups o ≡ listed f.after rows n) where
  groups_are : groups o ≡ order n (has f)
  groups_are = these ∙ listed_are w

  len_is : o.len ≡ length (order n (has f))
  len_is = sym (count_is o) ∙ ap length groups_are

  pub groups_led : Led f.below f.above f.root n (groups o)
  groups_led = subst (Led f.below f.above f.root n) (sym groups_are) (led f n w.few S w.ready)

  module _ (e : ℕ) (q : e ≡ element_of (ones (row rows 0))) where
    element_exact : e ≡ element n (has f)
    element_exact =
        q ∙ ap element_of (tops_are f n w.few (columns w) lows w.low rows w.layered (says w)) ∙ element_is n (has f)

    numbers_are : numbered e ≡ node_at n (has f)
    numbers_are = ap numbered element_exact ∙ numbered_is n (has f)

    first_is : numbered e o.len ≡ size n (has f)
    first_is = ap (λ (number : ℕ → ℕ). number o.len) numbers_are ∙ ap (node_at n (has f)) len_is ∙ sym (size_exact n (has f))

    pub file_written : (first : ℕ) (old mid late new : List ℕ) (vs : List ℕ) → first ≡ numbered e o.len
        → 136 ≤ length old → ((g : ℕ) → Fits w8 (row f.label g))
        → Recorded (λ v. v) blank_at (suc e) old mid → Recorded (numbered e) (group_record f.below f.above f.label n lows e (groups o)) o.len mid late
        → Recorded (λ x. first + x) (place_record vs) n late new → vs ≡ tab n (place_in f.below f.above f.root e (groups o))
        → FileWritten n (has f) old ((first + n) * 4) new
    file_written first old mid late new vs z room bytes a g p d =
        rw (z, first_is)
        (answered n (has f) old mid late new w.few room (rw element_exact at a)
        (recorded_as _ _ _ _ _ _ (record_is f n w.few (columns w) lows w.low (λ g. (bytes g).fits))
        (rw (element_exact, numbered_is, groups_are, len_is) at g))
        (rw (z, first_is, d, groups_are, element_exact, places_are f n w.few (columns w)) at p))
