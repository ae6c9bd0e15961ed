-- Records put each at its number: one more of them, and what stands at a number of an answer file.
use mathlib.Core.Path.{◌≡◌, refl, sym, ap, ◌∙◌, subst}
use mathlib.Core.Logic.{◌≢◌}
use mathlib.Core.List.{List, [], ◌∷◌, ◌++◌, map, map-append}
use Prim.Native.Nat.{ℕ, zero, suc, ◌+◌, ◌-◌, ◌*◌, ◌≤◌, ◌<◌}
use native.Mathlib.Nat.{add-zero, zero-add, not-suc-le-zero, le_of_suc-le-suc}
use native.Mathlib.Decide.{dec_lt, ℕ_discrete}
use native.Mathlib.Numerals.{add-one}
use native.Mathlib.Omega.{arith}
use lib.ListN.{length, get_or, take, drop, set, length-append, length-drop, get_or-append, get_or-map}
use lib.Seq.{take-suc-set, length-take-le, get_or-append-add, get_or-take, get_or-drop}
use Rattle.meaning.specs.Finite.{tab}
use Rattle.meaning.specs.ReadOff.{NodeRecord, blank_record, node_bytes, place_bytes}
use Rattle.tables.specs.Tables.{row}
use Rattle.ids.specs.declared.Node.{Node}
use Rattle.ordering.specs.declared.Order.{Order}
use Rattle.ordering.specs.Rows.{over_row}
use Rattle.ordering.specs.Groups.{groups}
use Rattle.readoff.specs.Nodes.{node_numbers, parent_in, node_in, group_record}
use Rattle.ordering.specs.Numbering.{numbered}
use Rattle.readoff.specs.Written.{Recorded, Put, blank_at, place_record}
use Rattle.ordering.proofs.Listing.{member_at}

-- ---- one record

module _ (v : ℕ) (bs old : List ℕ) (four : length bs ≡ 4) (room : v * 4 + 4 ≤ length old) where
  abbrev new : List ℕ
  new = take (v * 4) old ++ (bs ++ drop 4 (drop (v * 4) old))

  front : length (take (v * 4) old) ≡ v * 4
  front = length-take-le (v * 4) old (omega arith)

  long : length new ≡ length old
  long = simp (length-append, length-drop, front, four) (omega arith)

  here : (j : ℕ) → j < 4 → get_or new (v * 4 + j) 0 ≡ get_or bs j 0
  here j m =
      ap (λ (k : ℕ). get_or new (k + j) 0) (sym front) ∙ get_or-append-add (take (v * 4) old) _ j 0
      ∙ get_or-append bs _ 0 j (rw four m)

  ahead : (i : ℕ) → i < v * 4 → get_or new i 0 ≡ get_or old i 0
  ahead i l = get_or-append (take (v * 4) old) _ 0 i (rw front l) ∙ get_or-take (v * 4) old i 0 l

  behind : (k : ℕ) → get_or new (v * 4 + (4 + k)) 0 ≡ get_or old (v * 4 + (4 + k)) 0
  behind k =
      ap (λ (i : ℕ). get_or new (i + (4 + k)) 0) (sym front) ∙ get_or-append-add (take (v * 4) old) _ (4 + k) 0
      ∙ ap (λ (i : ℕ). get_or (bs ++ drop 4 (drop (v * 4) old)) (i + k) 0) (sym four) ∙ get_or-append-add bs _ k 0
      ∙ get_or-drop 4 (drop (v * 4) old) k 0 ∙ get_or-drop (v * 4) old (4 + k) 0

  pub put_four : Put v bs old new
  put_four = record {
    long = long;
    these = λ i j l m. here j m;
    others = λ u j f m. other u j (f 0 (omega arith)) m (dec_lt u v);
  }
    where
      other : (u j : ℕ) → u ≢ v → j < 4 → Dec (u < v) → get_or new (u * 4 + j) 0 ≡ get_or old (u * 4 + j) 0
      other u j f m (yes l) = ahead (u * 4 + j) (omega arith)
      other u j f m (no l) =
          let e : v * 4 + (4 + (u * 4 + j - (v * 4 + 4))) ≡ u * 4 + j = omega arith in
          subst (λ (i : ℕ). get_or new i 0 ≡ get_or old i 0) e (behind _)

-- ---- one record more

module _ (number : ℕ → ℕ) (bytes : ℕ → List ℕ) where
  pub recorded_none : (old : List ℕ) → Recorded number bytes 0 old old
  recorded_none old = record { long = refl; these = λ i j l m. absurd (not-suc-le-zero l); others = λ v j f m. refl }

  pub recorded_more : ((i j : ℕ) → i < j → number i < number j) → (i own : ℕ) (given old mid new : List ℕ) → own ≡ number i → given ≡ bytes i
      → Recorded number bytes i old mid → Put own given mid new → Recorded number bytes (i + 1) old new
  recorded_more later i own given old mid new z e r w = record {
    long = w.long ∙ r.long;
    these = λ k j l m. this k j l m (ℕ_discrete k i);
    others = λ v j f m. w.others v j (λ _ _ y. f i (omega arith) (y ∙ z)) m ∙ r.others v j (λ k l. f k (omega arith)) m;
  }
    where
      this : (k j : ℕ) → k < i + 1 → j < 4 → Dec (k ≡ i) → get_or new (number k * 4 + j) 0 ≡ get_or (bytes k) j 0
      this k j l m (yes q) = rw (q, ← e, ← z) (w.these 0 j (omega arith) m)
      this k j l m (no q) = w.others (number k) j (λ _ _ y. let a = later k i (omega arith) in omega arith) m ∙ r.these k j (omega arith) m

  pub recorded_all : (i k : ℕ) (old new : List ℕ) → i ≡ k → Recorded number bytes i old new → Recorded number bytes k old new
  recorded_all i k old new e r = subst (λ (j : ℕ). Recorded number bytes j old new) e r

  pub recorded_as : (other : ℕ → List ℕ) (k : ℕ) (old new : List ℕ) → ((i : ℕ) → i < k → bytes i ≡ other i) → Recorded number bytes k old new → Recorded number other k old new
  recorded_as other k old new e r = record { long = r.long; these = λ i j l m. r.these i j l m ∙ ap (λ (bs : List ℕ). get_or bs j 0) (e i l); others = r.others }

-- the document node
pub document : {old new : List ℕ} → Put 0 (blank_at 0) old new → Recorded (λ v. v) blank_at 1 old new
document w = recorded_more _ _ (λ i j l. l) 0 0 _ _ _ _ refl refl (recorded_none _ _ _) w

-- ---- the records of a file

quads_at : {A : Type 0} (f : ℕ → List A → List ℕ) (d : A) → ((i : ℕ) (a : A) (xs : List A) → f i (a ∷ xs) ≡ f i (a ∷ []) ++ f (suc i) xs) → ((i : ℕ) (a : A) → length (f i (a ∷ [])) ≡ 4)
    → (xs : List A) (i v j : ℕ) → v < length xs → j < 4 → get_or (f i xs) (v * 4 + j) 0 ≡ get_or (f (i + v) (get_or xs v d ∷ [])) j 0
quads_at f d cons four [] i v j l m = absurd (not-suc-le-zero l)
quads_at f d cons four (a ∷ xs) i zero j l m =
    ap (λ (k : ℕ). get_or (f i (a ∷ xs)) k 0) {x = zero * 4 + j} {y = j} (omega arith)
    ∙ ap (λ (bs : List ℕ). get_or bs j 0) (cons i a xs) ∙ get_or-append (f i (a ∷ [])) (f (suc i) xs) 0 j (rw (four i a) m)
    ∙ ap (λ (k : ℕ). get_or (f k (a ∷ [])) j 0) (sym (add-zero i))
quads_at f d cons four (a ∷ xs) i (suc v) j l m =
    ap (λ (k : ℕ). get_or (f i (a ∷ xs)) k 0) {x = suc v * 4 + j} {y = length (f i (a ∷ [])) + (v * 4 + j)} (omega (arith, four i a))
    ∙ ap (λ (bs : List ℕ). get_or bs (length (f i (a ∷ [])) + (v * 4 + j)) 0) (cons i a xs) ∙ get_or-append-add (f i (a ∷ [])) (f (suc i) xs) (v * 4 + j) 0
    ∙ quads_at f d cons four xs (suc i) v j (le_of_suc-le-suc l) m ∙ ap (λ (k : ℕ). get_or (f k (get_or xs v d ∷ [])) j 0) (omega arith)

-- the record at a number of a list of nodes
abbrev pub node_record : List NodeRecord → ℕ → List ℕ
node_record ns v = node_bytes v (get_or ns v blank_record ∷ [])

pub node_bytes_at : (ns : List NodeRecord) (v j : ℕ) → v < length ns → j < 4 → get_or (node_bytes 0 ns) (v * 4 + j) 0 ≡ get_or (node_record ns v) j 0
unfolding node_bytes
node_bytes_at ns v j l m = quads_at node_bytes blank_record (λ i a xs. refl) (λ i a. refl) ns 0 v j l m ∙ ap (λ (k : ℕ). get_or (node_bytes k (get_or ns v blank_record ∷ [])) j 0) (zero-add v)

pub place_bytes_at : (vs : List ℕ) (x j : ℕ) → x < length vs → j < 4 → get_or (place_bytes 0 vs) (x * 4 + j) 0 ≡ get_or (place_record vs x) j 0
unfolding place_bytes
place_bytes_at vs x j l m = quads_at place_bytes 0 (λ i a xs. refl) (λ i a. refl) vs 0 x j l m ∙ ap (λ (k : ℕ). get_or (place_bytes k (get_or vs x 0 ∷ [])) j 0) (zero-add x)

-- the record that is computed is that of the group
pub group_record_lem : (t u labels : List ℕ) (n lows element : ℕ) (o : Order) (i : ℕ) → i < o.len
    → (own above up : ℕ) → own ≡ numbered element i
    → above ≡ over_row n (row u (get_or o.group i record { 0 = 0 }).0) (row t (get_or o.group i record { 0 = 0 }).0) → up ≡ parent_in t u lows element (groups o) above
    → (1 ∷ own ∷ up ∷ row labels (get_or o.group i record { 0 = 0 }).0 ∷ []) ≡ group_record t u labels n lows element (groups o) i
unfolding node_in node_bytes
group_record_lem t u labels n lows element o i l own above up z a e = rw (member_at o i l, z, e, a)

-- ---- the assignment, variable by variable

pub number_at : (n : ℕ) (vs : List Node) (x : ℕ) → x < n → (get_or vs x record { 0 = 0 }).0 ≡ get_or (node_numbers n vs) x 0
unfolding node_numbers
number_at n vs x l = sym (get_or-map (λ (v : Node). v.0) (take n vs) x record { 0 = 0 } ∙ ap (λ (v : Node). v.0) (get_or-take n vs x record { 0 = 0 } l))

numbers_set : (vs : List Node) (x v : ℕ) → x < length vs → node_numbers (x + 1) (set vs x record { 0 = v }) ≡ node_numbers x vs ++ v ∷ []
unfolding node_numbers
numbers_set vs x v l =
    ap (map (λ (v : Node). v.0)) (ap (λ (k : ℕ). take k (set vs x record { 0 = v })) (add-one x) ∙ take-suc-set vs x record { 0 = v } l)
    ∙ map-append (λ (v : Node). v.0) (take x vs) (record { 0 = v } ∷ [])

pub assigned_more : (vs : List Node) (x v : ℕ) (f : ℕ → ℕ) → x < length vs → v ≡ f x → node_numbers x vs ≡ tab x f → node_numbers (x + 1) (set vs x record { 0 = v }) ≡ tab (x + 1) f
unfolding tab
assigned_more vs x v f l e h = numbers_set vs x v l ∙ rw (add-one, h, e)

pub assigned_none : (vs : List Node) (f : ℕ → ℕ) → node_numbers 0 vs ≡ tab 0 f
unfolding node_numbers tab
assigned_none vs f = refl
