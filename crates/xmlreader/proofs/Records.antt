-- Node records put one behind the other: the first i of them, then one more, then all. A record is four bytes, so that the next begins at four times its
-- number.
use mathlib.Core.Path.{◌≡◌, sym, ap, ◌∙◌, subst}
use mathlib.Core.List.{List, [], ◌∷◌, ◌++◌}
use Prim.Native.Nat.{ℕ, suc, ◌+◌, ◌*◌, ◌<◌}
use native.Mathlib.Nat.{add-zero}
use native.Mathlib.Numerals.{add-one}
use native.Mathlib.Omega.{arith}
use lib.ListN.{length, get_or, take}
use lib.Seq.{take-suc, take-length, length-take-le}
use Rattle.meaning.specs.ReadOff.{NodeRecord, blank_record, node_bytes}
use Rattle.lent.specs.Putting.{Put}
use Rattle.lent.proofs.Stores.{put_none, put_same, put_then}
use Rattle.xmlreader.specs.declared.gathered.Gathered.{Gathered}
use Rattle.xmlreader.specs.Gathering.{Columns, NodesWritten}

bytes_then : (i : ℕ) (vs ws : List NodeRecord) → node_bytes i (vs ++ ws) ≡ node_bytes i vs ++ node_bytes (i + length vs) ws
unfolding node_bytes
bytes_then i [] ws = ap (λ (k : ℕ). node_bytes k ws) (sym (add-zero i))
bytes_then i (v ∷ vs) ws =
    let e : suc i + length vs ≡ i + suc (length vs) = omega arith in
    ap (λ (bs : List ℕ). 1 ∷ i ∷ v.up ∷ v.label ∷ bs) (bytes_then (suc i) vs ws ∙ ap (λ (k : ℕ). node_bytes (suc i) vs ++ node_bytes k ws) e)

bytes_more : (vs : List NodeRecord) (i : ℕ) → i < length vs
    → node_bytes 0 (take i vs) ++ (1 ∷ i ∷ (get_or vs i blank_record).up ∷ (get_or vs i blank_record).label ∷ []) ≡ node_bytes 0 (take (i + 1) vs)
unfolding node_bytes
bytes_more vs i l =
    let v = get_or vs i blank_record in
    let n = length-take-le i vs (omega arith) in
    let e : i ≡ 0 + length (take i vs) = omega arith in
    ap (λ (k : ℕ). node_bytes 0 (take i vs) ++ (1 ∷ k ∷ v.up ∷ v.label ∷ [])) e
    ∙ sym (bytes_then 0 (take i vs) (v ∷ []))
    ∙ ap (node_bytes 0) (sym (take-suc vs i blank_record l) ∙ ap (λ (k : ℕ). take k vs) (sym (add-one i)))

module _ (g : Gathered) where
  -- the records of the first i nodes are put
  abbrev pub First : ℕ → List ℕ → List ℕ → Type 0
  First i before after = (vs : List NodeRecord) → length vs ≡ g.count → Columns g vs → Put before 0 (node_bytes 0 (take i vs)) (i * 4) after

  pub first_none : (l : List ℕ) → First 0 l l
  unfolding node_bytes
  first_none l vs e a = put_none l 0 (omega arith)

  pub first_more : (i : ℕ) (before mid after : List ℕ) {r : ℕ} → i < g.count → First i before mid → Put mid (i * 4) (1 ∷ i ∷ get_or g.ups i 0 ∷ get_or g.labels i 0 ∷ []) r after
      → First (i + 1) before after
  first_more i before mid after {r} l f p vs e a =
      let h = a i (omega arith) in
      let d = p.end in
      let m : r ≡ (i + 1) * 4 = omega arith in
      subst (λ (k : ℕ). Put before 0 (node_bytes 0 (take (i + 1) vs)) k after) m
      (put_same (ap (λ (k : ℕ). node_bytes 0 (take i vs) ++ (1 ∷ i ∷ k ∷ get_or g.labels i 0 ∷ [])) h.0
      ∙ ap (λ (k : ℕ). node_bytes 0 (take i vs) ++ (1 ∷ i ∷ (get_or vs i blank_record).up ∷ k ∷ [])) h.1 ∙ bytes_more vs i (omega arith))
      (put_then (f vs e a) p))

  pub first_all : (i : ℕ) (before after : List ℕ) → i ≡ g.count → First i before after → NodesWritten g before after
  first_all i before after e f vs l a =
      put_same (ap (λ (k : ℕ). node_bytes 0 (take k vs)) (e ∙ sym l) ∙ ap (node_bytes 0) (take-length vs))
      (subst (λ (k : ℕ). Put before 0 (node_bytes 0 (take i vs)) (k * 4) after) e (f vs l a))
