-- The loop over x: what each row that was passed holds, and which rows are as they were.
use mathlib.Core.Path.{◌≡◌, refl, sym, ◌∙◌, subst}
use mathlib.Core.Logic.{◌≢◌, ⊎_elim}
use mathlib.Core.Bool.{true}
use mathlib.Core.List.{List}
use Prim.Native.Nat.{ℕ, ◌+◌, ◌^◌, ◌<◌, ◌≤◌}
use native.Mathlib.Nat.{not-suc-le-zero}
use native.Mathlib.Omega.{arith}
use lib.ListN.{set, length, length-set}
use lib.Seq.{get_or-set_same, get_or-set_other}
use lib.Bits.{bit_or}
use Rattle.meaning.specs.Finite.{Yes}
use Rattle.rowbits.specs.Bit.{bit}
use Rattle.tables.specs.Tables.{row}
use Rattle.tables.proofs.Loops.{below_cases}
use Rattle.tables.proofs.Members.{Passed, passed_all}
use Rattle.sharing.specs.Shares.{Clashing, share_at, stored, Taking, Taken, ShareOf, GroupClash, two_labels, Shared}
use Rattle.sharing.specs.declared.Share.{Share}
use Rattle.sharing.specs.declared.Shares.{Shares}

pub same_row : (t : List ℕ) (x v : ℕ) → x < 16 → length t ≡ 16 → row (set t x v) x ≡ v
same_row t x v h e = get_or-set_same t x v 0 (rw e h)

pub other_row : (t : List ℕ) (x v k : ℕ) → k ≢ x → row (set t x v) k ≡ row t k
other_row t x v k n = get_or-set_other t x k v 0 n

pub record Long (r : Shares) : Type 0 where
  pub child : length r.child ≡ 16
  pub parent : length r.parent ≡ 16
  pub differ : length r.differ ≡ 16
  pub label : length r.label ≡ 16

module _ (same : List ℕ) (t : Shares) (several : ℕ) where
  pub share_of : (x ys v : ℕ) (s : Share) → ys ≡ 0 → Taking same t (row same x) s → v ≡ bit_or several (2 ^ x)
      → Passed (Taken same t x v s) (row same x) ys → ShareOf same t several x s
  share_of x ys v s none w e p = record {
    taking = w;
    taken = subst (λ (i : ℕ). (j : ℕ) → Yes (bit (row same x) j) → Taken same t x i s j) e (passed_all _ _ ys p none);
  }

  pub record Passing (x : ℕ) (r : Shares) : Type 0 where
    pub long : Long r
    pub done : (k : ℕ) → k < x → ShareOf same t several k (share_at r k)
    pub rest : (k : ℕ) → x ≤ k → share_at r k ≡ share_at t k

  pub passing_none : Long t → Passing 0 t
  passing_none w = record { long = w; done = λ k h. absurd (not-suc-le-zero h); rest = λ k h. refl }

  pub passing_more : (x : ℕ) (r : Shares) (s : Share) → x < 16 → Passing x r → ShareOf same t several x s → Passing (x + 1) (stored r x s)
  passing_more x r s h w p = record {
    long = record {
      child = length-set r.child x s.child ∙ w.long.child;
      parent = length-set r.parent x s.parent ∙ w.long.parent;
      differ = length-set r.differ x s.differ ∙ w.long.differ;
      label = length-set r.label x s.label ∙ w.long.label;
    };
    done = λ k i. ⊎_elim (λ e. subst (λ (j : ℕ). ShareOf same t several j (share_at (stored r x s) j)) (sym e) (subst (ShareOf same t several x) (sym here) p))
        (λ l. subst (ShareOf same t several k) (sym (there k (λ e. omega arith))) (w.done k l)) (below_cases i);
    rest = λ k i. there k (λ e. omega arith) ∙ w.rest k (omega arith);
  }
    where
      here : share_at (stored r x s) x ≡ s
      here = rw (same_row r.child x s.child h w.long.child, same_row r.parent x s.parent h w.long.parent, same_row r.differ x s.differ h w.long.differ, same_row r.label x s.label h w.long.label) refl

      there : (k : ℕ) → k ≢ x → share_at (stored r x s) k ≡ share_at r k
      there k n = rw (other_row r.child x s.child k n, other_row r.parent x s.parent k n, other_row r.differ x s.differ k n, other_row r.label x s.label k n) refl

  pub shared_rows : (n x : ℕ) (r : Shares) → x ≤ n → n ≤ x → Passing x r → Shared n t same several r
  shared_rows n x r most least w = record {
    done = λ k h. w.done k (omega arith);
    rest = λ k h. w.rest k (omega arith);
  }

  -- what was taken so far has another label than y
  pub two_clash : (n x y : ℕ) (s : Share) → x < n → Taking same t (row same x) s → Yes (bit (row same x) y)
      → Clashing s.label (row t.label y) true
      → GroupClash n t same
  two_clash n x y s h w own k =
      let q = k.clash refl in
      let v = w.label q.0 in
      two_labels x v.0 y h v.1 own (λ e. q.0 (sym v.2 ∙ e)) q.1 (λ e. q.2 (sym v.2 ∙ e))
