-- From settled tables to tables in which a and b have yet to become the same, and from tables in which nothing has to any more back to settled
-- ones. A caller cites `back_tested`: when below(b,a) follows from below(a,b).
use mathlib.Core.Path.{refl, sym, ◌∙◌, subst}
use mathlib.Core.Logic.{◌⊎◌, ⊎_elim}
use Rattle.std.specs.Prelude.{None, Some}
use mathlib.Core.List.Memᴰ
use mathlib.Core.List.{List, ◌∷◌, Memᴰ}
use Prim.Native.Nat.{ℕ, ◌^◌, ◌<◌, ◌≤◌}
use native.Mathlib.Nat.{le_trans}
use lib.Bits.{bit_or}
use Rattle.meaning.specs.Tree.{Var}
use Rattle.meaning.specs.Constraint.{Fact, below, leaf}
use Rattle.meaning.specs.Settled.{Settled, given, chain, leaf_below, self_below, one_parent, one_element, Clash}
use Rattle.meaning.specs.Finite.{Yes}
use Rattle.meaning.specs.ReadOff.{Decides}
use Rattle.meaning.proofs.Least.{settled_mono, settled_rules}
use Rattle.meaning.specs.Closed.{Within}
use Rattle.theory.proofs.Closure.{rules_decide}
use Rattle.rowbits.specs.Bit.{bit}
use Rattle.tables.specs.Tables.{row, has, Ready}
use Rattle.tables.specs.Rows.{meets}
use Rattle.tables.specs.declared.Facts.{Facts}
use Rattle.tables.proofs.Clashes.{free_clash, clash_free}
use Rattle.tables.specs.Free.{Free}
use Rattle.tables.proofs.Groups.{sharing_same, siblings_same}
use Rattle.grouping.specs.Rows.{In}
use Rattle.merge.specs.Rows.{WithGap}
use Rattle.grouping.specs.Grouping.{Awaits, held, waits, Held, Pending}
use Rattle.merge.specs.Merging.{OneElement, MergedOf}
use Rattle.tables.proofs.Bits.{or_l, or_r, one_has, meets_out, in_row}
use Rattle.merge.proofs.Loops.{two_case}
use Rattle.merge.proofs.Rounds.{none_left, narrow}

-- ---- below(a,b) entered

module _ (n : ℕ) (S : List Fact) (a b : Var) where
  more : {φ : Fact} → Settled n S φ → Settled n (below a b ∷ S) φ
  more h = settled_mono n S (below a b ∷ S) (λ φ m. Memᴰ.tail m) h

  entered : Settled n (below a b ∷ S) (below a b)
  entered = given (Memᴰ.head refl)

  pub back_held : Settled n S (below b a) → Settled n (below a b ∷ S) (below b a)
  back_held h = more h

  -- what is below a leaf is the same as the leaf
  pub back_leaf : (u : Var) → Settled n S (leaf u) → Settled n S (below u a) → Settled n (below a b ∷ S) (below b a)
  back_leaf u l h = chain (leaf_below (more l) (chain (more h) entered)) (more h)

  module _ (few : n ≤ 16) (ha : a < n) (hb : b < n) (f : Facts) (r : Ready n S f) (back : Settled n (below a b ∷ S) (below b a)) where
    abbrev pair : ℕ
    pair = bit_or (2 ^ a) (2 ^ b)

    together : (i j : Var) → In pair i → In pair j → Settled n (below a b ∷ S) (below i j)
    together i j u v =
        two_case (λ i. Settled n (below a b ∷ S) (below i j)) a b (two_case (λ j. Settled n (below a b ∷ S) (below a j)) a b (self_below ha) entered j v)
        (two_case (λ j. Settled n (below a b ∷ S) (below b j)) a b back (self_below hb) j v) i u

    start_complete : (φ : Fact) → Memᴰ φ (below a b ∷ S) → Awaits (In pair) (Held f) φ
    start_complete φ m =
        ⊎_elim (λ e. subst (Awaits (In pair) (Held f)) (sym e) (waits (or_l (2 ^ a) (2 ^ b) a (one_has a)) (or_r (2 ^ a) (2 ^ b) b (one_has b))))
        (λ k. held (r.decides.complete (given k))) (Memᴰ.cases_cons m)

    pub start : Pending n (below a b ∷ S) pair f
    start = record {
      standing = record {
        few = few;
        inside = λ φ m. ⊎_elim (λ e. subst (Within n) (sym e) (ha, hb)) (r.inside φ) (Memᴰ.cases_cons m);
        sound = λ φ u. more (r.decides.sound u);
        sharing = sharing_same n (Settled n S) (Held f) (λ φ h. r.decides.complete h) (λ φ u. r.decides.sound u) (settled_rules n S).sharing;
        apart = no_clash.apart;
        bare = no_clash.bare;
        mirrored = r.mirrored;
      };
      siblings = siblings_same n (Settled n S) (Held f) (λ φ h. r.decides.complete h) (λ φ u. r.decides.sound u) (settled_rules n S).siblings;
      clear = no_clash.clear;
      due = together;
      complete = start_complete;
      one_parent = λ x y z u v. held (r.decides.complete (one_parent (r.decides.sound u) (r.decides.sound v)));
    }
      where
        no_clash : Free (Held f)
        no_clash = clash_free n S f r.decides r.free

pub ready_top : (n : ℕ) (S : List Fact) (f : Facts) → Ready n S f → OneElement f
ready_top n S f r x y z a b c = r.decides.complete (one_element (r.decides.sound a) (r.decides.sound b) (r.decides.sound c))

-- ---- nothing has to become the same any more

module _ (n : ℕ) (T : List Fact) (f : Facts) (p : Pending n T 0 f) (top : OneElement f) where
  done_decides : Decides n T (has f)
  done_decides =
      rules_decide n T (has f) p.standing.sound (λ φ m. none_left f φ (p.complete φ m))
      (record { sharing = p.standing.sharing; siblings = p.siblings; one_parent = λ x y z u v. none_left f (below x y) (p.one_parent x y z u v); one_element = top })

  pub done : Ready n T f
  done = record {
    inside = p.standing.inside;
    free = free_clash n T f done_decides (record { apart = p.standing.apart; clear = p.clear; bare = p.standing.bare });
    decides = done_decides;
    mirrored = p.standing.mirrored;
  }

-- ---- the contract

module _ (n : ℕ) (f : Facts) (a b : Var) (few : n ≤ 16) (ha : a < n) (hb : b < n) (x : ℕ) (h : WithGap f.below (bit_or (2 ^ a) (2 ^ b)) x) where
  pub begun : (S : List Fact) → Ready n S f → Settled n (below a b ∷ S) (below b a) → Pending n (below a b ∷ S) x f
  begun S r back = narrow n (below a b ∷ S) f _ x h (start n S a b few ha hb f r back)

  pub merged_clash : ((T : List Fact) → Pending n T x f → Clash n T) → MergedOf n f a b None
  merged_clash k S r back = k _ (begun S r back)

  pub merged_well : (g : Facts) → OneElement g
      → ((T : List Fact) → Pending n T x f → Pending n T 0 g) → MergedOf n f a b (Some g)
  merged_well g top k S r back = done n _ g (k _ (begun S r back)) top

-- what a caller tests: below(b,a) is held, or a leaf is at or above a
pub back_tested : (n : ℕ) (S : List Fact) (f : Facts) (a b : Var) → n ≤ 16 → a < n → row f.above a < 65536 → Ready n S f
    → Yes (bit (row f.below b) a) ⊎ Yes (meets (row f.above a) f.leaf) → Settled n (below a b ∷ S) (below b a)
unfolding has
back_tested n S f a b few ha small r t =
    ⊎_elim (λ y. back_held n S a b (r.decides.sound {f = below b a} y))
    (λ y. let k = meets_out (row f.above a) f.leaf small y in
    back_leaf n S a b k.0 (r.decides.sound {f = leaf k.0} k.2)
    (r.decides.sound {f = below k.0 a} (sym (r.mirrored.ancestors k.0 a (in_row _ k.0 small k.1) (le_trans ha few)) ∙ k.1))) t
