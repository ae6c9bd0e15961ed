-- Which records pass questions 3 to 6, and which question refuses the others, by the room that their kind has for y.
use mathlib.Core.Path.{◌≡◌, refl, sym, ◌∙◌, subst}
use mathlib.Core.Logic.{◌≢◌}
use mathlib.Core.Bool.{Bool, true, false, not, beq, false≢true}
use Prim.Native.Nat.{ℕ, zero, suc, max, ◌≤◌, ◌<◌}
use native.Mathlib.Omega.{arith}
use lib.Dec.{eqb, leb}
use borrow.Author.Tests.{lt-leb, le-leb, eq-eqb, ne_eqb}
use Rattle.meaning.specs.Constraint.{Constraint, is_label, named}
use Rattle.meaning.specs.Finite.{pick, ◌and◌}
use Rattle.meaning.specs.Files.{Quad, quad, JudgedRecord, bad, good, judge_pair, judge_single, judge_label, judge_record}
use Rattle.meaning.specs.OnePass.{so_far, counting}
use Rattle.meaning.proofs.Records.{spelt, named_record}
use Rattle.constraints.specs.Judgement.{room_of, is_good}
use Rattle.constraints.proofs.ByKind.{Judges, no_kind, by_pair, by_single, by_label, judges}

-- what is not good is refused by the question that is left
left_over : (b : Bool) (c : Constraint) (q : ℕ) → is_good (pick b (good c) (bad q)) ≡ false → pick b (good c) (bad q) ≡ bad q
unfolding pick is_good
left_over true c q e = absurd (false≢true (sym e))
left_over false c q e = refl

either_refused : (b : Bool) (p q : ℕ) → is_good (pick b (bad p) (bad q)) ≡ false
unfolding pick is_good
either_refused true p q = refl
either_refused false p q = refl

is_tested : (b : Bool) (c : Constraint) (q : ℕ) → is_good (pick b (good c) (bad q)) ≡ b
unfolding pick is_good
is_tested true c q = refl
is_tested false c q = refl

-- a label has to be there
is_labelled : (l : ℕ) → leb 1 l ≡ not (eqb l 0)
is_labelled zero = refl
is_labelled (suc l) = rw (ne_eqb (suc l) 0 (λ e. omega arith)) (le-leb 1 (suc l) (omega arith))

unequal_false : (b : Bool) → not (beq false b) ≡ b
unequal_false true = refl
unequal_false false = refl

unequal_true : (b : Bool) → not (beq true b) ≡ not b
unequal_true true = refl
unequal_true false = refl

module _ (k x y l : ℕ) where
  -- ---- `passes`

  pub high_x : 15 < x → is_good (judge_record k x y l) ≡ false
  unfolding judge_pair judge_single judge_label pick ◌and◌ is_good
  high_x h = go (judges k x y l)
    where
      go : Judges k x y l → is_good (judge_record k x y l) ≡ false
      go (no_kind r e) = rw e
      go (by_pair c r n e) = rw (e, lt-leb x 15 h)
      go (by_single c r n e) = rw (e, lt-leb x 15 h)
      go (by_label r n e) = rw (e, lt-leb x 15 h)

  module _ (low : x ≤ 15) where
    pub no_room : room_of k ≤ y → is_good (judge_record k x y l) ≡ false
    unfolding judge_pair judge_single judge_label pick ◌and◌ is_good
    no_room h = go (judges k x y l)
      where
        go : Judges k x y l → is_good (judge_record k x y l) ≡ false
        go (no_kind r e) = rw e
        go (by_pair c r n e) = rw (e, le-leb x 15 low, lt-leb y 15 (omega arith))
        go (by_single c r n e) = rw (e, le-leb x 15 low, ne_eqb y 0 (λ z. omega arith))
        go (by_label r n e) = rw (e, le-leb x 15 low, ne_eqb y 0 (λ z. omega arith)) (either_refused (leb 1 l) 6 5)

    pub with_room : y < room_of k → not (beq (eqb k 8) (eqb l 0)) ≡ is_good (judge_record k x y l)
    unfolding judge_pair judge_single judge_label pick ◌and◌ is_good
    with_room h = go (judges k x y l)
      where
        go : Judges k x y l → not (beq (eqb k 8) (eqb l 0)) ≡ is_good (judge_record k x y l)
        go (no_kind r e) = absurd (omega arith)
        go (by_pair c r n e) = rw (e, ne_eqb k 8 n, le-leb x 15 low, le-leb y 15 (omega arith)) (unequal_false (eqb l 0) ∙ sym (is_tested (eqb l 0) _ 6))
        go (by_single c r n e) = rw (e, ne_eqb k 8 n, le-leb x 15 low, eq-eqb y 0 (omega arith)) (unequal_false (eqb l 0) ∙ sym (is_tested (eqb l 0) _ 6))
        go (by_label r n e) =
            rw (e, eq-eqb k 8 n, le-leb x 15 low, eq-eqb y 0 (omega arith)) (unequal_true (eqb l 0) ∙ sym (is_labelled l) ∙ sym (is_tested (leb 1 l) _ 5))

  -- ---- `question`

  pub asks_3 : room_of k < 1 → judge_record k x y l ≡ bad 3
  asks_3 h = go (judges k x y l)
    where
      go : Judges k x y l → judge_record k x y l ≡ bad 3
      go (no_kind r e) = e
      go (by_pair c r n e) = absurd (omega arith)
      go (by_single c r n e) = absurd (omega arith)
      go (by_label r n e) = absurd (omega arith)

  module _ (some : 1 ≤ room_of k) where
    pub asks_4_of_x : 15 < x → judge_record k x y l ≡ bad 4
    unfolding judge_pair judge_single judge_label pick ◌and◌
    asks_4_of_x h = go (judges k x y l)
      where
        go : Judges k x y l → judge_record k x y l ≡ bad 4
        go (no_kind r e) = absurd (omega arith)
        go (by_pair c r n e) = rw (e, lt-leb x 15 h)
        go (by_single c r n e) = rw (e, lt-leb x 15 h)
        go (by_label r n e) = rw (e, lt-leb x 15 h)

    module _ (low : x ≤ 15) where
      pub asks_4_of_y : 1 < room_of k → 15 < y → judge_record k x y l ≡ bad 4
      unfolding judge_pair pick ◌and◌
      asks_4_of_y r h = go (judges k x y l)
        where
          go : Judges k x y l → judge_record k x y l ≡ bad 4
          go (no_kind q e) = absurd (omega arith)
          go (by_pair c q n e) = rw (e, le-leb x 15 low, lt-leb y 15 h)
          go (by_single c q n e) = absurd (omega arith)
          go (by_label q n e) = absurd (omega arith)

      pub asks_5 : k ≡ 8 → l ≡ 0 → judge_record k x y l ≡ bad 5
      unfolding judge_label pick
      asks_5 s z = go (judges k x y l)
        where
          go : Judges k x y l → judge_record k x y l ≡ bad 5
          go (no_kind q e) = absurd (omega arith)
          go (by_pair c q n e) = absurd (n s)
          go (by_single c q n e) = absurd (n s)
          go (by_label q n e) = rw (e, le-leb x 15 low, lt-leb 1 l (omega arith))

      -- what else is not good has an unused byte that is not 0
      module _ (not-Good : is_good (judge_record k x y l) ≡ false) where
        pub asks_6 : (1 < room_of k → y ≤ 15) → (room_of k ≤ 1 → k ≡ 8 → l ≢ 0) → judge_record k x y l ≡ bad 6
        unfolding judge_pair judge_single judge_label pick ◌and◌
        asks_6 f g = go (judges k x y l)
          where
            go : Judges k x y l → judge_record k x y l ≡ bad 6
            go (no_kind q e) = absurd (omega arith)
            go (by_pair c q n e) =
                let d : judge_record k x y l ≡ pick (eqb l 0) (good (c x y)) (bad 6) = rw (e, le-leb x 15 low, le-leb y 15 (f (omega arith))) in
                d ∙ left_over (eqb l 0) (c x y) 6 (rw d at not-Good)
            go (by_single c q n e) =
                let d : judge_record k x y l ≡ pick (eqb y 0 and eqb l 0) (good (c x)) (bad 6) = rw (e, le-leb x 15 low) in
                d ∙ left_over (eqb y 0 and eqb l 0) (c x) 6 (rw d at not-Good)
            go (by_label q n e) =
                let d : judge_record k x y l ≡ pick (eqb y 0) (good (is_label x l)) (bad 6) = rw (e, le-leb x 15 low, is_labelled l, ne_eqb l 0 (g (omega arith) n)) in
                d ∙ left_over (eqb y 0) (is_label x l) 6 (rw d at not-Good)

-- ---- a record that passes

-- its x and y are variables, and it names those up to the higher: an unused y is 0
pub record GoodRecord (n k x y l : ℕ) : Type 0 where
  pub low_x : x ≤ 15
  pub low_y : y ≤ 15
  pub counts : counting n (judge_record k x y l) ≡ so_far (max n (suc (max x y)))

pub good_record : (n k x y l : ℕ) → is_good (judge_record k x y l) ≡ true → GoodRecord n k x y l
unfolding is_good counting
good_record n k x y l e = go (judge_record k x y l) refl e
  where
    go : (j : JudgedRecord) → judge_record k x y l ≡ j → is_good j ≡ true → GoodRecord n k x y l
    go (bad q) d z = absurd (false≢true z)
    go (good c) d z =
        let s = spelt (quad k x y l) d in
        let m : named c ≡ suc (max x y) = subst (λ (q : Quad). named c ≡ suc (max q.second q.third)) (sym s.0) (named_record c) in
        let f : named c ≤ 16 = s.1.few in
        record { low_x = omega arith; low_y = omega arith; counts = rw (d, m) }
