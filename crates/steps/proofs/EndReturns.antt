-- The steps of a line, return by return.
use Rattle.std.proofs.Common.{◌≡◌, refl, sym, ap, ◌∙◌, subst, Bool, true, false, List, ◌∷◌, ℕ, zero, suc, ◌+◌, ◌*◌, ◌≤◌, ◌<◌, length, drop, Option, None, Some, Bor, eqb, arith}
use Rattle.std.proofs.lemmas.Bool.{false≢true}
use native.Mathlib.Nat.{not-suc-le-zero}
use Rattle.meaning.specs.Finite.{pick}
use Rattle.meaning.specs.Tree.{Var}
use Rattle.meaning.specs.Paths.{Steps, one, more, Step}
use Rattle.meaning.specs.PathRecords.{Sheet, next_taken, step_sheet, end_sheet}
use Rattle.meaning.proofs.Tests.{pick_yes, pick_no}
use Rattle.meaning.proofs.PathSheets.{step_next}
use Rattle.theory.specs.PathReader.{goes_on, move_at, steps_at, step_at, brackets_at}
use Rattle.theory.specs.Reader.{Got, nothing, got, and_then, byte}
use Rattle.theory.proofs.PathScan.{goes_on_brackets}
use Rattle.axes.specs.declared.Axis.{Axis}
use Rattle.axes.specs.Moving.{MoveRead}
use Rattle.sheet.specs.Bytes.{Bytes, numbered_in, move_in, Follows, For}
use Rattle.sheet.proofs.Follow.{numbered_follows}
use Rattle.steps.specs.Reading.{end_number, end_numbered, ReadTo, BracketsRead, StepRead, EndRead}
use Rattle.steps.proofs.Returns.{read_nothing, read_got, read_along, read_map, byte_yes, byte_no, behind, move_none, move_some, step_is}

abbrev IsGot : {A : Type 0} → Got A → Type 0
IsGot nothing = ⊥
IsGot (got a r) = Unit {0}

module _ (s : List ℕ) (x : ℕ) (b : Bytes) where
  abbrev rest : ℕ → Got Step → Got Steps
  rest k g =
      and_then g λ m q. pick (eqb (byte q) 47) (and_then (steps_at k (drop 1 q)) λ ss q. got (more m ss) q)
      (got (one m) q)

  pub end_not : (c : Bytes) → MoveRead (move_at s) None → EndRead s x b None c
  unfolding steps_at step_at
  end_not c h v X zero o p l = absurd (not-suc-le-zero l)
  end_not c h v X (suc zero) o p l = absurd (omega arith)
  end_not c h v X (suc (suc k)) o p l =
      read_along (λ ss. end_sheet ss X v) None c (ap
      (λ (g : Got Step). rest (suc k) (and_then g λ m t. brackets_at k m t)) (move_none (move_at s) h)) refl

  module _ (a : Axis) (t : ℕ) (e : Bor (List ℕ)) (h : MoveRead (move_at s) (Some (a, t, e)))
      (i : length e.now < length s) where
    -- what comes after the step is what was seen behind its brackets
    seen : (k : ℕ) (q : Step) (r : List ℕ) → step_at k s ≡ got q r → goes_on 0 e.now ≡ eqb (byte r) 47
    unfolding step_at
    seen zero q r g = absurd (subst IsGot (sym g) tt)
    seen (suc k) q r g =
        let z = move_some (move_at s) a t e h in
        goes_on_brackets k _ q e.now r (sym (ap (λ (w : Got Step). and_then w λ m t. brackets_at k m t) z.4) ∙ g)

    module _ (y : ℕ) (n u : Bytes) (f : u ≡ move_in a t x y n) (r : Option (List ℕ)) (c : Bytes)
        (w : BracketsRead e.now y u r c) where
      taken : StepRead s x y n r c
      taken = step_is s x y n a t e h i u r c f w

      -- the step's answer, by whether the line goes on: to a number of its own, or to 0
      module _ (v : Sheet) (X : Var) (k : ℕ) (o : Follows v b) (p : For v x X) (l : 4 * length s + 1 < k) where
        to_next : y ≡ b.next → n ≡ numbered_in b → ReadTo (λ m. step_sheet m X v.next (next_taken v)) (step_at k s) r c
        unfolding next_taken
        to_next d j =
            taken (next_taken v) X v.next k (subst (Follows (next_taken v)) (sym j) (numbered_follows v b o))
            (λ z. p (omega arith))
            (λ z. d ∙ (o.few (omega arith)).0) l

        to_end : y ≡ 0 → n ≡ b → ReadTo (λ m. step_sheet m X 0 v) (step_at k s) r c
        to_end d j = taken v X 0 k (subst (Follows v) (sym j) o) p (λ z. d) l

    -- the brackets were read, or not
    module _ (y : ℕ) (n u : Bytes) (f : u ≡ move_in a t x y n) (c : Bytes) where
      pub end_bad : BracketsRead e.now y u None c → (g : Bool) → y ≡ end_number g b → n ≡ end_numbered g b
          → EndRead s x b None c
      unfolding steps_at
      end_bad w g d j v X zero o p l = absurd (not-suc-le-zero l)
      end_bad w g d j v X (suc k) o p l = read_along (λ ss. end_sheet ss X v) None c (ap (rest k) (no_step g d j)) refl
        where
          no_step : (g : Bool) → y ≡ end_number g b → n ≡ end_numbered g b → step_at k s ≡ nothing
          no_step true d j =
              read_nothing (λ m. step_sheet m X v.next (next_taken v)) (step_at k s) c
              (to_next y n u f None c w v X k o p (omega arith) d j)
          no_step false d j =
              read_nothing (λ m. step_sheet m X 0 v) (step_at k s) c
              (to_end y n u f None c w v X k o p (omega arith) d j)

      module _ (q : List ℕ) (w : BracketsRead e.now y u (Some q) c) where
        pub end_one : (g : Bool) → goes_on 0 e.now ≡ g → y ≡ end_number g b → n ≡ end_numbered g b → (byte q ≡ 47 → ⊥)
            → EndRead s x b (Some q) c
        unfolding steps_at end_sheet
        end_one g is d j m v X zero o p l = absurd (not-suc-le-zero l)
        end_one true is d j m v X (suc k) o p l =
            let z = read_got (λ m. step_sheet m X v.next (next_taken v)) (step_at k s) q c
            (to_next y n u f (Some q) c w v X k o p (omega arith) d j) in
            absurd (byte_no q 47 m (sym (seen k z.0 q z.1) ∙ is))
        end_one false is d j m v X (suc k) o p l =
            let z = read_got (λ m. step_sheet m X 0 v) (step_at k s) q c
            (to_end y n u f (Some q) c w v X k o p (omega arith) d j) in
            read_along (λ ss. end_sheet ss X v) (Some q) c (ap (rest k) z.1 ∙ pick_no _ _ (byte_no q 47 m)) (refl, z.2)

        pub end_more : (g : Bool) → goes_on 0 e.now ≡ g → y ≡ end_number g b → n ≡ end_numbered g b
            → (m : List ℕ) (r : Option (List ℕ)) (t : Bytes)
            → q ≡ 47 ∷ m → length q ≤ length e.now → EndRead m y c r t → EndRead s x b r t
        unfolding steps_at end_sheet next_taken
        end_more g is d j m r t z i' f' v X zero o p l = absurd (not-suc-le-zero l)
        end_more false is d j m r t z i' f' v X (suc k) o p l =
            let g = read_got (λ m. step_sheet m X 0 v) (step_at k s) q c
            (to_end y n u f (Some q) c w v X k o p (omega arith) d j) in
            absurd (false≢true (sym is ∙ seen k g.0 q g.1 ∙ byte_yes z))
        end_more true is d j m r t z i' f' v X (suc k) o p l =
            let g = read_got (λ m. step_sheet m X v.next (next_taken v)) (step_at k s) q c
            (to_next y n u f (Some q) c w v X k o p (omega arith) d j) in
            let len = ap length z in
            read_along (λ ss. end_sheet ss X v) r t
            (ap (rest k) g.1 ∙ pick_yes _ _ (byte_yes z)
            ∙ ap (λ (a : List ℕ). and_then (steps_at k a) λ ss q. got (more g.0 ss) q) (behind z))
            (read_map (λ ss. end_sheet ss X v) (more g.0) (steps_at k m) r t
            (f' (step_sheet g.0 X v.next (next_taken v)) v.next k g.2
            (λ a. d ∙ (o.few (let m = step_next g.0 X v.next (next_taken v) in omega arith)).0)
            (omega (arith, len, i, i', l))))
