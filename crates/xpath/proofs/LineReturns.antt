-- A line and the lines of a text, return by return.
use Rattle.std.proofs.Common.{◌≡◌, refl, sym, ap, ◌∙◌, subst, true, false, List, [], ◌∷◌, ℕ, zero, suc, ◌+◌, ◌*◌, ◌<◌, length, drop, Option, None, Some, Result, Ok, Err, eqb, arith}
use Rattle.std.proofs.lemmas.Bool.{false≢true}
use Rattle.std.specs.Prelude.{unwrap_or}
use native.Mathlib.Nat.{not-suc-le-zero}
use Rattle.meaning.specs.Finite.{Yes, pick}
use Rattle.meaning.specs.Constraint.{is_same}
use Rattle.meaning.specs.Paths.{is_small, Path, from_root, from_here}
use Rattle.meaning.specs.PathRecords.{Sheet, next_taken, with_records, rooted, line_sheet, lines_sheet, record_bytes}
use Rattle.meaning.proofs.Tests.{pick_yes, pick_no, eq_yes, is_eq}
use Rattle.questions.specs.declared.Question.{Question}
use Rattle.questions.specs.declared.Question.TheVariants.{PathsForm}
use Rattle.theory.specs.PathReader.{path_at, steps_at, fuel, lines_at}
use Rattle.theory.specs.Reader.{Got, nothing, got, and_then, byte}
use Rattle.constraints.specs.declared.Kind.TheVariants as kind
use Rattle.sheet.specs.Bytes.{Bytes, root_in, numbered_in, put_in, rooted_in, Follows, For}
use Rattle.sheet.proofs.Follow.{numbered_follows, rooted_follows, put_follows}
use Rattle.steps.specs.Reading.{ReadTo, EndRead}
use Rattle.steps.proofs.Returns.{read_nothing, read_got, read_along, read_map, byte_yes, byte_no, behind, root_back}
use Rattle.xpath.specs.Reading.{LineRead, AllRead, LinesRead}

-- ---- a line

module _ (s : List ℕ) (b : Bytes) where
  pub line_here : (x : ℕ) (n : Bytes) (r : Option (List ℕ)) (c : Bytes) → x ≡ b.next → n ≡ numbered_in b
      → (byte s ≡ 47 → ⊥) → EndRead s x n r c → LineRead s b r c
  unfolding path_at line_sheet next_taken
  line_here x n r c i j w h v zero o l = absurd (not-suc-le-zero l)
  line_here x n r c i j w h v (suc k) o l =
      read_along (λ p. line_sheet p v) r c (pick_no _ _ (byte_no s 47 w))
      (read_map (λ p. line_sheet p v) from_here (steps_at k s) r c
      (h (next_taken v) v.next k (subst (Follows (next_taken v)) (sym j) (numbered_follows v b o))
      (λ z. i ∙ (o.few (omega arith)).0) (omega arith)))

  module _ (q : List ℕ) (i : s ≡ 47 ∷ q) (some : 0 < b.next) (x : ℕ) (u : Bytes) (d : x ≡ root_in u)
      (e : u ≡ rooted_in b) where
    root_follows : (v : Sheet) → Follows v b → Follows (rooted v) u
    root_follows v o = subst (Follows (rooted v)) (sym e) (rooted_follows v b o some)

    root_is : (v : Sheet) → Follows v b → For (rooted v) x (rooted v).root_at
    root_is v o z = d ∙ ap (λ (w : Option ℕ). unwrap_or w 0) ((root_follows v o).few z).1 ∙ root_back (rooted v).root_at

    pub line_alone : (c : Bytes) → is_small (byte q) ≡ false → c ≡ put_in kind.Same x 0 0 u → LineRead s b (Some q) c
    unfolding path_at line_sheet record_bytes
    line_alone c n f v zero o l = absurd (not-suc-le-zero l)
    line_alone c n f v (suc k) o l =
        let r = is_same (rooted v).root_at 0 in
        read_along (λ p. line_sheet p v) (Some q) c
        (pick_yes _ _ (byte_yes i) ∙ pick_no _ _ (λ y. false≢true
        (sym n ∙ sym (ap (λ (k : List ℕ). is_small (byte k)) (behind i)) ∙ y))) (
          ap (λ (k : List ℕ). Some k) (sym (behind i)),
          subst (Follows (with_records (r ∷ []) (rooted v))) (sym f)
              (put_follows (rooted v) u r kind.Same x 0 0 (root_follows v o)
              (λ h. ap (λ (z : ℕ). 4 ∷ z ∷ 0 ∷ 0 ∷ []) (sym (root_is v o h)))),
        )

    pub line_root : (r : Option (List ℕ)) (c : Bytes) → is_small (byte q) ≡ true → EndRead q x u r c → LineRead s b r c
    unfolding path_at line_sheet
    line_root r c n h v zero o l = absurd (not-suc-le-zero l)
    line_root r c n h v (suc k) o l =
        let z = ap length i in
        read_along (λ p. line_sheet p v) r c
        (pick_yes _ _ (byte_yes i)
        ∙ pick_yes _ _ (ap (λ (k : List ℕ). is_small (byte k)) (behind i) ∙ n)
        ∙ ap (λ (z : List ℕ). and_then (steps_at k z) λ ss q. got (from_root ss) q) (behind i))
        (read_map (λ p. line_sheet p v) from_root (steps_at k q) r c
        (h (rooted v) (rooted v).root_at k (root_follows v o) (root_is v o) (omega (arith, z, l))))

-- ---- the lines

abbrev pub Answer : Type 0
Answer = Result (Unit {0}) Question

module _ {A : Type 0} (f : A → Sheet) where
  pub all_along : (r : Answer) (c : Bytes) {g k : Got A} → g ≡ k → AllRead f k r c → AllRead f g r c
  all_along r c e h = subst (λ z. AllRead f z r c) (sym e) h

  pub all_map : {B : Type 0} (k : B → A) (g : Got B) (r : Answer) (c : Bytes) → AllRead (λ b. f (k b)) g r c
      → AllRead f (and_then g (λ b q. got (k b) q)) r c
  all_map k nothing r c h = h
  all_map k (got b q) r c h = h

module _ (s : List ℕ) (b : Bytes) where
  pub lines_end : (n : ℕ) → length s ≡ 0 → LinesRead s n b (Ok tt) b
  unfolding lines_at lines_sheet
  lines_end zero e v o = all_along (λ ps. lines_sheet ps v) (Ok tt) b (pick_yes _ _ (eq_yes e)) (refl, o)
  lines_end (suc n) e v o = all_along (λ ps. lines_sheet ps v) (Ok tt) b (pick_yes _ _ (eq_yes e)) (refl, o)

  module _ (m : length s ≡ 0 → ⊥) where
    some_left : ¬ Yes (eqb (length s) 0)
    some_left y = m (is_eq y)

    pub lines_over : (n : ℕ) → n ≡ 0 → LinesRead s n b (Err PathsForm) b
    unfolding lines_at
    lines_over zero e v o = all_along (λ ps. lines_sheet ps v) (Err PathsForm) b (pick_no _ _ some_left) refl
    lines_over (suc n) e v o = absurd (omega arith)

    abbrev after : ℕ → Got Path → Got (List Path)
    after n g =
        and_then g λ p r. pick (eqb (byte r) 10) (and_then (lines_at n (drop 1 r)) λ ps q. got (p ∷ ps) q) nothing

    line_answer : (r : Option (List ℕ)) (c : Bytes) → LineRead s b r c → (v : Sheet) → Follows v b
        → ReadTo (λ p. line_sheet p v) (path_at (fuel s) s) r c
    unfolding fuel
    line_answer r c h v o = h v (4 * length s + 4) o (omega arith)

    pub lines_none : (c : Bytes) → LineRead s b None c → (n : ℕ) → 0 < n → LinesRead s n b (Err PathsForm) c
    unfolding lines_at
    lines_none c h zero l v o = absurd (omega (arith, l))
    lines_none c h (suc n) l v o =
        let g = read_nothing (λ p. line_sheet p v) (path_at (fuel s) s) c (line_answer None c h v o) in
        all_along (λ ps. lines_sheet ps v) (Err PathsForm) c (pick_no _ _ some_left ∙ ap (after n) g) refl

    pub lines_open : (q : List ℕ) (c : Bytes) → LineRead s b (Some q) c → (byte q ≡ 10 → ⊥) → (n : ℕ) → 0 < n
        → LinesRead s n b (Err PathsForm) c
    unfolding lines_at
    lines_open q c h w zero l v o = absurd (omega (arith, l))
    lines_open q c h w (suc n) l v o =
        let g = read_got (λ p. line_sheet p v) (path_at (fuel s) s) q c (line_answer (Some q) c h v o) in
        let e = pick_no (and_then (lines_at n (drop 1 q)) λ ps q. got (g.0 ∷ ps) q) nothing (byte_no q 10 w) in
        all_along (λ ps. lines_sheet ps v) (Err PathsForm) c (pick_no _ _ some_left ∙ ap (after n) g.1 ∙ e) refl

    pub lines_more : (q : List ℕ) (c : Bytes) → LineRead s b (Some q) c → (n m : ℕ) → n ≡ suc m
        → (a : List ℕ) (r : Answer) (t : Bytes) → q ≡ 10 ∷ a
        → LinesRead a m c r t → LinesRead s n b r t
    unfolding lines_at lines_sheet
    lines_more q c h zero m l a r t k f v o = absurd (omega (arith, l))
    lines_more q c h (suc n) m l a r t k f v o =
        let g = read_got (λ p. line_sheet p v) (path_at (fuel s) s) q c (line_answer (Some q) c h v o) in
        let e : m ≡ n = omega (arith, l) in
        let w : LinesRead a n c r t = subst (λ (j : ℕ). LinesRead a j c r t) e f in
        all_along (λ ps. lines_sheet ps v) r t
        (pick_no _ _ some_left ∙ ap (after n) g.1 ∙ pick_yes _ _ (byte_yes k)
        ∙ ap (λ (a : List ℕ). and_then (lines_at n a) λ ps q. got (g.0 ∷ ps) q) (behind k))
        (all_map (λ ps. lines_sheet ps v) (λ ps. g.0 ∷ ps) (lines_at n a) r t (w (line_sheet g.0 v) g.2))
