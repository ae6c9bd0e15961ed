-- Laws of a list arranged by a relation b: it has the same members and the same length, and where b is irreflexive and transitive no member
-- stands after one that it goes before. Which member is next, as code goes that takes them one by one.
use mathlib.Core.Path.{◌≡◌, refl, sym, ap, ◌∙◌, subst}
use mathlib.Core.Logic.{◌⊎◌, inl, inr, ⊎_elim}
use mathlib.Core.Bool.{Bool}
use mathlib.Core.List.Memᴰ
use mathlib.Core.List.{List, [], ◌∷◌, ◌++◌, Memᴰ}
use Prim.Native.Nat.{ℕ, zero, suc, ◌+◌, ◌-◌, ◌≤◌, ◌<◌, zero-le, suc-le-suc}
use native.Mathlib.Nat.{le_of_suc-le-suc, zero-lt-suc}
use native.Mathlib.Decide.{dec_lt}
use native.Mathlib.Omega.{arith}
use lib.ListN.{length, get_or, length-append, get_or-append}
use lib.Seq.{get_or-append-add}
use Rattle.meaning.specs.Finite.{Yes, neg, any_in, found, without, arranged}
use Rattle.meaning.proofs.Tests.{clash, yes_case, no_neg, pick_yes, pick_no}
use Rattle.meaning.proofs.Lists.{any_in_intro, any_in_elim, get_d_mem}

-- ---- the first member that passes a test, and the list without it

module _ (p : ℕ → Bool) where
  found_yes : (x : ℕ) (xs : List ℕ) → Yes (p x) → (found p (x ∷ xs) ≡ x ∷ []) × (without p (x ∷ xs) ≡ xs)
  unfolding found without
  found_yes x xs y = (pick_yes _ _ y, pick_yes _ _ y)

  found_no : (x : ℕ) (xs : List ℕ) → Yes (neg (p x)) → (found p (x ∷ xs) ≡ found p xs) × (without p (x ∷ xs) ≡ x ∷ without p xs)
  unfolding found without
  found_no x xs z = (pick_no _ _ (λ y. clash y z), pick_no _ _ (λ y. clash y z))

  split_in : (xs : List ℕ) (x : ℕ) → Memᴰ x xs → Memᴰ x (found p xs) ⊎ Memᴰ x (without p xs)
  split_in [] x m = absurd (Memᴰ.not-nil m)
  split_in (g ∷ gs) x m =
      ⊎_elim
      (λ y. let w = found_yes g gs y in
      ⊎_elim (λ e. inl (subst (Memᴰ x) (sym w.0) (Memᴰ.head e))) (λ k. inr (subst (Memᴰ x) (sym w.1) k)) (Memᴰ.cases_cons m))
      (λ z. let w = found_no g gs z in
      ⊎_elim
      (λ e. inr (subst (Memᴰ x) (sym w.1) (Memᴰ.head e)))
      (λ k. ⊎_elim (λ q. inl (subst (Memᴰ x) (sym w.0) q)) (λ q. inr (subst (Memᴰ x) (sym w.1) (Memᴰ.tail q))) (split_in gs x k))
      (Memᴰ.cases_cons m))
      (yes_case (p g))

  found_out : (xs : List ℕ) (x : ℕ) → Memᴰ x (found p xs) → Memᴰ x xs × Yes (p x)
  unfolding found
  found_out [] x m = absurd (Memᴰ.not-nil m)
  found_out (g ∷ gs) x m =
      ⊎_elim
      (λ y. let e : x ≡ g = Memᴰ.eq_of_singleton (subst (Memᴰ x) (found_yes g gs y).0 m) in (Memᴰ.head e, subst (λ (i : ℕ). Yes (p i)) (sym e) y))
      (λ z. let w = found_out gs x (subst (Memᴰ x) (found_no g gs z).0 m) in (Memᴰ.tail w.0, w.1))
      (yes_case (p g))

  without_out : (xs : List ℕ) (x : ℕ) → Memᴰ x (without p xs) → Memᴰ x xs
  unfolding without
  without_out [] x m = m
  without_out (g ∷ gs) x m =
      ⊎_elim
      (λ y. Memᴰ.tail (subst (Memᴰ x) (found_yes g gs y).1 m))
      (λ z. ⊎_elim Memᴰ.head (λ k. Memᴰ.tail (without_out gs x k)) (Memᴰ.cases_cons (subst (Memᴰ x) (found_no g gs z).1 m)))
      (yes_case (p g))

  split_length : (xs : List ℕ) → length (found p xs) + length (without p xs) ≡ length xs
  unfolding found without
  split_length [] = refl
  split_length (g ∷ gs) =
      ⊎_elim
      (λ y. let w = found_yes g gs y in let a = ap length w.0 in let b = ap length w.1 in omega arith)
      (λ z. let w = found_no g gs z in let a = ap length w.0 in let b = ap length w.1 in let c = split_length gs in omega arith)
      (yes_case (p g))

  -- some member passes
  found_one : (xs : List ℕ) (x : ℕ) → Memᴰ x xs → Yes (p x) → (g : ℕ) × (found p xs ≡ g ∷ [])
  found_one [] x m t = absurd (Memᴰ.not-nil m)
  found_one (g ∷ gs) x m t =
      ⊎_elim
      (λ y. (g, (found_yes g gs y).0))
      (λ z. let w = ⊎_elim (λ e. clash (subst (λ (i : ℕ). Yes (p i)) e t) z) (λ k. found_one gs x k t) (Memᴰ.cases_cons m) in (w.0, (found_no g gs z).0 ∙ w.1))
      (yes_case (p g))

  -- the first that passes stands behind those that do not
  found_behind : (ys zs : List ℕ) (x : ℕ) → ((y : ℕ) → Memᴰ y ys → ¬ Yes (p y)) → Yes (p x)
      → (found p (ys ++ x ∷ zs) ≡ x ∷ []) × (without p (ys ++ x ∷ zs) ≡ ys ++ zs)
  found_behind [] zs x none t = found_yes x zs t
  found_behind (y ∷ ys) zs x none t =
      let a = found_no y (ys ++ x ∷ zs) (no_neg (none y (Memᴰ.head refl))) in
      let b = found_behind ys zs x (λ w m. none w (Memᴰ.tail m)) t in
      (a.0 ∙ b.0, a.1 ∙ ap (λ (ws : List ℕ). y ∷ ws) b.1)

-- ---- the same members, and as many

module _ (b : ℕ → ℕ → Bool) where
  abbrev free : List ℕ → ℕ → Bool
  free gs g = neg (any_in gs (λ w. b w g))

  pub arranged_in : (k : ℕ) (xs : List ℕ) (x : ℕ) → Memᴰ x xs → Memᴰ x (arranged b k xs)
  unfolding arranged
  arranged_in zero xs x m = m
  arranged_in (suc k) xs x m =
      ⊎_elim
      (λ q. Memᴰ.append_left _ q)
      (λ q. Memᴰ.append_right (found (free xs) xs) (arranged_in k (without (free xs) xs) x q))
      (split_in (free xs) xs x m)

  pub arranged_out : (k : ℕ) (xs : List ℕ) (x : ℕ) → Memᴰ x (arranged b k xs) → Memᴰ x xs
  unfolding arranged
  arranged_out zero xs x m = m
  arranged_out (suc k) xs x m =
      ⊎_elim
      (λ q. (found_out (free xs) xs x q).0)
      (λ q. without_out (free xs) xs x (arranged_out k (without (free xs) xs) x q))
      (Memᴰ.append_cases (found (free xs) xs) m)

  pub length_arranged : (k : ℕ) (xs : List ℕ) → length (arranged b k xs) ≡ length xs
  unfolding arranged
  length_arranged zero xs = refl
  length_arranged (suc k) xs =
      length-append (found (free xs) xs) (arranged b k (without (free xs) xs))
      ∙ (let a = length_arranged k (without (free xs) xs) in let c = split_length (free xs) xs in omega arith)

  -- ---- the next is the first that none goes before, and the others are arranged without it

  one_more : (ys zs : List ℕ) (x : ℕ) → length (ys ++ x ∷ zs) ≡ suc (length (ys ++ zs))
  one_more ys zs x = let a = length-append ys (x ∷ zs) in let c = length-append ys zs in omega arith

  pub arranged_next : (ys zs : List ℕ) (x : ℕ) → ((w : ℕ) → Memᴰ w (ys ++ x ∷ zs) → ¬ Yes (b w x))
      → ((y : ℕ) → Memᴰ y ys → (w : ℕ) × Memᴰ w (ys ++ x ∷ zs) × Yes (b w y))
      → arranged b (length (ys ++ x ∷ zs)) (ys ++ x ∷ zs) ≡ x ∷ arranged b (length (ys ++ zs)) (ys ++ zs)
  unfolding arranged
  arranged_next ys zs x none some =
      ap (λ (k : ℕ). arranged b k (ys ++ x ∷ zs)) (one_more ys zs x)
      ∙ ap (λ (ws : List ℕ). ws ++ arranged b (length (ys ++ zs)) (without (free (ys ++ x ∷ zs)) (ys ++ x ∷ zs))) next.0
      ∙ ap (λ (ws : List ℕ). x ∷ arranged b (length (ys ++ zs)) ws) next.1
    where
      next : (found (free (ys ++ x ∷ zs)) (ys ++ x ∷ zs) ≡ x ∷ []) × (without (free (ys ++ x ∷ zs)) (ys ++ x ∷ zs) ≡ ys ++ zs)
      next =
          found_behind (free (ys ++ x ∷ zs)) ys zs x
          (λ y m z. let w = some y m in clash (any_in_intro (λ v. b v y) w.1 w.2) z)
          (no_neg (λ t. let w = any_in_elim (ys ++ x ∷ zs) (λ v. b v x) t in none w.0 w.1 w.2))

  -- ---- in order

  -- no member stands after one that it goes before
  abbrev pub InOrder : List ℕ → Type 0
  InOrder xs = (i j : ℕ) → i < length xs → j < length xs → Yes (b (get_or xs i 0) (get_or xs j 0)) → i < j

  pub in_order_append : (xs ys : List ℕ) → InOrder xs → InOrder ys → ((x y : ℕ) → Memᴰ x xs → Memᴰ y ys → ¬ Yes (b y x)) → InOrder (xs ++ ys)
  in_order_append xs ys f g none i j li lj t = go (dec_lt i (length xs)) (dec_lt j (length xs))
    where
      first : (k : ℕ) → k < length xs → get_or (xs ++ ys) k 0 ≡ get_or xs k 0
      first k h = get_or-append xs ys 0 k h

      rest : (k : ℕ) → k < length (xs ++ ys) → ¬ (k < length xs) → k - length xs < length ys
      rest k q h = omega (arith, length-append xs ys)

      second : (k : ℕ) → ¬ (k < length xs) → get_or (xs ++ ys) k 0 ≡ get_or ys (k - length xs) 0
      second k h =
          let e : length xs + (k - length xs) ≡ k = omega arith in
          ap (λ (m : ℕ). get_or (xs ++ ys) m 0) (sym e) ∙ get_or-append-add xs ys (k - length xs) 0

      go : Dec (i < length xs) → Dec (j < length xs) → i < j
      go (yes p) (yes q) = f i j p q (subst (λ (v : ℕ). Yes (b (get_or xs i 0) v)) (first j q) (subst (λ (u : ℕ). Yes (b u (get_or (xs ++ ys) j 0))) (first i p) t))
      go (yes p) (no q) = omega arith
      go (no p) (yes q) =
          absurd (none (get_or xs j 0) (get_or ys (i - length xs) 0) (get_d_mem xs j q) (get_d_mem ys (i - length xs) (rest i li p))
          (subst (λ (v : ℕ). Yes (b (get_or ys (i - length xs) 0) v)) (first j q) (subst (λ (u : ℕ). Yes (b u (get_or (xs ++ ys) j 0))) (second i p) t)))
      go (no p) (no q) =
          let l = g (i - length xs) (j - length xs) (rest i li p) (rest j lj q)
          (subst (λ (v : ℕ). Yes (b (get_or ys (i - length xs) 0) v)) (second j q) (subst (λ (u : ℕ). Yes (b u (get_or (xs ++ ys) j 0))) (second i p) t)) in
          omega arith

  module _ (not_self : (v : ℕ) → ¬ Yes (b v v)) (chains : (u v w : ℕ) → Yes (b u v) → Yes (b v w) → Yes (b u w)) where
    -- a list with a member has one that none goes before: that of the rest, or else the first
    free_one : (x : ℕ) (xs : List ℕ) → (v : ℕ) × Memᴰ v (x ∷ xs) × ((w : ℕ) → Memᴰ w (x ∷ xs) → ¬ Yes (b w v))
    free_one x [] = (x, Memᴰ.head refl, λ w m t. not_self x (subst (λ (i : ℕ). Yes (b i x)) (Memᴰ.eq_of_singleton m) t))
    free_one x (y ∷ ys) = by (free_one y ys)
      where
        by : (v : ℕ) × Memᴰ v (y ∷ ys) × ((w : ℕ) → Memᴰ w (y ∷ ys) → ¬ Yes (b w v))
            → (v : ℕ) × Memᴰ v (x ∷ y ∷ ys) × ((w : ℕ) → Memᴰ w (x ∷ y ∷ ys) → ¬ Yes (b w v))
        by r =
            ⊎_elim
            (λ t. (
              x,
              Memᴰ.head refl,
              λ w m q. ⊎_elim
                  (λ e. not_self x (subst (λ (i : ℕ). Yes (b i x)) e q))
                  (λ k. r.2 w k (chains w x r.0 q t))
                  (Memᴰ.cases_cons m),
            ))
            (λ z. (
              r.0,
              Memᴰ.tail r.1,
              λ w m q. ⊎_elim
                  (λ e. clash (subst (λ (i : ℕ). Yes (b i r.0)) e q) z)
                  (λ k. r.2 w k q)
                  (Memᴰ.cases_cons m),
            ))
            (yes_case (b x r.0))

    pub some_free : (xs : List ℕ) (x : ℕ) → Memᴰ x xs → (v : ℕ) × Memᴰ v xs × ((w : ℕ) → Memᴰ w xs → ¬ Yes (b w v))
    some_free [] x m = absurd (Memᴰ.not-nil m)
    some_free (y ∷ ys) x m = free_one y ys

    cons_order : (x : ℕ) (zs : List ℕ) → InOrder zs → ((w : ℕ) → Memᴰ w zs → ¬ Yes (b w x)) → InOrder (x ∷ zs)
    cons_order x zs f none zero zero p q t = absurd (not_self x t)
    cons_order x zs f none zero (suc j) p q t = zero-lt-suc j
    cons_order x zs f none (suc i) zero p q t = absurd (none _ (get_d_mem zs i (le_of_suc-le-suc p)) t)
    cons_order x zs f none (suc i) (suc j) p q t = suc-le-suc (f i j (le_of_suc-le-suc p) (le_of_suc-le-suc q) t)

    pub arranged_order : (k : ℕ) (xs : List ℕ) → length xs ≤ k → InOrder (arranged b k xs)
    unfolding arranged found without
    arranged_order zero xs l = λ i j p q t. absurd (omega arith)
    arranged_order (suc k) [] l = arranged_order k [] zero-le
    arranged_order (suc k) (x ∷ xs) l =
        let r = free_one x xs in
        let g = found_one (free (x ∷ xs)) (x ∷ xs) r.0 r.1 (no_neg (λ t. let w = any_in_elim (x ∷ xs) _ t in r.2 w.0 w.1 w.2)) in
        let n = split_length (free (x ∷ xs)) (x ∷ xs) in
        let o = ap length g.1 in
        let own = (found_out (free (x ∷ xs)) (x ∷ xs) g.0 (subst (Memᴰ g.0) (sym g.1) (Memᴰ.head refl))).1 in
        subst (λ (f : List ℕ). InOrder (f ++ arranged b k (without (free (x ∷ xs)) (x ∷ xs)))) (sym g.1)
        (cons_order g.0 (arranged b k (without (free (x ∷ xs)) (x ∷ xs))) (arranged_order k (without (free (x ∷ xs)) (x ∷ xs)) (omega arith))
        (λ w m t. clash (any_in_intro (λ v. b v g.0) (without_out (free (x ∷ xs)) (x ∷ xs) w (arranged_out k (without (free (x ∷ xs)) (x ∷ xs)) w m)) t) own))
