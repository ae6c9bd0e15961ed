-- The functions that change a sheet, by their cases.
use Rattle.std.proofs.Common.{◌≡◌, refl, sym, ap, ◌∙◌, Bool, true, false, List, [], ◌∷◌, ℕ, ◌+◌, ◌≤◌, ◌<◌, Option, None, Some, arith}
use Rattle.std.specs.Prelude.{unwrap_or}
use lib.Seq.{sets}
use lib.Dec.{leb}
use Rattle.meaning.specs.Finite.{pick}
use Rattle.meaning.proofs.Tests.{pick_yes, pick_no, lt_yes, is_lt, le_yes, is_le, eq_yes, is_eq}
use Rattle.constraints.specs.declared.Kind.{Kind}
use Rattle.constraints.specs.declared.Kind.TheVariants as kind
use Rattle.constraints.specs.Record.{kind_number}
use Rattle.axes.specs.declared.Axis.{Axis}
use Rattle.sheet.specs.Bytes.{Bytes, numbered_in, put_in, root_in, root_given, rooted_in, axis_in, move_in}

abbrev with_root : ℕ → Bytes → Bytes
with_root x n = record { records = n.records; length = n.length; next = n.next; root = Some x }

module _ (b : Bytes) where
  pub numbered_yes : b.next < 17
      → record { records = b.records; length = b.length; next = b.next + 1; root = b.root } ≡ numbered_in b
  unfolding numbered_in
  numbered_yes h = sym (pick_yes _ _ (lt_yes h))

  pub numbered_no : 17 ≤ b.next → b ≡ numbered_in b
  unfolding numbered_in
  numbered_no h = sym (pick_no _ _ (λ y. let l : b.next < 17 = is_lt y in omega arith))

  module _ (k : Kind) (x y l : ℕ) where
    abbrev stored : List ℕ → ℕ → Bytes
    stored rs n = record { records = rs; length = n; next = b.next; root = b.root }

    pub put_more : (rs : List ℕ) (n : ℕ) → rs ≡ sets b.records b.length (kind_number k ∷ x ∷ y ∷ l ∷ [])
        → n ≡ b.length + 4
        → b.length + 4 ≤ 192 → stored rs n ≡ put_in k x y l b
    unfolding put_in
    put_more rs n e d h =
        ap (λ (q : List ℕ). stored q n) e ∙ ap (λ (m : ℕ). stored
        (sets b.records b.length (kind_number k ∷ x ∷ y ∷ l ∷ [])) m) d
        ∙ sym (pick_yes _ _ (le_yes h))

    pub put_full : 192 < b.length + 4 → b ≡ put_in k x y l b
    unfolding put_in
    put_full h = sym (pick_no _ _ (λ z. let g : b.length + 4 ≤ 192 = is_le z in omega arith))

    -- a record more leaves the root as it is
    pub put_root : (put_in k x y l b).root ≡ b.root
    unfolding put_in pick
    put_root = either (leb (b.length + 4) 192) _ b refl
      where
        either : (t : Bool) (p q : Bytes) → p.root ≡ q.root → (pick t p q).root ≡ q.root
        either true p q e = e
        either false p q e = refl

  pub root_some : (r : ℕ) → b.root ≡ Some r → b ≡ rooted_in b
  unfolding rooted_in
  root_some r e = sym (ap (λ (q : Option ℕ). root_given q b) e)

  module _ (x : ℕ) (n d : Bytes) (p : d ≡ put_in kind.Root x 0 0 (with_root x n)) where
    pub root_new : b.root ≡ None → x ≡ b.next → n ≡ numbered_in b → d ≡ rooted_in b
    unfolding rooted_in
    root_new e i j =
        p ∙ ap (λ (q : Bytes). put_in kind.Root x 0 0 (with_root x q)) j
        ∙ ap (λ (k : ℕ). put_in kind.Root k 0 0 (with_root k (numbered_in b))) i
        ∙ sym (ap (λ (q : Option ℕ). root_given q b) e)

  module _ (a : Axis) (t x y : ℕ) {c : Bytes} (e : c ≡ axis_in a x y b) where
    pub move_any : t ≡ 42 → c ≡ move_in a t x y b
    unfolding move_in
    move_any h = e ∙ sym (pick_yes _ _ (eq_yes h))

    pub move_letter : {d : Bytes} → (t ≡ 42 → ⊥) → d ≡ put_in kind.Label y 0 t c → d ≡ move_in a t x y b
    unfolding move_in
    move_letter h f = f ∙ ap (put_in kind.Label y 0 t) e ∙ sym (pick_no _ _ (λ z. h (is_eq z)))

pub root_value : (x : ℕ) (n d : Bytes) → d ≡ put_in kind.Root x 0 0 (with_root x n) → x ≡ root_in d
root_value x n d p =
    sym (ap (λ (q : Bytes). root_in q) p ∙ ap (λ (q : Option ℕ). unwrap_or q 0)
    (put_root (with_root x n) kind.Root x 0 0))
