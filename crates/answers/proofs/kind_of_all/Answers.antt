-- `answers::kind_of_all` meets its contract: by the order of the records and by whether all are nodes.
use mathlib.Core.Path.{◌≡◌, refl, sym, ap, ◌∙◌}
use mathlib.Core.Bool.{Bool}
use mathlib.Core.List.{List}
use Prim.Native.Nat.{ℕ, ◌≤◌, ◌<◌, ◌+◌}
use native.Mathlib.Omega.{arith}
use lib.ListN.{length, get_or, drop, length-map}
use lib.Seq.{drop-length}
use borrow.Author.Tests.{eq-eqb, ne_eqb}
use Rattle.std.specs.List.{prefix_len, list_all}
use Rattle.std.specs.Prelude.{◌==◌}
use Rattle.std.proofs.lemmas.List.{drop-map}
use Rattle.meaning.specs.Finite.{pick}
use Rattle.meaning.specs.Files.{quad, all_places}
use Rattle.answers.specs.Judgement.{quads_of, leading}
use Rattle.answers.specs.Shorter.{kind_of_all}
use Rattle.answers.proofs.Steps.{leading_is, all_is}
use Rattle.answers.proofs.kind_of_all.Goals as goal

-- the records that do not lead, and whether they are places
module _ (rs ps : List (List ℕ)) {k : ℕ} (e : k ≡ prefix_len (λ (r : List ℕ). get_or r 0 0 == 1) rs)
    (b : ps ≡ drop k rs) (l : length ps + k ≡ length rs) where
  leads : leading (quads_of rs) ≡ k
  leads = sym (e ∙ leading_is rs)

  long : length (quads_of rs) ≡ length rs
  long = length-map rs (λ (r : List ℕ). quad (get_or r 0 0) (get_or r 1 0) (get_or r 2 0) (get_or r 3 0))

  asked : {o : Bool} → o ≡ list_all (λ (r : List ℕ). get_or r 0 0 == 2) ps
      → all_places (drop (leading (quads_of rs)) (quads_of rs)) ≡ o
  asked d = rw (leads, drop-map) (sym (d ∙ all_is ps ∙ ap (λ (r : List (List ℕ)). all_places (quads_of r)) b))

  nodes_alone : length ps < 1 → 1 ≡ kind_of_all (quads_of rs)
  unfolding kind_of_all pick all_places
  nodes_alone h =
      let z : leading (quads_of rs) ≡ length (quads_of rs) = omega (arith, leads, long) in
      rw (z, drop-length, eq-eqb (length (quads_of rs)) _ refl)

  with_places : {o : Bool} → 1 ≤ length ps → o ≡ list_all (λ (r : List ℕ). get_or r 0 0 == 2) ps
      → pick o 2 0 ≡ kind_of_all (quads_of rs)
  unfolding kind_of_all pick
  with_places h d =
      rw (asked d, ne_eqb (leading (quads_of rs)) (length (quads_of rs)) (λ z. omega (arith, leads, long)))

pub returns-in-empty : goal.returns-in-empty
returns-in-empty c =
    nodes_alone _ _ c.count_nodes.ensures.is c.split_at.ensures.back c.split_at.ensures.back_len c.in-empty.len_below

pub returns-in_default : goal.returns-in_default
unfolding pick
returns-in_default c = with_places _ _ c.count_nodes.ensures.is c.split_at.ensures.back c.split_at.ensures.back_len
    c.in_default.len_at_least
    (sym c.if-all_places.true ∙ c.all_places.ensures)

pub returns-in_default-2 : goal.returns-in_default-2
unfolding pick
returns-in_default-2 c = with_places _ _ c.count_nodes.ensures.is c.split_at.ensures.back c.split_at.ensures.back_len
    c.in_default.len_at_least
    (sym c.if-all_places.false ∙ c.all_places.ensures)
