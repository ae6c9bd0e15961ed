-- What `paths` writes is the text of the answer that is promised. The answer asks of the buffer only that it is long enough.
use mathlib.Core.Path.{◌≡◌, refl, sym, subst, ◌∙◌}
use mathlib.Core.List.{List}
use Prim.Native.Nat.{ℕ, ◌≤◌}
use native.Mathlib.Omega.{arith}
use lib.ListN.{length, length-replicate}
use Rattle.meaning.specs.Ascii.{ascii}
use Rattle.meaning.specs.Finite.{pick}
use Rattle.meaning.specs.Files.{refused, judge}
use Rattle.meaning.specs.Results.{Fill, fill_refused}
use Rattle.meaning.specs.Text.{before_last, digits_of, decimal, numbered, fill_text}
use Rattle.meaning.proofs.Tests.{pick_yes, le_yes}
use Rattle.theory.specs.PathReader.{read_paths}
use Rattle.theory.proofs.PathPromise.{read_keeps}
use Rattle.putting.specs.Fronts.{Fronted}
use Rattle.text.specs.Printing.{records_room, PathsAs}

read_alike : (text b c : List ℕ) → 1024 ≤ length b → 1024 ≤ length c → read_paths text b ≡ read_paths text c
unfolding read_paths
read_alike text b c l m = pick_yes _ _ (le_yes l) ∙ sym (pick_yes _ _ (le_yes m))

pub printed : (text before : List ℕ) (k : ℕ) (last : List ℕ) → 1024 ≤ length before → Fronted (fill_text (read_paths text before)) before k last → PathsAs text before k last
printed text before k last l f =
    let e : length records_room ≡ 1024 = length-replicate {A = ℕ} 1024 0 in
    record {
      output = subst (λ (q : Fill). Fronted (fill_text q) before k last) (read_alike text before records_room l (omega arith)) f;
      promise = read_keeps text records_room;
    }

-- no program behind `paths` takes a refusal for a question: its line has 10 or 11 bytes
pub refusal_no_question : (judge (fill_text (fill_refused 7)) ≡ refused 2) × (judge (fill_text (fill_refused 13)) ≡ refused 2) × (judge (fill_text (fill_refused 14)) ≡ refused 2)
unfolding judge fill_text numbered ascii decimal digits_of before_last pick
refusal_no_question = (refl, refl, refl)
