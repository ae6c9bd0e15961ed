-- Texts of paths that are equal but for case: made small they are one text, and no text is that of two lists of lines. So their lines made small are
-- the same, and the rest is said of lines (meaning/proofs/PathCapitals).
use mathlib.Core.Path.{◌≡◌, sym, subst}
use mathlib.Core.List.{List, map}
use Prim.Native.Nat.{ℕ, ◌≤◌}
use native.Mathlib.Decide.{dec_le}
use native.Mathlib.Omega.{arith}
use lib.ListN.{length}
use Rattle.meaning.specs.Paths.{Path, OfForm}
use Rattle.meaning.specs.PathRecords.{variables_of}
use Rattle.meaning.specs.Results.{Fill}
use Rattle.meaning.specs.Promises.{PathsPromise}
use Rattle.meaning.specs.Capitals.{small_text, LinesCaseAside, ReadAlike, TextsCaseAside}
use Rattle.meaning.proofs.PathCapitals.{small_path, small_form, lines_aside}
use Rattle.theory.proofs.PathReader.{form_unique}

module _ {text other : List ℕ} {ps qs : List Path} (e : small_text text ≡ small_text other) (f : OfForm text ps) (g : OfForm other qs) where
  texts_lines : LinesCaseAside ps qs
  texts_lines = lines_aside ps qs (form_unique (small_form f) (subst (λ (t : List ℕ). OfForm t (map small_path qs)) (sym e) (small_form g)))

  texts_read : {lent left buffer after : List ℕ} {r s : Fill} → 1024 ≤ length lent → 1024 ≤ length buffer
      → PathsPromise text lent r left → PathsPromise other buffer s after → ReadAlike r s
  texts_read {r = r} {s = s} l m u v = go (dec_le (variables_of ps) 16)
    where
      n : variables_of ps ≡ variables_of qs
      n = texts_lines.variables

      go : Dec (variables_of ps ≤ 16) → ReadAlike r s
      go (yes few) = subst (λ (q : Fill). ReadAlike q s) (sym (u.writes l f few).0) (_, (v.writes m g (omega (arith, n))).0, texts_lines.records)
      go (no many) = subst (λ (q : Fill). ReadAlike q s) (sym (u.too_many l f (omega arith))) (v.too_many m g (omega (arith, n)))

pub texts_aside : {text other : List ℕ} → small_text text ≡ small_text other → TextsCaseAside text other
texts_aside e = record { lines = texts_lines e; read = λ f g. texts_read e f g }
