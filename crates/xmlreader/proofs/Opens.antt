-- Where < and a name are found an element starts, and where they are not none does.
use mathlib.Core.Path.{◌≡◌, sym, ap, ◌∙◌, subst}
use mathlib.Core.List.{List, [], ◌∷◌, ◌++◌}
use Prim.Native.Nat.{ℕ}
use Rattle.std.proofs.Common.{Bor, Option, None, Some, Result, Err}
use Rattle.std.specs.Option.{ok_or}
use Rattle.meaning.specs.Finite.{Yes}
use Rattle.meaning.proofs.Tests.{and_left, and_right}
use Rattle.questions.specs.declared.Question.{Question}
use Rattle.theory.specs.Reader.{front}
use Rattle.theory.specs.Xml.{name_at, is_name, label_named, opens}
use Rattle.theory.proofs.Reader.{front_is}
use Rattle.theory.proofs.XmlReader.{opens_name}
use Rattle.xmlreader.specs.Reading.{After}

-- < and a name, the label that it names, and what is left behind them
pub record Started (text left : List ℕ) (name label : ℕ) : Type 0 where
  pub is : text ≡ 60 ∷ name ∷ left
  pub named : Yes (is_name name)
  pub labelled : label ≡ label_named name

pub started : {text left : List ℕ} {name label : ℕ} → (text ≡ 60 ∷ name ∷ left) × Yes (is_name name) → label ≡ label_named name
    → Started text left name label
started o l = record { is = o.0; named = o.1; labelled = l }

pub starts : {text left : List ℕ} {name label : ℕ} → Started text left name label → Yes (opens text)
starts {left = left} {name = name} s = subst (λ (x : List ℕ). Yes (opens x)) (sym s.is) (opens_name name left s.named)

pub starts_not : (text : List ℕ) → ((name : ℕ) (q : List ℕ) → Yes (is_name name) → ¬ (text ≡ 60 ∷ name ∷ q)) → ¬ Yes (opens text)
unfolding opens
starts_not text n y =
    n (name_at text) _ (and_right (front text (60 ∷ name_at text ∷ [])) y) (front_is text (60 ∷ name_at text ∷ []) (and_left _ y))

-- ---- what an option that is asked for is, and what its contract says then

module _ (word : List ℕ) {text : List ℕ} {o : Option (Bor (List ℕ))} where
  pub is_after : {left : Bor (List ℕ)} → o ≡ Some left → After word text o → text ≡ word ++ left.now
  is_after e a = subst (After word text) e a

  pub not_after : o ≡ None → After word text o → (q : List ℕ) → ¬ (text ≡ word ++ q)
  not_after e a = subst (After word text) e a

pub not_asked : {A : Type 0} {o : Option A} {q p : Question} → o ≡ None → ◌≡◌ {A = Result A Question} (Err q) (ok_or o p) → q ≡ p
not_asked {A} {p = p} e v = let h : ◌≡◌ {A = Result A Question} (Err _) (Err p) = v ∙ ap (λ (x : Option A). ok_or x p) e in cc
