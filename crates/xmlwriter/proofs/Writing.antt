-- What the writer answers, from what its parts have found: the questions in order, then the text of the one ordered tree.
use mathlib.Core.Path.{◌≡◌, refl, sym, ap, ◌∙◌, subst}
use mathlib.Core.Bool.{true, false, false≢true}
use mathlib.Core.List.{List, map}
use Prim.Native.Nat.{ℕ, ◌-◌, ◌≤◌, ◌<◌}
use native.Mathlib.Omega.{arith}
use lib.ListN.{length}
use Rattle.meaning.specs.Finite.{Yes}
use Rattle.meaning.specs.Tree.{Tree}
use Rattle.meaning.specs.ReadOff.{NodeRecord, tree_of}
use Rattle.meaning.specs.Files.{quads, node_of, JudgedNodes, accepted_nodes, judge_nodes}
use Rattle.meaning.specs.Results.{Fill, fill_refused, fill_written, fill_wrote}
use Rattle.meaning.specs.Xml.{alone, forest_text, element_text, records_nameable}
use Rattle.std.proofs.Common.{Result, Ok, Err}
use Rattle.questions.specs.declared.Question.{Question}
use Rattle.questions.specs.declared.Question.TheVariants.{Nameable, XmlBuffer}
use Rattle.questions.specs.Number.{number}
use Rattle.lent.specs.Filling.{AnswerOf}
use Rattle.lent.specs.Putting.{Put}
use Rattle.lent.proofs.Answered.{put_filled}
use Rattle.theory.specs.Xml.{forest_from, element_of, written_of, write_xml}
use Rattle.theory.proofs.XmlOrdered.{Shape, outermost_forest, ordered_is}
use Rattle.theory.proofs.XmlReader.{element_forest, form_short}
use Rattle.theory.proofs.XmlQuestions.{Accepted, nodes_accepted, accepted_shape, judged_whole, judged_records, judged_length}
use Rattle.theory.proofs.XmlPromise.{written_form, write_short, write_no_name, write_wide}
use Rattle.answers.specs.Judgement.{nodes_judgement}
use Rattle.answers.specs.Tree.{tree_in}
use Rattle.answers.proofs.Accepted.{tree_is}
use Rattle.answers.proofs.NodesAlone.{accepted_alone, refused_alone}
use Rattle.xmlwriter.specs.Links.{forest_in, Linkable}

module _ (bs text : List ℕ) where
  abbrev pub Answered : Result ℕ Question → List ℕ → Type 0
  Answered r after = AnswerOf (write_xml bs text) r × (after ≡ fill_wrote (write_xml bs text) text)

  answered : (a : Fill) → write_xml bs text ≡ a → (r : Result ℕ Question) (after : List ℕ) → AnswerOf a r → after ≡ fill_wrote a text → Answered r after
  answered a e r after h w = (subst (λ (x : Fill). AnswerOf x r) (sym e) h, w ∙ ap (λ (x : Fill). fill_wrote x text) (sym e))

  -- a refusal leaves the buffer as it was
  refusal : (q : Question) → write_xml bs text ≡ fill_refused (number q) → Answered (Err q) text
  unfolding fill_wrote
  refusal q e = answered (fill_refused (number q)) e (Err q) text refl refl

  pub refused : (q : Question) → nodes_judgement bs ≡ Err (number q) → Answered (Err q) text
  unfolding write_xml written_of
  refused q e = refusal q (ap (λ (j : JudgedNodes). written_of j text) (refused_alone bs (number q) e))

  -- accepted, as these nodes
  module _ (k : ℕ) (h : nodes_judgement bs ≡ Ok k) where
    abbrev vs : List NodeRecord
    vs = (accepted_alone bs k h).0

    abbrev judged : judge_nodes bs ≡ accepted_nodes vs
    judged = (accepted_alone bs k h).1

    abbrev accepted : Accepted vs
    accepted = nodes_accepted bs vs judged

    tree : tree_of vs ≡ tree_in bs
    tree = ap tree_of (sym (judged_records bs vs judged)) ∙ tree_is bs (judged_whole bs vs judged)

    at_accepted : write_xml bs text ≡ written_of (accepted_nodes vs) text
    unfolding write_xml
    at_accepted = ap (λ (j : JudgedNodes). written_of j text) judged

    pub short : length text < 512 → Answered (Err XmlBuffer) text
    short l = refusal XmlBuffer (at_accepted ∙ write_short vs text l)

    pub linkable : Linkable bs
    unfolding tree_in
    linkable =
        let n = judged_length bs vs judged in
        let a = accepted.two_nodes in
        let b = accepted.few in
        let s : Shape (tree_in bs) = subst Shape tree (accepted_shape vs accepted) in
        record { some = omega arith; few = omega arith; smaller = s.smaller }

    module _ (wide : 512 ≤ length text) where
      pub no_name : records_nameable (map node_of (quads bs)) ≡ false → Answered (Err Nameable) text
      no_name f =
          let n : ¬ Yes (records_nameable vs) = λ y. false≢true (sym f ∙ ap records_nameable (judged_records bs vs judged) ∙ y) in
          refusal Nameable (at_accepted ∙ write_no_name vs text wide n)

      module _ (y : records_nameable (map node_of (quads bs)) ≡ true) where
        nameable : Yes (records_nameable vs)
        nameable = ap records_nameable (sym (judged_records bs vs judged)) ∙ y

        text_is : forest_text (forest_in bs) ≡ element_text (element_of (tree_of vs))
        unfolding tree_in
        text_is =
            let s = accepted_shape vs accepted in
            let d : alone (element_of (tree_of vs)) ≡ forest_from (tree_of vs) ((tree_of vs).size - 1) 1 0 = outermost_forest (tree_of vs) s _ (ordered_is (tree_of vs) s) in
            ap forest_text (sym (d ∙ ap (λ (t : Tree). forest_from t (t.size - 1) 1 0) tree)) ∙ element_forest (element_of (tree_of vs))

        pub room : length (forest_text (forest_in bs)) ≤ length text
        room = let a = form_short (written_form vs accepted nameable) in let b = ap length text_is in omega arith

        pub written : {end : ℕ} {new : List ℕ} → Put text 0 (forest_text (forest_in bs)) end new → Answered (Ok end) new
        written {end} {new} p =
            let w = put_filled (subst (λ (x : List ℕ). Put text 0 x end new) text_is p) in
            answered (fill_written (element_text (element_of (tree_of vs)))) (at_accepted ∙ write_wide vs text wide nameable) (Ok end) new w.0 w.1
