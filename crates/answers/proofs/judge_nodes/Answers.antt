-- `answers::judge_nodes` meets its contract: each test that refuses is the next question in the code's terms (proofs/NodesAlone.antt).
use mathlib.Core.Path.{sym, ap, ◌∙◌}
use borrow.Author.Tests.{eqb-true, eqb-false}
use Rattle.answers.proofs.NodesAlone.{nodes_8, nodes_9, nodes_10_11}
use Rattle.answers.proofs.Steps.{quads_are, counted}
use Rattle.answers.specs.Judgement.{judged_nodes_as, nodes_judgement, nodes_checked}
use Rattle.answers.proofs.judge_nodes.Goals as goal

pub returns-then-not-is_empty : goal.returns-then-not-is_empty
unfolding nodes_judgement judged_nodes_as
returns-then-not-is_empty c =
    rw (nodes_8 c.args.nodes.now (λ e. eqb-false _ _ (sym c.is_empty.ensures
    ∙ c.if-not-is_empty.true) (c.as_chunks.ensures.back_len ∙ e)))

pub returns-then-count_nodes-records : goal.returns-then-count_nodes-records
unfolding nodes_judgement judged_nodes_as
returns-then-count_nodes-records c =
    let q = c.as_chunks.ensures in
    let w = sym q.back_len ∙ eqb-true _ _ (sym c.is_empty.ensures ∙ c.if-not-is_empty.false) in
    rw (nodes_9 c.args.nodes.now w _ (counted _ _ q.front c.count_nodes.ensures.is)
    (λ e. c.if-count_nodes-records.true (e ∙ sym q.front_len)))

pub returns : goal.returns
returns c =
    let q = c.as_chunks.ensures in
    let w = sym q.back_len ∙ eqb-true _ _ (sym c.is_empty.ensures ∙ c.if-not-is_empty.false) in
    c.check_nodes.ensures ∙ ap nodes_checked (quads_are _ _ q.front)
    ∙ sym (nodes_10_11 c.args.nodes.now w _ (counted _ _ q.front c.count_nodes.ensures.is)
    (c.if-count_nodes-records.false ∙ q.front_len))
