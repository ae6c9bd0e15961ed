use Rattle.std.proofs.Common.{sym, ◌∙◌, rules}
use Rattle.meaning.specs.Ascii.{ascii}
use Rattle.meaning.specs.Paths.{to_self, to_child, to_parent, to_descendant, to_ancestor, to_descendant_or_self, to_ancestor_or_self, to_following_sibling, to_preceding_sibling, axis_text}
use Rattle.axes.proofs.Moves.{with_d, with_a, with_p, with_f, with_c, with_s, with_none, read_one, read_two, read_none}
use Rattle.axes.proofs.axis_at.Goals as goal

pub returns-in-100-clause-value : goal.returns-in-100-clause-value
unfolding axis_text ascii
returns-in-100-clause-value c =
    let s = c.args.s.now in
    let e = with_d s (sym c.byte_at.ensures ∙ c.in-100.is) in
    read_two s to_descendant_or_self _ to_descendant _ e c.named.ensures.value (search rules)

pub returns-in-97-clause-value : goal.returns-in-97-clause-value
unfolding axis_text ascii
returns-in-97-clause-value c =
    let s = c.args.s.now in
    let e = with_a s (sym c.byte_at.ensures ∙ c.in-97.is) in
    read_two s to_ancestor_or_self _ to_ancestor _ e c.named-in-97.ensures.value (search rules)

pub returns-in-112-clause-value : goal.returns-in-112-clause-value
unfolding axis_text ascii
returns-in-112-clause-value c =
    let s = c.args.s.now in
    let e = with_p s (sym c.byte_at.ensures ∙ c.in-112.is) in
    read_two s to_preceding_sibling _ to_parent _ e c.named-in-112.ensures.value (search rules)

pub returns-in-102-clause-value : goal.returns-in-102-clause-value
unfolding axis_text ascii
returns-in-102-clause-value c =
    let s = c.args.s.now in
    read_one s to_following_sibling _ (with_f s (sym c.byte_at.ensures ∙ c.in-102.is)) c.named-in-102.ensures.value

pub returns-in-99-clause-value : goal.returns-in-99-clause-value
unfolding axis_text ascii
returns-in-99-clause-value c =
    let s = c.args.s.now in
    read_one s to_child _ (with_c s (sym c.byte_at.ensures ∙ c.in-99.is)) c.named-in-99.ensures.value

pub returns-in-115-clause-value : goal.returns-in-115-clause-value
unfolding axis_text ascii
returns-in-115-clause-value c =
    let s = c.args.s.now in
    read_one s to_self _ (with_s s (sym c.byte_at.ensures ∙ c.in-115.is)) c.named-in-115.ensures.value

pub returns-in_default-clause-value : goal.returns-in_default-clause-value
returns-in_default-clause-value c =
    let s = c.args.s.now in
    let b = c.byte_at.ensures in
    read_none s (with_none s (λ e. search rules) (λ e. search rules) (λ e. search rules) (λ e. search rules)
    (λ e. search rules) (λ e. search rules))
