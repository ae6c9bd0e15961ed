-- `grouping::unify` meets its contract: what its helpers ensure is what has to be made (proofs/Making.antt).
use mathlib.Core.Path.{refl, sym, ◌∙◌}
use mir.Val.{Fits}
use mir.Syntax.{w16}
use Rattle.meaning.proofs.Tests.{not_yes}
use Rattle.grouping.proofs.Making.{Masks, unify_differs, unify_labels, unify_document, unify_well}
use borrow.Author.Rules.{rules}
use Rattle.grouping.proofs.unify.Goals as goal
use Rattle.grouping.proofs.unify.Goals.{After-union_rows-far}

masks : (c : After-union_rows-far)
    → Masks c.args.f c.args.x c.args.lower c.args.upper c.when.result c.union_rows-far.result
masks c =
    let root : Fits w16 c.args.f.root = search (rules, c.well_formed) in
    let leaf : Fits w16 c.args.f.leaf = search (rules, c.well_formed) in
    record {
      small = c.ranges.x.fits;
      root_small = root.fits;
      leaf_small = leaf.fits;
      is_w = c.requires.0;
      is_near = c.requires.1;
      is_from = rw (c.when.ensures, c.meet.ensures);
      is_far = c.union_rows-far.ensures;
    }

pub returns-then-meet : goal.returns-then-meet
returns-then-meet c =
    unify_differs _ _ _ _ _ _ (masks (goal.at.returns-then-meet c).After-union_rows-far)
    _ c.union_rows-others.ensures (sym c.meet-2.ensures ∙ c.if-meet.true)

pub returns-then-two_labels : goal.returns-then-two_labels
returns-then-two_labels c =
    unify_labels _ _ _ _ _ _ (masks (goal.at.returns-then-two_labels c).After-union_rows-far)
    _ c.label_of-shown.ensures (c.two_labels.ensures.two c.if-two_labels.true)

pub returns-then-on_document : goal.returns-then-on_document
returns-then-on_document c =
    unify_document _ _ _ _ _ _ (masks (goal.at.returns-then-on_document c).After-union_rows-far)
    _ c.label_of-shown.ensures (sym c.on_document.ensures ∙ c.if-on_document.true)

pub returns : goal.returns
returns c =
    unify_well _ _ _ _ _ _ (masks (goal.at.returns c).After-union_rows-far) _ _
    (record {
      is_parents = c.union_rows-parents.ensures;
      children = _;
      is_children = c.union_rows-children.ensures;
      others = _;
      is_others = c.union_rows-others.ensures;
      apart = λ y. not_yes (sym c.meet-2.ensures ∙ c.if-meet.false) y;
      shown = _;
      is_shown = c.label_of-shown.ensures;
      only = c.two_labels.ensures.one c.if-two_labels.false;
      bare = λ y. not_yes (sym c.on_document.ensures ∙ c.if-on_document.false) y;
      below = c.raise-below.ensures;
      above = c.raise-above.ensures;
      child = record { half = _; first = c.raise.ensures; last = c.raise-child.ensures };
      parent = record { half = _; first = c.raise-2.ensures; last = c.raise-parent.ensures };
      differ = record { half = _; first = c.raise-3.ensures; last = c.raise-differ.ensures };
      before = refl;
      after = refl;
      root = rw (c.gain-root.ensures, c.meet-3.ensures);
      leaf = rw (c.gain-leaf.ensures, c.meet-4.ensures);
      label = c.paint-label.ensures;
    })
