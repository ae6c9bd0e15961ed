-- `readoff::read_off` meets its contract: the layers give the groups in order, and the answer file is written.
use borrow.Author.Rules.{rules}
use Rattle.readoff.proofs.Answer.{prepared, strict_after, room_for, groups_led, file_written}
use Rattle.readoff.proofs.read_off.Goals as goal

pub returns : goal.returns
returns c S g r =
    let front = c.of-front.ensures in
    let first = c.node_at-first.ensures in
    let ready = prepared c.args.n.few r (search rules) (λ x. search rules) in
    file_written (ready c.lows-lows.ensures c.layers-layer.ensures) _ c.in_order-order.ensures _ front _ _ _ _ _ _ first c.requires.0
    (λ x. search rules)
    c.put_front.ensures c.put_nodes.ensures c.put_places.ensures c.assign-nodes.ensures

pub in_order-order-requires : goal.in_order-order-requires
in_order-order-requires c =
    let ready = prepared c.args.n.few c.requires.1.2 (search rules) (λ g. search rules) in
    let w = ready c.lows-lows.ensures c.layers-layer.ensures in
    (room_for w, strict_after w)

pub assign-nodes-requires : goal.assign-nodes-requires
assign-nodes-requires c =
    let ready = prepared c.args.n.few c.requires.1.2 (search rules) (λ g. search rules) in
    groups_led (ready c.lows-lows.ensures c.layers-layer.ensures) _ c.in_order-order.ensures
