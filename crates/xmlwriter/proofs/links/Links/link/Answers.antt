use mathlib.Core.Path.{◌≡◌, refl, subst}
use Prim.Native.Nat.{suc, ◌-◌}
use native.Mathlib.Omega.{arith}
use Rattle.xmlwriter.proofs.Linking.{HeldFrom, link_start, up_small, link_step, link_end}
use Rattle.xmlwriter.proofs.links.Links.link.Goals as goal

pub loop-k-init : goal.loop-k-init
loop-k-init c =
    let r = c.requires in
    (r.0.some, link_start c.args.nodes.now c.args.self.now refl r.1)

pub add-requires : goal.add-requires
add-requires c =
    let r = c.requires.0 in
    let few = r.few in
    let u = up_small c.args.nodes.now (c.loop-k.k - 1) r (omega arith) (omega arith) in
    (omega arith, omega arith)

pub loop-k-preserved : goal.loop-k-preserved
loop-k-preserved c =
    let one : c.loop-k.k ≡ suc (c.loop-k.k - 1) = omega arith in
    let held = subst (HeldFrom c.args.nodes.now c.loop-k.self) one c.loop-k.invariant.1 in
    (omega arith, link_step c.args.nodes.now _ _ (c.loop-k.k - 1) c.requires.0 (omega arith) (omega arith) c.add.ensures held)

pub returns : goal.returns
returns c =
    let i = c.loop-k.invariant in
    let one : c.loop-k.k ≡ 1 = omega arith in
    link_end c.args.nodes.now c.loop-k.self (subst (HeldFrom c.args.nodes.now c.loop-k.self) one i.1)
