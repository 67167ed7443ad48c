use Rattle.tree_rebalance.proofs.Pairs.{merged, redistributed}
use Rattle.tree_rebalance.proofs.rebalancing.rebalance.Goals as goal

pub returns-then-k-n-clause-done : goal.returns-then-k-n-clause-done
returns-then-k-n-clause-done g c = let a = c.args in
    let W = c.write-merged.ensures in
    merged (g.K.Kind.write a.kind) (g.K.Kind.entry a.kind) a.index.now a.p a.q {xs = g.K.Kind.items_at c.args.kind c.args.index.now c.args.p} {ys = g.K.Kind.items_at c.args.kind c.args.index.now c.args.q} _ c.read-n.ensures.held c.read-m.ensures.held c.left_count-k.ensures.0
    c.if-k-n.true W.bytes c.free_page.ensures W.entry

pub returns-clause-done : goal.returns-clause-done
returns-clause-done g c = let a = c.args in
    let S = c.split_at.ensures in
    let W = c.write-low.ensures in
    let X = c.write-high.ensures in
    redistributed (g.K.Kind.write a.kind) (g.K.Kind.entry a.kind) a.index.now a.p a.q {xs = g.K.Kind.items_at c.args.kind c.args.index.now c.args.p} {ys = g.K.Kind.items_at c.args.kind c.args.index.now c.args.q} _ c.read-n.ensures.held c.read-m.ensures.held c.left_count-k.ensures.0
    c.if-k-n.false S.front S.back W.bytes X.bytes W.entry X.entry
