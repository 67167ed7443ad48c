use Rattle.tree_core.proofs.InsertionLaws.{put_one, put_two}
use Rattle.tree_insert_leaf.proofs.put.put_items.Goals as goal

pub returns-then-items-le-MAX_ITEMS : goal.returns-then-items-le-MAX_ITEMS
returns-then-items-le-MAX_ITEMS g c = let a = c.args in
    put_one (g.K.Kind.write a.kind) (g.K.Kind.entry a.kind) a.index.now a.page a.items.now c.if-items-le-MAX_ITEMS.true c.write.ensures.bytes c.write.ensures.entry

pub returns : goal.returns
returns g c = let a = c.args in
    let T = c.take_page-right.ensures in
    let W = c.write-2.ensures in
    let X = c.write-3.ensures in
    put_two (g.K.Kind.write a.kind) (g.K.Kind.entry a.kind) a.index.now a.page a.items.now c.if-items-le-MAX_ITEMS.false T.0 T.1
    c.split_at.ensures.front c.split_at.ensures.back W.bytes X.bytes W.entry X.entry
