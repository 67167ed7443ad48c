use Rattle.std.proofs.Common.{ap, ◌∙◌}
use Rattle.pagestore_page.specs.declared.Record.{Record}
use Rattle.pagestore.specs.Store.{leaf_at}
use Rattle.tree_core.specs.Keyed.{same_point}
use Rattle.tree_keyed.proofs.KeyedLaws.{among_here, among_none}
use Rattle.tree_keyed.proofs.keyed.held_among.Goals as goal

pub returns-in-Some : goal.returns-in-Some
returns-in-Some c = let a = c.args in
    let M = leaf_at a.index.now a.page in
    let I = c.in-Some.ensures in
    among_here a.d a.x M.records M.count c.in-Some.i I.0 I.1 _ (c.same_point.ensures ∙ ap (λ (y : Record). same_point a.d y a.x) c.record_at.ensures)

pub returns-in-None : goal.returns-in-None
returns-in-None c = let a = c.args in
    let M = leaf_at a.index.now a.page in
    among_none a.d a.x M.records M.count c.in-None.ensures
