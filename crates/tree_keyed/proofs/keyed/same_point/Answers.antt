use Rattle.std.proofs.Common.{◌≡◌, length, rules}
use Rattle.lists.specs.Lengths.{unmapped}
use Rattle.tree_keyed.proofs.KeyedLaws.{point_is}
use Rattle.tree_keyed.proofs.keyed.same_point.Goals as goal

pub returns : goal.returns
returns c = let a = c.args in
    let long : length a.x.coords ≡ 16 = search (unmapped, rules) in
    let wide : length a.y.coords ≡ 16 = search (unmapped, rules) in
    point_is a.d c.filled-n.result a.x a.y long wide c.filled-n.ensures c.eq.ensures
