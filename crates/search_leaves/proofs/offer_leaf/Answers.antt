use Rattle.std.proofs.Common.{sym}
use Rattle.search_leaves.proofs.offer_leaf.Goals as goal

-- `offer_leaf` meets its contract: where a point has no weights, they are ones.
pub offer_plain-requires : goal.offer_plain-requires
offer_plain-requires c = let P = c.requires in rw (sym (P.1 c.if-unweighted.true)) P.0

pub returns-then-unweighted : goal.returns-then-unweighted
returns-then-unweighted c = let P = c.requires in rw (P.1 c.if-unweighted.true) c.offer_plain.ensures
