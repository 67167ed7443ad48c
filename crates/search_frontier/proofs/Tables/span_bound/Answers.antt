use Rattle.search_frontier.proofs.OpenLaws.{span_is}
use Rattle.search_frontier.proofs.Tables.span_bound.Goals as goal

pub returns : goal.returns
returns c = let s = c.args.self.now in span_is s.asked.now _ _ _ _ _ _ c.requires c.pair.ensures c.pair-2.ensures c.bound.ensures
