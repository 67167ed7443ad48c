use Rattle.search_frontier.proofs.OpenLaws.{entry_key_is}
use Rattle.search_frontier.proofs.Tables.entry_key.Goals as goal

pub returns : goal.returns
returns c = let S = c in
    entry_key_is S.args.index.now S.args.self.now.asked.now _ _ _ _ _ _ _ c.span_bound-bound.ensures c.page_of-page.ensures.0 c.place_of.ensures.0 c.key_of.ensures
