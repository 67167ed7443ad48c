use Rattle.search.proofs.TurnLaws.{root_is}
use Rattle.search.proofs.visit.root_key.Goals as goal

pub returns : goal.returns
returns c = let S = c in root_is S.args.index.now _ _ _ _ c.root_level-level.ensures c.root_page.ensures c.page_of-page.ensures.0 c.key_of.ensures
