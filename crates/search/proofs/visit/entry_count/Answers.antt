use Rattle.search.proofs.TurnLaws.{entries_number}
use Rattle.search.proofs.visit.entry_count.Goals as goal

pub returns : goal.returns
returns c = let S = c in entries_number S.args.index.now S.args.page _ _ c.count_at.ensures c.filled.ensures
