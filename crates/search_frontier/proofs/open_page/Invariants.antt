use Rattle.pagestore.specs.Store.{inner_at}
use Rattle.search_frontier.proofs.OpenLaws.{Opening}
use Rattle.search_frontier.proofs.open_page.Given as goal

-- `open_page`: the invariant says what the branches still to come make of the frontier.
abbrev pub invariant-loop-i : goal.invariant-loop-i
invariant-loop-i l = Opening l.initial.slots l.n l.index l.tables.asked.now l.level l.place l.page (inner_at l.index l.page) l.count l.slots l.held l.at l.i
