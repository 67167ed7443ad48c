use Rattle.std.proofs.Common.{sym, ◌∙◌}
use Rattle.search_frontier.proofs.KeyLaws.{page_inside, page_outside}
use Rattle.search_frontier.proofs.page_of.Goals as goal

pub returns-then-in_range : goal.returns-then-in_range
returns-then-in_range c = page_inside c.args.index.now c.args.page (sym c.in_range.ensures ∙ c.if-in_range.true)

pub returns-else-in_range : goal.returns-else-in_range
returns-else-in_range c = page_outside c.args.index.now c.args.page (sym c.in_range.ensures ∙ c.if-in_range.false)
