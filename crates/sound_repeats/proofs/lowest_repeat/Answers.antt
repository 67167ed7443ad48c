use Rattle.std.proofs.Common.{sym}
use Rattle.sound_chains.proofs.RepeatsLaws.{distinct_none}
use Rattle.sound_repeats.proofs.lowest_repeat.Goals as goal

pub returns-then-all_spread : goal.returns-then-all_spread
returns-then-all_spread c = sym (distinct_none c.args.ids.now c.args.pages.now (c.all_spread.ensures c.if-all_spread.true))
