use Rattle.std.proofs.Common.{◌≡◌, length}
use Rattle.sound_repeats.proofs.SpreadLaws.{Marked}
use Rattle.sound_repeats.proofs.spread.Given as goal

-- `spread` marks the place of each identifier whose place is not marked: those so far are marked, and differ.
abbrev pub invariant-loop-x : goal.invariant-loop-x
invariant-loop-x g l = (length l.seen ≡ g.row.PLACES) × Marked g.row.PLACES l.x-index l.ids l.seen
