use Rattle.pagestore.specs.Store.{view_of}
use Rattle.sound_links.specs.Marks.{Going}
use Rattle.sound_links.proofs.+reach.Given as goal

abbrev pub decreases-reach : goal.decreases-reach
decreases-reach l = l.level

abbrev pub invariant-loop-i : goal.invariant-loop-i
invariant-loop-i l = Going (view_of l.index) l.initial.marks l.marks l.page l.i
