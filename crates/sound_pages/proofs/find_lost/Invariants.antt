use Rattle.std.proofs.Common.{ℕ, ◌<◌}
use Rattle.pagestore.specs.Store.{view_of}
use Rattle.sound_faults.specs.Faults.{IsPage}
use Rattle.sound_faults.specs.Linked.{InState}
use Rattle.sound_pages.proofs.find_lost.Given as goal

abbrev pub invariant-loop-p : goal.invariant-loop-p
invariant-loop-p l = (q : ℕ) → IsPage (view_of l.index) q → q < l.p → InState (view_of l.index) q
