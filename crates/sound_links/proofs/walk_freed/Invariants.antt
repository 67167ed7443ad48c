use Rattle.sound_links.specs.Marks.{Walked}
use Rattle.sound_links.proofs.walk_freed.Given as goal

abbrev pub invariant-loop-k : goal.invariant-loop-k
invariant-loop-k l = Walked l.index l.freed l.k l.q
