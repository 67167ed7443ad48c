use Rattle.pagestore.specs.Store.{view_of}
use Rattle.sound_pages.specs.Pages.{PagesFine}
use Rattle.sound_visit.specs.Collect.{Gathered}
use Rattle.sound_visit.proofs.visit.Given as goal

abbrev pub invariant-loop-p : goal.invariant-loop-p
invariant-loop-p l = PagesFine (view_of l.index) l.ends l.p × Gathered (view_of l.index) l.marks l.p l.n l.ids l.holders
