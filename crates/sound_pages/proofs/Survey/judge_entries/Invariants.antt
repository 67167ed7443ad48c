use Rattle.std.proofs.Common.{◌*◌, ◌+◌}
use Rattle.pagestore.specs.Store.{view_of}
use Rattle.sound_pages.specs.Pages.{Named}
use Rattle.sound_pages.proofs.Survey.judge_entries.Given as goal

abbrev pub invariant-loop-i : goal.invariant-loop-i
invariant-loop-i l = Named (view_of l.self.index.now) l.named (16 * l.p + l.i)
