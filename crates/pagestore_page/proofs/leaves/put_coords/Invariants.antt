use Rattle.std.proofs.Common.{◌≡◌}
use Rattle.pagestore_page.specs.Layout.{put_coords}
use Rattle.pagestore_page.proofs.leaves.put_coords.Given as goal

abbrev pub invariant-loop-m : goal.invariant-loop-m
invariant-loop-m l = l.page ≡ put_coords l.m l.initial.page l.i l.fn.coords
