use Rattle.std.proofs.Common.{◌≡◌, get_or}
use Rattle.lists.specs.Basics.{tabulate, concat_map}
use Rattle.pagestore_bytes.specs.Bytes.{put}
use Rattle.pagestore_page.specs.Layout.{entry_bytes, no_entry}
use Rattle.pagestore_page.proofs.inners.write_inner.Given as goal

abbrev pub invariant-loop-i : goal.invariant-loop-i
invariant-loop-i l = l.page ≡ put l.initial.page 4 (concat_map entry_bytes (tabulate l.i (λ k. get_or l.inner.entries k no_entry)))
