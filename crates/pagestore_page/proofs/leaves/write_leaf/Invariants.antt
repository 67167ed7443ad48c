use Rattle.std.proofs.Common.{◌≡◌, take, drop}
use Rattle.pagestore_page.specs.Layout.{put_records}
use Rattle.pagestore_page.proofs.leaves.write_leaf.Given as goal

abbrev pub invariant-loop-i : goal.invariant-loop-i
invariant-loop-i l = put_records l.page l.i (drop l.i (take l.n l.leaf.records)) ≡ put_records l.initial.page 0 (take l.n l.leaf.records)
