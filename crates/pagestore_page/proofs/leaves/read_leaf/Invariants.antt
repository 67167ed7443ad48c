use Rattle.std.proofs.Common.{◌≡◌, length, take, get_or}
use Rattle.lists.specs.Basics.{tabulate}
use Rattle.pagestore_page.specs.Layout.{leaf_of, no_record}
use Rattle.pagestore_page.proofs.leaves.read_leaf.Given as goal

abbrev pub invariant-loop-i : goal.invariant-loop-i
invariant-loop-i l = (length l.records ≡ 16) × (take l.i l.records ≡ tabulate l.i (λ k. get_or (leaf_of l.page).records k no_record))
