use Rattle.std.proofs.Common.{◌≡◌, length, take, get_or}
use Rattle.lists.specs.Basics.{tabulate}
use Rattle.pagestore_page.specs.Layout.{leaf_of, no_record}
use Rattle.pagestore_page.proofs.leaves.read_record.Given as goal

abbrev pub invariant-loop-m : goal.invariant-loop-m
invariant-loop-m l = (length l.coords ≡ 16) × (take l.m l.coords ≡ tabulate l.m (λ k. get_or (get_or (leaf_of l.page).records l.i no_record).coords k 0))
