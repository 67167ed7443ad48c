use Rattle.std.proofs.Common.{◌≡◌, length, get_or, take}
use Rattle.lists.specs.Basics.{tabulate}
use Rattle.pagestore_page.specs.Layout.{no_entry}
use Rattle.pagestore.specs.Store.{inner_at}
use Rattle.pagestore.proofs.pages.inner_at.Given as goal

abbrev pub invariant-loop-i : goal.invariant-loop-i
invariant-loop-i l = (length l.entries ≡ 16) × (take l.i l.entries ≡ tabulate l.i (λ k. get_or (inner_at l.index l.page).entries k no_entry))
