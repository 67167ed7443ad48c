use Rattle.std.proofs.Common.{arith, ◌%◌}
use Rattle.lists.specs.Judges.{fault, judge_eq}
use Rattle.tree_model.specs.Sound.{Permitted}
use Rattle.index_refusals.proofs.permitted.Goals as goal

pub returns-then-contains : goal.returns-then-contains
returns-then-contains c = judge_eq (c.args.bytes % 1024) 0 (λ e. record { whole = e; low = grind arith; high = grind arith }) (λ w h. w h.whole)

pub returns-else-contains : goal.returns-else-contains
returns-else-contains c = rw c.if-contains.false (fault (λ (h : Permitted c.args.bytes). grind (arith, h.low, h.high)))
