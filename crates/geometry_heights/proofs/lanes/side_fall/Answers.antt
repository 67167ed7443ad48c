use Rattle.std.proofs.Common.{lt-ltb, le-ltb, sym, ap, Bool}
use Rattle.lists.specs.Basics.{if}
use Rattle.geometry_heights.proofs.lanes.side_fall.Goals as goal

pub returns-then-m-j : goal.returns-then-m-j
returns-then-m-j c = let a = c.args in sym (ap (λ (b : Bool). if b a.before a.after) (lt-ltb a.m a.j c.if-m-j.true))

pub returns-else-m-j : goal.returns-else-m-j
returns-else-m-j c = let a = c.args in sym (ap (λ (b : Bool). if b a.before a.after) (le-ltb a.m a.j c.if-m-j.false))
