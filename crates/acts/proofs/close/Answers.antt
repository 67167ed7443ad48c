use Rattle.std.proofs.Common.{refl}
use borrow.Author.Tests.{not-true, not-false}
use Rattle.acts.specs.Running.{stays, closed, fails}
use Rattle.acts.proofs.RunLaws.{close_needs}
use Rattle.acts.proofs.close.Goals as goal

-- `close` meets its contract. Assumes nothing.
pub returns-then-not-s : goal.returns-then-not-s
returns-then-not-s g c = stays (not-true _ c.if-not-s.true) refl refl refl

pub returns-then-not-t : goal.returns-then-not-t
returns-then-not-t g c = fails (not-false _ c.if-not-s.false) c.make_room-t.ensures (not-true _ c.if-not-t.true) refl refl

pub end_input-requires : goal.end_input-requires
end_input-requires g c = close_needs c.args.s c.make_room-t.result c.requires c.make_room-t.ensures (not-false _ c.if-not-t.false)

pub returns : goal.returns
returns g c = closed c.make_room-t.result (not-false _ c.if-not-s.false) c.make_room-t.ensures (not-false _ c.if-not-t.false) c.end_input.ensures
