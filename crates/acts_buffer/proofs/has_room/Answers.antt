use Rattle.std.proofs.Common.{inr, arith, leb-true}
use Rattle.acts_buffer.proofs.RoomLaws.{room_tested}
use Rattle.acts_buffer.proofs.has_room.Goals as goal

-- `has_room` meets its contract. Assumes nothing.
pub returns-else-s-le-LAST : goal.returns-else-s-le-LAST
returns-else-s-le-LAST c = (λ e. absurd (omega (arith, leb-true _ _ e)), λ e. inr (omega arith))

pub returns-then-s-le-LAST : goal.returns-then-s-le-LAST
returns-then-s-le-LAST c = let a = c.args in room_tested a.space a.s (omega arith) (omega arith)
