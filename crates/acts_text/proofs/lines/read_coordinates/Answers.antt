use Rattle.std.proofs.Common.{arith, ◌∙◌}
use Rattle.acts_text.proofs.CellLaws.{read_start, read_stop, read_turn, read_end, same_bits}
use Rattle.acts_text.proofs.lines.read_coordinates.Goals as goal

pub loop-i-init : goal.loop-i-init
loop-i-init c = read_start _ _

pub returns-in_err-z : goal.returns-in_err-z
returns-in_err-z c =
    let p = c.loop-i in
    c.from_residual.ensures
    ∙ read_stop _ _ _ p.i _ _ _ (omega arith) c.requires p.invariant c.field.ensures c.read_signed.result c.read_signed.ensures c.in_err-z.was

pub loop-i-preserved : goal.loop-i-preserved
loop-i-preserved c =
    let p = c.loop-i in
    rw (same_bits _ c.in_ok-z.z c.read_signed.result c.read_signed.ensures c.in_ok-z.was)
    (read_turn _ _ _ p.i _ _ _ (omega arith) c.requires p.invariant c.field.ensures c.read_signed.result c.in_ok-z.z c.read_signed.ensures c.in_ok-z.was)

pub returns : goal.returns
returns c = let p = c.loop-i in read_end _ _ _ p.i _ (omega arith) (omega arith) c.requires p.invariant
