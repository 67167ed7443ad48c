use Rattle.std.proofs.Common.{arith}
use Rattle.acts_text.proofs.CellLaws.{no_act, no_id, no_k, no_stage, no_stamp, no_coordinates, act_read}
use Rattle.acts_text.proofs.lines.read_act.Goals as goal

pub returns-in_err-read_kind : goal.returns-in_err-read_kind
returns-in_err-read_kind c =
    no_act c.args.d c.args.line.now _ _ _ _ _ _ _ _ _ _ (omega arith) (omega arith) c.field.ensures c.field-2.ensures c.field-3.ensures c.field-4.ensures c.field-5.ensures
    _ c.read_kind.result c.from_residual.ensures c.read_kind.ensures c.in_err-read_kind.was

pub returns-in_err-read_natural : goal.returns-in_err-read_natural
returns-in_err-read_natural c =
    no_id c.args.d c.args.line.now _ _ _ _ _ _ _ _ _ _ (omega arith) (omega arith) c.field.ensures c.field-2.ensures c.field-3.ensures c.field-4.ensures c.field-5.ensures
    _ c.read_natural.result c.from_residual-in_err-read_natural.ensures c.read_natural.ensures c.in_err-read_natural.was

pub returns-in_err-read_natural-2 : goal.returns-in_err-read_natural-2
returns-in_err-read_natural-2 c =
    no_k c.args.d c.args.line.now _ _ _ _ _ _ _ _ _ _ (omega arith) (omega arith) c.field.ensures c.field-2.ensures c.field-3.ensures c.field-4.ensures c.field-5.ensures
    _ c.read_natural-2.result c.from_residual-in_err-read_natural-2.ensures c.read_natural-2.ensures c.in_err-read_natural-2.was

pub returns-in_err-read_natural-3 : goal.returns-in_err-read_natural-3
returns-in_err-read_natural-3 c =
    no_stage c.args.d c.args.line.now _ _ _ _ _ _ _ _ _ _ (omega arith) (omega arith) c.field.ensures c.field-2.ensures c.field-3.ensures c.field-4.ensures c.field-5.ensures
    _ c.read_natural-3.result c.from_residual-in_err-read_natural-3.ensures c.read_natural-3.ensures c.in_err-read_natural-3.was

pub returns-in_err-read_stamp : goal.returns-in_err-read_stamp
returns-in_err-read_stamp c =
    no_stamp c.args.d c.args.line.now _ _ _ _ _ _ _ _ _ _ (omega arith) (omega arith) c.field.ensures c.field-2.ensures c.field-3.ensures c.field-4.ensures c.field-5.ensures
    _ c.read_stamp.result c.from_residual-in_err-read_stamp.ensures c.read_stamp.ensures c.in_err-read_stamp.was

pub returns-in_err-read_coordinates : goal.returns-in_err-read_coordinates
returns-in_err-read_coordinates c =
    no_coordinates c.args.d c.args.line.now _ _ _ _ _ _ _ _ _ _ (omega arith) (omega arith) c.field.ensures c.field-2.ensures c.field-3.ensures c.field-4.ensures c.field-5.ensures
    _ c.read_coordinates.result c.from_residual-in_err-read_coordinates.ensures c.read_coordinates.ensures c.in_err-read_coordinates.was

pub returns : goal.returns
returns c =
    act_read c.args.d c.args.line.now _ _ _ _ _ _ _ _ _ _ (omega arith) (omega arith) c.field.ensures c.field-2.ensures c.field-3.ensures c.field-4.ensures c.field-5.ensures
    _ _ _ _ _ _ c.read_kind.result c.read_natural.result c.read_natural-2.result c.read_natural-3.result c.read_stamp.result c.read_coordinates.result
    c.read_kind.ensures c.in_ok-read_kind.was c.read_natural.ensures c.in_ok-read_natural.was c.read_natural-2.ensures c.in_ok-read_natural-2.was
    c.read_natural-3.ensures c.in_ok-read_natural-3.was c.read_stamp.ensures c.in_ok-read_stamp.was c.read_coordinates.ensures c.in_ok-read_coordinates.was
