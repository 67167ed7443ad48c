use Rattle.std.proofs.Common.{refl}
use Rattle.acts_text.proofs.CellLaws.{cut}
use Rattle.acts_text.proofs.lines.field.Goals as goal

pub returns : goal.returns
returns c = cut c.args.n c.field_end-e.result c.past.result c.args.line.now _ _ c.field_end-e.ensures.0 refl c.past.ensures refl
