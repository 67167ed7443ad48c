use Rattle.std.proofs.Common.{arith}
use Rattle.acts_output.specs.Output.{heading}
use Rattle.acts_fields.proofs.StoreLaws.{written}
use Rattle.acts_output.proofs.put_heading.Goals as goal

pub returns : goal.returns
returns c = let s = c.put_bytes.ensures in let a = s.after in written c.args.out.now _ c.args.at c.put_bytes.result heading (omega (arith, c.requires)) s
