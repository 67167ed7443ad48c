use Rattle.acts_output.proofs.OutputLaws.{field_put}
use Rattle.std.proofs.Common.{rules}
use Rattle.acts_output.proofs.put_field.Goals as goal

pub returns : goal.returns
returns c = search (field_put, rules)
