use Rattle.acts_output.proofs.OutputLaws.{digit_put}
use Rattle.std.proofs.Common.{rules}
use Rattle.acts_output.proofs.put_digit.Goals as goal

pub returns : goal.returns
returns c = search (digit_put, rules)
