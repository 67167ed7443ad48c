use Rattle.std.proofs.Common.{arith}
use Rattle.acts_text.proofs.PrefixLaws.{features_few, features_short, features_long}
use Rattle.acts_text.proofs.names.features_in.Goals as goal

-- `names::features_in` meets its contract: one law for each branch.
pub returns-then-n-le-LEAD : goal.returns-then-n-le-LEAD
returns-then-n-le-LEAD c = features_few c.args.n (omega arith)

pub returns-then-n-le-TEN : goal.returns-then-n-le-TEN
returns-then-n-le-TEN c = features_short c.args.n _ (omega arith) (omega arith) c.then_some.ensures

pub returns-else-n-le-TEN : goal.returns-else-n-le-TEN
returns-else-n-le-TEN c = features_long c.args.n _ (omega arith) (omega arith) c.then_some-else-n-le-TEN.ensures
