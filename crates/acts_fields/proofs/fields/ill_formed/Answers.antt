use Rattle.std.proofs.Common.{rules}
use Rattle.acts_fields.proofs.DigitLaws.{ill_formed_none, ill_formed_zero, ill_formed_not}
use Rattle.acts_fields.proofs.fields.ill_formed.Goals as goal

-- `fields::ill_formed` meets its contract: one law for each branch.
pub returns-then-is_empty : goal.returns-then-is_empty
returns-then-is_empty c = search (ill_formed_none, rules)

pub returns-then-f-eq48 : goal.returns-then-f-eq48
returns-then-f-eq48 c = search (ill_formed_zero, rules)

pub returns-else-f-eq48 : goal.returns-else-f-eq48
returns-else-f-eq48 c = search (ill_formed_not, rules)
