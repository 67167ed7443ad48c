use Rattle.std.proofs.Common.{rules}
use Rattle.acts_fields.proofs.DigitLaws.{with_digit_not, with_digit_over, with_digit_fits}
use Rattle.acts_fields.proofs.fields.with_digit.Goals as goal

-- `fields::with_digit` meets its contract: one law for each branch.
pub returns-then-not-is_ascii_digit : goal.returns-then-not-is_ascii_digit
returns-then-not-is_ascii_digit c = search (with_digit_not, rules)

pub returns-then-v-from : goal.returns-then-v-from
returns-then-v-from c = search (with_digit_fits, rules)

pub returns-else-v-from : goal.returns-else-v-from
returns-else-v-from c = search (with_digit_over, rules)
