use Rattle.std.proofs.Common.{arith, sym}
use Rattle.calendar.proofs.CodeLaws.{number_some, number_upper}
use Rattle.calendar.proofs.TestLaws.{calendar_test}
use Rattle.calendar.proofs.day_number.Goals as goal

-- past the test the date is in the calendar
pub overflow_sub-from : goal.overflow_sub-from
overflow_sub-from c = let g = calendar_test _ (sym c.if-not-in_calendar.ensures) in omega arith

pub days_of_years-years-requires : goal.days_of_years-years-requires
days_of_years-years-requires c = let g = calendar_test _ (sym c.if-not-in_calendar.ensures) in omega arith

pub days_of_months-months-requires : goal.days_of_months-months-requires
days_of_months-months-requires c = let g = calendar_test _ (sym c.if-not-in_calendar.ensures) in omega arith

pub overflow_sub-result : goal.overflow_sub-result
overflow_sub-result c = let g = calendar_test _ (sym c.if-not-in_calendar.ensures) in omega arith

pub returns-clause-upper_bound : goal.returns-clause-upper_bound
returns-clause-upper_bound c = let t = sym c.if-not-in_calendar.ensures in grind (arith, number_some c.args.date t, number_upper c.args.date t)
