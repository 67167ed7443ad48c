use Rattle.std.proofs.Common.{arith, rules}
use Rattle.search_rows.proofs.HeldLaws.{age_fits}
use Rattle.search_rows.proofs.row_of.Goals as goal

pub overflow_add-age : goal.overflow_add-age
overflow_add-age c = let a = c.args in let f = age_fits a.high a.low (search rules) in omega arith

pub overflow_cast-stamp : goal.overflow_cast-stamp
overflow_cast-stamp c = let a = c.args in let f = age_fits a.high a.low (search rules) in omega arith

pub overflow_sub-stamp : goal.overflow_sub-stamp
overflow_sub-stamp c = let a = c.args in let f = age_fits a.high a.low (search rules) in omega arith
