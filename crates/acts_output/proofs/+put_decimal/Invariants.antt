-- By recursion on the number of digits allowed.
use Rattle.acts_output.proofs.+put_decimal.Given as goal

abbrev pub decreases-put_decimal : goal.decreases-put_decimal
decreases-put_decimal l = l.k
