use Rattle.acts_text.proofs.CellLaws.{Read}
use Rattle.acts_text.proofs.lines.read_coordinates.Given as goal

abbrev pub invariant-loop-i : goal.invariant-loop-i
invariant-loop-i l = Read l.d l.line l.coords l.i l.rest
