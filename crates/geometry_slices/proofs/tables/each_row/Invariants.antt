use Rattle.geometry_slices.specs.Tables.{Rowed}
use Rattle.geometry_slices.proofs.tables.each_row.Given as goal

-- the rows of j axes are filled
abbrev pub invariant-loop-j : goal.invariant-loop-j
invariant-loop-j l = Rowed l.reach l.j l.n l.initial.near l.near
