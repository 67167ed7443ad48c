use Rattle.geometry_slices.specs.Questions.{row_from, Filled}
use Rattle.geometry_slices.specs.Tables.{row_in}
use Rattle.geometry_slices.proofs.tables.fill_row.Given as goal

-- m places of the row are filled
abbrev pub invariant-loop-m : goal.invariant-loop-m
invariant-loop-m l = Filled (row_in l.reach l.j) (row_from l.j) l.m l.initial.near l.near
