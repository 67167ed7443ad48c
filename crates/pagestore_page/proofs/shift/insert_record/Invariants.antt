use Rattle.std.proofs.Common.{◌≡◌, ◌≤◌, length}
use Rattle.lists.specs.Shift.{raised}
use Rattle.pagestore_page.proofs.shift.insert_record.Given as goal

abbrev pub invariant-loop-i : goal.invariant-loop-i
invariant-loop-i l = (l.at ≤ l.i) × (length l.rs ≡ 16) × (l.rs ≡ raised l.initial.rs l.i l.n)
