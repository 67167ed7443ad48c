use Rattle.std.proofs.Common.{◌≡◌, length}
use Rattle.search_rows.specs.Rows.{row_of}
use Rattle.search_rows.proofs.HeldLaws.{Sliding}
use Rattle.search_rows.proofs.slide.Given as goal

-- `slide` moves rows up from the last on. The loop's invariant: the row put in among those below i, and then those from i + 1 on, is what is to be.
abbrev pub invariant-loop-highs : goal.invariant-loop-highs
invariant-loop-highs l =
    (length l.highs ≡ length l.initial.highs) × (length l.lows ≡ length l.initial.lows) × Sliding l.initial.highs l.initial.lows l.n (row_of l.words.high l.words.low) l.highs l.lows l.i

abbrev pub decreases-loop-highs : goal.decreases-loop-highs
decreases-loop-highs l = l.i
