use Rattle.search_heap.specs.Sifting.{LeastIn}
use Rattle.search_heap.proofs.least_from.Given as goal

-- `least_from` goes through the places. The loop's invariant: c holds the least of those before i.
abbrev pub invariant-loop-i : goal.invariant-loop-i
invariant-loop-i l = LeastIn l.left l.i l.a l.c
