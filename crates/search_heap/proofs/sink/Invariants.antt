use Rattle.std.proofs.Common.{◌-◌, ◌≤◌, ◌≡◌, length, set, drop}
use Rattle.search_heap.specs.Heap.{held}
use Rattle.search_heap.specs.Sifting.{Sinking}
use Rattle.search_heap.proofs.sink.Given as goal

-- `sink` moves x down. The loop's invariant: with x at h the first n are a heap but for h, and hold what they held.
abbrev pub invariant-loop-a : goal.invariant-loop-a
invariant-loop-a l = (length l.a ≡ length l.initial.a) × (l.n ≤ length l.a) × Sinking l.n l.h (set l.a l.h l.x) × (held l.n (set l.a l.h l.x) ≡ held l.n (set l.initial.a l.initial.h l.x)) × (drop l.n l.a ≡ drop l.n l.initial.a)

abbrev pub decreases-loop-a : goal.decreases-loop-a
decreases-loop-a l = l.n - l.h
