use Rattle.std.proofs.Common.{◌+◌, ◌≤◌, ◌≡◌, length, set, drop}
use Rattle.search_heap.specs.Heap.{held}
use Rattle.search_heap.specs.Sifting.{Rising}
use Rattle.search_heap.proofs.rise.Given as goal

-- `rise` moves x up. The loop's invariant: with x at h the first n + 1 are a heap but for h, and hold what they held.
abbrev pub invariant-loop-h : goal.invariant-loop-h
invariant-loop-h l =
    (length l.a ≡ length l.initial.a) × (l.n + 1 ≤ length l.a) × Rising (l.n + 1) l.h (set l.a l.h l.x) × (held (l.n + 1) (set l.a l.h l.x) ≡ held (l.n + 1) (set l.initial.a l.initial.h l.x)) × (drop (l.n + 1) l.a ≡ drop (l.n + 1) l.initial.a)

abbrev pub decreases-loop-h : goal.decreases-loop-h
decreases-loop-h l = l.h
