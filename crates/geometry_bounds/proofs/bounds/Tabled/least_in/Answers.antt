use Rattle.std.proofs.Common.{◌≡◌, ℕ, max, min, length, get_or, sym, ap, ◌∙◌, arith}
use Rattle.geometry.specs.Slices.{lowest_of}
use Rattle.geometry_slices.specs.Questions.{asked_of}
use Rattle.geometry_slices.proofs.PackedLaws.{asked_length}
use Rattle.geometry_bounds.proofs.SpanBoundLaws.{least_whole, least_sliced}
use Rattle.geometry_bounds.proofs.bounds.Tabled.least_in.Goals as goal

pub returns-then-lowest-h : goal.returns-then-lowest-h
returns-then-lowest-h c =
    let a = c.args in let s = a.self.now in let fs = asked_of s.asked.now in
    let e = asked_length s.asked.now s.ready.heights.rows.packed in
    let n = s.ready.heights.nearest a.i (omega (arith, e, c.requires.0)) in
    let h : c.max-h.result ≡ max a.lo (min (get_or s.near.now a.i 0) a.hi) = omega (arith, c.max-h.ensures, c.min.ensures) in
    let w : c.lowest.result ≡ lowest_of (length fs) a.i = c.lowest.ensures ∙ ap (λ (d : ℕ). lowest_of d a.i) (sym e) in
    least_whole fs a.i a.lo a.hi (lowest_of (length fs) a.i) (get_or s.near.now a.i 0) _ _ n c.requires.2 h c.if-h-nearest.true (omega (arith, w, c.if-lowest-h.true)) (s.ready.least a.i c.requires.0)

pub returns-else-h-nearest : goal.returns-else-h-nearest
returns-else-h-nearest c =
    let a = c.args in let s = a.self.now in let fs = asked_of s.asked.now in
    let n = s.ready.heights.nearest a.i (omega (arith, asked_length s.asked.now s.ready.heights.rows.packed, c.requires.0)) in
    let h : c.max-h.result ≡ max a.lo (min (get_or s.near.now a.i 0) a.hi) = omega (arith, c.max-h.ensures, c.min.ensures) in
    least_sliced fs a.i a.lo a.hi (get_or s.near.now a.i 0) _ _ n c.requires.2 h c.slice_in.ensures
