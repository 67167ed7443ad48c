use Rattle.std.proofs.Common.{◌≡◌, ℕ, ◌+◌, length, sym, ap, ◌∙◌}
use Rattle.geometry.specs.Slices.{lowest_of}
use Rattle.geometry_slices.specs.Questions.{size_of, asked_of}
use Rattle.geometry_slices.proofs.PackedLaws.{asked_length}
use Rattle.geometry_bounds.proofs.SpanBoundLaws.{bound_one, bound_more}
use Rattle.geometry_bounds.proofs.bounds.Tabled.bound_between.Goals as goal

pub returns-then-i2-i1 : goal.returns-then-i2-i1
returns-then-i2-i1 c = let a = c.args in bound_one (asked_of a.self.now.asked.now) a.i1 a.h1 a.i2 a.h2 _ c.if-i2-i1.true c.least_in.ensures

pub returns : goal.returns
returns c =
    let a = c.args in let s = a.self.now in let fs = asked_of s.asked.now in
    let e = asked_length s.asked.now s.ready.heights.rows.packed in
    let w : c.lowest-low.result ≡ lowest_of (length fs) a.i2 = c.lowest-low.ensures ∙ ap (λ (d : ℕ). lowest_of d a.i2) (sym e) in
    c.min.ensures ∙ bound_more fs s.whole.now (size_of s.asked.now + size_of s.asked.now) a.i1 a.h1 a.i2 a.h2 _ _ _ _ s.ready.least c.if-i2-i1.false c.requires.last w c.least_in-first.ensures c.between-best.ensures c.least_in-2.ensures
