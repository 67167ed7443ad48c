use Rattle.std.proofs.Common.{arith, ◌≡◌, sym, ap, ◌∙◌, ℕ, max, ◌+◌, ◌<◌, length, get_or, length-set}
use Rattle.lists.specs.Basics.{below_stored}
use Rattle.geometry_slices.specs.Questions.{size_of, asked_of}
use Rattle.geometry.specs.Slices.{lowest_of, least_in}
use Rattle.geometry_slices.proofs.PackedLaws.{asked_length, asked_few}
use Rattle.geometry.proofs.SpanLaws.{lowest_le_one}
use Rattle.geometry_slices.proofs.WholeLaws.{whole_is}
use Rattle.geometry_slices.proofs.tables.fill_whole.Goals as goal

pub slice_in-requires : goal.slice_in-requires
slice_in-requires c =
    let a = c.args in let p = c.requires.0 in let l = c.loop-i in
    let k : l.i < size_of a.asked.now + size_of a.asked.now = omega (arith, l.invariant) in
    let n = p.nearest l.i (omega (arith, k, asked_length a.asked.now p.rows.packed)) in
    (p.rows, k, omega (arith, c.max.ensures, n.high, c.lowest.ensures, lowest_le_one (size_of a.asked.now) l.i))

pub loop-i-preserved : goal.loop-i-preserved
loop-i-preserved c =
    let a = c.args in let p = c.requires.0 in let l = c.loop-i in let fs = asked_of a.asked.now in
    let e = asked_length a.asked.now p.rows.packed in
    let few = asked_few a.asked.now p.rows.packed in
    let k : l.i < size_of a.asked.now + size_of a.asked.now = omega (arith, l.invariant) in
    let n = p.nearest l.i (omega (arith, k, e)) in
    let w : c.lowest.result ≡ lowest_of (length fs) l.i = c.lowest.ensures ∙ ap (λ (d : ℕ). lowest_of d l.i) (sym e) in
    let h : c.max.result ≡ max (lowest_of (length fs) l.i) (get_or a.near.now l.i 0) = c.max.ensures ∙ ap (λ (x : ℕ). max x (get_or a.near.now l.i 0)) w in (
      length-set l.whole l.i c.slice_in.result ∙ l.invariant.0,
      below_stored (λ (x v : ℕ). v ≡ least_in fs x (lowest_of (length fs) x) 1000) l.whole l.i c.slice_in.result 0 (omega (arith, k, few, l.invariant)) l.invariant.1 (whole_is fs l.i (lowest_of (length fs) l.i) (get_or a.near.now l.i 0) _ _ n h c.slice_in.ensures),
    )
