use Rattle.std.proofs.Common.{drop, length-take, length-drop, length-append, arith}
use Rattle.std.proofs.Math.ListN.{get_or-append}
use Rattle.geometry_slices.proofs.PackedLaws.{asked_length, asked_few}
use Rattle.geometry_heights.proofs.heights.fill_heights.Goals as goal

pub slice_bounds-copy_from_slice-end-2 : goal.slice_bounds-copy_from_slice-end-2
slice_bounds-copy_from_slice-end-2 c = omega (arith, length-take 32 c.args.near.now, c.requires.1)

pub copy_from_slice-requires : goal.copy_from_slice-requires
copy_from_slice-requires c = omega (arith, length-take 32 c.args.near.now, c.requires.1, c.nearest_heights.ensures.1)

pub returns : goal.returns
returns c =
    let hs = c.nearest_heights.result in
    let p = c.requires in
    let rest = drop 32 c.args.near.now in
    let few = asked_few c.args.asked.now p.0.packed in
    rw c.copy_from_slice.ensures.after (
      λ i l. rw (get_or-append hs rest 0 i (omega (arith, asked_length c.args.asked.now p.0.packed, few, c.nearest_heights.ensures.1))) (c.nearest_heights.ensures.0 i l),
      omega (arith, length-append hs rest, length-drop 32 c.args.near.now, p.1, c.nearest_heights.ensures.1),
    )
