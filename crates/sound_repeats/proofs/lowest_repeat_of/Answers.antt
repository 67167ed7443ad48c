use Rattle.std.proofs.Common.{length-take, arith}
use Rattle.sound_repeats.proofs.lowest_repeat_of.Goals as goal

-- `lowest_repeat_of` hands over the first n.
pub slice_bounds-lowest_repeat-end : goal.slice_bounds-lowest_repeat-end
slice_bounds-lowest_repeat-end c = simp length-take (omega arith)

pub slice_bounds-lowest_repeat-end-2 : goal.slice_bounds-lowest_repeat-end-2
slice_bounds-lowest_repeat-end-2 c = simp length-take (omega arith)

pub lowest_repeat-requires : goal.lowest_repeat-requires
lowest_repeat-requires c = (simp length-take (omega arith), simp length-take (omega arith))
