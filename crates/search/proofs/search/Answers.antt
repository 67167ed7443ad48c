use Rattle.std.proofs.Common.{sym, arith, length-take-le}
use Rattle.search.proofs.search.Goals as goal

pub slice_bounds-search_for-end : goal.slice_bounds-search_for-end
slice_bounds-search_for-end c = let S = c in sym (length-take-le _ _ (omega (arith, S.requires.slots, S.requires.few)))
