use Rattle.std.proofs.Common.{sym, inl, inr, length-take-le}
use Rattle.acts_step.specs.Advances.{last}
use Rattle.acts_step.proofs.input.end_input.Goals as goal

-- `input::end_input` meets its contract. Assumes nothing.
pub slice_bounds-end_line-end : goal.slice_bounds-end_line-end
slice_bounds-end_line-end c = sym (length-take-le _ _ c.requires.1)

pub returns-then-s-eq1 : goal.returns-then-s-eq1
returns-then-s-eq1 c = last (inl c.if-s-eq1.true) c.end_line.ensures.0

pub slice_bounds-end_line-end-2 : goal.slice_bounds-end_line-end-2
slice_bounds-end_line-end-2 c = sym (length-take-le _ _ c.requires.1)

pub returns : goal.returns
returns c = last (inr c.if-n-eq0.false) c.end_line-2.ensures.0
