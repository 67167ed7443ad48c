use Rattle.std.proofs.Common.{sym, arith, length-take-le}
use borrow.Author.Tests.{not-true, not-false}
use Rattle.acts_step.proofs.TakeLaws.{fed_few, takes_on, takes_line}
use Rattle.acts_step.proofs.input.take_line.Goals as goal

pub returns-then-not-fed : goal.returns-then-not-fed
returns-then-not-fed c = let F = c.feed-fed in takes_on _ _ _ _ c.args.s c.requires.1 _ F.result F.ensures F.auto.held (not-true _ c.if-not-fed.true)

pub slice_bounds-end_line-end : goal.slice_bounds-end_line-end
slice_bounds-end_line-end c =
    let F = c.feed-fed in let w = c.requires.1 in let x = w.line in let y = F.auto.held in let z = fed_few _ _ c.args.s w _ F.result F.ensures in
    omega arith

pub slice_bounds-end_line-end-2 : goal.slice_bounds-end_line-end-2
slice_bounds-end_line-end-2 c =
    let F = c.feed-fed in let w = c.requires.1 in let x = w.line in let y = F.auto.held in let z = fed_few _ _ c.args.s w _ F.result F.ensures in
    sym (length-take-le F.result.held F.new.held (omega arith))

pub returns : goal.returns
returns c =
    let F = c.feed-fed in let E = c.end_line in
    takes_line _ _ _ _ c.args.s c.requires.1 _ F.result F.ensures F.auto.held _ _ E.result (not-false _ c.if-not-fed.false) E.ensures.0 E.ensures.1
