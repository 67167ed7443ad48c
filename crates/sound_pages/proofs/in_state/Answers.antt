use Rattle.lists.specs.Judges.{judge_eq}
use Rattle.lists.specs.Judges.{Judges}
use Rattle.std.proofs.Common.{get_or, inl, inr, arith}
use Rattle.sound_pages.proofs.in_state.Goals as goal

pub returns-then-marks-at-ne0 : goal.returns-then-marks-at-ne0
returns-then-marks-at-ne0 c = Judges.pass (inl (omega (arith, c.if-marks-at-ne0.true)))

pub returns : goal.returns
returns c = let s = c in judge_eq (get_or s.args.freed.now s.args.at 0) 1 (λ h. inr h) (λ n. ((λ z. omega (arith, z, c.if-marks-at-ne0.false)), n))
