use Rattle.std.proofs.Common.{arith}
use Rattle.lists.specs.Judges.{judge_le}
use Rattle.lists.specs.Judges.{Judges}
use Rattle.sound_keys.proofs.keys.record_fine.Goals as goal

pub returns-then-k-eq0 : goal.returns-then-k-eq0
returns-then-k-eq0 c = Judges.fault (λ o. omega (arith, o.0, c.if-k-eq0.true))

pub returns-then-stage-gt-MAX_STAGE : goal.returns-then-stage-gt-MAX_STAGE
returns-then-stage-gt-MAX_STAGE c = Judges.fault (λ o. omega (arith, o.1, c.if-stage-gt-MAX_STAGE.true))

pub returns : goal.returns
returns c = judge_le _ _ (λ l. (omega (arith, c.if-k-eq0.false), omega arith, l)) (λ l o. omega (arith, l, o.2))
