use Rattle.std.proofs.Common.{◌≡◌, refl, is_some, unwrap_or, rules}
use Rattle.acts_step.proofs.TakeLaws.{ended_first, ended_later}
use Rattle.acts_step.proofs.input.end_line.Goals as goal

pub returns-then-s-eq1 : goal.returns-then-s-eq1
returns-then-s-eq1 c =
    let F = c.first_line-begun in
    let g : c.is_some.result ≡ is_some F.result.d = search rules in
    let d : c.unwrap_or.result ≡ unwrap_or F.result.d 0 = search rules in
    (ended_first _ _ _ _ _ c.args.s F.result.d _ _ _ c.if-s-eq1.true g d F.ensures, refl)

pub returns : goal.returns
returns c = (ended_later _ _ _ _ _ c.args.s _ c.if-s-eq1.false c.step-end.ensures, refl)
