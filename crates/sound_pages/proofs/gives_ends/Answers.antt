use Rattle.std.proofs.Common.{◌∙◌, sym}
use Rattle.lists.specs.Judges.{Judges, judge_eq}
use Rattle.sound_pages.proofs.gives_ends.Goals as goal

pub returns-then-rank-kept : goal.returns-then-rank-kept
returns-then-rank-kept c = Judges.fault (λ k. c.if-rank-kept.true (c.rank.ensures.0 ∙ k.first))

pub returns : goal.returns
returns c =
    let r = c.rank-2 in
    judge_eq r.result c.args.kept.last (λ h. record { first = sym c.rank.ensures.0 ∙ c.if-rank-kept.false; last = sym r.ensures.0 ∙ h }) (λ n k. n (r.ensures.0 ∙ k.last))
