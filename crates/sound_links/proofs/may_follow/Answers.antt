use Rattle.std.proofs.Common.{sym, ◌∙◌, arith}
use Rattle.lists.specs.Judges.{judge_le}
use Rattle.lists.specs.Judges.{Judges}
use Rattle.sound_faults.proofs.ViewLaws.{page_of_law, page_out, view_level, view_fill}
use Rattle.sound_links.proofs.may_follow.Goals as goal

pub returns-then-not-in_range : goal.returns-then-not-in_range
returns-then-not-in_range c = let b = c.args.index.now in let p = c.args.c in Judges.fault (λ f. page_out b p (sym c.in_range.ensures ∙ c.if-not-in_range.true) f.range)

pub returns-then-above-level : goal.returns-then-above-level
returns-then-above-level c = let b = c.args.index.now in let p = c.args.c in Judges.fault (λ f. omega (arith, f.level, view_level b p, c.level_at-level.ensures, c.if-above-level.true))

pub returns-then-above-level-ne1 : goal.returns-then-above-level-ne1
returns-then-above-level-ne1 c = let b = c.args.index.now in let p = c.args.c in Judges.fault (λ f. omega (arith, f.level, view_level b p, c.level_at-level.ensures, c.if-above-level-ne1.true))

pub returns-then-n-lt-LEAST : goal.returns-then-n-lt-LEAST
returns-then-n-lt-LEAST c = let b = c.args.index.now in let p = c.args.c in Judges.fault (λ f. omega (arith, f.fill.0, view_fill b p, c.count_at-n.ensures, c.if-n-lt-LEAST.true))

pub returns : goal.returns
returns c = let b = c.args.index.now in let p = c.args.c in let n = c.count_at-n.ensures in judge_le c.count_at-n.result _ (λ h. record { range = page_of_law b p (sym c.in_range.ensures ∙ c.if-not-in_range.false); level = omega (arith, view_level b p, c.level_at-level.ensures); fill = (omega (arith, view_fill b p, n, c.if-n-lt-LEAST.false), omega (arith, view_fill b p, n)) }) (λ h f. omega (arith, f.fill.1, view_fill b p, n))
