use Rattle.std.proofs.Common.{◌≡◌, sym, ◌∙◌, arith}
use Rattle.lists.specs.Judges.{judge_le}
use Rattle.lists.specs.Judges.{Judges}
use Rattle.pagestore.specs.Store.{page_at, level_of}
use Rattle.sound_links.proofs.MarkLaws.{root_fill_leaf, root_fill_most, root_fill_inner, root_fill_few}
use Rattle.pagestore.specs.Store.PageLaws.{page_level, page_fill}
use Rattle.sound_links.proofs.root_filled.Goals as goal

pub returns-then-n-gt-MOST : goal.returns-then-n-gt-MOST
returns-then-n-gt-MOST c = let b = c.args.index.now in let p = c.args.root in Judges.fault (root_fill_most (page_at b p) (omega (arith, page_fill b p, c.count_at-n.ensures, c.if-n-gt-MOST.true)))

pub returns-then-level_at-eq0 : goal.returns-then-level_at-eq0
returns-then-level_at-eq0 c = let b = c.args.index.now in let p = c.args.root in Judges.pass (root_fill_leaf (page_at b p) (page_level b p ∙ sym c.level_at.ensures ∙ c.if-level_at-eq0.true) (omega (arith, page_fill b p, c.count_at-n.ensures, c.if-n-gt-MOST.false)))

pub returns : goal.returns
returns c = let b = c.args.index.now in let p = c.args.root in let deep : ¬ (level_of (page_at b p) ≡ 0) = λ z. c.if-level_at-eq0.false (c.level_at.ensures ∙ sym (page_level b p) ∙ z) in judge_le 2 c.count_at-n.result (λ h. root_fill_inner (page_at b p) deep (omega (arith, page_fill b p, c.count_at-n.ensures)) (omega (arith, page_fill b p, c.count_at-n.ensures, c.if-n-gt-MOST.false))) (λ h. root_fill_few (page_at b p) deep (omega (arith, page_fill b p, c.count_at-n.ensures)))
