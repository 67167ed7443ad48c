use Rattle.std.proofs.Common.{◌*◌, ◌+◌, ◌-◌, ◌∙◌, ap, subst, sym, arith}
use Rattle.pagestore.specs.Store.{records_in}
use Rattle.pagestore.specs.Store.PageLaws.{leaf_part}
use Rattle.pagestore.specs.Store.RangeLaws.{range_whole}
use Rattle.pagestore_page.specs.declared.Leaf.{Leaf}
use Rattle.sound_faults.proofs.ViewLaws.{part_length}
use Rattle.sound_keys.specs.Judged.{LeafJudged}
use Rattle.sound_keys.proofs.keys.judge_leaf.Goals as goal

pub slice_bounds-judge_part-end : goal.slice_bounds-judge_part-end
slice_bounds-judge_part-end c = omega (arith, range_whole c.args.index.now c.args.page c.requires.4)

pub judge_part-requires : goal.judge_part-requires
judge_part-requires c = let s = c in let b = s.args.index.now in let p = s.args.page in let e = leaf_part b p (p * 1024 + 1024 - p * 1024) (omega arith) s.requires.4 in (omega (arith, part_length b p s.requires.4), s.requires.0 ∙ ap (λ (x : Leaf). x.count) (sym e), s.requires.1, s.requires.2, s.requires.3)

pub returns : goal.returns
returns c = let s = c in let b = s.args.index.now in let p = s.args.page in let e = leaf_part b p (p * 1024 + 1024 - p * 1024) (omega arith) s.requires.4 in subst (λ (x : Leaf). LeafJudged s.args.d (records_in x) c.judge_part.result) e c.judge_part.ensures
