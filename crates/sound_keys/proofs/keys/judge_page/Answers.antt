use Rattle.sound_faults.proofs.Assembled.{reached_page, rooted}
use Rattle.pagestore.specs.Store.{inner_at, leaf_at, level_at, view_of}
use Rattle.pagestore.specs.Store.RangeLaws.{range_is}
use Rattle.sound_faults.proofs.ViewLaws.{inner_few, leaf_few}
use Rattle.sound_keys.proofs.PageLaws.{inner_judged, leaf_judged}
use Rattle.std.proofs.Common.{◌∙◌, ◌≡◌, refl, sym, arith}
use Rattle.sound_keys.proofs.keys.judge_page.Goals as goal

pub judge_leaf-requires : goal.judge_leaf-requires
unfolding view_of
judge_leaf-requires c = let s = c in let b = s.args.index.now in let p = s.args.p in let r = s.requires.0 in let N = c.item_count-n in let g = (rooted r).features in let h = reached_page r in (N.ensures.0, omega (arith, N.ensures.0, leaf_few b p (leaf_at b p) r refl), omega (arith, g.0, s.requires.1), omega (arith, g.1, s.requires.1), range_is b p h.0 h.1)

pub returns-then-level_at-eq0 : goal.returns-then-level_at-eq0
returns-then-level_at-eq0 c = let s = c in let b = s.args.index.now in let p = s.args.p in let r = s.requires.0 in let N = c.item_count-n in let z : level_at b p ≡ 0 = sym c.level_at.ensures ∙ c.if-level_at-eq0.true in leaf_judged b p s.args.d s.requires.1 (leaf_at b p) refl z c.judge_leaf.result r c.judge_leaf.ensures

pub judge_inner-requires : goal.judge_inner-requires
judge_inner-requires c = let s = c in let b = s.args.index.now in let p = s.args.p in let r = s.requires.0 in let N = c.item_count-n in (N.ensures.1, omega (arith, N.ensures.1, inner_few b p r))

pub returns-else-level_at-eq0 : goal.returns-else-level_at-eq0
returns-else-level_at-eq0 c = let s = c in let b = s.args.index.now in let p = s.args.p in let r = s.requires.0 in let N = c.item_count-n in inner_judged b p (inner_at b p) refl (λ z. c.if-level_at-eq0.false (c.level_at.ensures ∙ z)) c.judge_inner.result r c.judge_inner.ensures
