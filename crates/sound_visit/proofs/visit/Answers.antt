use Rattle.std.proofs.Common.{◌≡◌, ℕ, arith, subst}
use Rattle.pagestore.specs.Store.{view_of}
use Rattle.sound_pages.proofs.TurnLaws.{pages_start}
use Rattle.sound_pages.specs.Pages.{PagesFine}
use Rattle.sound_visit.proofs.CollectLaws.{gathered_start}
use Rattle.sound_visit.specs.Collect.{Gathered}
use Rattle.sound_visit.proofs.visit.Goals as goal

pub loop-p-init : goal.loop-p-init
loop-p-init c =
    let a = c.args in
    (pages_start (view_of a.index.now) a.ends.now c.requires.3, gathered_start (view_of a.index.now) a.marks.now a.ids.now a.holders.now c.requires.2)

pub keep_page-requires : goal.keep_page-requires
unfolding view_of
keep_page-requires c = (omega (arith, c.loop-p-test.true, c.page_count-p-end.ensures), c.requires.1, c.requires.2, c.loop-p.invariant.0)

pub collect_page-n-requires : goal.collect_page-n-requires
unfolding view_of
collect_page-n-requires c = (omega (arith, c.loop-p-test.true, c.page_count-p-end.ensures), c.requires.2, omega (arith, c.requires.4, c.loop-p.auto.ids, c.loop-p.auto.holders), c.loop-p.invariant.1)

pub loop-p-preserved : goal.loop-p-preserved
loop-p-preserved c = (c.in_ok-keep_page.ensures, c.collect_page-n.ensures)

pub returns : goal.returns
unfolding view_of
returns c =
    let b = c.args.index.now in let l = c.loop-p in
    let e : l.p ≡ (view_of b).count = omega (arith, l.auto.p-end, c.loop-p-test.false, c.page_count-p-end.ensures, c.requires.0) in
    (subst (λ (k : ℕ). PagesFine (view_of b) l.ends k) e l.invariant.0, subst (λ (k : ℕ). Gathered (view_of b) c.args.marks.now k l.n l.ids l.holders) e l.invariant.1)
