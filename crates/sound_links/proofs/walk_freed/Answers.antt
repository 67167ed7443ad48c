use Rattle.std.proofs.Common.{ℕ, arith, subst, sym}
use Rattle.lists.specs.Judges.{Judges, judge_eq}
use Rattle.pagestore.specs.Store.{view_of}
use Rattle.sound_links.specs.Marks.{Walked}
use Rattle.sound_links.proofs.WalkLaws.{walk_start, walk_step, walk_done, walk_long, walk_fresh, walk_twice}
use Rattle.sound_links.proofs.walk_freed.Goals as goal

pub loop-k-init : goal.loop-k-init
loop-k-init c =
    let b = c.args.index.now in let m = c.args.freed.now in
    subst (λ (x : ℕ). Walked b m 0 x) (sym c.freed_head-q.ensures) (walk_start b m c.requires.0)

pub returns-then-q-eq0 : goal.returns-then-q-eq0
returns-then-q-eq0 c = Judges.pass (walk_done c.args.index.now c.loop-k.invariant c.if-q-eq0.true)

pub returns-then-fresh-q : goal.returns-then-fresh-q
unfolding view_of
returns-then-fresh-q c =
    Judges.fault (walk_fresh c.args.index.now c.loop-k.invariant (omega (arith, c.loop-k-test.true, c.page_count-pages.ensures)) c.if-q-eq0.false (omega (arith, c.if-fresh-q.true, c.fresh_page-fresh.ensures)))

pub bounds-freed-at : goal.bounds-freed-at
unfolding view_of
bounds-freed-at c = omega (arith, c.loop-k.invariant.size, c.if-fresh-q.false, c.fresh_page-fresh.ensures, c.requires.1)

pub returns-then-freed-at-eq1 : goal.returns-then-freed-at-eq1
unfolding view_of
returns-then-freed-at-eq1 c = Judges.fault (walk_twice c.args.index.now c.loop-k.invariant (omega (arith, c.loop-k-test.true, c.page_count-pages.ensures)) c.if-freed-at-eq1.true)

pub bounds-freed-at-in-loop-k : goal.bounds-freed-at-in-loop-k
unfolding view_of
bounds-freed-at-in-loop-k c = omega (arith, c.loop-k.invariant.size, c.if-fresh-q.false, c.fresh_page-fresh.ensures, c.requires.1)

pub loop-k-preserved : goal.loop-k-preserved
unfolding view_of
loop-k-preserved c =
    walk_step c.args.index.now c.loop-k.invariant (omega (arith, c.loop-k-test.true, c.page_count-pages.ensures)) c.if-q-eq0.false
    (omega (arith, c.if-fresh-q.false, c.fresh_page-fresh.ensures)) c.requires.1 c.if-freed-at-eq1.false c.link_at-q.ensures

pub returns : goal.returns
unfolding view_of
returns c =
    let l = c.loop-k in
    judge_eq l.q 0 (λ e. walk_done c.args.index.now l.invariant e) (λ z. walk_long c.args.index.now l.invariant (omega (arith, c.loop-k-test.false, c.page_count-pages.ensures)) z)
