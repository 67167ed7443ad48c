use Rattle.sound_faults.specs.Faults.{FailsAt, RootFill}
use Rattle.pagestore.specs.Store.{page_at, view_of}
use Rattle.lists.specs.Judges.{faults, passes}
use Rattle.sound_check.proofs.FinishLaws.{grown_marks, ready_root, root_freed_law, rooted_of, start_of}
use Rattle.std.proofs.Common.{ℕ, arith, subst, sym}
use Rattle.sound_check.proofs.check_ground.Goals as goal

pub returns-then-not-header_fine : goal.returns-then-not-header_fine
returns-then-not-header_fine c = faults c.header_fine.ensures c.if-not-header_fine.true

pub walk_freed-requires : goal.walk_freed-requires
walk_freed-requires c = let h = passes c.header_fine.ensures c.if-not-header_fine.false in (c.requires.1, h.fresh.1)

pub returns-then-not-walk_freed : goal.returns-then-not-walk_freed
returns-then-not-walk_freed c = faults c.walk_freed.ensures c.if-not-walk_freed.true

pub bounds-freed-root : goal.bounds-freed-root
unfolding view_of
bounds-freed-root c =
    let h = passes c.header_fine.ensures c.if-not-header_fine.false in let o = passes c.walk_freed.ensures c.if-not-walk_freed.false in
    omega (arith, c.root_page-root.ensures, h.root.1, o.marks.size)

pub returns-then-freed-root-eq1 : goal.returns-then-freed-root-eq1
unfolding view_of
returns-then-freed-root-eq1 c =
    let o = passes c.walk_freed.ensures c.if-not-walk_freed.false in
    root_freed_law (view_of c.args.index.now) o c.root_page-root.ensures c.if-freed-root-eq1.true

pub returns-then-not-root_filled : goal.returns-then-not-root_filled
unfolding view_of
returns-then-not-root_filled c =
    let b = c.args.index.now in let h = passes c.header_fine.ensures c.if-not-header_fine.false in let r = c.root_page-root.ensures in
    subst (FailsAt (view_of b)) (sym r)
    (FailsAt.root_fill (rooted_of (view_of b) h) (λ f. faults c.root_filled.ensures c.if-not-root_filled.true (subst (λ (q : ℕ). RootFill (page_at b q)) (sym r) f)))

pub reach-requires : goal.reach-requires
unfolding view_of
reach-requires c =
    let b = c.args.index.now in let h = passes c.header_fine.ensures c.if-not-header_fine.false in let o = passes c.walk_freed.ensures c.if-not-walk_freed.false in
    let r = c.root_page-root.ensures in
    let s = start_of (view_of b) h o r c.if-freed-root-eq1.false (passes c.root_filled.ensures c.if-not-root_filled.false) in
    ready_root (view_of b) s c.requires.0 r c.root_level.ensures

pub returns : goal.returns
unfolding view_of
returns c =
    let b = c.args.index.now in let h = passes c.header_fine.ensures c.if-not-header_fine.false in let o = passes c.walk_freed.ensures c.if-not-walk_freed.false in
    let r = c.root_page-root.ensures in
    (start_of (view_of b) h o r c.if-freed-root-eq1.false (passes c.root_filled.ensures c.if-not-root_filled.false), grown_marks (view_of b) r c.reach.ensures)
