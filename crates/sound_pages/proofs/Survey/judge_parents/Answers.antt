use Rattle.std.proofs.Common.{◌≡◌, ◌*◌, ℕ, arith, subst}
use Rattle.sound_faults.specs.Faults.{FailsAt}
use Rattle.pagestore.specs.Store.{view_of}
use Rattle.lists.specs.Judges.{faults, passes}
use Rattle.sound_pages.proofs.TurnLaws.{named_start}
use Rattle.sound_pages.specs.Pages.{Named}
use Rattle.sound_pages.proofs.Survey.judge_parents.Goals as goal

pub loop-p-init : goal.loop-p-init
loop-p-init c = named_start (view_of c.args.self.now.index.now) c.args.named.now c.requires.clear

pub judge_parent-requires : goal.judge_parent-requires
unfolding view_of
judge_parent-requires c = record { known = c.requires.known; page = omega (arith, c.loop-p-test.true, c.page_count-p-end.ensures); named = c.loop-p.invariant }

pub returns-then-not-judge_parent : goal.returns-then-not-judge_parent
returns-then-not-judge_parent c = (c.loop-p.auto.p, FailsAt.entry (faults c.judge_parent.ensures c.if-not-judge_parent.true))

pub loop-p-preserved : goal.loop-p-preserved
loop-p-preserved c = passes c.judge_parent.ensures c.if-not-judge_parent.false

pub returns : goal.returns
unfolding view_of
returns c =
    let b = c.args.self.now.index.now in let l = c.loop-p in
    let e : l.p ≡ (view_of b).count = omega (arith, l.auto.p-end, c.loop-p-test.false, c.page_count-p-end.ensures, c.requires.some) in
    subst (λ (k : ℕ). Named (view_of b) l.named (16 * k)) e l.invariant
