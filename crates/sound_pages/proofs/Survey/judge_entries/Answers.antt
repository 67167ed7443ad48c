use Rattle.std.proofs.Common.{◌≡◌, ◌*◌, ◌+◌, ℕ, arith, get_or, subst, sym}
use Rattle.sound_faults.specs.Faults.{EntryAt}
use Rattle.pagestore_page.specs.Layout.{no_entry}
use Rattle.pagestore.specs.Store.{inner_at, view_of}
use Rattle.pagestore_page.specs.declared.Entry.{Entry}
use Rattle.sound_faults.proofs.ViewLaws.{entries_most, inner_count, inner_few, slot_entry}
use Rattle.sound_pages.proofs.EntryLaws.{named_before, named_done, named_step}
use Rattle.lists.specs.Judges.{Judges, faults, passes}
use Rattle.sound_pages.specs.Pages.{Named}
use Rattle.sound_pages.proofs.Survey.judge_entries.Goals as goal
use Rattle.sound_pages.proofs.Survey.judge_entries.Goals.{After-entry_at-e}

-- the entry that is read stands at place i
own : (c : After-entry_at-e) → EntryAt (view_of c.args.self.now.index.now) c.args.p c.loop-i.i c.entry_at-e.result
own c =
    let b = c.args.self.now.index.now in let r = c.requires.page.0 in
    let e : Entry = get_or (inner_at b c.args.p).entries c.loop-i.i no_entry in
    subst (EntryAt (view_of b) c.args.p c.loop-i.i) (sym c.entry_at-e.ensures)
    (record { reached = r; at = slot_entry b c.args.p c.loop-i.i r c.requires.page.1 (omega (arith, c.loop-i-test.true, c.item_count-n.ensures.1)) })

pub loop-i-init : goal.loop-i-init
loop-i-init c =
    let b = c.args.self.now.index.now in
    subst (λ (k : ℕ). Named (view_of b) c.args.named.now k) (let z : 16 * c.args.p ≡ 16 * c.args.p + 0 = omega arith in z) c.requires.named

pub entry_at-e-requires : goal.entry_at-e-requires
entry_at-e-requires c = omega (arith, c.loop-i-test.true, c.item_count-n.ensures.1, inner_few c.args.self.now.index.now c.args.p c.requires.page.0)

pub judge_entry-requires : goal.judge_entry-requires
judge_entry-requires c =
    let w = (goal.at.judge_entry-requires c).After-entry_at-e in
    record { known = c.requires.known; entry = record { place = c.loop-i.i; at = own w } }

pub returns-then-not-judge_entry : goal.returns-then-not-judge_entry
returns-then-not-judge_entry c = Judges.fault (faults c.judge_entry.ensures c.if-not-judge_entry.true)

pub bounds-named-at : goal.bounds-named-at
bounds-named-at c = let ok = passes c.judge_entry.ensures c.if-not-judge_entry.false in omega (arith, ok.range.1, c.loop-i.invariant.size)

pub returns-then-named-at-eq1 : goal.returns-then-named-at-eq1
returns-then-named-at-eq1 c =
    let w = (goal.at.returns-then-named-at-eq1 c).After-entry_at-e in
    Judges.fault (named_before c.args.self.now.index.now c.loop-i.invariant (own w) c.if-named-at-eq1.true)

pub bounds-named-at-in-loop-i : goal.bounds-named-at-in-loop-i
bounds-named-at-in-loop-i c = let ok = passes c.judge_entry.ensures c.if-not-judge_entry.false in omega (arith, ok.range.1, c.loop-i.invariant.size)

pub loop-i-preserved : goal.loop-i-preserved
loop-i-preserved c =
    let w = (goal.at.loop-i-preserved c).After-entry_at-e in
    named_step c.args.self.now.index.now c.loop-i.invariant (own w) (passes c.judge_entry.ensures c.if-not-judge_entry.false) c.if-named-at-eq1.false

pub returns : goal.returns
returns c =
    let b = c.args.self.now.index.now in let p = c.args.p in let r = c.requires.page.0 in let n = c.item_count-n.ensures.1 in
    Judges.pass (named_done b p c.loop-i.i (λ h. omega (arith, entries_most b p r, inner_count b p, n, c.loop-i-test.false)) (omega (arith, inner_few b p r, n, c.loop-i.auto.i-end)) c.loop-i.invariant)
