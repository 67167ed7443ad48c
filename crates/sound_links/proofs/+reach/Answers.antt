use Rattle.std.proofs.Common.{◌≡◌, ℕ, ◌-◌, get_or, ap, refl, subst, sym, ◌∙◌, arith}
use Rattle.pagestore_page.specs.Layout.{no_entry}
use Rattle.pagestore_page.specs.declared.Entry.{Entry}
use Rattle.pagestore.specs.Store.{inner_at, level_at, view_of}
use Rattle.sound_faults.proofs.Assembled.{reached_page}
use Rattle.sound_faults.proofs.ViewLaws.{entries_most, inner_count, inner_few, slot_entry, view_level}
use Rattle.lists.specs.Judges.{faults, passes}
use Rattle.sound_links.proofs.MarkLaws.{going_done, going_grown, going_ready, going_skip, going_start, no_entries}
use Rattle.sound_links.specs.Marks.{Follows, Grown, Ready}
use Rattle.sound_links.proofs.+reach.Goals as goal
use Rattle.sound_links.proofs.+reach.Goals.{then-may_follow, else-may_follow}

pub bounds-marks-at : goal.bounds-marks-at
bounds-marks-at t c = omega (arith, c.requires.marks.size, (reached_page c.requires.reached).1)

pub bounds-marks-at-2 : goal.bounds-marks-at-2
bounds-marks-at-2 t c = omega (arith, c.requires.marks.size, (reached_page c.requires.reached).1)

pub returns-then-marks-at-ne0 : goal.returns-then-marks-at-ne0
returns-then-marks-at-ne0 t c = record { size = refl; marks = c.requires.marks; keep = λ q h. h; done = omega (arith, c.if-marks-at-ne0.true) }

pub returns-then-level-eq0 : goal.returns-then-level-eq0
returns-then-level-eq0 t c =
    let b = c.args.index.now in
    let p = c.args.page in
    let m = c.args.marks.now in
    going_done (view_of b) p (going_start (view_of b) p m c.requires.marks) c.requires.reached
    (no_entries ((view_of b).page p) (c.requires.level ∙ c.if-level-eq0.true)) (omega (arith, c.requires.level, c.if-level-eq0.true))

pub loop-i-init : goal.loop-i-init
loop-i-init t c = going_start (view_of c.args.index.now) c.args.page c.args.marks.now c.requires.marks

pub entry_at-e-requires : goal.entry_at-e-requires
entry_at-e-requires t c = omega (arith, c.loop-i-test.true, c.item_count-i-end.ensures.1, inner_few c.args.index.now c.args.page c.requires.reached)

pub overflow_sub-level : goal.overflow_sub-level
overflow_sub-level t c = omega (arith, (passes c.may_follow.ensures c.if-may_follow.true).level)

pub reach-requires : goal.reach-requires
reach-requires t c =
    let b = c.args.index.now in
    let p = c.args.page in
    let r = c.requires.reached in
    let l = c.loop-i in
    let deep : ¬ (level_at b p ≡ 0) = λ z. c.if-level-eq0.false (sym c.requires.level ∙ view_level b p ∙ z) in
    let e : Entry = get_or (inner_at b p).entries l.i no_entry in
    let a = slot_entry b p l.i r deep (omega (arith, c.loop-i-test.true, c.item_count-i-end.ensures.1)) in
    let k = ap (λ (f : Entry). f.child) c.entry_at-e.ensures in
    let f = passes c.may_follow.ensures c.if-may_follow.true in (
      omega (arith, c.decreases, f.level),
      subst (λ (q : ℕ). Ready (view_of b) l.marks q (c.args.level - 1)) (sym k)
          (going_ready (view_of b) p e l.invariant r c.requires.level a (subst (Follows (view_of b) c.args.level) k f)),
    )

pub loop-i-preserved : goal.loop-i-preserved
loop-i-preserved t c =
    let b = c.args.index.now in
    let p = c.args.page in
    let r = c.requires.reached in
    let l = c.loop-i in
    let deep : ¬ (level_at b p ≡ 0) = λ z. c.if-level-eq0.false (sym c.requires.level ∙ view_level b p ∙ z) in
    let e : Entry = get_or (inner_at b p).entries l.i no_entry in
    let a = slot_entry b p l.i r deep (omega (arith, c.loop-i-test.true, c.item_count-i-end.ensures.1)) in
    let k = ap (λ (f : Entry). f.child) c.entry_at-e.ensures in
    elim c.if-may_follow.branch [
      | then-may_follow w ↦ going_grown (view_of b) p e l.invariant a w.marks-is (subst (Grown (view_of b) l.marks w.reach.new.marks) k w.reach.ensures)
      | else-may_follow w ↦ going_skip (view_of b) p e l.invariant a w.marks-is
          (λ f. faults c.may_follow.ensures w.if-may_follow.false (subst (Follows (view_of b) c.args.level) (sym k) (subst (λ (z : ℕ). Follows (view_of b) z e.child) c.requires.level f)))
    ]

pub returns : goal.returns
returns t c =
    let b = c.args.index.now in
    let p = c.args.page in
    let r = c.requires.reached in
    going_done (view_of b) p c.loop-i.invariant r (omega (arith, entries_most b p r, inner_count b p, c.item_count-i-end.ensures.1, c.loop-i-test.false)) (omega (arith, c.from.ensures, c.requires.level))
