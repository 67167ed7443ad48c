use Rattle.std.proofs.Common.{◌≡◌, ◌<◌, ◌∙◌, arith, get_or, sym}
use Rattle.sound_faults.proofs.Assembled.{reached_page}
use Rattle.sound_faults.specs.Faults.{EntryFault}
use Rattle.pagestore.specs.Store.{level_of, view_of}
use Rattle.sound_pages.proofs.EndsLaws.{ends_fault, first_right, last_right}
use Rattle.sound_pages.proofs.EntryLaws.{mark_level, mark_other, mark_reached, past_fresh, reached_fill}
use Rattle.lists.specs.Judges.{Judges, judge_map}
use Rattle.sound_faults.proofs.ViewLaws.{view_level}
use Rattle.sound_pages.specs.Pages.{no_ends}
use Rattle.sound_pages.proofs.Survey.judge_entry.Goals as goal

pub returns-then-fresh_page-c : goal.returns-then-fresh_page-c
unfolding view_of
returns-then-fresh_page-c c =
    let b = c.args.self.now.index.now in let n = c.requires.entry in
    Judges.fault (past_fresh (view_of b) c.args.p n.place c.args.e n.at (omega (arith, c.if-fresh_page-c.true, c.fresh_page.ensures)))

pub bounds-self-at : goal.bounds-self-at
unfolding view_of
bounds-self-at c = let k = c.requires.known in omega (arith, c.if-fresh_page-c.false, c.fresh_page.ensures, k.fresh, k.marks.size)

pub returns-then-self-at : goal.returns-then-self-at
returns-then-self-at c =
    let b = c.args.self.now.index.now in let n = c.requires.entry in let k = c.requires.known in
    let l = c.from.ensures ∙ c.level_at.ensures ∙ sym (view_level b c.args.p) in
    Judges.fault (mark_other (view_of b) k.marks c.args.p n.place c.args.e n.at (λ z. c.if-self-at.true (z ∙ sym l)))

pub returns-then-c-root_page : goal.returns-then-c-root_page
unfolding view_of
returns-then-c-root_page c = Judges.fault (EntryFault.root c.requires.entry.at (c.if-c-root_page.true ∙ c.root_page.ensures))

pub bounds-self-at-2 : goal.bounds-self-at-2
unfolding view_of
bounds-self-at-2 c = let k = c.requires.known in omega (arith, c.if-fresh_page-c.false, c.fresh_page.ensures, k.fresh, k.freed.size)

pub returns-then-self-at-eq1 : goal.returns-then-self-at-eq1
unfolding view_of
returns-then-self-at-eq1 c = Judges.fault (EntryFault.freed c.requires.entry.at (c.requires.known.freed.freed c.args.e.child c.if-self-at-eq1.true))

pub bounds-self-at-3 : goal.bounds-self-at-3
unfolding view_of
bounds-self-at-3 c = let k = c.requires.known in omega (arith, c.if-fresh_page-c.false, c.fresh_page.ensures, k.fresh, k.pages.room)

pub returns : goal.returns
unfolding view_of
returns c =
    let s = c.args.self.now in let b = s.index.now in let p = c.args.p in let e = c.args.e in
    let i = c.requires.entry.place in let a = c.requires.entry.at in let k = c.requires.known in
    let h : get_or s.marks.now e.child 0 ≡ level_of ((view_of b).page p) = c.if-self-at.false ∙ c.from.ensures ∙ c.level_at.ensures ∙ sym (view_level b p) in
    let u : e.child < (view_of b).count = omega (arith, c.if-fresh_page-c.false, c.fresh_page.ensures, k.fresh) in
    let nr : ¬ (e.child ≡ (view_of b).root) = λ z. c.if-c-root_page.false (z ∙ sym c.root_page.ensures) in
    let r = mark_reached (view_of b) k.marks p i e a h in
    let fill = reached_fill r nr in
    let kept = get_or s.ends.now e.child no_ends in
    let x = k.pages.pages e.child u r in let f = k.pages.first e.child u r in let g = k.pages.last e.child u r in
    judge_map (λ w. record {
      range = reached_page r;
      level = mark_level (view_of b) k.marks p i e a h;
      fill = fill;
      first = first_right b kept p i e a fill x f g w;
      last = last_right b kept p i e a fill x f g w;
      root = nr;
      freed = k.freed.other e.child c.if-self-at-eq1.false;
      fresh = omega (arith, c.if-fresh_page-c.false, c.fresh_page.ensures);
    }) (ends_fault b kept p i e a fill x f g) c.gives_ends.ensures
