use Rattle.std.proofs.Common.{◌≡◌, ◌≤◌, ◌<◌, ◌∙◌, length, [], ◌∷◌, Bool, ℕ, ap, arith, get_or, refl, subst, sym, take}
use Rattle.sound_faults.specs.Faults.{ends}
use Rattle.lists.specs.Basics.{concat_map, if}
use Rattle.pagestore_page.specs.Layout.{no_entry}
use Rattle.pagestore.specs.Store.{inner_at}
use Rattle.pagestore.specs.Store.PageLaws.{entries_slots}
use Rattle.sound_keys.proofs.SpanLaws.{later_items, pair_stop, pairs_step, pairs_stop, ascending_last, ascending_start}
use Rattle.sound_keys.specs.Judged.{AscendingSpan}
use Rattle.sound_keys.proofs.keys.judge_inner.Goals as goal
use Rattle.sound_keys.proofs.keys.judge_inner.Goals.{then-low-next-via-then-low-next, then-low-next-via-else-low-next+then-high-low}

pub loop-i-init : goal.loop-i-init
unfolding concat_map
loop-i-init c = (ascending_start, refl)

pub overflow_add-next : goal.overflow_add-next
overflow_add-next c = omega (arith, c.rank-high.ensures.1)

pub loop-i-preserved : goal.loop-i-preserved
loop-i-preserved c =
    let x = inner_at c.args.index.now c.args.page in let l = c.loop-i in let slots = entries_slots c.args.index.now c.args.page in
    let low = c.rank-low in let high = c.rank-high in
    let e : ends (get_or x.entries l.i no_entry) ≡ low.result ∷ high.result ∷ [] = sym (ap ends c.entry_at-e.ensures) ∙ (λ i. sym low.ensures.0 i ∷ sym high.ensures.0 i ∷ []) in (
      pairs_step ends no_entry x.entries l.i l.first l.next low.result high.result c.first_of-first.result (omega (arith, c.requires.1, c.loop-i-test.true, slots)) e l.invariant.0
          c.if-low-next.false c.if-high-low.false (c.first_of-first.ensures ∙ ap (λ (t : Bool). if t low.result l.first) l.invariant.1),
      later_items l.i high.result,
    )

pub returns : goal.returns
returns c =
    let x = inner_at c.args.index.now c.args.page in let l = c.loop-i in
    let e : l.i ≡ x.count = omega (arith, c.loop-i-test.false, c.requires.0) in
    let w = subst (λ (k : ℕ). AscendingSpan (concat_map ends (take k x.entries)) l.first l.next) e l.invariant.0 in
    (w.ascends, w.first, c.saturating_sub.ensures ∙ ascending_last _ _ _ w)

pub returns-then-low-next : goal.returns-then-low-next
returns-then-low-next c =
    let x = inner_at c.args.index.now c.args.page in let l = c.loop-i in let slots = entries_slots c.args.index.now c.args.page in
    let low = c.rank-low in let high = c.rank-high in
    let e : ends (get_or x.entries l.i no_entry) ≡ low.result ∷ high.result ∷ [] = sym (ap ends c.entry_at-e.ensures) ∙ (λ i. sym low.ensures.0 i ∷ sym high.ensures.0 i ∷ []) in
    let h : l.i < x.count = omega (arith, c.loop-i-test.true, c.requires.0) in
    let m : x.count ≤ length x.entries = omega (arith, c.requires.0, c.requires.1, slots) in
    elim c.then-low-next.branch [
      | then-low-next-via-then-low-next w ↦ pairs_stop ends no_entry x.entries l.i l.first l.next x.count low.result high.result h m e l.invariant.0 w.if-low-next.true
      | then-low-next-via-else-low-next+then-high-low w ↦ pair_stop ends no_entry x.entries l.i l.first l.next x.count low.result high.result h m e l.invariant.0 w.if-low-next.false w.if-high-low.true
    ]
