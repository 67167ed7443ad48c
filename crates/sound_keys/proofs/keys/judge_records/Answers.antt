use Rattle.std.proofs.Common.{◌≡◌, ◌<◌, ◌∙◌, Bool, ℕ, ap, arith, get_or, length, map, refl, subst, take}
use Rattle.lists.specs.Basics.{All, if, none}
use Rattle.lists.specs.Judges.{faults, passes}
use Rattle.pagestore_page.specs.Layout.{leaf_of, no_record}
use Rattle.pagestore_page.specs.LayoutLaws.{leaf_slots}
use Rattle.pagestore_page.specs.declared.Record.{Record}
use Rattle.sound_faults.specs.Prefixes.{all_more, take_spot}
use Rattle.sound_keys.proofs.SpanLaws.{later_items, ranks_step, ranks_stop, ascending_last, ascending_start}
use Rattle.sound_keys.proofs.KeyLaws.{key_judged, rank_is}
use Rattle.sound_keys.specs.Judged.{RecordsBad, AscendingSpan}
use Rattle.tree_model.specs.Sound.{RecordOk}
use Rattle.tree_model.specs.Trees.{rank_of}
use Rattle.sound_keys.proofs.keys.judge_records.Goals as goal

pub loop-i-init : goal.loop-i-init
loop-i-init c = record { order = ascending_start; ranges = none; turn = refl }

pub bounds-tops-i : goal.bounds-tops-i
bounds-tops-i c = omega (arith, c.requires.5.size, c.loop-i-test.true)

pub lead_key-key-requires : goal.lead_key-key-requires
lead_key-key-requires c = let t = c.loop-i-test.true in (c.requires.0, omega arith, c.requires.3, c.requires.4, c.requires.5.top c.loop-i.i t)

pub read_stage-requires : goal.read_stage-requires
read_stage-requires c = (c.requires.0, omega arith)

pub returns-then-not-record_fine : goal.returns-then-not-record_fine
returns-then-not-record_fine c =
    let x = leaf_of c.args.page.now in let i = c.loop-i.i in let slots = leaf_slots c.args.page.now in
    let r : Record = get_or x.records i no_record in let k = c.lead_key-key in
    RecordsBad.field i r (take_spot no_record x.records i x.count (omega (arith, c.loop-i-test.true, c.requires.1)) (omega (arith, c.requires.1, c.requires.2, slots)))
    (faults (key_judged c.args.d r k.result c.read_stage.result k.ensures c.read_stage.ensures c.record_fine.ensures) c.if-not-record_fine.true)

pub returns-then-own-next : goal.returns-then-own-next
returns-then-own-next c =
    let x = leaf_of c.args.page.now in let l = c.loop-i in let slots = leaf_slots c.args.page.now in
    let r : Record = get_or x.records l.i no_record in let k = c.lead_key-key in let o = c.rank-own in
    RecordsBad.order (ranks_stop (rank_of c.args.d) no_record x.records l.i l.first l.next x.count o.result (omega (arith, c.loop-i-test.true, c.requires.1)) (omega (arith, c.requires.1, c.requires.2, slots))
    (rank_is c.args.d r k.result o.result k.ensures o.ensures.0) l.invariant.order c.if-own-next.true)

pub overflow_add-next : goal.overflow_add-next
overflow_add-next c = omega (arith, c.rank-own.ensures.1)

pub loop-i-preserved : goal.loop-i-preserved
loop-i-preserved c =
    let x = leaf_of c.args.page.now in let l = c.loop-i in let slots = leaf_slots c.args.page.now in
    let r : Record = get_or x.records l.i no_record in let k = c.lead_key-key in let o = c.rank-own in
    let h : l.i < length x.records = omega (arith, c.loop-i-test.true, c.requires.2, slots) in
    record {
      order = ranks_step (rank_of c.args.d) no_record x.records l.i l.first l.next o.result c.first_of-first.result h
          (rank_is c.args.d r k.result o.result k.ensures o.ensures.0) l.invariant.order c.if-own-next.false
          (c.first_of-first.ensures ∙ ap (λ (t : Bool). if t o.result l.first) l.invariant.turn);
      ranges = all_more no_record x.records l.i h l.invariant.ranges
          (passes (key_judged c.args.d r k.result c.read_stage.result k.ensures c.read_stage.ensures c.record_fine.ensures) c.if-not-record_fine.false);
      turn = later_items l.i o.result;
    }

pub returns : goal.returns
returns c =
    let x = leaf_of c.args.page.now in let l = c.loop-i in
    let e : l.i ≡ x.count = omega (arith, c.loop-i-test.false, c.requires.1) in
    let w = subst (λ (k : ℕ). AscendingSpan (map (rank_of c.args.d) (take k x.records)) l.first l.next) e l.invariant.order in
    (record { order = w.ascends; ranges = subst (λ (k : ℕ). All (RecordOk c.args.d) (take k x.records)) e l.invariant.ranges }, w.first, c.saturating_sub.ensures ∙ ascending_last _ _ _ w)
