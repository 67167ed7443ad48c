use Rattle.std.proofs.Common.{arith}
use Rattle.pagestore.specs.Store.RangeLaws.{pages_few}
use Rattle.search_model.proofs.RoomLaws.{room_some}
use Rattle.search.proofs.TurnLaws.{visiting_start, visiting_turns, visiting_ends, visiting_leaf, visiting_opens, visiting_open}
use Rattle.search.proofs.visit.best_first.Goals as goal

pub bounds-slots-0 : goal.bounds-slots-0
bounds-slots-0 c = let S = (c) in let r = S.requires.room in let s = room_some S.args.index.now in omega arith

pub overflow_mul-steps : goal.overflow_mul-steps
overflow_mul-steps c = let e = c.page_count-steps.ensures in let f = pages_few c.args.index.now in omega arith

pub loop-tables-init : goal.loop-tables-init
loop-tables-init c = visiting_start _ _ _ _ _ c.args.sought.now.choice _ _ _ _ _ c.requires c.root_key.ensures c.page_count-steps.ensures

pub goes_on-requires : goal.goes_on-requires
goes_on-requires c = visiting_turns _ _ _ _ _ _ _ _ _ _ _ _ _ _ c.loop-tables.invariant

pub visit_leaf-rows-requires : goal.visit_leaf-rows-requires
visit_leaf-rows-requires c = (c.requires.seekable, omega (arith, c.place_in-place.ensures), c.loop-tables.invariant.holds)

pub loop-tables-preserved-then-level-eq0 : goal.loop-tables-preserved-then-level-eq0
loop-tables-preserved-then-level-eq0 c = let P = c.pop-key in let W = c.visit_leaf-rows in
    visiting_leaf _ _ _ _ _ _ _ _ _ _ _ _ _ _ c.loop-tables.invariant (c.goes_on.ensures.goes c.loop-tables-test.true) _ _ P.ensures P.auto.a
    _ _ _ _ _ _ c.level_in-level.ensures c.place_in-place.ensures c.page_in-page.ensures c.if-level-eq0.true W.ensures W.auto.highs W.auto.lows

pub open_page-n-requires : goal.open_page-n-requires
open_page-n-requires c = let P = c.pop-key in
    visiting_opens _ _ _ _ _ _ _ _ _ _ _ _ _ _ c.loop-tables.invariant (c.goes_on.ensures.goes c.loop-tables-test.true) _ _ P.ensures P.auto.a _ _ _ c.level_in-level.ensures c.place_in-place.ensures c.page_in-page.ensures c.if-level-eq0.false

pub loop-tables-preserved : goal.loop-tables-preserved
loop-tables-preserved c = let P = c.pop-key in let O = c.open_page-n in
    visiting_open _ _ _ _ _ _ _ _ _ _ _ _ _ _ c.loop-tables.invariant (c.goes_on.ensures.goes c.loop-tables-test.true) _ _ P.ensures P.auto.a _ _ _ c.level_in-level.ensures c.place_in-place.ensures c.page_in-page.ensures c.if-level-eq0.false _ _ (O.ensures _ _) O.auto.slots

pub returns : goal.returns
returns c = visiting_ends _ _ _ _ _ _ _ _ _ _ _ _ _ _ c.loop-tables.invariant (c.goes_on.ensures.ends c.loop-tables-test.false)
