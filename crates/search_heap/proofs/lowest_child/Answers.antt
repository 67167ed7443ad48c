use Rattle.std.proofs.Common.{◌+◌, arith}
use Rattle.search_heap.proofs.HeapLaws.{least_pair, least_join, least_all}
use Rattle.search_heap.proofs.lowest_child.Goals as goal

pub lower-requires : goal.lower-requires
lower-requires c =
    let left = c.args.left in
    let a = c.args.a.now in
    let c₁ = least_pair left _ (left + 2) a _ (omega arith) (omega arith) c.lower-c.ensures in
    let c₂ = least_pair (left + 2) _ (left + 4) a _ (omega arith) (omega arith) c.lower-e.ensures in
    let h = c₁.high in
    let g = c₂.high in
    (omega arith, omega arith)

pub returns-then-left-n : goal.returns-then-left-n
returns-then-left-n c =
    let left = c.args.left in
    let a = c.args.a.now in
    let c₁ = least_pair left _ (left + 2) a _ (omega arith) (omega arith) c.lower-c.ensures in
    let c₂ = least_pair (left + 2) _ (left + 4) a _ (omega arith) (omega arith) c.lower-e.ensures in
    least_all left c.args.n (left + 4) a _ (omega arith) (least_join left (left + 2) (left + 4) a _ _ _ c₁ c₂ c.lower.ensures)

pub returns : goal.returns
returns c =
    let S = c in least_all S.args.left S.args.n S.args.n S.args.a.now _ (omega arith) c.least_from.ensures
