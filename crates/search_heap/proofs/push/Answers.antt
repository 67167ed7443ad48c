use Rattle.search_heap.proofs.HeapLaws.{push_start, pushed, push_full}
use Rattle.std.proofs.Common.{arith}
use Rattle.search_heap.proofs.push.Goals as goal

-- `push` puts x behind the first n and lets it rise.
pub returns-then-a-n : goal.returns-then-a-n
returns-then-a-n c = let st = c in push_full st.args.a.now st.args.n st.args.x (omega arith) st.requires

pub rise-requires : goal.rise-requires
rise-requires c =
    let st = c in
    push_start st.args.a.now st.args.n st.args.x (omega arith) st.requires

pub returns : goal.returns
returns c =
    let st = c in
    pushed st.args.a.now st.args.n st.args.x (omega arith) _ c.rise.ensures
