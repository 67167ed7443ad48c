use Rattle.std.proofs.Common.{sym, arith}
use Rattle.search_model.specs.Asked.{asking}
use Rattle.search_model.proofs.RoomLaws.{room_small, room_middle, room_large, room_full}
use Rattle.search.proofs.AnswerLaws.{answer_none, searched}
use Rattle.search.proofs.search_for.Goals as goal

pub returns-then-reads_none : goal.returns-then-reads_none
returns-then-reads_none c =
    let a = c.args in let q = asking a.asked.now a.k a.choice in
    searched a.index.now q _ _ _ c.requires.one (omega arith) (answer_none a.index.now q (sym c.if-reads_none.ensures))

pub search_with-requires-clause-room : goal.search_with-requires-clause-room
search_with-requires-clause-room c = room_small c.args.index.now _ c.total_records-total.ensures c.if-few.true

pub search_with-requires-then-some-clause-room : goal.search_with-requires-then-some-clause-room
search_with-requires-then-some-clause-room c = room_middle c.args.index.now _ c.total_records-total.ensures c.if-few.false c.if-some.true

pub search_with-requires-then-many-clause-room : goal.search_with-requires-then-many-clause-room
search_with-requires-then-many-clause-room c = room_large c.args.index.now _ c.total_records-total.ensures c.if-some.false c.if-many.true

pub search_with-requires-else-many-clause-room : goal.search_with-requires-else-many-clause-room
search_with-requires-else-many-clause-room c = room_full c.args.index.now _ c.total_records-total.ensures c.if-many.false
