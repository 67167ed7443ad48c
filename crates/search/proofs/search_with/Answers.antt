use Rattle.std.proofs.Common.{◌∙◌, rules, arith}
use Rattle.search_model.specs.Asked.{asking}
use Rattle.search_model.proofs.AskedLaws.{preparable}
use Rattle.search_model.proofs.RoomLaws.{room_most}
use Rattle.search.proofs.AnswerLaws.{level_low, answer_some, searched}
use Rattle.search.proofs.search_with.Goals as goal

pub prepare-requires : goal.prepare-requires
prepare-requires g c = preparable _ _ _ c.requires.looks.seekable (search rules) (search rules)

pub is_unweighted-requires : goal.is_unweighted-requires
is_unweighted-requires g c = c.requires.looks.seekable.packed

pub invariant_of-sought : goal.invariant_of-sought
invariant_of-sought g c = record { flag = c.is_unweighted.ensures.0 }

pub whole_as_slice-best_first : goal.whole_as_slice-best_first
whole_as_slice-best_first g c = let r = room_most c.args.index.now in let e = c.requires.room in omega arith

pub best_first-requires : goal.best_first-requires
best_first-requires g c =
    let L = c.requires.looks in
    record {
      seekable = L.seekable;
      ready = c.prepare.ensures;
      low = level_low c.args.index.now c.requires.some;
      one = L.one;
      room = search rules;
      room_highs = L.room_highs;
      room_lows = L.room_lows;
    }

pub returns : goal.returns
returns g c =
    let a = c.args in let B = c.best_first in let q = asking a.asked.now a.k a.choice in
    searched a.index.now q _ _ _ c.requires.looks.one B.ensures.held.few (B.ensures.answer ∙ answer_some a.index.now q c.requires.some)
