use Rattle.search_rows.specs.Rows.{row_of}
use Rattle.search_rows.proofs.HeldLaws.{held_part, offered_in, offered_out, offered_over, offered_same}
use Rattle.std.proofs.Common.{◌-◌, arith}
use Rattle.search_rows.proofs.offer.Goals as goal

pub returns-then-n-k : goal.returns-then-n-k
returns-then-n-k c =
    let S = c in
    let a = S.args in
    let W = c in
    let hs = a.highs.now in let ls = a.lows.now in let x = row_of W.of-words.result.high W.of-words.result.low in
    let o = c.slide in
    offered_same hs ls a.n a.k x a.row _ _ _ W.of-words.ensures.again
    (offered_in hs ls a.n a.k x _ _ S.requires.1 c.if-n-k.true o.auto.highs o.auto.lows o.ensures)

pub returns-then-not-gives_way : goal.returns-then-not-gives_way
returns-then-not-gives_way c =
    let S = c in
    let a = S.args in
    let W = c in
    let hs = a.highs.now in let ls = a.lows.now in let x = row_of W.of-words.result.high W.of-words.result.low in
    let g = c.gives_way in
    offered_same hs ls a.n a.k x a.row _ _ _ W.of-words.ensures.again
    (offered_out hs ls a.n a.k x S.requires.1 c.if-n-k.false (g.ensures.stays c.if-not-gives_way.true))

pub slide-requires-2 : goal.slide-requires-2
slide-requires-2 c =
    let S = c in
    let a = S.args in
    let f = S.requires.1.few in
    let z = (c.gives_way.ensures.gives c.if-not-gives_way.false).0 in
    let l = c.if-n-k.false in
    held_part a.highs.now a.lows.now a.n a.k _ _ S.requires.1 (omega arith) (omega arith) (omega arith)

pub returns : goal.returns
returns c =
    let S = c in
    let a = S.args in
    let W = c in
    let hs = a.highs.now in let ls = a.lows.now in let x = row_of W.of-words.result.high W.of-words.result.low in
    let g = c.gives_way.ensures.gives c.if-not-gives_way.false in
    let z = g.0 in
    let o = c.slide-2.ensures in
    offered_same hs ls a.n a.k x a.row _ _ _ W.of-words.ensures.again
    (offered_over hs ls (a.n - 1) a.n a.k x _ _ S.requires.1 c.if-n-k.false (omega arith) g.1 o)
