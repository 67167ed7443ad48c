use Rattle.std.proofs.Common.{ap, ◌∙◌, arith}
use Rattle.sound_chains.specs.Repeats.{lower_page}
use Rattle.sound_chains.proofs.ChainLaws.{met_none, met_apart, met_same}
use Rattle.sound_chains.proofs.met.Goals as goal

-- `met` is `met_of`.
pub returns-then-k-eq0 : goal.returns-then-k-eq0
returns-then-k-eq0 c = let a = c.args in rw c.if-k-eq0.true (met_none a.ids.now a.pages.now a.i a.best)

pub returns-then-ids-o : goal.returns-then-ids-o
returns-then-ids-o c =
    let a = c.args in
    met_apart a.ids.now a.pages.now a.i a.k a.best (omega arith) c.if-ids-o.true

pub returns : goal.returns
returns c =
    let a = c.args in
    c.lower_page-2.ensures ∙ ap (lower_page a.best) c.lower_page.ensures
    ∙ met_same a.ids.now a.pages.now a.i a.k a.best (omega arith) c.if-ids-o.false
