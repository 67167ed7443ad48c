use Rattle.acts_text.proofs.InputLaws.{feeds}
use Rattle.acts_text.proofs.input.feed.Goals as goal

pub returns : goal.returns
returns c =
    let a = c.args in
    feeds a.held.now _ a.chunk.now a.n a.at c.find-e.result c.min.result c.put_bytes.result c.past.result
    c.requires.0 c.requires.1 c.find-e.ensures.0 c.min.ensures c.put_bytes.ensures c.past.ensures
