use Rattle.sound_chains.specs.Chains.{bucket_of, latest}
use Rattle.sound_chains.proofs.ChainLaws.{heads_more, chained_more}
use Rattle.std.proofs.Common.{◌≡◌, ◌∙◌, arith, get_or}
use Rattle.sound_chains.proofs.chain.Goals as goal

pub returns : goal.returns
returns c =
    let ids = c.args.ids.now in
    let g : c.bucket-g.result ≡ bucket_of (get_or ids c.args.i 0) = c.bucket-g.ensures in
    let l : get_or c.args.head.now (bucket_of (get_or ids c.args.i 0)) 0 ≡ latest ids (bucket_of (get_or ids c.args.i 0)) c.args.i = c.requires.2.last (bucket_of (get_or ids c.args.i 0)) (omega arith) in (
      c.from.ensures ∙ rw g l,
      rw g (heads_more ids c.args.i c.args.head.now (omega arith) c.requires.2),
      rw (g, l) (chained_more ids c.args.i c.args.next.now (omega arith) c.requires.3),
    )
