use Rattle.sound_chains.proofs.ChainLaws.{room_kept}
use Rattle.sound_buckets.proofs.chain_and_walk.Goals as goal

pub walks-requires : goal.walks-requires
walks-requires c =
    let st = c.requires in
    let k = c.chains in
    (room_kept _ _ _ _ _ st.0 k.auto.head k.auto.next, st.1, st.2, k.ensures.0, k.ensures.1, st.4)
