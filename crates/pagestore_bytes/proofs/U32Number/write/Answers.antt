use Rattle.std.proofs.Common.{◌≡◌, ◌/◌}
use Rattle.std.proofs.Math.Nat.{div-div-eq-div-mul}
use Rattle.pagestore_bytes.specs.Bytes.{le_bytes}
use Rattle.pagestore_bytes.specs.ByteLaws.{length_le}
use Rattle.pagestore_bytes.proofs.StoreLaws.{part_put}
use Rattle.pagestore_bytes.proofs.U32Number.write.Goals as goal

pub returns : goal.returns
unfolding le_bytes
returns c =
    let v = c.args.self in
    let a : v / 256 / 256 ≡ v / 65536 = div-div-eq-div-mul v 256 256 in
    let b : v / 65536 / 256 ≡ v / 16777216 = div-div-eq-div-mul v 65536 256 in
    part_put _ _ (le_bytes 4 v) c.args.at 4 c.requires (length_le 4 v) (cc)
