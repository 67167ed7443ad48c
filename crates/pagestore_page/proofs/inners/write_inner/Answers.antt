use Rattle.std.proofs.Common.{◌≡◌, refl, length, arith, rules}
use Rattle.lists.specs.Basics.{tabulate, concat_map}
use Rattle.lists.specs.Lengths.{unmapped}
use Rattle.pagestore_bytes.specs.Bytes.{put}
use Rattle.pagestore_bytes.specs.ByteLaws.{concat_map_next}
use Rattle.pagestore_page.specs.Layout.{entry_bytes}
use Rattle.pagestore_page.specs.LayoutLaws.{length_entry}
use Rattle.pagestore_page.proofs.WriteLaws.{entries_put, inner_put}
use Rattle.pagestore_page.proofs.inners.write_inner.Goals as goal

pub loop-i-init : goal.loop-i-init
unfolding concat_map tabulate put
loop-i-init c = search rules

pub loop-i-preserved : goal.loop-i-preserved
loop-i-preserved c = concat_map_next entry_bytes 20 length_entry _ _ _ c.loop-i.i _ _ _ _ refl refl c.loop-i.invariant c.put_entry.ensures

pub returns : goal.returns
returns c =
    let L = c.loop-i in
    let S = c.args in
    let F = c.filled-n in
    let slots : length S.inner.entries ≡ 16 = search (unmapped, rules) in
    inner_put _ S.inner F.result slots F.ensures
    (entries_put S.page.now _ L.page _ L.i S.inner.level F.result _ c.requires (omega arith) (omega arith) c.put_head.ensures L.invariant c.clear.ensures)
