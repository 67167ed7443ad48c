use Rattle.pagestore.proofs.CodeLaws.{make_step}
use Rattle.pagestore.proofs.making.make.Goals as goal

pub returns : goal.returns
returns c =
    make_step _ _ _ _ _ _ _ _ _ _ c.page_count-n.ensures c.clear_header.ensures c.set_index_size.ensures c.set_features.ensures c.set_root_page.ensures
    c.set_fresh_page.ensures c.empty_leaf.ensures c.set_leaf.ensures
