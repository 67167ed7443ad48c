use Rattle.std.proofs.Common.{sym, ◌∙◌, arith, rules}
use Rattle.pagestore.specs.Store.StretchLaws.{set_leaf_opens}
use Rattle.pagestore.proofs.CodeLaws.{same_place}
use Rattle.pagestore.proofs.leaves.set_leaf.Goals as goal

pub returns : goal.returns
returns c = c.write_page.ensures _ (λ s t h w. search rules) ∙ same_place _ c.args.page _ _ (omega arith) ∙ sym (set_leaf_opens _ _ _)
