use Rattle.std.proofs.Common.{sym, ◌∙◌, arith, rules}
use Rattle.pagestore.specs.Store.StretchLaws.{set_inner_opens}
use Rattle.pagestore.proofs.CodeLaws.{same_place}
use Rattle.pagestore.proofs.inners.set_inner.Goals as goal

pub returns : goal.returns
returns c = c.write_page.ensures _ (λ s t h w. search rules) ∙ same_place _ c.args.page _ _ (omega arith) ∙ sym (set_inner_opens _ _ _ _)
