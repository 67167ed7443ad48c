use Rattle.std.proofs.Common.{sym, ◌∙◌}
use Rattle.pagestore.specs.Store.PageLaws.{leaf_counts, inner_counts, page_fill}
use Rattle.sound_keys.proofs.keys.item_count.Goals as goal

pub returns : goal.returns
returns c = let S = c in let b = S.args.index.now in let p = S.args.page in let e = c.from.ensures ∙ c.count_at.ensures in (e ∙ sym (leaf_counts b p), e ∙ sym (inner_counts b p), e ∙ sym (page_fill b p))
