use Rattle.std.proofs.Common.{◌∙◌, rules, leb, nat_abs}
use Rattle.std.proofs.lemmas.Iterator.{YieldsList-from_slice}
use Rattle.std.proofs.lemmas.Iterator.Search.{all_from_yields_List}
use Rattle.geometry.proofs.LoopLaws.{range_all}
use Rattle.geometry.proofs.points.in_range.Goals as goal

-- every coordinate passes the test just where the whole is in range
pub returns : goal.returns
returns c =
    all_from_yields_List (λ x. leb (nat_abs x) 1000) _ _ _ c.all.ensures.ran (YieldsList-from_slice c.args.p.now cc) (λ x b q k. search rules)
    ∙ range_all c.args.p.now
