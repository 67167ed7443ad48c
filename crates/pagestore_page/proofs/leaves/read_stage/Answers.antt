use Rattle.std.proofs.Common.{◌∙◌, arith, rules}
use Rattle.pagestore_bytes.specs.ByteLaws.{le_one}
use Rattle.pagestore_page.proofs.ReadLaws.{stage_read}
use Rattle.pagestore_page.proofs.leaves.read_stage.Goals as goal

pub returns : goal.returns
returns c = c.read.ensures ∙ le_one _ _ ∙ stage_read _ _ _ (search rules) (omega arith)
