use Rattle.std.proofs.Common.{sym, ◌∙◌}
use Rattle.acts_fields.proofs.DigitLaws.{natural_bad, natural_value}
use Rattle.acts_fields.proofs.fields.read_natural.Goals as goal

pub returns-then-ill_formed : goal.returns-then-ill_formed
returns-then-ill_formed c = natural_bad _ _ (sym c.ill_formed.ensures ∙ c.if-ill_formed.true)

pub returns : goal.returns
returns c = natural_value _ _ _ (sym c.ill_formed.ensures ∙ c.if-ill_formed.false) c.value_of.ensures
