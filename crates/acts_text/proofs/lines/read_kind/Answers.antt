use Rattle.std.proofs.Common.{sym, ap, ◌∙◌, option_and_then}
use Rattle.acts_text.specs.Acts.{numbered}
use Rattle.acts_text.proofs.CellLaws.{kind_is}
use Rattle.acts_text.proofs.lines.read_kind.Goals as goal

pub returns : goal.returns
returns c =
    kind_is c.in_ok-read_natural.field-0 c.try_from.result c.ok.result c.try_from.ensures c.ok.ensures.value
    ∙ ap (option_and_then numbered) (sym c.in_ok-read_natural.was ∙ c.read_natural.ensures)
