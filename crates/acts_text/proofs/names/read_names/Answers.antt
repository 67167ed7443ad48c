use Rattle.acts_text.proofs.PrefixLaws.{names_read, names_unread}
use Rattle.acts_text.proofs.names.read_names.Goals as goal

pub returns-then-starts_with : goal.returns-then-starts_with
returns-then-starts_with c = names_read _ c.starts_with.result _ c.starts_with.ensures.value c.if-starts_with.true c.features_in.ensures

pub returns-else-starts_with : goal.returns-else-starts_with
returns-else-starts_with c = names_unread c.starts_with.result _ c.starts_with.ensures.value c.if-starts_with.false
