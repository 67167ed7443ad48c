use Rattle.acts_fields.proofs.StoreLaws.{copied}
use Rattle.acts_fields.proofs.bytes.put_bytes.Goals as goal

pub returns : goal.returns
returns c = copied _ _ _ _ c.requires c.copy_from_slice.ensures.after
