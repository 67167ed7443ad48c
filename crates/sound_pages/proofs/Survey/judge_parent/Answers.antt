use Rattle.std.proofs.Common.{arith}
use Rattle.sound_faults.proofs.ViewLaws.{view_level}
use Rattle.lists.specs.Judges.{Judges}
use Rattle.sound_pages.proofs.EntryLaws.{named_below}
use Rattle.sound_pages.proofs.Survey.judge_parent.Goals as goal

pub returns-then-self-at-le1 : goal.returns-then-self-at-le1
returns-then-self-at-le1 c = Judges.pass (named_below c.args.self.now.index.now c.args.p c.requires.known.marks c.if-self-at-le1.true c.requires.named)

pub judge_entries-requires : goal.judge_entries-requires
judge_entries-requires c =
    let k = c.requires.known in let p = c.args.p in let many = c.if-self-at-le1.false in
    let r = k.marks.reached p (omega (arith, many)) in
    record { known = k; page = (r, λ z. absurd (omega (arith, many, k.marks.all p r, view_level c.args.self.now.index.now p, z))); named = c.requires.named }
