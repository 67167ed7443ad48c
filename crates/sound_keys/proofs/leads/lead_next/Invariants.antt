use Rattle.std.proofs.Common.{◌≡◌, ◌+◌, get_or}
use Rattle.pagestore_page.specs.Layout.{leaf_of, no_record}
use Rattle.sound_keys.specs.Leads.{lead_to}
use Rattle.sound_keys.proofs.LeadLaws.{Leading}
use Rattle.sound_keys.proofs.leads.lead_next.Given as goal

abbrev pub invariant-loop-i : goal.invariant-loop-i
invariant-loop-i g l = Leading (leaf_of l.page) l.m (l.m + g.row.K) l.n l.i l.tops

abbrev pub invariant-loop-k : goal.invariant-loop-k
invariant-loop-k g l = l.top ≡ lead_to (l.m + l.k) (get_or (leaf_of l.page).records l.i no_record).coords
