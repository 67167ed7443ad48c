use Rattle.std.proofs.Common.{◌*◌}
use Rattle.pagestore_page.specs.Layout.{leaf_of}
use Rattle.sound_keys.specs.Leads.{Leads}
use Rattle.sound_keys.proofs.leads.lead_columns.Given as goal

abbrev pub invariant-loop-q : goal.invariant-loop-q
invariant-loop-q l = Leads (leaf_of l.page) (4 * l.q) l.n l.tops

abbrev pub invariant-loop-m : goal.invariant-loop-m
invariant-loop-m l = Leads (leaf_of l.page) l.m l.n l.tops
