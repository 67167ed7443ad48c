use Rattle.pagestore_page.specs.Layout.{leaf_of}
use Rattle.sound_keys.proofs.LeadLaws.{leads_fewer, leads_start}
use Rattle.sound_keys.proofs.keys.judge_part.Goals as goal

pub lanes-requires : goal.lanes-requires
lanes-requires c = c.requires.2

pub lead_columns-requires : goal.lead_columns-requires
lead_columns-requires c = let s = c in let N = c.lanes in (s.requires.0, s.requires.4, N.ensures.1, leads_start (leaf_of s.args.page.now) N.result 16 N.ensures.1)

pub judge_records-requires : goal.judge_records-requires
judge_records-requires c = let s = c in (s.requires.0, s.requires.1, s.requires.2, s.requires.3, s.requires.4, leads_fewer c.lead_columns.ensures c.lanes.ensures.0)

pub returns : goal.returns
returns c = c.judge_records.ensures
