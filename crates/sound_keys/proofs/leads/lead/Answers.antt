use Rattle.geometry.proofs.StoredLaws.{coord_magnitude}
use Rattle.pagestore_page.specs.Layout.{leaf_of, no_record}
use Rattle.sound_keys.proofs.LeadLaws.{lead_reads}
use Rattle.std.proofs.Common.{get_or, arith}
use Rattle.sound_keys.proofs.leads.lead.Goals as goal

pub overflow_mul-result : goal.overflow_mul-result
overflow_mul-result c = let R = c.read_coord in let M = c.magnitude-h in omega (arith, M.ensures.0, R.ensures.1, coord_magnitude R.result)

pub overflow_add-result : goal.overflow_add-result
overflow_add-result c = let R = c.read_coord in let M = c.magnitude-h in omega (arith, M.ensures.0, R.ensures.1, coord_magnitude R.result)

pub returns : goal.returns
returns c = let s = c in let R = c.read_coord in let M = c.magnitude-h in lead_reads (get_or (leaf_of s.args.page.now).records s.args.i no_record).coords s.args.m R.result M.result R.ensures.0 M.ensures.0
