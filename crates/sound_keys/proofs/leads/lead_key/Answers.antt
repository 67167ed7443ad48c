use Rattle.std.proofs.Common.{◌≤◌, get_or, length, ◌∙◌, arith}
use Rattle.pagestore_page.specs.Layout.{leaf_of, no_record}
use Rattle.pagestore_page.specs.declared.Record.{Record}
use Rattle.sound_keys.proofs.LeadLaws.{coords_length, lead_height, lead_inside, lead_key, lead_pyramid}
use Rattle.sound_keys.proofs.leads.lead_key.Goals.{Start}
use Rattle.sound_keys.proofs.leads.lead_key.Goals as goal

-- the record, which has d coordinates
abbrev own : Start → Record
own s = get_or (leaf_of s.args.page.now).records s.args.i no_record

room : (s : Start) → s.args.d ≤ length (own s).coords
room s = omega (arith, coords_length s.args.page.now s.args.i s.requires.1, s.requires.3)

pub pyramid_no-requires : goal.pyramid_no-requires
pyramid_no-requires c =
    let s = (goal.at.pyramid_no-requires c).Start in
    (lead_inside (own s).coords s.args.d s.requires.2 (room s) s.requires.3 s.requires.4, s.requires.3)

pub returns : goal.returns
returns c =
    let x = c.read_coord in
    let s = (goal.at.returns c).Start in
    lead_key (own s) s.args.d _
    (c.pyramid_no.ensures ∙ lead_pyramid (own s).coords s.args.d s.requires.2 (room s) {x = x.result} s.requires.3 s.requires.4
    (omega (arith, x.ensures.0)))
    (lead_height (own s).coords s.args.d s.requires.2 (room s) s.requires.4)
    c.read_ident.ensures
