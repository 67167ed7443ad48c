use Rattle.std.proofs.Common.{◌≡◌, ℕ, ◌+◌, arith, get_or, subst}
use Rattle.pagestore_page.specs.Layout.{leaf_of, no_record}
use Rattle.sound_keys.specs.Leads.{lead_to}
use Rattle.sound_keys.proofs.LeadLaws.{lead_more_by, lead_same, leading_done, leading_start, leading_step}
use Rattle.sound_keys.proofs.leads.lead_next.Goals as goal

pub loop-i-init : goal.loop-i-init
loop-i-init g c = leading_start (leaf_of c.args.page.now) c.args.m (c.args.m + g.row.K) c.args.n c.requires.3

pub loop-k-init : goal.loop-k-init
loop-k-init g c = lead_same _ c.args.m (c.args.m + 0) (omega arith) (c.loop-i.invariant.left c.loop-i.i (omega arith) c.loop-i-test.true)

pub loop-k-preserved : goal.loop-k-preserved
loop-k-preserved g c =
    lead_more_by _ (c.args.m + c.loop-k.k) (c.args.m + (c.loop-k.k + 1)) (omega arith) c.lead.ensures c.max-top.ensures c.loop-k.invariant

pub loop-i-preserved : goal.loop-i-preserved
loop-i-preserved g c =
    let x = leaf_of c.args.page.now in
    let e : c.loop-k.k ≡ g.row.K = omega arith in
    leading_step x c.args.m (c.args.m + g.row.K) c.args.n c.loop-i.invariant c.loop-i-test.true
    (λ _. subst (λ (k : ℕ). c.loop-k.top ≡ lead_to (c.args.m + k) (get_or x.records c.loop-i.i no_record).coords) e c.loop-k.invariant)

pub returns : goal.returns
returns g c = leading_done (leaf_of c.args.page.now) c.args.m (c.args.m + g.row.K) c.args.n c.loop-i.invariant c.loop-i-test.false
