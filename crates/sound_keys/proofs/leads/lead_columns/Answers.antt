use Rattle.std.proofs.Common.{◌≡◌, ◌+◌, ◌*◌, ℕ, arith, subst}
use Rattle.pagestore_page.specs.Layout.{leaf_of}
use Rattle.sound_keys.specs.Leads.{Leads}
use Rattle.sound_keys.proofs.leads.lead_columns.Goals as goal

pub loop-q-preserved : goal.loop-q-preserved
loop-q-preserved c =
    let e : 4 * c.loop-q.q + 4 ≡ 4 * (c.loop-q.q + 1) = omega arith in
    subst (λ (k : ℕ). Leads (leaf_of c.args.page.now) k c.args.n c.lead_next.new.tops) e c.lead_next.ensures

pub returns : goal.returns
returns c =
    let e : c.loop-m.m ≡ c.args.d = omega arith in
    subst (λ (k : ℕ). Leads (leaf_of c.args.page.now) k c.args.n c.loop-m.tops) e c.loop-m.invariant
