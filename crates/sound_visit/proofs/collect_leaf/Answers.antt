use Rattle.std.proofs.Common.{◌≡◌, refl, ap, ◌∙◌, subst, map, ℕ, ◌+◌, arith, take, length-take, ◌++◌}
use lib.ListN.{length-map}
use Rattle.sound_visit.proofs.CollectLaws.{put_step, put_start}
use Rattle.pagestore_page.specs.Layout.{no_record}
use Rattle.pagestore.specs.Store.PageLaws.{records_slots}
use Rattle.tree_model.specs.Trees.{ident_of}
use Rattle.pagestore.specs.Store.{leaf_at, records_in}
use Rattle.sound_visit.proofs.collect_leaf.Goals as goal

pub loop-i-init : goal.loop-i-init
loop-i-init c = (put_start c.args.ids.now c.args.n, put_start c.args.holders.now c.args.n)

pub ident_at-requires : goal.ident_at-requires
ident_at-requires c = omega (arith, c.loop-i-test.true, c.requires.1)

pub loop-i-preserved : goal.loop-i-preserved
loop-i-preserved c =
    let a = c.args in let l = c.loop-i in let t = c.loop-i-test.true in let d = c.ident_at in
    let x = leaf_at a.index.now a.page in let slots = records_slots a.index.now a.page in (
      put_step ident_of no_record x.records l.ids a.ids.now a.n l.i d.result (omega (arith, t, c.requires.1, slots)) (omega (arith, t, l.auto.ids, c.requires.2)) d.ensures l.invariant.0,
      put_step (λ r. a.holder) no_record x.records l.holders a.holders.now a.n l.i a.holder (omega (arith, t, c.requires.1, slots)) (omega (arith, t, l.auto.holders, c.requires.3)) refl l.invariant.1,
    )

pub returns : goal.returns
returns c =
    let a = c.args in let l = c.loop-i in let x = leaf_at a.index.now a.page in let slots = records_slots a.index.now a.page in
    let e : l.i ≡ a.count = omega (arith, l.auto.i-end, c.loop-i-test.false) in
    record {
      count = omega (arith, length-map (records_in x) ident_of, length-take x.count x.records, slots, c.requires.0, c.requires.1);
      idents = subst (λ (k : ℕ). take (a.n + k) l.ids ≡ take a.n a.ids.now ++ map ident_of (take k x.records)) e l.invariant.0
          ∙ ap (λ (k : ℕ). take a.n a.ids.now ++ map ident_of (take k x.records)) c.requires.0;
      pages = subst (λ (k : ℕ). take (a.n + k) l.holders ≡ take a.n a.holders.now ++ map (λ r. a.holder) (take k x.records)) e l.invariant.1
          ∙ ap (λ (k : ℕ). take a.n a.holders.now ++ map (λ r. a.holder) (take k x.records)) c.requires.0;
    }
