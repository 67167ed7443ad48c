use Rattle.std.proofs.Common.{◌≡◌, ℕ, ◌-◌, not, ap, refl, sym, ◌∙◌, arith}
use Rattle.lists.specs.Tests.{false_true}
use Rattle.pagestore_page.specs.Layout.{leaf_of}
use Rattle.pagestore.specs.Store.{records_in}
use Rattle.search_rows.specs.Held.{rows_in}
use Rattle.search_leaves.proofs.LeafLaws.{OfferedRecord, offers_from, offers_end, offers_all, held_few, one_offered, record_behind, record_passed, record_taken}
use Rattle.search_leaves.proofs.offer_records.Goals as goal
use Rattle.search_leaves.proofs.offer_records.Goals.{then-not-behind, else-not-behind}

pub loop-i-init : goal.loop-i-init
loop-i-init g c =
    let a = c.args in
    record {
      held = c.requires.held;
      rows = λ q w told. sym (offers_end a.page.now q a.position a.k (leaf_of a.page.now) refl a.count c.requires.number a.count _ (omega arith));
    }

pub loop-i-preserved-then-taken : goal.loop-i-preserved-then-taken
loop-i-preserved-then-taken g c =
    let a = c.args in let L = c.loop-i in let j = L.i - 1 in let d = c.distance-far.result in let O = c.offer-rows in
    let o : OfferedRecord a.page.now j d a.position L.highs L.lows L.rows a.k a.choice O.result O.new.highs O.new.lows =
    elim c.if-not-behind.branch [
      | then-not-behind w ↦ record_taken a.page.now j d a.position L.highs L.lows L.rows a.k a.choice _ _ _ (λ q e. grind arith) (rw c.row_in.ensures at O.ensures)
      | else-not-behind w ↦ false_true (ap not (sym w.if-not-behind.false) ∙ sym w.taken-is ∙ c.if-taken.true)
    ] in
    record {
      held = o.held;
      rows = one_offered (λ i x. goal.D-post g a.distance i x) a.page.now a.count a.position a.k a.choice c.requires.number (rows_in a.highs.now a.lows.now a.n) (held_few a.highs.now a.lows.now a.n a.k c.requires.held)
          L.highs L.lows L.rows L.i j d O.result O.new.highs O.new.lows (omega arith) (omega arith) c.distance-far.ensures L.invariant.rows o;
    }

pub loop-i-preserved : goal.loop-i-preserved
loop-i-preserved g c =
    let a = c.args in let L = c.loop-i in let j = L.i - 1 in let d = c.distance-far.result in
    let o : OfferedRecord a.page.now j d a.position L.highs L.lows L.rows a.k a.choice L.rows L.highs L.lows =
    elim c.if-not-behind.branch [
      | then-not-behind w ↦ record_passed a.page.now j d a.position L.highs L.lows L.rows a.k a.choice L.invariant.held (λ q e. grind arith)
      | else-not-behind w ↦ record_behind a.page.now j d a.position L.highs L.lows L.rows a.k a.choice L.invariant.held (sym c.behind.ensures ∙ w.if-not-behind.false)
    ] in
    record {
      held = o.held;
      rows = one_offered (λ i x. goal.D-post g a.distance i x) a.page.now a.count a.position a.k a.choice c.requires.number (rows_in a.highs.now a.lows.now a.n) (held_few a.highs.now a.lows.now a.n a.k c.requires.held)
          L.highs L.lows L.rows L.i j d L.rows L.highs L.lows (omega arith) (omega arith) c.distance-far.ensures L.invariant.rows o;
    }

pub returns : goal.returns
returns g c =
    let a = c.args in let L = c.loop-i in
    let zero : L.i ≡ 0 = omega arith in
    record {
      held = L.invariant.held;
      rows = λ q w told.
          L.invariant.rows q w told ∙ ap (λ (i : ℕ). offers_from q a.position a.k (records_in (leaf_of a.page.now)) i (rows_in a.highs.now a.lows.now a.n)) zero
          ∙ offers_all a.page.now q a.position a.k (leaf_of a.page.now) refl _ c.requires.number _;
    }
