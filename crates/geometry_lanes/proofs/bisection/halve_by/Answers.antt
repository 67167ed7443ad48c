use Rattle.std.proofs.Common.{◌≡◌, ◌≢◌, ℕ, ◌+◌, ◌*◌, ◌-◌, ◌<◌, length, get_or, ap, ◌∙◌, get_or-set_other, arith, refl}
use Rattle.geometry_slices.proofs.TableLaws.{filled_none, filled_on}
use Rattle.geometry_lanes.specs.Lanes.{settled_at, turned_at}
use Rattle.geometry_lanes.proofs.bisection.halve_by.Goals as goal

pub overflow_mul-t : goal.overflow_mul-t
overflow_mul-t g c = omega (arith, c.requires.turnable.room c.loop-i.i c.loop-i-test.true, c.loop-i.invariant.waiting c.loop-i.i (omega arith))

pub overflow_add-t : goal.overflow_add-t
overflow_add-t g c = omega (arith, c.requires.turnable.room c.loop-i.i c.loop-i-test.true, c.loop-i.invariant.waiting c.loop-i.i (omega arith))

pub settled-requires : goal.settled-requires
settled-requires g c =
    let r = c.requires.turnable.room c.loop-i.i c.loop-i-test.true in
    let w = c.loop-i.invariant.waiting c.loop-i.i (omega arith) in
    (omega (arith, r, w), omega (arith, r, w))

pub loop-i-init : goal.loop-i-init
loop-i-init g c = record { turned = λ f s. filled_none _ 0 _; waiting = λ k l. refl }

pub loop-i-preserved : goal.loop-i-preserved
loop-i-preserved g c =
    let l = c.loop-i in
    let a = c.args in
    let h = get_or l.heights l.i 0 in
    let t = 2 * h + (2 * a.step - 2) in
    let k : l.i < length l.heights = omega (arith, c.requires.turnable.few, c.requires.turnable.long) in
    record {
      turned = λ f s.
          filled_on (turned_at f a.owns.now a.ends.now a.step) l.i a.heights.now l.heights c.settled.result (l.invariant.turned f s) k
          (c.settled.ensures ∙ ap (λ (x : ℕ). settled_at x (get_or a.owns.now l.i 0) (get_or a.ends.now l.i 0) t a.step h) (s l.i t _ c.loop-i-test.true c.sum.ensures));
      waiting = λ j o. let ne : j ≢ l.i = omega arith in rw get_or-set_other (l.invariant.waiting j (omega arith));
    }

pub returns : goal.returns
returns g c = λ f s. let e : c.loop-i.i ≡ c.args.n = omega arith in rw e at (c.loop-i.invariant.turned f s)
