use Rattle.std.proofs.Common.{arith}
use Rattle.geometry_slices.specs.Questions.{size_of}
use Rattle.geometry_slices.proofs.PackedLaws.{asked_few}
use Rattle.geometry_lanes.proofs.TurnLaws.{lanes_few, lanes_cover, lanes_enough}
use Rattle.geometry_heights.proofs.FillLaws.{falls_none}
use Rattle.geometry_heights.proofs.heights.search_lanes.Goals as goal

pub lanes-n-requires : goal.lanes-n-requires
lanes-n-requires c = asked_few c.args.asked.now c.requires.0.packed

pub axes_of-axes-requires : goal.axes_of-axes-requires
axes_of-axes-requires c =
    let few = asked_few c.args.asked.now c.requires.0.packed in (few, omega (arith, c.lanes-n.ensures, lanes_few (size_of c.args.asked.now) few))

pub fill_falls-requires : goal.fill_falls-requires
fill_falls-requires c =
    let a = c.args in let p = c.requires in let d = size_of a.asked.now in let e = c.lanes-n.ensures in (
      record {
        asked = p.0;
        lined = c.axes_of-axes.ensures;
        few = omega (arith, e, lanes_few d (asked_few a.asked.now p.0.packed));
        cover = omega (arith, e, lanes_cover d);
      },
      falls_none a.asked.now a.falls.now p.1,
    )

pub fill_weights-requires : goal.fill_weights-requires
fill_weights-requires c =
    let a = c.args in let p = c.requires in let d = size_of a.asked.now in let e = c.lanes-n.ensures in
    (p.0, omega (arith, e, lanes_few d (asked_few a.asked.now p.0.packed)), p.2)

pub bisect-requires : goal.bisect-requires
bisect-requires c =
    let a = c.args in let p = c.requires in let d = size_of a.asked.now in let e = c.lanes-n.ensures in
    let few = asked_few a.asked.now p.0.packed in (
      record {
        asked = p.0;
        few = lanes_few d few;
        cover = lanes_cover d;
        enough = lanes_enough d few;
        falling = c.fill_falls.ensures;
        weighing = rw e at c.fill_weights.ensures;
        owning = c.owns_of-owns.ensures;
        ending = c.ends_of-ends.ensures;
      },
      p.3,
    )
