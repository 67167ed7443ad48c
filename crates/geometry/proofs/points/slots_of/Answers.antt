use Rattle.std.proofs.Common.{◌∙◌, ◌≡◌, List, ℕ, ℤ, arith, get_or, pos, true, w16, to_z, of_z}
use Rattle.geometry.specs.Stored.{in_range}
use Rattle.geometry.proofs.StoredLaws.{in_range_law, range_at, word_back}
use Rattle.geometry.proofs.LoopLaws.{slots_more, slots_end}
use Rattle.geometry.proofs.points.slots_of.Goals as goal

-- the machine's word of a coordinate in range is the coordinate
read_back : (p : List ℤ) (m : ℕ) → in_range p ≡ true → to_z w16 (of_z w16 (get_or p m (pos 0))) ≡ get_or p m (pos 0)
read_back p m r = let h = range_at p m (in_range_law p r) in word_back _ (omega arith)

pub slot-requires : goal.slot-requires
slot-requires c = let p = c.args.p.now in rw (read_back p c.loop-m.m c.requires.1) (range_at p c.loop-m.m (in_range_law p c.requires.1))

pub loop-m-preserved : goal.loop-m-preserved
loop-m-preserved c =
    let p = c.args.p.now in let l = c.loop-m in
    let v = rw (read_back p l.m c.requires.1) at c.slot.ensures in
    rw l.invariant (slots_more p l.m c.slot.result (omega arith) c.requires.0 v)

pub returns : goal.returns
returns c = let p = c.args.p.now in let l = c.loop-m in l.invariant ∙ slots_end p l.m (omega arith)
