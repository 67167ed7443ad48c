use Rattle.std.proofs.Common.{◌≡◌, eqb, take}
use Rattle.sound_faults.specs.Faults.{ends}
use Rattle.lists.specs.Basics.{concat_map}
use Rattle.pagestore.specs.Store.{inner_at}
use Rattle.sound_keys.specs.Judged.{AscendingSpan}
use Rattle.sound_keys.proofs.keys.judge_inner.Given as goal

abbrev pub invariant-loop-i : goal.invariant-loop-i
invariant-loop-i l = AscendingSpan (concat_map ends (take l.i (inner_at l.index l.page).entries)) l.first l.next × (eqb l.i 0 ≡ eqb l.next 0)
