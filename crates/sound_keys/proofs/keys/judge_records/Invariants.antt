use Rattle.std.proofs.Common.{◌≡◌, map, eqb, take}
use Rattle.lists.specs.Basics.{All}
use Rattle.pagestore_page.specs.Layout.{leaf_of}
use Rattle.sound_keys.specs.Judged.{AscendingSpan}
use Rattle.tree_model.specs.Sound.{RecordOk}
use Rattle.tree_model.specs.Trees.{rank_of}
use Rattle.sound_keys.proofs.keys.judge_records.Given as goal

abbrev pub invariant-loop-i : goal.invariant-loop-i
invariant-loop-i l = record {
  order : AscendingSpan (map (rank_of l.d) (take l.i (leaf_of l.page).records)) l.first l.next;
  ranges : All (RecordOk l.d) (take l.i (leaf_of l.page).records);
  turn : eqb l.i 0 ≡ eqb l.next 0;
}
