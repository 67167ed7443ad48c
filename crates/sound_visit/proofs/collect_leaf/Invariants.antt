use Rattle.std.proofs.Common.{◌≡◌, map, ◌+◌, take, ◌++◌}
use Rattle.tree_model.specs.Trees.{ident_of}
use Rattle.pagestore.specs.Store.{leaf_at}
use Rattle.sound_visit.proofs.collect_leaf.Given as goal

abbrev pub invariant-loop-i : goal.invariant-loop-i
invariant-loop-i l =
    (take (l.n + l.i) l.ids ≡ take l.n l.initial.ids ++ map ident_of (take l.i (leaf_at l.index l.page).records))
    × (take (l.n + l.i) l.holders ≡ take l.n l.initial.holders ++ map (λ r. l.holder) (take l.i (leaf_at l.index l.page).records))
