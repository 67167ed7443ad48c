-- A new index is sound, holds no record, and every page but the header and the root is free.
use Rattle.std.specs.Prelude.{◌≡◌, eqb, length}
use Rattle.std.proofs.Common.{sym, ◌∙◌, subst, arith, ne_eqb}
use Rattle.std.proofs.Math.Path.{ap}
use mathlib.Core.List.{List, [], ◌∷◌, map}
use Prim.Native.Nat.{ℕ, zero, suc, ◌+◌, ◌-◌, ◌*◌, ◌≤◌}
use Rattle.lists.specs.Basics.{indicator, none, concat_map, range_from}
use Rattle.lists.specs.Counts.{mult, range_from_below, range_from_past, range_from_within}
use Rattle.lists.specs.AscendingBy.{end}
use Rattle.lists.specs.Tests.{by_cases}
use Rattle.pagestore.specs.Store.{pages_in, in_range, free_at, new_index, view_of}
use Rattle.pagestore.specs.Store.RangeLaws.{range_is, range_high, range_zero, range_past, range_same, pages_same}
use Rattle.pagestore.specs.Store.NewLaws.{New, length_new, new_index_law}
use Rattle.tree_model.specs.Trees.{records, pages, ident_of, node, live}
use Rattle.tree_model.specs.Sound.{Permitted, SoundIndex}
use Rattle.tree_model.specs.Inserting.{Shape}
use Rattle.tree_laws.specs.Shapes.{Some}
use Rattle.tree_laws.specs.Frames.{Held}
use Rattle.tree_laws.specs.Wholes.{Whole, Right, shape_at, whole_shape, whole_live, whole_sound, view_d}

none_there : (i : ℕ) → mult i (map ident_of []) ≤ 1
unfolding mult
none_there i = omega arith

-- the bytes lent for a new index
module _ (b : List ℕ) (d : ℕ) (lent : Permitted (length b)) (low : 1 ≤ d) (high : d ≤ 16) where
  count : pages_in b * 1024 ≡ length b
  unfolding pages_in
  count = omega (arith, lent.whole, lent.high)

  two : 2 ≤ pages_in b
  two = omega (arith, count, lent.low)

  new : New b d (new_index b d)
  new = new_index_law b d two (omega arith)

  -- each page but the header is the root or never used
  own : (q : ℕ) → mult q (1 ∷ []) + mult q (range_from 2 (pages_in b - 2)) ≡ indicator (in_range b q)
  unfolding mult
  own zero = omega (arith, range_from_below 0 2 (pages_in b - 2) (omega arith), ap indicator (range_zero b))
  own (suc zero) = omega (arith, range_from_below 1 2 (pages_in b - 2) (omega arith), ap indicator (range_is b 1 (omega arith) (omega (arith, two))))
  own (suc (suc q)) =
      let z : indicator (eqb (suc (suc q)) 1) ≡ 0 = ap indicator (ne_eqb (suc (suc q)) 1 (λ (e : suc (suc q) ≡ 1). omega arith)) in
      by_cases (in_range b (suc (suc q)))
      (λ e. omega (arith, ap indicator e, range_from_within (suc (suc q)) 2 (pages_in b - 2) (omega arith) (omega (arith, range_high b (suc (suc q)) e))))
      (λ e. omega (arith, ap indicator e, range_from_past (suc (suc q)) 2 (pages_in b - 2) (omega (arith, two, range_past b (suc (suc q)) (omega arith) e))))

  whole : Whole d (new_index b d) 0 (1, [])
  unfolding Held node Some pages records concat_map
  whole =
      record {
        features_are = new.features;
        root_is = new.root;
        level_is = new.level;
        held = (new.page, none);
        ok = record { some = tt; most = omega arith; subs = none };
        well = record { rest = new.rest; low = omega (arith, new.fresh); high = omega (arith, new.fresh, two, pages_same b (new_index b d) (length_new b d)) };
        own = λ q. ap (λ (z : List ℕ). mult q (1 ∷ []) + mult q z) new.free ∙ own q ∙ ap indicator (sym (range_same b (new_index b d) q (length_new b d)));
        order = end;
      }

  right : Right d (new_index b d) []
  right =
      record {
        lent = subst Permitted (sym (length_new b d)) lent;
        size_is = omega (arith, new.size, count, length_new b d);
        d_low = low;
        d_high = high;
        ranges = none;
        distinct = λ i. none_there i;
        total_is = new.total;
        most = omega arith;
      }

  pub new_sound : SoundIndex (new_index b d)
  unfolding records concat_map
  new_sound = whole_sound d (new_index b d) 0 (1, []) whole right

  pub new_live : live (view_of (new_index b d)) ≡ []
  unfolding records concat_map
  new_live = whole_live d (new_index b d) 0 (1, []) whole

  pub new_free : free_at (new_index b d) ≡ range_from 2 (pages_in b - 2)
  new_free = new.free

  pub new_features : (view_of (new_index b d)).d ≡ d
  new_features = view_d (new_index b d) ∙ new.features

  -- a root leaf without record
  pub new_shape : ◌≡◌ {A = Shape} (shape_at (new_index b d)) (0, (1, []))
  new_shape = whole_shape d (new_index b d) 0 (1, []) whole
