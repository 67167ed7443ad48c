-- A followed page, judged by what was read of it. Assumes nothing.
use Rattle.std.proofs.Common.{◌≡◌, sym, ap, ◌∙◌, subst, List, [], map, ℕ, Option, Some, None}
use Rattle.lists.specs.Basics.{All, none, concat_map}
use Rattle.lists.specs.Ascending.{Ascending}
use Rattle.lists.specs.Members.{At}
use Rattle.pagestore_page.specs.declared.Leaf.{Leaf}
use Rattle.pagestore_page.specs.declared.Inner.{Inner}
use Rattle.pagestore.specs.Store.{Page, leaf, records_of, entries_in, records_in, view_of, level_at, leaf_at, inner_at}
use Rattle.tree_model.specs.Trees.{rank_of}
use Rattle.tree_model.specs.Sound.{RecordOk}
use Rattle.sound_faults.specs.Faults.{ends, ranks_in, Reached, FailsAt}
use Rattle.sound_faults.specs.Linked.{PageFine}
use Rattle.sound_keys.specs.Judged.{RecordsFine, RecordsBad, LeafJudged, InnerJudged, PageJudged}
use Rattle.sound_keys.specs.declared.Ends.{Ends}
use Rattle.lists.specs.AscendingLaws.{head_no, last_no}
use Rattle.sound_faults.proofs.ViewLaws.{leaf_is, inner_is}

module _ (b : List ℕ) (p d : ℕ) (same : d ≡ (view_of b).d) where
  module _ (x : Leaf) (e : x ≡ leaf_at b p) (h : level_at b p ≡ 0) where
    page : (view_of b).page p ≡ leaf x.count (records_in x)
    unfolding view_of
    page = leaf_is b p x e h

    leaf_ranks : map (rank_of d) (records_in x) ≡ ranks_in (view_of b).d ((view_of b).page p)
    leaf_ranks = ap (λ (k : ℕ). map (rank_of k) (records_in x)) same ∙ sym (ap (ranks_in (view_of b).d) page)

    leaf_fine : RecordsFine d (records_in x) → PageFine (view_of b) p
    leaf_fine f =
        record {
          order = subst (λ (y : Page). Ascending (ranks_in (view_of b).d y)) (sym page) (subst (λ (k : ℕ). Ascending (ranks_in k (leaf x.count (records_in x)))) same f.order);
          records = subst (λ (y : Page). All (RecordOk (view_of b).d) (records_of y)) (sym page) (subst (λ (k : ℕ). All (RecordOk k) (records_in x)) same f.ranges);
        }

    leaf_fails : Reached (view_of b) p → RecordsBad d (records_in x) → FailsAt (view_of b) p
    leaf_fails r (RecordsBad.order n) =
        FailsAt.order r (λ a. n (subst (λ (k : ℕ). Ascending (ranks_in k (leaf x.count (records_in x)))) (sym same) (subst (λ (y : Page). Ascending (ranks_in (view_of b).d y)) page a)))
    leaf_fails r (RecordsBad.field i y at n) =
        FailsAt.field (record { reached = r; at = subst (λ (z : Page). At (records_of z) i y) (sym page) at }) (λ o. n (subst (λ (k : ℕ). RecordOk k y) (sym same) o))

    pub leaf_judged : (r : Option Ends) → Reached (view_of b) p → LeafJudged d (records_in x) r → PageJudged (view_of b) p r
    leaf_judged None r q = leaf_fails r q
    leaf_judged (Some e) r s = (leaf_fine s.0, s.1 ∙ ap head_no leaf_ranks, s.2 ∙ ap last_no leaf_ranks)

module _ (b : List ℕ) (p : ℕ) (x : Inner) (e : x ≡ inner_at b p) (deep : ¬ (level_at b p ≡ 0)) where
  inner_ranks : (d : ℕ) → ranks_in d ((view_of b).page p) ≡ concat_map ends (entries_in x)
  unfolding view_of
  inner_ranks d = ap (ranks_in d) (inner_is b p x e deep)

  inner_records : records_of ((view_of b).page p) ≡ []
  unfolding view_of
  inner_records = ap records_of (inner_is b p x e deep)

  inner_fine : Ascending (concat_map ends (entries_in x)) → PageFine (view_of b) p
  inner_fine a =
      record {
        order = subst Ascending (sym (inner_ranks (view_of b).d)) a;
        records = subst (All (RecordOk (view_of b).d)) (sym inner_records) none;
      }

  inner_fails : Reached (view_of b) p → ¬ Ascending (concat_map ends (entries_in x)) → FailsAt (view_of b) p
  inner_fails r n = FailsAt.order r (λ a. n (subst Ascending (inner_ranks (view_of b).d) a))

  pub inner_judged : (r : Option Ends) → Reached (view_of b) p → InnerJudged (entries_in x) r → PageJudged (view_of b) p r
  inner_judged None r q = inner_fails r q
  inner_judged (Some e) r s = let k = sym (inner_ranks (view_of b).d) in (inner_fine s.0, s.1 ∙ ap head_no k, s.2 ∙ ap last_no k)
