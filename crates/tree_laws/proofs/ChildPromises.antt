-- choose_last (01): insert goes to the last child whose first key is not above the new key, else to the first child.
use Rattle.std.specs.Prelude.{◌≡◌, refl, List, [], ◌∷◌, map, ℕ, zero, suc, ◌≤◌, ◌<◌, leb, length}
use Rattle.std.proofs.Common.{ap, ◌∙◌, inl, inr, ⊎_elim, arith, leb-true, leb-false}
use Rattle.std.proofs.lemmas.List.{length-map}
use Rattle.lists.specs.Basics.{if, All, none, also, concat_map, all_left, all_map}
use Rattle.lists.specs.Ascending.{Ascending, none, one, more, head_or}
use Rattle.lists.specs.Choices.{bool_cases}
use Rattle.lists.specs.Counts.{mult, mult_not}
use Rattle.lists.specs.Members.{At, here, next, all_spot, concat_map_find}
use Rattle.lists.specs.Parts.{head_of}
use Rattle.lists.specs.AscendingBy.{AscendingBy, step, rising_of, rising_left, rising_right, rising_cross}
use Rattle.lists.specs.Tests.{decide}
use Rattle.pagestore_page.specs.declared.Entry.{Entry}
use Rattle.pagestore.specs.Store.{inner_at, entries_in, level_at, view_of}
use Rattle.tree_model.specs.Trees.{Item, records, pages, no_record, rank_of, entry_of, tree_of}
use Rattle.tree_model.specs.Sound.{SoundIndex}
use Rattle.tree_model.specs.Inserting.{not_above, choose}
use Rattle.tree_model.specs.TreeLaws.{no_pages_law}
use Rattle.tree_laws.specs.Shapes.{Ok, Some, Root, ok_root, records_some, first_rank_law}
use Rattle.tree_laws.specs.LevelLaws.{root_level_law}
use Rattle.tree_laws.specs.Frames.{Held}
use Rattle.tree_laws.specs.InsertSim.{inner_items}
use Rattle.tree_laws.specs.Wholes.{tree_pages, sound_whole}
use Rattle.tree_laws.specs.ChildPromises.{first_rank, LastNotAbove}

-- ---- ON ENTRIES WHOSE FIRST KEYS ASCEND

last_of : (k : ℕ) (u : Entry) (es : List Entry) → AscendingBy first_rank es → LastNotAbove k (u ∷ es) (not_above k es)
unfolding not_above
last_of k u [] r = record { within = omega arith; reached = inl refl; behind = none }
last_of k u (e ∷ es) (step g r) =
    let h = last_of k e es r in
    bool_cases (λ c. LastNotAbove k (u ∷ e ∷ es) (if c (suc (not_above k es)) 0)) (leb (first_rank e) k)
    (λ t. let l : first_rank e ≤ k = leb-true _ _ t in
    record { within = omega (arith, h.within); reached = inr (⊎_elim (λ z. rw z (omega arith)) (λ w. w) h.reached); behind = h.behind })
    (λ t. let l : k < first_rank e = leb-false _ _ t in
    record { within = omega arith; reached = inl refl; behind = also l (all_map (λ y (w : first_rank e < first_rank y). omega arith) g) })

pub choose_last : (k : ℕ) (es : List Entry) → 0 < length es → Ascending (map first_rank es) → LastNotAbove k es (choose k es)
unfolding choose
choose_last k [] h a = absurd (omega arith)
choose_last k (u ∷ es) h a = last_of k u es (rising_right first_rank (u ∷ []) es (rising_of first_rank (u ∷ es) a))

-- ---- ON THE TREE OF A SOUND INDEX

-- where the records ascend, so do the first keys of the children
firsts_ascend : (d l : ℕ) (ts : List (Item (suc l))) → All (Ok (suc l)) ts → AscendingBy (rank_of d) (concat_map (records (suc l)) ts) → Ascending (map first_rank (map (entry_of d l) ts))
unfolding concat_map
firsts_ascend d l [] o r = none
firsts_ascend d l (t ∷ []) o r = one
firsts_ascend d l (t ∷ u ∷ ts) (also p (also q o)) r =
    let below = rising_cross (rank_of d) (records (suc l) t) (concat_map (records (suc l)) (u ∷ ts)) r (head_or no_record (records (suc l) u))
    (λ P a. head_of no_record (records_some (suc l) u q) (all_left (records (suc l) u) _ a)) in
    let first : first_rank (entry_of d l t) < first_rank (entry_of d l u) = rw (first_rank_law d l t, first_rank_law d l u) (head_of no_record (records_some (suc l) t p) below) in
    more first (firsts_ascend d l (u ∷ ts) (also q o) (rising_right (rank_of d) (records (suc l) t) _ r))

rising_at : (d l : ℕ) {ts : List (Item l)} {i : ℕ} {t : Item l} → At ts i t → AscendingBy (rank_of d) (concat_map (records l) ts) → AscendingBy (rank_of d) (records l t)
unfolding concat_map
rising_at d l (here {x = t} {xs = ts}) r = rising_left (rank_of d) (records l t) _ r
rising_at d l (next {x = t} {xs = ts} a) r = rising_at d l a (rising_right (rank_of d) (records l t) _ r)

-- at each inner page of a tree that is held
page_last : (d l : ℕ) (b : List ℕ) (k p : ℕ) (t : Item (suc l)) → Root l t → Held d (suc l) b t → AscendingBy (rank_of d) (records (suc l) t)
    → 0 < mult p (pages (suc l) t) → 0 < level_at b p → LastNotAbove k (entries_in (inner_at b p)) (choose k (entries_in (inner_at b p)))
unfolding Held Some pages records mult
page_last d zero b k p t o h r m v =
    decide p t.0
    (λ e. let z : level_at b p ≡ 0 = ap (level_at b) e ∙ root_level_law d zero b t h in absurd (omega (arith, z)))
    (λ n. absurd (omega (arith, m, mult_not p t.0 (concat_map (pages 0) t.1) n, ap (mult p) (no_pages_law t.1))))
page_last d (suc l) b k p t o h r m v =
    decide p t.0
    (λ e. rw (e, inner_items d l b t h)
    (choose_last k (map (entry_of d l) t.1) (omega (arith, o.some, length-map t.1 (entry_of d l))) (firsts_ascend d l t.1 o.subs r)))
    (λ n. let w = concat_map_find (pages (suc l)) p t.1 (omega (arith, m, mult_not p t.0 (concat_map (pages (suc l)) t.1) n)) in
    page_last d l b k p w.1 (ok_root l w.1 (all_spot o.subs w.2)) (all_spot h.1 w.2) (rising_at d (suc l) w.2 r) w.3 v)

-- The entries are those among which `insert_at` chooses, at each inner page of the tree.
pub insert_child : (b : List ℕ) → SoundIndex b → (p : ℕ) → 0 < mult p (tree_pages b) → 0 < level_at b p → (k : ℕ)
    → LastNotAbove k (entries_in (inner_at b p)) (choose k (entries_in (inner_at b p)))
insert_child b s p m v k =
    let w = sound_whole b s in page_last (view_of b).d (view_of b).level b k p (tree_of (view_of b)) w.ok w.held w.order m v
