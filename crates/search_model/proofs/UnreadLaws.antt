-- Whatever bytes the pages of the leaves left unread hold, the search gives the rows and the count of the sound index (demand 3).
use Rattle.std.proofs.Common.{◌≡◌, refl, sym, ap, ◌∙◌, Bool, true, not, List, [], ◌∷◌, map, ℕ, zero, suc, ◌+◌, ◌*◌, ◌≤◌, ◌<◌, ◌/◌, arith, length, ltb, ltb-true, ltb-false, lt-ltb}
use Rattle.lists.specs.Basics.{All, none, also, all_map, concat_map}
use Rattle.lists.specs.Tests.{false_true, by_cases}
use Rattle.lists.specs.Sorting.{filter}
use Rattle.lists.specs.SortingLaws.{filter_first, filter_past}
use Rattle.lists.specs.ConcatMapLaws.{all_both, all_every, map_append}
use Rattle.lists.specs.Counts.{mult, mult_self, mult_more, mult_append, all_of_mult}
use Rattle.search_theory.specs.Nearest.{in_set}
use Rattle.search_theory.proofs.Promises as flatly
use Rattle.search_rows.proofs.RowLaws.{row_order_law}
use Rattle.pagestore_page.specs.declared.Leaf.{Leaf}
use Rattle.pagestore.specs.Store.{Field, level, total, root, view_of, in_range, records_in, entries_in, field_at}
use Rattle.pagestore.specs.Store.PageLaws.{SamePage, bytes_page, bytes_field}
use Rattle.pagestore.specs.Store.RangeLaws.{pages_same, range_same}
use Rattle.tree_model.specs.Trees.{Item, leaves, pages, tree_of, leaves_of}
use Rattle.tree_model.specs.Sound.{SoundIndex}
use Rattle.search_model.specs.Asked.{Asked, Askable}
use Rattle.search_model.specs.Branches.{branch_bound, tied, rows_among, rows_at}
use Rattle.search_model.specs.Visit.{ranking, answer_of, found}
use Rattle.search_model.specs.Questions.{rows_of, leaf_branch, to_read_by, to_read, unread_pages, AgreeBut}
use Rattle.search_model.proofs.FrameLaws.{Frame, parts_right, leaf_branches}
use Rattle.search_model.proofs.DescentLaws.{branch_order}
use Rattle.search_model.proofs.SoundLaws.{tree_frame, tree_header, tree_once}
use Rattle.search_model.proofs.VisitedLaws.{index_leaves, Like, like_self, found_like, leaves_some, rows_all, floors, found_none}
use Rattle.tree_model.specs.TreeLaws.{no_pages_law}

-- ---- PAGES OF THE TREE

abbrev page_of : Item 1 → ℕ
page_of u = u.0

unfoldable inner_pages : (l : ℕ) → Item (suc l) → List ℕ
inner_pages zero t = []
inner_pages (suc l) t = t.0 ∷ concat_map (inner_pages l) t.1

split_list : (p l : ℕ) (ts : List (Item (suc l))) → All (λ t. mult p (pages (suc l) t) ≡ mult p (inner_pages l t) + mult p (map page_of (leaves l t))) ts
    → mult p (concat_map (pages (suc l)) ts) ≡ mult p (concat_map (inner_pages l) ts) + mult p (map page_of (concat_map (leaves l) ts))
unfolding concat_map mult
split_list p l [] none = refl
split_list p l (t ∷ ts) (also h a) =
    let r = split_list p l ts a in
    rw (mult_append p (pages (suc l) t) (concat_map (pages (suc l)) ts), mult_append p (inner_pages l t) (concat_map (inner_pages l) ts), map_append page_of (leaves l t) (concat_map (leaves l) ts), mult_append p (map page_of (leaves l t)) (map page_of (concat_map (leaves l) ts)))
    (omega arith)

-- a page of the tree is an inner page or a leaf's
pages_split : (p l : ℕ) (t : Item (suc l)) → mult p (pages (suc l) t) ≡ mult p (inner_pages l t) + mult p (map page_of (leaves l t))
unfolding pages leaves inner_pages mult
pages_split p zero t = rw (no_pages_law t.1) (omega arith)
pages_split p (suc l) t = omega (arith, split_list p l t.1 (all_every (pages_split p l) t.1))

module _ (f : Item 1 → Bool) where
  -- the leaves that pass, and those that do not
  filter_split : (p : ℕ) (us : List (Item 1)) → mult p (map page_of us) ≡ mult p (map page_of (filter f us)) + mult p (map page_of (filter (λ u. not (f u)) us))
  unfolding filter mult
  filter_split p [] = refl
  filter_split p (u ∷ us) = let h = filter_split p us in by_cases (f u) (λ e. rw e (omega arith)) (λ e. rw e (omega arith))

  keep_there : (us : List (Item 1)) → All (λ u. f u ≡ true → 0 < mult u.0 (map page_of (filter f us))) us
  keep_there [] = none
  keep_there (u ∷ us) =
      by_cases (f u)
      (λ e. rw (filter_first f u us e) (also {x = u} (λ w. omega (arith, mult_self u.0 (map page_of (filter f us))))
      (all_map (λ x (h : f x ≡ true → 0 < mult x.0 (map page_of (filter f us))) w. let g = h w in omega (arith, mult_more x.0 u.0 (map page_of (filter f us)))) (keep_there us))))
      (λ e. rw (filter_past f u us e) (also {x = u} (λ w. false_true (sym e ∙ w)) (keep_there us)))

-- two indexes that agree but for the pages ps
module _ (ps b c : List ℕ) (h : AgreeBut ps b c) where
  agree_page : (p : ℕ) → mult p ps ≡ 0 → SamePage b c p
  agree_page p z = bytes_page b c p h.lent (λ i k. let e : (p * 1024 + i) / 1024 ≡ p = omega arith in h.bytes (p * 1024 + i) (rw e z))

  pub agree_field : mult 0 ps ≡ 0 → (f : Field) → field_at f c ≡ field_at f b
  agree_field z f = bytes_field f b c h.lent (λ i k. let e : i / 1024 ≡ 0 = omega arith in h.bytes i (rw e z))

-- the inner pages are the same, and the same numbers are pages
frame_same : (b c : List ℕ) (d : ℕ) → ((p : ℕ) → in_range c p ≡ in_range b p) → (l : ℕ) (t : Item (suc l)) → All (λ p. SamePage b c p) (inner_pages l t) → Frame b d l t → Frame c d l t
unfolding Frame inner_pages
frame_same b c d r zero t a f = r t.0 ∙ f
frame_same b c d r (suc l) t (also h a) f =
    (r t.0 ∙ f.0, ap entries_in h.inner ∙ f.1, all_map (λ u g. frame_same b c d r l u g.0 g.1) (all_both (parts_right (inner_pages l) t.1 a) f.2))

module _ (b : List ℕ) (s : SoundIndex b) (q : Asked) (suits : Askable (view_of b).d q) (one : 1 ≤ q.k) where
  abbrev unread : List ℕ
  unread = unread_pages (view_of b) q

  unread_inner : All (λ p. mult p unread ≡ 0) (inner_pages (view_of b).level (tree_of (view_of b)))
  unfolding unread_pages leaves_of
  unread_inner =
      all_of_mult (inner_pages (view_of b).level (tree_of (view_of b)))
      (λ p h. omega (arith, tree_once b s p, pages_split p (view_of b).level (tree_of (view_of b)), filter_split (to_read (view_of b) q) p (leaves_of (view_of b))))

  unread_read : All (λ u. to_read (view_of b) q u ≡ true → mult u.0 unread ≡ 0) (leaves_of (view_of b))
  unfolding unread_pages leaves_of
  unread_read =
      all_map
      (λ u (h : to_read (view_of b) q u ≡ true → 0 < mult u.0 (map page_of (filter (to_read (view_of b) q) (leaves_of (view_of b))))) w.
      let g = h w in
      omega (arith, tree_once b s u.0, pages_split u.0 (view_of b).level (tree_of (view_of b)), filter_split (to_read (view_of b) q) u.0 (leaves_of (view_of b))))
      (keep_there (to_read (view_of b) q) (leaves_of (view_of b)))

  pub unread_header : mult 0 unread ≡ 0
  unfolding unread_pages leaves_of
  unread_header = omega (arith, tree_header b s, pages_split 0 (view_of b).level (tree_of (view_of b)), filter_split (to_read (view_of b) q) 0 (leaves_of (view_of b)))

  module _ (c : List ℕ) (h : AgreeBut unread b c) where
    like_rest : Like b s q suits one c
    unfolding view_of
    like_rest =
        record {
          level = agree_field unread b c h unread_header level;
          total = agree_field unread b c h unread_header total;
          root = agree_field unread b c h unread_header root;
          pages = pages_same b c h.lent;
          frame = frame_same b c (view_of b).d (λ p. range_same b c p h.lent) (view_of b).level (tree_of (view_of b)) (all_map (agree_page unread b c h) unread_inner) (tree_frame b s);
        }

    rows_same : (p : ℕ) (us : List (Item 1)) → All (λ u. to_read (view_of b) q u ≡ true → mult u.0 unread ≡ 0) us → All (λ u. 0 < length u.1) us
        → All (λ x. in_set ranking q.k (rows_of (view_of b) q) x.bound ≡ true → rows_at c q x ≡ rows_at b q x) (leaf_branches q (view_of b).d p us)
    unfolding leaf_branches leaf_branch to_read_by
    rows_same p [] none none = none
    rows_same p (u ∷ us) (also g a) (also l m) =
        also {x = leaf_branch q (view_of b).d p u}
        (λ w. let z : mult u.0 unread ≡ 0 = g (rw (lt-ltb 0 (length u.1) l) w) in
        ap (λ (f : Leaf). rows_among q p (records_in f)) (agree_page unread b c h u.0 z).leaf)
        (rows_same (suc p) us a m)

    -- unread_bytes: whatever bytes the pages of the leaves left unread hold, the search gives the rows and the count of the sound index
    pub unread_bytes : found c q ≡ found b q
    unread_bytes =
        by_cases (ltb 0 (view_of b).total)
        (λ e. let t : 0 < (view_of b).total = ltb-true 0 (view_of b).total e in
        found_like b s q suits one c like_rest t
        ∙ ap answer_of (flatly.unread_anything ranking row_order_law branch_bound tied branch_order (index_leaves b q) (rows_at b q) (floors b s q suits one) q.k one (rows_at c q)
        (rw (rows_all b s q suits one) (rows_same 0 (leaves_of (view_of b)) unread_read (leaves_some b s q suits one t))))
        ∙ sym (found_like b s q suits one b (like_self b s q suits one) t))
        (λ e. let z : (view_of b).total ≡ 0 = omega (arith, ltb-false 0 (view_of b).total e) in
        found_none b s q suits one c (like_rest.total ∙ z) ∙ sym (found_none b s q suits one b ((like_self b s q suits one).total ∙ z)))
