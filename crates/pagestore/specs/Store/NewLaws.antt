-- Laws of a new index: each field of its header, its pages, its free pages. Assumes nothing.
use Rattle.std.specs.Prelude.{◌≡◌, true, ◌≢◌, List, [], ◌∷◌, ◌++◌, ℕ, zero, suc, ◌+◌, ◌-◌, ◌*◌, ◌≤◌, ◌<◌, leb, length, get_or, drop, take, replicate}
use Rattle.std.proofs.Math.Path.{refl, ap}
use Rattle.std.proofs.Common.{sym, ◌∙◌, append_assoc, arith, length-append, length-take, length-drop, get_or-drop, drop_at, drop-drop, leb-true}
use Rattle.std.proofs.lemmas.List.{length-replicate, get_or-replicate}
use Rattle.std.proofs.Math.ListN.{get_or-append}
use Rattle.lists.specs.Basics.{none, range_from, indicator}
use Rattle.lists.specs.Counts.{mult, mult_self, mult_not, range_from_below, range_from_past, range_from_within}
use Rattle.lists.specs.Tests.{by_cases}
use Rattle.pagestore_bytes.specs.Bytes.{le_at, le_bytes}
use Rattle.pagestore_bytes.specs.ByteLaws.{length_le, put_drop}
use Rattle.pagestore_page.specs.Layout.{leaf_bytes}
use Rattle.pagestore_page.specs.LayoutLaws.{length_leaf}
use Rattle.pagestore.specs.Store.{pages_in, in_range, set_stretch, leaf, page_at, set_page, set_leaf, Field, offset, width, Apart, size, features, root, level, total, freed, fresh, field_at, set_field, number_at, set_number, chain, chain_end, freed_at, rest_at, fresh_at, free_at, clear_header, set_fields, new_index}
use Rattle.pagestore.specs.Store.RangeLaws.{range_high, range_past, range_is, range_zero, range_same, range_whole, pages_same, pages_few}
use Rattle.pagestore.specs.Store.StretchLaws.{set_in, set_out, agree, field_room}
use Rattle.pagestore.specs.Store.PageLaws.{SamePage, same_trans, same_page, page_same, page_other, page_field, field_page, field_same, field_other, length_set_page, length_set_field, leaf_fits}

-- ---- THE HEADER CLEARED

-- n zeros, and then the list from n on
module _ (b : List ℕ) (n : ℕ) where
  zeros_length : n ≤ length b → length (replicate n 0 ++ drop n b) ≡ length b
  zeros_length h = simp (length-append, length-replicate, length-drop) (omega arith)

  zeros_low : (i : ℕ) → i < n → get_or (replicate n 0 ++ drop n b) i 0 ≡ 0
  zeros_low i h =
      get_or-append (replicate n 0) (drop n b) 0 i (rw (length-replicate {A = ℕ} n 0) h) ∙ get_or-replicate {A = ℕ} n i 0 0 h

  zeros_drop : drop n (replicate n 0 ++ drop n b) ≡ drop n b
  zeros_drop = drop_at (replicate n 0) (drop n b) n (length-replicate {A = ℕ} n 0)

-- what starts at n or later
drop_later : (b c : List ℕ) (n m : ℕ) → drop n c ≡ drop n b → n ≤ m → drop m c ≡ drop m b
drop_later b c n m e h =
    let k : n + (m - n) ≡ m = omega arith in
    ap (λ (i : ℕ). drop i c) (sym k) ∙ sym (drop-drop (m - n) n c) ∙ ap (drop (m - n)) e ∙ drop-drop (m - n) n b ∙ ap (λ (i : ℕ). drop i b) k

module _ (b : List ℕ) where
  clear_length : length (clear_header b) ≡ length b
  unfolding clear_header
  clear_length = by_cases (leb 1024 (length b)) (λ h. rw h (zeros_length b 1024 (leb-true 1024 (length b) h))) (λ h. rw h)

  clear_drop : drop 1024 (clear_header b) ≡ drop 1024 b
  unfolding clear_header
  clear_drop = by_cases (leb 1024 (length b)) (λ h. rw h (zeros_drop b 1024)) (λ h. rw h)

  clear_low : leb 1024 (length b) ≡ true → (i : ℕ) → i < 1024 → get_or (clear_header b) i 0 ≡ 0
  unfolding clear_header
  clear_low h i g = rw h (zeros_low b 1024 i g)

  clear_page : (q : ℕ) → SamePage b (clear_header b) q
  clear_page q =
      same_page b (clear_header b) q (agree b (clear_header b) q clear_length
      (λ z i k. sym (get_or-drop (q * 1024) (clear_header b) i 0)
      ∙ ap (λ (l : List ℕ). get_or l i 0) (drop_later b (clear_header b) 1024 (q * 1024) clear_drop (omega arith)) ∙ get_or-drop (q * 1024) b i 0))

le_zero : (n : ℕ) (s : List ℕ) (at : ℕ) → ((i : ℕ) → at ≤ i → i < at + n → get_or s i 0 ≡ 0) → le_at n s at ≡ 0
unfolding le_at
le_zero zero s at h = refl
le_zero (suc n) s at h = rw (h at (omega arith) (omega arith), le_zero n s (at + 1) (λ i a c. h i (omega arith) (omega arith)))

clear_field : (f : Field) (b : List ℕ) → field_at f (clear_header b) ≡ 0
unfolding number_at
clear_field f b =
    let r = field_room f in
    by_cases (leb 1024 (length b))
    (λ h. rw (clear_length b, h) (le_zero (width f) (clear_header b) (offset f) (λ i a c. clear_low b h i (omega (arith, r.1, r.2)))))
    (λ h. rw (clear_length b, h))

-- ---- THE BYTES BEHIND A WRITE

drop_field : (f : Field) (b : List ℕ) (v n : ℕ) → 1024 ≤ n → drop n (set_field f b v) ≡ drop n b
unfolding set_number
drop_field f b v n h =
    let r = field_room f in
    by_cases (leb 1024 (length b))
    (λ t. rw t (put_drop b (offset f) (le_bytes (width f) v) n (omega (arith, length_le (width f) v, r.1, r.2)))) (λ t. rw t)

drop_stretch : (b : List ℕ) (p : ℕ) (xs : List ℕ) → length xs ≡ 1024 → drop (p * 1024 + 1024) (set_stretch b p xs) ≡ drop (p * 1024 + 1024) b
drop_stretch b p xs e =
    let l : List ℕ = take (p * 1024) b in
    let r : List ℕ = drop (p * 1024 + 1024) b in
    by_cases (in_range b p)
    (λ h. let g : p * 1024 + 1024 ≤ length b = range_whole b p h in
    rw (set_in b p xs h, ← append_assoc l xs r)
    (drop_at (l ++ xs) r (p * 1024 + 1024) (omega (arith, length-append l xs, length-take (p * 1024) b))))
    (λ h. rw (set_out b p xs h))

chain_none : (n : ℕ) (b : List ℕ) → (chain n b 0 ≡ []) × (chain_end n b 0 ≡ 0)
unfolding chain chain_end
chain_none zero b = (refl, refl)
chain_none (suc n) b = (rw (range_zero b), rw (range_zero b))

-- ---- THE NEW INDEX

once_from : (b : List ℕ) → 2 ≤ pages_in b → (q : ℕ) → mult q (1 ∷ range_from 2 (pages_in b - 2)) ≡ indicator (in_range b q)
once_from b h zero = rw (range_zero b) (mult_not 0 1 (range_from 2 (pages_in b - 2)) (λ (e : 0 ≡ 1). omega arith) ∙ range_from_below 0 2 (pages_in b - 2) (omega arith))
once_from b h (suc zero) =
    rw (range_is b 1 (omega arith) h) (omega (arith, mult_self 1 (range_from 2 (pages_in b - 2)), range_from_below 1 2 (pages_in b - 2) (omega arith)))
once_from b h (suc (suc q)) =
    mult_not (suc (suc q)) 1 (range_from 2 (pages_in b - 2)) (λ (e : suc (suc q) ≡ 1). omega arith)
    ∙ by_cases (in_range b (suc (suc q)))
    (λ t. rw t (range_from_within (suc (suc q)) 2 (pages_in b - 2) (omega arith) (omega (arith, range_high b (suc (suc q)) t))))
    (λ t. rw t (range_from_past (suc (suc q)) 2 (pages_in b - 2) (omega (arith, range_past b (suc (suc q)) (omega arith) t))))

-- c is a new index for d features in the bytes of b
pub record New (b : List ℕ) (d : ℕ) (c : List ℕ) : Type 0 where
  pub size : field_at size c ≡ pages_in b
  pub features : field_at features c ≡ d
  pub root : field_at root c ≡ 1
  pub level : field_at level c ≡ 0
  pub total : field_at total c ≡ 0
  pub freed : field_at freed c ≡ 0
  pub fresh : field_at fresh c ≡ 2
  pub page : page_at c 1 ≡ leaf 0 []
  pub free : free_at c ≡ range_from 2 (pages_in b - 2)
  pub rest : rest_at c ≡ 0
  pub other : (q : ℕ) → q ≢ 1 → SamePage b c q
  pub bytes : drop 2048 c ≡ drop 2048 b

module _ (b : List ℕ) (d : ℕ) where
  a1 : List ℕ
  a1 = set_field size (clear_header b) (pages_in b)

  a2 : List ℕ
  a2 = set_field features a1 d

  a3 : List ℕ
  a3 = set_field root a2 1

  -- the header
  a4 : List ℕ
  a4 = set_field fresh a3 2

  new_is : new_index b d ≡ set_page a4 1 (leaf 0 [])
  unfolding new_index set_fields set_page a1 a2 a3 a4
  new_is = refl

  length_1 : length a1 ≡ length b
  unfolding a1
  length_1 = length_set_field size (clear_header b) (pages_in b) ∙ clear_length b

  length_2 : length a2 ≡ length b
  unfolding a2
  length_2 = length_set_field features a1 d ∙ length_1

  length_3 : length a3 ≡ length b
  unfolding a3
  length_3 = length_set_field root a2 1 ∙ length_2

  length_4 : length a4 ≡ length b
  unfolding a4
  length_4 = length_set_field fresh a3 2 ∙ length_3

  pub length_new : length (new_index b d) ≡ length b
  length_new = rw new_is (length_set_page a4 1 (leaf 0 []) ∙ length_4)

  -- a field that was not set, or was set before the last
  keep_2 : (f : Field) → Apart features f → field_at f a2 ≡ field_at f a1
  unfolding a2
  keep_2 f u = field_other features f a1 d u

  keep_3 : (f : Field) → Apart root f → field_at f a3 ≡ field_at f a2
  unfolding a3
  keep_3 f u = field_other root f a2 1 u

  keep_4 : (f : Field) → Apart fresh f → field_at f a4 ≡ field_at f a3
  unfolding a4
  keep_4 f u = field_other fresh f a3 2 u

  zero_4 : (f : Field) → Apart size f → Apart features f → Apart root f → Apart fresh f → field_at f a4 ≡ 0
  unfolding a1
  zero_4 f s u r t = keep_4 f t ∙ keep_3 f r ∙ keep_2 f u ∙ field_other size f (clear_header b) (pages_in b) s ∙ clear_field f b

  same_4 : (q : ℕ) → SamePage b a4 q
  unfolding a1 a2 a3 a4
  same_4 q =
      same_trans (clear_page b q)
      (same_trans (page_field size (clear_header b) (pages_in b) q)
      (same_trans (page_field features a1 d q) (same_trans (page_field root a2 1 q) (page_field fresh a3 2 q))))

  drop_4 : drop 2048 a4 ≡ drop 2048 b
  unfolding a1 a2 a3 a4
  drop_4 =
      drop_field fresh a3 2 2048 (omega arith) ∙ drop_field root a2 1 2048 (omega arith) ∙ drop_field features a1 d 2048 (omega arith)
      ∙ drop_field size (clear_header b) (pages_in b) 2048 (omega arith) ∙ drop_later b (clear_header b) 1024 2048 (clear_drop b) (omega arith)

  drop_new : drop 2048 (set_page a4 1 (leaf 0 [])) ≡ drop 2048 a4
  unfolding set_page set_leaf
  drop_new = drop_stretch a4 1 (leaf_bytes []) (length_leaf [])

  field_new : (f : Field) → field_at f (new_index b d) ≡ field_at f a4
  field_new f = rw new_is (field_page f a4 1 (leaf 0 []))

  module _ (h : 2 ≤ pages_in b) (fits : d < 256) where
    room : 1024 ≤ length b
    room = let g = range_whole b 1 (range_is b 1 (omega arith) h) in omega arith

    range_4 : in_range a4 1 ≡ true
    range_4 = range_same b a4 1 length_4 ∙ range_is b 1 (omega arith) h

    pages_new : pages_in (new_index b d) ≡ pages_in b
    pages_new = pages_same b (new_index b d) length_new

    freed_new : field_at freed (new_index b d) ≡ 0
    freed_new = field_new freed ∙ zero_4 freed refl refl refl refl

    fresh_new : field_at fresh (new_index b d) ≡ 2
    unfolding a4
    fresh_new = field_new fresh ∙ field_same fresh a3 2 (rw length_3 room) (omega arith)

    rest_new : rest_at (new_index b d) ≡ 0
    unfolding rest_at
    rest_new = rw freed_new (chain_none (pages_in (new_index b d)) (new_index b d)).1

    free_new : free_at (new_index b d) ≡ range_from 2 (pages_in b - 2)
    unfolding free_at freed_at fresh_at range_from
    free_new = rw (freed_new, fresh_new, (chain_none (pages_in (new_index b d)) (new_index b d)).0, range_same b (new_index b d) 2 length_new, pages_new)
        (by_cases (in_range b 2) (λ t. rw t) (λ t. rw (t, range_past b 2 (omega arith) t)))

    pub new_index_law : New b d (new_index b d)
    unfolding a1 a2 a3
    new_index_law = record {
      size = field_new size ∙ keep_4 size refl ∙ keep_3 size refl ∙ keep_2 size refl
          ∙ field_same size (clear_header b) (pages_in b) (rw (clear_length b) room) (omega (arith, pages_few b));
      features = field_new features ∙ keep_4 features refl ∙ keep_3 features refl ∙ field_same features a1 d (rw length_1 room) fits;
      root = field_new root ∙ keep_4 root refl ∙ field_same root a2 1 (rw length_2 room) (omega arith);
      level = field_new level ∙ zero_4 level refl refl refl refl;
      total = field_new total ∙ zero_4 total refl refl refl refl;
      freed = freed_new;
      fresh = fresh_new;
      page = rw new_is (page_same a4 1 (leaf 0 []) range_4 (leaf_fits (omega arith) none));
      free = free_new;
      rest = rest_new;
      other = λ q ne. same_trans (same_4 q) (rw new_is (page_other a4 1 (leaf 0 []) q ne));
      bytes = ap (drop 2048) new_is ∙ drop_new ∙ drop_4;
    }

    -- each page but the header is just once the root or free
    pub new_once : (q : ℕ) → mult q (1 ∷ free_at (new_index b d)) ≡ indicator (in_range b q)
    new_once q = rw free_new (once_from b h q)
