-- The steps of a lookup. Assumes nothing.
use Rattle.std.proofs.Common.{◌≡◌, refl, sym, ap, ◌∙◌, ◌≢◌, List, [], ◌∷◌, ◌++◌, ℕ, zero, suc, ◌+◌, ◌-◌, ◌≤◌, ◌<◌, arith, add-one, sub-one, eqb, length, get_or, take, drop, length-take, drop_of_length-le, drop-cons, get_or-take, eqb-true}
use Rattle.lists.specs.Basics.{concat_map}
use Rattle.lists.specs.Ascending.{head_or, head_append}
use Rattle.lists.specs.Sorting.{filter}
use Rattle.lists.specs.Leading.{leading}
use Rattle.lists.specs.Tests.{by_cases}
use Rattle.lists.specs.SortingLaws.{filter_append}
use Rattle.pagestore_page.specs.declared.Record.{Record}
use Rattle.pagestore_page.specs.declared.Entry.{Entry}
use Rattle.pagestore_page.specs.declared.Leaf.{Leaf}
use Rattle.pagestore_page.specs.declared.Inner.{Inner}
use Rattle.pagestore.specs.Store.{root, level, leaf_at, inner_at, records_in, entries_in, field_at}
use Rattle.tree_model.specs.Deleting.{other_ident}
use Rattle.tree_core.specs.Lookup.{records_under, with_ident, blank, find_under, find_in}
use Rattle.pagestore_page.specs.Layout.{no_entry}

-- ---- in a leaf

pub first_is : (k : ℕ) (rs : List Record) (d : Record) → get_or rs (leading (other_ident k) rs) d ≡ head_or d (with_ident k rs)
unfolding leading filter head_or
first_is k [] d = refl
first_is k (r ∷ rs) d = by_cases (eqb r.id k) (λ e. rw e) (λ e. rw e (first_is k rs d))

pub found_is : (k : ℕ) (slots : List Record) (c i : ℕ) (d : Record) → i < c → i < length slots → i ≡ leading (other_ident k) (take c slots)
    → get_or slots i d ≡ head_or blank (with_ident k (take c slots))
found_is k slots c i d h g e =
    sym (get_or-take c slots i d h) ∙ any_default (take c slots) i d blank (omega (arith, length-take c slots))
    ∙ ap (λ (j : ℕ). get_or (take c slots) j blank) e ∙ first_is k (take c slots) blank
  where
    any_default : (rs : List Record) (j : ℕ) (d e : Record) → j < length rs → get_or rs j d ≡ get_or rs j e
    any_default [] j d e h = absurd (omega arith)
    any_default (r ∷ rs) zero d e h = refl
    any_default (r ∷ rs) (suc j) d e h = any_default rs j d e (omega arith)

-- ---- below a page

-- a record found among the first records is found among all; one not found there is looked for among the others
kept_head : (k : ℕ) (xs : List Record) → 0 < length (with_ident k xs) → (head_or blank (with_ident k xs)).id ≡ k
unfolding filter head_or
kept_head k [] h = absurd (omega arith)
kept_head k (x ∷ xs) h =
    by_cases (eqb x.id k) (λ e. rw e (eqb-true x.id k e))
    (λ e. let g : 0 < length (with_ident k xs) = rw e at h in rw e (kept_head k xs g))

-- the search among the records xs, and then ys, of which x is the result among xs
module _ (k : ℕ) (xs ys : List Record) (x : Record) (e : x ≡ head_or blank (with_ident k xs)) (z : 0 < k) where
  pub found_here : x.id ≡ k → x ≡ head_or blank (with_ident k (xs ++ ys))
  unfolding head_or
  found_here h =
      by_length (with_ident k xs) refl
    where
      by_length : (l : List Record) → with_ident k xs ≡ l → x ≡ head_or blank (with_ident k (xs ++ ys))
      by_length [] f =
          let b : x.id ≡ 0 = ap (λ (r : Record). r.id) (e ∙ ap (head_or blank) f) in
          absurd (omega (arith, h, b))
      by_length (r ∷ l) f =
          e ∙ sym (head_append blank (with_ident k xs) (with_ident k ys) (rw f (omega arith)))
          ∙ ap (head_or blank) (sym (filter_append (λ r. eqb r.id k) xs ys))

  pub found_later : x.id ≢ k → head_or blank (with_ident k (xs ++ ys)) ≡ head_or blank (with_ident k ys)
  found_later h =
      by_length (with_ident k xs) refl
    where
      by_length : (l : List Record) → with_ident k xs ≡ l → head_or blank (with_ident k (xs ++ ys)) ≡ head_or blank (with_ident k ys)
      by_length [] f = ap (head_or blank) (filter_append (λ r. eqb r.id k) xs ys ∙ ap (λ (l : List Record). l ++ with_ident k ys) f)
      by_length (r ∷ l) f = absurd (h (ap (λ (r : Record). r.id) e ∙ kept_head k xs (rw f (omega arith))))

-- the entries from place i on, of which the one at i is next
next_records : (f : Entry → List Record) (es : List Entry) (i : ℕ) (d : Entry) → i < length es → concat_map f (drop i es) ≡ f (get_or es i d) ++ concat_map f (drop (suc i) es)
unfolding concat_map
next_records f es i d h = rw (drop-cons es i d h)

abbrev pub below : ℕ → List ℕ → Entry → List Record
below l b e = records_under l b e.child

-- what is looked for is looked for among the records below the entries from place i on
abbrev pub Seeks : ℕ → List ℕ → ℕ → ℕ → List Entry → ℕ → Type 0
Seeks l b p k es i = find_under l b p k ≡ head_or blank (with_ident k (concat_map (below (l - 1) b) (drop i es)))

pub seeks_start : (l : ℕ) (b : List ℕ) (p k : ℕ) (m : Inner) → l ≢ 0 → m ≡ inner_at b p → Seeks l b p k (entries_in m) 0
unfolding find_under records_under
seeks_start zero b p k m z e = absurd (z refl)
seeks_start (suc l) b p k m z e = rw (sub-one, e)

module _ (l : ℕ) (b : List ℕ) (p k : ℕ) (slots : List Entry) (c i : ℕ) (x : Record) (h : Seeks l b p k (take c slots) i) (z : 0 < k) (g : i < c) (j : i < length slots)
    (e : x ≡ find_under (l - 1) b (get_or slots i no_entry).child k) where
  next_is : concat_map (below (l - 1) b) (drop i (take c slots)) ≡ records_under (l - 1) b (get_or slots i no_entry).child ++ concat_map (below (l - 1) b) (drop (suc i) (take c slots))
  next_is =
      next_records (below (l - 1) b) (take c slots) i no_entry (omega (arith, length-take c slots))
      ∙ ap (λ (y : Entry). below (l - 1) b y ++ concat_map (below (l - 1) b) (drop (suc i) (take c slots))) (get_or-take c slots i no_entry g)

  x_is : x ≡ head_or blank (with_ident k (records_under (l - 1) b (get_or slots i no_entry).child))
  unfolding find_under
  x_is = e

  pub seeks_found : x.id ≡ k → x ≡ find_under l b p k
  seeks_found f =
      found_here k (records_under (l - 1) b (get_or slots i no_entry).child) (concat_map (below (l - 1) b) (drop (suc i) (take c slots))) x x_is z f
      ∙ ap (λ (rs : List Record). head_or blank (with_ident k rs)) (sym next_is) ∙ sym h

  pub seeks_next : x.id ≢ k → Seeks l b p k (take c slots) (i + 1)
  seeks_next f =
      h ∙ ap (λ (rs : List Record). head_or blank (with_ident k rs)) next_is
      ∙ found_later k (records_under (l - 1) b (get_or slots i no_entry).child) (concat_map (below (l - 1) b) (drop (suc i) (take c slots))) x x_is z f
      ∙ ap (λ (m : ℕ). head_or blank (with_ident k (concat_map (below (l - 1) b) (drop m (take c slots))))) (sym (add-one i))

pub seeks_end : (l : ℕ) (b : List ℕ) (p k : ℕ) (es : List Entry) (i : ℕ) → Seeks l b p k es i → length es ≤ i → blank ≡ find_under l b p k
unfolding concat_map filter head_or
seeks_end l b p k es i h g = sym (h ∙ rw (drop_of_length-le es {i = i} g))

pub find_leaf : (l : ℕ) (b : List ℕ) (p k : ℕ) (m : Leaf) {x : Record} → l ≡ 0 → m ≡ leaf_at b p → x ≡ head_or blank (with_ident k (records_in m)) → x ≡ find_under l b p k
unfolding find_under records_under
find_leaf l b p k m z e h = h ∙ rw (e, z)

pub find_is : (b : List ℕ) (k : ℕ) {l p : ℕ} {x : Record} → l ≡ field_at level b → p ≡ field_at root b → x ≡ find_under l b p k → x ≡ find_in b k
unfolding find_in
find_is b k l= p= h = h ∙ rw (l=, p=)
