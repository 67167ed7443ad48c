-- The steps of a look at the leaf to which a key leads. Assumes nothing.
use Rattle.std.proofs.Common.{◌≡◌, refl, sym, ap, ◌∙◌, ◌≢◌, Bool, false, List, [], ◌∷◌, ℕ, zero, suc, ◌-◌, ◌≤◌, ◌<◌, min, arith, sub-one, eqb, length, get_or, take, length-take, get_or-take}
use lib.Pointwise.{pointwise}
use Rattle.tree_core.proofs.EntryLaws.{filled_is}
use Rattle.lists.specs.Leading.{leading}
use Rattle.lists.specs.Tests.{by_cases}
use Rattle.lists.specs.Equal.{same}
use Rattle.pagestore_page.specs.declared.Record.{Record}
use Rattle.pagestore_page.specs.declared.Entry.{Entry}
use Rattle.pagestore_page.specs.declared.Leaf.{Leaf}
use Rattle.pagestore.specs.Store.{features, root, level, leaf_at, inner_at, records_in, entries_in, field_at}
use Rattle.tree_model.specs.Trees.{rank_of}
use Rattle.tree_model.specs.Inserting.{choose}
use Rattle.tree_model.specs.Deleting.{other_ident}
use Rattle.tree_core.specs.Entries.{child_at}
use Rattle.tree_core.specs.Keyed.{leaf_for, same_point, held_among, holds_at}

-- ---- the leaf

pub for_leaf : (l : ℕ) (b : List ℕ) (p k : ℕ) → l ≡ 0 → p ≡ leaf_for l b p k
unfolding leaf_for
for_leaf l b p k e = rw e

pub for_inner : (l : ℕ) (b : List ℕ) (p k : ℕ) {es : List Entry} {i child r : ℕ} → l ≢ 0 → es ≡ entries_in (inner_at b p)
    → i ≡ choose k es → child ≡ child_at es i → r ≡ leaf_for (l - 1) b child k → r ≡ leaf_for l b p k
unfolding leaf_for
for_inner zero b p k z es= i= c= r= = absurd (z refl)
for_inner (suc l) b p k {es} {i} {child} {r} z es= i= c= r= =
    let m : r ≡ leaf_for l b child k = rw sub-one at r= in m ∙ rw (c=, i=, es=)

-- ---- equal points

pointwise_same : (xs ys : List ℕ) → pointwise eqb xs ys ≡ same xs ys
unfolding same
pointwise_same [] [] = refl
pointwise_same [] (y ∷ ys) = refl
pointwise_same (x ∷ xs) [] = refl
pointwise_same (x ∷ xs) (y ∷ ys) = by_cases (eqb x y) (λ e. rw e (pointwise_same xs ys)) (λ e. rw e)

pub point_is : (d n : ℕ) (x y : Record) {r : Bool} → length x.coords ≡ 16 → length y.coords ≡ 16 → n ≡ min 16 d
    → r ≡ pointwise eqb (take n x.coords) (take n y.coords) → r ≡ same_point d x y
unfolding same_point
point_is d n x y l m n= e = e ∙ pointwise_same (take n x.coords) (take n y.coords) ∙ rw (filled_is x.coords n d l n=, filled_is y.coords n d m n=)

-- ---- in a leaf

some_held : (d : ℕ) (x : Record) (rs : List Record) (e : Record) → leading (other_ident x.id) rs < length rs → held_among d x rs ≡ same_point d (get_or rs (leading (other_ident x.id) rs) e) x
unfolding held_among leading
some_held d x [] e h = absurd (omega arith)
some_held d x (r ∷ rs) e h = by_cases (eqb r.id x.id) (λ t. rw t) (λ t. let g : suc (leading (other_ident x.id) rs) < suc (length rs) = rw t at h in rw t (some_held d x rs e (omega arith)))

none_held : (d : ℕ) (x : Record) (rs : List Record) → length rs ≤ leading (other_ident x.id) rs → held_among d x rs ≡ false
unfolding held_among leading
none_held d x [] h = refl
none_held d x (r ∷ rs) h =
    by_cases (eqb r.id x.id) (λ t. let g : suc (length rs) ≤ 0 = rw t at h in absurd (omega arith))
    (λ t. let g : suc (length rs) ≤ suc (leading (other_ident x.id) rs) = rw t at h in rw t (none_held d x rs (omega arith)))

-- (the records are the first c of some slots)
module _ (d : ℕ) (x : Record) (slots : List Record) (c : ℕ) where
  pub among_here : (i : ℕ) → i ≡ leading (other_ident x.id) (take c slots) → i < length (take c slots) → (e : Record) {r : Bool} → r ≡ same_point d (get_or slots i e) x
      → r ≡ held_among d x (take c slots)
  among_here i i= h e {r} g =
      g ∙ ap (λ (y : Record). same_point d y x) (sym (get_or-take c slots i e (omega (arith, length-take c slots))) ∙ ap (λ (j : ℕ). get_or (take c slots) j e) i=)
      ∙ sym (some_held d x (take c slots) e (omega (arith, i=)))

  pub among_none : leading (other_ident x.id) (take c slots) ≡ length (take c slots) → false ≡ held_among d x (take c slots)
  among_none h = sym (none_held d x (take c slots) (omega (arith, h)))

-- ---- in an index

pub holds_is : (b : List ℕ) (x : Record) {d l p k q : ℕ} {m : Leaf} {r : Bool} → d ≡ field_at features b → l ≡ field_at level b → p ≡ field_at root b → k ≡ rank_of d x → q ≡ leaf_for l b p k
    → m ≡ leaf_at b q → r ≡ held_among d x (records_in m) → r ≡ holds_at b x
unfolding holds_at
holds_is b x d= l= p= k= q= m= r= = r= ∙ rw (m=, q=, k=, d=, l=, p=)
