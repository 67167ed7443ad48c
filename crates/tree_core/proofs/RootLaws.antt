-- The steps of an insertion at the root, and of the count of the pages that it wants. Assumes nothing.
use Rattle.std.proofs.Common.{◌≡◌, refl, ap, ◌∙◌, ◌≢◌, List, [], ◌∷◌, ℕ, zero, suc, ◌+◌, ◌-◌, ◌%◌, ◌^◌, sub-one, leb, eqb, eq-eqb, ne_eqb}
use Rattle.lists.specs.Basics.{if, indicator}
use Rattle.pagestore_page.specs.declared.Record.{Record}
use Rattle.pagestore_page.specs.declared.Entry.{Entry}
use Rattle.pagestore.specs.Store.{features, root, level, total, inner_at, count_at, entries_in, set_inner, field_at, set_field, page_taken, take_page}
use Rattle.tree_model.specs.Trees.{rank_of}
use Rattle.tree_model.specs.Inserting.{choose}
use Rattle.tree_core.specs.Entries.{child_at}
use Rattle.tree_core.specs.Insertion.{insert_at, grow_root, add_to_total, insert_into, full_run, pages_wanted}
use Rattle.tree_core.specs.CodeTerms.{grown_list, RewriteDone}
use Rattle.tree_core.specs.declared.Grown.{Grown}

pub grow_one : (l : ℕ) (b : List ℕ) (e : Entry) → b ≡ grow_root l b (e ∷ [])
unfolding grow_root
grow_one l b e = refl

pub grow_two : (l : ℕ) (b : List ℕ) (e f : Entry) {h n v : ℕ} {es : List Entry} {b1 b2 b3 y : List ℕ} → h ≡ (l + 1) % 256 → n ≡ page_taken b → b1 ≡ take_page b → v ≡ h
    → es ≡ e ∷ f ∷ [] → b2 ≡ set_inner b1 n v es → b3 ≡ set_field root b2 n → y ≡ set_field level b3 h → y ≡ grow_root l b (e ∷ f ∷ [])
unfolding grow_root
grow_two l b e f h= n= b1= v= es= b2= b3= y= = cc

pub total_step : (b : List ℕ) {n m : ℕ} {y : List ℕ} → n ≡ field_at total b → m ≡ (n + 1) % 2 ^ 32 → y ≡ set_field total b m → y ≡ add_to_total b
unfolding add_to_total
total_step b p q r = rw (q, p) at r

pub insert_steps : (b : List ℕ) (x : Record) {d l p : ℕ} {b1 b2 y : List ℕ} {g : Grown} → d ≡ field_at features b → l ≡ field_at level b → p ≡ field_at root b
    → RewriteDone (insert_at d l b p x) b1 g → b2 ≡ grow_root l b1 (grown_list g) → y ≡ add_to_total b2 → y ≡ insert_into b x
unfolding insert_into
insert_steps b x {d} {l} {p} {b1} {b2} {y} {g} d= l= p= h b2= y= =
    y= ∙ ap add_to_total (b2= ∙ rw (h.bytes, h.entries, d=, l=, p=))

-- ---- pages wanted

pub run_on : (n l full : ℕ) → n ≡ l → n + full ≡ if (eqb n l) (n + full) n
run_on n l full e = rw (eq-eqb n l e)

pub run_ends : (n l full : ℕ) → n ≢ l → n ≡ if (eqb n l) (n + full) n
run_ends n l full e = rw (ne_eqb n l e)

pub run_leaf : (l : ℕ) (b : List ℕ) (p k : ℕ) {full : ℕ} → l ≡ 0 → full ≡ indicator (leb 16 (count_at b p)) → full ≡ full_run l b p k
unfolding full_run
run_leaf l b p k z e = rw z e

pub run_inner : (l : ℕ) (b : List ℕ) (p k : ℕ) {es : List Entry} {i child n full r : ℕ} → l ≢ 0 → full ≡ indicator (leb 16 (count_at b p)) → es ≡ entries_in (inner_at b p)
    → i ≡ choose k es → child ≡ child_at es i → n ≡ full_run (l - 1) b child k → r ≡ if (eqb n l) (n + full) n → r ≡ full_run l b p k
unfolding full_run
run_inner zero b p k z f= es= i= c= n= r= = absurd (z refl)
run_inner (suc l) b p k {es} {i} {child} {n} {full} {r} z f= es= i= c= n= r= =
    let m : n ≡ full_run l b child k = rw sub-one at n= in
    r= ∙ rw (m, f=, c=, i=, es=)

pub wanted_is : (b : List ℕ) (x : Record) {d l p k n r : ℕ} → d ≡ field_at features b → l ≡ field_at level b → p ≡ field_at root b → k ≡ rank_of d x → n ≡ full_run l b p k
    → r ≡ n + indicator (eqb n (l + 1)) → r ≡ pages_wanted b x
unfolding pages_wanted
wanted_is b x d= l= p= k= n= r= = r= ∙ rw (n=, k=, d=, l=, p=)
