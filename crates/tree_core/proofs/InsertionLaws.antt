-- The steps of an insertion. Assumes nothing.
use Rattle.std.proofs.Common.{◌≡◌, refl, sym, ap, ◌∙◌, ◌≢◌, List, [], ◌∷◌, ◌++◌, append_assoc, ℕ, zero, suc, ◌+◌, ◌-◌, ◌≤◌, ◌<◌, min, max, arith, add-one, sub-one, leb, length, set, take, drop, length-take, length-set, take-append-drop, drop_of_length-le, take-take, take-suc-set, drop-set-lt, length-take-le, le-leb, leb-true, leb-false}
use Rattle.std.proofs.Math.Seq.{slice, take-set-lt}
use borrow.Author.Tests.{lt-leb}
use Rattle.lists.specs.Shift as shift
use Rattle.lists.specs.Leading.{leading, ins_leading}
use Rattle.lists.specs.Tests.{by_cases}
use Rattle.pagestore_page.specs.declared.Record.{Record}
use Rattle.pagestore_page.specs.declared.Entry.{Entry}
use Rattle.pagestore.specs.Store.{leaf_at, inner_at, records_in, entries_in, set_leaf, set_inner, page_taken, take_page}
use Rattle.tree_model.specs.Trees.{rank_of}
use Rattle.tree_model.specs.Inserting.{choose, replaced, insert_record, rank_below}
use Rattle.tree_core.specs.Entries.{child_at, leaf_entry, inner_entry}
use Rattle.tree_core.specs.Held.{Held}
use Rattle.tree_core.specs.Insertion.{put, write_inner, insert_at}
use Rattle.tree_core.specs.CodeTerms.{grown_list, RewriteDone}
use Rattle.tree_core.specs.declared.Grown.{Grown}
use Rattle.tree_core.specs.declared.Grown.TheVariants.{One, Two}
use Rattle.tree_core.proofs.EntryLaws.{filled_is}

-- ---- items in their places

module _ {A : Type 0} (slots : List A) (n c i : ℕ) (l : length slots ≡ 16) (f : n ≡ min 16 c) (h : i ≤ c) where
  -- the items before place i, others, and those behind place i
  pub replaced_is : (ys : List A) → (slice 0 i slots ++ ys) ++ slice (i + 1) n slots ≡ replaced i ys (take c slots)
  replaced_is ys =
      append_assoc (take i slots) ys (slice (i + 1) n slots)
      ∙ ap (λ (x : List A). x ++ (ys ++ drop (i + 1) (take n slots))) (sym (take-take i c slots h))
      ∙ ap (λ (x : List A). take i (take c slots) ++ (ys ++ drop (i + 1) x)) (sym (filled_is slots n c l f))
      ∙ ap (λ (m : ℕ). take i (take c slots) ++ (ys ++ drop m (take c slots))) (add-one i)

  -- the item at place i anew, or one behind the last
  renewed_rest : (m : ℕ) (e : A) → m ≡ max n (i + 1) → drop (suc i) (take m (set slots i e)) ≡ drop (i + 1) (take n slots)
  renewed_rest m e q =
      by_cases (leb n i)
      (λ t. let g = leb-true n i t in
      drop_of_length-le (take m (set slots i e)) {i = suc i} (omega (arith, length-take m (set slots i e)))
      ∙ sym (drop_of_length-le (take n slots) {i = i + 1} (omega (arith, length-take n slots))))
      (λ t. let g : i < n = leb-false n i t in let o : m ≡ n = omega arith in
      rw (o, add-one i) (ap (drop (suc i)) (take-set-lt n slots i e g) ∙ drop-set-lt (suc i) (take n slots) i e (omega arith)))

  pub renewed_is : (m : ℕ) (e : A) → i ≤ 15 → m ≡ max n (i + 1) → Held m (set slots i e) (replaced i (e ∷ []) (take c slots))
  renewed_is m e k q =
      let s : List A = set slots i e in
      let z : length s ≡ 16 = length-set slots i e ∙ l in
      let a : take (suc i) (take m s) ≡ take i slots ++ (e ∷ []) = take-take (suc i) m s (omega arith) ∙ take-suc-set slots i e (omega arith) in
      let t : take m s ≡ replaced i (e ∷ []) (take c slots) =
      sym (take-append-drop (suc i) (take m s)) ∙ ap (λ (x : List A). x ++ drop (suc i) (take m s)) a
      ∙ ap (λ (x : List A). (take i slots ++ (e ∷ [])) ++ x) (renewed_rest m e q) ∙ replaced_is (e ∷ []) in
      record { count = sym (length-take-le m s (omega arith)) ∙ ap length t; items = t }

pub insert_is : (d : ℕ) (x : Record) (k i : ℕ) (rs : List Record) → k ≡ rank_of d x → i ≡ leading (rank_below d k) rs → take i rs ++ ((x ∷ []) ++ drop i rs) ≡ insert_record d x rs
insert_is d x k i rs e f = rw (f, e) (ins_leading (λ y z. rank_below d (rank_of d z) y) x rs)

-- the same of a leaf with room
pub fill_is : (d : ℕ) (x : Record) (k i : ℕ) (rs ys : List Record) → k ≡ rank_of d x → i ≡ leading (rank_below d k) rs → ys ≡ shift.insert_at rs i x → ys ≡ insert_record d x rs
unfolding shift.insert_at
fill_is d x k i rs ys e f g = g ∙ insert_is d x k i rs e f

-- ---- items put to a page

module _ {A : Type 0} (write : List ℕ → ℕ → List A → List ℕ) (entry : ℕ → List A → Entry) (b : List ℕ) (p : ℕ) (xs : List A) where
  pub put_one : {x : List ℕ} {e : Entry} → length xs ≤ 16 → x ≡ write b p xs → e ≡ entry p xs → RewriteDone (put write entry b p xs) x (One e)
  unfolding put
  put_one h f g = rw (le-leb (length xs) 16 h) (record { bytes = f; entries = ap (λ (z : Entry). z ∷ []) g })

  -- the items as they are held
  pub put_held : {n : ℕ} {slots : List A} {x : List ℕ} {e : Entry} → Held n slots xs → n ≤ 16 → x ≡ write b p (take n slots) → e ≡ entry p (take n slots) → RewriteDone (put write entry b p xs) x (One e)
  put_held {n} {slots} {x} {e} h k f g = put_one (omega (arith, h.count)) (rw h.items at f) (rw h.items at g)

  -- as many as a page's count takes in
  pub put_filled : (n : ℕ) (slots : List A) {x : List ℕ} {e : Entry} → length slots ≡ 16 → n ≤ 16 → take n slots ≡ xs → x ≡ write b p (take n slots) → e ≡ entry p (take n slots) → RewriteDone (put write entry b p xs) x (One e)
  put_filled n slots {x} {e} l k h f g = put_held (record { count = sym (length-take-le n slots (omega arith)) ∙ ap length h; items = h }) k f g

  pub put_two : {n : ℕ} {b1 b2 x : List ℕ} {lo hi : List A} {e f : Entry} → 16 < length xs → n ≡ page_taken b → b1 ≡ take_page b → lo ≡ take 9 xs → hi ≡ drop 9 xs
      → b2 ≡ write b1 p lo → x ≡ write b2 n hi → e ≡ entry p lo → f ≡ entry n hi → RewriteDone (put write entry b p xs) x (Two e f)
  unfolding put
  put_two {n} {b1} {b2} {x} {lo} {hi} {e} {f} l n= b1= lo= hi= b2= x= e= f= =
      rw (lt-leb (length xs) 16 l) (record { bytes = cc; entries = cc })

-- an inner page, of which a field may say its level
pub level_is : (b : List ℕ) (p v l : ℕ) (es : List Entry) {x : List ℕ} → v ≡ l → x ≡ set_inner b p v es → x ≡ write_inner l b p es
level_is b p v l es e f = rw e at f

-- ---- one step of the recursion

pub leaf_step : (d : ℕ) (b : List ℕ) (p : ℕ) (x : Record) {rs : List Record} {y : List ℕ} {g : Grown} → rs ≡ insert_record d x (records_in (leaf_at b p))
    → RewriteDone (put set_leaf (leaf_entry d) b p rs) y g → RewriteDone (insert_at d 0 b p x) y g
unfolding insert_at
leaf_step d b p x e h = rw e at h

pub level_zero : (d level : ℕ) (b : List ℕ) (p : ℕ) (x : Record) {y : List ℕ} {g : Grown} → level ≡ 0 → RewriteDone (insert_at d 0 b p x) y g → RewriteDone (insert_at d level b p x) y g
level_zero d level b p x e h = rw e h

pub inner_step : (d level : ℕ) (b : List ℕ) (p : ℕ) (x : Record) {k i child : ℕ} {es : List Entry} {b1 y : List ℕ} {g r : Grown}
    → level ≢ 0 → k ≡ rank_of d x → es ≡ entries_in (inner_at b p) → i ≡ choose k (entries_in (inner_at b p)) → child ≡ child_at (entries_in (inner_at b p)) i
    → RewriteDone (insert_at d (level - 1) b child x) b1 g → RewriteDone (put (write_inner level) inner_entry b1 p (replaced i (grown_list g) es)) y r → RewriteDone (insert_at d level b p x) y r
unfolding insert_at
inner_step d zero b p x z e₀ e₁ e₂ e₃ h h' = absurd (z refl)
inner_step d (suc l) b p x {k} {i} {child} {es} {b1} {y} {g} {r} z e₀ e₁ e₂ e₃ h h' =
    let f : RewriteDone (insert_at d l b child x) b1 g = rw sub-one at h in
    rw (f.bytes, f.entries, e₃, e₂, e₀, e₁) at h'

pub length_grown : (g : Grown) → length (grown_list g) ≤ 2
length_grown (One e) = omega arith
length_grown (Two e f) = omega arith
