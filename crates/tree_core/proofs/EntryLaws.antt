-- Keys of records, and entries of pages, read from arrays of slots. Assumes nothing.
use Rattle.std.proofs.Common.{◌≡◌, refl, sym, ap, ◌∙◌, ◌≢◌, Bool, List, [], ◌∷◌, map, ℕ, zero, suc, ◌+◌, ◌-◌, ◌≤◌, ◌<◌, min, arith, leb, length, get_or, take, drop, length-take, take-take, take_all, get_or-take, leb-true, leb-false}
use Rattle.std.proofs.Math.ListN.{length-map, get_or-map, get_or-eq_default}
use Rattle.std.proofs.Math.Seq.{slice, take-nil}
use Rattle.lists.specs.Basics.{if}
use Rattle.lists.specs.Ascending.{head_or, last_or}
use Rattle.lists.specs.Leading.{leading}
use Rattle.lists.specs.Tests.{by_cases}
use Rattle.geometry.specs.declared.Key.{Key}
use Rattle.geometry.specs.declared.Pair.{Pair}
use Rattle.geometry.specs.Keys.{key_number, key_with}
use Rattle.geometry.specs.Points.{pyramid_of, height_of, axis_of, axis_at}
use Rattle.geometry.specs.Stored.{point_of}
use Rattle.pagestore_page.specs.declared.Record.{Record}
use Rattle.pagestore_page.specs.declared.Entry.{Entry}
use Rattle.tree_model.specs.Trees.{key_of, first_key, last_key, no_record}
use Rattle.tree_model.specs.Inserting.{not_above, choose}
use Rattle.tree_core.specs.Entries.{child_at, leaf_entry, inner_entry}
use Rattle.pagestore_page.specs.Layout.{no_key, no_entry}

-- ---- the slots that a stored count takes in

pub filled_is : {A : Type 0} (slots : List A) (n c : ℕ) → length slots ≡ 16 → n ≡ min 16 c → take c slots ≡ take n slots
filled_is slots n c h e =
    by_cases (leb c 16)
    (λ t. let g = leb-true c 16 t in let f : n ≡ c = omega arith in rw f)
    (λ t. let g = leb-false c 16 t in take_all c slots (omega arith) ∙ sym (take_all n slots (omega arith)))

pub length_filled : {A : Type 0} (slots : List A) (n c : ℕ) → length slots ≡ 16 → n ≡ min 16 c → length (take c slots) ≡ n
length_filled slots n c h e = omega (arith, length-take c slots)

-- of the items that it takes in, those from one place up to another
pub taken_in : {A : Type 0} (slots : List A) (from to n c : ℕ) {m : ℕ} → length slots ≡ 16 → n ≡ min 16 c → m ≡ min to n → slice from m slots ≡ slice from to (take c slots)
taken_in {A} slots from to n c {m} l e f =
    by_cases (leb to n)
    (λ t. let h = leb-true to n t in let g : m ≡ to = omega arith in rw g (ap (λ (x : List A). drop from x) (sym (take-take to c slots (omega arith)))))
    (λ t. let h = leb-false to n t in let g : m ≡ n = omega arith in
    rw g (ap (λ (x : List A). drop from x) (sym (take_all to (take c slots) (omega (arith, length-take c slots)) ∙ filled_is slots n c l e))))

-- ---- the key of a record

pub key_none : (x : Record) (n d : ℕ) → n ≡ min 16 d → n ≡ 0 → ◌≡◌ {A = Key} (record { pyramid = record { 0 = 0 }; height = record { 0 = 0 }; id = x.id }) (key_of d x)
unfolding key_of pyramid_of height_of axis_of axis_at point_of
key_none x n d e z = let f : d ≡ 0 = omega arith in rw f

pub key_some : (x : Record) (n d : ℕ) (p : Pair) (k : Key) → length x.coords ≡ 16 → n ≡ min 16 d → p.pyramid.0 ≡ pyramid_of (point_of (take n x.coords))
    → p.height.0 ≡ height_of (point_of (take n x.coords)) → k ≡ key_with p x.id → k ≡ key_of d x
unfolding key_of
key_some x n d p k l e a b c = c ∙ rw (filled_is x.coords n d l e) (λ i. record { pyramid = record { 0 = a i }; height = record { 0 = b i }; id = x.id })

-- ---- the first and the last item in the slots

module _ {A : Type 0} where
  head_slots : (e d : A) (slots : List A) (n : ℕ) → 0 < n → 0 < length slots → get_or slots 0 d ≡ head_or e (take n slots)
  unfolding head_or
  head_slots e d [] n h g = absurd (omega arith)
  head_slots e d (x ∷ xs) zero h g = absurd (omega arith)
  head_slots e d (x ∷ xs) (suc n) h g = refl

  last_slots : (e d : A) (slots : List A) (n : ℕ) → suc n ≤ length slots → get_or slots n d ≡ last_or e (take (suc n) slots)
  unfolding last_or
  last_slots e d [] n g = absurd (omega arith)
  last_slots e d (x ∷ xs) zero g = refl
  last_slots e d (x ∷ xs) (suc n) g = last_slots x d xs n (omega arith)

  -- of a stored count c, n are there
  module _ (e d : A) (slots : List A) (n c : ℕ) (l : length slots ≡ 16) (f : n ≡ min 16 c) (z : n ≢ 0) where
    pub head_filled : get_or slots 0 d ≡ head_or e (take c slots)
    head_filled = head_slots e d slots c (omega arith) (omega arith)

    pub last_filled : get_or slots (n - 1) d ≡ last_or e (take c slots)
    last_filled =
        let m : suc (n - 1) ≡ n = omega arith in
        last_slots e d slots (n - 1) (omega arith) ∙ ap (λ (k : ℕ). last_or e (take k slots)) m ∙ ap (last_or e) (sym (filled_is slots n c l f))

-- ---- the entries of pages

pub bare_is : (p : ℕ) → ◌≡◌ {A = Entry} (record { child = p; first = no_key; last = no_key }) (inner_entry p [])
unfolding inner_entry head_or last_or
bare_is p = refl

key_bare : (d : ℕ) → no_key ≡ key_of d no_record
unfolding key_of pyramid_of height_of axis_of axis_at point_of no_record
key_bare d = rw (take-nil {A = ℕ} d)

pub leaf_bare : (d p n c : ℕ) (slots : List Record) → length slots ≡ 16 → n ≡ min 16 c → n ≡ 0 → inner_entry p [] ≡ leaf_entry d p (take c slots)
unfolding inner_entry leaf_entry first_key last_key head_or last_or
leaf_bare d p n c slots l e z =
    let f : take c slots ≡ [] = filled_is slots n c l e ∙ ap (λ (k : ℕ). take k slots) z in
    rw f (λ i. record { child = p; first = key_bare d i; last = key_bare d i })

pub inner_bare : (p n c : ℕ) (slots : List Entry) → length slots ≡ 16 → n ≡ min 16 c → n ≡ 0 → inner_entry p [] ≡ inner_entry p (take c slots)
inner_bare p n c slots l e z = ap (inner_entry p) (sym (filled_is slots n c l e ∙ ap (λ (k : ℕ). take k slots) z))

pub leaf_some : (d p n c : ℕ) (slots : List Record) (x y : Record) (a b : Key) → x ≡ head_or no_record (take c slots) → y ≡ last_or no_record (take c slots)
    → a ≡ key_of d x → b ≡ key_of d y → record { child = p; first = a; last = b } ≡ leaf_entry d p (take c slots)
unfolding leaf_entry first_key last_key
leaf_some d p n c slots x y a b f g h k = rw (h, k, f, g)

pub inner_some : (p c : ℕ) (slots : List Entry) (x y : Entry) → x ≡ head_or no_entry (take c slots) → y ≡ last_or no_entry (take c slots)
    → record { child = p; first = x.first; last = y.last } ≡ inner_entry p (take c slots)
unfolding inner_entry
inner_some p c slots x y f g = rw (f, g)

-- ---- the child to follow

pub child_in : (slots : List Entry) (n c i : ℕ) → n ≡ min 16 c → i < n → (get_or slots i no_entry).child ≡ child_at (take c slots) i
unfolding child_at
child_in slots n c i e h =
    sym (get_or-map (λ x. x.child) (take c slots) i no_entry ∙ ap (λ (x : Entry). x.child) (get_or-take c slots i no_entry (omega arith)))

pub child_out : (slots : List Entry) (n c i : ℕ) → length slots ≡ 16 → n ≡ min 16 c → n ≤ i → 0 ≡ child_at (take c slots) i
unfolding child_at
child_out slots n c i l e h =
    sym (get_or-eq_default (map (λ x. x.child) (take c slots)) 0 (omega (arith, length-map (take c slots) (λ x. x.child), length-take c slots)))

-- the entries whose first key is not above k
abbrev pub low_first : ℕ → Entry → Bool
low_first k e = leb (key_number e.first) k

above_leading : (k : ℕ) (es : List Entry) → not_above k es ≡ leading (low_first k) es
unfolding not_above leading
above_leading k [] = refl
above_leading k (e ∷ es) = ap (λ (n : ℕ). if (low_first k e) (suc n) 0) (above_leading k es)

pub choose_start : (k : ℕ) (es : List Entry) → choose k es ≡ 0 + leading (low_first k) (drop 1 es)
unfolding choose leading
choose_start k [] = refl
choose_start k (e ∷ es) = omega (arith, above_leading k es)
