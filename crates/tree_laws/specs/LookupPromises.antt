-- What is read from a sound index is what it holds: its records, the record of an identifier, its leaves.
use Rattle.std.specs.Prelude.{◌≡◌, refl, ◌≢◌, List, [], ◌∷◌, ◌++◌, map, ℕ, zero, suc, ◌≤◌, ◌<◌, eqb, length}
use Rattle.std.proofs.Common.{sym, ap, ◌∙◌, arith, length-append, eqb-true, eq-eqb, ne_eqb}
use Rattle.std.proofs.lemmas.Bool.{eqb-false}
use Rattle.lists.specs.Basics.{if, indicator, All, none, also, concat_map, all_map}
use Rattle.lists.specs.Ascending.{head_or}
use Rattle.lists.specs.Choices.{bool_cases}
use Rattle.lists.specs.Counts.{mult, mult_more, mult_not, absent}
use Rattle.lists.specs.ConcatMapLaws.{map_append}
use Rattle.lists.specs.Sorting.{filter, sum}
use Rattle.pagestore_page.specs.declared.Record.{Record}
use Rattle.pagestore_page.specs.declared.Entry.{Entry}
use Rattle.pagestore.specs.Store.{root, level, field_at, view_of}
use Rattle.tree_model.specs.Trees.{Item, records, leaves, ident_of, entry_of, tree_of, live, leaves_of}
use Rattle.tree_model.specs.Sound.{SoundIndex}
use Rattle.tree_model.specs.TreeLaws.{concat_map_records}
use Rattle.tree_core.specs.Lookup.{records_under, with_ident, blank, find_under, find_in, leaf_entries, leaf_count}
use Rattle.tree_laws.specs.Idents.{none_of}
use Rattle.tree_laws.specs.Frames.{Held}
use Rattle.tree_laws.specs.InsertSim.{leaf_items_law, inner_items}
use Rattle.tree_laws.specs.Wholes.{sound_whole, sound_right}

-- THE RECORDS

kids_under : (d l : ℕ) (b : List ℕ) → ((t : Item (suc l)) → Held d (suc l) b t → records_under l b t.0 ≡ records (suc l) t) → {ts : List (Item (suc l))} → All (Held d (suc l) b) ts
    → concat_map (λ e. records_under l b e.child) (map (entry_of d l) ts) ≡ concat_map (records (suc l)) ts
unfolding concat_map entry_of
kids_under d l b f none = refl
kids_under d l b f (also {x = t} h r) = λ i. f t h i ++ kids_under d l b f r i

-- below any page of the tree
pub under_is : (d l : ℕ) (b : List ℕ) (t : Item (suc l)) → Held d (suc l) b t → records_under l b t.0 ≡ records (suc l) t
unfolding records_under records Held
under_is d zero b t h = leaf_items_law d b t h ∙ sym (concat_map_records t.1)
under_is d (suc l) b t h = ap (concat_map (λ e. records_under l b e.child)) (inner_items d l b t h) ∙ kids_under d l b (under_is d l b) h.1

-- the records that are read are the live ones
pub records_live : (b : List ℕ) → SoundIndex b → records_under (field_at level b) b (field_at root b) ≡ live (view_of b)
unfolding live
records_live b s =
    let w = sound_whole b s in
    rw (w.level_is, w.root_is) (under_is (view_of b).d (view_of b).level b (tree_of (view_of b)) w.held)

-- THE RECORD OF AN IDENTIFIER

pub find_live : (b : List ℕ) (i : ℕ) → SoundIndex b → find_in b i ≡ head_or blank (with_ident i (live (view_of b)))
unfolding find_in find_under
find_live b i s = ap (λ (rs : List Record). head_or blank (with_ident i rs)) (records_live b s)

-- where it is there, it has that identifier
found_ident : (i : ℕ) (rs : List Record) → 0 < mult i (map ident_of rs) → (head_or blank (with_ident i rs)).id ≡ i
unfolding filter head_or mult
found_ident i [] h = absurd (omega arith)
found_ident i (r ∷ rs) h =
    bool_cases (λ c. eqb r.id i ≡ c → (head_or blank (if c (r ∷ with_ident i rs) (with_ident i rs))).id ≡ i) (eqb r.id i)
    (λ e f. eqb-true r.id i e)
    (λ e f. let ne = eqb-false r.id i e in
    let z : mult i (r.id ∷ map ident_of rs) ≡ mult i (map ident_of rs) = mult_not i r.id (map ident_of rs) (λ (w : i ≡ r.id). ne (sym w)) in
    found_ident i rs (omega arith))
    refl

found_none : (i : ℕ) (rs : List Record) → mult i (map ident_of rs) ≡ 0 → head_or blank (with_ident i rs) ≡ blank
unfolding filter head_or mult
found_none i [] h = refl
found_none i (r ∷ rs) h =
    let ne : i ≢ r.id = absent i r.id (map ident_of rs) h in
    rw (ne_eqb r.id i (λ (w : r.id ≡ i). ne (sym w))) (found_none i rs (omega (arith, mult_more i r.id (map ident_of rs))))

-- and no other record has it, where identifiers are distinct
only_one : (i : ℕ) (rs : List Record) → mult i (map ident_of rs) ≤ 1 → All (λ x. x.id ≡ i → x ≡ head_or blank (with_ident i rs)) rs
unfolding filter head_or mult
only_one i [] h = none
only_one i (r ∷ rs) h =
    bool_cases (λ c. eqb r.id i ≡ c → All (λ x. x.id ≡ i → x ≡ head_or blank (if c (r ∷ with_ident i rs) (with_ident i rs))) (r ∷ rs)) (eqb r.id i)
    (λ e f. let same : i ≡ r.id = sym (eqb-true r.id i e) in
    let z : mult i (map ident_of rs) ≡ 0 = let y : indicator (eqb i r.id) ≡ 1 = ap indicator (eq-eqb i r.id same) in omega arith in
    also (λ _. refl) (all_map (λ x (ne : i ≢ x.id) (g : x.id ≡ i). absurd (ne (sym g))) (none_of i rs z)))
    (λ e f. also (λ g. absurd (eqb-false r.id i e g)) (only_one i rs (omega (arith, mult_more i r.id (map ident_of rs)))))
    refl

-- the record found is the live one of that identifier; if there is none, it is the blank
pub find_ident : (b : List ℕ) (i : ℕ) → SoundIndex b → 0 < mult i (map ident_of (live (view_of b))) → (find_in b i).id ≡ i
find_ident b i s h = ap (λ (r : Record). r.id) (find_live b i s) ∙ found_ident i (live (view_of b)) h

pub find_none : (b : List ℕ) (i : ℕ) → SoundIndex b → mult i (map ident_of (live (view_of b))) ≡ 0 → find_in b i ≡ blank
find_none b i s h = find_live b i s ∙ found_none i (live (view_of b)) h

pub find_only : (b : List ℕ) (i : ℕ) → SoundIndex b → All (λ x. x.id ≡ i → x ≡ find_in b i) (live (view_of b))
find_only b i s =
    all_map (λ x (f : x.id ≡ i → x ≡ head_or blank (with_ident i (live (view_of b)))) g. f g ∙ sym (find_live b i s)) (only_one i (live (view_of b)) ((sound_right b s).distinct i))

-- THE LEAVES

kids_leaves : (d l : ℕ) (b : List ℕ) → ((t : Item (suc l)) → Held d (suc l) b t → leaf_entries l b (entry_of d l t) ≡ map (entry_of d 0) (leaves l t)) → {ts : List (Item (suc l))} → All (Held d (suc l) b) ts
    → concat_map (leaf_entries l b) (map (entry_of d l) ts) ≡ map (entry_of d 0) (concat_map (leaves l) ts)
unfolding concat_map
kids_leaves d l b f none = refl
kids_leaves d l b f (also {x = t} {xs = ts} h r) = (λ i. f t h i ++ kids_leaves d l b f r i) ∙ sym (map_append (entry_of d 0) (leaves l t) (concat_map (leaves l) ts))

-- below the entry of any page of the tree
pub entries_are : (d l : ℕ) (b : List ℕ) (t : Item (suc l)) → Held d (suc l) b t → leaf_entries l b (entry_of d l t) ≡ map (entry_of d 0) (leaves l t)
unfolding leaf_entries leaves Held entry_of
entries_are d zero b t h = refl
entries_are d (suc l) b t h = ap (concat_map (leaf_entries l b)) (inner_items d l b t h) ∙ kids_leaves d l b (entries_are d l b) h.1

kids_count : (d l : ℕ) (b : List ℕ) → ((t : Item (suc l)) → Held d (suc l) b t → leaf_count l b t.0 ≡ length (leaves l t)) → {ts : List (Item (suc l))} → All (Held d (suc l) b) ts
    → sum (λ e. leaf_count l b e.child) (map (entry_of d l) ts) ≡ length (concat_map (leaves l) ts)
unfolding concat_map sum entry_of
kids_count d l b f none = refl
kids_count d l b f (also {x = t} {xs = ts} h r) = omega (arith, f t h, kids_count d l b f r, length-append (leaves l t) (concat_map (leaves l) ts))

-- below any page of the tree
pub count_is : (d l : ℕ) (b : List ℕ) (t : Item (suc l)) → Held d (suc l) b t → leaf_count l b t.0 ≡ length (leaves l t)
unfolding leaf_count leaves Held
count_is d zero b t h = refl
count_is d (suc l) b t h = ap (sum (λ e. leaf_count l b e.child)) (inner_items d l b t h) ∙ kids_count d l b (count_is d l b) h.1

leaves_from : (d l : ℕ) (b : List ℕ) (e : Entry) (t : Item (suc l)) → 0 < l → Held d (suc l) b t → e.child ≡ t.0 → leaf_entries l b e ≡ map (entry_of d 0) (leaves l t)
unfolding leaf_entries leaves entry_of
leaves_from d zero b e t n h c = absurd (omega arith)
leaves_from d (suc l) b e t n h c = rw c (entries_are d (suc l) b t h)

-- the leaves as the inner pages give them, by position: page, first key and last key of each; e is any entry of the root
pub leaves_are : (b : List ℕ) (e : Entry) → SoundIndex b → 0 < field_at level b → e.child ≡ field_at root b → leaf_entries (field_at level b) b e ≡ map (entry_of (view_of b).d 0) (leaves_of (view_of b))
unfolding leaves_of
leaves_are b e s n c =
    let w = sound_whole b s in
    rw w.level_is (leaves_from (view_of b).d (view_of b).level b e (tree_of (view_of b)) (rw w.level_is at n) w.held (c ∙ w.root_is))

-- how many they are
pub leaf_count_law : (b : List ℕ) → SoundIndex b → leaf_count (field_at level b) b (field_at root b) ≡ length (leaves_of (view_of b))
unfolding leaves_of
leaf_count_law b s =
    let w = sound_whole b s in
    rw (w.level_is, w.root_is) (count_is (view_of b).d (view_of b).level b (tree_of (view_of b)) w.held)
