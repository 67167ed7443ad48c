-- Where a record's key leads in a sound index: the record stands there just if it is live, and what a deletion does goes by identifier and point.
use Rattle.std.specs.Prelude.{◌≡◌, refl, true, ◌≢◌, List, ◌∷◌, ◌++◌, map, ℕ, zero, suc, ◌+◌, ◌<◌, eqb, length, drop, get_or}
use Rattle.std.proofs.Common.{sym, ◌∙◌, subst, arith, eqb-true}
use Rattle.std.proofs.Math.Path.{ap}
use Rattle.std.proofs.Math.ListN.{take}
use Rattle.std.proofs.lemmas.Bool.{eqb-false}
use Rattle.lists.specs.Basics.{if, All, none, also, concat_map, all_left, all_right, all_map}
use Rattle.lists.specs.Ascending.{head_or}
use Rattle.lists.specs.Choices.{bool_cases}
use Rattle.lists.specs.Counts.{mult, mult_append, mult_not}
use Rattle.lists.specs.ConcatMapLaws.{map_append}
use Rattle.lists.specs.Parts.{concat_map_split}
use Rattle.lists.specs.AscendingBy.{AscendingBy, rising_left, rising_right}
use Rattle.lists.specs.Tabulated.{all_at}
use Rattle.lists.specs.Sorting.{filter}
use Rattle.lists.specs.Tests.{false_true, by_cases}
use Rattle.lists.specs.Equal.{same_is, is_same, same}
use Rattle.pagestore_page.specs.declared.Record.{Record}
use Rattle.pagestore_page.specs.Fits.{RecordFits}
use Rattle.pagestore.specs.Store.{features, root, level, leaf_at, inner_at, records_in, entries_in, field_at, view_of}
use Rattle.tree_model.specs.Trees.{Item, records, rank_of, key_of, ident_of, tree_of, live}
use Rattle.tree_model.specs.Sound.{SoundIndex}
use Rattle.tree_model.specs.Inserting.{choose, no_tree, chosen}
use Rattle.tree_model.specs.TreeLaws.{concat_map_records}
use Rattle.tree_core.specs.Entries.{child_at}
use Rattle.tree_core.specs.Deletion.{fix_underflow, delete_at, delete_from}
use Rattle.tree_core.specs.Lookup.{blank, with_ident, find_in}
use Rattle.tree_core.specs.Keyed.{leaf_for, same_point, held_among, holds_at}
use Rattle.tree_laws.specs.Shapes.{Some, Root, ok_root, child_at_law, chosen_lt, before_chosen, behind_chosen}
use Rattle.tree_laws.specs.DeleteTree.{Known, not_below, not_above_law}
use Rattle.tree_laws.specs.Frames.{Held}
use Rattle.tree_laws.specs.InsertSim.{leaf_items_law, inner_items}
use Rattle.tree_laws.specs.Wholes.{sound_whole, root_fit}
use Rattle.tree_laws.specs.LookupPromises.{find_live, find_only}

-- EQUAL POINTS

-- a record has x's identifier and x's point
abbrev pub Twin : ℕ → Record → Record → Type 0
Twin d x y = (y.id ≡ x.id) × (take d y.coords ≡ take d x.coords)

-- IN A LEAF

-- where only y has the identifier, a record that is held there is y
held_twin : (d : ℕ) (x y : Record) {rs : List Record} → All (λ z. z.id ≡ x.id → z ≡ y) rs → held_among d x rs ≡ true → Twin d x y
unfolding held_among same_point
held_twin d x y none e = false_true e
held_twin d x y (also {x = r} h t) e =
    by_cases (eqb r.id x.id)
    (λ c. let g : same (take d r.coords) (take d x.coords) ≡ true = rw c at e in
    let i : r.id ≡ x.id = eqb-true r.id x.id c in
    subst (Twin d x) (h i) (i, same_is (take d r.coords) (take d x.coords) g))
    (λ c. held_twin d x y t (rw c at e))

twin_held : (d : ℕ) (x : Record) {rs : List Record} → All (λ z. z.id ≡ x.id → take d z.coords ≡ take d x.coords) rs → 0 < mult x.id (map ident_of rs) → held_among d x rs ≡ true
unfolding held_among same_point mult
twin_held d x none h = absurd (omega arith)
twin_held d x (also {x = r} {xs = rs} f t) h =
    by_cases (eqb r.id x.id)
    (λ c. rw (c, f (eqb-true r.id x.id c)) (is_same (take d x.coords)))
    (λ c. let z : mult x.id (r.id ∷ map ident_of rs) ≡ mult x.id (map ident_of rs) = mult_not x.id r.id (map ident_of rs) (λ (w : x.id ≡ r.id). eqb-false r.id x.id c (sym w)) in
    rw c (twin_held d x t (omega arith)))

-- BELOW A PAGE

-- the records of the leaf to which rank k leads
abbrev led_to : ℕ → List ℕ → ℕ → ℕ → List Record
led_to l b p k = records_in (leaf_at b (leaf_for l b p k))

led_child : (d l : ℕ) (b : List ℕ) (k : ℕ) (t : Item (suc (suc l))) → Held d (suc (suc l)) b t
    → led_to (suc l) b t.0 k ≡ led_to l b (get_or t.1 (chosen d l k t.1) (no_tree l)).0 k
unfolding leaf_for chosen
led_child d l b k t h =
    ap (λ (q : ℕ). led_to l b q k)
    (ap (λ es. child_at es (choose k es)) (inner_items d l b t h) ∙ child_at_law d l (choose k (map _ t.1)) t.1)

-- they are records of the tree
led_all : (P : Record → Type 0) (d l : ℕ) (b : List ℕ) (k : ℕ) (t : Item (suc l)) → Root l t → Held d (suc l) b t → All P (records (suc l) t) → All P (led_to l b t.0 k)
unfolding leaf_for records Some Held
led_all P d zero b k t o h a = rw (leaf_items_law d b t h) (rw (concat_map_records t.1) at a)
led_all P d (suc l) b k t o h a =
    let i = chosen d l k t.1 in
    let lt = chosen_lt d l k t.1 (omega (arith, o.some)) in
    let c = get_or t.1 i (no_tree l) in
    let ls : List Record = concat_map (records (suc l)) (take i t.1) in
    let rs : List Record = concat_map (records (suc l)) (drop (suc i) t.1) in
    let a' : All P (ls ++ (records (suc l) c ++ rs)) = rw (concat_map_split (records (suc l)) t.1 i (no_tree l) lt) at a in
    subst (All P) (sym (led_child d l b k t h))
    (led_all P d l b k c (ok_root l c (all_at o.subs i (no_tree l) lt)) (all_at h.1 i (no_tree l) lt) (all_left (records (suc l) c) rs (all_right ls _ a')))

absent_all : (i : ℕ) {xs : List Record} → All (λ x. x.id ≢ i) xs → mult i (map ident_of xs) ≡ 0
unfolding mult
absent_all i none = refl
absent_all i (also {x = x} {xs = xs} h t) = mult_not i x.id (map ident_of xs) (λ (w : i ≡ x.id). h (sym w)) ∙ absent_all i t

times_append : (i : ℕ) (xs ys : List Record) → mult i (map ident_of (xs ++ ys)) ≡ mult i (map ident_of xs) + mult i (map ident_of ys)
times_append i xs ys = ap (mult i) (map_append ident_of xs ys) ∙ mult_append i (map ident_of xs) (map ident_of ys)

-- an identifier whose records have x's rank stands as often in the leaf to which that leads as in the tree
led_times : (d l : ℕ) (b : List ℕ) (x : Record) (t : Item (suc l)) → Root l t → Held d (suc l) b t → AscendingBy (rank_of d) (records (suc l) t) → All (Known d x) (records (suc l) t)
    → mult x.id (map ident_of (led_to l b t.0 (rank_of d x))) ≡ mult x.id (map ident_of (records (suc l) t))
unfolding leaf_for records Some Held
led_times d zero b x t o h s kn = ap (λ (rs : List Record). mult x.id (map ident_of rs)) (leaf_items_law d b t h ∙ sym (concat_map_records t.1))
led_times d (suc l) b x t o h s kn =
    let k = rank_of d x in
    let i = chosen d l k t.1 in
    let some : 0 < length t.1 = omega (arith, o.some) in
    let lt = chosen_lt d l k t.1 some in
    let c = get_or t.1 i (no_tree l) in
    let ls : List Record = concat_map (records (suc l)) (take i t.1) in
    let cs : List Record = records (suc l) c in
    let rs : List Record = concat_map (records (suc l)) (drop (suc i) t.1) in
    let split : concat_map (records (suc l)) t.1 ≡ ls ++ (cs ++ rs) = concat_map_split (records (suc l)) t.1 i (no_tree l) lt in
    let s' : AscendingBy (rank_of d) (ls ++ (cs ++ rs)) = rw split at s in
    let kn' : All (Known d x) (ls ++ (cs ++ rs)) = rw split at kn in
    let knc = all_right ls (cs ++ rs) kn' in
    let below : mult x.id (map ident_of ls) ≡ 0 = absent_all x.id (not_below d x (all_left ls _ kn') (before_chosen d l k t.1 some o.subs s)) in
    let above : mult x.id (map ident_of rs) ≡ 0 = absent_all x.id (not_above_law d x (all_right cs rs knc) (behind_chosen d l k t.1 some o.subs s)) in
    let ih : mult x.id (map ident_of (led_to l b c.0 k)) ≡ mult x.id (map ident_of cs) =
    led_times d l b x c (ok_root l c (all_at o.subs i (no_tree l) lt)) (all_at h.1 i (no_tree l) lt) (rising_left (rank_of d) cs rs (rising_right (rank_of d) ls _ s')) (all_left cs rs knc) in
    let led : mult x.id (map ident_of (led_to (suc l) b t.0 k)) ≡ mult x.id (map ident_of (led_to l b c.0 k)) = ap (λ (zs : List Record). mult x.id (map ident_of zs)) (led_child d l b k t h) in
    let all : mult x.id (map ident_of (concat_map (records (suc l)) t.1)) ≡ mult x.id (map ident_of (ls ++ (cs ++ rs))) = ap (λ (zs : List Record). mult x.id (map ident_of zs)) split in
    omega (arith, times_append x.id ls (cs ++ rs), times_append x.id cs rs)

-- IN A SOUND INDEX

-- keys go by identifier and point
pub twin_rank : (d : ℕ) (x y : Record) → Twin d x y → rank_of d y ≡ rank_of d x
unfolding rank_of key_of
twin_rank d x y e = rw (e.0, e.1)

module _ (b : List ℕ) (s : SoundIndex b) (x : Record) where
  abbrev d : ℕ
  d = (view_of b).d

  abbrev led : List Record
  led = led_to (view_of b).level b (tree_of (view_of b)).0 (rank_of (view_of b).d x)

  holds_led : holds_at b x ≡ held_among (view_of b).d x led
  unfolding holds_at
  holds_led = let w = sound_whole b s in rw (w.features_are, w.level_is, w.root_is)

  -- what is held there is the record that is found for its identifier
  pub holds_found : holds_at b x ≡ true → Twin (view_of b).d x (find_in b x.id)
  unfolding live
  holds_found e =
      let w = sound_whole b s in
      held_twin d x (find_in b x.id) (led_all (λ z. z.id ≡ x.id → z ≡ find_in b x.id) d (view_of b).level b (rank_of d x) (tree_of (view_of b)) w.ok w.held (find_only b x.id s)) (sym holds_led ∙ e)

  -- and a live record is held there
  pub found_holds : 0 < mult x.id (map ident_of (live (view_of b))) → Twin (view_of b).d x (find_in b x.id) → holds_at b x ≡ true
  unfolding live
  found_holds h e =
      let w = sound_whole b s in
      let only : All (λ z. z.id ≡ x.id → z ≡ find_in b x.id) (records (suc (view_of b).level) (tree_of (view_of b))) = find_only b x.id s in
      let known : All (Known d x) (records (suc (view_of b).level) (tree_of (view_of b))) = all_map (λ z (f : z.id ≡ x.id → z ≡ find_in b x.id) g. ap (rank_of d) (f g) ∙ twin_rank d x (find_in b x.id) e) only in
      let points : All (λ z. z.id ≡ x.id → take d z.coords ≡ take d x.coords) led =
      led_all (λ z. z.id ≡ x.id → take d z.coords ≡ take d x.coords) d (view_of b).level b (rank_of d x) (tree_of (view_of b)) w.ok w.held (all_map (λ z (f : z.id ≡ x.id → z ≡ find_in b x.id) g. ap (λ (r : Record). take d r.coords) (f g) ∙ e.1) only) in
      holds_led ∙ twin_held d x points (omega (arith, h, led_times d (view_of b).level b x (tree_of (view_of b)) w.ok w.held w.order known))

-- what holds of every live record holds of the one found
headed : (P : Record → Type 0) (i : ℕ) {rs : List Record} → All P rs → 0 < mult i (map ident_of rs) → P (head_or blank (with_ident i rs))
unfolding filter head_or mult
headed P i none h = absurd (omega arith)
headed P i (also {x = r} {xs = rs} p t) h =
    bool_cases (λ c. eqb r.id i ≡ c → P (head_or blank (if c (r ∷ with_ident i rs) (with_ident i rs)))) (eqb r.id i)
    (λ e f. p)
    (λ e f. let z : mult i (r.id ∷ map ident_of rs) ≡ mult i (map ident_of rs) = mult_not i r.id (map ident_of rs) (λ (w : i ≡ r.id). eqb-false r.id i e (sym w)) in headed P i t (omega arith))
    refl

module _ (b : List ℕ) (i : ℕ) (s : SoundIndex b) (h : 0 < mult i (map ident_of (live (view_of b)))) where
  pub found_all : (P : Record → Type 0) → All P (live (view_of b)) → P (find_in b i)
  found_all P a = subst P (sym (find_live b i s)) (headed P i a h)

  pub found_fits : RecordFits (find_in b i)
  unfolding live
  found_fits = found_all RecordFits (root_fit (view_of b).level (tree_of (view_of b)) (sound_whole b s).ok)

-- DELETION

-- what it does goes by identifier and rank
delete_alike : (d l : ℕ) (b : List ℕ) (p : ℕ) (x y : Record) → y.id ≡ x.id → rank_of d y ≡ rank_of d x → delete_at d l b p y ≡ delete_at d l b p x
unfolding delete_at
delete_alike d zero b p x y i k = rw i
delete_alike d (suc l) b p x y i k =
    let es = entries_in (inner_at b p) in
    ap (λ (r : ℕ). fix_underflow d l p es (choose r es) (delete_at d l b (child_at es (choose r es)) y)) k
    ∙ ap (fix_underflow d l p es (choose (rank_of d x) es)) (delete_alike d l b (child_at es (choose (rank_of d x) es)) x y i k)

-- so by identifier and point
pub delete_twin : (b : List ℕ) (x y : Record) → Twin (view_of b).d x y → delete_from b y ≡ delete_from b x
unfolding delete_from view_of
delete_twin b x y e = rw (delete_alike (field_at features b) (field_at level b) b (field_at root b) x y e.0 (twin_rank (field_at features b) x y e))
