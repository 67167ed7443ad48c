-- Identifiers among records: how often they stand there, with a record put in or deleted.
use Rattle.std.specs.Prelude.{◌≡◌, refl, ◌≢◌, List, [], ◌∷◌, ◌++◌, map, ℕ, suc, ◌+◌, ◌≤◌, ◌<◌, ltb, eqb, length}
use Rattle.std.proofs.Common.{sym, ap, arith, eqb-true, ne_eqb}
use Rattle.std.proofs.lemmas.Bool.{eqb-false}
use Rattle.lists.specs.Basics.{if, indicator, All, none, also, all_map}
use Rattle.lists.specs.Choices.{bool_cases, if_cases, indicator_le}
use Rattle.lists.specs.Counts.{mult, mult_more, mult_not, absent}
use Rattle.lists.specs.ConcatMapLaws.{all_both}
use Rattle.lists.specs.AscendingBy.{AscendingBy, end, step}
use Rattle.lists.specs.Sorting.{insert_by}
use Rattle.pagestore_page.specs.declared.Record.{Record}
use Rattle.pagestore_page.specs.Fits.{RecordFits}
use Rattle.tree_model.specs.Trees.{ident_of, rank_of}
use Rattle.tree_model.specs.Inserting.{insert_record, key_before}
use Rattle.tree_model.specs.Deleting.{delete_record}
use Rattle.tree_laws.specs.KeysFit.{rank_ident}

-- an identifier that is not there is no record's
pub none_of : (i : ℕ) (rs : List Record) → mult i (map ident_of rs) ≡ 0 → All (λ x. i ≢ x.id) rs
none_of i [] h = none
none_of i (r ∷ rs) h = also (absent i r.id (map ident_of rs) h) (none_of i rs (omega (arith, mult_more i r.id (map ident_of rs))))

-- and its rank is new
pub rank_new : (d : ℕ) (r : Record) (rs : List Record) → RecordFits r → All RecordFits rs → mult r.id (map ident_of rs) ≡ 0 → All (λ x. rank_of d x ≡ rank_of d r → ⊥) rs
rank_new d r rs f fs m =
    all_map (λ x (g : RecordFits x × (r.id ≢ x.id)) e. g.1 (sym (rank_ident d x r g.0 f e))) (all_both fs (none_of r.id rs m))

pub ident_ins : (d : ℕ) (r : Record) (rs : List Record) (i : ℕ) → mult i (map ident_of (insert_record d r rs)) ≡ indicator (eqb i r.id) + mult i (map ident_of rs)
unfolding insert_by mult
ident_ins d r [] i = refl
ident_ins d r (x ∷ xs) i =
    let ih = ident_ins d r xs i in
    bool_cases (λ c. mult i (map ident_of (if c (x ∷ insert_by (key_before d) r xs) (r ∷ x ∷ xs))) ≡ indicator (eqb i r.id) + (indicator (eqb i x.id) + mult i (map ident_of xs))) (ltb (rank_of d x) (rank_of d r))
    (λ e. omega arith) (λ e. refl)

-- a new identifier keeps them distinct
pub distinct_ins : (d : ℕ) (r : Record) (rs : List Record) → mult r.id (map ident_of rs) ≡ 0 → ((i : ℕ) → mult i (map ident_of rs) ≤ 1) → (i : ℕ) → mult i (map ident_of (insert_record d r rs)) ≤ 1
distinct_ins d r rs m h i =
    bool_cases (λ c. eqb i r.id ≡ c → mult i (map ident_of (insert_record d r rs)) ≤ 1) (eqb i r.id)
    (λ e f. let same : i ≡ r.id = eqb-true i r.id e in
    let z : mult i (map ident_of rs) ≡ 0 = rw same m in omega (arith, ident_ins d r rs i, indicator_le (eqb i r.id)))
    (λ e f. let z : indicator (eqb i r.id) ≡ 0 = ap indicator e in omega (arith, ident_ins d r rs i, h i))
    refl

-- DELETION

pub del_left : (i : ℕ) {xs : List Record} (ys : List Record) → All (λ x. x.id ≢ i) xs → delete_record i (xs ++ ys) ≡ xs ++ delete_record i ys
unfolding delete_record
del_left i ys none = refl
del_left i ys (also {x = x} h t) = rw (ne_eqb x.id i h) (ap (λ (l : List Record). x ∷ l) (del_left i ys t))

del_none : (i : ℕ) {ys : List Record} → All (λ x. x.id ≢ i) ys → delete_record i ys ≡ ys
unfolding delete_record
del_none i none = refl
del_none i (also {x = x} h t) = rw (ne_eqb x.id i h) (ap (λ (l : List Record). x ∷ l) (del_none i t))

pub del_right : (i : ℕ) (xs : List Record) {ys : List Record} → All (λ x. x.id ≢ i) ys → delete_record i (xs ++ ys) ≡ delete_record i xs ++ ys
unfolding delete_record
del_right i [] h = del_none i h
del_right i (x ∷ xs) {ys} h =
    bool_cases (λ c. if c (xs ++ ys) (x ∷ delete_record i (xs ++ ys)) ≡ if c xs (x ∷ delete_record i xs) ++ ys) (eqb x.id i) (λ e. refl) (λ e. ap (λ (l : List Record). x ∷ l) (del_right i xs h))

pub del_all : {P : Record → Type 0} (i : ℕ) {xs : List Record} → All P xs → All P (delete_record i xs)
unfolding delete_record
del_all i none = none
del_all {P} i (also {x = x} {xs = xs} h t) = if_cases (All P) (eqb x.id i) xs (x ∷ delete_record i xs) (λ e. t) (λ e. also h (del_all i t))

pub del_length : (i : ℕ) (xs : List Record) → (length (delete_record i xs) ≤ length xs) × (length xs ≤ length (delete_record i xs) + 1)
unfolding delete_record
del_length i [] = omega arith
del_length i (x ∷ xs) =
    let ih = del_length i xs in
    if_cases (λ (z : List Record). (length z ≤ suc (length xs)) × (suc (length xs) ≤ length z + 1)) (eqb x.id i) xs (x ∷ delete_record i xs) (λ e. omega arith) (λ e. omega arith)

-- one record fewer, where the identifier is there
pub del_one : (i : ℕ) (xs : List Record) → 0 < mult i (map ident_of xs) → length (delete_record i xs) + 1 ≡ length xs
unfolding delete_record mult
del_one i [] h = absurd (omega arith)
del_one i (x ∷ xs) h =
    bool_cases (λ c. eqb x.id i ≡ c → length (if c xs (x ∷ delete_record i xs)) + 1 ≡ suc (length xs)) (eqb x.id i) (λ e f. omega arith)
    (λ e f. let ne = eqb-false x.id i e in
    let z : mult i (x.id ∷ map ident_of xs) ≡ mult i (map ident_of xs) = mult_not i x.id (map ident_of xs) (λ (w : i ≡ x.id). ne (sym w)) in
    let ih : length (delete_record i xs) + 1 ≡ length xs = del_one i xs (omega arith) in omega arith)
    refl

pub del_rising : (d i : ℕ) {xs : List Record} → AscendingBy (rank_of d) xs → AscendingBy (rank_of d) (delete_record i xs)
unfolding delete_record
del_rising d i end = end
del_rising d i (step {x = x} {xs = xs} h t) = if_cases (AscendingBy (rank_of d)) (eqb x.id i) xs (x ∷ delete_record i xs) (λ e. t) (λ e. step (del_all i h) (del_rising d i t))

-- no identifier comes to stand there more often
pub ident_del : (i j : ℕ) (xs : List Record) → mult j (map ident_of (delete_record i xs)) ≤ mult j (map ident_of xs)
unfolding delete_record mult
ident_del i j [] = omega arith
ident_del i j (x ∷ xs) =
    let ih = ident_del i j xs in
    if_cases (λ (z : List Record). mult j (map ident_of z) ≤ indicator (eqb j x.id) + mult j (map ident_of xs)) (eqb x.id i) xs (x ∷ delete_record i xs) (λ e. omega arith) (λ e. omega arith)
