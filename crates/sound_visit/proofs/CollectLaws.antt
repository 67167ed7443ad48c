-- Steps of the collection of identifiers. Assumes nothing.
use Rattle.std.proofs.Common.{◌≡◌, refl, sym, ap, ◌∙◌, subst, List, [], ◌∷◌, ◌++◌, map, append_assoc, append-nil, ℕ, zero, suc, ◌+◌, ◌≤◌, ◌<◌, arith, add-one, length, get_or, take, set, length-append, length-take, take-suc-set, eq-eqb, ne_eqb}
use lib.ListN.{length-map}
use Rattle.lists.specs.Basics.{All, none, all_append}
use Rattle.lists.specs.ConcatMapLaws.{map_append}
use Rattle.lists.specs.Members.{At, map_spot, spots_all}
use Rattle.lists.specs.Sorting.{sum}
use Rattle.lists.specs.Tests.{decide}
use Rattle.lists.specs.Lengths.{length_none}
use Rattle.pagestore_page.specs.declared.Record.{Record}
use Rattle.pagestore.specs.Store.{records_of, records_in, View, view_of, page_at, level_at, leaf_at}
use Rattle.pagestore_page.specs.declared.Leaf.{Leaf}
use Rattle.pagestore.specs.Store.PageLaws.{records_slots}
use Rattle.tree_model.specs.Trees.{ident_of}
use Rattle.sound_faults.specs.Shapes.{idents}
use Rattle.sound_faults.proofs.Assembled.{reached_page}
use Rattle.sound_links.specs.Marks.{Seen, MarksAre, marked_to}
use Rattle.sound_visit.specs.Collect.{ident_on, holder_of, pairs_on, pairs_if, pairs_to, Joined, Collected, Gathered}
use Rattle.sound_faults.specs.Prefixes.{take_more}
use Rattle.sound_faults.proofs.ViewLaws.{leaf_few, leaf_is, view_level, inner_points}
use Rattle.sound_links.proofs.MarkedLaws.{marked_yes, marked_no, marked_none}

-- ---- ONE LEAF

-- a further element of a run that is written behind the first n
pub put_step : {A : Type 0} (g : A → ℕ) (d : A) (rs : List A) (l l0 : List ℕ) (n i x : ℕ) → i < length rs → n + i < length l → x ≡ g (get_or rs i d)
    → take (n + i) l ≡ take n l0 ++ map g (take i rs) → take (n + (i + 1)) (set l (n + i) x) ≡ take n l0 ++ map g (take (i + 1) rs)
put_step g d rs l l0 n i x h k e q =
    let one : n + (i + 1) ≡ suc (n + i) = omega arith in
    ap (λ (z : ℕ). take z (set l (n + i) x)) one ∙ take-suc-set l (n + i) x k
    ∙ ap (λ (r : List ℕ). r ++ (x ∷ [])) q ∙ append_assoc (take n l0) (map g (take i rs)) (x ∷ [])
    ∙ ap (λ (r : List ℕ). take n l0 ++ r) (ap (λ (y : ℕ). map g (take i rs) ++ (y ∷ [])) e ∙ sym (ap (map g) (take_more d rs i h) ∙ map_append g (take i rs) (get_or rs i d ∷ [])))

pub put_start : (l : List ℕ) (n : ℕ) → take (n + 0) l ≡ take n l ++ []
put_start l n = ap (λ (z : ℕ). take z l) (let e : n + 0 ≡ n = omega arith in e) ∙ sym (append-nil (take n l))

-- ---- ONE PAGE

map-map : {A : Type 0} {B : Type 0} {C : Type 0} (g : B → C) (f : A → B) (xs : List A) → map g (map f xs) ≡ map (λ x. g (f x)) xs
map-map g f [] = refl
map-map g f (x ∷ xs) = ap (λ (r : List _). g (f x) ∷ r) (map-map g f xs)

pub idents_on : (v : View) (p : ℕ) → map ident_on (pairs_on v p) ≡ idents v p
unfolding pairs_on
idents_on v p = map-map ident_on (λ r. (r.id, p)) (records_of (v.page p))

holders_on : (v : View) (p : ℕ) → map holder_of (pairs_on v p) ≡ map (λ r. p) (records_of (v.page p))
unfolding pairs_on
holders_on v p = map-map holder_of (λ r. (r.id, p)) (records_of (v.page p))

if_no : (v : View) (m : List ℕ) (p : ℕ) → get_or m p 0 ≡ 0 → pairs_if v m p ≡ []
unfolding pairs_if
if_no v m p h = rw (eq-eqb (get_or m p 0) 0 h)

if_yes : (v : View) (m : List ℕ) (p : ℕ) → ¬ (get_or m p 0 ≡ 0) → pairs_if v m p ≡ pairs_on v p
unfolding pairs_if
if_yes v m p n = rw (ne_eqb (get_or m p 0) 0 n)

inner_pairs : (b : List ℕ) (p : ℕ) → ¬ (level_at b p ≡ 0) → pairs_on (view_of b) p ≡ []
unfolding pairs_on view_of
inner_pairs b p n = ap (map (λ r. (r.id, p))) (length_none (records_of (page_at b p)) (inner_points b p n))

-- a page that is not marked as a leaf has none
pub other_pairs : (b m : List ℕ) (p : ℕ) → MarksAre (view_of b) m → ¬ (get_or m p 0 ≡ 1) → pairs_if (view_of b) m p ≡ []
other_pairs b m p s n =
    decide (get_or m p 0) 0
    (λ h. if_no (view_of b) m p h)
    (λ h. if_yes (view_of b) m p h ∙ inner_pairs b p (λ z. n (omega (arith, s.all p (s.reached p (omega (arith, h))), view_level b p, z))))

-- a leaf has those of its records
module _ (b m : List ℕ) (p : ℕ) (x : Leaf) (e : x ≡ leaf_at b p) (h : level_at b p ≡ 0) (on : ¬ (get_or m p 0 ≡ 0)) where
  leaf_records : records_of ((view_of b).page p) ≡ records_in x
  unfolding view_of
  leaf_records = ap records_of (leaf_is b p x e h)

  pub leaf_idents : map ident_on (pairs_if (view_of b) m p) ≡ map ident_of (records_in x)
  leaf_idents = ap (map ident_on) (if_yes (view_of b) m p on) ∙ idents_on (view_of b) p ∙ ap (map ident_of) leaf_records

  pub leaf_holders : map holder_of (pairs_if (view_of b) m p) ≡ map (λ r. p) (records_in x)
  leaf_holders = ap (map holder_of) (if_yes (view_of b) m p on) ∙ holders_on (view_of b) p ∙ ap (map (λ r. p)) leaf_records

  pub leaf_length : length (pairs_if (view_of b) m p) ≡ length (records_in x)
  leaf_length = sym (length-map (pairs_if (view_of b) m p) ident_on) ∙ ap length leaf_idents ∙ length-map (records_in x) ident_of

  pub leaf_count_law : x.count ≤ 16 → length (pairs_if (view_of b) m p) ≡ x.count
  leaf_count_law f =
      omega (arith, leaf_length, length-take x.count x.records, ap (λ (y : Leaf). length y.records) e, records_slots b p)

  pub leaf_joined : {q n r : ℕ} {ids holders ids' holders' : List ℕ} → q ≡ p → Joined (map ident_of (records_in x)) (map (λ y. q) (records_in x)) n ids holders r ids' holders'
      → Joined (map ident_on (pairs_if (view_of b) m p)) (map holder_of (pairs_if (view_of b) m p)) n ids holders r ids' holders'
  leaf_joined {q} {n} {r} {ids} {holders} {ids'} {holders'} s j =
      let hs : map (λ y. q) (records_in x) ≡ map holder_of (pairs_if (view_of b) m p) = ap (λ (k : ℕ). map (λ y. k) (records_in x)) s ∙ sym leaf_holders in
      record { count = j.count ∙ ap (λ (l : List ℕ). n + length l) (sym leaf_idents); idents = j.idents ∙ ap (λ (l : List ℕ). take n ids ++ l) (sym leaf_idents); pages = j.pages ∙ ap (λ (l : List ℕ). take n holders ++ l) hs }

-- a page whose mark is that of a leaf
pub record Leafy (b m : List ℕ) (p : ℕ) : Type 0 where
  pub level : level_at b p ≡ 0
  pub on : ¬ (get_or m p 0 ≡ 0)
  pub few : (leaf_at b p).count ≤ 16
  pub many : length (pairs_if (view_of b) m p) ≡ (leaf_at b p).count

pub leafy : (b m : List ℕ) (p : ℕ) → MarksAre (view_of b) m → get_or m p 0 ≡ 1 → Leafy b m p
leafy b m p s h =
    let r = s.reached p (omega (arith, h)) in
    let z : level_at b p ≡ 0 = omega (arith, h, s.all p r, view_level b p) in
    let on : ¬ (get_or m p 0 ≡ 0) = λ w. absurd (omega (arith, h, w)) in
    let f = leaf_few b p (leaf_at b p) r refl in
    record { level = z; on = on; few = f; many = leaf_count_law b m p (leaf_at b p) refl z on f }

-- ---- ALL PAGES

module _ (v : View) (m : List ℕ) where
  pairs_none : pairs_to v m 0 ≡ []
  unfolding pairs_to
  pairs_none = refl

  pairs_step : (k : ℕ) → pairs_to v m (k + 1) ≡ pairs_to v m k ++ pairs_if v m k
  unfolding pairs_to
  pairs_step k = rw (add-one k)

  length_step : (k : ℕ) → length (pairs_to v m (k + 1)) ≡ length (pairs_to v m k) + length (pairs_if v m k)
  length_step k = ap length (pairs_step k) ∙ length-append (pairs_to v m k) (pairs_if v m k)

  collected_step : (p : ℕ) {n r : ℕ} {ids holders ids' holders' : List ℕ} → Collected (pairs_to v m p) n ids holders
      → Joined (map ident_on (pairs_if v m p)) (map holder_of (pairs_if v m p)) n ids holders r ids' holders' → Collected (pairs_to v m (p + 1)) r ids' holders'
  collected_step p c j =
      record {
        count = omega (arith, j.count, c.count, length_step p, length-map (pairs_if v m p) ident_on);
        idents = j.idents ∙ ap (λ (r : List ℕ). r ++ map ident_on (pairs_if v m p)) c.idents
            ∙ sym (ap (map ident_on) (pairs_step p) ∙ map_append ident_on (pairs_to v m p) (pairs_if v m p));
        pages = j.pages ∙ ap (λ (r : List ℕ). r ++ map holder_of (pairs_if v m p)) c.pages
            ∙ sym (ap (map holder_of) (pairs_step p) ∙ map_append holder_of (pairs_to v m p) (pairs_if v m p));
      }

  -- a page that has none
  pub gathered_none : {p n : ℕ} {ids holders : List ℕ} → Gathered v m p n ids holders → pairs_if v m p ≡ [] → Gathered v m (p + 1) n ids holders
  gathered_none {p} {n} {ids} {holders} g e =
      let same : pairs_to v m p ≡ pairs_to v m (p + 1) = sym (pairs_step p ∙ ap (λ (xs : List (ℕ × ℕ)). pairs_to v m p ++ xs) e ∙ append-nil (pairs_to v m p)) in
      record {
        few = omega (arith, g.few);
        count = g.count ∙ ap length same;
        held = λ h. subst (λ (xs : List (ℕ × ℕ)). Collected xs n ids holders) same (g.held h);
      }

  -- page 0 is not marked
  pub gathered_start : (ids holders : List ℕ) → MarksAre v m → Gathered v m 1 0 ids holders
  gathered_start ids holders s =
      let off : pairs_if v m 0 ≡ [] = if_no v m 0 (decide (get_or m 0 0) 0 (λ z. z) (λ d. absurd (omega (arith, (reached_page (s.reached 0 (omega (arith, d)))).0)))) in
      gathered_none {p = 0} (record {
        few = omega arith;
        count = sym (ap length pairs_none);
        held = λ h. subst (λ (xs : List (ℕ × ℕ)). Collected xs 0 ids holders) (sym pairs_none) (record { count = refl; idents = refl; pages = refl });
      }) off

  -- one that has k more, for which there is no room
  pub gathered_full : {p n k : ℕ} {ids holders : List ℕ} → Gathered v m p n ids holders → length (pairs_if v m p) ≡ k → k ≤ 16 → length ids < n + k
      → Gathered v m (p + 1) (n + k) ids holders
  gathered_full {p} g e f o = record { few = omega (arith, g.few); count = omega (arith, g.count, length_step p, e); held = λ h. absurd (omega (arith, h, o)) }

  -- and one whose identifiers are put behind the others
  pub gathered_more : {p n k r : ℕ} {ids holders ids' holders' : List ℕ} → Gathered v m p n ids holders → length (pairs_if v m p) ≡ k → k ≤ 16 → n + k ≤ length ids
      → Joined (map ident_on (pairs_if v m p)) (map holder_of (pairs_if v m p)) n ids holders r ids' holders' → Gathered v m (p + 1) r ids' holders'
  gathered_more {p} g e f o j =
      let c = j.count in let l = length-map (pairs_if v m p) ident_on in
      record { few = omega (arith, g.few, c, l, e); count = omega (arith, g.count, c, l, length_step p); held = λ h. collected_step p (g.held (omega (arith, o))) j }

  -- what is counted of the identifiers is counted page by page
  module _ (g : List ℕ → ℕ) (zip : g [] ≡ 0) (both : (xs ys : List ℕ) → g (xs ++ ys) ≡ g xs + g ys) where
    pub counted_pairs : (k : ℕ) → g (map ident_on (pairs_to v m k)) ≡ sum (λ p. g (idents v p)) (marked_to m k)
    unfolding sum
    counted_pairs zero = ap (λ (xs : List (ℕ × ℕ)). g (map ident_on xs)) pairs_none ∙ zip ∙ sym (ap (sum (λ p. g (idents v p))) (marked_none m))
    counted_pairs (suc k) =
        let e : g (map ident_on (pairs_to v m (suc k))) ≡ g (map ident_on (pairs_to v m k)) + g (map ident_on (pairs_if v m k)) =
        ap (λ (z : ℕ). g (map ident_on (pairs_to v m z))) (sym (add-one k)) ∙ ap (λ (xs : List (ℕ × ℕ)). g (map ident_on xs)) (pairs_step k)
        ∙ ap g (map_append ident_on (pairs_to v m k) (pairs_if v m k)) ∙ both (map ident_on (pairs_to v m k)) (map ident_on (pairs_if v m k)) in
        let f : sum (λ p. g (idents v p)) (marked_to m (suc k)) ≡ sum (λ p. g (idents v p)) (marked_to m (k + 1)) = ap (λ (z : ℕ). sum (λ p. g (idents v p)) (marked_to m z)) (sym (add-one k)) in
        decide (get_or m k 0) 0
        (λ h. omega (arith, e, f, counted_pairs k, ap (sum (λ p. g (idents v p))) (marked_no m k h), ap (λ (xs : List (ℕ × ℕ)). g (map ident_on xs)) (if_no v m k h), zip))
        (λ h. omega (arith, e, f, counted_pairs k, ap (sum (λ p. g (idents v p))) (marked_yes m k h), ap (λ (xs : List (ℕ × ℕ)). g (map ident_on xs)) (if_yes v m k h), ap g (idents_on v k)))

  -- each pair is of a record of a marked page
  pub record PairOk (q : ℕ × ℕ) : Type 0 where
    pub marked : Seen m q.1
    pub spot : ℕ
    pub value : Record
    pub at : At (records_of (v.page q.1)) spot value
    pub ident : q.0 ≡ value.id

  on_page : (p : ℕ) → Seen m p → All PairOk (pairs_on v p)
  unfolding pairs_on
  on_page p h =
      spots_all (map (λ r. (r.id, p)) (records_of (v.page p)))
      (λ i q a. let w = map_spot (λ r. (r.id, p)) (records_of (v.page p)) a in
      subst PairOk (sym w.2) (record { marked = h; spot = i; value = w.0; at = w.1; ident = refl }))

  if_page : (p : ℕ) → All PairOk (pairs_if v m p)
  if_page p =
      decide (get_or m p 0) 0
      (λ h. subst (All PairOk) (sym (if_no v m p h)) none)
      (λ h. subst (All PairOk) (sym (if_yes v m p h)) (on_page p (omega (arith, h))))

  pub pairs_ok : (k : ℕ) → All PairOk (pairs_to v m k)
  pairs_ok zero = subst (All PairOk) (sym pairs_none) none
  pairs_ok (suc k) =
      subst (All PairOk) (sym (ap (pairs_to v m) (sym (add-one k)) ∙ pairs_step k)) (all_append (pairs_ok k) (if_page k))

-- they are as many as the records of the marked pages
pub pairs_sum : (v : View) (m : List ℕ) (k : ℕ) → length (pairs_to v m k) ≡ sum (λ p. length (records_of (v.page p))) (marked_to m k)
pairs_sum v m k =
    sym (length-map (pairs_to v m k) ident_on) ∙ counted_pairs v m length refl length-append k
    ∙ ap (λ (g : ℕ → ℕ). sum g (marked_to m k)) (λ i p. length-map (records_of (v.page p)) ident_of i)
