-- The examples of 01 that are marked P: one list, in the definitions' own terms, and one proposition that covers it. Those that speak of leaves are
-- of the index that 01 names: d = 1, the identifiers 1..17 at 1..17, inserted upward into a new index of 4 pages or more.
use Rattle.std.specs.Prelude.{◌≡◌, refl, true, List, [], ◌∷◌, ◌++◌, map, ℕ, ◌≤◌, pos, length}
use Rattle.std.proofs.Common.{sym, le_refl, lit≤, le-leb}
use Rattle.lists.specs.Basics.{All, none, also, all_map, all_append, range_from}
use Rattle.lists.specs.ConcatMapLaws.{all_mapped, all_both}
use Rattle.geometry.specs.Examples as geometry
use Rattle.geometry.proofs.ExampleLaws as geometry-laws
use Rattle.geometry.specs.Stored.{in_range}
use Rattle.pagestore.specs.Store.{view_of, pages_in}
use Rattle.tree_model.specs.Sound.{Permitted}
use Rattle.search_model.specs.Asked.{full_set}
use Rattle.search_model.specs.Examples as search
use Rattle.search_model.specs.Examples.{record_no, unstamped}
use Rattle.search_model.proofs.ExampleLaws as search-laws
use Rattle.index_query.specs.Asking.{Question, nearest_of}
use Rattle.index_refusals.specs.Refusals.{First, question_rules}
use Rattle.index_refusals.specs.RefusalLaws.{none_fails, Carried}
use Rattle.index_refusals.proofs.CarriedLaws.{carried_asked}
use Rattle.index_refusals.specs.Outcomes.{found_with}
use Rattle.tree_laws.specs.UpwardExample.{upward}
use Rattle.tree_laws.proofs.UpwardExample.{seventeen_sound, seventeen_features, seventeen_leaves}

-- a pyramid, a height or a bound; a question of the index 1..17
pub data Example : Type 0 where
  figure : geometry.Example → Example
  asked : search.Example → Example

-- the question for the k nearest of a point, of all stages
abbrev pub asked_by : search.Example → Question
asked_by e = nearest_of (pos e.point ∷ []) e.k full_set

-- it, on the index c with k rows lent: it is carried out, the identifiers of its rows, in order, and the number of leaves read
abbrev pub Gives : List ℕ → search.Example → Type 0
Gives c e = First (question_rules c (asked_by e) e.k) 0 × (map (λ x. x.id) (found_with 0 c (asked_by e)).rows ≡ e.rows) × ((found_with 0 c (asked_by e)).leaves ≡ e.read)

-- what an example says
abbrev pub Holds : Example → Type 0
Holds (figure e) = geometry.Holds e
Holds (asked e) = (b : List ℕ) → Permitted (length b) → 4 ≤ pages_in b → Gives (upward b 17) e

abbrev pub examples : List Example
examples = map figure geometry.examples ++ map asked search.examples

-- what is asked is in range
abbrev Fits : search.Example → Type 0
Fits e = (e.point ≤ 1000) × (1 ≤ e.k) × (e.k ≤ 64)

fit : (n k : ℕ) (rows : List ℕ) (read : ℕ) → n ≤ 1000 → 1 ≤ k → k ≤ 64 → Fits (record { point = n; k = k; rows = rows; read = read })
fit n k rows read a b c = (a, b, c)

all_fit : All Fits search.examples
all_fit =
    also (fit 9 1 (9 ∷ []) 1 (lit≤ tt) (lit≤ tt) (lit≤ tt))
    (also (fit 9 2 (9 ∷ 8 ∷ []) 2 (lit≤ tt) (lit≤ tt) (lit≤ tt))
    (also (fit 1 9 (range_from 1 9) 1 (lit≤ tt) (lit≤ tt) (lit≤ tt))
    (also (fit 9 18 (9 ∷ 8 ∷ 10 ∷ 7 ∷ 11 ∷ 6 ∷ 12 ∷ 5 ∷ 13 ∷ 4 ∷ 14 ∷ 3 ∷ 15 ∷ 2 ∷ 16 ∷ 1 ∷ 17 ∷ []) 2 (lit≤ tt) (lit≤ tt) (lit≤ tt))
    (also (fit 1 18 (range_from 1 17) 2 (lit≤ tt) (lit≤ tt) (lit≤ tt))
    none))))

upward_seventeen : (e : search.Example) → Fits e × search.Holds unstamped e → Holds (asked e)
unfolding record_no view_of in_range
upward_seventeen e (f, h) b lent four =
    let s = seventeen_sound b lent four in
    let d = seventeen_features b lent four in
    let r : in_range (pos e.point ∷ []) ≡ true = rw (le-leb e.point 1000 f.0) in
    let a = h (upward b 17) s (record { d = d; first = 1; second = 2; leaves = seventeen_leaves b lent four }) in
    let c : Carried 1 (asked_by e) e.k = record { features = (refl, tt); ranges = r; light = tt; some = f.1; most = f.2; lent = le_refl e.k; set = (lit≤ tt, lit≤ tt); dates = tt; order = tt } in
    (none_fails (question_rules (upward b 17) (asked_by e) e.k) (s.lent, (s, ((sym d, tt), (r, (tt, carried_asked 1 (asked_by e) e.k c))))), a.0, a.1)

-- p_examples: every example of the list holds
pub p_examples : All Holds examples
p_examples = all_append (all_mapped figure geometry.examples geometry-laws.figures_hold) (all_mapped asked search.examples (all_map upward_seventeen (all_both all_fit search-laws.answers_hold)))
