-- Laws of a point as it is stored, of its weights, and of the query for both.
use Rattle.std.specs.Prelude.{◌≡◌, refl, List, map, ℕ, zero, suc, ◌+◌, ◌≤◌, ℤ, length, take, replicate, Option, None, Some, unwrap_or}
use Rattle.std.proofs.Common.{sym, ap, ◌∙◌, subst, arith, Bor}
use Rattle.std.specs.Option.{option_copied}
use Rattle.std.proofs.lemmas.List.{length-map, length-replicate}
use Rattle.lists.specs.Basics.{All, none, also}
use Rattle.calendar.specs.declared.Window.{Window}
use Rattle.calendar.specs.Days.{days_if}
use Rattle.calendar.specs.Counting.{window_of}
use Rattle.geometry.specs.Features.{weighted}
use Rattle.geometry.specs.Numbers.{max_weight}
use Rattle.geometry_slices.specs.Questions.{features_of, asked_of, Packed, LaidOut}
use Rattle.geometry.specs.Stored.{stored, point_of, slots_of}
use Rattle.geometry.proofs.StoredLaws.{in_range_law, slots_own, point_back}
use Rattle.geometry.proofs.WeightLaws.{ones_plain}
use Rattle.geometry_slices.proofs.QuestionLaws.{stored_weighted}
use Rattle.search_model.proofs.AskedLaws.{seekable_point}
use Rattle.index_query.specs.declared.Criteria.{Criteria}
use Rattle.index_query.specs.Asking.{Weights, unweighed, weighed, weights_of, weights_if, laid_weights, question_of, features_by, AsMany, Light, Searchable, QueryFor}

-- ---- THE WEIGHTS LAID OUT: THOSE CARRIED, OR ONES

pub laid_as : {q vs ws r : List ℕ} → LaidOut q q vs r → vs ≡ ws → LaidOut q q ws r
laid_as {q} {vs} {ws} {r} h e = subst (λ (xs : List ℕ). LaidOut q q xs r) e h

pub ones_light : (n : ℕ) → All (λ x. x ≤ max_weight) (replicate n 1)
ones_light zero = none
ones_light (suc n) = also {x = 1} (omega arith) (ones_light n)

-- those carried, or else the ones given
pub laid_or : (carried : Option (Bor (List ℕ))) (ones : Bor (List ℕ)) (n : ℕ) → ones.now ≡ replicate n 1 → (unwrap_or carried ones).now ≡ laid_weights n (weights_of (option_copied carried))
laid_or None ones n e = e
laid_or (Some ws) ones n e = refl

pub laid_features : (ws : Weights) (p : List ℤ) → weighted (laid_weights (length p) ws) p ≡ features_by ws p
laid_features unweighed p = ones_plain p
laid_features (weighed ws) p = refl

pub laid_length : (ws : Weights) (n : ℕ) → AsMany n ws → length (laid_weights n ws) ≡ n
laid_length unweighed n e = length-replicate n 1
laid_length (weighed ws) n e = e

laid_light : (ws : Weights) (n : ℕ) → Light ws → All (λ x. x ≤ max_weight) (laid_weights n ws)
laid_light unweighed n l = ones_light n
laid_light (weighed ws) n l = l

-- ---- THE QUERY

-- the first slots with these weights, laid out as one list: the query for the point
module _ (p : List ℤ) (ws : List ℕ) (what : Criteria) (slots features : List ℕ) (e : slots ≡ slots_of p) (can : Searchable (question_of p ws what)) where
  abbrev n : ℕ
  n = length p

  own : take n slots ≡ map stored p
  own = subst (λ (s : List ℕ). take n s ≡ map stored p) (sym e) (slots_own p)

  own_length : length (take n slots) ≡ n
  own_length = ap length own ∙ length-map p stored

  abbrev carried : Weights
  carried = weights_if what.weighted ws

  abbrev laid : List ℕ
  laid = laid_weights n carried

  pub query_for : (set : ℕ) → set ≡ what.stages → (window : Option Window) → window ≡ window_of (days_if what.dated what.dates) → LaidOut (take n slots) (take n slots) (laid_weights (length (take n slots)) carried) features → QueryFor (question_of p ws what) (record { features = features; d = n; k = what.k; choice = record { stages = set; window = window } })
  query_for set e window f h =
      let asked = take (48 + n) features in
      let cut : take (48 + length (take n slots)) features ≡ asked = ap (λ (m : ℕ). take (48 + m) features) own_length in
      let same : asked_of asked ≡ weighted laid p =
      ap asked_of (sym cut) ∙ h.same ∙ ap (λ (m : ℕ). features_of (take n slots) (take n slots) (laid_weights m carried)) own_length
      ∙ stored_weighted (take n slots) laid ∙ ap (λ (s : List ℕ). weighted laid (point_of s)) own
      ∙ ap (weighted laid) (point_back p can.ranges) in
      record {
        slots = h.places;
        few = can.most;
        seekable = seekable_point asked laid p (subst Packed cut h.packed) same (laid_length carried n can.weights)
            (laid_light carried n can.light) (in_range_law p can.ranges) can.features;
        is = λ i. record { features = (same ∙ laid_features carried p) i; k = what.k; choice = record { stages = e i; window = f i } };
      }
