-- Records in key order: their pairs are real and in the order of their keys, so that spans of parts have no smaller bounds.
use Rattle.std.proofs.Common.{◌≡◌, refl, sym, ◌∙◌, inl, inr, List, [], ◌∷◌, map, ℕ, ◌≤◌, ◌<◌, arith, le_refl, le_trans, length, take, length-take-le}
use Rattle.lists.specs.Basics.{All, none, also, all_head, all_map}
use Rattle.lists.specs.Tests.{three}
use Rattle.lists.specs.Parts.{head_of, last_of}
use Rattle.lists.specs.Ascending.{head_or, last_or, Ascending}
use Rattle.lists.specs.Ascending as asc
use Rattle.geometry.specs.Points.{InRange, height_of, pyramid_of, PairLe}
use Rattle.geometry.specs.Features.{plain}
use Rattle.geometry.specs.Slices.{Real, bound_of}
use Rattle.geometry.specs.Stored.{point_of}
use Rattle.geometry.specs.Keys.{key_number}
use Rattle.geometry.proofs.StoredLaws.{coord_magnitude, length_point}
use Rattle.geometry.proofs.SliceLaws.{plain_length}
use Rattle.geometry.proofs.SpanLaws.{pair_real}
use Rattle.geometry.proofs.BoundLaws.{bound_below, bound_within}
use Rattle.geometry.specs.Numbers.{max_features}
use Rattle.pagestore_page.specs.declared.Record.{Record}
use Rattle.pagestore_page.specs.Fits.{RecordFits}
use Rattle.tree_model.specs.Trees.{point_in, key_of, rank_of, no_record, first_key, last_key}
use Rattle.tree_model.specs.Sound.{RecordOk}
use Rattle.search_model.specs.Asked.{Asked, distance_to, span_bound, Askable}

module _ {A : Type 0} (f : A → ℕ) where
  -- in an ascending list none is below the first, and none above the last
  pub from_first : (d : A) (xs : List A) → Ascending (map f xs) → All (λ x. f (head_or d xs) ≤ f x) xs
  unfolding head_or
  from_first d [] a = none
  from_first d (x ∷ []) a = also (le_refl (f x)) none
  from_first d (x ∷ y ∷ ys) (asc.more l a) = also (le_refl (f x)) (all_map (λ z (h : f y ≤ f z). omega arith) (from_first d (y ∷ ys) a))

  pub to_last : (d : A) (xs : List A) → Ascending (map f xs) → All (λ x. f x ≤ f (last_or d xs)) xs
  unfolding last_or
  to_last d [] a = none
  to_last d (x ∷ []) a = also (le_refl (f x)) none
  to_last d (x ∷ y ∷ ys) (asc.more l a) = let t = to_last x (y ∷ ys) a in also {x = x} (let h = all_head t in omega arith) t

-- a record in range, as it is stored
pub record Right (d : ℕ) (r : Record) : Type 0 where
  pub ok : RecordOk d r
  pub fits : RecordFits r

pub in_range_law : {xs : List ℕ} → All (λ c. c ≤ 2000) xs → InRange (point_of xs)
unfolding point_of
in_range_law none = tt
in_range_law (also {x = x} h a) = (omega (arith, coord_magnitude x), in_range_law a)

abbrev pub pyramid_in : ℕ → Record → ℕ
pyramid_in d r = pyramid_of (point_in d r)

abbrev pub height_in : ℕ → Record → ℕ
height_in d r = height_of (point_in d r)

-- the bound of the span from record r to record s
abbrev pub bound_between : ℕ → Asked → Record → Record → ℕ
bound_between d q r s = bound_of q.features (pyramid_in d r) (height_in d r) (pyramid_in d s) (height_in d s)

pub span_between : (d : ℕ) (q : Asked) (rs : List Record) → span_bound q (first_key d rs) (last_key d rs) ≡ bound_between d q (head_or no_record rs) (last_or no_record rs)
unfolding span_bound first_key last_key key_of
span_between d q rs = refl

module _ (d : ℕ) (low : 1 ≤ d) (high : d ≤ max_features) where
  point_length : (r : Record) → Right d r → length (point_in d r) ≡ d
  point_length r g = length_point (take d r.coords) ∙ length-take-le d r.coords (omega (arith, g.fits.slots))

  pub real : (r : Record) → Right d r → Real d (pyramid_in d r) (height_in d r)
  real r g =
      let e : length (plain (point_in d r)) ≡ d = plain_length (point_in d r) ∙ point_length r g in
      rw e at (pair_real (plain (point_in d r)) (point_in d r) (sym (plain_length (point_in d r))) (omega arith) (in_range_law g.ok.coords))

  pub ordered : (r s : Record) → Right d r → Right d s → rank_of d r ≤ rank_of d s → PairLe (pyramid_in d r) (height_in d r) (pyramid_in d s) (height_in d s)
  unfolding rank_of key_of key_number
  ordered r s g h l =
      let a = (real r g).height in
      let b = (real s h).height in
      let i = g.fits.id in
      let j = h.fits.id in
      three (pyramid_in d r) (pyramid_in d s)
      (λ x. inl x)
      (λ x. inr (x, omega arith))
      (λ x. absurd (omega arith))

  module _ (q : Asked) (suits : Askable d q) where
    real_for : (r : Record) → Right d r → Real (length q.features) (pyramid_in d r) (height_in d r)
    real_for r g = rw suits.same (real r g)

    -- no record of a span is nearer than its bound
    pub record_below : (a z r : Record) → Right d a → Right d z → Right d r → rank_of d a ≤ rank_of d r → rank_of d r ≤ rank_of d z
        → bound_between d q a z ≤ distance_to q r
    unfolding distance_to
    record_below a z r ga gz gr l m =
        bound_below q.features (pyramid_in d a) (height_in d a) (pyramid_in d z) (height_in d z) (omega (arith, suits.same)) suits.ordered (real_for a ga) (real_for z gz)
        (ordered a z ga gz (le_trans l m)) (point_in (length q.features) r)
        (rw suits.same (record { same = point_length r gr; grid = in_range_law gr.ok.coords; after = ordered a r ga gr l; before = ordered r z gr gz m }))

    -- a span within another has no smaller bound
    pub span_within : (a z x y : Record) → Right d a → Right d z → Right d x → Right d y → rank_of d a ≤ rank_of d x → rank_of d x ≤ rank_of d y → rank_of d y ≤ rank_of d z
        → bound_between d q a z ≤ bound_between d q x y
    span_within a z x y ga gz gx gy l m n =
        bound_within q.features (pyramid_in d a) (height_in d a) (pyramid_in d z) (height_in d z) (omega (arith, suits.same)) suits.ordered (real_for a ga) (real_for z gz)
        (ordered a z ga gz (le_trans l (le_trans m n))) (pyramid_in d x) (height_in d x) (pyramid_in d y) (height_in d y) (real_for x gx) (real_for y gy)
        (ordered x y gx gy m) (ordered a x ga gx l) (ordered y z gy gz n)

    module _ (rs : List Record) (some : 0 < length rs) (up : Ascending (map (rank_of d) rs)) (right : All (Right d) rs) where
      abbrev first : Record
      first = head_or no_record rs

      abbrev last : Record
      last = last_or no_record rs

      -- the bound of the records' span is at most the distance of each of them
      pub span_floor : All (λ r. span_bound q (first_key d rs) (last_key d rs) ≤ distance_to q r) rs
      span_floor =
          rw (span_between d q rs)
          (floor rs right (from_first (rank_of d) no_record rs up) (to_last (rank_of d) no_record rs up))
        where
          floor : (xs : List Record) → All (Right d) xs → All (λ x. rank_of d first ≤ rank_of d x) xs → All (λ x. rank_of d x ≤ rank_of d last) xs
              → All (λ r. bound_between d q first last ≤ distance_to q r) xs
          floor xs none none none = none
          floor xs (also {x = x} g a) (also l b) (also m c) =
              also (record_below first last x (head_of no_record some right) (last_of no_record some right) g l m) (floor _ a b c)

      -- and at most the bound of some of them in a row
      pub span_part : (ys : List Record) → 0 < length ys → Ascending (map (rank_of d) ys) → All (Right d) ys
          → All (λ y. rank_of d first ≤ rank_of d y) ys → All (λ y. rank_of d y ≤ rank_of d last) ys
          → span_bound q (first_key d rs) (last_key d rs) ≤ span_bound q (first_key d ys) (last_key d ys)
      span_part ys more upy gy l m =
          rw (span_between d q rs, span_between d q ys)
          (span_within first last (head_or no_record ys) (last_or no_record ys) (head_of no_record some right) (last_of no_record some right)
          (head_of no_record more gy) (last_of no_record more gy)
          (head_of no_record more l) (last_of no_record more (from_first (rank_of d) no_record ys upy)) (last_of no_record more m))
