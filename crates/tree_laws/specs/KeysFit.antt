-- The key of a record that fits can be stored, and ranks of different identifiers differ.
use Rattle.std.specs.Prelude.{◌≡◌, refl, List, [], ◌∷◌, ℕ, zero, suc, ◌+◌, ◌^◌, ◌≤◌, ◌<◌, ltb, eqb, ℤ, pos, nat_abs, length, get_or, take}
use Rattle.std.proofs.Common.{arith, length-take, ltb-true, ltb-false}
use Rattle.lists.specs.Basics.{if, All, none, also}
use Rattle.lists.specs.Choices.{bool_cases}
use Rattle.lists.specs.Tabulated.{all_take}
use Rattle.lists.specs.Tests.{by_cases}
use Rattle.geometry.specs.Keys.{key_number}
use Rattle.geometry.specs.Points.{is_neg, height_of, axis_at, axis_of, pyramid_of}
use Rattle.geometry.specs.Stored.{coord_of, point_of}
use Rattle.pagestore_page.specs.declared.Record.{Record}
use Rattle.pagestore_page.specs.Fits.{RecordFits, KeyFits}
use Rattle.tree_model.specs.Trees.{no_record, key_of, rank_of}
use Rattle.geometry.proofs.StoredLaws.{coord_low, coord_high, length_point}
use Rattle.pagestore_page.specs.Layout.{no_key}

coord_fits : (x : ℕ) → x < 2 ^ 11 → nat_abs (coord_of x) < 2 ^ 16
coord_fits x h =
    by_cases (ltb x 1000)
    (λ e. rw (coord_low x (ltb-true x 1000 e)) (omega arith))
    (λ e. rw (coord_high x (ltb-false x 1000 e)) (omega arith))

height_fits : {xs : List ℕ} → All (λ c. c < 2 ^ 11) xs → height_of (point_of xs) < 2 ^ 16
unfolding height_of point_of
height_fits none = omega arith
height_fits (also {x = x} {xs = xs} h t) = omega (arith, coord_fits x h, height_fits t)

axis_le : (h : ℕ) (p : List ℤ) → axis_at h p ≤ length p
unfolding axis_at
axis_le h [] = omega arith
axis_le h (c ∷ cs) =
    let i : axis_at h cs ≤ length cs = axis_le h cs in
    bool_cases (λ b. if b 0 (suc (axis_at h cs)) ≤ suc (length cs)) (eqb (nat_abs c) h) (λ e. omega arith) (λ e. omega arith)

pyramid_le : (p : List ℤ) → pyramid_of p ≤ length p + length p
unfolding pyramid_of axis_of
pyramid_le p =
    let i : axis_at (height_of p) p ≤ length p = axis_le (height_of p) p in
    bool_cases (λ b. if b (axis_at (height_of p) p) (axis_at (height_of p) p + length p) ≤ length p + length p) (is_neg (get_or p (axis_at (height_of p) p) (pos 0)))
    (λ e. omega arith) (λ e. omega arith)

pub key_fits : (d : ℕ) (r : Record) → RecordFits r → KeyFits (key_of d r)
unfolding key_of
key_fits d r f =
    let p = point_of (take d r.coords) in
    let n : length p ≤ 16 = omega (arith, length_point (take d r.coords), length-take d r.coords, f.slots) in
    record {
      pyramid = omega (arith, pyramid_le p);
      height = height_fits (all_take d f.coords);
      id = f.id;
    }

-- the key where there is no record
pub no_key_law : (d : ℕ) → key_of d no_record ≡ no_key
unfolding key_of no_record pyramid_of axis_of axis_at height_of point_of
no_key_law zero = refl
no_key_law (suc d) = refl

-- a rank has the identifier in it
pub rank_ident : (d : ℕ) (a b : Record) → RecordFits a → RecordFits b → rank_of d a ≡ rank_of d b → a.id ≡ b.id
unfolding rank_of key_of key_number
rank_ident d a b f g e =
    let i : a.id < 2 ^ 32 = f.id in
    let j : b.id < 2 ^ 32 = g.id in
    omega (arith, e)
