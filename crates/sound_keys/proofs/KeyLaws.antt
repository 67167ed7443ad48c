-- Keys of records, and keys as numbers. Assumes nothing.
use Rattle.std.proofs.Common.{◌≡◌, ap, ◌∙◌, Bool, List, [], ◌∷◌, ℕ, ◌≤◌, arith, take}
use Rattle.lists.specs.Basics.{All, none, also}
use Rattle.geometry.specs.declared.Key.{Key}
use Rattle.geometry.specs.Keys.{key_number}
use Rattle.geometry.specs.Points.{height_of}
use Rattle.geometry.specs.Stored.{point_of}
use Rattle.geometry.proofs.StoredLaws.{coord_magnitude}
use Rattle.geometry.proofs.KeyLaws.{KeyFits}
use Rattle.pagestore_page.specs.declared.Record.{Record}
use Rattle.pagestore_page.specs.Fits.{RecordFits}
use Rattle.tree_model.specs.Trees.{point_in, key_of, rank_of}
use Rattle.tree_model.specs.Sound.{RecordOk}
use Rattle.lists.specs.Judges.{Decides}
use Rattle.lists.specs.Judges.{judge_map}

-- the rank of a record by its key
pub rank_is : (d : ℕ) (r : Record) (k : Key) (x : ℕ) → k ≡ key_of d r → x ≡ key_number k → x ≡ rank_of d r
unfolding rank_of
rank_is d r k x e q = q ∙ ap key_number e

-- the height tells the range: the greatest magnitude is at most 1,000 exactly if no stored coordinate is above 2,000
pub height_low : (xs : List ℕ) → height_of (point_of xs) ≤ 1000 → All (λ c. c ≤ 2000) xs
unfolding height_of point_of
height_low [] h = none
height_low (x ∷ xs) h = let g : x ≤ 2000 = omega (arith, coord_magnitude x) in also g (height_low xs (omega arith))

pub height_high : {xs : List ℕ} → All (λ c. c ≤ 2000) xs → height_of (point_of xs) ≤ 1000
unfolding height_of point_of
height_high none = omega arith
height_high (also {x = x} h a) = omega (arith, coord_magnitude x, h, height_high a)

-- so that a record is judged by its key and its stage
pub key_judged : (d : ℕ) (r : Record) (k : Key) (g : ℕ) {t : Bool} → k ≡ key_of d r → g ≡ r.stage
    → Decides ((1 ≤ k.id) × (g ≤ 5) × (k.height.0 ≤ 1000)) t → Decides (RecordOk d r) t
unfolding key_of
key_judged d r k g e q j =
    let i : k.id ≡ r.id = ap (λ (x : Key). x.id) e in
    let h : k.height.0 ≡ height_of (point_in d r) = ap (λ (x : Key). x.height.0) e in
    judge_map (λ f. record { ident = omega (arith, f.0); stage = omega (arith, f.1); coords = height_low (take d r.coords) (omega (arith, f.2)) })
    (λ n o. n (omega (arith, o.ident), omega (arith, o.stage), omega (arith, height_high o.coords))) j

-- ---- equal numbers are those of equal keys

key_eq : (a b : Key) → a.pyramid.0 ≡ b.pyramid.0 → a.height.0 ≡ b.height.0 → a.id ≡ b.id → a ≡ b
key_eq a b p h e = λ i. record { pyramid = record { 0 = p i }; height = record { 0 = h i }; id = e i }

pub key_same : (a b : Key) → KeyFits a → KeyFits b → key_number a ≡ key_number b → a ≡ b
unfolding key_number
key_same a b f g e = key_eq a b (omega arith) (omega arith) (omega arith)

-- the key of a record that can be stored, and is in range
pub key_fits : (d : ℕ) (r : Record) → RecordFits r → RecordOk d r → KeyFits (key_of d r)
unfolding key_of
key_fits d r f o = (omega (arith, height_high o.coords), omega (arith, f.id))
