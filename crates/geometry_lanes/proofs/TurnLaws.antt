-- A turn of the bisection in all lanes, and all its turns.
use Rattle.std.proofs.Common.{◌≡◌, refl, ◌∙◌, Bool, true, false, List, ℕ, ◌+◌, ◌*◌, ◌-◌, ◌/◌, ◌≤◌, ◌<◌, arith, mul-le-mul, le-leb, leb-true, leb, length, get_or}
use borrow.Author.Tests.{lt-leb}
use Rattle.lists.specs.Basics.{if}
use Rattle.geometry.proofs.HeightLaws.{Bisect, bisect_start, bisect_end}
use Rattle.geometry.proofs.ConvexLaws.{at_convex}
use Rattle.geometry_lanes.proofs.LaneLaws.{lane_halved, halved_room}
use Rattle.geometry.specs.Slices.{slice_at, Nearest}
use Rattle.geometry_slices.specs.Questions.{size_of, asked_of, Filled}
use Rattle.geometry_lanes.specs.Lanes.{halved_at, summed, Movable, Lanes, lanes_of, Blank}

-- how many lanes, and coordinates summed
pub lanes_few : (d : ℕ) → d ≤ 16 → lanes_of d ≤ 32
lanes_few d l = omega arith

pub lanes_cover : (d : ℕ) → d + d ≤ lanes_of d
lanes_cover d = omega arith

pub lanes_enough : (d : ℕ) → d ≤ 16 → d ≤ summed (lanes_of d)
lanes_enough d l = by (leb (lanes_of d) 8) refl (leb (lanes_of d) 16) refl
  where
    by : (x : Bool) → leb (lanes_of d) 8 ≡ x → (y : Bool) → leb (lanes_of d) 16 ≡ y → d ≤ if x 4 (if y 8 16)
    by true e y f = omega (arith, leb-true (lanes_of d) 8 e)
    by false e true f = omega (arith, leb-true (lanes_of d) 16 f)
    by false e false f = l

-- what a coordinate pulls
pub product_fits : (w x : ℕ) → w < 65536 → x < 65536 → w * x < 4294967296
product_fits w x l k = let a : w ≤ 65535 = omega arith in let b : x ≤ 65535 = omega arith in let s : w * x ≤ 4294836225 = mul-le-mul a b in omega arith

pub pull_small : (w x : ℕ) → w < 65536 → x ≤ 2001 → w * x ≤ 134217728
pull_small w x l k = let a : w ≤ 65535 = omega arith in let s : w * x ≤ 131135535 = mul-le-mul a k in omega arith

-- the whole bisection
pub record Halving (a : List ℕ) (n size : ℕ) (heights : List ℕ) : Type 0 where
  pub long : length heights ≡ 32
  pub room : (i : ℕ) → i < n → get_or heights i 0 + size ≤ 1000
  pub found : (i : ℕ) → i < size_of a + size_of a → Bisect (slice_at (asked_of a) i) 0 1000 (get_or heights i 0) (get_or heights i 0 + size)

pub halving_start : (a : List ℕ) (n : ℕ) (heights : List ℕ) → Blank 32 heights → Halving a n 1000 heights
halving_start a n heights b =
    record {
      long = b.long;
      room = λ i l. omega (arith, b.zeros i);
      found = λ i l. let e : 0 + 1000 ≡ 1000 = omega arith in rw (b.zeros i, e) (bisect_start (slice_at (asked_of a) i) (at_convex (asked_of a) i) 0 1000 (omega arith));
    }

pub halving_turn : (a falls weights owns ends xs ys : List ℕ) (k n size : ℕ) → Lanes a falls weights owns ends n → size_of a ≤ k
    → 0 < size → Halving a n size xs → Filled (halved_at falls weights owns ends k (size - size / 2)) 0 n xs ys
    → Halving a n (size / 2) ys
halving_turn a falls weights owns ends xs ys k n size v o z h f =
    record {
      long = f.long ∙ h.long;
      room = λ i l. rw (f.inside i (omega arith) (omega arith)) (halved_room falls weights owns ends k i (get_or xs i 0) size (h.room i l));
      found = λ i l.
          rw (f.inside i (omega arith) (omega (arith, v.cover)))
          (lane_halved a falls weights owns ends n v k i (get_or xs i 0) size o l z (h.found i l));
    }

pub halving_end : (a : List ℕ) (n size : ℕ) (heights : List ℕ) → length (asked_of a) ≡ size_of a → size ≡ 0 → Halving a n size heights → Nearest (asked_of a) heights
halving_end a n size heights e z h = λ i l. bisect_end (slice_at (asked_of a) i) (at_convex (asked_of a) i) 0 1000 (get_or heights i 0) (get_or heights i 0 + size) (h.found i (omega arith)) (omega arith)

pub movable : (a falls weights owns ends heights : List ℕ) (n size : ℕ) → Lanes a falls weights owns ends n → 0 < size → size ≤ 1000 → Halving a n size heights
    → Movable falls weights owns ends n (size - size / 2) heights
movable a falls weights owns ends heights n size v z k h =
    record {
      few = v.few;
      some = omega arith;
      short = omega arith;
      falling = v.falling.long;
      weighing = v.weighing.long;
      owning = v.owning.long;
      ending = v.ending.long;
      long = h.long;
      small = v.falling.small;
      room = λ i l. omega (arith, h.room i l);
    }

pub stays : (s r q x y : ℕ) → r ≡ q → s ≤ r → x ≡ if (leb s q) x y
stays s r q x y e l = rw (le-leb s q (omega arith))

pub moves : (s r q x y : ℕ) → r ≡ q → r < s → y ≡ if (leb s q) x y
moves s r q x y e l = rw (lt-leb s q (omega arith))
