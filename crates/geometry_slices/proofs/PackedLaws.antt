-- A question in one list: its parts.
use Rattle.std.proofs.Common.{◌≡◌, ◌∙◌, List, ℕ, ◌-◌, ◌≤◌, ◌<◌, arith, lt-ltb, le-ltb, length, length-take}
use Rattle.geometry_slices.proofs.QuestionLaws.{prepared_length}
use Rattle.geometry.specs.Slices.{axis_no}
use Rattle.geometry_slices.specs.Questions.{size_of, part_from, asked_of, Packed}

pub first_length : (a : List ℕ) → Packed a → length (part_from 0 a) ≡ size_of a
first_length a p = length-take (size_of a) a ∙ omega (arith, p.whole)

pub asked_length : (a : List ℕ) → Packed a → length (asked_of a) ≡ size_of a
unfolding asked_of
asked_length a p = prepared_length p.parts ∙ first_length a p

pub asked_few : (a : List ℕ) → Packed a → size_of a ≤ 16
asked_few a p = omega (arith, first_length a p, p.parts.few)

pub axis_low : (d i : ℕ) → i < d → i ≡ axis_no d i
unfolding axis_no
axis_low d i l = rw (lt-ltb i d l)

pub axis_high : (d i : ℕ) → d ≤ i → i - d ≡ axis_no d i
unfolding axis_no
axis_high d i l = rw (le-ltb i d l)
