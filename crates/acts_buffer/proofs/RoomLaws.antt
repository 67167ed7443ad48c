-- Room for a line: the test for it, and what handing over makes.
use Rattle.std.proofs.Common.{◌≡◌, ◌∙◌, inl, inr, true, false, List, ℕ, ◌-◌, ◌≤◌, ◌<◌, length, leb, arith, leb-true, leb-false}
use Rattle.acts_output.specs.Puts.{most_printed}
use Rattle.acts_buffer.specs.Room.{Placed, Flushed, Open, Full, Cleared, flushed, broken}
use Rattle.acts_buffer.specs.declared.Progress.{Progress}

pub room_tested : (space : ℕ) (s : Progress) → s.end ≤ space → s.number ≤ 18446744073709551614
    → (leb most_printed (space - s.end) ≡ true → Open space s) × (leb most_printed (space - s.end) ≡ false → Full space s)
room_tested space s fit n = (
  λ e. let h : most_printed ≤ space - s.end = leb-true most_printed (space - s.end) e in record { room = omega arith; numbers = omega arith },
  λ e. let h : space - s.end < most_printed = leb-false most_printed (space - s.end) e in inl (omega arith),
)

-- there was none, and there is a number for the line
pub flush_makes : (out : List ℕ) (s r : Progress) → Full (length out) s → most_printed ≤ length out → Flushed s r → r.number ≤ 18446744073709551614 → Cleared out s r
flush_makes out s r (inl e) most f n = let z = f.empty in flushed e f (record { room = omega arith; numbers = omega arith })
flush_makes out s r (inr e) most f n = let z = f.number in absurd (omega arith)

-- there is no number for the line
pub flush_ends : (out : List ℕ) (s t r : Progress) → 18446744073709551614 < t.number → Flushed s t → Placed t false t.at 0 r → Cleared out s r
flush_ends out s t r n f p =
    let z = f.number in
    broken (omega arith) (record { d = p.d ∙ f.d; number = p.number ∙ f.number; held = p.held ∙ f.held; at = p.placed ∙ f.at; empty = p.ends }) p.goes
