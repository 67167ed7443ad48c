-- Room in the output buffer for what a line prints.
use Rattle.std.specs.Prelude.{◌≡◌, ◌⊎◌, Bool, false, List, ℕ, ◌+◌, ◌≤◌, ◌<◌, length}
use Rattle.acts_output.specs.Puts.{most_printed}
use Rattle.acts_buffer.specs.declared.Progress.{Progress}

-- r is s with these places
pub record Placed (s : Progress) (going : Bool) (at end : ℕ) (r : Progress) : Type 0 where
  pub d : r.d ≡ s.d
  pub number : r.number ≡ s.number
  pub held : r.held ≡ s.held
  pub placed : r.at ≡ at
  pub ends : r.end ≡ end
  pub goes : r.going ≡ going

-- r is s with nothing in the output buffer; whether the run goes on is told by r
pub record Flushed (s r : Progress) : Type 0 where
  pub d : r.d ≡ s.d
  pub number : r.number ≡ s.number
  pub held : r.held ≡ s.held
  pub at : r.at ≡ s.at
  pub empty : r.end ≡ 0

-- a line can be done: the buffer, of this length, has room for what it prints, and the line number behind it has 64 bits
pub record Open (space : ℕ) (s : Progress) : Type 0 where
  pub room : s.end + most_printed ≤ space
  pub numbers : s.number < 18446744073709551615

-- none can be done
abbrev pub Full : ℕ → Progress → Type 0
Full space s = (space < s.end + most_printed) ⊎ (18446744073709551615 ≤ s.number)

-- room is made for a line: there was room; or there was none, and all that stood in the buffer is handed over; or it is, and the run ends, since line
-- numbers are used up
pub data Cleared (out : List ℕ) (s r : Progress) : Type 0 where
  roomy : Open (length out) s → r ≡ s → Cleared out s r
  flushed : length out < s.end + most_printed → Flushed s r → Open (length out) r → Cleared out s r
  broken : 18446744073709551615 ≤ s.number → Flushed s r → r.going ≡ false → Cleared out s r
