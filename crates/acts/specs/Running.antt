-- What holds while the program runs: its buffers are large enough, its lines are done, and what they print stands in the output buffer or
-- was handed over.
use Rattle.std.specs.Prelude.{◌≡◌, ◌⊎◌, true, false, List, [], ◌++◌, ℕ, ◌≤◌, ◌<◌, length, take, drop}
use Rattle.acts_fields.specs.Bytes.{Written}
use Rattle.acts_output.specs.Puts.{most_printed}
use Rattle.acts_step.specs.Steps.{index_bytes}
use Rattle.acts_buffer.specs.Room.{Flushed, Open, Full, Cleared}
use Rattle.acts_step.specs.Advances.{Closes, Advances, Hands, Fresh}
use Rattle.acts_step.specs.Texts.{Prints}
use Rattle.acts_buffer.specs.declared.Progress.{Progress}

-- between two calls: a 64-page index, at most 257 bytes held of the current line, and an output buffer that has room for what a line prints
pub record Fits (index held out : List ℕ) (s : Progress) : Type 0 where
  pub pages : length index ≡ index_bytes
  pub line : 257 ≤ length held
  pub few : s.held ≤ 257
  pub space : s.end ≤ length out
  pub most : most_printed ≤ length out

-- the lines of a chunk are done, from s.at on: the text that they print is written in the buffer behind what stood there, and every other byte of the
-- buffer is as before. A run that goes on stops at the chunk's end, or where a line cannot be done. b, held, out: index, line and buffer before it
pub record Ran (b held chunk out : List ℕ) (s : Progress) (index held' out' : List ℕ) (r : Progress) : Type 0 where
  pub text : List ℕ
  pub advance : Advances b held (drop s.at chunk) s index held' (drop r.at chunk) r text
  pub written : Written out out' s.end r.end text
  pub stops : r.going ≡ true → (r.at ≡ length chunk) ⊎ Full (length out') r
  pub onward : s.going ≡ true → s.at < length chunk → Open (length out) s → s.at < r.at
  pub within : r.at ≤ length chunk
  pub fits : Fits index held' out' r

-- the input i is done with, all of it if the run goes on; what its lines print was handed over, or stands in the buffer
pub record Through (b held out i : List ℕ) (s : Progress) (index held' out' : List ℕ) (r : Progress) : Type 0 where
  pub left : List ℕ
  pub handed : List ℕ
  pub hands : Hands b held out i s index held' out' left r handed
  pub all : r.going ≡ true → left ≡ []

-- the run went on within the input i up to progress at, where no line can be done, and has ended there: what its lines print up to there was handed over
-- before, or stood in the buffer, which is handed over last
pub record Stopped (b held out i : List ℕ) (s : Progress) (index held' out' : List ℕ) (r : Progress) : Type 0 where
  pub at : Progress
  pub left : List ℕ
  pub handed : List ℕ
  pub hands : Hands b held out i s index held' out' left at handed
  pub goes : at.going ≡ true
  pub full : Full (length out') at
  pub empties : Flushed at r
  pub stops : r.going ≡ false

-- a chunk is done with, or the run has stopped in it
pub record UsedUp (b held chunk out : List ℕ) (s : Progress) (index held' out' : List ℕ) (r : Progress) : Type 0 where
  pub through : Through b held out chunk s index held' out' r ⊎ Stopped b held out chunk s index held' out' r
  pub fits : Fits index held' out' r

-- the same of what was read
pub record Taken (b held out : List ℕ) (s : Progress) (index held' out' : List ℕ) (r : Progress) : Type 0 where
  pub input : List ℕ
  pub through : Through b held out input s index held' out' r ⊎ Stopped b held out input s index held' out' r
  pub fits : Fits index held' out' r

-- the end of input: a run that goes on ends a last line, once there is room for what it prints
pub data Closed (b held out : List ℕ) (s : Progress) (index out' : List ℕ) (r : Progress) : Type 0 where
  stays : s.going ≡ false → index ≡ b → out' ≡ out → r ≡ s → Closed b held out s index out' r
  closed : (t : Progress) → s.going ≡ true → Cleared out s t → t.going ≡ true → Closes b held out t index out' r → Closed b held out s index out' r
  fails : s.going ≡ true → Cleared out s r → r.going ≡ false → index ≡ b → out' ≡ out → Closed b held out s index out' r

-- how a run on the input i ends that does not stop, with w handed over for want of room
pub data Ends (b held out i : List ℕ) (s : Progress) (index out' : List ℕ) (r : Progress) (w : List ℕ) : Type 0 where
  -- by its first line
  early : {held' left : List ℕ} → Hands b held out i s index held' out' left r w → r.going ≡ false → Ends b held out i s index out' r w
  -- with the input, whose end ends a last line
  late : {m held' out₁ : List ℕ} {t : Progress} → Hands b held out i s m held' out₁ [] t w → t.going ≡ true
      → Closes m held' out₁ t index out' r → Ends b held out i s index out' r w

-- then what was handed over, and what stands in the buffer, is the text that i calls for
pub record Printed (b held out i : List ℕ) (s : Progress) (index out' : List ℕ) (r : Progress) : Type 0 where
  pub handed : List ℕ
  pub ends : Ends b held out i s index out' r handed
  pub prints : Prints b i index (handed ++ take r.end out')

-- a whole run, on the input that was read; line: the buffer of the current line at its end
pub record Whole (b held out index out' : List ℕ) (r : Progress) : Type 0 where
  pub input : List ℕ
  pub start : Progress
  pub fresh : Fresh start
  pub line : List ℕ
  pub ends : Printed b held out input start index out' r ⊎ Stopped b held out input start index line out' r
  pub space : r.end ≤ length out'
