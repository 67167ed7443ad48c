-- How a run of the program goes on: the first line, lines of values, and input that comes in chunks.
use Rattle.std.specs.Prelude.{◌≡◌, ◌≢◌, ◌⊎◌, Bool, true, List, [], ◌∷◌, ◌++◌, ℕ, suc, ◌+◌, ◌≤◌, ◌<◌, length, take, drop, Option, is_some}
use Rattle.std.specs.Option.{unwrap_or}
use Rattle.acts_fields.specs.Bytes.{Written}
use Rattle.acts_text.specs.Input.{ended, current}
use Rattle.acts_text.specs.Lines.{limit}
use Rattle.acts_output.specs.Puts.{most_printed, Puts}
use Rattle.acts_step.specs.Steps.{index_bytes, Steps, Begins}
use Rattle.acts_buffer.specs.Room.{Flushed}
use Rattle.acts_buffer.specs.declared.Progress.{Progress}

-- a 64-page index, room for what a line prints, and a next line number that has 64 bits
pub record Ready (index out : List ℕ) (s : Progress) : Type 0 where
  pub pages : length index ≡ index_bytes
  pub room : s.end + most_printed ≤ length out
  pub numbers : s.number < 18446744073709551615

-- line n, l, in a run of d features: it leaves d' features and index c, prints t, and says whether the run goes on
pub data Does (d n : ℕ) (b l : List ℕ) (going : Bool) (d' : ℕ) (going' : Bool) (c t : List ℕ) : Type 0 where
  -- the first line begins it, or ends it; e: the features that it names
  first : {e : Option ℕ} → n ≡ 1 → Begins b l e c t → going' ≡ is_some e → d' ≡ unwrap_or e 0 → Does d n b l going d' going' c t
  later : n ≢ 1 → d' ≡ d → Steps d b n l c t → going' ≡ going → Does d n b l going d' going' c t

-- the current line, l, has ended: it is done, what it prints stands behind what was printed, and the next line begins
pub record Ended (b l out : List ℕ) (s : Progress) (c out' : List ℕ) (r : Progress) : Type 0 where
  pub done : Puts (Does s.d s.number b l s.going r.d r.going c) most_printed out out' s.end r.end
  pub number : r.number ≡ s.number + 1
  pub held : r.held ≡ 0

-- at most 257 bytes of the current line are held, and the chunk goes on within it
pub record Within (held chunk : List ℕ) (s : Progress) : Type 0 where
  pub line : suc limit ≤ length held
  pub few : s.held ≤ suc limit
  pub at : s.at ≤ length chunk

-- no newline is left in the chunk: it is used up, and what is held is what is kept of the current line
pub record Waits (b held chunk out : List ℕ) (s : Progress) (c held' out' : List ℕ) (r : Progress) : Type 0 where
  pub none : ended (take s.held held) (drop s.at chunk) ≡ []
  pub kept : current (take s.held held) (drop s.at chunk) ≡ take r.held held'
  pub used : r.at ≡ length chunk
  pub stands : (r.going ≡ s.going) × (r.d ≡ s.d) × (r.number ≡ s.number) × (r.end ≡ s.end)
  pub same : (c ≡ b) × (out' ≡ out)

-- a line ends there: it is done, and the chunk goes on behind its newline with no line begun
pub record Goes (b held chunk out : List ℕ) (s : Progress) (c out' : List ℕ) (r : Progress) : Type 0 where
  pub line : List ℕ
  pub ends : ended (take s.held held) (drop s.at chunk) ≡ line ∷ ended [] (drop r.at chunk)
  pub rest : current (take s.held held) (drop s.at chunk) ≡ current [] (drop r.at chunk)
  pub done : Ended b line out s c out' r

-- the chunk is taken up to the end of a line, or to its own end
pub record Takes (b held chunk out : List ℕ) (s : Progress) (c held' out' : List ℕ) (r : Progress) : Type 0 where
  pub turn : Waits b held chunk out s c held' out' r ⊎ Goes b held chunk out s c out' r
  pub within : Within held' chunk r
  pub onward : s.at < length chunk → s.at < r.at
  pub room : r.end ≤ s.end + most_printed

-- the end of input: it ends a last line that has bytes, and the first line also where it has none
pub data Closes (b held out : List ℕ) (s : Progress) (c out' : List ℕ) (r : Progress) : Type 0 where
  closed : s.number ≢ 1 → s.held ≡ 0 → r ≡ s → c ≡ b → out' ≡ out → Closes b held out s c out' r
  last : (s.number ≡ 1) ⊎ (s.held ≢ 0) → Ended b (take s.held held) out s c out' r → Closes b held out s c out' r

-- lines done one after the other while the run goes on, from line n on: d' features, line n' and index c are left, and t is printed
pub data Goings : (d n : ℕ) → List ℕ → Bool → List (List ℕ) → (d' n' : ℕ) → List ℕ → Bool → List ℕ → Type 0 where
  end : {d n : ℕ} {b : List ℕ} {g : Bool} → Goings d n b g [] d n b g []
  next : {d n d₁ d' n' : ℕ} {b l m s c t : List ℕ} {g₁ g' : Bool} {ls : List (List ℕ)}
      → Does d n b l true d₁ g₁ m s → Goings d₁ (n + 1) m g₁ ls d' n' c g' t → Goings d n b true (l ∷ ls) d' n' c g' (s ++ t)

-- from progress s to progress r on the input i, of which i' is left: the lines that ended in it, as kept, are done, and t is the text that they print
pub record Advances (b held i : List ℕ) (s : Progress) (c held' i' : List ℕ) (r : Progress) (t : List ℕ) : Type 0 where
  pub lines : List (List ℕ)
  pub ends : ended (take s.held held) i ≡ lines ++ ended (take r.held held') i'
  pub rest : current (take s.held held) i ≡ current (take r.held held') i'
  pub does : Goings s.d s.number b s.going lines r.d r.number c r.going t

-- from progress s to progress r on the input i, of which i' is left, with w handed over to be written
pub data Hands : (b held out i : List ℕ) → Progress → (c held' out' i' : List ℕ) → Progress → List ℕ → Type 0 where
  -- lines are done, and their text is written in the buffer behind what stood there
  adds : {b held out i : List ℕ} {s : Progress} {c held' out' i' : List ℕ} {r : Progress} {t : List ℕ}
      → Advances b held i s c held' i' r t → s.end ≤ length out → Written out out' s.end r.end t → Hands b held out i s c held' out' i' r []
  -- there is no room for what a line prints: all that stands in the buffer is handed over
  flush : {b held out i : List ℕ} {s r : Progress}
      → length out < s.end + most_printed → Flushed s r → r.going ≡ s.going → Hands b held out i s b held out i r (take s.end out)
  both : {b held out i : List ℕ} {s : Progress} {m held₁ out₁ j : List ℕ} {t : Progress} {c held₂ out₂ k : List ℕ} {r : Progress} {u v : List ℕ}
      → Hands b held out i s m held₁ out₁ j t u → Hands m held₁ out₁ j t c held₂ out₂ k r v → Hands b held out i s c held₂ out₂ k r (u ++ v)

-- a run that begins: at line 1, with nothing held and nothing in the output buffer
pub record Fresh (s : Progress) : Type 0 where
  pub going : s.going ≡ true
  pub number : s.number ≡ 1
  pub held : s.held ≡ 0
  pub empty : s.end ≡ 0
