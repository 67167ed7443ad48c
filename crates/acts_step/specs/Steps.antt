-- What a line does to the index and prints (01, "The acts program").
use Rattle.std.specs.Prelude.{◌≡◌, List, ◌++◌, ℕ, min, ℤ, take, Option, Some, None}
use Rattle.pagestore.specs.Store.{new_index}
use Rattle.search_model.specs.Visit.{Answer as Found}
use Rattle.index_query.specs.Asking.{Question, nearest_of}
use Rattle.index_refusals.specs.declared.Epoch.{Epoch}
use Rattle.index.specs.Acts.{Act, insert, delete, question, does}
use Rattle.acts_text.specs.declared.Act.{Act as Kind}
use Rattle.acts_text.specs.declared.Act.TheVariants.{Insert, Delete, Ask}
use Rattle.acts_text.specs.declared.ActLine.{ActLine}
use Rattle.acts_text.specs.Lines.{act_of}
use Rattle.acts_text.specs.Names.{names_in}
use Rattle.acts_output.specs.Output.{heading, result_line}
use Rattle.acts_output.specs.Puts.{rows_lent}
use Rattle.acts_step.specs.Printed.{printed}

-- a 64-page index
abbrev pub index_bytes : ℕ
index_bytes = 65536

-- the coordinates that a line gives
abbrev pub point_of : ActLine → List ℤ
point_of a = take a.d a.coords

-- the stage that it gives, or the set of a question: above 255 as 255, which is out of range too
abbrev pub stage_in : ActLine → ℕ
stage_in a = min a.stage 255

-- the epoch that it gives
abbrev pub epoch_in : ActLine → Epoch
epoch_in a = record { id = a.id; stage = stage_in a; stamp = a.stamp }

-- what it asks
abbrev pub question_in : ActLine → Question
question_in a = nearest_of (point_of a) a.k (stage_in a)

-- the act that it asks for, by its kind
abbrev pub asked_for : Kind → ActLine → Act
asked_for Insert a = insert (epoch_in a) (point_of a)
asked_for Delete a = delete a.id
asked_for Ask a = question (question_in a) rows_lent

abbrev pub asked_by : ActLine → Act
asked_by a = asked_for a.act a

-- the act x of line n is done on index b: it leaves index c and prints t
pub record Acted (x : Act) (b : List ℕ) (n : ℕ) (c t : List ℕ) : Type 0 where
  pub code : ℕ
  pub answer : Found
  pub done : does x b code answer c
  pub prints : t ≡ printed n x code answer

-- line n asks the question w of index b and prints t
abbrev pub Replies : Question → List ℕ → ℕ → List ℕ → Type 0
Replies w b n t = Acted (question w rows_lent) b n b t

-- line n of values, l, on index b of d features: it leaves index c and prints t
pub data Steps (d : ℕ) (b : List ℕ) (n : ℕ) (l c t : List ℕ) : Type 0 where
  -- unreadable: it prints its line number, 13 and three zeros, and is passed over
  passed : act_of d l ≡ None → c ≡ b → t ≡ result_line n 13 0 0 0 → Steps d b n l c t
  acted : (a : ActLine) → act_of d l ≡ Some a → Acted (asked_by a) b n c t → Steps d b n l c t

-- the first line, l: it leaves index c of the features d and prints t; with none the program ends
pub data Begins (b l : List ℕ) (d : Option ℕ) (c t : List ℕ) : Type 0 where
  -- unreadable: the output's names and `1 13 0 0 0`
  ends : names_in l ≡ None → d ≡ None → c ≡ b → t ≡ heading ++ result_line 1 13 0 0 0 → Begins b l d c t
  -- readable: the output's names, and an empty index of the features named
  begins : (n : ℕ) → names_in l ≡ Some n → d ≡ Some n → c ≡ new_index b n → t ≡ heading → Begins b l d c t
