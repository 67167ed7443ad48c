-- Acts on an index that has been made, and series of them.
use Rattle.std.specs.Prelude.{◌≡◌, List, [], ◌∷◌, ℕ, ◌^◌, ◌<◌, ℤ}
use Rattle.pagestore_page.specs.declared.Record.{Record}
use Rattle.tree_model.specs.Inserting.{insert_record}
use Rattle.tree_model.specs.Deleting.{delete_record}
use Rattle.search_model.specs.Visit.{Answer as Found}
use Rattle.index_query.specs.Asking.{Question}
use Rattle.index_refusals.specs.declared.Epoch.{Epoch}
use Rattle.index_refusals.specs.Refusals.{First, insert_rules, delete_rules, question_rules, check_rules, record_of}
use Rattle.index_refusals.specs.Outcomes.{unless_refused, inserted_with, deleted_with, found_with}

-- what fits the types that an epoch is given in: identifier and stamp have 32 bits (its stage is in the table)
abbrev pub EpochFits : Epoch → Type 0
EpochFits e = (e.id < 2 ^ 32) × (e.stamp < 2 ^ 32)

-- insert an epoch with its point; delete an identifier; ask a question, with n rows lent; check
pub data Act : Type 0 where
  insert : Epoch → List ℤ → Act
  delete : (i : ℕ) → Act
  question : Question → (n : ℕ) → Act
  check : Act

-- an act with what it returned: its number, and of a question the rows and the number of leaves read
pub record Done : Type 0 where
  pub act : Act
  pub code : ℕ
  pub answer : Found

-- the act done on index b leaves index c
abbrev pub does : Act → List ℕ → ℕ → Found → List ℕ → Type 0
does (insert e p) b code answer c = EpochFits e × (First (insert_rules b e p) code) × (c ≡ inserted_with code b e p)
does (delete i) b code answer c = (First (delete_rules b i) code) × (c ≡ deleted_with code b i)
does (question w n) b code answer c = (First (question_rules b w n) code) × (answer ≡ found_with code b w) × (c ≡ b)
does check b code answer c = (First (check_rules b) code) × (c ≡ b)

abbrev pub Does : List ℕ → Done → List ℕ → Type 0
Does b o c = does o.act b o.code o.answer c

-- acts done one after the other, from index b to index c
pub data Series : List ℕ → List Done → List ℕ → Type 0 where
  end : {b : List ℕ} → Series b [] b
  next : {b m c : List ℕ} {o : Done} {os : List Done} → Does b o m → Series m os c → Series b (o ∷ os) c

-- the records held, in key order, after an act on an index of d features: an insert brings its record, a delete takes one away
abbrev pub changed_by : ℕ → Act → List Record → List Record
changed_by d (insert e p) rs = insert_record d (record_of e p) rs
changed_by d (delete i) rs = delete_record i rs
changed_by d (question w n) rs = rs
changed_by d check rs = rs

-- if it is carried out
abbrev pub held_after : ℕ → Done → List Record → List Record
held_after d o rs = unless_refused o.code (changed_by d o.act rs) rs

-- those inserted and not deleted since, from the records rs on
unfoldable pub held_by : ℕ → List Done → List Record → List Record
held_by d [] rs = rs
held_by d (o ∷ os) rs = held_by d os (held_after d o rs)
