-- What stands after acts: a sound index whose live records are those inserted and not deleted since; and what a series comes to at one of its acts.
use Rattle.std.specs.Prelude.{◌≡◌, refl, List, ℕ, zero, suc, ◌≤◌, ◌<◌, ℤ, length}
use Rattle.std.proofs.Common.{ap, ◌∙◌, arith}
use Rattle.pagestore_page.specs.declared.Record.{Record}
use Rattle.pagestore.specs.Store.{view_of}
use Rattle.tree_model.specs.Trees.{live}
use Rattle.tree_model.specs.Sound.{SoundIndex}
use Rattle.tree_core.specs.Insertion.{insert_into}
use Rattle.tree_model.specs.Inserting.{insert_record}
use Rattle.tree_core.specs.Deletion.{delete_from}
use Rattle.tree_model.specs.Deleting.{delete_record}
use Rattle.tree_core.specs.Lookup.{find_in}
use Rattle.tree_laws.specs.InsertPromises.{MayInsert}
use Rattle.tree_laws.proofs.InsertPromises.{insert_sound, insert_live, insert_features}
use Rattle.tree_laws.specs.DeletePromises.{delete_sound, delete_live, delete_features}
use Rattle.search_model.specs.Visit.{Answer as Found}
use Rattle.index_query.specs.Asking.{Question}
use Rattle.index_refusals.specs.declared.Epoch.{Epoch}
use Rattle.index_refusals.specs.Refusals.{First, insert_rules, delete_rules, record_of}
use Rattle.index_refusals.specs.RefusalLaws.{all_hold}
use Rattle.index_refusals.specs.Outcomes.{unless_refused}
use Rattle.index.specs.Acts.{EpochFits, Act, insert, delete, question, check, Done, does, Does, Series, end, next, changed_by, held_after, held_by}
use Rattle.index_laws.specs.NewRecords.{record_fits, record_ok}

-- a sound index of d features whose live records are rs, in key order
pub record Stands (d : ℕ) (rs : List Record) (b : List ℕ) : Type 0 where
  pub sound : SoundIndex b
  pub features : (view_of b).d ≡ d
  pub holds : live (view_of b) ≡ rs

-- ---- ONE ACT

module _ (d : ℕ) (rs : List Record) (b : List ℕ) (s : Stands d rs b) where
  insert_stands : (x : Epoch) (p : List ℤ) → EpochFits x → First (insert_rules b x p) 0 → Stands d (insert_record d (record_of x p) rs) (insert_into b (record_of x p))
  insert_stands x p low first =
      let h = all_hold (insert_rules b x p) refl first in
      let e : length p ≡ (view_of b).d = h.1.1.0 in
      let top : (view_of b).d ≤ 16 = s.sound.d.1 in
      let stage : x.stage ≤ 5 = h.1.1.1.1.1.0 in
      let room : length (live (view_of b)) < 65535 = h.1.1.1.1.1.1.1.0 in
      let may : MayInsert b (record_of x p) =
      record {
        fits = record_fits x p h.1.1.1.0 stage low (omega arith);
        ranges = record_ok x p h.1.1.1.0 stage (view_of b).d e h.1.1.1.1.0;
        new = h.1.1.1.1.1.1.0;
        room = omega (arith, s.sound.total);
        free = h.1.1.1.1.1.1.1.1.0;
      } in
      record {
        sound = insert_sound b (record_of x p) s.sound may;
        features = insert_features b (record_of x p) s.sound may ∙ s.features;
        holds = insert_live b (record_of x p) s.sound may ∙ (λ t. insert_record (s.features t) (record_of x p) (s.holds t));
      }

  delete_stands : (i : ℕ) → First (delete_rules b i) 0 → Stands d (delete_record i rs) (delete_from b (find_in b i))
  delete_stands i first =
      let h = all_hold (delete_rules b i) refl first in
      record {
        sound = delete_sound b i s.sound h.1.1.1.0;
        features = delete_features b i s.sound h.1.1.1.0 ∙ s.features;
        holds = delete_live b i s.sound h.1.1.1.0 ∙ ap (delete_record i) s.holds;
      }

  same_stands : (c : List ℕ) → c ≡ b → Stands d rs c
  same_stands c e = rw e s

  pub act_stands : (a : Act) (code : ℕ) (f : Found) (c : List ℕ) → does a b code f c → Stands d (unless_refused code (changed_by d a rs) rs) c
  act_stands (insert x p) zero f c h = rw h.2 (insert_stands x p h.0 h.1)
  act_stands (insert x p) (suc n) f c h = same_stands c h.2
  act_stands (delete i) zero f c h = rw h.1 (delete_stands i h.0)
  act_stands (delete i) (suc n) f c h = same_stands c h.1
  act_stands (question w n) zero f c h = same_stands c h.2
  act_stands (question w n) (suc m) f c h = same_stands c h.2
  act_stands check zero f c h = same_stands c h.1
  act_stands check (suc n) f c h = same_stands c h.1

-- an act on a sound index leaves a sound one
pub sound_after : (b : List ℕ) → SoundIndex b → (a : Act) (code : ℕ) (f : Found) (c : List ℕ) → does a b code f c → SoundIndex c
sound_after b s a code f c h = (act_stands (view_of b).d (live (view_of b)) b (record { sound = s; features = refl; holds = refl }) a code f c h).sound

-- ---- A SERIES

pub series_stands : (d : ℕ) (rs : List Record) {b c : List ℕ} {os : List Done} → Stands d rs b → Series b os c → Stands d (held_by d os rs) c
unfolding held_by
series_stands d rs s end = s
series_stands d rs {b = b} s (next {m = m} {o = o} h t) = series_stands d (held_after d o rs) (act_stands d rs b s o.act o.code o.answer m h) t

-- ---- EACH QUESTION OF A SERIES

-- what a series comes to at one of its acts: the acts before it, the index that it meets, and the index that it leaves
pub record Reached (b : List ℕ) (xs : List Done) (o : Done) (ys : List Done) (c : List ℕ) : Type 0 where
  pub met : List ℕ
  pub left : List ℕ
  pub before : Series b xs met
  pub done : Does met o left
  pub after : Series left ys c

-- a question as it is done when it is carried out
abbrev pub asked : Question → ℕ → Found → Done
asked w n f = record { act = question w n; code = 0; answer = f }
