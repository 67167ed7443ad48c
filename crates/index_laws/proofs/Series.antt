-- series (01, demand 2): after any list of acts on a newly made index, make apart, the index is sound, the live records are those
-- inserted and not deleted since, and each question returns the k nearest of those whose stage is in its set and whose stamp lies in its days, with the exact number of leaves.
use Rattle.std.specs.Prelude.{List, [], ◌∷◌, ◌++◌, ℕ, ◌≤◌, length}
use Rattle.std.proofs.Common.{sym, subst}
use Rattle.pagestore.specs.Store.{new_index}
use Rattle.tree_model.specs.Sound.{Permitted}
use Rattle.tree_laws.specs.NewPromises.{new_sound, new_live, new_features}
use Rattle.search_model.specs.Visit.{Answer as Found}
use Rattle.index_query.specs.Asking.{Question}
use Rattle.index.specs.Acts.{Done, Series, end, next, held_by}
use Rattle.index_query.specs.Answers.{Answers}
use Rattle.index_laws.specs.Answers.{question_answers}
use Rattle.index_laws.specs.Series.{Stands, series_stands, Reached, asked}

module _ (b : List ℕ) (d : ℕ) (lent : Permitted (length b)) (low : 1 ≤ d) (high : d ≤ 16) where
  pub new_stands : Stands d [] (new_index b d)
  new_stands = record { sound = new_sound b d lent low high; features = new_features b d lent low high; holds = new_live b d lent low high }

  -- the index after any series on a newly made one
  pub series : {os : List Done} {c : List ℕ} → Series (new_index b d) os c → Stands d (held_by d os []) c
  series h = series_stands d [] new_stands h

-- ---- EACH QUESTION OF A SERIES

reached : (b : List ℕ) (xs : List Done) (o : Done) (ys : List Done) (c : List ℕ) → Series b (xs ++ (o ∷ ys)) c → Reached b xs o ys c
reached b [] o ys c (next {m = m} h t) = record { met = b; left = m; before = end; done = h; after = t }
reached b (x ∷ xs) o ys c (next {m = m} h t) =
    let r = reached m xs o ys c t in record { met = r.met; left = r.left; before = next h r.before; done = r.done; after = r.after }

module _ (b : List ℕ) (d : ℕ) (lent : Permitted (length b)) (low : 1 ≤ d) (high : d ≤ 16) where
  -- each question in a series returns the k nearest of the records inserted and not deleted before it whose stage is in its set and whose stamp lies in its
  -- days, and reads the leaves of the exact set
  pub series_question : (xs ys : List Done) (w : Question) (n : ℕ) (f : Found) (c : List ℕ) → Series (new_index b d) (xs ++ (asked w n f ∷ ys)) c
      → (m : List ℕ) × (Series (new_index b d) xs m × (Stands d (held_by d xs []) m × Answers m w f))
  series_question xs ys w n f c h =
      let r = reached (new_index b d) xs (asked w n f) ys c h in
      (r.met, (r.before, (series b d lent low high r.before, subst (Answers r.met w) (sym r.done.1) (question_answers r.met w n r.done.0))))
