-- What a trusted act, which leaves out the check, returns and leaves, and series of such acts.
use Rattle.std.specs.Prelude.{◌≡◌, List, [], ◌∷◌, ℕ}
use Rattle.search_model.specs.Visit.{Answer as Found}
use Rattle.index_refusals.specs.Refusals.{First}
use Rattle.index_refusals.specs.Outcomes.{inserted_with, deleted_with, found_with}
use Rattle.index_refusals.specs.Trusted.{trusted_insert, trusted_delete, trusted_question}
use Rattle.index.specs.Acts.{EpochFits, Act, insert, delete, question, check, Done, does}

-- what a trusted act on index b returns and leaves, as its contract says; check is the act itself
abbrev pub trusted_does : Act → List ℕ → ℕ → Found → List ℕ → Type 0
trusted_does (insert x p) b code answer c = EpochFits x × (First (trusted_insert b x p) code) × (c ≡ inserted_with code b x p)
trusted_does (delete i) b code answer c = (First (trusted_delete b i) code) × (c ≡ deleted_with code b i)
trusted_does (question w n) b code answer c = (First (trusted_question b w n) code) × (answer ≡ found_with code b w) × (c ≡ b)
trusted_does check b code answer c = does check b code answer c

-- trusted acts done one after the other, from index b to index c
pub data TrustedSeries : List ℕ → List Done → List ℕ → Type 0 where
  stop : {b : List ℕ} → TrustedSeries b [] b
  step : {b m c : List ℕ} {o : Done} {os : List Done} → trusted_does o.act b o.code o.answer m → TrustedSeries m os c → TrustedSeries b (o ∷ os) c
