-- What a vouched insert or delete, which leaves out the check and the look through all leaves for the identifier, returns and leaves, and series of such acts.
use Rattle.std.specs.Prelude.{◌≡◌, List, [], ◌∷◌, ℕ, suc, ℤ}
use Rattle.index_refusals.specs.declared.Epoch.{Epoch}
use Rattle.index_refusals.specs.Refusals.{First, live_times}
use Rattle.index_refusals.specs.Outcomes.{inserted_with, nothing_found}
use Rattle.index_vouched.specs.Vouched.{vouched_insert, vouched_delete, vouched_deleted_with}
use Rattle.index.specs.Acts.{EpochFits, insert, delete, Done}
use Rattle.index_laws.specs.TrustedActs.{trusted_does}

-- what a vouched insert and a vouched delete on index b return and leave, as their contracts say
abbrev pub vouched_inserts : List ℕ → Epoch → List ℤ → ℕ → List ℕ → Type 0
vouched_inserts b x p code c = EpochFits x × (First (vouched_insert b x p) code) × (c ≡ inserted_with code b x p)

abbrev pub vouched_deletes : List ℕ → ℕ → List ℤ → ℕ → List ℕ → Type 0
vouched_deletes b i p code c = (First (vouched_delete b i p) code) × (c ≡ vouched_deleted_with code b i p)

-- Acts done one after the other, from index b to index c, with the list of acts that they are. A vouched insert is of an identifier that is not
-- live before it. Of a vouched delete nothing is asked; refused, it is no act.
pub data VouchedSeries : List ℕ → List Done → List ℕ → Type 0 where
  stop : {b : List ℕ} → VouchedSeries b [] b
  inserts : {b m c : List ℕ} {os : List Done} (x : Epoch) (p : List ℤ) (code : ℕ) → live_times b x.id ≡ 0 → vouched_inserts b x p code m → VouchedSeries m os c
      → VouchedSeries b (record { act = insert x p; code = code; answer = nothing_found } ∷ os) c
  deletes : {b m c : List ℕ} {os : List Done} (i : ℕ) (p : List ℤ) → vouched_deletes b i p 0 m → VouchedSeries m os c
      → VouchedSeries b (record { act = delete i; code = 0; answer = nothing_found } ∷ os) c
  refuses : {b m c : List ℕ} {os : List Done} (i : ℕ) (p : List ℤ) (code : ℕ) → vouched_deletes b i p (suc code) m → VouchedSeries m os c → VouchedSeries b os c
  trusts : {b m c : List ℕ} {o : Done} {os : List Done} → trusted_does o.act b o.code o.answer m → VouchedSeries m os c → VouchedSeries b (o ∷ os) c
