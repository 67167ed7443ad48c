-- vouched_same: on a sound index a vouched insert or delete, which leaves out the check and the look through all leaves for the identifier, is
-- the act, where what the caller vouches for is true: of an insert, that the identifier is not live; of a delete, that it is live with the point told.
-- A wrong word for a delete does no harm: it is refused and changes nothing. A wrong word for an insert is not noticed: the index then holds the
-- identifier twice and is not sound. Check gives 2 from then on, and so do the acts; nothing is promised of what trusted and vouched acts find in it.
use Rattle.std.specs.Prelude.{◌≡◌, refl, ◌≢◌, List, [], ℕ, zero, suc, ◌≤◌, ℤ, length}
use Rattle.std.proofs.Common.{sym, ap, ◌∙◌, subst, arith}
use Rattle.pagestore.specs.Store.{new_index}
use Rattle.tree_model.specs.Sound.{Permitted, SoundIndex}
use Rattle.index_refusals.specs.declared.Epoch.{Epoch}
use Rattle.index_refusals.specs.Refusals.{First, live_times, insert_rules, delete_rules}
use Rattle.index_refusals.specs.RefusalLaws.{first_one}
use Rattle.index_refusals.specs.Outcomes.{unless_refused, inserted_with, deleted_with, nothing_found}
use Rattle.index_vouched.specs.Vouched.{vouched_delete, vouched_deleted_with, LiveAt}
use Rattle.index_vouched.specs.VouchedLaws.{insert_vouched, delete_vouched, deleted_vouched, vouched_live, vouched_number}
use Rattle.index.specs.Acts.{insert, delete, Done, does, Series, end, next, held_by}
use Rattle.index_laws.specs.Series.{Stands, sound_after}
use Rattle.index_laws.proofs.Series.{new_stands, series}
use Rattle.index_laws.proofs.TrustedActs.{trusted_same}
use Rattle.index_laws.specs.VouchedActs.{vouched_inserts, vouched_deletes, VouchedSeries, stop, inserts, deletes, refuses, trusts}

module _ (b : List ℕ) (s : SoundIndex b) (x : Epoch) (p : List ℤ) (code : ℕ) (c : List ℕ) (z : live_times b x.id ≡ 0) (h : vouched_inserts b x p code c) where
  -- number and every byte are the act's
  pub vouched_insert_same : does (insert x p) b code nothing_found c
  vouched_insert_same = (h.0, insert_vouched b s x p z code h.1, h.2)

  -- side by side with the act's
  pub vouched_insert_equal : (n : ℕ) (e : List ℕ) → does (insert x p) b n nothing_found e → (code ≡ n) × (c ≡ e)
  vouched_insert_equal n e k =
      let t = vouched_insert_same in
      let m = first_one (insert_rules b x p) code n t.1 k.1 in (m, t.2 ∙ ap (λ (y : ℕ). inserted_with y b x p) m ∙ sym k.2)

module _ (b : List ℕ) (s : SoundIndex b) (i : ℕ) (p : List ℤ) (code : ℕ) (c : List ℕ) where
  pub vouched_delete_same : LiveAt b i p → vouched_deletes b i p code c → does (delete i) b code nothing_found c
  vouched_delete_same l h = (delete_vouched b s i p l code h.0, h.1 ∙ ap (λ (x : List ℕ). unless_refused code x b) (deleted_vouched b s i p l))

  pub vouched_delete_equal : LiveAt b i p → vouched_deletes b i p code c → (n : ℕ) (e : List ℕ) → does (delete i) b n nothing_found e → (code ≡ n) × (c ≡ e)
  vouched_delete_equal l h n e k =
      let t = vouched_delete_same l h in
      let m = first_one (delete_rules b i) code n t.0 k.0 in (m, t.1 ∙ ap (λ (x : ℕ). deleted_with x b i) m ∙ sym k.1)

  -- a wrong word for a delete: the number is 7 or one before it, and no byte changes
  pub vouched_delete_wrong : ¬ LiveAt b i p → vouched_deletes b i p code c → (code ≢ 0) × (code ≤ 7) × (c ≡ b)
  vouched_delete_wrong w h = go code refl
    where
      go : (n : ℕ) → code ≡ n → (code ≢ 0) × (code ≤ 7) × (c ≡ b)
      go zero e = absurd (w (vouched_live b s i p (subst (First (vouched_delete b i p)) e h.0)))
      go (suc n) e = (λ (z : code ≡ 0). omega (arith, e), vouched_number b i p code h.0, h.1 ∙ ap (λ (x : ℕ). vouched_deleted_with x b i p) e)

  -- and one that is carried out was a true one
  pub vouched_delete_true : code ≡ 0 → vouched_deletes b i p code c → LiveAt b i p
  vouched_delete_true e h = vouched_live b s i p (subst (First (vouched_delete b i p)) e h.0)

pub vouched_same : (b : List ℕ) → SoundIndex b → (x : Epoch) (i : ℕ) (p : List ℤ) (code : ℕ) (c : List ℕ)
    → (live_times b x.id ≡ 0 → vouched_inserts b x p code c → does (insert x p) b code nothing_found c) × (LiveAt b i p → vouched_deletes b i p code c → does (delete i) b code nothing_found c)
vouched_same b s x i p code c = (vouched_insert_same b s x p code c, vouched_delete_same b s i p code c)

-- vouched_series: from a sound index on they are acts, and the index stays sound
pub vouched_series : {b c : List ℕ} {os : List Done} → SoundIndex b → VouchedSeries b os c → Series b os c × SoundIndex c
vouched_series s stop = (end, s)
vouched_series {b = b} s (inserts {m = m} x p code z h t) =
    let g = vouched_insert_same b s x p code m z h in
    let r = vouched_series (sound_after b s (insert x p) code nothing_found m g) t in
    (next g r.0, r.1)
vouched_series {b = b} s (deletes {m = m} i p h t) =
    let g = vouched_delete_same b s i p 0 m (vouched_live b s i p h.0) h in
    let r = vouched_series (sound_after b s (delete i) 0 nothing_found m g) t in
    (next g r.0, r.1)
vouched_series {b = b} {c = c} {os = os} s (refuses {m = m} i p code h t) =
    let r = vouched_series (subst SoundIndex (sym h.1) s) t in (subst (λ (x : List ℕ). Series x os c) h.1 r.0, r.1)
vouched_series {b = b} s (trusts {m = m} {o = o} h t) =
    let g = trusted_same b s o.act o.code o.answer m h in
    let r = vouched_series (sound_after b s o.act o.code o.answer m g) t in
    (next g r.0, r.1)

-- demand 2 for them: after any of them on a newly made index the live records are those inserted and not deleted since
pub vouched_stands : (b : List ℕ) (d : ℕ) → Permitted (length b) → 1 ≤ d → d ≤ 16 → {os : List Done} {c : List ℕ} → VouchedSeries (new_index b d) os c → Stands d (held_by d os []) c
vouched_stands b d lent low high h = series b d lent low high (vouched_series (new_stands b d lent low high).sound h).0
