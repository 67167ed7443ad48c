-- A stage in a set of stages, by shift and mask, and what it and the stamp tell of a record.
use Rattle.std.proofs.Common.{Option, ◌≡◌, sym, ap, ◌∙◌, Bool, true, false, ℕ, ◌/◌, ◌^◌, ◌≤◌, ◌<◌, arith, lt_of_lt_of_le, eqb, bit_and}
use native.Mathlib.Nat.{div-eq_of_lt, pow-le-pow_right}
use lib.Bits.{and_mask}
use Rattle.calendar.specs.declared.Window.{Window}
use Rattle.calendar.specs.Counting.{in_window}
use Rattle.pagestore_page.specs.declared.Record.{Record}
use Rattle.search_model.specs.declared.Choice.{Choice}
use Rattle.search_model.specs.Asked.{Asked, in_stages, candidate}

-- past its 8 bits a set has none
pub past_bits : (set s : ℕ) → set < 256 → 8 ≤ s → false ≡ in_stages set s
unfolding in_stages
past_bits set s h g =
    let p : 2 ^ 8 ≤ 2 ^ s = pow-le-pow_right (omega arith) g in
    let z : set / 2 ^ s ≡ 0 = div-eq_of_lt (lt_of_lt_of_le h p) in
    rw z

-- the set shifted by a stage begins with its bit, which the mask m leaves
pub bit_in : (set s m : ℕ) → m ≡ 1 → eqb (bit_and (set / 2 ^ s) m) m ≡ in_stages set s
unfolding in_stages
bit_in set s m e = rw e (ap (λ (x : ℕ). eqb x 1) (and_mask (set / 2 ^ s) 1))

-- ---- A CANDIDATE

module _ (c : Choice) (x : Record) where
  -- a record whose stage is not in the set that is asked for is none
  pub stage_refuses : (t : Bool) (set s : ℕ) → t ≡ in_stages set s → t ≡ false → set ≡ c.stages → s ≡ x.stage → (q : Asked) → q.choice ≡ c → false ≡ candidate q x
  unfolding candidate
  stage_refuses t set s e f g h q w =
      let left : in_stages q.choice.stages x.stage ≡ false = rw (w, sym g, sym h) (sym e ∙ f) in
      rw left

  -- one whose stage is in it is one just if its stamp lies in the window
  pub window_tells : (t : Bool) (set s : ℕ) → t ≡ in_stages set s → t ≡ true → set ≡ c.stages → s ≡ x.stage → (r : Bool) (v : Option Window) (m : ℕ) → r ≡ in_window v m → v ≡ c.window → m ≡ x.stamp
      → (q : Asked) → q.choice ≡ c → r ≡ candidate q x
  unfolding candidate
  window_tells t set s e f g h r v m k l n q w =
      let left : in_stages q.choice.stages x.stage ≡ true = rw (w, sym g, sym h) (sym e ∙ f) in
      rw left (k ∙ rw (l, n, w))
