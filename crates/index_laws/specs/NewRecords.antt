-- The record that an insert brings can be stored and is in range.
use Rattle.std.specs.Prelude.{◌≡◌, true, List, map, ℕ, zero, suc, ◌-◌, ◌≤◌, ℤ, take, replicate}
use Rattle.std.proofs.Common.{subst, arith}
use Rattle.std.proofs.Math.ListN.{length, length-append, length-replicate, length-map}
use Rattle.lists.specs.Basics.{All, none, also, all_map, all_append}
use Rattle.geometry.specs.Stored.{stored, slots_of, in_range}
use Rattle.geometry.proofs.StoredLaws.{in_range_law, slots_own, all_stored}
use Rattle.pagestore_page.specs.Fits.{RecordFits}
use Rattle.tree_model.specs.Sound.{RecordOk, max_stage}
use Rattle.index_refusals.specs.declared.Epoch.{Epoch}
use Rattle.index_refusals.specs.Refusals.{record_of}
use Rattle.index.specs.Acts.{EpochFits}

all_zeros : (n : ℕ) → All (λ c. c ≤ 2000) (replicate n 0)
all_zeros zero = none
all_zeros (suc n) = also {x = 0} (omega arith) (all_zeros n)

module _ (x : Epoch) (p : List ℤ) (r : in_range p ≡ true) (g : x.stage ≤ max_stage) where
  pub record_fits : EpochFits x → length p ≤ 16 → RecordFits (record_of x p)
  unfolding slots_of
  record_fits b h =
      record {
        id = b.0;
        stage = omega arith;
        stamp = b.1;
        slots = omega (arith, length-append (map stored p) (replicate (16 - length p) 0), length-map p stored, length-replicate {A = ℕ} (16 - length p) 0);
        coords = all_map (λ c l. omega arith) (all_append (all_stored p (in_range_law p r)) (all_zeros (16 - length p)));
      }

  pub record_ok : (d : ℕ) → length p ≡ d → 1 ≤ x.id → RecordOk d (record_of x p)
  record_ok d e o =
      record {
        ident = o;
        stage = g;
        coords = subst (λ (n : ℕ). All (λ c. c ≤ 2000) (take n (slots_of p))) e (rw (slots_own p) (all_stored p (in_range_law p r)));
      }
