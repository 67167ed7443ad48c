-- Items held in an array of slots. Assumes nothing.
use Rattle.std.proofs.Common.{◌≡◌, ap, List, ℕ, ◌≤◌, arith, length, length-take}
use Rattle.tree_core.specs.Held.{Held}

module _ {A : Type 0} where
  pub held_is : {n : ℕ} {s xs ys : List A} → Held n s xs → xs ≡ ys → Held n s ys
  held_is h e = rw e at h

  pub held_most : {n : ℕ} {s xs : List A} → Held n s xs → n ≤ length s
  held_most {n} {s} h = omega (arith, h.count, ap length h.items, length-take n s)
