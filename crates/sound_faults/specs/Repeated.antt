-- Identifiers: what a count over the followed pages says of them.
use Rattle.std.proofs.Common.{sym, ◌∙◌, subst, ⊎_elim, arith, ltb-true, ltb-false}
use Rattle.std.specs.Prelude.{List, ℕ, ◌≤◌, ltb}
use Rattle.lists.specs.Counts.{mult}
use Rattle.lists.specs.Members.{map_spot, mult_find, mult_find_two}
use Rattle.lists.specs.Sorting.{sum}
use Rattle.lists.specs.Weights.{sum_only, sum_other, sum_some, sum_zero}
use Rattle.lists.specs.Tests.{by_cases, decide}
use Rattle.pagestore_page.specs.declared.Record.{Record}
use Rattle.pagestore.specs.Store.{records_of, View}
use Rattle.tree_model.specs.Trees.{ident_of}
use Rattle.sound_faults.specs.Faults.{RecordAt, FailsAt}
use Rattle.sound_faults.specs.Linked.{Followed}
use Rattle.sound_faults.specs.Shapes.{idents}

module _ (v : View) (ps : List ℕ) (f : Followed v ps) where
  -- how often the followed pages hold an identifier
  abbrev times : ℕ → ℕ
  times i = sum (λ q. mult i (idents v q)) ps

  -- a leaf that holds an identifier which the followed pages hold twice
  pub repeated_fails : (p j : ℕ) (r : Record) → RecordAt v p j r → 2 ≤ sum (λ q. mult r.id (idents v q)) ps → FailsAt v p
  repeated_fails p j r a two =
      let here : ℕ = mult r.id (idents v p) in
      by_cases (ltb 1 here)
      (λ b. let w = mult_find_two r.id (idents v p) (omega (arith, ltb-true 1 here b)) in
      let x = map_spot ident_of (records_of (v.page p)) w.2 in
      let y = map_spot ident_of (records_of (v.page p)) w.3 in
      decide j w.0
      (λ e. FailsAt.repeated a (record { reached = a.reached; at = y.1 }) (λ z. w.4 (sym e ∙ z.1)) y.2)
      (λ n. FailsAt.repeated a (record { reached = a.reached; at = x.1 }) (λ z. n z.1) x.2))
      (λ b. let l : here ≤ 1 = ltb-false 1 here b in
      ⊎_elim
      (λ w. let m = mult_find r.id (idents v w.0) w.3 in
      let y = map_spot ident_of (records_of (v.page w.0)) m.1 in
      FailsAt.repeated a (record { reached = f.reached w.0 w.1; at = y.1 }) (λ z. w.2 (sym z.0)) y.2)
      (λ g. absurd (omega (arith, two, f.once p, sum_only (λ q. mult r.id (idents v q)) p ps l g)))
      (sum_other (λ q. mult r.id (idents v q)) p ps))

  -- an identifier that they hold twice fails somewhere
  pub twice_fails : (i : ℕ) → 2 ≤ sum (λ q. mult i (idents v q)) ps → (p : ℕ) × FailsAt v p
  twice_fails i two =
      ⊎_elim
      (λ w. let m = mult_find i (idents v w.0) w.2 in
      let y = map_spot ident_of (records_of (v.page w.0)) m.1 in (
        w.0,
        repeated_fails w.0 m.0 y.0 (record { reached = f.reached w.0 w.1; at = y.1 })
            (subst (λ (k : ℕ). 2 ≤ sum (λ q. mult k (idents v q)) ps) y.2 two),
      ))
      (λ z. absurd (omega (arith, two, sum_zero (λ q. mult i (idents v q)) ps z)))
      (sum_some (λ q. mult i (idents v q)) ps)
