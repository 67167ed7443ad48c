-- "Inserted and not deleted since", identifier by identifier: after any series on a newly made index an identifier is live just
-- if the last insert or delete of it that was carried out is an insert.
use Rattle.std.specs.Prelude.{◌≡◌, refl, ℕ, zero, suc, ◌+◌, ◌≤◌, ◌<◌, eqb, length}
use Rattle.std.proofs.Common.{sym, ◌∙◌, arith, eqb-true, ne_eqb}
use Rattle.std.proofs.Math.Path.{ap}
use mathlib.Core.List.{List, [], ◌∷◌, map}
use Rattle.std.proofs.lemmas.Bool.{eqb-false}
use Rattle.lists.specs.Basics.{indicator}
use Rattle.lists.specs.Counts.{mult}
use Rattle.lists.specs.Tests.{by_cases}
use Rattle.pagestore_page.specs.declared.Record.{Record}
use Rattle.pagestore.specs.Store.{new_index}
use Rattle.tree_model.specs.Trees.{ident_of}
use Rattle.tree_model.specs.Sound.{Permitted}
use Rattle.tree_model.specs.Deleting.{delete_record}
use Rattle.tree_laws.specs.Idents.{ident_ins}
use Rattle.search_model.specs.Visit.{Answer as Found}
use Rattle.index_refusals.specs.Refusals.{insert_rules, delete_rules, record_of, live_times}
use Rattle.index_refusals.specs.RefusalLaws.{all_hold}
use Rattle.index_refusals.specs.Outcomes.{unless_refused}
use Rattle.index.specs.Acts.{Act, insert, delete, question, check, Done, does, Series, end, next, changed_by, held_after, held_by}
use Rattle.index_laws.specs.Series.{Stands, act_stands}
use Rattle.index_laws.proofs.Series.{new_stands, series}
use Rattle.index_laws.specs.Identifiers.{times_by, times_after}

-- the records without one of identifier j
times_delete : (i j : ℕ) (rs : List Record) → 0 < mult j (map ident_of rs) → mult i (map ident_of (delete_record j rs)) + indicator (eqb i j) ≡ mult i (map ident_of rs)
unfolding delete_record mult
times_delete i j [] h = absurd (omega arith)
times_delete i j (r ∷ rs) h =
    by_cases (eqb r.id j)
    (λ e. let s : r.id ≡ j = eqb-true r.id j e in rw (e, s) (omega arith))
    (λ e. let w : indicator (eqb j r.id) ≡ 0 = ap indicator (ne_eqb j r.id (λ s. eqb-false r.id j e (sym s))) in
    let t = times_delete i j rs (omega arith) in rw e (omega arith))

module _ (d : ℕ) (rs : List Record) (b : List ℕ) (s : Stands d rs b) (i : ℕ) where
  abbrev times : ℕ
  times = mult i (map ident_of rs)

  held_times : (j : ℕ) → live_times b j ≡ mult j (map ident_of rs)
  held_times j = ap (λ (xs : List Record). mult j (map ident_of xs)) s.holds

  act_times : (a : Act) (code : ℕ) (f : Found) (c : List ℕ) → does a b code f c
      → mult i (map ident_of (unless_refused code (changed_by d a rs) rs)) ≡ unless_refused code (times_by i a times) times
  act_times (insert x p) zero f c h =
      let w = all_hold (insert_rules b x p) refl h.1 in
      let j = x.id in
      let none : live_times b j ≡ 0 = w.1.1.1.1.1.1.0 in
      ident_ins d (record_of x p) rs i
      ∙ by_cases (eqb i j)
      (λ e. let same : i ≡ j = eqb-true i j e in
      let z : mult i (map ident_of rs) ≡ 0 = ap (λ (x : ℕ). mult x (map ident_of rs)) same ∙ sym (held_times j) ∙ none in rw e (omega arith))
      (λ e. rw e (omega arith))
  act_times (insert x p) (suc n) f c h = refl
  act_times (delete j) zero f c h =
      let w = all_hold (delete_rules b j) refl h.0 in
      let some : 0 < live_times b j = w.1.1.1.0 in
      let t = times_delete i j rs (omega (arith, held_times j)) in
      let most : live_times b i ≤ 1 = s.sound.distinct i in
      let g = held_times i in
      by_cases (eqb i j)
      (λ e. let one : indicator (eqb i j) ≡ 1 = ap indicator e in rw e (omega arith))
      (λ e. let none : indicator (eqb i j) ≡ 0 = ap indicator e in rw e (omega arith))
  act_times (delete j) (suc n) f c h = refl
  act_times (question w m) zero f c h = refl
  act_times (question w m) (suc n) f c h = refl
  act_times check zero f c h = refl
  act_times check (suc n) f c h = refl

series_times : (d : ℕ) (rs : List Record) (i : ℕ) {b c : List ℕ} {os : List Done} → Stands d rs b → Series b os c
    → mult i (map ident_of (held_by d os rs)) ≡ times_after i os (mult i (map ident_of rs))
unfolding held_by times_after
series_times d rs i s end = refl
series_times d rs i {b = b} s (next {m = m} {o = o} {os = os} h t) =
    series_times d (held_after d o rs) i (act_stands d rs b s o.act o.code o.answer m h) t
    ∙ ap (times_after i os) (act_times d rs b s i o.act o.code o.answer m h)

module _ (b : List ℕ) (d : ℕ) (lent : Permitted (length b)) (low : 1 ≤ d) (high : d ≤ 16) where
  pub series_identifiers : {os : List Done} {c : List ℕ} → Series (new_index b d) os c → (i : ℕ) → live_times c i ≡ times_after i os 0
  unfolding mult
  series_identifiers h i =
      ap (λ (xs : List Record). mult i (map ident_of xs)) (series b d lent low high h).holds ∙ series_times d [] i (new_stands b d lent low high) h
