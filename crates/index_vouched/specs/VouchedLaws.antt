-- On a sound index, where what the caller vouches for is true, a vouched insert and a vouched delete give the act's number and leave the act's
-- bytes; and a delete that is not refused is one that the caller vouches for truly.
use Rattle.std.specs.Prelude.{◌≡◌, refl, true, List, [], ◌∷◌, map, ℕ, ◌≤◌, ◌<◌, ℤ, length, take}
use Rattle.std.proofs.Common.{sym, ap, ◌∙◌, subst, inl, inr, arith, length-take}
use Rattle.lists.specs.Tests.{decide}
use Rattle.geometry.specs.Stored.{point_of, stored, slots_of, in_range}
use Rattle.geometry.proofs.StoredLaws.{length_point, in_range_law, slots_back, slots_own, slots_point, point_ranges}
use Rattle.pagestore_page.specs.Fits.{RecordFits}
use Rattle.pagestore.specs.Store.{view_of}
use Rattle.tree_model.specs.Sound.{RecordOk, SoundIndex}
use Rattle.tree_core.specs.Deletion.{delete_from}
use Rattle.tree_core.specs.Lookup.{find_in}
use Rattle.tree_laws.specs.LookupPromises.{find_ident}
use Rattle.tree_laws.specs.KeyedPromises.{Twin, holds_found, found_holds, found_all, found_fits, delete_twin}
use Rattle.index_refusals.specs.declared.Epoch.{Epoch}
use Rattle.index_refusals.specs.Refusals.{First, numbers, live_times, already_live, not_live, insert_rules, delete_rules}
use Rattle.index_refusals.specs.RefusalLaws.{first_one, all_hold, none_fails, put_in, live_some, delete_passes}
use Rattle.index_refusals.specs.Trusted.{epoch_rules, room_rules}
use Rattle.index_refusals.specs.TrustedLaws.{level_low, suits, not_found, insert_same}
use Rattle.index_vouched.specs.Vouched.{vouched_insert, vouched_delete, record_told, LiveAt}

-- ---- ON A SOUND INDEX

-- an identifier that is not live
pub insert_vouched : (b : List ℕ) → SoundIndex b → (e : Epoch) (p : List ℤ) → live_times b e.id ≡ 0 → (n : ℕ) → First (vouched_insert b e p) n → First (insert_rules b e p) n
insert_vouched b s e p z n f =
    insert_same b s e p n (put_in (epoch_rules b e p) (room_rules b e p) (already_live, (find_in b e.id).id ≡ 0) n (λ w. not_found b s e.id z) f)

module _ (b : List ℕ) (s : SoundIndex b) (i : ℕ) (p : List ℤ) where
  -- the record of a live identifier with its point
  module _ (h : LiveAt b i p) where
    abbrev slots : List ℕ
    slots = take (view_of b).d (find_in b i).coords

    fits : RecordFits (find_in b i)
    fits = found_fits b i s h.0

    ok : RecordOk (view_of b).d (find_in b i)
    ok = found_all b i s h.0 (RecordOk (view_of b).d) s.ranges

    as_many : length p ≡ (view_of b).d
    as_many =
        let e : length (point_of slots) ≡ length slots = length_point slots in
        let g : length (point_of slots) ≡ length p = ap (λ (q : List ℤ). length q) h.1 in
        let top : (view_of b).d ≤ 16 = s.d.1 in
        omega (arith, fits.slots, length-take (view_of b).d (find_in b i).coords)

    ranges : in_range p ≡ true
    ranges = subst (λ (q : List ℤ). in_range q ≡ true) h.1 (point_ranges ok.coords)

    twin : Twin (view_of b).d (record_told i p) (find_in b i)
    twin =
        let own : take (view_of b).d (slots_of p) ≡ map stored p = subst (λ (n : ℕ). take n (slots_of p) ≡ map stored p) as_many (slots_own p) in
        (find_ident b i s h.0, sym (slots_point slots) ∙ ap (map stored) h.1 ∙ sym own)

    -- its vouched delete is not refused
    carried : First (vouched_delete b i p) 0
    unfolding view_of
    carried = none_fails (vouched_delete b i p) (s.lent, (level_low b s, (suits b s p as_many, (ranges, (live_some b i s h.0, (found_holds b s (record_told i p) h.0 twin, tt))))))

    pub delete_vouched : (n : ℕ) → First (vouched_delete b i p) n → First (delete_rules b i) n
    delete_vouched n f = subst (First (delete_rules b i)) (first_one (vouched_delete b i p) 0 n carried f) (delete_passes b i s h.0)

    -- and the two leave the same bytes
    pub deleted_vouched : delete_from b (record_told i p) ≡ delete_from b (find_in b i)
    deleted_vouched = sym (delete_twin b (record_told i p) (find_in b i) twin)

  -- a vouched delete that is carried out has found its record live
  pub vouched_live : First (vouched_delete b i p) 0 → LiveAt b i p
  vouched_live f =
      let w = all_hold (vouched_delete b i p) refl f in
      let e : length p ≡ (view_of b).d = w.1.1.0.2 in
      let one : 1 ≤ i = w.1.1.1.1.0 in
      let t : Twin (view_of b).d (record_told i p) (find_in b i) = holds_found b s (record_told i p) w.1.1.1.1.1.0 in
      let is_live : 0 < live_times b i = decide (live_times b i) 0 (λ z. let y : i ≡ 0 = sym t.0 ∙ not_found b s i z in absurd (omega (arith, y))) (λ g. omega (arith, g)) in
      let back : point_of (take (view_of b).d (slots_of p)) ≡ p = subst (λ (n : ℕ). point_of (take n (slots_of p)) ≡ p) e (slots_back p (in_range_law p w.1.1.1.0)) in
      (is_live, ap point_of t.1 ∙ back)

-- ---- THE NUMBERS

-- those of insert but for 6, and those of delete with 3 and 4, since it is told a point
pub vouched_orders : (b : List ℕ) (e : Epoch) (i : ℕ) (p : List ℤ)
    → (numbers (vouched_insert b e p) ≡ 1 ∷ 2 ∷ 3 ∷ 4 ∷ 5 ∷ 15 ∷ 8 ∷ 9 ∷ [])
    × (numbers (vouched_delete b i p) ≡ 1 ∷ 2 ∷ 3 ∷ 4 ∷ 5 ∷ 7 ∷ [])
vouched_orders b e i p = (refl, refl)

-- where the number is not 0, it is one of 1 to 5 or 7
pub vouched_number : (b : List ℕ) (i : ℕ) (p : List ℤ) (n : ℕ) → First (vouched_delete b i p) n → n ≤ not_live
vouched_number b i p n (inl e) = omega (arith, e.0)
vouched_number b i p n (inr (a, inl e)) = omega (arith, e.0)
vouched_number b i p n (inr (a, inr (c, inl e))) = omega (arith, e.0)
vouched_number b i p n (inr (a, inr (c, inr (d, inl e)))) = omega (arith, e.0)
vouched_number b i p n (inr (a, inr (c, inr (d, inr (f, inl e))))) = omega (arith, e.0)
vouched_number b i p n (inr (a, inr (c, inr (d, inr (f, inr (g, inl e)))))) = omega (arith, e.0)
vouched_number b i p n (inr (a, inr (c, inr (d, inr (f, inr (g, inr e)))))) = omega (arith, e.1)
