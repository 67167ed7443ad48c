-- Q-7, evening out never needs a page. On a sound index the delete of a live identifier is carried out, however many pages are free, and takes none
-- of them. 12, the number that 01 gave to a delete that finds no page, is given by nothing.
use Rattle.std.specs.Prelude.{◌≡◌, refl, false, List, ◌∷◌, ℕ, ◌+◌, ◌*◌, ◌/◌, ◌%◌, ◌≤◌, ◌<◌, ℤ, length, get_or}
use Rattle.std.proofs.Common.{sym, ◌∙◌, subst, arith}
use Rattle.std.proofs.Math.ListN.{get_or-eq_default}
use Rattle.lists.specs.Counts.{mult, mult_more, absent}
use Rattle.lists.specs.Tests.{by_cases}
use Rattle.pagestore.specs.Store.{pages_in, in_range, view_of}
use Rattle.pagestore.specs.Store.RangeLaws.{range_past}
use Rattle.pagestore.specs.Store.PageLaws.{SamePage, page_bytes}
use Rattle.tree_model.specs.Sound.{Permitted, SoundIndex}
use Rattle.tree_laws.specs.Wholes.{tree_pages}
use Rattle.tree_laws.specs.DeletePromises.{delete_ident, pages_given, delete_length, delete_pages, delete_others, delete_unused}
use Rattle.tree_laws.proofs.SpacePromises.{pages_given_law}
use Rattle.search_model.specs.Visit.{Answer as Found}
use Rattle.search_model.specs.Questions.{AgreeBut}
use Rattle.index_query.specs.Asking.{Question}
use Rattle.index_refusals.specs.declared.Epoch.{Epoch}
use Rattle.index_refusals.specs.Refusals.{Rule, numbers, live_times, make_rules, insert_rules, delete_rules, question_rules, check_rules}
use Rattle.index_refusals.specs.RefusalLaws.{first_one, all_hold, not_given, delete_passes}
use Rattle.index_refusals.specs.Outcomes.{nothing_found}
use Rattle.index_refusals.specs.Trusted.{trusted_insert, trusted_delete, trusted_question}
use Rattle.index_vouched.specs.Vouched.{vouched_insert, vouched_delete}
use Rattle.index.specs.Acts.{delete, does}
use Rattle.index_laws.specs.TrustedActs.{trusted_does}
use Rattle.index_laws.proofs.TrustedActs.{trusted_same}
use Rattle.index_laws.specs.VouchedActs.{vouched_deletes}
use Rattle.index_laws.proofs.VouchedActs.{vouched_delete_same, vouched_delete_true}
use Rattle.index_laws.specs.DeletePages.{TakesNone, Never}

-- an index of a permitted length ends with its last page
past_pages : (b : List ℕ) (q : ℕ) → Permitted (length b) → 0 < q → in_range b q ≡ false → length b ≤ q * 1024
unfolding pages_in
past_pages b q p l h = omega (arith, range_past b q l h, p.low, p.high, p.whole)

-- where each page outside ps is as before, so is each byte that lies in none of them, nor in the header
agree_but : (ps b c : List ℕ) → Permitted (length b) → length c ≡ length b → ((q : ℕ) → mult q ps ≡ 0 → SamePage b c q) → AgreeBut (0 ∷ ps) b c
agree_but ps b c p e same = record { lent = e; bytes = byte }
  where
    byte : (i : ℕ) → mult (i / 1024) (0 ∷ ps) ≡ 0 → get_or c i 0 ≡ get_or b i 0
    byte i z =
        let q = i / 1024 in
        let low : 0 < q = omega (arith, absent q 0 ps z) in
        let at : i ≡ q * 1024 + i % 1024 = omega arith in
        by_cases (in_range b q)
        (λ h. rw at (page_bytes e h (same q (omega (arith, mult_more q 0 ps, z))) (i % 1024) (omega arith)))
        (λ h. let past = past_pages b q p low h in get_or-eq_default c 0 (omega (arith, e)) ∙ sym (get_or-eq_default b 0 (omega arith)))

-- a delete that is carried out, which it is on sound indexes alone, takes no page
pub delete_takes_none : (b : List ℕ) (i : ℕ) (f : Found) (c : List ℕ) → does (delete i) b 0 f c → TakesNone (pages_given b i) b c
unfolding view_of
delete_takes_none b i f c h =
    let w = all_hold (delete_rules b i) refl h.0 in
    let s : SoundIndex b = w.1.0 in
    let l : 0 < live_times b i = w.1.1.1.0 in
    subst (TakesNone (pages_given b i) b) (sym h.1)
    (record {
      behind = delete_pages b i s l;
      unused = delete_unused b i s l;
      tree = λ q. omega (arith, pages_given_law b i s l q);
      others = agree_but (tree_pages b) b (delete_ident b i) s.lent (delete_length b i s l) (delete_others b i s l);
    })

-- nor does one without the check on a sound index, or one that is vouched for
pub trusted_takes_none : (b : List ℕ) (i : ℕ) (f : Found) (c : List ℕ) → SoundIndex b → trusted_does (delete i) b 0 f c → TakesNone (pages_given b i) b c
trusted_takes_none b i f c s h = delete_takes_none b i f c (trusted_same b s (delete i) 0 f c h)

pub vouched_takes_none : (b : List ℕ) (i : ℕ) (p : List ℤ) (c : List ℕ) → SoundIndex b → vouched_deletes b i p 0 c → TakesNone (pages_given b i) b c
vouched_takes_none b i p c s h = delete_takes_none b i nothing_found c (vouched_delete_same b s i p 0 c (vouched_delete_true b s i p 0 c refl h) h)

-- on a sound index every delete of a live identifier is carried out
pub delete_carried_out : (b : List ℕ) (i : ℕ) → SoundIndex b → 0 < live_times b i → (code : ℕ) (f : Found) (c : List ℕ) → does (delete i) b code f c → code ≡ 0
delete_carried_out b i s l code f c h = first_one (delete_rules b i) code 0 h.0 (delete_passes b i s l)

-- ---- NUMBER 12

never : (rules : List Rule) → mult 12 (numbers rules) ≡ 0 → Never 12 rules
never rules z code f = not_given rules 12 code (omega arith) z f

-- no table gives 12: of the acts, of those without the check, and of those that are vouched for. A contract says of each that its number is its table's.
pub never_twelve : (bytes d : ℕ) (b : List ℕ) (x : Epoch) (i : ℕ) (p : List ℤ) (w : Question) (n : ℕ)
    → Never 12 (make_rules bytes d) × Never 12 (insert_rules b x p) × Never 12 (delete_rules b i) × Never 12 (question_rules b w n) × Never 12 (check_rules b)
    × Never 12 (trusted_insert b x p) × Never 12 (trusted_delete b i) × Never 12 (trusted_question b w n)
    × Never 12 (vouched_insert b x p) × Never 12 (vouched_delete b i p)
unfolding mult
never_twelve bytes d b x i p w n = (
  never (make_rules bytes d) refl,
  never (insert_rules b x p) refl,
  never (delete_rules b i) refl,
  never (question_rules b w n) refl,
  never (check_rules b) refl,
  never (trusted_insert b x p) refl,
  never (trusted_delete b i) refl,
  never (trusted_question b w n) refl,
  never (vouched_insert b x p) refl,
  never (vouched_delete b i p) refl,
)
