-- The run stays within the program's buffers, and what its lines print stands in the output buffer or was handed over.
use Rattle.std.proofs.Common.{◌≡◌, refl, sym, ap, ◌∙◌, subst, ◌⊎◌, inl, inr, true, false, List, [], ◌++◌, append-nil, ℕ, suc, ◌+◌, ◌-◌, ◌≤◌, ◌<◌, arith, length, take, drop}
use Rattle.std.proofs.Math.Seq.{drop-length}
use Rattle.lists.specs.Basics.{if}
use Rattle.lists.specs.Tests.{false_true, by_cases}
use Rattle.acts_fields.specs.Bytes.{Written}
use Rattle.acts_output.specs.Puts.{most_printed}
use Rattle.acts_buffer.specs.Room.{Flushed}
use Rattle.acts_step.specs.Advances.{Ready, Closes, Takes, Advances, Hands, adds, flush, both, Fresh}
use Rattle.acts_step.specs.Advances as step
use Rattle.acts_step.specs.Texts.{Prints}
use Rattle.acts_buffer.specs.declared.Progress.{Progress}
use Rattle.acts_output.proofs.PutLaws.{written_then}
use Rattle.acts_step.proofs.AdvanceLaws.{advances_none, advances_then, takes_advances, written_none, hands_none, hands_more}
use Rattle.acts_step.proofs.PrintLaws.{text_prints, text_ends}
use Rattle.acts_buffer.specs.Room.{Open, Full, Cleared, roomy, flushed, broken}
use Rattle.acts.specs.Running.{Fits, Ran, Through, Stopped, UsedUp, Taken, Closed, stays, closed, fails, early, late, Printed, Whole}

-- ---- THE LINES OF A CHUNK

-- what holds between them; t₀ is the progress before the first
pub record Chunked (index₀ held₀ chunk out₀ : List ℕ) (t₀ : Progress) (index held out : List ℕ) (t : Progress) : Type 0 where
  pub text : List ℕ
  pub advance : Advances index₀ held₀ (drop t₀.at chunk) t₀ index held (drop t.at chunk) t text
  pub written : Written out₀ out t₀.end t.end text
  pub moved : (t ≡ t₀) ⊎ (t₀.at < t.at)
  pub within : t.at ≤ length chunk
  pub fits : Fits index held out t
  pub pages : length index ≡ length index₀
  pub lines : length held ≡ length held₀
  pub space : length out ≡ length out₀

pub chunk_start : (index held chunk out : List ℕ) (t : Progress) → Fits index held out t → t.at ≤ length chunk → Chunked index held chunk out t index held out t
chunk_start index held chunk out t f w = record {
  text = [];
  advance = advances_none index held (drop t.at chunk) t t refl refl refl refl;
  written = written_none out out t.end t.end refl refl;
  moved = inl refl;
  within = w;
  fits = f;
  pages = refl;
  lines = refl;
  space = refl;
}

farther : (t₀ t : Progress) (n : ℕ) → (t ≡ t₀) ⊎ (t₀.at < t.at) → t.at < n → t₀.at < n
farther t₀ t n (inl e) h = let a : t.at ≡ t₀.at = ap (λ (x : Progress). x.at) e in omega arith
farther t₀ t n (inr e) h = omega arith

pub chunk_turn : (index₀ held₀ chunk out₀ : List ℕ) (t₀ : Progress) (index held out index' held' out' : List ℕ) (t r : Progress) → Chunked index₀ held₀ chunk out₀ t₀ index held out t
    → t.going ≡ true → t.at < length chunk → Open (length out) t → length index' ≡ length index → length held' ≡ length held → length out' ≡ length out
    → Takes index held chunk out t index' held' out' r → Chunked index₀ held₀ chunk out₀ t₀ index' held' out' r
chunk_turn index₀ held₀ chunk out₀ t₀ index held out index' held' out' t r w on h o a b c u =
    let z = takes_advances index held chunk out t on index' held' out' r u in
    let l = w.fits.line in let m = w.fits.most in let p = w.fits.space in let q = w.space in let e = u.room in let g = o.room in
    record {
      text = w.text ++ z.text;
      advance = advances_then index₀ held₀ (drop t₀.at chunk) t₀ index held (drop t.at chunk) t index' held' (drop r.at chunk) r w.text z.text w.advance z.advance;
      written = written_then out₀ out out' t₀.end t.end r.end w.text z.text (omega arith) (omega arith) q w.written z.written;
      moved = inr (farther t₀ t r.at w.moved (u.onward h));
      within = u.within.at;
      fits = record { pages = a ∙ w.fits.pages; line = omega arith; few = u.within.few; space = omega arith; most = omega arith };
      pages = a ∙ w.pages;
      lines = b ∙ w.lines;
      space = c ∙ q;
    }

-- why no more lines are done
abbrev pub Why : List ℕ → List ℕ → Progress → Type 0
Why chunk out t = (t.going ≡ false) ⊎ ((length chunk ≤ t.at) ⊎ Full (length out) t)

why_stops : (chunk out : List ℕ) (t : Progress) → t.at ≤ length chunk → Why chunk out t → t.going ≡ true → (t.at ≡ length chunk) ⊎ Full (length out) t
why_stops chunk out t w (inl e) g = false_true (sym e ∙ g)
why_stops chunk out t w (inr (inl e)) g = inl (omega arith)
why_stops chunk out t w (inr (inr e)) g = inr e

none_done : {P : Type 0} (chunk out : List ℕ) (t : Progress) → Why chunk out t → t.going ≡ true → t.at < length chunk → Open (length out) t → P
none_done chunk out t (inl e) g h o = false_true (sym e ∙ g)
none_done chunk out t (inr (inl e)) g h o = absurd (omega arith)
none_done chunk out t (inr (inr (inl e))) g h o = let r = o.room in absurd (omega arith)
none_done chunk out t (inr (inr (inr e))) g h o = let r = o.numbers in absurd (omega arith)

some_done : (chunk out : List ℕ) (s t : Progress) → Why chunk out t → (t ≡ s) ⊎ (s.at < t.at) → s.going ≡ true → s.at < length chunk → Open (length out) s → s.at < t.at
some_done chunk out s t y (inr e) g h o = e
some_done chunk out s t y (inl e) g h o = none_done chunk out s (subst (Why chunk out) e y) g h o

pub chunk_done : (index₀ held₀ chunk out₀ : List ℕ) (s : Progress) (index held out : List ℕ) (t : Progress) → Why chunk out t
    → Chunked index₀ held₀ chunk out₀ s index held out t → Ran index₀ held₀ chunk out₀ s index held out t
chunk_done index₀ held₀ chunk out₀ s index held out t y w = record {
  text = w.text;
  advance = w.advance;
  written = w.written;
  stops = why_stops chunk out t w.within y;
  onward = λ g h o. some_done chunk out s t y w.moved g h (subst (λ (x : ℕ). Open x s) (sym w.space) o);
  within = w.within;
  fits = w.fits;
}

-- ---- ROOM FOR A LINE

-- a run that ends there had no room or no number
cleared_full : {out : List ℕ} {s t : Progress} → Cleared out s t → s.going ≡ true → t.going ≡ false → Full (length out) s × Flushed s t
cleared_full (roomy o e) g h = false_true (sym h ∙ ap (λ (x : Progress). x.going) e ∙ g)
cleared_full (flushed n f o) g h = (inl n, f)
cleared_full (broken n f e) g h = (inr n, f)

pub cleared_open : {out : List ℕ} {s t : Progress} → Cleared out s t → t.going ≡ true → Open (length out) t
cleared_open {out = out} (roomy o e) h = subst (Open (length out)) (sym e) o
cleared_open (flushed n f o) h = o
cleared_open (broken n f e) h = false_true (sym e ∙ h)

pub cleared_same : {out : List ℕ} {s t : Progress} → Cleared out s t → (t.held ≡ s.held) × ((t.at ≡ s.at) × (t.end ≤ s.end))
cleared_same {s = s} {t = t} (roomy o e) = let z : t.end ≡ s.end = ap (λ (x : Progress). x.end) e in (ap (λ (x : Progress). x.held) e, (ap (λ (x : Progress). x.at) e, omega arith))
cleared_same (flushed n f o) = let z = f.empty in (f.held, (f.at, omega arith))
cleared_same (broken n f e) = let z = f.empty in (f.held, (f.at, omega arith))

pub cleared_hands : (b held out i : List ℕ) (s t : Progress) → Cleared out s t → s.end ≤ length out → s.going ≡ true → t.going ≡ true → (w : List ℕ) × Hands b held out i s b held out i t w
cleared_hands b held out i s t (roomy o e) fit g h = ([], subst (λ (x : Progress). Hands b held out i s b held out i x []) (sym e) (hands_none b held out i s s fit refl refl refl refl refl))
cleared_hands b held out i s t (flushed n f o) fit g h = (take s.end out, flush n f (h ∙ sym g))
cleared_hands b held out i s t (broken n f e) fit g h = false_true (sym e ∙ h)

pub cleared_fits : {index held out : List ℕ} {t u : Progress} → Fits index held out t → Cleared out t u → Fits index held out u
cleared_fits f k =
    let same = cleared_same k in let h = same.0 in let e = same.1.1 in let p = f.few in let q = f.space in
    record { pages = f.pages; line = f.line; few = omega arith; space = omega arith; most = f.most }

stopped_at : {b held out i : List ℕ} {s : Progress} {index held' out' j : List ℕ} {t u : Progress} {w : List ℕ} → Hands b held out i s index held' out' j t w → t.going ≡ true
    → Cleared out' t u → u.going ≡ false → Stopped b held out i s index held' out' u
stopped_at {j = j} {t = t} {w = w} h g k e =
    let z = cleared_full k g e in
    record { at = t; left = j; handed = w; hands = h; goes = g; full = z.0; empties = z.1; stops = e }

-- ---- ALL OF A CHUNK

pub record Uses (index₀ held₀ chunk out₀ : List ℕ) (t₀ : Progress) (index held out : List ℕ) (t : Progress) : Type 0 where
  pub handed : List ℕ
  pub hands : Hands index₀ held₀ out₀ chunk t₀ index held out (drop t.at chunk) t handed
  pub within : t.at ≤ length chunk
  pub fits : Fits index held out t
  pub pages : length index ≡ length index₀
  pub lines : length held ≡ length held₀
  pub space : length out ≡ length out₀

-- what is left to do
abbrev pub left : List ℕ → Progress → ℕ
left chunk t = if t.going (suc (length chunk - t.at)) 0

module _ (index held chunk out : List ℕ) (s t : Progress) (h : t.held ≡ s.held) (e : t.end ≡ s.end) where
  pub use_start : Fits index held out s → t.at ≡ 0 → Uses index held chunk out t index held out t
  use_start f a =
      let p = f.few in let q = f.space in
      let fit : t.end ≤ length out = omega arith in
      record {
        handed = [];
        hands = subst (λ (x : ℕ). Hands index held out chunk t index held out (drop x chunk) t []) (sym a) (hands_none index held out chunk t t fit refl refl refl refl refl);
        within = omega arith;
        fits = record { pages = f.pages; line = f.line; few = omega arith; space = fit; most = f.most };
        pages = refl;
        lines = refl;
        space = refl;
      }

  pub use_done : (index' held' out' : List ℕ) (r : Progress) → s.end ≤ length out → t.d ≡ s.d → t.number ≡ s.number → t.going ≡ s.going → (r.going ≡ true → length chunk ≤ r.at)
      → Uses index held chunk out t index' held' out' r → UsedUp index held chunk out s index' held' out' r
  use_done index' held' out' r fit d n g o w = record {
    through = inl (record {
      left = drop r.at chunk;
      handed = [] ++ w.handed;
      hands = both (hands_none index held out chunk s t fit h d n g e) w.hands;
      all = λ k. let p = o k in let q = w.within in let z : r.at ≡ length chunk = omega arith in ap (λ (x : ℕ). drop x chunk) z ∙ drop-length chunk;
    });
    fits = w.fits;
  }

  pub use_broken : (index' held' out' : List ℕ) (r u : Progress) → s.end ≤ length out → t.d ≡ s.d → t.number ≡ s.number → t.going ≡ s.going
      → Uses index held chunk out t index' held' out' r → r.going ≡ true → Cleared out' r u → u.going ≡ false → UsedUp index held chunk out s index' held' out' u
  use_broken index' held' out' r u fit d n g w on k z = record {
    through = inr (stopped_at (both (hands_none index held out chunk s t fit h d n g e) w.hands) on k z);
    fits = cleared_fits w.fits k;
  }

pub use_turn : (index₀ held₀ chunk out₀ : List ℕ) (t₀ : Progress) (index held out : List ℕ) (t u : Progress) (index' held' out' : List ℕ) (r : Progress)
    → Uses index₀ held₀ chunk out₀ t₀ index held out t → t.going ≡ true → Cleared out t u → u.going ≡ true → length index' ≡ length index → length held' ≡ length held
    → length out' ≡ length out → Ran index held chunk out u index' held' out' r → Uses index₀ held₀ chunk out₀ t₀ index' held' out' r
use_turn index₀ held₀ chunk out₀ t₀ index held out t u index' held' out' r w on k go a b c v =
    let same = cleared_same k in
    let p = w.fits.space in let q = same.1.1 in
    let fit : u.end ≤ length out = omega arith in
    let room = cleared_hands index held out (drop t.at chunk) t u k p on go in
    let run : Advances index held (drop t.at chunk) u index' held' (drop r.at chunk) r v.text =
    subst (λ (x : ℕ). Advances index held (drop x chunk) u index' held' (drop r.at chunk) r v.text) same.1.0 v.advance in
    record {
      handed = w.handed ++ (room.0 ++ []);
      hands = both w.hands (both room.1 (adds run fit v.written));
      within = v.within;
      fits = v.fits;
      pages = a ∙ w.pages;
      lines = b ∙ w.lines;
      space = c ∙ w.space;
    }

pub use_less : (chunk out : List ℕ) (t u r : Progress) → t.going ≡ true → t.at < length chunk → Cleared out t u → u.going ≡ true
    → (u.going ≡ true → u.at < length chunk → Open (length out) u → u.at < r.at) → left chunk r < left chunk t
use_less chunk out t u r on h k go o =
    let a = (cleared_same k).1.0 in
    let g : t.at < r.at = let b : u.at < length chunk = omega arith in let z = o go b (cleared_open k go) in omega arith in
    by_cases r.going (λ e. rw (e, on) (omega arith)) (λ e. rw (e, on) (omega arith))

pub use_needs : {index held out : List ℕ} (n : ℕ) (t u : Progress) → Fits index held out t → t.at ≤ n → Cleared out t u → Fits index held out u × (u.at ≤ n)
use_needs n t u f w k = let a = (cleared_same k).1.0 in (cleared_fits f k, omega arith)

-- ---- THE CHUNKS OF AN INPUT

pub record Reads (index₀ held₀ chunk₀ out₀ : List ℕ) (t₀ : Progress) (index held chunk out : List ℕ) (t : Progress) : Type 0 where
  pub taken : Taken index₀ held₀ out₀ t₀ index held out t
  pub pages : length index ≡ length index₀
  pub lines : length held ≡ length held₀
  pub chunks : length chunk ≡ length chunk₀
  pub space : length out ≡ length out₀

pub input_start : (index held chunk out : List ℕ) (t : Progress) → Fits index held out t → Reads index held chunk out t index held chunk out t
input_start index held chunk out t f = record {
  taken = record { input = []; through = inl (record { left = []; handed = []; hands = hands_none index held out [] t t f.space refl refl refl refl refl; all = λ e. refl }); fits = f };
  pages = refl;
  lines = refl;
  chunks = refl;
  space = refl;
}

-- with more input j behind what is done
through_more : {b held out i : List ℕ} {s : Progress} {m held₁ out₁ : List ℕ} {t : Progress} (j : List ℕ) (p : Through b held out i s m held₁ out₁ t) → t.going ≡ true
    → Hands b held out (i ++ j) s m held₁ out₁ j t p.handed
through_more {b = b} {held = held} {out = out} {i = i} {s = s} {m = m} {held₁ = held₁} {out₁ = out₁} {t = t} j p g =
    subst (λ (x : List ℕ). Hands b held out (i ++ j) s m held₁ out₁ (x ++ j) t p.handed) (p.all g) (hands_more j p.hands)

takes_on : {b held out i : List ℕ} {s : Progress} {m held₁ out₁ j : List ℕ} {t : Progress} {c held₂ out₂ : List ℕ} {r : Progress}
    → Through b held out i s m held₁ out₁ t ⊎ Stopped b held out i s m held₁ out₁ t → t.going ≡ true → Through m held₁ out₁ j t c held₂ out₂ r ⊎ Stopped m held₁ out₁ j t c held₂ out₂ r
    → Through b held out (i ++ j) s c held₂ out₂ r ⊎ Stopped b held out (i ++ j) s c held₂ out₂ r
takes_on (inr p) g q = false_true (sym p.stops ∙ g)
takes_on {j = j} (inl p) g (inl q) = inl (record { left = q.left; handed = p.handed ++ q.handed; hands = both (through_more j p g) q.hands; all = q.all })
takes_on {j = j} (inl p) g (inr q) = inr (record {
  at = q.at;
  left = q.left;
  handed = p.handed ++ q.handed;
  hands = both (through_more j p g) q.hands;
  goes = q.goes;
  full = q.full;
  empties = q.empties;
  stops = q.stops;
})

pub input_turn : (index₀ held₀ chunk₀ out₀ : List ℕ) (t₀ : Progress) (index held chunk out index' held' chunk' part out' : List ℕ) (t r : Progress)
    → Reads index₀ held₀ chunk₀ out₀ t₀ index held chunk out t → t.going ≡ true → length index' ≡ length index → length held' ≡ length held → length chunk' ≡ length chunk
    → length out' ≡ length out → UsedUp index held part out t index' held' out' r → Reads index₀ held₀ chunk₀ out₀ t₀ index' held' chunk' out' r
input_turn index₀ held₀ chunk₀ out₀ t₀ index held chunk out index' held' chunk' part out' t r w g a b c d f = record {
  taken = record { input = w.taken.input ++ part; through = takes_on w.taken.through g f.through; fits = f.fits };
  pages = a ∙ w.pages;
  lines = b ∙ w.lines;
  chunks = c ∙ w.chunks;
  space = d ∙ w.space;
}

-- ---- A WHOLE RUN

pub close_needs : {index held out : List ℕ} (s t : Progress) → Fits index held out s → Cleared out s t → t.going ≡ true → Ready index out t × (t.held ≤ length held)
close_needs s t f k h =
    let o = cleared_open k h in let z = cleared_fits f k in let few = z.few in let line = z.line in
    (record { pages = f.pages; room = o.room; numbers = o.numbers }, omega arith)

closes_room : {b held out : List ℕ} {s : Progress} {c out' : List ℕ} {r : Progress} → Closes b held out s c out' r → r.end ≤ s.end + most_printed
closes_room {s = s} {r = r} (step.closed n z e f g) = let h : r.end ≡ s.end = ap (λ (x : Progress). x.end) e in omega arith
closes_room (step.last w e) = e.done.room

closed_space : {b held out : List ℕ} {s : Progress} {c out' : List ℕ} {r : Progress} → s.end ≤ length out → length out' ≡ length out → Closed b held out s c out' r → r.end ≤ length out'
closed_space {s = s} {r = r} fit len (stays g a b e) = let h : r.end ≡ s.end = ap (λ (x : Progress). x.end) e in omega arith
closed_space fit len (closed t g k h w) = let o = (cleared_open k h).room in let y = closes_room w in omega arith
closed_space fit len (fails g k h a b) = let z = (cleared_same k).1.1 in omega arith

module _ {b held out i : List ℕ} {s : Progress} {m held₁ out₁ : List ℕ} {t : Progress} {c out₂ : List ℕ} {r : Progress} where
  through_closed : Fresh s → Fits m held₁ out₁ t → Through b held out i s m held₁ out₁ t → Closed m held₁ out₁ t c out₂ r
      → Printed b held out i s c out₂ r ⊎ Stopped b held out i s c held₁ out₂ r
  through_closed f y p (stays g x z e) = rw (x, z, e) (inl (record {
    handed = p.handed;
    ends = early p.hands g;
    prints = subst (λ (j : List ℕ). Prints b j m (p.handed ++ take t.end out₁)) (append-nil i) (text_ends b held out i s m held₁ out₁ p.left t p.handed f p.hands g []);
  }))
  through_closed f y p (closed u g k h w) =
      let room = cleared_hands m held₁ out₁ [] t u k y.space g h in
      let all : Hands b held out i s m held₁ out₁ [] t p.handed = subst (λ (x : List ℕ). Hands b held out i s m held₁ out₁ x t p.handed) (p.all g) p.hands in
      let z = cleared_fits y k in let few = z.few in let line = z.line in
      let fit : u.held ≤ length held₁ = omega arith in
      inl (record {
        handed = p.handed ++ room.0;
        ends = late (both all room.1) h w;
        prints = text_prints b held out i s m held₁ out₁ u (p.handed ++ room.0) f (both all room.1) h c out₂ r fit z.space w;
      })
  through_closed f y p (fails g k h x z) = rw (x, z) (inr (stopped_at p.hands g k h))

  stopped_closed : Stopped b held out i s m held₁ out₁ t → Closed m held₁ out₁ t c out₂ r → Stopped b held out i s c held₁ out₂ r
  stopped_closed y (stays g x z e) = rw (x, z, e) y
  stopped_closed y (closed u g k h w) = false_true (sym y.stops ∙ g)
  stopped_closed y (fails g k h x z) = false_true (sym y.stops ∙ g)

  either : Fresh s → Fits m held₁ out₁ t → Through b held out i s m held₁ out₁ t ⊎ Stopped b held out i s m held₁ out₁ t → Closed m held₁ out₁ t c out₂ r
      → Printed b held out i s c out₂ r ⊎ Stopped b held out i s c held₁ out₂ r
  either f y (inl p) k = through_closed f y p k
  either f y (inr p) k = inr (stopped_closed p k)

pub whole_run : (b held out : List ℕ) (s : Progress) (m held₁ out₁ : List ℕ) (t : Progress) (c out₂ : List ℕ) (r : Progress) → Fresh s → length out₂ ≡ length out₁
    → Taken b held out s m held₁ out₁ t → Closed m held₁ out₁ t c out₂ r → Whole b held out c out₂ r
whole_run b held out s m held₁ out₁ t c out₂ r f len p k = record {
  input = p.input;
  start = s;
  fresh = f;
  line = held₁;
  ends = either f p.fits p.through k;
  space = closed_space p.fits.space len k;
}
