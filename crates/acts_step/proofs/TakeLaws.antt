-- How a run of the program goes on, from what its functions do.
use Rattle.std.proofs.Common.{◌≡◌, refl, sym, ap, ◌∙◌, ◌≢◌, inl, inr, Bool, true, false, List, [], ◌∷◌, ℕ, ◌+◌, ◌-◌, ◌≤◌, ◌<◌, min, length, take, drop, Option, is_some, unwrap_or, arith, length-take}
use Rattle.acts_text.specs.declared.Fed.{Fed}
use Rattle.acts_text.specs.Input.{Feeds, piece, ended, current}
use Rattle.acts_text.proofs.InputLaws.{feeds_line, feeds_on}
use Rattle.acts_output.specs.Puts.{most_printed, Puts}
use Rattle.acts_step.specs.Steps.{Steps, Begins}
use Rattle.acts_step.specs.Advances.{Does, first, later, Ended, Within, Takes}
use Rattle.acts_buffer.specs.declared.Progress.{Progress}

-- a text that says P says Q, where P gives Q
puts_map : {P Q : List ℕ → Type 0} → ((t : List ℕ) → P t → Q t) → (m : ℕ) (out out' : List ℕ) (at r : ℕ) → Puts P m out out' at r → Puts Q m out out' at r
puts_map f m out out' at r w = record { text = w.text; says = f w.text w.says; written = w.written; room = w.room }

module _ (b l out c out' : List ℕ) (s : Progress) where
  pub ended_first : (o : Option ℕ) (d e : ℕ) (going : Bool) → s.number ≡ 1 → going ≡ is_some o → d ≡ unwrap_or o 0 → Puts (Begins b l o c) most_printed out out' s.end e
      → Ended b l out s c out' (record { going = going; d = d; number = 2; held = 0; at = s.at; end = e })
  ended_first o d e going z g f w = record {
    done = puts_map {P = Begins b l o c} {Q = Does s.d s.number b l s.going d going c} (λ t x. first z x g f) most_printed out out' s.end e w;
    number = omega arith;
    held = refl;
  }

  pub ended_later : (e : ℕ) → s.number ≢ 1 → Puts (Steps s.d b s.number l c) most_printed out out' s.end e
      → Ended b l out s c out' (record { going = s.going; d = s.d; number = s.number + 1; held = 0; at = s.at; end = e })
  ended_later e z w = record {
    done = puts_map {P = Steps s.d b s.number l c} {Q = Does s.d s.number b l s.going s.d s.going c} (λ t x. later z refl x refl) most_printed out out' s.end e w;
    number = refl;
    held = refl;
  }

-- the progress once a chunk's bytes are taken
abbrev pub fed_to : Progress → Fed → Progress
fed_to s f = record { going = s.going; d = s.d; number = s.number; held = f.held; at = f.at; end = s.end }

held_few : (h n x y : ℕ) → n ≤ 257 → h ≡ n + y → y ≡ min (257 - n) x → h ≤ 257
held_few h n x y a e f = omega arith

pub fed_few : (held chunk : List ℕ) (s : Progress) → Within held chunk s → (held' : List ℕ) (f : Fed) → Feeds held held' s.held chunk s.at f → f.held ≤ 257
fed_few held chunk s w held' f fed =
    held_few f.held s.held (length (piece chunk s.at)) (length (take (257 - s.held) (piece chunk s.at))) w.few
    fed.bytes.after (length-take (257 - s.held) (piece chunk s.at))

module _ (b held chunk out : List ℕ) (s : Progress) (w : Within held chunk s) (held' : List ℕ) (f : Fed) (fed : Feeds held held' s.held chunk s.at f) where
  module _ (same : length held' ≡ length held) where
    fed_within : (r : Progress) → r.held ≤ 257 → r.at ≡ f.at → Within held' chunk r
    fed_within r few at = let n = fed.next in let l = w.line in record { line = omega arith; few = few; at = omega arith }

    fed_onward : (r : Progress) → r.at ≡ f.at → s.at < length chunk → s.at < r.at
    fed_onward r at h = let n = fed.next in omega arith

    pub takes_on : f.ended ≡ false → Takes b held chunk out s b held' out (fed_to s f)
    takes_on t =
        let g = feeds_on held held' s.held chunk s.at f w.line w.few w.at fed t in
        record {
          turn = inl (record { none = g.0; kept = g.1; used = g.2; stands = (refl, refl, refl, refl); same = (refl, refl) });
          within = fed_within (fed_to s f) (fed_few held chunk s w held' f fed) refl;
          onward = fed_onward (fed_to s f) refl;
          room = omega arith;
        }

    pub takes_line : (c out' : List ℕ) (r : Progress) → f.ended ≡ true → Ended b (take f.held held') out (fed_to s f) c out' r → r.at ≡ f.at → Takes b held chunk out s c held' out' r
    takes_line c out' r t e at =
        let g = feeds_line held held' s.held chunk s.at f w.line w.few w.at fed t in
        let z = e.held in
        record {
          turn = inr (record {
            line = take f.held held';
            ends = g.0 ∙ ap (λ (x : ℕ). take f.held held' ∷ ended [] (drop x chunk)) (sym at);
            rest = g.1 ∙ ap (λ (x : ℕ). current [] (drop x chunk)) (sym at);
            done = record { done = e.done; number = e.number; held = e.held };
          });
          within = fed_within r (omega arith) at;
          onward = fed_onward r at;
          room = e.done.room;
        }
