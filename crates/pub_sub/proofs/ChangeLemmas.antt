-- A change of what is wanted, and its telling, by what became of the state.
use Rattle.std.proofs.Common.{◌≡◌, ◌∙◌, ℕ, Bool, true, false, not, ◌&&◌, List, [], refl, sym, ap, subst}
use Rattle.std.specs.Map.{keys_of}
use Rattle.spec_pattern.specs.PipeStep.{PipeStep}
use Rattle.spec_pattern.specs.TurnList.{End}
use Rattle.spec_pattern.specs.Topics.{Topic, Subscribers}
use Rattle.spec_pattern.specs.Wanted.{Wanted, wants, is_at_limit}
use Rattle.spec_pattern.specs.Subscribing.{Subscriber, Done, Limit, NotSub, is_refused, Tells, SubscribesWhere, UnsubscribesWhere}
use Rattle.spec_pattern.specs.PatternCalls.{Change, Subscribe, Unsubscribe, Changes}
use Rattle.pub_sub.specs.Places.{subs_at}
use Rattle.pub_sub.specs.Followers.{TellsRows, StopsRows}
use Rattle.pub_sub.specs.Subscribing.{SubState, subscriber_at, wanting, wanted_by, may_change, KeepsFollowers, TellsPeers, StopsTelling, ChangesAt, ChangesUntold}

-- a subscription is refused where another topic would be one too many
pub may_subscribe : (v : Wanted) (topic : Topic) → ((wants v topic ≡ false) × (is_at_limit v ≡ true) → ⊥) → may_change Subscribe topic v ≡ true
may_subscribe v topic unlike = by (wants v topic) (is_at_limit v) unlike
  where
    by : (a b : Bool) → ((a ≡ false) × (b ≡ true) → ⊥) → not (not a && b) ≡ true
    by true b unlike = refl
    by false true unlike = absurd (unlike (refl, refl))
    by false false unlike = refl

pub refused_at_limit : (v : Wanted) (topic : Topic) → (wants v topic ≡ false) × (is_at_limit v ≡ true) → is_refused v topic ≡ true
refused_at_limit v topic at = λ j. not (at.0 j) && at.1 j

not_true : (b : Bool) → not b ≡ true → b ≡ false
not_true true e = sym e
not_true false e = refl

-- a change that is made is told
changes-done : (change : Change) (can_write : End → Bool) (topic : Topic) (s : Subscriber) (steps : List PipeStep) (s' : Subscriber) → may_change change topic s.wanted ≡ true
    → Tells can_write (record s { wanted = wanted_by change topic s.wanted }) steps s' → Changes change can_write topic s steps Done s'
changes-done Subscribe can_write topic s steps s' may tells =
    subst (λ b. SubscribesWhere b can_write topic s steps Done s') (sym (not_true (is_refused s.wanted topic) may)) (refl, tells)
changes-done Unsubscribe can_write topic s steps s' may tells =
    subst (λ b. UnsubscribesWhere b can_write topic s steps Done s') (sym may) (refl, tells)

abbrev pub state_of : List ℕ → Wanted → Subscribers ℕ → SubState
state_of ins wanted rows = record { ins = ins; wanted = wanted; followers = rows }

module _ {S : Type 0} (runs : S → List PipeStep → S → Type 0) (ends : ℕ → End) (writable : ℕ → Bool) (old new : S) (s0 s : SubState) (view : s0 ≡ s) where
  -- ---- a change that is made

  module _ (change : Change) (topic : Topic) (wanted : Wanted) (rows : Subscribers ℕ) (made : wanted ≡ wanted_by change topic s0.wanted) (same : rows ≡ s0.followers) (s' : SubState) where
    after_change : state_of s0.ins wanted rows ≡ wanting (wanted_by change topic s.wanted) s
    after_change = (λ j. state_of s0.ins (made j) (same j)) ∙ ap (λ (x : SubState). wanting (wanted_by change topic x.wanted) x) view

    may_still : may_change change topic s0.wanted ≡ true → may_change change topic s.wanted ≡ true
    may_still may = ap (λ (x : SubState). may_change change topic x.wanted) (sym view) ∙ may

    pub ChangesAt-done : may_change change topic s0.wanted ≡ true → TellsPeers runs ends writable old new (state_of s0.ins wanted rows) s'
        → ChangesAt runs ends writable change topic old new s Done s'
    ChangesAt-done may tells =
        let t = subst (λ (x : SubState). TellsPeers runs ends writable old new x s') after_change tells in
        record {
          steps = t.steps;
          runs_are = t.runs_are;
          step = λ can_write are. changes-done change can_write topic (subscriber_at ends s) t.steps (subscriber_at ends s') (may_still may) (t.step can_write are);
        }

    pub ChangesUntold-made : may_change change topic s0.wanted ≡ true → StopsTelling runs ends writable old new (state_of s0.ins wanted rows) s'
        → ChangesUntold runs ends writable change topic old new s s'
    ChangesUntold-made may stops = record {
      made = may_still may;
      stops = subst (λ (x : SubState). StopsTelling runs ends writable old new x s') after_change stops;
    }

    pub KeepsFollowers-made : KeepsFollowers (state_of s0.ins wanted rows) s' → KeepsFollowers s s'
    KeepsFollowers-made keeps =
        let k = subst (λ (x : SubState). KeepsFollowers x s') after_change keeps in
        record { ins_are = k.ins_are; places_are = k.places_are }

  -- ---- a change that is refused

  module _ (topic : Topic) (wanted : Wanted) (same : wanted ≡ s0.wanted) where
    pub unchanged : state_of s0.ins wanted s0.followers ≡ s
    unchanged = (λ j. state_of s0.ins (same j) s0.followers) ∙ view

    pub KeepsFollowers-unchanged : KeepsFollowers s (state_of s0.ins wanted s0.followers)
    KeepsFollowers-unchanged = record { ins_are = ap (λ (x : SubState). x.ins) unchanged; places_are = ap (λ (x : SubState). keys_of x.followers) unchanged }

    pub ChangesAt-limit : is_refused s0.wanted topic ≡ true → runs old [] old
        → ChangesAt runs ends writable Subscribe topic old old s Limit (state_of s0.ins wanted s0.followers)
    ChangesAt-limit refused none = record {
      steps = [];
      runs_are = none;
      step = λ can_write are.
          subst (λ b. SubscribesWhere b can_write topic (subscriber_at ends s) [] Limit (subscriber_at ends (state_of s0.ins wanted s0.followers)))
          (sym (ap (λ (x : SubState). is_refused x.wanted topic) (sym view) ∙ refused)) (refl, refl, ap (subscriber_at ends) unchanged);
    }

    pub ChangesAt-not : wants s0.wanted topic ≡ false → runs old [] old
        → ChangesAt runs ends writable Unsubscribe topic old old s NotSub (state_of s0.ins wanted s0.followers)
    ChangesAt-not unwanted none = record {
      steps = [];
      runs_are = none;
      step = λ can_write are.
          subst (λ b. UnsubscribesWhere b can_write topic (subscriber_at ends s) [] NotSub (subscriber_at ends (state_of s0.ins wanted s0.followers)))
          (sym (ap (λ (x : SubState). wants x.wanted topic) (sym view) ∙ unwanted)) (refl, refl, ap (subscriber_at ends) unchanged);
    }

  -- ---- telling, by the rows of the peers

  module _ (first next rows : Subscribers ℕ) (first_is : first ≡ s0.followers) (rows_are : rows ≡ next) where
    pub TellsPeers-rows : TellsRows runs ends writable s0.wanted old new first next → TellsPeers runs ends writable old new s (state_of s0.ins s0.wanted rows)
    TellsPeers-rows tells =
        let t = subst (λ (x : Subscribers ℕ × Subscribers ℕ). TellsRows runs ends writable s0.wanted old new x.0 x.1) (λ j. (first_is j, sym rows_are j)) tells in
        subst (λ (x : SubState). TellsPeers runs ends writable old new x (state_of s0.ins s0.wanted rows)) view (record {
          steps = t.steps;
          runs_are = t.runs_are;
          step = λ can_write are. record { followers = subs_at ends rows; tells = t.tells can_write are; new_is = refl };
        })

    pub StopsTelling-rows : StopsRows runs ends writable s0.wanted old new first next → StopsTelling runs ends writable old new s (state_of s0.ins s0.wanted rows)
    StopsTelling-rows stops =
        subst (λ (x : SubState). StopsTelling runs ends writable old new x (state_of s0.ins s0.wanted rows)) view (record {
          stops = subst (λ (x : Subscribers ℕ × Subscribers ℕ). StopsRows runs ends writable s0.wanted old new x.0 x.1) (λ j. (first_is j, sym rows_are j)) stops;
          new_is = refl;
        })
