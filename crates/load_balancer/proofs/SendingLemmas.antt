-- What a turn put, as the step of a socket.
use Rattle.std.specs.List.{list_any}
use Rattle.std.proofs.Common.{◌≡◌, ◌||◌, ◌≤◌, ℕ, Bool, true, false, cond, List, [], ◌∷◌, ◌++◌, map, filter, length, None, Some, refl, sym, ap, subst, ◌∙◌, All}
use Rattle.std.proofs.lemmas.Bool.{le-leb}
use Rattle.zq_base.specs.Message.{Frames, max_committed}
use Rattle.zq_base.specs.declared.ids.PairId.{PairId}
use Rattle.zq_base.specs.declared.kind.Kind.TheVariants.{Push, Pair, Dealer}
use Rattle.spec_pattern.specs.PipeStep.{PipeStep, Commit}
use Rattle.spec_pattern.specs.TurnList.{End, full_at}
use Rattle.spec_pattern.specs.Duty.{Free}
use Rattle.spec_pattern.specs.Refusals.{send_refusal}
use Rattle.spec_pattern.specs.Pipeline.{PushSends}
use Rattle.spec_pattern.specs.Call.{SendsUnless}
use Rattle.spec_pattern.specs.declared.answers.SendRefusal.TheVariants.{TooLarge, Again}
use Rattle.spec_pattern.specs.declared.answers.SendAnswer.{SendAnswer}
use Rattle.spec_pattern.specs.declared.answers.SendAnswer.TheVariants as sent
use Rattle.load_balancer.specs.LoadBalancer.{PutsNext, FindsFull, HasNoPeer, full_looks}
use Rattle.msg_pipe.proofs.TurnsLemmas.{All-front, All-middle}
use Rattle.spec_pattern.specs.AtPlaces.{Sends}
use Rattle.spec_pattern.proofs.AtPlacesLemmas.{ends_around, ends_turned, filter-ends}

-- a message of so many frames isn't refused
is_small : (m : Frames) → length m ≤ max_committed → send_refusal Push Free m ≡ None
is_small m few = ap (λ b. cond b None (Some TooLarge)) (le-leb (length m) max_committed few)

-- without a place that can be written there is nothing to look at
full_looks-none : (ends : ℕ → End) (writable : ℕ → Bool) (places : List ℕ) → list_any writable places ≡ false → full_looks ends writable places ≡ []
full_looks-none ends writable [] none = refl
full_looks-none ends writable (k ∷ places) none = by (writable k) (full_looks-none ends writable places) none
  where
    by : (b : Bool) → (list_any writable places ≡ false → full_looks ends writable places ≡ []) → (b || list_any writable places) ≡ false
        → map full_at (map ends (cond b (k ∷ filter writable places) (filter writable places))) ≡ []
    by true rest e = absurd (cc e)
    by false rest e = rest e

module _ {S : Type 0} (runs : S → List PipeStep → S → Type 0) (ends : ℕ → End) (writable : ℕ → Bool) (m : Frames) (old new : S) (turns turns' : List ℕ) where
  -- no peer had room
  none_has_room : length m ≤ max_committed → runs old (full_looks ends writable turns) new
      → turns' ≡ turns → Sends runs ends writable Push m old new turns (sent.Refused Again) turns'
  none_has_room few ran is = record {
    steps = full_looks ends writable turns;
    runs_are = ran;
    step = λ can_write tells.
        subst (λ r. SendsUnless r (PushSends can_write m (map ends turns)) (map ends turns) (full_looks ends writable turns) (sent.Refused Again) (map ends turns')) (sym (is_small m few)) (
          refl,
          record {
            steps_are = ap (map full_at) (sym (filter-ends can_write ends writable turns tells));
            new_is = ap (map ends) is;
          },
        );
  }

  -- a message was put
  pub Sends-put : (place : ℕ) (to : PairId) → length m ≤ max_committed → PutsNext runs ends writable m old new turns place turns'
      → to ≡ (ends place).pair → Sends runs ends writable Push m old new turns (sent.One to) turns'
  Sends-put place to few put to_is = record {
    steps = full_looks ends writable put.before ++ Commit (ends place) m ∷ [];
    runs_are = put.runs_are;
    step = λ can_write tells.
        let P = λ (k : ℕ). can_write (ends k) ≡ writable k in
        let parts : All P (put.before ++ place ∷ put.after) = subst (All P) put.turns_are tells in
        subst (λ r. SendsUnless r (PushSends can_write m (map ends turns)) (map ends turns) (full_looks ends writable put.before ++ Commit (ends place) m ∷ []) (sent.One to) (map ends turns')) (sym (is_small m few)) (record {
          before = map ends put.before;
          peer = ends place;
          after = map ends put.after;
          turns_are = ends_around ends put.before put.after turns place put.turns_are;
          open_is = All-middle P put.before put.after place parts ∙ put.writable_is;
          steps_are = ap (λ l. map full_at l ++ Commit (ends place) m ∷ []) (sym (filter-ends can_write ends writable put.before (All-front P put.before (place ∷ put.after) parts)));
          to_is = to_is;
          new_is = ends_turned ends put.before put.after turns' place put.new_is;
        });
  }

  -- all peers were full
  pub Sends-none : (back : Frames) → length m ≤ max_committed → FindsFull runs ends writable m old new turns back turns'
      → Sends runs ends writable Push m old new turns (sent.Refused Again) turns'
  Sends-none back few full = none_has_room few full.runs_are full.new_is

  -- there was no peer
  pub Sends-peerless : ((s : S) → runs s [] s) → (back : Frames) → length m ≤ max_committed → HasNoPeer runs ends writable m old new turns back turns'
      → Sends runs ends writable Push m old new turns (sent.Refused Again) turns'
  Sends-peerless none back few no_peer =
      none_has_room few
      (subst (λ steps. runs old steps new) (sym (full_looks-none ends writable turns no_peer.none))
      (subst (λ s. runs old [] s) (sym no_peer.same) (none old)))
      no_peer.new_is

  -- a PAIR and a DEALER send as a PUSH does
  pub Sends-pair : (answer : SendAnswer) → Sends runs ends writable Push m old new turns answer turns' → Sends runs ends writable Pair m old new turns answer turns'
  Sends-pair answer s = record { steps = s.steps; runs_are = s.runs_are; step = s.step }

  pub Sends-dealer : (answer : SendAnswer) → Sends runs ends writable Push m old new turns answer turns' → Sends runs ends writable Dealer m old new turns answer turns'
  Sends-dealer answer s = record { steps = s.steps; runs_are = s.runs_are; step = s.step }
