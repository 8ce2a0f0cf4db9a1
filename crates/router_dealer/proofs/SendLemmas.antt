-- What became of a message that was to be routed, as the step of a ROUTER.
use Rattle.std.proofs.Common.{◌≡◌, ◌≤◌, ◌<◌, ℕ, Bool, true, false, List, [], ◌∷◌, length, drop, slice_get, None, Some, Result, Ok, Err, refl, sym, ap, subst, ◌∙◌, inl, inr, arith}
use Rattle.std.specs.Option.{option_map}
use Rattle.zq_base.specs.Message.{Frames}
use Rattle.spec_pattern.specs.PipeStep.{PipeStep, Commit, FullLook}
use Rattle.spec_pattern.specs.TurnList.{End}
use Rattle.spec_pattern.specs.Routes.{GoesTo, Routes}
use Rattle.spec_pattern.specs.Routing.{named, RouterSends, when_missing, when_full}
use Rattle.spec_pattern.specs.declared.answers.SendAnswer.{SendAnswer}
use Rattle.spec_pattern.specs.declared.answers.SendAnswer.TheVariants as sent
use Rattle.spec_pattern.specs.declared.answers.SendRefusal.TheVariants.{NoBody}
use Rattle.spec_pattern.specs.declared.answers.Sent.{Sent}
use Rattle.spec_pattern.specs.declared.answers.Sent.TheVariants as now
use Rattle.spec_pattern.specs.declared.answers.SendFault.{SendFault}
use Rattle.spec_pattern.specs.declared.answers.SendFault.TheVariants as send
use Rattle.router_dealer.specs.PlaceNames.{names_at, place_named}
use Rattle.router_dealer.proofs.PlaceNamesLemmas.{named-names_at}
use Rattle.router_dealer.specs.Named.{RouterState, where_missing, TellsNamed, RouterSent, SendsNamed, PutsRest}

-- the first frame of a message
first_is : (x : List ℕ) (m : Frames) (name : List ℕ) → slice_get (x ∷ m) 0 ≡ Some name → name ≡ x
first_is x m name e = cc

module _ {S : Type 0} (runs : S → List PipeStep → S → Type 0) (ends : ℕ → End) (writable : ℕ → Bool) (r : RouterState) where
  -- what a message is routed to is what its rest goes to
  routed : (m : Frames) (name : List ℕ) → 2 ≤ length m → slice_get m 0 ≡ Some name
      → (can_write : End → Bool) (steps : List PipeStep) (answer : SendAnswer)
      → Routes (when_missing r.mandatory) (when_full r.mandatory) can_write (drop 1 m) (option_map ends (place_named r.names name)) steps answer
      → RouterSends r.mandatory can_write (named (names_at ends r.names)) m steps answer
  routed [] name long is can_write steps answer h = absurd (omega arith)
  routed (x ∷ []) name long is can_write steps answer h = absurd (omega arith)
  routed (x ∷ (body ∷ frames)) name long is can_write steps answer h =
      subst (λ o. Routes (when_missing r.mandatory) (when_full r.mandatory) can_write (body ∷ frames) o steps answer)
      (sym (named-names_at ends r.names x ∙ ap (λ n. option_map ends (place_named r.names n)) (sym (first_is x (body ∷ frames) name is)))) h

  -- a message of one frame
  pub Sends-alone : (m : Frames) (s : S) → ((t : S) → runs t [] t) → 1 ≤ length m → length m < 2
      → SendsNamed runs ends writable m s s r (Err (send.Refused NoBody m))
  Sends-alone [] s none some few = absurd (omega arith)
  Sends-alone (x ∷ []) s none some few = (record { steps = []; runs_are = none s; step = λ can_write tells. (refl, refl) }, refl)
  Sends-alone (x ∷ (body ∷ frames)) s none some few = absurd (omega arith)

  module _ (m : Frames) (name : List ℕ) (long : 2 ≤ length m) (first : slice_get m 0 ≡ Some name) where
    -- a message that doesn't reach its peer
    unreached : (s : S) → ((t : S) → runs t [] t)
        → ((can_write : End → Bool) → TellsNamed ends can_write writable r.names
        → Routes (when_missing r.mandatory) (when_full r.mandatory) can_write (drop 1 m) (option_map ends (place_named r.names name)) [] (when_missing r.mandatory))
        → SendsNamed runs ends writable m s s r (where_missing r.mandatory m)
    unreached s none step = by r.mandatory (record { steps = []; runs_are = none s; step = λ can_write tells. routed m name long first can_write [] (when_missing r.mandatory) (step can_write tells) })
      where
        by : (b : Bool) → RouterSent runs ends writable m s s r (when_missing b) → SendsNamed runs ends writable m s s r (where_missing b m)
        by true did = (did, refl)
        by false did = did

    -- no peer has the name
    pub Sends-unknown : (s : S) → ((t : S) → runs t [] t) → place_named r.names name ≡ None
        → SendsNamed runs ends writable m s s r (where_missing r.mandatory m)
    Sends-unknown s none unknown = unreached s none (λ can_write tells.
        subst (λ o. Routes (when_missing r.mandatory) (when_full r.mandatory) can_write (drop 1 m) (option_map ends o) [] (when_missing r.mandatory)) (sym unknown) (refl, refl))

    module _ (place : ℕ) (there : place_named r.names name ≡ Some place) where
      -- what goes to the end at the place
      goes : (steps : List PipeStep) (answer : SendAnswer) (can_write : End → Bool) (b : Bool) → TellsNamed ends can_write writable r.names → writable place ≡ b
          → GoesTo (when_missing r.mandatory) (when_full r.mandatory) (drop 1 m) (ends place) b steps answer
          → Routes (when_missing r.mandatory) (when_full r.mandatory) can_write (drop 1 m) (option_map ends (place_named r.names name)) steps answer
      goes steps answer can_write b tells is h =
          subst (λ o. Routes (when_missing r.mandatory) (when_full r.mandatory) can_write (drop 1 m) (option_map ends o) steps answer) (sym there)
          (subst (λ c. GoesTo (when_missing r.mandatory) (when_full r.mandatory) (drop 1 m) (ends place) c steps answer) (sym (tells name place there ∙ is)) h)

      -- the peer of the name can't be written
      pub Sends-closed : (s : S) → ((t : S) → runs t [] t) → writable place ≡ false
          → SendsNamed runs ends writable m s s r (where_missing r.mandatory m)
      Sends-closed s none closed = unreached s none (λ can_write tells. goes [] (when_missing r.mandatory) can_write false tells closed (refl, refl))

      -- the rest of the message was to be put in at the peer's end
      pub Sends-put : (old new : S) (result : Result Sent SendFault) → writable place ≡ true
          → PutsRest runs r.mandatory (ends place) m old new result → SendsNamed runs ends writable m old new r result
      Sends-put old new (Ok (now.One pair)) may h = record {
        steps = Commit (ends place) (drop 1 m) ∷ [];
        runs_are = h.1;
        step = λ can_write tells. routed m name long first can_write (Commit (ends place) (drop 1 m) ∷ []) (sent.One pair)
            (goes (Commit (ends place) (drop 1 m) ∷ []) (sent.One pair) can_write true tells may (inr (refl, ap sent.One h.0)));
      }
      Sends-put old new (Ok (now.Dropped rule)) may h = record {
        steps = FullLook (ends place) ∷ [];
        runs_are = h.2;
        step = λ can_write tells. routed m name long first can_write (FullLook (ends place) ∷ []) (sent.Dropped rule)
            (goes (FullLook (ends place) ∷ []) (sent.Dropped rule) can_write true tells may (inl (refl, ap sent.Dropped h.1 ∙ sym (ap when_full h.0))));
      }
      Sends-put old new (Ok (now.Many report)) may h = absurd h
      Sends-put old new (Ok now.Subscribed) may h = absurd h
      Sends-put old new (Err (send.Refused refusal back)) may h = (
        record {
          steps = FullLook (ends place) ∷ [];
          runs_are = h.3;
          step = λ can_write tells. routed m name long first can_write (FullLook (ends place) ∷ []) (sent.Refused refusal)
              (goes (FullLook (ends place) ∷ []) (sent.Refused refusal) can_write true tells may (inl (refl, ap sent.Refused h.1 ∙ sym (ap when_full h.0))));
        },
        h.2,
      )
      Sends-put old new (Err (send.OutOfMemory back)) may h = h
