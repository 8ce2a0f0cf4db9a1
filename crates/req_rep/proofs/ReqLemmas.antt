-- The calls of a REQ, as the steps of its pattern.
use Rattle.std.proofs.Common.{◌≡◌, ◌≤◌, ◌+◌, ℕ, Bool, true, false, cond, List, [], ◌∷◌, ◌++◌, map, length, Option, Some, None, refl, sym, ap, subst, ◌∙◌, All, arith, append-nil}
use Rattle.std.specs.Option.{option_map}
use Rattle.std.proofs.lemmas.Bool.{le-leb}
use Rattle.zq_base.specs.Message.{Frames, max_committed}
use Rattle.zq_base.specs.declared.ids.PairId.{PairId}
use Rattle.zq_base.specs.declared.kind.Kind.TheVariants.{Push}
use Rattle.spec_pattern.specs.PipeStep.{PipeStep, Commit}
use Rattle.spec_pattern.specs.TurnList.{End, full_at}
use Rattle.spec_pattern.specs.Duty.{Duty, Free, Asked}
use Rattle.spec_pattern.specs.Drops.{Given, ReceivesDropping}
use Rattle.spec_pattern.specs.Refusals.{send_refusal}
use Rattle.spec_pattern.specs.Pipeline.{PushSends}
use Rattle.spec_pattern.specs.Call.{SendsUnless}
use Rattle.spec_pattern.specs.RequestReply.{reply_of, ReqSends, ReqFreeSends, ReqReceives}
use Rattle.spec_pattern.specs.declared.answers.Skip.{Skip}
use Rattle.spec_pattern.specs.declared.answers.Rule.TheVariants.{Stray}
use Rattle.spec_pattern.specs.declared.answers.SendRefusal.TheVariants.{Again, TooLarge}
use Rattle.spec_pattern.specs.declared.answers.SendAnswer.TheVariants as sent
use Rattle.spec_pattern.specs.declared.answers.RecvRefusal.TheVariants.{Fsm}
use Rattle.spec_pattern.specs.declared.answers.RecvAnswer.{RecvAnswer}
use Rattle.spec_pattern.specs.declared.answers.RecvAnswer.TheVariants as got
use Rattle.msg_pipe.proofs.TurnsLemmas.{All-front, All-middle}
use Rattle.load_balancer.specs.LoadBalancer.{PutsNext, FindsFull, HasNoPeer, full_looks}
use Rattle.spec_pattern.specs.AtPlaces.{Sends}
use Rattle.spec_pattern.specs.Dropping.{receiving, DropsFew, ReceivesOver}
use Rattle.spec_pattern.proofs.AtPlacesLemmas.{ends_around, ends_turned, filter-ends}
use Rattle.load_balancer.proofs.SendingLemmas.{Sends-none, Sends-peerless}
use Rattle.req_rep.specs.Partners.{end_of, is_nobody}
use Rattle.req_rep.specs.Asking.{ReqState, ReqSent, ReqGot, ReqStopped, asked_duty, reply_by}
use Rattle.req_rep.specs.declared.partner.Partner.{Partner}
use Rattle.req_rep.specs.declared.partner.Partner.TheVariants.{Nobody, At, Gone}

-- without a partner a REQ is free
free_is : (ends : ℕ → End) (asked : Partner) → is_nobody asked ≡ true → asked_duty ends asked ≡ Free
free_is ends Nobody e = refl
free_is ends (At place) e = absurd (cc e)
free_is ends Gone e = absurd (cc e)

-- with one it awaits a reply
asked_is : (ends : ℕ → End) (asked : Partner) → is_nobody asked ≡ false → asked_duty ends asked ≡ Asked (end_of ends asked)
asked_is ends Nobody e = absurd (cc e)
asked_is ends (At place) e = refl
asked_is ends Gone e = refl

-- a message of so many frames isn't refused
is_small : (m : Frames) → length m ≤ max_committed → send_refusal Push Free m ≡ None
is_small m few = ap (λ b. cond b None (Some TooLarge)) (le-leb (length m) max_committed few)

-- the pair of the partner says which messages give anything
pub gives_is : (ends : ℕ → End) (asked : Partner) (pair : Option PairId) → pair ≡ option_map (λ (e : End). e.pair) (end_of ends asked) → reply_by pair ≡ reply_of (end_of ends asked)
gives_is ends asked pair e = ap reply_by e ∙ by asked
  where
    by : (p : Partner) → reply_by (option_map (λ (e : End). e.pair) (end_of ends p)) ≡ reply_of (end_of ends p)
    by Nobody = refl
    by (At place) = refl
    by Gone = refl

module _ {S : Type 0} (runs : S → List PipeStep → S → Type 0) (ends : ℕ → End) (old new : S) (r0 r : ReqState) (is : r0 ≡ r) where
  module _ (writable : ℕ → Bool) (nobody : is_nobody r0.asked ≡ true) (m framed : Frames) (framed_is : framed ≡ [] ∷ m) (few : length m + 1 ≤ max_committed) (outs' : List ℕ) where
    -- the request went out
    pub ReqSent-put : (place : ℕ) (to : PairId) → PutsNext runs ends writable framed old new r0.outs place outs' → to ≡ (ends place).pair
        → ReqSent runs ends writable m old new r (sent.One to) (record { outs = outs'; ins = r0.ins; asked = At place })
    ReqSent-put place to puts to_is =
        let put = subst (λ (f : Frames). PutsNext runs ends writable f old new r0.outs place outs') framed_is puts in
        let steps = full_looks ends writable put.before ++ Commit (ends place) ([] ∷ m) ∷ [] in
        subst (λ (q : ReqState). ReqSent runs ends writable m old new q (sent.One to) (record { outs = outs'; ins = r0.ins; asked = At place })) is (record {
          steps = steps;
          runs_are = put.runs_are;
          step = λ can_write tells.
              let P = λ (k : ℕ). can_write (ends k) ≡ writable k in
              let parts : All P (put.before ++ place ∷ put.after) = subst (All P) put.turns_are tells in
              subst (λ d. ReqSends can_write m (map ends r0.outs) d steps (sent.One to) (map ends outs') (Asked (Some (ends place)))) (sym (free_is ends r0.asked nobody))
              (subst (λ b. ReqFreeSends can_write m b (map ends r0.outs) steps (sent.One to) (map ends outs') (Asked (Some (ends place)))) (sym (le-leb (length m + 1) max_committed few))
              (record {
                goes = record {
                  before = map ends put.before;
                  peer = ends place;
                  after = map ends put.after;
                  turns_are = ends_around ends put.before put.after r0.outs place put.turns_are;
                  open_is = All-middle P put.before put.after place parts ∙ put.writable_is;
                  steps_are = ap (λ l. map full_at l ++ Commit (ends place) ([] ∷ m) ∷ []) (sym (filter-ends can_write ends writable put.before (All-front P put.before (place ∷ put.after) parts)));
                  to_is = to_is;
                  new_is = ends_turned ends put.before put.after outs' place put.new_is;
                };
                duty_is = refl;
              }));
        })

    -- no peer had room
    none : Sends runs ends writable Push ([] ∷ m) old new r0.outs (sent.Refused Again) outs'
        → ReqSent runs ends writable m old new r (sent.Refused Again) (record { outs = outs'; ins = r0.ins; asked = r0.asked })
    none s =
        subst (λ (q : ReqState). ReqSent runs ends writable m old new q (sent.Refused Again) (record { outs = outs'; ins = r0.ins; asked = r0.asked })) is (record {
          steps = s.steps;
          runs_are = s.runs_are;
          step = λ can_write tells.
              let again = subst (λ x. SendsUnless x (PushSends can_write ([] ∷ m) (map ends r0.outs)) (map ends r0.outs) s.steps (sent.Refused Again) (map ends outs')) (is_small ([] ∷ m) (omega arith)) (s.step can_write tells) in
              subst (λ d. ReqSends can_write m (map ends r0.outs) d s.steps (sent.Refused Again) (map ends outs') d) (sym (free_is ends r0.asked nobody))
              (subst (λ b. ReqFreeSends can_write m b (map ends r0.outs) s.steps (sent.Refused Again) (map ends outs') Free) (sym (le-leb (length m + 1) max_committed few)) (refl, again.1, refl));
        })

    -- all peers were full
    pub ReqSent-full : (back : Frames) → FindsFull runs ends writable framed old new r0.outs back outs'
        → ReqSent runs ends writable m old new r (sent.Refused Again) (record { outs = outs'; ins = r0.ins; asked = r0.asked })
    ReqSent-full back full =
        none (Sends-none runs ends writable ([] ∷ m) old new r0.outs outs' back (omega arith)
        (subst (λ (f : Frames). FindsFull runs ends writable f old new r0.outs back outs') framed_is full))

    -- there was no peer
    pub ReqSent-peerless : ((s : S) → runs s [] s) → (back : Frames) → HasNoPeer runs ends writable framed old new r0.outs back outs'
        → ReqSent runs ends writable m old new r (sent.Refused Again) (record { outs = outs'; ins = r0.ins; asked = r0.asked })
    ReqSent-peerless no_steps back no_peer =
        none (Sends-peerless runs ends writable ([] ∷ m) old new r0.outs outs' no_steps back (omega arith)
        (subst (λ (f : Frames). HasNoPeer runs ends writable f old new r0.outs back outs') framed_is no_peer))

  -- nothing was asked
  pub ReqGot-fsm : runs old [] old → (told : List Skip) → is_nobody r0.asked ≡ true → ReqGot runs ends old old told told r (got.Refused Fsm) r
  ReqGot-fsm no_steps told nobody =
      subst (λ (q : ReqState). ReqGot runs ends old old told told q (got.Refused Fsm) q) is (record {
        steps = [];
        runs_are = no_steps;
        skips = [];
        step = subst (λ d. ReqReceives (map ends r0.ins) d [] [] (got.Refused Fsm) (map ends r0.ins) d) (sym (free_is ends r0.asked nobody)) (refl, refl, refl, refl, refl);
        told_are = sym (append-nil told);
      })

  module _ (gives : End → Frames → Option Given) (gives_are : gives ≡ reply_of (end_of ends r0.asked)) (told told' : List Skip) (ins' : List ℕ) where
    -- what was received
    pub ReqGot-over : (asked' : Partner) (answer answer' : RecvAnswer) (duty : Duty) → is_nobody r0.asked ≡ false → answer' ≡ answer → duty ≡ asked_duty ends asked'
        → ReceivesOver runs ends gives Stray (receiving old r0.ins told) (receiving new ins' told') answer (Asked (end_of ends r0.asked)) duty
        → ReqGot runs ends old new told told' r answer' (record { outs = r0.outs; ins = ins'; asked = asked' })
    ReqGot-over asked' answer answer' duty some same duty_is over =
        subst (λ (q : ReqState). ReqGot runs ends old new told told' q answer' (record { outs = r0.outs; ins = ins'; asked = asked' })) is (record {
          steps = over.steps;
          runs_are = over.runs_are;
          skips = over.skips;
          step = subst (λ d. ReqReceives (map ends r0.ins) d over.steps over.skips answer' (map ends ins') (asked_duty ends asked')) (sym (asked_is ends r0.asked some))
              (subst (λ a. ReceivesDropping (reply_of (end_of ends r0.asked)) Stray (map ends r0.ins) over.steps over.skips a (map ends ins') (Asked (end_of ends r0.asked)) (asked_duty ends asked')) (sym same)
              (subst (λ d. ReceivesDropping (reply_of (end_of ends r0.asked)) Stray (map ends r0.ins) over.steps over.skips answer (map ends ins') (Asked (end_of ends r0.asked)) d) duty_is
              (subst (λ (g : End → Frames → Option Given). ReceivesDropping g Stray (map ends r0.ins) over.steps over.skips answer (map ends ins') (Asked (end_of ends r0.asked)) duty) gives_are over.receives)));
          told_are = over.told_are;
        })

    -- no reply came
    pub ReqGot-refused : (answer : RecvAnswer) → is_nobody r0.asked ≡ false
        → ReceivesOver runs ends gives Stray (receiving old r0.ins told) (receiving new ins' told') answer (Asked (end_of ends r0.asked)) (Asked (end_of ends r0.asked))
        → ReqGot runs ends old new told told' r answer (record { outs = r0.outs; ins = ins'; asked = r0.asked })
    ReqGot-refused answer some over = ReqGot-over r0.asked answer answer (Asked (end_of ends r0.asked)) some refl (sym (asked_is ends r0.asked some)) over

    -- memory was wanting
    pub ReqStopped-few : DropsFew runs ends gives Stray (receiving old r0.ins told) (receiving new ins' told')
        → ReqStopped runs ends old new told told' r (record { outs = r0.outs; ins = ins'; asked = r0.asked })
    ReqStopped-few few =
        subst (λ (q : ReqState). ReqStopped runs ends old new told told' q (record { outs = r0.outs; ins = ins'; asked = r0.asked })) is (record {
          dropped = subst (λ (g : End → Frames → Option Given). DropsFew runs ends g Stray (receiving old r0.ins told) (receiving new ins' told')) gives_are few;
          asked_is = refl;
        })
