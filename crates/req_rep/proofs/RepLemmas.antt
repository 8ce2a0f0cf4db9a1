-- The calls of a REP, as the steps of its pattern.
use Rattle.std.specs.Prelude.{nat_le}
use Rattle.std.proofs.Common.{◌≡◌, ◌≤◌, ◌<◌, ◌+◌, ℕ, Bool, true, false, List, [], ◌∷◌, ◌++◌, map, length, Some, None, inl, inr, refl, sym, ap, subst, ◌∙◌, arith, length-append, append-nil}
use Rattle.std.proofs.lemmas.Bool.{le-leb, lt-leb}
use Rattle.zq_base.specs.Message.{Frames, max_committed}
use Rattle.zq_base.specs.declared.ids.PairId.{PairId}
use Rattle.spec_pattern.specs.PipeStep.{PipeStep, Commit, FullLook}
use Rattle.spec_pattern.specs.TurnList.{End}
use Rattle.spec_pattern.specs.Duty.{Free, Owing}
use Rattle.spec_pattern.specs.Drops.{ReceivesDropping}
use Rattle.spec_pattern.specs.Routes.{GoesTo}
use Rattle.spec_pattern.specs.RequestReply.{request_of, RepSends, RepReplies, RepReceives}
use Rattle.spec_pattern.specs.declared.answers.Skip.{Skip}
use Rattle.spec_pattern.specs.declared.answers.Rule.TheVariants.{ReplyGone, RouteFull, BadEnv}
use Rattle.spec_pattern.specs.declared.answers.SendRefusal.TheVariants.{TooLarge}
use Rattle.spec_pattern.specs.declared.answers.SendRefusal.TheVariants as send
use Rattle.spec_pattern.specs.declared.answers.SendAnswer.TheVariants as sent
use Rattle.spec_pattern.specs.declared.answers.RecvRefusal.TheVariants.{Fsm}
use Rattle.spec_pattern.specs.declared.answers.RecvAnswer.{RecvAnswer}
use Rattle.spec_pattern.specs.declared.answers.RecvAnswer.TheVariants as got
use Rattle.spec_pattern.specs.Dropping.{receiving, DropsFew, ReceivesOver}
use Rattle.fair_queue.proofs.DroppingLemmas.{DropsMore-none}
use Rattle.req_rep.specs.Partners.{is_nobody}
use Rattle.req_rep.specs.Answering.{RepState, RepSent, RepGot, RepStopped, TellsPartner, owed_duty}
use Rattle.req_rep.specs.declared.partner.Partner.{Partner}
use Rattle.req_rep.specs.declared.partner.Partner.TheVariants.{Nobody, At, Gone}

-- without a partner a REP is free
free_is : (ends : ℕ → End) (owed : Partner) (envelope : Frames) → is_nobody owed ≡ true → owed_duty ends owed envelope ≡ Free
free_is ends Nobody envelope e = refl
free_is ends (At place) envelope e = absurd (cc e)
free_is ends Gone envelope e = absurd (cc e)

-- and sends nothing
idle : (ends : ℕ → End) (can_write : End → Bool) (m : Frames) (owed : Partner) (envelope : Frames) → is_nobody owed ≡ true
    → RepSends can_write m (owed_duty ends owed envelope) [] (sent.Refused send.Fsm) (owed_duty ends owed envelope)
idle ends can_write m Nobody envelope e = (refl, refl, refl)
idle ends can_write m (At place) envelope e = absurd (cc e)
idle ends can_write m Gone envelope e = absurd (cc e)

-- with one it doesn't receive
fsm : (ends : ℕ → End) (ins : List ℕ) (owed : Partner) (envelope : Frames) → is_nobody owed ≡ false
    → RepReceives (map ends ins) (owed_duty ends owed envelope) [] [] (got.Refused Fsm) (map ends ins) (owed_duty ends owed envelope)
fsm ends ins Nobody envelope e = absurd (cc e)
fsm ends ins (At place) envelope e = (refl, refl, refl, refl, refl)
fsm ends ins Gone envelope e = (refl, refl, refl, refl, refl)

module _ (ends : ℕ → End) (can_write : End → Bool) (m envelope : Frames) where
  -- a reply that doesn't fit behind the envelope
  large : (owed : Partner) → is_nobody owed ≡ false → max_committed < length envelope + length m
      → RepSends can_write m (owed_duty ends owed envelope) [] (sent.Refused TooLarge) (owed_duty ends owed envelope)
  large owed some many = by owed some (lt-leb (length (envelope ++ m)) max_committed (omega (arith, length-append envelope m)))
    where
      by : (p : Partner) → is_nobody p ≡ false → nat_le (length (envelope ++ m)) max_committed ≡ false → RepSends can_write m (owed_duty ends p envelope) [] (sent.Refused TooLarge) (owed_duty ends p envelope)
      by Nobody e f = absurd (cc e)
      by (At place) e f = subst (λ b. RepReplies can_write m (Some (ends place)) envelope b [] (sent.Refused TooLarge) (Owing (Some (ends place)) envelope)) (sym f) (refl, refl, refl)
      by Gone e f = subst (λ b. RepReplies can_write m None envelope b [] (sent.Refused TooLarge) (Owing None envelope)) (sym f) (refl, refl, refl)

  fits : length envelope + length m ≤ max_committed → nat_le (length (envelope ++ m)) max_committed ≡ true
  fits few = le-leb (length (envelope ++ m)) max_committed (omega (arith, length-append envelope m))

  -- a reply whose peer is gone
  gone : (owed : Partner) → is_nobody owed ≡ false → ((place : ℕ) → owed ≡ At place → ⊥) → length envelope + length m ≤ max_committed
      → RepSends can_write m (owed_duty ends owed envelope) [] (sent.Dropped ReplyGone) Free
  gone Nobody some not_at few = absurd (cc some)
  gone (At place) some not_at few = absurd (not_at place refl)
  gone Gone some not_at few = subst (λ b. RepReplies can_write m None envelope b [] (sent.Dropped ReplyGone) Free) (sym (fits few)) ((refl, refl), refl)

  -- a reply that is put in
  put : (place : ℕ) → can_write (ends place) ≡ true → length envelope + length m ≤ max_committed
      → RepSends can_write m (owed_duty ends (At place) envelope) (Commit (ends place) (envelope ++ m) ∷ []) (sent.One (ends place).pair) Free
  put place unshut few =
      subst (λ b. RepReplies can_write m (Some (ends place)) envelope b (Commit (ends place) (envelope ++ m) ∷ []) (sent.One (ends place).pair) Free) (sym (fits few)) (
        subst (λ b. GoesTo (sent.Dropped ReplyGone) (sent.Dropped RouteFull) (envelope ++ m) (ends place) b (Commit (ends place) (envelope ++ m) ∷ []) (sent.One (ends place).pair))
            (sym unshut) (inr (refl, refl)),
        refl,
      )

  -- a reply to an end that is full
  full : (place : ℕ) → can_write (ends place) ≡ true → length envelope + length m ≤ max_committed
      → RepSends can_write m (owed_duty ends (At place) envelope) (FullLook (ends place) ∷ []) (sent.Dropped RouteFull) Free
  full place unshut few =
      subst (λ b. RepReplies can_write m (Some (ends place)) envelope b (FullLook (ends place) ∷ []) (sent.Dropped RouteFull) Free) (sym (fits few)) (
        subst (λ b. GoesTo (sent.Dropped ReplyGone) (sent.Dropped RouteFull) (envelope ++ m) (ends place) b (FullLook (ends place) ∷ []) (sent.Dropped RouteFull))
            (sym unshut) (inl (refl, refl)),
        refl,
      )

  -- a reply to an end that can't be written
  shut : (place : ℕ) → can_write (ends place) ≡ false → length envelope + length m ≤ max_committed
      → RepSends can_write m (owed_duty ends (At place) envelope) [] (sent.Dropped ReplyGone) Free
  shut place closed few =
      subst (λ b. RepReplies can_write m (Some (ends place)) envelope b [] (sent.Dropped ReplyGone) Free) (sym (fits few))
      (subst (λ b. GoesTo (sent.Dropped ReplyGone) (sent.Dropped RouteFull) (envelope ++ m) (ends place) b [] (sent.Dropped ReplyGone)) (sym closed) (refl, refl), refl)

module _ {S : Type 0} (runs : S → List PipeStep → S → Type 0) (ends : ℕ → End) (r0 r : RepState) (is : r0 ≡ r) where
  -- nothing was dropped before memory was wanted
  pub RepStopped-none : ((s : S) → runs s [] s) → (s : S) (told : List Skip) (envelope' : Frames) → envelope' ≡ r0.envelope
      → RepStopped runs ends s s told told r (record { ins = r0.ins; owed = r0.owed; envelope = envelope' })
  RepStopped-none no_steps s told envelope' same =
      subst (λ (q : RepState). RepStopped runs ends s s told told q (record { ins = r0.ins; owed = r0.owed; envelope = envelope' })) is (record {
        dropped = record {
          count = 0;
          few = omega arith;
          drops = DropsMore-none runs ends request_of BadEnv no_steps (receiving s r0.ins told);
        };
        owed_is = refl;
        envelope_is = same;
      })

  -- a reply is owed
  pub RepGot-fsm : (s : S) → runs s [] s → (told : List Skip) → is_nobody r0.owed ≡ false → RepGot runs ends s s told told r (got.Refused Fsm) r
  RepGot-fsm s no_steps told some =
      subst (λ (q : RepState). RepGot runs ends s s told told q (got.Refused Fsm) q) is (record {
        steps = [];
        runs_are = no_steps;
        skips = [];
        step = fsm ends r0.ins r0.owed r0.envelope some;
        told_are = sym (append-nil told);
      })

  module _ (old new : S) (told told' : List Skip) (ins' : List ℕ) (envelope' : Frames) where
    -- a request came
    pub RepGot-over : (place : ℕ) (answer answer' : RecvAnswer) → is_nobody r0.owed ≡ true → answer' ≡ answer
        → ReceivesOver runs ends request_of BadEnv (receiving old r0.ins told) (receiving new ins' told') answer Free (Owing (Some (ends place)) envelope')
        → RepGot runs ends old new told told' r answer' (record { ins = ins'; owed = At place; envelope = envelope' })
    RepGot-over place answer answer' nobody same over =
        subst (λ (q : RepState). RepGot runs ends old new told told' q answer' (record { ins = ins'; owed = At place; envelope = envelope' })) is (record {
          steps = over.steps;
          runs_are = over.runs_are;
          skips = over.skips;
          step = subst (λ d. RepReceives (map ends r0.ins) d over.steps over.skips answer' (map ends ins') (Owing (Some (ends place)) envelope')) (sym (free_is ends r0.owed r0.envelope nobody))
              (subst (λ a. ReceivesDropping request_of BadEnv (map ends r0.ins) over.steps over.skips a (map ends ins') Free (Owing (Some (ends place)) envelope')) (sym same) over.receives);
          told_are = over.told_are;
        })

    -- no request came
    pub RepGot-refused : (answer : RecvAnswer) → is_nobody r0.owed ≡ true
        → ReceivesOver runs ends request_of BadEnv (receiving old r0.ins told) (receiving new ins' told') answer Free Free
        → RepGot runs ends old new told told' r answer (record { ins = ins'; owed = r0.owed; envelope = envelope' })
    RepGot-refused answer nobody over =
        subst (λ (q : RepState). RepGot runs ends old new told told' q answer (record { ins = ins'; owed = r0.owed; envelope = envelope' })) is (record {
          steps = over.steps;
          runs_are = over.runs_are;
          skips = over.skips;
          step = subst (λ d. RepReceives (map ends r0.ins) d over.steps over.skips answer (map ends ins') (owed_duty ends r0.owed envelope')) (sym (free_is ends r0.owed r0.envelope nobody))
              (subst (λ d. RepReceives (map ends r0.ins) Free over.steps over.skips answer (map ends ins') d) (sym (free_is ends r0.owed envelope' nobody)) over.receives);
          told_are = over.told_are;
        })

    -- memory was wanting
    pub RepStopped-few : envelope' ≡ r0.envelope → DropsFew runs ends request_of BadEnv (receiving old r0.ins told) (receiving new ins' told')
        → RepStopped runs ends old new told told' r (record { ins = ins'; owed = r0.owed; envelope = envelope' })
    RepStopped-few same few =
        subst (λ (q : RepState). RepStopped runs ends old new told told' q (record { ins = ins'; owed = r0.owed; envelope = envelope' })) is (record {
          dropped = few;
          owed_is = refl;
          envelope_is = same;
        })

  module _ (s : S) (no_steps : runs s [] s) (writable : ℕ → Bool) (m : Frames) (some : is_nobody r0.owed ≡ false) where
    -- a reply that doesn't fit
    pub RepSent-large : max_committed < length r0.envelope + length m → RepSent runs ends writable m s s r (sent.Refused TooLarge) r
    RepSent-large many = subst (λ (q : RepState). RepSent runs ends writable m s s q (sent.Refused TooLarge) q) is (record {
      steps = [];
      runs_are = no_steps;
      step = λ can_write tells. large ends can_write m r0.envelope r0.owed some many;
    })

    -- a reply whose peer is gone
    pub RepSent-gone : (envelope' : Frames) → ((place : ℕ) → r0.owed ≡ At place → ⊥) → length r0.envelope + length m ≤ max_committed
        → RepSent runs ends writable m s s r (sent.Dropped ReplyGone) (record { ins = r0.ins; owed = Nobody; envelope = envelope' })
    RepSent-gone envelope' not_at few = subst (λ (q : RepState). RepSent runs ends writable m s s q (sent.Dropped ReplyGone) (record { ins = r0.ins; owed = Nobody; envelope = envelope' })) is (record {
      steps = [];
      runs_are = no_steps;
      step = λ can_write tells. gone ends can_write m r0.envelope r0.owed some not_at few;
    })

    -- a reply to an end that can't be written
    pub RepSent-shut : (envelope' : Frames) (place : ℕ) → r0.owed ≡ At place → writable place ≡ false → length r0.envelope + length m ≤ max_committed
        → RepSent runs ends writable m s s r (sent.Dropped ReplyGone) (record { ins = r0.ins; owed = Nobody; envelope = envelope' })
    RepSent-shut envelope' place at closed few = subst (λ (q : RepState). RepSent runs ends writable m s s q (sent.Dropped ReplyGone) (record { ins = r0.ins; owed = Nobody; envelope = envelope' })) is (record {
      steps = [];
      runs_are = no_steps;
      step = λ can_write tells.
          let told : can_write (ends place) ≡ writable place = subst (TellsPartner can_write ends writable) at tells in
          subst (λ (p : Partner). RepSends can_write m (owed_duty ends p r0.envelope) [] (sent.Dropped ReplyGone) Free) (sym at)
          (shut ends can_write m r0.envelope place (told ∙ closed) few);
    })

  abbrev with_envelope : Frames → RepState
  with_envelope envelope' = record { ins = r0.ins; owed = r0.owed; envelope = envelope' }

  -- memory was wanting, and the envelope stays
  pub stays_so : (envelope' : Frames) → envelope' ≡ r0.envelope → with_envelope envelope' ≡ r
  stays_so envelope' same = ap with_envelope same ∙ is

  -- no reply is owed
  pub RepSent-fsm : (s : S) → runs s [] s → (writable : ℕ → Bool) (m : Frames) → is_nobody r0.owed ≡ true → RepSent runs ends writable m s s r (sent.Refused send.Fsm) r
  RepSent-fsm s no_steps writable m nobody = subst (λ (q : RepState). RepSent runs ends writable m s s q (sent.Refused send.Fsm) q) is (record {
    steps = [];
    runs_are = no_steps;
    step = λ can_write tells. idle ends can_write m r0.owed r0.envelope nobody;
  })

  module _ (old new : S) (writable : ℕ → Bool) (m whole : Frames) (place : ℕ) (at : r0.owed ≡ At place) (unshut : writable place ≡ true)
      (few : length r0.envelope + length m ≤ max_committed) (whole_is : whole ≡ r0.envelope ++ m) (envelope' : Frames) where
    -- the reply was put in
    pub RepSent-put : (pair : PairId) → runs old (Commit (ends place) whole ∷ []) new → pair ≡ (ends place).pair
        → RepSent runs ends writable m old new r (sent.One pair) (record { ins = r0.ins; owed = Nobody; envelope = envelope' })
    RepSent-put pair runs_are pair_is =
        subst (λ (q : RepState). RepSent runs ends writable m old new q (sent.One pair) (record { ins = r0.ins; owed = Nobody; envelope = envelope' })) is (record {
          steps = Commit (ends place) (r0.envelope ++ m) ∷ [];
          runs_are = subst (λ (w : Frames). runs old (Commit (ends place) w ∷ []) new) whole_is runs_are;
          step = λ can_write tells.
              let told : can_write (ends place) ≡ writable place = subst (TellsPartner can_write ends writable) at tells in
              subst (λ (p : Partner). RepSends can_write m (owed_duty ends p r0.envelope) (Commit (ends place) (r0.envelope ++ m) ∷ []) (sent.One pair) Free) (sym at)
              (subst (λ (e : PairId). RepSends can_write m (owed_duty ends (At place) r0.envelope) (Commit (ends place) (r0.envelope ++ m) ∷ []) (sent.One e) Free) (sym pair_is)
              (put ends can_write m r0.envelope place (told ∙ unshut) few));
        })

    -- its pipe was full
    pub RepSent-full : runs old (FullLook (ends place) ∷ []) new
        → RepSent runs ends writable m old new r (sent.Dropped RouteFull) (record { ins = r0.ins; owed = Nobody; envelope = envelope' })
    RepSent-full runs_are =
        subst (λ (q : RepState). RepSent runs ends writable m old new q (sent.Dropped RouteFull) (record { ins = r0.ins; owed = Nobody; envelope = envelope' })) is (record {
          steps = FullLook (ends place) ∷ [];
          runs_are = runs_are;
          step = λ can_write tells.
              let told : can_write (ends place) ≡ writable place = subst (TellsPartner can_write ends writable) at tells in
              subst (λ (p : Partner). RepSends can_write m (owed_duty ends p r0.envelope) (FullLook (ends place) ∷ []) (sent.Dropped RouteFull) Free) (sym at)
              (full ends can_write m r0.envelope place (told ∙ unshut) few);
        })
