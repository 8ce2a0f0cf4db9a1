-- What is kept at rest, by what the octets that the link gave mean.
use Rattle.std.proofs.Common.{◌≡◌, ℕ, ◌≤◌, List, [], ◌∷◌, ◌++◌, length, Option, Some, None, refl, sym, ap, subst, ◌∙◌, append_assoc, arith}
use Rattle.std.specs.Prelude.{All, IsSome}
use Rattle.std.specs.Option.{option_to_list}
use Rattle.std.proofs.lemmas.List.{append-nil, length-append, append_cancel_left}
use Rattle.std.proofs.lemmas.List.Elements.{All-head, All-tail}
use Rattle.zq_base.specs.Message.{Frames}
use Rattle.zq_base.specs.declared.options.EngineOpts.{EngineOpts}
use Rattle.zq_base.specs.declared.options.Peer.{Peer}
use Rattle.spec_pattern.specs.Pipe.{IsCommittable}
use Rattle.spec_zmtp.specs.Put.{IsSendable, commands_in, says, sends}
use Rattle.spec_zmtp.specs.DecodedStream.{Decoded, Decodes, Outcome, Unfinished, Refused, greeting_unfinished, greeting_refused, unfinished, refused}
use Rattle.spec_zmtp.specs.declared.cause.Refusal.{Refusal}
use Rattle.spec_zmtp.specs.declared.command.Command.{Command}
use Rattle.spec_zmtp.proofs.WholeLemmas.{all_sendable}
use Rattle.zmtp_engine.specs.Answers.{Standing, IsShaking, IsRunning as Runs, IsRefused, standing_at}
use Rattle.zmtp_engine.specs.Conversation.{Past, Conversation, Follows, HasLeft, IsMeaning, IsCurrent, no_past, unwritten, waiting}
use Rattle.zmtp_engine.proofs.Calls.{has_left, commands_put}
use Rattle.zmtp_engine.proofs.Meaning.{means}
use Rattle.spec_link.specs.LinkAct.{LinkAct, said_of, heard_of, put_of}
use Rattle.spec_link.specs.LinkRun.{AreToSay, octets_to_say}
use Rattle.spec_link.specs.Parts.{NothingToWrite, SomethingToWrite, MayTake, NothingHeld, SomethingHeld}
use Rattle.spec_link.proofs.PutLemmas.{same_long}
use Rattle.link_side.specs.Kept.{Kept, past_by, HasRun, IsAlive, IsAtRest, whole}

-- ---- what was heard means something

-- all that was read is heard
pub rest_heard : (opts : EngineOpts) (acts : List LinkAct) (k : Kept) → k.unfed ≡ [] → (r : HasRun opts acts k) → r.heard ≡ heard_of acts
rest_heard opts acts k none r = sym (append-nil r.heard) ∙ ap (λ (l : List ℕ). r.heard ++ l) (sym none) ∙ r.split

pub some_meaning : (opts : EngineOpts) (acts : List LinkAct) (k : Kept) → k.unfed ≡ [] → IsCurrent k.engine → HasRun opts acts k → (d : Decoded) × Decodes opts (heard_of acts) d
some_meaning opts acts k none now r =
    let m = means opts r.heard (put_of acts ++ option_to_list k.held) k.engine.listening r.follows.listens now in
    (m.0, subst (λ (l : List ℕ). Decodes opts l m.0) (rest_heard opts acts k none r) m.1.decodes)

-- what the engine has left, for any meaning of all that the link gave
pub rest_left : (opts : EngineOpts) (acts : List LinkAct) (k : Kept) → k.unfed ≡ [] → (r : HasRun opts acts k) → (d : Decoded) → Decodes opts (heard_of acts) d
    → HasLeft (past_by opts acts r.heard k.held r.put) k.engine d
rest_left opts acts k none r d decodes =
    has_left (past_by opts acts r.heard k.held r.put) k.engine d r.follows (subst (λ (l : List ℕ). Decodes opts l d) (sym (rest_heard opts acts k none r)) decodes)

-- ---- what is to be written

-- what the engine put is what is to be said
pub put_to_say : (opts : EngineOpts) (acts : List LinkAct) (k : Kept) → k.unfed ≡ [] → IsCurrent k.engine → (r : HasRun opts acts k) → (d : Decoded) → Decodes opts (heard_of acts) d
    → AreToSay opts acts d r.put
put_to_say opts acts k none now r d decodes =
    let f = r.follows in
    let ours : commands_in r.put ≡ d.said = (rest_left opts acts k none r d decodes).all_said now in
    record {
      messages = r.offered;
      ours = ours;
      later = sends f.messages;
      first = f.put ∙ ap (λ (cs : List Command). says cs ++ sends f.messages) (sym (commands_put (past_by opts acts r.heard k.held r.put) k.engine f) ∙ ours);
    }

-- what is written and what is left are all of its octets
pub said_left : (opts : EngineOpts) (acts : List LinkAct) (k : Kept) → k.unfed ≡ [] → (r : HasRun opts acts k) → (d : Decoded) → Decodes opts (heard_of acts) d
    → said_of acts ++ unwritten k.engine ≡ octets_to_say opts.role r.put
said_left opts acts k none r d decodes = (rest_left opts acts k none r d decodes).written

pub nothing_to_write : (opts : EngineOpts) (acts : List LinkAct) (k : Kept) → k.unfed ≡ [] → IsCurrent k.engine → unwritten k.engine ≡ [] → HasRun opts acts k → NothingToWrite opts acts
nothing_to_write opts acts k none now all r = λ d decodes. (
  r.put,
  put_to_say opts acts k none now r d decodes,
  sym (append-nil (said_of acts)) ∙ ap (λ (l : List ℕ). said_of acts ++ l) (sym all) ∙ said_left opts acts k none r d decodes,
)

no_octets : (xs : List ℕ) → length xs ≡ 0 → xs ≡ []
no_octets [] e = refl
no_octets (x ∷ xs) e = absurd cc

pub something_to_write : (opts : EngineOpts) (acts : List LinkAct) (k : Kept) → k.unfed ≡ [] → IsCurrent k.engine → (unwritten k.engine ≡ [] → ⊥) → HasRun opts acts k → SomethingToWrite opts acts
something_to_write opts acts k none now some r = λ d decodes all.
    let long = sym (length-append (said_of acts) (unwritten k.engine)) ∙ ap (λ (l : List ℕ). length l) (said_left opts acts k none r d decodes) in
    let same = same_long opts acts d r.put all.0 (put_to_say opts acts k none now r d decodes) all.1 in
    let said = ap (λ (l : List ℕ). length l) all.2 in
    some (no_octets (unwritten k.engine) (omega (arith, long, same, said)))

nil_front : {A : Type 0} (xs ys : List A) → xs ++ ys ≡ [] → xs ≡ []
nil_front [] ys e = refl
nil_front (x ∷ xs) ys e = absurd cc

-- where octets are lent, some are unwritten
pub some_left : (c : Conversation) (out : List ℕ) → ((rest : List ℕ) × (unwritten c ≡ out ++ rest)) → 1 ≤ length out → unwritten c ≡ [] → ⊥
some_left c out k some none = (let l = ap (λ (l : List ℕ). length l) (nil_front out k.0 (sym k.1 ∙ none)) in absurd (omega (arith, some, l)))

-- ---- what is held

-- what is whole and not put waits
pub messages_left : (opts : EngineOpts) (acts : List LinkAct) (k : Kept) → k.unfed ≡ [] → IsCurrent k.engine → HasRun opts acts k → (d : Decoded) → Decodes opts (heard_of acts) d
    → d.messages ≡ put_of acts ++ whole k
messages_left opts acts k none now r d decodes =
    sym ((rest_left opts acts k none r d decodes).all_given now) ∙ append_assoc (put_of acts) (option_to_list k.held) (waiting k.engine)

-- nothing waits where nothing is held, at rest
pub rest_whole : (k : Kept) → IsAtRest k → k.held ≡ None → whole k ≡ []
rest_whole k rest none = ap (λ (o : Option Frames). option_to_list o ++ waiting k.engine) none ∙ rest.drained none

pub nothing_held : (opts : EngineOpts) (acts : List LinkAct) (k : Kept) → k.unfed ≡ [] → IsCurrent k.engine → whole k ≡ [] → HasRun opts acts k → NothingHeld opts acts
nothing_held opts acts k none now all r = λ d decodes.
    sym (messages_left opts acts k none now r d decodes ∙ ap (λ (l : List Frames). put_of acts ++ l) all ∙ append-nil (put_of acts))

held_some : (o : Option Frames) (queue : List Frames) → IsSome o → option_to_list o ++ queue ≡ [] → ⊥
held_some None queue some e = absurd cc
held_some (Some m) queue some e = absurd cc

pub something_held : (opts : EngineOpts) (acts : List LinkAct) (k : Kept) → k.unfed ≡ [] → IsCurrent k.engine → IsSome k.held → HasRun opts acts k → SomethingHeld opts acts
something_held opts acts k none now some r = λ d decodes all.
    held_some k.held (waiting k.engine) some
    (append_cancel_left (put_of acts) (whole k) [] (sym (messages_left opts acts k none now r d decodes) ∙ sym all ∙ sym (append-nil (put_of acts))))

-- ---- a message that is held

-- what all of a list have, one of them has
all_at : (P : Frames → Type 0) (xs ys : List Frames) (m : Frames) → All P (xs ++ m ∷ ys) → P m
all_at P [] ys m a = All-head P m ys a
all_at P (x ∷ xs) ys m a = all_at P xs ys m (All-tail P x (xs ++ m ∷ ys) a)

-- the message that is held may be committed
pub held_fits : (k : Kept) (m : Frames) → IsAlive k → IsCurrent k.engine → k.held ≡ Some m → IsCommittable m
held_fits k m alive now e =
    let opts = alive.0 in
    let acts = alive.1 in
    let r = alive.2 in
    let d = means opts r.heard (put_of acts ++ option_to_list k.held) k.engine.listening r.follows.listens now in
    let messages : d.0.messages ≡ put_of acts ++ (m ∷ waiting k.engine) =
    d.1.messages ∙ ap (λ (o : Option Frames). (put_of acts ++ option_to_list o) ++ waiting k.engine) e ∙ append_assoc (put_of acts) (m ∷ []) (waiting k.engine) in
    let one : IsSendable m = all_at IsSendable (put_of acts) (waiting k.engine) m (subst (λ (l : List Frames). All IsSendable l) messages (all_sendable opts r.heard d.0 d.1.decodes)) in
    (one.0, one.1)

-- ---- before the first octet

none_decoded : (opts : EngineOpts) (d : Decoded) → Decodes opts [] d → d.messages ≡ []
none_decoded opts d (greeting_unfinished j e) = ap (λ (x : Decoded). x.messages) e
none_decoded opts d (greeting_refused r g e) = ap (λ (x : Decoded). x.messages) e
none_decoded opts d (unfinished frames rest s cut e) =
    (let l = ap (λ (l : List ℕ). length l) (nil_front s.greeting _ (sym s.all)) in absurd (omega (arith, l, s.whole)))
none_decoded opts d (refused frames rest cause heard s b e) =
    (let l = ap (λ (l : List ℕ). length l) (nil_front s.greeting _ (sym s.all)) in absurd (omega (arith, l, s.whole)))

pub rest_new : (opts : EngineOpts) (k : Kept) → k.unfed ≡ [] → Follows (no_past opts) k.engine → IsCurrent k.engine → IsAtRest k
rest_new opts k none f now =
    let d = means opts [] [] k.engine.listening f.listens now in
    record { fed = none; current = now; drained = λ _. sym d.1.messages ∙ none_decoded opts d.0 d.1.decodes }

-- ---- what may be taken

pub running_by : (o : Outcome) (q : Option Peer) (peer : Peer) → standing_at o q ≡ Runs peer → (q ≡ Some peer) × ((n : ℕ) × (o ≡ Unfinished n))
running_by (Refused r) q peer e = absurd cc
running_by (Unfinished n) None peer e = absurd cc
running_by (Unfinished n) (Some x) peer e = (cc, (n, refl))

-- a part of a stream that stands so
abbrev pub StandsAs : Standing → Conversation → Type 0
StandsAs s c = (p : Past) (d : Decoded) → Follows p c → IsCurrent c → IsMeaning p d → s ≡ standing_at d.outcome d.peer

-- how the stream stands by all that the link gave
pub stands_as : (s : Standing) (opts : EngineOpts) (acts : List LinkAct) (k : Kept) → k.unfed ≡ [] → IsCurrent k.engine → StandsAs s k.engine → HasRun opts acts k
    → (d : Decoded) → Decodes opts (heard_of acts) d → s ≡ standing_at d.outcome d.peer
stands_as s opts acts k none now says r d decodes = says (past_by opts acts r.heard k.held r.put) d r.follows now (rest_left opts acts k none r d decodes).meaning

pub known_some : (q : Option Peer) (peer : Peer) → q ≡ Some peer → IsSome q
known_some q peer e = subst (λ (o : Option Peer). IsSome o) (sym e) refl

pub take_due : (opts : EngineOpts) (acts : List LinkAct) (k : Kept) (peer : Peer) → k.unfed ≡ [] → IsCurrent k.engine → unwritten k.engine ≡ [] → StandsAs (Runs peer) k.engine
    → HasRun opts acts k → MayTake opts acts
take_due opts acts k peer none now all says r = λ d decodes.
    let q = running_by d.outcome d.peer peer (sym (stands_as (Runs peer) opts acts k none now says r d decodes)) in (
      nothing_to_write opts acts k none now all r d decodes,
      record { known = known_some d.peer peer q.0; rest = q.1.0; fine = q.1.1 },
    )

-- a stream that runs isn't one that shakes hands or is refused
pub running_stands : (o : Outcome) (q : Option Peer) (n : ℕ) → o ≡ Unfinished n → IsSome q → (peer : Peer) × (standing_at o q ≡ Runs peer)
running_stands (Refused r) q n e some = absurd cc
running_stands (Unfinished m) None n e some = absurd cc
running_stands (Unfinished m) (Some x) n e some = (x, refl)

pub take_waits_state : (opts : EngineOpts) (acts : List LinkAct) (k : Kept) (s : Standing) → k.unfed ≡ [] → IsCurrent k.engine → ((peer : Peer) → s ≡ Runs peer → ⊥) → StandsAs s k.engine
    → HasRun opts acts k → MayTake opts acts → ⊥
take_waits_state opts acts k s none now differs says r may =
    let m = some_meaning opts acts k none now r in
    let running = (may m.0 m.1).1 in
    let q = running_stands m.0.outcome m.0.peer running.rest running.fine running.known in
    differs q.0 (stands_as s opts acts k none now says r m.0 m.1 ∙ q.1)

pub take_waits_out : (opts : EngineOpts) (acts : List LinkAct) (k : Kept) → k.unfed ≡ [] → IsCurrent k.engine → (unwritten k.engine ≡ [] → ⊥)
    → HasRun opts acts k → MayTake opts acts → ⊥
take_waits_out opts acts k none now some r may =
    let m = some_meaning opts acts k none now r in
    something_to_write opts acts k none now some r m.0 m.1 (may m.0 m.1).0

pub shaking_differs : (peer : Peer) → IsShaking ≡ Runs peer → ⊥
shaking_differs peer e = absurd cc

pub refused_differs : (x : Refusal) (peer : Peer) → IsRefused x ≡ Runs peer → ⊥
refused_differs x peer e = absurd cc
