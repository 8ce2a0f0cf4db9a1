-- Messages behind a whole handshake are heard as they were written.
use Rattle.std.proofs.Common.{◌≡◌, ℕ, suc, ◌+◌, ◌<◌, ◌≤◌, Bool, cond, ltb, eqb, List, [], ◌∷◌, ◌++◌, length, Option, Some, None, refl, sym, ap, subst, inl, inr, ◌∙◌, append_assoc, arith}
use Rattle.std.specs.Prelude.{◌⊎◌, IsSome, All}
use Rattle.std.specs.List.{flat_map}
use Rattle.std.proofs.lemmas.Bool.{ne_eqb}
use Rattle.std.proofs.lemmas.List.{append-nil, length-append, nil_from_length}
use Rattle.std.proofs.lemmas.List.Concat.{flat_map-cons}
use Rattle.zq_base.specs.declared.options.EngineOpts.{EngineOpts}
use Rattle.zq_base.specs.declared.options.Peer.{Peer}
use Rattle.zq_base.specs.declared.options.Role.{Role}
use Rattle.zq_base.specs.declared.options.Role.TheVariants.{Null, PlainClient, PlainServer}
use Rattle.zq_base.specs.Message.{IsFrame}
use Rattle.spec_zmtp.specs.declared.cause.Cause.TheVariants.{TooManyParts}
use Rattle.spec_zmtp.specs.declared.flags.FrameKind.{FrameKind}
use Rattle.spec_zmtp.specs.declared.flags.FrameKind.TheVariants.{Last, More}
use Rattle.spec_zmtp.specs.declared.flags.Flags.{Flags}
use Rattle.spec_zmtp.specs.declared.handshake.Awaited.{Awaited}
use Rattle.spec_zmtp.specs.declared.handshake.Stage.{Stage}
use Rattle.spec_zmtp.specs.declared.handshake.Stage.TheVariants.{Waiting, Running, Refused}
use Rattle.spec_zmtp.specs.FrameFlags.{limit}
use Rattle.spec_zmtp.specs.FrameEncoding.{WireFrame, octets_of, encode_frame, encode_message}
use Rattle.spec_zmtp.specs.FrameRules.{Gathered, gathered, bodies, items_of, item_at, item_refusal, flags_refusal, kind_refusal, Keeps, AllKeep, at_flags}
use Rattle.spec_zmtp.specs.Handshake.{Item, MessageFrame, Handshake, silent, followed_by, handshake, handshake_as, next, stage_refusal}
use Rattle.spec_zmtp.specs.DecodedStream.{Decoded, Decodes, octets_said, Outcome, Unfinished, greeting_unfinished, greeting_refused, unfinished, refused, stream_of, behind_frames, unfinished_behind, refused_behind, IsStream}
use Rattle.spec_zmtp.specs.Put.{IsSendable, messages_in}
use Rattle.spec_zmtp.proofs.FlagLemmas.{flags_at-flags_octet}
use Rattle.spec_zmtp.proofs.HandshakeLemmas.{handshake-more, peer-waiting}
use Rattle.spec_zmtp.proofs.SizeLemmas.{fits_size}
use Rattle.spec_zmtp.proofs.RuleLemmas.{stream_of-push, items_of-push, gathered-push, AllKeep-push}
use Rattle.spec_zmtp.proofs.StreamLemmas.{one_meaning}
use Rattle.zmtp_engine.specs.Conversation.{Past, Conversation, Follows, IsCurrent, unwritten, waiting}
use Rattle.zmtp_engine.specs.Exchange.{IsHandshake}
use Rattle.zmtp_engine.proofs.Calls.{messages_put}
use Rattle.zmtp_engine.proofs.Ends.{parts_after, queue_after, gathered_parts, gathered_whole, or_none}
use Rattle.zmtp_engine.proofs.Meaning.{means}
use Rattle.zmtp_engine.proofs.Verdicts.{kind_is}

-- whole frames behind a done handshake: the messages that they make, and the frames of the one that is unfinished
pub record Runs (opts : EngineOpts) (octets : List ℕ) (h : Handshake) (whole : List (List (List ℕ))) (parts : List (List ℕ)) : Type 0 where
  pub frames : List WireFrame
  pub stream : IsStream opts octets frames []
  pub shaken : handshake opts (items_of frames) ≡ h
  pub whole_is : (gathered frames).whole ≡ whole
  pub parts_are : parts ≡ bodies (gathered frames).unfinished

-- ---- one frame more

limit_is : (k : FrameKind) → (k ≡ Last) ⊎ (k ≡ More) → limit k ≡ 16777216
limit_is k (inl e) = ap limit e
limit_is k (inr e) = ap limit e

item_is : (k : FrameKind) (body : List ℕ) → (k ≡ Last) ⊎ (k ≡ More) → item_at k body ≡ MessageFrame
item_is k body (inl e) = ap (λ (j : FrameKind). item_at j body) e
item_is k body (inr e) = ap (λ (j : FrameKind). item_at j body) e

room_left : (n : ℕ) → n < 1023 → cond (eqb n 1023) (Some TooManyParts) None ≡ None
room_left n lt = ap (λ (b : Bool). cond b (Some TooManyParts) None) (ne_eqb n 1023 (λ e. absurd (omega arith)))

kind_passes : (opts : EngineOpts) (frames : List WireFrame) (parts : List (List ℕ)) (k : FrameKind) → (k ≡ Last) ⊎ (k ≡ More) → (handshake opts (items_of frames)).stage ≡ Running → parts ≡ bodies (gathered frames).unfinished → length parts < 1023
    → kind_refusal opts frames k ≡ None
kind_passes opts frames parts k (inl e) run p few = ap (λ (j : FrameKind). kind_refusal opts frames j) e ∙ kind_is opts frames Running parts Last (sym run) refl p ∙ room_left (length parts) few
kind_passes opts frames parts k (inr e) run p few = ap (λ (j : FrameKind). kind_refusal opts frames j) e ∙ kind_is opts frames Running parts More (sym run) refl p ∙ room_left (length parts) few

still : (h : Handshake) → h.stage ≡ Running → followed_by h (silent Running) ≡ h
still h run = rw (append-nil h.said, or_none h.peer, run) refl

-- a message frame adds nothing to a done handshake
quiet : (opts : EngineOpts) (items : List Item) (h : Handshake) → handshake opts items ≡ h → h.stage ≡ Running → handshake opts (items ++ MessageFrame ∷ []) ≡ h
quiet opts items h is run =
    handshake-more opts items MessageFrame ∙ ap (λ (x : Handshake). followed_by x (next opts x.stage MessageFrame)) is ∙ ap (λ (s : Stage). followed_by h (next opts s MessageFrame)) run ∙ still h run

-- the frame that is written of a body
abbrev pub written : FrameKind → List ℕ → WireFrame
written k body = record { kind = k; long = ltb 255 (length body); body = body }

keeps : (opts : EngineOpts) (frames : List WireFrame) (h : Handshake) (parts : List (List ℕ)) (k : FrameKind) (body : List ℕ) → (k ≡ Last) ⊎ (k ≡ More) → handshake opts (items_of frames) ≡ h → h.stage ≡ Running → parts ≡ bodies (gathered frames).unfinished
    → length parts < 1023 → length body ≤ 16777216 → Keeps opts frames (written k body)
keeps opts frames h parts k body which is run p few le = record {
  frame = record { fits = fits_size (length body) le; within = omega (arith, limit_is k which) };
  in_place = ap (λ (f : Option Flags). flags_refusal opts frames f) (flags_at-flags_octet k (ltb 255 (length body))) ∙ kind_passes opts frames parts k which (ap (λ (x : Handshake). x.stage) is ∙ run) p few;
  heard = ap (λ (i : Item). item_refusal opts frames i) (item_is k body which) ∙ ap (λ (x : Handshake). stage_refusal x.stage) (quiet opts (items_of frames) h is run) ∙ ap stage_refusal run;
}

-- one more frame that keeps the rules
pub stream_push : (opts : EngineOpts) (octets : List ℕ) (frames : List WireFrame) (f : WireFrame) → IsStream opts octets frames [] → Keeps opts frames f → IsStream opts (octets ++ octets_of f) (frames ++ f ∷ []) []
stream_push opts octets frames f s one = record {
  greeting = s.greeting;
  whole = s.whole;
  accepted = s.accepted;
  all = ap (λ (x : List ℕ). x ++ octets_of f) (s.all ∙ ap (λ (x : List ℕ). s.greeting ++ x) (append-nil (stream_of frames))) ∙ append_assoc s.greeting (stream_of frames) (octets_of f)
      ∙ ap (λ (x : List ℕ). s.greeting ++ x) (sym (stream_of-push frames f) ∙ sym (append-nil (stream_of (frames ++ f ∷ []))));
  keep = AllKeep-push opts [] frames f s.keep one;
}

one_more : (opts : EngineOpts) (octets : List ℕ) (h : Handshake) (whole : List (List (List ℕ))) (parts : List (List ℕ)) (k : FrameKind) (body : List ℕ) → (k ≡ Last) ⊎ (k ≡ More) → h.stage ≡ Running → length parts < 1023 → length body ≤ 16777216
    → Runs opts octets h whole parts → Runs opts (octets ++ encode_frame k body) h (queue_after k whole parts body) (parts_after k parts body)
one_more opts octets h whole parts k body which run few le r =
    let f : WireFrame = written k body in
    let one = keeps opts r.frames h parts k body which r.shaken run r.parts_are few le in
    let g = gathered-push r.frames f in
    record {
      frames = r.frames ++ f ∷ [];
      stream = stream_push opts octets r.frames f r.stream one;
      shaken = ap (λ (i : List Item). handshake opts i) (items_of-push r.frames f ∙ ap (λ (i : Item). items_of r.frames ++ i ∷ []) (item_is k body which)) ∙ quiet opts (items_of r.frames) h r.shaken run;
      whole_is = ap (λ (x : Gathered). x.whole) g ∙ gathered_whole k f (gathered r.frames) parts [] whole r.parts_are r.whole_is;
      parts_are = gathered_parts k f (gathered r.frames) parts r.parts_are ∙ sym (ap (λ (x : Gathered). bodies x.unfinished) g);
    }

-- ---- messages

all_tail : {X : Type 0} (P : X → Type 0) (x : X) (xs : List X) → All P (x ∷ xs) → All P xs
all_tail P x xs h = λ k d lt. h (suc k) d (omega arith)

frames_more : (opts : EngineOpts) (octets : List ℕ) (h : Handshake) (whole : List (List (List ℕ))) (parts m : List (List ℕ)) → h.stage ≡ Running → 0 < length m → length parts + length m ≤ 1023 → All IsFrame m
    → Runs opts octets h whole parts → Runs opts (octets ++ encode_message m) h (whole ++ (parts ++ m) ∷ []) []
frames_more opts octets h whole parts [] run some few all r = absurd (omega arith)
frames_more opts octets h whole parts (body ∷ []) run some few all r = one_more opts octets h whole parts Last body (inl refl) run (omega arith) (all 0 [] (omega arith)) r
frames_more opts octets h whole parts (body ∷ b ∷ m) run some few all r =
    let one = one_more opts octets h whole parts More body (inr refl) run (omega arith) (all 0 [] (omega arith)) r in
    let rest = frames_more opts (octets ++ encode_frame More body) h whole (parts ++ body ∷ []) (b ∷ m) run (omega arith) (omega (arith, length-append parts (body ∷ []))) (all_tail IsFrame body (b ∷ m) all) one in
    subst (λ (o : List ℕ). Runs opts o h (whole ++ (parts ++ body ∷ b ∷ m) ∷ []) []) (append_assoc octets (encode_frame More body) (encode_message (b ∷ m)))
    (subst (λ (x : List (List ℕ)). Runs opts ((octets ++ encode_frame More body) ++ encode_message (b ∷ m)) h (whole ++ x ∷ []) []) (append_assoc parts (body ∷ []) (b ∷ m)) rest)

messages_more : (opts : EngineOpts) (octets : List ℕ) (h : Handshake) (whole ms : List (List (List ℕ))) → h.stage ≡ Running → All IsSendable ms → Runs opts octets h whole [] → Runs opts (octets ++ flat_map encode_message ms) h (whole ++ ms) []
messages_more opts octets h whole [] run all r = rw (append-nil octets, append-nil whole) r
messages_more opts octets h whole (m ∷ ms) run all r =
    let good : IsSendable m = all 0 [] (omega arith) in
    let one = frames_more opts octets h whole [] m run (omega (arith, good.0)) (omega (arith, good.1)) good.2 r in
    let rest = messages_more opts (octets ++ encode_message m) h (whole ++ m ∷ []) ms run (all_tail IsSendable m ms all) one in
    subst (λ (o : List ℕ). Runs opts o h (whole ++ m ∷ ms) []) (append_assoc octets (encode_message m) (flat_map encode_message ms) ∙ ap (λ (x : List ℕ). octets ++ x) (sym (flat_map-cons encode_message m ms)))
    (subst (λ (x : List (List (List ℕ))). Runs opts ((octets ++ encode_message m) ++ flat_map encode_message ms) h x []) (append_assoc whole (m ∷ []) ms) rest)

-- ---- what whole frames mean

abbrev pub decoded_at : EngineOpts → Handshake → List (List (List ℕ)) → Decoded
decoded_at opts h whole = record { said = h.said; peer = h.peer; messages = whole; outcome = Unfinished 0 }

no_bodies : (fs : List WireFrame) → [] ≡ bodies fs → fs ≡ []
no_bodies [] e = refl
no_bodies (f ∷ fs) e = absurd cc

pub runs_mean : (opts : EngineOpts) (octets : List ℕ) (h : Handshake) (whole : List (List (List ℕ))) → Runs opts octets h whole [] → Decodes opts octets (decoded_at opts h whole)
runs_mean opts octets h whole r =
    let shaken : handshake opts (items_of r.frames ++ []) ≡ h = ap (λ (i : List Item). handshake opts i) (append-nil (items_of r.frames)) ∙ r.shaken in
    let none : (gathered r.frames).unfinished ≡ [] = no_bodies (gathered r.frames).unfinished r.parts_are in
    let is : behind_frames opts r.frames [] (unfinished_behind r.frames []) ≡ decoded_at opts h whole =
    ap (λ (x : Handshake). record { said = x.said; peer = x.peer; messages = (gathered r.frames).whole; outcome = unfinished_behind r.frames [] }) shaken
    ∙ ap (λ (w : List (List (List ℕ))). record { said = h.said; peer = h.peer; messages = w; outcome = unfinished_behind r.frames [] }) r.whole_is
    ∙ ap (λ (u : List WireFrame). record { said = h.said; peer = h.peer; messages = whole; outcome = Unfinished (length (stream_of u) + 0) }) none in
    unfinished r.frames [] r.stream (at_flags refl) (sym is)

-- ---- a whole handshake

first_stage : (role : Role) (opts : EngineOpts) → stage_refusal (handshake_as role opts []).stage ≡ None
first_stage Null opts = refl
first_stage PlainClient opts = refl
first_stage PlainServer opts = refl

-- frames that keep the rules leave the handshake unrefused
kept : (opts : EngineOpts) (before fs : List WireFrame) → stage_refusal (handshake opts (items_of before)).stage ≡ None → AllKeep opts before fs → stage_refusal (handshake opts (items_of (before ++ fs))).stage ≡ None
kept opts before [] none all = ap (λ (l : List WireFrame). stage_refusal (handshake opts (items_of l)).stage) (append-nil before) ∙ none
kept opts before (f ∷ fs) none all =
    let now : stage_refusal (handshake opts (items_of (before ++ f ∷ []))).stage ≡ None = ap (λ (i : List Item). stage_refusal (handshake opts i).stage) (items_of-push before f) ∙ all.0.heard in
    ap (λ (l : List WireFrame). stage_refusal (handshake opts (items_of l)).stage) (sym (append_assoc before (f ∷ []) fs)) ∙ kept opts (before ++ f ∷ []) fs now all.1

pub no_some : (p : Option Peer) → p ≡ None → IsSome p → ⊥
no_some p e some = let s : IsSome {T = Peer} None = subst (λ (q : Option Peer). IsSome q) e some in absurd cc

done : (s : Stage) → stage_refusal s ≡ None → ((a : Awaited) → s ≡ Waiting a → ⊥) → s ≡ Running
done (Waiting a) none known = absurd (known a refl)
done Running none known = refl
done (Refused cause) none known = absurd cc

no_stream : (fs : List WireFrame) → length (stream_of fs) ≡ 0 → fs ≡ []
no_stream [] e = refl
no_stream (f ∷ fs) e = absurd (omega (arith, ap (λ (l : List ℕ). length l) (flat_map-cons (λ r. octets_of r) f fs), e))

-- what a whole handshake leaves
record Done (opts : EngineOpts) (octets : List ℕ) (d : Decoded) : Type 0 where
  shaken : Handshake
  run : shaken.stage ≡ Running
  runs : Runs opts octets shaken d.messages []
  is : d ≡ decoded_at opts shaken d.messages

outcome_zero : (m n : ℕ) → Unfinished (m + n) ≡ Unfinished 0 → (m ≡ 0) × (n ≡ 0)
outcome_zero m n e = let s : m + n ≡ 0 = cc in (omega (arith, s), omega (arith, s))

at_rest : (opts : EngineOpts) (octets : List ℕ) (d : Decoded) (fs : List WireFrame) (x : List ℕ) → IsStream opts octets fs x → d ≡ behind_frames opts fs [] (unfinished_behind fs x) → IsSome d.peer → d.outcome ≡ Unfinished 0 → Done opts octets d
at_rest opts octets d fs x s is known whole =
    let h : Handshake = handshake opts (items_of fs) in
    let zero_left = outcome_zero (length (stream_of (gathered fs).unfinished)) (length x) (sym (ap (λ (e : Decoded). e.outcome) is) ∙ whole) in
    let rest : x ≡ [] = nil_from_length x zero_left.1 in
    let none : (gathered fs).unfinished ≡ [] = no_stream (gathered fs).unfinished zero_left.0 in
    let same : handshake opts (items_of fs ++ []) ≡ h = ap (λ (i : List Item). handshake opts i) (append-nil (items_of fs)) in
    let peer : d.peer ≡ h.peer = ap (λ (e : Decoded). e.peer) is ∙ ap (λ (y : Handshake). y.peer) same in
    let messages : d.messages ≡ (gathered fs).whole = ap (λ (e : Decoded). e.messages) is in
    record {
      shaken = h;
      run = done h.stage (kept opts [] fs (first_stage opts.role opts) s.keep) (λ a waits. no_some d.peer (peer ∙ peer-waiting opts (items_of fs) a waits) known);
      runs = record {
        frames = fs;
        stream = subst (λ (y : List ℕ). IsStream opts octets fs y) rest s;
        shaken = refl;
        whole_is = sym messages;
        parts_are = sym (ap bodies none);
      };
      is = is ∙ ap (λ (y : Handshake). record { said = y.said; peer = y.peer; messages = (gathered fs).whole; outcome = unfinished_behind fs x }) same
          ∙ ap (λ (w : List (List (List ℕ))). record { said = h.said; peer = h.peer; messages = w; outcome = unfinished_behind fs x }) (sym messages)
          ∙ ap (λ (o : Outcome). record { said = h.said; peer = h.peer; messages = d.messages; outcome = o }) (sym (ap (λ (e : Decoded). e.outcome) is) ∙ whole);
    }

is_done : (opts : EngineOpts) (octets : List ℕ) (d : Decoded) → Decodes opts octets d → IsSome d.peer → d.outcome ≡ Unfinished 0 → Done opts octets d
is_done opts octets d (greeting_unfinished j is) known whole = absurd (no_some d.peer (ap (λ (e : Decoded). e.peer) is) known)
is_done opts octets d (greeting_refused r j is) known whole = absurd (no_some d.peer (ap (λ (e : Decoded). e.peer) is) known)
is_done opts octets d (unfinished fs x s cut is) known whole = at_rest opts octets d fs x s is known whole
is_done opts octets d (refused fs x cause heard s breaks is) known whole =
    let both : Unfinished 0 ≡ refused_behind fs cause = sym whole ∙ ap (λ (e : Decoded). e.outcome) is in absurd cc

-- ---- what is written, and what is heard

abbrev with_messages : List (List (List ℕ)) → Decoded → Decoded
with_messages ms d = record d { messages = ms }

-- messages behind a whole handshake are decoded to those messages
pub messages_behind : (opts : EngineOpts) (octets : List ℕ) (d : Decoded) (ms : List (List (List ℕ))) → IsHandshake opts octets d → All IsSendable ms → Decodes opts (octets ++ flat_map encode_message ms) (record d { messages = ms })
messages_behind opts octets d ms shake all =
    let x = is_done opts octets d shake.decodes shake.known shake.whole in
    let runs = messages_more opts octets x.shaken d.messages ms x.run all x.runs in
    let only : d.messages ++ ms ≡ ms = ap (λ (l : List (List (List ℕ))). l ++ ms) shake.alone in
    let is : record d { messages = ms } ≡ decoded_at opts x.shaken ms = ap (with_messages ms) x.is in
    subst (λ (e : Decoded). Decodes opts (octets ++ flat_map encode_message ms) e) (sym is)
    (subst (λ (w : List (List (List ℕ))). Decodes opts (octets ++ flat_map encode_message ms) (decoded_at opts x.shaken w)) only
    (runs_mean opts (octets ++ flat_map encode_message ms) x.shaken (d.messages ++ ms) runs))

-- all that an engine says and was offered is written
pub all_written : (p : Past) (c : Conversation) (said : Decoded) → Follows p c → IsCurrent c → unwritten c ≡ [] → Decodes p.opts p.heard said → p.written ≡ octets_said p.opts said ++ flat_map encode_message (messages_in p.put)
all_written p c said f now none is =
    let m = means p.opts p.heard p.given c.listening f.listens now in
    let same : m.0 ≡ said = one_meaning p.opts p.heard m.0 said m.1.decodes is in
    sym (append-nil p.written) ∙ ap (λ (l : List ℕ). p.written ++ l) (sym none) ∙ f.all
    ∙ ap (λ (l : List ℕ). l ++ flat_map encode_message f.messages) (sym m.1.said ∙ ap (λ (d : Decoded). octets_said p.opts d) same)
    ∙ ap (λ (ms : List (List (List ℕ))). octets_said p.opts said ++ flat_map encode_message ms) (sym (messages_put p c f))

pub decodes_as_offered : (p : Past) (c : Conversation) (said : Decoded) (other : EngineOpts) (heard : Decoded) → Follows p c → IsCurrent c → unwritten c ≡ [] → All IsSendable (messages_in p.put) → Decodes p.opts p.heard said → IsHandshake other (octets_said p.opts said) heard → Decodes other p.written (record heard { messages = messages_in p.put })
decodes_as_offered p c said other heard f now none all is shake =
    subst (λ (o : List ℕ). Decodes other o (record heard { messages = messages_in p.put })) (sym (all_written p c said f now none is)) (messages_behind other (octets_said p.opts said) heard (messages_in p.put) shake all)

pub hears_as_offered : (p q : Past) (c e : Conversation) (said heard : Decoded) → Follows p c → IsCurrent c → unwritten c ≡ [] → All IsSendable (messages_in p.put) → Decodes p.opts p.heard said → Follows q e → IsCurrent e → q.heard ≡ p.written → IsHandshake q.opts (octets_said p.opts said) heard → q.given ++ waiting e ≡ messages_in p.put
hears_as_offered p q c e said heard f now none all is g now' same shake =
    let d = decodes_as_offered p c said q.opts heard f now none all is shake in
    let k = means q.opts q.heard q.given e.listening g.listens now' in
    let one : k.0 ≡ record heard { messages = messages_in p.put } = one_meaning q.opts p.written k.0 (record heard { messages = messages_in p.put }) (subst (λ (o : List ℕ). Decodes q.opts o k.0) same k.1.decodes) d in
    sym k.1.messages ∙ ap (λ (x : Decoded). x.messages) one
