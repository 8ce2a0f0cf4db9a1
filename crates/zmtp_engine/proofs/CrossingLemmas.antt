-- What of an engine's octets reaches another side, wherever the link is cut.
use Rattle.std.proofs.Common.{◌≡◌, ℕ, ◌<◌, ltb, List, [], ◌∷◌, ◌++◌, length, Option, Some, None, refl, sym, ap, subst, ◌∙◌, append_assoc, arith}
use Rattle.std.specs.Prelude.{IsSome, All, map}
use Rattle.std.specs.List.{flat_map, fold}
use mathlib.Core.List.{IsPrefix}
use Rattle.std.proofs.lemmas.List.{append-nil, map_push}
use Rattle.std.proofs.lemmas.List.Concat.{flat_map-append}
use Rattle.std.proofs.lemmas.List.Elements.{All-head, All-tail}
use Rattle.std.proofs.lemmas.List.Sums.{fold-append}
use Rattle.zq_base.specs.Message.{IsFrame}
use Rattle.zq_base.specs.declared.options.EngineOpts.{EngineOpts}
use Rattle.zq_base.specs.declared.options.Peer.{Peer}
use Rattle.zq_base.specs.declared.options.Role.{Role}
use Rattle.spec_zmtp.specs.declared.cause.Refusal.{Refusal}
use Rattle.spec_zmtp.specs.declared.command.Command as command
use Rattle.spec_zmtp.specs.declared.flags.FrameKind.{FrameKind}
use Rattle.spec_zmtp.specs.declared.flags.FrameKind.TheVariants.{Last, More}
use Rattle.spec_zmtp.specs.FrameEncoding.{WireFrame, IsWireFrame, octets_of, encode_frame, encode_message}
use Rattle.spec_zmtp.specs.FrameRules.{Gathered, gathered, gather_at, none_gathered, bodies, AllKeep}
use Rattle.spec_zmtp.specs.Greeting.{greeting_of}
use Rattle.spec_zmtp.specs.Put.{IsSendable, encode_said, encode_commands, messages_in}
use Rattle.spec_zmtp.specs.DecodedStream.{Decoded, Decodes, Refused, Unfinished, octets_said, stream_of, IsStream, greeting_unfinished, greeting_refused, unfinished, refused}
use Rattle.spec_zmtp.proofs.FrameLemmas.{same_front, one_frame}
use Rattle.spec_zmtp.proofs.MoreLemmas.{gathered_front, front_of}
use Rattle.spec_zmtp.proofs.SizeLemmas.{fits_size}
use Rattle.spec_zmtp.proofs.StreamLemmas.{one_meaning, refused_stays}
use Rattle.zmtp_mech.specs.Mechanism.{IsSayable}
use Rattle.zmtp_engine.specs.Listening.{said_now}
use Rattle.zmtp_engine.specs.Conversation.{Past, Conversation, Follows, unwritten}
use Rattle.zmtp_engine.specs.Exchange.{Fitting}
use Rattle.zmtp_engine.proofs.Calls.{messages_put}
use Rattle.zmtp_engine.proofs.Exchanges.{messages_behind}
use Rattle.zmtp_engine.proofs.FittingLemmas.{fitting_handshake}
use Rattle.zmtp_engine.proofs.Fronts.{fronts}
use Rattle.zmtp_engine.proofs.Meaning.{length-greeting_of}
use Rattle.zmtp_engine.proofs.SaidLemmas.{said_frame, said_wire}

-- ---- the frames that are written

abbrev frame_of : FrameKind → List ℕ → WireFrame
frame_of kind body = record { kind = kind; long = ltb 255 (length body); body = body }

-- the frames of a message
abbrev message_frames : List (List ℕ) → List WireFrame
message_frames [] = []
message_frames (body ∷ []) = frame_of Last body ∷ []
message_frames (body ∷ next ∷ more) = frame_of More body ∷ message_frames (next ∷ more)

abbrev frames_of : List command.Command → List (List (List ℕ)) → List WireFrame
frames_of cs ms = map said_frame cs ++ flat_map message_frames ms

stream_of-append : (fs gs : List WireFrame) → stream_of (fs ++ gs) ≡ stream_of fs ++ stream_of gs
stream_of-append fs gs = flat_map-append (λ f. octets_of f) fs gs

said_stream : (cs : List command.Command) → stream_of (map said_frame cs) ≡ encode_commands cs
said_stream [] = refl
said_stream (c ∷ cs) = ap (λ (l : List ℕ). octets_of (said_frame c) ++ l) (said_stream cs)

message_stream : (m : List (List ℕ)) → stream_of (message_frames m) ≡ encode_message m
message_stream [] = refl
message_stream (body ∷ []) = append-nil (encode_frame Last body)
message_stream (body ∷ next ∷ more) = ap (λ (l : List ℕ). encode_frame More body ++ l) (message_stream (next ∷ more))

messages_stream : (ms : List (List (List ℕ))) → stream_of (flat_map message_frames ms) ≡ flat_map encode_message ms
messages_stream [] = refl
messages_stream (m ∷ ms) =
    stream_of-append (message_frames m) (flat_map message_frames ms) ∙ ap (λ (l : List ℕ). l ++ stream_of (flat_map message_frames ms)) (message_stream m) ∙ ap (λ (l : List ℕ). encode_message m ++ l) (messages_stream ms)

frames_stream : (cs : List command.Command) (ms : List (List (List ℕ))) → stream_of (frames_of cs ms) ≡ encode_commands cs ++ flat_map encode_message ms
frames_stream cs ms =
    stream_of-append (map said_frame cs) (flat_map message_frames ms) ∙ ap (λ (l : List ℕ). l ++ stream_of (flat_map message_frames ms)) (said_stream cs) ∙ ap (λ (l : List ℕ). encode_commands cs ++ l) (messages_stream ms)

-- ---- the messages that they make

abbrev gather_on : Gathered → List WireFrame → Gathered
gather_on g fs = fold (λ g f. gather_at f.kind f g) g fs

said_gathered : (g : Gathered) (cs : List command.Command) → gather_on g (map said_frame cs) ≡ g
said_gathered g [] = refl
said_gathered g (c ∷ cs) = said_gathered g cs

message_gathered : (w : List (List (List ℕ))) (u : List WireFrame) (m : List (List ℕ)) → 0 < length m
    → gather_on (record { whole = w; unfinished = u }) (message_frames m) ≡ record { whole = w ++ (bodies u ++ m) ∷ []; unfinished = [] }
message_gathered w u [] some = absurd (omega arith)
message_gathered w u (body ∷ []) some = ap (λ (m : List (List ℕ)). record { whole = w ++ m ∷ []; unfinished = [] }) (map_push _ u (frame_of Last body))
message_gathered w u (body ∷ next ∷ more) some =
    message_gathered w (u ++ frame_of More body ∷ []) (next ∷ more) (omega arith)
    ∙ ap (λ (m : List (List ℕ)). record { whole = w ++ m ∷ []; unfinished = [] })
    (ap (λ (b : List (List ℕ)). b ++ (next ∷ more)) (map_push _ u (frame_of More body)) ∙ append_assoc (bodies u) (body ∷ []) (next ∷ more))

messages_gathered : (w ms : List (List (List ℕ))) → All IsSendable ms → gather_on (record { whole = w; unfinished = [] }) (flat_map message_frames ms) ≡ record { whole = w ++ ms; unfinished = [] }
messages_gathered w [] all = ap (λ (x : List (List (List ℕ))). record { whole = x; unfinished = [] }) (sym (append-nil w))
messages_gathered w (m ∷ ms) all =
    let one : IsSendable m = All-head IsSendable m ms all in
    fold-append _ _ (message_frames m) (flat_map message_frames ms)
    ∙ ap (λ (g : Gathered). gather_on g (flat_map message_frames ms)) (message_gathered w [] m (omega (arith, one.0)))
    ∙ messages_gathered (w ++ m ∷ []) ms (All-tail IsSendable m ms all)
    ∙ ap (λ (x : List (List (List ℕ))). record { whole = x; unfinished = [] }) (append_assoc w (m ∷ []) ms)

frames_gathered : (cs : List command.Command) (ms : List (List (List ℕ))) → All IsSendable ms → (gathered (frames_of cs ms)).whole ≡ ms
frames_gathered cs ms all =
    ap (λ (g : Gathered). g.whole)
    (fold-append _ _ (map said_frame cs) (flat_map message_frames ms) ∙ ap (λ (g : Gathered). gather_on g (flat_map message_frames ms)) (said_gathered none_gathered cs) ∙ messages_gathered [] ms all)

-- ---- each can be told

abbrev AllWire : List WireFrame → Type 0
AllWire [] = Unit {0}
AllWire (f ∷ fs) = IsWireFrame f × AllWire fs

wire_append : (fs gs : List WireFrame) → AllWire fs → AllWire gs → AllWire (fs ++ gs)
wire_append [] gs h k = k
wire_append (f ∷ fs) gs h k = (h.0, wire_append fs gs h.1 k)

said_wires : (cs : List command.Command) → All IsSayable cs → AllWire (map said_frame cs)
said_wires [] all = tt
said_wires (c ∷ cs) all = (said_wire c (All-head IsSayable c cs all), said_wires cs (All-tail IsSayable c cs all))

last_wire : (body : List ℕ) → IsFrame body → IsWireFrame (frame_of Last body)
last_wire body le = record { fits = fits_size (length body) le; within = le }

more_wire : (body : List ℕ) → IsFrame body → IsWireFrame (frame_of More body)
more_wire body le = record { fits = fits_size (length body) le; within = le }

message_wires : (m : List (List ℕ)) → All IsFrame m → AllWire (message_frames m)
message_wires [] all = tt
message_wires (body ∷ []) all = (last_wire body (All-head IsFrame body [] all), tt)
message_wires (body ∷ next ∷ more) all = (more_wire body (All-head IsFrame body (next ∷ more) all), message_wires (next ∷ more) (All-tail IsFrame body (next ∷ more) all))

messages_wires : (ms : List (List (List ℕ))) → All IsSendable ms → AllWire (flat_map message_frames ms)
messages_wires [] all = tt
messages_wires (m ∷ ms) all =
    let one : IsSendable m = All-head IsSendable m ms all in
    wire_append (message_frames m) (flat_map message_frames ms) (message_wires m one.2) (messages_wires ms (All-tail IsSendable m ms all))

-- ---- a front of the octets

frames_front : (other : EngineOpts) (before gs fs : List WireFrame) (x : List ℕ) → AllKeep other before gs → AllWire fs → stream_of gs ++ x ≡ stream_of fs → (zs : List WireFrame) × (fs ≡ gs ++ zs)
frames_front other before [] fs x k w e = (fs, refl)
frames_front other before (g ∷ gs) [] x k w e = absurd (omega (arith, ap (λ (l : List ℕ). length l) (sym (front_of g gs x) ∙ e)))
frames_front other before (g ∷ gs) (f ∷ fs) x k w e =
    let one = one_frame g f (stream_of gs ++ x) (stream_of fs) k.0.frame w.0 (sym (front_of g gs x) ∙ e) in
    let rest = frames_front other (before ++ g ∷ []) gs fs x k.1 w.1 one.rest in
    (rest.0, ap (λ (l : List WireFrame). f ∷ l) rest.1 ∙ ap (λ (h : WireFrame). h ∷ (gs ++ rest.0)) (sym one.frame))

cut_frames : (other : EngineOpts) (front more greeting : List ℕ) (fs gs : List WireFrame) (x : List ℕ) → length greeting ≡ 64 → front ++ more ≡ greeting ++ stream_of fs → AllWire fs → IsStream other front gs x
    → (zs : List WireFrame) × (fs ≡ gs ++ zs)
cut_frames other front more greeting fs gs x len all w s =
    let split : s.greeting ++ (stream_of gs ++ (x ++ more)) ≡ greeting ++ stream_of fs =
    ap (λ (l : List ℕ). s.greeting ++ l) (sym (append_assoc (stream_of gs) x more)) ∙ sym (append_assoc s.greeting (stream_of gs ++ x) more) ∙ ap (λ (l : List ℕ). l ++ more) (sym s.all) ∙ all in
    frames_front other [] gs fs (x ++ more) s.keep w (same_front s.greeting greeting (stream_of gs ++ (x ++ more)) (stream_of fs) (s.whole ∙ sym len) split).1

cut_messages : (other : EngineOpts) (front more greeting : List ℕ) (fs gs : List WireFrame) (x : List ℕ) (ms : List (List (List ℕ))) → length greeting ≡ 64 → front ++ more ≡ greeting ++ stream_of fs → AllWire fs → (gathered fs).whole ≡ ms → IsStream other front gs x
    → IsPrefix (gathered gs).whole ms
cut_messages other front more greeting fs gs x ms len all w is s =
    let z = cut_frames other front more greeting fs gs x len all w s in
    subst (λ (l : List (List (List ℕ))). IsPrefix (gathered gs).whole l) (ap (λ (l : List WireFrame). (gathered l).whole) (sym z.1) ∙ is) (gathered_front gs z.0)

as_messages : (d e : Decoded) (ms : List (List (List ℕ))) → d ≡ e → IsPrefix e.messages ms → IsPrefix d.messages ms
as_messages d e ms is p = subst (λ (x : Decoded). IsPrefix x.messages ms) (sym is) p

decoded_front : (other : EngineOpts) (front more greeting : List ℕ) (fs : List WireFrame) (ms : List (List (List ℕ))) (e : Decoded) → length greeting ≡ 64 → front ++ more ≡ greeting ++ stream_of fs → AllWire fs → (gathered fs).whole ≡ ms → Decodes other front e
    → IsPrefix e.messages ms
decoded_front other front more greeting fs ms e len all w is (greeting_unfinished j d) = as_messages e _ ms d (ms, refl)
decoded_front other front more greeting fs ms e len all w is (greeting_refused r j d) = as_messages e _ ms d (ms, refl)
decoded_front other front more greeting fs ms e len all w is (unfinished gs x s cut d) = as_messages e _ ms d (cut_messages other front more greeting fs gs x ms len all w is s)
decoded_front other front more greeting fs ms e len all w is (refused gs x c heard s b d) = as_messages e _ ms d (cut_messages other front more greeting fs gs x ms len all w is s)

sendable : (p : Past) (c : Conversation) (f : Follows p c) → All IsSendable (messages_in p.put) → All IsSendable f.messages
sendable p c f all = subst (λ (ms : List (List (List ℕ))). All IsSendable ms) (messages_put p c f) all

-- whatever front of what is said and offered a side is fed, the messages that it decodes are a front of those offered
pub front_decodes : (role : Role) (cs : List command.Command) (ms : List (List (List ℕ))) (front : List ℕ) (other : EngineOpts) (e : Decoded) → All IsSayable cs → All IsSendable ms
    → IsPrefix front (greeting_of role ++ (encode_commands cs ++ flat_map encode_message ms)) → Decodes other front e → IsPrefix e.messages ms
front_decodes role cs ms front other e sayable good cut is =
    decoded_front other front cut.0 (greeting_of role) (frames_of cs ms) ms e (length-greeting_of role) (cut.1 ∙ ap (λ (l : List ℕ). greeting_of role ++ l) (sym (frames_stream cs ms)))
    (wire_append (map said_frame cs) (flat_map message_frames ms) (said_wires cs sayable) (messages_wires ms good)) (frames_gathered cs ms good) is

pub crosses : (p : Past) (c : Conversation) (front : List ℕ) (other : EngineOpts) (e : Decoded) → Follows p c → IsPrefix front p.written → All IsSendable (messages_in p.put) → Decodes other front e → IsPrefix e.messages (messages_in p.put)
crosses p c front other e f cut all is =
    let greeting : List ℕ = greeting_of p.opts.role in
    let whole : front ++ (cut.0 ++ unwritten c) ≡ greeting ++ (encode_commands f.commands ++ flat_map encode_message f.messages) =
    sym (append_assoc front cut.0 (unwritten c)) ∙ ap (λ (l : List ℕ). l ++ unwritten c) cut.1 ∙ f.all ∙ ap (λ (l : List ℕ). l ++ flat_map encode_message f.messages) f.said
    ∙ append_assoc greeting (encode_commands f.commands) (flat_map encode_message f.messages) in
    subst (λ (ms : List (List (List ℕ))). IsPrefix e.messages ms) (sym (messages_put p c f))
    (front_decodes p.opts.role f.commands f.messages front other e f.modest.1 (sendable p c f all) (cut.0 ++ unwritten c, whole) is)

-- ---- nothing is refused

-- what is put goes on to all that is said, and then the messages
put_front : (p : Past) (c : Conversation) (d : Decoded) (q : Option Peer) → c.listening.hearing.peer ≡ q → (f : Follows p c) → Decodes p.opts p.heard d
    → IsPrefix (said_now c.listening ++ flat_map encode_message f.messages) (octets_said p.opts d ++ flat_map encode_message f.messages)
put_front p c d (Some q) some f is =
    let k = fronts p.opts p.heard p.given c.listening d f.opts f.listens is in
    let same : said_now c.listening ≡ octets_said p.opts d = k.said ∙ ap (λ (cs : List command.Command). greeting_of p.opts.role ++ encode_commands cs) (k.known (subst (λ (o : Option Peer). IsSome o) (sym some) refl)) in
    ([], append-nil _ ∙ ap (λ (l : List ℕ). l ++ flat_map encode_message f.messages) same)
put_front p c d None none f is =
    let k = fronts p.opts p.heard p.given c.listening d f.opts f.listens is in
    let greeting : List ℕ = greeting_of p.opts.role in
    let no_message : flat_map encode_message f.messages ≡ [] = ap (λ (ms : List (List (List ℕ))). flat_map encode_message ms) (f.idle none).0 in
    let on : said_now c.listening ++ encode_commands k.front.0 ≡ octets_said p.opts d =
    ap (λ (l : List ℕ). l ++ encode_commands k.front.0) k.said ∙ append_assoc greeting (encode_commands k.commands) (encode_commands k.front.0)
    ∙ ap (λ (l : List ℕ). greeting ++ l) (sym (flat_map-append encode_said k.commands k.front.0) ∙ ap encode_commands k.front.1) in (
      encode_commands k.front.0,
      ap (λ (l : List ℕ). (said_now c.listening ++ l) ++ encode_commands k.front.0) no_message ∙ ap (λ (l : List ℕ). l ++ encode_commands k.front.0) (append-nil (said_now c.listening)) ∙ on
          ∙ sym (append-nil (octets_said p.opts d)) ∙ ap (λ (l : List ℕ). octets_said p.opts d ++ l) (sym no_message),
    )

no_refusal : (r : Refusal) (n : ℕ) → Unfinished n ≡ Refused r → ⊥
no_refusal r n e = absurd cc

pub none_refused : (p : Past) (c : Conversation) (d : Decoded) (front : List ℕ) (other : EngineOpts) (e : Decoded) → Follows p c → Decodes p.opts p.heard d → IsSome d.peer → IsPrefix front p.written → All IsSendable (messages_in p.put) → Fitting p.opts other
    → Decodes other front e → (r : Refusal) → e.outcome ≡ Refused r → ⊥
none_refused p c d front other e f is known cut all fit decodes r refuses =
    let good = sendable p c f all in
    let shake = fitting_handshake p.opts other p.heard d fit is known in
    let whole : List ℕ = octets_said p.opts d ++ flat_map encode_message f.messages in
    let means : Decodes other whole (record shake.0 { messages = f.messages }) = messages_behind other (octets_said p.opts d) shake.0 f.messages shake.1 good in
    let on = put_front p c d c.listening.hearing.peer refl f is in
    let rest : List ℕ = cut.0 ++ (unwritten c ++ on.0) in
    let split : front ++ rest ≡ whole =
    sym (append_assoc front cut.0 (unwritten c ++ on.0)) ∙ ap (λ (l : List ℕ). l ++ (unwritten c ++ on.0)) cut.1 ∙ sym (append_assoc p.written (unwritten c) on.0) ∙ ap (λ (l : List ℕ). l ++ on.0) f.all ∙ on.1 in
    let stays : Decodes other whole e = subst (λ (l : List ℕ). Decodes other l e) split (refused_stays other front rest e r decodes refuses) in
    let same = one_meaning other whole (record shake.0 { messages = f.messages }) e means stays in
    no_refusal r 0 (sym shake.1.whole ∙ ap (λ (x : Decoded). x.outcome) same ∙ refuses)
