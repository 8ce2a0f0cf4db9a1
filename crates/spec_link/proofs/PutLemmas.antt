-- What is put, by its octets.
use Rattle.std.proofs.Common.{◌≡◌, ℕ, ◌+◌, ◌≤◌, ltb, List, [], ◌∷◌, ◌++◌, length, refl, sym, ap, subst, ◌∙◌, append_assoc, arith}
use Rattle.std.specs.Prelude.{All}
use Rattle.std.specs.List.{flat_map}
use Rattle.std.proofs.lemmas.List.{append-nil, length-append, append_cancel_left}
use Rattle.std.proofs.lemmas.List.Concat.{flat_map-append}
use Rattle.std.proofs.lemmas.List.Elements.{All-head, All-tail}
use Rattle.zq_base.specs.Message.{Frames, IsFrame}
use Rattle.zq_base.specs.declared.options.EngineOpts.{EngineOpts}
use Rattle.zq_base.specs.declared.options.Role.{Role}
use Rattle.spec_zmtp.specs.declared.command.Command as command
use Rattle.spec_zmtp.specs.declared.flags.FrameKind.{FrameKind}
use Rattle.spec_zmtp.specs.declared.flags.FrameKind.TheVariants.{Last, More}
use Rattle.spec_zmtp.specs.FrameEncoding.{WireFrame, IsWireFrame, encode_frame, encode_message}
use Rattle.spec_zmtp.specs.Greeting.{greeting_of}
use Rattle.spec_zmtp.specs.Put.{Put, Says, Sends, IsSendable, encode_said, encode_commands, encode_put, encode_puts, commands_in, messages_in, says}
use Rattle.spec_zmtp.specs.DecodedStream.{Decoded}
use Rattle.spec_zmtp.proofs.FrameLemmas.{one_frame}
use Rattle.spec_zmtp.proofs.SizeLemmas.{fits_size}
use Rattle.zmtp_engine.proofs.Meaning.{length-greeting_of}
use Rattle.spec_link.specs.LinkAct.{LinkAct, offered_of}
use Rattle.spec_link.specs.LinkRun.{AreToSay, octets_to_say, first_said}

-- ---- how many octets

long_is : (puts : List Put) → length (encode_puts puts) ≡ length (encode_commands (commands_in puts)) + length (flat_map encode_message (messages_in puts))
long_is [] = refl
long_is (Says c ∷ puts) =
    omega (arith, length-append (encode_said c) (encode_puts puts), length-append (encode_said c) (encode_commands (commands_in puts)), long_is puts)
long_is (Sends m ∷ puts) =
    omega (arith, length-append (encode_message m) (encode_puts puts), length-append (encode_message m) (flat_map encode_message (messages_in puts)), long_is puts)

pub length-to_say : (role : Role) (puts : List Put) → length (octets_to_say role puts) ≡ 64 + length (encode_puts puts)
length-to_say role puts = length-append (greeting_of role) (encode_puts puts) ∙ ap (λ (n : ℕ). n + length (encode_puts puts)) (length-greeting_of role)

-- all that may be said has as many octets, in whatever order
pub same_long : (opts : EngineOpts) (acts : List LinkAct) (d : Decoded) (ps qs : List Put) → AreToSay opts acts d ps → AreToSay opts acts d qs → length (octets_to_say opts.role ps) ≡ length (octets_to_say opts.role qs)
same_long opts acts d ps qs a b =
    let commands = ap (λ (cs : List command.Command). length (encode_commands cs)) (a.ours ∙ sym b.ours) in
    let messages = ap (λ (ms : List Frames). length (flat_map encode_message ms)) (a.messages ∙ sym b.messages) in
    omega (arith, length-to_say opts.role ps, length-to_say opts.role qs, long_is ps, long_is qs, commands, messages)

-- ---- messages are told by their octets

sent_frame : FrameKind → List ℕ → WireFrame
sent_frame kind body = record { kind = kind; long = ltb 255 (length body); body = body }

last_frame : (body : List ℕ) → IsFrame body → IsWireFrame (sent_frame Last body)
unfolding sent_frame
last_frame body le = record { fits = fits_size (length body) le; within = le }

more_frame : (body : List ℕ) → IsFrame body → IsWireFrame (sent_frame More body)
unfolding sent_frame
more_frame body le = record { fits = fits_size (length body) le; within = le }

kinds_differ : Last ≡ More → ⊥
kinds_differ e = absurd cc

messages_apart : (m n : Frames) (xs ys : List ℕ) → 1 ≤ length m → 1 ≤ length n → All IsFrame m → All IsFrame n → encode_message m ++ xs ≡ encode_message n ++ ys → m ≡ n
unfolding sent_frame
messages_apart [] n xs ys le le' all all' e = absurd (omega (arith, le))
messages_apart (b ∷ m) [] xs ys le le' all all' e = absurd (omega (arith, le'))
messages_apart (b ∷ []) (c ∷ []) xs ys le le' all all' e =
    let one = one_frame (sent_frame Last b) (sent_frame Last c) xs ys (last_frame b (All-head IsFrame b [] all)) (last_frame c (All-head IsFrame c [] all')) e in
    ap (λ (f : WireFrame). f.body ∷ []) one.frame
messages_apart (b ∷ []) (c ∷ d ∷ n) xs ys le le' all all' e =
    let one = one_frame (sent_frame Last b) (sent_frame More c) xs (encode_message (d ∷ n) ++ ys) (last_frame b (All-head IsFrame b [] all)) (more_frame c (All-head IsFrame c (d ∷ n) all'))
    (e ∙ append_assoc (encode_frame More c) (encode_message (d ∷ n)) ys) in
    absurd (kinds_differ (ap (λ (f : WireFrame). f.kind) one.frame))
messages_apart (b ∷ c ∷ m) (d ∷ []) xs ys le le' all all' e =
    let one = one_frame (sent_frame More b) (sent_frame Last d) (encode_message (c ∷ m) ++ xs) ys (more_frame b (All-head IsFrame b (c ∷ m) all)) (last_frame d (All-head IsFrame d [] all'))
    (sym (append_assoc (encode_frame More b) (encode_message (c ∷ m)) xs) ∙ e) in
    absurd (kinds_differ (ap (λ (f : WireFrame). f.kind) (sym one.frame)))
messages_apart (b ∷ c ∷ m) (d ∷ f ∷ n) xs ys le le' all all' e =
    let one = one_frame (sent_frame More b) (sent_frame More d) (encode_message (c ∷ m) ++ xs) (encode_message (f ∷ n) ++ ys) (more_frame b (All-head IsFrame b (c ∷ m) all)) (more_frame d (All-head IsFrame d (f ∷ n) all'))
    (sym (append_assoc (encode_frame More b) (encode_message (c ∷ m)) xs) ∙ e ∙ append_assoc (encode_frame More d) (encode_message (f ∷ n)) ys) in
    let rest = messages_apart (c ∷ m) (f ∷ n) xs ys (omega arith) (omega arith) (All-tail IsFrame b (c ∷ m) all) (All-tail IsFrame d (f ∷ n) all') one.rest in
    ap (λ (g : WireFrame). g.body ∷ c ∷ m) one.frame ∙ ap (λ (l : Frames). d ∷ l) rest

-- ---- what stands behind the commands of the handshake

-- messages that a peer accepts
abbrev IsClear : Put → Type 0
IsClear (Says c) = ⊥
IsClear (Sends m) = IsSendable m

abbrev pub AreClear : List Put → Type 0
AreClear [] = Unit {0}
AreClear (p ∷ puts) = IsClear p × AreClear puts

message_some : (m : Frames) → 1 ≤ length m → 1 ≤ length (encode_message m)
message_some [] le = absurd (omega (arith, le))
message_some (b ∷ []) le = omega arith
message_some (b ∷ c ∷ m) le = omega arith

-- each has an octet or more, and its octets tell it
pub clear_some : (p : Put) → IsClear p → 1 ≤ length (encode_put p)
clear_some (Says c) k = absurd k
clear_some (Sends m) k = message_some m k.0

pub clear_apart : (p q : Put) (xs ys : List ℕ) → IsClear p → IsClear q → encode_put p ++ xs ≡ encode_put q ++ ys → p ≡ q
clear_apart (Says c) q xs ys k l e = absurd k
clear_apart (Sends m) (Says c) xs ys k l e = absurd l
clear_apart (Sends m) (Sends n) xs ys k l e = ap (λ (f : Frames). Sends f) (messages_apart m n xs ys k.0 l.0 k.2 l.2 e)

-- the messages, and the commands, of puts behind commands
first_messages : (cs : List command.Command) (later : List Put) → messages_in (says cs ++ later) ≡ messages_in later
first_messages [] later = refl
first_messages (c ∷ cs) later = first_messages cs later

first_commands : (cs : List command.Command) (later : List Put) → commands_in (says cs ++ later) ≡ cs ++ commands_in later
first_commands [] later = refl
first_commands (c ∷ cs) later = ap (λ (l : List command.Command). c ∷ l) (first_commands cs later)

pub no_more : {A : Type 0} (xs ys : List A) → xs ++ ys ≡ xs → ys ≡ []
no_more xs ys e = append_cancel_left xs ys [] (e ∙ sym (append-nil xs))

module _ (opts : EngineOpts) (acts : List LinkAct) (d : Decoded) (puts : List Put) (a : AreToSay opts acts d puts) where
  pub later_messages : messages_in a.later ≡ offered_of acts
  later_messages = sym (first_messages (first_said d) a.later) ∙ ap (λ (l : List Put). messages_in l) (sym a.first) ∙ a.messages

  pub later_commands : commands_in a.later ≡ []
  later_commands = no_more d.said (commands_in a.later) (sym (first_commands (first_said d) a.later) ∙ ap (λ (l : List Put). commands_in l) (sym a.first) ∙ a.ours)

  -- our greeting and the commands of the handshake, and then the rest
  pub to_say_is : octets_to_say opts.role puts ≡ octets_to_say opts.role (says (first_said d)) ++ encode_puts a.later
  to_say_is =
      ap (λ (l : List Put). octets_to_say opts.role l) a.first ∙ ap (λ (l : List ℕ). greeting_of opts.role ++ l) (flat_map-append encode_put (says (first_said d)) a.later)
      ∙ sym (append_assoc (greeting_of opts.role) (encode_puts (says (first_said d))) (encode_puts a.later))

clear_all : (puts : List Put) → commands_in puts ≡ [] → All IsSendable (messages_in puts) → AreClear puts
clear_all [] e all = tt
clear_all (Says c ∷ puts) e all = absurd cc
clear_all (Sends m ∷ puts) e all = (All-head IsSendable m (messages_in puts) all, clear_all puts e (All-tail IsSendable m (messages_in puts) all))

pub later_clear : (opts : EngineOpts) (acts : List LinkAct) (d : Decoded) (puts : List Put) → (a : AreToSay opts acts d puts) → All IsSendable (offered_of acts) → AreClear a.later
later_clear opts acts d puts a good =
    clear_all a.later (later_commands opts acts d puts a) (subst (λ (l : List Frames). All IsSendable l) (sym (later_messages opts acts d puts a)) good)
