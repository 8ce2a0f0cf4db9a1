-- What crosses a link.
use Rattle.std.proofs.Common.{◌≡◌, ℕ, List, [], ◌∷◌, ◌++◌, refl, ap, subst, ◌∙◌}
use Rattle.std.specs.Prelude.{All}
use Rattle.std.specs.List.{flat_map}
use mathlib.Core.List.{IsPrefix}
use Rattle.std.proofs.lemmas.List.Concat.{flat_map-append}
use Rattle.zq_base.specs.Message.{Frames}
use Rattle.zq_base.specs.declared.options.EngineOpts.{EngineOpts}
use Rattle.spec_zmtp.specs.declared.command.Command as command
use Rattle.spec_zmtp.specs.FrameEncoding.{encode_message}
use Rattle.spec_zmtp.specs.Greeting.{greeting_of}
use Rattle.spec_zmtp.specs.OwnCommands.{IsEngineOpts}
use Rattle.spec_zmtp.specs.Put.{Put, Says, Sends, IsSendable, encode_said, encode_commands, encode_put, encode_puts, commands_in, messages_in, says}
use Rattle.spec_zmtp.specs.DecodedStream.{Decoded}
use Rattle.spec_zmtp.proofs.MoreLemmas.{front_trans}
use Rattle.zmtp_engine.proofs.CrossingLemmas.{front_decodes}
use Rattle.zmtp_engine.proofs.SaidLemmas.{decodes_modest}
use Rattle.spec_link.specs.LinkAct.{LinkAct, said_of, heard_of, offered_of, put_of}
use Rattle.spec_link.specs.LinkRun.{AreToSay, IsLinkRun, octets_to_say, first_said}
use Rattle.spec_link.specs.Across.{Crosses}
use Rattle.spec_link.proofs.PutLemmas.{later_messages, later_commands}

said_octets : (cs : List command.Command) → encode_puts (says cs) ≡ encode_commands cs
said_octets [] = refl
said_octets (c ∷ cs) = ap (λ (l : List ℕ). encode_said c ++ l) (said_octets cs)

-- puts without commands are messages
sent_octets : (puts : List Put) → commands_in puts ≡ [] → encode_puts puts ≡ flat_map encode_message (messages_in puts)
sent_octets [] e = refl
sent_octets (Says c ∷ puts) e = absurd cc
sent_octets (Sends m ∷ puts) e = ap (λ (l : List ℕ). encode_message m ++ l) (sent_octets puts e)

to_say_as : (opts : EngineOpts) (acts : List LinkAct) (d : Decoded) (puts : List Put) → AreToSay opts acts d puts
    → octets_to_say opts.role puts ≡ greeting_of opts.role ++ (encode_commands d.said ++ flat_map encode_message (offered_of acts))
to_say_as opts acts d puts a =
    ap (λ (l : List ℕ). greeting_of opts.role ++ l)
    (ap (λ (l : List Put). encode_puts l) a.first ∙ flat_map-append encode_put (says (first_said d)) a.later ∙ ap (λ (l : List ℕ). l ++ encode_puts a.later) (said_octets (first_said d))
    ∙ ap (λ (l : List ℕ). encode_commands d.said ++ l) (sent_octets a.later (later_commands opts acts d puts a) ∙ ap (λ (ms : List Frames). flat_map encode_message ms) (later_messages opts acts d puts a)))

pub crosses : (opts other : EngineOpts) (xs ys : List LinkAct) (d e : Decoded) → IsEngineOpts opts → IsLinkRun opts xs d → IsLinkRun other ys e
    → All IsSendable (offered_of xs) → IsPrefix (heard_of ys) (said_of xs) → Crosses xs ys e
crosses opts other xs ys d e is h k all front =
    let whole : IsPrefix (heard_of ys) (octets_to_say opts.role h.said.0) = front_trans (heard_of ys) (said_of xs) (octets_to_say opts.role h.said.0) front h.said.2 in
    let cut : IsPrefix (heard_of ys) (greeting_of opts.role ++ (encode_commands d.said ++ flat_map encode_message (offered_of xs))) = subst (λ (l : List ℕ). IsPrefix (heard_of ys) l) (to_say_as opts xs d h.said.0 h.said.1) whole in
    let heard : IsPrefix e.messages (offered_of xs) = front_decodes opts.role d.said (offered_of xs) (heard_of ys) other e (decodes_modest opts (heard_of xs) d is h.decodes).1 all cut k.decodes in
    record { heard = heard; put = front_trans (put_of ys) e.messages (offered_of xs) k.put heard }
