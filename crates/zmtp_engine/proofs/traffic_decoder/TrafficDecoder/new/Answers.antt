use Rattle.std.proofs.Common.{◌≡◌, ℕ, List, [], ◌++◌, refl, ap, ◌∙◌}
use Rattle.std.specs.Option.{option_to_list}
use Rattle.zq_base.specs.declared.options.EngineOpts.{EngineOpts}
use Rattle.spec_zmtp.specs.declared.command.Command.{Command}
use Rattle.spec_zmtp.specs.Greeting.{greeting_of}
use Rattle.spec_zmtp.specs.Handshake.{handshake}
use Rattle.spec_zmtp.specs.Put.{encode_commands}
use Rattle.zmtp_mech.specs.Mechanism.{Mechanism, begun}
use Rattle.zmtp_engine.proofs.Commands.{fresh}
use Rattle.zmtp_engine.proofs.traffic_decoder.TrafficDecoder.new.Goals as goal

pub returns-clause-hears : goal.returns-clause-hears
returns-clause-hears c =
    let opts : EngineOpts = c.args.opts.now in
    let mech : c.first.new.self ≡ begun opts = c.in_ok-first.ensures.unchanged ∙ c.in_ok-mech.ensures in
    let first : option_to_list c.in_ok-first.first ≡ (handshake opts []).said = c.in_ok-first.ensures.said ∙ ap (λ (m : Mechanism). (handshake m.opts []).said) c.in_ok-mech.ensures in
    let said : c.say_if.new.said.items ≡ greeting_of opts.role ++ encode_commands (handshake opts []).said =
    c.say_if.ensures ∙ ap (λ (x : List ℕ). x ++ encode_commands (option_to_list c.in_ok-first.first)) (c.extend_reserved.ensures.items ∙ ap (λ (x : List ℕ). x ++ c.write.result) c.in_ok-said.ensures.items ∙ c.write.ensures)
    ∙ ap (λ (cs : List Command). greeting_of opts.role ++ encode_commands cs) first in
    fresh opts _ (ap (λ (m : Mechanism). m.opts) mech) c.new.ensures (ap (λ (m : Mechanism). m.stage) mech) refl said c.new-3.ensures.items c.new-4.ensures.items refl refl refl
