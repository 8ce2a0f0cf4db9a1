use Rattle.std.proofs.Common.{ℕ, List, [], ◌∷◌, ◌++◌, None, Some, Err, refl, sym, ap, subst, ◌∙◌}
use Rattle.std.specs.Option.{option_to_list}
use Rattle.std.proofs.lemmas.List.{append-nil}
use Rattle.spec_zmtp.specs.declared.cause.Cause.TheVariants as cause
use Rattle.spec_zmtp.specs.declared.cause.Refusal.{Refusal}
use Rattle.spec_zmtp.specs.declared.handshake.Stage.TheVariants.{Waiting, Running, Refused}
use Rattle.spec_zmtp.specs.Handshake.{Handshake, Told, next}
use Rattle.spec_zmtp.specs.Put.{encode_commands}
use Rattle.zmtp_mech.specs.declared.answer.Answer.{Answer}
use Rattle.zmtp_meta.specs.declared.command.CommandError.{CommandError}
use Rattle.zmtp_mech.specs.Mechanism.{Mechanism}
use Rattle.zmtp_mech.proofs.OutcomeLemmas.{Tells, answer_tells}
use Rattle.zmtp_engine.specs.Hearing.{Hearing, Hears, Grows}
use Rattle.zmtp_engine.specs.TrafficView.{hearing_of}
use Rattle.zmtp_engine.proofs.Ends.{or_none}
use Rattle.zmtp_engine.proofs.Commands.{grows_by, same_grows, shakes_now, command_ends, first_known, malformed_refused, command_refused}
use Rattle.zmtp_engine.proofs.traffic_decoder.TrafficDecoder.end_command.Goals as goal

pub returns-in-Err-BadCommand-clause-hears : goal.returns-in-Err-BadCommand-clause-hears
returns-in-Err-BadCommand-clause-hears c = λ opts octets given l.
    let r : Refusal = record { cause = cause.BadCommand; offset = c.args.self.now.offset } in
    malformed_refused opts octets given (hearing_of c.args.self.now) (record (hearing_of c.args.self.now) { refused = Some r }) r l c.requires.body c.requires.kind
    (rw c.as_slice.ensures at (c.in-Err-BadCommand.ensures.none (ap (λ (e : CommandError). Err e) c.in-Err-BadCommand.field-0-is))) refl refl refl refl refl refl refl

pub returns-in-Say-clause-hears : goal.returns-in-Say-clause-hears
returns-in-Say-clause-hears c = λ opts octets given l.
    let old : Hearing = hearing_of c.args.self.now in
    let n : Handshake = next c.args.self.now.mech.opts c.args.self.now.mech.stage (Told c.in-Ok.command) in
    let t = subst (λ (a : Answer). Tells a n) c.in-Say.is (answer_tells c.args.self.now.mech.opts c.args.self.now.mech.stage (Told c.in-Ok.command) c.in_ok-answer.answer c.in_ok-answer.ensures.answer) in
    let new : Hearing = record old { opts = c.hear.new.self.opts; reader = _; stage = c.hear.new.self.stage; said = c.say.new.said.items; offset = _; begun = 0 } in
    let shakes = shakes_now opts octets given old new c.in-Ok.command (Some c.in-Say.c) None (Waiting t.0) l c.requires.kind (rw c.as_slice.ensures at c.in-Ok.ensures.some) t.1
    (ap (λ (m : Mechanism). m.opts) c.in_ok-answer.ensures.stage) (c.say.ensures ∙ ap (λ (x : List ℕ). x ++ encode_commands (c.in-Say.c ∷ [])) c.in_ok-reserve.ensures.items) (sym (or_none old.peer)) in
    subst (λ (x : Hearing). Hears opts octets given x) (sym c.next_frame.ensures.next)
    (command_ends opts octets given old new (Some c.in-Say.c) None (Waiting t.0) l c.requires.body c.requires.kind shakes (ap (λ (m : Mechanism). m.stage) c.in_ok-answer.ensures.stage ∙ ap (λ (x : Handshake). x.stage) t.1) refl
    (record { reader = refl; parts = refl; queue = refl; offset = refl; begun = refl; earlier = refl; refused = c.requires.unrefused }))

pub returns-in-Say-clause-grows : goal.returns-in-Say-clause-grows
returns-in-Say-clause-grows c =
    let k = c.requires.known in
    let old : Hearing = hearing_of c.args.self.now in
    let n : Handshake = next c.args.self.now.mech.opts c.args.self.now.mech.stage (Told c.in-Ok.command) in
    let t = subst (λ (a : Answer). Tells a n) c.in-Say.is (answer_tells c.args.self.now.mech.opts c.args.self.now.mech.stage (Told c.in-Ok.command) c.in_ok-answer.answer c.in_ok-answer.ensures.answer) in
    let new : Hearing = record old { opts = c.hear.new.self.opts; reader = _; stage = c.hear.new.self.stage; said = c.say.new.said.items; offset = _; begun = 0 } in
    let shakes = shakes_now k.0 k.1 k.2 old new c.in-Ok.command (Some c.in-Say.c) None (Waiting t.0) k.3 c.requires.kind (rw c.as_slice.ensures at c.in-Ok.ensures.some) t.1
    (ap (λ (m : Mechanism). m.opts) c.in_ok-answer.ensures.stage) (c.say.ensures ∙ ap (λ (x : List ℕ). x ++ encode_commands (c.in-Say.c ∷ [])) c.in_ok-reserve.ensures.items) (sym (or_none old.peer)) in
    subst (λ (x : Hearing). Grows old x) (sym c.next_frame.ensures.next) (grows_by k.0 k.1 k.2 _ old new k.3 shakes.0)

pub returns-in-Ready-clause-hears : goal.returns-in-Ready-clause-hears
returns-in-Ready-clause-hears c = λ opts octets given l.
    let old : Hearing = hearing_of c.args.self.now in
    let n : Handshake = next c.args.self.now.mech.opts c.args.self.now.mech.stage (Told c.in-Ok.command) in
    let t = subst (λ (a : Answer). Tells a n) c.in-Ready.is (answer_tells c.args.self.now.mech.opts c.args.self.now.mech.stage (Told c.in-Ok.command) c.in_ok-answer.answer c.in_ok-answer.ensures.answer) in
    let new : Hearing = record old { opts = c.hear.new.self.opts; reader = _; stage = c.hear.new.self.stage; peer = Some c.in-Ready.peer; said = c.say_if.new.said.items; offset = _; begun = 0 } in
    let shakes = shakes_now opts octets given old new c.in-Ok.command c.in-Ready.c (Some c.in-Ready.peer) Running l c.requires.kind (rw c.as_slice.ensures at c.in-Ok.ensures.some) t
    (ap (λ (m : Mechanism). m.opts) c.in_ok-answer.ensures.stage) (c.say_if.ensures ∙ ap (λ (x : List ℕ). x ++ encode_commands (option_to_list c.in-Ready.c)) c.in_ok-reserve.ensures.items)
    (first_known opts octets given old (Told c.in-Ok.command) c.in-Ready.c c.in-Ready.peer l t) in
    subst (λ (x : Hearing). Hears opts octets given x) (sym c.next_frame-in-Ready.ensures.next)
    (command_ends opts octets given old new c.in-Ready.c (Some c.in-Ready.peer) Running l c.requires.body c.requires.kind shakes (ap (λ (m : Mechanism). m.stage) c.in_ok-answer.ensures.stage ∙ ap (λ (x : Handshake). x.stage) t) refl
    (record { reader = refl; parts = refl; queue = refl; offset = refl; begun = refl; earlier = refl; refused = c.requires.unrefused }))

pub returns-in-Ready-clause-grows : goal.returns-in-Ready-clause-grows
returns-in-Ready-clause-grows c =
    let k = c.requires.known in
    let old : Hearing = hearing_of c.args.self.now in
    let n : Handshake = next c.args.self.now.mech.opts c.args.self.now.mech.stage (Told c.in-Ok.command) in
    let t = subst (λ (a : Answer). Tells a n) c.in-Ready.is (answer_tells c.args.self.now.mech.opts c.args.self.now.mech.stage (Told c.in-Ok.command) c.in_ok-answer.answer c.in_ok-answer.ensures.answer) in
    let new : Hearing = record old { opts = c.hear.new.self.opts; reader = _; stage = c.hear.new.self.stage; peer = Some c.in-Ready.peer; said = c.say_if.new.said.items; offset = _; begun = 0 } in
    let shakes = shakes_now k.0 k.1 k.2 old new c.in-Ok.command c.in-Ready.c (Some c.in-Ready.peer) Running k.3 c.requires.kind (rw c.as_slice.ensures at c.in-Ok.ensures.some) t
    (ap (λ (m : Mechanism). m.opts) c.in_ok-answer.ensures.stage) (c.say_if.ensures ∙ ap (λ (x : List ℕ). x ++ encode_commands (option_to_list c.in-Ready.c)) c.in_ok-reserve.ensures.items)
    (first_known k.0 k.1 k.2 old (Told c.in-Ok.command) c.in-Ready.c c.in-Ready.peer k.3 t) in
    subst (λ (x : Hearing). Grows old x) (sym c.next_frame-in-Ready.ensures.next) (grows_by k.0 k.1 k.2 _ old new k.3 shakes.0)

pub returns-in-Wait-clause-hears : goal.returns-in-Wait-clause-hears
returns-in-Wait-clause-hears c = λ opts octets given l.
    let old : Hearing = hearing_of c.args.self.now in
    let n : Handshake = next c.args.self.now.mech.opts c.args.self.now.mech.stage (Told c.in-Ok.command) in
    let t = subst (λ (a : Answer). Tells a n) c.in-Wait.is (answer_tells c.args.self.now.mech.opts c.args.self.now.mech.stage (Told c.in-Ok.command) c.in_ok-answer.answer c.in_ok-answer.ensures.answer) in
    let new : Hearing = record old { opts = c.hear.new.self.opts; reader = _; stage = c.hear.new.self.stage; said = c.reserve.new.self.items; offset = _; begun = 0 } in
    let shakes = shakes_now opts octets given old new c.in-Ok.command None None Running l c.requires.kind (rw c.as_slice.ensures at c.in-Ok.ensures.some) t
    (ap (λ (m : Mechanism). m.opts) c.in_ok-answer.ensures.stage) (c.in_ok-reserve.ensures.items ∙ sym (append-nil old.said)) (sym (or_none old.peer)) in
    subst (λ (x : Hearing). Hears opts octets given x) (sym c.next_frame-in-Wait.ensures.next)
    (command_ends opts octets given old new None None Running l c.requires.body c.requires.kind shakes (ap (λ (m : Mechanism). m.stage) c.in_ok-answer.ensures.stage ∙ ap (λ (x : Handshake). x.stage) t) refl
    (record { reader = refl; parts = refl; queue = refl; offset = refl; begun = refl; earlier = refl; refused = c.requires.unrefused }))

pub returns-in-Wait-clause-grows : goal.returns-in-Wait-clause-grows
returns-in-Wait-clause-grows c =
    let old : Hearing = hearing_of c.args.self.now in
    subst (λ (x : Hearing). Grows old x) (sym c.next_frame-in-Wait.ensures.next) (same_grows old _ c.in_ok-reserve.ensures.items refl)

pub returns-in-Refused-clause-hears : goal.returns-in-Refused-clause-hears
returns-in-Refused-clause-hears c = λ opts octets given l.
    let old : Hearing = hearing_of c.args.self.now in
    let n : Handshake = next c.args.self.now.mech.opts c.args.self.now.mech.stage (Told c.in-Ok.command) in
    let t = subst (λ (a : Answer). Tells a n) c.in-Refused.is (answer_tells c.args.self.now.mech.opts c.args.self.now.mech.stage (Told c.in-Ok.command) c.in_ok-answer.answer c.in_ok-answer.ensures.answer) in
    let r : Refusal = record { cause = c.in-Refused.cause; offset = c.args.self.now.offset } in
    let new : Hearing = record old { opts = c.hear.new.self.opts; stage = c.hear.new.self.stage; said = c.say_if-in-Refused.new.said.items; refused = Some r } in
    let shakes = shakes_now opts octets given old new c.in-Ok.command c.in-Refused.c None (Refused c.in-Refused.cause) l c.requires.kind (rw c.as_slice.ensures at c.in-Ok.ensures.some) t
    (ap (λ (m : Mechanism). m.opts) c.in_ok-answer.ensures.stage) (c.say_if-in-Refused.ensures ∙ ap (λ (x : List ℕ). x ++ encode_commands (option_to_list c.in-Refused.c)) c.in_ok-reserve.ensures.items) (sym (or_none old.peer)) in
    command_refused opts octets given old new r c.in-Refused.c l c.requires.body shakes refl refl refl

pub returns-in-Refused-clause-grows : goal.returns-in-Refused-clause-grows
returns-in-Refused-clause-grows c =
    let k = c.requires.known in
    let old : Hearing = hearing_of c.args.self.now in
    let n : Handshake = next c.args.self.now.mech.opts c.args.self.now.mech.stage (Told c.in-Ok.command) in
    let t = subst (λ (a : Answer). Tells a n) c.in-Refused.is (answer_tells c.args.self.now.mech.opts c.args.self.now.mech.stage (Told c.in-Ok.command) c.in_ok-answer.answer c.in_ok-answer.ensures.answer) in
    let r : Refusal = record { cause = c.in-Refused.cause; offset = c.args.self.now.offset } in
    let new : Hearing = record old { opts = c.hear.new.self.opts; stage = c.hear.new.self.stage; said = c.say_if-in-Refused.new.said.items; refused = Some r } in
    let shakes = shakes_now k.0 k.1 k.2 old new c.in-Ok.command c.in-Refused.c None (Refused c.in-Refused.cause) k.3 c.requires.kind (rw c.as_slice.ensures at c.in-Ok.ensures.some) t
    (ap (λ (m : Mechanism). m.opts) c.in_ok-answer.ensures.stage) (c.say_if-in-Refused.ensures ∙ ap (λ (x : List ℕ). x ++ encode_commands (option_to_list c.in-Refused.c)) c.in_ok-reserve.ensures.items) (sym (or_none old.peer)) in
    grows_by k.0 k.1 k.2 _ old new k.3 shakes.0
