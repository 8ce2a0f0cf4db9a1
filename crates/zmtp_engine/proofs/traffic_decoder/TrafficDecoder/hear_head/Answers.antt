use Rattle.std.proofs.Common.{◌≡◌, take, refl, sym, subst, arith}
use Rattle.std.proofs.lemmas.List.{take_all}
use Rattle.spec_zmtp.specs.declared.cause.Cause.TheVariants as cause
use Rattle.spec_zmtp.specs.declared.cause.Refusal.{Refusal}
use Rattle.zmtp_frame.specs.Reading.{Stage, Feeds, FeedsHead}
use Rattle.zmtp_frame.specs.declared.step.Step.TheVariants as step
use Rattle.zmtp_engine.specs.TrafficView.{hearing_of}
use Rattle.zmtp_engine.proofs.Steps.{told_now, judged_bad, began, too_long, head_goes_on, head_feeds}
use Rattle.zmtp_engine.proofs.Breaking.{flags_broken, octet_broken, head_broken, none_refused}
use Rattle.zmtp_engine.proofs.traffic_decoder.TrafficDecoder.hear_head.Goals as goal
use Rattle.zmtp_engine.proofs.traffic_decoder.TrafficDecoder.hear_head.Goals.{then-self-eq0+in-None, else-self-eq0}

pub judge-requires : goal.judge-requires
judge-requires c =
    let k = c.requires.known in
    record { told = told_now k.0 k.1 k.2 (hearing_of c.args.self.now) c.requires.head.0 c.args.piece.now c.feed-taken.result.0 c.feed-taken.result.1 c.feed-taken.new.self k.3 c.if-self-eq0.true c.requires.head.1 c.feed-taken.ensures.step }

pub returns-in-Some-clause-hears : goal.returns-in-Some-clause-hears
returns-in-Some-clause-hears c = λ opts octets given l.
    let r : Refusal = record { cause = c.in-Some.cause; offset = c.args.self.now.offset } in
    judged_bad opts octets c.args.piece.now given (hearing_of c.args.self.now) _ r l c.if-self-eq0.true c.requires.some (sym c.in-Some.ensures)
    (record { opts = refl; stage = refl; peer = refl; said = refl; parts = refl; queue = refl; offset = refl; earlier = refl }) refl refl

pub returns-in-Head-clause-hears : goal.returns-in-Head-clause-hears
returns-in-Head-clause-hears c = λ opts octets given l.
    let st = c.requires.head in
    let f : FeedsHead st.0 c.args.piece.now c.feed-taken.result.0 (step.Head c.in-Head.kind c.in-Head.size) c.feed-taken.new.self =
    subst (λ (s : Stage). Feeds s c.args.piece.now c.feed-taken.result.0 (step.Head c.in-Head.kind c.in-Head.size) c.feed-taken.new.self) st.1 (rw c.in-Head.is at c.feed-taken.ensures.step) in
    began opts octets c.args.piece.now given (hearing_of c.args.self.now) _ st.0 c.feed-taken.result.0 c.in-Head.size c.in-Head.kind l st.1 f.0 f.1
    (elim c.if-self-eq0.branch [ then-self-eq0+in-None w ↦ λ z. sym w.in-None.ensures | else-self-eq0 w ↦ λ z. absurd (w.if-self-eq0.false z) ])
    f.2 f.3 (record { opts = refl; stage = refl; peer = refl; said = refl; parts = refl; queue = refl; offset = refl; earlier = refl }) c.requires.unrefused f.4 refl c.clear.ensures c.saturating_add-self.ensures

pub returns-in-TooLong-clause-some : goal.returns-in-TooLong-clause-some
returns-in-TooLong-clause-some c =
    head_feeds c.requires.head.0 c.args.piece.now c.feed-taken.result.0 c.feed-taken.result.1 c.feed-taken.new.self (subst (λ (s : Stage). Feeds s c.args.piece.now c.feed-taken.result.0 c.feed-taken.result.1 c.feed-taken.new.self) c.requires.head.1 c.feed-taken.ensures.step) c.requires.some

pub returns-in-TooLong-clause-hears : goal.returns-in-TooLong-clause-hears
returns-in-TooLong-clause-hears c = λ opts octets given l.
    let st = c.requires.head in
    let f : FeedsHead st.0 c.args.piece.now c.feed-taken.result.0 (step.TooLong c.in-TooLong.field-0) c.feed-taken.new.self =
    subst (λ (s : Stage). Feeds s c.args.piece.now c.feed-taken.result.0 (step.TooLong c.in-TooLong.field-0) c.feed-taken.new.self) st.1 (rw c.in-TooLong.is at c.feed-taken.ensures.step) in
    let r : Refusal = record { cause = cause.TooLong; offset = c.args.self.now.offset } in
    too_long opts octets c.args.piece.now given (hearing_of c.args.self.now) _ st.0 c.feed-taken.result.0 c.in-TooLong.field-0 f.2.0 r l st.1 f.0 f.1
    (elim c.if-self-eq0.branch [ then-self-eq0+in-None w ↦ λ z. sym w.in-None.ensures | else-self-eq0 w ↦ λ z. absurd (w.if-self-eq0.false z) ])
    f.2.1 f.2.2 (record { opts = refl; stage = refl; peer = refl; said = refl; parts = refl; queue = refl; offset = refl; earlier = refl }) refl refl refl

pub returns-in-NeedMore-clause-hears : goal.returns-in-NeedMore-clause-hears
returns-in-NeedMore-clause-hears c = λ opts octets given l.
    let st = c.requires.head in
    let f : FeedsHead st.0 c.args.piece.now c.feed-taken.result.0 step.NeedMore c.feed-taken.new.self =
    subst (λ (s : Stage). Feeds s c.args.piece.now c.feed-taken.result.0 step.NeedMore c.feed-taken.new.self) st.1 (rw c.in-NeedMore.is at c.feed-taken.ensures.step) in
    let all : take c.feed-taken.result.0 c.args.piece.now ≡ c.args.piece.now = take_all c.feed-taken.result.0 c.args.piece.now (omega (arith, f.0)) in
    head_goes_on opts octets c.args.piece.now (take c.feed-taken.result.0 c.args.piece.now) given (hearing_of c.args.self.now) _ st.0 l st.1 c.requires.some
    (elim c.if-self-eq0.branch [ then-self-eq0+in-None w ↦ λ z. sym w.in-None.ensures | else-self-eq0 w ↦ λ z. absurd (w.if-self-eq0.false z) ])
    f.1 (record { opts = refl; stage = refl; peer = refl; said = refl; parts = refl; queue = refl; offset = refl; earlier = refl }) c.requires.unrefused f.2 (rw f.0 at c.saturating_add-self-in-NeedMore.ensures) all

pub returns-in-BadFlags-clause-some : goal.returns-in-BadFlags-clause-some
returns-in-BadFlags-clause-some c =
    head_feeds c.requires.head.0 c.args.piece.now c.feed-taken.result.0 c.feed-taken.result.1 c.feed-taken.new.self (subst (λ (s : Stage). Feeds s c.args.piece.now c.feed-taken.result.0 c.feed-taken.result.1 c.feed-taken.new.self) c.requires.head.1 c.feed-taken.ensures.step) c.requires.some

pub returns-in-Some-clause-breaks : goal.returns-in-Some-clause-breaks
returns-in-Some-clause-breaks c = λ opts octets given l some. flags_broken opts octets c.args.piece.now given (hearing_of c.args.self.now) l c.if-self-eq0.true c.requires.some

pub returns-in-Head-clause-breaks : goal.returns-in-Head-clause-breaks
returns-in-Head-clause-breaks c = λ opts octets given l some. none_refused c.args.self.now.refused c.requires.unrefused some

pub returns-in-TooLong-clause-breaks : goal.returns-in-TooLong-clause-breaks
returns-in-TooLong-clause-breaks c = λ opts octets given l some.
    let st = c.requires.head in
    let f : FeedsHead st.0 c.args.piece.now c.feed-taken.result.0 (step.TooLong c.in-TooLong.field-0) c.feed-taken.new.self =
    subst (λ (s : Stage). Feeds s c.args.piece.now c.feed-taken.result.0 (step.TooLong c.in-TooLong.field-0) c.feed-taken.new.self) st.1 (rw c.in-TooLong.is at c.feed-taken.ensures.step) in
    head_broken opts octets c.args.piece.now given (hearing_of c.args.self.now) st.0 c.feed-taken.result.0 c.in-TooLong.field-0 f.2.0 l st.1 f.0 f.1
    (elim c.if-self-eq0.branch [ then-self-eq0+in-None w ↦ λ z. sym w.in-None.ensures | else-self-eq0 w ↦ λ z. absurd (w.if-self-eq0.false z) ])
    f.2.1

pub returns-in-NeedMore-clause-breaks : goal.returns-in-NeedMore-clause-breaks
returns-in-NeedMore-clause-breaks c = λ opts octets given l some. none_refused c.args.self.now.refused c.requires.unrefused some

pub returns-in-BadFlags-clause-breaks : goal.returns-in-BadFlags-clause-breaks
returns-in-BadFlags-clause-breaks c = λ opts octets given l some.
    let st = c.requires.head in
    let f : FeedsHead st.0 c.args.piece.now c.feed-taken.result.0 (step.BadFlags c.in-BadFlags.field-0) c.feed-taken.new.self =
    subst (λ (s : Stage). Feeds s c.args.piece.now c.feed-taken.result.0 (step.BadFlags c.in-BadFlags.field-0) c.feed-taken.new.self) st.1 (rw c.in-BadFlags.is at c.feed-taken.ensures.step) in
    octet_broken opts octets c.args.piece.now given (hearing_of c.args.self.now) st.0 c.feed-taken.result.0 l st.1 f.1 f.0 c.requires.some
