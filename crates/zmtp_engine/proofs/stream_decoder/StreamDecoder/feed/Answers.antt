use Rattle.std.proofs.Common.{◌≡◌, ℕ, ◌+◌, ◌-◌, ◌≤◌, cond, ◌++◌, [], List, Option, None, Some, length, refl, sym, ◌∙◌, ap, subst, arith, take, drop}
use Rattle.std.specs.Prelude.{is_none, IsSome, IfSome}
use Rattle.std.proofs.lemmas.List.{take_rest, drop_all, take-take, drop-take, append-nil, take-append-drop, length-drop}
use Rattle.spec_zmtp.specs.declared.cause.Refusal.{Refusal}
use Rattle.zmtp_engine.specs.Hearing.{Hearing, Hears, IsSettledAt}
use Rattle.zmtp_engine.specs.TrafficView.{hearing_of}
use Rattle.zmtp_engine.specs.Listening.{Listening, Greeted, ListensTo, Greets, refusal_now}
use Rattle.zmtp_engine.specs.StreamView.{listening_of}
use Rattle.zmtp_engine.specs.Refusing.{JustBroken}
use Rattle.zmtp_engine.proofs.Breaking.{none_refused, unfinished_before}
use Rattle.zmtp_engine.proofs.Feeds.{not_refused, was_refused, some_refused}
use Rattle.zmtp_engine.proofs.Greetings.{open_listening, faulted_more, greeting_fails, greeting_before, greeting_goes_on, greeting_accepted, all_behind, good_now, hearing_still, long_greeting}
use Rattle.zmtp_engine.proofs.Meaning.{settled_early, refused_more, refused_means}
use Rattle.zmtp_engine.proofs.stream_decoder.StreamDecoder.feed.Goals as goal

-- ---- refused before

pub returns-then-is_some-clause-listens : goal.returns-then-is_some-clause-listens
returns-then-is_some-clause-listens c = λ opts octets given h.
    let r = was_refused c.args.self.now.fault (sym c.if-is_some.ensures) in
    faulted_more opts octets c.args.piece.now given (listening_of c.args.self.now) r.0 r.1 h

clash : {A : Type 0} (o : Option Refusal) (r : Refusal) → o ≡ Some r → o ≡ None → A
clash o r some none = let both : None ≡ Some r = sym none ∙ some in absurd cc

pub returns-then-is_some-clause-settled : goal.returns-then-is_some-clause-settled
returns-then-is_some-clause-settled c =
    let r = was_refused c.args.self.now.fault (sym c.if-is_some.ensures) in
    let w = c.requires.listens in
    settled_early w.0 w.1 w.2 (listening_of c.args.self.now) w.3 (λ none. clash c.args.self.now.fault r.0 r.1 none)

pub returns-then-is_some-2-clause-listens : goal.returns-then-is_some-2-clause-listens
returns-then-is_some-2-clause-listens c = λ opts octets given h.
    let r = was_refused c.args.self.now.traffic.refused (sym c.if-is_some-2.ensures) in
    refused_more opts octets c.args.piece.now given (listening_of c.args.self.now) r.0 (not_refused c.args.self.now.fault (sym c.if-is_some.ensures)) r.1 h

pub returns-then-is_some-2-clause-settled : goal.returns-then-is_some-2-clause-settled
returns-then-is_some-2-clause-settled c =
    let r = was_refused c.args.self.now.traffic.refused (sym c.if-is_some-2.ensures) in
    subst (λ (o : Option Refusal). IsSettledAt c.args.self.now.traffic.reader o) (sym r.1) tt

-- ---- the greeting is refused

pub returns-then-is_some-3-clause-listens : goal.returns-then-is_some-3-clause-listens
returns-then-is_some-3-clause-listens c = λ opts octets given h.
    let piece : List ℕ = c.args.piece.now in
    let k = c.greet-count.result in
    let r = was_refused c.greet-count.new.self.fault (sym c.if-is_some-3.ensures) in
    greeting_fails opts octets piece piece (drop k piece) given (listening_of c.args.self.now) (listening_of c.greet-count.new.self) k r.0 (not_refused c.args.self.now.fault (sym c.if-is_some.ensures)) h c.greet-count.ensures.greets
    (sym (take-append-drop k piece)) r.1

pub returns-then-is_some-3-clause-breaks : goal.returns-then-is_some-3-clause-breaks
returns-then-is_some-3-clause-breaks c = λ opts octets given h none some.
    let piece : List ℕ = c.args.piece.now in
    let k = c.greet-count.result in
    let old : Listening = listening_of c.args.self.now in
    let new : Listening = listening_of c.greet-count.new.self in
    let r = was_refused c.greet-count.new.self.fault (sym c.if-is_some-3.ensures) in
    let open_ = not_refused c.args.self.now.fault (sym c.if-is_some.ensures) in
    let l : ListensTo opts (octets ++ take k piece) given new = greeting_fails opts octets piece (take k piece) [] given old new k r.0 open_ h c.greet-count.ensures.greets (sym (append-nil (take k piece))) r.1 in
    let refusal : refusal_now new ≡ Some r.0 = ap (λ (x : Option Refusal). cond (is_none x) new.hearing.refused x) r.1 in
    record {
      refused = refused_means opts (octets ++ take k piece) given new r.0 l (settled_early opts (octets ++ take k piece) given new l (λ e. clash new.fault r.0 r.1 e)) refusal;
      before = λ front octet split. greeting_before opts octets piece front octet given old new k r.0 open_ h c.greet-count.ensures.greets r.1 split;
    }

pub returns-then-is_some-3-clause-grows : goal.returns-then-is_some-3-clause-grows
returns-then-is_some-3-clause-grows c = hearing_still (listening_of c.args.self.now) (listening_of c.greet-count.new.self) c.args.piece.now c.greet-count.result c.greet-count.ensures.greets

pub returns-then-is_some-3-clause-settled : goal.returns-then-is_some-3-clause-settled
returns-then-is_some-3-clause-settled c =
    let w = c.requires.listens in
    let r = was_refused c.greet-count.new.self.fault (sym c.if-is_some-3.ensures) in
    settled_early w.0 (w.1 ++ c.args.piece.now) w.2 (listening_of c.greet-count.new.self) (returns-then-is_some-3-clause-listens c w.0 w.1 w.2 w.3) (λ e. clash c.greet-count.new.self.fault r.0 r.1 e)

-- ---- the greeting goes on

pub returns-then-len-lt64-clause-listens : goal.returns-then-len-lt64-clause-listens
returns-then-len-lt64-clause-listens c = λ opts octets given h.
    let piece : List ℕ = c.args.piece.now in
    let k = c.greet-count.result in
    let old : Listening = listening_of c.args.self.now in
    let new : Listening = listening_of c.greet-count.new.self in
    let g : Greets old new piece k = c.greet-count.ensures.greets in
    let open_ : new.fault ≡ None = not_refused c.greet-count.new.self.fault (sym c.if-is_some-3.ensures) in
    let all : k ≡ length piece = g.all open_ (omega (arith, long_greeting old new piece k g, c.if-len-lt64.true, c.len.ensures)) in
    let over : drop k piece ≡ [] = drop_all k piece (omega (arith, all)) in
    greeting_goes_on opts octets piece piece given old new new k (not_refused c.args.self.now.fault (sym c.if-is_some.ensures)) h g refl refl refl open_ (λ lt. over) refl
    (λ more hears. subst (λ (l : List ℕ). Hears opts (more ++ l) given new.hearing) (sym over) (subst (λ (l : List ℕ). Hears opts l given new.hearing) (sym (append-nil more)) (subst (λ (x : Hearing). Hears opts more given x) (sym g.hearing) hears)))

pub returns-then-len-lt64-clause-breaks : goal.returns-then-len-lt64-clause-breaks
returns-then-len-lt64-clause-breaks c = λ opts octets given h none some.
    let old : Listening = listening_of c.args.self.now in
    let new : Listening = listening_of c.greet-count.new.self in
    let g : Greets old new c.args.piece.now c.greet-count.result = c.greet-count.ensures.greets in
    let open_ : new.fault ≡ None = not_refused c.greet-count.new.self.fault (sym c.if-is_some-3.ensures) in
    let fine : new.hearing.refused ≡ None = ap (λ (x : Hearing). x.refused) g.hearing ∙ not_refused c.args.self.now.traffic.refused (sym c.if-is_some-2.ensures) in
    none_refused (refusal_now new) (ap (λ (x : Option Refusal). cond (is_none x) new.hearing.refused x) open_ ∙ fine) some

pub returns-then-len-lt64-clause-grows : goal.returns-then-len-lt64-clause-grows
returns-then-len-lt64-clause-grows c = hearing_still (listening_of c.args.self.now) (listening_of c.greet-count.new.self) c.args.piece.now c.greet-count.result c.greet-count.ensures.greets

pub returns-then-len-lt64-clause-settled : goal.returns-then-len-lt64-clause-settled
returns-then-len-lt64-clause-settled c =
    let w = c.requires.listens in
    settled_early w.0 (w.1 ++ c.args.piece.now) w.2 (listening_of c.greet-count.new.self) (returns-then-len-lt64-clause-listens c w.0 w.1 w.2 w.3) (λ e. omega (arith, c.if-len-lt64.true, c.len.ensures))

-- ---- what follows the greeting

pub feed-requires : goal.feed-requires
feed-requires c =
    let w = c.requires.listens in
    let g = open_listening w.0 w.1 w.2 (listening_of c.args.self.now) (not_refused c.args.self.now.fault (sym c.if-is_some.ensures)) w.3 in
    record { heard = (w.0, g.more, w.2, subst (λ (x : Hearing). Hears w.0 g.more w.2 x) (sym c.greet-count.ensures.greets.hearing) g.hears) }

pub returns-in-Ok-clause-listens : goal.returns-in-Ok-clause-listens
returns-in-Ok-clause-listens c = λ opts octets given h.
    let piece : List ℕ = c.args.piece.now in
    let k = c.greet-count.result in
    let old : Listening = listening_of c.args.self.now in
    let mid : Listening = listening_of c.greet-count.new.self in
    let new : Listening = record mid { hearing = hearing_of c.feed.new.self } in
    let g : Greets old mid piece k = c.greet-count.ensures.greets in
    let open_ : mid.fault ≡ None = not_refused c.greet-count.new.self.fault (sym c.if-is_some-3.ensures) in
    greeting_goes_on opts octets piece piece given old new mid k (not_refused c.args.self.now.fault (sym c.if-is_some.ensures)) h g refl refl refl open_ (λ lt. absurd (omega (arith, lt, c.if-len-lt64.false, c.len.ensures))) refl
    (λ more hears. subst (λ (l : List ℕ). Hears opts (more ++ l) given new.hearing) (take_rest piece k) (c.in-Ok.ensures.hears opts more given (subst (λ (x : Hearing). Hears opts more given x) (sym g.hearing) hears)))

-- the octets behind the greeting, as far as they were taken
part_of : (piece : List ℕ) (k t : ℕ) → take t (take (length piece - k) (drop k piece)) ≡ drop k (take (k + t) piece)
part_of piece k t = ap (λ (l : List ℕ). take t l) (take_rest piece k) ∙ sym (drop-take k t piece)

pub returns-in-Ok-clause-breaks : goal.returns-in-Ok-clause-breaks
returns-in-Ok-clause-breaks c = λ opts octets given h none some.
    let piece : List ℕ = c.args.piece.now in
    let k = c.greet-count.result in
    let t = c.in-Ok.taken in
    let part : List ℕ = take (k + t) piece in
    let old : Listening = listening_of c.args.self.now in
    let mid : Listening = listening_of c.greet-count.new.self in
    let new : Listening = record mid { hearing = hearing_of c.feed.new.self } in
    let g : Greets old mid piece k = c.greet-count.ensures.greets in
    let closed = not_refused c.args.self.now.fault (sym c.if-is_some.ensures) in
    let open_ : mid.fault ≡ None = not_refused c.greet-count.new.self.fault (sym c.if-is_some-3.ensures) in
    let le : 64 ≤ length mid.greeting = omega (arith, c.if-len-lt64.false, c.len.ensures) in
    let o : Greeted opts octets given old = open_listening opts octets given old closed h in
    let good = good_now opts octets piece given old mid k o g open_ le in
    let front : take k part ≡ take k piece = take-take k (k + t) piece (omega arith) in
    let unrefused : mid.hearing.refused ≡ None = ap (λ (x : Hearing). x.refused) g.hearing ∙ not_refused c.args.self.now.traffic.refused (sym c.if-is_some-2.ensures) in
    let is : refusal_now new ≡ new.hearing.refused = ap (λ (x : Option Refusal). cond (is_none x) new.hearing.refused x) open_ in
    let some' : IsSome new.hearing.refused = subst (λ (x : Option Refusal). IsSome x) is some in
    let r = some_refused new.hearing.refused some' in
    let inner = c.in-Ok.ensures.breaks opts o.more given (subst (λ (x : Hearing). Hears opts o.more given x) (sym g.hearing) o.hears) unrefused some' in
    let hears : Hears opts (o.more ++ drop k part) given new.hearing = subst (λ (l : List ℕ). Hears opts (o.more ++ l) given new.hearing) (part_of piece k t) inner.0 in
    let broken : JustBroken opts (o.more ++ drop k part) = subst (λ (l : List ℕ). JustBroken opts (o.more ++ l)) (part_of piece k t) inner.1 in
    let l : ListensTo opts (octets ++ part) given new =
    greeting_accepted opts octets piece part given old new mid k o g refl refl refl open_ le front hears in
    record {
      refused = refused_means opts (octets ++ part) given new r.0 l (subst (λ (x : Option Refusal). IsSettledAt new.hearing.reader x) (sym r.1) tt) (is ∙ r.1);
      before = λ f octet split.
          unfinished_before opts octets f mid.greeting (o.more ++ drop k part) octet good.0 good.1 broken
          (ap (λ (x : List ℕ). octets ++ x) (sym split) ∙ all_behind opts octets piece part given old mid k o g front);
    }

pub returns-in-Err-clause-listens : goal.returns-in-Err-clause-listens
returns-in-Err-clause-listens c = λ opts octets given h.
    let piece : List ℕ = c.args.piece.now in
    let k = c.greet-count.result in
    let t = c.in-Err.want.taken in
    let part : List ℕ = take (k + t) piece in
    let old : Listening = listening_of c.args.self.now in
    let mid : Listening = listening_of c.greet-count.new.self in
    let new : Listening = record mid { hearing = hearing_of c.feed.new.self } in
    let g : Greets old mid piece k = c.greet-count.ensures.greets in
    let open_ : mid.fault ≡ None = not_refused c.greet-count.new.self.fault (sym c.if-is_some-3.ensures) in
    greeting_goes_on opts octets piece part given old new mid k (not_refused c.args.self.now.fault (sym c.if-is_some.ensures)) h g refl refl refl open_ (λ lt. absurd (omega (arith, lt, c.if-len-lt64.false, c.len.ensures))) (take-take k (k + t) piece (omega arith))
    (λ more hears. subst (λ (l : List ℕ). Hears opts (more ++ l) given new.hearing) (part_of piece k t) (c.in-Err.ensures.hears opts more given (subst (λ (x : Hearing). Hears opts more given x) (sym g.hearing) hears)))

-- ---- what is said of each way out

pub returns-then-is_some-clause-room : goal.returns-then-is_some-clause-room
returns-then-is_some-clause-room c = c.requires.room

pub returns-then-is_some-2-clause-room : goal.returns-then-is_some-2-clause-room
returns-then-is_some-2-clause-room c = c.requires.room

pub returns-then-is_some-3-clause-room : goal.returns-then-is_some-3-clause-room
returns-then-is_some-3-clause-room c = c.greet-count.ensures.room

pub returns-then-len-lt64-clause-room : goal.returns-then-len-lt64-clause-room
returns-then-len-lt64-clause-room c = c.greet-count.ensures.room

pub returns-in-Ok-clause-room : goal.returns-in-Ok-clause-room
returns-in-Ok-clause-room c = c.greet-count.ensures.room

pub returns-in-Err-clause-room : goal.returns-in-Err-clause-room
returns-in-Err-clause-room c = c.greet-count.ensures.room

pub returns-then-is_some-3-clause-taken : goal.returns-then-is_some-3-clause-taken
returns-then-is_some-3-clause-taken c = c.greet-count.ensures.greets.within

pub returns-then-len-lt64-clause-taken : goal.returns-then-len-lt64-clause-taken
returns-then-len-lt64-clause-taken c = c.greet-count.ensures.greets.within

-- as much as is taken of what is behind the first octets is there
all_within : (piece : List ℕ) (k t : ℕ) → k ≤ length piece → t ≤ length (take (length piece - k) (drop k piece)) → k + t ≤ length piece
all_within piece k t front back =
    let rest = ap (λ (l : List ℕ). length l) (take_rest piece k) in
    let behind = length-drop k piece in
    omega (arith, front, back, rest, behind)

pub returns-in-Ok-clause-taken : goal.returns-in-Ok-clause-taken
returns-in-Ok-clause-taken c = all_within c.args.piece.now c.greet-count.result c.in-Ok.taken c.greet-count.ensures.greets.within c.in-Ok.ensures.within

pub returns-in-Err-clause-taken : goal.returns-in-Err-clause-taken
returns-in-Err-clause-taken c = all_within c.args.piece.now c.greet-count.result c.in-Err.want.taken c.greet-count.ensures.greets.within c.in-Err.ensures.within

-- nothing is said of a refusal where there is none
unrefused : (P : Refusal → Type 0) (fault later : Option Refusal) → fault ≡ None → later ≡ None → IfSome (cond (is_none fault) later fault) P
unrefused P None None e f = tt
unrefused P None (Some r) e f = absurd cc
unrefused P (Some r) later e f = absurd cc

pub returns-then-is_some-3-clause-refused : goal.returns-then-is_some-3-clause-refused
returns-then-is_some-3-clause-refused c = unrefused _ c.args.self.now.fault c.args.self.now.traffic.refused (not_refused c.args.self.now.fault (sym c.if-is_some.ensures)) (not_refused c.args.self.now.traffic.refused (sym c.if-is_some-2.ensures))

pub returns-then-len-lt64-clause-refused : goal.returns-then-len-lt64-clause-refused
returns-then-len-lt64-clause-refused c = unrefused _ c.args.self.now.fault c.args.self.now.traffic.refused (not_refused c.args.self.now.fault (sym c.if-is_some.ensures)) (not_refused c.args.self.now.traffic.refused (sym c.if-is_some-2.ensures))

pub returns-in-Ok-clause-refused : goal.returns-in-Ok-clause-refused
returns-in-Ok-clause-refused c = unrefused _ c.args.self.now.fault c.args.self.now.traffic.refused (not_refused c.args.self.now.fault (sym c.if-is_some.ensures)) (not_refused c.args.self.now.traffic.refused (sym c.if-is_some-2.ensures))

pub returns-in-Err-clause-refused : goal.returns-in-Err-clause-refused
returns-in-Err-clause-refused c = unrefused _ c.args.self.now.fault c.args.self.now.traffic.refused (not_refused c.args.self.now.fault (sym c.if-is_some.ensures)) (not_refused c.args.self.now.traffic.refused (sym c.if-is_some-2.ensures))
