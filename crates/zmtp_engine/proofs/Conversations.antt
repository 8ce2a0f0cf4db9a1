-- What a call adds to the past.
use Rattle.std.proofs.Common.{◌≡◌, ℕ, ◌<◌, ◌≤◌, Bool, true, false, cond, eqb, List, [], ◌∷◌, ◌++◌, length, take, drop, Option, Some, None, refl, sym, ap, subst, ◌∙◌, append_assoc, arith}
use Rattle.std.specs.Prelude.{◌&&◌, is_none, IsSome}
use Rattle.std.specs.List.{flat_map}
use Rattle.std.proofs.lemmas.Bool.{eqb-true, eqb-false, eq-eqb}
use Rattle.std.proofs.lemmas.List.{length-append, append-nil, drop-append-le, take-append-drop, map-append}
use Rattle.std.proofs.lemmas.List.Concat.{flat_map-append}
use Rattle.zq_base.specs.declared.options.EngineOpts.{EngineOpts}
use Rattle.zq_base.specs.declared.options.Peer.{Peer}
use Rattle.spec_zmtp.specs.declared.cause.Refusal.{Refusal}
use Rattle.spec_zmtp.specs.declared.greeting.Judgement.TheVariants.{Good}
use Rattle.spec_zmtp.specs.FrameEncoding.{encode_message}
use Rattle.spec_zmtp.specs.Greeting.{greeting_of, judged, refusal_in}
use Rattle.spec_zmtp.specs.declared.command.Command.{Command}
use Rattle.spec_zmtp.specs.Put.{Put, Sends, says, sends, encode_commands}
use Rattle.spec_zmtp.proofs.FrameLemmas.{same_front}
use Rattle.spec_zmtp.proofs.StreamLemmas.{judged_stays}
use Rattle.zmtp_engine.specs.Hearing.{Hearing, Hears, HearsAt, Grows}
use Rattle.zmtp_engine.specs.Listening.{Listening, Greeted, ListensTo, ListensAt, is_greeted, said_now}
use Rattle.zmtp_engine.specs.Speech.{IsModest}
use Rattle.zmtp_engine.specs.Output.{pieces_of, pieces_in, octets_left, joined, begun_run}
use Rattle.zmtp_engine.specs.Conversation.{Past, Conversation, Follows, fed, gave, took, wrote, lent, with_output}
use Rattle.spec_zmtp.proofs.JudgementLemmas.{long_judged}
use Rattle.zmtp_engine.proofs.Fronts.{kept_said}
use Rattle.zmtp_engine.proofs.OutputLemmas.{joined-pieces_of, begun_octets, begun_within, begun_idle}
use Rattle.zmtp_engine.proofs.SaidLemmas.{commands_front, no_octets}
use Rattle.zmtp_engine.proofs.Meaning.{HeardNothing, heard_nothing, said_at, greeting_said, length-greeting_of}

-- ---- what is said

greeted_facts : (f : Option Refusal) (n : ℕ) → (is_none f && eqb n 64) ≡ true → (f ≡ None) × (n ≡ 64)
greeted_facts None n e = (refl, eqb-true n 64 e)
greeted_facts (Some r) n e = absurd cc

not_greeted : (f : Option Refusal) (n : ℕ) → (is_none f && eqb n 64) ≡ false → f ≡ None → n ≡ 64 → ⊥
not_greeted None n e none is = eqb-false n 64 e is
not_greeted (Some r) n e none is = absurd cc

is_greeted_by : (f : Option Refusal) (n : ℕ) → f ≡ None → n ≡ 64 → (is_none f && eqb n 64) ≡ true
is_greeted_by f n none is = ap (λ (x : Option Refusal). is_none x && eqb n 64) none ∙ eq-eqb n 64 is

hears_at : (opts : EngineOpts) (octets : List ℕ) (given : List (List (List ℕ))) (l : Listening) (f : Option Refusal) → ListensAt opts octets given l f → (o : List ℕ) × Hears opts o given l.hearing
hears_at opts octets given l None g = (g.more, g.hears)
hears_at opts octets given l (Some f) s = ([], s.hears)

hears_some : (opts : EngineOpts) (octets : List ℕ) (given : List (List (List ℕ))) (l : Listening) → ListensTo opts octets given l → (o : List ℕ) × Hears opts o given l.hearing
hears_some opts octets given l k = hears_at opts octets given l l.fault k

pub said_long : (opts : EngineOpts) (octets : List ℕ) (given : List (List (List ℕ))) (l : Listening) → ListensTo opts octets given l → 64 ≤ length l.hearing.said
said_long opts octets given l k =
    let h = hears_some opts octets given l k in
    let s = said_at opts h.0 given l.hearing l.hearing.refused h.1 in
    omega (arith, ap (λ (x : List ℕ). length x) s.1, length-append (greeting_of opts.role) s.0, length-greeting_of opts.role)

nothing_yet_at : (opts : EngineOpts) (octets : List ℕ) (given : List (List (List ℕ))) (l : Listening) (f : Option Refusal) → l.fault ≡ f → ListensAt opts octets given l f → is_greeted l ≡ false → HeardNothing given l.hearing
nothing_yet_at opts octets given l None none g early =
    heard_nothing opts given l.hearing (subst (λ (o : List ℕ). Hears opts o given l.hearing) (g.short (let ne = not_greeted l.fault (length l.greeting) early none in omega (arith, g.fits, ne))) g.hears)
nothing_yet_at opts octets given l (Some f) some s early = heard_nothing opts given l.hearing s.hears

stays_at : (opts : EngineOpts) (octets more : List ℕ) (given given' : List (List (List ℕ))) (l new : Listening) (f : Option Refusal) → new.fault ≡ f → ListensAt opts (octets ++ more) given' new f → ListensTo opts octets given l → is_greeted l ≡ true → is_greeted new ≡ true
stays_at opts octets more given given' l new None none g k is =
    let facts = greeted_facts l.fault (length l.greeting) is in
    let old : Greeted opts octets given l = subst (λ (f : Option Refusal). ListensAt opts octets given l f) facts.0 k in
    let long : length new.greeting < 64 → ⊥ = λ lt.
    omega (arith, lt, facts.1, ap (λ (x : List ℕ). length x) old.all, length-append l.greeting old.more, ap (λ (x : List ℕ). length x) g.all, length-append octets more, length-append new.greeting g.more, ap (λ (x : List ℕ). length x) (g.short lt)) in
    is_greeted_by new.fault (length new.greeting) none (omega (arith, g.fits, long))
stays_at opts octets more given given' l new (Some f) some s k is =
    let facts = greeted_facts l.fault (length l.greeting) is in
    let old : Greeted opts octets given l = subst (λ (f : Option Refusal). ListensAt opts octets given l f) facts.0 k in
    let good : judged opts.role (l.greeting ++ (old.more ++ more)) ≡ Good = judged_stays opts l.greeting (old.more ++ more) Good (long_judged opts.role l.greeting old.fine (omega (arith, facts.1))) (λ e. absurd cc) in
    let same : l.greeting ++ (old.more ++ more) ≡ s.front ++ s.rest = sym (ap (λ (x : List ℕ). x ++ more) old.all ∙ append_assoc l.greeting old.more more) ∙ s.all in
    let bad : judged opts.role (s.front ++ s.rest) ≡ judged opts.role s.front = judged_stays opts s.front s.rest (judged opts.role s.front) refl (λ e. let both : None ≡ Some f = sym (ap refusal_in e) ∙ s.bad in absurd cc) in
    let both : None ≡ Some f = ap refusal_in (sym good ∙ ap (λ (x : List ℕ). judged opts.role x) same ∙ bad) ∙ s.bad in
    absurd cc

stays_greeted : (opts : EngineOpts) (octets more : List ℕ) (given given' : List (List (List ℕ))) (l new : Listening) → ListensTo opts octets given l → ListensTo opts (octets ++ more) given' new → is_greeted l ≡ true → is_greeted new ≡ true
stays_greeted opts octets more given given' l new k j is = stays_at opts octets more given given' l new new.fault refl j k is

-- what is said goes on at its end, and not once the peer is known
record SaidOn (l new : Listening) : Type 0 where
  extra : List ℕ
  said : said_now new ≡ said_now l ++ extra
  quiet : IsSome l.hearing.peer → (extra ≡ []) × (new.hearing.peer ≡ l.hearing.peer)

said_if : (b : Bool) (l : Listening) → is_greeted l ≡ b → said_now l ≡ cond b l.hearing.said (take 64 l.hearing.said)
said_if b l e = ap (λ (x : Bool). cond x l.hearing.said (take 64 l.hearing.said)) e

no_peer : (p : Option Peer) → p ≡ None → IsSome p → ⊥
no_peer p e some = let s : IsSome {T = Peer} None = subst (λ (q : Option Peer). IsSome q) e some in absurd cc

said_on_at : (opts : EngineOpts) (octets more : List ℕ) (given given' : List (List (List ℕ))) (l new : Listening) (b b' : Bool) → is_greeted l ≡ b → is_greeted new ≡ b' → ListensTo opts octets given l → ListensTo opts (octets ++ more) given' new → Grows l.hearing new.hearing → SaidOn l new
said_on_at opts octets more given given' l new true true e e' k j g = record {
  extra = g.more;
  said = said_if true new e' ∙ g.said ∙ ap (λ (x : List ℕ). x ++ g.more) (sym (said_if true l e));
  quiet = g.quiet;
}
said_on_at opts octets more given given' l new true false e e' k j g = let both : true ≡ false = sym (stays_greeted opts octets more given given' l new k j e) ∙ e' in absurd cc
said_on_at opts octets more given given' l new false true e e' k j g =
    let h = hears_some opts octets given l k in
    let h' = hears_some opts (octets ++ more) given' new j in
    let s = said_at opts h'.0 given' new.hearing new.hearing.refused h'.1 in
    let n = nothing_yet_at opts octets given l l.fault refl k e in
    record {
      extra = s.0;
      said = said_if true new e' ∙ s.1 ∙ ap (λ (x : List ℕ). x ++ s.0) (sym (said_if false l e ∙ greeting_said opts h.0 given l.hearing h.1));
      quiet = λ some. absurd (no_peer l.hearing.peer n.peer some);
    }
said_on_at opts octets more given given' l new false false e e' k j g =
    let h = hears_some opts octets given l k in
    let h' = hears_some opts (octets ++ more) given' new j in
    let n = nothing_yet_at opts octets given l l.fault refl k e in
    record {
      extra = [];
      said = said_if false new e' ∙ greeting_said opts h'.0 given' new.hearing h'.1 ∙ sym (said_if false l e ∙ greeting_said opts h.0 given l.hearing h.1) ∙ sym (append-nil (said_now l));
      quiet = λ some. absurd (no_peer l.hearing.peer n.peer some);
    }

said_on : (opts : EngineOpts) (octets more : List ℕ) (given given' : List (List (List ℕ))) (l new : Listening) → ListensTo opts octets given l → ListensTo opts (octets ++ more) given' new → Grows l.hearing new.hearing → SaidOn l new
said_on opts octets more given given' l new k j g = said_on_at opts octets more given given' l new (is_greeted l) (is_greeted new) refl refl k j g

-- ---- a feed

all_quiet : (written run said x y said' extra : List ℕ) (at : ℕ) → at ≤ length said → x ≡ [] → y ≡ [] → written ++ (run ++ (drop at said ++ x)) ≡ said ++ y → said' ≡ said ++ extra → written ++ (run ++ (drop at said' ++ x)) ≡ said' ++ y
all_quiet written run said x y said' extra at le ex ey all grown =
    let base : (written ++ run) ++ drop at said ≡ said = append_assoc written run (drop at said) ∙ ap (λ (l : List ℕ). written ++ (run ++ l)) (sym (append-nil (drop at said)) ∙ ap (λ (l : List ℕ). drop at said ++ l) (sym ex)) ∙ all ∙ ap (λ (l : List ℕ). said ++ l) ey ∙ append-nil said in
    let left : written ++ (run ++ (drop at (said ++ extra) ++ x)) ≡ said ++ extra =
    ap (λ (l : List ℕ). written ++ (run ++ (l ++ x))) (drop-append-le at said extra le) ∙ ap (λ (l : List ℕ). written ++ (run ++ ((drop at said ++ extra) ++ l))) ex ∙ ap (λ (l : List ℕ). written ++ (run ++ l)) (append-nil (drop at said ++ extra))
    ∙ sym (append_assoc written run (drop at said ++ extra)) ∙ sym (append_assoc (written ++ run) (drop at said) extra) ∙ ap (λ (l : List ℕ). l ++ extra) base in
    ap (λ (s : List ℕ). written ++ (run ++ (drop at s ++ x))) grown ∙ left ∙ sym grown ∙ sym (ap (λ (l : List ℕ). said' ++ l) ey ∙ append-nil said')

-- these commands are put behind those that were
record PutOn (p : Past) (c : Conversation) (l : Listening) (f : Follows p c) (more : List Command) : Type 0 where
  put : p.put ++ says more ≡ says (f.commands ++ more) ++ sends f.messages
  all : p.written ++ (c.output.run ++ octets_left (said_now l) c.output) ≡ said_now l ++ flat_map encode_message f.messages
  idle : l.hearing.peer ≡ None → (f.messages ≡ []) × (c.output.later ≡ None)

no_messages : (put : List Put) (cs more : List Command) (ms : List (List (List ℕ))) → ms ≡ [] → put ≡ says cs ++ sends ms → put ++ says more ≡ says (cs ++ more) ++ sends ms
no_messages put cs more ms none e =
    ap (λ (l : List Put). l ++ says more) (e ∙ ap (λ (m : List (List (List ℕ))). says cs ++ sends m) none ∙ append-nil (says cs)) ∙ sym (map-append _ cs more) ∙ sym (append-nil (says (cs ++ more)))
    ∙ ap (λ (m : List (List (List ℕ))). says (cs ++ more) ++ sends m) (sym none)

no_commands : (put : List Put) (cs more : List Command) (ms : List (List (List ℕ))) → more ≡ [] → put ≡ says cs ++ sends ms → put ++ says more ≡ says (cs ++ more) ++ sends ms
no_commands put cs more ms none e =
    ap (λ (m : List Command). put ++ says m) none ∙ append-nil put ∙ e ∙ ap (λ (l : List Command). says l ++ sends ms) (sym (append-nil cs) ∙ ap (λ (m : List Command). cs ++ m) (sym none))

puts_on : (p : Past) (c : Conversation) (l : Listening) (q : Option Peer) → c.listening.hearing.peer ≡ q → (f : Follows p c) → (s : SaidOn c.listening l) → (more : List Command) → encode_commands more ≡ s.extra → PutOn p c l f more
puts_on p c l None none f s more e =
    let i = f.idle none in
    let x : joined (pieces_in c.output.later) ≡ [] = ap (λ (o : Option (List (List ℕ))). joined (pieces_in o)) i.1 in
    let y : flat_map encode_message f.messages ≡ [] = ap (λ (ms : List (List (List ℕ))). flat_map encode_message ms) i.0 in
    record {
      put = no_messages p.put f.commands more f.messages i.0 f.put;
      all = all_quiet p.written c.output.run (said_now c.listening) (joined (pieces_in c.output.later)) (flat_map encode_message f.messages) (said_now l) s.extra c.output.begun f.within x y f.all s.said;
      idle = λ e. i;
    }
puts_on p c l (Some q) some f s more e =
    let quiet = s.quiet (subst (λ (o : Option Peer). IsSome o) (sym some) refl) in
    let same : said_now l ≡ said_now c.listening = s.said ∙ ap (λ (x : List ℕ). said_now c.listening ++ x) quiet.0 ∙ append-nil (said_now c.listening) in
    record {
      put = no_commands p.put f.commands more f.messages (no_octets more (e ∙ quiet.0)) f.put;
      all = subst (λ (x : List ℕ). p.written ++ (c.output.run ++ octets_left x c.output) ≡ x ++ flat_map encode_message f.messages) (sym same) f.all;
      idle = λ e. let both : None ≡ Some q = sym e ∙ quiet.1 ∙ some in absurd cc;
    }

pub feeds : (p : Past) (octets : List ℕ) (c : Conversation) (l : Listening) → Follows p c → ListensTo p.opts (p.heard ++ octets) p.given l → Grows c.listening.hearing l.hearing → (commands : List Command) × Follows (fed octets commands p) (record c { listening = l })
feeds p octets c l f j g =
    let s = said_on p.opts p.heard octets p.given p.given c.listening l f.listens j g in
    let k = kept_said p.opts (p.heard ++ octets) p.given l f.opts j in
    let m : IsModest k.0 = k.2 in
    let greeting : List ℕ = greeting_of p.opts.role in
    let split : greeting ++ (encode_commands f.commands ++ s.extra) ≡ greeting ++ encode_commands k.0 =
    sym (append_assoc greeting (encode_commands f.commands) s.extra) ∙ ap (λ (x : List ℕ). x ++ s.extra) (sym f.said) ∙ sym s.said ∙ k.1 in
    let z = commands_front f.commands k.0 s.extra f.modest.1 m.1 (same_front greeting greeting (encode_commands f.commands ++ s.extra) (encode_commands k.0) refl split).1 in
    let o = puts_on p c l c.listening.hearing.peer refl f s z.0 z.2 in (
      z.0,
      record {
        opts = f.opts;
        listens = j;
        commands = f.commands ++ z.0;
        messages = f.messages;
        put = o.put;
        modest = subst (λ (cs : List Command). IsModest cs) z.1 m;
        said = k.1 ∙ ap (λ (cs : List Command). greeting ++ encode_commands cs) z.1;
        within = omega (arith, f.within, ap (λ (x : List ℕ). length x) s.said, length-append (said_now c.listening) s.extra);
        all = o.all;
        idle = o.idle;
      },
    )

-- ---- messages taken out

gave_at : (opts : EngineOpts) (octets : List ℕ) (given ms rest : List (List (List ℕ))) (h : Hearing) (r : Option Refusal) → h.queue ≡ ms ++ rest → HearsAt opts octets given h r → HearsAt opts octets (given ++ ms) (record h { queue = rest }) r
gave_at opts octets given ms rest h None q l = record {
  frames = l.frames;
  rest = l.rest;
  all = l.all;
  keep = l.keep;
  shaken = record { opts_is = l.shaken.opts_is; said = l.shaken.said; peer = l.shaken.peer };
  stage = l.stage;
  unrefused = l.unrefused;
  parts = l.parts;
  whole = l.whole ∙ ap (λ (x : List (List (List ℕ))). given ++ x) q ∙ sym (append_assoc given ms rest);
  offset = l.offset;
  begun = l.begun;
  earlier = l.earlier;
  begins = l.begins;
}
gave_at opts octets given ms rest h (Some r) q s = record {
  frames = s.frames;
  rest = s.rest;
  items = s.items;
  all = s.all;
  keep = s.keep;
  breaks = s.breaks;
  shaken = record { opts_is = s.shaken.opts_is; said = s.shaken.said; peer = s.shaken.peer };
  whole = s.whole ∙ ap (λ (x : List (List (List ℕ))). given ++ x) q ∙ sym (append_assoc given ms rest);
  offset = s.offset;
}

gave_listens : (opts : EngineOpts) (octets : List ℕ) (given ms rest : List (List (List ℕ))) (l : Listening) (f : Option Refusal) → l.hearing.queue ≡ ms ++ rest → ListensAt opts octets given l f → ListensAt opts octets (given ++ ms) (record l { hearing = record l.hearing { queue = rest } }) f
gave_listens opts octets given ms rest l None q g = record { more = g.more; all = g.all; fine = g.fine; fits = g.fits; short = g.short; hears = gave_at opts g.more given ms rest l.hearing l.hearing.refused q g.hears; role = g.role }
gave_listens opts octets given ms rest l (Some f) q s = record { front = s.front; rest = s.rest; all = s.all; bad = s.bad; hears = gave_at opts [] given ms rest l.hearing l.hearing.refused q s.hears; role = s.role }

-- the same with these messages waiting
abbrev pub with_queue : List (List (List ℕ)) → Conversation → Conversation
with_queue rest c = record c { listening = record c.listening { hearing = record c.listening.hearing { queue = rest } } }

pub gives : (p : Past) (ms rest : List (List (List ℕ))) (c : Conversation) → c.listening.hearing.queue ≡ ms ++ rest → Follows p c → Follows (gave ms p) (with_queue rest c)
gives p ms rest c q f = record {
  opts = f.opts;
  listens = gave_listens p.opts p.heard p.given ms rest c.listening c.listening.fault q f.listens;
  commands = f.commands;
  messages = f.messages;
  put = f.put;
  modest = f.modest;
  said = f.said;
  within = f.within;
  all = f.all;
  idle = f.idle;
}

-- ---- a message taken in

pub takes : (p : Past) (m : List (List ℕ)) (c : Conversation) → IsSome c.listening.hearing.peer → c.output.later ≡ None → Follows p c → Follows (took m p) (with_output (record c.output { later = Some (pieces_of m) }) c)
takes p m c some none f =
    let said : List ℕ = said_now c.listening in
    let sent : List ℕ = flat_map encode_message f.messages in
    let front : List ℕ = c.output.run ++ drop c.output.begun said in
    let left : c.output.run ++ octets_left said c.output ≡ front =
    ap (λ (o : Option (List (List ℕ))). c.output.run ++ (drop c.output.begun said ++ joined (pieces_in o))) none ∙ ap (λ (l : List ℕ). c.output.run ++ l) (append-nil (drop c.output.begun said)) in
    let base : p.written ++ front ≡ said ++ sent = ap (λ (l : List ℕ). p.written ++ l) (sym left) ∙ f.all in
    let more : flat_map encode_message (f.messages ++ m ∷ []) ≡ sent ++ encode_message m = flat_map-append encode_message f.messages (m ∷ []) ∙ ap (λ (l : List ℕ). sent ++ l) (append-nil (encode_message m)) in
    record {
      opts = f.opts;
      listens = f.listens;
      commands = f.commands;
      messages = f.messages ++ m ∷ [];
      put = ap (λ (l : List Put). l ++ Sends m ∷ []) f.put ∙ append_assoc (says f.commands) (sends f.messages) (Sends m ∷ []) ∙ ap (λ (l : List Put). says f.commands ++ l) (sym (map-append _ f.messages (m ∷ [])));
      modest = f.modest;
      said = f.said;
      within = f.within;
      all = ap (λ (l : List ℕ). p.written ++ (c.output.run ++ (drop c.output.begun said ++ l))) (joined-pieces_of m) ∙ ap (λ (l : List ℕ). p.written ++ l) (sym (append_assoc c.output.run (drop c.output.begun said) (encode_message m)))
          ∙ sym (append_assoc p.written front (encode_message m)) ∙ ap (λ (l : List ℕ). l ++ encode_message m) base ∙ append_assoc said sent (encode_message m) ∙ ap (λ (l : List ℕ). said ++ l) (sym more);
      idle = λ e. absurd (no_peer c.listening.hearing.peer e some);
    }

-- ---- octets written

pub writes : (p : Past) (n : ℕ) (c : Conversation) → Follows p c → Follows (wrote (take n (lent c)) p) (with_output (record c.output { run = drop n (lent c) }) c)
writes p n c f =
    let run : List ℕ = c.output.run in
    let rest : List ℕ = octets_left (said_now c.listening) c.output in
    record {
      opts = f.opts;
      listens = f.listens;
      commands = f.commands;
      messages = f.messages;
      put = f.put;
      modest = f.modest;
      said = f.said;
      within = f.within;
      all = append_assoc p.written (take n run) (drop n run ++ rest) ∙ ap (λ (l : List ℕ). p.written ++ l) (sym (append_assoc (take n run) (drop n run) rest) ∙ ap (λ (l : List ℕ). l ++ rest) (take-append-drop n run)) ∙ f.all;
      idle = f.idle;
    }

-- ---- a run begun

pub begins : (p : Past) (c : Conversation) → Follows p c → Follows p (with_output (begun_run (said_now c.listening) c.output) c)
begins p c f =
    let said : List ℕ = said_now c.listening in
    record {
      opts = f.opts;
      listens = f.listens;
      commands = f.commands;
      messages = f.messages;
      put = f.put;
      modest = f.modest;
      said = f.said;
      within = begun_within said c.output f.within;
      all = ap (λ (l : List ℕ). p.written ++ l) (begun_octets said c.output) ∙ f.all;
      idle = λ e. let i = f.idle e in (i.0, begun_idle said c.output i.1);
    }
