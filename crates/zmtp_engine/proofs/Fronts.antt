-- What is kept, whatever of it was taken up, is a front of what the octets mean.
use Rattle.std.proofs.Common.{◌≡◌, ℕ, true, cond, eqb, List, [], ◌++◌, length, take, Option, Some, None, refl, sym, ap, subst, inl, inr, ◌∙◌, arith}
use Rattle.std.specs.Prelude.{◌⊎◌, ◌&&◌, is_none, IsSome}
use mathlib.Core.List.{IsPrefix}
use Rattle.std.proofs.lemmas.Bool.{cases_lt}
use Rattle.std.proofs.lemmas.List.{append-nil}
use Rattle.zq_base.specs.declared.options.EngineOpts.{EngineOpts}
use Rattle.zq_base.specs.declared.options.Peer.{Peer}
use Rattle.spec_zmtp.specs.declared.cause.Refusal.{Refusal}
use Rattle.spec_zmtp.specs.declared.command.Command.{Command}
use Rattle.spec_zmtp.specs.FrameEncoding.{WireFrame}
use Rattle.spec_zmtp.specs.FrameRules.{gathered, items_of}
use Rattle.spec_zmtp.specs.Greeting.{greeting_of}
use Rattle.spec_zmtp.specs.Handshake.{Item, handshake}
use Rattle.spec_zmtp.specs.OwnCommands.{IsEngineOpts}
use Rattle.spec_zmtp.specs.Put.{encode_commands}
use Rattle.spec_zmtp.specs.DecodedStream.{Decoded, Decodes, Unfinished, IsStream}
use Rattle.spec_zmtp.proofs.JudgementLemmas.{long_judged}
use Rattle.spec_zmtp.proofs.MoreLemmas.{stands_in}
use Rattle.spec_zmtp.proofs.StreamLemmas.{one_meaning}
use Rattle.zmtp_engine.specs.Speech.{IsModest}
use Rattle.zmtp_engine.specs.Hearing.{Hearing, HearsAt, IsSettledAt}
use Rattle.zmtp_engine.specs.Listening.{Listening, Greeted, ListensTo, ListensAt, IsSettledNow, is_greeted, said_now}
use Rattle.zmtp_engine.proofs.Meaning.{means, settled_early}
use Rattle.zmtp_engine.proofs.SaidLemmas.{modest, decodes_modest}

-- behind an accepted greeting, frames that keep the rules were taken up
record Taken (opts : EngineOpts) (octets : List ℕ) (given : List (List (List ℕ))) (l : Listening) : Type 0 where
  frames : List WireFrame
  rest : List ℕ
  stream : IsStream opts octets frames rest
  said : said_now l ≡ greeting_of opts.role ++ encode_commands (handshake opts (items_of frames)).said
  whole : (gathered frames).whole ≡ given ++ l.hearing.queue
  peer : l.hearing.peer ≡ (handshake opts (items_of frames)).peer

open_way : (opts : EngineOpts) (octets : List ℕ) (given : List (List (List ℕ))) (l : Listening) (r : Option Refusal) → l.fault ≡ None → (g : Greeted opts octets given l) → length l.greeting ≡ 64 → l.hearing.refused ≡ r → HearsAt opts g.more given l.hearing r
    → IsSettledNow l ⊎ Taken opts octets given l
open_way opts octets given l None none g len is k =
    let h : Hearing = l.hearing in
    let greeted : is_greeted l ≡ true = ap (λ (x : Option Refusal). is_none x && eqb (length l.greeting) 64) none ∙ ap (λ (n : ℕ). true && eqb n 64) len in
    inr (record {
      frames = k.frames;
      rest = k.rest;
      stream = record { greeting = l.greeting; whole = len; accepted = long_judged opts.role l.greeting g.fine (omega (arith, len)); all = g.all ∙ ap (λ (m : List ℕ). l.greeting ++ m) k.all; keep = k.keep };
      said = ap (λ b. cond b h.said (take 64 h.said)) greeted ∙ k.shaken.said;
      whole = k.whole;
      peer = k.shaken.peer;
    })
open_way opts octets given l (Some r) none g len is k = inl (subst (λ (x : Option Refusal). IsSettledAt l.hearing.reader x) (sym is) tt)

way_at : (opts : EngineOpts) (octets : List ℕ) (given : List (List (List ℕ))) (l : Listening) (f : Option Refusal) → l.fault ≡ f → ListensAt opts octets given l f → ListensTo opts octets given l → IsSettledNow l ⊎ Taken opts octets given l
way_at opts octets given l None none g k =
    elim (cases_lt (length l.greeting) 64) [
      | inl lt ↦ inl (settled_early opts octets given l k (λ e. lt))
      | inr le ↦ open_way opts octets given l l.hearing.refused none g (omega (arith, le, g.fits)) refl g.hears
    ]
way_at opts octets given l (Some f) some s k = inl (settled_early opts octets given l k (λ e. let both : None ≡ Some f = sym e ∙ some in absurd cc))

way : (opts : EngineOpts) (octets : List ℕ) (given : List (List (List ℕ))) (l : Listening) → ListensTo opts octets given l → IsSettledNow l ⊎ Taken opts octets given l
way opts octets given l k = way_at opts octets given l l.fault refl k k

-- what is said is our greeting and few commands
pub kept_said : (opts : EngineOpts) (octets : List ℕ) (given : List (List (List ℕ))) (l : Listening) → IsEngineOpts opts → ListensTo opts octets given l
    → (commands : List Command) × (said_now l ≡ greeting_of opts.role ++ encode_commands commands) × IsModest commands
kept_said opts octets given l h k =
    elim (way opts octets given l k) [
      | inl settled ↦ let m = means opts octets given l k settled in (m.0.said, sym m.1.said, decodes_modest opts octets m.0 h m.1.decodes)
      | inr t ↦ ((handshake opts (items_of t.frames)).said, t.said, modest opts (items_of t.frames) h)
    ]

-- what is said and the whole messages, against what all octets mean
pub record Fronts (opts : EngineOpts) (given : List (List (List ℕ))) (l : Listening) (d : Decoded) : Type 0 where
  pub commands : List Command
  pub said : said_now l ≡ greeting_of opts.role ++ encode_commands commands
  pub modest : IsModest commands
  pub front : IsPrefix commands d.said
  pub known : IsSome l.hearing.peer → commands ≡ d.said
  pub messages : IsPrefix (given ++ l.hearing.queue) d.messages

by_meaning : (opts : EngineOpts) (octets : List ℕ) (given : List (List (List ℕ))) (l : Listening) (d : Decoded) → IsEngineOpts opts → ListensTo opts octets given l → IsSettledNow l → Decodes opts octets d → Fronts opts given l d
by_meaning opts octets given l d h k settled is =
    let m = means opts octets given l k settled in
    let same : m.0 ≡ d = one_meaning opts octets m.0 d m.1.decodes is in
    record {
      commands = m.0.said;
      said = sym m.1.said;
      modest = decodes_modest opts octets m.0 h m.1.decodes;
      front = ([], append-nil m.0.said ∙ ap (λ (x : Decoded). x.said) same);
      known = λ some. ap (λ (x : Decoded). x.said) same;
      messages = ([], append-nil (given ++ l.hearing.queue) ∙ sym m.1.messages ∙ ap (λ (x : Decoded). x.messages) same);
    }

pub fronts : (opts : EngineOpts) (octets : List ℕ) (given : List (List (List ℕ))) (l : Listening) (d : Decoded) → IsEngineOpts opts → ListensTo opts octets given l → Decodes opts octets d → Fronts opts given l d
fronts opts octets given l d h k is =
    elim (way opts octets given l k) [
      | inl settled ↦ by_meaning opts octets given l d h k settled is
      | inr t ↦
          let on = stands_in opts octets d t.frames t.rest (Unfinished 0) t.stream is in
          record {
            commands = (handshake opts (items_of t.frames)).said;
            said = t.said;
            modest = modest opts (items_of t.frames) h;
            known = λ some.
                let p : l.hearing.peer ≡ (handshake opts (items_of t.frames ++ [])).peer = t.peer ∙ ap (λ (i : List Item). (handshake opts i).peer) (sym (append-nil (items_of t.frames))) in
                ap (λ (i : List Item). (handshake opts i).said) (sym (append-nil (items_of t.frames))) ∙ sym (on.known (subst (λ (o : Option Peer). IsSome o) p some)).1;
            front = subst (λ (i : List Item). IsPrefix (handshake opts i).said d.said) (append-nil (items_of t.frames)) on.said;
            messages = subst (λ (w : List (List (List ℕ))). IsPrefix w d.messages) t.whole on.messages;
          }
    ]
