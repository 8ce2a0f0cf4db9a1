-- What the end of a command does to what is kept.
use Rattle.std.proofs.Common.{◌≡◌, ℕ, ◌+◌, List, [], ◌++◌, Option, Some, None, refl, sym, ap, subst, inl, inr, ◌∙◌, arith}
use Rattle.std.specs.Prelude.{◌⊎◌, IsSome, OnOk, Result, Ok, Err}
use Rattle.std.specs.Option.{option_or, option_to_list}
use Rattle.std.proofs.lemmas.List.{append-nil, append_assoc}
use Rattle.zq_base.specs.declared.options.EngineOpts.{EngineOpts}
use Rattle.zq_base.specs.declared.options.Peer.{Peer}
use Rattle.zq_base.specs.declared.options.Role.{Role}
use Rattle.zq_base.specs.declared.options.Role.TheVariants.{Null, PlainClient, PlainServer}
use Rattle.spec_zmtp.specs.declared.cause.Cause.{Cause}
use Rattle.spec_zmtp.specs.declared.cause.Cause.TheVariants.{BadCommand}
use Rattle.spec_zmtp.specs.declared.cause.Refusal.{Refusal}
use Rattle.spec_zmtp.specs.declared.command.Command as command
use Rattle.spec_zmtp.specs.declared.flags.FrameKind.TheVariants.{Command}
use Rattle.spec_zmtp.specs.declared.handshake.Awaited.{Awaited}
use Rattle.spec_zmtp.specs.declared.handshake.Awaited.TheVariants as awaited
use Rattle.spec_zmtp.specs.declared.handshake.Stage.{Stage}
use Rattle.spec_zmtp.specs.declared.handshake.Stage.TheVariants.{Waiting, Running, Refused}
use Rattle.spec_zmtp.specs.FrameRules.{item_at, items_of}
use Rattle.spec_zmtp.specs.Decoding.{decode_command}
use Rattle.spec_zmtp.specs.Handshake.{Item, Told, Malformed, told, Handshake, silent, next, handshake, handshake_as, stage_refusal}
use Rattle.spec_zmtp.specs.Greeting.{greeting_of}
use Rattle.spec_zmtp.specs.DecodedStream.{offset_of}
use Rattle.spec_zmtp.specs.Put.{encode_commands}
use Rattle.spec_zmtp.proofs.HandshakeLemmas.{peer-waiting}
use Rattle.zmtp_mech.proofs.OutcomeLemmas.{added}
use Rattle.zmtp_frame.specs.Reading.{InHead, InBody}
use Rattle.zmtp_frame.specs.Reading as reading
use Rattle.zmtp_engine.specs.Hearing.{Hearing, Listens, Hears, Grows, IsBegun}
use Rattle.zmtp_engine.proofs.Ends.{Shakes, frame_ends, frame_refused, or_none}

-- a peer that is known is told by no handshake that waits
unknown_yet : (opts : EngineOpts) (octets : List ℕ) (given : List (List (List ℕ))) (h : Hearing) (a : Awaited) → Listens opts octets given h → h.stage ≡ Waiting a → h.peer ≡ None
unknown_yet opts octets given h a l e = l.shaken.peer ∙ peer-waiting opts (items_of l.frames) a (sym l.stage ∙ e)

-- only a handshake that waits says or learns something
waits_or_silent : (opts : EngineOpts) (s : Stage) (item : Item) → ((a : Awaited) × (s ≡ Waiting a)) ⊎ (((next opts s item).said ≡ []) × ((next opts s item).peer ≡ None))
waits_or_silent opts (Waiting a) item = inl (a, refl)
waits_or_silent opts Running item = inr (refl, refl)
waits_or_silent opts (Refused cause) item = inr (refl, refl)

no_some : (p : Option Peer) → p ≡ None → IsSome p → ⊥
no_some p e some = let s : IsSome {T = Peer} None = subst (λ (q : Option Peer). IsSome q) e some in absurd cc

pub grows_by : (opts : EngineOpts) (octets : List ℕ) (given : List (List (List ℕ))) (item : Item) (h new : Hearing) → Listens opts octets given h → Shakes opts item h new → Grows h new
grows_by opts octets given item h new l s = record {
  more = encode_commands (next opts h.stage item).said;
  said = s.said;
  quiet = λ some.
      elim (waits_or_silent opts h.stage item) [
        | inl w ↦ absurd (no_some h.peer (unknown_yet opts octets given h w.0 l w.1) some)
        | inr n ↦ (ap (λ (cs : List command.Command). encode_commands cs) n.0, s.peer ∙ ap (λ (p : Option Peer). option_or h.peer p) n.1 ∙ or_none h.peer)
      ];
}

pub same_grows : (h new : Hearing) → new.said ≡ h.said → new.peer ≡ h.peer → Grows h new
same_grows h new s p = record { more = []; said = s ∙ sym (append-nil h.said); quiet = λ some. (refl, p) }

pub grows_on : (a b c : Hearing) → Grows a b → Grows b c → Grows a c
grows_on a b c g k = record {
  more = g.more ++ k.more;
  said = k.said ∙ ap (λ (l : List ℕ). l ++ k.more) g.said ∙ append_assoc a.said g.more k.more;
  quiet = λ some.
      let first = g.quiet some in
      let second = k.quiet (subst (λ (p : Option Peer). IsSome p) (sym first.1) some) in
      (ap (λ (l : List ℕ). l ++ k.more) first.0 ∙ second.0, second.1 ∙ first.1);
}

-- what a command that was heard adds
pub shakes_now : (opts : EngineOpts) (octets : List ℕ) (given : List (List (List ℕ))) (h new : Hearing) (c : command.Command) (say : Option command.Command) (peer : Option Peer) (stage : Stage) → Listens opts octets given h
    → h.kind ≡ Command → decode_command h.body ≡ Some c → next h.opts h.stage (Told c) ≡ added say peer stage
    → new.opts ≡ h.opts → new.said ≡ h.said ++ encode_commands (option_to_list say) → new.peer ≡ option_or h.peer peer
    → Shakes opts (item_at h.kind h.body) h new × (next opts h.stage (item_at h.kind h.body) ≡ added say peer stage)
shakes_now opts octets given h new c say peer stage l k d n o s p =
    let item : item_at h.kind h.body ≡ Told c = rw k (ap told d) in
    let now : next opts h.stage (item_at h.kind h.body) ≡ added say peer stage = ap (λ (i : Item). next opts h.stage i) item ∙ ap (λ (q : EngineOpts). next q h.stage (Told c)) (sym l.shaken.opts_is) ∙ n in (
      record {
        opts_is = o;
        said = s ∙ ap (λ (x : Handshake). h.said ++ encode_commands x.said) (sym now);
        peer = p ∙ ap (λ (x : Handshake). option_or h.peer x.peer) (sym now);
      },
      now,
    )

-- what the end of a command does, where nothing is refused
pub record CommandEnds (h new : Hearing) : Type 0 where
  pub reader : new.reader ≡ InHead []
  pub parts : new.parts ≡ h.parts
  pub queue : new.queue ≡ h.queue
  pub offset : new.offset ≡ offset_of (h.offset + h.begun)
  pub begun : new.begun ≡ 0
  pub earlier : new.earlier ≡ h.earlier
  pub refused : new.refused ≡ None

pub command_ends : (opts : EngineOpts) (octets : List ℕ) (given : List (List (List ℕ))) (h new : Hearing) (say : Option command.Command) (peer : Option Peer) (stage : Stage) → Listens opts octets given h → h.reader ≡ InBody 0
    → h.kind ≡ Command → Shakes opts (item_at h.kind h.body) h new × (next opts h.stage (item_at h.kind h.body) ≡ added say peer stage) → new.stage ≡ stage → stage_refusal stage ≡ None → CommandEnds h new → Hears opts octets given new
command_ends opts octets given h new say peer stage l at_end k s t none e =
    frame_ends opts octets given h new l at_end (record {
      shakes = s.0;
      reader = e.reader;
      stage = t ∙ ap (λ (x : Handshake). x.stage) (sym s.1);
      unrefused = ap stage_refusal t ∙ none;
      parts = rw k e.parts;
      queue = rw k e.queue;
      offset = e.offset;
      begun = e.begun;
      earlier = rw k e.earlier;
      refused = e.refused;
    })

-- a peer that is known now wasn't before
waits_to_know : (opts : EngineOpts) (s : Stage) (item : Item) (say : Option command.Command) (p : Peer) → next opts s item ≡ added say (Some p) Running → (a : Awaited) × (s ≡ Waiting a)
waits_to_know opts (Waiting a) item say p e = (a, refl)
waits_to_know opts Running item say p e = let q : None ≡ Some p = ap (λ (x : Handshake). x.peer) e in absurd cc
waits_to_know opts (Refused cause) item say p e = let q : None ≡ Some p = ap (λ (x : Handshake). x.peer) e in absurd cc

pub first_known : (opts : EngineOpts) (octets : List ℕ) (given : List (List (List ℕ))) (h : Hearing) (item : Item) (say : Option command.Command) (p : Peer) → Listens opts octets given h → next h.opts h.stage item ≡ added say (Some p) Running → Some p ≡ option_or h.peer (Some p)
first_known opts octets given h item say p l e =
    let w = waits_to_know h.opts h.stage item say p e in
    ap (λ (q : Option Peer). option_or q (Some p)) (sym (unknown_yet opts octets given h w.0 l w.1))

-- ---- a body that is no command

malformed_at : (opts : EngineOpts) (s : Stage) → stage_refusal s ≡ None → next opts s Malformed ≡ silent (Refused BadCommand)
malformed_at opts (Waiting awaited.Ready) e = refl
malformed_at opts (Waiting awaited.Hello) e = refl
malformed_at opts (Waiting awaited.Welcome) e = refl
malformed_at opts (Waiting awaited.Initiate) e = refl
malformed_at opts Running e = refl
malformed_at opts (Refused cause) e = absurd cc

pub malformed_refused : (opts : EngineOpts) (octets : List ℕ) (given : List (List (List ℕ))) (h new : Hearing) (r : Refusal) → Listens opts octets given h → h.reader ≡ InBody 0 → h.kind ≡ Command → decode_command h.body ≡ None
    → new.opts ≡ h.opts → new.said ≡ h.said → new.peer ≡ h.peer → new.queue ≡ h.queue → new.refused ≡ Some r → r.offset ≡ h.offset → r.cause ≡ BadCommand → Hears opts octets given new
malformed_refused opts octets given h new r l at_end k d o s p queue refused offset is =
    let item : item_at h.kind h.body ≡ Malformed = rw k (ap told d) in
    let now : next opts h.stage (item_at h.kind h.body) ≡ silent (Refused BadCommand) = ap (λ (i : Item). next opts h.stage i) item ∙ malformed_at opts h.stage l.unrefused in
    let shakes : Shakes opts (item_at h.kind h.body) h new = record {
      opts_is = o;
      said = s ∙ sym (append-nil h.said) ∙ ap (λ (x : Handshake). h.said ++ encode_commands x.said) (sym now);
      peer = p ∙ sym (or_none h.peer) ∙ ap (λ (x : Handshake). option_or h.peer x.peer) (sym now);
    } in
    frame_refused opts octets given h new r l at_end shakes (ap (λ (x : Handshake). stage_refusal x.stage) now ∙ ap (λ (c : Cause). Some c) (sym is)) queue refused offset

pub command_refused : (opts : EngineOpts) (octets : List ℕ) (given : List (List (List ℕ))) (h new : Hearing) (r : Refusal) (say : Option command.Command) → Listens opts octets given h → h.reader ≡ InBody 0
    → Shakes opts (item_at h.kind h.body) h new × (next opts h.stage (item_at h.kind h.body) ≡ added say None (Refused r.cause)) → new.queue ≡ h.queue → new.refused ≡ Some r → r.offset ≡ h.offset → Hears opts octets given new
command_refused opts octets given h new r say l at_end s queue refused offset =
    frame_refused opts octets given h new r l at_end s.0 (ap (λ (x : Handshake). stage_refusal x.stage) s.1) queue refused offset

-- what holds at all holds of a success
pub on_ok : {A E : Type 0} (r : Result A E) (P : Type 0) → P → OnOk r P
on_ok (Ok x) P p = p
on_ok (Err e) P p = tt

-- ---- before the first octet

begun_open : (role : Role) (opts : EngineOpts) → (stage_refusal (handshake_as role opts []).stage ≡ None) × ((handshake_as role opts []).peer ≡ None)
begun_open Null opts = (refl, refl)
begun_open PlainClient opts = (refl, refl)
begun_open PlainServer opts = (refl, refl)

pub fresh : (opts : EngineOpts) (h : Hearing) → h.opts ≡ opts → h.reader ≡ InHead [] → h.stage ≡ (handshake opts []).stage → h.peer ≡ None → h.said ≡ greeting_of opts.role ++ encode_commands (handshake opts []).said
    → h.parts ≡ [] → h.queue ≡ [] → h.offset ≡ 64 → h.begun ≡ 0 → h.earlier ≡ 0 → Listens opts [] [] h
fresh opts h opts_is reader stage peer said parts queue offset begun earlier =
    let open_ = begun_open opts.role opts in
    record {
      frames = [];
      rest = [];
      all = refl;
      keep = tt;
      shaken = record { opts_is = opts_is; said = said; peer = peer ∙ sym open_.1 };
      stage = stage;
      unrefused = ap stage_refusal stage ∙ open_.0;
      parts = parts;
      whole = sym queue;
      offset = offset ∙ (let n : 64 ≡ offset_of (64 + 0) = omega arith in n);
      begun = begun ∙ (let n : 0 ≡ offset_of 0 = omega arith in n);
      earlier = earlier ∙ (let n : 0 ≡ offset_of 0 = omega arith in n);
      begins = subst (λ (s : reading.Stage). IsBegun opts [] [] s h.kind h.body) (sym reader) (refl, tt, λ z. absurd (omega arith));
    }
