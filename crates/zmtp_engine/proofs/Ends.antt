-- What the end of a frame does to what is kept.
use Rattle.std.proofs.Common.{◌≡◌, ℕ, ◌+◌, Bool, true, false, cond, List, [], ◌∷◌, ◌++◌, length, Option, Some, None, refl, sym, ap, subst, inl, inr, ◌∙◌, append_assoc, arith}
use Rattle.std.specs.Prelude.{◌⊎◌}
use Rattle.std.specs.Option.{option_or}
use Rattle.std.proofs.lemmas.List.{length-append, append-nil, map_push}
use Rattle.std.proofs.lemmas.List.Concat.{flat_map-append}
use Rattle.zq_base.specs.declared.options.EngineOpts.{EngineOpts}
use Rattle.zq_base.specs.declared.options.Peer.{Peer}
use Rattle.spec_zmtp.specs.declared.cause.Cause.{Cause}
use Rattle.spec_zmtp.specs.declared.cause.Cause.TheVariants.{OutOfOrder}
use Rattle.spec_zmtp.specs.declared.cause.Refusal.{Refusal}
use Rattle.spec_zmtp.specs.declared.command.Command as command
use Rattle.spec_zmtp.specs.declared.flags.FrameKind.{FrameKind}
use Rattle.spec_zmtp.specs.declared.flags.FrameKind.TheVariants.{Last, More, Command}
use Rattle.spec_zmtp.specs.declared.flags.Flags.{Flags}
use Rattle.spec_zmtp.specs.declared.handshake as shaking
use Rattle.spec_zmtp.specs.declared.handshake.Stage.TheVariants.{Waiting, Running, Refused}
use Rattle.spec_zmtp.specs.FrameFlags.{flags_octet}
use Rattle.spec_zmtp.specs.FrameEncoding.{WireFrame, IsWireFrame, FitsSize, head_octets, octets_of, encode_frame}
use Rattle.spec_zmtp.specs.FrameRules.{Gathered, gathered, gather_at, bodies, items_of, item_at, item_refusal, octet_refusal, Keeps, by_item}
use Rattle.spec_zmtp.specs.Greeting.{greeting_of}
use Rattle.spec_zmtp.specs.Metadata.{encode_command}
use Rattle.spec_zmtp.specs.Handshake.{Item, MessageFrame, Handshake, handshake, next, is_running, stage_refusal}
use Rattle.spec_zmtp.specs.DecodedStream.{stream_of, offset_of}
use Rattle.spec_zmtp.specs.Put.{encode_commands}
use Rattle.spec_zmtp.proofs.FlagLemmas.{flags_of, flags_at-flags_octet}
use Rattle.spec_zmtp.proofs.RuleLemmas.{stream_of-push, items_of-push, gathered-push, AllKeep-push}
use Rattle.spec_zmtp.proofs.HandshakeLemmas.{handshake-more}
use Rattle.zmtp_frame.specs.Reading.{Stage, InHead, InBody}
use Rattle.zmtp_engine.specs.Hearing.{Hearing, Listens, Hears, HearsAt, HasShaken, IsBegun}
use Rattle.zmtp_engine.specs.Verdict.{flags_verdict}
use Rattle.zmtp_engine.proofs.Verdicts.{octet_is, stage-more}
use Rattle.zmtp_engine.proofs.Steps.{at_body}

-- ---- what a whole frame adds

-- the frames of the unfinished message behind a frame
abbrev pub parts_after : FrameKind → List (List ℕ) → List ℕ → List (List ℕ)
parts_after Last parts body = []
parts_after More parts body = parts ++ body ∷ []
parts_after Command parts body = parts

-- the whole messages behind a frame
abbrev pub queue_after : FrameKind → List (List (List ℕ)) → List (List ℕ) → List ℕ → List (List (List ℕ))
queue_after Last queue parts body = queue ++ (parts ++ body ∷ []) ∷ []
queue_after More queue parts body = queue
queue_after Command queue parts body = queue

-- the octets of the unfinished message behind a frame
abbrev pub earlier_after : FrameKind → ℕ → ℕ → ℕ
earlier_after Last earlier begun = 0
earlier_after More earlier begun = offset_of (earlier + begun)
earlier_after Command earlier begun = earlier

pub gathered_parts : (k : FrameKind) (f : WireFrame) (g : Gathered) (parts : List (List ℕ)) → parts ≡ bodies g.unfinished → parts_after k parts f.body ≡ bodies (gather_at k f g).unfinished
gathered_parts Last f g parts e = refl
gathered_parts More f g parts e = ap (λ (l : List (List ℕ)). l ++ f.body ∷ []) e ∙ sym (map_push _ g.unfinished f)
gathered_parts Command f g parts e = e

pub gathered_whole : (k : FrameKind) (f : WireFrame) (g : Gathered) (parts : List (List ℕ)) (given queue : List (List (List ℕ))) → parts ≡ bodies g.unfinished → g.whole ≡ given ++ queue
    → (gather_at k f g).whole ≡ given ++ queue_after k queue parts f.body
gathered_whole Last f g parts given queue e w =
    let message : bodies (g.unfinished ++ f ∷ []) ≡ parts ++ f.body ∷ [] = map_push _ g.unfinished f ∙ ap (λ (l : List (List ℕ)). l ++ f.body ∷ []) (sym e) in
    ap (λ (l : List (List (List ℕ))). l ++ bodies (g.unfinished ++ f ∷ []) ∷ []) w ∙ append_assoc given queue (bodies (g.unfinished ++ f ∷ []) ∷ []) ∙ ap (λ (m : List (List ℕ)). given ++ (queue ++ m ∷ [])) message
gathered_whole More f g parts given queue e w = w
gathered_whole Command f g parts given queue e w = w

gathered_earlier : (k : FrameKind) (f : WireFrame) (g : Gathered) (earlier begun : ℕ) → earlier ≡ offset_of (length (stream_of g.unfinished)) → begun ≡ offset_of (length (octets_of f))
    → earlier_after k earlier begun ≡ offset_of (length (stream_of (gather_at k f g).unfinished))
gathered_earlier Last f g earlier begun e b = omega arith
gathered_earlier More f g earlier begun e b =
    let all : length (stream_of (g.unfinished ++ f ∷ [])) ≡ length (stream_of g.unfinished) + length (octets_of f) = ap (λ (l : List ℕ). length l) (stream_of-push g.unfinished f) ∙ length-append (stream_of g.unfinished) (octets_of f) in
    let m : ℕ = length (stream_of g.unfinished) in
    let n : ℕ = length (octets_of f) in
    let sums : offset_of (earlier + begun) ≡ offset_of (m + n) = rw (e, b) (omega arith) in
    sums ∙ ap offset_of (sym all)
gathered_earlier Command f g earlier begun e b = e

-- what is said behind one item more
said-more : (opts : EngineOpts) (items : List Item) (item : Item) (stage : shaking.Stage.Stage) (said more : List ℕ) → stage ≡ (handshake opts items).stage → said ≡ greeting_of opts.role ++ encode_commands (handshake opts items).said
    → more ≡ said ++ encode_commands (next opts stage item).said → more ≡ greeting_of opts.role ++ encode_commands (handshake opts (items ++ item ∷ [])).said
said-more opts items item stage said more s before after =
    let first : List command.Command = (handshake opts items).said in
    let second : List command.Command = (next opts stage item).said in
    let all : (handshake opts (items ++ item ∷ [])).said ≡ first ++ second =
    ap (λ (h : Handshake). h.said) (handshake-more opts items item) ∙ ap (λ (x : shaking.Stage.Stage). first ++ (next opts x item).said) (sym s) in
    after ∙ ap (λ (l : List ℕ). l ++ encode_commands second) before ∙ append_assoc (greeting_of opts.role) (encode_commands first) (encode_commands second)
    ∙ ap (λ (l : List ℕ). greeting_of opts.role ++ l) (sym (flat_map-append (λ c. encode_frame Command (encode_command c)) first second))
    ∙ ap (λ (l : List command.Command). greeting_of opts.role ++ encode_commands l) (sym all)

peer-more : (opts : EngineOpts) (items : List Item) (item : Item) (stage : shaking.Stage.Stage) (peer new : Option Peer) → stage ≡ (handshake opts items).stage → peer ≡ (handshake opts items).peer
    → new ≡ option_or peer (next opts stage item).peer → new ≡ (handshake opts (items ++ item ∷ [])).peer
peer-more opts items item stage peer new s before after =
    after ∙ ap (λ (p : Option Peer). option_or p (next opts stage item).peer) before ∙ ap (λ (x : shaking.Stage.Stage). option_or (handshake opts items).peer (next opts x item).peer) s ∙ sym (ap (λ (h : Handshake). h.peer) (handshake-more opts items item))

-- what a whole frame's item adds to the handshake
pub record Shakes (opts : EngineOpts) (item : Item) (h new : Hearing) : Type 0 where
  pub opts_is : new.opts ≡ h.opts
  pub said : new.said ≡ h.said ++ encode_commands (next opts h.stage item).said
  pub peer : new.peer ≡ option_or h.peer (next opts h.stage item).peer

shaken-more : (opts : EngineOpts) (octets : List ℕ) (given : List (List (List ℕ))) (item : Item) (h new : Hearing) (l : Listens opts octets given h) → Shakes opts item h new → HasShaken opts (items_of l.frames ++ item ∷ []) new
shaken-more opts octets given item h new l s = record {
  opts_is = s.opts_is ∙ l.shaken.opts_is;
  said = said-more opts (items_of l.frames) item h.stage h.said new.said l.stage l.shaken.said s.said;
  peer = peer-more opts (items_of l.frames) item h.stage h.peer new.peer l.stage l.shaken.peer s.peer;
}

-- ---- the frame that is whole now

abbrev frame_now : Hearing → Bool → WireFrame
frame_now h long = record { kind = h.kind; long = long; body = h.body }

no_more : (n : ℕ) → n + 0 ≡ n
no_more n = omega arith

-- what is known of it
pub record Whole (opts : EngineOpts) (h : Hearing) (frames : List WireFrame) (rest : List ℕ) : Type 0 where
  pub long : Bool
  pub frame : IsWireFrame (record { kind = h.kind; long = long; body = h.body })
  pub in_place : octet_refusal opts frames (flags_octet h.kind long) ≡ None
  pub rest_is : rest ≡ octets_of (record { kind = h.kind; long = long; body = h.body })

pub whole_now : (opts : EngineOpts) (octets : List ℕ) (given : List (List (List ℕ))) (h : Hearing) (l : Listens opts octets given h) → h.reader ≡ InBody 0 → Whole opts h l.frames l.rest
whole_now opts octets given h l stage =
    let at = at_body opts octets given h 0 l stage in
    let n : length h.body + 0 ≡ length h.body = no_more (length h.body) in
    record {
      long = at.0;
      frame = record { fits = subst (λ (k : ℕ). FitsSize at.0 k) n at.1; within = omega (arith, at.2) };
      in_place = at.3;
      rest_is = at.4 ∙ ap (λ (k : ℕ). head_octets h.kind at.0 k ++ h.body) n;
    }

-- what the end of a frame does
pub record Ends (opts : EngineOpts) (h new : Hearing) : Type 0 where
  pub shakes : Shakes opts (item_at h.kind h.body) h new
  pub reader : new.reader ≡ InHead []
  pub stage : new.stage ≡ (next opts h.stage (item_at h.kind h.body)).stage
  pub unrefused : stage_refusal new.stage ≡ None
  pub parts : new.parts ≡ parts_after h.kind h.parts h.body
  pub queue : new.queue ≡ queue_after h.kind h.queue h.parts h.body
  pub offset : new.offset ≡ offset_of (h.offset + h.begun)
  pub begun : new.begun ≡ 0
  pub earlier : new.earlier ≡ earlier_after h.kind h.earlier h.begun
  pub refused : new.refused ≡ None

pub frame_ends : (opts : EngineOpts) (octets : List ℕ) (given : List (List (List ℕ))) (h new : Hearing) → Listens opts octets given h → h.reader ≡ InBody 0 → Ends opts h new → Hears opts octets given new
frame_ends opts octets given h new l at_end ends =
    let w = whole_now opts octets given h l at_end in
    let f : WireFrame = frame_now h w.long in
    let item : Item = item_at h.kind h.body in
    let stage_now : (handshake opts (items_of l.frames ++ item ∷ [])).stage ≡ new.stage = stage-more opts (items_of l.frames) item ∙ ap (λ (x : shaking.Stage.Stage). (next opts x item).stage) (sym l.stage) ∙ sym ends.stage in
    let one : Keeps opts l.frames f = record { frame = w.frame; in_place = w.in_place; heard = ap stage_refusal stage_now ∙ ends.unrefused } in
    let items : items_of (l.frames ++ f ∷ []) ≡ items_of l.frames ++ item ∷ [] = items_of-push l.frames f in
    let g = gathered-push l.frames f in
    let octets_now : length (stream_of (l.frames ++ f ∷ [])) ≡ length (stream_of l.frames) + length l.rest =
    ap (λ (x : List ℕ). length x) (stream_of-push l.frames f) ∙ length-append (stream_of l.frames) (octets_of f) ∙ ap (λ (x : List ℕ). length (stream_of l.frames) + length x) (sym w.rest_is) in
    subst (λ (r : Option Refusal). HearsAt opts octets given new r) (sym ends.refused) (record {
      frames = l.frames ++ f ∷ [];
      rest = [];
      all = l.all ∙ ap (λ (x : List ℕ). stream_of l.frames ++ x) w.rest_is ∙ sym (stream_of-push l.frames f) ∙ sym (append-nil (stream_of (l.frames ++ f ∷ [])));
      keep = AllKeep-push opts [] l.frames f l.keep one;
      shaken = subst (λ (i : List Item). HasShaken opts i new) (sym items) (shaken-more opts octets given item h new l ends.shakes);
      stage = sym stage_now ∙ ap (λ (i : List Item). (handshake opts i).stage) (sym items);
      unrefused = ends.unrefused;
      parts = ends.parts ∙ gathered_parts h.kind f (gathered l.frames) h.parts l.parts ∙ sym (ap (λ (x : Gathered). bodies x.unfinished) g);
      whole = ap (λ (x : Gathered). x.whole) g ∙ gathered_whole h.kind f (gathered l.frames) h.parts given h.queue l.parts l.whole ∙ ap (λ (q : List (List (List ℕ))). given ++ q) (sym ends.queue);
      offset = ends.offset ∙ (let o = l.offset in let b = l.begun in omega (arith, o, b, octets_now));
      begun = ends.begun ∙ (let z : 0 ≡ offset_of 0 = omega arith in z);
      earlier = ends.earlier ∙ gathered_earlier h.kind f (gathered l.frames) h.earlier h.begun l.earlier (l.begun ∙ ap (λ (x : List ℕ). offset_of (length x)) w.rest_is) ∙ sym (ap (λ (x : Gathered). offset_of (length (stream_of x.unfinished))) g);
      begins = subst (λ (s : Stage). IsBegun opts (l.frames ++ f ∷ []) [] s new.kind new.body) (sym ends.reader) (refl, tt, λ z. absurd (omega arith));
    })

-- the whole frame is refused
pub frame_refused : (opts : EngineOpts) (octets : List ℕ) (given : List (List (List ℕ))) (h new : Hearing) (r : Refusal) → Listens opts octets given h → h.reader ≡ InBody 0
    → Shakes opts (item_at h.kind h.body) h new → stage_refusal (next opts h.stage (item_at h.kind h.body)).stage ≡ Some r.cause
    → new.queue ≡ h.queue → new.refused ≡ Some r → r.offset ≡ h.offset → Hears opts octets given new
frame_refused opts octets given h new r l at_end shakes refuses queue refused offset =
    let w = whole_now opts octets given h l at_end in
    let item : Item = item_at h.kind h.body in
    let now : item_refusal opts l.frames item ≡ Some r.cause = ap stage_refusal (stage-more opts (items_of l.frames) item ∙ ap (λ (x : shaking.Stage.Stage). (next opts x item).stage) (sym l.stage)) ∙ refuses in
    subst (λ (x : Option Refusal). HearsAt opts octets given new x) (sym refused) (record {
      frames = l.frames;
      rest = l.rest;
      items = item ∷ [];
      all = l.all;
      keep = l.keep;
      breaks = by_item (frame_now h w.long) [] (w.rest_is ∙ sym (append-nil (octets_of (frame_now h w.long)))) w.frame w.in_place now refl;
      shaken = shaken-more opts octets given item h new l shakes;
      whole = l.whole ∙ ap (λ (q : List (List (List ℕ))). given ++ q) (sym queue);
      offset = offset ∙ l.offset;
    })

-- ---- frames of messages

running_is : (s : shaking.Stage.Stage) → is_running s ≡ true → s ≡ Running
running_is (Waiting a) e = absurd cc
running_is Running e = refl
running_is (Refused cause) e = absurd cc

verdict_runs : (b : Bool) (x : Option Cause) → cond b x (Some OutOfOrder) ≡ None → b ≡ true
verdict_runs true x e = refl
verdict_runs false x e = absurd cc

-- a frame of a message that passed stands in a handshake that is done
pub message_runs : (opts : EngineOpts) (octets : List ℕ) (given : List (List (List ℕ))) (h : Hearing) → Listens opts octets given h → h.reader ≡ InBody 0 → (h.kind ≡ Last) ⊎ (h.kind ≡ More) → h.stage ≡ Running
message_runs opts octets given h l at_end which =
    let w = whole_now opts octets given h l at_end in
    let passed : flags_verdict h.stage h.parts (Some (flags_of h.kind w.long)) ≡ None =
    ap (λ (f : Option Flags). flags_verdict h.stage h.parts f) (sym (flags_at-flags_octet h.kind w.long)) ∙ sym (octet_is opts l.frames h.stage h.parts (flags_octet h.kind w.long) l.stage l.unrefused l.parts) ∙ w.in_place in
    running_is h.stage (elim which [ inl k ↦ verdict_runs _ _ (rw k at passed) | inr k ↦ verdict_runs _ _ (rw k at passed) ])

pub or_none : (p : Option Peer) → option_or p None ≡ p
or_none None = refl
or_none (Some p) = refl

-- a frame of a message adds nothing to the handshake
pub message_shakes : (opts : EngineOpts) (octets : List ℕ) (given : List (List (List ℕ))) (h new : Hearing) → Listens opts octets given h → h.reader ≡ InBody 0 → (h.kind ≡ Last) ⊎ (h.kind ≡ More)
    → new.opts ≡ h.opts → new.said ≡ h.said → new.peer ≡ h.peer → new.stage ≡ h.stage
    → Shakes opts (item_at h.kind h.body) h new × ((new.stage ≡ (next opts h.stage (item_at h.kind h.body)).stage) × (stage_refusal new.stage ≡ None))
message_shakes opts octets given h new l at_end which o s p t =
    let runs = message_runs opts octets given h l at_end which in
    let item : item_at h.kind h.body ≡ MessageFrame = elim which [ inl k ↦ rw k refl | inr k ↦ rw k refl ] in (
      record { opts_is = o; said = rw (item, runs) (s ∙ sym (append-nil h.said)); peer = rw (item, runs) (p ∙ sym (or_none h.peer)) },
      (rw (item, runs) (t ∙ runs), rw t l.unrefused),
    )
