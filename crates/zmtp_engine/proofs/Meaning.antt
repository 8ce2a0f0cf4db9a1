-- What is kept of a stream is what its octets mean.
use Rattle.std.proofs.Common.{◌≡◌, ℕ, ◌+◌, ◌<◌, ◌≤◌, Bool, true, false, cond, eqb, List, [], ◌∷◌, ◌++◌, length, take, Option, Some, None, refl, sym, ap, subst, inl, inr, ◌∙◌, append_assoc, arith}
use Rattle.std.specs.Prelude.{◌&&◌, is_none}
use Rattle.std.proofs.lemmas.Bool.{cases_lt, ne_eqb}
use Rattle.std.proofs.lemmas.List.{append-nil, take_at}
use Rattle.std.proofs.lemmas.List.Concat.{flat_map-cons}
use Rattle.zq_base.specs.declared.options.EngineOpts.{EngineOpts}
use Rattle.zq_base.specs.declared.options.Role.{Role}
use Rattle.zq_base.specs.declared.options.Role.TheVariants.{Null, PlainClient, PlainServer}
use Rattle.spec_zmtp.specs.declared.cause.Cause.{Cause}
use Rattle.spec_zmtp.specs.declared.cause.Refusal.{Refusal}
use Rattle.spec_zmtp.specs.declared.flags.FrameKind.{FrameKind}
use Rattle.spec_zmtp.specs.FrameEncoding.{WireFrame, IsCutHead, octets_of}
use Rattle.spec_zmtp.specs.FrameRules.{gathered, items_of, Breaks, by_flags, by_size, by_item, IsCutFrame, at_flags, in_head, in_body}
use Rattle.spec_zmtp.specs.Greeting.{greeting_of, judged}
use Rattle.spec_zmtp.specs.Handshake.{Item, handshake, handshake_as}
use Rattle.spec_zmtp.specs.DecodedStream.{Unfinished, Refused, Decoded, Decodes, greeting_unfinished, greeting_refused, unfinished, refused, stream_of, offset_of, at_greeting, behind_frames, unfinished_behind, refused_behind, IsStream}
use Rattle.spec_zmtp.specs.Put.{encode_commands}
use Rattle.spec_zmtp.proofs.StreamLemmas.{refused_stays}
use Rattle.zmtp_frame.specs.Reading.{Stage, InHead, InBody, SawBadFlags, SawTooLong}
use Rattle.zmtp_engine.specs.Hearing.{Hearing, Hears, HearsAt, IsBegun, IsSettledAt}
use Rattle.zmtp_engine.specs.Listening.{Listening, Greeted, Faulted, ListensTo, ListensAt, IsSettledNow, is_greeted, refusal_now, rest_now, outcome_by, Means}
use Rattle.spec_zmtp.proofs.SizeLemmas.{unfinished_small, cut_small}
use Rattle.zmtp_engine.proofs.Feeds.{hears_more}
use Rattle.spec_zmtp.proofs.JudgementLemmas.{short_judged, long_judged}

-- ---- a frame that has begun is cut

cut_now : (opts : EngineOpts) (frames : List WireFrame) (rest : List ℕ) (s : Stage) (kind : FrameKind) (body : List ℕ) → IsBegun opts frames rest s kind body → IsSettledAt s None → IsCutFrame opts frames rest
cut_now opts frames rest (InHead []) kind body at settled = at_flags at.0
cut_now opts frames rest (InHead (x ∷ octets)) kind body at settled = in_head x octets at.0 (subst (λ (l : List ℕ). IsCutHead l) (sym at.0) at.1) (at.2 (omega arith))
cut_now opts frames rest (InBody left) kind body at settled = in_body kind at.0 (length body + left) body at.4 (omega (arith, settled)) at.1 at.2 at.3
cut_now opts frames rest (SawBadFlags flags) kind body at settled = absurd at
cut_now opts frames rest (SawTooLong size) kind body at settled = absurd at

-- ---- before the first octet behind a greeting

no_frames : (frames : List WireFrame) (rest : List ℕ) → [] ≡ stream_of frames ++ rest → (frames ≡ []) × (rest ≡ [])
no_frames [] rest e = (refl, sym e)
no_frames (f ∷ frames) rest e =
    let whole : [] ≡ octets_of f ++ (stream_of frames ++ rest) = e ∙ ap (λ (l : List ℕ). l ++ rest) (flat_map-cons (λ r. octets_of r) f frames) ∙ append_assoc (octets_of f) (stream_of frames) rest in
    absurd cc

no_break : (opts : EngineOpts) (frames : List WireFrame) (rest : List ℕ) (cause : Cause) (items : List Item) → rest ≡ [] → Breaks opts frames rest cause items → ⊥
no_break opts frames rest cause items e (by_flags flags tail shape rule nothing) = let both : [] ≡ flags ∷ tail = sym e ∙ shape in absurd cc
no_break opts frames rest cause items e (by_size kind long size tail shape none fits over is nothing) = let both = sym e ∙ shape in absurd cc
no_break opts frames rest cause items e (by_item f tail shape frame none rule told) = let both : [] ≡ octets_of f ++ tail = sym e ∙ shape in absurd cc

first_peer : (role : Role) (opts : EngineOpts) → (handshake_as role opts []).peer ≡ None
first_peer Null opts = refl
first_peer PlainClient opts = refl
first_peer PlainServer opts = refl

-- nothing was heard
pub record HeardNothing (given : List (List (List ℕ))) (h : Hearing) : Type 0 where
  pub peer : h.peer ≡ None
  pub messages : given ++ h.queue ≡ []
  pub refused : h.refused ≡ None

nothing_at : (opts : EngineOpts) (given : List (List (List ℕ))) (h : Hearing) (r : Option Refusal) → h.refused ≡ r → HearsAt opts [] given h r → HeardNothing given h
nothing_at opts given h None none l =
    let n = no_frames l.frames l.rest l.all in
    record {
      peer = l.shaken.peer ∙ ap (λ (fs : List WireFrame). (handshake opts (items_of fs)).peer) n.0 ∙ first_peer opts.role opts;
      messages = sym l.whole ∙ ap (λ (fs : List WireFrame). (gathered fs).whole) n.0;
      refused = none;
    }
nothing_at opts given h (Some r) some s = absurd (no_break opts s.frames s.rest r.cause s.items (no_frames s.frames s.rest s.all).1 s.breaks)

pub heard_nothing : (opts : EngineOpts) (given : List (List (List ℕ))) (h : Hearing) → Hears opts [] given h → HeardNothing given h
heard_nothing opts given h k = nothing_at opts given h h.refused refl k

-- all that is ever said begins with our greeting
pub said_at : (opts : EngineOpts) (octets : List ℕ) (given : List (List (List ℕ))) (h : Hearing) (r : Option Refusal) → HearsAt opts octets given h r → (more : List ℕ) × (h.said ≡ greeting_of opts.role ++ more)
said_at opts octets given h None l = (encode_commands (handshake opts (items_of l.frames)).said, l.shaken.said)
said_at opts octets given h (Some r) s = (encode_commands (handshake opts (items_of s.frames ++ s.items)).said, s.shaken.said)

pub length-greeting_of : (role : Role) → length (greeting_of role) ≡ 64
length-greeting_of Null = refl
length-greeting_of PlainClient = refl
length-greeting_of PlainServer = refl

pub greeting_said : (opts : EngineOpts) (octets : List ℕ) (given : List (List (List ℕ))) (h : Hearing) → Hears opts octets given h → take 64 h.said ≡ greeting_of opts.role
greeting_said opts octets given h k =
    let s = said_at opts octets given h h.refused k in
    ap (λ (l : List ℕ). take 64 l) s.1 ∙ take_at (greeting_of opts.role) s.0 64 (length-greeting_of opts.role)

-- ---- the greeting's part

abbrev said_by : Option Refusal → ℕ → List ℕ → List ℕ
said_by f n said = cond (is_none f && eqb n 64) said (take 64 said)

faulted_means : (opts : EngineOpts) (octets : List ℕ) (given : List (List (List ℕ))) (l : Listening) (f : Refusal) → l.fault ≡ Some f → Faulted opts octets given l f → (d : Decoded) × Means opts octets given l d
faulted_means opts octets given l f some s =
    let d : Decoded = at_greeting (Refused f) in
    let n = heard_nothing opts given l.hearing s.hears in (
      d,
      record {
        decodes = subst (λ (o : List ℕ). Decodes opts o d) (sym s.all) (refused_stays opts s.front s.rest d f (greeting_refused f s.bad refl) refl);
        said = append-nil (greeting_of opts.role) ∙ sym (ap (λ (x : Option Refusal). said_by x (length l.greeting) l.hearing.said) some ∙ greeting_said opts [] given l.hearing s.hears);
        peer = sym n.peer;
        messages = sym n.messages;
        outcome = sym (ap (λ (x : Option Refusal). outcome_by (cond (is_none x) l.hearing.refused x) (rest_now l)) some);
        small = λ e. let both : None ≡ Some f = sym e ∙ ap (λ (x : Option Refusal). cond (is_none x) l.hearing.refused x) some in absurd cc;
      },
    )

short_means : (opts : EngineOpts) (octets : List ℕ) (given : List (List (List ℕ))) (l : Listening) → l.fault ≡ None → Greeted opts octets given l → length l.greeting < 64 → (d : Decoded) × Means opts octets given l d
short_means opts octets given l none g lt =
    let n = heard_nothing opts given l.hearing (subst (λ (o : List ℕ). Hears opts o given l.hearing) (g.short lt) g.hears) in
    let octets_is : octets ≡ l.greeting = g.all ∙ ap (λ (m : List ℕ). l.greeting ++ m) (g.short lt) ∙ append-nil l.greeting in
    let d : Decoded = at_greeting (Unfinished (length octets)) in
    let no_64 : eqb (length l.greeting) 64 ≡ false = ne_eqb (length l.greeting) 64 (λ e. absurd (omega arith)) in
    let not_yet : is_greeted l ≡ false = ap (λ (x : Option Refusal). is_none x && eqb (length l.greeting) 64) none ∙ no_64 in
    let refusal : refusal_now l ≡ None = ap (λ (x : Option Refusal). cond (is_none x) l.hearing.refused x) none ∙ n.refused in (
      d,
      record {
        decodes = greeting_unfinished (ap (λ (o : List ℕ). judged opts.role o) octets_is ∙ short_judged opts.role l.greeting g.fine lt) refl;
        said = append-nil (greeting_of opts.role) ∙ sym (ap (λ (b : Bool). cond b l.hearing.said (take 64 l.hearing.said)) not_yet ∙ greeting_said opts g.more given l.hearing g.hears);
        peer = sym n.peer;
        messages = sym n.messages;
        outcome = ap (λ (o : List ℕ). Unfinished (length o)) octets_is ∙ sym (ap (λ (b : Bool). outcome_by (refusal_now l) (cond b (l.hearing.earlier + l.hearing.begun) (length l.greeting))) not_yet ∙ ap (λ (x : Option Refusal). outcome_by x (length l.greeting)) refusal);
        small = λ e. let n : rest_now l ≡ length l.greeting = ap (λ (b : Bool). cond b (l.hearing.earlier + l.hearing.begun) (length l.greeting)) not_yet in omega (arith, n, lt);
      },
    )

-- ---- behind the greeting

rest_is : (a b e n : ℕ) → e ≡ offset_of a → n ≡ offset_of b → a ≤ 17163101175 → b ≤ 16777225 → a + b ≡ e + n
rest_is a b e n p q le le' = omega arith

open_means : (opts : EngineOpts) (octets : List ℕ) (given : List (List (List ℕ))) (l : Listening) (r : Option Refusal) → l.fault ≡ None → (g : Greeted opts octets given l) → length l.greeting ≡ 64 → l.hearing.refused ≡ r → HearsAt opts g.more given l.hearing r
    → IsSettledAt l.hearing.reader r → (d : Decoded) × Means opts octets given l d
open_means opts octets given l None none g len is k settled =
    let h : Hearing = l.hearing in
    let cut = cut_now opts k.frames k.rest h.reader h.kind h.body k.begins settled in
    let greeted : is_greeted l ≡ true = ap (λ (x : Option Refusal). is_none x && eqb (length l.greeting) 64) none ∙ ap (λ (n : ℕ). true && eqb n 64) len in
    let refusal : refusal_now l ≡ None = ap (λ (x : Option Refusal). cond (is_none x) h.refused x) none ∙ is in
    let stream : IsStream opts octets k.frames k.rest = record {
      greeting = l.greeting;
      whole = len;
      accepted = long_judged opts.role l.greeting g.fine (omega arith);
      all = g.all ∙ ap (λ (m : List ℕ). l.greeting ++ m) k.all;
      keep = k.keep;
    } in
    let small = unfinished_small opts k.frames k.keep in
    let total : length (stream_of (gathered k.frames).unfinished) + length k.rest ≡ h.earlier + h.begun =
    rest_is (length (stream_of (gathered k.frames).unfinished)) (length k.rest) h.earlier h.begun k.earlier k.begun (omega (arith, small.octets, small.few)) (cut_small opts k.frames k.rest cut) in
    let d : Decoded = behind_frames opts k.frames [] (unfinished_behind k.frames k.rest) in (
      d,
      record {
        decodes = unfinished k.frames k.rest stream cut refl;
        said = ap (λ (i : List Item). greeting_of opts.role ++ encode_commands (handshake opts i).said) (append-nil (items_of k.frames)) ∙ sym k.shaken.said ∙ sym (ap (λ (b : Bool). cond b h.said (take 64 h.said)) greeted);
        peer = ap (λ (i : List Item). (handshake opts i).peer) (append-nil (items_of k.frames)) ∙ sym k.shaken.peer;
        messages = k.whole;
        outcome = ap Unfinished total ∙ sym (ap (λ (b : Bool). outcome_by (refusal_now l) (cond b (h.earlier + h.begun) (length l.greeting))) greeted ∙ ap (λ (x : Option Refusal). outcome_by x (h.earlier + h.begun)) refusal);
        small = λ e.
            let n : rest_now l ≡ h.earlier + h.begun = ap (λ (b : Bool). cond b (h.earlier + h.begun) (length l.greeting)) greeted in
            let few : length (stream_of (gathered k.frames).unfinished) ≤ 17163101175 = omega (arith, small.octets, small.few) in
            let short : length k.rest ≤ 16777225 = cut_small opts k.frames k.rest cut in
            omega (arith, n, total, few, short);
      },
    )
open_means opts octets given l (Some r) none g len is k settled =
    let h : Hearing = l.hearing in
    let greeted : is_greeted l ≡ true = ap (λ (x : Option Refusal). is_none x && eqb (length l.greeting) 64) none ∙ ap (λ (n : ℕ). true && eqb n 64) len in
    let refusal : refusal_now l ≡ Some r = ap (λ (x : Option Refusal). cond (is_none x) h.refused x) none ∙ is in
    let stream : IsStream opts octets k.frames k.rest = record {
      greeting = l.greeting;
      whole = len;
      accepted = long_judged opts.role l.greeting g.fine (omega arith);
      all = g.all ∙ ap (λ (m : List ℕ). l.greeting ++ m) k.all;
      keep = k.keep;
    } in
    let d : Decoded = behind_frames opts k.frames k.items (refused_behind k.frames r.cause) in (
      d,
      record {
        decodes = refused k.frames k.rest r.cause k.items stream k.breaks refl;
        said = sym k.shaken.said ∙ sym (ap (λ (b : Bool). cond b h.said (take 64 h.said)) greeted);
        peer = sym k.shaken.peer;
        messages = k.whole;
        outcome = ap (λ (o : ℕ). Refused (record { cause = r.cause; offset = o })) (sym k.offset) ∙ sym (ap (λ (x : Option Refusal). outcome_by x (rest_now l)) refusal);
        small = λ e. let both : None ≡ Some r = sym e ∙ refusal in absurd cc;
      },
    )

means_at : (opts : EngineOpts) (octets : List ℕ) (given : List (List (List ℕ))) (l : Listening) (f : Option Refusal) → l.fault ≡ f → ListensAt opts octets given l f → IsSettledNow l → (d : Decoded) × Means opts octets given l d
means_at opts octets given l None none g settled =
    elim (cases_lt (length l.greeting) 64) [
      | inl lt ↦ short_means opts octets given l none g lt
      | inr le ↦ open_means opts octets given l l.hearing.refused none g (omega (arith, g.fits)) refl g.hears settled
    ]
means_at opts octets given l (Some f) some s settled = faulted_means opts octets given l f some s

pub means : (opts : EngineOpts) (octets : List ℕ) (given : List (List (List ℕ))) (l : Listening) → ListensTo opts octets given l → IsSettledNow l → (d : Decoded) × Means opts octets given l d
means opts octets given l k settled = means_at opts octets given l l.fault refl k settled

-- ---- what waits for nothing

settled_at : (opts : EngineOpts) (frames : List WireFrame) (rest : List ℕ) (s : Stage) (kind : FrameKind) (body : List ℕ) → rest ≡ [] → IsBegun opts frames rest s kind body → IsSettledAt s None
settled_at opts frames rest (InHead octets) kind body e at = tt
settled_at opts frames rest (InBody left) kind body e at = let both = sym e ∙ at.4 in absurd cc
settled_at opts frames rest (SawBadFlags flags) kind body e at = tt
settled_at opts frames rest (SawTooLong size) kind body e at = tt

settled_by : (opts : EngineOpts) (given : List (List (List ℕ))) (h : Hearing) (r : Option Refusal) → HearsAt opts [] given h r → IsSettledAt h.reader r
settled_by opts given h None l = settled_at opts l.frames l.rest h.reader h.kind h.body (no_frames l.frames l.rest l.all).1 l.begins
settled_by opts given h (Some r) s = tt

settled_nothing : (opts : EngineOpts) (given : List (List (List ℕ))) (h : Hearing) → Hears opts [] given h → IsSettledAt h.reader h.refused
settled_nothing opts given h k = settled_by opts given h h.refused k

settled_early_at : (opts : EngineOpts) (octets : List ℕ) (given : List (List (List ℕ))) (l : Listening) (f : Option Refusal) → ListensAt opts octets given l f → (f ≡ None → length l.greeting < 64) → IsSettledNow l
settled_early_at opts octets given l None g short = settled_nothing opts given l.hearing (subst (λ (o : List ℕ). Hears opts o given l.hearing) (g.short (short refl)) g.hears)
settled_early_at opts octets given l (Some f) s short = settled_nothing opts given l.hearing s.hears

-- before a greeting is accepted nothing waits to be taken up
pub settled_early : (opts : EngineOpts) (octets : List ℕ) (given : List (List (List ℕ))) (l : Listening) → ListensTo opts octets given l → (l.fault ≡ None → length l.greeting < 64) → IsSettledNow l
settled_early opts octets given l k short = settled_early_at opts octets given l l.fault k short

-- what comes behind a refusal changes nothing
pub refused_more : (opts : EngineOpts) (octets piece : List ℕ) (given : List (List (List ℕ))) (l : Listening) (r : Refusal) → l.fault ≡ None → l.hearing.refused ≡ Some r → ListensTo opts octets given l → ListensTo opts (octets ++ piece) given l
refused_more opts octets piece given l r none some k =
    let g : Greeted opts octets given l = subst (λ (f : Option Refusal). ListensAt opts octets given l f) none k in
    let long : length l.greeting < 64 → ⊥ = λ lt.
    let n = heard_nothing opts given l.hearing (subst (λ (o : List ℕ). Hears opts o given l.hearing) (g.short lt) g.hears) in
    let both : None ≡ Some r = sym n.refused ∙ some in absurd cc in
    subst (λ (f : Option Refusal). ListensAt opts (octets ++ piece) given l f) (sym none) (record {
      more = g.more ++ piece;
      all = ap (λ (o : List ℕ). o ++ piece) g.all ∙ append_assoc l.greeting g.more piece;
      fine = g.fine;
      fits = g.fits;
      short = λ lt. absurd (long lt);
      hears = hears_more opts g.more piece given l.hearing r some g.hears;
      role = g.role;
    })

-- a refusal that is kept is that of the octets
pub refused_means : (opts : EngineOpts) (octets : List ℕ) (given : List (List (List ℕ))) (l : Listening) (r : Refusal) → ListensTo opts octets given l → IsSettledNow l → refusal_now l ≡ Some r → (d : Decoded) × (q : Refusal) × Decodes opts octets d × (d.outcome ≡ Refused q)
refused_means opts octets given l r k settled some =
    let m = means opts octets given l k settled in
    (m.0, r, m.1.decodes, m.1.outcome ∙ ap (λ (x : Option Refusal). outcome_by x (rest_now l)) some)
