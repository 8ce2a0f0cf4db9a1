-- What the octets heard so far mean for a session that reads alone.
use Rattle.std.proofs.Common.{◌≡◌, ℕ, ◌+◌, Bool, true, false, List, [], ◌++◌, length, Option, Some, None, refl, sym, ap, ◌∙◌, arith}
use Rattle.std.specs.Prelude.{MatchOption, IsSome}
use Rattle.std.specs.Option.{option_to_list}
use Rattle.std.proofs.lemmas.List.{append-nil, length-append}
use Rattle.zq_base.specs.Message.{Frames}
use Rattle.zq_base.specs.declared.options.EngineOpts.{EngineOpts}
use Rattle.zq_base.specs.declared.options.Peer.{Peer}
use Rattle.zq_base.specs.Ends.{PipeId}
use Rattle.zq_outer.specs.declared.link.LinkGot.{LinkGot}
use Rattle.zq_outer.specs.declared.link.LinkPut.{LinkPut}
use Rattle.msg_pipe.specs.Known.{Known}
use Rattle.spec_zmtp.specs.declared.cause.Refusal.{Refusal}
use Rattle.spec_zmtp.specs.DecodedStream.{Decoded, Decodes, Outcome, Unfinished, Refused}
use Rattle.zmtp_engine.specs.Answers.{Standing, IsShaking, IsRunning as Runs, IsRefused, standing_at}
use Rattle.zmtp_engine.specs.Conversation.{Past, Conversation, Follows, IsMeaning, IsCurrent, unwritten, waiting}
use Rattle.spec_link.specs.LinkAct.{LinkAct, heard_of, put_of}
use Rattle.spec_link.specs.Rows.{count_of}
use Rattle.spec_link.specs.Parts.{NothingToWrite, SomethingToWrite, NothingHeld, SomethingHeld, WriteFits, ReadFits, write_acts, read_acts}
use Rattle.link_side.specs.Kept.{Kept, HasRun, IsAtRest, Acts, past_by, whole}
use Rattle.link_side.specs.Calls.{Adds, PutsRun, put_acts}
use Rattle.link_side.specs.Single.{WritesAlone, PutsBy}
use Rattle.link_side.specs.Silent.{HearsBy, HasHeard, HasOutput, HasNone, IsRefusedNow, IsUnrefused, IsShaken, IsUnshaken}
use Rattle.link_side.proofs.KeptLemmas.{acts_on, acts_same}
use Rattle.link_side.proofs.PartLemmas.{WritesDue, none_by, some_by, stops}
use Rattle.link_side.proofs.RestLemmas.{StandsAs, some_meaning, rest_left, messages_left, nothing_held, something_held, stands_as, nothing_to_write, something_to_write}

-- ---- what is to be written

pub has_output : (k : Kept) → k.unfed ≡ [] → IsCurrent k.engine → (unwritten k.engine ≡ [] → ⊥) → HasOutput k
has_output k none now some = λ opts acts r. something_to_write opts acts k none now some r

pub has_none : (k : Kept) → k.unfed ≡ [] → IsCurrent k.engine → unwritten k.engine ≡ [] → HasNone k
has_none k none now all = λ opts acts r.
    let m = some_meaning opts acts k none now r in (
      nothing_to_write opts acts k none now all r,
      λ some. some m.0 m.1 (nothing_to_write opts acts k none now all r m.0 m.1),
    )

-- ---- how many messages were heard

-- those that went through and those that wait
heard_many : (k : Kept) (n : ℕ) → k.unfed ≡ [] → IsCurrent k.engine → n ≡ count_of (k.through + length (whole k)) → HasHeard n k
heard_many k n none now e = λ opts acts r d decodes.
    let p = length (put_of acts) in
    let w = length (whole k) in
    let m : length d.messages ≡ p + w = ap (λ (l : List Frames). length l) (messages_left opts acts k none now r d decodes) ∙ length-append (put_of acts) (whole k) in
    let sum : count_of (count_of p + w) ≡ count_of (p + w) = omega arith in
    e ∙ ap (λ (x : ℕ). count_of (x + w)) r.through_is ∙ sum ∙ ap count_of (sym m)

pub heard_none : (k : Kept) (n q : ℕ) → k.unfed ≡ [] → IsCurrent k.engine → k.held ≡ None → q ≡ length (waiting k.engine) → n ≡ count_of (k.through + q) → HasHeard n k
heard_none k n q none now e eq en =
    let w : q ≡ length (whole k) = eq ∙ ap (λ (o : Option Frames). length (option_to_list o ++ waiting k.engine)) (sym e) in
    heard_many k n none now (en ∙ ap (λ (x : ℕ). count_of (k.through + x)) w)

pub heard_some : (k : Kept) (m : Frames) (seen n q : ℕ) → k.unfed ≡ [] → IsCurrent k.engine → k.held ≡ Some m → q ≡ length (waiting k.engine) → seen ≡ count_of (k.through + q) → n ≡ count_of (seen + 1) → HasHeard n k
heard_some k m seen n q none now e eq es en =
    let t = k.through in
    let one = ap (λ (o : Option Frames). length (option_to_list o ++ waiting k.engine)) e in
    let w : q + 1 ≡ length (whole k) = omega (arith, eq, one) in
    let sum : count_of (count_of (t + q) + 1) ≡ count_of (t + (q + 1)) = omega arith in
    heard_many k n none now (en ∙ ap (λ (x : ℕ). count_of (x + 1)) es ∙ sum ∙ ap (λ (x : ℕ). count_of (t + x)) w)

-- ---- how the stream stands

refused_by : (o : Outcome) (q : Option Peer) (x : Refusal) → standing_at o q ≡ IsRefused x → o ≡ Refused x
refused_by (Refused r) q x e = cc
refused_by (Unfinished n) None x e = absurd cc
refused_by (Unfinished n) (Some p) x e = absurd cc

pub refused_now : (k : Kept) (x : Refusal) → k.unfed ≡ [] → IsCurrent k.engine → StandsAs (IsRefused x) k.engine → IsRefusedNow x.cause k
refused_now k x none now says = λ opts acts r.
    let all = λ (d : Decoded) (decodes : Decodes opts (heard_of acts) d). refused_by d.outcome d.peer x (sym (stands_as (IsRefused x) opts acts k none now says r d decodes)) in
    let m = some_meaning opts acts k none now r in
    (x, refl, (m.0, m.1, all m.0 m.1), all)

refused_stands : (o : Outcome) (q : Option Peer) (r : Refusal) → o ≡ Refused r → standing_at o q ≡ IsRefused r
refused_stands (Refused x) q r e = cc
refused_stands (Unfinished n) q r e = absurd cc

pub unrefused_now : (k : Kept) (s : Standing) → k.unfed ≡ [] → IsCurrent k.engine → ((r : Refusal) → s ≡ IsRefused r → ⊥) → StandsAs s k.engine → IsUnrefused k
unrefused_now k s none now differs says = λ opts acts run d decodes r e.
    differs r (stands_as s opts acts k none now says run d decodes ∙ refused_stands d.outcome d.peer r e)

pub running_differs : (peer : Peer) (r : Refusal) → Runs peer ≡ IsRefused r → ⊥
running_differs peer r e = absurd cc

pub shaking_unrefused : (r : Refusal) → IsShaking ≡ IsRefused r → ⊥
shaking_unrefused r e = absurd cc

-- the peer of a stream, by all that the link gave
abbrev pub PeerIs : Option Peer → Conversation → Type 0
PeerIs q c = (p : Past) (d : Decoded) → Follows p c → IsCurrent c → IsMeaning p d → q ≡ d.peer

peer_is : (q : Option Peer) (opts : EngineOpts) (acts : List LinkAct) (k : Kept) → k.unfed ≡ [] → IsCurrent k.engine → PeerIs q k.engine → HasRun opts acts k → (d : Decoded) → Decodes opts (heard_of acts) d → q ≡ d.peer
peer_is q opts acts k none now says r d decodes = says (past_by opts acts r.heard k.held r.put) d r.follows now (rest_left opts acts k none r d decodes).meaning

pub shaken_now : (k : Kept) (peer : Peer) → k.unfed ≡ [] → IsCurrent k.engine → PeerIs (Some peer) k.engine → IsShaken peer k
shaken_now k peer none now says = λ opts acts r d decodes. sym (peer_is (Some peer) opts acts k none now says r d decodes)

none_known : (peer : Peer) → None ≡ Some peer → ⊥
none_known peer e = absurd cc

pub unshaken_now : (k : Kept) → k.unfed ≡ [] → IsCurrent k.engine → PeerIs None k.engine → IsUnshaken k
unshaken_now k none now says = λ opts acts r peer all.
    let m = some_meaning opts acts k none now r in
    none_known peer (peer_is None opts acts k none now says r m.0 m.1 ∙ all m.0 m.1)

-- ---- a reading part without puts

pub hears_by : (old mid new : Kept) (got : Option LinkGot) (octets : List ℕ) (heard heard' : Option (List ℕ))
    → IsAtRest old → Adds heard octets heard' → ReadFits got octets → Acts old (read_acts got octets) mid → Acts mid [] new
    → (IsAtRest old → (opts : EngineOpts) (acts : List LinkAct) → HasRun opts acts old → MatchOption got (SomethingHeld opts acts) (λ _. NothingHeld opts acts))
    → HearsBy old got new heard heard'
hears_by old mid new got octets heard heard' was told fits f g due =
    let reads = read_acts got octets in
    record {
      octets = octets;
      fits = fits;
      told = told;
      run = acts_same old new (reads ++ []) reads (append-nil reads) (acts_on old mid new reads [] f g);
      part = λ opts acts r. record {
        answer = got;
        octets = octets;
        all = refl;
        fits = fits;
        read = λ e. some_by got (SomethingHeld opts acts) (NothingHeld opts acts) e (due was opts acts r);
        waits = λ e nothing.
            let m = some_meaning opts acts old was.fed was.current r in
            none_by got (SomethingHeld opts acts) (λ _. NothingHeld opts acts) e (due was opts acts r) m.0 m.1 (nothing m.0 m.1);
      };
    }

-- ---- a write alone, and puts alone

pub writes_single : (old new : Kept) (put : Option LinkPut) (octets : List ℕ) (said said' : Option (List ℕ)) → IsAtRest old → Adds said octets said' → WriteFits put octets → Acts old (write_acts put octets) new → WritesDue put old
    → WritesAlone old put new said said'
writes_single old new put octets said said' rest told fits f due = record {
  octets = octets;
  fits = fits;
  told = told;
  run = f;
  part = λ b acts r. record {
    answer = put;
    octets = octets;
    all = refl;
    fits = fits;
    some = λ e. some_by put (NothingToWrite b.opts acts) (SomethingToWrite b.opts acts) e (due b.opts acts r);
    none = λ e something.
        let m = some_meaning b.opts acts old rest.fed rest.current r in
        something m.0 m.1 (none_by put (NothingToWrite b.opts acts) (λ _. SomethingToWrite b.opts acts) e (due b.opts acts r) m.0 m.1);
  };
}

pub puts_single : {S O I N : Type 0} (K : Known S O I N) (old new : Kept) (ms : List Frames) (full : Bool) (s s' : S) (o o' : O) → PutsRun K s o ms full s' o' → ((pipe : PipeId) → Acts old (put_acts pipe ms full) new)
    → IsAtRest new → (full ≡ true → IsSome new.held) → (full ≡ false → whole new ≡ []) → PutsBy K old new s o s' o'
puts_single K old new ms full s s' o o' runs acts_are rest held none = record {
  messages = ms;
  full = full;
  puts = runs;
  run = acts_are;
  part = λ pipe opts acts r. stops K pipe ms full (SomethingHeld opts (acts ++ put_acts pipe ms full)) (NothingHeld opts (acts ++ put_acts pipe ms full))
      (λ e. something_held opts (acts ++ put_acts pipe ms full) new rest.fed rest.current (held e) (acts_are pipe opts acts r))
      (λ e. nothing_held opts (acts ++ put_acts pipe ms full) new rest.fed rest.current (none e) (acts_are pipe opts acts r));
}
