-- Messages are taken for a link one by one.
use Rattle.std.proofs.Common.{◌≡◌, ℕ, ◌-◌, ◌≤◌, Bool, true, false, List, [], ◌∷◌, ◌++◌, length, drop, Option, Some, None, refl, sym, ap, subst, ◌∙◌, inl, inr, append_assoc, arith}
use Rattle.std.specs.Prelude.{IsSome, All, nat_le, if◌then◌else◌}
use Rattle.std.specs.Str.{bytes_eq}
use Rattle.std.specs.Cmp.Lexicographic.{bytes_decides}
use Rattle.std.proofs.lemmas.List.{append-nil, length-append}
use Rattle.std.proofs.lemmas.List.Concat.{flat_map-append}
use Rattle.zq_base.specs.Message.{Frames}
use Rattle.zq_base.specs.Ends.{PipeId}
use Rattle.zq_base.specs.declared.options.EngineOpts.{EngineOpts}
use Rattle.zq_base.specs.declared.options.Peer.{Peer}
use Rattle.zq_outer.specs.declared.link.LinkPut.{LinkPut}
use Rattle.spec_pattern.specs.PipeStep.{PipeStep, Commit, FullLook, RoomLook, Take, EmptyLook, DelimiterLook, WaitingLook, Seal}
use Rattle.spec_pattern.specs.Topics.{Topic}
use Rattle.spec_zmtp.specs.declared.command.Command as command
use Rattle.spec_zmtp.specs.Put.{Put, Says, Sends, IsSendable, encode_put, message_in, commands_in, messages_in, says, sends}
use Rattle.spec_zmtp.specs.DecodedStream.{Decoded, Decodes}
use Rattle.spec_zmtp.proofs.MoreLemmas.{more_means}
use Rattle.spec_link.specs.LinkAct.{LinkAct, Wire, Step, Writes, heard_by, offered_by, repeated_by, taken_by, said_of, heard_of, offered_of, repeated_of, taken_of}
use Rattle.spec_link.specs.LinkRun.{AreToSay, IsAllSaid, IsLinkRun, first_said, octets_to_say}
use Rattle.spec_link.specs.Parts.{MayTake, write_acts, read_acts}
use Rattle.spec_link.specs.Rows.{whole_in, IsWritten, IsLost}
use Rattle.spec_link.specs.History.{Basis, Standing}
use Rattle.spec_link.specs.Turn.{IsLook, IsNextOf, IsWriteOnly, WritesAt, ReadsAt, PutsLast, no_more, puts, drops, holds, topics_due, topics_left, read_pipe}
use Rattle.spec_link.specs.OneByOne.{TookLast, TakesOneByOne, TakesComeOneByOne, AllButOneAreWritten}
use Rattle.spec_link.proofs.PutLemmas.{later_messages, later_commands}
use Rattle.spec_link.proofs.InFlightLemmas.{sorts, one_in_flight}
use Rattle.spec_link.proofs.TopicLemmas.{Silent, Next, Stable, silent_none, silent_as, silent_on, silent_writes, silent_reads, silent_all, next_is, no_nil, no_more_than, the_first}

-- ---- whether all is said can be told

first_messages : (cs : List command.Command) (ms : List Frames) → messages_in (says cs ++ sends ms) ≡ ms
first_messages [] [] = refl
first_messages [] (m ∷ ms) = ap (λ (l : List Frames). m ∷ l) (first_messages [] ms)
first_messages (c ∷ cs) ms = first_messages cs ms

first_commands : (cs : List command.Command) (ms : List Frames) → commands_in (says cs ++ sends ms) ≡ cs
first_commands [] [] = refl
first_commands [] (m ∷ ms) = first_commands [] ms
first_commands (c ∷ cs) ms = ap (λ (l : List command.Command). c ∷ l) (first_commands cs ms)

sends_are : (later : List Put) → commands_in later ≡ [] → later ≡ sends (messages_in later)
sends_are [] e = refl
sends_are (Says c ∷ later) e = absurd cc
sends_are (Sends m ∷ later) e = ap (λ (l : List Put). Sends m ∷ l) (sends_are later e)

module _ (opts : EngineOpts) (acts : List LinkAct) (d : Decoded) where
  -- the commands of the handshake, and then the messages
  abbrev one_list : List Put
  one_list = says (first_said d) ++ sends (offered_of acts)

  to_say_one : AreToSay opts acts d one_list
  to_say_one = record { messages = first_messages d.said (offered_of acts); ours = first_commands d.said (offered_of acts); later = sends (offered_of acts); first = refl }

  is_one_list : (all : List Put) → AreToSay opts acts d all → all ≡ one_list
  is_one_list all a =
      a.first ∙ ap (λ (l : List Put). says (first_said d) ++ l)
      (sends_are a.later (later_commands opts acts d all a) ∙ ap (λ (l : List Frames). sends l) (later_messages opts acts d all a))

  told : (b : Bool) → bytes_eq (said_of acts) (octets_to_say opts.role one_list) ≡ b → Stable (IsAllSaid opts d acts) → IsAllSaid opts d acts
  told true e k = (one_list, to_say_one, (bytes_decides (said_of acts) (octets_to_say opts.role one_list)).0 e)
  told false e k = absurd (k (λ a. no_true (sym ((bytes_decides (said_of acts) (octets_to_say opts.role one_list)).1 (a.2 ∙ ap (λ (l : List Put). octets_to_say opts.role l) (is_one_list a.0 a.1))) ∙ e)))
    where
      no_true : true ≡ false → ⊥
      no_true x = cc

  all_told : Stable (IsAllSaid opts d acts) → IsAllSaid opts d acts
  all_told k = told (bytes_eq (said_of acts) (octets_to_say opts.role one_list)) refl k

peer_told : (p : Option Peer) → Stable (IsSome p) → IsSome p
peer_told None k = absurd (k (λ e. cc))
peer_told (Some p) k = refl

-- by what the octets heard before and all of them mean
same_said : (opts : EngineOpts) (acts : List LinkAct) (d e : Decoded) → e.said ≡ d.said → IsAllSaid opts d acts → IsAllSaid opts e acts
same_said opts acts d e same a =
    let cs = ap (λ (l : List command.Command). says l) (sym same) in
    (a.0, record { messages = a.1.messages; ours = a.1.ours ∙ sym same; later = a.1.later; first = a.1.first ∙ ap (λ (l : List Put). l ++ a.1.later) cs }, a.2)

-- ---- one part more

module _ (opts : EngineOpts) (due : List Topic) where
  pub still : (acts more : List LinkAct) → Silent more → TakesOneByOne opts due acts → TakesOneByOne opts due (acts ++ more)
  still acts more k (inl none) = inl (flat_map-append taken_by acts more ∙ ap (λ (l : List Frames). taken_of acts ++ l) k.takes ∙ append-nil (taken_of acts) ∙ none)
  still acts more k (inr t) = inr (record {
    before = t.before;
    behind = t.behind ++ more;
    pipe = t.pipe;
    message = t.message;
    all = ap (λ (l : List LinkAct). l ++ more) t.all ∙ append_assoc t.before (Step (Take t.pipe t.message) ∷ t.behind) more;
    quiet = flat_map-append offered_by t.behind more ∙ ap (λ (l : List Frames). l ++ offered_of more) t.quiet ∙ k.offers;
    meant = t.meant;
    decodes = t.decodes;
    known = t.known;
    said = t.said;
    none_left = ap (λ (l : List Frames). drop (length l) due) (flat_map-append repeated_by acts more ∙ ap (λ (l : List Frames). repeated_of acts ++ l) k.repeats ∙ append-nil (repeated_of acts)) ∙ t.none_left;
  })

  takes_one : (acts : List LinkAct) (pipe : PipeId) (m : Frames) (d : Decoded) → Decodes opts (heard_of acts) d → IsSome d.peer → IsAllSaid opts d acts → drop (length (repeated_of acts)) due ≡ []
      → TakesOneByOne opts due (acts ++ Step (Take pipe m) ∷ [])
  takes_one acts pipe m d decodes known said none = inr (record {
    before = acts;
    behind = [];
    pipe = pipe;
    message = m;
    all = refl;
    quiet = refl;
    meant = d;
    decodes = decodes;
    known = known;
    said = said;
    none_left = ap (λ (l : List Frames). drop (length l) due) (flat_map-append repeated_by acts (Step (Take pipe m) ∷ []) ∙ append-nil (repeated_of acts)) ∙ none;
  })

  -- a topic is said again, where one is left
  says_one : (acts : List LinkAct) (x : LinkAct) (t : Topic) (ts : List Topic) → taken_of (x ∷ []) ≡ [] → drop (length (repeated_of acts)) due ≡ t ∷ ts → TakesOneByOne opts due acts → TakesOneByOne opts due (acts ++ x ∷ [])
  says_one acts x t ts none left (inl taken) = inl (flat_map-append taken_by acts (x ∷ []) ∙ ap (λ (l : List Frames). taken_of acts ++ l) none ∙ append-nil (taken_of acts) ∙ taken)
  says_one acts x t ts none left (inr k) = absurd (no_topic (sym left ∙ k.none_left))
    where
      no_topic : t ∷ ts ≡ [] → ⊥
      no_topic e = cc

-- ---- the writing part

no_frames : (m : Frames) → [] ≡ m ∷ [] → ⊥
no_frames m e = cc

the_take : (x : LinkAct) (m : Frames) → taken_of (x ∷ []) ≡ m ∷ [] → (pipe : PipeId) × (n : Frames) × (x ≡ Step (Take pipe n))
the_take (Wire act) m e = absurd (no_frames m e)
the_take (Step (Commit p n)) m e = absurd (no_frames m e)
the_take (Step (FullLook p)) m e = absurd (no_frames m e)
the_take (Step (RoomLook p)) m e = absurd (no_frames m e)
the_take (Step (Take p n)) m e = (p, n, refl)
the_take (Step (EmptyLook p)) m e = absurd (no_frames m e)
the_take (Step (DelimiterLook p)) m e = absurd (no_frames m e)
the_take (Step (WaitingLook p)) m e = absurd (no_frames m e)
the_take (Step (Seal p)) m e = absurd (no_frames m e)

-- what one act behind the write makes of it, where all was said before it
behind_one : (opts : EngineOpts) (due : List Topic) (acts : List LinkAct) (x : LinkAct) (d : Decoded) → Decodes opts (heard_of acts) d → IsSome d.peer → IsAllSaid opts d acts
    → TakesOneByOne opts due acts → Next (drop (length (repeated_of acts)) due) x → TakesOneByOne opts due (acts ++ x ∷ [])
behind_one opts due acts x d decodes known said f (inl k) = still opts due acts (x ∷ []) k f
behind_one opts due acts x d decodes known said f (inr (inl k)) =
    let t = the_take x k.0 k.2.takes in
    subst (λ (y : LinkAct). TakesOneByOne opts due (acts ++ y ∷ [])) (sym t.2) (takes_one opts due acts t.0 t.1 d decodes known said k.1)
behind_one opts due acts x d decodes known said f (inr (inr k)) = says_one opts due acts x k.0 k.1 k.3.takes k.2 f

behind_all : (opts : EngineOpts) (due : List Topic) (acts : List LinkAct) (pipe : PipeId) (d : Decoded) → Decodes opts (heard_of acts) d → TakesOneByOne opts due acts → (takes : List LinkAct)
    → ((x : LinkAct) (xs : List LinkAct) → takes ≡ x ∷ xs → Stable (MayTake opts acts))
    → ((x : LinkAct) (xs : List LinkAct) → takes ≡ x ∷ xs → Stable ((act : LinkAct) × IsNextOf pipe (drop (length (repeated_of acts)) due) act × (takes ≡ act ∷ []))) → TakesOneByOne opts due (acts ++ takes)
behind_all opts due acts pipe d decodes f [] may one = subst (λ (l : List LinkAct). TakesOneByOne opts due l) (sym (append-nil acts)) f
behind_all opts due acts pipe d decodes f (x ∷ []) may one =
    let left = drop (length (repeated_of acts)) due in
    behind_one opts due acts x d decodes
    (peer_told d.peer (λ never. may x [] refl (λ m. never (m d decodes).1.known)))
    (all_told opts acts d (λ never. may x [] refl (λ m. never (m d decodes).0))) f
    (next_is pipe left x (λ never. one x [] refl (λ p. never (subst (λ (y : LinkAct). IsNextOf pipe left y) (the_first x p.0 [] p.2) p.1))))
behind_all opts due acts pipe d decodes f (x ∷ (y ∷ ys)) may one = absurd (one x (y ∷ ys) refl (λ p. no_more_than x y p.0 ys p.2))

-- a write hears nothing, and says no topic again
writes_hear : (acts : List LinkAct) (answer : Option LinkPut) (octets : List ℕ) → heard_of (acts ++ write_acts answer octets) ≡ heard_of acts
writes_hear acts None octets = ap (λ (l : List LinkAct). heard_of l) (append-nil acts)
writes_hear acts (Some a) octets = flat_map-append heard_by acts (Wire (Writes a octets) ∷ []) ∙ append-nil (heard_of acts)

writes_repeat : (acts : List LinkAct) (answer : Option LinkPut) (octets : List ℕ) → repeated_of (acts ++ write_acts answer octets) ≡ repeated_of acts
writes_repeat acts None octets = ap (λ (l : List LinkAct). repeated_of l) (append-nil acts)
writes_repeat acts (Some a) octets = flat_map-append repeated_by acts (Wire (Writes a octets) ∷ []) ∙ append-nil (repeated_of acts)

-- a write alone offers nothing
pub silent_alone : (b : Basis) (acts more : List LinkAct) → IsWriteOnly b acts more → Silent more
silent_alone b acts more w = silent_as (write_acts w.answer w.octets) more w.all (silent_writes w.answer w.octets)

written : (b : Basis) (s : Standing) (acts more : List LinkAct) (d : Decoded) → Decodes b.opts (heard_of acts) d → TakesOneByOne b.opts (topics_due b s.closed) acts → WritesAt b s acts more
    → TakesOneByOne b.opts (topics_due b s.closed) (acts ++ more)
written b s acts more d decodes f (inl k) =
    let due = topics_due b s.closed in
    let w = k.1 in
    let writes = write_acts w.answer w.octets in
    let g = still b.opts due acts writes (silent_writes w.answer w.octets) f in
    let may : (x : LinkAct) (xs : List LinkAct) → w.takes ≡ x ∷ xs → Stable (MayTake b.opts (acts ++ writes)) = λ x xs e never. no_nil x xs (sym e ∙ w.wait never) in
    let same : topics_left b s acts ≡ drop (length (repeated_of (acts ++ writes))) due = ap (λ (l : List Frames). drop (length l) due) (sym (writes_repeat acts w.answer w.octets)) in
    subst (λ (l : List LinkAct). TakesOneByOne b.opts due (acts ++ l)) (sym w.all)
    (subst (λ (l : List LinkAct). TakesOneByOne b.opts due l) (append_assoc acts writes w.takes)
    (behind_all b.opts due (acts ++ writes) (read_pipe b) d (subst (λ (l : List ℕ). Decodes b.opts l d) (sym (writes_hear acts w.answer w.octets)) decodes) g w.takes may
    (λ x xs e never. may x xs e (λ m. never
    (subst (λ (t : List Topic). (act : LinkAct) × IsNextOf (read_pipe b) t act × (w.takes ≡ act ∷ [])) same
    (w.take (λ over. no_nil x xs (sym e ∙ w.over over)) m))))))
written b s acts more d decodes f (inr k) = still b.opts (topics_due b s.closed) acts more (silent_alone b acts more k.1) f

-- ---- the other parts, which offer nothing

pub silent_read : (b : Basis) (s : Standing) (acts more : List LinkAct) → ReadsAt b s acts more → Silent more
silent_read b s acts more (no_more is e) = silent_as [] more e silent_none
silent_read b s acts more (puts never push can r) =
    silent_as (read_acts r.answer r.octets ++ r.later) more r.all (silent_on (read_acts r.answer r.octets) r.later (silent_reads r.answer r.octets) (silent_all _ _ _ r.later r.whole))
silent_read b s acts more (drops never push r) = silent_as (read_acts r.answer r.octets) more r.all (silent_reads r.answer r.octets)
silent_read b s acts more (holds never push can r) = silent_as (read_acts r.answer r.octets) more r.all (silent_reads r.answer r.octets)

pub silent_last : (b : Basis) (s : Standing) (acts more : List LinkAct) → PutsLast b s acts more → Silent more
silent_last b s acts more (inl k) = silent_all _ _ _ more k.1
silent_last b s acts more (inr k) = silent_as [] more k.1 silent_none

pub silent_look : (pipe : PipeId) (step : PipeStep) → IsLook pipe step → Silent (Step step ∷ [])
silent_look pipe step (inl e) = silent_as (Step (WaitingLook pipe) ∷ []) (Step step ∷ []) (ap (λ (x : PipeStep). Step x ∷ []) e) (record { offers = refl; repeats = refl; takes = refl })
silent_look pipe step (inr (inl e)) = silent_as (Step (EmptyLook pipe) ∷ []) (Step step ∷ []) (ap (λ (x : PipeStep). Step x ∷ []) e) (record { offers = refl; repeats = refl; takes = refl })
silent_look pipe step (inr (inr e)) = silent_as (Step (DelimiterLook pipe) ∷ []) (Step step ∷ []) (ap (λ (x : PipeStep). Step x ∷ []) e) (record { offers = refl; repeats = refl; takes = refl })

pub one_by_one : TakesComeOneByOne
one_by_one = record {
  begins = λ opts due. inl refl;
  writes = λ b s acts more d decodes f w. written b s acts more d decodes f w;
  reads = λ b s due acts more f r. still b.opts due acts more (silent_read b s acts more r) f;
  puts = λ b s due acts more f p. still b.opts due acts more (silent_last b s acts more p) f;
  last = λ b due acts more f w. still b.opts due acts more (silent_alone b acts more w) f;
  looks = λ opts due acts pipe step f l. still opts due acts (Step step ∷ []) (silent_look pipe step l) f;
}

-- ---- the counts

at_most : (b : Bool) (n : ℕ) → (if b then n else 0) ≤ n
at_most true n = omega arith
at_most false n = omega arith

within : (all : List Put) (room : ℕ) → whole_in room all ≤ length (messages_in all)
within [] room = omega arith
within (p ∷ all) room =
    omega (arith, within all (room - length (encode_put p)), at_most (nat_le (length (encode_put p)) room) (length (message_in p)), length-append (message_in p) (messages_in all))

none_taken : (opts : EngineOpts) (acts : List LinkAct) (d : Decoded) → taken_of acts ≡ [] → IsLinkRun opts acts d → IsWritten opts d acts 0 × IsLost opts d acts 0
none_taken opts acts d none run =
    let all = run.said.0 in
    let a = run.said.1 in
    let room = length (said_of acts) - 64 in
    let many = ap (λ (l : List Frames). length l) a.messages in
    let few = within all room in
    let taken = ap (λ (l : List Frames). length l) none in
    let s = sorts acts in
    let written : IsWritten opts d acts 0 = (all, a, run.said.2, omega (arith, many, few, taken, s)) in
    (written, (0, written, omega (arith, taken)))

one_taken : (opts : EngineOpts) (due : List Topic) (acts : List LinkAct) (d : Decoded) → All IsSendable (offered_of acts) → TookLast opts due acts → IsLinkRun opts acts d
    → (IsAllSaid opts d acts → ⊥) → IsWritten opts d acts (length (taken_of acts) - 1) × IsLost opts d acts 1
one_taken opts due acts d good t run unsaid =
    let took = Step (Take t.pipe t.message) in
    let whole = t.before ++ took ∷ t.behind in
    let heard : heard_of acts ≡ heard_of t.before ++ heard_of t.behind = ap (λ (l : List LinkAct). heard_of l) t.all ∙ flat_map-append heard_by t.before (took ∷ t.behind) in
    let goes = more_means opts (heard_of t.before) (heard_of t.behind) t.meant d t.decodes (subst (λ (l : List ℕ). Decodes opts l d) heard run.decodes) in
    let one = one_in_flight opts t.before t.behind t.pipe t.message d (subst (λ (l : List LinkAct). All IsSendable (offered_of l)) t.all good)
    (same_said opts t.before t.meant d (goes.known t.known).1 t.said) t.quiet
    (subst (λ (l : List LinkAct). IsLinkRun opts l d) t.all run).said (λ all. unsaid (subst (λ (l : List LinkAct). IsAllSaid opts d l) (sym t.all) all)) in
    let n = ap (λ (l : List LinkAct). length (taken_of l)) t.all ∙ ap (λ (l : List Frames). length l) (flat_map-append taken_by t.before (took ∷ t.behind)) ∙ length-append (taken_of t.before) (t.message ∷ taken_of t.behind) in
    let q = ap (λ (l : List Frames). length l) t.quiet in
    let s = sorts t.behind in
    let count : length (taken_of t.before) ≡ length (taken_of acts) - 1 = omega (arith, n, q, s) in (
      subst (λ (l : List LinkAct). IsWritten opts d l (length (taken_of acts) - 1)) (sym t.all) (subst (λ (k : ℕ). IsWritten opts d whole k) count one.0),
      subst (λ (l : List LinkAct). IsLost opts d l 1) (sym t.all) one.1,
    )

pub all_but_one : AllButOneAreWritten
all_but_one = record {
  none = λ opts acts d none run. none_taken opts acts d none run;
  one = λ opts due acts d good t run unsaid. one_taken opts due acts d good t run unsaid;
}
