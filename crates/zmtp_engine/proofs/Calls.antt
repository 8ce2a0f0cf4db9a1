-- What the calls of an engine say of its past.
use Rattle.std.proofs.Common.{◌≡◌, ℕ, ◌≤◌, ◌-◌, ◌^◌, min, true, false, List, [], ◌∷◌, ◌++◌, length, take, drop, Option, Some, None, refl, sym, ap, subst, ◌∙◌, append_assoc, arith}
use Rattle.std.specs.Prelude.{IfSome, IfNone, IsSome, MatchResult, Result, Ok, Err}
use Rattle.std.specs.List.{flat_map}
use mathlib.Core.List.{IsPrefix}
use Rattle.std.proofs.lemmas.List.{append-nil, nil_from_length, length-append, length-drop, drop_all}
use Rattle.std.proofs.lemmas.List.Concat.{flat_map-append}
use Rattle.std.specs.Option.{option_to_list, is_some}
use Rattle.zq_base.specs.declared.options.EngineOpts.{EngineOpts}
use Rattle.zq_base.specs.declared.options.Peer.{Peer}
use Rattle.spec_zmtp.specs.declared.cause.Refusal.{Refusal}
use Rattle.spec_zmtp.specs.declared.command.Command.{Command}
use Rattle.spec_zmtp.specs.FrameEncoding.{encode_message}
use Rattle.spec_zmtp.specs.Greeting.{greeting_of}
use Rattle.spec_zmtp.specs.Put.{says, sends, command_in, message_in, encode_said, encode_put, commands_in, messages_in, encode_puts, encode_commands}
use Rattle.spec_zmtp.specs.DecodedStream.{Decoded, Decodes, Outcome, Unfinished, octets_said, at_greeting, greeting_unfinished}
use Rattle.spec_zmtp.specs.OwnCommands.{IsEngineOpts}
use Rattle.spec_zmtp.proofs.FrameLemmas.{same_front}
use Rattle.spec_zmtp.proofs.StreamLemmas.{one_meaning}
use Rattle.zmtp_engine.specs.declared.want.OutOfMemory.{OutOfMemory}
use Rattle.zmtp_engine.specs.Answers.{standing_by, standing_now, standing_at}
use Rattle.zmtp_engine.specs.Speech.{IsModest}
use Rattle.zmtp_engine.specs.Hearing.{Grows}
use Rattle.zmtp_engine.specs.Listening.{Listening, ListensTo, IsSettledNow, refusal_now, rest_now, said_now, outcome_by}
use Rattle.zmtp_engine.specs.Output.{Output, run_size, piece_of, pieces_in, joined, octets_left, next_run, after_run, begun_at, begun_run}
use Rattle.zmtp_engine.specs.EngineView.{IsSpent}
use Rattle.zmtp_engine.specs.declared.sending.Sending.{Sending}
use Rattle.zmtp_engine.specs.WriterView.{later_in}
use Rattle.zmtp_engine.specs.Conversation.{Past, Conversation, Follows, IsCurrent, IsMeaning, HasLeft, no_past, fed, gave, octets_put, unwritten, waiting}
use Rattle.zmtp_engine.proofs.Conversations.{feeds, gives, begins, with_queue}
use Rattle.zmtp_engine.proofs.Fronts.{fronts}
use Rattle.zmtp_engine.proofs.Meaning.{means, length-greeting_of}
use Rattle.zmtp_engine.proofs.SaidLemmas.{commands_front, decodes_modest, none_modest, length-commands, no_octets}

-- ---- what is put

said_commands : (cs : List Command) → commands_in (says cs) ≡ cs
said_commands [] = refl
said_commands (c ∷ cs) = ap (λ (l : List Command). c ∷ l) (said_commands cs)

sent_commands : (ms : List (List (List ℕ))) → commands_in (sends ms) ≡ []
sent_commands [] = refl
sent_commands (m ∷ ms) = sent_commands ms

said_messages : (cs : List Command) → messages_in (says cs) ≡ []
said_messages [] = refl
said_messages (c ∷ cs) = said_messages cs

sent_messages : (ms : List (List (List ℕ))) → messages_in (sends ms) ≡ ms
sent_messages [] = refl
sent_messages (m ∷ ms) = ap (λ (l : List (List (List ℕ))). m ∷ l) (sent_messages ms)

said_octets : (cs : List Command) → encode_puts (says cs) ≡ encode_commands cs
said_octets [] = refl
said_octets (c ∷ cs) = ap (λ (l : List ℕ). encode_said c ++ l) (said_octets cs)

sent_octets : (ms : List (List (List ℕ))) → encode_puts (sends ms) ≡ flat_map encode_message ms
sent_octets [] = refl
sent_octets (m ∷ ms) = ap (λ (l : List ℕ). encode_message m ++ l) (sent_octets ms)

pub commands_put : (p : Past) (c : Conversation) (f : Follows p c) → commands_in p.put ≡ f.commands
commands_put p c f =
    ap commands_in f.put ∙ flat_map-append command_in (says f.commands) (sends f.messages) ∙ ap (λ (l : List Command). l ++ commands_in (sends f.messages)) (said_commands f.commands) ∙ ap (λ (l : List Command). f.commands ++ l) (sent_commands f.messages) ∙ append-nil f.commands

pub messages_put : (p : Past) (c : Conversation) (f : Follows p c) → messages_in p.put ≡ f.messages
messages_put p c f =
    ap messages_in f.put ∙ flat_map-append message_in (says f.commands) (sends f.messages) ∙ ap (λ (l : List (List (List ℕ))). l ++ messages_in (sends f.messages)) (said_messages f.commands) ∙ sent_messages f.messages

pub octets_are : (p : Past) (c : Conversation) (f : Follows p c) → said_now c.listening ++ flat_map encode_message f.messages ≡ octets_put p
octets_are p c f =
    let greeting : List ℕ = greeting_of p.opts.role in
    ap (λ (l : List ℕ). l ++ flat_map encode_message f.messages) f.said ∙ append_assoc greeting (encode_commands f.commands) (flat_map encode_message f.messages)
    ∙ ap (λ (l : List ℕ). greeting ++ l) (sym (ap encode_puts f.put ∙ flat_map-append encode_put (says f.commands) (sends f.messages) ∙ ap (λ (l : List ℕ). l ++ encode_puts (sends f.messages)) (said_octets f.commands) ∙ ap (λ (l : List ℕ). encode_commands f.commands ++ l) (sent_octets f.messages)))

-- ---- what is left

-- the commands that were said are told by their octets
pub same_commands : (p : Past) (c : Conversation) (f : Follows p c) (cs : List Command) → IsModest cs → said_now c.listening ≡ greeting_of p.opts.role ++ encode_commands cs → f.commands ≡ cs
same_commands p c f cs m e =
    let greeting : List ℕ = greeting_of p.opts.role in
    let both : encode_commands f.commands ≡ encode_commands cs = (same_front greeting greeting (encode_commands f.commands) (encode_commands cs) refl (sym f.said ∙ e)).1 in
    let z = commands_front f.commands cs [] f.modest.1 m.1 (append-nil (encode_commands f.commands) ∙ both) in
    sym (z.1 ∙ ap (λ (l : List Command). f.commands ++ l) (no_octets z.0 z.2) ∙ append-nil f.commands)

front_front : {A : Type 0} (xs ys zs : List A) → IsPrefix (xs ++ ys) zs → IsPrefix xs zs
front_front xs ys zs p = (ys ++ p.0, sym (append_assoc xs ys p.0) ∙ p.1)

pub has_left : (p : Past) (c : Conversation) (d : Decoded) → Follows p c → Decodes p.opts p.heard d → HasLeft p c d
has_left p c d f is =
    let k = fronts p.opts p.heard p.given c.listening d f.opts f.listens is in
    let all : p.written ++ unwritten c ≡ octets_put p = f.all ∙ octets_are p c f in
    let commands : commands_in p.put ≡ k.commands = commands_put p c f ∙ same_commands p c f k.commands k.modest k.said in
    record {
      meaning = record {
        decodes = is;
        given = front_front p.given (waiting c) d.messages k.messages;
        said = subst (λ (l : List Command). IsPrefix l d.said) (sym commands) k.front;
        written = (unwritten c, all);
      };
      messages = k.messages;
      written = all;
      all_given = λ now.
          let m = means p.opts p.heard p.given c.listening f.listens now in
          sym m.1.messages ∙ ap (λ (x : Decoded). x.messages) (one_meaning p.opts p.heard m.0 d m.1.decodes is);
      all_said = λ now.
          let m = means p.opts p.heard p.given c.listening f.listens now in
          commands_put p c f ∙ same_commands p c f m.0.said (decodes_modest p.opts p.heard m.0 f.opts m.1.decodes) (sym m.1.said) ∙ ap (λ (x : Decoded). x.said) (one_meaning p.opts p.heard m.0 d m.1.decodes is);
    }

pub some_meaning_now : (p : Past) (c : Conversation) → Follows p c → IsCurrent c → (d : Decoded) × HasLeft p c d
some_meaning_now p c f now = let m = means p.opts p.heard p.given c.listening f.listens now in (m.0, has_left p c m.0 f m.1.decodes)

-- what is said is brief
pub said_brief : (p : Past) (c : Conversation) → Follows p c → length (said_now c.listening) ≤ run_size
said_brief p c f =
    omega (arith, ap (λ (l : List ℕ). length l) f.said, length-append (greeting_of p.opts.role) (encode_commands f.commands), length-greeting_of p.opts.role, length-commands f.commands f.modest)

-- ---- what is told

pub peer_means : (p : Past) (c : Conversation) (d : Decoded) → Follows p c → IsCurrent c → IsMeaning p d → c.listening.hearing.peer ≡ d.peer
peer_means p c d f now is =
    let m = means p.opts p.heard p.given c.listening f.listens now in
    sym m.1.peer ∙ ap (λ (x : Decoded). x.peer) (one_meaning p.opts p.heard m.0 d m.1.decodes is.decodes)

stands : (r : Option Refusal) (q : Option Peer) (n : ℕ) → standing_by r q ≡ standing_at (outcome_by r n) q
stands None None n = refl
stands None (Some q) n = refl
stands (Some r) q n = refl

pub standing_means : (p : Past) (c : Conversation) (d : Decoded) → Follows p c → IsCurrent c → IsMeaning p d → standing_now c ≡ standing_at d.outcome d.peer
standing_means p c d f now is =
    let m = means p.opts p.heard p.given c.listening f.listens now in
    stands (refusal_now c.listening) c.listening.hearing.peer (rest_now c.listening)
    ∙ ap (λ (o : Outcome). standing_at o c.listening.hearing.peer) (sym m.1.outcome) ∙ ap (λ (q : Option Peer). standing_at m.0.outcome q) (sym m.1.peer)
    ∙ ap (λ (x : Decoded). standing_at x.outcome x.peer) (one_meaning p.opts p.heard m.0 d m.1.decodes is.decodes)

unfinished_is : (r : Option Refusal) (m n : ℕ) → outcome_by r m ≡ Unfinished n → (r ≡ None) × (m ≡ n)
unfinished_is None m n e = (refl, cc)
unfinished_is (Some r) m n e = absurd cc

pub rest_means : (p : Past) (c : Conversation) (d : Decoded) (k n : ℕ) → k ≡ min (rest_now c.listening) (2 ^ 64 - 1) → Follows p c → IsCurrent c → IsMeaning p d → d.outcome ≡ Unfinished n → k ≡ n
rest_means p c d k n k_is f now is e =
    let m = means p.opts p.heard p.given c.listening f.listens now in
    let same : m.0.outcome ≡ d.outcome = ap (λ (x : Decoded). x.outcome) (one_meaning p.opts p.heard m.0 d m.1.decodes is.decodes) in
    let u = unfinished_is (refusal_now c.listening) (rest_now c.listening) n (sym m.1.outcome ∙ same ∙ e) in
    let small = m.1.small u.0 in
    omega (arith, k_is, u.1, small)

-- ---- feeding and taking out

-- a feed, and the run that is begun behind it
pub feed_matches : (r : Result ℕ OutOfMemory) (p : Past) (piece : List ℕ) (c : Conversation) (l : Listening) (o : Output) → Follows p c → Grows c.listening.hearing l.hearing → o ≡ begun_run (said_now l) c.output
    → MatchResult r (λ _. ListensTo p.opts (p.heard ++ piece) p.given l) (λ e. ListensTo p.opts (p.heard ++ take e.taken piece) p.given l)
    → (commands : List Command) × MatchResult r (λ _. Follows (fed piece commands p) (record { listening = l; output = o })) (λ e. Follows (fed (take e.taken piece) commands p) (record { listening = l; output = o }))
feed_matches (Ok n) p piece c l o f g e k =
    let h = feeds p piece c l f k g in
    (h.0, subst (λ (x : Output). Follows (fed piece h.0 p) (record { listening = l; output = x })) (sym e) (begins (fed piece h.0 p) (record c { listening = l }) h.1))
feed_matches (Err w) p piece c l o f g e k =
    let h = feeds p (take w.taken piece) c l f k g in
    (h.0, subst (λ (x : Output). Follows (fed (take w.taken piece) h.0 p) (record { listening = l; output = x })) (sym e) (begins (fed (take w.taken piece) h.0 p) (record c { listening = l }) h.1))

-- the same before a run is begun
pub feed_some : (r : Result ℕ OutOfMemory) (p : Past) (piece : List ℕ) (c : Conversation) (l : Listening) → Follows p c → Grows c.listening.hearing l.hearing
    → MatchResult r (λ _. ListensTo p.opts (p.heard ++ piece) p.given l) (λ e. ListensTo p.opts (p.heard ++ take e.taken piece) p.given l)
    → (q : Past) × Follows q (record c { listening = l })
feed_some (Ok n) p piece c l f g k = let h = feeds p piece c l f k g in (fed piece h.0 p, h.1)
feed_some (Err w) p piece c l f g k = let h = feeds p (take w.taken piece) c l f k g in (fed (take w.taken piece) h.0 p, h.1)

same_queue : (p : Past) (rest : List (List (List ℕ))) (c : Conversation) → c.listening.hearing.queue ≡ rest → Follows p c → Follows p (with_queue rest c)
same_queue p rest c e f = subst (λ (q : List (List (List ℕ))). Follows p (with_queue q c)) e f

pub next_past : (o : Option (List (List ℕ))) (p : Past) (rest : List (List (List ℕ))) (c : Conversation) → c.listening.hearing.queue ≡ option_to_list o ++ rest → Follows p c → (q : Past) × Follows q (with_queue rest c)
next_past None p rest c e f = (p, same_queue p rest c e f)
next_past (Some m) p rest c e f = (gave (m ∷ []) p, gives p (m ∷ []) rest c e f)

pub next_some : (o : Option (List (List ℕ))) (rest : List (List (List ℕ))) (c : Conversation) → c.listening.hearing.queue ≡ option_to_list o ++ rest → IfSome o (λ m. (p : Past) → Follows p c → Follows (gave (m ∷ []) p) (with_queue rest c))
next_some None rest c e = tt
next_some (Some m) rest c e = λ p f. gives p (m ∷ []) rest c e f

pub next_first : (o : Option (List (List ℕ))) (rest : List (List (List ℕ))) (c : Conversation) → c.listening.hearing.queue ≡ option_to_list o ++ rest → IfSome o (λ m. waiting c ≡ m ∷ rest)
next_first None rest c e = tt
next_first (Some m) rest c e = e

short_drop : (queue rest : List (List (List ℕ))) → queue ≡ rest → rest ≡ drop 1 queue → queue ≡ []
short_drop queue rest e d = nil_from_length queue (omega (arith, ap (λ (q : List (List (List ℕ))). length q) e, ap (λ (q : List (List (List ℕ))). length q) d, length-drop 1 queue))

pub next_none : (o : Option (List (List ℕ))) (rest : List (List (List ℕ))) (c : Conversation) → c.listening.hearing.queue ≡ option_to_list o ++ rest → rest ≡ drop 1 c.listening.hearing.queue → IfNone o ((with_queue rest c ≡ c) × (waiting c ≡ []))
next_none None rest c e d = (ap (λ (q : List (List (List ℕ))). with_queue q c) (sym e), short_drop c.listening.hearing.queue rest e d)
next_none (Some m) rest c e d = tt

pub all_out : (queue ms rest : List (List (List ℕ))) → ms ≡ queue → rest ≡ [] → queue ≡ ms ++ rest
all_out queue ms rest e none = sym (ap (λ (r : List (List (List ℕ))). ms ++ r) none ∙ append-nil ms ∙ e)

-- ---- runs

abbrev pub talking : Listening → Output → Conversation
talking l o = record { listening = l; output = o }

-- an engine before the first octet
pub begins_past : (opts : EngineOpts) (l : Listening) → IsEngineOpts opts → ListensTo opts [] [] l → IsSettledNow l → Follows (no_past opts) (talking l (record { begun = 0; run = []; later = None }))
begins_past opts l h k settled =
    let m = means opts [] [] l k settled in
    let first : Decoded = at_greeting (Unfinished 0) in
    let same : m.0 ≡ first = one_meaning opts [] m.0 first m.1.decodes (greeting_unfinished refl refl) in
    record {
      opts = h;
      listens = k;
      commands = [];
      messages = [];
      put = refl;
      modest = none_modest;
      said = sym m.1.said ∙ ap (λ (d : Decoded). octets_said opts d) same;
      within = omega arith;
      all = refl;
      idle = λ e. (refl, refl);
    }

-- a run is begun behind what was said
pub begins_as : (p : Past) (l : Listening) (o new : Output) (said : List ℕ) → said ≡ said_now l → new ≡ begun_run said o → Follows p (talking l o) → Follows p (talking l new)
begins_as p l o new said e is f =
    subst (λ (x : Output). Follows p (talking l x)) (sym (is ∙ ap (λ (s : List ℕ). begun_run s o) e)) (begins p (talking l o) f)

-- nothing is left where nothing is lent
pub spent_by : (l : Listening) (o : Output) (said : List ℕ) → said ≡ said_now l → (o.run ≡ [] → (o.begun ≡ length said) × (o.later ≡ None)) → o.run ≡ [] → IsSpent (talking l o)
spent_by l o said e spent none =
    let s = spent none in
    let over : drop o.begun (said_now l) ≡ [] = drop_all o.begun (said_now l) (omega (arith, s.0, ap (λ (x : List ℕ). length x) e)) in
    record {
      unwritten = ap (λ (r : List ℕ). r ++ octets_left (said_now l) o) none ∙ ap (λ (d : List ℕ). d ++ joined (pieces_in o.later)) over ∙ ap (λ (x : Option (List (List ℕ))). joined (pieces_in x)) s.1;
      idle = s.1;
    }

no_left : (a b : List ℕ) → a ++ b ≡ [] → (a ≡ []) × (b ≡ [])
no_left [] b e = (refl, e)
no_left (x ∷ a) b e = absurd cc

all_begun : (c : Conversation) → c.output.begun ≤ length (said_now c.listening) → IsSpent c → c.output.begun ≡ length (said_now c.listening)
all_begun c le s =
    let rest = (no_left c.output.run (octets_left (said_now c.listening) c.output) s.unwritten).1 in
    let over = (no_left (drop c.output.begun (said_now c.listening)) (joined (pieces_in c.output.later)) rest).0 in
    omega (arith, le, ap (λ (l : List ℕ). length l) over, length-drop c.output.begun (said_now c.listening))

abbrev begun_of : List ℕ → List ℕ → Option (List (List ℕ)) → Output
begun_of said d later = record {
  begun = length said;
  run = (next_run (piece_of d ++ pieces_in later)).octets;
  later = after_run (next_run (piece_of d ++ pieces_in later)) later;
}

still_at : (run said : List ℕ) (o : Output) → o.run ≡ run → (o.run ≡ [] → (o.begun ≡ length said) × (o.later ≡ None)) → begun_at run said o ≡ o
still_at [] said o e spent =
    let s = spent e in
    let over : drop o.begun said ≡ [] = drop_all o.begun said (omega (arith, s.0)) in
    ap (λ (d : List ℕ). begun_of said d o.later) over ∙ ap (λ (x : Option (List (List ℕ))). begun_of said [] x) s.1
    ∙ ap (λ (n : ℕ). record { begun = n; run = []; later = None }) (sym s.0) ∙ ap (λ (r : List ℕ). record { begun = o.begun; run = r; later = None }) (sym e)
    ∙ ap (λ (x : Option (List (List ℕ))). record { begun = o.begun; run = o.run; later = x }) (sym s.1)
still_at (x ∷ run) said o e spent = refl

-- where nothing is left to begin, all stays as it is
pub still_begun : (c : Conversation) → c.output.begun ≤ length (said_now c.listening) → (c.output.run ≡ [] → IsSpent c) → begun_run (said_now c.listening) c.output ≡ c.output
still_begun c le lends =
    still_at c.output.run (said_now c.listening) c.output refl (λ e. (all_begun c le (lends e), (lends e).idle))

pub if_refused : (r : Option Refusal) (P Q : Type 0) → (P → Q) → IfSome r (λ _. P) → IfSome r (λ _. Q)
if_refused None P Q f k = tt
if_refused (Some x) P Q f k = f k

-- a feed that changes nothing begins nothing
pub feeds_nothing : (l m : Listening) (o new : Output) (said : List ℕ) (c : Conversation) → c.output.begun ≤ length (said_now c.listening) → (c.output.run ≡ [] → IsSpent c) → talking m o ≡ c → l ≡ m → said ≡ said_now l → new ≡ begun_run said o → talking l new ≡ c
feeds_nothing l m o new said c le lends is same e n =
    let o_is : o ≡ c.output = ap (λ (x : Conversation). x.output) is in
    let l_is : l ≡ c.listening = same ∙ ap (λ (x : Conversation). x.listening) is in
    let new_is : new ≡ c.output = n ∙ ap (λ (s : List ℕ). begun_run s o) (e ∙ ap said_now l_is) ∙ ap (λ (x : Output). begun_run (said_now c.listening) x) o_is ∙ still_begun c le lends in
    ap (λ (x : Listening). talking x new) l_is ∙ ap (λ (x : Output). talking c.listening x) new_is

-- ---- offers

pub some_later : (o : Option Sending) → is_some o ≡ true → IsSome (later_in o)
some_later None e = absurd cc
some_later (Some s) e = refl

pub none_sending : (o : Option Sending) → is_some o ≡ false → o ≡ None
none_sending None e = refl
none_sending (Some s) e = absurd cc
