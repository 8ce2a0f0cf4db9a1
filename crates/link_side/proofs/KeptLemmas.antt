-- How acts at a link add to what is kept of it.
use Rattle.std.proofs.Common.{◌≡◌, ℕ, ◌+◌, ◌-◌, ◌≤◌, List, [], ◌∷◌, ◌++◌, length, take, drop, Option, Some, None, refl, sym, ap, subst, ◌∙◌, append_assoc, arith}
use Rattle.std.specs.List.{flat_map}
use Rattle.std.specs.Option.{option_to_list}
use Rattle.std.proofs.lemmas.List.{append-nil, length-append, length-take, take-append-drop, drop-take, drop-drop}
use Rattle.std.proofs.lemmas.List.Concat.{flat_map-append}
use Rattle.zq_base.specs.Message.{Frames}
use Rattle.zq_base.specs.declared.options.EngineOpts.{EngineOpts}
use Rattle.spec_zmtp.specs.declared.command.Command.{Command}
use Rattle.spec_zmtp.specs.Put.{Put, Sends, message_in, messages_in, says}
use Rattle.zmtp_engine.specs.Conversation.{Past, Conversation, Follows, fed, gave, took, wrote}
use Rattle.spec_link.specs.LinkAct.{LinkAct, said_by, heard_by, offered_by, put_by, said_of, put_of}
use Rattle.spec_link.specs.Rows.{count_of}
use Rattle.link_side.specs.Kept.{Kept, past_by, HasRun, IsAlive, Acts}

-- ---- one act more

-- what it adds
pub one_more : {A : Type 0} (f : LinkAct → List A) (acts : List LinkAct) (a : LinkAct) (more : List A) → f a ≡ more → flat_map f (acts ++ a ∷ []) ≡ flat_map f acts ++ more
one_more f acts a more e = flat_map-append f acts (a ∷ []) ∙ ap (λ (l : List _). flat_map f acts ++ l) (append-nil (f a) ∙ e)

-- where it adds nothing
pub none_more : {A : Type 0} (f : LinkAct → List A) (acts : List LinkAct) (a : LinkAct) → f a ≡ [] → flat_map f (acts ++ a ∷ []) ≡ flat_map f acts
none_more f acts a e = one_more f acts a [] e ∙ append-nil (flat_map f acts)

-- the same past, written in another way
pub moved : (opts : EngineOpts) (h h' : List ℕ) (g g' : List Frames) (o : List Put) (w w' : List ℕ) (c : Conversation) → h ≡ h' → g ≡ g' → w ≡ w'
    → Follows (record { opts = opts; heard = h; given = g; put = o; written = w }) c → Follows (record { opts = opts; heard = h'; given = g'; put = o; written = w' }) c
moved opts h h' g g' o w w' c eh eg ew f =
    subst (λ (x : List ℕ). Follows (record { opts = opts; heard = x; given = g'; put = o; written = w' }) c) eh
    (subst (λ (x : List Frames). Follows (record { opts = opts; heard = h; given = x; put = o; written = w' }) c) eg
    (subst (λ (x : List ℕ). Follows (record { opts = opts; heard = h; given = g; put = o; written = x }) c) ew f))

-- what the engine's past is after an act that puts and offers nothing
still_given : (acts : List LinkAct) (a : LinkAct) (held held' : Option Frames) → put_by a ≡ [] → held' ≡ held → put_of acts ++ option_to_list held ≡ put_of (acts ++ a ∷ []) ++ option_to_list held'
still_given acts a held held' ep eh =
    ap (λ (l : List Frames). l ++ option_to_list held) (sym (none_more put_by acts a ep)) ∙ ap (λ (o : Option Frames). put_of (acts ++ a ∷ []) ++ option_to_list o) (sym eh)

-- what went through, where an act puts nothing, and where it puts a message
still_through : (acts : List LinkAct) (a : LinkAct) (n n' : ℕ) → put_by a ≡ [] → n' ≡ n → n ≡ count_of (length (put_of acts)) → n' ≡ count_of (length (put_of (acts ++ a ∷ [])))
still_through acts a n n' ep et r = et ∙ r ∙ ap (λ (l : List Frames). count_of (length l)) (sym (none_more put_by acts a ep))

one_through : (acts : List LinkAct) (a : LinkAct) (m : Frames) (n n' : ℕ) → put_by a ≡ m ∷ [] → n' ≡ count_of (n + 1) → n ≡ count_of (length (put_of acts)) → n' ≡ count_of (length (put_of (acts ++ a ∷ [])))
one_through acts a m n n' ep et r =
    let k = length (put_of acts) in
    let more : length (put_of acts ++ m ∷ []) ≡ k + 1 = length-append (put_of acts) (m ∷ []) in
    let sum : count_of (count_of k + 1) ≡ count_of (k + 1) = omega arith in
    et ∙ ap (λ (x : ℕ). count_of (x + 1)) r ∙ sum ∙ ap count_of (sym more) ∙ ap (λ (l : List Frames). count_of (length l)) (sym (one_more put_by acts a (m ∷ []) ep))

-- ---- the steps

-- a write: these octets are said, and nothing else changes
pub run_said : (opts : EngineOpts) (acts : List LinkAct) (a : LinkAct) (octets : List ℕ) (old new : Kept)
    → said_by a ≡ octets → heard_by a ≡ [] → offered_by a ≡ [] → put_by a ≡ [] → new.unfed ≡ old.unfed → new.held ≡ old.held → new.through ≡ old.through
    → ((p : Past) → Follows p old.engine → Follows (wrote octets p) new.engine) → HasRun opts acts old → HasRun opts (acts ++ a ∷ []) new
run_said opts acts a octets old new es eh eo ep eu ed et f r = record {
  heard = r.heard;
  split = ap (λ (l : List ℕ). r.heard ++ l) eu ∙ r.split ∙ sym (none_more heard_by acts a eh);
  put = r.put;
  offered = r.offered ∙ sym (none_more offered_by acts a eo);
  through_is = still_through acts a old.through new.through ep et r.through_is;
  follows = moved opts r.heard r.heard (put_of acts ++ option_to_list old.held) (put_of (acts ++ a ∷ []) ++ option_to_list new.held) r.put
      (said_of acts ++ octets) (said_of (acts ++ a ∷ [])) new.engine refl (still_given acts a old.held new.held ep ed) (sym (one_more said_by acts a octets es))
      (f (past_by opts acts r.heard old.held r.put) r.follows);
}

-- writing nothing adds nothing
pub wrote_nothing : (p : Past) (c : Conversation) → Follows p c → Follows (wrote [] p) c
wrote_nothing p c f = subst (λ (x : List ℕ). Follows (record p { written = x }) c) (sym (append-nil p.written)) f

-- an act without octets and messages
pub run_still : (opts : EngineOpts) (acts : List LinkAct) (a : LinkAct) (old new : Kept)
    → said_by a ≡ [] → heard_by a ≡ [] → offered_by a ≡ [] → put_by a ≡ [] → new.unfed ≡ old.unfed → new.held ≡ old.held → new.through ≡ old.through → new.engine ≡ old.engine
    → HasRun opts acts old → HasRun opts (acts ++ a ∷ []) new
run_still opts acts a old new es eh eo ep eu ed et ee r =
    run_said opts acts a [] old new es eh eo ep eu ed et (λ p k. wrote_nothing p new.engine (subst (λ (c : Conversation). Follows p c) (sym ee) k)) r

-- a read: what is unfed is what the link gave
pub run_read : (opts : EngineOpts) (acts : List LinkAct) (a : LinkAct) (old new : Kept)
    → said_by a ≡ [] → heard_by a ≡ new.unfed → offered_by a ≡ [] → put_by a ≡ [] → old.unfed ≡ [] → new.held ≡ old.held → new.through ≡ old.through → new.engine ≡ old.engine
    → HasRun opts acts old → HasRun opts (acts ++ a ∷ []) new
run_read opts acts a old new es eh eo ep eu ed et ee r = record {
  heard = r.heard;
  split = ap (λ (l : List ℕ). l ++ new.unfed) (sym (append-nil r.heard) ∙ ap (λ (l : List ℕ). r.heard ++ l) (sym eu) ∙ r.split) ∙ sym (one_more heard_by acts a new.unfed eh);
  put = r.put;
  offered = r.offered ∙ sym (none_more offered_by acts a eo);
  through_is = still_through acts a old.through new.through ep et r.through_is;
  follows = moved opts r.heard r.heard (put_of acts ++ option_to_list old.held) (put_of (acts ++ a ∷ []) ++ option_to_list new.held) r.put
      (said_of acts) (said_of (acts ++ a ∷ [])) new.engine refl (still_given acts a old.held new.held ep ed) (sym (none_more said_by acts a es))
      (subst (λ (c : Conversation). Follows (past_by opts acts r.heard old.held r.put) c) (sym ee) r.follows);
}

-- commands are no messages
pub says_none : (cs : List Command) → messages_in (says cs) ≡ []
says_none [] = refl
says_none (c ∷ cs) = says_none cs

-- a feed: a front of what was unfed is heard
pub run_fed : (opts : EngineOpts) (acts : List LinkAct) (piece : List ℕ) (old new : Kept)
    → piece ++ new.unfed ≡ old.unfed → new.held ≡ old.held → new.through ≡ old.through
    → ((p : Past) → Follows p old.engine → (commands : List Command) × Follows (fed piece commands p) new.engine) → HasRun opts acts old → HasRun opts (acts ++ []) new
run_fed opts acts piece old new eu ed et f r =
    let k = f (past_by opts acts r.heard old.held r.put) r.follows in
    subst (λ (l : List LinkAct). HasRun opts l new) (sym (append-nil acts)) (record {
      heard = r.heard ++ piece;
      split = append_assoc r.heard piece new.unfed ∙ ap (λ (l : List ℕ). r.heard ++ l) eu ∙ r.split;
      put = r.put ++ says k.0;
      offered = flat_map-append message_in r.put (says k.0) ∙ ap (λ (l : List Frames). messages_in r.put ++ l) (says_none k.0) ∙ append-nil (messages_in r.put) ∙ r.offered;
      through_is = et ∙ r.through_is;
      follows = subst (λ (o : Option Frames). Follows (past_by opts acts (r.heard ++ piece) o (r.put ++ says k.0)) new.engine) (sym ed) k.1;
    })

-- a message taken from the pipe is offered
pub run_fetched : (opts : EngineOpts) (acts : List LinkAct) (a : LinkAct) (m : Frames) (old new : Kept)
    → said_by a ≡ [] → heard_by a ≡ [] → offered_by a ≡ m ∷ [] → put_by a ≡ [] → new.unfed ≡ old.unfed → new.held ≡ old.held → new.through ≡ old.through
    → ((p : Past) → Follows p old.engine → Follows (took m p) new.engine) → HasRun opts acts old → HasRun opts (acts ++ a ∷ []) new
run_fetched opts acts a m old new es eh eo ep eu ed et f r = record {
  heard = r.heard;
  split = ap (λ (l : List ℕ). r.heard ++ l) eu ∙ r.split ∙ sym (none_more heard_by acts a eh);
  put = r.put ++ Sends m ∷ [];
  offered = flat_map-append message_in r.put (Sends m ∷ []) ∙ ap (λ (l : List Frames). l ++ m ∷ []) r.offered ∙ sym (one_more offered_by acts a (m ∷ []) eo);
  through_is = still_through acts a old.through new.through ep et r.through_is;
  follows = moved opts r.heard r.heard (put_of acts ++ option_to_list old.held) (put_of (acts ++ a ∷ []) ++ option_to_list new.held) (r.put ++ Sends m ∷ [])
      (said_of acts) (said_of (acts ++ a ∷ [])) new.engine refl (still_given acts a old.held new.held ep ed) (sym (none_more said_by acts a es))
      (f (past_by opts acts r.heard old.held r.put) r.follows);
}

-- a message is held
pub run_held : (opts : EngineOpts) (acts : List LinkAct) (m : Frames) (old new : Kept) → new.unfed ≡ old.unfed → old.held ≡ None → new.held ≡ Some m → new.through ≡ old.through
    → ((p : Past) → Follows p old.engine → Follows (gave (m ∷ []) p) new.engine) → HasRun opts acts old → HasRun opts (acts ++ []) new
run_held opts acts m old new eu eo en et f r =
    subst (λ (l : List LinkAct). HasRun opts l new) (sym (append-nil acts)) (record {
      heard = r.heard;
      split = ap (λ (l : List ℕ). r.heard ++ l) eu ∙ r.split;
      put = r.put;
      offered = r.offered;
      through_is = et ∙ r.through_is;
      follows = moved opts r.heard r.heard ((put_of acts ++ option_to_list old.held) ++ m ∷ []) (put_of acts ++ option_to_list new.held) r.put
          (said_of acts) (said_of acts) new.engine refl
          (ap (λ (o : Option Frames). (put_of acts ++ option_to_list o) ++ m ∷ []) eo ∙ ap (λ (l : List Frames). l ++ m ∷ []) (append-nil (put_of acts))
          ∙ ap (λ (o : Option Frames). put_of acts ++ option_to_list o) (sym en))
          refl (f (past_by opts acts r.heard old.held r.put) r.follows);
    })

-- the message that is held is put
pub run_put : (opts : EngineOpts) (acts : List LinkAct) (a : LinkAct) (m : Frames) (old new : Kept)
    → said_by a ≡ [] → heard_by a ≡ [] → offered_by a ≡ [] → put_by a ≡ m ∷ [] → new.unfed ≡ old.unfed → old.held ≡ Some m → new.held ≡ None → new.through ≡ count_of (old.through + 1) → new.engine ≡ old.engine
    → HasRun opts acts old → HasRun opts (acts ++ a ∷ []) new
run_put opts acts a m old new es eh eo ep eu ed en et ee r = record {
  heard = r.heard;
  split = ap (λ (l : List ℕ). r.heard ++ l) eu ∙ r.split ∙ sym (none_more heard_by acts a eh);
  put = r.put;
  offered = r.offered ∙ sym (none_more offered_by acts a eo);
  through_is = one_through acts a m old.through new.through ep et r.through_is;
  follows = moved opts r.heard r.heard (put_of acts ++ option_to_list old.held) (put_of (acts ++ a ∷ []) ++ option_to_list new.held) r.put
      (said_of acts) (said_of (acts ++ a ∷ [])) new.engine refl
      (ap (λ (o : Option Frames). put_of acts ++ option_to_list o) ed ∙ sym (one_more put_by acts a (m ∷ []) ep) ∙ sym (append-nil (put_of (acts ++ a ∷ [])))
      ∙ ap (λ (o : Option Frames). put_of (acts ++ a ∷ []) ++ option_to_list o) (sym en))
      (sym (none_more said_by acts a es))
      (subst (λ (c : Conversation). Follows (past_by opts acts r.heard old.held r.put) c) (sym ee) r.follows);
}

-- ---- many acts

-- acts behind acts
pub acts_on : (a b c : Kept) (xs ys : List LinkAct) → Acts a xs b → Acts b ys c → Acts a (xs ++ ys) c
acts_on a b c xs ys f g = λ opts acts r. subst (λ (l : List LinkAct). HasRun opts l c) (append_assoc acts xs ys) (g opts (acts ++ xs) (f opts acts r))

-- the same acts
pub acts_same : (a b : Kept) (xs ys : List LinkAct) → xs ≡ ys → Acts a xs b → Acts a ys b
acts_same a b xs ys e f = subst (λ (l : List LinkAct). Acts a l b) e f

-- who was alive is
pub stays_alive : (a b : Kept) (xs : List LinkAct) → Acts a xs b → IsAlive a → IsAlive b
stays_alive a b xs f alive = (alive.0, alive.1 ++ xs, f alive.0 alive.1 alive.2)

-- nothing was done
pub no_acts : (a : Kept) → Acts a [] a
no_acts a = λ opts acts r. subst (λ (l : List LinkAct). HasRun opts l a) (sym (append-nil acts)) r

-- ---- the buffer

take_none : {A : Type 0} (l : List A) → take 0 l ≡ []
take_none [] = refl
take_none (x ∷ xs) = refl

pub take_some : {A : Type 0} (n : ℕ) (l : List A) → n ≡ 0 → take n l ≡ []
take_some n l e = ap (λ (k : ℕ). take k l) e ∙ take_none l

-- where all is fed, nothing is unfed
pub unfed_none : (items : List ℕ) (fed read : ℕ) → fed ≡ read → take (read - fed) (drop fed items) ≡ []
unfed_none items fed read e = take_some (read - fed) (drop fed items) (omega (arith, e))

-- all of it is fed
pub fed_all : (items : List ℕ) (fed read : ℕ) → take (read - fed) (drop fed items) ++ take (read - read) (drop read items) ≡ take (read - fed) (drop fed items)
fed_all items fed read =
    ap (λ (l : List ℕ). take (read - fed) (drop fed items) ++ l) (take_some (read - read) (drop read items) (omega arith)) ∙ append-nil (take (read - fed) (drop fed items))

-- a front of it is fed
pub fed_front : (items : List ℕ) (fed read k : ℕ) → fed ≤ read → k ≤ read - fed
    → take k (take (read - fed) (drop fed items)) ++ take (read - (fed + k)) (drop (fed + k) items) ≡ take (read - fed) (drop fed items)
fed_front items fed read k le within =
    let l = drop fed items in
    let m = read - (fed + k) in
    let n : read - fed ≡ k + m = omega (arith, le, within) in
    let rest : drop k (take (read - fed) l) ≡ take m (drop (fed + k) items) =
    ap (λ (x : ℕ). drop k (take x l)) n ∙ drop-take k m l ∙ ap (λ (x : List ℕ). take m x) (drop-drop k fed items) in
    ap (λ (x : List ℕ). take k (take (read - fed) l) ++ x) (sym rest) ∙ take-append-drop k (take (read - fed) l)

-- no more than was offered is taken
pub front_within : (l : List ℕ) (n k : ℕ) → k ≤ length (take n l) → k ≤ n
front_within l n k le = omega (arith, le, length-take n l)
