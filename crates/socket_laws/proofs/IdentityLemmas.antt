-- The identities that a control run tells are such as a peer may say.
use Rattle.std.specs.Prelude.{◌≡◌, ◌+◌, ◌==◌, ℕ, Bool, true, false, cond, if◌then◌else◌, List, [], ◌∷◌, ◌++◌, Option, Some, None, All, filter, map, refl}
use Rattle.std.proofs.Common.{sym, subst}
use Rattle.std.proofs.lemmas.List.Elements.{All-nil, All-cons, All-head, All-tail}
use Rattle.zq_base.specs.declared.ids.EndId.{EndId}
use Rattle.zq_base.specs.declared.endpoint.Endpoint.TheVariants.{Inproc, Tcp}
use Rattle.spec_control.specs.declared.book.Binding.{Binding}
use Rattle.spec_control.specs.declared.book.Waiting.{Waiting}
use Rattle.spec_control.specs.declared.end.Reason.TheVariants.{Closed, BadId, Second, Linger, Link}
use Rattle.spec_control.specs.declared.letter.Letter.{Letter}
use Rattle.spec_control.specs.declared.letter.Word.{Word}
use Rattle.spec_control.specs.declared.letter.Word.TheVariants.{Own, Plug, TermReq, Term, TermAck, PipeBind, PipeTerm, PipeTermAck, Stop, Reap}
use Rattle.spec_control.specs.declared.entry.Joining.{Joining}
use Rattle.spec_control.specs.declared.entry.Did.{Did}
use Rattle.spec_control.specs.declared.entry.Did.TheVariants.{Asked, Delivered, Delimited}
use Rattle.spec_control.specs.declared.entry.Item.{Item}
use Rattle.spec_control.specs.declared.entry.Item.TheVariants.{Event, Seen}
use Rattle.spec_control.specs.declared.request.Req.{Req}
use Rattle.spec_control.specs.declared.request.Req.TheVariants.{Socket as MakeSocket, AskTerm, Bind, Connect, Unbind, Disconnect, Close, Accepted, Shaken, AskEnd, AskOver, OutputOver}
use Rattle.spec_control.specs.declared.request.Reply.{Reply}
use Rattle.spec_control.specs.declared.request.Reply.TheVariants.{Done, Object, Pair, Both, Wait, Asked as WasAsked, Before, Refused}
use Rattle.spec_control.specs.Register.{fulfilled_by}
use Rattle.spec_control.specs.PairPhase.{behind_first}
use Rattle.spec_control.specs.Row.{Row, nobody}
use Rattle.spec_control.specs.Rows.{obj}
use Rattle.spec_control.specs.Control.{Control, begun, with_value, end_of, next_pair}
use Rattle.spec_control.specs.After.{after, binding_by, pair_or_none}
use Rattle.spec_control.specs.ControlRun.{Fits, FitsItem, Joins, bind_joins, connect_joins, request_joins, unless_refused, word_joins, after_all, IsControlRun}
use Rattle.control_laws.proofs.ListLemmas.{never, pushed, is_old, is_new}
use Rattle.control_laws.specs.Kept.{Kept}
use Rattle.control_laws.proofs.RunLemmas.{after_kept}
use Rattle.control_laws.specs.Move.{Move, LinkMoves, EndMoves, ObjectEnds, ObjectMade, PairDrawn, LetterPut, is_named}
use Rattle.control_laws.specs.OwnMoves.{join_moves, fulfil_moves, connect_moves, request_moves, word_moves, own_moves, having_taken}
use Rattle.control_laws.proofs.EventGoLemmas.{event_goes}
use Rattle.desk.specs.Joins.{come_by}
use Rattle.desk.specs.Desk.{came_with}
use Rattle.router_dealer.specs.Named.{IsIdentity}
use Rattle.socket_laws.specs.Bounds.{TellsIdentity, TellsIdentityIn, TellIdentities}
use Rattle.socket_laws.proofs.SayLemmas.{SaysSo, AllSay, Says, Makes, AllMake, none_says, leads_say}

-- ---- the moves that an event has of its own tell it
free_makes : (m : Move) → is_named m ≡ false → Makes m
free_makes (LinkMoves i event) h = tt
free_makes (EndMoves e event) h = tt
free_makes (ObjectEnds i) h = tt
free_makes (ObjectMade row) h = absurd (never (sym h))
free_makes (PairDrawn a b) h = tt
free_makes (LetterPut to word) h = absurd (never (sym h))

make_own : (ms : List Move) → AllMake (filter is_named ms) → AllMake ms
make_own [] all = tt
make_own (m ∷ ms) all = by (is_named m) refl (make_own ms) all
  where
    by : (x : Bool) → is_named m ≡ x → (AllMake (filter is_named ms) → AllMake ms) → AllMake (cond x (m ∷ filter is_named ms) (filter is_named ms)) → AllMake (m ∷ ms)
    by true h rest a = (a.0, rest a.1)
    by false h rest a = (free_makes m h, rest a)

module _ (c : Control) (says : (i : ℕ) → IsIdentity (obj c.rows i).options.id) where
  make_append : (xs ys : List Move) → AllMake xs → AllMake ys → AllMake (xs ++ ys)
  make_append [] ys one two = two
  make_append (x ∷ xs) ys one two = (one.0, make_append xs ys one.1 two)

  make_joins : (k connecting bound : ℕ) (a_first : Bool) → AllMake (join_moves c k connecting bound a_first)
  make_joins k connecting bound a_first = (tt, (tt, (says (cond a_first connecting bound), tt)))

  make_fulfil : (i k : ℕ) (ws : List Waiting) → AllMake (fulfil_moves c i k ws)
  make_fulfil i k [] = tt
  make_fulfil i k (w ∷ ws) = make_append (join_moves c k w.waiter.0 i false) (fulfil_moves c i (k + 1) ws) (make_joins k w.waiter.0 i false) (make_fulfil i (k + 1) ws)

  make_connect : (i : ℕ) (held : Option Binding) → AllMake (connect_moves c i held)
  make_connect i None = tt
  make_connect i (Some binding) = make_joins (next_pair c) i binding.holder.0 true

  make_request : (req : Req) → TellsIdentity req → AllMake (request_moves c req)
  make_request (MakeSocket kind options) is = (is, tt)
  make_request AskTerm is = (tt, tt)
  make_request (Bind o (Inproc name)) is = make_fulfil o.0 (next_pair c) (fulfilled_by (Inproc name) (binding_by o.0 c) c.names)
  make_request (Bind o (Tcp address)) is = (says o.0, (tt, (tt, tt)))
  make_request (Connect o (Inproc name)) is = make_connect o.0 (c.names.held (Inproc name))
  make_request (Connect o (Tcp address)) is = (says o.0, (tt, (tt, (tt, (tt, tt)))))
  make_request (Unbind o at) is = tt
  make_request (Disconnect o at) is = tt
  make_request (Close o) is = (tt, tt)
  make_request (Accepted o) is = (says o.0, (tt, (tt, tt)))
  make_request (Shaken o peer) is = (tt, (is, tt))
  make_request (AskEnd e Closed) is = tt
  make_request (AskEnd e BadId) is = tt
  make_request (AskEnd e Second) is = tt
  make_request (AskEnd e Linger) is = (tt, tt)
  make_request (AskEnd e Link) is = (tt, tt)
  make_request (AskOver o) is = (tt, tt)
  make_request (OutputOver o) is = tt

  make_asked : (reply : Reply) (ms : List Move) → AllMake ms → AllMake (unless_refused reply ms)
  make_asked Done ms all = all
  make_asked (Object o) ms all = all
  make_asked (Pair p) ms all = all
  make_asked (Both o p) ms all = all
  make_asked Wait ms all = all
  make_asked WasAsked ms all = all
  make_asked Before ms all = tt
  make_asked (Refused refusal) ms all = tt

make_word : (to : ℕ) (word : Word) → AllMake (word_moves to word)
make_word to (Own child) = (tt, tt)
make_word to (Plug None) = (tt, tt)
make_word to (Plug (Some e)) = (tt, (tt, tt))
make_word to (TermReq child) = (tt, tt)
make_word to Term = (tt, tt)
make_word to (TermAck child) = (tt, tt)
make_word to (PipeBind e peer) = (tt, tt)
make_word to (PipeTerm e) = (tt, tt)
make_word to (PipeTermAck e) = (tt, tt)
make_word to Stop = (tt, tt)
make_word to (Reap socket) = (tt, tt)

behind_says : (ls : List Letter) → AllSay ls → AllSay (behind_first ls)
behind_says [] all = all
behind_says (l ∷ ls) all = All-tail (λ x. SaysSo x.word) l ls all

module _ {N S : Type 0} where
  make_did : (c : Control) → ((i : ℕ) → IsIdentity (obj c.rows i).options.id) → (did : Did N S) → TellsIdentityIn did → AllMake (own_moves c did)
  make_did c says (Asked req reply h) is = make_asked c says reply (request_moves c req) (make_request c says req is)
  make_did c says (Delivered slot letter h) is = make_word letter.to.0 letter.word
  make_did c says (Delimited e h) is = (tt, tt)

  taken_says : (c : Control) (did : Did N S) → Says c.rows c.boxes → Says (having_taken did c).rows (having_taken did c).boxes
  taken_says c (Asked req reply h) says = says
  taken_says c (Delivered slot letter h) says = record { rows = says.rows; boxes_say = now }
    where
      now : (m : ℕ) → AllSay (with_value slot.0 (behind_first (c.boxes slot.0)) c.boxes m)
      now m = by (m == slot.0)
        where
          by : (b : Bool) → AllSay (if b then behind_first (c.boxes slot.0) else c.boxes m)
          by true = behind_says (c.boxes slot.0) (says.boxes_say slot.0)
          by false = says.boxes_say m
  taken_says c (Delimited e h) says = says

  says_after : (c : Control) (did : Did N S) → Kept c → Fits c did → TellsIdentityIn did → Says c.rows c.boxes → Says (after did c).rows (after did c).boxes
  says_after c did kept fits_so is says =
      let g = event_goes c did kept fits_so in
      leads_say g.moves (having_taken did c).rows (having_taken did c).boxes (after did c) g.leads (make_own g.moves (subst AllMake (sym g.own_are) (make_did c says.rows did is))) (taken_says c did says)

  pub says_over : (items : List (Item N S)) (c : Control) → Kept c → IsControlRun c items → TellIdentities items → Says c.rows c.boxes → Says (after_all items c).rows (after_all items c).boxes
  says_over [] c kept run tell says = says
  says_over (Event entry ∷ items) c kept run tell says = says_over items (after entry.did c) (after_kept c entry.did kept run.0) run.1 tell.1 (says_after c entry.did kept run.0 tell.0 says)
  says_over (Seen sight ∷ items) c kept run tell says = says_over items c kept run.1 tell says

pub begun_says : (io : ℕ) → Says (begun io).rows (begun io).boxes
begun_says io = record { rows = root; boxes_say = λ m. none_says }
  where
    root : (i : ℕ) → IsIdentity (obj (begun io).rows i).options.id
    root i =
        elim (pushed [] (obj (begun io).rows 0) nobody i) [
          | is_old was ↦ subst (λ (o : Row). IsIdentity o.options.id) (sym was) tt
          | is_new last now was ↦ subst (λ (o : Row). IsIdentity o.options.id) (sym now) tt
        ]

-- ---- the ends that join are told such identities
abbrev AllTell : List Joins → Type 0
AllTell js = All (λ j. IsIdentity j.peer) js

module _ (c : Control) (says : Says c.rows c.boxes) where
  one_tells : (e : EndId) (peer : List ℕ) → IsIdentity peer → AllTell (record { end = e; peer = peer; met = false } ∷ [])
  one_tells e peer is = All-cons (λ j. IsIdentity j.peer) (record { end = e; peer = peer; met = false }) [] is (All-nil (λ j. IsIdentity j.peer))

  binds_tell : (k : ℕ) (ws : List Waiting) → AllTell (bind_joins c k ws)
  binds_tell k [] = All-nil (λ j. IsIdentity j.peer)
  binds_tell k (w ∷ ws) = All-cons (λ j. IsIdentity j.peer) _ (bind_joins c (k + 1) ws) (says.rows w.waiter.0) (binds_tell (k + 1) ws)

  connects_tell : (held : Option Binding) → AllTell (connect_joins c held)
  connects_tell None = All-nil (λ j. IsIdentity j.peer)
  connects_tell (Some binding) = one_tells (end_of (next_pair c) true) (obj c.rows binding.holder.0).options.id (says.rows binding.holder.0)

  request_tells : (req : Req) → AllTell (request_joins c req)
  request_tells (Bind o (Inproc name)) = binds_tell (next_pair c) (fulfilled_by (Inproc name) (binding_by o.0 c) c.names)
  request_tells (Bind o (Tcp address)) = All-nil (λ j. IsIdentity j.peer)
  request_tells (Connect o (Inproc name)) = connects_tell (c.names.held (Inproc name))
  request_tells (Connect o (Tcp address)) = one_tells (end_of (next_pair c) true) [] tt
  request_tells (Shaken o peer) = one_tells (end_of (pair_or_none (obj c.rows o.0).pair) true) [] tt
  request_tells (MakeSocket kind options) = All-nil (λ j. IsIdentity j.peer)
  request_tells AskTerm = All-nil (λ j. IsIdentity j.peer)
  request_tells (Unbind o at) = All-nil (λ j. IsIdentity j.peer)
  request_tells (Disconnect o at) = All-nil (λ j. IsIdentity j.peer)
  request_tells (Close o) = All-nil (λ j. IsIdentity j.peer)
  request_tells (Accepted o) = All-nil (λ j. IsIdentity j.peer)
  request_tells (AskEnd e reason) = All-nil (λ j. IsIdentity j.peer)
  request_tells (AskOver o) = All-nil (λ j. IsIdentity j.peer)
  request_tells (OutputOver o) = All-nil (λ j. IsIdentity j.peer)

  asked_tells : (reply : Reply) (js : List Joins) → AllTell js → AllTell (unless_refused reply js)
  asked_tells Done js all = all
  asked_tells (Object o) js all = all
  asked_tells (Pair p) js all = all
  asked_tells (Both o p) js all = all
  asked_tells Wait js all = all
  asked_tells WasAsked js all = all
  asked_tells Before js all = All-nil (λ j. IsIdentity j.peer)
  asked_tells (Refused refusal) js all = All-nil (λ j. IsIdentity j.peer)

of_told : {N : Type 0} (js : List (Joining N)) → AllTell (map (λ j. let x : Joins = record { end = j.end; peer = j.peer; met = j.met } in x) js) → All (λ j. IsIdentity j.peer) js
of_told [] all = All-nil (λ j. IsIdentity j.peer)
of_told (j ∷ js) all =
    let rest = map (λ j. let x : Joins = record { end = j.end; peer = j.peer; met = j.met } in x) js in
    All-cons (λ x. IsIdentity x.peer) j js (All-head (λ x. IsIdentity x.peer) _ rest all) (of_told js (All-tail (λ x. IsIdentity x.peer) _ rest all))

-- what a command brings
word_tells : {N : Type 0} (c : Control) → Says c.rows c.boxes → (word : Word) (js : List (Joining N)) → SaysSo word → map (λ j. let x : Joins = record { end = j.end; peer = j.peer; met = j.met } in x) js ≡ word_joins c word → All (λ j. IsIdentity j.peer) (come_by word js)
word_tells c says (Own child) js so is = of_told js (subst AllTell (sym is) (All-nil (λ j. IsIdentity j.peer)))
word_tells c says (Plug None) js so is = of_told js (subst AllTell (sym is) (All-nil (λ j. IsIdentity j.peer)))
word_tells c says (Plug (Some e)) js so is = of_told js (subst AllTell (sym is) (one_tells c says e [] tt))
word_tells c says (TermReq child) js so is = of_told js (subst AllTell (sym is) (All-nil (λ j. IsIdentity j.peer)))
word_tells c says Term js so is = of_told js (subst AllTell (sym is) (All-nil (λ j. IsIdentity j.peer)))
word_tells c says (TermAck child) js so is = of_told js (subst AllTell (sym is) (All-nil (λ j. IsIdentity j.peer)))
word_tells c says (PipeBind e peer) js so is = of_told js (subst AllTell (sym is) (one_tells c says e peer so))
word_tells c says (PipeTerm e) js so is = of_told js (subst AllTell (sym is) (All-nil (λ j. IsIdentity j.peer)))
word_tells c says (PipeTermAck e) js so is = of_told js (subst AllTell (sym is) (All-nil (λ j. IsIdentity j.peer)))
word_tells c says Stop js so is = of_told js (subst AllTell (sym is) (All-nil (λ j. IsIdentity j.peer)))
word_tells c says (Reap socket) js so is = All-nil (λ j. IsIdentity j.peer)

front_says : (c : Control) → Says c.rows c.boxes → (slot : ℕ) (letter : Letter) (behind : List Letter) → c.boxes slot ≡ letter ∷ behind → SaysSo letter.word
front_says c says slot letter behind is = All-head (λ l. SaysSo l.word) letter behind (subst AllSay is (says.boxes_say slot))

module _ {N S : Type 0} (c : Control) (says : Says c.rows c.boxes) where
  did_tells : (did : Did N S) (b : ℕ) → Fits c did → All (λ j. IsIdentity j.peer) (came_with (Event (record { by = b; did = did })))
  did_tells (Asked req reply h) b fits_so = of_told h.joined (subst AllTell (sym fits_so.answered.joined) (asked_tells c says reply (request_joins c req) (request_tells c says req)))
  did_tells (Delivered slot letter h) b fits_so = word_tells c says letter.word h.joined (front_says c says slot.0 letter fits_so.may.behind fits_so.may.oldest) fits_so.answered.joined
  did_tells (Delimited e h) b fits_so = of_told h.joined (subst AllTell (sym fits_so.answered.joined) (All-nil (λ j. IsIdentity j.peer)))

  pub item_tells : (item : Item N S) → FitsItem c item → All (λ j. IsIdentity j.peer) (came_with item)
  item_tells (Event entry) fits_so = did_tells entry.did entry.by fits_so
  item_tells (Seen sight) fits_so = All-nil (λ j. IsIdentity j.peer)
