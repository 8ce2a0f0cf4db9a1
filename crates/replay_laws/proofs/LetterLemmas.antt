-- An event of an open socket is settled by what it found, by the socket's state, and by what it is.
use Rattle.std.specs.Prelude.{◌≡◌, ◌==◌, ◌&&◌, ◌||◌, ℕ, zero, suc, Bool, true, false, not, cond, List, [], ◌∷◌, Option, Some, None, All, filter, is_some, map, refl}
use Rattle.std.proofs.Common.{arith, sym, ap, ◌∙◌, subst}
use Rattle.std.proofs.lemmas.List.Elements.{All-head, All-tail, All-weaker}
use Rattle.zq_base.specs.declared.ids.EndId.{EndId}
use Rattle.zq_base.specs.declared.ids.ObjId.{ObjId}
use Rattle.spec_pattern.specs.Pattern.{Pattern}
use Rattle.spec_control.specs.declared.letter.Letter.{Letter}
use Rattle.spec_control.specs.declared.letter.Word.{Word}
use Rattle.spec_control.specs.declared.letter.Word.TheVariants.{Own, Plug, TermReq, Term, TermAck, PipeBind, PipeTerm, PipeTermAck, Stop, Reap}
use Rattle.spec_control.specs.declared.object.ObjKind.{ObjKind}
use Rattle.spec_control.specs.declared.object.ObjKind.TheVariants.{Root, Socket, Listener, Session}
use Rattle.spec_control.specs.declared.request.Req.{Req}
use Rattle.spec_control.specs.declared.request.Reply.{Reply}
use Rattle.spec_control.specs.declared.entry.Joining.{Joining}
use Rattle.spec_control.specs.declared.entry.Answered.{Answered}
use Rattle.spec_control.specs.declared.entry.Did.{Did}
use Rattle.spec_control.specs.declared.entry.Did.TheVariants.{Asked, Delivered}
use Rattle.spec_control.specs.declared.entry.Item.TheVariants.{Event}
use Rattle.spec_control.specs.Row.{is_socket, is_session, owner_fits, stage_fits, socket_fits}
use Rattle.spec_control.specs.Rows.{obj}
use Rattle.spec_control.specs.Stage.{is_alive, is_coming, is_used, is_unused}
use Rattle.spec_control.specs.Control.{Control, place_of, owner_of, ends_of}
use Rattle.zq_base.specs.declared.attached.Attached.TheVariants.{Yes}
use Rattle.spec_control.specs.After.{kind_answer, after}
use Rattle.spec_control.specs.ControlRun.{Fits, MayDeliver, LeavesOutput, Joins, joins_in, request_joins, word_joins, unless_refused, answer_of}
use Rattle.control_laws.proofs.ListLemmas.{never}
use Rattle.control_laws.proofs.StepLemmas.{inv_of}
use Rattle.control_laws.proofs.TellLemmas.{rows_of}
use Rattle.control_laws.proofs.EndLemmas.{kept_but}
use Rattle.control_laws.specs.Kept.{Kept}
use Rattle.control_laws.specs.Laws.{IsForLiving}
use Rattle.control_laws.proofs.RootLemmas.{runs_are_kept, delivered_to_living}
use Rattle.control_laws.specs.Coming.{MayCome}
use Rattle.control_laws.specs.OwnMoves.{own_moves, word_moves}
use Rattle.control_laws.proofs.GuardLemmas.{oldest_may_come}
use Rattle.control_laws.proofs.LeadLemmas.{attached_by}
use Rattle.control_laws.proofs.AttachedLemmas.{asked_ends}
use Rattle.spec_control.specs.Has.{acts_in_request}
use Rattle.control_laws.specs.Spared.{touched_in}
use Rattle.spec_control.specs.Moments.{Moment, left_by}
use Rattle.spec_run.specs.OpenSocket.{OpenSock, is_out, had_out, detach_all, attach_all, AreAnswered, stops, joins_of, sock_after}
use Rattle.replay_laws.specs.Blank.{blank, AnswerAlike, AreAlike, asked, delivered}
use Rattle.replay_laws.specs.Mailboxes.{HaveBoxes}
use Rattle.replay_laws.proofs.BlankLemmas.{counts_are_not_read}
use Rattle.replay_laws.proofs.SlotLemmas.{sockets_have_their_boxes}
use Rattle.replay_laws.proofs.WalkLemmas.{Reached}
use Rattle.replay_laws.proofs.OwnJoinLemmas.{attached_own}
use Rattle.replay_laws.proofs.AlikeLemmas.{as_joins, same_kinds, same_answers, request_joins_alike, word_joins_alike, settled_alike}

-- an open socket is a socket of the control plane, with its mailbox
pub record Sits (c : Control) (s : OpenSock) : Type 0 where
  pub socket : is_socket (obj c.rows s.object).kind ≡ true
  pub slot : (obj c.rows s.object).slot ≡ s.slot

-- ---- the owner of a socket is the root, which is no socket
right : (a b : Bool) → (a && b) ≡ true → b ≡ true
right true b h = h
right false b h = absurd (never h)

left : (a b : Bool) → (a && b) ≡ true → a ≡ true
left true b h = refl
left false b h = absurd (never h)

owner_of_socket : (kind : ObjKind) (owner : Option ℕ) (at : ℕ) → owner_fits kind owner ≡ true → is_socket kind ≡ true → owner ≡ Some at → at ≡ 0
owner_of_socket Root owner at fits is of = absurd (never is)
owner_of_socket (Socket kind) None at fits is of = absurd (never fits)
owner_of_socket (Socket kind) (Some zero) at fits is of = sym (some_same zero at of)
  where
    some_same : (x y : ℕ) → Some x ≡ Some y → x ≡ y
    some_same x y e = cc
owner_of_socket (Socket kind) (Some (suc n)) at fits is of = absurd (never fits)
owner_of_socket Listener owner at fits is of = absurd (never is)
owner_of_socket Session owner at fits is of = absurd (never is)

unowned_socket : (kind : ObjKind) (owner : Option ℕ) → owner_fits kind owner ≡ true → is_socket kind ≡ true → owner ≡ None → ⊥
unowned_socket Root owner fits is of = absurd (never is)
unowned_socket (Socket kind) None fits is of = absurd (never fits)
unowned_socket (Socket kind) (Some n) fits is of = cc
unowned_socket Listener owner fits is of = absurd (never is)
unowned_socket Session owner fits is of = absurd (never is)

not_session : (kind : ObjKind) → is_socket kind ≡ true → is_session kind ≡ false
not_session Root is = refl
not_session (Socket kind) is = refl
not_session Listener is = refl
not_session Session is = absurd (never is)

filter_all : {N : Type 0} (P : EndId → Bool) (js : List (Joining N)) (es : List EndId) → map (λ j. j.end) js ≡ es → All (λ e. P e ≡ true) es → filter (λ j. P j.end) js ≡ js
filter_all P [] es e all = refl
filter_all P (j ∷ js) [] e all = absurd (nope e)
  where
    nope : ◌≡◌ {A = List EndId} (j.end ∷ map (λ x. x.end) js) [] → ⊥
    nope f = cc
filter_all P (j ∷ js) (x ∷ es) e all =
    let head : ◌≡◌ {A = EndId} j.end x = cc in
    let tail : map (λ y. y.end) js ≡ es = cc in
    let first : P j.end ≡ true = ap P head ∙ All-head (λ y. P y ≡ true) x es all in
    let rest = filter_all P js es tail (All-tail (λ y. P y ≡ true) x es all) in
    ap (λ (b : Bool). cond b (j ∷ filter (λ y. P y.end) js) (filter (λ y. P y.end) js)) first ∙ ap (λ l. j ∷ l) rest

owns_all : (owner : EndId → ℕ) (i : ℕ) (es : List EndId) → All (λ e. owner e ≡ i) es → All (λ e. (owner e == i) ≡ true) es
owns_all owner i es all = All-weaker (λ e. owner e ≡ i) (λ e. (owner e == i) ≡ true) (λ e is. one (owner e) is) es all
  where
    one : (n : ℕ) → n ≡ i → (n == i) ≡ true
    one n e = grind arith

pub ends_of_word : (word : Word) (c : Control) (at : ℕ) → ((socket : ObjId) → word ≡ Reap socket → ⊥) → map (λ j. j.end) (word_joins c word) ≡ attached_by (word_moves at word)
ends_of_word (Own child) c at none = refl
ends_of_word (Plug None) c at none = refl
ends_of_word (Plug (Some e)) c at none = refl
ends_of_word (TermReq child) c at none = refl
ends_of_word Term c at none = refl
ends_of_word (TermAck child) c at none = refl
ends_of_word (PipeBind e peer) c at none = refl
ends_of_word (PipeTerm e) c at none = refl
ends_of_word (PipeTermAck e) c at none = refl
ends_of_word Stop c at none = refl
ends_of_word (Reap socket) c at none = absurd (none socket refl)

pub ends_as : {N : Type 0} (js : List (Joining N)) (xs : List Joins) → map as_joins js ≡ xs → map (λ j. j.end) js ≡ map (λ j. j.end) xs
ends_as {N} js xs e = ends_map js ∙ ap (map (λ j. j.end)) e
  where
    ends_map : (ks : List (Joining N)) → map (λ j. j.end) ks ≡ map (λ (j : Joins). j.end) (map as_joins ks)
    ends_map [] = refl
    ends_map (k ∷ ks) = ap (λ l. k.end ∷ l) (ends_map ks)

-- ---- a socket after an item
abbrev sock_from : OpenSock → Control → Bool → Pattern → OpenSock
sock_from s c stopped p = record s {
  stopped = s.stopped || stopped;
  pattern = detach_all (filter (λ e. is_out (place_of c e) && not (had_out s e)) (ends_of s.object c)) p;
  ends = map (λ e. record { end = e; place = place_of c e }) (ends_of s.object c);
}

module _ {N S : Type 0} where
  pub kept_of : (c : Control) → Reached N S c → Kept c
  kept_of c r = subst Kept r.is (runs_are_kept N S 1 r.items r.run)

  pub boxes_of : (c : Control) → Reached N S c → HaveBoxes c
  boxes_of c r = subst HaveBoxes r.is (sockets_have_their_boxes N S 1 r.items (omega arith) r.run)

  pub for_living : (c : Control) → Reached N S c → (slot : ℕ) (letter : Letter) → MayDeliver c slot letter → IsForLiving c slot letter
  for_living c r slot letter = subst (λ d. MayDeliver d slot letter → IsForLiving d slot letter) r.is (delivered_to_living N S 1 r.items r.run slot letter)

  pub may_come : (c : Control) → Reached N S c → (slot : ℕ) (letter : Letter) → MayDeliver c slot letter → MayCome c letter.to.0 letter.word
  may_come c r slot letter = subst (λ d. MayDeliver d slot letter → MayCome d letter.to.0 letter.word) r.is (oldest_may_come N S 1 r.items r.run slot letter)

  row_fits : (c : Control) → Reached N S c → (i : ℕ) → owner_fits (obj c.rows i).kind (obj c.rows i).owner ≡ true
  row_fits c r i =
      let o = obj c.rows i in
      let all = (inv_of (rows_of (kept_but 0 c (kept_of c r)))).fits i in
      left (owner_fits o.kind o.owner) _ (right (socket_fits (is_socket o.kind) (is_alive o.stage) (is_used o.request) (is_unused o.stop)) _ (right (stage_fits o.stage o.noted o.plugged o.request o.stop) _ all))

  -- a letter of a socket's mailbox is for the socket
  pub for_socket : (c : Control) → Reached N S c → (s : OpenSock) → Sits c s → (letter : Letter) → MayDeliver c s.slot letter → letter.to.0 ≡ s.object
  for_socket c r s sits letter may =
      sym ((boxes_of c r).own s.object letter.to.0 sits.socket (sits.slot ∙ sym (for_living c r s.slot letter may).here))

  -- and tells of no closed socket
  pub no_reap : (c : Control) → Reached N S c → (i : ℕ) → is_socket (obj c.rows i).kind ≡ true → (socket : ObjId) → MayCome c i (Reap socket) → ⊥
  no_reap c r i is socket come =
      let o = obj c.rows socket.0 in
      let reaped : is_socket o.kind ≡ true = right (is_alive o.stage) (is_socket o.kind) (right (is_coming o.request) _ come.comes) in
      let zero_is = owner_of_socket o.kind o.owner i (row_fits c r socket.0) reaped come.owner in
      let root : is_socket (obj c.rows 0).kind ≡ true = subst (λ n. is_socket (obj c.rows n).kind ≡ true) zero_is is in
      unowned_socket (obj c.rows 0).kind (obj c.rows 0).owner (row_fits c r 0) root (kept_of c r).shape.root

  -- ---- the ends that join are the socket's
  abbrev pub moment : Control → (by : ℕ) → Did N S → Moment N S
  moment c by did = record { found = c; item = Event (record { by = by; did = did }) }

  -- all that join in an event of an object are in its own list
  pub joins_own : (c : Control) → Reached N S c → (by : ℕ) (did : Did N S) → Fits c did → (i : ℕ) → touched_in c did ≡ Some i
      → map (λ j. j.end) (joins_in c did) ≡ attached_by (own_moves c did) → joins_of i (moment c by did) ≡ (answer_of did).joined
  joins_own c r by did fits i touched ends =
      filter_all (λ e. owner_of (after did c) e == i) (answer_of did).joined (attached_by (own_moves c did))
      (ends_as (answer_of did).joined (joins_in c did) fits.answered.joined ∙ ends)
      (owns_all (owner_of (after did c)) i (attached_by (own_moves c did)) (attached_own c r did fits i touched))

  -- a socket after two items that leave the same
  pub sock_same : (m n : Moment N S) (s : OpenSock) → blank (left_by m) ≡ blank (left_by n) → stops s.object m.item ≡ stops s.object n.item
      → attach_all (joins_of s.object m) s.pattern ≡ attach_all (joins_of s.object n) s.pattern → sock_after m s ≡ sock_after n s
  sock_same m n s states stopped patterns = λ i. sock_from s (states i) (stopped i) (patterns i)

  -- what comes of one event of a socket in two runs
  pub record OneEvent (c d : Control) (by bx : ℕ) (did other : Did N S) (s : OpenSock) : Type 0 where
    pub states : blank (after did c) ≡ blank (after other d)
    pub socks : sock_after (moment c by did) s ≡ sock_after (moment d bx other) s

  one_event : (c d : Control) (by bx : ℕ) (did other : Did N S) (s : OpenSock) → blank c ≡ blank d
      → map as_joins (answer_of did).joined ≡ map as_joins (answer_of other).joined
      → joins_of s.object (moment c by did) ≡ (answer_of did).joined → joins_of s.object (moment d bx other) ≡ (answer_of other).joined
      → AreAnswered (joins_of s.object (moment c by did)) s.pattern → AreAnswered (joins_of s.object (moment d bx other)) s.pattern
      → is_some (answer_of did).settled ≡ is_some (answer_of other).settled → (answer_of did).output_left ≡ (answer_of other).output_left
      → (AnswerAlike (answer_of did) (answer_of other) → AreAlike did other) → stops s.object (moment c by did).item ≡ stops s.object (moment d bx other).item
      → OneEvent c d by bx did other s
  one_event c d by bx did other s p joins own owns answered answers settled left_over alike stopped =
      let js = (answer_of did).joined in
      let ks = (answer_of other).joined in
      let a = same_answers js ks s.pattern joins (subst (λ l. AreAnswered l s.pattern) own answered) (subst (λ l. AreAnswered l s.pattern) owns answers) in
      let states = counts_are_not_read did other c d (alike (record { kinds = same_kinds js ks a.told; settled = settled; left = left_over })) p in
      record {
        states = states;
        socks = sock_same (moment c by did) (moment d bx other) s states stopped (ap (λ l. attach_all l s.pattern) own ∙ a.pattern ∙ sym (ap (λ l. attach_all l s.pattern) owns));
      }

  -- ---- a letter
  none_left : (c : Control) (slot : ℕ) (letter : Letter) (g : Answered N S) (i : ℕ) → letter.to.0 ≡ i → is_socket (obj c.rows i).kind ≡ true → LeavesOutput c (Delivered (record { 0 = slot }) letter g) → g.output_left ≡ false
  none_left c slot letter g i at is leaves = by g.output_left refl
    where
      by : (b : Bool) → g.output_left ≡ b → b ≡ false
      by true e =
          let session = (leaves e).0 in
          let no = not_session (obj c.rows letter.to.0).kind (ap (λ (n : ℕ). is_socket (obj c.rows n).kind) at ∙ is) in
          absurd (never (sym (sym session ∙ no)))
      by false e = refl

  pub one_letter : (c d : Control) (by bx : ℕ) (letter : Letter) (g h : Answered N S) (s : OpenSock) → Reached N S c → Reached N S d → blank c ≡ blank d → Sits c s → Sits d s
      → Fits c (Delivered (record { 0 = s.slot }) letter g) → Fits d (Delivered (record { 0 = s.slot }) letter h)
      → AreAnswered (joins_of s.object (moment c by (Delivered (record { 0 = s.slot }) letter g))) s.pattern
      → AreAnswered (joins_of s.object (moment d bx (Delivered (record { 0 = s.slot }) letter h))) s.pattern
      → OneEvent c d by bx (Delivered (record { 0 = s.slot }) letter g) (Delivered (record { 0 = s.slot }) letter h) s
  one_letter c d by bx letter g h s r q p sits sat fits also answered answers =
      let at = for_socket c r s sits letter fits.may in
      let au = for_socket d q s sat letter also.may in
      let word = ends_of_word letter.word c letter.to.0 (λ socket e. no_reap c r letter.to.0 (ap (λ (n : ℕ). is_socket (obj c.rows n).kind) at ∙ sits.socket) socket (subst (MayCome c letter.to.0) e (may_come c r s.slot letter fits.may))) in
      let wore = ends_of_word letter.word d letter.to.0 (λ socket e. no_reap d q letter.to.0 (ap (λ (n : ℕ). is_socket (obj d.rows n).kind) au ∙ sat.socket) socket (subst (MayCome d letter.to.0) e (may_come d q s.slot letter also.may))) in
      one_event c d by bx (Delivered (record { 0 = s.slot }) letter g) (Delivered (record { 0 = s.slot }) letter h) s p
      (fits.answered.joined ∙ word_joins_alike letter.word c d p ∙ sym also.answered.joined)
      (joins_own c r by (Delivered (record { 0 = s.slot }) letter g) fits s.object (ap (λ (n : ℕ). Some n) at) word)
      (joins_own d q bx (Delivered (record { 0 = s.slot }) letter h) also s.object (ap (λ (n : ℕ). Some n) au) wore)
      answered answers (settled_alike letter.word c d g.settled h.settled fits.answered.settled also.answered.settled)
      (none_left c s.slot letter g s.object at sits.socket fits.answered.output ∙ sym (none_left d s.slot letter h s.object au sat.socket also.answered.output))
      (λ a. delivered s.slot letter g h refl refl a) refl

  -- ---- a request
  none_settled : (req : Req) (reply : Reply) (c d : Control) (g h : Answered N S) → Fits c (Asked req reply g) → Fits d (Asked req reply h) → is_some g.settled ≡ is_some h.settled
  none_settled req reply c d g h fits also = ap is_some (fits.answered.settled ∙ sym also.answered.settled)

  pub one_request : (c d : Control) (by bx : ℕ) (req : Req) (reply : Reply) (g h : Answered N S) (s : OpenSock) → Reached N S c → Reached N S d → blank c ≡ blank d
      → acts_in_request c req ≡ Some s.object → acts_in_request d req ≡ Some s.object
      → Fits c (Asked req reply g) → Fits d (Asked req reply h)
      → AreAnswered (joins_of s.object (moment c by (Asked req reply g))) s.pattern → AreAnswered (joins_of s.object (moment d bx (Asked req reply h))) s.pattern
      → OneEvent c d by bx (Asked req reply g) (Asked req reply h) s
  one_request c d by bx req reply g h s r q p mine yours fits also answered answers =
      one_event c d by bx (Asked req reply g) (Asked req reply h) s p
      (fits.answered.joined ∙ ap (unless_refused reply) (request_joins_alike req c d p) ∙ sym also.answered.joined)
      (joins_own c r by (Asked req reply g) fits s.object mine (asked_ends c req reply))
      (joins_own d q bx (Asked req reply h) also s.object yours (asked_ends d req reply))
      answered answers (none_settled req reply c d g h fits also) (fits.answered.output ∙ sym also.answered.output)
      (λ a. asked req reply g h refl refl a) refl

  -- ---- a request that joins nothing, whoever makes it
  pub plain_request : (c d : Control) (req : Req) (reply : Reply) (g h : Answered N S) → blank c ≡ blank d → unless_refused reply (request_joins c req) ≡ []
      → Fits c (Asked req reply g) → Fits d (Asked req reply h) → blank (after (Asked req reply g) c) ≡ blank (after (Asked req reply h) d)
  plain_request c d req reply g h p none fits also =
      counts_are_not_read (Asked req reply g) (Asked req reply h) c d
      (asked req reply g h refl refl (record {
        kinds = λ e. no_kinds g.joined e (fits.answered.joined ∙ none) ∙ sym (no_kinds h.joined e (also.answered.joined ∙ ap (unless_refused reply) (sym (request_joins_alike req c d p)) ∙ none));
        settled = none_settled req reply c d g h fits also;
        left = fits.answered.output ∙ sym also.answered.output;
      })) p
    where
      no_kinds : (js : List (Joining N)) (e : EndId) → map as_joins js ≡ [] → kind_answer js e ≡ Yes
      no_kinds [] e none = refl
      no_kinds (j ∷ js) e none = absurd (nope none)
        where
          nope : ◌≡◌ {A = List Joins} (as_joins j ∷ map as_joins js) [] → ⊥
          nope f = cc
