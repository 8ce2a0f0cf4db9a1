-- The sockets that a caller made and did not close are open.
use Rattle.std.specs.Prelude.{◌≡◌, ◌==◌, ℕ, Bool, true, false, cond, List, [], ◌∷◌, ◌++◌, Option, Some, None, if◌then◌else◌, refl}
use Rattle.std.specs.List.{list_any}
use Rattle.std.proofs.Common.{arith, sym, ap, ◌∙◌, subst}
use Rattle.std.proofs.lemmas.Bool.{eq-eqb, eqb-true}
use Rattle.std.proofs.lemmas.List.{append-nil, append_assoc, get_or_push}
use Rattle.zq_base.specs.declared.kind.Kind.{Kind}
use Rattle.zq_base.specs.declared.options.Options.{Options}
use Rattle.spec_control.specs.declared.entry.Answered.{Answered}
use Rattle.spec_control.specs.declared.object.ObjKind.{ObjKind}
use Rattle.spec_control.specs.declared.object.ObjKind.TheVariants.{Root, Socket, Listener, Session}
use Rattle.spec_control.specs.declared.stage.Stage.TheVariants.{Alive, Told, Ending, Finished, Cleared}
use Rattle.spec_control.specs.declared.stage.Stage.{Stage}
use Rattle.spec_control.specs.declared.stage.Use.{Use}
use Rattle.spec_control.specs.declared.stage.Use.TheVariants.{Unused, OnItsWay, Used}
use Rattle.spec_control.specs.declared.request.Req.{Req}
use Rattle.spec_control.specs.declared.request.Req.TheVariants.{Socket as MakeSocket, AskTerm, Bind, Connect, Unbind, Disconnect, Close, Accepted, Shaken, AskEnd, AskOver, OutputOver}
use Rattle.spec_control.specs.declared.request.Reply.{Reply}
use Rattle.spec_control.specs.declared.request.Reply.TheVariants.{Done, Object, Pair, Both, Wait, Asked as WasAsked, Before, Refused}
use Rattle.spec_control.specs.declared.request.Refusal.TheVariants.{Term as IsTerm, TooMany}
use Rattle.spec_control.specs.declared.entry.Did.{Did}
use Rattle.spec_control.specs.declared.entry.Did.TheVariants.{Asked, Delivered, Delimited}
use Rattle.spec_control.specs.declared.entry.Item.{Item}
use Rattle.spec_control.specs.declared.entry.Item.TheVariants.{Event, Seen}
use Rattle.spec_control.specs.Stage.{is_alive, is_unused, is_coming, is_used, has_ended}
use Rattle.spec_control.specs.Row.{Row, nobody, LinkEvent, OwnComes, PlugComes, IsTold, TermComes, AsksOver, RequestComes, ReapComes, AckComes, RootAsked, StopPut, StopComes, AsksForLink, AsksForLinger, link_may, link_after, is_socket, socket_fits, stage_fits}
use Rattle.spec_control.specs.Rows.{obj, is_owner}
use Rattle.spec_control.specs.Control.{Control, begun, id, next_object}
use Rattle.spec_control.specs.After.{after, socket_row}
use Rattle.spec_control.specs.ControlRun.{Fits, IsControlRun, IsOpenSocket, after_all, unless_refused}
use Rattle.spec_control.specs.Reply.{unless}
use Rattle.spec_control.specs.Held.{items_by}
use Rattle.spec_control.specs.Has.{made_by, taken_in, given_by_request, given_up, acts_in, has_then, has_over, has_after, IsBy, AreBy}
use Rattle.control_laws.proofs.ListLemmas.{never, left, right}
use Rattle.control_laws.proofs.StepLemmas.{inv_of}
use Rattle.control_laws.specs.Kept.{Kept}
use Rattle.control_laws.proofs.EndLemmas.{kept_but}
use Rattle.control_laws.proofs.RootLemmas.{begun_kept}
use Rattle.control_laws.proofs.RunLemmas.{after_kept}
use Rattle.control_laws.proofs.TellLemmas.{rows_of}
use Rattle.control_laws.specs.Move.{Move, LinkMoves, EndMoves, ObjectEnds, ObjectMade, PairDrawn, LetterPut, is_named}
use Rattle.control_laws.specs.OwnMoves.{own_moves, request_moves}
use Rattle.control_laws.proofs.SoundLemmas.{socket_there}
use Rattle.desk.specs.Kinds.{kind_in, kind_over}
use Rattle.control_laws.proofs.BetweenLemmas.{asks_over}
use Rattle.control_laws.proofs.HeldEventLemmas.{closes, asked_closes, word_closes}
use Rattle.control_laws.specs.SocketLaws.{SocketsAreOpen}
use Rattle.control_laws.proofs.HeldRowLemmas.{event_row}

pub none_some : {X : Type 0} {x : X} → None ≡ Some x → ⊥
none_some e = Prim.grind arith

pub some_is : {X : Type 0} {x y : X} → Some x ≡ Some y → x ≡ y
some_is e = Prim.grind arith

clash : {A : Type 0} {b : Bool} → b ≡ true → b ≡ false → A
clash h k = absurd (never (sym k ∙ h))

pub owned_by : (i : ℕ) (w : Option ℕ) → is_owner i w ≡ true → w ≡ Some i
owned_by i None e = absurd (never e)
owned_by i (Some w) e = ap (λ (n : ℕ). Some n) (eqb-true w i e)

pub owns : (i : ℕ) (w : Option ℕ) → w ≡ Some i → is_owner i w ≡ true
owns i w e = ap (is_owner i) e ∙ eq-eqb i i refl

-- ---- the kind of an open socket
abbrev kind_if : Bool → ObjKind → Option Kind
kind_if false kind = None
kind_if true Root = None
kind_if true (Socket kind) = Some kind
kind_if true Listener = None
kind_if true Session = None

abbrev open_as : Row → Option Kind
open_as o = kind_if (is_unused o.request) o.kind

record IsAs (o : Row) (kind : Kind) : Type 0 where
  request : is_unused o.request ≡ true
  is : o.kind ≡ Socket kind

as_of : (b : Bool) (k : ObjKind) (kind : Kind) → kind_if b k ≡ Some kind → (b ≡ true) × (k ≡ Socket kind)
as_of false k kind e = absurd (none_some e)
as_of true Root kind e = absurd (none_some e)
as_of true (Socket own) kind e = (refl, ap Socket (some_is e))
as_of true Listener kind e = absurd (none_some e)
as_of true Session kind e = absurd (none_some e)

coming_not : (u : Use) → is_coming u ≡ true → is_unused u ≡ false
coming_not Unused h = absurd (never h)
coming_not OnItsWay h = refl
coming_not Used h = refl

linked : (event : LinkEvent) (o : Row) (i : ℕ) → link_may event o ≡ true → asks_over i (LinkMoves i event) ≡ false → open_as (link_after event o) ≡ open_as o
linked OwnComes o i may_so free = refl
linked PlugComes o i may_so free = refl
linked IsTold o i may_so free = refl
linked TermComes o i may_so free = refl
linked AsksOver o i may_so free = clash (eq-eqb i i refl) free
linked RequestComes o i may_so free = ap (λ (b : Bool). kind_if b o.kind) (sym (coming_not o.request (left (is_coming o.request) _ may_so)))
linked ReapComes o i may_so free = ap (λ (b : Bool). kind_if b o.kind) (sym (coming_not o.request (left (is_coming o.request) _ may_so)))
linked AckComes o i may_so free = refl
linked RootAsked o i may_so free = refl
linked StopPut o i may_so free = refl
linked StopComes o i may_so free = refl
linked AsksForLink o i may_so free = refl
linked AsksForLinger o i may_so free = refl

named : (i : ℕ) (m : Move) → is_named m ≡ false → asks_over i m ≡ false
named i (LinkMoves j OwnComes) h = refl
named i (LinkMoves j PlugComes) h = refl
named i (LinkMoves j IsTold) h = refl
named i (LinkMoves j TermComes) h = refl
named i (LinkMoves j AsksOver) h = absurd (never (sym h))
named i (LinkMoves j RequestComes) h = refl
named i (LinkMoves j ReapComes) h = refl
named i (LinkMoves j AckComes) h = refl
named i (LinkMoves j RootAsked) h = refl
named i (LinkMoves j StopPut) h = refl
named i (LinkMoves j StopComes) h = refl
named i (LinkMoves j AsksForLink) h = refl
named i (LinkMoves j AsksForLinger) h = refl
named i (EndMoves e event) h = refl
named i (ObjectEnds j) h = refl
named i (ObjectMade row) h = refl
named i (PairDrawn a b) h = refl
named i (LetterPut to word) h = refl

-- ---- an event of somebody leaves it, but for its close
record Open (c : Control) (had : Option ℕ) (k i : ℕ) (kind : Kind) : Type 0 where
  has : had ≡ Some k
  open_so : open_as (obj c.rows i) ≡ Some kind

socket_of : (c : Control) (had : Option ℕ) (k i : ℕ) (kind : Kind) → Open c had k i kind → is_socket (obj c.rows i).kind ≡ true
socket_of c had k i kind so = ap is_socket (as_of (is_unused (obj c.rows i).request) (obj c.rows i).kind kind so.open_so).1

module _ {N S : Type 0} (c : Control) (kept : Kept c) (k i : ℕ) (kind : Kind) (had : Option ℕ) where
  not_closing : (did : Did N S) → Fits c did → Open c had k i kind → is_owner i (given_up did) ≡ false → list_any (asks_over i) (own_moves c did) ≡ false
  not_closing (Asked req reply h) fits so free = by (list_any (asks_over i) (unless_refused reply (request_moves c req))) refl
    where
      request : (req : Req) → Fits c (Asked req reply h) → is_owner i (given_by_request req) ≡ false → closes i req ≡ true → ⊥
      request (MakeSocket own options) fits free any = never any
      request AskTerm fits free any = never any
      request (Bind o at) fits free any = never any
      request (Connect o at) fits free any = never any
      request (Unbind o at) fits free any = never any
      request (Disconnect o at) fits free any = never any
      request (Close o) fits free any = never (sym free ∙ any)
      request (Accepted o) fits free any = never any
      request (Shaken o peer) fits free any = never any
      request (AskEnd d reason) fits free any = never any
      request (AskOver o) fits free any = never (sym (fits.may.0.no_socket) ∙ ap (λ (n : ℕ). is_socket (obj c.rows n).kind) (eqb-true o.0 i any) ∙ socket_of c had k i kind so)
      request (OutputOver o) fits free any = never any

      by : (b : Bool) → list_any (asks_over i) (unless_refused reply (request_moves c req)) ≡ b → b ≡ false
      by true e = absurd (request req fits free (asked_closes i c req reply e))
      by false e = refl
  not_closing (Delivered slot letter h) fits so free = word_closes i letter.to.0 letter.word
  not_closing (Delimited d h) fits so free = refl

  stays : (did : Did N S) (b : ℕ) → Fits c did → (taken_in did ≡ Some i → had ≡ None) → Open c had k i kind → is_owner i (given_up did) ≡ false → Open (after did c) (has_then i (Event (record { by = b; did = did })) had) k i kind
  stays did b fits takes so free = record {
    has = by (is_owner i (taken_in did)) refl;
    open_so = event_row open_as asks_over linked (λ o. refl) named c did kept fits i (socket_there c.rows i (socket_of c had k i kind so)) (not_closing did fits so free) ∙ so.open_so;
  }
    where
      by : (t : Bool) → is_owner i (taken_in did) ≡ t → (if is_owner i (taken_in did) then Some b else (if is_owner i (given_up did) then None else had)) ≡ Some k
      by true e = absurd (none_some (sym (takes (owned_by i (taken_in did) e)) ∙ so.has))
      by false e =
          ap (λ (t : Bool). if t then Some b else (if is_owner i (given_up did) then None else had)) e
          ∙ ap (λ (g : Bool). if g then None else had) free ∙ so.has

-- ---- a socket that is made
pub made_new : (n : ℕ) (a b : Bool) (i : ℕ) → made_by (unless a IsTerm (unless b TooMany (Object (id n)))) ≡ Some i → n ≡ i
made_new n true b i e = absurd (none_some e)
made_new n false true i e = absurd (none_some e)
made_new n false false i e = some_is e

made_row : {N S : Type 0} (c : Control) (kind : Kind) (options : Options) (reply : Reply) (h : Answered N S) (i : ℕ) → made_by reply ≡ Some i → next_object c ≡ i → obj (after (Asked (MakeSocket kind options) reply h) c).rows i ≡ socket_row kind options c
made_row c kind options Done h i e at = absurd (none_some e)
made_row c kind options (Object o) h i e at = get_or_push c.rows.objects (socket_row kind options c) nobody i at
made_row c kind options (Pair p) h i e at = absurd (none_some e)
made_row c kind options (Both o p) h i e at = get_or_push c.rows.objects (socket_row kind options c) nobody i at
made_row c kind options Wait h i e at = absurd (none_some e)
made_row c kind options WasAsked h i e at = absurd (none_some e)
made_row c kind options Before h i e at = absurd (none_some e)
made_row c kind options (Refused refusal) h i e at = absurd (none_some e)

module _ {N S : Type 0} (past : List (Item N S)) (c : Control) (kept : Kept c) (k i : ℕ) (kind : Kind) where
  -- what its own event leaves of what its items say
  own : (did : Did N S) (was : Option Kind) → Fits c did → IsBy past c did k → (was ≡ Some kind → Open c (has_after i past) k i kind) → kind_in i did was ≡ Some kind →
      Open (after did c) (has_then i (Event (record { by = k; did = did })) (has_after i past)) k i kind
  own (Asked (MakeSocket own_kind options) reply h) was fits may so now = by (is_owner i (made_by reply)) refl
    where
      by : (b : Bool) → is_owner i (made_by reply) ≡ b → Open (after (Asked (MakeSocket own_kind options) reply h) c) (has_then i (Event (record { by = k; did = Asked (MakeSocket own_kind options) reply h })) (has_after i past)) k i kind
      by true e =
          let mine : made_by reply ≡ Some i = owned_by i (made_by reply) e in
          let at : next_object c ≡ i = made_new (next_object c) _ _ i (ap made_by (sym fits.may.1) ∙ mine) in
          record {
            has = ap (λ (t : Bool). if t then Some k else has_after i past) e;
            open_so =
                ap open_as (made_row c own_kind options reply h i mine at)
                ∙ sym (ap (λ (t : Bool). if t then Some own_kind else was) e) ∙ now;
          }
      by false e = stays c kept k i kind (has_after i past) (Asked (MakeSocket own_kind options) reply h) k fits (may.takes i) (so (sym (ap (λ (t : Bool). if t then Some own_kind else was) e) ∙ now)) refl
  own (Asked AskTerm reply h) was fits may so now = stays c kept k i kind (has_after i past) (Asked AskTerm reply h) k fits (may.takes i) (so now) refl
  own (Asked (Bind o at) reply h) was fits may so now = stays c kept k i kind (has_after i past) (Asked (Bind o at) reply h) k fits (may.takes i) (so now) refl
  own (Asked (Connect o at) reply h) was fits may so now = stays c kept k i kind (has_after i past) (Asked (Connect o at) reply h) k fits (may.takes i) (so now) refl
  own (Asked (Unbind o at) reply h) was fits may so now = stays c kept k i kind (has_after i past) (Asked (Unbind o at) reply h) k fits (may.takes i) (so now) refl
  own (Asked (Disconnect o at) reply h) was fits may so now = stays c kept k i kind (has_after i past) (Asked (Disconnect o at) reply h) k fits (may.takes i) (so now) refl
  own (Asked (Close o) reply h) was fits may so now = by (o.0 == i) refl
    where
      by : (b : Bool) → (o.0 == i) ≡ b → Open (after (Asked (Close o) reply h) c) (has_then i (Event (record { by = k; did = Asked (Close o) reply h })) (has_after i past)) k i kind
      by true e = absurd (none_some (sym (ap (λ (t : Bool). if t then None else was) e) ∙ now))
      by false e = stays c kept k i kind (has_after i past) (Asked (Close o) reply h) k fits (may.takes i) (so (sym (ap (λ (t : Bool). if t then None else was) e) ∙ now)) e
  own (Asked (Accepted o) reply h) was fits may so now = stays c kept k i kind (has_after i past) (Asked (Accepted o) reply h) k fits (may.takes i) (so now) refl
  own (Asked (Shaken o peer) reply h) was fits may so now = stays c kept k i kind (has_after i past) (Asked (Shaken o peer) reply h) k fits (may.takes i) (so now) refl
  own (Asked (AskEnd d reason) reply h) was fits may so now = stays c kept k i kind (has_after i past) (Asked (AskEnd d reason) reply h) k fits (may.takes i) (so now) refl
  own (Asked (AskOver o) reply h) was fits may so now = stays c kept k i kind (has_after i past) (Asked (AskOver o) reply h) k fits (may.takes i) (so now) refl
  own (Asked (OutputOver o) reply h) was fits may so now = stays c kept k i kind (has_after i past) (Asked (OutputOver o) reply h) k fits (may.takes i) (so now) refl
  own (Delivered slot letter h) was fits may so now = stays c kept k i kind (has_after i past) (Delivered slot letter h) k fits (may.takes i) (so now) refl
  own (Delimited d h) was fits may so now = stays c kept k i kind (has_after i past) (Delimited d h) k fits (may.takes i) (so now) refl

  -- another caller does not close it
  gives : (did : Did N S) → is_owner i (given_up did) ≡ true → acts_in c did ≡ Some i
  gives (Asked (MakeSocket own_kind options) reply h) e = absurd (never e)
  gives (Asked AskTerm reply h) e = absurd (never e)
  gives (Asked (Bind o at) reply h) e = absurd (never e)
  gives (Asked (Connect o at) reply h) e = absurd (never e)
  gives (Asked (Unbind o at) reply h) e = absurd (never e)
  gives (Asked (Disconnect o at) reply h) e = absurd (never e)
  gives (Asked (Close o) reply h) e = owned_by i (Some o.0) e
  gives (Asked (Accepted o) reply h) e = absurd (never e)
  gives (Asked (Shaken o peer) reply h) e = absurd (never e)
  gives (Asked (AskEnd d reason) reply h) e = absurd (never e)
  gives (Asked (AskOver o) reply h) e = absurd (never e)
  gives (Asked (OutputOver o) reply h) e = absurd (never e)
  gives (Delivered slot letter h) e = absurd (never e)
  gives (Delimited d h) e = absurd (never e)

  others : (did : Did N S) (b : ℕ) → Fits c did → IsBy past c did b → (b == k) ≡ false → Open c (has_after i past) k i kind →
      Open (after did c) (has_then i (Event (record { by = b; did = did })) (has_after i past)) k i kind
  others did b fits may apart so = stays c kept k i kind (has_after i past) did b fits (may.takes i) so (by (is_owner i (given_up did)) refl)
    where
      by : (g : Bool) → is_owner i (given_up did) ≡ g → g ≡ false
      by true e = absurd (never (sym apart ∙ eq-eqb b k (some_is (sym (may.acts i (gives did e)) ∙ so.has))))
      by false e = refl

-- ---- over a run
pub has_snoc : {N S : Type 0} (i : ℕ) (had : Option ℕ) (past : List (Item N S)) (item : Item N S) → has_over i had (past ++ item ∷ []) ≡ has_then i item (has_over i had past)
has_snoc i had [] item = refl
has_snoc i had (x ∷ past) item = has_snoc i (has_then i x had) past item

at_has : (c : Control) (a b : Option ℕ) (k i : ℕ) (kind : Kind) → a ≡ b → Open c a k i kind → Open c b k i kind
at_has c a b k i kind same so = record { has = sym same ∙ so.has; open_so = so.open_so }

module _ {N S : Type 0} (k i : ℕ) (kind : Kind) where
  open_over : (items past : List (Item N S)) (c : Control) (was : Option Kind) → Kept c → IsControlRun c items → AreBy past c items → (was ≡ Some kind → Open c (has_after i past) k i kind) →
      kind_over i was (items_by k items) ≡ Some kind → Open (after_all items c) (has_after i (past ++ items)) k i kind
  open_over [] past c was kept run may so now = at_has c (has_after i past) (has_after i (past ++ [])) k i kind (ap (has_after i) (sym (append-nil past))) (so now)
  open_over (Seen sight ∷ items) past c was kept run may so now =
      at_has (after_all items c) (has_after i ((past ++ Seen sight ∷ []) ++ items)) (has_after i (past ++ Seen sight ∷ items)) k i kind (ap (has_after i) (append_assoc past (Seen sight ∷ []) items))
      (open_over items (past ++ Seen sight ∷ []) c was kept run.1 may.1 (λ e. at_has c (has_after i past) (has_after i (past ++ Seen sight ∷ [])) k i kind (sym (has_snoc i None past (Seen sight))) (so e)) (skip (sight.by == k) now))
    where
      skip : (b : Bool) → kind_over i was (cond b (Seen sight ∷ items_by k items) (items_by k items)) ≡ Some kind → kind_over i was (items_by k items) ≡ Some kind
      skip true e = e
      skip false e = e
  open_over (Event entry ∷ items) past c was kept run may so now =
      at_has (after_all items (after entry.did c)) (has_after i ((past ++ Event entry ∷ []) ++ items)) (has_after i (past ++ Event entry ∷ items)) k i kind (ap (has_after i) (append_assoc past (Event entry ∷ []) items))
      (by
      (λ will then_so e. open_over items (past ++ Event entry ∷ []) (after entry.did c) will (after_kept c entry.did kept run.0) run.1 may.1
      (λ x. at_has (after entry.did c) (has_then i (Event entry) (has_after i past)) (has_after i (past ++ Event entry ∷ [])) k i kind (sym (has_snoc i None past (Event entry))) (then_so x)) e)
      (entry.by == k) refl now)
    where
      mine : entry.by ≡ k → IsBy past c entry.did k
      mine same = subst (λ (b : ℕ). IsBy past c entry.did b) same may.0

      by : ((will : Option Kind) → (will ≡ Some kind → Open (after entry.did c) (has_then i (Event entry) (has_after i past)) k i kind) → kind_over i will (items_by k items) ≡ Some kind →
          Open (after_all items (after entry.did c)) (has_after i ((past ++ Event entry ∷ []) ++ items)) k i kind) →
          (b : Bool) → (entry.by == k) ≡ b → kind_over i was (cond b (Event entry ∷ items_by k items) (items_by k items)) ≡ Some kind →
          Open (after_all items (after entry.did c)) (has_after i ((past ++ Event entry ∷ []) ++ items)) k i kind
      by next true e x =
          let same = eqb-true entry.by k e in
          next (kind_in i entry.did was)
          (λ y. subst (λ (b : ℕ). Open (after entry.did c) (has_then i (Event (record { by = b; did = entry.did })) (has_after i past)) k i kind) (sym same)
          (own past c kept k i kind entry.did was run.0 (mine same) so y)) x
      by next false e x = next was (λ y. others past c kept k i kind entry.did entry.by run.0 may.0 e (so y)) x

-- ---- the row of an open socket
fits_alive : (alive used unstopped : Bool) → socket_fits true alive used unstopped ≡ true → used ≡ false → alive ≡ true
fits_alive true used unstopped h k = refl
fits_alive false used unstopped h k = absurd (never (sym k ∙ h))

unused_is : (u : Use) → is_unused u ≡ true → u ≡ Unused
unused_is Unused h = refl
unused_is OnItsWay h = absurd (never h)
unused_is Used h = absurd (never h)

alive_lives : (s : Stage) → is_alive s ≡ true → has_ended s ≡ false
alive_lives Alive h = refl
alive_lives Told h = absurd (never h)
alive_lives Ending h = absurd (never h)
alive_lives Finished h = absurd (never h)
alive_lives Cleared h = absurd (never h)

open_row : (c : Control) → Kept c → (i : ℕ) (kind : Kind) → open_as (obj c.rows i) ≡ Some kind → IsOpenSocket (obj c.rows i)
open_row c kept i kind so =
    let o = obj c.rows i in
    let both = as_of (is_unused o.request) o.kind kind so in
    let unused = unused_is o.request both.0 in
    let row = (inv_of (rows_of (kept_but 0 c kept))).fits i in
    let fits = left (socket_fits (is_socket o.kind) (is_alive o.stage) (is_used o.request) (is_unused o.stop)) _ (right (stage_fits o.stage o.noted o.plugged o.request o.stop) _ row) in
    let socket : is_socket o.kind ≡ true = ap is_socket both.1 in
    record {
      socket = socket;
      open_still = unused;
      lives = alive_lives o.stage (fits_alive (is_alive o.stage) (is_used o.request) (is_unused o.stop) (subst (λ (b : Bool). socket_fits b (is_alive o.stage) (is_used o.request) (is_unused o.stop) ≡ true) socket fits) (ap is_used unused));
    }

pub sockets_are_open : (N S : Type 0) → SocketsAreOpen N S
sockets_are_open N S workers items run may k i kind now =
    let so = open_over k i kind items [] (begun workers) None (begun_kept workers) run may (λ e. absurd (none_some e)) now in
    let o = obj (after_all items (begun workers)).rows i in
    record {
      has = so.has;
      kind_is = (as_of (is_unused o.request) o.kind kind so.open_so).1;
      open_socket = open_row (after_all items (begun workers)) (all_kept items (begun workers) (begun_kept workers) run) i kind so.open_so;
    }
  where
    all_kept : (items : List (Item N S)) (c : Control) → Kept c → IsControlRun c items → Kept (after_all items c)
    all_kept [] c kept run = kept
    all_kept (Event entry ∷ items) c kept run = all_kept items (after entry.did c) (after_kept c entry.did kept run.0) run.1
    all_kept (Seen sight ∷ items) c kept run = all_kept items c kept run.1
