-- A call on messages of a socket over its own ends, as a run tells it.
use Rattle.std.proofs.Common.{◌≡◌, ◌∙◌, ℕ, zero, suc, Bool, true, false, List, [], ◌∷◌, Option, Some, None, refl, sym, ap, subst, true≢false, arith}
use Rattle.std.specs.Prelude.{◌&&◌, not, Result, Ok, Err, OnOk, OnErr}
use Rattle.std.specs.declared.alloc.AllocError.{AllocError}
use Rattle.zq_base.specs.Message.{Frames}
use Rattle.zq_base.specs.declared.ids.EndId.{EndId}
use Rattle.spec_pattern.specs.Pattern.{Pattern}
use Rattle.spec_pattern.specs.PatternCalls.{PatternSends, PatternReceives, PatternChanges, Change, ChangeAnswer}
use Rattle.spec_pattern.specs.Results.{RecvResult, MatchRecv}
use Rattle.spec_pattern.specs.Topics.{Topic}
use Rattle.spec_pattern.specs.declared.answers.Skip.{Skip}
use Rattle.spec_pattern.specs.declared.answers.RecvAnswer.{RecvAnswer}
use Rattle.spec_pattern.specs.declared.answers.RecvFault.TheVariants as rfault
use Rattle.spec_pattern.specs.declared.answers.SendAnswer.{SendAnswer}
use Rattle.spec_pattern.specs.declared.answers.Sent.{Sent}
use Rattle.spec_control.specs.declared.end.EndState.{EndState}
use Rattle.spec_control.specs.declared.end.EndState.TheVariants.{Active, DelimiterGot, WaitDelimiter, AckSent, AskedOnce, AskedTwice, Gone}
use Rattle.spec_control.specs.Place.{At}
use Rattle.msg_pipe.specs.Known.{Known}
use Rattle.end_table.specs.Rows.{Rows, Table, table}
use Rattle.pub_sub.specs.Publishers.{PubState, resumed, meant}
use Rattle.pub_sub.specs.XSubs.{MatchXSend}
use Rattle.pub_sub.specs.declared.xsend_fault.XSendFault.{XSendFault}
use Rattle.pub_sub.specs.declared.xsend_fault.XSendFault.TheVariants as xfault
use Rattle.router_dealer.specs.Named.{Kept}
use Rattle.any_sock.specs.declared.change_fault.ChangeFault.{ChangeFault}
use Rattle.any_sock.specs.declared.change_fault.ChangeFault.TheVariants as cfault
use Rattle.any_sock.specs.Calls.{MatchChanged}
use Rattle.any_sock.specs.declared.any_sock.AnySock.{AnySock}
use Rattle.any_sock.specs.declared.any_sock.AnySock.TheVariants as sock
use Rattle.any_sock.specs.Over.{Leftover, over, caught_up, as_received, left_of, peer_places}
use Rattle.end_table.specs.declared.table.Place.{Place}
use Rattle.end_table.specs.Places.{place_at}
use Rattle.end_table.specs.Sound as held
use Rattle.sock_core.specs.declared.sock.SockCore.{SockCore}
use Rattle.sock_core.specs.Standing.{standing_joins}
use Rattle.sock_core.specs.Lent.{IsNaming, IsTest}
use Rattle.sock_core.proofs.SteadyLemmas.{IsSteady, whole_so, mailed_so, keeps_else}
use Rattle.sock_core.specs.Lent as mail
use Rattle.sock_core.specs.Holding.{lent_in, KeepsElse, KeepsRest}
use Rattle.sock_core.specs.Mails.{SendsHere, SaysHere, SendUndoneHere, PumpsHere, PumpStopsHere, ReceiveDone, ReceivesHere, StopsHere, ChangesHere, ChangeUntoldHere, ChangeUndoneHere}
use Rattle.sock_calls.specs.Calls.{FitsCore}
use Rattle.spec_run.specs.OpenSocket.{SockEnd, OpenSock, is_active, place_in, can_write}
use Rattle.line_socket.specs.View.{end_at, ends_told, pattern_told, open_view}
use Rattle.line_socket.specs.Standing.{IsStanding, Stands, IsWhole, kind_told, KeepsAllElse}
use Rattle.line_socket.specs.Doing.{MakesSome, PumpsOpen, SendsSo, ReceivesSo, ChangesSo}
use Rattle.sock_core.specs.Kinds.{no_ends}
use Rattle.line_socket.proofs.KindLemmas.{sends_kind, says_kind, receives_kind, stops_kind, pumps_kind, pump_stops_kind, changes_kind, untold_kind, any_ends, caught_kind, received_kind}

pub ok_more : {A : Type 0} (r : Result A AllocError) {P Q : Type 0} → (P → Q) → OnOk r P → OnOk r Q
ok_more (Ok x) f h = f h
ok_more (Err e) f h = tt

pub err_more : {A : Type 0} (r : Result A AllocError) {P Q : Type 0} → (P → Q) → OnErr r P → OnErr r Q
err_more (Ok x) f h = tt
err_more (Err e) f h = f h

pub xsend_more : (r : Result Sent XSendFault) {A A' B B' : Type 0} {P Q : SendAnswer → Type 0} → (A → A') → (B → B') → ((a : SendAnswer) → P a → Q a) → MatchXSend r A B P → MatchXSend r A' B' Q
xsend_more (Ok s) f g h x = h _ x
xsend_more (Err (xfault.Refused refusal back)) f g h x = h _ x
xsend_more (Err (xfault.OutOfMemory back)) f g h x = f x
xsend_more (Err xfault.Untold) f g h x = g x

pub recv_more : (r : RecvResult) {A A' : Type 0} {P Q : RecvAnswer → Type 0} → (A → A') → ((a : RecvAnswer) → P a → Q a) → MatchRecv r A P → MatchRecv r A' Q
recv_more (Ok item) f h x = h _ x
recv_more (Err (rfault.Refused refusal)) f h x = h _ x
recv_more (Err rfault.OutOfMemory) f h x = f x

pub changed_more : (r : Result (Unit {0}) ChangeFault) {A A' B B' : Type 0} {P Q : ChangeAnswer → Type 0} → (A → A') → (B → B') → ((a : ChangeAnswer) → P a → Q a) → MatchChanged r A B P → MatchChanged r A' B' Q
changed_more (Ok done) f g h x = h _ x
changed_more (Err cfault.NoTopics) f g h x = h _ x
changed_more (Err cfault.SubLimit) f g h x = h _ x
changed_more (Err cfault.NotSub) f g h x = h _ x
changed_more (Err cfault.OutOfMemory) f g h x = f x
changed_more (Err cfault.Untold) f g h x = g x

-- ---- what is left to obey

obeyed_none : (ends : ℕ → EndId) (p : PubState) (k : Option (ℕ × Frames)) → p.kept ≡ k → (resumed ends k p).kept ≡ None
obeyed_none ends p None is = is
obeyed_none ends p (Some k) is = refl

-- nothing is left to obey where it was obeyed
caught_none : (ends : ℕ → EndId) (s : AnySock) → (left_of (caught_up ends s)).to_obey ≡ None
caught_none ends (sock.Push x) = refl
caught_none ends (sock.Pull x) = refl
caught_none ends (sock.Pair x) = refl
caught_none ends (sock.Dealer x) = refl
caught_none ends (sock.Req x) = refl
caught_none ends (sock.Rep x) = refl
caught_none ends (sock.Router x) = refl
caught_none ends (sock.Pub p) = obeyed_none ends p p.kept refl
caught_none ends (sock.XPub p) = obeyed_none ends p p.kept refl
caught_none ends (sock.Sub x) = refl
caught_none ends (sock.XSub x) = refl

publisher_as_is : (ends : ℕ → EndId) (p : PubState) → p.kept ≡ None → meant ends p ≡ p
publisher_as_is ends p none = ap (λ k. resumed ends k p) none

-- and then it is as it is
pub caught_as_is : (ends : ℕ → EndId) (s : AnySock) → (left_of s).to_obey ≡ None → caught_up ends s ≡ s
caught_as_is ends (sock.Push x) none = refl
caught_as_is ends (sock.Pull x) none = refl
caught_as_is ends (sock.Pair x) none = refl
caught_as_is ends (sock.Dealer x) none = refl
caught_as_is ends (sock.Req x) none = refl
caught_as_is ends (sock.Rep x) none = refl
caught_as_is ends (sock.Router x) none = refl
caught_as_is ends (sock.Pub p) none = ap (λ q. sock.Pub q) (publisher_as_is ends p none)
caught_as_is ends (sock.XPub p) none = ap (λ q. sock.XPub q) (publisher_as_is ends p none)
caught_as_is ends (sock.Sub x) none = refl
caught_as_is ends (sock.XSub x) none = refl

-- so a receive begins with it
received_as_is : (ends : ℕ → EndId) (s : AnySock) → (left_of s).to_obey ≡ None → as_received ends s ≡ s
received_as_is ends (sock.Push x) none = refl
received_as_is ends (sock.Pull x) none = refl
received_as_is ends (sock.Pair x) none = refl
received_as_is ends (sock.Dealer x) none = refl
received_as_is ends (sock.Req x) none = refl
received_as_is ends (sock.Rep x) none = refl
received_as_is ends (sock.Router x) none = refl
received_as_is ends (sock.Pub x) none = refl
received_as_is ends (sock.XPub p) none = ap (λ q. sock.XPub q) (publisher_as_is ends p none)
received_as_is ends (sock.Sub x) none = refl
received_as_is ends (sock.XSub x) none = refl

-- ---- its ends

pub same_active : (s : EndState) → is_active (At s) ≡ held.is_active s
same_active Active = refl
same_active DelimiterGot = refl
same_active WaitDelimiter = refl
same_active AckSent = refl
same_active AskedOnce = refl
same_active AskedTwice = refl
same_active Gone = refl

front_true : (b c : Bool) → b && c ≡ true → b ≡ true
front_true true c h = refl
front_true false c h = absurd (true≢false (sym h))

open_so : (active sealed : Bool) → (active ≡ true → sealed ≡ false) → active ≡ active && not sealed
open_so false sealed f = refl
open_so true sealed f = ap not (sym (f refl))

module _ {N I : Type 0} where
  pub end_found : (ps : List (Place N I)) (k : ℕ) (p : Place N I) → place_at ps k ≡ Some p → end_at ps k ≡ p.end
  end_found [] k p at = Prim.grind arith
  end_found (q ∷ ps) zero p at = Prim.grind arith
  end_found (q ∷ ps) (suc k) p at = end_found ps k p at

  names_so : (ps : List (Place N I)) → IsNaming (end_at ps) ps
  names_so ps k p at peer = end_found ps k p at

pub opens_are : (o o' slot : ℕ) (st st' : Bool) (p p' : Pattern) (es es' : List SockEnd) → o ≡ o' → st ≡ st' → p ≡ p' → es ≡ es'
    → ◌≡◌ {A = OpenSock} (record { object = o; slot = slot; stopped = st; pattern = p; ends = es }) (record { object = o'; slot = slot; stopped = st'; pattern = p'; ends = es' })
opens_are o o' slot st st' p p' es es' a b c d = cc

tables_are : {S O I : Type 0} (p q : S) (a b : Rows O I) → p ≡ q → a ≡ b → ◌≡◌ {A = Table S O I} (table p a) (table q b)
tables_are p q a b e f = cc

module _ {W N O I S : Type 0} (K : Known S O I N) where
  -- the socket that is there stands
  pub there : (p : S) (o : Option (SockCore AnySock W N O I)) (s : SockCore AnySock W N O I) → o ≡ Some s → Stands K p o → IsStanding K p s
  there p o s is h = subst (λ (x : Option (SockCore AnySock W N O I)). Stands K p x) is h

  -- a relation of what stood there is one of the socket that was there
  pub came : (R : S → Option (SockCore AnySock W N O I) → S → Option (SockCore AnySock W N O I) → Type 0) (p q : S) (o : Option (SockCore AnySock W N O I)) (s t : SockCore AnySock W N O I)
      → o ≡ Some s → R p (Some s) q (Some t) → R p o q (Some t)
  came R p q o s t is h = subst (λ (x : Option (SockCore AnySock W N O I)). R p x q (Some t)) (sym is) h

  pub steady_of : (p : S) (s : SockCore AnySock W N O I) → FitsCore K peer_places p s → IsSteady K peer_places p s
  steady_of p s h = record { sound = h.sound; peers_are = h.peers_are; room = h.room; gone = h.gone; stopped_is = h.stopped_is; flagged = h.flagged; in_use = h.in_use; settled_are = h.settled_are; sealed_are = h.sealed_are }

  pub fits_of : (p : S) (s : SockCore AnySock W N O I) → IsSteady K peer_places p s → FitsCore K peer_places p s
  fits_of p s h = record { sound = h.sound; peers_are = h.peers_are; room = h.room; gone = h.gone; stopped_is = h.stopped_is; flagged = h.flagged; in_use = h.in_use; settled_are = h.settled_are; sealed_are = h.sealed_are }

  -- its ends may be lent for a call on messages
  pub may_lend : (p : S) (o : Option (SockCore AnySock W N O I)) (s : SockCore AnySock W N O I) → o ≡ Some s → Stands K p o → mail.IsWhole K (lent_in p s)
  may_lend p o s is h = let stands = there p o s is h in whole_so K p s (steady_of p s stands.fits) stands.is_open

  module _ (slot : ℕ) (p q : S) (s t : SockCore AnySock W N O I) (stands : IsStanding K p s) (keeps : KeepsElse s t) where
    test_so : IsTest (can_write (open_view slot (Some s))) s.ends.places.items
    test_so k x at peer =
        let held_so = front_true x.held (x.writes && x.peer) peer in
        ap is_active (stands.told k x at held_so) ∙ same_active x.state ∙ open_so (held.is_active x.state) x.sealed (stands.unsealed k x at held_so)

    places_so : t.ends.places.items ≡ s.ends.places.items
    places_so = ap (λ v. v.items) keeps.places

    ends_so : ends_told (standing_joins t.joins.items) t.ends.places.items ≡ ends_told (standing_joins s.joins.items) s.ends.places.items
    ends_so = ap (λ (l : List (Place N I)). ends_told (standing_joins t.joins.items) l) places_so ∙ ap (λ v. ends_told (standing_joins v.items) s.ends.places.items) keeps.joins

    -- where nothing is left to obey, its kind's state is as it is
    pattern_so : (left_of t.kind).to_obey ≡ None → pattern_told t ≡ over (end_at s.ends.places.items) t.kind
    pattern_so none = ap (λ (l : List (Place N I)). over (end_at l) (caught_up (end_at l) t.kind)) places_so ∙ ap (over (end_at s.ends.places.items)) (caught_as_is (end_at s.ends.places.items) t.kind none)

    view_so : (x : Pattern) → pattern_told t ≡ x → open_view slot (Some t) ≡ record (open_view slot (Some s)) { pattern = x }
    view_so x is = opens_are t.number.0 s.number.0 slot t.stopped s.stopped (pattern_told t) x _ _ (ap (λ n. n.0) keeps.number) keeps.stopped is ends_so

    still_stands : FitsCore K peer_places q t → IsStanding K q t
    still_stands fits = record {
      fits = fits;
      is_open = keeps.is_open ∙ stands.is_open;
      told = λ k x at h. ap (λ l. place_in l x.end) ends_so ∙ stands.told k x (subst (λ (l : List (Place N I)). place_at l k ≡ Some x) places_so at) h;
      unsealed = λ k x at h. stands.unsealed k x (subst (λ (l : List (Place N I)). place_at l k ≡ Some x) places_so at) h;
    }

    -- ---- what comes before a call

    pub pumps_so : PumpsHere K (lent_in p s) (lent_in q t) → PumpsOpen K slot p (Some s) q (Some t)
    pumps_so h =
        let f = end_at s.ends.places.items in
        record {
          steps = h.steps;
          makes = h.makes;
          pattern = over f t.kind;
          pumps = h.pumps f (can_write (open_view slot (Some s))) (names_so s.ends.places.items) test_so;
          new_is = view_so (over f t.kind) (pattern_so (ap (λ (l : Leftover). l.to_obey) (h.left_is f) ∙ caught_none f s.kind));
        }

    pub pump_stops_so : PumpStopsHere K (lent_in p s) (lent_in q t) → MakesSome K p (Some s) q (Some t)
    pump_stops_so h = record { steps = h.steps; makes = h.makes }

    pub pump_whole : PumpsHere K (lent_in p s) (lent_in q t) → IsWhole (Some s) → IsWhole (Some t)
    pump_whole h whole = let f = end_at s.ends.places.items in h.left_is f ∙ ap left_of (caught_as_is f s.kind (ap (λ (l : Leftover). l.to_obey) whole)) ∙ whole

    pub pump_kind : (r : Result (Unit {0}) AllocError) → OnOk r (PumpsHere K (lent_in p s) (lent_in q t)) → OnErr r (PumpStopsHere K (lent_in p s) (lent_in q t)) → KeepsAllElse s t
    pump_kind (Ok x) h e = let f = end_at s.ends.places.items in record {
      rest = keeps;
      kind = any_ends no_ends f t.kind ∙ pumps_kind (can_write (open_view slot (Some s))) (over f (caught_up f s.kind)) h.steps (over f t.kind) (h.pumps f (can_write (open_view slot (Some s))) (names_so s.ends.places.items) test_so) ∙ caught_kind f no_ends s.kind;
    }
    pump_kind (Err x) h e = let f = end_at s.ends.places.items in record {
      rest = keeps;
      kind = sym (caught_kind f no_ends t.kind) ∙ pump_stops_kind _ (over f (caught_up f s.kind)) e.steps (over f (caught_up f t.kind)) (e.stops f (names_so s.ends.places.items)) ∙ caught_kind f no_ends s.kind;
    }

    sent_kind : (m : Frames) (a : SendAnswer) → SendsHere K m (lent_in p s) a (lent_in q t) → KeepsAllElse s t
    sent_kind m a h = let f = end_at s.ends.places.items in record {
      rest = keeps;
      kind = any_ends no_ends f t.kind ∙ sends_kind (can_write (open_view slot (Some s))) m (over f s.kind) h.steps a (over f t.kind) (h.sends f (can_write (open_view slot (Some s))) (names_so s.ends.places.items) test_so) ∙ any_ends f no_ends s.kind;
    }

    pub send_kind : (m : Frames) (r : Result Sent XSendFault) → MatchXSend r (SendUndoneHere (lent_in p s) (lent_in q t)) (SaysHere K m (lent_in p s) (lent_in q t)) (λ a. SendsHere K m (lent_in p s) a (lent_in q t)) → KeepsAllElse s t
    send_kind m (Ok a) h = sent_kind m _ h
    send_kind m (Err (xfault.Refused refusal back)) h = sent_kind m _ h
    send_kind m (Err (xfault.OutOfMemory back)) h = record { rest = keeps; kind = ap kind_told h.stays.kind_stays }
    send_kind m (Err xfault.Untold) h = let f = end_at s.ends.places.items in record {
      rest = keeps;
      kind = any_ends no_ends f t.kind ∙ says_kind _ m (over f s.kind) h.steps (over f t.kind) (h.says f (names_so s.ends.places.items)) ∙ any_ends f no_ends s.kind;
    }

    got_kind : (told told_now : List Skip) (a : RecvAnswer) → ReceivesHere K told told_now (lent_in p s) a (lent_in q t) → KeepsAllElse s t
    got_kind told told_now a h = let f = end_at s.ends.places.items in record {
      rest = keeps;
      kind = any_ends no_ends f t.kind ∙ receives_kind (over f (as_received f s.kind)) h.steps h.skips a (over f t.kind) (h.receives f (names_so s.ends.places.items)) ∙ received_kind f no_ends s.kind;
    }

    pub recv_kind : (told told_now : List Skip) (r : RecvResult) → MatchRecv r (StopsHere K told told_now (lent_in p s) (lent_in q t)) (λ a. ReceivesHere K told told_now (lent_in p s) a (lent_in q t)) → KeepsAllElse s t
    recv_kind told told_now (Ok item) h = got_kind told told_now _ h
    recv_kind told told_now (Err (rfault.Refused refusal)) h = got_kind told told_now _ h
    recv_kind told told_now (Err rfault.OutOfMemory) h = let f = end_at s.ends.places.items in record {
      rest = keeps;
      kind = sym (received_kind f no_ends t.kind) ∙ stops_kind (over f (as_received f s.kind)) h.steps h.skips (left_of t.kind).to_give (over f (as_received f t.kind)) (h.stops f (names_so s.ends.places.items)) ∙ received_kind f no_ends s.kind;
    }

    changed_kind : (change : Change) (topic : Topic) (a : ChangeAnswer) → ChangesHere K change topic (lent_in p s) a (lent_in q t) → KeepsAllElse s t
    changed_kind change topic a h = let f = end_at s.ends.places.items in record {
      rest = keeps;
      kind = any_ends no_ends f t.kind ∙ changes_kind change (can_write (open_view slot (Some s))) topic (over f s.kind) h.steps a (over f t.kind) (h.changes f (can_write (open_view slot (Some s))) (names_so s.ends.places.items) test_so) ∙ any_ends f no_ends s.kind;
    }

    pub change_kind : (change : Change) (topic : Topic) (r : Result (Unit {0}) ChangeFault) → MatchChanged r (ChangeUndoneHere (lent_in p s) (lent_in q t)) (ChangeUntoldHere K change topic (lent_in p s) (lent_in q t)) (λ a. ChangesHere K change topic (lent_in p s) a (lent_in q t)) → KeepsAllElse s t
    change_kind change topic (Ok done) h = changed_kind change topic _ h
    change_kind change topic (Err cfault.NoTopics) h = changed_kind change topic _ h
    change_kind change topic (Err cfault.SubLimit) h = changed_kind change topic _ h
    change_kind change topic (Err cfault.NotSub) h = changed_kind change topic _ h
    change_kind change topic (Err cfault.OutOfMemory) h = record { rest = keeps; kind = ap kind_told h.stays.kind_stays }
    change_kind change topic (Err cfault.Untold) h = let f = end_at s.ends.places.items in record {
      rest = keeps;
      kind = any_ends no_ends f t.kind ∙ untold_kind _ change topic (over f s.kind) h.steps (over f t.kind) (h.says f (names_so s.ends.places.items)) ∙ any_ends f no_ends s.kind;
    }

    -- ---- a send

    module _ (whole : IsWhole (Some s)) (left : left_of t.kind ≡ left_of s.kind) where
      none_before : (left_of s.kind).to_obey ≡ None
      none_before = ap (λ (l : Leftover). l.to_obey) whole

      none_behind : (left_of t.kind).to_obey ≡ None
      none_behind = ap (λ (l : Leftover). l.to_obey) left ∙ none_before

      pub sends_so : (m : Frames) (a : SendAnswer) → SendsHere K m (lent_in p s) a (lent_in q t) → SendsSo K slot m a p (Some s) q (Some t)
      sends_so m a h =
          let f = end_at s.ends.places.items in
          record {
            steps = h.steps;
            makes = h.makes;
            pattern = over f t.kind;
            sends = subst (λ (k : AnySock). PatternSends (can_write (open_view slot (Some s))) m (over f k) h.steps a (over f t.kind)) (sym (caught_as_is f s.kind none_before))
                (h.sends f (can_write (open_view slot (Some s))) (names_so s.ends.places.items) test_so);
            new_is = view_so (over f t.kind) (pattern_so none_behind);
          }

      pub send_whole : IsWhole (Some t)
      send_whole = left ∙ whole

    pub says_so : (m : Frames) → SaysHere K m (lent_in p s) (lent_in q t) → MakesSome K p (Some s) q (Some t)
    says_so m h = record { steps = h.steps; makes = h.makes }

    pub undone_so : SendUndoneHere (lent_in p s) (lent_in q t) → MakesSome K p (Some s) q (Some t)
    undone_so h = record { steps = []; makes = record { does = tables_are q p t.ends.rows.items s.ends.rows.items h.stays.pipes_stay h.stays.rows_stay; unsealing = refl } }

    -- ---- a receive

    module _ (whole : IsWhole (Some s)) where
      obeys_none : (left_of s.kind).to_obey ≡ None
      obeys_none = ap (λ (l : Leftover). l.to_obey) whole

      -- no message was left to be given
      pub gives_none : (told told_now : List Skip) (r : RecvResult) → ReceiveDone K (left_of s.kind).to_give told told_now (lent_in p s) r (lent_in q t)
          → MatchRecv r (StopsHere K told told_now (lent_in p s) (lent_in q t)) (λ a. ReceivesHere K told told_now (lent_in p s) a (lent_in q t))
      gives_none told told_now r h = subst (λ (k : Option Kept). ReceiveDone K k told told_now (lent_in p s) r (lent_in q t)) (ap (λ (l : Leftover). l.to_give) whole) h

      pub recv_whole : (told told_now : List Skip) (a : RecvAnswer) → ReceivesHere K told told_now (lent_in p s) a (lent_in q t) → IsWhole (Some t)
      recv_whole told told_now a h = let f = end_at s.ends.places.items in h.left_is f ∙ ap left_of (received_as_is f s.kind obeys_none) ∙ whole

      pub receives_so : (told told_now : List Skip) (a : RecvAnswer) → ReceivesHere K told told_now (lent_in p s) a (lent_in q t) → ReceivesSo K slot told told_now a p (Some s) q (Some t)
      receives_so told told_now a h =
          let f = end_at s.ends.places.items in
          record {
            steps = h.steps;
            makes = h.makes;
            skips = h.skips;
            pattern = over f t.kind;
            receives = subst (λ (k : AnySock). PatternReceives (over f k) h.steps h.skips a (over f t.kind)) (received_as_is f s.kind obeys_none ∙ sym (caught_as_is f s.kind obeys_none))
                (h.receives f (names_so s.ends.places.items));
            tells = h.told_are;
            new_is = view_so (over f t.kind) (pattern_so (ap (λ (l : Leftover). l.to_obey) (recv_whole told told_now a h)));
          }

    pub recv_stops_so : (told told_now : List Skip) → StopsHere K told told_now (lent_in p s) (lent_in q t) → MakesSome K p (Some s) q (Some t)
    recv_stops_so told told_now h = record { steps = h.steps; makes = h.makes }

    -- ---- topics

    pub changes_so : (change : Change) (topic : Topic) (a : ChangeAnswer) → IsWhole (Some s) → left_of t.kind ≡ left_of s.kind → ChangesHere K change topic (lent_in p s) a (lent_in q t) → ChangesSo K slot change topic a p (Some s) q (Some t)
    changes_so change topic a whole left h =
        let f = end_at s.ends.places.items in
        let none = ap (λ (l : Leftover). l.to_obey) whole in
        record {
          steps = h.steps;
          makes = h.makes;
          pattern = over f t.kind;
          changes = subst (λ (k : AnySock). PatternChanges change (can_write (open_view slot (Some s))) topic (over f k) h.steps a (over f t.kind)) (sym (caught_as_is f s.kind none))
              (h.changes f (can_write (open_view slot (Some s))) (names_so s.ends.places.items) test_so);
          new_is = view_so (over f t.kind) (pattern_so (ap (λ (l : Leftover). l.to_obey) left ∙ none));
        }

    pub untold_so : (change : Change) (topic : Topic) → ChangeUntoldHere K change topic (lent_in p s) (lent_in q t) → MakesSome K p (Some s) q (Some t)
    untold_so change topic h = record { steps = h.steps; makes = h.makes }

    pub unchanged_so : ChangeUndoneHere (lent_in p s) (lent_in q t) → MakesSome K p (Some s) q (Some t)
    unchanged_so h = record { steps = []; makes = record { does = tables_are q p t.ends.rows.items s.ends.rows.items h.stays.pipes_stay h.stays.rows_stay; unsealing = refl } }

  -- a socket stands behind a call on messages
  pub mailed_stands : (p q : S) (s t : SockCore AnySock W N O I) → IsStanding K p s → mail.IsWhole K (lent_in q t) → KeepsRest s t → IsStanding K q t
  mailed_stands p q s t stands whole rest = still_stands 0 p q s t stands (keeps_else s t rest) (fits_of q t (mailed_so s t rest K p q whole (steady_of p s stands.fits)))
