-- What a core is behind calls of an open socket that they leave open, whether they wanted memory or not.
use Rattle.std.specs.Prelude.{◌≡◌, ◌≢◌, ◌≤◌, ◌==◌, ◌++◌, ℕ, Bool, true, false, List, [], ◌∷◌, Option, Some, None, drop, length, refl}
use Rattle.std.proofs.Common.{arith, sym, ap, ◌∙◌, append-nil, length-append, subst, true≢false}
use Rattle.std.proofs.lemmas.List.Elements.{All-nil}
use Rattle.spec_pattern.specs.declared.answers.Skip.{Skip}
use Rattle.spec_control.specs.Control.{Control, begun, id}
use Rattle.spec_control.specs.ControlRun.{after_all, IsControlRun}
use Rattle.spec_control.specs.Names.{name_of}
use Rattle.spec_run.specs.declared.answer.Answer.{Answer}
use Rattle.spec_run.specs.declared.script.Call.{Call}
use Rattle.spec_run.specs.Act.{Act}
use Rattle.spec_run.specs.OpenSocket.{OpenSock}
use Rattle.msg_pipe.specs.Known.{Known}
use Rattle.desk.specs.declared.given.Given.{Given}
use Rattle.ctl_plane.specs.Past.{control_of}
use Rattle.any_sock.specs.declared.any_sock.AnySock.{AnySock}
use Rattle.sock_core.specs.declared.sock.SockCore.{SockCore}
use Rattle.sock_calls.specs.Calls.{owner_of, MayJoin}
use Rattle.line_socket.specs.View.{open_view}
use Rattle.desk.specs.Coming.{BindsFit}
use Rattle.desk.specs.Desk.{slot_after}
use Rattle.zq_world.specs.Piece.{Piece, AddsActs}
use Rattle.zq_world.specs.Way.{CallsOne, KeepsLent, KeepsOthers}
use Rattle.zq_world.specs.declared.marks.PieceMark.{PieceMark}
use Rattle.socket_laws.specs.Sides.{AreAtEnds}
use Rattle.core_laws.specs.Counting.{TablesGoOn}
use Rattle.plain_core.specs.Dropped.{CountsTold}
use Rattle.closed_ends.specs.declared.sockets.ClosedSockets.{ClosedSockets}
use Rattle.plain_desk.specs.Lent.{coming_to, moments_of, HasSocket, IsOneOrder, Lent}
use Rattle.socket_laws.proofs.SocketLemmas.{is_in}
use Rattle.line_socket.specs.Owned.{parts, view_of, Agrees as IsLent, IsLentTo}
use Rattle.line_socket.specs.Ready.{IsReady}
use Rattle.core_laws.specs.Agrees.{AgreesIn}
use Rattle.core_laws.specs.Calls.{for_caller}
use Rattle.core_laws.specs.Rest.{LeavesRest}
use Rattle.core_laws.proofs.SilentLemmas.{one_order_of}
use Rattle.ctl_plane.specs.Giving.{AreOnTheirWay}
use Rattle.desk.specs.TakingOver.{IsGivenWith}
use Rattle.socket_laws.specs.Asked.{WereAsked}
use Rattle.plain_core.specs.Agreeing.{as_open, was_made, Agrees, IsAgreed}
use Rattle.plain_core.specs.CallLaws.{CallLaws}
use Rattle.plain_core.specs.Calling.{lent_of, CallsOf, IsTold, TellsActs, TellsLine}
use Rattle.plain_core.specs.Sound.{Core, core_of, pieces_in, HasClosed, HasDrops, IsCore, IsSound}
use Rattle.plain_core.proofs.CalledLemmas as called
use Rattle.plain_core.proofs.LentLemmas.{box_of_one, lent_back, ready_for}
use Rattle.plain_core.proofs.OthersLemmas.{control_one}

-- the acts that are told are those of calls
module _ {W N O I S T : Type 0} (K : Known S O I N) (k : ℕ) (v : Core S (Given N O I) N T) (s t : Option (SockCore AnySock W N O I)) (pipes : S) (d : Lent (Given N O I) N T) (marks : List PieceMark) (since : List (Unit {0} × Unit {0})) (wanted : Bool) where
  pub of_line : (asks : Call) (answer : Answer) (told told_now : List Skip) (is : IsTold (TellsLine K k asks answer told told_now (lent_of K v k s) (parts pipes d t since)) v.marks marks) →
      CallsOf K k s t (is.so.called.pump ++ is.so.called.acts) is.so.called.skips v (core_of d pipes marks wanted)
  of_line asks answer told told_now is = record { since = length since; led = is.so.called.led; told = is.behind ∙ ap (λ (ms : List PieceMark). v.marks ++ ms) is.so.are }

  pub of_acts : (is : IsTold (TellsActs K k (lent_of K v k s) (parts pipes d t since)) v.marks marks) → CallsOf K k s t is.so.some.acts [] v (core_of d pipes marks wanted)
  of_acts is = record { since = length since; led = is.so.some.led; told = is.behind ∙ ap (λ (ms : List PieceMark). v.marks ++ ms) is.so.are }

-- what a core is behind them
pub record GoesOn (W : Type 0) {S N O I T : Type 0} (K : Known S O I N) (k : ℕ) (s t : Option (SockCore AnySock W N O I)) (acts : List (Act N T)) (skips : List Skip) (shut : ClosedSockets N O I) (v w : Core S (Given N O I) N T) (ready : Type 0) : Type 0 where
  pub core : IsCore K w
  pub closed : HasClosed K w shut
  pub others : (w.wanted ≡ false → v.wanted ≡ false) → KeepsOthers as_open (Agrees W K) was_made k (as_open s).object v w
  pub lent : (w.wanted ≡ false → ready) → KeepsLent as_open (Agrees W K) k s t w
  pub adds : AddsActs k acts skips (pieces_in v) (pieces_in w)
  pub view : open_view (slot_after (owner_of t) (moments_of w.desk)).0 t ≡ as_open t
  pub ends : AreAtEnds (control_of w.desk.past) (λ i. i == owner_of s) acts
  pub some : owner_of s ≢ 0
  pub one : w.desk.past.workers ≡ 1

module _ (W : Type 0) {S N O I T : Type 0} (K : Known S O I N) (laws : CallLaws W K T) (v w : Core S (Given N O I) N T) (closed : ClosedSockets N O I) (is : IsCore K v) (has : HasClosed K v closed) (order : IsOneOrder v.desk) (behind : IsOneOrder w.desk) (k : ℕ)
    (were : AreOnTheirWay K.in_name (control_of v.desk.past) (name_of v.desk.items) v.desk.past.given) (ways : AreOnTheirWay K.in_name (control_of w.desk.past) (name_of w.desk.items) w.desk.past.given) (acts : List (Act N T)) (skips : List Skip) (since : List (Unit {0} × Unit {0})) where
  module _ (s t : SockCore AnySock W N O I) (agreed : IsAgreed W K v k s) (calls : CallsOf K k (Some s) (Some t) acts skips v w) (lent : IsLentTo K w.pipes w.desk (length since) t) where
    opened : t.is_open ≡ true
    opened = lent.owned.stands.is_open

    same : t.number.0 ≡ s.number.0
    same = calls.led.standing.owner

    its : w.desk.caller ≡ k
    its = calls.led.grows.caller

    order_now : IsOneOrder (for_caller k w.desk)
    order_now = one_order_of k w.desk behind

    one : w.desk.past.workers ≡ 1
    one = calls.led.grows.workers ∙ is.one

    binds_now : BindsFit K.out_name K.in_name (name_of w.desk.items) (coming_to w.desk (slot_after t.number.0 (moments_of w.desk)).0) (MayJoin K w.pipes (Some t))
    binds_now =
        laws.own (for_caller k v.desk) w.desk s t v.pipes w.pipes
        (subst (λ (n : ℕ). LeavesRest K n (for_caller k v.desk) w.desk v.pipes w.pipes) (sym same) (called.rest W K laws v w is order behind k s agreed (Some t) calls.since acts skips calls.led calls.told)) lent.owned
        (subst (λ (n : ℕ). BindsFit K.out_name K.in_name (name_of v.desk.items) (coming_to v.desk (slot_after n (moments_of (for_caller k v.desk))).0) (MayJoin K v.pipes (Some s))) (sym same) agreed.agrees.binds)

    agrees_now : AgreesIn K w.desk k w.pipes t
    agrees_now = subst (λ (n : ℕ). AgreesIn K w.desk n w.pipes t) its (record { owned = lent.owned; asked = lent.were_asked; binds = binds_now })

    has_now : HasSocket (for_caller k w.desk) (id s.number.0)
    has_now = subst (λ (n : ℕ). HasSocket (for_caller k w.desk) (id n)) same agrees_now.owned.is_open

    goes_so : GoesOn W K k (Some s) (Some t) acts skips closed v w (IsReady (parts w.pipes w.desk (Some t) since))
    goes_so =
        let back = lent_back W K w k order_now one in record {
          core = called.core_called W K laws v w is order behind k s agreed (Some t) calls.since acts skips calls.led calls.told lent.told;
          closed = called.closed_called W K laws v w is order behind k s agreed (Some t) calls.since acts skips calls.led calls.told closed has were ways [] (calls.led.given.kept opened ∙ sym (append-nil v.desk.past.given)) (All-nil (IsGivenWith K w.pipes))
              (All-nil (λ (g : Given N O I). g.sealed ≡ true → WereAsked (control_of w.desk.past) (g.end ∷ [])));
          others = called.others_called W K laws v w is order behind k s agreed (Some t) calls.since acts skips calls.led calls.told;
          lent = λ ready. back (Some s) (Some t) agrees_now (λ not_wanted. ready_for k w.pipes w.desk its (Some t) since (ready not_wanted)) same;
          adds = called.adds W K laws v w is order behind k s agreed (Some t) calls.since acts skips calls.led calls.told;
          view = ap (λ (n : ℕ). open_view n (Some t)) (box_of_one w.desk behind one t.number.0 lent.owned.is_open);
          ends = calls.led.standing.at_ends (one_order_of k v.desk order);
          some = (is_in (for_caller k w.desk) order_now s.number.0 has_now).more;
          one = one;
        }

  pub goes_on : (s t : Option (SockCore AnySock W N O I)) → Agrees W K v k s → CallsOf K k s t acts skips v w → IsLent K (parts w.pipes w.desk t since) → GoesOn W K k s t acts skips closed v w (IsReady (parts w.pipes w.desk t since))
  goes_on None t agreed calls lent = absurd agreed
  goes_on (Some s) None agreed calls lent = absurd lent
  goes_on (Some s) (Some t) agreed calls lent = goes_so s t agreed calls lent

-- ---- the call of a line

-- an actor's call of its socket, whose steps are at ends of this object
record CallsAtEnds {N T : Type 0} (c : Control) (o k : ℕ) (asks : Call) (answer : Answer) (told told_now : List Skip) (before after : List (Piece N T)) (was now : OpenSock) : Type 0 where
  one : CallsOne k asks was now answer told told_now before after
  ends : AreAtEnds c (λ i. i == o) (one.pump ++ one.acts)

module _ (W : Type 0) {S N O I T : Type 0} (K : Known S O I N) (tables : TablesGoOn N T) (k : ℕ) (s t : Option (SockCore AnySock W N O I)) (closed : ClosedSockets N O I) (v w : Core S (Given N O I) N T) (ready : Type 0) (order : IsOneOrder w.desk) (asks : Call) (answer : Answer)
    (told told_now : List Skip) (since : List (Unit {0} × Unit {0})) (is : IsTold (TellsLine K k asks answer told told_now (lent_of K v k s) (parts w.pipes w.desk t since)) v.marks w.marks)
    (goes : GoesOn W K k s t (is.so.called.pump ++ is.so.called.acts) is.so.called.skips closed v w ready) (view : view_of (lent_of K v k s) ≡ as_open s) where
  control : control_of w.desk.past ≡ after_all w.desk.items (begun 1)
  control = control_one w.desk order goes.one

  at_ends : CallsAtEnds (after_all w.desk.items (begun 1)) (owner_of s) k asks answer told told_now (pieces_in v) (pieces_in w) (as_open s) (as_open t)
  at_ends =
      subst (λ (x : OpenSock). CallsAtEnds (after_all w.desk.items (begun 1)) (owner_of s) k asks answer told told_now (pieces_in v) (pieces_in w) x (as_open t)) view
      (subst (λ (x : OpenSock). CallsAtEnds (after_all w.desk.items (begun 1)) (owner_of s) k asks answer told told_now (pieces_in v) (pieces_in w) (view_of (lent_of K v k s)) x) goes.view
      (record {
        one = record {
          pump = is.so.called.pump;
          acts = is.so.called.acts;
          skips = is.so.called.skips;
          pumped = is.so.called.pumped;
          pumps = is.so.called.pumps;
          does = is.so.called.does;
          tells = is.so.called.tells;
          adds = goes.adds;
        };
        ends = subst (λ (c : Control). AreAtEnds c (λ i. i == owner_of s) (is.so.called.pump ++ is.so.called.acts)) control goes.ends;
      }))

  pub one_call : CallsOne k asks (as_open s) (as_open t) answer told told_now (pieces_in v) (pieces_in w)
  one_call = at_ends.one

  -- what it dropped is counted
  pub counted : (drops now : List ℕ) → HasDrops v drops → v.wanted ≡ false → CountsTold (control_of w.desk.past) (owner_of s) (drop (length told) told_now) drops now → HasDrops w now
  counted drops now has free noted not_wanted =
      tables.told 1 w.desk.items (subst (λ (n : ℕ). IsControlRun (begun n) w.desk.items) goes.one order.order.run) (owner_of s) goes.some k asks (as_open s) (as_open t) answer told told_now (pieces_in v) (pieces_in w)
      at_ends.one at_ends.ends drops now (has free) (subst (λ (c : Control). CountsTold c (owner_of s) (drop (length told) told_now) drops now) control noted)

  -- there are as many told as before at the least
  pub told_more : length told ≤ length told_now
  told_more = let all = length-append told is.so.called.skips in let same = ap length is.so.called.tells in omega (arith, all, same)

-- where memory was wanting, no drop has to be counted
pub uncounted : {S G N T : Type 0} (w : Core S G N T) (drops : List ℕ) → w.wanted ≡ true → HasDrops w drops
uncounted w drops wanted not_wanted = absurd (true≢false (sym wanted ∙ not_wanted))

-- ---- each way in which a call ends

-- a core is sound, a socket that was lent is its caller's, and others are kept
pub record IsLeftSound (W : Type 0) {S N O I T : Type 0} (K : Known S O I N) (k : ℕ) (s t : Option (SockCore AnySock W N O I)) (closed : ClosedSockets N O I) (drops : List ℕ) (v w : Core S (Given N O I) N T) : Type 0 where
  pub sound : IsSound K w closed drops
  pub lent : KeepsLent as_open (Agrees W K) k s t w
  pub others : KeepsOthers as_open (Agrees W K) was_made k (as_open s).object v w

-- and the call was made
pub record LineIsDone (W : Type 0) {S N O I T : Type 0} (K : Known S O I N) (k : ℕ) (s t : Option (SockCore AnySock W N O I)) (asks : Call) (answer : Answer) (told told_now : List Skip) (closed : ClosedSockets N O I) (drops : List ℕ) (v w : Core S (Given N O I) N T) : Type 0 where
  pub left : IsLeftSound W K k s t closed drops v w
  pub one : CallsOne k asks (as_open s) (as_open t) answer told told_now (pieces_in v) (pieces_in w)

module _ (W : Type 0) {S N O I T : Type 0} (K : Known S O I N) (laws : CallLaws W K T) (v : Core S (Given N O I) N T) (closed : ClosedSockets N O I) (drops : List ℕ) (sound : IsSound K v closed drops) (order : IsOneOrder v.desk) (k : ℕ) (s : Option (SockCore AnySock W N O I))
    (agreed : Agrees W K v k s) (were : AreOnTheirWay K.in_name (control_of v.desk.past) (name_of v.desk.items) v.desk.past.given) (pipes : S) (d : Lent (Given N O I) N T) (behind : IsOneOrder d)
    (ways : AreOnTheirWay K.in_name (control_of d.past) (name_of d.items) d.past.given) (marks : List PieceMark) (t : Option (SockCore AnySock W N O I)) (since : List (Unit {0} × Unit {0})) (lent : IsLent K (parts pipes d t since)) where
  goes_by : (wanted : Bool) (acts : List (Act N T)) (skips : List Skip) → CallsOf K k s t acts skips v (core_of d pipes marks wanted) →
      GoesOn W K k s t acts skips closed v (core_of d pipes marks wanted) (IsReady (parts pipes d t since))
  goes_by wanted acts skips calls = goes_on W K laws v (core_of d pipes marks wanted) closed sound.0 sound.1.0 order behind k were ways acts skips since s t agreed calls lent

  -- memory was wanting in it
  pub acts_left : IsTold (TellsActs K k (lent_of K v k s) (parts pipes d t since)) v.marks marks → (now : List ℕ) → IsLeftSound W K k s t closed now v (core_of d pipes marks true)
  acts_left is now =
      let goes = goes_by true is.so.some.acts [] (of_acts K k v s t pipes d marks since true is) in record {
        sound = (goes.core, (goes.closed, uncounted (core_of d pipes marks true) now refl));
        lent = goes.lent (λ not_wanted. absurd (true≢false not_wanted));
        others = goes.others (λ not_wanted. absurd (true≢false not_wanted));
      }

  -- or behind it
  module _ (asks : Call) (answer : Answer) (told told_now : List Skip) (is : IsTold (TellsLine K k asks answer told told_now (lent_of K v k s) (parts pipes d t since)) v.marks marks) where
    pub line_left : (now : List ℕ) → IsLeftSound W K k s t closed now v (core_of d pipes marks true)
    line_left now =
        let goes = goes_by true (is.so.called.pump ++ is.so.called.acts) is.so.called.skips (of_line K k v s t pipes d marks since true asks answer told told_now is) in record {
          sound = (goes.core, (goes.closed, uncounted (core_of d pipes marks true) now refl));
          lent = goes.lent (λ not_wanted. absurd (true≢false not_wanted));
          others = goes.others (λ not_wanted. absurd (true≢false not_wanted));
        }

    -- or nowhere
    pub line_done : v.wanted ≡ false → IsReady (parts pipes d t since) → view_of (lent_of K v k s) ≡ as_open s → (now : List ℕ) → CountsTold (control_of d.past) (owner_of s) (drop (length told) told_now) drops now →
        LineIsDone W K k s t asks answer told told_now closed now v (core_of d pipes marks v.wanted)
    line_done free ready view now noted =
        let goes = goes_by v.wanted (is.so.called.pump ++ is.so.called.acts) is.so.called.skips (of_line K k v s t pipes d marks since v.wanted asks answer told told_now is) in record {
          left = record {
            sound = (goes.core, (goes.closed, counted W K laws.tables k s t closed v (core_of d pipes marks v.wanted) (IsReady (parts pipes d t since)) behind asks answer told told_now since is goes view drops now sound.1.1 free noted));
            lent = goes.lent (λ not_wanted. ready);
            others = goes.others (λ not_wanted. not_wanted);
          };
          one = one_call W K laws.tables k s t closed v (core_of d pipes marks v.wanted) (IsReady (parts pipes d t since)) behind asks answer told told_now since is goes view;
        }
