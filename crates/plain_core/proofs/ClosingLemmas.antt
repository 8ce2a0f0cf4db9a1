-- A core goes on over the close of an open socket.
use Rattle.std.specs.Prelude.{◌≡◌, ◌++◌, ℕ, false, List, [], ◌∷◌, Option, Some, None, length}
use Rattle.std.proofs.Common.{append-nil, sym, ap, ◌∙◌, subst}
use Rattle.spec_control.specs.declared.entry.Item.{Item}
use Rattle.spec_control.specs.declared.entry.Did.TheVariants.{Asked as DidAsk}
use Rattle.spec_control.specs.declared.entry.Item.TheVariants.{Event}
use Rattle.spec_control.specs.declared.request.Req.TheVariants.{Close}
use Rattle.spec_control.specs.declared.request.Reply.TheVariants.{Done}
use Rattle.spec_control.specs.Control.{Control, begun, id}
use Rattle.spec_control.specs.ControlRun.{after_all}
use Rattle.spec_control.specs.Names.{name_of}
use Rattle.spec_control.specs.Moments.{Moment, items_in, moments_from}
use Rattle.spec_run.specs.Act.{moments_in}
use Rattle.spec_run.specs.Event.{acts_said}
use Rattle.replay_laws.proofs.LookLemmas.{moments_said}
use Rattle.msg_pipe.specs.Known.{Known}
use Rattle.desk.specs.declared.given.Given.{Given}
use Rattle.ctl_plane.specs.Giving.{AreOnTheirWay}
use Rattle.ctl_plane.specs.Past.{control_of}
use Rattle.any_sock.specs.declared.any_sock.AnySock.{AnySock}
use Rattle.sock_core.specs.declared.sock.SockCore.{SockCore}
use Rattle.zq_world.specs.Piece.{Piece, AddsActs}
use Rattle.zq_world.specs.Way.{ClosesSo, KeepsOthers}
use Rattle.zq_world.specs.declared.marks.PieceMark.{PieceMark}
use Rattle.socket_laws.specs.Bounds.{TellIdentities}
use Rattle.core_laws.specs.Counting.{CountsDrops}
use Rattle.closed_ends.specs.declared.sockets.ClosedSockets.{ClosedSockets}
use Rattle.plain_desk.specs.Lent.{IsOneOrder, Lent}
use Rattle.line_socket.specs.Owned.{parts}
use Rattle.core_laws.specs.Calls.{for_caller}
use Rattle.core_laws.proofs.GrownLemmas.{calls_are}
use Rattle.plain_core.specs.Agreeing.{as_open, was_made, Agrees, IsAgreed}
use Rattle.plain_core.specs.CallLaws.{CallLaws}
use Rattle.plain_core.specs.Calling.{lent_of, CallsOf, IsTold, TellsClose, SendsAsked}
use Rattle.plain_core.specs.Sound.{Core, core_of, pieces_in, IsSound}
use Rattle.plain_core.proofs.CalledLemmas as called
use Rattle.plain_core.proofs.SoundLemmas.{tells_more}
use Rattle.plain_core.proofs.TakenLemmas.{items_back}

module _ {N T : Type 0} where
  said_alone : (m : Moment N T) → moments_in (acts_said m) ≡ m ∷ []
  said_alone m = ap moments_in (sym (append-nil (acts_said m))) ∙ moments_said m []

  -- the items that are more are the request
  one_more : (c : Control) (more : List (Item N T)) (m : Moment N T) → moments_in (acts_said m) ≡ moments_from c more → more ≡ m.item ∷ []
  one_more c more m said = sym (items_back more c) ∙ ap items_in (sym said ∙ said_alone m)

-- what a core is behind a close
pub record GoesShut (W : Type 0) {S N O I T : Type 0} (K : Known S O I N) (k : ℕ) (s : Option (SockCore AnySock W N O I)) (closed : ClosedSockets N O I) (drops : List ℕ) (v w : Core S (Given N O I) N T) : Type 0 where
  pub sound : IsSound K w closed drops
  pub others : KeepsOthers as_open (Agrees W K) was_made k (as_open s).object v w
  pub closes : ClosesSo k (as_open s).object (pieces_in v) (pieces_in w)

module _ (W : Type 0) {S N O I T : Type 0} (K : Known S O I N) (laws : CallLaws W K T) (v : Core S (Given N O I) N T) (closed : ClosedSockets N O I) (drops : List ℕ) (sound : IsSound K v closed drops) (order : IsOneOrder v.desk) (k : ℕ) (pipes : S) (d : Lent (Given N O I) N T) (marks : List PieceMark)
    (behind : IsOneOrder d) (were : AreOnTheirWay K.in_name (control_of v.desk.past) (name_of v.desk.items) v.desk.past.given) (ways : AreOnTheirWay K.in_name (control_of d.past) (name_of d.items) d.past.given) (asked : SendsAsked (for_caller k v.desk) d)
    (t : Option (SockCore AnySock W N O I)) (since : List (Unit {0} × Unit {0})) where
  module _ (s : SockCore AnySock W N O I) (agreed : IsAgreed W K v k s) (is : IsTold (TellsClose K k (lent_of K v k (Some s)) (parts pipes d t since)) v.marks marks) where
    calls : CallsOf K k (Some s) t (acts_said is.so.closes.closed) [] v (core_of d pipes marks v.wanted)
    calls = record { since = length since; led = is.so.closes.led; told = is.behind ∙ ap (λ (ms : List PieceMark). v.marks ++ ms) is.so.are }

    items : d.items ≡ v.desk.items ++ Event (record { by = is.so.closes.request.by; did = DidAsk (Close (id s.number.0)) Done is.so.closes.request.answered }) ∷ []
    items =
        calls.led.grows.items
        ∙ ap (λ (xs : List (Item N T)). v.desk.items ++ xs)
        (one_more (after_all v.desk.items (begun v.desk.past.workers)) calls.led.grows.more is.so.closes.closed
        (calls_are (for_caller k v.desk) d s.number.0 (called.calls_on W K laws v (core_of d pipes marks v.wanted) sound.0 order behind k s agreed t calls.since (acts_said is.so.closes.closed) [] calls.led calls.told))
        ∙ ap (λ (x : Item N T). x ∷ []) is.so.closes.request.item_is)

    tells : TellIdentities d.items
    tells =
        subst TellIdentities (sym items)
        (tells_more v.desk.items (Event (record { by = is.so.closes.request.by; did = DidAsk (Close (id s.number.0)) Done is.so.closes.request.answered })) sound.0.identities (tt, tt))

    adds : AddsActs k (acts_said is.so.closes.closed) [] (pieces_in v) (pieces_in (core_of d pipes marks v.wanted))
    adds = called.adds W K laws v (core_of d pipes marks v.wanted) sound.0 order behind k s agreed t calls.since (acts_said is.so.closes.closed) [] calls.led calls.told

    goes_so : GoesShut W K k (Some s) closed drops v (core_of d pipes marks v.wanted)
    goes_so = let sent = calls.led.given.sent in record {
      sound = (
        called.core_called W K laws v (core_of d pipes marks v.wanted) sound.0 order behind k s agreed t calls.since (acts_said is.so.closes.closed) [] calls.led calls.told tells,
        (
          called.closed_called W K laws v (core_of d pipes marks v.wanted) sound.0 order behind k s agreed t calls.since (acts_said is.so.closes.closed) [] calls.led calls.told closed sound.1.0 were ways sent.ends sent.behind sent.given (asked sent.ends sent.behind),
          (λ not_wanted. subst (λ (ps : List (Piece N T)). CountsDrops drops ps) (sym adds.added) (laws.tables.none drops (pieces_in v) k false (acts_said is.so.closes.closed) (sound.1.1 not_wanted))),
        ),
      );
      others = called.others_called W K laws v (core_of d pipes marks v.wanted) sound.0 order behind k s agreed t calls.since (acts_said is.so.closes.closed) [] calls.led calls.told (λ not_wanted. not_wanted);
      closes = record { closed = is.so.closes.closed; request = is.so.closes.request; adds = adds };
    }

  pub goes_shut : (s : Option (SockCore AnySock W N O I)) → Agrees W K v k s → IsTold (TellsClose K k (lent_of K v k s) (parts pipes d t since)) v.marks marks → GoesShut W K k s closed drops v (core_of d pipes marks v.wanted)
  goes_shut None agreed is = absurd agreed
  goes_shut (Some s) agreed is = goes_so s agreed is
