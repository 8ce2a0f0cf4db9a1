-- A core goes on over the calls of an open socket that they leave open.
use Rattle.std.specs.Prelude.{◌≡◌, ◌<◌, ◌++◌, ℕ, true, false, List, [], ◌∷◌, Option, Some, All, refl}
use Rattle.std.proofs.Common.{sym, ap, ◌∙◌, subst}
use Rattle.std.proofs.lemmas.List.Elements.{All-append, All-weaker}
use Rattle.spec_pattern.specs.declared.answers.Skip.{Skip}
use Rattle.spec_control.specs.Control.{Control, begun, next_pair}
use Rattle.spec_control.specs.ControlRun.{after_all}
use Rattle.spec_control.specs.Names.{name_of}
use Rattle.spec_control.specs.Moments.{Moment, items_in, moments_by, moments_from}
use Rattle.spec_run.specs.Act.{Act, moments_in}
use Rattle.msg_pipe.specs.Known.{Known}
use Rattle.desk.specs.declared.given.Given.{Given}
use Rattle.desk.specs.TakingOver.{AreGivenWith, IsGivenWith}
use Rattle.ctl_plane.specs.Past.{control_of}
use Rattle.desk.specs.Desk.{HasWhatTheySay}
use Rattle.any_sock.specs.declared.any_sock.AnySock.{AnySock}
use Rattle.sock_core.specs.declared.sock.SockCore.{SockCore}
use Rattle.zq_world.specs.Piece.{Piece, piece_of, AddsActs}
use Rattle.zq_world.specs.Way.{KeepsOthers}
use Rattle.zq_world.specs.Marks.{piece_marks}
use Rattle.socket_laws.specs.Bounds.{TellIdentities}
use Rattle.zq_world.specs.CoreCalls.{IsOnlyReaper, OnlyReaps}
use Rattle.closed_ends.specs.declared.sockets.ClosedSockets.{ClosedSockets}
use Rattle.closed_ends.specs.Has.{all_ends, holding_in}
use Rattle.socket_laws.specs.Asked.{WereAsked}
use Rattle.core_laws.specs.Sealed.{AllAsked}
use Rattle.socket_laws.specs.Calling.{IsExact}
use Rattle.plain_desk.specs.Lent.{moments_of, IsOneOrder, Lent}
use Rattle.line_socket.specs.Leads.{Leads}
use Rattle.line_socket.specs.Leaving.{NamesStandIn}
use Rattle.core_laws.specs.Calls.{for_caller, AreCallsOn}
use Rattle.core_laws.specs.Rest.{LeavesRest}
use Rattle.core_laws.proofs.GrownLemmas.{calls_are}
use Rattle.core_laws.proofs.SilentLemmas.{one_order_of}
use Rattle.core_laws.specs.Done.{ActsDone}
use Rattle.core_laws.specs.Told.{IsToldSo}
use Rattle.core_laws.specs.Reaper.{IsEndElse}
use Rattle.core_laws.proofs.TakenLemmas.{keeps_taken}
use Rattle.core_laws.proofs.UnsealedLemmas.{keeps_unsealed}
use Rattle.ctl_plane.specs.Giving.{AreOnTheirWay}
use Rattle.plain_core.specs.Agreeing.{as_open, was_made, Agrees, IsAgreed}
use Rattle.plain_core.specs.CallLaws.{CallLaws}
use Rattle.plain_core.specs.Calling.{lent_of}
use Rattle.plain_core.specs.Leaving.{moments_at}
use Rattle.plain_core.specs.Sound.{Core, pieces_in, HasClosed, IsCore}
use Rattle.plain_core.proofs.OthersLemmas.{control_one, others_kept}
use Rattle.plain_core.proofs.SoundLemmas.{first_only, more_only}
use Rattle.plain_core.proofs.TakenLemmas.{apart_still, items_back}

-- with one I/O worker, a caller's moments
moments_one : {G N T : Type 0} (d : Lent G N T) → d.past.workers ≡ 1 → (j : ℕ) → moments_at j d ≡ moments_of (for_caller j d)
moments_one d one j = ap (λ (n : ℕ). moments_by j (moments_from (begun n) d.items)) (sym one)

-- the names of a core's pipes
pub named_in : {S O I G N T : Type 0} (K : Known S O I N) (v : Core S G N T) (k : ℕ) → IsCore K v → IsOneOrder v.desk → NamesStandIn K (for_caller k v.desk) v.pipes
named_in K v k is order = record {
  there = is.there;
  distinct = is.distinct;
  made = λ p n named. subst (λ (c : Control). p.pair.0 < next_pair c) (sym (control_one v.desk order is.one)) (is.stands.names_made p n named);
}

module _ (W : Type 0) {S N O I T : Type 0} (K : Known S O I N) (laws : CallLaws W K T) (v w : Core S (Given N O I) N T) (is : IsCore K v) (order : IsOneOrder v.desk) (behind : IsOneOrder w.desk) (k : ℕ)
    (s : SockCore AnySock W N O I) (agreed : IsAgreed W K v k s) (t : Option (SockCore AnySock W N O I)) (since : ℕ) (acts : List (Act N T)) (skips : List Skip)
    (led : Leads K (lent_of K v k (Some s)) acts (record { pipes = w.pipes; desk = w.desk; socket = t; since = since })) (told : w.marks ≡ v.marks ++ piece_marks k false acts skips) where
  pub exact : IsExact K
  exact = laws.exact is.exact

  pub order_old : IsOneOrder (for_caller k v.desk)
  order_old = one_order_of k v.desk order

  named : NamesStandIn K (for_caller k v.desk) v.pipes
  named = named_in K v k is order

  pub named_now : NamesStandIn K w.desk w.pipes
  named_now = led.standing.named is.exact named

  pub one_still : w.desk.past.workers ≡ 1
  one_still = led.grows.workers ∙ is.one

  pub its_caller : w.desk.caller ≡ k
  its_caller = led.grows.caller

  abbrev pub calls_on : AreCallsOn s.number.0 (for_caller k v.desk) w.desk
  calls_on = record { before = order_old; behind = behind; grows = led.grows; more = moments_in acts; moments = led.moments; each = led.standing.each }

  done : ActsDone K s.number.0 (for_caller k v.desk) w.desk v.pipes w.pipes acts
  done = record {
    grows = led.grows;
    moments = led.moments;
    past = led.standing.past exact;
    counted = led.standing.counted exact;
    at_ends = led.standing.at_ends order_old;
  }

  so : IsToldSo K k acts skips (for_caller k v.desk) w.desk w.pipes v.marks w.marks
  so = laws.told s.number.0 (for_caller k v.desk) w.desk v.pipes w.pipes acts order_old behind agreed.agrees.owned.is_open done named_now.made skips v.marks w.marks told (record { one = is.one; all = is.all; stands = is.stands })

  pub adds : AddsActs k acts skips (pieces_in v) (pieces_in w)
  adds = so.adds

  pub rest : LeavesRest K s.number.0 (for_caller k v.desk) w.desk v.pipes w.pipes
  rest = record {
    calls = calls_on;
    had = agreed.agrees.owned.is_open;
    exact = exact;
    named = named;
    named_now = named_now;
    rest = led.standing.rest order_old;
  }

  pub core_called : TellIdentities w.desk.items → IsCore K w
  core_called tells = record {
    one = so.tale.one;
    all = so.tale.all;
    stands = so.tale.stands;
    exact = is.exact;
    distinct = named_now.distinct;
    there = named_now.there;
    identities = tells;
    unsealed = (keeps_unsealed K T).calls s.number.0 (for_caller k v.desk) w.desk v.pipes w.pipes rest is.unsealed;
  }

  -- where there is no act, there is no item more
  idle : acts ≡ [] → led.grows.more ≡ []
  idle none =
      sym (items_back led.grows.more (after_all v.desk.items (begun v.desk.past.workers)))
      ∙ ap (λ (ms : List (Moment N T)). items_in ms) (sym (calls_are (for_caller k v.desk) w.desk s.number.0 calls_on))
      ∙ ap (λ (xs : List (Act N T)). items_in (moments_in xs)) none

  pub others_called : (w.wanted ≡ false → v.wanted ≡ false) → KeepsOthers as_open (Agrees W K) was_made k s.number.0 v w
  others_called wanted =
      others_kept W K k s.number.0 v w calls_on is.one wanted
      (λ j u other agrees. laws.agree s.number.0 (for_caller k v.desk) w.desk v.pipes w.pipes rest j u other (record { owned = agrees.owned; asked = agrees.asked; binds = agrees.binds }))

  -- ---- the reaper's, to which these ends were sent

  module _ (closed : ClosedSockets N O I) (has : HasClosed K v closed) (were : AreOnTheirWay K.in_name (control_of v.desk.past) (name_of v.desk.items) v.desk.past.given) (ways : AreOnTheirWay K.in_name (control_of w.desk.past) (name_of w.desk.items) w.desk.past.given)
      (ends : List (Given N O I)) (sent : w.desk.past.given ≡ v.desk.past.given ++ ends) (with_halves : AreGivenWith K w.pipes ends) (were_asked : AllAsked (control_of w.desk.past) ends) where
    reaps : (j : ℕ) → IsOnlyReaper j (pieces_in w) → HasWhatTheySay j (moments_at j w.desk) (holding_in K.out_name K.in_name closed)
    reaps j only =
        let before = first_only j (pieces_in v) (piece_of k false acts skips) (subst (λ (ps : List (Piece N T)). IsOnlyReaper j ps) adds.added only) in
        subst (λ (ms : List (Moment N T)). HasWhatTheySay j ms (holding_in K.out_name K.in_name closed)) (sym (moments_one w.desk one_still j))
        (laws.keep s.number.0 (for_caller k v.desk) w.desk calls_on agreed.agrees.owned.is_open j (holding_in K.out_name K.in_name closed) (λ i. refl) (had j before))
      where
        had : (j : ℕ) → IsOnlyReaper j (pieces_in v) → HasWhatTheySay j (moments_of (for_caller j v.desk)) (holding_in K.out_name K.in_name closed)
        had j before = subst (λ (ms : List (Moment N T)). HasWhatTheySay j ms (holding_in K.out_name K.in_name closed)) (moments_one v.desk is.one j) (has.reaper j before)

    asked_so : (gs : List (Given N O I)) → AllAsked (control_of v.desk.past) gs → AllAsked (control_of w.desk.past) gs
    asked_so gs =
        All-weaker (λ (g : Given N O I). g.sealed ≡ true → WereAsked (control_of v.desk.past) (g.end ∷ [])) (λ (g : Given N O I). g.sealed ≡ true → WereAsked (control_of w.desk.past) (g.end ∷ []))
        (λ g was sealed. laws.asked (for_caller k v.desk) w.desk order_old behind led.grows (g.end ∷ []) (was sealed)) gs

    closed_apart : All (IsEndElse K.in_name s.number.0 w.desk w.desk) (all_ends closed.sockets.items)
    closed_apart =
        laws.apart.closed s.number.0 (for_caller k v.desk) w.desk calls_on agreed.agrees.owned.is_open has.some_reaper.caller v.pipes closed has.sound
        (subst (λ (ms : List (Moment N T)). HasWhatTheySay has.some_reaper.caller ms (holding_in K.out_name K.in_name closed)) (moments_one v.desk is.one has.some_reaper.caller)
        (has.reaper has.some_reaper.caller has.some_reaper.only))

    given_apart : All (IsEndElse K.in_name s.number.0 w.desk w.desk) v.desk.past.given
    given_apart =
        laws.apart.given s.number.0 (for_caller k v.desk) w.desk calls_on agreed.agrees.owned.is_open v.desk.past.given ends were
        (subst (λ (gs : List (Given N O I)). AreOnTheirWay K.in_name (control_of w.desk.past) (name_of w.desk.items) gs) sent ways)

    given_still : AreGivenWith K w.pipes v.desk.past.given
    given_still = laws.stay.given s.number.0 w.desk w.desk behind named_now.distinct v.pipes w.pipes rest.rest.pipes v.desk.past.given given_apart has.given

    pub closed_called : HasClosed K w closed
    closed_called = record {
      some_reaper = record {
        caller = has.some_reaper.caller;
        only = subst (λ (ps : List (Piece N T)). IsOnlyReaper has.some_reaper.caller ps) (sym adds.added) (more_only has.some_reaper.caller k (pieces_in v) acts skips has.some_reaper.only);
      };
      reaper = reaps;
      sound = laws.stay.sound s.number.0 w.desk w.desk behind named_now.distinct v.pipes w.pipes rest.rest.pipes closed.sockets.items closed_apart has.sound;
      indexed = has.indexed;
      given = subst (λ (gs : List (Given N O I)). AreGivenWith K w.pipes gs) (sym sent) (All-append (IsGivenWith K w.pipes) v.desk.past.given ends given_still with_halves);
      asked = asked_so (all_ends closed.sockets.items) has.asked;
      given_asked =
          subst (λ (gs : List (Given N O I)). AllAsked (control_of w.desk.past) gs) (sym sent)
          (All-append (λ (g : Given N O I). g.sealed ≡ true → WereAsked (control_of w.desk.past) (g.end ∷ [])) v.desk.past.given ends (asked_so v.desk.past.given has.given_asked) were_asked);
      taken = (keeps_taken (Given N O I) N T).calls s.number.0 (for_caller k v.desk) w.desk calls_on agreed.agrees.owned.is_open (holding_in K.out_name K.in_name closed) has.taken;
      apart = λ j only.
          apart_still (for_caller k v.desk) w.desk order_old behind led.grows j (pieces_in v) skips acts idle (subst (λ (ps : List (Piece N T)). OnlyReaps j ps) adds.added only) (has.apart j);
    }
