-- That a request of a listener or a session that makes nothing adds its event.
use Rattle.std.specs.Prelude.{◌≡◌, ◌<◌, ◌-◌, ◌+◌, ◌&&◌, ◌++◌, ◌∷◌, [], ℕ, Bool, true, false, not, cond, List, Option, Some, None, length, sum_by, refl}
use Rattle.std.proofs.Common.{arith, sym, ap, ◌∙◌, subst}
use Rattle.std.proofs.lemmas.Bool.{eq-eqb}
use Rattle.std.proofs.lemmas.List.{append-nil}
use Rattle.std.proofs.lemmas.List.Sums.{get_or-le-sum_by}
use Rattle.zq_base.specs.declared.ids.EndId.{EndId}
use Rattle.zq_base.specs.declared.ids.ObjId.{ObjId}
use Rattle.spec_control.specs.declared.end.Reason.{Reason}
use Rattle.spec_control.specs.declared.end.Reason.TheVariants.{Closed, BadId, Second, Linger, Link}
use Rattle.spec_control.specs.declared.entry.Answered.{Answered}
use Rattle.spec_control.specs.declared.entry.Did.{Did}
use Rattle.spec_control.specs.declared.entry.Did.TheVariants.{Asked}
use Rattle.spec_control.specs.declared.entry.Joining.{Joining}
use Rattle.spec_control.specs.declared.object.ObjKind.{ObjKind}
use Rattle.spec_control.specs.declared.object.ObjKind.TheVariants.{Root, Socket, Listener, Session}
use Rattle.spec_control.specs.declared.request.Req.{Req}
use Rattle.spec_control.specs.declared.request.Req.TheVariants.{AskEnd, AskOver, OutputOver}
use Rattle.spec_control.specs.declared.request.Reply.TheVariants.{Done}
use Rattle.spec_control.specs.declared.stage.Stage.{Stage}
use Rattle.spec_control.specs.declared.stage.Stage.TheVariants.{Alive, Told, Ending, Finished, Cleared}
use Rattle.spec_control.specs.Names.{name_of}
use Rattle.spec_control.specs.Stage.{has_ended, is_ending, is_unused}
use Rattle.spec_control.specs.Row.{Row, nobody, AsksForLink, AsksForLinger, is_session, is_unowned, owner_fits}
use Rattle.spec_control.specs.Rows.{obj}
use Rattle.spec_control.specs.Control.{Control, ask, owner_of, try_end}
use Rattle.spec_control.specs.After.{after, owner_or_root, uses_reason}
use Rattle.spec_control.specs.Reply.{reply_of}
use Rattle.spec_control.specs.ControlRun.{Fits, MayAsk, MayAskEnd, MayAskOver, MayBeOver, MayGive, all_pipes, request_joins}
use Rattle.control_laws.proofs.GoLemmas.{ask_goes, one}
use Rattle.control_laws.proofs.ListLemmas.{never, and, placed}
use Rattle.control_laws.proofs.SoundLemmas.{ending_there}
use Rattle.control_laws.specs.History.{entries_made, is_foreseen}
use Rattle.control_laws.specs.Move.{LinkMoves}
use Rattle.control_laws.specs.OwnMoves.{request_moves}
use Rattle.control_laws.specs.Room.{move_room, row_to_come, slots_of, up_to_come}
use Rattle.desk.specs.declared.given.Given.{Given}
use Rattle.desk.specs.declared.load.Load.{Load}
use Rattle.desk.specs.Heard.{over_in}
use Rattle.desk.specs.Holding.{HearsMore, Holding}
use Rattle.desk.specs.Joins.{KeepsObjects}
use Rattle.desk.specs.Lent.{HasAll}
use Rattle.desk.specs.Turns.{HasTurned}
use Rattle.ctl_state.specs.declared.state.State.{State}
use Rattle.ctl_state.specs.Boxes.{mail_at}
use Rattle.ctl_state.specs.Stands.{Stands}
use Rattle.ctl_moves.specs.Processing.{IsSilent}
use Rattle.ctl_moves.specs.OwnAsking.{AsksOwn, EndsOver, MayAskOwn, MayAskOwner, MayEndOver}
use Rattle.ctl_moves.specs.Turning.{PutsLoaded, TurnsOnce}
use Rattle.ctl_moves.proofs.BareLemmas.{ack_to_come}
use Rattle.ctl_moves.proofs.BetweenLemmas.{StayBetween, goes_between, stay_on}
use Rattle.ctl_moves.proofs.FindLemmas.{loaded_capacity}
use Rattle.ctl_moves.proofs.NameLemmas.{same_lists}
use Rattle.ctl_moves.proofs.RootLemmas.{all_fit}
use Rattle.ctl_plane.specs.Carried.{given_in, IsPlane}
use Rattle.ctl_plane.specs.Coming.{ComesWith}
use Rattle.ctl_plane.specs.Hearing.{HasWhat}
use Rattle.ctl_plane.specs.Past.{Past, control_of, items_of, with_event}
use Rattle.ctl_plane.proofs.ComeLemmas.{aside_comes, objects_come}
use Rattle.ctl_plane.proofs.DeliverLemmas.{loaded_carried, loaded_given}
use Rattle.ctl_plane.proofs.EventLemmas.{MakesNothing, has_entry, kept_past, objects_made, one_foreseen, pairs_drawn}
use Rattle.ctl_plane.proofs.OwedLemmas.{binds_put}
use Rattle.ctl_plane.proofs.PlaneLemmas.{one_plane, tells_no_names}
use Rattle.ctl_plane.proofs.SilentLemmas.{silent_answered}
use Rattle.ctl_plane.proofs.StruckLemmas.{has_then}
use Rattle.ctl_plane.proofs.ToldLemmas.{event_told}

-- ---- a request that may come, that is done, and that makes nothing
record IsPlain (c : Control) (req : Req) : Type 0 where
  pub may : MayAsk c req
  pub reply : Done ≡ reply_of c req
  pub joins : request_joins c req ≡ []
  pub foreseen : is_foreseen req ≡ true
  pub entries : entries_made c req ≡ 0
  pub room : (slot : ℕ → ℕ) (m : ℕ) → sum_by (move_room slot m) (request_moves c req) ≡ 0
  pub objects : sum_by objects_made (request_moves c req) ≡ 0
  pub pairs : sum_by pairs_drawn (request_moves c req) ≡ 0
  pub binds : sum_by binds_put (request_moves c req) ≡ 0

over_plain : (c : Control) (o : ObjId) → MayAskOver (obj c.rows o.0) → IsPlain c (AskOver o)
over_plain c o may = record { may = may; reply = refl; joins = refl; foreseen = refl; entries = refl; room = λ slot m. refl; objects = refl; pairs = refl; binds = refl }

output_plain : (c : Control) (o : ObjId) → MayBeOver c o.0 → IsPlain c (OutputOver o)
output_plain c o may = record { may = may; reply = refl; joins = refl; foreseen = refl; entries = refl; room = λ slot m. refl; objects = refl; pairs = refl; binds = refl }

end_plain : (c : Control) (e : EndId) (reason : Reason) → MayAskEnd c e reason → IsPlain c (AskEnd e reason)
end_plain c e Closed may = record { may = may; reply = refl; joins = refl; foreseen = refl; entries = refl; room = λ slot m. refl; objects = refl; pairs = refl; binds = refl }
end_plain c e BadId may = record { may = may; reply = refl; joins = refl; foreseen = refl; entries = refl; room = λ slot m. refl; objects = refl; pairs = refl; binds = refl }
end_plain c e Second may = record { may = may; reply = refl; joins = refl; foreseen = refl; entries = refl; room = λ slot m. refl; objects = refl; pairs = refl; binds = refl }
end_plain c e Linger may = record { may = may; reply = refl; joins = refl; foreseen = refl; entries = refl; room = λ slot m. refl; objects = refl; pairs = refl; binds = refl }
end_plain c e Link may = record { may = may; reply = refl; joins = refl; foreseen = refl; entries = refl; room = λ slot m. refl; objects = refl; pairs = refl; binds = refl }

module _ {N O I S : Type 0} (out_name : O → N) (in_name : I → N) (s : State (Load N O I)) (p : Past (Given N O I) N S) (spare : ℕ) (req : Req) (a : Answered N S) (plane : IsPlane out_name in_name s p spare) (silent : IsSilent a) (plain : IsPlain (control_of p) req) where
  abbrev did : Did N S
  did = Asked req Done a

  fits : Fits (control_of p) did
  fits = record { may = (plain.may, plain.reply); answered = silent_answered (control_of p) did silent plain.joins (ap all_pipes plain.joins) silent.settled silent.output }

  nothing : MakesNothing (control_of p) did
  nothing = record {
    no_room = λ m. plain.room (slots_of (after did (control_of p)).rows) m;
    no_entries = (let none = plain.entries in omega (arith, none));
    no_objects = plain.objects;
    no_pairs = plain.pairs;
    foreseen = ap (λ (b : Bool). cond b 1 0) plain.foreseen;
  }

  -- its entry was foreseen
  plain_entry : 0 < spare
  plain_entry = has_entry s p did spare plane.history fits nothing.foreseen nothing.no_entries

  module _ (t : State (Load N O I)) (stands : Stands t (after did (control_of p))) (puts : PutsLoaded out_name in_name (name_of (items_of p)) s.boxes t.boxes) (lists : t.objects.lists ≡ s.objects.lists) where
    plain_plane : IsPlane out_name in_name t (with_event did p) (spare - 1)
    plain_plane =
        one_plane out_name in_name s t p did spare (spare - 1) plane
        (one_foreseen s t p did spare plane.history fits stands nothing (λ m. (let put = loaded_capacity out_name in_name (name_of (items_of p)) s.boxes t.boxes puts m in omega (arith, put))) puts.many)
        (tells_no_names (items_of p) did silent) (loaded_carried out_name in_name (items_of p) (control_of p) s.boxes t.boxes puts plane.carried)
        (same_lists s.objects.lists t.objects.lists lists) plain.binds

    plain_given : given_in t.boxes ≡ given_in s.boxes
    plain_given = loaded_given out_name in_name (name_of (items_of p)) s.boxes t.boxes puts

-- ---- who asks its owner
module _ {N O I S : Type 0} (out_name : O → N) (in_name : I → N) (s : State (Load N O I)) (p : Past (Given N O I) N S) (spare : ℕ) (o : ObjId) (a : Answered N S) (plane : IsPlane out_name in_name s p spare) (may : MayAskOver (obj (control_of p).rows o.0)) (silent : IsSilent a) where
  abbrev row : Row
  row = obj (control_of p).rows o.0

  unused_is : is_unused (obj (control_of p).rows o.0).request ≡ true
  unused_is = ap is_unused may.first_time

  there : o.0 < length (control_of p).rows.objects
  there = placed (λ (r : Row). not (is_unused r.request)) (control_of p).rows.objects nobody o.0 refl (ap not unused_is)

  -- what it may still tell its owner has its part in what may come
  pub owner_spare : 0 < (mail_at s.boxes (obj (control_of p).rows (owner_or_root (obj (control_of p).rows o.0).owner)).slot).spare
  owner_spare =
      let m = (obj (control_of p).rows (owner_or_root row.owner)).slot in
      let part = get_or-le-sum_by (row_to_come (slots_of (control_of p).rows) m) (control_of p).rows.objects o.0 nobody there in
      let here = ap {B = ℕ} (λ (b : Bool). cond b (up_to_come row) 0) (eq-eqb m m refl) in
      let lives = ap {B = ℕ} (λ (b : Bool). cond b 0 (cond (is_unused row.request) 1 0 + cond (is_unowned row.owner) 0 1)) may.taken_in.lives in
      let one = ap {B = ℕ} (λ (b : Bool). cond b 1 0) unused_is in
      let most = plane.history.room m in
      omega (arith, part, here, lives, one, most)

  abbrev pub may_ask_owner : MayAskOwner s o.0 (control_of p)
  may_ask_owner = record { lives = may.taken_in.lives; unused = may.first_time; room = owner_spare }

  pub over_entry : 0 < spare
  over_entry = plain_entry out_name in_name s p spare (AskOver o) a plane silent (over_plain (control_of p) o may)

  module _ (t : State (Load N O I)) (stands : Stands t (after (Asked (AskOver o) Done a) (control_of p))) (puts : PutsLoaded out_name in_name (name_of (items_of p)) s.boxes t.boxes) (lists : t.objects.lists ≡ s.objects.lists) where
    pub over_plane : IsPlane out_name in_name t (with_event (Asked (AskOver o) Done a) p) (spare - 1)
    over_plane = plain_plane out_name in_name s p spare (AskOver o) a plane silent (over_plain (control_of p) o may) t stands puts lists

    pub over_given : given_in t.boxes ≡ given_in s.boxes
    over_given = plain_given out_name in_name s p spare (AskOver o) a plane silent (over_plain (control_of p) o may) t stands puts lists

-- ---- a session whose output is over
ending_lives : (t : Stage) (b : Bool) → (is_ending t && b) ≡ true → has_ended t ≡ false
ending_lives Alive b h = absurd (never h)
ending_lives Told b h = absurd (never h)
ending_lives Ending b h = refl
ending_lives Finished b h = absurd (never h)
ending_lives Cleared b h = absurd (never h)

-- a session is no root
owned_session : (k : ObjKind) (v : Option ℕ) → is_session k ≡ true → owner_fits k v ≡ true → v ≡ None → ⊥
owned_session Session None is fits none = never fits
owned_session Session (Some w) is fits none = some_none none
  where
    some_none : Some w ≡ None → ⊥
    some_none f = Prim.grind arith
owned_session Root v is fits none = never is
owned_session (Socket kind) v is fits none = never is
owned_session Listener v is fits none = never is

module _ {N O I S : Type 0} (out_name : O → N) (in_name : I → N) (s : State (Load N O I)) (p : Past (Given N O I) N S) (spare : ℕ) (o : ObjId) (plane : IsPlane out_name in_name s p spare) (may : MayBeOver (control_of p) o.0) (h : Holding N) where
  pub over_lives : has_ended (obj (control_of p).rows o.0).stage ≡ false
  over_lives = ending_lives (obj (control_of p).rows o.0).stage _ may.may

  pub over_above : o.0 ≡ 0 → ⊥
  over_above root =
      owned_session (obj (control_of p).rows o.0).kind (obj (control_of p).rows o.0).owner may.session (all_fit (control_of p).rows (kept_past p plane.history.run).reached o.0)
      (ap (λ (n : ℕ). (obj (control_of p).rows n).owner) root ∙ (kept_past p plane.history.run).shape.root)

  abbrev pub may_end_over : HasWhat p h → h.holds o.0 ≡ true → MayEndOver s h o.0
  may_end_over has lent = record {
    control = control_of p;
    names = name_of (items_of p);
    stands = plane.history.stands;
    has = has;
    lent = lent;
    above = over_above;
    may = may.may;
    room = λ w of. (let one = ack_to_come (control_of p) o.0 (ending_there (control_of p).rows o.0 may.may) w of over_lives in let most = plane.history.room (obj (control_of p).rows w).slot in omega (arith, one, most));
  }

  module _ (a : Answered N S) (silent : IsSilent a) where
    abbrev over : Did N S
    over = Asked (OutputOver o) Done a

    pub output_entry : 0 < spare
    output_entry = plain_entry out_name in_name s p spare (OutputOver o) a plane silent (output_plain (control_of p) o may)

    module _ (t : State (Load N O I)) (k : Holding N) (ends : EndsOver out_name in_name (name_of (items_of p)) (control_of p) o s t h k) where
      -- the state then, as the answer says that no output is left
      as_said : (P : Control → Type 0) → P (try_end o.0 false (control_of p)) → P (after over (control_of p))
      as_said P so = subst (λ (b : Bool). P (try_end o.0 b (control_of p))) (sym silent.output) so

      pub output_plane : IsPlane out_name in_name t (with_event over p) (spare - 1)
      output_plane = plain_plane out_name in_name s p spare (OutputOver o) a plane silent (output_plain (control_of p) o may) t (as_said (λ d. Stands t d) ends.led.stands) ends.led.puts ends.led.lists

      pub output_given : given_in t.boxes ≡ given_in s.boxes
      output_given = loaded_given out_name in_name (name_of (items_of p)) s.boxes t.boxes ends.led.puts

      pub output_keeps : HasWhat (with_event over p) k
      output_keeps = has_then p over (after over (control_of p)) k refl (as_said (λ d. HasAll (name_of (items_of p)) d k) ends.led.has)

      pub output_turned : HasTurned (control_of p) (control_of (with_event over p)) h k
      output_turned = event_told p plane.history.run over h k (as_said (λ d. TurnsOnce (control_of p) d h k) ends.turned)

      pub output_comes : ComesWith p (with_event over p) h k
      output_comes =
          objects_come p over h k (ends.joined ∙ sym (ap (λ (js : List (Joining N)). h.joined ++ js) silent.joined ∙ append-nil h.joined))
          (as_said (λ d. KeepsObjects (control_of p) d h k) ends.objects) (as_said (λ d. HearsMore (over_in o (control_of p) d) h k) ends.heard)

-- ---- a session asks its end
uses_still : (c : Control) (i : ℕ) (reason : Reason) → has_ended (obj c.rows i).stage ≡ false → MayGive reason (obj c.rows i) → StayBetween c.rows (uses_reason reason i c).rows
uses_still c i Closed alive g = absurd g
uses_still c i BadId alive g = absurd g
uses_still c i Second alive g = absurd g
uses_still c i Linger alive g = goes_between (LinkMoves i AsksForLinger ∷ []) c (uses_reason Linger i c) (one (LinkMoves i AsksForLinger) c (uses_reason Linger i c) (and _ _ (ap not g.1) (ap not alive)) refl refl) refl
uses_still c i Link alive g = goes_between (LinkMoves i AsksForLink ∷ []) c (uses_reason Link i c) (one (LinkMoves i AsksForLink) c (uses_reason Link i c) (and _ _ (ap not g.1) (ap not alive)) refl refl) refl

module _ {N O I S : Type 0} (out_name : O → N) (in_name : I → N) (s : State (Load N O I)) (p : Past (Given N O I) N S) (spare : ℕ) (e : EndId) (reason : Reason) (plane : IsPlane out_name in_name s p spare) (may : MayAskEnd (control_of p) e reason) (h : Holding N) where
  abbrev pub may_ask_own : HasWhat p h → h.holds (owner_of (control_of p) e) ≡ true → MayAskOwn s h e reason
  may_ask_own has lent = record {
    control = control_of p;
    names = name_of (items_of p);
    stands = plane.history.stands;
    has = has;
    kept = kept_past p plane.history.run;
    lent = lent;
    lives = may.taken_in.lives;
    there = may.there;
    gives = may.gives;
    room = plane.history.room;
  }

  module _ (a : Answered N S) (silent : IsSilent a) where
    abbrev asks : Did N S
    asks = Asked (AskEnd e reason) Done a

    pub end_entry : 0 < spare
    end_entry = plain_entry out_name in_name s p spare (AskEnd e reason) a plane silent (end_plain (control_of p) e reason may)

    module _ (t : State (Load N O I)) (k : Holding N) (own : AsksOwn out_name in_name (name_of (items_of p)) (control_of p) e reason s t h k) where
      abbrev used : Control
      used = uses_reason reason (owner_of (control_of p) e) (control_of p)

      pub end_plane : IsPlane out_name in_name t (with_event asks p) (spare - 1)
      end_plane = plain_plane out_name in_name s p spare (AskEnd e reason) a plane silent (end_plain (control_of p) e reason may) t own.led.stands own.led.puts own.led.lists

      pub end_given : given_in t.boxes ≡ given_in s.boxes
      end_given = loaded_given out_name in_name (name_of (items_of p)) s.boxes t.boxes own.led.puts

      pub end_keeps : HasWhat (with_event asks p) k
      end_keeps = has_then p asks (after asks (control_of p)) k refl own.led.has

      pub end_turned : HasTurned (control_of p) (control_of (with_event asks p)) h k
      end_turned = event_told p plane.history.run asks h k own.turned

      still : StayBetween (control_of p).rows (after asks (control_of p)).rows
      still =
          stay_on (control_of p).rows used.rows (after asks (control_of p)).rows
          (uses_still (control_of p) (owner_of (control_of p) e) reason may.taken_in.lives may.gives) (goes_between [] used (ask reason false e used) (ask_goes reason false e used) refl)

      pub end_comes : ComesWith p (with_event asks p) h k
      end_comes = aside_comes p asks h k silent.joined own.joins.joined own.joins.holds own.joins.kinds still (λ b n. refl) own.joins.heard
