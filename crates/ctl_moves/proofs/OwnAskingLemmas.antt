-- What a listener or a session asks without making anything.
use Rattle.std.specs.Prelude.{◌≡◌, ◌<◌, ◌≤◌, ◌&&◌, ◌++◌, ◌∷◌, [], ℕ, Bool, true, false, not, List, Option, if◌then◌else◌, length, slice_index_or, sum_by, refl}
use Rattle.std.specs.List.{list_any}
use Rattle.std.proofs.Common.{arith, sym, ap, ◌∙◌, subst}
use Rattle.std.proofs.lemmas.Bool.{ne_eqb}
use Rattle.zq_base.specs.declared.ids.EndId.{EndId}
use Rattle.zq_base.specs.declared.ids.ObjId.{ObjId}
use Rattle.mailbox.specs.Mail.{Mail}
use Rattle.spec_control.specs.declared.end.EndEvent.TheVariants.{Asked}
use Rattle.spec_control.specs.declared.end.Reason.{Reason}
use Rattle.spec_control.specs.declared.end.Reason.TheVariants.{Closed, BadId, Second, Linger, Link}
use Rattle.spec_control.specs.declared.letter.Letter.{Letter}
use Rattle.spec_control.specs.declared.stage.Stage.{Stage}
use Rattle.spec_control.specs.declared.stage.Stage.TheVariants.{Alive, Told, Ending, Finished, Cleared}
use Rattle.spec_control.specs.Place.{is_here}
use Rattle.spec_control.specs.Stage.{has_ended, is_ending}
use Rattle.spec_control.specs.Row.{Row, nobody, AsksOver, AsksForLink, AsksForLinger, link_after}
use Rattle.spec_control.specs.Rows.{Rows, PairRow, no_pair, obj, pair, end_owner, end_place}
use Rattle.spec_control.specs.Control.{Control, ask, happens, is_end, link, owner_of, place_of, try_end}
use Rattle.spec_control.specs.After.{owner_or_root, uses_reason}
use Rattle.spec_control.specs.ControlRun.{MayGive}
use Rattle.control_laws.proofs.ListLemmas.{never, and, placed}
use Rattle.control_laws.proofs.StayLemmas.{SameEnds, ends_stay, link_ends_stay, tried}
use Rattle.control_laws.proofs.StepLemmas.{same_slot}
use Rattle.control_laws.proofs.GoLemmas.{one, try_end_goes}
use Rattle.control_laws.proofs.RoomLemmas.{goes_room}
use Rattle.control_laws.proofs.SoundLemmas.{sound_of}
use Rattle.control_laws.specs.Move.{LinkMoves, MovesTo}
use Rattle.control_laws.specs.OwnMoves.{reason_moves}
use Rattle.control_laws.specs.Room.{move_room, slots_of, to_come}
use Rattle.desk.specs.declared.load.Load.{Load}
use Rattle.desk.specs.declared.notice.Notice.{Notice}
use Rattle.desk.specs.declared.notice.Notice.TheVariants as notice
use Rattle.desk.specs.Heard.{over_if, over_in}
use Rattle.desk.specs.Holding.{HearsMore, Holding, IsTold}
use Rattle.desk.specs.Turns.{TurnsBy}
use Rattle.ctl_state.specs.declared.command.Command.{Command}
use Rattle.ctl_state.specs.declared.state.State.{State}
use Rattle.ctl_state.specs.Boxes.{mail_at}
use Rattle.ctl_state.specs.Parts.{sent_to, Tells}
use Rattle.ctl_state.specs.Stands.{Stands, HasRoomForAck, slot_of}
use Rattle.ctl_state.proofs.ReadLemmas.{read_kept}
use Rattle.ctl_moves.specs.Asking.{MayAskOne}
use Rattle.ctl_moves.specs.OwnAsking.{MayAskOwner, MayEndOver, MayAskOwn, EndsOver, AsksOwn, asks_own}
use Rattle.ctl_moves.specs.Turning.{IsLoaded, Leads, PutsLoaded, turn_of}
use Rattle.ctl_moves.proofs.BetweenLemmas.{goes_between}
use Rattle.ctl_moves.proofs.HeardLemmas.{end_between}
use Rattle.ctl_moves.proofs.HolderLemmas.{bare_loaded, ended_has_none, has_same, has_told}
use Rattle.ctl_moves.proofs.KeepLemmas.{ended_now, told_kept}
use Rattle.ctl_moves.proofs.MailLemmas.{puts_sent}
use Rattle.ctl_moves.proofs.OnceLemmas.{told_before, told_none, told_one}
use Rattle.ctl_moves.proofs.TurnedLemmas.{place_same, turns_none}

-- ---- an object asks its owner
module _ {L : Type 0} (s t : State L) (id owner : ObjId) (c : Control) (w : MayAskOwner s id.0 c) (stands : Stands t (link AsksOver id.0 c)) (boxes : t.boxes ≡ s.boxes) (is : owner_or_root (obj c.rows id.0).owner ≡ owner.0) where
  -- there is room for what it tells it
  pub owner_room : 0 < (mail_at t.boxes (slot_of t owner.0)).spare
  owner_room =
      let slot : (obj c.rows owner.0).slot ≡ slot_of t owner.0 =
      sym (read_kept (λ (r : Row). r.slot) c.rows.objects id.0 owner.0 (link_after AsksOver (obj c.rows id.0)) nobody (same_slot AsksOver (obj c.rows id.0)))
      ∙ ap (λ (r : Row). r.slot) (stands.objects.each owner.0) in
      subst (λ (b : List (Mail (Command L))). 0 < (mail_at b (slot_of t owner.0)).spare) (sym boxes)
      (subst (λ (n : ℕ). 0 < (mail_at s.boxes n).spare) (ap (λ (n : ℕ). (obj c.rows n).slot) is ∙ slot) w.room)

module _ {N O I : Type 0} (out_name : O → N) (in_name : I → N) (names : EndId → Option N) where
  -- a command was put with what it is to bring
  pub loaded_sent : (s t u : State (Load N O I)) (k : ℕ) (command : Command (Load N O I)) → IsLoaded out_name in_name names command → t.boxes ≡ s.boxes → 0 < (mail_at t.boxes k).spare → u ≡ sent_to k command t → PutsLoaded out_name in_name names s.boxes u.boxes
  loaded_sent s t u k command fine boxes room is =
      subst (λ (b : List (Mail (Command (Load N O I)))). PutsLoaded out_name in_name names b u.boxes) boxes
      (subst (λ (b : List (Mail (Command (Load N O I)))). PutsLoaded out_name in_name names t.boxes b) (sym (ap (λ (x : State (Load N O I)). x.boxes) is)) (puts_sent out_name in_name names t.boxes k command fine room))

-- ---- who may end has not
ending_lives : (t : Stage) (b : Bool) → (is_ending t && b) ≡ true → has_ended t ≡ false
ending_lives Alive b h = absurd (never h)
ending_lives Told b h = absurd (never h)
ending_lives Ending b h = refl
ending_lives Finished b h = absurd (never h)
ending_lives Cleared b h = absurd (never h)

module _ {N O I : Type 0} (s : State (Load N O I)) (h : Holding N) (id : ObjId) (w : MayEndOver s h id.0) where
  pub over_lives : has_ended (obj w.control.rows id.0).stage ≡ false
  over_lives = ending_lives (obj w.control.rows id.0).stage _ w.may

  pub over_room : HasRoomForAck s id.0
  over_room v of =
      let slot = ap (λ (o : Row). o.slot) (w.stands.objects.each v) in
      subst (λ (n : ℕ). 0 < (mail_at s.boxes n).spare) slot (w.room v (ap (λ (o : Row). o.owner) (w.stands.objects.each id.0) ∙ of))

  pub over_none : h.ends id.0 ≡ []
  over_none = ended_has_none w.names w.control.rows w.control.attached w.control.reasons h id.0 w.may (w.has id.0 w.lent)

  -- ---- it has ended, and its holder was told
  module _ (out_name : O → N) (in_name : I → N) (t : State (Load N O I)) (k : Holding N) (stands : Stands t (try_end id.0 false w.control)) (tells : Tells s t) (told : IsTold id.0 h k) (heard : HearsMore (notice.Over id ∷ []) h k) where
    abbrev now : Control
    now = try_end id.0 false w.control

    over_heard : HearsMore (over_in id w.control now) h k
    over_heard =
        heard
        ∙ ap (λ (ns : List Notice). h.heard ++ ns)
        (sym (ap (over_if id) (end_between id.0 false (obj w.control.rows id.0) w.control over_lives over_lives ∙ w.may) ∙ ap (λ (b : Bool). if b then [] else notice.Over id ∷ []) (ne_eqb id.0 0 w.above)))

    pub ends_over : EndsOver out_name in_name w.names w.control id s t h k
    ends_over = record {
      led = record {
        stands = stands;
        has = has_told w.names now h k id.0 w.lent told (has_same w.names w.control now h (tried id.0 false w.control) w.has);
        puts = bare_loaded out_name in_name w.names s.boxes t.boxes tells.bare;
        lists = tells.lists;
      };
      turned = told_none w.control now h k (place_same w.control now (tried id.0 false w.control).pairs) (turns_none h k told.turns);
      joined = told.turns.joined;
      objects = told_kept w.control now id.0 true h h k (λ i. refl) (λ i. refl) told (λ root. absurd (w.above root)) (λ above. w.lent) (λ no. absurd (never (sym no))) over_lives (λ yes. ended_now id.0 false w.control w.may)
          (goes_between [] w.control now (try_end_goes id.0 false w.control) refl);
      heard = over_heard;
    }

-- ---- a session asks its end
uses_goes : (reason : Reason) (i : ℕ) (c : Control) → has_ended (obj c.rows i).stage ≡ false → MayGive reason (obj c.rows i) → MovesTo (reason_moves reason i) c (uses_reason reason i c)
uses_goes Closed i c lives g = absurd g
uses_goes BadId i c lives g = absurd g
uses_goes Second i c lives g = absurd g
uses_goes Linger i c lives g = one (LinkMoves i AsksForLinger) c (link AsksForLinger i c) (and _ _ (ap not g.1) (ap not lives)) refl refl
uses_goes Link i c lives g = one (LinkMoves i AsksForLink) c (link AsksForLink i c) (and _ _ (ap not g.1) (ap not lives)) refl refl

uses_none : (reason : Reason) (i : ℕ) (slot : ℕ → ℕ) (m : ℕ) → sum_by (move_room slot m) (reason_moves reason i) ≡ 0
uses_none Closed i slot m = refl
uses_none BadId i slot m = refl
uses_none Second i slot m = refl
uses_none Linger i slot m = refl
uses_none Link i slot m = refl

uses_boxes : (reason : Reason) (i : ℕ) (c : Control) → (uses_reason reason i c).boxes ≡ c.boxes
uses_boxes Closed i c = refl
uses_boxes BadId i c = refl
uses_boxes Second i c = refl
uses_boxes Linger i c = refl
uses_boxes Link i c = refl

pub uses_same : (reason : Reason) (i : ℕ) (c : Control) → SameEnds c (uses_reason reason i c)
uses_same Closed i c = ends_stay c
uses_same BadId i c = ends_stay c
uses_same Second i c = ends_stay c
uses_same Linger i c = link_ends_stay AsksForLinger i c
uses_same Link i c = link_ends_stay AsksForLink i c

-- an end that is there is one of a pair
here_there : (s : Rows) (k : ℕ) (a : Bool) → is_here (end_place (pair s k) a) ≡ true → k < length s.pairs
here_there s k a here = placed (λ (p : PairRow). not (is_here (end_place p a))) s.pairs no_pair k (gone a) (ap not here)
  where
    gone : (x : Bool) → not (is_here (end_place no_pair x)) ≡ true
    gone true = refl
    gone false = refl

module _ {N O I : Type 0} (s : State (Load N O I)) (h : Holding N) (e : EndId) (reason : Reason) (w : MayAskOwn s h e reason) where
  abbrev pub used : Control
  used = uses_reason reason (owner_of w.control e) w.control

  pub same : SameEnds w.control used
  same = uses_same reason (owner_of w.control e) w.control

  pub used_room : (m : ℕ) → to_come used m ≤ (mail_at s.boxes m).spare
  used_room m =
      let all = goes_room (reason_moves reason (owner_of w.control e)) w.control used (sound_of w.control w.kept) (uses_goes reason (owner_of w.control e) w.control w.lives w.gives) m in
      let none = uses_none reason (owner_of w.control e) (slots_of used.rows) m in
      let boxes = ap (λ (b : ℕ → List Letter). length (b m)) (uses_boxes reason (owner_of w.control e) w.control) in
      let most = w.room m in
      omega (arith, all, none, boxes, most)

  pub owner_same : owner_of used e ≡ owner_of w.control e
  owner_same = ap (λ (ps : List PairRow). end_owner (slice_index_or ps e.pair.0 no_pair) e.a) same.pairs

  place_now : place_of used e ≡ place_of w.control e
  place_now = ap (λ (ps : List PairRow). end_place (slice_index_or ps e.pair.0 no_pair) e.a) same.pairs

  pub session_there : owner_of w.control e < length w.control.rows.objects
  session_there = (sound_of w.control w.kept).ends e.pair.0 e.a

  pub within_now : e.pair.0 < length used.rows.pairs
  within_now = subst (λ (ps : List PairRow). e.pair.0 < length ps) (sym same.pairs) (here_there w.control.rows e.pair.0 e.a w.there)

  pub listed_now : list_any (is_end e) used.attached ≡ true
  listed_now = ap (list_any (is_end e)) same.attached ∙ w.kept.listed e.pair.0 e.a w.there

  -- its end may be asked then
  abbrev pub asks_used : (t : State (Load N O I)) → Stands t used → t.boxes ≡ s.boxes → MayAskOne t h e
  asks_used t stands boxes = record {
    control = used;
    names = w.names;
    stands = stands;
    has = has_same w.names w.control used h same w.has;
    lent = ap h.holds owner_same ∙ w.lent;
    within = within_now;
    listed = listed_now;
    room = λ m. (let some = used_room m in let now = ap (λ (b : List (Mail (Command (Load N O I)))). (mail_at b m).spare) boxes in omega (arith, some, now));
  }

  -- ---- and it was asked
  module _ (out_name : O → N) (in_name : I → N) (t u : State (Load N O I)) (k : Holding N) (boxes : t.boxes ≡ s.boxes) (lists : t.objects.lists ≡ s.objects.lists) (leads : Leads out_name in_name w.names (turn_of e used (ask reason false e used)) (ask reason false e used) t u h k) where
    asked_is : ask reason false e used ≡ happens (Asked reason false) e used
    asked_is = ap (λ (b : Bool). if b then happens (Asked reason false) e used else used) (ap is_here place_now ∙ w.there)

    pub asks_own_end : AsksOwn out_name in_name w.names w.control e reason s u h k
    asks_own_end = record {
      led = record {
        stands = leads.stands;
        has = leads.has;
        puts = subst (λ (b : List (Mail (Command (Load N O I)))). PutsLoaded out_name in_name w.names b u.boxes) boxes leads.puts;
        lists = leads.lists ∙ lists;
      };
      turned = told_before w.control used (asks_own reason e w.control) h k same.attached (place_same w.control used same.pairs)
          (told_one used (ask reason false e used) (Asked reason false) e h k (subst (λ (d : Control). SameEnds (happens (Asked reason false) e used) d) (sym asked_is) (ends_stay (happens (Asked reason false) e used))) within_now listed_now
          (subst (λ (d : Control). TurnsBy (turn_of e used d) h k) asked_is leads.turned));
      joins = record { joined = leads.joined; holds = leads.holds; kinds = leads.kinds; heard = leads.heard };
    }
