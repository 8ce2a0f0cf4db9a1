-- That the calls of a history add the event that they say.
use Rattle.std.specs.Prelude.{◌≡◌, ◌<◌, ◌-◌, ℕ, Bool, true, false, List, [], ◌∷◌, ◌++◌, Option, not, if◌then◌else◌, length, refl}
use Rattle.std.proofs.Common.{arith, sym, ap, ◌∙◌, subst}
use Rattle.std.proofs.lemmas.List.{length-set}
use Rattle.zq_base.specs.declared.ids.ObjId.{ObjId}
use Rattle.zq_base.specs.declared.ids.SlotId.{SlotId}
use Rattle.mailbox.specs.Mail.{Mail, no_mail, with_sent, with_put_back}
use Rattle.spec_control.specs.declared.letter.Word.TheVariants.{Reap}
use Rattle.spec_control.specs.declared.request.Req.{Req}
use Rattle.spec_control.specs.declared.request.Req.TheVariants.{Close, AskTerm}
use Rattle.spec_control.specs.declared.request.Refusal.{Refusal}
use Rattle.spec_control.specs.declared.request.Reply.TheVariants.{Done, Asked as WasAsked, Before, Refused}
use Rattle.spec_control.specs.declared.entry.Answered.{Answered}
use Rattle.spec_control.specs.declared.entry.Did.{Did}
use Rattle.spec_control.specs.declared.entry.Did.TheVariants.{Asked}
use Rattle.spec_control.specs.Row.{Row, nobody, AsksOver, RootAsked, link_after}
use Rattle.spec_control.specs.Rows.{obj}
use Rattle.spec_control.specs.PairPhase.{behind_first}
use Rattle.spec_control.specs.Stage.{is_alive}
use Rattle.spec_control.specs.Reply.{reply_of}
use Rattle.spec_control.specs.Control.{Control, link, put, stop_sockets, try_end}
use Rattle.spec_control.specs.After.{without_front}
use Rattle.spec_control.specs.ControlRun.{Fits, IsOpenSocket, MayAsk}
use Rattle.control_laws.proofs.StepLemmas.{inv_of, same_slot}
use Rattle.control_laws.proofs.EndLemmas.{kept_but}
use Rattle.control_laws.proofs.JoinLemmas.{open_is, socket_owned}
use Rattle.control_laws.proofs.TellLemmas.{rows_of}
use Rattle.control_laws.proofs.SoundLemmas.{socket_there}
use Rattle.own_tree.specs.declared.row.Row.{Row as TreeRow}
use Rattle.ctl_state.specs.declared.command.Command.{Command}
use Rattle.ctl_state.specs.declared.state.State.{State}
use Rattle.ctl_state.specs.Boxes.{mail_at, with_mail, Takes}
use Rattle.ctl_state.specs.Listed.{Listed, with_last, with_room}
use Rattle.ctl_state.specs.Parts.{on_boxes, on_tree, sent_to, Tells}
use Rattle.ctl_state.specs.Stands.{Stands, Updates, letter_for, slot_of}
use Rattle.ctl_state.proofs.ReadLemmas.{read_kept}
use Rattle.ctl_plane.specs.Past.{Past, control_of, only_given, with_event, with_given, IsHistory}
use Rattle.ctl_moves.specs.Processing.{IsSilent}
use Rattle.ctl_moves.specs.Bare.{Hears}
use Rattle.ctl_moves.proofs.CapacityLemmas.{capacity, taken_spare, told_capacity, sent_capacity}
use Rattle.ctl_plane.proofs.EventLemmas.{MakesNothing, kept_past, one_foreseen, one_noted, has_entry}
use Rattle.ctl_moves.proofs.BareLemmas.{ack_to_come, hears}
use Rattle.ctl_plane.proofs.SilentLemmas.{silent_answered}

module _ {L : Type 0} where
  -- the order of closing is not kept
  closed_aside : (s : State L) (c : Control) (closed : List ObjId) → Stands s c → Stands s (record c { closed = closed })
  closed_aside s c closed h = record {
    objects = h.objects;
    pairs = h.pairs;
    counted = h.counted;
    sent = h.sent;
    lists = h.lists;
    boxes = h.boxes;
    slots = h.slots;
    workers = h.workers;
    names = h.names;
  }

module _ {N S : Type 0} where
  abbrev now_closed : {G : Type 0} → Past G N S → ObjId → Control
  now_closed p o = record (control_of p) { closed = (control_of p).closed ++ o ∷ [] }

  close_fits : (c : Control) (o : ObjId) (a : Answered N S) → IsOpenSocket (obj c.rows o.0) → IsSilent a → Fits c (Asked (Close o) Done a)
  close_fits c o a is_open silent = record { may = (is_open, refl); answered = silent_answered c (Asked (Close o) Done a) silent refl refl silent.settled silent.output }

  close_makes : (c : Control) (o : ObjId) (a : Answered N S) → MakesNothing c (Asked (Close o) Done a)
  close_makes c o a = record { no_room = λ m. refl; no_entries = refl; no_objects = refl; no_pairs = refl; foreseen = refl }

  ask_fits : (c : Control) (a : Answered N S) → is_alive (obj c.rows 0).stage ≡ true → IsSilent a → Fits c (Asked AskTerm WasAsked a)
  ask_fits c a alive silent = record {
    may = (tt, sym (ap (λ (b : Bool). if not b then Before else WasAsked) alive));
    answered = silent_answered c (Asked AskTerm WasAsked a) silent refl refl silent.settled silent.output;
  }

  ask_makes : (c : Control) (a : Answered N S) → MakesNothing c (Asked AskTerm WasAsked a)
  ask_makes c a = record { no_room = λ m. refl; no_entries = refl; no_objects = refl; no_pairs = refl; foreseen = refl }

module _ {G N S : Type 0} where
  -- the list of events with one more
  pub event_now : (old : Past G N S) (workers : ℕ) (l now : Listed (Did N S)) (given later : List G) (did : Did N S) → old ≡ record { workers = workers; events = l.items; given = given } → now ≡ with_last did l → later ≡ given →
      ◌≡◌ {A = Past G N S} (record { workers = workers; events = now.items; given = later }) (with_event did old)
  event_now old workers l now given later did was is same =
      ap (λ (x : Listed (Did N S)). let y : Past G N S = record { workers = workers; events = x.items; given = later } in y) is
      ∙ ap (λ (gs : List G). let y : Past G N S = record { workers = workers; events = l.items ++ did ∷ []; given = gs } in y) same ∙ ap (with_event did) (sym was)

  -- with whatever ends of closed sockets are on their way then
  pub event_with : (old : Past G N S) (workers : ℕ) (l now : Listed (Did N S)) (given later : List G) (did : Did N S) → old ≡ record { workers = workers; events = l.items; given = given } → now ≡ with_last did l →
      ◌≡◌ {A = Past G N S} (record { workers = workers; events = now.items; given = later }) (only_given later (with_event did old))
  event_with old workers l now given later did was is =
      ap (λ (x : Listed (Did N S)). let y : Past G N S = record { workers = workers; events = x.items; given = later } in y) is
      ∙ ap (λ (y : Past G N S). only_given later (with_event did y)) (sym was)

  -- and the ends of a closed socket that are on their way then
  pub event_given : (old : Past G N S) (workers : ℕ) (l now : Listed (Did N S)) (given later gs : List G) (did : Did N S) → old ≡ record { workers = workers; events = l.items; given = given } → now ≡ with_last did l → later ≡ given ++ gs →
      ◌≡◌ {A = Past G N S} (record { workers = workers; events = now.items; given = later }) (with_given gs (with_event did old))
  event_given old workers l now given later gs did was is same =
      ap (λ (x : Listed (Did N S)). let y : Past G N S = record { workers = workers; events = x.items; given = later } in y) is
      ∙ ap (λ (xs : List G). let y : Past G N S = record { workers = workers; events = l.items ++ did ∷ []; given = xs } in y) same ∙ ap (λ (y : Past G N S). with_given gs (with_event did y)) (sym was)

  pub noted_event : (old : Past G N S) (workers : ℕ) (l mid now : Listed (Did N S)) (given later : List G) (did : Did N S) → old ≡ record { workers = workers; events = l.items; given = given } → mid ≡ with_room 1 l → now ≡ with_last did mid → later ≡ given →
      ◌≡◌ {A = Past G N S} (record { workers = workers; events = now.items; given = later }) (with_event did old)
  noted_event old workers l mid now given later did was more is same = event_now old workers (with_room 1 l) now given later did was (is ∙ ap (with_last did) more) same

module _ {L G N S : Type 0} where
  -- ---- a close
  -- the Reap of an open socket has room in the root's mailbox
  pub reap_room : (s t : State L) (p : Past G N S) (spare : ℕ) (o : ObjId) → IsHistory s p spare → IsOpenSocket (obj (control_of p).rows o.0) → Updates (link AsksOver o.0) s t → t.boxes ≡ s.boxes →
      0 < (mail_at t.boxes (slot_of t 0)).spare
  reap_room s t p spare o h is_open updates boxes =
      let c = control_of p in
      let kept = kept_past p h.run in
      let owner = socket_owned c.rows o.0 (inv_of (rows_of (kept_but 0 c kept))) (open_is c o.0 kept is_open) in
      let some = ack_to_come c o.0 (socket_there c.rows o.0 is_open.socket) 0 owner is_open.lives in
      let most = h.room (obj c.rows 0).slot in
      let slot : (obj c.rows 0).slot ≡ slot_of t 0 =
      sym (read_kept (λ (r : Row). r.slot) c.rows.objects o.0 0 (link_after AsksOver (obj c.rows o.0)) nobody (same_slot AsksOver (obj c.rows o.0)))
      ∙ ap (λ (r : Row). r.slot) ((updates c h.stands).objects.each 0) in
      subst (λ (b : List (Mail (Command L))). 0 < (mail_at b (slot_of t 0)).spare) (sym boxes)
      (subst (λ (n : ℕ). 0 < (mail_at s.boxes n).spare) slot (omega (arith, some, most)))

  pub close_entry : (s : State L) (p : Past G N S) (spare : ℕ) (o : ObjId) (a : Answered N S) → IsHistory s p spare → IsOpenSocket (obj (control_of p).rows o.0) → IsSilent a → 0 < spare
  close_entry s p spare o a h is_open silent = has_entry s p (Asked (Close o) Done a) spare h (close_fits (control_of p) o a is_open silent) refl refl

  pub closes : (s mid t : State L) (p : Past G N S) (spare : ℕ) (o : ObjId) (load : Option L) (a : Answered N S) (f : List TreeRow → List TreeRow) → IsHistory s p spare →
      IsOpenSocket (obj (control_of p).rows o.0) → IsSilent a → Updates (link AsksOver o.0) s mid → mid ≡ on_tree f s → Updates (put 0 (Reap o)) mid t →
      t ≡ sent_to (slot_of mid 0) (letter_for (record { 0 = 0 }) (Reap o) load) mid → IsHistory t (with_event (Asked (Close o) Done a) p) (spare - 1)
  closes s mid t p spare o load a f h is_open silent first mid_is last is =
      one_foreseen s t p (Asked (Close o) Done a) spare h (close_fits (control_of p) o a is_open silent) (last (link AsksOver o.0 (now_closed p o)) (first (now_closed p o) (closed_aside s (control_of p) ((control_of p).closed ++ o ∷ []) h.stands))) (close_makes (control_of p) o a)
      (λ m. (let same = ap (λ (b : List (Mail (Command L))). capacity b m) boxes_are in let sent = sent_capacity mid.boxes (slot_of mid 0) command room m in let were = ap (λ (b : List (Mail (Command L))). capacity b m) boxes in omega (arith, same, sent, were)))
      (ap (λ (b : List (Mail (Command L))). length b) boxes_are ∙ length-set mid.boxes (slot_of mid 0) _ ∙ ap (λ (b : List (Mail (Command L))). length b) boxes)
    where
      command : Command L
      command = letter_for (record { 0 = 0 }) (Reap o) load

      boxes : mid.boxes ≡ s.boxes
      boxes = ap (λ (x : State L). x.boxes) mid_is

      boxes_are : t.boxes ≡ with_mail (slot_of mid 0) (with_sent command (mail_at mid.boxes (slot_of mid 0))) mid.boxes
      boxes_are = ap (λ (x : State L). x.boxes) is

      room : 0 < (mail_at mid.boxes (slot_of mid 0)).spare
      room = reap_room s mid p spare o h is_open first boxes

  -- ---- a delivery
  -- what a command that was taken needs
  pub taken_hears : (s mid : State L) (p : Past G N S) (spare : ℕ) (slot : SlotId) (command : Command L) → IsHistory s p spare → Takes slot.0 command s.boxes mid.boxes →
      (control_of p).boxes slot.0 ≡ command.letter ∷ behind_first ((control_of p).boxes slot.0) → Hears mid command.letter.to.0 command.letter.word (without_front slot.0 (control_of p))
  taken_hears s mid p spare slot command h took is =
      hears s mid (control_of p) (kept_past p h.run) h.room slot.0 command took command.letter.to.0 command.letter.word _ is

  -- a command that was put back
  pub goes_back : (s mid heard t : State L) (p : Past G N S) (spare : ℕ) (slot : SlotId) (command : Command L) → IsHistory s p spare → Takes slot.0 command s.boxes mid.boxes → heard ≡ mid →
      Stands mid (without_front slot.0 (control_of p)) → (control_of p).boxes slot.0 ≡ command.letter ∷ behind_first ((control_of p).boxes slot.0) →
      ((c : Control) → Stands heard (without_front slot.0 c) → c.boxes slot.0 ≡ command.letter ∷ behind_first (c.boxes slot.0) → Stands t c) →
      t ≡ on_boxes (with_mail slot.0 (with_put_back command (mail_at heard.boxes slot.0))) heard → IsHistory t p spare
  goes_back s mid heard t p spare slot command h took same stands oldest back is = record {
    few = h.few;
    run = h.run;
    stands = back (control_of p) (subst (λ (x : State L). Stands x (without_front slot.0 (control_of p))) (sym same) stands) oldest;
    room = λ m. (let most = h.room m in let was = taken_spare slot.0 command s.boxes mid.boxes took m in let now = spare_now m in omega (arith, most, was, now));
    entries = h.entries;
    root = h.root;
    objects = h.objects;
    pairs = h.pairs;
    boxes = (let most = h.boxes in let many = took.many in let now = many_now in omega (arith, most, many, now));
  }
    where
      boxes_are : t.boxes ≡ with_mail slot.0 (with_put_back command (mail_at mid.boxes slot.0)) mid.boxes
      boxes_are = ap (λ (x : State L). x.boxes) is ∙ ap (λ (x : State L). with_mail slot.0 (with_put_back command (mail_at x.boxes slot.0)) x.boxes) same

      spare_now : (m : ℕ) → (mail_at t.boxes m).spare ≡ (mail_at mid.boxes m).spare
      spare_now m =
          ap (λ (b : List (Mail (Command L))). (mail_at b m).spare) boxes_are
          ∙ read_kept (λ (mail : Mail (Command L)). mail.spare) mid.boxes slot.0 m (with_put_back command (mail_at mid.boxes slot.0)) no_mail refl

      many_now : length t.boxes ≡ length mid.boxes
      many_now = ap (λ (b : List (Mail (Command L))). length b) boxes_are ∙ length-set mid.boxes slot.0 _

module _ {L G N S : Type 0} where
  -- ---- the root's asking
  pub ask_entry : (s : State L) (p : Past G N S) (spare : ℕ) (a : Answered N S) → IsHistory s p spare → is_alive (obj (control_of p).rows 0).stage ≡ true → IsSilent a → 0 < spare
  ask_entry s p spare a h alive silent = has_entry s p (Asked AskTerm WasAsked a) spare h (ask_fits (control_of p) a alive silent) refl refl

  pub asks : (s t : State L) (p : Past G N S) (spare : ℕ) (a : Answered N S) → IsHistory s p spare → is_alive (obj (control_of p).rows 0).stage ≡ true → IsSilent a →
      Updates (λ c. try_end 0 false (stop_sockets (length c.rows.objects) (link RootAsked 0 c))) s t → Tells s t → IsHistory t (with_event (Asked AskTerm WasAsked a) p) (spare - 1)
  asks s t p spare a h alive silent updates tells =
      one_foreseen s t p (Asked AskTerm WasAsked a) spare h (ask_fits (control_of p) a alive silent)
      (subst (λ (b : Bool). Stands t (try_end 0 b (stop_sockets (length (control_of p).rows.objects) (link RootAsked 0 (control_of p))))) (sym silent.output) (updates (control_of p) h.stands))
      (ask_makes (control_of p) a) (λ m. (let told = told_capacity s t tells m in omega (arith, told))) tells.bare.many

  -- ---- an answer that changes nothing
  pub asks_again : (s : State L) (p : Past G N S) (spare : ℕ) (a : Answered N S) → IsHistory s p spare → is_alive (obj (control_of p).rows 0).stage ≡ false → IsSilent a → IsHistory s (with_event (Asked AskTerm Before a) p) spare
  asks_again s p spare a h asked silent =
      one_noted s p (Asked AskTerm Before a) spare h
      (record {
        may = (tt, sym (ap (λ (b : Bool). if not b then Before else WasAsked) asked));
        answered = silent_answered (control_of p) (Asked AskTerm Before a) silent refl refl silent.settled silent.output;
      }) refl refl (omega arith)

  pub refuses : (s : State L) (p : Past G N S) (spare : ℕ) (req : Req) (refusal : Refusal) (a : Answered N S) → IsHistory s p spare → MayAsk (control_of p) req → reply_of (control_of p) req ≡ Refused refusal → IsSilent a →
      IsHistory s (with_event (Asked req (Refused refusal) a) p) spare
  refuses s p spare req refusal a h may refused silent =
      one_noted s p (Asked req (Refused refusal) a) spare h
      (record { may = (may, sym refused); answered = silent_answered (control_of p) (Asked req (Refused refusal) a) silent refl refl silent.settled silent.output }) refl refl (omega arith)
