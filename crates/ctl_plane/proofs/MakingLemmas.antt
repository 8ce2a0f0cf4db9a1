-- That the making of a socket adds its event.
use Rattle.std.specs.Prelude.{◌≡◌, ◌<◌, ◌≤◌, ◌⊎◌, ◌+◌, ◌-◌, ◌^◌, ◌==◌, ◌||◌, ◌++◌, ◌∷◌, [], ℕ, Bool, true, false, not, cond, List, None, All, flat_map, length, nat_lt, refl}
use Rattle.std.proofs.Common.{arith, sym, ap, ◌∙◌, subst, inl, inr}
use Rattle.std.proofs.lemmas.Bool.{cases_order, eq-eqb, ne_eqb}
use Rattle.std.proofs.lemmas.Bool.Decides.{Decides-ltb}
use Rattle.std.proofs.lemmas.List.{length-set, length_push, get_or_past, get_or_push, get_or_append_left, set-set, set-get_or, get_or-set_same}
use Rattle.zq_base.specs.declared.ids.ObjId.{ObjId}
use Rattle.zq_base.specs.declared.kind.Kind.{Kind}
use Rattle.zq_base.specs.declared.options.Options.{Options}
use Rattle.mailbox.specs.Mail.{Mail, no_mail, with_spare}
use Rattle.spec_control.specs.declared.request.Req.TheVariants.{Socket as MakeSocket}
use Rattle.spec_control.specs.declared.request.Refusal.TheVariants.{TooMany}
use Rattle.spec_control.specs.declared.request.Reply.TheVariants.{Object}
use Rattle.spec_control.specs.declared.entry.Answered.{Answered}
use Rattle.spec_control.specs.declared.entry.Did.{Did}
use Rattle.spec_control.specs.declared.entry.Did.TheVariants.{Asked}
use Rattle.spec_control.specs.declared.stage.Stage.{Stage}
use Rattle.spec_control.specs.declared.stage.Stage.TheVariants.{Alive, Told, Ending, Finished, Cleared}
use Rattle.spec_control.specs.Row.{Row, nobody}
use Rattle.spec_control.specs.Rows.{obj}
use Rattle.spec_control.specs.Stage.{is_alive, has_ended}
use Rattle.spec_control.specs.Control.{Control, id, makes, next_object}
use Rattle.spec_control.specs.After.{after, socket_row}
use Rattle.spec_control.specs.Reply.{reply_of, unless, has_object, living_sockets, most_living_sockets, most_objects}
use Rattle.control_laws.specs.Room.{to_come, reserved, took_from}
use Rattle.control_laws.proofs.ListLemmas.{never}
use Rattle.control_laws.proofs.StepLemmas.{some_object}
use Rattle.ctl_state.specs.declared.command.Command.{Command}
use Rattle.ctl_state.specs.declared.detail.Made.{Made}
use Rattle.ctl_state.specs.declared.state.State.{State}
use Rattle.ctl_state.specs.Boxes.{mail_at, with_mail}
use Rattle.ctl_state.specs.Needs.{AreMet}
use Rattle.ctl_state.specs.Objects.{row_made, RootOwnsSockets}
use Rattle.ctl_state.specs.Listed.{Listed, with_room, without_room}
use Rattle.ctl_state.specs.Parts.{on_boxes}
use Rattle.ctl_state.specs.Stands.{Stands}
use Rattle.ctl_state.proofs.ReadLemmas.{read_kept, pushed_same}
use Rattle.ctl_state.proofs.StandLemmas.{roomy}
use Rattle.desk.specs.declared.given.Given.{Given}
use Rattle.desk.specs.declared.load.Load.{Load}
use Rattle.desk.specs.Load.{given_by}
use Rattle.ctl_plane.specs.Carried.{given_in, IsPlane, IsCarried}
use Rattle.ctl_moves.specs.Naming.{SameEndLists}
use Rattle.ctl_plane.proofs.OwedLemmas.{made_aside}
use Rattle.ctl_state.specs.declared.belongings.Belongings.{Belongings}
use Rattle.ctl_moves.specs.Making.{TakesSocket, MakesSocket}
use Rattle.ctl_plane.specs.Past.{Past, control_of, items_of, with_event, IsHistory}
use Rattle.ctl_moves.specs.Processing.{IsSilent}
use Rattle.ctl_moves.specs.Refusals.{refusal_in}
use Rattle.ctl_moves.proofs.RootLemmas.{all_fit}
use Rattle.ctl_moves.proofs.BareLemmas.{term_to_come}
use Rattle.ctl_plane.proofs.SilentLemmas.{silent_answered}
use Rattle.ctl_moves.proofs.CapacityLemmas.{capacity, set_capacity}
use Rattle.ctl_plane.proofs.EventLemmas.{kept_past, one_more}
use Rattle.ctl_plane.proofs.PlaneLemmas.{one_plane, tells_no_names}
use Rattle.ctl_plane.proofs.RefusalLemmas.{lives_still, is_behind, passed}

module _ {L : Type 0} where
  -- a mailbox more
  pushed_capacity : (boxes : List (Mail (Command L))) (room m : ℕ) → capacity (boxes ++ with_spare room no_mail ∷ []) m ≡ capacity boxes m + cond (length boxes == m) room 0
  pushed_capacity boxes room m = by (cases_order m (length boxes))
    where
      mail : Mail (Command L)
      mail = with_spare room no_mail

      all : List (Mail (Command L))
      all = boxes ++ mail ∷ []

      spare_and_rest : Mail (Command L) → ℕ
      spare_and_rest x = x.spare + length x.commands

      by : (m ≡ length boxes) ⊎ ((m < length boxes) ⊎ (length boxes < m)) → capacity all m ≡ capacity boxes m + cond (length boxes == m) room 0
      by (inl same) =
          let now = ap spare_and_rest (get_or_push boxes mail no_mail m (sym same)) in
          let was = ap spare_and_rest (get_or_past boxes m no_mail (omega (arith, same))) in
          let on = ap {B = ℕ} (λ (b : Bool). cond b room 0) (eq-eqb (length boxes) m (sym same)) in
          omega (arith, now, was, on)
      by (inr (inl below)) =
          let now = ap spare_and_rest (get_or_append_left boxes (mail ∷ []) no_mail m below) in
          let off = ap {B = ℕ} (λ (b : Bool). cond b room 0) (ne_eqb (length boxes) m (λ e. omega (arith, e, below))) in
          omega (arith, now, off)
      by (inr (inr above)) =
          let many = length_push boxes mail in
          let now = ap spare_and_rest (get_or_past all m no_mail (omega (arith, above, many))) in
          let was = ap spare_and_rest (get_or_past boxes m no_mail (omega (arith, above))) in
          let off = ap {B = ℕ} (λ (b : Bool). cond b room 0) (ne_eqb (length boxes) m (λ e. omega (arith, e, above))) in
          omega (arith, now, was, off)

  -- room that was given back
  pub given_back : (old mid now last : State L) (k more : ℕ) → k < length old.boxes → mid ≡ on_boxes (with_mail k (with_spare ((mail_at old.boxes k).spare + more) (mail_at old.boxes k))) old → now ≡ mid →
      last ≡ on_boxes (with_mail k (with_spare ((mail_at now.boxes k).spare - more) (mail_at now.boxes k))) now → last ≡ old
  given_back old mid now last k more there kept same given =
      given ∙ ap (λ (s : State L). on_boxes (with_mail k (with_spare ((mail_at s.boxes k).spare - more) (mail_at s.boxes k))) s) (same ∙ kept) ∙ ap (λ (b : List (Mail (Command L))). on_boxes (λ _. b) old) back
    where
      mail : Mail (Command L)
      mail = mail_at old.boxes k

      more_mail : Mail (Command L)
      more_mail = with_spare (mail.spare + more) mail

      back : with_mail k (with_spare ((mail_at (with_mail k more_mail old.boxes) k).spare - more) (mail_at (with_mail k more_mail old.boxes) k)) (with_mail k more_mail old.boxes) ≡ old.boxes
      back =
          set-set old.boxes k more_mail _
          ∙ ap (λ (x : Mail (Command L)). with_mail k (with_spare (x.spare - more) x) old.boxes) (get_or-set_same old.boxes k more_mail no_mail there)
          ∙ ap (λ (n : ℕ). with_mail k (with_spare n mail) old.boxes) (let e : mail.spare + more - more ≡ mail.spare = omega arith in e)
          ∙ set-get_or old.boxes k no_mail

  -- the row of what is made with a copy of the options
  pub copied_row : (s : State L) (c : Control) (made : Made) (kind : Kind) (a b : Options) → Stands s c → ((c : Control) → Stands s c → row_made (record { 0 = 0 }) made ≡ socket_row kind a c) → a ≡ b →
      row_made (record { 0 = 0 }) made ≡ socket_row kind b c
  copied_row s c made kind a b stands is same = is c stands ∙ ap (λ (o : Options). socket_row kind o c) same

module _ {L G N S : Type 0} (s : State L) (p : Past G N S) (spare : ℕ) (h : IsHistory s p spare) where
  -- the root owns the sockets
  pub root_owns : AreMet s (control_of p) → RootOwnsSockets s.objects
  root_owns met = met.sockets (all_fit (control_of p).rows (kept_past p h.run).reached)

  pub boxes_few : length s.boxes < 2 ^ 32
  boxes_few = let few = h.few in let most = h.boxes in let objects = h.objects in omega (arith, few, most, objects)

  module _ (alive : is_alive (obj (control_of p).rows 0).stage ≡ true) where
    root_there : 0 < length (control_of p).rows.objects
    root_there = some_object (control_of p).rows (kept_past p h.run).reached

    root_box : 0 < length s.boxes
    root_box =
        let one = term_to_come (control_of p) 0 root_there alive in
        let most = h.room 0 in
        let same = ap (to_come (control_of p)) h.root in
        roomy s.boxes 0 (omega (arith, one, most, same))

    pub takes_socket : AreMet s (control_of p) → TakesSocket s
    takes_socket met = record {
      takes = record {
        unended = met.unended (record { 0 = 0 }) (ended_not _ alive);
        few = let many = h.stands.objects.many in let most = h.objects in omega (arith, many, most);
        fits = met.sent_fits 0 (let most = h.objects in omega (arith, most)) (let most = h.pairs in omega (arith, most));
      };
      few = boxes_few;
      some = root_box;
    }
      where
        ended_not : (t : Stage) → is_alive t ≡ true → has_ended t ≡ false
        ended_not Alive e = refl
        ended_not Told e = refl
        ended_not Ending e = refl
        ended_not Finished e = absurd (never e)
        ended_not Cleared e = absurd (never e)

  module _ (kind : Kind) (options : Options) (free : refusal_in (reply_of (control_of p) (MakeSocket kind options)) ≡ None) where
    abbrev c : Control
    c = control_of p

    abbrev too_many : Bool
    too_many = not (nat_lt (living_sockets c) most_living_sockets) || not (has_object c)

    pub lives : is_alive (obj c.rows 0).stage ≡ true
    lives = lives_still c (unless too_many TooMany (Object (id (next_object c)))) free

    few_enough : too_many ≡ false
    few_enough = passed too_many TooMany (Object (id (next_object c))) (sym (ap refusal_in (is_behind c (unless too_many TooMany (Object (id (next_object c)))) free)) ∙ free)

    pub socket_reply : reply_of c (MakeSocket kind options) ≡ Object (id (next_object c))
    socket_reply = is_behind c (unless too_many TooMany (Object (id (next_object c)))) free ∙ ap (λ (b : Bool). unless b TooMany (Object (id (next_object c)))) few_enough

    has_one : next_object c + 1 ≤ most_objects
    has_one = by (nat_lt (living_sockets c) most_living_sockets) (has_object c) refl few_enough
      where
        by : (x y : Bool) → has_object c ≡ y → (not x || not y) ≡ false → next_object c + 1 ≤ most_objects
        by true true is e = let less = (Decides-ltb (next_object c) most_objects).0 is in omega (arith, less)
        by true false is e = absurd (never (sym e))
        by false y is e = absurd (never (sym e))

    module _ (t : State L) (a : Answered N S) (silent : IsSilent a) (o : ObjId) (made : Made) (number : o.0 ≡ length s.objects.tree) (row_is : row_made (record { 0 = 0 }) made ≡ socket_row kind options c) (m : MakesSocket made s t) where
      abbrev did : Did N S
      did = Asked (MakeSocket kind options) (Object o) a

      object_is : Object o ≡ reply_of c (MakeSocket kind options)
      object_is = ap (λ (n : ℕ). Object (id n)) (number ∙ sym h.stands.objects.many) ∙ sym socket_reply

      abbrev row : Row
      row = socket_row kind options c

      root_slot : (obj (after did c).rows 0).slot ≡ 0
      root_slot = ap (λ (r : Row). r.slot) (get_or_append_left c.rows.objects (row ∷ []) nobody 0 (root_there lives)) ∙ h.root

      abbrev root_mail : Mail (Command L)
      root_mail = with_spare ((mail_at s.boxes 0).spare + 2) (mail_at s.boxes 0)

      many : length (with_mail 0 root_mail s.boxes) ≡ c.slots
      many = length-set s.boxes 0 root_mail ∙ h.stands.slots

      room : (k : ℕ) → capacity s.boxes k + reserved c did k ≤ capacity t.boxes k + took_from did k
      room k =
          let now = ap (λ (b : List (Mail (Command L))). capacity b k) m.boxes in
          let pushed = pushed_capacity (with_mail 0 root_mail s.boxes) 2 k in
          let own = ap {B = ℕ} (λ (n : ℕ). cond (n == k) 2 0) many in
          let root = set_capacity s.boxes 0 2 root_mail (root_box lives) (omega arith) k in
          let at_root = ap {B = ℕ} (λ (n : ℕ). cond (n == k) 2 0) root_slot in
          omega (arith, now, pushed, own, root, at_root)

      pub makes_one : IsHistory t (with_event did p) (spare + 6 - 1)
      makes_one = one_more s t p did spare (spare + 6 - 1) h (record {
        fits = record { may = (tt, object_is); answered = silent_answered c did silent refl refl silent.settled silent.output };
        stands = subst (λ (r : Row). Stands t (record (makes r c) { slots = c.slots + 1 })) row_is (m.stands c h.stands);
        room = room;
        entries = omega arith;
        objects = has_one;
        pairs = let few = h.pairs in omega (arith, few);
        boxes = let now = ap (λ (b : List (Mail (Command L))). length b) m.boxes in let pushed = length_push (with_mail 0 root_mail s.boxes) (with_spare 2 no_mail) in let same = length-set s.boxes 0 root_mail in omega (arith, now, pushed, same);
      })

module _ {N O I : Type 0} where
  -- what waits in the mailboxes is as before
  made_commands : (s t : State (Load N O I)) (made : Made) → MakesSocket made s t → (m : ℕ) → (mail_at t.boxes m).commands ≡ (mail_at s.boxes m).commands
  made_commands s t made h m =
      ap (λ (b : List (Mail (Command (Load N O I)))). (mail_at b m).commands) h.boxes
      ∙ pushed_same (λ (x : Mail (Command (Load N O I))). x.commands) (with_mail 0 mail s.boxes) (with_spare 2 no_mail) no_mail m refl
      ∙ read_kept (λ (x : Mail (Command (Load N O I))). x.commands) s.boxes 0 m mail no_mail refl
    where
      mail : Mail (Command (Load N O I))
      mail = with_spare ((mail_at s.boxes 0).spare + 2) (mail_at s.boxes 0)

  pub made_given : (s t : State (Load N O I)) (made : Made) → MakesSocket made s t → given_in t.boxes ≡ given_in s.boxes
  made_given s t made h = ap (λ (xs : List (Command (Load N O I))). flat_map (λ (x : Command (Load N O I)). given_by x.load) xs) (made_commands s t made h 0)

module _ {N O I S : Type 0} (out_name : O → N) (in_name : I → N) where
  pub made_plane : (s t : State (Load N O I)) (p : Past (Given N O I) N S) (kind : Kind) (options : Options) (o : ObjId) (made : Made) (a : Answered N S) (spare later : ℕ) → IsPlane out_name in_name s p spare →
      IsHistory t (with_event (Asked (MakeSocket kind options) (Object o) a) p) later → IsSilent a → MakesSocket made s t → IsPlane out_name in_name t (with_event (Asked (MakeSocket kind options) (Object o) a) p) later
  made_plane s t p kind options o made a spare later h history silent makes_it =
      one_plane out_name in_name s t p (Asked (MakeSocket kind options) (Object o) a) spare later h history (tells_no_names (items_of p) (Asked (MakeSocket kind options) (Object o) a) silent)
      (λ m. subst (λ (xs : List (Command (Load N O I))). All (IsCarried out_name in_name (items_of p) (control_of p)) xs) (sym (made_commands s t made makes_it m)) (h.carried m))
      (subst (λ (ls : List Belongings). SameEndLists s.objects.lists ls) (sym makes_it.lists) (made_aside s.objects.lists)) refl

  -- all is as before where memory was wanting
  pub planed_back : (s t : State (Load N O I)) (workers : ℕ) (l now : Listed (Did N S)) → t ≡ s → now ≡ l → IsPlane out_name in_name s (record { workers = workers; events = l.items; given = given_in s.boxes }) l.spare →
      IsPlane out_name in_name t (record { workers = workers; events = now.items; given = given_in t.boxes }) now.spare
  planed_back s t workers l now same listed h =
      subst (λ (x : Listed (Did N S)). IsPlane out_name in_name t (record { workers = workers; events = x.items; given = given_in t.boxes }) x.spare) (sym listed)
      (subst (λ (x : State (Load N O I)). IsPlane out_name in_name x (record { workers = workers; events = l.items; given = given_in x.boxes }) l.spare) (sym same) h)

module _ {T : Type 0} where
  -- room that was given back
  pub listed_back : (l mid now : Listed T) (n : ℕ) → mid ≡ with_room n l → now ≡ without_room n mid → now ≡ l
  listed_back l mid now n more fewer =
      fewer ∙ ap (without_room n) more ∙ ap (λ (k : ℕ). let x : Listed T = record l { spare = k } in x) (let e : l.spare + n - n ≡ l.spare = omega arith in e)

module _ {N O I S : Type 0} where
  pub viewed_back : (old : Past (Given N O I) N S) (s t : State (Load N O I)) (workers : ℕ) (l now : Listed (Did N S)) → t ≡ s → now ≡ l →
      ◌≡◌ {A = Past (Given N O I) N S} (record { workers = workers; events = l.items; given = given_in s.boxes }) old →
      ◌≡◌ {A = Past (Given N O I) N S} (record { workers = workers; events = now.items; given = given_in t.boxes }) old
  viewed_back old s t workers l now same listed was =
      ap (λ (x : Listed (Did N S)). let y : Past (Given N O I) N S = record { workers = workers; events = x.items; given = given_in t.boxes } in y) listed
      ∙ ap (λ (x : State (Load N O I)). let y : Past (Given N O I) N S = record { workers = workers; events = l.items; given = given_in x.boxes } in y) same ∙ was
