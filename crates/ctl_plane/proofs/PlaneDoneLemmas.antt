-- That each call of a control plane leaves it one.
use Rattle.std.specs.Prelude.{◌≡◌, ◌<◌, ◌++◌, ◌∷◌, [], ℕ, List, Some, None, All, length, map, refl, sum_by, flat_map}
use Rattle.std.proofs.Common.{arith, sym, ap, ◌∙◌, subst}
use Rattle.std.proofs.lemmas.List.{append-nil, get_or-set_same}
use Rattle.std.proofs.lemmas.List.Concat.{flat_map-append}
use Rattle.mailbox.specs.Mail.{Mail, no_mail, with_sent, with_put_back}
use Rattle.zq_base.specs.declared.ids.EndId.{EndId}
use Rattle.zq_base.specs.declared.ids.ObjId.{ObjId}
use Rattle.zq_base.specs.declared.ids.SlotId.{SlotId}
use Rattle.spec_control.specs.declared.letter.Word.{Word}
use Rattle.spec_control.specs.declared.letter.Word.TheVariants.{Own, Plug, TermReq, Term, TermAck, PipeBind, PipeTerm, PipeTermAck, Stop, Reap}
use Rattle.spec_control.specs.declared.request.Req.TheVariants.{Close}
use Rattle.spec_control.specs.declared.request.Reply.TheVariants.{Done}
use Rattle.spec_control.specs.declared.entry.Answered.{Answered}
use Rattle.spec_control.specs.declared.entry.Did.{Did}
use Rattle.spec_control.specs.declared.entry.Did.TheVariants.{Asked}
use Rattle.spec_control.specs.Row.{Row, AsksOver, LinkEvent, OwnComes, PlugComes, RequestComes, TermComes, AckComes, StopComes, ReapComes, link_after, nobody}
use Rattle.spec_control.specs.PairPhase.{PairEvent, BindCame, Happens}
use Rattle.spec_control.specs.declared.end.EndEvent.TheVariants.{TermCame, AckCame}
use Rattle.spec_control.specs.Names.{FitsNames, name_of}
use Rattle.spec_control.specs.Rows.{obj}
use Rattle.spec_control.specs.Control.{Control, link}
use Rattle.spec_control.specs.After.{after}
use Rattle.spec_control.specs.ControlRun.{IsOpenSocket}
use Rattle.spec_control.specs.declared.letter.Letter.{Letter}
use Rattle.control_laws.proofs.StepLemmas.{same_slot}
use Rattle.control_laws.specs.Move.{Move, LinkMoves, EndMoves}
use Rattle.control_laws.specs.OwnMoves.{own_moves, word_moves}
use Rattle.desk.specs.declared.load.Load.{Load}
use Rattle.desk.specs.declared.load.Load.TheVariants.{Ends}
use Rattle.desk.specs.declared.given.Given.{Given}
use Rattle.desk.specs.declared.given.Parting.{Parting}
use Rattle.desk.specs.Load.{AreEndsOfClosed, GivesAll, given_by}
use Rattle.control_laws.proofs.EventLemmas.{others_spared}
use Rattle.ctl_state.specs.declared.command.Command.{Command}
use Rattle.ctl_state.specs.declared.state.State.{State}
use Rattle.ctl_state.specs.Boxes.{mail_at, with_mail, Takes}
use Rattle.ctl_state.specs.Listed.{Listed}
use Rattle.ctl_state.specs.Parts.{on_boxes, sent_to, Tells}
use Rattle.ctl_state.specs.Stands.{Stands, Updates, letter_for, slot_of}
use Rattle.ctl_state.proofs.ReadLemmas.{read_kept}
use Rattle.ctl_state.proofs.StandLemmas.{roomy}
use Rattle.ctl_plane.specs.Past.{Past, as_item, items_of, control_of, with_event, IsHistory}
use Rattle.ctl_moves.specs.Processing.{IsSilent}
use Rattle.ctl_state.specs.declared.belongings.Belongings.{Belongings}
use Rattle.ctl_plane.specs.Carried.{given_in, IsCarried, AreCarried, BindsFit, IsPlane}
use Rattle.ctl_plane.proofs.OwedLemmas.{binds_put, binds_fit}
use Rattle.ctl_moves.proofs.NameLemmas.{same_lists}
use Rattle.ctl_plane.proofs.ReapLemmas.{ReapBetween, all_of_map, reaps_between, reaps_later, untouched}
use Rattle.ctl_plane.proofs.CloseLemmas.{closed_between, close_between}
use Rattle.ctl_plane.proofs.EventLemmas.{kept_past}
use Rattle.ctl_plane.proofs.CarryLemmas.{told_carried, sent_carried, back_same}
use Rattle.ctl_plane.proofs.DoneLemmas.{reap_room}
use Rattle.ctl_plane.proofs.PlaneLemmas.{tells_no_names, fits_last, one_plane, plane_more}

-- a command makes nothing
pub word_makes : (f : Move → ℕ) → ((i : ℕ) (event : LinkEvent) → f (LinkMoves i event) ≡ 0) → ((e : EndId) (event : PairEvent) → f (EndMoves e event) ≡ 0) → (at : ℕ) (word : Word) → sum_by f (word_moves at word) ≡ 0
word_makes f links ends at (Own child) = let a = links child.0 OwnComes in omega (arith, a)
word_makes f links ends at (Plug None) = let a = links at PlugComes in omega (arith, a)
word_makes f links ends at (Plug (Some e)) = let a = links at PlugComes in let b = ends e BindCame in omega (arith, a, b)
word_makes f links ends at (TermReq child) = let a = links child.0 RequestComes in omega (arith, a)
word_makes f links ends at Term = let a = links at TermComes in omega (arith, a)
word_makes f links ends at (TermAck child) = let a = links child.0 AckComes in omega (arith, a)
word_makes f links ends at (PipeBind e peer) = let a = ends e BindCame in omega (arith, a)
word_makes f links ends at (PipeTerm e) = let a = ends e (Happens TermCame) in omega (arith, a)
word_makes f links ends at (PipeTermAck e) = let a = ends e (Happens AckCame) in omega (arith, a)
word_makes f links ends at Stop = let a = links at StopComes in omega (arith, a)
word_makes f links ends at (Reap socket) = let a = links socket.0 ReapComes in omega (arith, a)

module _ {N O I : Type 0} where
  -- ---- a command was taken
  pub took_lists : (s mid : State (Load N O I)) (boxes : List (Mail (Command (Load N O I)))) → mid ≡ on_boxes (λ _. boxes) s → mid.objects.lists ≡ s.objects.lists
  took_lists s mid boxes is = ap (λ (x : State (Load N O I)). x.objects.lists) is

  -- ---- a command that was put back
  pub taken_there : (s mid : State (Load N O I)) (c : Control) (slot : SlotId) → Stands s c → {command : Command (Load N O I)} → Takes slot.0 command s.boxes mid.boxes → slot.0 < c.slots → slot.0 < length mid.boxes
  taken_there s mid c slot stands took there = let many = took.many in let slots = stands.slots in omega (arith, many, slots, there)

  back_commands : (s mid heard t : State (Load N O I)) (slot : SlotId) (command : Command (Load N O I)) → Takes slot.0 command s.boxes mid.boxes → slot.0 < length mid.boxes → heard ≡ mid →
      t ≡ on_boxes (with_mail slot.0 (with_put_back command (mail_at heard.boxes slot.0))) heard → (m : ℕ) → (mail_at t.boxes m).commands ≡ (mail_at s.boxes m).commands
  back_commands s mid heard t slot command took there same is m =
      ap (λ (x : State (Load N O I)). (mail_at x.boxes m).commands) is
      ∙ ap (λ (x : State (Load N O I)). (mail_at (with_mail slot.0 (with_put_back command (mail_at x.boxes slot.0)) x.boxes) m).commands) same
      ∙ back_same slot.0 command s.boxes mid.boxes took there m

  pub back_given : (s mid heard t : State (Load N O I)) (slot : SlotId) (command : Command (Load N O I)) → Takes slot.0 command s.boxes mid.boxes → slot.0 < length mid.boxes → heard ≡ mid →
      t ≡ on_boxes (with_mail slot.0 (with_put_back command (mail_at heard.boxes slot.0))) heard → given_in t.boxes ≡ given_in s.boxes
  back_given s mid heard t slot command took there same is =
      ap (λ (xs : List (Command (Load N O I))). flat_map (λ (x : Command (Load N O I)). given_by x.load) xs) (back_commands s mid heard t slot command took there same is 0)

module _ {N O I S : Type 0} (out_name : O → N) (in_name : I → N) where
  -- ---- objects were told
  pub told_plane : (s t : State (Load N O I)) (p : Past (Given N O I) N S) (did : Did N S) (spare later : ℕ) → IsPlane out_name in_name s p spare → IsHistory t (with_event did p) later → FitsNames (items_of p) (as_item did) →
      sum_by binds_put (own_moves (control_of p) did) ≡ 0 → Tells s t → IsPlane out_name in_name t (with_event did p) later
  told_plane s t p did spare later h history names no_binds tells =
      one_plane out_name in_name s t p did spare later h history names (told_carried out_name in_name (items_of p) (control_of p) s.boxes t.boxes tells.bare h.carried) (same_lists s.objects.lists t.objects.lists tells.lists) no_binds

  -- ---- a command that concerns no end

  pub stays_there : (old : Past (Given N O I) N S) (workers : ℕ) (l : Listed (Did N S)) (given later : List (Given N O I)) → ◌≡◌ {A = Past (Given N O I) N S} (record { workers = workers; events = l.items; given = given }) old → later ≡ given →
      ◌≡◌ {A = Past (Given N O I) N S} (record { workers = workers; events = l.items; given = later }) old
  stays_there old workers l given later was same = ap (λ (gs : List (Given N O I)). let y : Past (Given N O I) N S = record { workers = workers; events = l.items; given = gs } in y) same ∙ was

  pub back_plane : (s mid heard t : State (Load N O I)) (workers : ℕ) (l : Listed (Did N S)) (slot : SlotId) (command : Command (Load N O I)) → t.objects.lists ≡ s.objects.lists → IsPlane out_name in_name s (record { workers = workers; events = l.items; given = given_in s.boxes }) l.spare →
      IsHistory t (record { workers = workers; events = l.items; given = given_in s.boxes }) l.spare → Takes slot.0 command s.boxes mid.boxes → slot.0 < length mid.boxes → heard ≡ mid →
      t ≡ on_boxes (with_mail slot.0 (with_put_back command (mail_at heard.boxes slot.0))) heard → IsPlane out_name in_name t (record { workers = workers; events = l.items; given = given_in t.boxes }) l.spare
  back_plane s mid heard t workers l slot command lists h history took there same is =
      subst (λ (gs : List (Given N O I)). IsPlane out_name in_name t (record { workers = workers; events = l.items; given = gs }) l.spare) (sym (back_given s mid heard t slot command took there same is)) now
    where
      now : IsPlane out_name in_name t (record { workers = workers; events = l.items; given = given_in s.boxes }) l.spare
      now = record {
        history = history;
        named = h.named;
        carried = λ m. subst (λ (xs : List (Command (Load N O I))). All (IsCarried out_name in_name (map as_item l.items) (control_of (record { workers = workers; events = l.items; given = given_in s.boxes }))) xs)
            (sym (back_commands s mid heard t slot command took there same is m)) (h.carried m);
        binds = subst (λ (ls : List Belongings). BindsFit (control_of (record { workers = workers; events = l.items; given = given_in s.boxes })) ls) (sym lists) h.binds;
      }

  -- ---- a close
  module _ (s mid t : State (Load N O I)) (p : Past (Given N O I) N S) (spare : ℕ) (o : ObjId) (parting : Parting N O I) (h : IsPlane out_name in_name s p spare)
      (is_open : IsOpenSocket (obj (control_of p).rows o.0)) (first : Updates (link AsksOver o.0) s mid) (same : mid.boxes ≡ s.boxes)
      (is : t ≡ sent_to (slot_of mid 0) (letter_for (record { 0 = 0 }) (Reap o) (Some (Ends parting))) mid) where
    abbrev reap : Command (Load N O I)
    reap = letter_for (record { 0 = 0 }) (Reap o) (Some (Ends parting))

    root_box : slot_of mid 0 ≡ 0
    root_box =
        sym (ap (λ (r : Row). r.slot) ((first (control_of p) h.history.stands).objects.each 0))
        ∙ read_kept (λ (r : Row). r.slot) (control_of p).rows.objects o.0 0 (link_after AsksOver (obj (control_of p).rows o.0)) nobody (same_slot AsksOver (obj (control_of p).rows o.0)) ∙ h.history.root

    room : 0 < (mail_at s.boxes 0).spare
    room =
        subst (λ (b : List (Mail (Command (Load N O I)))). 0 < (mail_at b 0).spare) same
        (subst (λ (n : ℕ). 0 < (mail_at mid.boxes n).spare) root_box (reap_room s mid p spare o h.history is_open first same))

    boxes_are : t.boxes ≡ with_mail 0 (with_sent reap (mail_at s.boxes 0)) s.boxes
    boxes_are =
        ap (λ (x : State (Load N O I)). x.boxes) is ∙ ap (λ (n : ℕ). with_mail n (with_sent reap (mail_at mid.boxes n)) mid.boxes) root_box
        ∙ ap (λ (b : List (Mail (Command (Load N O I)))). with_mail 0 (with_sent reap (mail_at b 0)) b) same

    pub closes_given : given_in t.boxes ≡ given_in s.boxes ++ parting.ends.items
    closes_given =
        ap given_in boxes_are
        ∙ ap (λ (x : Mail (Command (Load N O I))). flat_map (λ (y : Command (Load N O I)). given_by y.load) x.commands) (get_or-set_same s.boxes 0 (with_sent reap (mail_at s.boxes 0)) no_mail (roomy s.boxes 0 room))
        ∙ flat_map-append (λ (y : Command (Load N O I)). given_by y.load) (mail_at s.boxes 0).commands (reap ∷ [])
        ∙ ap (λ (gs : List (Given N O I)). given_in s.boxes ++ gs) (append-nil parting.ends.items)

    pub closes_plane : (a : Answered N S) (later : ℕ) → IsHistory t (with_event (Asked (Close o) Done a) p) later → IsSilent a → AreEndsOfClosed out_name in_name (name_of (items_of p)) parting → GivesAll (control_of p) o.0 parting → mid.objects.lists ≡ s.objects.lists →
        IsPlane out_name in_name t (with_event (Asked (Close o) Done a) p) later
    closes_plane a later history silent ends all lists =
        plane_more out_name in_name s t p (Asked (Close o) Done a) spare later h history (tells_no_names (items_of p) (Asked (Close o) Done a) silent)
        (subst (λ (b : List (Mail (Command (Load N O I)))). AreCarried out_name in_name (items_of p) now b) (sym boxes_are)
        (sent_carried out_name in_name (items_of p) now 0 reap s.boxes room (record { carries = ends; reaps = record { between = closed_between c o.0 is_open; all = record { joined = all.joined; writers = all.writers; states = all.states } } }) others))
        (binds_fit c did (kept_past p h.history.run) (fits_last out_name in_name t p did later history) refl s.objects.lists t.objects.lists
        (same_lists s.objects.lists t.objects.lists (ap (λ (x : State (Load N O I)). x.objects.lists) is ∙ lists)) h.binds)
      where
        did : Did N S
        did = Asked (Close o) Done a

        c : Control
        c = control_of p

        now : Control
        now = after (Asked (Close o) Done a) (control_of p)

        others : AreCarried out_name in_name (items_of p) now s.boxes
        others m = λ k x lt.
            (let one = h.carried m k x lt in record {
              carries = one.carries;
              reaps = reaps_later out_name in_name (name_of (items_of p)) c now h.history.stands.lists.known
                  (λ i between. others_spared i c (kept_past p h.history.run) h.history.stands.lists.known did (fits_last out_name in_name t p did later history)
                  (untouched c i between did (kept_past p h.history.run) (fits_last out_name in_name t p did later history))) _ _ one.carries (close_between c o.0 is_open _ (between_was m k x lt)) one.reaps;
            })
          where
            between_was : (n : ℕ) → All (λ (command : Command (Load N O I)). ReapBetween (control_of p).rows command.letter.word) (mail_at s.boxes n).commands
            between_was n =
                all_of_map (λ (l : Letter). ReapBetween (control_of p).rows l.word) (λ (command : Command (Load N O I)). command.letter) (mail_at s.boxes n).commands
                (subst (λ (ls : List Letter). All (λ (l : Letter). ReapBetween (control_of p).rows l.word) ls) (sym (h.history.stands.boxes.each n)) (reaps_between (control_of p) (kept_past p h.history.run) n))
