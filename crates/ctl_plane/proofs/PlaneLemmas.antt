-- That a control plane goes on being one: its names, and what its commands carry.
use Rattle.std.specs.Prelude.{◌≡◌, ◌+◌, ◌==◌, ◌++◌, ◌∷◌, ◌-◌, [], ℕ, Bool, true, false, cond, List, All, map, replicate, sum_by, flat_map, ◌≤◌, refl}
use Rattle.std.proofs.Common.{arith, sym, ap, ◌∙◌, subst, inl, inr}
use Rattle.std.proofs.lemmas.Bool.{cases_lt}
use Rattle.std.proofs.lemmas.List.{append-nil, append_assoc, map-append, length-replicate, get_or-replicate, get_or_past}
use Rattle.std.proofs.lemmas.List.Elements.{All-nil}
use Rattle.mailbox.specs.Mail.{Mail, no_mail, with_spare}
use Rattle.spec_control.specs.declared.entry.Did.{Did}
use Rattle.spec_control.specs.declared.entry.Item.{Item}
use Rattle.spec_control.specs.declared.entry.Joining.{Joining}
use Rattle.spec_control.specs.Names.{name_of, IsTold, FitsNames, AreNamed}
use Rattle.spec_control.specs.Rows.{root_alone, of_ends, bind_waits}
use Rattle.spec_control.specs.Control.{Control, begun}
use Rattle.spec_control.specs.After.{after}
use Rattle.spec_control.specs.ControlRun.{Fits, FitsItem, answer_of, after_all, after_item, IsControlRun}
use Rattle.spec_control.proofs.NamedLemmas.{later}
use Rattle.control_laws.specs.Kept.{Kept}
use Rattle.control_laws.specs.OwnMoves.{own_moves}
use Rattle.desk.specs.declared.load.Load.{Load}
use Rattle.desk.specs.declared.given.Given.{Given}
use Rattle.desk.specs.Load.{given_by}
use Rattle.ctl_state.specs.declared.command.Command.{Command}
use Rattle.ctl_state.specs.declared.state.State.{State}
use Rattle.ctl_state.specs.Boxes.{mail_at, with_mail}
use Rattle.ctl_state.specs.Listed.{Listed, with_last, with_room, no_list}
use Rattle.ctl_state.proofs.ReadLemmas.{read_kept}
use Rattle.ctl_plane.specs.Past.{Past, as_item, items_of, control_of, with_event, IsHistory}
use Rattle.ctl_moves.specs.Processing.{IsSilent}
use Rattle.ctl_state.specs.Stands.{Stands}
use Rattle.ctl_plane.specs.Carried.{given_in, IsCarried, AreCarried, BindsFit, IsPlane}
use Rattle.ctl_moves.specs.Naming.{SameEndLists}
use Rattle.ctl_plane.proofs.EventLemmas.{control_more, kept_past, roomier}
use Rattle.ctl_plane.proofs.CarryLemmas.{carries_later}
use Rattle.ctl_plane.proofs.OwedLemmas.{binds_put, binds_fit}
use Rattle.ctl_plane.proofs.ReapLemmas.{carried_later}

-- ---- one item more
module _ {N S : Type 0} where
  pub named_more : (past items : List (Item N S)) (item : Item N S) → AreNamed past items → FitsNames (past ++ items) item → AreNamed past (items ++ item ∷ [])
  named_more past [] item named fits = (subst (λ (xs : List (Item N S)). FitsNames xs item) (append-nil past) fits, tt)
  named_more past (x ∷ items) item named fits =
      (named.0, named_more (past ++ x ∷ []) items item named.1 (subst (λ (xs : List (Item N S)). FitsNames xs item) (sym (append_assoc past (x ∷ []) items)) fits))

  run_last : (items : List (Item N S)) (item : Item N S) (c : Control) → IsControlRun c (items ++ item ∷ []) → FitsItem (after_all items c) item
  run_last [] item c run = run.0
  run_last (x ∷ items) item c run = run_last items item (after_item x c) run.1

  -- who had no end to answer for told no names
  pub tells_no_names : (past : List (Item N S)) (did : Did N S) → IsSilent (answer_of did) → FitsNames past (as_item did)
  tells_no_names past did silent = subst (λ (js : List (Joining N)). All (IsTold (past ++ as_item did ∷ [])) js) (sym silent.joined) (All-nil (IsTold (past ++ as_item did ∷ [])))

module _ {N O I S : Type 0} (out_name : O → N) (in_name : I → N) where
  -- an event that fits
  pub fits_last : (t : State (Load N O I)) (p : Past (Given N O I) N S) (did : Did N S) (later_spare : ℕ) → IsHistory t (with_event did p) later_spare → Fits (control_of p) did
  fits_last t p did later_spare history =
      run_last (items_of p) (as_item did) (begun p.workers) (subst (λ (xs : List (Item N S)). IsControlRun (begun p.workers) xs) (map-append as_item p.events (did ∷ [])) history.run)

  -- what is kept stands for the state behind an event
  pub stands_last : (t : State (Load N O I)) (p : Past (Given N O I) N S) (did : Did N S) (later_spare : ℕ) → IsHistory t (with_event did p) later_spare → Stands t (after did (control_of p))
  stands_last t p did later_spare history = subst (λ (d : Control). Stands t d) (control_more p did) history.stands

  -- what is carried then
  pub carried_last : (s t : State (Load N O I)) (p : Past (Given N O I) N S) (did : Did N S) (spare later_spare : ℕ) → IsPlane out_name in_name s p spare → IsHistory t (with_event did p) later_spare →
      AreCarried out_name in_name (items_of p) (control_of p) t.boxes → AreCarried out_name in_name (items_of p) (after did (control_of p)) t.boxes
  carried_last s t p did spare later_spare h history carried =
      carried_later out_name in_name (items_of p) (control_of p) did t (kept_past p h.history.run) (subst Kept (control_more p did) (kept_past (with_event did p) history.run)) h.history.stands.lists.known
      (fits_last t p did later_spare history) (stands_last t p did later_spare history) carried

  -- an event more, whatever it is, by what is carried and what is on its way then
  pub plane_more : (s t : State (Load N O I)) (p : Past (Given N O I) N S) (did : Did N S) (spare later_spare : ℕ) → IsPlane out_name in_name s p spare → IsHistory t (with_event did p) later_spare →
      FitsNames (items_of p) (as_item did) → AreCarried out_name in_name (items_of p) (after did (control_of p)) t.boxes → BindsFit (after did (control_of p)) t.objects.lists →
      IsPlane out_name in_name t (with_event did p) later_spare
  plane_more s t p did spare later_spare h history names carried binds = record {
    history = history;
    named = subst (λ (xs : List (Item N S)). AreNamed [] xs) (sym items_are) (named_more [] (items_of p) (as_item did) h.named names);
    carried = subst (λ (d : Control). AreCarried out_name in_name (items_of (with_event did p)) d t.boxes) (sym (control_more p did))
        (subst (λ (xs : List (Item N S)). AreCarried out_name in_name xs (after did (control_of p)) t.boxes) (sym items_are) carried_now);
    binds = subst (λ (d : Control). BindsFit d t.objects.lists) (sym (control_more p did)) binds;
  }
    where
      items_are : items_of (with_event did p) ≡ items_of p ++ as_item did ∷ []
      items_are = map-append as_item p.events (did ∷ [])

      carried_now : AreCarried out_name in_name (items_of p ++ as_item did ∷ []) (after did (control_of p)) t.boxes
      carried_now m = λ k x lt.
          (let one = carried m k x lt in record {
            carries = carries_later out_name in_name (name_of (items_of p)) (name_of (items_of p ++ as_item did ∷ [])) (later (items_of p) (as_item did ∷ [])) _ _ one.carries;
            reaps = one.reaps;
          })

  -- an event more that makes no pair and brings no closed socket's ends
  pub one_plane : (s t : State (Load N O I)) (p : Past (Given N O I) N S) (did : Did N S) (spare later_spare : ℕ) → IsPlane out_name in_name s p spare → IsHistory t (with_event did p) later_spare →
      FitsNames (items_of p) (as_item did) → AreCarried out_name in_name (items_of p) (control_of p) t.boxes → SameEndLists s.objects.lists t.objects.lists → sum_by binds_put (own_moves (control_of p) did) ≡ 0 →
      IsPlane out_name in_name t (with_event did p) later_spare
  one_plane s t p did spare later_spare h history names carried same no_binds =
      plane_more s t p did spare later_spare h history names (carried_last s t p did spare later_spare h history carried)
      (binds_fit (control_of p) did (kept_past p h.history.run) (fits_last t p did later_spare history) no_binds s.objects.lists t.objects.lists same h.binds)

  -- the invariant does not speak of what is on its way to the reaper
  given_aside : (t : State (Load N O I)) (workers spare : ℕ) (events : List (Did N S)) (a b : List (Given N O I)) → IsPlane out_name in_name t (record { workers = workers; events = events; given = a }) spare →
      IsPlane out_name in_name t (record { workers = workers; events = events; given = b }) spare
  given_aside t workers spare events a b h = record {
    history = record {
      few = h.history.few;
      run = h.history.run;
      stands = h.history.stands;
      room = h.history.room;
      entries = h.history.entries;
      root = h.history.root;
      objects = h.history.objects;
      pairs = h.history.pairs;
      boxes = h.history.boxes;
    };
    named = h.named;
    carried = h.carried;
    binds = h.binds;
  }

  pub plane_kept : (s : State (Load N O I)) (p : Past (Given N O I) N S) (spare : ℕ) → IsPlane out_name in_name s p spare → Kept (control_of p)
  plane_kept s p spare h = kept_past p h.history.run

  -- the same with the entry in the history's list
  pub planed_now : (t : State (Load N O I)) (workers : ℕ) (l now : Listed (Did N S)) (given now_given : List (Given N O I)) (did : Did N S) → now ≡ with_last did l →
      IsPlane out_name in_name t (with_event did (record { workers = workers; events = l.items; given = given })) (l.spare - 1) →
      IsPlane out_name in_name t (record { workers = workers; events = now.items; given = now_given }) now.spare
  planed_now t workers l now given now_given did is h =
      subst (λ (x : Listed (Did N S)). IsPlane out_name in_name t (record { workers = workers; events = x.items; given = now_given }) x.spare) (sym is)
      (given_aside t workers (l.spare - 1) (l.items ++ did ∷ []) given now_given h)

  roomier_plane : (t : State (Load N O I)) (p : Past (Given N O I) N S) (spare more : ℕ) → spare ≤ more → IsPlane out_name in_name t p spare → IsPlane out_name in_name t p more
  roomier_plane t p spare more less h = record { history = roomier t p spare more less h.history; named = h.named; carried = h.carried; binds = h.binds }

  -- and with room for one entry more
  pub planed_noted : (t : State (Load N O I)) (workers : ℕ) (l mid now : Listed (Did N S)) (given now_given : List (Given N O I)) (did : Did N S) → mid ≡ with_room 1 l → now ≡ with_last did mid →
      IsPlane out_name in_name t (with_event did (record { workers = workers; events = l.items; given = given })) l.spare →
      IsPlane out_name in_name t (record { workers = workers; events = now.items; given = now_given }) now.spare
  planed_noted t workers l mid now given now_given did more is h =
      planed_now t workers (with_room 1 l) now given now_given did (is ∙ ap (with_last did) more) (roomier_plane t _ l.spare (l.spare + 1 - 1) (omega arith) h)

  -- room was kept, and nothing else changed
  pub planed_room : (t : State (Load N O I)) (workers : ℕ) (l now : Listed (Did N S)) (given : List (Given N O I)) → now ≡ with_room 1 l →
      IsPlane out_name in_name t (record { workers = workers; events = l.items; given = given }) l.spare → IsPlane out_name in_name t (record { workers = workers; events = now.items; given = given }) now.spare
  planed_room t workers l now given more h =
      subst (λ (x : Listed (Did N S)). IsPlane out_name in_name t (record { workers = workers; events = x.items; given = given }) x.spare) (sym more) (roomier_plane t _ l.spare (l.spare + 1) (omega arith) h)

-- ---- a context at its making
module _ {N O I : Type 0} where
  no_mail_in : (workers m : ℕ) (empty : List (Mail (Command (Load N O I)))) → empty ≡ replicate (workers + 1) no_mail → (mail_at empty m).commands ≡ []
  no_mail_in workers m empty none =
      ap (λ (b : List (Mail (Command (Load N O I)))). (mail_at b m).commands) none
      ∙ elim (cases_lt m (workers + 1)) [
        | inl within ↦ ap (λ (mail : Mail (Command (Load N O I))). mail.commands) (get_or-replicate (workers + 1) m no_mail no_mail within)
        | inr past ↦ ap (λ (mail : Mail (Command (Load N O I))). mail.commands)
            (get_or_past (replicate (workers + 1) no_mail) m no_mail (let many = length-replicate (workers + 1) (no_mail {C = Command (Load N O I)}) in omega (arith, many, past)))
      ]

  -- no command waits in a mailbox
  no_command : (s : State (Load N O I)) (workers m : ℕ) (empty : List (Mail (Command (Load N O I)))) → empty ≡ replicate (workers + 1) no_mail →
      s.boxes ≡ with_mail 0 (with_spare ((mail_at empty 0).spare + 1) (mail_at empty 0)) empty → (mail_at s.boxes m).commands ≡ []
  no_command s workers m empty none is =
      ap (λ (b : List (Mail (Command (Load N O I)))). (mail_at b m).commands) is
      ∙ read_kept (λ (mail : Mail (Command (Load N O I))). mail.commands) empty 0 m (with_spare ((mail_at empty 0).spare + 1) (mail_at empty 0)) no_mail refl ∙ no_mail_in workers m empty none

  begins_given : (s : State (Load N O I)) (workers : ℕ) (empty : List (Mail (Command (Load N O I)))) → empty ≡ replicate (workers + 1) no_mail →
      s.boxes ≡ with_mail 0 (with_spare ((mail_at empty 0).spare + 1) (mail_at empty 0)) empty → given_in s.boxes ≡ []
  begins_given s workers empty none is = ap (λ (xs : List (Command (Load N O I))). flat_map (λ (x : Command (Load N O I)). given_by x.load) xs) (no_command s workers 0 empty none is)

no_bind : (i : ℕ) → ◌≡◌ {A = ℕ} (sum_by (of_ends bind_waits i) root_alone.pairs) 0
no_bind i = by (0 == i)
  where
    by : (b : Bool) → ◌≡◌ {A = ℕ} (0 + (cond b 0 0 + cond b 0 0)) 0
    by true = refl
    by false = refl

module _ {N O I S : Type 0} (out_name : O → N) (in_name : I → N) where
  pub plane_begins : (s : State (Load N O I)) (workers : ℕ) (empty : List (Mail (Command (Load N O I)))) (l : Listed (Did N S)) → empty ≡ replicate (workers + 1) no_mail →
      s.boxes ≡ with_mail 0 (with_spare ((mail_at empty 0).spare + 1) (mail_at empty 0)) empty → l ≡ with_room 2 no_list →
      IsHistory {G = Given N O I} {N = N} {S = S} s (record { workers = workers; events = l.items; given = [] }) l.spare → IsPlane out_name in_name s (record { workers = workers; events = l.items; given = given_in s.boxes }) l.spare
  plane_begins s workers empty l none is room history = given_aside out_name in_name s workers l.spare l.items [] (given_in s.boxes) (record {
    history = history;
    named = subst (λ (x : Listed (Did N S)). AreNamed [] (map as_item x.items)) (sym room) tt;
    carried = λ m. subst (λ (xs : List (Command (Load N O I))). All (IsCarried out_name in_name (map as_item l.items) (after_all (map as_item l.items) (begun workers))) xs) (sym (no_command s workers m empty none is))
        (All-nil (IsCarried out_name in_name (map as_item l.items) (after_all (map as_item l.items) (begun workers))));
    binds = subst (λ (x : Listed (Did N S)). BindsFit (after_all (map as_item x.items) (begun workers)) s.objects.lists) (sym room) (λ i. (let none_waits = no_bind i in omega (arith, none_waits)));
  })

  pub begins_empty : (s : State (Load N O I)) (workers : ℕ) (empty : List (Mail (Command (Load N O I)))) (l : Listed (Did N S)) → empty ≡ replicate (workers + 1) no_mail →
      s.boxes ≡ with_mail 0 (with_spare ((mail_at empty 0).spare + 1) (mail_at empty 0)) empty → l ≡ with_room 2 no_list →
      ◌≡◌ {A = Past (Given N O I) N S} (record { workers = workers; events = l.items; given = given_in s.boxes }) (record { workers = workers; events = []; given = [] })
  begins_empty s workers empty l none is room =
      ap (λ (x : Listed (Did N S)). let y : Past (Given N O I) N S = record { workers = workers; events = x.items; given = given_in s.boxes } in y) room
      ∙ ap (λ (gs : List (Given N O I)). let y : Past (Given N O I) N S = record { workers = workers; events = []; given = gs } in y) (begins_given s workers empty none is)
