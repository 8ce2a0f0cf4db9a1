-- A request of a listener or a session that its caller's own items allow may be made.
use Rattle.std.specs.Prelude.{◌≡◌, ◌==◌, ◌&&◌, ◌||◌, ℕ, Bool, true, false, not, List, [], ◌∷◌, Option, All, filter, map, refl}
use Rattle.std.specs.List.{list_any}
use Rattle.std.proofs.Common.{sym, ap, ◌∙◌, subst}
use Rattle.std.proofs.lemmas.Bool.{eqb-true}
use Rattle.std.proofs.lemmas.List.Elements.{All-filter, filter_passes}
use Rattle.zq_base.specs.declared.ids.EndId.{EndId}
use Rattle.spec_control.specs.declared.end.Reason.{Reason}
use Rattle.spec_control.specs.declared.end.Reason.TheVariants.{Closed, BadId, Second, Linger, Link}
use Rattle.spec_control.specs.declared.entry.Item.{Item}
use Rattle.spec_control.specs.declared.request.Req.TheVariants.{Socket as MakeSocket, AskTerm, Bind, Connect, Unbind, Disconnect, Close, Accepted, Shaken, AskEnd, AskOver, OutputOver}
use Rattle.spec_control.specs.declared.stage.Stage.{Stage}
use Rattle.spec_control.specs.declared.stage.Stage.TheVariants.{Alive, Told, Ending, Finished, Cleared}
use Rattle.spec_control.specs.declared.stage.Use.{Use}
use Rattle.spec_control.specs.declared.stage.Use.TheVariants.{Unused, OnItsWay, Used}
use Rattle.spec_control.specs.Stage.{has_ended, is_coming, is_ending, is_unused, was_asked}
use Rattle.spec_control.specs.Place.{is_here}
use Rattle.spec_control.specs.Row.{is_session, is_socket}
use Rattle.spec_control.specs.Rows.{obj}
use Rattle.spec_control.specs.Control.{Control, begun, end_of, is_end, owner_of, place_of}
use Rattle.spec_control.specs.After.{pair_or_none}
use Rattle.spec_control.specs.ControlRun.{IsControlRun, IsTakenIn, MayAskEnd, MayAskOver, MayBeOver, MayGive, MayShake, after_all}
use Rattle.spec_control.specs.Held.{Held, ends_after, items_by}
use Rattle.spec_control.specs.Has.{AreBy}
use Rattle.spec_control.specs.OwnAsks.{GivesOwn, Known, MayAskEndOwn, MayAskOverOwn, MayBeOverOwn, MayShakeOwn, is_ask, is_none, is_over, known_after}
use Rattle.desk.specs.Holding.{has_end}
use Rattle.desk.specs.Lent.{here_ends}
use Rattle.control_laws.specs.Kept.{Kept}
use Rattle.control_laws.specs.WorkerLaws.{WorkersMayAsk}
use Rattle.control_laws.proofs.AskedEndLemmas.{AskedBy, linger_run, link_run, own_end}
use Rattle.control_laws.proofs.EndFitLemmas.{ends_fit_run}
use Rattle.control_laws.proofs.HeldOpenLemmas.{some_is}
use Rattle.control_laws.proofs.HeldOthersLemmas.{among}
use Rattle.control_laws.proofs.HeldStepLemmas.{ends_are_here}
use Rattle.control_laws.proofs.ListLemmas.{never, left, right}
use Rattle.control_laws.proofs.MayEndLemmas.{may_end_now}
use Rattle.control_laws.proofs.RootLemmas.{runs_are_kept}
use Rattle.control_laws.proofs.ShakenLemmas.{shaken_run}
use Rattle.control_laws.proofs.UnpluggedLemmas.{serves_run}
use Rattle.control_laws.proofs.WorkRunLemmas.{Knows, known_accepted, known_listener, known_session, worker_no_socket}
use Rattle.control_laws.proofs.JoinLemmas.{unasked_lives}

not_put : (u : Use) → not (is_unused u) ≡ false → u ≡ Unused
not_put Unused h = refl
not_put OnItsWay h = absurd (never (sym h))
not_put Used h = absurd (never (sym h))

asked_ending : (s : Stage) → was_asked s ≡ true → has_ended s ≡ false → is_ending s ≡ true
asked_ending Alive h l = absurd (never h)
asked_ending Told h l = absurd (never h)
asked_ending Ending h l = refl
asked_ending Finished h l = absurd (never (sym l))
asked_ending Cleared h l = absurd (never (sym l))

none_is : {X : Type 0} (xs : List X) → is_none xs ≡ true → xs ≡ []
none_is [] h = refl
none_is (x ∷ xs) h = absurd (never h)

some_any : {X : Type 0} (f : X → Bool) (xs : List X) → list_any f xs ≡ true → is_none xs ≡ false
some_any f [] h = absurd (never h)
some_any f (x ∷ xs) h = refl

waits_not : (a n o : Bool) → n ≡ false → ((a && n) && o) ≡ false
waits_not true true o h = absurd (never (sym h))
waits_not true false o h = refl
waits_not false n o h = refl

module _ {N S : Type 0} (workers : ℕ) (items : List (Item N S)) (run : IsControlRun (begun workers) items) (may : AreBy [] (begun workers) items) (k : ℕ) where
  abbrev c : Control
  c = after_all items (begun workers)

  abbrev own : List (Item N S)
  own = items_by k items

  kept : Kept c
  kept = runs_are_kept N S workers items run

  in_so : (i : ℕ) → Knows workers items run i k → is_over i own ≡ false → IsTakenIn (obj c.rows i)
  in_so i knows free = record { plugged = knows.plugged; lives = knows.lives free }

  over_so : (i : ℕ) → MayAskOverOwn own i → MayAskOver (obj c.rows i)
  over_so i ask = by (known_after i own).listener refl ask.taken_in
    where
      of : Knows workers items run i k → MayAskOver (obj c.rows i)
      of knows = record {
        no_socket = worker_no_socket (obj c.rows i).kind knows.works_so;
        taken_in = in_so i knows ask.lives;
        first_time = not_put (obj c.rows i).request (knows.agrees.over.is knows.works_so ∙ ask.first_time);
      }

      by : (b : Bool) → (known_after i own).listener ≡ b → (b || (known_after i own).session) ≡ true → MayAskOver (obj c.rows i)
      by true e h = of (known_listener workers items run i may k e).0
      by false e h = of (known_session workers items run i may k h).0

  shake_so : (i : ℕ) → MayShakeOwn own i → MayShake c i
  shake_so i ask =
      let so = known_accepted workers items run i may k ask.accepted in
      let knows = so.0.0 in
      let unasked : was_asked (obj c.rows i).stage ≡ false = knows.agrees.told.is knows.works_so ∙ ask.untold in
      record {
        session = so.0.1;
        accepted = so.1;
        taken_in = record { plugged = knows.plugged; lives = unasked_lives (obj c.rows i).stage unasked };
        unasked = unasked;
        unmade = shaken_run i knows.more workers items run (ap (λ (n : Known). n.accepted) (sym knows.all.known) ∙ ask.accepted) (ap (λ (n : Known). n.shaken) (sym knows.all.known) ∙ ask.unmade);
      }

  -- the ends that may be asked, by the items and by the rows
  ends_so : (i : ℕ) (knows : Knows workers items run i k) → map (λ x. x.end) (ends_after i items) ≡ here_ends c.rows.pairs c.attached i
  ends_so i knows = ends_are_here N S workers items run i (ap (λ (b : Bool). b && is_coming (obj c.rows i).request) (worker_no_socket (obj c.rows i).kind knows.works_so))

  output_so : (i : ℕ) → MayBeOverOwn own i → MayBeOver c i
  output_so i ask =
      let so = known_session workers items run i may k ask.session in
      let knows = so.0 in
      let told = left (known_after i own).told (is_none (ends_after i own)) ask.waits in
      let none = none_is (ends_after i own) (right (known_after i own).told (is_none (ends_after i own)) ask.waits) in
      record {
        session = so.1;
        may = may_end_now c kept (serves_run workers items run).sockets i (worker_no_socket (obj c.rows i).kind knows.works_so) knows.plugged
            (asked_ending (obj c.rows i).stage (knows.agrees.told.is knows.works_so ∙ told) (lives knows (has_ended (obj c.rows i).stage) refl))
            (sym (ends_so i knows) ∙ ap (map (λ x. x.end)) (sym knows.all.ends ∙ none))
            (λ o w owned same. never (sym (worker_no_socket (obj c.rows i).kind knows.works_so) ∙ ap (λ (n : ℕ). is_socket (obj c.rows n).kind) (sym same) ∙ kept.shape.owners o w owned (λ zero_is. knows.more (sym same ∙ zero_is))));
      }
    where
      lives : Knows workers items run i k → (b : Bool) → has_ended (obj c.rows i).stage ≡ b → b ≡ false
      lives knows true e = absurd (never (sym (knows.agrees.output.ended e) ∙ ask.left))
      lives knows false e = refl

  -- an end that stands among its ends is its own, and there
  record IsOwn (i : ℕ) (e : EndId) : Type 0 where
    owner : owner_of c e ≡ i
    there : is_here (place_of c e) ≡ true

  own_so : (i : ℕ) (e : EndId) (knows : Knows workers items run i k) → has_end e (ends_after i own) ≡ true → IsOwn i e
  own_so i e knows has =
      among (IsOwn i) (ends_after i items) (subst (λ (es : List EndId). All (IsOwn i) es) (sym (ends_so i knows)) all) e (ap (has_end e) (sym knows.all.ends) ∙ has)
    where
      all : All (IsOwn i) (here_ends c.rows.pairs c.attached i)
      all n d lt = record {
        owner = eqb-true (owner_of c _) i (All-filter (λ x. is_here (place_of c x)) (λ x. (owner_of c x == i) ≡ true) (filter (λ x. owner_of c x == i) c.attached) (filter_passes (λ x. owner_of c x == i) c.attached) n d lt);
        there = filter_passes (λ x. is_here (place_of c x)) (filter (λ x. owner_of c x == i) c.attached) n d lt;
      }

  end_is : (i : ℕ) (e : EndId) → owner_of c e ≡ i → is_session (obj c.rows i).kind ≡ true → own_end (obj c.rows i) ≡ e
  end_is i e owner session =
      let both = ends_fit_run workers items run e.pair.0 e.a (subst (λ (n : ℕ). is_session (obj c.rows n).kind ≡ true) (sym owner) session) in
      ap (λ (n : ℕ). own_end (obj c.rows n)) (sym owner) ∙ ap (λ (p : Option ℕ). end_of (pair_or_none p) (obj c.rows (owner_of c e)).accepted) both.0 ∙ ap (λ (x : Bool). end_of e.pair.0 x) both.1

  -- it did not ask before
  not_asked : (i : ℕ) (e : EndId) (reason : Reason) (knows : Knows workers items run i k) → own_end (obj c.rows i) ≡ e → list_any (is_ask e reason) own ≡ false → AskedBy items i (own_end (obj c.rows i)) reason → ⊥
  not_asked i e reason knows is none asked =
      never (sym none ∙ ap (λ (n : ℕ). list_any (is_ask e reason) (items_by n items)) (some_is (sym knows.all.has ∙ asked.has)) ∙ ap (λ (d : EndId). list_any (is_ask d reason) (items_by asked.by items)) (sym is) ∙ asked.asked)

  free_of : (b : Bool) → (b ≡ true → ⊥) → b ≡ false
  free_of true h = absurd (h refl)
  free_of false h = refl

  gives_so : (reason : Reason) (i : ℕ) (e : EndId) (knows : Knows workers items run i k) → is_session (obj c.rows i).kind ≡ true → own_end (obj c.rows i) ≡ e → GivesOwn reason e i own → MayGive reason (obj c.rows i)
  gives_so Closed i e knows session is gives = gives
  gives_so BadId i e knows session is gives = gives
  gives_so Second i e knows session is gives = gives
  gives_so Linger i e knows session is gives =
      (knows.agrees.told.is knows.works_so ∙ gives.0, free_of (obj c.rows i).asked_linger (λ h. not_asked i e Linger knows is gives.1 (linger_run workers items run may i session h)))
  gives_so Link i e knows session is gives =
      let accepted = (known_accepted workers items run i may k gives.0).1 in
      (accepted, free_of (obj c.rows i).asked_link (λ h. not_asked i e Link knows is gives.1 (link_run workers items run may i (ap (λ (b : Bool). b && (obj c.rows i).accepted) session ∙ accepted) h)))

  end_so : (e : EndId) (reason : Reason) → MayAskEndOwn own e reason → MayAskEnd c e reason
  end_so e reason ask =
      let so = known_session workers items run ask.owner may k ask.session in
      let knows = so.0 in
      let its = own_so ask.owner e knows ask.has in
      let back = sym its.owner in
      record {
        session = subst (λ (n : ℕ). is_session (obj c.rows n).kind ≡ true) back so.1;
        taken_in = subst (λ (n : ℕ). IsTakenIn (obj c.rows n)) back
            (in_so ask.owner knows (waits_not (known_after ask.owner own).told (is_none (ends_after ask.owner own)) (not (known_after ask.owner own).output_left) (some_any (λ (h : Held N). is_end e h.end) (ends_after ask.owner own) ask.has)));
        there = its.there;
        gives = subst (λ (n : ℕ). MayGive reason (obj c.rows n)) back (gives_so reason ask.owner e knows so.1 (end_is ask.owner e its.owner so.1) ask.gives);
      }

pub workers_may_ask : (N S : Type 0) → WorkersMayAsk N S
workers_may_ask N S workers items run may k (Accepted o) of ask =
    let so = known_listener workers items run o.0 may k ask.0 in
    (so.1, in_so workers items run may k o.0 so.0 ask.1)
workers_may_ask N S workers items run may k (Shaken o peer) of ask = shake_so workers items run may k o.0 ask
workers_may_ask N S workers items run may k (AskEnd e reason) of ask = end_so workers items run may k e reason ask
workers_may_ask N S workers items run may k (AskOver o) of ask = over_so workers items run may k o.0 ask
workers_may_ask N S workers items run may k (OutputOver o) of ask = output_so workers items run may k o.0 ask
workers_may_ask N S workers items run may k (MakeSocket kind options) of ask = absurd of
workers_may_ask N S workers items run may k AskTerm of ask = absurd of
workers_may_ask N S workers items run may k (Bind o at) of ask = absurd of
workers_may_ask N S workers items run may k (Connect o at) of ask = absurd of
workers_may_ask N S workers items run may k (Unbind o at) of ask = absurd of
workers_may_ask N S workers items run may k (Disconnect o at) of ask = absurd of
workers_may_ask N S workers items run may k (Close o) of ask = absurd of
