-- That a delimiter that an end meets adds its event.
use Rattle.std.specs.Prelude.{◌≡◌, ◌<◌, ◌-◌, ◌++◌, ◌∷◌, [], ℕ, true, false, List, refl}
use Rattle.std.proofs.Common.{arith, sym, subst}
use Rattle.std.proofs.lemmas.List.{map-append}
use Rattle.zq_base.specs.declared.ids.EndId.{EndId}
use Rattle.spec_control.specs.declared.end.EndEvent.TheVariants.{DelimiterSeen}
use Rattle.spec_control.specs.declared.entry.Answered.{Answered}
use Rattle.spec_control.specs.declared.entry.Did.{Did}
use Rattle.spec_control.specs.declared.entry.Did.TheVariants.{Delimited}
use Rattle.spec_control.specs.declared.entry.Item.{Item}
use Rattle.spec_control.specs.Place.{looks}
use Rattle.spec_control.specs.Names.{name_of}
use Rattle.spec_control.specs.Rows.{obj}
use Rattle.spec_control.specs.Control.{Control, happens, owner_of, place_of}
use Rattle.spec_control.specs.After.{after}
use Rattle.spec_control.specs.ControlRun.{Fits, is_between}
use Rattle.spec_control.proofs.NamedLemmas.{later}
use Rattle.desk.specs.declared.load.Load.{Load}
use Rattle.desk.specs.declared.given.Given.{Given}
use Rattle.desk.specs.Holding.{Holding}
use Rattle.desk.specs.Lent.{HasAll}
use Rattle.ctl_state.specs.declared.state.State.{State}
use Rattle.ctl_moves.specs.Turning.{MayTurn, Leads, turn_of}
use Rattle.ctl_plane.specs.Past.{Past, as_item, items_of, control_of, with_event}
use Rattle.ctl_moves.specs.Processing.{IsSilent}
use Rattle.ctl_plane.specs.Carried.{given_in, IsPlane}
use Rattle.ctl_plane.specs.Hearing.{HasWhat}
use Rattle.ctl_plane.proofs.EventLemmas.{MakesNothing, kept_past, control_more, one_foreseen, has_entry}
use Rattle.ctl_plane.proofs.SilentLemmas.{silent_answered}
use Rattle.ctl_plane.proofs.PlaneLemmas.{one_plane, tells_no_names}
use Rattle.ctl_moves.proofs.FindLemmas.{turns_at, loaded_capacity}
use Rattle.ctl_moves.proofs.NameLemmas.{same_lists}
use Rattle.ctl_plane.proofs.DeliverLemmas.{loaded_given, loaded_carried, has_later}

module _ {N O I S : Type 0} (out_name : O → N) (in_name : I → N) (s : State (Load N O I)) (p : Past (Given N O I) N S) (spare : ℕ) (e : EndId) (plane : IsPlane out_name in_name s p spare) (looked_at : looks (place_of (control_of p) e) ≡ true) where
  abbrev pub may_meet : (h : Holding N) → HasWhat p h → h.holds (owner_of (control_of p) e) ≡ true → h.at_delimiter e ≡ true → MayTurn out_name in_name s h e DelimiterSeen
  may_meet h has lent at = record {
    control = control_of p;
    names = name_of (items_of p);
    stands = plane.history.stands;
    has = has;
    turns = turns_at (control_of p) (kept_past p plane.history.run) out_name in_name s h e DelimiterSeen looked_at (λ above. lent) (λ seen. at) plane.history.room;
  }

  module _ (t : State (Load N O I)) (h k : Holding N) (a : Answered N S) (silent : IsSilent a) (held : is_between (obj (control_of p).rows (owner_of (control_of p) e)) ≡ false)
      (leads : Leads out_name in_name (name_of (items_of p)) (turn_of e (control_of p) (happens DelimiterSeen e (control_of p))) (happens DelimiterSeen e (control_of p)) s t h k) where
    abbrev did : Did N S
    did = Delimited e a

    fits : Fits (control_of p) did
    fits = record { may = record { looked_at = looked_at; held = held }; answered = silent_answered (control_of p) did silent refl refl silent.settled silent.output }

    nothing : MakesNothing (control_of p) did
    nothing = record { no_room = λ m. refl; no_entries = refl; no_objects = refl; no_pairs = refl; foreseen = refl }

    pub meets : IsPlane out_name in_name t (with_event did p) (spare - 1)
    meets =
        one_plane out_name in_name s t p did spare (spare - 1) plane
        (one_foreseen s t p did spare plane.history fits leads.stands nothing (λ m. (let put = loaded_capacity out_name in_name (name_of (items_of p)) s.boxes t.boxes leads.puts m in omega (arith, put))) leads.puts.many)
        (tells_no_names (items_of p) did silent) (loaded_carried out_name in_name (items_of p) (control_of p) s.boxes t.boxes leads.puts plane.carried)
        (same_lists s.objects.lists t.objects.lists leads.lists) refl

    pub meets_entry : 0 < spare
    meets_entry = has_entry s p did spare plane.history fits refl refl

    pub meets_given : given_in t.boxes ≡ given_in s.boxes
    meets_given = loaded_given out_name in_name (name_of (items_of p)) s.boxes t.boxes leads.puts

    pub meets_keeps : HasWhat (with_event did p) k
    meets_keeps =
        subst (λ (c : Control). HasAll (name_of (items_of (with_event did p))) c k) (sym (control_more p did))
        (subst (λ (items : List (Item N S)). HasAll (name_of items) (after did (control_of p)) k) (sym (map-append as_item p.events (did ∷ [])))
        (has_later (name_of (items_of p)) (name_of (items_of p ++ as_item did ∷ [])) (later (items_of p) (as_item did ∷ [])) (after did (control_of p)) k leads.has))
