-- The ends of closed sockets are where such ends may be, however they came.
use Rattle.std.specs.Prelude.{◌≡◌, ◌++◌, ◌∷◌, [], ℕ, true, false, List, Some, All, map}
use Rattle.std.specs.List.{list_any}
use Rattle.std.proofs.Common.{sym, ap, ◌∙◌, subst, inl, inr, true≢false}
use Rattle.std.proofs.lemmas.List.{append-nil}
use Rattle.std.proofs.lemmas.List.Elements.{All-cons, All-nil}
use Rattle.zq_base.specs.declared.ids.ObjId.{ObjId}
use Rattle.msg_pipe.specs.Known.{Known}
use Rattle.spec_control.specs.declared.entry.Joining.{Joining}
use Rattle.spec_control.specs.Rows.{obj}
use Rattle.spec_control.specs.Control.{Control, owner_of}
use Rattle.spec_control.specs.ControlRun.{is_between}
use Rattle.spec_control.specs.Names.{name_of}
use Rattle.desk.specs.declared.given.Given.{Given}
use Rattle.ctl_plane.specs.Giving.{AreOnTheirWay, IsOnItsWay}
use Rattle.ctl_plane.specs.Past.{control_of}
use Rattle.end_table.specs.declared.changes.PipeChange.{PipeChange}
use Rattle.end_table.specs.declared.table.Place.{Place}
use Rattle.end_table.specs.Places.{place_at}
use Rattle.socket_laws.specs.Ends.{IsGoneFrom}
use Rattle.closed_ends.specs.declared.sockets.ClosedSockets.{ClosedSockets}
use Rattle.closed_ends.specs.Coming.{IsBrought}
use Rattle.closed_ends.specs.Finding.{came_given, place_given}
use Rattle.closed_ends.specs.Has.{all_ends, holding_in, is_of, is_socket}
use Rattle.closed_ends.specs.Noted.{first_places}
use Rattle.closed_ends.proofs.NotedLemmas.{came_places}
use Rattle.socket_laws.specs.Asked.{WereAsked}
use Rattle.core_laws.specs.ReaperCalls.{came_since}
use Rattle.core_laws.specs.Goes.{AreTaken, NamedGoOn}
use Rattle.core_laws.specs.Sealed.{AllAsked}
use Rattle.core_laws.proofs.ReaperCallLemmas.{behind as dropped_behind}
use Rattle.core_laws.proofs.GoLemmas.{reaper_ends_go_on, split_at}
use Rattle.core_laws.proofs.HereLemmas.{at_its_place}
use Rattle.plain_desk.specs.Lent.{Lent}
use Rattle.core_laws.specs.Ends.{ReaperDid, ReaperGoesOn}
use Rattle.core_laws.specs.However.{CameHow, CameJoined, CameOf, ReaperEndsGoOnHowever}
use Rattle.core_laws.proofs.EndLemmas.{all_had, are_here, gone_at, gone_there, same_names, told, WasHad}
use Rattle.core_laws.proofs.HadLemmas.{had_by, had_free}

-- the places of those that came
pub since_are : {S O I N : Type 0} (K : Known S O I N) (from to : ClosedSockets N O I) (gs : List (Given N O I)) → to.came.items ≡ from.came.items ++ map (came_given K.in_name) gs → came_since from to ≡ map (came_given K.in_name) gs
since_are K from to gs came = dropped_behind from.came.items (map (came_given K.in_name) gs) to.came.items came

module _ {S O I N T : Type 0} (K : Known S O I N) (old new : Lent (Given N O I) N T) (before behind : S) (from to : ClosedSockets N O I) (changes : List (PipeChange O I × S)) (did : ReaperDid K old new before behind from to changes)
    (way : AreOnTheirWay K.in_name (control_of old.past) (name_of old.items) old.past.given) where
  abbrev c : Control
  c = control_of old.past

  abbrev now : Control
  now = control_of new.past

  abbrev had_places : List (Place N I)
  had_places = map (place_given K.in_name) (all_ends from.sockets.items)

  -- ---- those that it had, and those that came
  firsts_are : (gs : List (Given N O I)) → to.came.items ≡ from.came.items ++ map (came_given K.in_name) gs → first_places K.in_name from (came_since from to) ≡ had_places ++ map (place_given K.in_name) gs
  firsts_are gs came = ap (first_places K.in_name from) (since_are K from to gs came) ∙ ap (λ (l : List (Place N I)). had_places ++ l) (came_places K.in_name gs)

  abbrev GoesAway : Given N O I → Type 0
  GoesAway g = list_any (is_of g.end) (all_ends to.sockets.items) ≡ false → IsGoneFrom (control_of new.past) (place_given {N = N} {O = O} {I = I} K.in_name g)

  gone_first : (gs : List (Given N O I)) → to.came.items ≡ from.came.items ++ map (came_given K.in_name) gs → All GoesAway gs → (k : ℕ) (p : Place N I) → place_at (first_places K.in_name from (came_since from to)) k ≡ Some p
      → list_any (is_of p.end) (all_ends to.sockets.items) ≡ false → IsGoneFrom (control_of new.past) p
  gone_first gs came away k p at none =
      elim (split_at had_places (map (place_given K.in_name) gs) k p (ap (λ (ps : List (Place N I)). place_at ps k) (sym (firsts_are gs came)) ∙ at)) [
        | inl front ↦ gone_at K old new before behind from to changes did k p front none
        | inr back ↦ of_came back
      ]
    where
      of_came : (i : ℕ) × (place_at (map (place_given K.in_name) gs) i ≡ Some p) → IsGoneFrom (control_of new.past) p
      of_came back =
          let g = at_its_place K.in_name GoesAway gs away back.0 p back.1 in
          subst (IsGoneFrom now) (sym g.1) (g.2 (ap (λ (q : Place N I). list_any (is_of q.end) (all_ends to.sockets.items)) (sym g.1) ∙ none))

  -- none that it had is between its close and its Reap
  free : (k : ℕ) (p : Place N I) → place_at (map (place_given K.in_name) (all_ends from.sockets.items)) k ≡ Some p → is_between (obj (control_of old.past).rows (owner_of (control_of old.past) p.end)) ≡ false
  free k p at =
      let g = at_its_place K.in_name (WasHad K old new before behind from to changes did) (all_ends from.sockets.items) (all_had K old new before behind from to changes did) k p at in
      let is = had_free old did.call.before (owner_of c g.0.end) old.caller (had_by old did.call.before (holding_in K.out_name K.in_name from) did.has (owner_of c g.0.end) g.2.holds) in
      ap (λ (q : Place N I). is_between (obj c.rows (owner_of c q.end))) g.1 ∙ is

  taken : (gs : List (Given N O I)) → to.came.items ≡ from.came.items ++ map (came_given K.in_name) gs → All GoesAway gs → AreTaken K (control_of old.past) (control_of new.past) (name_of old.items) from to
  taken gs came away = record { here = are_here K old new before behind from to changes did; taken = free; gone = gone_first gs came away }

  goes_by : NamedGoOn K (control_of old.past) (control_of new.past) (name_of old.items) from to → ReaperGoesOn K old new did.call from to
  goes_by n = record { ends = n.goes; named = n.named; names = same_names K old new before behind from to changes did; told = told K old new before behind from to changes did }

  -- ---- however they came
  none_more : to.came.items ≡ from.came.items → to.came.items ≡ from.came.items ++ map (came_given {O = O} K.in_name) []
  none_more same = same ∙ sym (append-nil from.came.items)

  none_goes : to.came.items ≡ from.came.items → ReaperGoesOn K old new did.call from to
  none_goes same = goes_by ((reaper_ends_go_on K c now (name_of old.items) from to old.past.given (taken [] (none_more same) (All-nil GoesAway))).none same)

  one_goes : (j : Joining N) → CameJoined K old new from to j → ReaperGoesOn K old new did.call from to
  one_goes j o = goes_by ((reaper_ends_go_on K c now (name_of old.items) from to old.past.given (taken (o.one.end ∷ []) o.one.came (All-cons GoesAway o.one.end [] stays (All-nil GoesAway)))).one j o.one o.stands)
    where
      stays : GoesAway o.one.end
      stays none = absurd (true≢false (sym (ap (λ e. list_any (is_of e) (all_ends to.sockets.items)) o.one.joined.end ∙ o.stands.stands) ∙ none))

  -- each that was on its way is so
  pub on_way : (o : ℕ) (gs : List (Given N O I)) → All (IsBrought (control_of old.past) old.past.given o) gs → All (IsOnItsWay K.in_name (control_of old.past) (name_of old.items)) gs
  on_way o gs brought = λ k d lt. let x = (brought k d lt).one in subst (IsOnItsWay K.in_name c (name_of old.items)) x.2 (way x.0 _ x.1)

  all_goes : (o : ObjId) → CameOf K old new from to o → ReaperGoesOn K old new did.call from to
  all_goes o a = goes_by ((reaper_ends_go_on K c now (name_of old.items) from to old.past.given (taken a.all.ends a.all.came away)).all o.0 a.all way)
    where
      away : All GoesAway a.all.ends
      away = λ k d lt none.
          let its = on_way o.0 a.all.ends a.all.brought k d lt in
          gone_there K old new before behind from to changes did _ its.here (λ here. ap (λ (i : ℕ). list_any (is_socket i) to.sockets.items) (a.all.brought k d lt).its ∙ a.held) none

  pub goes_however : CameHow K old new from to → ReaperGoesOn K old new did.call from to
  goes_however (inl same) = none_goes same
  goes_however (inr (inl one)) = one_goes one.0 one.1
  goes_however (inr (inr all)) = all_goes all.0 all.1

  -- ---- what came, each asked where it is told as sealed
  pub record Came : Type 0 where
    pub ends : List (Given N O I)
    pub are : to.came.items ≡ from.came.items ++ map (came_given K.in_name) ends
    pub asked : AllAsked (control_of old.past) ends

  one_came : (j : Joining N) → CameJoined K old new from to j → Came
  one_came j o = record {
    ends = o.one.end ∷ [];
    are = o.one.came;
    asked = All-cons (λ (g : Given N O I). g.sealed ≡ true → WereAsked c (g.end ∷ [])) o.one.end [] (λ sealed. absurd (true≢false (sym sealed ∙ o.one.joined.unsealed))) (All-nil (λ (g : Given N O I). g.sealed ≡ true → WereAsked c (g.end ∷ [])));
  }

  all_came : AllAsked (control_of old.past) old.past.given → (o : ObjId) → CameOf K old new from to o → Came
  all_came asked o a = record {
    ends = a.all.ends;
    are = a.all.came;
    asked = λ k d lt. let x = (a.all.brought k d lt).one in subst (λ (g : Given N O I). g.sealed ≡ true → WereAsked c (g.end ∷ [])) x.2 (asked x.0 _ x.1);
  }

  pub came_how : AllAsked (control_of old.past) old.past.given → CameHow K old new from to → Came
  came_how asked (inl same) = record { ends = []; are = none_more same; asked = All-nil (λ (g : Given N O I). g.sealed ≡ true → WereAsked c (g.end ∷ [])) }
  came_how asked (inr (inl one)) = one_came one.0 one.1
  came_how asked (inr (inr all)) = all_came asked all.0 all.1

pub reaper_ends_go_on_however : {S O I N : Type 0} (K : Known S O I N) (T : Type 0) → ReaperEndsGoOnHowever K T
reaper_ends_go_on_however K T old new before behind from to changes did way how = goes_however K old new before behind from to changes did way how
