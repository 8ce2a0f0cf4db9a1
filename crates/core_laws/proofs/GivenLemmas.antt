-- The ends that are on their way to the reaper still, behind a call of its, are with their halves.
use Rattle.std.specs.Prelude.{◌≡◌, ℕ, Bool, true, false, List, Some, All, is_some, refl}
use Rattle.std.specs.List.{list_any}
use Rattle.std.proofs.Common.{sym, ap, ◌∙◌, subst}
use Rattle.std.proofs.Math.Logic.{∥∥₁_elim}
use Rattle.zq_base.specs.Ends.{other_end}
use Rattle.zq_base.specs.declared.ids.EndId.{EndId}
use Rattle.spec_pattern.specs.Half.{Reading, Writing}
use Rattle.spec_control.specs.declared.end.EndState.TheVariants.{Gone}
use Rattle.spec_control.specs.Place.{At, is_away}
use Rattle.spec_control.specs.Rows.{obj}
use Rattle.spec_control.specs.Control.{owner_of, place_of}
use Rattle.spec_control.specs.ControlRun.{is_between}
use Rattle.spec_control.specs.Names.{name_of}
use Rattle.control_laws.proofs.ListLemmas.{never}
use Rattle.msg_pipe.specs.Known.{Known}
use Rattle.desk.specs.declared.given.Given.{Given}
use Rattle.desk.specs.Lent.{has_writer}
use Rattle.desk.specs.TakingOver.{IsGivenWith}
use Rattle.ctl_plane.specs.Giving.{IsOnItsWay}
use Rattle.ctl_plane.specs.Past.{control_of}
use Rattle.desk.specs.Desk.{HasWhatTheySay}
use Rattle.end_table.specs.declared.changes.PipeChange.{PipeChange}
use Rattle.end_table.specs.declared.table.Place.{Place}
use Rattle.end_table.specs.Places.{place_at}
use Rattle.socket_laws.specs.Names.{NamesStand}
use Rattle.closed_ends.specs.declared.sockets.ClosedSockets.{ClosedSockets}
use Rattle.closed_ends.specs.Has.{all_ends, holding_in, is_of, is_socket}
use Rattle.closed_ends.specs.Noted.{first_places, HasDoneTo}
use Rattle.closed_ends.specs.Sound.{AreSound}
use Rattle.core_laws.specs.ReaperCalls.{came_since}
use Rattle.plain_desk.specs.Lent.{moments_of, IsOneOrder, Lent}
use Rattle.socket_laws.proofs.SocketLemmas.{kept_now}
use Rattle.core_laws.proofs.ApartLemmas.{is_out, not_first, other_out}
use Rattle.core_laws.specs.Ends.{ReaperDid, ReaperGoesOn}
use Rattle.core_laws.proofs.EndLemmas.{same_names}
use Rattle.core_laws.proofs.GrowLemmas.{all_last}
use Rattle.core_laws.proofs.HadLemmas.{had_by, had_free, sockets_had}
use Rattle.core_laws.specs.Reaped.{ReaperKeepsGiven}
use Rattle.core_laws.proofs.ReapedLemmas.{not_placed, of_one, read_left, written_left}
use Rattle.core_laws.proofs.ThereLemmas.{reaper_keeps_names}

-- whoever has what its moments say has no end of a socket whose Reap is on its way
pub none_among : {S O I N : Type 0} (K : Known S O I N) {G T : Type 0} (d : Lent G N T) → IsOneOrder d → (pipes : S) (closed : ClosedSockets N O I) → AreSound K pipes closed.sockets.items
    → HasWhatTheySay d.caller (moments_of d) (holding_in K.out_name K.in_name closed) → (e : EndId) → is_between (obj (control_of d.past).rows (owner_of (control_of d.past) e)) ≡ true → list_any (is_of e) (all_ends closed.sockets.items) ≡ true → ⊥
none_among K d order pipes closed sound say e between among =
    let its = of_one (λ x. list_any (is_socket (owner_of (control_of d.past) x)) closed.sockets.items ≡ true) e (all_ends closed.sockets.items) (sockets_had K d order pipes closed sound say) among in
    never (sym (had_free d order (owner_of (control_of d.past) e) d.caller (had_by d order (holding_in K.out_name K.in_name closed) say (owner_of (control_of d.past) e) its)) ∙ between)

module _ {S O I N T : Type 0} (K : Known S O I N) (old new : Lent (Given N O I) N T) (before behind : S) (from to : ClosedSockets N O I) (changes : List (PipeChange O I × S)) (did : ReaperDid K old new before behind from to changes)
    (goes : ∥ ReaperGoesOn K old new did.call from to ∥₁) (names : NamesStand K (control_of old.past) (name_of old.items) before) (g : Given N O I) (way : IsOnItsWay K.in_name (control_of new.past) (name_of new.items) g) where
  order : IsOneOrder new
  order = did.call.behind

  names_now : NamesStand K (control_of new.past) (name_of new.items) behind
  names_now = reaper_keeps_names K T old new before behind from to changes did names

  same : (e : EndId) → name_of new.items e ≡ name_of old.items e
  same = same_names K old new before behind from to changes did

  no_place : ReaperGoesOn K old new did.call from to → (k : ℕ) (p : Place N I) → place_at (first_places K.in_name from (came_since from to)) k ≡ Some p → g.end ≡ p.end → ⊥
  no_place go = not_placed K old new before behind from to changes did go g.end way.here (none_among K new order behind to did.sound did.keeps.has g.end way.between)

  not_across : is_some g.out ≡ true → (p : Place N I) → place_of (control_of new.past) p.end ≡ At Gone → g.end ≡ other_end p.end → ⊥
  not_across writes p gone is =
      not_first (has_writer (place_of (control_of new.past) g.end)) (is_away (place_of (control_of new.past) g.end))
      (ap (λ (x : EndId). is_out (place_of (control_of new.past) x)) is ∙ other_out (control_of new.past) (kept_now new order) p.end gone) (sym way.writes ∙ writes)

  met_still : (K.reading before g.input).ended ≡ true → (K.reading behind g.input).ended ≡ true
  met_still was = by (K.reading behind g.input).ended refl
    where
      by : (b : Bool) → (K.reading behind g.input).ended ≡ b → b ≡ true
      by true is = refl
      by false is = absurd (∥∥₁_elim goes (λ x y. absurd x) (λ go. ∥∥₁_elim did.done (λ x y. absurd x) (λ done. never (sym is ∙ ap (λ (r : Reading). r.ended)
          (read_left K old new before behind from to changes did go names g.end g.input (sym (same (other_end g.end)) ∙ way.read) (no_place go) done) ∙ was))))

  unsealed_still : (o : O) → g.out ≡ Some o → K.out_name o ≡ g.written → (K.writing before o).sealed ≡ false → (K.writing behind o).sealed ≡ false
  unsealed_still o out name was = by (K.writing behind o).sealed refl
    where
      left_so : ReaperGoesOn K old new did.call from to → HasDoneTo K before from changes behind to → K.writing behind o ≡ K.writing before o
      left_so go done = written_left K old new before behind from to changes did go names g.end o (sym (same g.end) ∙ way.written ∙ ap (λ (n : N). Some n) (sym name)) (no_place go) (λ k p first gone. not_across (ap is_some out) p gone) done

      by : (b : Bool) → (K.writing behind o).sealed ≡ b → b ≡ false
      by false is = refl
      by true is = absurd (∥∥₁_elim goes (λ x y. absurd x) (λ go. ∥∥₁_elim did.done (λ x y. absurd x) (λ done. never (sym was ∙ sym (ap (λ (w : Writing). w.sealed) (left_so go done)) ∙ is))))

  pub given_still : IsGivenWith K before g → IsGivenWith K behind g
  given_still with_halves = record {
    read_there = names_now.there (other_end g.end) (K.in_name g.input) way.read;
    met = λ met. met_still (with_halves.met met);
    out_is = with_halves.out_is;
    written_there = λ o out. names_now.there g.end g.written way.written;
    unsealed = λ o out open_yet. unsealed_still o out (with_halves.out_is o out) (with_halves.unsealed o out open_yet);
  }

pub reaper_keeps_given : {S O I N : Type 0} (K : Known S O I N) (T : Type 0) → ReaperKeepsGiven K T
reaper_keeps_given K T old new before behind from to changes did goes names way takes given =
    let rest = all_last (IsGivenWith K before) takes.ends new.past.given (subst (All (IsGivenWith K before)) takes.first given) in
    λ k d lt. given_still K old new before behind from to changes did goes names _ (way k d lt) (rest k d lt)
