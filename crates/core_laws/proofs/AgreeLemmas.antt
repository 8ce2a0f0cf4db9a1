-- The sockets that callers have open agree still behind a call of the reaper.
use Rattle.std.specs.Prelude.{◌≡◌, ℕ, Bool, true, false, List, Option, Some, refl}
use Rattle.std.proofs.Common.{sym, ap, ◌∙◌}
use Rattle.std.proofs.Math.Logic.{∥∥₁_elim}
use Rattle.zq_base.specs.Ends.{other_end}
use Rattle.zq_base.specs.declared.ids.EndId.{EndId}
use Rattle.spec_pattern.specs.Half.{Reading, Writing}
use Rattle.spec_control.specs.declared.end.EndState.TheVariants.{Gone}
use Rattle.spec_control.specs.Place.{At, is_away}
use Rattle.spec_control.specs.Control.{place_of}
use Rattle.spec_control.specs.Names.{name_of}
use Rattle.control_laws.proofs.ListLemmas.{left, never}
use Rattle.spec_control.specs.Moments.{Moment}
use Rattle.msg_pipe.specs.Known.{Known}
use Rattle.any_sock.specs.declared.any_sock.AnySock.{AnySock}
use Rattle.desk.specs.declared.given.Given.{Given}
use Rattle.desk.specs.declared.halves.Halves.{Halves}
use Rattle.desk.specs.Lent.{has_writer}
use Rattle.ctl_plane.specs.Past.{control_of}
use Rattle.desk.specs.Desk.{slot_after}
use Rattle.end_table.specs.declared.row.EndRow.{EndRow}
use Rattle.end_table.specs.Rows.{row_at}
use Rattle.end_table.specs.declared.changes.PipeChange.{PipeChange}
use Rattle.end_table.specs.declared.table.Place.{Place}
use Rattle.end_table.specs.Places.{place_at}
use Rattle.end_table.specs.Sound.{Fits, IsSound, ReadsSo, StandsSo, WritesSo}
use Rattle.socket_laws.specs.Names.{NamesStand}
use Rattle.socket_laws.specs.Ends.{IsHeldFor}
use Rattle.socket_laws.specs.Asked.{EndsAreSealedOnce}
use Rattle.sock_core.specs.declared.sock.SockCore.{SockCore}
use Rattle.sock_core.proofs.FormLemmas.{are_sound, sound_of}
use Rattle.line_socket.specs.Standing.{IsStanding}
use Rattle.closed_ends.specs.declared.sockets.ClosedSockets.{ClosedSockets}
use Rattle.closed_ends.specs.Noted.{first_places, HasDoneTo}
use Rattle.core_laws.specs.ReaperCalls.{came_since}
use Rattle.plain_desk.specs.Lent.{coming_to, moments_of, IsOneOrder, Lent}
use Rattle.socket_laws.proofs.SocketLemmas.{kept_now}
use Rattle.line_socket.specs.Owned.{IsOwned}
use Rattle.core_laws.specs.Agrees.{AgreesIn}
use Rattle.core_laws.specs.Calls.{for_caller}
use Rattle.core_laws.proofs.ApartLemmas.{is_out, not_first, other_out}
use Rattle.core_laws.proofs.ReaperLemmas.{asked_stay}
use Rattle.core_laws.specs.ReapedComing.{AwayUnsealed, HasOnlyTaken}
use Rattle.core_laws.specs.Ends.{ReaperDid, ReaperGoesOn}
use Rattle.core_laws.specs.Agreeing.{OpenAgreeStill}
use Rattle.core_laws.proofs.EndLemmas.{same_names}
use Rattle.core_laws.proofs.ElseLemmas.{has_else, owned_now, same_moments}
use Rattle.core_laws.proofs.OpenLemmas.{held_for}
use Rattle.core_laws.proofs.ReapedLemmas.{coming_then, not_placed, read_left, reaper_keeps_unsealed, written_left}
use Rattle.core_laws.proofs.ThereLemmas.{reaper_keeps_names}

module _ (W T : Type 0) {S O I N : Type 0} (K : Known S O I N) (once : EndsAreSealedOnce N T) (old new : Lent (Given N O I) N T) (before behind : S) (from to : ClosedSockets N O I) (changes : List (PipeChange O I × S))
    (did : ReaperDid K old new before behind from to changes) (goes : ∥ ReaperGoesOn K old new did.call from to ∥₁) (names : NamesStand K (control_of old.past) (name_of old.items) before)
    (free : AwayUnsealed K old before) (only : HasOnlyTaken old.caller old) (j : ℕ) (t : SockCore AnySock W N O I) (agrees : AgreesIn K old j before t) where
  was_order : IsOneOrder old
  was_order = did.call.before

  order : IsOneOrder new
  order = did.call.behind

  owned : IsOwned K j (moments_of (for_caller j old)) before t
  owned = agrees.owned

  moments_same : moments_of (for_caller j new) ≡ moments_of (for_caller j old)
  moments_same = same_moments K old new was_order did.call.grows only before j t owned

  owned_so : IsOwned K j (moments_of (for_caller j new)) before t
  owned_so = owned_now K old new was_order did.call.grows only before j t owned

  names_now : NamesStand K (control_of new.past) (name_of new.items) behind
  names_now = reaper_keeps_names K T old new before behind from to changes did names

  same : (e : EndId) → name_of new.items e ≡ name_of old.items e
  same = same_names K old new before behind from to changes did

  -- ---- its ends
  module _ (k : ℕ) (p : Place N I) (at : place_at t.ends.places.items k ≡ Some p) (held : p.held ≡ true) where
    its : IsHeldFor (control_of new.past) (name_of new.items) t.number.0 p
    its = held_for W T K new order j before t owned_so k p at held

    no_place : ReaperGoesOn K old new did.call from to → (i : ℕ) (q : Place N I) → place_at (first_places K.in_name from (came_since from to)) i ≡ Some q → p.end ≡ q.end → ⊥
    no_place go = not_placed K old new before behind from to changes did go p.end its.at.here (λ among. has_else K old new before behind from to changes did only j t owned p.end among its.owner)

    not_across : p.writes ≡ true → (q : Place N I) → place_of (control_of new.past) q.end ≡ At Gone → p.end ≡ other_end q.end → ⊥
    not_across writes q gone same =
        not_first (has_writer (place_of (control_of new.past) p.end)) (is_away (place_of (control_of new.past) p.end))
        (ap (λ (x : EndId). is_out (place_of (control_of new.past) x)) same ∙ other_out (control_of new.past) (kept_now new order) q.end gone) (its.at.writes writes)

    unsealed : p.writes ≡ true → (h : O) → K.out_name h ≡ p.written → (K.writing before h).sealed ≡ false → (K.writing behind h).sealed ≡ false
    unsealed writes h name was = by (K.writing behind h).sealed refl
      where
        left_so : ReaperGoesOn K old new did.call from to → HasDoneTo K before from changes behind to → K.writing behind h ≡ K.writing before h
        left_so go done = written_left K old new before behind from to changes did go names p.end h (sym (same p.end) ∙ its.written ∙ ap (λ (n : N). Some n) (sym name)) (no_place go) (λ i q first gone. not_across writes q gone) done

        by : (b : Bool) → (K.writing behind h).sealed ≡ b → b ≡ false
        by false is = refl
        by true is = absurd (∥∥₁_elim goes (λ x y. absurd x) (λ go. ∥∥₁_elim did.done (λ x y. absurd x) (λ done. never (sym was ∙ sym (ap (λ (w : Writing). w.sealed) (left_so go done)) ∙ is))))

    met_still : (i : I) → K.in_name i ≡ p.read → (K.reading before i).ended ≡ true → (K.reading behind i).ended ≡ true
    met_still i name was = by (K.reading behind i).ended refl
      where
        left_so : ReaperGoesOn K old new did.call from to → HasDoneTo K before from changes behind to → K.reading behind i ≡ K.reading before i
        left_so go done = read_left K old new before behind from to changes did go names p.end i (sym (same (other_end p.end)) ∙ its.read ∙ ap (λ (n : N). Some n) (sym name)) (no_place go) done

        by : (b : Bool) → (K.reading behind i).ended ≡ b → b ≡ true
        by true is = refl
        by false is = absurd (∥∥₁_elim goes (λ x y. absurd x) (λ go. ∥∥₁_elim did.done (λ x y. absurd x) (λ done. never (sym is ∙ ap (λ (r : Reading). r.ended) (left_so go done) ∙ was))))

    reads_still : (i : I) → ReadsSo K before i p → ReadsSo K behind i p
    reads_still i reads = record {
      name_is = reads.name_is;
      there = names_now.there (other_end p.end) p.read its.read;
      met = λ met. met_still i reads.name_is (reads.met met);
    }

    writes_still : p.writes ≡ true → (r : EndRow O I) → WritesSo K before r p → WritesSo K behind r p
    writes_still writes r so = record {
      end_is = so.end_is;
      name_is = so.name_is;
      there = names_now.there p.end p.written its.written;
      unsealed = λ open_yet. unsealed writes r.out so.name_is (so.unsealed open_yet);
      writable_is = so.writable_is;
      reads = reads_still r.input so.reads;
    }

  stands_still : (row : Option (EndRow O I)) (k : ℕ) (p : Place N I) → place_at t.ends.places.items k ≡ Some p → (held writes : Bool) → p.held ≡ held → p.writes ≡ writes → StandsSo K before row p held writes → StandsSo K behind row p held writes
  stands_still row k p at false writes is w so = so
  stands_still row k p at true true is w so = (so.0, so.1, writes_still k p at is w so.0 so.2)
  stands_still row k p at true false is w so = (so.0, so.1, so.2, reads_still k p at is so.0 so.3)

  sound_now : IsSound K before t.ends.rows.items t.ends.places.items → IsSound K behind t.ends.rows.items t.ends.places.items
  sound_now sound = record {
    count = sound.count;
    stands = λ k p at. stands_still (row_at t.ends.rows.items k) k p at p.held p.writes refl refl (sound.stands k p at);
    apart = sound.apart;
    crossed = sound.crossed;
  }

  stands_now : IsStanding K before t → IsStanding K behind t
  stands_now stands = record {
    fits = record {
      sound = are_sound K behind t.ends.rows.items t.ends.places.items (sound_now (sound_of K before t.ends.rows.items t.ends.places.items stands.fits.sound));
      peers_are = stands.fits.peers_are;
      room = stands.fits.room;
      gone = stands.fits.gone;
      stopped_is = stands.fits.stopped_is;
      flagged = stands.fits.flagged;
      in_use = stands.fits.in_use;
      settled_are = stands.fits.settled_are;
      sealed_are = stands.fits.sealed_are;
    };
    is_open = stands.is_open;
    told = stands.told;
    unsealed = stands.unsealed;
  }

  -- ---- what is on its way to it
  same_slot : (slot_after t.number.0 (moments_of (for_caller j new))).0 ≡ (slot_after t.number.0 (moments_of (for_caller j old))).0
  same_slot = ap (λ (ms : List (Moment N T)). (slot_after t.number.0 ms).0) moments_same

  fits_still : (e : EndId) (h : Halves O I) → coming_to new (slot_after t.number.0 (moments_of (for_caller j new))).0 e ≡ true → name_of new.items e ≡ Some (K.out_name h.out) → name_of new.items (other_end e) ≡ Some (K.in_name h.input) → Fits K behind t.ends.places.items h
  fits_still e h coming written read =
      let slot : ℕ = (slot_after t.number.0 (moments_of (for_caller j old))).0 in
      let was = coming_then K old new before behind from to changes did slot e (ap (λ (n : ℕ). coming_to new n e) (sym same_slot) ∙ coming) in
      let fits : Fits K before t.ends.places.items h = agrees.binds e h was (sym (same e) ∙ written) (sym (same (other_end e)) ∙ read) in
      record {
        out_there = names_now.there e (K.out_name h.out) written;
        in_there = names_now.there (other_end e) (K.in_name h.input) read;
        unsealed = reaper_keeps_unsealed K T old new before behind from to changes did goes names free e h.out
            (left (is_away (place_of (control_of new.past) e)) _ coming) written;
        crossed = fits.crossed;
        others = fits.others;
      }

  pub agree_still : AgreesIn K new j behind t
  agree_still = record {
    owned = record {
      stands = stands_now owned_so.stands;
      has = owned_so.has;
      held = owned_so.held;
      is_open = owned_so.is_open;
      ends_are = owned_so.ends_are;
      sealed_out = owned_so.sealed_out;
    };
    asked = asked_stay (Given N O I) N T once old new was_order order did.call.grows _ agrees.asked;
    binds = fits_still;
  }

pub open_agree_still : (W T : Type 0) {S O I N : Type 0} (K : Known S O I N) → EndsAreSealedOnce N T → OpenAgreeStill W T K
open_agree_still W T K once old new before behind from to changes did goes names free only j t agrees =
    agree_still W T K once old new before behind from to changes did goes names free only j t agrees
