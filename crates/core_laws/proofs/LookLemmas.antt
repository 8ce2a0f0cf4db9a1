-- Names, what is on its way and open sockets go on over a look of the reaper's.
use Rattle.std.specs.Prelude.{◌≡◌, ℕ, Bool, true, false, Option, Some, refl}
use Rattle.std.specs.List.{list_any}
use Rattle.std.proofs.Common.{sym, ap, ◌∙◌}
use Rattle.zq_base.specs.Ends.{other_end}
use Rattle.zq_base.specs.declared.ids.EndId.{EndId}
use Rattle.spec_pattern.specs.Half.{Reading, Writing}
use Rattle.spec_control.specs.Names.{name_of}
use Rattle.msg_pipe.specs.Known.{Known, IsElse, KeepsButIn}
use Rattle.any_sock.specs.declared.any_sock.AnySock.{AnySock}
use Rattle.ctl_moves.proofs.HeldLemmas.{other_twice}
use Rattle.desk.specs.declared.given.Given.{Given}
use Rattle.desk.specs.declared.halves.Halves.{Halves}
use Rattle.desk.specs.TakingOver.{IsGivenWith}
use Rattle.ctl_plane.specs.Giving.{IsOnItsWay}
use Rattle.ctl_plane.specs.Past.{control_of}
use Rattle.desk.specs.Desk.{slot_after}
use Rattle.end_table.specs.declared.row.EndRow.{EndRow}
use Rattle.end_table.specs.Rows.{row_at}
use Rattle.end_table.specs.declared.table.Place.{Place}
use Rattle.end_table.specs.Places.{place_at}
use Rattle.end_table.specs.Sound.{Fits, IsSound, ReadsSo, StandsSo, WritesSo}
use Rattle.socket_laws.specs.Names.{NamesStand}
use Rattle.socket_laws.specs.Ends.{IsHeldFor}
use Rattle.sock_core.specs.declared.sock.SockCore.{SockCore}
use Rattle.sock_core.proofs.FormLemmas.{are_sound, sound_of}
use Rattle.line_socket.specs.Standing.{IsStanding}
use Rattle.closed_ends.specs.declared.sockets.ClosedSockets.{ClosedSockets}
use Rattle.closed_ends.specs.Ending.{LooksAt, LooksOnce}
use Rattle.closed_ends.specs.Has.{all_ends, ends_of, holding_in, is_of}
use Rattle.closed_ends.proofs.ChangeLemmas.{among}
use Rattle.core_laws.proofs.CountLemmas.{reads, socket_there, Reads}
use Rattle.core_laws.proofs.HereLemmas.{of_socket}
use Rattle.plain_desk.specs.Lent.{coming_to, moments_of, Lent}
use Rattle.line_socket.specs.Owned.{IsOwned}
use Rattle.core_laws.specs.Agrees.{AgreesIn}
use Rattle.core_laws.specs.Calls.{for_caller}
use Rattle.core_laws.specs.ReapedComing.{AwayUnsealed, HasOnlyTaken}
use Rattle.core_laws.proofs.ReapedComingLemmas.{has_now}
use Rattle.core_laws.specs.Looked.{LooksKeep, ReaperLooked}
use Rattle.core_laws.proofs.ElseLemmas.{another, none_of_its}
use Rattle.core_laws.proofs.GivenLemmas.{none_among}
use Rattle.core_laws.proofs.OpenLemmas.{held_for}

module _ {S O I N T : Type 0} (K : Known S O I N) (d : Lent (Given N O I) N T) (before behind : S) (from : ClosedSockets N O I) (l : ReaperLooked K d before behind from) where
  names : NamesStand K (control_of d.past) (name_of d.items) before
  names = l.names

  pub looked : LooksOnce K before behind l.object l.end l.found (holding_in K.out_name K.in_name from)
  looked = l.looked

  keeps : KeepsButIn K looked.was.input looked.back.input before behind
  keeps = (let looks : LooksAt K before behind l.found looked.was looked.back = looked.looks in looks.keeps)

  pub names_still : NamesStand K (control_of d.past) (name_of d.items) behind
  names_still = record { there = λ p n is. keeps.there n (names.there p n is); distinct = names.distinct; made = names.made }

  writing_still : (e : EndId) (h : O) → name_of d.items e ≡ Some (K.out_name h) → K.writing behind h ≡ K.writing before h
  writing_still e h named = keeps.outs h (names.there e (K.out_name h) named)

  pub unsealed_still : AwayUnsealed K d before → AwayUnsealed K d behind
  unsealed_still free e h away named = ap (λ (w : Writing). w.sealed) (writing_still e h named) ∙ free e h away named

  -- ---- the end that was looked at
  pub at_end : Reads K.out_name K.in_name (control_of d.past) (name_of d.items) l.end (ends_of from.sockets.items l.object) (K.in_name looked.was.input)
  at_end =
      let n = K.in_name looked.was.input in
      reads K.out_name K.in_name (control_of d.past) (name_of d.items) l.end (ends_of from.sockets.items l.object)
      (of_socket K (control_of d.past) (name_of d.items) before from l.sound (has_now K d l.order before from l.sound l.has) l.object
      (socket_there K.out_name K.in_name (control_of d.past) (name_of d.items) l.end from.sockets.items l.object n looked.reads)) n looked.reads

  pub is_among : list_any (is_of l.end) (all_ends from.sockets.items) ≡ true
  is_among = among (is_of l.end) l.object from.sockets.items at_end.any

  -- what another end reads is as it was
  reading_still : (e : EndId) (i : I) → name_of d.items (other_end e) ≡ Some (K.in_name i) → (e ≡ l.end → ⊥) → K.reading behind i ≡ K.reading before i
  reading_still e i named other = keeps.ins i (names.there (other_end e) (K.in_name i) named) else_of
    where
      else_of : IsElse K (K.in_name i) (K.in_name looked.was.input)
      else_of exact same =
          let one = names.distinct exact (other_end e) (other_end l.end) (K.in_name i) named (at_end.named ∙ ap (λ (n : N). Some n) (sym same)) in
          other (sym (other_twice e) ∙ ap other_end one ∙ other_twice l.end)

  -- ---- an end that is on its way to the reaper
  pub given_still : (g : Given N O I) → IsOnItsWay K.in_name (control_of d.past) (name_of d.items) g → IsGivenWith K before g → IsGivenWith K behind g
  given_still g way with_halves = record {
    read_there = keeps.there (K.in_name g.input) with_halves.read_there;
    met = λ met. ap (λ (r : Reading). r.ended) (reading_still g.end g.input way.read elsewhere) ∙ with_halves.met met;
    out_is = with_halves.out_is;
    written_there = λ o out. keeps.there g.written (with_halves.written_there o out);
    unsealed = λ o out open_yet. ap (λ (w : Writing). w.sealed) (writing_still g.end o (way.written ∙ ap (λ (n : N). Some n) (sym (with_halves.out_is o out)))) ∙ with_halves.unsealed o out open_yet;
  }
    where
      elsewhere : g.end ≡ l.end → ⊥
      elsewhere same = none_among K d l.order before from l.sound l.has g.end way.between (ap (λ (e : EndId). list_any (is_of e) (all_ends from.sockets.items)) same ∙ is_among)

  -- ---- a socket that a caller has open
  module _ (W : Type 0) (only : HasOnlyTaken d.caller d) (j : ℕ) (t : SockCore AnySock W N O I) (agrees : AgreesIn K d j before t) where
    owned : IsOwned K j (moments_of (for_caller j d)) before t
    owned = agrees.owned

    module _ (k : ℕ) (p : Place N I) (at : place_at t.ends.places.items k ≡ Some p) (held : p.held ≡ true) where
      its : IsHeldFor (control_of d.past) (name_of d.items) t.number.0 p
      its = held_for W T K d l.order j before t owned k p at held

      elsewhere : p.end ≡ l.end → ⊥
      elsewhere same =
          none_of_its K d l.order before j t owned before from l.sound l.has (another K d l.order before j t owned only) p.end (ap (λ (e : EndId). list_any (is_of e) (all_ends from.sockets.items)) same ∙ is_among) its.owner

      reads_still : (i : I) → ReadsSo K before i p → ReadsSo K behind i p
      reads_still i so = record {
        name_is = so.name_is;
        there = keeps.there p.read so.there;
        met = λ met. ap (λ (r : Reading). r.ended) (reading_still p.end i (its.read ∙ ap (λ (n : N). Some n) (sym so.name_is)) elsewhere) ∙ so.met met;
      }

      writes_still : (r : EndRow O I) → WritesSo K before r p → WritesSo K behind r p
      writes_still r so = record {
        end_is = so.end_is;
        name_is = so.name_is;
        there = keeps.there p.written so.there;
        unsealed = λ open_yet. ap (λ (w : Writing). w.sealed) (writing_still p.end r.out (its.written ∙ ap (λ (n : N). Some n) (sym so.name_is))) ∙ so.unsealed open_yet;
        writable_is = so.writable_is;
        reads = reads_still r.input so.reads;
      }

    stands_still : (row : Option (EndRow O I)) (k : ℕ) (p : Place N I) → place_at t.ends.places.items k ≡ Some p → (held writes : Bool) → p.held ≡ held → StandsSo K before row p held writes → StandsSo K behind row p held writes
    stands_still row k p at false writes is so = so
    stands_still row k p at true true is so = (so.0, so.1, writes_still k p at is so.0 so.2)
    stands_still row k p at true false is so = (so.0, so.1, so.2, reads_still k p at is so.0 so.3)

    sound_now : IsSound K before t.ends.rows.items t.ends.places.items → IsSound K behind t.ends.rows.items t.ends.places.items
    sound_now sound = record {
      count = sound.count;
      stands = λ k p at. stands_still (row_at t.ends.rows.items k) k p at p.held p.writes refl (sound.stands k p at);
      apart = sound.apart;
      crossed = sound.crossed;
    }

    stands_now : IsStanding K before t → IsStanding K behind t
    stands_now stands = record {
      fits = record {
        sound = are_sound K behind t.ends.rows.items t.ends.places.items (sound_now (sound_of K before t.ends.rows.items t.ends.places.items stands.fits.sound));
        peers_are = stands.fits.peers_are;
        room = stands.fits.room;
        gone = stands.fits.gone;
        stopped_is = stands.fits.stopped_is;
        flagged = stands.fits.flagged;
        in_use = stands.fits.in_use;
        settled_are = stands.fits.settled_are;
        sealed_are = stands.fits.sealed_are;
      };
      is_open = stands.is_open;
      told = stands.told;
      unsealed = stands.unsealed;
    }

    fits_still : (e : EndId) (h : Halves O I) → coming_to d (slot_after t.number.0 (moments_of (for_caller j d))).0 e ≡ true → name_of d.items e ≡ Some (K.out_name h.out) → name_of d.items (other_end e) ≡ Some (K.in_name h.input) → Fits K behind t.ends.places.items h
    fits_still e h coming written read =
        let fits : Fits K before t.ends.places.items h = agrees.binds e h coming written read in
        record {
          out_there = keeps.there (K.out_name h.out) fits.out_there;
          in_there = keeps.there (K.in_name h.input) fits.in_there;
          unsealed = ap (λ (w : Writing). w.sealed) (writing_still e h.out written) ∙ fits.unsealed;
          crossed = fits.crossed;
          others = fits.others;
        }

    pub agree_still : AgreesIn K d j behind t
    agree_still = record {
      owned = record {
        stands = stands_now owned.stands;
        has = owned.has;
        held = owned.held;
        is_open = owned.is_open;
        ends_are = owned.ends_are;
        sealed_out = owned.sealed_out;
      };
      asked = agrees.asked;
      binds = fits_still;
    }

pub looks_keep : (W T : Type 0) {S O I N : Type 0} (K : Known S O I N) → LooksKeep W T K
looks_keep W T K = record {
  names = λ d before behind from l. names_still K d before behind from l;
  unsealed = λ d before behind from l free. unsealed_still K d before behind from l free;
  given = λ d before behind from l way given k g lt. given_still K d before behind from l _ (way k g lt) (given k g lt);
  agree = λ d before behind from l only j t agrees. agree_still K d before behind from l W only j t agrees;
}
