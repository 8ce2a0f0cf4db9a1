use Rattle.std.proofs.Common.{arith, refl, sym, ap, ◌∙◌, subst, Bool, false, List, [], if◌then◌else◌, ◌==◌, set, Some}
use Rattle.std.specs.List.{position}
use Rattle.end_table.specs.declared.table.Place.{Place}
use Rattle.desk.specs.Holding.{BeginsNone, Left, read_in, written_in}
use Rattle.end_table.specs.Places.{IsOnce, is_of, held_in}
use Rattle.sock_core.specs.Has.{has, told_in}
use Rattle.end_table.proofs.SoundLemmas.{one_some}
use Rattle.sock_core.proofs.FindLemmas.{found, not_found, alone_of, once_of, held_is, never}
use Rattle.sock_core.proofs.FormLemmas.{sound_of, are_sound}
use Rattle.sock_core.proofs.HolderLemmas.{owned_last, flag_at, names_at, left_begins, left_of}
use Rattle.zq_base.specs.declared.kind.Kind.{Kind}
use Rattle.std.proofs.Common.{ℕ, length, length-set}
use Rattle.sock_core.specs.Sound.{KeepsRoom}
use Rattle.end_table.proofs.PlaceLemmas.{place_within, place_found}
use Rattle.sock_core.specs.Peers.{ArePeers}
use Rattle.sock_core.proofs.PeerLemmas.{kept_parted}
use Rattle.spec_control.specs.declared.entry.Joining.{Joining}
use Rattle.sock_core.specs.Standing.{without_last}
use Rattle.sock_core.proofs.StandingLemmas.{last_off}
use Rattle.end_table.proofs.OthersLemmas.{leaves_on}
use Rattle.sock_core.proofs.GoneLemmas.{never_gone}
use Rattle.std.proofs.Math.Logic.{∥∥₁_map}
use Rattle.sock_core.specs.Standing.{standing_joins}
use Rattle.sock_core.specs.Way.{way_in, KindWay}
use Rattle.sock_core.specs.Peers.{AreFlagged, AreInUse}
use Rattle.sock_core.proofs.FlagLemmas.{flagged_set, in_use_set}
use Rattle.sock_core.proofs.WayLemmas.{noted_undone}
use Rattle.sock_core.proofs.CalmLemmas.{calm_last, calm_undone}
use Rattle.zq_base.specs.declared.ids.EndId.{EndId}
use Rattle.std.specs.Prelude.{map}
use Rattle.sock_core.specs.Noted.{AreSealed}
use Rattle.sock_core.proofs.NotedLemmas.{were_read_on, sealed_set}
use Rattle.sock_core.proofs.DoneLemmas.{done_still}
use Rattle.sock_core.proofs.MadeLemmas.{made_less}
use Rattle.sock_core.proofs.CameLemmas.{came_undone}
use Rattle.sock_core.proofs.holder.SockHolderUndoes.take_back.Goals as goal

pub find-requires : goal.find-requires
find-requires g c = record {
  once = subst (IsOnce c.args.end) (sym c.deref.ensures.value)
      (once_of g.P.Pipes.known c.args.self.now.pipes c.args.self.now.core.ends.rows.items c.args.self.now.core.ends.places.items c.args.end
      (sound_of g.P.Pipes.known c.args.self.now.pipes c.args.self.now.core.ends.rows.items c.args.self.now.core.ends.places.items c.args.self.now.sound));
}

pub take_back-requires-clause-sound : goal.take_back-requires-clause-sound
take_back-requires-clause-sound g c = sound_of g.P.Pipes.known c.args.self.now.pipes c.args.self.now.core.ends.rows.items c.args.self.now.core.ends.places.items c.args.self.now.sound

pub take_back-requires-clause-writes : goal.take_back-requires-clause-writes
take_back-requires-clause-writes g c =
    let f = found (is_of c.args.end) c.args.self.now.core.ends.places.items c.in-Some.place (sym c.in-Some.is ∙ c.find.ensures ∙ ap (λ (l : List (Place _ _)). position (is_of c.args.end) l) c.deref.ensures.value) in
    record {
      place = f.0;
      there = f.1;
      held = held_is c.args.end f.0 f.2;
      writes = flag_at c.args.self.now.core.ends.places.items c.in-Some.place f.0 c.args.end f.1 f.2 (alone_of g.P.Pipes.known c.args.self.now.pipes c.args.self.now.core.ends.rows.items c.args.self.now.core.ends.places.items c.in-Some.place f.0 c.args.end (sound_of g.P.Pipes.known c.args.self.now.pipes c.args.self.now.core.ends.rows.items c.args.self.now.core.ends.places.items c.args.self.now.sound) f.1 f.2) (λ (r : Place _ _). r.writes) c.requires.writer;
    }

pub invariant_of-self : goal.invariant_of-self
invariant_of-self g c =
    let f = found (is_of c.args.end) c.args.self.now.core.ends.places.items c.in-Some.place (sym c.in-Some.is ∙ c.find.ensures ∙ ap (λ (l : List (Place _ _)). position (is_of c.args.end) l) c.deref.ensures.value) in
    let s = c.take_back.ensures.back in
    let same = ap length s.now ∙ length-set c.args.self.now.core.ends.places.items c.in-Some.place _ in
    let peer = ap (λ (x : Place _ _). x.peer) (place_found c.args.self.now.core.ends.places.items c.in-Some.place s.place c.index.result.now s.there c.index.ensures) in
    record {
      sound = are_sound g.P.Pipes.known c.args.self.now.pipes c.take_back.new.table.rows.items c.take_back.new.table.places.items c.take_back.ensures.sound;
      peers = λ is. subst (λ (l : List (Place _ _)). ArePeers l (g.C.Joins.peers c.unjoin.new.kind)) (sym s.now)
          (kept_parted c.args.self.now.core.ends.places.items (g.C.Joins.peers c.args.self.now.core.kind) (c.args.self.now.peers is) c.in-Some.place s.place s.there c.index.result.now.peer (record s.place { held = false; writes = false }) (g.C.Joins.peers c.unjoin.new.kind) peer c.unjoin.ensures.peers);
      room = subst (λ (n : ℕ). KeepsRoom c.args.self.now.core.is_open n c.args.self.now.core.room) (sym same) c.args.self.now.room;
      gone = λ is. never_gone c.args.end c.args.self.now.core.ends.places.items c.in-Some.place f.0 (c.args.self.now.gone is) f.1 f.2;
      flagged = subst (λ (l : List (Place _ _)). AreFlagged l (g.C.Joins.peers c.unjoin.new.kind)) (sym s.now)
          (flagged_set c.args.self.now.core.ends.places.items (g.C.Joins.peers c.args.self.now.core.kind) (g.C.Joins.peers c.unjoin.new.kind) c.in-Some.place s.place (record s.place { held = false; writes = false }) c.args.self.now.flagged s.there c.unjoin.ensures.peers.stay (λ held flag. never (sym held)));
      in_use = subst (λ (l : List (Place _ _)). AreInUse c.args.self.now.core.reads l) (sym s.now) (in_use_set c.args.self.now.core.reads c.args.self.now.core.ends.places.items c.in-Some.place s.place (record s.place { held = false; writes = false }) c.args.self.now.in_use s.there (λ held. never (sym held)));
      way = λ p t b. ∥∥₁_map (c.args.self.now.way p t b) (λ k is.
          subst (λ (l : List (Place _ _)). KindWay g.C.Joins.pattern g.C.Joins.names g.C.Joins.sound g.C.Joins.peers (way_in c.note_back.new.way.items) l (standing_joins t.joins.items) (standing_joins c.note_back.new.joins.items) t.turns.items c.args.self.now.core.turns.items t.kind c.unjoin.new.kind) (sym s.now)
          (noted_undone g.C.Joins.pattern g.C.Joins.names g.C.Joins.sound g.C.Joins.peers (way_in c.args.self.now.core.way.items) (way_in c.note_back.new.way.items) c.index.result.now.peer c.args.self.now.core.ends.places.items (standing_joins t.joins.items) (standing_joins c.args.self.now.core.joins.items) (standing_joins c.note_back.new.joins.items) t.turns.items c.args.self.now.core.turns.items t.kind c.args.self.now.core.kind c.unjoin.new.kind c.in-Some.place s.place (record s.place { held = false; writes = false })
          c.note_back.ensures.way c.requires.calm.1.quiet
          (calm_last g.P.Pipes.known c.args.self.now.did.items c.args.self.now.pipes c.args.self.now.core.ends.rows.items (way_in c.args.self.now.core.way.items) c.args.self.now.core.ends.places.items c.in-Some.place f.0 c.args.end c.requires.calm.0
          (sound_of g.P.Pipes.known c.args.self.now.pipes c.args.self.now.core.ends.rows.items c.args.self.now.core.ends.places.items c.args.self.now.sound) f.1 f.2 c.requires.calm.1)
          s.there refl refl peer c.note_back.ensures.joins c.unjoin.ensures.undoes (k is)));
      others = λ s t b. leaves_on g.P.Pipes.known s c.args.self.now.pipes c.args.self.now.pipes t.ends c.args.self.now.core.ends c.take_back.new.table (c.args.self.now.others s t b) c.take_back.ensures.others;
      settled_are = were_read_on c.args.self.now.core.ends.places.items c.take_back.new.table.places.items c.args.self.now.core.ends.settled.items c.take_back.new.table.settled.items c.take_back.ensures.others.places (ap (λ l. l.items) c.take_back.ensures.settled) c.args.self.now.settled_are;
      sealed_are = subst (λ (l : List (Place _ _)). AreSealed l (map (λ (x : EndId × Unit {0}). x.0) c.args.self.now.core.sealed.items)) (sym s.now) (sealed_set c.args.self.now.core.ends.places.items c.in-Some.place s.place (record s.place { held = false; writes = false }) (map (λ (x : EndId × Unit {0}). x.0) c.args.self.now.core.sealed.items) c.args.self.now.sealed_are s.there (λ h. never (sym h)) refl refl);
      came = λ p t b. ∥∥₁_map (c.args.self.now.came p t b) (λ h.
          let old = c.args.self.now in
          came_undone g.P.Pipes.known g.F.Since.undoes g.F.Since.comes p (length t.ends.places.items) (standing_joins t.joins.items) g.F.Since.may_make (way_in old.core.way.items) (way_in c.note_back.new.way.items) (standing_joins old.core.joins.items) (standing_joins c.note_back.new.joins.items) old.did.items old.pipes old.core.ends.places.items c.take_back.new.table.places.items
          s.place (record s.place { held = false; writes = false }) c.in-Some.place c.note_back.ensures.way c.note_back.ensures.joins s.now s.there
          (ap (λ (x : Place _ _). x.held) (sym (one_some f.0 s.place (sym f.1 ∙ s.there))) ∙ held_is c.args.end f.0 f.2)
          (record { end_is = refl; written_is = refl; read_is = refl; held = λ x. never (sym x); writes = λ x. never (sym x) }) refl
          (calm_last g.P.Pipes.known old.did.items old.pipes old.core.ends.rows.items (way_in old.core.way.items) old.core.ends.places.items c.in-Some.place f.0 c.args.end c.requires.calm.0
          (sound_of g.P.Pipes.known old.pipes old.core.ends.rows.items old.core.ends.places.items old.sound) f.1 f.2 c.requires.calm.1)
          g.met.F.Undoing.undone c.requires.calm.1.makings (old.done p t b).does (old.tied p t b) h);
      tied = λ s t b made. made_less g.P.Pipes.known g.F.Since.may_make c.args.self.now.did.items c.args.self.now.did.items c.args.self.now.core.ends.places.items c.take_back.new.table.places.items (length t.ends.places.items) c.take_back.ensures.others.places same (λ d. refl) (c.args.self.now.tied s t b made);
      done = λ s t b. done_still g.P.Pipes.known s t.ends.places.items (map (λ (x : EndId × Unit {0}). x.0) t.sealed.items) c.args.self.now.pipes c.args.self.now.did.items c.args.self.now.core.ends.places.items c.take_back.new.table.places.items (map (λ (x : EndId × Unit {0}). x.0) c.args.self.now.core.sealed.items) (c.take_back.ensures.others.places) (c.args.self.now.done s t b);
      number = c.args.self.now.number;
      rest = λ p t b r. c.unjoin.ensures.rests (c.args.self.now.rest p t b r);
      stopped = c.args.self.now.stopped;
    }

pub returns-in-Some-clause-left : goal.returns-in-Some-clause-left
returns-in-Some-clause-left g c =
    let f = found (is_of c.args.end) c.args.self.now.core.ends.places.items c.in-Some.place (sym c.in-Some.is ∙ c.find.ensures ∙ ap (λ (l : List (Place _ _)). position (is_of c.args.end) l) c.deref.ensures.value) in
    let mine = (owned_last (c.args.o.0 == c.args.self.now.core.number.0) c.args.end c.args.self.now.core.ends.places.items c.requires.last).0 in
    let y = c.take_back.ensures.back in
    let same = one_some f.0 y.place (sym f.1 ∙ y.there) in
    subst (λ (kind : Kind). Left c.args.o.0 c.args.end (has c.args.self.now.core.number.0 c.args.self.now.core.is_open (g.C.Joins.kind c.args.self.now.core.kind) (told_in c.args.self.now.core.turns.items c.args.self.now.core.sealed.items c.args.self.now.core.joins.items c.args.self.now.core.heard.items) c.args.self.now.core.ends.places.items) (has c.args.self.now.core.number.0 c.args.self.now.core.is_open kind (told_in c.args.self.now.core.turns.items c.args.self.now.core.sealed.items c.note_back.new.joins.items c.args.self.now.core.heard.items) c.take_back.new.table.places.items)) (sym c.unjoin.ensures.kind)
    (subst (λ (l : List (Place _ _)). Left c.args.o.0 c.args.end (has c.args.self.now.core.number.0 c.args.self.now.core.is_open (g.C.Joins.kind c.args.self.now.core.kind) (told_in c.args.self.now.core.turns.items c.args.self.now.core.sealed.items c.args.self.now.core.joins.items c.args.self.now.core.heard.items) c.args.self.now.core.ends.places.items) (has c.args.self.now.core.number.0 c.args.self.now.core.is_open (g.C.Joins.kind c.args.self.now.core.kind) (told_in c.args.self.now.core.turns.items c.args.self.now.core.sealed.items c.note_back.new.joins.items c.args.self.now.core.heard.items) l))
    (ap (λ (x : Place _ _). set c.args.self.now.core.ends.places.items c.in-Some.place (record x { held = false; writes = false })) same ∙ sym y.now)
    (left_of c.args.self.now.core.ends.places.items c.in-Some.place f.0 c.args.end f.1 f.2 (alone_of g.P.Pipes.known c.args.self.now.pipes c.args.self.now.core.ends.rows.items c.args.self.now.core.ends.places.items c.in-Some.place f.0 c.args.end (sound_of g.P.Pipes.known c.args.self.now.pipes c.args.self.now.core.ends.rows.items c.args.self.now.core.ends.places.items c.args.self.now.sound) f.1 f.2) (record f.0 { held = false; writes = false }) refl c.args.self.now.core.number.0 c.args.o.0 c.args.self.now.core.is_open (g.C.Joins.kind c.args.self.now.core.kind) (told_in c.args.self.now.core.turns.items c.args.self.now.core.sealed.items c.args.self.now.core.joins.items c.args.self.now.core.heard.items) (told_in c.args.self.now.core.turns.items c.args.self.now.core.sealed.items c.note_back.new.joins.items c.args.self.now.core.heard.items) mine))

pub returns-in-Some-clause-written : goal.returns-in-Some-clause-written
returns-in-Some-clause-written g c =
    let f = found (is_of c.args.end) c.args.self.now.core.ends.places.items c.in-Some.place (sym c.in-Some.is ∙ c.find.ensures ∙ ap (λ (l : List (Place _ _)). position (is_of c.args.end) l) c.deref.ensures.value) in
    let mine = (owned_last (c.args.o.0 == c.args.self.now.core.number.0) c.args.end c.args.self.now.core.ends.places.items c.requires.last).0 in
    let y = c.take_back.ensures.back in
    let same = one_some f.0 y.place (sym f.1 ∙ y.there) in
    ap (λ (b : Bool). written_in (if b then held_in c.args.self.now.core.ends.places.items else []) c.args.end) mine ∙ (names_at c.args.self.now.core.ends.places.items c.in-Some.place f.0 c.args.end f.1 f.2 (alone_of g.P.Pipes.known c.args.self.now.pipes c.args.self.now.core.ends.rows.items c.args.self.now.core.ends.places.items c.in-Some.place f.0 c.args.end (sound_of g.P.Pipes.known c.args.self.now.pipes c.args.self.now.core.ends.rows.items c.args.self.now.core.ends.places.items c.args.self.now.sound) f.1 f.2)).0 ∙ ap (λ (x : Place _ _). Some x.written) same ∙ ap Some y.written_is

pub returns-in-Some-clause-read : goal.returns-in-Some-clause-read
returns-in-Some-clause-read g c =
    let f = found (is_of c.args.end) c.args.self.now.core.ends.places.items c.in-Some.place (sym c.in-Some.is ∙ c.find.ensures ∙ ap (λ (l : List (Place _ _)). position (is_of c.args.end) l) c.deref.ensures.value) in
    let mine = (owned_last (c.args.o.0 == c.args.self.now.core.number.0) c.args.end c.args.self.now.core.ends.places.items c.requires.last).0 in
    let y = c.take_back.ensures.back in
    let same = one_some f.0 y.place (sym f.1 ∙ y.there) in
    ap (λ (b : Bool). read_in (if b then held_in c.args.self.now.core.ends.places.items else []) c.args.end) mine ∙ (names_at c.args.self.now.core.ends.places.items c.in-Some.place f.0 c.args.end f.1 f.2 (alone_of g.P.Pipes.known c.args.self.now.pipes c.args.self.now.core.ends.rows.items c.args.self.now.core.ends.places.items c.in-Some.place f.0 c.args.end (sound_of g.P.Pipes.known c.args.self.now.pipes c.args.self.now.core.ends.rows.items c.args.self.now.core.ends.places.items c.args.self.now.sound) f.1 f.2)).1 ∙ ap (λ (x : Place _ _). Some x.read) same ∙ ap Some y.read_is

pub returns-in-Some-clause-turns : goal.returns-in-Some-clause-turns
returns-in-Some-clause-turns g c =
    let f = found (is_of c.args.end) c.args.self.now.core.ends.places.items c.in-Some.place (sym c.in-Some.is ∙ c.find.ensures ∙ ap (λ (l : List (Place _ _)). position (is_of c.args.end) l) c.deref.ensures.value) in
    let y = c.take_back.ensures.back in
    let same = one_some f.0 y.place (sym f.1 ∙ y.there) in
    subst (λ (kind : Kind). BeginsNone (has c.args.self.now.core.number.0 c.args.self.now.core.is_open (g.C.Joins.kind c.args.self.now.core.kind) (told_in c.args.self.now.core.turns.items c.args.self.now.core.sealed.items c.args.self.now.core.joins.items c.args.self.now.core.heard.items) c.args.self.now.core.ends.places.items) (has c.args.self.now.core.number.0 c.args.self.now.core.is_open kind (told_in c.args.self.now.core.turns.items c.args.self.now.core.sealed.items c.note_back.new.joins.items c.args.self.now.core.heard.items) c.take_back.new.table.places.items)) (sym c.unjoin.ensures.kind)
    (subst (λ (l : List (Place _ _)). BeginsNone (has c.args.self.now.core.number.0 c.args.self.now.core.is_open (g.C.Joins.kind c.args.self.now.core.kind) (told_in c.args.self.now.core.turns.items c.args.self.now.core.sealed.items c.args.self.now.core.joins.items c.args.self.now.core.heard.items) c.args.self.now.core.ends.places.items) (has c.args.self.now.core.number.0 c.args.self.now.core.is_open (g.C.Joins.kind c.args.self.now.core.kind) (told_in c.args.self.now.core.turns.items c.args.self.now.core.sealed.items c.note_back.new.joins.items c.args.self.now.core.heard.items) l))
    (ap (λ (x : Place _ _). set c.args.self.now.core.ends.places.items c.in-Some.place (record x { held = false; writes = false })) same ∙ sym y.now)
    (left_begins c.args.self.now.core.ends.places.items c.in-Some.place f.0 c.args.end f.1 f.2 (alone_of g.P.Pipes.known c.args.self.now.pipes c.args.self.now.core.ends.rows.items c.args.self.now.core.ends.places.items c.in-Some.place f.0 c.args.end (sound_of g.P.Pipes.known c.args.self.now.pipes c.args.self.now.core.ends.rows.items c.args.self.now.core.ends.places.items c.args.self.now.sound) f.1 f.2) (record f.0 { held = false; writes = false }) refl c.args.self.now.core.number.0 c.args.self.now.core.is_open (g.C.Joins.kind c.args.self.now.core.kind) (told_in c.args.self.now.core.turns.items c.args.self.now.core.sealed.items c.args.self.now.core.joins.items c.args.self.now.core.heard.items) (told_in c.args.self.now.core.turns.items c.args.self.now.core.sealed.items c.note_back.new.joins.items c.args.self.now.core.heard.items) refl refl))

pub unreachable-requires : goal.unreachable-requires
unreachable-requires g c =
    never (sym (owned_last (c.args.o.0 == c.args.self.now.core.number.0) c.args.end c.args.self.now.core.ends.places.items c.requires.last).1
    ∙ not_found (is_of c.args.end) c.args.self.now.core.ends.places.items (sym c.in-None.is ∙ c.find.ensures ∙ ap (λ (l : List (Place _ _)). position (is_of c.args.end) l) c.deref.ensures.value))

pub returns-in-Some-clause-joins : goal.returns-in-Some-clause-joins
returns-in-Some-clause-joins g c = λ before last are. c.note_back.ensures.joins ∙ ap (λ (js : List (Joining _)). without_last js) are ∙ last_off before last

pub returns-in-Some-clause-calm : goal.returns-in-Some-clause-calm
returns-in-Some-clause-calm g c = λ came calm.
    let f = found (is_of c.args.end) c.args.self.now.core.ends.places.items c.in-Some.place (sym c.in-Some.is ∙ c.find.ensures ∙ ap (λ (l : List (Place _ _)). position (is_of c.args.end) l) c.deref.ensures.value) in
    let s = c.take_back.ensures.back in
    calm_undone c.args.self.now.did.items (way_in c.args.self.now.core.way.items) (way_in c.note_back.new.way.items) c.args.self.now.core.ends.places.items c.take_back.new.table.places.items (record s.place { held = false; writes = false }) c.in-Some.place c.args.end came c.note_back.ensures.way s.now
    (calm_last g.P.Pipes.known c.args.self.now.did.items c.args.self.now.pipes c.args.self.now.core.ends.rows.items (way_in c.args.self.now.core.way.items) c.args.self.now.core.ends.places.items c.in-Some.place f.0 c.args.end came
    (sound_of g.P.Pipes.known c.args.self.now.pipes c.args.self.now.core.ends.rows.items c.args.self.now.core.ends.places.items c.args.self.now.sound) f.1 f.2 calm) calm

pub index-requires : goal.index-requires
index-requires g c =
    let f = found (is_of c.args.end) c.args.self.now.core.ends.places.items c.in-Some.place (sym c.in-Some.is ∙ c.find.ensures ∙ ap (λ (l : List (Place _ _)). position (is_of c.args.end) l) c.deref.ensures.value) in
    let w = place_within c.args.self.now.core.ends.places.items c.in-Some.place f.0 f.1 in omega (arith, w)
