use Rattle.std.proofs.Common.{refl, sym, ap, ◌∙◌, subst, false, List, [], if◌then◌else◌, ◌==◌, set, Some}
use Rattle.std.specs.List.{position}
use Rattle.spec_control.specs.declared.end.EndState.{EndState}
use Rattle.spec_control.specs.Place.{At}
use Rattle.desk.specs.Lent.{has_writer}
use Rattle.end_table.specs.declared.table.Place.{Place}
use Rattle.desk.specs.Holding.{KeepsTurns, Yielded, written_in}
use Rattle.end_table.specs.Places.{IsOnce, is_of, held_in}
use Rattle.sock_core.specs.Has.{has, told_in}
use Rattle.end_table.proofs.SoundLemmas.{one_some}
use Rattle.sock_core.proofs.FindLemmas.{found, not_found, alone_of, once_of, held_is, never}
use Rattle.sock_core.proofs.FormLemmas.{sound_of, are_sound}
use Rattle.sock_core.proofs.HolderLemmas.{owned, flag_at, names_at, state_at, yielded_of, turns_kept}
use Rattle.std.proofs.Common.{ℕ, length, length-set}
use Rattle.sock_core.specs.Sound.{KeepsRoom}
use Rattle.std.proofs.lemmas.List.Elements.{All-contains_itself}
use Rattle.sock_core.specs.Peers.{ArePeers}
use Rattle.sock_core.proofs.PeerLemmas.{kept_parted}
use Rattle.end_table.proofs.OthersLemmas.{leaves_on}
use Rattle.sock_core.proofs.GoneLemmas.{never_gone}
use Rattle.std.specs.Prelude.{Option}
use Rattle.desk.specs.Holding.{read_in}
use Rattle.end_table.specs.Counting.{counts_at}
use Rattle.end_table.proofs.CountLemmas.{position_same}
use Rattle.sock_core.proofs.HolderLemmas.{owned_read}
use Rattle.std.proofs.Math.Logic.{∥∥₁_map}
use Rattle.sock_core.specs.Standing.{standing_joins}
use Rattle.sock_core.specs.Way.{way_in, KindWay}
use Rattle.sock_core.specs.Peers.{AreFlagged, AreInUse}
use Rattle.sock_core.proofs.FlagLemmas.{flagged_set, in_use_set}
use Rattle.sock_core.proofs.WayLemmas.{way_set}
use Rattle.sock_core.proofs.CalmLemmas.{no_peer}
use Rattle.zq_base.specs.declared.ids.EndId.{EndId}
use Rattle.std.specs.Prelude.{map}
use Rattle.sock_core.specs.Noted.{AreSealed}
use Rattle.sock_core.proofs.NotedLemmas.{were_read_on, sealed_set}
use Rattle.sock_core.proofs.DoneLemmas.{done_more}
use Rattle.sock_core.proofs.MadeLemmas.{made_less}
use Rattle.sock_core.proofs.CameLemmas.{came_more}
use Rattle.sock_core.proofs.holding.SockHolderHolder.yield_writer.Goals as goal

pub find-requires : goal.find-requires
find-requires g c = record {
  once = subst (IsOnce c.args.end) (sym c.deref.ensures.value)
      (once_of g.P.Pipes.known c.args.self.now.pipes c.args.self.now.core.ends.rows.items c.args.self.now.core.ends.places.items c.args.end
      (sound_of g.P.Pipes.known c.args.self.now.pipes c.args.self.now.core.ends.rows.items c.args.self.now.core.ends.places.items c.args.self.now.sound));
}

pub yield_writer-requires-clause-sound : goal.yield_writer-requires-clause-sound
yield_writer-requires-clause-sound g c = sound_of g.P.Pipes.known c.args.self.now.pipes c.args.self.now.core.ends.rows.items c.args.self.now.core.ends.places.items c.args.self.now.sound

pub yield_writer-requires-clause-writes : goal.yield_writer-requires-clause-writes
yield_writer-requires-clause-writes g c =
    let f = found (is_of c.args.end) c.args.self.now.core.ends.places.items c.in-Some.place (sym c.in-Some.is ∙ c.find.ensures ∙ ap (λ (l : List (Place _ _)). position (is_of c.args.end) l) c.deref.ensures.value) in
    record {
      place = f.0;
      there = f.1;
      held = held_is c.args.end f.0 f.2;
      writes = flag_at c.args.self.now.core.ends.places.items c.in-Some.place f.0 c.args.end f.1 f.2 (alone_of g.P.Pipes.known c.args.self.now.pipes c.args.self.now.core.ends.rows.items c.args.self.now.core.ends.places.items c.in-Some.place f.0 c.args.end (sound_of g.P.Pipes.known c.args.self.now.pipes c.args.self.now.core.ends.rows.items c.args.self.now.core.ends.places.items c.args.self.now.sound) f.1 f.2) (λ (r : Place _ _). r.writes) c.requires.writer;
    }

pub invariant_of-self : goal.invariant_of-self
invariant_of-self g c =
    let f = found (is_of c.args.end) c.args.self.now.core.ends.places.items c.in-Some.place (sym c.in-Some.is ∙ c.find.ensures ∙ ap (λ (l : List (Place _ _)). position (is_of c.args.end) l) c.deref.ensures.value) in
    let s = c.yield_writer.ensures.yielded in
    let same = ap length s.now ∙ length-set c.args.self.now.core.ends.places.items c.in-Some.place _ in
    let one = one_some f.0 s.place (sym f.1 ∙ s.there) in
    let state = state_at c.args.self.now.core.ends.places.items c.in-Some.place f.0 c.args.end f.1 f.2 (alone_of g.P.Pipes.known c.args.self.now.pipes c.args.self.now.core.ends.rows.items c.args.self.now.core.ends.places.items c.in-Some.place f.0 c.args.end (sound_of g.P.Pipes.known c.args.self.now.pipes c.args.self.now.core.ends.rows.items c.args.self.now.core.ends.places.items c.args.self.now.sound) f.1 f.2) in
    let off = no_peer s.place.peer s.place.state (c.args.self.now.in_use c.in-Some.place s.place s.there (ap (λ (x : Place _ _). x.held) (sym one) ∙ held_is c.args.end f.0 f.2)).0
    (ap (λ (x : EndState). has_writer (At x)) (sym (ap (λ (x : Place _ _). x.state) one) ∙ sym state) ∙ c.requires.out) in
    record {
      sound = are_sound g.P.Pipes.known c.yield_writer.new.pipes c.yield_writer.new.table.rows.items c.yield_writer.new.table.places.items c.yield_writer.ensures.sound;
      peers = λ is. subst (λ (l : List (Place _ _)). ArePeers l (g.C.Joins.peers c.args.self.now.core.kind)) (sym s.now)
          (kept_parted c.args.self.now.core.ends.places.items (g.C.Joins.peers c.args.self.now.core.kind) (c.args.self.now.peers is) c.in-Some.place s.place s.there s.place.peer (record s.place { writes = false; peer = false; input = Some s.input }) (g.C.Joins.peers c.args.self.now.core.kind) refl
          (record { none_new = All-contains_itself (g.C.Joins.peers c.args.self.now.core.kind); gone = λ on. never (sym on ∙ off); stay = λ k ne here. here }));
      room = subst (λ (n : ℕ). KeepsRoom c.args.self.now.core.is_open n c.args.self.now.core.room) (sym same) c.args.self.now.room;
      gone = λ is. never_gone c.args.end c.args.self.now.core.ends.places.items c.in-Some.place f.0 (c.args.self.now.gone is) f.1 f.2;
      flagged = subst (λ (l : List (Place _ _)). AreFlagged l (g.C.Joins.peers c.args.self.now.core.kind)) (sym s.now)
          (flagged_set c.args.self.now.core.ends.places.items (g.C.Joins.peers c.args.self.now.core.kind) (g.C.Joins.peers c.args.self.now.core.kind) c.in-Some.place s.place (record s.place { writes = false; peer = false; input = Some s.input }) c.args.self.now.flagged s.there (λ j ne here. here) (λ held flag. never (sym flag)));
      in_use = subst (λ (l : List (Place _ _)). AreInUse c.args.self.now.core.reads l) (sym s.now) (in_use_set c.args.self.now.core.reads c.args.self.now.core.ends.places.items c.in-Some.place s.place (record s.place { writes = false; peer = false; input = Some s.input }) c.args.self.now.in_use s.there (λ held. (λ flag. never (sym flag), (c.args.self.now.in_use c.in-Some.place s.place s.there held).1)));
      way = λ p t b. ∥∥₁_map (c.args.self.now.way p t b) (λ k is.
          subst (λ (l : List (Place _ _)). KindWay g.C.Joins.pattern g.C.Joins.names g.C.Joins.sound g.C.Joins.peers (way_in c.args.self.now.core.way.items) l (standing_joins t.joins.items) (standing_joins c.args.self.now.core.joins.items) t.turns.items c.args.self.now.core.turns.items t.kind c.args.self.now.core.kind) (sym s.now)
          (way_set g.C.Joins.pattern g.C.Joins.names g.C.Joins.sound g.C.Joins.peers (way_in c.args.self.now.core.way.items) c.args.self.now.core.ends.places.items (standing_joins t.joins.items) (standing_joins c.args.self.now.core.joins.items) t.turns.items c.args.self.now.core.turns.items t.kind c.args.self.now.core.kind c.in-Some.place s.place (record s.place { writes = false; peer = false; input = Some s.input }) s.there refl (sym off) (k is)));
      others = λ s t b. leaves_on g.P.Pipes.known s c.args.self.now.pipes c.yield_writer.new.pipes t.ends c.args.self.now.core.ends c.yield_writer.new.table (c.args.self.now.others s t b) c.yield_writer.ensures.others;
      settled_are = were_read_on c.args.self.now.core.ends.places.items c.yield_writer.new.table.places.items c.args.self.now.core.ends.settled.items c.yield_writer.new.table.settled.items c.yield_writer.ensures.others.places (ap (λ l. l.items) c.yield_writer.ensures.settled) c.args.self.now.settled_are;
      sealed_are = subst (λ (l : List (Place _ _)). AreSealed l (map (λ (x : EndId × Unit {0}). x.0) c.args.self.now.core.sealed.items)) (sym s.now) (sealed_set c.args.self.now.core.ends.places.items c.in-Some.place s.place (record s.place { writes = false; peer = false; input = Some s.input }) (map (λ (x : EndId × Unit {0}). x.0) c.args.self.now.core.sealed.items) c.args.self.now.sealed_are s.there (λ h. h) refl refl);
      came = λ s t b. ∥∥₁_map (c.args.self.now.came s t b) (λ h.
          came_more g.P.Pipes.known g.F.Since.undoes g.F.Since.comes s (length t.ends.places.items) (standing_joins t.joins.items) (way_in c.args.self.now.core.way.items).joined (standing_joins c.args.self.now.core.joins.items) c.args.self.now.did.items c.yield_writer.new.did.items c.args.self.now.core.ends.places.items c.yield_writer.new.table.places.items c.yield_writer.ensures.others.places same c.yield_writer.ensures.changes h);
      tied = λ s t b made. made_less g.P.Pipes.known g.F.Since.may_make c.args.self.now.did.items c.yield_writer.new.did.items c.args.self.now.core.ends.places.items c.yield_writer.new.table.places.items (length t.ends.places.items) c.yield_writer.ensures.others.places same c.yield_writer.ensures.none_made (c.args.self.now.tied s t b made);
      done = λ s t b. done_more g.P.Pipes.known s t.ends.places.items (map (λ (x : EndId × Unit {0}). x.0) t.sealed.items) c.args.self.now.pipes c.yield_writer.new.pipes c.args.self.now.did.items c.yield_writer.new.did.items c.args.self.now.core.ends.places.items c.yield_writer.new.table.places.items (c.args.self.now.others s t b).places c.yield_writer.ensures.others.places (map (λ (x : EndId × Unit {0}). x.0) c.args.self.now.core.sealed.items) c.yield_writer.ensures.changes (c.args.self.now.done s t b);
      number = c.args.self.now.number;
      rest = c.args.self.now.rest;
      stopped = c.args.self.now.stopped;
    }

pub unreachable-requires : goal.unreachable-requires
unreachable-requires g c =
    never (sym (owned (c.args.o.0 == c.args.self.now.core.number.0) c.args.end c.args.self.now.core.ends.places.items c.requires.here).1
    ∙ not_found (is_of c.args.end) c.args.self.now.core.ends.places.items (sym c.in-None.is ∙ c.find.ensures ∙ ap (λ (l : List (Place _ _)). position (is_of c.args.end) l) c.deref.ensures.value))

pub returns-in-Some-clause-name : goal.returns-in-Some-clause-name
returns-in-Some-clause-name g c =
    let f = found (is_of c.args.end) c.args.self.now.core.ends.places.items c.in-Some.place (sym c.in-Some.is ∙ c.find.ensures ∙ ap (λ (l : List (Place _ _)). position (is_of c.args.end) l) c.deref.ensures.value) in
    let y = c.yield_writer.ensures.yielded in
    let same = one_some f.0 y.place (sym f.1 ∙ y.there) in
    let mine = (owned (c.args.o.0 == c.args.self.now.core.number.0) c.args.end c.args.self.now.core.ends.places.items c.requires.here).0 in
    ap (λ (b : _). written_in (if b then held_in c.args.self.now.core.ends.places.items else []) c.args.end) mine
    ∙ (names_at c.args.self.now.core.ends.places.items c.in-Some.place f.0 c.args.end f.1 f.2 (alone_of g.P.Pipes.known c.args.self.now.pipes c.args.self.now.core.ends.rows.items c.args.self.now.core.ends.places.items c.in-Some.place f.0 c.args.end (sound_of g.P.Pipes.known c.args.self.now.pipes c.args.self.now.core.ends.rows.items c.args.self.now.core.ends.places.items c.args.self.now.sound) f.1 f.2)).0
    ∙ ap (λ (x : Place _ _). Some x.written) same ∙ ap Some y.name_is

pub returns-in-Some-clause-yielded : goal.returns-in-Some-clause-yielded
returns-in-Some-clause-yielded g c =
    let f = found (is_of c.args.end) c.args.self.now.core.ends.places.items c.in-Some.place (sym c.in-Some.is ∙ c.find.ensures ∙ ap (λ (l : List (Place _ _)). position (is_of c.args.end) l) c.deref.ensures.value) in
    let y = c.yield_writer.ensures.yielded in
    let same = one_some f.0 y.place (sym f.1 ∙ y.there) in
    subst (λ (l : List (Place _ _)). Yielded c.args.o.0 c.args.end (has c.args.self.now.core.number.0 c.args.self.now.core.is_open (g.C.Joins.kind c.args.self.now.core.kind) (told_in c.args.self.now.core.turns.items c.args.self.now.core.sealed.items c.args.self.now.core.joins.items c.args.self.now.core.heard.items) c.args.self.now.core.ends.places.items) (has c.args.self.now.core.number.0 c.args.self.now.core.is_open (g.C.Joins.kind c.args.self.now.core.kind) (told_in c.args.self.now.core.turns.items c.args.self.now.core.sealed.items c.args.self.now.core.joins.items c.args.self.now.core.heard.items) l))
    (ap (λ (x : Place _ _). set c.args.self.now.core.ends.places.items c.in-Some.place (record x { writes = false; peer = false; input = Some y.input })) same ∙ sym y.now)
    (yielded_of c.args.self.now.core.ends.places.items c.in-Some.place f.0 c.args.end f.1 f.2 (alone_of g.P.Pipes.known c.args.self.now.pipes c.args.self.now.core.ends.rows.items c.args.self.now.core.ends.places.items c.in-Some.place f.0 c.args.end (sound_of g.P.Pipes.known c.args.self.now.pipes c.args.self.now.core.ends.rows.items c.args.self.now.core.ends.places.items c.args.self.now.sound) f.1 f.2) c.args.self.now.core.number.0 c.args.o.0 c.args.self.now.core.is_open (g.C.Joins.kind c.args.self.now.core.kind) (told_in c.args.self.now.core.turns.items c.args.self.now.core.sealed.items c.args.self.now.core.joins.items c.args.self.now.core.heard.items) (Some y.input))

pub returns-in-Some-clause-turns : goal.returns-in-Some-clause-turns
returns-in-Some-clause-turns g c =
    let y = c.yield_writer.ensures.yielded in
    subst (λ (l : List (Place _ _)). KeepsTurns (has c.args.self.now.core.number.0 c.args.self.now.core.is_open (g.C.Joins.kind c.args.self.now.core.kind) (told_in c.args.self.now.core.turns.items c.args.self.now.core.sealed.items c.args.self.now.core.joins.items c.args.self.now.core.heard.items) c.args.self.now.core.ends.places.items) (has c.args.self.now.core.number.0 c.args.self.now.core.is_open (g.C.Joins.kind c.args.self.now.core.kind) (told_in c.args.self.now.core.turns.items c.args.self.now.core.sealed.items c.args.self.now.core.joins.items c.args.self.now.core.heard.items) l)) (sym y.now)
    (turns_kept c.args.self.now.core.number.0 c.args.self.now.core.is_open (g.C.Joins.kind c.args.self.now.core.kind) (told_in c.args.self.now.core.turns.items c.args.self.now.core.sealed.items c.args.self.now.core.joins.items c.args.self.now.core.heard.items) c.args.self.now.core.ends.places.items c.in-Some.place y.place (record y.place { writes = false; peer = false; input = Some y.input }) y.there refl refl refl)

pub returns-in-Some-clause-counts : goal.returns-in-Some-clause-counts
returns-in-Some-clause-counts g c = λ writer reads.
    let f = found (is_of c.args.end) c.args.self.now.core.ends.places.items c.in-Some.place (sym c.in-Some.is ∙ c.find.ensures ∙ ap (λ (l : List (Place _ _)). position (is_of c.args.end) l) c.deref.ensures.value) in
    let y = c.yield_writer.ensures.yielded in
    let at = sym (sym c.in-Some.is ∙ c.find.ensures ∙ ap (λ (l : List (Place _ _)). position (is_of c.args.end) l) c.deref.ensures.value) in
    let mine = owned_read (c.args.o.0 == c.args.self.now.core.number.0) c.args.end c.args.self.now.core.ends.places.items (g.P.Pipes.known.out_name writer) reads in
    let name = one_some f.0.read (g.P.Pipes.known.out_name writer)
    (sym (names_at c.args.self.now.core.ends.places.items c.in-Some.place f.0 c.args.end f.1 f.2 (alone_of g.P.Pipes.known c.args.self.now.pipes c.args.self.now.core.ends.rows.items c.args.self.now.core.ends.places.items c.in-Some.place f.0 c.args.end (sound_of g.P.Pipes.known c.args.self.now.pipes c.args.self.now.core.ends.rows.items c.args.self.now.core.ends.places.items c.args.self.now.sound) f.1 f.2)).1
    ∙ sym (ap (λ (b : _). read_in (if b then held_in c.args.self.now.core.ends.places.items else []) c.args.end) mine) ∙ reads) in
    ap (λ (p : Option ℕ). counts_at g.P.Pipes.known c.yield_writer.new.pipes c.yield_writer.new.table p writer)
    (ap (position (is_of c.args.end)) y.now ∙ position_same (is_of c.args.end) c.args.self.now.core.ends.places.items c.in-Some.place y.place (record y.place { writes = false; peer = false; input = Some y.input }) y.there refl ∙ at)
    ∙ c.yield_writer.ensures.counts writer f.0 f.1 (sym name)
    ∙ sym (ap (λ (p : Option ℕ). counts_at g.P.Pipes.known c.args.self.now.pipes c.args.self.now.core.ends p writer) at)

pub returns-in-Some-clause-parted : goal.returns-in-Some-clause-parted
returns-in-Some-clause-parted g c = c.yield_writer.ensures.parted
