use Rattle.std.proofs.Common.{refl, sym, ap, ◌∙◌, subst, Bool, false, None, List, [], if◌then◌else◌, ◌==◌, set}
use Rattle.std.specs.List.{position}
use Rattle.end_table.specs.declared.table.Place.{Place}
use Rattle.desk.specs.Holding.{KeepsTurns, Left, read_in}
use Rattle.end_table.specs.Places.{IsOnce, is_of, held_in}
use Rattle.sock_core.specs.Has.{has, told_in}
use Rattle.end_table.proofs.SoundLemmas.{one_some}
use Rattle.sock_core.proofs.FindLemmas.{found, not_found, alone_of, once_of, held_is, never}
use Rattle.sock_core.proofs.FormLemmas.{sound_of, are_sound}
use Rattle.sock_core.proofs.HolderLemmas.{owned_read, reads_here, flag_at, flag_not, names_at, left_of, left_turns}
use Rattle.std.proofs.Common.{ℕ, length, length-set}
use Rattle.sock_core.specs.Sound.{KeepsRoom}
use Rattle.sock_core.specs.Peers.{ArePeers}
use Rattle.sock_core.proofs.PeerLemmas.{kept_settled}
use Rattle.end_table.proofs.OthersLemmas.{leaves_on}
use Rattle.sock_core.proofs.GoneLemmas.{never_gone}
use Rattle.std.specs.Prelude.{Option}
use Rattle.end_table.specs.Counting.{counts_at}
use Rattle.std.proofs.Math.Logic.{∥∥₁_map}
use Rattle.sock_core.specs.Standing.{standing_joins}
use Rattle.sock_core.specs.Way.{way_in, KindWay}
use Rattle.sock_core.specs.Peers.{AreFlagged, AreInUse}
use Rattle.sock_core.proofs.FlagLemmas.{flagged_set, in_use_set}
use Rattle.sock_core.proofs.WayLemmas.{way_set}
use Rattle.zq_base.specs.declared.ids.EndId.{EndId}
use Rattle.std.specs.Prelude.{map}
use Rattle.sock_core.specs.Noted.{AreSealed}
use Rattle.sock_core.proofs.NotedLemmas.{were_read_more, sealed_set}
use Rattle.end_table.specs.Places.{place_at}
use Rattle.end_table.proofs.PlaceLemmas.{place_there}
use Rattle.sock_core.proofs.DoneLemmas.{done_more}
use Rattle.sock_core.proofs.MadeLemmas.{made_less}
use Rattle.sock_core.proofs.CameLemmas.{came_more}
use Rattle.sock_core.proofs.holding.SockHolderHolder.settle.Goals as goal

pub find-requires : goal.find-requires
find-requires g c = record {
  once = subst (IsOnce c.args.end) (sym c.deref.ensures.value)
      (once_of g.P.Pipes.known c.args.self.now.pipes c.args.self.now.core.ends.rows.items c.args.self.now.core.ends.places.items c.args.end
      (sound_of g.P.Pipes.known c.args.self.now.pipes c.args.self.now.core.ends.rows.items c.args.self.now.core.ends.places.items c.args.self.now.sound));
}

pub settle-requires-clause-sound : goal.settle-requires-clause-sound
settle-requires-clause-sound g c = sound_of g.P.Pipes.known c.args.self.now.pipes c.args.self.now.core.ends.rows.items c.args.self.now.core.ends.places.items c.args.self.now.sound

pub settle-requires-clause-reads : goal.settle-requires-clause-reads
settle-requires-clause-reads g c =
    let f = found (is_of c.args.end) c.args.self.now.core.ends.places.items c.in-Some.place (sym c.in-Some.is ∙ c.find.ensures ∙ ap (λ (l : List (Place _ _)). position (is_of c.args.end) l) c.deref.ensures.value) in
    let mine = owned_read (c.args.o.0 == c.args.self.now.core.number.0) c.args.end c.args.self.now.core.ends.places.items (g.P.Pipes.known.out_name c.args.writer) c.requires.pipe in
    record {
      place = f.0;
      there = f.1;
      held = held_is c.args.end f.0 f.2;
      yielded = flag_not c.args.self.now.core.ends.places.items c.in-Some.place f.0 c.args.end f.1 f.2 (alone_of g.P.Pipes.known c.args.self.now.pipes c.args.self.now.core.ends.rows.items c.args.self.now.core.ends.places.items c.in-Some.place f.0 c.args.end (sound_of g.P.Pipes.known c.args.self.now.pipes c.args.self.now.core.ends.rows.items c.args.self.now.core.ends.places.items c.args.self.now.sound) f.1 f.2) (λ (r : Place _ _). r.writes) c.requires.yielded;
      pipe = one_some f.0.read (g.P.Pipes.known.out_name c.args.writer)
          (sym (names_at c.args.self.now.core.ends.places.items c.in-Some.place f.0 c.args.end f.1 f.2 (alone_of g.P.Pipes.known c.args.self.now.pipes c.args.self.now.core.ends.rows.items c.args.self.now.core.ends.places.items c.in-Some.place f.0 c.args.end (sound_of g.P.Pipes.known c.args.self.now.pipes c.args.self.now.core.ends.rows.items c.args.self.now.core.ends.places.items c.args.self.now.sound) f.1 f.2)).1 ∙ sym (ap (λ (b : Bool). read_in (if b then held_in c.args.self.now.core.ends.places.items else []) c.args.end) mine) ∙ c.requires.pipe);
    }

pub invariant_of-self : goal.invariant_of-self
invariant_of-self g c =
    let f = found (is_of c.args.end) c.args.self.now.core.ends.places.items c.in-Some.place (sym c.in-Some.is ∙ c.find.ensures ∙ ap (λ (l : List (Place _ _)). position (is_of c.args.end) l) c.deref.ensures.value) in
    let off = flag_not c.args.self.now.core.ends.places.items c.in-Some.place f.0 c.args.end f.1 f.2 (alone_of g.P.Pipes.known c.args.self.now.pipes c.args.self.now.core.ends.rows.items c.args.self.now.core.ends.places.items c.in-Some.place f.0 c.args.end (sound_of g.P.Pipes.known c.args.self.now.pipes c.args.self.now.core.ends.rows.items c.args.self.now.core.ends.places.items c.args.self.now.sound) f.1 f.2) (λ (r : Place _ _). r.writes) c.requires.yielded in
    let s = c.settle.ensures.settled in
    let same = ap length s.now ∙ length-set c.args.self.now.core.ends.places.items c.in-Some.place _ in
    record {
      sound = are_sound g.P.Pipes.known c.settle.new.pipes c.settle.new.table.rows.items c.settle.new.table.places.items c.settle.ensures.sound;
      peers = λ is. subst (λ (l : List (Place _ _)). ArePeers l (g.C.Joins.peers c.args.self.now.core.kind)) (sym s.now) (kept_settled c.args.self.now.core.ends.places.items (g.C.Joins.peers c.args.self.now.core.kind) (c.args.self.now.peers is) c.in-Some.place f.0 f.1 (record s.place { held = false; input = None }) off);
      room = subst (λ (n : ℕ). KeepsRoom c.args.self.now.core.is_open n c.args.self.now.core.room) (sym same) c.args.self.now.room;
      gone = λ is. never_gone c.args.end c.args.self.now.core.ends.places.items c.in-Some.place f.0 (c.args.self.now.gone is) f.1 f.2;
      flagged = subst (λ (l : List (Place _ _)). AreFlagged l (g.C.Joins.peers c.args.self.now.core.kind)) (sym s.now)
          (flagged_set c.args.self.now.core.ends.places.items (g.C.Joins.peers c.args.self.now.core.kind) (g.C.Joins.peers c.args.self.now.core.kind) c.in-Some.place s.place (record s.place { held = false; input = None }) c.args.self.now.flagged s.there (λ j ne here. here) (λ held flag. never (sym held)));
      in_use = subst (λ (l : List (Place _ _)). AreInUse c.args.self.now.core.reads l) (sym s.now) (in_use_set c.args.self.now.core.reads c.args.self.now.core.ends.places.items c.in-Some.place s.place (record s.place { held = false; input = None }) c.args.self.now.in_use s.there (λ held. never (sym held)));
      way = λ p t b. ∥∥₁_map (c.args.self.now.way p t b) (λ k is.
          subst (λ (l : List (Place _ _)). KindWay g.C.Joins.pattern g.C.Joins.names g.C.Joins.sound g.C.Joins.peers (way_in c.args.self.now.core.way.items) l (standing_joins t.joins.items) (standing_joins c.args.self.now.core.joins.items) t.turns.items c.args.self.now.core.turns.items t.kind c.args.self.now.core.kind) (sym s.now)
          (way_set g.C.Joins.pattern g.C.Joins.names g.C.Joins.sound g.C.Joins.peers (way_in c.args.self.now.core.way.items) c.args.self.now.core.ends.places.items (standing_joins t.joins.items) (standing_joins c.args.self.now.core.joins.items) t.turns.items c.args.self.now.core.turns.items t.kind c.args.self.now.core.kind c.in-Some.place s.place (record s.place { held = false; input = None }) s.there refl refl (k is)));
      others = λ s t b. leaves_on g.P.Pipes.known s c.args.self.now.pipes c.settle.new.pipes t.ends c.args.self.now.core.ends c.settle.new.table (c.args.self.now.others s t b) c.settle.ensures.others;
      settled_are = were_read_more c.args.self.now.core.ends.places.items c.settle.new.table.places.items c.args.self.now.core.ends.settled.items c.settle.new.table.settled.items (g.P.Pipes.known.out_name c.args.writer) c.settle.ensures.others.places c.settle.ensures.noted
          (let mine = owned_read (c.args.o.0 == c.args.self.now.core.number.0) c.args.end c.args.self.now.core.ends.places.items (g.P.Pipes.known.out_name c.args.writer) c.requires.pipe in
          record {
            at = c.in-Some.place;
            place = record s.place { held = false; input = None };
            there = ap (λ (l : List (Place _ _)). place_at l c.in-Some.place) s.now ∙ place_there c.args.self.now.core.ends.places.items c.in-Some.place s.place (record s.place { held = false; input = None }) s.there;
            gone = refl;
            name_is = ap (λ (x : Place _ _). x.read) (one_some s.place f.0 (sym s.there ∙ f.1))
                ∙ one_some f.0.read (g.P.Pipes.known.out_name c.args.writer) (sym (names_at c.args.self.now.core.ends.places.items c.in-Some.place f.0 c.args.end f.1 f.2 (alone_of g.P.Pipes.known c.args.self.now.pipes c.args.self.now.core.ends.rows.items c.args.self.now.core.ends.places.items c.in-Some.place f.0 c.args.end (sound_of g.P.Pipes.known c.args.self.now.pipes c.args.self.now.core.ends.rows.items c.args.self.now.core.ends.places.items c.args.self.now.sound) f.1 f.2)).1 ∙ sym (ap (λ (b : Bool). read_in (if b then held_in c.args.self.now.core.ends.places.items else []) c.args.end) mine) ∙ c.requires.pipe);
          })
          c.args.self.now.settled_are;
      sealed_are = subst (λ (l : List (Place _ _)). AreSealed l (map (λ (x : EndId × Unit {0}). x.0) c.args.self.now.core.sealed.items)) (sym s.now) (sealed_set c.args.self.now.core.ends.places.items c.in-Some.place s.place (record s.place { held = false; input = None }) (map (λ (x : EndId × Unit {0}). x.0) c.args.self.now.core.sealed.items) c.args.self.now.sealed_are s.there (λ h. never (sym h)) refl refl);
      came = λ s t b. ∥∥₁_map (c.args.self.now.came s t b) (λ h.
          came_more g.P.Pipes.known g.F.Since.undoes g.F.Since.comes s (length t.ends.places.items) (standing_joins t.joins.items) (way_in c.args.self.now.core.way.items).joined (standing_joins c.args.self.now.core.joins.items) c.args.self.now.did.items c.settle.new.did.items c.args.self.now.core.ends.places.items c.settle.new.table.places.items c.settle.ensures.others.places same c.settle.ensures.changes h);
      tied = λ s t b made. made_less g.P.Pipes.known g.F.Since.may_make c.args.self.now.did.items c.settle.new.did.items c.args.self.now.core.ends.places.items c.settle.new.table.places.items (length t.ends.places.items) c.settle.ensures.others.places same c.settle.ensures.none_made (c.args.self.now.tied s t b made);
      done = λ s t b. done_more g.P.Pipes.known s t.ends.places.items (map (λ (x : EndId × Unit {0}). x.0) t.sealed.items) c.args.self.now.pipes c.settle.new.pipes c.args.self.now.did.items c.settle.new.did.items c.args.self.now.core.ends.places.items c.settle.new.table.places.items (c.args.self.now.others s t b).places c.settle.ensures.others.places (map (λ (x : EndId × Unit {0}). x.0) c.args.self.now.core.sealed.items) c.settle.ensures.changes (c.args.self.now.done s t b);
      number = c.args.self.now.number;
      rest = c.args.self.now.rest;
      stopped = c.args.self.now.stopped;
    }

pub returns-in-Some-clause-read_out : goal.returns-in-Some-clause-read_out
returns-in-Some-clause-read_out g c = λ met.
    let f = found (is_of c.args.end) c.args.self.now.core.ends.places.items c.in-Some.place (sym c.in-Some.is ∙ c.find.ensures ∙ ap (λ (l : List (Place _ _)). position (is_of c.args.end) l) c.deref.ensures.value) in
    let y = c.settle.ensures.settled in
    let same = one_some f.0 y.place (sym f.1 ∙ y.there) in
    y.read_out (sym (ap (λ (x : Place _ _). x.met) same) ∙ flag_at c.args.self.now.core.ends.places.items c.in-Some.place f.0 c.args.end f.1 f.2 (alone_of g.P.Pipes.known c.args.self.now.pipes c.args.self.now.core.ends.rows.items c.args.self.now.core.ends.places.items c.in-Some.place f.0 c.args.end (sound_of g.P.Pipes.known c.args.self.now.pipes c.args.self.now.core.ends.rows.items c.args.self.now.core.ends.places.items c.args.self.now.sound) f.1 f.2) (λ (r : Place _ _). r.met) met)

pub returns-in-Some-clause-gone : goal.returns-in-Some-clause-gone
returns-in-Some-clause-gone g c =
    let f = found (is_of c.args.end) c.args.self.now.core.ends.places.items c.in-Some.place (sym c.in-Some.is ∙ c.find.ensures ∙ ap (λ (l : List (Place _ _)). position (is_of c.args.end) l) c.deref.ensures.value) in
    let mine = owned_read (c.args.o.0 == c.args.self.now.core.number.0) c.args.end c.args.self.now.core.ends.places.items (g.P.Pipes.known.out_name c.args.writer) c.requires.pipe in
    let y = c.settle.ensures.settled in
    let same = one_some f.0 y.place (sym f.1 ∙ y.there) in
    subst (λ (l : List (Place _ _)). Left c.args.o.0 c.args.end (has c.args.self.now.core.number.0 c.args.self.now.core.is_open (g.C.Joins.kind c.args.self.now.core.kind) (told_in c.args.self.now.core.turns.items c.args.self.now.core.sealed.items c.args.self.now.core.joins.items c.args.self.now.core.heard.items) c.args.self.now.core.ends.places.items) (has c.args.self.now.core.number.0 c.args.self.now.core.is_open (g.C.Joins.kind c.args.self.now.core.kind) (told_in c.args.self.now.core.turns.items c.args.self.now.core.sealed.items c.args.self.now.core.joins.items c.args.self.now.core.heard.items) l))
    (ap (λ (x : Place _ _). set c.args.self.now.core.ends.places.items c.in-Some.place (record x { held = false; input = None })) same ∙ sym y.now)
    (left_of c.args.self.now.core.ends.places.items c.in-Some.place f.0 c.args.end f.1 f.2 (alone_of g.P.Pipes.known c.args.self.now.pipes c.args.self.now.core.ends.rows.items c.args.self.now.core.ends.places.items c.in-Some.place f.0 c.args.end (sound_of g.P.Pipes.known c.args.self.now.pipes c.args.self.now.core.ends.rows.items c.args.self.now.core.ends.places.items c.args.self.now.sound) f.1 f.2) (record f.0 { held = false; input = None }) refl c.args.self.now.core.number.0 c.args.o.0 c.args.self.now.core.is_open (g.C.Joins.kind c.args.self.now.core.kind) (told_in c.args.self.now.core.turns.items c.args.self.now.core.sealed.items c.args.self.now.core.joins.items c.args.self.now.core.heard.items) (told_in c.args.self.now.core.turns.items c.args.self.now.core.sealed.items c.args.self.now.core.joins.items c.args.self.now.core.heard.items) mine)

pub returns-in-Some-clause-turns : goal.returns-in-Some-clause-turns
returns-in-Some-clause-turns g c =
    let f = found (is_of c.args.end) c.args.self.now.core.ends.places.items c.in-Some.place (sym c.in-Some.is ∙ c.find.ensures ∙ ap (λ (l : List (Place _ _)). position (is_of c.args.end) l) c.deref.ensures.value) in
    let y = c.settle.ensures.settled in
    let same = one_some f.0 y.place (sym f.1 ∙ y.there) in
    subst (λ (l : List (Place _ _)). KeepsTurns (has c.args.self.now.core.number.0 c.args.self.now.core.is_open (g.C.Joins.kind c.args.self.now.core.kind) (told_in c.args.self.now.core.turns.items c.args.self.now.core.sealed.items c.args.self.now.core.joins.items c.args.self.now.core.heard.items) c.args.self.now.core.ends.places.items) (has c.args.self.now.core.number.0 c.args.self.now.core.is_open (g.C.Joins.kind c.args.self.now.core.kind) (told_in c.args.self.now.core.turns.items c.args.self.now.core.sealed.items c.args.self.now.core.joins.items c.args.self.now.core.heard.items) l))
    (ap (λ (x : Place _ _). set c.args.self.now.core.ends.places.items c.in-Some.place (record x { held = false; input = None })) same ∙ sym y.now)
    (left_turns c.args.self.now.core.ends.places.items c.in-Some.place f.0 c.args.end f.1 f.2 (alone_of g.P.Pipes.known c.args.self.now.pipes c.args.self.now.core.ends.rows.items c.args.self.now.core.ends.places.items c.in-Some.place f.0 c.args.end (sound_of g.P.Pipes.known c.args.self.now.pipes c.args.self.now.core.ends.rows.items c.args.self.now.core.ends.places.items c.args.self.now.sound) f.1 f.2) (record f.0 { held = false; input = None }) refl c.args.self.now.core.number.0 c.args.self.now.core.is_open (g.C.Joins.kind c.args.self.now.core.kind) (told_in c.args.self.now.core.turns.items c.args.self.now.core.sealed.items c.args.self.now.core.joins.items c.args.self.now.core.heard.items))

pub unreachable-requires : goal.unreachable-requires
unreachable-requires g c =
    let mine = owned_read (c.args.o.0 == c.args.self.now.core.number.0) c.args.end c.args.self.now.core.ends.places.items (g.P.Pipes.known.out_name c.args.writer) c.requires.pipe in
    never (sym (reads_here c.args.end c.args.self.now.core.ends.places.items (g.P.Pipes.known.out_name c.args.writer)
    (sym (ap (λ (b : Bool). read_in (if b then held_in c.args.self.now.core.ends.places.items else []) c.args.end) mine) ∙ c.requires.pipe))
    ∙ not_found (is_of c.args.end) c.args.self.now.core.ends.places.items (sym c.in-None.is ∙ c.find.ensures ∙ ap (λ (l : List (Place _ _)). position (is_of c.args.end) l) c.deref.ensures.value))

pub returns-in-Some-clause-counts : goal.returns-in-Some-clause-counts
returns-in-Some-clause-counts g c =
    c.settle.ensures.counts
    ∙ ap (λ (p : Option ℕ). counts_at g.P.Pipes.known c.args.self.now.pipes c.args.self.now.core.ends p c.args.writer) (sym c.in-Some.is ∙ c.find.ensures ∙ ap (λ (l : List (Place _ _)). position (is_of c.args.end) l) c.deref.ensures.value)
