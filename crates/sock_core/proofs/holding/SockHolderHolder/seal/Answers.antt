use Rattle.std.proofs.Common.{refl, sym, ap, ◌∙◌, subst, true, List, ◌==◌, set}
use Rattle.std.specs.List.{position}
use Rattle.end_table.specs.declared.table.Place.{Place}
use Rattle.desk.specs.Holding.{Stays, Seals}
use Rattle.end_table.specs.Places.{IsOnce, is_of}
use Rattle.sock_core.specs.Has.{has, told_in}
use Rattle.sock_core.proofs.FindLemmas.{found, not_found, alone_of, once_of, held_is, never}
use Rattle.sock_core.proofs.SeenLemmas.{seen_same, stays_of}
use Rattle.sock_core.proofs.FormLemmas.{sound_of, are_sound}
use Rattle.sock_core.proofs.HolderLemmas.{owned, flag_at, seals_of}
use Rattle.std.proofs.Common.{ℕ, length, length-set}
use Rattle.sock_core.specs.Sound.{KeepsRoom}
use Rattle.std.proofs.lemmas.List.Elements.{All-contains_itself}
use Rattle.sock_core.specs.Peers.{ArePeers}
use Rattle.sock_core.proofs.PeerLemmas.{kept_same}
use Rattle.end_table.proofs.OthersLemmas.{leaves_on}
use Rattle.sock_core.proofs.GoneLemmas.{never_gone}
use Rattle.std.proofs.Math.Logic.{∥∥₁_map}
use Rattle.sock_core.specs.Standing.{standing_joins}
use Rattle.sock_core.specs.Way.{way_in, KindWay}
use Rattle.sock_core.specs.Peers.{AreFlagged, AreInUse}
use Rattle.sock_core.proofs.FlagLemmas.{flagged_set, in_use_set}
use Rattle.sock_core.proofs.WayLemmas.{way_set}
use Rattle.zq_base.specs.declared.ids.EndId.{EndId}
use Rattle.std.specs.Prelude.{map}
use Rattle.sock_core.specs.Noted.{AreSealed}
use Rattle.sock_core.proofs.NotedLemmas.{were_read_on, sealed_one, end_same}
use Rattle.spec_control.specs.Control.{is_end}
use Rattle.end_table.proofs.SoundLemmas.{one_some}
use Rattle.sock_core.proofs.DoneLemmas.{done_seal}
use Rattle.sock_core.proofs.FindLemmas.{end_is}
use Rattle.sock_core.proofs.MadeLemmas.{made_less}
use Rattle.sock_core.proofs.CameLemmas.{came_more}
use Rattle.sock_core.proofs.holding.SockHolderHolder.seal.Goals as goal

pub find-requires : goal.find-requires
find-requires g c = record {
  once = subst (IsOnce c.args.end) (sym c.deref.ensures.value)
      (once_of g.P.Pipes.known c.args.self.now.pipes c.args.self.now.core.ends.rows.items c.args.self.now.core.ends.places.items c.args.end
      (sound_of g.P.Pipes.known c.args.self.now.pipes c.args.self.now.core.ends.rows.items c.args.self.now.core.ends.places.items c.args.self.now.sound));
}

pub seal-requires-clause-sound : goal.seal-requires-clause-sound
seal-requires-clause-sound g c = sound_of g.P.Pipes.known c.args.self.now.pipes c.args.self.now.core.ends.rows.items c.args.self.now.core.ends.places.items c.args.self.now.sound

pub seal-requires-clause-writes : goal.seal-requires-clause-writes
seal-requires-clause-writes g c =
    let f = found (is_of c.args.end) c.args.self.now.core.ends.places.items c.in-Some.place (sym c.in-Some.is ∙ c.find.ensures ∙ ap (λ (l : List (Place _ _)). position (is_of c.args.end) l) c.deref.ensures.value) in
    record {
      place = f.0;
      there = f.1;
      held = held_is c.args.end f.0 f.2;
      writes = flag_at c.args.self.now.core.ends.places.items c.in-Some.place f.0 c.args.end f.1 f.2 (alone_of g.P.Pipes.known c.args.self.now.pipes c.args.self.now.core.ends.rows.items c.args.self.now.core.ends.places.items c.in-Some.place f.0 c.args.end (sound_of g.P.Pipes.known c.args.self.now.pipes c.args.self.now.core.ends.rows.items c.args.self.now.core.ends.places.items c.args.self.now.sound) f.1 f.2) (λ (r : Place _ _). r.writes) c.requires.writer;
    }

pub invariant_of-self : goal.invariant_of-self
invariant_of-self g c =
    let f = found (is_of c.args.end) c.args.self.now.core.ends.places.items c.in-Some.place (sym c.in-Some.is ∙ c.find.ensures ∙ ap (λ (l : List (Place _ _)). position (is_of c.args.end) l) c.deref.ensures.value) in
    let s = c.seal.ensures.sealed in
    let same = ap length s.now ∙ length-set c.args.self.now.core.ends.places.items c.in-Some.place _ in
    record {
      sound = are_sound g.P.Pipes.known c.seal.new.pipes c.seal.new.table.rows.items c.seal.new.table.places.items c.seal.ensures.sound;
      peers = λ is. subst (λ (l : List (Place _ _)). ArePeers l (g.C.Joins.peers c.args.self.now.core.kind)) (sym s.now) (kept_same c.args.self.now.core.ends.places.items (g.C.Joins.peers c.args.self.now.core.kind) (c.args.self.now.peers is) c.in-Some.place s.place (record s.place { sealed = true }) (g.C.Joins.peers c.args.self.now.core.kind) s.there refl (All-contains_itself (g.C.Joins.peers c.args.self.now.core.kind)));
      room = subst (λ (n : ℕ). KeepsRoom c.args.self.now.core.is_open n c.args.self.now.core.room) (sym same) c.args.self.now.room;
      gone = λ is. never_gone c.args.end c.args.self.now.core.ends.places.items c.in-Some.place f.0 (c.args.self.now.gone is) f.1 f.2;
      flagged = subst (λ (l : List (Place _ _)). AreFlagged l (g.C.Joins.peers c.args.self.now.core.kind)) (sym s.now)
          (flagged_set c.args.self.now.core.ends.places.items (g.C.Joins.peers c.args.self.now.core.kind) (g.C.Joins.peers c.args.self.now.core.kind) c.in-Some.place s.place (record s.place { sealed = true }) c.args.self.now.flagged s.there (λ j ne here. here) (λ held flag. c.args.self.now.flagged c.in-Some.place s.place s.there held flag));
      in_use = subst (λ (l : List (Place _ _)). AreInUse c.args.self.now.core.reads l) (sym s.now) (in_use_set c.args.self.now.core.reads c.args.self.now.core.ends.places.items c.in-Some.place s.place (record s.place { sealed = true }) c.args.self.now.in_use s.there (c.args.self.now.in_use c.in-Some.place s.place s.there));
      way = λ p t b. ∥∥₁_map (c.args.self.now.way p t b) (λ k is.
          subst (λ (l : List (Place _ _)). KindWay g.C.Joins.pattern g.C.Joins.names g.C.Joins.sound g.C.Joins.peers (way_in c.args.self.now.core.way.items) l (standing_joins t.joins.items) (standing_joins c.args.self.now.core.joins.items) t.turns.items c.args.self.now.core.turns.items t.kind c.args.self.now.core.kind) (sym s.now)
          (way_set g.C.Joins.pattern g.C.Joins.names g.C.Joins.sound g.C.Joins.peers (way_in c.args.self.now.core.way.items) c.args.self.now.core.ends.places.items (standing_joins t.joins.items) (standing_joins c.args.self.now.core.joins.items) t.turns.items c.args.self.now.core.turns.items t.kind c.args.self.now.core.kind c.in-Some.place s.place (record s.place { sealed = true }) s.there refl refl (k is)));
      others = λ s t b. leaves_on g.P.Pipes.known s c.args.self.now.pipes c.seal.new.pipes t.ends c.args.self.now.core.ends c.seal.new.table (c.args.self.now.others s t b) c.seal.ensures.others;
      settled_are = were_read_on c.args.self.now.core.ends.places.items c.seal.new.table.places.items c.args.self.now.core.ends.settled.items c.seal.new.table.settled.items c.seal.ensures.others.places (ap (λ l. l.items) c.seal.ensures.settled) c.args.self.now.settled_are;
      sealed_are = subst (λ (l : List (Place _ _)). AreSealed l (map (λ (x : EndId × Unit {0}). x.0) c.note_seal.new.sealed.items)) (sym s.now)
          (sealed_one c.args.self.now.core.ends.places.items c.in-Some.place s.place (record s.place { sealed = true }) c.args.end (map (λ (x : EndId × Unit {0}). x.0) c.args.self.now.core.sealed.items) (map (λ (x : EndId × Unit {0}). x.0) c.note_seal.new.sealed.items) c.args.self.now.sealed_are s.there
          (ap (λ (x : Place _ _). is_end x.end c.args.end) (one_some s.place f.0 (sym s.there ∙ f.1)) ∙ end_same c.args.end f.0 f.2) c.note_seal.ensures);
      came = λ s t b. ∥∥₁_map (c.args.self.now.came s t b) (λ h.
          came_more g.P.Pipes.known g.F.Since.undoes g.F.Since.comes s (length t.ends.places.items) (standing_joins t.joins.items) (way_in c.args.self.now.core.way.items).joined (standing_joins c.args.self.now.core.joins.items) c.args.self.now.did.items c.seal.new.did.items c.args.self.now.core.ends.places.items c.seal.new.table.places.items c.seal.ensures.others.places same c.seal.ensures.changes h);
      tied = λ s t b made. made_less g.P.Pipes.known g.F.Since.may_make c.args.self.now.did.items c.seal.new.did.items c.args.self.now.core.ends.places.items c.seal.new.table.places.items (length t.ends.places.items) c.seal.ensures.others.places same c.seal.ensures.none_made (c.args.self.now.tied s t b made);
      done = λ s t b. done_seal g.P.Pipes.known s t.ends.places.items (map (λ (x : EndId × Unit {0}). x.0) t.sealed.items) c.args.self.now.pipes c.seal.new.pipes c.args.self.now.did.items c.seal.new.did.items c.args.self.now.core.ends.places.items c.seal.new.table.places.items (c.args.self.now.others s t b).places c.seal.ensures.others.places (map (λ (x : EndId × Unit {0}). x.0) c.args.self.now.core.sealed.items) c.in-Some.place f.0 c.args.end
          (map (λ (x : EndId × Unit {0}). x.0) c.note_seal.new.sealed.items) c.seal.ensures.changes f.1 (held_is c.args.end f.0 f.2) (sym (end_is c.args.end f.0 f.2)) c.args.self.now.sealed_are c.note_seal.ensures (c.args.self.now.done s t b);
      number = c.args.self.now.number;
      rest = c.args.self.now.rest;
      stopped = c.args.self.now.stopped;
    }

pub unreachable-requires : goal.unreachable-requires
unreachable-requires g c =
    never (sym (owned (c.args.o.0 == c.args.self.now.core.number.0) c.args.end c.args.self.now.core.ends.places.items c.requires.here).1
    ∙ not_found (is_of c.args.end) c.args.self.now.core.ends.places.items (sym c.in-None.is ∙ c.find.ensures ∙ ap (λ (l : List (Place _ _)). position (is_of c.args.end) l) c.deref.ensures.value))

pub returns-in-Some-clause-stays : goal.returns-in-Some-clause-stays
returns-in-Some-clause-stays g c =
    let s = c.seal.ensures.sealed in
    subst (λ (l : List (Place _ _)). Stays c.args.o.0 (has c.args.self.now.core.number.0 c.args.self.now.core.is_open (g.C.Joins.kind c.args.self.now.core.kind) (told_in c.args.self.now.core.turns.items c.args.self.now.core.sealed.items c.args.self.now.core.joins.items c.args.self.now.core.heard.items) c.args.self.now.core.ends.places.items) (has c.args.self.now.core.number.0 c.args.self.now.core.is_open (g.C.Joins.kind c.args.self.now.core.kind) (told_in c.args.self.now.core.turns.items c.note_seal.new.sealed.items c.args.self.now.core.joins.items c.args.self.now.core.heard.items) l)) (sym s.now)
    (stays_of c.args.self.now.core.number.0 c.args.o.0 c.args.self.now.core.is_open (g.C.Joins.kind c.args.self.now.core.kind) (told_in c.args.self.now.core.turns.items c.args.self.now.core.sealed.items c.args.self.now.core.joins.items c.args.self.now.core.heard.items) (told_in c.args.self.now.core.turns.items c.note_seal.new.sealed.items c.args.self.now.core.joins.items c.args.self.now.core.heard.items) c.args.self.now.core.ends.places.items (set c.args.self.now.core.ends.places.items c.in-Some.place (record s.place { sealed = true }))
    (seen_same c.args.self.now.core.ends.places.items c.in-Some.place s.place (record s.place { sealed = true }) s.there refl refl refl refl))

pub returns-in-Some-clause-turns : goal.returns-in-Some-clause-turns
returns-in-Some-clause-turns g c =
    let s = c.seal.ensures.sealed in
    subst (λ (l : List (Place _ _)). Seals c.args.end (has c.args.self.now.core.number.0 c.args.self.now.core.is_open (g.C.Joins.kind c.args.self.now.core.kind) (told_in c.args.self.now.core.turns.items c.args.self.now.core.sealed.items c.args.self.now.core.joins.items c.args.self.now.core.heard.items) c.args.self.now.core.ends.places.items) (has c.args.self.now.core.number.0 c.args.self.now.core.is_open (g.C.Joins.kind c.args.self.now.core.kind) (told_in c.args.self.now.core.turns.items c.note_seal.new.sealed.items c.args.self.now.core.joins.items c.args.self.now.core.heard.items) l)) (sym s.now)
    (seals_of c.args.self.now.core.number.0 c.args.self.now.core.is_open (g.C.Joins.kind c.args.self.now.core.kind) (told_in c.args.self.now.core.turns.items c.args.self.now.core.sealed.items c.args.self.now.core.joins.items c.args.self.now.core.heard.items) (told_in c.args.self.now.core.turns.items c.note_seal.new.sealed.items c.args.self.now.core.joins.items c.args.self.now.core.heard.items) c.args.end c.args.self.now.core.ends.places.items c.in-Some.place s.place (record s.place { sealed = true }) s.there refl refl refl refl c.note_seal.ensures refl)
