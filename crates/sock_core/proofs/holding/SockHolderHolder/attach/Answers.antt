use Rattle.std.proofs.Common.{refl, ◌≡◌, ◌+◌, ◌∙◌, ◌==◌, ◌++◌, ◌∷◌, [], ℕ, List, length, length-append, sym, ap, subst, arith, true≢false}
use Rattle.std.specs.List.{list_any}
use Rattle.zq_base.specs.declared.kind.Kind.{Kind}
use Rattle.end_table.specs.Rows.{Rows}
use Rattle.end_table.specs.declared.row.EndRow.{EndRow}
use Rattle.desk.specs.Holding.{Joined, BeginsActive, held_with}
use Rattle.end_table.specs.declared.table.Place.{Place}
use Rattle.end_table.specs.Places.{is_of}
use Rattle.end_table.specs.Sound.{IsSound, Fits}
use Rattle.end_table.specs.Attaching.{new_place, halves_of}
use Rattle.sock_core.specs.Has.{has, told_in}
use Rattle.sock_core.proofs.FormLemmas.{sound_of, are_sound}
use Rattle.sock_core.proofs.JoinLemmas.{open_of, mine_of, none_of, room_of, joined_of, begins_of}
use Rattle.sock_core.specs.Peers.{ArePeers, AddsPeer}
use Rattle.sock_core.proofs.PeerLemmas.{below, kept_more}
use Rattle.zq_base.specs.declared.ids.EndId.{EndId}
use Rattle.sock_core.specs.Sound.{AreSound}
use Rattle.sock_core.specs.Standing.{joining_as, standing_joins}
use Rattle.end_table.proofs.OthersLemmas.{leaves_on, leaves_unchanged}
use Rattle.std.proofs.Math.Logic.{∥∥₁_map}
use Rattle.sock_core.specs.Way.{way_in, IsCalm, KindWay}
use Rattle.pub_sub.specs.Places.{AreOthers}
use Rattle.sock_core.specs.Peers.{AreFlagged, AreInUse}
use Rattle.sock_core.specs.Patterns.{AttachesAs}
use Rattle.sock_core.proofs.FlagLemmas.{flagged_more, in_use_more}
use Rattle.sock_core.proofs.WayLemmas.{came_as, noted_came, way_kept, all_still}
use Rattle.sock_core.proofs.PeerLemmas.{none_at, peer_none}
use Rattle.sock_core.proofs.CalmLemmas.{calm_came}
use Rattle.std.specs.Prelude.{map}
use Rattle.sock_core.specs.Noted.{WereRead, AreMade, AreSealed}
use Rattle.end_table.specs.Changes.{AreMadeFor}
use Rattle.sock_core.proofs.NotedLemmas.{were_read_on, sealed_more}
use Rattle.end_table.proofs.OthersLemmas.{places_stay}
use Rattle.sock_core.proofs.DoneLemmas.{done_still}
use Rattle.end_table.specs.Others.{KeepsPlaces}
use Rattle.sock_core.proofs.MadeLemmas.{made_less, made_one}
use Rattle.sock_core.proofs.CameLemmas.{came_still, came_joined}
use Rattle.sock_core.proofs.holding.SockHolderHolder.attach.Goals as goal

pub join-requires-clause-sound : goal.join-requires-clause-sound
join-requires-clause-sound g c =
    subst (λ (l : Rows _ _). IsSound g.P.Pipes.known c.args.self.now.pipes l c.prepare.new.table.places.items) (sym c.prepare.ensures.kept.rows)
    (subst (λ (l : List (Place _ _)). IsSound g.P.Pipes.known c.args.self.now.pipes c.args.self.now.core.ends.rows.items l) (sym c.prepare.ensures.kept.places)
    (sound_of g.P.Pipes.known c.args.self.now.pipes c.args.self.now.core.ends.rows.items c.args.self.now.core.ends.places.items c.args.self.now.sound))

pub join-requires-clause-new : goal.join-requires-clause-new
join-requires-clause-new g c =
    ap (λ (r : EndRow _ _). list_any (is_of r.end) c.prepare.new.table.places.items) c.in-Ok-prepare.ensures.ok
    ∙ ap (λ (l : List (Place _ _)). list_any (is_of c.args.end) l) c.prepare.ensures.kept.places
    ∙ none_of (c.args.o.0 == c.args.self.now.core.number.0) c.args.end c.args.self.now.core.ends.places.items (mine_of c.args.self.now.core.is_open (c.args.o.0 == c.args.self.now.core.number.0) c.requires.here) (c.requires.new c.args.o.0 c.requires.here)

pub join-requires-clause-fits : goal.join-requires-clause-fits
join-requires-clause-fits g c =
    subst (λ (l : List (Place _ _)). Fits g.P.Pipes.known c.args.self.now.pipes l (halves_of c.in-Ok-prepare.row.value)) (sym c.prepare.ensures.kept.places)
    (subst (λ (r : EndRow _ _). Fits g.P.Pipes.known c.args.self.now.pipes c.args.self.now.core.ends.places.items (halves_of r)) (sym c.in-Ok-prepare.ensures.ok) c.requires.fits.0)

pub attach-requires : goal.attach-requires
attach-requires g c =
    let n = c.len-place.ensures in
    let all = below c.args.self.now.core.ends.places.items (g.C.Joins.peers c.args.self.now.core.kind) (c.args.self.now.peers (open_of c.args.self.now.core.is_open (c.args.o.0 == c.args.self.now.core.number.0) c.requires.here)) in
    record { last = λ k d lt. let l = all k d lt in omega (arith, l, n) }

pub invariant_of-self-in-Ok-attach : goal.invariant_of-self-in-Ok-attach
invariant_of-self-in-Ok-attach g c =
    let place : c.len-place.result ≡ length c.args.self.now.core.ends.places.items = (let n = c.len-place.ensures in omega (arith, n)) in
    let more = c.join.ensures.joined ∙ ap (λ (l : List (Place _ _)). l ++ new_place c.in-Ok-prepare.row.value.end (g.P.Pipes.known.out_name c.in-Ok-prepare.row.value.out) (g.P.Pipes.known.in_name c.in-Ok-prepare.row.value.input) c.is_taken.result ∷ []) c.prepare.ensures.kept.places in
    let long : length c.join.new.table.places.items ≡ length c.args.self.now.core.ends.places.items + 1 =
    ap length (c.join.ensures.joined ∙ ap (λ (l : List (Place _ _)). l ++ new_place c.in-Ok-prepare.row.value.end (g.P.Pipes.known.out_name c.in-Ok-prepare.row.value.out) (g.P.Pipes.known.in_name c.in-Ok-prepare.row.value.input) c.is_taken.result ∷ []) c.prepare.ensures.kept.places) ∙ length-append c.args.self.now.core.ends.places.items (new_place c.in-Ok-prepare.row.value.end (g.P.Pipes.known.out_name c.in-Ok-prepare.row.value.out) (g.P.Pipes.known.in_name c.in-Ok-prepare.row.value.input) c.is_taken.result ∷ []) in
    record {
      sound = are_sound g.P.Pipes.known c.args.self.now.pipes c.join.new.table.rows.items c.join.new.table.places.items c.join.ensures.sound;
      peers = λ is. subst (λ (l : List (Place _ _)). ArePeers l (g.C.Joins.peers c.attach.new.self)) (sym (c.join.ensures.joined ∙ ap (λ (l : List (Place _ _)). l ++ new_place c.in-Ok-prepare.row.value.end (g.P.Pipes.known.out_name c.in-Ok-prepare.row.value.out) (g.P.Pipes.known.in_name c.in-Ok-prepare.row.value.input) c.is_taken.result ∷ []) c.prepare.ensures.kept.places))
          (kept_more c.args.self.now.core.ends.places.items (g.C.Joins.peers c.args.self.now.core.kind) (c.args.self.now.peers is) c.in-Ok-attach.answer (new_place c.in-Ok-prepare.row.value.end (g.P.Pipes.known.out_name c.in-Ok-prepare.row.value.out) (g.P.Pipes.known.in_name c.in-Ok-prepare.row.value.input) c.is_taken.result) (g.C.Joins.peers c.attach.new.self) refl refl c.is_taken.ensures
          (subst (λ (n : ℕ). AddsPeer c.in-Ok-attach.answer n (g.C.Joins.peers c.args.self.now.core.kind) (g.C.Joins.peers c.attach.new.self)) place c.in-Ok-attach.ensures.peers));
      room = room_of c.args.self.now.core.is_open (c.len-place.result + 1) (length c.join.new.table.places.items) c.keep.new.self (omega (arith, place, long)) c.in-Ok.ensures.ok;
      gone = λ is. absurd (true≢false (sym (open_of c.args.self.now.core.is_open (c.args.o.0 == c.args.self.now.core.number.0) c.requires.here) ∙ is));
      flagged = subst (λ (l : List (Place _ _)). AreFlagged l (g.C.Joins.peers c.attach.new.self)) (sym more)
          (flagged_more c.args.self.now.core.ends.places.items (g.C.Joins.peers c.args.self.now.core.kind) (g.C.Joins.peers c.attach.new.self) (new_place c.in-Ok-prepare.row.value.end (g.P.Pipes.known.out_name c.in-Ok-prepare.row.value.out) (g.P.Pipes.known.in_name c.in-Ok-prepare.row.value.input) c.is_taken.result) c.in-Ok-attach.answer c.args.self.now.flagged c.is_taken.ensures
          (subst (λ (n : ℕ). AddsPeer c.in-Ok-attach.answer n (g.C.Joins.peers c.args.self.now.core.kind) (g.C.Joins.peers c.attach.new.self)) place c.in-Ok-attach.ensures.peers));
      in_use = subst (λ (l : List (Place _ _)). AreInUse c.args.self.now.core.reads l) (sym more) (in_use_more c.args.self.now.core.reads c.args.self.now.core.ends.places.items (new_place c.in-Ok-prepare.row.value.end (g.P.Pipes.known.out_name c.in-Ok-prepare.row.value.out) (g.P.Pipes.known.in_name c.in-Ok-prepare.row.value.input) c.is_taken.result) c.args.self.now.in_use (λ flag. refl, λ none. refl));
      way = λ p t b. ∥∥₁_map (c.args.self.now.way p t b) (λ k is.
          let last = c.joint_of-joint.ensures.place ∙ place in
          noted_came g.C.Joins.pattern g.C.Joins.names g.C.Joins.sound g.C.Joins.peers (way_in c.args.self.now.core.way.items) (way_in c.note_join.new.way.items) c.args.self.now.core.ends.places.items c.join.new.table.places.items (standing_joins t.joins.items) (standing_joins c.args.self.now.core.joins.items) (standing_joins c.note_join.new.joins.items) t.turns.items c.args.self.now.core.turns.items t.kind c.args.self.now.core.kind c.attach.new.self (joining_as c.joint_of-joint.result c.args.identity.now c.in-Ok-attach.answer) c.joint_of-joint.result.place (new_place c.in-Ok-prepare.row.value.end (g.P.Pipes.known.out_name c.in-Ok-prepare.row.value.out) (g.P.Pipes.known.in_name c.in-Ok-prepare.row.value.input) c.is_taken.result)
          c.note_join.ensures.way c.requires.calm.1.quiet more last (ap (λ (r : EndRow _ _). r.end) c.in-Ok-prepare.ensures.ok ∙ sym c.joint_of-joint.ensures.end) c.is_taken.ensures c.note_join.ensures.joins
          (came_as g.C.Joins.pattern g.C.Joins.names g.C.Joins.sound g.C.Joins.peers c.args.self.now.core.kind c.attach.new.self (joining_as c.joint_of-joint.result c.args.identity.now c.in-Ok-attach.answer) c.joint_of-joint.result.place c.is_sound.ensures.sound c.is_sound.ensures.names
          (subst (λ (n : ℕ). AreOthers n (g.C.Joins.peers c.args.self.now.core.kind)) (sym last) (none_at c.args.self.now.core.ends.places.items (g.C.Joins.peers c.args.self.now.core.kind) (c.args.self.now.peers is) (length c.args.self.now.core.ends.places.items) (peer_none c.args.self.now.core.ends.places.items)))
          c.in-Ok-attach.ensures.named c.in-Ok-attach.ensures.answers
          (subst (λ (n : ℕ). AttachesAs g.C.Joins.pattern n c.args.identity.now c.in-Ok-attach.answer c.args.self.now.core.kind c.attach.new.self) (sym c.joint_of-joint.ensures.place) c.in-Ok-attach.ensures.attaches))
          (k is));
      others = λ s t b. leaves_on g.P.Pipes.known s c.args.self.now.pipes c.args.self.now.pipes t.ends c.prepare.new.table c.join.new.table
          (leaves_on g.P.Pipes.known s c.args.self.now.pipes c.args.self.now.pipes t.ends c.args.self.now.core.ends c.prepare.new.table (c.args.self.now.others s t b)
          (leaves_unchanged g.P.Pipes.known c.args.self.now.pipes c.args.self.now.core.ends c.prepare.new.table c.prepare.ensures.kept))
          c.join.ensures.others;
      settled_are = were_read_on c.prepare.new.table.places.items c.join.new.table.places.items c.args.self.now.core.ends.settled.items c.join.new.table.settled.items c.join.ensures.others.places (ap (λ l. l.items) c.join.ensures.settled ∙ c.prepare.ensures.kept.settled)
          (subst (λ (l : List (Place _ _)). WereRead l c.args.self.now.core.ends.settled.items) (sym c.prepare.ensures.kept.places) c.args.self.now.settled_are);
      sealed_are = subst (λ (l : List (Place _ _)). AreSealed l (map (λ (x : EndId × Unit {0}). x.0) c.args.self.now.core.sealed.items)) (sym more) (sealed_more c.args.self.now.core.ends.places.items _ (map (λ (x : EndId × Unit {0}). x.0) c.args.self.now.core.sealed.items) c.args.self.now.sealed_are refl);
      came = λ s t b. ∥∥₁_map (c.args.self.now.came s t b) (λ h.
          let K = g.P.Pipes.known in
          came_joined g.P.Pipes.known g.F.Since.undoes g.F.Since.comes s (length t.ends.places.items) (standing_joins t.joins.items) (way_in c.args.self.now.core.way.items) (way_in c.note_join.new.way.items) (standing_joins c.args.self.now.core.joins.items) (standing_joins c.note_join.new.joins.items) c.args.self.now.did.items c.args.self.now.core.ends.places.items c.join.new.table.places.items
          (new_place c.in-Ok-prepare.row.value.end (g.P.Pipes.known.out_name c.in-Ok-prepare.row.value.out) (g.P.Pipes.known.in_name c.in-Ok-prepare.row.value.input) c.is_taken.result) (joining_as c.joint_of-joint.result c.args.identity.now c.in-Ok-attach.answer) c.joint_of-joint.result.place
          c.note_join.ensures.way c.note_join.ensures.joins more (c.joint_of-joint.ensures.place ∙ place)
          (ap (λ (r : EndRow _ _). r.end) c.in-Ok-prepare.ensures.ok ∙ sym c.joint_of-joint.ensures.end)
          (ap (λ (r : EndRow _ _). K.out_name r.out) c.in-Ok-prepare.ensures.ok ∙ sym c.joint_of-joint.ensures.written)
          (ap (λ (r : EndRow _ _). K.in_name r.input) c.in-Ok-prepare.ensures.ok ∙ sym c.joint_of-joint.ensures.read)
          c.requires.calm.1.makings h);
      tied = λ s t b made.
          subst (λ (l : List (Place _ _)). AreMade g.P.Pipes.known g.F.Since.may_make c.args.self.now.did.items (length t.ends.places.items) l) (sym more)
          (made_one g.P.Pipes.known g.F.Since.may_make c.args.self.now.did.items c.args.self.now.core.ends.places.items (new_place c.in-Ok-prepare.row.value.end (g.P.Pipes.known.out_name c.in-Ok-prepare.row.value.out) (g.P.Pipes.known.in_name c.in-Ok-prepare.row.value.input) c.is_taken.result) (length t.ends.places.items)
          (subst (λ (r : EndRow _ _). AreMadeFor g.P.Pipes.known g.F.Since.may_make c.args.self.now.did.items r.end (g.P.Pipes.known.out_name r.out) (g.P.Pipes.known.in_name r.input)) (sym c.in-Ok-prepare.ensures.ok) (c.requires.fits.1 made))
          (c.args.self.now.tied s t b made));
      done = λ s t b. done_still g.P.Pipes.known s t.ends.places.items (map (λ (x : EndId × Unit {0}). x.0) t.sealed.items) c.args.self.now.pipes c.args.self.now.did.items c.args.self.now.core.ends.places.items c.join.new.table.places.items (map (λ (x : EndId × Unit {0}). x.0) c.args.self.now.core.sealed.items) (subst (λ (l : List (Place _ _)). KeepsPlaces l c.join.new.table.places.items) c.prepare.ensures.kept.places c.join.ensures.others.places) (c.args.self.now.done s t b);
      number = c.args.self.now.number;
      rest = λ s t b r. c.attach.ensures.rests (c.args.self.now.rest s t b r);
      stopped = c.args.self.now.stopped;
    }

pub returns-in-Ok-attach-clause-ok : goal.returns-in-Ok-attach-clause-ok
returns-in-Ok-attach-clause-ok g c =
    let K = g.P.Pipes.known in
    let places = c.join.ensures.joined ∙ ap (λ (l : List (Place _ _)). l ++ new_place c.in-Ok-prepare.row.value.end (g.P.Pipes.known.out_name c.in-Ok-prepare.row.value.out) (g.P.Pipes.known.in_name c.in-Ok-prepare.row.value.input) c.is_taken.result ∷ []) c.prepare.ensures.kept.places
    ∙ ap (λ (r : EndRow _ _). c.args.self.now.core.ends.places.items ++ new_place r.end (K.out_name r.out) (K.in_name r.input) c.is_taken.result ∷ []) c.in-Ok-prepare.ensures.ok in
    subst (λ (kind : Kind). Joined c.args.o.0 (held_with K.out_name K.in_name c.args.end c.args.halves) (has c.args.self.now.core.number.0 c.args.self.now.core.is_open (g.C.Joins.kind c.args.self.now.core.kind) (told_in c.args.self.now.core.turns.items c.args.self.now.core.sealed.items c.args.self.now.core.joins.items c.args.self.now.core.heard.items) c.args.self.now.core.ends.places.items) (has c.args.self.now.core.number.0 c.args.self.now.core.is_open kind (told_in c.args.self.now.core.turns.items c.args.self.now.core.sealed.items c.note_join.new.joins.items c.args.self.now.core.heard.items) c.join.new.table.places.items)) (sym c.attach.ensures.kind)
    (subst (λ (l : List (Place _ _)). Joined c.args.o.0 (held_with K.out_name K.in_name c.args.end c.args.halves) (has c.args.self.now.core.number.0 c.args.self.now.core.is_open (g.C.Joins.kind c.args.self.now.core.kind) (told_in c.args.self.now.core.turns.items c.args.self.now.core.sealed.items c.args.self.now.core.joins.items c.args.self.now.core.heard.items) c.args.self.now.core.ends.places.items) (has c.args.self.now.core.number.0 c.args.self.now.core.is_open (g.C.Joins.kind c.args.self.now.core.kind) (told_in c.args.self.now.core.turns.items c.args.self.now.core.sealed.items c.note_join.new.joins.items c.args.self.now.core.heard.items) l)) (sym places)
    (joined_of c.args.self.now.core.ends.places.items c.args.end (K.out_name c.args.halves.out) (K.in_name c.args.halves.input) c.args.self.now.core.number.0 c.args.o.0 c.args.self.now.core.is_open (g.C.Joins.kind c.args.self.now.core.kind) (told_in c.args.self.now.core.turns.items c.args.self.now.core.sealed.items c.args.self.now.core.joins.items c.args.self.now.core.heard.items) (told_in c.args.self.now.core.turns.items c.args.self.now.core.sealed.items c.note_join.new.joins.items c.args.self.now.core.heard.items) c.is_taken.result (mine_of c.args.self.now.core.is_open (c.args.o.0 == c.args.self.now.core.number.0) c.requires.here)))

pub returns-in-Ok-attach-clause-turns : goal.returns-in-Ok-attach-clause-turns
returns-in-Ok-attach-clause-turns g c =
    let K = g.P.Pipes.known in
    let places = c.join.ensures.joined ∙ ap (λ (l : List (Place _ _)). l ++ new_place c.in-Ok-prepare.row.value.end (g.P.Pipes.known.out_name c.in-Ok-prepare.row.value.out) (g.P.Pipes.known.in_name c.in-Ok-prepare.row.value.input) c.is_taken.result ∷ []) c.prepare.ensures.kept.places
    ∙ ap (λ (r : EndRow _ _). c.args.self.now.core.ends.places.items ++ new_place r.end (K.out_name r.out) (K.in_name r.input) c.is_taken.result ∷ []) c.in-Ok-prepare.ensures.ok in
    let mine = mine_of c.args.self.now.core.is_open (c.args.o.0 == c.args.self.now.core.number.0) c.requires.here in
    subst (λ (kind : Kind). BeginsActive c.args.end (has c.args.self.now.core.number.0 c.args.self.now.core.is_open (g.C.Joins.kind c.args.self.now.core.kind) (told_in c.args.self.now.core.turns.items c.args.self.now.core.sealed.items c.args.self.now.core.joins.items c.args.self.now.core.heard.items) c.args.self.now.core.ends.places.items) (has c.args.self.now.core.number.0 c.args.self.now.core.is_open kind (told_in c.args.self.now.core.turns.items c.args.self.now.core.sealed.items c.note_join.new.joins.items c.args.self.now.core.heard.items) c.join.new.table.places.items)) (sym c.attach.ensures.kind)
    (subst (λ (l : List (Place _ _)). BeginsActive c.args.end (has c.args.self.now.core.number.0 c.args.self.now.core.is_open (g.C.Joins.kind c.args.self.now.core.kind) (told_in c.args.self.now.core.turns.items c.args.self.now.core.sealed.items c.args.self.now.core.joins.items c.args.self.now.core.heard.items) c.args.self.now.core.ends.places.items) (has c.args.self.now.core.number.0 c.args.self.now.core.is_open (g.C.Joins.kind c.args.self.now.core.kind) (told_in c.args.self.now.core.turns.items c.args.self.now.core.sealed.items c.note_join.new.joins.items c.args.self.now.core.heard.items) l)) (sym places)
    (begins_of c.args.self.now.core.ends.places.items c.args.end (K.out_name c.args.halves.out) (K.in_name c.args.halves.input) c.args.self.now.core.number.0 c.args.o.0 c.args.self.now.core.is_open (g.C.Joins.kind c.args.self.now.core.kind) (told_in c.args.self.now.core.turns.items c.args.self.now.core.sealed.items c.args.self.now.core.joins.items c.args.self.now.core.heard.items) (told_in c.args.self.now.core.turns.items c.args.self.now.core.sealed.items c.note_join.new.joins.items c.args.self.now.core.heard.items) c.is_taken.result refl refl (none_of (c.args.o.0 == c.args.self.now.core.number.0) c.args.end c.args.self.now.core.ends.places.items mine (c.requires.new c.args.o.0 c.requires.here))))

pub returns-in-Ok-attach-clause-joins : goal.returns-in-Ok-attach-clause-joins
returns-in-Ok-attach-clause-joins g c =
    let K = g.P.Pipes.known in
    let was = standing_joins c.args.self.now.core.joins.items in
    c.note_join.ensures.joins
    ∙ ap (λ (x : EndId). was ++ joining_as (record { end = x; place = c.joint_of-joint.result.place; written = c.joint_of-joint.result.written; read = c.joint_of-joint.result.read }) c.args.identity.now c.in-Ok-attach.answer ∷ []) c.joint_of-joint.ensures.end
    ∙ ap (λ (x : g.row.P-Name.Denot). was ++ joining_as (record { end = c.args.end; place = c.joint_of-joint.result.place; written = x; read = c.joint_of-joint.result.read }) c.args.identity.now c.in-Ok-attach.answer ∷ []) c.joint_of-joint.ensures.written
    ∙ ap (λ (x : g.row.P-Name.Denot). was ++ joining_as (record { end = c.args.end; place = c.joint_of-joint.result.place; written = K.out_name c.args.halves.out; read = x }) c.args.identity.now c.in-Ok-attach.answer ∷ []) c.joint_of-joint.ensures.read

pub invariant_of-self-in-Err-attach : goal.invariant_of-self-in-Err-attach
invariant_of-self-in-Err-attach g c =
    let places = c.prepare.ensures.kept.places in
    let place : c.len-place.result ≡ length c.args.self.now.core.ends.places.items = (let n = c.len-place.ensures in omega (arith, n)) in
    let long = ap length places in
    record {
      sound = subst (λ (l : Rows _ _). AreSound g.P.Pipes.known c.args.self.now.pipes l c.prepare.new.table.places.items) (sym c.prepare.ensures.kept.rows)
          (subst (λ (l : List (Place _ _)). AreSound g.P.Pipes.known c.args.self.now.pipes c.args.self.now.core.ends.rows.items l) (sym places) c.args.self.now.sound);
      peers = λ is. subst (λ (l : List (Place _ _)). ArePeers l (g.C.Joins.peers c.attach.new.self)) (sym places) (subst (λ (l : List ℕ). ArePeers c.args.self.now.core.ends.places.items l) (sym c.in-Err-attach.ensures.err) (c.args.self.now.peers is));
      room = room_of c.args.self.now.core.is_open (c.len-place.result + 1) (length c.prepare.new.table.places.items) c.keep.new.self (omega (arith, place, long)) c.in-Ok.ensures.ok;
      gone = λ is. absurd (true≢false (sym (open_of c.args.self.now.core.is_open (c.args.o.0 == c.args.self.now.core.number.0) c.requires.here) ∙ is));
      flagged = subst (λ (l : List (Place _ _)). AreFlagged l (g.C.Joins.peers c.attach.new.self)) (sym places) (subst (λ (l : List ℕ). AreFlagged c.args.self.now.core.ends.places.items l) (sym c.in-Err-attach.ensures.err) c.args.self.now.flagged);
      in_use = subst (λ (l : List (Place _ _)). AreInUse c.args.self.now.core.reads l) (sym places) c.args.self.now.in_use;
      others = λ s t b. leaves_on g.P.Pipes.known s c.args.self.now.pipes c.args.self.now.pipes t.ends c.args.self.now.core.ends c.prepare.new.table (c.args.self.now.others s t b)
          (leaves_unchanged g.P.Pipes.known c.args.self.now.pipes c.args.self.now.core.ends c.prepare.new.table c.prepare.ensures.kept);
      settled_are = were_read_on c.args.self.now.core.ends.places.items c.prepare.new.table.places.items c.args.self.now.core.ends.settled.items c.prepare.new.table.settled.items (places_stay c.args.self.now.core.ends.places.items c.prepare.new.table.places.items places) c.prepare.ensures.kept.settled c.args.self.now.settled_are;
      sealed_are = subst (λ (l : List (Place _ _)). AreSealed l (map (λ (x : EndId × Unit {0}). x.0) c.args.self.now.core.sealed.items)) (sym places) c.args.self.now.sealed_are;
      came = λ s t b. ∥∥₁_map (c.args.self.now.came s t b) (λ h.
          came_still g.P.Pipes.known g.F.Since.undoes g.F.Since.comes s (length t.ends.places.items) (standing_joins t.joins.items) (way_in c.args.self.now.core.way.items).joined (standing_joins c.args.self.now.core.joins.items) c.args.self.now.did.items c.args.self.now.core.ends.places.items c.prepare.new.table.places.items (places_stay c.args.self.now.core.ends.places.items c.prepare.new.table.places.items places) long h);
      tied = λ s t b made. made_less g.P.Pipes.known g.F.Since.may_make c.args.self.now.did.items c.args.self.now.did.items c.args.self.now.core.ends.places.items c.prepare.new.table.places.items (length t.ends.places.items) (places_stay c.args.self.now.core.ends.places.items c.prepare.new.table.places.items places) long (λ d. refl) (c.args.self.now.tied s t b made);
      done = λ s t b. done_still g.P.Pipes.known s t.ends.places.items (map (λ (x : EndId × Unit {0}). x.0) t.sealed.items) c.args.self.now.pipes c.args.self.now.did.items c.args.self.now.core.ends.places.items c.prepare.new.table.places.items (map (λ (x : EndId × Unit {0}). x.0) c.args.self.now.core.sealed.items) (places_stay c.args.self.now.core.ends.places.items c.prepare.new.table.places.items places) (c.args.self.now.done s t b);
      number = c.args.self.now.number;
      rest = λ s t b r. c.attach.ensures.rests (c.args.self.now.rest s t b r);
      stopped = c.args.self.now.stopped;
      way = λ p t b. ∥∥₁_map (c.args.self.now.way p t b) (λ k is.
          subst (λ (l : List (Place _ _)). KindWay g.C.Joins.pattern g.C.Joins.names g.C.Joins.sound g.C.Joins.peers (way_in c.args.self.now.core.way.items) l (standing_joins t.joins.items) (standing_joins c.args.self.now.core.joins.items) t.turns.items c.args.self.now.core.turns.items t.kind c.attach.new.self) (sym places)
          (way_kept g.C.Joins.pattern g.C.Joins.names g.C.Joins.sound g.C.Joins.peers (way_in c.args.self.now.core.way.items) c.args.self.now.core.ends.places.items c.args.self.now.core.ends.places.items (standing_joins t.joins.items) (standing_joins c.args.self.now.core.joins.items) t.turns.items c.args.self.now.core.turns.items t.kind c.args.self.now.core.kind c.attach.new.self (all_still ((way_in c.args.self.now.core.way.items).turns ≡ []) c.args.self.now.core.ends.places.items) c.in-Err-attach.ensures.same (k is)));
    }

pub invariant_of-self-in-Err-prepare : goal.invariant_of-self-in-Err-prepare
invariant_of-self-in-Err-prepare g c =
    let places = c.prepare.ensures.kept.places in
    let place : c.len-place.result ≡ length c.args.self.now.core.ends.places.items = (let n = c.len-place.ensures in omega (arith, n)) in
    let long = ap length places in
    record {
      sound = subst (λ (l : Rows _ _). AreSound g.P.Pipes.known c.args.self.now.pipes l c.prepare.new.table.places.items) (sym c.prepare.ensures.kept.rows)
          (subst (λ (l : List (Place _ _)). AreSound g.P.Pipes.known c.args.self.now.pipes c.args.self.now.core.ends.rows.items l) (sym places) c.args.self.now.sound);
      peers = λ is. subst (λ (l : List (Place _ _)). ArePeers l (g.C.Joins.peers c.args.self.now.core.kind)) (sym places) (c.args.self.now.peers is);
      room = room_of c.args.self.now.core.is_open (c.len-place.result + 1) (length c.prepare.new.table.places.items) c.keep.new.self (omega (arith, place, long)) c.in-Ok.ensures.ok;
      gone = λ is. absurd (true≢false (sym (open_of c.args.self.now.core.is_open (c.args.o.0 == c.args.self.now.core.number.0) c.requires.here) ∙ is));
      flagged = subst (λ (l : List (Place _ _)). AreFlagged l (g.C.Joins.peers c.args.self.now.core.kind)) (sym places) c.args.self.now.flagged;
      in_use = subst (λ (l : List (Place _ _)). AreInUse c.args.self.now.core.reads l) (sym places) c.args.self.now.in_use;
      others = λ s t b. leaves_on g.P.Pipes.known s c.args.self.now.pipes c.args.self.now.pipes t.ends c.args.self.now.core.ends c.prepare.new.table (c.args.self.now.others s t b)
          (leaves_unchanged g.P.Pipes.known c.args.self.now.pipes c.args.self.now.core.ends c.prepare.new.table c.prepare.ensures.kept);
      settled_are = were_read_on c.args.self.now.core.ends.places.items c.prepare.new.table.places.items c.args.self.now.core.ends.settled.items c.prepare.new.table.settled.items (places_stay c.args.self.now.core.ends.places.items c.prepare.new.table.places.items places) c.prepare.ensures.kept.settled c.args.self.now.settled_are;
      sealed_are = subst (λ (l : List (Place _ _)). AreSealed l (map (λ (x : EndId × Unit {0}). x.0) c.args.self.now.core.sealed.items)) (sym places) c.args.self.now.sealed_are;
      came = λ s t b. ∥∥₁_map (c.args.self.now.came s t b) (λ h.
          came_still g.P.Pipes.known g.F.Since.undoes g.F.Since.comes s (length t.ends.places.items) (standing_joins t.joins.items) (way_in c.args.self.now.core.way.items).joined (standing_joins c.args.self.now.core.joins.items) c.args.self.now.did.items c.args.self.now.core.ends.places.items c.prepare.new.table.places.items (places_stay c.args.self.now.core.ends.places.items c.prepare.new.table.places.items places) long h);
      tied = λ s t b made. made_less g.P.Pipes.known g.F.Since.may_make c.args.self.now.did.items c.args.self.now.did.items c.args.self.now.core.ends.places.items c.prepare.new.table.places.items (length t.ends.places.items) (places_stay c.args.self.now.core.ends.places.items c.prepare.new.table.places.items places) long (λ d. refl) (c.args.self.now.tied s t b made);
      done = λ s t b. done_still g.P.Pipes.known s t.ends.places.items (map (λ (x : EndId × Unit {0}). x.0) t.sealed.items) c.args.self.now.pipes c.args.self.now.did.items c.args.self.now.core.ends.places.items c.prepare.new.table.places.items (map (λ (x : EndId × Unit {0}). x.0) c.args.self.now.core.sealed.items) (places_stay c.args.self.now.core.ends.places.items c.prepare.new.table.places.items places) (c.args.self.now.done s t b);
      number = c.args.self.now.number;
      rest = c.args.self.now.rest;
      stopped = c.args.self.now.stopped;
      way = λ p t b. ∥∥₁_map (c.args.self.now.way p t b) (λ k is.
          subst (λ (l : List (Place _ _)). KindWay g.C.Joins.pattern g.C.Joins.names g.C.Joins.sound g.C.Joins.peers (way_in c.args.self.now.core.way.items) l (standing_joins t.joins.items) (standing_joins c.args.self.now.core.joins.items) t.turns.items c.args.self.now.core.turns.items t.kind c.args.self.now.core.kind) (sym places)
          (k is));
    }

pub returns-in-Ok-attach-clause-calm : goal.returns-in-Ok-attach-clause-calm
returns-in-Ok-attach-clause-calm g c = λ came calm.
    let place : c.len-place.result ≡ length c.args.self.now.core.ends.places.items = (let n = c.len-place.ensures in omega (arith, n)) in
    let new = new_place c.in-Ok-prepare.row.value.end (g.P.Pipes.known.out_name c.in-Ok-prepare.row.value.out) (g.P.Pipes.known.in_name c.in-Ok-prepare.row.value.input) c.is_taken.result in
    calm_came c.args.self.now.did.items (way_in c.args.self.now.core.way.items) (way_in c.note_join.new.way.items) c.args.self.now.core.ends.places.items c.join.new.table.places.items new (joining_as c.joint_of-joint.result c.args.identity.now c.in-Ok-attach.answer) c.joint_of-joint.result.place c.args.end came
    c.note_join.ensures.way (c.join.ensures.joined ∙ ap (λ (l : List (Place _ _)). l ++ new ∷ []) c.prepare.ensures.kept.places) (c.joint_of-joint.ensures.place ∙ place)
    (ap (λ (r : EndRow _ _). r.end) c.in-Ok-prepare.ensures.ok ∙ sym c.joint_of-joint.ensures.end) refl c.joint_of-joint.ensures.end calm

pub invariant_of-self : goal.invariant_of-self
invariant_of-self g c =
    let place : c.len-place.result ≡ length c.args.self.now.core.ends.places.items = (let n = c.len-place.ensures in omega (arith, n)) in
    record {
      sound = c.args.self.now.sound;
      peers = c.args.self.now.peers;
      room = room_of c.args.self.now.core.is_open c.len-place.result (length c.args.self.now.core.ends.places.items) c.keep.new.self (omega (arith, place)) c.keep.ensures.err;
      gone = c.args.self.now.gone;
      flagged = c.args.self.now.flagged;
      in_use = c.args.self.now.in_use;
      settled_are = c.args.self.now.settled_are;
      sealed_are = c.args.self.now.sealed_are;
      others = c.args.self.now.others;
      stopped = c.args.self.now.stopped;
      number = c.args.self.now.number;
      done = c.args.self.now.done;
      tied = c.args.self.now.tied;
      came = c.args.self.now.came;
      way = c.args.self.now.way;
      rest = c.args.self.now.rest;
    }

pub returns-in-Err-clause-err : goal.returns-in-Err-clause-err
returns-in-Err-clause-err g c = (
  refl,
  record {
    now = record {
      ends = refl;
      others = λ i ne. refl;
      objects = λ i. refl;
      kinds = λ i. refl;
      output = λ i. refl;
      delimiters = λ i e has met. met;
    };
    writers = λ d. refl;
  },
  record { states = λ i d has. refl; turns = refl; sealed = refl; joined = refl },
)

pub returns-in-Err-clause-still : goal.returns-in-Err-clause-still
returns-in-Err-clause-still g c = λ came calm. calm

pub returns-in-Err-prepare-clause-still : goal.returns-in-Err-prepare-clause-still
returns-in-Err-prepare-clause-still g c = λ came calm.
    subst (λ (l : List (Place _ _)). IsCalm (way_in c.args.self.now.core.way.items) l c.args.self.now.did.items came) (sym c.prepare.ensures.kept.places) calm

pub returns-in-Err-attach-clause-still : goal.returns-in-Err-attach-clause-still
returns-in-Err-attach-clause-still g c = λ came calm.
    subst (λ (l : List (Place _ _)). IsCalm (way_in c.args.self.now.core.way.items) l c.args.self.now.did.items came) (sym c.prepare.ensures.kept.places) calm

pub returns-in-Err-clause-ok : goal.returns-in-Err-clause-ok
returns-in-Err-clause-ok g c = tt

pub returns-in-Err-clause-turns : goal.returns-in-Err-clause-turns
returns-in-Err-clause-turns g c = tt

pub returns-in-Err-clause-joins : goal.returns-in-Err-clause-joins
returns-in-Err-clause-joins g c = tt

pub returns-in-Err-clause-refuses : goal.returns-in-Err-clause-refuses
returns-in-Err-clause-refuses g c = tt

pub returns-in-Err-clause-calm : goal.returns-in-Err-clause-calm
returns-in-Err-clause-calm g c = tt

pub returns-in-Err-clause-heard : goal.returns-in-Err-clause-heard
returns-in-Err-clause-heard g c = refl

pub returns-in-Err-prepare-clause-ok : goal.returns-in-Err-prepare-clause-ok
returns-in-Err-prepare-clause-ok g c = tt

pub returns-in-Err-prepare-clause-turns : goal.returns-in-Err-prepare-clause-turns
returns-in-Err-prepare-clause-turns g c = tt

pub returns-in-Err-prepare-clause-joins : goal.returns-in-Err-prepare-clause-joins
returns-in-Err-prepare-clause-joins g c = tt

pub returns-in-Err-prepare-clause-refuses : goal.returns-in-Err-prepare-clause-refuses
returns-in-Err-prepare-clause-refuses g c = tt

pub returns-in-Err-prepare-clause-calm : goal.returns-in-Err-prepare-clause-calm
returns-in-Err-prepare-clause-calm g c = tt

pub returns-in-Err-prepare-clause-heard : goal.returns-in-Err-prepare-clause-heard
returns-in-Err-prepare-clause-heard g c = refl

pub returns-in-Err-attach-clause-ok : goal.returns-in-Err-attach-clause-ok
returns-in-Err-attach-clause-ok g c = tt

pub returns-in-Err-attach-clause-turns : goal.returns-in-Err-attach-clause-turns
returns-in-Err-attach-clause-turns g c = tt

pub returns-in-Err-attach-clause-joins : goal.returns-in-Err-attach-clause-joins
returns-in-Err-attach-clause-joins g c = tt

pub returns-in-Err-attach-clause-refuses : goal.returns-in-Err-attach-clause-refuses
returns-in-Err-attach-clause-refuses g c = tt

pub returns-in-Err-attach-clause-calm : goal.returns-in-Err-attach-clause-calm
returns-in-Err-attach-clause-calm g c = tt

pub returns-in-Err-attach-clause-heard : goal.returns-in-Err-attach-clause-heard
returns-in-Err-attach-clause-heard g c = refl
