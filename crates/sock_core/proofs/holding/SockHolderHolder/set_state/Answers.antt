use Rattle.std.proofs.Common.{arith, ◌≡◌, refl, sym, ap, ◌∙◌, subst, Bool, true, false, List, [], ◌∷◌, ◌++◌, if◌then◌else◌, ◌==◌, set}
use Rattle.std.proofs.Math.Logic.{∥∥₁_map}
use Rattle.spec_control.specs.Place.{At}
use Rattle.spec_run.specs.OpenSocket.{is_out}
use Rattle.sock_core.specs.Standing.{standing_joins}
use Rattle.sock_core.specs.Way.{way_in, with_turned, KindWay}
use Rattle.std.specs.List.{position}
use Rattle.end_table.specs.declared.table.Place.{Place}
use Rattle.desk.specs.Holding.{Stays, TurnsTo, is_state}
use Rattle.end_table.specs.Places.{IsOnce, is_of}
use Rattle.sock_core.specs.Has.{has, told_in}
use Rattle.sock_core.proofs.FindLemmas.{found, not_found, alone_of, once_of, held_is, end_is, never}
use Rattle.sock_core.proofs.SeenLemmas.{seen_same, stays_of}
use Rattle.sock_core.proofs.FormLemmas.{sound_of, are_sound}
use Rattle.sock_core.proofs.HolderLemmas.{owned, turned_of}
use Rattle.zq_base.specs.declared.kind.Kind.{Kind}
use Rattle.end_table.proofs.SoundLemmas.{one_some}
use Rattle.end_table.proofs.PlaceLemmas.{place_within, place_found}
use Rattle.std.proofs.Common.{ℕ, length, length-set}
use Rattle.sock_core.specs.Sound.{KeepsRoom}
use Rattle.sock_core.specs.Peers.{ArePeers, AreFlagged, AreInUse}
use Rattle.sock_core.proofs.FlagLemmas.{flagged_set, in_use_stated}
use Rattle.sock_core.proofs.GoingLemmas.{noted_turned}
use Rattle.sock_core.proofs.PeerLemmas.{kept_stated}
use Rattle.end_table.proofs.OthersLemmas.{leaves_on}
use Rattle.sock_core.proofs.GoneLemmas.{never_gone}
use Rattle.std.specs.Prelude.{Option}
use Rattle.end_table.specs.Counting.{counts_at, counts_with}
use Rattle.end_table.proofs.CountLemmas.{position_same}
use Rattle.zq_base.specs.declared.ids.EndId.{EndId}
use Rattle.std.specs.Prelude.{map}
use Rattle.sock_core.specs.Noted.{AreSealed}
use Rattle.sock_core.proofs.NotedLemmas.{were_read_on, sealed_set}
use Rattle.sock_core.proofs.DoneLemmas.{done_still}
use Rattle.sock_core.proofs.MadeLemmas.{made_less}
use Rattle.spec_control.specs.declared.entry.Joining.{Joining}
use Rattle.sock_core.specs.Came.{HasCome}
use Rattle.sock_core.specs.Way.{Way}
use Rattle.sock_core.proofs.CameLemmas.{came_still, turned_joined}
use Rattle.sock_core.proofs.holding.SockHolderHolder.set_state.Goals as goal

pub find-requires : goal.find-requires
find-requires g c = record {
  once = subst (IsOnce c.args.end) (sym c.deref.ensures.value)
      (once_of g.P.Pipes.known c.args.self.now.pipes c.args.self.now.core.ends.rows.items c.args.self.now.core.ends.places.items c.args.end
      (sound_of g.P.Pipes.known c.args.self.now.pipes c.args.self.now.core.ends.rows.items c.args.self.now.core.ends.places.items c.args.self.now.sound));
}

pub set_state-requires-clause-sound : goal.set_state-requires-clause-sound
set_state-requires-clause-sound g c = sound_of g.P.Pipes.known c.args.self.now.pipes c.args.self.now.core.ends.rows.items c.args.self.now.core.ends.places.items c.args.self.now.sound

pub set_state-requires-clause-there : goal.set_state-requires-clause-there
set_state-requires-clause-there g c =
    let f = found (is_of c.args.end) c.args.self.now.core.ends.places.items c.in-Some.place (sym c.in-Some.is ∙ c.find.ensures ∙ ap (λ (l : List (Place _ _)). position (is_of c.args.end) l) c.deref.ensures.value) in
    record { place = f.0; there = f.1; held = held_is c.args.end f.0 f.2 }

not_out : (b r : Bool) → (b ≡ true → r ≡ false) → r ≡ true → b ≡ false
not_out true r off on = never (sym on ∙ off refl)
not_out false r off on = refl

pub invariant_of-self : goal.invariant_of-self
invariant_of-self g c =
    let f = found (is_of c.args.end) c.args.self.now.core.ends.places.items c.in-Some.place (sym c.in-Some.is ∙ c.find.ensures ∙ ap (λ (l : List (Place _ _)). position (is_of c.args.end) l) c.deref.ensures.value) in
    let s = c.set_state.ensures.stated in
    let same = ap length s.now ∙ length-set c.args.self.now.core.ends.places.items c.in-Some.place _ in
    let peer = ap (λ (x : Place _ _). x.peer) (place_found c.args.self.now.core.ends.places.items c.in-Some.place s.place c.index-in-Some.result.now s.there c.index-in-Some.ensures) in
    record {
      sound = are_sound g.P.Pipes.known c.args.self.now.pipes c.set_state.new.table.rows.items c.set_state.new.table.places.items c.set_state.ensures.sound;
      peers = λ is. subst (λ (l : List (Place _ _)). ArePeers l (g.C.Joins.peers c.stays-peer.new.kind)) (sym s.now)
          (kept_stated c.args.self.now.core.ends.places.items (g.C.Joins.peers c.args.self.now.core.kind) (c.args.self.now.peers is) c.in-Some.place s.place s.there c.index-in-Some.result.now.peer c.stays-peer.result (record s.place { state = c.args.state; peer = c.stays-peer.result }) (g.C.Joins.peers c.stays-peer.new.kind) peer refl refl refl c.stays-peer.ensures.peers);
      room = subst (λ (n : ℕ). KeepsRoom c.args.self.now.core.is_open n c.args.self.now.core.room) (sym same) c.args.self.now.room;
      gone = λ is. never_gone c.args.end c.args.self.now.core.ends.places.items c.in-Some.place f.0 (c.args.self.now.gone is) f.1 f.2;
      flagged = subst (λ (l : List (Place _ _)). AreFlagged l (g.C.Joins.peers c.stays-peer.new.kind)) (sym s.now)
          (flagged_set c.args.self.now.core.ends.places.items (g.C.Joins.peers c.args.self.now.core.kind) (g.C.Joins.peers c.stays-peer.new.kind) c.in-Some.place s.place (record s.place { state = c.args.state; peer = c.stays-peer.result }) c.args.self.now.flagged s.there c.stays-peer.ensures.peers.stay
          (λ held flag. c.stays-peer.ensures.peers.stays_too flag (c.args.self.now.flagged c.in-Some.place s.place s.there held (sym peer ∙ c.stays-peer.ensures.peers.none_back flag))));
      in_use = subst (λ (l : List (Place _ _)). AreInUse c.began-self.result l) (sym s.now)
          (in_use_stated c.args.self.now.core.reads c.began-self.result c.args.self.now.core.ends.places.items c.in-Some.place s.place (record s.place { state = c.args.state; peer = c.stays-peer.result }) c.began-self.ensures c.args.self.now.in_use s.there
          (λ flag. not_out (is_out (At c.args.state)) c.stays-peer.result (λ out. (c.stays-peer.ensures.goes out).0) flag));
      way = λ p t b. ∥∥₁_map (c.args.self.now.way p t b) (λ k is.
          let old = c.args.self.now.core in
          let one = one_some f.0 s.place (sym f.1 ∙ s.there) in
          let was = place_found old.ends.places.items c.in-Some.place s.place c.index.result.now s.there c.index.ensures in
          let w = way_in old.way.items in
          subst (λ (l : List (Place _ _)). KindWay g.C.Joins.pattern g.C.Joins.names g.C.Joins.sound g.C.Joins.peers (way_in c.note_turn.new.way.items) l (standing_joins t.joins.items) (standing_joins old.joins.items) t.turns.items c.note.new.turns.items t.kind c.stays-peer.new.kind) (sym s.now)
          (noted_turned g.P.Pipes.known c.args.self.now.pipes old.ends.rows.items old.ends.places.items (sound_of g.P.Pipes.known c.args.self.now.pipes old.ends.rows.items old.ends.places.items c.args.self.now.sound) (g.C.Joins.peers old.kind) (c.args.self.now.peers is)
          g.C.Joins.pattern c.args.self.now.flagged g.C.Joins.names g.C.Joins.sound g.C.Joins.peers w (way_in c.note_turn.new.way.items) c.in-Some.place s.place (record s.place { state = c.args.state; peer = c.stays-peer.result }) c.args.end c.args.state c.index-in-Some.result.now.peer c.stays-peer.result
          (standing_joins t.joins.items) (standing_joins old.joins.items) t.turns.items old.turns.items c.note.new.turns.items t.kind old.kind c.stays-peer.new.kind
          s.there (ap (λ (x : Place _ _). x.held) (sym one) ∙ held_is c.args.end f.0 f.2) (end_is c.args.end f.0 f.2 ∙ ap (λ (x : Place _ _). x.end) one) peer refl refl
          (c.args.self.now.in_use c.in-Some.place s.place s.there (ap (λ (x : Place _ _). x.held) (sym one) ∙ held_is c.args.end f.0 f.2)).0
          (c.note_turn.ensures ∙ ap (λ (x : Place _ _). if is_state x.state c.args.state then w else with_turned c.args.end c.args.state w) was)
          (c.note.ensures ∙ ap (λ (x : Place _ _). old.turns.items ++ (if is_state x.state c.args.state then [] else (c.args.end, c.args.state) ∷ [])) was)
          c.stays-peer.ensures.stays c.stays-peer.ensures.goes (k is)));
      others = λ s t b. leaves_on g.P.Pipes.known s c.args.self.now.pipes c.args.self.now.pipes t.ends c.args.self.now.core.ends c.set_state.new.table (c.args.self.now.others s t b) c.set_state.ensures.others;
      settled_are = were_read_on c.args.self.now.core.ends.places.items c.set_state.new.table.places.items c.args.self.now.core.ends.settled.items c.set_state.new.table.settled.items c.set_state.ensures.others.places (ap (λ l. l.items) c.set_state.ensures.settled) c.args.self.now.settled_are;
      sealed_are = subst (λ (l : List (Place _ _)). AreSealed l (map (λ (x : EndId × Unit {0}). x.0) c.args.self.now.core.sealed.items)) (sym s.now) (sealed_set c.args.self.now.core.ends.places.items c.in-Some.place s.place (record s.place { state = c.args.state; peer = c.stays-peer.result }) (map (λ (x : EndId × Unit {0}). x.0) c.args.self.now.core.sealed.items) c.args.self.now.sealed_are s.there (λ h. h) refl refl);
      came = λ s t b. ∥∥₁_map (c.args.self.now.came s t b) (λ h.
          let was = c.index.result.now.state in
          subst (λ (l : List (Joining _ × ℕ)). HasCome g.P.Pipes.known g.F.Since.undoes g.F.Since.comes s (length t.ends.places.items) (standing_joins t.joins.items) l (standing_joins c.args.self.now.core.joins.items) c.args.self.now.did.items c.set_state.new.table.places.items)
          (sym (ap (λ (w : Way _). w.joined) c.note_turn.ensures ∙ turned_joined (is_state was c.args.state) c.args.end c.args.state (way_in c.args.self.now.core.way.items)))
          (came_still g.P.Pipes.known g.F.Since.undoes g.F.Since.comes s (length t.ends.places.items) (standing_joins t.joins.items) (way_in c.args.self.now.core.way.items).joined (standing_joins c.args.self.now.core.joins.items) c.args.self.now.did.items c.args.self.now.core.ends.places.items c.set_state.new.table.places.items c.set_state.ensures.others.places same h));
      tied = λ s t b made. made_less g.P.Pipes.known g.F.Since.may_make c.args.self.now.did.items c.args.self.now.did.items c.args.self.now.core.ends.places.items c.set_state.new.table.places.items (length t.ends.places.items) c.set_state.ensures.others.places same (λ d. refl) (c.args.self.now.tied s t b made);
      done = λ s t b. done_still g.P.Pipes.known s t.ends.places.items (map (λ (x : EndId × Unit {0}). x.0) t.sealed.items) c.args.self.now.pipes c.args.self.now.did.items c.args.self.now.core.ends.places.items c.set_state.new.table.places.items (map (λ (x : EndId × Unit {0}). x.0) c.args.self.now.core.sealed.items) (c.set_state.ensures.others.places) (c.args.self.now.done s t b);
      number = c.args.self.now.number;
      rest = λ p t b r. c.stays-peer.ensures.rests (c.args.self.now.rest p t b r);
      stopped = c.args.self.now.stopped;
    }

pub returns-in-Some-clause-stays : goal.returns-in-Some-clause-stays
returns-in-Some-clause-stays g c =
    let s = c.set_state.ensures.stated in
    subst (λ (l : List (Place _ _)). Stays c.args.o.0 (has c.args.self.now.core.number.0 c.args.self.now.core.is_open (g.C.Joins.kind c.args.self.now.core.kind) (told_in c.args.self.now.core.turns.items c.args.self.now.core.sealed.items c.args.self.now.core.joins.items c.args.self.now.core.heard.items) c.args.self.now.core.ends.places.items) (has c.args.self.now.core.number.0 c.args.self.now.core.is_open (g.C.Joins.kind c.stays-peer.new.kind) (told_in c.note.new.turns.items c.args.self.now.core.sealed.items c.args.self.now.core.joins.items c.args.self.now.core.heard.items) l)) (sym s.now)
    (subst (λ (kind : Kind). Stays c.args.o.0 (has c.args.self.now.core.number.0 c.args.self.now.core.is_open (g.C.Joins.kind c.args.self.now.core.kind) (told_in c.args.self.now.core.turns.items c.args.self.now.core.sealed.items c.args.self.now.core.joins.items c.args.self.now.core.heard.items) c.args.self.now.core.ends.places.items) (has c.args.self.now.core.number.0 c.args.self.now.core.is_open kind (told_in c.note.new.turns.items c.args.self.now.core.sealed.items c.args.self.now.core.joins.items c.args.self.now.core.heard.items) (set c.args.self.now.core.ends.places.items c.in-Some.place (record s.place { state = c.args.state; peer = c.stays-peer.result })))) (sym c.stays-peer.ensures.kind)
    (stays_of c.args.self.now.core.number.0 c.args.o.0 c.args.self.now.core.is_open (g.C.Joins.kind c.args.self.now.core.kind) (told_in c.args.self.now.core.turns.items c.args.self.now.core.sealed.items c.args.self.now.core.joins.items c.args.self.now.core.heard.items) (told_in c.note.new.turns.items c.args.self.now.core.sealed.items c.args.self.now.core.joins.items c.args.self.now.core.heard.items) c.args.self.now.core.ends.places.items (set c.args.self.now.core.ends.places.items c.in-Some.place (record s.place { state = c.args.state; peer = c.stays-peer.result }))
    (seen_same c.args.self.now.core.ends.places.items c.in-Some.place s.place (record s.place { state = c.args.state; peer = c.stays-peer.result }) s.there refl refl refl refl)))

pub returns-in-Some-clause-turns : goal.returns-in-Some-clause-turns
returns-in-Some-clause-turns g c =
    let f = found (is_of c.args.end) c.args.self.now.core.ends.places.items c.in-Some.place (sym c.in-Some.is ∙ c.find.ensures ∙ ap (λ (l : List (Place _ _)). position (is_of c.args.end) l) c.deref.ensures.value) in
    let s = c.set_state.ensures.stated in
    let same = one_some f.0 s.place (sym f.1 ∙ s.there) in
    let was = place_found c.args.self.now.core.ends.places.items c.in-Some.place f.0 c.index.result.now f.1 c.index.ensures in
    subst (λ (l : List (Place _ _)). TurnsTo c.args.end c.args.state (has c.args.self.now.core.number.0 c.args.self.now.core.is_open (g.C.Joins.kind c.args.self.now.core.kind) (told_in c.args.self.now.core.turns.items c.args.self.now.core.sealed.items c.args.self.now.core.joins.items c.args.self.now.core.heard.items) c.args.self.now.core.ends.places.items) (has c.args.self.now.core.number.0 c.args.self.now.core.is_open (g.C.Joins.kind c.stays-peer.new.kind) (told_in c.note.new.turns.items c.args.self.now.core.sealed.items c.args.self.now.core.joins.items c.args.self.now.core.heard.items) l))
    (ap (λ (x : Place _ _). set c.args.self.now.core.ends.places.items c.in-Some.place (record x { state = c.args.state; peer = c.stays-peer.result })) same ∙ sym s.now)
    (turned_of c.args.self.now.core.ends.places.items c.in-Some.place f.0 c.args.end f.1 f.2 (alone_of g.P.Pipes.known c.args.self.now.pipes c.args.self.now.core.ends.rows.items c.args.self.now.core.ends.places.items c.in-Some.place f.0 c.args.end (sound_of g.P.Pipes.known c.args.self.now.pipes c.args.self.now.core.ends.rows.items c.args.self.now.core.ends.places.items c.args.self.now.sound) f.1 f.2) c.args.self.now.core.number.0 c.args.self.now.core.is_open (g.C.Joins.kind c.args.self.now.core.kind) (g.C.Joins.kind c.stays-peer.new.kind) (told_in c.args.self.now.core.turns.items c.args.self.now.core.sealed.items c.args.self.now.core.joins.items c.args.self.now.core.heard.items) (told_in c.note.new.turns.items c.args.self.now.core.sealed.items c.args.self.now.core.joins.items c.args.self.now.core.heard.items) c.args.state c.stays-peer.result
    (c.note.ensures ∙ ap (λ (x : Place _ _). c.args.self.now.core.turns.items ++ (if is_state x.state c.args.state then [] else (c.args.end, c.args.state) ∷ [])) was) refl refl)

pub unreachable-requires : goal.unreachable-requires
unreachable-requires g c =
    never (sym (owned (c.args.o.0 == c.args.self.now.core.number.0) c.args.end c.args.self.now.core.ends.places.items c.requires.here).1
    ∙ not_found (is_of c.args.end) c.args.self.now.core.ends.places.items (sym c.in-None.is ∙ c.find.ensures ∙ ap (λ (l : List (Place _ _)). position (is_of c.args.end) l) c.deref.ensures.value))

pub returns-in-Some-clause-counts : goal.returns-in-Some-clause-counts
returns-in-Some-clause-counts g c = λ writer reads.
    let s = c.set_state.ensures.stated in
    let at = sym (sym c.in-Some.is ∙ c.find.ensures ∙ ap (λ (l : List (Place _ _)). position (is_of c.args.end) l) c.deref.ensures.value) in
    ap (λ (p : Option ℕ). counts_at g.P.Pipes.known c.args.self.now.pipes c.set_state.new.table p writer)
    (ap (position (is_of c.args.end)) s.now ∙ position_same (is_of c.args.end) c.args.self.now.core.ends.places.items c.in-Some.place s.place (record s.place { state = c.args.state; peer = c.stays-peer.result }) s.there refl ∙ at)
    ∙ ap (counts_with g.P.Pipes.known c.args.self.now.pipes writer) c.set_state.ensures.half
    ∙ sym (ap (λ (p : Option ℕ). counts_at g.P.Pipes.known c.args.self.now.pipes c.args.self.now.core.ends p writer) at)

pub index-requires : goal.index-requires
index-requires g c =
    let f = found (is_of c.args.end) c.args.self.now.core.ends.places.items c.in-Some.place (sym c.in-Some.is ∙ c.find.ensures ∙ ap (λ (l : List (Place _ _)). position (is_of c.args.end) l) c.deref.ensures.value) in
    let w = place_within c.args.self.now.core.ends.places.items c.in-Some.place f.0 f.1 in omega (arith, w)

pub index-requires-in-Some : goal.index-requires-in-Some
index-requires-in-Some g c =
    let f = found (is_of c.args.end) c.args.self.now.core.ends.places.items c.in-Some.place (sym c.in-Some.is ∙ c.find.ensures ∙ ap (λ (l : List (Place _ _)). position (is_of c.args.end) l) c.deref.ensures.value) in
    let w = place_within c.args.self.now.core.ends.places.items c.in-Some.place f.0 f.1 in omega (arith, w)
