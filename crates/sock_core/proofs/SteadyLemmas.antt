-- What holds of a socket between its calls holds behind a call on messages, and behind a look at an end.
use Rattle.std.proofs.Common.{◌≡◌, ℕ, true, false, List, length, length-set, refl, sym, ap, ◌∙◌, subst}
use Rattle.std.specs.Prelude.{map}
use Rattle.std.proofs.lemmas.List.Elements.{All-contains_itself}
use Rattle.zq_base.specs.declared.ids.EndId.{EndId}
use Rattle.msg_pipe.specs.Known.{Known}
use Rattle.msg_pipe.specs.declared.pipes.Front.{Front}
use Rattle.end_table.specs.Rows.{table}
use Rattle.any_sock.specs.declared.any_sock.AnySock.{AnySock}
use Rattle.any_sock.specs.Over.{peer_places}
use Rattle.end_table.specs.declared.table.EndTable.{EndTable}
use Rattle.end_table.specs.declared.table.Place.{Place}
use Rattle.end_table.specs.Giving.{AreGone}
use Rattle.end_table.specs.Looking.{met_after}
use Rattle.end_table.specs.Others.{Leaves}
use Rattle.end_table.specs.Sound.{IsSound}
use Rattle.end_table.proofs.CallLemmas.{calls_leave}
use Rattle.sock_core.specs.declared.sock.SockCore.{SockCore}
use Rattle.sock_core.specs.Has.{IsStopped}
use Rattle.sock_core.specs.Noted.{WereRead, AreSealed}
use Rattle.sock_core.specs.Peers.{ArePeers, AreFlagged, AreInUse}
use Rattle.sock_core.specs.Sound.{AreSound, KeepsRoom}
use Rattle.sock_core.proofs.FlagLemmas.{flagged_set, in_use_set}
use Rattle.sock_core.proofs.FormLemmas.{sound_of, are_sound}
use Rattle.sock_core.proofs.GoneLemmas.{never_gone}
use Rattle.sock_core.proofs.NotedLemmas.{were_read_on, sealed_set}
use Rattle.sock_core.proofs.PeerLemmas.{kept_same}
use Rattle.sock_core.specs.Lent.{IsWhole, MakesSome, lent}
use Rattle.sock_core.specs.Holding.{lent_in, KeepsElse, KeepsRest, LooksHere}

-- its ends are of these pipes, and stand as a socket keeps them; it has room to give them away
pub record IsSteady {S C W N O I : Type 0} (K : Known S O I N) (peers : C → List ℕ) (pipes : S) (s : SockCore C W N O I) : Type 0 where
  pub sound : AreSound K pipes s.ends.rows.items s.ends.places.items
  pub peers_are : s.is_open ≡ true → ArePeers s.ends.places.items (peers s.kind)
  pub room : KeepsRoom s.is_open (length s.ends.places.items) s.room
  pub gone : s.is_open ≡ false → AreGone s.ends.places.items
  pub stopped_is : IsStopped s.stopped s.heard.items
  pub flagged : AreFlagged s.ends.places.items (peers s.kind)
  pub in_use : AreInUse s.reads s.ends.places.items
  pub settled_are : WereRead s.ends.places.items s.ends.settled.items
  pub sealed_are : AreSealed s.ends.places.items (map (λ (x : EndId × Unit {0}). x.0) s.sealed.items)

-- ---- a call on messages

module _ {S N O I : Type 0} (K : Known S O I N) (p q : S) (from to : EndTable N O I) where
  -- calls that seal no pipe leave the pipes of others
  pub leaves_so : (l : List (Place N I)) (k k' : AnySock) → to.places ≡ from.places → to.settled ≡ from.settled → IsSound K p from.rows.items from.places.items
      → MakesSome K (lent p from.rows.items l k) (lent q to.rows.items l k') → Leaves K p from q to
  leaves_so l k k' places settled sound made =
      calls_leave K made.steps (table p from.rows.items) (table q to.rows.items) from to made.makes.does made.makes.unsealing sound (ap (λ v. v.items) places) (ap (λ v. v.items) settled)

-- an open socket that stands so is whole
pub whole_so : {S W N O I : Type 0} (K : Known S O I N) (p : S) (s : SockCore AnySock W N O I) → IsSteady K peer_places p s → s.is_open ≡ true → IsWhole K (lent_in p s)
whole_so K p s h is = record { sound = sound_of K p s.ends.rows.items s.ends.places.items h.sound; peers = h.peers_are is; flagged = h.flagged }

module _ {W N O I : Type 0} (s t : SockCore AnySock W N O I) (rest : KeepsRest s t) where
  pub keeps_else : KeepsElse s t
  keeps_else = subst (λ (x : SockCore AnySock W N O I). KeepsElse s x) (sym rest)
      (record { places = refl; settled = refl; number = refl; is_open = refl; stopped = refl; reads = refl; waker = refl; room = refl; turns = refl; sealed = refl; joins = refl; heard = refl; way = refl })

  pub mailed_so : {S : Type 0} (K : Known S O I N) (p q : S) → IsWhole K (lent_in q t) → IsSteady K peer_places p s → IsSteady K peer_places q t
  mailed_so K p q whole h =
      let w : IsWhole K (lent q t.ends.rows.items s.ends.places.items t.kind) = subst (λ (x : SockCore AnySock W N O I). IsWhole K (lent_in q x)) rest whole in
      subst (λ (x : SockCore AnySock W N O I). IsSteady K peer_places q x) (sym rest) (record {
        sound = are_sound K q t.ends.rows.items s.ends.places.items w.sound;
        peers_are = λ is. w.peers;
        room = h.room;
        gone = h.gone;
        stopped_is = h.stopped_is;
        flagged = w.flagged;
        in_use = h.in_use;
        settled_are = h.settled_are;
        sealed_are = h.sealed_are;
      })

-- ---- a look at an end

module _ {S C W N O I : Type 0} (K : Known S O I N) (peers : C → List ℕ) (p q : S) (s : SockCore C W N O I) (ends : EndTable N O I) (e : EndId) (found : Front) where
  pub looked_so : LooksHere K e found p s.ends q ends → IsSound K q ends.rows.items ends.places.items → ends.settled ≡ s.ends.settled → Leaves K p s.ends q ends
      → IsSteady K peers p s → IsSteady K peers q (record s { ends = ends })
  looked_so looks sound settled others h =
      let ps = s.ends.places.items in
      let k = looks.place in
      let x = looks.looks in
      let y = record x.place { met = met_after found x.place.met } in
      let all = peers s.kind in
      let seals = map (λ (x : EndId × Unit {0}). x.0) s.sealed.items in
      record {
        sound = are_sound K q ends.rows.items ends.places.items sound;
        peers_are = λ is. subst (λ (l : List (Place N I)). ArePeers l all) (sym x.now) (kept_same ps all (h.peers_are is) k x.place y all x.there refl (All-contains_itself all));
        room = subst (λ (n : ℕ). KeepsRoom s.is_open n s.room) (sym (ap length x.now ∙ length-set ps k y)) h.room;
        gone = λ is. never_gone e ps k looks.is_held.place (h.gone is) looks.is_held.there looks.is_held.is;
        stopped_is = h.stopped_is;
        flagged = subst (λ (l : List (Place N I)). AreFlagged l all) (sym x.now)
            (flagged_set ps all all k x.place y h.flagged x.there (λ j ne here. here) (λ held flag. h.flagged k x.place x.there held flag));
        in_use = subst (λ (l : List (Place N I)). AreInUse s.reads l) (sym x.now) (in_use_set s.reads ps k x.place y h.in_use x.there (h.in_use k x.place x.there));
        settled_are = were_read_on ps ends.places.items s.ends.settled.items ends.settled.items others.places (ap (λ l. l.items) settled) h.settled_are;
        sealed_are = subst (λ (l : List (Place N I)). AreSealed l seals) (sym x.now) (sealed_set ps k x.place y seals h.sealed_are x.there (λ h. h) refl refl);
      }
