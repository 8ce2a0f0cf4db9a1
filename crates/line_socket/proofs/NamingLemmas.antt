-- The state of a lent socket's kind, by the ends at its places.
use Rattle.std.proofs.Common.{◌≡◌, ◌∙◌, ℕ, zero, suc, true, List, [], ◌∷◌, Some, sym, ap, true≢false, refl}
use Rattle.std.specs.Prelude.{slice_index_or}
use Rattle.zq_base.specs.declared.ids.EndId.{EndId}
use Rattle.msg_pipe.specs.Known.{Known}
use Rattle.any_sock.specs.declared.any_sock.AnySock.{AnySock}
use Rattle.any_sock.specs.Over.{Leftover, over, peer_places}
use Rattle.any_sock.specs.Told.{Agree, IsToldByPeers}
use Rattle.end_table.specs.declared.table.Place.{Place}
use Rattle.end_table.specs.Places.{place_at}
use Rattle.sock_core.specs.declared.sock.SockCore.{SockCore}
use Rattle.sock_core.specs.Peers.{ArePeers, peer_at}
use Rattle.sock_core.specs.Way.{IsNaming}
use Rattle.sock_calls.specs.Passing.{IsPatternOf}
use Rattle.line_socket.specs.View.{end_at, pattern_told}
use Rattle.line_socket.specs.Standing.{IsStanding, IsWhole}
use Rattle.line_socket.proofs.ViewLemmas.{caught_as_is}

module _ {N I : Type 0} where
  -- a peer's place is named by its end
  at_peer : (ps : List (Place N I)) (f : ℕ → EndId) → ((k : ℕ) (p : Place N I) → place_at ps k ≡ Some p → f k ≡ p.end) → (k : ℕ) → peer_at ps k ≡ true → f k ≡ end_at ps k
  at_peer [] f names k h = absurd (true≢false (sym h))
  at_peer (x ∷ xs) f names zero h = names zero x refl
  at_peer (x ∷ xs) f names (suc k) h = at_peer xs (λ j. f (suc j)) (λ j p at. names (suc j) p at) k h

  namings_agree : (ps : List (Place N I)) (peers : List ℕ) (f : ℕ → EndId) → IsNaming ps f → ArePeers ps peers → Agree f (end_at ps) peers
  namings_agree ps peers f names all = λ k d lt. at_peer ps f names (slice_index_or peers k d) (all k d lt)

-- however the places are named, it is what a run tells
pub told_named : {W N O I S : Type 0} (K : Known S O I N) (pipes : S) (s : SockCore AnySock W N O I) → IsStanding K pipes s → IsToldByPeers s.kind → IsWhole (Some s) → IsPatternOf over (pattern_told s) (Some s)
told_named K pipes s stands told whole = λ f names.
    let at = end_at s.ends.places.items in
    told.state f at (namings_agree s.ends.places.items (peer_places s.kind) f names (stands.fits.peers_are stands.is_open))
    ∙ sym (ap (over at) (caught_as_is at s.kind (ap (λ (l : Leftover). l.to_obey) whole)))
