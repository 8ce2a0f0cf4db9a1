-- What a socket is over its ends is told by the ends at its peers' places (own choice).
use Rattle.std.specs.Prelude.{◌≡◌, ℕ, List, All, Contains}
use Rattle.spec_pattern.specs.TurnList.{End}
use Rattle.any_sock.specs.Over.{peer_places, partner_places, over, caught_up, as_received}
use Rattle.any_sock.specs.Peers.{heard_places}
use Rattle.any_sock.specs.declared.any_sock.AnySock.{AnySock}

-- two namings of the ends agree at these places
abbrev pub Agree : (f g : ℕ → End) → List ℕ → Type 0
Agree f g places = All (λ k. f k ≡ g k) places

-- the state is the same over two namings that agree at the peers' places, also once what was left is obeyed; the partner is a peer, and so is who is heard
pub record IsToldByPeers (s : AnySock) : Type 0 where
  pub state : (f g : ℕ → End) → Agree f g (peer_places s) → over f s ≡ over g s
  pub received : (f g : ℕ → End) → Agree f g (peer_places s) → over f (as_received f s) ≡ over g (as_received g s)
  pub caught : (f g : ℕ → End) → Agree f g (peer_places s) → over f (caught_up f s) ≡ over g (caught_up g s)
  pub partner : All (Contains (peer_places s)) (partner_places s)
  pub heard : All (Contains (peer_places s)) (heard_places s)
