-- What a socket of any kind does at a detach and an undo is what ends that join it ask for.
use Rattle.std.proofs.Common.{◌≡◌, ℕ, Contains, nat_eq, false, ap, ◌∙◌}
use Rattle.std.specs.Cmp.{nat_eq_equiv}
use Rattle.std.proofs.lemmas.List.Elements.{All-weaker}
use Rattle.std.proofs.lemmas.Map.Views.{list_any-from_Contains}
use Rattle.zq_base.specs.declared.ids.PairId.{PairId}
use Rattle.spec_pattern.specs.PipeStep.{same_pipe}
use Rattle.any_sock.specs.Over.{over, peer_places, partner_places, left_of, nothing_left}
use Rattle.any_sock.specs.Peers.{heard_places, CanName, DetachedOver, TakenBackOver, left_without}
use Rattle.any_sock.specs.Told.{IsToldByPeers}
use Rattle.any_sock.specs.declared.any_sock.AnySock.{AnySock}
use Rattle.sock_core.specs.Patterns.{IsAlike, DetachesAs, CameBy}
use Rattle.sock_core.proofs.PeerLemmas.{all_of}

pub detaches_as : (pair : PairId) (place : ℕ) (s s' : AnySock) → IsToldByPeers s → DetachedOver pair place s s' → DetachesAs over pair place (peer_places s) s s'
detaches_as pair place s s' told gone = λ ends one. gone.detaches ends (record {
  known = one.known;
  pair_is = one.pair_is;
  apart = one.apart;
  partner = All-weaker (Contains (peer_places s)) (λ k. same_pipe (ends place) (ends k) ≡ nat_eq place k)
      (λ k there. one.apart place k one.known (list_any-from_Contains nat_eq_equiv k (peer_places s) there)) (partner_places s) told.partner;
})

pub undoes_as : (place : ℕ) (before s s' : AnySock) → TakenBackOver place s s' → CameBy over CanName IsToldByPeers peer_places place before s → IsAlike over before s'
undoes_as place before s s' back came =
    let P = λ (k : ℕ). nat_eq place k ≡ false in
    let was = back.undone before (record {
      no_place = record {
        peers = came.no_peer;
        partner = all_of P (peer_places before) (partner_places before) came.is_sound.partner came.no_peer;
        heard = all_of P (peer_places before) (heard_places before) came.is_sound.heard came.no_peer;
      };
      identity = came.identity;
      can_name = came.can_name;
      attached = came.attached;
    }) in
    was.state_is

-- nothing is left without the end, where nothing was
pub without_rests : (place : ℕ) (s s' : AnySock) → left_of s' ≡ left_without place (left_of s) → left_of s ≡ nothing_left → left_of s' ≡ nothing_left
without_rests place s s' gone rests = gone ∙ ap (left_without place) rests
