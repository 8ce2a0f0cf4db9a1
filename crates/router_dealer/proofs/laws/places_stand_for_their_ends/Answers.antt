use Rattle.std.proofs.Common.{map, refl}
use Rattle.router_dealer.proofs.LawLemmas.{attaches_the_end, detaches_the_end}
use Rattle.router_dealer.proofs.laws.places_stand_for_their_ends.Goals as goal

pub returns : goal.returns
returns c = record {
  attaches = attaches_the_end;
  detaches = detaches_the_end;
  sends = λ ends can_write m r steps answer sent. (sent, refl);
  receives = λ ends r steps answer turns got. (refl, (map ends turns, got, refl));
}
