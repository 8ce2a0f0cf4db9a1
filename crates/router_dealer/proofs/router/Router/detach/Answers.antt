use Rattle.std.proofs.Common.{refl}
use Rattle.router_dealer.specs.Named.{RouterState}
use Rattle.router_dealer.specs.NameTable.{state_of}
use Rattle.router_dealer.specs.contracts.router.Router.{the_view}
use Rattle.router_dealer.proofs.RouterLemmas.{IsRouter-left, HasRoom-left}
use Rattle.router_dealer.proofs.router.Router.detach.Goals as goal

pub invariant_of-self : goal.invariant_of-self
invariant_of-self c =
    let r : RouterState = the_view c.self.inside in
    let r' : RouterState = state_of c.remove.new.self c.forget.new.self c.self.inside.drawn c.self.inside.mandatory c.self.inside.held.kept in
    record {
      router = IsRouter-left r r' c.args.place c.self.invariant.router c.forget.ensures.without c.remove.ensures refl c.forget.ensures.sound;
      has_room = HasRoom-left r r' c.args.place c.self.invariant.router c.forget.ensures.without c.self.inside.held.room c.self.invariant.has_room;
      no_frames = c.self.invariant.no_frames;
    }
