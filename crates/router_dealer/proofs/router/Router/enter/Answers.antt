use Rattle.std.proofs.Common.{◌≡◌, None, refl, ap, ◌∙◌, arith}
use Rattle.router_dealer.specs.PlaceNames.{place_named}
use Rattle.router_dealer.specs.Named.{RouterState}
use Rattle.router_dealer.specs.NameTable.{state_of}
use Rattle.router_dealer.specs.contracts.router.Router.{the_view}
use Rattle.router_dealer.proofs.RouterLemmas.{IsRouter-entered, HasRoom-entered, same_state, IsReady-same}
use Rattle.router_dealer.proofs.router.Router.enter.Goals as goal

pub invariant_of-self-in-Ok : goal.invariant_of-self-in-Ok
invariant_of-self-in-Ok c =
    let r : RouterState = the_view c.self.inside in
    let r' : RouterState = state_of c.add.new.self c.give.new.self c.args.drawn c.self.inside.mandatory c.reserve.new.self.kept in
    let name = c.args.name.now in
    let free : place_named r.names name ≡ None = ap (λ (s : RouterState). place_named s.names name) c.self.view_is ∙ c.requires.free in
    let more = c.requires.more in
    let drawn_is = ap (λ (s : RouterState). s.drawn) c.self.view_is in
    record {
      router = IsRouter-entered r r' name c.args.place c.self.invariant.router free c.in-Ok.ensures.ok c.in_ok-add.ensures.ok (omega (arith, more, drawn_is)) c.requires.kind c.in-Ok.ensures.sound;
      has_room = HasRoom-entered r r' name c.args.place c.self.invariant.router free c.in-Ok.ensures.ok c.self.inside.held.room c.reserve.new.self.room c.self.invariant.has_room c.in_ok-reserve.ensures.room c.in_ok-reserve.ensures.ok;
      no_frames = c.self.invariant.no_frames;
    }

pub invariant_of-self-in-Err : goal.invariant_of-self-in-Err
invariant_of-self-in-Err c =
    let place = c.args.place in
    let r : RouterState = the_view c.self.inside in
    let r' : RouterState = state_of c.take_back.new.self c.give.new.self c.self.inside.drawn c.self.inside.mandatory c.reserve.new.self.kept in
    IsReady-same r r' c.self.inside.held.room c.reserve.new.self.room c.self.inside.back.items c.self.invariant
    (c.take_back.ensures r.ins place c.in_ok-add.ensures.ok)
    c.in-Err.ensures.err refl c.in_ok-reserve.ensures.room

pub returns-in-Err-clause-err : goal.returns-in-Err-clause-err
returns-in-Err-clause-err c =
    let place = c.args.place in
    let r : RouterState = the_view c.self.inside in
    let r' : RouterState = state_of c.take_back.new.self c.give.new.self c.self.inside.drawn c.self.inside.mandatory c.reserve.new.self.kept in
    same_state r r'
    (c.take_back.ensures r.ins place c.in_ok-add.ensures.ok)
    c.in-Err.ensures.err refl refl c.in_ok-reserve.ensures.kept
    ∙ c.self.view_is
