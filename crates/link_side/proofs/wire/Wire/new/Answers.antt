use Rattle.std.proofs.Common.{None, [], refl, arith}
use Rattle.link_side.specs.declared.wire.Wire.{Wire}
use Rattle.link_side.specs.WireView.{kept}
use Rattle.link_side.proofs.KeptLemmas.{unfed_none}
use Rattle.link_side.proofs.RestLemmas.{rest_new}
use Rattle.link_side.proofs.wire.Wire.new.Goals as goal

pub returns-clause-rest : goal.returns-clause-rest
returns-clause-rest c =
    let w : Wire = record { engine = c.in_ok-engine.engine; octets = c.in_ok-octets.octets; fed = 0; read = 0; held = None; through = 0 } in
    rest_new c.args.opts (kept w) (unfed_none w.octets.items 0 0 refl) c.in_ok-engine.ensures.follows c.in_ok-engine.ensures.current

pub new-requires : goal.new-requires
new-requires c = record { opts = c.requires.opts }

pub returns-clause-run : goal.returns-clause-run
returns-clause-run c = record {
  heard = [];
  split = unfed_none c.in_ok-octets.octets.items 0 0 refl;
  put = [];
  offered = refl;
  through_is = omega arith;
  follows = c.in_ok-engine.ensures.follows;
}
