-- What the fields of a body stand for.
use Rattle.std.specs.Prelude.{ℕ, List, option_map, unwrap_or}
use Rattle.zmtp_engine.specs.declared.body.Body.TheInside.{Inside}

-- the octets in its own place, where it has one, or else those in the block
abbrev pub octets_of : Inside → List ℕ
octets_of b = unwrap_or (option_map (λ v. v.items) b.own) b.block.items
