-- What a publisher hears comes from its peers (own choice).
use Rattle.std.specs.Prelude.{◌≡◌, ℕ, true, IfSome}
use Rattle.std.specs.Map.{keys_of}
use Rattle.pub_sub.specs.Places.{is_place}
use Rattle.pub_sub.specs.Publishers.{PubState}

-- each place that is heard, and that of what is kept, is one of the peers'
pub record AreKnown (p : PubState) : Type 0 where
  pub ins : (q : ℕ) → is_place p.ins q ≡ true → is_place (keys_of p.subs) q ≡ true
  pub kept : IfSome p.kept (λ k. is_place (keys_of p.subs) k.0 ≡ true)
