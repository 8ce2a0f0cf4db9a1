use Rattle.std.proofs.Common.{◌≡◌, ◌<◌, length, List, ℕ, Some, sym, subst, rules}
use Rattle.std.specs.Prelude.{slice_get}
use Rattle.std.proofs.lemmas.Map.Iter.{iter_turn}
use Rattle.spec_pattern.specs.Topics.{IsTopic}
use Rattle.spec_link.proofs.ShortLemmas.{short_at}
use Rattle.spec_link.proofs.again.adds_of.Goals as goal

pub add_of-requires : goal.add_of-requires
add_of-requires c =
    let at : (length c.topics.yielded < length c.args.topics.now.keys) × (slice_get c.args.topics.now.keys (length c.topics.yielded) ≡ Some c.in-Some.topic.now) = search (rules, iter_turn) in
    subst (λ (t : List ℕ). IsTopic t) (sym c.as_slice.ensures.value) (short_at c.args.topics.now.keys (length c.topics.yielded) c.in-Some.topic.now c.requires at.1)
