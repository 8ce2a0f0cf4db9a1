-- The worked examples.
use Rattle.std.proofs.Common.{◌≡◌, ℕ, [], ◌∷◌, Option, Some, None, codes, inl, inr, refl, ap, arith}
use Rattle.std.specs.Fmt.{digits}
use Rattle.hex.specs.Hex.{encode_with}
use Rattle.spec_run.specs.PartText.{parts_text}
use Rattle.spec_run.specs.Turn.{IsOrder}
use Rattle.spec_run.specs.TextParts.{end_a}
use Rattle.spec_run.specs.Examples.{four_workers, parts_example, Texts, Orders, WorkedExamples}
use Rattle.spec_run.proofs.ExamplePipes.{pipes}
use Rattle.spec_run.proofs.ExamplePeers.{peers, routers}
use Rattle.spec_run.proofs.ExampleDrops.{drops}
use Rattle.spec_run.proofs.ExampleTopics.{topics}

parts_printed : parts_text parts_example ≡ codes " - a~ 0x2d 0x30783631 0x612062"
unfolding encode_with
parts_printed = refl

texts : Texts
unfolding digits
texts = record {
  object = refl;
  pair = refl;
  waits = refl;
  got = refl;
  again = refl;
  busy = refl;
  copies = refl;
  parts = parts_printed;
  drops = refl;
  pipe = refl;
}

not_in_script_order : (after : ℕ) → IsOrder 1 1 four_workers four_workers after → ⊥
not_in_script_order after (inl same) = omega (arith, same.0)
not_in_script_order after (inr drawn) = let two : 2 ≡ 0 = ap number (drawn.1.0) in omega (arith, two)
  where
    number : Option ℕ → ℕ
    number None = 0
    number (Some n) = n

orders : Orders
orders = record {
  seed_1 = inr (λ e. omega (arith, e), (refl, (refl, (refl, (refl, (refl, refl))))));
  seed_0 = inl (refl, refl, refl);
  not_in_script_order = not_in_script_order;
  tried_twice = refl;
  tried_again = refl;
  got_at_once = refl;
  next_end = record { before = end_a 1 ∷ []; peer = end_a 2; after = end_a 3 ∷ []; turns_are = refl; open_is = refl; steps_are = refl; to_is = refl; new_is = refl };
}

pub examples : WorkedExamples
examples = record { texts = texts; pipes = pipes; peers = peers; orders = orders; drops = drops; routers = routers; topics = topics }
