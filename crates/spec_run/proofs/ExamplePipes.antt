-- The worked examples of a PUSH, a PULL and the pipe between them.
use Rattle.std.proofs.Common.{◌≡◌, ℕ, [], ◌∷◌, Option, Some, inl, refl, ap, arith}
use Rattle.zq_base.specs.Message.{Frames}
use Rattle.spec_pattern.specs.PipeStep.{EmptyLook}
use Rattle.spec_run.specs.TextParts.{end_a, end_b}
use Rattle.spec_run.specs.ExamplesPipes.{Pipes}

abbrev first_octet : Option Frames → ℕ
first_octet (Some ((octet ∷ octets) ∷ parts)) = octet
first_octet o = 0

pub pipes : Pipes
pipes = record {
  sends = (end_a 1 ∷ [], record { before = []; peer = end_a 1; after = []; turns_are = refl; open_is = refl; steps_are = refl; to_is = refl; new_is = refl }, refl);
  finds_full = (end_a 1 ∷ [], (refl, record { steps_are = refl; new_is = refl }), refl);
  receives = (refl, (end_b 1 ∷ [], record { before = []; peer = end_b 1; after = []; looks = []; turns_are = refl; looks_are = refl; steps_are = refl; from_is = refl; new_is = refl }, refl));
  finds_empty = (refl, (end_b 1 ∷ [], (refl, record { looks_are = (EmptyLook (end_a 1), [], refl, inl refl, refl); new_is = refl }), refl));
  narrow = ((omega arith, omega arith, refl), ((omega arith, omega arith, refl), (inl refl, (refl, ((omega arith, omega arith, refl), tt)))));
  no_room = λ exact. omega (arith, exact.1.1.0.0);
  not_empty = λ exact. omega (arith, exact.1.0.0);
  not_the_oldest = λ exact. let same : 97 ≡ 98 = ap first_octet exact.1.1.0 in omega (arith, same);
}
