use Rattle.std.proofs.Common.{[], refl, subst}
use Rattle.link_side.specs.declared.behind.Behind.TheVariants.{Nothing}
use Rattle.link_side.specs.Kept.{Side, Acts}
use Rattle.link_side.specs.WireView.{kept}
use Rattle.link_side.proofs.PartLemmas.{acts_alive, octets_rest, octets_unsaid, none_unsaid}
use Rattle.link_side.proofs.side.LinkSide.catch_up.Goals as goal

pub invariant_of-self : goal.invariant_of-self
invariant_of-self c = record {
  sound = c.catch_up.ensures.sound;
  alive = acts_alive (kept c.self.inside.wire) (kept c.catch_up.new.self) ([], c.catch_up.ensures.run) c.self.invariant.alive;
  rest = λ e. octets_rest _ e;
  unsaid = λ m e. octets_unsaid m _ e;
}

pub invariant_of-self-2 : goal.invariant_of-self-2
invariant_of-self-2 c = record {
  sound = c.catch_up.ensures.sound;
  alive = acts_alive (kept c.self.inside.wire) (kept c.catch_up.new.self) ([], c.catch_up.ensures.run) c.self.invariant.alive;
  rest = λ _. c.in_ok-catch_up.ensures.rest;
  unsaid = λ m e. none_unsaid Nothing m _ refl e;
}

pub returns-clause-run : goal.returns-clause-run
returns-clause-run c =
    subst (λ (x : Side). Acts x.kept [] (kept c.catch_up.new.self)) c.self.view_is c.catch_up.ensures.run

pub returns-in_err-catch_up-clause-run : goal.returns-in_err-catch_up-clause-run
returns-in_err-catch_up-clause-run c =
    subst (λ (x : Side). Acts x.kept [] (kept c.catch_up.new.self)) c.self.view_is c.catch_up.ensures.run
