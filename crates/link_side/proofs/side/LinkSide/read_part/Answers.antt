use Rattle.std.proofs.Common.{refl, sym}
use Rattle.link_side.specs.declared.behind.Behind.TheVariants.{Nothing}
use Rattle.link_side.specs.WireView.{kept}
use Rattle.link_side.proofs.PartLemmas.{on_err, reads_run, acts_alive, wants_run, side_reads, side_wants, octets_rest, octets_unsaid, none_unsaid}
use Rattle.link_side.proofs.side.LinkSide.read_part.Goals as goal

pub invariant_of-self : goal.invariant_of-self
invariant_of-self g c = record {
  sound = c.read_part.ensures.sound;
  alive = acts_alive (kept c.self.inside.wire) (kept c.read_part.new.self) (wants_run _ (kept c.self.inside.wire) (kept c.read_part.new.self) _ _ _ (c.in_err-done.ensures.err).2) c.self.invariant.alive;
  rest = λ e. octets_rest _ e;
  unsaid = λ m e. octets_unsaid m _ e;
}

pub returns-in_err-done-clause-err : goal.returns-in_err-done-clause-err
returns-in_err-done-clause-err g c =
    let k = c.in_err-done.ensures.err in
    on_err c.from_residual.result _ (k.0, k.1, side_wants c.args.self.now (kept c.self.inside.wire) (kept c.read_part.new.self) c.self.inside.behind _ _ _ (sym c.self.view_is) c.self.invariant.rest k.2)

pub invariant_of-self-2 : goal.invariant_of-self-2
invariant_of-self-2 g c = record {
  sound = c.read_part.ensures.sound;
  alive = acts_alive (kept c.self.inside.wire) (kept c.read_part.new.self) (reads_run g.P.Pipes.known _ (kept c.self.inside.wire) (kept c.read_part.new.self) c.in_ok-done.done _ _ _ _ _ _ c.in_ok-done.ensures.ok) c.self.invariant.alive;
  rest = λ _. c.in_ok-done.ensures.rest;
  unsaid = λ m e. none_unsaid Nothing m _ refl e;
}

pub returns-clause-ok : goal.returns-clause-ok
returns-clause-ok g c =
    side_reads g.P.Pipes.known c.args.self.now (kept c.self.inside.wire) (kept c.read_part.new.self) c.self.inside.behind c.in_ok-done.done _ _ _ _ _ _ (sym c.self.view_is) c.self.invariant.rest c.in_ok-done.ensures.ok

pub returns-clause-others : goal.returns-clause-others
returns-clause-others g c = c.read_part.ensures.others

pub returns-in_err-done-clause-others : goal.returns-in_err-done-clause-others
returns-in_err-done-clause-others g c = c.read_part.ensures.others

pub returns-clause-counts : goal.returns-clause-counts
returns-clause-counts g c = c.in_ok-done.ensures.counts
