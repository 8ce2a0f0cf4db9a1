use Rattle.std.proofs.Common.{refl, sym, subst}
use Rattle.spec_link.specs.Parts.{read_acts}
use Rattle.link_side.specs.declared.behind.Behind.TheVariants.{Nothing}
use Rattle.link_side.specs.Kept.{Side}
use Rattle.link_side.specs.Silent.{HearsBy}
use Rattle.link_side.specs.WireView.{kept}
use Rattle.link_side.proofs.PartLemmas.{on_err, acts_alive, wants_run, side_wants, octets_rest, octets_unsaid, none_unsaid}
use Rattle.link_side.proofs.side.LinkSide.read_only.Goals as goal

pub invariant_of-self : goal.invariant_of-self
invariant_of-self g c = record {
  sound = c.read_only.ensures.sound;
  alive = acts_alive (kept c.self.inside.wire) (kept c.read_only.new.self) (wants_run _ (kept c.self.inside.wire) (kept c.read_only.new.self) _ _ _ c.in_err-got.ensures.err) c.self.invariant.alive;
  rest = λ e. octets_rest _ e;
  unsaid = λ m e. octets_unsaid m _ e;
}

pub returns-in_err-got-clause-err : goal.returns-in_err-got-clause-err
returns-in_err-got-clause-err g c =
    on_err c.from_residual.result _ (side_wants c.args.self.now (kept c.self.inside.wire) (kept c.read_only.new.self) c.self.inside.behind _ _ _ (sym c.self.view_is) c.self.invariant.rest c.in_err-got.ensures.err)

pub invariant_of-self-2 : goal.invariant_of-self-2
invariant_of-self-2 g c =
    let r = c.in_ok-got.ensures.ok in
    record {
      sound = c.read_only.ensures.sound;
      alive = acts_alive (kept c.self.inside.wire) (kept c.read_only.new.self) (read_acts c.in_ok-got.got r.octets, r.run) c.self.invariant.alive;
      rest = λ _. c.in_ok-got.ensures.rest;
      unsaid = λ m e. none_unsaid Nothing m _ refl e;
    }

pub returns-clause-ok : goal.returns-clause-ok
returns-clause-ok g c =
    subst (λ (x : Side). HearsBy x.kept c.in_ok-got.got (kept c.read_only.new.self) (g.L.Link.heard c.args.link.now) (g.L.Link.heard c.read_only.new.link)) c.self.view_is c.in_ok-got.ensures.ok

pub returns-clause-others : goal.returns-clause-others
returns-clause-others g c = c.read_only.ensures.others

pub returns-in_err-got-clause-others : goal.returns-in_err-got-clause-others
returns-in_err-got-clause-others g c = c.read_only.ensures.others

pub returns-clause-counts : goal.returns-clause-counts
returns-clause-counts g c = c.in_ok-got.ensures.counts
