use Rattle.std.proofs.Common.{◌++◌, subst, sym, ◌∙◌}
use Rattle.spec_link.specs.Parts.{write_acts}
use Rattle.link_side.specs.Kept.{Side}
use Rattle.link_side.specs.Says.{TakesBy, done_acts}
use Rattle.link_side.specs.WireView.{kept}
use Rattle.link_side.proofs.PartLemmas.{acts_alive, some_pipe}
use Rattle.link_side.proofs.SayLemmas.{left_item}
use Rattle.link_side.proofs.side.LinkSide.take_part.Goals as goal

pub invariant_of-self : goal.invariant_of-self
invariant_of-self g c =
    let k = c.look_part-looked.ensures.looks in
    let found = c.look_part-looked.result.found in
    record {
      sound = c.look_part-looked.ensures.sound;
      alive = acts_alive (kept c.self.inside.wire) (kept c.look_part-looked.new.self) (write_acts c.look_part-looked.result.put k.octets ++ done_acts some_pipe found, k.run some_pipe) c.self.invariant.alive;
      rest = λ _. c.look_part-looked.ensures.rest;
      unsaid = λ m e. (c.look_part-looked.ensures.rest, c.look_part-looked.ensures.idle m (left_item found m (sym c.behind_by.ensures ∙ e)));
    }

pub returns-clause-takes : goal.returns-clause-takes
returns-clause-takes g c =
    let k = c.look_part-looked.ensures.looks in
    subst (λ (x : Side). TakesBy g.P.Pipes.known x.kept (record { put = c.look_part-looked.result.put; look = c.look_of-look.result }) (record { kept = kept c.look_part-looked.new.self; behind = c.behind_by.result }) (g.L.Link.said c.args.link.now) (g.L.Link.said c.look_part-looked.new.link) c.args.pipes.now c.args.input.now c.look_part-looked.new.pipes c.look_part-looked.new.input) c.self.view_is (record {
      octets = k.octets;
      found = c.look_part-looked.result.found;
      fits = k.fits;
      told = k.told;
      look = c.look_of-look.ensures;
      took = k.took;
      left = c.behind_by.ensures;
      run = k.run;
      part = k.part;
    })
