use Rattle.std.proofs.Common.{◌+◌, ◌<◌, ◌++◌, ◌∷◌, [], ℕ, take, length, subst, sym, ap, ◌∙◌, arith}
use Rattle.std.proofs.lemmas.List.{take_more}
use Rattle.fair_queue.specs.Looks.{GivesNothingAt}
use Rattle.msg_pipe.proofs.PlacesLemmas.{keeps_on}
use Rattle.fair_queue.proofs.LooksLemmas.{GivesNothing-more}
use Rattle.fair_queue.proofs.look.first_in.Goals as goal

pub looks-preserved : goal.looks-preserved
looks-preserved g c =
    let inv = c.looks.invariant in
    let i = c.looks.i in
    let places = c.args.places.now in
    let within : i < length places = omega arith in
    let place : ℕ = c.at.result in
    let one : GivesNothingAt g.E.Peers.runs (g.E.Peers.end_at c.args.peers.now place) c.looks.peers c.look.new.peers =
    subst (λ ends. GivesNothingAt g.E.Peers.runs (ends place) c.looks.peers c.look.new.peers) inv.keeps.ends c.in-None.ensures.looks in
    record {
      looks = GivesNothing-more g.E.Peers.runs g.met.E.Peers.runs_on (g.E.Peers.end_at c.args.peers.now)
          c.args.peers.now c.looks.peers c.look.new.peers (take i places) (take (i + 1) places) place inv.looks one
          (take_more places i 0 within ∙ ap (λ k. take i places ++ k ∷ []) (sym c.at.ensures));
      keeps = keeps_on g.E.Peers.here g.E.Peers.end_at g.E.Peers.writable c.args.peers.now c.looks.peers c.look.new.peers inv.keeps c.look.ensures.keeps;
    }

pub returns-in-Some-clause-whole : goal.returns-in-Some-clause-whole
returns-in-Some-clause-whole g c = c.in-Some.ensures.whole

pub returns-in-Some-clause-keeps : goal.returns-in-Some-clause-keeps
returns-in-Some-clause-keeps g c = keeps_on g.E.Peers.here g.E.Peers.end_at g.E.Peers.writable c.args.peers.now c.looks.peers c.look.new.peers c.looks.invariant.keeps c.look.ensures.keeps

pub returns-clause-keeps : goal.returns-clause-keeps
returns-clause-keeps g c = c.looks.invariant.keeps
