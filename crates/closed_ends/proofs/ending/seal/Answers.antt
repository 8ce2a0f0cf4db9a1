use Rattle.std.proofs.Common.{refl, sym, subst}
use Rattle.msg_pipe.specs.Known.{IsThere}
use Rattle.closed_ends.specs.Placing.{place_given}
use Rattle.closed_ends.proofs.OnceLemmas.{once_again, once_sealed}
use Rattle.closed_ends.proofs.ending.seal.Goals as goal

pub returns-then-end-clause-changes : goal.returns-then-end-clause-changes
returns-then-end-clause-changes g c =
    once_again g.P.Pipes.known (place_given g.P.Pipes.known.in_name c.args.end.now) refl c.requires.writes c.args.did.now.items c.and.result.items c.args.pipes.now c.args.pipes.now c.args.end.now.sealed c.if-end.true refl c.and.ensures

pub returns-in-Some-clause-changes : goal.returns-in-Some-clause-changes
returns-in-Some-clause-changes g c =
    once_sealed g.P.Pipes.known (place_given g.P.Pipes.known.in_name c.args.end.now) refl c.requires.writes c.args.did.now.items c.seal_noted.new.did.items c.args.pipes.now c.seal_noted.new.pipes c.args.end.now.sealed c.in-Some.out c.seal_noted.new.out c.if-end.false c.seal_noted.ensures.noted
    (c.requires.given.out_is c.in-Some.out c.in-Some.is) (subst (IsThere g.P.Pipes.known c.args.pipes.now) (sym (c.requires.given.out_is c.in-Some.out c.in-Some.is)) (c.requires.given.written_there c.in-Some.out c.in-Some.is)) (c.requires.given.unsealed c.in-Some.out c.in-Some.is c.if-end.false) c.seal_noted.ensures.seals c.seal_noted.ensures.keeps
