use Rattle.std.specs.Prelude.{◌≡◌, [], true, None, Some, refl}
use Rattle.spec_control.specs.declared.end.EndCommands.{EndCommands}
use Rattle.desk.specs.declared.load.Load.TheVariants.{Writer}
use Rattle.ctl_moves.specs.Turning.{yields, needs_writer, seals_for, Turned, GivesFor}
use Rattle.ctl_moves.proofs.GiveLemmas.{by_either, seals_one}
use Rattle.ctl_moves.proofs.TurnLemmas.{keeps_same, seals_none, turned_not, turned_yielded}
use Rattle.ctl_moves.proofs.turning.give_for.Goals as goal

pub returns-in-Nothing-clause-given : goal.returns-in-Nothing-clause-given
returns-in-Nothing-clause-given g c =
    by_either (λ (x : EndCommands). GivesFor g.P.Pipes.known.out_name g.P.Pipes.known.in_name x c.args.o.0 c.args.e None (g.H.Holder.holding c.args.holder.now)) c.in-Nothing.is refl refl

pub returns-in-Nothing-clause-turned : goal.returns-in-Nothing-clause-turned
returns-in-Nothing-clause-turned g c =
    by_either (λ (x : EndCommands). Turned c.args.o.0 c.args.e (yields x) (g.H.Holder.holding c.args.holder.now) (g.H.Holder.holding c.args.holder.now)) c.in-Nothing.is (turned_not c.args.o.0 c.args.e (g.H.Holder.holding c.args.holder.now)) (turned_not c.args.o.0 c.args.e (g.H.Holder.holding c.args.holder.now))

pub returns-in-Nothing-clause-seals : goal.returns-in-Nothing-clause-seals
returns-in-Nothing-clause-seals g c =
    seals_none c.args.commands c.args.e (g.H.Holder.holding c.args.holder.now) (g.H.Holder.holding c.args.holder.now) (by_either (λ (x : EndCommands). seals_for x c.args.e ≡ []) c.in-Nothing.is refl refl) (keeps_same (g.H.Holder.holding c.args.holder.now))

pub returns-in-Nothing-clause-counts : goal.returns-in-Nothing-clause-counts
returns-in-Nothing-clause-counts g c =
    λ none writer is. refl

pub returns-in-TermAndSeal-clause-seals : goal.returns-in-TermAndSeal-clause-seals
returns-in-TermAndSeal-clause-seals g c =
    seals_one _ _ _ c.args.commands c.in-TermAndSeal.is assumption

pub yield_writer-requires-clause-writer : goal.yield_writer-requires-clause-writer
yield_writer-requires-clause-writer g c =
    c.requires.writer (by_either (λ (x : EndCommands). needs_writer x ≡ true) c.in-Ack.is refl refl)

pub yield_writer-requires-clause-out : goal.yield_writer-requires-clause-out
yield_writer-requires-clause-out g c =
    c.requires.out (by_either (λ (x : EndCommands). yields x ≡ true) c.in-Ack.is refl refl)

pub returns-in-Ack-clause-given : goal.returns-in-Ack-clause-given
returns-in-Ack-clause-given g c =
    by_either (λ (x : EndCommands). GivesFor g.P.Pipes.known.out_name g.P.Pipes.known.in_name x c.args.o.0 c.args.e (Some (Writer c.yield_writer.result)) (g.H.Holder.holding c.args.holder.now)) c.in-Ack.is (record { half = c.yield_writer.result; given = refl; name = c.yield_writer.ensures.name }) (record { half = c.yield_writer.result; given = refl; name = c.yield_writer.ensures.name })

pub returns-in-Ack-clause-turned : goal.returns-in-Ack-clause-turned
returns-in-Ack-clause-turned g c =
    by_either (λ (x : EndCommands). Turned c.args.o.0 c.args.e (yields x) (g.H.Holder.holding c.args.holder.now) (g.H.Holder.holding c.yield_writer.new.self)) c.in-Ack.is (turned_yielded c.args.o.0 c.args.e (g.H.Holder.holding c.args.holder.now) (g.H.Holder.holding c.yield_writer.new.self) c.yield_writer.ensures.yielded) (turned_yielded c.args.o.0 c.args.e (g.H.Holder.holding c.args.holder.now) (g.H.Holder.holding c.yield_writer.new.self) c.yield_writer.ensures.yielded)

pub returns-in-Ack-clause-seals : goal.returns-in-Ack-clause-seals
returns-in-Ack-clause-seals g c =
    seals_none c.args.commands c.args.e (g.H.Holder.holding c.args.holder.now) (g.H.Holder.holding c.yield_writer.new.self) (by_either (λ (x : EndCommands). seals_for x c.args.e ≡ []) c.in-Ack.is refl refl) c.yield_writer.ensures.turns

pub returns-in-Ack-clause-counts : goal.returns-in-Ack-clause-counts
returns-in-Ack-clause-counts g c =
    λ none. c.yield_writer.ensures.counts

pub returns-in-Ack-clause-heard : goal.returns-in-Ack-clause-heard
returns-in-Ack-clause-heard g c =
    c.yield_writer.ensures.heard
