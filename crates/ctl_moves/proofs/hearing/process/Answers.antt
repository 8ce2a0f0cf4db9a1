use Rattle.std.specs.Prelude.{Bool, List, Option, map}
use Rattle.std.proofs.Common.{ap, ◌∙◌, subst, sym}
use Rattle.spec_control.specs.declared.entry.Joining.{Joining}
use Rattle.desk.specs.declared.given.Parting.{Parting}
use Rattle.desk.specs.Holding.{given_as, held_given}
use Rattle.desk.specs.TakingOver.{ComeApart}
use Rattle.desk.specs.Load.{brings_ends, given_by}
use Rattle.ctl_moves.specs.Reaping.{ReapsAt}
use Rattle.spec_control.specs.declared.letter.Word.{Word}
use Rattle.desk.specs.declared.load.Load.{Load}
use Rattle.ctl_moves.specs.Processing.{HasCounts, HasJoined, HearsEnd, is_plug}
use Rattle.ctl_moves.specs.Plugging.{MayPlug}
use Rattle.desk.specs.Output.{has_left}
use Rattle.ctl_moves.proofs.HearLemmas.{bare_of, bare_may}
use Rattle.control_laws.proofs.ListLemmas.{never}
use Rattle.zq_base.specs.declared.ids.EndId.{EndId}
use Rattle.desk.specs.Counts.{IsCounted}
use Rattle.ctl_moves.specs.Attaching.{binds_end}
use Rattle.ctl_moves.specs.Processing.{is_bare}
use Rattle.ctl_moves.proofs.SettledLemmas.{ack_processed, one_acked}
use Rattle.ctl_moves.proofs.CameLemmas.{acked_came, bind_came, reap_came}
use Rattle.ctl_moves.proofs.ToldLemmas.{acked_told, reap_told}
use Rattle.ctl_moves.proofs.BindingLemmas.{bind_processed, bind_told}
use Rattle.ctl_moves.proofs.PlugLemmas.{plug_came, plug_processed, plug_told}
use Rattle.ctl_moves.proofs.TakeOverLemmas.{parting_brought, reap_processed, same_parting}
use Rattle.ctl_moves.proofs.hearing.process.Goals as goal

pub returns-in-Own-clause-heard : goal.returns-in-Own-clause-heard
returns-in-Own-clause-heard g c = λ w.
    (c.hear_bare-left.ensures c.with_left.result c.with_left.ensures (bare_may g.P.Pipes.known.out_name g.P.Pipes.known.in_name c.args.state.now (g.H.Holder.holding c.args.holder.now) c.args.letter.now c.args.load (bare_of c.args.letter.now.word c.in-Own.is) w)).0

pub returns-in-Own-clause-turned : goal.returns-in-Own-clause-turned
returns-in-Own-clause-turned g c = λ w.
    (c.hear_bare-left.ensures c.with_left.result c.with_left.ensures (bare_may g.P.Pipes.known.out_name g.P.Pipes.known.in_name c.args.state.now (g.H.Holder.holding c.args.holder.now) c.args.letter.now c.args.load (bare_of c.args.letter.now.word c.in-Own.is) w)).1

pub returns-in-Own-clause-joins : goal.returns-in-Own-clause-joins
returns-in-Own-clause-joins g c = λ w.
    (c.hear_bare-left.ensures c.with_left.result c.with_left.ensures (bare_may g.P.Pipes.known.out_name g.P.Pipes.known.in_name c.args.state.now (g.H.Holder.holding c.args.holder.now) c.args.letter.now c.args.load (bare_of c.args.letter.now.word c.in-Own.is) w)).2

pub acknowledged-counts-requires-clause-may : goal.acknowledged-counts-requires-clause-may
acknowledged-counts-requires-clause-may g c =
    let w = c.requires.may in
    record {
      control = w.control;
      names = w.names;
      stands = w.stands;
      has = w.has;
      comes = subst (λ (x : Word). HearsEnd g.P.Pipes.known.out_name g.P.Pipes.known.in_name w.names w.control c.args.state.now (g.H.Holder.holding c.args.holder.now) c.args.letter.now.to.0 x c.args.load) c.in-PipeTermAck.is w.ends;
    }

pub acknowledged-counts-requires-clause-left : goal.acknowledged-counts-requires-clause-left
acknowledged-counts-requires-clause-left g c = λ w. c.has_left-left.ensures w.control w.stands

pub acknowledged-counts-requires-clause-apart : goal.acknowledged-counts-requires-clause-apart
acknowledged-counts-requires-clause-apart g c = λ writer is. c.requires.apart c.in-PipeTermAck.e writer c.in-PipeTermAck.is is

pub returns-in-PipeTermAck-clause-heard : goal.returns-in-PipeTermAck-clause-heard
returns-in-PipeTermAck-clause-heard g c = λ w.
    ack_processed g.P.Pipes.known.out_name g.P.Pipes.known.in_name c.args.state.now c.acknowledged-counts.new.state (g.H.Holder.holding c.args.holder.now) (g.H.Holder.holding c.acknowledged-counts.new.holder) w.names w.control c.args.letter.now.to c.args.letter.now.word
    c.in-PipeTermAck.e c.acknowledged-counts.result c.with_counts.result c.in-PipeTermAck.is (subst (λ (b : Bool). HasCounts c.acknowledged-counts.result b c.with_counts.result) (c.has_left-left.ensures w.control w.stands) c.with_counts.ensures)
    (c.acknowledged-counts.ensures.acknowledges (record {
      control = w.control;
      names = w.names;
      stands = w.stands;
      has = w.has;
      comes = subst (λ (x : Word). HearsEnd g.P.Pipes.known.out_name g.P.Pipes.known.in_name w.names w.control c.args.state.now (g.H.Holder.holding c.args.holder.now) c.args.letter.now.to.0 x c.args.load) c.in-PipeTermAck.is w.ends;
    }))

pub parting_of-requires : goal.parting_of-requires
parting_of-requires g c =
    let w = c.requires.may in
    let hears = subst (λ (x : Word). HearsEnd g.P.Pipes.known.out_name g.P.Pipes.known.in_name w.names w.control c.args.state.now (g.H.Holder.holding c.args.holder.now) c.args.letter.now.to.0 x c.args.load) c.in-Reap.is w.ends in
    parting_brought c.args.load hears.parting hears.brings

pub take_over-joined-requires-clause-may : goal.take_over-joined-requires-clause-may
take_over-joined-requires-clause-may g c =
    let w = c.requires.may in
    let hears = subst (λ (x : Word). HearsEnd g.P.Pipes.known.out_name g.P.Pipes.known.in_name w.names w.control c.args.state.now (g.H.Holder.holding c.args.holder.now) c.args.letter.now.to.0 x c.args.load) c.in-Reap.is w.ends in
    record {
      control = w.control;
      names = w.names;
      stands = w.stands;
      has = w.has;
      reaps = subst (λ (x : Parting g.row.P-Name.Denot g.row.P-Out.Denot g.row.P-In.Denot). ReapsAt g.P.Pipes.known.out_name g.P.Pipes.known.in_name w.names w.control c.args.state.now (g.H.Holder.holding c.args.holder.now) c.in-Reap.socket.0 x)
          (same_parting c.args.load hears.parting c.parting_of.result hears.brings c.parting_of.ensures) hears.reaps;
    }

pub take_over-joined-requires-clause-reaps : goal.take_over-joined-requires-clause-reaps
take_over-joined-requires-clause-reaps g c = c.requires.reaps (ap brings_ends c.in-Reap.is)

pub take_over-joined-requires-clause-takes : goal.take_over-joined-requires-clause-takes
take_over-joined-requires-clause-takes g c =
    subst (λ (l : Option (Load g.row.P-Name.Denot g.row.P-Out.Denot g.row.P-In.Denot)). g.H.Holder.may_take c.args.holder.now c.in-Reap.socket.0 (given_by l)) c.parting_of.ensures (c.requires.takes c.in-Reap.socket c.in-Reap.is)

pub take_over-joined-requires-clause-apart : goal.take_over-joined-requires-clause-apart
take_over-joined-requires-clause-apart g c =
    subst (λ (l : Option (Load g.row.P-Name.Denot g.row.P-Out.Denot g.row.P-In.Denot)). ComeApart g.P.Pipes.known.exact (map (held_given g.P.Pipes.known.out_name g.P.Pipes.known.in_name) (given_by l)) (g.H.Holder.holding c.args.holder.now)) c.parting_of.ensures
    (c.requires.come (ap brings_ends c.in-Reap.is))

pub returns-in-Reap-clause-heard : goal.returns-in-Reap-clause-heard
returns-in-Reap-clause-heard g c = λ w.
    let hears = subst (λ (x : Word). HearsEnd g.P.Pipes.known.out_name g.P.Pipes.known.in_name w.names w.control c.args.state.now (g.H.Holder.holding c.args.holder.now) c.args.letter.now.to.0 x c.args.load) c.in-Reap.is w.ends in
    let reaps = subst (λ (x : Parting g.row.P-Name.Denot g.row.P-Out.Denot g.row.P-In.Denot). ReapsAt g.P.Pipes.known.out_name g.P.Pipes.known.in_name w.names w.control c.args.state.now (g.H.Holder.holding c.args.holder.now) c.in-Reap.socket.0 x)
    (same_parting c.args.load hears.parting c.parting_of.result hears.brings c.parting_of.ensures) hears.reaps in
    reap_processed g.P.Pipes.known.out_name g.P.Pipes.known.in_name c.args.state.now c.take_over-joined.new.state (g.H.Holder.holding c.args.holder.now) (g.H.Holder.holding c.take_over-joined.new.holder) w.names w.control c.args.letter.now.to c.args.letter.now.word c.in-Reap.socket c.parting_of.result c.with_joined.result c.in-Reap.is
    (subst (λ (js : List (Joining g.row.P-Name.Denot)). HasJoined js c.with_joined.result) c.take_over-joined.ensures.joined c.with_joined.ensures) reaps.ends reaps.all
    (c.take_over-joined.ensures.taken (record { control = w.control; names = w.names; stands = w.stands; has = w.has; reaps = reaps }))

pub returns-in-Reap-clause-brought : goal.returns-in-Reap-clause-brought
returns-in-Reap-clause-brought g c = λ brings.
    let w = c.requires.may in
    let hears = subst (λ (x : Word). HearsEnd g.P.Pipes.known.out_name g.P.Pipes.known.in_name w.names w.control c.args.state.now (g.H.Holder.holding c.args.holder.now) c.args.letter.now.to.0 x c.args.load) c.in-Reap.is w.ends in
    let reaps = subst (λ (x : Parting g.row.P-Name.Denot g.row.P-Out.Denot g.row.P-In.Denot). ReapsAt g.P.Pipes.known.out_name g.P.Pipes.known.in_name w.names w.control c.args.state.now (g.H.Holder.holding c.args.holder.now) c.in-Reap.socket.0 x)
    (same_parting c.args.load hears.parting c.parting_of.result hears.brings c.parting_of.ensures) hears.reaps in
    c.with_joined.ensures.are ∙ c.take_over-joined.ensures.joined ∙ reaps.ends.listed
    ∙ ap (λ (l : Option (Load g.row.P-Name.Denot g.row.P-Out.Denot g.row.P-In.Denot)). map (given_as g.P.Pipes.known.out_name g.P.Pipes.known.in_name) (given_by l)) (sym c.parting_of.ensures)

pub bind_comes-requires-clause-may : goal.bind_comes-requires-clause-may
bind_comes-requires-clause-may g c =
    let w = c.requires.may in
    record {
      control = w.control;
      names = w.names;
      stands = w.stands;
      has = w.has;
      comes = subst (λ (x : Word). HearsEnd g.P.Pipes.known.out_name g.P.Pipes.known.in_name w.names w.control c.args.state.now (g.H.Holder.holding c.args.holder.now) c.args.letter.now.to.0 x c.args.load) c.in-PipeBind.is w.ends;
    }

pub returns-in-Ok-clause-heard : goal.returns-in-Ok-clause-heard
returns-in-Ok-clause-heard g c = λ w.
    let hears = subst (λ (x : Word). HearsEnd g.P.Pipes.known.out_name g.P.Pipes.known.in_name w.names w.control c.args.state.now (g.H.Holder.holding c.args.holder.now) c.args.letter.now.to.0 x c.args.load) c.in-PipeBind.is w.ends in
    bind_processed g.P.Pipes.known.out_name g.P.Pipes.known.in_name c.args.state.now c.bind_comes.new.state (g.H.Holder.holding c.args.holder.now) (g.H.Holder.holding c.bind_comes.new.holder) w.names w.control c.args.letter.now.to c.args.letter.now.word c.in-PipeBind.e _ c.in-Ok.joined c.with_joined-in-Ok.result c.in-PipeBind.is
    c.with_joined-in-Ok.ensures hears.binds
    (c.in-Ok.ensures.ok (record { control = w.control; names = w.names; stands = w.stands; has = w.has; comes = hears }) _ c.in-PipeBind.is)

pub returns-in-PipeTermAck-clause-turned : goal.returns-in-PipeTermAck-clause-turned
returns-in-PipeTermAck-clause-turned g c = λ w.
    acked_told c.args.letter.now.to c.with_counts.result w.control (g.H.Holder.holding c.args.holder.now) (g.H.Holder.holding c.acknowledged-counts.new.holder) c.args.letter.now.word c.in-PipeTermAck.e c.acknowledged-counts.result (has_left w.control c.args.letter.now.to.0 (g.H.Holder.holding c.args.holder.now)) c.in-PipeTermAck.is (subst (λ (b : Bool). HasCounts c.acknowledged-counts.result b c.with_counts.result) (c.has_left-left.ensures w.control w.stands) c.with_counts.ensures)
    (c.acknowledged-counts.ensures.acknowledges (record {
      control = w.control;
      names = w.names;
      stands = w.stands;
      has = w.has;
      comes = subst (λ (x : Word). HearsEnd g.P.Pipes.known.out_name g.P.Pipes.known.in_name w.names w.control c.args.state.now (g.H.Holder.holding c.args.holder.now) c.args.letter.now.to.0 x c.args.load) c.in-PipeTermAck.is w.ends;
    })).turned

pub returns-in-Reap-clause-turned : goal.returns-in-Reap-clause-turned
returns-in-Reap-clause-turned g c = λ w.
    let hears = subst (λ (x : Word). HearsEnd g.P.Pipes.known.out_name g.P.Pipes.known.in_name w.names w.control c.args.state.now (g.H.Holder.holding c.args.holder.now) c.args.letter.now.to.0 x c.args.load) c.in-Reap.is w.ends in
    let reaps = subst (λ (x : Parting g.row.P-Name.Denot g.row.P-Out.Denot g.row.P-In.Denot). ReapsAt g.P.Pipes.known.out_name g.P.Pipes.known.in_name w.names w.control c.args.state.now (g.H.Holder.holding c.args.holder.now) c.in-Reap.socket.0 x)
    (same_parting c.args.load hears.parting c.parting_of.result hears.brings c.parting_of.ensures) hears.reaps in
    let taken = c.take_over-joined.ensures.taken (record { control = w.control; names = w.names; stands = w.stands; has = w.has; reaps = reaps }) in
    reap_told c.args.letter.now.to c.with_joined.result w.control (g.H.Holder.holding c.args.holder.now) (g.H.Holder.holding c.take_over-joined.new.holder) c.args.letter.now.word c.in-Reap.socket c.in-Reap.is taken.turned

pub returns-in-Ok-clause-turned : goal.returns-in-Ok-clause-turned
returns-in-Ok-clause-turned g c = λ w.
    let hears = subst (λ (x : Word). HearsEnd g.P.Pipes.known.out_name g.P.Pipes.known.in_name w.names w.control c.args.state.now (g.H.Holder.holding c.args.holder.now) c.args.letter.now.to.0 x c.args.load) c.in-PipeBind.is w.ends in
    bind_told g.P.Pipes.known.out_name g.P.Pipes.known.in_name c.args.state.now c.bind_comes.new.state (g.H.Holder.holding c.args.holder.now) (g.H.Holder.holding c.bind_comes.new.holder) w.names w.control c.args.letter.now.to c.args.letter.now.word c.in-PipeBind.e _ c.in-Ok.joined c.with_joined-in-Ok.result c.in-PipeBind.is
    c.with_joined-in-Ok.ensures hears.binds
    (c.in-Ok.ensures.ok (record { control = w.control; names = w.names; stands = w.stands; has = w.has; comes = hears }) _ c.in-PipeBind.is)

pub returns-in-PipeTermAck-clause-joins : goal.returns-in-PipeTermAck-clause-joins
returns-in-PipeTermAck-clause-joins g c = λ w.
    let hears = subst (λ (x : Word). HearsEnd g.P.Pipes.known.out_name g.P.Pipes.known.in_name w.names w.control c.args.state.now (g.H.Holder.holding c.args.holder.now) c.args.letter.now.to.0 x c.args.load) c.in-PipeTermAck.is w.ends in
    let done = c.acknowledged-counts.ensures.acknowledges (record { control = w.control; names = w.names; stands = w.stands; has = w.has; comes = hears }) in
    acked_came c.args.letter.now.to c.with_counts.result w.control (g.H.Holder.holding c.args.holder.now) (g.H.Holder.holding c.acknowledged-counts.new.holder) c.args.letter.now.word c.in-PipeTermAck.e c.acknowledged-counts.result (has_left w.control c.args.letter.now.to.0 (g.H.Holder.holding c.args.holder.now)) c.in-PipeTermAck.is (subst (λ (b : Bool). HasCounts c.acknowledged-counts.result b c.with_counts.result) (c.has_left-left.ensures w.control w.stands) c.with_counts.ensures) done.joined done.objects (c.acknowledged-counts.ensures.heard (record { control = w.control; names = w.names; stands = w.stands; has = w.has; comes = hears }))

pub returns-in-Reap-clause-joins : goal.returns-in-Reap-clause-joins
returns-in-Reap-clause-joins g c = λ w.
    let hears = subst (λ (x : Word). HearsEnd g.P.Pipes.known.out_name g.P.Pipes.known.in_name w.names w.control c.args.state.now (g.H.Holder.holding c.args.holder.now) c.args.letter.now.to.0 x c.args.load) c.in-Reap.is w.ends in
    let reaps = subst (λ (x : Parting g.row.P-Name.Denot g.row.P-Out.Denot g.row.P-In.Denot). ReapsAt g.P.Pipes.known.out_name g.P.Pipes.known.in_name w.names w.control c.args.state.now (g.H.Holder.holding c.args.holder.now) c.in-Reap.socket.0 x)
    (same_parting c.args.load hears.parting c.parting_of.result hears.brings c.parting_of.ensures) hears.reaps in
    let taken = c.take_over-joined.ensures.taken (record { control = w.control; names = w.names; stands = w.stands; has = w.has; reaps = reaps }) in
    reap_came c.args.letter.now.to c.with_joined.result w.control (g.H.Holder.holding c.args.holder.now) (g.H.Holder.holding c.take_over-joined.new.holder) c.args.letter.now.word c.in-Reap.socket c.in-Reap.is taken.joined taken.objects c.take_over-joined.ensures.heard

pub returns-in-Ok-clause-joins : goal.returns-in-Ok-clause-joins
returns-in-Ok-clause-joins g c = λ w.
    let hears = subst (λ (x : Word). HearsEnd g.P.Pipes.known.out_name g.P.Pipes.known.in_name w.names w.control c.args.state.now (g.H.Holder.holding c.args.holder.now) c.args.letter.now.to.0 x c.args.load) c.in-PipeBind.is w.ends in
    let done = c.in-Ok.ensures.ok (record { control = w.control; names = w.names; stands = w.stands; has = w.has; comes = hears }) _ c.in-PipeBind.is in
    bind_came c.args.letter.now.to c.with_joined-in-Ok.result w.control (g.H.Holder.holding c.args.holder.now) (g.H.Holder.holding c.bind_comes.new.holder) c.args.letter.now.word c.in-PipeBind.e _ c.in-Ok.joined c.in-PipeBind.is c.with_joined-in-Ok.ensures done.came done.holds done.kinds done.heard

pub returns-in-Own-clause-counts : goal.returns-in-Own-clause-counts
returns-in-Own-clause-counts g c = λ e is. absurd (never (sym (ap is_bare is) ∙ (bare_of c.args.letter.now.word c.in-Own.is)))

pub returns-in-PipeTermAck-clause-counts : goal.returns-in-PipeTermAck-clause-counts
returns-in-PipeTermAck-clause-counts g c = λ e is.
    let told = c.acknowledged-counts.ensures.counts in
    subst (λ (d : EndId). IsCounted g.P.Pipes.known.out_name (g.H.Holder.counts c.args.holder.now) (g.H.Holder.holding c.args.holder.now) c.args.letter.now.to.0 d c.with_counts.result.settled)
    (one_acked g.P.Pipes.known.out_name g.P.Pipes.known.in_name c.args.letter.now.word c.in-PipeTermAck.e e c.in-PipeTermAck.is is)
    (record { writer = told.writer; pipe = told.pipe; told_is = c.with_counts.ensures.settled ∙ told.told_is })

pub returns-in-Reap-clause-counts : goal.returns-in-Reap-clause-counts
returns-in-Reap-clause-counts g c = λ e is. absurd (never (sym (ap brings_ends is) ∙ ap brings_ends c.in-Reap.is))

pub returns-in-Ok-clause-counts : goal.returns-in-Ok-clause-counts
returns-in-Ok-clause-counts g c = λ e is. absurd (never (sym (ap binds_end is) ∙ ap binds_end c.in-PipeBind.is))

pub returns-in-Err-clause-succeeds : goal.returns-in-Err-clause-succeeds
returns-in-Err-clause-succeeds g c = λ none. absurd (never (sym none ∙ ap binds_end c.in-PipeBind.is))

pub hear_bare-left-requires-clause-bare : goal.hear_bare-left-requires-clause-bare
hear_bare-left-requires-clause-bare g c = bare_of c.args.letter.now.word c.in-Own.is

pub hear_bare-left-requires-clause-may : goal.hear_bare-left-requires-clause-may
hear_bare-left-requires-clause-may g c =
    bare_may g.P.Pipes.known.out_name g.P.Pipes.known.in_name c.args.state.now (g.H.Holder.holding c.args.holder.now) c.args.letter.now c.args.load (bare_of c.args.letter.now.word c.in-Own.is) c.requires.may

pub bind_comes-requires-clause-fits : goal.bind_comes-requires-clause-fits
bind_comes-requires-clause-fits g c = c.requires.fits

pub bind_comes-requires-clause-calm : goal.bind_comes-requires-clause-calm
bind_comes-requires-clause-calm g c = c.requires.calm

pub returns-in-PipeTermAck-clause-brought : goal.returns-in-PipeTermAck-clause-brought
returns-in-PipeTermAck-clause-brought g c = λ is. absurd (never (sym (ap brings_ends c.in-PipeTermAck.is) ∙ is))

pub returns-in-Ok-clause-brought : goal.returns-in-Ok-clause-brought
returns-in-Ok-clause-brought g c = λ is. absurd (never (sym (ap brings_ends c.in-PipeBind.is) ∙ is))

pub returns-in-Err-clause-back : goal.returns-in-Err-clause-back
returns-in-Err-clause-back g c = c.in-Err.ensures.back

pub returns-in-Err-clause-err : goal.returns-in-Err-clause-err
returns-in-Err-clause-err g c = c.in-Err.ensures.err

pub returns-in-Err-clause-quiet : goal.returns-in-Err-clause-quiet
returns-in-Err-clause-quiet g c = c.in-Err.ensures.quiet

pub returns-in-Err-clause-unheard : goal.returns-in-Err-clause-unheard
returns-in-Err-clause-unheard g c = c.in-Err.ensures.unheard

pub plug_comes-requires-clause-serves : goal.plug_comes-requires-clause-serves
plug_comes-requires-clause-serves g c = c.requires.serves (ap is_plug c.in-Plug.is)

pub plug_comes-requires-clause-may : goal.plug_comes-requires-clause-may
plug_comes-requires-clause-may g c =
    let w = c.requires.may in
    record {
      control = w.control;
      names = w.names;
      stands = w.stands;
      has = w.has;
      comes = subst (λ (x : Word). HearsEnd g.P.Pipes.known.out_name g.P.Pipes.known.in_name w.names w.control c.args.state.now (g.H.Holder.holding c.args.holder.now) c.args.letter.now.to.0 x c.args.load) c.in-Plug.is w.ends;
    }

pub plug_comes-requires-clause-fits : goal.plug_comes-requires-clause-fits
plug_comes-requires-clause-fits g c = c.requires.fits

pub returns-in-Ok-plug_comes-clause-heard : goal.returns-in-Ok-plug_comes-clause-heard
returns-in-Ok-plug_comes-clause-heard g c = λ w.
    let may : MayPlug g.P.Pipes.known.out_name g.P.Pipes.known.in_name c.args.state.now (g.H.Holder.holding c.args.holder.now) c.args.letter.now.to.0 c.in-Plug.end c.args.load = record {
      control = w.control;
      names = w.names;
      stands = w.stands;
      has = w.has;
      comes = subst (λ (x : Word). HearsEnd g.P.Pipes.known.out_name g.P.Pipes.known.in_name w.names w.control c.args.state.now (g.H.Holder.holding c.args.holder.now) c.args.letter.now.to.0 x c.args.load) c.in-Plug.is w.ends;
    } in
    plug_processed g.P.Pipes.known.out_name g.P.Pipes.known.in_name c.args.state.now c.plug_comes.new.state (g.H.Holder.holding c.args.holder.now) (g.H.Holder.holding c.plug_comes.new.holder) w.names w.control c.args.letter.now.to c.with_joined-in-Ok-plug_comes.result c.args.letter.now.word c.in-Plug.end c.in-Ok-plug_comes.joined c.in-Plug.is c.with_joined-in-Ok-plug_comes.ensures
    (c.in-Ok-plug_comes.ensures.ok may)

pub returns-in-Ok-plug_comes-clause-turned : goal.returns-in-Ok-plug_comes-clause-turned
returns-in-Ok-plug_comes-clause-turned g c = λ w.
    let may : MayPlug g.P.Pipes.known.out_name g.P.Pipes.known.in_name c.args.state.now (g.H.Holder.holding c.args.holder.now) c.args.letter.now.to.0 c.in-Plug.end c.args.load = record {
      control = w.control;
      names = w.names;
      stands = w.stands;
      has = w.has;
      comes = subst (λ (x : Word). HearsEnd g.P.Pipes.known.out_name g.P.Pipes.known.in_name w.names w.control c.args.state.now (g.H.Holder.holding c.args.holder.now) c.args.letter.now.to.0 x c.args.load) c.in-Plug.is w.ends;
    } in
    plug_told g.P.Pipes.known.out_name g.P.Pipes.known.in_name c.args.state.now c.plug_comes.new.state (g.H.Holder.holding c.args.holder.now) (g.H.Holder.holding c.plug_comes.new.holder) w.names w.control c.args.letter.now.to c.with_joined-in-Ok-plug_comes.result c.args.letter.now.word c.in-Plug.end c.in-Ok-plug_comes.joined c.in-Plug.is c.with_joined-in-Ok-plug_comes.ensures
    (c.in-Ok-plug_comes.ensures.ok may)

pub returns-in-Ok-plug_comes-clause-joins : goal.returns-in-Ok-plug_comes-clause-joins
returns-in-Ok-plug_comes-clause-joins g c = λ w.
    let may : MayPlug g.P.Pipes.known.out_name g.P.Pipes.known.in_name c.args.state.now (g.H.Holder.holding c.args.holder.now) c.args.letter.now.to.0 c.in-Plug.end c.args.load = record {
      control = w.control;
      names = w.names;
      stands = w.stands;
      has = w.has;
      comes = subst (λ (x : Word). HearsEnd g.P.Pipes.known.out_name g.P.Pipes.known.in_name w.names w.control c.args.state.now (g.H.Holder.holding c.args.holder.now) c.args.letter.now.to.0 x c.args.load) c.in-Plug.is w.ends;
    } in
    plug_came g.P.Pipes.known.out_name g.P.Pipes.known.in_name c.args.state.now c.plug_comes.new.state (g.H.Holder.holding c.args.holder.now) (g.H.Holder.holding c.plug_comes.new.holder) w.names w.control c.args.letter.now.to c.with_joined-in-Ok-plug_comes.result c.args.letter.now.word c.in-Plug.end c.in-Ok-plug_comes.joined c.in-Plug.is c.with_joined-in-Ok-plug_comes.ensures
    (c.in-Ok-plug_comes.ensures.ok may)
