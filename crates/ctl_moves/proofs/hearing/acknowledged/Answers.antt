use Rattle.std.specs.Prelude.{Bool, List, Some, ℕ, ◌++◌, ◌&&◌, not}
use Rattle.spec_control.specs.Rows.{may_end, obj}
use Rattle.spec_control.specs.Stage.{has_ended}
use Rattle.std.proofs.Common.{ap, sym, ◌∙◌, subst}
use Rattle.spec_control.specs.declared.end.EndEvent.TheVariants.{AckCame}
use Rattle.spec_control.specs.Control.{happens, try_end}
use Rattle.control_laws.proofs.ListLemmas.{right}
use Rattle.ctl_state.specs.Stands.{Stands}
use Rattle.spec_control.specs.After.{settle}
use Rattle.ctl_moves.specs.Settling.{SettlesAt}
use Rattle.desk.specs.declared.notice.Notice.{Notice}
use Rattle.desk.specs.Heard.{over_if}
use Rattle.desk.specs.Output.{has_left}
use Rattle.ctl_moves.proofs.HeardLemmas.{end_between}
use Rattle.ctl_moves.proofs.HolderLemmas.{ended_has_none}
use Rattle.ctl_moves.proofs.SettledLemmas.{reads_half, settled_aside, writer_brought, same_half, acknowledges, lives_then, ack_room_then}
use Rattle.ctl_moves.proofs.hearing.acknowledged.Goals as goal

pub writer_of-writer-requires : goal.writer_of-writer-requires
writer_of-writer-requires g c = writer_brought g.P.Pipes.known.out_name g.P.Pipes.known.in_name c.args.load c.requires.may.comes.half c.requires.may.comes.brings

pub settle_end-counts-requires-clause-may : goal.settle_end-counts-requires-clause-may
settle_end-counts-requires-clause-may g c =
    let w = c.requires.may in
    record {
      control = w.control;
      names = w.names;
      stands = w.stands;
      has = w.has;
      settles = subst (λ (o : g.row.P-Out.Denot). SettlesAt g.P.Pipes.known.out_name g.P.Pipes.known.in_name w.names w.control c.args.state.now (g.H.Holder.holding c.args.holder.now) c.args.e o)
          (same_half g.P.Pipes.known.out_name g.P.Pipes.known.in_name c.args.load w.comes.half c.writer_of-writer.result w.comes.brings c.writer_of-writer.ensures) w.comes.settles;
    }

pub settle_end-counts-requires-clause-apart : goal.settle_end-counts-requires-clause-apart
settle_end-counts-requires-clause-apart g c = c.requires.apart c.writer_of-writer.result c.writer_of-writer.ensures

pub try_end-ended-requires-clause-unended : goal.try_end-ended-requires-clause-unended
try_end-ended-requires-clause-unended g c =
    let w = c.requires.may in
    let done = c.settle_end-counts.ensures.settles (record {
      control = w.control;
      names = w.names;
      stands = w.stands;
      has = w.has;
      settles = subst (λ (o : g.row.P-Out.Denot). SettlesAt g.P.Pipes.known.out_name g.P.Pipes.known.in_name w.names w.control c.args.state.now (g.H.Holder.holding c.args.holder.now) c.args.e o)
          (same_half g.P.Pipes.known.out_name g.P.Pipes.known.in_name c.args.load w.comes.half c.writer_of-writer.result w.comes.brings c.writer_of-writer.ensures) w.comes.settles;
    }) in
    let met = c.needs.ensures (happens AckCame c.args.e w.control) done.leads.stands in
    met.unended c.args.at (lives_then g.P.Pipes.known.out_name g.P.Pipes.known.in_name w.names w.control c.args.state.now (g.H.Holder.holding c.args.holder.now) c.args.at.0 c.args.e c.args.load w.comes)

pub try_end-ended-requires-clause-room : goal.try_end-ended-requires-clause-room
try_end-ended-requires-clause-room g c =
    let w = c.requires.may in
    let done = c.settle_end-counts.ensures.settles (record {
      control = w.control;
      names = w.names;
      stands = w.stands;
      has = w.has;
      settles = subst (λ (o : g.row.P-Out.Denot). SettlesAt g.P.Pipes.known.out_name g.P.Pipes.known.in_name w.names w.control c.args.state.now (g.H.Holder.holding c.args.holder.now) c.args.e o)
          (same_half g.P.Pipes.known.out_name g.P.Pipes.known.in_name c.args.load w.comes.half c.writer_of-writer.result w.comes.brings c.writer_of-writer.ensures) w.comes.settles;
    }) in
    let met = c.needs.ensures (happens AckCame c.args.e w.control) done.leads.stands in
    ack_room_then g.P.Pipes.known.out_name g.P.Pipes.known.in_name w.names w.control c.args.state.now (g.H.Holder.holding c.args.holder.now) c.args.at.0 c.args.e c.args.load w.comes
    c.settle_end-counts.new.state (g.H.Holder.holding c.settle_end-counts.new.holder) c.settle_end-counts.result done met.row

pub tell_over-requires : goal.tell_over-requires
tell_over-requires g c =
    let w = c.requires.may in
    let done = c.settle_end-counts.ensures.settles (record {
      control = w.control;
      names = w.names;
      stands = w.stands;
      has = w.has;
      settles = subst (λ (o : g.row.P-Out.Denot). SettlesAt g.P.Pipes.known.out_name g.P.Pipes.known.in_name w.names w.control c.args.state.now (g.H.Holder.holding c.args.holder.now) c.args.e o)
          (same_half g.P.Pipes.known.out_name g.P.Pipes.known.in_name c.args.load w.comes.half c.writer_of-writer.result w.comes.brings c.writer_of-writer.ensures) w.comes.settles;
    }) in
    let now = happens AckCame c.args.e w.control in
    record {
      none = λ ended above. ended_has_none w.names now.rows now.attached now.reasons (g.H.Holder.holding c.settle_end-counts.new.holder) c.args.at.0 (right (not c.args.left) (may_end now.rows c.args.at.0) (sym (c.try_end-ended.ensures.answer now done.leads.stands) ∙ ended))
          (done.leads.has c.args.at.0 (done.leads.holds c.args.at.0 ∙ ap (g.H.Holder.holding c.args.holder.now).holds (sym w.comes.owner) ∙ w.comes.settles.lent));
    }

pub returns-clause-acknowledges : goal.returns-clause-acknowledges
returns-clause-acknowledges g c = λ w.
    let done = c.settle_end-counts.ensures.settles (record {
      control = w.control;
      names = w.names;
      stands = w.stands;
      has = w.has;
      settles = subst (λ (o : g.row.P-Out.Denot). SettlesAt g.P.Pipes.known.out_name g.P.Pipes.known.in_name w.names w.control c.args.state.now (g.H.Holder.holding c.args.holder.now) c.args.e o)
          (same_half g.P.Pipes.known.out_name g.P.Pipes.known.in_name c.args.load w.comes.half c.writer_of-writer.result w.comes.brings c.writer_of-writer.ensures) w.comes.settles;
    }) in
    let now = happens AckCame c.args.e w.control in
    acknowledges g.P.Pipes.known.out_name g.P.Pipes.known.in_name w.names w.control c.args.at c.args.e c.settle_end-counts.result c.args.state.now c.settle_end-counts.new.state c.try_end-ended.new.self
    (g.H.Holder.holding c.args.holder.now) (g.H.Holder.holding c.settle_end-counts.new.holder) (g.H.Holder.holding c.tell_over.new.holder) done
    (subst (λ (b : Bool). Stands c.try_end-ended.new.self (try_end c.args.at.0 b (settle c.args.e (Some c.settle_end-counts.result) now))) (c.requires.left w)
    (c.try_end-ended.ensures.stands (settle c.args.e (Some c.settle_end-counts.result) now) (settled_aside c.settle_end-counts.new.state now c.args.e c.settle_end-counts.result done.leads.stands))) c.try_end-ended.ensures.only
    (done.leads.holds c.args.at.0 ∙ ap (g.H.Holder.holding c.args.holder.now).holds (sym w.comes.owner) ∙ w.comes.settles.lent) c.tell_over.ensures.told c.tell_over.ensures.root w.comes.settles.within w.comes.settles.listed
    c.try_end-ended.result c.tell_over.ensures.kept (ap (λ (n : ℕ). has_ended (obj w.control.rows n).stage) (sym w.comes.owner) ∙ w.comes.settles.unended) (λ is. sym (c.try_end-ended.ensures.answer now done.leads.stands ∙ ap (λ (b : Bool). not b && may_end now.rows c.args.at.0) (c.requires.left w)) ∙ is)

pub returns-clause-counts : goal.returns-clause-counts
returns-clause-counts g c =
    let w = c.requires.may in
    record {
      writer = c.writer_of-writer.result;
      pipe = reads_half g.P.Pipes.known.out_name g.P.Pipes.known.in_name w.names w.control c.args.state.now (g.H.Holder.holding c.args.holder.now) c.args.at.0 c.args.e c.args.load w.has w.comes
          ∙ ap (λ (o : g.row.P-Out.Denot). Some (g.P.Pipes.known.out_name o)) (same_half g.P.Pipes.known.out_name g.P.Pipes.known.in_name c.args.load w.comes.half c.writer_of-writer.result w.comes.brings c.writer_of-writer.ensures);
      told_is = ap Some c.settle_end-counts.ensures.counts;
    }

pub returns-clause-heard : goal.returns-clause-heard
returns-clause-heard g c = λ w.
    let done = c.settle_end-counts.ensures.settles (record {
      control = w.control;
      names = w.names;
      stands = w.stands;
      has = w.has;
      settles = subst (λ (o : g.row.P-Out.Denot). SettlesAt g.P.Pipes.known.out_name g.P.Pipes.known.in_name w.names w.control c.args.state.now (g.H.Holder.holding c.args.holder.now) c.args.e o)
          (same_half g.P.Pipes.known.out_name g.P.Pipes.known.in_name c.args.load w.comes.half c.writer_of-writer.result w.comes.brings c.writer_of-writer.ensures) w.comes.settles;
    }) in
    let now = happens AckCame c.args.e w.control in
    let lives = lives_then g.P.Pipes.known.out_name g.P.Pipes.known.in_name w.names w.control c.args.state.now (g.H.Holder.holding c.args.holder.now) c.args.at.0 c.args.e c.args.load w.comes in
    let lived = ap (λ (n : ℕ). has_ended (obj w.control.rows n).stage) (sym w.comes.owner) ∙ w.comes.settles.unended in
    c.tell_over.ensures.heard
    ∙ ap (λ (ns : List Notice). ns ++ over_if c.args.at c.try_end-ended.result) done.leads.heard
    ∙ ap (λ (b : Bool). (g.H.Holder.holding c.args.holder.now).heard ++ over_if c.args.at b)
    (c.try_end-ended.ensures.answer now done.leads.stands ∙ ap (λ (b : Bool). not b && may_end now.rows c.args.at.0) (c.requires.left w)
    ∙ sym (end_between c.args.at.0 (has_left w.control c.args.at.0 (g.H.Holder.holding c.args.holder.now)) (obj w.control.rows c.args.at.0) (settle c.args.e (Some c.settle_end-counts.result) now) lived lives))
