use Rattle.std.proofs.Common.{take, refl}
use Rattle.zq_outer.specs.declared.link.LinkPut.TheVariants.{Took, NotReady, Ended, Failed}
use Rattle.zmtp_engine.specs.Conversation.{lent}
use Rattle.spec_link.specs.LinkAct.{Wire as OnWire, Writes}
use Rattle.link_side.specs.declared.wire.Wire.{Wire}
use Rattle.link_side.specs.WireView.{kept}
use Rattle.link_side.proofs.KeptLemmas.{run_said, run_still}
use Rattle.link_side.proofs.CountLemmas.{write_counted, told_put}
use Rattle.link_side.proofs.wire.Wire.write.Goals as goal

pub returns-in-Took-clause-run : goal.returns-in-Took-clause-run
returns-in-Took-clause-run g c = λ opts acts r.
    let old : Wire = c.args.self.now in
    let octets = take c.in-Took.n (lent old.engine) in
    run_said opts acts (OnWire (Writes (Took c.in-Took.n) octets)) octets (kept old) (kept (record old { engine = c.wrote.new.self })) refl refl refl refl refl refl refl c.wrote.ensures.follows r

pub returns-in-Took-clause-counts : goal.returns-in-Took-clause-counts
returns-in-Took-clause-counts g c = write_counted (Took c.in-Took.n) _ _ _ _ _ _ c.in-Took.ensures.faults c.in-Took.ensures.stalls c.in-Took.ensures.ends

pub returns-in-NotReady-clause-counts : goal.returns-in-NotReady-clause-counts
returns-in-NotReady-clause-counts g c = write_counted NotReady _ _ _ _ _ _ c.in-NotReady.ensures.faults c.in-NotReady.ensures.stalls c.in-NotReady.ensures.ends

pub returns-in-Ended-clause-counts : goal.returns-in-Ended-clause-counts
returns-in-Ended-clause-counts g c = write_counted Ended _ _ _ _ _ _ c.in-Ended.ensures.faults c.in-Ended.ensures.stalls c.in-Ended.ensures.ends

pub returns-in-Failed-clause-counts : goal.returns-in-Failed-clause-counts
returns-in-Failed-clause-counts g c = write_counted Failed _ _ _ _ _ _ c.in-Failed.ensures.faults c.in-Failed.ensures.stalls c.in-Failed.ensures.ends

pub returns-in-NotReady-clause-run : goal.returns-in-NotReady-clause-run
returns-in-NotReady-clause-run g c = λ opts acts r.
    run_still opts acts _ (kept c.args.self.now) (kept c.args.self.now) refl refl refl refl refl refl refl refl r

pub returns-in-NotReady-clause-told : goal.returns-in-NotReady-clause-told
returns-in-NotReady-clause-told g c = (refl, told_put NotReady _ _ _ c.in-NotReady.ensures.bytes)

pub returns-in-NotReady-clause-sound : goal.returns-in-NotReady-clause-sound
returns-in-NotReady-clause-sound g c = c.requires.sound

pub returns-in-NotReady-clause-keeps : goal.returns-in-NotReady-clause-keeps
returns-in-NotReady-clause-keeps g c = record { listening = refl; held = refl; unfed_is = refl }

pub returns-in-NotReady-clause-others : goal.returns-in-NotReady-clause-others
returns-in-NotReady-clause-others g c = c.in-NotReady.ensures.others

pub returns-in-Ended-clause-run : goal.returns-in-Ended-clause-run
returns-in-Ended-clause-run g c = λ opts acts r.
    run_still opts acts _ (kept c.args.self.now) (kept c.args.self.now) refl refl refl refl refl refl refl refl r

pub returns-in-Ended-clause-told : goal.returns-in-Ended-clause-told
returns-in-Ended-clause-told g c = (refl, told_put Ended _ _ _ c.in-Ended.ensures.bytes)

pub returns-in-Ended-clause-sound : goal.returns-in-Ended-clause-sound
returns-in-Ended-clause-sound g c = c.requires.sound

pub returns-in-Ended-clause-keeps : goal.returns-in-Ended-clause-keeps
returns-in-Ended-clause-keeps g c = record { listening = refl; held = refl; unfed_is = refl }

pub returns-in-Ended-clause-others : goal.returns-in-Ended-clause-others
returns-in-Ended-clause-others g c = c.in-Ended.ensures.others

pub returns-in-Failed-clause-run : goal.returns-in-Failed-clause-run
returns-in-Failed-clause-run g c = λ opts acts r.
    run_still opts acts _ (kept c.args.self.now) (kept c.args.self.now) refl refl refl refl refl refl refl refl r

pub returns-in-Failed-clause-told : goal.returns-in-Failed-clause-told
returns-in-Failed-clause-told g c = (refl, told_put Failed _ _ _ c.in-Failed.ensures.bytes)

pub returns-in-Failed-clause-sound : goal.returns-in-Failed-clause-sound
returns-in-Failed-clause-sound g c = c.requires.sound

pub returns-in-Failed-clause-keeps : goal.returns-in-Failed-clause-keeps
returns-in-Failed-clause-keeps g c = record { listening = refl; held = refl; unfed_is = refl }

pub returns-in-Failed-clause-others : goal.returns-in-Failed-clause-others
returns-in-Failed-clause-others g c = c.in-Failed.ensures.others

pub returns-in-Took-clause-keeps : goal.returns-in-Took-clause-keeps
returns-in-Took-clause-keeps g c = record { listening = c.wrote.ensures.heard; held = refl; unfed_is = refl }

pub returns-in-Took-clause-others : goal.returns-in-Took-clause-others
returns-in-Took-clause-others g c = c.in-Took.ensures.others

pub returns-in-Took-clause-sound : goal.returns-in-Took-clause-sound
returns-in-Took-clause-sound g c = record { fed = c.requires.sound.fed; read = c.requires.sound.read; room = c.requires.sound.room }
