use Rattle.end_table.proofs.SoundLemmas.{all_kept}
use Rattle.end_table.proofs.MakeLemmas.{made_fits}
use Rattle.std.proofs.Common.{[]}
use Rattle.end_table.proofs.ChangeLemmas.{more_on}
use Rattle.end_table.proofs.MadeLemmas.{made_both, only_one, only_both, makings_on}
use Rattle.end_table.proofs.placing.make.Goals as goal

pub returns-in_err-out-clause-sound : goal.returns-in_err-out-clause-sound
returns-in_err-out-clause-sound g c = all_kept g.P.Pipes.known c.args.pipes.now c.make_noted.new.pipes c.args.table.now.rows.items c.args.table.now.places.items c.make_noted.ensures.keeps c.requires.sound

pub returns-in_err-back-clause-sound : goal.returns-in_err-back-clause-sound
returns-in_err-back-clause-sound g c = all_kept g.P.Pipes.known c.make_noted.new.pipes c.make_noted-2.new.pipes c.args.table.now.rows.items c.args.table.now.places.items c.make_noted-2.ensures.keeps (all_kept g.P.Pipes.known c.args.pipes.now c.make_noted.new.pipes c.args.table.now.rows.items c.args.table.now.places.items c.make_noted.ensures.keeps c.requires.sound)

pub returns-clause-sound : goal.returns-clause-sound
returns-clause-sound g c = all_kept g.P.Pipes.known c.make_noted.new.pipes c.make_noted-2.new.pipes c.args.table.now.rows.items c.args.table.now.places.items c.make_noted-2.ensures.keeps (all_kept g.P.Pipes.known c.args.pipes.now c.make_noted.new.pipes c.args.table.now.rows.items c.args.table.now.places.items c.make_noted.ensures.keeps c.requires.sound)

pub returns-clause-fits : goal.returns-clause-fits
returns-clause-fits g c =
    made_fits g.P.Pipes.known c.args.pipes.now c.make_noted.new.pipes c.make_noted-2.new.pipes c.args.table.now.rows.items c.args.table.now.places.items c.in_ok-out.out c.in_ok-back.back c.in_ok-out.away c.in_ok-back.input _ _
    c.requires.sound c.in_ok-out.ensures.made c.make_noted.ensures.keeps c.in_ok-back.ensures.made c.make_noted-2.ensures.keeps

pub returns-in_err-out-clause-changes : goal.returns-in_err-out-clause-changes
returns-in_err-out-clause-changes g c = c.make_noted.ensures.changes c.args.table.now.places.items

pub returns-in_err-back-clause-changes : goal.returns-in_err-back-clause-changes
returns-in_err-back-clause-changes g c =
    more_on g.P.Pipes.known c.args.table.now.places.items c.args.table.now.places.items [] [] c.args.did.now.items c.make_noted.new.did.items c.make_noted-2.new.did.items c.args.pipes.now c.make_noted.new.pipes c.make_noted-2.new.pipes
    (c.make_noted.ensures.changes c.args.table.now.places.items) (c.make_noted-2.ensures.changes c.args.table.now.places.items)

pub returns-clause-changes : goal.returns-clause-changes
returns-clause-changes g c =
    more_on g.P.Pipes.known c.args.table.now.places.items c.args.table.now.places.items [] [] c.args.did.now.items c.make_noted.new.did.items c.make_noted-2.new.did.items c.args.pipes.now c.make_noted.new.pipes c.make_noted-2.new.pipes
    (c.make_noted.ensures.changes c.args.table.now.places.items) (c.make_noted-2.ensures.changes c.args.table.now.places.items)

pub returns-clause-made : goal.returns-clause-made
returns-clause-made g c =
    made_both g.P.Pipes.known c.args.end c.other.result _ _ c.in_ok-out.out c.in_ok-back.back c.in_ok-back.input c.args.did.now.items c.make_noted.new.did.items c.make_noted-2.new.did.items c.other.ensures
    c.in_ok-out.ensures.noted c.in_ok-back.ensures.noted c.in_ok-back.ensures.made.one_name

pub returns-in_err-out-clause-only : goal.returns-in_err-out-clause-only
returns-in_err-out-clause-only g c = only_one c.args.end c.args.did.now.items c.make_noted.new.did.items c.make_noted.ensures.only

pub returns-in_err-back-clause-only : goal.returns-in_err-back-clause-only
returns-in_err-back-clause-only g c = only_both c.args.end c.other.result c.args.did.now.items c.make_noted.new.did.items c.make_noted-2.new.did.items c.other.ensures c.make_noted.ensures.only c.make_noted-2.ensures.only

pub returns-clause-only : goal.returns-clause-only
returns-clause-only g c = only_both c.args.end c.other.result c.args.did.now.items c.make_noted.new.did.items c.make_noted-2.new.did.items c.other.ensures c.make_noted.ensures.only c.make_noted-2.ensures.only

pub returns-in_err-back-clause-makings : goal.returns-in_err-back-clause-makings
returns-in_err-back-clause-makings g c = makings_on c.args.did.now.items c.make_noted.new.did.items c.make_noted-2.new.did.items c.make_noted.ensures.makings c.make_noted-2.ensures.makings

pub returns-clause-makings : goal.returns-clause-makings
returns-clause-makings g c = makings_on c.args.did.now.items c.make_noted.new.did.items c.make_noted-2.new.did.items c.make_noted.ensures.makings c.make_noted-2.ensures.makings
