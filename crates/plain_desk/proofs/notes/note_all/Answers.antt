use Rattle.std.specs.Prelude.{List, take}
use Rattle.std.proofs.Common.{arith, sym, subst}
use Rattle.std.proofs.lemmas.List.{length-take-le, take_all, take_more}
use Rattle.zq_base.specs.declared.ids.ObjId.{ObjId}
use Rattle.plain_desk.specs.Notes.{Noted}
use Rattle.plain_desk.proofs.notes.note_all.Goals as goal

pub each-preserved : goal.each-preserved
each-preserved c =
    subst (λ (os : List ObjId). Noted os c.note_closed.new.notes) (sym (take_more c.args.closed.now c.each.place (record { 0 = 0 }) c.each-test.true))
    (c.note_closed.ensures (take c.each.place c.args.closed.now) (length-take-le c.each.place c.args.closed.now (let below = c.each-test.true in omega (arith, below))) c.each.invariant)

pub returns : goal.returns
returns c = subst (λ (os : List ObjId). Noted os c.each.notes) (take_all c.each.place c.args.closed.now c.each-test.false) c.each.invariant
