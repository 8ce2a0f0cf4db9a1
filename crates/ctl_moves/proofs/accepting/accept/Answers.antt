use Rattle.std.specs.Prelude.{◌<◌, ◌^◌, ◌++◌, ◌∷◌, [], length}
use Rattle.std.proofs.Common.{arith, ap, sym, subst, ◌∙◌}
use Rattle.std.proofs.lemmas.List.{length_push}
use Rattle.mailbox.specs.Mail.{no_mail, with_spare}
use Rattle.desk.specs.declared.load.Load.{Load}
use Rattle.ctl_state.specs.declared.state.State.{State}
use Rattle.ctl_state.specs.Objects.{TakesChild, with_object}
use Rattle.ctl_state.specs.Pairs.{entry_drawn}
use Rattle.ctl_state.specs.Parts.{on_boxes, on_objects}
use Rattle.ctl_moves.proofs.AcceptingLemmas.{accepted, boxes_there, few_drawn, few_pairs, own_room, takes_child}
use Rattle.ctl_moves.proofs.accepting.accept.Goals as goal

pub draw_accepted-requires : goal.draw_accepted-requires
draw_accepted-requires g c =
    let w = c.requires.may in
    let are = c.owners_of-o.ensures w.control w.stands in
    record {
      there = boxes_there c.args.state.now c.args.listener w.control w.is w.stands c.owners_of-o.result are;
      few = few_pairs c.args.state.now c.args.listener w.control w.is w.stands c.owners_of-o.result are;
    }

pub make-requires : goal.make-requires
make-requires g c =
    let w = c.requires.may in
    let are = c.owners_of-o.ensures w.control w.stands in
    record {
      takes = subst (λ (x : State (Load g.row.P-Name.Denot g.row.P-Out.Denot g.row.P-In.Denot)). TakesChild x.objects c.owners_of-o.result.last) (sym c.in-Ok.ensures.next)
          (takes_child c.args.state.now c.args.listener w.control w.is w.stands c.owners_of-o.result are (c.needs.ensures w.control w.stands));
      few = subst (λ (x : State (Load g.row.P-Name.Denot g.row.P-Out.Denot g.row.P-In.Denot)). length x.boxes < 2 ^ 32) (sym c.in-Ok.ensures.next)
          (few_drawn c.args.state.now c.args.listener w.control w.is w.stands c.owners_of-o.result are);
    }

pub put-requires : goal.put-requires
put-requires g c =
    let w = c.requires.may in
    let are = c.owners_of-o.ensures w.control w.stands in
    record {
      room = own_room c.args.state.now c.args.listener w.control w.is w.stands c.owners_of-o.result are c.in_ok-made.made c.make.new.self (c.in_ok-made.ensures c.owners_of-o.result.last w.control w.stands are.last)
          (c.in-Ok-make.ensures.next ∙ ap (λ (x : State (Load g.row.P-Name.Denot g.row.P-Out.Denot g.row.P-In.Denot)). on_objects (with_object c.owners_of-o.result.last c.in_ok-made.made) (on_boxes (λ b. b ++ with_spare 0 no_mail ∷ []) x)) c.in-Ok.ensures.next)
          (c.in-Ok-make.ensures.ok _ (c.in-Ok.ensures.ok w.control w.stands));
    }

pub returns-in-Ok-make-clause-ok : goal.returns-in-Ok-make-clause-ok
returns-in-Ok-make-clause-ok g c = λ k stands may.
    (let are = c.owners_of-o.ensures k stands in
    accepted g.P.Pipes.known.out_name g.P.Pipes.known.in_name c.args.state.now c.args.listener k may stands c.owners_of-o.result are c.in_ok-made.made c.make.new.self (c.in_ok-made.ensures c.owners_of-o.result.last k stands are.last)
    (c.in-Ok-make.ensures.next ∙ ap (λ (x : State (Load g.row.P-Name.Denot g.row.P-Out.Denot g.row.P-In.Denot)). on_objects (with_object c.owners_of-o.result.last c.in_ok-made.made) (on_boxes (λ b. b ++ with_spare 0 no_mail ∷ []) x)) c.in-Ok.ensures.next)
    (c.in-Ok-make.ensures.ok _ (c.in-Ok.ensures.ok k stands)) c.put.new.self c.in-Ok-make.session c.in-Ok.pair
    (c.in-Ok-make.ensures.number ∙ ap (λ (x : State (Load g.row.P-Name.Denot g.row.P-Out.Denot g.row.P-In.Denot)). length x.objects.tree) c.in-Ok.ensures.next) c.in-Ok.ensures.number c.put.ensures.stands c.put.ensures.next)

pub undraw_accepted-requires : goal.undraw_accepted-requires
undraw_accepted-requires g c =
    let w = c.requires.may in
    let is = c.in-Err-make.ensures.err ∙ c.in-Ok.ensures.next in
    let all = ap (λ (x : State (Load g.row.P-Name.Denot g.row.P-Out.Denot g.row.P-In.Denot)). length x.pairs) is in
    let more = length_push c.args.state.now.pairs (entry_drawn c.owners_of-o.result.first c.owners_of-o.result.last) in
    let number = c.in-Ok.ensures.number in
    record {
      drawn = record { before = c.args.state.now; boxes = boxes_there c.args.state.now c.args.listener w.control w.is w.stands c.owners_of-o.result (c.owners_of-o.ensures w.control w.stands); is = is };
      last = omega (arith, all, more, number);
    }

pub returns-in-Err-make-clause-err : goal.returns-in-Err-make-clause-err
returns-in-Err-make-clause-err g c =
    let w = c.requires.may in
    c.undraw_accepted.ensures (record {
      before = c.args.state.now;
      boxes = boxes_there c.args.state.now c.args.listener w.control w.is w.stands c.owners_of-o.result (c.owners_of-o.ensures w.control w.stands);
      is = c.in-Err-make.ensures.err ∙ c.in-Ok.ensures.next;
    })
