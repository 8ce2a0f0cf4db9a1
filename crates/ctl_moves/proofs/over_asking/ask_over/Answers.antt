use Rattle.std.specs.Prelude.{ℕ, refl}
use Rattle.std.proofs.Common.{ap, sym, subst, ◌∙◌}
use Rattle.spec_control.specs.declared.letter.Word.TheVariants.{TermReq}
use Rattle.spec_control.specs.declared.stage.Use.TheVariants.{OnItsWay}
use Rattle.spec_control.specs.Row.{Row, AsksOver}
use Rattle.spec_control.specs.Control.{link, put}
use Rattle.own_tree.specs.Changes.{change, with_request}
use Rattle.desk.specs.declared.load.Load.{Load}
use Rattle.ctl_state.specs.declared.state.State.{State}
use Rattle.ctl_state.specs.Stands.{Stands}
use Rattle.ctl_moves.proofs.BareLemmas.{tree_boxes}
use Rattle.ctl_moves.proofs.OwnAskingLemmas.{loaded_sent, owner_room}
use Rattle.ctl_moves.proofs.over_asking.ask_over.Goals as goal

pub asks_over-requires : goal.asks_over-requires
asks_over-requires g c =
    let w = c.requires.may in
    let met = c.needs.ensures w.control w.stands in
    record {
      unended = met.unended c.args.id w.is.lives;
      unused = ap (λ (o : Row). o.request) (sym (met.row c.args.id.0)) ∙ w.is.unused;
    }

pub put-requires : goal.put-requires
put-requires g c =
    let w = c.requires.may in
    record {
      room = owner_room c.args.state.now c.asks_over.new.self c.args.id c.owner_of-owner.result w.control w.is (c.asks_over.ensures.stands w.control w.stands)
          (tree_boxes c.args.state.now c.asks_over.new.self (change (with_request OnItsWay) c.args.id) c.asks_over.ensures.next) (c.owner_of-owner.ensures w.control w.stands);
    }

pub returns-clause-stands : goal.returns-clause-stands
returns-clause-stands g c = λ k h.
    subst (λ (n : ℕ). Stands c.put.new.self (put n (TermReq c.args.id) (link AsksOver c.args.id.0 k))) (sym (c.owner_of-owner.ensures k h))
    (c.put.ensures.stands (link AsksOver c.args.id.0 k) (c.asks_over.ensures.stands k h))

pub returns-clause-puts : goal.returns-clause-puts
returns-clause-puts g c = λ names.
    (let w = c.requires.may in
    let boxes = tree_boxes c.args.state.now c.asks_over.new.self (change (with_request OnItsWay) c.args.id) c.asks_over.ensures.next in
    loaded_sent g.P.Pipes.known.out_name g.P.Pipes.known.in_name names c.args.state.now c.asks_over.new.self c.put.new.self _ _ (record { carries = refl; no_ends = refl }) boxes
    (owner_room c.args.state.now c.asks_over.new.self c.args.id c.owner_of-owner.result w.control w.is (c.asks_over.ensures.stands w.control w.stands) boxes (c.owner_of-owner.ensures w.control w.stands)) c.put.ensures.next)

pub returns-clause-lists : goal.returns-clause-lists
returns-clause-lists g c = ap (λ (x : State (Load g.row.P-Name.Denot g.row.P-Out.Denot g.row.P-In.Denot)). x.objects.lists) c.put.ensures.next ∙ ap (λ (x : State (Load g.row.P-Name.Denot g.row.P-Out.Denot g.row.P-In.Denot)). x.objects.lists) c.asks_over.ensures.next
