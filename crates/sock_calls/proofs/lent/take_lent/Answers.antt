use Rattle.std.proofs.Common.{◌≡◌, ◌∙◌, ℕ, Bool, true, Option, Some, None, refl, sym, ap, subst, true≢false}
use Rattle.sock_core.specs.declared.sock.SockCore.{SockCore}
use Rattle.sock_calls.proofs.PassingLemmas.{calm_fresh, come_fresh, way_fresh}
use Rattle.end_table.specs.Others.{Leaves}
use Rattle.end_table.proofs.OthersLemmas.{places_stay, leaves_pipes}
use Rattle.std.specs.Prelude.{IfOk, is_some, if◌then◌else◌}
use Rattle.zq_base.specs.declared.kind.Kind.{Kind}
use Rattle.zq_base.specs.declared.ids.SlotId.{SlotId}
use Rattle.end_table.specs.Sound.{Fits}
use Rattle.sock_core.specs.Has.{holding_in}
use Rattle.desk.specs.Coming.{BindsFit}
use Rattle.desk.specs.Desk.{GivesOrNot}
use Rattle.desk.specs.Memory.{NoBindWaits}
use Rattle.std.specs.Prelude.{length, map}
use Rattle.zq_base.specs.declared.ids.EndId.{EndId}
use Rattle.sock_core.specs.Noted.{AreMade, HasDone}
use Rattle.sock_core.proofs.DoneLemmas.{done_none}
use Rattle.sock_core.proofs.MadeLemmas.{made_none}
use Rattle.sock_calls.proofs.lent.take_lent.Goals as goal

pub invariant_of-holder : goal.invariant_of-holder
invariant_of-holder g c =
    let K = g.P.Pipes.known in
    let t = c.args.core.ends in
    let f = c.requires.fits in
    record {
      sound = f.sound;
      peers = f.peers_are;
      room = f.room;
      gone = f.gone;
      stopped = f.stopped_is;
      flagged = f.flagged;
      in_use = f.in_use;
      settled_are = f.settled_are;
      sealed_are = f.sealed_are;
      others = λ s u b.
          let e = c.requires.began s u b in
          subst (λ (x : g.row.P.Denot). Leaves K x u.ends c.args.pipes t) (sym e.0)
          (subst (λ (y : SockCore _ _ _ _ _). Leaves K c.args.pipes y.ends c.args.pipes t) (sym e.1) (leaves_pipes K c.args.pipes t t (places_stay t.places.items t.places.items refl) refl));
      number = λ s u b. (c.requires.began s u b).2;
      done = λ s u b.
          let e = c.requires.began s u b in
          subst (λ (y : SockCore _ _ _ _ _). HasDone K s y.ends.places.items (map (λ (x : EndId × Unit {0}). x.0) y.sealed.items) c.new.result.items c.args.pipes t.places.items (map (λ (x : EndId × Unit {0}). x.0) c.args.core.sealed.items)) (sym e.1)
          (done_none K s t.places.items (map (λ (x : EndId × Unit {0}). x.0) c.args.core.sealed.items) c.args.pipes c.new.result.items t.places.items e.0 c.new.ensures);
      tied = λ s u b made. subst (λ (y : SockCore _ _ _ _ _). AreMade K g.F.Since.may_make c.new.result.items (length y.ends.places.items) t.places.items) (sym (c.requires.began s u b).1) (made_none K g.F.Since.may_make c.new.result.items t.places.items);
      came = λ s u b. come_fresh g.C.Joins.pattern g.C.Joins.names g.C.Joins.sound g.C.Joins.peers K g.F.Since.undoes g.F.Since.comes s u c.args.core c.new-core.result.items c.new.result.items (c.requires.began s u b).1 c.new-core.ensures c.new.ensures;
      rest = λ s u b r. subst (λ (y : SockCore _ _ _ _ _). g.C.Joins.rests y.kind) (c.requires.began s u b).1 r;
      way = λ s u b.
          let J = g.C.Joins in
          way_fresh J.pattern J.names J.sound J.peers u c.args.core (record c.args.core { way = c.new-core.result }) (c.requires.began s u b).1 c.new-core.ensures refl refl refl refl;
    }

pub deliver-answer-requires-clause-calm : goal.deliver-answer-requires-clause-calm
deliver-answer-requires-clause-calm g c =
    let J = g.C.Joins in
    calm_fresh J.pattern J.names J.sound J.peers (record c.args.core { way = c.new-core.result }) c.new.result.items c.new-core.ensures c.new.ensures

pub returns-clause-others : goal.returns-clause-others
returns-clause-others g c = λ s t b. (c.deliver-answer.new.holder.others s t b, c.deliver-answer.new.holder.number s t b)

pub slot-slot-requires : goal.slot-slot-requires
slot-slot-requires g c = record { has = c.requires.has.objects c.args.core.number.0 c.requires.held }

pub deliver-answer-requires-clause-mine : goal.deliver-answer-requires-clause-mine
deliver-answer-requires-clause-mine g c = record {
  its = record { object = c.args.core.number.0; has = c.requires.held; here = sym c.slot-slot.ensures };
  open_still = ap (λ (b : Bool). let k : Option Kind = (if b then Some (g.C.Joins.kind c.args.core.kind) else None) in is_some k) c.requires.held;
}

pub deliver-answer-requires-clause-lent : goal.deliver-answer-requires-clause-lent
deliver-answer-requires-clause-lent g c = λ i served.
    let mine = c.requires.alone i (subst (λ (n : ℕ). g.D.Desk.served c.args.desk.now n i ≡ true) c.slot-slot.ensures served) in
    subst (λ (j : ℕ). (holding_in (g.C.Joins.kind c.args.core.kind) c.args.core).holds j ≡ true) (sym mine) c.requires.held

pub deliver-answer-requires-clause-fits : goal.deliver-answer-requires-clause-fits
deliver-answer-requires-clause-fits g c = λ e x coming out input d.
    let binds = subst (λ (n : ℕ). BindsFit g.P.Pipes.known.out_name g.P.Pipes.known.in_name (g.D.Desk.named c.args.desk.now) (g.D.Desk.coming c.args.desk.now n) (λ h. Fits g.P.Pipes.known c.args.pipes c.args.core.ends.places.items h)) (sym c.slot-slot.ensures) c.requires.binds in
    (binds e x coming out input, λ made. absurd (true≢false (sym c.requires.comes ∙ made)))

pub returns-clause-ok : goal.returns-clause-ok
returns-clause-ok g c =
    subst (λ (slot : SlotId). IfOk c.deliver-answer.result (λ found. GivesOrNot (g.D.Desk.number c.args.desk.now) slot found (g.D.Desk.moments c.args.desk.now) (g.D.Desk.moments c.deliver-answer.new.self)))
    (ap (λ (n : ℕ). let x : SlotId = record { 0 = n } in x) c.slot-slot.ensures) c.deliver-answer.ensures.ok

pub returns-clause-way : goal.returns-clause-way
returns-clause-way g c = λ s t b. c.deliver-answer.new.holder.way s t b

pub returns-clause-does : goal.returns-clause-does
returns-clause-does g c = λ s t b. c.deliver-answer.new.holder.done s t b

pub returns-clause-rest : goal.returns-clause-rest
returns-clause-rest g c = λ s t b. c.deliver-answer.new.holder.rest s t b

pub returns-clause-came : goal.returns-clause-came
returns-clause-came g c = λ s t b. c.deliver-answer.new.holder.came s t b

pub returns-clause-succeeds : goal.returns-clause-succeeds
returns-clause-succeeds g c = λ b finds none. c.deliver-answer.ensures.succeeds b finds (subst (λ (n : ℕ). NoBindWaits b n) (sym c.slot-slot.ensures) none)
