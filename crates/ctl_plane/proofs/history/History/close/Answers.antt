use Rattle.std.proofs.lemmas.List.{append-nil}
use Rattle.std.specs.Prelude.{refl, List, ◌++◌}
use Rattle.std.proofs.Common.{sym, subst, ap, ◌∙◌}
use Rattle.spec_control.specs.declared.entry.Did.TheVariants.{Asked}
use Rattle.spec_control.specs.declared.request.Req.TheVariants.{Close}
use Rattle.spec_control.specs.declared.request.Reply.TheVariants.{Done}
use Rattle.spec_control.specs.After.{after}
use Rattle.spec_control.specs.Names.{name_of}
use Rattle.desk.specs.declared.given.Given.{Given}
use Rattle.desk.specs.Turns.{HasTurned}
use Rattle.ctl_moves.proofs.TurnedLemmas.{turns_none}
use Rattle.ctl_state.specs.Stands.{Stands}
use Rattle.ctl_moves.proofs.HolderLemmas.{has_same}
use Rattle.ctl_plane.specs.Past.{Past, control_of, items_of, IsPast}
use Rattle.ctl_plane.specs.Hearing.{HasWhat}
use Rattle.ctl_plane.proofs.GiveLemmas.{given_all, given_ends, given_halves, given_has, given_sealed, gives_all}
use Rattle.ctl_plane.proofs.StruckLemmas.{has_then}
use Rattle.ctl_plane.proofs.ToldLemmas.{event_told}
use Rattle.ctl_moves.proofs.OnceLemmas.{told_none}
use Rattle.ctl_plane.specs.Coming.{ComesWith}
use Rattle.ctl_plane.proofs.ComeLemmas.{close_keeps, objects_come}
use Rattle.spec_control.specs.declared.entry.Joining.{Joining}
use Rattle.spec_control.specs.Rows.{obj}
use Rattle.spec_control.specs.Row.{Row}
use Rattle.spec_control.specs.ControlRun.{IsOpenSocket}
use Rattle.spec_control.specs.declared.stage.Use.TheVariants.{OnItsWay}
use Rattle.own_tree.specs.Changes.{change, with_request}
use Rattle.ctl_moves.proofs.BareLemmas.{tree_boxes}
use Rattle.ctl_plane.proofs.DoneLemmas.{reap_room, close_entry, closes, event_given}
use Rattle.ctl_plane.proofs.PlaneLemmas.{planed_now}
use Rattle.ctl_plane.proofs.PlaneDoneLemmas.{closes_plane, closes_given}
use Rattle.desk.specs.Load.{AreEndsOfClosed, GivesAll}
use Rattle.desk.specs.declared.load.Load.{Load}
use Rattle.ctl_state.specs.declared.state.State.{State}
use Rattle.ctl_plane.proofs.history.History.close.Goals as goal

pub asks_over-requires : goal.asks_over-requires
asks_over-requires g c =
    let h = c.self.invariant.history in
    let is_open = subst (λ (p : Past (Given g.row.P-Name.Denot g.row.P-Out.Denot g.row.P-In.Denot) g.row.P-Name.Denot g.row.P-Story.Denot). IsOpenSocket (obj (control_of p).rows c.args.socket.0)) (sym c.self.view_is) c.requires.«open» in
    let met = c.needs.ensures _ h.stands in
    record {
      unended = met.unended c.args.socket is_open.lives;
      unused = ap (λ (o : Row). o.request) (sym (met.row c.args.socket.0)) ∙ is_open.open_still;
    }

pub put-requires : goal.put-requires
put-requires g c =
    let h = c.self.invariant.history in
    let is_open = subst (λ (p : Past (Given g.row.P-Name.Denot g.row.P-Out.Denot g.row.P-In.Denot) g.row.P-Name.Denot g.row.P-Story.Denot). IsOpenSocket (obj (control_of p).rows c.args.socket.0)) (sym c.self.view_is) c.requires.«open» in
    record {
      room = reap_room c.self.inside.state c.asks_over.new.self _ _ c.args.socket h is_open c.asks_over.ensures.stands (tree_boxes c.self.inside.state c.asks_over.new.self (change (with_request OnItsWay) c.args.socket) c.asks_over.ensures.next);
    }

pub push-requires : goal.push-requires
push-requires g c =
    let is_open = subst (λ (p : Past (Given g.row.P-Name.Denot g.row.P-Out.Denot g.row.P-In.Denot) g.row.P-Name.Denot g.row.P-Story.Denot). IsOpenSocket (obj (control_of p).rows c.args.socket.0)) (sym c.self.view_is) c.requires.«open» in
    record { room = close_entry c.self.inside.state _ _ c.args.socket c.silent.result c.self.invariant.history is_open c.silent.ensures }

pub invariant_of-self : goal.invariant_of-self
invariant_of-self g c =
    let stands = subst (λ (p : Past (Given g.row.P-Name.Denot g.row.P-Out.Denot g.row.P-In.Denot) g.row.P-Name.Denot g.row.P-Story.Denot). Stands c.self.inside.state (control_of p)) c.self.view_is c.self.invariant.history.stands in
    let has = c.requires.has c.args.socket.0 c.requires.lent in
    let is_open = subst (λ (p : Past (Given g.row.P-Name.Denot g.row.P-Out.Denot g.row.P-In.Denot) g.row.P-Name.Denot g.row.P-Story.Denot). IsOpenSocket (obj (control_of p).rows c.args.socket.0)) (sym c.self.view_is) c.requires.«open» in
    let ends = subst (λ (p : Past (Given g.row.P-Name.Denot g.row.P-Out.Denot g.row.P-In.Denot) g.row.P-Name.Denot g.row.P-Story.Denot). AreEndsOfClosed g.P.Pipes.known.out_name g.P.Pipes.known.in_name (name_of (items_of p)) c.note_met-parting.result) (sym c.self.view_is)
    (given_ends g.P.Pipes.known.out_name g.P.Pipes.known.in_name (control_of c.args.self.now) c.args.socket.0 (name_of (items_of c.args.self.now)) (g.H.Holder.holding c.args.holder.now) has c.give_ends.result.ends.items c.give_ends.ensures.all c.give_ends.result.joined c.give_ends.ensures.joined c.note_met-parting.result (c.note_met-parting.ensures.ends _ stands) (c.note_met-parting.ensures.joined _ stands)) in
    planed_now g.P.Pipes.known.out_name g.P.Pipes.known.in_name c.put.new.self c.self.inside.workers c.self.inside.events c.push.new.self _ _ _ c.push.ensures
    (closes_plane g.P.Pipes.known.out_name g.P.Pipes.known.in_name c.self.inside.state c.asks_over.new.self c.put.new.self _ _ c.args.socket c.note_met-parting.result c.self.invariant is_open c.asks_over.ensures.stands
    (tree_boxes c.self.inside.state c.asks_over.new.self (change (with_request OnItsWay) c.args.socket) c.asks_over.ensures.next) c.put.ensures.next c.silent.result _
    (closes c.self.inside.state c.asks_over.new.self c.put.new.self _ _ c.args.socket _ c.silent.result (change (with_request OnItsWay) c.args.socket) c.self.invariant.history is_open c.silent.ensures
    c.asks_over.ensures.stands c.asks_over.ensures.next c.put.ensures.stands c.put.ensures.next) c.silent.ensures ends
    (subst (λ (p : Past (Given g.row.P-Name.Denot g.row.P-Out.Denot g.row.P-In.Denot) g.row.P-Name.Denot g.row.P-Story.Denot). GivesAll (control_of p) c.args.socket.0 c.note_met-parting.result) (sym c.self.view_is) (gives_all g.P.Pipes.known.out_name g.P.Pipes.known.in_name (control_of c.args.self.now) c.args.socket.0 (name_of (items_of c.args.self.now)) (g.H.Holder.holding c.args.holder.now) has c.give_ends.result.ends.items c.give_ends.ensures.all c.give_ends.result.joined c.give_ends.ensures.joined c.note_met-parting.result (c.note_met-parting.ensures.ends _ stands) (c.note_met-parting.ensures.joined _ stands)
    c.give_ends.ensures.writing c.give_ends.ensures.states))
    (ap (λ (x : State (Load g.row.P-Name.Denot g.row.P-Out.Denot g.row.P-In.Denot)). x.objects.lists) c.asks_over.ensures.next))

pub returns-clause-closes : goal.returns-clause-closes
returns-clause-closes g c =
    let is_open = subst (λ (p : Past (Given g.row.P-Name.Denot g.row.P-Out.Denot g.row.P-In.Denot) g.row.P-Name.Denot g.row.P-Story.Denot). IsOpenSocket (obj (control_of p).rows c.args.socket.0)) (sym c.self.view_is) c.requires.«open» in
    let step = event_given c.args.self.now c.self.inside.workers c.self.inside.events c.push.new.self _ _ _ _ (sym c.self.view_is) c.push.ensures
    (closes_given g.P.Pipes.known.out_name g.P.Pipes.known.in_name c.self.inside.state c.asks_over.new.self c.put.new.self _ _ c.args.socket c.note_met-parting.result c.self.invariant is_open c.asks_over.ensures.stands
    (tree_boxes c.self.inside.state c.asks_over.new.self (change (with_request OnItsWay) c.args.socket) c.asks_over.ensures.next) c.put.ensures.next) in
    let stands = subst (λ (p : Past (Given g.row.P-Name.Denot g.row.P-Out.Denot g.row.P-In.Denot) g.row.P-Name.Denot g.row.P-Story.Denot). Stands c.self.inside.state (control_of p)) c.self.view_is c.self.invariant.history.stands in
    let has = c.requires.has c.args.socket.0 c.requires.lent in
    record {
      ends = c.note_met-parting.result.ends.items;
      answered = c.silent.result;
      silent = c.silent.ensures;
      given = given_halves g.P.Pipes.known.out_name g.P.Pipes.known.in_name (control_of c.args.self.now) c.args.socket.0 (name_of (items_of c.args.self.now)) (g.H.Holder.holding c.args.holder.now) has c.give_ends.result.ends.items c.give_ends.ensures.all c.give_ends.result.joined c.give_ends.ensures.joined c.note_met-parting.result (c.note_met-parting.ensures.ends _ stands) (c.note_met-parting.ensures.joined _ stands)
          g.P.Pipes.known (g.H.Holder.pipes c.give_ends.new.self) c.give_ends.ensures.told c.give_ends.ensures.given;
      sealed = given_sealed g.P.Pipes.known.out_name g.P.Pipes.known.in_name (control_of c.args.self.now) c.args.socket.0 (name_of (items_of c.args.self.now)) (g.H.Holder.holding c.args.holder.now) has c.give_ends.result.ends.items c.give_ends.ensures.all c.give_ends.result.joined c.give_ends.ensures.joined c.note_met-parting.result (c.note_met-parting.ensures.ends _ stands) (c.note_met-parting.ensures.joined _ stands)
          (g.H.Holder.holding c.args.holder.now).sealed c.give_ends.ensures.sealed;
      all = given_all g.P.Pipes.known.out_name g.P.Pipes.known.in_name (control_of c.args.self.now) c.args.socket.0 (name_of (items_of c.args.self.now)) (g.H.Holder.holding c.args.holder.now) has c.give_ends.result.ends.items c.give_ends.ensures.all c.give_ends.result.joined c.give_ends.ensures.joined c.note_met-parting.result (c.note_met-parting.ensures.ends _ stands) (c.note_met-parting.ensures.joined _ stands);
      step = step;
    }

pub returns-clause-keeps : goal.returns-clause-keeps
returns-clause-keeps g c =
    let is_open = subst (λ (p : Past (Given g.row.P-Name.Denot g.row.P-Out.Denot g.row.P-In.Denot) g.row.P-Name.Denot g.row.P-Story.Denot). IsOpenSocket (obj (control_of p).rows c.args.socket.0)) (sym c.self.view_is) c.requires.«open» in
    let step = event_given c.args.self.now c.self.inside.workers c.self.inside.events c.push.new.self _ _ _ _ (sym c.self.view_is) c.push.ensures
    (closes_given g.P.Pipes.known.out_name g.P.Pipes.known.in_name c.self.inside.state c.asks_over.new.self c.put.new.self _ _ c.args.socket c.note_met-parting.result c.self.invariant is_open c.asks_over.ensures.stands
    (tree_boxes c.self.inside.state c.asks_over.new.self (change (with_request OnItsWay) c.args.socket) c.asks_over.ensures.next) c.put.ensures.next) in
    let was = control_of c.args.self.now in
    let did = Asked (Close c.args.socket) Done c.silent.result in
    subst (λ (p : Past (Given g.row.P-Name.Denot g.row.P-Out.Denot g.row.P-In.Denot) g.row.P-Name.Denot g.row.P-Story.Denot). HasWhat p (g.H.Holder.holding c.give_ends.new.self)) (sym step)
    (has_then c.args.self.now did (after did was) (g.H.Holder.holding c.give_ends.new.self) refl
    (has_same (name_of (items_of c.args.self.now)) was (after did was) (g.H.Holder.holding c.give_ends.new.self) (record { pairs = refl; attached = refl; reasons = refl })
    (given_has (name_of (items_of c.args.self.now)) was c.args.socket.0 (g.H.Holder.holding c.args.holder.now) (g.H.Holder.holding c.give_ends.new.self) c.give_ends.ensures.none c.give_ends.ensures.turns c.requires.has)))

pub returns-clause-turned : goal.returns-clause-turned
returns-clause-turned g c =
    let is_open = subst (λ (p : Past (Given g.row.P-Name.Denot g.row.P-Out.Denot g.row.P-In.Denot) g.row.P-Name.Denot g.row.P-Story.Denot). IsOpenSocket (obj (control_of p).rows c.args.socket.0)) (sym c.self.view_is) c.requires.«open» in
    let step = event_given c.args.self.now c.self.inside.workers c.self.inside.events c.push.new.self _ _ _ _ (sym c.self.view_is) c.push.ensures
    (closes_given g.P.Pipes.known.out_name g.P.Pipes.known.in_name c.self.inside.state c.asks_over.new.self c.put.new.self _ _ c.args.socket c.note_met-parting.result c.self.invariant is_open c.asks_over.ensures.stands
    (tree_boxes c.self.inside.state c.asks_over.new.self (change (with_request OnItsWay) c.args.socket) c.asks_over.ensures.next) c.put.ensures.next) in
    let was = control_of c.args.self.now in
    let did = Asked (Close c.args.socket) Done c.silent.result in
    subst (λ (p : Past (Given g.row.P-Name.Denot g.row.P-Out.Denot g.row.P-In.Denot) g.row.P-Name.Denot g.row.P-Story.Denot). HasTurned was (control_of p) (g.H.Holder.holding c.args.holder.now) (g.H.Holder.holding c.give_ends.new.self)) (sym step)
    (event_told c.args.self.now (subst (λ (p : Past (Given g.row.P-Name.Denot g.row.P-Out.Denot g.row.P-In.Denot) g.row.P-Name.Denot g.row.P-Story.Denot). IsPast p) c.self.view_is c.self.invariant.history.run) did (g.H.Holder.holding c.args.holder.now) (g.H.Holder.holding c.give_ends.new.self)
    (told_none was (after did was) (g.H.Holder.holding c.args.holder.now) (g.H.Holder.holding c.give_ends.new.self) (λ e. refl) (turns_none (g.H.Holder.holding c.args.holder.now) (g.H.Holder.holding c.give_ends.new.self) c.give_ends.ensures.turns)))

pub returns-clause-joins : goal.returns-clause-joins
returns-clause-joins g c =
    let is_open = subst (λ (p : Past (Given g.row.P-Name.Denot g.row.P-Out.Denot g.row.P-In.Denot) g.row.P-Name.Denot g.row.P-Story.Denot). IsOpenSocket (obj (control_of p).rows c.args.socket.0)) (sym c.self.view_is) c.requires.«open» in
    let step = event_given c.args.self.now c.self.inside.workers c.self.inside.events c.push.new.self _ _ _ _ (sym c.self.view_is) c.push.ensures
    (closes_given g.P.Pipes.known.out_name g.P.Pipes.known.in_name c.self.inside.state c.asks_over.new.self c.put.new.self _ _ c.args.socket c.note_met-parting.result c.self.invariant is_open c.asks_over.ensures.stands
    (tree_boxes c.self.inside.state c.asks_over.new.self (change (with_request OnItsWay) c.args.socket) c.asks_over.ensures.next) c.put.ensures.next) in
    let was = control_of c.args.self.now in
    let did = Asked (Close c.args.socket) Done c.silent.result in
    subst (λ (p : Past (Given g.row.P-Name.Denot g.row.P-Out.Denot g.row.P-In.Denot) g.row.P-Name.Denot g.row.P-Story.Denot). ComesWith c.args.self.now p (g.H.Holder.holding c.args.holder.now) (g.H.Holder.holding c.give_ends.new.self)) (sym step)
    (objects_come c.args.self.now did (g.H.Holder.holding c.args.holder.now) (g.H.Holder.holding c.give_ends.new.self) (c.give_ends.ensures.turns.joined ∙ sym (ap (λ (js : List (Joining g.row.P-Name.Denot)). (g.H.Holder.holding c.args.holder.now).joined ++ js) c.silent.ensures.joined ∙ append-nil (g.H.Holder.holding c.args.holder.now).joined))
    (close_keeps was (after did was) c.args.socket.0 (g.H.Holder.holding c.args.holder.now) (g.H.Holder.holding c.give_ends.new.self) refl c.requires.open c.give_ends.ensures.none)
    (c.give_ends.ensures.heard ∙ sym (append-nil (g.H.Holder.holding c.args.holder.now).heard)))
