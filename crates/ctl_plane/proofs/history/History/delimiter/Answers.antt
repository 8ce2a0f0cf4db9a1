use Rattle.std.specs.Prelude.{◌≡◌, true, refl}
use Rattle.std.proofs.Common.{ap, sym, ◌∙◌, subst}
use Rattle.spec_control.specs.Place.{looks}
use Rattle.spec_control.specs.Rows.{obj}
use Rattle.spec_control.specs.Control.{happens, owner_of, place_of}
use Rattle.spec_control.specs.ControlRun.{is_between}
use Rattle.desk.specs.declared.given.Given.{Given}
use Rattle.spec_control.specs.declared.entry.Did.TheVariants.{Delimited}
use Rattle.spec_control.specs.declared.end.EndEvent.TheVariants.{DelimiterSeen}
use Rattle.control_laws.proofs.StayLemmas.{ends_stay}
use Rattle.desk.specs.Turns.{HasTurned}
use Rattle.ctl_moves.proofs.TurnedLemmas.{turns_same}
use Rattle.ctl_plane.specs.Carried.{given_in}
use Rattle.ctl_plane.specs.Past.{Past, control_of, with_event}
use Rattle.ctl_plane.proofs.ToldLemmas.{event_told, past_told}
use Rattle.ctl_moves.proofs.OnceLemmas.{told_one}
use Rattle.ctl_plane.specs.Hearing.{HasWhat}
use Rattle.ctl_plane.proofs.DoneLemmas.{event_now}
use Rattle.ctl_plane.proofs.PlaneLemmas.{planed_now}
use Rattle.ctl_plane.proofs.DelimitLemmas.{may_meet, meets, meets_entry, meets_given, meets_keeps}
use Rattle.ctl_plane.specs.Coming.{ComesWith}
use Rattle.ctl_plane.proofs.ComeLemmas.{aside_comes, past_comes}
use Rattle.spec_control.specs.declared.end.EndEvent.TheVariants.{DelimiterSeen}
use Rattle.ctl_moves.proofs.BetweenLemmas.{happens_between}
use Rattle.ctl_plane.proofs.history.History.delimiter.Goals as goal

pub turn_end-requires-clause-may : goal.turn_end-requires-clause-may
turn_end-requires-clause-may g c =
    let looked = sym (c.is_looked_at.ensures _ c.self.invariant.history.stands) ∙ c.if-not-is_looked_at.false in
    may_meet g.P.Pipes.known.out_name g.P.Pipes.known.in_name c.self.inside.state _ _ c.args.e c.self.invariant looked (g.H.Holder.holding c.args.holder.now)
    (subst (λ (p : Past (Given g.row.P-Name.Denot g.row.P-Out.Denot g.row.P-In.Denot) g.row.P-Name.Denot g.row.P-Story.Denot). HasWhat p (g.H.Holder.holding c.args.holder.now)) (sym c.self.view_is) c.requires.has)
    (subst (λ (p : Past (Given g.row.P-Name.Denot g.row.P-Out.Denot g.row.P-In.Denot) g.row.P-Name.Denot g.row.P-Story.Denot). (g.H.Holder.holding c.args.holder.now).holds (owner_of (control_of p) c.args.e) ≡ true) (sym c.self.view_is) c.requires.lent)
    c.requires.at

pub push-requires : goal.push-requires
push-requires g c =
    let looked = sym (c.is_looked_at.ensures _ c.self.invariant.history.stands) ∙ c.if-not-is_looked_at.false in
    let may = may_meet g.P.Pipes.known.out_name g.P.Pipes.known.in_name c.self.inside.state _ _ c.args.e c.self.invariant looked (g.H.Holder.holding c.args.holder.now)
    (subst (λ (p : Past (Given g.row.P-Name.Denot g.row.P-Out.Denot g.row.P-In.Denot) g.row.P-Name.Denot g.row.P-Story.Denot). HasWhat p (g.H.Holder.holding c.args.holder.now)) (sym c.self.view_is) c.requires.has)
    (subst (λ (p : Past (Given g.row.P-Name.Denot g.row.P-Out.Denot g.row.P-In.Denot) g.row.P-Name.Denot g.row.P-Story.Denot). (g.H.Holder.holding c.args.holder.now).holds (owner_of (control_of p) c.args.e) ≡ true) (sym c.self.view_is) c.requires.lent)
    c.requires.at in
    let held = ap (λ (p : Past (Given g.row.P-Name.Denot g.row.P-Out.Denot g.row.P-In.Denot) g.row.P-Name.Denot g.row.P-Story.Denot). is_between (obj (control_of p).rows (owner_of (control_of p) c.args.e))) c.self.view_is ∙ c.requires.held in
    record {
      room = meets_entry g.P.Pipes.known.out_name g.P.Pipes.known.in_name c.self.inside.state _ _ c.args.e c.self.invariant looked c.turn_end.new.state (g.H.Holder.holding c.args.holder.now) (g.H.Holder.holding c.turn_end.new.holder)
          c.silent.result c.silent.ensures held (c.turn_end.ensures may);
    }

pub invariant_of-self : goal.invariant_of-self
invariant_of-self g c =
    let looked = sym (c.is_looked_at.ensures _ c.self.invariant.history.stands) ∙ c.if-not-is_looked_at.false in
    let may = may_meet g.P.Pipes.known.out_name g.P.Pipes.known.in_name c.self.inside.state _ _ c.args.e c.self.invariant looked (g.H.Holder.holding c.args.holder.now)
    (subst (λ (p : Past (Given g.row.P-Name.Denot g.row.P-Out.Denot g.row.P-In.Denot) g.row.P-Name.Denot g.row.P-Story.Denot). HasWhat p (g.H.Holder.holding c.args.holder.now)) (sym c.self.view_is) c.requires.has)
    (subst (λ (p : Past (Given g.row.P-Name.Denot g.row.P-Out.Denot g.row.P-In.Denot) g.row.P-Name.Denot g.row.P-Story.Denot). (g.H.Holder.holding c.args.holder.now).holds (owner_of (control_of p) c.args.e) ≡ true) (sym c.self.view_is) c.requires.lent)
    c.requires.at in
    let held = ap (λ (p : Past (Given g.row.P-Name.Denot g.row.P-Out.Denot g.row.P-In.Denot) g.row.P-Name.Denot g.row.P-Story.Denot). is_between (obj (control_of p).rows (owner_of (control_of p) c.args.e))) c.self.view_is ∙ c.requires.held in
    planed_now g.P.Pipes.known.out_name g.P.Pipes.known.in_name c.turn_end.new.state c.self.inside.workers c.self.inside.events c.push.new.self _ _ _ c.push.ensures
    (meets g.P.Pipes.known.out_name g.P.Pipes.known.in_name c.self.inside.state _ _ c.args.e c.self.invariant looked c.turn_end.new.state (g.H.Holder.holding c.args.holder.now) (g.H.Holder.holding c.turn_end.new.holder)
    c.silent.result c.silent.ensures held (c.turn_end.ensures may))

pub returns-clause-found : goal.returns-clause-found
returns-clause-found g c =
    let looked = sym (c.is_looked_at.ensures _ c.self.invariant.history.stands) ∙ c.if-not-is_looked_at.false in
    let may = may_meet g.P.Pipes.known.out_name g.P.Pipes.known.in_name c.self.inside.state _ _ c.args.e c.self.invariant looked (g.H.Holder.holding c.args.holder.now)
    (subst (λ (p : Past (Given g.row.P-Name.Denot g.row.P-Out.Denot g.row.P-In.Denot) g.row.P-Name.Denot g.row.P-Story.Denot). HasWhat p (g.H.Holder.holding c.args.holder.now)) (sym c.self.view_is) c.requires.has)
    (subst (λ (p : Past (Given g.row.P-Name.Denot g.row.P-Out.Denot g.row.P-In.Denot) g.row.P-Name.Denot g.row.P-Story.Denot). (g.H.Holder.holding c.args.holder.now).holds (owner_of (control_of p) c.args.e) ≡ true) (sym c.self.view_is) c.requires.lent)
    c.requires.at in
    let held = ap (λ (p : Past (Given g.row.P-Name.Denot g.row.P-Out.Denot g.row.P-In.Denot) g.row.P-Name.Denot g.row.P-Story.Denot). is_between (obj (control_of p).rows (owner_of (control_of p) c.args.e))) c.self.view_is ∙ c.requires.held in
    record {
      looked_at = ap (λ (p : Past (Given g.row.P-Name.Denot g.row.P-Out.Denot g.row.P-In.Denot) g.row.P-Name.Denot g.row.P-Story.Denot). looks (place_of (control_of p) c.args.e)) (sym c.self.view_is) ∙ looked;
      answered = c.silent.result;
      silent = c.silent.ensures;
      step = event_now c.args.self.now c.self.inside.workers c.self.inside.events c.push.new.self _ _ _ (sym c.self.view_is) c.push.ensures
          (meets_given g.P.Pipes.known.out_name g.P.Pipes.known.in_name c.self.inside.state _ _ c.args.e c.self.invariant looked c.turn_end.new.state (g.H.Holder.holding c.args.holder.now) (g.H.Holder.holding c.turn_end.new.holder)
          c.silent.result c.silent.ensures held (c.turn_end.ensures may));
    }

pub returns-clause-keeps : goal.returns-clause-keeps
returns-clause-keeps g c =
    let looked = sym (c.is_looked_at.ensures _ c.self.invariant.history.stands) ∙ c.if-not-is_looked_at.false in
    let may = may_meet g.P.Pipes.known.out_name g.P.Pipes.known.in_name c.self.inside.state _ _ c.args.e c.self.invariant looked (g.H.Holder.holding c.args.holder.now)
    (subst (λ (p : Past (Given g.row.P-Name.Denot g.row.P-Out.Denot g.row.P-In.Denot) g.row.P-Name.Denot g.row.P-Story.Denot). HasWhat p (g.H.Holder.holding c.args.holder.now)) (sym c.self.view_is) c.requires.has)
    (subst (λ (p : Past (Given g.row.P-Name.Denot g.row.P-Out.Denot g.row.P-In.Denot) g.row.P-Name.Denot g.row.P-Story.Denot). (g.H.Holder.holding c.args.holder.now).holds (owner_of (control_of p) c.args.e) ≡ true) (sym c.self.view_is) c.requires.lent)
    c.requires.at in
    let held = ap (λ (p : Past (Given g.row.P-Name.Denot g.row.P-Out.Denot g.row.P-In.Denot) g.row.P-Name.Denot g.row.P-Story.Denot). is_between (obj (control_of p).rows (owner_of (control_of p) c.args.e))) c.self.view_is ∙ c.requires.held in
    let given = meets_given g.P.Pipes.known.out_name g.P.Pipes.known.in_name c.self.inside.state _ _ c.args.e c.self.invariant looked c.turn_end.new.state (g.H.Holder.holding c.args.holder.now) (g.H.Holder.holding c.turn_end.new.holder)
    c.silent.result c.silent.ensures held (c.turn_end.ensures may) in
    let keeps = meets_keeps g.P.Pipes.known.out_name g.P.Pipes.known.in_name c.self.inside.state _ _ c.args.e c.self.invariant looked c.turn_end.new.state (g.H.Holder.holding c.args.holder.now) (g.H.Holder.holding c.turn_end.new.holder)
    c.silent.result c.silent.ensures held (c.turn_end.ensures may) in
    subst (λ (p : Past (Given g.row.P-Name.Denot g.row.P-Out.Denot g.row.P-In.Denot) g.row.P-Name.Denot g.row.P-Story.Denot). HasWhat p (g.H.Holder.holding c.turn_end.new.holder))
    (sym (event_now (record { workers = c.self.inside.workers; events = c.self.inside.events.items; given = _ }) c.self.inside.workers c.self.inside.events c.push.new.self _ _ _ refl c.push.ensures given)) keeps

pub returns-clause-turned : goal.returns-clause-turned
returns-clause-turned g c =
    let inner : Past (Given g.row.P-Name.Denot g.row.P-Out.Denot g.row.P-In.Denot) g.row.P-Name.Denot g.row.P-Story.Denot = record { workers = c.self.inside.workers; events = c.self.inside.events.items; given = given_in c.self.inside.state.boxes } in
    let looked = sym (c.is_looked_at.ensures _ c.self.invariant.history.stands) ∙ c.if-not-is_looked_at.false in
    let may = may_meet g.P.Pipes.known.out_name g.P.Pipes.known.in_name c.self.inside.state _ _ c.args.e c.self.invariant looked (g.H.Holder.holding c.args.holder.now)
    (subst (λ (p : Past (Given g.row.P-Name.Denot g.row.P-Out.Denot g.row.P-In.Denot) g.row.P-Name.Denot g.row.P-Story.Denot). HasWhat p (g.H.Holder.holding c.args.holder.now)) (sym c.self.view_is) c.requires.has)
    (subst (λ (p : Past (Given g.row.P-Name.Denot g.row.P-Out.Denot g.row.P-In.Denot) g.row.P-Name.Denot g.row.P-Story.Denot). (g.H.Holder.holding c.args.holder.now).holds (owner_of (control_of p) c.args.e) ≡ true) (sym c.self.view_is) c.requires.lent)
    c.requires.at in
    let held = ap (λ (p : Past (Given g.row.P-Name.Denot g.row.P-Out.Denot g.row.P-In.Denot) g.row.P-Name.Denot g.row.P-Story.Denot). is_between (obj (control_of p).rows (owner_of (control_of p) c.args.e))) c.self.view_is ∙ c.requires.held in
    let step = event_now c.args.self.now c.self.inside.workers c.self.inside.events c.push.new.self _ _ _ (sym c.self.view_is) c.push.ensures
    (meets_given g.P.Pipes.known.out_name g.P.Pipes.known.in_name c.self.inside.state _ _ c.args.e c.self.invariant looked c.turn_end.new.state (g.H.Holder.holding c.args.holder.now) (g.H.Holder.holding c.turn_end.new.holder)
    c.silent.result c.silent.ensures held (c.turn_end.ensures may)) in
    subst (λ (p : Past (Given g.row.P-Name.Denot g.row.P-Out.Denot g.row.P-In.Denot) g.row.P-Name.Denot g.row.P-Story.Denot). HasTurned (control_of c.args.self.now) (control_of p) (g.H.Holder.holding c.args.holder.now) (g.H.Holder.holding c.turn_end.new.holder)) (sym step)
    (subst (λ (p : Past (Given g.row.P-Name.Denot g.row.P-Out.Denot g.row.P-In.Denot) g.row.P-Name.Denot g.row.P-Story.Denot). HasTurned (control_of p) (control_of (with_event (Delimited c.args.e c.silent.result) p)) (g.H.Holder.holding c.args.holder.now) (g.H.Holder.holding c.turn_end.new.holder)) c.self.view_is
    (event_told inner c.self.invariant.history.run (Delimited c.args.e c.silent.result) (g.H.Holder.holding c.args.holder.now) (g.H.Holder.holding c.turn_end.new.holder)
    (told_one (control_of inner) (happens DelimiterSeen c.args.e (control_of inner)) DelimiterSeen c.args.e (g.H.Holder.holding c.args.holder.now) (g.H.Holder.holding c.turn_end.new.holder) (ends_stay (happens DelimiterSeen c.args.e (control_of inner))) may.turns.within may.turns.listed (c.turn_end.ensures may).turned)))

pub returns-then-not-is_looked_at-clause-turned : goal.returns-then-not-is_looked_at-clause-turned
returns-then-not-is_looked_at-clause-turned g c = past_told c.args.self.now (g.H.Holder.holding c.args.holder.now) (g.H.Holder.holding c.args.holder.now) (turns_same (g.H.Holder.holding c.args.holder.now))

pub returns-clause-joins : goal.returns-clause-joins
returns-clause-joins g c =
    let inner : Past (Given g.row.P-Name.Denot g.row.P-Out.Denot g.row.P-In.Denot) g.row.P-Name.Denot g.row.P-Story.Denot = record { workers = c.self.inside.workers; events = c.self.inside.events.items; given = given_in c.self.inside.state.boxes } in
    let looked = sym (c.is_looked_at.ensures _ c.self.invariant.history.stands) ∙ c.if-not-is_looked_at.false in
    let may = may_meet g.P.Pipes.known.out_name g.P.Pipes.known.in_name c.self.inside.state _ _ c.args.e c.self.invariant looked (g.H.Holder.holding c.args.holder.now)
    (subst (λ (p : Past (Given g.row.P-Name.Denot g.row.P-Out.Denot g.row.P-In.Denot) g.row.P-Name.Denot g.row.P-Story.Denot). HasWhat p (g.H.Holder.holding c.args.holder.now)) (sym c.self.view_is) c.requires.has)
    (subst (λ (p : Past (Given g.row.P-Name.Denot g.row.P-Out.Denot g.row.P-In.Denot) g.row.P-Name.Denot g.row.P-Story.Denot). (g.H.Holder.holding c.args.holder.now).holds (owner_of (control_of p) c.args.e) ≡ true) (sym c.self.view_is) c.requires.lent)
    c.requires.at in
    let held = ap (λ (p : Past (Given g.row.P-Name.Denot g.row.P-Out.Denot g.row.P-In.Denot) g.row.P-Name.Denot g.row.P-Story.Denot). is_between (obj (control_of p).rows (owner_of (control_of p) c.args.e))) c.self.view_is ∙ c.requires.held in
    let step = event_now c.args.self.now c.self.inside.workers c.self.inside.events c.push.new.self _ _ _ (sym c.self.view_is) c.push.ensures
    (meets_given g.P.Pipes.known.out_name g.P.Pipes.known.in_name c.self.inside.state _ _ c.args.e c.self.invariant looked c.turn_end.new.state (g.H.Holder.holding c.args.holder.now) (g.H.Holder.holding c.turn_end.new.holder)
    c.silent.result c.silent.ensures held (c.turn_end.ensures may)) in
    subst (λ (p : Past (Given g.row.P-Name.Denot g.row.P-Out.Denot g.row.P-In.Denot) g.row.P-Name.Denot g.row.P-Story.Denot). ComesWith c.args.self.now p (g.H.Holder.holding c.args.holder.now) (g.H.Holder.holding c.turn_end.new.holder)) (sym step)
    (subst (λ (p : Past (Given g.row.P-Name.Denot g.row.P-Out.Denot g.row.P-In.Denot) g.row.P-Name.Denot g.row.P-Story.Denot). ComesWith p (with_event (Delimited c.args.e c.silent.result) p) (g.H.Holder.holding c.args.holder.now) (g.H.Holder.holding c.turn_end.new.holder)) c.self.view_is
    (aside_comes inner (Delimited c.args.e c.silent.result) (g.H.Holder.holding c.args.holder.now) (g.H.Holder.holding c.turn_end.new.holder) c.silent.ensures.joined (c.turn_end.ensures may).joined (c.turn_end.ensures may).holds (c.turn_end.ensures may).kinds (happens_between DelimiterSeen c.args.e (control_of inner)) (λ b n. refl) (c.turn_end.ensures may).heard))

pub returns-then-not-is_looked_at-clause-joins : goal.returns-then-not-is_looked_at-clause-joins
returns-then-not-is_looked_at-clause-joins g c = past_comes c.args.self.now (g.H.Holder.holding c.args.holder.now) (g.H.Holder.holding c.args.holder.now) refl (λ i. refl) (λ i. refl) refl
