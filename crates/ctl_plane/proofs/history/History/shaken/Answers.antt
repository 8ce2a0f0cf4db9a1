use Rattle.std.specs.Prelude.{refl}
use Rattle.std.proofs.Common.{sym, subst}
use Rattle.spec_control.specs.declared.entry.Did.TheVariants.{Asked}
use Rattle.spec_control.specs.declared.request.Req.TheVariants.{Shaken}
use Rattle.spec_control.specs.declared.request.Reply.TheVariants.{Done}
use Rattle.spec_control.specs.Rows.{obj}
use Rattle.spec_control.specs.ControlRun.{MayShake}
use Rattle.desk.specs.declared.given.Given.{Given}
use Rattle.desk.specs.Making.{MakesSo}
use Rattle.desk.specs.Turns.{HasTurned}
use Rattle.ctl_moves.specs.Papers.{HasMarks}
use Rattle.ctl_moves.proofs.TurnedLemmas.{turns_none, turns_same}
use Rattle.ctl_plane.specs.Carried.{given_in}
use Rattle.ctl_plane.specs.Coming.{ComesWith}
use Rattle.ctl_plane.specs.Hearing.{HasWhat}
use Rattle.ctl_plane.specs.Past.{Past, control_of, with_event}
use Rattle.ctl_plane.proofs.ComeLemmas.{past_comes}
use Rattle.ctl_plane.proofs.DoneLemmas.{event_now}
use Rattle.ctl_plane.proofs.MakingLemmas.{viewed_back}
use Rattle.ctl_plane.proofs.PlaneLemmas.{planed_now}
use Rattle.ctl_plane.proofs.ShakenLemmas.{Shook, may_make_shaken, may_shake_at, shaken_comes, shaken_entry, shaken_given, shaken_keeps, shaken_plane, shaken_turned, shakes_own}
use Rattle.ctl_plane.proofs.ToldLemmas.{past_told}
use Rattle.ctl_plane.proofs.history.History.shaken.Goals as goal

pub returns-in_err-identity-clause-turned : goal.returns-in_err-identity-clause-turned
returns-in_err-identity-clause-turned g c = past_told c.args.self.now (g.H.Holder.holding c.args.holder.now) (g.H.Holder.holding c.args.holder.now) (turns_same (g.H.Holder.holding c.args.holder.now))

pub returns-in_err-identity-clause-joins : goal.returns-in_err-identity-clause-joins
returns-in_err-identity-clause-joins g c = past_comes c.args.self.now (g.H.Holder.holding c.args.holder.now) (g.H.Holder.holding c.args.holder.now) refl (λ i. refl) (λ i. refl) refl

pub shake-requires-clause-may : goal.shake-requires-clause-may
shake-requires-clause-may g c =
    let stands = c.self.invariant.history.stands in
    let may = subst (λ (p : Past (Given g.row.P-Name.Denot g.row.P-Out.Denot g.row.P-In.Denot) g.row.P-Name.Denot g.row.P-Story.Denot). MayShake (control_of p) c.args.session.0) (sym c.self.view_is) c.requires.may in
    let marked = subst (λ (p : Past (Given g.row.P-Name.Denot g.row.P-Out.Denot g.row.P-In.Denot) g.row.P-Name.Denot g.row.P-Story.Denot). HasMarks (obj (control_of p).rows c.args.session.0)) (sym c.self.view_is) c.requires.marked in
    let first_is = c.own_end-first.ensures _ stands in
    let has = subst (λ (p : Past (Given g.row.P-Name.Denot g.row.P-Out.Denot g.row.P-In.Denot) g.row.P-Name.Denot g.row.P-Story.Denot). HasWhat p (g.H.Holder.holding c.args.holder.now)) (sym c.self.view_is) c.requires.has in
    let at = may_shake_at g.P.Pipes.known.out_name g.P.Pipes.known.in_name c.self.inside.state _ _ c.args.session c.args.peer c.self.invariant may (g.H.Holder.holding c.args.holder.now) c.own_end-first.result first_is (c.needs.ensures _ stands) has c.requires.lent marked in
    at

pub shake-requires-clause-makes : goal.shake-requires-clause-makes
shake-requires-clause-makes g c =
    let stands = c.self.invariant.history.stands in
    let may = subst (λ (p : Past (Given g.row.P-Name.Denot g.row.P-Out.Denot g.row.P-In.Denot) g.row.P-Name.Denot g.row.P-Story.Denot). MayShake (control_of p) c.args.session.0) (sym c.self.view_is) c.requires.may in
    let marked = subst (λ (p : Past (Given g.row.P-Name.Denot g.row.P-Out.Denot g.row.P-In.Denot) g.row.P-Name.Denot g.row.P-Story.Denot). HasMarks (obj (control_of p).rows c.args.session.0)) (sym c.self.view_is) c.requires.marked in
    let first_is = c.own_end-first.ensures _ stands in
    may_make_shaken g.P.Pipes.known.out_name g.P.Pipes.known.in_name c.self.inside.state _ _ c.args.session c.args.peer c.self.invariant may (g.H.Holder.holding c.args.holder.now) c.own_end-first.result first_is marked g.H.Holder.may_make
    (subst (λ (p : Past (Given g.row.P-Name.Denot g.row.P-Out.Denot g.row.P-In.Denot) g.row.P-Name.Denot g.row.P-Story.Denot). MakesSo (control_of p) (Shaken c.args.session c.args.peer) g.H.Holder.may_make) (sym c.self.view_is) c.requires.makes)

pub returns-in_err-notes-clause-turned : goal.returns-in_err-notes-clause-turned
returns-in_err-notes-clause-turned g c =
    subst (λ (p : Past (Given g.row.P-Name.Denot g.row.P-Out.Denot g.row.P-In.Denot) g.row.P-Name.Denot g.row.P-Story.Denot). HasTurned (control_of c.args.self.now) (control_of p) (g.H.Holder.holding c.args.holder.now) (g.H.Holder.holding c.shake.new.holder))
    (sym (viewed_back c.args.self.now c.self.inside.state c.shake.new.state c.self.inside.workers c.self.inside.events c.self.inside.events c.in_err-notes.ensures.err refl c.self.view_is))
    (past_told c.args.self.now (g.H.Holder.holding c.args.holder.now) (g.H.Holder.holding c.shake.new.holder) (turns_none (g.H.Holder.holding c.args.holder.now) (g.H.Holder.holding c.shake.new.holder) c.in_err-notes.ensures.keeps))

pub returns-in_err-notes-clause-joins : goal.returns-in_err-notes-clause-joins
returns-in_err-notes-clause-joins g c =
    subst (λ (p : Past (Given g.row.P-Name.Denot g.row.P-Out.Denot g.row.P-In.Denot) g.row.P-Name.Denot g.row.P-Story.Denot). ComesWith c.args.self.now p (g.H.Holder.holding c.args.holder.now) (g.H.Holder.holding c.shake.new.holder))
    (sym (viewed_back c.args.self.now c.self.inside.state c.shake.new.state c.self.inside.workers c.self.inside.events c.self.inside.events c.in_err-notes.ensures.err refl c.self.view_is))
    (past_comes c.args.self.now (g.H.Holder.holding c.args.holder.now) (g.H.Holder.holding c.shake.new.holder) c.in_err-notes.ensures.keeps.joined c.in_err-notes.ensures.stays.now.objects c.in_err-notes.ensures.stays.now.kinds c.in_err-notes.ensures.heard)

pub push-requires : goal.push-requires
push-requires g c =
    let stands = c.self.invariant.history.stands in
    let may = subst (λ (p : Past (Given g.row.P-Name.Denot g.row.P-Out.Denot g.row.P-In.Denot) g.row.P-Name.Denot g.row.P-Story.Denot). MayShake (control_of p) c.args.session.0) (sym c.self.view_is) c.requires.may in
    let marked = subst (λ (p : Past (Given g.row.P-Name.Denot g.row.P-Out.Denot g.row.P-In.Denot) g.row.P-Name.Denot g.row.P-Story.Denot). HasMarks (obj (control_of p).rows c.args.session.0)) (sym c.self.view_is) c.requires.marked in
    let first_is = c.own_end-first.ensures _ stands in
    let has = subst (λ (p : Past (Given g.row.P-Name.Denot g.row.P-Out.Denot g.row.P-In.Denot) g.row.P-Name.Denot g.row.P-Story.Denot). HasWhat p (g.H.Holder.holding c.args.holder.now)) (sym c.self.view_is) c.requires.has in
    let at = may_shake_at g.P.Pipes.known.out_name g.P.Pipes.known.in_name c.self.inside.state _ _ c.args.session c.args.peer c.self.invariant may (g.H.Holder.holding c.args.holder.now) c.own_end-first.result first_is (c.needs.ensures _ stands) has c.requires.lent marked in
    let d : Shook g.P.Pipes.known.out_name g.P.Pipes.known.in_name c.self.inside.state _ _ c.args.session c.args.peer (g.H.Holder.holding c.args.holder.now) = record {
      plane = c.self.invariant;
      may = may;
      kind = c.requires.kind;
      has = has;
      notes = c.in_ok-notes.notes;
      t = c.shake.new.state;
      k = (g.H.Holder.holding c.shake.new.holder);
      shakes = shakes_own g.P.Pipes.known.out_name g.P.Pipes.known.in_name c.self.inside.state _ _ c.args.session c.args.peer c.self.invariant may (g.H.Holder.holding c.args.holder.now) c.own_end-first.result first_is c.in_ok-notes.notes c.shake.new.state (g.H.Holder.holding c.shake.new.holder) c.in_ok-identity.identity c.in_ok-identity.ensures (c.in_ok-notes.ensures.ok at);
      a = c.with_notes.result;
      noted = c.with_notes.ensures;
    } in
    record { room = shaken_entry g.P.Pipes.known.out_name g.P.Pipes.known.in_name c.self.inside.state _ _ c.args.session c.args.peer (g.H.Holder.holding c.args.holder.now) d }

pub invariant_of-self-2 : goal.invariant_of-self-2
invariant_of-self-2 g c =
    let stands = c.self.invariant.history.stands in
    let may = subst (λ (p : Past (Given g.row.P-Name.Denot g.row.P-Out.Denot g.row.P-In.Denot) g.row.P-Name.Denot g.row.P-Story.Denot). MayShake (control_of p) c.args.session.0) (sym c.self.view_is) c.requires.may in
    let marked = subst (λ (p : Past (Given g.row.P-Name.Denot g.row.P-Out.Denot g.row.P-In.Denot) g.row.P-Name.Denot g.row.P-Story.Denot). HasMarks (obj (control_of p).rows c.args.session.0)) (sym c.self.view_is) c.requires.marked in
    let first_is = c.own_end-first.ensures _ stands in
    let has = subst (λ (p : Past (Given g.row.P-Name.Denot g.row.P-Out.Denot g.row.P-In.Denot) g.row.P-Name.Denot g.row.P-Story.Denot). HasWhat p (g.H.Holder.holding c.args.holder.now)) (sym c.self.view_is) c.requires.has in
    let at = may_shake_at g.P.Pipes.known.out_name g.P.Pipes.known.in_name c.self.inside.state _ _ c.args.session c.args.peer c.self.invariant may (g.H.Holder.holding c.args.holder.now) c.own_end-first.result first_is (c.needs.ensures _ stands) has c.requires.lent marked in
    let d : Shook g.P.Pipes.known.out_name g.P.Pipes.known.in_name c.self.inside.state _ _ c.args.session c.args.peer (g.H.Holder.holding c.args.holder.now) = record {
      plane = c.self.invariant;
      may = may;
      kind = c.requires.kind;
      has = has;
      notes = c.in_ok-notes.notes;
      t = c.shake.new.state;
      k = (g.H.Holder.holding c.shake.new.holder);
      shakes = shakes_own g.P.Pipes.known.out_name g.P.Pipes.known.in_name c.self.inside.state _ _ c.args.session c.args.peer c.self.invariant may (g.H.Holder.holding c.args.holder.now) c.own_end-first.result first_is c.in_ok-notes.notes c.shake.new.state (g.H.Holder.holding c.shake.new.holder) c.in_ok-identity.identity c.in_ok-identity.ensures (c.in_ok-notes.ensures.ok at);
      a = c.with_notes.result;
      noted = c.with_notes.ensures;
    } in
    planed_now g.P.Pipes.known.out_name g.P.Pipes.known.in_name c.shake.new.state c.self.inside.workers c.self.inside.events c.push.new.self _ _ _ c.push.ensures (shaken_plane g.P.Pipes.known.out_name g.P.Pipes.known.in_name c.self.inside.state _ _ c.args.session c.args.peer (g.H.Holder.holding c.args.holder.now) d)

pub returns-clause-ok : goal.returns-clause-ok
returns-clause-ok g c =
    let stands = c.self.invariant.history.stands in
    let may = subst (λ (p : Past (Given g.row.P-Name.Denot g.row.P-Out.Denot g.row.P-In.Denot) g.row.P-Name.Denot g.row.P-Story.Denot). MayShake (control_of p) c.args.session.0) (sym c.self.view_is) c.requires.may in
    let marked = subst (λ (p : Past (Given g.row.P-Name.Denot g.row.P-Out.Denot g.row.P-In.Denot) g.row.P-Name.Denot g.row.P-Story.Denot). HasMarks (obj (control_of p).rows c.args.session.0)) (sym c.self.view_is) c.requires.marked in
    let first_is = c.own_end-first.ensures _ stands in
    let has = subst (λ (p : Past (Given g.row.P-Name.Denot g.row.P-Out.Denot g.row.P-In.Denot) g.row.P-Name.Denot g.row.P-Story.Denot). HasWhat p (g.H.Holder.holding c.args.holder.now)) (sym c.self.view_is) c.requires.has in
    let at = may_shake_at g.P.Pipes.known.out_name g.P.Pipes.known.in_name c.self.inside.state _ _ c.args.session c.args.peer c.self.invariant may (g.H.Holder.holding c.args.holder.now) c.own_end-first.result first_is (c.needs.ensures _ stands) has c.requires.lent marked in
    let d : Shook g.P.Pipes.known.out_name g.P.Pipes.known.in_name c.self.inside.state _ _ c.args.session c.args.peer (g.H.Holder.holding c.args.holder.now) = record {
      plane = c.self.invariant;
      may = may;
      kind = c.requires.kind;
      has = has;
      notes = c.in_ok-notes.notes;
      t = c.shake.new.state;
      k = (g.H.Holder.holding c.shake.new.holder);
      shakes = shakes_own g.P.Pipes.known.out_name g.P.Pipes.known.in_name c.self.inside.state _ _ c.args.session c.args.peer c.self.invariant may (g.H.Holder.holding c.args.holder.now) c.own_end-first.result first_is c.in_ok-notes.notes c.shake.new.state (g.H.Holder.holding c.shake.new.holder) c.in_ok-identity.identity c.in_ok-identity.ensures (c.in_ok-notes.ensures.ok at);
      a = c.with_notes.result;
      noted = c.with_notes.ensures;
    } in
    let step = event_now c.args.self.now c.self.inside.workers c.self.inside.events c.push.new.self _ _ _ (sym c.self.view_is) c.push.ensures (shaken_given g.P.Pipes.known.out_name g.P.Pipes.known.in_name c.self.inside.state _ _ c.args.session c.args.peer (g.H.Holder.holding c.args.holder.now) d) in
    record { answered = c.with_notes.result; step = step }

pub returns-clause-same : goal.returns-clause-same
returns-clause-same g c =
    let stands = c.self.invariant.history.stands in
    let may = subst (λ (p : Past (Given g.row.P-Name.Denot g.row.P-Out.Denot g.row.P-In.Denot) g.row.P-Name.Denot g.row.P-Story.Denot). MayShake (control_of p) c.args.session.0) (sym c.self.view_is) c.requires.may in
    let marked = subst (λ (p : Past (Given g.row.P-Name.Denot g.row.P-Out.Denot g.row.P-In.Denot) g.row.P-Name.Denot g.row.P-Story.Denot). HasMarks (obj (control_of p).rows c.args.session.0)) (sym c.self.view_is) c.requires.marked in
    let first_is = c.own_end-first.ensures _ stands in
    let has = subst (λ (p : Past (Given g.row.P-Name.Denot g.row.P-Out.Denot g.row.P-In.Denot) g.row.P-Name.Denot g.row.P-Story.Denot). HasWhat p (g.H.Holder.holding c.args.holder.now)) (sym c.self.view_is) c.requires.has in
    let at = may_shake_at g.P.Pipes.known.out_name g.P.Pipes.known.in_name c.self.inside.state _ _ c.args.session c.args.peer c.self.invariant may (g.H.Holder.holding c.args.holder.now) c.own_end-first.result first_is (c.needs.ensures _ stands) has c.requires.lent marked in
    let done = c.in_ok-notes.ensures.ok at in
    record { objects = done.holds; kinds = done.kinds; output = done.output }

pub returns-clause-keeps : goal.returns-clause-keeps
returns-clause-keeps g c =
    let inner : Past (Given g.row.P-Name.Denot g.row.P-Out.Denot g.row.P-In.Denot) g.row.P-Name.Denot g.row.P-Story.Denot = record { workers = c.self.inside.workers; events = c.self.inside.events.items; given = given_in c.self.inside.state.boxes } in
    let stands = c.self.invariant.history.stands in
    let may = subst (λ (p : Past (Given g.row.P-Name.Denot g.row.P-Out.Denot g.row.P-In.Denot) g.row.P-Name.Denot g.row.P-Story.Denot). MayShake (control_of p) c.args.session.0) (sym c.self.view_is) c.requires.may in
    let marked = subst (λ (p : Past (Given g.row.P-Name.Denot g.row.P-Out.Denot g.row.P-In.Denot) g.row.P-Name.Denot g.row.P-Story.Denot). HasMarks (obj (control_of p).rows c.args.session.0)) (sym c.self.view_is) c.requires.marked in
    let first_is = c.own_end-first.ensures _ stands in
    let has = subst (λ (p : Past (Given g.row.P-Name.Denot g.row.P-Out.Denot g.row.P-In.Denot) g.row.P-Name.Denot g.row.P-Story.Denot). HasWhat p (g.H.Holder.holding c.args.holder.now)) (sym c.self.view_is) c.requires.has in
    let at = may_shake_at g.P.Pipes.known.out_name g.P.Pipes.known.in_name c.self.inside.state _ _ c.args.session c.args.peer c.self.invariant may (g.H.Holder.holding c.args.holder.now) c.own_end-first.result first_is (c.needs.ensures _ stands) has c.requires.lent marked in
    let d : Shook g.P.Pipes.known.out_name g.P.Pipes.known.in_name c.self.inside.state _ _ c.args.session c.args.peer (g.H.Holder.holding c.args.holder.now) = record {
      plane = c.self.invariant;
      may = may;
      kind = c.requires.kind;
      has = has;
      notes = c.in_ok-notes.notes;
      t = c.shake.new.state;
      k = (g.H.Holder.holding c.shake.new.holder);
      shakes = shakes_own g.P.Pipes.known.out_name g.P.Pipes.known.in_name c.self.inside.state _ _ c.args.session c.args.peer c.self.invariant may (g.H.Holder.holding c.args.holder.now) c.own_end-first.result first_is c.in_ok-notes.notes c.shake.new.state (g.H.Holder.holding c.shake.new.holder) c.in_ok-identity.identity c.in_ok-identity.ensures (c.in_ok-notes.ensures.ok at);
      a = c.with_notes.result;
      noted = c.with_notes.ensures;
    } in
    subst (λ (p : Past (Given g.row.P-Name.Denot g.row.P-Out.Denot g.row.P-In.Denot) g.row.P-Name.Denot g.row.P-Story.Denot). HasWhat p (g.H.Holder.holding c.shake.new.holder))
    (sym (event_now inner c.self.inside.workers c.self.inside.events c.push.new.self _ _ _ refl c.push.ensures (shaken_given g.P.Pipes.known.out_name g.P.Pipes.known.in_name c.self.inside.state _ _ c.args.session c.args.peer (g.H.Holder.holding c.args.holder.now) d)))
    (shaken_keeps g.P.Pipes.known.out_name g.P.Pipes.known.in_name c.self.inside.state _ _ c.args.session c.args.peer (g.H.Holder.holding c.args.holder.now) d)

pub returns-clause-turned : goal.returns-clause-turned
returns-clause-turned g c =
    let stands = c.self.invariant.history.stands in
    let may = subst (λ (p : Past (Given g.row.P-Name.Denot g.row.P-Out.Denot g.row.P-In.Denot) g.row.P-Name.Denot g.row.P-Story.Denot). MayShake (control_of p) c.args.session.0) (sym c.self.view_is) c.requires.may in
    let marked = subst (λ (p : Past (Given g.row.P-Name.Denot g.row.P-Out.Denot g.row.P-In.Denot) g.row.P-Name.Denot g.row.P-Story.Denot). HasMarks (obj (control_of p).rows c.args.session.0)) (sym c.self.view_is) c.requires.marked in
    let first_is = c.own_end-first.ensures _ stands in
    let has = subst (λ (p : Past (Given g.row.P-Name.Denot g.row.P-Out.Denot g.row.P-In.Denot) g.row.P-Name.Denot g.row.P-Story.Denot). HasWhat p (g.H.Holder.holding c.args.holder.now)) (sym c.self.view_is) c.requires.has in
    let at = may_shake_at g.P.Pipes.known.out_name g.P.Pipes.known.in_name c.self.inside.state _ _ c.args.session c.args.peer c.self.invariant may (g.H.Holder.holding c.args.holder.now) c.own_end-first.result first_is (c.needs.ensures _ stands) has c.requires.lent marked in
    let d : Shook g.P.Pipes.known.out_name g.P.Pipes.known.in_name c.self.inside.state _ _ c.args.session c.args.peer (g.H.Holder.holding c.args.holder.now) = record {
      plane = c.self.invariant;
      may = may;
      kind = c.requires.kind;
      has = has;
      notes = c.in_ok-notes.notes;
      t = c.shake.new.state;
      k = (g.H.Holder.holding c.shake.new.holder);
      shakes = shakes_own g.P.Pipes.known.out_name g.P.Pipes.known.in_name c.self.inside.state _ _ c.args.session c.args.peer c.self.invariant may (g.H.Holder.holding c.args.holder.now) c.own_end-first.result first_is c.in_ok-notes.notes c.shake.new.state (g.H.Holder.holding c.shake.new.holder) c.in_ok-identity.identity c.in_ok-identity.ensures (c.in_ok-notes.ensures.ok at);
      a = c.with_notes.result;
      noted = c.with_notes.ensures;
    } in
    let step = event_now c.args.self.now c.self.inside.workers c.self.inside.events c.push.new.self _ _ _ (sym c.self.view_is) c.push.ensures (shaken_given g.P.Pipes.known.out_name g.P.Pipes.known.in_name c.self.inside.state _ _ c.args.session c.args.peer (g.H.Holder.holding c.args.holder.now) d) in
    subst (λ (p : Past (Given g.row.P-Name.Denot g.row.P-Out.Denot g.row.P-In.Denot) g.row.P-Name.Denot g.row.P-Story.Denot). HasTurned (control_of c.args.self.now) (control_of p) (g.H.Holder.holding c.args.holder.now) (g.H.Holder.holding c.shake.new.holder)) (sym step)
    (subst (λ (p : Past (Given g.row.P-Name.Denot g.row.P-Out.Denot g.row.P-In.Denot) g.row.P-Name.Denot g.row.P-Story.Denot). HasTurned (control_of p) (control_of (with_event (Asked (Shaken c.args.session c.args.peer) Done c.with_notes.result) p)) (g.H.Holder.holding c.args.holder.now) (g.H.Holder.holding c.shake.new.holder)) c.self.view_is
    (shaken_turned g.P.Pipes.known.out_name g.P.Pipes.known.in_name c.self.inside.state _ _ c.args.session c.args.peer (g.H.Holder.holding c.args.holder.now) d))

pub returns-clause-joins : goal.returns-clause-joins
returns-clause-joins g c =
    let stands = c.self.invariant.history.stands in
    let may = subst (λ (p : Past (Given g.row.P-Name.Denot g.row.P-Out.Denot g.row.P-In.Denot) g.row.P-Name.Denot g.row.P-Story.Denot). MayShake (control_of p) c.args.session.0) (sym c.self.view_is) c.requires.may in
    let marked = subst (λ (p : Past (Given g.row.P-Name.Denot g.row.P-Out.Denot g.row.P-In.Denot) g.row.P-Name.Denot g.row.P-Story.Denot). HasMarks (obj (control_of p).rows c.args.session.0)) (sym c.self.view_is) c.requires.marked in
    let first_is = c.own_end-first.ensures _ stands in
    let has = subst (λ (p : Past (Given g.row.P-Name.Denot g.row.P-Out.Denot g.row.P-In.Denot) g.row.P-Name.Denot g.row.P-Story.Denot). HasWhat p (g.H.Holder.holding c.args.holder.now)) (sym c.self.view_is) c.requires.has in
    let at = may_shake_at g.P.Pipes.known.out_name g.P.Pipes.known.in_name c.self.inside.state _ _ c.args.session c.args.peer c.self.invariant may (g.H.Holder.holding c.args.holder.now) c.own_end-first.result first_is (c.needs.ensures _ stands) has c.requires.lent marked in
    let d : Shook g.P.Pipes.known.out_name g.P.Pipes.known.in_name c.self.inside.state _ _ c.args.session c.args.peer (g.H.Holder.holding c.args.holder.now) = record {
      plane = c.self.invariant;
      may = may;
      kind = c.requires.kind;
      has = has;
      notes = c.in_ok-notes.notes;
      t = c.shake.new.state;
      k = (g.H.Holder.holding c.shake.new.holder);
      shakes = shakes_own g.P.Pipes.known.out_name g.P.Pipes.known.in_name c.self.inside.state _ _ c.args.session c.args.peer c.self.invariant may (g.H.Holder.holding c.args.holder.now) c.own_end-first.result first_is c.in_ok-notes.notes c.shake.new.state (g.H.Holder.holding c.shake.new.holder) c.in_ok-identity.identity c.in_ok-identity.ensures (c.in_ok-notes.ensures.ok at);
      a = c.with_notes.result;
      noted = c.with_notes.ensures;
    } in
    let step = event_now c.args.self.now c.self.inside.workers c.self.inside.events c.push.new.self _ _ _ (sym c.self.view_is) c.push.ensures (shaken_given g.P.Pipes.known.out_name g.P.Pipes.known.in_name c.self.inside.state _ _ c.args.session c.args.peer (g.H.Holder.holding c.args.holder.now) d) in
    subst (λ (p : Past (Given g.row.P-Name.Denot g.row.P-Out.Denot g.row.P-In.Denot) g.row.P-Name.Denot g.row.P-Story.Denot). ComesWith c.args.self.now p (g.H.Holder.holding c.args.holder.now) (g.H.Holder.holding c.shake.new.holder)) (sym step)
    (subst (λ (p : Past (Given g.row.P-Name.Denot g.row.P-Out.Denot g.row.P-In.Denot) g.row.P-Name.Denot g.row.P-Story.Denot). ComesWith p (with_event (Asked (Shaken c.args.session c.args.peer) Done c.with_notes.result) p) (g.H.Holder.holding c.args.holder.now) (g.H.Holder.holding c.shake.new.holder)) c.self.view_is
    (shaken_comes g.P.Pipes.known.out_name g.P.Pipes.known.in_name c.self.inside.state _ _ c.args.session c.args.peer (g.H.Holder.holding c.args.holder.now) d))
