use Rattle.std.specs.Prelude.{◌≡◌, ◌&&◌, ◌==◌, ◌<◌, ◌++◌, ◌∷◌, ℕ, true, List, Option, refl}
use Rattle.zq_base.specs.declared.ids.EndId.{EndId}
use Rattle.std.specs.List.{list_any}
use Rattle.std.proofs.Common.{ap, sym, ◌∙◌, subst}
use Rattle.mailbox.specs.Mail.{with_put_back}
use Rattle.spec_control.specs.ControlRun.{is_between}
use Rattle.desk.specs.declared.given.Given.{Given}
use Rattle.desk.specs.TakingOver.{AreDistinct, MayTakeFirst}
use Rattle.ctl_moves.proofs.TakeOverLemmas.{heard_apart}
use Rattle.spec_control.specs.Names.{name_of}
use Rattle.desk.specs.declared.load.Load.{Load}
use Rattle.ctl_state.specs.declared.state.State.{State}
use Rattle.ctl_state.specs.Boxes.{mail_at, with_mail}
use Rattle.ctl_state.specs.Listed.{Listed}
use Rattle.ctl_state.specs.Parts.{on_boxes}
use Rattle.spec_control.specs.declared.entry.Did.{Did}
use Rattle.spec_control.specs.declared.entry.Did.TheVariants.{Delivered}
use Rattle.spec_control.specs.declared.letter.Word.{Word}
use Rattle.spec_control.specs.After.{after, without_front}
use Rattle.spec_control.specs.PairPhase.{behind_first}
use Rattle.desk.specs.Turns.{HasTurned}
use Rattle.ctl_moves.proofs.TurnedLemmas.{turns_none, turns_same}
use Rattle.ctl_plane.specs.Past.{Past, control_of, items_of, with_event}
use Rattle.ctl_plane.proofs.ToldLemmas.{event_told, once_attached, past_told}
use Rattle.ctl_moves.proofs.OnceLemmas.{told_before}
use Rattle.ctl_plane.specs.Carried.{given_in}
use Rattle.desk.specs.Bringing.{BringsFirst}
use Rattle.ctl_plane.specs.Hearing.{AreApart, AreOfKind, FitBinds, HasPlugged, IsServed, HasWhat}
use Rattle.ctl_moves.specs.Processing.{AreFree}
use Rattle.ctl_plane.proofs.DoneLemmas.{event_with, goes_back}
use Rattle.ctl_plane.proofs.PlaneLemmas.{planed_now}
use Rattle.ctl_plane.proofs.PlaneDoneLemmas.{took_lists, taken_there, back_given, back_plane, stays_there}
use Rattle.ctl_plane.proofs.DeliverLemmas.{may_hear, writer_named, reap_in_roots, take_first, fits_first, delivers, delivers_entry, delivers_brings, delivers_keeps, delivers_left}
use Rattle.ctl_plane.proofs.PlugLemmas.{by_plug, plug_first}
use Rattle.desk.specs.Output.{LeavesIn, LeavesOnce}
use Rattle.ctl_plane.specs.Coming.{ComesWith}
use Rattle.desk.specs.Counts.{CountsOnce}
use Rattle.desk.specs.declared.notice.Notice.{Notice}
use Rattle.ctl_plane.proofs.ComeLemmas.{heard_rows, objects_come, past_comes, none_counts, none_leaves, one_counts, one_leaves}
use Rattle.std.specs.Prelude.{Bool, false, []}
use Rattle.spec_control.specs.declared.letter.Letter.{Letter}
use Rattle.ctl_moves.specs.Attaching.{binds_end}
use Rattle.control_laws.proofs.ListLemmas.{never}
use Rattle.ctl_plane.proofs.history.History.deliver.Goals as goal

-- the first of these letters attaches an end, or there is none
abbrev first_binds : List Letter → Bool
first_binds [] = true
first_binds (l ∷ ls) = binds_end l.word

-- there is a first one
abbrev some_first : List Letter → Bool
some_first [] = false
some_first (l ∷ ls) = true

pub process-requires-clause-may : goal.process-requires-clause-may
process-requires-clause-may g c =
    may_hear g.P.Pipes.known.out_name g.P.Pipes.known.in_name c.self.inside.state c.take.new.self _ _ c.args.slot c.in-Some.command c.self.invariant (took_lists c.self.inside.state c.take.new.self _ c.in-Some.ensures.rest) c.in-Some.ensures.boxes c.in-Some.ensures.stands (c.in-Some.ensures.front _ c.self.invariant.history.stands) (g.H.Holder.holding c.args.holder.now)
    (subst (λ (p : Past (Given g.row.P-Name.Denot g.row.P-Out.Denot g.row.P-In.Denot) g.row.P-Name.Denot g.row.P-Story.Denot). HasWhat p (g.H.Holder.holding c.args.holder.now)) (sym c.self.view_is) c.requires.has)
    (subst (λ (p : Past (Given g.row.P-Name.Denot g.row.P-Out.Denot g.row.P-In.Denot) g.row.P-Name.Denot g.row.P-Story.Denot). (i : ℕ) → IsServed (control_of p) c.args.slot.0 i → (g.H.Holder.holding c.args.holder.now).holds i ≡ true) (sym c.self.view_is) c.requires.lent)
    (subst (λ (p : Past (Given g.row.P-Name.Denot g.row.P-Out.Denot g.row.P-In.Denot) g.row.P-Name.Denot g.row.P-Story.Denot). c.args.slot.0 ≡ 0 → AreFree (control_of p) (g.H.Holder.holding c.args.holder.now)) (sym c.self.view_is) c.requires.free)
    (subst (λ (p : Past (Given g.row.P-Name.Denot g.row.P-Out.Denot g.row.P-In.Denot) g.row.P-Name.Denot g.row.P-Story.Denot). AreOfKind (control_of p) c.args.slot.0 (g.H.Holder.holding c.args.holder.now)) (sym c.self.view_is) c.requires.kinds)
    (subst (λ (p : Past (Given g.row.P-Name.Denot g.row.P-Out.Denot g.row.P-In.Denot) g.row.P-Name.Denot g.row.P-Story.Denot). HasPlugged (control_of p) (g.H.Holder.holding c.args.holder.now)) (sym c.self.view_is) c.requires.plugged)

pub process-requires-clause-reaps : goal.process-requires-clause-reaps
process-requires-clause-reaps g c = λ brings. c.requires.reaps (reap_in_roots g.P.Pipes.known.out_name g.P.Pipes.known.in_name c.self.inside.state c.take.new.self _ _ c.args.slot c.in-Some.command c.self.invariant (took_lists c.self.inside.state c.take.new.self _ c.in-Some.ensures.rest) c.in-Some.ensures.boxes c.in-Some.ensures.stands (c.in-Some.ensures.front _ c.self.invariant.history.stands) brings)

pub process-requires-clause-takes : goal.process-requires-clause-takes
process-requires-clause-takes g c =
    take_first g.P.Pipes.known.out_name g.P.Pipes.known.in_name c.self.inside.state c.take.new.self _ _ c.args.slot c.in-Some.command c.self.invariant (took_lists c.self.inside.state c.take.new.self _ c.in-Some.ensures.rest) c.in-Some.ensures.boxes c.in-Some.ensures.stands (c.in-Some.ensures.front _ c.self.invariant.history.stands) (g.H.Holder.may_take c.args.holder.now)
    (subst (λ (p : Past (Given g.row.P-Name.Denot g.row.P-Out.Denot g.row.P-In.Denot) g.row.P-Name.Denot g.row.P-Story.Denot). c.args.slot.0 ≡ 0 → MayTakeFirst (g.H.Holder.may_take c.args.holder.now) (control_of p) p.given) (sym c.self.view_is) c.requires.takes)

pub process-requires-clause-come : goal.process-requires-clause-come
process-requires-clause-come g c = λ brings.
    let lists = took_lists c.self.inside.state c.take.new.self _ c.in-Some.ensures.rest in
    let front = c.in-Some.ensures.front _ c.self.invariant.history.stands in
    let hear = may_hear g.P.Pipes.known.out_name g.P.Pipes.known.in_name c.self.inside.state c.take.new.self _ _ c.args.slot c.in-Some.command c.self.invariant lists c.in-Some.ensures.boxes c.in-Some.ensures.stands front (g.H.Holder.holding c.args.holder.now)
    (subst (λ (p : Past (Given g.row.P-Name.Denot g.row.P-Out.Denot g.row.P-In.Denot) g.row.P-Name.Denot g.row.P-Story.Denot). HasWhat p (g.H.Holder.holding c.args.holder.now)) (sym c.self.view_is) c.requires.has)
    (subst (λ (p : Past (Given g.row.P-Name.Denot g.row.P-Out.Denot g.row.P-In.Denot) g.row.P-Name.Denot g.row.P-Story.Denot). (i : ℕ) → IsServed (control_of p) c.args.slot.0 i → (g.H.Holder.holding c.args.holder.now).holds i ≡ true) (sym c.self.view_is) c.requires.lent)
    (subst (λ (p : Past (Given g.row.P-Name.Denot g.row.P-Out.Denot g.row.P-In.Denot) g.row.P-Name.Denot g.row.P-Story.Denot). c.args.slot.0 ≡ 0 → AreFree (control_of p) (g.H.Holder.holding c.args.holder.now)) (sym c.self.view_is) c.requires.free)
    (subst (λ (p : Past (Given g.row.P-Name.Denot g.row.P-Out.Denot g.row.P-In.Denot) g.row.P-Name.Denot g.row.P-Story.Denot). AreOfKind (control_of p) c.args.slot.0 (g.H.Holder.holding c.args.holder.now)) (sym c.self.view_is) c.requires.kinds)
    (subst (λ (p : Past (Given g.row.P-Name.Denot g.row.P-Out.Denot g.row.P-In.Denot) g.row.P-Name.Denot g.row.P-Story.Denot). HasPlugged (control_of p) (g.H.Holder.holding c.args.holder.now)) (sym c.self.view_is) c.requires.plugged) in
    let root = reap_in_roots g.P.Pipes.known.out_name g.P.Pipes.known.in_name c.self.inside.state c.take.new.self _ _ c.args.slot c.in-Some.command c.self.invariant lists c.in-Some.ensures.boxes c.in-Some.ensures.stands front brings in
    heard_apart g.P.Pipes.known.out_name g.P.Pipes.known.in_name g.P.Pipes.known.exact hear.names hear.control c.take.new.self (g.H.Holder.holding c.args.holder.now) hear.stands hear.has
    (once_attached (let p : Past (Given g.row.P-Name.Denot g.row.P-Out.Denot g.row.P-In.Denot) g.row.P-Name.Denot g.row.P-Story.Denot = record { workers = c.self.inside.workers; events = c.self.inside.events.items; given = given_in c.self.inside.state.boxes } in p) c.self.invariant.history.run)
    (subst (λ (p : Past (Given g.row.P-Name.Denot g.row.P-Out.Denot g.row.P-In.Denot) g.row.P-Name.Denot g.row.P-Story.Denot). AreDistinct g.P.Pipes.known.exact (name_of (items_of p))) (sym c.self.view_is) (c.requires.distinct root))
    c.in-Some.command.letter.to.0 c.in-Some.command.letter.word c.in-Some.command.load brings hear.ends

pub process-requires-clause-serves : goal.process-requires-clause-serves
process-requires-clause-serves g c = λ is.
    by_plug c.in-Some.command.letter.word is (λ end same. c.requires.plugs c.in-Some.command.letter.to end _
    (plug_first c.in-Some.command.letter
    (ap (λ (p : Past (Given g.row.P-Name.Denot g.row.P-Out.Denot g.row.P-In.Denot) g.row.P-Name.Denot g.row.P-Story.Denot). (control_of p).boxes c.args.slot.0) (sym c.self.view_is) ∙ c.in-Some.ensures.front _ c.self.invariant.history.stands) end same))

pub process-requires-clause-fits : goal.process-requires-clause-fits
process-requires-clause-fits g c =
    fits_first g.P.Pipes.known.out_name g.P.Pipes.known.in_name c.self.inside.state c.take.new.self _ _ c.args.slot c.in-Some.command c.self.invariant (took_lists c.self.inside.state c.take.new.self _ c.in-Some.ensures.rest) c.in-Some.ensures.boxes c.in-Some.ensures.stands (c.in-Some.ensures.front _ c.self.invariant.history.stands) (λ h. (e : EndId) → g.H.Holder.fits c.args.holder.now e h)
    (subst (λ (p : Past (Given g.row.P-Name.Denot g.row.P-Out.Denot g.row.P-In.Denot) g.row.P-Name.Denot g.row.P-Story.Denot). FitBinds g.P.Pipes.known.out_name g.P.Pipes.known.in_name p c.args.slot.0 (λ h. (e : EndId) → g.H.Holder.fits c.args.holder.now e h)) (sym c.self.view_is) c.requires.fits)

pub push-requires : goal.push-requires
push-requires g c =
    let front = c.in-Some.ensures.front _ c.self.invariant.history.stands in
    let hear = may_hear g.P.Pipes.known.out_name g.P.Pipes.known.in_name c.self.inside.state c.take.new.self _ _ c.args.slot c.in-Some.command c.self.invariant (took_lists c.self.inside.state c.take.new.self _ c.in-Some.ensures.rest) c.in-Some.ensures.boxes c.in-Some.ensures.stands front (g.H.Holder.holding c.args.holder.now)
    (subst (λ (p : Past (Given g.row.P-Name.Denot g.row.P-Out.Denot g.row.P-In.Denot) g.row.P-Name.Denot g.row.P-Story.Denot). HasWhat p (g.H.Holder.holding c.args.holder.now)) (sym c.self.view_is) c.requires.has)
    (subst (λ (p : Past (Given g.row.P-Name.Denot g.row.P-Out.Denot g.row.P-In.Denot) g.row.P-Name.Denot g.row.P-Story.Denot). (i : ℕ) → IsServed (control_of p) c.args.slot.0 i → (g.H.Holder.holding c.args.holder.now).holds i ≡ true) (sym c.self.view_is) c.requires.lent)
    (subst (λ (p : Past (Given g.row.P-Name.Denot g.row.P-Out.Denot g.row.P-In.Denot) g.row.P-Name.Denot g.row.P-Story.Denot). c.args.slot.0 ≡ 0 → AreFree (control_of p) (g.H.Holder.holding c.args.holder.now)) (sym c.self.view_is) c.requires.free)
    (subst (λ (p : Past (Given g.row.P-Name.Denot g.row.P-Out.Denot g.row.P-In.Denot) g.row.P-Name.Denot g.row.P-Story.Denot). AreOfKind (control_of p) c.args.slot.0 (g.H.Holder.holding c.args.holder.now)) (sym c.self.view_is) c.requires.kinds)
    (subst (λ (p : Past (Given g.row.P-Name.Denot g.row.P-Out.Denot g.row.P-In.Denot) g.row.P-Name.Denot g.row.P-Story.Denot). HasPlugged (control_of p) (g.H.Holder.holding c.args.holder.now)) (sym c.self.view_is) c.requires.plugged) in
    let held = ap (λ (p : Past (Given g.row.P-Name.Denot g.row.P-Out.Denot g.row.P-In.Denot) g.row.P-Name.Denot g.row.P-Story.Denot). list_any (λ o. is_between o && o.slot == c.args.slot.0) (control_of p).rows.objects) c.self.view_is ∙ c.requires.held in
    record {
      room = delivers_entry g.P.Pipes.known.out_name g.P.Pipes.known.in_name c.self.inside.state c.take.new.self _ _ c.args.slot c.in-Some.command c.self.invariant (took_lists c.self.inside.state c.take.new.self _ c.in-Some.ensures.rest) c.in-Some.ensures.boxes c.in-Some.ensures.stands front
          c.process.new.state (g.H.Holder.holding c.args.holder.now) (g.H.Holder.holding c.process.new.holder) c.in-Ok.answered held (c.in-Ok.ensures.heard hear);
    }

pub invariant_of-self-in-Ok : goal.invariant_of-self-in-Ok
invariant_of-self-in-Ok g c =
    let front = c.in-Some.ensures.front _ c.self.invariant.history.stands in
    let hear = may_hear g.P.Pipes.known.out_name g.P.Pipes.known.in_name c.self.inside.state c.take.new.self _ _ c.args.slot c.in-Some.command c.self.invariant (took_lists c.self.inside.state c.take.new.self _ c.in-Some.ensures.rest) c.in-Some.ensures.boxes c.in-Some.ensures.stands front (g.H.Holder.holding c.args.holder.now)
    (subst (λ (p : Past (Given g.row.P-Name.Denot g.row.P-Out.Denot g.row.P-In.Denot) g.row.P-Name.Denot g.row.P-Story.Denot). HasWhat p (g.H.Holder.holding c.args.holder.now)) (sym c.self.view_is) c.requires.has)
    (subst (λ (p : Past (Given g.row.P-Name.Denot g.row.P-Out.Denot g.row.P-In.Denot) g.row.P-Name.Denot g.row.P-Story.Denot). (i : ℕ) → IsServed (control_of p) c.args.slot.0 i → (g.H.Holder.holding c.args.holder.now).holds i ≡ true) (sym c.self.view_is) c.requires.lent)
    (subst (λ (p : Past (Given g.row.P-Name.Denot g.row.P-Out.Denot g.row.P-In.Denot) g.row.P-Name.Denot g.row.P-Story.Denot). c.args.slot.0 ≡ 0 → AreFree (control_of p) (g.H.Holder.holding c.args.holder.now)) (sym c.self.view_is) c.requires.free)
    (subst (λ (p : Past (Given g.row.P-Name.Denot g.row.P-Out.Denot g.row.P-In.Denot) g.row.P-Name.Denot g.row.P-Story.Denot). AreOfKind (control_of p) c.args.slot.0 (g.H.Holder.holding c.args.holder.now)) (sym c.self.view_is) c.requires.kinds)
    (subst (λ (p : Past (Given g.row.P-Name.Denot g.row.P-Out.Denot g.row.P-In.Denot) g.row.P-Name.Denot g.row.P-Story.Denot). HasPlugged (control_of p) (g.H.Holder.holding c.args.holder.now)) (sym c.self.view_is) c.requires.plugged) in
    let held = ap (λ (p : Past (Given g.row.P-Name.Denot g.row.P-Out.Denot g.row.P-In.Denot) g.row.P-Name.Denot g.row.P-Story.Denot). list_any (λ o. is_between o && o.slot == c.args.slot.0) (control_of p).rows.objects) c.self.view_is ∙ c.requires.held in
    planed_now g.P.Pipes.known.out_name g.P.Pipes.known.in_name c.process.new.state c.self.inside.workers c.self.inside.events c.push.new.self _ _ _ c.push.ensures
    (delivers g.P.Pipes.known.out_name g.P.Pipes.known.in_name c.self.inside.state c.take.new.self _ _ c.args.slot c.in-Some.command c.self.invariant (took_lists c.self.inside.state c.take.new.self _ c.in-Some.ensures.rest) c.in-Some.ensures.boxes c.in-Some.ensures.stands front
    c.process.new.state (g.H.Holder.holding c.args.holder.now) (g.H.Holder.holding c.process.new.holder) c.in-Ok.answered held (c.in-Ok.ensures.heard hear))

pub returns-in-Ok-clause-ok : goal.returns-in-Ok-clause-ok
returns-in-Ok-clause-ok g c =
    let front = c.in-Some.ensures.front _ c.self.invariant.history.stands in
    let hear = may_hear g.P.Pipes.known.out_name g.P.Pipes.known.in_name c.self.inside.state c.take.new.self _ _ c.args.slot c.in-Some.command c.self.invariant (took_lists c.self.inside.state c.take.new.self _ c.in-Some.ensures.rest) c.in-Some.ensures.boxes c.in-Some.ensures.stands front (g.H.Holder.holding c.args.holder.now)
    (subst (λ (p : Past (Given g.row.P-Name.Denot g.row.P-Out.Denot g.row.P-In.Denot) g.row.P-Name.Denot g.row.P-Story.Denot). HasWhat p (g.H.Holder.holding c.args.holder.now)) (sym c.self.view_is) c.requires.has)
    (subst (λ (p : Past (Given g.row.P-Name.Denot g.row.P-Out.Denot g.row.P-In.Denot) g.row.P-Name.Denot g.row.P-Story.Denot). (i : ℕ) → IsServed (control_of p) c.args.slot.0 i → (g.H.Holder.holding c.args.holder.now).holds i ≡ true) (sym c.self.view_is) c.requires.lent)
    (subst (λ (p : Past (Given g.row.P-Name.Denot g.row.P-Out.Denot g.row.P-In.Denot) g.row.P-Name.Denot g.row.P-Story.Denot). c.args.slot.0 ≡ 0 → AreFree (control_of p) (g.H.Holder.holding c.args.holder.now)) (sym c.self.view_is) c.requires.free)
    (subst (λ (p : Past (Given g.row.P-Name.Denot g.row.P-Out.Denot g.row.P-In.Denot) g.row.P-Name.Denot g.row.P-Story.Denot). AreOfKind (control_of p) c.args.slot.0 (g.H.Holder.holding c.args.holder.now)) (sym c.self.view_is) c.requires.kinds)
    (subst (λ (p : Past (Given g.row.P-Name.Denot g.row.P-Out.Denot g.row.P-In.Denot) g.row.P-Name.Denot g.row.P-Story.Denot). HasPlugged (control_of p) (g.H.Holder.holding c.args.holder.now)) (sym c.self.view_is) c.requires.plugged) in
    let held = ap (λ (p : Past (Given g.row.P-Name.Denot g.row.P-Out.Denot g.row.P-In.Denot) g.row.P-Name.Denot g.row.P-Story.Denot). list_any (λ o. is_between o && o.slot == c.args.slot.0) (control_of p).rows.objects) c.self.view_is ∙ c.requires.held in
    record {
      letter = c.in-Some.command.letter;
      behind = _;
      oldest = ap (λ (p : Past (Given g.row.P-Name.Denot g.row.P-Out.Denot g.row.P-In.Denot) g.row.P-Name.Denot g.row.P-Story.Denot). (control_of p).boxes c.args.slot.0) (sym c.self.view_is) ∙ front;
      answered = c.in-Ok.answered;
      brings = subst (λ (p : Past (Given g.row.P-Name.Denot g.row.P-Out.Denot g.row.P-In.Denot) g.row.P-Name.Denot g.row.P-Story.Denot). BringsFirst g.P.Pipes.known.out_name g.P.Pipes.known.in_name c.in-Some.command.letter.word c.in-Ok.answered.joined p.given (given_in c.process.new.state.boxes)) c.self.view_is
          (delivers_brings g.P.Pipes.known.out_name g.P.Pipes.known.in_name c.self.inside.state c.take.new.self _ _ c.args.slot c.in-Some.command c.self.invariant (took_lists c.self.inside.state c.take.new.self _ c.in-Some.ensures.rest) c.in-Some.ensures.boxes c.in-Some.ensures.stands front
          c.process.new.state (g.H.Holder.holding c.args.holder.now) (g.H.Holder.holding c.process.new.holder) c.in-Ok.answered held (c.in-Ok.ensures.heard hear) c.in-Ok.ensures.brought);
      step = event_with c.args.self.now c.self.inside.workers c.self.inside.events c.push.new.self _ _ _ (sym c.self.view_is) c.push.ensures;
    }

pub returns-in-Ok-clause-keeps : goal.returns-in-Ok-clause-keeps
returns-in-Ok-clause-keeps g c =
    let front = c.in-Some.ensures.front _ c.self.invariant.history.stands in
    let hear = may_hear g.P.Pipes.known.out_name g.P.Pipes.known.in_name c.self.inside.state c.take.new.self _ _ c.args.slot c.in-Some.command c.self.invariant (took_lists c.self.inside.state c.take.new.self _ c.in-Some.ensures.rest) c.in-Some.ensures.boxes c.in-Some.ensures.stands front (g.H.Holder.holding c.args.holder.now)
    (subst (λ (p : Past (Given g.row.P-Name.Denot g.row.P-Out.Denot g.row.P-In.Denot) g.row.P-Name.Denot g.row.P-Story.Denot). HasWhat p (g.H.Holder.holding c.args.holder.now)) (sym c.self.view_is) c.requires.has)
    (subst (λ (p : Past (Given g.row.P-Name.Denot g.row.P-Out.Denot g.row.P-In.Denot) g.row.P-Name.Denot g.row.P-Story.Denot). (i : ℕ) → IsServed (control_of p) c.args.slot.0 i → (g.H.Holder.holding c.args.holder.now).holds i ≡ true) (sym c.self.view_is) c.requires.lent)
    (subst (λ (p : Past (Given g.row.P-Name.Denot g.row.P-Out.Denot g.row.P-In.Denot) g.row.P-Name.Denot g.row.P-Story.Denot). c.args.slot.0 ≡ 0 → AreFree (control_of p) (g.H.Holder.holding c.args.holder.now)) (sym c.self.view_is) c.requires.free)
    (subst (λ (p : Past (Given g.row.P-Name.Denot g.row.P-Out.Denot g.row.P-In.Denot) g.row.P-Name.Denot g.row.P-Story.Denot). AreOfKind (control_of p) c.args.slot.0 (g.H.Holder.holding c.args.holder.now)) (sym c.self.view_is) c.requires.kinds)
    (subst (λ (p : Past (Given g.row.P-Name.Denot g.row.P-Out.Denot g.row.P-In.Denot) g.row.P-Name.Denot g.row.P-Story.Denot). HasPlugged (control_of p) (g.H.Holder.holding c.args.holder.now)) (sym c.self.view_is) c.requires.plugged) in
    let held = ap (λ (p : Past (Given g.row.P-Name.Denot g.row.P-Out.Denot g.row.P-In.Denot) g.row.P-Name.Denot g.row.P-Story.Denot). list_any (λ o. is_between o && o.slot == c.args.slot.0) (control_of p).rows.objects) c.self.view_is ∙ c.requires.held in
    let keeps = delivers_keeps g.P.Pipes.known.out_name g.P.Pipes.known.in_name c.self.inside.state c.take.new.self _ _ c.args.slot c.in-Some.command c.self.invariant (took_lists c.self.inside.state c.take.new.self _ c.in-Some.ensures.rest) c.in-Some.ensures.boxes c.in-Some.ensures.stands front
    c.process.new.state (g.H.Holder.holding c.args.holder.now) (g.H.Holder.holding c.process.new.holder) c.in-Ok.answered held (c.in-Ok.ensures.heard hear) in
    subst (λ (l : Listed (Did g.row.P-Name.Denot g.row.P-Story.Denot)). HasWhat (let p : Past (Given g.row.P-Name.Denot g.row.P-Out.Denot g.row.P-In.Denot) g.row.P-Name.Denot g.row.P-Story.Denot = record { workers = c.self.inside.workers; events = l.items; given = given_in c.process.new.state.boxes } in p) (g.H.Holder.holding c.process.new.holder)) (sym c.push.ensures) keeps

pub invariant_of-self-in-Err : goal.invariant_of-self-in-Err
invariant_of-self-in-Err g c =
    let there = taken_there c.self.inside.state c.take.new.self _ c.args.slot c.self.invariant.history.stands c.in-Some.ensures.boxes
    (subst (λ (p : Past (Given g.row.P-Name.Denot g.row.P-Out.Denot g.row.P-In.Denot) g.row.P-Name.Denot g.row.P-Story.Denot). c.args.slot.0 < (control_of p).slots) (sym c.self.view_is) c.requires.there) in
    let is = subst (λ (x : Option (Load g.row.P-Name.Denot g.row.P-Out.Denot g.row.P-In.Denot)). c.put_back.new.self ≡ on_boxes (with_mail c.args.slot.0 (with_put_back (record { letter = c.in-Some.command.letter; load = x }) (mail_at c.process.new.state.boxes c.args.slot.0))) c.process.new.state) c.in-Err.ensures.back c.put_back.ensures.next in
    back_plane g.P.Pipes.known.out_name g.P.Pipes.known.in_name c.self.inside.state c.take.new.self c.process.new.state c.put_back.new.self c.self.inside.workers c.self.inside.events c.args.slot c.in-Some.command
    (ap (λ (x : State (Load g.row.P-Name.Denot g.row.P-Out.Denot g.row.P-In.Denot)). x.objects.lists) is ∙ ap (λ (x : State (Load g.row.P-Name.Denot g.row.P-Out.Denot g.row.P-In.Denot)). x.objects.lists) c.in-Err.ensures.err.0 ∙ took_lists c.self.inside.state c.take.new.self _ c.in-Some.ensures.rest) c.self.invariant
    (goes_back c.self.inside.state c.take.new.self c.process.new.state c.put_back.new.self _ _ c.args.slot c.in-Some.command c.self.invariant.history c.in-Some.ensures.boxes c.in-Err.ensures.err.0
    (c.in-Some.ensures.stands _ c.self.invariant.history.stands) (c.in-Some.ensures.front _ c.self.invariant.history.stands) c.put_back.ensures.stands is)
    c.in-Some.ensures.boxes there c.in-Err.ensures.err.0 is

pub returns-in-Err-clause-err : goal.returns-in-Err-clause-err
returns-in-Err-clause-err g c =
    let there = taken_there c.self.inside.state c.take.new.self _ c.args.slot c.self.invariant.history.stands c.in-Some.ensures.boxes
    (subst (λ (p : Past (Given g.row.P-Name.Denot g.row.P-Out.Denot g.row.P-In.Denot) g.row.P-Name.Denot g.row.P-Story.Denot). c.args.slot.0 < (control_of p).slots) (sym c.self.view_is) c.requires.there) in
    let is = subst (λ (x : Option (Load g.row.P-Name.Denot g.row.P-Out.Denot g.row.P-In.Denot)). c.put_back.new.self ≡ on_boxes (with_mail c.args.slot.0 (with_put_back (record { letter = c.in-Some.command.letter; load = x }) (mail_at c.process.new.state.boxes c.args.slot.0))) c.process.new.state) c.in-Err.ensures.back c.put_back.ensures.next in (
      stays_there g.P.Pipes.known.out_name g.P.Pipes.known.in_name c.args.self.now c.self.inside.workers c.self.inside.events _ _ c.self.view_is
          (back_given c.self.inside.state c.take.new.self c.process.new.state c.put_back.new.self c.args.slot c.in-Some.command c.in-Some.ensures.boxes there c.in-Err.ensures.err.0 is),
      c.in-Err.ensures.err.1,
    )

pub process-requires-clause-apart : goal.process-requires-clause-apart
process-requires-clause-apart g c = λ e writer word load.
    let inner : Past (Given g.row.P-Name.Denot g.row.P-Out.Denot g.row.P-In.Denot) g.row.P-Name.Denot g.row.P-Story.Denot = record { workers = c.self.inside.workers; events = c.self.inside.events.items; given = given_in c.self.inside.state.boxes } in
    let behind = behind_first ((control_of inner).boxes c.args.slot.0) in
    subst (λ (p : Past (Given g.row.P-Name.Denot g.row.P-Out.Denot g.row.P-In.Denot) g.row.P-Name.Denot g.row.P-Story.Denot). AreApart g.P.Pipes.known.exact p c.args.slot.0 (g.H.Holder.holding c.args.holder.now)) (sym c.self.view_is) c.requires.apart c.in-Some.command.letter.to e behind (g.P.Pipes.known.out_name writer)
    (c.in-Some.ensures.front _ c.self.invariant.history.stands ∙ ap (λ (w : Word). record { to = c.in-Some.command.letter.to; word = w } ∷ behind) word)
    (writer_named g.P.Pipes.known.out_name g.P.Pipes.known.in_name c.self.inside.state c.take.new.self _ _ c.args.slot c.in-Some.command c.self.invariant (took_lists c.self.inside.state c.take.new.self _ c.in-Some.ensures.rest) c.in-Some.ensures.boxes c.in-Some.ensures.stands
    (c.in-Some.ensures.front _ c.self.invariant.history.stands) e writer word load)

pub returns-in-Ok-clause-turned : goal.returns-in-Ok-clause-turned
returns-in-Ok-clause-turned g c =
    let front = c.in-Some.ensures.front _ c.self.invariant.history.stands in
    let hear = may_hear g.P.Pipes.known.out_name g.P.Pipes.known.in_name c.self.inside.state c.take.new.self _ _ c.args.slot c.in-Some.command c.self.invariant (took_lists c.self.inside.state c.take.new.self _ c.in-Some.ensures.rest) c.in-Some.ensures.boxes c.in-Some.ensures.stands front (g.H.Holder.holding c.args.holder.now)
    (subst (λ (p : Past (Given g.row.P-Name.Denot g.row.P-Out.Denot g.row.P-In.Denot) g.row.P-Name.Denot g.row.P-Story.Denot). HasWhat p (g.H.Holder.holding c.args.holder.now)) (sym c.self.view_is) c.requires.has)
    (subst (λ (p : Past (Given g.row.P-Name.Denot g.row.P-Out.Denot g.row.P-In.Denot) g.row.P-Name.Denot g.row.P-Story.Denot). (i : ℕ) → IsServed (control_of p) c.args.slot.0 i → (g.H.Holder.holding c.args.holder.now).holds i ≡ true) (sym c.self.view_is) c.requires.lent)
    (subst (λ (p : Past (Given g.row.P-Name.Denot g.row.P-Out.Denot g.row.P-In.Denot) g.row.P-Name.Denot g.row.P-Story.Denot). c.args.slot.0 ≡ 0 → AreFree (control_of p) (g.H.Holder.holding c.args.holder.now)) (sym c.self.view_is) c.requires.free)
    (subst (λ (p : Past (Given g.row.P-Name.Denot g.row.P-Out.Denot g.row.P-In.Denot) g.row.P-Name.Denot g.row.P-Story.Denot). AreOfKind (control_of p) c.args.slot.0 (g.H.Holder.holding c.args.holder.now)) (sym c.self.view_is) c.requires.kinds)
    (subst (λ (p : Past (Given g.row.P-Name.Denot g.row.P-Out.Denot g.row.P-In.Denot) g.row.P-Name.Denot g.row.P-Story.Denot). HasPlugged (control_of p) (g.H.Holder.holding c.args.holder.now)) (sym c.self.view_is) c.requires.plugged) in
    let held = ap (λ (p : Past (Given g.row.P-Name.Denot g.row.P-Out.Denot g.row.P-In.Denot) g.row.P-Name.Denot g.row.P-Story.Denot). list_any (λ o. is_between o && o.slot == c.args.slot.0) (control_of p).rows.objects) c.self.view_is ∙ c.requires.held in
    let step = event_with c.args.self.now c.self.inside.workers c.self.inside.events c.push.new.self (given_in c.self.inside.state.boxes) (given_in c.process.new.state.boxes) (Delivered c.args.slot c.in-Some.command.letter c.in-Ok.answered) (sym c.self.view_is) c.push.ensures in
    let inner : Past (Given g.row.P-Name.Denot g.row.P-Out.Denot g.row.P-In.Denot) g.row.P-Name.Denot g.row.P-Story.Denot = record { workers = c.self.inside.workers; events = c.self.inside.events.items; given = given_in c.self.inside.state.boxes } in
    let did = Delivered c.args.slot c.in-Some.command.letter c.in-Ok.answered in
    subst (λ (p : Past (Given g.row.P-Name.Denot g.row.P-Out.Denot g.row.P-In.Denot) g.row.P-Name.Denot g.row.P-Story.Denot). HasTurned (control_of c.args.self.now) (control_of p) (g.H.Holder.holding c.args.holder.now) (g.H.Holder.holding c.process.new.holder)) (sym step)
    (subst (λ (p : Past (Given g.row.P-Name.Denot g.row.P-Out.Denot g.row.P-In.Denot) g.row.P-Name.Denot g.row.P-Story.Denot). HasTurned (control_of p) (control_of (with_event did p)) (g.H.Holder.holding c.args.holder.now) (g.H.Holder.holding c.process.new.holder)) c.self.view_is
    (event_told inner c.self.invariant.history.run did (g.H.Holder.holding c.args.holder.now) (g.H.Holder.holding c.process.new.holder)
    (told_before (control_of inner) (without_front c.args.slot.0 (control_of inner)) (after did (control_of inner)) (g.H.Holder.holding c.args.holder.now) (g.H.Holder.holding c.process.new.holder) refl (λ e. refl) (c.in-Ok.ensures.turned hear))))

pub returns-in-Err-clause-turned : goal.returns-in-Err-clause-turned
returns-in-Err-clause-turned g c =
    let there = taken_there c.self.inside.state c.take.new.self _ c.args.slot c.self.invariant.history.stands c.in-Some.ensures.boxes
    (subst (λ (p : Past (Given g.row.P-Name.Denot g.row.P-Out.Denot g.row.P-In.Denot) g.row.P-Name.Denot g.row.P-Story.Denot). c.args.slot.0 < (control_of p).slots) (sym c.self.view_is) c.requires.there) in
    let is = subst (λ (x : Option (Load g.row.P-Name.Denot g.row.P-Out.Denot g.row.P-In.Denot)). c.put_back.new.self ≡ on_boxes (with_mail c.args.slot.0 (with_put_back (record { letter = c.in-Some.command.letter; load = x }) (mail_at c.process.new.state.boxes c.args.slot.0))) c.process.new.state) c.in-Err.ensures.back c.put_back.ensures.next in
    subst (λ (p : Past (Given g.row.P-Name.Denot g.row.P-Out.Denot g.row.P-In.Denot) g.row.P-Name.Denot g.row.P-Story.Denot). HasTurned (control_of c.args.self.now) (control_of p) (g.H.Holder.holding c.args.holder.now) (g.H.Holder.holding c.process.new.holder))
    (sym (stays_there g.P.Pipes.known.out_name g.P.Pipes.known.in_name c.args.self.now c.self.inside.workers c.self.inside.events _ _ c.self.view_is
    (back_given c.self.inside.state c.take.new.self c.process.new.state c.put_back.new.self c.args.slot c.in-Some.command c.in-Some.ensures.boxes there c.in-Err.ensures.err.0 is)))
    (past_told c.args.self.now (g.H.Holder.holding c.args.holder.now) (g.H.Holder.holding c.process.new.holder) (turns_none (g.H.Holder.holding c.args.holder.now) (g.H.Holder.holding c.process.new.holder) c.in-Err.ensures.quiet))

pub returns-in_default-clause-turned : goal.returns-in_default-clause-turned
returns-in_default-clause-turned g c =
    subst (λ (p : Past (Given g.row.P-Name.Denot g.row.P-Out.Denot g.row.P-In.Denot) g.row.P-Name.Denot g.row.P-Story.Denot). HasTurned (control_of c.args.self.now) (control_of p) (g.H.Holder.holding c.args.holder.now) (g.H.Holder.holding c.args.holder.now)) (sym c.self.view_is) (past_told c.args.self.now (g.H.Holder.holding c.args.holder.now) (g.H.Holder.holding c.args.holder.now) (turns_same (g.H.Holder.holding c.args.holder.now)))

pub returns-in-Ok-clause-joins : goal.returns-in-Ok-clause-joins
returns-in-Ok-clause-joins g c =
    let front = c.in-Some.ensures.front _ c.self.invariant.history.stands in
    let hear = may_hear g.P.Pipes.known.out_name g.P.Pipes.known.in_name c.self.inside.state c.take.new.self _ _ c.args.slot c.in-Some.command c.self.invariant (took_lists c.self.inside.state c.take.new.self _ c.in-Some.ensures.rest) c.in-Some.ensures.boxes c.in-Some.ensures.stands front (g.H.Holder.holding c.args.holder.now)
    (subst (λ (p : Past (Given g.row.P-Name.Denot g.row.P-Out.Denot g.row.P-In.Denot) g.row.P-Name.Denot g.row.P-Story.Denot). HasWhat p (g.H.Holder.holding c.args.holder.now)) (sym c.self.view_is) c.requires.has)
    (subst (λ (p : Past (Given g.row.P-Name.Denot g.row.P-Out.Denot g.row.P-In.Denot) g.row.P-Name.Denot g.row.P-Story.Denot). (i : ℕ) → IsServed (control_of p) c.args.slot.0 i → (g.H.Holder.holding c.args.holder.now).holds i ≡ true) (sym c.self.view_is) c.requires.lent)
    (subst (λ (p : Past (Given g.row.P-Name.Denot g.row.P-Out.Denot g.row.P-In.Denot) g.row.P-Name.Denot g.row.P-Story.Denot). c.args.slot.0 ≡ 0 → AreFree (control_of p) (g.H.Holder.holding c.args.holder.now)) (sym c.self.view_is) c.requires.free)
    (subst (λ (p : Past (Given g.row.P-Name.Denot g.row.P-Out.Denot g.row.P-In.Denot) g.row.P-Name.Denot g.row.P-Story.Denot). AreOfKind (control_of p) c.args.slot.0 (g.H.Holder.holding c.args.holder.now)) (sym c.self.view_is) c.requires.kinds)
    (subst (λ (p : Past (Given g.row.P-Name.Denot g.row.P-Out.Denot g.row.P-In.Denot) g.row.P-Name.Denot g.row.P-Story.Denot). HasPlugged (control_of p) (g.H.Holder.holding c.args.holder.now)) (sym c.self.view_is) c.requires.plugged) in
    let held = ap (λ (p : Past (Given g.row.P-Name.Denot g.row.P-Out.Denot g.row.P-In.Denot) g.row.P-Name.Denot g.row.P-Story.Denot). list_any (λ o. is_between o && o.slot == c.args.slot.0) (control_of p).rows.objects) c.self.view_is ∙ c.requires.held in
    let step = event_with c.args.self.now c.self.inside.workers c.self.inside.events c.push.new.self (given_in c.self.inside.state.boxes) (given_in c.process.new.state.boxes) (Delivered c.args.slot c.in-Some.command.letter c.in-Ok.answered) (sym c.self.view_is) c.push.ensures in
    let inner : Past (Given g.row.P-Name.Denot g.row.P-Out.Denot g.row.P-In.Denot) g.row.P-Name.Denot g.row.P-Story.Denot = record { workers = c.self.inside.workers; events = c.self.inside.events.items; given = given_in c.self.inside.state.boxes } in
    let did = Delivered c.args.slot c.in-Some.command.letter c.in-Ok.answered in
    subst (λ (p : Past (Given g.row.P-Name.Denot g.row.P-Out.Denot g.row.P-In.Denot) g.row.P-Name.Denot g.row.P-Story.Denot). ComesWith c.args.self.now p (g.H.Holder.holding c.args.holder.now) (g.H.Holder.holding c.process.new.holder)) (sym step)
    (subst (λ (p : Past (Given g.row.P-Name.Denot g.row.P-Out.Denot g.row.P-In.Denot) g.row.P-Name.Denot g.row.P-Story.Denot). ComesWith p (with_event did p) (g.H.Holder.holding c.args.holder.now) (g.H.Holder.holding c.process.new.holder)) c.self.view_is
    (objects_come inner did (g.H.Holder.holding c.args.holder.now) (g.H.Holder.holding c.process.new.holder) (c.in-Ok.ensures.joins hear).came (record { holds = λ i stays. (c.in-Ok.ensures.joins hear).objects.holds i (record { ended = stays.ended; plug = stays.plug; way = stays.way }); kinds = λ i stays. (c.in-Ok.ensures.joins hear).objects.kinds i (record { ended = stays.ended; plug = stays.plug; way = stays.way }); had = λ i has. (c.in-Ok.ensures.joins hear).objects.had i has; reaped = λ i between taken lives. (c.in-Ok.ensures.joins hear).objects.reaped i between taken lives; taken_in = λ i came. (c.in-Ok.ensures.joins hear).objects.taken_in i came })
    ((c.in-Ok.ensures.joins hear).heard ∙ ap (λ (ns : List Notice). (g.H.Holder.holding c.args.holder.now).heard ++ ns) (heard_rows c.in-Some.command.letter.to c.in-Some.command.letter.word (control_of inner) (without_front c.args.slot.0 (control_of inner)) (after did (control_of inner)) refl))))

pub returns-in-Err-clause-joins : goal.returns-in-Err-clause-joins
returns-in-Err-clause-joins g c =
    let there = taken_there c.self.inside.state c.take.new.self _ c.args.slot c.self.invariant.history.stands c.in-Some.ensures.boxes
    (subst (λ (p : Past (Given g.row.P-Name.Denot g.row.P-Out.Denot g.row.P-In.Denot) g.row.P-Name.Denot g.row.P-Story.Denot). c.args.slot.0 < (control_of p).slots) (sym c.self.view_is) c.requires.there) in
    let is = subst (λ (x : Option (Load g.row.P-Name.Denot g.row.P-Out.Denot g.row.P-In.Denot)). c.put_back.new.self ≡ on_boxes (with_mail c.args.slot.0 (with_put_back (record { letter = c.in-Some.command.letter; load = x }) (mail_at c.process.new.state.boxes c.args.slot.0))) c.process.new.state) c.in-Err.ensures.back c.put_back.ensures.next in
    subst (λ (p : Past (Given g.row.P-Name.Denot g.row.P-Out.Denot g.row.P-In.Denot) g.row.P-Name.Denot g.row.P-Story.Denot). ComesWith c.args.self.now p (g.H.Holder.holding c.args.holder.now) (g.H.Holder.holding c.process.new.holder))
    (sym (stays_there g.P.Pipes.known.out_name g.P.Pipes.known.in_name c.args.self.now c.self.inside.workers c.self.inside.events _ _ c.self.view_is
    (back_given c.self.inside.state c.take.new.self c.process.new.state c.put_back.new.self c.args.slot c.in-Some.command c.in-Some.ensures.boxes there c.in-Err.ensures.err.0 is)))
    (past_comes c.args.self.now (g.H.Holder.holding c.args.holder.now) (g.H.Holder.holding c.process.new.holder) c.in-Err.ensures.quiet.joined (c.in-Err.ensures.err.1 0).now.objects (c.in-Err.ensures.err.1 0).now.kinds c.in-Err.ensures.unheard)

pub returns-in_default-clause-joins : goal.returns-in_default-clause-joins
returns-in_default-clause-joins g c =
    subst (λ (p : Past (Given g.row.P-Name.Denot g.row.P-Out.Denot g.row.P-In.Denot) g.row.P-Name.Denot g.row.P-Story.Denot). ComesWith c.args.self.now p (g.H.Holder.holding c.args.holder.now) (g.H.Holder.holding c.args.holder.now)) (sym c.self.view_is) (past_comes c.args.self.now (g.H.Holder.holding c.args.holder.now) (g.H.Holder.holding c.args.holder.now) refl (λ i. refl) (λ i. refl) refl)

pub returns-in-Ok-clause-counts : goal.returns-in-Ok-clause-counts
returns-in-Ok-clause-counts g c =
    let step = event_with c.args.self.now c.self.inside.workers c.self.inside.events c.push.new.self (given_in c.self.inside.state.boxes) (given_in c.process.new.state.boxes) (Delivered c.args.slot c.in-Some.command.letter c.in-Ok.answered) (sym c.self.view_is) c.push.ensures in
    let did = Delivered c.args.slot c.in-Some.command.letter c.in-Ok.answered in
    subst (λ (p : Past (Given g.row.P-Name.Denot g.row.P-Out.Denot g.row.P-In.Denot) g.row.P-Name.Denot g.row.P-Story.Denot). CountsOnce g.P.Pipes.known.out_name (g.H.Holder.counts c.args.holder.now) c.args.self.now.events p.events (g.H.Holder.holding c.args.holder.now)) (sym step)
    (one_counts g.P.Pipes.known.out_name (g.H.Holder.counts c.args.holder.now) c.args.self.now.events (g.H.Holder.holding c.args.holder.now) did c.in-Ok.ensures.counts)

pub returns-in-Err-clause-counts : goal.returns-in-Err-clause-counts
returns-in-Err-clause-counts g c =
    let there = taken_there c.self.inside.state c.take.new.self _ c.args.slot c.self.invariant.history.stands c.in-Some.ensures.boxes
    (subst (λ (p : Past (Given g.row.P-Name.Denot g.row.P-Out.Denot g.row.P-In.Denot) g.row.P-Name.Denot g.row.P-Story.Denot). c.args.slot.0 < (control_of p).slots) (sym c.self.view_is) c.requires.there) in
    let is = subst (λ (x : Option (Load g.row.P-Name.Denot g.row.P-Out.Denot g.row.P-In.Denot)). c.put_back.new.self ≡ on_boxes (with_mail c.args.slot.0 (with_put_back (record { letter = c.in-Some.command.letter; load = x }) (mail_at c.process.new.state.boxes c.args.slot.0))) c.process.new.state) c.in-Err.ensures.back c.put_back.ensures.next in
    subst (λ (p : Past (Given g.row.P-Name.Denot g.row.P-Out.Denot g.row.P-In.Denot) g.row.P-Name.Denot g.row.P-Story.Denot). CountsOnce g.P.Pipes.known.out_name (g.H.Holder.counts c.args.holder.now) c.args.self.now.events p.events (g.H.Holder.holding c.args.holder.now))
    (sym (stays_there g.P.Pipes.known.out_name g.P.Pipes.known.in_name c.args.self.now c.self.inside.workers c.self.inside.events _ _ c.self.view_is
    (back_given c.self.inside.state c.take.new.self c.process.new.state c.put_back.new.self c.args.slot c.in-Some.command c.in-Some.ensures.boxes there c.in-Err.ensures.err.0 is)))
    (none_counts g.P.Pipes.known.out_name (g.H.Holder.counts c.args.holder.now) c.args.self.now.events (g.H.Holder.holding c.args.holder.now))

pub returns-in_default-clause-counts : goal.returns-in_default-clause-counts
returns-in_default-clause-counts g c =
    subst (λ (p : Past (Given g.row.P-Name.Denot g.row.P-Out.Denot g.row.P-In.Denot) g.row.P-Name.Denot g.row.P-Story.Denot). CountsOnce g.P.Pipes.known.out_name (g.H.Holder.counts c.args.holder.now) c.args.self.now.events p.events (g.H.Holder.holding c.args.holder.now)) (sym c.self.view_is)
    (none_counts g.P.Pipes.known.out_name (g.H.Holder.counts c.args.holder.now) c.args.self.now.events (g.H.Holder.holding c.args.holder.now))

pub returns-in-Ok-clause-left : goal.returns-in-Ok-clause-left
returns-in-Ok-clause-left g c =
    let front = c.in-Some.ensures.front _ c.self.invariant.history.stands in
    let hear = may_hear g.P.Pipes.known.out_name g.P.Pipes.known.in_name c.self.inside.state c.take.new.self _ _ c.args.slot c.in-Some.command c.self.invariant (took_lists c.self.inside.state c.take.new.self _ c.in-Some.ensures.rest) c.in-Some.ensures.boxes c.in-Some.ensures.stands front (g.H.Holder.holding c.args.holder.now)
    (subst (λ (p : Past (Given g.row.P-Name.Denot g.row.P-Out.Denot g.row.P-In.Denot) g.row.P-Name.Denot g.row.P-Story.Denot). HasWhat p (g.H.Holder.holding c.args.holder.now)) (sym c.self.view_is) c.requires.has)
    (subst (λ (p : Past (Given g.row.P-Name.Denot g.row.P-Out.Denot g.row.P-In.Denot) g.row.P-Name.Denot g.row.P-Story.Denot). (i : ℕ) → IsServed (control_of p) c.args.slot.0 i → (g.H.Holder.holding c.args.holder.now).holds i ≡ true) (sym c.self.view_is) c.requires.lent)
    (subst (λ (p : Past (Given g.row.P-Name.Denot g.row.P-Out.Denot g.row.P-In.Denot) g.row.P-Name.Denot g.row.P-Story.Denot). c.args.slot.0 ≡ 0 → AreFree (control_of p) (g.H.Holder.holding c.args.holder.now)) (sym c.self.view_is) c.requires.free)
    (subst (λ (p : Past (Given g.row.P-Name.Denot g.row.P-Out.Denot g.row.P-In.Denot) g.row.P-Name.Denot g.row.P-Story.Denot). AreOfKind (control_of p) c.args.slot.0 (g.H.Holder.holding c.args.holder.now)) (sym c.self.view_is) c.requires.kinds)
    (subst (λ (p : Past (Given g.row.P-Name.Denot g.row.P-Out.Denot g.row.P-In.Denot) g.row.P-Name.Denot g.row.P-Story.Denot). HasPlugged (control_of p) (g.H.Holder.holding c.args.holder.now)) (sym c.self.view_is) c.requires.plugged) in
    let held = ap (λ (p : Past (Given g.row.P-Name.Denot g.row.P-Out.Denot g.row.P-In.Denot) g.row.P-Name.Denot g.row.P-Story.Denot). list_any (λ o. is_between o && o.slot == c.args.slot.0) (control_of p).rows.objects) c.self.view_is ∙ c.requires.held in
    let step = event_with c.args.self.now c.self.inside.workers c.self.inside.events c.push.new.self (given_in c.self.inside.state.boxes) (given_in c.process.new.state.boxes) (Delivered c.args.slot c.in-Some.command.letter c.in-Ok.answered) (sym c.self.view_is) c.push.ensures in
    let did = Delivered c.args.slot c.in-Some.command.letter c.in-Ok.answered in
    subst (λ (p : Past (Given g.row.P-Name.Denot g.row.P-Out.Denot g.row.P-In.Denot) g.row.P-Name.Denot g.row.P-Story.Denot). LeavesOnce (control_of c.args.self.now) c.args.self.now.events p.events (g.H.Holder.holding c.args.holder.now)) (sym step)
    (one_leaves (control_of c.args.self.now) c.args.self.now.events (g.H.Holder.holding c.args.holder.now) did
    (subst (λ (p : Past (Given g.row.P-Name.Denot g.row.P-Out.Denot g.row.P-In.Denot) g.row.P-Name.Denot g.row.P-Story.Denot). LeavesIn (control_of p) (g.H.Holder.holding c.args.holder.now) did) c.self.view_is
    (delivers_left g.P.Pipes.known.out_name g.P.Pipes.known.in_name c.self.inside.state c.take.new.self _ _ c.args.slot c.in-Some.command c.self.invariant (took_lists c.self.inside.state c.take.new.self _ c.in-Some.ensures.rest) c.in-Some.ensures.boxes c.in-Some.ensures.stands front
    c.process.new.state (g.H.Holder.holding c.args.holder.now) (g.H.Holder.holding c.process.new.holder) c.in-Ok.answered held (c.in-Ok.ensures.heard hear))))

pub returns-in-Err-clause-left : goal.returns-in-Err-clause-left
returns-in-Err-clause-left g c =
    let there = taken_there c.self.inside.state c.take.new.self _ c.args.slot c.self.invariant.history.stands c.in-Some.ensures.boxes
    (subst (λ (p : Past (Given g.row.P-Name.Denot g.row.P-Out.Denot g.row.P-In.Denot) g.row.P-Name.Denot g.row.P-Story.Denot). c.args.slot.0 < (control_of p).slots) (sym c.self.view_is) c.requires.there) in
    let is = subst (λ (x : Option (Load g.row.P-Name.Denot g.row.P-Out.Denot g.row.P-In.Denot)). c.put_back.new.self ≡ on_boxes (with_mail c.args.slot.0 (with_put_back (record { letter = c.in-Some.command.letter; load = x }) (mail_at c.process.new.state.boxes c.args.slot.0))) c.process.new.state) c.in-Err.ensures.back c.put_back.ensures.next in
    subst (λ (p : Past (Given g.row.P-Name.Denot g.row.P-Out.Denot g.row.P-In.Denot) g.row.P-Name.Denot g.row.P-Story.Denot). LeavesOnce (control_of c.args.self.now) c.args.self.now.events p.events (g.H.Holder.holding c.args.holder.now))
    (sym (stays_there g.P.Pipes.known.out_name g.P.Pipes.known.in_name c.args.self.now c.self.inside.workers c.self.inside.events _ _ c.self.view_is
    (back_given c.self.inside.state c.take.new.self c.process.new.state c.put_back.new.self c.args.slot c.in-Some.command c.in-Some.ensures.boxes there c.in-Err.ensures.err.0 is)))
    (none_leaves (control_of c.args.self.now) c.args.self.now.events (g.H.Holder.holding c.args.holder.now))

pub returns-in_default-clause-left : goal.returns-in_default-clause-left
returns-in_default-clause-left g c =
    subst (λ (p : Past (Given g.row.P-Name.Denot g.row.P-Out.Denot g.row.P-In.Denot) g.row.P-Name.Denot g.row.P-Story.Denot). LeavesOnce (control_of c.args.self.now) c.args.self.now.events p.events (g.H.Holder.holding c.args.holder.now)) (sym c.self.view_is)
    (none_leaves (control_of c.args.self.now) c.args.self.now.events (g.H.Holder.holding c.args.holder.now))

pub returns-in-Err-clause-succeeds : goal.returns-in-Err-clause-succeeds
returns-in-Err-clause-succeeds g c = λ letter behind is none.
    c.in-Err.ensures.succeeds (ap first_binds (sym (c.in-Some.ensures.front _ c.self.invariant.history.stands) ∙ ap (λ (p : Past (Given g.row.P-Name.Denot g.row.P-Out.Denot g.row.P-In.Denot) g.row.P-Name.Denot g.row.P-Story.Denot). (control_of p).boxes c.args.slot.0) c.self.view_is ∙ is) ∙ none)

pub returns-in-Err-clause-empty : goal.returns-in-Err-clause-empty
returns-in-Err-clause-empty g c = λ is.
    absurd (never (sym (ap some_first is) ∙ ap (λ (p : Past (Given g.row.P-Name.Denot g.row.P-Out.Denot g.row.P-In.Denot) g.row.P-Name.Denot g.row.P-Story.Denot). some_first ((control_of p).boxes c.args.slot.0)) (sym c.self.view_is) ∙ ap some_first (c.in-Some.ensures.front _ c.self.invariant.history.stands)))

pub process-requires-clause-calm : goal.process-requires-clause-calm
process-requires-clause-calm g c = c.requires.calm
