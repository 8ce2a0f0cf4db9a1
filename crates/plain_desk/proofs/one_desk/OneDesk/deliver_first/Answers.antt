use Rattle.std.specs.Prelude.{◌≡◌, ℕ, true}
use Rattle.std.proofs.Common.{sym, ap, ◌∙◌, subst}
use Rattle.spec_control.specs.declared.entry.SeenEmpty.TheVariants.{Reapers}
use Rattle.control_laws.proofs.ListLemmas.{never}
use Rattle.zq_base.specs.declared.ids.EndId.{EndId}
use Rattle.spec_control.specs.ControlRun.{AreEmpty}
use Rattle.spec_control.specs.Names.{name_of}
use Rattle.desk.specs.declared.given.Given.{Given}
use Rattle.desk.specs.TakingOver.{MayTakeFirst}
use Rattle.ctl_plane.specs.Past.{control_of}
use Rattle.desk.specs.Coming.{AreDistinct, BindsFit, TakesEnds}
use Rattle.desk.specs.Memory.{NoBindWaits}
use Rattle.desk.specs.Desk.{BringsWith, CountsWith, HasWhatTheySay, KeepsUp, brings_with, counts_with}
use Rattle.plain_desk.specs.Lent.{coming_to, Lent, Sees, moments_of}
use Rattle.plain_desk.specs.Reaping.{HearsFrom, WaitsFirst, served_by}
use Rattle.plain_desk.proofs.PlaneLemmas.{takes_none}
use Rattle.plain_desk.proofs.TellLemmas.{look_tells}
use Rattle.plain_desk.proofs.WaitLemmas.{first_waits}
use Rattle.ctl_state.proofs.KeptLemmas.{so_on_err}
use Rattle.plain_desk.proofs.one_desk.OneDesk.deliver_first.Goals as goal

pub deliver_at-requires-clause-waits : goal.deliver_at-requires-clause-waits
deliver_at-requires-clause-waits g c =
    first_waits c.in-Some.slot c.first_slot.new.self
    (subst (λ (d : Lent (Given g.row.P-Name.Denot g.row.P-Out.Denot g.row.P-In.Denot) g.row.P-Name.Denot g.row.P-Story.Denot). WaitsFirst c.in-Some.slot d) (sym c.first_slot.ensures.stays) c.in-Some.ensures.some)

pub deliver_at-requires-clause-lent : goal.deliver_at-requires-clause-lent
deliver_at-requires-clause-lent g c =
    subst (λ (d : Lent (Given g.row.P-Name.Denot g.row.P-Out.Denot g.row.P-In.Denot) g.row.P-Name.Denot g.row.P-Story.Denot). (m i : ℕ) → served_by d m i ≡ true → (g.H.Holder.holding c.args.holder.now).holds i ≡ true) (sym c.first_slot.ensures.stays) c.requires.lent

pub deliver_at-requires-clause-has : goal.deliver_at-requires-clause-has
deliver_at-requires-clause-has g c =
    subst (λ (d : Lent (Given g.row.P-Name.Denot g.row.P-Out.Denot g.row.P-In.Denot) g.row.P-Name.Denot g.row.P-Story.Denot). HasWhatTheySay d.caller (moments_of d) (g.H.Holder.holding c.args.holder.now)) (sym c.first_slot.ensures.stays) c.requires.has

pub deliver_at-requires-clause-distinct : goal.deliver_at-requires-clause-distinct
deliver_at-requires-clause-distinct g c =
    subst (λ (d : Lent (Given g.row.P-Name.Denot g.row.P-Out.Denot g.row.P-In.Denot) g.row.P-Name.Denot g.row.P-Story.Denot). AreDistinct g.P.Pipes.known.exact (name_of d.items)) (sym c.first_slot.ensures.stays) c.requires.distinct

pub deliver_at-requires-clause-fits : goal.deliver_at-requires-clause-fits
deliver_at-requires-clause-fits g c =
    subst (λ (d : Lent (Given g.row.P-Name.Denot g.row.P-Out.Denot g.row.P-In.Denot) g.row.P-Name.Denot g.row.P-Story.Denot). (m i : ℕ) → served_by d m i ≡ true → BindsFit g.P.Pipes.known.out_name g.P.Pipes.known.in_name (name_of d.items) (coming_to d m) (λ h. (e : EndId) → g.H.Holder.fits c.args.holder.now e h)) (sym c.first_slot.ensures.stays) c.requires.fits

pub deliver_at-requires-clause-takes : goal.deliver_at-requires-clause-takes
deliver_at-requires-clause-takes g c =
    subst (λ (d : Lent (Given g.row.P-Name.Denot g.row.P-Out.Denot g.row.P-In.Denot) g.row.P-Name.Denot g.row.P-Story.Denot). MayTakeFirst (g.H.Holder.may_take c.args.holder.now) (control_of d.past) d.past.given) (sym c.first_slot.ensures.stays) c.requires.takes

pub returns-in_err-deliver_at-in-Some-clause-err : goal.returns-in_err-deliver_at-in-Some-clause-err
returns-in_err-deliver_at-in-Some-clause-err g c =
    so_on_err _ c.from_residual.result (c.in_err-deliver_at-in-Some.ensures.err ∙ c.first_slot.ensures.stays)

pub returns-in-Some-clause-ok : goal.returns-in-Some-clause-ok
returns-in-Some-clause-ok g c =
    record { slot = c.in-Some.slot; first = c.in-Some.ensures.some.first; hears = subst (λ (d : Lent (Given g.row.P-Name.Denot g.row.P-Out.Denot g.row.P-In.Denot) g.row.P-Name.Denot g.row.P-Story.Denot). HearsFrom c.in-Some.slot d c.deliver_at.new.self) c.first_slot.ensures.stays c.in_ok-deliver_at-in-Some.ensures.ok }

pub returns-in-Some-clause-counts : goal.returns-in-Some-clause-counts
returns-in-Some-clause-counts g c =
    subst (λ (d : Lent (Given g.row.P-Name.Denot g.row.P-Out.Denot g.row.P-In.Denot) g.row.P-Name.Denot g.row.P-Story.Denot). CountsWith g.P.Pipes.known.out_name (g.H.Holder.counts c.args.holder.now) (moments_of d) (moments_of c.deliver_at.new.self) (g.H.Holder.holding c.args.holder.now)) c.first_slot.ensures.stays c.deliver_at.ensures.counts

pub returns-in-Some-clause-brings : goal.returns-in-Some-clause-brings
returns-in-Some-clause-brings g c =
    subst (λ (d : Lent (Given g.row.P-Name.Denot g.row.P-Out.Denot g.row.P-In.Denot) g.row.P-Name.Denot g.row.P-Story.Denot). BringsWith g.P.Pipes.known.out_name g.P.Pipes.known.in_name (moments_of d) (moments_of c.deliver_at.new.self) d.past.given c.deliver_at.new.self.past.given) c.first_slot.ensures.stays c.deliver_at.ensures.brings

pub returns-in-Some-clause-given : goal.returns-in-Some-clause-given
returns-in-Some-clause-given g c =
    subst (λ (d : Lent (Given g.row.P-Name.Denot g.row.P-Out.Denot g.row.P-In.Denot) g.row.P-Name.Denot g.row.P-Story.Denot). TakesEnds d.past.given c.deliver_at.new.self.past.given) c.first_slot.ensures.stays c.deliver_at.ensures.given

pub returns-in-Some-clause-keeps : goal.returns-in-Some-clause-keeps
returns-in-Some-clause-keeps g c =
    subst (λ (d : Lent (Given g.row.P-Name.Denot g.row.P-Out.Denot g.row.P-In.Denot) g.row.P-Name.Denot g.row.P-Story.Denot). KeepsUp c.deliver_at.new.self.caller (moments_of d) (moments_of c.deliver_at.new.self) (g.H.Holder.holding c.args.holder.now) (g.H.Holder.holding c.deliver_at.new.holder)) c.first_slot.ensures.stays c.deliver_at.ensures.keeps

pub note_look-requires : goal.note_look-requires
note_look-requires g c =
    record { empty = subst (λ (d : Lent (Given g.row.P-Name.Denot g.row.P-Out.Denot g.row.P-In.Denot) g.row.P-Name.Denot g.row.P-Story.Denot). AreEmpty (control_of d.past) Reapers) (sym c.first_slot.ensures.stays) c.in-None.ensures.none }

pub returns-in-None-clause-ok : goal.returns-in-None-clause-ok
returns-in-None-clause-ok g c =
    record { sight = c.note_look.result; sees = subst (λ (d : Lent (Given g.row.P-Name.Denot g.row.P-Out.Denot g.row.P-In.Denot) g.row.P-Name.Denot g.row.P-Story.Denot). Sees Reapers c.note_look.result d c.note_look.new.self) c.first_slot.ensures.stays c.note_look.ensures.sees }

pub returns-in-None-clause-counts : goal.returns-in-None-clause-counts
returns-in-None-clause-counts g c =
    look_tells (λ item. counts_with g.P.Pipes.known.out_name (g.H.Holder.counts c.args.holder.now) (g.H.Holder.holding c.args.holder.now) item) c.args.self.now c.note_look.new.self Reapers c.note_look.result (subst (λ (d : Lent (Given g.row.P-Name.Denot g.row.P-Out.Denot g.row.P-In.Denot) g.row.P-Name.Denot g.row.P-Story.Denot). Sees Reapers c.note_look.result d c.note_look.new.self) c.first_slot.ensures.stays c.note_look.ensures.sees) tt

pub returns-in-None-clause-brings : goal.returns-in-None-clause-brings
returns-in-None-clause-brings g c =
    look_tells (λ item. brings_with g.P.Pipes.known.out_name g.P.Pipes.known.in_name item c.args.self.now.past.given c.note_look.new.self.past.given) c.args.self.now c.note_look.new.self Reapers c.note_look.result (subst (λ (d : Lent (Given g.row.P-Name.Denot g.row.P-Out.Denot g.row.P-In.Denot) g.row.P-Name.Denot g.row.P-Story.Denot). Sees Reapers c.note_look.result d c.note_look.new.self) c.first_slot.ensures.stays c.note_look.ensures.sees) tt

pub returns-in-None-clause-given : goal.returns-in-None-clause-given
returns-in-None-clause-given g c =
    takes_none c.args.self.now.past c.note_look.new.self.past (c.note_look.ensures.sees.past ∙ ap (λ (d : Lent (Given g.row.P-Name.Denot g.row.P-Out.Denot g.row.P-In.Denot) g.row.P-Name.Denot g.row.P-Story.Denot). d.past) c.first_slot.ensures.stays)

pub returns-in-None-clause-keeps : goal.returns-in-None-clause-keeps
returns-in-None-clause-keeps g c =
    subst (λ (d : Lent (Given g.row.P-Name.Denot g.row.P-Out.Denot g.row.P-In.Denot) g.row.P-Name.Denot g.row.P-Story.Denot). KeepsUp c.note_look.new.self.caller (moments_of d) (moments_of c.note_look.new.self) (g.H.Holder.holding c.args.holder.now) (g.H.Holder.holding c.args.holder.now)) c.first_slot.ensures.stays (c.note_look.ensures.keeps (g.H.Holder.holding c.args.holder.now) (subst (λ (d : Lent (Given g.row.P-Name.Denot g.row.P-Out.Denot g.row.P-In.Denot) g.row.P-Name.Denot g.row.P-Story.Denot). HasWhatTheySay d.caller (moments_of d) (g.H.Holder.holding c.args.holder.now)) (sym c.first_slot.ensures.stays) c.requires.has))

pub returns-in_err-deliver_at-in-Some-clause-succeeds : goal.returns-in_err-deliver_at-in-Some-clause-succeeds
returns-in_err-deliver_at-in-Some-clause-succeeds g c =
    λ none. absurd (never (c.in_err-deliver_at-in-Some.ensures.succeeds (subst (λ (d : Lent (Given g.row.P-Name.Denot g.row.P-Out.Denot g.row.P-In.Denot) g.row.P-Name.Denot g.row.P-Story.Denot). NoBindWaits (control_of d.past) c.in-Some.slot.0) (sym c.first_slot.ensures.stays) (none c.in-Some.slot.0 c.in-Some.ensures.some.here))))

pub deliver_at-requires-clause-calm : goal.deliver_at-requires-clause-calm
deliver_at-requires-clause-calm g c = c.requires.calm

pub deliver_at-requires-clause-reaps : goal.deliver_at-requires-clause-reaps
deliver_at-requires-clause-reaps g c = c.requires.reaps

pub returns-in_err-deliver_at-in-Some-clause-brings : goal.returns-in_err-deliver_at-in-Some-clause-brings
returns-in_err-deliver_at-in-Some-clause-brings g c =
    subst (λ (d : Lent (Given g.row.P-Name.Denot g.row.P-Out.Denot g.row.P-In.Denot) g.row.P-Name.Denot g.row.P-Story.Denot). BringsWith g.P.Pipes.known.out_name g.P.Pipes.known.in_name (moments_of d) (moments_of c.deliver_at.new.self) d.past.given c.deliver_at.new.self.past.given) c.first_slot.ensures.stays c.deliver_at.ensures.brings

pub returns-in_err-deliver_at-in-Some-clause-counts : goal.returns-in_err-deliver_at-in-Some-clause-counts
returns-in_err-deliver_at-in-Some-clause-counts g c =
    subst (λ (d : Lent (Given g.row.P-Name.Denot g.row.P-Out.Denot g.row.P-In.Denot) g.row.P-Name.Denot g.row.P-Story.Denot). CountsWith g.P.Pipes.known.out_name (g.H.Holder.counts c.args.holder.now) (moments_of d) (moments_of c.deliver_at.new.self) (g.H.Holder.holding c.args.holder.now)) c.first_slot.ensures.stays c.deliver_at.ensures.counts

pub returns-in_err-deliver_at-in-Some-clause-given : goal.returns-in_err-deliver_at-in-Some-clause-given
returns-in_err-deliver_at-in-Some-clause-given g c =
    subst (λ (d : Lent (Given g.row.P-Name.Denot g.row.P-Out.Denot g.row.P-In.Denot) g.row.P-Name.Denot g.row.P-Story.Denot). TakesEnds d.past.given c.deliver_at.new.self.past.given) c.first_slot.ensures.stays c.deliver_at.ensures.given

pub returns-in_err-deliver_at-in-Some-clause-keeps : goal.returns-in_err-deliver_at-in-Some-clause-keeps
returns-in_err-deliver_at-in-Some-clause-keeps g c =
    subst (λ (d : Lent (Given g.row.P-Name.Denot g.row.P-Out.Denot g.row.P-In.Denot) g.row.P-Name.Denot g.row.P-Story.Denot). KeepsUp c.deliver_at.new.self.caller (moments_of d) (moments_of c.deliver_at.new.self) (g.H.Holder.holding c.args.holder.now) (g.H.Holder.holding c.deliver_at.new.holder)) c.first_slot.ensures.stays c.deliver_at.ensures.keeps
