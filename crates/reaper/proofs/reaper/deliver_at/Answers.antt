use Rattle.std.proofs.Common.{List, refl, sym, subst}
use Rattle.std.specs.Prelude.{◌≡◌, slice_index_or, true}
use Rattle.std.specs.List.{Contains}
use Rattle.std.proofs.lemmas.List.Elements.{Contains-append_left, All-contains_itself}
use Rattle.desk.specs.declared.given.Given.{Given}
use Rattle.ctl_plane.specs.Past.{control_of}
use Rattle.desk.specs.Desk.{counts_with, HasWhatTheySay, KeepsUp}
use Rattle.plain_desk.specs.Lent.{moments_of}
use Rattle.closed_ends.specs.declared.sockets.ClosedSockets.{ClosedSockets}
use Rattle.closed_ends.specs.Coming.{IsBrought}
use Rattle.closed_ends.specs.Counting.{counts_of}
use Rattle.closed_ends.specs.Has.{holding_in}
use Rattle.closed_ends.specs.Sound.{MayJoin, MayTake}
use Rattle.reaper.specs.Calls.{ChangesClosed, FitsClosed}
use Rattle.reaper.proofs.reaper.deliver_at.Goals as goal

pub deliver_at_lent-answer-requires-clause-binds : goal.deliver_at_lent-answer-requires-clause-binds
deliver_at_lent-answer-requires-clause-binds g c = λ m i served e x comes writes reads.
    subst (λ (p : g.row.P.Denot). MayJoin g.P.Pipes.known p c.replace-moved.result x) (sym c.replace-lent.ensures.value)
    (subst (λ (y : ClosedSockets _ _ _). MayJoin g.P.Pipes.known c.args.pipes.now y x) (sym c.replace-moved.ensures.value) (c.requires.binds m i served e x comes writes reads))

pub deliver_at_lent-answer-requires-clause-takes : goal.deliver_at_lent-answer-requires-clause-takes
deliver_at_lent-answer-requires-clause-takes g c = λ o ends rest is its. (
  subst (λ (p : g.row.P.Denot). MayTake g.P.Pipes.known p c.replace-moved.result ends) (sym c.replace-lent.ensures.value)
      (subst (λ (y : ClosedSockets _ _ _). MayTake g.P.Pipes.known c.args.pipes.now y ends) (sym c.replace-moved.ensures.value) (c.requires.takes o ends rest is its)),
  λ k d lt. record { one = subst (λ (l : List (Given _ _ _)). Contains l (slice_index_or ends k d)) (sym is) (Contains-append_left ends rest (slice_index_or ends k d) (All-contains_itself ends k d lt)); its = its k d lt },
)

pub returns-clause-counts : goal.returns-clause-counts
returns-clause-counts g c = λ m is.
    let of = λ (p : g.row.P.Denot) (y : ClosedSockets _ _ _). counts_with g.P.Pipes.known.out_name (λ e writer. counts_of g.P.Pipes.known p y.sockets.items e writer) (holding_in g.P.Pipes.known.out_name g.P.Pipes.known.in_name y) m.item in
    subst (λ (p : g.row.P.Denot). of p c.args.closed.now) c.replace-lent.ensures.value
    (subst (λ (y : ClosedSockets _ _ _). of c.replace-lent.result y) c.replace-moved.ensures.value (c.deliver_at_lent-answer.ensures.counts m is))

pub returns-clause-changes : goal.returns-clause-changes
returns-clause-changes g c =
    let x = c.deliver_at_lent-answer in
    let brings = IsBrought (control_of c.args.desk.now.past) c.args.desk.now.past.given in
    subst (λ (p : g.row.P.Denot). ChangesClosed g.P.Pipes.known brings p c.args.closed.now x.result.pipes x.result.closed) c.replace-lent.ensures.value
    (subst (λ (y : ClosedSockets _ _ _). ChangesClosed g.P.Pipes.known brings c.replace-lent.result y x.result.pipes x.result.closed) c.replace-moved.ensures.value
    (x.ensures.changes c.replace-lent.result c.replace-moved.result (refl, refl)))

pub deliver_at_lent-answer-requires-clause-began : goal.deliver_at_lent-answer-requires-clause-began
deliver_at_lent-answer-requires-clause-began g c = λ s t b. b

pub deliver_at_lent-answer-requires-clause-fits : goal.deliver_at_lent-answer-requires-clause-fits
deliver_at_lent-answer-requires-clause-fits g c =
    subst (λ (p : g.row.P.Denot). FitsClosed g.P.Pipes.known p c.replace-moved.result) (sym c.replace-lent.ensures.value)
    (subst (λ (y : ClosedSockets _ _ _). FitsClosed g.P.Pipes.known c.args.pipes.now y) (sym c.replace-moved.ensures.value) c.requires.fits)

pub deliver_at_lent-answer-requires-clause-lent : goal.deliver_at_lent-answer-requires-clause-lent
deliver_at_lent-answer-requires-clause-lent g c = λ m i served.
    subst (λ (y : ClosedSockets _ _ _). (holding_in g.P.Pipes.known.out_name g.P.Pipes.known.in_name y).holds i ≡ true) (sym c.replace-moved.ensures.value) (c.requires.lent m i served)

pub deliver_at_lent-answer-requires-clause-has : goal.deliver_at_lent-answer-requires-clause-has
deliver_at_lent-answer-requires-clause-has g c =
    subst (λ (y : ClosedSockets _ _ _). HasWhatTheySay c.args.desk.now.caller (moments_of c.args.desk.now) (holding_in g.P.Pipes.known.out_name g.P.Pipes.known.in_name y)) (sym c.replace-moved.ensures.value) c.requires.has

pub deliver_at_lent-answer-requires-clause-distinct : goal.deliver_at_lent-answer-requires-clause-distinct
deliver_at_lent-answer-requires-clause-distinct g c = c.requires.distinct

pub returns-clause-ok : goal.returns-clause-ok
returns-clause-ok g c = c.deliver_at_lent-answer.ensures.ok

pub returns-clause-succeeds : goal.returns-clause-succeeds
returns-clause-succeeds g c = c.deliver_at_lent-answer.ensures.succeeds

pub returns-clause-err : goal.returns-clause-err
returns-clause-err g c = c.deliver_at_lent-answer.ensures.err

pub returns-clause-given : goal.returns-clause-given
returns-clause-given g c = c.deliver_at_lent-answer.ensures.given

pub returns-clause-keeps : goal.returns-clause-keeps
returns-clause-keeps g c =
    let x = c.deliver_at_lent-answer in
    subst (λ (y : ClosedSockets _ _ _). KeepsUp x.new.desk.caller (moments_of c.args.desk.now) (moments_of x.new.desk) (holding_in g.P.Pipes.known.out_name g.P.Pipes.known.in_name y) (holding_in g.P.Pipes.known.out_name g.P.Pipes.known.in_name x.result.closed)) c.replace-moved.ensures.value x.ensures.keeps

pub deliver_at_lent-answer-requires-clause-waits : goal.deliver_at_lent-answer-requires-clause-waits
deliver_at_lent-answer-requires-clause-waits g c = c.requires.waits
