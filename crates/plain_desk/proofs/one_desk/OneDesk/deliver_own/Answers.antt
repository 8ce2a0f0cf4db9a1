use Rattle.std.specs.Prelude.{List, [], ◌∷◌, length, map}
use Rattle.zq_base.specs.declared.ids.EndId.{EndId}
use Rattle.std.proofs.Common.{sym, ap, ◌∙◌, subst}
use Rattle.std.proofs.lemmas.List.{map-append}
use Rattle.spec_control.specs.ControlRun.{IsSeen}
use Rattle.control_laws.proofs.ListLemmas.{never}
use Rattle.desk.specs.declared.given.Given.{Given}
use Rattle.ctl_plane.specs.declared.heard.Heard.{Heard}
use Rattle.ctl_plane.specs.Hearing.{FindsOldest}
use Rattle.ctl_plane.specs.Past.{Past, control_of}
use Rattle.desk.specs.Desk.{counts_with}
use Rattle.desk.specs.Memory.{NoBindWaits, NoPlugWaits}
use Rattle.plain_desk.specs.declared.mark.Mark.{Mark}
use Rattle.desk.specs.Counts.{CountsOnce}
use Rattle.plain_desk.specs.Lent.{lent_to, IsLent, Lent, SeesNone}
use Rattle.plain_desk.proofs.DeliverLemmas.{deliver_apart, deliver_fits, desk_leaves, lent_plugged}
use Rattle.plain_desk.proofs.ServeLemmas.{serve_held, serve_kinds, serve_lent, serve_not_first, serve_there, served_done, served_keeps, served_lent}
use Rattle.plain_desk.proofs.HoldLemmas.{desk_has, desk_looks, desk_still}
use Rattle.plain_desk.proofs.LookLemmas.{lent_looks, sees_more}
use Rattle.plain_desk.proofs.MemoryLemmas.{no_bind}
use Rattle.plain_desk.specs.Reaping.{IsReaping}
use Rattle.plain_desk.proofs.ReapingLemmas.{reaps_heard}
use Rattle.plain_desk.proofs.TellLemmas.{heard_leaves, heard_tells, seen_leaves, seen_tells, still_leaves, still_tells}
use Rattle.plain_desk.proofs.one_desk.OneDesk.deliver_own.Goals as goal

pub deliver-requires-clause-there : goal.deliver-requires-clause-there
deliver-requires-clause-there g c = serve_there (map (λ x. x.0) c.self.inside.order.items) c.self.inside.history (length c.self.inside.wakers.items) c.self.inside.caller c.args.self.now c.self.view_is c.self.invariant.0 (g.H.Holder.holding c.args.holder.now) c.requires.has c.args.slot.0 c.requires.mine c.requires.lent

pub deliver-requires-clause-held : goal.deliver-requires-clause-held
deliver-requires-clause-held g c = serve_held (map (λ x. x.0) c.self.inside.order.items) c.self.inside.history (length c.self.inside.wakers.items) c.self.inside.caller c.args.self.now c.self.view_is c.self.invariant.0 (g.H.Holder.holding c.args.holder.now) c.requires.has c.args.slot.0 c.requires.mine c.requires.lent

pub deliver-requires-clause-lent : goal.deliver-requires-clause-lent
deliver-requires-clause-lent g c = serve_lent (map (λ x. x.0) c.self.inside.order.items) c.self.inside.history (length c.self.inside.wakers.items) c.self.inside.caller c.args.self.now c.self.view_is c.self.invariant.0 (g.H.Holder.holding c.args.holder.now) c.requires.has c.args.slot.0 c.requires.mine c.requires.lent

pub deliver-requires-clause-has : goal.deliver-requires-clause-has
deliver-requires-clause-has g c = desk_has (map (λ x. x.0) c.self.inside.order.items) c.self.inside.history (length c.self.inside.wakers.items) c.self.inside.caller c.args.self.now c.self.view_is c.self.invariant.0 (g.H.Holder.holding c.args.holder.now) c.requires.has

pub deliver-requires-clause-apart : goal.deliver-requires-clause-apart
deliver-requires-clause-apart g c = deliver_apart (map (λ x. x.0) c.self.inside.order.items) c.self.inside.history (length c.self.inside.wakers.items) c.self.inside.caller c.args.self.now c.self.view_is c.self.invariant.0 (g.H.Holder.holding c.args.holder.now) c.requires.has c.args.slot.0 g.P.Pipes.known.exact c.requires.distinct

pub deliver-requires-clause-kinds : goal.deliver-requires-clause-kinds
deliver-requires-clause-kinds g c = serve_kinds (map (λ x. x.0) c.self.inside.order.items) c.self.inside.history (length c.self.inside.wakers.items) c.self.inside.caller c.args.self.now c.self.view_is c.self.invariant.0 (g.H.Holder.holding c.args.holder.now) c.requires.has c.args.slot.0 c.requires.mine c.requires.lent

pub deliver-requires-clause-fits : goal.deliver-requires-clause-fits
deliver-requires-clause-fits g c = deliver_fits (map (λ x. x.0) c.self.inside.order.items) c.self.inside.history (length c.self.inside.wakers.items) c.self.inside.caller c.args.self.now c.self.view_is c.self.invariant.0 c.args.slot.0 g.P.Pipes.known.out_name g.P.Pipes.known.in_name (λ h. (e : EndId) → g.H.Holder.fits c.args.holder.now e h) c.requires.fits

pub deliver-requires-clause-plugs : goal.deliver-requires-clause-plugs
deliver-requires-clause-plugs g c = λ to end behind oldest. c.requires.serves

pub deliver-requires-clause-plugged : goal.deliver-requires-clause-plugged
deliver-requires-clause-plugged g c = lent_plugged (map (λ x. x.0) c.self.inside.order.items) c.self.inside.history (length c.self.inside.wakers.items) c.self.inside.caller c.args.self.now c.self.view_is c.self.invariant.0 (g.H.Holder.holding c.args.holder.now) c.requires.has

pub deliver-requires-clause-reaps : goal.deliver-requires-clause-reaps
deliver-requires-clause-reaps g c = λ first. serve_not_first (map (λ x. x.0) c.self.inside.order.items) c.self.inside.history (length c.self.inside.wakers.items) c.self.inside.caller c.args.self.now c.self.view_is c.self.invariant.0 (g.H.Holder.holding c.args.holder.now) c.requires.has c.args.slot.0 c.requires.mine c.requires.lent first

pub deliver-requires-clause-free : goal.deliver-requires-clause-free
deliver-requires-clause-free g c = λ first. serve_not_first (map (λ x. x.0) c.self.inside.order.items) c.self.inside.history (length c.self.inside.wakers.items) c.self.inside.caller c.args.self.now c.self.view_is c.self.invariant.0 (g.H.Holder.holding c.args.holder.now) c.requires.has c.args.slot.0 c.requires.mine c.requires.lent first

pub deliver-requires-clause-takes : goal.deliver-requires-clause-takes
deliver-requires-clause-takes g c = λ first. serve_not_first (map (λ x. x.0) c.self.inside.order.items) c.self.inside.history (length c.self.inside.wakers.items) c.self.inside.caller c.args.self.now c.self.view_is c.self.invariant.0 (g.H.Holder.holding c.args.holder.now) c.requires.has c.args.slot.0 c.requires.mine c.requires.lent first

pub deliver-requires-clause-distinct : goal.deliver-requires-clause-distinct
deliver-requires-clause-distinct g c = λ first. serve_not_first (map (λ x. x.0) c.self.inside.order.items) c.self.inside.history (length c.self.inside.wakers.items) c.self.inside.caller c.args.self.now c.self.view_is c.self.invariant.0 (g.H.Holder.holding c.args.holder.now) c.requires.has c.args.slot.0 c.requires.mine c.requires.lent first

pub returns-in_err-found-clause-keeps : goal.returns-in_err-found-clause-keeps
returns-in_err-found-clause-keeps g c =
    desk_still (map (λ x. x.0) c.self.inside.order.items) c.self.inside.history (length c.self.inside.wakers.items) c.self.inside.caller c.args.self.now c.self.view_is c.self.invariant.0 (g.H.Holder.holding c.args.holder.now) c.requires.has _ _
    c.in_err-found.ensures.err.0 c.in_err-found.ensures.keeps c.in_err-found.ensures.turned c.in_err-found.ensures.joins

pub invariant_of-self-in-Done : goal.invariant_of-self-in-Done
invariant_of-self-in-Done g c =
    let took = (subst (λ (f : Heard). FindsOldest g.P.Pipes.known.out_name g.P.Pipes.known.in_name c.args.slot f c.self.inside.history c.deliver.new.self) c.in-Done.is c.in_ok-found.ensures.ok) in (
      served_lent g.P.Pipes.known.out_name g.P.Pipes.known.in_name _ _ c.self.inside.history c.deliver.new.self (length c.self.inside.wakers.items) c.self.inside.caller c.args.self.now c.self.view_is c.self.invariant.0 (g.H.Holder.holding c.args.holder.now) (g.H.Holder.holding c.deliver.new.holder) c.requires.has c.args.slot c.requires.mine c.requires.lent
          (ap (λ (xs : List (Mark × Unit {0})). map (λ x. x.0) xs) c.and-heard.ensures ∙ map-append (λ x. x.0) c.self.inside.order.items (_ ∷ []))
          (subst (λ (f : Heard). FindsOldest g.P.Pipes.known.out_name g.P.Pipes.known.in_name c.args.slot f c.self.inside.history c.deliver.new.self) c.in-Done.is c.in_ok-found.ensures.ok) c.is_run-in-Done.ensures.run c.is_run-in-Done.ensures.named,
      reaps_heard (map (λ x. x.0) c.self.inside.order.items) c.self.inside.history c.deliver.new.self (length c.self.inside.wakers.items) c.self.invariant.0 c.self.inside.closed c.self.invariant.1 c.is_run-in-Done.ensures.run c.args.slot took.letter took.answered (ap (λ (p : Past (Given g.row.P-Name.Denot g.row.P-Out.Denot g.row.P-In.Denot) g.row.P-Name.Denot g.row.P-Story.Denot). p.workers) took.step) (ap (λ (p : Past (Given g.row.P-Name.Denot g.row.P-Out.Denot g.row.P-In.Denot) g.row.P-Name.Denot g.row.P-Story.Denot). p.events) took.step),
    )

pub returns-in-Done-clause-ok : goal.returns-in-Done-clause-ok
returns-in-Done-clause-ok g c =
    served_done g.P.Pipes.known.out_name g.P.Pipes.known.in_name _ _ c.self.inside.history c.deliver.new.self (length c.self.inside.wakers.items) c.self.inside.caller c.args.self.now c.self.view_is c.self.invariant.0 (g.H.Holder.holding c.args.holder.now) (g.H.Holder.holding c.deliver.new.holder) c.requires.has c.args.slot c.requires.mine c.requires.lent
    (ap (λ (xs : List (Mark × Unit {0})). map (λ x. x.0) xs) c.and-heard.ensures ∙ map-append (λ x. x.0) c.self.inside.order.items (_ ∷ []))
    (subst (λ (f : Heard). FindsOldest g.P.Pipes.known.out_name g.P.Pipes.known.in_name c.args.slot f c.self.inside.history c.deliver.new.self) c.in-Done.is c.in_ok-found.ensures.ok) c.is_run-in-Done.ensures.run c.is_run-in-Done.ensures.named

pub returns-in-Done-clause-keeps : goal.returns-in-Done-clause-keeps
returns-in-Done-clause-keeps g c =
    served_keeps g.P.Pipes.known.out_name g.P.Pipes.known.in_name _ _ c.self.inside.history c.deliver.new.self (length c.self.inside.wakers.items) c.self.inside.caller c.args.self.now c.self.view_is c.self.invariant.0 (g.H.Holder.holding c.args.holder.now) (g.H.Holder.holding c.deliver.new.holder) c.requires.has c.args.slot c.requires.mine c.requires.lent
    (ap (λ (xs : List (Mark × Unit {0})). map (λ x. x.0) xs) c.and-heard.ensures ∙ map-append (λ x. x.0) c.self.inside.order.items (_ ∷ []))
    (subst (λ (f : Heard). FindsOldest g.P.Pipes.known.out_name g.P.Pipes.known.in_name c.args.slot f c.self.inside.history c.deliver.new.self) c.in-Done.is c.in_ok-found.ensures.ok) c.is_run-in-Done.ensures.run c.is_run-in-Done.ensures.named
    c.in_ok-found.ensures.keeps c.in_ok-found.ensures.turned c.in_ok-found.ensures.joins

pub invariant_of-self-in-Empty : goal.invariant_of-self-in-Empty
invariant_of-self-in-Empty g c = (
  subst (λ (p : Past (Given g.row.P-Name.Denot g.row.P-Out.Denot g.row.P-In.Denot) g.row.P-Name.Denot g.row.P-Story.Denot). IsLent (map (λ (x : Mark × Unit {0}). x.0) c.and-looked.result.items) p (length c.self.inside.wakers.items)) (sym (subst (λ (f : Heard). FindsOldest g.P.Pipes.known.out_name g.P.Pipes.known.in_name c.args.slot f c.self.inside.history c.deliver.new.self) c.in-Empty.is c.in_ok-found.ensures.ok).1)
      (lent_looks (map (λ x. x.0) c.self.inside.order.items) _ c.self.inside.history (length c.self.inside.wakers.items) c.sight_of-sight.result
      (ap (λ (xs : List (Mark × Unit {0})). map (λ x. x.0) xs) c.and-looked.ensures ∙ map-append (λ x. x.0) c.self.inside.order.items (_ ∷ []))
      c.self.invariant.0 (subst (λ (p : Past (Given g.row.P-Name.Denot g.row.P-Out.Denot g.row.P-In.Denot) g.row.P-Name.Denot g.row.P-Story.Denot). IsSeen (control_of p) c.sight_of-sight.result) (subst (λ (f : Heard). FindsOldest g.P.Pipes.known.out_name g.P.Pipes.known.in_name c.args.slot f c.self.inside.history c.deliver.new.self) c.in-Empty.is c.in_ok-found.ensures.ok).1 c.sight_of-sight.ensures.seen)),
  subst (λ (p : Past (Given g.row.P-Name.Denot g.row.P-Out.Denot g.row.P-In.Denot) g.row.P-Name.Denot g.row.P-Story.Denot). IsReaping (control_of p) c.self.inside.closed) (sym (subst (λ (f : Heard). FindsOldest g.P.Pipes.known.out_name g.P.Pipes.known.in_name c.args.slot f c.self.inside.history c.deliver.new.self) c.in-Empty.is c.in_ok-found.ensures.ok).1) c.self.invariant.1,
)

pub returns-in-Empty-clause-ok : goal.returns-in-Empty-clause-ok
returns-in-Empty-clause-ok g c =
    subst (λ (p : Past (Given g.row.P-Name.Denot g.row.P-Out.Denot g.row.P-In.Denot) g.row.P-Name.Denot g.row.P-Story.Denot). SeesNone c.args.slot c.args.self.now (lent_to c.self.inside.caller (map (λ x. x.0) c.and-looked.result.items) p)) (sym (subst (λ (f : Heard). FindsOldest g.P.Pipes.known.out_name g.P.Pipes.known.in_name c.args.slot f c.self.inside.history c.deliver.new.self) c.in-Empty.is c.in_ok-found.ensures.ok).1)
    (record {
      sight = c.sight_of-sight.result;
      sees = sees_more (map (λ x. x.0) c.self.inside.order.items) _ c.self.inside.history (length c.self.inside.wakers.items) c.sight_of-sight.result
          (ap (λ (xs : List (Mark × Unit {0})). map (λ x. x.0) xs) c.and-looked.ensures ∙ map-append (λ x. x.0) c.self.inside.order.items (_ ∷ []))
          c.self.invariant.0 (subst (λ (p : Past (Given g.row.P-Name.Denot g.row.P-Out.Denot g.row.P-In.Denot) g.row.P-Name.Denot g.row.P-Story.Denot). IsSeen (control_of p) c.sight_of-sight.result) (subst (λ (f : Heard). FindsOldest g.P.Pipes.known.out_name g.P.Pipes.known.in_name c.args.slot f c.self.inside.history c.deliver.new.self) c.in-Empty.is c.in_ok-found.ensures.ok).1 c.sight_of-sight.ensures.seen) c.self.inside.caller _ c.args.self.now c.self.view_is c.sight_of-sight.ensures.looked_at c.sight_of-sight.ensures.by;
    })

pub returns-in-Empty-clause-keeps : goal.returns-in-Empty-clause-keeps
returns-in-Empty-clause-keeps g c =
    let now = lent_looks (map (λ x. x.0) c.self.inside.order.items) _ c.self.inside.history (length c.self.inside.wakers.items) c.sight_of-sight.result
    (ap (λ (xs : List (Mark × Unit {0})). map (λ x. x.0) xs) c.and-looked.ensures ∙ map-append (λ x. x.0) c.self.inside.order.items (_ ∷ []))
    c.self.invariant.0 (subst (λ (p : Past (Given g.row.P-Name.Denot g.row.P-Out.Denot g.row.P-In.Denot) g.row.P-Name.Denot g.row.P-Story.Denot). IsSeen (control_of p) c.sight_of-sight.result) (subst (λ (f : Heard). FindsOldest g.P.Pipes.known.out_name g.P.Pipes.known.in_name c.args.slot f c.self.inside.history c.deliver.new.self) c.in-Empty.is c.in_ok-found.ensures.ok).1 c.sight_of-sight.ensures.seen) in
    desk_looks (map (λ x. x.0) c.self.inside.order.items) c.self.inside.history (length c.self.inside.wakers.items) c.self.inside.caller c.args.self.now c.self.view_is c.self.invariant.0 (g.H.Holder.holding c.args.holder.now) c.requires.has _ _ c.sight_of-sight.result _
    (ap (λ (xs : List (Mark × Unit {0})). map (λ x. x.0) xs) c.and-looked.ensures ∙ map-append (λ x. x.0) c.self.inside.order.items (_ ∷ []))
    c.sight_of-sight.ensures.by (subst (λ (f : Heard). FindsOldest g.P.Pipes.known.out_name g.P.Pipes.known.in_name c.args.slot f c.self.inside.history c.deliver.new.self) c.in-Empty.is c.in_ok-found.ensures.ok).1 now
    c.in_ok-found.ensures.keeps c.in_ok-found.ensures.turned c.in_ok-found.ensures.joins

pub returns-in_err-found-clause-counts : goal.returns-in_err-found-clause-counts
returns-in_err-found-clause-counts g c =
    still_tells (λ item. counts_with g.P.Pipes.known.out_name (g.H.Holder.counts c.args.holder.now) (g.H.Holder.holding c.args.holder.now) item) c.args.self.now _
    (ap (λ (p : Past (Given g.row.P-Name.Denot g.row.P-Out.Denot g.row.P-In.Denot) g.row.P-Name.Denot g.row.P-Story.Denot). lent_to c.self.inside.caller (map (λ x. x.0) c.self.inside.order.items) p) c.in_err-found.ensures.err.0 ∙ c.self.view_is)

pub returns-in-Done-clause-counts : goal.returns-in-Done-clause-counts
returns-in-Done-clause-counts g c =
    heard_tells (λ item. counts_with g.P.Pipes.known.out_name (g.H.Holder.counts c.args.holder.now) (g.H.Holder.holding c.args.holder.now) item) c.args.self.now _ c.args.slot
    (served_done g.P.Pipes.known.out_name g.P.Pipes.known.in_name _ _ c.self.inside.history c.deliver.new.self (length c.self.inside.wakers.items) c.self.inside.caller c.args.self.now c.self.view_is c.self.invariant.0 (g.H.Holder.holding c.args.holder.now) (g.H.Holder.holding c.deliver.new.holder) c.requires.has c.args.slot c.requires.mine c.requires.lent
    (ap (λ (xs : List (Mark × Unit {0})). map (λ x. x.0) xs) c.and-heard.ensures ∙ map-append (λ x. x.0) c.self.inside.order.items (_ ∷ []))
    (subst (λ (f : Heard). FindsOldest g.P.Pipes.known.out_name g.P.Pipes.known.in_name c.args.slot f c.self.inside.history c.deliver.new.self) c.in-Done.is c.in_ok-found.ensures.ok) c.is_run-in-Done.ensures.run c.is_run-in-Done.ensures.named)
    (subst (λ (d : Lent (Given g.row.P-Name.Denot g.row.P-Out.Denot g.row.P-In.Denot) g.row.P-Name.Denot g.row.P-Story.Denot). CountsOnce g.P.Pipes.known.out_name (g.H.Holder.counts c.args.holder.now) d.past.events c.deliver.new.self.events (g.H.Holder.holding c.args.holder.now)) c.self.view_is c.in_ok-found.ensures.counts)

pub returns-in-Empty-clause-counts : goal.returns-in-Empty-clause-counts
returns-in-Empty-clause-counts g c =
    seen_tells (λ item. counts_with g.P.Pipes.known.out_name (g.H.Holder.counts c.args.holder.now) (g.H.Holder.holding c.args.holder.now) item) c.args.self.now _ c.args.slot
    (subst (λ (p : Past (Given g.row.P-Name.Denot g.row.P-Out.Denot g.row.P-In.Denot) g.row.P-Name.Denot g.row.P-Story.Denot). SeesNone c.args.slot c.args.self.now (lent_to c.self.inside.caller (map (λ x. x.0) c.and-looked.result.items) p)) (sym (subst (λ (f : Heard). FindsOldest g.P.Pipes.known.out_name g.P.Pipes.known.in_name c.args.slot f c.self.inside.history c.deliver.new.self) c.in-Empty.is c.in_ok-found.ensures.ok).1)
    (record {
      sight = c.sight_of-sight.result;
      sees = sees_more (map (λ x. x.0) c.self.inside.order.items) _ c.self.inside.history (length c.self.inside.wakers.items) c.sight_of-sight.result
          (ap (λ (xs : List (Mark × Unit {0})). map (λ x. x.0) xs) c.and-looked.ensures ∙ map-append (λ x. x.0) c.self.inside.order.items (_ ∷ []))
          c.self.invariant.0 (subst (λ (p : Past (Given g.row.P-Name.Denot g.row.P-Out.Denot g.row.P-In.Denot) g.row.P-Name.Denot g.row.P-Story.Denot). IsSeen (control_of p) c.sight_of-sight.result) (subst (λ (f : Heard). FindsOldest g.P.Pipes.known.out_name g.P.Pipes.known.in_name c.args.slot f c.self.inside.history c.deliver.new.self) c.in-Empty.is c.in_ok-found.ensures.ok).1 c.sight_of-sight.ensures.seen) c.self.inside.caller _ c.args.self.now c.self.view_is c.sight_of-sight.ensures.looked_at c.sight_of-sight.ensures.by;
    })) (λ sight. tt)

pub returns-in_err-found-clause-succeeds : goal.returns-in_err-found-clause-succeeds
returns-in_err-found-clause-succeeds g c = λ none no_plug.
    absurd (never (no_bind (control_of c.self.inside.history) c.args.slot.0 c.in_err-found.ensures.succeeds c.in_err-found.ensures.empty
    (subst (λ (d : Lent (Given g.row.P-Name.Denot g.row.P-Out.Denot g.row.P-In.Denot) g.row.P-Name.Denot g.row.P-Story.Denot). NoBindWaits (control_of d.past) c.args.slot.0) (sym c.self.view_is) none)
    (subst (λ (d : Lent (Given g.row.P-Name.Denot g.row.P-Out.Denot g.row.P-In.Denot) g.row.P-Name.Denot g.row.P-Story.Denot). NoPlugWaits (control_of d.past) c.args.slot.0) (sym c.self.view_is) no_plug)))

pub returns-in_err-found-clause-left : goal.returns-in_err-found-clause-left
returns-in_err-found-clause-left g c =
    still_leaves (g.H.Holder.holding c.args.holder.now) c.args.self.now _
    (ap (λ (p : Past (Given g.row.P-Name.Denot g.row.P-Out.Denot g.row.P-In.Denot) g.row.P-Name.Denot g.row.P-Story.Denot). lent_to c.self.inside.caller (map (λ x. x.0) c.self.inside.order.items) p) c.in_err-found.ensures.err.0 ∙ c.self.view_is)

pub returns-in-Done-clause-left : goal.returns-in-Done-clause-left
returns-in-Done-clause-left g c =
    heard_leaves (g.H.Holder.holding c.args.holder.now) c.args.self.now _ c.args.slot
    (served_done g.P.Pipes.known.out_name g.P.Pipes.known.in_name _ _ c.self.inside.history c.deliver.new.self (length c.self.inside.wakers.items) c.self.inside.caller c.args.self.now c.self.view_is c.self.invariant.0 (g.H.Holder.holding c.args.holder.now) (g.H.Holder.holding c.deliver.new.holder) c.requires.has c.args.slot c.requires.mine c.requires.lent
    (ap (λ (xs : List (Mark × Unit {0})). map (λ x. x.0) xs) c.and-heard.ensures ∙ map-append (λ x. x.0) c.self.inside.order.items (_ ∷ []))
    (subst (λ (f : Heard). FindsOldest g.P.Pipes.known.out_name g.P.Pipes.known.in_name c.args.slot f c.self.inside.history c.deliver.new.self) c.in-Done.is c.in_ok-found.ensures.ok) c.is_run-in-Done.ensures.run c.is_run-in-Done.ensures.named)
    (desk_leaves (map (λ x. x.0) c.self.inside.order.items) c.self.inside.history (length c.self.inside.wakers.items) c.self.inside.caller c.args.self.now c.self.view_is c.self.invariant.0 (g.H.Holder.holding c.args.holder.now) c.deliver.new.self.events c.in_ok-found.ensures.left)

pub returns-in-Empty-clause-left : goal.returns-in-Empty-clause-left
returns-in-Empty-clause-left g c =
    seen_leaves (g.H.Holder.holding c.args.holder.now) c.args.self.now _ c.args.slot
    (subst (λ (p : Past (Given g.row.P-Name.Denot g.row.P-Out.Denot g.row.P-In.Denot) g.row.P-Name.Denot g.row.P-Story.Denot). SeesNone c.args.slot c.args.self.now (lent_to c.self.inside.caller (map (λ x. x.0) c.and-looked.result.items) p)) (sym (subst (λ (f : Heard). FindsOldest g.P.Pipes.known.out_name g.P.Pipes.known.in_name c.args.slot f c.self.inside.history c.deliver.new.self) c.in-Empty.is c.in_ok-found.ensures.ok).1)
    (record {
      sight = c.sight_of-sight.result;
      sees = sees_more (map (λ x. x.0) c.self.inside.order.items) _ c.self.inside.history (length c.self.inside.wakers.items) c.sight_of-sight.result
          (ap (λ (xs : List (Mark × Unit {0})). map (λ x. x.0) xs) c.and-looked.ensures ∙ map-append (λ x. x.0) c.self.inside.order.items (_ ∷ []))
          c.self.invariant.0 (subst (λ (p : Past (Given g.row.P-Name.Denot g.row.P-Out.Denot g.row.P-In.Denot) g.row.P-Name.Denot g.row.P-Story.Denot). IsSeen (control_of p) c.sight_of-sight.result) (subst (λ (f : Heard). FindsOldest g.P.Pipes.known.out_name g.P.Pipes.known.in_name c.args.slot f c.self.inside.history c.deliver.new.self) c.in-Empty.is c.in_ok-found.ensures.ok).1 c.sight_of-sight.ensures.seen) c.self.inside.caller _ c.args.self.now c.self.view_is c.sight_of-sight.ensures.looked_at c.sight_of-sight.ensures.by;
    }))
