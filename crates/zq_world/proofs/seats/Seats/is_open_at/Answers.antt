use Rattle.std.proofs.Common.{◌≡◌, Some, None, sym, ap, subst, ◌∙◌}
use Rattle.std.specs.Prelude.{slice_get}
use Rattle.std.proofs.lemmas.Option.{slice_get_past}
use Rattle.zq_world.specs.Seats.{is_open_in}
use Rattle.zq_world.proofs.SeatLemmas.{read_at}
use Rattle.zq_world.proofs.seats.Seats.is_open_at.Goals as goal

pub returns-in-Some : goal.returns-in-Some
returns-in-Some g c =
    c.is_open.ensures
    ∙ sym (ap is_open_in (subst (λ l. slice_get l c.args.place ≡ Some c.in-Some.seat.now) (c.deref.ensures.value ∙ c.self.view_is)
    (read_at c.deref.result.now c.args.place c.in-Some.seat.now c.in-Some.ensures.lookup.3.0 c.in-Some.ensures.lookup.1)))

pub returns-in-None : goal.returns-in-None
returns-in-None g c =
    sym (ap is_open_in (subst (λ l. slice_get l c.args.place ≡ None) (c.deref.ensures.value ∙ c.self.view_is) (slice_get_past c.deref.result.now c.args.place c.in-None.ensures.lookup.3)))
