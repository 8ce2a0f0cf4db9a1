-- The ends of closed sockets that are on their way, by the names of the one order.
use Rattle.std.specs.Prelude.{◌≡◌, ℕ, List, Option}
use Rattle.std.proofs.Common.{sym, ◌∙◌, subst}
use Rattle.zq_base.specs.declared.ids.EndId.{EndId}
use Rattle.spec_control.specs.Control.{Control}
use Rattle.spec_control.specs.Names.{name_of}
use Rattle.desk.specs.declared.given.Given.{Given}
use Rattle.ctl_plane.specs.Giving.{AreOnTheirWay}
use Rattle.ctl_plane.specs.Past.{Past, control_of, items_of}
use Rattle.plain_desk.specs.declared.mark.Mark.{Mark}
use Rattle.plain_desk.specs.Lent.{lent_to, IsLent, Lent}
use Rattle.plain_desk.proofs.DeliverLemmas.{named_same}

on_way_by : {N O I : Type 0} (in_name : I → N) (c : Control) (names said : EndId → Option N) → ((e : EndId) → names e ≡ said e) → (gs : List (Given N O I)) → AreOnTheirWay in_name c names gs → AreOnTheirWay in_name c said gs
on_way_by in_name c names said same gs all = λ k g lt.
    let is = all k g lt in
    record { written = sym (same _) ∙ is.written; read = sym (same _) ∙ is.read; here = is.here; state = is.state; writes = is.writes; between = is.between }

pub desk_given : {N O I S : Type 0} (in_name : I → N) (ms : List Mark) (past : Past (Given N O I) N S) (wakers by : ℕ) (l : Lent (Given N O I) N S) → lent_to by ms past ≡ l → IsLent ms past wakers → AreOnTheirWay in_name (control_of past) (name_of (items_of past)) past.given → AreOnTheirWay in_name (control_of l.past) (name_of l.items) l.past.given
desk_given {N} {O} {I} {S} in_name ms past wakers by l seen lent all =
    on_way_by in_name (control_of l.past) (name_of (items_of past)) (name_of l.items) (named_same ms past wakers by l seen lent) l.past.given
    (subst (λ (d : Lent (Given N O I) N S). AreOnTheirWay in_name (control_of d.past) (name_of (items_of past)) d.past.given) seen all)
