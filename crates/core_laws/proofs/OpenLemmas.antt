-- The ends of a socket that its caller has open, each where it is.
use Rattle.std.specs.Prelude.{◌≡◌, ℕ, true, Some, refl}
use Rattle.std.proofs.Common.{sym, subst}
use Rattle.spec_control.specs.Control.{Control}
use Rattle.spec_control.specs.Names.{name_of}
use Rattle.msg_pipe.specs.Known.{Known}
use Rattle.any_sock.specs.declared.any_sock.AnySock.{AnySock}
use Rattle.desk.specs.declared.given.Given.{Given}
use Rattle.ctl_plane.specs.Past.{control_of}
use Rattle.end_table.specs.declared.table.Place.{Place}
use Rattle.end_table.specs.Places.{place_at}
use Rattle.control_laws.proofs.HaveLemmas.{lent_holders_have_it}
use Rattle.socket_laws.specs.Ends.{IsHeldFor}
use Rattle.socket_laws.proofs.PlaceLemmas.{places_are_held}
use Rattle.sock_core.specs.declared.sock.SockCore.{SockCore}
use Rattle.sock_core.specs.Has.{holding_in}
use Rattle.line_socket.specs.Standing.{kind_told}
use Rattle.plain_desk.specs.Lent.{moments_of, IsOneOrder, Lent}
use Rattle.line_socket.specs.Owned.{IsOwned}
use Rattle.core_laws.specs.Calls.{for_caller}
use Rattle.core_laws.proofs.OwnedLemmas.{mine}

pub held_for : (W T : Type 0) {S N O I : Type 0} (K : Known S O I N) (d : Lent (Given N O I) N T) → IsOneOrder d → (j : ℕ) (pipes : S) (t : SockCore AnySock W N O I) → IsOwned K j (moments_of (for_caller j d)) pipes t
    → (k : ℕ) (p : Place N I) → place_at t.ends.places.items k ≡ Some p → p.held ≡ true → IsHeldFor (control_of d.past) (name_of d.items) t.number.0 p
held_for W T {S} {N} {O} {I} K d order j pipes t owned k p at held =
    let run = order.order in
    let h = holding_in (kind_told t.kind) t in
    subst (λ (c : Control). IsHeldFor c (name_of d.items) t.number.0 p) (sym order.control)
    (places_are_held N T I d.past.workers d.items run.run (name_of d.items) t.number.0 h (lent_holders_have_it N T d.past.workers d.items run.run run.named run.by j h owned.has t.number.0 owned.held) t.ends.places.items
    (record { ends = mine W T K d order j pipes t owned; writes = λ e. refl }) k p at held)
