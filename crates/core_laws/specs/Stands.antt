-- What stands between two calls of a core goes on over those of an open socket (own choice).
use Rattle.std.specs.Prelude.{◌≡◌, ◌<◌, false, ℕ, List, Some}
use Rattle.zq_base.specs.Ends.{PipeId}
use Rattle.spec_control.specs.Control.{id, next_pair}
use Rattle.spec_control.specs.Names.{name_of}
use Rattle.spec_run.specs.Act.{Act}
use Rattle.msg_pipe.specs.Known.{Known}
use Rattle.ctl_plane.specs.Past.{control_of}
use Rattle.zq_world.specs.Piece.{Piece}
use Rattle.socket_laws.specs.Standing.{CoreStands}
use Rattle.socket_laws.specs.StandingCalls.{CallStands}
use Rattle.plain_desk.specs.Lent.{GrowsBy, HasSocket, IsOneOrder, Lent}
use Rattle.core_laws.specs.Done.{ActsDone}

-- the pipes that have names are of pairs that have their numbers
abbrev pub NamesMade : {G N T : Type 0} → Lent G N T → Type 0
NamesMade {N = N} d = (p : PipeId) (n : N) → name_of d.items p ≡ Some n → p.pair.0 < next_pair (control_of d.past)

-- so a call of an open socket is one over which it does, whatever the call was, and even where it closed the socket
abbrev pub CallsStand : {S O I N : Type 0} → Known S O I N → (G T : Type 0) → Type 0
CallsStand {S} {N = N} K G T = (o : ℕ) (old new : Lent G N T) (before behind : S) (acts : List (Act N T)) → IsOneOrder old → IsOneOrder new → HasSocket old (id o) →
    (done : ActsDone K o old new before behind acts) → NamesMade new → old.past.workers ≡ 1 → (pieces : List (Piece N T)) → CoreStands K old.items before pieces →
    (let grows : GrowsBy old new = done.grows in CallStands K old.items grows.more before behind pieces old.caller false acts)
