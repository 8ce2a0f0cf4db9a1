-- What holds of an open socket and its pipes between its calls (own choice).
use Rattle.std.specs.Prelude.{◌≡◌, ℕ, true, false, Option, Some, None}
use Rattle.zq_base.specs.declared.kind.Kind.{Kind}
use Rattle.spec_control.specs.Place.{At}
use Rattle.spec_pattern.specs.Peers.{pattern_kind}
use Rattle.msg_pipe.specs.Known.{Known}
use Rattle.any_sock.specs.declared.any_sock.AnySock.{AnySock}
use Rattle.any_sock.specs.Over.{over, peer_places, left_of, nothing_left}
use Rattle.end_table.specs.declared.table.Place.{Place}
use Rattle.end_table.specs.Places.{place_at}
use Rattle.end_table.specs.Sound.{is_active}
use Rattle.sock_core.specs.declared.sock.SockCore.{SockCore}
use Rattle.sock_core.specs.Kinds.{no_ends}
use Rattle.sock_core.specs.Standing.{standing_joins}
use Rattle.sock_core.specs.Holding.{KeepsElse}
use Rattle.sock_calls.specs.Calls.{FitsCore}
use Rattle.spec_run.specs.OpenSocket.{place_in}
use Rattle.line_socket.specs.View.{ends_told}

module _ {W N O I S : Type 0} (K : Known S O I N) where
  -- it fits the pipes and was not closed; each end that it has joined it, and is told where it is; one that is Active was not sealed
  pub record IsStanding (pipes : S) (s : SockCore AnySock W N O I) : Type 0 where
    pub fits : FitsCore K peer_places pipes s
    pub is_open : s.is_open ≡ true
    pub told : (k : ℕ) (p : Place N I) → place_at s.ends.places.items k ≡ Some p → p.held ≡ true → place_in (ends_told (standing_joins s.joins.items) s.ends.places.items) p.end ≡ At p.state
    pub unsealed : (k : ℕ) (p : Place N I) → place_at s.ends.places.items k ≡ Some p → p.held ≡ true → is_active p.state ≡ true → p.sealed ≡ false

  -- a socket is there, and stands
  abbrev pub Stands : S → Option (SockCore AnySock W N O I) → Type 0
  Stands pipes None = ⊥
  Stands pipes (Some s) = IsStanding pipes s

module _ {W N O I : Type 0} where
  -- want of memory has left nothing of it to do
  abbrev pub IsWhole : Option (SockCore AnySock W N O I) → Type 0
  IsWhole None = ⊥
  IsWhole (Some s) = left_of s.kind ≡ nothing_left

-- the kind of a socket
abbrev pub kind_told : AnySock → Kind
kind_told s = pattern_kind (over no_ends s)

module _ {W N O I : Type 0} where
  -- its ends stay where they are, and all else of it, its kind too, but that kind's state
  pub record KeepsAllElse (old new : SockCore AnySock W N O I) : Type 0 where
    pub rest : KeepsElse old new
    pub kind : kind_told new.kind ≡ kind_told old.kind

  -- the same of a socket that is there
  abbrev pub KeepsSocket : (old new : Option (SockCore AnySock W N O I)) → Type 0
  KeepsSocket None new = ⊥
  KeepsSocket (Some s) None = ⊥
  KeepsSocket (Some s) (Some t) = KeepsAllElse s t
