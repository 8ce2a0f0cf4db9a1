-- The calls of an open socket are told as one piece more of a core (own choice).
use Rattle.std.specs.Prelude.{◌≡◌, ◌++◌, false, ℕ, List, length}
use Rattle.spec_pattern.specs.declared.answers.Skip.{Skip}
use Rattle.spec_control.specs.Control.{begun, id}
use Rattle.spec_control.specs.Moments.{moments_from}
use Rattle.spec_run.specs.Act.{Act}
use Rattle.msg_pipe.specs.Known.{Known}
use Rattle.zq_world.specs.Piece.{Piece, AddsActs}
use Rattle.socket_laws.specs.Standing.{CoreStands}
use Rattle.zq_world.specs.declared.marks.PieceMark.{PieceMark}
use Rattle.zq_world.specs.Marks.{all_told, piece_marks, pieces_told}
use Rattle.plain_desk.specs.Lent.{HasSocket, IsOneOrder, Lent}
use Rattle.core_laws.specs.Done.{ActsDone}
use Rattle.core_laws.specs.Stands.{NamesMade}

module _ {G N T : Type 0} where
  -- the calls that are told, with the items of the one order
  abbrev pub told_in : Lent G N T → List PieceMark → List (Piece N T)
  told_in d marks = pieces_told marks (moments_from (begun 1) d.items)

module _ {S O I N : Type 0} (K : Known S O I N) where
  -- there is one I/O worker, each item is told, and what was done stands
  pub record TaleStands {G T : Type 0} (d : Lent G N T) (pipes : S) (marks : List PieceMark) : Type 0 where
    pub one : d.past.workers ≡ 1
    pub all : all_told marks ≡ length d.items
    pub stands : CoreStands K d.items pipes (told_in d marks)

  -- so it is behind a call, which is one piece more
  pub record IsToldSo {G T : Type 0} (k : ℕ) (acts : List (Act N T)) (skips : List Skip) (old new : Lent G N T) (behind : S) (marks now : List PieceMark) : Type 0 where
    pub tale : TaleStands new behind now
    pub adds : AddsActs k acts skips (told_in old marks) (told_in new now)

  -- of any open socket
  abbrev pub CallsAreTold : (G T : Type 0) → Type 0
  CallsAreTold G T = (o : ℕ) (old new : Lent G N T) (before behind : S) (acts : List (Act N T)) → IsOneOrder old → IsOneOrder new → HasSocket old (id o) →
      ActsDone K o old new before behind acts → NamesMade new → (skips : List Skip) (marks now : List PieceMark) → now ≡ marks ++ piece_marks old.caller false acts skips →
      TaleStands old before marks → IsToldSo old.caller acts skips old new behind marks now
