-- The ends of a socket stand by their places, each fact for itself (own choice).
use Rattle.std.specs.Prelude.{◌≡◌, ◌≢◌, ◌≤◌, ℕ, Bool, true, false, List, [], Option, Some, length, is_some, vec_capacity}
use Rattle.sock_core.specs.declared.sock.Room.{Room}
use Rattle.msg_pipe.specs.Known.{Known, IsElse}
use Rattle.end_table.specs.declared.row.EndRow.{EndRow}
use Rattle.end_table.specs.Rows.{Rows, row_at}
use Rattle.end_table.specs.declared.table.Place.{Place}
use Rattle.end_table.specs.Places.{place_at}
use Rattle.end_table.specs.Sound.{ReadsSo, WritesSo, AreApart}

module _ {S O I N : Type 0} (K : Known S O I N) where
  -- both halves stand in a row, or the reading half alone at the place, or nothing where the end is gone
  pub record IsStanding (pipes : S) (row : Option (EndRow O I)) (p : Place N I) : Type 0 where
    pub gone : p.held ≡ false → is_some row ≡ false
    pub row_there : p.held ≡ true → p.writes ≡ true → is_some row ≡ true
    pub row_is : (r : EndRow O I) → row ≡ Some r → p.held ≡ true → p.writes ≡ true → WritesSo K pipes r p
    pub no_row : p.held ≡ true → p.writes ≡ false → is_some row ≡ false
    pub input_there : p.held ≡ true → p.writes ≡ false → is_some p.input ≡ true
    pub input_is : (i : I) → p.input ≡ Some i → p.held ≡ true → p.writes ≡ false → ReadsSo K pipes i p

  pub record AreSound (pipes : S) (rows : Rows O I) (places : List (Place N I)) : Type 0 where
    pub count : length rows ≡ length places
    pub stands : (k : ℕ) (p : Place N I) → place_at places k ≡ Some p → IsStanding pipes (row_at rows k) p
    pub apart : (j k : ℕ) (p q : Place N I) → j ≢ k → place_at places j ≡ Some p → place_at places k ≡ Some q → p.held ≡ true → q.held ≡ true → AreApart K p q
    pub crossed : (j k : ℕ) (p q : Place N I) → place_at places j ≡ Some p → place_at places k ≡ Some q → p.held ≡ true → p.writes ≡ true → q.held ≡ true → IsElse K p.written q.read

-- a socket has room to give its ends away, while it is open
pub record KeepsRoom {N O I : Type 0} (is_open : Bool) (places : ℕ) (room : Room N O I) : Type 0 where
  pub given : is_open ≡ true → places ≤ vec_capacity room.given
  pub joined : is_open ≡ true → places ≤ vec_capacity room.joined
  pub none_given : room.given.items ≡ []
  pub none_joined : room.joined.items ≡ []
