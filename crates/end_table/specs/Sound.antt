-- The ends that an owner has are those of its pipes, each with halves of its own (own choice).
use Rattle.std.specs.Prelude.{◌≡◌, ◌≢◌, ◌&&◌, not, ℕ, Bool, true, false, List, Option, Some, None, length}
use Rattle.spec_control.specs.declared.end.EndState.{EndState}
use Rattle.spec_control.specs.declared.end.EndState.TheVariants.{Active, DelimiterGot, WaitDelimiter, AckSent, AskedOnce, AskedTwice, Gone}
use Rattle.msg_pipe.specs.Known.{Known, IsThere, IsElse}
use Rattle.end_table.specs.declared.row.EndRow.{EndRow}
use Rattle.end_table.specs.Rows.{Rows, row_at}
use Rattle.desk.specs.declared.halves.Halves.{Halves}
use Rattle.end_table.specs.declared.table.Place.{Place}
use Rattle.end_table.specs.Places.{place_at}

abbrev pub is_active : EndState → Bool
is_active Active = true
is_active DelimiterGot = false
is_active WaitDelimiter = false
is_active AckSent = false
is_active AskedOnce = false
is_active AskedTwice = false
is_active Gone = false

-- an end is written while it is Active and its pipe has no delimiter
abbrev pub can_write : {N I : Type 0} → Place N I → Bool
can_write p = is_active p.state && not p.sealed

module _ {S O I N : Type 0} (K : Known S O I N) where
  -- a reading half is of the pipe of this name, and has met its delimiter where that is said
  pub record ReadsSo (pipes : S) (i : I) (p : Place N I) : Type 0 where
    pub name_is : K.in_name i ≡ p.read
    pub there : IsThere K pipes p.read
    pub met : p.met ≡ true → (K.reading pipes i).ended ≡ true

  -- the row of an end whose writing half is there
  pub record WritesSo (pipes : S) (row : EndRow O I) (p : Place N I) : Type 0 where
    pub end_is : row.end ≡ p.end
    pub name_is : K.out_name row.out ≡ p.written
    pub there : IsThere K pipes p.written
    pub unsealed : p.sealed ≡ false → (K.writing pipes row.out).sealed ≡ false
    pub writable_is : row.writable ≡ can_write p
    pub reads : ReadsSo pipes row.input p

  -- both halves stand in a row, or the reading half alone at the place, or nothing where the end is gone
  abbrev pub StandsSo : S → Option (EndRow O I) → Place N I → (held writes : Bool) → Type 0
  StandsSo pipes row p false writes = row ≡ None
  StandsSo pipes row p true true = (r : EndRow O I) × (row ≡ Some r) × WritesSo pipes r p
  StandsSo pipes row p true false = (i : I) × (row ≡ None) × (p.input ≡ Some i) × ReadsSo pipes i p

  -- two ends are two, and their halves are of different pipes wherever names tell halves apart
  pub record AreApart (p q : Place N I) : Type 0 where
    pub ends : p.end ≢ q.end
    pub outs : p.writes ≡ true → q.writes ≡ true → IsElse K p.written q.written
    pub ins : IsElse K p.read q.read

  pub record IsSound (pipes : S) (rows : Rows O I) (places : List (Place N I)) : Type 0 where
    pub count : length rows ≡ length places
    pub stands : (k : ℕ) (p : Place N I) → place_at places k ≡ Some p → StandsSo pipes (row_at rows k) p p.held p.writes
    pub apart : (j k : ℕ) (p q : Place N I) → j ≢ k → place_at places j ≡ Some p → place_at places k ≡ Some q → p.held ≡ true → q.held ≡ true → AreApart p q
    -- no end writes a pipe that an end of the same owner reads
    pub crossed : (j k : ℕ) (p q : Place N I) → place_at places j ≡ Some p → place_at places k ≡ Some q → p.held ≡ true → p.writes ≡ true → q.held ≡ true → IsElse K p.written q.read

  -- the end at a place has other pipes than these halves
  pub record IsElseOf (p : Place N I) (h : Halves O I) : Type 0 where
    pub outs : p.writes ≡ true → IsElse K p.written (K.out_name h.out) × IsElse K (K.out_name h.out) p.written
    pub ins : IsElse K p.read (K.in_name h.input) × IsElse K (K.in_name h.input) p.read
    pub reads : IsElse K (K.out_name h.out) p.read
    pub writes : p.writes ≡ true → IsElse K p.written (K.in_name h.input)

  -- halves that may join them: of pipes that are there and of no end's, and nothing was sealed
  pub record Fits (pipes : S) (places : List (Place N I)) (h : Halves O I) : Type 0 where
    pub out_there : IsThere K pipes (K.out_name h.out)
    pub in_there : IsThere K pipes (K.in_name h.input)
    pub unsealed : (K.writing pipes h.out).sealed ≡ false
    pub crossed : IsElse K (K.out_name h.out) (K.in_name h.input)
    pub others : (k : ℕ) (p : Place N I) → place_at places k ≡ Some p → p.held ≡ true → IsElseOf p h
