-- A socket of number 1 with one end (own choice).
use Rattle.std.specs.Prelude.{◌≡◌, ℕ, true, List, [], ◌∷◌}
use Rattle.zq_base.specs.declared.ids.EndId.{EndId}
use Rattle.desk.specs.Holding.{Holding}
use Rattle.msg_pipe.specs.declared.plain_pipes.PlainIn.{PlainIn}
use Rattle.end_table.specs.declared.table.Place.{Place}

-- the end a of pair 7
abbrev pub the_end : EndId
the_end = record { pair = record { 0 = 7 }; a = true }

-- it is the only one, and writes and reads pipes of these names
pub record HasOne (written read : ℕ) (h : Holding ℕ) : Type 0 where
  pub holds : h.holds 1 ≡ true
  pub ends : h.ends 1 ≡ record { end = the_end; written = written; read = read } ∷ []

-- no end of plain pipes
abbrev pub no_places : List (Place ℕ PlainIn)
no_places = []
