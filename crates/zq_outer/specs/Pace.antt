-- What a peer in memory says, piece by piece: so many reads stall, and then so many octets come (own choice).
use Rattle.std.specs.Prelude.{ℕ, ◌+◌, ◌-◌, ◌==◌, List, [], ◌∷◌, if◌then◌else◌}
use Rattle.zq_outer.specs.declared.pace.Gap.{Gap}

-- what is left of the first piece, and the pieces behind it
pub record Paced : Type 0 where
  pub first : Gap
  pub behind : List Gap

-- a piece that is used up makes room for the next
abbrev pub next_piece : Gap → List Gap → Paced
next_piece first [] = record { first = first; behind = [] }
next_piece first (gap ∷ gaps) = record { first = gap; behind = gaps }

abbrev pub in_turn : Gap → List Gap → Paced
in_turn first behind =
    if first.stalls + first.octets == 0 then next_piece first behind
    else record { first = first; behind = behind }

-- how many octets the next read gives at most: none while reads of the first piece stall
abbrev pub paced_room : Paced → ℕ
paced_room p = if p.first.stalls == 0 then p.first.octets else 0

-- one read more was made, before its octets are taken
abbrev pub after_read : Paced → Paced
after_read p =
    if p.first.stalls == 0 then p
    else in_turn (record p.first { stalls = p.first.stalls - 1 }) p.behind

-- so many octets of the first piece were given
abbrev pub after_given : ℕ → Paced → Paced
after_given n p = in_turn (record p.first { octets = p.first.octets - n }) p.behind
