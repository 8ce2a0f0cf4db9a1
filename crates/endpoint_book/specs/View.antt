-- How a table of names is seen as a map (own choice).
use Rattle.std.specs.Prelude.{ℕ, List, map}
use Rattle.std.specs.FinMap as finite
use Rattle.std.specs.Coded.{Coded, coded_list, coded_ℕ}
use Rattle.std.specs.declared.vec.Vec.{Vec}
use Rattle.spec_control.specs.declared.book.Binding.{Binding}
use Rattle.spec_control.specs.EndpointBook.{Names}

-- the octets of a key
abbrev pub octets_of : {A : Type 0} → Vec ℕ A → List ℕ
octets_of key = key.items

-- tables whose keys are seen as lists of numbers
module _ {K : Type 0} (numbers : K → List ℕ) where
  -- the entries, each with its key's numbers
  abbrev pub by_numbers : List (K × Binding) → List (List ℕ × Binding)
  by_numbers entries = map (λ e. (numbers e.0, e.1)) entries

  -- the map that the entries are
  abbrev pub names_of : List (K × Binding) → Names
  names_of entries = finite.from_entries (by_numbers entries)

-- the code of such a map, from that of its values
abbrev pub names_code : Coded Binding → Coded Names
names_code binding = finite.code (coded_list coded_ℕ) binding
