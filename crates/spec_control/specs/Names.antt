-- The names of pipes in a control run (own choice).
use Rattle.std.specs.Prelude.{◌≡◌, List, [], ◌∷◌, ◌++◌, Option, Some, None, if◌then◌else◌, All, flat_map}
use Rattle.zq_base.specs.declared.ids.EndId.{EndId}
use Rattle.spec_control.specs.declared.entry.PipeName.{PipeName}
use Rattle.spec_control.specs.declared.entry.Joining.{Joining}
use Rattle.spec_control.specs.declared.entry.Item.{Item}
use Rattle.spec_control.specs.declared.entry.Item.TheVariants.{Event, Seen}
use Rattle.zq_base.specs.Ends.{other_end}
use Rattle.spec_control.specs.Control.{is_end}
use Rattle.spec_control.specs.ControlRun.{answer_of}

module _ {N : Type 0} where
  -- the first name in a list of a pipe, by the end that writes it
  abbrev pub name_in : EndId → List (PipeName N) → Option N
  name_in e [] = None
  name_in e (n ∷ ns) = if is_end e n.pipe then Some n.name else name_in e ns

module _ {N S : Type 0} where
  -- the names that an item gives to pipes
  abbrev pub named_in : Item N S → List (PipeName N)
  named_in (Event entry) = (answer_of entry.did).opened
  named_in (Seen sight) = []

  -- the ends that join in an item
  abbrev pub joined_in : Item N S → List (Joining N)
  joined_in (Event entry) = (answer_of entry.did).joined
  joined_in (Seen sight) = []

  -- the name that the items so far have for a pipe
  abbrev pub name_of : List (Item N S) → EndId → Option N
  name_of items e = name_in e (flat_map named_in items)

  -- an end that joins is told the names of the two pipes of its pair
  pub record IsTold (items : List (Item N S)) (j : Joining N) : Type 0 where
    pub written : name_of items j.end ≡ Some j.written
    pub read : name_of items (other_end j.end) ≡ Some j.read

  -- behind these items, an item tells the names as they were given
  abbrev pub FitsNames : List (Item N S) → Item N S → Type 0
  FitsNames past item = All (IsTold (past ++ item ∷ [])) (joined_in item)

  -- each item of a run tells the names as they were given
  abbrev pub AreNamed : (past items : List (Item N S)) → Type 0
  AreNamed past [] = Unit {0}
  AreNamed past (item ∷ items) = FitsNames past item × AreNamed (past ++ item ∷ []) items
