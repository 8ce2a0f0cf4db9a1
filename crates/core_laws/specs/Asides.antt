-- One item in the one order that leaves all pipes aside (own choice).
use Rattle.std.specs.Prelude.{◌≡◌, ◌++◌, [], ◌∷◌}
use Rattle.spec_control.specs.declared.entry.Item.{Item}
use Rattle.spec_control.specs.Held.{caller_of}
use Rattle.socket_laws.specs.Aside.{IsAside}
use Rattle.plain_desk.specs.Lent.{IsOneOrder, Lent}

module _ {G N T : Type 0} where
  -- with one I/O worker, this item of the caller's led from one state of the order to the other
  pub record IsOneItem (old new : Lent G N T) (item : Item N T) : Type 0 where
    pub before : IsOneOrder old
    pub behind : IsOneOrder new
    pub one : old.past.workers ≡ 1
    pub workers : new.past.workers ≡ old.past.workers
    pub caller : new.caller ≡ old.caller
    pub items : new.items ≡ old.items ++ item ∷ []
    pub by : caller_of item ≡ old.caller

  -- and it is aside
  pub record IsOneAside (old new : Lent G N T) (item : Item N T) : Type 0 where
    pub adds : IsOneItem old new item
    pub aside : IsAside old.items item
