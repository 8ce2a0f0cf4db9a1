-- What became due to a session's flags, and is handed out (own choice).
use Rattle.std.specs.Prelude.{◌≡◌, true, List, [], ◌∷◌, ◌++◌, Contains}
use Rattle.spec_link.specs.declared.due.Due.{Due}
use Rattle.zq_session.specs.declared.life.Asked.{Asked}
use Rattle.zq_session.specs.declared.life.Life.{Life}
use Rattle.zq_session.specs.Lives.{AreDue}

-- this became due and wasn't handed out, and from now on it was
abbrev pub Hands : Life → (given given' : Asked) → Due → Type 0
Hands l given given' due =
    (dues handed : List Due) → AreDue l l.asked dues → AreDue l given handed →
    Contains dues due × (Contains handed due → ⊥) × AreDue l given' (handed ++ due ∷ [])

-- all that became due was handed out, aside from the handshake
pub record IsAllGiven (asked given : Asked) : Type 0 where
  pub linger : asked.linger ≡ true → given.linger ≡ true
  pub link : asked.link ≡ true → given.link ≡ true
  pub over : asked.over ≡ true → given.over ≡ true
  pub output : asked.output ≡ true → given.output ≡ true
  pub delimiter : asked.delimiter ≡ true → given.delimiter ≡ true
