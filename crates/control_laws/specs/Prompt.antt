-- What each object has done at the end of each event: nobody who was asked is behind with what that asks of it (own choice).
use Rattle.std.specs.Prelude.{◌≡◌, ◌≢◌, ◌⊎◌, ℕ, Bool, true, false, [], Some, None}
use Rattle.spec_control.specs.declared.end.EndState.TheVariants.{WaitDelimiter}
use Rattle.spec_control.specs.declared.stage.Stage.TheVariants.{Ending}
use Rattle.spec_control.specs.Stage.{is_alive, was_asked}
use Rattle.spec_control.specs.Place.{At, was_ended}
use Rattle.spec_control.specs.Row.{Row, LinkEvent, OwnComes, PlugComes, IsTold, TermComes, AsksOver, RequestComes, ReapComes, AckComes, RootAsked, StopPut, StopComes, AsksForLink, AsksForLinger, is_socket, reads_on, up_queue, down_queue}
use Rattle.spec_control.specs.Rows.{Rows, no_pair, obj, pair, end_half, end_place, end_owner, behind, owed, living}
use Rattle.spec_control.specs.After.{pair_or_none}

-- what each event has done when it is over, of all objects but one; `left i` says that object i had output left when it last tried to end
pub record IsPromptBut (b : ℕ) (s : Rows) (left : ℕ → Bool) : Type 0 where
  -- who was asked has asked its ends
  pub ends : (k : ℕ) (a : Bool) → end_owner (pair s k) a ≢ b → was_asked (obj s (end_owner (pair s k) a)).stage ≡ true → was_ended (reads_on (obj s (end_owner (pair s k) a))) (end_place (pair s k) a) ≡ true
  -- and told the children that it knows; the root waits until its sockets are closed
  pub children : (c w : ℕ) → w ≢ 0 → w ≢ b → (obj s c).owner ≡ Some w → was_asked (obj s w).stage ≡ true → (obj s c).noted ≡ true → is_alive (obj s c).stage ≡ false
  -- and has ended, where it could
  pub ended : (i : ℕ) → i ≢ b → (obj s i).stage ≡ Ending → behind s i ≡ 0 → owed s i ≡ 0 → living s i ≡ 0 → left i ≡ true

-- object b has done what it was asked to
pub record IsPromptAt (b : ℕ) (s : Rows) (left : ℕ → Bool) : Type 0 where
  pub ends : (k : ℕ) (a : Bool) → end_owner (pair s k) a ≡ b → was_asked (obj s b).stage ≡ true → was_ended (reads_on (obj s b)) (end_place (pair s k) a) ≡ true
  pub children : (c : ℕ) → b ≢ 0 → (obj s c).owner ≡ Some b → was_asked (obj s b).stage ≡ true → (obj s c).noted ≡ true → is_alive (obj s c).stage ≡ false
  pub ended : (obj s b).stage ≡ Ending → behind s b ≡ 0 → owed s b ≡ 0 → living s b ≡ 0 → left b ≡ true

-- each object has
pub record IsPrompt (s : Rows) (left : ℕ → Bool) : Type 0 where
  pub ends : (k : ℕ) (a : Bool) → was_asked (obj s (end_owner (pair s k) a)).stage ≡ true → was_ended (reads_on (obj s (end_owner (pair s k) a))) (end_place (pair s k) a) ≡ true
  pub children : (c w : ℕ) → w ≢ 0 → (obj s c).owner ≡ Some w → was_asked (obj s w).stage ≡ true → (obj s c).noted ≡ true → is_alive (obj s c).stage ≡ false
  pub ended : (i : ℕ) → (obj s i).stage ≡ Ending → behind s i ≡ 0 → owed s i ≡ 0 → living s i ≡ 0 → left i ≡ true

-- the root owns sockets, these own the rest, and ends are of sockets and of what these own
pub record HasShape (s : Rows) : Type 0 where
  pub root : (obj s 0).owner ≡ None
  pub owners : (c w : ℕ) → (obj s c).owner ≡ Some w → w ≢ 0 → is_socket (obj s w).kind ≡ true
  pub ends : (k : ℕ) (a : Bool) → ((w : ℕ) × ((obj s (end_owner (pair s k) a)).owner ≡ Some w)) ⊎ (pair s k ≡ no_pair)

-- the root was asked, its sockets were told, nothing is on its way, and nobody waits for output or, who reads on, for its delimiter
pub record IsStill (s : Rows) (left : ℕ → Bool) : Type 0 where
  pub asked : is_alive (obj s 0).stage ≡ false
  pub closed : (c : ℕ) → (obj s c).owner ≡ Some 0 → is_alive (obj s c).stage ≡ false
  pub up : (c : ℕ) → up_queue (obj s c) ≡ []
  pub down : (c : ℕ) → down_queue (obj s c) ≡ []
  pub mail : (k : ℕ) (a : Bool) → (end_half (pair s k) a).mail ≡ []
  pub no_output : (i : ℕ) → (obj s i).stage ≡ Ending → left i ≡ false
  pub no_delimiter : (k : ℕ) (a : Bool) → was_asked (obj s (end_owner (pair s k) a)).stage ≡ true → reads_on (obj s (end_owner (pair s k) a)) ≡ true → end_place (pair s k) a ≢ At WaitDelimiter

-- the event is one of this object: its own, or its child's
abbrev pub IsOf : LinkEvent → ℕ → Row → ℕ → Type 0
IsOf OwnComes c o b = o.owner ≡ Some b
IsOf PlugComes c o b = c ≡ b
IsOf IsTold c o b = o.owner ≡ Some b
IsOf TermComes c o b = c ≡ b
IsOf AsksOver c o b = c ≡ b
IsOf RequestComes c o b = o.owner ≡ Some b
IsOf ReapComes c o b = o.owner ≡ Some b
IsOf AckComes c o b = o.owner ≡ Some b
IsOf RootAsked c o b = (c ≡ b) × (o.owner ≡ None)
IsOf StopPut c o b = o.owner ≡ Some b
IsOf StopComes c o b = c ≡ b
IsOf AsksForLink c o b = c ≡ b
IsOf AsksForLinger c o b = c ≡ b

-- an accepted session has end a of its pair, and its socket end b
abbrev pub HaveTheirPairs : Rows → Type 0
HaveTheirPairs s = (i : ℕ) → (obj s i).accepted ≡ true →
    ((pair s (pair_or_none (obj s i).pair)).a_owner ≡ i) × ((obj s i).owner ≡ Some (pair s (pair_or_none (obj s i).pair)).b_owner)
