-- The rows of the control plane: what each object and each pair is, and with it all that is on its way for them (own choice, after libzmq's `own_t` and `pipe_t`).
use Rattle.std.specs.Prelude.{◌≡◌, ◌≢◌, ◌+◌, ◌==◌, ◌&&◌, ℕ, Bool, true, false, not, cond, List, [], ◌∷◌, ◌++◌, Option, Some, None, sum_by, slice_index_or, slice_set}
use Rattle.spec_control.specs.declared.end.EndState.TheVariants.{Gone}
use Rattle.spec_control.specs.declared.stage.Stage.{Stage}
use Rattle.spec_control.specs.declared.stage.Stage.TheVariants.{Alive, Told, Ending, Finished, Cleared}
use Rattle.spec_control.specs.Stage.{has_ended, is_ending}
use Rattle.spec_control.specs.Place.{Place, Unmade, At, Half, is_here, is_away, waiting}
use Rattle.spec_control.specs.PairPhase.{Phase, place_in, PairEvent, Opens, place_after, other_after, may, mine_after, theirs_after}
use Rattle.spec_control.specs.Row.{Row, nobody, root_row, LinkEvent, link_may, link_after, link_fits}

-- a pair: the numbers of the owners of its ends, and where its ends are
pub record PairRow : Type 0 where
  pub a_owner : ℕ
  pub b_owner : ℕ
  pub a : Place
  pub b : Place

-- the objects and the pairs, each at the place of its number; no pair has number 0
pub record Rows : Type 0 where
  pub objects : List Row
  pub pairs : List PairRow

-- what a number that no pair has stands for: a pair that was over long ago
abbrev pub no_pair : PairRow
no_pair = record { a_owner = 0; b_owner = 0; a = At Gone; b = At Gone }

-- a context at its making: its root alone
abbrev pub root_alone : Rows
root_alone = record { objects = root_row ∷ []; pairs = no_pair ∷ [] }

-- the row of an object, and of a pair
abbrev pub obj : Rows → ℕ → Row
obj s i = slice_index_or s.objects i nobody

abbrev pub pair : Rows → ℕ → PairRow
pair s k = slice_index_or s.pairs k no_pair

-- the rows with this one in place of an object's, or of a pair's
abbrev pub with_object : ℕ → Row → Rows → Rows
with_object i o s = record s { objects = slice_set s.objects i o }

abbrev pub with_pair : ℕ → PairRow → Rows → Rows
with_pair k p s = record s { pairs = slice_set s.pairs k p }

-- end a, or end b
abbrev pub end_place : PairRow → Bool → Place
end_place p true = p.a
end_place p false = p.b

abbrev pub end_owner : PairRow → Bool → ℕ
end_owner p true = p.a_owner
end_owner p false = p.b_owner

-- an end with what is on its way to it
abbrev pub end_half : PairRow → Bool → Half
end_half p a = record { place = end_place p a; mail = waiting (end_place p a) (end_place p (not a)) }

-- the pair with its ends in these places: this one, and the other
abbrev pub with_places : Bool → Place → Place → PairRow → PairRow
with_places true mine theirs p = record p { a = mine; b = theirs }
with_places false mine theirs p = record p { b = mine; a = theirs }

-- the pair after an event of its end
abbrev pub pair_after : PairEvent → Bool → PairRow → PairRow
pair_after e a p = with_places a (place_after e (end_place p a)) (other_after e (end_place p (not a))) p

-- the ends of a pair are those of a phase
pub record IsInPhase (p : PairRow) : Type 0 where
  pub phase : Phase
  pub first : Bool
  pub a_is : p.a ≡ place_in phase first
  pub b_is : p.b ≡ place_in phase (not first)

-- an event of one end of a pair
pub record PairMoves (e : PairEvent) (a : Bool) (old new : PairRow) : Type 0 where
  pub comes : may e (end_half old a) (end_half old (not a)) ≡ true
  pub a_owner : new.a_owner ≡ old.a_owner
  pub b_owner : new.b_owner ≡ old.b_owner
  pub mine : end_half new a ≡ mine_after e (end_half old a)
  pub theirs : end_half new (not a) ≡ theirs_after e (end_half old a) (end_half old (not a))

abbrev pub is_owner : ℕ → Option ℕ → Bool
is_owner i None = false
is_owner i (Some owner) = owner == i

-- what the children of an object count, and its ends
abbrev pub of_child : (Row → ℕ) → ℕ → Row → ℕ
of_child f i o = cond (is_owner i o.owner) (f o) 0

abbrev pub of_ends : (Place → ℕ) → ℕ → PairRow → ℕ
of_ends f i p = cond (p.a_owner == i) (f p.a) 0 + cond (p.b_owner == i) (f p.b) 0

-- 1 where an object's Own is on its way
abbrev pub own_waits : Row → ℕ
own_waits o = cond o.noted 0 1

-- 1 where an object was told, and its owner has no acknowledgement yet
abbrev pub ack_at : Stage → ℕ
ack_at Alive = 0
ack_at Told = 1
ack_at Ending = 1
ack_at Finished = 1
ack_at Cleared = 0

abbrev pub ack_waits : Row → ℕ
ack_waits o = ack_at o.stage

-- 1 where an object is noted and lives
abbrev pub lives_noted : Row → ℕ
lives_noted o = cond o.noted (cond (has_ended o.stage) 0 1) 0

-- 1 where an end's bind is on its way
abbrev pub bind_waits : Place → ℕ
bind_waits place = cond (is_away place) 1 0

-- 1 where an end was attached, and is not gone
abbrev pub end_waits : Place → ℕ
end_waits place = cond (is_here place) 1 0

-- sent less processed: the Own, Plug and PipeBind on their way to an object
abbrev pub behind : Rows → ℕ → ℕ
behind s i = cond (obj s i).plugged 0 1 + (sum_by (of_child own_waits i) s.objects + sum_by (of_ends bind_waits i) s.pairs)

-- owed: the children told without an acknowledgement, and the ends attached and not gone
abbrev pub owed : Rows → ℕ → ℕ
owed s i = sum_by (of_child ack_waits i) s.objects + sum_by (of_ends end_waits i) s.pairs

-- the noted children that live
abbrev pub living : Rows → ℕ → ℕ
living s i = sum_by (of_child lives_noted i) s.objects

-- an object can end: it was asked, sent equals processed, nothing is owed, and no noted child lives
abbrev pub may_end : Rows → ℕ → Bool
may_end s i = is_ending (obj s i).stage && (behind s i == 0 && (owed s i == 0 && living s i == 0))

pub record MayEnd (s : Rows) (i : ℕ) : Type 0 where
  pub asked : (obj s i).stage ≡ Ending
  pub level : behind s i ≡ 0
  pub nothing_owed : owed s i ≡ 0
  pub no_child : living s i ≡ 0

-- a step of the rows: one move on one row
pub data Step (old new : Rows) : Type 0 where
  makes_object : (w : ℕ) (o : Row) → has_ended (obj old w).stage ≡ false → o.owner ≡ Some w → o.stage ≡ Alive → link_fits o ≡ true →
      new ≡ record old { objects = old.objects ++ o ∷ [] } → Step old new
  draws_pair : (p : PairRow) → p.a ≡ Unmade → p.b ≡ Unmade → new ≡ record old { pairs = old.pairs ++ p ∷ [] } → Step old new
  opens_pair : (k : ℕ) (a : Bool) (p : PairRow) → PairMoves Opens a (pair old k) p →
      has_ended (obj old p.a_owner).stage ≡ false → has_ended (obj old p.b_owner).stage ≡ false → new ≡ with_pair k p old → Step old new
  link_moves : (c : ℕ) (e : LinkEvent) → link_may e (obj old c) ≡ true → new ≡ with_object c (link_after e (obj old c)) old → Step old new
  pair_moves : (k : ℕ) (a : Bool) (e : PairEvent) (p : PairRow) → e ≢ Opens → PairMoves e a (pair old k) p → new ≡ with_pair k p old → Step old new
  object_ends : (c : ℕ) → MayEnd old c → new ≡ with_object c (record (obj old c) { stage = Finished }) old → Step old new
