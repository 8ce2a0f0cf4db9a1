-- The first end of a pair is attached at its holder (own choice, after libzmq's `pipe_t`).
use Rattle.std.specs.Prelude.{◌≡◌, ◌≤◌, ◌∷◌, [], ℕ, List}
use Rattle.zq_base.specs.declared.ids.EndId.{EndId}
use Rattle.spec_control.specs.declared.end.EndState.TheVariants.{Active}
use Rattle.spec_control.specs.Held.{Held}
use Rattle.desk.specs.Holding.{BeginsActive, HearsNone, Holding, Joined, JoinsBy, KeepsTurns, MayRefuse, Stays}
use Rattle.desk.specs.Turns.{TurnsBy}
use Rattle.ctl_moves.specs.declared.joining_ends.FirstEnd.{FirstEnd}
use Rattle.ctl_moves.specs.Joined.{Gets}
use Rattle.ctl_moves.specs.JoinNoting.{joins_named}

-- an end with these names of its pipes
abbrev pub held_first : {N O I : Type 0} → EndId → FirstEnd N O I → Held N
held_first end f = record { end = end; written = f.told.written; read = f.told.read }

-- a holder stayed as it was, and then an end joined
pub record JoinsAfter {N : Type 0} (o : ℕ) (x : Held N) (h k : Holding N) : Type 0 where
  pub mid : Holding N
  pub stays : Stays o h mid
  pub keeps : KeepsTurns h mid
  pub joined : Joined o x mid k
  pub begins : BeginsActive x.end mid k

module _ {N O I : Type 0} (out_name : O → N) (in_name : I → N) where
  -- the holder has the end, which joined with its kind's answer to a peer of this identity; the halves of the other end are of the same two pipes, crossed
  pub record AttachesFirst (o : ℕ) (end : EndId) (peer : List ℕ) (f : FirstEnd N O I) (h k : Holding N) : Type 0 where
    pub gets : (n : ℕ) → n ≤ end.pair.0 → Gets n o (held_first end f ∷ []) h k
    pub joins : JoinsAfter o (held_first end f) h k
    pub refuses : MayRefuse (h.kind o) f.answer
    pub opened : f.opened ≡ f.told
    pub other_written : f.other.written ≡ f.told.read
    pub other_read : f.other.read ≡ f.told.written
    pub other_out : out_name f.other.halves.out ≡ f.other.written
    pub other_in : in_name f.other.halves.input ≡ f.other.read
    pub active : k.state end ≡ Active
    pub turned : TurnsBy [] h k
    pub came : JoinsBy (joins_named end peer f.answer f.told ∷ []) h k
    pub heard : HearsNone h k
