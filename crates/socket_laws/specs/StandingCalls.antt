-- What stands goes on over a call, by what the call leaves of pipes and counts (own choice).
use Rattle.std.specs.Prelude.{◌≡◌, ◌<◌, ◌++◌, ℕ, Bool, List, Some}
use Rattle.zq_base.specs.Ends.{PipeId}
use Rattle.msg_pipe.specs.Known.{Known}
use Rattle.spec_pattern.specs.declared.answers.Skip.{Skip}
use Rattle.spec_control.specs.declared.entry.Item.{Item}
use Rattle.spec_control.specs.Control.{begun, next_pair}
use Rattle.spec_control.specs.ControlRun.{after_all, IsControlRun}
use Rattle.spec_control.specs.Names.{name_of}
use Rattle.spec_control.specs.Moments.{moments_from}
use Rattle.spec_run.specs.Act.{Act, moments_in, steps_in}
use Rattle.spec_run.specs.OwnedRun.{AreCountedBy}
use Rattle.zq_world.specs.Piece.{Piece, piece_of, pipe_steps}
use Rattle.socket_laws.specs.Sides.{OpensGoOn, CallMayCome}
use Rattle.socket_laws.specs.Standing.{opens_in, PastStands, CoreStands}

module _ {S O I N : Type 0} (K : Known S O I N) where
  -- a call behind these items, which added more and did these acts: its items are those more in order; the steps past, with its own, stand and count; and it may come at the sides where its steps are
  pub record CallStands {T : Type 0} (items more : List (Item N T)) (pipes now : S) (pieces : List (Piece N T)) (k : ℕ) (reaps : Bool) (acts : List (Act N T)) : Type 0 where
    pub said : moments_in acts ≡ moments_from (after_all items (begun 1)) more
    pub past : PastStands K (after_all items (begun 1)) (name_of items) pipes (pipe_steps pieces) → PastStands K (after_all (items ++ more) (begun 1)) (name_of (items ++ more)) now (pipe_steps pieces ++ steps_in acts)
    pub names_made : (p : PipeId) (n : N) → name_of (items ++ more) p ≡ Some n → p.pair.0 < next_pair (after_all (items ++ more) (begun 1))
    pub counted : AreCountedBy (pipe_steps pieces) (after_all items (begun 1)).settlements → AreCountedBy (pipe_steps pieces ++ steps_in acts) (after_all (items ++ more) (begun 1)).settlements
    pub opens : OpensGoOn (after_all items (begun 1)) (opens_in items) (opens_in (items ++ more))
    pub may : CallMayCome (after_all items (begun 1)) (after_all (items ++ more) (begun 1)) (opens_in items) (opens_in (items ++ more)) pieces k reaps acts

  -- what stands goes on over it
  abbrev pub CallsGoOn : (T : Type 0) → Type 0
  CallsGoOn T = (items more : List (Item N T)) (pipes now : S) (pieces : List (Piece N T)) (k : ℕ) (reaps : Bool) (acts : List (Act N T)) (skips : List Skip) →
      IsControlRun (begun 1) items → IsControlRun (after_all items (begun 1)) more → CallStands items more pipes now pieces k reaps acts →
      CoreStands K items pipes pieces → CoreStands K (items ++ more) now (pieces ++ piece_of k reaps acts skips)
