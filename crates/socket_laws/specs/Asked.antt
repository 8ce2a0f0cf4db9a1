-- An end is told to be sealed once (own choice, after libzmq's `pipe_t`).
use Rattle.std.specs.Prelude.{◌<◌, ◌++◌, ℕ, List}
use Rattle.std.specs.List.{AllByRecursion}
use Rattle.zq_base.specs.declared.ids.EndId.{EndId}
use Rattle.spec_control.specs.declared.end.EndState.TheVariants.{Active, DelimiterGot, WaitDelimiter, AckSent, AskedOnce, AskedTwice, Gone}
use Rattle.spec_control.specs.declared.entry.Item.{Item}
use Rattle.spec_control.specs.Place.{Place, Unmade, Away, At}
use Rattle.spec_control.specs.Control.{Control, begun, next_pair, place_of}
use Rattle.spec_control.specs.ControlRun.{after_all, IsControlRun}
use Rattle.spec_control.specs.Moments.{moments_from}
use Rattle.socket_laws.specs.Changes.{AreNew}
use Rattle.socket_laws.specs.Said.{sealed_with}

-- how far an end is behind its being asked once, which comes no more then
abbrev pub asked_rank : Place → ℕ
asked_rank Unmade = 0
asked_rank Away = 0
asked_rank (At Active) = 0
asked_rank (At DelimiterGot) = 0
asked_rank (At WaitDelimiter) = 0
asked_rank (At AckSent) = 0
asked_rank (At AskedOnce) = 1
asked_rank (At AskedTwice) = 2
asked_rank (At Gone) = 3

-- each of these ends was asked, or is gone
abbrev pub WereAsked : Control → List EndId → Type 0
WereAsked c es = AllByRecursion (λ e. (e.pair.0 < next_pair c) × (0 < asked_rank (place_of c e))) es

-- over a control run, the ends that are told to be sealed are new behind those told before, and were asked then, too
abbrev pub EndsAreSealedOnce : (N T : Type 0) → Type 0
EndsAreSealedOnce N T = (io : ℕ) (items more : List (Item N T)) → IsControlRun (begun io) items → IsControlRun (after_all items (begun io)) more →
    let c = after_all items (begun io) in
    (before : List EndId) → WereAsked c before →
    AreNew before (sealed_with (moments_from c more)) × WereAsked (after_all more c) (before ++ sealed_with (moments_from c more))
