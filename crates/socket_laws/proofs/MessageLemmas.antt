-- The steps past go on over calls of a socket on messages.
use Rattle.std.specs.Prelude.{◌≡◌, ◌==◌, ◌<◌, ℕ, Bool, List, [], ◌∷◌, Option, Some, refl}
use Rattle.std.specs.List.{AllByRecursion}
use Rattle.std.proofs.Common.{arith, ap, eq-eqb}
use Rattle.zq_base.specs.Ends.{PipeId}
use Rattle.msg_pipe.specs.Known.{Known}
use Rattle.spec_pattern.specs.PipeStep.{PipeStep, Commit, FullLook, RoomLook, Take, EmptyLook, DelimiterLook, WaitingLook, Seal}
use Rattle.end_table.specs.Rows.{Rows}
use Rattle.end_table.specs.Past.{AreNamed}
use Rattle.end_table.specs.Laws.{ReadsExactly}
use Rattle.spec_control.specs.Control.{Control, next_pair, owner_of}
use Rattle.spec_run.specs.OwnedRun.{pipe_capacity}
use Rattle.spec_run.specs.SocketCall.{step_acts}
use Rattle.run_laws.specs.CapacitiesStay.{pipe_at}
use Rattle.zq_world.proofs.RiseLemmas.{all_both}
use Rattle.socket_laws.specs.Rows.{AreRowsAt, StepsAreAtRows}
use Rattle.socket_laws.specs.Sides.{step_end, AreAtEnds}
use Rattle.socket_laws.specs.Standing.{goes_in}
use Rattle.socket_laws.specs.Messages.{AreOwned, MessagesGoOn}
use Rattle.socket_laws.proofs.ChangeLemmas.{goes_said}

-- a step is made at a pipe of the pair of its end
at_pair : (s : PipeStep) → (pipe_at s).pair ≡ (step_end s).pair
at_pair (Commit p m) = refl
at_pair (FullLook p) = refl
at_pair (RoomLook p) = refl
at_pair (Take p m) = refl
at_pair (EmptyLook p) = refl
at_pair (DelimiterLook p) = refl
at_pair (WaitingLook p) = refl
at_pair (Seal p) = refl

steps_made : (N T : Type 0) (c : Control) (may : ℕ → Bool) (steps : List PipeStep) → AreAtEnds {N = N} {S = T} c may (step_acts steps) → AllByRecursion (λ s. (pipe_at s).pair.0 < next_pair c) steps
steps_made N T c may [] at = tt
steps_made N T c may (s ∷ steps) at = (let made = at.0.made in let same = ap (λ k. k.0) (at_pair s) in omega (arith, made, same), steps_made N T c may steps at.1)

pub rows_at : {S O I N : Type 0} (K : Known S O I N) (c : Control) (names : PipeId → Option N) → ((p : PipeId) (n : N) → names p ≡ Some n → p.pair.0 < next_pair c) → (o : ℕ) (rows : Rows O I)
    → AreNamed K (goes_in c names) (pipe_capacity c) rows → AreOwned c o rows → AreRowsAt c (λ i. i == o) rows
rows_at K c names made o rows named owned k row there =
    (made row.end (K.out_name row.out) (goes_said c names row.end (K.out_name row.out) (named k row there).0).1, eq-eqb (owner_of c row.end) o (owned k row there))

pub messages_go_on : {S O I N : Type 0} (K : Known S O I N) (T : Type 0) → ReadsExactly K → StepsAreAtRows K N T → MessagesGoOn K T
messages_go_on {S} {O} {I} {N} K T exact at c names made o past steps old new does named owned stands =
    let goes_on = exact (goes_in c names) (pipe_capacity c) past steps old new stands.one_name does named stands.past_is in
    let at_rows = at c (λ i. i == o) steps old new does (rows_at K c names made o old.rows named owned) in
    record {
      past_is = record {
        past_is = goes_on.0;
        one_name = stands.one_name;
        made = all_both (λ s. (pipe_at s).pair.0 < next_pair c) past steps stands.made (steps_made N T c (λ i. i == o) steps at_rows.0);
      };
      named = goes_on.1;
      at_ends = at_rows.0;
    }
