-- The laws that a call's stand on.
use Rattle.msg_pipe.specs.Known.{Known}
use Rattle.end_table.specs.Laws.{ReadsExactly}
use Rattle.end_table.proofs.ExactLemmas.{exactly}
use Rattle.control_laws.proofs.AttachedOnceLemmas.{ends_are_attached_once}
use Rattle.control_laws.proofs.OrderlyLemmas.{commands_come_once}
use Rattle.control_laws.proofs.MetLemmas.{never_cells_are_not_met}
use Rattle.control_laws.proofs.StepsLemmas.{events_are_steps}
use Rattle.control_laws.proofs.EndStepLemmas.{ends_live}
use Rattle.run_laws.proofs.CapacityLemmas.{capacities_stay, steps_stay_exact}
use Rattle.run_laws.proofs.SealLemmas.{seals_are_told}
use Rattle.socket_laws.proofs.PastLemmas.{past_goes_on, past_stays_over}
use Rattle.socket_laws.specs.Asked.{EndsAreSealedOnce}
use Rattle.socket_laws.specs.Calls.{SocketCallsGoOn}
use Rattle.socket_laws.specs.OfPipes.{ChangesAreOfPipes}
use Rattle.socket_laws.specs.Settled.{PipesAreSettled}
use Rattle.socket_laws.proofs.AskedLemmas.{ends_are_sealed_once}
use Rattle.socket_laws.proofs.PastCallLemmas.{socket_calls_go_on}
use Rattle.socket_laws.proofs.ChangeLemmas.{changes_go_on}
use Rattle.socket_laws.proofs.GoneLemmas.{settled_ends_are_gone}
use Rattle.socket_laws.proofs.OfPipesLemmas.{changes_are_of_pipes}
use Rattle.socket_laws.proofs.SaidLemmas.{steps_are_said}
use Rattle.socket_laws.proofs.SealLemmas.{seals_are_new}
use Rattle.socket_laws.proofs.UnsettledLemmas.{pipes_are_settled}
use Rattle.socket_laws.specs.Calling.{IsExact}

pub settled : (N T : Type 0) → PipesAreSettled N T
settled N T = pipes_are_settled N T (settled_ends_are_gone N T ends_live (events_are_steps N T) (ends_are_attached_once N T) (seals_are_told N T) (never_cells_are_not_met N T)) (commands_come_once N T)

pub sealed_once : (N T : Type 0) → EndsAreSealedOnce N T
sealed_once N T = ends_are_sealed_once N T ends_live (events_are_steps N T) (ends_are_attached_once N T) (seals_are_told N T)

pub of_pipes : {S O I N : Type 0} (K : Known S O I N) (T : Type 0) → ChangesAreOfPipes K T
of_pipes {S} {O} {I} {N} K T = changes_are_of_pipes K T (seals_are_told N T) (settled N T)

pub calls_go : {S O I N : Type 0} (K : Known S O I N) (T : Type 0) → IsExact K → SocketCallsGoOn K T
calls_go {S} {O} {I} {N} K T x =
    socket_calls_go_on K T (changes_go_on K T x.exact (past_goes_on K x.exact x.one_out) (past_stays_over K N T capacities_stay steps_stay_exact))
    (steps_are_said S O I N T (seals_are_told N T) (seals_are_new S O I)) (sealed_once N T)

pub reads_exactly : {S O I N : Type 0} (K : Known S O I N) → IsExact K → ReadsExactly K
reads_exactly K x goes capacity past steps old new one_name does named is = exactly K x.exact x.one_out x.one_in goes capacity one_name old steps new past does named is
