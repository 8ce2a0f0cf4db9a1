-- The steps past go on over a look of the reaper.
use Rattle.std.proofs.Common.{◌≡◌, ◌<◌, [], ◌∷◌, refl, ap, ◌∙◌, subst, sym}
use Rattle.zq_base.specs.Ends.{PipeId}
use Rattle.msg_pipe.specs.Known.{Known}
use Rattle.msg_pipe.specs.Told.{front_step}
use Rattle.msg_pipe.specs.declared.pipes.Front.{Front}
use Rattle.msg_pipe.specs.declared.pipes.Front.TheVariants.{Message, Empty, Delimiter}
use Rattle.spec_pattern.specs.PipeStep.{PipeStep, read_through}
use Rattle.spec_control.specs.Control.{next_pair}
use Rattle.spec_run.specs.OwnedRun.{pipe_capacity}
use Rattle.run_laws.specs.CapacitiesStay.{pipe_at}
use Rattle.zq_world.proofs.RiseLemmas.{all_both}
use Rattle.socket_laws.specs.Standing.{goes_in, unless_settled}
use Rattle.closed_ends.specs.Looking.{LooksGoOn}
use Rattle.core_laws.specs.Looks.{ReaperLooksGoOn}

look_at : (p : PipeId) (found : Front) → pipe_at (front_step p found) ≡ p
look_at p Message = refl
look_at p Empty = refl
look_at p Delimiter = refl

pub reaper_looks_go_on : {S O I N : Type 0} (K : Known S O I N) → LooksGoOn K → ReaperLooksGoOn K
reaper_looks_go_on {N = N} K law c names names_made old new past o e found h named unsettled look stands = record {
  past_is = law (goes_in c names) (pipe_capacity c) old new past o e found h stands.one_name (ap (λ s. unless_settled s (names (read_through e))) unsettled ∙ named) look stands.past_is;
  one_name = stands.one_name;
  made = all_both (λ (s : PipeStep). (pipe_at s).pair.0 < next_pair c) past (front_step (read_through e) found ∷ []) stands.made
      (subst (λ (p : PipeId). p.pair.0 < next_pair c) (sym (look_at (read_through e) found)) (names_made (read_through e) (K.in_name look.was.input) (named ∙ look.reads)), tt);
}
