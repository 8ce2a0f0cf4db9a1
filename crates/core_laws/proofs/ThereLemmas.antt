-- All pipes are there behind a call of the reaper, each by a name of its own.
use Rattle.std.specs.Prelude.{◌≡◌, Bool, true, false, refl}
use Rattle.std.proofs.Common.{arith, sym, ◌∙◌}
use Rattle.std.proofs.Math.Logic.{∥∥₁_elim}
use Rattle.msg_pipe.specs.Known.{Known}
use Rattle.spec_control.specs.Names.{name_of}
use Rattle.control_laws.proofs.ListLemmas.{never}
use Rattle.ctl_plane.specs.Past.{control_of}
use Rattle.socket_laws.proofs.NamesLemmas.{names_stay, stays_all}
use Rattle.core_laws.proofs.EndLemmas.{same_names}
use Rattle.core_laws.proofs.LedLemmas.{same_pairs}
use Rattle.core_laws.specs.Reaped.{ReaperKeepsNames, ReaperLeavesThere}

pub reaper_leaves_there : {S O I N : Type 0} (K : Known S O I N) (T : Type 0) → ReaperLeavesThere K T
reaper_leaves_there K T old new before behind from to changes did n there = by (K.there behind n) refl
  where
    by : (b : Bool) → K.there behind n ≡ b → b ≡ true
    by true is = refl
    by false is = absurd (∥∥₁_elim did.done (λ x y. absurd x) (λ done. never (sym is ∙ stays_all K done.places n done.placed before behind done.does there)))

pub reaper_keeps_names : {S O I N : Type 0} (K : Known S O I N) (T : Type 0) → ReaperKeepsNames K T
reaper_keeps_names K T old new before behind from to changes did names =
    let same = same_pairs old new did.call in
    names_stay K (control_of old.past) (control_of new.past) (omega (arith, same)) (name_of old.items) (name_of new.items) (same_names K old new before behind from to changes did) before behind
    (reaper_leaves_there K T old new before behind from to changes did) names
