-- What an event is answered with by a holder that had nothing to answer for.
use Rattle.std.specs.Prelude.{◌≡◌, List, [], map}
use Rattle.std.proofs.Common.{sym, ap, ◌∙◌, subst}
use Rattle.spec_control.specs.declared.entry.Joining.{Joining}
use Rattle.spec_control.specs.declared.entry.PipeName.{PipeName}
use Rattle.spec_control.specs.declared.entry.Did.{Did}
use Rattle.spec_control.specs.Control.{Control}
use Rattle.spec_control.specs.After.{after}
use Rattle.spec_control.specs.ControlRun.{IsAnswered, Joins, MayAnswerAll, SettlesIn, LeavesOutput, answer_of, joins_in, opened_in}
use Rattle.ctl_moves.specs.Processing.{IsSilent}

-- ---- a holder that had nothing to answer
module _ {N S : Type 0} where
  pub silent_answered : (c : Control) (did : Did N S) → IsSilent (answer_of did) → joins_in c did ≡ [] → opened_in c did ≡ [] → SettlesIn c did → LeavesOutput c did → IsAnswered c did
  silent_answered c did silent joins opens settles leaves = record {
    joined = ap (λ (js : List (Joining N)). map (λ j. let x : Joins = record { end = j.end; peer = j.peer; met = j.met } in x) js) silent.joined ∙ sym joins;
    kinds = subst (λ (js : List (Joining N)). MayAnswerAll (after did c) js) (sym silent.joined) tt;
    opened = ap (λ (ns : List (PipeName N)). map (λ n. n.pipe) ns) silent.opened ∙ sym opens;
    settled = settles;
    output = leaves;
  }
