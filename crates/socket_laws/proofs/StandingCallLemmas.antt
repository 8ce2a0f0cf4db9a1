-- Over a call what stands goes on.
use Rattle.std.specs.Prelude.{◌≡◌, ◌++◌, ℕ, Bool, List, [], ◌∷◌, refl}
use Rattle.std.proofs.Common.{sym, ap, ◌∙◌, subst}
use Rattle.std.proofs.lemmas.Grind.{flat_map-append}
use Rattle.std.proofs.lemmas.List.Elements.{filter_map-append}
use Rattle.msg_pipe.specs.Known.{Known}
use Rattle.spec_pattern.specs.PipeStep.{PipeStep}
use Rattle.spec_pattern.specs.declared.answers.Skip.{Skip}
use Rattle.spec_control.specs.declared.entry.Item.{Item}
use Rattle.spec_control.specs.Control.{Control, begun}
use Rattle.spec_control.specs.ControlRun.{after_all, after_item}
use Rattle.spec_control.specs.Names.{name_of}
use Rattle.spec_control.specs.Moments.{Moment, moments_from}
use Rattle.spec_run.specs.Act.{Act, moment_of, moments_in, pipe_step_of, steps_in}
use Rattle.spec_run.specs.OwnedRun.{AreCountedBy}
use Rattle.zq_world.specs.Piece.{Piece, piece_of, acts_in, pipe_steps}
use Rattle.zq_world.proofs.PieceLemmas.{acts_one}
use Rattle.socket_laws.specs.Sides.{CallMayCome, SidesStand, SidesStandOn}
use Rattle.socket_laws.specs.Standing.{opens_in, PastStands}
use Rattle.socket_laws.specs.StandingCalls.{CallsGoOn}

module _ {N T : Type 0} where
  all_states : (items more : List (Item N T)) (c : Control) → after_all (items ++ more) c ≡ after_all more (after_all items c)
  all_states [] more c = refl
  all_states (x ∷ items) more c = all_states items more (after_item x c)

  all_moments : (items more : List (Item N T)) (c : Control) → moments_from c (items ++ more) ≡ moments_from c items ++ moments_from (after_all items c) more
  all_moments [] more c = refl
  all_moments (x ∷ items) more c = ap (λ (ms : List (Moment N T)). record { found = c; item = x } ∷ ms) (all_moments items more (after_item x c))

  acts_both : (pieces : List (Piece N T)) (k : ℕ) (reaps : Bool) (acts : List (Act N T)) (skips : List Skip) → acts_in (pieces ++ piece_of k reaps acts skips) ≡ acts_in pieces ++ acts
  acts_both pieces k reaps acts skips =
      flat_map-append (λ (y : Piece N T). y.acts) pieces (piece_of k reaps acts skips) ∙ ap (λ (l : List (Act N T)). acts_in pieces ++ l) (acts_one k reaps acts skips)

  steps_both : (pieces : List (Piece N T)) (k : ℕ) (reaps : Bool) (acts : List (Act N T)) (skips : List Skip) → pipe_steps (pieces ++ piece_of k reaps acts skips) ≡ pipe_steps pieces ++ steps_in acts
  steps_both pieces k reaps acts skips = ap steps_in (acts_both pieces k reaps acts skips) ∙ filter_map-append pipe_step_of (acts_in pieces) acts

  told_both : (pieces : List (Piece N T)) (k : ℕ) (reaps : Bool) (acts : List (Act N T)) (skips : List Skip) → moments_in (acts_in (pieces ++ piece_of k reaps acts skips)) ≡ moments_in (acts_in pieces) ++ moments_in acts
  told_both pieces k reaps acts skips = ap moments_in (acts_both pieces k reaps acts skips) ∙ filter_map-append moment_of (acts_in pieces) acts

pub calls_go_on : {S O I N : Type 0} (K : Known S O I N) (T : Type 0) → SidesStandOn N T → CallsGoOn K T
calls_go_on {N = N} K T side items more pipes now pieces k reaps acts skips run on call is =
    let c : Control = after_all items (begun 1) in
    let d : Control = after_all (items ++ more) (begun 1) in
    let same = all_states items more (begun 1) in
    let may = subst (λ (e : Control). CallMayCome c e (opens_in items) (opens_in (items ++ more)) pieces k reaps acts) same call.may in
    let sides = side.calls 1 items more run on (opens_in items) (opens_in (items ++ more)) pieces k reaps acts skips is.sided is.sides call.opens may in
    let steps = steps_both pieces k reaps acts skips in record {
      told = told_both pieces k reaps acts skips ∙ ap (λ (l : List (Moment N T)). l ++ moments_in acts) is.told ∙ ap (λ (l : List (Moment N T)). moments_from (begun 1) items ++ l) call.said ∙ sym (all_moments items more (begun 1));
      past = subst (λ (l : List PipeStep). PastStands K d (name_of (items ++ more)) now l) (sym steps) (call.past is.past);
      names_made = call.names_made;
      sided = sides.0;
      sides = subst (λ (e : Control). SidesStand e (opens_in (items ++ more)) (pieces ++ piece_of k reaps acts skips)) (sym same) sides.1;
      counted = subst (λ (l : List PipeStep). AreCountedBy l d.settlements) (sym steps) (call.counted is.counted);
    }
