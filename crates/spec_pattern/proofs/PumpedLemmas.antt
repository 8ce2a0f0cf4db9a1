-- A call and what was heard or told before it have one outcome together.
use Rattle.std.proofs.Common.{◌≡◌, ℕ, List, ◌++◌, Bool, All, sym, subst}
use Rattle.std.proofs.lemmas.List.Elements.{All-contains}
use Rattle.zq_base.specs.Ends.{PipeId}
use Rattle.spec_pattern.specs.PipeStep.{PipeStep, AreExact}
use Rattle.spec_pattern.specs.TurnList.{End}
use Rattle.spec_pattern.specs.Pattern.{Pattern}
use Rattle.spec_pattern.specs.Peers.{written_ends, kept_ends, peer_names, HaveOneName, KeepsPeers}
use Rattle.spec_pattern.specs.Outcomes.{PumpOutcome, SendsSo, ReceivesSo, ChangesSo, PumpsSo}
use Rattle.spec_pattern.specs.WholeLaws.{AgreeOn, GoOn, PumpedCallsHaveOneOutcome}
use Rattle.spec_pattern.proofs.StepLemmas.{exact_front, exact_behind}
use Rattle.spec_pattern.proofs.SendLemmas.{a_send_has_one}
use Rattle.spec_pattern.proofs.ReceiveLemmas.{a_receive_has_one}
use Rattle.spec_pattern.proofs.PumpLemmas.{a_change_has_one, a_pump_has_one}
use Rattle.spec_pattern.proofs.KeepCallLemmas.{calls_keep_peers}
use Rattle.spec_pattern.proofs.EndsStayLemmas.{ends_stay}
use Rattle.spec_pattern.proofs.NamesStayLemmas.{names_stay_one}

-- what is so of all ends that a socket keeps is so of those that it writes, and stays so
pub all_written : (P : End → Type 0) (old : Pattern) → All P (kept_ends old) → All P (written_ends old)
all_written P old all = λ k e less. All-contains P (kept_ends old) _ all (ends_stay.written old k e less)

pub all_stay : (P : End → Type 0) (old new : Pattern) → KeepsPeers old new → All P (kept_ends old) → All P (kept_ends new)
all_stay P old new kept all = λ k e less. All-contains P (kept_ends old) _ all (ends_stay.stays old new kept k e less)

-- what was heard or told first is one, and from it the rest goes on
module _ (c d : PipeId → ℕ) (past : List PipeStep) (w : End → Bool) (old : Pattern) (p q : PumpOutcome) (agree : AgreeOn c d (kept_ends old))
    (one : PumpsSo w old p) (other : PumpsSo w old q) (xs ys : List PipeStep) (go : GoOn c d past (p.steps ++ xs) (q.steps ++ ys)) where
  pumped : p ≡ q
  pumped = a_pump_has_one c d past w old p q (all_written (λ e. c e ≡ d e) old agree) one other
      (record { one = exact_front c past p.steps xs go.one; other = exact_front d past q.steps ys go.other })

  agree_then : AgreeOn c d (written_ends p.new)
  agree_then = all_written (λ e. c e ≡ d e) p.new (all_stay (λ e. c e ≡ d e) old p.new (calls_keep_peers.pumps w old p one) agree)

  names_then : HaveOneName (peer_names old) → HaveOneName (peer_names p.new)
  names_then names = names_stay_one.calls old p.new (calls_keep_peers.pumps w old p one) names

  go_then : GoOn c d (past ++ p.steps) xs ys
  go_then = record {
    one = exact_behind c past p.steps xs go.one;
    other = subst (λ (o : PumpOutcome). AreExact d (past ++ o.steps) ys) (sym pumped) (exact_behind d past q.steps ys go.other);
  }

pub pumped_calls_have_one : PumpedCallsHaveOneOutcome
pumped_calls_have_one = record {
  sends = λ c d past w m old p q x y agree f g h k go.
      let same = pumped c d past w old p q agree f g x.steps y.steps go in (
        same,
        a_send_has_one c d (past ++ p.steps) w m p.new x y (agree_then c d past w old p q agree f g x.steps y.steps go) h
            (subst (λ (o : PumpOutcome). SendsSo w m o.new y) (sym same) k) (go_then c d past w old p q agree f g x.steps y.steps go),
      );
  receives = λ c d past w old p q x y agree names f g h k go.
      let same = pumped c d past w old p q agree f g x.steps y.steps go in (
        same,
        a_receive_has_one c d (past ++ p.steps) p.new x y (names_then c d past w old p q agree f g x.steps y.steps go names) h
            (subst (λ (o : PumpOutcome). ReceivesSo o.new y) (sym same) k) (go_then c d past w old p q agree f g x.steps y.steps go),
      );
  changes = λ c d past change w topic old p q x y agree f g h k go.
      let same = pumped c d past w old p q agree f g x.steps y.steps go in (
        same,
        a_change_has_one c d (past ++ p.steps) change w topic p.new x y (agree_then c d past w old p q agree f g x.steps y.steps go) h
            (subst (λ (o : PumpOutcome). ChangesSo change w topic o.new y) (sym same) k) (go_then c d past w old p q agree f g x.steps y.steps go),
      );
}
