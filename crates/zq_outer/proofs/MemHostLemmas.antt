-- Lemmas on the plan of a host in memory.
use Rattle.std.proofs.Common.{◌≡◌, ℕ, List, subst, sym}
use Rattle.zq_outer.specs.Plan.{Hosted, IsListed, number_after, GoesByPlan}
use Rattle.zq_outer.specs.declared.plan.CallKind.{CallKind}
use Rattle.zq_outer.specs.declared.plan.PlannedCall.{PlannedCall}

-- a call is listed in the same list under the same number
pub same_call : (from to : List PlannedCall) (kind : CallKind) (m n : ℕ) → from ≡ to → m ≡ n → IsListed from kind m → IsListed to kind n
same_call from to kind m n same number is =
    subst (λ (calls : List PlannedCall). IsListed calls kind n) same (subst (λ (k : ℕ). IsListed from kind k) number is)

-- a call goes by the host's plan where its answer goes by the calls that the host keeps
pub by_plan : {A B : Type 0} → (h : Hosted) (fails stalls : List PlannedCall) (kind : CallKind) (made n : ℕ) → fails ≡ h.fails → stalls ≡ h.stalls → n ≡ number_after made
    → (IsListed fails kind n → A) → ((IsListed fails kind n → ⊥) × IsListed stalls kind n → B) → GoesByPlan h kind made A B
by_plan h fails stalls kind made n same_fails same_stalls number fails_then stalls_then = record {
  fails_then = λ is. fails_then (same_call h.fails fails kind (number_after made) n (sym same_fails) (sym number) is);
  stalls_then = λ is. stalls_then (
    (λ kept. is.0 (same_call fails h.fails kind n (number_after made) same_fails number kept)),
    same_call h.stalls stalls kind (number_after made) n (sym same_stalls) (sym number) is.1,
  );
}
