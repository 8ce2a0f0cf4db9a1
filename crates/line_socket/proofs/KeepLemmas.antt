-- A lent socket has the peers that it had behind a call on messages that is answered, and behind a look; so it is ready still.
use Rattle.std.proofs.Common.{◌≡◌, ◌≤◌, ◌∙◌, ℕ, List, Option, Some, None, length, sym, ap, subst, true≢false}
use Rattle.std.specs.Prelude.{Result, Ok, Err, OnOk, IsErr}
use Rattle.std.specs.declared.alloc.AllocError.{AllocError}
use Rattle.zq_base.specs.Message.{Frames}
use Rattle.spec_pattern.specs.Topics.{Topic}
use Rattle.spec_pattern.specs.Pattern.{Pattern}
use Rattle.spec_pattern.specs.PatternCalls.{Change, ChangeAnswer}
use Rattle.spec_pattern.specs.Results.{RecvResult, MatchRecv}
use Rattle.spec_pattern.specs.declared.answers.Sent.{Sent}
use Rattle.spec_pattern.specs.declared.answers.RecvFault.TheVariants as rfault
use Rattle.spec_pattern.specs.declared.answers.Skip.{Skip}
use Rattle.spec_pattern.specs.declared.answers.SendAnswer.{SendAnswer}
use Rattle.spec_pattern.specs.declared.answers.RecvAnswer.{RecvAnswer}
use Rattle.spec_control.specs.Control.{ends_of}
use Rattle.spec_control.specs.Moments.{Moment, left_after}
use Rattle.spec_pattern.specs.Peers.{KeepsPeers}
use Rattle.spec_pattern.proofs.KeepCallLemmas.{calls_keep_peers}
use Rattle.msg_pipe.specs.Known.{Known}
use Rattle.pub_sub.specs.XSubs.{MatchXSend}
use Rattle.pub_sub.specs.declared.xsend_fault.XSendFault.{XSendFault}
use Rattle.pub_sub.specs.declared.xsend_fault.XSendFault.TheVariants as xfault
use Rattle.any_sock.specs.declared.any_sock.AnySock.{AnySock}
use Rattle.any_sock.specs.declared.change_fault.ChangeFault.{ChangeFault}
use Rattle.any_sock.specs.declared.change_fault.ChangeFault.TheVariants as cfault
use Rattle.any_sock.specs.Calls.{MatchChanged}
use Rattle.sock_core.specs.declared.sock.SockCore.{SockCore}
use Rattle.spec_run.specs.Line.{sent_answer, got_answer, changed_answer}
use Rattle.spec_run.specs.OpenSocket.{OpenSock, can_write}
use Rattle.spec_run.specs.declared.answer.Answer.{Answer}
use Rattle.spec_run.specs.declared.answer.Answer.TheVariants as answer
use Rattle.line_socket.specs.View.{pattern_told, open_view}
use Rattle.line_socket.specs.Doing.{SendsSo, ReceivesSo, ChangesSo, PumpsOpen}
use Rattle.socket_laws.specs.Bounds.{drawn_of}
use Rattle.socket_laws.specs.Peers.{HasItsPeers}
use Rattle.socket_laws.proofs.JoinLemmas.{calls_draw_none}
use Rattle.socket_laws.proofs.OpenMadeLemmas.{sockets_have_their_peers}
use Rattle.line_socket.specs.Ready.{HasPeers, HavePeers}
use Rattle.line_socket.proofs.MailLemmas.{HoldsOn, HoldsOnSo}

module _ {W N O I T : Type 0} (moments : List (Moment N T)) where
  peers_on : (s t : SockCore AnySock W N O I) → HoldsOn s t → (p : Pattern) → KeepsPeers (pattern_told s) p → drawn_of p ≡ drawn_of (pattern_told s)
      → open_view 0 (Some t) ≡ record (open_view 0 (Some s)) { pattern = p } → HasPeers moments s → HasPeers moments t
  peers_on s t on p keeps drawn view had = record {
    peers = subst HasItsPeers (sym view) ((sockets_have_their_peers N T).calls (open_view 0 (Some s)) p keeps had.peers);
    drawn = subst (λ (i : ℕ). drawn_of (pattern_told t) ≤ length (ends_of i (left_after i moments))) (sym (ap (λ n. n.0) on.number))
        (subst (λ (k : ℕ). k ≤ length (ends_of s.number.0 (left_after s.number.0 moments))) (sym (ap (λ (o : OpenSock). drawn_of o.pattern) view ∙ drawn)) had.drawn);
  }

  pub looks_peers : (old new : Option (SockCore AnySock W N O I)) → HoldsOnSo old new → open_view 0 new ≡ open_view 0 old → HavePeers moments old → HavePeers moments new
  looks_peers None new on view had = absurd on
  looks_peers (Some s) None on view had = absurd on
  looks_peers (Some s) (Some t) on view had = record {
    peers = subst HasItsPeers (sym view) had.peers;
    drawn = subst (λ (i : ℕ). drawn_of (pattern_told t) ≤ length (ends_of i (left_after i moments))) (sym (ap (λ n. n.0) on.number))
        (subst (λ (k : ℕ). k ≤ length (ends_of s.number.0 (left_after s.number.0 moments))) (sym (ap (λ (o : OpenSock). drawn_of o.pattern) view)) had.drawn);
  }

  module _ {S : Type 0} (K : Known S O I N) (before now : S) where
    pub sends_peers : (m : Frames) (answer : SendAnswer) (old new : Option (SockCore AnySock W N O I)) → HoldsOnSo old new → SendsSo K 0 m answer before old now new → HavePeers moments old → HavePeers moments new
    sends_peers m answer None new on so had = absurd on
    sends_peers m answer (Some s) None on so had = absurd on
    sends_peers m answer (Some s) (Some t) on so had =
        let test = can_write (open_view 0 (Some s)) in
        peers_on s t on so.pattern (calls_keep_peers.sends test m (pattern_told s) (record { steps = so.steps; answer = answer; new = so.pattern }) so.sends)
        (calls_draw_none.sends test m (pattern_told s) (record { steps = so.steps; answer = answer; new = so.pattern }) so.sends) so.new_is had

    pub receives_peers : (told told_now : List Skip) (answer : RecvAnswer) (old new : Option (SockCore AnySock W N O I)) → HoldsOnSo old new → ReceivesSo K 0 told told_now answer before old now new → HavePeers moments old → HavePeers moments new
    receives_peers told told_now answer None new on so had = absurd on
    receives_peers told told_now answer (Some s) None on so had = absurd on
    receives_peers told told_now answer (Some s) (Some t) on so had =
        peers_on s t on so.pattern (calls_keep_peers.receives (pattern_told s) (record { steps = so.steps; skips = so.skips; answer = answer; new = so.pattern }) so.receives)
        (calls_draw_none.receives (pattern_told s) (record { steps = so.steps; skips = so.skips; answer = answer; new = so.pattern }) so.receives) so.new_is had

    pub changes_peers : (change : Change) (topic : Topic) (answer : ChangeAnswer) (old new : Option (SockCore AnySock W N O I)) → HoldsOnSo old new → ChangesSo K 0 change topic answer before old now new → HavePeers moments old → HavePeers moments new
    changes_peers change topic answer None new on so had = absurd on
    changes_peers change topic answer (Some s) None on so had = absurd on
    changes_peers change topic answer (Some s) (Some t) on so had =
        let test = can_write (open_view 0 (Some s)) in
        peers_on s t on so.pattern (calls_keep_peers.changes change test topic (pattern_told s) (record { steps = so.steps; answer = answer; new = so.pattern }) so.changes)
        (calls_draw_none.changes change test topic (pattern_told s) (record { steps = so.steps; answer = answer; new = so.pattern }) so.changes) so.new_is had

    pub pumps_peers : (old new : Option (SockCore AnySock W N O I)) → HoldsOnSo old new → PumpsOpen K 0 before old now new → HavePeers moments old → HavePeers moments new
    pumps_peers None new on so had = absurd on
    pumps_peers (Some s) None on so had = absurd on
    pumps_peers (Some s) (Some t) on so had =
        let test = can_write (open_view 0 (Some s)) in
        peers_on s t on so.pattern (calls_keep_peers.pumps test (pattern_told s) (record { steps = so.steps; new = so.pattern }) so.pumps)
        (calls_draw_none.pumps test (pattern_told s) (record { steps = so.steps; new = so.pattern }) so.pumps) so.new_is had

-- ---- where a line is answered

pub ok_both : {A : Type 0} (r : Result A AllocError) {P Q R : Type 0} → (P → Q → R) → OnOk r P → OnOk r Q → OnOk r R
ok_both (Ok x) f p q = f p q
ok_both (Err e) f p q = tt

so_answered : {A : Type 0} (result : Result A AllocError) (E : Type 0) → E → OnOk result E
so_answered (Ok a) E e = e
so_answered (Err x) E e = tt

unanswered : {A : Type 0} (result : Result A AllocError) (E : Type 0) → IsErr result → OnOk result E
unanswered (Ok a) E is = absurd (true≢false (sym is))
unanswered (Err x) E is = tt

pub sent_on : (r : Result Sent XSendFault) (result : Result Answer AllocError) (A B : Type 0) (P : SendAnswer → Type 0) (E : Type 0) → MatchXSend r A B P
    → MatchXSend r (IsErr result) (IsErr result) (λ a. result ≡ Ok (sent_answer a)) → ((a : SendAnswer) → P a → E) → OnOk result E
sent_on (Ok s) result A B P E h is f = so_answered result E (f _ h)
sent_on (Err (xfault.Refused refusal back)) result A B P E h is f = so_answered result E (f _ h)
sent_on (Err (xfault.OutOfMemory back)) result A B P E h is f = unanswered result E is
sent_on (Err xfault.Untold) result A B P E h is f = unanswered result E is

pub got_on : (r : RecvResult) (result : Result Answer AllocError) (A : Type 0) (P : RecvAnswer → Type 0) (E : Type 0) → MatchRecv r A P
    → MatchRecv r (IsErr result) (λ a. result ≡ Ok (got_answer a)) → ((a : RecvAnswer) → P a → E) → OnOk result E
got_on (Ok item) result A P E h is f = so_answered result E (f _ h)
got_on (Err (rfault.Refused refusal)) result A P E h is f = so_answered result E (f _ h)
got_on (Err rfault.OutOfMemory) result A P E h is f = unanswered result E is

pub changed_on : (r : Result (Unit {0}) ChangeFault) (result : Result Answer AllocError) (A B : Type 0) (P : ChangeAnswer → Type 0) (E : Type 0) → MatchChanged r A B P
    → MatchChanged r (IsErr result) (IsErr result) (λ a. result ≡ Ok (changed_answer a)) → ((a : ChangeAnswer) → P a → E) → OnOk result E
changed_on (Ok done) result A B P E h is f = so_answered result E (f _ h)
changed_on (Err cfault.NoTopics) result A B P E h is f = so_answered result E (f _ h)
changed_on (Err cfault.SubLimit) result A B P E h is f = so_answered result E (f _ h)
changed_on (Err cfault.NotSub) result A B P E h is f = so_answered result E (f _ h)
changed_on (Err cfault.OutOfMemory) result A B P E h is f = unanswered result E is
changed_on (Err cfault.Untold) result A B P E h is f = unanswered result E is
