-- A lent socket behind a call on messages or a look.
use Rattle.std.proofs.Common.{◌≡◌, ◌∙◌, ◌==◌, ◌&&◌, ℕ, Bool, true, false, List, [], ◌∷◌, ◌++◌, append-nil, length, Option, Some, None, refl, sym, ap, subst, true≢false, if◌then◌else◌, arith}
use Rattle.std.specs.List.{list_any}
use Rattle.spec_control.specs.Control.{is_end, place_of, ends_of}
use Rattle.std.specs.Prelude.{map, Result, Ok, Err, IfOk, OnErr, IsErr}
use Rattle.std.specs.declared.alloc.AllocError.{AllocError}
use Rattle.zq_base.specs.declared.ids.EndId.{EndId}
use Rattle.zq_base.specs.Ends.{PipeId}
use Rattle.zq_base.specs.declared.kind.Kind.{Kind}
use Rattle.spec_pattern.specs.PipeStep.{PipeStep, read_through}
use Rattle.spec_pattern.specs.PatternCalls.{ChangeAnswer}
use Rattle.spec_pattern.specs.Results.{RecvResult, MatchRecv}
use Rattle.spec_pattern.specs.declared.answers.Sent.{Sent}
use Rattle.spec_pattern.specs.declared.answers.SendAnswer.{SendAnswer}
use Rattle.spec_pattern.specs.declared.answers.RecvAnswer.{RecvAnswer}
use Rattle.spec_pattern.specs.declared.answers.RecvFault.TheVariants as rfault
use Rattle.spec_run.specs.Line.{sent_answer, got_answer, changed_answer}
use Rattle.spec_control.specs.Place.{At}
use Rattle.spec_control.specs.Held.{Held}
use Rattle.spec_control.specs.Moments.{Moment, items_in, left_after}
use Rattle.spec_control.specs.OwnAsks.{known_after}
use Rattle.ctl_plane.specs.Past.{control_of}
use Rattle.desk.specs.Holding.{has_end}
use Rattle.desk.specs.declared.given.Given.{Given}
use Rattle.desk.specs.Desk.{HasWhatTheySay, slot_after}
use Rattle.msg_pipe.specs.Known.{Known}
use Rattle.msg_pipe.specs.Told.{front_step}
use Rattle.msg_pipe.specs.declared.pipes.Front.{Front}
use Rattle.msg_pipe.specs.declared.pipes.Front.TheVariants.{Message, Empty, Delimiter}
use Rattle.end_table.specs.Runs.{seals}
use Rattle.pub_sub.specs.XSubs.{MatchXSend}
use Rattle.pub_sub.specs.declared.xsend_fault.XSendFault.{XSendFault}
use Rattle.pub_sub.specs.declared.xsend_fault.XSendFault.TheVariants as xfault
use Rattle.any_sock.specs.declared.any_sock.AnySock.{AnySock}
use Rattle.any_sock.specs.declared.change_fault.ChangeFault.{ChangeFault}
use Rattle.any_sock.specs.declared.change_fault.ChangeFault.TheVariants as cfault
use Rattle.any_sock.specs.Calls.{MatchChanged}
use Rattle.end_table.specs.declared.table.Place.{Place}
use Rattle.end_table.specs.Places.{held_in, writes_in, met_in}
use Rattle.sock_core.specs.declared.sock.SockCore.{SockCore}
use Rattle.sock_core.specs.Has.{holding_in, state_in}
use Rattle.sock_core.specs.Standing.{standing_joins}
use Rattle.sock_calls.specs.Calls.{owner_of, LeavesOthers}
use Rattle.spec_run.specs.SocketCall.{step_acts}
use Rattle.spec_run.specs.declared.answer.Answer.{Answer}
use Rattle.line_socket.specs.View.{ends_told}
use Rattle.line_socket.specs.Standing.{IsStanding, Stands, kind_told, KeepsSocket}
use Rattle.line_socket.specs.Doing.{MakesSteps}
use Rattle.line_socket.specs.Looking.{LooksSo}
use Rattle.line_socket.proofs.LookLemmas.{held_met, writes_met, met_met, state_met, told_met}
use Rattle.socket_laws.specs.Open.{ends_at}
use Rattle.line_calls.proofs.StepLemmas.{no_moments}
use Rattle.socket_laws.specs.Asked.{WereAsked}
use Rattle.plain_desk.specs.Lent.{Lent, moments_of}
use Rattle.line_socket.specs.Owned.{IsOut, IsLentTo, IsThereFor}
use Rattle.line_socket.specs.Leaving.{LeavesStanding}
use Rattle.line_socket.specs.Leads.{is_open_in, Leads}
use Rattle.line_socket.specs.LeadsOwed.{grows_none, none_sent}
use Rattle.line_socket.proofs.StandLemmas.{stands_by_steps}

-- a look writes no delimiter
looks_alone : (p : PipeId) (found : Front) → seals (front_step p found ∷ []) ≡ false
looks_alone p Message = refl
looks_alone p Empty = refl
looks_alone p Delimiter = refl

module _ {W N O I : Type 0} where
  -- a socket has what it had, and its ends are told as they were
  pub record HoldsOn (s t : SockCore AnySock W N O I) : Type 0 where
    pub number : t.number ≡ s.number
    pub is_open : t.is_open ≡ s.is_open
    pub kind : kind_told t.kind ≡ kind_told s.kind
    pub sealed : t.sealed ≡ s.sealed
    pub held : held_in t.ends.places.items ≡ held_in s.ends.places.items
    pub writes : (e : EndId) → writes_in t.ends.places.items e ≡ writes_in s.ends.places.items e
    pub met : (e : EndId) → met_in s.ends.places.items e ≡ true → met_in t.ends.places.items e ≡ true
    pub states : (e : EndId) → state_in t.ends.places.items e ≡ state_in s.ends.places.items e
    pub told : ends_told (standing_joins t.joins.items) t.ends.places.items ≡ ends_told (standing_joins s.joins.items) s.ends.places.items

  abbrev pub HoldsOnSo : (old new : Option (SockCore AnySock W N O I)) → Type 0
  HoldsOnSo None new = ⊥
  HoldsOnSo (Some s) None = ⊥
  HoldsOnSo (Some s) (Some t) = HoldsOn s t

  pub keeps_on : (old new : Option (SockCore AnySock W N O I)) → KeepsSocket old new → HoldsOnSo old new
  keeps_on None new h = absurd h
  keeps_on (Some s) None h = absurd h
  keeps_on (Some s) (Some t) h = let at = ap (λ v. v.items) h.rest.places in record {
    number = h.rest.number;
    is_open = h.rest.is_open;
    kind = h.kind;
    sealed = h.rest.sealed;
    held = ap held_in at;
    writes = λ e. ap (λ (l : List (Place N I)). writes_in l e) at;
    met = λ e m. ap (λ (l : List (Place N I)). met_in l e) at ∙ m;
    states = λ e. ap (λ (l : List (Place N I)). state_in l e) at;
    told = ap (λ (l : List (Place N I)). ends_told (standing_joins t.joins.items) l) at ∙ ap (λ v. ends_told (standing_joins v.items) s.ends.places.items) h.rest.joins;
  }

  pub looks_on : {S : Type 0} (K : Known S O I N) (e : EndId) (found : Front) (before now : S) (old new : Option (SockCore AnySock W N O I)) → LooksSo K e found before old now new → HoldsOnSo old new
  looks_on K e found before now None new h = absurd h
  looks_on K e found before now (Some s) None h = absurd h
  looks_on K e found before now (Some s) (Some t) h = let ps = s.ends.places.items in let qs = t.ends.places.items in record {
    number = h.rest.number;
    is_open = h.rest.is_open;
    kind = ap kind_told h.rest.kind;
    sealed = h.rest.sealed;
    held = held_met ps qs h.places;
    writes = λ d. writes_met ps qs d h.places;
    met = λ d m. met_met ps qs d h.places m;
    states = λ d. state_met ps qs d h.places;
    told = told_met (standing_joins t.joins.items) ps qs h.places ∙ ap (λ v. ends_told (standing_joins v.items) ps) h.rest.joins;
  }

  -- a look is one step
  pub look_makes : {S : Type 0} (K : Known S O I N) (e : EndId) (found : Front) (before now : S) (old new : Option (SockCore AnySock W N O I)) → LooksSo K e found before old now new → MakesSteps K before old (front_step (read_through e) found ∷ []) now new
  look_makes K e found before now None new h = absurd h
  look_makes K e found before now (Some s) None h = absurd h
  look_makes K e found before now (Some s) (Some t) h = record { does = h.does; unsealing = looks_alone (read_through e) found }

  pub owner_on : (old new : Option (SockCore AnySock W N O I)) → HoldsOnSo old new → owner_of new ≡ owner_of old
  owner_on None new h = absurd h
  owner_on (Some s) None h = absurd h
  owner_on (Some s) (Some t) h = ap (λ n. n.0) h.number

  open_on : (old new : Option (SockCore AnySock W N O I)) → HoldsOnSo old new → is_open_in new ≡ is_open_in old
  open_on None new h = absurd h
  open_on (Some s) None h = absurd h
  open_on (Some s) (Some t) h = h.is_open

  module _ (s t : SockCore AnySock W N O I) (on : HoldsOn s t) where
    number_on : t.number.0 ≡ s.number.0
    number_on = ap (λ n. n.0) on.number

    holds_on : (i : ℕ) → (holding_in (kind_told t.kind) t).holds i ≡ (holding_in (kind_told s.kind) s).holds i
    holds_on i = ap (λ (b : Bool). b && i == t.number.0) on.is_open ∙ ap (λ (n : ℕ). s.is_open && i == n) number_on

    ends_on : (i : ℕ) → (holding_in (kind_told t.kind) t).ends i ≡ (holding_in (kind_told s.kind) s).ends i
    ends_on i = ap (λ (l : List (Held N)). if i == t.number.0 then l else []) on.held ∙ ap (λ (n : ℕ). if i == n then held_in s.ends.places.items else []) number_on

    kinds_on : (i : ℕ) → (holding_in (kind_told t.kind) t).kind i ≡ (holding_in (kind_told s.kind) s).kind i
    kinds_on i = ap (λ (b : Bool). if b then Some (kind_told t.kind) else None) (holds_on i) ∙ ap (λ (k : Kind). if s.is_open && i == s.number.0 then Some k else None) on.kind

    has_on : {T : Type 0} (by : ℕ) (moments : List (Moment N T)) → HasWhatTheySay by moments (holding_in (kind_told s.kind) s) → HasWhatTheySay by moments (holding_in (kind_told t.kind) t)
    has_on by moments has = record {
      objects = λ i h. has.objects i (sym (holds_on i) ∙ h);
      no_root = holds_on 0 ∙ has.no_root;
      ends = λ i h. ends_on i ∙ has.ends i (sym (holds_on i) ∙ h);
      writes = λ i e h here. on.writes e ∙ has.writes i e (sym (holds_on i) ∙ h) (subst (λ (l : List (Held N)). has_end e l ≡ true) (ends_on i) here);
      delimiters = λ i e h here m. on.met e (has.delimiters i e (sym (holds_on i) ∙ h) (subst (λ (l : List (Held N)). has_end e l ≡ true) (ends_on i) here) m);
      states = λ i e h here. has.states i e (sym (holds_on i) ∙ h) (subst (λ (l : List (Held N)). has_end e l ≡ true) (ends_on i) here) ∙ ap At (sym (on.states e));
      kinds = λ i h. kinds_on i ∙ has.kinds i (sym (holds_on i) ∙ h);
    }

  module _ {S T : Type 0} (K : Known S O I N) (d : Lent (Given N O I) N T) (n : ℕ) (before now : S) where
    -- it is what its caller's moments left still
    lent_on : (s t : SockCore AnySock W N O I) → IsLentTo K before d n s → IsStanding K now t → HoldsOn s t → IsLentTo K now d n t
    lent_on s t is stands on = record {
      owned = record {
        stands = stands;
        has = has_on s t on d.caller (moments_of d) is.owned.has;
        held = ap (λ (i : ℕ). (holding_in (kind_told t.kind) t).holds i) (number_on s t on) ∙ holds_on s t on s.number.0 ∙ is.owned.held;
        is_open = subst (λ (i : ℕ). (known_after i (items_in (moments_of d))).open_socket ≡ true) (sym (number_on s t on)) is.owned.is_open;
        sealed_out = λ e h. subst (λ (i : ℕ). IsOut (ends_of i (left_after i (moments_of d))) e (place_of (left_after i (moments_of d)) e)) (sym (number_on s t on))
            (is.owned.sealed_out e (ap (λ v. list_any (is_end e) (map (λ x. x.0) v.items)) (sym on.sealed) ∙ h));
        ends_are = on.told ∙ subst (λ (i : ℕ). ends_told (standing_joins s.joins.items) s.ends.places.items ≡ ends_at i (left_after i (moments_of d))) (sym (number_on s t on)) is.owned.ends_are;
      };
      order = is.order;
      told = is.told;
      asked = is.asked;
      were_asked = subst (λ v. WereAsked (control_of d.past) (map (λ x. x.0) v.items)) (sym on.sealed) is.were_asked;
    }

    pub there_on : (old new : Option (SockCore AnySock W N O I)) → IsThereFor K before d n old → Stands K now new → HoldsOnSo old new → IsThereFor K now d n new
    there_on None new is stands on = absurd on
    there_on (Some s) None is stands on = absurd on
    there_on (Some s) (Some t) is stands on = lent_on s t is stands on

    open_there : (old : Option (SockCore AnySock W N O I)) → IsThereFor K before d n old → is_open_in old ≡ true
    open_there None is = absurd is
    open_there (Some s) is = is.owned.stands.is_open

    -- the steps left standing what stood
    standing_on : (old new : Option (SockCore AnySock W N O I)) (steps : List PipeStep) → MakesSteps K before old steps now new → IsThereFor K before d n old → HoldsOnSo old new
        → LeavesStanding K (record { pipes = before; desk = d; socket = old; since = n }) (step_acts steps) (record { pipes = now; desk = d; socket = new; since = n })
    standing_on None new steps makes is on = absurd is
    standing_on (Some s) None steps makes is on = absurd on
    standing_on (Some s) (Some t) steps makes is on = stands_by_steps K before now d n s is steps t.ends.rows.items makes.does makes.unsealing t (number_on s t on)

    -- and lead there
    pub leads_on : (old new : Option (SockCore AnySock W N O I)) (steps : List PipeStep) → MakesSteps K before old steps now new → IsThereFor K before d n old → LeavesOthers K old new before now → HoldsOnSo old new
        → Leads K (record { pipes = before; desk = d; socket = old; since = n }) (step_acts steps) (record { pipes = now; desk = d; socket = new; since = n })
    leads_on old new steps makes is others on = record {
      moments = sym (append-nil (moments_of d)) ∙ ap (λ l. moments_of d ++ l) (sym (no_moments steps));
      since = let e = ap length (no_moments {N = N} {S = T} steps) in omega (arith, e);
      grows = grows_none d;
      others = λ _. others;
      given = record {
        was_open = λ h. sym (open_on old new on) ∙ h;
        kept = λ _. refl;
        sent = none_sent K now d.past.given;
        over = λ h. absurd (true≢false (sym (open_there old is) ∙ h));
      };
      standing = standing_on old new steps makes is on;
    }

    -- it has the mailbox that it had
    pub box_on : (old new : Option (SockCore AnySock W N O I)) → HoldsOnSo old new → (slot_after (owner_of new) (moments_of d)).0 ≡ (slot_after (owner_of old) (moments_of d)).0
    box_on old new on = ap (λ (i : ℕ). (slot_after i (moments_of d)).0) (owner_on old new on)

-- ---- what a line is answered

answered : {A : Type 0} (result : Result A AllocError) (a : A) (Q : A → Type 0) → result ≡ Ok a → Q a → IfOk result Q
answered result a Q is q = subst (λ (r : Result _ AllocError). IfOk r Q) (sym is) q

no_answer : {A : Type 0} (result : Result A AllocError) (Q : A → Type 0) → IsErr result → IfOk result Q
no_answer (Ok a) Q is = absurd (true≢false (sym is))
no_answer (Err e) Q is = tt

no_error : {A : Type 0} (result : Result A AllocError) (a : A) (E : Type 0) → result ≡ Ok a → OnErr result E
no_error result a E is = subst (λ (r : Result _ AllocError). OnErr r E) (sym is) tt

an_error : {A : Type 0} (result : Result A AllocError) (E : Type 0) → E → OnErr result E
an_error (Ok a) E e = tt
an_error (Err x) E e = e

pub sent_ok : (r : Result Sent XSendFault) (result : Result Answer AllocError) (A B : Type 0) (P : SendAnswer → Type 0) (Q : Answer → Type 0) → MatchXSend r A B P
    → MatchXSend r (IsErr result) (IsErr result) (λ a. result ≡ Ok (sent_answer a)) → ((a : SendAnswer) → P a → Q (sent_answer a)) → IfOk result Q
sent_ok (Ok s) result A B P Q h is f = answered result _ Q is (f _ h)
sent_ok (Err (xfault.Refused refusal back)) result A B P Q h is f = answered result _ Q is (f _ h)
sent_ok (Err (xfault.OutOfMemory back)) result A B P Q h is f = no_answer result Q is
sent_ok (Err xfault.Untold) result A B P Q h is f = no_answer result Q is

pub sent_err : (r : Result Sent XSendFault) (result : Result Answer AllocError) (A B : Type 0) (P : SendAnswer → Type 0) (E : Type 0) → MatchXSend r A B P
    → MatchXSend r (IsErr result) (IsErr result) (λ a. result ≡ Ok (sent_answer a)) → (A → E) → (B → E) → OnErr result E
sent_err (Ok s) result A B P E h is f g = no_error result _ E is
sent_err (Err (xfault.Refused refusal back)) result A B P E h is f g = no_error result _ E is
sent_err (Err (xfault.OutOfMemory back)) result A B P E h is f g = an_error result E (f h)
sent_err (Err xfault.Untold) result A B P E h is f g = an_error result E (g h)

pub got_ok : (r : RecvResult) (result : Result Answer AllocError) (A : Type 0) (P : RecvAnswer → Type 0) (Q : Answer → Type 0) → MatchRecv r A P
    → MatchRecv r (IsErr result) (λ a. result ≡ Ok (got_answer a)) → ((a : RecvAnswer) → P a → Q (got_answer a)) → IfOk result Q
got_ok (Ok item) result A P Q h is f = answered result _ Q is (f _ h)
got_ok (Err (rfault.Refused refusal)) result A P Q h is f = answered result _ Q is (f _ h)
got_ok (Err rfault.OutOfMemory) result A P Q h is f = no_answer result Q is

pub got_err : (r : RecvResult) (result : Result Answer AllocError) (A : Type 0) (P : RecvAnswer → Type 0) (E : Type 0) → MatchRecv r A P
    → MatchRecv r (IsErr result) (λ a. result ≡ Ok (got_answer a)) → (A → E) → OnErr result E
got_err (Ok item) result A P E h is f = no_error result _ E is
got_err (Err (rfault.Refused refusal)) result A P E h is f = no_error result _ E is
got_err (Err rfault.OutOfMemory) result A P E h is f = an_error result E (f h)

pub changed_ok : (r : Result (Unit {0}) ChangeFault) (result : Result Answer AllocError) (A B : Type 0) (P : ChangeAnswer → Type 0) (Q : Answer → Type 0) → MatchChanged r A B P
    → MatchChanged r (IsErr result) (IsErr result) (λ a. result ≡ Ok (changed_answer a)) → ((a : ChangeAnswer) → P a → Q (changed_answer a)) → IfOk result Q
changed_ok (Ok done) result A B P Q h is f = answered result _ Q is (f _ h)
changed_ok (Err cfault.NoTopics) result A B P Q h is f = answered result _ Q is (f _ h)
changed_ok (Err cfault.SubLimit) result A B P Q h is f = answered result _ Q is (f _ h)
changed_ok (Err cfault.NotSub) result A B P Q h is f = answered result _ Q is (f _ h)
changed_ok (Err cfault.OutOfMemory) result A B P Q h is f = no_answer result Q is
changed_ok (Err cfault.Untold) result A B P Q h is f = no_answer result Q is

pub changed_err : (r : Result (Unit {0}) ChangeFault) (result : Result Answer AllocError) (A B : Type 0) (P : ChangeAnswer → Type 0) (E : Type 0) → MatchChanged r A B P
    → MatchChanged r (IsErr result) (IsErr result) (λ a. result ≡ Ok (changed_answer a)) → (A → E) → (B → E) → OnErr result E
changed_err (Ok done) result A B P E h is f g = no_error result _ E is
changed_err (Err cfault.NoTopics) result A B P E h is f g = no_error result _ E is
changed_err (Err cfault.SubLimit) result A B P E h is f g = no_error result _ E is
changed_err (Err cfault.NotSub) result A B P E h is f g = no_error result _ E is
changed_err (Err cfault.OutOfMemory) result A B P E h is f g = an_error result E (f h)
changed_err (Err cfault.Untold) result A B P E h is f g = an_error result E (g h)
