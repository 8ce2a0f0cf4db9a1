-- Which ends each command makes join, and which objects its holder has then.
use Rattle.std.specs.Prelude.{◌≡◌, ◌≢◌, ◌++◌, ◌∷◌, [], ℕ, Bool, true, false, not, List, Option, Some, refl}
use Rattle.std.proofs.Common.{sym, ap, ◌∙◌, subst}
use Rattle.std.proofs.lemmas.List.{append-nil, get_or-set_other}
use Rattle.zq_base.specs.declared.ids.EndId.{EndId}
use Rattle.zq_base.specs.declared.ids.ObjId.{ObjId}
use Rattle.zq_base.specs.declared.ids.Settled.{Settled}
use Rattle.spec_control.specs.declared.end.EndEvent.TheVariants.{AckCame, TermCame}
use Rattle.spec_control.specs.declared.letter.Word.{Word}
use Rattle.spec_control.specs.declared.letter.Word.TheVariants.{Own, Plug, TermReq, Term, TermAck, PipeBind, PipeTerm, PipeTermAck, Stop, Reap}
use Rattle.spec_control.specs.declared.entry.Answered.{Answered}
use Rattle.spec_control.specs.declared.entry.Joining.{Joining}
use Rattle.spec_control.specs.PairPhase.{BindCame}
use Rattle.spec_control.specs.Row.{AckComes, OwnComes, ReapComes, RequestComes, Row, StopComes, link_after, link_may, nobody}
use Rattle.spec_control.specs.Rows.{obj, may_end}
use Rattle.spec_control.specs.Stage.{has_ended, was_asked}
use Rattle.spec_control.specs.Control.{Control, attach, happens, link, put, try_end}
use Rattle.spec_control.specs.After.{answers_in, processed, settle}
use Rattle.desk.specs.Holding.{HearsMore, HearsNone, Holding, IsTold, JoinsBy}
use Rattle.desk.specs.Joins.{KeepsObjects, come_by}
use Rattle.ctl_moves.specs.Terming.{children_told}
use Rattle.control_laws.proofs.GoLemmas.{greet_goes, tell_where_goes, try_end_goes}
use Rattle.ctl_moves.proofs.BetweenLemmas.{StayBetween, stay_on, goes_between, happens_between, link_between, same_between, written_between}
use Rattle.ctl_moves.proofs.KeepLemmas.{all_kept, ended_now, told_kept}
use Rattle.desk.specs.Heard.{heard_by, over_if, over_in}
use Rattle.desk.specs.declared.notice.Notice.{Notice}
use Rattle.desk.specs.declared.notice.Notice.TheVariants as notice
use Rattle.ctl_moves.proofs.HeardLemmas.{end_between}
use Rattle.ctl_moves.specs.Processing.{HasCounts, HasJoined, IsSilent, JoinsFor, SaysLeft}

-- none come by a command that tells none
come_none : {N : Type 0} (word : Word) → come_by {N = N} word [] ≡ []
come_none (Own child) = refl
come_none (Plug end) = refl
come_none (TermReq child) = refl
come_none Term = refl
come_none (TermAck child) = refl
come_none (PipeBind e peer) = refl
come_none (PipeTerm e) = refl
come_none (PipeTermAck e) = refl
come_none Stop = refl
come_none (Reap socket) = refl

module _ {N S : Type 0} (to : ObjId) (a : Answered N S) (c : Control) (h k : Holding N) where
  abbrev Came : Word → Type 0
  Came word = JoinsFor c (record { to = to; word = word }) a h k

  none_by : (word : Word) → a.joined ≡ [] → k.joined ≡ h.joined → JoinsBy (come_by word a.joined) h k
  none_by word none same = same ∙ sym (ap (λ (js : List (Joining N)). h.joined ++ come_by word js) none ∙ ap (λ (js : List (Joining N)). h.joined ++ js) (come_none word) ∙ append-nil h.joined)

  -- what the command tells of the object
  abbrev Hears : Word → Type 0
  Hears word = HearsMore (heard_by to word c (processed to.0 word (answers_in a) c)) h k

  -- which may be nothing
  pub unheard : (word : Word) → ((d : Control) → heard_by to word c d ≡ []) → HearsNone h k → Hears word
  unheard word none same = same ∙ sym (ap (λ (ns : List Notice). h.heard ++ ns) (none (processed to.0 word (answers_in a) c)) ∙ append-nil h.heard)

  pub stop_heard : (word : Word) → word ≡ Stop → HearsMore (notice.Stop to ∷ []) h k → Hears word
  stop_heard word is told = told ∙ sym (ap (λ (w : Word). h.heard ++ heard_by to w c (processed to.0 word (answers_in a) c)) is)

  -- a closed socket whose Reap is on its way stays so by any other command
  abbrev Still : Word → Type 0
  Still word = StayBetween c.rows (processed to.0 word (answers_in a) c).rows

  pub own_between : (word : Word) (child : ObjId) → word ≡ Own child → Still word
  own_between word child is = subst Still (sym is)
      (let now = link OwnComes child.0 c in
      let last = processed to.0 (Own child) (answers_in a) c in
      stay_on c.rows now.rows last.rows (written_between c.rows child.0 (link_after OwnComes (obj c.rows child.0)) (λ b. b) refl)
      (goes_between [] now last (tell_where_goes (was_asked (obj c.rows to.0).stage) child.0 now) refl))

  pub request_between : (word : Word) (child : ObjId) → word ≡ TermReq child → link_may RequestComes (obj c.rows child.0) ≡ true → Still word
  request_between word child is may = subst Still (sym is)
      (let now = link RequestComes child.0 c in
      let last = processed to.0 (TermReq child) (answers_in a) c in
      stay_on c.rows now.rows last.rows (written_between c.rows child.0 (link_after RequestComes (obj c.rows child.0)) (λ b. link_between (obj c.rows child.0) b RequestComes may refl) refl)
      (goes_between [] now last (tell_where_goes (not (was_asked (obj c.rows to.0).stage)) child.0 now) refl))

  pub ack_between : (word : Word) (child : ObjId) → word ≡ TermAck child → Still word
  ack_between word child is = subst Still (sym is)
      (let now = link AckComes child.0 c in
      let last = processed to.0 (TermAck child) (answers_in a) c in
      stay_on c.rows now.rows last.rows (written_between c.rows child.0 (link_after AckComes (obj c.rows child.0)) (λ b. b) refl)
      (goes_between [] now last (try_end_goes to.0 (answers_in a).left now) refl))

  bind_between : (word : Word) (e : EndId) (peer : List ℕ) → word ≡ PipeBind e peer → Still word
  bind_between word e peer is = subst Still (sym is)
      (let now = attach BindCame e c in
      let last = processed to.0 (PipeBind e peer) (answers_in a) c in
      stay_on c.rows now.rows last.rows (same_between c.rows now.rows refl) (goes_between [] now last (greet_goes ((answers_in a).kind e) e now) refl))

  pub turn_between : (word : Word) (e : EndId) → word ≡ PipeTerm e → Still word
  turn_between word e is = subst Still (sym is) (happens_between TermCame e c)

  pub stop_between : (word : Word) → word ≡ Stop → Still word
  stop_between word is = subst Still (sym is) (written_between c.rows to.0 (link_after StopComes (obj c.rows to.0)) (λ b. b) refl)

  -- nothing joined, and all objects are as before
  pub none_came : (word : Word) → a.joined ≡ [] → k.joined ≡ h.joined → ((i : ℕ) → k.holds i ≡ h.holds i) → ((i : ℕ) → k.kind i ≡ h.kind i) → Still word → Hears word → Came word
  none_came word none same holds kinds still heard = record { came = none_by word none same; objects = all_kept c (processed to.0 word (answers_in a) c) h k holds kinds still; heard = heard }

  -- these ends joined
  pub bind_came : (word : Word) (e : EndId) (peer : List ℕ) (joined : List (Joining N)) → word ≡ PipeBind e peer → HasJoined joined a → JoinsBy joined h k → ((i : ℕ) → k.holds i ≡ h.holds i) → ((i : ℕ) → k.kind i ≡ h.kind i) → HearsNone h k → Came word
  bind_came word e peer joined is has came holds kinds heard = record {
    came = came ∙ ap (λ (js : List (Joining N)). h.joined ++ js) (sym (ap (λ (w : Word). come_by w a.joined) is ∙ has.are));
    objects = all_kept c (processed to.0 word (answers_in a) c) h k holds kinds (bind_between word e peer is);
    heard = unheard word (λ d. ap (λ (w : Word). heard_by to w c d) is) heard;
  }

  -- the object may have ended
  pub ack_came : (word : Word) (child : ObjId) → word ≡ TermAck child → IsSilent a → (ended : Bool) → IsTold to.0 h k → (to.0 ≡ 0 → k ≡ h) → (to.0 ≢ 0 → h.holds to.0 ≡ true) → (ended ≡ false → k.holds to.0 ≡ h.holds to.0) → has_ended (obj c.rows to.0).stage ≡ false → has_ended (obj (link AckComes child.0 c).rows to.0).stage ≡ false → ended ≡ may_end (link AckComes child.0 c).rows to.0 → HearsMore (over_if to ended) h k → Came word
  ack_came word child is silent ended told root lent kept lives lives_still gone heard = record {
    came = none_by word silent.joined told.turns.joined;
    objects = told_kept c (processed to.0 word (answers_in a) c) to.0 ended h h k (λ i. refl) (λ i. refl) told root lent kept lives
        (λ yes. subst (λ (w : Word). has_ended (obj (processed to.0 w (answers_in a) c).rows to.0).stage ≡ true) (sym is)
        (subst (λ (b : Bool). has_ended (obj (try_end to.0 b (link AckComes child.0 c)).rows to.0).stage ≡ true) (sym silent.output) (ended_now to.0 false (link AckComes child.0 c) (sym gone ∙ yes))))
        (ack_between word child is);
    heard = subst Hears (sym is)
        (subst (λ (b : Bool). HearsMore (over_in to c (try_end to.0 b (link AckComes child.0 c))) h k) (sym silent.output)
        (heard ∙ ap (λ (b : Bool). h.heard ++ over_if to b) (gone ∙ sym (end_between to.0 false (obj c.rows to.0) (link AckComes child.0 c) lives lives_still))));
  }

  pub term_came : (word : Word) (left : Bool) → word ≡ Term → SaysLeft left a → k.joined ≡ h.joined → KeepsObjects c (try_end to.0 left (children_told to.0 c)) h k → HearsMore (heard_by to Term c (try_end to.0 left (children_told to.0 c))) h k → Came word
  term_came word left is says same objects heard = record {
    came = none_by word says.joined same;
    objects = subst (λ (w : Word). KeepsObjects c (processed to.0 w (answers_in a) c) h k) (sym is) (subst (λ (b : Bool). KeepsObjects c (try_end to.0 b (children_told to.0 c)) h k) (sym says.output) objects);
    heard = subst Hears (sym is) (subst (λ (b : Bool). HearsMore (heard_by to Term c (try_end to.0 b (children_told to.0 c))) h k) (sym says.output) heard);
  }

  pub acked_came : (word : Word) (e : EndId) (counts : Settled) (left : Bool) → word ≡ PipeTermAck e → HasCounts counts left a → k.joined ≡ h.joined → KeepsObjects c (try_end to.0 left (settle e (Some counts) (happens AckCame e c))) h k →
      HearsMore (over_in to c (try_end to.0 left (settle e (Some counts) (happens AckCame e c)))) h k → Came word
  acked_came word e counts left is has same objects heard = record {
    came = none_by word has.joined same;
    objects = subst (λ (w : Word). KeepsObjects c (processed to.0 w (answers_in a) c) h k) (sym is)
        (subst (λ (x : Option Settled). KeepsObjects c (try_end to.0 a.output_left (settle e x (happens AckCame e c))) h k) (sym has.settled)
        (subst (λ (b : Bool). KeepsObjects c (try_end to.0 b (settle e (Some counts) (happens AckCame e c))) h k) (sym has.output) objects));
    heard = subst Hears (sym is)
        (subst (λ (x : Option Settled). HearsMore (over_in to c (try_end to.0 a.output_left (settle e x (happens AckCame e c)))) h k) (sym has.settled)
        (subst (λ (b : Bool). HearsMore (over_in to c (try_end to.0 b (settle e (Some counts) (happens AckCame e c)))) h k) (sym has.output) heard));
  }

  -- what a Reap brings had joined before
  pub reap_came : (word : Word) (socket : ObjId) → word ≡ Reap socket → k.joined ≡ h.joined → KeepsObjects c (put socket.0 Term (link ReapComes socket.0 c)) h k → HearsNone h k → Came word
  reap_came word socket is same objects heard = record {
    came = same ∙ sym (ap (λ (w : Word). h.joined ++ come_by w a.joined) is ∙ append-nil h.joined);
    objects = subst (λ (w : Word). KeepsObjects c (processed to.0 w (answers_in a) c) h k) (sym is) objects;
    heard = unheard word (λ d. ap (λ (w : Word). heard_by to w c d) is) heard;
  }

-- an object whose child has ended lives still
pub parent_lives : (c : Control) (child at : ℕ) → child ≢ at → has_ended (obj c.rows at).stage ≡ false → has_ended (obj (link AckComes child c).rows at).stage ≡ false
parent_lives c child at other lives =
    ap (λ (o : Row). has_ended o.stage) (get_or-set_other c.rows.objects child at (link_after AckComes (obj c.rows child)) nobody (λ same. other (sym same))) ∙ lives
