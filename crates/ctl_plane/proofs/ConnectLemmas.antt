-- That a connect adds its event.
use Rattle.std.specs.Prelude.{◌≡◌, ◌<◌, ◌*◌, ℕ, Bool, cond, List, Option, None, length, not, is_some, sum_by}
use Rattle.std.proofs.Common.{sym, ap, ◌∙◌, subst}
use Rattle.zq_base.specs.declared.endpoint.Endpoint.TheVariants.{Inproc}
use Rattle.zq_base.specs.declared.ids.ObjId.{ObjId}
use Rattle.spec_control.specs.declared.book.Binding.{Binding}
use Rattle.spec_control.specs.declared.request.Req.TheVariants.{Connect}
use Rattle.spec_control.specs.declared.request.Refusal.TheVariants.{Term}
use Rattle.spec_control.specs.declared.request.Reply.TheVariants.{Wait}
use Rattle.spec_control.specs.declared.entry.Answered.{Answered}
use Rattle.spec_control.specs.declared.entry.Did.{Did}
use Rattle.spec_control.specs.declared.entry.Did.TheVariants.{Asked}
use Rattle.spec_control.specs.Control.{Control}
use Rattle.spec_control.specs.After.{Answers, answers_in, connects_to}
use Rattle.spec_control.specs.ControlRun.{connect_joins, all_pipes}
use Rattle.spec_control.specs.Reply.{reply_of, unless, connect_reply_at}
use Rattle.control_laws.specs.OwnMoves.{connect_moves}
use Rattle.control_laws.proofs.SoundLemmas.{socket_there}
use Rattle.ctl_state.specs.declared.state.State.{State}
use Rattle.ctl_state.specs.Boxes.{PutsBare}
use Rattle.ctl_state.specs.Needs.{AreMet}
use Rattle.ctl_state.specs.Stands.{Stands, Updates}
use Rattle.ctl_state.proofs.BareLemmas.{bare_not}
use Rattle.desk.specs.declared.given.Given.{Given}
use Rattle.desk.specs.declared.load.Load.{Load}
use Rattle.ctl_plane.specs.Carried.{AreCarried, IsPlane}
use Rattle.ctl_moves.specs.Naming.{SameEndLists}
use Rattle.ctl_plane.proofs.OwedLemmas.{binds_put}
use Rattle.ctl_plane.specs.Connecting.{MayWait}
use Rattle.ctl_plane.specs.Past.{Past, control_of, items_of, with_event, IsHistory}
use Rattle.ctl_moves.specs.Processing.{IsSilent}
use Rattle.ctl_plane.proofs.SilentLemmas.{silent_answered}
use Rattle.ctl_plane.proofs.EventLemmas.{one_brought}
use Rattle.ctl_plane.proofs.PlaneLemmas.{one_plane, tells_no_names}

module _ (c : Control) (o : ObjId) (name : List ℕ) (may : MayWait c o.0 name) where
  pub wait_reply : reply_of c (Connect o (Inproc name)) ≡ Wait
  wait_reply = ap (λ (b : Bool). unless (not b) Term (connect_reply_at o.0 (c.names.held (Inproc name)) c)) may.lives ∙ ap (λ (x : Option Binding). connect_reply_at o.0 x c) may.free

  pub wait_listed : {L : Type 0} (s : State L) → AreMet s c → o.0 < length s.objects.lists
  wait_listed s met = met.listed o.0 (socket_there c.rows o.0 may.socket.socket)

module _ {L G N S : Type 0} where
  pub waits_on : (s t : State L) (p : Past G N S) (spare : ℕ) (o : ObjId) (name : List ℕ) (a : Answered N S) → IsHistory s p spare → MayWait (control_of p) o.0 name → IsSilent a →
      ((h : Answers) → Updates (connects_to o.0 (Inproc name) None h) s t) → t.boxes ≡ s.boxes → IsHistory t (with_event (Asked (Connect o (Inproc name)) Wait a) p) spare
  waits_on s t p spare o name a h may silent updates boxes =
      let c = control_of p in
      let did : Did N S = Asked (Connect o (Inproc name)) Wait a in
      one_brought s t p did spare h
      (record {
        may = (may.socket, sym (wait_reply c o name may));
        answered = silent_answered c did silent (ap (connect_joins c) may.free) (ap (λ (x : Option Binding). all_pipes (connect_joins c x)) may.free) silent.settled silent.output;
      })
      (subst (λ (x : Option Binding). Stands t (connects_to o.0 (Inproc name) x (answers_in a) c)) (sym may.free) (updates (answers_in a) c h.stands))
      (ap (connect_moves c o.0) may.free) (ap (λ (x : Option Binding). 1 * cond (is_some x) 8 0) may.free)
      (subst (λ b. PutsBare s.boxes b) (sym boxes) (bare_not s.boxes))

module _ {N O I S : Type 0} (out_name : O → N) (in_name : I → N) where
  pub waits_plane : (s t : State (Load N O I)) (p : Past (Given N O I) N S) (spare : ℕ) (o : ObjId) (name : List ℕ) (a : Answered N S) → IsPlane out_name in_name s p spare → MayWait (control_of p) o.0 name → IsSilent a →
      ((h : Answers) → Updates (connects_to o.0 (Inproc name) None h) s t) → t.boxes ≡ s.boxes → SameEndLists s.objects.lists t.objects.lists → IsPlane out_name in_name t (with_event (Asked (Connect o (Inproc name)) Wait a) p) spare
  waits_plane s t p spare o name a h may silent updates boxes lists =
      one_plane out_name in_name s t p (Asked (Connect o (Inproc name)) Wait a) spare spare h (waits_on s t p spare o name a h.history may silent updates boxes)
      (tells_no_names (items_of p) (Asked (Connect o (Inproc name)) Wait a) silent) (subst (AreCarried out_name in_name (items_of p) (control_of p)) (sym boxes) h.carried) lists
      (ap (λ (x : Option Binding). sum_by binds_put (connect_moves (control_of p) o.0 x)) may.free)
