-- That an unbind adds its event.
use Rattle.std.specs.Prelude.{◌≡◌, ℕ, None, refl}
use Rattle.std.proofs.Common.{sym}
use Rattle.zq_base.specs.declared.endpoint.Endpoint.{Endpoint}
use Rattle.zq_base.specs.declared.ids.ObjId.{ObjId}
use Rattle.spec_control.specs.declared.request.Req.TheVariants.{Unbind}
use Rattle.spec_control.specs.declared.request.Reply.TheVariants.{Done}
use Rattle.spec_control.specs.declared.entry.Answered.{Answered}
use Rattle.spec_control.specs.declared.entry.Did.{Did}
use Rattle.spec_control.specs.declared.entry.Did.TheVariants.{Asked}
use Rattle.spec_control.specs.Hold.{is_bind_to}
use Rattle.spec_control.specs.Rows.{obj}
use Rattle.spec_control.specs.Control.{Control}
use Rattle.spec_control.specs.After.{strikes_first}
use Rattle.spec_control.specs.ControlRun.{IsOpenSocket}
use Rattle.spec_control.specs.Reply.{reply_of}
use Rattle.ctl_state.specs.declared.state.State.{State}
use Rattle.ctl_state.specs.Boxes.{PutsBare}
use Rattle.ctl_state.specs.Stands.{Updates}
use Rattle.desk.specs.declared.given.Given.{Given}
use Rattle.desk.specs.declared.load.Load.{Load}
use Rattle.ctl_plane.specs.Carried.{IsPlane}
use Rattle.ctl_moves.specs.Naming.{SameEndLists}
use Rattle.ctl_plane.specs.Past.{Past, control_of, items_of, with_event, IsHistory}
use Rattle.ctl_moves.specs.Processing.{IsSilent}
use Rattle.ctl_moves.specs.Refusals.{refusal_in}
use Rattle.ctl_plane.proofs.SilentLemmas.{silent_answered}
use Rattle.ctl_plane.proofs.CarryLemmas.{told_carried}
use Rattle.ctl_plane.proofs.EventLemmas.{one_brought}
use Rattle.ctl_plane.proofs.PlaneLemmas.{one_plane, tells_no_names}
use Rattle.ctl_plane.proofs.RefusalLemmas.{done_behind}

pub unbind_done : (c : Control) (o : ObjId) (at : Endpoint) → refusal_in (reply_of c (Unbind o at)) ≡ None → reply_of c (Unbind o at) ≡ Done
unbind_done c o at free = done_behind c _ _ Done free

module _ {L G N S : Type 0} where
  pub unbinds : (s t : State L) (p : Past G N S) (spare : ℕ) (o : ObjId) (at : Endpoint) (a : Answered N S) → IsHistory s p spare → IsOpenSocket (obj (control_of p).rows o.0) → IsSilent a →
      refusal_in (reply_of (control_of p) (Unbind o at)) ≡ None → Updates (strikes_first o.0 at (is_bind_to at)) s t → PutsBare s.boxes t.boxes →
      IsHistory t (with_event (Asked (Unbind o at) Done a) p) spare
  unbinds s t p spare o at a h is_open silent free updates puts =
      let did : Did N S = Asked (Unbind o at) Done a in
      one_brought s t p did spare h (record {
        may = (is_open, sym (unbind_done (control_of p) o at free));
        answered = silent_answered (control_of p) did silent refl refl silent.settled silent.output;
      }) (updates (control_of p) h.stands) refl refl puts

module _ {N O I S : Type 0} (out_name : O → N) (in_name : I → N) where
  pub unbinds_plane : (s t : State (Load N O I)) (p : Past (Given N O I) N S) (spare : ℕ) (o : ObjId) (at : Endpoint) (a : Answered N S) → IsPlane out_name in_name s p spare → IsOpenSocket (obj (control_of p).rows o.0) → IsSilent a →
      refusal_in (reply_of (control_of p) (Unbind o at)) ≡ None → Updates (strikes_first o.0 at (is_bind_to at)) s t → PutsBare s.boxes t.boxes → SameEndLists s.objects.lists t.objects.lists →
      IsPlane out_name in_name t (with_event (Asked (Unbind o at) Done a) p) spare
  unbinds_plane s t p spare o at a h is_open silent free updates puts lists =
      one_plane out_name in_name s t p (Asked (Unbind o at) Done a) spare spare h (unbinds s t p spare o at a h.history is_open silent free updates puts)
      (tells_no_names (items_of p) (Asked (Unbind o at) Done a) silent) (told_carried out_name in_name (items_of p) (control_of p) s.boxes t.boxes puts h.carried) lists refl
