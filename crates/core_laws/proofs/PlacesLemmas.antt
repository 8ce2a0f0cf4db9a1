-- The places of an open socket are of its ends still, behind calls on another.
use Rattle.std.specs.Prelude.{◌≡◌, ℕ, true, [], Some, None}
use Rattle.std.specs.List.{list_any}
use Rattle.std.proofs.Common.{arith, sym, ap, ◌∙◌, subst}
use Rattle.std.proofs.lemmas.List.Elements.{All-nil}
use Rattle.zq_base.specs.Ends.{other_end}
use Rattle.zq_base.specs.declared.ids.EndId.{EndId}
use Rattle.spec_control.specs.Control.{Control, begun, ends_of, id, is_end, place_of}
use Rattle.spec_control.specs.ControlRun.{after_all}
use Rattle.spec_control.specs.Names.{name_of}
use Rattle.spec_control.specs.Moments.{left_after}
use Rattle.control_laws.proofs.RootLemmas.{begun_kept}
use Rattle.control_laws.proofs.AttachedOnceLemmas.{IsOld}
use Rattle.ctl_plane.specs.Past.{control_of}
use Rattle.desk.specs.Coming.{KeepsNames}
use Rattle.control_laws.proofs.MomentLemmas.{AsLeft, left_snoc}
use Rattle.plain_desk.specs.Lent.{moments_of, GrowsBy, HasSocket, IsOneOrder, Lent}
use Rattle.socket_laws.specs.Behind.{is_its_end, IsOfIts}
use Rattle.socket_laws.proofs.NewLemmas.{any_of}
use Rattle.socket_laws.proofs.SocketLemmas.{is_in}
use Rattle.line_socket.specs.LeavingOwed.{names_on}
use Rattle.core_laws.specs.Apart.{IsPlaceOf}
use Rattle.core_laws.specs.Calls.{SaySame, for_caller}
use Rattle.core_laws.specs.Laws.{OtherPlacesStay}
use Rattle.core_laws.proofs.SilentLemmas.{one_order_of, others_say_the_same}

none_some : {X : Type 0} {x : X} → None ≡ Some x → ⊥
none_some e = Prim.grind arith

module _ {G N S : Type 0} (d : Lent G N S) (o : ℕ) (order : IsOneOrder d) (known : HasSocket d (id o)) where
  -- the ends of an open socket are those that its caller's moments left
  pub ends_left : ends_of o (left_after o (moments_of d)) ≡ ends_of o (after_all d.items (begun d.past.workers))
  ends_left =
      let all = order.order in
      let is = is_in d order o known in
      let w = d.past.workers in
      let so = left_snoc d.caller o is.more d.items [] (begun w) (begun 0) (begun_kept w) (All-nil (IsOld (begun w))) all.run all.by (λ f. absurd (none_some f)) is.has in
      so.ends

  -- an end of an open socket is where its caller's moments left it
  left_at : (e : EndId) → is_its_end o d e ≡ true → place_of (left_after o (moments_of d)) e ≡ place_of (control_of d.past) e
  left_at e its =
      let all = order.order in
      let is = is_in d order o known in
      let w = d.past.workers in
      let so = left_snoc d.caller o is.more d.items [] (begun w) (begun 0) (begun_kept w) (All-nil (IsOld (begun w))) all.run all.by (λ f. absurd (none_some f)) is.has in
      subst (λ (c : Control). place_of (left_after o (moments_of d)) e ≡ place_of c e) (sym order.control)
      (any_of (AsLeft _ _) _ e so.each (ap (list_any (is_end e)) (sym so.ends) ∙ its)).place

pub other_places_stay : (G N S I : Type 0) → OtherPlacesStay G N S I
other_places_stay G N S I old new o calls j u apart known ps places k p at = record {
  its = record { its = now_its; written = names p.end p.written its.written; read = names (other_end p.end) p.read its.read };
  gone = λ free. sym (left_at (for_caller j new) u (one_order_of j new calls.behind) still p.end now_its) ∙ ap (λ (c : Control). place_of c p.end) same.left ∙ left_at (for_caller j old) u (one_order_of j old calls.before) known p.end its.its ∙ is.gone free;
}
  where
    grows : GrowsBy old new
    grows = calls.grows

    is : IsPlaceOf u (for_caller j old) p
    is = places k p at

    its : IsOfIts u (for_caller j old) p.end p.written p.read
    its = is.its

    same : SaySame u (moments_of (for_caller j old)) (moments_of (for_caller j new))
    same = others_say_the_same G N S old new o calls j u apart known

    still : HasSocket (for_caller j new) (id u)
    still = ap (λ k. k.open_socket) same.knows ∙ known

    names : KeepsNames (name_of old.items) (name_of new.items)
    names = names_on old.items grows.more new.items grows.items

    now_its : is_its_end u (for_caller j new) p.end ≡ true
    now_its = ap (λ (c : Control). list_any (is_end p.end) (ends_of u c)) same.left ∙ its.its
