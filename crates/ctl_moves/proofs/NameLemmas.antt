-- What a socket holds is aside of its ends.
use Rattle.std.specs.Prelude.{◌≡◌, ℕ, List, None, refl, filter, not}
use Rattle.std.proofs.Common.{sym, ap, ◌∙◌, subst}
use Rattle.spec_control.specs.Control.{Control}
use Rattle.ctl_state.specs.declared.belongings.Belongings.{Belongings}
use Rattle.ctl_state.specs.declared.state.State.{State}
use Rattle.ctl_state.specs.Parts.{on_lists}
use Rattle.ctl_state.specs.Listed.{Listed}
use Rattle.ctl_state.specs.declared.hold.Hold.{Hold}
use Rattle.ctl_state.specs.Lists.{belongings_at, no_belongings, with_holds}
use Rattle.ctl_state.proofs.ReadLemmas.{read_kept}
use Rattle.ctl_moves.specs.Naming.{SameEndLists}
use Rattle.zq_base.specs.declared.endpoint.Endpoint.{Endpoint}
use Rattle.spec_control.specs.Register.{waiting_now}
use Rattle.spec_control.specs.declared.book.Binding.{Binding}
use Rattle.spec_control.specs.EndpointBook.{is_fulfilled}
use Rattle.spec_control.specs.Hold.{Bound}
use Rattle.spec_control.specs.After.{named, with_hold}

pub same_lists : (old new : List Belongings) → new ≡ old → SameEndLists old new
same_lists old new same i = ap (λ (ls : List Belongings). (belongings_at ls i).ends) same

pub lists_on : (a b c : List Belongings) → SameEndLists a b → SameEndLists b c → SameEndLists a c
lists_on a b c h k i = k i ∙ h i

-- what a socket holds is aside
pub holds_aside : (f : Listed Hold → Listed Hold) (i : ℕ) (lists : List Belongings) → SameEndLists lists (with_holds f i lists)
holds_aside f i lists j = read_kept (λ (b : Belongings). b.ends) lists i j (record (belongings_at lists i) { holds = f (belongings_at lists i).holds }) no_belongings refl

-- a socket holds more, in room that was kept for it
pub held_aside : {L : Type 0} (s a b t : State L) (f g : Listed Hold → Listed Hold) (i : ℕ) → a ≡ on_lists (with_holds f i) s → b.objects.lists ≡ a.objects.lists → t ≡ on_lists (with_holds g i) b → SameEndLists s.objects.lists t.objects.lists
held_aside {L} s a b t f g i first same last =
    lists_on s.objects.lists b.objects.lists t.objects.lists
    (lists_on s.objects.lists a.objects.lists b.objects.lists
    (subst (λ (ls : List Belongings). SameEndLists s.objects.lists ls) (sym (ap (λ (x : State L). x.objects.lists) first)) (holds_aside f i s.objects.lists)) (same_lists a.objects.lists b.objects.lists same))
    (subst (λ (ls : List Belongings). SameEndLists b.objects.lists ls) (sym (ap (λ (x : State L). x.objects.lists) last)) (holds_aside g i b.objects.lists))

-- the name is held by this binding, and the hold is of a copy of it
abbrev pub bound_with : ℕ → (at copy : Endpoint) → Binding → Control → Control
bound_with i at copy binding c =
    let held : Control = with_hold i (Bound copy None) (named i at binding c) in
    record held { names = waiting_now (filter (λ w. not (is_fulfilled at binding w)) held.names.waiting) held.names }
