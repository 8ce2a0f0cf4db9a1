-- Where ends are as before, in the small updates of the control state.
use Rattle.std.specs.Prelude.{◌≡◌, ◌&&◌, ◌++◌, ◌∷◌, [], ℕ, zero, suc, Bool, true, false, Option, Some, None, if◌then◌else◌, refl}
use Rattle.std.proofs.Common.{◌∙◌}
use Rattle.spec_control.specs.declared.letter.Word.TheVariants.{Term, Stop}
use Rattle.spec_control.specs.declared.stage.Stage.TheVariants.{Finished}
use Rattle.zq_base.specs.declared.ids.EndId.{EndId}
use Rattle.zq_base.specs.declared.ids.Settled.{Settled}
use Rattle.spec_control.specs.declared.end.EndCommands.{EndCommands}
use Rattle.spec_control.specs.declared.end.EndCommands.TheVariants.{Nothing, TermAndSeal, Ack, Settle, SettleAndAck}
use Rattle.spec_control.specs.Row.{LinkEvent, StopPut, link_may, IsTold as ChildTold}
use Rattle.spec_control.specs.Rows.{obj, is_owner, with_object, may_end}
use Rattle.spec_control.specs.Control.{Control, link, put, tell_where, tell_children, stop_sockets, tell_other, tell_owner, try_end, finish, with_value, id}
use Rattle.spec_control.specs.After.{settle}

pub record SameEnds (c d : Control) : Type 0 where
  pub pairs : d.rows.pairs ≡ c.rows.pairs
  pub attached : d.attached ≡ c.attached
  pub reasons : d.reasons ≡ c.reasons

pub ends_stay : (c : Control) → SameEnds c c
ends_stay c = record { pairs = refl; attached = refl; reasons = refl }

pub ends_on : (c d e : Control) → SameEnds c d → SameEnds d e → SameEnds c e
ends_on c d e h k = record { pairs = k.pairs ∙ h.pairs; attached = k.attached ∙ h.attached; reasons = k.reasons ∙ h.reasons }

pub where_told : (wanted : Bool) (child : ℕ) (c : Control) → SameEnds c (tell_where wanted child c)
where_told wanted child c = by (wanted && link_may ChildTold (obj c.rows child))
  where
    by : (b : Bool) → SameEnds c (if b then put child Term (link ChildTold child c) else c)
    by true = record { pairs = refl; attached = refl; reasons = refl }
    by false = ends_stay c

owner_told : (owner : Option ℕ) (i : ℕ) (c : Control) → SameEnds c (tell_owner owner i c)
owner_told None i c = ends_stay c
owner_told (Some w) i c = record { pairs = refl; attached = refl; reasons = refl }

pub tried : (i : ℕ) (left_over : Bool) (c : Control) → SameEnds c (try_end i left_over c)
tried i left_over c = by (may_end c.rows i) left_over
  where
    by : (b l : Bool) → SameEnds c (if b then (if l then record c { output_left = with_value i left_over c.output_left } else finish i (record c { output_left = with_value i left_over c.output_left })) else record c { output_left = with_value i left_over c.output_left })
    by true true = record { pairs = refl; attached = refl; reasons = refl }
    by true false =
        ends_on c _ _ (record { pairs = refl; attached = refl; reasons = refl })
        (owner_told (obj c.rows i).owner i (record (record c { output_left = with_value i left_over c.output_left }) { rows = with_object i (record (obj c.rows i) { stage = Finished }) c.rows; ended = c.ended ++ id i ∷ [] }))
    by false l = record { pairs = refl; attached = refl; reasons = refl }

pub link_ends_stay : (event : LinkEvent) (i : ℕ) (c : Control) → SameEnds c (link event i c)
link_ends_stay event i c = record { pairs = refl; attached = refl; reasons = refl }

pub own_ends_stay : (wanted : Bool) (event : LinkEvent) (child : ℕ) (c : Control) → SameEnds c (tell_where wanted child (link event child c))
own_ends_stay wanted event child c = ends_on c (link event child c) _ (record { pairs = refl; attached = refl; reasons = refl }) (where_told wanted child (link event child c))

pub ack_ends_stay : (at : ℕ) (left_over : Bool) (event : LinkEvent) (child : ℕ) (c : Control) → SameEnds c (try_end at left_over (link event child c))
ack_ends_stay at left_over event child c = ends_on c (link event child c) _ (record { pairs = refl; attached = refl; reasons = refl }) (tried at left_over (link event child c))

pub children_told : (n at : ℕ) (c : Control) → SameEnds c (tell_children n at c)
children_told zero at c = ends_stay c
children_told (suc n) at c =
    let before = tell_children n at c in
    ends_on c before _ (children_told n at c) (where_told (is_owner at (obj before.rows n).owner && (obj before.rows n).noted) n before)

pub sockets_stopped : (n : ℕ) (c : Control) → SameEnds c (stop_sockets n c)
sockets_stopped zero c = ends_stay c
sockets_stopped (suc n) c = ends_on c before _ (sockets_stopped n c) (by (link_may StopPut (obj before.rows n)))
  where
    before : Control
    before = stop_sockets n c

    by : (b : Bool) → SameEnds before (if b then put n Stop (link StopPut n before) else before)
    by true = record { pairs = refl; attached = refl; reasons = refl }
    by false = ends_stay before

pub other_told : (commands : EndCommands) (e : EndId) (c : Control) → SameEnds c (tell_other commands e c)
other_told Nothing e c = ends_stay c
other_told TermAndSeal e c = record { pairs = refl; attached = refl; reasons = refl }
other_told Ack e c = record { pairs = refl; attached = refl; reasons = refl }
other_told Settle e c = ends_stay c
other_told SettleAndAck e c = record { pairs = refl; attached = refl; reasons = refl }

pub is_settled : (e : EndId) (counts : Option Settled) (c : Control) → SameEnds c (settle e counts c)
is_settled e None c = ends_stay c
is_settled e (Some counts) c = record { pairs = refl; attached = refl; reasons = refl }
