-- What the updates of the control plane do to which objects are over, and to the order of ending.
use Rattle.std.specs.Prelude.{◌≡◌, ◌≢◌, ◌≤◌, ◌<◌, ◌&&◌, ℕ, zero, suc, Bool, true, false, not, List, [], ◌∷◌, ◌++◌, Option, Some, None, if◌then◌else◌, length, refl}
use Rattle.std.proofs.Common.{arith, sym, ap, ◌∙◌, subst}
use Rattle.zq_base.specs.declared.endpoint.Endpoint.{Endpoint}
use Rattle.zq_base.specs.declared.ids.ObjId.{ObjId}
use Rattle.zq_base.specs.declared.ids.EndId.{EndId}
use Rattle.zq_base.specs.declared.attached.Attached.{Attached}
use Rattle.zq_base.specs.declared.attached.Attached.TheVariants.{Yes, BadId as IsBadId, Second as IsSecond}
use Rattle.spec_control.specs.declared.book.Binding.{Binding}
use Rattle.spec_control.specs.declared.book.Waiting.{Waiting}
use Rattle.spec_control.specs.declared.end.EndEvent.{EndEvent}
use Rattle.spec_control.specs.declared.end.EndEvent.TheVariants.{Asked}
use Rattle.spec_control.specs.declared.end.EndCommands.{EndCommands}
use Rattle.spec_control.specs.declared.end.EndCommands.TheVariants.{Nothing, TermAndSeal, Ack, Settle, SettleAndAck}
use Rattle.spec_control.specs.declared.end.Reason.{Reason}
use Rattle.spec_control.specs.declared.end.Reason.TheVariants.{Closed, BadId, Second, Linger, Link}
use Rattle.spec_control.specs.declared.stage.Stage.TheVariants.{Finished}
use Rattle.spec_control.specs.declared.letter.Word.TheVariants.{Term, PipeBind, Stop}
use Rattle.spec_control.specs.Stage.{was_asked, has_ended, is_ending}
use Rattle.spec_control.specs.Hold.{Hold, Bound, Waits, Joined, fulfil}
use Rattle.spec_control.specs.Register.{without_holder}
use Rattle.spec_control.specs.Place.{is_here, is_away}
use Rattle.spec_control.specs.Row.{Row, LinkEvent, IsTold, AckComes, StopPut, AsksForLink, AsksForLinger, link_may, link_after}
use Rattle.spec_control.specs.Rows.{obj, is_owner, may_end, with_object}
use Rattle.spec_control.specs.Control.{Control, id, end_of, with_value, next_pair, put, makes, draws, open_pair, place_of, owner_of, link, tell_where, tell_children, stop_sockets, tell_other, commands_in, happens, ask, ask_all, greet, tell_owner, finish, try_end}
use Rattle.spec_control.specs.After.{Answers, with_hold, joins, fulfil_all, connects_to, tell_struck, strike_end, strikes, uses_reason}
use Rattle.control_laws.proofs.ListLemmas.{never}
use Rattle.run_laws.proofs.OverLemmas.{row_in, over_in, over, Wrote, here, as_before, wrote, wrote_here, pushed_over, ends_none, same_owner, set_length, push_length, push_row}

-- no object ends between the two, and each keeps its owner
pub record Keeps (c d : Control) : Type 0 where
  pub ended : d.ended ≡ c.ended
  pub lives : (x : ℕ) → over d x ≡ true → over c x ≡ true
  pub grows : length c.rows.objects ≤ length d.rows.objects
  pub owners : (x : ℕ) → x < length c.rows.objects → (row_in d.rows.objects x).owner ≡ (row_in c.rows.objects x).owner

-- one object ends between the two, and each keeps its owner
pub record EndsOne (b : ℕ) (c d : Control) : Type 0 where
  pub ended : d.ended ≡ c.ended ++ id b ∷ []
  pub now : over d b ≡ true
  pub lives : (x : ℕ) → x ≢ b → over d x ≡ true → over c x ≡ true
  pub grows : length c.rows.objects ≤ length d.rows.objects
  pub owners : (x : ℕ) → x < length c.rows.objects → (row_in d.rows.objects x).owner ≡ (row_in c.rows.objects x).owner

-- either of these
pub data Out (b : ℕ) (c d : Control) : Type 0 where
  keeps : Keeps c d → Out b c d
  ends : EndsOne b c d → Out b c d

-- nothing is changed of objects
pub of_same : (c d : Control) → d.ended ≡ c.ended → d.rows.objects ≡ c.rows.objects → Keeps c d
of_same c d e o = record {
  ended = e;
  lives = λ x h. subst (λ (rows : List Row). over_in rows x ≡ true) o h;
  grows = let l = ap length o in omega (arith, l);
  owners = λ x lt. ap (λ (rows : List Row). (row_in rows x).owner) o;
}

pub itself : (c : Control) → Keeps c c
itself c = of_same c c refl refl

pub keeps_more : {c d e : Control} → Keeps c d → Keeps d e → Keeps c e
keeps_more k l = record {
  ended = l.ended ∙ k.ended;
  lives = λ x h. k.lives x (l.lives x h);
  grows = let a = k.grows in let b = l.grows in omega (arith, a, b);
  owners = λ x lt. l.owners x (within lt k.grows) ∙ k.owners x lt;
}
  where
    within : {a b x : ℕ} → x < a → a ≤ b → x < b
    within p q = omega (arith, p, q)

pub out_more : {b : ℕ} {c d e : Control} → Keeps c d → Out b d e → Out b c e
out_more {b} k (keeps l) = keeps (keeps_more k l)
out_more {b} k (ends l) = ends (record {
  ended = l.ended ∙ ap (λ (es : List ObjId). es ++ id b ∷ []) k.ended;
  now = l.now;
  lives = λ x other h. k.lives x (l.lives x other h);
  grows = let a = k.grows in let b = l.grows in omega (arith, a, b);
  owners = λ x lt. l.owners x (within lt k.grows) ∙ k.owners x lt;
})
  where
    within : {a b x : ℕ} → x < a → a ≤ b → x < b
    within p q = omega (arith, p, q)

one_or_other : (x : Bool) (c d e : Control) → Keeps c d → Keeps c e → Keeps c (if x then d else e)
one_or_other true c d e h k = h
one_or_other false c d e h k = k

-- ---- the small updates

pub link_keeps : (e : LinkEvent) (i : ℕ) (c : Control) → (e ≡ AckComes → has_ended (obj c.rows i).stage ≡ true) → Keeps c (link e i c)
link_keeps e i c ack = record {
  ended = refl;
  lives = λ x h. lives x (wrote c.rows.objects i (link_after e (obj c.rows i)) x) h;
  grows = let l = set_length c.rows.objects i (link_after e (obj c.rows i)) in omega (arith, l);
  owners = λ x lt. owners x (wrote c.rows.objects i (link_after e (obj c.rows i)) x);
}
  where
    lives : (x : ℕ) → Wrote c.rows.objects i (link_after e (obj c.rows i)) x → over (link e i c) x ≡ true → over c x ≡ true
    lives x (here at now before) h =
        ap (λ (o : Row). has_ended o.stage) before ∙ ends_none e (obj c.rows i) ack (ap (λ (o : Row). has_ended o.stage) (sym now) ∙ h)
    lives x (as_before same) h = ap (λ (o : Row). has_ended o.stage) (sym same) ∙ h

    owners : (x : ℕ) → Wrote c.rows.objects i (link_after e (obj c.rows i)) x → (row_in (link e i c).rows.objects x).owner ≡ (row_in c.rows.objects x).owner
    owners x (here at now before) = ap (λ (o : Row). o.owner) now ∙ (same_owner e (obj c.rows i) ∙ ap (λ (o : Row). o.owner) (sym before))
    owners x (as_before same) = ap (λ (o : Row). o.owner) same

pub makes_keeps : (row : Row) (c : Control) → has_ended row.stage ≡ false → Keeps c (makes row c)
makes_keeps row c alive = record {
  ended = refl;
  lives = λ x h. (pushed_over c.rows.objects row x alive h).0;
  grows = let l = push_length c.rows.objects row in omega (arith, l);
  owners = λ x lt. ap (λ (o : Row). o.owner) (push_row c.rows.objects row x lt);
}

tell_owner_keeps : (owner : Option ℕ) (i : ℕ) (c : Control) → ((tell_owner owner i c).ended ≡ c.ended) × ((tell_owner owner i c).rows.objects ≡ c.rows.objects)
tell_owner_keeps None i c = (refl, refl)
tell_owner_keeps (Some owner) i c = (refl, refl)

finish_ends : (i : ℕ) (c : Control) → is_ending (obj c.rows i).stage ≡ true → EndsOne i c (finish i c)
finish_ends i c ending = record {
  ended = told.0;
  now = subst (λ (rows : List Row). over_in rows i ≡ true) (sym told.1) (ap (λ (o : Row). has_ended o.stage) (wrote_here c.rows.objects i last ending));
  lives = λ x other h. lives x other (wrote c.rows.objects i last x) (subst (λ (rows : List Row). over_in rows x ≡ true) told.1 h);
  grows = let l = set_length c.rows.objects i last in let m = ap length told.1 in omega (arith, l, m);
  owners = λ x lt. ap (λ (rows : List Row). (row_in rows x).owner) told.1 ∙ owners x (wrote c.rows.objects i last x);
}
  where
    last : Row
    last = record (obj c.rows i) { stage = Finished }

    told : ((finish i c).ended ≡ c.ended ++ id i ∷ []) × ((finish i c).rows.objects ≡ (with_object i last c.rows).objects)
    told = tell_owner_keeps (obj c.rows i).owner i (record c { rows = with_object i last c.rows; ended = c.ended ++ id i ∷ [] })

    lives : (x : ℕ) → x ≢ i → Wrote c.rows.objects i last x → over_in (with_object i last c.rows).objects x ≡ true → over c x ≡ true
    lives x other (here at now before) h = absurd (other at)
    lives x other (as_before same) h = ap (λ (o : Row). has_ended o.stage) (sym same) ∙ h

    owners : (x : ℕ) → Wrote c.rows.objects i last x → (row_in (with_object i last c.rows).objects x).owner ≡ (row_in c.rows.objects x).owner
    owners x (here at now before) = ap (λ (o : Row). o.owner) now ∙ ap (λ (o : Row). o.owner) (sym before)
    owners x (as_before same) = ap (λ (o : Row). o.owner) same

left_of : (a b : Bool) → (a && b) ≡ true → a ≡ true
left_of true b h = refl
left_of false b h = absurd (never h)

pub try_end_out : (i : ℕ) (left : Bool) (c : Control) → Out i c (try_end i left c)
try_end_out i left c = by (may_end c.rows i) left refl
  where
    now : Control
    now = record c { output_left = with_value i left c.output_left }

    by : (m l : Bool) → may_end c.rows i ≡ m → Out i c (if m then (if l then now else finish i now) else now)
    by true true e = keeps (of_same c now refl refl)
    by true false e = out_more (of_same c now refl refl) (ends (finish_ends i now (left_of (is_ending (obj c.rows i).stage) _ e)))
    by false l e = keeps (of_same c now refl refl)

pub tell_where_keeps : (wanted : Bool) (child : ℕ) (c : Control) → Keeps c (tell_where wanted child c)
tell_where_keeps wanted child c =
    one_or_other (wanted && link_may IsTold (obj c.rows child)) c _ c
    (keeps_more (link_keeps IsTold child c (λ e. absurd (told_no_ack e))) (of_same (link IsTold child c) (put child Term (link IsTold child c)) refl refl)) (itself c)
  where
    told_no_ack : IsTold ≡ AckComes → ⊥
    told_no_ack e = Prim.grind arith

pub tell_children_keeps : (n owner : ℕ) (c : Control) → Keeps c (tell_children n owner c)
tell_children_keeps zero owner c = itself c
tell_children_keeps (suc n) owner c = let before = tell_children n owner c in keeps_more (tell_children_keeps n owner c) (tell_where_keeps (is_owner owner (obj before.rows n).owner && (obj before.rows n).noted) n before)

stop_no_ack : StopPut ≡ AckComes → ⊥
stop_no_ack e = Prim.grind arith

pub stop_sockets_keeps : (n : ℕ) (c : Control) → Keeps c (stop_sockets n c)
stop_sockets_keeps zero c = itself c
stop_sockets_keeps (suc n) c =
    let before = stop_sockets n c in
    keeps_more (stop_sockets_keeps n c) (one_or_other (link_may StopPut (obj before.rows n)) before _ before
    (keeps_more (link_keeps StopPut n before (λ e. absurd (stop_no_ack e))) (of_same (link StopPut n before) (put n Stop (link StopPut n before)) refl refl)) (itself before))

tell_other_same : (cmds : EndCommands) (e : EndId) (c : Control) → ((tell_other cmds e c).ended ≡ c.ended) × ((tell_other cmds e c).rows.objects ≡ c.rows.objects)
tell_other_same Nothing e c = (refl, refl)
tell_other_same TermAndSeal e c = (refl, refl)
tell_other_same Ack e c = (refl, refl)
tell_other_same Settle e c = (refl, refl)
tell_other_same SettleAndAck e c = (refl, refl)

pub happens_keeps : (event : EndEvent) (e : EndId) (c : Control) → Keeps c (happens event e c)
happens_keeps event e c = let t = tell_other_same (commands_in event (place_of c e)) e _ in of_same c (happens event e c) t.0 t.1

pub ask_keeps : (why : Reason) (delay : Bool) (e : EndId) (c : Control) → Keeps c (ask why delay e c)
ask_keeps why delay e c = one_or_other (is_here (place_of c e)) c _ c (happens_keeps (Asked why delay) e c) (itself c)

pub ask_all_keeps : (why : Reason) (delay : Bool) (es : List EndId) (c : Control) → Keeps c (ask_all why delay es c)
ask_all_keeps why delay [] c = itself c
ask_all_keeps why delay (e ∷ es) c = keeps_more (ask_keeps why delay e c) (ask_all_keeps why delay es (ask why delay e c))

greet_keeps : (kind : Attached) (e : EndId) (c : Control) → Keeps c (greet kind e c)
greet_keeps Yes e c = one_or_other (was_asked (obj c.rows (owner_of c e)).stage) c _ _ (ask_keeps Closed false e c) (one_or_other (c.struck e) c _ c (ask_keeps Closed false e c) (itself c))
greet_keeps IsBadId e c = ask_keeps BadId false e c
greet_keeps IsSecond e c = ask_keeps Second false e c

-- an end is attached, or a pair is made, before it is greeted
pub greeted : (kind : Attached) (e : EndId) (c d : Control) → d.ended ≡ c.ended → d.rows.objects ≡ c.rows.objects → Keeps c (greet kind e d)
greeted kind e c d same objects = keeps_more (of_same c d same objects) (greet_keeps kind e d)

joins_keeps : (connecting bound : ℕ) (a_first : Bool) (h : Answers) (c : Control) → Keeps c (joins connecting bound a_first h c)
joins_keeps connecting bound a_first h c =
    let first = end_of (next_pair c) a_first in
    let last = end_of (next_pair c) (not a_first) in
    let drawn = draws connecting bound c in
    greeted (h.kind first) first c (open_pair first (PipeBind last (obj c.rows (owner_of drawn first)).options.id) drawn) refl refl

pub fulfil_all_keeps : (i : ℕ) (at : Endpoint) (ws : List Waiting) (h : Answers) (c : Control) → Keeps c (fulfil_all i at ws h c)
fulfil_all_keeps i at [] h c = itself c
fulfil_all_keeps i at (w ∷ ws) h c =
    let joined = joins w.waiter.0 i false h c in
    let held = record joined { holds = with_value w.waiter.0 (fulfil at (next_pair c) (joined.holds w.waiter.0)) joined.holds } in
    keeps_more (joins_keeps w.waiter.0 i false h c) (keeps_more (of_same joined held refl refl) (fulfil_all_keeps i at ws h held))

tell_struck_keeps : (i : ℕ) (child : Option ℕ) (c : Control) → Keeps c (tell_struck i child c)
tell_struck_keeps i None c = itself c
tell_struck_keeps i (Some child) c = tell_where_keeps (is_owner i (obj c.rows child).owner) child c

strike_end_keeps : (i : ℕ) (e : EndId) (c : Control) → Keeps c (strike_end i e c)
strike_end_keeps i e c = one_or_other (is_away (place_of c e)) c _ _ (of_same c _ refl refl) (one_or_other _ c _ c (ask_keeps Closed false e c) (itself c))

pub strikes_keeps : (i : ℕ) (to : Endpoint) (hold : Option Hold) (c : Control) → Keeps c (strikes i to hold c)
strikes_keeps i to None c = itself c
strikes_keeps i to (Some (Bound at listener)) c =
    let d = record c { names = without_holder to c.names } in keeps_more (of_same c d refl refl) (tell_struck_keeps i listener d)
strikes_keeps i to (Some (Waits at)) c = of_same c _ refl refl
strikes_keeps i to (Some (Joined at k session)) c = keeps_more (strike_end_keeps i (end_of k true) c) (tell_struck_keeps i session (strike_end i (end_of k true) c))

pub connects_to_keeps : (i : ℕ) (at : Endpoint) (b : Option Binding) (h : Answers) (c : Control) → Keeps c (connects_to i at b h c)
connects_to_keeps i at None h c = of_same c _ refl refl
connects_to_keeps i at (Some binding) h c =
    let d = with_hold i (Joined at (next_pair c) None) c in keeps_more (of_same c d refl refl) (joins_keeps i binding.holder.0 true h d)

linger_no_ack : AsksForLinger ≡ AckComes → ⊥
linger_no_ack e = Prim.grind arith

link_no_ack : AsksForLink ≡ AckComes → ⊥
link_no_ack e = Prim.grind arith

pub uses_reason_keeps : (why : Reason) (i : ℕ) (c : Control) → Keeps c (uses_reason why i c)
uses_reason_keeps Closed i c = itself c
uses_reason_keeps BadId i c = itself c
uses_reason_keeps Second i c = itself c
uses_reason_keeps Linger i c = link_keeps AsksForLinger i c (λ e. absurd (linger_no_ack e))
uses_reason_keeps Link i c = link_keeps AsksForLink i c (λ e. absurd (link_no_ack e))
