-- What the reaper takes is settled by what it found and by the steps past: it refuses no end, and no session's letter comes to it.
use Rattle.std.specs.Prelude.{◌≡◌, ◌<◌, ◌≤◌, ◌&&◌, ◌⊎◌, ℕ, zero, suc, Bool, true, false, not, List, [], ◌∷◌, ◌++◌, Option, Some, None, All, cond, filter, find, if◌then◌else◌, map, slice_index_or, slice_set, refl}
use Rattle.std.proofs.Common.{arith, sym, ap, ◌∙◌, subst, inl, inr}
use Rattle.std.proofs.lemmas.List.Elements.{All-head, All-tail}
use Rattle.zq_base.specs.declared.ids.EndId.{EndId}
use Rattle.zq_base.specs.declared.ids.ObjId.{ObjId}
use Rattle.zq_base.specs.declared.attached.Attached.{Attached}
use Rattle.zq_base.specs.declared.attached.Attached.TheVariants.{Yes, BadId as IsBadId, Second as IsSecond}
use Rattle.spec_control.specs.declared.object.ObjKind.{ObjKind}
use Rattle.spec_control.specs.declared.object.ObjKind.TheVariants.{Root, Socket, Listener, Session}
use Rattle.spec_control.specs.declared.stage.Stage.TheVariants.{Finished}
use Rattle.spec_control.specs.declared.stage.Use.{Use}
use Rattle.spec_control.specs.declared.stage.Use.TheVariants.{Unused, OnItsWay, Used}
use Rattle.spec_control.specs.declared.entry.Joining.{Joining}
use Rattle.spec_control.specs.Stage.{is_used, is_unused}
use Rattle.spec_control.specs.Row.{Row, LinkEvent, OwnComes, PlugComes, IsTold, TermComes, AsksOver, RequestComes, ReapComes, AckComes, RootAsked, StopPut, StopComes, AsksForLink, AsksForLinger, nobody, is_socket, is_session, link_may, link_after}
use Rattle.spec_control.specs.Rows.{Rows, obj, Step, makes_object, draws_pair, opens_pair, link_moves, pair_moves, object_ends}
use Rattle.spec_control.specs.Control.{Control, owner_of}
use Rattle.spec_control.specs.ControlRun.{MayAnswer, MayAnswerAll}
use Rattle.control_laws.proofs.ListLemmas.{never}
use Rattle.control_laws.proofs.StepLemmas.{same_kind}
use Rattle.control_laws.specs.Steps.{Steps, no_step, one_more}
use Rattle.spec_control.specs.OwnAsks.{is_none}
use Rattle.spec_control.specs.Moments.{first_waiting}
use Rattle.replay_laws.specs.Mailboxes.{MayHaveBox, HaveBoxes}
use Rattle.replay_laws.proofs.SlotLemmas.{socket_box}
use Rattle.replay_laws.proofs.AlikeLemmas.{Told}

-- ---- a request that was used stays so
used_link : (e : LinkEvent) (o : Row) → link_may e o ≡ true → is_used o.request ≡ true → is_used (link_after e o).request ≡ true
used_link OwnComes o may used = used
used_link PlugComes o may used = used
used_link IsTold o may used = used
used_link TermComes o may used = used
used_link AsksOver o may used = absurd (no o.request (left (is_unused o.request) _ may) used)
  where
    left : (a b : Bool) → (a && b) ≡ true → a ≡ true
    left true b h = refl
    left false b h = absurd (never h)

    no : (u : Use) → is_unused u ≡ true → is_used u ≡ true → ⊥
    no Unused f g = never g
    no OnItsWay f g = never g
    no Used f g = never f
used_link RequestComes o may used = refl
used_link ReapComes o may used = refl
used_link AckComes o may used = used
used_link RootAsked o may used = used
used_link StopPut o may used = used
used_link StopComes o may used = used
used_link AsksForLink o may used = used
used_link AsksForLinger o may used = used

-- a socket whose request was used
pub record UsedSocket (o : Row) : Type 0 where
  pub socket : is_socket o.kind ≡ true
  pub used : is_used o.request ≡ true

nobody_used : UsedSocket nobody → ⊥
nobody_used u = never u.socket

set_used : (xs : List Row) (c : ℕ) (o : Row) (i : ℕ) → (UsedSocket (slice_index_or xs c nobody) → UsedSocket o) → UsedSocket (slice_index_or xs i nobody) → UsedSocket (slice_index_or (slice_set xs c o) i nobody)
set_used [] c o i keeps used = used
set_used (x ∷ xs) zero o zero keeps used = keeps used
set_used (x ∷ xs) zero o (suc i) keeps used = used
set_used (x ∷ xs) (suc c) o zero keeps used = used
set_used (x ∷ xs) (suc c) o (suc i) keeps used = set_used xs c o i keeps used

push_used : (xs : List Row) (o : Row) (i : ℕ) → UsedSocket (slice_index_or xs i nobody) → UsedSocket (slice_index_or (xs ++ o ∷ []) i nobody)
push_used [] o i used = absurd (nobody_used used)
push_used (x ∷ xs) o zero used = used
push_used (x ∷ xs) o (suc i) used = push_used xs o i used

link_used : (e : LinkEvent) (o : Row) → link_may e o ≡ true → UsedSocket o → UsedSocket (link_after e o)
link_used e o may u = record { socket = ap is_socket (same_kind e o) ∙ u.socket; used = used_link e o may u.used }

step_used : (old new : Rows) → Step old new → (i : ℕ) → UsedSocket (obj old i) → UsedSocket (obj new i)
step_used old new (makes_object w o unended owner alive fits e) i u = subst (λ (s : Rows). UsedSocket (obj s i)) (sym e) (push_used old.objects o i u)
step_used old new (draws_pair p a b e) i u = subst (λ (s : Rows). UsedSocket (obj s i)) (sym e) u
step_used old new (opens_pair k a p moves x y e) i u = subst (λ (s : Rows). UsedSocket (obj s i)) (sym e) u
step_used old new (link_moves c event may e) i u = subst (λ (s : Rows). UsedSocket (obj s i)) (sym e) (set_used old.objects c (link_after event (obj old c)) i (link_used event (obj old c) may) u)
step_used old new (pair_moves k a event p other moves e) i u = subst (λ (s : Rows). UsedSocket (obj s i)) (sym e) u
step_used old new (object_ends c may e) i u =
    subst (λ (s : Rows). UsedSocket (obj s i)) (sym e) (set_used old.objects c (record (obj old c) { stage = Finished }) i (λ v. record { socket = v.socket; used = v.used }) u)

pub steps_used : (s t : Rows) → Steps s t → (i : ℕ) → UsedSocket (obj s i) → UsedSocket (obj t i)
steps_used s t no_step i u = u
steps_used s t (one_more m v steps step) i u = step_used m t step i (steps_used s m steps i u)

-- ---- answers of who may not refuse
pub is_used_as : (u : Use) → is_used u ≡ true → u ≡ Used
is_used_as Unused e = absurd (never e)
is_used_as OnItsWay e = absurd (never e)
is_used_as Used e = refl

yes_of : (o : Row) (a : Attached) → MayAnswer o a → (is_socket o.kind ≡ true → is_used o.request ≡ true) → a ≡ Yes
yes_of o Yes may used = refl
yes_of o IsBadId may used = absurd (may.1 (is_used_as o.request (used (ap is_socket may.0))))
yes_of o IsSecond may used = absurd (may.1 (is_used_as o.request (used (ap is_socket may.0))))

abbrev pub AllYes : {N : Type 0} → List (Joining N) → Type 0
AllYes [] = Unit {0}
AllYes (j ∷ js) = (j.answer ≡ Yes) × AllYes js

pub all_yes : {N : Type 0} (d : Control) (i : ℕ) (js : List (Joining N)) (es : List EndId) → map (λ j. j.end) js ≡ es → All (λ e. owner_of d e ≡ i) es → (is_socket (obj d.rows i).kind ≡ true → is_used (obj d.rows i).request ≡ true)
    → MayAnswerAll d js → AllYes js
all_yes d i [] es e all used may = tt
all_yes d i (j ∷ js) [] e all used may = absurd (nope e)
  where
    nope : ◌≡◌ {A = List EndId} (j.end ∷ map (λ x. x.end) js) [] → ⊥
    nope f = cc
all_yes d i (j ∷ js) (x ∷ es) e all used may =
    let head : ◌≡◌ {A = EndId} j.end x = cc in
    let tail : map (λ y. y.end) js ≡ es = cc in
    let own : owner_of d j.end ≡ i = ap (owner_of d) head ∙ All-head (λ y. owner_of d y ≡ i) x es all in (
      yes_of (obj d.rows (owner_of d j.end)) j.answer may.0 (subst (λ n. is_socket (obj d.rows n).kind ≡ true → is_used (obj d.rows n).request ≡ true) (sym own) used),
      all_yes d i js es tail (All-tail (λ y. owner_of d y ≡ i) x es all) used may.1,
    )

pub told_yes : {N : Type 0} (js ks : List (Joining N)) → map (λ j. j.end) js ≡ map (λ j. j.end) ks → AllYes js → AllYes ks → Told js ks
told_yes [] [] e f g = record { ends = e; answers = refl }
told_yes [] (k ∷ ks) e f g = absurd (nope e)
  where
    nope : ◌≡◌ {A = List EndId} [] (k.end ∷ map (λ x. x.end) ks) → ⊥
    nope h = cc
told_yes (j ∷ js) [] e f g = absurd (nope e)
  where
    nope : ◌≡◌ {A = List EndId} (j.end ∷ map (λ x. x.end) js) [] → ⊥
    nope h = cc
told_yes (j ∷ js) (k ∷ ks) e f g =
    let tail : map (λ x. x.end) js ≡ map (λ x. x.end) ks = cc in
    let rest = (told_yes js ks tail f.1 g.1).answers in
    let one : ◌≡◌ {A = Attached} j.answer k.answer = f.0 ∙ sym g.0 in
    record { ends = e; answers = λ i. one i ∷ rest i }

-- ---- the reaper's mailboxes
found_first : (test : ℕ → Bool) (x : ℕ) (xs : List ℕ) (y : ℕ) → find test (x ∷ xs) ≡ Some y → (x ≡ y) ⊎ (find test xs ≡ Some y)
found_first test x xs y e = by (test x) e
  where
    by : (b : Bool) → (if b then Some x else find test xs) ≡ Some y → (x ≡ y) ⊎ (find test xs ≡ Some y)
    by true f = inl (let same : x ≡ y = cc in same)
    by false f = inr f

-- a closed socket that was taken over, with this mailbox
pub record TakenOver (c : Control) (slot : ℕ) : Type 0 where
  pub object : ObjId
  pub socket : is_socket (obj c.rows object.0).kind ≡ true
  pub used : is_used (obj c.rows object.0).request ≡ true
  pub at : (obj c.rows object.0).slot ≡ slot

-- a mailbox is the root's, or that of one
abbrev pub IsReapers : Control → ℕ → Type 0
IsReapers c slot = (0 ≡ slot) ⊎ TakenOver c slot

found_closed : (c : Control) (test : ℕ → Bool) (os : List ObjId) (slot : ℕ) → All (λ o. is_socket (obj c.rows o.0).kind ≡ true) os
    → find test (map (λ o. (obj c.rows o.0).slot) (filter (λ o. is_used (obj c.rows o.0).request) os)) ≡ Some slot → TakenOver c slot
found_closed c test [] slot all e = absurd (nope e)
  where
    nope : ◌≡◌ {A = Option ℕ} None (Some slot) → ⊥
    nope f = cc
found_closed c test (o ∷ os) slot all e = by (is_used (obj c.rows o.0).request) refl e (found_closed c test os slot (All-tail (λ (x : ObjId). is_socket (obj c.rows x.0).kind ≡ true) o os all))
  where
    by : (b : Bool) → is_used (obj c.rows o.0).request ≡ b → find test (map (λ x. (obj c.rows x.0).slot) (cond b (o ∷ filter (λ x. is_used (obj c.rows x.0).request) os) (filter (λ x. is_used (obj c.rows x.0).request) os))) ≡ Some slot
        → (find test (map (λ x. (obj c.rows x.0).slot) (filter (λ x. is_used (obj c.rows x.0).request) os)) ≡ Some slot → TakenOver c slot) → TakenOver c slot
    by true used f more =
        elim (found_first test (obj c.rows o.0).slot (map (λ x. (obj c.rows x.0).slot) (filter (λ x. is_used (obj c.rows x.0).request) os)) slot f) [
          | inl at ↦ record { object = o; socket = All-head (λ (x : ObjId). is_socket (obj c.rows x.0).kind ≡ true) o os all; used = used; at = at }
          | inr later ↦ more later
        ]
    by false used f more = more f

pub reaper_box : (c : Control) → HaveBoxes c → (slot : ℕ) → first_waiting c ≡ Some slot → IsReapers c slot
reaper_box c boxes slot e =
    elim (found_first (λ k. not (is_none (c.boxes k))) 0 (map (λ o. (obj c.rows o.0).slot) (filter (λ o. is_used (obj c.rows o.0).request) c.closed)) slot e) [
      | inl root ↦ inl root
      | inr later ↦ inr (found_closed c (λ k. not (is_none (c.boxes k))) c.closed slot boxes.closed later)
    ]

session_box : (w n s : ℕ) (kind : ObjKind) → is_session kind ≡ true → MayHaveBox w n kind s → (0 < s) × (s ≤ w)
session_box w n s Root is h = absurd (never is)
session_box w n s (Socket kind) is h = absurd (never is)
session_box w n s Listener is h = absurd (never is)
session_box w n s Session is h = h

-- who gets a letter of the reaper's is no session, and a socket was taken over
pub taker_is : (c : Control) → HaveBoxes c → (slot i : ℕ) → IsReapers c slot → (obj c.rows i).slot ≡ slot → is_session (obj c.rows i).kind ≡ false
taker_is c boxes slot i whose at = by (is_session (obj c.rows i).kind) refl
  where
    by : (b : Bool) → is_session (obj c.rows i).kind ≡ b → b ≡ false
    by false is = refl
    by true is =
        let box = session_box c.workers c.slots (obj c.rows i).slot (obj c.rows i).kind is (boxes.each i) in
        let low = box.0 in
        let high = box.1 in
        elim whose [
          | inl root ↦ absurd (omega (arith, root, at, low))
          | inr over ↦
              let above = (socket_box c.workers c.slots (obj c.rows over.object.0).slot (obj c.rows over.object.0).kind over.socket (boxes.each over.object.0)).0 in
              let same = over.at in
              absurd (omega (arith, above, same, at, high))
        ]

pub whose_used : (c : Control) → HaveBoxes c → (slot i : ℕ) → IsReapers c slot → (obj c.rows i).slot ≡ slot → is_socket (obj c.rows i).kind ≡ true → UsedSocket (obj c.rows i)
whose_used c boxes slot i whose at is =
    elim whose [
      | inl root ↦
          let above = (socket_box c.workers c.slots (obj c.rows i).slot (obj c.rows i).kind is (boxes.each i)).0 in
          absurd (omega (arith, above, root, at))
      | inr over ↦
          let same = boxes.own i over.object.0 is (at ∙ sym over.at) in
          subst (λ n. UsedSocket (obj c.rows n)) (sym same) (record { socket = over.socket; used = over.used })
    ]

pub taker_used : (c : Control) → HaveBoxes c → (slot i : ℕ) → first_waiting c ≡ Some slot → (obj c.rows i).slot ≡ slot → is_socket (obj c.rows i).kind ≡ true → UsedSocket (obj c.rows i)
taker_used c boxes slot i e at is = whose_used c boxes slot i (reaper_box c boxes slot e) at is
