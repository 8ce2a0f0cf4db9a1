-- The objects that events may end, each where it stands last, are those that have ended, in order.
use Rattle.std.specs.Prelude.{◌≡◌, ◌==◌, ◌&&◌, ◌||◌, ℕ, Bool, true, false, not, List, [], ◌∷◌, ◌++◌, if◌then◌else◌, length, map, nat_lt, refl}
use Rattle.std.specs.List.{list_any}
use Rattle.std.proofs.Common.{arith, sym, ap, ◌∙◌, subst, append-nil, append_assoc}
use Rattle.std.proofs.lemmas.Bool.{eqb-true, eq-eqb, ltb-true, lt-ltb}
use Rattle.std.proofs.lemmas.List.Folds.{list_any-append}
use Rattle.zq_base.specs.declared.ids.ObjId.{ObjId}
use Rattle.spec_control.specs.declared.end.EndEvent.TheVariants.{DelimiterSeen}
use Rattle.spec_control.specs.declared.request.Req.{Req}
use Rattle.spec_control.specs.declared.request.Req.TheVariants.{Socket as MakeSocket, AskTerm, Bind, Connect, Unbind, Disconnect, Close, Accepted, Shaken, AskEnd, AskOver, OutputOver}
use Rattle.spec_control.specs.declared.request.Reply.{Reply}
use Rattle.spec_control.specs.declared.request.Reply.TheVariants.{Done, Object, Pair as PairMade, Both, Wait, Asked as WasAsked, Before, Refused}
use Rattle.spec_control.specs.declared.entry.Did.{Did}
use Rattle.spec_control.specs.declared.entry.Did.TheVariants.{Asked as DidAsk, Delivered, Delimited}
use Rattle.spec_control.specs.declared.entry.Item.{Item}
use Rattle.spec_control.specs.Stage.{has_ended}
use Rattle.spec_control.specs.Rows.{obj}
use Rattle.spec_control.specs.Control.{Control, begun, id}
use Rattle.spec_control.specs.After.{Answers, answers_in, after, requested, answered}
use Rattle.spec_control.specs.Reply.{reply_of, root_asked}
use Rattle.spec_control.specs.ControlRun.{Fits, MayAsk, after_all, IsControlRun}
use Rattle.control_laws.proofs.ListLemmas.{never, left, right, and}
use Rattle.control_laws.proofs.RootLemmas.{delivered_to_living}
use Rattle.control_laws.proofs.StepsLemmas.{events_are_steps}
use Rattle.ctl_plane.specs.Enders.{root_ender, request_ender, ender_of, enders_in}
use Rattle.ctl_plane.specs.Past.{as_item}
use Rattle.run_laws.specs.EndOrder.{asker_of, is_numbered}
use Rattle.run_laws.proofs.OverLemmas.{over, ended_is, not_over, over_there}
use Rattle.run_laws.proofs.OverLemmas as rows
use Rattle.run_laws.proofs.KeepLemmas.{Keeps, itself, happens_keeps}
use Rattle.run_laws.proofs.EventLemmas.{EventOut, none_ends, one_ends, quiet_keeps, request_lives, unasked_by}
use Rattle.run_laws.proofs.StayLemmas.{steps_stay}
use Rattle.run_laws.proofs.OrderLemmas.{more_run, more_state, run_event_out}
use Rattle.core_laws.specs.EndedRows.{is_over, last_of, one_if, EndedAreTold}

-- ---- tests

and_true : (b : Bool) → (b && true) ≡ b
and_true true = refl
and_true false = refl

and_false : (b : Bool) → (b && false) ≡ false
and_false true = refl
and_false false = refl

or_false : (b : Bool) → (b || false) ≡ b
or_false true = refl
or_false false = refl

same_test : (a b : Bool) → (a ≡ true → b ≡ true) → (b ≡ true → a ≡ true) → a ≡ b
same_test true b there back = sym (there refl)
same_test false true there back = back refl
same_test false false there back = refl

one_apart : (a b e : Bool) → (a && not (b || e)) ≡ ((a && not e) && not b)
one_apart true true true = refl
one_apart true true false = refl
one_apart true false true = refl
one_apart true false false = refl
one_apart false b e = refl

-- ---- the last of each

last_same : (f g : ℕ → Bool) → ((x : ℕ) → f x ≡ g x) → (os : List ObjId) → last_of f os ≡ last_of g os
last_same f g same [] = refl
last_same f g same (o ∷ os) =
    ap (λ (b : Bool). if b && not (list_any (is_numbered o.0) os) then o ∷ last_of f os else last_of f os) (same o.0)
    ∙ ap (λ (rest : List ObjId). if g o.0 && not (list_any (is_numbered o.0) os) then o ∷ rest else rest) (last_same f g same os)

-- but for this one
abbrev but : ℕ → (ℕ → Bool) → ℕ → Bool
but b f x = f x && not (x == b)

any_more : (x : ℕ) (o : ObjId) (os : List ObjId) → list_any (is_numbered x) (os ++ o ∷ []) ≡ (list_any (is_numbered x) os || x == o.0)
any_more x o os = list_any-append (is_numbered x) os (o ∷ []) ∙ ap (λ (b : Bool). list_any (is_numbered x) os || b) (or_false (x == o.0))

cut : (t : Bool) (x : ObjId) (xs ys : List ObjId) → (if t then x ∷ (xs ++ ys) else (xs ++ ys)) ≡ (if t then x ∷ xs else xs) ++ ys
cut true x xs ys = refl
cut false x xs ys = refl

last_more : (f : ℕ → Bool) (o : ObjId) (os : List ObjId) → last_of f (os ++ o ∷ []) ≡ last_of (but o.0 f) os ++ one_if (f o.0) o
last_more f o [] = ap (λ (b : Bool). one_if b o) (and_true (f o.0))
last_more f o (x ∷ os) =
    let rest = last_of (but o.0 f) os in
    let test : (f x.0 && not (list_any (is_numbered x.0) (os ++ o ∷ []))) ≡ (but o.0 f x.0 && not (list_any (is_numbered x.0) os)) =
    ap (λ (b : Bool). f x.0 && not b) (any_more x.0 o os) ∙ one_apart (f x.0) (list_any (is_numbered x.0) os) (x.0 == o.0) in
    ap (λ (b : Bool). if b then x ∷ last_of f (os ++ o ∷ []) else last_of f (os ++ o ∷ [])) test
    ∙ ap (λ (l : List ObjId). if but o.0 f x.0 && not (list_any (is_numbered x.0) os) then x ∷ l else l) (last_more f o os)
    ∙ cut (but o.0 f x.0 && not (list_any (is_numbered x.0) os)) x rest (one_if (f o.0) o)

-- ---- what an event tells

-- its object lived before it, and may end in it alone; or it has none, and none ends
data Tells (bs : List ObjId) (c d : Control) : Type 0 where
  tells_none : bs ≡ [] → Keeps c d → Tells bs c d
  tells_one : (o : ObjId) → bs ≡ o ∷ [] → has_ended (obj c.rows o.0).stage ≡ false → EventOut o.0 c d → Tells bs c d

quiet_answer : (reply : Reply) (req : Req) (h : Answers) (c : Control) → Keeps c (requested req h c) → Keeps c (answered req reply h c)
quiet_answer Done req h c k = k
quiet_answer (Object o) req h c k = k
quiet_answer (PairMade p) req h c k = k
quiet_answer (Both o p) req h c k = k
quiet_answer Wait req h c k = k
quiet_answer WasAsked req h c k = k
quiet_answer Before req h c k = itself c
quiet_answer (Refused refusal) req h c k = itself c

-- what the asking of the root is answered
abbrev is_roots : Reply → Bool
is_roots Done = false
is_roots (Object o) = false
is_roots (PairMade p) = false
is_roots (Both o p) = false
is_roots Wait = false
is_roots WasAsked = true
is_roots Before = true
is_roots (Refused refusal) = false

roots_answer : (c : Control) (reply : Reply) → reply ≡ reply_of c AskTerm → is_roots reply ≡ true
roots_answer c reply e = ap is_roots e ∙ by (root_asked c)
  where
    by : (b : Bool) → is_roots (if b then Before else WasAsked) ≡ true
    by true = refl
    by false = refl

asked_before : WasAsked ≡ Before → ⊥
asked_before e = Prim.grind arith

over_no_ask : {o : ObjId} → OutputOver o ≡ AskTerm → ⊥
over_no_ask e = Prim.grind arith

root_tells : (reply : Reply) (h : Answers) (c : Control) → reply ≡ reply_of c AskTerm → EventOut 0 c (answered AskTerm reply h c) → Tells (root_ender reply) c (answered AskTerm reply h c)
root_tells WasAsked h c e out = tells_one (id 0) refl (request_lives AskTerm c tt (unasked_by AskTerm WasAsked c e (λ f. asked_before f)) refl) out
root_tells Before h c e out = tells_none refl (itself c)
root_tells Done h c e out = absurd (never (roots_answer c Done e))
root_tells (Object o) h c e out = absurd (never (roots_answer c (Object o) e))
root_tells (PairMade p) h c e out = absurd (never (roots_answer c (PairMade p) e))
root_tells (Both o p) h c e out = absurd (never (roots_answer c (Both o p) e))
root_tells Wait h c e out = absurd (never (roots_answer c Wait e))
root_tells (Refused refusal) h c e out = tells_none refl (itself c)

asked_tells : (req : Req) (reply : Reply) (h : Answers) (c : Control) → MayAsk c req → reply ≡ reply_of c req → EventOut (asker_of req) c (answered req reply h c)
    → Tells (request_ender req reply) c (answered req reply h c)
asked_tells AskTerm reply h c may e out = root_tells reply h c e out
asked_tells (OutputOver o) reply h c may e out = tells_one o refl (request_lives (OutputOver o) c may (λ same. absurd (over_no_ask same)) refl) out
asked_tells (MakeSocket kind options) reply h c may e out = tells_none refl (quiet_answer reply (MakeSocket kind options) h c (quiet_keeps (MakeSocket kind options) h c refl))
asked_tells (Bind o at) reply h c may e out = tells_none refl (quiet_answer reply (Bind o at) h c (quiet_keeps (Bind o at) h c refl))
asked_tells (Connect o at) reply h c may e out = tells_none refl (quiet_answer reply (Connect o at) h c (quiet_keeps (Connect o at) h c refl))
asked_tells (Unbind o at) reply h c may e out = tells_none refl (quiet_answer reply (Unbind o at) h c (quiet_keeps (Unbind o at) h c refl))
asked_tells (Disconnect o at) reply h c may e out = tells_none refl (quiet_answer reply (Disconnect o at) h c (quiet_keeps (Disconnect o at) h c refl))
asked_tells (Close o) reply h c may e out = tells_none refl (quiet_answer reply (Close o) h c (quiet_keeps (Close o) h c refl))
asked_tells (Accepted o) reply h c may e out = tells_none refl (quiet_answer reply (Accepted o) h c (quiet_keeps (Accepted o) h c refl))
asked_tells (Shaken o peer) reply h c may e out = tells_none refl (quiet_answer reply (Shaken o peer) h c (quiet_keeps (Shaken o peer) h c refl))
asked_tells (AskEnd e why) reply h c may same out = tells_none refl (quiet_answer reply (AskEnd e why) h c (quiet_keeps (AskEnd e why) h c refl))
asked_tells (AskOver o) reply h c may e out = tells_none refl (quiet_answer reply (AskOver o) h c (quiet_keeps (AskOver o) h c refl))

event_tells : {N S : Type 0} (workers : ℕ) (past : List (Item N S)) (did : Did N S) → IsControlRun (begun workers) past → let c = after_all past (begun workers) in Fits c did → Tells (ender_of did) c (after did c)
event_tells workers past (DidAsk req reply h) run fits =
    asked_tells req reply (answers_in h) (after_all past (begun workers)) fits.may.0 fits.may.1 (run_event_out workers past (DidAsk req reply h) run fits)
event_tells workers past (Delivered slot letter h) run fits =
    tells_one letter.to refl (delivered_to_living _ _ workers past run slot.0 letter fits.may).lives (run_event_out workers past (Delivered slot letter h) run fits)
event_tells workers past (Delimited e h) run fits = tells_none refl (happens_keeps DelimiterSeen e (after_all past (begun workers)))

-- ---- one event

abbrev Stays : Control → Control → Type 0
Stays c d = (x : ℕ) → over c x ≡ true → over d x ≡ true

-- who is over was so, but for one that lived
but_one : (c d : Control) (o x : ℕ) → over c o ≡ false → ((x == o) ≡ false → over d x ≡ over c x) → but o (over d) x ≡ over c x
but_one c d o x none same = by (x == o) refl
  where
    by : (b : Bool) → (x == o) ≡ b → but o (over d) x ≡ over c x
    by true e = ap (λ (v : Bool). over d x && not v) e ∙ and_false (over d x) ∙ sym (ap (over c) (eqb-true x o e) ∙ none)
    by false e = ap (λ (v : Bool). over d x && not v) e ∙ and_true (over d x) ∙ same e

no_more : (c d : Control) (o : ObjId) (os : List ObjId) → over c o.0 ≡ false → ((x : ℕ) → (x == o.0) ≡ false → over d x ≡ over c x) → last_of (over d) (os ++ o ∷ []) ≡ last_of (over c) os ++ one_if (over d o.0) o
no_more c d o os none same =
    last_more (over d) o os ∙ ap (λ (l : List ObjId). l ++ one_if (over d o.0) o) (last_same (but o.0 (over d)) (over c) (λ x. but_one c d o.0 x none (same x)) os)

kept_over : (c d : Control) → Keeps c d → Stays c d → (x : ℕ) → over d x ≡ over c x
kept_over c d k stays x = same_test (over d x) (over c x) (k.lives x) (stays x)

one_next : (c d : Control) (o : ObjId) (os : List ObjId) → EventOut o.0 c d → over c o.0 ≡ false → Stays c d → c.ended ≡ last_of (over c) os → d.ended ≡ last_of (over d) (os ++ o ∷ [])
one_next c d o os (none_ends k) none stays is =
    let same = kept_over c d k stays in
    k.ended ∙ is ∙ sym (append-nil (last_of (over c) os)) ∙ ap (λ (b : Bool). last_of (over c) os ++ one_if b o) (sym (same o.0 ∙ none)) ∙ sym (no_more c d o os none (λ x _. same x))
one_next c d o os (one_ends e lives) none stays is =
    e.ended ∙ ap (λ (l : List ObjId). l ++ o ∷ []) is ∙ ap (λ (b : Bool). last_of (over c) os ++ one_if b o) (sym e.now)
    ∙ sym (no_more c d o os none (λ x other. same_test (over d x) (over c x) (e.lives x (λ at. never (sym other ∙ eq-eqb x o.0 at))) (stays x)))

next_ended : (c d : Control) (bs os : List ObjId) → Tells bs c d → Stays c d → c.ended ≡ last_of (over c) os → d.ended ≡ last_of (over d) (os ++ bs)
next_ended c d bs os (tells_none is k) stays so =
    k.ended ∙ so ∙ last_same (over c) (over d) (λ x. sym (kept_over c d k stays x)) os ∙ ap (last_of (over d)) (sym (append-nil os)) ∙ ap (λ (l : List ObjId). last_of (over d) (os ++ l)) (sym is)
next_ended c d bs os (tells_one o is lives out) stays so =
    one_next c d o os out (not_over c.rows.objects o.0 lives) stays so ∙ ap (λ (l : List ObjId). last_of (over d) (os ++ l)) (sym is)

-- ---- a run

abbrev AreTold : Control → List ObjId → Type 0
AreTold c os = c.ended ≡ last_of (over c) os

module _ {N S : Type 0} where
  run_told : (workers : ℕ) (events : List (Did N S)) (past : List (Item N S)) (os : List ObjId) → IsControlRun (begun workers) past → let c = after_all past (begun workers) in
      IsControlRun c (map as_item events) → AreTold c os → AreTold (after_all (map as_item events) c) (os ++ enders_in events)
  run_told workers [] past os before run is = is ∙ ap (last_of (over (after_all past (begun workers)))) (sym (append-nil os))
  run_told workers (did ∷ events) past os before run is =
      let c = after_all past (begun workers) in
      let d = after did c in
      let same : after_all (past ++ as_item did ∷ []) (begun workers) ≡ d = more_state past (as_item did) (begun workers) in
      let now : AreTold d (os ++ ender_of did) =
      next_ended c d (ender_of did) os (event_tells workers past did before run.0) (steps_stay c.rows d.rows (events_are_steps _ _ workers past before did run.0)) is in
      let rest : AreTold (after_all (map as_item events) d) ((os ++ ender_of did) ++ enders_in events) =
      subst (λ (e : Control). AreTold (after_all (map as_item events) e) ((os ++ ender_of did) ++ enders_in events)) same
      (run_told workers events (past ++ as_item did ∷ []) (os ++ ender_of did) (more_run past (as_item did) (begun workers) before run.0)
      (subst (λ (e : Control). IsControlRun e (map as_item events)) (sym same) run.1) (subst (λ (e : Control). AreTold e (os ++ ender_of did)) (sym same) now)) in
      rest ∙ ap (last_of (over (after_all (map as_item events) d))) (append_assoc os (ender_of did) (enders_in events))

over_so : (c : Control) (x : ℕ) → over c x ≡ is_over c x
over_so c x = same_test (over c x) (is_over c x)
    (λ h. and (nat_lt x (length c.rows.objects)) _ (lt-ltb x (length c.rows.objects) (over_there c.rows.objects x h)) (ended_is c.rows.objects x h))
    (λ h. rows.is_over c.rows.objects x (ltb-true x (length c.rows.objects) (left _ _ h)) (right (nat_lt x (length c.rows.objects)) _ h))

pub ended_are_told : (N S : Type 0) → EndedAreTold N S
ended_are_told N S workers events run =
    let c = after_all (map as_item events) (begun workers) in
    run_told workers events [] [] tt run refl ∙ last_same (over c) (is_over c) (over_so c) (enders_in events)
