-- Each event leaves the same where counts are left out before it and behind it.
use Rattle.std.specs.Prelude.{◌≡◌, ℕ, Bool, true, false, not, List, [], ◌∷◌, ◌++◌, Option, Some, None, is_some, length, filter, map, refl}
use Rattle.std.proofs.Common.{sym, ap, ◌∙◌}
use Rattle.zq_base.specs.declared.ids.Settled.{Settled}
use Rattle.zq_base.specs.declared.endpoint.Endpoint.{Endpoint}
use Rattle.zq_base.specs.declared.endpoint.Endpoint.TheVariants.{Inproc, Tcp}
use Rattle.zq_base.specs.declared.ids.ObjId.{ObjId}
use Rattle.zq_base.specs.declared.ids.EndId.{EndId}
use Rattle.zq_base.specs.declared.attached.Attached.{Attached}
use Rattle.spec_control.specs.declared.end.EndEvent.TheVariants.{DelimiterSeen}
use Rattle.spec_control.specs.declared.letter.Word.{Word}
use Rattle.spec_control.specs.declared.letter.Word.TheVariants.{Own, Plug, PipeBind, Reap}
use Rattle.spec_control.specs.declared.request.Req.{Req}
use Rattle.spec_control.specs.declared.request.Req.TheVariants.{Socket as MakeSocket, AskTerm, Bind, Connect, Unbind, Disconnect, Close, Accepted, Shaken, AskEnd, AskOver, OutputOver}
use Rattle.spec_control.specs.declared.request.Reply.{Reply}
use Rattle.spec_control.specs.declared.request.Reply.TheVariants.{Done, Object, Pair as PairMade, Both, Wait, Asked as WasAsked, Before, Refused}
use Rattle.spec_control.specs.declared.entry.Answered.{Answered}
use Rattle.spec_control.specs.declared.entry.Did.{Did}
use Rattle.spec_control.specs.declared.entry.Did.TheVariants.{Delivered}
use Rattle.spec_control.specs.Hold.{Bound, Joined, is_bind_to, is_connect_to}
use Rattle.spec_control.specs.EndpointBook.{is_fulfilled}
use Rattle.spec_control.specs.Register.{fulfilled_by, waiting_now}
use Rattle.spec_control.specs.Row.{RootAsked}
use Rattle.spec_control.specs.Rows.{obj}
use Rattle.spec_control.specs.Control.{Control, Settlement, id, end_of, next_object, next_pair, put, makes, draws, open_pair, owner_of, link, stop_sockets, happens, ask, greet, try_end}
use Rattle.spec_control.specs.After.{Answers, answers_in, with_hold, named, binding_by, binds, connects, session_row, pair_or_none, uses_reason, requested, answered, settle, without_front, processed, after}
use Rattle.replay_laws.specs.Blank.{no_counts, uncounted, blank, AnswerAlike, AreAlike, asked, delivered, delimited}
use Rattle.replay_laws.proofs.EraseLemmas as small

-- answers without counts
abbrev bare : Option Settled → Option Settled
bare None = None
bare (Some counts) = Some no_counts

abbrev bare_answers : Answers → Answers
bare_answers h = record h { counts = bare h.counts }

abbrev no_settled : List Settlement → List Settlement
no_settled xs = map uncounted xs

abbrev same : {A : Type 0} → A → A
same x = x

tried : (i : ℕ) (left : Bool) (c : Control) → blank (try_end i left c) ≡ try_end i left (blank c)
tried = small.tried same same same no_settled bare

greeted : (kind : Attached) (e : EndId) (c : Control) → blank (greet kind e c) ≡ greet kind e (blank c)
greeted = small.greeted same same same no_settled bare

bound : (h : Answers) (i : ℕ) (at : Endpoint) (c : Control) → blank (binds i at h c) ≡ binds i at (bare_answers h) (blank c)
bound h i (Inproc name) c =
    let at : Endpoint = Inproc name in
    let held : Control = with_hold i (Bound at None) (named i at (binding_by i c) c) in
    small.fulfilled same same same no_settled bare h i at (fulfilled_by at (binding_by i c) c.names)
    (record held { names = waiting_now (filter (λ w. not (is_fulfilled at (binding_by i c) w)) held.names.waiting) held.names })
bound h i (Tcp address) c = refl

connected : (h : Answers) (i : ℕ) (at : Endpoint) (c : Control) → blank (connects i at h c) ≡ connects i at (bare_answers h) (blank c)
connected h i (Inproc name) c = small.connected_to same same same no_settled bare h i (Inproc name) (c.names.held (Inproc name)) c
connected h i (Tcp address) c =
    let at : Endpoint = Tcp address in
    let child : ℕ = next_object c in
    let mine : EndId = end_of (next_pair c) true in
    let made : Control = draws i child (makes (session_row i c) (with_hold i (Joined at (next_pair c) (Some child)) c)) in
    greeted (h.kind mine) mine (open_pair mine (Plug (Some (end_of (next_pair c) false))) (put i (Own (id child)) made))

was_requested : (req : Req) (h : Answers) (c : Control) → blank (requested req h c) ≡ requested req (bare_answers h) (blank c)
was_requested (MakeSocket kind options) h c = refl
was_requested AskTerm h c = tried 0 h.left (stop_sockets (length c.rows.objects) (link RootAsked 0 c)) ∙ ap (try_end 0 h.left) (small.stopped same same same no_settled bare (length c.rows.objects) (link RootAsked 0 c))
was_requested (Bind o at) h c = bound h o.0 at c
was_requested (Connect o at) h c = connected h o.0 at c
was_requested (Unbind o at) h c = small.struck_first same same same no_settled bare o.0 at (is_bind_to at) c
was_requested (Disconnect o at) h c = small.struck_first same same same no_settled bare o.0 at (is_connect_to at) c
was_requested (Close o) h c = refl
was_requested (Accepted o) h c = refl
was_requested (Shaken o peer) h c =
    let mine : EndId = end_of (pair_or_none (obj c.rows o.0).pair) true in
    greeted (h.kind mine) mine (open_pair mine (PipeBind (end_of mine.pair.0 false) peer.identity) c)
was_requested (AskEnd e reason) h c = small.asked_one same same same no_settled bare reason false e (uses_reason reason (owner_of c e) c) ∙ ap (ask reason false e) (small.used_reason same same same no_settled bare reason (owner_of c e) c)
was_requested (AskOver o) h c = refl
was_requested (OutputOver o) h c = tried o.0 h.left c

was_answered : (req : Req) (reply : Reply) (h : Answers) (c : Control) → blank (answered req reply h c) ≡ answered req reply (bare_answers h) (blank c)
was_answered req Done h c = was_requested req h c
was_answered req (Object o) h c = was_requested req h c
was_answered req (PairMade p) h c = was_requested req h c
was_answered req (Both o p) h c = was_requested req h c
was_answered req Wait h c = was_requested req h c
was_answered req WasAsked h c = was_requested req h c
was_answered req Before h c = refl
was_answered req (Refused refusal) h c = refl

-- ---- commands

map_push : (xs : List Settlement) (s : Settlement) → map uncounted (xs ++ s ∷ []) ≡ map uncounted xs ++ uncounted s ∷ []
map_push [] s = refl
map_push (x ∷ xs) s = ap (λ (l : List Settlement). uncounted x ∷ l) (map_push xs s)

was_settled : (e : EndId) (counts : Option Settled) (c : Control) → blank (settle e counts c) ≡ settle e (bare counts) (blank c)
was_settled e None c = refl
was_settled e (Some counts) c =
    ap (λ (l : List Settlement). record c { settlements = l }) (map_push c.settlements (record { end = e; counts = counts; reason = c.reasons e }))

was_processed : (at : ℕ) (word : Word) (h : Answers) (c : Control) → blank (processed at word h c) ≡ processed at word (bare_answers h) (blank c)
was_processed = small.was_processed same same same no_settled bare was_settled

-- ---- two events that are alike

alike_bare : (g h : Option Settled) → is_some g ≡ is_some h → bare g ≡ bare h
alike_bare None None e = refl
alike_bare None (Some x) e = cc
alike_bare (Some x) None e = cc
alike_bare (Some x) (Some y) e = refl

same_answers : {N S : Type 0} (g h : Answered N S) → AnswerAlike g h → bare_answers (answers_in g) ≡ bare_answers (answers_in h)
same_answers g h alike = λ i. record { kind = λ e. alike.kinds e i; counts = alike_bare g.settled h.settled alike.settled i; left = alike.left i }

pub counts_are_not_read : {N S : Type 0} (did other : Did N S) (c d : Control) → AreAlike did other → blank c ≡ blank d → blank (after did c) ≡ blank (after other d)
counts_are_not_read did other c d (asked req reply g h one two alike) states =
    ap (λ x. blank (after x c)) one ∙ was_answered req reply (answers_in g) c
    ∙ ap (λ x. answered req reply x (blank c)) (same_answers g h alike) ∙ ap (answered req reply (bare_answers (answers_in h))) states
    ∙ sym (ap (λ x. blank (after x d)) two ∙ was_answered req reply (answers_in h) d)
counts_are_not_read did other c d (delivered slot letter g h one two alike) states =
    ap (λ x. blank (after x c)) one ∙ was_processed letter.to.0 letter.word (answers_in g) (without_front slot c)
    ∙ ap (λ x. processed letter.to.0 letter.word x (without_front slot (blank c))) (same_answers g h alike)
    ∙ ap (λ (x : Control). processed letter.to.0 letter.word (bare_answers (answers_in h)) (without_front slot x)) states
    ∙ sym (ap (λ x. blank (after x d)) two ∙ was_processed letter.to.0 letter.word (answers_in h) (without_front slot d))
counts_are_not_read did other c d (delimited e g h one two) states =
    ap (λ x. blank (after x c)) one ∙ small.happened same same same no_settled bare DelimiterSeen e c ∙ ap (happens DelimiterSeen e) states
    ∙ sym (ap (λ x. blank (after x d)) two ∙ small.happened same same same no_settled bare DelimiterSeen e d)

-- a Reap joins ends whose answers nothing is done by
pub reaped_alike : {N S : Type 0} (slot : ℕ) (to socket : ObjId) (g h : Answered N S) (c d : Control) → blank c ≡ blank d
    → blank (after (Delivered (record { 0 = slot }) (record { to = to; word = Reap socket }) g) c) ≡ blank (after (Delivered (record { 0 = slot }) (record { to = to; word = Reap socket }) h) d)
reaped_alike slot to socket g h c d states =
    was_processed to.0 (Reap socket) (answers_in g) (without_front slot c)
    ∙ ap (λ (x : Control). processed to.0 (Reap socket) (bare_answers (answers_in h)) (without_front slot x)) states
    ∙ sym (was_processed to.0 (Reap socket) (answers_in h) (without_front slot d))
