-- Nobody has a socket between its close and its Reap.
use Rattle.std.specs.Prelude.{◌≡◌, ℕ, Bool, true, false, List, [], ◌∷◌, ◌++◌, Option, Some, None, if◌then◌else◌, refl}
use Rattle.std.proofs.Common.{arith, sym, ap, ◌∙◌, inl, inr}
use Rattle.std.proofs.lemmas.Bool.{eqb-true}
use Rattle.std.proofs.lemmas.List.{get_or_past, get_or-set_same}
use Rattle.zq_base.specs.declared.ids.ObjId.{ObjId}
use Rattle.zq_base.specs.declared.ids.SlotId.{SlotId}
use Rattle.spec_control.specs.declared.letter.Word.{Word}
use Rattle.spec_control.specs.declared.letter.Word.TheVariants.{Own, Plug, TermReq, Term, TermAck, PipeBind, PipeTerm, PipeTermAck, Stop, Reap}
use Rattle.spec_control.specs.declared.entry.Answered.{Answered}
use Rattle.spec_control.specs.declared.entry.Did.{Did}
use Rattle.spec_control.specs.declared.entry.Did.TheVariants.{Asked, Delivered, Delimited}
use Rattle.spec_control.specs.declared.entry.Item.{Item}
use Rattle.spec_control.specs.declared.entry.Item.TheVariants.{Event, Seen}
use Rattle.spec_control.specs.declared.request.Refusal.TheVariants.{Term as IsTerm, TooMany}
use Rattle.spec_control.specs.declared.request.Req.{Req}
use Rattle.spec_control.specs.declared.request.Req.TheVariants.{Socket as MakeSocket, AskTerm, Bind, Connect, Unbind, Disconnect, Close, Accepted, Shaken, AskEnd, AskOver, OutputOver}
use Rattle.spec_control.specs.declared.request.Reply.{Reply}
use Rattle.spec_control.specs.declared.request.Reply.TheVariants.{Object, Both}
use Rattle.spec_control.specs.Stage.{has_ended}
use Rattle.spec_control.specs.Row.{Row, nobody, AsksOver, ReapComes, link_after, is_socket}
use Rattle.spec_control.specs.Rows.{obj, is_owner}
use Rattle.spec_control.specs.Control.{Control, id, next_object, next_pair}
use Rattle.spec_control.specs.After.{after}
use Rattle.spec_control.specs.ControlRun.{Fits, after_all, is_between, IsControlRun}
use Rattle.spec_control.specs.Reply.{unless}
use Rattle.spec_control.specs.Has.{made_by, taken_in, given_up, has_then, has_over}
use Rattle.control_laws.proofs.ListLemmas.{never, placed}
use Rattle.control_laws.specs.Kept.{Kept}
use Rattle.control_laws.proofs.RunLemmas.{after_kept}
use Rattle.control_laws.proofs.GuardLemmas.{may_come}
use Rattle.control_laws.proofs.SoundLemmas.{link_there}
use Rattle.control_laws.proofs.BetweenLemmas.{between_back}
use Rattle.control_laws.proofs.HeldEventLemmas.{closes, asked_closes, word_closes}
use Rattle.control_laws.proofs.LawLemmas.{owned_by, no_and, no_socket, heard_not, made_none}

none_some : {y : ℕ} → None ≡ Some y → ⊥
none_some f = Prim.grind arith

some_is : {x y : ℕ} → Some x ≡ Some y → x ≡ y
some_is f = Prim.grind arith

clash : {b : Bool} → b ≡ true → b ≡ false → ⊥
clash h k = never (sym k ∙ h)

-- an answer that names an object names one that there was not before
made_new : (n : ℕ) (a b : Bool) (i : ℕ) → made_by (unless a IsTerm (unless b TooMany (Object (id n)))) ≡ Some i → n ≡ i
made_new n true b i e = absurd (none_some e)
made_new n false true i e = absurd (none_some e)
made_new n false false i e = some_is e

both_new : (n k : ℕ) (a : Bool) (i : ℕ) → made_by (unless a TooMany (Both (id n) (record { 0 = k }))) ≡ Some i → n ≡ i
both_new n k true i e = absurd (none_some e)
both_new n k false i e = some_is e

fresh_not : (c : Control) (i : ℕ) → next_object c ≡ i → is_between (obj c.rows i) ≡ false
fresh_not c i e = ap is_between (get_or_past c.rows.objects i nobody (omega (arith, e)))

module _ {N S : Type 0} (c : Control) (kept : Kept c) (i b : ℕ) (had : Option ℕ) (nobody_has : is_between (obj c.rows i) ≡ true → had ≡ None) where
  -- it was so before, and the object is not taken in
  goes_on : (did : Did N S) → is_between (obj c.rows i) ≡ true → (taken_in did ≡ Some i → ⊥) → (if is_owner i (taken_in did) then Some b else (if is_owner i (given_up did) then None else had)) ≡ None
  goes_on did was free = by (is_owner i (taken_in did)) refl
    where
      rest : (g : Bool) → (if g then None else had) ≡ None
      rest true = refl
      rest false = nobody_has was

      by : (t : Bool) → is_owner i (taken_in did) ≡ t → (if t then Some b else (if is_owner i (given_up did) then None else had)) ≡ None
      by true e = absurd (free (owned_by i (taken_in did) e))
      by false e = rest (is_owner i (given_up did))

  asked_free : (req : Req) (reply : Reply) (h : Answered N S) → Fits c (Asked req reply h) → is_between (obj c.rows i) ≡ true → taken_in (Asked req reply h) ≡ Some i → ⊥
  asked_free (MakeSocket kind options) reply h fits was e = clash was (fresh_not c i (made_new (next_object c) _ _ i (ap made_by (sym fits.may.1) ∙ e)))
  asked_free AskTerm reply h fits was e = none_some e
  asked_free (Bind o at) reply h fits was e = none_some e
  asked_free (Connect o at) reply h fits was e = none_some e
  asked_free (Unbind o at) reply h fits was e = none_some e
  asked_free (Disconnect o at) reply h fits was e = none_some e
  asked_free (Close o) reply h fits was e = none_some e
  asked_free (Accepted o) reply h fits was e = clash was (fresh_not c i (both_new (next_object c) (next_pair c) _ i (ap made_by (sym fits.may.1) ∙ e)))
  asked_free (Shaken o peer) reply h fits was e = none_some e
  asked_free (AskEnd d reason) reply h fits was e = none_some e
  asked_free (AskOver o) reply h fits was e = none_some e
  asked_free (OutputOver o) reply h fits was e = none_some e

  -- an asking to end of a listener or session leaves it no closed socket
  over_free : (o : ObjId) (reply : Reply) (h : Answered N S) → Fits c (Asked (AskOver o) reply h) → o.0 ≡ i → is_between (obj (after (Asked (AskOver o) reply h) c).rows i) ≡ false
  over_free o reply h fits same =
      let row = link_after AsksOver (obj c.rows o.0) in
      let there = placed (λ (r : Row). has_ended r.stage) c.rows.objects nobody o.0 refl fits.may.0.taken_in.lives in
      ap (λ (n : ℕ). is_between (obj (after (Asked (AskOver o) reply h) c).rows n)) (sym same)
      ∙ ap (λ (r : Reply). is_between (obj (after (Asked (AskOver o) r h) c).rows o.0)) fits.may.1
      ∙ ap is_between (get_or-set_same c.rows.objects o.0 row nobody there)
      ∙ no_socket row fits.may.0.no_socket

  reap_free : (slot : SlotId) (to socket : ObjId) (h : Answered N S) → Fits c (Delivered slot (record { to = to; word = Reap socket }) h) → socket.0 ≡ i → is_between (obj (after (Delivered slot (record { to = to; word = Reap socket }) h) c).rows i) ≡ false
  reap_free slot to socket h fits same =
      let row = link_after ReapComes (obj c.rows socket.0) in
      let comes = (may_come c kept slot.0 fits.may.behind to.0 (Reap socket) fits.may.oldest).comes in
      ap (λ (n : ℕ). is_between (obj (after (Delivered slot (record { to = to; word = Reap socket }) h) c).rows n)) (sym same)
      ∙ ap is_between (get_or-set_same c.rows.objects socket.0 row nobody (link_there c.rows socket.0 ReapComes comes))
      ∙ no_and (is_socket (obj c.rows socket.0).kind)

  word_free : (slot : SlotId) (to : ObjId) (word : Word) (h : Answered N S) → Fits c (Delivered slot (record { to = to; word = word }) h) → is_between (obj c.rows i) ≡ true → is_between (obj (after (Delivered slot (record { to = to; word = word }) h) c).rows i) ≡ true →
      taken_in (Delivered slot (record { to = to; word = word }) h) ≡ Some i → ⊥
  word_free slot to (Own child) h fits was now e = none_some e
  word_free slot to (Plug end) h fits was now e = clash was (heard_not c kept slot.0 i (record { to = to; word = Plug end }) fits.may (some_is e))
  word_free slot to (TermReq child) h fits was now e = none_some e
  word_free slot to Term h fits was now e = none_some e
  word_free slot to (TermAck child) h fits was now e = none_some e
  word_free slot to (PipeBind end peer) h fits was now e = none_some e
  word_free slot to (PipeTerm end) h fits was now e = none_some e
  word_free slot to (PipeTermAck end) h fits was now e = none_some e
  word_free slot to Stop h fits was now e = none_some e
  word_free slot to (Reap socket) h fits was now e = clash now (reap_free slot to socket h fits (some_is e))

  closing : (req : Req) (reply : Reply) (h : Answered N S) → Fits c (Asked req reply h) → closes i req ≡ true → is_between (obj (after (Asked req reply h) c).rows i) ≡ true →
      has_then i (Event (record { by = b; did = Asked req reply h })) had ≡ None
  closing (MakeSocket kind options) reply h fits any now = absurd (never any)
  closing AskTerm reply h fits any now = absurd (never any)
  closing (Bind o at) reply h fits any now = absurd (never any)
  closing (Connect o at) reply h fits any now = absurd (never any)
  closing (Unbind o at) reply h fits any now = absurd (never any)
  closing (Disconnect o at) reply h fits any now = absurd (never any)
  closing (Close o) reply h fits any now = ap (λ (g : Bool). if g then None else had) any
  closing (Accepted o) reply h fits any now = absurd (never any)
  closing (Shaken o peer) reply h fits any now = absurd (never any)
  closing (AskEnd d reason) reply h fits any now = absurd (never any)
  closing (AskOver o) reply h fits any now = absurd (clash now (over_free o reply h fits (eqb-true o.0 i any)))
  closing (OutputOver o) reply h fits any now = absurd (never any)

  pub nobody_then : (did : Did N S) → Fits c did → is_between (obj (after did c).rows i) ≡ true → has_then i (Event (record { by = b; did = did })) had ≡ None
  nobody_then (Asked req reply h) fits now =
      elim (between_back c (Asked req reply h) kept fits (made_none c kept (Asked req reply h)) i now) [
        | inl was ↦ goes_on (Asked req reply h) was (asked_free req reply h fits was)
        | inr any ↦ closing req reply h fits (asked_closes i c req reply any) now
      ]
  nobody_then (Delivered slot letter h) fits now =
      elim (between_back c (Delivered slot letter h) kept fits (made_none c kept (Delivered slot letter h)) i now) [
        | inl was ↦ goes_on (Delivered slot letter h) was (word_free slot letter.to letter.word h fits was now)
        | inr any ↦ absurd (never (sym (word_closes i letter.to.0 letter.word) ∙ any))
      ]
  nobody_then (Delimited d h) fits now =
      elim (between_back c (Delimited d h) kept fits (made_none c kept (Delimited d h)) i now) [
        | inl was ↦ nobody_has was
        | inr any ↦ absurd (never any)
      ]

module _ {N S : Type 0} where
  has_snoc : (i : ℕ) (had : Option ℕ) (past : List (Item N S)) (item : Item N S) → has_over i had (past ++ item ∷ []) ≡ has_then i item (has_over i had past)
  has_snoc i had [] item = refl
  has_snoc i had (x ∷ past) item = has_snoc i (has_then i x had) past item

  pub nobody_over : (i : ℕ) (items : List (Item N S)) (c : Control) (had : Option ℕ) → Kept c → IsControlRun c items → (is_between (obj c.rows i) ≡ true → had ≡ None) → is_between (obj (after_all items c).rows i) ≡ true → has_over i had items ≡ None
  nobody_over i [] c had kept run so between = so between
  nobody_over i (Event entry ∷ items) c had kept run so between =
      nobody_over i items (after entry.did c) (has_then i (Event entry) had) (after_kept c entry.did kept run.0) run.1 (nobody_then c kept i entry.by had so entry.did run.0) between
  nobody_over i (Seen sight ∷ items) c had kept run so between = nobody_over i items c had kept run.1 so between
