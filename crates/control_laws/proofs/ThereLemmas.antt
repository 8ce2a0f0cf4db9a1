-- Who has an object has one that was made.
use Rattle.std.specs.Prelude.{◌≡◌, ◌<◌, ◌++◌, ℕ, Bool, true, false, List, [], ◌∷◌, Option, Some, None, if◌then◌else◌, length, refl}
use Rattle.std.proofs.Common.{arith, sym, ap, ◌∙◌, subst, length-append}
use Rattle.zq_base.specs.declared.ids.ObjId.{ObjId}
use Rattle.zq_base.specs.declared.ids.SlotId.{SlotId}
use Rattle.spec_control.specs.declared.letter.Word.{Word}
use Rattle.spec_control.specs.declared.letter.Word.TheVariants.{Own, Plug, TermReq, Term, TermAck, PipeBind, PipeTerm, PipeTermAck, Stop, Reap}
use Rattle.spec_control.specs.declared.entry.Answered.{Answered}
use Rattle.spec_control.specs.declared.request.Req.{Req}
use Rattle.spec_control.specs.declared.request.Req.TheVariants.{Socket as MakeSocket, AskTerm, Bind, Connect, Unbind, Disconnect, Close, Accepted, Shaken, AskEnd, AskOver, OutputOver}
use Rattle.spec_control.specs.declared.request.Reply.{Reply}
use Rattle.spec_control.specs.declared.request.Reply.TheVariants.{Done, Object, Pair, Both, Wait, Asked as WasAsked, Before, Refused}
use Rattle.spec_control.specs.declared.request.Refusal.TheVariants.{TooMany}
use Rattle.spec_control.specs.declared.entry.Did.{Did}
use Rattle.spec_control.specs.declared.entry.Did.TheVariants.{Asked, Delivered, Delimited}
use Rattle.spec_control.specs.declared.entry.Item.{Item}
use Rattle.spec_control.specs.declared.entry.Item.TheVariants.{Event, Seen}
use Rattle.spec_control.specs.Stage.{has_ended}
use Rattle.spec_control.specs.Row.{Row, nobody, ReapComes}
use Rattle.spec_control.specs.Rows.{Rows, is_owner}
use Rattle.spec_control.specs.Control.{Control, begun, id, next_object, next_pair}
use Rattle.spec_control.specs.After.{after, socket_row, accepted_row}
use Rattle.spec_control.specs.ControlRun.{Fits, IsControlRun, after_all}
use Rattle.spec_control.specs.Reply.{unless}
use Rattle.spec_control.specs.Has.{made_by, taken_by_request, taken_by_word, taken_in, given_up, has_then, has_over}
use Rattle.control_laws.proofs.ListLemmas.{placed}
use Rattle.control_laws.specs.Kept.{Kept}
use Rattle.control_laws.proofs.RootLemmas.{begun_kept, oldest_lives}
use Rattle.control_laws.proofs.RunLemmas.{after_kept}
use Rattle.control_laws.specs.OwnMoves.{having_taken}
use Rattle.control_laws.proofs.EventGoLemmas.{event_goes}
use Rattle.control_laws.proofs.GuardLemmas.{may_come}
use Rattle.control_laws.proofs.SoundLemmas.{leads_stay, link_there}
use Rattle.control_laws.proofs.WeighLemmas.{taken_rows}
use Rattle.control_laws.specs.SocketLaws.{HadObjectsAreThere}
use Rattle.control_laws.proofs.HeldOpenLemmas.{made_new, none_some, owned_by, some_is}

pub both_new : (n k : ℕ) (a : Bool) (i : ℕ) → made_by (unless a TooMany (Both (id n) (record { 0 = k }))) ≡ Some i → n ≡ i
both_new n k true i e = absurd (none_some e)
both_new n k false i e = some_is e

-- an event takes no object away
pub event_there : {N S : Type 0} (c : Control) (did : Did N S) → Kept c → Fits c did → (i : ℕ) → i < next_object c → i < next_object (after did c)
event_there c did kept fits i there =
    let g = event_goes c did kept fits in
    (leads_stay g.moves (having_taken did c).rows (having_taken did c).boxes (after did c) i g.leads (subst (λ (r : Rows). i < length r.objects) (sym (taken_rows did c)) there)).there

more : {X : Type 0} (xs : List X) (x : X) (i : ℕ) → length xs ≡ i → i < length (xs ++ x ∷ [])
more xs x i at = let many = length-append xs (x ∷ []) in omega (arith, many, at)

module _ {N S : Type 0} (c : Control) (kept : Kept c) (i : ℕ) where
  made_there : (req : Req) (reply : Reply) (h : Answered N S) → Fits c (Asked req reply h) → taken_by_request req reply ≡ Some i → i < next_object (after (Asked req reply h) c)
  made_there (MakeSocket kind options) reply h fits e = by reply e (made_new (next_object c) _ _ i (ap made_by (sym fits.may.1) ∙ e))
    where
      by : (reply : Reply) → made_by reply ≡ Some i → next_object c ≡ i → i < next_object (after (Asked (MakeSocket kind options) reply h) c)
      by Done e at = absurd (none_some e)
      by (Object o) e at = more c.rows.objects (socket_row kind options c) i at
      by (Pair p) e at = absurd (none_some e)
      by (Both o p) e at = more c.rows.objects (socket_row kind options c) i at
      by Wait e at = absurd (none_some e)
      by WasAsked e at = absurd (none_some e)
      by Before e at = absurd (none_some e)
      by (Refused refusal) e at = absurd (none_some e)
  made_there AskTerm reply h fits e = absurd (none_some e)
  made_there (Bind o at) reply h fits e = absurd (none_some e)
  made_there (Connect o at) reply h fits e = absurd (none_some e)
  made_there (Unbind o at) reply h fits e = absurd (none_some e)
  made_there (Disconnect o at) reply h fits e = absurd (none_some e)
  made_there (Close o) reply h fits e = absurd (none_some e)
  made_there (Accepted o) reply h fits e = by reply e (both_new (next_object c) (next_pair c) _ i (ap made_by (sym fits.may.1) ∙ e))
    where
      by : (reply : Reply) → made_by reply ≡ Some i → next_object c ≡ i → i < next_object (after (Asked (Accepted o) reply h) c)
      by Done e at = absurd (none_some e)
      by (Object p) e at = more c.rows.objects (accepted_row o.0 c) i at
      by (Pair p) e at = absurd (none_some e)
      by (Both p q) e at = more c.rows.objects (accepted_row o.0 c) i at
      by Wait e at = absurd (none_some e)
      by WasAsked e at = absurd (none_some e)
      by Before e at = absurd (none_some e)
      by (Refused refusal) e at = absurd (none_some e)
  made_there (Shaken o peer) reply h fits e = absurd (none_some e)
  made_there (AskEnd d reason) reply h fits e = absurd (none_some e)
  made_there (AskOver o) reply h fits e = absurd (none_some e)
  made_there (OutputOver o) reply h fits e = absurd (none_some e)

  word_there : (slot : SlotId) (to : ObjId) (word : Word) (h : Answered N S) → Fits c (Delivered slot (record { to = to; word = word }) h) → taken_by_word to.0 word ≡ Some i → i < next_object c
  word_there slot to (Own child) h fits e = absurd (none_some e)
  word_there slot to (Plug end) h fits e =
      subst (λ (n : ℕ). n < next_object c) (some_is e)
      (placed (λ (o : Row). has_ended o.stage) c.rows.objects nobody to.0 refl (oldest_lives c kept slot.0 to.0 (Plug end) fits.may.behind fits.may.oldest).1)
  word_there slot to (TermReq child) h fits e = absurd (none_some e)
  word_there slot to Term h fits e = absurd (none_some e)
  word_there slot to (TermAck child) h fits e = absurd (none_some e)
  word_there slot to (PipeBind end peer) h fits e = absurd (none_some e)
  word_there slot to (PipeTerm end) h fits e = absurd (none_some e)
  word_there slot to (PipeTermAck end) h fits e = absurd (none_some e)
  word_there slot to Stop h fits e = absurd (none_some e)
  word_there slot to (Reap socket) h fits e =
      let comes = may_come c kept slot.0 fits.may.behind to.0 (Reap socket) fits.may.oldest in
      subst (λ (n : ℕ). n < next_object c) (some_is e) (link_there c.rows socket.0 ReapComes comes.comes)

  -- an object that is taken in was made
  pub taken_there : (did : Did N S) → Fits c did → taken_in did ≡ Some i → i < next_object (after did c)
  taken_there (Asked req reply h) fits e = made_there req reply h fits e
  taken_there (Delivered slot letter h) fits e = event_there c (Delivered slot letter h) kept fits i (word_there slot letter.to letter.word h fits e)
  taken_there (Delimited d h) fits e = absurd (none_some e)

  -- so is one that somebody has then
  pub then_there : (did : Did N S) (b : ℕ) (had : Option ℕ) → Fits c did → ((k : ℕ) → had ≡ Some k → i < next_object c) → (k : ℕ) → has_then i (Event (record { by = b; did = did })) had ≡ Some k → i < next_object (after did c)
  then_there did b had fits so k e = by (is_owner i (taken_in did)) refl
    where
      rest : (g : Bool) → (if g then None else had) ≡ Some k → i < next_object (after did c)
      rest true x = absurd (none_some x)
      rest false x = event_there c did kept fits i (so k x)

      by : (t : Bool) → is_owner i (taken_in did) ≡ t → i < next_object (after did c)
      by true t = taken_there did fits (owned_by i (taken_in did) t)
      by false t = rest (is_owner i (given_up did)) (sym (ap (λ (x : Bool). if x then Some b else (if is_owner i (given_up did) then None else had)) t) ∙ e)

module _ {N S : Type 0} (i : ℕ) where
  has_there : (items : List (Item N S)) (c : Control) (had : Option ℕ) → Kept c → IsControlRun c items → ((k : ℕ) → had ≡ Some k → i < next_object c) → (k : ℕ) → has_over i had items ≡ Some k → i < next_object (after_all items c)
  has_there [] c had kept run so k e = so k e
  has_there (Event entry ∷ items) c had kept run so k e =
      has_there items (after entry.did c) (has_then i (Event entry) had) (after_kept c entry.did kept run.0) run.1 (then_there c kept i entry.did entry.by had run.0 so) k e
  has_there (Seen sight ∷ items) c had kept run so k e = has_there items c had kept run.1 so k e

pub had_objects_are_there : (N S : Type 0) → HadObjectsAreThere N S
had_objects_are_there N S workers items run i k e = has_there i items (begun workers) None (begun_kept workers) run (λ j x. absurd (none_some x)) k e
