-- The ends that are read off the items are those that are there.
use Rattle.std.specs.Prelude.{◌≡◌, ◌<◌, ◌==◌, ◌&&◌, ◌||◌, ℕ, zero, suc, Bool, true, false, not, List, [], ◌∷◌, ◌++◌, Option, Some, None, All, filter, length, slice_index_or, refl}
use Rattle.std.specs.List.{list_any}
use Rattle.std.proofs.Common.{arith, sym, ap, ◌∙◌, inl, inr}
use Rattle.std.proofs.lemmas.Bool.{eq-eqb, eqb-true}
use Rattle.std.proofs.lemmas.List.Elements.{All-weaker, All-filter, filter_passes}
use Rattle.zq_base.specs.declared.ids.EndId.{EndId}
use Rattle.zq_base.specs.declared.ids.ObjId.{ObjId}
use Rattle.zq_base.specs.declared.ids.SlotId.{SlotId}
use Rattle.spec_control.specs.declared.letter.Letter.{Letter}
use Rattle.spec_control.specs.declared.letter.Word.{Word}
use Rattle.spec_control.specs.declared.letter.Word.TheVariants.{Own, Plug, TermReq, Term, TermAck, PipeBind, PipeTerm, PipeTermAck, Stop, Reap}
use Rattle.spec_control.specs.declared.entry.Answered.{Answered}
use Rattle.spec_control.specs.declared.entry.Did.{Did}
use Rattle.spec_control.specs.declared.entry.Did.TheVariants.{Asked as DidAsk, Delivered, Delimited}
use Rattle.spec_control.specs.declared.request.Req.{Req}
use Rattle.spec_control.specs.declared.request.Req.TheVariants.{Socket as MakeSocket, AskTerm, Bind, Connect, Unbind, Disconnect, Close, Accepted, Shaken, AskEnd, AskOver, OutputOver}
use Rattle.spec_control.specs.declared.stage.Use.{Use}
use Rattle.spec_control.specs.declared.object.ObjKind.{ObjKind}
use Rattle.spec_control.specs.declared.object.ObjKind.TheVariants.{Root, Socket, Listener, Session}
use Rattle.spec_control.specs.Stage.{is_coming}
use Rattle.spec_control.specs.Place.{is_here}
use Rattle.spec_control.specs.Row.{Row, nobody, is_socket, is_listener, is_session}
use Rattle.spec_control.specs.Rows.{obj, is_owner}
use Rattle.spec_control.specs.Control.{Control, is_end, owner_of, place_of}
use Rattle.spec_control.specs.After.{after}
use Rattle.spec_control.specs.ControlRun.{Fits, IsOpenSocket, MayDeliver, is_between}
use Rattle.spec_control.specs.Held.{Held, heard_of, subject_of}
use Rattle.control_laws.proofs.ListLemmas.{never, placed}
use Rattle.control_laws.specs.Kept.{Kept}
use Rattle.control_laws.proofs.RootLemmas.{oldest_lives}
use Rattle.control_laws.proofs.AskLemmas.{same_end}
use Rattle.control_laws.specs.OwnMoves.{own_moves, word_moves}
use Rattle.control_laws.proofs.GuardLemmas.{may_come}
use Rattle.desk.specs.Lent.{here_ends}
use Rattle.control_laws.proofs.LeadLemmas.{attached_by, goes_by}
use Rattle.control_laws.proofs.HereLemmas.{here_mine, here_others}
use Rattle.control_laws.proofs.AttachedOnceLemmas.{AreOld}
use Rattle.control_laws.proofs.BetweenLemmas.{between_back, between_on, made_between, asks_over, reap_comes}
use Rattle.control_laws.proofs.HeldEventLemmas.{of_held, keep_all, acked, asked_stay, asked_made, word_made, closes, asked_closes, asked_reaps, reaps, word_reaps, word_closes}

pub owned_by : (i : ℕ) (w : Option ℕ) → is_owner i w ≡ true → w ≡ Some i
owned_by i None e = absurd (never e)
owned_by i (Some w) e = ap (λ (n : ℕ). Some n) (eqb-true w i e)

pub owns : (i : ℕ) (w : Option ℕ) → w ≡ Some i → is_owner i w ≡ true
owns i w e = ap (is_owner i) e ∙ eq-eqb i i refl

-- what is read off an object's ends is so
pub record Knows {N : Type 0} (c : Control) (i : ℕ) (hs : List (Held N)) : Type 0 where
  pub here : is_between (obj c.rows i) ≡ false → of_held hs ≡ here_ends c.rows.pairs c.attached i
  pub gone : is_between (obj c.rows i) ≡ true → hs ≡ []

pub no_and : (b : Bool) → (b && false) ≡ false
no_and true = refl
no_and false = refl

pub no_socket : (o : Row) → is_socket o.kind ≡ false → is_between o ≡ false
no_socket o h = ap (λ (b : Bool). b && is_coming o.request) h

pub listener_is : (k : ObjKind) → is_listener k ≡ true → is_socket k ≡ false
listener_is Root h = refl
listener_is (Socket kind) h = absurd (never h)
listener_is Listener h = refl
listener_is Session h = refl

pub session_is : (k : ObjKind) → is_session k ≡ true → is_socket k ≡ false
session_is Root h = refl
session_is (Socket kind) h = absurd (never h)
session_is Listener h = refl
session_is Session h = refl

pub open_not : (o : Row) → IsOpenSocket o → is_between o ≡ false
open_not o h = ap (λ (u : Use). is_socket o.kind && is_coming u) h.open_still ∙ no_and (is_socket o.kind)

any_at : (f : Row → Bool) (xs : List Row) (i : ℕ) → i < length xs → f (slice_index_or xs i nobody) ≡ true → list_any f xs ≡ true
any_at f [] i lt h = absurd (omega (arith, lt))
any_at f (x ∷ xs) zero lt h = ap (λ (b : Bool). b || list_any f xs) h
any_at f (x ∷ xs) (suc i) lt h = ap (λ (b : Bool). f x || b) (any_at f xs i (omega (arith, lt)) h) ∙ last (f x)
  where
    last : (b : Bool) → (b || true) ≡ true
    last true = refl
    last false = refl

module _ (c : Control) (kept : Kept c) where
  -- an object that hears a command but its Reap is not between its close and its Reap
  pub heard_not : (slot at : ℕ) (letter : Letter) → MayDeliver c slot letter → letter.to.0 ≡ at → is_between (obj c.rows at) ≡ false
  heard_not slot at letter may to = by (is_between (obj c.rows at)) refl
    where
      lives : (obj c.rows letter.to.0).slot ≡ slot
      lives = (oldest_lives c kept slot letter.to.0 letter.word may.behind may.oldest).0

      by : (b : Bool) → is_between (obj c.rows at) ≡ b → b ≡ false
      by true h =
          let mine : is_between (obj c.rows letter.to.0) ≡ true = ap (λ (k : ℕ). is_between (obj c.rows k)) to ∙ h in
          let there = placed (λ (o : Row). not (is_between o)) c.rows.objects nobody letter.to.0 refl (ap not mine) in
          sym (any_at (λ o. is_between o && o.slot == slot) c.rows.objects letter.to.0 there (ap (λ (b : Bool). b && (obj c.rows letter.to.0).slot == slot) mine ∙ eq-eqb (obj c.rows letter.to.0).slot slot lives)) ∙ may.held
      by false h = refl

clash : {A : Type 0} {b : Bool} → b ≡ true → b ≡ false → A
clash h k = absurd (never (sym k ∙ h))

module _ {N S : Type 0} (c : Control) (kept : Kept c) where
  -- whose an end is that goes
  word_goes : (slot : SlotId) (to : ObjId) (word : Word) (h : Answered N S) → Fits c (Delivered slot (record { to = to; word = word }) h) → (e : EndId) → goes_by e (word_moves to.0 word) ≡ true → heard_of to.0 word ≡ owner_of c e
  word_goes slot to (Own child) h fits e goes = absurd (never goes)
  word_goes slot to (Plug None) h fits e goes = absurd (never goes)
  word_goes slot to (Plug (Some d)) h fits e goes = absurd (never (sym (no_end (is_end e d)) ∙ goes))
    where
      no_end : (b : Bool) → ((b && false) || false) ≡ false
      no_end true = refl
      no_end false = refl
  word_goes slot to (TermReq child) h fits e goes = absurd (never goes)
  word_goes slot to Term h fits e goes = absurd (never goes)
  word_goes slot to (TermAck child) h fits e goes = absurd (never goes)
  word_goes slot to (PipeBind d peer) h fits e goes = absurd (never (sym (no_end (is_end e d)) ∙ goes))
    where
      no_end : (b : Bool) → ((b && false) || false) ≡ false
      no_end true = refl
      no_end false = refl
  word_goes slot to (PipeTerm d) h fits e goes = absurd (never (sym (no_end (is_end e d)) ∙ goes))
    where
      no_end : (b : Bool) → ((b && false) || false) ≡ false
      no_end true = refl
      no_end false = refl
  word_goes slot to (PipeTermAck d) h fits e goes =
      let same = same_end d e (acked d to.0 e ∙ goes) in
      sym (may_come c kept slot.0 fits.may.behind to.0 (PipeTermAck d) fits.may.oldest).owner ∙ ap (owner_of c) same
  word_goes slot to Stop h fits e goes = absurd (never goes)
  word_goes slot to (Reap socket) h fits e goes = absurd (never goes)

  goes_mine : (did : Did N S) → Fits c did → (e : EndId) → goes_by e (own_moves c did) ≡ true → subject_of did ≡ Some (owner_of c e)
  goes_mine (DidAsk req reply h) fits e goes = absurd (never (sym (asked_stay e c req reply) ∙ goes))
  goes_mine (Delivered slot letter h) fits e goes = ap (λ (n : ℕ). Some n) (word_goes slot letter.to letter.word h fits e goes)
  goes_mine (Delimited d h) fits e goes = absurd (never (sym (no_end (is_end e d)) ∙ goes))
    where
      no_end : (b : Bool) → ((b && false) || false) ≡ false
      no_end true = refl
      no_end false = refl

  pub made_none : (did : Did N S) → list_any made_between (own_moves c did) ≡ false
  made_none (DidAsk req reply h) = asked_made c req reply
  made_none (Delivered slot letter h) = word_made letter.to.0 letter.word
  made_none (Delimited e h) = refl

  -- whose object's Reap it is, and whose close
  reap_subject : (did : Did N S) (i : ℕ) → list_any (reap_comes i) (own_moves c did) ≡ true → subject_of did ≡ Some i
  reap_subject (DidAsk req reply h) i any = absurd (never (sym (asked_reaps i c req reply) ∙ any))
  reap_subject (Delivered slot letter h) i any = of letter.word (sym (word_reaps i letter.to.0 letter.word) ∙ any)
    where
      of : (word : Word) → reaps i word ≡ true → ◌≡◌ {A = Option ℕ} (Some (heard_of letter.to.0 word)) (Some i)
      of (Own child) r = absurd (never r)
      of (Plug end) r = absurd (never r)
      of (TermReq child) r = absurd (never r)
      of Term r = absurd (never r)
      of (TermAck child) r = absurd (never r)
      of (PipeBind e peer) r = absurd (never r)
      of (PipeTerm e) r = absurd (never r)
      of (PipeTermAck e) r = absurd (never r)
      of Stop r = absurd (never r)
      of (Reap socket) r = ap (λ (n : ℕ). Some n) (eqb-true socket.0 i r)
  reap_subject (Delimited e h) i any = absurd (never any)

  close_subject : (did : Did N S) (i : ℕ) → list_any (asks_over i) (own_moves c did) ≡ true → subject_of did ≡ Some i
  close_subject (DidAsk req reply h) i any = of req (asked_closes i c req reply any)
    where
      of : (req : Req) → closes i req ≡ true → subject_of (DidAsk req reply h) ≡ Some i
      of (MakeSocket kind options) r = absurd (never r)
      of AskTerm r = absurd (never r)
      of (Bind o at) r = absurd (never r)
      of (Connect o at) r = absurd (never r)
      of (Unbind o at) r = absurd (never r)
      of (Disconnect o at) r = absurd (never r)
      of (Close o) r = ap (λ (n : ℕ). Some n) (eqb-true o.0 i r)
      of (Accepted o) r = absurd (never r)
      of (Shaken o peer) r = absurd (never r)
      of (AskEnd e reason) r = absurd (never r)
      of (AskOver o) r = ap (λ (n : ℕ). Some n) (eqb-true o.0 i r)
      of (OutputOver o) r = absurd (never r)
  close_subject (Delivered slot letter h) i any = absurd (never (sym (word_closes i letter.to.0 letter.word) ∙ any))
  close_subject (Delimited e h) i any = absurd (never any)

  -- ---- an event of another object
  module _ (old : AreOld c) (did : Did N S) (fits : Fits c did) (i : ℕ) (hs : List (Held N)) (knows : Knows c i hs) where
    none_goes : (subject_of did ≡ Some i → ⊥) → All (λ e. goes_by e (own_moves c did) ≡ false) (here_ends c.rows.pairs c.attached i)
    none_goes other =
        All-filter (λ e. is_here (place_of c e)) (λ e. goes_by e (own_moves c did) ≡ false) (filter (λ e. owner_of c e == i) c.attached)
        (All-weaker (λ e. (owner_of c e == i) ≡ true) (λ e. goes_by e (own_moves c did) ≡ false) stays (filter (λ e. owner_of c e == i) c.attached) (filter_passes (λ e. owner_of c e == i) c.attached))
      where
        stays : (e : EndId) → (owner_of c e == i) ≡ true → goes_by e (own_moves c did) ≡ false
        stays e own = by (goes_by e (own_moves c did)) refl
          where
            by : (b : Bool) → goes_by e (own_moves c did) ≡ b → b ≡ false
            by true h = absurd (other (goes_mine did fits e h ∙ ap (λ (n : ℕ). Some n) (eqb-true (owner_of c e) i own)))
            by false h = refl

    pub others_know : (subject_of did ≡ Some i → ⊥) → Knows (after did c) i hs
    others_know other = record {
      here = λ free. still (is_between (obj c.rows i)) refl free;
      gone = λ between. elim (between_back c did kept fits (made_none did) i between) [
        | inl was ↦ knows.gone was
        | inr any ↦ absurd (other (close_subject did i any))
      ];
    }
      where
        still : (b : Bool) → is_between (obj c.rows i) ≡ b → is_between (obj (after did c).rows i) ≡ false → of_held hs ≡ here_ends (after did c).rows.pairs (after did c).attached i
        still true was free =
            elim (between_on c did kept fits (made_none did) i was) [
              | inl now ↦ clash now free
              | inr any ↦ absurd (other (reap_subject did i any))
            ]
        still false was free = knows.here was ∙ sym (here_others c did kept fits old i other ∙ keep_all (λ e. goes_by e (own_moves c did)) (here_ends c.rows.pairs c.attached i) (none_goes other))

    -- ---- an event of the object itself, which is neither closed nor reaped by it
    pub mine_know : (now : List (Held N)) → subject_of did ≡ Some i → is_between (obj c.rows i) ≡ false → is_between (obj (after did c).rows i) ≡ false → All (λ e. goes_by e (own_moves c did) ≡ false) (attached_by (own_moves c did)) →
        of_held now ≡ filter (λ e. not (goes_by e (own_moves c did))) (of_held hs) ++ attached_by (own_moves c did) → Knows (after did c) i now
    mine_know now is free stays none update = record {
      here = λ f. update ∙ ap (λ (es : List EndId). filter (λ e. not (goes_by e (own_moves c did))) es ++ attached_by (own_moves c did)) (knows.here free) ∙ sym (here_mine c did kept fits old i is none);
      gone = λ b. clash b stays;
    }

    pub not_closed : list_any (asks_over i) (own_moves c did) ≡ false → is_between (obj c.rows i) ≡ false → is_between (obj (after did c).rows i) ≡ false
    not_closed none free = by (is_between (obj (after did c).rows i)) refl
      where
        by : (b : Bool) → is_between (obj (after did c).rows i) ≡ b → b ≡ false
        by true h =
            elim (between_back c did kept fits (made_none did) i h) [
              | inl was ↦ clash was free
              | inr any ↦ clash any none
            ]
        by false h = refl
