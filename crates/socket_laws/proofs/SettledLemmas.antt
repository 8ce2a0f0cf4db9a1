-- A pipe that was settled stays so.
use Rattle.std.specs.Prelude.{◌≡◌, ℕ, Bool, true, false, List, [], ◌∷◌, ◌++◌, Option, Some, None, if◌then◌else◌, find, refl}
use Rattle.std.proofs.Common.{subst}
use Rattle.zq_base.specs.declared.ids.EndId.{EndId}
use Rattle.zq_base.specs.declared.ids.Settled.{Settled}
use Rattle.zq_base.specs.Ends.{PipeId, other_end}
use Rattle.spec_control.specs.declared.end.EndEvent.TheVariants.{DelimiterSeen, AckCame}
use Rattle.spec_control.specs.declared.letter.Word.{Word}
use Rattle.spec_control.specs.declared.letter.Word.TheVariants.{Own, Plug, TermReq, Term, TermAck, PipeBind, PipeTerm, PipeTermAck, Stop, Reap}
use Rattle.spec_control.specs.declared.entry.Did.{Did}
use Rattle.spec_control.specs.declared.entry.Did.TheVariants.{Asked, Delivered, Delimited}
use Rattle.spec_control.specs.declared.entry.Item.{Item}
use Rattle.spec_control.specs.declared.entry.Item.TheVariants.{Event, Seen}
use Rattle.spec_control.specs.Control.{Control, Settlement, is_end, happens, try_end}
use Rattle.spec_control.specs.After.{Answers, answers_in, settle, processed, without_front, after}
use Rattle.spec_control.specs.ControlRun.{after_all}
use Rattle.control_laws.proofs.FateLemmas.{answered_same, processed_same, happens_same, try_end_same}
use Rattle.spec_run.specs.OwnedRun.{settlement_of}

-- what is not settled was not settled before
abbrev WasNot : Control → Control → Type 0
WasNot c d = (p : PipeId) → settlement_of d p ≡ None → settlement_of c p ≡ None

of_same : (c d : Control) → d.settlements ≡ c.settlements → WasNot c d
of_same c d same p = subst (λ (ss : List Settlement). find (λ (s : Settlement). is_end (other_end p) s.end) ss ≡ None) same

none_before : (f : Settlement → Bool) (xs ys : List Settlement) → find f (xs ++ ys) ≡ None → find f xs ≡ None
none_before f [] ys h = refl
none_before f (x ∷ xs) ys h = by (f x) (none_before f xs ys) h
  where
    by : (b : Bool) → (find f (xs ++ ys) ≡ None → find f xs ≡ None) → (if b then Some x else find f (xs ++ ys)) ≡ None → (if b then Some x else find f xs) ≡ None
    by true rest none = none
    by false rest none = rest none

settle_was : (e : EndId) (counts : Option Settled) (c : Control) → WasNot c (settle e counts c)
settle_was e None c p h = h
settle_was e (Some counts) c p h = none_before (λ s. is_end (other_end p) s.end) c.settlements _ h

processed_was : (at : ℕ) (word : Word) (h : Answers) (c : Control) → WasNot c (processed at word h c)
processed_was at (PipeTermAck e) h c p none =
    let heard = happens AckCame e c in
    let settled = settle e h.counts heard in
    of_same c heard (happens_same AckCame e c) p (settle_was e h.counts heard p (of_same settled (try_end at h.left settled) (try_end_same at h.left settled) p none))
processed_was at (Own child) h c p none = of_same c (processed at (Own child) h c) (processed_same at (Own child) h c refl) p none
processed_was at (Plug end) h c p none = of_same c (processed at (Plug end) h c) (processed_same at (Plug end) h c refl) p none
processed_was at (TermReq child) h c p none = of_same c (processed at (TermReq child) h c) (processed_same at (TermReq child) h c refl) p none
processed_was at Term h c p none = of_same c (processed at Term h c) (processed_same at Term h c refl) p none
processed_was at (TermAck child) h c p none = of_same c (processed at (TermAck child) h c) (processed_same at (TermAck child) h c refl) p none
processed_was at (PipeBind e peer) h c p none = of_same c (processed at (PipeBind e peer) h c) (processed_same at (PipeBind e peer) h c refl) p none
processed_was at (PipeTerm e) h c p none = of_same c (processed at (PipeTerm e) h c) (processed_same at (PipeTerm e) h c refl) p none
processed_was at Stop h c p none = of_same c (processed at Stop h c) (processed_same at Stop h c refl) p none
processed_was at (Reap socket) h c p none = of_same c (processed at (Reap socket) h c) (processed_same at (Reap socket) h c refl) p none

module _ {N S : Type 0} where
  event_was : (did : Did N S) (c : Control) → WasNot c (after did c)
  event_was (Asked req reply h) c = of_same c (after (Asked req reply h) c) (answered_same req reply (answers_in h) c)
  event_was (Delivered slot letter h) c = processed_was letter.to.0 letter.word (answers_in h) (without_front slot.0 c)
  event_was (Delimited e h) c = of_same c (happens DelimiterSeen e c) (happens_same DelimiterSeen e c)

  pub settled_stay : (items : List (Item N S)) (c : Control) → WasNot c (after_all items c)
  settled_stay [] c p h = h
  settled_stay (Event entry ∷ items) c p h = event_was entry.did c p (settled_stay items (after entry.did c) p h)
  settled_stay (Seen sight ∷ items) c p h = settled_stay items c p h
