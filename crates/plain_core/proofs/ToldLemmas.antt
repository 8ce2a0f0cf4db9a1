-- The counts of settled pipes are told by the events.
use Rattle.std.specs.Prelude.{◌≡◌, ◌≤◌, ◌+◌, ◌++◌, ℕ, List, [], ◌∷◌, Option, Some, None, map, refl}
use Rattle.std.proofs.Common.{sym, ap, ◌∙◌, subst, append-nil, append_assoc}
use Rattle.std.proofs.lemmas.List.{map-append}
use Rattle.zq_base.specs.declared.ids.EndId.{EndId}
use Rattle.zq_base.specs.declared.ids.Settled.{Settled}
use Rattle.spec_control.specs.declared.end.EndEvent.TheVariants.{DelimiterSeen, AckCame}
use Rattle.spec_control.specs.declared.letter.Word.{Word}
use Rattle.spec_control.specs.declared.letter.Word.TheVariants.{Own, Plug, TermReq, Term, TermAck, PipeBind, PipeTerm, PipeTermAck, Stop, Reap}
use Rattle.spec_control.specs.declared.entry.Did.{Did}
use Rattle.spec_control.specs.declared.entry.Item.{Item}
use Rattle.spec_control.specs.declared.entry.Did.TheVariants.{Asked, Delivered, Delimited}
use Rattle.spec_control.specs.Control.{Control, Settlement, begun, happens, next_pair}
use Rattle.spec_control.specs.After.{Answers, answers_in, settle, processed, without_front, after}
use Rattle.spec_control.specs.ControlRun.{after_all, IsControlRun}
use Rattle.spec_control.specs.Reply.{most_made_pairs}
use Rattle.control_laws.proofs.FateLemmas.{answered_same, processed_same, happens_same, try_end_same}
use Rattle.ctl_plane.specs.declared.settled.PipeCounts.{PipeCounts}
use Rattle.ctl_plane.specs.Past.{as_item}
use Rattle.ctl_plane.specs.Settled.{counted, settled_by, settled_of, settled_in}
use Rattle.socket_laws.specs.Bounds.{EndsAreFew}
use Rattle.plain_core.specs.Settled.{counts_in}

abbrev told : Control → List PipeCounts
told c = map counts_in c.settlements

as_before : (c d : Control) → d.settlements ≡ c.settlements → told d ≡ told c ++ []
as_before c d same = ap (map counts_in) same ∙ sym (append-nil (told c))

settle_told : (e : EndId) (counts : Option Settled) (c : Control) → told (settle e counts c) ≡ told c ++ counted e counts
settle_told e None c = sym (append-nil (told c))
settle_told e (Some counts) c = map-append counts_in c.settlements _

word_told : (at : ℕ) (word : Word) (h : Answers) (c : Control) → told (processed at word h c) ≡ told c ++ settled_by word h.counts
word_told at (PipeTermAck e) h c =
    let heard = happens AckCame e c in
    ap (map counts_in) (try_end_same at h.left (settle e h.counts heard)) ∙ settle_told e h.counts heard ∙ ap (λ (ss : List Settlement). map counts_in ss ++ counted e h.counts) (happens_same AckCame e c)
word_told at (Own child) h c = as_before c (processed at (Own child) h c) (processed_same at (Own child) h c refl)
word_told at (Plug end) h c = as_before c (processed at (Plug end) h c) (processed_same at (Plug end) h c refl)
word_told at (TermReq child) h c = as_before c (processed at (TermReq child) h c) (processed_same at (TermReq child) h c refl)
word_told at Term h c = as_before c (processed at Term h c) (processed_same at Term h c refl)
word_told at (TermAck child) h c = as_before c (processed at (TermAck child) h c) (processed_same at (TermAck child) h c refl)
word_told at (PipeBind e peer) h c = as_before c (processed at (PipeBind e peer) h c) (processed_same at (PipeBind e peer) h c refl)
word_told at (PipeTerm e) h c = as_before c (processed at (PipeTerm e) h c) (processed_same at (PipeTerm e) h c refl)
word_told at Stop h c = as_before c (processed at Stop h c) (processed_same at Stop h c refl)
word_told at (Reap socket) h c = as_before c (processed at (Reap socket) h c) (processed_same at (Reap socket) h c refl)

module _ {N T : Type 0} where
  event_told : (did : Did N T) (c : Control) → told (after did c) ≡ told c ++ settled_of did
  event_told (Asked req reply h) c = as_before c (after (Asked req reply h) c) (answered_same req reply (answers_in h) c)
  event_told (Delivered slot letter h) c = word_told letter.to.0 letter.word (answers_in h) (without_front slot.0 c)
  event_told (Delimited e h) c = as_before c (happens DelimiterSeen e c) (happens_same DelimiterSeen e c)

  all_told : (events : List (Did N T)) (c : Control) → told (after_all (map as_item events) c) ≡ told c ++ settled_in events
  all_told [] c = sym (append-nil (told c))
  all_told (did ∷ events) c =
      all_told events (after did c) ∙ ap (λ (xs : List PipeCounts). xs ++ settled_in events) (event_told did c) ∙ append_assoc (told c) (settled_of did) (settled_in events)

-- the settlements have the counts that the events tell, in order
pub counts_are_told : {N T : Type 0} (workers : ℕ) (events : List (Did N T)) → map counts_in (after_all (map as_item events) (begun workers)).settlements ≡ settled_in events
counts_are_told workers events = all_told events (begun workers)

-- there are not too many pairs
pub pairs_are_few : {N T : Type 0} → EndsAreFew N T → (workers : ℕ) (items : List (Item N T)) (c : Control) → IsControlRun (begun workers) items → c ≡ after_all items (begun workers) → next_pair c ≤ most_made_pairs + 1
pairs_are_few few workers items c run is = subst (λ (d : Control). next_pair d ≤ most_made_pairs + 1) (sym is) (few workers items run 0).pairs
