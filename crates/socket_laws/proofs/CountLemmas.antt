-- The counts of settled pipes over an item: those that were settled keep them, and one that the item settles has those that it tells.
use Rattle.std.specs.Prelude.{◌≡◌, ◌<◌, ◌++◌, ℕ, Bool, List, [], ◌∷◌, Option, Some, None, IsSome, is_some, length, map, refl, if◌then◌else◌}
use Rattle.std.proofs.Common.{arith, sym, ap, ◌∙◌, subst, append-nil}
use Rattle.std.proofs.lemmas.List.Elements.{filter_map-append}
use Rattle.zq_base.specs.declared.ids.EndId.{EndId}
use Rattle.zq_base.specs.declared.ids.Settled.{Settled}
use Rattle.zq_base.specs.Ends.{PipeId, other_end}
use Rattle.zq_base.specs.Message.{Frames}
use Rattle.spec_pattern.specs.PipeStep.{PipeStep, Seal, committed_by, taken_by, committed_to, taken_from}
use Rattle.spec_control.specs.declared.end.EndCommands.{EndCommands}
use Rattle.spec_control.specs.declared.end.EndCommands.TheVariants.{Nothing, TermAndSeal, Ack, Settle, SettleAndAck}
use Rattle.spec_control.specs.declared.end.EndEvent.TheVariants.{DelimiterSeen, AckCame}
use Rattle.spec_control.specs.declared.end.Reason.{Reason}
use Rattle.spec_control.specs.declared.letter.Word.{Word}
use Rattle.spec_control.specs.declared.letter.Word.TheVariants.{Own, Plug, TermReq, Term, TermAck, PipeBind, PipeTerm, PipeTermAck, Stop, Reap}
use Rattle.spec_control.specs.declared.entry.Did.{Did}
use Rattle.spec_control.specs.declared.entry.Did.TheVariants.{Asked, Delivered, Delimited}
use Rattle.spec_control.specs.declared.entry.Item.{Item}
use Rattle.spec_control.specs.declared.entry.Item.TheVariants.{Event, Seen}
use Rattle.spec_control.specs.Place.{Place, Unmade, Away, At}
use Rattle.spec_control.specs.Control.{Control, Settlement, happens, place_of, commands_in, reason_in, tell_other}
use Rattle.spec_control.specs.After.{Answers, answers_in, settle, processed, without_front, after}
use Rattle.spec_control.specs.ControlRun.{FitsItem, Fits, Settles, after_item}
use Rattle.control_laws.proofs.AskLemmas.{end_self}
use Rattle.control_laws.proofs.FateLemmas.{answered_same, processed_same, happens_same, try_end_same}
use Rattle.spec_run.specs.OwnedRun.{AreCountedBy}
use Rattle.socket_laws.proofs.CountedLemmas.{counts_go_on}

-- ---- delimiters change no counts

none_committed : (p : PipeId) (es : List EndId) → committed_to p (map Seal es) ≡ []
none_committed p [] = refl
none_committed p (e ∷ es) = none_committed p es

none_taken : (p : PipeId) (es : List EndId) → taken_from p (map Seal es) ≡ []
none_taken p [] = refl
none_taken p (e ∷ es) = none_taken p es

still_committed : (p : PipeId) (past : List PipeStep) (es : List EndId) → committed_to p (past ++ map Seal es) ≡ committed_to p past
still_committed p past es =
    filter_map-append (committed_by p) past (map Seal es) ∙ ap (λ (l : List Frames). committed_to p past ++ l) (none_committed p es) ∙ append-nil (committed_to p past)

still_taken : (p : PipeId) (past : List PipeStep) (es : List EndId) → taken_from p (past ++ map Seal es) ≡ taken_from p past
still_taken p past es =
    filter_map-append (taken_by p) past (map Seal es) ∙ ap (λ (l : List Frames). taken_from p past ++ l) (none_taken p es) ∙ append-nil (taken_from p past)

pub still_counted : (past : List PipeStep) (es : List EndId) (ss : List Settlement) → AreCountedBy past ss → AreCountedBy (past ++ map Seal es) ss
still_counted past es [] all = tt
still_counted past es (s ∷ ss) all = (
  record {
    sent = all.0.sent ∙ ap length (sym (still_committed (other_end s.end) past es));
    got = all.0.got ∙ ap length (sym (still_taken (other_end s.end) past es));
    sum = all.0.sum;
    reason = all.0.reason;
  },
  still_counted past es ss all.1,
)

-- ---- an acknowledgement leaves the reason of its end

told_reasons : (cmds : EndCommands) (e : EndId) (c : Control) → (tell_other cmds e c).reasons ≡ c.reasons
told_reasons Nothing e c = refl
told_reasons TermAndSeal e c = refl
told_reasons Ack e c = refl
told_reasons Settle e c = refl
told_reasons SettleAndAck e c = refl

ack_reason : (p : Place) (r : Option Reason) → reason_in AckCame p r ≡ r
ack_reason Unmade r = refl
ack_reason Away r = refl
ack_reason (At state) r = refl

reason_kept : (e : EndId) (c : Control) → (happens AckCame e c).reasons e ≡ c.reasons e
reason_kept e c =
    ap (λ (f : EndId → Option Reason). f e) (told_reasons (commands_in AckCame (place_of c e)) e _)
    ∙ ap (λ (b : Bool). if b then reason_in AckCame (place_of c e) (c.reasons e) else c.reasons e) (end_self e) ∙ ack_reason (place_of c e) (c.reasons e)

-- ---- what an item settles

-- the counts that are told of the pipe that an end read are those of the steps past
pub record Counts (past : List PipeStep) (e : EndId) (counts : Settled) : Type 0 where
  pub sent : counts.sent ≡ length (committed_to (other_end e) past)
  pub got : counts.got ≡ length (taken_from (other_end e) past)

module _ {N T : Type 0} where
  -- so are those that an item tells, if it tells any
  abbrev pub TellsIn : List PipeStep → Did N T → Type 0
  TellsIn past (Asked req reply h) = Unit {0}
  TellsIn past (Delivered slot letter h) = (e : EndId) (counts : Settled) → letter.word ≡ PipeTermAck e → h.settled ≡ Some counts → Counts past e counts
  TellsIn past (Delimited e h) = Unit {0}

  abbrev pub TellsCounts : List PipeStep → Item N T → Type 0
  TellsCounts past (Event entry) = TellsIn past entry.did
  TellsCounts past (Seen sight) = Unit {0}

has_reason : (rest : ℕ) (r : Option Reason) → (r ≡ None → rest ≡ 0) → 0 < rest → IsSome r
has_reason rest None none some = let e = none refl in absurd (omega (arith, some, e))
has_reason rest (Some why) none some = refl

module _ (past : List PipeStep) where
  same_counted : (c d : Control) → d.settlements ≡ c.settlements → AreCountedBy past c.settlements → AreCountedBy past d.settlements
  same_counted c d same = subst (AreCountedBy past) (sym same)

  ack_counted : (at : ℕ) (e : EndId) (h : Answers) (c : Control) → Settles c (PipeTermAck e) h.counts → ((counts : Settled) → h.counts ≡ Some counts → Counts past e counts)
      → AreCountedBy past c.settlements → AreCountedBy past (processed at (PipeTermAck e) h c).settlements
  ack_counted at e h c settles told all =
      same_counted (settle e h.counts heard) (processed at (PipeTermAck e) h c) (try_end_same at h.left (settle e h.counts heard)) (by h.counts refl settles)
    where
      heard : Control
      heard = happens AckCame e c

      by : (x : Option Settled) → h.counts ≡ x → Settles c (PipeTermAck e) x → AreCountedBy past (settle e x heard).settlements
      by None is none = absurd none
      by (Some counts) is so =
          let one = told counts is in
          counts_go_on.settled past heard.settlements (record { end = e; counts = counts; reason = heard.reasons e }) (same_counted c heard (happens_same AckCame e c) all)
          (record {
            sent = one.sent;
            got = one.got;
            sum = so.adds_up;
            reason = λ some. ap is_some (reason_kept e c) ∙ has_reason counts.rest (c.reasons e) so.read_out some;
          })

  word_counted : (at : ℕ) (word : Word) (h : Answers) (c : Control) → Settles c word h.counts → ((e : EndId) (counts : Settled) → word ≡ PipeTermAck e → h.counts ≡ Some counts → Counts past e counts)
      → AreCountedBy past c.settlements → AreCountedBy past (processed at word h c).settlements
  word_counted at (PipeTermAck e) h c settles told all = ack_counted at e h c settles (λ counts is. told e counts refl is) all
  word_counted at (Own child) h c settles told all = same_counted c (processed at (Own child) h c) (processed_same at (Own child) h c refl) all
  word_counted at (Plug end) h c settles told all = same_counted c (processed at (Plug end) h c) (processed_same at (Plug end) h c refl) all
  word_counted at (TermReq child) h c settles told all = same_counted c (processed at (TermReq child) h c) (processed_same at (TermReq child) h c refl) all
  word_counted at Term h c settles told all = same_counted c (processed at Term h c) (processed_same at Term h c refl) all
  word_counted at (TermAck child) h c settles told all = same_counted c (processed at (TermAck child) h c) (processed_same at (TermAck child) h c refl) all
  word_counted at (PipeBind e peer) h c settles told all = same_counted c (processed at (PipeBind e peer) h c) (processed_same at (PipeBind e peer) h c refl) all
  word_counted at (PipeTerm e) h c settles told all = same_counted c (processed at (PipeTerm e) h c) (processed_same at (PipeTerm e) h c refl) all
  word_counted at Stop h c settles told all = same_counted c (processed at Stop h c) (processed_same at Stop h c refl) all
  word_counted at (Reap socket) h c settles told all = same_counted c (processed at (Reap socket) h c) (processed_same at (Reap socket) h c refl) all

  -- so settled pipes have their counts behind the item
  pub item_counted : {N T : Type 0} (c : Control) (item : Item N T) → FitsItem c item → TellsCounts past item → AreCountedBy past c.settlements → AreCountedBy past (after_item item c).settlements
  item_counted c (Seen sight) fits told all = all
  item_counted {N} {T} c (Event entry) fits told all = by entry.did fits told
    where
      by : (did : Did N T) → Fits c did → TellsIn past did → AreCountedBy past (after did c).settlements
      by (Asked req reply h) ok is = same_counted c (after (Asked req reply h) c) (answered_same req reply (answers_in h) c) all
      by (Delivered slot letter h) ok is = word_counted letter.to.0 letter.word (answers_in h) (without_front slot.0 c) (settles_there letter.word h.settled ok.answered.settled) is all
        where
          settles_there : (word : Word) (x : Option Settled) → Settles c word x → Settles (without_front slot.0 c) word x
          settles_there (PipeTermAck e) None s = absurd s
          settles_there (PipeTermAck e) (Some counts) s = record { adds_up = s.adds_up; read_out = s.read_out }
          settles_there (Own child) x s = s
          settles_there (Plug end) x s = s
          settles_there (TermReq child) x s = s
          settles_there Term x s = s
          settles_there (TermAck child) x s = s
          settles_there (PipeBind e peer) x s = s
          settles_there (PipeTerm e) x s = s
          settles_there Stop x s = s
          settles_there (Reap socket) x s = s
      by (Delimited e h) ok is = same_counted c (after (Delimited e h) c) (happens_same DelimiterSeen e c) all
