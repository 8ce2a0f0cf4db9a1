-- A settlement has the reason that its end has still.
use Rattle.std.specs.Prelude.{◌≡◌, ◌≤◌, ◌<◌, ◌++◌, ℕ, Bool, true, false, not, List, [], ◌∷◌, Option, Some, None, All, is_some, find, if◌then◌else◌, refl}
use Rattle.std.proofs.Common.{arith, sym, ap, ◌∙◌, subst, append-nil, append_assoc, true≢false}
use Rattle.std.proofs.lemmas.List.Elements.{All-nil, All-cons, All-head, All-tail, All-append, All-weaker}
use Rattle.zq_base.specs.declared.ids.EndId.{EndId}
use Rattle.zq_base.specs.declared.ids.Settled.{Settled}
use Rattle.zq_base.specs.Ends.{other_end}
use Rattle.spec_control.specs.declared.end.EndState.TheVariants.{Gone}
use Rattle.spec_control.specs.declared.end.EndEvent.TheVariants.{DelimiterSeen, AckCame}
use Rattle.spec_control.specs.declared.end.Reason.{Reason}
use Rattle.spec_control.specs.declared.letter.Word.{Word}
use Rattle.spec_control.specs.declared.letter.Word.TheVariants.{Own, Plug, TermReq, Term, TermAck, PipeBind, PipeTerm, PipeTermAck, Stop, Reap}
use Rattle.spec_control.specs.declared.entry.Did.{Did}
use Rattle.spec_control.specs.declared.entry.Did.TheVariants.{Asked, Delivered, Delimited}
use Rattle.spec_control.specs.declared.entry.Item.{Item}
use Rattle.spec_control.specs.declared.entry.Item.TheVariants.{Event, Seen}
use Rattle.spec_control.specs.Place.{At}
use Rattle.spec_control.specs.PairPhase.{BindCame, Happens, meets}
use Rattle.spec_control.specs.Rows.{PairRow, no_pair, end_place}
use Rattle.spec_control.specs.Control.{Control, Settlement, begun, is_end, happens, try_end, place_of, next_pair}
use Rattle.spec_control.specs.After.{Answers, answers_in, settle, processed, without_front, after}
use Rattle.spec_control.specs.ControlRun.{Fits, FitsItem, MayAsk, after_all, after_item, IsControlRun}
use Rattle.control_laws.specs.EndStep.{EndsLiveByTheTable}
use Rattle.control_laws.proofs.ListLemmas.{placed}
use Rattle.control_laws.proofs.AskLemmas.{end_self, same_end}
use Rattle.control_laws.specs.Steps.{EventsAreSteps}
use Rattle.control_laws.specs.Met.{NeverCellsAreNotMet, NeverMeets, met_by}
use Rattle.control_laws.proofs.FateLemmas.{answered_same, processed_same, happens_same}
use Rattle.control_laws.proofs.FateLemmas as fates
use Rattle.control_laws.specs.AttachedOnce.{AttachedOnce}
use Rattle.spec_run.specs.OwnedRun.{settlement_of}
use Rattle.run_laws.specs.SealsTold.{SealsAreTold}
use Rattle.socket_laws.specs.Settled.{SettledEndsAreGone}
use Rattle.socket_laws.proofs.AskedLemmas.{Led, led_more, Went, went}
use Rattle.socket_laws.specs.Settling.{HasItsReason, ReasonsStay}
use Rattle.socket_laws.proofs.ReasonLemmas.{answered_gone, processed_gone, happens_gone, try_end_same}

-- its end's pair has its number, and its reason is the end's
abbrev Stays : Control → Settlement → Type 0
Stays c s = (s.end.pair.0 < next_pair c) × (s.reason ≡ c.reasons s.end)

-- ---- what an event leaves
not_gone : (e d : EndId) (c : Control) → meets BindCame (place_of c e) ≡ true → place_of c d ≡ At Gone → is_end d e ≡ false
not_gone e d c met gone = by (is_end d e) refl
  where
    by : (b : Bool) → is_end d e ≡ b → b ≡ false
    by false h = refl
    by true h = absurd (true≢false (sym met ∙ ap (λ (x : EndId). meets BindCame (place_of c x)) (sym (same_end d e h)) ∙ ap (meets BindCame) gone))

none_meets : (a : Bool) → not (meets (Happens AckCame) (end_place no_pair a)) ≡ true
none_meets true = refl
none_meets false = refl

module _ {N T : Type 0} where
  event_gone : (d : EndId) (did : Did N T) (c : Control) → NeverMeets c → Fits c did → d.pair.0 < next_pair c → place_of c d ≡ At Gone → (after did c).reasons d ≡ c.reasons d
  event_gone d (Asked req reply h) c never fits lt gone = answered_gone d req reply (answers_in h) c lt gone (λ o peer is. (subst (MayAsk c) is fits.may.0).unmade)
  event_gone d (Delivered slot letter h) c never fits lt gone =
      processed_gone d letter.to.0 letter.word (answers_in h) (without_front slot.0 c) gone
      (λ e peer is. not_gone e d c (never.commands slot.0 letter (record { end = e; event = BindCame }) fits.may (ap met_by is)) gone)
      (λ e is. not_gone e d c (never.commands slot.0 letter (record { end = e; event = BindCame }) fits.may (ap met_by is)) gone)
  event_gone d (Delimited e h) c never fits lt gone = happens_gone d DelimiterSeen e c gone

-- ---- what an event settles
record More (c d : Control) : Type 0 where
  news : List Settlement
  is : d.settlements ≡ c.settlements ++ news
  all : next_pair c ≤ next_pair d → All (Stays d) news

no_more : (c d : Control) → d.settlements ≡ c.settlements → More c d
no_more c d same = record { news = []; is = same ∙ sym (append-nil c.settlements); all = λ le. All-nil _ }

ack_more : (e : EndId) (at : ℕ) (left : Bool) (counts : Option Settled) (c : Control) → e.pair.0 < next_pair c → More c (try_end at left (settle e counts (happens AckCame e c)))
ack_more e at left None c lt = no_more c _ (fates.try_end_same at left (happens AckCame e c) ∙ happens_same AckCame e c)
ack_more e at left (Some x) c lt = record {
  news = one ∷ [];
  is = fates.try_end_same at left (settle e (Some x) heard) ∙ ap (λ (ss : List Settlement). ss ++ one ∷ []) (happens_same AckCame e c);
  all = λ le. All-cons (Stays (try_end at left (settle e (Some x) heard))) one [] (omega (arith, lt, le), ap (λ (f : EndId → Option Reason). f e) (sym (try_end_same at left (settle e (Some x) heard)))) (All-nil _);
}
  where
    heard : Control
    heard = happens AckCame e c

    one : Settlement
    one = record { end = e; counts = x; reason = heard.reasons e }

word_more : (at : ℕ) (word : Word) (h : Answers) (c : Control) → ((e : EndId) → word ≡ PipeTermAck e → e.pair.0 < next_pair c) → More c (processed at word h c)
word_more at (PipeTermAck e) h c lt = ack_more e at h.left h.counts c (lt e refl)
word_more at (Own child) h c lt = no_more c (processed at (Own child) h c) (processed_same at (Own child) h c refl)
word_more at (Plug end) h c lt = no_more c (processed at (Plug end) h c) (processed_same at (Plug end) h c refl)
word_more at (TermReq child) h c lt = no_more c (processed at (TermReq child) h c) (processed_same at (TermReq child) h c refl)
word_more at Term h c lt = no_more c (processed at Term h c) (processed_same at Term h c refl)
word_more at (TermAck child) h c lt = no_more c (processed at (TermAck child) h c) (processed_same at (TermAck child) h c refl)
word_more at (PipeBind e peer) h c lt = no_more c (processed at (PipeBind e peer) h c) (processed_same at (PipeBind e peer) h c refl)
word_more at (PipeTerm e) h c lt = no_more c (processed at (PipeTerm e) h c) (processed_same at (PipeTerm e) h c refl)
word_more at Stop h c lt = no_more c (processed at Stop h c) (processed_same at Stop h c refl)
word_more at (Reap socket) h c lt = no_more c (processed at (Reap socket) h c) (processed_same at (Reap socket) h c refl)

meets_there : (c : Control) (e : EndId) → meets (Happens AckCame) (place_of c e) ≡ true → e.pair.0 < next_pair c
meets_there c e h = placed (λ (p : PairRow). not (meets (Happens AckCame) (end_place p e.a))) c.rows.pairs no_pair e.pair.0 (none_meets e.a) (ap not h)

module _ {N T : Type 0} where
  event_more : (did : Did N T) (c : Control) → NeverMeets c → Fits c did → More c (after did c)
  event_more (Asked req reply h) c never fits = no_more c (after (Asked req reply h) c) (answered_same req reply (answers_in h) c)
  event_more (Delivered slot letter h) c never fits =
      let more = word_more letter.to.0 letter.word (answers_in h) (without_front slot.0 c)
      (λ e is. meets_there c e (never.commands slot.0 letter (record { end = e; event = Happens AckCame }) fits.may (ap met_by is))) in
      record { news = more.news; is = more.is; all = more.all }
  event_more (Delimited e h) c never fits = no_more c (happens DelimiterSeen e c) (happens_same DelimiterSeen e c)

-- ---- each is found
found_at : (f : Settlement → Bool) (xs : List Settlement) (s : Settlement) (ys : List Settlement) → f s ≡ true → is_some (find f (xs ++ s ∷ ys)) ≡ true
found_at f [] s ys h = ap (λ (b : Bool). is_some (if b then Some s else find f ys)) h
found_at f (x ∷ xs) s ys h = by (f x) (found_at f xs s ys h)
  where
    by : (b : Bool) → is_some (find f (xs ++ s ∷ ys)) ≡ true → is_some (if b then Some x else find f (xs ++ s ∷ ys)) ≡ true
    by true rest = refl
    by false rest = rest

twice : (e : EndId) → other_end (other_end e) ≡ e
twice e = by e.a
  where
    by : (a : Bool) → ◌≡◌ {A = EndId} (record { pair = e.pair; a = not (not a) }) (record { pair = e.pair; a = a })
    by true = refl
    by false = refl

module _ {N T : Type 0} (table : EndsLiveByTheTable) (steps : EventsAreSteps N T) (once : AttachedOnce N T) (told : SealsAreTold N T) (met : NeverCellsAreNotMet N T) (over : SettledEndsAreGone N T) (io : ℕ) where
  abbrev IsLed : Control → Type 0
  IsLed c = Led table steps once told io c

  is_gone : (c : Control) → IsLed c → (e : EndId) → is_some (find (λ (s : Settlement). is_end e s.end) c.settlements) ≡ true → place_of c e ≡ At Gone
  is_gone c led e has =
      ap (place_of c) (sym (twice e))
      ∙ (subst (λ (x : Control). is_some (settlement_of x (other_end e)) ≡ true → ((other_end e).pair.0 < next_pair x) × (place_of x (other_end (other_end e)) ≡ At Gone)) led.is (over io led.items led.run (other_end e))
      (ap (λ (x : EndId). is_some (find (λ (s : Settlement). is_end x s.end) c.settlements)) (twice e) ∙ has)).1

  all_gone : (c : Control) → IsLed c → (xs ys : List Settlement) → c.settlements ≡ xs ++ ys → All (λ s. place_of c s.end ≡ At Gone) ys
  all_gone c led xs [] is = All-nil _
  all_gone c led xs (s ∷ ys) is = All-cons (λ (x : Settlement). place_of c x.end ≡ At Gone) s ys
      (is_gone c led s.end (ap (λ (ss : List Settlement). is_some (find (λ (x : Settlement). is_end s.end x.end) ss)) is ∙ found_at (λ x. is_end s.end x.end) xs s ys (end_self s.end)))
      (all_gone c led (xs ++ s ∷ []) ys (is ∙ sym (append_assoc xs (s ∷ []) ys)))

  never : (c : Control) → IsLed c → NeverMeets c
  never c led = subst NeverMeets led.is (met io led.items led.run)

  old_stay : (did : Did N T) (c : Control) → NeverMeets c → Fits c did → next_pair c ≤ next_pair (after did c) → (ss : List Settlement)
      → All (λ s. place_of c s.end ≡ At Gone) ss → All (Stays c) ss → All (Stays (after did c)) ss
  old_stay did c nev fits le [] gone all = All-nil _
  old_stay did c nev fits le (s ∷ ss) gone all =
      let was = All-head (Stays c) s ss all in
      let lt = was.0 in
      let here = All-head (λ (x : Settlement). place_of c x.end ≡ At Gone) s ss gone in
      All-cons (Stays (after did c)) s ss (omega (arith, lt, le), was.1 ∙ sym (event_gone s.end did c nev fits was.0 here))
      (old_stay did c nev fits le ss (All-tail (λ (x : Settlement). place_of c x.end ≡ At Gone) s ss gone) (All-tail (Stays c) s ss all))

  one_item : (item : Item N T) (c : Control) → IsLed c → FitsItem c item → All (Stays c) c.settlements → All (Stays (after_item item c)) (after_item item c).settlements
  one_item (Seen sight) c led fits all = all
  one_item (Event entry) c led fits all =
      let d : Control = after entry.did c in
      let on : Went table steps once told io c (after_item (Event entry) c) = went table steps once told io c (Event entry) led fits in
      let more = event_more entry.did c (never c led) fits in
      subst (All (Stays d)) (sym more.is)
      (All-append (Stays d) c.settlements more.news (old_stay entry.did c (never c led) fits on.pairs c.settlements (all_gone c led [] c.settlements refl) all) (more.all on.pairs))

  all_items : (more : List (Item N T)) (c : Control) → IsLed c → IsControlRun c more → All (Stays c) c.settlements → All (Stays (after_all more c)) (after_all more c).settlements
  all_items [] c led on all = all
  all_items (item ∷ more) c led on all = all_items more (after_item item c) (led_more table steps once told io c item led on.0) on.1 (one_item item c led on.0 all)

pub reasons_stay : (N T : Type 0) → EndsLiveByTheTable → EventsAreSteps N T → AttachedOnce N T → SealsAreTold N T → NeverCellsAreNotMet N T → SettledEndsAreGone N T → ReasonsStay N T
reasons_stay N T table steps once told met over io items run =
    All-weaker (Stays c) (HasItsReason c) (λ s stays. stays.1) c.settlements
    (all_items table steps once told met over io items (begun io) (record { items = []; run = tt; is = refl }) run (All-nil _))
  where
    c : Control
    c = after_all items (begun io)
