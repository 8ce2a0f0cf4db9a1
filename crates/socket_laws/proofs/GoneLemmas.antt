-- The end that read a settled pipe is gone.
use Rattle.std.specs.Prelude.{◌≡◌, ◌≤◌, ◌<◌, ◌⊎◌, ◌++◌, ℕ, Bool, true, false, List, [], ◌∷◌, Option, Some, None, is_some, find, if◌then◌else◌, refl}
use Rattle.std.proofs.Common.{arith, sym, ap, ◌∙◌, subst, inl, inr, true≢false}
use Rattle.zq_base.specs.declared.ids.EndId.{EndId}
use Rattle.zq_base.specs.declared.ids.Settled.{Settled}
use Rattle.zq_base.specs.Ends.{other_end}
use Rattle.spec_control.specs.declared.end.EndState.TheVariants.{Active, DelimiterGot, WaitDelimiter, AckSent, AskedOnce, AskedTwice, Gone}
use Rattle.spec_control.specs.declared.end.EndEvent.TheVariants.{AckCame, DelimiterSeen}
use Rattle.spec_control.specs.declared.letter.Word.{Word}
use Rattle.spec_control.specs.declared.letter.Word.TheVariants.{Own, Plug, TermReq, Term, TermAck, PipeBind, PipeTerm, PipeTermAck, Stop, Reap}
use Rattle.spec_control.specs.declared.entry.Did.{Did}
use Rattle.spec_control.specs.declared.entry.Did.TheVariants.{Asked, Delivered, Delimited}
use Rattle.spec_control.specs.declared.entry.Item.{Item}
use Rattle.spec_control.specs.declared.entry.Item.TheVariants.{Event, Seen}
use Rattle.spec_control.specs.Place.{Place, Unmade, Away, At}
use Rattle.spec_control.specs.PairPhase.{Happens, meets, place_after}
use Rattle.spec_control.specs.Rows.{PairRow, obj, end_place, may_end}
use Rattle.spec_control.specs.Control.{Control, Settlement, begun, is_end, happens, try_end, finish, tell_owner, with_value, place_of, next_pair}
use Rattle.spec_control.specs.After.{Answers, answers_in, settle, processed, without_front, after}
use Rattle.spec_control.specs.ControlRun.{after_all, after_item, Fits, FitsItem, IsControlRun}
use Rattle.control_laws.proofs.AskLemmas.{same_end}
use Rattle.control_laws.proofs.HearLemmas.{end_moved}
use Rattle.control_laws.specs.Met.{NeverCellsAreNotMet}
use Rattle.control_laws.proofs.FateLemmas.{answered_same, processed_same, happens_same, try_end_same}
use Rattle.socket_laws.specs.Asked.{asked_rank}
use Rattle.socket_laws.specs.Settled.{SettledEndsAreGone}
use Rattle.socket_laws.proofs.AskedLemmas.{Led, led_more, Went, went}
use Rattle.control_laws.proofs.ListLemmas.{placed}
use Rattle.control_laws.specs.Met.{NeverMeets, met_by}
use Rattle.control_laws.specs.EndStep.{EndsLiveByTheTable}
use Rattle.control_laws.specs.Steps.{EventsAreSteps}
use Rattle.control_laws.specs.AttachedOnce.{AttachedOnce}
use Rattle.run_laws.specs.SealsTold.{SealsAreTold}
use Rattle.spec_control.specs.Rows.{no_pair}
use Rattle.std.specs.Prelude.{not, length, slice_index_or}

-- ---- one end

ack_gone : (p : Place) → meets (Happens AckCame) p ≡ true → place_after (Happens AckCame) p ≡ At Gone
ack_gone (At AckSent) h = refl
ack_gone (At AskedOnce) h = refl
ack_gone (At AskedTwice) h = refl
ack_gone Unmade h = absurd (true≢false (sym h))
ack_gone Away h = absurd (true≢false (sym h))
ack_gone (At Active) h = absurd (true≢false (sym h))
ack_gone (At DelimiterGot) h = absurd (true≢false (sym h))
ack_gone (At WaitDelimiter) h = absurd (true≢false (sym h))
ack_gone (At Gone) h = absurd (true≢false (sym h))

gone_is : (p : Place) → 3 ≤ asked_rank p → p ≡ At Gone
gone_is (At Gone) le = refl
gone_is Unmade le = absurd (omega (arith, le))
gone_is Away le = absurd (omega (arith, le))
gone_is (At Active) le = absurd (omega (arith, le))
gone_is (At DelimiterGot) le = absurd (omega (arith, le))
gone_is (At WaitDelimiter) le = absurd (omega (arith, le))
gone_is (At AckSent) le = absurd (omega (arith, le))
gone_is (At AskedOnce) le = absurd (omega (arith, le))
gone_is (At AskedTwice) le = absurd (omega (arith, le))

none_meets : (a : Bool) → not (meets (Happens AckCame) (end_place no_pair a)) ≡ true
none_meets true = refl
none_meets false = refl

meets_there : (c : Control) (e : EndId) → meets (Happens AckCame) (place_of c e) ≡ true → e.pair.0 < length c.rows.pairs
meets_there c e h = placed (λ (p : PairRow). not (meets (Happens AckCame) (end_place p e.a))) c.rows.pairs no_pair e.pair.0 (none_meets e.a) (ap not h)

-- ---- what an event settles

abbrev HasSettlement : EndId → Control → Type 0
HasSettlement e c = is_some (find (λ (s : Settlement). is_end e s.end) c.settlements) ≡ true

as_same : (e : EndId) (c d : Control) → d.settlements ≡ c.settlements → HasSettlement e d → HasSettlement e c
as_same e c d same = subst (λ (ss : List Settlement). is_some (find (λ (s : Settlement). is_end e s.end) ss) ≡ true) same

found_last : (f : Settlement → Bool) (xs : List Settlement) (y : Settlement) → is_some (find f (xs ++ y ∷ [])) ≡ true → (is_some (find f xs) ≡ true) ⊎ (f y ≡ true)
found_last f [] y h = by (f y) refl h
  where
    by : (b : Bool) → f y ≡ b → is_some (if b then Some y else None) ≡ true → (is_some (find f []) ≡ true) ⊎ (f y ≡ true)
    by true e h = inr e
    by false e h = absurd (true≢false (sym h))
found_last f (x ∷ xs) y h = by (f x) (found_last f xs y) h
  where
    by : (b : Bool) → (is_some (find f (xs ++ y ∷ [])) ≡ true → (is_some (find f xs) ≡ true) ⊎ (f y ≡ true)) → is_some (if b then Some x else find f (xs ++ y ∷ [])) ≡ true
        → (is_some (if b then Some x else find f xs) ≡ true) ⊎ (f y ≡ true)
    by true rest h = inl refl
    by false rest h = rest h

tell_owner_pairs : (owner : Option ℕ) (i : ℕ) (c : Control) → (tell_owner owner i c).rows.pairs ≡ c.rows.pairs
tell_owner_pairs None i c = refl
tell_owner_pairs (Some o) i c = refl

either_pairs : (x : Bool) (c d : Control) (ps : List PairRow) → c.rows.pairs ≡ ps → d.rows.pairs ≡ ps → (if x then c else d).rows.pairs ≡ ps
either_pairs true c d ps h k = h
either_pairs false c d ps h k = k

try_end_pairs : (i : ℕ) (left : Bool) (c : Control) → (try_end i left c).rows.pairs ≡ c.rows.pairs
try_end_pairs i left c =
    let now : Control = record c { output_left = with_value i left c.output_left } in
    either_pairs (may_end c.rows i) (if left then now else finish i now) now c.rows.pairs (either_pairs left now (finish i now) c.rows.pairs refl (tell_owner_pairs (obj now.rows i).owner i _)) refl

settle_pairs : (e : EndId) (counts : Option Settled) (c : Control) → (settle e counts c).rows.pairs ≡ c.rows.pairs
settle_pairs e None c = refl
settle_pairs e (Some counts) c = refl

place_same : (e : EndId) (c d : Control) → d.rows.pairs ≡ c.rows.pairs → place_of d e ≡ place_of c e
place_same e c d same = ap {B = Place} (λ (ps : List PairRow). end_place (slice_index_or ps e.pair.0 no_pair) e.a) same

abbrev Settles : EndId → Control → Control → Type 0
Settles e c d = HasSettlement e d → (HasSettlement e c) ⊎ ((e.pair.0 < next_pair c) × (place_of d e ≡ At Gone))

ack_settles : (e d : EndId) (at : ℕ) (left : Bool) (counts : Option Settled) (c : Control) → meets (Happens AckCame) (place_of c d) ≡ true → Settles e c (try_end at left (settle d counts (happens AckCame d c)))
ack_settles e d at left counts c met has = by counts (as_same e (settle d counts heard) now (try_end_same at left (settle d counts heard)) has)
    (place_same d (settle d counts heard) now (try_end_pairs at left (settle d counts heard)) ∙ place_same d heard (settle d counts heard) (settle_pairs d counts heard) ∙ (end_moved c AckCame d (meets_there c d met)).here ∙ ack_gone (place_of c d) met)
  where
    heard : Control
    heard = happens AckCame d c

    now : Control
    now = try_end at left (settle d counts heard)

    by : (counts : Option Settled) → HasSettlement e (settle d counts heard) → place_of now d ≡ At Gone → (HasSettlement e c) ⊎ ((e.pair.0 < next_pair c) × (place_of now e ≡ At Gone))
    by None so gone = inl (as_same e c heard (happens_same AckCame d c) so)
    by (Some x) so gone = elim (found_last (λ (s : Settlement). is_end e s.end) heard.settlements _ so) [
      | inl was ↦ inl (as_same e c heard (happens_same AckCame d c) was)
      | inr is ↦ inr (subst (λ (f : EndId). (f.pair.0 < next_pair c) × (place_of now f ≡ At Gone)) (sym (same_end e d is)) (meets_there c d met, gone))
    ]

word_settles : (e : EndId) (at : ℕ) (word : Word) (h : Answers) (c : Control) → ((d : EndId) → word ≡ PipeTermAck d → meets (Happens AckCame) (place_of c d) ≡ true) → Settles e c (processed at word h c)
word_settles e at (PipeTermAck d) h c met has = ack_settles e d at h.left h.counts c (met d refl) has
word_settles e at (Own child) h c met has = inl (as_same e c (processed at (Own child) h c) (processed_same at (Own child) h c refl) has)
word_settles e at (Plug end) h c met has = inl (as_same e c (processed at (Plug end) h c) (processed_same at (Plug end) h c refl) has)
word_settles e at (TermReq child) h c met has = inl (as_same e c (processed at (TermReq child) h c) (processed_same at (TermReq child) h c refl) has)
word_settles e at Term h c met has = inl (as_same e c (processed at Term h c) (processed_same at Term h c refl) has)
word_settles e at (TermAck child) h c met has = inl (as_same e c (processed at (TermAck child) h c) (processed_same at (TermAck child) h c refl) has)
word_settles e at (PipeBind d peer) h c met has = inl (as_same e c (processed at (PipeBind d peer) h c) (processed_same at (PipeBind d peer) h c refl) has)
word_settles e at (PipeTerm d) h c met has = inl (as_same e c (processed at (PipeTerm d) h c) (processed_same at (PipeTerm d) h c refl) has)
word_settles e at Stop h c met has = inl (as_same e c (processed at Stop h c) (processed_same at Stop h c refl) has)
word_settles e at (Reap socket) h c met has = inl (as_same e c (processed at (Reap socket) h c) (processed_same at (Reap socket) h c refl) has)

module _ {N T : Type 0} where
  event_settles : (e : EndId) (did : Did N T) (c : Control) → NeverMeets c → Fits c did → Settles e c (after did c)
  event_settles e (Asked req reply h) c never fits has = inl (as_same e c (after (Asked req reply h) c) (answered_same req reply (answers_in h) c) has)
  event_settles e (Delivered slot letter h) c never fits has =
      word_settles e letter.to.0 letter.word (answers_in h) (without_front slot.0 c)
      (λ d is. never.commands slot.0 letter (record { end = d; event = Happens AckCame }) fits.may (ap met_by is)) has
  event_settles e (Delimited d h) c never fits has = inl (as_same e c (happens DelimiterSeen d c) (happens_same DelimiterSeen d c) has)

-- ---- item by item

module _ {N T : Type 0} (table : EndsLiveByTheTable) (steps : EventsAreSteps N T) (once : AttachedOnce N T) (told : SealsAreTold N T) (met : NeverCellsAreNotMet N T) (io : ℕ) (e : EndId) where
  record IsOver (c : Control) : Type 0 where
    within : e.pair.0 < next_pair c
    gone : place_of c e ≡ At Gone

  stays_over : (c : Control) (item : Item N T) → Led table steps once told io c → FitsItem c item → IsOver c → IsOver (after_item item c)
  stays_over c item led fits over =
      let on : Went table steps once told io c (after_item item c) = went table steps once told io c item led fits in
      let lt = over.within in
      let pairs = on.pairs in
      let rank = on.rank e over.within in
      let three = ap asked_rank over.gone in
      record { within = omega (arith, lt, pairs); gone = gone_is (place_of (after_item item c) e) (omega (arith, rank, three)) }

  item_over : (item : Item N T) (c : Control) → Led table steps once told io c → FitsItem c item → (HasSettlement e c → IsOver c) → HasSettlement e (after_item item c) → IsOver (after_item item c)
  item_over (Seen sight) c led fits so has = so has
  item_over (Event entry) c led fits so has =
      elim (event_settles e entry.did c (subst NeverMeets led.is (met io led.items led.run)) fits has) [
        | inl was ↦ stays_over c (Event entry) led fits (so was)
        | inr now ↦ (let on : Went table steps once told io c (after_item (Event entry) c) = went table steps once told io c (Event entry) led fits in let pairs = on.pairs in let lt = now.0 in record { within = omega (arith, pairs, lt); gone = now.1 })
      ]

  all_over : (more : List (Item N T)) (c : Control) → Led table steps once told io c → IsControlRun c more → (HasSettlement e c → IsOver c) → HasSettlement e (after_all more c) → IsOver (after_all more c)
  all_over [] c led on so has = so has
  all_over (item ∷ more) c led on so has = all_over more (after_item item c) (led_more table steps once told io c item led on.0) on.1 (item_over item c led on.0 so) has

pub settled_ends_are_gone : (N T : Type 0) → EndsLiveByTheTable → EventsAreSteps N T → AttachedOnce N T → SealsAreTold N T → NeverCellsAreNotMet N T → SettledEndsAreGone N T
settled_ends_are_gone N T table steps once told met io items run p has =
    let over = all_over table steps once told met io (other_end p) items (begun io) (record { items = []; run = tt; is = refl }) run (λ none. absurd (true≢false (sym none))) has in
    (over.within, over.gone)
