-- A call of the reaper is a step of the reaper's, and what stands goes on over it.
use Rattle.std.specs.Prelude.{◌≡◌, ◌-◌, ◌==◌, ◌++◌, ◌∷◌, [], ℕ, Bool, true, false, All, List, Option, Some, None, length, slice_get, refl}
use Rattle.std.specs.List.{list_any}
use Rattle.std.proofs.Common.{arith, append-nil, append_assoc, sym, ap, ◌∙◌, subst}
use Rattle.std.proofs.lemmas.List.{length-append}
use Rattle.std.proofs.lemmas.List.Elements.{All-append, filter_map-append}
use Rattle.zq_base.specs.declared.ids.EndId.{EndId}
use Rattle.zq_base.specs.declared.ids.ObjId.{ObjId}
use Rattle.zq_base.specs.declared.ids.SlotId.{SlotId}
use Rattle.spec_pattern.specs.PipeStep.{PipeStep, read_through}
use Rattle.spec_control.specs.declared.letter.Word.{Word}
use Rattle.spec_control.specs.declared.letter.Word.TheVariants.{Own, Plug, TermReq, Term, TermAck, PipeBind, PipeTerm, PipeTermAck, Stop, Reap}
use Rattle.spec_control.specs.declared.entry.Did.{Did}
use Rattle.spec_control.specs.declared.entry.Did.TheVariants.{Delivered}
use Rattle.spec_control.specs.declared.entry.Item.{Item}
use Rattle.spec_control.specs.Rows.{obj}
use Rattle.spec_control.specs.Control.{Control, begun, place_of}
use Rattle.spec_control.specs.ControlRun.{after_all, after_item}
use Rattle.spec_control.specs.Held.{caller_of}
use Rattle.spec_control.specs.Moments.{Moment, moments_from, reaper_slots}
use Rattle.spec_run.specs.Act.{Act, Deed, Fetches, Idles, Step, acts_of, moments_in, pipe_step_of, steps_in}
use Rattle.spec_run.specs.Event.{acts_said, finds_end, finds_none, finds_one, LooksBehind, LooksFront, LooksWhere}
use Rattle.spec_run.specs.InTurns.{ReaperStep}
use Rattle.spec_run.specs.Worker.{ReapsLetter}
use Rattle.spec_run.specs.OpenSocket.{awaits_delimiter}
use Rattle.replay_laws.proofs.LookLemmas.{moments_said}
use Rattle.msg_pipe.specs.Known.{Known}
use Rattle.msg_pipe.specs.Told.{front_step}
use Rattle.msg_pipe.specs.declared.pipes.Front.{Front}
use Rattle.msg_pipe.specs.declared.pipes.Front.TheVariants as front
use Rattle.desk.specs.declared.given.Given.{Given}
use Rattle.ctl_plane.specs.Addressee.{addressee_if, addressee_of, asked_by, asked_if, asked_with, last_asked}
use Rattle.ctl_plane.specs.Past.{control_of, Past}
use Rattle.desk.specs.declared.delivery.Delivery.{Delivery}
use Rattle.desk.specs.declared.delivery.Delivery.TheVariants.{Done, Empty}
use Rattle.socket_laws.specs.Sides.{is_shut, AreAtEnds}
use Rattle.socket_laws.specs.Standing.{opens_in}
use Rattle.socket_laws.proofs.AsideLemmas.{said_alone}
use Rattle.plain_desk.specs.Lent.{moments_of, GrowsBy, IsOneOrder, Lent}
use Rattle.plain_desk.specs.Reaping.{FindsFirst, is_taken}
use Rattle.plain_desk.specs.Waiting.{HearsAt}
use Rattle.plain_desk.proofs.WaitLemmas.{first_hears}
use Rattle.plain_desk.proofs.StayLemmas.{led_more, run_more}
use Rattle.core_laws.specs.Reaps.{ReapDone}
use Rattle.closed_ends.specs.declared.sockets.ClosedSockets.{ClosedSockets}
use Rattle.closed_ends.specs.Finding.{HasRoom}
use Rattle.closed_ends.specs.Has.{holding_in}
use Rattle.reaper.specs.Calls.{SaysFound}
use Rattle.core_laws.specs.Asked.{IsItsOwn}
use Rattle.core_laws.specs.ReapedCall.{IsReapersCall}
use Rattle.reaper.specs.Going.{GoesBy, ReaperHas, ReapIsLetter, ReapIsNone, ReapIsStep, ReapsGoOn}
use Rattle.reaper.specs.ReapLaws.{ReapLaws}
use Rattle.reaper.specs.Steps.{acts_after, acts_at, acts_behind, acts_if, acts_met, acts_reaped, item_at, item_found, last_looker, looker_of, next_of, reads_in, LooksAfter, LooksBehindIt, LooksIf, MayReap, ReapedAt, ReapedSo, ReapParts, WantsMemory}
use Rattle.reaper.proofs.GoLemmas.{goes_both, none_goes}
use Rattle.reaper.proofs.ReadLemmas.{reads_are}
use Rattle.reaper.proofs.RestLemmas.{at_said, found_so, heard_so, led_one, more_are, rest_after, rest_behind, LetterSo, RestSo}

none_some : {X : Type 0} {x : X} → None ≡ Some x → ⊥
none_some e = Prim.grind arith

some_is : {X : Type 0} {x y : X} → Some x ≡ Some y → x ≡ y
some_is e = Prim.grind arith

-- ---- the last of the events
last_at : {X : Type 0} (xs : List X) (x : X) → slice_get (xs ++ x ∷ []) (length xs) ≡ Some x
last_at [] x = refl
last_at (y ∷ xs) x = last_at xs x

last_one : {X : Type 0} (xs : List X) (x : X) → slice_get (xs ++ x ∷ []) (length (xs ++ x ∷ []) - 1) ≡ Some x
last_one xs x =
    let all = length-append xs (x ∷ []) in
    let e : length (xs ++ x ∷ []) - 1 ≡ length xs = omega (arith, all) in
    ap (slice_get (xs ++ x ∷ [])) e ∙ last_at xs x

module _ {N T : Type 0} where
  looker_last : (events : List (Did N T)) (did : Did N T) → last_looker (events ++ did ∷ []) ≡ looker_of (addressee_of did) (asked_with did)
  looker_last events did =
      let one = last_one events did in
      ap (λ (x : Option (Did N T)). looker_of (addressee_if x) (last_asked (events ++ did ∷ []))) one
      ∙ ap (λ (x : Option (Did N T)). looker_of (addressee_of did) (asked_if x)) one

-- ---- the looks behind a letter
module _ {S N O I T : Type 0} (K : Known S O I N) where
  front_so : (found : Front) (brings : ℕ → Given N O I → Type 0) (e : EndId) (d now : Lent (Given N O I) N T) (old new : S) (from to : ClosedSockets N O I) (s : SaysFound K found brings e d old from now new to) →
      LooksFront e (Step (front_step (read_through e) found) ∷ acts_met K found brings e d now old new from to s)
  front_so front.Message brings e d now old new from to s = finds_one refl
  front_so front.Empty brings e d now old new from to s = finds_none refl
  front_so front.Delimiter brings e d now old new from to s = finds_end _ (record { by = d.caller; answered = s.meets.answered; item_is = refl }) refl

  where_so : (b : Bool) (o : ℕ) (e : EndId) (mid new : ReapParts S N O I T) (l : LooksIf K b o e mid new) → LooksWhere b e (acts_if K b o e mid new l)
  where_so true o e mid new l = front_so l.found _ e mid.desk new.desk l.looks.between new.pipes l.looks.kept new.closed l.looks.says
  where_so false o e mid new l = refl

module _ (W : Type 0) {S N O I T : Type 0} (K : Known S O I N) (laws : ReapLaws W K T) (old mid new : ReapParts S N O I T) (is : ReaperHas K old) (has : ReaperHas K mid) (slot : SlotId) (h : HearsAt slot old.desk mid.desk) where
  abbrev c : Control
  c = control_of mid.desk.past

  -- where the end is asked that a letter said
  at_end : (e : EndId) → h.hears.letter.word ≡ PipeTerm e → (x : ObjId × EndId) → x ≡ (h.hears.letter.to, e) → (l : LooksAfter K (Some x) mid new) →
      LooksWhere (awaits_delimiter (place_of (control_of mid.desk.past) e)) e (acts_after K (Some x) mid new l)
  at_end e word x same l =
      let end : x.1 ≡ e = ap (λ (y : ObjId × EndId). y.1) same in
      let object : x.0.0 ≡ h.hears.letter.to.0 = ap (λ (y : ObjId × EndId). y.0.0) same in
      let its : IsItsOwn mid.desk h.hears.letter x.1 = laws.asks slot old.desk mid.desk is.desk.order has.desk.order h x.1 (word ∙ ap PipeTerm (sym end)) in
      subst (λ (y : EndId). LooksWhere (awaits_delimiter (place_of c y)) y (acts_after K (Some x) mid new l)) end
      (subst (λ (b : Bool). LooksWhere b x.1 (acts_after K (Some x) mid new l))
      (sym (reads_are K mid.desk has.desk.order mid.pipes mid.closed has.fits.sound has.has x.0.0 x.1 has.taken (its.own ∙ sym object)
      (ap (λ (n : ℕ). is_taken (obj c.rows n)) object ∙ its.taken)))
      (where_so K (reads_in K mid x.0.0 x.1) x.0.0 x.1 mid new l))

  behind_word : (word : Word) → h.hears.letter.word ≡ word → (looker : Option (ObjId × EndId)) → looker ≡ looker_of (Some h.hears.letter.to) (asked_by word) → (l : LooksAfter K looker mid new) →
      LooksBehind (control_of mid.desk.past) word (acts_after K looker mid new l)
  behind_word (PipeTerm e) word None same l = absurd (none_some same)
  behind_word (PipeTerm e) word (Some x) same l = at_end e word x (some_is same) l
  behind_word (Own child) word None same l = refl
  behind_word (Own child) word (Some x) same l = absurd (none_some (sym same))
  behind_word (Plug end) word None same l = refl
  behind_word (Plug end) word (Some x) same l = absurd (none_some (sym same))
  behind_word (TermReq child) word None same l = refl
  behind_word (TermReq child) word (Some x) same l = absurd (none_some (sym same))
  behind_word Term word None same l = refl
  behind_word Term word (Some x) same l = absurd (none_some (sym same))
  behind_word (TermAck child) word None same l = refl
  behind_word (TermAck child) word (Some x) same l = absurd (none_some (sym same))
  behind_word (PipeBind e peer) word None same l = refl
  behind_word (PipeBind e peer) word (Some x) same l = absurd (none_some (sym same))
  behind_word (PipeTermAck e) word None same l = refl
  behind_word (PipeTermAck e) word (Some x) same l = absurd (none_some (sym same))
  behind_word Stop word None same l = refl
  behind_word Stop word (Some x) same l = absurd (none_some (sym same))
  behind_word (Reap socket) word None same l = refl
  behind_word (Reap socket) word (Some x) same l = absurd (none_some (sym same))

  pub behind_letter : (l : LooksAfter K (last_looker mid.desk.past.events) mid new) → LooksBehind (control_of mid.desk.past) h.hears.letter.word (acts_after K (last_looker mid.desk.past.events) mid new l)
  behind_letter l =
      behind_word h.hears.letter.word refl (last_looker mid.desk.past.events)
      (ap (λ (p : Past (Given N O I) N T). last_looker p.events) h.hears.past ∙ looker_last old.desk.past.events (Delivered slot h.hears.letter h.hears.answered)) l

-- ---- the whole call: a letter, or a look that found none, and what was done behind it
module _ (W : Type 0) {S N O I T : Type 0} (K : Known S O I N) (laws : ReapLaws W K T) (old mid new : ReapParts S N O I T) (is : ReaperHas K old) (item : Item N T) (letter : LetterSo W K laws old mid is item) (looks : List (Act N T)) (rest : RestSo W K laws mid letter.goes.has new looks) where
  abbrev m : Moment N T
  m = next_of K old.desk item

  abbrev call : IsReapersCall old.desk mid.desk
  call = letter.call

  pub goes_all : GoesBy W K old new (steps_in (acts_said (next_of K old.desk item) ++ looks))
  goes_all =
      subst (λ (l : List PipeStep). GoesBy W K old new l) (sym (filter_map-append pipe_step_of (acts_said m) looks))
      (goes_both W K old mid new (steps_in (acts_said m)) (steps_in looks) letter.goes rest.goes)

  abbrev grows : GrowsBy old.desk new.desk
  grows =
      let a : GrowsBy old.desk mid.desk = call.grows in
      let next : IsReapersCall mid.desk new.desk = rest.call in
      let b : GrowsBy mid.desk new.desk = next.grows in record {
        caller = b.caller ∙ a.caller;
        workers = b.workers ∙ a.workers;
        more = a.more ++ b.more;
        items = b.items ∙ ap (λ (xs : List (Item N T)). xs ++ b.more) a.items ∙ append_assoc old.desk.items a.more b.more;
        by = All-append (λ (x : Item N T). caller_of x ≡ old.desk.caller) a.more b.more a.by (subst (λ (k : ℕ). All (λ (x : Item N T). caller_of x ≡ k) b.more) a.caller b.by);
      }

  abbrev later : List (Item N T)
  later = rest.call.grows.more

  said_all : moments_in (acts_said (next_of K old.desk item) ++ looks) ≡ moments_from (control_of old.desk.past) (call.grows.more ++ rest.call.grows.more)
  said_all =
      moments_said m looks
      ∙ ap (λ (ms : List (Moment N T)). m ∷ ms) (rest.said ∙ ap (λ (c : Control). moments_from c later) (led_one old.desk mid.desk call item letter.one))
      ∙ ap (λ (c : Control). moments_from c (item ∷ later)) (sym is.desk.order.control)
      ∙ ap (λ (xs : List (Item N T)). moments_from (control_of old.desk.past) (xs ++ later)) (sym letter.one)

  shut_all : AreAtEnds (control_of new.desk.past) (λ i. is_shut (opens_in new.desk.items i)) (acts_said (next_of K old.desk item) ++ looks)
  shut_all =
      let may = λ (i : ℕ). is_shut (opens_in new.desk.items i) in
      let next : IsReapersCall mid.desk new.desk = rest.call in
      let has : ReaperHas K mid = letter.goes.has in
      let order : IsOneOrder mid.desk = has.desk.order in
      let run = order.order in
      laws.sides.both (control_of new.desk.past) may (acts_said m) looks
      (subst (λ (c : Control). AreAtEnds c may (acts_said m)) (sym (led_more mid.desk new.desk next.behind next.grows))
      (laws.sides.stay mid.desk.past.workers mid.desk.items later run.run (run_more mid.desk new.desk next.behind next.grows) may (acts_said m)
      (subst (λ (c : Control). AreAtEnds c may (acts_said m)) order.control (at_said old.desk mid.desk call item letter.one laws.sides may))))
      rest.at_ends

  pub reap_done : ReapDone K old.desk new.desk old.pipes new.pipes (acts_said (next_of K old.desk item) ++ looks)
  reap_done = record { grows = grows; said = said_all; past = goes_all.past; counted = goes_all.counted; at_ends = shut_all }

-- ---- a letter of one of its mailboxes
module _ (W : Type 0) {S N O I T : Type 0} (K : Known S O I N) (laws : ReapLaws W K T) (old mid new : ReapParts S N O I T) (is : ReaperHas K old) (has : ReaperHas K mid) (slot : SlotId) (h : HearsAt slot old.desk mid.desk) where
  abbrev pub takes_letter : control_of mid.desk.past ≡ after_item (item_at K slot old.desk mid.desk h) (after_all old.desk.items (begun old.desk.past.workers)) → (l : LooksAfter K (last_looker mid.desk.past.events) mid new) →
      ReapsLetter slot.0 (acts_said (next_of K old.desk (item_at K slot old.desk mid.desk h)) ++ acts_after K (last_looker mid.desk.past.events) mid new l)
  takes_letter left l = record {
    takes = record {
      taken = next_of K old.desk (item_at K slot old.desk mid.desk h);
      letter = h.hears.letter;
      looks = acts_after K (last_looker mid.desk.past.events) mid new l;
      delivery = record { by = old.desk.caller; answered = h.hears.answered; item_is = refl };
      behind = subst (λ (c : Control). LooksBehind c h.hears.letter.word (acts_after K (last_looker mid.desk.past.events) mid new l)) left (behind_letter W K laws old mid new is has slot h l);
      acts_are = refl;
    };
    has = subst (λ (c : Control). list_any (λ k. k == slot.0) (reaper_slots c) ≡ true) is.desk.order.control h.mine;
  }

module _ (W : Type 0) {S N O I T : Type 0} (K : Known S O I N) (laws : ReapLaws W K T) (slot : SlotId) (old new : ReapParts S N O I T) (is : ReaperHas K old) (r : ReapedAt K slot old new) where
  abbrev its_letter : LetterSo W K laws old r.mid is (item_at K slot old.desk r.mid.desk r.hears)
  its_letter = heard_so W K laws old r.mid is r.delivers slot r.hears

  pub reap_is_letter : ReapIsLetter W K slot.0 old new (acts_at K slot old new r)
  reap_is_letter =
      let item = item_at K slot old.desk r.mid.desk r.hears in
      let looks = acts_after K (last_looker r.mid.desk.past.events) r.mid new r.looks in
      let rest = rest_after W K laws r.mid its_letter.goes.has (last_looker r.mid.desk.past.events) new r.looks in record {
        goes = goes_all W K laws old r.mid new is item its_letter looks rest;
        done = reap_done W K laws old r.mid new is item its_letter looks rest;
        reaps = takes_letter W K laws old r.mid new is its_letter.goes.has slot r.hears (led_one old.desk r.mid.desk its_letter.call item its_letter.one) r.looks;
      }

-- ---- a letter of the first of them, or a look that found none
module _ (W : Type 0) {S N O I T : Type 0} (K : Known S O I N) (laws : ReapLaws W K T) (old new : ReapParts S N O I T) (is : ReaperHas K old) (r : ReapedSo K old new) where
  abbrev mid : ReapParts S N O I T
  mid = r.mid

  abbrev letter : LetterSo W K laws old r.mid is (item_found K r.found old.desk r.mid.desk r.finds)
  letter = found_so W K laws old r.mid is r.delivers r.found r.finds

  -- what kind of step it is
  record DeedIs (acts : List (Act N T)) : Type 0 where
    deed : Deed N T
    acts_are : acts_of deed ≡ acts
    step : ReaperStep (deed ∷ [])

  deed_of : (found : Delivery) (f : FindsFirst found old.desk r.mid.desk) → control_of r.mid.desk.past ≡ after_item (item_found K found old.desk r.mid.desk f) (after_all old.desk.items (begun old.desk.past.workers)) →
      (l : LooksBehindIt K found r.mid new) → DeedIs (acts_said (next_of K old.desk (item_found K found old.desk r.mid.desk f)) ++ acts_behind K found r.mid new l)
  deed_of Done f left l =
      let taken = takes_letter W K laws old mid new is letter.goes.has f.slot (first_hears old.desk mid.desk is.desk.order f) left l in record {
        deed = Fetches f.slot.0 (acts_said (next_of K old.desk (item_found K Done old.desk mid.desk f)) ++ acts_behind K Done mid new l);
        acts_are = refl;
        step = record { takes = taken.takes; first = f.first };
      }
  deed_of Empty f left l =
      let seen = next_of K old.desk (item_found K Empty old.desk mid.desk f) in record {
        deed = Idles seen;
        acts_are = sym (said_alone seen refl) ∙ sym (append-nil (acts_said seen));
        step = record { sight = f.sight; empty_is = f.sees.looked_at; item_is = refl };
      }

  pub reap_is_step : ReapIsStep W K old new (acts_reaped K old new r)
  reap_is_step =
      let item = item_found K r.found old.desk mid.desk r.finds in
      let looks = acts_behind K r.found mid new r.looks in
      let rest = rest_behind W K laws mid letter.goes.has r.found new r.looks in
      let is_deed = deed_of r.found r.finds (led_one old.desk mid.desk letter.call item letter.one) r.looks in record {
        goes = goes_all W K laws old mid new is item letter looks rest;
        done = reap_done W K laws old mid new is item letter looks rest;
        deed = is_deed.deed;
        acts_are = is_deed.acts_are;
        step = is_deed.step;
      }

-- ---- memory was wanting
module _ (W : Type 0) {S N O I T : Type 0} (K : Known S O I N) (laws : ReapLaws W K T) (old new : ReapParts S N O I T) (is : ReaperHas K old) (wants : WantsMemory K old new) where
  no_call : IsReapersCall old.desk new.desk
  no_call = laws.calls.none old.desk new.desk is.desk.order wants.delivers.stands.order wants.same

  no_more : no_call.grows.more ≡ []
  no_more = more_are old.desk new.desk no_call [] (ap (λ (x : Lent (Given N O I) N T). x.items) wants.same ∙ sym (append-nil old.desk.items))

  stays : GoesBy W K old new []
  stays = none_goes W K laws old new is no_call wants.delivers.stands wants.delivers.keeps wants.delivers.changes wants.delivers.given wants.delivers.counts no_more

  pub reap_is_none : ReapIsNone W K old new
  reap_is_none = record {
    goes = stays;
    done = record {
      grows = no_call.grows;
      said = ap (moments_from (control_of old.desk.past)) (sym no_more);
      past = stays.past;
      counted = stays.counted;
      at_ends = tt;
    };
    holds = λ i here. sym (wants.delivers.keeps.objects.none (ap moments_of wants.same) i).0 ∙ here;
  }

-- ---- what the reaper asks for a letter
module _ (W : Type 0) {S N O I T : Type 0} (K : Known S O I N) (laws : ReapLaws W K T) where
  may_reap : (l : ReapParts S N O I T) → ReaperHas K l → HasRoom l.closed → MayReap K l
  may_reap l is room = record {
    fits = is.fits;
    lent = laws.served l.desk (holding_in K.out_name K.in_name l.closed) is.taken is.only;
    has = is.has;
    distinct = is.names.distinct;
    binds = laws.binds l.desk is.desk.order is.names.distinct l.pipes is.names.there is.unsealed l.closed is.fits.sound is.has;
    takes = laws.takes (control_of l.desk.past) l.pipes l.closed l.desk.past.given is.given room;
  }

  pub reaps_go_on : ReapsGoOn W K T
  reaps_go_on = record { may = may_reap; steps = reap_is_step W K laws; letters = reap_is_letter W K laws; none = reap_is_none W K laws }
