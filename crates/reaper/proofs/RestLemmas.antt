-- What is done in a call of the reaper, step by step.
use Rattle.std.specs.Prelude.{◌≡◌, ◌++◌, ◌∷◌, [], ℕ, Bool, true, false, List, Option, Some, None, refl}
use Rattle.std.proofs.Common.{append-nil, sym, ap, ◌∙◌, subst}
use Rattle.std.proofs.lemmas.List.{append_cancel_left}
use Rattle.zq_base.specs.declared.ids.EndId.{EndId}
use Rattle.zq_base.specs.declared.ids.ObjId.{ObjId}
use Rattle.zq_base.specs.declared.ids.SlotId.{SlotId}
use Rattle.spec_pattern.specs.PipeStep.{PipeStep, read_through}
use Rattle.spec_control.specs.declared.entry.Did.TheVariants.{Delimited}
use Rattle.spec_control.specs.declared.entry.Item.{Item}
use Rattle.spec_control.specs.declared.entry.Item.TheVariants.{Event}
use Rattle.spec_control.specs.Control.{Control, begun}
use Rattle.spec_control.specs.ControlRun.{after_all, after_item}
use Rattle.spec_control.specs.Moments.{Moment, moments_from}
use Rattle.spec_run.specs.Act.{Act, Step, moments_in, steps_in}
use Rattle.spec_run.specs.Event.{acts_said}
use Rattle.spec_run.specs.OwnedRun.{AreCountedBy}
use Rattle.replay_laws.proofs.LookLemmas.{moments_said}
use Rattle.msg_pipe.specs.Known.{Known}
use Rattle.msg_pipe.specs.Told.{front_step}
use Rattle.msg_pipe.specs.declared.pipes.Front.{Front}
use Rattle.msg_pipe.specs.declared.pipes.Front.TheVariants as front
use Rattle.desk.specs.declared.given.Given.{Given}
use Rattle.desk.specs.Holding.{Stays}
use Rattle.ctl_plane.specs.Past.{control_of, Past}
use Rattle.desk.specs.Coming.{TakesEnds}
use Rattle.desk.specs.Desk.{counts_with, CountsWith, HasWhatTheySay}
use Rattle.desk.specs.declared.delivery.Delivery.{Delivery}
use Rattle.desk.specs.declared.delivery.Delivery.TheVariants.{Done, Empty}
use Rattle.socket_laws.specs.Sides.{is_shut, AreAtEnds, SidesStandOn}
use Rattle.socket_laws.specs.Standing.{opens_in}
use Rattle.plain_desk.specs.Lent.{moments_of, Lent}
use Rattle.plain_desk.specs.Reaping.{FindsFirst}
use Rattle.plain_desk.specs.Waiting.{HearsAt}
use Rattle.socket_laws.proofs.LastLemmas.{grown}
use Rattle.plain_desk.proofs.StayLemmas.{led_more}
use Rattle.core_laws.specs.Done.{PastIn}
use Rattle.closed_ends.specs.declared.sockets.ClosedSockets.{ClosedSockets}
use Rattle.closed_ends.specs.Coming.{IsBrought}
use Rattle.closed_ends.specs.Counting.{counts_of}
use Rattle.closed_ends.specs.Ending.{seals_told, LooksOnce}
use Rattle.closed_ends.specs.Has.{all_ends, holding_in}
use Rattle.reaper.specs.Calls.{FitsClosed, SaysFound, SaysMet}
use Rattle.core_laws.specs.ReapedCall.{IsReapersCall}
use Rattle.reaper.specs.Going.{GoesBy, ReaperHas}
use Rattle.reaper.specs.ReapLaws.{ReapLaws}
use Rattle.reaper.specs.Steps.{acts_after, acts_behind, acts_if, acts_met, item_at, item_found, last_looker, next_of, reads_in, reap_parts, Delivers, DeskStands, LooksAfter, LooksBehindIt, LooksIf, ReapParts}
use Rattle.reaper.proofs.GoLemmas.{goes_both, look, look_goes, one_goes}

-- ---- a call that was one item, or none
module _ {G N T : Type 0} (d e : Lent G N T) (call : IsReapersCall d e) where
  pub more_are : (xs : List (Item N T)) → e.items ≡ d.items ++ xs → call.grows.more ≡ xs
  more_are xs items = append_cancel_left d.items call.grows.more xs (sym call.grows.items ∙ items)

  module _ (item : Item N T) (one : call.grows.more ≡ item ∷ []) where
    abbrev found : Control
    found = after_all d.items (begun d.past.workers)

    pub led_one : control_of e.past ≡ after_item item (after_all d.items (begun d.past.workers))
    led_one = led_more d e call.behind call.grows ∙ ap (λ (xs : List (Item N T)). after_all xs found) one

    -- its steps are seals
    pub at_said : SidesStandOn N T → (may : ℕ → Bool) → AreAtEnds (control_of e.past) may (acts_said (record { found = after_all d.items (begun d.past.workers); item = item }))
    at_said sides may =
        let m : Moment N T = record { found = found; item = item } in
        let behind = call.behind in
        let order = behind.order in
        subst (λ (x : Control). AreAtEnds x may (acts_said m)) (sym behind.control) (sides.said e.past.workers e.items order.run m (sym led_one ∙ behind.control) may)

    -- and it alone was said
    pub said_one : moments_in (acts_said (record { found = after_all d.items (begun d.past.workers); item = item })) ≡ moments_from (control_of d.past) call.grows.more
    said_one =
        let m : Moment N T = record { found = found; item = item } in
        let before = call.before in
        ap moments_in (sym (append-nil (acts_said m))) ∙ moments_said m []
        ∙ ap (λ (c : Control). moments_from c (item ∷ [])) (sym before.control) ∙ ap (moments_from (control_of d.past)) (sym one)

-- ---- the letter
module _ (W : Type 0) {S N O I T : Type 0} (K : Known S O I N) (laws : ReapLaws W K T) (old mid : ReapParts S N O I T) (is : ReaperHas K old) where
  -- one item led from one to the other
  pub record LetterSo (item : Item N T) : Type 0 where
    pub call : IsReapersCall old.desk mid.desk
    pub one : call.grows.more ≡ item ∷ []
    pub goes : GoesBy W K old mid (steps_in (acts_said (next_of K old.desk item)))

  module _ (delivers : Delivers K old mid) where
    letter_so : (item : Item N T) → IsReapersCall old.desk mid.desk → mid.desk.items ≡ old.desk.items ++ item ∷ [] → LetterSo item
    letter_so item call items =
        let one = more_are old.desk mid.desk call (item ∷ []) items in record {
          call = call;
          one = one;
          goes = one_goes W K laws old mid is call delivers.stands delivers.keeps delivers.changes delivers.given delivers.counts (next_of K old.desk item) is.desk.order.control one;
        }

    items_are : (found : Delivery) (f : FindsFirst found old.desk mid.desk) → mid.desk.items ≡ old.desk.items ++ item_found K found old.desk mid.desk f ∷ []
    items_are Done f = f.hears.items
    items_are Empty f = f.sees.items

    pub found_so : (found : Delivery) (f : FindsFirst found old.desk mid.desk) → LetterSo (item_found K found old.desk mid.desk f)
    found_so found f = letter_so (item_found K found old.desk mid.desk f) (laws.calls.found found old.desk mid.desk is.desk.order delivers.stands.order f) (items_are found f)

    pub heard_so : (slot : SlotId) (h : HearsAt slot old.desk mid.desk) → LetterSo (item_at K slot old.desk mid.desk h)
    heard_so slot h = letter_so (item_at K slot old.desk mid.desk h) (laws.calls.heard slot old.desk mid.desk is.desk.order delivers.stands.order h) h.hears.items

-- ---- behind it
module _ (W : Type 0) {S N O I T : Type 0} (K : Known S O I N) (laws : ReapLaws W K T) (mid : ReapParts S N O I T) (is : ReaperHas K mid) where
  -- one item at the most and these acts led to other parts
  pub record RestSo (new : ReapParts S N O I T) (acts : List (Act N T)) : Type 0 where
    pub call : IsReapersCall mid.desk new.desk
    pub goes : GoesBy W K mid new (steps_in acts)
    pub said : moments_in acts ≡ moments_from (control_of mid.desk.past) call.grows.more
    pub at_ends : AreAtEnds (control_of new.desk.past) (λ i. is_shut (opens_in new.desk.items i)) acts

  none_call : IsReapersCall mid.desk mid.desk
  none_call = laws.calls.none mid.desk mid.desk is.desk.order is.desk.order refl

  none_more : none_call.grows.more ≡ []
  none_more = more_are mid.desk mid.desk none_call [] (sym (append-nil mid.desk.items))

  none_said : [] ≡ moments_from (control_of mid.desk.past) none_call.grows.more
  none_said = ap (moments_from (control_of mid.desk.past)) (sym none_more)

  -- nothing more was done
  rest_none : (new : ReapParts S N O I T) → new ≡ mid → RestSo new []
  rest_none new same = subst (λ (l : ReapParts S N O I T). RestSo l []) (sym same) (record {
    call = none_call;
    goes = record {
      has = is;
      past = λ past stands. subst (λ (l : List PipeStep). PastIn K mid.desk mid.pipes l) (sym (append-nil past)) stands;
      counted = λ past stands counts. subst (λ (l : List PipeStep). AreCountedBy l (control_of mid.desk.past).settlements) (sym (append-nil past)) counts;
      agree = λ j t agrees. agrees;
    };
    said = none_said;
    at_ends = tt;
  })

  module _ (new : ReapParts S N O I T) (stands : DeskStands K new.desk) (o : ℕ) (e : EndId) (between : S) (kept : ClosedSockets N O I) (sealed : seals_told (all_ends kept.sockets.items) ≡ seals_told (all_ends mid.closed.sockets.items))
      (stays : Stays o (holding_in K.out_name K.in_name mid.closed) (holding_in K.out_name K.in_name kept)) (has : HasWhatTheySay mid.desk.caller (moments_of mid.desk) (holding_in K.out_name K.in_name kept)) (fits : FitsClosed K between kept) where
    abbrev after_look : ReapParts S N O I T
    after_look = reap_parts mid.desk between kept

    module _ (found : Front) (looked : LooksOnce K mid.pipes between o e found (holding_in K.out_name K.in_name mid.closed)) where
      abbrev step : PipeStep
      step = front_step (read_through e) found

      looking : GoesBy W K mid (reap_parts mid.desk between kept) (front_step (read_through e) found ∷ [])
      looking = look_goes W K laws mid is o e found between kept looked sealed stays has fits

      -- no delimiter was found
      seen : new ≡ reap_parts mid.desk between kept → RestSo new (Step (front_step (read_through e) found) ∷ [])
      seen same = subst (λ (l : ReapParts S N O I T). RestSo l (Step (front_step (read_through e) found) ∷ [])) (sym same) (record {
        call = none_call;
        goes = looking;
        said = none_said;
        at_ends = (laws.shut mid.desk mid.desk mid.pipes between mid.closed (look W K laws mid is o e found between kept looked sealed stays has fits) none_call is.only, tt);
      })

      -- one was, and was said
      module _ (says : SaysMet K (IsBrought (control_of mid.desk.past) mid.desk.past.given) e mid.desk between kept new.desk new.pipes new.closed) where
        abbrev item : Item N T
        item = Event (record { by = mid.desk.caller; did = Delimited e says.meets.answered })

        abbrev m : Moment N T
        m = record { found = after_all mid.desk.items (begun mid.desk.past.workers); item = item }

        call : IsReapersCall mid.desk new.desk
        call = laws.calls.met e true mid.desk new.desk is.desk.order stands.order says.meets

        one : call.grows.more ≡ Event (record { by = mid.desk.caller; did = Delimited e says.meets.answered }) ∷ []
        one = more_are mid.desk new.desk call (item ∷ []) says.meets.items

        takes : TakesEnds mid.desk.past.given new.desk.past.given
        takes = record { ends = []; first = sym (ap (λ (p : Past (Given N O I) N T). p.given) says.meets.past) }

        counts : CountsWith K.out_name (λ x writer. counts_of K between kept.sockets.items x writer) (moments_of mid.desk) (moments_of new.desk) (holding_in K.out_name K.in_name kept)
        counts n more =
            let all : n ∷ [] ≡ moments_from (after_all mid.desk.items (begun mid.desk.past.workers)) (item ∷ []) =
            append_cancel_left (moments_of mid.desk) (n ∷ []) (moments_from (after_all mid.desk.items (begun mid.desk.past.workers)) (item ∷ []))
            (sym more ∙ grown mid.desk new.desk call.grows ∙ ap (λ (xs : List (Item N T)). moments_of mid.desk ++ moments_from (after_all mid.desk.items (begun mid.desk.past.workers)) xs) one) in
            let same : n ≡ m = cc in
            subst (λ (x : Moment N T). counts_with K.out_name (λ y writer. counts_of K between kept.sockets.items y writer) (holding_in K.out_name K.in_name kept) x.item) (sym same) tt

        met_goes : GoesBy W K (reap_parts mid.desk between kept) new (steps_in (acts_said (record { found = after_all mid.desk.items (begun mid.desk.past.workers); item = Event (record { by = mid.desk.caller; did = Delimited e says.meets.answered }) })))
        met_goes = one_goes W K laws after_look new looking.has call stands says.keeps says.changes takes counts m is.desk.order.control one

        met : RestSo new (Step (front_step (read_through e) found) ∷ acts_said (record { found = after_all mid.desk.items (begun mid.desk.past.workers); item = Event (record { by = mid.desk.caller; did = Delimited e says.meets.answered }) }))
        met = record {
          call = call;
          goes = goes_both W K mid after_look new (step ∷ []) (steps_in (acts_said m)) looking met_goes;
          said = said_one mid.desk new.desk call item one;
          at_ends = laws.sides.both (control_of new.desk.past) (λ i. is_shut (opens_in new.desk.items i)) (Step step ∷ []) (acts_said m)
              (laws.shut mid.desk new.desk mid.pipes between mid.closed (look W K laws mid is o e found between kept looked sealed stays has fits) call is.only, tt)
              (at_said mid.desk new.desk call item one laws.sides (λ i. is_shut (opens_in new.desk.items i)));
        }

    parts_same : new.desk ≡ mid.desk → new.pipes ≡ between → new.closed ≡ kept → new ≡ reap_parts mid.desk between kept
    parts_same desk pipes closed =
        ap (λ (d : Lent (Given N O I) N T). reap_parts d new.pipes new.closed) desk
        ∙ ap (λ (p : S). reap_parts mid.desk p new.closed) pipes
        ∙ ap (λ (c : ClosedSockets N O I). reap_parts mid.desk between c) closed

    rest_found : (found : Front) → LooksOnce K mid.pipes between o e found (holding_in K.out_name K.in_name mid.closed) →
        (says : SaysFound K found (IsBrought (control_of mid.desk.past) mid.desk.past.given) e mid.desk between kept new.desk new.pipes new.closed) →
        RestSo new (Step (front_step (read_through e) found) ∷ acts_met K found (IsBrought (control_of mid.desk.past) mid.desk.past.given) e mid.desk new.desk between new.pipes kept new.closed says)
    rest_found front.Message looked says = seen front.Message looked (parts_same says.0 says.1.0 says.1.1)
    rest_found front.Empty looked says = seen front.Empty looked (parts_same says.0 says.1.0 says.1.1)
    rest_found front.Delimiter looked says = met front.Delimiter looked says

  rest_if : (b : Bool) (o : ℕ) (e : EndId) (new : ReapParts S N O I T) (l : LooksIf K b o e mid new) → RestSo new (acts_if K b o e mid new l)
  rest_if true o e new l = rest_found new l.stands o e l.looks.between l.looks.kept l.looks.sealed l.looks.stays l.looks.has l.looks.fits l.found l.looks.looked l.looks.says
  rest_if false o e new l = rest_none new l

  pub rest_after : (looker : Option (ObjId × EndId)) (new : ReapParts S N O I T) (l : LooksAfter K looker mid new) → RestSo new (acts_after K looker mid new l)
  rest_after None new l = rest_none new l
  rest_after (Some x) new l = rest_if (reads_in K mid x.0.0 x.1) x.0.0 x.1 new l

  pub rest_behind : (found : Delivery) (new : ReapParts S N O I T) (l : LooksBehindIt K found mid new) → RestSo new (acts_behind K found mid new l)
  rest_behind Done new l = rest_after (last_looker mid.desk.past.events) new l
  rest_behind Empty new l = rest_none new l
