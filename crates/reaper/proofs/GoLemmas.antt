-- What is so of the parts that are lent to the reaper goes on over a letter, and over a look.
use Rattle.std.specs.Prelude.{◌≡◌, ◌++◌, ℕ, Bool, true, false, List, [], ◌∷◌, All, flat_map}
use Rattle.std.proofs.Common.{append-nil, append_assoc, sym, ◌∙◌, subst}
use Rattle.std.proofs.lemmas.List.Elements.{All-head, All-map, All-tail}
use Rattle.zq_base.specs.declared.ids.EndId.{EndId}
use Rattle.spec_pattern.specs.PipeStep.{PipeStep, read_through}
use Rattle.spec_control.specs.declared.entry.Did.{Did}
use Rattle.spec_control.specs.declared.entry.Did.TheVariants.{Asked, Delivered, Delimited}
use Rattle.spec_control.specs.declared.entry.Item.{Item}
use Rattle.spec_control.specs.declared.entry.Item.TheVariants.{Event, Seen}
use Rattle.spec_control.specs.Control.{Control}
use Rattle.control_laws.proofs.ListLemmas.{never}
use Rattle.spec_control.specs.Moments.{Moment, moments_from}
use Rattle.spec_run.specs.Act.{Act, steps_in}
use Rattle.spec_run.specs.Event.{acts_said}
use Rattle.spec_run.specs.OwnedRun.{AreCountedBy}
use Rattle.msg_pipe.specs.Known.{Known}
use Rattle.msg_pipe.specs.Told.{front_step}
use Rattle.msg_pipe.specs.declared.pipes.Front.{Front}
use Rattle.desk.specs.declared.given.Given.{Given}
use Rattle.desk.specs.Holding.{Stays}
use Rattle.ctl_plane.specs.Past.{control_of}
use Rattle.desk.specs.Coming.{TakesEnds}
use Rattle.desk.specs.Desk.{CountsWith, HasWhatTheySay, KeepsUp}
use Rattle.socket_laws.specs.Asked.{WereAsked}
use Rattle.socket_laws.specs.Bounds.{TellIdentities, TellsIdentityIn}
use Rattle.socket_laws.specs.Behind.{is_request, is_requested}
use Rattle.plain_desk.specs.Lent.{moments_of}
use Rattle.closed_ends.specs.declared.sockets.ClosedSockets.{ClosedSockets}
use Rattle.closed_ends.specs.Coming.{IsBrought}
use Rattle.closed_ends.specs.Counting.{counts_of}
use Rattle.closed_ends.specs.Ending.{seals_told, LooksOnce}
use Rattle.closed_ends.specs.Has.{all_ends, holding_in}
use Rattle.closed_ends.proofs.AddLemmas.{from_map}
use Rattle.reaper.specs.Calls.{ChangesClosed, FitsClosed}
use Rattle.core_laws.specs.Sealed.{AllAsked}
use Rattle.core_laws.specs.Arriving.{ServesClosed}
use Rattle.core_laws.specs.ReapedCall.{IsReapersCall}
use Rattle.core_laws.specs.ReapedComing.{HasOnlyTaken}
use Rattle.core_laws.specs.Ends.{ReaperDid, ReaperGoesOn, ReaperStands}
use Rattle.core_laws.specs.Looked.{ReaperLooked}
use Rattle.core_laws.specs.Done.{PastIn}
use Rattle.reaper.specs.Going.{GoesBy, ReaperHas}
use Rattle.reaper.specs.ReapLaws.{ReapLaws}
use Rattle.reaper.specs.Steps.{reap_parts, DeskStands, ReapParts}

-- ---- an item that is no request tells no identity
module _ {N T : Type 0} where
  tells_none : (did : Did N T) → is_requested did ≡ false → TellsIdentityIn did
  tells_none (Asked req reply h) none = absurd (never (sym none))
  tells_none (Delivered slot letter h) none = tt
  tells_none (Delimited e h) none = tt

  tells_on : (xs ys : List (Item N T)) → All (λ x. is_request x ≡ false) ys → TellIdentities xs → TellIdentities (xs ++ ys)
  tells_on [] [] none tells = tt
  tells_on [] (Event entry ∷ ys) none tells =
      (tells_none entry.did (All-head (λ (x : Item N T). is_request x ≡ false) (Event entry) ys none), tells_on [] ys (All-tail (λ (x : Item N T). is_request x ≡ false) (Event entry) ys none) tt)
  tells_on [] (Seen sight ∷ ys) none tells = tells_on [] ys (All-tail (λ (x : Item N T). is_request x ≡ false) (Seen sight) ys none) tt
  tells_on (Event entry ∷ xs) ys none tells = (tells.0, tells_on xs ys none tells.1)
  tells_on (Seen sight ∷ xs) ys none tells = tells_on xs ys none tells

module _ (W : Type 0) {S N O I T : Type 0} (K : Known S O I N) (old mid new : ReapParts S N O I T) (first behind : List PipeStep) (a : GoesBy W K old mid first) (b : GoesBy W K mid new behind) where
  -- one behind another
  pub goes_both : GoesBy W K old new (first ++ behind)
  goes_both = record {
    has = b.has;
    past = λ past is. subst (λ (l : List PipeStep). PastIn K new.desk new.pipes l) (append_assoc past first behind) (b.past (past ++ first) (a.past past is));
    counted = λ past is counts. subst (λ (l : List PipeStep). AreCountedBy l (control_of new.desk.past).settlements) (append_assoc past first behind)
        (b.counted (past ++ first) (a.past past is) (a.counted past is counts));
    agree = λ j t is. b.agree j t (a.agree j t is);
  }

-- ---- a call of the desk
module _ (W : Type 0) {S N O I T : Type 0} (K : Known S O I N) (laws : ReapLaws W K T) (old new : ReapParts S N O I T) (is : ReaperHas K old) (call : IsReapersCall old.desk new.desk) (stands : DeskStands K new.desk)
    (keeps : KeepsUp new.desk.caller (moments_of old.desk) (moments_of new.desk) (holding_in K.out_name K.in_name old.closed) (holding_in K.out_name K.in_name new.closed))
    (changes : ChangesClosed K (IsBrought (control_of old.desk.past) old.desk.past.given) old.pipes old.closed new.pipes new.closed) (takes : TakesEnds old.desk.past.given new.desk.past.given)
    (counts : CountsWith K.out_name (λ e writer. counts_of K old.pipes old.closed.sockets.items e writer) (moments_of old.desk) (moments_of new.desk) (holding_in K.out_name K.in_name old.closed)) where
  abbrev did : ReaperDid K old.desk new.desk old.pipes new.pipes old.closed new.closed changes.changes
  did = record {
    call = call;
    was_sound = is.fits.sound;
    sound = changes.fits.sound;
    has = is.has;
    keeps = keeps;
    done = changes.done;
    came_are = changes.others.came;
    came = changes.came;
  }

  serves : ServesClosed old.desk new.desk call old.closed
  serves = record { no_plug = laws.plugs old.desk new.desk call; all = laws.had old.desk old.closed is.taken is.only }

  goes : ∥ ReaperGoesOn K old.desk new.desk call old.closed new.closed ∥₁
  goes = laws.goes old.desk new.desk old.pipes new.pipes old.closed new.closed changes.changes did is.desk.ways serves

  stood : ReaperStands K old.desk new.desk call old.pipes new.pipes new.closed
  stood = laws.stand old.desk new.desk old.pipes new.pipes old.closed new.closed changes.changes did is.desk.ways serves is.names.made is.asked is.given_asked counts

  has_now : ReaperHas K new
  has_now = record {
    desk = stands;
    one = call.grows.workers ∙ is.one;
    names = laws.names old.desk new.desk old.pipes new.pipes old.closed new.closed changes.changes did is.names;
    unsealed = laws.unsealed old.desk new.desk old.pipes new.pipes old.closed new.closed changes.changes did goes is.names is.unsealed;
    has = keeps.has;
    fits = changes.fits;
    given = laws.given old.desk new.desk old.pipes new.pipes old.closed new.closed changes.changes did goes is.names stands.ways takes is.given;
    asked = stood.asked;
    given_asked = laws.given_asked old.desk new.desk call takes is.given_asked;
    taken = laws.taken old.desk new.desk old.pipes new.pipes old.closed new.closed changes.changes did is.taken;
    only = subst (λ (k : ℕ). HasOnlyTaken k new.desk) (sym call.grows.caller) (laws.only.reaper old.desk new.desk call is.only);
    tells = subst TellIdentities (sym call.grows.items) (tells_on old.desk.items call.grows.more call.asks_none is.tells);
  }

  pub call_goes : GoesBy W K old new (steps_in (flat_map acts_said (moments_from (control_of old.desk.past) call.grows.more)))
  call_goes = record {
    has = has_now;
    past = stood.past;
    counted = stood.counted;
    agree = λ j t agrees. laws.agree old.desk new.desk old.pipes new.pipes old.closed new.closed changes.changes did goes is.names is.unsealed is.only j t agrees;
  }

  -- which was nothing
  pub none_goes : call.grows.more ≡ [] → GoesBy W K old new []
  none_goes none = subst (λ (xs : List (Item N T)). GoesBy W K old new (steps_in (flat_map acts_said (moments_from (control_of old.desk.past) xs)))) none call_goes

  -- or this item
  pub one_goes : (m : Moment N T) → control_of old.desk.past ≡ m.found → call.grows.more ≡ m.item ∷ [] → GoesBy W K old new (steps_in (acts_said m))
  one_goes m found one =
      subst (λ (l : List (Act N T)). GoesBy W K old new (steps_in l)) (append-nil (acts_said m))
      (subst (λ (c : Control). GoesBy W K old new (steps_in (acts_said (record { found = c; item = m.item }) ++ []))) found
      (subst (λ (xs : List (Item N T)). GoesBy W K old new (steps_in (flat_map acts_said (moments_from (control_of old.desk.past) xs)))) one call_goes))

-- ---- a look
module _ (W : Type 0) {S N O I T : Type 0} (K : Known S O I N) (laws : ReapLaws W K T) (old : ReapParts S N O I T) (is : ReaperHas K old) (o : ℕ) (e : EndId) (found : Front) (between : S) (kept : ClosedSockets N O I)
    (looked : LooksOnce K old.pipes between o e found (holding_in K.out_name K.in_name old.closed)) (sealed : seals_told (all_ends kept.sockets.items) ≡ seals_told (all_ends old.closed.sockets.items))
    (stays : Stays o (holding_in K.out_name K.in_name old.closed) (holding_in K.out_name K.in_name kept)) (has : HasWhatTheySay old.desk.caller (moments_of old.desk) (holding_in K.out_name K.in_name kept)) (fits : FitsClosed K between kept) where
  abbrev pub look : ReaperLooked K old.desk old.pipes between old.closed
  look = record { order = is.desk.order; sound = is.fits.sound; has = is.has; names = is.names; object = o; end = e; found = found; looked = looked }

  asked_still : AllAsked (control_of old.desk.past) (all_ends kept.sockets.items)
  asked_still =
      from_map (λ (x : EndId × Bool). x.1 ≡ true → WereAsked (control_of old.desk.past) (x.0 ∷ [])) (λ (g : Given N O I). (g.end, g.sealed)) (all_ends kept.sockets.items)
      (subst (All (λ (x : EndId × Bool). x.1 ≡ true → WereAsked (control_of old.desk.past) (x.0 ∷ []))) (sym sealed)
      (All-map (λ (x : EndId × Bool). x.1 ≡ true → WereAsked (control_of old.desk.past) (x.0 ∷ [])) (λ (g : Given N O I). (g.end, g.sealed)) (all_ends old.closed.sockets.items) is.asked))

  pub look_goes : GoesBy W K old (reap_parts old.desk between kept) (front_step (read_through e) found ∷ [])
  look_goes = record {
    has = record {
      desk = is.desk;
      one = is.one;
      names = laws.looks.names old.desk old.pipes between old.closed look;
      unsealed = laws.looks.unsealed old.desk old.pipes between old.closed look is.unsealed;
      has = has;
      fits = fits;
      given = laws.looks.given old.desk old.pipes between old.closed look is.desk.ways is.given;
      asked = asked_still;
      given_asked = is.given_asked;
      taken = λ i taken lives. stays.now.objects i ∙ is.taken i taken lives;
      only = is.only;
      tells = is.tells;
    };
    past = λ past stands. laws.looked.past old.desk old.pipes between old.closed look past stands;
    counted = λ past stands counts. laws.looked.counted old.desk old.pipes between old.closed look past counts;
    agree = λ j t agrees. laws.looks.agree old.desk old.pipes between old.closed look is.only j t agrees;
  }
