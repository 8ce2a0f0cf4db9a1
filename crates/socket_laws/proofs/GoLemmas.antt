-- What joins an open socket in an item of it, and which changes of state are told.
use Rattle.std.specs.Prelude.{◌≡◌, ◌≢◌, ◌<◌, ◌==◌, ℕ, Bool, true, false, cond, List, [], ◌∷◌, ◌++◌, Some, None, All, map, filter, refl}
use Rattle.std.proofs.Common.{sym, ap, ◌∙◌, subst}
use Rattle.std.proofs.lemmas.Bool.{eq-eqb}
use Rattle.std.proofs.lemmas.List.{append-nil}
use Rattle.std.proofs.lemmas.List.Elements.{All-nil, All-cons, All-head, All-tail, All-append, All-weaker, filter-append}
use Rattle.zq_base.specs.declared.ids.EndId.{EndId}
use Rattle.zq_base.specs.declared.ids.ObjId.{ObjId}
use Rattle.zq_base.specs.declared.ids.SlotId.{SlotId}
use Rattle.spec_control.specs.declared.end.EndState.{EndState}
use Rattle.spec_control.specs.declared.end.EndState.TheVariants.{Active, DelimiterGot, WaitDelimiter, AckSent, AskedOnce, AskedTwice, Gone}
use Rattle.spec_control.specs.declared.letter.Word.{Word}
use Rattle.spec_control.specs.declared.letter.Word.TheVariants.{Own, Plug, TermReq, Term, TermAck, PipeBind, PipeTerm, PipeTermAck, Stop, Reap}
use Rattle.spec_control.specs.declared.entry.Answered.{Answered}
use Rattle.spec_control.specs.declared.entry.Joining.{Joining}
use Rattle.spec_control.specs.declared.entry.Did.{Did}
use Rattle.spec_control.specs.declared.entry.Did.TheVariants.{Asked, Delivered, Delimited}
use Rattle.spec_control.specs.declared.entry.Item.{Item}
use Rattle.spec_control.specs.declared.entry.Item.TheVariants.{Event, Seen}
use Rattle.spec_control.specs.declared.request.Req.{Req}
use Rattle.spec_control.specs.declared.request.Req.TheVariants.{Socket as MakeSocket, AskTerm, Bind, Connect, Unbind, Disconnect, Close, Accepted, Shaken, AskEnd, AskOver, OutputOver}
use Rattle.spec_control.specs.Place.{Place, Unmade, Away, At}
use Rattle.spec_control.specs.Control.{Control, begun, next_pair, owner_of, place_of, ends_of}
use Rattle.spec_control.specs.After.{after}
use Rattle.spec_control.specs.ControlRun.{Fits, Joins, after_all, answer_of}
use Rattle.spec_control.specs.Held.{asker, caller_of, subject_of}
use Rattle.spec_control.specs.Has.{acts_in_request}
use Rattle.control_laws.proofs.ListLemmas.{never}
use Rattle.control_laws.specs.Kept.{Kept}
use Rattle.control_laws.specs.OwnMoves.{own_moves, word_moves}
use Rattle.control_laws.specs.Spared.{Known, touched_in}
use Rattle.control_laws.proofs.EventLemmas.{others_spared}
use Rattle.control_laws.proofs.LeadLemmas.{attached_by, old_end}
use Rattle.control_laws.proofs.AttachedLemmas.{ends_of_joins, asked_ends, attached_after}
use Rattle.control_laws.proofs.AttachedOnceLemmas.{IsOld, AreOld, old_run}
use Rattle.desk.specs.Joins.{came_in, come_by}
use Rattle.desk.specs.Turns.{turn_at, turned_over, turned_in}
use Rattle.control_laws.proofs.MomentLemmas.{shown_at, reap_root}
use Rattle.control_laws.proofs.OwnerLemmas.{mine_all}
use Rattle.socket_laws.specs.Open.{IsOf, HasOpen, moment_at, left_before, ComesTo}
use Rattle.socket_laws.specs.OpenEnds.{GoesOn, EndsGoOn}
use Rattle.socket_laws.proofs.OpenLemmas.{none_some, some_is, all_kept, above, run_before, run_last, callers_before}
use Rattle.socket_laws.proofs.LeftLemmas.{open_ends_are_left}

-- ---- of lists
pub all_pass : {X : Type 0} (f : X → Bool) (xs : List X) → All (λ x. f x ≡ true) xs → filter f xs ≡ xs
all_pass f [] all = refl
all_pass {X = X} f (x ∷ xs) all =
    ap (λ (b : Bool). cond b (x ∷ filter f xs) (filter f xs)) (All-head (λ y. f y ≡ true) x xs all)
    ∙ ap (λ (ys : List X). x ∷ ys) (all_pass f xs (All-tail (λ y. f y ≡ true) x xs all))

pub same_filter : {X : Type 0} (f g : X → Bool) (xs : List X) → All (λ x. f x ≡ g x) xs → filter f xs ≡ filter g xs
same_filter f g [] all = refl
same_filter {X = X} f g (x ∷ xs) all =
    ap (λ (b : Bool). cond b (x ∷ filter f xs) (filter f xs)) (All-head (λ y. f y ≡ g y) x xs all)
    ∙ ap (λ (ys : List X). cond (g x) (x ∷ ys) ys) (same_filter f g xs (All-tail (λ y. f y ≡ g y) x xs all))

-- ---- changes of state
pub turn_same : (e : EndId) (p : Place) → turn_at e p p ≡ []
turn_same e Unmade = refl
turn_same e Away = refl
turn_same e (At Active) = refl
turn_same e (At DelimiterGot) = refl
turn_same e (At WaitDelimiter) = refl
turn_same e (At AckSent) = refl
turn_same e (At AskedOnce) = refl
turn_same e (At AskedTwice) = refl
turn_same e (At Gone) = refl

none_turn : (f : EndId → Place) (es : List EndId) → turned_over f f es ≡ []
none_turn f [] = refl
none_turn f (e ∷ es) = ap (λ (ts : List (EndId × EndState)). ts ++ turned_over f f es) (turn_same e (f e)) ∙ none_turn f es

module _ (before now : EndId → Place) (p : EndId → Bool) where
  -- those of some of the ends, where the others are where they were
  turned_among : (es : List EndId) → All (λ e. p e ≡ false → turn_at e (before e) (now e) ≡ []) es → turned_over before now es ≡ turned_over before now (filter p es)
  turned_among [] all = refl
  turned_among (e ∷ es) all = by (p e) refl (turned_among es (All-tail (λ x. p x ≡ false → turn_at x (before x) (now x) ≡ []) e es all))
    where
      by : (b : Bool) → p e ≡ b → turned_over before now es ≡ turned_over before now (filter p es) → turned_over before now (e ∷ es) ≡ turned_over before now (cond b (e ∷ filter p es) (filter p es))
      by true is rest = ap (λ (ts : List (EndId × EndState)). turn_at e (before e) (now e) ++ ts) rest
      by false is rest =
          ap (λ (ts : List (EndId × EndState)). ts ++ turned_over before now es) (All-head (λ x. p x ≡ false → turn_at x (before x) (now x) ≡ []) e es all is) ∙ rest

-- ---- what joins
module _ {N : Type 0} where
  joined_ends : (js : List (Joining N)) → map (λ j. j.end) js ≡ ends_of_joins (map (λ j. let x : Joins = record { end = j.end; peer = j.peer; met = j.met } in x) js)
  joined_ends [] = refl
  joined_ends (j ∷ js) = ap (λ (es : List EndId). j.end ∷ es) (joined_ends js)

  ends_all : (P : EndId → Type 0) (js : List (Joining N)) → All P (map (λ j. j.end) js) → All (λ j. P j.end) js
  ends_all P [] all = All-nil (λ j. P j.end)
  ends_all P (j ∷ js) all = All-cons (λ x. P x.end) j js (All-head P j.end (map (λ x. x.end) js) all) (ends_all P js (All-tail P j.end (map (λ x. x.end) js) all))

-- the object whose ends the event may change
asks_of : (c : Control) (o : ℕ) (req : Req) → asker req ≡ Some o → acts_in_request c req ≡ Some o
asks_of c o (MakeSocket kind options) is = absurd (none_some is)
asks_of c o AskTerm is = absurd (none_some is)
asks_of c o (Bind p at) is = is
asks_of c o (Connect p at) is = is
asks_of c o (Unbind p at) is = is
asks_of c o (Disconnect p at) is = is
asks_of c o (Close p) is = is
asks_of c o (Accepted p) is = is
asks_of c o (Shaken p peer) is = is
asks_of c o (AskEnd e reason) is = absurd (none_some is)
asks_of c o (AskOver p) is = is
asks_of c o (OutputOver p) is = is

module _ {N S : Type 0} (c : Control) (kept : Kept c) (o : ℕ) (not_root : o ≢ 0) where
  touches : (did : Did N S) → IsOf o c did → touched_in c did ≡ Some o
  touches (Asked req reply h) is = asks_of c o req is
  touches (Delivered slot letter h) is = ap (λ (n : ℕ). Some n) is
  touches (Delimited e h) is = ap (λ (n : ℕ). Some n) is

  -- what a command brings joins with it
  word_comes : (slot : SlotId) (to : ObjId) (word : Word) (h : Answered N S) → Fits c (Delivered slot (record { to = to; word = word }) h) → to.0 ≡ o →
      (come_by word h.joined ≡ h.joined) × (map (λ j. j.end) h.joined ≡ attached_by (word_moves to.0 word)) × (subject_of (Delivered slot (record { to = to; word = word }) h) ≡ Some o)
  word_comes slot to (Own child) h fits is = (refl, joined_ends h.joined ∙ ap ends_of_joins fits.answered.joined, ap (λ (n : ℕ). Some n) is)
  word_comes slot to (Plug None) h fits is = (refl, joined_ends h.joined ∙ ap ends_of_joins fits.answered.joined, ap (λ (n : ℕ). Some n) is)
  word_comes slot to (Plug (Some e)) h fits is = (refl, joined_ends h.joined ∙ ap ends_of_joins fits.answered.joined, ap (λ (n : ℕ). Some n) is)
  word_comes slot to (TermReq child) h fits is = (refl, joined_ends h.joined ∙ ap ends_of_joins fits.answered.joined, ap (λ (n : ℕ). Some n) is)
  word_comes slot to Term h fits is = (refl, joined_ends h.joined ∙ ap ends_of_joins fits.answered.joined, ap (λ (n : ℕ). Some n) is)
  word_comes slot to (TermAck child) h fits is = (refl, joined_ends h.joined ∙ ap ends_of_joins fits.answered.joined, ap (λ (n : ℕ). Some n) is)
  word_comes slot to (PipeBind e peer) h fits is = (refl, joined_ends h.joined ∙ ap ends_of_joins fits.answered.joined, ap (λ (n : ℕ). Some n) is)
  word_comes slot to (PipeTerm e) h fits is = (refl, joined_ends h.joined ∙ ap ends_of_joins fits.answered.joined, ap (λ (n : ℕ). Some n) is)
  word_comes slot to (PipeTermAck e) h fits is = (refl, joined_ends h.joined ∙ ap ends_of_joins fits.answered.joined, ap (λ (n : ℕ). Some n) is)
  word_comes slot to Stop h fits is = (refl, joined_ends h.joined ∙ ap ends_of_joins fits.answered.joined, ap (λ (n : ℕ). Some n) is)
  word_comes slot to (Reap socket) h fits is = absurd (not_root (sym is ∙ reap_root c kept slot to socket h fits))

  -- the ends that join are those that are attached, and are the object's
  record Comes (did : Did N S) : Type 0 where
    all : came_in did ≡ (answer_of did).joined
    ends : map (λ j. j.end) (answer_of did).joined ≡ attached_by (own_moves c did)
    mine : All (λ e. owner_of (after did c) e ≡ o) (attached_by (own_moves c did))

  owned : (did : Did N S) → Fits c did → subject_of did ≡ Some o → All (λ e. owner_of (after did c) e ≡ o) (attached_by (own_moves c did))
  owned did fits is =
      All-weaker (λ e. subject_of did ≡ Some (owner_of (after did c) e)) (λ e. owner_of (after did c) e ≡ o) (λ e own. some_is (sym own ∙ is)) (attached_by (own_moves c did)) (mine_all c kept did fits)

  comes : (did : Did N S) → Fits c did → IsOf o c did → Comes did
  comes (Asked req reply h) fits is = record {
    all = refl;
    ends = joined_ends h.joined ∙ ap ends_of_joins fits.answered.joined ∙ asked_ends c req reply;
    mine = owned (Asked req reply h) fits is;
  }
  comes (Delivered slot letter h) fits is =
      let w = word_comes slot letter.to letter.word h fits is in
      record { all = w.0; ends = w.1; mine = owned (Delivered slot letter h) fits w.2 }
  comes (Delimited e h) fits is = record {
    all = refl;
    ends = joined_ends h.joined ∙ ap ends_of_joins fits.answered.joined;
    mine = All-nil (λ d. owner_of (after (Delimited e h) c) d ≡ o);
  }

  module _ (old : AreOld c) (did : Did N S) (fits : Fits c did) (of_it : IsOf o c did) where
    abbrev d : Control
    d = after did c

    abbrev new : List EndId
    new = attached_by (own_moves c did)

    all_come : Comes did
    all_come = comes did fits of_it

    pub ends_of_event : map (λ j. j.end) (came_in did) ≡ new
    ends_of_event = ap (λ (js : List (Joining N)). map (λ j. j.end) js) all_come.all ∙ all_come.ends

    joins_all : filter (λ j. owner_of d j.end == o) (answer_of did).joined ≡ came_in did
    joins_all =
        all_pass (λ j. owner_of d j.end == o) (answer_of did).joined
        (All-weaker (λ j. owner_of d j.end ≡ o) (λ j. (owner_of d j.end == o) ≡ true) (λ j own. eq-eqb (owner_of d j.end) o own) (answer_of did).joined
        (ends_all (λ e. owner_of d e ≡ o) (answer_of did).joined (subst (λ (es : List EndId). All (λ e. owner_of d e ≡ o) es) (sym all_come.ends) all_come.mine)))
        ∙ sym all_come.all

    owner_stays : (e : EndId) → IsOld c e → owner_of d e ≡ owner_of c e
    owner_stays e is = (old_end c did kept fits e is.within is.at).owner

    pub ends_of_it : ends_of o d ≡ ends_of o c ++ new
    ends_of_it =
        ap (filter (λ e. owner_of d e == o)) (attached_after c did) ∙ filter-append (λ e. owner_of d e == o) c.attached new
        ∙ ap (λ (es : List EndId). es ++ filter (λ e. owner_of d e == o) new)
        (same_filter (λ e. owner_of d e == o) (λ e. owner_of c e == o) c.attached (All-weaker (IsOld c) (λ e. (owner_of d e == o) ≡ (owner_of c e == o)) (λ e is. ap (λ (n : ℕ). n == o) (owner_stays e is)) c.attached old))
        ∙ ap (λ (es : List EndId). ends_of o c ++ es) (all_pass (λ e. owner_of d e == o) new (All-weaker (λ e. owner_of d e ≡ o) (λ e. (owner_of d e == o) ≡ true) (λ e own. eq-eqb (owner_of d e) o own) new all_come.mine))

    known : Known c
    known = All-weaker (IsOld c) (λ e. e.pair.0 < next_pair c) (λ e is. is.within) c.attached old

    -- an end of another object stays where it is
    other_stays : (e : EndId) → IsOld c e → (owner_of d e == o) ≡ false → turn_at e (place_of c e) (place_of d e) ≡ []
    other_stays e is other =
        ap (λ (p : Place). turn_at e (place_of c e) p)
        (shown_at (place_of d e) (place_of c e) is.at
        ((others_spared (owner_of c e) c kept known did fits (λ touched. never (sym other ∙ eq-eqb (owner_of d e) o (owner_stays e is ∙ some_is (sym touched ∙ touches did of_it))))).places e is.within refl))
        ∙ turn_same e (place_of c e)

    turns_of_it : turned_in c d ≡ turned_over (place_of c) (place_of d) (ends_of o d)
    turns_of_it =
        turned_among (place_of c) (place_of d) (λ e. owner_of d e == o) d.attached
        (subst (λ (es : List EndId). All (λ e. (owner_of d e == o) ≡ false → turn_at e (place_of c e) (place_of d e) ≡ []) es) (sym (attached_after c did))
        (All-append (λ e. (owner_of d e == o) ≡ false → turn_at e (place_of c e) (place_of d e) ≡ []) c.attached new
        (All-weaker (IsOld c) (λ e. (owner_of d e == o) ≡ false → turn_at e (place_of c e) (place_of d e) ≡ []) other_stays c.attached old)
        (All-weaker (λ e. owner_of d e ≡ o) (λ e. (owner_of d e == o) ≡ false → turn_at e (place_of c e) (place_of d e) ≡ []) (λ e own other. absurd (never (sym other ∙ eq-eqb (owner_of d e) o own))) new all_come.mine)))

module _ {N S : Type 0} (io : ℕ) (before : List (Item N S)) where
  pub open_before : (item : Item N S) (o : ℕ) → ComesTo io before item o → HasOpen io before (caller_of item) o
  open_before item o comes_so = record {
    run = run_before before item (begun io) comes_so.run;
    callers = callers_before [] before item (begun io) comes_so.callers;
    is_open = comes_so.is_open;
  }

  pub item_goes : (item : Item N S) (o : ℕ) → ComesTo io before item o → GoesOn o (left_before io before item o) (moment_at io before item)
  item_goes (Event entry) o comes_so =
      let open_so = open_before (Event entry) o comes_so in
      let c = after_all before (begun io) in
      let kept = all_kept io before entry.by o open_so in
      let not_root = above io before entry.by o open_so in
      let old = old_run io before open_so.run in
      let fits = run_last before (Event entry) (begun io) comes_so.run in
      let same = (open_ends_are_left N S io before entry.by o open_so).ends in
      record {
        joins = joins_all c kept o not_root old entry.did fits comes_so.of_it;
        ends = ends_of_it c kept o not_root old entry.did fits comes_so.of_it
            ∙ ap (λ (es : List EndId). es ++ attached_by (own_moves c entry.did)) (sym same)
            ∙ ap (λ (es : List EndId). ends_of o (left_before io before (Event entry) o) ++ es) (sym (ends_of_event c kept o not_root old entry.did fits comes_so.of_it));
        turns = turns_of_it c kept o not_root old entry.did fits comes_so.of_it;
      }
  item_goes (Seen sight) o comes_so =
      let open_so = open_before (Seen sight) o comes_so in
      let c = after_all before (begun io) in
      record {
        joins = refl;
        ends = sym ((append-nil (ends_of o (left_before io before (Seen sight) o))) ∙ (open_ends_are_left N S io before sight.by o open_so).ends);
        turns = none_turn (place_of c) c.attached ∙ sym (none_turn (place_of c) (ends_of o c));
      }

pub ends_go_on : (N S : Type 0) → EndsGoOn N S
ends_go_on N S io before item o comes_so = item_goes io before item o comes_so
