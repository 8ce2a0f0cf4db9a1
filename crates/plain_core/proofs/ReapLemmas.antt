-- A core goes on over a call of the reaper.
use Rattle.std.specs.Prelude.{◌≡◌, ◌≢◌, ◌<◌, ◌==◌, ◌++◌, ◌∷◌, [], ℕ, Bool, true, false, List, Option, Some, None, map, refl}
use Rattle.std.specs.List.{list_any}
use Rattle.std.proofs.Common.{append-nil, arith, sym, ap, ◌∙◌, subst, true≢false}
use Rattle.std.proofs.lemmas.Bool.{eq-eqb, eqb-true}
use Rattle.zq_base.specs.declared.ids.SlotId.{SlotId}
use Rattle.spec_control.specs.Control.{Control, begun, next_object, next_pair}
use Rattle.spec_control.specs.Moments.{Moment, left_after, moments_by, moments_from}
use Rattle.spec_run.specs.Act.{Act, steps_in}
use Rattle.spec_run.specs.CoreEvents.{may_take}
use Rattle.zq_world.specs.Piece.{Piece, piece_of, AddsPiece}
use Rattle.zq_world.specs.Way.{KeepsAll}
use Rattle.msg_pipe.specs.Known.{Known}
use Rattle.any_sock.specs.declared.any_sock.AnySock.{AnySock}
use Rattle.sock_core.specs.declared.sock.SockCore.{SockCore}
use Rattle.sock_core.specs.Standing.{standing_joins}
use Rattle.desk.specs.declared.given.Given.{Given}
use Rattle.ctl_plane.specs.Past.{control_of}
use Rattle.desk.specs.Desk.{slot_after, HasWhatTheySay}
use Rattle.zq_world.specs.CoreCalls.{IsOnlyReaper, IsReaper, OnlyReaps, ReapsOne}
use Rattle.core_laws.specs.Counting.{CountsDrops}
use Rattle.zq_world.specs.declared.marks.PieceMark.{PieceMark}
use Rattle.zq_world.specs.Marks.{piece_marks}
use Rattle.closed_ends.specs.declared.sockets.ClosedSockets.{ClosedSockets}
use Rattle.closed_ends.specs.Finding.{AreIndexed, HasRoom, KeepsEnds}
use Rattle.closed_ends.specs.Has.{all_ends, has, holding_in, is_socket}
use Rattle.closed_ends.specs.Sound.{AreSound}
use Rattle.core_laws.specs.Sealed.{AllAsked}
use Rattle.core_laws.specs.ReapedComing.{HasOnlyTaken, HasTaken}
use Rattle.core_laws.proofs.HadLemmas.{had_by}
use Rattle.core_laws.proofs.ElseLemmas.{same_moments}
use Rattle.plain_desk.specs.Lent.{moments_of, GrowsBy, IsOneOrder, Lent}
use Rattle.plain_desk.specs.Waiting.{WaitsAt}
use Rattle.core_laws.specs.Agrees.{AgreesIn}
use Rattle.core_laws.specs.Calls.{for_caller}
use Rattle.core_laws.proofs.GrownLemmas.{objects_are_there}
use Rattle.core_laws.proofs.SilentLemmas.{one_order_of}
use Rattle.core_laws.specs.Reaps.{IsReapTold, ReapDone}
use Rattle.reaper.specs.Going.{GoesBy, ReaperHas, ReapIsLetter, ReapIsNone, ReapIsStep}
use Rattle.reaper.specs.Steps.{acts_at, acts_reaped, reap_parts, DeskStands, MayReap, WantsMemory}
use Rattle.plain_core.specs.Agreeing.{was_made, Agrees}
use Rattle.plain_core.specs.Calling.{IsTold}
use Rattle.plain_core.specs.Leaving.{moments_at}
use Rattle.plain_core.specs.Letters.{TellsReapAt}
use Rattle.plain_core.specs.Reaping.{ReapLaws, TellsReap}
use Rattle.plain_core.specs.Sound.{Core, core_of, pieces_in, HasClosed, HasDrops, IsCore, IsSound}
use Rattle.zq_world.specs.Taken.{is_reapers, ReapsAt}
use Rattle.zq_world.specs.Taking.{control_told}
use Rattle.plain_core.proofs.KeepLemmas.{ready_still}
use Rattle.plain_core.proofs.LetterLemmas.{told_control, told_full}
use Rattle.plain_core.proofs.OthersLemmas.{control_one}
use Rattle.plain_core.proofs.TakenLemmas.{first_all}

-- ---- who reaps
module _ {N T : Type 0} where
  -- who is the only reaper is it behind a call of its own
  only_still : (k : ℕ) (xs : List (Piece N T)) (acts : List (Act N T)) → IsOnlyReaper k xs → IsOnlyReaper k (xs ++ piece_of k true acts [])
  only_still k [] [] only = tt
  only_still k [] (act ∷ acts) only = ((λ reaps. refl), tt)
  only_still k (x ∷ xs) acts only = (only.0, only_still k xs acts only.1)

  -- no other is, where it did anything
  no_other : (j k : ℕ) (xs : List (Piece N T)) (act : Act N T) (acts : List (Act N T)) → IsOnlyReaper j (xs ++ piece_of k true (act ∷ acts) []) → k ≡ j
  no_other j k [] act acts only = only.0 refl
  no_other j k (x ∷ xs) act acts only = no_other j k xs act acts only.1

-- ---- with room for one closed socket more
module _ {S N O I : Type 0} (K : Known S O I N) (closed from : ClosedSockets N O I) (kept : KeepsEnds closed from) where
  holding_same : holding_in K.out_name K.in_name from ≡ holding_in K.out_name K.in_name closed
  holding_same =
      ap (λ ts. has K.out_name K.in_name ts (map (λ x. x.0) from.sealed.items) (record { notices = map (λ x. x.0) from.heard.items; joined = standing_joins from.joins.items }) from.sockets.items) kept.turns
      ∙ ap (λ ss. has K.out_name K.in_name closed.turns.items (map (λ x. x.0) ss) (record { notices = map (λ x. x.0) from.heard.items; joined = standing_joins from.joins.items }) from.sockets.items) kept.sealed
      ∙ ap (λ ns. has K.out_name K.in_name closed.turns.items (map (λ x. x.0) closed.sealed.items) (record { notices = map (λ x. x.0) ns; joined = standing_joins from.joins.items }) from.sockets.items) kept.heard
      ∙ ap (λ js. has K.out_name K.in_name closed.turns.items (map (λ x. x.0) closed.sealed.items) (record { notices = map (λ x. x.0) closed.heard.items; joined = standing_joins js }) from.sockets.items) kept.joins
      ∙ ap (λ ss. has K.out_name K.in_name closed.turns.items (map (λ x. x.0) closed.sealed.items) (record { notices = map (λ x. x.0) closed.heard.items; joined = standing_joins closed.joins.items }) ss) kept.sockets

  module _ {T : Type 0} (v : Core S (Given N O I) N T) (is : HasClosed K v closed) (indexed : AreIndexed from) where
    pub closed_room : HasClosed K v from
    closed_room = record {
      some_reaper = is.some_reaper;
      reaper = λ j only. subst (HasWhatTheySay j (moments_at j v.desk)) (sym holding_same) (is.reaper j only);
      sound = subst (AreSound K v.pipes) (sym kept.sockets) is.sound;
      indexed = indexed;
      given = is.given;
      asked = subst (λ ss. AllAsked (control_of v.desk.past) (all_ends ss)) (sym kept.sockets) is.asked;
      given_asked = is.given_asked;
      taken = subst (HasTaken (control_of v.desk.past)) (sym holding_same) is.taken;
      apart = is.apart;
    }

-- ---- what is lent
module _ {S N O I T : Type 0} (K : Known S O I N) (v : Core S (Given N O I) N T) (closed : ClosedSockets N O I) (is : IsCore K v) (has : HasClosed K v closed) (desk : DeskStands K v.desk) (k : ℕ) (alone : IsReaper k (pieces_in v)) where
  pub reaper_has : ReaperHas K (reap_parts (for_caller k v.desk) v.pipes closed)
  reaper_has = record {
    desk = record { order = one_order_of k v.desk desk.order; ways = desk.ways };
    one = is.one;
    names = record {
      there = is.there;
      distinct = is.distinct;
      made = λ p n named. subst (λ (c : Control). p.pair.0 < next_pair c) (sym (control_one v.desk desk.order is.one)) (is.stands.names_made p n named);
    };
    unsealed = is.unsealed;
    has = subst (λ (ms : List (Moment N T)). HasWhatTheySay k ms (holding_in K.out_name K.in_name closed)) (ap (λ (n : ℕ). moments_by k (moments_from (begun n) v.desk.items)) (sym is.one)) (has.reaper k alone.only);
    fits = record { sound = has.sound; indexed = has.indexed };
    given = has.given;
    asked = has.asked;
    given_asked = has.given_asked;
    taken = has.taken;
    only = has.apart k alone.reaps;
    tells = is.identities;
  }

-- ---- how a call ends
-- a core is sound, and open sockets agree
pub record IsLeftSo (W : Type 0) {S N O I T : Type 0} (K : Known S O I N) (closed : ClosedSockets N O I) (drops : List ℕ) (v w : Core S (Given N O I) N T) : Type 0 where
  pub sound : IsSound K w closed drops
  pub keeps : KeepsAll (Agrees W K) was_made v w

-- and the reaper took its step
pub record IsReapedSo (W : Type 0) {S N O I T : Type 0} (K : Known S O I N) (k : ℕ) (closed : ClosedSockets N O I) (drops : List ℕ) (v w : Core S (Given N O I) N T) : Type 0 where
  pub left : IsLeftSo W K closed drops v w
  pub one : ReapsOne k (pieces_in v) (pieces_in w)

-- or a letter of one of its mailboxes
pub record IsReapedAt (W : Type 0) {S N O I T : Type 0} (K : Known S O I N) (k slot : ℕ) (closed : ClosedSockets N O I) (drops : List ℕ) (v w : Core S (Given N O I) N T) : Type 0 where
  pub left : IsLeftSo W K closed drops v w
  pub one : ReapsAt k slot (pieces_in v) (pieces_in w)

module _ (W : Type 0) {S N O I T : Type 0} (K : Known S O I N) (laws : ReapLaws W K T) (v : Core S (Given N O I) N T) (closed : ClosedSockets N O I) (drops : List ℕ) (sound : IsSound K v closed drops) (desk : DeskStands K v.desk) (k : ℕ) (alone : IsReaper k (pieces_in v)) where
  abbrev is : IsCore K v
  is = sound.0

  abbrev has_closed : HasClosed K v closed
  has_closed = sound.1.0

  abbrev lent : Lent (Given N O I) N T
  lent = for_caller k v.desk

  was_order : IsOneOrder (for_caller k v.desk)
  was_order = one_order_of k v.desk desk.order

  module _ (d : Lent (Given N O I) N T) (pipes : S) (to : ClosedSockets N O I) (marks : List PieceMark) (wanted : Bool) (needs : wanted ≡ false → v.wanted ≡ false) (acts : List (Act N T))
      (goes : GoesBy W K (reap_parts (for_caller k v.desk) v.pipes closed) (reap_parts d pipes to) (steps_in acts)) (done : ReapDone K (for_caller k v.desk) d v.pipes pipes acts) (told : marks ≡ v.marks ++ piece_marks k true acts [])
      (idle : acts ≡ [] → (i : ℕ) → list_any (is_socket i) to.sockets.items ≡ true → list_any (is_socket i) closed.sockets.items ≡ true) where
    abbrev w : Core S (Given N O I) N T
    w = core_of d pipes marks wanted

    now : ReaperHas K (reap_parts d pipes to)
    now = goes.has

    order : IsOneOrder d
    order = now.desk.order

    grows : GrowsBy (for_caller k v.desk) d
    grows = done.grows

    tale : IsReapTold K k acts (for_caller k v.desk) d pipes v.marks marks
    tale = laws.told lent d v.pipes pipes acts was_order order done now.names.made v.marks marks told alone.only (record { one = is.one; all = is.all; stands = is.stands })

    core_now : IsCore K (core_of d pipes marks wanted)
    core_now = record {
      one = tale.tale.one;
      all = tale.tale.all;
      stands = tale.tale.stands;
      exact = is.exact;
      distinct = now.names.distinct;
      there = now.names.there;
      identities = now.tells;
      unsealed = now.unsealed;
    }

    pieces_are : pieces_in (core_of d pipes marks wanted) ≡ pieces_in v ++ piece_of k true acts []
    pieces_are = tale.adds.added

    -- ---- closed sockets
    moments_are : moments_of d ≡ moments_at k d
    moments_are = ap (λ (j : ℕ). moments_by j (moments_from (begun d.past.workers) d.items)) grows.caller ∙ ap (λ (n : ℕ). moments_by k (moments_from (begun n) d.items)) now.one

    its_say : HasWhatTheySay k (moments_at k d) (holding_in K.out_name K.in_name to)
    its_say =
        subst (λ (ms : List (Moment N T)). HasWhatTheySay k ms (holding_in K.out_name K.in_name to)) moments_are
        (subst (λ (j : ℕ). HasWhatTheySay j (moments_of d) (holding_in K.out_name K.in_name to)) grows.caller now.has)

    -- where another might be the reaper, there is no closed socket
    nothing : (j : ℕ) → k ≢ j → IsOnlyReaper j (pieces_in v) → acts ≡ [] → (i : ℕ) → list_any (is_socket i) to.sockets.items ≡ true → ⊥
    nothing j other only none i holds =
        let before = idle none i holds in
        let mine = had_by lent was_order (holding_in K.out_name K.in_name closed)
        (subst (λ (ms : List (Moment N T)). HasWhatTheySay k ms (holding_in K.out_name K.in_name closed)) (ap (λ (n : ℕ). moments_by k (moments_from (begun n) v.desk.items)) (sym is.one)) (has_closed.reaper k alone.only)) i before in
        let theirs = had_by (for_caller j v.desk) (one_order_of j v.desk desk.order) (holding_in K.out_name K.in_name closed)
        (subst (λ (ms : List (Moment N T)). HasWhatTheySay j ms (holding_in K.out_name K.in_name closed)) (ap (λ (n : ℕ). moments_by j (moments_from (begun n) v.desk.items)) (sym is.one)) (has_closed.reaper j only)) i before in
        other (some_is (sym mine ∙ theirs))
      where
        some_is : {m n : ℕ} → Some m ≡ Some n → m ≡ n
        some_is e = Prim.grind arith

    others_say : (j : ℕ) → k ≢ j → (xs : List (Act N T)) → acts ≡ xs → IsOnlyReaper j (pieces_in v ++ piece_of k true xs []) → HasWhatTheySay j (moments_at j d) (holding_in K.out_name K.in_name to)
    others_say j other (act ∷ xs) e only = absurd (other (no_other j k (pieces_in v) act xs only))
    others_say j other [] e only =
        let none = nothing j other (first_all _ (pieces_in v) [] only) e in record {
          objects = λ i holds. absurd (none i holds);
          no_root = its_say.no_root;
          ends = λ i holds. absurd (none i holds);
          writes = λ i x holds here. absurd (none i holds);
          delimiters = λ i x holds here met. absurd (none i holds);
          states = λ i x holds here. absurd (none i holds);
          kinds = λ i holds. absurd (none i holds);
        }

    reaper_now : (j : ℕ) → IsOnlyReaper j (pieces_in (core_of d pipes marks wanted)) → HasWhatTheySay j (moments_at j d) (holding_in K.out_name K.in_name to)
    reaper_now j only = by (k == j) refl
      where
        by : (b : Bool) → (k == j) ≡ b → HasWhatTheySay j (moments_at j d) (holding_in K.out_name K.in_name to)
        by true e = subst (λ (n : ℕ). HasWhatTheySay n (moments_at n d) (holding_in K.out_name K.in_name to)) (eqb-true k j e) its_say
        by false e = others_say j (λ same. true≢false (sym (eq-eqb k j same) ∙ e)) acts refl (subst (λ (ps : List (Piece N T)). IsOnlyReaper j ps) pieces_are only)

    apart_now : (j : ℕ) → OnlyReaps j (pieces_in (core_of d pipes marks wanted)) → HasOnlyTaken j d
    apart_now j only = by (j == k) refl
      where
        by : (b : Bool) → (j == k) ≡ b → HasOnlyTaken j d
        by true e = subst (λ (n : ℕ). HasOnlyTaken n d) (grows.caller ∙ sym (eqb-true j k e)) now.only
        by false e =
            laws.only.others lent d was_order order grows j (λ same. true≢false (sym (eq-eqb j k same) ∙ e))
            (has_closed.apart j (first_all _ (pieces_in v) (piece_of k true acts []) (subst (λ (ps : List (Piece N T)). OnlyReaps j ps) pieces_are only)))

    closed_now : HasClosed K (core_of d pipes marks wanted) to
    closed_now = record {
      some_reaper = record { caller = k; only = subst (λ (ps : List (Piece N T)). IsOnlyReaper k ps) (sym pieces_are) (only_still k (pieces_in v) acts alone.only) };
      reaper = reaper_now;
      sound = now.fits.sound;
      indexed = now.fits.indexed;
      given = now.given;
      asked = now.asked;
      given_asked = now.given_asked;
      taken = now.taken;
      apart = apart_now;
    }

    drops_now : HasDrops (core_of d pipes marks wanted) drops
    drops_now not_wanted = subst (λ (ps : List (Piece N T)). CountsDrops drops ps) (sym pieces_are) (laws.tables.none drops (pieces_in v) k true acts (sound.1.1 (needs not_wanted)))

    -- ---- open sockets
    one_keeps : (j : ℕ) (s : Option (SockCore AnySock W N O I)) → Agrees W K v j s → Agrees W K (core_of d pipes marks wanted) j s
    one_keeps j None agreed = agreed
    one_keeps j (Some t) agreed =
        let was : AgreesIn K (for_caller k v.desk) j v.pipes t = record { owned = agreed.agrees.owned; asked = agreed.agrees.asked; binds = agreed.agrees.binds } in
        let same = same_moments K lent d was_order grows (has_closed.apart k alone.reaps) v.pipes j t agreed.agrees.owned in record {
          agrees = goes.agree j t was;
          box = ap (λ (ms : List (Moment N T)). (slot_after t.number.0 ms).0) same ∙ agreed.box;
          ready = ready_still W K v w j t needs (ap (left_after t.number.0) same) agreed.ready;
        }

    made_still : (i : ℕ) → was_made v i → was_made (core_of d pipes marks wanted) i
    made_still i made =
        subst (λ (c : Control). i < next_object c) (control_one d order now.one)
        (objects_are_there (Given N O I) N T lent d was_order order grows i (subst (λ (c : Control). i < next_object c) (sym (control_one lent was_order is.one)) made))

    pub left_so : IsLeftSo W K to drops v (core_of d pipes marks wanted)
    left_so = record {
      sound = (core_now, (closed_now, drops_now));
      keeps = record { sockets = one_keeps; numbers = made_still };
    }

    pub adds_so : AddsPiece k true acts [] (pieces_in v) (pieces_in (core_of d pipes marks wanted))
    adds_so = tale.adds

-- ---- the exits
module _ (W : Type 0) {S N O I T : Type 0} (K : Known S O I N) (laws : ReapLaws W K T) (v : Core S (Given N O I) N T) (closed from : ClosedSockets N O I) (drops : List ℕ) (sound : IsSound K v closed drops) (kept : KeepsEnds closed from) (indexed : AreIndexed from) where
  with_room : IsSound K v from drops
  with_room = (sound.0, (closed_room K closed from kept v sound.1.0 indexed, sound.1.1))

  -- there was no room for a closed socket more
  pub room_left : IsLeftSo W K from drops v (core_of v.desk v.pipes v.marks true)
  room_left =
      let is = with_room.0 in
      let has = with_room.1.0 in record {
        sound = (
          record { one = is.one; all = is.all; stands = is.stands; exact = is.exact; distinct = is.distinct; there = is.there; identities = is.identities; unsealed = is.unsealed },
          (
            record { some_reaper = has.some_reaper; reaper = has.reaper; sound = has.sound; indexed = has.indexed; given = has.given; asked = has.asked; given_asked = has.given_asked; taken = has.taken; apart = has.apart },
            (λ not_wanted. absurd (true≢false not_wanted)),
          ),
        );
        keeps = record { sockets = keeps_one; numbers = λ i made. made };
      }
    where
      keeps_one : (j : ℕ) (s : Option (SockCore AnySock W N O I)) → Agrees W K v j s → Agrees W K (core_of v.desk v.pipes v.marks true) j s
      keeps_one j None agreed = agreed
      keeps_one j (Some t) agreed = record { agrees = agreed.agrees; box = agreed.box; ready = λ not_wanted. absurd (true≢false not_wanted) }

  module _ (desk : DeskStands K v.desk) (k : ℕ) (alone : IsReaper k (pieces_in v)) where
    has_room : ReaperHas K (reap_parts (for_caller k v.desk) v.pipes from)
    has_room = reaper_has K v from with_room.0 with_room.1.0 desk k alone

    pub may_lend : HasRoom from → MayReap K (reap_parts (for_caller k v.desk) v.pipes from)
    may_lend room = laws.go.may (reap_parts (for_caller k v.desk) v.pipes from) has_room room

    module _ (d : Lent (Given N O I) N T) (pipes : S) (to : ClosedSockets N O I) where
      -- a letter was taken, or none was there
      pub reaped_left : (marks : List PieceMark) → IsTold (TellsReap K k (reap_parts (for_caller k v.desk) v.pipes from) (reap_parts d pipes to)) v.marks marks → IsReapedSo W K k to drops v (core_of d pipes marks v.wanted)
      reaped_left marks told =
          let r = told.so.reaped in
          let acts = acts_reaped K (reap_parts (for_caller k v.desk) v.pipes from) (reap_parts d pipes to) r in
          let step : ReapIsStep W K (reap_parts (for_caller k v.desk) v.pipes from) (reap_parts d pipes to) acts = laws.go.steps (reap_parts (for_caller k v.desk) v.pipes from) (reap_parts d pipes to) has_room r in
          let tells : marks ≡ v.marks ++ piece_marks k true acts [] = told.behind ∙ ap (λ (ms : List PieceMark). v.marks ++ ms) told.so.are in
          let idle = λ (none : acts ≡ []). absurd (never_none none) in record {
            left = left_so W K laws v from drops with_room desk k alone d pipes to marks v.wanted (λ not_wanted. not_wanted) acts step.goes step.done tells idle;
            one = record {
              deed = step.deed;
              step = step.step;
              adds = subst (λ (xs : List (Act N T)). AddsPiece k true xs [] (pieces_in v) (pieces_in (core_of d pipes marks v.wanted))) (sym step.acts_are)
                  (adds_so W K laws v from drops with_room desk k alone d pipes to marks v.wanted (λ not_wanted. not_wanted) acts step.goes step.done tells idle);
            };
          }
        where
          never_none : {X : Type 0} {x : X} {xs : List X} → x ∷ xs ≡ [] → ⊥
          never_none e = cc

      -- a letter of this mailbox was taken
      pub reaped_at_left : (slot : SlotId) (marks : List PieceMark) → IsTold (TellsReapAt K k slot (reap_parts (for_caller k v.desk) v.pipes from) (reap_parts d pipes to)) v.marks marks → IsReapedAt W K k slot.0 to drops v (core_of d pipes marks v.wanted)
      reaped_at_left slot marks told =
          let r = told.so.reaped in
          let acts = acts_at K slot (reap_parts (for_caller k v.desk) v.pipes from) (reap_parts d pipes to) r in
          let step : ReapIsLetter W K slot.0 (reap_parts (for_caller k v.desk) v.pipes from) (reap_parts d pipes to) acts = laws.go.letters slot (reap_parts (for_caller k v.desk) v.pipes from) (reap_parts d pipes to) has_room r in
          let tells : marks ≡ v.marks ++ piece_marks k true acts [] = told.behind ∙ ap (λ (ms : List PieceMark). v.marks ++ ms) told.so.are in
          let idle = λ (none : acts ≡ []). absurd (never_none none) in record {
            left = left_so W K laws v from drops with_room desk k alone d pipes to marks v.wanted (λ not_wanted. not_wanted) acts step.goes step.done tells idle;
            one = record {
              acts = acts;
              takes = step.reaps.takes;
              adds = adds_so W K laws v from drops with_room desk k alone d pipes to marks v.wanted (λ not_wanted. not_wanted) acts step.goes step.done tells idle;
            };
          }
        where
          never_none : {X : Type 0} {x : X} {xs : List X} → x ∷ xs ≡ [] → ⊥
          never_none e = cc

      -- memory was wanting
      pub wanting_left : WantsMemory K (reap_parts (for_caller k v.desk) v.pipes from) (reap_parts d pipes to) → IsLeftSo W K to drops v (core_of d pipes v.marks true)
      wanting_left wants =
          let none : ReapIsNone W K (reap_parts (for_caller k v.desk) v.pipes from) (reap_parts d pipes to) = laws.go.none (reap_parts (for_caller k v.desk) v.pipes from) (reap_parts d pipes to) has_room wants in
          left_so W K laws v from drops with_room desk k alone d pipes to v.marks true (λ not_wanted. absurd (true≢false not_wanted)) [] none.goes none.done (sym (append-nil v.marks)) (λ idle. none.holds)

-- ---- a letter waits there, as it is told
pub waits_for : {S N O I T : Type 0} (K : Known S O I N) (v : Core S (Given N O I) N T) → IsCore K v → IsOneOrder v.desk → (k : ℕ) (slot : SlotId) → may_take (control_told (pieces_in v)) slot.0 ≡ true → is_reapers (control_told (pieces_in v)) slot.0 ≡ true →
    WaitsAt slot (for_caller k v.desk)
waits_for K v is order k slot may mine = record {
  mine = subst (λ (c : Control). is_reapers c slot.0 ≡ true) (told_control K v is order) mine;
  some = told_full K v is order slot.0 may;
}
