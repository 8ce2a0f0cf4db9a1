-- How a run goes on by a turn, and how it ends.
use Rattle.std.proofs.Common.{◌≡◌, ◌≤◌, ◌<◌, ◌+◌, ◌-◌, ℕ, zero, suc, List, [], ◌∷◌, ◌++◌, Bool, true, false, Option, Some, length, map, refl, sym, ap, subst, ◌∙◌, arith, append-nil, append_assoc, length-append}
use Rattle.std.specs.Prelude.{◌&&◌, ◌==◌, Result, Ok, Err, IfErr, flat_map, slice_get, slice_index_or, if◌then◌else◌}
use Rattle.std.specs.List.{list_all, range_with_len}
use Rattle.std.proofs.lemmas.Grind.{flat_map-append}
use Rattle.std.proofs.lemmas.List.{map-append}
use Rattle.std.proofs.lemmas.Option.{slice_get_within, slice_get-get_or}
use Rattle.zq_outer.specs.Readings.{ClockAt, ReadsClock, GoesOn}
use Rattle.zq_outer.proofs.ClockLemmas.{reads_more}
use Rattle.spec_control.specs.declared.object.ObjState.{ObjState}
use Rattle.spec_control.specs.declared.object.ObjState.TheVariants.{Live, Asked, Ended}
use Rattle.spec_run.specs.Turn.{IsOrder}
use Rattle.spec_run.specs.declared.journal.Entry.{Entry}
use Rattle.spec_run.specs.Act.{Act, Said, Deed, Tries, Shuts, Fetches, Idles, Works, Looks, AsksRoot, Reads, all_acts}
use Rattle.spec_run.specs.OpenSocket.{OpenSock}
use Rattle.spec_run.specs.Standing.{ActorStanding, has_finished}
use Rattle.spec_run.specs.OwnedRun.{deeds_in}
use Rattle.spec_run.specs.InTurns.{AllStep, OneTurn, AsksIf, Begins, TurnsGo, NeverFall, Draws, is_ended, is_live, turn_step}
use Rattle.spec_run.specs.Journal.{entries_shown, entry_shown}
use Rattle.zq_world.specs.Piece.{Piece, AreActsBy, piece_of, deed_pieces}
use Rattle.zq_world.specs.Stepping.{standing_of, entries_of}
use Rattle.zq_world.specs.declared.actor.Actor.{Actor}
use Rattle.zq_world.proofs.ActorStepLemmas.{adds_one}
use Rattle.zq_world.specs.CoreCalls.{LooksOnce, AsksOnce}
use Rattle.zq_world.specs.Turning.{standings, ActorDoes, HasStepped, acted, reaped, served, TurnSteps, DrawsUpTo, TurnBy, TurnsBy, EndsHere, BeginsTurn, HasSaid, HasCome, turn_pieces, turns_pieces}
use Rattle.zq_world.specs.Timed.{RunsTimed}
use Rattle.zq_world.proofs.OrderLemmas.{each_once}
use Rattle.zq_world.proofs.TurnLemmas.{whole_turn, turn_told, turn_of, step_of}

shown_tries : (b : Bool) (e : Entry) (xs ys : List Entry) → (if b then e ∷ (xs ++ ys) else (xs ++ ys)) ≡ (if b then e ∷ xs else xs) ++ ys
shown_tries true e xs ys = refl
shown_tries false e xs ys = refl

and_false : (a b : Bool) → b ≡ false → (a && b) ≡ false
and_false true b e = e
and_false false b e = refl

-- the first that has not finished
pub one_unfinished : {O : Type 0} (as_open : O → OpenSock) (actors : List (Actor O)) (i : ℕ) (a : Actor O) → slice_get actors i ≡ Some a → has_finished (standing_of as_open a) ≡ false
    → list_all has_finished (standings as_open actors) ≡ false
one_unfinished {O} as_open [] i a e h = cc
one_unfinished {O} as_open (x ∷ actors) zero a e h = ap (λ b. b && list_all has_finished (standings as_open actors)) (ap (λ y. has_finished (standing_of as_open y)) (same e) ∙ h)
  where
    same : ◌≡◌ {A = Option (Actor O)} (Some x) (Some a) → x ≡ a
    same f = cc
one_unfinished {O} as_open (x ∷ actors) (suc i) a e h = and_false (has_finished (standing_of as_open x)) (list_all has_finished (standings as_open actors)) (one_unfinished as_open actors i a e h)

-- what holds anyway holds of an error
pub of_error : {T E : Type 0} (P : Type 0) (result : Result T E) → P → IfErr result (λ _. P)
of_error P (Ok value) p = tt
of_error P (Err error) p = p

-- readings of which none is below the one before it
never_fall : (x : ℕ) (rs : List ℕ) → ((n a b : ℕ) → slice_get (x ∷ rs) n ≡ Some a → slice_get rs n ≡ Some b → a ≤ b) → NeverFall x rs
never_fall x [] rise = tt
never_fall x (y ∷ rs) rise = (rise 0 x y refl refl, never_fall y rs (λ n a b. rise (suc n) a b))

module _ (N S : Type 0) where
  asks_none : (b : Bool) → b ≡ false → AsksIf {N = N} {S = S} b []
  asks_none true e = cc
  asks_none false e = refl

module _ {N S : Type 0} where
  -- a turn behind turns
  turns_more : (old mid new : List ActorStanding) (ts : List (OneTurn N S)) (t : OneTurn N S) → TurnsGo 1 old ts mid → Begins mid t.begins → AllStep 1 mid t.steps new → TurnsGo 1 old (ts ++ t ∷ []) new
  turns_more old mid new [] t same begins all = subst (λ (st : List ActorStanding). TurnsGo 1 st (t ∷ []) new) same (begins, (new, all, refl))
  turns_more old mid new (u ∷ ts) t go begins all = (go.0, (go.1.0, go.1.1, turns_more go.1.0 mid new ts t go.1.2 begins all))

  draws_more : (seed : ℕ) (workers : List ℕ) (x now next : ℕ) (ts : List (OneTurn N S)) (os : List (List ℕ)) (t : OneTurn N S) (order : List ℕ) → DrawsUpTo seed workers x ts os now
      → IsOrder seed now workers order next → DrawsUpTo seed workers x (ts ++ t ∷ []) (os ++ order ∷ []) next
  draws_more seed workers x now next [] [] t order h is = (next, subst (λ y. IsOrder seed y workers order next) h.1 is, (refl, refl))
  draws_more seed workers x now next [] (o ∷ os) t order h is = cc
  draws_more seed workers x now next (u ∷ ts) [] t order h is = elim h [ ]
  draws_more seed workers x now next (u ∷ ts) (o ∷ os) t order h is = (h.0, h.1, draws_more seed workers h.0 now next ts os t order h.2 is)

  draws_so : (seed : ℕ) (workers : List ℕ) (x now : ℕ) (ts : List (OneTurn N S)) (os : List (List ℕ)) → DrawsUpTo seed workers x ts os now → Draws seed workers x ts os
  draws_so seed workers x now [] os h = h.0
  draws_so seed workers x now (u ∷ ts) [] h = elim h [ ]
  draws_so seed workers x now (u ∷ ts) (o ∷ os) h = (h.0, h.1, draws_so seed workers h.0 now ts os h.2)

  pieces_more : (n seed : ℕ) (workers : List ℕ) (x now : ℕ) (ts : List (OneTurn N S)) (os : List (List ℕ)) (t : OneTurn N S) (order : List ℕ) → DrawsUpTo seed workers x ts os now
      → turns_pieces n (os ++ order ∷ []) (ts ++ t ∷ []) ≡ turns_pieces n os ts ++ turn_pieces n order t
  pieces_more n seed workers x now [] [] t order h = append-nil (turn_pieces n order t)
  pieces_more n seed workers x now [] (o ∷ os) t order h = cc
  pieces_more n seed workers x now (u ∷ ts) [] t order h = elim h [ ]
  pieces_more n seed workers x now (u ∷ ts) (o ∷ os) t order h =
      ap (λ l. turn_pieces n o u ++ l) (pieces_more n seed workers h.0 now ts os t order h.2) ∙ sym (append_assoc (turn_pieces n o u) (turns_pieces n os ts) (turn_pieces n order t))

  by_more : (conductor : ℕ) (ts : List (OneTurn N S)) (t : OneTurn N S) → TurnsBy conductor ts → TurnBy conductor t → TurnsBy conductor (ts ++ t ∷ [])
  by_more conductor [] t by one = (one, tt)
  by_more conductor (u ∷ ts) t by one = (by.0, by_more conductor ts t by.1 one)

  pub shown_more : (ds es : List (Deed N S)) → entries_shown (ds ++ es) ≡ entries_shown ds ++ entries_shown es
  shown_more [] es = refl
  shown_more (Tries t ∷ ds) es = ap (λ l. if t.over then entry_shown t ∷ l else l) (shown_more ds es) ∙ shown_tries t.over (entry_shown t) (entries_shown ds) (entries_shown es)
  shown_more (Shuts acts ∷ ds) es = shown_more ds es
  shown_more (Fetches slot acts ∷ ds) es = shown_more ds es
  shown_more (Idles m ∷ ds) es = shown_more ds es
  shown_more (Works acts ∷ ds) es = shown_more ds es
  shown_more (Looks m ∷ ds) es = shown_more ds es
  shown_more (AsksRoot acts ∷ ds) es = shown_more ds es
  shown_more (Reads now ∷ ds) es = shown_more ds es

  -- ---- the clock

  -- the readings of these turns, and one before them, are those that it gave
  abbrev pub HasRead : List (OneTurn N S) → (clock clock_now : ClockAt) → Type 0
  HasRead ts clock clock_now = (first : ℕ) × ReadsClock clock (first ∷ map (λ turn. turn.reading) ts) clock_now

  -- one reading more, at the end of a turn
  read_then : (ts : List (OneTurn N S)) (t : OneTurn N S) (reading : ℕ) (clock clock_then clock_now : ClockAt) → HasRead ts clock clock_then → ReadsClock clock_then (reading ∷ []) clock_now → t.reading ≡ reading → HasRead (ts ++ t ∷ []) clock clock_now
  read_then ts t reading clock clock_then clock_now read one is = (
    read.0,
    subst (λ (l : List ℕ). ReadsClock clock (read.0 ∷ l) clock_now) (sym (map-append (λ turn. turn.reading) ts (t ∷ []) ∙ ap (λ n. map (λ turn. turn.reading) ts ++ n ∷ []) is))
        (reads_more clock clock_then clock_now (read.0 ∷ map (λ turn. turn.reading) ts) reading read.1 one),
  )

  -- ---- a turn begins

  pub ends_here : (conductor : ℕ) (standing : List ActorStanding) (root : ObjState) (before after : List (Piece N S)) → root ≡ Ended → LooksOnce conductor root before after
      → EndsHere conductor before after
  ends_here conductor standing root before after is h = record { seen = h.seen; look = h.look; ended = ap is_ended (h.root_is ∙ is); adds = h.adds }

  asks_some : (b : Bool) (acts : List (Act N S)) → b ≡ true → (h : AsksIf {N = N} {S = S} true (AsksRoot acts ∷ [])) → AsksIf b (AsksRoot acts ∷ [])
  asks_some true acts e h = h
  asks_some false acts e h = cc

  pub begins_on : (conductor : ℕ) (standing : List ActorStanding) (root : ObjState) (before after : List (Piece N S)) → is_ended root ≡ false → (list_all has_finished standing && is_live root) ≡ false
      → LooksOnce conductor root before after → BeginsTurn conductor standing before after
  begins_on conductor standing root before after goes none h = record {
    begins = Looks h.seen ∷ [];
    so = record {
      look = h.look;
      goes_on = ap is_ended h.root_is ∙ goes;
      asks_if = asks_none N S (list_all has_finished standing && is_live h.look.sight.root) (ap (λ r. list_all has_finished standing && is_live r) h.root_is ∙ none);
    };
    adds = adds_one conductor false (Looks h.seen) before after h.adds;
  }

  pub begins_asked : (conductor : ℕ) (standing : List ActorStanding) (root : ObjState) (before after : List (Piece N S)) → root ≡ Asked → LooksOnce conductor root before after
      → BeginsTurn conductor standing before after
  begins_asked conductor standing root before after is h =
      begins_on conductor standing root before after (ap is_ended is) (ap (λ r. list_all has_finished standing && is_live r) is ∙ and_false (list_all has_finished standing) false refl) h

  pub begins_busy : (conductor : ℕ) (standing : List ActorStanding) (root : ObjState) (before after : List (Piece N S)) → root ≡ Live → list_all has_finished standing ≡ false → LooksOnce conductor root before after
      → BeginsTurn conductor standing before after
  begins_busy conductor standing root before after is busy h =
      begins_on conductor standing root before after (ap is_ended is) (ap (λ b. b && is_live root) busy) h

  pub begins_asking : (conductor : ℕ) (standing : List ActorStanding) (root : ObjState) (before between after : List (Piece N S)) → root ≡ Live → list_all has_finished standing ≡ true
      → LooksOnce conductor root before between → AsksOnce conductor between after → BeginsTurn conductor standing before after
  begins_asking conductor standing root before between after is all h a = record {
    begins = Looks h.seen ∷ AsksRoot a.acts ∷ [];
    so = record {
      look = h.look;
      goes_on = ap is_ended (h.root_is ∙ is);
      asks_if = asks_some (list_all has_finished standing && is_live h.look.sight.root) a.acts
          (ap (λ r. list_all has_finished standing && is_live r) (h.root_is ∙ is) ∙ ap (λ b. b && true) all) (a.acts, a.asks, refl);
    };
    adds = record {
      added = a.adds.added ∙ ap (λ l. l ++ piece_of conductor false a.acts []) h.adds.added ∙ append_assoc before (piece_of conductor false (Said h.seen ∷ []) []) (piece_of conductor false a.acts [])
          ∙ ap (λ l. before ++ (piece_of conductor false (Said h.seen ∷ []) [] ++ l)) (sym (append-nil (piece_of conductor false a.acts [])));
      by = (h.adds.by.0, subst (λ l. AreActsBy conductor l) (sym (append-nil a.acts)) a.adds.by);
    };
  }

module _ {O N S : Type 0} (as_open : O → OpenSock) where
  pub come_first : (seed : ℕ) (old : List (Actor O)) (pieces : List (Piece N S)) → HasCome as_open seed seed [] [] old old pieces pieces
  come_first seed old pieces = record {
    go = refl;
    draws = (refl, refl);
    count = refl;
    by = tt;
    says = λ i a b was now. record { says = says_none a b (same a b (sym was ∙ now)); name = ap (λ (x : Actor O). x.name) (sym (same a b (sym was ∙ now))) };
    pieces_are = sym (append-nil pieces);
  }
    where
      same : (a b : Actor O) → ◌≡◌ {A = Option (Actor O)} (Some a) (Some b) → a ≡ b
      same a b e = cc

      says_none : (a b : Actor O) → a ≡ b → entries_of b ≡ entries_of a ++ []
      says_none a b e = ap entries_of (sym e) ∙ sym (append-nil (entries_of a))

  actor_did : (i : ℕ) (mid new : List (Actor O)) (deeds : List (Deed N S)) (a b : Actor O) → i < length mid → HasStepped as_open i mid new deeds → slice_get mid i ≡ Some a → slice_get new i ≡ Some b → ActorDoes as_open a deeds b
  actor_did i mid new deeds a b lt (acted x y was now does) is after =
      subst (λ (z : Actor O). ActorDoes as_open z deeds b) (same x a (sym was ∙ is)) (subst (λ (z : Actor O). ActorDoes as_open x deeds z) (same y b (sym now ∙ after)) does)
    where
      same : (p q : Actor O) → ◌≡◌ {A = Option (Actor O)} (Some p) (Some q) → p ≡ q
      same p q e = cc
  actor_did i mid new deeds a b lt (reaped at step) is after = elim (never at) [ ]
    where
      never : i ≡ length mid → ⊥
      never e = omega (arith, e, lt)
  actor_did i mid new deeds a b lt (served past none) is after = elim (never past) [ ]
    where
      never : length mid < i → ⊥
      never e = omega (arith, e, lt)

  -- a turn more
  pub come_more : (seed drawn next conductor reading : ℕ) (ts : List (OneTurn N S)) (os : List (List ℕ)) (old mid new : List (Actor O)) (first before between after : List (Piece N S))
      → conductor ≡ length old + 2 → HasCome as_open seed drawn ts os old mid first before → BeginsTurn conductor (standings as_open mid) before between → TurnSteps as_open seed drawn next mid new between after
      → (t : OneTurn N S) × (order : List ℕ) × HasCome as_open seed next (ts ++ t ∷ []) (os ++ order ∷ []) old new first after × (t.reading ≡ reading)
  come_more seed drawn next conductor reading ts os old mid new first before between after place come begins t = (
    turn,
    t.order,
    record {
      go = turns_more (standings as_open old) (standings as_open mid) (standings as_open new) ts turn come.go begins.so
          (whole_turn as_open seed drawn next mid new between after t);
      draws = draws_more seed (range_with_len 0 (length old + 2)) seed drawn next ts os turn t.order come.draws
          (subst (λ n. IsOrder seed drawn (range_with_len 0 (n + 2)) t.order next) come.count t.is_order);
      count = t.have.count ∙ come.count;
      by = by_more (length old + 2) ts turn come.by (record {
        conducted = subst (λ n. AreActsBy n (all_acts begins.begins)) place begins.adds.by;
        stepped = λ w lt. subst (λ (ds : List (Deed N S)). AreActsBy w (all_acts ds))
            (sym (step_of as_open begins.begins t.have.steps (length mid + 2) reading w (let c = come.count in omega (arith, lt, c)))) (t.have.by w);
      });
      says = says_then;
      pieces_are = pieces_then;
    },
    refl,
  )
    where
      turn : OneTurn N S
      turn = turn_of as_open begins.begins t.have.steps (length mid + 2) reading

      stepped : List (Piece N S)
      stepped = flat_map (λ w. deed_pieces w (w == length mid) (t.have.steps w)) t.order

      turn_is : deed_pieces conductor false begins.begins ++ stepped ≡ turn_pieces (length old) t.order turn
      turn_is = ap (λ k. deed_pieces k false begins.begins ++ stepped) place
          ∙ ap (λ l. deed_pieces (length old + 2) false begins.begins ++ l) (ap (λ n. flat_map (λ w. deed_pieces w (w == n) (t.have.steps w)) t.order) come.count
          ∙ sym (turn_told as_open (λ w. deed_pieces w (w == length old)) seed drawn next reading begins.begins mid new between after t))

      pieces_then : after ≡ first ++ turns_pieces (length old) (os ++ t.order ∷ []) (ts ++ turn ∷ [])
      pieces_then =
          t.have.adds ∙ ap (λ l. l ++ stepped) (begins.adds.added ∙ ap (λ l. l ++ deed_pieces conductor false begins.begins) come.pieces_are)
          ∙ append_assoc (first ++ turns_pieces (length old) os ts) (deed_pieces conductor false begins.begins) stepped
          ∙ append_assoc first (turns_pieces (length old) os ts) (deed_pieces conductor false begins.begins ++ stepped)
          ∙ ap (λ l. first ++ (turns_pieces (length old) os ts ++ l)) turn_is
          ∙ ap (λ l. first ++ l) (sym (pieces_more (length old) seed (range_with_len 0 (length old + 2)) seed drawn ts os turn t.order come.draws))

      says_then : (i : ℕ) (a b : Actor O) → slice_get old i ≡ Some a → slice_get new i ≡ Some b → HasSaid i (ts ++ turn ∷ []) a b
      says_then i a b was now =
          let lt_new : i < length new = slice_get_within new i b now in
          let lt : i < length mid = (let c = t.have.count in omega (arith, lt_new, c)) in
          let m = slice_index_or mid i b in
          let there : slice_get mid i ≡ Some m = slice_get-get_or mid i b lt in
          let said = come.says i a m was there in
          let once = t.have.stepped i (each_once i (length mid + 2) seed drawn t.order next t.is_order (omega (arith, lt))) in
          let did = actor_did i mid new (t.have.steps i) m b lt once there now in
          record {
            says = did.says ∙ ap (λ l. l ++ entries_shown (t.have.steps i)) said.says
                ∙ append_assoc (entries_of a) (entries_shown (deeds_in (map (turn_step i) ts))) (entries_shown (t.have.steps i))
                ∙ ap (λ l. entries_of a ++ l) (sym (shown_then i (step_of as_open begins.begins t.have.steps (length mid + 2) reading i (omega (arith, lt)))));
            name = did.name ∙ said.name;
          }
        where
          shown_then : (j : ℕ) → turn_step j turn ≡ t.have.steps j → entries_shown (deeds_in (map (turn_step j) (ts ++ turn ∷ []))) ≡ entries_shown (deeds_in (map (turn_step j) ts)) ++ entries_shown (t.have.steps j)
          shown_then j e =
              ap (λ l. entries_shown (deeds_in l)) (map-append (turn_step j) ts (turn ∷ []))
              ∙ ap entries_shown (flat_map-append (λ (step : List (Deed N S)). step) (map (turn_step j) ts) (turn_step j turn ∷ []))
              ∙ shown_more (deeds_in (map (turn_step j) ts)) (turn_step j turn ++ [])
              ∙ ap (λ l. entries_shown (deeds_in (map (turn_step j) ts)) ++ entries_shown l) (append-nil (turn_step j turn) ∙ e)

  -- the last look
  pub ends_so : (seed drawn limit conductor : ℕ) (root : ObjState) (done : Bool) (ts : List (OneTurn N S)) (os : List (List ℕ)) (old new : List (Actor O)) (first before after : List (Piece N S)) (clock clock_now : ClockAt)
      → HasRead ts clock clock_now → conductor ≡ length old + 2 → HasCome as_open seed drawn ts os old new first before → LooksOnce conductor root before after → done ≡ is_ended root → length ts ≤ limit → (is_ended root ≡ false → length ts ≡ limit)
      → RunsTimed as_open seed limit done old new first after clock clock_now
  ends_so seed drawn limit conductor root done ts os old new first before after clock clock_now read place come h is few over = record {
    runs = record {
      turned = record { first = read.0; turns = ts; last = h.seen };
      orders = os;
      go = come.go;
      few = few;
      rising = never_fall read.0 (map (λ turn. turn.reading) ts) (λ n a b. read.1.rising (suc n) a b);
      last = h.look;
      over = λ e. over (ap is_ended (sym h.root_is) ∙ e);
      done_is = is ∙ ap is_ended (sym h.root_is);
      drawn = draws_so seed (range_with_len 0 (length old + 2)) seed drawn ts os come.draws;
      count = come.count;
      says = come.says;
      by = come.by;
      last_by = subst (λ n. AreActsBy n (Said h.seen ∷ [])) place h.adds.by;
      pieces_are = h.adds.added ∙ ap (λ l. l ++ piece_of conductor false (Said h.seen ∷ []) []) come.pieces_are
          ∙ append_assoc first (turns_pieces (length old) os ts) (piece_of conductor false (Said h.seen ∷ []) [])
          ∙ ap (λ k. first ++ (turns_pieces (length old) os ts ++ piece_of k false (Said h.seen ∷ []) [])) place;
    };
    reads = read.1;
  }

  pub ends_early : (seed drawn limit conductor : ℕ) (ts : List (OneTurn N S)) (os : List (List ℕ)) (old new : List (Actor O)) (first before after : List (Piece N S)) (clock clock_now : ClockAt)
      → HasRead ts clock clock_now → conductor ≡ length old + 2 → HasCome as_open seed drawn ts os old new first before → EndsHere conductor before after → length ts ≤ limit
      → RunsTimed as_open seed limit true old new first after clock clock_now
  ends_early seed drawn limit conductor ts os old new first before after clock clock_now read place come h few =
      ends_so seed drawn limit conductor h.look.sight.root true ts os old new first before after clock clock_now read place come
      (record { seen = h.seen; look = h.look; root_is = refl; adds = h.adds }) (sym h.ended) few (λ e. elim (never (sym h.ended ∙ e)) [ ])
    where
      never : true ≡ false → ⊥
      never e = cc

  -- so far within the turns that it may take, with the readings of the clock
  abbrev pub Within : (seed limit drawn left : ℕ) (old now : List (Actor O)) (first before : List (Piece N S)) (clock clock_now : ClockAt) → Type 0
  Within seed limit drawn left old now first before clock clock_now =
      (ts : List (OneTurn N S)) × (os : List (List ℕ)) × HasCome as_open seed drawn ts os old now first before × (length ts + left ≡ limit) × HasRead ts clock clock_now

  pub within_first : (seed limit drawn reading : ℕ) (old : List (Actor O)) (pieces : List (Piece N S)) (clock clock_now : ClockAt) → drawn ≡ seed → ReadsClock clock (reading ∷ []) clock_now
      → Within seed limit drawn limit old old pieces pieces clock clock_now
  within_first seed limit drawn reading old pieces clock clock_now same one =
      ([], [], subst (λ d. HasCome as_open seed d [] [] old old pieces pieces) (sym same) (come_first seed old pieces), omega arith, (reading, one))

  pub within_more : (seed limit drawn next conductor left reading : ℕ) (old mid new : List (Actor O)) (first before between after : List (Piece N S)) (clock clock_then clock_now : ClockAt) → 0 < left → conductor ≡ length old + 2
      → Within seed limit drawn left old mid first before clock clock_then → BeginsTurn conductor (standings as_open mid) before between → TurnSteps as_open seed drawn next mid new between after → ReadsClock clock_then (reading ∷ []) clock_now
      → Within seed limit next (left - 1) old new first after clock clock_now
  within_more seed limit drawn next conductor left reading old mid new first before between after clock clock_then clock_now some place w begins turn one =
      let more = come_more seed drawn next conductor reading w.0 w.1 old mid new first before between after place w.2 begins turn in (
        w.0 ++ more.0 ∷ [],
        w.1 ++ more.1 ∷ [],
        more.2,
        (let l = length-append w.0 (more.0 ∷ []) in let count : length (more.0 ∷ []) ≡ 1 = refl in let all = w.3 in omega (arith, l, count, all, some)),
        read_then w.0 more.0 reading clock clock_then clock_now w.4 one more.3,
      )

  pub over_early : (seed limit drawn conductor left : ℕ) (old now : List (Actor O)) (first before after : List (Piece N S)) (clock clock_now : ClockAt) → conductor ≡ length old + 2
      → Within seed limit drawn left old now first before clock clock_now → EndsHere conductor before after → RunsTimed as_open seed limit true old now first after clock clock_now
  over_early seed limit drawn conductor left old now first before after clock clock_now place w h =
      ends_early seed drawn limit conductor w.0 w.1 old now first before after clock clock_now w.4 place w.2 h (let all = w.3 in omega (arith, all))

  pub over_late : (seed limit drawn conductor left : ℕ) (root : ObjState) (done : Bool) (old now : List (Actor O)) (first before after : List (Piece N S)) (clock clock_now : ClockAt) → left ≤ 0 → conductor ≡ length old + 2
      → Within seed limit drawn left old now first before clock clock_now → LooksOnce conductor root before after → done ≡ is_ended root → RunsTimed as_open seed limit done old now first after clock clock_now
  over_late seed limit drawn conductor left root done old now first before after clock clock_now none place w h is =
      ends_so seed drawn limit conductor root done w.0 w.1 old now first before after clock clock_now w.4 place w.2 h is (let all = w.3 in omega (arith, all)) (λ e. (let all = w.3 in omega (arith, all, none)))

  -- the clock went on so far
  pub went_on : (seed limit drawn left : ℕ) (old now : List (Actor O)) (first before : List (Piece N S)) (clock clock_now : ClockAt) → Within seed limit drawn left old now first before clock clock_now → GoesOn clock clock_now
  went_on seed limit drawn left old now first before clock clock_now w = (w.4.0 ∷ map (λ turn. turn.reading) w.0, w.4.1)
