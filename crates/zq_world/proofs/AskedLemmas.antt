-- Behind the conductor's asking of the root no actor has an item.
use Rattle.std.proofs.Common.{◌≡◌, ◌≢◌, ◌≤◌, ◌<◌, ◌+◌, ℕ, zero, suc, List, [], ◌∷◌, ◌++◌, Bool, true, false, length, map, refl, sym, ap, subst, ◌∙◌, arith, append-nil, append_assoc}
use Rattle.std.specs.Prelude.{◌&&◌, ◌||◌, not, flat_map, nat_le, nat_lt, slice_index_or}
use Rattle.std.specs.List.{list_all}
use Rattle.std.proofs.lemmas.Bool.{ne_eqb, ltb-true, ltb-false, le-leb}
use Rattle.std.proofs.lemmas.List.{map-append, length-map}
use Rattle.std.proofs.lemmas.List.Elements.{filter_map-append}
use Rattle.zq_base.specs.declared.ids.EndId.{EndId}
use Rattle.spec_pattern.specs.PipeStep.{Seal}
use Rattle.spec_control.specs.declared.entry.Item.{Item}
use Rattle.spec_control.specs.declared.entry.Item.TheVariants.{Event, Seen}
use Rattle.spec_control.specs.declared.entry.SeenEmpty.TheVariants.{Nothing}
use Rattle.spec_control.specs.Control.{Control, begun}
use Rattle.spec_control.specs.ControlRun.{after_item}
use Rattle.spec_control.specs.OwnAsks.{is_none}
use Rattle.spec_control.specs.Held.{caller_of}
use Rattle.spec_control.specs.Moments.{Moment, moments_from}
use Rattle.spec_run.specs.Act.{Act, Step, Said, moment_of, moments_in, Deed, Tries, Shuts, Fetches, Idles, Works, Looks, AsksRoot, Reads, all_acts}
use Rattle.spec_run.specs.Event.{IsLookAt, seals_in}
use Rattle.spec_run.specs.Script.{Script}
use Rattle.spec_run.specs.OpenSocket.{OpenSock}
use Rattle.spec_run.specs.Standing.{ActorStanding, standing_before, has_finished}
use Rattle.spec_run.specs.InTurns.{ActorStep, AllStep, OneTurn, AsksIf, Begins, Turned, TurnsGo, IsInTurns, worker_count, sequence, asks_root_in, asks_root_by, asks_last, is_live, turn_step, turn_sequence, turns_sequence}
use Rattle.zq_world.specs.Piece.{Piece, AreActsBy, acts_in}
use Rattle.zq_world.specs.Stepping.{standing_of}
use Rattle.zq_world.specs.declared.actor.Actor.{Actor}
use Rattle.zq_world.specs.Turning.{standings, TurnBy, TurnsBy, RunsSo}
use Rattle.zq_world.specs.GoesInTurns.{run_of}
use Rattle.zq_world.proofs.StepLemmas.{all_acts-append}
use Rattle.zq_world.proofs.PieceLemmas.{runs_acts}

and_left : (a b : Bool) → (a && b) ≡ true → a ≡ true
and_left true b e = refl
and_left false b e = e

and_right : (a b : Bool) → (a && b) ≡ true → b ≡ true
and_right true b e = e
and_right false b e = cc

pub and_both : (a b : Bool) → a ≡ true → b ≡ true → (a && b) ≡ true
and_both true b e f = f
and_both false b e f = e

or_true : (a b : Bool) → b ≡ true → (a || b) ≡ true
or_true true b e = refl
or_true false b e = e

pub all-append : {X : Type 0} (test : X → Bool) (xs ys : List X) → list_all test xs ≡ true → list_all test ys ≡ true → list_all test (xs ++ ys) ≡ true
all-append test [] ys e f = f
all-append test (x ∷ xs) ys e f = and_both (test x) (list_all test (xs ++ ys)) (and_left (test x) (list_all test xs) e) (all-append test xs ys (and_right (test x) (list_all test xs) e) f)

some_none : {X : Type 0} (x : X) (xs ys : List X) → ys ≡ x ∷ xs → is_none ys ≡ true → ⊥
some_none x xs [] e f = cc
some_none x xs (y ∷ ys) e f = cc

-- an actor that has finished does nothing
module _ {N S : Type 0} where
  pub finished_step : (old new : ActorStanding) (deeds : List (Deed N S)) → has_finished old ≡ true → ActorStep old deeds new → (deeds ≡ []) × (new ≡ old)
  finished_step old new [] done s = (refl, s.1)
  finished_step old new (Tries t ∷ []) done s = elim (some_none t.line s.rest old.lines s.lines_are (and_left (is_none old.lines) (is_none old.mine.socks) done)) [ ]
  finished_step old new (Shuts acts ∷ []) done s = elim (some_none s.first s.others old.mine.socks s.socks_are (and_right (is_none old.lines) (is_none old.mine.socks) done)) [ ]
  finished_step old new (Fetches slot acts ∷ []) done s = elim s [ ]
  finished_step old new (Idles m ∷ []) done s = elim s [ ]
  finished_step old new (Works acts ∷ []) done s = elim s [ ]
  finished_step old new (Looks m ∷ []) done s = elim s [ ]
  finished_step old new (AsksRoot acts ∷ []) done s = elim s [ ]
  finished_step old new (Reads now ∷ []) done s = elim s [ ]
  finished_step old new (Tries t ∷ e ∷ ds) done s = elim s [ ]
  finished_step old new (Shuts acts ∷ e ∷ ds) done s = elim s [ ]
  finished_step old new (Fetches slot acts ∷ e ∷ ds) done s = elim s [ ]
  finished_step old new (Idles m ∷ e ∷ ds) done s = elim s [ ]
  finished_step old new (Works acts ∷ e ∷ ds) done s = elim s [ ]
  finished_step old new (Looks m ∷ e ∷ ds) done s = elim s [ ]
  finished_step old new (AsksRoot acts ∷ e ∷ ds) done s = elim s [ ]
  finished_step old new (Reads now ∷ e ∷ ds) done s = elim s [ ]

  -- where all have finished, they have still behind a turn, and no actor did anything
  still_finished : (olds news : List ActorStanding) (steps : List (List (Deed N S))) → list_all has_finished olds ≡ true → AllStep 1 olds steps news → list_all has_finished news ≡ true
  still_finished [] news [] done all = elim all [ ]
  still_finished [] news (reaper ∷ serving) done all = ap (list_all has_finished) all.2
  still_finished (o ∷ olds) news [] done all = elim all [ ]
  still_finished (o ∷ olds) [] (s ∷ steps) done all = elim all [ ]
  still_finished (o ∷ olds) (n ∷ news) (s ∷ steps) done all =
      let one = finished_step o n s (and_left (has_finished o) (list_all has_finished olds) done) all.0 in
      and_both (has_finished n) (list_all has_finished news) (ap has_finished one.1 ∙ and_left (has_finished o) (list_all has_finished olds) done) (still_finished olds news steps (and_right (has_finished o) (list_all has_finished olds) done) all.1)

  no_step : (olds news : List ActorStanding) (steps : List (List (Deed N S))) (w : ℕ) → list_all has_finished olds ≡ true → AllStep 1 olds steps news → w < length olds → slice_index_or steps w [] ≡ []
  no_step [] news steps w done all lt = elim (never lt) [ ]
    where
      never : w < length {A = ActorStanding} [] → ⊥
      never e = omega (arith, e)
  no_step (o ∷ olds) news [] w done all lt = elim all [ ]
  no_step (o ∷ olds) [] (s ∷ steps) w done all lt = elim all [ ]
  no_step (o ∷ olds) (n ∷ news) (s ∷ steps) zero done all lt = (finished_step o n s (and_left (has_finished o) (list_all has_finished olds) done) all.0).0
  no_step (o ∷ olds) (n ∷ news) (s ∷ steps) (suc w) done all lt = no_step olds news steps w (and_right (has_finished o) (list_all has_finished olds) done) all.1 (let e = lt in omega (arith, e))

  -- there are no steps but those of the workers
  pub past_steps : (olds news : List ActorStanding) (steps : List (List (Deed N S))) (w : ℕ) → AllStep 1 olds steps news → length olds + 2 ≤ w → slice_index_or steps w [] ≡ []
  past_steps [] news [] w all le = elim all [ ]
  past_steps [] news (reaper ∷ serving) zero all le = elim (never le) [ ]
    where
      never : length {A = ActorStanding} [] + 2 ≤ 0 → ⊥
      never e = omega (arith, e)
  past_steps [] news (reaper ∷ serving) (suc zero) all le = elim (never le) [ ]
    where
      never : length {A = ActorStanding} [] + 2 ≤ 1 → ⊥
      never e = omega (arith, e)
  past_steps [] news (reaper ∷ serving) (suc (suc w)) all le = ap (λ (l : List (List (Deed N S))). slice_index_or l (suc w) []) all.1
  past_steps (o ∷ olds) news [] w all le = elim all [ ]
  past_steps (o ∷ olds) [] (s ∷ steps) w all le = elim all [ ]
  past_steps (o ∷ olds) (n ∷ news) (s ∷ steps) zero all le = elim (never le) [ ]
    where
      never : length (o ∷ olds) + 2 ≤ 0 → ⊥
      never e = omega (arith, e)
  past_steps (o ∷ olds) (n ∷ news) (s ∷ steps) (suc w) all le = past_steps olds news steps w all.1 (let e = le in omega (arith, e))

  pub as_many : (olds news : List ActorStanding) (steps : List (List (Deed N S))) → AllStep 1 olds steps news → length news ≡ length olds
  as_many [] news [] all = elim all [ ]
  as_many [] news (reaper ∷ serving) all = ap length all.2
  as_many (o ∷ olds) news [] all = elim all [ ]
  as_many (o ∷ olds) [] (s ∷ steps) all = elim all [ ]
  as_many (o ∷ olds) (n ∷ news) (s ∷ steps) all = ap suc (as_many olds news steps all.1)

  -- the items of acts
  abbrev pub items_of : List (Act N S) → List (Item N S)
  items_of acts = map (λ m. m.item) (moments_in acts)

  pub items_of-append : (xs ys : List (Act N S)) → items_of (xs ++ ys) ≡ items_of xs ++ items_of ys
  items_of-append xs ys = ap (map (λ m. m.item)) (filter_map-append moment_of xs ys) ∙ map-append (λ m. m.item) (moments_in xs) (moments_in ys)

  -- items of no actor
  abbrev AreLate : ℕ → List (Item N S) → Type 0
  AreLate n items = list_all (λ other. nat_le n (caller_of other)) items ≡ true

  late_acts : (n w : ℕ) (acts : List (Act N S)) → AreActsBy w acts → n ≤ w → AreLate n (items_of acts)
  late_acts n w [] by le = refl
  late_acts n w (Step step ∷ acts) by le = late_acts n w acts by le
  late_acts n w (Said m ∷ acts) by le =
      and_both (nat_le n (caller_of m.item)) (list_all (λ other. nat_le n (caller_of other)) (items_of acts))
      (le-leb n (caller_of m.item) (let e = by.0 in omega (arith, e, le))) (late_acts n w acts by.1 le)

  not_asks : (conductor : ℕ) (item : Item N S) → caller_of item ≢ conductor → asks_root_by conductor item ≡ false
  not_asks conductor (Event entry) ne = ap (λ b. b && asks_root_in entry.did) (ne_eqb entry.by conductor ne)
  not_asks conductor (Seen sight) ne = refl

  skip_one : (n conductor : ℕ) (item : Item N S) (items : List (Item N S)) → asks_root_by conductor item ≡ false → asks_last n conductor (item ∷ items) ≡ asks_last n conductor items
  skip_one n conductor item items none = ap (λ b. (not b || list_all (λ other. nat_le n (caller_of other)) items) && asks_last n conductor items) none

  skip_acts : (n conductor w : ℕ) (acts : List (Act N S)) (items : List (Item N S)) → AreActsBy w acts → w ≢ conductor → asks_last n conductor (items_of acts ++ items) ≡ asks_last n conductor items
  skip_acts n conductor w [] items by ne = refl
  skip_acts n conductor w (Step step ∷ acts) items by ne = skip_acts n conductor w acts items by ne
  skip_acts n conductor w (Said m ∷ acts) items by ne =
      skip_one n conductor m.item (items_of acts ++ items) (not_asks conductor m.item (λ e. ne (sym by.0 ∙ e))) ∙ skip_acts n conductor w acts items by.1 ne

  no_seals : (es : List EndId) → items_of (map (λ e. Step (Seal e)) es) ≡ []
  no_seals [] = refl
  no_seals (e ∷ es) = no_seals es

  -- ---- a turn's steps, in any order

  late_steps : (n : ℕ) (olds news : List ActorStanding) (t : OneTurn N S) (order : List ℕ) → n ≡ length olds → list_all has_finished olds ≡ true → AllStep 1 olds t.steps news → TurnBy (n + 2) t
      → AreLate n (items_of (all_acts (flat_map (λ w. turn_step w t) order)))
  late_steps n olds news t [] same done all by = refl
  late_steps n olds news t (w ∷ order) same done all by =
      subst (AreLate n) (sym (ap items_of (all_acts-append (turn_step w t) (flat_map (λ v. turn_step v t) order)) ∙ items_of-append (all_acts (turn_step w t)) (all_acts (flat_map (λ v. turn_step v t) order))))
      (all-append (λ other. nat_le n (caller_of other)) (items_of (all_acts (turn_step w t))) (items_of (all_acts (flat_map (λ v. turn_step v t) order)))
      (one (nat_lt w n) refl (nat_lt w (n + 2)) refl) (late_steps n olds news t order same done all by))
    where
      one : (b : Bool) → nat_lt w n ≡ b → (c : Bool) → nat_lt w (n + 2) ≡ c → AreLate n (items_of (all_acts (turn_step w t)))
      one true e c f = ap (λ ds. list_all (λ other. nat_le n (caller_of other)) (items_of (all_acts ds))) (no_step olds news t.steps w done all (let g = ltb-true w n e in omega (arith, g, same)))
      one false e true f = late_acts n w (all_acts (turn_step w t)) (by.stepped w (ltb-true w (n + 2) f)) (ltb-false w n e)
      one false e false f = ap (λ ds. list_all (λ other. nat_le n (caller_of other)) (items_of (all_acts ds))) (past_steps olds news t.steps w all (let g = ltb-false w (n + 2) f in omega (arith, g, same)))

  skip_steps : (n : ℕ) (olds news : List ActorStanding) (t : OneTurn N S) (order : List ℕ) (items : List (Item N S)) → n ≡ length olds → AllStep 1 olds t.steps news → TurnBy (n + 2) t
      → asks_last n (n + 2) (items_of (all_acts (flat_map (λ w. turn_step w t) order)) ++ items) ≡ asks_last n (n + 2) items
  skip_steps n olds news t [] items same all by = refl
  skip_steps n olds news t (w ∷ order) items same all by =
      ap (λ l. asks_last n (n + 2) (l ++ items)) (ap items_of (all_acts-append (turn_step w t) (flat_map (λ v. turn_step v t) order)) ∙ items_of-append (all_acts (turn_step w t)) (all_acts (flat_map (λ v. turn_step v t) order)))
      ∙ ap (asks_last n (n + 2)) (append_assoc (items_of (all_acts (turn_step w t))) (items_of (all_acts (flat_map (λ v. turn_step v t) order))) items)
      ∙ one (nat_lt w (n + 2)) refl (items_of (all_acts (flat_map (λ v. turn_step v t) order)) ++ items)
      ∙ skip_steps n olds news t order items same all by
    where
      one : (c : Bool) → nat_lt w (n + 2) ≡ c → (rest : List (Item N S)) → asks_last n (n + 2) (items_of (all_acts (turn_step w t)) ++ rest) ≡ asks_last n (n + 2) rest
      one true f rest = skip_acts n (n + 2) w (all_acts (turn_step w t)) rest (by.stepped w (ltb-true w (n + 2) f)) (let g = ltb-true w (n + 2) f in λ e. omega (arith, g, e))
      one false f rest = ap (λ ds. asks_last n (n + 2) (items_of (all_acts ds) ++ rest)) (past_steps olds news t.steps w all (let g = ltb-false w (n + 2) f in omega (arith, g, same)))

  -- the items of a turn with those behind it
  pub turn_items : (order : List ℕ) (t : OneTurn N S) (more : List (Deed N S)) (items : List (Item N S))
      → items_of (all_acts (turn_sequence order t ++ more)) ++ items ≡ items_of (all_acts t.begins) ++ (items_of (all_acts (flat_map (λ w. turn_step w t) order)) ++ (items_of (all_acts more) ++ items))
  turn_items order t more items =
      ap (λ l. items_of l ++ items) (all_acts-append (turn_sequence order t) more
      ∙ ap (λ l. l ++ all_acts more) (all_acts-append t.begins (flat_map (λ w. turn_step w t) order ++ Reads t.reading ∷ [])
      ∙ ap (λ l. all_acts t.begins ++ l) (all_acts-append (flat_map (λ w. turn_step w t) order) (Reads t.reading ∷ []) ∙ append-nil (all_acts (flat_map (λ w. turn_step w t) order)))))
      ∙ ap (λ l. l ++ items) (items_of-append (all_acts t.begins ++ all_acts (flat_map (λ w. turn_step w t) order)) (all_acts more)
      ∙ ap (λ l. l ++ items_of (all_acts more)) (items_of-append (all_acts t.begins) (all_acts (flat_map (λ w. turn_step w t) order))))
      ∙ append_assoc (items_of (all_acts t.begins) ++ items_of (all_acts (flat_map (λ w. turn_step w t) order))) (items_of (all_acts more)) items
      ∙ append_assoc (items_of (all_acts t.begins)) (items_of (all_acts (flat_map (λ w. turn_step w t) order))) (items_of (all_acts more) ++ items)

  -- ---- turns

  late_turns : (n : ℕ) (olds news : List ActorStanding) (ts : List (OneTurn N S)) (os : List (List ℕ)) (items : List (Item N S)) → n ≡ length olds → list_all has_finished olds ≡ true → TurnsGo 1 olds ts news
      → TurnsBy (n + 2) ts → AreLate n items → AreLate n (items_of (all_acts (turns_sequence os ts)) ++ items)
  late_turns n olds news ts [] items same done go by late = late
  late_turns n olds news [] (o ∷ os) items same done go by late = late
  late_turns n olds news (t ∷ ts) (o ∷ os) items same done go by late =
      subst (AreLate n) (sym (turn_items o t (turns_sequence os ts) items))
      (all-append test (items_of (all_acts t.begins)) (items_of (all_acts (flat_map (λ w. turn_step w t) o)) ++ (items_of (all_acts (turns_sequence os ts)) ++ items))
      (late_acts n (n + 2) (all_acts t.begins) by.0.conducted (omega arith))
      (all-append test (items_of (all_acts (flat_map (λ w. turn_step w t) o))) (items_of (all_acts (turns_sequence os ts)) ++ items)
      (late_steps n olds go.1.0 t o same done go.1.1 by.0)
      (late_turns n go.1.0 news ts os items (same ∙ sym (as_many olds go.1.0 t.steps go.1.1)) (still_finished olds go.1.0 t.steps done go.1.1) go.1.2 by.1 late)))
    where
      test : Item N S → Bool
      test other = nat_le n (caller_of other)

  begins_last : (n : ℕ) (olds : List ActorStanding) (begins : List (Deed N S)) (items : List (Item N S)) → Begins olds begins → (list_all has_finished olds ≡ true → AreLate n items)
      → asks_last n (n + 2) items ≡ true → asks_last n (n + 2) (items_of (all_acts begins) ++ items) ≡ true
  begins_last n olds [] items so late last = elim so [ ]
  begins_last n olds (Looks m ∷ asks) items so late last =
      skip_one n (n + 2) m.item (items_of (all_acts asks) ++ items) (ap (asks_root_by (n + 2)) so.look.item_is)
      ∙ asked (list_all has_finished olds && is_live so.look.sight.root) refl asks so.asks_if
    where
      asked : (b : Bool) → (list_all has_finished olds && is_live so.look.sight.root) ≡ b → (ds : List (Deed N S)) → AsksIf b ds → asks_last n (n + 2) (items_of (all_acts ds) ++ items) ≡ true
      asked false e ds a = ap (λ l. asks_last n (n + 2) (items_of (all_acts l) ++ items)) a ∙ last
      asked true e ds a =
          ap (λ l. asks_last n (n + 2) (items_of (all_acts l) ++ items)) a.2
          ∙ ap (λ l. asks_last n (n + 2) (items_of l ++ items)) (append-nil a.0 ∙ a.1.acts_are)
          ∙ ap (λ l. asks_last n (n + 2) ((a.1.asked.item ∷ l) ++ items)) (no_seals (seals_in a.1.asked))
          ∙ and_both (not (asks_root_by (n + 2) a.1.asked.item) || list_all (λ other. nat_le n (caller_of other)) items) (asks_last n (n + 2) items)
          (or_true (not (asks_root_by (n + 2) a.1.asked.item)) (list_all (λ other. nat_le n (caller_of other)) items) (late (and_left (list_all has_finished olds) (is_live so.look.sight.root) e))) last
  begins_last n olds (Tries t ∷ asks) items so late last = elim so [ ]
  begins_last n olds (Shuts acts ∷ asks) items so late last = elim so [ ]
  begins_last n olds (Fetches slot acts ∷ asks) items so late last = elim so [ ]
  begins_last n olds (Idles m ∷ asks) items so late last = elim so [ ]
  begins_last n olds (Works acts ∷ asks) items so late last = elim so [ ]
  begins_last n olds (AsksRoot acts ∷ asks) items so late last = elim so [ ]
  begins_last n olds (Reads now ∷ asks) items so late last = elim so [ ]

  pub asked_turns : (n : ℕ) (olds news : List ActorStanding) (ts : List (OneTurn N S)) (os : List (List ℕ)) (items : List (Item N S)) → n ≡ length olds → TurnsGo 1 olds ts news → TurnsBy (n + 2) ts
      → AreLate n items → asks_last n (n + 2) items ≡ true → asks_last n (n + 2) (items_of (all_acts (turns_sequence os ts)) ++ items) ≡ true
  asked_turns n olds news ts [] items same go by late last = last
  asked_turns n olds news [] (o ∷ os) items same go by late last = last
  asked_turns n olds news (t ∷ ts) (o ∷ os) items same go by late last =
      ap (asks_last n (n + 2)) (turn_items o t (turns_sequence os ts) items)
      ∙ begins_last n olds t.begins (items_of (all_acts (flat_map (λ w. turn_step w t) o)) ++ (items_of (all_acts (turns_sequence os ts)) ++ items)) go.0
      (λ done. all-append (λ other. nat_le n (caller_of other)) (items_of (all_acts (flat_map (λ w. turn_step w t) o))) (items_of (all_acts (turns_sequence os ts)) ++ items)
      (late_steps n olds go.1.0 t o same done go.1.1 by.0)
      (late_turns n go.1.0 news ts os items (same ∙ sym (as_many olds go.1.0 t.steps go.1.1)) (still_finished olds go.1.0 t.steps done go.1.1) go.1.2 by.1 late))
      (skip_steps n olds go.1.0 t o (items_of (all_acts (turns_sequence os ts)) ++ items) same go.1.1 by.0
      ∙ asked_turns n go.1.0 news ts os items (same ∙ sym (as_many olds go.1.0 t.steps go.1.1)) go.1.2 by.1 late last)

  -- the last look is behind them
  pub late_look : (n : ℕ) (m : Moment N S) → AreActsBy (n + 2) (Said m ∷ []) → AreLate n (items_of (Said m ∷ []))
  late_look n m by = late_acts n (n + 2) (Said m ∷ []) by (omega arith)

  pub items_from : (c : Control) (items : List (Item N S)) → map (λ m. m.item) (moments_from c items) ≡ items
  items_from c [] = refl
  items_from c (item ∷ items) = ap (λ l. item ∷ l) (items_from (after_item item c) items)

  last_alone : (n : ℕ) (m : Moment N S) → IsLookAt Nothing m → asks_last n (n + 2) (items_of (Said m ∷ [])) ≡ true
  last_alone n m look = skip_one n (n + 2) m.item [] (ap (asks_root_by (n + 2)) look.item_is)

  pub whole_items : (os : List (List ℕ)) (t : Turned N S) → items_of (all_acts (sequence os t)) ≡ items_of (all_acts (turns_sequence os t.turns)) ++ items_of (Said t.last ∷ [])
  whole_items os t = ap items_of (all_acts-append (turns_sequence os t.turns) (Looks t.last ∷ [])) ∙ items_of-append (all_acts (turns_sequence os t.turns)) (Said t.last ∷ [])

module _ {O : Type 0} (as_open : O → OpenSock) where
  -- as many actors as the script has
  pub as_scripted : (script : Script) (old : List (Actor O)) → standings as_open old ≡ map standing_before script → length old ≡ length script
  as_scripted script old same = sym (length-map old (standing_of as_open)) ∙ ap length same ∙ length-map script standing_before

module _ {O N S : Type 0} (as_open : O → OpenSock) where
  pub in_turns : (script : Script) (seed limit : ℕ) (done : Bool) (old new : List (Actor O)) (pieces : List (Piece N S)) (order : List (Item N S)) → standings as_open old ≡ map standing_before script
      → (runs : RunsSo as_open seed limit done old new [] pieces) → moments_in (acts_in pieces) ≡ moments_from (begun 1) order → IsInTurns script 1 limit runs.turned (run_of script runs.turned order)
  in_turns script seed limit done old new pieces order same runs one = record {
    workers_are = refl;
    standings = standings as_open new;
    go = subst (λ (sts : List ActorStanding). TurnsGo 1 sts runs.turned.turns (standings as_open new)) same runs.go;
    few = runs.few;
    rising = runs.rising;
    asked_last = asked;
    last = runs.last;
    over = runs.over;
  }
    where
      n : ℕ
      n = length script

      count : length old ≡ length script
      count = as_scripted as_open script old same

      by : TurnsBy (length script + 2) runs.turned.turns
      by = subst (λ k. TurnsBy (k + 2) runs.turned.turns) count runs.by

      last_by : AreActsBy (length script + 2) (Said runs.turned.last ∷ [])
      last_by = subst (λ k. AreActsBy (k + 2) (Said runs.turned.last ∷ [])) count runs.last_by

      whole : order ≡ items_of (all_acts (turns_sequence runs.orders runs.turned.turns)) ++ items_of (Said runs.turned.last ∷ [])
      whole = sym (items_from (begun 1) order) ∙ ap (map (λ m. m.item)) (sym one) ∙ ap items_of (runs_acts as_open seed limit done old new pieces runs) ∙ whole_items runs.orders runs.turned

      two : length script + 2 ≡ length script + 1 + 1
      two = omega arith

      asked : asks_last (length script) (worker_count script 1) order ≡ true
      asked = subst (λ k. asks_last (length script) k order ≡ true) two
          (ap (asks_last (length script) (length script + 2)) whole
          ∙ asked_turns (length script) (standings as_open old) (standings as_open new) runs.turned.turns runs.orders (items_of (Said runs.turned.last ∷ []))
          (sym count ∙ sym (length-map old (standing_of as_open))) runs.go by (late_look (length script) runs.turned.last last_by) (last_alone (length script) runs.turned.last runs.last))
