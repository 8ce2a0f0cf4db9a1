-- An end is told to be sealed once.
use Rattle.std.specs.Prelude.{◌≡◌, ◌≤◌, ◌<◌, ◌&&◌, ◌||◌, ◌++◌, ℕ, Bool, true, false, not, List, [], ◌∷◌, All, filter, flat_map, length, refl}
use Rattle.std.specs.List.{list_any, AllByRecursion}
use Rattle.std.proofs.Common.{arith, sym, ap, ◌∙◌, subst, inl, inr, append-nil, append_assoc, length-append, length-set, true≢false}
use Rattle.std.proofs.lemmas.List.Elements.{All-head, All-tail}
use Rattle.std.proofs.lemmas.List.Folds.{list_any-append}
use Rattle.zq_base.specs.declared.ids.EndId.{EndId}
use Rattle.spec_control.specs.declared.end.EndState.{EndState}
use Rattle.spec_control.specs.declared.end.EndState.TheVariants.{Active, DelimiterGot, WaitDelimiter, AckSent, AskedOnce, AskedTwice, Gone}
use Rattle.spec_control.specs.declared.end.EndEvent.{EndEvent}
use Rattle.spec_control.specs.declared.end.EndEvent.TheVariants.{Asked, TermCame, DelimiterSeen, AckCame}
use Rattle.spec_control.specs.declared.entry.Item.{Item}
use Rattle.spec_control.specs.declared.entry.Item.TheVariants.{Event, Seen}
use Rattle.spec_control.specs.EndLife.{cell, comes, state_after}
use Rattle.spec_control.specs.Place.{Place, Unmade, Away, At}
use Rattle.spec_control.specs.Rows.{Rows, Step, makes_object, draws_pair, opens_pair, link_moves, pair_moves, object_ends, pair, end_place}
use Rattle.spec_control.specs.Control.{Control, begun, is_end, next_pair, place_of}
use Rattle.spec_control.specs.ControlRun.{after_all, after_item, FitsItem, IsControlRun}
use Rattle.control_laws.specs.EndStep.{EndStep, stays, awaits, attaches, lives, EndsLiveByTheTable}
use Rattle.control_laws.specs.Reached.{IsReached, goes_on}
use Rattle.control_laws.proofs.AskLemmas.{end_self, same_end}
use Rattle.control_laws.specs.Steps.{Steps, no_step, one_more, EventsAreSteps}
use Rattle.control_laws.specs.AttachedOnce.{AreOnce, AttachedOnce}
use Rattle.spec_control.specs.Moments.{Moment, left_by, moments_from}
use Rattle.desk.specs.Turns.{turned_in}
use Rattle.desk.proofs.TurnsLemmas.{seal_append}
use Rattle.spec_run.specs.Event.{is_asked_once, seals_in}
use Rattle.run_laws.specs.SealsTold.{SealsAreTold}
use Rattle.replay_laws.proofs.WalkLemmas.{run_more, all_more}
use Rattle.zq_world.proofs.RiseLemmas.{all_both}
use Rattle.socket_laws.proofs.SideLemmas.{IsKept, begun_is, grows}
use Rattle.socket_laws.specs.Changes.{AreNew}
use Rattle.socket_laws.specs.Said.{sealed_with}
use Rattle.socket_laws.specs.Asked.{asked_rank, WereAsked, EndsAreSealedOnce}

-- ---- one end

rank_lives : (event : EndEvent) (state : EndState) → comes event state ≡ true → asked_rank (At state) ≤ asked_rank (At (state_after (cell event state) state))
rank_lives event Active h = omega arith
rank_lives event DelimiterGot h = omega arith
rank_lives event WaitDelimiter h = omega arith
rank_lives event AckSent h = omega arith
rank_lives (Asked reason delay) AskedOnce h = omega arith
rank_lives TermCame AskedOnce h = omega arith
rank_lives DelimiterSeen AskedOnce h = omega arith
rank_lives AckCame AskedOnce h = omega arith
rank_lives (Asked reason delay) AskedTwice h = omega arith
rank_lives TermCame AskedTwice h = omega arith
rank_lives DelimiterSeen AskedTwice h = omega arith
rank_lives AckCame AskedTwice h = omega arith
rank_lives (Asked reason delay) Gone h = omega arith
rank_lives TermCame Gone h = omega arith
rank_lives DelimiterSeen Gone h = omega arith
rank_lives AckCame Gone h = omega arith

rank_step : (old new : Place) → EndStep old new → asked_rank old ≤ asked_rank new
rank_step old new (stays same) = let e = ap asked_rank same in omega (arith, e)
rank_step old new (awaits was is) = let e = ap asked_rank was in omega (arith, e)
rank_step old new (attaches (inl was) is) = let e = ap asked_rank was in omega (arith, e)
rank_step old new (attaches (inr was) is) = let e = ap asked_rank was in omega (arith, e)
rank_step old new (lives event state was come is) = let e = ap asked_rank was in let f = ap asked_rank is in let g = rank_lives event state come in omega (arith, e, f, g)

asked_is : (p : Place) → is_asked_once p ≡ true → asked_rank p ≡ 1
asked_is (At AskedOnce) h = refl
asked_is Unmade h = absurd (true≢false (sym h))
asked_is Away h = absurd (true≢false (sym h))
asked_is (At Active) h = absurd (true≢false (sym h))
asked_is (At DelimiterGot) h = absurd (true≢false (sym h))
asked_is (At WaitDelimiter) h = absurd (true≢false (sym h))
asked_is (At AckSent) h = absurd (true≢false (sym h))
asked_is (At AskedTwice) h = absurd (true≢false (sym h))
asked_is (At Gone) h = absurd (true≢false (sym h))

further : (p : Place) → is_asked_once p ≡ false → 0 < asked_rank p → 1 < asked_rank p
further (At AskedOnce) h lt = absurd (true≢false h)
further Unmade h lt = absurd (omega (arith, lt))
further Away h lt = absurd (omega (arith, lt))
further (At Active) h lt = absurd (omega (arith, lt))
further (At DelimiterGot) h lt = absurd (omega (arith, lt))
further (At WaitDelimiter) h lt = absurd (omega (arith, lt))
further (At AckSent) h lt = absurd (omega (arith, lt))
further (At AskedTwice) h lt = omega arith
further (At Gone) h lt = omega arith

-- ---- over steps of the rows

step_grows : (old new : Rows) → Step old new → length old.pairs ≤ length new.pairs
step_grows old new (makes_object w o u v x y e) = let s = ap (λ (r : Rows). length r.pairs) e in omega (arith, s)
step_grows old new (draws_pair p u v e) = let s = ap (λ (r : Rows). length r.pairs) e in let l = length-append old.pairs (p ∷ []) in omega (arith, s, l)
step_grows old new (opens_pair k a p u v x e) = let s = ap (λ (r : Rows). length r.pairs) e in let l = length-set old.pairs k p in omega (arith, s, l)
step_grows old new (link_moves c event may e) = let s = ap (λ (r : Rows). length r.pairs) e in omega (arith, s)
step_grows old new (pair_moves k a event p u v e) = let s = ap (λ (r : Rows). length r.pairs) e in let l = length-set old.pairs k p in omega (arith, s, l)
step_grows old new (object_ends c may e) = let s = ap (λ (r : Rows). length r.pairs) e in omega (arith, s)

record Ranks (k : ℕ) (a : Bool) (s t : Rows) : Type 0 where
  reached : IsReached t
  more : length s.pairs ≤ length t.pairs
  rank : asked_rank (end_place (pair s k) a) ≤ asked_rank (end_place (pair t k) a)

steps_rank : EndsLiveByTheTable → (k : ℕ) (a : Bool) (s t : Rows) → IsReached s → k < length s.pairs → Steps s t → Ranks k a s t
steps_rank table k a s t reached lt no_step = record { reached = reached; more = omega arith; rank = omega arith }
steps_rank table k a s t reached lt (one_more m u steps step) =
    let was = steps_rank table k a s m reached lt steps in
    let grown = step_grows m t step in
    let within = was.more in
    let one = rank_step _ _ (table m t was.reached step k a (omega (arith, within, lt))) in
    let before = was.rank in
    record { reached = goes_on m t was.reached step; more = omega (arith, within, grown); rank = omega (arith, before, one) }

-- ---- ends that are new

both : (a b : Bool) → (a && b) ≡ true → (a ≡ true) × (b ≡ true)
both true b h = (refl, h)
both false b h = absurd (true≢false (sym h))

is_not : (b : Bool) → not b ≡ true → b ≡ false
is_not true h = absurd (true≢false (sym h))
is_not false h = refl

other_way : (d e : EndId) → is_end d e ≡ false → is_end e d ≡ false
other_way d e h = by (is_end e d) refl
  where
    by : (b : Bool) → is_end e d ≡ b → b ≡ false
    by false g = refl
    by true g = absurd (true≢false (sym (end_self d) ∙ ap (is_end d) (sym (same_end e d g)) ∙ h))

neither : (a b : Bool) → (a || b) ≡ false → (a ≡ false) × (b ≡ false)
neither true b h = absurd (true≢false h)
neither false b h = (refl, h)

module _ (f : EndId → Bool) where
  abbrev Fresh : List EndId → List EndId → Type 0
  Fresh before es = AllByRecursion (λ e. f e ≡ true → list_any (is_end e) before ≡ false) es

  fresh_more : (before : List EndId) (x : EndId) (es : List EndId) → list_any (is_end x) es ≡ false → Fresh before es → Fresh (before ++ x ∷ []) es
  fresh_more before x [] apart fresh = tt
  fresh_more before x (e ∷ es) apart fresh =
      let n = neither (is_end x e) (list_any (is_end x) es) apart in
      (λ h. list_any-append (is_end e) before (x ∷ []) ∙ ap (λ (b : Bool). b || (is_end e x || false)) (fresh.0 h) ∙ ap (λ (b : Bool). b || false) (other_way x e n.0), fresh_more before x es n.1 fresh.1)

  fresh_new : (before es : List EndId) → AreOnce es → Fresh before es → AreNew before (filter f es)
  fresh_new before [] once fresh = tt
  fresh_new before (e ∷ es) once fresh = by (f e) refl (fresh_new before es once.1 fresh.1) (fresh_new (before ++ e ∷ []) es once.1 (fresh_more before e es once.0 fresh.1))
    where
      by : (b : Bool) → f e ≡ b → AreNew before (filter f es) → AreNew (before ++ e ∷ []) (filter f es) → AreNew before (filter f (e ∷ es))
      by true h rest here = rw h (fresh.0 h, here)
      by false h rest here = rw h rest

  all_filtered : (P : EndId → Type 0) (es : List EndId) → AllByRecursion (λ e. f e ≡ true → P e) es → AllByRecursion P (filter f es)
  all_filtered P [] all = tt
  all_filtered P (e ∷ es) all = by (f e) refl (all_filtered P es all.1)
    where
      by : (b : Bool) → f e ≡ b → AllByRecursion P (filter f es) → AllByRecursion P (filter f (e ∷ es))
      by true h rest = rw h (all.0 h, rest)
      by false h rest = rw h rest

new_both : (before es fs : List EndId) → AreNew before es → AreNew (before ++ es) fs → AreNew before (es ++ fs)
new_both before [] fs new then = subst (λ (l : List EndId). AreNew l fs) (append-nil before) then
new_both before (e ∷ es) fs new then = (new.0, new_both (before ++ e ∷ []) es fs new.1 (subst (λ (l : List EndId). AreNew l fs) (sym (append_assoc before (e ∷ []) es)) then))

-- ---- item by item

module _ {N T : Type 0} (table : EndsLiveByTheTable) (steps : EventsAreSteps N T) (once : AttachedOnce N T) (told : SealsAreTold N T) (io : ℕ) where
  pub record Led (c : Control) : Type 0 where
    pub items : List (Item N T)
    pub run : IsControlRun (begun io) items
    pub is : after_all items (begun io) ≡ c

  pub led_more : (c : Control) (item : Item N T) → Led c → FitsItem c item → Led (after_item item c)
  led_more c item led fits = record {
    items = led.items ++ item ∷ [];
    run = run_more led.items item (begun io) led.run (subst (λ (d : Control). FitsItem d item) (sym led.is) fits);
    is = all_more led.items item (begun io) ∙ ap (after_item item) led.is;
  }

  kept : (c : Control) → Led c → IsKept c
  kept c led = subst IsKept led.is (grows led.items (begun io) (begun_is io) led.run).1

  once_in : (c : Control) → Led c → AreOnce c.attached
  once_in c led = subst (λ (d : Control). AreOnce d.attached) led.is (once io led.items led.run)

  pub record Went (c d : Control) : Type 0 where
    pub pairs : next_pair c ≤ next_pair d
    pub rank : (e : EndId) → e.pair.0 < next_pair c → asked_rank (place_of c e) ≤ asked_rank (place_of d e)

  pub went : (c : Control) (item : Item N T) → Led c → FitsItem c item → Went c (after_item item c)
  went c (Seen sight) led fits = record { pairs = omega arith; rank = λ e lt. omega arith }
  went c (Event entry) led fits = record {
    pairs = (grows (Event entry ∷ []) c (kept c led) (fits, tt)).0.pairs;
    rank = λ e lt. (steps_rank table e.pair.0 e.a c.rows (after_item (Event entry) c).rows (kept c led).kept.reached lt
        (subst (λ (d : Control). Steps d.rows (after_item (Event entry) d).rows) led.is (steps io led.items led.run entry.did (subst (λ (d : Control). FitsItem d (Event entry)) (sym led.is) fits)))).rank;
  }

  module _ (c : Control) (item : Item N T) (led : Led c) (fits : FitsItem c item) where
    abbrev d : Control
    d = after_item item c

    abbrev comes_asked : EndId → Bool
    comes_asked e = is_asked_once (place_of d e) && not (is_asked_once (place_of c e))

    not_told : (e : EndId) → comes_asked e ≡ true → (before : List EndId) → WereAsked c before → list_any (is_end e) before ≡ false
    not_told e h [] all = refl
    not_told e h (b ∷ before) all = by (is_end e b) refl (not_told e h before all.1)
      where
        by : (x : Bool) → is_end e b ≡ x → list_any (is_end e) before ≡ false → (x || list_any (is_end e) before) ≡ false
        by false g rest = rest
        by true g rest =
            let so : (e.pair.0 < next_pair c) × (0 < asked_rank (place_of c e)) = subst (λ (y : EndId). (y.pair.0 < next_pair c) × (0 < asked_rank (place_of c y))) (sym (same_end e b g)) all.0 in
            let asked = both (is_asked_once (place_of d e)) (not (is_asked_once (place_of c e))) h in
            let now = asked_is (place_of d e) asked.0 in
            let was = further (place_of c e) (is_not (is_asked_once (place_of c e)) asked.1) so.1 in
            let rank = (went c item led fits).rank e so.0 in
            absurd (omega (arith, now, was, rank))

    fresh : (before es : List EndId) → WereAsked c before → Fresh comes_asked before es
    fresh before [] all = tt
    fresh before (e ∷ es) all = (λ h. not_told e h before all, fresh before es all)

    still_asked : (before : List EndId) → WereAsked c before → WereAsked d before
    still_asked [] all = tt
    still_asked (b ∷ before) all =
        let lt = all.0.0 in let pairs = (went c item led fits).pairs in let was = all.0.1 in let rank = (went c item led fits).rank b lt in
        ((omega (arith, lt, pairs), omega (arith, was, rank)), still_asked before all.1)

    now_asked : (es : List EndId) → All (λ e. e.pair.0 < next_pair d) es → AllByRecursion (λ e. comes_asked e ≡ true → (e.pair.0 < next_pair d) × (0 < asked_rank (place_of d e))) es
    now_asked [] all = tt
    now_asked (e ∷ es) all = (
      λ h. (All-head (λ x. x.pair.0 < next_pair d) e es all, let now = asked_is (place_of d e) (both (is_asked_once (place_of d e)) (not (is_asked_once (place_of c e))) h).0 in omega (arith, now)),
      now_asked es (All-tail (λ x. x.pair.0 < next_pair d) e es all),
    )

    one_item : (before : List EndId) → WereAsked c before → AreNew before (filter comes_asked d.attached) × WereAsked d (before ++ filter comes_asked d.attached)
    one_item before all = (
      fresh_new comes_asked before d.attached (once_in d (led_more c item led fits)) (fresh before d.attached all),
      all_both (λ e. (e.pair.0 < next_pair d) × (0 < asked_rank (place_of d e))) before (filter comes_asked d.attached) (still_asked before all)
          (all_filtered comes_asked (λ e. (e.pair.0 < next_pair d) × (0 < asked_rank (place_of d e))) d.attached (now_asked d.attached (kept d (led_more c item led fits)).known)),
    )

  all_items : (more : List (Item N T)) (c : Control) → Led c → IsControlRun c more → (before : List EndId) → WereAsked c before
      → AreNew before (sealed_with (moments_from c more)) × WereAsked (after_all more c) (before ++ sealed_with (moments_from c more))
  all_items [] c led on before all = (tt, subst (WereAsked c) (sym (append-nil before)) all)
  all_items (item ∷ more) c led on before all =
      let m : Moment N T = record { found = c; item = item } in
      let ms = moments_from (after_item item c) more in
      let one = one_item c item led on.0 before all in
      let rest = all_items more (after_item item c) (led_more c item led on.0) on.1 (before ++ seals_in m) one.1 in
      let same : sealed_with (m ∷ ms) ≡ seals_in m ++ sealed_with ms =
      seal_append (turned_in m.found (left_by m)) (flat_map (λ (n : Moment N T). turned_in n.found (left_by n)) ms) ∙ ap (λ (l : List EndId). l ++ sealed_with ms) (told m) in (
        subst (AreNew before) (sym same) (new_both before (seals_in m) (sealed_with ms) one.0 rest.0),
        subst (λ (l : List EndId). WereAsked (after_all more (after_item item c)) (before ++ l)) (sym same) (subst (WereAsked (after_all more (after_item item c))) (append_assoc before (seals_in m) (sealed_with ms)) rest.1),
      )

pub ends_are_sealed_once : (N T : Type 0) → EndsLiveByTheTable → EventsAreSteps N T → AttachedOnce N T → SealsAreTold N T → EndsAreSealedOnce N T
ends_are_sealed_once N T table steps once told io items more run on before all =
    all_items table steps once told io more (after_all items (begun io)) (record { items = items; run = run; is = refl }) on before all
