-- Once the root was asked and all actors have finished, the reaper takes a letter in each turn.
use Rattle.std.specs.Prelude.{◌≡◌, ◌≤◌, ◌⊎◌, ◌==◌, ◌+◌, ◌&&◌, ℕ, Bool, true, false, not, List, [], ◌∷◌, ◌++◌, if◌then◌else◌, flat_map, length, map, sum_by, refl}
use Rattle.std.proofs.Common.{arith, sym, ap, ◌∙◌, subst, inl, inr, append-nil}
use Rattle.std.proofs.lemmas.List.{map-append}
use Rattle.std.proofs.lemmas.List.Sums.{sum_by-cons, sum_by-append}
use Rattle.std.specs.List.{list_all, list_any, range_with_len}
use Rattle.zq_base.specs.Ends.{PipeId}
use Rattle.spec_pattern.specs.PipeStep.{PipeStep}
use Rattle.spec_control.specs.declared.stage.Stage.{Stage}
use Rattle.spec_control.specs.declared.stage.Stage.TheVariants.{Alive, Told, Ending, Finished, Cleared}
use Rattle.spec_control.specs.declared.request.Req.TheVariants.{AskTerm}
use Rattle.spec_control.specs.declared.request.Reply.{Reply}
use Rattle.spec_control.specs.declared.request.Reply.TheVariants.{Asked as WasAsked, Before}
use Rattle.spec_control.specs.declared.entry.Answered.{Answered}
use Rattle.spec_control.specs.declared.entry.Did.{Did}
use Rattle.spec_control.specs.declared.entry.Did.TheVariants.{Asked}
use Rattle.spec_control.specs.declared.entry.Item.{Item}
use Rattle.spec_control.specs.declared.entry.SeenEmpty.{SeenEmpty}
use Rattle.spec_control.specs.declared.entry.SeenEmpty.TheVariants.{Reapers}
use Rattle.spec_control.specs.Stage.{is_alive, has_ended}
use Rattle.spec_control.specs.Rows.{obj}
use Rattle.spec_control.specs.Control.{Control}
use Rattle.spec_control.specs.After.{answers_in, after}
use Rattle.spec_control.specs.Reply.{state_of, root_state, root_asked, reply_of}
use Rattle.spec_control.specs.ControlRun.{AreEmpty, Fits, FitsItem, IsSeen, after_item, after_all, IsControlRun}
use Rattle.spec_control.specs.Quiescence.{item_costs}
use Rattle.control_laws.proofs.ListLemmas.{never, left, right}
use Rattle.spec_control.specs.OwnAsks.{is_none}
use Rattle.spec_control.specs.Moments.{Moment}
use Rattle.spec_run.specs.Turn.{IsOrder}
use Rattle.spec_run.specs.Act.{Act, Step, Said, Deed, Tries, Shuts, Fetches, Idles, Works, Looks, AsksRoot, Reads, steps_in, moments_in, all_acts}
use Rattle.spec_run.specs.Event.{IsLookAt, acts_said}
use Rattle.spec_run.specs.OpenSocket.{OpenSock}
use Rattle.spec_run.specs.Standing.{ActorStanding, has_finished}
use Rattle.spec_run.specs.InTurns.{OneTurn, is_live, is_ended, AsksIf, Begins, ActorStep, ReaperStep, AllStep, turn_step, turn_sequence}
use Rattle.zq_world.specs.Turning.{times}
use Rattle.zq_world.proofs.OrderLemmas.{times_not, each_once}
use Rattle.replay_laws.proofs.LookLemmas.{moments_said}
use Rattle.replay_laws.proofs.RunLemmas.{goes_on, past_end, turn_acts}
use Rattle.replay_laws.proofs.TurnLemmas.{at_place, WorksSo, acts_so, reaps_so, serves_so, works_of, as_many, acts_on}
use Rattle.replay_laws.proofs.WalkLemmas.{leaves, Walks, moments_on, walks_front, Reached}
use Rattle.replay_laws.specs.Resting.{IsClosed, AllAreClosed}
use Rattle.replay_laws.proofs.HoldLemmas.{said_leaves}
use Rattle.replay_laws.proofs.RestLemmas.{root_has_ended}
use Rattle.replay_laws.proofs.RoundLemmas.{HasOne, IsAtTurn, turn_walks, behind_begin}
use Rattle.replay_laws.proofs.DoneStayLemmas.{asking_asks}

-- each actor has finished
abbrev pub AllFinished : List ActorStanding → Type 0
AllFinished standings = (w : ℕ) → has_finished (at_place standings w) ≡ true

-- a root that has ended, by its state
pub ended_is : (s : Stage) → is_ended (state_of s) ≡ has_ended s
ended_is Alive = refl
ended_is Told = refl
ended_is Ending = refl
ended_is Finished = refl
ended_is Cleared = refl

-- a root that does not live was asked
not_live : (s : Stage) → is_live (state_of s) ≡ false → not (is_alive s) ≡ true
not_live Alive e = absurd (never (sym e))
not_live Told e = refl
not_live Ending e = refl
not_live Finished e = refl
not_live Cleared e = refl

none_held : (standings : List ActorStanding) (i : ℕ) → AllFinished standings → HasOne standings i → ⊥
none_held standings i done (w, has) = by (at_place standings w).mine.socks (right (is_none (at_place standings w).lines) _ (done w)) has
  where
    by : (socks : List OpenSock) → is_none socks ≡ true → list_any (λ s. s.object == i) socks ≡ true → ⊥
    by [] none h = never h
    by (s ∷ socks) none h = never none

module _ {N S : Type 0} where
  -- ---- what acts cost
  abbrev pub items_of : List (Act N S) → List (Item N S)
  items_of acts = map (λ (m : Moment N S). m.item) (moments_in acts)

  abbrev pub cost_of : List (Act N S) → ℕ
  cost_of acts = sum_by item_costs (items_of acts)

  pub items_on : (xs ys : List (Act N S)) → items_of (xs ++ ys) ≡ items_of xs ++ items_of ys
  items_on xs ys = ap (map (λ (m : Moment N S). m.item)) (moments_on xs ys) ∙ map-append (λ (m : Moment N S). m.item) (moments_in xs) (moments_in ys)

  pub cost_on : (xs ys : List (Act N S)) → cost_of (xs ++ ys) ≡ cost_of xs + cost_of ys
  cost_on xs ys = ap (sum_by item_costs) (items_on xs ys) ∙ sum_by-append item_costs (items_of xs) (items_of ys)

  pub leaves_items : (acts : List (Act N S)) (c : Control) → leaves c acts ≡ after_all (items_of acts) c
  leaves_items [] c = refl
  leaves_items (Step s ∷ acts) c = leaves_items acts c
  leaves_items (Said m ∷ acts) c = leaves_items acts (after_item m.item c)

  pub items_run : (cap : PipeId → ℕ) (acts : List (Act N S)) (c : Control) (past : List PipeStep) → Walks cap c past acts → IsControlRun c (items_of acts)
  items_run cap [] c past w = tt
  items_run cap (Step s ∷ acts) c past w = items_run cap acts c (past ++ s ∷ []) w.1
  items_run cap (Said m ∷ acts) c past w = (w.1, items_run cap acts (after_item m.item c) past w.2)

  -- ---- who has finished does nothing
  finished_rests : (old new : ActorStanding) (ds : List (Deed N S)) → ActorStep old ds new → has_finished old ≡ true → (ds ≡ []) × (new ≡ old)
  finished_rests old new [] f done = (refl, f.1)
  finished_rests old new (Tries t ∷ []) f done = absurd (never (sym (ap is_none f.lines_are) ∙ left (is_none old.lines) _ done))
  finished_rests old new (Shuts acts ∷ []) f done = absurd (never (sym (ap is_none f.socks_are) ∙ right (is_none old.lines) _ done))
  finished_rests old new (Fetches slot acts ∷ []) f done = absurd f
  finished_rests old new (Idles m ∷ []) f done = absurd f
  finished_rests old new (Works acts ∷ []) f done = absurd f
  finished_rests old new (Looks m ∷ []) f done = absurd f
  finished_rests old new (AsksRoot acts ∷ []) f done = absurd f
  finished_rests old new (Reads now ∷ []) f done = absurd f
  finished_rests old new (d ∷ e ∷ ds) f done = elim f [ ]

  pub finished_stay : (io : ℕ) (olds news : List ActorStanding) (steps : List (List (Deed N S))) → AllFinished olds → AllStep io olds steps news → AllFinished news
  finished_stay io olds news steps done go w = by (works_of io olds steps news go w)
    where
      past : length olds ≤ w → has_finished (at_place news w) ≡ true
      past le = ap has_finished (past_end news w (let many = as_many io olds steps news go in omega (arith, le, many)))

      by : {ds : List (Deed N S)} → WorksSo (length olds) (at_place olds w) (at_place news w) w ds → has_finished (at_place news w) ≡ true
      by {ds} (acts_so lt f) = ap has_finished (finished_rests (at_place olds w) (at_place news w) ds f (done w)).1 ∙ done w
      by (reaps_so e f) = past (omega (arith, e))
      by (serves_so gt e) = past (omega (arith, gt))

  -- ---- what begins a turn then
  look_leaves : (c : Control) (m : Moment N S) {empty : SeenEmpty} → IsLookAt empty m → after_item m.item c ≡ c
  look_leaves c m look = ap (λ (k : Item N S). after_item k c) look.item_is

  -- an asking of the root
  record Asking (c : Control) (acts : List (Act N S)) : Type 0 where
    reply : Reply
    answered : Answered N S
    left : leaves c acts ≡ after (let did : Did N S = Asked AskTerm reply answered in did) c
    is : reply ≡ reply_of c AskTerm

  asking_of : (cap : PipeId → ℕ) (c : Control) (past : List PipeStep) (asks : List (Deed N S)) → AsksIf true asks → Walks cap c past (all_acts asks) → Asking c (all_acts asks)
  asking_of cap c past asks (acts, f, is) w =
      let m = f.asked in
      let did : Did N S = Asked AskTerm f.reply f.request.answered in
      let acts_are : all_acts asks ≡ acts_said m = ap (λ (l : List (Deed N S)). all_acts l) is ∙ append-nil acts ∙ f.acts_are in
      let said = subst (Walks cap c past) acts_are w in
      let fits : Fits c did = subst (FitsItem c) f.request.item_is said.1 in
      record {
        reply = f.reply;
        answered = f.request.answered;
        left = said_leaves m c (all_acts asks) acts_are ∙ ap (λ (k : Item N S). after_item k c) f.request.item_is;
        is = fits.may.1;
      }

  asks_stay : (cap : PipeId → ℕ) (c : Control) (past : List PipeStep) (b : Bool) (asks : List (Deed N S)) → root_asked c ≡ true → AsksIf b asks → Walks cap c past (all_acts asks) → leaves c (all_acts asks) ≡ c
  asks_stay cap c past true asks asked f w =
      let a = asking_of cap c past asks f w in
      let before : a.reply ≡ Before = a.is ∙ ap (λ (b : Bool). if b then Before else WasAsked) asked in
      a.left ∙ ap (λ (r : Reply). after (let did : Did N S = Asked AskTerm r a.answered in did) c) before
  asks_stay cap c past false asks asked f w = ap (λ (l : List (Deed N S)). leaves c (all_acts l)) f

  begin_stays : (cap : PipeId → ℕ) (c : Control) (past : List PipeStep) (olds : List ActorStanding) (ds : List (Deed N S)) → root_asked c ≡ true → Begins olds ds → Walks cap c past (all_acts ds) → leaves c (all_acts ds) ≡ c
  begin_stays cap c past olds (Looks m ∷ asks) asked f w =
      let same = look_leaves c m f.look in
      ap (λ (x : Control). leaves x (all_acts asks)) same ∙ asks_stay cap c past _ asks asked f.asks_if (subst (λ (x : Control). Walks cap x past (all_acts asks)) same w.2)
  begin_stays cap c past olds [] asked f w = absurd f
  begin_stays cap c past olds (Tries t ∷ asks) asked f w = absurd f
  begin_stays cap c past olds (Shuts acts ∷ asks) asked f w = absurd f
  begin_stays cap c past olds (Fetches slot acts ∷ asks) asked f w = absurd f
  begin_stays cap c past olds (Idles m ∷ asks) asked f w = absurd f
  begin_stays cap c past olds (Works acts ∷ asks) asked f w = absurd f
  begin_stays cap c past olds (AsksRoot acts ∷ asks) asked f w = absurd f
  begin_stays cap c past olds (Reads now ∷ asks) asked f w = absurd f

  asks_ask : (cap : PipeId → ℕ) (c : Control) (past : List PipeStep) (live : Bool) (asks : List (Deed N S)) → Reached N S c → is_live (root_state c) ≡ live → AsksIf live asks → Walks cap c past (all_acts asks) → root_asked (leaves c (all_acts asks)) ≡ true
  asks_ask cap c past true asks r live f w =
      let a = asking_of cap c past asks f w in
      ap root_asked a.left ∙ by (root_asked c) refl a.reply a.is
    where
      by : (b : Bool) → root_asked c ≡ b → (reply : Reply) → reply ≡ (if root_asked c then Before else WasAsked) → root_asked (after (let did : Did N S = Asked AskTerm reply (asking_of cap c past asks f w).answered in did) c) ≡ true
      by true asked reply e =
          ap (λ (x : Reply). root_asked (after (let did : Did N S = Asked AskTerm x (asking_of cap c past asks f w).answered in did) c)) (e ∙ ap (λ (b : Bool). if b then Before else WasAsked) asked) ∙ asked
      by false unasked reply e =
          ap (λ (x : Reply). root_asked (after (let did : Did N S = Asked AskTerm x (asking_of cap c past asks f w).answered in did) c)) (e ∙ ap (λ (b : Bool). if b then Before else WasAsked) unasked)
          ∙ asking_asks c (answers_in (asking_of cap c past asks f w).answered) r
  asks_ask cap c past false asks r live f w = ap (λ (l : List (Deed N S)). root_asked (leaves c (all_acts l))) f ∙ not_live (obj c.rows 0).stage live

  pub begin_asks : (cap : PipeId → ℕ) (c : Control) (past : List PipeStep) (olds : List ActorStanding) (ds : List (Deed N S)) → Reached N S c → list_all has_finished olds ≡ true → Begins olds ds → Walks cap c past (all_acts ds)
      → root_asked (leaves c (all_acts ds)) ≡ true
  begin_asks cap c past olds (Looks m ∷ asks) r done f w =
      let same = look_leaves c m f.look in
      let seen : IsSeen c f.look.sight = subst (FitsItem c) f.look.item_is w.1 in
      let live : is_live f.look.sight.root ≡ is_live (root_state c) = ap is_live seen.root in
      let asks_if : AsksIf (is_live (root_state c)) asks = subst (λ (b : Bool). AsksIf b asks) (ap (λ (b : Bool). b && is_live f.look.sight.root) done ∙ live) f.asks_if in
      ap (λ (x : Control). root_asked (leaves x (all_acts asks))) same
      ∙ asks_ask cap c past (is_live (root_state c)) asks r refl asks_if (subst (λ (x : Control). Walks cap x past (all_acts asks)) same w.2)
  begin_asks cap c past olds [] r done f w = absurd f
  begin_asks cap c past olds (Tries t ∷ asks) r done f w = absurd f
  begin_asks cap c past olds (Shuts acts ∷ asks) r done f w = absurd f
  begin_asks cap c past olds (Fetches slot acts ∷ asks) r done f w = absurd f
  begin_asks cap c past olds (Idles m ∷ asks) r done f w = absurd f
  begin_asks cap c past olds (Works acts ∷ asks) r done f w = absurd f
  begin_asks cap c past olds (AsksRoot acts ∷ asks) r done f w = absurd f
  begin_asks cap c past olds (Reads now ∷ asks) r done f w = absurd f

  -- ---- the reaper's step
  all_closed : (c : Control) (standings : List ActorStanding) → IsAtTurn N S c standings → AllFinished standings → AllAreClosed c
  all_closed c standings at done i is = by (at.held i is)
    where
      by : HasOne standings i ⊎ IsClosed c i → IsClosed c i
      by (inl has) = absurd (none_held standings i done has)
      by (inr closed) = closed

  no_idle : (c : Control) (standings : List ActorStanding) (m : Moment N S) → IsAtTurn N S c standings → AllFinished standings → root_asked c ≡ true → is_ended (root_state c) ≡ false → IsLookAt Reapers m → FitsItem c m.item → ⊥
  no_idle c standings m at done asked lives look fits =
      let seen : IsSeen c look.sight = subst (FitsItem c) look.item_is fits in
      let empty : AreEmpty c Reapers = subst (AreEmpty c) look.empty_is seen.empty in
      never (sym lives ∙ ended_is (obj c.rows 0).stage ∙ root_has_ended c at.came (all_closed c standings at done) empty asked)

  reaper_pays : (cap : PipeId → ℕ) (c : Control) (past : List PipeStep) (ds : List (Deed N S)) → ((m : Moment N S) → IsLookAt Reapers m → FitsItem c m.item → ⊥) → ReaperStep ds → Walks cap c past (all_acts ds) → 1 ≤ cost_of (all_acts ds)
  reaper_pays cap c past (Fetches slot acts ∷ []) never_idle f w =
      let t = f.takes in
      let is : cost_of (acts ++ []) ≡ item_costs t.taken.item + cost_of t.looks = ap cost_of (append-nil acts ∙ t.acts_are) ∙ ap (λ (l : List (Moment N S)). sum_by item_costs (map (λ (m : Moment N S). m.item) l)) (moments_said t.taken t.looks)
      ∙ sum_by-cons item_costs t.taken.item (items_of t.looks) in
      let one : item_costs t.taken.item ≡ 1 = ap item_costs t.delivery.item_is in
      omega (arith, is, one)
  reaper_pays cap c past (Idles m ∷ []) never_idle f w = absurd (never_idle m f w.1)
  reaper_pays cap c past [] never_idle f w = absurd f
  reaper_pays cap c past (Tries t ∷ []) never_idle f w = absurd f
  reaper_pays cap c past (Shuts acts ∷ []) never_idle f w = absurd f
  reaper_pays cap c past (Works acts ∷ []) never_idle f w = absurd f
  reaper_pays cap c past (Looks m ∷ []) never_idle f w = absurd f
  reaper_pays cap c past (AsksRoot acts ∷ []) never_idle f w = absurd f
  reaper_pays cap c past (Reads now ∷ []) never_idle f w = absurd f
  reaper_pays cap c past (d ∷ e ∷ ds) never_idle f w = elim f [ ]

  module _ (cap : PipeId → ℕ) (olds news : List ActorStanding) (step : ℕ → List (Deed N S)) (done : AllFinished olds) (works : (w : ℕ) → WorksSo (length olds) (at_place olds w) (at_place news w) w (step w)) where
    workers_pay : (ws : List ℕ) (c : Control) (past : List PipeStep) → ((m : Moment N S) → IsLookAt Reapers m → FitsItem c m.item → ⊥) → times (length olds) ws ≡ 1 → Walks cap c past (all_acts (flat_map step ws))
        → 1 ≤ cost_of (all_acts (flat_map step ws))
    workers_pay [] c past never_idle once w = absurd (let none : times (length olds) [] ≡ 0 = refl in omega (arith, once, none))
    workers_pay (v ∷ ws) c past never_idle once w = by (works v) (workers_pay ws c past never_idle)
      where
        on : all_acts (flat_map step (v ∷ ws)) ≡ all_acts (step v) ++ all_acts (flat_map step ws)
        on = acts_on (step v) (flat_map step ws)

        rests : (v ≡ length olds → ⊥) → step v ≡ [] → (times (length olds) ws ≡ 1 → Walks cap c past (all_acts (flat_map step ws)) → 1 ≤ cost_of (all_acts (flat_map step ws))) → 1 ≤ cost_of (all_acts (flat_map step (v ∷ ws)))
        rests other none later =
            let same : all_acts (flat_map step (v ∷ ws)) ≡ all_acts (flat_map step ws) = on ∙ ap (λ (l : List (Deed N S)). all_acts l ++ all_acts (flat_map step ws)) none in
            let paid = later (sym (times_not (length olds) v ws other) ∙ once) (subst (Walks cap c past) same w) in
            let cost = ap cost_of same in
            omega (arith, paid, cost)

        by : WorksSo (length olds) (at_place olds v) (at_place news v) v (step v) → (times (length olds) ws ≡ 1 → Walks cap c past (all_acts (flat_map step ws)) → 1 ≤ cost_of (all_acts (flat_map step ws)))
            → 1 ≤ cost_of (all_acts (flat_map step (v ∷ ws)))
        by (acts_so lt f) later = rests (λ e. absurd (omega (arith, e, lt))) (finished_rests (at_place olds v) (at_place news v) (step v) f (done v)).0 later
        by (reaps_so e f) later =
            let paid = reaper_pays cap c past (step v) never_idle f (walks_front cap (all_acts (step v)) (all_acts (flat_map step ws)) c past (subst (Walks cap c past) on w)) in
            let cost = ap cost_of on ∙ cost_on (all_acts (step v)) (all_acts (flat_map step ws)) in
            omega (arith, paid, cost)
        by (serves_so gt none) later = rests (λ e. absurd (omega (arith, e, gt))) none later

  pub turn_pays : (cap : PipeId → ℕ) (io seed x after : ℕ) (order : List ℕ) (c : Control) (past : List PipeStep) (olds news : List ActorStanding) (t : OneTurn N S) → IsAtTurn N S c olds → AllFinished olds → root_asked c ≡ true
      → IsOrder seed x (range_with_len 0 (length olds + 1 + io)) order after → Walks cap c past (all_acts (turn_sequence order t)) → Begins olds t.begins → AllStep io olds t.steps news → 1 ≤ cost_of (all_acts (turn_sequence order t))
  turn_pays cap io seed x after order c past olds news t at done asked drawn walk begin go =
      let walks = turn_walks cap c past order t walk in
      let lives = goes_on cap c past olds t.begins begin walks.begin in
      let same = begin_stays cap c past olds t.begins asked begin walks.begin in
      let once = each_once (length olds) (length olds + 1 + io) seed x order after drawn (omega arith) in
      let paid = workers_pay cap olds news (λ w. turn_step w t) done (works_of io olds t.steps news go) order c (past ++ steps_in (all_acts t.begins)) (λ m. no_idle c olds m at done asked lives) once
      (subst (λ (x : Control). Walks cap x (past ++ steps_in (all_acts t.begins)) (behind_begin order t)) same walks.workers) in
      let cost = ap cost_of (turn_acts order t) ∙ cost_on (all_acts t.begins) (behind_begin order t) in
      omega (arith, paid, cost)
