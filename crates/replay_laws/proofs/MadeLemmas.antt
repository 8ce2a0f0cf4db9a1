-- An actor has finished within its tries and the sockets that a run makes.
use Rattle.std.specs.Prelude.{◌≡◌, ◌≢◌, ◌<◌, ◌≤◌, ◌⊎◌, ◌==◌, ◌+◌, ◌-◌, ◌&&◌, ℕ, zero, suc, Bool, true, false, List, [], ◌∷◌, ◌++◌, cond, count_by, flat_map, length, map, nat_lt, sum_by, refl}
use Rattle.std.proofs.Common.{arith, sym, ap, ◌∙◌, subst, inl, inr, append-nil, length-append}
use Rattle.std.proofs.lemmas.Bool.{eqb-true, eqb-false, leb-false, ltb-true, ltb-false}
use Rattle.std.proofs.lemmas.List.Sums.{sum_by-cons, sum_by-append}
use Rattle.std.specs.List.{list_all, range_with_len}
use Rattle.zq_base.specs.Ends.{PipeId}
use Rattle.zq_base.specs.declared.ids.ObjId.{ObjId}
use Rattle.zq_base.specs.declared.kind.Kind.{Kind}
use Rattle.zq_base.specs.declared.options.Options.{Options}
use Rattle.spec_run.specs.declared.script.Call.TheVariants as call
use Rattle.spec_pattern.specs.PipeStep.{PipeStep}
use Rattle.spec_control.specs.declared.request.Req.TheVariants.{Socket as MakeSocket}
use Rattle.spec_control.specs.declared.request.Reply.{Reply}
use Rattle.spec_control.specs.declared.request.Reply.TheVariants.{Done, Object, Pair, Both, Wait, Asked as WasAsked, Before, Refused}
use Rattle.spec_control.specs.declared.entry.Answered.{Answered}
use Rattle.spec_control.specs.declared.entry.Did.{Did}
use Rattle.spec_control.specs.declared.entry.Did.TheVariants.{Asked}
use Rattle.spec_control.specs.declared.entry.Item.{Item}
use Rattle.spec_control.specs.declared.entry.Item.TheVariants.{Event, Seen}
use Rattle.spec_control.specs.Row.{Row, is_socket}
use Rattle.spec_control.specs.Control.{Control}
use Rattle.spec_control.specs.After.{socket_row, after}
use Rattle.spec_control.specs.ControlRun.{FitsItem, after_item}
use Rattle.control_laws.proofs.ListLemmas.{never, left, right, and}
use Rattle.spec_control.specs.OwnAsks.{is_none}
use Rattle.spec_control.specs.Moments.{Moment}
use Rattle.spec_run.specs.Turn.{IsOrder}
use Rattle.spec_run.specs.declared.script.Call.{Call}
use Rattle.spec_run.specs.declared.script.Line.{Line}
use Rattle.spec_run.specs.Script.{Script, line_tries, is_tried_again}
use Rattle.spec_run.specs.Act.{Act, Step, Said, Try, Deed, Tries, Shuts, Fetches, Idles, Works, Looks, AsksRoot, Reads, steps_in, all_acts}
use Rattle.spec_run.specs.OpenSocket.{OpenSock, new_open}
use Rattle.spec_run.specs.Event.{acts_said}
use Rattle.spec_run.specs.Standing.{Sockets, ActorStanding, standing_before, made_so, MakesSocket, DoesLine, DoesTry, ShutsFirst, standing_after, has_finished}
use Rattle.spec_run.specs.InTurns.{OneTurn, ActorStep, AllStep, turn_step, turn_sequence}
use Rattle.zq_world.specs.Turning.{times}
use Rattle.zq_world.proofs.OrderLemmas.{times_not, each_once}
use Rattle.replay_laws.proofs.LetterLemmas.{kept_of}
use Rattle.replay_laws.proofs.RunLemmas.{past_end}
use Rattle.replay_laws.proofs.SlotLemmas.{Mark, mark, marks, marks_after, made}
use Rattle.replay_laws.proofs.TimeLemmas.{TriedFew, untried, not_over, line_few, shut_fewer}
use Rattle.replay_laws.proofs.TurnLemmas.{at_place, WorksSo, acts_so, reaps_so, serves_so, works_of, as_many, acts_on}
use Rattle.replay_laws.proofs.WalkLemmas.{leaves, Walks, leaves_on, walks_front, walks_behind, Reached, reached_item, reached_on}
use Rattle.control_laws.specs.OwnMoves.{own_moves}
use Rattle.replay_laws.specs.DoneInTime.{most_tries, actor_tries, script_tries}
use Rattle.replay_laws.proofs.HoldLemmas.{said_leaves}
use Rattle.replay_laws.proofs.RoundLemmas.{TurnWalks, turn_walks}

-- ---- how many sockets were made
abbrev is_socket_row : Row → Bool
is_socket_row o = is_socket o.kind

abbrev pub sockets_in : Control → ℕ
sockets_in c = count_by is_socket_row c.rows.objects

abbrev marked : List Mark → ℕ
marked ms = count_by (λ (m : Mark). is_socket m.kind) ms

rows_marked : (rows : List Row) → count_by is_socket_row rows ≡ marked (marks rows)
rows_marked [] = refl
rows_marked (o ∷ rows) =
    let rest = rows_marked rows in
    let first = sum_by-cons (λ (x : Row). cond (is_socket x.kind) 1 0) o rows in
    let other = sum_by-cons (λ (m : Mark). cond (is_socket m.kind) 1 0) (mark o) (marks rows) in
    omega (arith, rest, first, other)

-- what an actor has still to try and to close
abbrev tries_left : List Line → ℕ
tries_left [] = 0
tries_left (line ∷ lines) = most_tries line.call + tries_left lines

all_tries : (lines : List Line) → tries_left lines ≡ sum_by (λ (line : Line). most_tries line.call) lines
all_tries [] = refl
all_tries (line ∷ lines) = ap (λ n. most_tries line.call + n) (all_tries lines) ∙ sym (sum_by-cons (λ (l : Line). most_tries l.call) line lines)

abbrev left_to_do : ActorStanding → ℕ
left_to_do st = (tries_left st.lines - st.tried) + length st.mine.socks

-- where so many sockets are made at the end and so many now, an actor that has not finished has no more to do than this
pub record IsBusy (all k now : ℕ) (st : ActorStanding) : Type 0 where
  tried : TriedFew st.lines st.tried
  left : left_to_do st + all ≤ k + now

abbrev pub EndsSoon : (all k now : ℕ) → ActorStanding → Type 0
EndsSoon all k now st = (has_finished st ≡ true) ⊎ IsBusy all k now st

later_ends : (all k now then_made : ℕ) (st : ActorStanding) → now ≤ then_made → EndsSoon all k now st → EndsSoon all k then_made st
later_ends all k now then_made st le (inl done) = inl done
later_ends all k now then_made st le (inr busy) = inr (record { tried = busy.tried; left = (let left = busy.left in omega (arith, left, le)) })

none_to_do : (st : ActorStanding) → TriedFew st.lines st.tried → left_to_do st ≤ 0 → has_finished st ≡ true
none_to_do st tried few = by st.lines st.mine.socks tried few
  where
    by : (lines : List Line) (socks : List OpenSock) → TriedFew lines st.tried → (tries_left lines - st.tried) + length socks ≤ 0 → (is_none lines && is_none socks) ≡ true
    by [] [] f le = refl
    by [] (s ∷ socks) f le = absurd (omega (arith, le))
    by (l ∷ lines) socks f le = absurd (omega (arith, le, f))

soon_ended : (all now : ℕ) (st : ActorStanding) → now ≤ all → EndsSoon all 0 now st → has_finished st ≡ true
soon_ended all now st le (inl done) = done
soon_ended all now st le (inr busy) = none_to_do st busy.tried (let left = busy.left in omega (arith, left, le))

abbrev pub AllEndSoon : (all k : ℕ) → Control → List ActorStanding → Type 0
AllEndSoon all k c standings = (w : ℕ) → EndsSoon all k (sockets_in c) (at_place standings w)

module _ {N S : Type 0} where
  -- sockets never go
  item_grows : (item : Item N S) (c : Control) → Reached N S c → FitsItem c item → sockets_in c ≤ sockets_in (after_item item c)
  item_grows (Event entry) c r fits =
      let was = rows_marked c.rows.objects in
      let now = rows_marked (after entry.did c).rows.objects in
      let new = marks (made (own_moves c entry.did)) in
      let more = ap marked (marks_after c entry.did (kept_of c r) fits) in
      let both = sum_by-append (λ (m : Mark). cond (is_socket m.kind) 1 0) (marks c.rows.objects) new in
      omega (arith, was, now, more, both)
  item_grows (Seen sight) c r fits = omega arith

  pub sockets_grow : (cap : PipeId → ℕ) (xs : List (Act N S)) (c : Control) (past : List PipeStep) → Reached N S c → Walks cap c past xs → sockets_in c ≤ sockets_in (leaves c xs)
  sockets_grow cap [] c past r w = omega arith
  sockets_grow cap (Step s ∷ xs) c past r w = sockets_grow cap xs c (past ++ s ∷ []) r w.1
  sockets_grow cap (Said m ∷ xs) c past r w =
      let first = item_grows m.item c r w.1 in
      let rest = sockets_grow cap xs (after_item m.item c) past (reached_item m.item c r w.1) w.2 in
      omega (arith, first, rest)

  -- ---- a line opens no more sockets than it makes
  module _ (cap : PipeId → ℕ) (c : Control) (past : List PipeStep) (t : Try N S) (r : Reached N S c) (w : Walks cap c past (t.pump ++ t.call)) (old u : Sockets) where
    abbrev OpensAsMade : Type 0
    OpensAsMade = length u.socks + sockets_in c ≤ length old.socks + sockets_in (leaves c (t.pump ++ t.call))

    opens_none : length u.socks ≤ length old.socks + 0 → OpensAsMade
    opens_none few = let more = sockets_grow cap (t.pump ++ t.call) c past r w in omega (arith, few, more)

    opens_object : (kind : Kind) (options : Options) (by : ℕ) (o : ObjId) (g : Answered N S) (m : Moment N S) → m.item ≡ Event (record { by = by; did = Asked (MakeSocket kind options) (Object o) g }) → t.pump ++ t.call ≡ acts_said m
        → u ≡ made_so (Object o) m kind options old → OpensAsMade
    opens_object kind options by o g m is e new_is =
        let did : Did N S = Asked (MakeSocket kind options) (Object o) g in
        let at : leaves c (t.pump ++ t.call) ≡ after did c = said_leaves m c (t.pump ++ t.call) e ∙ ap (λ (k : Item N S). after_item k c) is in
        let made_now = ap sockets_in at in
        let one = sum_by-append (λ (x : Row). cond (is_socket x.kind) 1 0) c.rows.objects (socket_row kind options c ∷ []) in
        let same = ap (λ (x : Sockets). length x.socks) new_is in
        let more = length-append old.socks (new_open m o.0 kind options ∷ []) in
        omega (arith, made_now, one, same, more)

    opens_by : (kind : Kind) (options : Options) (by : ℕ) (reply : Reply) (g : Answered N S) (m : Moment N S) → m.item ≡ Event (record { by = by; did = Asked (MakeSocket kind options) reply g }) → t.pump ++ t.call ≡ acts_said m
        → FitsItem c m.item → u ≡ made_so reply m kind options old → OpensAsMade
    opens_by kind options by (Object o) g m is e fits new_is = opens_object kind options by o g m is e new_is
    opens_by kind options by (Refused refusal) g m is e fits new_is = opens_none (let same = ap (λ (x : Sockets). length x.socks) new_is in omega (arith, same))
    opens_by kind options by Done g m is e fits new_is = opens_none (let same = ap (λ (x : Sockets). length x.socks) new_is in omega (arith, same))
    opens_by kind options by (Pair p) g m is e fits new_is = opens_none (let same = ap (λ (x : Sockets). length x.socks) new_is in omega (arith, same))
    opens_by kind options by (Both o p) g m is e fits new_is = opens_none (let same = ap (λ (x : Sockets). length x.socks) new_is in omega (arith, same))
    opens_by kind options by Wait g m is e fits new_is = opens_none (let same = ap (λ (x : Sockets). length x.socks) new_is in omega (arith, same))
    opens_by kind options by WasAsked g m is e fits new_is = opens_none (let same = ap (λ (x : Sockets). length x.socks) new_is in omega (arith, same))
    opens_by kind options by Before g m is e fits new_is = opens_none (let same = ap (λ (x : Sockets). length x.socks) new_is in omega (arith, same))

    opens_made : (kind : Kind) (options : Options) → MakesSocket kind options old t u → OpensAsMade
    opens_made kind options f =
        let acts_are : t.pump ++ t.call ≡ acts_said f.made = ap (λ l. l ++ t.call) f.no_pump.pump_is ∙ f.call_is in
        opens_by kind options f.request.by f.reply f.request.answered f.made f.request.item_is acts_are (subst (Walks cap c past) acts_are w).1 f.new_is

    line_opens : (line : Call) → DoesLine line old t u → OpensAsMade
    line_opens (call.Socket kind options) f = opens_made kind options f
    line_opens (call.Bind place at) f = opens_none (line_few (call.Bind place at) old u t f)
    line_opens (call.Connect place to) f = opens_none (line_few (call.Connect place to) old u t f)
    line_opens (call.Send place m) f = opens_none (line_few (call.Send place m) old u t f)
    line_opens (call.Recv place tries) f = opens_none (line_few (call.Recv place tries) old u t f)
    line_opens (call.Subscribe place topic) f = opens_none (line_few (call.Subscribe place topic) old u t f)
    line_opens (call.Unsubscribe place topic) f = opens_none (line_few (call.Unsubscribe place topic) old u t f)
    line_opens (call.Unbind place at) f = opens_none (line_few (call.Unbind place at) old u t f)
    line_opens (call.Disconnect place at) f = opens_none (line_few (call.Disconnect place at) old u t f)
    line_opens (call.Close place) f = opens_none (line_few (call.Close place) old u t f)
    line_opens call.Term f = opens_none (line_few call.Term old u t f)

  -- ---- each step of an actor leaves it less to do
  try_soon : (cap : PipeId → ℕ) (c : Control) (past : List PipeStep) (all k : ℕ) (old new : ActorStanding) (t : Try N S) → Reached N S c → Walks cap c past (t.pump ++ t.call) → DoesTry old t new → IsBusy all (suc k) (sockets_in c) old
      → IsBusy all k (sockets_in (leaves c (t.pump ++ t.call))) new
  try_soon cap c past all k old new t r w f busy = subst (IsBusy all k now) (sym f.new_is) (by t.over refl)
    where
      now : ℕ
      now = sockets_in (leaves c (t.pump ++ t.call))

      tried : old.tried ≤ line_tries t.line.call - 1
      tried = subst (λ l. TriedFew l old.tried) f.lines_are busy.tried

      left : (((most_tries t.line.call + tries_left f.rest) - old.tried) + length old.mine.socks) + all ≤ suc k + sockets_in c
      left = subst (λ l. ((tries_left l - old.tried) + length old.mine.socks) + all ≤ suc k + sockets_in c) f.lines_are busy.left

      socks : length f.mine.socks + sockets_in c ≤ length old.mine.socks + now
      socks = line_opens cap c past t r w old.mine f.mine t.line.call f.does

      by : (b : Bool) → t.over ≡ b → IsBusy all k now (standing_after b f.rest t.told f.mine old)
      by true e = record { tried = untried f.rest; left = omega (arith, tried, left, socks) }
      by false e =
          let again = leb-false (line_tries t.line.call) (old.tried + 1) (not_over (is_tried_again t.answer) _ (sym f.over_is ∙ e)) in
          record {
            tried = subst (λ l. TriedFew l (old.tried + 1)) (sym f.lines_are) (let more : old.tried + 1 ≤ line_tries t.line.call - 1 = omega (arith, again) in more);
            left = subst (λ l. ((tries_left l - (old.tried + 1)) + length f.mine.socks) + all ≤ k + now) (sym f.lines_are) (omega (arith, tried, left, socks, again));
          }

  shut_soon : (cap : PipeId → ℕ) (c : Control) (past : List PipeStep) (all k : ℕ) (old new : ActorStanding) (acts : List (Act N S)) → Reached N S c → Walks cap c past acts → ShutsFirst old acts new → IsBusy all (suc k) (sockets_in c) old
      → IsBusy all k (sockets_in (leaves c acts)) new
  shut_soon cap c past all k old new acts r w f busy =
      let fewer = shut_fewer old new acts f in
      let had = ap length f.socks_are in
      let none = ap tries_left f.no_lines in
      let more = sockets_grow cap acts c past r w in
      subst (IsBusy all k (sockets_in (leaves c acts))) (sym f.new_is) (record { tried = busy.tried; left = (let left = busy.left in omega (arith, left, fewer, had, more)) })

  actor_soon : (cap : PipeId → ℕ) (c : Control) (past : List PipeStep) (all k : ℕ) (old new : ActorStanding) (ds : List (Deed N S)) → Reached N S c → Walks cap c past (all_acts ds) → ActorStep old ds new → EndsSoon all (suc k) (sockets_in c) old
      → EndsSoon all k (sockets_in (leaves c (all_acts ds))) new
  actor_soon cap c past all k old new [] r w f soon = inl (ap has_finished f.1 ∙ f.0)
  actor_soon cap c past all k old new (Tries t ∷ []) r w f (inl done) = absurd (never (sym (ap is_none f.lines_are) ∙ left (is_none old.lines) _ done))
  actor_soon cap c past all k old new (Tries t ∷ []) r w f (inr busy) =
      let on = append-nil (t.pump ++ t.call) in
      inr (subst (λ l. IsBusy all k (sockets_in (leaves c l)) new) (sym on) (try_soon cap c past all k old new t r (subst (Walks cap c past) on w) f busy))
  actor_soon cap c past all k old new (Shuts acts ∷ []) r w f (inl done) = absurd (never (sym (ap is_none f.socks_are) ∙ right (is_none old.lines) _ done))
  actor_soon cap c past all k old new (Shuts acts ∷ []) r w f (inr busy) =
      let on = append-nil acts in
      inr (subst (λ l. IsBusy all k (sockets_in (leaves c l)) new) (sym on) (shut_soon cap c past all k old new acts r (subst (Walks cap c past) on w) f busy))
  actor_soon cap c past all k old new (Fetches slot acts ∷ []) r w f soon = absurd f
  actor_soon cap c past all k old new (Idles m ∷ []) r w f soon = absurd f
  actor_soon cap c past all k old new (Works acts ∷ []) r w f soon = absurd f
  actor_soon cap c past all k old new (Looks m ∷ []) r w f soon = absurd f
  actor_soon cap c past all k old new (AsksRoot acts ∷ []) r w f soon = absurd f
  actor_soon cap c past all k old new (Reads now ∷ []) r w f soon = absurd f
  actor_soon cap c past all k old new (d ∷ e ∷ ds) r w f soon = elim f [ ]

  -- ---- the workers of a turn
  module _ (cap : PipeId → ℕ) (olds news : List ActorStanding) (step : ℕ → List (Deed N S)) (works : (w : ℕ) → WorksSo (length olds) (at_place olds w) (at_place news w) w (step w)) (all k : ℕ) where
    worker_soon : (w : ℕ) (c : Control) (past : List PipeStep) → Reached N S c → Walks cap c past (all_acts (step w)) → w < length olds → EndsSoon all (suc k) (sockets_in c) (at_place olds w)
        → WorksSo (length olds) (at_place olds w) (at_place news w) w (step w) → EndsSoon all k (sockets_in (leaves c (all_acts (step w)))) (at_place news w)
    worker_soon w c past r walk lt soon (acts_so x f) = actor_soon cap c past all k (at_place olds w) (at_place news w) (step w) r walk f soon
    worker_soon w c past r walk lt soon (reaps_so e f) = absurd (omega (arith, lt, e))
    worker_soon w c past r walk lt soon (serves_so gt e) = absurd (omega (arith, lt, gt))

    soon_by : (ws : List ℕ) (c : Control) (past : List PipeStep) → Reached N S c → Walks cap c past (all_acts (flat_map step ws)) → (w : ℕ) → times w ws ≡ 1 → w < length olds → EndsSoon all (suc k) (sockets_in c) (at_place olds w)
        → EndsSoon all k (sockets_in (leaves c (all_acts (flat_map step ws)))) (at_place news w)
    soon_by [] c past r walk w once lt soon = absurd (let none : times w [] ≡ 0 = refl in omega (arith, once, none))
    soon_by (v ∷ ws) c past r walk w once lt soon =
        let on = acts_on (step v) (flat_map step ws) in
        let xs = all_acts (step v) in
        let ys = all_acts (flat_map step ws) in
        let both = subst (Walks cap c past) on walk in
        let front = walks_front cap xs ys c past both in
        let behind = walks_behind cap xs ys c past both in
        let q = reached_on cap xs c past r front in
        subst (λ (x : Control). EndsSoon all k (sockets_in x) (at_place news w)) (sym (ap (leaves c) on ∙ leaves_on xs ys c))
        (by (v == w) refl front
        (λ (h : EndsSoon all k (sockets_in (leaves c xs)) (at_place news w)). later_ends all k (sockets_in (leaves c xs)) (sockets_in (leaves (leaves c xs) ys)) (at_place news w) (sockets_grow cap ys (leaves c xs) (past ++ steps_in xs) q behind) h)
        (λ other. soon_by ws (leaves c xs) (past ++ steps_in xs) q behind w (sym (times_not w v ws other) ∙ once) lt (later_ends all (suc k) (sockets_in c) (sockets_in (leaves c xs)) (at_place olds w) (sockets_grow cap xs c past r front) soon)))
      where
        d : Control
        d = leaves c (all_acts (step v))

        by : (b : Bool) → (v == w) ≡ b → Walks cap c past (all_acts (step v))
            → (EndsSoon all k (sockets_in d) (at_place news w) → EndsSoon all k (sockets_in (leaves d (all_acts (flat_map step ws)))) (at_place news w))
            → (v ≢ w → EndsSoon all k (sockets_in (leaves d (all_acts (flat_map step ws)))) (at_place news w)) → EndsSoon all k (sockets_in (leaves d (all_acts (flat_map step ws)))) (at_place news w)
        by true e front on rest =
            let same = eqb-true v w e in
            on (subst (λ n. EndsSoon all k (sockets_in d) (at_place news n)) same
            (worker_soon v c past r front (omega (arith, lt, same)) (subst (λ n. EndsSoon all (suc k) (sockets_in c) (at_place olds n)) (sym same) soon) (works v)))
        by false e front on rest = rest (eqb-false v w e)

  -- ---- a turn
  pub turn_soon : (cap : PipeId → ℕ) (io seed x after all k : ℕ) (order : List ℕ) (c : Control) (past : List PipeStep) (olds news : List ActorStanding) (t : OneTurn N S) → Reached N S c
      → IsOrder seed x (range_with_len 0 (length olds + 1 + io)) order after → Walks cap c past (all_acts (turn_sequence order t)) → AllStep io olds t.steps news
      → AllEndSoon all (suc k) c olds → AllEndSoon all k (leaves c (all_acts (turn_sequence order t))) news
  turn_soon cap io seed x after all k order c past olds news t r drawn walk go soon w = by (nat_lt w (length olds)) refl
    where
      walks : TurnWalks cap c past order t
      walks = turn_walks cap c past order t walk

      d : Control
      d = leaves c (all_acts t.begins)

      acts_soon : w < length olds → EndsSoon all k (sockets_in (leaves c (all_acts (turn_sequence order t)))) (at_place news w)
      acts_soon lt =
          let first = later_ends all (suc k) (sockets_in c) (sockets_in d) (at_place olds w) (sockets_grow cap (all_acts t.begins) c past r walks.begin) (soon w) in
          subst (λ (z : Control). EndsSoon all k (sockets_in z) (at_place news w)) (sym walks.left)
          (soon_by cap olds news (λ v. turn_step v t) (works_of io olds t.steps news go) all k order d (past ++ steps_in (all_acts t.begins)) (reached_on cap (all_acts t.begins) c past r walks.begin) walks.workers w
          (each_once w (length olds + 1 + io) seed x order after drawn (omega (arith, lt))) lt first)

      by : (b : Bool) → nat_lt w (length olds) ≡ b → EndsSoon all k (sockets_in (leaves c (all_acts (turn_sequence order t)))) (at_place news w)
      by true e = acts_soon (ltb-true w (length olds) e)
      by false e = inl (ap has_finished (past_end news w (let many = as_many io olds t.steps news go in let past_all = ltb-false w (length olds) e in omega (arith, many, past_all))))

-- at last all have finished
pub soon_finished : (all : ℕ) (c : Control) (standings : List ActorStanding) → sockets_in c ≤ all → AllEndSoon all 0 c standings → list_all has_finished standings ≡ true
soon_finished all c [] le soon = refl
soon_finished all c (st ∷ standings) le soon = and _ _ (soon_ended all (sockets_in c) st le (soon 0)) (soon_finished all c standings le (λ w. soon (suc w)))

pub begun_soon : (all k now : ℕ) (script : Script) → script_tries script + all ≤ k → (w : ℕ) → EndsSoon all k now (at_place (map standing_before script) w)
begun_soon all k now [] le w = inl refl
begun_soon all k now (actor ∷ script) le zero =
    let first = sum_by-cons actor_tries actor script in
    let own = all_tries actor.lines in
    inr (record { tried = untried actor.lines; left = omega (arith, le, first, own) })
begun_soon all k now (actor ∷ script) le (suc w) = begun_soon all k now script (let first = sum_by-cons actor_tries actor script in omega (arith, le, first)) w
