-- The ends of an object are asked, one after the other.
use Rattle.std.specs.Prelude.{◌≡◌, ◌≢◌, ◌<◌, ◌≤◌, ◌+◌, ◌==◌, ◌||◌, ◌++◌, ◌∷◌, [], ℕ, Bool, true, false, List, Option, All, filter, length, take, slice_index_or, if◌then◌else◌, refl}
use Rattle.std.specs.List.{list_any}
use Rattle.std.proofs.Common.{arith, sym, ap, ◌∙◌, subst}
use Rattle.std.proofs.lemmas.Bool.{eqb-true}
use Rattle.std.proofs.lemmas.List.{length-append, length-map, append-nil, take_more, take_all}
use Rattle.std.proofs.lemmas.List.Elements.{All-nil, All-cons, All-tail, All-head, All-weaker, All-filter, All-get_or, filter_agree, filter_passes}
use Rattle.zq_base.specs.declared.ids.EndId.{EndId}
use Rattle.spec_control.specs.declared.end.EndEvent.TheVariants.{Asked, DelimiterSeen}
use Rattle.spec_control.specs.declared.end.EndState.{EndState}
use Rattle.spec_control.specs.declared.end.EndState.TheVariants.{Active, DelimiterGot, WaitDelimiter, AckSent, AskedOnce, AskedTwice, Gone}
use Rattle.spec_control.specs.declared.end.Reason.{Reason}
use Rattle.spec_control.specs.declared.letter.Letter.{Letter}
use Rattle.spec_control.specs.EndLife.{comes}
use Rattle.spec_control.specs.Place.{Place, Unmade, Away, At, is_here}
use Rattle.spec_control.specs.Control.{Control, is_end, happens, ask, ask_all, ends_of, owner_of, place_of}
use Rattle.control_laws.proofs.ListLemmas.{never}
use Rattle.control_laws.proofs.AskLemmas.{end_self, AskLeaves, ask_all_leaves}
use Rattle.control_laws.specs.Move.{Move, MovesTo}
use Rattle.control_laws.proofs.GoLemmas.{ask_all_goes}
use Rattle.control_laws.specs.Room.{to_come}
use Rattle.desk.specs.declared.load.Load.{Load}
use Rattle.desk.specs.Holding.{Holding}
use Rattle.desk.specs.Turns.{TurnsBy}
use Rattle.ctl_state.specs.declared.command.Command.{Command}
use Rattle.ctl_state.specs.declared.state.State.{State}
use Rattle.ctl_state.specs.Boxes.{mail_at}
use Rattle.ctl_state.specs.Stands.{Stands}
use Rattle.ctl_moves.specs.Turning.{PutsLoaded, MayTurn, Leads, turn_of}
use Rattle.ctl_moves.proofs.MailLemmas.{puts_not, puts_on}
use Rattle.ctl_moves.proofs.TurnedLemmas.{still_at, turns_same, turns_on}
use Rattle.ctl_moves.specs.Asking.{HasRoomOver, MayAskOne, MayAskAll, asked_turns}
use Rattle.ctl_moves.proofs.PutLemmas.{room_for}
use Rattle.ctl_moves.proofs.AskedLemmas.{turns_append, turns_gone}

-- ---- one end
-- an end that is there may be asked
pub record IsThere (reason : Reason) (delay : Bool) (place : Place) : Type 0 where
  pub state : EndState
  pub is : place ≡ At state
  pub may_come : comes (Asked reason delay) state ≡ true

pub is_there : (reason : Reason) (delay : Bool) (place : Place) → is_here place ≡ true → IsThere reason delay place
is_there reason delay Unmade h = absurd (never h)
is_there reason delay Away h = absurd (never h)
is_there reason delay (At Active) h = record { state = Active; is = refl; may_come = refl }
is_there reason delay (At DelimiterGot) h = record { state = DelimiterGot; is = refl; may_come = refl }
is_there reason true (At WaitDelimiter) h = record { state = WaitDelimiter; is = refl; may_come = refl }
is_there reason false (At WaitDelimiter) h = record { state = WaitDelimiter; is = refl; may_come = refl }
is_there reason delay (At AckSent) h = record { state = AckSent; is = refl; may_come = refl }
is_there reason delay (At AskedOnce) h = record { state = AskedOnce; is = refl; may_come = refl }
is_there reason delay (At AskedTwice) h = record { state = AskedTwice; is = refl; may_come = refl }
is_there reason delay (At Gone) h = absurd (never h)

pub no_delimiter : (reason : Reason) (delay : Bool) → Asked reason delay ≡ DelimiterSeen → ⊥
no_delimiter reason delay f = Prim.grind arith

module _ {N O I : Type 0} (out_name : O → N) (in_name : I → N) (s : State (Load N O I)) (h : Holding N) (e : EndId) (reason : Reason) (delay : Bool) (w : MayAskOne s h e) where
  abbrev pub asks_here : is_here (place_of w.control e) ≡ true → MayTurn out_name in_name s h e (Asked reason delay)
  asks_here here =
      let found = is_there reason delay (place_of w.control e) here in
      record {
        control = w.control;
        names = w.names;
        stands = w.stands;
        has = w.has;
        turns = record {
          lent = w.lent;
          within = w.within;
          listed = w.listed;
          state = found.state;
          there = found.is;
          may_come = found.may_come;
          delimiter = λ seen. absurd (no_delimiter reason delay seen);
          room = room_for w.control e w.within s (Asked reason delay) w.room;
        };
      }

  ask_by : (b : Bool) → is_here (place_of w.control e) ≡ b → ask reason delay e w.control ≡ (if b then happens (Asked reason delay) e w.control else w.control)
  ask_by b is = ap (λ (x : Bool). if x then happens (Asked reason delay) e w.control else w.control) is

  pub asked_not : is_here (place_of w.control e) ≡ false → Leads out_name in_name w.names (turn_of e w.control (ask reason delay e w.control)) (ask reason delay e w.control) s s h h
  asked_not gone =
      subst (λ (d : Control). Leads out_name in_name w.names (turn_of e w.control d) d s s h h) (sym (ask_by false gone))
      (record {
        stands = w.stands;
        has = w.has;
        puts = puts_not out_name in_name w.names s.boxes s.boxes refl;
        lists = refl;
        holds = λ i. refl;
        kinds = λ i. refl;
        output = λ i. refl;
        turned = subst (λ (ts : List (EndId × EndState)). TurnsBy ts h h) (sym (still_at e (place_of w.control e))) (turns_same h);
        joined = refl;
        heard = refl;
      })

  pub asked_here : (t : State (Load N O I)) (k : Holding N) → is_here (place_of w.control e) ≡ true → Leads out_name in_name w.names (turn_of e w.control (happens (Asked reason delay) e w.control)) (happens (Asked reason delay) e w.control) s t h k →
      Leads out_name in_name w.names (turn_of e w.control (ask reason delay e w.control)) (ask reason delay e w.control) s t h k
  asked_here t k here leads = subst (λ (d : Control). Leads out_name in_name w.names (turn_of e w.control d) d s t h k) (sym (ask_by true here)) leads

-- ---- all of an object
ask_all-append : (reason : Reason) (delay : Bool) (xs ys : List EndId) (c : Control) → ask_all reason delay (xs ++ ys) c ≡ ask_all reason delay ys (ask_all reason delay xs c)
ask_all-append reason delay [] ys c = refl
ask_all-append reason delay (e ∷ xs) ys c = ask_all-append reason delay xs ys (ask reason delay e c)

-- each of a list stands in it
self_listed : (es : List EndId) → All (λ e. list_any (is_end e) es ≡ true) es
self_listed [] = All-nil (λ e. list_any (is_end e) [] ≡ true)
self_listed (x ∷ es) =
    All-cons (λ e. list_any (is_end e) (x ∷ es) ≡ true) x es (ap (λ (b : Bool). b || list_any (is_end x) es) (end_self x))
    (All-weaker (λ e. list_any (is_end e) es ≡ true) (λ e. list_any (is_end e) (x ∷ es) ≡ true) (λ e is. later e (is_end e x) is) es (self_listed es))
  where
    later : (e : EndId) (b : Bool) → list_any (is_end e) es ≡ true → (b || list_any (is_end e) es) ≡ true
    later e true is = refl
    later e false is = is

none_asked : (reason : Reason) (delay : Bool) (es : List EndId) (c : Control) → All (λ e. is_here (place_of c e) ≡ false) es → ask_all reason delay es c ≡ c
none_asked reason delay [] c none = refl
none_asked reason delay (e ∷ es) c none =
    ap (λ (b : Bool). ask_all reason delay es (if b then happens (Asked reason delay) e c else c)) (All-head (λ x. is_here (place_of c x) ≡ false) e es none)
    ∙ none_asked reason delay es c (All-tail (λ x. is_here (place_of c x) ≡ false) e es none)

module _ {N O I : Type 0} (out_name : O → N) (in_name : I → N) where
  -- commands that were put stand in room that was kept
  pub room_led : (own : List Move) (names : EndId → Option N) (c d : Control) (s t : State (Load N O I)) → Stands s c → Stands t d → PutsLoaded out_name in_name names s.boxes t.boxes → HasRoomOver own c s → MovesTo own c d →
      (m : ℕ) → to_come d m ≤ (mail_at t.boxes m).spare
  room_led own names c d s t stands_s stands_t puts room moves m =
      let g = puts.grows m in
      let most = room d moves m in
      let were = sym (ap (λ (ls : List Letter). length ls) (stands_s.boxes.each m)) ∙ length-map (mail_at s.boxes m).commands (λ (x : Command (Load N O I)). x.letter) in
      let are = sym (ap (λ (ls : List Letter). length ls) (stands_t.boxes.each m)) ∙ length-map (mail_at t.boxes m).commands (λ (x : Command (Load N O I)). x.letter) in
      let all = ap (λ (xs : List (Command (Load N O I))). length xs) g.commands in
      let parts = length-append (mail_at s.boxes m).commands g.more in
      let spare = g.spare in
      omega (arith, most, were, are, all, parts, spare)

  module _ (s : State (Load N O I)) (h : Holding N) (at : ℕ) (reason : Reason) (delay : Bool) where
    -- so many of them were asked
    abbrev pub AskedSoFar : (t : State (Load N O I)) (k : Holding N) → ℕ → Type 0
    AskedSoFar t k n = (w : MayAskAll s h at) → Leads out_name in_name w.names (asked_turns reason delay (take n (ends_of at w.control)) w.control) (ask_all reason delay (take n (ends_of at w.control)) w.control) s t h k

    pub none_so_far : AskedSoFar s h 0
    none_so_far w = record {
      stands = w.stands;
      has = w.has;
      puts = puts_not out_name in_name w.names s.boxes s.boxes refl;
      lists = refl;
      holds = λ i. refl;
      kinds = λ i. refl;
      output = λ i. refl;
      turned = turns_same h;
      joined = refl;
      heard = refl;
    }

    -- the root has none
    pub root_asks_none : at ≡ 0 → (w : MayAskAll s h at) → Leads out_name in_name w.names (asked_turns reason delay (ends_of at w.control) w.control) (ask_all reason delay (ends_of at w.control) w.control) s s h h
    root_asks_none zero_is w =
        subst (λ (d : Control). Leads out_name in_name w.names (asked_turns reason delay (ends_of at w.control) w.control) d s s h h) (sym (none_asked reason delay (ends_of at w.control) w.control all_gone))
        (subst (λ (ts : List (EndId × EndState)). Leads out_name in_name w.names ts w.control s s h h) (sym (turns_gone reason delay (ends_of at w.control) w.control all_gone)) (none_so_far w))
      where
        gone : (e : EndId) → (owner_of w.control e == at) ≡ true → is_here (place_of w.control e) ≡ false
        gone e mine = by (is_here (place_of w.control e)) refl
          where
            by : (b : Bool) → is_here (place_of w.control e) ≡ b → is_here (place_of w.control e) ≡ false
            by true here = absurd (w.rootless e here (eqb-true (owner_of w.control e) at mine ∙ zero_is))
            by false not_here = not_here

        all_gone : All (λ e. is_here (place_of w.control e) ≡ false) (ends_of at w.control)
        all_gone = All-weaker (λ e. (owner_of w.control e == at) ≡ true) (λ e. is_here (place_of w.control e) ≡ false) gone (ends_of at w.control) (filter_passes (λ e. owner_of w.control e == at) w.control.attached)

    module _ (t : State (Load N O I)) (k : Holding N) (n : ℕ) (far : AskedSoFar t k n) (w : MayAskAll s h at) where
      abbrev now : Control
      now = ask_all reason delay (take n (ends_of at w.control)) w.control

      pub leads : Leads out_name in_name w.names (asked_turns reason delay (take n (ends_of at w.control)) w.control) now s t h k
      leads = far w

      leaves : AskLeaves true w.control now
      leaves = ask_all_leaves reason delay true (λ e. refl) (take n (ends_of at w.control)) w.control

      -- it has the same ends still
      pub same_ends : ends_of at now ≡ ends_of at w.control
      same_ends =
          ap (λ (xs : List EndId). filter (λ e. owner_of now e == at) xs) leaves.attached
          ∙ filter_agree (λ e. owner_of now e == at) (λ e. owner_of w.control e == at) (λ e. ap (λ (i : ℕ). i == at) (leaves.owners e)) w.control.attached

      pub own_ends : All (λ x. (owner_of now x == at) ≡ true) (ends_of at now)
      own_ends = filter_passes (λ x. owner_of now x == at) now.attached

      pub known_ends : All (λ x. x.pair.0 < length now.rows.pairs) (ends_of at now)
      known_ends = All-filter (λ x. owner_of now x == at) (λ x. x.pair.0 < length now.rows.pairs) now.attached leads.stands.lists.known

      pub listed_ends : All (λ x. list_any (is_end x) now.attached ≡ true) (ends_of at now)
      listed_ends = All-filter (λ x. owner_of now x == at) (λ x. list_any (is_end x) now.attached ≡ true) now.attached (self_listed now.attached)

      pub read_end : (P : EndId → Type 0) → All P (ends_of at now) → (xs : List EndId) → xs ≡ ends_of at now → (d : EndId) → n < length xs → P (slice_index_or xs n d)
      read_end P all xs is d below = All-get_or P xs n d below (subst (λ (ys : List EndId). All P ys) (sym is) all)

      abbrev pub asks_next : (xs : List EndId) → xs ≡ ends_of at now → (d : EndId) → n < length xs → at ≢ 0 → MayAskOne t k (slice_index_or xs n d)
      asks_next xs is d below above = record {
        control = now;
        names = w.names;
        stands = leads.stands;
        has = leads.has;
        lent = ap k.holds (eqb-true (owner_of now (slice_index_or xs n d)) at (read_end (λ x. (owner_of now x == at) ≡ true) own_ends xs is d below)) ∙ leads.holds at ∙ w.lent above;
        within = read_end (λ x. x.pair.0 < length now.rows.pairs) known_ends xs is d below;
        listed = read_end (λ x. list_any (is_end x) now.attached ≡ true) listed_ends xs is d below;
        room = room_led [] w.names w.control now s t w.stands leads.stands leads.puts w.room (ask_all_goes reason delay (take n (ends_of at w.control)) w.control);
      }

      pub asked_next : (xs : List EndId) → xs ≡ ends_of at now → (d : EndId) → n < length xs → (u : State (Load N O I)) (l : Holding N) →
          Leads out_name in_name w.names (turn_of (slice_index_or xs n d) now (ask reason delay (slice_index_or xs n d) now)) (ask reason delay (slice_index_or xs n d) now) t u k l →
          Leads out_name in_name w.names (asked_turns reason delay (take (n + 1) (ends_of at w.control)) w.control) (ask_all reason delay (take (n + 1) (ends_of at w.control)) w.control) s u h l
      asked_next xs is d below u l step =
          subst (λ (c : Control). Leads out_name in_name w.names (asked_turns reason delay (take (n + 1) (ends_of at w.control)) w.control) c s u h l)
          (sym (ap (λ (ys : List EndId). ask_all reason delay ys w.control) one_more ∙ ask_all-append reason delay (take n (ends_of at w.control)) (slice_index_or xs n d ∷ []) w.control))
          (subst (λ (ts : List (EndId × EndState)). Leads out_name in_name w.names ts (ask reason delay (slice_index_or xs n d) now) s u h l)
          (sym (ap (λ (ys : List EndId). asked_turns reason delay ys w.control) one_more ∙ turns_append reason delay (take n (ends_of at w.control)) (slice_index_or xs n d ∷ []) w.control
          ∙ ap (λ (ts : List (EndId × EndState)). asked_turns reason delay (take n (ends_of at w.control)) w.control ++ ts) (append-nil (turn_of (slice_index_or xs n d) now (ask reason delay (slice_index_or xs n d) now)))))
          (record {
            stands = step.stands;
            has = step.has;
            puts = puts_on out_name in_name w.names s.boxes t.boxes u.boxes leads.puts step.puts;
            lists = step.lists ∙ leads.lists;
            holds = λ i. step.holds i ∙ leads.holds i;
            kinds = λ i. step.kinds i ∙ leads.kinds i;
            output = λ i. step.output i ∙ leads.output i;
            turned = turns_on (asked_turns reason delay (take n (ends_of at w.control)) w.control) (turn_of (slice_index_or xs n d) now (ask reason delay (slice_index_or xs n d) now)) h k l leads.turned step.turned;
            joined = step.joined ∙ leads.joined;
            heard = step.heard ∙ leads.heard;
          }))
        where
          one_more : take (n + 1) (ends_of at w.control) ≡ take n (ends_of at w.control) ++ slice_index_or xs n d ∷ []
          one_more =
              take_more (ends_of at w.control) n d (subst (λ (ys : List EndId). n < length ys) (is ∙ same_ends) below)
              ∙ ap (λ (ys : List EndId). take n (ends_of at w.control) ++ slice_index_or ys n d ∷ []) (sym (is ∙ same_ends))

      pub all_asked : length (ends_of at w.control) ≤ n → Leads out_name in_name w.names (asked_turns reason delay (ends_of at w.control) w.control) (ask_all reason delay (ends_of at w.control) w.control) s t h k
      all_asked all = subst (λ (xs : List EndId). Leads out_name in_name w.names (asked_turns reason delay xs w.control) (ask_all reason delay xs w.control) s t h k) (take_all n (ends_of at w.control) all) leads
