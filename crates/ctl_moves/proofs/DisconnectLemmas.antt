-- What the striking of a connect does, in the control state and at the holder.
use Rattle.std.specs.Prelude.{◌≡◌, ◌≤◌, ◌==◌, ℕ, Bool, true, false, List, [], Option, Some, None, find, slice_index_or, if◌then◌else◌, refl}
use Rattle.std.proofs.Common.{arith, sym, ap, ◌∙◌, subst}
use Rattle.std.proofs.lemmas.Bool.{eqb-true}
use Rattle.zq_base.specs.declared.endpoint.Endpoint.{Endpoint}
use Rattle.zq_base.specs.declared.ids.EndId.{EndId}
use Rattle.mailbox.specs.Mail.{Mail}
use Rattle.spec_control.specs.declared.end.EndEvent.TheVariants.{Asked, DelimiterSeen}
use Rattle.spec_control.specs.declared.end.Reason.TheVariants.{Closed}
use Rattle.spec_control.specs.Stage.{has_ended}
use Rattle.spec_control.specs.EndpointBook.{without_first}
use Rattle.spec_control.specs.Hold.{Hold, is_connect_to}
use Rattle.spec_control.specs.Place.{is_away, is_here}
use Rattle.spec_control.specs.Row.{Row, nobody}
use Rattle.spec_control.specs.Rows.{obj, is_owner}
use Rattle.spec_control.specs.Control.{Control, happens, ask, owner_of, place_of}
use Rattle.spec_control.specs.After.{strike_end, tell_struck, strikes, strikes_first}
use Rattle.control_laws.proofs.AskLemmas.{ask_leaves}
use Rattle.control_laws.specs.Move.{MovesTo}
use Rattle.control_laws.proofs.GoLemmas.{either_free, stays, ask_goes}
use Rattle.control_laws.specs.Room.{to_come}
use Rattle.control_laws.proofs.RoomLemmas.{moves_room}
use Rattle.desk.specs.declared.load.Load.{Load}
use Rattle.desk.specs.Holding.{Holding}
use Rattle.desk.specs.Lent.{HasAll}
use Rattle.ctl_state.specs.declared.belongings.Belongings.{Belongings}
use Rattle.ctl_state.specs.declared.command.Command.{Command}
use Rattle.ctl_state.specs.declared.state.State.{State}
use Rattle.ctl_state.specs.Boxes.{mail_at}
use Rattle.ctl_state.specs.Lists.{belongings_at}
use Rattle.ctl_state.specs.Parts.{Tells}
use Rattle.ctl_state.specs.Stands.{Stands, struck_now, holds_by}
use Rattle.ctl_moves.specs.Turning.{MayTurn, Leads, PutsLoaded, turn_of}
use Rattle.ctl_moves.proofs.MailLemmas.{puts_not, puts_on}
use Rattle.ctl_moves.specs.Bare.{Somewhere}
use Rattle.ctl_moves.specs.Striking.{Led, MayStrike, StrikesWith, IsStruck, JoinsNone}
use Rattle.ctl_moves.proofs.CapacityLemmas.{mail_length}
use Rattle.ctl_moves.proofs.HolderLemmas.{has_same, bare_loaded}
use Rattle.control_laws.proofs.StayLemmas.{SameEnds, ends_stay, where_told}
use Rattle.ctl_moves.proofs.FindLemmas.{loaded_capacity, turns_at}

-- ---- the end of a connect that was struck
module _ (i : ℕ) (e : EndId) (c : Control) where
  abbrev strikes_so : (away mine here : Bool) → Control
  strikes_so away mine here = if away then struck_now e c else (if mine then (if here then happens (Asked Closed false) e c else c) else c)

  strike_by : (away mine here : Bool) → is_away (place_of c e) ≡ away → (owner_of c e == i) ≡ mine → is_here (place_of c e) ≡ here → strike_end i e c ≡ strikes_so away mine here
  strike_by away mine here a m h =
      ap (λ (b : Bool). if b then struck_now e c else (if owner_of c e == i then ask Closed false e c else c)) a
      ∙ ap (λ (b : Bool). if away then struck_now e c else (if b then ask Closed false e c else c)) m
      ∙ ap (λ (b : Bool). if away then struck_now e c else (if mine then (if b then happens (Asked Closed false) e c else c) else c)) h

  pub strikes_away : is_away (place_of c e) ≡ true → strike_end i e c ≡ struck_now e c
  strikes_away a = strike_by true (owner_of c e == i) (is_here (place_of c e)) a refl refl

  pub strikes_theirs : is_away (place_of c e) ≡ false → (owner_of c e == i) ≡ false → strike_end i e c ≡ c
  strikes_theirs a m = strike_by false false (is_here (place_of c e)) a m refl

  pub strikes_gone : is_away (place_of c e) ≡ false → (owner_of c e == i) ≡ true → is_here (place_of c e) ≡ false → strike_end i e c ≡ c
  strikes_gone a m h = strike_by false true false a m h

  pub strikes_here : is_away (place_of c e) ≡ false → (owner_of c e == i) ≡ true → is_here (place_of c e) ≡ true → strike_end i e c ≡ happens (Asked Closed false) e c
  strikes_here a m h = strike_by false true true a m h

  -- it makes nothing, and leaves each object's row
  goes : MovesTo [] c (strike_end i e c)
  goes =
      either_free (is_away (place_of c e)) c (struck_now e c) (if owner_of c e == i then ask Closed false e c else c) (λ x. stays c (struck_now e c) refl refl)
      (λ x. either_free (owner_of c e == i) c (ask Closed false e c) c (λ y. ask_goes Closed false e c) (λ y. stays c c refl refl))

  pub objects_same : (strike_end i e c).rows.objects ≡ c.rows.objects
  objects_same = by (is_away (place_of c e)) (owner_of c e == i)
    where
      by : (a m : Bool) → (if a then struck_now e c else (if m then ask Closed false e c else c)).rows.objects ≡ c.rows.objects
      by true m = refl
      by false true = (ask_leaves Closed false true (λ g. refl) e c).0.objects
      by false false = refl

-- nothing was done
pub joins_none : {N : Type 0} (h : Holding N) → JoinsNone h h
joins_none h = record { joined = refl; holds = λ i. refl; kinds = λ i. refl; heard = refl }

pub not_seen : Asked Closed false ≡ DelimiterSeen → ⊥
not_seen f = grind arith

pub struck_ends : (i : ℕ) (child : Option ℕ) (c : Control) → SameEnds c (tell_struck i child c)
struck_ends i None c = ends_stay c
struck_ends i (Some child) c = where_told (is_owner i (obj c.rows child).owner) child c

module _ {N O I : Type 0} (out_name : O → N) (in_name : I → N) where
  module _ (s : State (Load N O I)) (h : Holding N) (i : ℕ) (w : StrikesWith out_name in_name s h i) where
    -- an end of the socket that is there may be asked
    abbrev pub asks_at : (e : EndId) → (owner_of w.control e == i) ≡ true → is_here (place_of w.control e) ≡ true → MayTurn out_name in_name s h e (Asked Closed false)
    asks_at e mine here = record {
      control = w.control;
      names = w.names;
      stands = w.stands;
      has = w.has;
      turns = turns_at w.control w.kept out_name in_name s h e (Asked Closed false) here (λ above. ap h.holds (eqb-true (owner_of w.control e) i mine) ∙ w.lent) (λ seen. absurd (not_seen seen)) w.may.room;
    }

    -- its holds are changed, and it may strike its connects still
    abbrev pub holds_may : (t : State (Load N O I)) (f : List Hold → List Hold) → Stands t (holds_by f i w.control) → t.boxes ≡ s.boxes → StrikesWith out_name in_name t h i
    holds_may t f stands boxes = record {
      control = holds_by f i w.control;
      names = w.names;
      stands = stands;
      has = w.has;
      kept = record {
        reached = w.kept.reached;
        shape = w.kept.shape;
        prompt = w.kept.prompt;
        delivered = w.kept.delivered;
        listed = w.kept.listed;
        names = w.kept.names;
        pairs = w.kept.pairs;
      };
      lent = w.lent;
      may = record {
        lives = w.may.lives;
        room = λ m. subst (λ (b : List (Mail (Command (Load N O I)))). to_come w.control m ≤ (mail_at b m).spare) (sym boxes) (w.may.room m);
      };
    }

    -- nothing was done
    pub led_not : (now : Control) → now ≡ w.control → Led out_name in_name w.names now s s h
    led_not now same = record {
      stands = subst (λ (d : Control). Stands s d) (sym same) w.stands;
      has = subst (λ (d : Control). HasAll w.names d h) (sym same) w.has;
      puts = puts_not out_name in_name w.names s.boxes s.boxes refl;
      lists = refl;
    }

    -- something was done that concerns no end
    pub led_aside : (t : State (Load N O I)) (now : Control) → Stands t now → SameEnds w.control now → t.boxes ≡ s.boxes → t.objects.lists ≡ s.objects.lists → Led out_name in_name w.names now s t h
    led_aside t now stands same boxes lists = record {
      stands = stands;
      has = has_same w.names w.control now h same w.has;
      puts = puts_not out_name in_name w.names s.boxes t.boxes boxes;
      lists = lists;
    }

    -- the connect of an end is struck before it is attached
    pub led_struck : (t : State (Load N O I)) (e : EndId) → is_away (place_of w.control e) ≡ true → Stands t (struck_now e w.control) → t.boxes ≡ s.boxes → t.objects.lists ≡ s.objects.lists → Led out_name in_name w.names (strike_end i e w.control) s t h
    led_struck t e away stands boxes lists =
        subst (λ (d : Control). Led out_name in_name w.names d s t h) (sym (strikes_away i e w.control away))
        (led_aside t (struck_now e w.control) stands (record { pairs = refl; attached = refl; reasons = refl }) boxes lists)

    pub led_asked : (t : State (Load N O I)) (k : Holding N) (e : EndId) (now : Control) → now ≡ happens (Asked Closed false) e w.control → Leads out_name in_name w.names (turn_of e w.control (happens (Asked Closed false) e w.control)) (happens (Asked Closed false) e w.control) s t h k → Led out_name in_name w.names now s t k
    led_asked t k e now same leads = record {
      stands = subst (λ (d : Control). Stands t d) (sym same) leads.stands;
      has = subst (λ (d : Control). HasAll w.names d k) (sym same) leads.has;
      puts = leads.puts;
      lists = leads.lists;
    }

    module _ (t : State (Load N O I)) (k : Holding N) (e : EndId) (led : Led out_name in_name w.names (strike_end i e w.control) s t k) where
      -- there is room for the Term of its session behind it
      pub struck_may : Somewhere t (MayStrike t i)
      struck_may = record {
        control = strike_end i e w.control;
        stands = led.stands;
        is = record {
          lives = ap (λ (os : List Row). has_ended (slice_index_or os i nobody).stage) (objects_same i e w.control) ∙ w.may.lives;
          room = λ m. (let moved = moves_room w.control (strike_end i e w.control) w.kept (goes i e w.control) m in
              let before = mail_length s w.control w.stands m in
              let now = mail_length t (strike_end i e w.control) led.stands m in
              let same = loaded_capacity out_name in_name w.names s.boxes t.boxes led.puts m in
              let most = w.may.room m in
              omega (arith, moved, before, now, same, most));
        };
      }

      -- and its session is told
      pub led_told : (u : State (Load N O I)) (child : Option ℕ) → Stands u (tell_struck i child (strike_end i e w.control)) → Tells t u → Led out_name in_name w.names (tell_struck i child (strike_end i e w.control)) s u k
      led_told u child stands tells = record {
        stands = stands;
        has = has_same w.names (strike_end i e w.control) (tell_struck i child (strike_end i e w.control)) k (struck_ends i child (strike_end i e w.control)) led.has;
        puts = puts_on out_name in_name w.names s.boxes t.boxes u.boxes led.puts (bare_loaded out_name in_name w.names t.boxes u.boxes tells.bare);
        lists = tells.lists ∙ led.lists;
      }

  -- what followed was done with the hold that was found
  pub struck_found : (s t u : State (Load N O I)) (h k : Holding N) (i : ℕ) (to : Endpoint) (w : StrikesWith out_name in_name s h i) (hold : Hold) → Some hold ≡ find (is_connect_to to) (w.control.holds i) → t.boxes ≡ s.boxes →
      ((j : ℕ) → (belongings_at t.objects.lists j).ends ≡ (belongings_at s.objects.lists j).ends) → Led out_name in_name w.names (strikes i to (Some hold) (holds_by (without_first (is_connect_to to)) i w.control)) t u k →
      IsStruck out_name in_name w.names (strikes_first i to (is_connect_to to) w.control) s u k
  struck_found s t u h k i to w hold found boxes ends led = record {
    stands = subst (λ (x : Option Hold). Stands u (strikes i to x (holds_by (without_first (is_connect_to to)) i w.control))) found led.stands;
    has = subst (λ (x : Option Hold). HasAll w.names (strikes i to x (holds_by (without_first (is_connect_to to)) i w.control)) k) found led.has;
    puts = subst (λ (b : List (Mail (Command (Load N O I)))). PutsLoaded out_name in_name w.names b u.boxes) boxes led.puts;
    ends = λ j. ap (λ (ls : List Belongings). (belongings_at ls j).ends) led.lists ∙ ends j;
  }

  -- no hold was found
  pub struck_none : (s t : State (Load N O I)) (h : Holding N) (i : ℕ) (to : Endpoint) (w : StrikesWith out_name in_name s h i) → None ≡ find (is_connect_to to) (w.control.holds i) → t.boxes ≡ s.boxes →
      ((j : ℕ) → (belongings_at t.objects.lists j).ends ≡ (belongings_at s.objects.lists j).ends) → Stands t (holds_by (without_first (is_connect_to to)) i w.control) →
      IsStruck out_name in_name w.names (strikes_first i to (is_connect_to to) w.control) s t h
  struck_none s t h i to w found boxes ends stands =
      subst (λ (x : Option Hold). IsStruck out_name in_name w.names (strikes i to x (holds_by (without_first (is_connect_to to)) i w.control)) s t h) found
      (record { stands = stands; has = w.has; puts = puts_not out_name in_name w.names s.boxes t.boxes boxes; ends = ends })
