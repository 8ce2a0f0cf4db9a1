-- An event of an end, in the control state and at its holder.
use Rattle.std.specs.Prelude.{◌≡◌, ◌≢◌, ◌<◌, ◌⊎◌, ◌&&◌, ◌++◌, ◌∷◌, [], ℕ, Bool, true, false, List, Option, Some, None, All, map, length, if◌then◌else◌, refl}
use Rattle.std.proofs.Common.{arith, sym, ap, ◌∙◌, subst, inl, inr}
use Rattle.std.proofs.lemmas.Bool.{cases_eq}
use Rattle.std.proofs.lemmas.List.{append-nil}
use Rattle.zq_base.specs.Ends.{other_end}
use Rattle.zq_base.specs.declared.ids.EndId.{EndId}
use Rattle.zq_base.specs.declared.ids.ObjId.{ObjId}
use Rattle.mailbox.specs.Mail.{Mail, with_sent}
use Rattle.spec_control.specs.declared.end.EndState.{EndState}
use Rattle.spec_control.specs.declared.end.EndState.TheVariants.{Active, DelimiterGot, WaitDelimiter, AckSent, AskedOnce, AskedTwice, Gone}
use Rattle.spec_control.specs.declared.end.EndEvent.{EndEvent}
use Rattle.spec_control.specs.declared.end.EndEvent.TheVariants.{Asked, TermCame, DelimiterSeen, AckCame}
use Rattle.spec_control.specs.declared.end.EndCommands.{EndCommands}
use Rattle.spec_control.specs.declared.end.EndCommands.TheVariants.{Nothing, TermAndSeal, Ack, Settle, SettleAndAck}
use Rattle.spec_control.specs.declared.end.Reason.{Reason}
use Rattle.spec_control.specs.EndLife.{cell, comes, commands_of, state_after}
use Rattle.spec_control.specs.Place.{Place, At, is_here}
use Rattle.spec_control.specs.PairPhase.{Happens, place_after}
use Rattle.spec_control.specs.Rows.{Rows, obj, pair, end_place, end_owner}
use Rattle.spec_control.specs.Control.{Control, commands_in, reason_in, met_in, happens, is_end, owner_of, place_of, with_end, tell_other}
use Rattle.spec_control.specs.Held.{Held}
use Rattle.control_laws.proofs.ListLemmas.{never, clash}
use Rattle.control_laws.proofs.AskLemmas.{same_end, end_self}
use Rattle.control_laws.proofs.HearLemmas.{EndMoved, end_moved}
use Rattle.desk.specs.declared.load.Load.{Load}
use Rattle.desk.specs.Load.{Carries}
use Rattle.spec_control.specs.declared.letter.Word.TheVariants.{PipeTermAck}
use Rattle.desk.specs.Holding.{Holding, Stays, Yielded, TurnsTo, KeepsTurns, has_end, is_state}
use Rattle.desk.specs.Turns.{state_before, turn_at, sealed_by, TurnsBy}
use Rattle.desk.specs.Lent.{has_writer, HasBothNames, HasEnds, HasAll}
use Rattle.ctl_state.specs.declared.command.Command.{Command}
use Rattle.ctl_state.specs.declared.state.State.{State}
use Rattle.ctl_state.specs.Boxes.{mail_at, with_mail}
use Rattle.ctl_state.specs.Parts.{sent_to}
use Rattle.ctl_state.specs.Stands.{Stands, slot_of, stepped, tells, told_word, letter_for}
use Rattle.ctl_state.specs.Pairs.{owner_at as kept_owner_at}
use Rattle.ctl_state.proofs.EndLemmas.{owner_stands}
use Rattle.spec_control.specs.Row.{Row}
use Rattle.ctl_state.proofs.CountLemmas.{here_stays}
use Rattle.ctl_moves.specs.Turning.{yields, needs_writer, seals_for, turn_of, SealsFor, Turned, GivesFor, IsLoaded, PutsLoaded}
use Rattle.ctl_moves.proofs.MailLemmas.{puts_not, puts_sent}
use Rattle.ctl_moves.proofs.HeldLemmas.{other_twice, written_is, here_same}

-- ---- the holder
module _ {N : Type 0} where
  module _ (o : ℕ) (e : EndId) where
    pub turned_not : (h : Holding N) → Turned o e false h h
    turned_not h = record {
      now = record { ends = refl; others = λ i other. refl; objects = λ i. refl; kinds = λ i. refl; output = λ i. refl; delimiters = λ i d here at. at };
      writers = λ d. refl;
    }

    pub turned_stays : (h k : Holding N) → Stays o h k → Turned o e false h k
    turned_stays h k s = record { now = s.now; writers = s.writers }

    pub turned_yielded : (h k : Holding N) → Yielded o e h k → Turned o e true h k
    turned_yielded h k s = record { now = s.now; writers = s.writers }

    -- the state is told before
    pub turned_told : (h m k : Holding N) (b : Bool) → Stays o h m → Turned o e b m k → Turned o e b h k
    turned_told h m k b s t = record {
      now = record {
        ends = t.now.ends ∙ s.now.ends;
        others = λ i other. t.now.others i other ∙ s.now.others i other;
        objects = λ i. t.now.objects i ∙ s.now.objects i;
        kinds = λ i. t.now.kinds i ∙ s.now.kinds i;
        output = λ i. t.now.output i ∙ s.now.output i;
        delimiters = λ i d here at. t.now.delimiters i d here (s.now.delimiters i d (subst (λ (hs : List (Held N)). has_end d hs ≡ true) (same_list i) here) at);
      };
      writers = λ d. t.writers d ∙ ap (λ (w : Bool). if b && is_end d e then false else w) (s.writers d);
    }
      where
        same_list : (i : ℕ) → k.ends i ≡ m.ends i
        same_list i =
            elim (cases_eq i o) [
              | inl same ↦ subst (λ (n : ℕ). k.ends n ≡ m.ends n) (sym same) t.now.ends
              | inr other ↦ t.now.others i other
            ]

    -- the ends of each object are as before
    pub ends_same : (h k : Holding N) (b : Bool) → Turned o e b h k → (i : ℕ) → k.ends i ≡ h.ends i
    ends_same h k b t i =
        elim (cases_eq i o) [
          | inl same ↦ subst (λ (n : ℕ). k.ends n ≡ h.ends n) (sym same) t.now.ends
          | inr other ↦ t.now.others i other
        ]

  -- an end was told how far it is now, with its pipe to be sealed where that is wanted
  pub record ToldAs (commands : EndCommands) (e : EndId) (state : EndState) (h k : Holding N) : Type 0 where
    pub states : (i : ℕ) (d : EndId) → has_end d (k.ends i) ≡ true → k.state d ≡ (if is_end d e then state else h.state d)
    pub turns : k.turns ≡ h.turns ++ (if is_state (h.state e) state then [] else (e, state) ∷ [])
    pub sealed : k.sealed ≡ h.sealed ++ seals_for commands e
    pub joined : k.joined ≡ h.joined

  pub told_as : (commands : EndCommands) (e : EndId) (state : EndState) (h m k : Holding N) → TurnsTo e state h m → ((i : ℕ) → k.ends i ≡ m.ends i) → SealsFor commands e m k → ToldAs commands e state h k
  told_as commands e state h m k turns same seals = record {
    states = λ i d here. seals.states i d here ∙ turns.states i d (subst (λ (hs : List (Held N)). has_end d hs ≡ true) (same i) here);
    turns = seals.turns ∙ turns.turns;
    sealed = seals.sealed ∙ ap (λ (es : List EndId). es ++ seals_for commands e) turns.sealed;
    joined = seals.joined ∙ turns.joined;
  }

  -- nothing to be sealed
  pub seals_none : (commands : EndCommands) (e : EndId) (h k : Holding N) → seals_for commands e ≡ [] → KeepsTurns h k → SealsFor commands e h k
  seals_none commands e h k none keeps = record {
    states = keeps.states;
    turns = keeps.turns;
    sealed = keeps.sealed ∙ sym (append-nil h.sealed) ∙ ap (λ (es : List EndId). h.sealed ++ es) (sym none);
    joined = keeps.joined;
  }

  pub keeps_same : (h : Holding N) → KeepsTurns h h
  keeps_same h = record { states = λ i d here. refl; turns = refl; sealed = refl; joined = refl }

-- ---- the table
-- the pipe of an end is sealed where the end comes to be asked once
seal_step : (e : EndId) (event : EndEvent) (state : EndState) → comes event state ≡ true → sealed_by (turn_at e (At state) (At (state_after (cell event state) state))) ≡ seals_for (commands_of (cell event state)) e
seal_step e (Asked reason delay) Active h = refl
seal_step e (Asked reason delay) DelimiterGot h = refl
seal_step e (Asked reason true) WaitDelimiter h = refl
seal_step e (Asked reason false) WaitDelimiter h = refl
seal_step e (Asked reason delay) AckSent h = refl
seal_step e (Asked reason delay) AskedOnce h = refl
seal_step e (Asked reason delay) AskedTwice h = refl
seal_step e (Asked reason delay) Gone h = absurd (never h)
seal_step e TermCame Active h = refl
seal_step e TermCame DelimiterGot h = refl
seal_step e TermCame WaitDelimiter h = absurd (never h)
seal_step e TermCame AckSent h = absurd (never h)
seal_step e TermCame AskedOnce h = refl
seal_step e TermCame AskedTwice h = absurd (never h)
seal_step e TermCame Gone h = absurd (never h)
seal_step e DelimiterSeen Active h = refl
seal_step e DelimiterSeen DelimiterGot h = absurd (never h)
seal_step e DelimiterSeen WaitDelimiter h = refl
seal_step e DelimiterSeen AckSent h = absurd (never h)
seal_step e DelimiterSeen AskedOnce h = absurd (never h)
seal_step e DelimiterSeen AskedTwice h = absurd (never h)
seal_step e DelimiterSeen Gone h = absurd (never h)
seal_step e AckCame Active h = absurd (never h)
seal_step e AckCame DelimiterGot h = absurd (never h)
seal_step e AckCame WaitDelimiter h = absurd (never h)
seal_step e AckCame AckSent h = refl
seal_step e AckCame AskedOnce h = refl
seal_step e AckCame AskedTwice h = refl
seal_step e AckCame Gone h = absurd (never h)

-- an end to which an event comes was so far
before_is : (event : EndEvent) (state next : EndState) → comes event state ≡ true → state_before (At state) next ≡ state
before_is event Active next h = refl
before_is event DelimiterGot next h = refl
before_is event WaitDelimiter next h = refl
before_is event AckSent next h = refl
before_is event AskedOnce next h = refl
before_is event AskedTwice next h = refl
before_is (Asked reason delay) Gone next h = absurd (never h)
before_is TermCame Gone next h = absurd (never h)
before_is DelimiterSeen Gone next h = absurd (never h)
before_is AckCame Gone next h = absurd (never h)

at_is : {s t : EndState} → At s ≡ At t → s ≡ t
at_is f = grind arith

-- the writing half is given away where the end acknowledges
pub writer_step : (event : EndEvent) (state : EndState) → comes event state ≡ true → event ≢ AckCame →
    has_writer (At (state_after (cell event state) state)) ≡ (if yields (commands_of (cell event state)) then false else has_writer (At state))
writer_step (Asked reason delay) Active h n = refl
writer_step (Asked reason delay) DelimiterGot h n = refl
writer_step (Asked reason true) WaitDelimiter h n = refl
writer_step (Asked reason false) WaitDelimiter h n = refl
writer_step (Asked reason delay) AckSent h n = refl
writer_step (Asked reason delay) AskedOnce h n = refl
writer_step (Asked reason delay) AskedTwice h n = refl
writer_step (Asked reason delay) Gone h n = absurd (never h)
writer_step TermCame Active h n = refl
writer_step TermCame DelimiterGot h n = refl
writer_step TermCame WaitDelimiter h n = absurd (never h)
writer_step TermCame AckSent h n = absurd (never h)
writer_step TermCame AskedOnce h n = refl
writer_step TermCame AskedTwice h n = absurd (never h)
writer_step TermCame Gone h n = absurd (never h)
writer_step DelimiterSeen Active h n = refl
writer_step DelimiterSeen DelimiterGot h n = absurd (never h)
writer_step DelimiterSeen WaitDelimiter h n = refl
writer_step DelimiterSeen AckSent h n = absurd (never h)
writer_step DelimiterSeen AskedOnce h n = absurd (never h)
writer_step DelimiterSeen AskedTwice h n = absurd (never h)
writer_step DelimiterSeen Gone h n = absurd (never h)
writer_step AckCame state h n = absurd (n refl)

-- an end that has to seal its pipe or to give its writing half away has it, and settles nothing yet
pub writer_needed : (event : EndEvent) (state : EndState) → event ≢ AckCame → needs_writer (commands_of (cell event state)) ≡ true → has_writer (At state) ≡ true
writer_needed (Asked reason delay) Active n h = refl
writer_needed (Asked reason delay) DelimiterGot n h = refl
writer_needed (Asked reason true) WaitDelimiter n h = refl
writer_needed (Asked reason false) WaitDelimiter n h = refl
writer_needed (Asked reason delay) AckSent n h = absurd (never h)
writer_needed (Asked reason delay) AskedOnce n h = refl
writer_needed (Asked reason delay) AskedTwice n h = absurd (never h)
writer_needed (Asked reason delay) Gone n h = absurd (never h)
writer_needed TermCame Active n h = refl
writer_needed TermCame DelimiterGot n h = refl
writer_needed TermCame WaitDelimiter n h = refl
writer_needed TermCame AckSent n h = absurd (never h)
writer_needed TermCame AskedOnce n h = refl
writer_needed TermCame AskedTwice n h = absurd (never h)
writer_needed TermCame Gone n h = absurd (never h)
writer_needed DelimiterSeen Active n h = refl
writer_needed DelimiterSeen DelimiterGot n h = refl
writer_needed DelimiterSeen WaitDelimiter n h = refl
writer_needed DelimiterSeen AckSent n h = absurd (never h)
writer_needed DelimiterSeen AskedOnce n h = absurd (never h)
writer_needed DelimiterSeen AskedTwice n h = absurd (never h)
writer_needed DelimiterSeen Gone n h = absurd (never h)
writer_needed AckCame state n h = absurd (n refl)

-- an end has met its delimiter by seeing it alone
met_step : (event : EndEvent) (state : EndState) (reason : Option Reason) → comes event state ≡ true → event ≢ AckCame → event ≢ DelimiterSeen →
    met_in (At (state_after (cell event state) state)) (reason_in event (At state) reason) ≡ true → met_in (At state) reason ≡ true
met_step (Asked why delay) Active None h n d m = absurd (never m)
met_step (Asked why delay) Active (Some first) h n d m = absurd (never m)
met_step (Asked why delay) DelimiterGot None h n d m = absurd (never m)
met_step (Asked why delay) DelimiterGot (Some first) h n d m = absurd (never m)
met_step (Asked why true) WaitDelimiter None h n d m = absurd (never m)
met_step (Asked why true) WaitDelimiter (Some first) h n d m = absurd (never m)
met_step (Asked why false) WaitDelimiter None h n d m = absurd (never m)
met_step (Asked why false) WaitDelimiter (Some first) h n d m = absurd (never m)
met_step (Asked why delay) AckSent None h n d m = refl
met_step (Asked why delay) AckSent (Some first) h n d m = absurd (never m)
met_step (Asked why delay) AskedOnce None h n d m = absurd (never m)
met_step (Asked why delay) AskedOnce (Some first) h n d m = absurd (never m)
met_step (Asked why delay) AskedTwice None h n d m = absurd (never m)
met_step (Asked why delay) AskedTwice (Some first) h n d m = absurd (never m)
met_step (Asked why delay) Gone reason h n d m = absurd (never h)
met_step TermCame Active None h n d m = absurd (never m)
met_step TermCame Active (Some first) h n d m = absurd (never m)
met_step TermCame DelimiterGot None h n d m = refl
met_step TermCame DelimiterGot (Some first) h n d m = absurd (never m)
met_step TermCame WaitDelimiter reason h n d m = absurd (never h)
met_step TermCame AckSent reason h n d m = absurd (never h)
met_step TermCame AskedOnce None h n d m = absurd (never m)
met_step TermCame AskedOnce (Some first) h n d m = absurd (never m)
met_step TermCame AskedTwice reason h n d m = absurd (never h)
met_step TermCame Gone reason h n d m = absurd (never h)
met_step DelimiterSeen state reason h n d m = absurd (d refl)
met_step AckCame state reason h n d m = absurd (n refl)

is_seen : (event : EndEvent) → (event ≡ DelimiterSeen) ⊎ (event ≢ DelimiterSeen)
is_seen (Asked reason delay) = inr (λ e. other e)
  where
    other : Asked reason delay ≡ DelimiterSeen → ⊥
    other f = grind arith
is_seen TermCame = inr (λ e. other e)
  where
    other : TermCame ≡ DelimiterSeen → ⊥
    other f = grind arith
is_seen DelimiterSeen = inl refl
is_seen AckCame = inr (λ e. other e)
  where
    other : AckCame ≡ DelimiterSeen → ⊥
    other f = grind arith

-- ---- the control state
told_reasons : (commands : EndCommands) (e : EndId) (c : Control) → (tell_other commands e c).reasons ≡ c.reasons
told_reasons Nothing e c = refl
told_reasons TermAndSeal e c = refl
told_reasons Ack e c = refl
told_reasons Settle e c = refl
told_reasons SettleAndAck e c = refl

told_rows : (commands : EndCommands) (e : EndId) (c : Control) → (tell_other commands e c).rows ≡ c.rows
told_rows Nothing e c = refl
told_rows TermAndSeal e c = refl
told_rows Ack e c = refl
told_rows Settle e c = refl
told_rows SettleAndAck e c = refl

-- an end to which an event may come is there
pub comes_here : (event : EndEvent) (state : EndState) → comes event state ≡ true → is_here (At state) ≡ true
comes_here event Active h = refl
comes_here event DelimiterGot h = refl
comes_here event WaitDelimiter h = refl
comes_here event AckSent h = refl
comes_here event AskedOnce h = refl
comes_here event AskedTwice h = refl
comes_here (Asked reason delay) Gone h = h
comes_here TermCame Gone h = h
comes_here DelimiterSeen Gone h = h
comes_here AckCame Gone h = h

module _ (c : Control) (event : EndEvent) (e : EndId) (state : EndState) (there : place_of c e ≡ At state) (within : e.pair.0 < length c.rows.pairs) where
  goes : EndMoved event e c (happens event e c)
  goes = end_moved c event e within

  pub now_at : (d : EndId) → is_end d e ≡ true → place_of (happens event e c) d ≡ At (state_after (cell event state) state)
  now_at d same = ap (place_of (happens event e c)) (same_end d e same) ∙ goes.here ∙ ap (place_after (Happens event)) there

  was_at : (d : EndId) → is_end d e ≡ true → place_of c d ≡ At state
  was_at d same = ap (place_of c) (same_end d e same) ∙ there

  pub else_at : (d : EndId) → is_end d e ≡ false → place_of (happens event e c) d ≡ place_of c d
  else_at d other = goes.elsewhere d.pair.0 d.a (λ (same : d ≡ e). clash (is_end d e) (ap (λ (j : EndId). is_end j e) same ∙ end_self e) other)

  pub same_owner : (d : EndId) → owner_of (happens event e c) d ≡ owner_of c d
  same_owner d = goes.owners d.pair.0 d.a

  pub same_attached : (happens event e c).attached ≡ c.attached
  same_attached = goes.attached

  pub reasons_now : (happens event e c).reasons ≡ with_end e (reason_in event (place_of c e) (c.reasons e)) c.reasons
  reasons_now = told_reasons (commands_in event (place_of c e)) e (stepped event e c)

  -- before the other end is told the ends are where they are then
  same_rows : (happens event e c).rows ≡ (stepped event e c).rows
  same_rows = told_rows (commands_in event (place_of c e)) e (stepped event e c)

  pub stepped_at : place_of (stepped event e c) e ≡ At (state_after (cell event state) state)
  stepped_at = sym (ap (λ (r : Rows). end_place (pair r e.pair.0) e.a) same_rows) ∙ now_at e (end_self e)

  pub stepped_owner : (d : EndId) → owner_of (stepped event e c) d ≡ owner_of c d
  stepped_owner d = sym (ap (λ (r : Rows). end_owner (pair r d.pair.0) d.a) same_rows) ∙ same_owner d

  -- how far each end is, once it was told
  pub states_told : {N : Type 0} (names : EndId → Option N) (h k : Holding N) (i : ℕ) → HasEnds names c.rows.pairs c.attached c.reasons h i → ToldAs (commands_of (cell event state)) e (state_after (cell event state) state) h k →
      (d : EndId) → has_end d (h.ends i) ≡ true → has_end d (k.ends i) ≡ true → place_of (happens event e c) d ≡ At (k.state d)
  states_told names h k i has told d was here = by (is_end d e) refl
    where
      by : (b : Bool) → is_end d e ≡ b → place_of (happens event e c) d ≡ At (k.state d)
      by true same = now_at d same ∙ ap At (sym (told.states i d here ∙ ap (λ (x : Bool). if x then state_after (cell event state) state else h.state d) same))
      by false other = else_at d other ∙ has.states d was ∙ ap At (sym (told.states i d here ∙ ap (λ (x : Bool). if x then state_after (cell event state) state else h.state d) other))

  -- that is the one change of this event
  pub turns_told : {N : Type 0} (names : EndId → Option N) (h k : Holding N) (i : ℕ) → HasEnds names c.rows.pairs c.attached c.reasons h i → has_end e (h.ends i) ≡ true → comes event state ≡ true →
      ToldAs (commands_of (cell event state)) e (state_after (cell event state) state) h k → TurnsBy (turn_of e c (happens event e c)) h k
  turns_told names h k i has here may_come told = record {
    turns = told.turns ∙ ap (λ (x : EndState). h.turns ++ (if is_state x (state_after (cell event state) state) then [] else (e, state_after (cell event state) state) ∷ [])) (sym same_state ∙ sym (before_is event state (state_after (cell event state) state) may_come))
        ∙ ap (λ (ts : List (EndId × EndState)). h.turns ++ ts) (sym one);
    sealed = told.sealed ∙ ap (λ (es : List EndId). h.sealed ++ es) (sym (ap sealed_by one ∙ seal_step e event state may_come));
  }
    where
      same_state : state ≡ h.state e
      same_state = at_is (sym there ∙ has.states e here)

      one : turn_of e c (happens event e c) ≡ turn_at e (At state) (At (state_after (cell event state) state))
      one = ap (λ (p : Place). turn_at e p (place_of (happens event e c) e)) there ∙ ap (λ (p : Place). turn_at e (At state) p) (now_at e (end_self e))

  module _ (may_come : comes event state ≡ true) (stays : event ≢ AckCame) where
    pub same_here : (d : EndId) → is_here (place_of (happens event e c) d) ≡ is_here (place_of c d)
    same_here d = by (is_end d e) refl
      where
        by : (b : Bool) → is_end d e ≡ b → is_here (place_of (happens event e c) d) ≡ is_here (place_of c d)
        by true same = ap is_here (now_at d same) ∙ here_stays event state may_come stays ∙ ap is_here (sym (was_at d same))
        by false other = ap is_here (else_at d other)

    module _ {N : Type 0} (names : EndId → Option N) (h k : Holding N) (turned : Turned (owner_of c e) e (yields (commands_of (cell event state))) h k)
        (at : event ≡ DelimiterSeen → h.at_delimiter e ≡ true) (told : ToldAs (commands_of (cell event state)) e (state_after (cell event state) state) h k) where
      lists : (i : ℕ) → k.ends i ≡ h.ends i
      lists i = ends_same (owner_of c e) e h k (yields (commands_of (cell event state))) turned i

      had : (i : ℕ) (d : EndId) → has_end d (k.ends i) ≡ true → has_end d (h.ends i) ≡ true
      had i d here = subst (λ (hs : List (Held N)). has_end d hs ≡ true) (lists i) here

      writes_now : (i : ℕ) → HasEnds names c.rows.pairs c.attached c.reasons h i → (d : EndId) → has_end d (k.ends i) ≡ true → k.writes d ≡ has_writer (place_of (happens event e c) d)
      writes_now i has d here = by (is_end d e) refl
        where
          picks : (x w : Bool) → (if x && true then false else w) ≡ (if x then false else w)
          picks true w = refl
          picks false w = refl

          keeps : (x w : Bool) → (if x && false then false else w) ≡ w
          keeps true w = refl
          keeps false w = refl

          by : (b : Bool) → is_end d e ≡ b → k.writes d ≡ has_writer (place_of (happens event e c) d)
          by true same =
              turned.writers d ∙ ap (λ (x : Bool). if yields (commands_of (cell event state)) && x then false else h.writes d) same ∙ picks (yields (commands_of (cell event state))) (h.writes d)
              ∙ ap (λ (w : Bool). if yields (commands_of (cell event state)) then false else w) (has.writes d (had i d here) ∙ ap has_writer (was_at d same))
              ∙ sym (writer_step event state may_come stays) ∙ sym (ap has_writer (now_at d same))
          by false other =
              turned.writers d ∙ ap (λ (x : Bool). if yields (commands_of (cell event state)) && x then false else h.writes d) other ∙ keeps (yields (commands_of (cell event state))) (h.writes d)
              ∙ has.writes d (had i d here) ∙ sym (ap has_writer (else_at d other))

      met_now : (i : ℕ) → HasEnds names c.rows.pairs c.attached c.reasons h i → (d : EndId) → has_end d (k.ends i) ≡ true →
          met_in (place_of (happens event e c) d) (with_end e (reason_in event (place_of c e) (c.reasons e)) c.reasons d) ≡ true → k.at_delimiter d ≡ true
      met_now i has d here met = turned.now.delimiters i d here (by (is_end d e) refl)
        where
          by : (b : Bool) → is_end d e ≡ b → h.at_delimiter d ≡ true
          by true same =
              elim (is_seen event) [
                | inl seen ↦ ap h.at_delimiter (same_end d e same) ∙ at seen
                | inr unseen ↦ has.delimiters d (had i d here)
                    (subst (λ (x : EndId). met_in (place_of c x) (c.reasons x) ≡ true) (sym (same_end d e same))
                    (ap (λ (p : Place). met_in p (c.reasons e)) there
                    ∙ met_step event state (c.reasons e) may_come stays unseen
                    (sym (ap (λ (p : Place). met_in p (reason_in event (At state) (c.reasons e))) (now_at d same)) ∙ reason_is same)))
              ]
            where
              reason_is : is_end d e ≡ true → met_in (place_of (happens event e c) d) (reason_in event (At state) (c.reasons e)) ≡ true
              reason_is same =
                  ap (λ (r : Option Reason). met_in (place_of (happens event e c) d) r)
                  (ap (λ (p : Place). reason_in event p (c.reasons e)) (sym there) ∙ sym (ap (λ (x : Bool). if x then reason_in event (place_of c e) (c.reasons e) else c.reasons d) same))
                  ∙ met
          by false other =
              has.delimiters d (had i d here)
              (ap (λ (p : Place). met_in p (c.reasons d)) (sym (else_at d other))
              ∙ ap (λ (x : Bool). met_in (place_of (happens event e c) d) (if x then reason_in event (place_of c e) (c.reasons e) else c.reasons d)) (sym other) ∙ met)

      pub has_turned : HasAll names c h → HasAll names (happens event e c) k
      has_turned has i holds = of (has i (sym (turned.now.objects i) ∙ holds))
        where
          of : HasEnds names c.rows.pairs c.attached c.reasons h i → HasEnds names (happens event e c).rows.pairs (happens event e c).attached (happens event e c).reasons k i
          of was =
              subst (λ (rs : EndId → Option Reason). HasEnds names (happens event e c).rows.pairs (happens event e c).attached rs k i) (sym reasons_now)
              (subst (λ (es : List EndId). HasEnds names (happens event e c).rows.pairs es (with_end e (reason_in event (place_of c e) (c.reasons e)) c.reasons) k i) (sym same_attached)
              (record {
                ends = ap (λ (hs : List (Held N)). map (λ x. x.end) hs) (lists i) ∙ was.ends ∙ sym (here_same c.rows.pairs (happens event e c).rows.pairs c.attached i same_here same_owner);
                named = subst (λ (hs : List (Held N)). All (HasBothNames names) hs) (sym (lists i)) was.named;
                writes = writes_now i was;
                delimiters = met_now i was;
                states = λ d here. states_told names h k i was told d (had i d here) here;
              }))

-- ---- what is put
module _ {N O I : Type 0} (out_name : O → N) (in_name : I → N) (names : EndId → Option N) where
  -- the command for the other end carries what it is to bring
  loaded_for : (commands : EndCommands) (o : ℕ) (e : EndId) (to : ObjId) (load : Option (Load N O I)) (h : Holding N) → All (HasBothNames names) (h.ends o) → tells commands ≡ true →
      GivesFor out_name in_name commands o e load h → IsLoaded out_name in_name names (letter_for to (told_word commands (other_end e)) load)
  loaded_for Nothing o e to load h named told given = absurd (never told)
  loaded_for TermAndSeal o e to load h named told given = record { carries = given; no_ends = refl }
  loaded_for Ack o e to load h named told given = record {
    carries = subst (λ (l : Option (Load N O I)). Carries out_name in_name names (PipeTermAck (other_end e)) l) (sym given.given)
        (ap names (other_twice e) ∙ written_is names e (h.ends o) (out_name given.half) named given.name);
    no_ends = refl;
  }
  loaded_for Settle o e to load h named told given = absurd (never told)
  loaded_for SettleAndAck o e to load h named told given = record {
    carries = subst (λ (l : Option (Load N O I)). Carries out_name in_name names (PipeTermAck (other_end e)) l) (sym given.given)
        (ap names (other_twice e) ∙ written_is names e (h.ends o) (out_name given.half) named given.name);
    no_ends = refl;
  }

  pub puts_told : (s mid t : State (Load N O I)) (slot : ℕ) (commands : EndCommands) (o : ℕ) (e : EndId) (to : ObjId) (load : Option (Load N O I)) (h : Holding N) → All (HasBothNames names) (h.ends o) →
      GivesFor out_name in_name commands o e load h → mid.boxes ≡ s.boxes → (tells commands ≡ true → 0 < (mail_at s.boxes slot).spare) →
      (tells commands ≡ true → t ≡ sent_to slot (letter_for to (told_word commands (other_end e)) load) mid) → (tells commands ≡ false → t ≡ mid) → PutsLoaded out_name in_name names s.boxes t.boxes
  puts_told s mid t slot commands o e to load h named given boxes room told kept = by (tells commands) refl
    where
      by : (b : Bool) → tells commands ≡ b → PutsLoaded out_name in_name names s.boxes t.boxes
      by true yes_told =
          subst (λ (b : List (Mail (Command (Load N O I)))). PutsLoaded out_name in_name names s.boxes b)
          (sym (ap (λ (x : State (Load N O I)). x.boxes) (told yes_told) ∙ ap (λ (b : List (Mail (Command (Load N O I)))). with_mail slot (with_sent (letter_for to (told_word commands (other_end e)) load) (mail_at b slot)) b) boxes))
          (puts_sent out_name in_name names s.boxes slot (letter_for to (told_word commands (other_end e)) load) (loaded_for commands o e to load h named yes_told given) (room yes_told))
      by false not_told = puts_not out_name in_name names s.boxes t.boxes (ap (λ (x : State (Load N O I)). x.boxes) (kept not_told) ∙ boxes)

module _ {L : Type 0} (s mid : State L) (c : Control) (event : EndEvent) (e : EndId) (state : EndState) (there : place_of c e ≡ At state) (within : e.pair.0 < length c.rows.pairs)
    (stands : Stands mid (stepped event e c)) where
  -- the mailbox of the other end's owner
  pub other_slot : slot_of mid (kept_owner_at mid.pairs (other_end e)).0 ≡ (obj c.rows (owner_of c (other_end e))).slot
  other_slot =
      sym (ap (λ (r : Row). r.slot) (stands.objects.each (kept_owner_at mid.pairs (other_end e)).0))
      ∙ ap (λ (n : ℕ). (obj c.rows n).slot) (sym (owner_stands mid (other_end e) (stepped event e c) stands) ∙ stepped_owner c event e state there within (other_end e))

  -- what belongs to objects is as before
  pub lists_kept : (t : State L) (commands : EndCommands) (slot : ℕ) (command : Command L) → mid.objects.lists ≡ s.objects.lists → (tells commands ≡ true → t ≡ sent_to slot command mid) → (tells commands ≡ false → t ≡ mid) →
      t.objects.lists ≡ s.objects.lists
  lists_kept t commands slot command same told kept = by (tells commands) refl
    where
      by : (b : Bool) → tells commands ≡ b → t.objects.lists ≡ s.objects.lists
      by true is_told = ap (λ (x : State L). x.objects.lists) (told is_told) ∙ same
      by false is_kept = ap (λ (x : State L). x.objects.lists) (kept is_kept) ∙ same
