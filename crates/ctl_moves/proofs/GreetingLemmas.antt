-- That an end that was just attached stays or is asked.
use Rattle.std.specs.Prelude.{◌≡◌, ◌≢◌, ◌<◌, ◌≤◌, ◌+◌, ◌==◌, ◌++◌, ◌∷◌, [], ℕ, Bool, true, false, cond, List, None, length, if◌then◌else◌, refl}
use Rattle.std.proofs.Common.{arith, sym, ap, ◌∙◌, subst}
use Rattle.zq_base.specs.Ends.{other_end}
use Rattle.zq_base.specs.declared.ids.EndId.{EndId}
use Rattle.mailbox.specs.Mail.{Mail, no_mail, with_sent}
use Rattle.spec_control.specs.declared.end.EndCommands.{EndCommands}
use Rattle.spec_control.specs.declared.end.EndCommands.TheVariants.{TermAndSeal}
use Rattle.spec_control.specs.declared.end.EndEvent.TheVariants.{Asked, AckCame}
use Rattle.spec_control.specs.declared.end.EndState.{EndState}
use Rattle.spec_control.specs.declared.end.EndState.TheVariants.{Active, AskedOnce}
use Rattle.spec_control.specs.declared.end.Reason.{Reason}
use Rattle.spec_control.specs.declared.letter.Word.TheVariants.{PipeTerm}
use Rattle.spec_control.specs.Place.{Place, At, is_here}
use Rattle.spec_control.specs.Rows.{PairRow, no_pair, end_place}
use Rattle.spec_control.specs.Control.{ask, commands_in, greet, happens, place_of, tell_other}
use Rattle.zq_base.specs.declared.attached.Attached.{Attached}
use Rattle.zq_base.specs.declared.attached.Attached.TheVariants.{Yes, BadId as IsBadId, Second as IsSecond}
use Rattle.control_laws.proofs.ListLemmas.{never}
use Rattle.control_laws.proofs.AskLemmas.{end_self}
use Rattle.desk.specs.declared.load.Load.{Load}
use Rattle.desk.specs.Holding.{HearsNone, Holding, Seals, Stays, TurnsTo, has_end, is_state}
use Rattle.desk.specs.Turns.{TurnsBy, turn_at}
use Rattle.ctl_moves.specs.Attaching.{asked_for}
use Rattle.ctl_moves.specs.Turning.{PutsLoaded}
use Rattle.ctl_moves.proofs.BindingLemmas.{welcomed_not}
use Rattle.ctl_moves.proofs.MailLemmas.{puts_not, puts_sent}
use Rattle.ctl_moves.proofs.TurnLemmas.{ToldAs, ends_same, now_at, other_slot, told_as, turned_not, turned_stays, turned_told}
use Rattle.ctl_moves.proofs.TurnedLemmas.{still_at, turns_same}
use Rattle.ctl_state.specs.declared.command.Command.{Command}
use Rattle.ctl_state.specs.declared.state.State.{State}
use Rattle.ctl_state.specs.Boxes.{mail_at, with_mail}
use Rattle.ctl_state.specs.Needs.{AreMet}
use Rattle.ctl_state.specs.Pairs.{owner_at, spot_at, spot_comes}
use Rattle.ctl_state.specs.Parts.{sent_to}
use Rattle.ctl_state.specs.Stands.{Stands, letter_for, slot_of, stepped, tells, told_word}
use Rattle.ctl_state.proofs.ReadLemmas.{placed_where, read_less}
use Rattle.ctl_state.proofs.StandLemmas.{roomy}
use Rattle.ctl_moves.specs.Greeting.{Asks, MayGreet, refusal}

at_most_one : (b : Bool) → cond b 1 0 ≤ 1
at_most_one true = omega arith
at_most_one false = omega arith

-- a command that was put takes room of one mailbox
pub sent_spare : {L : Type 0} (boxes : List (Mail (Command L))) (k : ℕ) (command : Command L) → 0 < (mail_at boxes k).spare → (m : ℕ) →
    (mail_at boxes m).spare ≤ (mail_at (with_mail k (with_sent command (mail_at boxes k)) boxes) m).spare + 1
sent_spare {L = L} boxes k command room m =
    let less = read_less (λ (x : Mail (Command L)). x.spare) boxes k m (with_sent command (mail_at boxes k)) no_mail (roomy boxes k room) (omega (arith, room)) in
    let one = at_most_one (k == m) in
    omega (arith, less, one)

pub asked_stays : (reason : Reason) → Asked reason false ≢ AckCame
asked_stays reason e = other e
  where
    other : Asked reason false ≡ AckCame → ⊥
    other f = grind arith

module _ {N O I : Type 0} (s : State (Load N O I)) (h : Holding N) (o : ℕ) (first : EndId) (w : MayGreet s h o first) where
  pub within : first.pair.0 < length w.control.rows.pairs
  within = placed_where (λ (p : PairRow). is_here (end_place p first.a)) w.control.rows.pairs first.pair.0 no_pair (λ e. never (sym (gone first.a) ∙ sym e ∙ ap is_here w.there))
    where
      gone : (a : Bool) → is_here (end_place no_pair a) ≡ false
      gone true = refl
      gone false = refl

  pub may_come : AreMet s w.control → (reason : Reason) → spot_comes (Asked reason false) (spot_at s.pairs first) ≡ true
  may_come met reason = met.may_come first (Asked reason false) Active w.there refl

  -- what its kind's answer comes to
  pub greeted : (a : Attached) → asked_for (refusal a) first w.control ≡ greet a first w.control
  greeted Yes = welcomed_not w.control first w.unasked w.unstruck
  greeted IsBadId = refl
  greeted IsSecond = refl

  -- it stays
  pub welcomed : (out_name : O → N) (in_name : I → N) → Asks out_name in_name w.control w.control o first s s h h
  welcomed out_name in_name = record {
    stands = w.stands;
    stays = record { now = (turned_not o first h).now; writers = λ d. refl };
    puts = λ names. puts_not out_name in_name names s.boxes s.boxes refl;
    spare = λ m. omega arith;
    lists = refl;
    moves = record {
      mine = w.there ∙ ap At (sym w.state);
      others = λ i d here other. refl;
      turned = subst (λ (ts : List (EndId × EndState)). TurnsBy ts h h) (sym (still_at first (place_of w.control first))) (turns_same h);
      joined = refl;
      heard = refl;
    };
  }

  -- it is asked
  module _ (reason : Reason) (mid : State (Load N O I)) (commands : EndCommands) (stands : Stands mid (stepped (Asked reason false) first w.control))
      (told : commands ≡ commands_in (Asked reason false) (place_of w.control first)) (boxes : mid.boxes ≡ s.boxes) where
    commands_are : commands ≡ TermAndSeal
    commands_are = told ∙ ap (commands_in (Asked reason false)) w.there

    abbrev slot : ℕ
    slot = slot_of mid (owner_at mid.pairs (other_end first)).0

    room_there : 0 < (mail_at s.boxes slot).spare
    room_there = subst (λ (n : ℕ). 0 < (mail_at s.boxes n).spare) (sym (other_slot s mid w.control (Asked reason false) first Active w.there within stands)) w.room

    pub tell_room : tells commands ≡ true → 0 < (mail_at mid.boxes (slot_of mid (owner_at mid.pairs (other_end first)).0)).spare
    tell_room is_told = subst (λ (b : List (Mail (Command (Load N O I)))). 0 < (mail_at b slot).spare) (sym boxes) room_there

    pub asked : (out_name : O → N) (in_name : I → N) (m k : Holding N) (t : State (Load N O I)) → Stays o h m → TurnsTo first AskedOnce h m → Stays o m k → Seals first m k → HearsNone h k → mid.objects.lists ≡ s.objects.lists →
        Stands t (tell_other commands first (stepped (Asked reason false) first w.control)) →
        (tells commands ≡ true → t ≡ sent_to (slot_of mid (owner_at mid.pairs (other_end first)).0) (letter_for (owner_at mid.pairs (other_end first)) (told_word commands (other_end first)) None) mid) →
        Asks out_name in_name w.control (ask reason false first w.control) o first s t h k
    asked out_name in_name m k t set turns sealed seals heard lists now sent = record {
      stands = subst (λ (b : Bool). Stands t (if b then happens (Asked reason false) first w.control else w.control)) (sym (ap is_here w.there))
          (subst (λ (x : EndCommands). Stands t (tell_other x first (stepped (Asked reason false) first w.control))) told now);
      stays = (let both = turned_told o first h m k false set (turned_stays o first m k sealed) in record { now = both.now; writers = both.writers });
      puts = λ names. subst (λ (b : List (Mail (Command (Load N O I)))). PutsLoaded out_name in_name names s.boxes b) (sym boxes_now)
          (puts_sent out_name in_name names s.boxes slot term (record { carries = refl; no_ends = refl }) room_there);
      spare = λ n. subst (λ (b : List (Mail (Command (Load N O I)))). (mail_at s.boxes n).spare ≤ (mail_at b n).spare + 1) (sym boxes_now) (sent_spare s.boxes slot term room_there n);
      lists = ap (λ (x : State (Load N O I)). x.objects.lists) is ∙ lists;
      moves = record {
        mine = place_is ∙ ap At (sym (moved.states o first here ∙ ap (λ (b : Bool). if b then AskedOnce else h.state first) (end_self first)));
        others = λ i d is_here_d other. moved.states i d is_here_d ∙ ap (λ (b : Bool). if b then AskedOnce else h.state d) other;
        turned = subst (λ (p : Place). TurnsBy (turn_at first p (place_of (ask reason false first w.control) first)) h k) (sym w.there)
            (subst (λ (p : Place). TurnsBy (turn_at first (At Active) p) h k) (sym place_is)
            (record { turns = moved.turns ∙ ap (λ (x : EndState). h.turns ++ (if is_state x AskedOnce then [] else (first, AskedOnce) ∷ [])) w.state; sealed = moved.sealed }));
        joined = moved.joined;
        heard = heard;
      };
    }
      where
        place_is : place_of (ask reason false first w.control) first ≡ At AskedOnce
        place_is =
            ap (λ (b : Bool). place_of (if b then happens (Asked reason false) first w.control else w.control) first) (ap is_here w.there)
            ∙ now_at w.control (Asked reason false) first Active w.there within first (end_self first)

        same_lists : (i : ℕ) → k.ends i ≡ m.ends i
        same_lists i = ends_same o first m k false (turned_stays o first m k sealed) i

        here : has_end first (k.ends o) ≡ true
        here = ap (has_end first) (sealed.now.ends ∙ set.now.ends) ∙ w.has

        moved : ToldAs TermAndSeal first AskedOnce h k
        moved = told_as TermAndSeal first AskedOnce h m k turns same_lists (record { states = seals.states; turns = seals.turns; sealed = seals.sealed; joined = seals.joined })

        term : Command (Load N O I)
        term = letter_for (owner_at mid.pairs (other_end first)) (PipeTerm (other_end first)) None

        is : t ≡ sent_to slot term mid
        is = sent (ap tells commands_are) ∙ ap (λ (x : EndCommands). sent_to slot (letter_for (owner_at mid.pairs (other_end first)) (told_word x (other_end first)) None) mid) commands_are

        boxes_now : t.boxes ≡ with_mail slot (with_sent term (mail_at s.boxes slot)) s.boxes
        boxes_now = ap (λ (x : State (Load N O I)). x.boxes) is ∙ ap (λ (b : List (Mail (Command (Load N O I)))). with_mail slot (with_sent term (mail_at b slot)) b) boxes
