-- That a pair is made with its first end's holder.
use Rattle.std.specs.Prelude.{◌≡◌, ◌<◌, ◌≤◌, ◌+◌, ℕ, Bool, true, false, List, Option, Some, length, refl}
use Rattle.std.proofs.Common.{arith, sym, ap, ◌∙◌, subst}
use Rattle.zq_base.specs.Ends.{other_end}
use Rattle.zq_base.specs.declared.ids.EndId.{EndId}
use Rattle.mailbox.specs.Mail.{Mail}
use Rattle.spec_control.specs.declared.letter.Word.{Word}
use Rattle.zq_base.specs.declared.endpoint.Address.{Address}
use Rattle.spec_control.specs.declared.letter.Word.TheVariants.{PipeBind, Plug}
use Rattle.spec_control.specs.declared.end.EndState.{EndState}
use Rattle.spec_control.specs.Place.{Place, is_unmade}
use Rattle.spec_control.specs.PairPhase.{Opens as IsOpened}
use Rattle.spec_control.specs.Stage.{was_asked}
use Rattle.spec_control.specs.Rows.{PairRow, no_pair, obj, end_place}
use Rattle.spec_control.specs.Control.{Control, greet, open_pair, owner_of, place_of}
use Rattle.zq_base.specs.declared.attached.Attached.{Attached}
use Rattle.control_laws.proofs.ListLemmas.{never}
use Rattle.control_laws.proofs.AttachLemmas.{attach_moved}
use Rattle.control_laws.proofs.JoinLemmas.{unasked_lives}
use Rattle.desk.specs.declared.halves.NamedHalves.{NamedHalves}
use Rattle.desk.specs.declared.load.Load.{Load}
use Rattle.desk.specs.declared.load.Load.TheVariants.{Halves, Plug as IsPlug}
use Rattle.desk.specs.Holding.{Holding}
use Rattle.desk.specs.Turns.{TurnsBy, turn_at}
use Rattle.desk.specs.Load.{AreHalvesOf, BringsHalvesOf, BringsPlugOf, Carries, brings_ends}
use Rattle.ctl_moves.specs.Turning.{IsLoaded, PutsLoaded}
use Rattle.ctl_moves.proofs.HeldLemmas.{other_twice}
use Rattle.ctl_moves.proofs.TurnedLemmas.{from_unmade}
use Rattle.ctl_moves.proofs.MailLemmas.{puts_on, puts_sent}
use Rattle.ctl_state.specs.declared.command.Command.{Command}
use Rattle.ctl_state.specs.declared.state.State.{State}
use Rattle.ctl_state.specs.Boxes.{mail_at}
use Rattle.ctl_state.proofs.ReadLemmas.{placed_where}
use Rattle.ctl_moves.specs.Opening.{MayOpen, Opens}
use Rattle.ctl_moves.specs.Greeting.{Asks, MayGreet}
use Rattle.ctl_moves.specs.Joining.{JoinsPair, MayJoin}
use Rattle.ctl_moves.proofs.OpeningLemmas.{opened_owner}
use Rattle.ctl_moves.proofs.GreetingLemmas.{sent_spare}

module _ {N O I : Type 0} (out_name : O → N) (in_name : I → N) (s : State (Load N O I)) (h : Holding N) (o : ℕ) (first : EndId) (other : NamedHalves N O I) (w : MayJoin out_name in_name s h o first other) where
  abbrev pub may_open : MayOpen s first
  may_open = record {
    control = w.control;
    stands = w.stands;
    mine = w.mine;
    theirs = w.theirs;
    lives = unasked_lives (obj w.control.rows (owner_of w.control first)).stage w.unasked;
    other_lives = w.other_lives;
    few_objects = w.few_objects;
    few_pairs = w.few_pairs;
    place = w.place;
    room = (let two = w.room in omega (arith, two));
  }

  pub within : first.pair.0 < length w.control.rows.pairs
  within = placed_where (λ (p : PairRow). is_unmade (end_place p first.a)) w.control.rows.pairs first.pair.0 no_pair (λ e. never (sym (gone first.a) ∙ sym e ∙ ap is_unmade w.mine))
    where
      gone : (a : Bool) → is_unmade (end_place no_pair a) ≡ false
      gone true = refl
      gone false = refl

  -- the bind carries the halves
  abbrev AreLoaded : Word → Option (Load N O I) → Type 0
  AreLoaded bind load = (names : EndId → Option N) → names (other_end first) ≡ Some other.written → names first ≡ Some other.read → (command : Command (Load N O I)) → command.letter.word ≡ bind → command.load ≡ load → IsLoaded out_name in_name names command

  halves_of : (names : EndId → Option N) → names (other_end first) ≡ Some other.written → names first ≡ Some other.read → AreHalvesOf out_name in_name names (other_end first) other
  halves_of names written read = record { out = w.halves.out; input = w.halves.input; written = written; read = ap names (other_twice first) ∙ read }

  pub bind_loaded : (identity : List ℕ) → AreLoaded (PipeBind (other_end first) identity) (Some (Halves other))
  bind_loaded identity names written read command word load = record {
    carries =
        subst (λ (x : Word). Carries out_name in_name names x command.load) (sym word)
        (subst (λ (l : Option (Load N O I)). BringsHalvesOf out_name in_name names (other_end first) l) (sym load) (halves_of names written read));
    no_ends = ap brings_ends word;
  }

  -- and so does a Plug
  pub plug_loaded : (at : Address) → AreLoaded (Plug (Some (other_end first))) (Some (IsPlug at (Some other)))
  plug_loaded at names written read command word load = record {
    carries =
        subst (λ (x : Word). Carries out_name in_name names x command.load) (sym word)
        (subst (λ (l : Option (Load N O I)). BringsPlugOf out_name in_name names (Some (other_end first)) l) (sym load) (halves_of names written read));
    no_ends = ap brings_ends word;
  }

  module _ (mid : State (Load N O I)) (bind : Word) (load : Option (Load N O I)) (are_loaded : AreLoaded bind load) (opened : Opens w.control first bind load s mid) where
    abbrev now : Control
    now = open_pair first bind w.control

    puts_bind : (names : EndId → Option N) → names (other_end first) ≡ Some other.written → names first ≡ Some other.read → PutsLoaded out_name in_name names s.boxes mid.boxes
    puts_bind names written read =
        let p = opened.puts in
        subst (λ (b : List (Mail (Command (Load N O I)))). PutsLoaded out_name in_name names s.boxes b) (sym p.is)
        (puts_sent out_name in_name names s.boxes p.place p.command (are_loaded names written read p.command p.word_is p.load_is) p.room)

    pub spare_bind : (m : ℕ) → (mail_at s.boxes m).spare ≤ (mail_at mid.boxes m).spare + 1
    spare_bind m =
        let p = opened.puts in
        subst (λ (b : List (Mail (Command (Load N O I)))). (mail_at s.boxes m).spare ≤ (mail_at b m).spare + 1) (sym p.is) (sent_spare s.boxes p.place p.command p.room m)

    abbrev pub may_greet : MayGreet mid h o first
    may_greet = record {
      control = now;
      stands = opened.stands;
      there = (attach_moved w.control IsOpened first within).here;
      unasked = ap (λ (n : ℕ). was_asked (obj w.control.rows n).stage) (opened_owner w.control first first) ∙ w.unasked;
      unstruck = w.unstruck;
      has = w.has;
      writes = w.writes;
      state = w.state;
      room =
          subst (λ (n : ℕ). 0 < (mail_at mid.boxes (obj w.control.rows n).slot).spare) (sym (opened_owner w.control first (other_end first)))
          (let one = spare_bind (obj w.control.rows (owner_of w.control (other_end first))).slot in let two = w.room in omega (arith, one, two));
    }

    pub joins_pair : (answer : Attached) (t : State (Load N O I)) (k : Holding N) →
        Asks out_name in_name (open_pair first bind w.control) (greet answer first (open_pair first bind w.control)) o first mid t h k →
        JoinsPair out_name in_name w.control (greet answer first (open_pair first bind w.control)) o first other s t h k
    joins_pair answer t k asks = record {
      stands = asks.stands;
      stays = asks.stays;
      puts = λ names written read. puts_on out_name in_name names s.boxes mid.boxes t.boxes (puts_bind names written read) (asks.puts names);
      spare = λ m. (let one = spare_bind m in let more = asks.spare m in omega (arith, one, more));
      lists = asks.lists ∙ opened.lists;
      moves = record {
        mine = asks.moves.mine;
        others = asks.moves.others;
        turned = subst (λ (ts : List (EndId × EndState)). TurnsBy ts h k)
            (ap (λ (p : Place). turn_at first p last) may_greet.there ∙ sym (from_unmade first last) ∙ sym (ap (λ (p : Place). turn_at first p last) w.mine)) asks.moves.turned;
        joined = asks.moves.joined;
        heard = asks.moves.heard;
      };
    }
      where
        last : Place
        last = place_of (greet answer first (open_pair first bind w.control)) first
