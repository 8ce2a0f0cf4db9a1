-- That the pair of an accepted session is made.
use Rattle.std.specs.Prelude.{◌≡◌, ◌<◌, ◌≤◌, ◌+◌, ◌==◌, ◌++◌, ◌∷◌, [], ℕ, Bool, true, false, cond, List, Option, Some, length, refl}
use Rattle.std.proofs.Common.{arith, sym, ap, ◌∙◌, subst, inl, inr}
use Rattle.std.proofs.lemmas.Bool.{cases_eq, eq-eqb, ne_eqb}
use Rattle.std.proofs.lemmas.List.{length-set, length_push}
use Rattle.zq_base.specs.Ends.{other_end}
use Rattle.zq_base.specs.declared.attached.Attached.{Attached}
use Rattle.zq_base.specs.declared.ids.EndId.{EndId}
use Rattle.mailbox.specs.Mail.{Mail}
use Rattle.spec_control.specs.declared.end.EndState.{EndState}
use Rattle.spec_control.specs.declared.letter.Letter.{Letter}
use Rattle.spec_control.specs.declared.letter.Word.{Word}
use Rattle.spec_control.specs.declared.letter.Word.TheVariants.{PipeBind}
use Rattle.spec_control.specs.Place.{Place, is_unmade}
use Rattle.spec_control.specs.PairPhase.{Opens as IsOpened}
use Rattle.spec_control.specs.Rows.{PairRow, end_place, no_pair, obj}
use Rattle.spec_control.specs.Control.{Control, attach, greet, id, is_end, open_pair, owner_of, place_of, with_value}
use Rattle.control_laws.specs.Room.{to_come}
use Rattle.control_laws.proofs.AskLemmas.{end_self}
use Rattle.control_laws.proofs.AttachLemmas.{any_last, attach_moved}
use Rattle.control_laws.proofs.ListLemmas.{never}
use Rattle.control_laws.proofs.MailLemmas.{value_here, value_else}
use Rattle.desk.specs.declared.halves.NamedHalves.{NamedHalves}
use Rattle.desk.specs.declared.load.Load.{Load}
use Rattle.desk.specs.declared.load.Load.TheVariants.{Halves}
use Rattle.desk.specs.Holding.{Holding}
use Rattle.desk.specs.Lent.{HasAll}
use Rattle.desk.specs.Load.{AreHalvesOf, BringsHalvesOf, Carries, brings_ends}
use Rattle.desk.specs.Turns.{TurnsBy, turn_at}
use Rattle.ctl_state.specs.declared.command.Command.{Command}
use Rattle.ctl_state.specs.declared.state.State.{State}
use Rattle.ctl_state.specs.Boxes.{mail_at}
use Rattle.ctl_state.specs.Listed.{without_room}
use Rattle.ctl_state.specs.Lists.{with_ends}
use Rattle.ctl_state.specs.Parts.{on_lists}
use Rattle.ctl_state.proofs.ReadLemmas.{placed_where}
use Rattle.ctl_moves.specs.declared.owners.Owners.{Owners}
use Rattle.ctl_moves.specs.Asking.{MayAskOne}
use Rattle.ctl_moves.specs.Opening.{MayOpen, Opens}
use Rattle.ctl_moves.specs.Room.{with_both, with_more, HavePlaces}
use Rattle.ctl_moves.specs.Shaking.{KeepsShakeRoom, MayOpenShaken, OpensShaken, shaken_now}
use Rattle.ctl_moves.specs.Turning.{IsLoaded, Leads, PutsLoaded, turn_of}
use Rattle.ctl_moves.proofs.CapacityLemmas.{mail_length}
use Rattle.ctl_moves.proofs.FindLemmas.{loaded_capacity}
use Rattle.ctl_moves.proofs.HeldLemmas.{other_twice}
use Rattle.ctl_moves.proofs.MailLemmas.{puts_on, puts_sent}
use Rattle.ctl_moves.proofs.OpeningLemmas.{opened_owner}
use Rattle.ctl_moves.proofs.RoomLemmas.{box_there, list_there, places_back, with_place}
use Rattle.ctl_moves.proofs.TurnedLemmas.{from_unmade}

-- ---- room
module _ {L : Type 0} where
  pub bound_there : (s : State L) (o : Owners) → HavePlaces s o → HavePlaces (with_both 0 1 o s) o
  bound_there s o there = record {
    first_box = box_there (with_more o.first_slot.0 0 s) o.last_slot.0 1 o.first_slot.0 (box_there s o.first_slot.0 0 o.first_slot.0 there.first_box);
    last_box = box_there (with_more o.first_slot.0 0 s) o.last_slot.0 1 o.last_slot.0 (box_there s o.first_slot.0 0 o.last_slot.0 there.last_box);
    first_list = there.first_list;
    last_list = there.last_list;
  }

  pub shaken_left : (o : Owners) (s mid last : State L) (w : KeepsShakeRoom s o) → mid ≡ on_lists (with_ends (without_room 1) o.last.0) s → last ≡ on_lists (with_ends (without_room 1) o.first.0) mid → last ≡ with_both 0 1 o w.before
  shaken_left o s mid last w first second =
      places_back (with_both 0 1 o w.before) mid mid last o.first.0 w.places.first_list
      (places_back (with_place o.first.0 (with_both 0 1 o w.before)) s s mid o.last.0 (list_there (with_both 0 1 o w.before) o.first.0 o.last.0 w.places.last_list) w.is refl first) refl second

-- a mailbox that gets one letter more
letters_more : (k m : ℕ) (boxes : ℕ → List Letter) (l : Letter) → length (with_value k (boxes k ++ l ∷ []) boxes m) ≡ length (boxes m) + cond (k == m) 1 0
letters_more k m boxes l =
    elim (cases_eq m k) [
      | inl same ↦
          let on = ap {B = ℕ} (λ (b : Bool). cond b 1 0) (eq-eqb k m (sym same)) in
          let here = ap (λ (n : ℕ). length (with_value k (boxes k ++ l ∷ []) boxes n)) same ∙ ap (λ (ls : List Letter). length ls) (value_here k (boxes k ++ l ∷ []) boxes) in
          let one = length_push (boxes k) l in
          let was = ap (λ (n : ℕ). length (boxes n)) same in
          omega (arith, on, here, one, was)
      | inr other ↦
          let off = ap {B = ℕ} (λ (b : Bool). cond b 1 0) (ne_eqb k m (λ e. other (sym e))) in
          let there = ap (λ (ls : List Letter). length ls) (value_else k m (boxes k ++ l ∷ []) boxes other) in
          omega (arith, off, there)
    ]

-- a pair of which an end is not made has a number
pub unmade_within : (c : Control) (e : EndId) → is_unmade (place_of c e) ≡ true → e.pair.0 < length c.rows.pairs
unmade_within c e unmade = placed_where (λ (p : PairRow). is_unmade (end_place p e.a)) c.rows.pairs e.pair.0 no_pair (λ same. never (sym (gone e.a) ∙ sym same ∙ unmade))
  where
    gone : (a : Bool) → is_unmade (end_place no_pair a) ≡ false
    gone true = refl
    gone false = refl

-- ---- the pair is made
module _ {N O I : Type 0} (out_name : O → N) (in_name : I → N) (s : State (Load N O I)) (h : Holding N) (first : EndId) (other : NamedHalves N O I) (w : MayOpenShaken out_name in_name s h first other) where
  abbrev pub slot : ℕ
  slot = (obj w.control.rows (owner_of w.control (other_end first))).slot

  pub within : first.pair.0 < length w.control.rows.pairs
  within = unmade_within w.control first (ap is_unmade w.mine)

  abbrev pub opens_first : MayOpen s first
  opens_first = record {
    control = w.control;
    stands = w.stands;
    mine = w.mine;
    theirs = w.theirs;
    lives = w.lives;
    other_lives = w.other_lives;
    few_objects = w.few_objects;
    few_pairs = w.few_pairs;
    place = w.place;
    room = (let all = w.room slot in let one = ap {B = ℕ} (λ (b : Bool). cond b 1 0) (eq-eqb slot slot refl) in omega (arith, all, one));
  }

  module _ (identity : List ℕ) (mid : State (Load N O I)) (opened : Opens w.control first (PipeBind (other_end first) identity) (Some (Halves other)) s mid) where
    abbrev pub now : Control
    now = open_pair first (PipeBind (other_end first) identity) w.control

    halves_of : (names : EndId → Option N) → names (other_end first) ≡ Some other.written → names first ≡ Some other.read → AreHalvesOf out_name in_name names (other_end first) other
    halves_of names written read = record { out = w.halves.out; input = w.halves.input; written = written; read = ap names (other_twice first) ∙ read }

    is_loaded : (names : EndId → Option N) → names (other_end first) ≡ Some other.written → names first ≡ Some other.read → IsLoaded out_name in_name names opened.puts.command
    is_loaded names written read = record {
      carries =
          subst (λ (x : Word). Carries out_name in_name names x opened.puts.command.load) (sym opened.puts.word_is)
          (subst (λ (l : Option (Load N O I)). BringsHalvesOf out_name in_name names (other_end first) l) (sym opened.puts.load_is) (halves_of names written read));
      no_ends = ap brings_ends opened.puts.word_is;
    }

    puts_bind : (names : EndId → Option N) → names (other_end first) ≡ Some other.written → names first ≡ Some other.read → PutsLoaded out_name in_name names s.boxes mid.boxes
    puts_bind names written read =
        let p = opened.puts in
        subst (λ (b : List (Mail (Command (Load N O I)))). PutsLoaded out_name in_name names s.boxes b) (sym p.is)
        (puts_sent out_name in_name names s.boxes p.place p.command (is_loaded names written read) p.room)

    -- the mailboxes have room for what may still come
    pub asks_room : (m : ℕ) → to_come (attach IsOpened first w.control) m ≤ (mail_at mid.boxes m).spare
    asks_room m =
        let same = loaded_capacity out_name in_name w.names s.boxes mid.boxes (puts_bind w.names w.written w.read) m in
        let after = mail_length mid now opened.stands m in
        let before = mail_length s w.control w.stands m in
        let more = letters_more (obj w.control.rows (owner_of (attach IsOpened first w.control) (other_end first))).slot m w.control.boxes letter in
        let slots = ap {B = ℕ} (λ (n : ℕ). cond ((obj w.control.rows n).slot == m) 1 0) (opened_owner w.control first (other_end first)) in
        let most = w.room m in
        omega (arith, same, after, before, more, slots, most)
      where
        letter : Letter
        letter = record { to = id (owner_of (attach IsOpened first w.control) (other_end first)); word = PipeBind (other_end first) identity }

    abbrev pub asks_first : (names : EndId → Option N) → HasAll names (attach IsOpened first w.control) h → MayAskOne mid h first
    asks_first names has = record {
      control = now;
      names = names;
      stands = opened.stands;
      has = has;
      lent = ap h.holds (opened_owner w.control first first) ∙ w.lent;
      within = subst (λ (n : ℕ). first.pair.0 < n) (sym (length-set w.control.rows.pairs first.pair.0 _)) within;
      listed = any_last (is_end first) w.control.attached first (end_self first);
      room = asks_room;
    }

    module _ (answer : Attached) (t : State (Load N O I)) (k : Holding N)
        (leads : (a : MayAskOne mid h first) → Leads out_name in_name a.names (turn_of first a.control (greet answer first a.control)) (greet answer first a.control) mid t h k) where
      led : (names : EndId → Option N) → HasAll names (attach IsOpened first w.control) h → Leads out_name in_name names (turn_of first now (greet answer first now)) (greet answer first now) mid t h k
      led names has = leads (asks_first names has)

      pub opens_shaken : OpensShaken out_name in_name w.control first identity answer other s t h k
      opens_shaken =
          let l = led w.names w.has in
          record {
            stands = l.stands;
            has = λ names has written read. (led names has).has;
            puts = λ names has written read. puts_on out_name in_name names s.boxes mid.boxes t.boxes (puts_bind names written read) (led names has).puts;
            lists = l.lists ∙ opened.lists;
            turned = subst (λ (ts : List (EndId × EndState)). TurnsBy ts h k)
                (ap (λ (p : Place). turn_at first p last) (attach_moved w.control IsOpened first within).here ∙ sym (from_unmade first last)) l.turned;
            joined = l.joined;
            heard = l.heard;
            holds = l.holds;
            kinds = l.kinds;
            output = l.output;
          }
        where
          last : Place
          last = place_of (shaken_now w.control first identity answer) first
