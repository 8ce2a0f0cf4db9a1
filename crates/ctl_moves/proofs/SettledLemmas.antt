-- An acknowledgement that comes to an end of an object: what it needs, and what it does.
use Rattle.std.specs.Prelude.{◌≡◌, ◌≢◌, ◌<◌, ◌≤◌, ◌+◌, ◌&&◌, ◌==◌, ℕ, Bool, true, false, cond, List, [], Option, Some, None, All, map, not, length, slice_index_or, sum_by, refl}
use Rattle.std.specs.List.{list_any}
use Rattle.std.proofs.Common.{arith, sym, ap, ◌∙◌, subst}
use Rattle.std.proofs.lemmas.Bool.{eq-eqb, eqb-true}
use Rattle.std.proofs.lemmas.List.Sums.{get_or-le-sum_by}
use Rattle.std.proofs.lemmas.List.Elements.{All-nil}
use Rattle.zq_base.specs.Ends.{other_end}
use Rattle.zq_base.specs.declared.ids.EndId.{EndId}
use Rattle.zq_base.specs.declared.ids.ObjId.{ObjId}
use Rattle.zq_base.specs.declared.ids.Settled.{Settled}
use Rattle.spec_control.specs.declared.end.EndEvent.TheVariants.{AckCame}
use Rattle.spec_control.specs.declared.entry.Answered.{Answered}
use Rattle.spec_control.specs.declared.entry.Joining.{Joining}
use Rattle.spec_control.specs.declared.letter.Word.{Word}
use Rattle.spec_control.specs.declared.letter.Word.TheVariants.{PipeTermAck}
use Rattle.spec_control.specs.Place.{is_here, to_put}
use Rattle.spec_control.specs.PairPhase.{Happens, may}
use Rattle.spec_control.specs.Row.{Row, nobody, is_unowned}
use Rattle.spec_control.specs.Rows.{may_end, no_pair, obj, pair, end_half, end_owner, end_place}
use Rattle.spec_control.specs.Stage.{has_ended, is_unused}
use Rattle.spec_control.specs.Control.{Control, commands_in, happens, is_end, owner_of, place_of, try_end}
use Rattle.spec_control.specs.After.{answers_in, processed, settle, owner_or_root}
use Rattle.spec_control.specs.ControlRun.{Joins, MayAnswerAll, Settles}
use Rattle.control_laws.specs.Kept.{Kept}
use Rattle.control_laws.proofs.RowLemmas.{pair_there}
use Rattle.control_laws.proofs.HearLemmas.{end_moved}
use Rattle.control_laws.proofs.MetLemmas.{meets_cell}
use Rattle.control_laws.specs.Room.{pair_to_come, row_to_come, up_to_come, for_slot, slots_of, to_come}
use Rattle.control_laws.proofs.RowRoomLemmas.{place_falls}
use Rattle.desk.specs.declared.load.Load.{Load}
use Rattle.desk.specs.declared.load.Load.TheVariants.{Halves, Plug, Writer, Ends}
use Rattle.desk.specs.Holding.{Holding, IsTold, read_in}
use Rattle.desk.specs.Lent.{HasAll}
use Rattle.desk.specs.Output.{has_left}
use Rattle.ctl_moves.proofs.OnceLemmas.{told_kept, told_one}
use Rattle.control_laws.proofs.GoLemmas.{try_end_goes}
use Rattle.ctl_moves.proofs.BetweenLemmas.{goes_between, happens_between, stay_on}
use Rattle.ctl_moves.proofs.KeepLemmas.{ended_now, told_kept as one_kept}
use Rattle.desk.specs.Load.{BringsWriterTo, IsNamed}
use Rattle.ctl_state.specs.declared.state.State.{State}
use Rattle.ctl_state.specs.Boxes.{mail_at}
use Rattle.ctl_state.specs.Parts.{Tells}
use Rattle.ctl_state.specs.Stands.{Stands, HasRoomForAck, tells}
use Rattle.ctl_state.specs.Objects.{kept_row}
use Rattle.ctl_moves.specs.Settling.{SettlesEnd}
use Rattle.ctl_moves.proofs.MailLemmas.{puts_on}
use Rattle.ctl_moves.proofs.HeldLemmas.{has_here, read_is}
use Rattle.ctl_moves.proofs.TurnLemmas.{comes_here}
use Rattle.ctl_moves.specs.Processing.{HasDone, IsAcknowledged, Acknowledges, HasCounts, IsProcessed, BringsWriter}
use Rattle.control_laws.proofs.StayLemmas.{ends_on, tried}
use Rattle.ctl_moves.proofs.HearLemmas.{same_places}
use Rattle.ctl_moves.proofs.HolderLemmas.{has_same, has_told, bare_loaded}
use Rattle.ctl_moves.proofs.FindLemmas.{finds_at, end_of_no_root}
use Rattle.ctl_moves.proofs.PutLemmas.{room_for, told_is_put}

module _ {L : Type 0} where
  -- the settlements are not kept
  pub settled_aside : (s : State L) (c : Control) (e : EndId) (counts : Settled) → Stands s c → Stands s (settle e (Some counts) c)
  settled_aside s c e counts h = record {
    objects = h.objects;
    pairs = h.pairs;
    counted = h.counted;
    sent = h.sent;
    lists = h.lists;
    boxes = h.boxes;
    slots = h.slots;
    workers = h.workers;
    names = h.names;
  }

-- ---- room for both acknowledgements
module _ (c : Control) (e : EndId) (within : e.pair.0 < length c.rows.pairs) (i : ℕ) (there : i < length c.rows.objects) (lives : has_ended (obj c.rows i).stage ≡ false) (w : ℕ) (of : (obj c.rows i).owner ≡ Some w) where
  rows_part : 1 ≤ sum_by (row_to_come (slots_of c.rows) (obj c.rows w).slot) c.rows.objects
  rows_part =
      let o = obj c.rows i in
      let mine = ap (λ (x : Option ℕ). for_slot (slots_of c.rows) (obj c.rows w).slot (owner_or_root x) (up_to_come o)) of in
      let here = ap {B = ℕ} (λ (b : Bool). cond b (up_to_come o) 0) (eq-eqb (obj c.rows w).slot (obj c.rows w).slot refl) in
      let one = get_or-le-sum_by (row_to_come (slots_of c.rows) (obj c.rows w).slot) c.rows.objects i nobody there in
      let ended = ap {B = ℕ} (λ (b : Bool). cond b 0 (cond (is_unused o.request) 1 0 + cond (is_unowned o.owner) 0 1)) lives in
      let owned = ap {B = ℕ} (λ (x : Option ℕ). cond (is_unowned x) 0 1) of in
      omega (arith, mine, here, one, ended, owned)

  pairs_part : (m : ℕ) → (obj c.rows (owner_of c (other_end e))).slot ≡ m → to_put (place_of c e) ≤ sum_by (pair_to_come (slots_of c.rows) m) c.rows.pairs
  pairs_part m is = by e.a refl
    where
      part : pair_to_come (slots_of c.rows) m (pair c.rows e.pair.0) ≤ sum_by (pair_to_come (slots_of c.rows) m) c.rows.pairs
      part = get_or-le-sum_by (pair_to_come (slots_of c.rows) m) c.rows.pairs e.pair.0 no_pair within

      by : (a : Bool) → e.a ≡ a → to_put (place_of c e) ≤ sum_by (pair_to_come (slots_of c.rows) m) c.rows.pairs
      by true side =
          let mine = ap (λ (b : Bool). to_put (end_place (pair c.rows e.pair.0) b)) side in
          let slot = sym (ap (λ (b : Bool). (obj c.rows (end_owner (pair c.rows e.pair.0) (not b))).slot) side) ∙ is in
          let on = ap {B = ℕ} (λ (b : Bool). cond b (to_put (pair c.rows e.pair.0).a) 0) (eq-eqb (obj c.rows (pair c.rows e.pair.0).b_owner).slot m slot) in
          let all = part in
          omega (arith, mine, on, all)
      by false side =
          let mine = ap (λ (b : Bool). to_put (end_place (pair c.rows e.pair.0) b)) side in
          let slot = sym (ap (λ (b : Bool). (obj c.rows (end_owner (pair c.rows e.pair.0) (not b))).slot) side) ∙ is in
          let on = ap {B = ℕ} (λ (b : Bool). cond b (to_put (pair c.rows e.pair.0).b) 0) (eq-eqb (obj c.rows (pair c.rows e.pair.0).a_owner).slot m slot) in
          let all = part in
          omega (arith, mine, on, all)

  pub both_acks : {L : Type 0} (s : State L) → ((m : ℕ) → to_come c m ≤ (mail_at s.boxes m).spare) →
      cond (tells (commands_in AckCame (place_of c e)) && (obj c.rows (owner_of c (other_end e))).slot == (obj c.rows w).slot) 1 0 < (mail_at s.boxes (obj c.rows w).slot).spare
  both_acks s room = by (tells (commands_in AckCame (place_of c e))) refl ((obj c.rows (owner_of c (other_end e))).slot == (obj c.rows w).slot) refl
    where
      most : to_come c (obj c.rows w).slot ≤ (mail_at s.boxes (obj c.rows w).slot).spare
      most = room (obj c.rows w).slot

      by : (x : Bool) → tells (commands_in AckCame (place_of c e)) ≡ x → (y : Bool) → ((obj c.rows (owner_of c (other_end e))).slot == (obj c.rows w).slot) ≡ y → cond (x && y) 1 0 < (mail_at s.boxes (obj c.rows w).slot).spare
      by true told true same =
          let rows = rows_part in
          let pairs = pairs_part (obj c.rows w).slot (eqb-true (obj c.rows (owner_of c (other_end e))).slot (obj c.rows w).slot same) in
          let falls = place_falls AckCame (place_of c e) in
          let one = told_is_put c e within (commands_in AckCame (place_of c e)) told in
          let all = most in
          omega (arith, rows, pairs, falls, one, all)
      by true told false other = let rows = rows_part in let all = most in omega (arith, rows, all)
      by false told y same = let rows = rows_part in let all = most in omega (arith, rows, all)

-- ---- what an acknowledgement needs
module _ {N O I : Type 0} (out_name : O → N) (in_name : I → N) (c : Control) (kept : Kept c) (names : EndId → Option N) (s : State (Load N O I)) (h : Holding N) (at : ℕ) (e : EndId) where
  with_half : (load : Option (Load N O I)) → BringsWriterTo out_name in_name names e load → ((half : O) → load ≡ Some (Writer half) → names (other_end e) ≡ Some (out_name half) → IsAcknowledged out_name in_name names c s h at e load) →
      IsAcknowledged out_name in_name names c s h at e load
  with_half (Some (Halves x)) brings of = absurd brings
  with_half (Some (Plug address halves)) brings of = absurd brings
  with_half (Some (Writer half)) brings of = of half refl brings
  with_half (Some (Ends p)) brings of = absurd brings
  with_half None brings of = absurd brings

  pub acknowledged_at : (load : Option (Load N O I)) → BringsWriterTo out_name in_name names e load → may (Happens AckCame) (end_half (pair c.rows e.pair.0) e.a) (end_half (pair c.rows e.pair.0) (not e.a)) ≡ true → owner_of c e ≡ at →
      at < length c.rows.objects → has_ended (obj c.rows at).stage ≡ false → (at ≢ 0 → h.holds at ≡ true) → ((m : ℕ) → to_come c m ≤ (mail_at s.boxes m).spare) →
      IsAcknowledged out_name in_name names c s h at e load
  acknowledged_at load brings may_it owner there lives lent room = with_half load brings of
    where
      of : (half : O) → load ≡ Some (Writer half) → names (other_end e) ≡ Some (out_name half) → IsAcknowledged out_name in_name names c s h at e load
      of half is named =
          let found = finds_at AckCame (place_of c e) (meets_cell c kept e (Happens AckCame) may_it) in
          let here = ap is_here found.is ∙ comes_here AckCame found.state found.may_come in
          let within = pair_there c.rows e.pair.0 e.a (Happens AckCame) may_it in
          record {
            half = half;
            brings = is;
            owner = owner;
            settles = record {
              lent = ap h.holds owner ∙ lent (λ z. end_of_no_root c kept e here (owner ∙ z));
              within = within;
              listed = kept.listed e.pair.0 e.a here;
              state = found.state;
              there = found.is;
              may_come = found.may_come;
              unended = ap (λ (n : ℕ). has_ended (obj c.rows n).stage) owner ∙ lives;
              pipe = named;
              room = room_for c e within s AckCame room;
            };
            ack_room = λ w of_w. both_acks c e within at there lives w of_w s room;
          }

-- ---- what it does
module _ {N O I : Type 0} (out_name : O → N) (in_name : I → N) where
  pub writer_brought : (load : Option (Load N O I)) (half : O) → load ≡ Some (Writer half) → BringsWriter load
  writer_brought load half is = subst (λ (l : Option (Load N O I)). BringsWriter l) (sym is) tt

  pub same_half : (load : Option (Load N O I)) (a b : O) → load ≡ Some (Writer a) → load ≡ Some (Writer b) → a ≡ b
  same_half load a b is_a is_b = one (sym is_a ∙ is_b)
    where
      one : {a b : O} → ◌≡◌ {A = Option (Load N O I)} (Some (Writer a)) (Some (Writer b)) → a ≡ b
      one e = Prim.grind arith

  -- the end reads the pipe whose writing half comes
  pub reads_half : (names : EndId → Option N) (c : Control) (s : State (Load N O I)) (h : Holding N) (at : ℕ) (e : EndId) (load : Option (Load N O I)) → HasAll names c h → (is : IsAcknowledged out_name in_name names c s h at e load) →
      read_in (h.ends at) e ≡ Some (out_name is.half)
  reads_half names c s h at e load has is =
      let mine = has (owner_of c e) is.settles.lent in
      ap (λ (n : ℕ). read_in (h.ends n) e) (sym is.owner)
      ∙ read_is names e (h.ends (owner_of c e)) (out_name is.half) mine.named
      (has_here names c.rows.pairs c.attached c.reasons h (owner_of c e) mine e refl (ap is_here is.settles.there ∙ comes_here AckCame is.settles.state is.settles.may_come) is.settles.listed) is.settles.pipe

  -- a word is the acknowledgement of one end alone
  pub one_acked : (word : Word) (d e : EndId) → word ≡ PipeTermAck d → word ≡ PipeTermAck e → d ≡ e
  one_acked word d e at_d at_e = one (sym at_d ∙ at_e)
    where
      one : {d e : EndId} → ◌≡◌ {A = Word} (PipeTermAck d) (PipeTermAck e) → d ≡ e
      one f = Prim.grind arith

  pub acknowledges : (names : EndId → Option N) (c : Control) (at : ObjId) (e : EndId) (counts : Settled) (s mid t : State (Load N O I)) (h m k : Holding N) → SettlesEnd out_name in_name names c e counts s mid h m →
      Stands t (try_end at.0 (has_left c at.0 h) (settle e (Some counts) (happens AckCame e c))) → Tells mid t → (m.holds at.0 ≡ true) → IsTold at.0 m k → (at.0 ≡ 0 → k ≡ m) → e.pair.0 < length c.rows.pairs → list_any (is_end e) c.attached ≡ true →
      (ended : Bool) → (ended ≡ false → k.holds at.0 ≡ m.holds at.0) → has_ended (obj c.rows at.0).stage ≡ false → (ended ≡ true → (not (has_left c at.0 h) && may_end (happens AckCame e c).rows at.0) ≡ true) → Acknowledges out_name in_name names c at.0 e counts s t h k
  acknowledges names c at e counts s mid t h m k done stands tells_them lent told root within listed ended kept lives gone = record {
    led = record {
      stands = stands;
      has = has_told names (try_end at.0 (has_left c at.0 h) (settle e (Some counts) (happens AckCame e c))) m k at.0 lent told
          (has_same names (happens AckCame e c) (try_end at.0 (has_left c at.0 h) (settle e (Some counts) (happens AckCame e c))) m
          (ends_on (happens AckCame e c) (settle e (Some counts) (happens AckCame e c)) (try_end at.0 (has_left c at.0 h) (settle e (Some counts) (happens AckCame e c))) (record { pairs = refl; attached = refl; reasons = refl })
          (tried at.0 (has_left c at.0 h) (settle e (Some counts) (happens AckCame e c)))) done.leads.has);
      puts = puts_on out_name in_name names s.boxes mid.boxes t.boxes done.leads.puts (bare_loaded out_name in_name names mid.boxes t.boxes tells_them.bare);
      lists = tells_them.lists ∙ done.leads.lists;
    };
    settled = done.settled;
    turned = told_kept c (try_end at.0 (has_left c at.0 h) (settle e (Some counts) (happens AckCame e c))) h m k
        (told_one c (try_end at.0 (has_left c at.0 h) (settle e (Some counts) (happens AckCame e c))) AckCame e h m
        (ends_on (happens AckCame e c) (settle e (Some counts) (happens AckCame e c)) (try_end at.0 (has_left c at.0 h) (settle e (Some counts) (happens AckCame e c))) (record { pairs = refl; attached = refl; reasons = refl })
        (tried at.0 (has_left c at.0 h) (settle e (Some counts) (happens AckCame e c)))) within listed done.leads.turned) told.turns;
    joined = told.turns.joined ∙ done.leads.joined;
    objects = one_kept c (try_end at.0 (has_left c at.0 h) (settle e (Some counts) (happens AckCame e c))) at.0 ended h m k done.leads.holds done.leads.kinds told root (λ above. sym (done.leads.holds at.0) ∙ lent) kept lives (λ is. ended_now at.0 (has_left c at.0 h) (settle e (Some counts) (happens AckCame e c)) (gone is))
        (stay_on c.rows (happens AckCame e c).rows (try_end at.0 (has_left c at.0 h) (settle e (Some counts) (happens AckCame e c))).rows (happens_between AckCame e c)
        (goes_between [] (settle e (Some counts) (happens AckCame e c)) (try_end at.0 (has_left c at.0 h) (settle e (Some counts) (happens AckCame e c))) (try_end_goes at.0 (has_left c at.0 h) (settle e (Some counts) (happens AckCame e c))) refl));
  }

  -- the object lives still, and there is room for its own acknowledgement
  module _ (names : EndId → Option N) (c : Control) (s : State (Load N O I)) (h : Holding N) (at : ℕ) (e : EndId) (load : Option (Load N O I)) (is : IsAcknowledged out_name in_name names c s h at e load) where
    objects_same : (i : ℕ) → obj (happens AckCame e c).rows i ≡ obj c.rows i
    objects_same i = ap (λ (os : List Row). slice_index_or os i nobody) (end_moved c AckCame e is.settles.within).objects

    pub lives_then : has_ended (obj (happens AckCame e c).rows at).stage ≡ false
    lives_then = ap (λ (r : Row). has_ended r.stage) (objects_same at) ∙ ap (λ (n : ℕ). has_ended (obj c.rows n).stage) (sym is.owner) ∙ is.settles.unended

    pub ack_room_then : (mid : State (Load N O I)) (m : Holding N) (counts : Settled) → SettlesEnd out_name in_name names c e counts s mid h m → ((i : ℕ) → obj (happens AckCame e c).rows i ≡ kept_row mid.objects i) → HasRoomForAck mid at
    ack_room_then mid m counts done row w of =
        let owner : (obj c.rows at).owner ≡ Some w = ap (λ (r : Row). r.owner) (sym (objects_same at) ∙ row at) ∙ of in
        let slot : (obj c.rows w).slot ≡ (kept_row mid.objects w).slot = ap (λ (r : Row). r.slot) (sym (objects_same w) ∙ row w) in
        subst (λ (n : ℕ). 0 < (mail_at mid.boxes n).spare) slot
        (let most = is.ack_room w owner in let less = done.spare (obj c.rows w).slot in omega (arith, most, less))

  pub ack_processed : {S : Type 0} (s t : State (Load N O I)) (h k : Holding N) (names : EndId → Option N) (c : Control) (to : ObjId) (word : Word) (e : EndId) (counts : Settled) (a : Answered N S) → word ≡ PipeTermAck e → HasCounts counts (has_left c to.0 h) a →
      Acknowledges out_name in_name names c to.0 e counts s t h k → IsProcessed out_name in_name s t h k names c (record { to = to; word = word }) a
  ack_processed s t h k names c to word e counts a is has done = subst (λ (x : Word). IsProcessed out_name in_name s t h k names c (record { to = to; word = x }) a) (sym is) of
    where
      after_is : processed to.0 (PipeTermAck e) (answers_in a) c ≡ try_end to.0 (has_left c to.0 h) (settle e (Some counts) (happens AckCame e c))
      after_is =
          ap (λ (x : Option Settled). try_end to.0 a.output_left (settle e x (happens AckCame e c))) has.settled
          ∙ ap (λ (b : Bool). try_end to.0 b (settle e (Some counts) (happens AckCame e c))) has.output

      of : IsProcessed out_name in_name s t h k names c (record { to = to; word = PipeTermAck e }) a
      of = record {
        answers = record {
          joined = ap (λ (js : List (Joining N)). map (λ j. let x : Joins = record { end = j.end; peer = j.peer; met = j.met } in x) js) has.joined;
          kinds = subst (λ (js : List (Joining N)). MayAnswerAll (processed to.0 (PipeTermAck e) (answers_in a) c) js) (sym has.joined) tt;
          opened = has.opened;
          settled = subst (λ (x : Option Settled). Settles c (PipeTermAck e) x) (sym has.settled) done.settled;
          output = has.output;
          named = subst (λ (js : List (Joining N)). All (IsNamed out_name in_name names) js) (sym has.joined) (All-nil (IsNamed out_name in_name names));
        };
        led = subst (λ (d : Control). HasDone out_name in_name names d s t k) (sym after_is) (record { stands = done.led.stands; has = done.led.has; puts = done.led.puts });
        places = same_places out_name in_name names (PipeTermAck e) to.0 s t done.led.lists;
      }
