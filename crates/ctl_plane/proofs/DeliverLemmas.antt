-- That a delivery with a holder adds its event.
use Rattle.std.specs.Prelude.{◌≡◌, ◌≢◌, ◌<◌, ◌≤◌, ◌&&◌, ◌==◌, ◌-◌, ◌++◌, ◌∷◌, [], ℕ, Bool, true, false, List, Option, Some, None, All, map, flat_map, refl}
use Rattle.std.specs.List.{list_any}
use Rattle.std.proofs.Common.{arith, sym, ap, ◌∙◌, subst, inl, inr}
use Rattle.std.proofs.lemmas.Bool.{cases_eq}
use Rattle.std.proofs.lemmas.List.{append-nil, map-append}
use Rattle.std.proofs.lemmas.List.Concat.{flat_map-append}
use Rattle.std.proofs.lemmas.List.Elements.{All-head, All-tail, All-weaker, All-append}
use Rattle.zq_base.specs.Ends.{other_end}
use Rattle.zq_base.specs.declared.ids.EndId.{EndId}
use Rattle.zq_base.specs.declared.ids.ObjId.{ObjId}
use Rattle.zq_base.specs.declared.ids.SlotId.{SlotId}
use Rattle.mailbox.specs.Mail.{Mail}
use Rattle.spec_control.specs.declared.end.EndEvent.TheVariants.{TermCame, DelimiterSeen}
use Rattle.spec_control.specs.declared.entry.Answered.{Answered}
use Rattle.spec_control.specs.declared.entry.Did.{Did}
use Rattle.spec_control.specs.declared.entry.Did.TheVariants.{Delivered}
use Rattle.spec_control.specs.declared.entry.Item.{Item}
use Rattle.spec_control.specs.declared.entry.Joining.{Joining}
use Rattle.spec_control.specs.declared.entry.PipeName.{PipeName}
use Rattle.spec_control.specs.declared.letter.Letter.{Letter}
use Rattle.spec_control.specs.declared.letter.Word.{Word}
use Rattle.spec_control.specs.declared.letter.Word.TheVariants.{Own, Plug, TermReq, Term, TermAck, PipeBind, PipeTerm, PipeTermAck, Stop, Reap}
use Rattle.spec_control.specs.PairPhase.{BindCame, behind_first}
use Rattle.spec_control.specs.Names.{name_of, IsTold, FitsNames}
use Rattle.spec_control.specs.Row.{Row, nobody, TermComes}
use Rattle.spec_control.specs.Stage.{has_ended}
use Rattle.spec_control.specs.Control.{Control, next_object}
use Rattle.spec_control.specs.After.{after, without_front}
use Rattle.spec_control.specs.ControlRun.{Fits, IsAnswered, is_between}
use Rattle.spec_control.specs.Held.{Held}
use Rattle.spec_control.proofs.NamedLemmas.{later}
use Rattle.control_laws.proofs.ListLemmas.{never, placed}
use Rattle.control_laws.specs.Kept.{Kept}
use Rattle.control_laws.proofs.RootLemmas.{oldest_lives}
use Rattle.control_laws.proofs.GuardLemmas.{may_come}
use Rattle.control_laws.specs.Room.{to_come, move_room, slots_of}
use Rattle.desk.specs.declared.load.Load.{Load}
use Rattle.desk.specs.declared.given.Given.{Given}
use Rattle.desk.specs.Holding.{Holding, given_as}
use Rattle.desk.specs.TakingOver.{MayTakeFirst}
use Rattle.desk.specs.Lent.{HasBothNames, HasAll}
use Rattle.desk.specs.Output.{LeavesIn}
use Rattle.desk.specs.Load.{BringsWriterTo, Carries, IsNamed, ReapsAll, brings_ends, given_by}
use Rattle.desk.specs.declared.load.Load.TheVariants.{Writer}
use Rattle.ctl_state.specs.declared.command.Command.{Command}
use Rattle.ctl_state.specs.declared.state.State.{State}
use Rattle.ctl_state.specs.Boxes.{mail_at, Takes}
use Rattle.ctl_state.specs.Stands.{Updates}
use Rattle.ctl_moves.specs.Turning.{IsLoaded, PutsLoaded}
use Rattle.ctl_plane.specs.Past.{Past, as_item, items_of, control_of, with_event, IsHistory}
use Rattle.ctl_plane.specs.Carried.{given_in, BindsFit, IsCarried, AreCarried, IsPlane}
use Rattle.ctl_moves.specs.Processing.{is_plug, AreFree, HearsEnd, MayHear, IsProcessed}
use Rattle.desk.specs.Bringing.{BringsFirst}
use Rattle.ctl_plane.specs.Hearing.{AreOfKind, FitBinds, HasPlugged, IsServed, HasWhat}
use Rattle.ctl_moves.proofs.CapacityLemmas.{taken_capacity, taken_spare}
use Rattle.ctl_plane.proofs.EventLemmas.{MakesNothing, kept_past, control_more, one_foreseen, has_entry, objects_made, pairs_drawn}
use Rattle.ctl_plane.proofs.CarryLemmas.{brings_none, no_reap, taken_carried, taken_carries, taken_given}
use Rattle.ctl_plane.proofs.PlaneLemmas.{carried_last, plane_more}
use Rattle.ctl_plane.proofs.PlaneDoneLemmas.{word_makes}
use Rattle.ctl_plane.proofs.DoneLemmas.{taken_hears}
use Rattle.ctl_plane.proofs.OnWayLemmas.{brought_own}
use Rattle.ctl_moves.proofs.FindLemmas.{turns_at, end_of_no_root}
use Rattle.control_laws.proofs.RoomLemmas.{goes_room}
use Rattle.control_laws.specs.Move.{LinkMoves}
use Rattle.control_laws.proofs.SoundLemmas.{sound_of}
use Rattle.ctl_moves.proofs.SettledLemmas.{acknowledged_at}
use Rattle.ctl_moves.proofs.TakeOverLemmas.{at_root, reaped_at}
use Rattle.ctl_plane.proofs.OldestBindLemmas.{bind_taken, binds_fit_left, bound_by, fits_brought, fits_ends, fits_none, fits_plug, fits_writer, has_pair, no_root, on_its_way, way_at}
use Rattle.ctl_plane.proofs.PlugLemmas.{gets_plugged, plugs_with}
use Rattle.ctl_plane.proofs.TakenLemmas.{acks_taken, joins_taken, left_taken, left_tries, reaps_taken, settles_taken, turns_taken}
use Rattle.ctl_moves.specs.Attaching.{BindsAt, FitsLoad}
use Rattle.ctl_moves.proofs.BoundLemmas.{room_stays}
use Rattle.desk.specs.declared.halves.Halves.{Halves}
use Rattle.control_laws.proofs.AttachedOnceLemmas.{old_run}
use Rattle.control_laws.proofs.HeldOpenLemmas.{none_some, some_is}
use Rattle.control_laws.proofs.UnpluggedLemmas.{Serves, serves_run}
use Rattle.control_laws.specs.Coming.{ComesToEnd}
use Rattle.ctl_state.specs.declared.belongings.Belongings.{Belongings}
use Rattle.spec_control.specs.Rows.{obj}
use Rattle.ctl_moves.proofs.FindLemmas.{loaded_capacity}

-- ---- commands that were put with what they bring
module _ {N O I : Type 0} (out_name : O → N) (in_name : I → N) where
  module _ (names : EndId → Option N) (old new : List (Mail (Command (Load N O I)))) (puts : PutsLoaded out_name in_name names old new) where
    no_given : (more : List (Command (Load N O I))) → All (λ command. IsLoaded out_name in_name names command) more → flat_map (λ (x : Command (Load N O I)). given_by x.load) more ≡ []
    no_given [] all = refl
    no_given (x ∷ xs) all =
        let first = All-head (λ (y : Command (Load N O I)). IsLoaded out_name in_name names y) x xs all in
        ap (λ (gs : List (Given N O I)). gs ++ flat_map (λ (y : Command (Load N O I)). given_by y.load) xs) (brings_none out_name in_name names x.letter.word x.load first.no_ends first.carries)
        ∙ no_given xs (All-tail (λ (y : Command (Load N O I)). IsLoaded out_name in_name names y) x xs all)

    pub loaded_given : given_in new ≡ given_in old
    loaded_given =
        let g = puts.grows 0 in
        ap (flat_map (λ (x : Command (Load N O I)). given_by x.load)) g.commands ∙ flat_map-append (λ (x : Command (Load N O I)). given_by x.load) (mail_at old 0).commands g.more
        ∙ ap (λ (gs : List (Given N O I)). given_in old ++ gs) (no_given g.more g.loaded) ∙ append-nil (given_in old)

  pub loaded_carried : {S : Type 0} (items : List (Item N S)) (c : Control) (old new : List (Mail (Command (Load N O I)))) → PutsLoaded out_name in_name (name_of items) old new → AreCarried out_name in_name items c old → AreCarried out_name in_name items c new
  loaded_carried items c old new puts all m =
      let g = puts.grows m in
      subst (λ (xs : List (Command (Load N O I))). All (IsCarried out_name in_name items c) xs) (sym g.commands)
      (All-append (IsCarried out_name in_name items c) (mail_at old m).commands g.more (all m)
      (All-weaker (IsLoaded out_name in_name (name_of items)) (IsCarried out_name in_name items c) (λ x is. record { carries = is.carries; reaps = no_reap out_name in_name c x.letter.word x.load is.no_ends }) g.more g.loaded))

-- ---- names that are known later
module _ {N : Type 0} (early late : EndId → Option N) (more : (e : EndId) (n : N) → early e ≡ Some n → late e ≡ Some n) where
  names_later : (x : Held N) → HasBothNames early x → HasBothNames late x
  names_later x has = record { written = more x.end x.written has.written; read = more (other_end x.end) x.read has.read }

  pub has_later : (c : Control) (h : Holding N) → HasAll early c h → HasAll late c h
  has_later c h has i holds = record {
    ends = (has i holds).ends;
    named = All-weaker (HasBothNames early) (HasBothNames late) names_later (h.ends i) (has i holds).named;
    writes = (has i holds).writes;
    delimiters = (has i holds).delimiters;
    states = (has i holds).states;
  }

not_seen : TermCame ≡ DelimiterSeen → ⊥
not_seen f = grind arith

module _ {N O I S : Type 0} (out_name : O → N) (in_name : I → N) (s mid : State (Load N O I)) (p : Past (Given N O I) N S) (spare : ℕ) (slot : SlotId) (command : Command (Load N O I)) (plane : IsPlane out_name in_name s p spare)
    (lists : mid.objects.lists ≡ s.objects.lists) (took : Takes slot.0 command s.boxes mid.boxes) (first : Updates (without_front slot.0) s mid) (front : (control_of p).boxes slot.0 ≡ command.letter ∷ behind_first ((control_of p).boxes slot.0)) where
  taken : Kept (control_of p)
  taken = kept_past p plane.history.run

  room_mid : (m : ℕ) → to_come (control_of p) m ≤ (mail_at mid.boxes m).spare
  room_mid m = let most = plane.history.room m in let same = taken_spare slot.0 command s.boxes mid.boxes took m in omega (arith, most, same)

  binds_mid : BindsFit (control_of p) mid.objects.lists
  binds_mid = subst (λ (ls : List Belongings). BindsFit (control_of p) ls) (sym lists) plane.binds

  serves : Serves (control_of p)
  serves = serves_run p.workers (items_of p) plane.history.run

  its : (to : ℕ) (word : Word) (rest : List Letter) → (control_of p).boxes slot.0 ≡ record { to = record { 0 = to }; word = word } ∷ rest → is_plug word ≡ false → to ≢ 0 → IsServed (control_of p) slot.0 to
  its to word rest is none above =
      let o = oldest_lives (control_of p) taken slot.0 to word rest is in
      record {
        no_root = above;
        there = placed (λ (r : Row). has_ended r.stage) (control_of p).rows.objects nobody to refl o.1;
        here = o.0;
        plugged = gets_plugged (control_of p) taken serves slot.0 rest to word is none above;
        lives = o.1;
      }

  pub served : (h : Holding N) → ((i : ℕ) → IsServed (control_of p) slot.0 i → h.holds i ≡ true) → is_plug command.letter.word ≡ false → command.letter.to.0 ≢ 0 → h.holds command.letter.to.0 ≡ true
  served h lent none above = lent command.letter.to.0 (its command.letter.to.0 command.letter.word _ front none above)

  -- a Reap lies in the root's mailbox alone
  reap_at : (to : ℕ) (word : Word) (rest : List Letter) → (control_of p).boxes slot.0 ≡ record { to = record { 0 = to }; word = word } ∷ rest → brings_ends word ≡ true → slot.0 ≡ 0
  reap_at to (Own child) rest is brings = absurd (never brings)
  reap_at to (Plug end) rest is brings = absurd (never brings)
  reap_at to (TermReq child) rest is brings = absurd (never brings)
  reap_at to Term rest is brings = absurd (never brings)
  reap_at to (TermAck child) rest is brings = absurd (never brings)
  reap_at to (PipeBind e peer) rest is brings = absurd (never brings)
  reap_at to (PipeTerm e) rest is brings = absurd (never brings)
  reap_at to (PipeTermAck e) rest is brings = absurd (never brings)
  reap_at to Stop rest is brings = absurd (never brings)
  reap_at to (Reap socket) rest is brings = at_root (control_of p) taken slot.0 to socket rest is plane.history.root

  pub reap_in_roots : brings_ends command.letter.word ≡ true → slot.0 ≡ 0
  reap_in_roots = reap_at command.letter.to.0 command.letter.word _ front

  pub carried_first : IsCarried out_name in_name (items_of p) (control_of p) command
  carried_first = taken_carries out_name in_name (items_of p) (control_of p) slot.0 command s.boxes mid.boxes took plane.carried

  -- what lies in another mailbox brings none of a closed socket's ends
  brings_nothing : slot.0 ≢ 0 → given_by command.load ≡ []
  brings_nothing other = brings_none out_name in_name (name_of (items_of p)) command.letter.word command.load (by (brings_ends command.letter.word) refl) carried_first.carries
    where
      by : (b : Bool) → brings_ends command.letter.word ≡ b → b ≡ false
      by true is = absurd (other (reap_in_roots is))
      by false is = refl

  -- of those on their way to the reaper, the first are what the command brings
  taken_first : given_in s.boxes ≡ given_by command.load ++ given_in mid.boxes
  taken_first =
      elim (cases_eq slot.0 0) [
        | inl root ↦
            let front_is = subst (λ (n : ℕ). (mail_at s.boxes n).commands ≡ command ∷ (mail_at mid.boxes n).commands) root took.front in
            ap (flat_map (λ (x : Command (Load N O I)). given_by x.load)) front_is
        | inr other ↦
            sym (taken_given slot.0 command s.boxes mid.boxes took (brings_nothing other)) ∙ ap (λ (gs : List (Given N O I)). gs ++ given_in mid.boxes) (sym (brings_nothing other))
      ]

  -- and so the reaper may take them over
  pub take_first : (may : ℕ → List (Given N O I) → Type 0) → (slot.0 ≡ 0 → MayTakeFirst may (control_of p) (given_in s.boxes)) → (o : ObjId) → command.letter.word ≡ Reap o → may o.0 (given_by command.load)
  take_first may takes o is =
      takes (reap_in_roots (ap brings_ends is)) o.0 (given_by command.load) (given_in mid.boxes) taken_first
      (brought_own out_name in_name (control_of p) (name_of (items_of p)) o.0 command.load
      (subst (λ (w : Word). Carries out_name in_name (name_of (items_of p)) w command.load) is carried_first.carries)
      (subst (λ (w : Word). ReapsAll (control_of p) w command.load) is carried_first.reaps))

  -- the bind of an end may come to a socket
  bind_at : (h : Holding N) (to : ℕ) (e : EndId) (peer : List ℕ) (rest : List Letter) → (control_of p).boxes slot.0 ≡ record { to = record { 0 = to }; word = PipeBind e peer } ∷ rest →
      ((i : ℕ) → IsServed (control_of p) slot.0 i → h.holds i ≡ true) → AreOfKind (control_of p) slot.0 h → BindsAt (control_of p) mid h to e
  bind_at h to e peer rest is all kinds =
      let comes = may_come (control_of p) taken slot.0 rest to (PipeBind e peer) is in
      let of = its to (PipeBind e peer) rest is refl (no_root (control_of p) taken to e comes) in
      record {
        way = way_at (control_of p) taken to e comes mid (old_run p.workers (items_of p) plane.history.run) (let few = plane.history.pairs in omega (arith, few)) binds_mid;
        lent = all to of;
        lives = (oldest_lives (control_of p) taken slot.0 to (PipeBind e peer) rest is).1;
        room = λ m. (let less = room_stays (control_of p) e (has_pair (control_of p) taken to e comes) (sound_of (control_of p) taken) comes.comes m in let most = room_mid m in omega (arith, less, most));
        kind = kinds to of;
      }

  pub ends_for : (h : Holding N) (to : ℕ) (word : Word) (rest : List Letter) → (is_plug word ≡ false → to ≢ 0 → h.holds to ≡ true) → (control_of p).boxes slot.0 ≡ record { to = record { 0 = to }; word = word } ∷ rest →
      Carries out_name in_name (name_of (items_of p)) word command.load → ReapsAll (control_of p) word command.load → (slot.0 ≡ 0 → AreFree (control_of p) h) →
      ((i : ℕ) → IsServed (control_of p) slot.0 i → h.holds i ≡ true) → AreOfKind (control_of p) slot.0 h → HasPlugged (control_of p) h → HearsEnd out_name in_name (name_of (items_of p)) (without_front slot.0 (control_of p)) mid h to word command.load
  ends_for h to (Own child) rest lent is carries reaps free all kinds plugged = tt
  ends_for h to (Plug end) rest lent is carries reaps free all kinds plugged =
      plugs_with (control_of p) taken serves out_name in_name (name_of (items_of p)) mid h plugged slot.0 to rest (old_run p.workers (items_of p) plane.history.run) (let few = plane.history.pairs in omega (arith, few))
      binds_mid room_mid end command.load is carries
  ends_for h to (TermReq child) rest lent is carries reaps free all kinds plugged = tt
  ends_for h to Term rest lent is carries reaps free all kinds plugged = record {
    rootless = λ e here. end_of_no_root (control_of p) taken e here;
    comes = may_come (control_of p) taken slot.0 rest to Term is;
    room = λ d moves m.
        (let all = goes_room (LinkMoves to TermComes ∷ []) (without_front slot.0 (control_of p)) d (sound_of (control_of p) taken) moves m in
        let most = room_mid m in
        omega (arith, all, most));
  }
  ends_for h to (TermAck child) rest lent is carries reaps free all kinds plugged = tt
  ends_for h to (PipeBind e peer) rest lent is carries reaps free all kinds plugged =
      bound_by out_name in_name (name_of (items_of p)) (without_front slot.0 (control_of p)) mid h to e command.load carries (bind_taken slot.0 (control_of p) mid h to e (bind_at h to e peer rest is all kinds))
  ends_for h to (PipeTerm e) rest lent is carries reaps free all kinds plugged =
      let comes_to = may_come (control_of p) taken slot.0 rest to (PipeTerm e) is in
      turns_taken out_name in_name slot.0 (control_of p) (name_of (items_of p)) mid command.load h e TermCame (turns_at (control_of p) taken out_name in_name mid h e TermCame comes_to.comes
      (λ above. ap h.holds comes_to.owner ∙ lent refl (λ z. above (comes_to.owner ∙ z))) (λ seen. absurd (not_seen seen)) room_mid)
  ends_for h to (PipeTermAck e) rest lent is carries reaps free all kinds plugged =
      let comes_to = may_come (control_of p) taken slot.0 rest to (PipeTermAck e) is in
      let o = oldest_lives (control_of p) taken slot.0 to (PipeTermAck e) rest is in
      acks_taken out_name in_name slot.0 (control_of p) (name_of (items_of p)) mid command.load h to e (acknowledged_at out_name in_name (control_of p) taken (name_of (items_of p)) mid h to e command.load carries comes_to.comes comes_to.owner
      (placed (λ (r : Row). has_ended r.stage) (control_of p).rows.objects nobody to refl o.1) o.1 (lent refl) room_mid)
  ends_for h to Stop rest lent is carries reaps free all kinds plugged = tt
  ends_for h to (Reap socket) rest lent is carries reaps free all kinds plugged =
      reaps_taken out_name in_name slot.0 (control_of p) (name_of (items_of p)) mid command.load h socket (reaped_at (control_of p) taken slot.0 to socket rest is out_name in_name (name_of (items_of p)) mid h (free (at_root (control_of p) taken slot.0 to socket rest is plane.history.root)) room_mid command.load carries reaps)

  -- halves that come may join
  bind_fits : (fits : Halves O I → Type 0) → FitBinds out_name in_name p slot.0 fits → (to : ℕ) (word : Word) (rest : List Letter) → (control_of p).boxes slot.0 ≡ record { to = record { 0 = to }; word = word } ∷ rest → (e : EndId) →
      ComesToEnd (control_of p) to e BindCame → (x : Halves O I) → name_of (items_of p) e ≡ Some (out_name x.out) → name_of (items_of p) (other_end e) ≡ Some (in_name x.input) → fits x
  bind_fits fits all to word rest is e comes x written read =
      let o = oldest_lives (control_of p) taken slot.0 to word rest is in
      all e x (on_its_way (control_of p) taken to e comes)
      (subst (λ (n : ℕ). n < next_object (control_of p)) (sym comes.owner) (placed (λ (r : Row). has_ended r.stage) (control_of p).rows.objects nobody to refl o.1))
      (ap (λ (n : ℕ). (obj (control_of p).rows n).slot) comes.owner ∙ o.0) written read

  fits_at : (fits : Halves O I → Type 0) → FitBinds out_name in_name p slot.0 fits → (to : ℕ) (word : Word) (rest : List Letter) → (control_of p).boxes slot.0 ≡ record { to = record { 0 = to }; word = word } ∷ rest →
      Carries out_name in_name (name_of (items_of p)) word command.load → FitsLoad fits command.load
  fits_at fits all to (Own child) rest is carries = fits_none out_name in_name command.load fits carries
  fits_at fits all to (Plug end) rest is carries = fits_plug out_name in_name (name_of (items_of p)) fits end command.load carries (λ e same. bind_fits fits all to (Plug end) rest is e (by end same is))
    where
      by : {e : EndId} (end : Option EndId) → end ≡ Some e → (control_of p).boxes slot.0 ≡ record { to = record { 0 = to }; word = Plug end } ∷ rest → ComesToEnd (control_of p) to e BindCame
      by None same now = absurd (none_some same)
      by (Some d) same now = subst (λ (x : EndId). ComesToEnd (control_of p) to x BindCame) (some_is same) (may_come (control_of p) taken slot.0 rest to (Plug (Some d)) now).1
  fits_at fits all to (TermReq child) rest is carries = fits_none out_name in_name command.load fits carries
  fits_at fits all to Term rest is carries = fits_none out_name in_name command.load fits carries
  fits_at fits all to (TermAck child) rest is carries = fits_none out_name in_name command.load fits carries
  fits_at fits all to (PipeBind e peer) rest is carries =
      fits_brought out_name in_name (name_of (items_of p)) fits e command.load carries (bind_fits fits all to (PipeBind e peer) rest is e (may_come (control_of p) taken slot.0 rest to (PipeBind e peer) is))
  fits_at fits all to (PipeTerm e) rest is carries = fits_none out_name in_name command.load fits carries
  fits_at fits all to (PipeTermAck e) rest is carries = fits_writer out_name in_name (name_of (items_of p)) fits e command.load carries
  fits_at fits all to Stop rest is carries = fits_none out_name in_name command.load fits carries
  fits_at fits all to (Reap socket) rest is carries = fits_ends out_name in_name (name_of (items_of p)) fits command.load carries

  pub fits_first : (fits : Halves O I → Type 0) → FitBinds out_name in_name p slot.0 fits → FitsLoad fits command.load
  fits_first fits all = fits_at fits all command.letter.to.0 command.letter.word _ front carried_first.carries

  abbrev pub may_hear : (h : Holding N) → HasWhat p h → ((i : ℕ) → IsServed (control_of p) slot.0 i → h.holds i ≡ true) → (slot.0 ≡ 0 → AreFree (control_of p) h) → AreOfKind (control_of p) slot.0 h → HasPlugged (control_of p) h →
      MayHear out_name in_name mid h command.letter command.load
  may_hear h has lent free kinds plugged = record {
    control = without_front slot.0 (control_of p);
    names = name_of (items_of p);
    stands = first (control_of p) plane.history.stands;
    has = has;
    lent = served h lent;
    hears = taken_hears s mid p spare slot command plane.history took front;
    ends = ends_for h command.letter.to.0 command.letter.word _ (served h lent) front carried_first.carries carried_first.reaps free lent kinds plugged;
  }

  -- the writing half that an acknowledgement brings is of the pipe that its end reads
  pub writer_named : (e : EndId) (writer : O) → command.letter.word ≡ PipeTermAck e → command.load ≡ Some (Writer writer) → name_of (items_of p) (other_end e) ≡ Some (out_name writer)
  writer_named e writer word load =
      subst (λ (l : Option (Load N O I)). BringsWriterTo out_name in_name (name_of (items_of p)) e l) load
      (subst (λ (w : Word). Carries out_name in_name (name_of (items_of p)) w command.load) word (taken_carries out_name in_name (items_of p) (control_of p) slot.0 command s.boxes mid.boxes took plane.carried).carries)

  module _ (t : State (Load N O I)) (h k : Holding N) (a : Answered N S) (held : list_any (λ o. is_between o && o.slot == slot.0) (control_of p).rows.objects ≡ false)
      (done : IsProcessed out_name in_name mid t h k (name_of (items_of p)) (without_front slot.0 (control_of p)) command.letter a) where
    abbrev did : Did N S
    did = Delivered slot command.letter a

    answered : IsAnswered (control_of p) did
    answered = record {
      joined = done.answers.joined ∙ joins_taken slot.0 (control_of p) command.letter.word;
      kinds = done.answers.kinds;
      opened = ap (λ (ns : List (PipeName N)). map (λ n. n.pipe) ns) done.answers.opened;
      settled = settles_taken slot.0 (control_of p) command.letter.word a.settled done.answers.settled;
      output = λ left. left_tries (without_front slot.0 (control_of p)) command.letter.to.0 command.letter.word h (sym done.answers.output ∙ left);
    }

    fits : Fits (control_of p) did
    fits = record { may = record { behind = _; oldest = front; held = held }; answered = answered }

    nothing : MakesNothing (control_of p) did
    nothing = record {
      no_room = λ m. word_makes (move_room (slots_of (after did (control_of p)).rows) m) (λ i event. refl) (λ e event. refl) command.letter.to.0 command.letter.word;
      no_entries = refl;
      no_objects = word_makes objects_made (λ i event. refl) (λ e event. refl) command.letter.to.0 command.letter.word;
      no_pairs = word_makes pairs_drawn (λ i event. refl) (λ e event. refl) command.letter.to.0 command.letter.word;
      foreseen = refl;
    }

    history : IsHistory t (with_event did p) (spare - 1)
    history =
        one_foreseen s t p did spare plane.history fits done.led.stands nothing
        (λ m. (let put = loaded_capacity out_name in_name (name_of (items_of p)) mid.boxes t.boxes done.led.puts m in let gone = taken_capacity slot.0 command s.boxes mid.boxes took m in omega (arith, put, gone)))
        (done.led.puts.many ∙ took.many)

    told : (j : Joining N) → IsNamed out_name in_name (name_of (items_of p)) j → IsTold (items_of p ++ as_item did ∷ []) j
    told j is = record { written = later (items_of p) (as_item did ∷ []) j.end j.written is.written; read = later (items_of p) (as_item did ∷ []) (other_end j.end) j.read is.read }

    names_fit : FitsNames (items_of p) (as_item did)
    names_fit = All-weaker (IsNamed out_name in_name (name_of (items_of p))) (IsTold (items_of p ++ as_item did ∷ [])) told a.joined done.answers.named

    pub delivers : IsPlane out_name in_name t (with_event did p) (spare - 1)
    delivers =
        plane_more out_name in_name s t p did spare (spare - 1) plane history names_fit
        (carried_last out_name in_name s t p did spare (spare - 1) plane history
        (loaded_carried out_name in_name (items_of p) (control_of p) mid.boxes t.boxes done.led.puts (taken_carried out_name in_name (items_of p) (control_of p) slot.0 command s.boxes mid.boxes took plane.carried)))
        (binds_fit_left (control_of p) taken slot a command.letter fits mid.objects.lists t.objects.lists done.places binds_mid)

    -- whether output was left is told as the holder had it
    pub delivers_left : LeavesIn (control_of p) h did
    delivers_left = done.answers.output ∙ left_taken slot.0 (control_of p) command.letter.to.0 command.letter.word h

    pub delivers_entry : 0 < spare
    delivers_entry = has_entry s p did spare plane.history fits refl refl

    -- what was on its way to the reaper, and what is
    pub delivers_brings : (brings_ends command.letter.word ≡ true → a.joined ≡ map (given_as out_name in_name) (given_by command.load)) → BringsFirst out_name in_name command.letter.word a.joined (given_in s.boxes) (given_in t.boxes)
    delivers_brings reaped = record {
      ends = given_by command.load;
      first = taken_first ∙ ap (λ (gs : List (Given N O I)). given_by command.load ++ gs) (sym (loaded_given out_name in_name (name_of (items_of p)) mid.boxes t.boxes done.led.puts));
      others = λ none. brings_none out_name in_name (name_of (items_of p)) command.letter.word command.load none carried_first.carries;
      reaped = reaped;
    }

    pub delivers_keeps : HasWhat (with_event did p) k
    delivers_keeps =
        subst (λ (c : Control). HasAll (name_of (items_of (with_event did p))) c k) (sym (control_more p did))
        (subst (λ (items : List (Item N S)). HasAll (name_of items) (after did (control_of p)) k) (sym (map-append as_item p.events (did ∷ [])))
        (has_later (name_of (items_of p)) (name_of (items_of p ++ as_item did ∷ [])) (later (items_of p) (as_item did ∷ [])) (after did (control_of p)) k done.led.has))
