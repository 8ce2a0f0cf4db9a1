-- That the pair of an accepted session is made by an event, which a control plane goes on with.
use Rattle.std.specs.Prelude.{◌≡◌, ◌<◌, ◌≤◌, ◌+◌, ◌-◌, ◌==◌, ◌++◌, ◌∷◌, [], ℕ, Bool, true, false, not, cond, List, Option, Some, None, All, flat_map, if◌then◌else◌, length, map, slice_index_or, refl}
use Rattle.std.proofs.Common.{arith, sym, ap, ◌∙◌, subst}
use Rattle.std.proofs.lemmas.Bool.{eq-eqb}
use Rattle.std.proofs.lemmas.List.{append-nil, length-set, map-append}
use Rattle.std.proofs.lemmas.List.Concat.{flat_map-append}
use Rattle.std.proofs.lemmas.List.Elements.{All-cons, All-nil, All-weaker}
use Rattle.std.proofs.lemmas.List.Sums.{get_or-le-sum_by}
use Rattle.zq_base.specs.Ends.{other_end}
use Rattle.zq_base.specs.declared.attached.Attached.{Attached}
use Rattle.zq_base.specs.declared.attached.Attached.TheVariants.{Yes, BadId, Second}
use Rattle.zq_base.specs.declared.ids.EndId.{EndId}
use Rattle.zq_base.specs.declared.ids.ObjId.{ObjId}
use Rattle.zq_base.specs.declared.kind.Kind.{Kind}
use Rattle.zq_base.specs.declared.options.Peer.{Peer}
use Rattle.spec_control.specs.declared.end.EndState.{EndState}
use Rattle.spec_control.specs.declared.entry.Answered.{Answered}
use Rattle.spec_control.specs.declared.entry.Did.{Did}
use Rattle.spec_control.specs.declared.entry.Did.TheVariants.{Asked}
use Rattle.spec_control.specs.declared.entry.Item.{Item}
use Rattle.spec_control.specs.declared.entry.Joining.{Joining}
use Rattle.spec_control.specs.declared.entry.PipeName.{PipeName}
use Rattle.spec_control.specs.declared.letter.Word.TheVariants.{PipeBind}
use Rattle.spec_control.specs.declared.request.Req.TheVariants.{Shaken}
use Rattle.spec_control.specs.declared.request.Reply.TheVariants.{Done}
use Rattle.spec_control.specs.Names.{name_in, name_of, named_in, FitsNames, IsTold}
use Rattle.spec_control.specs.PairPhase.{Opens, may}
use Rattle.spec_control.specs.Place.{Place, Unmade, Away, At, is_unmade, to_put}
use Rattle.spec_control.specs.Row.{Row, nobody, is_session}
use Rattle.spec_control.specs.Rows.{end_half, end_owner, no_pair, obj, pair}
use Rattle.spec_control.specs.Stage.{has_ended}
use Rattle.spec_control.specs.After.{after, kind_answer, pair_or_none}
use Rattle.spec_control.specs.Control.{Control, attach, begun, end_of, greet, is_end, open_pair, owner_of, place_of}
use Rattle.spec_control.specs.ControlRun.{Joins, Fits, MayAnswer, MayAnswerAll, MayShake}
use Rattle.spec_control.proofs.NamedLemmas.{later}
use Rattle.control_laws.specs.Kept.{Kept}
use Rattle.control_laws.specs.Move.{EndMoves}
use Rattle.control_laws.specs.Room.{pair_to_come, reserved, slots_of, to_come, took_from}
use Rattle.control_laws.proofs.AskLemmas.{end_self}
use Rattle.control_laws.proofs.AttachLemmas.{attach_moved}
use Rattle.control_laws.proofs.EndLemmas.{kept_but}
use Rattle.control_laws.proofs.GoLemmas.{opened_goes}
use Rattle.control_laws.proofs.ListLemmas.{never, right, placed}
use Rattle.control_laws.proofs.OpenLemmas.{may_open, owner_lives, unended_uncleared}
use Rattle.control_laws.proofs.RoomLemmas.{goes_room}
use Rattle.control_laws.proofs.SoundLemmas.{sound_of}
use Rattle.control_laws.proofs.StepLemmas.{inv_of}
use Rattle.control_laws.proofs.TellLemmas.{rows_of}
use Rattle.desk.specs.declared.given.Given.{Given}
use Rattle.desk.specs.declared.load.Load.{Load}
use Rattle.desk.specs.Holding.{Holding, MayRefuse}
use Rattle.desk.specs.Lent.{HasAll}
use Rattle.desk.specs.Load.{given_by}
use Rattle.desk.specs.Making.{MakesSo}
use Rattle.desk.specs.Turns.{HasTurned, TurnsBy, turn_at}
use Rattle.ctl_state.specs.declared.command.Command.{Command}
use Rattle.ctl_state.specs.declared.state.State.{State}
use Rattle.ctl_state.specs.Boxes.{mail_at}
use Rattle.ctl_state.specs.Needs.{AreMet}
use Rattle.ctl_state.specs.Stands.{Stands}
use Rattle.ctl_state.proofs.StandLemmas.{roomy}
use Rattle.ctl_moves.specs.declared.notes.Notes.{Notes}
use Rattle.ctl_moves.specs.JoinNoting.{joins_named, pipes_named}
use Rattle.ctl_moves.specs.Papers.{HasMarks}
use Rattle.ctl_moves.specs.Shaking.{IsApart, MayMakeIn, MayShakeAt, Shakes, shaken_now}
use Rattle.ctl_moves.specs.Turning.{PutsLoaded}
use Rattle.ctl_moves.proofs.BetweenLemmas.{same_between}
use Rattle.ctl_moves.proofs.CapacityLemmas.{capacity}
use Rattle.ctl_moves.proofs.FindLemmas.{loaded_capacity}
use Rattle.ctl_moves.proofs.OnceLemmas.{told_more}
use Rattle.ctl_moves.proofs.PairLemmas.{Greeted, binds_to, greeted_any, made_binds}
use Rattle.ctl_moves.proofs.ShakeLemmas.{else_where}
use Rattle.ctl_moves.proofs.ShakingLemmas.{unmade_within}
use Rattle.ctl_plane.specs.Carried.{given_in, AreCarried, BindsFit, IsCarried, IsPlane}
use Rattle.ctl_plane.specs.Coming.{ComesWith}
use Rattle.ctl_plane.specs.Hearing.{HasWhat}
use Rattle.ctl_plane.specs.Joining.{IsNoted}
use Rattle.ctl_plane.specs.Past.{Past, as_item, control_of, items_of, with_event, IsHistory}
use Rattle.ctl_plane.proofs.CarryLemmas.{carries_later}
use Rattle.ctl_plane.proofs.ComeLemmas.{event_comes}
use Rattle.ctl_plane.proofs.DeliverLemmas.{has_later, loaded_carried, loaded_given}
use Rattle.ctl_plane.proofs.EventLemmas.{control_more, has_entry, kept_past, one_more}
use Rattle.ctl_plane.proofs.HeldEventLemmas.{name_behind, not_first}
use Rattle.ctl_plane.proofs.NamedPlaneLemmas.{plane_named}
use Rattle.ctl_plane.proofs.ReapLemmas.{carried_later}
use Rattle.ctl_plane.proofs.UnmadeLemmas.{AreElse, else_apart, unmade_else, unmade_unnamed}

-- the end that a session has of its pair
abbrev pub own_of : Control → ℕ → EndId
own_of c i = end_of (pair_or_none (obj c.rows i).pair) true

-- a holder that takes no refusals for an object answers that its end may stay
never_refuses : (kind : Option Kind) → kind ≡ None → (answer : Attached) → MayRefuse kind answer → (r : Row) → MayAnswer r answer
never_refuses kind none Yes refuses r = tt
never_refuses kind none BadId refuses r = absurd (none_some (sym none ∙ refuses))
  where
    none_some : {k : Kind} → None ≡ Some k → ⊥
    none_some f = Prim.grind arith
never_refuses kind none Second refuses r = absurd (none_some (sym none ∙ refuses))
  where
    none_some : {k : Kind} → None ≡ Some k → ⊥
    none_some f = Prim.grind arith

-- ---- the pair that is made
module _ (c : Control) (kept : Kept c) (i : ℕ) (may_shake : MayShake c i) where
  abbrev k : ℕ
  k = pair_or_none (obj c.rows i).pair

  comes : may Opens (end_half (pair c.rows (pair_or_none (obj c.rows i).pair)) true) (end_half (pair c.rows (pair_or_none (obj c.rows i).pair)) false) ≡ true
  comes = may_open c.rows k true (inv_of (rows_of (kept_but 0 c kept))) may_shake.unmade

  unmade_place : (p : Place) → is_unmade p ≡ true → p ≡ Unmade
  unmade_place Unmade h = refl
  unmade_place Away h = absurd (never h)
  unmade_place (At state) h = absurd (never h)

  pub other_unmade : place_of c (end_of (pair_or_none (obj c.rows i).pair) false) ≡ Unmade
  other_unmade = unmade_place (place_of c (end_of k false)) (right (is_unmade (place_of c (end_of k true))) (is_unmade (place_of c (end_of k false))) comes)

  pub own_within : pair_or_none (obj c.rows i).pair < length c.rows.pairs
  own_within = unmade_within c (own_of c i) (ap is_unmade may_shake.unmade)

  pub own_owner : owner_of c (own_of c i) ≡ i
  own_owner = (kept.pairs i may_shake.accepted).0

  pub both_live : (x : Bool) → has_ended (obj c.rows (end_owner (pair c.rows (pair_or_none (obj c.rows i).pair)) x)).stage ≡ false
  both_live true = ap (λ (n : ℕ). has_ended (obj c.rows n).stage) own_owner ∙ may_shake.taken_in.lives
  both_live false =
      owner_lives c.rows i (pair c.rows k).b_owner (inv_of (rows_of (kept_but 0 c kept))) (kept.pairs i may_shake.accepted).1 (unended_uncleared (obj c.rows i).stage may_shake.taken_in.lives)

  -- no more may come of it than before
  room_left : (m : ℕ) → to_come (attach Opens (own_of c i) c) m ≤ to_come c m
  room_left m =
      let all = goes_room (EndMoves (own_of c i) Opens ∷ []) c (attach Opens (own_of c i) c) (sound_of c kept) (opened_goes (own_of c i) c comes both_live) m in
      omega (arith, all)

  -- there is room in the mailbox of each owner, for what the other one's end may put
  module _ {L : Type 0} (s : State L) (room : (m : ℕ) → to_come c m ≤ (mail_at s.boxes m).spare) where
    part : (m : ℕ) → pair_to_come (slots_of c.rows) m (pair c.rows (pair_or_none (obj c.rows i).pair)) ≤ to_come c m
    part m = let one = get_or-le-sum_by (pair_to_come (slots_of c.rows) m) c.rows.pairs k no_pair own_within in omega (arith, one)

    pub own_box : (obj c.rows i).slot < length s.boxes
    own_box =
        let m = (obj c.rows i).slot in
        let one = part m in
        let most = room m in
        let two = ap to_put other_unmade in
        let here = ap {B = ℕ} (λ (n : ℕ). cond ((obj c.rows n).slot == m) (to_put (pair c.rows k).b) 0) own_owner in
        let on = ap {B = ℕ} (λ (b : Bool). cond b (to_put (pair c.rows k).b) 0) (eq-eqb m m refl) in
        roomy s.boxes m (omega (arith, one, most, two, here, on))

    pub other_box : (obj c.rows (owner_of c (end_of (pair_or_none (obj c.rows i).pair) false))).slot < length s.boxes
    other_box =
        let m = (obj c.rows (owner_of c (end_of k false))).slot in
        let one = part m in
        let most = room m in
        let two = ap to_put may_shake.unmade in
        let on = ap {B = ℕ} (λ (b : Bool). cond b (to_put (pair c.rows k).a) 0) (eq-eqb m m refl) in
        roomy s.boxes m (omega (arith, one, most, two, on))

  pub session_there : i < length c.rows.objects
  session_there = placed (λ (r : Row). not (is_session r.kind)) c.rows.objects nobody i refl (ap not may_shake.session)

module _ {N O I S : Type 0} (out_name : O → N) (in_name : I → N) (s : State (Load N O I)) (p : Past (Given N O I) N S) (spare : ℕ) (o : ObjId) (peer : Peer) (plane : IsPlane out_name in_name s p spare) (may_shake : MayShake (control_of p) o.0) (h : Holding N) where
  pub kept : Kept (control_of p)
  kept = kept_past p plane.history.run

  pub apart : All (λ x. IsApart (own_of (control_of p) o.0) x) (control_of p).attached
  apart =
      else_apart (own_of (control_of p) o.0) (control_of p).attached
      (unmade_else p.workers (items_of p) plane.history.run (pair_or_none (obj (control_of p).rows o.0).pair) may_shake.unmade (other_unmade (control_of p) kept o.0 may_shake))

  module _ (first : EndId) (is : first ≡ own_of (control_of p) o.0) where
    so_of : (P : EndId → Type 0) → P (own_of (control_of p) o.0) → P first
    so_of P = subst P (sym is)

    pub first_owner : owner_of (control_of p) first ≡ o.0
    first_owner = so_of (λ e. owner_of (control_of p) e ≡ o.0) (own_owner (control_of p) kept o.0 may_shake)

    pub first_unmade : place_of (control_of p) first ≡ Unmade
    first_unmade = so_of (λ e. place_of (control_of p) e ≡ Unmade) may_shake.unmade

    pub last_unmade : place_of (control_of p) (other_end first) ≡ Unmade
    last_unmade = so_of (λ e. place_of (control_of p) (other_end e) ≡ Unmade) (other_unmade (control_of p) kept o.0 may_shake)

    pub last_lives : has_ended (obj (control_of p).rows (owner_of (control_of p) (other_end first))).stage ≡ false
    last_lives = so_of (λ e. has_ended (obj (control_of p).rows (owner_of (control_of p) (other_end e))).stage ≡ false) (both_live (control_of p) kept o.0 may_shake false)

    pub first_apart : All (λ x. IsApart first x) (control_of p).attached
    first_apart = so_of (λ e. All (λ x. IsApart e x) (control_of p).attached) apart

    pub last_box : (obj (control_of p).rows (owner_of (control_of p) (other_end first))).slot < length s.boxes
    last_box = so_of (λ e. (obj (control_of p).rows (owner_of (control_of p) (other_end e))).slot < length s.boxes) (other_box (control_of p) kept o.0 may_shake s plane.history.room)

    pub last_there : owner_of (control_of p) (other_end first) < length (control_of p).rows.objects
    last_there =
        so_of (λ e. owner_of (control_of p) (other_end e) < length (control_of p).rows.objects)
        ((sound_of (control_of p) kept).ends (pair_or_none (obj (control_of p).rows o.0).pair) false)

    pub first_room : (m : ℕ) → to_come (attach Opens first (control_of p)) m ≤ (mail_at s.boxes m).spare
    first_room m =
        so_of (λ e. to_come (attach Opens e (control_of p)) m ≤ (mail_at s.boxes m).spare)
        (let less = room_left (control_of p) kept o.0 may_shake m in let most = plane.history.room m in omega (arith, less, most))

    pub mine_box : (obj (control_of p).rows o.0).slot < length s.boxes
    mine_box = own_box (control_of p) kept o.0 may_shake s plane.history.room

    pub mine_there : o.0 < length (control_of p).rows.objects
    mine_there = session_there (control_of p) kept o.0 may_shake

    -- what its making needs
    abbrev pub may_shake_at : AreMet s (control_of p) → HasWhat p h → h.holds o.0 ≡ true → HasMarks (obj (control_of p).rows o.0) → MayShakeAt s h o.0 first
    may_shake_at met has lent marks = record {
      control = control_of p;
      names = name_of (items_of p);
      stands = plane.history.stands;
      has = has;
      lent = lent;
      owner = first_owner;
      mine = first_unmade;
      theirs = last_unmade;
      lives = may_shake.taken_in.lives;
      other_lives = last_lives;
      apart = first_apart;
      few_objects = (let few = plane.history.objects in omega (arith, few));
      few_pairs = (let few = plane.history.pairs in omega (arith, few));
      box = mine_box;
      other_box = last_box;
      list = met.listed o.0 mine_there;
      other_list = met.listed (owner_of (control_of p) (other_end first)) last_there;
      room = first_room;
      marks = marks;
    }

    pub may_make_shaken : HasMarks (obj (control_of p).rows o.0) → (may_make : EndId → ℕ → ℕ → Type 0) → MakesSo (control_of p) (Shaken o peer) may_make → MayMakeIn s o first may_make
    may_make_shaken marks may_make makes = so_of (λ e. MayMakeIn s o e may_make) (record {
      control = control_of p;
      stands = plane.history.stands;
      marks = marks;
      makes = makes (own_of (control_of p) o.0) _ _ (record { place = 0; among = refl });
    })

    -- what the making did, of the end that the session has
    pub shakes_own : (notes : Notes N) (t : State (Load N O I)) (k : Holding N) (identity : List ℕ) → identity ≡ peer.identity → Shakes out_name in_name (control_of p) o.0 first identity notes s t h k → Shakes out_name in_name (control_of p) o.0 (own_of (control_of p) o.0) peer.identity notes s t h k
    shakes_own notes t k identity same shakes =
        subst (λ (e : EndId). Shakes out_name in_name (control_of p) o.0 e peer.identity notes s t h k) is
        (subst (λ (octets : List ℕ). Shakes out_name in_name (control_of p) o.0 first octets notes s t h k) same shakes)

-- a handshake that was done
pub record Shook {N O I S : Type 0} (out_name : O → N) (in_name : I → N) (s : State (Load N O I)) (p : Past (Given N O I) N S) (spare : ℕ) (o : ObjId) (peer : Peer) (h : Holding N) : Type 0 where
  pub plane : IsPlane out_name in_name s p spare
  pub may : MayShake (control_of p) o.0
  pub kind : h.kind o.0 ≡ None
  pub has : HasWhat p h
  pub notes : Notes N
  pub t : State (Load N O I)
  pub k : Holding N
  pub shakes : Shakes out_name in_name (control_of p) o.0 (own_of (control_of p) o.0) peer.identity notes s t h k
  pub a : Answered N S
  pub noted : IsNoted notes a

module _ {N O I S : Type 0} (out_name : O → N) (in_name : I → N) (s : State (Load N O I)) (p : Past (Given N O I) N S) (spare : ℕ) (o : ObjId) (peer : Peer) (h : Holding N) (d : Shook out_name in_name s p spare o peer h) where
  abbrev c : Control
  c = control_of p

  abbrev pub did : Did N S
  did = Asked (Shaken o peer) Done d.a

  abbrev first : EndId
  first = own_of (control_of p) o.0

  abbrev last : EndId
  last = end_of (pair_or_none (obj (control_of p).rows o.0).pair) false

  abbrev items_then : List (Item N S)
  items_then = items_of p ++ as_item did ∷ []

  kept_now : Kept (control_of p)
  kept_now = kept_past p d.plane.history.run

  joined_is : d.a.joined ≡ joins_named (own_of (control_of p) o.0) [] d.shakes.answer d.shakes.told ∷ []
  joined_is = d.noted.joined ∙ d.shakes.joined

  opened_is : d.a.opened ≡ pipes_named (own_of (control_of p) o.0) d.shakes.told
  opened_is = d.noted.opened ∙ d.shakes.opened

  kind_is : kind_answer d.a.joined (own_of (control_of p) o.0) ≡ d.shakes.answer
  kind_is = ap (λ (js : List (Joining N)). kind_answer js first) joined_is ∙ ap (λ (b : Bool). if b then d.shakes.answer else Yes) (end_self first)

  -- ---- what it leads to
  abbrev opened_now : Control
  opened_now = open_pair first (PipeBind last peer.identity) (control_of p)

  abbrev now : Control
  now = shaken_now (control_of p) (own_of (control_of p) o.0) peer.identity d.shakes.answer

  leads : after did (control_of p) ≡ shaken_now (control_of p) (own_of (control_of p) o.0) peer.identity d.shakes.answer
  leads = ap (λ (x : Attached). greet x first opened_now) kind_is

  within : first.pair.0 < length (control_of p).rows.pairs
  within = own_within c kept_now o.0 d.may

  was_greeted : Greeted first opened_now now
  was_greeted =
      greeted_any first opened_now (attach_moved c Opens first within).here
      (subst (λ (n : ℕ). first.pair.0 < n) (sym (length-set c.rows.pairs first.pair.0 _)) within) d.shakes.answer

  objects_stay : (after did (control_of p)).rows.objects ≡ (control_of p).rows.objects
  objects_stay = ap (λ (x : Control). x.rows.objects) leads ∙ was_greeted.objects

  -- ---- that it fits
  joined_said : map (λ j. let x : Joins = record { end = j.end; peer = j.peer; met = j.met } in x) d.a.joined ≡ record { end = own_of (control_of p) o.0; peer = []; met = false } ∷ []
  joined_said = ap (λ (js : List (Joining N)). map (λ j. let x : Joins = record { end = j.end; peer = j.peer; met = j.met } in x) js) joined_is

  opened_said : map (λ n. n.pipe) d.a.opened ≡ first ∷ last ∷ []
  opened_said = ap (λ (ns : List (PipeName N)). map (λ n. n.pipe) ns) opened_is

  kinds_said : MayAnswerAll (after did (control_of p)) d.a.joined
  kinds_said =
      subst (λ (js : List (Joining N)). MayAnswerAll (after did c) js) (sym joined_is)
      (never_refuses (h.kind o.0) d.kind d.shakes.answer d.shakes.refuses (obj (after did c).rows (owner_of (after did c) first)), tt)

  fits : Fits (control_of p) did
  fits = record {
    may = (d.may, refl);
    answered = record { joined = joined_said; kinds = kinds_said; opened = opened_said; settled = d.noted.settled; output = d.noted.output };
  }

  -- ---- the names behind it
  none_else : AreElse (pair_or_none (obj (control_of p).rows o.0).pair) (control_of p).attached
  none_else = unmade_else p.workers (items_of p) d.plane.history.run _ d.may.unmade (other_unmade c kept_now o.0 d.may)

  name_then : (e : EndId) → e.pair.0 ≡ pair_or_none (obj (control_of p).rows o.0).pair → name_of items_then e ≡ name_in e (pipes_named first d.shakes.told)
  name_then e same =
      ap (name_in e) (flat_map-append named_in (items_of p) (as_item did ∷ []))
      ∙ name_behind e (flat_map named_in (items_of p)) (d.a.opened ++ [])
      (unmade_unnamed e (items_of p) (begun p.workers) d.plane.history.run (subst (λ (n : ℕ). AreElse n (control_of p).attached) (sym same) none_else))
      ∙ ap (name_in e) (append-nil d.a.opened ∙ opened_is)

  names_written : name_of items_then first ≡ Some d.shakes.told.written
  names_written = name_then first refl ∙ ap (λ (b : Bool). if b then Some d.shakes.told.written else name_in first (record { pipe = last; name = d.shakes.told.read } ∷ [])) (end_self first)

  names_read : name_of items_then last ≡ Some d.shakes.told.read
  names_read =
      name_then last refl
      ∙ ap (λ (b : Bool). if b then Some d.shakes.told.written else (if is_end last last then Some d.shakes.told.read else None)) (not_first last.pair.0)
      ∙ ap (λ (b : Bool). if b then Some d.shakes.told.read else None) (end_self last)

  names_fit : FitsNames (items_of p) (as_item did)
  names_fit =
      subst (λ (js : List (Joining N)). All (IsTold items_then) js) (sym joined_is)
      (All-cons (IsTold items_then) (joins_named first [] d.shakes.answer d.shakes.told) [] (record { written = names_written; read = names_read }) (All-nil (IsTold items_then)))

  has_then : HasAll (name_of items_then) (control_of p) h
  has_then = has_later (name_of (items_of p)) (name_of items_then) (later (items_of p) (as_item did ∷ [])) c h d.has

  stands_it : Stands d.t (after did (control_of p))
  stands_it = subst (λ (x : Control). Stands d.t x) (sym leads) d.shakes.stands

  puts_it : PutsLoaded out_name in_name (name_of items_then) d.shakes.roomy d.t.boxes
  puts_it = d.shakes.puts (name_of items_then) has_then names_written names_read

  -- ---- room
  room : (m : ℕ) → capacity s.boxes m + reserved (control_of p) did m ≤ capacity d.t.boxes m + took_from did m
  room m =
      let put = loaded_capacity out_name in_name (name_of items_then) d.shakes.roomy d.t.boxes puts_it m in
      let more = d.shakes.room.spare m in
      let same = ap (λ (xs : List (Command (Load N O I))). length xs) (d.shakes.room.commands m) in
      let slot = ap {B = ℕ} (λ (rows : List Row). cond ((slice_index_or rows (owner_of c last) nobody).slot == m) 1 0) objects_stay in
      omega (arith, put, more, same, slot)

  pub shaken_entry : 0 < spare
  shaken_entry = has_entry s p did spare d.plane.history fits refl refl

  pub shaken_history : IsHistory d.t (with_event did p) (spare - 1)
  shaken_history = one_more s d.t p did spare (spare - 1) d.plane.history (record {
    fits = fits;
    stands = stands_it;
    room = room;
    entries = (let some = shaken_entry in omega (arith, some));
    objects = (let few = d.plane.history.objects in omega (arith, few));
    pairs = (let few = d.plane.history.pairs in omega (arith, few));
    boxes = (let many = d.shakes.room.many in let put = puts_it.many in omega (arith, many, put));
  })

  -- ---- what is carried
  carried : AreCarried out_name in_name items_then (after did (control_of p)) d.t.boxes
  carried =
      carried_later out_name in_name items_then c did d.t kept_now (subst Kept (control_more p did) (kept_past (with_event did p) shaken_history.run)) d.plane.history.stands.lists.known fits stands_it
      (loaded_carried out_name in_name items_then c d.shakes.roomy d.t.boxes puts_it roomier)
    where
      named_then : AreCarried out_name in_name items_then (control_of p) s.boxes
      named_then m = λ j x lt.
          (let one = d.plane.carried m j x lt in record {
            carries = carries_later out_name in_name (name_of (items_of p)) (name_of items_then) (later (items_of p) (as_item did ∷ [])) _ _ one.carries;
            reaps = one.reaps;
          })

      roomier : AreCarried out_name in_name items_then (control_of p) d.shakes.roomy
      roomier m = subst (λ (xs : List (Command (Load N O I))). All (IsCarried out_name in_name items_then c) xs) (sym (d.shakes.room.commands m)) (named_then m)

  -- ---- what is on its way
  binds : BindsFit (after did (control_of p)) d.t.objects.lists
  binds i =
      let same = ap (λ (x : Control). binds_to i x) leads in
      let less = was_greeted.binds i in
      let one = made_binds c first (PipeBind last peer.identity) within d.may.unmade (other_unmade c kept_now o.0 d.may) i in
      let were = d.plane.binds i in
      let fit = d.shakes.places i in
      omega (arith, same, less, one, were, fit)

  pub shaken_plane : IsPlane out_name in_name d.t (with_event did p) (spare - 1)
  shaken_plane = plane_named out_name in_name s d.t p did spare (spare - 1) d.plane shaken_history names_fit carried binds

  pub shaken_given : given_in d.t.boxes ≡ given_in s.boxes
  shaken_given =
      loaded_given out_name in_name (name_of items_then) d.shakes.roomy d.t.boxes puts_it
      ∙ ap (λ (xs : List (Command (Load N O I))). flat_map (λ (x : Command (Load N O I)). given_by x.load) xs) (d.shakes.room.commands 0)

  -- ---- the holder
  pub shaken_keeps : HasWhat (with_event did p) d.k
  shaken_keeps =
      subst (λ (x : Control). HasAll (name_of (items_of (with_event did p))) x d.k) (sym (control_more p did))
      (subst (λ (items : List (Item N S)). HasAll (name_of items) (after did c) d.k) (sym (map-append as_item p.events (did ∷ [])))
      (subst (λ (x : Control). HasAll (name_of items_then) x d.k) (sym leads) (d.shakes.has (name_of items_then) has_then names_written names_read)))

  pub shaken_turned : HasTurned (control_of p) (control_of (with_event did p)) h d.k
  shaken_turned =
      subst (λ (x : Control). HasTurned (control_of p) x h d.k) (sym (control_more p did))
      (subst (λ (x : Control). HasTurned (control_of p) x h d.k) (sym leads)
      (told_more c now (first ∷ []) h d.k was_greeted.attached
      (All-weaker (λ x. IsApart first x) (λ x. place_of now x ≡ place_of c x) (λ x so. was_greeted.places x so.mine ∙ else_where c first within x so) c.attached
      (else_apart first c.attached none_else))
      (subst (λ (ts : List (EndId × EndState)). TurnsBy ts h d.k)
      (sym (append-nil (turn_at first (place_of c first) (place_of now first)) ∙ ap (λ (x : Place). turn_at first x (place_of now first)) d.may.unmade)) d.shakes.turned)))

  pub shaken_comes : ComesWith p (with_event did p) h d.k
  shaken_comes =
      event_comes p did h d.k (d.shakes.came ∙ ap (λ (js : List (Joining N)). h.joined ++ js) (sym d.noted.joined)) d.shakes.holds d.shakes.kinds
      (same_between c.rows (after did c).rows objects_stay) (λ b n. refl) d.shakes.heard
