-- An end that joins a closed socket by a bind is new, goes by its names, and stands.
use Rattle.std.specs.Prelude.{◌≡◌, ◌≢◌, ◌&&◌, ◌||◌, ◌++◌, ◌∷◌, [], ℕ, zero, suc, Bool, true, false, not, List, Some, All, refl}
use Rattle.std.specs.List.{list_any}
use Rattle.std.proofs.Common.{arith, sym, ap, ◌∙◌, subst, inl, inr}
use Rattle.std.proofs.lemmas.List.{append-nil, append_assoc}
use Rattle.std.proofs.lemmas.List.Elements.{All-head}
use Rattle.zq_base.specs.declared.ids.EndId.{EndId}
use Rattle.zq_base.specs.declared.ids.ObjId.{ObjId}
use Rattle.zq_base.specs.declared.ids.SlotId.{SlotId}
use Rattle.msg_pipe.specs.Known.{Known}
use Rattle.spec_control.specs.declared.entry.Answered.{Answered}
use Rattle.spec_control.specs.declared.entry.Did.{Did}
use Rattle.spec_control.specs.declared.entry.Did.TheVariants.{Asked, Delivered, Delimited}
use Rattle.spec_control.specs.declared.entry.Item.{Item}
use Rattle.spec_control.specs.declared.entry.Item.TheVariants.{Event, Seen}
use Rattle.spec_control.specs.declared.entry.Joining.{Joining}
use Rattle.spec_control.specs.declared.letter.Word.{Word}
use Rattle.spec_control.specs.declared.letter.Word.TheVariants.{Own, Plug, TermReq, Term, TermAck, PipeBind, PipeTerm, PipeTermAck, Stop, Reap}
use Rattle.spec_control.specs.Place.{Place, Away, is_away, is_gone, is_here, is_unmade}
use Rattle.spec_control.specs.PairPhase.{BindCame}
use Rattle.spec_control.specs.Stage.{has_ended}
use Rattle.spec_control.specs.Rows.{PairRow, no_pair, obj, pair, end_place}
use Rattle.spec_control.specs.Control.{Control, begun, id, is_end, owner_of, place_of}
use Rattle.spec_control.specs.After.{after}
use Rattle.spec_control.specs.ControlRun.{after_all, after_item, Fits, IsControlRun, Joins}
use Rattle.spec_control.specs.Names.{name_of, AreNamed, FitsNames, IsTold}
use Rattle.control_laws.proofs.ListLemmas.{never}
use Rattle.control_laws.proofs.RowLemmas.{all_is_over}
use Rattle.control_laws.specs.Kept.{Kept}
use Rattle.control_laws.proofs.RootLemmas.{runs_are_kept}
use Rattle.spec_control.specs.Held.{caller_of}
use Rattle.spec_control.specs.Has.{has_after, unless_root, AreBy, IsByItem}
use Rattle.control_laws.specs.Coming.{ComesToEnd}
use Rattle.control_laws.specs.Move.{EndMoves}
use Rattle.control_laws.specs.OwnMoves.{own_moves}
use Rattle.control_laws.proofs.GuardLemmas.{may_come}
use Rattle.control_laws.proofs.PairWeighLemmas.{binds_away}
use Rattle.control_laws.proofs.LeadLemmas.{goes_by, new_ends, New}
use Rattle.desk.specs.declared.given.Given.{Given}
use Rattle.ctl_plane.specs.Past.{control_of}
use Rattle.desk.specs.Desk.{came_with}
use Rattle.end_table.specs.declared.changes.PipeChange.{PipeChange}
use Rattle.control_laws.proofs.OwnerLemmas.{mine_all}
use Rattle.control_laws.specs.Closed.{lives}
use Rattle.socket_laws.specs.Ends.{is_new}
use Rattle.closed_ends.specs.declared.sockets.ClosedSockets.{ClosedSockets}
use Rattle.closed_ends.specs.Has.{all_ends, is_of, is_socket}
use Rattle.core_laws.specs.Goes.{StandsNew}
use Rattle.plain_desk.specs.Lent.{GrowsBy, IsOneOrder, Lent}
use Rattle.core_laws.specs.Ends.{ReaperDid}
use Rattle.ctl_moves.specs.Attaching.{binds_end}
use Rattle.core_laws.specs.Joining.{binds_by, binds_in, BoundEndsStand, HasThem}
use Rattle.core_laws.proofs.EndLemmas.{holds_still, same_names}
use Rattle.core_laws.proofs.GrowLemmas.{leads_to, runs_on}
use Rattle.core_laws.proofs.HadLemmas.{is_among, none_some}
use Rattle.core_laws.specs.Arriving.{plugs_by}
use Rattle.core_laws.proofs.PlugLemmas.{no_plugs}

module _ {N S : Type 0} where
  -- the last item tells the names as they were given, and is by who may make it
  named_last : (past xs : List (Item N S)) (x : Item N S) → AreNamed past (xs ++ x ∷ []) → FitsNames (past ++ xs) x
  named_last past [] x are = subst (λ (l : List (Item N S)). FitsNames l x) (sym (append-nil past)) are.0
  named_last past (y ∷ xs) x are = subst (λ (l : List (Item N S)). FitsNames l x) (append_assoc past (y ∷ []) xs) (named_last (past ++ y ∷ []) xs x are.1)

  by_last : (past xs : List (Item N S)) (x : Item N S) (c : Control) → AreBy past c (xs ++ x ∷ []) → IsByItem (past ++ xs) (after_all xs c) x
  by_last past [] x c are = subst (λ (l : List (Item N S)). IsByItem l c x) (sym (append-nil past)) are.0
  by_last past (y ∷ xs) x c are = subst (λ (l : List (Item N S)). IsByItem l (after_all xs (after_item y c)) x) (append_assoc past (y ∷ []) xs) (by_last (past ++ y ∷ []) xs x (after_item y c) are.1)

acts : (i : ℕ) → i ≢ 0 → unless_root i ≡ Some i
acts zero above = absurd (above refl)
acts (suc i) above = refl

-- an end that is away is not the root's
not_root : (c : Control) → Kept c → (e : EndId) → place_of c e ≡ Away → owner_of c e ≢ 0
not_root c kept e away root =
    elim (kept.shape.ends e.pair.0 e.a) [
      | inl w ↦ none_some (sym kept.shape.root ∙ subst (λ (j : ℕ). (obj c.rows j).owner ≡ Some w.0) root w.1)
      | inr none ↦ never_away e.a (ap (λ (p : PairRow). end_place p e.a) (sym none) ∙ away)
    ]
  where
    never_away : (a : Bool) → end_place no_pair a ≡ Away → ⊥
    never_away true e = never (ap is_away e)
    never_away false e = never (ap is_away e)

-- nor is it of an object that has ended
not_over : (c : Control) → Kept c → (e : EndId) → place_of c e ≡ Away → lives c (id (owner_of c e)) ≡ true
not_over c kept e away = by (has_ended (obj c.rows (owner_of c e)).stage) refl
  where
    by : (b : Bool) → has_ended (obj c.rows (owner_of c e)).stage ≡ b → not b ≡ true
    by false over = refl
    by true over = absurd (never (ap (λ (p : Place). is_gone p || is_unmade p) (sym away) ∙ (all_is_over c.rows (owner_of c e) kept.reached over).ends e.pair.0 e.a refl))

none_goes : (e : EndId) → goes_by e (EndMoves e BindCame ∷ []) ≡ false
none_goes e = by (is_end e e)
  where
    by : (b : Bool) → ((b && false) || false) ≡ false
    by true = refl
    by false = refl

same_some : (i j : ℕ) → Some i ≡ Some j → i ≡ j
same_some i j e = Prim.grind (arith, e)

module _ {S O I N T : Type 0} (K : Known S O I N) (old new : Lent (Given N O I) N T) (before behind : S) (from to : ClosedSockets N O I) (changes : List (PipeChange O I × S)) (did : ReaperDid K old new before behind from to changes)
    (all : HasThem old from) where
  abbrev found : Control
  found = after_all old.items (begun old.past.workers)

  abbrev grows : GrowsBy old new
  grows = did.call.grows

  was_order : IsOneOrder old
  was_order = did.call.before

  order : IsOneOrder new
  order = did.call.behind

  kept : Kept found
  kept = (let run = was_order.order in runs_are_kept N T old.past.workers old.items run.run)

  module _ (x : Item N T) (one : grows.more ≡ x ∷ []) where
    items_are : new.items ≡ old.items ++ x ∷ []
    items_are = grows.items ∙ ap (λ (xs : List (Item N T)). old.items ++ xs) one

    told : FitsNames old.items x
    told = (let run = order.order in named_last [] old.items x (subst (AreNamed []) items_are run.named))

    by_it : IsByItem old.items found x
    by_it = (let run = order.order in by_last [] old.items x (begun old.past.workers) (subst (λ (n : ℕ). AreBy [] (begun n) (old.items ++ x ∷ [])) grows.workers (subst (AreBy [] (begun new.past.workers)) items_are run.by)))

    left : control_of new.past ≡ after_item x found
    left = leads_to old new order grows ∙ ap (λ (xs : List (Item N T)). after_all xs found) one

  module _ (by : ℕ) (slot : SlotId) (o : ObjId) (e : EndId) (peer : List ℕ) (h : Answered N T)
      (one : grows.more ≡ Event (record { by = by; did = Delivered slot (record { to = o; word = PipeBind e peer }) h }) ∷ []) (j : Joining N) (came : h.joined ≡ j ∷ []) where
    abbrev bound : Did N T
    bound = Delivered slot (record { to = o; word = PipeBind e peer }) h

    abbrev item : Item N T
    item = Event (record { by = by; did = bound })

    fits : Fits found bound
    fits = (subst (IsControlRun found) one (runs_on old new order grows)).0

    comes : ComesToEnd found o.0 e BindCame
    comes = may_come found kept slot.0 fits.may.behind o.0 (PipeBind e peer) fits.may.oldest

    away : place_of found e ≡ Away
    away = binds_away (end_place (pair found.rows e.pair.0) e.a) (end_place (pair found.rows e.pair.0) (not e.a)) comes.comes

    end_is : j.end ≡ e
    end_is = ap first (sym (ap mapped came) ∙ (let is = fits.answered in is.joined))
      where
        mapped : List (Joining N) → List Joins
        mapped [] = []
        mapped (k ∷ ks) = record { end = k.end; peer = k.peer; met = k.met } ∷ mapped ks

        first : List Joins → EndId
        first [] = e
        first (k ∷ ks) = k.end

    here : is_here (place_of (after bound found) e) ≡ true
    here = (All-head (New (own_moves found bound) (after bound found)) e [] (new_ends found bound kept fits)).there (none_goes e)

    own : owner_of (after bound found) e ≡ o.0
    own = sym (same_some o.0 (owner_of (after bound found) e) (All-head (λ (y : EndId). Some o.0 ≡ Some (owner_of (after bound found) y)) e [] (mine_all found kept bound fits)))

    caller : by ≡ old.caller
    caller = All-head (λ (y : Item N T). caller_of y ≡ old.caller) item [] (subst (All (λ (y : Item N T). caller_of y ≡ old.caller)) one grows.by)

    above : o.0 ≢ 0
    above root = not_root found kept e away (comes.owner ∙ root)

    has : has_after o.0 old.items ≡ Some old.caller
    has = (by_it item one).acts o.0 (acts o.0 above) ∙ ap (λ (k : ℕ). Some k) caller

    lives_still : lives (control_of old.past) (id o.0) ≡ true
    lives_still = ap (λ (c : Control). lives c (id o.0)) was_order.control ∙ ap (λ (i : ℕ). lives found (id i)) (sym comes.owner) ∙ not_over found kept e away

    own_now : owner_of (control_of new.past) e ≡ o.0
    own_now = ap (λ (c : Control). owner_of c e) (left item one) ∙ own

    here_now : is_here (place_of (control_of new.past) e) ≡ true
    here_now = ap (λ (c : Control). is_here (place_of c e)) (left item one) ∙ here

    held : list_any (is_socket o.0) to.sockets.items ≡ true
    held = holds_still K old new before behind from to changes did o.0 (all o.0 above has lives_still) e own_now here_now

    among : list_any (is_of e) (all_ends to.sockets.items) ≡ true
    among = is_among K new order behind to did.sound did.keeps.has e here_now (ap (λ (i : ℕ). list_any (is_socket i) to.sockets.items) own_now ∙ held)

    its_names : IsTold (old.items ++ item ∷ []) j
    its_names = All-head (IsTold (old.items ++ item ∷ [])) j [] (subst (All (IsTold (old.items ++ item ∷ []))) came (told item one))

    same : (p : EndId) → name_of (old.items ++ item ∷ []) p ≡ name_of old.items p
    same p = ap (λ (xs : List (Item N T)). name_of xs p) (sym (items_are item one)) ∙ same_names K old new before behind from to changes did p

    joined_stands : StandsNew K (control_of old.past) (control_of new.past) (name_of old.items) from to j
    joined_stands = record {
      fresh = ap (λ (c : Control). is_new (place_of c j.end)) was_order.control ∙ ap (λ (y : EndId). is_new (place_of found y)) end_is ∙ ap is_new away;
      written = sym (same j.end) ∙ its_names.written;
      read = sym (same _) ∙ its_names.read;
      stands = ap (λ (y : EndId). list_any (is_of y) (all_ends to.sockets.items)) end_is ∙ among;
    }

  -- no command of the reaper's is a Plug
  no_plug : (x : Item N T) → grows.more ≡ x ∷ [] → plugs_by x ≡ true → ⊥
  no_plug x one is =
      never (sym (All-head (λ (y : Item N T). plugs_by y ≡ false) x [] (subst (All (λ (y : Item N T). plugs_by y ≡ false)) one (no_plugs (Given N O I) N T old new did.call))) ∙ is)

  by_word : (by : ℕ) (slot : SlotId) (o : ObjId) (word : Word) (h : Answered N T) → grows.more ≡ Event (record { by = by; did = Delivered slot (record { to = o; word = word }) h }) ∷ [] → binds_end word ≡ true → (j : Joining N)
      → came_with (let item : Item N T = Event (record { by = by; did = Delivered slot (record { to = o; word = word }) h }) in item) ≡ j ∷ [] → StandsNew K (control_of old.past) (control_of new.past) (name_of old.items) from to j
  by_word by slot o (Own child) h one b j came = absurd (never b)
  by_word by slot o (Plug end) h one b j came = absurd (no_plug (Event (record { by = by; did = Delivered slot (record { to = o; word = Plug end }) h })) one refl)
  by_word by slot o (TermReq child) h one b j came = absurd (never b)
  by_word by slot o Term h one b j came = absurd (never b)
  by_word by slot o (TermAck child) h one b j came = absurd (never b)
  by_word by slot o (PipeBind e peer) h one b j came = joined_stands by slot o e peer h one j came
  by_word by slot o (PipeTerm e) h one b j came = absurd (never b)
  by_word by slot o (PipeTermAck e) h one b j came = absurd (never b)
  by_word by slot o Stop h one b j came = absurd (never b)
  by_word by slot o (Reap socket) h one b j came = absurd (never b)

  by_did : (by : ℕ) (d : Did N T) → grows.more ≡ Event (record { by = by; did = d }) ∷ [] → binds_in d ≡ true → (j : Joining N) → came_with (let item : Item N T = Event (record { by = by; did = d }) in item) ≡ j ∷ []
      → StandsNew K (control_of old.past) (control_of new.past) (name_of old.items) from to j
  by_did by (Asked req reply h) one b j came = absurd (never b)
  by_did by (Delivered slot letter h) one b j came = by_word by slot letter.to letter.word h one b j came
  by_did by (Delimited e h) one b j came = absurd (never b)

  pub bound_stands : (x : Item N T) → grows.more ≡ x ∷ [] → binds_by x ≡ true → (j : Joining N) → came_with x ≡ j ∷ [] → StandsNew K (control_of old.past) (control_of new.past) (name_of old.items) from to j
  bound_stands (Event entry) one b j came = by_did entry.by entry.did one b j came
  bound_stands (Seen sight) one b j came = absurd (never b)

pub bound_ends_stand : {S O I N : Type 0} (K : Known S O I N) (T : Type 0) → BoundEndsStand K T
bound_ends_stand K T old new before behind from to changes did all x one b j came = bound_stands K old new before behind from to changes did all x one b j came
