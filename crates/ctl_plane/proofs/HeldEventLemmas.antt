-- The event of a connect to the holder of a name: what it is, that it fits, and the names that it gives.
use Rattle.std.specs.Prelude.{◌≡◌, ◌==◌, ◌&&◌, ◌++◌, ◌∷◌, [], ℕ, Bool, true, false, List, Option, Some, None, All, flat_map, if◌then◌else◌, map, slice_index_or, refl}
use Rattle.std.proofs.Common.{arith, sym, ap, ◌∙◌, subst}
use Rattle.std.proofs.lemmas.List.{append-nil}
use Rattle.std.proofs.lemmas.List.Concat.{flat_map-append}
use Rattle.std.proofs.lemmas.List.Elements.{All-cons, All-head, All-nil}
use Rattle.zq_base.specs.declared.attached.Attached.{Attached}
use Rattle.zq_base.specs.declared.attached.Attached.TheVariants.{Yes}
use Rattle.zq_base.specs.declared.endpoint.Endpoint.{Endpoint}
use Rattle.zq_base.specs.declared.endpoint.Endpoint.TheVariants.{Inproc}
use Rattle.zq_base.specs.declared.ids.EndId.{EndId}
use Rattle.zq_base.specs.declared.ids.ObjId.{ObjId}
use Rattle.zq_base.specs.declared.ids.PairId.{PairId}
use Rattle.spec_control.specs.declared.book.Binding.{Binding}
use Rattle.spec_control.specs.declared.entry.Answered.{Answered}
use Rattle.spec_control.specs.declared.entry.Did.{Did}
use Rattle.spec_control.specs.declared.entry.Did.TheVariants.{Asked}
use Rattle.spec_control.specs.declared.entry.Item.{Item}
use Rattle.spec_control.specs.declared.entry.Joining.{Joining}
use Rattle.spec_control.specs.declared.entry.PipeName.{PipeName}
use Rattle.spec_control.specs.declared.letter.Word.{Word}
use Rattle.spec_control.specs.declared.letter.Word.TheVariants.{PipeBind}
use Rattle.spec_control.specs.declared.request.Req.TheVariants.{Connect}
use Rattle.spec_control.specs.declared.request.Reply.TheVariants.{Pair}
use Rattle.spec_control.specs.Hold.{Joined as IsJoined}
use Rattle.spec_control.specs.Names.{name_in, name_of, named_in, FitsNames, IsTold}
use Rattle.spec_control.specs.Row.{Row, nobody}
use Rattle.spec_control.specs.Rows.{obj}
use Rattle.spec_control.specs.Stage.{was_asked}
use Rattle.spec_control.specs.After.{after, answers_in, connects_to, kind_answer, with_hold}
use Rattle.spec_control.specs.Control.{Control, begun, draws, end_of, greet, is_end, next_pair, open_pair, owner_of}
use Rattle.spec_control.specs.ControlRun.{Joins, Fits, MayAnswerAll, all_pipes, attaches as attaches_to, connect_joins}
use Rattle.spec_control.specs.Reply.{reply_of}
use Rattle.control_laws.proofs.AskLemmas.{end_self}
use Rattle.control_laws.proofs.RootLemmas.{begun_kept}
use Rattle.desk.specs.Holding.{Holding, MayRefuse}
use Rattle.desk.specs.declared.given.Given.{Given}
use Rattle.desk.specs.declared.load.Load.{Load}
use Rattle.ctl_state.specs.declared.state.State.{State}
use Rattle.ctl_moves.specs.declared.notes.Notes.{Notes}
use Rattle.ctl_moves.specs.declared.owners.Owners.{Owners}
use Rattle.ctl_moves.specs.Connecting.{connected_now, Connects, MayConnect}
use Rattle.ctl_moves.specs.Joined.{Attaches}
use Rattle.ctl_moves.specs.JoinNoting.{joins_named, pipes_named}
use Rattle.ctl_moves.specs.Room.{AreOwners}
use Rattle.ctl_moves.proofs.ConnectingLemmas.{unstruck}
use Rattle.ctl_moves.proofs.PairLemmas.{Greeted, drawn_owner, greeted, opened_mine, opened_there, opened_within, pair_attaches}
use Rattle.ctl_plane.specs.Carried.{IsPlane}
use Rattle.ctl_plane.specs.Joining.{IsNoted, Lends}
use Rattle.ctl_plane.specs.Past.{Past, as_item, control_of, items_of}
use Rattle.ctl_moves.specs.Refusals.{refusal_in}
use Rattle.ctl_plane.proofs.FreshLemmas.{names_fresh}
use Rattle.ctl_plane.proofs.JoinHeldLemmas.{held_reply, may_answer}

-- ---- names
-- a name that is not among the first is found among the rest
pub name_behind : {N : Type 0} (e : EndId) (xs ys : List (PipeName N)) → name_in e xs ≡ None → name_in e (xs ++ ys) ≡ name_in e ys
name_behind e [] ys none = refl
name_behind e (x ∷ xs) ys none = by (is_end e x.pipe) (name_behind e xs ys) none
  where
    some_none : {X : Type 0} {n : X} → Some n ≡ None → ⊥
    some_none f = grind arith

    by : (b : Bool) → (name_in e xs ≡ None → name_in e (xs ++ ys) ≡ name_in e ys) → (if b then Some x.name else name_in e xs) ≡ None → (if b then Some x.name else name_in e (xs ++ ys)) ≡ name_in e ys
    by true later h = absurd (some_none h)
    by false later h = later h

-- the other end is another one
pub not_first : (k : ℕ) → is_end (end_of k false) (end_of k true) ≡ false
not_first k = and_false (k == k)
  where
    and_false : (b : Bool) → (b && false) ≡ false
    and_false true = refl
    and_false false = refl

module _ {N O I S : Type 0} (out_name : O → N) (in_name : I → N) (s : State (Load N O I)) (p : Past (Given N O I) N S) (spare : ℕ) (o : ObjId) (name : List ℕ) (binding : Binding) (plane : IsPlane out_name in_name s p spare) (h : Holding N)
    (lends : Lends (control_of p) o.0 h) (held : (control_of p).names.held (Inproc name) ≡ Some binding) (free : refusal_in (reply_of (control_of p) (Connect o (Inproc name))) ≡ None)
    (owners : Owners) (are : AreOwners (control_of p) o binding.holder owners) (wakers : ℕ) (w : MayConnect s h owners wakers) (same_control : w.control ≡ control_of p)
    (at : Endpoint) (at_is : at ≡ Inproc name) (pair : PairId) (notes : Notes N) (t : State (Load N O I)) (k : Holding N) (connected : Connects out_name in_name (control_of p) owners at pair notes s t h k) (a : Answered N S) (noted : IsNoted notes a) where
  abbrev c : Control
  c = control_of p

  abbrev pub did : Did N S
  did = Asked (Connect o (Inproc name)) (Pair pair) a

  abbrev first : EndId
  first = end_of pair.0 true

  joined_is : a.joined ≡ joins_named (end_of pair.0 true) (obj (control_of p).rows owners.last.0).options.id connected.answer connected.told ∷ []
  joined_is = noted.joined ∙ connected.joined

  opened_is : a.opened ≡ pipes_named (end_of pair.0 true) connected.told
  opened_is = noted.opened ∙ connected.opened

  kind_is : kind_answer a.joined (end_of pair.0 true) ≡ connected.answer
  kind_is = ap (λ (js : List (Joining N)). kind_answer js (end_of pair.0 true)) joined_is ∙ ap (λ (b : Bool). if b then connected.answer else Yes) (end_self (end_of pair.0 true))

  -- ---- what it leads to
  abbrev made : ℕ → ℕ → Endpoint → ℕ → Attached → List ℕ → Control
  made i b to n answer id = greet answer (end_of n true) (open_pair (end_of n true) (PipeBind (end_of n false) id) (draws i b (with_hold i (IsJoined to n None) (control_of p))))

  abbrev drawn_of : ℕ → ℕ
  drawn_of n = owner_of (draws o.0 binding.holder.0 (with_hold o.0 (IsJoined (Inproc name) n None) (control_of p))) (end_of n true)

  first_is : o.0 ≡ owners.first.0
  first_is = ap (λ (x : ObjId). x.0) (sym are.first)

  last_is : binding.holder.0 ≡ owners.last.0
  last_is = ap (λ (x : ObjId). x.0) (sym are.last)

  pub leads_to : after (Asked (Connect o (Inproc name)) (Pair pair) a) (control_of p) ≡ connected_now (control_of p) owners at pair.0 connected.answer
  leads_to =
      ap (λ (x : Option Binding). connects_to o.0 (Inproc name) x (answers_in a) c) held
      ∙ ap (λ (n : ℕ). made o.0 binding.holder.0 (Inproc name) n (kind_answer a.joined (end_of n true)) (obj c.rows (drawn_of n)).options.id) (sym connected.number)
      ∙ ap (λ (n : ℕ). made o.0 binding.holder.0 (Inproc name) pair.0 (kind_answer a.joined (end_of pair.0 true)) (obj c.rows n).options.id)
      (drawn_owner (with_hold o.0 (IsJoined (Inproc name) pair.0 None) c) o.0 binding.holder.0 (end_of pair.0 true) connected.number)
      ∙ ap (λ (x : Attached). made o.0 binding.holder.0 (Inproc name) pair.0 x (obj c.rows o.0).options.id) kind_is
      ∙ ap (λ (x : Endpoint). made o.0 binding.holder.0 x pair.0 connected.answer (obj c.rows o.0).options.id) (sym at_is)
      ∙ ap (λ (n : ℕ). made n binding.holder.0 at pair.0 connected.answer (obj c.rows n).options.id) first_is
      ∙ ap (λ (n : ℕ). made owners.first.0 n at pair.0 connected.answer (obj c.rows owners.first.0).options.id) last_is

  abbrev before : Control
  before = with_hold owners.first.0 (IsJoined at pair.0 None) (control_of p)

  abbrev bind : Word
  bind = PipeBind (end_of pair.0 false) (obj (control_of p).rows owners.first.0).options.id

  pub was_greeted : Greeted (end_of pair.0 true) (open_pair (end_of pair.0 true) (PipeBind (end_of pair.0 false) (obj (control_of p).rows owners.first.0).options.id) (draws owners.first.0 owners.last.0 (with_hold owners.first.0 (IsJoined at pair.0 None) (control_of p))))
      (connected_now (control_of p) owners at pair.0 connected.answer)
  was_greeted =
      greeted (end_of pair.0 true) (open_pair (end_of pair.0 true) bind (draws owners.first.0 owners.last.0 before)) (opened_there before owners.first.0 owners.last.0 (end_of pair.0 true) connected.number bind)
      (opened_within before owners.first.0 owners.last.0 (end_of pair.0 true) connected.number bind)
      (ap (λ (n : ℕ). was_asked (obj c.rows n).stage) (opened_mine before owners.first.0 owners.last.0 (end_of pair.0 true) connected.number bind) ∙ ap (λ (x : Control). was_asked (obj x.rows owners.first.0).stage) (sym same_control) ∙ w.unasked)
      (ap (λ (x : Control). x.struck (end_of pair.0 true)) (sym same_control) ∙ unstruck s h owners wakers w pair (connected.number ∙ plane.history.stands.pairs.many)) connected.answer

  pub pair_attached : Attaches (with_hold owners.first.0 (IsJoined at pair.0 None) (control_of p)) (connected_now (control_of p) owners at pair.0 connected.answer) owners.first.0 (end_of pair.0 true ∷ [])
  pair_attached = pair_attaches before owners.first.0 owners.last.0 (end_of pair.0 true) connected.number bind (connected_now c owners at pair.0 connected.answer) was_greeted

  pub objects_stay : (after (Asked (Connect o (Inproc name)) (Pair pair) a) (control_of p)).rows.objects ≡ (control_of p).rows.objects
  objects_stay = ap (λ (d : Control). d.rows.objects) leads_to ∙ was_greeted.objects

  -- ---- that it fits
  joined_said : map (λ j. let x : Joins = record { end = j.end; peer = j.peer; met = j.met } in x) a.joined ≡ connect_joins (control_of p) ((control_of p).names.held (Inproc name))
  joined_said =
      ap (λ (js : List (Joining N)). map (λ j. let x : Joins = record { end = j.end; peer = j.peer; met = j.met } in x) js) joined_is
      ∙ ap (λ (n : ℕ). attaches_to (end_of n true) (obj c.rows owners.last.0).options.id ∷ []) connected.number
      ∙ ap (λ (n : ℕ). attaches_to (end_of (next_pair c) true) (obj c.rows n).options.id ∷ []) (sym last_is)
      ∙ ap (connect_joins c) (sym held)

  opened_said : map (λ n. n.pipe) a.opened ≡ all_pipes (connect_joins (control_of p) ((control_of p).names.held (Inproc name)))
  opened_said =
      ap (λ (ns : List (PipeName N)). map (λ n. n.pipe) ns) opened_is
      ∙ ap (λ (n : ℕ). end_of n true ∷ end_of n false ∷ []) connected.number ∙ ap (λ (x : Option Binding). all_pipes (connect_joins c x)) (sym held)

  kinds_said : MayAnswerAll (after (Asked (Connect o (Inproc name)) (Pair pair) a) (control_of p)) a.joined
  kinds_said =
      subst (λ (js : List (Joining N)). MayAnswerAll (after did c) js) (sym joined_is) (
        may_answer (obj c.rows o.0) (obj (after did c).rows (owner_of (after did c) first)) (h.kind o.0) connected.answer row_is lends.socket.socket lends.socket.open_still lends.kind
            (subst (λ (x : ObjId). MayRefuse (h.kind x.0) connected.answer) are.first connected.refuses),
        tt,
      )
    where
      owner_is : owner_of (after (Asked (Connect o (Inproc name)) (Pair pair) a) (control_of p)) (end_of pair.0 true) ≡ o.0
      owner_is =
          ap (λ (d : Control). owner_of d first) leads_to
          ∙ All-head (λ e. owner_of (connected_now c owners at pair.0 connected.answer) e ≡ owners.first.0) first [] pair_attached.theirs ∙ sym first_is

      row_is : obj (after (Asked (Connect o (Inproc name)) (Pair pair) a) (control_of p)).rows (owner_of (after (Asked (Connect o (Inproc name)) (Pair pair) a) (control_of p)) (end_of pair.0 true)) ≡ obj (control_of p).rows o.0
      row_is = ap (obj (after did c).rows) owner_is ∙ ap (λ (rows : List Row). slice_index_or rows o.0 nobody) objects_stay

  pub event_fits : Fits (control_of p) (Asked (Connect o (Inproc name)) (Pair pair) a)
  event_fits = record {
    may = (lends.socket, ap (λ (n : ℕ). Pair (record { 0 = n })) connected.number ∙ sym (held_reply c o name binding held free));
    answered = record {
      joined = joined_said;
      kinds = kinds_said;
      opened = opened_said;
      settled = noted.settled;
      output = noted.output;
    };
  }

  -- ---- the names behind it
  abbrev items_then : List (Item N S)
  items_then = items_of p ++ as_item (Asked (Connect o (Inproc name)) (Pair pair) a) ∷ []

  name_then : (e : EndId) → e.pair.0 ≡ pair.0 → name_of (items_of p ++ as_item (Asked (Connect o (Inproc name)) (Pair pair) a) ∷ []) e ≡ name_in e (pipes_named (end_of pair.0 true) connected.told)
  name_then e same =
      ap (name_in e) (flat_map-append named_in (items_of p) (as_item did ∷ []))
      ∙ name_behind e (flat_map named_in (items_of p)) (a.opened ++ [])
      (names_fresh e (items_of p) (begun p.workers) (begun_kept p.workers) plane.history.run (let number = connected.number in omega (arith, number, same)))
      ∙ ap (name_in e) (append-nil a.opened ∙ opened_is)

  pub names_written : name_of (items_of p ++ as_item (Asked (Connect o (Inproc name)) (Pair pair) a) ∷ []) (end_of pair.0 true) ≡ Some connected.told.written
  names_written = name_then (end_of pair.0 true) refl ∙ ap (λ (b : Bool). if b then Some connected.told.written else name_in first (record { pipe = end_of pair.0 false; name = connected.told.read } ∷ [])) (end_self (end_of pair.0 true))

  pub names_read : name_of (items_of p ++ as_item (Asked (Connect o (Inproc name)) (Pair pair) a) ∷ []) (end_of pair.0 false) ≡ Some connected.told.read
  names_read =
      name_then (end_of pair.0 false) refl
      ∙ ap (λ (b : Bool). if b then Some connected.told.written else (if is_end (end_of pair.0 false) (end_of pair.0 false) then Some connected.told.read else None)) (not_first pair.0)
      ∙ ap (λ (b : Bool). if b then Some connected.told.read else None) (end_self (end_of pair.0 false))

  pub names_fit : FitsNames (items_of p) (as_item (Asked (Connect o (Inproc name)) (Pair pair) a))
  names_fit =
      subst (λ (js : List (Joining N)). All (IsTold items_then) js) (sym joined_is)
      (All-cons (IsTold items_then) (joins_named first (obj c.rows owners.last.0).options.id connected.answer connected.told) [] (record { written = names_written; read = names_read }) (All-nil (IsTold items_then)))
