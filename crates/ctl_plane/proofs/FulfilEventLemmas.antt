-- The event of a bind that fulfils connects: what it is, that it fits, and the names that it gives.
use Rattle.std.specs.Prelude.{◌≡◌, ◌≤◌, ◌++◌, ◌∷◌, [], ℕ, true, List, None, All, flat_map, map, slice_index_or}
use Rattle.std.proofs.Common.{arith, sym, ap, ◌∙◌, subst}
use Rattle.std.proofs.lemmas.List.{append-nil}
use Rattle.std.proofs.lemmas.List.Concat.{flat_map-append}
use Rattle.std.proofs.lemmas.List.Elements.{All-head, All-map, All-tail, All-weaker}
use Rattle.zq_base.specs.declared.endpoint.Endpoint.{Endpoint}
use Rattle.zq_base.specs.declared.endpoint.Endpoint.TheVariants.{Inproc}
use Rattle.zq_base.specs.declared.ids.EndId.{EndId}
use Rattle.zq_base.specs.declared.ids.ObjId.{ObjId}
use Rattle.spec_control.specs.declared.book.Waiting.{Waiting}
use Rattle.spec_control.specs.declared.entry.Answered.{Answered}
use Rattle.spec_control.specs.declared.entry.Did.{Did}
use Rattle.spec_control.specs.declared.entry.Did.TheVariants.{Asked}
use Rattle.spec_control.specs.declared.entry.Item.{Item}
use Rattle.spec_control.specs.declared.entry.Joining.{Joining}
use Rattle.spec_control.specs.declared.entry.PipeName.{PipeName}
use Rattle.spec_control.specs.declared.request.Req.TheVariants.{Bind}
use Rattle.spec_control.specs.declared.request.Reply.TheVariants.{Done}
use Rattle.spec_control.specs.EndpointBook.{waiters}
use Rattle.spec_control.specs.Register.{fulfilled_by}
use Rattle.spec_control.specs.Names.{name_in, name_of, named_in, FitsNames, IsTold}
use Rattle.spec_control.specs.Row.{Row, nobody}
use Rattle.spec_control.specs.Rows.{obj}
use Rattle.spec_control.specs.After.{after, answers_in, binding_by, kind_answer}
use Rattle.spec_control.specs.Control.{Control, begun, end_of, next_pair, owner_of}
use Rattle.spec_control.specs.ControlRun.{Joins, Fits, MayAnswer, MayAnswerAll, all_pipes, bind_joins}
use Rattle.spec_control.specs.Reply.{reply_of}
use Rattle.control_laws.specs.Kept.{IsUnasked}
use Rattle.control_laws.proofs.JoinLemmas.{open_is}
use Rattle.control_laws.proofs.RootLemmas.{begun_kept}
use Rattle.desk.specs.Holding.{Holding}
use Rattle.desk.specs.declared.given.Given.{Given}
use Rattle.desk.specs.declared.load.Load.{Load}
use Rattle.ctl_state.specs.declared.state.State.{State}
use Rattle.ctl_moves.specs.declared.notes.Notes.{Notes}
use Rattle.ctl_moves.specs.declared.batch.Drawn.{Drawn}
use Rattle.ctl_moves.specs.Batch.{AreNames, first_of, joins_of, opened_of}
use Rattle.ctl_moves.specs.Drawing.{IsDrawn}
use Rattle.ctl_moves.specs.Pairing.{fulfilled_all}
use Rattle.ctl_moves.proofs.TakenLemmas.{all_from}
use Rattle.ctl_moves.proofs.AnswerLemmas.{answers_are, joins_are, names_are, pipes_are}
use Rattle.ctl_moves.proofs.FulfilLemmas.{AreFor, AreMade, all_made, are_for, fulfil_is}
use Rattle.ctl_moves.proofs.ReadyLemmas.{all_of}
use Rattle.ctl_moves.specs.Naming.{bound_now}
use Rattle.ctl_plane.specs.Carried.{IsPlane}
use Rattle.ctl_plane.specs.Fulfilling.{Fulfils}
use Rattle.ctl_plane.specs.Joining.{IsNoted, Lends}
use Rattle.ctl_plane.specs.Past.{Past, as_item, control_of, items_of}
use Rattle.ctl_moves.specs.Refusals.{refusal_in}
use Rattle.ctl_plane.proofs.BindLemmas.{bind_done}
use Rattle.ctl_plane.proofs.EventLemmas.{kept_past}
use Rattle.ctl_plane.proofs.FreshLemmas.{names_fresh}
use Rattle.ctl_plane.proofs.HeldEventLemmas.{name_behind}
use Rattle.ctl_plane.proofs.JoinHeldLemmas.{may_answer}

-- each may be answered so, and so may all
all_answered : {N O I : Type 0} (c e : Control) (ds : List (Drawn N O I)) → All (λ d. MayAnswer (obj e.rows (owner_of e (first_of d))) d.answer) ds → MayAnswerAll e (map (joins_of c) ds)
all_answered c e [] all = tt
all_answered c e (d ∷ ds) all =
    (All-head (λ x. MayAnswer (obj e.rows (owner_of e (first_of x))) x.answer) d ds all, all_answered c e ds (All-tail (λ x. MayAnswer (obj e.rows (owner_of e (first_of x))) x.answer) d ds all))

-- the connects that a bind fulfils
abbrev pub waits_for_it : Control → ObjId → List ℕ → List Waiting
waits_for_it c o name = fulfilled_by (Inproc name) (binding_by o.0 c) c.names

module _ {N O I S : Type 0} (out_name : O → N) (in_name : I → N) (s : State (Load N O I)) (p : Past (Given N O I) N S) (spare : ℕ) (o : ObjId) (name : List ℕ) (plane : IsPlane out_name in_name s p spare) (h : Holding N)
    (lends : Lends (control_of p) o.0 h) (allowed : refusal_in (reply_of (control_of p) (Bind o (Inproc name))) ≡ None) (notes : Notes N) (t : State (Load N O I)) (k : Holding N)
    (fulfils : Fulfils out_name in_name (control_of p) o (Inproc name) (waiters (waits_for_it (control_of p) o name)) notes s t h k) (a : Answered N S) (noted : IsNoted notes a) where
  abbrev c : Control
  c = control_of p

  abbrev at : Endpoint
  at = Inproc name

  abbrev ws : List Waiting
  ws = waits_for_it (control_of p) o name

  abbrev pub ds : List (Drawn N O I)
  ds = fulfils.drawn

  abbrev did : Did N S
  did = Asked (Bind o (Inproc name)) Done a

  -- the control state with the name held
  abbrev held : Control
  held = bound_now o.0 (Inproc name) (control_of p)

  pub are : AreFor (waits_for_it (control_of p) o name) fulfils.drawn
  are = are_for ws ds fulfils.waiters

  pub mine : All (λ (d : Drawn N O I). d.o.first.0 ≡ o.0) fulfils.drawn
  mine = All-weaker (IsDrawn out_name in_name c o (h.kind o.0)) (λ (d : Drawn N O I). d.o.first.0 ≡ o.0) (λ d is. ap (λ (x : ObjId). x.0) is.owners.first) ds fulfils.each

  joined_is : a.joined ≡ map (joins_of (control_of p)) fulfils.drawn
  joined_is = noted.joined ∙ fulfils.joined

  opened_is : a.opened ≡ flat_map opened_of fulfils.drawn
  opened_is = noted.opened ∙ fulfils.opened

  -- ---- what it leads to
  kinds_are : All (λ (d : Drawn N O I). kind_answer a.joined (first_of d) ≡ d.answer) fulfils.drawn
  kinds_are = subst (λ (js : List (Joining N)). All (λ (d : Drawn N O I). kind_answer js (first_of d) ≡ d.answer) ds) (sym joined_is) (answers_are c (next_pair c) ds fulfils.numbers)

  pub leads_to : after (Asked (Bind o (Inproc name)) Done a) (control_of p) ≡ fulfilled_all (Inproc name) fulfils.drawn (bound_now o.0 (Inproc name) (control_of p))
  leads_to =
      fulfil_is at o.0 (answers_in a) ws ds held are fulfils.numbers mine
      (All-weaker (IsDrawn out_name in_name c o (h.kind o.0)) (λ (d : Drawn N O I). d.identity ≡ (obj held.rows o.0).options.id) (λ d is. is.identity) ds fulfils.each) kinds_are

  unasked : IsUnasked (control_of p).rows o.0
  unasked = open_is c o.0 (kept_past p plane.history.run) lends.socket

  pub made : AreMade (bound_now o.0 (Inproc name) (control_of p)) (fulfilled_all (Inproc name) fulfils.drawn (bound_now o.0 (Inproc name) (control_of p))) o.0 fulfils.drawn
  made = all_made at ds held o.0 fulfils.numbers mine unasked.unasked fulfils.unstruck

  pub objects_stay : (after (Asked (Bind o (Inproc name)) Done a) (control_of p)).rows.objects ≡ (control_of p).rows.objects
  objects_stay = ap (λ (d : Control). d.rows.objects) leads_to ∙ made.objects

  -- ---- that it fits
  joined_said : map (λ j. let x : Joins = record { end = j.end; peer = j.peer; met = j.met } in x) a.joined ≡ bind_joins (control_of p) (next_pair (control_of p)) (waits_for_it (control_of p) o name)
  joined_said = ap (λ (js : List (Joining N)). map (λ j. let x : Joins = record { end = j.end; peer = j.peer; met = j.met } in x) js) joined_is ∙ joins_are c (next_pair c) ws ds are fulfils.numbers

  opened_said : map (λ n. n.pipe) a.opened ≡ all_pipes (bind_joins (control_of p) (next_pair (control_of p)) (waits_for_it (control_of p) o name))
  opened_said = ap (λ (ns : List (PipeName N)). map (λ n. n.pipe) ns) opened_is ∙ pipes_are c (next_pair c) ws ds are fulfils.numbers

  kinds_said : MayAnswerAll (after (Asked (Bind o (Inproc name)) Done a) (control_of p)) a.joined
  kinds_said =
      subst (λ (js : List (Joining N)). MayAnswerAll (after did c) js) (sym joined_is)
      (all_answered c (after did c) ds (λ j y lt.
      let x : Drawn N O I = slice_index_or ds j y in
      may_answer (obj c.rows o.0) (obj (after did c).rows (owner_of (after did c) (first_of x))) (h.kind o.0) x.answer (row_is (first_of x) (theirs j y lt)) lends.socket.socket lends.socket.open_still lends.kind (fulfils.each j y lt).refuses))
    where
      theirs : All (λ (d : Drawn N O I). owner_of (fulfilled_all (Inproc name) fulfils.drawn (bound_now o.0 (Inproc name) (control_of p))) (first_of d) ≡ o.0) fulfils.drawn
      theirs = all_of first_of (λ (e : EndId). owner_of (fulfilled_all at ds held) e ≡ o.0) ds made.attaches.theirs

      row_is : (e : EndId) → owner_of (fulfilled_all (Inproc name) fulfils.drawn (bound_now o.0 (Inproc name) (control_of p))) e ≡ o.0 →
          obj (after (Asked (Bind o (Inproc name)) Done a) (control_of p)).rows (owner_of (after (Asked (Bind o (Inproc name)) Done a) (control_of p)) e) ≡ obj (control_of p).rows o.0
      row_is e is = ap (obj (after did c).rows) (ap (λ (d : Control). owner_of d e) leads_to ∙ is) ∙ ap (λ (rows : List Row). slice_index_or rows o.0 nobody) objects_stay

  pub event_fits : Fits (control_of p) (Asked (Bind o (Inproc name)) Done a)
  event_fits = record {
    may = (lends.socket, sym (bind_done c o name allowed));
    answered = record {
      joined = joined_said;
      kinds = kinds_said;
      opened = opened_said;
      settled = noted.settled;
      output = noted.output;
    };
  }

  -- ---- the names behind it
  abbrev items_then : List (Item N S)
  items_then = items_of p ++ as_item (Asked (Bind o (Inproc name)) Done a) ∷ []

  name_then : (e : EndId) → next_pair (control_of p) ≤ e.pair.0 → name_of (items_of p ++ as_item (Asked (Bind o (Inproc name)) Done a) ∷ []) e ≡ name_in e (flat_map opened_of fulfils.drawn)
  name_then e past =
      ap (name_in e) (flat_map-append named_in (items_of p) (as_item did ∷ []))
      ∙ name_behind e (flat_map named_in (items_of p)) (a.opened ++ []) (names_fresh e (items_of p) (begun p.workers) (begun_kept p.workers) plane.history.run past)
      ∙ ap (name_in e) (append-nil a.opened ∙ opened_is)

  pub names_then : AreNames (name_of (items_of p ++ as_item (Asked (Bind o (Inproc name)) Done a) ∷ [])) fulfils.drawn
  names_then j y lt =
      let x : Drawn N O I = slice_index_or ds j y in
      let past = all_from (next_pair c) ds fulfils.numbers (next_pair c) (omega arith) j y lt in
      let said = names_are (next_pair c) ds fulfils.numbers j y lt in
      (name_then (end_of x.pair.0 true) past ∙ said.0, name_then (first_of x) past ∙ said.1)

  pub names_fit : FitsNames (items_of p) (as_item (Asked (Bind o (Inproc name)) Done a))
  names_fit =
      subst (λ (js : List (Joining N)). All (IsTold items_then) js) (sym joined_is)
      (All-map (IsTold items_then) (joins_of c) ds (λ j y lt. let named = names_then j y lt in record { written = named.1; read = named.0 }))
