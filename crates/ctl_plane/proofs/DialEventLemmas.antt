-- The event of a connect over tcp: what it is, that it fits, and the names that it gives.
use Rattle.std.specs.Prelude.{◌≡◌, ◌<◌, ◌≤◌, ◌+◌, ◌&&◌, ◌++◌, ◌∷◌, [], ℕ, Bool, true, false, not, List, Some, None, All, flat_map, if◌then◌else◌, length, map, slice_index_or, refl}
use Rattle.std.proofs.Common.{arith, sym, ap, ◌∙◌, subst}
use Rattle.std.proofs.lemmas.Bool.Decides.{Decides-ltb}
use Rattle.std.proofs.lemmas.List.{append-nil, get_or_append_left}
use Rattle.std.proofs.lemmas.List.Concat.{flat_map-append}
use Rattle.std.proofs.lemmas.List.Elements.{All-cons, All-head, All-nil}
use Rattle.zq_base.specs.declared.attached.Attached.{Attached}
use Rattle.zq_base.specs.declared.attached.Attached.TheVariants.{Yes}
use Rattle.zq_base.specs.declared.endpoint.Address.{Address}
use Rattle.zq_base.specs.declared.endpoint.Endpoint.TheVariants.{Tcp}
use Rattle.zq_base.specs.declared.ids.EndId.{EndId}
use Rattle.zq_base.specs.declared.ids.ObjId.{ObjId}
use Rattle.zq_base.specs.declared.ids.PairId.{PairId}
use Rattle.spec_control.specs.declared.entry.Answered.{Answered}
use Rattle.spec_control.specs.declared.entry.Did.{Did}
use Rattle.spec_control.specs.declared.entry.Did.TheVariants.{Asked}
use Rattle.spec_control.specs.declared.entry.Item.{Item}
use Rattle.spec_control.specs.declared.entry.Joining.{Joining}
use Rattle.spec_control.specs.declared.entry.PipeName.{PipeName}
use Rattle.spec_control.specs.declared.letter.Word.{Word}
use Rattle.spec_control.specs.declared.letter.Word.TheVariants.{Own, Plug}
use Rattle.spec_control.specs.declared.request.Req.TheVariants.{Connect}
use Rattle.spec_control.specs.declared.request.Refusal.TheVariants.{TooMany}
use Rattle.spec_control.specs.declared.request.Reply.{Reply}
use Rattle.spec_control.specs.declared.request.Reply.TheVariants.{Both}
use Rattle.spec_control.specs.Hold.{Joined as IsJoined}
use Rattle.spec_control.specs.Names.{name_in, name_of, named_in, FitsNames, IsTold}
use Rattle.spec_control.specs.Row.{Row, nobody}
use Rattle.spec_control.specs.Rows.{obj}
use Rattle.spec_control.specs.Stage.{was_asked}
use Rattle.spec_control.specs.After.{after, kind_answer, session_row, with_hold}
use Rattle.spec_control.specs.Control.{Control, begun, draws, end_of, greet, id, is_end, makes, next_object, next_pair, open_pair, owner_of, put}
use Rattle.spec_control.specs.ControlRun.{Joins, Fits, MayAnswerAll, all_pipes, attaches as attaches_to, request_joins}
use Rattle.spec_control.specs.Reply.{connect_reply, has_object, has_pairs, has_room, most_made_pairs, most_objects, reply_of, unless}
use Rattle.control_laws.proofs.AskLemmas.{end_self}
use Rattle.control_laws.proofs.ListLemmas.{never}
use Rattle.control_laws.proofs.RootLemmas.{begun_kept}
use Rattle.desk.specs.Holding.{Holding, MayRefuse}
use Rattle.desk.specs.Making.{MakesSo}
use Rattle.desk.specs.declared.given.Given.{Given}
use Rattle.desk.specs.declared.load.Load.{Load}
use Rattle.ctl_state.specs.declared.state.State.{State}
use Rattle.ctl_state.specs.Needs.{AreMet}
use Rattle.ctl_moves.specs.declared.notes.Notes.{Notes}
use Rattle.ctl_moves.specs.declared.owners.Owners.{Owners}
use Rattle.ctl_moves.specs.Dialing.{Dials, MayDial, MayMakeOut, dialed_now}
use Rattle.ctl_moves.specs.Joined.{Attaches}
use Rattle.ctl_moves.specs.JoinNoting.{joins_named, pipes_named}
use Rattle.ctl_moves.specs.Listening.{TakesServed}
use Rattle.ctl_moves.specs.Papers.{HasMarks}
use Rattle.ctl_moves.specs.Refusals.{refusal_in}
use Rattle.ctl_moves.specs.Serving.{AreServed, HasWorkers}
use Rattle.ctl_moves.proofs.DialingLemmas.{unstruck}
use Rattle.ctl_moves.proofs.PairLemmas.{Greeted, greeted, opened_mine, opened_there, opened_within, pair_attaches}
use Rattle.ctl_plane.specs.Carried.{IsPlane}
use Rattle.ctl_plane.specs.Hearing.{HasWhat}
use Rattle.ctl_plane.specs.Joining.{IsNoted, Lends}
use Rattle.ctl_plane.specs.Past.{Past, as_item, control_of, items_of}
use Rattle.ctl_plane.proofs.FreshLemmas.{names_fresh}
use Rattle.ctl_plane.proofs.HeldEventLemmas.{name_behind, not_first}
use Rattle.ctl_plane.proofs.JoinHeldLemmas.{may_answer}
use Rattle.ctl_plane.proofs.RefusalLemmas.{is_behind, passed}
use Rattle.ctl_plane.proofs.ServedLemmas.{takes_served, unasked}

-- ---- the answer
module _ (c : Control) (socket : ObjId) (at : Address) (free : refusal_in (reply_of c (Connect socket (Tcp at))) ≡ None) where
  abbrev made : Reply
  made = Both (id (next_object c)) (record { 0 = next_pair c })

  behind : reply_of c (Connect socket (Tcp at)) ≡ connect_reply socket.0 (Tcp at) c
  behind = is_behind c (connect_reply socket.0 (Tcp at) c) free

  roomy : not (has_room c) ≡ false
  roomy = passed (not (has_room c)) TooMany made (sym (ap refusal_in behind) ∙ free)

  pub dialed_reply : reply_of c (Connect socket (Tcp at)) ≡ Both (id (next_object c)) (record { 0 = next_pair c })
  dialed_reply = behind ∙ ap (λ (b : Bool). unless b TooMany made) roomy

  -- one more of each may be made
  pub record HasBoth : Type 0 where
    pub object : next_object c + 1 ≤ most_objects
    pub pair : next_pair c + 1 ≤ most_made_pairs + 1

  pub has_both : HasBoth
  has_both = by (has_object c) (has_pairs 1 c) refl refl roomy
    where
      by : (x y : Bool) → has_object c ≡ x → has_pairs 1 c ≡ y → not (x && y) ≡ false → HasBoth
      by true true is are e = record {
        object = (let less = (Decides-ltb (next_object c) most_objects).0 is in omega (arith, less));
        pair = (let less = (Decides-ltb (next_pair c + 1) (most_made_pairs + 2)).0 are in omega (arith, less));
      }
      by true false is are e = absurd (never (sym e))
      by false y is are e = absurd (never (sym e))

module _ {N O I S : Type 0} (out_name : O → N) (in_name : I → N) (s : State (Load N O I)) (p : Past (Given N O I) N S) (spare : ℕ) (socket : ObjId) (at : Address) (plane : IsPlane out_name in_name s p spare) (h : Holding N) (lends : Lends (control_of p) socket.0 h)
    (workers : HasWorkers (control_of p)) (o : Owners) (are : AreServed (control_of p) socket o) (met : AreMet s (control_of p)) (has : HasWhat p h) where
  pub marks_mine : HasMarks (obj (control_of p).rows o.first.0)
  marks_mine = subst (λ (x : ObjId). HasMarks (obj (control_of p).rows x.0)) (sym are.first) (lends.marked socket.0 (unasked s p spare plane.history socket lends.socket).socket)

  -- what the making of the session needs
  abbrev pub may_dial : MayDial s h o
  may_dial = record {
    control = control_of p;
    names = name_of (items_of p);
    stands = plane.history.stands;
    has = has;
    lent = ap (λ (x : ObjId). h.holds x.0) are.first ∙ lends.lent;
    served = subst (λ (x : ObjId). AreServed (control_of p) x o) (sym are.first) are;
    takes = subst (λ (x : ObjId). TakesServed s (control_of p) x) (sym are.first) (takes_served s p spare plane.history socket lends.socket met workers);
    unasked = ap (λ (x : ObjId). was_asked (obj (control_of p).rows x.0).stage) are.first ∙ (unasked s p spare plane.history socket lends.socket).unasked;
    marks = marks_mine;
    few_pairs = (let few_drawn = plane.history.pairs in omega (arith, few_drawn));
  }

  pub may_make_out : (may_make : EndId → ℕ → ℕ → Type 0) → MakesSo (control_of p) (Connect socket (Tcp at)) may_make → MayMakeOut s o may_make
  may_make_out may_make makes_it = record {
    control = control_of p;
    stands = plane.history.stands;
    marks = marks_mine;
    makes =
        subst (λ (x : ObjId). may_make (end_of (length s.pairs) true) (obj (control_of p).rows x.0).options.hwm (obj (control_of p).rows x.0).options.rcvhwm) (sym are.first)
        (subst (λ (n : ℕ). may_make (end_of n true) (obj (control_of p).rows socket.0).options.hwm (obj (control_of p).rows socket.0).options.rcvhwm) plane.history.stands.pairs.many
        (makes_it (end_of (next_pair (control_of p)) true) _ _ (record { place = 0; among = refl })));
  }

-- a connect over tcp that was done
pub record Dialed {N O I S : Type 0} (out_name : O → N) (in_name : I → N) (s : State (Load N O I)) (p : Past (Given N O I) N S) (spare : ℕ) (socket : ObjId) (at : Address) (h : Holding N) : Type 0 where
  pub plane : IsPlane out_name in_name s p spare
  pub lends : Lends (control_of p) socket.0 h
  pub free : refusal_in (reply_of (control_of p) (Connect socket (Tcp at))) ≡ None
  pub o : Owners
  pub are : AreServed (control_of p) socket o
  pub may : MayDial s h o
  pub same_control : may.control ≡ control_of p
  pub child : ObjId
  pub pair : PairId
  pub notes : Notes N
  pub t : State (Load N O I)
  pub k : Holding N
  pub dials : Dials out_name in_name (control_of p) o at child pair notes s t h k
  pub a : Answered N S
  pub noted : IsNoted notes a

module _ {N O I S : Type 0} (out_name : O → N) (in_name : I → N) (s : State (Load N O I)) (p : Past (Given N O I) N S) (spare : ℕ) (socket : ObjId) (at : Address) (h : Holding N) (d : Dialed out_name in_name s p spare socket at h) where
  abbrev c : Control
  c = control_of p

  abbrev pub did : Did N S
  did = Asked (Connect socket (Tcp at)) (Both d.child d.pair) d.a

  abbrev first : EndId
  first = end_of d.pair.0 true

  joined_is : d.a.joined ≡ joins_named (end_of d.pair.0 true) [] d.dials.answer d.dials.told ∷ []
  joined_is = d.noted.joined ∙ d.dials.joined

  opened_is : d.a.opened ≡ pipes_named (end_of d.pair.0 true) d.dials.told
  opened_is = d.noted.opened ∙ d.dials.opened

  kind_is : kind_answer d.a.joined (end_of d.pair.0 true) ≡ d.dials.answer
  kind_is = ap (λ (js : List (Joining N)). kind_answer js (end_of d.pair.0 true)) joined_is ∙ ap (λ (b : Bool). if b then d.dials.answer else Yes) (end_self (end_of d.pair.0 true))

  -- ---- what it leads to
  abbrev made_of : ℕ → ℕ → ℕ → Attached → Control
  made_of i n k answer =
      greet answer (end_of k true) (open_pair (end_of k true) (Plug (Some (end_of k false))) (put i (Own (id n)) (draws i n (makes (session_row i (control_of p)) (with_hold i (IsJoined (Tcp at) k (Some n)) (control_of p))))))

  abbrev pub dialed : Control
  dialed = dialed_now (control_of p) d.o.first d.child at d.pair.0 d.dials.answer

  pub dial_leads : after (Asked (Connect socket (Tcp at)) (Both d.child d.pair) d.a) (control_of p) ≡ dialed_now (control_of p) d.o.first d.child at d.pair.0 d.dials.answer
  dial_leads =
      ap (λ (n : ℕ). made_of socket.0 n (next_pair c) (kind_answer d.a.joined (end_of (next_pair c) true))) (sym d.dials.child_is)
      ∙ ap (λ (n : ℕ). made_of socket.0 d.child.0 n (kind_answer d.a.joined (end_of n true))) (sym d.dials.number)
      ∙ ap (made_of socket.0 d.child.0 d.pair.0) kind_is
      ∙ ap (λ (x : ObjId). made_of x.0 d.child.0 d.pair.0 d.dials.answer) (sym d.are.first)

  -- before the pair's number is drawn
  abbrev pub base : Control
  base = put d.o.first.0 (Own d.child) (makes (session_row d.o.first.0 (control_of p)) (with_hold d.o.first.0 (IsJoined (Tcp at) d.pair.0 (Some d.child.0)) (control_of p)))

  abbrev pub bind : Word
  bind = Plug (Some (end_of d.pair.0 false))

  there : d.o.first.0 < next_object (control_of p)
  there = subst (λ (x : Control). d.o.first.0 < next_object x) d.same_control d.may.takes.there

  pub row_before : (i : ℕ) → i < next_object (control_of p) → obj (base).rows i ≡ obj (control_of p).rows i
  row_before i less = get_or_append_left (control_of p).rows.objects (session_row d.o.first.0 (control_of p) ∷ []) nobody i less

  pub dial_greeted : Greeted (end_of d.pair.0 true) (open_pair (end_of d.pair.0 true) bind (draws d.o.first.0 d.child.0 base)) dialed
  dial_greeted =
      greeted first (open_pair first bind (draws d.o.first.0 d.child.0 base)) (opened_there base d.o.first.0 d.child.0 first d.dials.number bind)
      (opened_within base d.o.first.0 d.child.0 first d.dials.number bind)
      (ap (λ (n : ℕ). was_asked (obj base.rows n).stage) (opened_mine base d.o.first.0 d.child.0 first d.dials.number bind) ∙ ap (λ (r : Row). was_asked r.stage) (row_before d.o.first.0 there)
      ∙ ap (λ (x : Control). was_asked (obj x.rows d.o.first.0).stage) (sym d.same_control) ∙ d.may.unasked)
      (ap (λ (x : Control). x.struck first) (sym d.same_control) ∙ unstruck s h d.o d.may d.pair (d.dials.number ∙ d.plane.history.stands.pairs.many)) d.dials.answer

  pub dial_attached : Attaches base dialed d.o.first.0 (end_of d.pair.0 true ∷ [])
  dial_attached = pair_attaches base d.o.first.0 d.child.0 first d.dials.number bind dialed dial_greeted

  pub objects_more : (after (Asked (Connect socket (Tcp at)) (Both d.child d.pair) d.a) (control_of p)).rows.objects ≡ (control_of p).rows.objects ++ session_row d.o.first.0 (control_of p) ∷ []
  objects_more = ap (λ (x : Control). x.rows.objects) dial_leads ∙ dial_greeted.objects

  -- ---- that it fits
  joined_said : map (λ j. let x : Joins = record { end = j.end; peer = j.peer; met = j.met } in x) d.a.joined ≡ request_joins (control_of p) (Connect socket (Tcp at))
  joined_said =
      ap (λ (js : List (Joining N)). map (λ j. let x : Joins = record { end = j.end; peer = j.peer; met = j.met } in x) js) joined_is
      ∙ ap (λ (n : ℕ). attaches_to (end_of n true) [] ∷ []) d.dials.number

  opened_said : map (λ n. n.pipe) d.a.opened ≡ all_pipes (request_joins (control_of p) (Connect socket (Tcp at)))
  opened_said =
      ap (λ (ns : List (PipeName N)). map (λ n. n.pipe) ns) opened_is
      ∙ ap (λ (n : ℕ). end_of n true ∷ end_of n false ∷ []) d.dials.number

  kinds_said : MayAnswerAll (after (Asked (Connect socket (Tcp at)) (Both d.child d.pair) d.a) (control_of p)) d.a.joined
  kinds_said =
      subst (λ (js : List (Joining N)). MayAnswerAll (after did c) js) (sym joined_is) (
        may_answer (obj c.rows socket.0) (obj (after did c).rows (owner_of (after did c) first)) (h.kind socket.0) d.dials.answer row_is d.lends.socket.socket d.lends.socket.open_still d.lends.kind
            (subst (λ (x : ObjId). MayRefuse (h.kind x.0) d.dials.answer) d.are.first d.dials.refuses),
        tt,
      )
    where
      owner_is : owner_of (after (Asked (Connect socket (Tcp at)) (Both d.child d.pair) d.a) (control_of p)) (end_of d.pair.0 true) ≡ d.o.first.0
      owner_is = ap (λ (x : Control). owner_of x first) dial_leads ∙ All-head (λ e. owner_of dialed e ≡ d.o.first.0) first [] dial_attached.theirs

      row_is : obj (after (Asked (Connect socket (Tcp at)) (Both d.child d.pair) d.a) (control_of p)).rows (owner_of (after (Asked (Connect socket (Tcp at)) (Both d.child d.pair) d.a) (control_of p)) (end_of d.pair.0 true)) ≡ obj (control_of p).rows socket.0
      row_is =
          ap (obj (after did c).rows) owner_is ∙ ap (λ (rows : List Row). slice_index_or rows d.o.first.0 nobody) objects_more ∙ row_before d.o.first.0 there
          ∙ ap (λ (x : ObjId). obj c.rows x.0) d.are.first

  pub dial_reply : Both d.child d.pair ≡ reply_of (control_of p) (Connect socket (Tcp at))
  dial_reply =
      ap (λ (n : ℕ). Both (id n) d.pair) d.dials.child_is ∙ ap (λ (n : ℕ). Both (id (next_object c)) (record { 0 = n })) d.dials.number
      ∙ sym (dialed_reply c socket at d.free)

  pub dial_fits : Fits (control_of p) (Asked (Connect socket (Tcp at)) (Both d.child d.pair) d.a)
  dial_fits = record {
    may = (d.lends.socket, dial_reply);
    answered = record {
      joined = joined_said;
      kinds = kinds_said;
      opened = opened_said;
      settled = d.noted.settled;
      output = d.noted.output;
    };
  }

  -- ---- the names behind it
  abbrev items_then : List (Item N S)
  items_then = items_of p ++ as_item (Asked (Connect socket (Tcp at)) (Both d.child d.pair) d.a) ∷ []

  name_then : (e : EndId) → e.pair.0 ≡ d.pair.0 → name_of (items_of p ++ as_item (Asked (Connect socket (Tcp at)) (Both d.child d.pair) d.a) ∷ []) e ≡ name_in e (pipes_named (end_of d.pair.0 true) d.dials.told)
  name_then e same =
      ap (name_in e) (flat_map-append named_in (items_of p) (as_item did ∷ []))
      ∙ name_behind e (flat_map named_in (items_of p)) (d.a.opened ++ [])
      (names_fresh e (items_of p) (begun p.workers) (begun_kept p.workers) d.plane.history.run (let number = d.dials.number in omega (arith, number, same)))
      ∙ ap (name_in e) (append-nil d.a.opened ∙ opened_is)

  pub dial_written : name_of (items_of p ++ as_item (Asked (Connect socket (Tcp at)) (Both d.child d.pair) d.a) ∷ []) (end_of d.pair.0 true) ≡ Some d.dials.told.written
  dial_written = name_then (end_of d.pair.0 true) refl ∙ ap (λ (b : Bool). if b then Some d.dials.told.written else name_in first (record { pipe = end_of d.pair.0 false; name = d.dials.told.read } ∷ [])) (end_self (end_of d.pair.0 true))

  pub dial_read : name_of (items_of p ++ as_item (Asked (Connect socket (Tcp at)) (Both d.child d.pair) d.a) ∷ []) (end_of d.pair.0 false) ≡ Some d.dials.told.read
  dial_read =
      name_then (end_of d.pair.0 false) refl
      ∙ ap (λ (b : Bool). if b then Some d.dials.told.written else (if is_end (end_of d.pair.0 false) (end_of d.pair.0 false) then Some d.dials.told.read else None)) (not_first d.pair.0)
      ∙ ap (λ (b : Bool). if b then Some d.dials.told.read else None) (end_self (end_of d.pair.0 false))

  pub dial_names : FitsNames (items_of p) (as_item (Asked (Connect socket (Tcp at)) (Both d.child d.pair) d.a))
  dial_names =
      subst (λ (js : List (Joining N)). All (IsTold items_then) js) (sym joined_is)
      (All-cons (IsTold items_then) (joins_named first [] d.dials.answer d.dials.told) [] (record { written = dial_written; read = dial_read }) (All-nil (IsTold items_then)))
