-- The oldest command of the mailbox of an object that a lent holder has.
use Rattle.std.specs.Prelude.{◌≡◌, ◌≢◌, ◌<◌, ◌==◌, ◌&&◌, ◌||◌, ◌++◌, ◌∷◌, [], ℕ, zero, suc, Bool, true, false, not, List, Option, Some, None, All, refl}
use Rattle.std.specs.List.{list_any}
use Rattle.std.proofs.Common.{arith, sym, ap, ◌∙◌, subst}
use Rattle.std.proofs.lemmas.Bool.{eq-eqb, eqb-true}
use Rattle.std.proofs.lemmas.List.{get_or_default}
use Rattle.std.proofs.lemmas.List.Elements.{All-nil, All-cons, All-weaker}
use Rattle.std.proofs.lemmas.List.Folds.{list_any_none}
use Rattle.zq_base.specs.Ends.{other_end}
use Rattle.zq_base.specs.declared.kind.Kind.{Kind}
use Rattle.zq_base.specs.declared.ids.EndId.{EndId}
use Rattle.zq_base.specs.declared.ids.ObjId.{ObjId}
use Rattle.spec_control.specs.declared.letter.Letter.{Letter}
use Rattle.spec_control.specs.declared.letter.Word.{Word}
use Rattle.spec_control.specs.declared.letter.Word.TheVariants.{Own, Plug, TermReq, Term, TermAck, PipeBind, PipeTerm, PipeTermAck, Stop, Reap}
use Rattle.spec_control.specs.declared.entry.Answered.{Answered}
use Rattle.spec_control.specs.declared.entry.Did.{Did}
use Rattle.spec_control.specs.declared.entry.Did.TheVariants.{Delivered, Delimited}
use Rattle.spec_control.specs.declared.stage.Use.TheVariants.{Unused, Used}
use Rattle.spec_control.specs.Stage.{has_ended, is_alive, is_coming, is_unused, is_used}
use Rattle.spec_control.specs.Place.{is_away}
use Rattle.spec_control.specs.Row.{Row, is_socket, nobody, owner_fits, socket_fits, stage_fits}
use Rattle.spec_control.specs.Rows.{obj}
use Rattle.spec_control.specs.Control.{Control, begun, id, is_end, next_object, owner_of, place_of}
use Rattle.spec_control.specs.ControlRun.{after_all, is_between}
use Rattle.spec_control.specs.Names.{name_in, name_of}
use Rattle.spec_control.specs.Held.{Held, items_by}
use Rattle.spec_control.specs.Has.{IsBy, acts_at_word, has_after, taken_by_word, unless_root}
use Rattle.spec_control.specs.Moments.{items_in, left_after}
use Rattle.control_laws.proofs.ListLemmas.{never, left, right, placed}
use Rattle.control_laws.proofs.QuietLemmas.{socket_owner}
use Rattle.control_laws.proofs.StepLemmas.{inv_of}
use Rattle.control_laws.specs.Kept.{Kept}
use Rattle.control_laws.proofs.AskLemmas.{end_self}
use Rattle.control_laws.proofs.EndLemmas.{kept_but}
use Rattle.control_laws.proofs.RootLemmas.{begun_kept, oldest_lives}
use Rattle.control_laws.proofs.TellLemmas.{rows_of}
use Rattle.control_laws.specs.OwnMoves.{word_moves}
use Rattle.control_laws.proofs.GuardLemmas.{may_come}
use Rattle.desk.specs.declared.halves.Halves.{Halves}
use Rattle.desk.specs.Holding.{Holding, has_end}
use Rattle.desk.specs.Lent.{has_writer}
use Rattle.desk.specs.Load.{brings_ends}
use Rattle.desk.specs.Output.{LeavesOnce}
use Rattle.ctl_moves.specs.Attaching.{KindFits}
use Rattle.desk.specs.Coming.{AreDistinct, BindsFit}
use Rattle.desk.specs.Desk.{HasWhatTheySay}
use Rattle.desk.specs.Kinds.{kind_after}
use Rattle.ctl_plane.specs.Hearing.{AreApart, AreOfKind, FitBinds, IsServed, NotesDelimiter}
use Rattle.ctl_plane.specs.Past.{Past, control_of, items_of}
use Rattle.control_laws.proofs.MomentLemmas.{own_moments}
use Rattle.control_laws.proofs.HeldOpenLemmas.{sockets_are_open}
use Rattle.control_laws.proofs.HeldRowLemmas.{makes_object}
use Rattle.control_laws.proofs.SlotLemmas.{slot_left}
use Rattle.control_laws.proofs.SoundLemmas.{socket_there}
use Rattle.plain_desk.specs.declared.mark.Mark.{Mark}
use Rattle.plain_desk.specs.declared.mark.Mark.TheVariants.{Event}
use Rattle.plain_desk.specs.Order.{order_of, AreMarked}
use Rattle.plain_desk.specs.Lent.{IsLent, IsOfSocket, Lent, Meets, coming_to, lent_to, moments_of}
use Rattle.plain_desk.proofs.AckLemmas.{acked_gave}
use Rattle.plain_desk.proofs.BoxLemmas.{same_box, slot_there, socket_slot}
use Rattle.plain_desk.proofs.FitLemmas.{order_names}
use Rattle.plain_desk.proofs.HoldLemmas.{desk_free, desk_had, desk_has, desk_kind}
use Rattle.plain_desk.proofs.LentLemmas.{control_is, kept_of}
use Rattle.plain_desk.proofs.OrderLemmas.{event_more}
use Rattle.control_laws.proofs.UnpluggedLemmas.{sockets_are_plugged}
use Rattle.plain_desk.proofs.PluggedLemmas.{had_are_in}

none_some : {X : Type 0} {x : X} → None ≡ Some x → ⊥
none_some e = Prim.grind arith

some_is : {X : Type 0} {x y : X} → Some x ≡ Some y → x ≡ y
some_is e = Prim.grind arith

true_and : (a b : Bool) → a ≡ true → b ≡ true → (a && b) ≡ true
true_and true b h k = k
true_and false b h k = absurd (never h)

pub and_false : (a b : Bool) → (b ≡ true → a ≡ false) → (a && b) ≡ false
and_false true true h = h refl
and_false true false h = refl
and_false false b h = refl

-- each of these ends is among them
each_in : {N : Type 0} (hs : List (Held N)) → All (λ x. has_end x.end hs ≡ true) hs
each_in {N = N} [] = All-nil (λ (x : Held N). has_end {N = N} x.end [] ≡ true)
each_in {N = N} (x ∷ hs) =
    All-cons (λ (y : Held N). has_end y.end (x ∷ hs) ≡ true) x hs (first (is_end x.end x.end) (has_end x.end hs) (end_self x.end))
    (All-weaker (λ (y : Held N). has_end y.end hs ≡ true) (λ (y : Held N). has_end y.end (x ∷ hs) ≡ true) (λ y h. later (is_end y.end x.end) (has_end y.end hs) h) hs (each_in hs))
  where
    first : (a b : Bool) → a ≡ true → (a || b) ≡ true
    first true b h = refl
    first false b h = absurd (never h)

    later : (a b : Bool) → b ≡ true → (a || b) ≡ true
    later true b h = refl
    later false b h = h

-- the object that acts is the addressee
pub acts_to : (to i : ℕ) (word : Word) → acts_at_word to word ≡ Some i → to ≡ i
acts_to to i word = by word
  where
    of : (to : ℕ) → unless_root to ≡ Some i → to ≡ i
    of zero e = absurd (none_some e)
    of (suc n) e = some_is e

    by : (word : Word) → acts_at_word to word ≡ Some i → to ≡ i
    by (Own child) e = of to e
    by (Plug end) e = absurd (none_some e)
    by (TermReq child) e = of to e
    by Term e = of to e
    by (TermAck child) e = of to e
    by (PipeBind end peer) e = of to e
    by (PipeTerm end) e = of to e
    by (PipeTermAck end) e = of to e
    by Stop e = of to e
    by (Reap socket) e = absurd (none_some e)

-- no command makes an object
pub word_none : (to : ℕ) (word : Word) → list_any makes_object (word_moves to word) ≡ false
word_none to (Own child) = refl
word_none to (Plug None) = refl
word_none to (Plug (Some e)) = refl
word_none to (TermReq child) = refl
word_none to Term = refl
word_none to (TermAck child) = refl
word_none to (PipeBind e peer) = refl
word_none to (PipeTerm e) = refl
word_none to (PipeTermAck e) = refl
word_none to Stop = refl
word_none to (Reap socket) = refl

-- a Reap comes to the root
pub reap_root : (c : Control) → Kept c → (slot : ℕ) (rest : List Letter) (to : ℕ) (socket : ObjId) → c.boxes slot ≡ record { to = id to; word = Reap socket } ∷ rest → to ≡ 0
reap_root c kept slot rest to socket is =
    let comes = may_come c kept slot rest to (Reap socket) is in
    let o = obj c.rows socket.0 in
    let row = (inv_of (rows_of (kept_but 0 c kept))).fits socket.0 in
    let owner = socket_owner o.kind o.owner (left (owner_fits o.kind o.owner) _ (right (socket_fits (is_socket o.kind) (is_alive o.stage) (is_used o.request) (is_unused o.stop)) _ (right (stage_fits o.stage o.noted o.plugged o.request o.stop) _ row)))
    (right (is_alive o.stage) _ (right (is_coming o.request) _ comes.comes)) in
    some_is (sym comes.owner ∙ owner)

-- and a Plug to an object that was not taken in
pub plug_not : (c : Control) → Kept c → (slot : ℕ) (rest : List Letter) (to : ℕ) (end : Option EndId) → c.boxes slot ≡ record { to = id to; word = Plug end } ∷ rest → (obj c.rows to).plugged ≡ true → ⊥
plug_not c kept slot rest to None is plugged = never (sym (ap not plugged) ∙ may_come c kept slot rest to (Plug None) is)
plug_not c kept slot rest to (Some e) is plugged = never (sym (ap not plugged) ∙ (may_come c kept slot rest to (Plug (Some e)) is).0)

-- ---- the mailbox of an object
module _ {G N S : Type 0} (ms : List Mark) (past : Past G N S) (wakers by : ℕ) (l : Lent G N S) (seen : lent_to by ms past ≡ l) (lent : IsLent ms past wakers) where
  desk_slot : (i : ℕ) → has_after i (items_in (moments_of l)) ≡ Some by → (obj (left_after i (moments_of l)).rows i).slot ≡ (obj (control_of past).rows i).slot
  desk_slot i has =
      let order = lent.order in
      subst (λ (d : Lent G N S). (obj (left_after i (moments_of d)).rows i).slot ≡ (obj (control_of past).rows i).slot) seen
      ((slot_left by i (order_of ms past.events) (begun past.workers) (begun 0) None (begun_kept past.workers) order.run (λ e. absurd (none_some e))
      (ap (has_after i) (sym (own_moments by (order_of ms past.events) (begun past.workers))) ∙ subst (λ (d : Lent G N S). has_after i (items_in (moments_of d)) ≡ Some by) (sym seen) has)).slot
      ∙ ap (λ (c : Control). (obj c.rows i).slot) (control_is ms past wakers lent))

  pub desk_slot_is : (caller : ℕ) → caller ≡ by → (i : ℕ) → has_after i (items_in (moments_of l)) ≡ Some caller → (obj (left_after i (moments_of l)).rows i).slot ≡ (obj (control_of past).rows i).slot
  desk_slot_is caller same i has = desk_slot i (has ∙ ap (λ (n : ℕ). Some n) same)

-- ---- names, and whose writing half an acknowledgement brings
module _ {G N S : Type 0} (ms : List Mark) (past : Past G N S) (wakers by : ℕ) (l : Lent G N S) (seen : lent_to by ms past ≡ l) (lent : IsLent ms past wakers) where
  pub named_same : (e : EndId) → name_of (items_of past) e ≡ name_of l.items e
  named_same e = ap (name_in e) (sym (order_names ms past.events lent.marked)) ∙ ap (λ (d : Lent G N S). name_of d.items e) seen

  -- who is lent was taken in
  pub lent_plugged : (h : Holding N) → HasWhatTheySay l.caller (moments_of l) h → (i : ℕ) → (obj (control_of past).rows i).plugged ≡ false → h.holds i ≡ false
  lent_plugged h say i out = of (h.holds i) refl
    where
      of : (b : Bool) → h.holds i ≡ b → b ≡ false
      of true e =
          let order = lent.order in
          let is = had_are_in past.workers (order_of ms past.events) order.run i by (desk_had ms past wakers by l seen lent h say i e) in
          absurd (never (sym out ∙ ap (λ (c : Control). (obj c.rows i).plugged) (sym (control_is ms past wakers lent)) ∙ is.plugged))
      of false e = refl

  -- the halves that are on their way to a mailbox may join, where they are known by the names of their pipes
  pub deliver_fits : (slot : ℕ) {O I : Type 0} (out_name : O → N) (in_name : I → N) (fits : Halves O I → Type 0) → BindsFit out_name in_name (name_of l.items) (coming_to l slot) fits → FitBinds out_name in_name past slot fits
  deliver_fits slot out_name in_name fits all e x away there here written read =
      let c = control_of past in
      all e x (subst (λ (d : Lent G N S). coming_to d slot e ≡ true) seen (true_and (is_away (place_of c e)) (slot == (obj c.rows (owner_of c e)).slot) (ap is_away away) (eq-eqb slot (obj c.rows (owner_of c e)).slot (sym here))))
      (sym (named_same e) ∙ written) (sym (named_same (other_end e)) ∙ read)

  -- what an event tells of output left it tells in the one order
  pub desk_leaves : (h : Holding N) (now : List (Did N S)) → LeavesOnce (control_of past) past.events now h → LeavesOnce (after_all l.items (begun l.past.workers)) l.past.events now h
  desk_leaves h now once =
      subst (λ (d : Lent G N S). LeavesOnce (after_all d.items (begun d.past.workers)) d.past.events now h) seen
      (subst (λ (c : Control). LeavesOnce c past.events now h) (sym (control_is ms past wakers lent)) once)

  -- the kind that a holder says of an object is its kind
  pub kind_fits : (h : Holding N) → HasWhatTheySay l.caller (moments_of l) h → (i : ℕ) → h.holds i ≡ true → KindFits (obj (control_of past).rows i) (h.kind i)
  kind_fits h say i has = subst (λ (kind : Option Kind). KindFits (obj (control_of past).rows i) kind) (sym (desk_kind ms past wakers by l seen lent h say i has)) (of (kind_after i (items_by by (order_of ms past.events))) refl)
    where
      unused : {X : Type 0} → Unused ≡ Used → X
      unused e = absurd (none e)
        where
          none : Unused ≡ Used → ⊥
          none f = Prim.grind arith

      of : (kind : Option Kind) → kind_after i (items_by by (order_of ms past.events)) ≡ kind → KindFits (obj (control_of past).rows i) kind
      of None e = tt
      of (Some kind) e =
          let order = lent.order in
          let is_open = sockets_are_open N S past.workers (order_of ms past.events) order.run order.by by i kind e in
          let socket = is_open.open_socket in (
            ap (λ (x : Control). (obj x.rows i).kind) (sym (control_is ms past wakers lent)) ∙ is_open.kind_is,
            λ used. unused (sym (ap (λ (x : Control). (obj x.rows i).request) (sym (control_is ms past wakers lent)) ∙ socket.open_still) ∙ used),
          )

  -- one that is no socket has none
  pub kind_none : (h : Holding N) → HasWhatTheySay l.caller (moments_of l) h → (i : ℕ) → h.holds i ≡ true → is_socket (obj (control_of past).rows i).kind ≡ false → h.kind i ≡ None
  kind_none h say i has out = desk_kind ms past wakers by l seen lent h say i has ∙ of (kind_after i (items_by by (order_of ms past.events))) refl
    where
      of : (kind : Option Kind) → kind_after i (items_by by (order_of ms past.events)) ≡ kind → kind ≡ None
      of None e = refl
      of (Some kind) e =
          let order = lent.order in
          let is_open = sockets_are_open N S past.workers (order_of ms past.events) order.run order.by by i kind e in
          let socket = is_open.open_socket in
          absurd (never (sym out ∙ ap (λ (x : Control). is_socket (obj x.rows i).kind) (sym (control_is ms past wakers lent)) ∙ socket.socket))

  module _ (h : Holding N) (say : HasWhatTheySay l.caller (moments_of l) h) (slot : ℕ) where
    pub deliver_apart : (exact : Bool) → AreDistinct exact (name_of l.items) → AreApart exact past slot h
    deliver_apart exact distinct to e behind n oldest name is i holds k d within = λ writes same.
        let ends = desk_has ms past wakers by l seen lent h say i holds in
        let both = ends.named k d within in
        let mine_is = distinct is _ (other_end e) n (sym (named_same _) ∙ both.written ∙ ap (λ (x : N). Some x) same) (sym (named_same (other_end e)) ∙ name) in
        never (sym (acked_gave (control_of past) (kept_of ms past wakers lent) slot behind to.0 e oldest) ∙ ap (λ (x : EndId). has_writer (place_of (control_of past) x)) (sym mine_is) ∙ sym (ends.writes _ (each_in (h.ends i) k d within)) ∙ writes)

-- ---- what a delivery needs
module _ {G N S : Type 0} (ms : List Mark) (past : Past G N S) (wakers by : ℕ) (l : Lent G N S) (seen : lent_to by ms past ≡ l) (lent : IsLent ms past wakers) (h : Holding N) (say : HasWhatTheySay l.caller (moments_of l) h)
    (slot : ℕ) (mine : IsOfSocket slot l h) where
  abbrev c : Control
  c = control_of past

  abbrev object : ℕ
  object = mine.its.object

  socket : is_socket (obj (control_of past).rows object).kind ≡ true
  socket = ap (λ (d : Lent G N S). is_socket (obj (control_of d.past).rows object).kind) seen ∙ mine.socket

  kept : Kept c
  kept = kept_of ms past wakers lent

  above : object ≢ 0
  above zero_is = never (sym say.no_root ∙ ap h.holds (sym zero_is) ∙ mine.its.has)

  at_slot : (obj c.rows object).slot ≡ slot
  at_slot =
      sym (desk_slot_is ms past wakers by l seen lent l.caller (ap (λ (d : Lent G N S). d.caller) (sym seen)) object (say.objects object mine.its.has)) ∙ mine.its.here

  only : (i : ℕ) → i < next_object c → (obj c.rows i).slot ≡ slot → i ≡ object
  only i within is = sym (same_box past.workers c lent.boxes object i socket within (at_slot ∙ sym is))

  pub not_first : slot ≡ 0 → {X : Type 0} → X
  not_first is = absurd (none is)
    where
      none : slot ≡ 0 → ⊥
      none e =
          let boxes = lent.boxes in
          let some = boxes.some_worker in
          let own = socket_slot past.workers c boxes object socket in
          let at = at_slot in
          omega (arith, e, some, own, at)

  pub deliver_there : slot < c.slots
  deliver_there = subst (λ (m : ℕ). m < c.slots) at_slot (slot_there past.workers c lent.boxes object (socket_there c.rows object socket))

  pub deliver_held : list_any (λ o. is_between o && o.slot == slot) c.rows.objects ≡ false
  deliver_held = list_any_none (λ (o : Row). is_between o && o.slot == slot) c.rows.objects (λ k d within.
      subst (λ (o : Row). (is_between o && o.slot == slot) ≡ false) (get_or_default c.rows.objects k nobody d within)
      (and_false (is_between (obj c.rows k)) ((obj c.rows k).slot == slot) (λ same.
      ap (λ (n : ℕ). is_between (obj c.rows n)) (only k within (eqb-true (obj c.rows k).slot slot same)) ∙ desk_free ms past wakers by l seen lent h say object mine.its.has)))

  pub deliver_lent : (i : ℕ) → IsServed c slot i → h.holds i ≡ true
  deliver_lent i served = ap h.holds (only i served.there served.here) ∙ mine.its.has

  pub deliver_kinds : AreOfKind c slot h
  deliver_kinds i served = kind_fits ms past wakers by l seen lent h say i (deliver_lent i served)

  -- ---- who may take it
  plugged : (obj (control_of past).rows object).plugged ≡ true
  plugged =
      let order = lent.order in
      ap (λ (x : Control). (obj x.rows object).plugged) (sym (control_is ms past wakers lent))
      ∙ sockets_are_plugged past.workers (order_of ms past.events) order.run object (ap (λ (x : Control). is_socket (obj x.rows object).kind) (control_is ms past wakers lent) ∙ socket)

  -- no Plug comes to it
  pub no_plug : (to : ObjId) (end : Option EndId) (behind : List Letter) → c.boxes slot ≡ record { to = to; word = Plug end } ∷ behind → ⊥
  no_plug to end behind oldest =
      let o = oldest_lives c kept slot to.0 (Plug end) behind oldest in
      plug_not c kept slot behind to.0 end oldest
      (ap (λ (n : ℕ). (obj c.rows n).plugged) (only to.0 (placed (λ (r : Row). has_ended r.stage) c.rows.objects nobody to.0 refl o.1) o.0) ∙ plugged)

  module _ (letter : Letter) (behind : List Letter) (oldest : c.boxes slot ≡ letter ∷ behind) where
    to_is : letter.to.0 ≡ object
    to_is =
        let o = oldest_lives c kept slot letter.to.0 letter.word behind oldest in
        only letter.to.0 (placed (λ (r : Row). has_ended r.stage) c.rows.objects nobody letter.to.0 refl o.1) o.0

    no_taking : (i : ℕ) (word : Word) → c.boxes slot ≡ record { to = letter.to; word = word } ∷ behind → taken_by_word letter.to.0 word ≡ Some i → ⊥
    no_taking i (Own child) is e = none_some e
    no_taking i (Plug end) is e = plug_not c kept slot behind letter.to.0 end is (ap (λ (n : ℕ). (obj c.rows n).plugged) to_is ∙ plugged)
    no_taking i (TermReq child) is e = none_some e
    no_taking i Term is e = none_some e
    no_taking i (TermAck child) is e = none_some e
    no_taking i (PipeBind end peer) is e = none_some e
    no_taking i (PipeTerm end) is e = none_some e
    no_taking i (PipeTermAck end) is e = none_some e
    no_taking i Stop is e = none_some e
    no_taking i (Reap socket) is e = above (sym to_is ∙ reap_root c kept slot behind letter.to.0 socket is)

    brings : (word : Word) → c.boxes slot ≡ record { to = letter.to; word = word } ∷ behind → brings_ends word ≡ false
    brings (Own child) is = refl
    brings (Plug end) is = refl
    brings (TermReq child) is = refl
    brings Term is = refl
    brings (TermAck child) is = refl
    brings (PipeBind end peer) is = refl
    brings (PipeTerm end) is = refl
    brings (PipeTermAck end) is = refl
    brings Stop is = refl
    brings (Reap socket) is = absurd (above (sym to_is ∙ reap_root c kept slot behind letter.to.0 socket is))

    pub deliver_brings : brings_ends letter.word ≡ false
    deliver_brings = brings letter.word oldest

    pub deliver_by : (a : Answered N S) → IsBy (order_of ms past.events) (after_all (order_of ms past.events) (begun past.workers)) (Delivered (record { 0 = slot }) letter a) by
    deliver_by a = record {
      acts = λ i e. ap (λ (n : ℕ). has_after n (order_of ms past.events)) (sym (acts_to letter.to.0 i letter.word e) ∙ to_is) ∙ desk_had ms past wakers by l seen lent h say object mine.its.has;
      takes = λ i e. absurd (no_taking i letter.word oldest e);
    }

-- ---- behind a delimiter
module _ {G N S : Type 0} (ms ms' : List Mark) (by : ℕ) (old new : Past G N S) (e : EndId) (marks : ms' ≡ ms ++ Event by ∷ []) where
  pub meets_more : NotesDelimiter e old new → AreMarked ms old.events → (l : Lent G N S) → lent_to by ms old ≡ l → Meets e l (lent_to by ms' new)
  meets_more notes marked l seen =
      subst (λ (d : Lent G N S). Meets e d (lent_to by ms' new)) seen (record {
        looked_at = notes.looked_at;
        answered = notes.answered;
        past = notes.step;
        items = ap (λ (xs : List Mark). order_of xs new.events) marks ∙ ap (λ (p : Past G N S). order_of (ms ++ Event by ∷ []) p.events) notes.step
            ∙ event_more ms old.events by (Delimited e notes.answered) marked;
        caller = refl;
      })
