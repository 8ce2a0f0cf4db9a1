-- A core goes on over a letter that is taken for an open socket.
use Rattle.std.specs.Prelude.{◌≡◌, ◌≢◌, ◌≤◌, ◌+◌, ◌-◌, ◌^◌, ◌++◌, ◌∷◌, [], ℕ, Bool, true, false, not, List, Option, Some, None, length, refl}
use Rattle.std.proofs.Common.{arith, sym, ap, ◌∙◌, subst}
use Rattle.spec_control.specs.declared.entry.Item.{Item}
use Rattle.spec_control.specs.declared.entry.SeenEmpty.{SeenEmpty}
use Rattle.spec_control.specs.declared.entry.SeenEmpty.TheVariants.{Mailbox}
use Rattle.spec_control.specs.declared.entry.Sight.{Sight}
use Rattle.spec_control.specs.declared.letter.Letter.{Letter}
use Rattle.spec_control.specs.Control.{Control, begun, next_object}
use Rattle.spec_control.specs.ControlRun.{AreEmpty, FitsItem, IsControlRun, IsSeen, after_all}
use Rattle.spec_control.specs.Names.{name_of}
use Rattle.spec_control.specs.Reply.{most_objects}
use Rattle.spec_control.specs.Moments.{Moment, items_in, moments_from}
use Rattle.spec_control.specs.OwnAsks.{is_none}
use Rattle.control_laws.proofs.ListLemmas.{left, never}
use Rattle.spec_run.specs.CoreEvents.{may_take}
use Rattle.spec_run.specs.OpenSocket.{OpenSock}
use Rattle.msg_pipe.specs.Known.{Known}
use Rattle.desk.specs.declared.given.Given.{Given}
use Rattle.ctl_plane.specs.Giving.{AreOnTheirWay}
use Rattle.ctl_plane.specs.Past.{control_of}
use Rattle.any_sock.specs.declared.any_sock.AnySock.{AnySock}
use Rattle.sock_core.specs.declared.sock.SockCore.{SockCore}
use Rattle.line_socket.specs.View.{open_view}
use Rattle.line_calls.specs.Lines.{TakesOne, TakesOrNot}
use Rattle.line_calls.specs.Steps.{FindsEmpty}
use Rattle.zq_world.specs.Piece.{Piece}
use Rattle.core_laws.specs.Counting.{CountsDrops}
use Rattle.zq_world.specs.declared.marks.PieceMark.{PieceMark}
use Rattle.zq_world.specs.Marks.{piece_marks}
use Rattle.plain_desk.specs.Lent.{IsOneOrder, Lent}
use Rattle.plain_desk.proofs.FirstLemmas.{past_empty}
use Rattle.socket_laws.proofs.SocketLemmas.{kept_now}
use Rattle.line_socket.specs.Leads.{Leads}
use Rattle.line_socket.specs.Owned.{box_of, parts, view_of, Agrees as IsLent, LentParts}
use Rattle.line_socket.specs.Ready.{IsReady}
use Rattle.core_laws.specs.Calls.{AreCallsOn}
use Rattle.core_laws.proofs.BoxesLemmas.{past_reapers, takes_none}
use Rattle.plain_desk.proofs.StayLemmas.{run_more}
use Rattle.core_laws.proofs.GrownLemmas.{calls_are}
use Rattle.closed_ends.specs.declared.sockets.ClosedSockets.{ClosedSockets}
use Rattle.plain_core.specs.Agreeing.{as_open, Agrees}
use Rattle.plain_core.specs.CallLaws.{CallLaws}
use Rattle.plain_core.specs.Calling.{lent_of, CallsOf, IsTold}
use Rattle.plain_core.specs.Letters.{HasLetter, TellsFetch}
use Rattle.plain_core.specs.Sound.{Core, core_of, pieces_in, IsCore, IsSound}
use Rattle.zq_world.specs.Taken.{is_reapers}
use Rattle.zq_world.specs.Taking.{control_told, FetchesLetter}
use Rattle.plain_core.proofs.GoingLemmas.{goes_on, IsLeftSound}
use Rattle.plain_core.proofs.OthersLemmas.{control_one}
use Rattle.plain_core.proofs.TakenLemmas.{items_back}

-- ---- the control plane, as it is told
pub told_control : {S O I G N T : Type 0} (K : Known S O I N) (v : Core S G N T) → IsCore K v → IsOneOrder v.desk → control_told (pieces_in v) ≡ control_of v.desk.past
told_control {N = N} {T = T} K v is order =
    ap (λ (ms : List (Moment N T)). after_all (items_in ms) (begun 1)) is.stands.told
    ∙ ap (λ (xs : List (Item N T)). after_all xs (begun 1)) (items_back v.desk.items (begun 1))
    ∙ sym (control_one v.desk order is.one)

full_box : (c : Control) (slot : ℕ) → may_take c slot ≡ true → c.boxes slot ≢ []
full_box c slot may none = never (sym (ap (λ (ls : List Letter). not (is_none ls)) none) ∙ left (not (is_none (c.boxes slot))) _ may)

pub told_full : {S O I G N T : Type 0} (K : Known S O I N) (v : Core S G N T) → IsCore K v → IsOneOrder v.desk → (slot : ℕ) → may_take (control_told (pieces_in v)) slot ≡ true → (control_of v.desk.past).boxes slot ≢ []
told_full K v is order slot may = full_box (control_of v.desk.past) slot (subst (λ (c : Control). may_take c slot ≡ true) (told_control K v is order) may)

-- a mailbox past all has none, and is nobody's
module _ {G N T : Type 0} (d : Lent G N T) (order : IsOneOrder d) (one : d.past.workers ≡ 1) (few : next_object (control_of d.past) ≤ most_objects) (slot : ℕ) (far : 2 ^ 32 ≤ slot) where
  pub far_takes : false ≡ may_take (control_of d.past) slot
  far_takes = takes_none (control_of d.past) slot (past_empty d.past.workers (control_of d.past) (kept_now d order) order.boxes slot (let many = order.boxes.many in omega (arith, one, few, far, many)))

  pub far_reapers : false ≡ is_reapers (control_of d.past) slot
  far_reapers = sym (past_reapers d order slot (slot - 1) (omega (arith, one, far)) (λ none. (let root : 2 ^ 32 ≤ 0 = subst (λ (n : ℕ). 2 ^ 32 ≤ n) none far in omega (arith, root))) (omega (arith, far)) (omega (arith, few, far)))

-- ---- the mailbox of an open socket
pub slot_viewed : {W N O I : Type 0} (slot : ℕ) (s : Option (SockCore AnySock W N O I)) → (open_view slot s).slot ≡ slot
slot_viewed slot None = refl
slot_viewed slot (Some s) = refl

-- a letter waits in that of one that is lent
pub lent_full : {W S N O I T : Type 0} (K : Known S O I N) (v : Core S (Given N O I) N T) → IsCore K v → IsOneOrder v.desk → (k : ℕ) (s : Option (SockCore AnySock W N O I)) → view_of (lent_of K v k s) ≡ as_open s →
    may_take (control_told (pieces_in v)) (as_open s).slot ≡ true → HasLetter (lent_of K v k s)
lent_full K v is order k s view may = record {
  some = told_full K v is order (box_of (lent_of K v k s))
      (ap (may_take (control_told (pieces_in v))) (sym (slot_viewed (box_of (lent_of K v k s)) s) ∙ ap (λ (x : OpenSock). x.slot) view) ∙ may);
}

-- ---- what is said of a lent socket is said of its parts
module _ {M W N O I S T : Type 0} (f : M → LentParts W N O I S T) (K : Known S O I N) (old new : M) where
  one_of_parts : TakesOne (λ s acts t. Leads K (f s) acts (f t)) (λ s. view_of (f s)) old new → TakesOne (Leads K) view_of (f old) (f new)
  one_of_parts h = record { acts = h.acts; takes = h.takes; passes = record { led = h.passes.led; goes = h.passes.goes } }

  none_of_parts : FindsEmpty (λ s acts t. Leads K (f s) acts (f t)) (λ s. view_of (f s)) old new → FindsEmpty (Leads K) view_of (f old) (f new)
  none_of_parts h = record { look = h.look; look_is = h.look_is; passes = record { led = h.passes.led; goes = h.passes.goes } }

  pub took_letter : (b : Bool) → b ≡ true → TakesOrNot (λ s acts t. Leads K (f s) acts (f t)) (λ s. view_of (f s)) b old new → TakesOne (Leads K) view_of (f old) (f new)
  took_letter b took h = one_of_parts (subst (λ (x : Bool). TakesOrNot (λ s acts t. Leads K (f s) acts (f t)) (λ s. view_of (f s)) x old new) took h)

  pub took_none : (b : Bool) → b ≡ false → TakesOrNot (λ s acts t. Leads K (f s) acts (f t)) (λ s. view_of (f s)) b old new → FindsEmpty (Leads K) view_of (f old) (f new)
  took_none b none h = none_of_parts (subst (λ (x : Bool). TakesOrNot (λ s acts t. Leads K (f s) acts (f t)) (λ s. view_of (f s)) x old new) none h)

-- ---- and then none finds it empty
one_item : {N T : Type 0} (c : Control) (m : Moment N T) (xs : List (Item N T)) → IsControlRun c xs → m ∷ [] ≡ moments_from c xs → FitsItem c m.item
one_item c m [] run e = absurd (no e)
  where
    no : m ∷ [] ≡ [] → ⊥
    no f = cc
one_item {N = N} {T = T} c m (x ∷ xs) run e = (let same : m ≡ record { found = c; item = x } = cc in subst (λ (y : Moment N T). FitsItem c y.item) (sym same) run.0)

module _ {W N O I S T : Type 0} (K : Known S O I N) where
  pub finds_some : (pipes : S) (d : Lent (Given N O I) N T) (socket : Option (SockCore AnySock W N O I)) (since : List (Unit {0} × Unit {0})) (new : LentParts W N O I S T) → IsLent K (parts pipes d socket since) → IsOneOrder new.desk →
      HasLetter (parts pipes d socket since) → FindsEmpty (Leads K) view_of (parts pipes d socket since) new → ⊥
  finds_some pipes d None since new lent behind full f = absurd lent
  finds_some pipes d (Some s) since new lent behind full f =
      let led = f.passes.led in
      let calls : AreCallsOn s.number.0 d new.desk = record { before = lent.order; behind = behind; grows = led.grows; more = f.look ∷ []; moments = led.moments; each = led.standing.each } in
      let c = after_all d.items (begun d.past.workers) in
      let fits : FitsItem c f.look.item = one_item c f.look led.grows.more (run_more d new.desk behind led.grows) (calls_are d new.desk s.number.0 calls) in
      let seen = subst (λ (x : Item N T). FitsItem c x) f.look_is.item_is fits in
      full.some (ap (λ (x : Control). x.boxes (box_of (parts pipes d (Some s) since))) lent.order.control ∙ empty f.look_is.sight f.look_is.empty_is seen)
    where
      empty : (sight : Sight) → sight.empty ≡ Mailbox (record { 0 = (view_of (parts pipes d (Some s) since)).slot }) → IsSeen (after_all d.items (begun d.past.workers)) sight → (after_all d.items (begun d.past.workers)).boxes (box_of (parts pipes d (Some s) since)) ≡ []
      empty sight same seen = subst (λ (x : SeenEmpty). AreEmpty (after_all d.items (begun d.past.workers)) x) same seen.empty

-- ---- what tells of it, whatever its parts are called
module _ {W N O I S T : Type 0} (K : Known S O I N) (k : ℕ) (old new was now : LentParts W N O I S T) (from : was ≡ old) (to : now ≡ new) where
  pub fetch_as : (taken : TakesOne (Leads K) view_of old new) → TellsFetch K k was now (piece_marks k false taken.acts [])
  fetch_as taken =
      subst (λ (l : LentParts W N O I S T). TellsFetch K k l now (piece_marks k false taken.acts [])) (sym from)
      (subst (λ (l : LentParts W N O I S T). TellsFetch K k old l (piece_marks k false taken.acts [])) (sym to) (record { taken = taken; are = refl }))

-- ---- behind the letter
pub record FetchIsDone (W : Type 0) {S N O I T : Type 0} (K : Known S O I N) (k : ℕ) (s t : Option (SockCore AnySock W N O I)) (closed : ClosedSockets N O I) (drops : List ℕ) (v w : Core S (Given N O I) N T) : Type 0 where
  pub left : IsLeftSound W K k s t closed drops v w
  pub one : FetchesLetter k (as_open s) (as_open t) (pieces_in v) (pieces_in w)

module _ (W : Type 0) {S N O I T : Type 0} (K : Known S O I N) (laws : CallLaws W K T) (v : Core S (Given N O I) N T) (closed : ClosedSockets N O I) (drops : List ℕ) (sound : IsSound K v closed drops) (order : IsOneOrder v.desk) (k : ℕ) (s : Option (SockCore AnySock W N O I))
    (agreed : Agrees W K v k s) (were : AreOnTheirWay K.in_name (control_of v.desk.past) (name_of v.desk.items) v.desk.past.given) (pipes : S) (d : Lent (Given N O I) N T) (behind : IsOneOrder d)
    (ways : AreOnTheirWay K.in_name (control_of d.past) (name_of d.items) d.past.given) (marks : List PieceMark) (t : Option (SockCore AnySock W N O I)) (since : List (Unit {0} × Unit {0})) (lent : IsLent K (parts pipes d t since)) where
  pub fetch_done : IsTold (TellsFetch K k (lent_of K v k s) (parts pipes d t since)) v.marks marks → v.wanted ≡ false → IsReady (parts pipes d t since) → view_of (lent_of K v k s) ≡ as_open s →
      FetchIsDone W K k s t closed drops v (core_of d pipes marks v.wanted)
  fetch_done is free ready view =
      let acts = is.so.taken.acts in
      let w : Core S (Given N O I) N T = core_of d pipes marks v.wanted in
      let calls : CallsOf K k s t acts [] v w = record { since = length since; led = is.so.taken.passes.led; told = is.behind ∙ ap (λ (ms : List PieceMark). v.marks ++ ms) is.so.are } in
      let goes = goes_on W K laws v w closed sound.0 sound.1.0 order behind k were ways acts [] since s t agreed calls lent in record {
        left = record {
          sound = (goes.core, (goes.closed, λ not_wanted. subst (λ (ps : List (Piece N T)). CountsDrops drops ps) (sym goes.adds.added) (laws.tables.none drops (pieces_in v) k false acts (sound.1.1 free))));
          lent = goes.lent (λ not_wanted. ready);
          others = goes.others (λ not_wanted. not_wanted);
        };
        one =
            subst (λ (x : OpenSock). FetchesLetter k x (as_open t) (pieces_in v) (pieces_in w)) view
            (subst (λ (x : OpenSock). FetchesLetter k (view_of (lent_of K v k s)) x (pieces_in v) (pieces_in w)) goes.view
            (record { acts = acts; takes = is.so.taken.takes; goes = is.so.taken.passes.goes; adds = goes.adds }));
      }
