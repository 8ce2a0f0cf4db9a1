-- An open socket of a caller in the one order, and behind a moment more.
use Rattle.std.specs.Prelude.{◌≡◌, ◌≢◌, ◌<◌, ◌+◌, ◌==◌, ◌&&◌, ◌++◌, ◌∷◌, [], ℕ, Bool, true, false, List, Option, None, Some, if◌then◌else◌, is_some, not, refl}
use Rattle.std.proofs.Common.{arith, sym, ap, ◌∙◌, subst}
use Rattle.std.proofs.lemmas.Bool.{eqb-true}
use Rattle.std.proofs.lemmas.List.{map-append}
use Rattle.zq_base.specs.declared.ids.SlotId.{SlotId}
use Rattle.zq_base.specs.declared.kind.Kind.{Kind}
use Rattle.spec_control.specs.declared.entry.Did.{Did}
use Rattle.spec_control.specs.declared.entry.Did.TheVariants.{Asked, Delivered, Delimited}
use Rattle.spec_control.specs.declared.entry.Item.{Item}
use Rattle.spec_control.specs.declared.entry.Item.TheVariants.{Event, Seen}
use Rattle.spec_control.specs.declared.letter.Word.{Word}
use Rattle.spec_control.specs.declared.letter.Word.TheVariants.{Own, Plug, TermReq, Term, TermAck, PipeBind, PipeTerm, PipeTermAck, Stop, Reap}
use Rattle.spec_control.specs.declared.request.Req.{Req}
use Rattle.spec_control.specs.declared.request.Req.TheVariants.{Socket as MakeSocket, AskTerm, Bind, Connect, Unbind, Disconnect, Close, Accepted, Shaken, AskEnd, AskOver, OutputOver}
use Rattle.spec_control.specs.declared.request.Reply.{Reply}
use Rattle.spec_control.specs.Stage.{has_ended, is_alive, is_unused, is_used}
use Rattle.spec_control.specs.Row.{Row, is_socket, nobody, owner_fits, socket_fits, stage_fits}
use Rattle.spec_control.specs.Rows.{is_owner, obj}
use Rattle.spec_control.specs.Control.{Control, begun, id, next_object}
use Rattle.spec_control.specs.ControlRun.{IsOpenSocket, is_between}
use Rattle.control_laws.proofs.ListLemmas.{never, left, placed, right}
use Rattle.control_laws.specs.Closed.{lives}
use Rattle.control_laws.proofs.QuietLemmas.{socket_owner}
use Rattle.control_laws.proofs.StepLemmas.{inv_of}
use Rattle.control_laws.specs.Kept.{Kept}
use Rattle.control_laws.proofs.EndLemmas.{kept_but}
use Rattle.control_laws.proofs.RootLemmas.{begun_kept}
use Rattle.control_laws.proofs.RunLemmas.{run_kept}
use Rattle.control_laws.proofs.TellLemmas.{rows_of}
use Rattle.spec_control.specs.Held.{items_by}
use Rattle.spec_control.specs.Has.{given_by_request, given_up, has_after, made_by}
use Rattle.spec_control.specs.OwnAsks.{Known, known_after, known_at_request, known_at_word, known_in, known_over, unknown}
use Rattle.spec_control.specs.Moments.{Moment, items_in, left_by}
use Rattle.spec_control.proofs.OwnLemmas.{own_items_are_whole}
use Rattle.ctl_plane.specs.Past.{control_of}
use Rattle.desk.specs.Desk.{slot_after}
use Rattle.desk.specs.Kinds.{kind_after}
use Rattle.control_laws.proofs.LawLemmas.{open_not}
use Rattle.control_laws.proofs.MomentLemmas.{own_moments}
use Rattle.control_laws.proofs.KnownLemmas.{known_sockets_have_kinds}
use Rattle.control_laws.proofs.HeldOpenLemmas.{sockets_are_open}
use Rattle.control_laws.proofs.SlotLemmas.{slot_left}
use Rattle.control_laws.proofs.ThereLemmas.{had_objects_are_there}
use Rattle.plain_desk.specs.Lent.{moments_of, HasSocket, IsOneOrder, Lent}
use Rattle.plain_desk.proofs.BoxLemmas.{same_box, socket_slot}
use Rattle.socket_laws.specs.Behind.{closes}
use Rattle.socket_laws.specs.Laws.{SocketsAreAlone, SocketsStayOpen}
use Rattle.socket_laws.proofs.LastLemmas.{moments_are_last}

none_some : {X : Type 0} {x : X} → None ≡ Some x → ⊥
none_some e = Prim.grind arith

some_of : (k : Option Kind) → is_some k ≡ true → (x : Kind) × (k ≡ Some x)
some_of None h = absurd (never h)
some_of (Some x) h = (x, refl)

-- the root is no socket
root_none : (c : Control) → Kept c → is_socket (obj c.rows 0).kind ≡ true → ⊥
root_none c kept socket =
    let o = obj c.rows 0 in
    let row = (inv_of (rows_of (kept_but 0 c kept))).fits 0 in
    let owner = socket_owner o.kind o.owner (left (owner_fits o.kind o.owner) _ (right (socket_fits (is_socket o.kind) (is_alive o.stage) (is_used o.request) (is_unused o.stop)) _ (right (stage_fits o.stage o.noted o.plugged o.request o.stop) _ row))) socket in
    none_some (sym kept.shape.root ∙ owner)

-- ---- in the order
module _ {G N S : Type 0} (d : Lent G N S) (order : IsOneOrder d) where
  pub kept_now : Kept (control_of d.past)
  kept_now =
      let all = order.order in
      subst Kept (sym order.control) (run_kept d.items (begun d.past.workers) (begun_kept d.past.workers) all.run)

  pub record IsIn (o : ℕ) : Type 0 where
    pub has : has_after o d.items ≡ Some d.caller
    pub open_now : IsOpenSocket (obj (control_of d.past).rows o)
    pub more : o ≢ 0
    pub slot : (slot_after o (moments_of d)).0 ≡ d.past.workers + o

  pub is_in : (o : ℕ) → HasSocket d (id o) → IsIn o
  is_in o known =
      let w = d.past.workers in
      let k = d.caller in
      let all = order.order in
      let boxes = order.boxes in
      let own = own_moments k d.items (begun w) in
      let kind = some_of (kind_after o (items_by k d.items)) (sym (known_sockets_have_kinds N S (items_by k d.items) o) ∙ ap (λ (xs : List (Item N S)). (known_after o xs).open_socket) (sym own) ∙ known) in
      let is = sockets_are_open N S w d.items all.run all.by k o kind.0 kind.1 in
      let open_now : IsOpenSocket (obj (control_of d.past).rows o) = subst (λ (c : Control). IsOpenSocket (obj c.rows o)) (sym order.control) is.open_socket in
      let more : o ≢ 0 = λ none. root_none (control_of d.past) kept_now (ap (λ (n : ℕ). is_socket (obj (control_of d.past).rows n).kind) (sym none) ∙ open_now.socket) in
      let whole = own_items_are_whole N S (begun w) d.items all.by o k more is.has in
      let there = subst (λ (c : Control). o < next_object c) (sym order.control) (had_objects_are_there N S w d.items all.run o k is.has) in
      let slot = slot_left k o d.items (begun w) (begun 0) None (begun_kept w) all.run (λ e. absurd (none_some e)) whole.has in
      record {
        has = is.has;
        open_now = open_now;
        more = more;
        slot = slot.slot ∙ ap (λ (c : Control). (obj c.rows o).slot) (sym order.control) ∙ boxes.own o there open_now.socket;
      }

pub sockets_are_alone : (G N S : Type 0) → SocketsAreAlone G N S
sockets_are_alone G N S d o order known i served =
    let is = is_in d order o known in
    let c = control_of d.past in
    let at = eqb-true (slot_after o (moments_of d)).0 (obj c.rows i).slot (left ((slot_after o (moments_of d)).0 == (obj c.rows i).slot) _ served) in
    let rest = right (not (i == 0)) _ (right ((slot_after o (moments_of d)).0 == (obj c.rows i).slot) _ served) in
    let living = left (lives c (id i)) _ rest in
    let there = placed (λ (r : Row). has_ended r.stage) c.rows.objects nobody i refl (is_not (has_ended (obj c.rows i).stage) living) in
    sym (same_box d.past.workers c order.boxes o i is.open_now.socket there (socket_slot d.past.workers c order.boxes o is.open_now.socket ∙ sym is.slot ∙ at))
  where
    is_not : (b : Bool) → not b ≡ true → b ≡ false
    is_not true h = absurd (never h)
    is_not false h = refl

-- ---- an item more
open_if : (b : Bool) (x y : Known) → x.open_socket ≡ true → y.open_socket ≡ true → (if b then x else y).open_socket ≡ true
open_if true x y one other = one
open_if false x y one other = other

open_word : (word : Word) (output : Bool) (x : Known) → x.open_socket ≡ true → (known_at_word word output x).open_socket ≡ true
open_word (Own child) output x e = e
open_word (Plug None) output x e = e
open_word (Plug (Some end)) output x e = e
open_word (TermReq child) output x e = e
open_word Term output x e = e
open_word (TermAck child) output x e = e
open_word (PipeBind end peer) output x e = e
open_word (PipeTerm end) output x e = e
open_word (PipeTermAck end) output x e = e
open_word Stop output x e = e
open_word (Reap socket) output x e = e

open_request : (o : ℕ) (req : Req) (reply : Reply) (x : Known) → is_owner o (given_by_request req) ≡ false → x.open_socket ≡ true → (known_at_request o req reply x).open_socket ≡ true
open_request o (MakeSocket kind options) reply x none e = open_if (is_owner o (made_by reply)) (record x { open_socket = true }) x refl e
open_request o AskTerm reply x none e = e
open_request o (Bind s at) reply x none e = e
open_request o (Connect s at) reply x none e = e
open_request o (Unbind s at) reply x none e = e
open_request o (Disconnect s at) reply x none e = e
open_request o (Close s) reply x none e = ap (λ (b : Bool). (if b then record x { open_socket = false } else x).open_socket) none ∙ e
open_request o (Accepted s) reply x none e = open_if (is_owner o (made_by reply)) (record x { session = true; accepted = true }) x e e
open_request o (Shaken s peer) reply x none e = open_if (s.0 == o) (record x { shaken = true }) x e e
open_request o (AskEnd end reason) reply x none e = e
open_request o (AskOver s) reply x none e = open_if (s.0 == o) (record x { asked_over = true }) x e e
open_request o (OutputOver s) reply x none e = open_if (s.0 == o) (record x { output_left = false }) x e e

module _ {N S : Type 0} (o : ℕ) where
  open_did : (did : Did N S) (x : Known) → is_owner o (given_up did) ≡ false → x.open_socket ≡ true → (known_in o did x).open_socket ≡ true
  open_did (Asked req reply h) x none e = open_request o req reply x none e
  open_did (Delivered slot letter h) x none e = open_if (letter.to.0 == o) (known_at_word letter.word h.output_left x) x (open_word letter.word h.output_left x e) e
  open_did (Delimited end h) x none e = e

  open_more : (items : List (Item N S)) (item : Item N S) (x : Known) → closes o item ≡ false → (known_over o x items).open_socket ≡ true → (known_over o x (items ++ item ∷ [])).open_socket ≡ true
  open_more [] (Event entry) x none e = open_did entry.did x none e
  open_more [] (Seen sight) x none e = e
  open_more (Event entry ∷ items) item x none e = open_more items item (known_in o entry.did x) none e
  open_more (Seen sight ∷ items) item x none e = open_more items item x none e

pub sockets_stay_open : (G N S : Type 0) → SocketsStayOpen G N S
sockets_stay_open G N S old new m call o known free =
    let last = moments_are_last G N S old new m call in
    let grows = call.grows in
    let still : HasSocket new (id o) =
    ap (λ (ms : List (Moment N S)). (known_after o (items_in ms)).open_socket) call.one_more
    ∙ ap (λ (xs : List (Item N S)). (known_after o xs).open_socket) (map-append (λ (x : Moment N S). x.item) (moments_of old) (m ∷ []))
    ∙ open_more o (items_in (moments_of old)) m.item unknown free known in
    let was = is_in old call.before o known in
    let now = is_in new call.behind o still in
    record {
      is_open = still;
      slot = ap (λ (n : ℕ). let s : SlotId = record { 0 = n } in s) (now.slot ∙ ap (λ (w : ℕ). w + o) grows.workers ∙ sym was.slot);
      holds = λ by h k keeps holds.
          (keeps.objects.one m call.one_more).holds o (record {
            ended = λ ends. absurd (never (sym now.open_now.lives ∙ ap (λ (c : Control). has_ended (obj c.rows o).stage) (sym last.left) ∙ ends));
            plug = ap (λ (b : Bool). not b && (not (obj m.found.rows o).plugged && (obj (left_by m).rows o).plugged)) (ap (λ (c : Control). is_socket (obj c.rows o).kind) last.found ∙ was.open_now.socket);
            way = ap (λ (c : Control). is_between (obj c.rows o)) last.left ∙ open_not (obj (control_of new.past).rows o) now.open_now ∙ sym (open_not (obj (control_of old.past).rows o) was.open_now)
                ∙ ap (λ (c : Control). is_between (obj c.rows o)) (sym last.found);
          }) ∙ holds;
    }
