-- A Stop is told where an item stops a socket.
use Rattle.std.specs.Prelude.{◌≡◌, ◌==◌, ◌&&◌, ◌||◌, ℕ, Bool, true, false, [], ◌∷◌, if◌then◌else◌, refl}
use Rattle.std.specs.List.{list_any}
use Rattle.std.proofs.Common.{sym, ap, ◌∙◌}
use Rattle.std.proofs.lemmas.Bool.{eq-eqb}
use Rattle.std.proofs.lemmas.List.Folds.{list_any-append}
use Rattle.zq_base.specs.declared.ids.ObjId.{ObjId}
use Rattle.zq_base.specs.declared.kind.Kind.{Kind}
use Rattle.zq_base.specs.declared.options.Options.{Options}
use Rattle.spec_control.specs.declared.letter.Word.{Word}
use Rattle.spec_control.specs.declared.letter.Word.TheVariants.{Own, Plug, TermReq, Term, TermAck, PipeBind, PipeTerm, PipeTermAck, Stop, Reap}
use Rattle.spec_control.specs.declared.request.Req.{Req}
use Rattle.spec_control.specs.declared.request.Req.TheVariants.{Socket as MakeSocket, AskTerm, Bind, Connect, Unbind, Disconnect, Close, Accepted, Shaken, AskEnd, AskOver, OutputOver}
use Rattle.spec_control.specs.declared.entry.Did.{Did}
use Rattle.spec_control.specs.declared.entry.Did.TheVariants.{Asked, Delivered, Delimited}
use Rattle.spec_control.specs.declared.entry.Item.{Item}
use Rattle.spec_control.specs.declared.entry.Item.TheVariants.{Event, Seen}
use Rattle.spec_control.specs.Rows.{obj}
use Rattle.spec_control.specs.Control.{Control}
use Rattle.desk.specs.declared.notice.Notice.{Notice}
use Rattle.desk.specs.declared.notice.Notice.TheVariants as notice
use Rattle.desk.specs.Heard.{unless_root, over_if, ends_between, term_with, kind_by, heard_by, heard_at, heard_in}
use Rattle.desk.specs.Desk.{heard_with}
use Rattle.spec_run.specs.OpenSocket.{is_stop_word, stops, stops_in}
use Rattle.sock_core.specs.Has.{is_stop}
use Rattle.socket_laws.specs.Open.{IsOf, IsOfItem}
use Rattle.socket_laws.specs.Stops.{stops_it, StopsAreTold}

-- of notices but Stops a test says nothing
module _ (f : Notice → Bool) (no_plug : (to : ObjId) (kind : Kind) (options : Options) → f (notice.Plug to kind options) ≡ false) (no_term : (to : ObjId) → f (notice.Term to) ≡ false) (no_over : (to : ObjId) → f (notice.Over to) ≡ false) where
  rooted : (to : ObjId) (n : Notice) → f n ≡ false → list_any f (unless_root to (n ∷ [])) ≡ false
  rooted to n none = by (to.0 == 0)
    where
      by : (b : Bool) → list_any f (if b then [] else n ∷ []) ≡ false
      by true = refl
      by false = ap (λ (b : Bool). b || false) none

  over_none : (to : ObjId) (ended : Bool) → list_any f (over_if to ended) ≡ false
  over_none to true = rooted to (notice.Over to) (no_over to)
  over_none to false = refl

  term_none : (to : ObjId) (ended : Bool) → list_any f (term_with to ended) ≡ false
  term_none to ended =
      list_any-append f (unless_root to (notice.Term to ∷ [])) (over_if to ended)
      ∙ ap (λ (b : Bool). b || list_any f (over_if to ended)) (rooted to (notice.Term to) (no_term to)) ∙ over_none to ended

  only_one : (b : Bool) → (b || false) ≡ b
  only_one true = refl
  only_one false = refl

  word_stops : (to : ObjId) (word : Word) (before now : Control) → list_any f (heard_by to word before now) ≡ (is_stop_word word && f (notice.Stop to))
  word_stops to (Own child) before now = refl
  word_stops to (Plug end) before now = only_one (f (notice.Plug to (kind_by before.rows to.0) (obj before.rows to.0).options)) ∙ no_plug to (kind_by before.rows to.0) (obj before.rows to.0).options
  word_stops to (TermReq child) before now = refl
  word_stops to Term before now = term_none to (ends_between (obj before.rows to.0) (obj now.rows to.0))
  word_stops to (TermAck child) before now = over_none to (ends_between (obj before.rows to.0) (obj now.rows to.0))
  word_stops to (PipeBind e peer) before now = refl
  word_stops to (PipeTerm e) before now = refl
  word_stops to (PipeTermAck e) before now = over_none to (ends_between (obj before.rows to.0) (obj now.rows to.0))
  word_stops to Stop before now = only_one (f (notice.Stop to))
  word_stops to (Reap socket) before now = refl

  asked_none : (req : Req) (before now : Control) → list_any f (heard_at req before now) ≡ false
  asked_none (MakeSocket kind options) before now = refl
  asked_none AskTerm before now = refl
  asked_none (Bind p at) before now = refl
  asked_none (Connect p at) before now = refl
  asked_none (Unbind p at) before now = refl
  asked_none (Disconnect p at) before now = refl
  asked_none (Close p) before now = refl
  asked_none (Accepted p) before now = refl
  asked_none (Shaken p peer) before now = refl
  asked_none (AskEnd e reason) before now = refl
  asked_none (AskOver p) before now = refl
  asked_none (OutputOver p) before now = over_none p (ends_between (obj before.rows p.0) (obj now.rows p.0))

did_stops : {N S : Type 0} (o : ℕ) (did : Did N S) (before now : Control) → list_any (stops_it o) (heard_in did before now) ≡ stops_in o did
did_stops o (Asked req reply h) before now = asked_none (stops_it o) (λ to kind options. refl) (λ to. refl) (λ to. refl) req before now
did_stops o (Delivered slot letter h) before now = word_stops (stops_it o) (λ to kind options. refl) (λ to. refl) (λ to. refl) letter.to letter.word before now
did_stops o (Delimited e h) before now = refl

-- of an event of an object each Stop is its own
own_stops : {N S : Type 0} (o : ℕ) (c : Control) (did : Did N S) (before now : Control) → IsOf o c did → list_any is_stop (heard_in did before now) ≡ stops_in o did
own_stops o c (Asked req reply h) before now of_it = asked_none is_stop (λ to kind options. refl) (λ to. refl) (λ to. refl) req before now
own_stops o c (Delivered slot letter h) before now of_it =
    word_stops is_stop (λ to kind options. refl) (λ to. refl) (λ to. refl) letter.to letter.word before now ∙ ap (λ (b : Bool). is_stop_word letter.word && b) (sym (eq-eqb letter.to.0 o of_it))
own_stops o c (Delimited e h) before now of_it = refl

pub its_stops : {N S : Type 0} (o : ℕ) (c : Control) (item : Item N S) (before now : Control) → IsOfItem o c item → list_any is_stop (heard_with item before now) ≡ stops o item
its_stops o c (Event entry) before now of_it = own_stops o c entry.did before now of_it
its_stops o c (Seen sight) before now of_it = refl

pub stops_are_told : (N S : Type 0) → StopsAreTold N S
stops_are_told N S o (Event entry) before now = did_stops o entry.did before now
stops_are_told N S o (Seen sight) before now = refl
