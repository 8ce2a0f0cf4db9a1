-- What is no run is refused.
use Rattle.std.specs.Prelude.{◌≡◌, ◌≤◌, ◌+◌, ◌||◌, ℕ, Bool, true, false, List, [], ◌∷◌, if◌then◌else◌, refl}
use Rattle.std.proofs.Common.{arith, sym, ap, ◌∙◌, subst}
use Rattle.zq_base.specs.Message.{Frames}
use Rattle.zq_base.specs.declared.ids.PairId.{PairId}
use Rattle.zq_base.specs.declared.endpoint.Endpoint.{Endpoint}
use Rattle.zq_base.specs.declared.kind.Kind.TheVariants.{Pull}
use Rattle.spec_pattern.specs.PipeStep.{Commit, DelimiterLook}
use Rattle.spec_control.specs.declared.object.ObjKind.TheVariants.{Root, Socket}
use Rattle.spec_run.specs.declared.script.Call.TheVariants as call
use Rattle.spec_control.specs.declared.entry.Item.{Item}
use Rattle.spec_control.specs.declared.entry.Item.TheVariants.{Seen}
use Rattle.spec_control.specs.declared.entry.Sight.{Sight}
use Rattle.spec_control.specs.Control.{end_of}
use Rattle.spec_control.specs.ControlExamples.{Stories}
use Rattle.spec_run.specs.declared.answer.Answer.TheVariants as answer
use Rattle.spec_run.specs.declared.answer.Answer.{Answer}
use Rattle.spec_run.specs.declared.journal.Journal.{Journal}
use Rattle.spec_run.specs.declared.script.Line.{Line}
use Rattle.spec_run.specs.Act.{Act, Try, moments_in}
use Rattle.spec_run.specs.OpenSocket.{OpenSock}
use Rattle.spec_run.specs.SocketCall.{leave_asked, ConnectsWhere}
use Rattle.spec_run.specs.Pump.{EndsTaking, took_all, found_empty}
use Rattle.spec_run.specs.Standing.{ActorStanding, DoesTry, DoesLine, HasNoSocket}
use Rattle.spec_run.specs.OwnedRun.{OwnedRun, IsSettledSo, LooksHoldAt}
use Rattle.spec_run.specs.InTurns.{IsInTurns, is_ended}
use Rattle.spec_run.specs.ExampleParts.{line_nr, line_of_object}
use Rattle.spec_run.specs.ClosingExample.{closing_script}
use Rattle.spec_run.specs.ShortExample.{short_turned, short_run}
use Rattle.spec_run.specs.RefusedRuns.{unreasoned, receives_closed, RefusedRuns}
use Rattle.spec_run.proofs.PlainLemmas.{never}

reasoned : (run : OwnedRun ℕ ℕ) → IsSettledSo run unreasoned → ⊥
reasoned run s = never (s.reason (omega arith))

first_line : {x y : Line} {xs ys : List Line} → x ∷ xs ≡ y ∷ ys → x ≡ y
first_line e = Prim.grind arith

no_message : {from_ : PairId} {m : Frames} → answer.NoSocket ≡ answer.Got from_ m → ⊥
no_message e = Prim.grind arith

given_to_none : (t : Try ℕ ℕ) (new : ActorStanding) (from_ : PairId) (m : Frames) → t.answer ≡ answer.Got from_ m → DoesTry receives_closed t new → ⊥
given_to_none t new from_ m e d =
    let line : line_nr 5 (call.Recv 0 1) ≡ t.line = first_line d.lines_are in
    let none : HasNoSocket receives_closed.mine t d.mine = subst (λ (l : Line). DoesLine l.call receives_closed.mine t d.mine) (sym line) d.does in
    no_message (sym none.answer_is ∙ e)

few_letters : (slot : ℕ) (acts : List (Act ℕ ℕ)) → EndsTaking slot 65 acts → ⊥
few_letters slot acts (took_all all e) = omega (arith, all)
few_letters slot acts (found_empty m few look e) = omega (arith, few)

seen_is : {x y : Sight} → ◌≡◌ {A = Item ℕ ℕ} (Seen x) (Seen y) → x ≡ y
seen_is e = Prim.grind arith

not_over : (stories : Stories) → IsInTurns closing_script 1 4 (short_turned stories) (short_run stories) → ⊥
not_over stories t =
    let root : is_ended t.last.sight.root ≡ false = ap (λ (s : Sight). is_ended s.root) (sym (seen_is t.last.item_is)) in
    let over : 1 ≡ 4 = t.over root in
    omega (arith, over)

not_swapped : line_of_object 1 (Socket Pull) ∷ line_of_object 0 Root ∷ [] ≡ line_of_object 0 Root ∷ line_of_object 1 (Socket Pull) ∷ [] → ⊥
not_swapped e = Prim.grind arith

or_asked : (a b : Bool) → b ≡ true → (a || b) ≡ true
or_asked true b h = refl
or_asked false b h = h

not_term : answer.Term ≡ answer.NotSupported → ⊥
not_term e = Prim.grind arith

asked_first : (to : Endpoint) (stopped : Bool) (old new : OpenSock) (t : Try ℕ ℕ) → leave_asked (moments_in t.pump) ≡ true → t.answer ≡ answer.NotSupported → ConnectsWhere false stopped to old t new → ⊥
asked_first to stopped old new t asked e refuses =
    not_term (subst (λ (b : Bool). ◌≡◌ {A = Answer} (if b then answer.Term else answer.NotSupported) answer.NotSupported) (or_asked stopped (leave_asked (moments_in t.pump)) asked) (sym refuses.answer_is ∙ e))

read_out : LooksHoldAt 2 (end_of 1 true) (Commit (end_of 1 true) [] ∷ DelimiterLook (end_of 1 true) ∷ []) → ⊥
read_out h = let all : 0 ≡ 1 = h.«delimiter» (Commit (end_of 1 true) [] ∷ []) [] refl in omega (arith, all)

has_room : LooksHoldAt 1 (end_of 1 true) (Commit (end_of 1 true) [] ∷ Commit (end_of 1 true) [] ∷ []) → ⊥
has_room h = let room : 2 ≤ 0 + 1 = h.room in omega (arith, room)

pub refused : RefusedRuns
refused = record {
  reasoned = reasoned;
  given_to_none = given_to_none;
  few_letters = few_letters;
  goes_on = λ s new h. never h.0;
  not_over = not_over;
  child_first = λ stories e. not_swapped (ap (λ (j : Journal). j.ended) e);
  asked_first = asked_first;
  read_out = read_out;
  has_room = has_room;
}
