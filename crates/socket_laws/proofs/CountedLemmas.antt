-- Steps at other pipes leave the counts of those that were settled.
use Rattle.std.specs.Prelude.{◌≡◌, Bool, true, false, not, List, [], ◌∷◌, ◌++◌, Option, Some, None, cond, find, length, refl}
use Rattle.std.specs.List.{AllByRecursion}
use Rattle.std.proofs.Common.{arith, sym, ap, ◌∙◌, append-nil, true≢false}
use Rattle.std.proofs.lemmas.List.Elements.{filter_map-append}
use Rattle.zq_base.specs.declared.ids.EndId.{EndId}
use Rattle.zq_base.specs.Message.{Frames}
use Rattle.zq_base.specs.Ends.{PipeId, other_end}
use Rattle.spec_pattern.specs.PipeStep.{PipeStep, Commit, FullLook, RoomLook, Take, EmptyLook, DelimiterLook, WaitingLook, Seal, same_pipe, committed_by, taken_by, committed_to, taken_from}
use Rattle.spec_pattern.proofs.Exact.{same_pipes}
use Rattle.spec_control.specs.Control.{Settlement, is_end, end_of}
use Rattle.control_laws.proofs.AskLemmas.{end_self}
use Rattle.spec_run.specs.OwnedRun.{IsCountedBy, AreCountedBy}
use Rattle.run_laws.specs.CapacitiesStay.{pipe_at}
use Rattle.socket_laws.specs.Counted.{CountsGoOn}

some_none : {X : Type 0} {x : X} → Some x ≡ None → ⊥
some_none e = Prim.grind arith

not_not : (a : Bool) → not (not a) ≡ a
not_not true = refl
not_not false = refl

pub other_twice : (e : EndId) → other_end (other_end e) ≡ e
other_twice e = ap (end_of e.pair.0) (not_not e.a)

-- a pipe that is not read at this end is not the one that is
pub apart : (e : EndId) (q : PipeId) → is_end (other_end q) e ≡ false → same_pipe (other_end e) q ≡ false
apart e q not_here = by (same_pipe (other_end e) q) refl
  where
    by : (b : Bool) → same_pipe (other_end e) q ≡ b → b ≡ false
    by false is = refl
    by true is =
        let same : other_end q ≡ e = ap other_end (sym (same_pipes (other_end e) q is)) ∙ other_twice e in
        absurd (true≢false (sym (end_self e) ∙ ap (λ (d : EndId). is_end d e) (sym same) ∙ not_here))

-- these steps are at pipes that are not read at this end
abbrev AreElsewhere : EndId → List PipeStep → Type 0
AreElsewhere e steps = AllByRecursion (λ t. is_end (other_end (pipe_at t)) e ≡ false) steps

none_committed : (e : EndId) (steps : List PipeStep) → AreElsewhere e steps → committed_to (other_end e) steps ≡ []
none_committed e [] all = refl
none_committed e (Commit q m ∷ steps) all = rw (apart e q all.0) (none_committed e steps all.1)
none_committed e (FullLook q ∷ steps) all = none_committed e steps all.1
none_committed e (RoomLook q ∷ steps) all = none_committed e steps all.1
none_committed e (Take q m ∷ steps) all = none_committed e steps all.1
none_committed e (EmptyLook q ∷ steps) all = none_committed e steps all.1
none_committed e (DelimiterLook q ∷ steps) all = none_committed e steps all.1
none_committed e (WaitingLook q ∷ steps) all = none_committed e steps all.1
none_committed e (Seal q ∷ steps) all = none_committed e steps all.1

none_taken : (e : EndId) (steps : List PipeStep) → AreElsewhere e steps → taken_from (other_end e) steps ≡ []
none_taken e [] all = refl
none_taken e (Commit q m ∷ steps) all = none_taken e steps all.1
none_taken e (FullLook q ∷ steps) all = none_taken e steps all.1
none_taken e (RoomLook q ∷ steps) all = none_taken e steps all.1
none_taken e (Take q m ∷ steps) all = rw (apart e q all.0) (none_taken e steps all.1)
none_taken e (EmptyLook q ∷ steps) all = none_taken e steps all.1
none_taken e (DelimiterLook q ∷ steps) all = none_taken e steps all.1
none_taken e (WaitingLook q ∷ steps) all = none_taken e steps all.1
none_taken e (Seal q ∷ steps) all = none_taken e steps all.1

-- so its counts stay
counted_on : (past more : List PipeStep) (s : Settlement) → IsCountedBy past s → AreElsewhere s.end more → IsCountedBy (past ++ more) s
counted_on past more s counted elsewhere = record {
  sent = counted.sent
      ∙ ap length (sym (append-nil (committed_to (other_end s.end) past))
      ∙ ap (λ (l : List Frames). committed_to (other_end s.end) past ++ l) (sym (none_committed s.end more elsewhere))
      ∙ sym (filter_map-append (committed_by (other_end s.end)) past more));
  got = counted.got
      ∙ ap length (sym (append-nil (taken_from (other_end s.end) past))
      ∙ ap (λ (l : List Frames). taken_from (other_end s.end) past ++ l) (sym (none_taken s.end more elsewhere))
      ∙ sym (filter_map-append (taken_by (other_end s.end)) past more));
  sum = counted.sum;
  reason = counted.reason;
}

-- no settlement of these is of a pipe that a step is at
abbrev AreOfNone : List Settlement → List PipeStep → Type 0
AreOfNone settlements steps = AllByRecursion (λ t. find (λ s. is_end (other_end (pipe_at t)) s.end) settlements ≡ None) steps

not_first : (b : Bool) (s : Settlement) (rest : Option Settlement) → cond b (Some s) rest ≡ None → (b ≡ false) × (rest ≡ None)
not_first true s rest e = absurd (some_none e)
not_first false s rest e = (refl, e)

first_elsewhere : (s : Settlement) (ss : List Settlement) (steps : List PipeStep) → AreOfNone (s ∷ ss) steps → AreElsewhere s.end steps × AreOfNone ss steps
first_elsewhere s ss [] all = (tt, tt)
first_elsewhere s ss (t ∷ steps) all =
    let here = not_first (is_end (other_end (pipe_at t)) s.end) s (find (λ x. is_end (other_end (pipe_at t)) x.end) ss) all.0 in
    let rest = first_elsewhere s ss steps all.1 in
    ((here.0, rest.0), (here.1, rest.1))

all_counted_on : (past more : List PipeStep) (ss : List Settlement) → AreCountedBy past ss → AreOfNone ss more → AreCountedBy (past ++ more) ss
all_counted_on past more [] counted none = tt
all_counted_on past more (s ∷ ss) counted none =
    let parts = first_elsewhere s ss more none in
    (counted_on past more s counted.0 parts.0, all_counted_on past more ss counted.1 parts.1)

one_more : (past : List PipeStep) (ss : List Settlement) (s : Settlement) → AreCountedBy past ss → IsCountedBy past s → AreCountedBy past (ss ++ s ∷ [])
one_more past [] s counted one = (one, tt)
one_more past (x ∷ ss) s counted one = (counted.0, one_more past ss s counted.1 one)

pub counts_go_on : CountsGoOn
counts_go_on = record {
  steps = λ c past more counted unsettled. all_counted_on past more c.settlements counted unsettled;
  settled = one_more;
}
