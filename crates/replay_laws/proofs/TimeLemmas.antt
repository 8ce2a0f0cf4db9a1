-- Each step of an actor that has not finished leaves it less to do.
use Rattle.std.specs.Prelude.{◌≡◌, ◌≤◌, ◌⊎◌, ◌==◌, ◌+◌, ◌-◌, ◌&&◌, ◌||◌, ℕ, suc, Bool, true, false, not, List, [], ◌∷◌, Option, Some, None, cond, filter, if◌then◌else◌, length, map, sum_by, refl}
use Rattle.std.proofs.Common.{arith, sym, ap, ◌∙◌, subst, inl, inr, length-append}
use Rattle.std.proofs.lemmas.List.{length-map}
use Rattle.std.proofs.lemmas.List.Sums.{sum_by-cons}
use Rattle.std.proofs.lemmas.Bool.{leb-false}
use Rattle.std.specs.List.{list_all, AllByRecursion}
use Rattle.zq_base.specs.declared.kind.Kind.{Kind}
use Rattle.zq_base.specs.declared.options.Options.{Options}
use Rattle.spec_run.specs.declared.script.Call.TheVariants as call
use Rattle.spec_control.specs.declared.request.Reply.{Reply}
use Rattle.spec_control.specs.declared.request.Reply.TheVariants.{Done, Object, Pair, Both, Wait, Asked, Before, Refused}
use Rattle.control_laws.proofs.ListLemmas.{never}
use Rattle.spec_control.specs.OwnAsks.{is_none}
use Rattle.spec_control.specs.Moments.{Moment}
use Rattle.spec_run.specs.declared.script.Call.{Call}
use Rattle.spec_run.specs.declared.script.Line.{Line}
use Rattle.spec_run.specs.Script.{Script, line_tries, is_tried_again}
use Rattle.spec_run.specs.Act.{Act, Try, Deed, Tries, Shuts, Fetches, Idles, Works, Looks, AsksRoot, Reads}
use Rattle.spec_run.specs.OpenSocket.{OpenSock, new_open}
use Rattle.spec_run.specs.Standing.{Sockets, ActorStanding, standing_before, open_at, with_open, made_so, CallsOpen, ClosesLine, OnFound, DoesLine, DoesTry, ShutsFirst, standing_after, has_finished}
use Rattle.spec_run.specs.InTurns.{OneTurn, ActorStep, AllStep, TurnsGo}
use Rattle.replay_laws.specs.InTime.{line_sockets, line_steps, actor_steps, ActorsFinishInTime}

-- ---- how many sockets a line leaves open
filter_few : {X : Type 0} (test : X → Bool) (xs : List X) → length (filter test xs) ≤ length xs
filter_few test [] = omega arith
filter_few test (x ∷ xs) = by (test x) (filter_few test xs)
  where
    by : (b : Bool) → length (filter test xs) ≤ length xs → length (cond b (x ∷ filter test xs) (filter test xs)) ≤ suc (length xs)
    by true le = omega (arith, le)
    by false le = omega (arith, le)

as_many_as : (old new : Sockets) → new ≡ old → length new.socks ≤ length old.socks + 0
as_many_as old new e = let same = ap (λ (x : Sockets). length x.socks) e in omega (arith, same)

module _ {N S : Type 0} where
  called_few : (Does : OpenSock → Try N S → OpenSock → Type 0) (place : ℕ) (old new : Sockets) (t : Try N S) → OnFound (CallsOpen Does) (open_at old place) old t new → length new.socks ≤ length old.socks + 0
  called_few Does place old new t f = by (open_at old place) f
    where
      by : (found : Option OpenSock) → OnFound (CallsOpen Does) found old t new → length new.socks ≤ length old.socks + 0
      by None g = as_many_as old new g.new_is
      by (Some s) g =
          let same = ap (λ (x : Sockets). length x.socks) g.new_is in
          let many : length (with_open g.called old).socks ≡ length old.socks = length-map old.socks (λ x. if x.object == g.called.object then g.called else x) in
          omega (arith, same, many)

  closed_few : (place : ℕ) (old new : Sockets) (t : Try N S) → OnFound ClosesLine (open_at old place) old t new → length new.socks ≤ length old.socks + 0
  closed_few place old new t f = by (open_at old place) f
    where
      by : (found : Option OpenSock) → OnFound ClosesLine found old t new → length new.socks ≤ length old.socks + 0
      by None g = as_many_as old new g.new_is
      by (Some s) g =
          let same = ap (λ (x : Sockets). length x.socks) g.closes.new_is in
          let few = filter_few (λ (x : OpenSock). not (x.object == s.object)) old.socks in
          omega (arith, same, few)

  made_few : (r : Reply) (m : Moment N S) (kind : Kind) (options : Options) (old : Sockets) → length (made_so r m kind options old).socks ≤ length old.socks + 1
  made_few (Object o) m kind options old = let more = length-append old.socks (new_open m o.0 kind options ∷ []) in omega (arith, more)
  made_few Done m kind options old = omega arith
  made_few (Pair p) m kind options old = omega arith
  made_few (Both o p) m kind options old = omega arith
  made_few Wait m kind options old = omega arith
  made_few Asked m kind options old = omega arith
  made_few Before m kind options old = omega arith
  made_few (Refused refusal) m kind options old = omega arith

  pub line_few : (line : Call) (old new : Sockets) (t : Try N S) → DoesLine line old t new → length new.socks ≤ length old.socks + line_sockets line
  line_few (call.Socket kind options) old new t f =
      let same = ap (λ (x : Sockets). length x.socks) f.new_is in
      let few = made_few f.reply f.made kind options old in
      omega (arith, same, few)
  line_few (call.Bind place at) old new t f = called_few _ place old new t f
  line_few (call.Connect place to) old new t f = called_few _ place old new t f
  line_few (call.Send place m) old new t f = called_few _ place old new t f
  line_few (call.Recv place tries) old new t f = called_few _ place old new t f
  line_few (call.Subscribe place topic) old new t f = called_few _ place old new t f
  line_few (call.Unsubscribe place topic) old new t f = called_few _ place old new t f
  line_few (call.Unbind place at) old new t f = called_few _ place old new t f
  line_few (call.Disconnect place at) old new t f = called_few _ place old new t f
  line_few (call.Close place) old new t f = closed_few place old new t f
  line_few call.Term old new t f = as_many_as old new f.new_is

-- ---- what an actor has still to do
-- the first line was tried less often than it may be
abbrev pub TriedFew : List Line → ℕ → Type 0
TriedFew [] tried = tried ≡ 0
TriedFew (line ∷ lines) tried = tried ≤ line_tries line.call - 1

abbrev lines_left : List Line → ℕ
lines_left [] = 0
lines_left (line ∷ lines) = line_steps line.call + lines_left lines

all_lines : (lines : List Line) → lines_left lines ≡ sum_by (λ (line : Line). line_steps line.call) lines
all_lines [] = refl
all_lines (line ∷ lines) = ap (λ n. line_steps line.call + n) (all_lines lines) ∙ sym (sum_by-cons (λ (l : Line). line_steps l.call) line lines)

abbrev work_left : ActorStanding → ℕ
work_left st = (lines_left st.lines - st.tried) + length st.mine.socks

pub record Few (k : ℕ) (st : ActorStanding) : Type 0 where
  tried : TriedFew st.lines st.tried
  left : work_left st ≤ k

pub untried : (lines : List Line) → TriedFew lines 0
untried [] = refl
untried (line ∷ lines) = omega arith

-- a line that may make a socket is tried once
once_socket : (line : Call) → (line_sockets line ≡ 0) ⊎ (line_tries line ≡ 1)
once_socket (call.Socket kind options) = inr refl
once_socket (call.Bind place at) = inl refl
once_socket (call.Connect place to) = inl refl
once_socket (call.Send place m) = inl refl
once_socket (call.Recv place tries) = inl refl
once_socket (call.Subscribe place topic) = inl refl
once_socket (call.Unsubscribe place topic) = inl refl
once_socket (call.Unbind place at) = inl refl
once_socket (call.Disconnect place at) = inl refl
once_socket (call.Close place) = inl refl
once_socket call.Term = inl refl

pub not_over : (a b : Bool) → (not a || b) ≡ false → b ≡ false
not_over true b e = e
not_over false b e = absurd (never (sym e))

finished_few : (k : ℕ) (old : ActorStanding) → has_finished old ≡ true → TriedFew old.lines old.tried → work_left old ≤ k
finished_few k old done tried = by old.lines old.mine.socks tried done
  where
    by : (lines : List Line) (socks : List OpenSock) → TriedFew lines old.tried → (is_none lines && is_none socks) ≡ true → (lines_left lines - old.tried) + length socks ≤ k
    by [] [] few d = omega arith
    by [] (s ∷ socks) few d = absurd (never d)
    by (l ∷ lines) socks few d = absurd (never d)

none_finished : (st : ActorStanding) → TriedFew st.lines st.tried → work_left st ≤ 0 → has_finished st ≡ true
none_finished st tried few = by st.lines st.mine.socks tried few
  where
    by : (lines : List Line) (socks : List OpenSock) → TriedFew lines st.tried → (lines_left lines - st.tried) + length socks ≤ 0 → (is_none lines && is_none socks) ≡ true
    by [] [] f le = refl
    by [] (s ∷ socks) f le = absurd (omega (arith, le))
    by (l ∷ lines) socks f le = absurd (omega (arith, le, f))

module _ {N S : Type 0} where
  tried_few : (k : ℕ) (old new : ActorStanding) (t : Try N S) → DoesTry old t new → Few (suc k) old → Few k new
  tried_few k old new t f few = subst (Few k) (sym f.new_is) (by t.over refl)
    where
      tried : old.tried ≤ line_tries t.line.call - 1
      tried = subst (λ l. TriedFew l old.tried) f.lines_are few.tried

      left : ((line_steps t.line.call + lines_left f.rest) - old.tried) + length old.mine.socks ≤ suc k
      left = subst (λ l. (lines_left l - old.tried) + length old.mine.socks ≤ suc k) f.lines_are few.left

      socks : length f.mine.socks ≤ length old.mine.socks + line_sockets t.line.call
      socks = line_few t.line.call old.mine f.mine t f.does

      by : (b : Bool) → t.over ≡ b → Few k (standing_after b f.rest t.told f.mine old)
      by true e = record { tried = untried f.rest; left = omega (arith, tried, left, socks) }
      by false e =
          let again = leb-false (line_tries t.line.call) (old.tried + 1) (not_over (is_tried_again t.answer) _ (sym f.over_is ∙ e)) in
          let none : line_sockets t.line.call ≡ 0 = elim (once_socket t.line.call) [
            | inl zero_is ↦ zero_is
            | inr one ↦ absurd (omega (arith, one, again))
          ] in
          record {
            tried = subst (λ l. TriedFew l (old.tried + 1)) (sym f.lines_are) (let more : old.tried + 1 ≤ line_tries t.line.call - 1 = omega (arith, again) in more);
            left = subst (λ l. (lines_left l - (old.tried + 1)) + length f.mine.socks ≤ k) (sym f.lines_are) (omega (arith, tried, left, socks, none, again));
          }

  -- the socket that is closed is open no more
  pub shut_fewer : (old new : ActorStanding) (acts : List (Act N S)) (f : ShutsFirst old acts new) → length f.mine.socks ≤ length f.others
  shut_fewer old new acts f =
      let same = ap (λ (x : Sockets). length x.socks) f.closes.new_is ∙ ap (λ (l : List OpenSock). length (filter (λ (s : OpenSock). not (s.object == f.first.object)) l)) f.socks_are in
      let first = ap (λ (b : Bool). length (cond (not b) (f.first ∷ filter (λ (s : OpenSock). not (s.object == f.first.object)) f.others) (filter (λ (s : OpenSock). not (s.object == f.first.object)) f.others))) (itself f.first.object) in
      let rest = filter_few (λ (s : OpenSock). not (s.object == f.first.object)) f.others in
      omega (arith, same, first, rest)
    where
      itself : (n : ℕ) → (n == n) ≡ true
      itself n = grind arith

  shut_few : (k : ℕ) (old new : ActorStanding) (acts : List (Act N S)) → ShutsFirst old acts new → Few (suc k) old → Few k new
  shut_few k old new acts f few =
      let fewer = shut_fewer old new acts f in
      let had = ap length f.socks_are in
      let none = ap lines_left f.no_lines in
      subst (Few k) (sym f.new_is) (record { tried = few.tried; left = (let left = few.left in omega (arith, left, fewer, had)) })

  actor_few : (k : ℕ) (old new : ActorStanding) (ds : List (Deed N S)) → ActorStep old ds new → Few (suc k) old → Few k new
  actor_few k old new [] f few = subst (Few k) (sym f.1) (record { tried = few.tried; left = finished_few k old f.0 few.tried })
  actor_few k old new (Tries t ∷ []) f few = tried_few k old new t f few
  actor_few k old new (Shuts acts ∷ []) f few = shut_few k old new acts f few
  actor_few k old new (Fetches slot acts ∷ []) f few = absurd f
  actor_few k old new (Idles m ∷ []) f few = absurd f
  actor_few k old new (Works acts ∷ []) f few = absurd f
  actor_few k old new (Looks m ∷ []) f few = absurd f
  actor_few k old new (AsksRoot acts ∷ []) f few = absurd f
  actor_few k old new (Reads now ∷ []) f few = absurd f
  actor_few k old new (d ∷ e ∷ ds) f few = elim f [ ]

  pub step_few : (k io : ℕ) (olds news : List ActorStanding) (steps : List (List (Deed N S))) → AllStep io olds steps news → AllByRecursion (Few (suc k)) olds → AllByRecursion (Few k) news
  step_few k io [] news [] f few = absurd f
  step_few k io [] news (reaper ∷ serving) f few = subst (AllByRecursion (Few k)) (sym f.2) tt
  step_few k io (old ∷ olds) news [] f few = absurd f
  step_few k io (old ∷ olds) [] (step ∷ steps) f few = absurd f
  step_few k io (old ∷ olds) (new ∷ news) (step ∷ steps) f few = (actor_few k old new step f.0 few.0, step_few k io olds news steps f.1 few.1)

  turns_few : (io : ℕ) (olds news : List ActorStanding) (turns : List (OneTurn N S)) → TurnsGo io olds turns news → AllByRecursion (Few (length turns)) olds → AllByRecursion (Few 0) news
  turns_few io olds news [] f few = subst (AllByRecursion (Few 0)) (sym f) few
  turns_few io olds news (turn ∷ turns) (begins, (mid, step, go)) few = turns_few io mid news turns go (step_few (length turns) io olds mid turn.steps step few)

pub all_finished : (standings : List ActorStanding) → AllByRecursion (Few 0) standings → list_all has_finished standings ≡ true
all_finished [] few = refl
all_finished (st ∷ standings) few = both (none_finished st few.0.tried few.0.left) (all_finished standings few.1)
  where
    both : {a b : Bool} → a ≡ true → b ≡ true → (a && b) ≡ true
    both p q = grind arith

pub begun_few : (n : ℕ) (script : Script) → AllByRecursion (λ actor. actor_steps actor ≤ n) script → AllByRecursion (Few n) (map standing_before script)
begun_few n [] few = tt
begun_few n (actor ∷ script) few = (record { tried = untried actor.lines; left = (let le = few.0 in let all = all_lines actor.lines in omega (arith, le, all)) }, begun_few n script few.1)

pub actors_finish : (N S : Type 0) → ActorsFinishInTime N S
actors_finish N S script io turns standings go few = all_finished standings (turns_few io (map standing_before script) standings turns go (begun_few (length turns) script few))
