-- The trial, computed.
use Rattle.std.specs.Prelude.{◌≡◌, ◌<◌, ℕ, zero, suc, List, [], ◌∷◌, Option, Some, None, All, refl}
use Rattle.std.proofs.Common.{arith, subst}
use Rattle.zq_base.specs.Ends.{other_end}
use Rattle.spec_control.specs.declared.entry.Did.{Did}
use Rattle.spec_control.specs.declared.entry.Joining.{Joining}
use Rattle.spec_control.specs.declared.entry.Item.{Item}
use Rattle.spec_control.specs.declared.entry.Item.TheVariants.{Event, Seen}
use Rattle.spec_control.specs.Control.{Control, begun}
use Rattle.spec_control.specs.ControlRun.{IsControlRun}
use Rattle.spec_control.specs.Names.{name_of, IsTold}
use Rattle.spec_control.specs.ControlExamples.{crossed_run}
use Rattle.spec_control.proofs.ControlExampleLemmas.{crossed}
use Rattle.spec_control.specs.Has.{taken_in, acts_in, has_after, IsBy}
use Rattle.spec_control.specs.Met.{DelimitersAreTold}
use Rattle.spec_control.specs.Worker.{WorkerComesOut}
use Rattle.spec_control.specs.Trial.{callers, with_callers, TrialComesOut}

pub none : {X : Type 0} (P : X → Type 0) → All P []
none P k d lt = absurd (below lt)
  where
    below : {k : ℕ} → k < 0 → ⊥
    below h = omega arith

pub one : {X : Type 0} (P : X → Type 0) (x : X) → P x → All P (x ∷ [])
one P x h zero d lt = h
one P x h (suc k) d lt = absurd (below lt)
  where
    below : {k : ℕ} → suc k < 1 → ⊥
    below h = omega arith

some_none : {X : Type 0} {x : X} → None ≡ Some x → ⊥
some_none e = Prim.grind arith

some_of : {x y : ℕ} → Some x ≡ Some y → x ≡ y
some_of e = Prim.grind arith

-- who makes the entries is not asked by a control run
callers_run : {N S : Type 0} (ks : List ℕ) (items : List (Item N S)) (c : Control) → IsControlRun c items → IsControlRun c (with_callers ks items)
callers_run ks [] c run = run
callers_run [] (item ∷ items) c run = run
callers_run (k ∷ ks) (Event entry ∷ items) c run = (run.0, callers_run ks items _ run.1)
callers_run (k ∷ ks) (Seen sight ∷ items) c run = (record { empty = run.0.empty; root = run.0.root; live = run.0.live; room = run.0.room }, callers_run ks items c run.1)

-- an event of an object that its caller has
pub acts : {N S : Type 0} (past : List (Item N S)) (c : Control) (did : Did N S) (k i : ℕ) → acts_in c did ≡ Some i → taken_in did ≡ None → has_after i past ≡ Some k → IsBy past c did k
acts past c did k i here none has = record {
  acts = λ j e. subst (λ (n : ℕ). has_after n past ≡ Some k) (some_of (subst (λ (o : Option ℕ). o ≡ Some j) here e)) has;
  takes = λ j e. absurd (some_none (subst (λ (o : Option ℕ). o ≡ Some j) none e));
}

-- one that takes an object in
pub takes : {N S : Type 0} (past : List (Item N S)) (c : Control) (did : Did N S) (k i : ℕ) → acts_in c did ≡ None → taken_in did ≡ Some i → has_after i past ≡ None → IsBy past c did k
takes past c did k i none here free = record {
  acts = λ j e. absurd (some_none (subst (λ (o : Option ℕ). o ≡ Some j) none e));
  takes = λ j e. subst (λ (n : ℕ). has_after n past ≡ None) (some_of (subst (λ (o : Option ℕ). o ≡ Some j) here e)) free;
}

-- one of the root
pub of_root : {N S : Type 0} (past : List (Item N S)) (c : Control) (did : Did N S) (k : ℕ) → acts_in c did ≡ None → taken_in did ≡ None → IsBy past c did k
of_root past c did k no_act no_take = record {
  acts = λ j e. absurd (some_none (subst (λ (o : Option ℕ). o ≡ Some j) no_act e));
  takes = λ j e. absurd (some_none (subst (λ (o : Option ℕ). o ≡ Some j) no_take e));
}

-- one end joins, and is told its names
pub told : {N S : Type 0} (items : List (Item N S)) (j : Joining N) → name_of items j.end ≡ Some j.written → name_of items (other_end j.end) ≡ Some j.read → All (IsTold items) (j ∷ [])
told items j written read = one (IsTold items) j (record { written = written; read = read })

pub trial_comes_out : TrialComesOut
trial_comes_out stories = record {
  run_is = callers_run callers (crossed_run stories) (begun 1) (crossed stories).run_is;
  callers_may =
      (takes _ _ _ _ _ refl refl refl, (takes _ _ _ _ _ refl refl refl, (acts _ _ _ _ _ refl refl refl, (acts _ _ _ _ _ refl refl refl, (acts _ _ _ _ _ refl refl refl, (acts _ _ _ _ _ refl refl refl, (acts _ _ _ _ _ refl refl refl, (takes _ _ _ _ _ refl refl refl, (takes _ _ _ _ _ refl refl refl, (acts _ _ _ _ _ refl refl refl, (acts _ _ _ _ _ refl refl refl, (acts _ _ _ _ _ refl refl refl, (acts _ _ _ _ _ refl refl refl, (acts _ _ _ _ _ refl refl refl, (acts _ _ _ _ _ refl refl refl, (of_root _ _ _ _ refl refl, (of_root _ _ _ _ refl refl, (of_root _ _ _ _ refl refl, tt))))))))))))))))));
  named =
      (none _, (none _, (none _, (told _ _ refl refl, (told _ _ refl refl, (none _, (none _, (told _ _ refl refl, (told _ _ refl refl, (none _, (none _, (none _, (none _, (none _, (none _, (none _, (none _, (none _, tt))))))))))))))))));
  connected = refl;
  not_bound = refl;
  bound = refl;
  closed = refl;
  reaped_b = refl;
  reaped_a = refl;
  reaper_has = refl;
  nobody_has = refl;
  settled_b = refl;
  left_a = refl;
  settled_a = refl;
}

pub worker_comes_out : WorkerComesOut
worker_comes_out stories = record {
  callers_may = (takes _ _ _ _ _ refl refl refl, (acts _ _ _ _ _ refl refl refl, (takes _ _ _ _ _ refl refl refl, (acts _ _ _ _ _ refl refl refl, (acts _ _ _ _ _ refl refl refl, (of_root _ _ _ _ refl refl, (takes _ _ _ _ _ refl refl refl, (acts _ _ _ _ _ refl refl refl, (acts _ _ _ _ _ refl refl refl, (acts _ _ _ _ _ refl refl refl, (acts _ _ _ _ _ refl refl refl, (acts _ _ _ _ _ refl refl refl, (acts _ _ _ _ _ refl refl refl, (acts _ _ _ _ _ refl refl refl, (acts _ _ _ _ _ refl refl refl, (of_root _ _ _ _ refl refl, tt))))))))))))))));
  open_socket = refl;
  closed = refl;
  reaped = refl;
  taken_in = refl;
  may_ask_over = record { taken_in = refl; lives = refl; first_time = refl };
  told = refl;
  has_end = refl;
  waits = record { session = refl; waits = refl; left = refl };
  not_over = refl;
  over = refl;
}

pub delimiter_is_told : DelimitersAreTold
delimiter_is_told stories = record {
  callers_may =
      (takes _ _ _ _ _ refl refl refl, (takes _ _ _ _ _ refl refl refl, (acts _ _ _ _ _ refl refl refl, (acts _ _ _ _ _ refl refl refl, (acts _ _ _ _ _ refl refl refl, (acts _ _ _ _ _ refl refl refl, (takes _ _ _ _ _ refl refl refl, (acts _ _ _ _ _ refl refl refl, (acts _ _ _ _ _ refl refl refl, (acts _ _ _ _ _ refl refl refl, (acts _ _ _ _ _ refl refl refl, (takes _ _ _ _ _ refl refl refl, (acts _ _ _ _ _ refl refl refl, (acts _ _ _ _ _ refl refl refl, (acts _ _ _ _ _ refl refl refl, (of_root _ _ _ _ refl refl, (of_root _ _ _ _ refl refl, (of_root _ _ _ _ refl refl, tt))))))))))))))))));
  before = refl;
  reader = refl;
  writer = refl;
  unreaped = refl;
  reaped = refl;
  other = refl;
  crossed = refl;
}
