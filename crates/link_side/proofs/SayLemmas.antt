-- A message that is said, and a take whose message isn't offered yet.
use Rattle.std.proofs.Common.{◌≡◌, ℕ, List, [], ◌∷◌, ◌++◌, Option, Some, None, refl, sym, ap, subst, ◌∙◌, inl, inr}
use Rattle.std.specs.Prelude.{◌⊎◌}
use Rattle.std.proofs.lemmas.List.{append-nil}
use Rattle.zq_base.specs.Message.{Frames}
use Rattle.zq_base.specs.Ends.{PipeId}
use Rattle.zq_base.specs.declared.options.EngineOpts.{EngineOpts}
use Rattle.zq_outer.specs.declared.link.LinkPut.{LinkPut}
use Rattle.msg_pipe.specs.Known.{Known}
use Rattle.msg_pipe.specs.Told.{take_step}
use Rattle.msg_pipe.specs.declared.pipes.Taken.{Taken}
use Rattle.msg_pipe.specs.declared.pipes.Taken.TheVariants as taken
use Rattle.spec_pattern.specs.PipeStep.{EmptyLook, DelimiterLook}
use Rattle.spec_link.specs.LinkAct.{LinkAct, Wire, Step, Repeats}
use Rattle.spec_link.specs.Parts.{NothingToWrite, SomethingToWrite, MayTake, IsWriteOver, IsWritePart, WriteFits, write_acts}
use Rattle.spec_link.specs.Topics.{Topics}
use Rattle.link_side.specs.declared.behind.Behind.{Behind}
use Rattle.link_side.specs.declared.behind.Behind.TheVariants.{Nothing, Unsaid}
use Rattle.link_side.specs.declared.wire.Fetched.TheVariants as fetched
use Rattle.link_side.specs.declared.write_part.Written.{Written}
use Rattle.link_side.specs.Kept.{Kept, Side, HasRun, Acts}
use Rattle.link_side.specs.Calls.{Adds, TakeRun}
use Rattle.link_side.specs.Works.{WritesBy, take_acts}
use Rattle.link_side.specs.Says.{LookedBy, TakesBy, SaysBy, SaysNext, Forwards, done_acts, left_by}
use Rattle.link_side.proofs.KeptLemmas.{acts_on, acts_same, no_acts, run_still}
use Rattle.link_side.proofs.PartLemmas.{WritesDue, none_by, some_by, is_take}

-- where no more is done behind the write
abbrev pub Stops : Option LinkPut → Kept → Type 0
Stops put k = IsWriteOver put ⊎ ((opts : EngineOpts) (acts : List LinkAct) → HasRun opts acts k → MayTake opts acts → ⊥)

-- a look that finds no message is no change
look_still : (pipe : PipeId) (found : Taken) (k : Kept) → Acts k (done_acts pipe (Some found)) k
look_still pipe (taken.Item m) k = no_acts k
look_still pipe taken.Empty k = λ opts acts r. run_still opts acts (Step (EmptyLook pipe)) k k refl refl refl refl refl refl refl refl r
look_still pipe taken.Delimiter k = λ opts acts r. run_still opts acts (Step (DelimiterLook pipe)) k k refl refl refl refl refl refl refl refl r

alone : (old new : Kept) (put : Option LinkPut) (octets : List ℕ) (IsNext : LinkAct → Type 0) → WriteFits put octets → Acts old (write_acts put octets) new → WritesDue put old → Stops put new
    → (opts : EngineOpts) (acts : List LinkAct) → HasRun opts acts old → IsWritePart opts IsNext acts (write_acts put octets ++ [])
alone old new put octets IsNext fits f due stops opts acts r = record {
  answer = put;
  octets = octets;
  takes = [];
  all = refl;
  fits = fits;
  none = λ e. none_by put (NothingToWrite opts acts) (λ _. SomethingToWrite opts acts) e (due opts acts r);
  some = λ e. some_by put (NothingToWrite opts acts) (SomethingToWrite opts acts) e (due opts acts r);
  over = λ _. refl;
  take = λ stands may. absurd (elim stops as (λ _. ⊥) [ inl over ↦ stands over | inr waits ↦ waits opts (acts ++ write_acts put octets) (f opts acts r) may ]);
  wait = λ _. refl;
}

with_one : (old new : Kept) (put : Option LinkPut) (octets : List ℕ) (IsNext : LinkAct → Type 0) (act : LinkAct) → IsNext act → WriteFits put octets → Acts old (write_acts put octets) new → WritesDue put old
    → (IsWriteOver put → ⊥) → ((opts : EngineOpts) (acts : List LinkAct) → HasRun opts acts new → MayTake opts acts)
    → (opts : EngineOpts) (acts : List LinkAct) → HasRun opts acts old → IsWritePart opts IsNext acts (write_acts put octets ++ act ∷ [])
with_one old new put octets IsNext act is fits f due stands may opts acts r = record {
  answer = put;
  octets = octets;
  takes = act ∷ [];
  all = refl;
  fits = fits;
  none = λ e. none_by put (NothingToWrite opts acts) (λ _. SomethingToWrite opts acts) e (due opts acts r);
  some = λ e. some_by put (NothingToWrite opts acts) (SomethingToWrite opts acts) e (due opts acts r);
  over = λ over. absurd (stands over);
  take = λ _ _. (act, is, refl);
  wait = λ no. absurd (no (may opts (acts ++ write_acts put octets) (f opts acts r)));
}

module _ {S O I N : Type 0} (K : Known S O I N) where
  pub looked_alone : (old new : Kept) (put : Option LinkPut) (octets : List ℕ) (said said' : Option (List ℕ)) (s : S) (i : I) → Adds said octets said' → WriteFits put octets → Acts old (write_acts put octets) new
      → WritesDue put old → Stops put new → LookedBy K old put None new said said' s i s i
  looked_alone old new put octets said said' s i told fits f due stops = record {
    octets = octets;
    fits = fits;
    told = told;
    took = (refl, refl);
    run = λ _. acts_same old new (write_acts put octets) (write_acts put octets ++ []) (sym (append-nil (write_acts put octets))) f;
    part = λ pipe opts acts r. alone old new put octets _ fits f due stops opts acts r;
  }

  pub looked_with : (old new : Kept) (put : Option LinkPut) (octets : List ℕ) (said said' : Option (List ℕ)) (s s' : S) (i i' : I) (found : Taken) → Adds said octets said' → WriteFits put octets
      → Acts old (write_acts put octets) new → TakeRun K s i found s' i' → WritesDue put old → (IsWriteOver put → ⊥) → ((opts : EngineOpts) (acts : List LinkAct) → HasRun opts acts new → MayTake opts acts)
      → LookedBy K old put (Some found) new said said' s i s' i'
  looked_with old new put octets said said' s s' i i' found told fits f takes due stands may = record {
    octets = octets;
    fits = fits;
    told = told;
    took = takes;
    run = λ pipe. acts_on old new new (write_acts put octets) (done_acts pipe (Some found)) f (look_still pipe found new);
    part = λ pipe opts acts r. with_one old new put octets _ (Step (take_step pipe found)) (is_take pipe found) fits f due stands may opts acts r;
  }

-- nothing is said
pub says_alone : (old new : Kept) (put : Option LinkPut) (octets : List ℕ) (said said' : Option (List ℕ)) (topics : Topics) → Adds said octets said' → WriteFits put octets → Acts old (write_acts put octets) new
    → WritesDue put old → Stops put new → SaysBy old (record { put = put; look = None }) new said said' topics topics
says_alone old new put octets said said' topics told fits f due stops = record {
  octets = octets;
  message = None;
  fits = fits;
  told = told;
  look = refl;
  next = refl;
  run = acts_same old new (write_acts put octets) (write_acts put octets ++ []) (sym (append-nil (write_acts put octets))) f;
  part = λ m rest e opts acts r. alone old new put octets (λ act. act ≡ Wire (Repeats m)) fits f due stops opts acts r;
}

first_same : (again : Option (List Frames)) (m n : Frames) (xs ys : List Frames) → again ≡ Some (m ∷ xs) → again ≡ Some (n ∷ ys) → m ≡ n
first_same again m n xs ys e d = (let both : Some (m ∷ xs) ≡ Some (n ∷ ys) = sym e ∙ d in cc)

-- the next topic is said
pub says_one : (old mid new : Kept) (put : Option LinkPut) (octets : List ℕ) (said said' : Option (List ℕ)) (topics topics' : Topics) (m : Frames) → Adds said octets said' → WriteFits put octets
    → Acts old (write_acts put octets) mid → Acts mid (Wire (Repeats m) ∷ []) new → WritesDue put old → (IsWriteOver put → ⊥) → ((opts : EngineOpts) (acts : List LinkAct) → HasRun opts acts mid → MayTake opts acts)
    → (next : SaysNext topics (Some m) topics') → SaysBy old (record { put = put; look = Some fetched.One }) new said said' topics topics'
says_one old mid new put octets said said' topics topics' m told fits f g due stands may next = record {
  octets = octets;
  message = Some m;
  fits = fits;
  told = told;
  look = refl;
  next = next;
  run = acts_on old mid new (write_acts put octets) (Wire (Repeats m) ∷ []) f g;
  part = λ n rest e opts acts r. with_one old mid put octets (λ act. act ≡ Wire (Repeats n)) (Wire (Repeats m)) (ap (λ x. Wire (Repeats x)) (first_same topics.again m n next.0 rest next.1 e)) fits f due stands may opts acts r;
}

-- the message that waits was taken
pub left_item : (found : Option Taken) (m : Frames) → left_by found ≡ Unsaid m → found ≡ Some (taken.Item m)
left_item None m e = absurd cc
left_item (Some (taken.Item n)) m e = ap (λ (x : Frames). Some (taken.Item x)) (same e)
  where
    same : Unsaid n ≡ Unsaid m → n ≡ m
    same d = cc
left_item (Some taken.Empty) m e = absurd cc
left_item (Some taken.Delimiter) m e = absurd cc

-- ---- a message that was taken is offered at once

forwarded : (mid new : Side) (found : Option Taken) → mid.behind ≡ left_by found → Forwards mid.behind mid.kept new → Forwards (left_by found) mid.kept new
forwarded mid new found left f = subst (λ (b : Behind). Forwards b mid.kept new) left f

-- what is done by the offer is the take
forwarded_run : (pipe : PipeId) (writes : List LinkAct) (old : Kept) (mid new : Side) (found : Option Taken) → Acts old (writes ++ done_acts pipe found) mid.kept → Forwards (left_by found) mid.kept new
    → Acts old (writes ++ take_acts pipe found) new.kept
forwarded_run pipe writes old mid new None run f = subst (λ (x : Side). Acts old (writes ++ []) x.kept) (sym f) run
forwarded_run pipe writes old mid new (Some (taken.Item m)) run f =
    let act = Step (take_step pipe (taken.Item m)) in
    acts_on old mid.kept new.kept writes (act ∷ []) (acts_same old mid.kept (writes ++ []) writes (append-nil writes) run) (f.1 act (record { said = refl; heard = refl; offered = refl; put = refl }))
forwarded_run pipe writes old mid new (Some taken.Empty) run f = subst (λ (x : Side). Acts old (writes ++ take_acts pipe (Some taken.Empty)) x.kept) (sym f) run
forwarded_run pipe writes old mid new (Some taken.Delimiter) run f = subst (λ (x : Side). Acts old (writes ++ take_acts pipe (Some taken.Delimiter)) x.kept) (sym f) run

forwarded_rest : (mid new : Side) (found : Option Taken) → Forwards (left_by found) mid.kept new → new.behind ≡ Nothing
forwarded_rest mid new None f = ap (λ (x : Side). x.behind) f
forwarded_rest mid new (Some (taken.Item m)) f = f.0
forwarded_rest mid new (Some taken.Empty) f = ap (λ (x : Side). x.behind) f
forwarded_rest mid new (Some taken.Delimiter) f = ap (λ (x : Side). x.behind) f

module _ {S O I N : Type 0} (K : Known S O I N) where
  pub writes_forwarded : (old : Kept) (done : Written) (mid new : Side) (said said' : Option (List ℕ)) (s s' : S) (i i' : I) → TakesBy K old done mid said said' s i s' i' → Forwards mid.behind mid.kept new
      → WritesBy K old done new.kept said said' s i s' i'
  writes_forwarded old done mid new said said' s s' i i' t f = record {
    octets = t.octets;
    found = t.found;
    fits = t.fits;
    told = t.told;
    look = t.look;
    took = t.took;
    run = λ pipe. forwarded_run pipe (write_acts done.put t.octets) old mid new t.found (t.run pipe) (forwarded mid new t.found t.left f);
    part = t.part;
  }

  pub rest_forwarded : (old : Kept) (done : Written) (mid new : Side) (said said' : Option (List ℕ)) (s s' : S) (i i' : I) → TakesBy K old done mid said said' s i s' i' → Forwards mid.behind mid.kept new → new.behind ≡ Nothing
  rest_forwarded old done mid new said said' s s' i i' t f = forwarded_rest mid new t.found (forwarded mid new t.found t.left f)
