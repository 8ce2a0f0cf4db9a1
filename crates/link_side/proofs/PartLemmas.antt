-- How the parts of a turn are made of their calls.
use Rattle.std.proofs.Common.{◌≡◌, ℕ, Bool, true, false, List, [], ◌∷◌, ◌++◌, Option, Some, None, refl, sym, ap, subst, ◌∙◌, inl, inr}
use Rattle.std.specs.Prelude.{MatchOption, IsSome, OnErr, Result, Ok, Err}
use Rattle.std.specs.Option.{option_to_list}
use Rattle.std.proofs.lemmas.List.{append-nil}
use Rattle.zmtp_engine.specs.Conversation.{waiting}
use Rattle.zq_base.specs.Message.{Frames}
use Rattle.zq_base.specs.Ends.{PipeId}
use Rattle.zq_base.specs.declared.options.EngineOpts.{EngineOpts}
use Rattle.zq_outer.specs.declared.link.LinkGot.{LinkGot}
use Rattle.zq_outer.specs.declared.link.LinkPut.{LinkPut}
use Rattle.spec_pattern.specs.PipeStep.{Commit, FullLook}
use Rattle.msg_pipe.specs.Known.{Known, IsThere}
use Rattle.msg_pipe.specs.Told.{take_step, put_step}
use Rattle.msg_pipe.specs.declared.pipes.PutIn.{PutIn}
use Rattle.msg_pipe.specs.declared.pipes.PutIn.TheVariants as put_in
use Rattle.msg_pipe.specs.declared.pipes.Taken.{Taken}
use Rattle.msg_pipe.specs.declared.pipes.Taken.TheVariants as taken
use Rattle.spec_link.specs.LinkAct.{LinkAct, Step}
use Rattle.spec_link.specs.Parts.{NothingToWrite, SomethingToWrite, NothingHeld, SomethingHeld, IsTake, PutsAll, ReadFits, puts, read_acts}
use Rattle.link_side.specs.declared.behind.Behind.{Behind}
use Rattle.link_side.specs.declared.behind.Behind.TheVariants.{Nothing, Octets, Unsaid}
use Rattle.link_side.specs.Kept.{Kept, Side, HasRun, IsAlive, IsAtRest, Acts, whole}
use Rattle.link_side.specs.Calls.{Adds, PutRun, PutsRun, put_acts, is_some_put}
use Rattle.link_side.specs.declared.read_part.Heard.{Heard}
use Rattle.link_side.specs.Works.{ReadsBy, WantsBy}
use Rattle.link_side.proofs.KeptLemmas.{acts_on, acts_same, stays_alive}
use Rattle.link_side.proofs.RestLemmas.{nothing_held, something_held}

-- ---- answers

no_message : IsSome {T = Frames} None → ⊥
no_message e = absurd cc

-- octets are added to what the link tells: none are
pub adds_none : (o : Option (List ℕ)) → Adds o [] o
adds_none None = refl
adds_none (Some l) = ap Some (sym (append-nil l))

pub none_by : {T : Type 0} (o : Option T) (X : Type 0) (Y : T → Type 0) → o ≡ None → MatchOption o X Y → X
none_by None X Y e m = m
none_by (Some x) X Y e m = absurd cc

pub some_by : {T : Type 0} (o : Option T) (X Y : Type 0) → IsSome o → MatchOption o X (λ _. Y) → Y
some_by None X Y e m = absurd cc
some_by (Some x) X Y e m = m

pub on_err : {T E : Type 0} (r : Result T E) (X : Type 0) → X → OnErr r X
on_err (Ok x) X k = tt
on_err (Err e) X k = k

-- ---- the writing part

-- what was to be written, by the write that was made
abbrev pub WritesDue : Option LinkPut → Kept → Type 0
WritesDue put k = (opts : EngineOpts) (acts : List LinkAct) → HasRun opts acts k → MatchOption put (NothingToWrite opts acts) (λ _. SomethingToWrite opts acts)

pub is_take : (pipe : PipeId) (found : Taken) → IsTake pipe (Step (take_step pipe found))
is_take pipe (taken.Item m) = inl (m, refl)
is_take pipe taken.Empty = inr (inl refl)
is_take pipe taken.Delimiter = inr (inr refl)

module _ {S O I N : Type 0} (K : Known S O I N) where
  -- ---- puts, one after another

  -- a half of a pipe that is there is of one that is there still
  pub here_after : (s s' : S) (o o' : O) (m : Frames) (found : PutIn) → PutRun K s o m found s' o' → IsThere K s (K.out_name o) → IsThere K s' (K.out_name o')
  here_after s s' o o' m found p here = subst (λ (n : N). IsThere K s' n) (sym p.keeps.name_is) (p.keeps.there (K.out_name o) here)

  pub puts_more : (ms : List Frames) (m : Frames) (found : PutIn) (s t t' : S) (o p p' : O) → found ≡ put_in.Ok → PutsRun K s o ms false t p → PutRun K t p m found t' p'
      → PutsRun K s o (ms ++ m ∷ []) false t' p'
  puts_more [] m found s t t' o p p' e r k =
      (t', p', subst (λ (x : S). PutRun K x o m put_in.Ok t' p') r.0 (subst (λ (x : O). PutRun K t x m put_in.Ok t' p') r.1 (subst (λ (x : PutIn). PutRun K t p m x t' p') e k)), (refl, refl))
  puts_more (x ∷ ms) m found s t t' o p p' e r k = (r.0, r.1, r.2, puts_more ms m found r.0 t t' r.1 p p' e r.3 k)

  pub puts_full : (ms : List Frames) (m : Frames) (found : PutIn) (s t t' : S) (o p p' : O) → found ≡ put_in.Full m → PutsRun K s o ms false t p → PutRun K t p m found t' p'
      → PutsRun K s o ms true t' p'
  puts_full [] m found s t t' o p p' e r k =
      (m, subst (λ (x : S). PutRun K x o m (put_in.Full m) t' p') r.0 (subst (λ (x : O). PutRun K t x m (put_in.Full m) t' p') r.1 (subst (λ (x : PutIn). PutRun K t p m x t' p') e k)))
  puts_full (x ∷ ms) m found s t t' o p p' e r k = (r.0, r.1, r.2, puts_full ms m found r.0 t t' r.1 p p' e r.3 k)

  -- ---- the reading part

  -- what was put stops where nothing waits, or at a full pipe
  pub stops : (pipe : PipeId) (ms : List Frames) (full : Bool) (X Y : Type 0) → (full ≡ true → X) → (full ≡ false → Y) → PutsAll X Y pipe (put_acts pipe ms full)
  stops pipe ms false X Y f g = (ms, inl (append-nil (puts pipe ms), g refl))
  stops pipe ms true X Y f g = (ms, inr (refl, f refl))

  pub reads_by : (old mid fed new : Kept) (got : Option LinkGot) (put : Bool) (octets : List ℕ) (ms : List Frames) (full : Bool) (heard heard' : Option (List ℕ)) (s s' : S) (o o' : O)
      → put ≡ is_some_put ms → Adds heard octets heard' → ReadFits got octets → PutsRun K s o ms full s' o' → Acts old (read_acts got octets) mid → Acts mid [] fed → ((pipe : PipeId) → Acts fed (put_acts pipe ms full) new)
      → IsAtRest new → (full ≡ true → IsSome new.held) → (full ≡ false → whole new ≡ [])
      → (IsAtRest old → (opts : EngineOpts) (acts : List LinkAct) → HasRun opts acts old → MatchOption got (SomethingHeld opts acts) (λ _. NothingHeld opts acts))
      → ReadsBy K (IsAtRest old) old (record { got = got; put = put }) new heard heard' s o s' o'
  reads_by old mid fed new got put octets ms full heard heard' s s' o o' some told fits puts_are f g h rest held none due =
      let reads = read_acts got octets in
      let all : (pipe : PipeId) → Acts old (reads ++ put_acts pipe ms full) new = λ pipe.
      acts_on old fed new reads (put_acts pipe ms full) (acts_same old fed (reads ++ []) reads (append-nil reads) (acts_on old mid fed reads [] f g)) (h pipe) in
      record {
        octets = octets;
        messages = ms;
        full = full;
        fits = fits;
        told = told;
        put_is = some;
        puts = puts_are;
        run = all;
        part = λ was pipe opts acts r. record {
          answer = got;
          octets = octets;
          later = put_acts pipe ms full;
          all = refl;
          fits = fits;
          held = λ e. none_by got (SomethingHeld opts acts) (λ _. NothingHeld opts acts) e (due was opts acts r);
          read = λ e. some_by got (SomethingHeld opts acts) (NothingHeld opts acts) e (due was opts acts r);
          whole = stops pipe ms full (SomethingHeld opts (acts ++ (reads ++ put_acts pipe ms full))) (NothingHeld opts (acts ++ (reads ++ put_acts pipe ms full)))
              (λ e. something_held opts (acts ++ (reads ++ put_acts pipe ms full)) new rest.fed rest.current (held e) (all pipe opts acts r))
              (λ e. nothing_held opts (acts ++ (reads ++ put_acts pipe ms full)) new rest.fed rest.current (none e) (all pipe opts acts r));
        };
      }

  -- the same where another premise stands for being at rest
  pub reads_for : (A B : Type 0) (old new : Kept) (done : Heard) (heard heard' : Option (List ℕ)) (s s' : S) (o o' : O) → (B → A)
      → ReadsBy K A old done new heard heard' s o s' o' → ReadsBy K B old done new heard heard' s o s' o'
  reads_for A B old new done heard heard' s s' o o' f r = record {
    octets = r.octets;
    messages = r.messages;
    full = r.full;
    fits = r.fits;
    told = r.told;
    put_is = r.put_is;
    puts = r.puts;
    run = r.run;
    part = λ b. r.part (f b);
  }

-- one put more
pub put_acts_more : (pipe : PipeId) (ms : List Frames) (m : Frames) → put_acts pipe ms false ++ Step (Commit pipe m) ∷ [] ≡ put_acts pipe (ms ++ m ∷ []) false
put_acts_more pipe [] m = refl
put_acts_more pipe (x ∷ ms) m = ap (λ (l : List LinkAct). Step (Commit pipe x) ∷ l) (put_acts_more pipe ms m)

pub some_more : (ms : List Frames) (m : Frames) → true ≡ is_some_put (ms ++ m ∷ [])
some_more [] m = refl
some_more (x ∷ ms) m = refl

-- and a full look
pub put_acts_full : (pipe : PipeId) (ms : List Frames) → put_acts pipe ms false ++ Step (FullLook pipe) ∷ [] ≡ put_acts pipe ms true
put_acts_full pipe ms = ap (λ (l : List LinkAct). l ++ Step (FullLook pipe) ∷ []) (append-nil (puts pipe ms))

-- a put that went, and one that found the pipe full
pub step_went : (a b c : Kept) (m : Frames) (found : PutIn) (pipe : PipeId) → found ≡ put_in.Ok → Acts a [] b → Acts b (Step (put_step pipe m found) ∷ []) c → Acts a (Step (Commit pipe m) ∷ []) c
step_went a b c m found pipe e f g = acts_on a b c [] (Step (Commit pipe m) ∷ []) f (subst (λ (x : PutIn). Acts b (Step (put_step pipe m x) ∷ []) c) e g)

pub step_full : (a b c : Kept) (m : Frames) (found : PutIn) (pipe : PipeId) → found ≡ put_in.Full m → Acts a [] b → Acts b (Step (put_step pipe m found) ∷ []) c → Acts a (Step (FullLook pipe) ∷ []) c
step_full a b c m found pipe e f g = acts_on a b c [] (Step (FullLook pipe) ∷ []) f (subst (λ (x : PutIn). Acts b (Step (put_step pipe m x) ∷ []) c) e g)

-- behind puts, no message waits where none is held
pub drained_by : (k : Kept) (full : Bool) → (full ≡ true → IsSome k.held) → (full ≡ false → whole k ≡ []) → k.held ≡ None → waiting k.engine ≡ []
drained_by k true f g none = absurd (no_message (subst (λ (o : Option Frames). IsSome o) none (f refl)))
drained_by k false f g none = ap (λ (o : Option Frames). option_to_list o ++ waiting k.engine) (sym none) ∙ g refl

-- the pipe of some end
pub some_pipe : PipeId
some_pipe = record { pair = record { 0 = 0 }; a = true }

-- where something was read by acts, they are acts
pub reads_run : {S O I N : Type 0} (K : Known S O I N) (A : Type 0) (old new : Kept) (done : Heard) (heard heard' : Option (List ℕ)) (s s' : S) (o o' : O)
    → ReadsBy K A old done new heard heard' s o s' o' → (more : List LinkAct) × Acts old more new
reads_run K A old new done heard heard' s s' o o' r = (read_acts done.got r.octets ++ put_acts some_pipe r.messages r.full, r.run some_pipe)

-- the reading part, by the value of a side
pub side_reads : {S O I N : Type 0} (K : Known S O I N) (side : Side) (old new : Kept) (behind : Behind) (done : Heard) (heard heard' : Option (List ℕ)) (s s' : S) (o o' : O)
    → side ≡ record { kept = old; behind = behind } → (behind ≡ Nothing → IsAtRest old)
    → ReadsBy K (IsAtRest old) old done new heard heard' s o s' o' → ReadsBy K (side.behind ≡ Nothing) side.kept done new heard heard' s o s' o'
side_reads K side old new behind done heard heard' s s' o o' is rest r =
    subst (λ (x : Side). ReadsBy K (x.behind ≡ Nothing) x.kept done new heard heard' s o s' o') (sym is) (reads_for K (IsAtRest old) (behind ≡ Nothing) old new done heard heard' s s' o o' rest r)

-- the same of one that memory cut short
pub side_wants : (side : Side) (old new : Kept) (behind : Behind) (heard heard' : Option (List ℕ)) (shown : Option LinkGot → Type 0) → side ≡ record { kept = old; behind = behind } → (behind ≡ Nothing → IsAtRest old)
    → WantsBy (IsAtRest old) old new heard heard' shown → WantsBy (side.behind ≡ Nothing) side.kept new heard heard' shown
side_wants side old new behind heard heard' shown is rest w =
    subst (λ (x : Side). WantsBy (x.behind ≡ Nothing) x.kept new heard heard' shown) (sym is) (record {
      answer = w.answer;
      octets = w.octets;
      fits = w.fits;
      told = w.told;
      run = w.run;
      held = λ b. w.held (rest b);
      read = λ b. w.read (rest b);
      counts = w.counts;
    })

-- a reading part that memory cut short, from its pieces
pub wants_by : (old mid new : Kept) (answer : Option LinkGot) (octets : List ℕ) (heard heard' : Option (List ℕ)) (shown : Option LinkGot → Type 0)
    → Acts old (read_acts answer octets) mid → Acts mid [] new → Adds heard octets heard' → ReadFits answer octets
    → (IsAtRest old → (opts : EngineOpts) (acts : List LinkAct) → HasRun opts acts old → MatchOption answer (SomethingHeld opts acts) (λ _. NothingHeld opts acts)) → shown answer
    → WantsBy (IsAtRest old) old new heard heard' shown
wants_by old mid new answer octets heard heard' shown f g told fits due counts =
    let reads = read_acts answer octets in
    record {
      answer = answer;
      octets = octets;
      fits = fits;
      told = told;
      run = acts_same old new (reads ++ []) reads (append-nil reads) (acts_on old mid new reads [] f g);
      held = λ was opts acts r e. none_by answer (SomethingHeld opts acts) (λ _. NothingHeld opts acts) e (due was opts acts r);
      read = λ was opts acts r e. some_by answer (SomethingHeld opts acts) (NothingHeld opts acts) e (due was opts acts r);
      counts = counts;
    }

pub wants_run : (A : Type 0) (old new : Kept) (heard heard' : Option (List ℕ)) (shown : Option LinkGot → Type 0) → WantsBy A old new heard heard' shown → (more : List LinkAct) × Acts old more new
wants_run A old new heard heard' shown w = (read_acts w.answer w.octets, w.run)

pub acts_alive : (old new : Kept) → ((more : List LinkAct) × Acts old more new) → IsAlive old → IsAlive new
acts_alive old new k alive = stays_alive old new k.0 k.1 alive

-- where nothing is undone, no message waits
pub none_unsaid : (b : Behind) (m : Frames) (X : Type 0) → b ≡ Nothing → b ≡ Unsaid m → X
none_unsaid b m X e d = absurd cc

-- and where octets are, nothing else is undone
pub octets_rest : (X : Type 0) → Octets ≡ Nothing → X
octets_rest X e = absurd cc

pub octets_unsaid : (m : Frames) (X : Type 0) → Octets ≡ Unsaid m → X
octets_unsaid m X e = absurd cc
