-- What the calls at a link do, by the half that is there.
use Rattle.std.proofs.Common.{◌≡◌, ℕ, Bool, true, false, List, [], ◌++◌, Option, Some, None, refl, sym, ap, subst, ◌∙◌}
use Rattle.std.specs.Prelude.{IsSome, MatchOption}
use Rattle.std.specs.List.{flat_map}
use Rattle.std.proofs.lemmas.List.{append-nil}
use Rattle.zq_base.specs.Message.{Frames}
use Rattle.zq_base.specs.Ends.{PipeId}
use Rattle.zq_base.specs.declared.options.EngineOpts.{EngineOpts}
use Rattle.zq_base.specs.declared.kind.Kind.TheVariants.{Push}
use Rattle.zq_outer.specs.declared.link.LinkGot.{LinkGot}
use Rattle.zq_outer.specs.declared.link.LinkPut.{LinkPut}
use Rattle.msg_pipe.specs.Known.{Known}
use Rattle.msg_pipe.specs.Told.{take_step}
use Rattle.msg_pipe.specs.declared.pipes.Taken.{Taken}
use Rattle.msg_pipe.specs.declared.pipes.Taken.TheVariants as taken
use Rattle.spec_link.specs.LinkAct.{LinkAct}
use Rattle.spec_link.specs.Parts.{IsSilentReadPart, NothingHeld, SomethingHeld, write_acts, read_acts, puts}
use Rattle.spec_link.specs.Turn.{IsWriteOnly}
use Rattle.link_side.specs.declared.read_part.Heard.{Heard}
use Rattle.link_side.specs.declared.write_part.Written.{Written}
use Rattle.zq_session.specs.declared.life.ReadMode.{ReadMode}
use Rattle.zq_session.specs.declared.life.ReadMode.TheVariants as mode
use Rattle.link_side.specs.Kept.{Kept, Acts, IsKeptOf, KeepsActs, without_puts}
use Rattle.link_side.specs.Calls.{Adds, TakeRun, put_acts}
use Rattle.link_side.specs.Works.{take_acts, TookRun, WritesBy, ReadsBy, WantsBy}
use Rattle.link_side.specs.Silent.{HearsBy}
use Rattle.link_side.specs.Single.{WritesAlone, PutsBy, DropsBy}
use Rattle.zq_session.specs.Halves.{StepRun, StepsRun, step_in}
use Rattle.zq_session.specs.Doing.{WritesAtBy, ReadsAtBy, WantsAtBy}
use Rattle.zq_session.specs.LastActs.{PutsLastBy, SaysLastBy}
use Rattle.link_side.proofs.KeptLemmas.{acts_on, acts_same, no_acts}
use Rattle.zq_session.proofs.UnputLemmas.{does_by, does_nothing, does_puts, does_these, run_of, unput_on, unput_puts, unput_read, unput_write}
use Rattle.zq_session.proofs.ShownLemmas.{shown_none, shown_puts}
use Rattle.link_side.proofs.PartLemmas.{adds_none, some_pipe}
use Rattle.zq_session.proofs.HalfLemmas.{no_steps, one_step, puts_steps}
use Rattle.zq_session.proofs.NotingLemmas.{write_still, put_still}
use Rattle.zq_session.proofs.ActLemmas.{write_says, write_hears, write_steps, put_says, put_hears}

no_true : (b : Bool) → b ≡ false → b ≡ true → ⊥
no_true b e d = absurd cc

-- a silent reading part reads where it is due
no_read : (answer : Option LinkGot) (octets : List ℕ) → [] ≡ read_acts answer octets → answer ≡ None
no_read None octets e = refl
no_read (Some a) octets e = absurd cc

waits_not : (reads : Type 0) (got : Option LinkGot) (octets : List ℕ) → IsSilentReadPart reads (read_acts got octets) → reads → got ≡ None → ⊥
waits_not reads got octets part due none =
    part.waits (no_read part.answer part.octets (subst (λ (x : Option LinkGot). read_acts x octets ≡ read_acts part.answer part.octets) none part.all)) due

-- acts behind what was dropped
dropped_then : (k0 k1 k2 : Kept) (pipe : PipeId) (ms : List Frames) (reads more : List LinkAct) (opts : EngineOpts) → opts.kind ≡ Push → without_puts reads ≡ more → Acts k0 (puts pipe ms) k1 → Acts k1 reads k2
    → KeepsActs opts k0 more k2
dropped_then k0 k1 k2 pipe ms reads more opts e same f g =
    does_by opts k0 k2 (puts pipe ms ++ reads) more (acts_on k0 k1 k2 (puts pipe ms) reads f g) (λ n. absurd (n e))
    (λ _. unput_on (puts pipe ms) reads [] more (unput_puts pipe ms) same)

-- ---- a reading part that memory cut short

match_by : (answer : Option LinkGot) (X Y : Type 0) → (answer ≡ None → X) → (IsSome answer → Y) → MatchOption answer X (λ _. Y)
match_by None X Y f g = f refl
match_by (Some a) X Y f g = g refl

some_if : (answer : Option LinkGot) → (answer ≡ None → ⊥) → IsSome answer
some_if None f = absurd (f refl)
some_if (Some a) f = refl

module _ (A : Type 0) (shown : Option LinkGot → Type 0) (k0 k1 : Kept) (heard heard' : Option (List ℕ)) (rest : A) (w : WantsBy A k0 k1 heard heard' shown) where
  wants_run_at : (opts : EngineOpts) → (opts.kind ≡ Push → ⊥) → KeepsActs opts k0 (read_acts w.answer w.octets) k1
  wants_run_at opts n = does_puts opts k0 k1 (read_acts w.answer w.octets) n w.run

  wants_part_at : (opts : EngineOpts) (acts : List LinkAct) → (opts.kind ≡ Push → ⊥) → IsKeptOf opts acts k0 → MatchOption w.answer (SomethingHeld opts acts) (λ _. NothingHeld opts acts)
  wants_part_at opts acts n r =
      let run = run_of opts acts k0 n r in
      match_by w.answer (SomethingHeld opts acts) (NothingHeld opts acts) (w.held rest opts acts run) (w.read rest opts acts run)

  pub wants_puts : WantsAtBy mode.Puts k0 k1 heard heard' shown
  wants_puts = record { answer = w.answer; octets = w.octets; fits = w.fits; told = w.told; run = wants_run_at; part = wants_part_at; counts = w.counts }

  pub wants_holds : WantsAtBy mode.Holds k0 k1 heard heard' shown
  wants_holds = record { answer = w.answer; octets = w.octets; fits = w.fits; told = w.told; run = wants_run_at; part = wants_part_at; counts = w.counts }

pub wants_drops : (A : Type 0) (shown : Option LinkGot → Type 0) (k0 k1 k2 : Kept) (heard heard' : Option (List ℕ)) → A → (d : DropsBy k0 k1) → (w : WantsBy A k1 k2 heard heard' shown)
    → WantsAtBy mode.Drops k0 k2 heard heard' shown
wants_drops A shown k0 k1 k2 heard heard' rest d w = record {
  answer = w.answer;
  octets = w.octets;
  fits = w.fits;
  told = w.told;
  run = λ opts e. dropped_then k0 k1 k2 some_pipe d.messages (read_acts w.answer w.octets) (read_acts w.answer w.octets) opts e (unput_read w.answer w.octets) (d.run some_pipe) w.run;
  part = λ opts acts e r.
      let all = r.all ++ puts some_pipe d.messages in
      let after = d.run some_pipe opts r.all r.run in
      some_if w.answer (λ none. (d.none opts all after).1 (w.held rest opts all after none));
  counts = w.counts;
}

pub wants_as : (reads how : ReadMode) (k0 k1 : Kept) (heard heard' : Option (List ℕ)) (shown : Option LinkGot → Type 0) → how ≡ reads → WantsAtBy reads k0 k1 heard heard' shown → WantsAtBy how k0 k1 heard heard' shown
wants_as reads how k0 k1 heard heard' shown e w = subst (λ (m : ReadMode). WantsAtBy m k0 k1 heard heard' shown) (sym e) w

-- a list with nothing behind it
or_nothing : (P : List LinkAct → Type 0) (xs : List LinkAct) → P xs → P (xs ++ [])
or_nothing P xs k = subst P (sym (append-nil xs)) k

module _ {S O I N : Type 0} (K : Known S O I N) where
  -- ---- the writing part

  pub alone_at : (can_read : Bool) (k0 k1 : Kept) (put : Option LinkPut) (said said' : Option (List ℕ)) (s : S) (i : Option I) → can_read ≡ false → (w : WritesAlone k0 put k1 said said')
      → WritesAtBy K can_read k0 (record { put = put; look = None }) k1 said said' s i s i
  alone_at can_read k0 k1 put said said' s i e w = record {
    octets = w.octets;
    found = None;
    fits = w.fits;
    told = w.told;
    look = refl;
    steps = λ pipe o. no_steps K s i o;
    run = λ pipe. acts_same k0 k1 (write_acts put w.octets) (write_acts put w.octets ++ []) (sym (append-nil (write_acts put w.octets))) w.run;
    takes = λ d. absurd (no_true can_read e d);
    alone = λ d pipe b acts r. or_nothing (λ l. IsWriteOnly b acts l) (write_acts put w.octets) (w.part b acts r);
  }

  take_run : (pipe : PipeId) (found : Taken) (s s' : S) (h h' : I) (o : Option O) → TakeRun K s h found s' h' → StepRun K (take_step pipe found) s (Some h) o s' (Some h') o
  take_run pipe (taken.Item m) s s' h h' o r = record { old = h; new = h'; was = refl; is = refl; other = refl; runs = r }
  take_run pipe taken.Empty s s' h h' o r = record { old = h; new = h'; was = refl; is = refl; other = refl; runs = r }
  take_run pipe taken.Delimiter s s' h h' o r = record { old = h; new = h'; was = refl; is = refl; other = refl; runs = r }

  pub took_steps : (pipe : PipeId) (found : Option Taken) (s s' : S) (h h' : I) (o : Option O) → TookRun K s h found s' h' → StepsRun K (flat_map step_in (take_acts pipe found)) s (Some h) o s' (Some h') o
  took_steps pipe None s s' h h' o r = (r.0, (ap (λ (x : I). Some x) r.1, refl))
  took_steps pipe (Some found) s s' h h' o r = one_step K (take_step pipe found) s s' (Some h) (Some h') o o (take_run pipe found s s' h h' o r)

  pub took_at : (can_read : Bool) (k0 k1 : Kept) (done : Written) (said said' : Option (List ℕ)) (s s' : S) (i i' : Option I) (h h' : I) → can_read ≡ true → i ≡ Some h → i' ≡ Some h'
      → (w : WritesBy K k0 done k1 said said' s h s' h') → WritesAtBy K can_read k0 done k1 said said' s i s' i'
  took_at can_read k0 k1 done said said' s s' i i' h h' e was is w = record {
    octets = w.octets;
    found = w.found;
    fits = w.fits;
    told = w.told;
    look = w.look;
    steps = λ pipe o.
        subst (λ (x : Option I). StepsRun K (flat_map step_in (take_acts pipe w.found)) s x o s' i' o) (sym was)
        (subst (λ (x : Option I). StepsRun K (flat_map step_in (take_acts pipe w.found)) s (Some h) o s' x o) (sym is)
        (took_steps pipe w.found s s' h h' o w.took));
    run = w.run;
    takes = λ d pipe opts acts r. w.part pipe opts acts r;
    alone = λ d. absurd (no_true can_read d e);
  }

  -- ---- the reading part

  pub reads_none : (k : Kept) (heard : Option (List ℕ)) (s : S) (o : Option O) → ReadsAtBy K mode.Nothing k (record { got = None; put = false }) k heard heard s o s o
  reads_none k heard s o = record {
    octets = [];
    messages = [];
    full = false;
    fits = refl;
    told = adds_none heard;
    put_is = refl;
    steps = λ pipe i. no_steps K s i o;
    run = λ pipe opts _. does_nothing opts k;
    part = λ pipe opts acts _ r. refl;
  }

  pub reads_puts : (A : Type 0) (k0 k1 : Kept) (done : Heard) (heard heard' : Option (List ℕ)) (s s' : S) (o o' : Option O) (h h' : O) → A → o ≡ Some h → o' ≡ Some h'
      → (r : ReadsBy K A k0 done k1 heard heard' s h s' h') → ReadsAtBy K mode.Puts k0 done k1 heard heard' s o s' o'
  reads_puts A k0 k1 done heard heard' s s' o o' h h' rest was is r = record {
    octets = r.octets;
    messages = r.messages;
    full = r.full;
    fits = r.fits;
    told = r.told;
    put_is = r.put_is;
    steps = λ pipe i.
        subst (λ (x : Option O). StepsRun K (flat_map step_in (put_acts pipe r.messages r.full)) s i x s' i o') (sym was)
        (subst (λ (x : Option O). StepsRun K (flat_map step_in (put_acts pipe r.messages r.full)) s i (Some h) s' i x) (sym is)
        (puts_steps K pipe r.messages r.full s s' i h h' r.puts));
    run = λ pipe opts n. does_puts opts k0 k1 (read_acts done.got r.octets ++ put_acts pipe r.messages r.full) n (r.run pipe);
    part = λ pipe opts acts n run. r.part rest pipe opts acts (run_of opts acts k0 n run);
  }

  pub reads_holds : (k0 k1 : Kept) (got : Option LinkGot) (heard heard' : Option (List ℕ)) (s : S) (o : Option O) → (r : HearsBy k0 got k1 heard heard')
      → ReadsAtBy K mode.Holds k0 (record { got = got; put = false }) k1 heard heard' s o s o
  reads_holds k0 k1 got heard heard' s o r =
      let reads = read_acts got r.octets in
      record {
        octets = r.octets;
        messages = [];
        full = false;
        fits = r.fits;
        told = r.told;
        put_is = refl;
        steps = λ pipe i. no_steps K s i o;
        run = λ pipe opts n. does_puts opts k0 k1 (reads ++ []) n (acts_same k0 k1 reads (reads ++ []) (sym (append-nil reads)) r.run);
        part = λ pipe opts acts n run. or_nothing (λ l. IsSilentReadPart (NothingHeld opts acts) l) reads (r.part opts acts (run_of opts acts k0 n run));
      }

  pub reads_drops : (k0 k1 k2 : Kept) (got : Option LinkGot) (heard heard' : Option (List ℕ)) (s : S) (o : Option O) → (d : DropsBy k0 k1) → (r : HearsBy k1 got k2 heard heard')
      → ReadsAtBy K mode.Drops k0 (record { got = got; put = false }) k2 heard heard' s o s o
  reads_drops k0 k1 k2 got heard heard' s o d r =
      let reads = read_acts got r.octets in
      record {
        octets = r.octets;
        messages = [];
        full = false;
        fits = r.fits;
        told = r.told;
        put_is = refl;
        steps = λ pipe i. no_steps K s i o;
        run = λ pipe opts e. dropped_then k0 k1 k2 pipe d.messages reads (reads ++ []) opts e (unput_read got r.octets ∙ sym (append-nil reads)) (d.run pipe) r.run;
        part = λ pipe opts acts e run. record {
          answer = got;
          octets = r.octets;
          all = append-nil reads;
          fits = r.fits;
          read = λ _. tt;
          waits = λ none _.
              let after = d.run some_pipe opts run.all run.run in
              waits_not (NothingHeld opts (run.all ++ puts some_pipe d.messages)) got r.octets (r.part opts (run.all ++ puts some_pipe d.messages) after)
              (d.none opts (run.all ++ puts some_pipe d.messages) after).0 none;
        };
      }

  -- ---- the last acts

  pub puts_last : (puts : Bool) (pipe : PipeId) (k0 k1 : Kept) (s s' : S) (o o' : Option O) (h h' : O) → puts ≡ true → o ≡ Some h → o' ≡ Some h' → (w : PutsBy K k0 k1 s h s' h') → PutsLastBy K puts pipe k0 k1 s o s' o'
  puts_last puts pipe k0 k1 s s' o o' h h' d was is w =
      let acts_put = put_acts pipe w.messages w.full in
      let still = put_still pipe w.messages w.full in
      record {
        acts = acts_put;
        quiet = record { says = put_says pipe w.messages w.full; hears = put_hears pipe w.messages w.full; takes = still.takes; repeats = still.repeats; shows = λ f t e. shown_puts pipe f t e w.messages w.full };
        steps = λ i.
            subst (λ (x : Option O). StepsRun K (flat_map step_in acts_put) s i x s' i o') (sym was)
            (subst (λ (x : Option O). StepsRun K (flat_map step_in acts_put) s i (Some h) s' i x) (sym is)
            (puts_steps K pipe w.messages w.full s s' i h h' w.puts));
        run = w.run pipe;
        all = λ _ opts before r. w.part pipe opts before r;
        none = λ x. absurd (no_true puts x d);
      }

  pub puts_nothing : (puts : Bool) (pipe : PipeId) (k : Kept) (s : S) (o : Option O) → puts ≡ false → PutsLastBy K puts pipe k k s o s o
  puts_nothing puts pipe k s o d = record {
    acts = [];
    quiet = record { says = refl; hears = refl; takes = refl; repeats = refl; shows = λ f t e. shown_none f t e };
    steps = λ i. no_steps K s i o;
    run = no_acts k;
    all = λ x. absurd (no_true puts d x);
    none = λ _. refl;
  }

pub says_last : (says : Bool) (k0 k1 : Kept) (put : Option LinkPut) (said said' : Option (List ℕ)) (shown : List LinkAct → Type 0) → ((x : List ℕ) → shown (write_acts put x)) → says ≡ true → (w : WritesAlone k0 put k1 said said') → SaysLastBy says k0 k1 said said' shown
says_last says k0 k1 put said said' shown shows e w = record {
  acts = write_acts put w.octets;
  said_is = subst (λ (x : List ℕ). Adds said x said') (sym (write_says put w.octets w.fits)) w.told;
  hears = write_hears put w.octets;
  takes = (write_still put w.octets).takes;
  repeats = (write_still put w.octets).repeats;
  steps = write_steps put w.octets;
  shown_is = shows w.octets;
  run = λ opts. does_these opts k0 k1 (write_acts put w.octets) (unput_write put w.octets) w.run;
  write = λ _ b before r. w.part b before r;
  none = λ x. absurd (no_true says x e);
}

pub says_nothing : (says : Bool) (k : Kept) (said : Option (List ℕ)) (shown : List LinkAct → Type 0) → shown [] → says ≡ false → SaysLastBy says k k said said shown
says_nothing says k said shown shows e = record {
  acts = [];
  said_is = adds_none said;
  hears = refl;
  takes = refl;
  repeats = refl;
  steps = refl;
  shown_is = shows;
  run = λ opts. does_nothing opts k;
  write = λ x. absurd (no_true says e x);
  none = λ _. refl;
}
