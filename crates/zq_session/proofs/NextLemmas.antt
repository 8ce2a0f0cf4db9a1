-- The writing part of a turn, by how it is done.
use Rattle.std.proofs.Common.{◌≡◌, ℕ, Bool, true, false, List, [], ◌∷◌, ◌++◌, drop, Option, Some, None, refl, sym, ap, subst, ◌∙◌}
use Rattle.std.specs.Prelude.{IfOk, IfSome, option_map, is_some, Result, Ok, Err}
use Rattle.std.specs.List.{flat_map}
use Rattle.std.proofs.lemmas.List.{append-nil}
use Rattle.zq_base.specs.Message.{Frames}
use Rattle.zq_base.specs.Ends.{PipeId}
use Rattle.zq_outer.specs.declared.link.LinkPut.{LinkPut}
use Rattle.msg_pipe.specs.Known.{Known}
use Rattle.msg_pipe.specs.declared.pipes.Taken.{Taken}
use Rattle.msg_pipe.specs.declared.pipes.Taken.TheVariants as taken
use Rattle.spec_pattern.specs.PipeStep.{Take}
use Rattle.spec_link.specs.LinkAct.{LinkAct, Wire, Step, Repeats, taken_of, repeated_of}
use Rattle.spec_link.specs.Parts.{IsTake, IsWritePart, write_acts}
use Rattle.spec_pattern.specs.Publishing.{saying_of}
use Rattle.spec_link.specs.Turn.{IsWriteOnly, topics_by}
use Rattle.spec_link.specs.Topics.{Topics, IsLeft}
use Rattle.link_side.specs.declared.behind.Behind.{Behind}
use Rattle.link_side.specs.declared.wire.Fetched.{Fetched}
use Rattle.link_side.specs.declared.write_part.Written.{Written}
use Rattle.link_side.specs.Kept.{Kept, Side, Acts}
use Rattle.link_side.specs.Works.{take_acts}
use Rattle.link_side.specs.Single.{WritesAlone}
use Rattle.zq_session.specs.Halves.{StepsRun, step_in}
use Rattle.zq_session.specs.Doing.{WritesAtBy}
use Rattle.link_side.specs.Says.{SaysBy, SaysNext, repeat_acts, done_acts, left_by}
use Rattle.zq_session.specs.Noting.{PassesOn, takes_of, WriteMode, taking, alone, saying, plain_mode, mode_by, mode_of, Takes, Says, NextBy, UnsaidBy, NotesBy, NotesNotBy, SaysOn, behind_acts}
use Rattle.zq_session.specs.TopicSteps.{noted}
use Rattle.link_side.proofs.KeptLemmas.{acts_on, acts_same}
use Rattle.zq_session.proofs.HalfLemmas.{no_steps}
use Rattle.link_side.proofs.PartLemmas.{some_pipe}
use Rattle.link_side.proofs.SayLemmas.{left_item}
use Rattle.zq_session.proofs.NotingLemmas.{Still, still_on, still_none, write_still, notes_of, notes_still, again_same, drop_zero, plain_left, saying_left}
use Rattle.zq_session.proofs.AtLemmas.{took_steps}

-- ---- modes

plain_taking : (can_read : Bool) → plain_mode can_read ≡ taking → can_read ≡ true
plain_taking true e = refl
plain_taking false e = absurd cc

plain_alone : (can_read : Bool) → plain_mode can_read ≡ alone → can_read ≡ false
plain_alone true e = absurd cc
plain_alone false e = refl

plain_saying : (can_read : Bool) (m : Frames) (X : Type 0) → plain_mode can_read ≡ saying m → X
plain_saying true m X e = absurd cc
plain_saying false m X e = absurd cc

saying_taking : (m : Frames) (mode : WriteMode) (X : Type 0) → mode ≡ saying m → mode ≡ taking → X
saying_taking m mode X e d = absurd cc

saying_alone : (m : Frames) (mode : WriteMode) (X : Type 0) → mode ≡ saying m → mode ≡ alone → X
saying_alone m mode X e d = absurd cc

not_both : (b : Bool) (X : Type 0) → b ≡ false → b ≡ true → X
not_both b X e d = absurd cc

-- ---- what was noted

take_still : (pipe : PipeId) (found : Option Taken) → ((m : Frames) → found ≡ Some (taken.Item m) → ⊥) → Still (take_acts pipe found)
take_still pipe None never = record { takes = refl; repeats = refl }
take_still pipe (Some (taken.Item m)) never = absurd (never m refl)
take_still pipe (Some taken.Empty) never = record { takes = refl; repeats = refl }
take_still pipe (Some taken.Delimiter) never = record { takes = refl; repeats = refl }

some_item : (m : Frames) → None ≡ Some (taken.Item m) → ⊥
some_item m e = absurd cc

empty_item : (m : Frames) → Some taken.Empty ≡ Some (taken.Item m) → ⊥
empty_item m e = absurd cc

delimiter_item : (m : Frames) → Some taken.Delimiter ≡ Some (taken.Item m) → ⊥
delimiter_item m e = absurd cc

-- acts behind a write
behind_takes : (put : Option LinkPut) (octets : List ℕ) (acts : List LinkAct) → taken_of (write_acts put octets ++ acts) ≡ taken_of acts
behind_takes None octets acts = refl
behind_takes (Some a) octets acts = refl

behind_repeats : (put : Option LinkPut) (octets : List ℕ) (acts : List LinkAct) → repeated_of (write_acts put octets ++ acts) ≡ repeated_of acts
behind_repeats None octets acts = refl
behind_repeats (Some a) octets acts = refl

notes_taken : (put : Option LinkPut) (octets : List ℕ) (pipe : PipeId) (m : Frames) (t : Option Topics) → behind_acts (write_acts put octets ++ Step (Take pipe m) ∷ []) t ≡ noted m t
notes_taken put octets pipe m None = refl
notes_taken put octets pipe m (Some t) =
    notes_of (write_acts put octets ++ Step (Take pipe m) ∷ []) (m ∷ []) [] t (behind_takes put octets (Step (Take pipe m) ∷ [])) (behind_repeats put octets (Step (Take pipe m) ∷ []))
    ∙ ap (λ (a : Option (List Frames)). Some (record { taken = topics_by (saying_of m) t.taken; again = a })) (again_same t.again)

-- what was said
pub notes_said : (put : Option LinkPut) (octets : List ℕ) (message : Option Frames) (t t' : Topics) → SaysNext t message t' → Some t' ≡ behind_acts (write_acts put octets ++ repeat_acts message) (Some t)
notes_said put octets None t t' next = ap Some next ∙ sym (notes_still (write_acts put octets ++ []) (Some t) (still_on (write_acts put octets) [] (write_still put octets) still_none))
notes_said put octets (Some m) t t' next =
    let acts = write_acts put octets ++ Wire (Repeats m) ∷ [] in
    let rest = next.0 in
    ap Some next.2
    ∙ ap (λ (l : List Frames). Some (record { taken = t.taken; again = Some l })) (sym (drop_zero rest))
    ∙ ap (λ (a : Option (List Frames)). Some (record { taken = t.taken; again = option_map (λ messages. drop 1 messages) a })) (sym next.1)
    ∙ sym (notes_of acts [] (m ∷ []) t (behind_takes put octets (Wire (Repeats m) ∷ [])) (behind_repeats put octets (Wire (Repeats m) ∷ [])))

-- behind a take: what was noted, and offered
took_on : (found : Option Taken) (b : Behind) (k : Kept) (put : Option LinkPut) (octets : List ℕ) (t : Option Topics) (new : Side) (t' : Option Topics) (old : Kept) → b ≡ left_by found → PassesOn b k t new t'
    → ((pipe : PipeId) → Acts old (write_acts put octets ++ done_acts pipe found) k)
    → ((pipe : PipeId) → Acts old (write_acts put octets ++ take_acts pipe found) new.kept) × ((pipe : PipeId) → t' ≡ behind_acts (write_acts put octets ++ take_acts pipe found) t)
took_on found b k put octets t new t' old e passes run = by found (subst (λ (x : Behind). PassesOn x k t new t') e passes) run
  where
    plain : (f : Option Taken) → ((m : Frames) → f ≡ Some (taken.Item m) → ⊥) → (pipe : PipeId) → t' ≡ t → t' ≡ behind_acts (write_acts put octets ++ take_acts pipe f) t
    plain f never pipe same = same ∙ sym (notes_still (write_acts put octets ++ take_acts pipe f) t (still_on (write_acts put octets) (take_acts pipe f) (write_still put octets) (take_still pipe f never)))

    by : (f : Option Taken) → PassesOn (left_by f) k t new t' → ((pipe : PipeId) → Acts old (write_acts put octets ++ done_acts pipe f) k)
        → ((pipe : PipeId) → Acts old (write_acts put octets ++ take_acts pipe f) new.kept) × ((pipe : PipeId) → t' ≡ behind_acts (write_acts put octets ++ take_acts pipe f) t)
    by None p r = (λ pipe. subst (λ (x : Side). Acts old (write_acts put octets ++ []) x.kept) (sym p.0) (r pipe), λ pipe. plain None some_item pipe p.1)
    by (Some taken.Empty) p r = (λ pipe. subst (λ (x : Side). Acts old (write_acts put octets ++ take_acts pipe (Some taken.Empty)) x.kept) (sym p.0) (r pipe), λ pipe. plain (Some taken.Empty) empty_item pipe p.1)
    by (Some taken.Delimiter) p r = (λ pipe. subst (λ (x : Side). Acts old (write_acts put octets ++ take_acts pipe (Some taken.Delimiter)) x.kept) (sym p.0) (r pipe), λ pipe. plain (Some taken.Delimiter) delimiter_item pipe p.1)
    by (Some (taken.Item m)) p r = (
      λ pipe. acts_on old k new.kept (write_acts put octets) (Step (Take pipe m) ∷ [])
          (acts_same old k (write_acts put octets ++ []) (write_acts put octets) (append-nil (write_acts put octets)) (r pipe))
          (p.1.0 (Step (Take pipe m)) (record { said = refl; heard = refl; offered = refl; put = refl })),
      λ pipe. p.1.1 ∙ sym (notes_taken put octets pipe m t),
    )

-- where no topic is left, it is done as without any
pub plain_if : (can_read : Bool) (t : Option Topics) → IfSome t (λ x. IsLeft false x.again) → mode_of can_read t ≡ plain_mode can_read
plain_if can_read None left = refl
plain_if can_read (Some t) left = plain_left can_read t.again left

-- ---- the parts

module _ {S O I N : Type 0} (K : Known S O I N) where
  -- of a session without topics
  pub next_plain : (counts : ℕ → Type 0) (can_read : Bool) (old new : Kept) (done : Written) (said said' : Option (List ℕ)) (s s' : S) (i i' : Option I) → (w : WritesAtBy K can_read old done new said said' s i s' i') → counts (takes_of done.look)
      → NextBy K counts (plain_mode can_read) None None old done new said said' s i s' i'
  next_plain counts can_read old new done said said' s s' i i' w count = record {
    octets = w.octets;
    next = Takes w.found;
    fits = w.fits;
    told = w.told;
    look = w.look;
    counted = subst counts (ap (λ (x : Option Fetched). takes_of x) w.look) count;
    steps = w.steps;
    run = w.run;
    notes = λ _. refl;
    takes = λ e. w.takes (plain_taking can_read e);
    alone_is = λ e. w.alone (plain_alone can_read e);
    says = λ m e. plain_saying can_read m _ e;
  }

  -- without a take
  pub next_alone : (counts : ℕ → Type 0) (can_read : Bool) (t t1 t' : Option Topics) (sd sd1 : Side) (new : Kept) (put : Option LinkPut) (said said1 said' : Option (List ℕ)) (s : S) (i : Option I) → t1 ≡ t → sd1 ≡ sd → said1 ≡ said → t' ≡ t1
      → can_read ≡ false → IfSome t (λ x. IsLeft false x.again) → (w : WritesAlone sd1.kept put new said1 said') → counts 0
      → NextBy K counts (mode_of can_read t) t t' sd.kept (record { put = put; look = None }) new said said' s i s i
  next_alone counts can_read t t1 t' sd sd1 new put said said1 said' s i et es el e1 e left v count =
      let w : WritesAlone sd.kept put new said said' = subst (λ (x : Side). WritesAlone x.kept put new said said') es (subst (λ (x : Option (List ℕ)). WritesAlone sd1.kept put new x said') el v) in
      let mode = plain_if can_read t left in
      record {
        octets = w.octets;
        next = Takes None;
        fits = w.fits;
        told = w.told;
        look = refl;
        counted = count;
        steps = λ pipe o. no_steps K s i o;
        run = λ pipe. acts_same sd.kept new (write_acts put w.octets) (write_acts put w.octets ++ []) (sym (append-nil (write_acts put w.octets))) w.run;
        notes = λ pipe. e1 ∙ et ∙ sym (notes_still (write_acts put w.octets ++ []) t (still_on (write_acts put w.octets) [] (write_still put w.octets) still_none));
        takes = λ d. not_both can_read _ e (plain_taking can_read (sym mode ∙ d));
        alone_is = λ d pipe b acts r. subst (λ (l : List LinkAct). IsWriteOnly b acts l) (sym (append-nil (write_acts put w.octets))) (w.part b acts r);
        says = λ m d. plain_saying can_read m _ (sym mode ∙ d);
      }

  -- a topic is said
  pub next_says : (counts : ℕ → Type 0) (can_read : Bool) (t t' : Topics) (old new : Kept) (done : Written) (said said' : Option (List ℕ)) (s : S) (i : Option I) → IsLeft true t.again → (w : SaysBy old done new said said' t t') → counts 0
      → NextBy K counts (mode_of can_read (Some t)) (Some t) (Some t') old done new said said' s i s i
  next_says counts can_read t t' old new done said said' s i left w count =
      let mode : mode_by can_read t.again ≡ saying left.0 = ap (λ (a : Option (List Frames)). mode_by can_read a) left.2 in
      record {
        octets = w.octets;
        next = Says w.message;
        fits = w.fits;
        told = w.told;
        look = w.look;
        counted = count;
        steps = λ pipe o. said_steps w.message s i o;
        run = λ pipe. w.run;
        notes = λ pipe. notes_said done.put w.octets w.message t t' w.next;
        takes = λ d. saying_taking left.0 (mode_by can_read t.again) _ mode d;
        alone_is = λ d. saying_alone left.0 (mode_by can_read t.again) _ mode d;
        says = λ m d pipe. (let k = saying_left can_read t.again m d in w.part m k.0 k.1);
      }
    where
      said_steps : (message : Option Frames) (s : S) (i : Option I) (o : Option O) → StepsRun K (flat_map step_in (repeat_acts message)) s i o s i o
      said_steps None s i o = no_steps K s i o
      said_steps (Some m) s i o = no_steps K s i o

  -- the same, by what was done
  pub next_said : (counts : ℕ → Type 0) (can_read : Bool) (t t' : Option Topics) (old : Kept) (done : Written) (new : Kept) (said said' : Option (List ℕ)) (s : S) (i : Option I) → (w : SaysOn t t' old done new said said') → counts 0
      → NextBy K counts (mode_of can_read t) t t' old done new said said' s i s i
  next_said counts can_read t t' old done new said said' s i w count =
      subst (λ (x : Option Topics). NextBy K counts (mode_of can_read x) x t' old done new said said' s i s i) (sym w.some)
      (subst (λ (x : Option Topics). NextBy K counts (mode_of can_read (Some w.was)) (Some w.was) x old done new said said' s i s i) (sym w.some')
      (next_says counts can_read w.was w.is old new done said said' s i w.left w.says count))

  -- a take whose message was noted and offered
  pub next_took : (counts : ℕ → Type 0) (can_read : Bool) (t t1 t' : Option Topics) (sd sd1 new : Side) (done : Written) (said said1 said' : Option (List ℕ)) (s s' : S) (i i' : Option I) (h h' : I) → t1 ≡ t → sd1 ≡ sd → said1 ≡ said
      → can_read ≡ true → IfSome t (λ x. IsLeft false x.again) → i ≡ Some h → i' ≡ Some h' → (n : NotesBy K t1 t' sd1.kept done new said1 said' s h s' h') → counts (takes_of done.look)
      → NextBy K counts (mode_of can_read t) t t' sd.kept done new.kept said said' s i s' i'
  next_took counts can_read t t1 t' sd sd1 new done said said1 said' s s' i i' h h' et es el e left was is v count =
      let n : NotesBy K t t' sd.kept done new said said' s h s' h' = subst (λ (x : Option Topics). NotesBy K x t' sd.kept done new said said' s h s' h') et
      (subst (λ (x : Side). NotesBy K t1 t' x.kept done new said said' s h s' h') es (subst (λ (x : Option (List ℕ)). NotesBy K t1 t' sd1.kept done new x said' s h s' h') el v)) in
      let w = n.takes in
      let mode = plain_if can_read t left in
      let p = took_on w.found n.mid.behind n.mid.kept done.put w.octets t new t' sd.kept w.left n.passes w.run in
      record {
        octets = w.octets;
        next = Takes w.found;
        fits = w.fits;
        told = w.told;
        look = w.look;
        counted = subst counts (ap (λ (x : Option Fetched). takes_of x) w.look) count;
        steps = λ pipe o.
            subst (λ (x : Option I). StepsRun K (flat_map step_in (take_acts pipe w.found)) s x o s' i' o) (sym was)
            (subst (λ (x : Option I). StepsRun K (flat_map step_in (take_acts pipe w.found)) s (Some h) o s' x o) (sym is)
            (took_steps K pipe w.found s s' h h' o w.took));
        run = p.0;
        notes = p.1;
        takes = λ d. w.part;
        alone_is = λ d. not_both can_read _ (plain_alone can_read (sym mode ∙ d)) e;
        says = λ m d. plain_saying can_read m _ (sym mode ∙ d);
      }

  -- a take whose message couldn't be noted
  pub unsaid_took : (can_read : Bool) (t t1 t' : Option Topics) (sd sd1 new : Side) (said said1 said' : Option (List ℕ)) (shown shown1 : Option LinkPut → Type 0) (s s' : S) (i i' : Option I) (h h' : I) → ((a : Option LinkPut) → shown1 a → shown a) → t1 ≡ t → sd1 ≡ sd → said1 ≡ said
      → can_read ≡ true → IfSome t (λ x. IsLeft false x.again) → i ≡ Some h → i' ≡ Some h' → (n : NotesNotBy K t1 t' sd1.kept new said1 said' shown1 s h s' h')
      → UnsaidBy K (mode_of can_read t) t t' sd.kept new said said' shown s i s' i'
  unsaid_took can_read t t1 t' sd sd1 new said said1 said' shown shown1 s s' i i' h h' shows et es el e left was is v =
      let n : NotesNotBy K t t' sd.kept new said said' shown1 s h s' h' = subst (λ (x : Option Topics). NotesNotBy K x t' sd.kept new said said' shown1 s h s' h') et
      (subst (λ (x : Side). NotesNotBy K t1 t' x.kept new said said' shown1 s h s' h') es (subst (λ (x : Option (List ℕ)). NotesNotBy K t1 t' sd1.kept new x said' shown1 s h s' h') el v)) in
      let w = n.takes in
      let m = n.message in
      let done = n.done in
      let found : w.found ≡ Some (taken.Item m) = left_item w.found m (sym w.left ∙ n.waits) in
      record {
        put = done.put;
        octets = w.octets;
        message = m;
        some = n.some;
        fits = w.fits;
        told = w.told;
        steps = λ pipe o. subst (λ (f : Option Taken). StepsRun K (flat_map step_in (take_acts pipe f)) s i o s' i' o) found
            (subst (λ (x : Option I). StepsRun K (flat_map step_in (take_acts pipe w.found)) s x o s' i' o) (sym was)
            (subst (λ (x : Option I). StepsRun K (flat_map step_in (take_acts pipe w.found)) s (Some h) o s' x o) (sym is)
            (took_steps K pipe w.found s s' h h' o w.took)));
        left = n.waits;
        same = n.same;
        counts = shows done.put n.counts;
        run = acts_same sd.kept new.kept (write_acts done.put w.octets ++ []) (write_acts done.put w.octets) (append-nil (write_acts done.put w.octets))
            (subst (λ (f : Option Taken). Acts sd.kept (write_acts done.put w.octets ++ done_acts some_pipe f) new.kept) found (w.run some_pipe));
        mode_is = plain_if can_read t left ∙ ap plain_mode e;
        takes = λ pipe opts acts r. subst (λ (f : Option Taken). IsWritePart opts (IsTake pipe) acts (write_acts done.put w.octets ++ take_acts pipe f)) found (w.part pipe opts acts r);
      }

  -- without topics
  pub next_none : (counts : ℕ → Type 0) (can_read : Bool) (t t' : Option Topics) (old new : Kept) (done : Written) (said said' : Option (List ℕ)) (s s' : S) (i i' : Option I) → t ≡ None → t' ≡ t → WritesAtBy K can_read old done new said said' s i s' i' → counts (takes_of done.look)
      → NextBy K counts (mode_of can_read t) t t' old done new said said' s i s' i'
  next_none counts can_read t t' old new done said said' s s' i i' e d w count =
      subst (λ (x : Option Topics). NextBy K counts (mode_of can_read x) x t' old done new said said' s i s' i') (sym e)
      (subst (λ (x : Option Topics). NextBy K counts (plain_mode can_read) None x old done new said said' s i s' i') (sym (d ∙ e)) (next_plain counts can_read old new done said said' s s' i i' w count))

pub none_when : {A : Type 0} (o : Option A) → is_some o ≡ false → o ≡ None
none_when None e = refl
none_when (Some x) e = absurd cc

pub if_ok_on : {T E : Type 0} (r : Result T E) (P Q : T → Type 0) → ((x : T) → P x → Q x) → IfOk r P → IfOk r Q
if_ok_on (Ok x) P Q f k = f x k
if_ok_on (Err e) P Q f k = tt

pub if_ok_two : {T E : Type 0} (r : Result T E) (P R Q : T → Type 0) → ((x : T) → P x → R x → Q x) → IfOk r P → IfOk r R → IfOk r Q
if_ok_two (Ok x) P R Q f k l = f x k l
if_ok_two (Err e) P R Q f k l = tt
