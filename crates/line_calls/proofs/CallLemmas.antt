-- The calls of a socket that was pumped.
use Rattle.std.proofs.Common.{◌≡◌, ◌<◌, ℕ, Bool, true, false, List, [], ◌∷◌, ◌++◌, length, length-append, refl, sym, ap, subst, ◌∙◌, arith, append-nil}
use Rattle.std.specs.Prelude.{◌||◌, Result, Ok, Err, IfOk, OnErr, if◌then◌else◌}
use Rattle.std.proofs.lemmas.Result.{IfOk-weaker}
use Rattle.std.specs.declared.alloc.AllocError.{AllocError}
use Rattle.zq_base.specs.declared.endpoint.Endpoint.{Endpoint}
use Rattle.spec_pattern.specs.declared.answers.Skip.{Skip}
use Rattle.spec_control.specs.declared.request.Req.{Req}
use Rattle.spec_control.specs.declared.request.Req.TheVariants.{Connect}
use Rattle.spec_control.specs.Control.{id}
use Rattle.spec_run.specs.declared.answer.Answer.TheVariants as answer
use Rattle.spec_control.specs.Moments.{Moment}
use Rattle.spec_run.specs.declared.answer.Answer.{Answer}
use Rattle.spec_run.specs.declared.script.Call.{Call}
use Rattle.spec_run.specs.declared.script.Line.{Line}
use Rattle.spec_run.specs.Act.{Act, Try, moments_in}
use Rattle.spec_run.specs.OpenSocket.{OpenSock}
use Rattle.spec_run.specs.SocketCall.{RequestsOnce, takes_connect, leave_asked, UnlessStopped, ConnectsWhere, ConnectsCall}
use Rattle.zq_world.specs.Way.{AsksOpen}
use Rattle.line_calls.specs.Steps.{EndsWith, CallsSo, RequestsSo}
use Rattle.line_calls.specs.Lines.{PumpsSo, CallsLine}

pub err_more : {A : Type 0} (r : Result A AllocError) {P Q : Type 0} → (P → Q) → OnErr r P → OnErr r Q
err_more (Ok x) f h = tt
err_more (Err e) f h = f h

module _ {N S : Type 0} where
  one_more : (m : Moment N S) (ms : List (Moment N S)) → 0 < length ms → leave_asked (m ∷ ms) ≡ leave_asked ms
  one_more m [] some = absurd (omega (arith, some))
  one_more m (n ∷ ms) some = refl

  -- the last moments tell how the root is
  asked_last : (past last : List (Moment N S)) → 0 < length last → leave_asked (past ++ last) ≡ leave_asked last
  asked_last [] last some = refl
  asked_last (m ∷ past) last some = one_more m (past ++ last) (let a = length-append past last in omega (arith, some, a)) ∙ asked_last past last some

module _ {M N S : Type 0} (leads : M → List (Act N S) → M → Type 0) (none : (s : M) → leads s [] s) (as_open : M → OpenSock) (moments : M → List (Moment N S)) where
  -- a call that does nothing
  nothing_done : (Does : OpenSock → Try N S → OpenSock → Type 0) (said : Answer) (told : List Skip) (a : M)
      → ((line : Line) (pump : List (Act N S)) (all : List Skip) (over : Bool) → EndsWith (moments_in pump) (moments a)
      → Does (as_open a) (record { line = line; pump = pump; call = []; skips = []; told = all; answer = said; over = over }) (as_open a))
      → CallsSo leads as_open moments Does said told told a a
  nothing_done Does said told a f = record { acts = []; skips = []; does = f; tells = sym (append-nil told); led = none a }

  -- what was asked is this call
  pub asked_as : (r : Result Answer AllocError) (asks call : Call) (told : List Skip) (a b : M) → asks ≡ call → IfOk r (λ said. (told : List Skip) → CallsSo leads as_open moments (AsksOpen call) said told told a b)
      → IfOk r (λ said. CallsSo leads as_open moments (AsksOpen asks) said told told a b)
  asked_as r asks call told a b is h =
      IfOk-weaker r (λ said. (told : List Skip) → CallsSo leads as_open moments (AsksOpen call) said told told a b) (λ said. CallsSo leads as_open moments (AsksOpen asks) said told told a b)
      (λ said s. subst (λ (x : Call). CallsSo leads as_open moments (AsksOpen x) said told told a b) (sym is) (s told)) h

  -- a stopped socket refuses, and another does what it is asked
  pub refuses_stopped : (said : Answer) (Does : OpenSock → Try N S → OpenSock → Type 0) (told : List Skip) (a : M) → (as_open a).stopped ≡ true
      → CallsSo leads as_open moments (λ o t n. UnlessStopped o.stopped said Does o t n) said told told a a
  refuses_stopped said Does told a is = nothing_done (λ o t n. UnlessStopped o.stopped said Does o t n) said told a
      (λ line pump all over ends. subst (λ (b : Bool). UnlessStopped b said Does (as_open a) (record { line = line; pump = pump; call = []; skips = []; told = all; answer = said; over = over }) (as_open a)) (sym is)
      (record { call_is = refl; skips_are = refl; answer_is = refl; new_is = refl }))

  pub does_open : (stopped said : Answer) (Does : OpenSock → Try N S → OpenSock → Type 0) (told told_now : List Skip) (a b : M) → (as_open a).stopped ≡ false
      → CallsSo leads as_open moments Does said told told_now a b → CallsSo leads as_open moments (λ o t n. UnlessStopped o.stopped stopped Does o t n) said told told_now a b
  does_open stopped said Does told told_now a b is s = record {
    acts = s.acts;
    skips = s.skips;
    does = λ line pump all over ends. subst (λ (x : Bool). UnlessStopped x stopped Does (as_open a) (record { line = line; pump = pump; call = s.acts; skips = s.skips; told = all; answer = said; over = over }) (as_open b)) (sym is)
        (s.does line pump all over ends);
    tells = s.tells;
    led = s.led;
  }

  -- the request that was made is this one of the socket's number
  pub requested_as : (r : Result Answer AllocError) (request : Req) (wanted : ℕ → Req) (a b : M) → request ≡ wanted (as_open a).object → IfOk r (λ said. (told : List Skip) → RequestsSo leads as_open moments request said told a b)
      → IfOk r (λ said. (told : List Skip) → CallsSo leads as_open moments (λ o t n. RequestsOnce (wanted o.object) o t n) said told told a b)
  requested_as r request wanted a b is h =
      IfOk-weaker r (λ said. (told : List Skip) → RequestsSo leads as_open moments request said told a b) (λ said. (told : List Skip) → CallsSo leads as_open moments (λ o t n. RequestsOnce (wanted o.object) o t n) said told told a b)
      (λ said s told. record {
        acts = (s told).acts;
        skips = (s told).skips;
        does = λ line pump all over ends. subst (λ (x : Req). RequestsOnce x (as_open a) (record { line = line; pump = pump; call = (s told).acts; skips = (s told).skips; told = all; answer = said; over = over }) (as_open b)) is
            ((s told).does line pump all over ends);
        tells = (s told).tells;
        led = (s told).led;
      }) h

  pub connects_to : (to : Endpoint) (said : Answer) (told : List Skip) (a b : M) → takes_connect (as_open a).pattern to ≡ true
      → CallsSo leads as_open moments (λ o t n. RequestsOnce (Connect (id o.object) to) o t n) said told told a b → CallsSo leads as_open moments (ConnectsCall to) said told told a b
  connects_to to said told a b is s = record {
    acts = s.acts;
    skips = s.skips;
    does = λ line pump all over ends. subst (λ (x : Bool). ConnectsWhere x (as_open a).stopped to (as_open a) (record { line = line; pump = pump; call = s.acts; skips = s.skips; told = all; answer = said; over = over }) (as_open b)) (sym is)
        (s.does line pump all over ends);
    tells = s.tells;
    led = s.led;
  }

  -- a kind that takes no such connect says so, unless the socket or the context is ending
  abbrev refused_so : (stopped asked : Bool) → Answer
  refused_so stopped asked = if stopped || asked then answer.Term else answer.NotSupported

  pub connects_not : (to : Endpoint) (said : Answer) (told : List Skip) (a : M) → takes_connect (as_open a).pattern to ≡ false → said ≡ (if (as_open a).stopped || leave_asked (moments a) then answer.Term else answer.NotSupported)
      → CallsSo leads as_open moments (ConnectsCall to) said told told a a
  connects_not to said told a is says = nothing_done (ConnectsCall to) said told a
      (λ line pump all over ends. subst (λ (x : Bool). ConnectsWhere x (as_open a).stopped to (as_open a) (record { line = line; pump = pump; call = []; skips = []; told = all; answer = said; over = over }) (as_open a)) (sym is)
      (record { call_is = refl; skips_are = refl; answer_is = says ∙ ap (λ b. refused_so (as_open a).stopped b) (ap leave_asked ends.are ∙ asked_last ends.past (moments_in pump) ends.some); new_is = refl }))

module _ {M N S : Type 0} (leads : M → List (Act N S) → M → Type 0) (more : (s t u : M) (before after : List (Act N S)) → leads s before t → leads t after u → leads s (before ++ after) u)
    (as_open : M → OpenSock) (moments : M → List (Moment N S)) (gained : (s t : M) (acts : List (Act N S)) → leads s acts t → moments t ≡ moments s ++ moments_in acts) where
  -- a pumped socket has some moments
  pub some_moments : {limited : Bool} → (a b : M) → PumpsSo leads as_open limited a b → 0 < length (moments b)
  some_moments a b p = let e = ap length (gained a b p.acts p.led) in let l = length-append (moments a) (moments_in p.acts) in let s = p.some in omega (arith, e, l, s)

  pub calls_line : {limited : Bool} → (asks : Call) (said : Answer) (told told_now : List Skip) (a b c : M) → PumpsSo leads as_open limited a b → CallsSo leads as_open moments (AsksOpen asks) said told told_now b c
      → CallsLine leads as_open asks said told told_now a c
  calls_line asks said told told_now a b c p s = record {
    pump = p.acts;
    acts = s.acts;
    skips = s.skips;
    pumped = as_open b;
    pumps = p.pumps;
    does = λ line all over. s.does line p.acts all over (record { past = moments a; are = gained a b p.acts p.led; some = p.some });
    tells = s.tells;
    led = more a b c p.acts s.acts p.led s.led;
  }
