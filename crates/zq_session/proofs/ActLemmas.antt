-- The acts of the two parts of a turn, by how the session stands.
use Rattle.std.proofs.Common.{◌≡◌, ℕ, Bool, true, false, List, [], ◌∷◌, ◌++◌, Option, Some, None, refl, sym, ap, subst, ◌∙◌, inl, inr, arith}
use Rattle.std.specs.Prelude.{Contains}
use Rattle.std.specs.List.{flat_map}
use Rattle.std.proofs.lemmas.List.{append-nil}
use Rattle.std.proofs.lemmas.List.Concat.{flat_map-append}
use Rattle.zq_base.specs.Message.{Frames}
use Rattle.zq_base.specs.Ends.{PipeId}
use Rattle.zq_base.specs.declared.options.EngineOpts.{EngineOpts}
use Rattle.zq_base.specs.declared.kind.Kind.{Kind}
use Rattle.zq_outer.specs.declared.link.LinkGot.{LinkGot}
use Rattle.zq_outer.specs.declared.link.LinkPut.{LinkPut}
use Rattle.msg_pipe.specs.Told.{take_step}
use Rattle.msg_pipe.specs.declared.pipes.Taken.TheVariants as taken
use Rattle.spec_pattern.specs.PipeStep.{PipeStep, Commit, FullLook, Take, EmptyLook, DelimiterLook}
use Rattle.spec_control.specs.declared.end.EndState.{EndState}
use Rattle.spec_control.specs.declared.end.EndState.TheVariants.{Active}
use Rattle.spec_link.specs.declared.row.LinkEnd.{LinkEnd}
use Rattle.spec_link.specs.LinkAct.{LinkAct, Wire, Step, Writes, Reads, Repeats, said_of, heard_of}
use Rattle.spec_link.specs.Parts.{WriteFits, ReadFits, write_acts, read_acts}
use Rattle.spec_link.specs.History.{Basis, Standing}
use Rattle.spec_link.specs.Turn.{IsEndedBy, EndsBy, ReadsAt, no_more, puts as puts_at, drops, holds, write_end, read_end}
use Rattle.link_side.specs.declared.wire.Fetched.{Fetched}
use Rattle.link_side.specs.declared.wire.Fetched.TheVariants as fetched
use Rattle.zq_session.specs.declared.life.ReadMode.{ReadMode}
use Rattle.zq_session.specs.declared.life.ReadMode.TheVariants as mode
use Rattle.link_side.specs.Calls.{put_acts}
use Rattle.zq_session.specs.Halves.{step_in}
use Rattle.zq_session.specs.Doing.{ReadsAs, IsFor}
use Rattle.zq_session.specs.Reading.{IsReading}
use Rattle.zq_session.specs.Noting.{Next, Takes, Says, next_acts, next_look, WriteMode, taking, alone, saying}
use Rattle.zq_session.proofs.ListLemmas.{in_either, in_right, in_one, the_one, in_none}
use Rattle.zq_session.specs.LastActs.{end_by_put, end_by_got}

-- ---- what the acts add up to

pub added : {A : Type 0} (f : LinkAct → List A) (xs ys : List LinkAct) (m n : List A) → flat_map f xs ≡ m → flat_map f ys ≡ n → flat_map f (xs ++ ys) ≡ m ++ n
added f xs ys m n e d = flat_map-append f xs ys ∙ ap (λ (l : List _). l ++ flat_map f ys) e ∙ ap (λ (l : List _). m ++ l) d

pub write_says : (answer : Option LinkPut) (octets : List ℕ) → WriteFits answer octets → said_of (write_acts answer octets) ≡ octets
write_says None octets fits = sym fits
write_says (Some a) octets fits = append-nil octets

pub write_hears : (answer : Option LinkPut) (octets : List ℕ) → heard_of (write_acts answer octets) ≡ []
write_hears None octets = refl
write_hears (Some a) octets = refl

pub write_steps : (answer : Option LinkPut) (octets : List ℕ) → flat_map step_in (write_acts answer octets) ≡ []
write_steps None octets = refl
write_steps (Some a) octets = refl

pub take_says : (pipe : PipeId) (next : Next) → said_of (next_acts pipe next) ≡ []
take_says pipe (Takes None) = refl
take_says pipe (Takes (Some x)) = refl
take_says pipe (Says None) = refl
take_says pipe (Says (Some m)) = refl

pub take_hears : (pipe : PipeId) (next : Next) → heard_of (next_acts pipe next) ≡ []
take_hears pipe (Takes None) = refl
take_hears pipe (Takes (Some x)) = refl
take_hears pipe (Says None) = refl
take_hears pipe (Says (Some m)) = refl

pub read_says : (answer : Option LinkGot) (octets : List ℕ) → said_of (read_acts answer octets) ≡ []
read_says None octets = refl
read_says (Some a) octets = refl

pub read_hears : (answer : Option LinkGot) (octets : List ℕ) → ReadFits answer octets → heard_of (read_acts answer octets) ≡ octets
read_hears None octets fits = sym fits
read_hears (Some a) octets fits = append-nil octets

pub read_steps : (answer : Option LinkGot) (octets : List ℕ) → flat_map step_in (read_acts answer octets) ≡ []
read_steps None octets = refl
read_steps (Some a) octets = refl

pub put_says : (pipe : PipeId) (ms : List Frames) (full : Bool) → said_of (put_acts pipe ms full) ≡ []
put_says pipe [] false = refl
put_says pipe [] true = refl
put_says pipe (m ∷ ms) full = put_says pipe ms full

pub put_hears : (pipe : PipeId) (ms : List Frames) (full : Bool) → heard_of (put_acts pipe ms full) ≡ []
put_hears pipe [] false = refl
put_hears pipe [] true = refl
put_hears pipe (m ∷ ms) full = put_hears pipe ms full

-- ---- answers that end a link

step_never : (step : PipeStep) (cause : LinkEnd) → EndsBy (Step step) cause → ⊥
step_never step cause (inl e) = (let x = e.2 in absurd cc)
step_never step cause (inr e) = (let x = e.2 in absurd cc)

write_by : (a : LinkPut) (octets : List ℕ) (cause : LinkEnd) → EndsBy (Wire (Writes a octets)) cause → write_end a ≡ Some cause
write_by a octets cause (inl e) = (let x = e.2 in let same : a ≡ e.0 = cc in ap (λ (y : LinkPut). write_end y) same ∙ e.3)
write_by a octets cause (inr e) = (let x = e.2 in absurd cc)

read_by : (a : LinkGot) (octets : List ℕ) (cause : LinkEnd) → EndsBy (Wire (Reads a octets)) cause → read_end a ≡ Some cause
read_by a octets cause (inl e) = (let x = e.2 in absurd cc)
read_by a octets cause (inr e) = (let x = e.2 in let same : a ≡ e.0 = cc in ap (λ (y : LinkGot). read_end y) same ∙ e.3)

ends_write : (put : Option LinkPut) (octets : List ℕ) (act : LinkAct) (cause : LinkEnd) → Contains (write_acts put octets) act → EndsBy act cause → (a : LinkPut) × (put ≡ Some a) × (write_end a ≡ Some cause)
ends_write None octets act cause c e = in_none act c
ends_write (Some a) octets act cause c e =
    (a, refl, write_by a octets cause (subst (λ (x : LinkAct). EndsBy x cause) (sym (in_one (Wire (Writes a octets)) act c.0 c.1 c.2)) e))

ends_read : (got : Option LinkGot) (octets : List ℕ) (act : LinkAct) (cause : LinkEnd) → Contains (read_acts got octets) act → EndsBy act cause → (a : LinkGot) × (got ≡ Some a) × (read_end a ≡ Some cause)
ends_read None octets act cause c e = in_none act c
ends_read (Some a) octets act cause c e =
    (a, refl, read_by a octets cause (subst (λ (x : LinkAct). EndsBy x cause) (sym (in_one (Wire (Reads a octets)) act c.0 c.1 c.2)) e))

says_never : (m : Frames) (cause : LinkEnd) → EndsBy (Wire (Repeats m)) cause → ⊥
says_never m cause (inl e) = (let x = e.2 in absurd cc)
says_never m cause (inr e) = (let x = e.2 in absurd cc)

ends_take : (pipe : PipeId) (next : Next) (act : LinkAct) (cause : LinkEnd) → Contains (next_acts pipe next) act → EndsBy act cause → ⊥
ends_take pipe (Takes None) act cause c e = in_none act c
ends_take pipe (Says None) act cause c e = in_none act c
ends_take pipe (Says (Some m)) act cause c e = says_never m cause (subst (λ (y : LinkAct). EndsBy y cause) (sym (in_one (Wire (Repeats m)) act c.0 c.1 c.2)) e)
ends_take pipe (Takes (Some x)) act cause c e = step_never (take_step pipe x) cause (subst (λ (y : LinkAct). EndsBy y cause) (sym (in_one (Step (take_step pipe x)) act c.0 c.1 c.2)) e)

pub ends_put : (pipe : PipeId) (ms : List Frames) (full : Bool) (act : LinkAct) (cause : LinkEnd) → Contains (put_acts pipe ms full) act → EndsBy act cause → ⊥
ends_put pipe [] false act cause c e = in_none act c
ends_put pipe [] true act cause c e = step_never (FullLook pipe) cause (subst (λ (y : LinkAct). EndsBy y cause) (sym (in_one (Step (FullLook pipe)) act c.0 c.1 c.2)) e)
ends_put pipe (m ∷ ms) full act cause c e =
    elim (in_either (Step (Commit pipe m) ∷ []) (put_acts pipe ms full) act c) as (λ _. ⊥) [
      | inl k ↦ step_never (Commit pipe m) cause (subst (λ (y : LinkAct). EndsBy y cause) (sym (in_one (Step (Commit pipe m)) act k.0 k.1 k.2)) e)
      | inr k ↦ ends_put pipe ms full act cause k e
    ]

-- the writing part of these
abbrev pub writing : Option LinkPut → List ℕ → PipeId → Next → List LinkAct
writing put octets pipe next = write_acts put octets ++ next_acts pipe next

abbrev pub reading : Option LinkGot → List ℕ → PipeId → List Frames → Bool → List LinkAct
reading got octets pipe ms full = read_acts got octets ++ put_acts pipe ms full

pub ends_writing : (put : Option LinkPut) (octets : List ℕ) (pipe : PipeId) (next : Next) (cause : LinkEnd) → IsEndedBy (writing put octets pipe next) cause
    → (a : LinkPut) × (put ≡ Some a) × (write_end a ≡ Some cause)
ends_writing put octets pipe next cause e =
    elim (in_either (write_acts put octets) (next_acts pipe next) e.0 e.1) as (λ _. (a : LinkPut) × (put ≡ Some a) × (write_end a ≡ Some cause)) [
      | inl c ↦ ends_write put octets e.0 cause c e.2
      | inr c ↦ absurd (ends_take pipe next e.0 cause c e.2)
    ]

pub ends_reading : (got : Option LinkGot) (octets : List ℕ) (pipe : PipeId) (ms : List Frames) (full : Bool) (cause : LinkEnd) → IsEndedBy (reading got octets pipe ms full) cause
    → (a : LinkGot) × (got ≡ Some a) × (read_end a ≡ Some cause)
ends_reading got octets pipe ms full cause e =
    elim (in_either (read_acts got octets) (put_acts pipe ms full) e.0 e.1) as (λ _. (a : LinkGot) × (got ≡ Some a) × (read_end a ≡ Some cause)) [
      | inl c ↦ ends_read got octets e.0 cause c e.2
      | inr c ↦ absurd (ends_put pipe ms full e.0 cause c e.2)
    ]

pub writing_ends : (put : Option LinkPut) (octets : List ℕ) (more : List LinkAct) (a : LinkPut) (cause : LinkEnd) → put ≡ Some a → write_end a ≡ Some cause → IsEndedBy (write_acts put octets ++ more) cause
writing_ends put octets more a cause is e =
    subst (λ (x : Option LinkPut). IsEndedBy (write_acts x octets ++ more) cause) (sym is)
    (Wire (Writes a octets), (0, omega arith, refl), inl (a, octets, refl, e))

pub reading_ends : (got : Option LinkGot) (octets : List ℕ) (more : List LinkAct) (a : LinkGot) (cause : LinkEnd) → got ≡ Some a → read_end a ≡ Some cause → IsEndedBy (read_acts got octets ++ more) cause
reading_ends got octets more a cause is e =
    subst (λ (x : Option LinkGot). IsEndedBy (read_acts x octets ++ more) cause) (sym is)
    (Wire (Reads a octets), (0, omega arith, refl), inr (a, octets, refl, e))

-- an answer that ended the link
pub put_of : (put : Option LinkPut) (cause : LinkEnd) → end_by_put put ≡ Some cause → (a : LinkPut) × (put ≡ Some a) × (write_end a ≡ Some cause)
put_of None cause e = absurd cc
put_of (Some a) cause e = (a, refl, e)

pub got_of : (got : Option LinkGot) (cause : LinkEnd) → end_by_got got ≡ Some cause → (a : LinkGot) × (got ≡ Some a) × (read_end a ≡ Some cause)
got_of None cause e = absurd cc
got_of (Some a) cause e = (a, refl, e)

-- ---- the delimiter

met_by : (pipe : PipeId) (next : Next) → next_look next ≡ Some fetched.Delimiter → Contains (next_acts pipe next) (Step (DelimiterLook pipe))
met_by pipe (Says None) e = absurd cc
met_by pipe (Says (Some m)) e = absurd cc
met_by pipe (Takes None) e = absurd cc
met_by pipe (Takes (Some (taken.Item m))) e = absurd cc
met_by pipe (Takes (Some taken.Empty)) e = absurd cc
met_by pipe (Takes (Some taken.Delimiter)) e = the_one (Step (DelimiterLook pipe))

pub met_in : (put : Option LinkPut) (octets : List ℕ) (pipe : PipeId) (next : Next) (look : Option Fetched) → look ≡ next_look next → look ≡ Some fetched.Delimiter
    → Contains (writing put octets pipe next) (Step (DelimiterLook pipe))
met_in put octets pipe next look e d = in_right (write_acts put octets) (next_acts pipe next) (Step (DelimiterLook pipe)) (met_by pipe next (sym e ∙ d))

wire_step : (a : LinkPut) (octets : List ℕ) (step : PipeStep) → Wire (Writes a octets) ≡ Step step → ⊥
wire_step a octets step e = absurd cc

unwritten : (put : Option LinkPut) (octets : List ℕ) (step : PipeStep) → Contains (write_acts put octets) (Step step) → ⊥
unwritten None octets step c = in_none (Step step) c
unwritten (Some a) octets step c = wire_step a octets step (in_one (Wire (Writes a octets)) (Step step) c.0 c.1 c.2)

steps_differ : (m : Frames) (pipe : PipeId) → Step (Take pipe m) ≡ Step (DelimiterLook pipe) → ⊥
steps_differ m pipe e = absurd cc

looks_differ : (pipe : PipeId) → Step (EmptyLook pipe) ≡ Step (DelimiterLook pipe) → ⊥
looks_differ pipe e = absurd cc

says_differ : (m : Frames) (pipe : PipeId) → Wire (Repeats m) ≡ Step (DelimiterLook pipe) → ⊥
says_differ m pipe e = absurd cc

unmet_by : (pipe : PipeId) (next : Next) → Contains (next_acts pipe next) (Step (DelimiterLook pipe)) → next_look next ≡ Some fetched.Delimiter
unmet_by pipe (Takes None) c = in_none (Step (DelimiterLook pipe)) c
unmet_by pipe (Takes (Some (taken.Item m))) c = absurd (steps_differ m pipe (in_one (Step (Take pipe m)) (Step (DelimiterLook pipe)) c.0 c.1 c.2))
unmet_by pipe (Takes (Some taken.Empty)) c = absurd (looks_differ pipe (in_one (Step (EmptyLook pipe)) (Step (DelimiterLook pipe)) c.0 c.1 c.2))
unmet_by pipe (Takes (Some taken.Delimiter)) c = refl
unmet_by pipe (Says None) c = in_none (Step (DelimiterLook pipe)) c
unmet_by pipe (Says (Some m)) c = absurd (says_differ m pipe (in_one (Wire (Repeats m)) (Step (DelimiterLook pipe)) c.0 c.1 c.2))

pub unmet_in : (put : Option LinkPut) (octets : List ℕ) (pipe : PipeId) (next : Next) (look : Option Fetched) → look ≡ next_look next → (look ≡ Some fetched.Delimiter → ⊥)
    → Contains (writing put octets pipe next) (Step (DelimiterLook pipe)) → ⊥
unmet_in put octets pipe next look e never c =
    elim (in_either (write_acts put octets) (next_acts pipe next) (Step (DelimiterLook pipe)) c) as (λ _. ⊥) [
      | inl k ↦ unwritten put octets (DelimiterLook pipe) k
      | inr k ↦ never (e ∙ unmet_by pipe next k)
    ]

-- ---- by how the session stands

none_some : {X : Type 0} (o : Option EndState) (x : EndState) → o ≡ None → o ≡ Some x → X
none_some o x e d = absurd cc

pub reads_at : (b : Basis) (s : Standing) (how : ReadMode) (kind : Kind) (acts more : List LinkAct) → IsFor how b.opts → IsReading kind s.state s.told how → ReadsAs how b.opts b.end acts more → ReadsAt b s acts more
reads_at b s mode.Nothing kind acts more for_kind is r = no_more is r
reads_at b s mode.Puts kind acts more for_kind is r = puts_at (λ never. none_some s.state Active never.1 is.1) for_kind is.1 r
reads_at b s mode.Holds kind acts more for_kind is r = holds is.0 for_kind is.1.1 r
reads_at b s mode.Drops kind acts more for_kind is r = drops is.0 for_kind r

-- how it reads fits its kind
pub is_for : (how : ReadMode) (opts : EngineOpts) (kind : Kind) (state : Option EndState) (told : Option ℕ) → opts.kind ≡ kind → IsReading kind state told how → IsFor how opts
is_for mode.Nothing opts kind state told e is = tt
is_for mode.Puts opts kind state told e is = λ push. is.0 (sym e ∙ push)
is_for mode.Holds opts kind state told e is = λ push. is.1.0 (sym e ∙ push)
is_for mode.Drops opts kind state told e is = e ∙ is.1

pub taking_alone : (mode : WriteMode) (X : Type 0) → mode ≡ taking → mode ≡ alone → X
taking_alone mode X e d = absurd cc

pub taking_saying : (mode : WriteMode) (m : Frames) (X : Type 0) → mode ≡ taking → mode ≡ saying m → X
taking_saying mode m X e d = absurd cc
