-- What the reading part does at a link.
use Rattle.std.proofs.Common.{◌≡◌, ℕ, Bool, true, false, List, [], ◌∷◌, ◌++◌, Option, Some, None, refl, sym, ap, subst, ◌∙◌, inl, inr}
use Rattle.std.specs.Prelude.{◌⊎◌, ◌||◌}
use Rattle.std.specs.List.{flat_map}
use Rattle.std.proofs.lemmas.List.{append-nil}
use Rattle.std.proofs.lemmas.List.Concat.{flat_map-append}
use Rattle.zq_base.specs.declared.options.EngineOpts.{EngineOpts}
use Rattle.zq_base.specs.declared.kind.Kind.TheVariants.{Push}
use Rattle.zq_base.specs.Ends.{PipeId}
use Rattle.msg_pipe.specs.Known.{Known}
use Rattle.spec_pattern.specs.PipeStep.{PipeStep}
use Rattle.spec_link.specs.declared.row.LinkEnd.{LinkEnd}
use Rattle.spec_link.specs.LinkAct.{LinkAct, said_by, heard_by, said_of, heard_of}
use Rattle.spec_link.specs.History.{Basis, SessionEvent, Closed, Standing, after_all}
use Rattle.spec_link.specs.Moving.{has_moved}
use Rattle.spec_link.specs.Turn.{CanWrite, PutsLast, ClosesLink, IsRefused}
use Rattle.link_side.specs.Kept.{Kept, Side, IsKeptOf}
use Rattle.link_side.specs.Calls.{Adds}
use Rattle.link_side.specs.Says.{IsFree}
use Rattle.link_side.specs.Silent.{IsRefusedNow, IsUnrefused}
use Rattle.link_side.proofs.PartLemmas.{adds_none}
use Rattle.zq_session.specs.declared.life.Life.{Life}
use Rattle.zq_session.specs.declared.course.Course.{Course}
use Rattle.zq_session.specs.Lives.{Story, basis_of, standing_of}
use Rattle.zq_session.specs.LifeView.{IsWritable}
use Rattle.zq_session.specs.Courses.{HasStory, AtLinkBy}
use Rattle.zq_session.specs.Ending.{Asks, DialsLater}
use Rattle.zq_session.specs.Halves.{StepsRun, step_in}
use Rattle.zq_session.specs.LastActs.{WasRefused, AreQuiet, PutsLastBy}
use Rattle.zq_session.specs.Moved.{MovesAt}
use Rattle.zq_session.specs.TopicSteps.{over_link}
use Rattle.zq_session.proofs.NotingLemmas.{still_on, notes_still}
use Rattle.zq_session.proofs.HalfLemmas.{steps_on}
use Rattle.zq_session.proofs.UnputLemmas.{refused_of, unrefused_of}
use Rattle.zq_session.proofs.CourseLemmas.{acted, by_link, link_some, basis_is}
use Rattle.zq_session.proofs.StepLemmas.{course_on}
use Rattle.zq_session.proofs.LinkedLemmas.{adding_acts, adding_on, adding_close, at_side, course_acts, course_closes, closed_story, close_events, closing_by, at_link_by}
use Rattle.zq_base.specs.declared.options.Peer.{Peer}
use Rattle.zq_outer.specs.declared.link.LinkGot.{LinkGot}
use Rattle.zq_outer.specs.declared.link.LinkGot.TheVariants as link_got
use Rattle.spec_zmtp.specs.declared.cause.Cause.{Cause}
use Rattle.spec_link.specs.declared.row.LinkEnd.TheVariants as why
use Rattle.spec_link.specs.Turn.{ReadsAt, IsEnded, IsEndedBy, IsRefusedBy, IsWriteOnly, ShakenIsDue}
use Rattle.spec_link.specs.TurnParts.{IsOverBy, ReadsAtLink}
use Rattle.link_side.specs.declared.read_part.Heard.{Heard}
use Rattle.zq_session.specs.declared.life.ReadMode.{ReadMode}
use Rattle.zq_session.specs.declared.life.ReadMode.TheVariants as mode
use Rattle.zq_session.specs.Courses.{ShakesBy}
use Rattle.zq_session.specs.Doing.{ReadsAs, IsFor}
use Rattle.zq_session.specs.LastActs.{IsRefusal, IsOverNow, StandsNow, SaysLastBy, end_by_got}
use Rattle.zq_session.specs.Moved.{reading_moved}
use Rattle.zq_session.specs.Reading.{IsReading}
use Rattle.zq_session.proofs.UnputLemmas.{does_on, tells_as, write_only_as}
use Rattle.zq_session.proofs.ActLemmas.{reads_at, is_for}
use Rattle.zq_session.proofs.LinkedLemmas.{adding_shaken, course_shakes}
use Rattle.zq_session.proofs.WorkLemmas.{ReadBy, moved_acts, moved_behind}
use Rattle.zq_session.proofs.MovedLemmas.{moved_on}
use Rattle.zq_session.proofs.WriteLemmas.{was_refused, not_refused, puts_kept, puts_at, quiet_still, some_none}
use Rattle.zq_session.proofs.TallyLemmas.{tally_still}
use Rattle.zq_session.proofs.CountingLemmas.{tally_reads}
use Rattle.spec_link.proofs.TopicLemmas.{silent_on, silent_none, silent_as, Silent}
use Rattle.spec_link.proofs.OneByOneLemmas.{silent_last, silent_alone}
use Rattle.zq_session.specs.Counting.{TallyEnds}

-- ---- how it reads

-- how it reads fits its kind, and is no reading where what was heard is refused
pub how_for : (refused : Bool) (how : ReadMode) (opts : EngineOpts) (l : Life) → (refused ≡ true → how ≡ mode.Nothing) → (refused ≡ false → IsReading l.kind l.state l.told how) → opts.kind ≡ l.kind → IsFor how opts
how_for true how opts l f g e = subst (λ (m : ReadMode). IsFor m opts) (sym (f refl)) tt
how_for false how opts l f g e = is_for how opts l.kind l.state l.told e (g refl)

pub reads_are : (refused : Bool) (how : ReadMode) (l : Life) (p : Story) (acts reads : List LinkAct) (k : Kept) → (refused ≡ true → how ≡ mode.Nothing) → (refused ≡ false → IsReading l.kind l.state l.told how) → p.opts.kind ≡ l.kind
    → IsKeptOf p.opts acts k → (refused ≡ true → WasRefused k) → (refused ≡ false → IsUnrefused k) → ReadsAs how p.opts l.end acts reads
    → (IsRefused (basis_of l p) acts × (reads ≡ [])) ⊎ ((IsRefused (basis_of l p) acts → ⊥) × ReadsAt (basis_of l p) (standing_of l p) acts reads)
reads_are true how l p acts reads k f g e run ry rn r = inl (was_refused (basis_of l p) acts k run (ry refl), subst (λ (m : ReadMode). ReadsAs m p.opts l.end acts reads) (f refl) r)
reads_are false how l p acts reads k f g e run ry rn r =
    inr (not_refused (basis_of l p) acts k run (rn refl), reads_at (basis_of l p) (standing_of l p) how l.kind acts reads (is_for how p.opts l.kind l.state l.told e (g refl)) (g refl) r)

-- where it isn't said to be done, nothing became due
shaken_none : (b : Basis) (st : Standing) (acts : List LinkAct) (events : List SessionEvent) (said : Bool) → said ≡ has_moved events → said ≡ false → ShakenIsDue b st acts events → events ≡ []
shaken_none b st acts events said e f (inl k) = (let x : false ≡ true = sym f ∙ e ∙ ap (λ (l : List SessionEvent). has_moved l) k.3 in absurd cc)
shaken_none b st acts events said e f (inr k) = k.1

refused_by : (b : Basis) (acts : List LinkAct) (k : Kept) (cause : LinkEnd) → IsKeptOf b.opts acts k → (c : Cause) × (cause ≡ why.Refused c) × IsRefusedNow c k → IsRefusedBy b acts cause
refused_by b acts k cause run x = (let r = refused_of b.opts acts k run x.0 x.2 in (r.2.0, r.2.1, r.0, r.2.2, x.1 ∙ ap why.Refused r.1))

-- no answer of a read is a refusal
got_no_refusal : (got : Option LinkGot) (c : Cause) → end_by_got got ≡ Some (why.Refused c) → ⊥
got_no_refusal None c e = absurd cc
got_no_refusal (Some (link_got.Bytes n)) c e = absurd cc
got_no_refusal (Some link_got.NotReady) c e = absurd cc
got_no_refusal (Some link_got.Ended) c e = absurd cc
got_no_refusal (Some link_got.Failed) c e = absurd cc

-- whether its read ended it, by whether it is over since the stream was refused
ended_by : (got : Option LinkGot) (said : Bool) (k : Kept) (cause : LinkEnd) → (IsRefusal cause → ⊥) → IsOverNow got said k cause → end_by_got got ≡ Some cause
ended_by got said k cause never (inl e) = e
ended_by got said k cause never (inr e) = absurd (never (e.1.1.0, e.1.1.1))

not_ended : (got : Option LinkGot) (said : Bool) (k : Kept) (cause other : LinkEnd) → IsRefusal cause → IsOverNow got said k cause → end_by_got got ≡ Some other → ⊥
not_ended got said k cause other r (inl e) d = got_no_refusal got r.0 (e ∙ ap (λ (x : LinkEnd). Some x) r.1)
not_ended got said k cause other r (inr e) d = some_none (end_by_got got) other e.0 d

-- the puts, by whether what was heard was refused before
puts_are : {S O I N : Type 0} (K : Known S O I N) (refused puts : Bool) (b c : Basis) (st : Standing) (before acts : List LinkAct) (k0 k1 k2 : Kept) (s s' : S) (o o' : Option O) → (w : PutsLastBy K puts b.end k1 k2 s o s' o') → IsKeptOf c.opts before k0 → IsKeptOf b.opts acts k1
    → (refused ≡ true → WasRefused k0) → (refused ≡ false → IsUnrefused k0) → (puts ≡ true → (refused ≡ true) × ((b.opts.kind ≡ Push → ⊥) × CanWrite st)) → (puts ≡ false → refused ≡ true → (b.opts.kind ≡ Push → ⊥) → CanWrite st → ⊥)
    → (IsRefused c before × PutsLast b st acts w.acts) ⊎ ((IsRefused c before → ⊥) × (w.acts ≡ []))
puts_are K true puts b c st before acts k0 k1 k2 s s' o o' w run0 run1 ry rn py pn =
    inl (was_refused c before k0 run0 (ry refl), puts_at K b st acts k1 k2 puts s s' o o' w run1 (λ e. (py e).1) (λ e. pn e refl))
puts_are K false true b c st before acts k0 k1 k2 s s' o o' w run0 run1 ry rn py pn = (let e = (py refl).0 in absurd cc)
puts_are K false false b c st before acts k0 k1 k2 s s' o o' w run0 run1 ry rn py pn = inr (not_refused c before k0 run0 (rn refl), w.none refl)

-- the last write, by whether it is over since the stream was refused
last_write : (says : Bool) (got : Option LinkGot) (said : Bool) (k0 k1 k2 : Kept) (cause : LinkEnd) (b : Basis) (acts : List LinkAct) (reads : List LinkAct) (said1 said' : Option (List ℕ)) (shown : List LinkAct → Type 0) → (w : SaysLastBy says k1 k2 said1 said' shown)
    → (says ≡ false → IsRefusal cause → ⊥) → IsOverNow got said k0 cause → ((other : LinkEnd) → end_by_got got ≡ Some other → IsEndedBy reads other) → IsKeptOf b.opts acts k1 → IsEnded reads ⊎ IsWriteOnly b acts w.acts
last_write true got said k0 k1 k2 cause b acts reads said1 said' shown w rn ov over run = inr (write_only_as b run.all acts w.acts (tells_as b.opts acts k1 run) (w.write refl b run.all run.run))
last_write false got said k0 k1 k2 cause b acts reads said1 said' shown w rn ov over run = inl (cause, over cause (ended_by got said k0 cause (rn refl) ov))

last_none : (says : Bool) (got : Option LinkGot) (said : Bool) (k0 k1 k2 : Kept) (cause : LinkEnd) (reads : List LinkAct) (said1 said' : Option (List ℕ)) (shown : List LinkAct → Type 0) → (w : SaysLastBy says k1 k2 said1 said' shown)
    → (says ≡ true → IsRefusal cause) → IsOverNow got said k0 cause → ((other : LinkEnd) → IsEndedBy reads other → end_by_got got ≡ Some other) → IsEnded reads → w.acts ≡ []
last_none true got said k0 k1 k2 cause reads said1 said' shown w ry ov ends e = absurd (not_ended got said k0 cause e.0 (ry refl) ov (ends e.0 e.1))
last_none false got said k0 k1 k2 cause reads said1 said' shown w ry ov ends e = w.none refl

over_by : (b : Basis) (acts reads : List LinkAct) (shaken : List SessionEvent) (got : Option LinkGot) (said : Bool) (k : Kept) (cause : LinkEnd) → IsKeptOf b.opts (acts ++ reads) k → (said ≡ false → shaken ≡ [])
    → ((other : LinkEnd) → IsEndedBy reads other → end_by_got got ≡ Some other) → ((other : LinkEnd) → end_by_got got ≡ Some other → IsEndedBy reads other) → IsOverNow got said k cause → IsOverBy b acts reads shaken cause
over_by b acts reads shaken got said k cause run none ends over (inl e) = inl (over cause e)
over_by b acts reads shaken got said k cause run none ends over (inr e) =
    inr ((λ x. some_none (end_by_got got) x.0 e.0 (ends x.0 x.1)), (none e.1.0, refused_by b (acts ++ reads) k cause run e.1.1))

stands_by : (b : Basis) (acts reads : List LinkAct) (shaken : List SessionEvent) (got : Option LinkGot) (said : Bool) (k : Kept) → IsKeptOf b.opts (acts ++ reads) k → said ≡ has_moved shaken
    → ((other : LinkEnd) → IsEndedBy reads other → end_by_got got ≡ Some other) → StandsNow got said k → (cause : LinkEnd) → IsOverBy b acts reads shaken cause → ⊥
stands_by b acts reads shaken got said k run es ends st cause (inl x) = some_none (end_by_got got) cause st.answer (ends cause x)
stands_by b acts reads shaken got said k run es ends st cause (inr x) =
    (let r = x.1.1 in unrefused_of b.opts (acts ++ reads) k run (st.unrefused (es ∙ ap (λ (l : List SessionEvent). has_moved l) x.1.0)) r.0 r.1 r.2 r.3)

-- the last acts offer nothing
silent_puts_are : (X : Type 0) (b : Basis) (st : Standing) (acts more : List LinkAct) → (X × PutsLast b st acts more) ⊎ ((X → ⊥) × (more ≡ [])) → Silent more
silent_puts_are X b st acts more (inl k) = silent_last b st acts more k.1
silent_puts_are X b st acts more (inr k) = silent_as [] more k.1 silent_none

silent_says : (X : Type 0) (b : Basis) (acts more : List LinkAct) → X ⊎ IsWriteOnly b acts more → (X → more ≡ []) → Silent more
silent_says X b acts more (inl x) none = silent_as [] more (none x) silent_none
silent_says X b acts more (inr w) none = silent_alone b acts more w

-- nothing was said
pub said_none : (said said' : Option (List ℕ)) (acts : List LinkAct) → said_of acts ≡ [] → said' ≡ said → Adds said (said_of acts) said'
said_none said said' acts e es = subst (λ (x : Option (List ℕ)). Adds said (said_of acts) x) (sym es) (subst (λ (l : List ℕ). Adds said l said) (sym e) (adds_none said))

module _ {S O I N : Type 0} (K : Known S O I N) where
  -- ---- the link stands behind it

  pub read_stands : (now : ℕ) (old : Course) (l1 : Life) (peer : Option Peer) (sd sd1 : Side) (done : Heard) (how : ReadMode) (refused told moved : Bool) (said said' heard heard' : Option (List ℕ)) (shown : List LinkAct → Type 0) (s s' : S) (o o' : Option O)
      → old.side ≡ Some sd → IsFree sd.behind → IsFree sd1.behind → (refused ≡ true → WasRefused sd.kept) → (refused ≡ false → IsUnrefused sd.kept) → (refused ≡ true → how ≡ mode.Nothing) → (refused ≡ false → IsReading old.life.kind old.life.state old.life.told how) → said' ≡ said
      → ReadBy K how old.life.end sd.kept done sd1.kept heard heard' shown s o s' o' → ShakesBy old.life l1 old.peer peer sd1.kept told → StandsNow done.got told sd1.kept → moved ≡ (reading_moved done || told)
      → (p : Story) (i : Option I) → HasStory old p → AtLinkBy K (MovesAt moved (λ b. ReadsAtLink b now)) old (at_side old l1 peer sd1 old.topics old.tally) said said' heard heard' shown s i o s' i o' p
  read_stands now old l1 peer sd sd1 done how refused told moved said said' heard heard' shown s s' o o' es fr fr1 ry rn hy hn eh w shakes stands em p i keeps =
      let link = link_some p.opts p.link old.side sd es fr keeps.link in
      let acts = link.0 in
      let new = at_side old l1 peer sd1 old.topics old.tally in
      let does = MovesAt moved (λ b. ReadsAtLink b now) in
      by_link (λ q. HasStory old q → AtLinkBy K does old new said said' heard heard' shown s i o s' i o' q) p acts link.1 (λ k.
      let q = record p { link = Some acts } in
      let b = basis_of old.life q in
      let st = standing_of old.life q in
      let m1 = at_side old old.life old.peer sd1 old.topics old.tally in
      let fits = how_for refused how p.opts old.life hy hn k.kind_is in
      let run1 = w.run p.opts fits acts link.2 in
      let reads = reads_are refused how old.life q acts w.reads sd.kept hy hn k.kind_is link.2 ry rn (w.part p.opts acts fits link.2) in
      let ey = tally_reads old.life q acts w.reads old.tally reads k.tally in
      let x1 = course_acts old m1 sd sd1 p acts w.reads es refl refl refl refl fr fr1 (sym (notes_still w.reads old.topics w.still)) run1 ey k in
      let q1 = record p { link = Some (acts ++ w.reads) } in
      let h = shakes q1 (acts ++ w.reads) x1.keeps.due run1 in
      let x2 = course_shakes m1 new q1 h.0 refl refl refl refl h.1 x1.keeps in
      let shaken : ShakenIsDue b (after_all b st (acted w.reads)) (acts ++ w.reads) h.0 = subst (λ (x : Standing). ShakenIsDue b x (acts ++ w.reads) h.0) (sym x1.after_is) h.2 in
      let read : ReadsAtLink b now acts st (acted w.reads ++ h.0) = record {
        reads = w.reads;
        shaken = h.0;
        closes = [];
        all = ap (λ (l : List SessionEvent). acted w.reads ++ l) (sym (append-nil h.0));
        read = reads;
        shaken_is = shaken;
        closing = inr (stands_by b acts w.reads h.0 done.got told sd1.kept run1 h.3 w.ends stands, refl);
      } in
      at_link_by K does old new said said' heard heard' shown s s' i i o o' q acts (w.reads ++ []) (acted w.reads ++ h.0) refl
      (read, em ∙ moved_on (acted w.reads) h.0 (reading_moved done) told (sym (moved_acts w.reads ∙ w.moved)) h.3)
      (course_on old m1 new q (acted w.reads) h.0 x1 x2) (adding_on (acted w.reads) h.0 w.reads [] (adding_acts w.reads) (adding_shaken b (after_all b st (acted w.reads)) (acts ++ w.reads) h.0 shaken))
      (subst (λ (l : List LinkAct). StepsRun K (flat_map step_in l) s i o s' i o') (sym (append-nil w.reads)) (w.steps i))
      (said_none said said' (w.reads ++ []) (ap (λ (l : List LinkAct). said_of l) (append-nil w.reads) ∙ w.says) eh)
      (subst (λ (l : List LinkAct). Adds heard (heard_of l) heard') (sym (append-nil w.reads)) w.heard_is) (subst (λ (l : List LinkAct). shown l) (sym (append-nil w.reads)) w.shown_is)) keeps

  -- ---- the link is over

  pub read_over : (now : ℕ) (old new : Course) (l1 : Life) (peer : Option Peer) (sd sd1 sd2 sd3 : Side) (done : Heard) (how : ReadMode) (cause : LinkEnd) (refused told puts says moved : Bool) (said said1 said' heard heard1 heard' : Option (List ℕ)) (shown1 shown2 shown : List LinkAct → Type 0) (s s1 s' : S) (o o1 o' : Option O)
      → old.side ≡ Some sd → IsFree sd.behind → IsFree sd1.behind → IsFree sd3.behind → (refused ≡ true → WasRefused sd.kept) → (refused ≡ false → IsUnrefused sd.kept) → (refused ≡ true → how ≡ mode.Nothing) → (refused ≡ false → IsReading old.life.kind old.life.state old.life.told how)
      → said1 ≡ said → heard' ≡ heard1 → ((xs ys zs : List LinkAct) → shown1 xs → AreQuiet ys → shown2 zs → shown (xs ++ (ys ++ zs)))
      → ReadBy K how old.life.end sd.kept done sd1.kept heard heard1 shown1 s o s1 o1 → ShakesBy old.life l1 old.peer peer sd1.kept told → IsOverNow done.got told sd1.kept cause
      → ((pipe : PipeId) → PutsLastBy K puts pipe sd1.kept sd2.kept s1 o1 s' o') → (puts ≡ true → (refused ≡ true) × ((l1.kind ≡ Push → ⊥) × IsWritable l1.state)) → (puts ≡ false → refused ≡ true → (l1.kind ≡ Push → ⊥) → IsWritable l1.state → ⊥)
      → SaysLastBy says sd2.kept sd3.kept said1 said' shown2 → (says ≡ true → IsRefusal cause) → (says ≡ false → IsRefusal cause → ⊥)
      → new.side ≡ None → new.topics ≡ over_link old.topics → new.peer ≡ peer → Asks l1 new.life → DialsLater now (at_side old l1 peer sd3 old.topics old.tally) new → TallyEnds l1 sd3.kept cause old.tally new.tally → moved ≡ true
      → (p : Story) (i : Option I) → HasStory old p → AtLinkBy K (MovesAt moved (λ b. ReadsAtLink b now)) old new said said' heard heard' shown s i o s' i o' p
  read_over now old new l1 peer sd sd1 sd2 sd3 done how cause refused told puts says moved said said1 said' heard heard1 heard' shown1 shown2 shown s s1 s' o o1 o' es fr fr1 fr3 ry rn hy hn e1 eh shows w shakes ov lasts py pn sl sy sn en et ep asks dials counts em p i keeps =
      let link = link_some p.opts p.link old.side sd es fr keeps.link in
      let acts = link.0 in
      let does = MovesAt moved (λ b. ReadsAtLink b now) in
      by_link (λ q. HasStory old q → AtLinkBy K does old new said said' heard heard' shown s i o s' i o' q) p acts link.1 (λ k.
      let q = record p { link = Some acts } in
      let b = basis_of old.life q in
      let st = standing_of old.life q in
      let m1 = at_side old old.life old.peer sd1 old.topics old.tally in
      let m2 = at_side old l1 peer sd1 old.topics old.tally in
      let m3 = at_side old l1 peer sd3 old.topics old.tally in
      let fits = how_for refused how p.opts old.life hy hn k.kind_is in
      let run1 = w.run p.opts fits acts link.2 in
      let reads = reads_are refused how old.life q acts w.reads sd.kept hy hn k.kind_is link.2 ry rn (w.part p.opts acts fits link.2) in
      let ey = tally_reads old.life q acts w.reads old.tally reads k.tally in
      let x1 = course_acts old m1 sd sd1 p acts w.reads es refl refl refl refl fr fr1 (sym (notes_still w.reads old.topics w.still)) run1 ey k in
      let acts1 = acts ++ w.reads in
      let q1 = record p { link = Some acts1 } in
      let h = shakes q1 acts1 x1.keeps.due run1 in
      let x2 = course_shakes m1 m2 q1 h.0 refl refl refl refl h.1 x1.keeps in
      let shaken : ShakenIsDue b (after_all b st (acted w.reads)) acts1 h.0 = subst (λ (x : Standing). ShakenIsDue b x acts1 h.0) (sym x1.after_is) h.2 in
      let p2 = record p { dues = h.1.dues } in
      let q2 = record p2 { link = Some acts1 } in
      let x12 = course_on old m1 m2 q (acted w.reads) h.0 x1 x2 in
      let kind : p.opts.kind ≡ l1.kind = k.kind_is ∙ sym h.1.same.kind_is in
      let lb = lasts l1.end in
      let last = lb.acts ++ sl.acts in
      let still = still_on lb.acts sl.acts (quiet_still lb.acts lb.quiet) (record { takes = sl.takes; repeats = sl.repeats }) in
      let run2 = puts_kept puts lb.acts sd1.kept sd2.kept p.opts lb.run (λ e push. (py e).1.0 (sym kind ∙ push)) lb.none in
      let run3 = does_on p.opts sd1.kept sd2.kept sd3.kept lb.acts sl.acts run2 (sl.run p.opts) in
      let b2 = basis_of l1 q2 in
      let puts_last = puts_are K refused puts b2 b (standing_of l1 q2) acts acts1 sd.kept sd1.kept sd2.kept s1 s' o1 o' lb link.2 run1 ry rn (λ e. ((py e).0, ((λ push. (py e).1.0 (sym kind ∙ push)), (py e).1.1))) (λ e r keeps. pn e r (λ push. keeps (kind ∙ push))) in
      let says_last = last_write says done.got told sd1.kept sd2.kept sd3.kept cause b2 (acts1 ++ lb.acts) w.reads said1 said' shown2 sl sn ov w.over (run2 acts1 run1) in
      let none_last = last_none says done.got told sd1.kept sd2.kept sd3.kept cause w.reads said1 said' shown2 sl sy ov w.ends in
      let silent = silent_on lb.acts sl.acts (silent_puts_are (IsRefused b acts) b2 (standing_of l1 q2) acts1 lb.acts puts_last) (silent_says (IsEnded w.reads) b2 (acts1 ++ lb.acts) sl.acts says_last none_last) in
      let ey3 = tally_still l1.dials p.opts p.closed old.tally old.tally acts1 last silent x2.keeps.tally in
      let x3 = course_acts m2 m3 sd1 sd3 p2 acts1 last refl refl refl refl refl fr1 fr3 (sym (notes_still last old.topics still)) (run3 acts1 run1) ey3 x2.keeps in
      let a = asks (closed_story now q2 (acts1 ++ last) cause) x3.keeps.due in
      let x4 = course_closes now m3 new sd3 p2 (acts1 ++ last) cause refl en fr3 ep et dials (counts l1.dials p.opts (acts1 ++ last) p.closed kind (run3 acts1 run1) x3.keeps.tally) a x3.keeps in
      let closes = close_events now cause (acted last) a.asks a.over in
      let x34 = course_on m2 m3 new q2 (acted last) (Closed now cause ∷ (a.asks ++ a.over)) x3 x4 in
      let x234 = course_on m1 m2 new q1 h.0 closes x2 x34 in
      let step = course_on old m1 new q (acted w.reads) (h.0 ++ closes) x1 x234 in
      let basis = basis_is old.life l1 q q2 h.1.same refl refl in
      let closing : ClosesLink b2 (standing_of l1 q2) (IsRefused b acts) (IsEnded w.reads) acts1 cause now closes =
      closing_by now l1 new.life q2 acts1 lb.acts sl.acts cause (IsRefused b acts) (IsEnded w.reads) a
      puts_last says_last none_last in
      let read : ReadsAtLink b now acts st (acted w.reads ++ (h.0 ++ closes)) = record {
        reads = w.reads;
        shaken = h.0;
        closes = closes;
        all = refl;
        read = reads;
        shaken_is = shaken;
        closing = inl (
          cause,
          over_by b acts w.reads h.0 done.got told sd1.kept cause run1 (λ f. shaken_none b (after_all b st (acted w.reads)) acts1 h.0 told h.3 f shaken) w.ends w.over ov,
          subst (λ (x : Standing). ClosesLink b x (IsRefused b acts) (IsEnded w.reads) acts1 cause now closes) (sym x12.after_is) (subst (λ (x : Basis). ClosesLink x (standing_of l1 q2) (IsRefused b acts) (IsEnded w.reads) acts1 cause now closes) basis closing),
        );
      } in
      let adds = adding_on (acted w.reads) (h.0 ++ closes) w.reads ([] ++ (last ++ [])) (adding_acts w.reads)
      (adding_on h.0 closes [] (last ++ []) (adding_shaken b (after_all b st (acted w.reads)) acts1 h.0 shaken) (adding_close now cause last l1 new.life (closed_story now q2 (acts1 ++ last) cause) a)) in
      let all : w.reads ++ (last ++ []) ≡ w.reads ++ last = ap (λ (l : List LinkAct). w.reads ++ l) (append-nil last) in
      let steps_last : StepsRun K (flat_map step_in last) s1 i o1 s' i o' =
      subst (λ (l : List PipeStep). StepsRun K l s1 i o1 s' i o') (sym (flat_map-append step_in lb.acts sl.acts ∙ ap (λ (l : List PipeStep). flat_map step_in lb.acts ++ l) sl.steps ∙ append-nil (flat_map step_in lb.acts))) (lb.steps i) in
      at_link_by K does old new said said' heard heard' shown s s' i i o o' q acts (w.reads ++ (last ++ [])) (acted w.reads ++ (h.0 ++ closes)) refl
      (read, em ∙ sym (moved_behind (acted w.reads) (h.0 ++ closes) (moved_behind h.0 closes (moved_behind (acted last) (Closed now cause ∷ (a.asks ++ a.over)) refl))))
      step adds
      (subst (λ (l : List LinkAct). StepsRun K (flat_map step_in l) s i o s' i o') (sym all)
      (subst (λ (l : List PipeStep). StepsRun K l s i o s' i o') (sym (flat_map-append step_in w.reads last)) (steps_on K (flat_map step_in w.reads) (flat_map step_in last) s s1 s' i i i o o1 o' (w.steps i) steps_last)))
      (subst (λ (l : List LinkAct). Adds said (said_of l) said') (sym all)
      (subst (λ (l : List ℕ). Adds said l said') (sym (flat_map-append said_by w.reads last ∙ ap (λ (l : List ℕ). l ++ said_of last) w.says ∙ flat_map-append said_by lb.acts sl.acts ∙ ap (λ (l : List ℕ). l ++ said_of sl.acts) lb.quiet.says)) (subst (λ (x : Option (List ℕ)). Adds x (said_of sl.acts) said') e1 sl.said_is)))
      (subst (λ (x : Option (List ℕ)). Adds heard (heard_of (w.reads ++ (last ++ []))) x) (sym eh)
      (subst (λ (l : List LinkAct). Adds heard (heard_of l) heard1) (sym all)
      (subst (λ (l : List ℕ). Adds heard l heard1) (sym (flat_map-append heard_by w.reads last ∙ ap (λ (l : List ℕ). heard_of w.reads ++ l) (flat_map-append heard_by lb.acts sl.acts ∙ ap (λ (l : List ℕ). l ++ heard_of sl.acts) lb.quiet.hears ∙ sl.hears) ∙ append-nil (heard_of w.reads))) w.heard_is)))
      (subst (λ (l : List LinkAct). shown l) (sym all) (shows w.reads lb.acts sl.acts w.shown_is lb.quiet sl.shown_is))) keeps
