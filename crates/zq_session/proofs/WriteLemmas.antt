-- What the writing part does at a link.
use Rattle.std.proofs.Common.{◌≡◌, ℕ, Bool, true, false, List, [], ◌∷◌, ◌++◌, Option, Some, None, refl, sym, ap, subst, ◌∙◌, inl, inr, append_assoc, length}
use Rattle.std.specs.Prelude.{◌&&◌, Contains, IsSome}
use Rattle.std.specs.List.{flat_map}
use Rattle.std.proofs.lemmas.List.{append-nil}
use Rattle.std.proofs.lemmas.List.Concat.{flat_map-append}
use Rattle.zq_base.specs.declared.options.EngineOpts.{EngineOpts}
use Rattle.zq_base.specs.declared.kind.Kind.TheVariants.{Push}
use Rattle.zq_base.specs.Ends.{PipeId}
use Rattle.msg_pipe.specs.Known.{Known}
use Rattle.spec_pattern.specs.PipeStep.{PipeStep, Take, DelimiterLook, read_through}
use Rattle.spec_link.specs.declared.due.Due.TheVariants.{Delimiter}
use Rattle.spec_link.specs.declared.row.LinkEnd.{LinkEnd}
use Rattle.spec_link.specs.declared.row.LinkEnd.TheVariants as why
use Rattle.spec_link.specs.LinkAct.{LinkAct, Step, said_by, heard_by, said_of, heard_of, taken_of}
use Rattle.spec_link.specs.Rows.{ClosedLink}
use Rattle.spec_link.specs.History.{Basis, SessionEvent, Closed, Standing}
use Rattle.spec_link.specs.Turn.{DueOnce, CanWrite, PutsLast, ClosesLink, IsRefused, subscribes}
use Rattle.spec_link.specs.TurnParts.{WritesToLink, WritesAtLink}
use Rattle.spec_link.specs.Topics.{Topics}
use Rattle.link_side.specs.declared.behind.Behind.{Behind}
use Rattle.link_side.specs.declared.wire.Fetched.TheVariants as fetched
use Rattle.link_side.specs.declared.write_part.Written.{Written}
use Rattle.link_side.specs.Kept.{Kept, Side, Acts, IsKeptOf, KeepsActs, IsAtRest}
use Rattle.link_side.specs.Calls.{Adds}
use Rattle.link_side.specs.Says.{IsFree}
use Rattle.link_side.specs.Silent.{IsUnrefused}
use Rattle.link_side.proofs.PartLemmas.{adds_none}
use Rattle.zq_session.specs.declared.life.Life.{Life}
use Rattle.zq_session.specs.declared.course.Course.{Course}
use Rattle.zq_session.specs.Lives.{Story, basis_of, standing_of}
use Rattle.zq_session.specs.LifeSteps.{LifeDoes}
use Rattle.zq_session.specs.LifeView.{IsWritable}
use Rattle.zq_session.specs.Courses.{HasStory, CourseStep, AtLinkBy}
use Rattle.zq_session.specs.Cuts.{WritesCut}
use Rattle.zq_session.specs.Ending.{Asks, DialsLater}
use Rattle.zq_session.specs.Halves.{StepsRun, step_in}
use Rattle.zq_session.specs.LastActs.{WasRefused, AreQuiet, PutsLastBy, end_by_put}
use Rattle.zq_session.specs.Moved.{MovesAt, writing_moved}
use Rattle.zq_session.specs.Noting.{IsHeldOf, SaysAt}
use Rattle.zq_session.specs.TopicSteps.{over_link}
use Rattle.zq_session.proofs.NotingLemmas.{Still, still_none, still_on, notes_still, says_at, topics_waits}
use Rattle.zq_session.proofs.HalfLemmas.{no_steps, steps_on}
use Rattle.zq_session.proofs.UnlinkedLemmas.{same_by}
use Rattle.zq_session.proofs.UnputLemmas.{does_these, does_puts, does_as, run_of, refused_of, unrefused_of}
use Rattle.zq_session.proofs.CourseLemmas.{acted, after_acts, by_link, link_some, link_waits, dials_on, once_as, met_is, basis_is}
use Rattle.zq_session.proofs.StepLemmas.{course_step, course_on, course_same}
use Rattle.zq_session.proofs.LinkedLemmas.{adding_acts, adding_on, adding_due, adding_close, at_side, course_acts, course_closes, closed_story, close_events, closing_by, at_link_by}
use Rattle.zq_session.proofs.WorkLemmas.{WroteBy, UnnotedBy, moved_behind, moved_marks, met_moved}
use Rattle.zq_session.proofs.TallyLemmas.{tally_still}
use Rattle.zq_session.proofs.CountingLemmas.{tally_writes}
use Rattle.spec_link.proofs.TopicLemmas.{silent_on, silent_none}
use Rattle.spec_link.proofs.OneByOneLemmas.{silent_last}
use Rattle.zq_session.specs.Tallies.{TalliesNext, with_takes}
use Rattle.zq_session.specs.Counting.{TallyEnds}
use Rattle.zq_session.specs.declared.tally.Tally.{Tally}
use Rattle.zq_base.specs.Message.{Frames}

-- ---- what was heard is refused, or isn't

pub was_refused : (b : Basis) (acts : List LinkAct) (k : Kept) → IsKeptOf b.opts acts k → WasRefused k → IsRefused b acts
was_refused b acts k run w = (let r = refused_of b.opts acts k run w.0 w.1 in (why.Refused r.0.cause, (r.2.0, r.2.1, r.0, r.2.2, refl)))

pub not_refused : (b : Basis) (acts : List LinkAct) (k : Kept) → IsKeptOf b.opts acts k → IsUnrefused k → IsRefused b acts → ⊥
not_refused b acts k run un r = unrefused_of b.opts acts k run un r.1.0 r.1.1 r.1.2 r.1.3

-- ---- the puts of what is held

-- puts that are due are of no PUSH
pub puts_kept : (puts : Bool) (acts : List LinkAct) (k0 k1 : Kept) (opts : EngineOpts) → Acts k0 acts k1 → (puts ≡ true → opts.kind ≡ Push → ⊥) → (puts ≡ false → acts ≡ []) → KeepsActs opts k0 acts k1
puts_kept true acts k0 k1 opts run sure none = does_puts opts k0 k1 acts (sure refl) run
puts_kept false acts k0 k1 opts run sure none =
    subst (λ (l : List LinkAct). KeepsActs opts k0 l k1) (sym (none refl)) (does_these opts k0 k1 [] refl (subst (λ (l : List LinkAct). Acts k0 l k1) (none refl) run))

pub puts_at : {S O I N : Type 0} (K : Known S O I N) (b : Basis) (st : Standing) (acts : List LinkAct) (k0 k1 : Kept) (puts : Bool) (s s' : S) (o o' : Option O) → (w : PutsLastBy K puts b.end k0 k1 s o s' o') → IsKeptOf b.opts acts k0
    → (puts ≡ true → (b.opts.kind ≡ Push → ⊥) × CanWrite st) → (puts ≡ false → (b.opts.kind ≡ Push → ⊥) → CanWrite st → ⊥) → PutsLast b st acts w.acts
puts_at K b st acts k0 k1 true s s' o o' w run sure never = inl (((sure refl).1, (sure refl).0), w.all refl b.opts acts (run_of b.opts acts k0 (sure refl).0 run))
puts_at K b st acts k0 k1 false s s' o o' w run sure never = inr ((λ c. never refl c.1 c.0), w.none refl)

pub quiet_still : (acts : List LinkAct) → AreQuiet acts → Still acts
quiet_still acts q = record { takes = q.takes; repeats = q.repeats }

pub some_none : {A X : Type 0} (o : Option A) (x : A) → o ≡ None → o ≡ Some x → X
some_none o x e d = absurd cc

-- nothing was heard
pub heard_none : (heard heard' : Option (List ℕ)) (acts : List LinkAct) → heard_of acts ≡ [] → heard' ≡ heard → Adds heard (heard_of acts) heard'
heard_none heard heard' acts e eh = subst (λ (x : Option (List ℕ)). Adds heard (heard_of acts) x) (sym eh) (subst (λ (l : List ℕ). Adds heard l heard) (sym e) (adds_none heard))

says_some : (dials : Bool) (opts : EngineOpts) (closed : List ClosedLink) (acts : List LinkAct) (t : Option Topics) → IsSome t → SaysAt dials opts closed acts t → (dials && subscribes opts.kind) ≡ true
says_some dials opts closed acts None some k = absurd cc
says_some dials opts closed acts (Some t) some k = k.0

module _ {S O I N : Type 0} (K : Known S O I N) where
  -- ---- what was heard is refused: nothing

  pub write_refused : (now : ℕ) (old : Course) (sd : Side) (moved : Bool) (said heard : Option (List ℕ)) (shown : List LinkAct → Type 0) (s : S) (i : Option I) (o : Option O) → shown [] → old.side ≡ Some sd → IsFree sd.behind → WasRefused sd.kept → moved ≡ false
      → (p : Story) → HasStory old p → AtLinkBy K (MovesAt moved (λ b. WritesAtLink b now)) old (record old { side = Some sd }) said said heard heard shown s i o s i o p
  write_refused now old sd moved said heard shown s i o shows es fr refused em p keeps =
      let link = link_some p.opts p.link old.side sd es fr keeps.link in
      subst (λ (x : Option Side). AtLinkBy K (MovesAt moved (λ b. WritesAtLink b now)) old (record old { side = x }) said said heard heard shown s i o s i o p) es
      (at_link_by K (MovesAt moved (λ b. WritesAtLink b now)) old old said said heard heard shown s s i i o o p link.0 [] [] link.1 (inl (was_refused (basis_of old.life p) link.0 sd.kept link.2 refused, refl), em)
      (course_same old old p refl refl keeps) (adding_acts []) (no_steps K s i o) (adds_none said) (adds_none heard) shows)

  -- ---- the link stands behind it

  pub write_stands : (now : ℕ) (old : Course) (l1 : Life) (sd sd1 : Side) (t' : Option Topics) (u : Tally) (done : Written) (met moved : Bool) (said said' heard heard' : Option (List ℕ)) (shown : List LinkAct → Type 0) (s s' : S) (i i' : Option I) (o : Option O)
      → old.side ≡ Some sd → IsFree sd.behind → IsFree sd1.behind → IsAtRest sd.kept → IsUnrefused sd.kept → (met ≡ true → done.look ≡ Some fetched.Delimiter) → (met ≡ false → done.look ≡ Some fetched.Delimiter → ⊥) → heard' ≡ heard
      → WroteBy K old.life old.topics t' old.tally u sd.kept done sd1.kept said said' shown s i o s' i' → LifeDoes old.life l1 (λ b st. DueOnce st (met ≡ true) (Delimiter b.end)) → end_by_put done.put ≡ None → moved ≡ writing_moved done
      → (p : Story) → HasStory old p → AtLinkBy K (MovesAt moved (λ b. WritesAtLink b now)) old (at_side old l1 old.peer sd1 t' u) said said' heard heard' shown s i o s' i' o p
  write_stands now old l1 sd sd1 t' u done met moved said said' heard heard' shown s s' i i' o es fr fr1 rest un sure never eh w marks stands em p keeps =
      let link = link_some p.opts p.link old.side sd es fr keeps.link in
      let acts = link.0 in
      let new = at_side old l1 old.peer sd1 t' u in
      let does = MovesAt moved (λ b. WritesAtLink b now) in
      by_link (λ q. HasStory old q → AtLinkBy K does old new said said' heard heard' shown s i o s' i' o q) p acts link.1 (λ k.
      let q = record p { link = Some acts } in
      let b = basis_of old.life q in
      let st = standing_of old.life q in
      let m1 = at_side old old.life old.peer sd1 t' u in
      let delim = Step (DelimiterLook (read_through old.life.end)) in
      let part = w.part q acts (says_at old.life.dials p.opts acts p.closed _ old.topics k.topics) link.2 in
      let ey = tally_writes old.life q acts w.writes old.tally (length (taken_of w.writes)) u sd.kept link.2 rest part refl w.takes k.tally in
      let x1 = course_acts old m1 sd sd1 p acts w.writes es refl refl refl refl fr fr1 w.notes (w.run p.opts acts link.2) ey k in
      let q1 = record p { link = Some (acts ++ w.writes) } in
      let d = marks q1 x1.keeps.due in
      let met_in : met ≡ true → Contains w.writes delim = λ e. w.met (sure e) in
      let x2 = course_step m1 new q1 d.0 refl refl refl refl refl d.1 x1.keeps in
      let wrote : WritesToLink b st acts now (acted w.writes ++ d.0) = record {
        writes = w.writes;
        delimiter = d.0;
        closes = [];
        all = ap (λ (l : List SessionEvent). acted w.writes ++ l) (sym (append-nil d.0));
        write = part;
        delimiter_is = once_as st (met ≡ true) (Contains w.writes delim) (Delimiter old.life.end) d.0 met_in (λ c. met_is met (Contains w.writes delim) (λ e. w.unmet (never e)) c) d.2;
        closing = inr ((λ ends. some_none (end_by_put done.put) ends.0 stands (w.ends ends.0 ends.1)), refl);
      } in
      at_link_by K does old new said said' heard heard' shown s s' i i' o o q acts (w.writes ++ []) (acted w.writes ++ d.0) refl
      (inr (not_refused b acts sd.kept link.2 un, wrote), em ∙ sym (moved_marks w.writes (standing_of old.life q1) (met ≡ true) (Delimiter old.life.end) d.0 d.2 (λ e. w.moved ∙ met_moved done (sure e)) ∙ w.moved))
      (course_on old m1 new q (acted w.writes) d.0 x1 x2) (adding_on (acted w.writes) d.0 w.writes [] (adding_acts w.writes) (adding_due (standing_of old.life q1) (met ≡ true) (Delimiter old.life.end) d.0 d.2))
      (subst (λ (l : List LinkAct). StepsRun K (flat_map step_in l) s i o s' i' o) (sym (append-nil w.writes)) w.steps)
      (subst (λ (l : List LinkAct). Adds said (said_of l) said') (sym (append-nil w.writes)) w.said_is)
      (heard_none heard heard' (w.writes ++ []) (ap (λ (l : List LinkAct). heard_of l) (append-nil w.writes) ∙ w.hears) eh) (subst (λ (l : List LinkAct). shown l) (sym (append-nil w.writes)) w.shown_is)) keeps

  -- ---- the write ended it

  pub write_over : (now : ℕ) (old new : Course) (l1 : Life) (sd sd1 sd2 : Side) (t' : Option Topics) (u : Tally) (done : Written) (cause : LinkEnd) (met puts moved : Bool) (said said' heard heard' : Option (List ℕ)) (shown : List LinkAct → Type 0) (s s1 s' : S) (i i' : Option I) (o o' : Option O)
      → old.side ≡ Some sd → IsFree sd.behind → IsFree sd1.behind → IsFree sd2.behind → IsAtRest sd.kept → IsUnrefused sd.kept → (met ≡ true → done.look ≡ Some fetched.Delimiter) → (met ≡ false → done.look ≡ Some fetched.Delimiter → ⊥) → heard' ≡ heard
      → WroteBy K old.life old.topics t' old.tally u sd.kept done sd1.kept said said' shown s i o s1 i' → ((xs ys : List LinkAct) → shown xs → AreQuiet ys → shown (xs ++ ys))
      → LifeDoes old.life l1 (λ b st. DueOnce st (met ≡ true) (Delimiter b.end)) → end_by_put done.put ≡ Some cause
      → ((pipe : PipeId) → PutsLastBy K puts pipe sd1.kept sd2.kept s1 o s' o') → (puts ≡ true → (l1.kind ≡ Push → ⊥) × IsWritable l1.state) → (puts ≡ false → (l1.kind ≡ Push → ⊥) → IsWritable l1.state → ⊥)
      → new.side ≡ None → new.topics ≡ over_link t' → new.peer ≡ old.peer → Asks l1 new.life → DialsLater now (at_side old l1 old.peer sd2 t' u) new → TallyEnds l1 sd2.kept cause u new.tally → moved ≡ true
      → (p : Story) → HasStory old p → AtLinkBy K (MovesAt moved (λ b. WritesAtLink b now)) old new said said' heard heard' shown s i o s' i' o' p
  write_over now old new l1 sd sd1 sd2 t' u done cause met puts moved said said' heard heard' shown s s1 s' i i' o o' es fr fr1 fr2 rest un sure never eh w shows marks ends lasts py pn en et ep asks dials counts em p keeps =
      let link = link_some p.opts p.link old.side sd es fr keeps.link in
      let acts = link.0 in
      let does = MovesAt moved (λ b. WritesAtLink b now) in
      by_link (λ q. HasStory old q → AtLinkBy K does old new said said' heard heard' shown s i o s' i' o' q) p acts link.1 (λ k.
      let q = record p { link = Some acts } in
      let b = basis_of old.life q in
      let st = standing_of old.life q in
      let m1 = at_side old old.life old.peer sd1 t' u in
      let m2 = at_side old l1 old.peer sd1 t' u in
      let m3 = at_side old l1 old.peer sd2 t' u in
      let delim = Step (DelimiterLook (read_through old.life.end)) in
      let run1 = w.run p.opts acts link.2 in
      let part = w.part q acts (says_at old.life.dials p.opts acts p.closed _ old.topics k.topics) link.2 in
      let ey = tally_writes old.life q acts w.writes old.tally (length (taken_of w.writes)) u sd.kept link.2 rest part refl w.takes k.tally in
      let x1 = course_acts old m1 sd sd1 p acts w.writes es refl refl refl refl fr fr1 w.notes run1 ey k in
      let acts1 = acts ++ w.writes in
      let q1 = record p { link = Some acts1 } in
      let d = marks q1 x1.keeps.due in
      let met_in : met ≡ true → Contains w.writes delim = λ e. w.met (sure e) in
      let x2 = course_step m1 m2 q1 d.0 refl refl refl refl refl d.1 x1.keeps in
      let p2 = record p { dues = d.1.dues } in
      let q2 = record p2 { link = Some acts1 } in
      let x12 = course_on old m1 m2 q (acted w.writes) d.0 x1 x2 in
      let kind : p.opts.kind ≡ l1.kind = k.kind_is ∙ sym d.1.same.kind_is in
      let lb = lasts l1.end in
      let last = lb.acts ++ [] in
      let none = append-nil lb.acts in
      let still = still_on lb.acts [] (quiet_still lb.acts lb.quiet) still_none in
      let run2 = puts_kept puts lb.acts sd1.kept sd2.kept p.opts lb.run (λ e push. (py e).0 (sym kind ∙ push)) lb.none in
      let run3 = does_as p.opts sd1.kept sd2.kept lb.acts last (sym none) run2 acts1 run1 in
      let lasts_are = puts_at K (basis_of l1 q2) (standing_of l1 q2) acts1 sd1.kept sd2.kept puts s1 s' o o' lb run1 (λ e. ((λ push. (py e).0 (sym kind ∙ push)), (py e).1)) (λ e keeps. pn e (λ push. keeps (kind ∙ push))) in
      let silent = silent_on lb.acts [] (silent_last (basis_of l1 q2) (standing_of l1 q2) acts1 lb.acts lasts_are) silent_none in
      let ey3 = tally_still l1.dials p.opts p.closed u u acts1 last silent x2.keeps.tally in
      let x3 = course_acts m2 m3 sd1 sd2 p2 acts1 last refl refl refl refl refl fr1 fr2 (sym (notes_still last t' still)) run3 ey3 x2.keeps in
      let a = asks (closed_story now q2 (acts1 ++ last) cause) x3.keeps.due in
      let x4 = course_closes now m3 new sd2 p2 (acts1 ++ last) cause refl en fr2 ep et dials (counts l1.dials p.opts (acts1 ++ last) p.closed kind run3 x3.keeps.tally) a x3.keeps in
      let closes = close_events now cause (acted last) a.asks a.over in
      let x34 = course_on m2 m3 new q2 (acted last) (Closed now cause ∷ (a.asks ++ a.over)) x3 x4 in
      let x234 = course_on m1 m2 new q1 d.0 closes x2 x34 in
      let step = course_on old m1 new q (acted w.writes) (d.0 ++ closes) x1 x234 in
      let basis = basis_is old.life l1 q q2 d.1.same refl refl in
      let b2 = basis_of l1 q2 in
      let closing : ClosesLink b2 (standing_of l1 q2) (Unit {0}) (Unit {0}) acts1 cause now closes =
      closing_by now l1 new.life q2 acts1 lb.acts [] cause (Unit {0}) (Unit {0}) a
      (inl (tt, lasts_are)) (inl tt) (λ _. refl) in
      let wrote : WritesToLink b st acts now (acted w.writes ++ (d.0 ++ closes)) = record {
        writes = w.writes;
        delimiter = d.0;
        closes = closes;
        all = refl;
        write = part;
        delimiter_is = once_as st (met ≡ true) (Contains w.writes delim) (Delimiter old.life.end) d.0 met_in (λ c. met_is met (Contains w.writes delim) (λ e. w.unmet (never e)) c) d.2;
        closing = inl (
          cause,
          w.over cause ends,
          subst (λ (x : Standing). ClosesLink b x (Unit {0}) (Unit {0}) acts1 cause now closes) (sym x12.after_is) (subst (λ (x : Basis). ClosesLink x (standing_of l1 q2) (Unit {0}) (Unit {0}) acts1 cause now closes) basis closing),
        );
      } in
      let adds = adding_on (acted w.writes) (d.0 ++ closes) w.writes ([] ++ (last ++ [])) (adding_acts w.writes)
      (adding_on d.0 closes [] (last ++ []) (adding_due (standing_of old.life q1) (met ≡ true) (Delimiter old.life.end) d.0 d.2) (adding_close now cause last l1 new.life (closed_story now q2 (acts1 ++ last) cause) a)) in
      let all : w.writes ++ (last ++ []) ≡ w.writes ++ lb.acts = ap (λ (l : List LinkAct). w.writes ++ l) (append-nil last ∙ none) in
      at_link_by K does old new said said' heard heard' shown s s' i i' o o' q acts (w.writes ++ (last ++ [])) (acted w.writes ++ (d.0 ++ closes)) refl
      (inr (not_refused b acts sd.kept link.2 un, wrote), em ∙ sym (moved_behind (acted w.writes) (d.0 ++ closes) (moved_behind d.0 closes (moved_behind (acted last) (Closed now cause ∷ (a.asks ++ a.over)) refl))))
      step adds
      (subst (λ (l : List LinkAct). StepsRun K (flat_map step_in l) s i o s' i' o') (sym all)
      (subst (λ (l : List PipeStep). StepsRun K l s i o s' i' o') (sym (flat_map-append step_in w.writes lb.acts)) (steps_on K (flat_map step_in w.writes) (flat_map step_in lb.acts) s s1 s' i i' i' o o o' w.steps (lb.steps i'))))
      (subst (λ (l : List LinkAct). Adds said (said_of l) said') (sym all) (subst (λ (l : List ℕ). Adds said l said') (sym (flat_map-append said_by w.writes lb.acts ∙ ap (λ (l : List ℕ). said_of w.writes ++ l) lb.quiet.says ∙ append-nil (said_of w.writes))) w.said_is))
      (heard_none heard heard' (w.writes ++ (last ++ [])) (ap (λ (l : List LinkAct). heard_of l) all ∙ flat_map-append heard_by w.writes lb.acts ∙ ap (λ (l : List ℕ). l ++ heard_of lb.acts) w.hears ∙ lb.quiet.hears) eh)
      (subst (λ (l : List LinkAct). shown l) (sym all) (shows w.writes lb.acts w.shown_is lb.quiet))) keeps

  -- ---- memory cut it short: the message that was taken couldn't be noted

  pub write_cut : (old : Course) (sd sd' : Side) (t' : Option Topics) (u : Tally) (said said' heard heard' : Option (List ℕ)) (shown : List LinkAct → Type 0) (s s' : S) (i i' : Option I) (o : Option O)
      → old.side ≡ Some sd → IsFree sd.behind → IsAtRest sd.kept → TalliesNext (with_takes 1) old.tally u → IsUnrefused sd.kept → heard' ≡ heard → UnnotedBy K old.life old.topics t' sd.kept sd' said said' shown s i o s' i'
      → (p : Story) → HasStory old p → AtLinkBy K WritesCut old (at_side old old.life old.peer sd' t' u) said said' heard heard' shown s i o s' i' o p
  write_cut old sd sd' t' u said said' heard heard' shown s s' i i' o es fr rest next un eh ub p keeps =
      let link = link_some p.opts p.link old.side sd es fr keeps.link in
      let acts = link.0 in
      let new = at_side old old.life old.peer sd' t' u in
      by_link (λ q. HasStory old q → AtLinkBy K WritesCut old new said said' heard heard' shown s i o s' i' o q) p acts link.1 (λ k.
      let q = record p { link = Some acts } in
      let pipe = read_through old.life.end in
      let writes = ub.before ++ Step (Take pipe ub.message) ∷ [] in
      let b = basis_of old.life q in
      let r = record p { link = Some (acts ++ writes) } in
      let same = same_by old.life old.life refl in
      let says = says_at old.life.dials p.opts acts p.closed _ old.topics k.topics in
      let step : CourseStep old new q (acted writes) = record {
        story = r;
        after_is = after_acts b (standing_of old.life q) acts writes;
        same = same;
        opts_is = refl;
        interval_is = refl;
        handed_is = refl;
        grows = λ x c. c;
        peer_is = inl (refl, refl);
        keeps = record {
          due = k.due;
          link = link_waits p.opts (Some (acts ++ writes)) (Some sd') sd' (acts ++ writes) refl refl
              (subst (λ (w : Behind). IsHeldOf p.opts (acts ++ writes) w sd'.kept) (sym ub.left)
              (acts ++ ub.before, pipe, [], sym (append_assoc acts ub.before (Step (Take pipe ub.message) ∷ [])), tt, ub.run p.opts acts link.2));
          dial = dials_on old.life old.life q r old.dialler old.dialler same refl refl refl refl k.dial;
          kind_is = k.kind_is;
          topics = topics_waits old.life.dials old.life.dials p.opts acts writes p.closed old.side (Some sd') sd sd' ub.message old.topics t' es refl refl fr ub.left ub.same ub.takes ub.repeats k.topics;
          tally = tally_writes old.life q acts writes old.tally 1 u sd.kept link.2 rest (ub.part q acts says link.2) (ap (λ (l : List Frames). length l) ub.takes) next k.tally;
        };
      } in
      at_link_by K WritesCut old new said said' heard heard' shown s s' i i' o o q acts writes (acted writes) refl
      (says_some old.life.dials p.opts p.closed acts old.topics ub.some says, (not_refused b acts sd.kept link.2 un, (writes, ub.part q acts says link.2, refl)))
      step (adding_acts writes) ub.steps ub.said_is (heard_none heard heard' writes ub.hears eh) ub.shown_is) keeps
