-- What the reading part does at a link where memory cuts it short.
use Rattle.std.proofs.Common.{◌≡◌, ℕ, Bool, true, false, List, [], Option, Some, None, refl, sym, ap, subst, ◌∙◌, inl, inr, ◌++◌}
use Rattle.std.specs.Prelude.{◌⊎◌}
use Rattle.zq_base.specs.declared.options.EngineOpts.{EngineOpts}
use Rattle.msg_pipe.specs.Known.{Known}
use Rattle.spec_pattern.specs.PipeStep.{PipeStep}
use Rattle.spec_link.specs.LinkAct.{LinkAct}
use Rattle.spec_link.specs.Turn.{IsRefused}
use Rattle.link_side.specs.Kept.{Kept, Side, IsKeptOf}
use Rattle.link_side.specs.Calls.{Adds}
use Rattle.link_side.specs.Says.{IsFree}
use Rattle.link_side.specs.Silent.{IsUnrefused}
use Rattle.zq_session.specs.declared.life.Life.{Life}
use Rattle.zq_session.specs.declared.course.Course.{Course}
use Rattle.zq_session.specs.Lives.{Story, basis_of, standing_of}
use Rattle.zq_session.specs.Courses.{HasStory, AtLinkBy}
use Rattle.zq_session.specs.Halves.{StepsRun}
use Rattle.zq_session.specs.LastActs.{WasRefused}
use Rattle.zq_session.proofs.NotingLemmas.{notes_still}
use Rattle.zq_session.proofs.CourseLemmas.{acted, by_link, link_some}
use Rattle.zq_session.proofs.LinkedLemmas.{adding_acts, at_side, course_acts, at_link_by}
use Rattle.zq_outer.specs.declared.link.LinkGot.{LinkGot}
use Rattle.spec_link.specs.Turn.{ReadsAt}
use Rattle.link_side.specs.declared.read_part.Heard.{Heard}
use Rattle.zq_session.specs.declared.life.ReadMode.{ReadMode}
use Rattle.zq_session.specs.declared.life.ReadMode.TheVariants as mode
use Rattle.zq_session.specs.Reading.{IsReading}
use Rattle.zq_session.proofs.WorkLemmas.{ReadBy}
use Rattle.zq_session.proofs.WriteLemmas.{was_refused, not_refused}
use Rattle.zq_session.specs.Cuts.{ReadsAlone, ReadsCut}
use Rattle.zq_session.specs.Doing.{WantsAtBy, ReadsOnce}
use Rattle.spec_link.specs.Parts.{read_acts}
use Rattle.zq_session.proofs.ActLemmas.{read_says, read_hears, read_steps}
use Rattle.zq_session.proofs.NotingLemmas.{read_still}
use Rattle.zq_session.proofs.ReadLemmas.{how_for, reads_are, said_none}
use Rattle.zq_base.specs.declared.kind.Kind.{Kind}
use Rattle.zq_session.proofs.TallyLemmas.{tally_as, tally_still}
use Rattle.zq_session.proofs.CountingLemmas.{tally_reads}
use Rattle.spec_link.proofs.TopicLemmas.{silent_reads}

-- no read where it reads nothing
no_read : (how : ReadMode) (opts : EngineOpts) (acts : List LinkAct) (answer : Option LinkGot) (octets : List ℕ) → how ≡ mode.Nothing → ReadsOnce how opts acts answer → read_acts answer octets ≡ []
no_read how opts acts answer octets e once =
    let none : answer ≡ None = subst (λ (m : ReadMode). ReadsOnce m opts acts answer) e once in
    ap (λ (a : Option LinkGot). read_acts a octets) none

alone_or_none : (refused : Bool) (how : ReadMode) (l : Life) (p : Story) (acts : List LinkAct) (k0 k1 : Kept) (heard heard' : Option (List ℕ)) (shown : Option LinkGot → Type 0) → (w : WantsAtBy how k0 k1 heard heard' shown)
    → (refused ≡ true → how ≡ mode.Nothing) → (refused ≡ false → IsReading l.kind l.state l.told how) → p.opts.kind ≡ l.kind → IsKeptOf p.opts acts k0 → (refused ≡ true → WasRefused k0) → (refused ≡ false → IsUnrefused k0)
    → (ReadsAlone (basis_of l p) (standing_of l p) acts (read_acts w.answer w.octets)
    ⊎ ((IsRefused (basis_of l p) acts × (read_acts w.answer w.octets ≡ [])) ⊎ ((IsRefused (basis_of l p) acts → ⊥) × ReadsAt (basis_of l p) (standing_of l p) acts (read_acts w.answer w.octets))))
alone_or_none true how l p acts k0 k1 heard heard' shown w hy hn kind run ry rn =
    inr (inl (was_refused (basis_of l p) acts k0 run (ry refl), no_read how p.opts acts w.answer w.octets (hy refl) (w.part p.opts acts (how_for true how p.opts l hy hn kind) run)))
alone_or_none false how l p acts k0 k1 heard heard' shown w hy hn kind run ry rn = inl (record {
  unrefused = not_refused (basis_of l p) acts k0 run (rn refl);
  answer = w.answer;
  octets = w.octets;
  fits = w.fits;
  read = refl;
  how = how;
  reading = subst (λ (k : Kind). IsReading k l.state l.told how) (sym kind) (hn refl);
  once = w.part p.opts acts (how_for false how p.opts l hy hn kind) run;
})

module _ {S O I N : Type 0} (K : Known S O I N) where
  -- the octets that it read couldn't be heard
  pub read_cut : (old : Course) (sd sd1 : Side) (how : ReadMode) (refused : Bool) (said said' heard heard' : Option (List ℕ)) (tried : Option LinkGot → Type 0) (shown : List LinkAct → Type 0) (s s' : S) (o o' : Option O) → ((a : Option LinkGot) (x : List ℕ) → tried a → shown (read_acts a x))
      → old.side ≡ Some sd → IsFree sd.behind → IsFree sd1.behind → (refused ≡ true → WasRefused sd.kept) → (refused ≡ false → IsUnrefused sd.kept) → (refused ≡ true → how ≡ mode.Nothing) → (refused ≡ false → IsReading old.life.kind old.life.state old.life.told how) → said' ≡ said
      → s' ≡ s → o' ≡ o → WantsAtBy how sd.kept sd1.kept heard heard' tried
      → (p : Story) (i : Option I) → HasStory old p → AtLinkBy K ReadsCut old (at_side old old.life old.peer sd1 old.topics old.tally) said said' heard heard' shown s i o s' i o' p
  read_cut old sd sd1 how refused said said' heard heard' tried shown s s' o o' shows es fr fr1 ry rn hy hn eh same_pipes same_out w p i keeps =
      let link = link_some p.opts p.link old.side sd es fr keeps.link in
      let acts = link.0 in
      let new = at_side old old.life old.peer sd1 old.topics old.tally in
      by_link (λ q. HasStory old q → AtLinkBy K ReadsCut old new said said' heard heard' shown s i o s' i o' q) p acts link.1 (λ k.
      let q = record p { link = Some acts } in
      let reads = read_acts w.answer w.octets in
      let fits = how_for refused how p.opts old.life hy hn k.kind_is in
      at_link_by K ReadsCut old new said said' heard heard' shown s s' i i o o' q acts reads (acted reads) refl
      (reads, refl, alone_or_none refused how old.life q acts sd.kept sd1.kept heard heard' tried w hy hn k.kind_is link.2 ry rn)
      (course_acts old new sd sd1 p acts reads es refl refl refl refl fr fr1 (sym (notes_still reads old.topics (read_still w.answer w.octets))) (w.run p.opts fits acts link.2) (tally_still old.life.dials p.opts p.closed old.tally old.tally acts reads (silent_reads w.answer w.octets) k.tally) k) (adding_acts reads)
      (subst (λ (l : List PipeStep). StepsRun K l s i o s' i o') (sym (read_steps w.answer w.octets)) (same_pipes, (refl, same_out)))
      (said_none said said' reads (read_says w.answer w.octets) eh)
      (subst (λ (l : List ℕ). Adds heard l heard') (sym (read_hears w.answer w.octets w.fits)) w.told) (shows w.answer w.octets w.counts)) keeps

  -- the handshake couldn't be said to be done
  pub read_untold : (old new : Course) (sd sd1 : Side) (done : Heard) (how : ReadMode) (refused : Bool) (said said' heard heard' : Option (List ℕ)) (shown : List LinkAct → Type 0) (s s' : S) (o o' : Option O)
      → old.side ≡ Some sd → IsFree sd.behind → IsFree sd1.behind → (refused ≡ true → WasRefused sd.kept) → (refused ≡ false → IsUnrefused sd.kept) → (refused ≡ true → how ≡ mode.Nothing) → (refused ≡ false → IsReading old.life.kind old.life.state old.life.told how) → said' ≡ said
      → ReadBy K how old.life.end sd.kept done sd1.kept heard heard' shown s o s' o' → new.side ≡ Some sd1 → new.dialler ≡ old.dialler → new.life ≡ old.life → new.peer ≡ old.peer → new.topics ≡ old.topics → new.tally ≡ old.tally
      → (p : Story) (i : Option I) → HasStory old p → AtLinkBy K ReadsCut old new said said' heard heard' shown s i o s' i o' p
  read_untold old new sd sd1 done how refused said said' heard heard' shown s s' o o' es fr fr1 ry rn hy hn eh w en ed el ep et ey p i keeps =
      let link = link_some p.opts p.link old.side sd es fr keeps.link in
      let acts = link.0 in
      by_link (λ q. HasStory old q → AtLinkBy K ReadsCut old new said said' heard heard' shown s i o s' i o' q) p acts link.1 (λ k.
      let q = record p { link = Some acts } in
      let fits = how_for refused how p.opts old.life hy hn k.kind_is in
      let reads = reads_are refused how old.life q acts w.reads sd.kept hy hn k.kind_is link.2 ry rn (w.part p.opts acts fits link.2) in
      at_link_by K ReadsCut old new said said' heard heard' shown s s' i i o o' q acts w.reads (acted w.reads) refl
      (w.reads, refl, inr reads)
      (course_acts old new sd sd1 p acts w.reads es en ed el ep fr fr1 (et ∙ sym (notes_still w.reads old.topics w.still)) (w.run p.opts fits acts link.2) (tally_as old.life.dials old.life.dials p.opts (Some (acts ++ w.reads)) p.closed old.tally new.tally refl ey (tally_reads old.life q acts w.reads old.tally reads k.tally)) k) (adding_acts w.reads)
      (w.steps i) (said_none said said' w.reads w.says eh) w.heard_is w.shown_is) keeps
