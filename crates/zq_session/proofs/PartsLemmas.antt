-- A session's turn, from its parts.
use Rattle.std.proofs.Common.{◌≡◌, ℕ, Bool, true, false, List, [], ◌++◌, Option, Some, None, refl, sym, ap, subst, ◌∙◌, inl, inr, append_assoc}
use Rattle.std.specs.Prelude.{◌⊎◌, ◌||◌, IfSome, is_some}
use Rattle.std.specs.List.{flat_map}
use Rattle.std.proofs.lemmas.List.{append-nil}
use Rattle.std.proofs.lemmas.List.Sums.{fold-append}
use Rattle.std.proofs.lemmas.List.Concat.{flat_map-append}
use Rattle.zq_outer.specs.Host.{IsNew}
use Rattle.msg_pipe.specs.Known.{Known}
use Rattle.spec_pattern.specs.PipeStep.{PipeStep}
use Rattle.spec_link.specs.LinkAct.{LinkAct, said_by, heard_by, said_of, heard_of}
use Rattle.spec_link.specs.History.{Basis, SessionEvent, Standing, standing, unborn, after, after_all}
use Rattle.spec_link.specs.Moving.{has_moved}
use Rattle.spec_link.specs.TurnParts.{DialsAt, TurnsAt, LinkReadsAt, IsDialPart, IsLinkWrite, IsLinkRead, IsTurn, WritesAndReads}
use Rattle.link_side.specs.Calls.{Adds}
use Rattle.zq_session.specs.declared.course.Course.{Course}
use Rattle.zq_session.specs.declared.turned.Turned.{Turned}
use Rattle.zq_session.specs.declared.turned.Turned.TheVariants.{Idle}
use Rattle.zq_session.specs.Lives.{Story, basis_of, standing_of}
use Rattle.zq_session.specs.Courses.{HasStory, IsAtEase, act_at}
use Rattle.zq_session.specs.Halves.{StepsRun, step_at}
use Rattle.zq_session.specs.Unlinked.{HalvesDo, IsCutDial}
use Rattle.zq_session.specs.Moved.{MovesBy, Turns, turned_by, is_one_of}
use Rattle.zq_session.specs.Turns.{TellsBy, IsToldBy, DoesBy}
use Rattle.zq_session.specs.Cuts.{ReadsCut, ReadsCutBehind, IsCutDialAt, IsCutDialPart, IsCutWrite, IsCutReadAt, IsCutRead, IsCutTurnAt, IsCutTurn}
use Rattle.zq_session.specs.Sessions.{SessionState, HasLived, Did, has_link}
use Rattle.zq_session.proofs.HalfLemmas.{steps_on, no_steps}
use Rattle.zq_session.proofs.ShownLemmas.{shown_on}
use Rattle.zq_session.proofs.CourseLemmas.{adds_on, link_held}
use Rattle.zq_session.proofs.UnlinkedLemmas.{link_gone}
use Rattle.zq_session.proofs.MovedLemmas.{moved_on}
use Rattle.zq_session.proofs.TurnLemmas.{side_is, none_is, told_same}

-- ---- how it stands, by whether it has a link

lived_none : {O I : Type 0} (b : Basis) (history : List SessionEvent) (v : SessionState O I) → HasLived b history v → has_link v ≡ false → (standing b history).link ≡ None
lived_none b history v lived e =
    let p = lived.0 in
    ap (λ (x : Standing). x.link) lived.2 ∙ link_gone p.opts p.link v.course.side (none_is v.course.side e) lived.3.link

lived_some : {O I : Type 0} (b : Basis) (history : List SessionEvent) (v : SessionState O I) → HasLived b history v → has_link v ≡ true → (acts : List LinkAct) × ((standing b history).link ≡ Some acts)
lived_some b history v lived e =
    let p = lived.0 in
    let sd = side_is v.course.side e in
    let l = link_held p.opts p.link v.course.side sd.0 sd.1 lived.3.link in
    (l.0, ap (λ (x : Standing). x.link) lived.2 ∙ l.1)

behind_on : (b : Basis) (history events : List SessionEvent) → standing b (history ++ events) ≡ after_all b (standing b history) events
behind_on b history events = fold-append (after b) unborn history events

-- ---- the parts, by the link

turns_unlinked : (b : Basis) (s : Standing) (link : Option (List LinkAct)) (now : ℕ) (events : List SessionEvent) → link ≡ None → IsDialPart b s now events → TurnsAt b s link now events
turns_unlinked b s link now events e k = subst (λ (l : Option (List LinkAct)). TurnsAt b s l now events) (sym e) k

turns_linked : (b : Basis) (s : Standing) (link : Option (List LinkAct)) (acts : List LinkAct) (now : ℕ) (events : List SessionEvent) → link ≡ Some acts → WritesAndReads b s now events → TurnsAt b s link now events
turns_linked b s link acts now events e k = subst (λ (l : Option (List LinkAct)). TurnsAt b s l now events) (sym e) k

cuts_unlinked : (b : Basis) (s : Standing) (link : Option (List LinkAct)) (now : ℕ) (events : List SessionEvent) → link ≡ None → IsCutDialPart b s now events → IsCutTurnAt b s link now events
cuts_unlinked b s link now events e k = subst (λ (l : Option (List LinkAct)). IsCutTurnAt b s l now events) (sym e) k

cuts_linked : (b : Basis) (s : Standing) (link : Option (List LinkAct)) (acts : List LinkAct) (now : ℕ) (events : List SessionEvent) → link ≡ Some acts → IsCutWrite b s now events ⊎ ReadsCutBehind b s now events → IsCutTurnAt b s link now events
cuts_linked b s link acts now events e k = subst (λ (l : Option (List LinkAct)). IsCutTurnAt b s l now events) (sym e) k

reads_nothing : (b : Basis) (s : Standing) (link : Option (List LinkAct)) (now : ℕ) (events : List SessionEvent) → link ≡ None → LinkReadsAt b s link now events → events ≡ []
reads_nothing b s link now events e k = subst (λ (l : Option (List LinkAct)). LinkReadsAt b s l now events) e k

cuts_nothing : (behind : Type 0) (b : Basis) (s : Standing) (link : Option (List LinkAct)) (events : List SessionEvent) → link ≡ None → IsCutReadAt behind b s link events → events ≡ []
cuts_nothing behind b s link events e k = absurd (subst (λ (l : Option (List LinkAct)). IsCutReadAt behind b s l events) e k)

dials_not : (b : Basis) (s : Standing) (link : Option (List LinkAct)) (acts : List LinkAct) (now : ℕ) → link ≡ Some acts → DialsAt b s link now []
dials_not b s link acts now e = subst (λ (l : Option (List LinkAct)). DialsAt b s l now []) (sym e) refl

-- ---- what is told

one_is : (m n : Bool) → is_one_of (turned_by m) (turned_by n) ≡ turned_by (m || n)
one_is true n = refl
one_is false n = refl

one_moved : (xs ys : List SessionEvent) (first second turned : Turned) → turned ≡ is_one_of first second → first ≡ turned_by (has_moved xs) → second ≡ turned_by (has_moved ys) → turned ≡ turned_by (has_moved (xs ++ ys))
one_moved xs ys first second turned e ef es =
    e ∙ ap (λ (x : Turned). is_one_of x second) ef ∙ ap (λ (x : Turned). is_one_of (turned_by (has_moved xs)) x) es ∙ one_is (has_moved xs) (has_moved ys)
    ∙ ap (λ (m : Bool). turned_by m) (moved_on xs ys (has_moved xs) (has_moved ys) refl refl)

module _ {S O I N L : Type 0} (K : Known S O I N) (heard said : L → Option (List ℕ)) (faults stalls ends : L → ℕ) where
  tells_both : (l l1 l2 : L) (xs ys : List LinkAct) → TellsBy heard said faults stalls ends l xs l1 → TellsBy heard said faults stalls ends l1 ys l2 → TellsBy heard said faults stalls ends l (xs ++ ys) l2
  tells_both l l1 l2 xs ys x y = record {
    said_is = subst (λ (z : List ℕ). Adds (said l) z (said l2)) (sym (flat_map-append said_by xs ys)) (adds_on (said l) (said l1) (said l2) (said_of xs) (said_of ys) x.said_is y.said_is);
    heard_is = subst (λ (z : List ℕ). Adds (heard l) z (heard l2)) (sym (flat_map-append heard_by xs ys)) (adds_on (heard l) (heard l1) (heard l2) (heard_of xs) (heard_of ys) x.heard_is y.heard_is);
    shown_is = shown_on (faults l) (faults l1) (faults l2) (stalls l) (stalls l1) (stalls l2) (ends l) (ends l1) (ends l2) xs ys x.shown_is y.shown_is;
  }

  told_both : (link link1 link' : Option L) (xs ys : List LinkAct) → is_some link ≡ true → IsToldBy heard said faults stalls ends link xs link1 → IsToldBy heard said faults stalls ends link1 ys link' → (link1 ≡ None → link' ≡ None) → (link1 ≡ None → ys ≡ [])
      → IsToldBy heard said faults stalls ends link (xs ++ ys) link'
  told_both None link1 link' xs ys some x y none nothing = absurd cc
  told_both (Some l) (Some l1) (Some l2) xs ys some x y none nothing = tells_both l l1 l2 xs ys x y
  told_both (Some l) (Some l1) None xs ys some x y none nothing = (y.0, tells_both l l1 y.0 xs ys x y.1)
  told_both (Some l) None link' xs ys some x y none nothing =
      subst (λ (z : Option L). IsToldBy heard said faults stalls ends (Some l) (xs ++ ys) z) (sym (none refl))
      (subst (λ (z : List LinkAct). IsToldBy heard said faults stalls ends (Some l) (xs ++ z) None) (sym (nothing refl)) (subst (λ (z : List LinkAct). IsToldBy heard said faults stalls ends (Some l) z None) (sym (append-nil xs)) x))

  told_new : (acts : List LinkAct) (link' : Option L) → IfSome link' (λ l. IsNew (heard l) (said l)) → IsToldBy heard said faults stalls ends None acts link'
  told_new acts None k = tt
  told_new acts (Some l) k = k

  -- it is told whether it moved
  pub did_tells : (does : Basis → Standing → ℕ → List SessionEvent → Type 0) (moved : Bool) (turned : Turned) (now : ℕ) (old new : SessionState O I) (link link' : Option L) (s s' : S) → turned ≡ turned_by moved
      → ((b : Basis) (history : List SessionEvent) → HasLived b history old → Did K heard said faults stalls ends (MovesBy moved does) b history now old new link link' s s')
      → (b : Basis) (history : List SessionEvent) → HasLived b history old → Did K heard said faults stalls ends (Turns turned does) b history now old new link link' s s'
  did_tells does moved turned now old new link link' s s' e f b history lived =
      let d = f b history lived in
      record { events = d.events; did = (d.did.0, e ∙ ap (λ (m : Bool). turned_by m) d.did.1); lived = d.lived; steps = d.steps; told = d.told; there = d.there }

  -- ---- without a link

  -- what it did without one
  pub dials_by : (does : Basis → Standing → ℕ → List SessionEvent → Type 0) (now : ℕ) (old new : Course) (link link' : Option L) (s s' : S) (i i' : Option I) (o : Option O) (p : Story) → link ≡ None → IfSome link' (λ l. IsNew (heard l) (said l))
      → HalvesDo K (λ b t events. does b t now events) old new s i o s' i' p → DoesBy K heard said faults stalls ends does now old new link link' s i o s' i' o p
  dials_by does now old new link link' s s' i i' o p none fresh w =
      subst (λ (x : Option L). DoesBy K heard said faults stalls ends does now old new x link' s i o s' i' o p) (sym none)
      (record { events = w.course.events; did = w.course.does_is; step = w.course.step; steps = w.steps; told = told_new (flat_map act_at w.course.events) link' fresh })

  pub cut_dials_by : (now : ℕ) (old new : Course) (link link' : Option L) (s s' : S) (i i' : Option I) (o : Option O) (p : Story) → link ≡ None → link' ≡ None → old.side ≡ None → HasStory old p
      → HalvesDo K (IsCutDial now) old new s i o s' i' p → DoesBy K heard said faults stalls ends IsCutDialPart now old new link link' s i o s' i' o p
  cut_dials_by now old new link link' s s' i i' o p none is gone keeps w =
      let b = basis_of old.life p in
      let st = standing_of old.life p in
      let same = link_gone p.opts p.link old.side gone keeps.link in
      subst (λ (x : Option L). DoesBy K heard said faults stalls ends IsCutDialPart now old new x link' s i o s' i' o p) (sym none)
      (subst (λ (x : Option L). DoesBy K heard said faults stalls ends IsCutDialPart now old new None x s i o s' i' o p) (sym is)
      (record {
        events = w.course.events;
        did = subst (λ (l : Option (List LinkAct)). IsCutDialAt b st l now w.course.events) (sym same) w.course.does_is;
        step = w.course.step;
        steps = w.steps;
        told = tt;
      }))

  -- with one, nothing
  pub dials_nothing : (turned : Turned) (now : ℕ) (v : SessionState O I) (link : Option L) (s : S) → turned ≡ Idle → has_link v ≡ true
      → (b : Basis) (history : List SessionEvent) → HasLived b history v → Did K heard said faults stalls ends (Turns turned IsDialPart) b history now v v link link s s
  dials_nothing turned now v link s e some b history lived =
      let l = lived_some b history v lived some in
      record {
        events = [];
        did = (dials_not b (standing b history) (standing b history).link l.0 now l.1, e);
        lived = subst (λ (h : List SessionEvent). HasLived b h v) (sym (append-nil history)) lived;
        steps = no_steps K s v.input v.out;
        told = told_same K heard said faults stalls ends link;
        there = λ n t. t;
      }

  -- ---- the turn

  -- without a link it is its part without one
  pub turns_dialled : (turned : Turned) (now : ℕ) (old new : SessionState O I) (link link' : Option L) (s s' : S) → has_link old ≡ false
      → ((b : Basis) (history : List SessionEvent) → HasLived b history old → Did K heard said faults stalls ends (Turns turned IsDialPart) b history now old new link link' s s')
      → (b : Basis) (history : List SessionEvent) → HasLived b history old → Did K heard said faults stalls ends (Turns turned IsTurn) b history now old new link link' s s'
  turns_dialled turned now old new link link' s s' none f b history lived =
      let d = f b history lived in
      record {
        events = d.events;
        did = (turns_unlinked b (standing b history) (standing b history).link now d.events (lived_none b history old lived none) d.did.0, d.did.1);
        lived = d.lived;
        steps = d.steps;
        told = d.told;
        there = d.there;
      }

  pub cuts_dialled : (now : ℕ) (old new : SessionState O I) (link link' : Option L) (s s' : S) → has_link old ≡ false
      → ((b : Basis) (history : List SessionEvent) → HasLived b history old → Did K heard said faults stalls ends IsCutDialPart b history now old new link link' s s')
      → (b : Basis) (history : List SessionEvent) → HasLived b history old → Did K heard said faults stalls ends IsCutTurn b history now old new link link' s s'
  cuts_dialled now old new link link' s s' none f b history lived =
      let d = f b history lived in
      record {
        events = d.events;
        did = cuts_unlinked b (standing b history) (standing b history).link now d.events (lived_none b history old lived none) d.did;
        lived = d.lived;
        steps = d.steps;
        told = d.told;
        there = d.there;
      }

  -- with one it is its writing part and then its reading part
  pub turns_both : (turned first second : Turned) (now : ℕ) (old mid new : SessionState O I) (link link1 link' : Option L) (s s1 s' : S) → turned ≡ is_one_of first second → has_link old ≡ true → is_some link ≡ true → is_some link1 ≡ has_link mid → (link1 ≡ None → link' ≡ None)
      → ((b : Basis) (history : List SessionEvent) → HasLived b history old → Did K heard said faults stalls ends (Turns first IsLinkWrite) b history now old mid link link1 s s1)
      → ((b : Basis) (history : List SessionEvent) → HasLived b history mid → Did K heard said faults stalls ends (Turns second IsLinkRead) b history now mid new link1 link' s1 s')
      → (b : Basis) (history : List SessionEvent) → HasLived b history old → Did K heard said faults stalls ends (Turns turned IsTurn) b history now old new link link' s s'
  turns_both turned first second now old mid new link link1 link' s s1 s' e some was linked none f g b history lived =
      let x = f b history lived in
      let y = g b (history ++ x.events) x.lived in
      let st = standing b history in
      let l = lived_some b history old lived some in
      let reads : IsLinkRead b (after_all b st x.events) now y.events = subst (λ (z : Standing). IsLinkRead b z now y.events) (behind_on b history x.events) y.did.0 in
      record {
        events = x.events ++ y.events;
        did = (
          turns_linked b st st.link l.0 now (x.events ++ y.events) l.1 (record { writes = x.events; reads = y.events; all = refl; write = x.did.0; read = reads }),
          one_moved x.events y.events first second turned e x.did.1 y.did.1,
        );
        lived = subst (λ (h : List SessionEvent). HasLived b h new) (append_assoc history x.events y.events) y.lived;
        steps = subst (λ (l : List PipeStep). StepsRun K l s old.input old.out s' new.input new.out) (sym (flat_map-append step_at x.events y.events))
            (steps_on K (flat_map step_at x.events) (flat_map step_at y.events) s s1 s' old.input mid.input new.input old.out mid.out new.out x.steps y.steps);
        told = subst (λ (l : List LinkAct). IsToldBy heard said faults stalls ends link l link') (sym (flat_map-append act_at x.events y.events))
            (told_both link link1 link' (flat_map act_at x.events) (flat_map act_at y.events) was x.told y.told none
            (λ gone. ap (λ (l : List SessionEvent). flat_map act_at l) (reads_nothing b (standing b (history ++ x.events)) (standing b (history ++ x.events)).link now y.events
            (lived_none b (history ++ x.events) mid x.lived (sym linked ∙ ap (λ (o : Option L). is_some o) gone)) y.did.0)));
        there = λ n t. y.there n (x.there n t);
      }

  -- cut short as it wrote
  pub cuts_writing : (now : ℕ) (old new : SessionState O I) (link link' : Option L) (s s' : S) → has_link old ≡ true
      → ((b : Basis) (history : List SessionEvent) → HasLived b history old → Did K heard said faults stalls ends IsCutWrite b history now old new link link' s s')
      → (b : Basis) (history : List SessionEvent) → HasLived b history old → Did K heard said faults stalls ends IsCutTurn b history now old new link link' s s'
  cuts_writing now old new link link' s s' some f b history lived =
      let d = f b history lived in
      let l = lived_some b history old lived some in
      record {
        events = d.events;
        did = cuts_linked b (standing b history) (standing b history).link l.0 now d.events l.1 (inl d.did);
        lived = d.lived;
        steps = d.steps;
        told = d.told;
        there = d.there;
      }

  -- or as it read: its writing part left nothing undone
  not_behind : (behind : Type 0) (b : Basis) (s : Standing) (link : Option (List LinkAct)) (events : List SessionEvent) → (s.gave_up ≡ false → behind → ⊥) → IsCutReadAt behind b s link events → IsCutReadAt ⊥ b s link events
  not_behind behind b s None events never k = absurd k
  not_behind behind b s (Some acts) events never k = (k.0, elim k.1 as (λ _. (⊥ × (events ≡ [])) ⊎ ReadsCut b acts s events) [ inl c ↦ absurd (never k.0 c.0) | inr c ↦ inr c ])

  pub cuts_reading : (first : Turned) (now : ℕ) (old mid new : SessionState O I) (link link1 link' : Option L) (s s1 s' : S) → has_link old ≡ true → is_some link ≡ true → is_some link1 ≡ has_link mid → (link1 ≡ None → link' ≡ None) → (mid.course.life.gave_up ≡ false → IsAtEase mid.course)
      → ((b : Basis) (history : List SessionEvent) → HasLived b history old → Did K heard said faults stalls ends (Turns first IsLinkWrite) b history now old mid link link1 s s1)
      → ((b : Basis) (history : List SessionEvent) → HasLived b history mid → Did K heard said faults stalls ends (IsCutRead (IsAtEase mid.course → ⊥)) b history now mid new link1 link' s1 s')
      → (b : Basis) (history : List SessionEvent) → HasLived b history old → Did K heard said faults stalls ends IsCutTurn b history now old new link link' s s'
  cuts_reading first now old mid new link link1 link' s s1 s' some was linked none ease f g b history lived =
      let x = f b history lived in
      let y = g b (history ++ x.events) x.lived in
      let st = standing b history in
      let st1 = standing b (history ++ x.events) in
      let l = lived_some b history old lived some in
      let up : st1.gave_up ≡ false → (IsAtEase mid.course → ⊥) → ⊥ = λ u behind. behind (ease (sym (ap (λ (z : Standing). z.gave_up) x.lived.2) ∙ u)) in
      let cut : IsCutRead ⊥ b st1 now y.events = not_behind (IsAtEase mid.course → ⊥) b st1 st1.link y.events up y.did in
      record {
        events = x.events ++ y.events;
        did = cuts_linked b st st.link l.0 now (x.events ++ y.events) l.1
            (inr (record { writes = x.events; reads = y.events; all = refl; write = x.did.0; read = subst (λ (z : Standing). IsCutRead ⊥ b z now y.events) (behind_on b history x.events) cut }));
        lived = subst (λ (h : List SessionEvent). HasLived b h new) (append_assoc history x.events y.events) y.lived;
        steps = subst (λ (l : List PipeStep). StepsRun K l s old.input old.out s' new.input new.out) (sym (flat_map-append step_at x.events y.events))
            (steps_on K (flat_map step_at x.events) (flat_map step_at y.events) s s1 s' old.input mid.input new.input old.out mid.out new.out x.steps y.steps);
        told = subst (λ (l : List LinkAct). IsToldBy heard said faults stalls ends link l link') (sym (flat_map-append act_at x.events y.events))
            (told_both link link1 link' (flat_map act_at x.events) (flat_map act_at y.events) was x.told y.told none (λ gone. ap (λ (l : List SessionEvent). flat_map act_at l)
            (cuts_nothing ⊥ b st1 st1.link y.events (lived_none b (history ++ x.events) mid x.lived (sym linked ∙ ap (λ (o : Option L). is_some o) gone)) cut)));
        there = λ n t. y.there n (x.there n t);
      }
