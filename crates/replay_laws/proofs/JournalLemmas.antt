-- Two runs whose workers did the same, and that left the same but for counts, have one journal.
use Rattle.std.specs.Prelude.{◌≡◌, ◌<◌, ◌≤◌, ◌+◌, ℕ, zero, suc, Bool, true, false, List, [], ◌∷◌, ◌++◌, drop, flat_map, if◌then◌else◌, length, map, refl}
use Rattle.std.proofs.Common.{arith, sym, ap, ◌∙◌, subst}
use Rattle.std.specs.List.{range_with_len}
use Rattle.std.proofs.lemmas.List.{map-append, length-map}
use Rattle.std.proofs.lemmas.Grind.{flat_map-append}
use Rattle.zq_base.specs.Ends.{PipeId, other_end}
use Rattle.zq_base.specs.declared.ids.EndId.{EndId}
use Rattle.spec_pattern.specs.PipeStep.{PipeStep, AreExact, committed_to, taken_from}
use Rattle.spec_control.specs.declared.entry.Item.{Item}
use Rattle.spec_control.specs.Control.{Control, Settlement, begun}
use Rattle.spec_control.specs.ControlRun.{FitsItem, after_item, after_all, IsControlRun}
use Rattle.spec_control.specs.Moments.{Moment, moments_from}
use Rattle.spec_run.specs.declared.journal.ActorLines.{ActorLines}
use Rattle.spec_run.specs.Script.{Script}
use Rattle.spec_run.specs.Act.{Act, Step, Said, Deed, Tries, Shuts, Fetches, Idles, Works, Looks, AsksRoot, Reads, steps_in, moments_in, acts_of, all_acts}
use Rattle.spec_run.specs.Standing.{standing_before}
use Rattle.spec_run.specs.OwnedRun.{OwnedRun, IsCountedBy, AreCountedBy, pipe_capacity, deeds_in, all_deeds, all_steps, control_at_end, settlement_of}
use Rattle.spec_run.specs.InTurns.{OneTurn, Turned, turn_step, conductor_steps, workers_in, worker_count, turns_sequence, sequence}
use Rattle.spec_run.specs.Fate.{fates_taken, fates_left, fates_in, fates_of, is_heard_at, reason_left, row_of_fates}
use Rattle.spec_run.specs.Journal.{entry_shown, entries_shown, actors_shown, row_if, rows_by, row_shown, journal_at, run_journal}
use Rattle.run_laws.specs.CapacitiesStay.{CapacitiesStay}
use Rattle.replay_laws.specs.OneJournal.{RunsHaveOneJournal}
use Rattle.replay_laws.specs.Blank.{uncounted, blank}
use Rattle.replay_laws.proofs.WalkLemmas.{leaves, Walks, steps_on, Reached}
use Rattle.replay_laws.proofs.LineLemmas.{EachStands}
use Rattle.replay_laws.proofs.StepLemmas.{Bare, bare}
use Rattle.replay_laws.proofs.TurnLemmas.{at_place, acts_on}
use Rattle.replay_laws.proofs.RunLemmas.{turns_same}

-- ---- a settlement is what its end, its reason and the steps say
one_count : (sent got rest sent2 got2 rest2 : ℕ) → sent ≡ sent2 → got ≡ got2 → sent ≡ got + rest → sent2 ≡ got2 + rest2 → rest ≡ rest2
one_count sent got rest sent2 got2 rest2 a b c d = omega (arith, a, b, c, d)

counted_one : (steps : List PipeStep) (x y : Settlement) → IsCountedBy steps x → IsCountedBy steps y → uncounted x ≡ uncounted y → x ≡ y
counted_one steps x y f g e =
    let end : ◌≡◌ {A = EndId} x.end y.end = ap (λ (z : Settlement). z.end) e in
    let sent : x.counts.sent ≡ y.counts.sent = f.sent ∙ ap (λ (z : EndId). length (committed_to (other_end z) steps)) end ∙ sym g.sent in
    let got : x.counts.got ≡ y.counts.got = f.got ∙ ap (λ (z : EndId). length (taken_from (other_end z) steps)) end ∙ sym g.got in
    let rest = one_count x.counts.sent x.counts.got x.counts.rest y.counts.sent y.counts.got y.counts.rest sent got f.sum g.sum in
    λ i. record { end = end i; counts = record { sent = sent i; got = got i; rest = rest i }; reason = (e i).reason }

pub counted_same : (steps : List PipeStep) (xs ys : List Settlement) → AreCountedBy steps xs → AreCountedBy steps ys → map uncounted xs ≡ map uncounted ys → xs ≡ ys
counted_same steps [] [] f g e = refl
counted_same steps [] (y ∷ ys) f g e = absurd (nope e)
  where
    nope : ◌≡◌ {A = List Settlement} [] (uncounted y ∷ map uncounted ys) → ⊥
    nope h = cc
counted_same steps (x ∷ xs) [] f g e = absurd (nope e)
  where
    nope : ◌≡◌ {A = List Settlement} (uncounted x ∷ map uncounted xs) [] → ⊥
    nope h = cc
counted_same steps (x ∷ xs) (y ∷ ys) f g e =
    let head : ◌≡◌ {A = Settlement} (uncounted x) (uncounted y) = cc in
    let tail : map uncounted xs ≡ map uncounted ys = cc in
    let one = counted_one steps x y f.0 g.0 head in
    let rest = counted_same steps xs ys f.1 g.1 tail in
    λ i. one i ∷ rest i

pub whole_again : (c d : Control) → blank c ≡ blank d → c.settlements ≡ d.settlements → c ≡ d
whole_again c d p e = λ i. record (p i) { settlements = e i }

pub none_open : (script : Script) (w : ℕ) → (at_place (map standing_before script) w).mine.socks ≡ []
none_open [] w = refl
none_open (actor ∷ script) zero = refl
none_open (actor ∷ script) (suc w) = none_open script w

abbrev shows_nothing : Bare
shows_nothing = record { steps = []; skips = []; entries = [] }

module _ {N S : Type 0} where
  -- what each worker's deeds show
  abbrev pub bares_of : List (List (List (Deed N S))) → List (List Bare)
  bares_of workers = map (λ steps. map bare (deeds_in steps)) workers

  -- ---- what is shown of deeds is a function of what is bare
  entries_bare : (ds : List (Deed N S)) → entries_shown ds ≡ flat_map (λ (b : Bare). b.entries) (map bare ds)
  entries_bare [] = refl
  entries_bare (Tries t ∷ ds) = by t.over (entries_bare ds)
    where
      by : (b : Bool) → entries_shown ds ≡ flat_map (λ (x : Bare). x.entries) (map bare ds)
          → (if b then entry_shown t ∷ entries_shown ds else entries_shown ds) ≡ (if b then entry_shown t ∷ [] else []) ++ flat_map (λ (x : Bare). x.entries) (map bare ds)
      by true h = ap (λ l. entry_shown t ∷ l) h
      by false h = h
  entries_bare (Shuts acts ∷ ds) = entries_bare ds
  entries_bare (Fetches slot acts ∷ ds) = entries_bare ds
  entries_bare (Idles m ∷ ds) = entries_bare ds
  entries_bare (Works acts ∷ ds) = entries_bare ds
  entries_bare (Looks m ∷ ds) = entries_bare ds
  entries_bare (AsksRoot acts ∷ ds) = entries_bare ds
  entries_bare (Reads now ∷ ds) = entries_bare ds

  steps_bare : (ds : List (Deed N S)) → steps_in (all_acts ds) ≡ flat_map (λ (b : Bare). b.steps) (map bare ds)
  steps_bare [] = refl
  steps_bare (d ∷ ds) = steps_on (acts_of d) (all_acts ds) ∙ ap (λ l. steps_in (acts_of d) ++ l) (steps_bare ds)

  fates_bare : (hears : Bool) (p : PipeId) (ds : List (Deed N S)) → flat_map (fates_in hears p) ds ≡ flat_map (λ (b : Bare). fates_taken hears p b.steps b.skips) (map bare ds)
  fates_bare hears p [] = refl
  fates_bare hears p (d ∷ ds) = ap (λ l. fates_in hears p d ++ l) (fates_bare hears p ds)

  actors_bare : (script : Script) (xs ys : List (List (List (Deed N S)))) → bares_of xs ≡ bares_of ys → actors_shown script xs ≡ actors_shown script ys
  actors_bare [] xs ys e = refl
  actors_bare (actor ∷ actors) [] [] e = refl
  actors_bare (actor ∷ actors) [] (y ∷ ys) e = absurd (nope e)
    where
      nope : ◌≡◌ {A = List (List Bare)} [] (map bare (deeds_in y) ∷ bares_of ys) → ⊥
      nope f = cc
  actors_bare (actor ∷ actors) (x ∷ xs) [] e = absurd (nope e)
    where
      nope : ◌≡◌ {A = List (List Bare)} (map bare (deeds_in x) ∷ bares_of xs) [] → ⊥
      nope f = cc
  actors_bare (actor ∷ actors) (x ∷ xs) (y ∷ ys) e =
      let head : map bare (deeds_in x) ≡ map bare (deeds_in y) = cc in
      let tail : bares_of xs ≡ bares_of ys = cc in
      let entries = entries_bare (deeds_in x) ∙ ap (flat_map (λ (b : Bare). b.entries)) head ∙ sym (entries_bare (deeds_in y)) in
      let rest = actors_bare actors xs ys tail in
      λ i. (let a : ActorLines = record { name = actor.name; entries = entries i } in a) ∷ rest i

  flat_bare : (xs : List (List (List (Deed N S)))) → map bare (flat_map deeds_in xs) ≡ flat_map (λ l. l) (bares_of xs)
  flat_bare [] = refl
  flat_bare (x ∷ xs) = map-append bare (deeds_in x) (flat_map deeds_in xs) ∙ ap (λ l. map bare (deeds_in x) ++ l) (flat_bare xs)

  all_bare : (g h : OwnedRun N S) → bares_of g.workers ≡ bares_of h.workers → map bare (all_deeds g) ≡ map bare (all_deeds h)
  all_bare g h e = flat_bare g.workers ∙ ap (flat_map (λ l. l)) e ∙ sym (flat_bare h.workers)

  -- ---- the journal
  pub same_steps_of : (g h : OwnedRun N S) → bares_of g.workers ≡ bares_of h.workers → all_steps g ≡ all_steps h
  same_steps_of g h bares = steps_bare (all_deeds g) ∙ ap (flat_map (λ (b : Bare). b.steps)) (all_bare g h bares) ∙ sym (steps_bare (all_deeds h))

  pub journals : (script : Script) (g h : OwnedRun N S) → bares_of g.workers ≡ bares_of h.workers → control_at_end 1 g ≡ control_at_end 1 h → run_journal script 1 g ≡ run_journal script 1 h
  journals script g h bares ends =
      let deeds = all_bare g h bares in
      let steps = same_steps_of g h bares in
      let c = control_at_end 1 h in
      let rows : (p : PipeId) → row_shown c g p ≡ row_shown c h p = λ p.
      let fates : fates_of c g p ≡ fates_of c h p = ap (λ l. l ++ fates_left (settlement_of c p))
      (fates_bare (is_heard_at c p) p (all_deeds g) ∙ ap (flat_map (λ (b : Bare). fates_taken (is_heard_at c p) p b.steps b.skips)) deeds ∙ sym (fates_bare (is_heard_at c p) p (all_deeds h))) in
      λ i. row_if (settlement_of c p) (row_of_fates p (length (committed_to p (steps i))) (fates i) (reason_left (settlement_of c p))) in
      let actors = actors_bare script g.workers h.workers bares in
      let rows_by_all : (λ p. row_shown c g p) ≡ (λ p. row_shown c h p) = λ i p. rows p i in
      ap (λ (x : Control). journal_at x script g) ends
      ∙ (λ i. record {
        actors = actors i;
        ended = (journal_at c script g).ended;
        pipes = rows_by (rows_by_all i) 1 (drop 1 c.rows.pairs);
        objects = (journal_at c script g).objects;
        done = (journal_at c script g).done;
      })

  -- ---- what each worker shows
  deeds_bare : (f : OneTurn N S → List (Deed N S)) (ts : List (OneTurn N S)) → map bare (deeds_in (map f ts)) ≡ flat_map (λ l. l) (map (λ turn. map bare (f turn)) ts)
  deeds_bare f [] = refl
  deeds_bare f (t ∷ ts) = map-append bare (f t) (deeds_in (map f ts)) ∙ ap (λ l. map bare (f t) ++ l) (deeds_bare f ts)

  range_bare : (a n : ℕ) (ts us : List (OneTurn N S)) → ((w : ℕ) → a ≤ w → w < a + n → map (λ turn. map bare (turn_step w turn)) ts ≡ map (λ turn. map bare (turn_step w turn)) us)
      → bares_of (map (λ w. map (turn_step w) ts) (range_with_len a n)) ≡ bares_of (map (λ w. map (turn_step w) us) (range_with_len a n))
  range_bare a zero ts us same = refl
  range_bare a (suc n) ts us same =
      let first = deeds_bare (turn_step a) ts ∙ ap (flat_map (λ l. l)) (same a (omega arith) (omega arith)) ∙ sym (deeds_bare (turn_step a) us) in
      let rest = range_bare (a + 1) n ts us (λ w le lt. same w (omega (arith, le)) (omega (arith, lt))) in
      λ i. first i ∷ rest i

  begun_bare : (ts us : List (OneTurn N S)) → map (λ turn. map bare turn.begins) ts ≡ map (λ turn. map bare turn.begins) us
      → map (λ turn. map bare (turn.begins ++ Reads turn.reading ∷ [])) ts ≡ map (λ turn. map bare (turn.begins ++ Reads turn.reading ∷ [])) us
  begun_bare [] [] e = refl
  begun_bare [] (u ∷ us) e = absurd (nope e)
    where
      nope : ◌≡◌ {A = List (List Bare)} [] (map bare u.begins ∷ map (λ turn. map bare turn.begins) us) → ⊥
      nope h = cc
  begun_bare (t ∷ ts) [] e = absurd (nope e)
    where
      nope : ◌≡◌ {A = List (List Bare)} (map bare t.begins ∷ map (λ turn. map bare turn.begins) ts) [] → ⊥
      nope h = cc
  begun_bare (t ∷ ts) (u ∷ us) e =
      let head : map bare t.begins ≡ map bare u.begins = cc in
      let tail : map (λ turn. map bare turn.begins) ts ≡ map (λ turn. map bare turn.begins) us = cc in
      let first = map-append bare t.begins (Reads t.reading ∷ []) ∙ ap (λ l. l ++ shows_nothing ∷ []) head ∙ sym (map-append bare u.begins (Reads u.reading ∷ [])) in
      let rest = begun_bare ts us tail in
      λ i. first i ∷ rest i

  conducted_bare : (t : Turned N S) → map bare (deeds_in (conductor_steps t)) ≡ shows_nothing ∷ (flat_map (λ l. l) (map (λ turn. map bare (turn.begins ++ Reads turn.reading ∷ [])) t.turns) ++ shows_nothing ∷ [])
  conducted_bare t =
      ap (λ l. shows_nothing ∷ l) (ap (map bare) (flat_map-append (λ (step : List (Deed N S)). step) (map (λ turn. turn.begins ++ Reads turn.reading ∷ []) t.turns) ((Looks t.last ∷ []) ∷ []))
      ∙ map-append bare (deeds_in (map (λ turn. turn.begins ++ Reads turn.reading ∷ []) t.turns)) (Looks t.last ∷ [])
      ∙ ap (λ l. l ++ shows_nothing ∷ []) (deeds_bare (λ turn. turn.begins ++ Reads turn.reading ∷ []) t.turns))

  workers_bare : (count : ℕ) (t u : Turned N S) → map (λ turn. map bare turn.begins) t.turns ≡ map (λ turn. map bare turn.begins) u.turns
      → ((w : ℕ) → w < count → map (λ turn. map bare (turn_step w turn)) t.turns ≡ map (λ turn. map bare (turn_step w turn)) u.turns) → bares_of (workers_in count t) ≡ bares_of (workers_in count u)
  workers_bare count t u begins workers =
      let split : (x : Turned N S) → bares_of (workers_in count x) ≡ bares_of (map (λ w. map (turn_step w) x.turns) (range_with_len 0 count)) ++ map bare (deeds_in (conductor_steps x)) ∷ [] = λ x.
      map-append (λ steps. map bare (deeds_in steps)) (map (λ w. map (turn_step w) x.turns) (range_with_len 0 count)) (conductor_steps x ∷ []) in
      let conductor = conducted_bare t ∙ ap (λ l. shows_nothing ∷ (flat_map (λ z. z) l ++ shows_nothing ∷ [])) (begun_bare t.turns u.turns begins) ∙ sym (conducted_bare u) in
      let others = range_bare 0 count t.turns u.turns (λ w le lt. workers w (omega (arith, lt))) in
      split t ∙ (λ i. others i ++ conductor i ∷ []) ∙ sym (split u)

  -- ---- the whole of a run as one walk
  pub walks_from : (cap : PipeId → ℕ) (acts : List (Act N S)) (c : Control) (past : List PipeStep) (order : List (Item N S)) → moments_in acts ≡ moments_from c order → IsControlRun c order → AreExact cap past (steps_in acts)
      → Walks cap c past acts × (leaves c acts ≡ after_all order c)
  walks_from cap [] c past [] e run exact = (tt, refl)
  walks_from cap [] c past (item ∷ items) e run exact = absurd (nope e)
    where
      nope : ◌≡◌ {A = List (Moment N S)} [] (record { found = c; item = item } ∷ moments_from (after_item item c) items) → ⊥
      nope h = cc
  walks_from cap (Step x ∷ acts) c past order e run exact = let rest = walks_from cap acts c (past ++ x ∷ []) order e run exact.1 in ((exact.0, rest.0), rest.1)
  walks_from cap (Said m ∷ acts) c past [] e run exact = absurd (nope e)
    where
      nope : ◌≡◌ {A = List (Moment N S)} (m ∷ moments_in acts) [] → ⊥
      nope h = cc
  walks_from cap (Said m ∷ acts) c past (item ∷ items) e run exact =
      let head : ◌≡◌ {A = Moment N S} m (record { found = c; item = item }) = cc in
      let tail : moments_in acts ≡ moments_from (after_item item c) items = cc in
      let found : ◌≡◌ {A = Control} m.found c = ap (λ (z : Moment N S). z.found) head in
      let is : m.item ≡ item = ap (λ (z : Moment N S). z.item) head in
      let rest = walks_from cap acts (after_item item c) past items tail run.1 exact in
      ((found, subst (FitsItem c) (sym is) run.0, subst (λ z. Walks cap (after_item z c) past acts) (sym is) rest.0), ap (λ z. leaves (after_item z c) acts) is ∙ rest.1)

  abbrev pub acts_of_run : List (List ℕ) → Turned N S → List (Act N S)
  acts_of_run orders t = all_acts (turns_sequence orders t.turns) ++ Said t.last ∷ []

  pub sequence_acts : (orders : List (List ℕ)) (t : Turned N S) → all_acts (sequence orders t) ≡ acts_of_run orders t
  sequence_acts orders t = acts_on (turns_sequence orders t.turns) (Looks t.last ∷ [])

-- two journals of a script by one schedule are one
pub one_journal : (N S : Type 0) → CapacitiesStay N S → RunsHaveOneJournal N S
one_journal N S stay script schedule j k g h =
    let a = g.one_thread in
    let b = h.one_thread in
    let cap = pipe_capacity (control_at_end 1 g.run) in
    let cup = pipe_capacity (control_at_end 1 h.run) in
    let xs = acts_of_run a.orders g.turned in
    let ys = acts_of_run b.orders h.turned in
    let one = walks_from cap xs (begun 1) [] g.run.order (ap moments_in (sym (sequence_acts a.orders g.turned)) ∙ a.one_order) g.is_run.control (subst (λ l. AreExact cap [] (steps_in l)) (sequence_acts a.orders g.turned) a.exact) in
    let other = walks_from cup ys (begun 1) [] h.run.order (ap moments_in (sym (sequence_acts b.orders h.turned)) ∙ b.one_order) h.is_run.control (subst (λ l. AreExact cup [] (steps_in l)) (sequence_acts b.orders h.turned) b.exact) in
    let begins : Reached N S (begun 1) = record { items = []; run = tt; is = refl } in
    let none : (w : ℕ) → EachStands (begun 1) (at_place (map standing_before script) w).mine.socks = λ w. subst (EachStands (begun 1)) (sym (none_open script w)) tt in
    let all = turns_same cap cup 1 schedule.seed schedule.seed schedule.turns g.turned.turns h.turned.turns a.orders b.orders (begun 1) (begun 1) [] (map standing_before script) g.in_turns.standings h.in_turns.standings (length script)
    g.turned.last h.turned.last g.in_turns.last h.in_turns.last (sym (length-map script standing_before)) begins begins refl none none a.drawn b.drawn one.0 other.0
    (record { more = []; run = tt; cap_is = λ e. ap (λ (x : Control). pipe_capacity x e) (sym one.1); stay = stay })
    (record { more = []; run = tt; cap_is = λ e. ap (λ (x : Control). pipe_capacity x e) (sym other.1); stay = stay })
    g.in_turns.go h.in_turns.go g.in_turns.few h.in_turns.few g.in_turns.over h.in_turns.over in
    let bares : bares_of g.run.workers ≡ bares_of h.run.workers =
    ap bares_of g.in_turns.workers_are ∙ workers_bare (worker_count script 1) g.turned h.turned all.begins all.workers ∙ sym (ap bares_of h.in_turns.workers_are) in
    let states : blank (control_at_end 1 g.run) ≡ blank (control_at_end 1 h.run) = sym (ap blank one.1) ∙ all.same.states ∙ ap blank other.1 in
    let steps : all_steps g.run ≡ all_steps h.run = same_steps_of g.run h.run bares in
    let settled = counted_same (all_steps h.run) (control_at_end 1 g.run).settlements (control_at_end 1 h.run).settlements
    (subst (λ l. AreCountedBy l (control_at_end 1 g.run).settlements) steps g.is_run.ended) h.is_run.ended (ap (λ (x : Control). x.settlements) states) in
    g.journal_is ∙ journals script g.run h.run bares (whole_again (control_at_end 1 g.run) (control_at_end 1 h.run) states settled) ∙ sym h.journal_is
