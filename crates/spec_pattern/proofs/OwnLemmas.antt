-- The steps of a call are at the ends that it may write, and at those in its turns.
use Rattle.std.proofs.Common.{◌≡◌, inl, inr, ℕ, suc, List, [], ◌∷◌, ◌++◌, Bool, true, false, Option, Some, None, All, cond, map, refl, sym, subst}
use Rattle.std.specs.Prelude.{filter}
use Rattle.std.specs.Map.{keys_of}
use Rattle.std.proofs.lemmas.List.Elements.{All-nil, All-cons, All-head, All-tail, All-append}
use Rattle.std.proofs.lemmas.List.Sorted.{All-permutation}
use Rattle.zq_base.specs.Message.{Frames}
use Rattle.zq_base.specs.declared.ids.PairId.{PairId}
use Rattle.zq_base.specs.declared.kind.Kind.{Kind}
use Rattle.zq_base.specs.declared.kind.Kind.TheVariants.{Push, Pull, Pair, Dealer}
use Rattle.spec_pattern.specs.PipeStep.{PipeStep, Commit, FullLook, Take, read_through}
use Rattle.spec_pattern.specs.TurnList.{End, full_at, GivesNone, EachGivesNone, GoesOut, NoneHasRoom, ComesIn, NoneHasMessage}
use Rattle.spec_pattern.specs.Duty.{Duty, Free}
use Rattle.spec_pattern.specs.Drops.{Round, Given, Comes, ComeByTurn, EndsReceive, given, again, busy, ReceivesDropping}
use Rattle.spec_pattern.specs.Refusals.{send_refusal, recv_refusal}
use Rattle.spec_pattern.specs.Pipeline.{PushSends, PullReceives}
use Rattle.spec_pattern.specs.Call.{KindSends, KindReceives, SendsUnless, ReceivesUnless, SendStep, RecvStep}
use Rattle.spec_pattern.specs.Routes.{GoesTo, Routes}
use Rattle.spec_pattern.specs.Topics.{Topic, Subscribers}
use Rattle.spec_pattern.specs.Wanted.{Wanted, difference}
use Rattle.spec_pattern.specs.Publishing.{Publisher, stops_hearing, EndsHearing, HearsFrom, heard, Offers, SendsToMany}
use Rattle.spec_pattern.specs.Subscribing.{told_after, EndsTelling, TellsOn, TellsWhere, TellsAll}
use Rattle.spec_pattern.specs.declared.answers.Rule.{Rule}
use Rattle.spec_pattern.specs.declared.answers.Skip.{Skip}
use Rattle.spec_pattern.specs.declared.answers.SendRefusal.{SendRefusal}
use Rattle.spec_pattern.specs.declared.answers.RecvRefusal.{RecvRefusal}
use Rattle.spec_pattern.specs.declared.answers.SendAnswer.{SendAnswer}
use Rattle.spec_pattern.specs.declared.answers.SendAnswer.TheVariants as sent
use Rattle.spec_pattern.specs.declared.answers.RecvAnswer.{RecvAnswer}
use Rattle.spec_pattern.specs.declared.answers.RecvAnswer.TheVariants as got
use Rattle.spec_pattern.specs.OwnSteps.{IsStepAt}
use Rattle.spec_pattern.proofs.KeepLemmas.{comes_turned}

all_front : {A : Type 0} (P : A → Type 0) (xs ys : List A) → All P (xs ++ ys) → All P xs
all_front P [] ys all = All-nil P
all_front P (x ∷ xs) ys all = All-cons P x xs (All-head P x (xs ++ ys) all) (all_front P xs ys (All-tail P x (xs ++ ys) all))

all_behind : {A : Type 0} (P : A → Type 0) (xs ys : List A) → All P (xs ++ ys) → All P ys
all_behind P [] ys all = all
all_behind P (x ∷ xs) ys all = all_behind P xs ys (All-tail P x (xs ++ ys) all)

module _ (Writes Reads : End → Type 0) where
  abbrev At : PipeStep → Type 0
  At s = IsStepAt Writes Reads s

  pub none_at : (steps : List PipeStep) → steps ≡ [] → All At steps
  none_at steps is = subst (All At) (sym is) (All-nil At)

  one_at : (s : PipeStep) → At s → All At (s ∷ [])
  one_at s here = All-cons At s [] here (All-nil At)

  joined_at : (xs ys steps : List PipeStep) → steps ≡ xs ++ ys → All At xs → All At ys → All At steps
  joined_at xs ys steps is one other = subst (All At) (sym is) (All-append At xs ys one other)

  -- ---- by turn

  module _ (w : End → Bool) where
    looks_at : (ends : List End) → All (λ e. w e ≡ true → Writes e) ends → All At (map full_at (filter w ends))
    looks_at [] open_to = All-nil At
    looks_at (e ∷ es) open_to = by (w e) refl (looks_at es (All-tail (λ k. w k ≡ true → Writes k) e es open_to))
      where
        by : (b : Bool) → w e ≡ b → All At (map full_at (filter w es)) → All At (map full_at (cond b (e ∷ filter w es) (filter w es)))
        by true can rest = All-cons At (FullLook e) (map full_at (filter w es)) (All-head (λ k. w k ≡ true → Writes k) e es open_to can) rest
        by false can rest = rest

    pub out_at : (m : Frames) (turns : List End) (steps : List PipeStep) (to : PairId) (new : List End) → All (λ e. w e ≡ true → Writes e) turns → GoesOut w m turns steps to new → All At steps
    out_at m turns steps to new open_to g =
        let all = subst (All (λ e. w e ≡ true → Writes e)) g.turns_are open_to in
        let behind = all_behind (λ e. w e ≡ true → Writes e) g.before (g.peer ∷ g.after) all in
        joined_at (map full_at (filter w g.before)) (Commit g.peer m ∷ []) steps g.steps_are
        (looks_at g.before (all_front (λ e. w e ≡ true → Writes e) g.before (g.peer ∷ g.after) all))
        (one_at (Commit g.peer m) (All-head (λ e. w e ≡ true → Writes e) g.peer g.after behind g.open_is))

    pub room_at : (turns : List End) (steps : List PipeStep) (new : List End) → All (λ e. w e ≡ true → Writes e) turns → NoneHasRoom w turns steps new → All At steps
    room_at turns steps new open_to g = subst (All At) (sym g.steps_are) (looks_at turns open_to)

    push_at : (m : Frames) (turns : List End) (steps : List PipeStep) (answer : SendAnswer) (new : List End) → All (λ e. w e ≡ true → Writes e) turns → PushSends w m turns steps answer new → All At steps
    push_at m turns steps (sent.One to) new open_to g = out_at m turns steps to new open_to g
    push_at m turns steps (sent.Refused r) new open_to (again_is, none) = room_at turns steps new open_to none
    push_at m turns steps _ new open_to g = elim g [ ]

    kind_at : (k : Kind) (m : Frames) (turns : List End) (steps : List PipeStep) (answer : SendAnswer) (new : List End) → All (λ e. w e ≡ true → Writes e) turns → KindSends k w m turns steps answer new → All At steps
    kind_at Push m turns steps answer new open_to g = push_at m turns steps answer new open_to g
    kind_at Pair m turns steps answer new open_to g = push_at m turns steps answer new open_to g
    kind_at Dealer m turns steps answer new open_to g = push_at m turns steps answer new open_to g
    kind_at _ m turns steps answer new open_to g = elim g [ ]

    unless_at : (refusal : Option SendRefusal) (k : Kind) (m : Frames) (turns : List End) (steps : List PipeStep) (answer : SendAnswer) (new : List End)
        → All (λ e. w e ≡ true → Writes e) turns → SendsUnless refusal (KindSends k w m turns) turns steps answer new → All At steps
    unless_at None k m turns steps answer new open_to g = kind_at k m turns steps answer new open_to g
    unless_at (Some r) k m turns steps answer new open_to g = none_at steps g.1

    pub send_step_at : (k : Kind) (m : Frames) (turns : List End) (steps : List PipeStep) (answer : SendAnswer) (new : List End) → All (λ e. w e ≡ true → Writes e) turns → SendStep k w m turns steps answer new → All At steps
    send_step_at k m turns steps answer new open_to g = unless_at (send_refusal k Free m) k m turns steps answer new open_to g

    -- ---- to one peer, and to many

    goes_at : (b : Bool) (missing full : SendAnswer) (m : Frames) (e : End) (steps : List PipeStep) (answer : SendAnswer) → w e ≡ b → (w e ≡ true → Writes e) → GoesTo missing full m e b steps answer → All At steps
    goes_at false missing full m e steps answer can open_to g = none_at steps g.0
    goes_at true missing full m e steps answer can open_to (inl (is, to)) = subst (All At) (sym is) (one_at (FullLook e) (open_to can))
    goes_at true missing full m e steps answer can open_to (inr (is, to)) = subst (All At) (sym is) (one_at (Commit e m) (open_to can))

    pub routes_at : (missing full : SendAnswer) (m : Frames) (peer : Option End) (steps : List PipeStep) (answer : SendAnswer) → ((e : End) → peer ≡ Some e → w e ≡ true → Writes e) → Routes missing full w m peer steps answer → All At steps
    routes_at missing full m None steps answer open_to g = none_at steps g.0
    routes_at missing full m (Some e) steps answer open_to g = goes_at (w e) missing full m e steps answer refl (open_to e refl) g

    -- ---- telling

    ends_telling : (change : Option (ℕ × Topic)) (e : End) (steps : List PipeStep) → Writes e → EndsTelling change e steps → All At steps
    ends_telling None e steps open_to g = none_at steps g
    ends_telling (Some change) e steps open_to g = subst (All At) (sym g) (one_at (FullLook e) open_to)

    tells_on_at : (wanted : Wanted) (e : End) (told : List Topic) (changes : List (ℕ × Topic)) (steps : List PipeStep) (new : List Topic) → Writes e → TellsOn wanted e told changes steps new → All At steps
    tells_on_at wanted e told [] steps new open_to g = ends_telling (difference told wanted) e steps open_to g.0
    tells_on_at wanted e told (change ∷ changes) steps new open_to (is, rest, on, whole) =
        subst (All At) (sym whole) (All-cons At _ rest open_to (tells_on_at wanted e (told_after change told) changes rest new open_to on))

    tells_where_at : (b : Bool) (wanted : Wanted) (e : End) (told : List Topic) (steps : List PipeStep) (new : List Topic) → w e ≡ b → (w e ≡ true → Writes e) → TellsWhere b wanted e told steps new → All At steps
    tells_where_at true wanted e told steps new can open_to (changes, g) = tells_on_at wanted e told changes steps new (open_to can) g
    tells_where_at false wanted e told steps new can open_to g = none_at steps g.0

    pub tells_at : (wanted : Wanted) (fs : Subscribers End) (steps : List PipeStep) (new : Subscribers End) → All (λ e. w e ≡ true → Writes e) (keys_of fs) → TellsAll w wanted fs steps new → All At steps
    tells_at wanted [] steps new open_to g = none_at steps g.0
    tells_at wanted (f ∷ fs) steps new open_to (told, others, first, rest, one, on, whole, is) =
        joined_at first rest steps whole
        (tells_where_at (w f.0) wanted f.0 f.1 first told refl (All-head (λ e. w e ≡ true → Writes e) f.0 (keys_of fs) open_to) one)
        (tells_at wanted fs rest others (All-tail (λ e. w e ≡ true → Writes e) f.0 (keys_of fs) open_to) on)

  offers_at : (m : Frames) (ends : List End) (steps : List PipeStep) (put full : List End) → All Writes ends → Offers m ends steps put full → All At steps
  offers_at m [] steps put full open_to g = none_at steps g.0
  offers_at m (e ∷ es) steps put full open_to (rest, put2, full2, on, inl (whole, p, f)) =
      subst (All At) (sym whole) (All-cons At (Commit e m) rest (All-head Writes e es open_to) (offers_at m es rest put2 full2 (All-tail Writes e es open_to) on))
  offers_at m (e ∷ es) steps put full open_to (rest, put2, full2, on, inr (whole, p, f)) =
      subst (All At) (sym whole) (All-cons At (FullLook e) rest (All-head Writes e es open_to) (offers_at m es rest put2 full2 (All-tail Writes e es open_to) on))

  pub many_at : (m : Frames) (ends : List End) (steps : List PipeStep) (answer : SendAnswer) → All Writes ends → SendsToMany m ends steps answer → All At steps
  many_at m ends steps answer open_to g = offers_at m ends steps g.put g.full open_to g.offers

  -- ---- what comes by turn

  look_at : (e : End) (look : PipeStep) → Reads e → GivesNone e look → At look
  look_at e look own (inl is) = subst At (sym is) (e, own, refl)
  look_at e look own (inr is) = subst At (sym is) (e, own, refl)

  looks_none_at : (ends : List End) (looks : List PipeStep) → All Reads ends → EachGivesNone ends looks → All At looks
  looks_none_at [] looks own g = none_at looks g
  looks_none_at (e ∷ es) looks own (look, rest, is, here, others) =
      subst (All At) (sym is) (All-cons At look rest (look_at e look (All-head Reads e es own) here) (looks_none_at es rest (All-tail Reads e es own) others))

  pub in_at : (turns : List End) (steps : List PipeStep) (m : Frames) (from_ : PairId) (new : List End) → All Reads turns → ComesIn turns steps m from_ new → All At steps
  in_at turns steps m from_ new own g =
      let all = subst (All Reads) g.turns_are own in
      let behind = all_behind Reads g.before (g.peer ∷ g.after) all in
      joined_at g.looks (Take (read_through g.peer) m ∷ []) steps g.steps_are
      (looks_none_at g.before g.looks (all_front Reads g.before (g.peer ∷ g.after) all) g.looks_are)
      (one_at (Take (read_through g.peer) m) (g.peer, All-head Reads g.peer g.after behind, refl))

  pub empty_at : (turns : List End) (steps : List PipeStep) (new : List End) → All Reads turns → NoneHasMessage turns steps new → All At steps
  empty_at turns steps new own g = looks_none_at turns steps own g.looks_are

  pub pull_at : (turns : List End) (steps : List PipeStep) (answer : RecvAnswer) (new : List End) → All Reads turns → PullReceives turns steps answer new → All At steps
  pull_at turns steps (got.Got from_ m) new own g = in_at turns steps m from_ new own g
  pull_at turns steps (got.Refused r) new own (again_is, none) = empty_at turns steps new own none

  kind_reads_at : (k : Kind) (turns : List End) (steps : List PipeStep) (answer : RecvAnswer) (new : List End) → All Reads turns → KindReceives k turns steps answer new → All At steps
  kind_reads_at Pull turns steps answer new own g = pull_at turns steps answer new own g
  kind_reads_at Pair turns steps answer new own g = pull_at turns steps answer new own g
  kind_reads_at Dealer turns steps answer new own g = pull_at turns steps answer new own g
  kind_reads_at _ turns steps answer new own g = elim g [ ]

  unless_reads_at : (refusal : Option RecvRefusal) (k : Kind) (turns : List End) (steps : List PipeStep) (answer : RecvAnswer) (new : List End)
      → All Reads turns → ReceivesUnless refusal (KindReceives k turns) turns steps answer new → All At steps
  unless_reads_at None k turns steps answer new own g = kind_reads_at k turns steps answer new own g
  unless_reads_at (Some r) k turns steps answer new own g = none_at steps g.1

  pub recv_step_at : (k : Kind) (turns : List End) (steps : List PipeStep) (answer : RecvAnswer) (new : List End) → All Reads turns → RecvStep k turns steps answer new → All At steps
  recv_step_at k turns steps answer new own g = unless_reads_at (recv_refusal k Free) k turns steps answer new own g

  comes_at : (turns : List End) (r : Round) (steps : List PipeStep) (new : List End) → All Reads turns → Comes turns r steps new → All At steps
  comes_at turns r steps new own g = in_at turns steps r.message r.peer.pair new own g.by_turn

  -- what comes by turn leaves the same ends to read
  reads_on : (turns : List End) (r : Round) (steps : List PipeStep) (new : List End) → All Reads turns → Comes turns r steps new → All Reads new
  reads_on turns r steps new own g = All-permutation Reads turns new (comes_turned turns r steps new g) own

  came_at : (turns : List End) (rs : List Round) (steps : List PipeStep) (new : List End) → All Reads turns → ComeByTurn turns rs steps new → All At steps × All Reads new
  came_at turns [] steps new own g = (none_at steps g.0, subst (All Reads) (sym g.1) own)
  came_at turns (r ∷ rs) steps new own (first, rest, mid, comes, on, whole) =
      let more = came_at mid rs rest new (reads_on turns r first mid own comes) on in
      (joined_at first rest steps whole (comes_at turns r first mid own comes) more.0, more.1)

  end_at : (gives : End → Frames → Option Given) (count : ℕ) (turns : List End) (steps : List PipeStep) (answer : RecvAnswer) (new : List End) (old duty : Duty)
      → All Reads turns → EndsReceive gives count turns steps answer new old duty → All At steps
  end_at gives count turns steps answer new old duty own (given less one) = comes_at turns one.round steps new own one.comes
  end_at gives count turns steps answer new old duty own (again less none same) = empty_at turns steps new own none.0
  end_at gives count turns steps answer new old duty own (busy all no_steps refused same_turns same) = none_at steps no_steps

  pub dropping_at : (gives : End → Frames → Option Given) (rule : Rule) (turns : List End) (steps : List PipeStep) (skips : List Skip) (answer : RecvAnswer) (new : List End) (old duty : Duty)
      → All Reads turns → ReceivesDropping gives rule turns steps skips answer new old duty → All At steps
  dropping_at gives rule turns steps skips answer new old duty own g =
      let front = came_at turns g.dropped g.front g.mid own g.drops.came in
      joined_at g.front g.last steps g.steps_are front.0 (end_at gives _ g.mid g.last answer new old duty front.1 g.ends)

  ends_hearing : (stops : Bool) (p : Publisher) (steps : List PipeStep) (new : Publisher) → All Reads p.ins → EndsHearing stops p steps new → All At steps
  ends_hearing true p steps new own g = none_at steps g.0
  ends_hearing false p steps new own (turns, none, is) = empty_at p.ins steps turns own none

  pub hears_at : (count : ℕ) (p : Publisher) (rs : List Round) (steps : List PipeStep) (new : Publisher) → All Reads p.ins → HearsFrom count p rs steps new → All At steps
  hears_at count p [] steps new own g = ends_hearing (stops_hearing count p) p steps new own g
  hears_at count p (r ∷ rs) steps new own (on, turns, first, rest, comes, others, whole) =
      joined_at first rest steps whole (comes_at p.ins r first turns own comes) (hears_at (suc count) (heard r turns p) rs rest new (reads_on p.ins r first turns own comes) others)
