-- What an event does is settled by what it found and by the steps past.
use Rattle.std.proofs.Common.{◌≡◌, ◌+◌, ℕ, List, [], ◌∷◌, ◌++◌, Bool, true, false, Option, Some, None, length, map, refl, sym, ap, subst, ◌∙◌, append-nil, inl, inr}
use Rattle.std.specs.Prelude.{◌==◌, ◌||◌, ◌⊎◌, All, cond, filter, find, if◌then◌else◌, slice_get, slice_set}
use Rattle.std.specs.List.{list_any}
use Rattle.std.proofs.lemmas.Bool.{eqb-true}
use Rattle.std.proofs.lemmas.List.Elements.{All-head, All-tail}
use Rattle.zq_base.specs.Ends.{PipeId}
use Rattle.zq_base.specs.declared.ids.ObjId.{ObjId}
use Rattle.spec_pattern.specs.PipeStep.{PipeStep}
use Rattle.spec_control.specs.Stage.{is_used}
use Rattle.spec_control.specs.Row.{is_socket}
use Rattle.spec_control.specs.Rows.{obj}
use Rattle.spec_control.specs.Control.{Control}
use Rattle.spec_control.specs.Moments.{reaper_slots}
use Rattle.spec_run.specs.Act.{Act, Deed, Fetches, AsksRoot, Reads, moments_in, all_acts}
use Rattle.spec_run.specs.Event.{TakesLetter}
use Rattle.spec_run.specs.OpenSocket.{OpenSock, PassesItems}
use Rattle.spec_run.specs.Standing.{ActorStanding, FetchesOne, with_open, has_finished}
use Rattle.spec_run.specs.CoreEvents.{CoreEvent, NextLine, TakeFrom, AskRoot, Tick, Made, deeds_made, may_take, actor_with, DoesNothing, StepsOn, StepsUnless, LineDoes, FetchesFor, ReapsOne, TakenBy, TakeDoes, AsksOnceMore, EventDoes}
use Rattle.zq_world.proofs.SeatLemmas.{some_is}
use Rattle.replay_laws.specs.Blank.{blank}
use Rattle.replay_laws.specs.Mailboxes.{HaveBoxes}
use Rattle.replay_laws.proofs.WalkLemmas.{leaves, Walks, Reached, Same, same_none, same_as}
use Rattle.replay_laws.proofs.LetterLemmas.{boxes_of}
use Rattle.replay_laws.proofs.StandLemmas.{stands_on}
use Rattle.replay_laws.proofs.PumpLemmas.{take_same}
use Rattle.replay_laws.proofs.TryLemmas.{Ahead, own_taken}
use Rattle.replay_laws.proofs.LineLemmas.{EachStands, found_stands}
use Rattle.replay_laws.proofs.KeepLemmas.{each_aside, each_with}
use Rattle.replay_laws.proofs.ReapLemmas.{TakenOver, IsReapers}
use Rattle.replay_laws.proofs.StepLemmas.{Bare, bare, StepSame, reap_same, asked_same}
use Rattle.replay_laws.proofs.ActorLemmas.{actor_same, actor_stands}
use Rattle.replay_laws.proofs.TurnLemmas.{set_holds}

or_cases : (a b : Bool) → (a || b) ≡ true → (a ≡ true) ⊎ (b ≡ true)
or_cases true b e = inl refl
or_cases false b e = inr e

-- what is found passes the test
found_passes : {X : Type 0} (test : X → Bool) (xs : List X) (x : X) → find test xs ≡ Some x → test x ≡ true
found_passes {X} test [] x e = absurd (nope e)
  where
    nope : ◌≡◌ {A = Option X} None (Some x) → ⊥
    nope f = cc
found_passes {X} test (y ∷ xs) x e = by (test y) refl e (found_passes test xs x)
  where
    by : (b : Bool) → test y ≡ b → (if b then Some y else find test xs) ≡ Some x → (find test xs ≡ Some x → test x ≡ true) → test x ≡ true
    by true is f more = subst (λ (z : X). test z ≡ true) (some_is y x f) is
    by false is f more = more f

-- ---- a mailbox of the reaper's
used_box : (c : Control) (os : List ObjId) (slot : ℕ) → All (λ o. is_socket (obj c.rows o.0).kind ≡ true) os
    → list_any (λ k. k == slot) (map (λ o. (obj c.rows o.0).slot) (filter (λ o. is_used (obj c.rows o.0).request) os)) ≡ true → TakenOver c slot
used_box c [] slot all e = absurd (nope e)
  where
    nope : false ≡ true → ⊥
    nope f = cc
used_box c (o ∷ os) slot all e = by (is_used (obj c.rows o.0).request) refl e (used_box c os slot (All-tail (λ (x : ObjId). is_socket (obj c.rows x.0).kind ≡ true) o os all))
  where
    by : (b : Bool) → is_used (obj c.rows o.0).request ≡ b → list_any (λ k. k == slot) (map (λ x. (obj c.rows x.0).slot) (cond b (o ∷ filter (λ x. is_used (obj c.rows x.0).request) os) (filter (λ x. is_used (obj c.rows x.0).request) os))) ≡ true
        → (list_any (λ k. k == slot) (map (λ x. (obj c.rows x.0).slot) (filter (λ x. is_used (obj c.rows x.0).request) os)) ≡ true → TakenOver c slot) → TakenOver c slot
    by true used f more =
        elim (or_cases ((obj c.rows o.0).slot == slot) (list_any (λ k. k == slot) (map (λ x. (obj c.rows x.0).slot) (filter (λ x. is_used (obj c.rows x.0).request) os))) f) [
          | inl at ↦ record { object = o; socket = All-head (λ (x : ObjId). is_socket (obj c.rows x.0).kind ≡ true) o os all; used = used; at = eqb-true (obj c.rows o.0).slot slot at }
          | inr later ↦ more later
        ]
    by false used f more = more f

had_box : (c : Control) → HaveBoxes c → (slot : ℕ) → list_any (λ k. k == slot) (reaper_slots c) ≡ true → IsReapers c slot
had_box c boxes slot e =
    elim (or_cases (0 == slot) (list_any (λ k. k == slot) (map (λ o. (obj c.rows o.0).slot) (filter (λ o. is_used (obj c.rows o.0).request) c.closed))) e) [
      | inl root ↦ inl (eqb-true 0 slot root)
      | inr later ↦ inr (used_box c c.closed slot boxes.closed later)
    ]

-- the open sockets of each actor stand
abbrev pub AllStand : Control → List ActorStanding → Type 0
AllStand c sts = (w : ℕ) (st : ActorStanding) → slice_get sts w ≡ Some st → EachStands c st.mine.socks

all_set : (c : Control) (sts : List ActorStanding) (w : ℕ) (st next : ActorStanding) → AllStand c sts → slice_get sts w ≡ Some st → EachStands c next.mine.socks → AllStand c (slice_set sts w next)
all_set c sts w st next all here each = set_holds (λ (z : ActorStanding). EachStands c z.mine.socks) sts w st next all here each

module _ {N S : Type 0} where
  -- what is shown of a deed, with its worker
  abbrev pub shown_of : Made N S → ℕ × Bare
  shown_of m = (m.worker, bare m.deed)

  all_aside : (cap : PipeId → ℕ) (xs : List (Act N S)) (c : Control) (past : List PipeStep) (sts : List ActorStanding) → Reached N S c → Walks cap c past xs → AllStand c sts → AllStand (leaves c xs) sts
  all_aside cap xs c past sts r w all k st at = each_aside cap xs c past r w st.mine.socks (all k st at)

  -- two doings of an event are one
  pub record EventSame (c d : Control) (made made2 : List (Made N S)) (news news2 : List ActorStanding) : Type 0 where
    pub same : Same c d (all_acts (deeds_made made)) (all_acts (deeds_made made2))
    pub shown : map shown_of made ≡ map shown_of made2
    pub news_are : news ≡ news2
    pub stand : AllStand (leaves c (all_acts (deeds_made made))) news
    pub stand_too : AllStand (leaves d (all_acts (deeds_made made2))) news2

  one_bare : (f g : Deed N S) → map bare (f ∷ []) ≡ map bare (g ∷ []) → bare f ≡ bare g
  one_bare f g e = cc

  -- one deed each
  one_deed : (c d : Control) (w : ℕ) (f g : Deed N S) (made made2 : List (Made N S)) (news news2 : List ActorStanding) → made ≡ record { worker = w; deed = f } ∷ [] → made2 ≡ record { worker = w; deed = g } ∷ []
      → StepSame c d (f ∷ []) (g ∷ []) → news ≡ news2 → AllStand (leaves c (all_acts (f ∷ []))) news → AllStand (leaves d (all_acts (g ∷ []))) news2 → EventSame c d made made2 news news2
  one_deed c d w f g made made2 news news2 is is2 step are stand stand_too = record {
    same = same_as c d (all_acts (deeds_made made)) (all_acts (deeds_made made2)) (all_acts (f ∷ [])) (all_acts (g ∷ [])) (ap (λ (l : List (Made N S)). all_acts (deeds_made l)) is) (ap (λ (l : List (Made N S)). all_acts (deeds_made l)) is2) step.same;
    shown = ap (map shown_of) is ∙ ap (λ (b : Bare). let x : ℕ × Bare = (w, b) in x ∷ []) (one_bare f g step.bares) ∙ sym (ap (map shown_of) is2);
    news_are = are;
    stand = subst (λ (l : List (Made N S)). AllStand (leaves c (all_acts (deeds_made l))) news) (sym is) stand;
    stand_too = subst (λ (l : List (Made N S)). AllStand (leaves d (all_acts (deeds_made l))) news2) (sym is2) stand_too;
  }

  -- what the walk of one deed's acts is
  walk_deed : (cap : PipeId → ℕ) (c : Control) (past : List PipeStep) (w : ℕ) (f : Deed N S) (made : List (Made N S)) → made ≡ record { worker = w; deed = f } ∷ [] → Walks cap c past (all_acts (deeds_made made)) → Walks cap c past (all_acts (f ∷ []))
  walk_deed cap c past w f made is walk = subst (λ (l : List (Made N S)). Walks cap c past (all_acts (deeds_made l))) is walk

  -- ---- a letter of an open socket
  fetched_stand : (cap : PipeId → ℕ) (c : Control) (past : List PipeStep) (slot : ℕ) (st next : ActorStanding) (acts : List (Act N S)) → Reached N S c → EachStands c st.mine.socks → Walks cap c past acts → FetchesOne st slot acts next
      → EachStands (leaves c acts) next.mine.socks
  fetched_stand cap c past slot st next acts r each w f =
      let s = f.socket in
      let stands = found_stands c (λ (x : OpenSock). x.slot == slot) st.mine.socks s each f.finds in
      let at : s.slot ≡ slot = eqb-true s.slot slot (found_passes (λ (x : OpenSock). x.slot == slot) st.mine.socks s f.finds) in
      let takes = subst (λ (k : ℕ). TakesLetter k acts) (sym at) f.takes in
      let now = stands_on cap acts c past s f.now r w (own_taken s.slot s.object acts takes) f.goes stands in
      subst (λ (z : ActorStanding). EachStands (leaves c acts) z.mine.socks) (sym f.new_is) (each_with (leaves c acts) f.now st.mine.socks now (each_aside cap acts c past r w st.mine.socks each))

  pub record FetchSame (c d : Control) (xs ys : List (Act N S)) (u v : ActorStanding) : Type 0 where
    pub same : Same c d xs ys
    pub standing : u ≡ v

  fetch_same : (cap cup : PipeId → ℕ) (c d : Control) (past : List PipeStep) (slot : ℕ) (st u v : ActorStanding) (xs ys : List (Act N S)) → Reached N S c → Reached N S d → blank c ≡ blank d → EachStands c st.mine.socks → EachStands d st.mine.socks
      → Walks cap c past xs → Walks cup d past ys → FetchesOne st slot xs u → FetchesOne st slot ys v → FetchSame c d xs ys u v
  fetch_same cap cup c d past slot st u v xs ys r q p each each_too w w2 f g =
      let s = f.socket in
      let socket : g.socket ≡ s = some_is g.socket s (sym g.finds ∙ f.finds) in
      let at : s.slot ≡ slot = eqb-true s.slot slot (found_passes (λ (x : OpenSock). x.slot == slot) st.mine.socks s f.finds) in
      let stands = found_stands c (λ (x : OpenSock). x.slot == slot) st.mine.socks s each f.finds in
      let stood = found_stands d (λ (x : OpenSock). x.slot == slot) st.mine.socks s each_too f.finds in
      let one = take_same cap cup c d past s f.now g.now xs ys r q p stands.sits stood.sits w w2 (subst (λ (k : ℕ). TakesLetter k xs) (sym at) f.takes) (subst (λ (k : ℕ). TakesLetter k ys) (sym at) g.takes)
      f.goes (subst (λ (x : OpenSock). PassesItems (moments_in ys) x g.now) socket g.goes) in
      record {
        same = one.same;
        standing = f.new_is ∙ ap (λ (x : OpenSock). let z : ActorStanding = record st { mine = with_open x st.mine } in z) one.socks ∙ sym g.new_is;
      }

  -- ---- an event
  module _ (cap cup : PipeId → ℕ) (c d : Control) (past : List PipeStep) (olds : List ActorStanding) (made made2 : List (Made N S)) (news news2 : List ActorStanding) (r : Reached N S c) (q : Reached N S d) (p : blank c ≡ blank d)
      (stand : AllStand c olds) (stand_too : AllStand d olds) (walk : Walks cap c past (all_acts (deeds_made made))) (walk_too : Walks cup d past (all_acts (deeds_made made2)))
      (ahead : Ahead N S cap (leaves c (all_acts (deeds_made made)))) (ahead_too : Ahead N S cup (leaves d (all_acts (deeds_made made2)))) where
    idle_same : DoesNothing olds made news → DoesNothing olds made2 news2 → EventSame c d made made2 news news2
    idle_same f g = record {
      same = same_as c d (all_acts (deeds_made made)) (all_acts (deeds_made made2)) [] [] (ap (λ (l : List (Made N S)). all_acts (deeds_made l)) f.0) (ap (λ (l : List (Made N S)). all_acts (deeds_made l)) g.0) (same_none c d p);
      shown = ap (map shown_of) f.0 ∙ sym (ap (map shown_of) g.0);
      news_are = f.1 ∙ sym g.1;
      stand = subst (λ (l : List (Made N S)). AllStand (leaves c (all_acts (deeds_made l))) news) (sym f.0) (subst (AllStand c) (sym f.1) stand);
      stand_too = subst (λ (l : List (Made N S)). AllStand (leaves d (all_acts (deeds_made l))) news2) (sym g.0) (subst (AllStand d) (sym g.1) stand_too);
    }

    -- the actors stay
    aside_same : (w : ℕ) (f g : Deed N S) → made ≡ record { worker = w; deed = f } ∷ [] → made2 ≡ record { worker = w; deed = g } ∷ [] → StepSame c d (f ∷ []) (g ∷ []) → news ≡ olds → news2 ≡ olds → EventSame c d made made2 news news2
    aside_same w f g is is2 step stay stay2 =
        one_deed c d w f g made made2 news news2 is is2 step (stay ∙ sym stay2)
        (subst (AllStand (leaves c (all_acts (f ∷ [])))) (sym stay) (all_aside cap (all_acts (f ∷ [])) c past olds r (walk_deed cap c past w f made is walk) stand))
        (subst (AllStand (leaves d (all_acts (g ∷ [])))) (sym stay2) (all_aside cup (all_acts (g ∷ [])) d past olds q (walk_deed cup d past w g made2 is2 walk_too) stand_too))

    -- one actor goes on
    moved_same : (w : ℕ) (f g : Deed N S) (st u v : ActorStanding) → slice_get olds w ≡ Some st → made ≡ record { worker = w; deed = f } ∷ [] → made2 ≡ record { worker = w; deed = g } ∷ [] → StepSame c d (f ∷ []) (g ∷ [])
        → news ≡ slice_set olds w u → news2 ≡ slice_set olds w v → u ≡ v → EachStands (leaves c (all_acts (f ∷ []))) u.mine.socks → EachStands (leaves d (all_acts (g ∷ []))) v.mine.socks → EventSame c d made made2 news news2
    moved_same w f g st u v here is is2 step go go2 same each each_too =
        one_deed c d w f g made made2 news news2 is is2 step (go ∙ ap (slice_set olds w) same ∙ sym go2)
        (subst (AllStand (leaves c (all_acts (f ∷ [])))) (sym go) (all_set (leaves c (all_acts (f ∷ []))) olds w st u (all_aside cap (all_acts (f ∷ [])) c past olds r (walk_deed cap c past w f made is walk) stand) here each))
        (subst (AllStand (leaves d (all_acts (g ∷ [])))) (sym go2) (all_set (leaves d (all_acts (g ∷ []))) olds w st v (all_aside cup (all_acts (g ∷ [])) d past olds q (walk_deed cup d past w g made2 is2 walk_too) stand_too) here each_too))

    steps_same : (w : ℕ) (st : ActorStanding) → slice_get olds w ≡ Some st → StepsOn w st olds made news → StepsOn w st olds made2 news2 → EventSame c d made made2 news news2
    steps_same w st here f g =
        let walk1 = walk_deed cap c past w f.deed made f.made_is walk in
        let walk2 = walk_deed cup d past w g.deed made2 g.made_is walk_too in
        let one = actor_same cap cup c d past st f.next g.next (f.deed ∷ []) (g.deed ∷ []) r q p (stand w st here) (stand_too w st here) walk1 walk2
        (subst (λ (l : List (Made N S)). Ahead N S cap (leaves c (all_acts (deeds_made l)))) f.made_is ahead) (subst (λ (l : List (Made N S)). Ahead N S cup (leaves d (all_acts (deeds_made l)))) g.made_is ahead_too) f.step g.step in
        moved_same w f.deed g.deed st f.next g.next here f.made_is g.made_is one.step f.new_is g.new_is one.standing
        (actor_stands cap c past st f.next (f.deed ∷ []) r (stand w st here) walk1 f.step) (actor_stands cup d past st g.next (g.deed ∷ []) q (stand_too w st here) walk2 g.step)

    unless_same : (w : ℕ) (st : ActorStanding) (finished : Bool) → slice_get olds w ≡ Some st → StepsUnless finished w st olds made news → StepsUnless finished w st olds made2 news2 → EventSame c d made made2 news news2
    unless_same w st true here f g = idle_same f g
    unless_same w st false here f g = steps_same w st here f g

    line_same : (w : ℕ) (found : Option ActorStanding) → slice_get olds w ≡ found → LineDoes w found olds made news → LineDoes w found olds made2 news2 → EventSame c d made made2 news news2
    line_same w None here f g = idle_same f g
    line_same w (Some st) here f g = unless_same w st (has_finished st) here f g

    fetches_same : (w slot : ℕ) → FetchesFor w slot olds made news → FetchesFor w slot olds made2 news2 → EventSame c d made made2 news news2
    fetches_same w slot f g =
        let st : g.st ≡ f.st = some_is g.st f.st (sym g.there ∙ f.there) in
        let fetches2 = subst (λ (x : ActorStanding). FetchesOne x slot g.acts g.next) st g.fetches in
        let w1 = subst (Walks cap c past) (append-nil f.acts) (walk_deed cap c past w (Fetches slot f.acts) made f.made_is walk) in
        let w2 = subst (Walks cup d past) (append-nil g.acts) (walk_deed cup d past w (Fetches slot g.acts) made2 g.made_is walk_too) in
        let each = stand w f.st f.there in
        let each_too = stand_too w f.st f.there in
        let one = fetch_same cap cup c d past slot f.st f.next g.next f.acts g.acts r q p each each_too w1 w2 f.fetches fetches2 in
        moved_same w (Fetches slot f.acts) (Fetches slot g.acts) f.st f.next g.next f.there f.made_is g.made_is (fetched slot f.acts g.acts one.same) f.new_is g.new_is one.standing
        (subst (λ (l : List (Act N S)). EachStands (leaves c l) f.next.mine.socks) (sym (append-nil f.acts)) (fetched_stand cap c past slot f.st f.next f.acts r each w1 f.fetches))
        (subst (λ (l : List (Act N S)). EachStands (leaves d l) g.next.mine.socks) (sym (append-nil g.acts)) (fetched_stand cup d past slot f.st g.next g.acts q each_too w2 fetches2))
      where
        fetched : (slot : ℕ) (xs ys : List (Act N S)) → Same c d xs ys → StepSame c d (Fetches slot xs ∷ []) (Fetches slot ys ∷ [])
        fetched slot xs ys same = record {
          same = same_as c d (xs ++ []) (ys ++ []) xs ys (append-nil xs) (append-nil ys) same;
          bares = ap (λ (l : List PipeStep). let b : Bare = record { steps = l; skips = []; entries = [] } in b ∷ []) same.steps;
        }

    reaps_same : (reaper slot : ℕ) → IsReapers c slot → IsReapers d slot → ReapsOne reaper slot olds made news → ReapsOne reaper slot olds made2 news2 → EventSame c d made made2 news news2
    reaps_same reaper slot box box2 f g =
        let w1 = subst (Walks cap c past) (append-nil f.acts) (walk_deed cap c past reaper (Fetches slot f.acts) made f.made_is walk) in
        let w2 = subst (Walks cup d past) (append-nil g.acts) (walk_deed cup d past reaper (Fetches slot g.acts) made2 g.made_is walk_too) in
        let same = reap_same cap cup c d past slot f.acts g.acts r q p box box2 w1 w2 f.takes g.takes in
        aside_same reaper (Fetches slot f.acts) (Fetches slot g.acts) f.made_is g.made_is (record {
          same = same_as c d (f.acts ++ []) (g.acts ++ []) f.acts g.acts (append-nil f.acts) (append-nil g.acts) same;
          bares = ap (λ (l : List PipeStep). let b : Bare = record { steps = l; skips = []; entries = [] } in b ∷ []) same.steps;
        }) f.new_is g.new_is

    taken_same : (found : Option ℕ) (has : Bool) (reaper slot : ℕ) → list_any (λ k. k == slot) (reaper_slots c) ≡ has → list_any (λ k. k == slot) (reaper_slots d) ≡ has
        → TakenBy found has reaper slot olds made news → TakenBy found has reaper slot olds made2 news2 → EventSame c d made made2 news news2
    taken_same (Some actor) has reaper slot is is2 f g = fetches_same actor slot f g
    taken_same None true reaper slot is is2 f g = reaps_same reaper slot (had_box c (boxes_of c r) slot is) (had_box d (boxes_of d q) slot is2) f g
    taken_same None false reaper slot is is2 f g = idle_same f g

    takes_same : (may : Bool) (reaper slot : ℕ) → TakeDoes may c reaper slot olds made news → TakeDoes may d reaper slot olds made2 news2 → EventSame c d made made2 news news2
    takes_same true reaper slot f g =
        let has : list_any (λ k. k == slot) (reaper_slots d) ≡ list_any (λ k. k == slot) (reaper_slots c) = ap (λ (x : Control). list_any (λ k. k == slot) (reaper_slots x)) (sym p) in
        taken_same (actor_with slot 0 olds) (list_any (λ k. k == slot) (reaper_slots c)) reaper slot refl has f
        (subst (λ (b : Bool). TakenBy (actor_with slot 0 olds) b reaper slot olds made2 news2) has g)
    takes_same false reaper slot f g = idle_same f g

    asks_same : (conductor : ℕ) → AsksOnceMore conductor olds made news → AsksOnceMore conductor olds made2 news2 → EventSame c d made made2 news news2
    asks_same conductor f g =
        aside_same conductor (AsksRoot f.acts) (AsksRoot g.acts) f.made_is g.made_is
        (asked_same cap cup c d past true (AsksRoot f.acts ∷ []) (AsksRoot g.acts ∷ []) p
        (walk_deed cap c past conductor (AsksRoot f.acts) made f.made_is walk) (walk_deed cup d past conductor (AsksRoot g.acts) made2 g.made_is walk_too) (f.acts, f.asks, refl) (g.acts, g.asks, refl)) f.new_is g.new_is

    pub event_same : (event : CoreEvent) → EventDoes 1 c event olds made news → EventDoes 1 d event olds made2 news2 → EventSame c d made made2 news news2
    event_same (NextLine w) f g = line_same w (slice_get olds w) refl f g
    event_same (TakeFrom slot) f g =
        let may : may_take d slot ≡ may_take c slot = ap (λ (x : Control). may_take x slot) (sym p) in
        takes_same (may_take c slot) (length olds) slot f (subst (λ (b : Bool). TakeDoes b d (length olds) slot olds made2 news2) may g)
    event_same AskRoot f g = asks_same (length olds + 1 + 1) f g
    event_same (Tick now) f g = aside_same (length olds + 1 + 1) (Reads now) (Reads now) f.0 g.0 (record { same = same_none c d p; bares = refl }) f.1 g.1
