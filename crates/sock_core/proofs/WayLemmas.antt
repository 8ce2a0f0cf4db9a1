-- What was done to a socket's ends, with one note more, and what it did to its kind's state.
use Rattle.std.proofs.Common.{◌≡◌, ◌==◌, ◌∙◌, ℕ, zero, suc, Bool, true, false, List, [], ◌∷◌, ◌++◌, Some, length, refl, sym, ap, subst, set, nat_eq, eqb-true, true≢false, if◌then◌else◌}
use Rattle.std.proofs.lemmas.Bool.{eq-eqb}
use Rattle.std.proofs.lemmas.List.{append-nil, append_assoc}
use Rattle.zq_base.specs.declared.attached.Attached.{Attached}
use Rattle.zq_base.specs.declared.attached.Attached.TheVariants.{Yes, BadId, Second}
use Rattle.zq_base.specs.declared.ids.EndId.{EndId}
use Rattle.spec_pattern.specs.TurnList.{End}
use Rattle.spec_pattern.specs.Pattern.{Pattern, attach_answer, attach_as, detach}
use Rattle.spec_control.specs.declared.end.EndState.{EndState}
use Rattle.spec_control.specs.declared.entry.Joining.{Joining}
use Rattle.spec_control.specs.Place.{At}
use Rattle.spec_control.specs.OwnAsks.{is_none}
use Rattle.spec_run.specs.OpenSocket.{is_out, attach_all, detach_all, AreAnswered}
use Rattle.end_table.specs.declared.table.Place.{Place}
use Rattle.end_table.specs.Places.{place_at}
use Rattle.end_table.proofs.SoundLemmas.{one_some}
use Rattle.end_table.proofs.PlaceLemmas.{place_there, place_else}
use Rattle.sock_core.specs.declared.joint.JoinNote.{JoinNote}
use Rattle.pub_sub.specs.Places.{AreOthers}
use Rattle.sock_core.specs.Peers.{is_taken}
use Rattle.sock_core.specs.Patterns.{IsAlike, CameBy, CanJoin, UndoesAs, AnswersAs, AttachesAs, NamesWhere}
use Rattle.sock_core.specs.Standing.{without_last}
use Rattle.sock_core.specs.Way.{Way, outs_of, without_first, with_came, with_undone, then_noted, way_from, oldest_first, CanJoinAll, IsNaming, StandsAs, AllStand, CameAs, HaveCome, KindWay}
use Rattle.sock_core.proofs.StandingLemmas.{last_off}

-- ---- notes and lists

pub way_more : {N : Type 0} (w : Way N) (notes : List (JoinNote N × List ℕ)) (note : JoinNote N × List ℕ) → way_from w (notes ++ note ∷ []) ≡ then_noted (way_from w notes) note.0 note.1
way_more w [] note = refl
way_more w (n ∷ notes) note = way_more (then_noted w n.0 n.1) notes note

pub some_last : {A : Type 0} (xs : List A) (x : A) → xs ++ x ∷ [] ≡ [] → ⊥
some_last [] x e = absurd (true≢false (sym (ap is_none e)))
some_last (y ∷ xs) x e = absurd (true≢false (sym (ap is_none e)))

outs_more : (ts : List (EndId × EndState)) (e : EndId) (s : EndState) → outs_of (ts ++ (e, s) ∷ []) ≡ outs_of ts ++ (if is_out (At s) then e ∷ [] else [])
outs_more [] e s = refl
outs_more (t ∷ ts) e s = by (outs_more ts e s) (is_out (At t.1))
  where
    by : outs_of (ts ++ (e, s) ∷ []) ≡ outs_of ts ++ (if is_out (At s) then e ∷ [] else []) → (b : Bool)
        → (if b then t.0 ∷ outs_of (ts ++ (e, s) ∷ []) else outs_of (ts ++ (e, s) ∷ [])) ≡ (if b then t.0 ∷ outs_of ts else outs_of ts) ++ (if is_out (At s) then e ∷ [] else [])
    by rest true = ap (λ (l : List EndId). t.0 ∷ l) rest
    by rest false = rest

detach_last : (es : List EndId) (e : EndId) (p : Pattern) → detach_all (es ++ e ∷ []) p ≡ detach e (detach_all es p)
detach_last [] e p = refl
detach_last (x ∷ es) e p = detach_last es e (detach x p)

module _ {N : Type 0} where
  -- the end that joined last stands at this place
  abbrev pub stood_last : ℕ → List (Joining N × ℕ) → Bool
  stood_last place [] = false
  stood_last place (x ∷ xs) = x.1 == place

  attach_last : (js : List (Joining N)) (j : Joining N) (p : Pattern) → attach_all (js ++ j ∷ []) p ≡ attach_as j.answer j.end j.peer (attach_all js p)
  attach_last [] j p = refl
  attach_last (x ∷ js) j p = attach_last js j (attach_as x.answer x.end x.peer p)

  answered_last : (js : List (Joining N)) (j : Joining N) (p : Pattern) → AreAnswered js p → j.answer ≡ attach_answer j.peer (attach_all js p) → AreAnswered (js ++ j ∷ []) p
  answered_last [] j p all h = (h, tt)
  answered_last (x ∷ js) j p all h = (all.0, answered_last js j (attach_as x.answer x.end x.peer p) all.1 h)

  can_first : (js : List (Joining N)) (j : Joining N) (p : Pattern) → CanJoinAll (js ++ j ∷ []) p → CanJoinAll js p × CanJoin j.peer (attach_all js p)
  can_first [] j p can = (tt, can.0)
  can_first (x ∷ js) j p can = let r = can_first js j (attach_as x.answer x.end x.peer p) can.1 in ((can.0, r.0), r.1)

  -- the ends that joined go by these names
  abbrev AreNamed : (ℕ → EndId) → List (Joining N × ℕ) → Type 0
  AreNamed ends [] = Unit {0}
  AreNamed ends (x ∷ xs) = (ends x.1 ≡ x.0.end) × AreNamed ends xs

-- ---- places

module _ {N I : Type 0} where
  -- an end stands where it stood, and is a peer as before where this is so
  pub record StandsStill (quiet : Type 0) (p : Place N I) (qs : List (Place N I)) (k : ℕ) : Type 0 where
    pub place : Place N I
    pub there : place_at qs k ≡ Some place
    pub end_is : place.end ≡ p.end
    pub flag : quiet → place.peer ≡ p.peer

  abbrev pub AllStandStill : (quiet : Type 0) → (ps qs : List (Place N I)) → Type 0
  AllStandStill quiet ps qs = (k : ℕ) (p : Place N I) → place_at ps k ≡ Some p → StandsStill quiet p qs k

  pub all_still : (quiet : Type 0) (ps : List (Place N I)) → AllStandStill quiet ps ps
  all_still quiet ps = λ k p at. record { place = p; there = at; end_is = refl; flag = λ q. refl }

  -- where one place changed, or one came behind the others
  pub still_set : (quiet : Type 0) (ps : List (Place N I)) (place : ℕ) (p q : Place N I) → place_at ps place ≡ Some p → q.end ≡ p.end → (quiet → q.peer ≡ p.peer) → AllStandStill quiet ps (set ps place q)
  still_set quiet ps place p q at same flags = λ j r there. one j r there (nat_eq place j) refl
    where
      one : (j : ℕ) (r : Place N I) → place_at ps j ≡ Some r → (b : Bool) → nat_eq place j ≡ b → StandsStill quiet r (set ps place q) j
      one j r there true here =
          let e = eqb-true place j here in
          let is : p ≡ r = one_some p r (sym at ∙ ap (place_at ps) e ∙ there) in
          record {
            place = q;
            there = ap (place_at (set ps place q)) (sym e) ∙ place_there ps place p q at;
            end_is = same ∙ ap (λ (x : Place N I). x.end) is;
            flag = λ quiet. flags quiet ∙ ap (λ (x : Place N I). x.peer) is;
          }
      one j r there false off = record {
        place = r;
        there = place_else ps place j q (λ e. true≢false (sym (eq-eqb place j (sym e)) ∙ off)) ∙ there;
        end_is = refl;
        flag = λ quiet. refl;
      }

  pub at_before : (ps : List (Place N I)) (q r : Place N I) (j : ℕ) → place_at ps j ≡ Some r → place_at (ps ++ q ∷ []) j ≡ Some r
  at_before [] q r j at = cc
  at_before (x ∷ ps) q r zero at = at
  at_before (x ∷ ps) q r (suc j) at = at_before ps q r j at

  pub at_last : (ps : List (Place N I)) (q : Place N I) → place_at (ps ++ q ∷ []) (length ps) ≡ Some q
  at_last [] q = refl
  at_last (x ∷ ps) q = at_last ps q

  still_more : (quiet : Type 0) (ps : List (Place N I)) (q : Place N I) → AllStandStill quiet ps (ps ++ q ∷ [])
  still_more quiet ps q = λ j r there. record { place = r; there = at_before ps q r j there; end_is = refl; flag = λ _. refl }

  pub naming_kept : (quiet : Type 0) (ps qs : List (Place N I)) (ends : ℕ → EndId) → AllStandStill quiet ps qs → IsNaming qs ends → IsNaming ps ends
  naming_kept quiet ps qs ends still right = λ k p at. let q = still k p at in right k q.place q.there ∙ q.end_is

  stand_kept : (ps qs : List (Place N I)) (turns turns' : List (EndId × EndState)) (xs : List (Joining N × ℕ)) → (turns' ≡ [] → turns ≡ []) → AllStandStill (turns' ≡ []) ps qs → AllStand ps turns xs → AllStand qs turns' xs
  stand_kept ps qs turns turns' [] back still stand = tt
  stand_kept ps qs turns turns' (x ∷ xs) back still stand =
      let s = stand.0 in
      let q = still x.1 s.place s.there in
      (record { place = q.place; there = q.there; end_is = q.end_is ∙ s.end_is; flag = λ none. q.flag none ∙ s.flag (back none) }, stand_kept ps qs turns turns' xs back still stand.1)

  named_of : (ps : List (Place N I)) (turns : List (EndId × EndState)) (xs : List (Joining N × ℕ)) (ends : ℕ → EndId) → AllStand ps turns xs → IsNaming ps ends → AreNamed ends xs
  named_of ps turns [] ends stand right = tt
  named_of ps turns (x ∷ xs) ends stand right = (right x.1 stand.0.place stand.0.there ∙ stand.0.end_is, named_of ps turns xs ends stand.1 right)

-- ---- the kind

module _ {N C : Type 0} (pattern : (ℕ → End) → C → Pattern) (names : C → List ℕ → Type 0) (sound : C → Type 0) (peers : C → List ℕ) where
  abbrev Come : List (Joining N × ℕ) → C → C → Type 0
  Come xs first now = HaveCome pattern names sound peers xs first now

  came_alike : (x : Joining N × ℕ) (before now now' : C) → IsAlike pattern now now' → CameAs pattern names sound peers x before now → CameAs pattern names sound peers x before now'
  came_alike x before now now' same came = record {
    attached = λ ends. same ends ∙ came.attached ends;
    taken = λ yes.
        let b = came.taken yes in
        record { is_sound = b.is_sound; no_peer = b.no_peer; identity = b.identity; can_name = b.can_name; attached = λ ends. same ends ∙ b.attached ends };
    answered = came.answered;
  }

  come_alike : (xs : List (Joining N × ℕ)) (first now now' : C) → IsAlike pattern now now' → Come xs first now → Come xs first now'
  come_alike [] first now now' same come = λ ends. same ends ∙ come ends
  come_alike (x ∷ xs) first now now' same come = (come.0, came_alike x come.0 now now' same come.1, come.2)

  come_goes : (xs : List (Joining N × ℕ)) (first now : C) (ends : ℕ → EndId) → Come xs first now → AreNamed ends xs → pattern ends now ≡ attach_all (oldest_first xs) (pattern ends first)
  come_goes [] first now ends come named = come ends
  come_goes (x ∷ xs) first now ends come named =
      come.1.attached ends
      ∙ ap (λ (e : EndId). attach_as x.0.answer e x.0.peer (pattern ends come.0)) named.0
      ∙ ap (λ (p : Pattern). attach_as x.0.answer x.0.end x.0.peer p) (come_goes xs first come.0 ends come.2 named.1)
      ∙ sym (attach_last (oldest_first xs) x.0 (pattern ends first))

  come_answered : (xs : List (Joining N × ℕ)) (first now : C) (ends : ℕ → EndId) → Come xs first now → AreNamed ends xs → CanJoinAll (oldest_first xs) (pattern ends first) → AreAnswered (oldest_first xs) (pattern ends first)
  come_answered [] first now ends come named can = tt
  come_answered (x ∷ xs) first now ends come named can =
      let c = can_first (oldest_first xs) x.0 (pattern ends first) can in
      let same = come_goes xs first come.0 ends come.2 named.1 in
      answered_last (oldest_first xs) x.0 (pattern ends first) (come_answered xs first come.0 ends come.2 named.1 c.0)
      (come.1.answered ends (subst (λ (p : Pattern). CanJoin x.0.peer p) (sym same) c.1) ∙ ap (λ (p : Pattern). attach_answer x.0.peer p) same)

  -- what an attach says
  pub came_as : (old new : C) (j : Joining N) (place : ℕ) → sound old → NamesWhere pattern names old → AreOthers place (peers old) → (j.answer ≡ Yes → names old j.peer)
      → AnswersAs pattern names j.peer old j.answer → AttachesAs pattern place j.peer j.answer old new → CameAs pattern names sound peers (j, place) old new
  came_as old new j place is_sound where_named no_peer named answers attaches = record {
    attached = attaches;
    taken = λ yes. record {
      is_sound = is_sound;
      no_peer = no_peer;
      identity = j.peer;
      can_name = named yes;
      attached = λ ends. attaches ends ∙ ap (λ (a : Attached). attach_as a (ends place) j.peer (pattern ends old)) (answers (named yes) ends);
    };
    answered = λ ends can. answers (where_named ends j.peer can) ends;
  }

  module _ {I : Type 0} where
    abbrev Goes : Way N → List (Place N I) → (joins0 joins : List (Joining N)) → (turns0 turns : List (EndId × EndState)) → (first now : C) → Type 0
    Goes w ps joins0 joins turns0 turns first now = KindWay pattern names sound peers w ps joins0 joins turns0 turns first now

    -- while no end changed its state, all follows from how the ends joined
    way_of_come : (w : Way N) (ps : List (Place N I)) (joins0 joins : List (Joining N)) (turns0 turns : List (EndId × EndState)) (first now : C) → w.turns ≡ []
        → joins ≡ joins0 ++ oldest_first w.joined → turns ≡ turns0 ++ w.turns → Come w.joined first now → AllStand ps w.turns w.joined → Goes w ps joins0 joins turns0 turns first now
    way_of_come w ps joins0 joins turns0 turns first now none joins_are turns_are come stand = record {
      joins_are = joins_are;
      turns_are = turns_are;
      come = λ n. come;
      stand = stand;
      goes = λ ends right.
          come_goes w.joined first now ends come (named_of ps w.turns w.joined ends stand right)
          ∙ sym (ap (λ (ts : List (EndId × EndState)). detach_all (outs_of ts) (attach_all (oldest_first w.joined) (pattern ends first))) none);
      answered = λ ends right can. come_answered w.joined first now ends come (named_of ps w.turns w.joined ends stand right) can;
    }

    -- nothing was done yet
    pub way_begun : (ps : List (Place N I)) (joins : List (Joining N)) (turns : List (EndId × EndState)) (first : C) → Goes (record { joined = []; turns = [] }) ps joins joins turns turns first first
    way_begun ps joins turns first =
        way_of_come (record { joined = []; turns = [] }) ps joins joins turns turns first first refl (sym (append-nil joins)) (sym (append-nil turns)) (λ ends. refl) tt

    -- the same ends, and a state that is alike
    pub way_kept : (w : Way N) (ps qs : List (Place N I)) (joins0 joins : List (Joining N)) (turns0 turns : List (EndId × EndState)) (first now now' : C)
        → AllStandStill (w.turns ≡ []) ps qs → IsAlike pattern now now' → Goes w ps joins0 joins turns0 turns first now → Goes w qs joins0 joins turns0 turns first now'
    way_kept w ps qs joins0 joins turns0 turns first now now' still same k = record {
      joins_are = k.joins_are;
      turns_are = k.turns_are;
      come = λ none. come_alike w.joined first now now' same (k.come none);
      stand = stand_kept ps qs w.turns w.turns w.joined (λ e. e) still k.stand;
      goes = λ ends right. same ends ∙ k.goes ends (naming_kept (w.turns ≡ []) ps qs ends still right);
      answered = λ ends right. k.answered ends (naming_kept (w.turns ≡ []) ps qs ends still right);
    }

    -- an end joined, behind the others
    pub way_came : (w : Way N) (ps qs : List (Place N I)) (joins0 joins joins' : List (Joining N)) (turns0 turns : List (EndId × EndState)) (first now new : C) (j : Joining N) (place : ℕ)
        → w.turns ≡ [] → AllStandStill (w.turns ≡ []) ps qs → StandsAs qs w.turns (j, place) → joins' ≡ joins ++ j ∷ [] → CameAs pattern names sound peers (j, place) now new
        → Goes w ps joins0 joins turns0 turns first now → Goes (record { joined = (j, place) ∷ w.joined; turns = w.turns }) qs joins0 joins' turns0 turns first new
    way_came w ps qs joins0 joins joins' turns0 turns first now new j place none still here more came k =
        way_of_come (record { joined = (j, place) ∷ w.joined; turns = w.turns }) qs joins0 joins' turns0 turns first new none
        (more ∙ ap (λ (l : List (Joining N)). l ++ j ∷ []) k.joins_are ∙ append_assoc joins0 (oldest_first w.joined) (j ∷ [])) k.turns_are
        (now, came, k.come none) (here, stand_kept ps qs w.turns w.turns w.joined (λ e. e) still k.stand)

    -- the one that joined last was taken back
    pub way_undone : (w : Way N) (is_peer : Bool) (ps qs : List (Place N I)) (joins0 joins joins' : List (Joining N)) (turns0 turns : List (EndId × EndState)) (first now new : C) (place : ℕ) (p : Place N I)
        → w.turns ≡ [] → stood_last place w.joined ≡ true → AllStandStill (w.turns ≡ []) ps qs → place_at ps place ≡ Some p → is_peer ≡ p.peer → joins' ≡ without_last joins
        → UndoesAs pattern names sound peers is_peer place now new
        → Goes w ps joins0 joins turns0 turns first now → Goes (record { joined = without_first w.joined; turns = w.turns }) qs joins0 joins' turns0 turns first new
    way_undone w is_peer ps qs joins0 joins joins' turns0 turns first now new place p none last still at flag less undoes k = by w.joined last k.joins_are k.stand (k.come none)
      where
        alike : (x : Joining N × ℕ) (before : C) → x.1 ≡ place → is_peer ≡ is_taken x.0.answer → CameAs pattern names sound peers x before now → IsAlike pattern before new
        alike x before same taken came = answer x.0.answer refl
          where
            answer : (a : Attached) → x.0.answer ≡ a → IsAlike pattern before new
            answer Yes is = undoes.peer (taken ∙ ap is_taken is) before (subst (λ (n : ℕ). CameBy pattern names sound peers n before now) same (came.taken is))
            answer BadId is = λ ends.
                ap (pattern ends) (undoes.none (taken ∙ ap is_taken is)) ∙ came.attached ends ∙ ap (λ (a : Attached). attach_as a (ends x.1) x.0.peer (pattern ends before)) is
            answer Second is = λ ends.
                ap (pattern ends) (undoes.none (taken ∙ ap is_taken is)) ∙ came.attached ends ∙ ap (λ (a : Attached). attach_as a (ends x.1) x.0.peer (pattern ends before)) is

        one_place : (q : Place N I) → place_at ps place ≡ Some q → p ≡ q
        one_place q there = one_of p q (sym at ∙ there)
          where
            one_of : (x y : Place N I) → Some x ≡ Some y → x ≡ y
            one_of x y e = cc

        by : (xs : List (Joining N × ℕ)) → stood_last place xs ≡ true → joins ≡ joins0 ++ oldest_first xs → AllStand ps w.turns xs → Come xs first now
            → Goes (record { joined = without_first xs; turns = w.turns }) qs joins0 joins' turns0 turns first new
        by [] last are stand come = absurd (true≢false (sym last))
        by (x ∷ xs) last are stand come =
            let same = eqb-true x.1 place last in
            let is = one_place stand.0.place (subst (λ (n : ℕ). place_at ps n ≡ Some stand.0.place) same stand.0.there) in
            way_of_come (record { joined = xs; turns = w.turns }) qs joins0 joins' turns0 turns first new none
            (less ∙ ap (λ (l : List (Joining N)). without_last l) (are ∙ sym (append_assoc joins0 (oldest_first xs) (x.0 ∷ []))) ∙ last_off (joins0 ++ oldest_first xs) x.0) k.turns_are
            (come_alike xs first come.0 new (alike x come.0 same (flag ∙ ap (λ (y : Place N I). y.peer) is ∙ stand.0.flag none) come.1) come.2)
            (stand_kept ps qs w.turns w.turns xs (λ e. e) still stand.1)

    -- an end changed its state, and is detached where it goes
    pub way_turned : (w : Way N) (ps qs : List (Place N I)) (joins0 joins : List (Joining N)) (turns0 turns turns' : List (EndId × EndState)) (first now new : C) (e : EndId) (state : EndState)
        → AllStandStill (w.turns ++ (e, state) ∷ [] ≡ []) ps qs → turns' ≡ turns ++ (e, state) ∷ []
        → ((ends : ℕ → EndId) → IsNaming ps ends → pattern ends new ≡ (if is_out (At state) then detach e (pattern ends now) else pattern ends now))
        → Goes w ps joins0 joins turns0 turns first now → Goes (record { joined = w.joined; turns = w.turns ++ (e, state) ∷ [] }) qs joins0 joins turns0 turns' first new
    way_turned w ps qs joins0 joins turns0 turns turns' first now new e state still more moved k = record {
      joins_are = k.joins_are;
      turns_are = more ∙ ap (λ (l : List (EndId × EndState)). l ++ (e, state) ∷ []) k.turns_are ∙ append_assoc turns0 w.turns ((e, state) ∷ []);
      come = λ none. absurd (some_last w.turns (e, state) none);
      stand = stand_kept ps qs w.turns (w.turns ++ (e, state) ∷ []) w.joined (λ none. absurd (some_last w.turns (e, state) none)) still k.stand;
      goes = λ ends right.
          let before = naming_kept (w.turns ++ (e, state) ∷ [] ≡ []) ps qs ends still right in
          moved ends before ∙ by (attach_all (oldest_first w.joined) (pattern ends first)) (pattern ends now) (k.goes ends before) (is_out (At state))
          ∙ sym (ap (λ (l : List EndId). detach_all l (attach_all (oldest_first w.joined) (pattern ends first))) (outs_more w.turns e state));
      answered = λ ends right. k.answered ends (naming_kept (w.turns ++ (e, state) ∷ [] ≡ []) ps qs ends still right);
    }
      where
        by : (x p : Pattern) → p ≡ detach_all (outs_of w.turns) x → (b : Bool) → (if b then detach e p else p) ≡ detach_all (outs_of w.turns ++ (if b then e ∷ [] else [])) x
        by x p was true = ap (λ (q : Pattern). detach e q) was ∙ sym (detach_last (outs_of w.turns) e x)
        by x p was false = was ∙ ap (λ (l : List EndId). detach_all l x) (sym (append-nil (outs_of w.turns)))

    -- ---- by the notes

    pub noted_came : (w w' : Way N) (ps qs : List (Place N I)) (joins0 joins joins' : List (Joining N)) (turns0 turns : List (EndId × EndState)) (first old new : C) (j : Joining N) (place : ℕ) (q : Place N I)
        → w' ≡ with_came j place w → w.turns ≡ [] → qs ≡ ps ++ q ∷ [] → place ≡ length ps → q.end ≡ j.end → q.peer ≡ is_taken j.answer → joins' ≡ joins ++ j ∷ [] → CameAs pattern names sound peers (j, place) old new
        → Goes w ps joins0 joins turns0 turns first old → Goes w' qs joins0 joins' turns0 turns first new
    noted_came w w' ps qs joins0 joins joins' turns0 turns first old new j place q noted quiet behind last same flag more came k =
        subst (λ (x : Way N). Goes x qs joins0 joins' turns0 turns first new) (sym noted)
        (subst (λ (l : List (Place N I)). Goes (with_came j place w) l joins0 joins' turns0 turns first new) (sym behind)
        (way_came w ps (ps ++ q ∷ []) joins0 joins joins' turns0 turns first old new j place quiet (still_more (w.turns ≡ []) ps q)
        (record { place = q; there = ap (place_at (ps ++ q ∷ [])) last ∙ at_last ps q; end_is = same; flag = λ _. flag }) more came k))

    pub noted_undone : (w w' : Way N) (is_peer : Bool) (ps : List (Place N I)) (joins0 joins joins' : List (Joining N)) (turns0 turns : List (EndId × EndState)) (first old new : C) (place : ℕ) (p q : Place N I)
        → w' ≡ with_undone w → w.turns ≡ [] → stood_last place w.joined ≡ true → place_at ps place ≡ Some p → q.end ≡ p.end → q.peer ≡ p.peer → is_peer ≡ p.peer → joins' ≡ without_last joins → UndoesAs pattern names sound peers is_peer place old new
        → Goes w ps joins0 joins turns0 turns first old → Goes w' (set ps place q) joins0 joins' turns0 turns first new
    noted_undone w w' is_peer ps joins0 joins joins' turns0 turns first old new place p q noted quiet last at same kept flag less undoes k =
        subst (λ (x : Way N). Goes x (set ps place q) joins0 joins' turns0 turns first new) (sym noted)
        (way_undone w is_peer ps (set ps place q) joins0 joins joins' turns0 turns first old new place p quiet last (still_set (w.turns ≡ []) ps place p q at same (λ _. kept)) at flag less undoes k)

    -- a place changed, and neither its end nor whether that is a peer
    pub way_set : (w : Way N) (ps : List (Place N I)) (joins0 joins : List (Joining N)) (turns0 turns : List (EndId × EndState)) (first now : C) (place : ℕ) (p q : Place N I)
        → place_at ps place ≡ Some p → q.end ≡ p.end → q.peer ≡ p.peer → Goes w ps joins0 joins turns0 turns first now → Goes w (set ps place q) joins0 joins turns0 turns first now
    way_set w ps joins0 joins turns0 turns first now place p q at same flag k =
        way_kept w ps (set ps place q) joins0 joins turns0 turns first now now (still_set (w.turns ≡ []) ps place p q at same (λ _. flag)) (λ ends. refl) k
