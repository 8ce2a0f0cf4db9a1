-- Within an event of one object all others stay as prompt as they were.
use Rattle.std.specs.Prelude.{◌≡◌, ◌≢◌, ◌<◌, ◌≤◌, ◌==◌, ℕ, Bool, true, false, not, cond, [], ◌∷◌, ◌++◌, length, Some, sum_by, refl}
use Rattle.std.proofs.Common.{arith, sym, ap, ◌∙◌, subst, inl, inr}
use Rattle.std.proofs.lemmas.List.Sums.{sum_by_push, get_or-le-sum_by}
use Rattle.std.proofs.lemmas.Bool.{eqb-true, cases_eq}
use Rattle.spec_control.specs.declared.stage.Stage.{Stage}
use Rattle.spec_control.specs.declared.stage.Stage.TheVariants.{Alive, Ending, Finished}
use Rattle.spec_control.specs.Stage.{is_alive, has_ended, was_asked}
use Rattle.spec_control.specs.Place.{Place, Unmade, Away, At, Half, is_unmade, was_ended}
use Rattle.spec_control.specs.PairPhase.{PairEvent, Opens, BindCame, Happens, other_after, may}
use Rattle.spec_control.specs.Row.{Row, nobody, reads_on}
use Rattle.spec_control.specs.Rows.{PairRow, Rows, no_pair, obj, pair, with_object, with_pair, end_place, end_owner, end_half, PairMoves, is_owner, of_child, of_ends, own_waits, ack_at, ack_waits, lives_noted, bind_waits, end_waits, behind, owed, living, MayEnd}
use Rattle.control_laws.specs.Prompt.{IsPromptBut, IsPromptAt, IsPrompt}
use Rattle.control_laws.proofs.ListLemmas.{never, clash, right, is_old, is_new, pushed, is_here as here_is, is_elsewhere, written, placed}
use Rattle.control_laws.proofs.LinkLemmas.{some_is, place_is}
use Rattle.control_laws.proofs.RowLemmas.{pair_there}
use Rattle.control_laws.proofs.OthersLemmas.{sum_same, sum_grows, others}

-- an object that was added
pub object_prompt : (s : Rows) (out : ℕ → Bool) (b w : ℕ) (o : Row) → o.owner ≡ Some w → o.stage ≡ Alive → (w ≢ 0 → o.noted ≡ true → was_asked (obj s w).stage ≡ false) →
    IsPromptBut b s out → IsPromptBut b (record s { objects = s.objects ++ o ∷ [] }) out
object_prompt s out b w o owner alive known prompt = record { ends = λ k a other h. reads k a h ∙ prompt.ends k a other (asked _ h); children = kids; ended = ended }
  where
    t : Rows
    t = record s { objects = s.objects ++ o ∷ [] }

    asked : (i : ℕ) → was_asked (obj t i).stage ≡ true → was_asked (obj s i).stage ≡ true
    asked i h =
        elim (pushed s.objects o nobody i) [
          | is_old same ↦ sym (ap (λ (v : Row). was_asked v.stage) same) ∙ h
          | is_new at same was ↦ absurd (never (sym (ap (λ (v : Row). was_asked v.stage) same ∙ ap was_asked alive) ∙ h))
        ]

    reads : (k : ℕ) (a : Bool) → was_asked (obj t (end_owner (pair s k) a)).stage ≡ true →
        was_ended (reads_on (obj t (end_owner (pair s k) a))) (end_place (pair s k) a) ≡ was_ended (reads_on (obj s (end_owner (pair s k) a))) (end_place (pair s k) a)
    reads k a h =
        elim (pushed s.objects o nobody (end_owner (pair s k) a)) [
          | is_old same ↦ ap (λ (v : Row). was_ended (reads_on v) (end_place (pair s k) a)) same
          | is_new at same was ↦ absurd (never (sym (ap (λ (v : Row). was_asked v.stage) same ∙ ap was_asked alive) ∙ h))
        ]

    kids : (d v : ℕ) → v ≢ 0 → v ≢ b → (obj t d).owner ≡ Some v → was_asked (obj t v).stage ≡ true → (obj t d).noted ≡ true → is_alive (obj t d).stage ≡ false
    kids d v below other owned h noted =
        elim (pushed s.objects o nobody d) [
          | is_old same ↦ ap (λ (x : Row). is_alive x.stage) same ∙ prompt.children d v below other (sym (ap (λ (x : Row). x.owner) same) ∙ owned) (asked v h) (sym (ap (λ (x : Row). x.noted) same) ∙ noted)
          | is_new at same was ↦
              let v_is = some_is v w (sym owned ∙ ap (λ (x : Row). x.owner) same ∙ owner) in
              absurd (clash _ (subst (λ (m : ℕ). was_asked (obj s m).stage ≡ true) v_is (asked v h)) (known (λ z. below (v_is ∙ z)) (sym (ap (λ (x : Row). x.noted) same) ∙ noted)))
        ]

    ended : (i : ℕ) → i ≢ b → (obj t i).stage ≡ Ending → behind t i ≡ 0 → owed t i ≡ 0 → living t i ≡ 0 → out i ≡ true
    ended i other stage level nothing_owed no_child =
        let owns = sum_by_push (of_child own_waits i) s.objects o in
        let acks = sum_by_push (of_child ack_waits i) s.objects o in
        let lives = sum_by_push (of_child lives_noted i) s.objects o in
        elim (pushed s.objects o nobody i) [
          | is_old same ↦
              let plug = ap {B = ℕ} (λ (x : Row). cond x.plugged 0 1) same in
              prompt.ended i other (sym (ap (λ (x : Row). x.stage) same) ∙ stage) (omega (arith, owns, plug, level)) (omega (arith, acks, nothing_owed)) (omega (arith, lives, no_child))
          | is_new at same was ↦ absurd (not_ending (sym alive ∙ sym (ap (λ (x : Row). x.stage) same) ∙ stage))
        ]
      where
        not_ending : Alive ≡ Ending → ⊥
        not_ending h = never (ap was_asked h)

-- a pair whose number was drawn
pub draw_prompt : (s : Rows) (out : ℕ → Bool) (b : ℕ) (p : PairRow) → p.a ≡ Unmade → p.b ≡ Unmade → IsPromptBut b s out → IsPromptBut b (record s { pairs = s.pairs ++ p ∷ [] }) out
draw_prompt s out b p a_is b_is prompt = record { ends = ends; children = prompt.children; ended = ended }
  where
    t : Rows
    t = record s { pairs = s.pairs ++ p ∷ [] }

    unmade : (on x : Bool) → was_ended on (end_place p x) ≡ true
    unmade on true = ap (was_ended on) a_is
    unmade on false = ap (was_ended on) b_is

    ends : (k : ℕ) (a : Bool) → end_owner (pair t k) a ≢ b → was_asked (obj t (end_owner (pair t k) a)).stage ≡ true →
        was_ended (reads_on (obj s (end_owner (pair t k) a))) (end_place (pair t k) a) ≡ true
    ends k a other h =
        elim (pushed s.pairs p no_pair k) [
          | is_old same ↦
              ap (λ (q : PairRow). was_ended (reads_on (obj s (end_owner q a))) (end_place q a)) same
              ∙ prompt.ends k a (λ e. other (ap (λ (q : PairRow). end_owner q a) same ∙ e)) (subst (λ (q : PairRow). was_asked (obj s (end_owner q a)).stage ≡ true) same h)
          | is_new at same was ↦ ap (λ (q : PairRow). was_ended (reads_on (obj s (end_owner q a))) (end_place q a)) same ∙ unmade _ a
        ]

    ended : (i : ℕ) → i ≢ b → (obj t i).stage ≡ Ending → behind t i ≡ 0 → owed t i ≡ 0 → living t i ≡ 0 → out i ≡ true
    ended i other stage level nothing_owed no_child =
        let binds = sum_by_push (of_ends bind_waits i) s.pairs p in
        let gone = sum_by_push (of_ends end_waits i) s.pairs p in
        prompt.ended i other stage (omega (arith, binds, level)) (omega (arith, gone, nothing_owed)) no_child

-- the other end of a pair is where it was, or its bind is on its way now
data Stays (old new : Place) : Type 0 where
  same_place : new ≡ old → Stays old new
  now_away : old ≡ Unmade → new ≡ Away → Stays old new

unmade_is : (place : Place) → is_unmade place ≡ true → place ≡ Unmade
unmade_is Unmade h = refl
unmade_is Away h = absurd (never h)
unmade_is (At state) h = absurd (never h)

other_stays : (e : PairEvent) (mine theirs : Half) (new : Place) → may e mine theirs ≡ true → new ≡ other_after e theirs.place → Stays theirs.place new
other_stays Opens mine theirs new may is = now_away (unmade_is _ (right (is_unmade mine.place) _ may)) is
other_stays BindCame mine theirs new may is = same_place is
other_stays (Happens event) mine theirs new may is = same_place is

-- an event of an end of b
pub half_prompt : (s : Rows) (out : ℕ → Bool) (b k : ℕ) (a : Bool) (e : PairEvent) (p : PairRow) → PairMoves e a (pair s k) p → end_owner (pair s k) a ≡ b →
    IsPromptBut b s out → IsPromptBut b (with_pair k p s) out
half_prompt s out b k a e p m of prompt = record { ends = ends; children = prompt.children; ended = ended }
  where
    old : PairRow
    old = pair s k

    t : Rows
    t = with_pair k p s

    there : k < length s.pairs
    there = pair_there s k a e m.comes

    owners : (x : Bool) → end_owner p x ≡ end_owner old x
    owners true = m.a_owner
    owners false = m.b_owner

    -- the other end is where it was, or its bind is on its way now
    place : (x : Bool) → end_owner old x ≢ b → Stays (end_place old x) (end_place p x)
    place x other = by a x of (other_stays e (end_half old a) (end_half old (not a)) (end_place p (not a)) m.comes (place_is _ _ m.theirs)) other
      where
        by : (y x : Bool) → end_owner old y ≡ b → Stays (end_place old (not y)) (end_place p (not y)) → end_owner old x ≢ b → Stays (end_place old x) (end_place p x)
        by true true is th other = absurd (other is)
        by true false is th other = th
        by false true is th other = th
        by false false is th other = absurd (other is)

    still_ended : (on : Bool) (x y : Place) → Stays x y → was_ended on x ≡ true → was_ended on y ≡ true
    still_ended on x y (same_place e) h = ap (was_ended on) e ∙ h
    still_ended on x y (now_away e f) h = ap (was_ended on) f

    ends : (j : ℕ) (x : Bool) → end_owner (pair t j) x ≢ b → was_asked (obj t (end_owner (pair t j) x)).stage ≡ true →
        was_ended (reads_on (obj s (end_owner (pair t j) x))) (end_place (pair t j) x) ≡ true
    ends j x other h =
        elim (written s.pairs p no_pair k j there) [
          | here_is here same ↦
              let own = ap (λ (q : PairRow). end_owner q x) same ∙ owners x in
              let not_b : end_owner old x ≢ b = λ e. other (own ∙ e) in
              ap (λ (i : ℕ). was_ended (reads_on (obj s i)) (end_place (pair t j) x)) own
              ∙ ap (λ (q : PairRow). was_ended (reads_on (obj s (end_owner old x))) (end_place q x)) same
              ∙ still_ended _ _ _ (place x not_b) (prompt.ends k x not_b (subst (λ (i : ℕ). was_asked (obj s i).stage ≡ true) own h))
          | is_elsewhere same ↦
              ap (λ (q : PairRow). was_ended (reads_on (obj s (end_owner q x))) (end_place q x)) same
              ∙ prompt.ends j x (λ e. other (ap (λ (q : PairRow). end_owner q x) same ∙ e)) (subst (λ (q : PairRow). was_asked (obj s (end_owner q x)).stage ≡ true) same h)
        ]

    -- a pair counts for others no less than it did
    part : (g : Place → ℕ) → ((x y : Place) → Stays x y → g x ≤ g y) → (i : ℕ) → i ≢ b → of_ends g i old ≤ of_ends g i p
    part g grows i other =
        let one = side true in
        let two = side false in
        omega (arith, one, two)
      where
        side : (x : Bool) → cond (end_owner old x == i) (g (end_place old x)) 0 ≤ cond (end_owner p x == i) (g (end_place p x)) 0
        side x = subst (λ (n : ℕ). cond (end_owner old x == i) (g (end_place old x)) 0 ≤ cond (n == i) (g (end_place p x)) 0) (sym (owners x)) (pick (end_owner old x == i) refl)
          where
            pick : (c : Bool) → (end_owner old x == i) ≡ c → cond c (g (end_place old x)) 0 ≤ cond c (g (end_place p x)) 0
            pick true e = grows _ _ (place x (λ h. other (sym (eqb-true _ _ e) ∙ h)))
            pick false e = omega arith

    binds_grow : (x y : Place) → Stays x y → bind_waits x ≤ bind_waits y
    binds_grow x y (same_place e) = let same = ap bind_waits e in omega (arith, same)
    binds_grow x y (now_away e f) = let was = ap bind_waits e in omega (arith, was)

    ends_grow : (x y : Place) → Stays x y → end_waits x ≤ end_waits y
    ends_grow x y (same_place e) = let same = ap end_waits e in omega (arith, same)
    ends_grow x y (now_away e f) = let was = ap end_waits e in omega (arith, was)

    ended : (i : ℕ) → i ≢ b → (obj t i).stage ≡ Ending → behind t i ≡ 0 → owed t i ≡ 0 → living t i ≡ 0 → out i ≡ true
    ended i other stage level nothing_owed no_child =
        let binds = sum_grows (of_ends bind_waits i) s.pairs k p no_pair there (part bind_waits binds_grow i other) in
        let gone = sum_grows (of_ends end_waits i) s.pairs k p no_pair there (part end_waits ends_grow i other) in
        prompt.ended i other stage (omega (arith, binds, level)) (omega (arith, gone, nothing_owed)) no_child

-- b has ended
pub end_prompt : (s : Rows) (out : ℕ → Bool) (b : ℕ) → MayEnd s b → IsPromptBut b s out → IsPromptBut b (with_object b (record (obj s b) { stage = Finished }) s) out
end_prompt s out b m prompt = record { ends = λ k a other h. ap (λ (r : Bool). was_ended r (end_place (pair s k) a)) (reads _) ∙ prompt.ends k a other (asked _ other h); children = kids; ended = ended }
  where
    o : Row
    o = obj s b

    n : Row
    n = record o { stage = Finished }

    t : Rows
    t = with_object b n s

    there : b < length s.objects
    there = placed (λ (x : Row). has_ended x.stage) s.objects nobody b refl (ap has_ended m.asked)

    asked : (i : ℕ) → i ≢ b → was_asked (obj t i).stage ≡ true → was_asked (obj s i).stage ≡ true
    asked i other h =
        elim (written s.objects n nobody b i there) [
          | here_is here same ↦ absurd (other here)
          | is_elsewhere same ↦ sym (ap (λ (v : Row). was_asked v.stage) same) ∙ h
        ]

    reads : (i : ℕ) → reads_on (obj t i) ≡ reads_on (obj s i)
    reads i =
        elim (written s.objects n nobody b i there) [
          | here_is here same ↦ ap reads_on same ∙ ap (λ (m : ℕ). reads_on (obj s m)) (sym here)
          | is_elsewhere same ↦ ap reads_on same
        ]

    kids : (d w : ℕ) → w ≢ 0 → w ≢ b → (obj t d).owner ≡ Some w → was_asked (obj t w).stage ≡ true → (obj t d).noted ≡ true → is_alive (obj t d).stage ≡ false
    kids d w below other owned h noted =
        elim (written s.objects n nobody b d there) [
          | here_is here same ↦ ap (λ (x : Row). is_alive x.stage) same
          | is_elsewhere same ↦ ap (λ (x : Row). is_alive x.stage) same ∙ prompt.children d w below other (sym (ap (λ (x : Row). x.owner) same) ∙ owned) (asked w other h) (sym (ap (λ (x : Row). x.noted) same) ∙ noted)
        ]

    ended : (i : ℕ) → i ≢ b → (obj t i).stage ≡ Ending → behind t i ≡ 0 → owed t i ≡ 0 → living t i ≡ 0 → out i ≡ true
    ended i other stage level nothing_owed no_child =
        elim (written s.objects n nobody b i there) [
          | here_is here same ↦ absurd (other here)
          | is_elsewhere same ↦
              let plug = ap {B = ℕ} (λ (x : Row). cond x.plugged 0 1) same in
              let owns = sum_same (of_child own_waits i) s.objects b n nobody there refl in
              let lives = sum_same (of_child lives_noted i) s.objects b n nobody there (not_lives (is_owner i o.owner) refl) in
              prompt.ended i other (sym (ap (λ (x : Row). x.stage) same) ∙ stage) (omega (arith, owns, plug, level)) (omega (arith, acks, nothing_owed)) (sym lives ∙ no_child)
        ]
      where
        acks : sum_by (of_child ack_waits i) t.objects ≡ sum_by (of_child ack_waits i) s.objects
        acks = sum_same (of_child ack_waits i) s.objects b n nobody there (ap (λ (x : Stage). cond (is_owner i o.owner) (ack_at x) 0) (sym m.asked))

        -- its owner waits for the acknowledgement, so this is another
        none : of_child ack_waits i o ≡ 0
        none = let part = get_or-le-sum_by (of_child ack_waits i) s.objects b nobody there in omega (arith, part, acks, nothing_owed)

        not_lives : (c : Bool) → is_owner i o.owner ≡ c → of_child lives_noted i n ≡ of_child lives_noted i o
        not_lives true e =
            let one = sym (ap (λ (x : Bool). cond x (ack_at o.stage) 0) e ∙ ap ack_at m.asked) ∙ none in
            absurd (one_is_not one)
          where
            one_is_not : ◌≡◌ {A = ℕ} 1 0 → ⊥
            one_is_not h = omega arith
        not_lives false e = ap (λ (x : Bool). cond x (lives_noted n) 0) e ∙ sym (ap (λ (x : Bool). cond x (lives_noted o) 0) e)

-- all, and so all but one
pub but : (b : ℕ) (s : Rows) (out : ℕ → Bool) → IsPrompt s out → IsPromptBut b s out
but b s out p = record { ends = λ k a other. p.ends k a; children = λ c w below other. p.children c w below; ended = λ i other. p.ended i }

-- all but one, and that one; of output, that one alone may have answered anew
pub and_at : (b : ℕ) (s : Rows) (out then : ℕ → Bool) → IsPromptBut b s out → IsPromptAt b s then → ((i : ℕ) → i ≢ b → then i ≡ out i) → IsPrompt s then
and_at b s out then others at output = record { ends = ends; children = children; ended = ended }
  where
    ends : (k : ℕ) (a : Bool) → was_asked (obj s (end_owner (pair s k) a)).stage ≡ true →
        was_ended (reads_on (obj s (end_owner (pair s k) a))) (end_place (pair s k) a) ≡ true
    ends k a h =
        elim (cases_eq (end_owner (pair s k) a) b) [
          | inl same ↦ ap (λ (i : ℕ). was_ended (reads_on (obj s i)) (end_place (pair s k) a)) same ∙ at.ends k a same (subst (λ (i : ℕ). was_asked (obj s i).stage ≡ true) same h)
          | inr other ↦ others.ends k a other h
        ]

    children : (c w : ℕ) → w ≢ 0 → (obj s c).owner ≡ Some w → was_asked (obj s w).stage ≡ true → (obj s c).noted ≡ true → is_alive (obj s c).stage ≡ false
    children c w below owned h noted =
        elim (cases_eq w b) [
          | inl same ↦ at.children c (λ z. below (same ∙ z)) (owned ∙ ap (λ (i : ℕ). Some i) same) (subst (λ (i : ℕ). was_asked (obj s i).stage ≡ true) same h) noted
          | inr other ↦ others.children c w below other owned h noted
        ]

    ended : (i : ℕ) → (obj s i).stage ≡ Ending → behind s i ≡ 0 → owed s i ≡ 0 → living s i ≡ 0 → then i ≡ true
    ended i stage x y z =
        elim (cases_eq i b) [
          | inl same ↦
              subst (λ (j : ℕ). then j ≡ true) (sym same)
              (at.ended (subst (λ (j : ℕ). (obj s j).stage ≡ Ending) same stage) (subst (λ (j : ℕ). behind s j ≡ 0) same x)
              (subst (λ (j : ℕ). owed s j ≡ 0) same y) (subst (λ (j : ℕ). living s j ≡ 0) same z))
          | inr other ↦ output i other ∙ others.ended i other stage x y z
        ]
