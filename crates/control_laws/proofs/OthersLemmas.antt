-- An event between an object and its owner leaves all others as prompt as they were.
use Rattle.std.specs.Prelude.{◌≡◌, ◌≢◌, ◌<◌, ◌≤◌, ◌==◌, ℕ, Bool, true, false, cond, List, length, Option, Some, None, sum_by, slice_index_or, slice_set, refl}
use Rattle.std.proofs.Common.{arith, sym, ap, ◌∙◌, subst}
use Rattle.std.proofs.lemmas.List.Sums.{sum_by-set}
use Rattle.std.proofs.lemmas.Bool.{eqb-true}
use Rattle.spec_control.specs.declared.stage.Stage.{Stage}
use Rattle.spec_control.specs.declared.stage.Stage.TheVariants.{Alive, Told, Ending, Finished, Cleared}
use Rattle.spec_control.specs.Stage.{is_alive, is_told, is_finished, has_ended, was_asked}
use Rattle.spec_control.specs.Place.{was_ended}
use Rattle.spec_control.specs.PairPhase.{may}
use Rattle.spec_control.specs.Row.{Row, nobody, LinkEvent, OwnComes, PlugComes, IsTold, TermComes, AsksOver, RequestComes, ReapComes, AckComes, RootAsked, StopPut, StopComes, AsksForLink, AsksForLinger, link_may, link_after, is_over, reads_on}
use Rattle.spec_control.specs.Rows.{Rows, obj, pair, with_object, end_place, end_owner, is_owner, of_child, own_waits, ack_at, ack_waits, lives_noted, behind, owed, living}
use Rattle.control_laws.specs.Prompt.{IsPromptBut, IsOf}
use Rattle.control_laws.proofs.ListLemmas.{never, left, is_here as here_is, is_elsewhere, written, placed}
use Rattle.control_laws.proofs.LinkLemmas.{link_keeps, some_is}
use Rattle.control_laws.proofs.ClosedLemmas.{Inv}

-- a sum behind a write that leaves the part as it was
pub sum_same : {X : Type 0} (f : X → ℕ) (xs : List X) (i : ℕ) (x d : X) → i < length xs → f x ≡ f (slice_index_or xs i d) → sum_by f (slice_set xs i x) ≡ sum_by f xs
sum_same f xs i x d there same =
    let set = sum_by-set f xs i x d there in
    omega (arith, set, same)

-- a sum behind a write that makes no part less
pub sum_grows : {X : Type 0} (f : X → ℕ) (xs : List X) (i : ℕ) (x d : X) → i < length xs → f (slice_index_or xs i d) ≤ f x → sum_by f xs ≤ sum_by f (slice_set xs i x)
sum_grows f xs i x d there more =
    let set = sum_by-set f xs i x d there in
    omega (arith, set, more)

-- what a row counts for one that is not its owner
pub not_its : (f : Row → ℕ) (i b : ℕ) (o : Row) → o.owner ≡ Some b → i ≢ b → of_child f i o ≡ 0
not_its f i b o owned other =
    ap (λ (w : Option ℕ). cond (is_owner i w) (f o) 0) owned ∙ pick (b == i) refl
  where
    pick : (t : Bool) → (b == i) ≡ t → cond t (f o) 0 ≡ 0
    pick true e = absurd (other (sym (eqb-true b i e)))
    pick false e = refl

rootless : (f : Row → ℕ) (i : ℕ) (o : Row) → o.owner ≡ None → of_child f i o ≡ 0
rootless f i o owned = ap (λ (w : Option ℕ). cond (is_owner i w) (f o) 0) owned

-- a row counts the same for another
pub record SameFor (i : ℕ) (o n : Row) : Type 0 where
  pub owns : of_child own_waits i n ≡ of_child own_waits i o
  pub acks : of_child ack_waits i n ≡ of_child ack_waits i o
  pub lives : of_child lives_noted i n ≡ of_child lives_noted i o

of_its_owner : (i b : ℕ) (o n : Row) → o.owner ≡ Some b → n.owner ≡ o.owner → i ≢ b → SameFor i o n
of_its_owner i b o n owned same other =
    let was = λ (f : Row → ℕ). not_its f i b o owned other in
    let now = λ (f : Row → ℕ). not_its f i b n (same ∙ owned) other in
    record { owns = now own_waits ∙ sym (was own_waits); acks = now ack_waits ∙ sym (was ack_waits); lives = now lives_noted ∙ sym (was lives_noted) }

-- a Term that is processed changes no count
told_counts : (s : Stage) → is_told s ≡ true → (ack_at Ending ≡ ack_at s) × (has_ended Ending ≡ has_ended s)
told_counts Told h = (refl, refl)
told_counts Alive h = absurd (never h)
told_counts Ending h = absurd (never h)
told_counts Finished h = absurd (never h)
told_counts Cleared h = absurd (never h)

of_term : (i : ℕ) (o : Row) → is_told o.stage ≡ true → SameFor i o (link_after TermComes o)
of_term i o h =
    let t = told_counts o.stage h in
    record {
      owns = refl;
      acks = ap (λ (n : ℕ). cond (is_owner i o.owner) n 0) t.0;
      lives = ap (λ (e : Bool). cond (is_owner i o.owner) (cond o.noted (cond e 0 1) 0) 0) t.1;
    }

-- what an event of b leaves for another object
pub record Others (e : LinkEvent) (c b : ℕ) (o : Row) : Type 0 where
  pub counts : (i : ℕ) → i ≢ b → SameFor i o (link_after e o)
  -- of its own row, where it is another's
  pub own : c ≢ b → (was_asked (link_after e o).stage ≡ true → was_asked o.stage ≡ true) × ((link_after e o).stage ≡ Ending → o.stage ≡ Ending) × ((link_after e o).plugged ≡ o.plugged)
  -- its owner knows of it what it knew, or it is not alive
  child : (w : ℕ) → o.owner ≡ Some w → w ≢ b → (link_after e o).noted ≡ true → (is_alive o.stage ≡ false → is_alive (link_after e o).stage ≡ false) × (o.noted ≡ true)

finished_asked : (s : Stage) → is_finished s ≡ true → was_asked s ≡ true
finished_asked Finished h = refl
finished_asked Alive h = absurd (never h)
finished_asked Told h = absurd (never h)
finished_asked Ending h = absurd (never h)
finished_asked Cleared h = absurd (never h)

no_stage : Told ≡ Ending → ⊥
no_stage h = never (ap was_asked h)

no_end : Cleared ≡ Ending → ⊥
no_end h = never (sym (ap has_ended h))

-- an event of the owner, and an event of the object itself that only marks it
of_owner : (e : LinkEvent) (c b : ℕ) (o : Row) → o.owner ≡ Some b → (link_after e o).owner ≡ o.owner →
    (was_asked (link_after e o).stage ≡ true → was_asked o.stage ≡ true) × ((link_after e o).stage ≡ Ending → o.stage ≡ Ending) × ((link_after e o).plugged ≡ o.plugged) → Others e c b o
of_owner e c b o is same own = record {
  counts = λ i other. of_its_owner i b o (link_after e o) is same other;
  own = λ n. own;
  child = λ w owned other h. absurd (other (some_is w b (sym owned ∙ is)));
}

pub others : (e : LinkEvent) (c b : ℕ) (o : Row) → link_may e o ≡ true → IsOf e c o b → Others e c b o
others OwnComes c b o may is = of_owner OwnComes c b o is refl (λ h. h, λ h. h, refl)
others IsTold c b o may is = of_owner IsTold c b o is refl (λ h. absurd (never h), λ h. absurd (no_stage h), refl)
others RequestComes c b o may is = of_owner RequestComes c b o is refl (λ h. h, λ h. h, refl)
others ReapComes c b o may is = of_owner ReapComes c b o is refl (λ h. absurd (never h), λ h. absurd (no_stage h), refl)
others AckComes c b o may is = of_owner AckComes c b o is refl (λ h. finished_asked o.stage (left _ _ may), λ h. absurd (no_end h), refl)
others StopPut c b o may is = of_owner StopPut c b o is refl (λ h. h, λ h. h, refl)
others PlugComes c b o may is = record {
  counts = λ i other. record { owns = refl; acks = refl; lives = refl };
  own = λ n. absurd (n is);
  child = λ w owned other h. (λ k. k, h);
}
others TermComes c b o may is = record {
  counts = λ i other. of_term i o (left _ _ may);
  own = λ n. absurd (n is);
  child = λ w owned other h. (λ k. refl, h);
}
others AsksOver c b o may is = record {
  counts = λ i other. record { owns = refl; acks = refl; lives = refl };
  own = λ n. absurd (n is);
  child = λ w owned other h. (λ k. k, h);
}
others StopComes c b o may is = record {
  counts = λ i other. record { owns = refl; acks = refl; lives = refl };
  own = λ n. absurd (n is);
  child = λ w owned other h. (λ k. k, h);
}
others AsksForLink c b o may is = record {
  counts = λ i other. record { owns = refl; acks = refl; lives = refl };
  own = λ n. absurd (n is);
  child = λ w owned other h. (λ k. k, h);
}
others AsksForLinger c b o may is = record {
  counts = λ i other. record { owns = refl; acks = refl; lives = refl };
  own = λ n. absurd (n is);
  child = λ w owned other h. (λ k. k, h);
}
others RootAsked c b o may is = record {
  counts = λ i other. record {
    owns = refl;
    acks = rootless ack_waits i (link_after RootAsked o) is.1 ∙ sym (rootless ack_waits i o is.1);
    lives = rootless lives_noted i (link_after RootAsked o) is.1 ∙ sym (rootless lives_noted i o is.1);
  };
  own = λ n. absurd (n is.0);
  child = λ w owned other h. (λ k. refl, h);
}

-- no event changes whether an object's ends read on
pub reads_same : (e : LinkEvent) (o : Row) → reads_on (link_after e o) ≡ reads_on o
reads_same OwnComes o = refl
reads_same PlugComes o = refl
reads_same IsTold o = refl
reads_same TermComes o = refl
reads_same AsksOver o = refl
reads_same RequestComes o = refl
reads_same ReapComes o = refl
reads_same AckComes o = refl
reads_same RootAsked o = refl
reads_same StopPut o = refl
reads_same StopComes o = refl
reads_same AsksForLink o = refl
reads_same AsksForLinger o = refl

pub link_prompt : (s : Rows) (out : ℕ → Bool) (b c : ℕ) (e : LinkEvent) → Inv s → link_may e (obj s c) ≡ true → IsOf e c (obj s c) b →
    IsPromptBut b s out → IsPromptBut b (with_object c (link_after e (obj s c)) s) out
link_prompt s out b c e inv may is prompt = record { ends = ends; children = kids; ended = ended }
  where
    o : Row
    o = obj s c

    n : Row
    n = link_after e o

    t : Rows
    t = with_object c n s

    there : c < length s.objects
    there = placed is_over s.objects nobody c refl (link_keeps o (inv.fits c) e may).busy

    owner_same : n.owner ≡ o.owner
    owner_same = (link_keeps o (inv.fits c) e may).owner

    rest : Others e c b o
    rest = others e c b o may is

    -- another object was asked before, too
    asked : (i : ℕ) → i ≢ b → was_asked (obj t i).stage ≡ true → was_asked (obj s i).stage ≡ true
    asked i other h =
        elim (written s.objects n nobody c i there) [
          | here_is here same ↦
              let back = (rest.own (λ k. other (here ∙ k))).0 (sym (ap (λ (v : Row). was_asked v.stage) same) ∙ h) in
              subst (λ (m : ℕ). was_asked (obj s m).stage ≡ true) (sym here) back
          | is_elsewhere same ↦ sym (ap (λ (v : Row). was_asked v.stage) same) ∙ h
        ]

    reads : (i : ℕ) → reads_on (obj t i) ≡ reads_on (obj s i)
    reads i =
        elim (written s.objects n nobody c i there) [
          | here_is here same ↦ ap reads_on same ∙ reads_same e o ∙ ap (λ (m : ℕ). reads_on (obj s m)) (sym here)
          | is_elsewhere same ↦ ap reads_on same
        ]

    ends : (k : ℕ) (a : Bool) → end_owner (pair t k) a ≢ b → was_asked (obj t (end_owner (pair t k) a)).stage ≡ true →
        was_ended (reads_on (obj t (end_owner (pair t k) a))) (end_place (pair t k) a) ≡ true
    ends k a other h = ap (λ (r : Bool). was_ended r (end_place (pair s k) a)) (reads _) ∙ prompt.ends k a other (asked _ other h)

    kids : (d w : ℕ) → w ≢ 0 → w ≢ b → (obj t d).owner ≡ Some w → was_asked (obj t w).stage ≡ true → (obj t d).noted ≡ true → is_alive (obj t d).stage ≡ false
    kids d w below other owned h noted =
        elim (written s.objects n nobody c d there) [
          | here_is here same ↦
              let owned_was = sym owner_same ∙ sym (ap (λ (v : Row). v.owner) same) ∙ owned in
              let k = rest.child w owned_was other (sym (ap (λ (v : Row). v.noted) same) ∙ noted) in
              ap (λ (v : Row). is_alive v.stage) same ∙ k.0 (prompt.children c w below other owned_was (asked w other h) k.1)
          | is_elsewhere same ↦
              ap (λ (v : Row). is_alive v.stage) same
              ∙ prompt.children d w below other (sym (ap (λ (v : Row). v.owner) same) ∙ owned) (asked w other h) (sym (ap (λ (v : Row). v.noted) same) ∙ noted)
        ]

    ended : (i : ℕ) → i ≢ b → (obj t i).stage ≡ Ending → behind t i ≡ 0 → owed t i ≡ 0 → living t i ≡ 0 → out i ≡ true
    ended i other stage level nothing_owed no_child =
        let counts = rest.counts i other in
        let owns = sum_same (of_child own_waits i) s.objects c n nobody there counts.owns in
        let acks = sum_same (of_child ack_waits i) s.objects c n nobody there counts.acks in
        let lives = sum_same (of_child lives_noted i) s.objects c n nobody there counts.lives in
        let row = own_row i other in
        let plug = ap {B = ℕ} (λ (p : Bool). cond p 0 1) row.1 in
        prompt.ended i other (row.0 stage) (omega (arith, owns, plug, level)) (omega (arith, acks, nothing_owed)) (sym lives ∙ no_child)
      where
        own_row : (i : ℕ) → i ≢ b → ((obj t i).stage ≡ Ending → (obj s i).stage ≡ Ending) × ((obj t i).plugged ≡ (obj s i).plugged)
        own_row i other =
            elim (written s.objects n nobody c i there) [
              | here_is here same ↦
                  let own = rest.own (λ k. other (here ∙ k)) in (
                    λ h. subst (λ (m : ℕ). (obj s m).stage ≡ Ending) (sym here) (own.1 (sym (ap (λ (v : Row). v.stage) same) ∙ h)),
                    ap (λ (v : Row). v.plugged) same ∙ own.2 ∙ ap (λ (m : ℕ). (obj s m).plugged) (sym here),
                  )
              | is_elsewhere same ↦ (λ h. sym (ap (λ (v : Row). v.stage) same) ∙ h, ap (λ (v : Row). v.plugged) same)
            ]
