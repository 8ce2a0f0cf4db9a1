-- Within an event: all ends of an object are asked, one after the other.
use Rattle.std.specs.Prelude.{◌≡◌, ◌==◌, ◌&&◌, ◌||◌, ℕ, Bool, true, false, cond, List, [], ◌∷◌, filter, if◌then◌else◌, refl}
use Rattle.std.specs.List.{list_any}
use Rattle.std.proofs.Common.{sym, ap, ◌∙◌, subst}
use Rattle.std.proofs.lemmas.Bool.{eqb-true, eq-eqb}
use Rattle.zq_base.specs.declared.ids.EndId.{EndId}
use Rattle.spec_control.specs.declared.end.EndEvent.TheVariants.{Asked}
use Rattle.spec_control.specs.declared.end.Reason.{Reason}
use Rattle.spec_control.specs.Place.{is_here, was_ended}
use Rattle.spec_control.specs.PairPhase.{Happens}
use Rattle.spec_control.specs.Control.{Control, same_side, is_end, end_of, place_of, owner_of, happens, ask, ask_all}
use Rattle.control_laws.specs.Kept.{KeptBut}
use Rattle.control_laws.proofs.ListLemmas.{never, clash, left, right}
use Rattle.control_laws.proofs.RowLemmas.{pair_there}
use Rattle.control_laws.proofs.HearLemmas.{EndMoved, end_moved, ask_kept, asked_ended, absent_ended}

side_self : (a : Bool) → same_side a a ≡ true
side_self true = refl
side_self false = refl

side_is : (a b : Bool) → same_side a b ≡ true → a ≡ b
side_is true true h = refl
side_is true false h = absurd (never h)
side_is false true h = absurd (never h)
side_is false false h = refl

pub end_self : (e : EndId) → is_end e e ≡ true
end_self e = ap (λ (b : Bool). b && same_side e.a e.a) (eq-eqb e.pair.0 e.pair.0 refl) ∙ side_self e.a

pub same_end : (d e : EndId) → is_end d e ≡ true → d ≡ e
same_end d e h =
    ap (λ (n : ℕ). end_of n d.a) (eqb-true d.pair.0 e.pair.0 (left _ _ h)) ∙ ap (end_of e.pair.0) (side_is d.a e.a (right (d.pair.0 == e.pair.0) _ h))

-- what asks leave: who has ended so far stays so, and nothing but places is changed
pub record AskLeaves (on : Bool) (old new : Control) : Type 0 where
  pub ended : (e : EndId) → was_ended on (place_of old e) ≡ true → was_ended on (place_of new e) ≡ true
  pub owners : (e : EndId) → owner_of new e ≡ owner_of old e
  pub objects : new.rows.objects ≡ old.rows.objects
  pub attached : new.attached ≡ old.attached
  pub output : new.output_left ≡ old.output_left

pub leaves_itself : (on : Bool) (c : Control) → AskLeaves on c c
leaves_itself on c = record { ended = λ e h. h; owners = λ e. refl; objects = refl; attached = refl; output = refl }

pub leaves_more : (on : Bool) (c d e : Control) → AskLeaves on c d → AskLeaves on d e → AskLeaves on c e
leaves_more on c d e x y = record {
  ended = λ i h. y.ended i (x.ended i h);
  owners = λ i. y.owners i ∙ x.owners i;
  objects = y.objects ∙ x.objects;
  attached = y.attached ∙ x.attached;
  output = y.output ∙ x.output;
}

module _ (why : Reason) (delay on : Bool) (reads : delay ≡ true → on ≡ true) where
  pub ask_leaves : (e : EndId) (c : Control) → AskLeaves on c (ask why delay e c) × (was_ended on (place_of (ask why delay e c) e) ≡ true)
  ask_leaves e c = by (is_here (place_of c e)) refl
    where
      moved_so : is_here (place_of c e) ≡ true → EndMoved (Asked why delay) e c (happens (Asked why delay) e c)
      moved_so h = end_moved c (Asked why delay) e (pair_there c.rows e.pair.0 e.a (Happens (Asked why delay)) h)

      ended : is_here (place_of c e) ≡ true → (i : EndId) → was_ended on (place_of c i) ≡ true → was_ended on (place_of (happens (Asked why delay) e c) i) ≡ true
      ended h i was = pick (is_end i e) refl
        where
          pick : (x : Bool) → is_end i e ≡ x → was_ended on (place_of (happens (Asked why delay) e c) i) ≡ true
          pick true same =
              subst (λ (j : EndId). was_ended on (place_of (happens (Asked why delay) e c) j) ≡ true) (sym (same_end i e same))
              (ap (was_ended on) (moved_so h).here ∙ asked_ended why delay on (place_of c e) reads h)
          pick false other = ap (was_ended on) ((moved_so h).elsewhere i.pair.0 i.a (λ (same : i ≡ e). clash (is_end i e) (ap (λ (j : EndId). is_end j e) same ∙ end_self e) other)) ∙ was

      by : (x : Bool) → is_here (place_of c e) ≡ x → AskLeaves on c (if x then happens (Asked why delay) e c else c) × (was_ended on (place_of (if x then happens (Asked why delay) e c else c) e) ≡ true)
      by true h =
          let m = moved_so h in (
            record { ended = ended h; owners = λ i. m.owners i.pair.0 i.a; objects = m.objects; attached = m.attached; output = m.output },
            ap (was_ended on) m.here ∙ asked_ended why delay on (place_of c e) reads h,
          )
      by false h = (leaves_itself on c, absent_ended on (place_of c e) h)

  pub ask_all_leaves : (es : List EndId) (c : Control) → AskLeaves on c (ask_all why delay es c)
  ask_all_leaves [] c = leaves_itself on c
  ask_all_leaves (e ∷ es) c = leaves_more on c (ask why delay e c) _ (ask_leaves e c).0 (ask_all_leaves es (ask why delay e c))

  pub ask_all_ended : (es : List EndId) (c : Control) (e : EndId) → list_any (is_end e) es ≡ true → was_ended on (place_of (ask_all why delay es c) e) ≡ true
  ask_all_ended [] c e h = absurd (never h)
  ask_all_ended (d ∷ es) c e h = by (ask_all_ended es (ask why delay d c) e) (is_end e d) refl
    where
      rest : (x : Bool) → (x || list_any (is_end e) es) ≡ true → x ≡ false → list_any (is_end e) es ≡ true
      rest true g f = absurd (never (sym f))
      rest false g f = g

      by : (list_any (is_end e) es ≡ true → was_ended on (place_of (ask_all why delay es (ask why delay d c)) e) ≡ true) → (x : Bool) → is_end e d ≡ x →
          was_ended on (place_of (ask_all why delay es (ask why delay d c)) e) ≡ true
      by later true same =
          (ask_all_leaves es (ask why delay d c)).ended e
          (subst (λ (i : EndId). was_ended on (place_of (ask why delay d c) i) ≡ true) (sym (same_end e d same)) (ask_leaves d c).1)
      by later false other = later (rest (is_end e d) h other)

-- these ends are an object's
pub data Owned (b : ℕ) (c : Control) : List EndId → Type 0 where
  no_more : Owned b c []
  and_more : (e : EndId) (es : List EndId) → owner_of c e ≡ b → Owned b c es → Owned b c (e ∷ es)

owned_still : (b : ℕ) (c d : Control) (es : List EndId) → ((e : EndId) → owner_of d e ≡ owner_of c e) → Owned b c es → Owned b d es
owned_still b c d [] same no_more = no_more
owned_still b c d (e ∷ es) same (and_more x y is rest) = and_more e es (same e ∙ is) (owned_still b c d es same rest)

pub ask_all_kept : (b : ℕ) (why : Reason) (delay on : Bool) → (delay ≡ true → on ≡ true) → (es : List EndId) (c : Control) → KeptBut b c → Owned b c es → KeptBut b (ask_all why delay es c)
ask_all_kept b why delay on reads [] c kept no_more = kept
ask_all_kept b why delay on reads (e ∷ es) c kept (and_more x y is rest) =
    ask_all_kept b why delay on reads es (ask why delay e c) (ask_kept b why delay e c kept is) (owned_still b c (ask why delay e c) es (ask_leaves why delay on reads e c).0.owners rest)

pub ends_owned : (b : ℕ) (c : Control) (es : List EndId) → Owned b c (filter (λ e. owner_of c e == b) es)
ends_owned b c [] = no_more
ends_owned b c (e ∷ es) = by (ends_owned b c es) (owner_of c e == b) refl
  where
    by : Owned b c (filter (λ e. owner_of c e == b) es) → (x : Bool) → (owner_of c e == b) ≡ x → Owned b c (cond x (e ∷ filter (λ e. owner_of c e == b) es) (filter (λ e. owner_of c e == b) es))
    by later true h = and_more e _ (eqb-true (owner_of c e) b h) later
    by later false h = later

pub among_ends : (b : ℕ) (c : Control) (e : EndId) (es : List EndId) → owner_of c e ≡ b → list_any (is_end e) es ≡ true → list_any (is_end e) (filter (λ d. owner_of c d == b) es) ≡ true
among_ends b c e [] of h = absurd (never h)
among_ends b c e (d ∷ es) of h = by (among_ends b c e es of) (owner_of c d == b) (is_end e d) refl refl
  where
    rest : (x : Bool) → (x || list_any (is_end e) es) ≡ true → x ≡ false → list_any (is_end e) es ≡ true
    rest true g f = absurd (never (sym f))
    rest false g f = g

    or_true : (x : Bool) → (x || true) ≡ true
    or_true true = refl
    or_true false = refl

    by : (list_any (is_end e) es ≡ true → list_any (is_end e) (filter (λ d. owner_of c d == b) es) ≡ true) → (x y : Bool) → (owner_of c d == b) ≡ x → is_end e d ≡ y → list_any (is_end e) (cond x (d ∷ filter (λ d. owner_of c d == b) es) (filter (λ d. owner_of c d == b) es)) ≡ true
    by later true true i j = ap (λ (z : Bool). z || list_any (is_end e) (filter (λ d. owner_of c d == b) es)) j
    by later true false i j = ap (λ (z : Bool). is_end e d || z) (later (rest _ h j)) ∙ or_true (is_end e d)
    by later false true i j = absurd (clash (owner_of c d == b) (eq-eqb (owner_of c d) b (ap (owner_of c) (sym (same_end e d j)) ∙ of)) i)
    by later false false i j = later (rest _ h j)
