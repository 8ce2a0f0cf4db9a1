-- That the pipes of a pair have no names while it is not made, and none of its ends was attached.
use Rattle.std.specs.Prelude.{◌≡◌, ◌&&◌, ◌||◌, ◌++◌, ◌∷◌, [], ℕ, Bool, true, false, not, List, None, All, flat_map, refl}
use Rattle.std.specs.List.{list_any}
use Rattle.std.proofs.Common.{sym, ap, ◌∙◌, subst}
use Rattle.std.proofs.lemmas.Bool.{ne_eqb}
use Rattle.std.proofs.lemmas.List.Elements.{All-cons, All-head, All-nil, All-tail, All-weaker}
use Rattle.zq_base.specs.declared.ids.EndId.{EndId}
use Rattle.spec_control.specs.declared.entry.Did.{Did}
use Rattle.spec_control.specs.declared.entry.Did.TheVariants.{Asked, Delivered, Delimited}
use Rattle.spec_control.specs.declared.entry.Item.{Item}
use Rattle.spec_control.specs.declared.entry.Item.TheVariants.{Event, Seen}
use Rattle.spec_control.specs.Names.{named_in, name_of}
use Rattle.spec_control.specs.Place.{Unmade}
use Rattle.spec_control.specs.Rows.{end_place, pair}
use Rattle.spec_control.specs.Control.{Control, begun, end_of, is_end, place_of, same_side}
use Rattle.spec_control.specs.After.{after}
use Rattle.spec_control.specs.ControlRun.{Joins, all_pipes, opened_in, answer_of, after_all, IsControlRun}
use Rattle.control_laws.specs.OwnMoves.{own_moves}
use Rattle.control_laws.proofs.AttachedLemmas.{asked_ends, attached_after, ends_of_joins}
use Rattle.control_laws.proofs.AttachedOnceLemmas.{IsOld, old_run}
use Rattle.control_laws.proofs.LeadLemmas.{attached_by}
use Rattle.control_laws.proofs.ListLemmas.{never}
use Rattle.control_laws.proofs.MoveLemmas.{is_at}
use Rattle.ctl_moves.specs.Shaking.{IsApart}
use Rattle.ctl_plane.proofs.FreshLemmas.{name_none}

append_left : {X : Type 0} (P : X → Type 0) (xs ys : List X) → All P (xs ++ ys) → All P xs
append_left P [] ys h = All-nil P
append_left P (x ∷ xs) ys h = All-cons P x xs (All-head P x (xs ++ ys) h) (append_left P xs ys (All-tail P x (xs ++ ys) h))

append_right : {X : Type 0} (P : X → Type 0) (xs ys : List X) → All P (xs ++ ys) → All P ys
append_right P [] ys h = h
append_right P (x ∷ xs) ys h = append_right P xs ys (All-tail P x (xs ++ ys) h)

-- these ends are none of this pair's
abbrev pub AreElse : ℕ → List EndId → Type 0
AreElse k es = All (λ x. x.pair.0 ≡ k → ⊥) es

-- an end of a pair is none of another one
end_else : (e : EndId) (n : ℕ) (a : Bool) → (n ≡ e.pair.0 → ⊥) → is_end e (end_of n a) ≡ false
end_else e n a other = ap (λ (b : Bool). b && same_side e.a a) (ne_eqb e.pair.0 n (λ same. other (sym same)))

piped_not : (e : EndId) (js : List Joins) → AreElse e.pair.0 (ends_of_joins js) → list_any (is_end e) (all_pipes js) ≡ false
piped_not e [] h = refl
piped_not e (j ∷ js) h =
    let other = All-head (λ (x : EndId). x.pair.0 ≡ e.pair.0 → ⊥) j.end (ends_of_joins js) h in
    ap (λ (b : Bool). b || (is_end e (end_of j.end.pair.0 false) || list_any (is_end e) (all_pipes js))) (end_else e j.end.pair.0 true other)
    ∙ ap (λ (b : Bool). b || list_any (is_end e) (all_pipes js)) (end_else e j.end.pair.0 false other)
    ∙ piped_not e js (All-tail (λ (x : EndId). x.pair.0 ≡ e.pair.0 → ⊥) j.end (ends_of_joins js) h)

module _ {N S : Type 0} (e : EndId) where
  opened_not : (c : Control) (did : Did N S) → AreElse e.pair.0 (attached_by (own_moves c did)) → list_any (is_end e) (opened_in c did) ≡ false
  opened_not c (Asked req reply h) none = piped_not e _ (subst (λ (es : List EndId). AreElse e.pair.0 es) (sym (asked_ends c req reply)) none)
  opened_not c (Delivered slot letter h) none = refl
  opened_not c (Delimited d h) none = refl

  -- what was attached stays in the list
  else_before : (items : List (Item N S)) (c : Control) → AreElse e.pair.0 (after_all items c).attached → AreElse e.pair.0 c.attached
  else_before [] c h = h
  else_before (Event entry ∷ items) c h =
      append_left (λ (x : EndId). x.pair.0 ≡ e.pair.0 → ⊥) c.attached (attached_by (own_moves c entry.did))
      (subst (λ (es : List EndId). AreElse e.pair.0 es) (attached_after c entry.did) (else_before items (after entry.did c) h))
  else_before (Seen sight ∷ items) c h = else_before items c h

  pub unmade_unnamed : (items : List (Item N S)) (c : Control) → IsControlRun c items → AreElse e.pair.0 (after_all items c).attached → name_of items e ≡ None
  unmade_unnamed [] c run h = refl
  unmade_unnamed (Event entry ∷ items) c run h =
      name_none e (answer_of entry.did).opened
      (ap (list_any (is_end e)) run.0.answered.opened
      ∙ opened_not c entry.did
      (append_right (λ (x : EndId). x.pair.0 ≡ e.pair.0 → ⊥) c.attached (attached_by (own_moves c entry.did))
      (subst (λ (es : List EndId). AreElse e.pair.0 es) (attached_after c entry.did) (else_before items (after entry.did c) h)))) (flat_map named_in items)
      ∙ unmade_unnamed items (after entry.did c) run.1 h
  unmade_unnamed (Seen sight ∷ items) c run h = unmade_unnamed items c run.1 h

-- no end of a pair was attached of which both are unmade
pub unmade_else : {N S : Type 0} (workers : ℕ) (items : List (Item N S)) → IsControlRun (begun workers) items → (k : ℕ) → place_of (after_all items (begun workers)) (end_of k true) ≡ Unmade → place_of (after_all items (begun workers)) (end_of k false) ≡ Unmade →
    AreElse k (after_all items (begun workers)).attached
unmade_else workers items run k mine theirs = All-weaker (IsOld now) (λ x. x.pair.0 ≡ k → ⊥) other now.attached (old_run workers items run)
  where
    now : Control
    now = after_all items (begun workers)

    side : (a : Bool) → end_place (pair now.rows k) a ≡ Unmade
    side true = mine
    side false = theirs

    other : (x : EndId) → IsOld now x → x.pair.0 ≡ k → ⊥
    other x old same = never (sym (ap is_at (ap (λ (n : ℕ). end_place (pair now.rows n) x.a) same ∙ side x.a)) ∙ old.at)

pub else_apart : (first : EndId) (es : List EndId) → AreElse first.pair.0 es → All (λ x. IsApart first x) es
else_apart first es none = All-weaker (λ (x : EndId). x.pair.0 ≡ first.pair.0 → ⊥) (λ x. IsApart first x) apart es none
  where
    apart : (x : EndId) → (x.pair.0 ≡ first.pair.0 → ⊥) → IsApart first x
    apart x other = record {
      mine = ap (λ (b : Bool). b && same_side x.a first.a) (ne_eqb x.pair.0 first.pair.0 other);
      theirs = ap (λ (b : Bool). b && same_side x.a (not first.a)) (ne_eqb x.pair.0 first.pair.0 other);
    }
