-- What was done to a socket's ends, as the moments more tell it.
use Rattle.std.proofs.Common.{◌≡◌, ◌<◌, ◌∙◌, ℕ, Bool, zero, suc, List, [], ◌∷◌, ◌++◌, length, Option, Some, refl, sym, ap, subst, arith}
use Rattle.std.specs.Coded.{codes, ×_prop, Unit-prop}
use Rattle.std.proofs.Math.Logic.{∥∥₁_elim}
use Rattle.std.proofs.lemmas.List.{append_cancel_left}
use Rattle.zq_base.specs.declared.attached.Attached.{Attached}
use Rattle.zq_base.specs.declared.ids.EndId.{EndId}
use Rattle.spec_pattern.specs.TurnList.{End}
use Rattle.spec_pattern.specs.Pattern.{Pattern, attach_answer, attach_as}
use Rattle.spec_control.specs.declared.end.EndState.{EndState}
use Rattle.spec_control.specs.declared.entry.Joining.{Joining}
use Rattle.spec_control.specs.Moments.{Moment}
use Rattle.spec_run.specs.OpenSocket.{attach_all, detach_all, AreAnswered}
use Rattle.msg_pipe.specs.Known.{Known}
use Rattle.end_table.specs.declared.changes.PipeChange.{PipeChange}
use Rattle.end_table.specs.declared.table.Place.{Place}
use Rattle.end_table.specs.Places.{place_at}
use Rattle.end_table.specs.Others.{KeepsPlaces}
use Rattle.end_table.proofs.SoundLemmas.{one_some}
use Rattle.end_table.proofs.PlaceLemmas.{place_within}
use Rattle.sock_core.specs.declared.joint.JoinNote.{JoinNote}
use Rattle.sock_core.specs.declared.sock.SockCore.{SockCore}
use Rattle.sock_core.specs.Came.{HasCome}
use Rattle.sock_core.specs.Kinds.{no_ends}
use Rattle.sock_core.specs.Standing.{standing_joins}
use Rattle.sock_core.proofs.CameLemmas.{came_none}
use Rattle.sock_core.proofs.WayLemmas.{way_begun}
use Rattle.sock_core.specs.Way.{no_way, way_in, outs_of, oldest_first, CanJoinAll, IsNaming, KindWay, KindWayOf, IsCalm}
use Rattle.sock_calls.specs.Passing.{IsStillOpen, IsPatternOf, GoesOn, Passes, came_with_all, turned_with}
use Rattle.sock_calls.proofs.CallsLemmas.{none_more}

pattern_set : IsSet Pattern
pattern_set = Prim.hlevel codes

attached_set : IsSet Attached
attached_set = Prim.hlevel codes

answered_prop : {N : Type 0} (js : List (Joining N)) (p : Pattern) → IsProp (AreAnswered js p)
answered_prop [] p = Unit-prop
answered_prop (j ∷ js) p = ×_prop (attached_set j.answer (attach_answer j.peer p)) (answered_prop js (attach_as j.answer j.end j.peer p))

module _ {N I : Type 0} where
  -- the ends at the places
  abbrev end_at : List (Place N I) → ℕ → EndId
  end_at [] k = no_ends k
  end_at (p ∷ ps) zero = p.end
  end_at (p ∷ ps) (suc k) = end_at ps k

  named_right : (ps : List (Place N I)) → IsNaming ps (end_at ps)
  named_right [] k p at = cc
  named_right (x ∷ xs) zero p at = ap (λ (y : Place N I). y.end) (one_some x p at)
  named_right (x ∷ xs) (suc k) p at = named_right xs k p at

  place_some : (ps : List (Place N I)) (k : ℕ) → k < length ps → (p : Place N I) × (place_at ps k ≡ Some p)
  place_some [] k lt = absurd (omega arith)
  place_some (x ∷ xs) zero lt = (x, refl)
  place_some (x ∷ xs) (suc k) lt = place_some xs k (omega (arith, lt))

  named_before : (ps qs : List (Place N I)) (ends : ℕ → EndId) → KeepsPlaces ps qs → IsNaming qs ends → IsNaming ps ends
  named_before ps qs ends keeps right = λ k p at.
      let within = place_within ps k p at in
      let count = keeps.count in
      let q = place_some qs k (omega (arith, within, count)) in
      right k q.0 q.1 ∙ (keeps.each k p q.0 at q.1).end_is

module _ {C W N O I : Type 0} (pattern : (ℕ → End) → C → Pattern) (names : C → List ℕ → Type 0) (sound : C → Type 0) (peers : C → List ℕ) where
  module _ (old new : SockCore C W N O I) (js : List (Joining N)) (ts : List (EndId × EndState)) (keeps : KeepsPlaces old.ends.places.items new.ends.places.items)
      (joined : standing_joins new.joins.items ≡ standing_joins old.joins.items ++ js) (turned : new.turns.items ≡ old.turns.items ++ ts) where
    abbrev Gone : Type 0
    Gone = KindWay pattern names sound peers (way_in new.way.items) new.ends.places.items (standing_joins old.joins.items) (standing_joins new.joins.items) old.turns.items new.turns.items old.kind new.kind

    joins_are : Gone → oldest_first (way_in new.way.items).joined ≡ js
    joins_are k = append_cancel_left (standing_joins old.joins.items) (oldest_first (way_in new.way.items).joined) js (sym k.joins_are ∙ joined)

    turns_are : Gone → (way_in new.way.items).turns ≡ ts
    turns_are k = append_cancel_left old.turns.items (way_in new.way.items).turns ts (sym k.turns_are ∙ turned)

    pattern_goes : Gone → (p : Pattern) → IsPatternOf pattern p (Some old) → (ends : ℕ → EndId) → IsNaming new.ends.places.items ends → pattern ends new.kind ≡ detach_all (outs_of ts) (attach_all js p)
    pattern_goes k p is ends right =
        k.goes ends right
        ∙ ap (λ (q : Pattern). detach_all (outs_of (way_in new.way.items).turns) (attach_all (oldest_first (way_in new.way.items).joined) q)) (is ends (named_before old.ends.places.items new.ends.places.items ends keeps right))
        ∙ ap (λ (l : List (Joining N)). detach_all (outs_of (way_in new.way.items).turns) (attach_all l p)) (joins_are k)
        ∙ ap (λ (l : List (EndId × EndState)). detach_all (outs_of l) (attach_all js p)) (turns_are k)

    answers_go : Gone → (p : Pattern) → IsPatternOf pattern p (Some old) → CanJoinAll js p → AreAnswered js p
    answers_go k p is can =
        let ends = end_at new.ends.places.items in
        let right = named_right new.ends.places.items in
        let same = is ends (named_before old.ends.places.items new.ends.places.items ends keeps right) in
        subst (λ (l : List (Joining N)). AreAnswered l p) (joins_are k)
        (subst (λ (q : Pattern). AreAnswered (oldest_first (way_in new.way.items).joined) q) same
        (k.answered ends right (subst (λ (q : Pattern). CanJoinAll (oldest_first (way_in new.way.items).joined) q) (sym same) (subst (λ (l : List (Joining N)). CanJoinAll l p) (sym (joins_are k)) can))))

    goes_on : ∥ KindWayOf pattern names sound peers old new ∥₁ → IsStillOpen (Some new) → (p : Pattern) → IsPatternOf pattern p (Some old) → GoesOn pattern js ts p (Some new)
    goes_on way still p is = record {
      pattern_is = λ ends right. ∥∥₁_elim way (pattern_set (pattern ends new.kind) (detach_all (outs_of ts) (attach_all js p))) (λ k. pattern_goes (k still) p is ends right);
      answered = λ can. ∥∥₁_elim way (answered_prop js p) (λ k. answers_go (k still) p is can);
    }

  pub passes_by : {S : Type 0} (old new : SockCore C W N O I) (more : List (Moment N S)) → KeepsPlaces old.ends.places.items new.ends.places.items
      → standing_joins new.joins.items ≡ standing_joins old.joins.items ++ came_with_all more → new.turns.items ≡ old.turns.items ++ turned_with more
      → ∥ KindWayOf pattern names sound peers old new ∥₁ → Passes pattern (Some old) (Some new) more
  passes_by old new more keeps joined turned way = goes_on old new (came_with_all more) (turned_with more) keeps joined turned way

  -- nothing was done yet in a stretch that begins with a socket
  pub way_fresh : (first t s : SockCore C W N O I) → first ≡ t → s.way.items ≡ [] → s.ends.places.items ≡ t.ends.places.items → s.joins.items ≡ t.joins.items → s.turns.items ≡ t.turns.items → s.kind ≡ t.kind
      → ∥ KindWayOf pattern names sound peers first s ∥₁
  way_fresh first t s same fresh places joins turns kind = subst (λ (f : SockCore C W N O I). ∥ KindWayOf pattern names sound peers f s ∥₁) (sym same) ∣ begun ∣₁
    where
      begun : KindWayOf pattern names sound peers t s
      begun = λ still.
          subst (λ (l : _). KindWay pattern names sound peers (way_in l) s.ends.places.items (standing_joins t.joins.items) (standing_joins s.joins.items) t.turns.items s.turns.items t.kind s.kind) (sym fresh)
          (subst (λ (l : _). KindWay pattern names sound peers no_way s.ends.places.items (standing_joins t.joins.items) (standing_joins l) t.turns.items s.turns.items t.kind s.kind) (sym joins)
          (subst (λ (l : List (EndId × EndState)). KindWay pattern names sound peers no_way s.ends.places.items (standing_joins t.joins.items) (standing_joins t.joins.items) t.turns.items l t.kind s.kind) (sym turns)
          (subst (λ (k : C). KindWay pattern names sound peers no_way s.ends.places.items (standing_joins t.joins.items) (standing_joins t.joins.items) t.turns.items t.turns.items t.kind k) (sym kind)
          (way_begun pattern names sound peers s.ends.places.items (standing_joins t.joins.items) t.turns.items t.kind))))

  -- nor did an end change its state
  pub calm_fresh : {S : Type 0} (s : SockCore C W N O I) (changes : List (PipeChange O I × S)) → s.way.items ≡ [] → changes ≡ [] → IsCalm (way_in s.way.items) s.ends.places.items changes []
  calm_fresh s changes fresh none =
      subst (λ (l : _). IsCalm (way_in l) s.ends.places.items changes []) (sym fresh)
      (subst (λ (l : List (PipeChange O I × _)). IsCalm no_way s.ends.places.items l []) (sym none) (record { quiet = refl; makings = tt; ends = refl; held = tt }))

  -- no end came, and no pipe was changed
  pub come_fresh : {S : Type 0} (K : Known S O I N) (undoes comes : Bool) (pipes : S) (t s : SockCore C W N O I) (way : List (JoinNote N × List ℕ)) (changes : List (PipeChange O I × S)) → t ≡ s → way ≡ [] → changes ≡ []
      → ∥ HasCome K undoes comes pipes (length t.ends.places.items) (standing_joins t.joins.items) (way_in way).joined (standing_joins s.joins.items) changes s.ends.places.items ∥₁
  come_fresh K undoes comes pipes t s way changes same fresh none =
      ∣ subst (λ (x : SockCore C W N O I). HasCome K undoes comes pipes (length x.ends.places.items) (standing_joins x.joins.items) (way_in way).joined (standing_joins s.joins.items) changes s.ends.places.items) (sym same)
      (came_none K undoes comes pipes (length s.ends.places.items) (standing_joins s.joins.items) (way_in way).joined changes s.ends.places.items refl (ap (λ (l : _). (way_in l).joined) fresh) none) ∣₁

  -- nothing was done
  pub passes_none : {S : Type 0} (s : Option (SockCore C W N O I)) (before now more : List (Moment N S)) → now ≡ before → now ≡ before ++ more → Passes pattern s s more
  passes_none {S = S} s before now more same is = subst (λ (l : List (Moment N S)). Passes pattern s s l) (sym (none_more before more (sym same ∙ is))) (λ still p is_p. record { pattern_is = is_p; answered = λ can. tt })
