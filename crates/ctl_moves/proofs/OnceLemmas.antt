-- What the holders of ends are told of, where one end moved or none.
use Rattle.std.specs.Prelude.{◌≡◌, ◌<◌, ◌++◌, [], true, false, List, All, length}
use Rattle.std.specs.List.{list_any}
use Rattle.std.proofs.Common.{sym, ap, ◌∙◌, subst}
use Rattle.zq_base.specs.declared.ids.EndId.{EndId}
use Rattle.spec_control.specs.declared.end.EndEvent.{EndEvent}
use Rattle.spec_control.specs.declared.end.EndState.{EndState}
use Rattle.spec_control.specs.Control.{Control, happens, is_end, place_of}
use Rattle.control_laws.specs.AttachedOnce.{AreOnce}
use Rattle.control_laws.proofs.AskLemmas.{end_self}
use Rattle.control_laws.proofs.HearLemmas.{end_moved}
use Rattle.control_laws.proofs.StayLemmas.{SameEnds}
use Rattle.control_laws.proofs.ListLemmas.{clash}
use Rattle.desk.specs.Holding.{Holding, KeepsTurns}
use Rattle.desk.specs.Turns.{TurnsBy, HasTurned, turned_in, turned_over}
use Rattle.ctl_moves.specs.Turning.{TurnsOnce, turn_of}
use Rattle.ctl_moves.proofs.TurnedLemmas.{in_before, in_behind, in_none, in_one, over_append, over_still, place_same, turns_kept}

-- other ends than that of an event stay where they are
else_where : (c : Control) (event : EndEvent) (e : EndId) → e.pair.0 < length c.rows.pairs → (x : EndId) → is_end x e ≡ false → place_of (happens event e c) x ≡ place_of c x
else_where c event e within x other = (end_moved c event e within).elsewhere x.pair.0 x.a (λ (same : x ≡ e). clash (is_end x e) (ap (λ (j : EndId). is_end j e) same ∙ end_self e) other)

module _ {N : Type 0} where
  -- nothing was told, and no end moved
  pub told_none : (c d : Control) (h k : Holding N) → ((e : EndId) → place_of d e ≡ place_of c e) → TurnsBy [] h k → TurnsOnce c d h k
  told_none c d h k same none once = subst (λ (ts : List (EndId × EndState)). TurnsBy ts h k) (sym (in_none c d same)) none

  -- an end's event, behind which no end moved
  pub told_one : (c d : Control) (event : EndEvent) (e : EndId) (h k : Holding N) → SameEnds (happens event e c) d → e.pair.0 < length c.rows.pairs → list_any (is_end e) c.attached ≡ true → TurnsBy (turn_of e c (happens event e c)) h k → TurnsOnce c d h k
  told_one c d event e h k same within listed turned once =
      subst (λ (ts : List (EndId × EndState)). TurnsBy ts h k)
      (sym (in_behind c (happens event e c) d same.attached (place_same (happens event e c) d same.pairs)
      ∙ in_one c (happens event e c) e once (end_moved c event e within).attached listed (else_where c event e within))) turned

  -- behind what was told no end moved
  pub told_behind : (c d f : Control) (h k : Holding N) → SameEnds d f → TurnsOnce c d h k → TurnsOnce c f h k
  told_behind c d f h k same turned once =
      subst (λ (ts : List (EndId × EndState)). TurnsBy ts h k) (sym (in_behind c d f same.attached (place_same d f same.pairs))) (turned once)

  -- nor before it
  pub told_before : (b c d : Control) (h k : Holding N) → c.attached ≡ b.attached → ((e : EndId) → place_of c e ≡ place_of b e) → TurnsOnce c d h k → TurnsOnce b d h k
  told_before b c d h k attached same turned once = subst (λ (ts : List (EndId × EndState)). TurnsBy ts h k) (in_before b c d same) (turned (subst AreOnce (sym attached) once))

  -- a call more that is told of none
  pub told_kept : (c d : Control) (h m k : Holding N) → TurnsOnce c d h m → KeepsTurns m k → TurnsOnce c d h k
  told_kept c d h m k turned keeps once = turns_kept (turned_in c d) h m k (turned once) keeps

  -- these ends more were attached, and no other moved
  pub told_more : (c d : Control) (es : List EndId) (h k : Holding N) → d.attached ≡ c.attached ++ es → All (λ x. place_of d x ≡ place_of c x) c.attached → TurnsBy (turned_over (place_of c) (place_of d) es) h k → HasTurned c d h k
  told_more c d es h k attached stay turned = subst (λ (ts : List (EndId × EndState)). TurnsBy ts h k) (sym they_are) turned
    where
      they_are : turned_in c d ≡ turned_over (place_of c) (place_of d) es
      they_are =
          ap (turned_over (place_of c) (place_of d)) attached ∙ over_append (place_of c) (place_of d) c.attached es
          ∙ ap (λ (ts : List (EndId × EndState)). ts ++ turned_over (place_of c) (place_of d) es) (over_still (place_of c) (place_of d) c.attached stay)
