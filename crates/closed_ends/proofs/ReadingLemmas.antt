-- How far an end of a closed socket is that was found, or was not, and what a look leaves of those that are sealed.
use Rattle.std.proofs.Common.{◌≡◌, ◌||◌, ◌∙◌, ℕ, Bool, true, false, List, [], ◌∷◌, ◌++◌, All, map, refl, sym, ap, if◌then◌else◌}
use Rattle.std.specs.List.{list_any}
use Rattle.zq_base.specs.declared.ids.EndId.{EndId}
use Rattle.spec_control.specs.declared.end.EndState.TheVariants.{Gone}
use Rattle.desk.specs.declared.given.Given.{Given}
use Rattle.closed_ends.specs.declared.sockets.ClosedSocket.{ClosedSocket}
use Rattle.closed_ends.specs.Has.{all_ends, is_of, ends_of, state_in}
use Rattle.closed_ends.specs.Finding.{FindsEnd}
use Rattle.closed_ends.specs.Ending.{seals_told}
use Rattle.closed_ends.proofs.ListLemmas.{mapped, never}
use Rattle.closed_ends.proofs.ChangeLemmas.{own_ends, state_here, Replaces}

module _ {N O I : Type 0} where
  -- one that is found is as far as it says
  pub state_found : (o : ℕ) (e : EndId) (ss : List (ClosedSocket N O I)) (j k : ℕ) → (f : FindsEnd o e ss j k) → state_in (ends_of ss o) e ≡ f.here.one.state
  state_found o e ss j k f =
      ap (λ (l : List (ClosedSocket N O I)). state_in (ends_of l o) e) f.its.are
      ∙ ap (λ (l : List (Given N O I)). state_in l e) (own_ends o f.its.before f.its.behind f.its.one f.its.others f.its.is)
      ∙ ap (λ (l : List (Given N O I)). state_in l e) f.here.are
      ∙ state_here e f.here.before f.here.behind f.here.one f.here.others f.here.is

  -- one that is not there is gone
  pub state_none : (e : EndId) (gs : List (Given N O I)) → list_any (is_of e) gs ≡ false → state_in gs e ≡ Gone
  state_none e [] none = refl
  state_none e (g ∷ gs) none = by (state_none e gs) (is_of e g) none
    where
      by : (list_any (is_of e) gs ≡ false → state_in gs e ≡ Gone) → (b : Bool) → (b || list_any (is_of e) gs) ≡ false → (if b then g.state else state_in gs e) ≡ Gone
      by rest true h = never h
      by rest false h = rest h

  -- an end in the place of another is told as sealed as that was
  pub seals_replaced : (o : ℕ) (e : EndId) (g k : Given N O I) (ss ts : List (ClosedSocket N O I)) → Replaces o e g (k ∷ []) ss ts → k.end ≡ g.end → k.sealed ≡ g.sealed → seals_told (all_ends ts) ≡ seals_told (all_ends ss)
  seals_replaced o e g k ss ts r end sealed =
      ap seals_told r.now ∙ mapped of (r.pre ++ r.front) (k ∷ (r.back ++ r.post))
      ∙ ap (λ (d : EndId). seals_told (r.pre ++ r.front) ++ (d, k.sealed) ∷ seals_told (r.back ++ r.post)) end
      ∙ ap (λ (b : Bool). seals_told (r.pre ++ r.front) ++ (g.end, b) ∷ seals_told (r.back ++ r.post)) sealed
      ∙ sym (ap seals_told r.was ∙ mapped of (r.pre ++ r.front) (g ∷ (r.back ++ r.post)))
    where
      of : Given N O I → EndId × Bool
      of x = (x.end, x.sealed)
