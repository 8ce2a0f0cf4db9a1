-- A holder keeps its objects, but one that ended.
use Rattle.std.specs.Prelude.{◌≡◌, ◌≢◌, ◌<◌, ◌&&◌, ◌⊎◌, ◌++◌, ◌∷◌, [], ℕ, Bool, true, false, not, Option, None, Some, length, if◌then◌else◌, refl}
use Rattle.std.proofs.Common.{sym, ap, ◌∙◌, subst, inl, inr}
use Rattle.std.proofs.lemmas.Bool.{cases_eq}
use Rattle.std.proofs.lemmas.List.{get_or-set_same}
use Rattle.spec_control.specs.declared.stage.Stage.{Stage}
use Rattle.spec_control.specs.declared.stage.Stage.TheVariants.{Alive, Told, Ending, Finished, Cleared}
use Rattle.spec_control.specs.Stage.{has_ended, is_ending, is_told}
use Rattle.spec_control.specs.Row.{Row, nobody}
use Rattle.spec_control.specs.Rows.{may_end, obj, with_object}
use Rattle.spec_control.specs.Control.{Control, finish, id, tell_owner, try_end, with_value}
use Rattle.control_laws.proofs.ListLemmas.{never, left, placed, clash}
use Rattle.desk.specs.Holding.{Holding, IsTold}
use Rattle.desk.specs.Joins.{KeepsObjects}
use Rattle.ctl_moves.proofs.BetweenLemmas.{StayBetween, none_plugged}

-- an object that was told, or whose child has ended, has not
pub told_lives : (t : Stage) (b : Bool) → (is_told t && b) ≡ true → has_ended t ≡ false
told_lives Alive b h = refl
told_lives Told b h = refl
told_lives Ending b h = refl
told_lives Finished b h = absurd (never h)
told_lives Cleared b h = absurd (never h)

-- one that has output left does not
pub left_alone : (i : ℕ) (c : Control) → (try_end i true c).rows ≡ c.rows
left_alone i c = by (may_end c.rows i)
  where
    now : Control
    now = record c { output_left = with_value i true c.output_left }

    by : (b : Bool) → (if b then (if true then now else finish i now) else now).rows ≡ c.rows
    by true = refl
    by false = refl

-- an object that can end has ended then, unless it has output left
pub ended_now : (i : ℕ) (left : Bool) (c : Control) → (not left && may_end c.rows i) ≡ true → has_ended (obj (try_end i left c).rows i).stage ≡ true
ended_now i true c may_it = absurd (never may_it)
ended_now i false c may_it =
    ap (λ (b : Bool). has_ended (obj (if b then finish i now else now).rows i).stage) may_it ∙ by (obj c.rows i).owner
  where
    now : Control
    now = record c { output_left = with_value i false c.output_left }

    done : Row
    done = record (obj c.rows i) { stage = Finished }

    there : i < length c.rows.objects
    there = placed (λ (o : Row). lives o.stage) c.rows.objects nobody i refl (ending (obj c.rows i).stage (left (is_ending (obj c.rows i).stage) _ may_it))
      where
        lives : Stage → Bool
        lives Alive = true
        lives Told = true
        lives Ending = false
        lives Finished = true
        lives Cleared = true

        ending : (t : Stage) → is_ending t ≡ true → lives t ≡ false
        ending Alive h = absurd (never h)
        ending Told h = absurd (never h)
        ending Ending h = refl
        ending Finished h = absurd (never h)
        ending Cleared h = absurd (never h)

    by : (owner : Option ℕ) → has_ended (obj (tell_owner owner i (record now { rows = with_object i (record (obj c.rows i) { stage = Finished }) c.rows; ended = c.ended ++ id i ∷ [] })).rows i).stage ≡ true
    by None = ap (λ (o : Row). has_ended o.stage) (get_or-set_same c.rows.objects i done nobody there)
    by (Some w) = ap (λ (o : Row). has_ended o.stage) (get_or-set_same c.rows.objects i done nobody there)

module _ {N : Type 0} (was now : Control) where
  -- nothing was told of any
  pub all_kept : (h k : Holding N) → ((i : ℕ) → k.holds i ≡ h.holds i) → ((i : ℕ) → k.kind i ≡ h.kind i) → StayBetween was.rows now.rows → KeepsObjects was now h k
  all_kept h k holds kinds still = record {
    holds = λ i stays. holds i;
    kinds = λ i stays. kinds i;
    had = λ i has. inl (sym (holds i) ∙ has, kinds i);
    reaped = λ i between taken lives. absurd (clash _ (still.reaps i between) taken);
    taken_in = λ i came. absurd (clash _ came (none_plugged was.rows now.rows still.plugs i));
  }

  -- the holder was told of one, and let it go only if it ended
  pub told_kept : (o : ℕ) (ended : Bool) (h k l : Holding N) → ((i : ℕ) → k.holds i ≡ h.holds i) → ((i : ℕ) → k.kind i ≡ h.kind i) → IsTold o k l → (o ≡ 0 → l ≡ k) → (o ≢ 0 → h.holds o ≡ true) → (ended ≡ false → l.holds o ≡ k.holds o) →
      has_ended (obj was.rows o).stage ≡ false → (ended ≡ true → has_ended (obj now.rows o).stage ≡ true) → StayBetween was.rows now.rows → KeepsObjects was now h l
  told_kept o ended h k l holds kinds told root lent kept lived ends still = record {
    holds = λ i stays. here i stays.ended (cases_eq i o);
    kinds = λ i stays. told.kinds i ∙ kinds i;
    had = λ i has. inl (had i has (cases_eq i o), told.kinds i ∙ kinds i);
    reaped = λ i between taken lives. absurd (clash _ (still.reaps i between) taken);
    taken_in = λ i came. absurd (clash _ came (none_plugged was.rows now.rows still.plugs i));
  }
    where
      had : (i : ℕ) → l.holds i ≡ true → (i ≡ o) ⊎ (i ≡ o → ⊥) → h.holds i ≡ true
      had i has (inr other) = sym (told.objects i other ∙ holds i) ∙ has
      had i has (inl same) =
          elim (cases_eq o 0) [
            | inl is ↦ sym (holds i) ∙ ap (λ (x : Holding N). x.holds i) (sym (root is)) ∙ has
            | inr above ↦ ap h.holds same ∙ lent above
          ]

      mine : (b : Bool) → (b ≡ false → l.holds o ≡ k.holds o) → (b ≡ true → has_ended (obj now.rows o).stage ≡ true) → (has_ended (obj now.rows o).stage ≡ true → has_ended (obj was.rows o).stage ≡ true) → l.holds o ≡ k.holds o
      mine false same gone stays = same refl
      mine true same gone stays = absurd (never (sym lived ∙ stays (gone refl)))

      here : (i : ℕ) → (has_ended (obj now.rows i).stage ≡ true → has_ended (obj was.rows i).stage ≡ true) → (i ≡ o) ⊎ (i ≡ o → ⊥) → l.holds i ≡ h.holds i
      here i stays (inl same) =
          subst (λ (n : ℕ). l.holds n ≡ h.holds n) (sym same)
          (mine ended kept ends (subst (λ (n : ℕ). has_ended (obj now.rows n).stage ≡ true → has_ended (obj was.rows n).stage ≡ true) same stays) ∙ holds o)
      here i stays (inr other) = told.objects i other ∙ holds i
