-- That the mailbox of a socket which was not asked is there.
use Rattle.std.specs.Prelude.{◌≡◌, ◌<◌, ◌≤◌, ◌∷◌, [], ℕ, Bool, true, false, not, cond, List, length, map, refl}
use Rattle.std.proofs.Common.{arith, sym, ap, ◌∙◌}
use Rattle.std.proofs.lemmas.Bool.{eq-eqb}
use Rattle.mailbox.specs.Mail.{no_mail}
use Rattle.spec_control.specs.declared.stage.Stage.{Stage}
use Rattle.spec_control.specs.declared.stage.Stage.TheVariants.{Alive, Told, Ending, Finished, Cleared}
use Rattle.spec_control.specs.Stage.{is_alive, is_coming, is_told, was_asked}
use Rattle.spec_control.specs.Row.{Row, GetsPlug, GetsStop, GetsTerm, first_if}
use Rattle.spec_control.specs.Rows.{obj}
use Rattle.spec_control.specs.Control.{Control}
use Rattle.control_laws.specs.Room.{to_come}
use Rattle.control_laws.specs.Kept.{Kept, IsUnasked}
use Rattle.control_laws.specs.Mail.{DownLink, Mark, down_mark, down_marks, on_way}
use Rattle.control_laws.proofs.SoundLemmas.{socket_there}
use Rattle.control_laws.proofs.ListLemmas.{never}
use Rattle.ctl_state.specs.declared.state.State.{State}
use Rattle.ctl_state.specs.Boxes.{letters, mail_at}
use Rattle.ctl_state.specs.Stands.{Stands}
use Rattle.ctl_state.proofs.ReadLemmas.{placed_where}
use Rattle.ctl_state.proofs.StandLemmas.{roomy}
use Rattle.ctl_moves.proofs.BareLemmas.{term_to_come}

-- who was told has a command on its way
abbrev down_is : ℕ → (plug stop : Bool) → List Mark
down_is i plug stop = map (down_mark i) (first_if plug GetsPlug (first_if stop GetsStop (first_if true GetsTerm [])))

down_some : (i : ℕ) (plug stop : Bool) → down_is i plug stop ≡ [] → ⊥
down_some i true stop h = absurd (some h)
  where
    some : {x : Mark} {xs : List Mark} → x ∷ xs ≡ [] → ⊥
    some e = Prim.grind arith
down_some i false true h = absurd (some h)
  where
    some : {x : Mark} {xs : List Mark} → x ∷ xs ≡ [] → ⊥
    some e = Prim.grind arith
down_some i false false h = absurd (some h)
  where
    some : {x : Mark} {xs : List Mark} → x ∷ xs ≡ [] → ⊥
    some e = Prim.grind arith

told_some : (i : ℕ) (o : Row) → is_told o.stage ≡ true → down_marks i o ≡ [] → ⊥
told_some i o told h =
    down_some i (not o.plugged) (is_coming o.stop)
    (sym (ap (λ (b : Bool). map (down_mark i) (first_if (not o.plugged) GetsPlug (first_if (is_coming o.stop) GetsStop (first_if b GetsTerm [])))) told) ∙ h)

module _ {L : Type 0} (s : State L) (c : Control) (kept : Kept c) (stands : Stands s c) (room : (m : ℕ) → to_come c m ≤ (mail_at s.boxes m).spare) (i : ℕ) (u : IsUnasked c.rows i) where
  told_box : is_told (obj c.rows i).stage ≡ true → (obj c.rows i).slot < length s.boxes
  told_box told = placed_where letters s.boxes (obj c.rows i).slot no_mail (λ e. told_some i (obj c.rows i) told (empty e))
    where
      way : on_way (DownLink i) (c.boxes (obj c.rows i).slot) ≡ down_marks i (obj c.rows i)
      way =
          kept.delivered (obj c.rows i).slot (DownLink i)
          ∙ ap (λ (b : Bool). cond b (down_marks i (obj c.rows i)) []) (eq-eqb (obj c.rows i).slot (obj c.rows i).slot refl)

      empty : letters (mail_at s.boxes (obj c.rows i).slot) ≡ [] → down_marks i (obj c.rows i) ≡ []
      empty e = sym way ∙ ap (on_way (DownLink i)) (sym (stands.boxes.each (obj c.rows i).slot) ∙ e)

  pub box_there : (obj c.rows i).slot < length s.boxes
  box_there = by (obj c.rows i).stage refl u.unasked
    where
      by : (t : Stage) → (obj c.rows i).stage ≡ t → was_asked t ≡ false → (obj c.rows i).slot < length s.boxes
      by Alive is h =
          let one = term_to_come c i (socket_there c.rows i u.socket) (ap (λ (t : Stage). is_alive t) is) in
          let most = room (obj c.rows i).slot in
          roomy s.boxes (obj c.rows i).slot (omega (arith, one, most))
      by Told is h = told_box (ap is_told is)
      by Ending is h = absurd (never (sym h))
      by Finished is h = absurd (never (sym h))
      by Cleared is h = absurd (never (sym h))
