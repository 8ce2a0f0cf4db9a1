-- The room for what an end may still put for the other end.
use Rattle.std.specs.Prelude.{◌≡◌, ◌<◌, ◌≤◌, ℕ, Bool, true, false, not, cond, length, refl}
use Rattle.std.proofs.Common.{arith, sym, ap, ◌∙◌}
use Rattle.std.proofs.lemmas.Bool.{eq-eqb}
use Rattle.std.proofs.lemmas.List.Sums.{get_or-le-sum_by}
use Rattle.zq_base.specs.Ends.{other_end}
use Rattle.zq_base.specs.declared.ids.EndId.{EndId}
use Rattle.spec_control.specs.declared.end.EndEvent.{EndEvent}
use Rattle.spec_control.specs.declared.end.EndCommands.{EndCommands}
use Rattle.spec_control.specs.declared.end.EndCommands.TheVariants.{Nothing, TermAndSeal, Ack, Settle, SettleAndAck}
use Rattle.spec_control.specs.Place.{to_put}
use Rattle.spec_control.specs.Rows.{PairRow, no_pair, obj, pair, end_place, end_owner}
use Rattle.spec_control.specs.Control.{Control, commands_in, owner_of, place_of}
use Rattle.control_laws.proofs.ListLemmas.{never}
use Rattle.control_laws.specs.Room.{pair_to_come, slots_of, to_come}
use Rattle.control_laws.proofs.RowRoomLemmas.{place_falls, puts_end}
use Rattle.ctl_state.specs.declared.state.State.{State}
use Rattle.ctl_state.specs.Boxes.{mail_at}
use Rattle.ctl_state.specs.Stands.{tells}

module _ (c : Control) (e : EndId) (within : e.pair.0 < length c.rows.pairs) where
  -- what an end may still put for the other end has its part in the sum
  pub end_to_come : to_put (place_of c e) ≤ to_come c (obj c.rows (owner_of c (other_end e))).slot
  end_to_come = by e.a refl (obj c.rows (owner_of c (other_end e))).slot refl
    where
      p : PairRow
      p = pair c.rows e.pair.0

      part : (m : ℕ) → pair_to_come (slots_of c.rows) m (pair c.rows e.pair.0) ≤ to_come c m
      part m = let one = get_or-le-sum_by (pair_to_come (slots_of c.rows) m) c.rows.pairs e.pair.0 no_pair within in omega (arith, one)

      by : (a : Bool) → e.a ≡ a → (m : ℕ) → (obj c.rows (end_owner (pair c.rows e.pair.0) (not e.a))).slot ≡ m → to_put (end_place (pair c.rows e.pair.0) e.a) ≤ to_come c m
      by true side m is =
          let mine = ap (λ (b : Bool). to_put (end_place (pair c.rows e.pair.0) b)) side in
          let slot = sym (ap (λ (b : Bool). (obj c.rows (end_owner (pair c.rows e.pair.0) (not b))).slot) side) ∙ is in
          let on = ap {B = ℕ} (λ (b : Bool). cond b (to_put (pair c.rows e.pair.0).a) 0) (eq-eqb (obj c.rows (pair c.rows e.pair.0).b_owner).slot m slot) in
          let all = part m in
          omega (arith, mine, on, all)
      by false side m is =
          let mine = ap (λ (b : Bool). to_put (end_place (pair c.rows e.pair.0) b)) side in
          let slot = sym (ap (λ (b : Bool). (obj c.rows (end_owner (pair c.rows e.pair.0) (not b))).slot) side) ∙ is in
          let on = ap {B = ℕ} (λ (b : Bool). cond b (to_put (pair c.rows e.pair.0).b) 0) (eq-eqb (obj c.rows (pair c.rows e.pair.0).a_owner).slot m slot) in
          let all = part m in
          omega (arith, mine, on, all)

  pub told_is_put : (commands : EndCommands) → tells commands ≡ true → puts_end commands ≡ 1
  told_is_put Nothing h = absurd (never h)
  told_is_put TermAndSeal h = refl
  told_is_put Ack h = refl
  told_is_put Settle h = absurd (never h)
  told_is_put SettleAndAck h = refl

  pub room_for : {L : Type 0} (s : State L) (event : EndEvent) → ((m : ℕ) → to_come c m ≤ (mail_at s.boxes m).spare) → tells (commands_in event (place_of c e)) ≡ true →
      0 < (mail_at s.boxes (obj c.rows (owner_of c (other_end e))).slot).spare
  room_for s event room told =
      let some = end_to_come in
      let falls = place_falls event (place_of c e) in
      let one = told_is_put (commands_in event (place_of c e)) told in
      let most = room (obj c.rows (owner_of c (other_end e))).slot in
      omega (arith, some, falls, one, most)
