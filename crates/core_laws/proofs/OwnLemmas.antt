-- The ends on their way to an open socket may join it still behind its own calls.
use Rattle.std.specs.Prelude.{◌≡◌, ◌≤◌, ◌<◌, ◌+◌, ◌⊎◌, ℕ, Bool, true, false, Option, Some, None, refl}
use Rattle.std.specs.List.{list_any}
use Rattle.std.proofs.Common.{arith, sym, ap, ◌∙◌, inl, inr}
use Rattle.std.proofs.lemmas.Bool.{cases_lt}
use Rattle.zq_base.specs.Ends.{other_end}
use Rattle.zq_base.specs.declared.ids.EndId.{EndId}
use Rattle.spec_pattern.specs.Half.{Writing}
use Rattle.spec_control.specs.declared.end.EndState.TheVariants.{Gone}
use Rattle.spec_control.specs.Place.{At, is_away}
use Rattle.spec_control.specs.Control.{Control, ends_of, id, is_end, next_pair, place_of}
use Rattle.spec_control.specs.Names.{name_of}
use Rattle.msg_pipe.specs.Known.{Known}
use Rattle.any_sock.specs.declared.any_sock.AnySock.{AnySock}
use Rattle.ctl_moves.proofs.HeldLemmas.{other_twice}
use Rattle.desk.specs.declared.given.Given.{Given}
use Rattle.desk.specs.declared.halves.Halves.{Halves}
use Rattle.desk.specs.Lent.{has_writer}
use Rattle.ctl_plane.specs.Past.{control_of}
use Rattle.desk.specs.Coming.{BindsFit}
use Rattle.desk.specs.Desk.{slot_after}
use Rattle.end_table.specs.Sound.{Fits}
use Rattle.sock_core.specs.declared.sock.SockCore.{SockCore}
use Rattle.sock_calls.specs.Calls.{MayJoin}
use Rattle.socket_laws.specs.Places.{is_end_of}
use Rattle.plain_desk.specs.Lent.{coming_to, moments_of, GrowsBy, HasSocket, IsOneOrder, Lent}
use Rattle.socket_laws.specs.Behind.{is_its_end, IsNoneOfIts}
use Rattle.socket_laws.proofs.NewLemmas.{away, coming_ends_are_new}
use Rattle.socket_laws.proofs.SocketLemmas.{is_in, kept_now}
use Rattle.line_socket.specs.Leaving.{IsNoneItSettled, IsNoneItWrites, LeavesPipes, TellsRest}
use Rattle.line_socket.specs.Owned.{IsOwned}
use Rattle.core_laws.specs.Calls.{AreCallsOn}
use Rattle.core_laws.specs.Coming.{WasComing}
use Rattle.core_laws.specs.Rest.{LeavesRest}
use Rattle.core_laws.proofs.ApartLemmas.{is_out, not_second, other_out}
use Rattle.core_laws.proofs.ComingLemmas.{old_end_came}
use Rattle.core_laws.proofs.JoinLemmas.{joins_by}
use Rattle.core_laws.proofs.OwnedLemmas.{held_by}
use Rattle.core_laws.proofs.PlacesLemmas.{ends_left}
use Rattle.core_laws.specs.Own.{OwnJoinStill}

module _ (W T : Type 0) {P N O I : Type 0} (K : Known P O I N) (old new : Lent (Given N O I) N T) (was now : SockCore AnySock W N O I) (before behind : P) (rest : LeavesRest K now.number.0 old new before behind)
    (owned : IsOwned K new.caller (moments_of new) behind now) (binds : BindsFit K.out_name K.in_name (name_of old.items) (coming_to old (slot_after now.number.0 (moments_of old)).0) (MayJoin K before (Some was))) where
  abbrev o : ℕ
  o = now.number.0

  abbrev c : Control
  c = control_of new.past

  calls : AreCallsOn now.number.0 old new
  calls = rest.calls

  abbrev order_now : IsOneOrder new
  order_now = calls.behind

  has : HasSocket new (id now.number.0)
  has = owned.is_open

  grown : GrowsBy old new
  grown = calls.grows

  tells : TellsRest K now.number.0 old new before behind
  tells = rest.rest

  left : LeavesPipes K now.number.0 new (control_of new.past) before behind
  left = tells.pipes

  same_slot : (slot_after now.number.0 (moments_of new)).0 ≡ (slot_after now.number.0 (moments_of old)).0
  same_slot = (is_in new order_now o has).slot ∙ ap (λ (w : ℕ). w + o) grown.workers ∙ sym (is_in old calls.before o rest.had).slot

  -- its ends, by the control state and by its caller's moments
  its_now : (e : EndId) → is_end_of now.number.0 (control_of new.past) e ≡ true → is_its_end now.number.0 new e ≡ true
  its_now e its = ap (list_any (is_end e)) (ends_left new o order_now has ∙ ap (ends_of o) (sym order_now.control)) ∙ its

  module _ (e : EndId) (h : Halves O I) (coming : coming_to new (slot_after now.number.0 (moments_of new)).0 e ≡ true) (written : name_of new.items e ≡ Some (K.out_name h.out)) (read : name_of new.items (other_end e) ≡ Some (K.in_name h.input)) where
    fresh : IsNoneOfIts now.number.0 new e
    fresh = coming_ends_are_new (Given N O I) N T new o order_now has e coming

    away_now : is_away (place_of (control_of new.past) e) ≡ true
    away_now = away new o order_now has e coming

    not_its : is_end_of now.number.0 (control_of new.past) e ≡ false
    not_its = by (is_end_of o c e) refl
      where
        by : (b : Bool) → is_end_of o c e ≡ b → b ≡ false
        by false is = refl
        by true is = absurd (fresh.other e (its_now e is) refl)

    -- nobody gave up the other side of its pair
    not_gone : (x : EndId) → x ≡ other_end e → place_of (control_of new.past) x ≡ At Gone → ⊥
    not_gone x same gone =
        not_second (has_writer (place_of c e)) (is_away (place_of c e))
        (ap (λ (y : EndId). is_out (place_of c y)) (sym (other_twice e) ∙ ap other_end (sym same)) ∙ other_out c (kept_now new order_now) x gone) away_now

    -- it was on its way before
    module _ (came : WasComing (slot_after now.number.0 (moments_of new)).0 old new e) where
      may : Fits K before was.ends.places.items h
      may = binds e h (ap (λ (n : ℕ). coming_to old n e) (sym same_slot) ∙ came.coming) (sym came.written ∙ written) (sym came.read ∙ read)

      unwritten : IsNoneItWrites K now.number.0 new (K.out_name h.out)
      unwritten x w its named exact same = fresh.other x (its_now x its) (rest.named_now.distinct exact e x (K.out_name h.out) written (named ∙ ap (λ (n : N). Some n) (sym same)))

      unsettled : IsNoneItSettled K now.number.0 new (K.out_name h.out) (control_of new.past)
      unsettled x r its gone named exact same = fresh.across x (its_now x its) (rest.named_now.distinct exact e (other_end x) (K.out_name h.out) written (named ∙ ap (λ (n : N). Some n) (sym same)))

      unsealed_still : (K.writing behind h.out).sealed ≡ false
      unsealed_still = ap (λ (w : Writing). w.sealed) (left.outs h.out may.out_there unwritten unsettled) ∙ may.unsealed

    -- or its pair was made since
    module _ (since : next_pair (control_of old.past) ≤ e.pair.0) where
      unnamed : (m : Option N) → name_of old.items e ≡ m → name_of old.items e ≡ None
      unnamed None is = is
      unnamed (Some m) is = absurd (let made = rest.named.made e m is in omega (arith, made, since))

      unsealed_new : (K.writing behind h.out).sealed ≡ false
      unsealed_new = tells.unsealed rest.exact rest.named e (unnamed (name_of old.items e) refl) not_its (not_gone (other_end e) refl) h.out written

    unsealed : (K.writing behind h.out).sealed ≡ false
    unsealed = by (cases_lt e.pair.0 (next_pair (control_of old.past)))
      where
        by : (e.pair.0 < next_pair (control_of old.past)) ⊎ (next_pair (control_of old.past) ≤ e.pair.0) → (K.writing behind h.out).sealed ≡ false
        by (inl within) = unsealed_still (old_end_came old new o calls rest.had e within (slot_after o (moments_of new)).0 coming)
        by (inr since) = unsealed_new since

    pub joins_still : Fits K behind now.ends.places.items h
    joins_still =
        joins_by K new order_now rest.named_now.distinct new.caller o has e h coming written read behind now.ends.places.items
        (λ k p at held. held_by W T K new order_now new.caller behind now owned k p at held)
        (rest.named_now.there e (K.out_name h.out) written) (rest.named_now.there (other_end e) (K.in_name h.input) read) unsealed

pub own_join_still : (W T : Type 0) {P N O I : Type 0} (K : Known P O I N) → OwnJoinStill W T K
own_join_still W T K old new was now before behind rest owned binds e h coming written read = joins_still W T K old new was now before behind rest owned binds e h coming written read
