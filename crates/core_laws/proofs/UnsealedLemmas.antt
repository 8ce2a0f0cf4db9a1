-- What is on its way stays unsealed.
use Rattle.std.specs.Prelude.{◌≡◌, ◌≤◌, ◌<◌, ◌==◌, ◌∷◌, ◌⊎◌, [], ℕ, Bool, true, false, List, Option, Some, None, refl}
use Rattle.std.proofs.Common.{arith, sym, ap, ◌∙◌, subst, inl, inr}
use Rattle.std.proofs.lemmas.Bool.{cases_lt, eq-eqb}
use Rattle.zq_base.specs.Ends.{other_end}
use Rattle.zq_base.specs.declared.ids.EndId.{EndId}
use Rattle.spec_pattern.specs.Half.{Writing}
use Rattle.spec_control.specs.declared.end.EndState.TheVariants.{Gone}
use Rattle.spec_control.specs.declared.entry.Item.{Item}
use Rattle.spec_control.specs.Place.{Place, Unmade, Away, At, is_away}
use Rattle.spec_control.specs.Rows.{end_place, pair}
use Rattle.spec_control.specs.Control.{Control, begun, next_pair, owner_of, place_of}
use Rattle.spec_control.specs.ControlRun.{after_all}
use Rattle.spec_control.specs.Names.{name_of}
use Rattle.msg_pipe.specs.Known.{Known}
use Rattle.control_laws.proofs.ListLemmas.{and, left, never}
use Rattle.control_laws.proofs.MoveLemmas.{is_at}
use Rattle.ctl_moves.proofs.HeldLemmas.{other_twice}
use Rattle.desk.specs.declared.given.Given.{Given}
use Rattle.desk.specs.Lent.{has_writer}
use Rattle.ctl_plane.specs.Past.{control_of}
use Rattle.socket_laws.proofs.AsideLemmas.{names_more}
use Rattle.socket_laws.specs.Places.{is_end_of}
use Rattle.socket_laws.proofs.PlaceLemmas.{its_there, led_on}
use Rattle.plain_desk.specs.Lent.{IsOneOrder, Lent}
use Rattle.socket_laws.proofs.SocketLemmas.{kept_now}
use Rattle.line_socket.specs.Leaving.{IsNoneItSettled, IsNoneItWrites, LeavesPipes, TellsRest}
use Rattle.core_laws.specs.Calls.{AreCallsOn}
use Rattle.core_laws.specs.Rest.{LeavesRest}
use Rattle.core_laws.proofs.ApartLemmas.{is_out, not_second, other_out}
use Rattle.core_laws.proofs.ComingLemmas.{named, was_away}
use Rattle.core_laws.specs.ReapedComing.{AwayUnsealed}
use Rattle.core_laws.specs.Asides.{IsOneAside, IsOneItem}
use Rattle.core_laws.specs.Unsealed.{KeepsUnsealed}

none_some : {X : Type 0} {x : X} → None ≡ Some x → ⊥
none_some e = Prim.grind arith

away_not : (p : Place) → is_away p ≡ true → is_at p ≡ true → ⊥
away_not Unmade away at = never away
away_not Away away at = never at
away_not (At state) away at = never away

-- ---- over an item
module _ {G N T : Type 0} (old new : Lent G N T) (item : Item N T) (adds : IsOneItem old new item) where
  -- the control state behind it
  pub led_one : control_of new.past ≡ after_all (item ∷ []) (control_of old.past)
  led_one =
      let before = adds.before in
      let behind = adds.behind in
      behind.control ∙ ap (λ (n : ℕ). after_all new.items (begun n)) adds.workers ∙ ap (λ (xs : List (Item N T)). after_all xs (begun old.past.workers)) adds.items
      ∙ led_on old.items (item ∷ []) (begun old.past.workers) ∙ ap (after_all (item ∷ [])) (sym before.control)

  pub found_one : control_of old.past ≡ after_all old.items (begun 1)
  found_one = (let before = adds.before in before.control ∙ ap (λ (n : ℕ). after_all old.items (begun n)) adds.one)

module _ {G N T : Type 0} (old new : Lent G N T) (item : Item N T) (is : IsOneAside old new item) where
  same_place : (e : EndId) → place_of (control_of new.past) e ≡ place_of (control_of old.past) e
  same_place e =
      let aside = is.aside in
      ap (λ (c : Control). place_of c e) (led_one old new item is.adds ∙ ap (after_all (item ∷ [])) (found_one old new item is.adds))
      ∙ ap (λ ps. end_place (pair (record (after_all old.items (begun 1)).rows { pairs = ps }) e.pair.0) e.a) aside.pairs
      ∙ ap (λ (c : Control). place_of c e) (sym (found_one old new item is.adds))

  same_name : (e : EndId) → name_of new.items e ≡ name_of old.items e
  same_name e = (let aside = is.aside in let adds = is.adds in ap (λ (xs : List (Item N T)). name_of xs e) adds.items ∙ ap (λ (f : EndId → Option N). f e) (names_more old.items item aside.names))

-- ---- over calls of an open socket
module _ {P N O I T : Type 0} (K : Known P O I N) (o : ℕ) (old new : Lent (Given N O I) N T) (before behind : P) (rest : LeavesRest K o old new before behind) where
  abbrev c : Control
  c = control_of new.past

  calls : AreCallsOn o old new
  calls = rest.calls

  order_now : IsOneOrder new
  order_now = calls.behind

  tells : TellsRest K o old new before behind
  tells = rest.rest

  left_so : LeavesPipes K o new (control_of new.past) before behind
  left_so = tells.pipes

  -- an end of the socket was attached
  its_at : (e : EndId) → is_end_of o (control_of new.past) e ≡ true → is_at (place_of (control_of new.past) e) ≡ true
  its_at e its =
      let run = order_now.order in
      let there = its_there new.past.workers new.items run.run o e (subst (λ (x : Control). is_end_of o x e ≡ true) order_now.control its) in
      subst (λ (x : Control). is_at (place_of x e) ≡ true) (sym order_now.control) there.at

  module _ (e : EndId) (h : O) (away : is_away (place_of (control_of new.past) e) ≡ true) (written : name_of new.items e ≡ Some (K.out_name h)) where
    not_its : is_end_of o (control_of new.past) e ≡ false
    not_its = by (is_end_of o c e) refl
      where
        by : (b : Bool) → is_end_of o c e ≡ b → b ≡ false
        by false is = refl
        by true is = absurd (away_not (place_of c e) away (its_at e is))

    -- nobody gave up the other side of its pair
    not_gone : (x : EndId) → x ≡ other_end e → place_of (control_of new.past) x ≡ At Gone → ⊥
    not_gone x same gone =
        not_second (has_writer (place_of c e)) (is_away (place_of c e))
        (ap (λ (y : EndId). is_out (place_of c y)) (sym (other_twice e) ∙ ap other_end (sym same)) ∙ other_out c (kept_now new order_now) x gone) away

    -- it was on its way before
    module _ (within : e.pair.0 < next_pair (control_of old.past)) (free : AwayUnsealed K old before) where
      away_then : is_away (place_of (control_of old.past) e) ≡ true
      away_then =
          left (is_away (place_of (control_of old.past) e)) (owner_of (control_of old.past) e == owner_of c e)
          (was_away old new o calls rest.had e within (owner_of c e) (and (is_away (place_of c e)) (owner_of c e == owner_of c e) away (eq-eqb (owner_of c e) (owner_of c e) refl)))

      named_then : name_of old.items e ≡ Some (K.out_name h)
      named_then = sym (same (let before = calls.before in subst (λ (x : Control). e.pair.0 < next_pair x) before.control within)) ∙ written
        where
          same : e.pair.0 < next_pair (after_all old.items (begun old.past.workers)) → name_of new.items e ≡ name_of old.items e
          same here = named old new o calls rest.had e within e here

      unwritten : IsNoneItWrites K o new (K.out_name h)
      unwritten x w its name exact same =
          let one = rest.named_now.distinct exact e x (K.out_name h) written (name ∙ ap (λ (n : N). Some n) (sym same)) in
          away_not (place_of c e) away (subst (λ (y : EndId). is_at (place_of c y) ≡ true) (sym one) (its_at x its))

      unsettled : IsNoneItSettled K o new (K.out_name h) (control_of new.past)
      unsettled x r its gone name exact same =
          let one = rest.named_now.distinct exact e (other_end x) (K.out_name h) written (name ∙ ap (λ (n : N). Some n) (sym same)) in
          not_gone x (sym (other_twice x) ∙ ap other_end (sym one)) gone

      unsealed_still : (K.writing behind h).sealed ≡ false
      unsealed_still = ap (λ (w : Writing). w.sealed) (left_so.outs h (rest.named.there e (K.out_name h) named_then) unwritten unsettled) ∙ free e h away_then named_then

    -- or its pair was made since
    module _ (since : next_pair (control_of old.past) ≤ e.pair.0) where
      unnamed : (m : Option N) → name_of old.items e ≡ m → name_of old.items e ≡ None
      unnamed None is = is
      unnamed (Some m) is = absurd (let made = rest.named.made e m is in omega (arith, made, since))

      unsealed_new : (K.writing behind h).sealed ≡ false
      unsealed_new = tells.unsealed rest.exact rest.named e (unnamed (name_of old.items e) refl) not_its (not_gone (other_end e) refl) h written

    pub calls_leave : AwayUnsealed K old before → (K.writing behind h).sealed ≡ false
    calls_leave free = by (cases_lt e.pair.0 (next_pair (control_of old.past)))
      where
        by : (e.pair.0 < next_pair (control_of old.past)) ⊎ (next_pair (control_of old.past) ≤ e.pair.0) → (K.writing behind h).sealed ≡ false
        by (inl within) = unsealed_still within free
        by (inr since) = unsealed_new since

pub keeps_unsealed : {S O I N : Type 0} (K : Known S O I N) (T : Type 0) → KeepsUnsealed K T
keeps_unsealed {S} {O} {I} {N} K T = record {
  first = λ d pipes none e h away named. absurd (none_some (sym (ap (λ (xs : List (Item N T)). name_of xs e) none) ∙ named));
  aside = λ old new item is pipes free e h away named.
      free e h (ap is_away (sym (same_place old new item is e)) ∙ away) (sym (same_name old new item is e) ∙ named);
  calls = λ o old new before behind rest free e h away named. calls_leave K o old new before behind rest e h away named free;
}
