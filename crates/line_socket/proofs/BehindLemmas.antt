-- A socket behind a call: its ends are told where its caller's moments left them, where those that joined it are the socket's.
use Rattle.std.proofs.Common.{◌≡◌, ◌∙◌, ◌&&◌, ◌||◌, ℕ, Bool, true, false, List, [], ◌∷◌, map, Some, refl, sym, ap, true≢false, eq-eqb, if◌then◌else◌}
use Rattle.std.specs.List.{list_any}
use Rattle.zq_base.specs.declared.ids.EndId.{EndId}
use Rattle.spec_control.specs.declared.end.EndState.{EndState}
use Rattle.spec_control.specs.declared.end.EndState.TheVariants.{Gone}
use Rattle.spec_control.specs.declared.entry.Joining.{Joining}
use Rattle.spec_control.specs.Names.{name_of}
use Rattle.spec_control.specs.Place.{At}
use Rattle.spec_control.specs.Control.{begun, is_end, place_of, ends_of}
use Rattle.spec_control.specs.ControlRun.{after_all}
use Rattle.spec_control.specs.Held.{Held}
use Rattle.spec_control.specs.Moments.{items_in, left_after}
use Rattle.spec_control.specs.OwnAsks.{known_after}
use Rattle.desk.specs.Holding.{has_end}
use Rattle.desk.specs.Lent.{HasEnds}
use Rattle.desk.specs.declared.given.Given.{Given}
use Rattle.desk.specs.Desk.{HasWhatTheySay}
use Rattle.control_laws.proofs.HaveLemmas.{lent_holders_have_it}
use Rattle.msg_pipe.specs.Known.{Known}
use Rattle.any_sock.specs.declared.any_sock.AnySock.{AnySock}
use Rattle.any_sock.specs.Over.{peer_places}
use Rattle.end_table.specs.declared.table.Place.{Place}
use Rattle.end_table.specs.Places.{place_at, held_of, held_in}
use Rattle.end_table.specs.Sound as held
use Rattle.sock_core.specs.declared.sock.SockCore.{SockCore}
use Rattle.sock_core.specs.Has.{holding_in, state_in}
use Rattle.sock_core.specs.Standing.{standing_joins}
use Rattle.sock_calls.specs.Calls.{FitsCore}
use Rattle.spec_run.specs.OpenSocket.{SockEnd, is_active, place_in}
use Rattle.line_socket.specs.View.{ends_told}
use Rattle.line_socket.specs.Standing.{IsStanding, kind_told}
use Rattle.line_socket.proofs.ViewLemmas.{same_active}
use Rattle.socket_laws.specs.Open.{ends_at, HasOpen}
use Rattle.socket_laws.specs.OpenEnds.{AreLeft, state_held}
use Rattle.socket_laws.proofs.LeftLemmas.{open_ends_are_left}
use Rattle.socket_laws.proofs.ToldLemmas.{told_ends_are_left}
use Rattle.plain_desk.specs.Lent.{Lent, IsOneOrder, moments_of}
use Rattle.line_socket.specs.Owned.{IsOut}
use Rattle.line_socket.proofs.StandingLemmas.{told_at, place_found}

module _ {N I : Type 0} where
  -- an end that is not among those held is gone
  state_gone : (ps : List (Place N I)) (e : EndId) → has_end e (held_in ps) ≡ false → state_in ps e ≡ Gone
  state_gone [] e h = refl
  state_gone (p ∷ ps) e h = by (λ k. state_gone ps e k) p.held refl where
    or_front : (b c : Bool) → b || c ≡ false → b ≡ false
    or_front false c x = refl
    or_front true c x = absurd (true≢false x)

    or_back : (b c : Bool) → b || c ≡ false → c ≡ false
    or_back false c x = x
    or_back true c x = absurd (true≢false x)

    by : (has_end e (held_in ps) ≡ false → state_in ps e ≡ Gone) → (b : Bool) → p.held ≡ b → (if p.held && is_end e p.end then p.state else state_in ps e) ≡ Gone
    by rest true is =
        let x = sym (ap (λ (b : Bool). has_end e (if b then held_of p ∷ held_in ps else held_in ps)) is) ∙ h in
        ap (λ (b : Bool). if b && is_end e p.end then p.state else state_in ps e) is
        ∙ ap (λ (b : Bool). if b then p.state else state_in ps e) (or_front (is_end e p.end) (has_end e (held_in ps)) x)
        ∙ rest (or_back (is_end e p.end) (has_end e (held_in ps)) x)
    by rest false is =
        ap (λ (b : Bool). if b && is_end e p.end then p.state else state_in ps e) is
        ∙ rest (sym (ap (λ (b : Bool). has_end e (if b then held_of p ∷ held_in ps else held_in ps)) is) ∙ h)

  state_so : (ps : List (Place N I)) (e : EndId) → state_in ps e ≡ (if has_end e (held_in ps) then state_in ps e else Gone)
  state_so ps e = by (has_end e (held_in ps)) refl where
    by : (b : Bool) → has_end e (held_in ps) ≡ b → state_in ps e ≡ (if has_end e (held_in ps) then state_in ps e else Gone)
    by true is = sym (ap (λ (b : Bool). if b then state_in ps e else Gone) is)
    by false is = state_gone ps e is ∙ sym (ap (λ (b : Bool). if b then state_in ps e else Gone) is)

-- ends told by how far each is
abbrev pub told_by : (EndId → EndState) → EndId → SockEnd
told_by f e = record { end = e; place = At (f e) }

told_same : (f g : EndId → EndState) → ((e : EndId) → f e ≡ g e) → (es : List EndId) → map (told_by f) es ≡ map (told_by g) es
told_same f g same [] = refl
told_same f g same (e ∷ es) = ap (λ (s : EndState). let x : SockEnd = record { end = e; place = At s } in x ∷ map (told_by f) es) (same e) ∙ ap (λ (l : List SockEnd). told_by g e ∷ l) (told_same f g same es)

joined_ends : {N : Type 0} (f : EndId → EndState) (js : List (Joining N)) → map (λ (j : Joining N). told_by f j.end) js ≡ map (told_by f) (map (λ (j : Joining N). j.end) js)
joined_ends f [] = refl
joined_ends f (j ∷ js) = ap (λ (l : List SockEnd). told_by f j.end ∷ l) (joined_ends f js)

module _ {W N O I S T : Type 0} (K : Known S O I N) (now : S) (e : Lent (Given N O I) N T) (o : ℕ) (t : SockCore AnySock W N O I)
    (number : t.number.0 ≡ o) (order : IsOneOrder e) (has : HasWhatTheySay e.caller (moments_of e) (holding_in (kind_told t.kind) t))
    (still : (known_after o (items_in (moments_of e))).open_socket ≡ true) (holds : (holding_in (kind_told t.kind) t).holds o ≡ true)
    (joined : map (λ (j : Joining N). j.end) (standing_joins t.joins.items) ≡ ends_of o (left_after o (moments_of e))) where
  opens : HasOpen e.past.workers e.items e.caller o
  opens = record { run = order.order.run; callers = order.order.by; is_open = still }

  pub left_so : AreLeft o (left_after o (moments_of e)) (after_all e.items (begun e.past.workers))
  left_so = open_ends_are_left N T e.past.workers e.items e.caller o opens

  pub own_so : (holding_in (kind_told t.kind) t).ends o ≡ held_in t.ends.places.items
  own_so = ap (λ (b : Bool). if b then held_in t.ends.places.items else []) (eq-eqb o t.number.0 (sym number))

  state_is : (x : EndId) → state_in t.ends.places.items x ≡ state_held (holding_in (kind_told t.kind) t) o x
  state_is x = state_so t.ends.places.items x ∙ ap (λ (l : List (Held N)). if has_end x l then state_in t.ends.places.items x else Gone) (sym own_so)

  -- each end that joined is told where it is
  pub ends_so : ends_told (standing_joins t.joins.items) t.ends.places.items ≡ ends_at o (left_after o (moments_of e))
  ends_so =
      joined_ends (state_in t.ends.places.items) (standing_joins t.joins.items)
      ∙ ap (map (told_by (state_in t.ends.places.items))) joined
      ∙ told_same (state_in t.ends.places.items) (state_held (holding_in (kind_told t.kind) t) o) state_is (ends_of o (left_after o (moments_of e)))
      ∙ sym (told_ends_are_left N T e.past.workers e.items e.caller o opens (holding_in (kind_told t.kind) t) has holds)
      ∙ sym left_so.told

  module _ (fits : FitsCore K peer_places now t) where
    here : HasEnds (name_of e.items) (after_all e.items (begun e.past.workers)).rows.pairs (after_all e.items (begun e.past.workers)).attached (after_all e.items (begun e.past.workers)).reasons (holding_in (kind_told t.kind) t) o
    here = lent_holders_have_it N T e.past.workers e.items order.order.run order.order.named order.order.by e.caller (holding_in (kind_told t.kind) t) has o holds

    told_here : (k : ℕ) (p : Place N I) → place_at t.ends.places.items k ≡ Some p → p.held ≡ true → place_in (ends_told (standing_joins t.joins.items) t.ends.places.items) p.end ≡ At p.state
    told_here k p at is_held =
        ap (λ (l : List SockEnd). place_in l p.end) (ends_so ∙ left_so.told)
        ∙ told_at (after_all e.items (begun e.past.workers)) o (name_of e.items) (holding_in (kind_told t.kind) t) t.ends.places.items here own_so (λ x. refl) k p at is_held
        (λ j q ne there held_too. (fits.sound.apart k j p q (λ x. ne (sym x)) at there is_held held_too).ends)

    -- it stands, where the ends that it was to seal are out of use
    pub stands_so : t.is_open ≡ true → ((x : EndId) → list_any (is_end x) (map (λ y. y.0) t.sealed.items) ≡ true → IsOut (ends_of o (left_after o (moments_of e))) x (place_of (left_after o (moments_of e)) x)) → IsStanding K now t
    stands_so is_open sealed_out = record {
      fits = fits;
      is_open = is_open;
      told = told_here;
      unsealed = λ k p at is_held active. by k p at is_held active p.sealed refl;
    }
      where
        by : (k : ℕ) (p : Place N I) → place_at t.ends.places.items k ≡ Some p → p.held ≡ true → held.is_active p.state ≡ true → (b : Bool) → p.sealed ≡ b → p.sealed ≡ false
        by k p at is_held active false is_sealed = is_sealed
        by k p at is_held active true is_sealed =
            let out = sealed_out p.end (fits.sealed_are k p at is_held is_sealed) in
            absurd (true≢false (sym active ∙ sym (same_active p.state) ∙ ap is_active (sym (told_here k p at is_held) ∙ ap (λ (l : List SockEnd). place_in l p.end) ends_so
            ∙ place_found (left_after o (moments_of e)) (ends_of o (left_after o (moments_of e))) p.end out.among) ∙ out.inactive))
