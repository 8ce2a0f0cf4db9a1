-- The ends that a lent socket was to seal are out of use, also behind one moment more that is of it.
use Rattle.std.proofs.Common.{◌≡◌, ◌∙◌, ◌||◌, ℕ, Bool, true, false, List, [], ◌∷◌, ◌++◌, append-nil, map, All, Some, refl, sym, ap, subst, true≢false, if◌then◌else◌}
use Rattle.std.specs.List.{list_any}
use Rattle.std.proofs.lemmas.List.Elements.{All-head, All-tail}
use Rattle.std.proofs.lemmas.List.Folds.{list_any-append}
use Rattle.zq_base.specs.declared.ids.EndId.{EndId}
use Rattle.spec_control.specs.declared.end.EndState.{EndState}
use Rattle.spec_control.specs.declared.end.EndState.TheVariants.{Active, DelimiterGot, WaitDelimiter, AckSent, AskedOnce, AskedTwice, Gone}
use Rattle.spec_control.specs.Place.{Place, Unmade, Away, At}
use Rattle.spec_control.specs.Control.{Control, begun, is_end, place_of, ends_of}
use Rattle.spec_control.specs.ControlRun.{after_all}
use Rattle.spec_control.specs.Moments.{Moment, items_in, left_after, left_by, moments_by, moments_from}
use Rattle.spec_control.specs.OwnAsks.{known_after}
use Rattle.desk.specs.Holding.{is_state}
use Rattle.desk.specs.Turns.{state_before, turn_at, turned_over, turned_in, sealed_by}
use Rattle.desk.specs.declared.given.Given.{Given}
use Rattle.msg_pipe.specs.Known.{Known}
use Rattle.any_sock.specs.declared.any_sock.AnySock.{AnySock}
use Rattle.sock_core.specs.declared.sock.SockCore.{SockCore}
use Rattle.sock_core.proofs.FindLemmas.{same_end}
use Rattle.spec_run.specs.OpenSocket.{is_active}
use Rattle.socket_laws.specs.Open.{moment_at, left_before, IsOfItem}
use Rattle.socket_laws.proofs.LeftLemmas.{open_ends_are_left}
use Rattle.socket_laws.proofs.ReadLemmas.{active_ends_stay}
use Rattle.plain_desk.specs.Lent.{Lent, moments_of}
use Rattle.line_socket.specs.Owned.{IsOut, IsLentTo}
use Rattle.line_socket.specs.Called.{IsCalled}
use Rattle.line_socket.proofs.MomentLemmas.{one, mine, left_now}
use Rattle.line_socket.proofs.MovesLemmas.{comes, go, ends_behind, ends_same, open_before, left_behind}

or_cases : (b c : Bool) {X : Type 0} → b || c ≡ true → (b ≡ true → X) → (c ≡ true → X) → X
or_cases true c h f g = f refl
or_cases false c h f g = g h

or_first : (b c : Bool) → b ≡ true → b || c ≡ true
or_first true c h = refl
or_first false c h = absurd (true≢false (sym h))

or_second : (b c : Bool) → c ≡ true → b || c ≡ true
or_second true c h = refl
or_second false c h = h

or_none : (b : Bool) → b || false ≡ true → b ≡ true
or_none true h = refl
or_none false h = h

-- what is so of each of these ends is so of one that is among them
all_at : (P : EndId → Type 0) (es : List EndId) (x : EndId) → All P es → list_any (is_end x) es ≡ true → P x
all_at P [] x all h = absurd (true≢false (sym h))
all_at P (e ∷ es) x all h = or_cases (is_end x e) (list_any (is_end x) es) h (λ is. subst P (sym (same_end x e is)) (All-head P e es all)) (λ rest. all_at P es x (All-tail P e es all) rest)

asked_inactive : (s : EndState) → is_state s AskedOnce ≡ true → is_active (At s) ≡ false
asked_inactive Active h = absurd (true≢false (sym h))
asked_inactive DelimiterGot h = refl
asked_inactive WaitDelimiter h = refl
asked_inactive AckSent h = refl
asked_inactive AskedOnce h = refl
asked_inactive AskedTwice h = refl
asked_inactive Gone h = refl

active_is : (w : Place) → is_active w ≡ true → w ≡ At Active
active_is Unmade h = absurd (true≢false (sym h))
active_is Away h = absurd (true≢false (sym h))
active_is (At Active) h = refl
active_is (At DelimiterGot) h = absurd (true≢false (sym h))
active_is (At WaitDelimiter) h = absurd (true≢false (sym h))
active_is (At AckSent) h = absurd (true≢false (sym h))
active_is (At AskedOnce) h = absurd (true≢false (sym h))
active_is (At AskedTwice) h = absurd (true≢false (sym h))
active_is (At Gone) h = absurd (true≢false (sym h))

-- ---- the ends that are to be sealed in an item

sealed_append : (xs ys : List (EndId × EndState)) → sealed_by (xs ++ ys) ≡ sealed_by xs ++ sealed_by ys
sealed_append [] ys = refl
sealed_append (x ∷ xs) ys = by (sealed_append xs ys) (is_state x.1 AskedOnce) where
  by : sealed_by (xs ++ ys) ≡ sealed_by xs ++ sealed_by ys → (b : Bool) → (if b then x.0 ∷ sealed_by (xs ++ ys) else sealed_by (xs ++ ys)) ≡ (if b then x.0 ∷ sealed_by xs else sealed_by xs) ++ sealed_by ys
  by rest true = ap (λ l. x.0 ∷ l) rest
  by rest false = rest

one_sealed : (e x : EndId) (before now : Place) → list_any (is_end x) (sealed_by (turn_at e before now)) ≡ true → (is_end x e ≡ true) × (is_active now ≡ false)
one_sealed e x before Unmade h = absurd (true≢false (sym h))
one_sealed e x before Away h = absurd (true≢false (sym h))
one_sealed e x before (At s) h = by (is_state (state_before before s) s) (is_state s AskedOnce) refl h where
  by : (b c : Bool) → is_state s AskedOnce ≡ c → list_any (is_end x) (sealed_by (if b then [] else (e, s) ∷ [])) ≡ true → (is_end x e ≡ true) × (is_active (At s) ≡ false)
  by true c is k = absurd (true≢false (sym k))
  by false true is k = (or_none (is_end x e) (sym (ap (λ (b : Bool). list_any (is_end x) (if b then e ∷ [] else [])) is) ∙ k), asked_inactive s is)
  by false false is k = absurd (true≢false (sym (sym (ap (λ (b : Bool). list_any (is_end x) (if b then e ∷ [] else [])) is) ∙ k)))

sealed_among : (f g : EndId → Place) (es : List EndId) (x : EndId) → list_any (is_end x) (sealed_by (turned_over f g es)) ≡ true → IsOut es x (g x)
sealed_among f g [] x h = absurd (true≢false (sym h))
sealed_among f g (e ∷ es) x h =
    or_cases (list_any (is_end x) (sealed_by (turn_at e (f e) (g e)))) (list_any (is_end x) (sealed_by (turned_over f g es)))
    (sym (ap (list_any (is_end x)) (sealed_append (turn_at e (f e) (g e)) (turned_over f g es)) ∙ list_any-append (is_end x) (sealed_by (turn_at e (f e) (g e))) (sealed_by (turned_over f g es))) ∙ h)
    (λ first. let o = one_sealed e x (f e) (g e) first in
    record { among = or_first (is_end x e) (list_any (is_end x) es) o.0; inactive = ap (λ (y : EndId). is_active (g y)) (same_end x e o.0) ∙ o.1 })
    (λ rest. let o = sealed_among f g es x rest in record { among = or_second (is_end x e) (list_any (is_end x) es) o.among; inactive = o.inactive })

module _ {W N O I S T : Type 0} {made : Bool} {may_make : EndId → ℕ → ℕ → Type 0} (K : Known S O I N) (before now : S) (d e : Lent (Given N O I) N T) (n : ℕ) (s t : SockCore AnySock W N O I)
    (is : IsLentTo K before d n s) (called : IsCalled K made may_make before d (Some s) now e (Some t)) (mo : Moment N T) (more : moments_of e ≡ moments_of d ++ mo ∷ [])
    (of_it : IsOfItem s.number.0 mo.found mo.item) (still : (known_after s.number.0 (items_in (moments_of e))).open_socket ≡ true) where
  abbrev o : ℕ
  o = s.number.0

  abbrev was : Control
  was = left_after o (moments_of d)

  abbrev at : Control
  at = left_after o (moments_of e)

  -- an end is where the last moment left it
  at_now : (x : EndId) → list_any (is_end x) (ends_of o at) ≡ true → place_of at x ≡ place_of (left_by mo) x
  at_now x among =
      let left = left_behind K before now d e n s t is called mo more of_it still in
      all_at (λ y. place_of at y ≡ place_of (after_all e.items (begun e.past.workers)) y) (ends_of o (after_all e.items (begun e.past.workers))) x left.places (ap (list_any (is_end x)) (sym left.ends) ∙ among)
      ∙ ap (λ c. place_of c x) (left_now d e called.grows called.order mo more)

  among_now : (x : EndId) → list_any (is_end x) (ends_of o was) ≡ true → list_any (is_end x) (ends_of o at) ≡ true
  among_now x among =
      ap (list_any (is_end x)) (ends_same K before now d e n s t is called mo more of_it still ∙ ends_behind K before now d e n s t is called mo more of_it still)
      ∙ list_any-append (is_end x) (ends_of o was) _ ∙ or_first (list_any (is_end x) (ends_of o was)) _ among

  old_out : (x : EndId) → IsOut (ends_of o was) x (place_of was x) → IsOut (ends_of o at) x (place_of at x)
  old_out x out = record { among = among_now x out.among; inactive = by (is_active (place_of at x)) refl } where
    stays : place_of (left_by mo) x ≡ At Active → place_of mo.found x ≡ At Active
    stays = subst (λ (m : Moment N T). place_of (left_by m) x ≡ At Active → place_of m.found x ≡ At Active) (one d e called.grows called.order mo more).moment_is
        (all_at (λ y. place_of (left_by (moment_at d.past.workers d.items (one d e called.grows called.order mo more).item)) y ≡ At Active → place_of (after_all d.items (begun d.past.workers)) y ≡ At Active)
        (ends_of o (left_before d.past.workers d.items (one d e called.grows called.order mo more).item o)) x
        (active_ends_stay N T d.past.workers d.items (one d e called.grows called.order mo more).item o (comes K before now d e n s t is called mo more of_it still))
        (subst (λ (k : ℕ). list_any (is_end x) (ends_of o (left_after o (moments_by k (moments_from (begun d.past.workers) d.items)))) ≡ true) (sym (mine d e called.grows called.order mo more)) out.among))

    found_was : place_of was x ≡ place_of mo.found x
    found_was =
        let left = open_ends_are_left N T d.past.workers d.items d.caller o (open_before K before now d e n s t is called mo more of_it still) in
        all_at (λ y. place_of was y ≡ place_of (after_all d.items (begun d.past.workers)) y) (ends_of o (after_all d.items (begun d.past.workers))) x left.places (ap (list_any (is_end x)) (sym left.ends) ∙ out.among)
        ∙ ap (λ (m : Moment N T). place_of m.found x) (one d e called.grows called.order mo more).moment_is

    by : (b : Bool) → is_active (place_of at x) ≡ b → is_active (place_of at x) ≡ false
    by false h = h
    by true h =
        let active : place_of (left_by mo) x ≡ At Active = sym (at_now x (among_now x out.among)) ∙ active_is (place_of at x) h in
        absurd (true≢false (sym (ap is_active (found_was ∙ stays active)) ∙ out.inactive))

  new_out : (x : EndId) → list_any (is_end x) (sealed_by (turned_in mo.found (left_by mo))) ≡ true → IsOut (ends_of o at) x (place_of at x)
  new_out x h =
      let turns = subst (λ (m : Moment N T). turned_in m.found (left_by m) ≡ turned_over (place_of m.found) (place_of (left_by m)) (ends_of o (left_by m))) (one d e called.grows called.order mo more).moment_is (go K before now d e n s t is called mo more of_it still).turns in
      let out = sealed_among (place_of mo.found) (place_of (left_by mo)) (ends_of o (left_by mo)) x (ap (λ l. list_any (is_end x) (sealed_by l)) (sym turns) ∙ h) in
      let among = ap (list_any (is_end x)) (ends_same K before now d e n s t is called mo more of_it still) ∙ out.among in
      record { among = among; inactive = ap is_active (at_now x among) ∙ out.inactive }

  -- so all of them are
  pub sealed_now : (x : EndId) → list_any (is_end x) (map (λ y. y.0) t.sealed.items) ≡ true → IsOut (ends_of o at) x (place_of at x)
  sealed_now x h =
      let told = (called.keeps.turned (mo ∷ []) more).sealed ∙ ap (λ l. map (λ y. y.0) s.sealed.items ++ sealed_by l) (append-nil (turned_in mo.found (left_by mo))) in
      or_cases (list_any (is_end x) (map (λ y. y.0) s.sealed.items)) (list_any (is_end x) (sealed_by (turned_in mo.found (left_by mo))))
      (sym (ap (list_any (is_end x)) told ∙ list_any-append (is_end x) (map (λ y. y.0) s.sealed.items) (sealed_by (turned_in mo.found (left_by mo)))) ∙ h)
      (λ old. old_out x (is.owned.sealed_out x old)) (new_out x)
