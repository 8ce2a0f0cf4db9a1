-- The sockets that the reaper has, and the ends of them that are there.
use Rattle.std.specs.Prelude.{◌≡◌, ◌==◌, ◌||◌, ◌++◌, ◌∷◌, [], ℕ, Bool, true, false, List, Option, Some, None, All, filter, if◌then◌else◌, map, refl}
use Rattle.std.specs.List.{list_any}
use Rattle.std.proofs.Common.{arith, sym, ap, ◌∙◌, subst}
use Rattle.std.proofs.lemmas.Bool.{eq-eqb, eqb-true}
use Rattle.std.proofs.lemmas.List.Elements.{All-filter, All-weaker, filter_passes}
use Rattle.zq_base.specs.declared.ids.EndId.{EndId}
use Rattle.msg_pipe.specs.Known.{Known}
use Rattle.spec_control.specs.declared.entry.Did.{Did}
use Rattle.spec_control.specs.declared.entry.Did.TheVariants.{Asked, Delivered, Delimited}
use Rattle.spec_control.specs.declared.entry.Item.{Item}
use Rattle.spec_control.specs.declared.entry.Item.TheVariants.{Event, Seen}
use Rattle.spec_control.specs.declared.end.EndState.TheVariants.{Active, DelimiterGot, WaitDelimiter, AckSent, AskedOnce, AskedTwice, Gone}
use Rattle.spec_control.specs.Place.{Place, Unmade, Away, At, is_gone, is_here, is_unmade}
use Rattle.spec_control.specs.Stage.{has_ended}
use Rattle.spec_control.specs.Rows.{is_owner, obj}
use Rattle.spec_control.specs.Control.{Control, begun, is_end, owner_of, place_of}
use Rattle.spec_control.specs.ControlRun.{after_all, is_between}
use Rattle.spec_control.specs.Names.{name_of}
use Rattle.control_laws.proofs.ListLemmas.{never}
use Rattle.control_laws.proofs.RowLemmas.{all_is_over}
use Rattle.control_laws.specs.Kept.{Kept}
use Rattle.control_laws.proofs.RootLemmas.{begun_kept, runs_are_kept}
use Rattle.spec_control.specs.Held.{Held}
use Rattle.spec_control.specs.Has.{given_up, has_after, has_over, has_then, taken_by_word, taken_in}
use Rattle.spec_control.proofs.OwnLemmas.{own_has}
use Rattle.desk.specs.declared.given.Given.{Given}
use Rattle.desk.specs.Holding.{held_given, Holding}
use Rattle.desk.specs.Lent.{here_ends, owner_by, place_by, HasAll}
use Rattle.ctl_plane.specs.Past.{control_of}
use Rattle.desk.specs.Desk.{HasWhatTheySay}
use Rattle.control_laws.proofs.HaveLemmas.{lent_holders_have_it}
use Rattle.control_laws.proofs.MomentLemmas.{own_moments}
use Rattle.control_laws.proofs.NobodyLemmas.{nobody_over}
use Rattle.socket_laws.specs.Places.{is_end_of}
use Rattle.socket_laws.proofs.PlaceLemmas.{any_filter, held_here}
use Rattle.closed_ends.specs.declared.sockets.ClosedSockets.{ClosedSockets}
use Rattle.closed_ends.specs.Has.{all_ends, ends_of, holding_in, is_of, is_socket}
use Rattle.closed_ends.specs.Sound.{AreSound}
use Rattle.closed_ends.proofs.AddLemmas.{from_map}
use Rattle.closed_ends.proofs.ChangeLemmas.{all_in, among}
use Rattle.closed_ends.proofs.FormLemmas.{sound_of}
use Rattle.plain_desk.specs.Lent.{moments_of, IsOneOrder, Lent}
use Rattle.socket_laws.specs.Behind.{is_request, is_requested}
use Rattle.core_laws.proofs.ReapedComingLemmas.{has_now}

pub none_some : {X : Type 0} {x : X} → None ≡ Some x → ⊥
none_some e = Prim.grind arith

here_not_over : (p : Place) → is_here p ≡ true → (is_gone p || is_unmade p) ≡ true → ⊥
here_not_over Unmade here over = never here
here_not_over Away here over = never over
here_not_over (At Active) here over = never over
here_not_over (At DelimiterGot) here over = never over
here_not_over (At WaitDelimiter) here over = never over
here_not_over (At AckSent) here over = never over
here_not_over (At AskedOnce) here over = never over
here_not_over (At AskedTwice) here over = never over
here_not_over (At Gone) here over = never here

-- an object that has ended has no end that is there
pub ended_has_none : (c : Control) → Kept c → (e : EndId) → is_here (place_of c e) ≡ true → has_ended (obj c.rows (owner_of c e)).stage ≡ true → ⊥
ended_has_none c kept e here over = here_not_over (place_of c e) here ((all_is_over c.rows (owner_of c e) kept.reached over).ends e.pair.0 e.a refl)

-- ---- who has an object
module _ {N T : Type 0} where
  last_has : (i : ℕ) (had : Option ℕ) (xs : List (Item N T)) (x : Item N T) → has_over i had (xs ++ x ∷ []) ≡ has_then i x (has_over i had xs)
  last_has i had [] x = refl
  last_has i had (y ∷ xs) x = last_has i (has_then i y had) xs x

  some_in : (o k by : ℕ) (did : Did N T) → is_requested did ≡ false → (n : ℕ) × ((if is_owner o (taken_in did) then Some by else (if is_owner o (given_up did) then None else Some k)) ≡ Some n)
  some_in o k by (Asked req reply h) none = absurd (never (sym none))
  some_in o k by (Delivered slot letter h) none = pick (is_owner o (taken_by_word letter.to.0 letter.word))
    where
      pick : (b : Bool) → (n : ℕ) × ((if b then Some by else Some k) ≡ Some n)
      pick true = (by, refl)
      pick false = (k, refl)
  some_in o k by (Delimited e h) none = (k, refl)

  -- what somebody has, somebody has behind an item that is no request
  some_then : (o k : ℕ) (x : Item N T) → is_request x ≡ false → (n : ℕ) × (has_then o x (Some k) ≡ Some n)
  some_then o k (Event entry) none = some_in o k entry.by entry.did none
  some_then o k (Seen sight) none = (k, refl)

  pub has_still : (o k : ℕ) (xs : List (Item N T)) (x : Item N T) → is_request x ≡ false → has_after o xs ≡ Some k → (n : ℕ) × (has_after o (xs ++ x ∷ []) ≡ Some n)
  has_still o k xs x none had = let next = some_then o k x none in (next.0, last_has o None xs x ∙ ap (has_then o x) had ∙ next.1)

module _ {G N T : Type 0} (d : Lent G N T) (order : IsOneOrder d) where
  -- what somebody has is not on its way to the reaper
  pub had_free : (i k : ℕ) → has_after i d.items ≡ Some k → is_between (obj (control_of d.past).rows i) ≡ false
  had_free i k had = by (is_between (obj (control_of d.past).rows i)) refl
    where
      by : (b : Bool) → is_between (obj (control_of d.past).rows i) ≡ b → b ≡ false
      by false e = refl
      by true e =
          let all = order.order in
          absurd (none_some (sym (nobody_over i d.items (begun d.past.workers) None (begun_kept d.past.workers) all.run (λ x. refl) (subst (λ (c : Control). is_between (obj c.rows i) ≡ true) order.control e)) ∙ had))

  -- a holder's caller has what it holds
  pub had_by : (h : Holding N) → HasWhatTheySay d.caller (moments_of d) h → (i : ℕ) → h.holds i ≡ true → has_after i d.items ≡ Some d.caller
  had_by h say i holds =
      let all = order.order in
      own_has (begun d.past.workers) d.items all.by i d.caller (λ same. never (sym say.no_root ∙ ap h.holds (sym same) ∙ holds))
      (ap (has_after i) (sym (own_moments d.caller d.items (begun d.past.workers))) ∙ say.objects i holds)

-- ---- the ends of closed sockets
module _ {N O I : Type 0} (out_name : O → N) (in_name : I → N) where
  same_any : (e : EndId) (gs : List (Given N O I)) → list_any (is_end e) (map (λ x. x.end) (map (held_given out_name in_name) gs)) ≡ list_any (is_of e) gs
  same_any e [] = refl
  same_any e (g ∷ gs) = ap (λ (b : Bool). is_end e g.end || b) (same_any e gs)

module _ {S O I N : Type 0} (K : Known S O I N) {G T : Type 0} (d : Lent G N T) (order : IsOneOrder d) (pipes : S) (closed : ClosedSockets N O I) (sound : AreSound K pipes closed.sockets.items)
    (say : HasWhatTheySay d.caller (moments_of d) (holding_in K.out_name K.in_name closed)) where
  abbrev c : Control
  c = control_of d.past

  abbrev led : Control
  led = after_all d.items (begun d.past.workers)

  of_socket : (n : ℕ) → list_any (is_socket n) closed.sockets.items ≡ true → All (λ g. list_any (is_socket (owner_of (control_of d.past) g.end)) closed.sockets.items ≡ true) (ends_of closed.sockets.items n)
  of_socket n holds =
      from_map (λ (x : Held N). list_any (is_socket (owner_of (control_of d.past) x.end)) closed.sockets.items ≡ true) (held_given K.out_name K.in_name) (ends_of closed.sockets.items n)
      (from_map (λ (e : EndId). list_any (is_socket (owner_of (control_of d.past) e)) closed.sockets.items ≡ true) (λ (x : Held N). x.end) (map (held_given K.out_name K.in_name) (ends_of closed.sockets.items n))
      (subst (All (λ (e : EndId). list_any (is_socket (owner_of (control_of d.past) e)) closed.sockets.items ≡ true)) (sym (has_now K d order pipes closed sound say n holds).ends) had))
    where
      owned : All (λ e. (owner_by c.rows.pairs e == n) ≡ true) (here_ends c.rows.pairs c.attached n)
      owned = All-filter (λ e. is_here (place_by c.rows.pairs e)) (λ e. (owner_by c.rows.pairs e == n) ≡ true) (filter (λ e. owner_by c.rows.pairs e == n) c.attached)
          (filter_passes (λ e. owner_by c.rows.pairs e == n) c.attached)

      had : All (λ e. list_any (is_socket (owner_of c e)) closed.sockets.items ≡ true) (here_ends c.rows.pairs c.attached n)
      had = All-weaker (λ e. (owner_by c.rows.pairs e == n) ≡ true) (λ e. list_any (is_socket (owner_of c e)) closed.sockets.items ≡ true)
          (λ e is. ap (λ (m : ℕ). list_any (is_socket m) closed.sockets.items) (eqb-true (owner_by c.rows.pairs e) n is) ∙ holds) (here_ends c.rows.pairs c.attached n) owned

  -- the socket of each is had
  pub sockets_had : All (λ g. list_any (is_socket (owner_of (control_of d.past) g.end)) closed.sockets.items ≡ true) (all_ends closed.sockets.items)
  sockets_had = all_in (λ (g : Given N O I). list_any (is_socket (owner_of (control_of d.past) g.end)) closed.sockets.items ≡ true) closed.sockets.items (sound_of K pipes closed.sockets.items sound).alone of_socket

  -- an end that is there, of a socket that is had, is among them
  pub is_among : (e : EndId) → is_here (place_of (control_of d.past) e) ≡ true → list_any (is_socket (owner_of (control_of d.past) e)) closed.sockets.items ≡ true → list_any (is_of e) (all_ends closed.sockets.items) ≡ true
  is_among e here holds = among (is_of e) o closed.sockets.items (sym (same_any K.out_name K.in_name e (ends_of closed.sockets.items o)) ∙ held)
    where
      o : ℕ
      o = owner_of (control_of d.past) e

      all : HasAll (name_of d.items) led (holding_in K.out_name K.in_name closed)
      all = (let run = order.order in lent_holders_have_it N T d.past.workers d.items run.run run.named run.by d.caller (holding_in K.out_name K.in_name closed) say)

      kept : Kept led
      kept = (let run = order.order in runs_are_kept N T d.past.workers d.items run.run)

      here_led : is_here (place_of led e) ≡ true
      here_led = subst (λ (x : Control). is_here (place_of x e) ≡ true) order.control here

      its : is_end_of o led e ≡ true
      its = any_filter (λ x. owner_of led x == o) e led.attached (eq-eqb (owner_of led e) o (ap (λ (x : Control). owner_of x e) (sym order.control))) (kept.listed e.pair.0 e.a here_led)

      held : list_any (is_end e) (map (λ x. x.end) (map (held_given K.out_name K.in_name) (ends_of closed.sockets.items o))) ≡ true
      held = (let run = order.order in held_here d.past.workers d.items run.run o (name_of d.items) (holding_in K.out_name K.in_name closed) (all o holds) e its here_led)
