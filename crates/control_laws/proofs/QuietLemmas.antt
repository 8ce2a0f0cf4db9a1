-- Nothing is stuck: where nothing is on its way and nobody waits, the root has ended.
use Rattle.std.specs.Prelude.{◌≡◌, ◌≢◌, ◌+◌, ◌==◌, ◌&&◌, ℕ, zero, suc, Bool, true, false, not, cond, List, [], ◌∷◌, Option, Some, None, sum_by, slice_index_or, refl}
use Rattle.std.proofs.Common.{arith, sym, ap, ◌∙◌, subst, inl, inr}
use Rattle.std.proofs.lemmas.List.Sums.{sum_by-cons}
use Rattle.std.proofs.lemmas.Bool.{eqb-true, cases_eq}
use Rattle.spec_control.specs.declared.end.EndState.TheVariants.{Active, DelimiterGot, WaitDelimiter, AckSent, AskedOnce, AskedTwice, Gone}
use Rattle.spec_control.specs.declared.object.ObjKind.{ObjKind}
use Rattle.spec_control.specs.declared.object.ObjKind.TheVariants.{Root, Socket, Listener, Session}
use Rattle.spec_control.specs.declared.stage.Stage.{Stage}
use Rattle.spec_control.specs.declared.stage.Stage.TheVariants.{Alive, Told, Ending, Finished, Cleared}
use Rattle.spec_control.specs.declared.stage.Use.{Use}
use Rattle.spec_control.specs.declared.stage.Use.TheVariants.{Unused, OnItsWay, Used}
use Rattle.spec_control.specs.Stage.{is_alive, is_told, is_finished, has_ended, was_asked, is_coming}
use Rattle.spec_control.specs.Place.{Place, Unmade, Away, At, Half, is_gone, was_ended}
use Rattle.spec_control.specs.PairPhase.{Phase, Drawn, Opened, OpenedAsked, OpenedSeen, Both, BothSeen, BothSaw, AskedOne, Waits, Seen, Crossed, CrossedOne, CrossedBoth, Acked, FirstGone, LastOne, Over, place_in, half}
use Rattle.spec_control.specs.Row.{Row, nobody, is_socket, is_unowned, GivesOwn, Requests, GivesAck, GetsPlug, GetsStop, GetsTerm, first_if, owner_fits, reads_on}
use Rattle.spec_control.specs.Rows.{PairRow, Rows, no_pair, obj, pair, end_place, end_half, end_owner, is_owner, of_child, of_ends, own_waits, ack_at, ack_waits, lives_noted, bind_waits, end_waits, behind, owed, living}
use Rattle.control_laws.specs.Prompt.{IsPrompt, HasShape, IsStill}
use Rattle.control_laws.proofs.ListLemmas.{never}
use Rattle.control_laws.proofs.LinkLemmas.{IsSeen, seen, at_owner, some_is, place_is}
use Rattle.control_laws.proofs.ClosedLemmas.{Inv, none_is_some}

full : {X : Type 0} (x : X) (xs : List X) → x ∷ xs ≡ [] → ⊥
full x xs h = Prim.grind arith

-- what an empty queue says
pub up_says : (s : Stage) (n : Bool) (r : Use) (w : Bool) → first_if (not n) GivesOwn (first_if (is_coming r) Requests (first_if (is_finished s && w) GivesAck [])) ≡ [] →
    (n ≡ true) × ((is_finished s && w) ≡ false) × (is_coming r ≡ false)
up_says s false r w h = absurd (full _ _ h)
up_says s true OnItsWay w h = absurd (full _ _ h)
up_says s true Unused w h = (refl, no_ack (is_finished s && w) h, refl)
  where
    no_ack : (b : Bool) → first_if b GivesAck [] ≡ [] → b ≡ false
    no_ack true e = absurd (full _ _ e)
    no_ack false e = refl
up_says s true Used w h = (refl, no_ack (is_finished s && w) h, refl)
  where
    no_ack : (b : Bool) → first_if b GivesAck [] ≡ [] → b ≡ false
    no_ack true e = absurd (full _ _ e)
    no_ack false e = refl

down_says : (s : Stage) (p c : Bool) → first_if (not p) GetsPlug (first_if c GetsStop (first_if (is_told s) GetsTerm [])) ≡ [] → (p ≡ true) × (is_told s ≡ false)
down_says s false c h = absurd (full _ _ h)
down_says s true true h = absurd (full _ _ h)
down_says Alive true false h = (refl, refl)
down_says Told true false h = absurd (full _ _ h)
down_says Ending true false h = (refl, refl)
down_says Finished true false h = (refl, refl)
down_says Cleared true false h = (refl, refl)

-- a sum of nothing
pub nothing : {X : Type 0} (f : X → ℕ) (xs : List X) (d : X) → ((k : ℕ) → f (slice_index_or xs k d) ≡ 0) → sum_by f xs ≡ 0
nothing f [] d h = refl
nothing f (x ∷ xs) d h =
    let one = h zero in
    let rest = nothing f xs d (λ k. h (suc k)) in
    let s = sum_by-cons f x xs in
    omega (arith, one, rest, s)

-- who is not alive, not told and not finished is ending or cleared
data IsDone (s : Stage) : Type 0 where
  ending : s ≡ Ending → IsDone s
  cleared : s ≡ Cleared → IsDone s

done : (s : Stage) → is_alive s ≡ false → is_told s ≡ false → (is_finished s && true) ≡ false → IsDone s
done Alive a t f = absurd (never (sym a))
done Told a t f = absurd (never (sym t))
done Ending a t f = ending refl
done Finished a t f = absurd (never (sym f))
done Cleared a t f = cleared refl

asked_is : (s : Stage) → IsDone s → was_asked s ≡ true
asked_is s (ending e) = ap was_asked e
asked_is s (cleared e) = ap was_asked e

-- with nothing on its way, and neither end in use or waiting for its delimiter, both are gone
both_gone : (p : Phase) (r : Bool) (on : Bool → Bool) → ((x : Bool) → (half p x).mail ≡ []) → ((x : Bool) → was_ended (on x) (place_in p x) ≡ true) →
    ((x : Bool) → on x ≡ true → place_in p x ≡ At WaitDelimiter → ⊥) → (bind_waits (place_in p r) ≡ 0) × (end_waits (place_in p r) ≡ 0)
both_gone Over r on m u w = (refl, refl)
both_gone Drawn r on m u w = (refl, refl)
both_gone Both r on m u w = absurd (never (u true))
both_gone BothSeen r on m u w = absurd (never (u true))
both_gone BothSaw r on m u w = absurd (never (u true))
both_gone Waits r on m u w = absurd (w false (u false) refl)
both_gone Opened r on m u w = absurd (full _ _ (m false))
both_gone OpenedAsked r on m u w = absurd (full _ _ (m false))
both_gone OpenedSeen r on m u w = absurd (full _ _ (m false))
both_gone AskedOne r on m u w = absurd (full _ _ (m false))
both_gone Seen r on m u w = absurd (full _ _ (m false))
both_gone Crossed r on m u w = absurd (full _ _ (m false))
both_gone CrossedOne r on m u w = absurd (full _ _ (m false))
both_gone CrossedBoth r on m u w = absurd (full _ _ (m false))
both_gone Acked r on m u w = absurd (full _ _ (m true))
both_gone FirstGone r on m u w = absurd (full _ _ (m false))
both_gone LastOne r on m u w = absurd (full _ _ (m false))

gone_place : (place : Place) → is_gone place ≡ true → place ≡ At Gone
gone_place Unmade h = absurd (never h)
gone_place Away h = absurd (never h)
gone_place (At Active) h = absurd (never h)
gone_place (At DelimiterGot) h = absurd (never h)
gone_place (At WaitDelimiter) h = absurd (never h)
gone_place (At AckSent) h = absurd (never h)
gone_place (At AskedOnce) h = absurd (never h)
gone_place (At AskedTwice) h = absurd (never h)
gone_place (At Gone) h = refl

-- a socket's owner is the root, and the root's children are sockets
pub socket_owner : (k : ObjKind) (w : Option ℕ) → owner_fits k w ≡ true → is_socket k ≡ true → w ≡ Some 0
socket_owner Root w h e = absurd (never e)
socket_owner Listener w h e = absurd (never e)
socket_owner Session w h e = absurd (never e)
socket_owner (Socket kind) None h e = absurd (never h)
socket_owner (Socket kind) (Some zero) h e = refl
socket_owner (Socket kind) (Some (suc n)) h e = absurd (never h)

module _ (s : Rows) (left : ℕ → Bool) (inv : Inv s) (shape : HasShape s) (prompt : IsPrompt s left) (still : IsStill s left) where
  owned_acks : (c w : ℕ) → (obj s c).owner ≡ Some w → (is_finished (obj s c).stage && true) ≡ false
  owned_acks c w owned =
      let o = obj s c in
      subst (λ (v : Option ℕ). (is_finished o.stage && not (is_unowned v)) ≡ false) owned (up_says o.stage o.noted o.request (not (is_unowned o.owner)) (still.up c)).1

  down : (c : ℕ) → ((obj s c).plugged ≡ true) × (is_told (obj s c).stage ≡ false)
  down c = down_says (obj s c).stage (obj s c).plugged (is_coming (obj s c).stop) (still.down c)

  noted : (c : ℕ) → (obj s c).noted ≡ true
  noted c = let o = obj s c in (up_says o.stage o.noted o.request (not (is_unowned o.owner)) (still.up c)).0

  of_root : (c : ℕ) → (obj s c).owner ≡ Some 0 → IsDone (obj s c).stage
  of_root c owned = done (obj s c).stage (still.closed c owned) (down c).1 (owned_acks c 0 owned)

  of_socket : (w : ℕ) → is_socket (obj s w).kind ≡ true → (obj s w).owner ≡ Some 0
  of_socket w socket = socket_owner (obj s w).kind (obj s w).owner (at_owner (obj s w) (inv.fits w)) socket

  of_any : (c w : ℕ) → (obj s c).owner ≡ Some w → IsDone (obj s c).stage
  of_any c w owned =
      elim (cases_eq w 0) [
        | inl root ↦ of_root c (owned ∙ ap (λ (n : ℕ). Some n) root)
        | inr below ↦
            done (obj s c).stage (prompt.children c w below owned (asked_is (obj s w).stage (of_root w (of_socket w (shape.owners c w owned below)))) (noted c))
            (down c).1 (owned_acks c w owned)
      ]

  end_asked : (k : ℕ) (a : Bool) → is_gone (end_place (pair s k) a) ≡ false → was_asked (obj s (end_owner (pair s k) a)).stage ≡ true
  end_asked k a here =
      elim (shape.ends k a) [
        | inl w ↦ asked_is _ (of_any (end_owner (pair s k) a) w.0 w.1)
        | inr none ↦ absurd (never (sym here ∙ ap (λ (p : PairRow). is_gone (end_place p a)) none ∙ none_gone a))
      ]
    where
      none_gone : (x : Bool) → is_gone (end_place no_pair x) ≡ true
      none_gone true = refl
      none_gone false = refl

  abbrev reads : (k : ℕ) (a : Bool) → Bool
  reads k a = reads_on (obj s (end_owner (pair s k) a))

  used : (k : ℕ) (a : Bool) → was_ended (reads k a) (end_place (pair s k) a) ≡ true
  used k a = by (is_gone (end_place (pair s k) a)) refl
    where
      by : (b : Bool) → is_gone (end_place (pair s k) a) ≡ b → was_ended (reads k a) (end_place (pair s k) a) ≡ true
      by true e = ap (was_ended (reads k a)) (gone_place _ e)
      by false e = prompt.ends k a (end_asked k a e)

  waits : (k : ℕ) (a : Bool) → reads k a ≡ true → end_place (pair s k) a ≡ At WaitDelimiter → ⊥
  waits k a on at = still.no_delimiter k a (end_asked k a (ap is_gone at)) on at

  gone : (k : ℕ) (a : Bool) → (bind_waits (end_place (pair s k) a) ≡ 0) × (end_waits (end_place (pair s k) a) ≡ 0)
  gone k a =
      let here = place_is _ _ v.mine in
      let both = both_gone v.phase v.first (λ x. reads k (side x).0) mails ended stuck in
      (ap bind_waits here ∙ both.0, ap end_waits here ∙ both.1)
    where
      v : IsSeen (pair s k) a
      v = seen (pair s k) (inv.phases k) a

      -- each part of a pair is that of one of its ends
      side : (x : Bool) → (y : Bool) × (end_half (pair s k) y ≡ half v.phase x)
      side x = by v.first x v.mine v.theirs
        where
          by : (f x : Bool) → end_half (pair s k) a ≡ half v.phase f → end_half (pair s k) (not a) ≡ half v.phase (not f) → (y : Bool) × (end_half (pair s k) y ≡ half v.phase x)
          by true true m t = (a, m)
          by true false m t = (not a, t)
          by false true m t = (not a, t)
          by false false m t = (a, m)

      mails : (x : Bool) → (half v.phase x).mail ≡ []
      mails x = sym (ap (λ (h : Half). h.mail) (side x).1) ∙ still.mail k (side x).0

      ended : (x : Bool) → was_ended (reads k (side x).0) (place_in v.phase x) ≡ true
      ended x = sym (ap (λ (h : Half). was_ended (reads k (side x).0) h.place) (side x).1) ∙ used k (side x).0

      stuck : (x : Bool) → reads k (side x).0 ≡ true → place_in v.phase x ≡ At WaitDelimiter → ⊥
      stuck x is_on at = waits k (side x).0 is_on (place_is _ _ (side x).1 ∙ at)

  -- no end counts for anybody
  no_ends : (g : Place → ℕ) (i : ℕ) → ((k : ℕ) (a : Bool) → g (end_place (pair s k) a) ≡ 0) → sum_by (of_ends g i) s.pairs ≡ 0
  no_ends g i h = nothing (of_ends g i) s.pairs no_pair (λ k. add ((pair s k).a_owner == i) ((pair s k).b_owner == i) _ _ (h k true) (h k false))
    where
      add : (b c : Bool) (x y : ℕ) → x ≡ 0 → y ≡ 0 → cond b x 0 + cond c y 0 ≡ 0
      add true true x y h k = omega arith
      add true false x y h k = omega arith
      add false true x y h k = omega arith
      add false false x y h k = omega arith

  -- no child counts, where none has a part
  no_kids : (g : Row → ℕ) (i : ℕ) → ((c : ℕ) → (obj s c).owner ≡ Some i → g (obj s c) ≡ 0) → sum_by (of_child g i) s.objects ≡ 0
  no_kids g i h = nothing (of_child g i) s.objects nobody (λ c. by c (obj s c).owner refl)
    where
      pick : (b : Bool) (x : ℕ) → (b ≡ true → x ≡ 0) → cond b x 0 ≡ 0
      pick true x k = k refl
      pick false x k = refl

      by : (c : ℕ) (w : Option ℕ) → (obj s c).owner ≡ w → of_child g i (obj s c) ≡ 0
      by c None e = ap (λ (v : Option ℕ). cond (is_owner i v) (g (obj s c)) 0) e
      by c (Some w) e =
          ap (λ (v : Option ℕ). cond (is_owner i v) (g (obj s c)) 0) e
          ∙ pick (w == i) (g (obj s c)) (λ k. h c (e ∙ ap (λ (n : ℕ). Some n) (eqb-true w i k)))

  -- an object whose children are cleared is not ending
  not_ending : (i : ℕ) → ((c : ℕ) → (obj s c).owner ≡ Some i → (obj s c).stage ≡ Cleared) → (obj s i).stage ≡ Ending → ⊥
  not_ending i kids e = never (sym (still.no_output i e) ∙ prompt.ended i e level nothing_owed no_child)
    where
      level : behind s i ≡ 0
      level =
          let p = ap {B = ℕ} (λ (b : Bool). cond b 0 1) (down i).0 in
          let k = no_kids own_waits i (λ c owned. ap (λ (b : Bool). cond b 0 1) (noted c)) in
          let b = no_ends bind_waits i (λ k a. (gone k a).0) in
          omega (arith, p, k, b)

      nothing_owed : owed s i ≡ 0
      nothing_owed =
          let k = no_kids ack_waits i (λ c owned. ap ack_at (kids c owned)) in
          let b = no_ends end_waits i (λ k a. (gone k a).1) in
          omega (arith, k, b)

      no_child : living s i ≡ 0
      no_child = no_kids lives_noted i (λ c owned. ap (λ (t : Stage). cond (obj s c).noted (cond (has_ended t) 0 1) 0) (kids c owned) ∙ zero_either (obj s c).noted)
        where
          zero_either : (b : Bool) → ◌≡◌ {A = ℕ} (cond b 0 0) 0
          zero_either true = refl
          zero_either false = refl

  is_cleared_now : (t : Stage) → IsDone t → (t ≡ Ending → ⊥) → t ≡ Cleared
  is_cleared_now t (ending e) h = absurd (h e)
  is_cleared_now t (cleared e) h = e

  -- a listener or session has no children
  leaf : (c w : ℕ) → (obj s c).owner ≡ Some w → w ≢ 0 → (obj s c).stage ≡ Cleared
  leaf c w owned below = is_cleared_now _ (of_any c w owned) (not_ending c (λ d of_c. absurd (none d of_c)))
    where
      none : (d : ℕ) → (obj s d).owner ≡ Some c → ⊥
      none d of_c =
          elim (cases_eq c 0) [
            | inl root ↦ none_is_some w (sym shape.root ∙ subst (λ (n : ℕ). (obj s n).owner ≡ Some w) root owned)
            | inr other ↦ below (some_is w 0 (sym owned ∙ of_socket c (shape.owners d c of_c other)))
          ]

  socket : (c : ℕ) → (obj s c).owner ≡ Some 0 → (obj s c).stage ≡ Cleared
  socket c owned = is_cleared_now _ (of_root c owned) (not_ending c (λ d of_c. leaf d c of_c (not_root)))
    where
      not_root : c ≢ 0
      not_root root = none_is_some 0 (sym shape.root ∙ subst (λ (n : ℕ). (obj s n).owner ≡ Some 0) root owned)

  pub root_ended : has_ended (obj s 0).stage ≡ true
  root_ended = by (obj s 0).stage refl
    where
      by : (t : Stage) → (obj s 0).stage ≡ t → has_ended (obj s 0).stage ≡ true
      by Alive e = absurd (never (sym still.asked ∙ ap is_alive e))
      by Told e = absurd (never (sym (down 0).1 ∙ ap is_told e))
      by Ending e = absurd (not_ending 0 socket e)
      by Finished e = ap has_ended e
      by Cleared e = ap has_ended e
