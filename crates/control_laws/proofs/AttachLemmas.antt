-- What is kept where an end is attached by its bind.
use Rattle.std.specs.Prelude.{◌≡◌, ◌≢◌, ◌<◌, ◌||◌, ℕ, Bool, true, false, not, List, [], ◌∷◌, ◌++◌, map, Some, length, if◌then◌else◌, slice_index_or, refl}
use Rattle.std.specs.List.{list_any}
use Rattle.std.proofs.Common.{arith, sym, ap, ◌∙◌, subst, inl}
use Rattle.std.proofs.lemmas.List.{get_or-set_same}
use Rattle.zq_base.specs.declared.ids.EndId.{EndId}
use Rattle.spec_control.specs.declared.end.EndState.TheVariants.{Active, DelimiterGot, WaitDelimiter, AckSent, AskedOnce, AskedTwice, Gone}
use Rattle.spec_control.specs.declared.end.EndEvent.TheVariants.{Asked}
use Rattle.spec_control.specs.declared.end.Reason.{Reason}
use Rattle.spec_control.specs.declared.end.Reason.TheVariants.{Closed, BadId, Second}
use Rattle.zq_base.specs.declared.attached.Attached.{Attached}
use Rattle.zq_base.specs.declared.attached.Attached.TheVariants.{Yes, BadId as IsBadId, Second as IsSecond}
use Rattle.spec_control.specs.declared.letter.Letter.{Letter}
use Rattle.spec_control.specs.declared.letter.Word.TheVariants.{Plug, PipeBind}
use Rattle.spec_control.specs.Stage.{is_alive, was_asked, is_coming, is_told}
use Rattle.spec_control.specs.Place.{Place, Unmade, Away, At, EndWord, Half, is_here, was_ended}
use Rattle.spec_control.specs.PairPhase.{PairEvent, Opens, BindCame, Happens, place_after, other_after, may, behind_first, front_is_bind}
use Rattle.spec_control.specs.Row.{Row, nobody, reads_on, PlugComes, link_may, link_after}
use Rattle.spec_control.specs.Rows.{PairRow, Rows, no_pair, obj, pair, with_object, with_pair, end_place, end_owner, end_half, pair_after, IsInPhase}
use Rattle.spec_control.specs.Control.{Control, with_value, id, is_end, end_of, place_of, owner_of, link, happens, ask, attach, greet}
use Rattle.spec_control.specs.After.{Answers, processed, without_front}
use Rattle.control_laws.specs.Mail.{Mark, PlugSign, BindSign, Link, DownLink, EndLink, end_mark, end_marks, up_marks, down_marks, queue, slot_of, Delivers, with_queue}
use Rattle.control_laws.specs.Kept.{AreListed, KeptBut, Kept}
use Rattle.control_laws.proofs.ListLemmas.{never, clash, is_here as here_is, is_elsewhere, written}
use Rattle.control_laws.proofs.LinkLemmas.{at_stage}
use Rattle.control_laws.proofs.ClosedLemmas.{Inv}
use Rattle.control_laws.proofs.RowLemmas.{pair_there}
use Rattle.control_laws.proofs.MailLemmas.{Oldest, OldestOfTwo, take_two, object_queue, object_slot, resort}
use Rattle.control_laws.proofs.FrontLemmas.{bind_front, plug_front}
use Rattle.control_laws.proofs.StepLemmas.{RowsKept, link_there, after_owner, moves_after, rows_link, rows_pair}
use Rattle.control_laws.proofs.PutLemmas.{ObjectQueues, rows_queues, downward_now, rows_pair_queues, one_now, end_now, pair_now}
use Rattle.control_laws.proofs.TellLemmas.{rows_of, kept_of, names_same, unasked_link}
use Rattle.control_laws.proofs.HearLemmas.{ask_kept, absent_ended, end_moved}
use Rattle.control_laws.proofs.AskLemmas.{AskLeaves, leaves_itself, ask_leaves, end_self, same_end}
use Rattle.control_laws.proofs.EndLemmas.{AtOnce, at_once, kept_but, kept_at, kept_unasked, end_keeps}
use Rattle.control_laws.proofs.ChildLemmas.{unplugged_unasked}
use Rattle.control_laws.proofs.DeliverLemmas.{inv, first_of, left_over}
use Rattle.control_laws.proofs.EndCommandLemmas.{here_not_past, one_here, one_there}

-- ---- the list of the ends that were attached
pub any_more : {X : Type 0} (test : X → Bool) (xs ys : List X) → list_any test xs ≡ true → list_any test (xs ++ ys) ≡ true
any_more test [] ys h = absurd (never h)
any_more test (x ∷ xs) ys h = by (any_more test xs ys) (test x) h
  where
    by : (list_any test xs ≡ true → list_any test (xs ++ ys) ≡ true) → (b : Bool) → (b || list_any test xs) ≡ true → (b || list_any test (xs ++ ys)) ≡ true
    by rest true h = refl
    by rest false h = rest h

pub any_last : {X : Type 0} (test : X → Bool) (xs : List X) (y : X) → test y ≡ true → list_any test (xs ++ y ∷ []) ≡ true
any_last test [] y h = ap (λ (b : Bool). b || false) h
any_last test (x ∷ xs) y h = ap (λ (b : Bool). test x || b) (any_last test xs y h) ∙ or_true (test x)
  where
    or_true : (b : Bool) → (b || true) ≡ true
    or_true true = refl
    or_true false = refl

-- the other end is not there where it was not
pub other_here : (e : PairEvent) (place : Place) → is_here (other_after e place) ≡ true → is_here place ≡ true
other_here Opens place h = absurd (never h)
other_here BindCame place h = h
other_here (Happens event) place h = h

pub attached_listed : (s : Rows) (e : EndId) (event : PairEvent) (attached : List EndId) → e.pair.0 < length s.pairs → AreListed s attached →
    AreListed (with_pair e.pair.0 (pair_after event e.a (pair s e.pair.0)) s) (attached ++ e ∷ [])
attached_listed s e event attached there listed j x h = by (is_end (end_of j x) e) refl
  where
    other_side : (a x : Bool) → x ≢ a → is_here (end_place (pair_after event a (pair s e.pair.0)) x) ≡ true → is_here (end_place (pair s e.pair.0) x) ≡ true
    other_side true true n g = absurd (n refl)
    other_side true false n g = other_here event _ g
    other_side false true n g = other_here event _ g
    other_side false false n g = absurd (n refl)

    was : is_end (end_of j x) e ≡ false → is_here (end_place (pair s j) x) ≡ true
    was other =
        elim (written s.pairs (pair_after event e.a (pair s e.pair.0)) no_pair e.pair.0 j there) [
          | here_is here same ↦
              subst (λ (i : ℕ). is_here (end_place (pair s i) x) ≡ true) (sym here)
              (other_side e.a x (λ side. clash (is_end (end_of j x) e) (ap (λ (d : EndId). is_end d e) (ap (λ (i : ℕ). end_of i x) here ∙ ap (end_of e.pair.0) side) ∙ end_self e) other)
              (sym (ap (λ (p : PairRow). is_here (end_place p x)) same) ∙ h))
          | is_elsewhere same ↦ sym (ap (λ (p : PairRow). is_here (end_place p x)) same) ∙ h
        ]

    by : (t : Bool) → is_end (end_of j x) e ≡ t → list_any (is_end (end_of j x)) (attached ++ e ∷ []) ≡ true
    by true mine = any_last (is_end (end_of j x)) attached e mine
    by false other = any_more (is_end (end_of j x)) attached (e ∷ []) (listed j x (was other))

-- ---- greeting: an end that was just attached is asked at once, or not
ask_here : (why : Reason) (place : Place) → is_here place ≡ true → is_here (place_after (Happens (Asked why false)) place) ≡ true
ask_here why Unmade h = absurd (never h)
ask_here why Away h = absurd (never h)
ask_here why (At Active) h = refl
ask_here why (At DelimiterGot) h = refl
ask_here why (At WaitDelimiter) h = refl
ask_here why (At AckSent) h = refl
ask_here why (At AskedOnce) h = refl
ask_here why (At AskedTwice) h = refl
ask_here why (At Gone) h = absurd (never h)

pub record Greets (on : Bool) (e : EndId) (c d : Control) : Type 0 where
  pub leaves : AskLeaves on c d
  pub ended : was_asked (obj c.rows (owner_of c e)).stage ≡ true → was_ended on (place_of d e) ≡ true
  pub stays : is_here (place_of c e) ≡ true → is_here (place_of d e) ≡ true

pub asks_so : (on : Bool) (why : Reason) (e : EndId) (c : Control) → Greets on e c (ask why false e c)
asks_so on why e c = record { leaves = so.0; ended = λ h. so.1; stays = by (is_here (place_of c e)) refl }
  where
    so : AskLeaves on c (ask why false e c) × (was_ended on (place_of (ask why false e c) e) ≡ true)
    so = ask_leaves why false on (λ h. absurd (never h)) e c

    by : (x : Bool) → is_here (place_of c e) ≡ x → is_here (place_of c e) ≡ true → is_here (place_of (if x then happens (Asked why false) e c else c) e) ≡ true
    by true here h = ap is_here (end_moved c (Asked why false) e (pair_there c.rows e.pair.0 e.a (Happens (Asked why false)) here)).here ∙ ask_here why (place_of c e) here
    by false gone h = h

pub greets : (on : Bool) (kind : Attached) (e : EndId) (c : Control) → Greets on e c (greet kind e c)
greets on Yes e c = by (was_asked (obj c.rows (owner_of c e)).stage) refl (c.struck e)
  where
    by : (x : Bool) → was_asked (obj c.rows (owner_of c e)).stage ≡ x → (y : Bool) → Greets on e c (if x then ask Closed false e c else (if y then ask Closed false e c else c))
    by true h y = asks_so on Closed e c
    by false h true = asks_so on Closed e c
    by false h false = record { leaves = leaves_itself on c; ended = λ g. absurd (clash _ g h); stays = λ g. g }
greets on IsBadId e c = asks_so on BadId e c
greets on IsSecond e c = asks_so on Second e c

pub greet_kept : (b : ℕ) (kind : Attached) (e : EndId) (c : Control) → KeptBut b c → owner_of c e ≡ b → KeptBut b (greet kind e c)
greet_kept b Yes e c kept of = by (was_asked (obj c.rows (owner_of c e)).stage) (c.struck e)
  where
    by : (x y : Bool) → KeptBut b (if x then ask Closed false e c else (if y then ask Closed false e c else c))
    by true y = ask_kept b Closed false e c kept of
    by false true = ask_kept b Closed false e c kept of
    by false false = kept
greet_kept b IsBadId e c kept of = ask_kept b BadId false e c kept of
greet_kept b IsSecond e c kept of = ask_kept b Second false e c kept of

-- ---- where the ends are behind an attach
pub record AttachMoved (event : PairEvent) (e : EndId) (old new : Control) : Type 0 where
  pub here : place_of new e ≡ place_after event (place_of old e)
  pub elsewhere : (d : EndId) → is_end d e ≡ false → is_here (place_of new d) ≡ true → place_of new d ≡ place_of old d
  pub owners : (d : EndId) → owner_of new d ≡ owner_of old d

pub attach_moved : (c : Control) (event : PairEvent) (e : EndId) → e.pair.0 < length c.rows.pairs → AttachMoved event e c (attach event e c)
attach_moved c event e there = record { here = here; elsewhere = elsewhere; owners = owners }
  where
    row : pair (with_pair e.pair.0 (pair_after event e.a (pair c.rows e.pair.0)) c.rows) e.pair.0 ≡ pair_after event e.a (pair c.rows e.pair.0)
    row = get_or-set_same c.rows.pairs e.pair.0 (pair_after event e.a (pair c.rows e.pair.0)) no_pair there

    at_a : (a : Bool) → end_place (pair_after event a (pair c.rows e.pair.0)) a ≡ place_after event (end_place (pair c.rows e.pair.0) a)
    at_a true = refl
    at_a false = refl

    here : place_of (attach event e c) e ≡ place_after event (place_of c e)
    here = ap (λ (p : PairRow). end_place p e.a) row ∙ at_a e.a

    other_place : (ev : PairEvent) (p : Place) → is_here (other_after ev p) ≡ true → other_after ev p ≡ p
    other_place Opens p h = absurd (never h)
    other_place BindCame p h = refl
    other_place (Happens x) p h = refl

    side : (a x : Bool) → x ≢ a → is_here (end_place (pair_after event a (pair c.rows e.pair.0)) x) ≡ true → end_place (pair_after event a (pair c.rows e.pair.0)) x ≡ end_place (pair c.rows e.pair.0) x
    side true true n g = absurd (n refl)
    side true false n g = other_place event _ g
    side false true n g = other_place event _ g
    side false false n g = absurd (n refl)

    elsewhere : (d : EndId) → is_end d e ≡ false → is_here (place_of (attach event e c) d) ≡ true → place_of (attach event e c) d ≡ place_of c d
    elsewhere d other h =
        elim (written c.rows.pairs (pair_after event e.a (pair c.rows e.pair.0)) no_pair e.pair.0 d.pair.0 there) [
          | here_is here same ↦
              ap (λ (p : PairRow). end_place p d.a) same
              ∙ side e.a d.a (λ x. clash (is_end d e) (ap (λ (i : EndId). is_end i e) (ap (λ (i : ℕ). end_of i d.a) here ∙ ap (end_of e.pair.0) x) ∙ end_self e) other)
              (sym (ap (λ (p : PairRow). is_here (end_place p d.a)) same) ∙ h)
              ∙ ap (λ (i : ℕ). end_place (pair c.rows i) d.a) (sym here)
          | is_elsewhere same ↦ ap (λ (p : PairRow). end_place p d.a) same
        ]

    owners : (d : EndId) → owner_of (attach event e c) d ≡ owner_of c d
    owners d =
        elim (written c.rows.pairs (pair_after event e.a (pair c.rows e.pair.0)) no_pair e.pair.0 d.pair.0 there) [
          | here_is here same ↦ ap (λ (p : PairRow). end_owner p d.a) same ∙ after_owner event e.a d.a (pair c.rows e.pair.0) ∙ ap (λ (i : ℕ). end_owner (pair c.rows i) d.a) (sym here)
          | is_elsewhere same ↦ ap (λ (p : PairRow). end_owner p d.a) same
        ]

-- the end of an event that attached an end by its bind and greeted it
pub bound_kept : (at : ℕ) (c : Control) (e : EndId) (kind : Attached) → e.pair.0 < length c.rows.pairs → owner_of c e ≡ at → AtOnce at c.rows → KeptBut at (attach BindCame e c) → Kept (greet kind e (attach BindCame e c))
bound_kept at c e kind there of now kept =
    kept_at at (greet kind e (attach BindCame e c)) all (record { ends = ends; children = children })
    (end_keeps at (greet kind e (attach BindCame e c)) e.pair.0 e.a all (g.leaves.owners e ∙ m.owners e ∙ of) (here_not_past (end_half (pair (greet kind e (attach BindCame e c)).rows e.pair.0) e.a) (g.stays (ap is_here m.here))))
  where
    m : AttachMoved BindCame e c (attach BindCame e c)
    m = attach_moved c BindCame e there

    g : Greets (reads_on (obj c.rows at)) e (attach BindCame e c) (greet kind e (attach BindCame e c))
    g = greets (reads_on (obj c.rows at)) kind e (attach BindCame e c)

    all : KeptBut at (greet kind e (attach BindCame e c))
    all = greet_kept at kind e (attach BindCame e c) kept (m.owners e ∙ of)

    row : (i : ℕ) → obj (greet kind e (attach BindCame e c)).rows i ≡ obj c.rows i
    row i = ap (λ (l : List Row). slice_index_or l i nobody) g.leaves.objects

    ended : (x : EndId) → owner_of c x ≡ at → was_asked (obj c.rows at).stage ≡ true → was_ended (reads_on (obj c.rows at)) (place_of (greet kind e (attach BindCame e c)) x) ≡ true
    ended x mine h = by (is_end x e) refl (is_here (place_of (attach BindCame e c) x)) refl
      where
        by : (t : Bool) → is_end x e ≡ t → (y : Bool) → is_here (place_of (attach BindCame e c) x) ≡ y → was_ended (reads_on (obj c.rows at)) (place_of (greet kind e (attach BindCame e c)) x) ≡ true
        by true same y k =
            subst (λ (i : EndId). was_ended (reads_on (obj c.rows at)) (place_of (greet kind e (attach BindCame e c)) i) ≡ true) (sym (same_end x e same))
            (g.ended (ap (λ (i : ℕ). was_asked (obj c.rows i).stage) (m.owners e ∙ of) ∙ h))
        by false other true k = g.leaves.ended x (ap (was_ended (reads_on (obj c.rows at))) (m.elsewhere x other k) ∙ now.ends x.pair.0 x.a mine h)
        by false other false k = g.leaves.ended x (absent_ended (reads_on (obj c.rows at)) (place_of (attach BindCame e c) x) k)

    ends : (k : ℕ) (a : Bool) → end_owner (pair (greet kind e (attach BindCame e c)).rows k) a ≡ at → was_asked (obj (greet kind e (attach BindCame e c)).rows at).stage ≡ true →
        was_ended (reads_on (obj (greet kind e (attach BindCame e c)).rows at)) (end_place (pair (greet kind e (attach BindCame e c)).rows k) a) ≡ true
    ends k a mine h =
        ap (λ (o : Row). was_ended (reads_on o) (end_place (pair (greet kind e (attach BindCame e c)).rows k) a)) (row at)
        ∙ ended (end_of k a) (sym (g.leaves.owners (end_of k a) ∙ m.owners (end_of k a)) ∙ mine) (sym (ap (λ (o : Row). was_asked o.stage) (row at)) ∙ h)

    children : (i : ℕ) → at ≢ 0 → (obj (greet kind e (attach BindCame e c)).rows i).owner ≡ Some at → was_asked (obj (greet kind e (attach BindCame e c)).rows at).stage ≡ true →
        (obj (greet kind e (attach BindCame e c)).rows i).noted ≡ true → is_alive (obj (greet kind e (attach BindCame e c)).rows i).stage ≡ false
    children i below mine h noted =
        ap (λ (o : Row). is_alive o.stage) (row i)
        ∙ now.children i below (sym (ap (λ (o : Row). o.owner) (row i)) ∙ mine) (sym (ap (λ (o : Row). was_asked o.stage) (row at)) ∙ h) (sym (ap (λ (o : Row). o.noted) (row i)) ∙ noted)

-- ---- the commands that bring an end
pub sides : (P : Bool → Type 0) (a : Bool) → P a → P (not a) → (x : Bool) → P x
sides P true p q true = p
sides P true p q false = q
sides P false p q true = q
sides P false p q false = p

no_more : {X : Type 0} (xs : List X) → xs ++ [] ≡ xs
no_more [] = refl
no_more (x ∷ xs) = ap (λ (l : List _). x ∷ l) (no_more xs)

bind_not_opens : BindCame ≢ Opens
bind_not_opens e = Prim.grind arith

-- what is on its way to the ends of a pair behind a bind
bind_ends : (s : Rows) (e : EndId) (q : List Mark) → IsInPhase (pair s e.pair.0) → may BindCame (end_half (pair s e.pair.0) e.a) (end_half (pair s e.pair.0) (not e.a)) ≡ true →
    map (end_mark (end_owner (pair s e.pair.0) e.a)) (behind_first (end_half (pair s e.pair.0) e.a).mail) ≡ q →
    (x : Bool) → one_now e.a q (end_marks (pair s e.pair.0)) x ≡ end_marks (pair_after BindCame e.a (pair s e.pair.0)) x
bind_ends s e q phase comes is =
    let p = pair s e.pair.0 in
    let m = moves_after BindCame e.a p phase comes in
    sides (λ x. one_now e.a q (end_marks p) x ≡ end_marks (pair_after BindCame e.a p) x) e.a
    (one_here e.a q (end_marks p) ∙ sym is
    ∙ sym (ap (λ (w : ℕ). map (end_mark w) (end_half (pair_after BindCame e.a p) e.a).mail) (after_owner BindCame e.a e.a p) ∙ ap (λ (h : Half). map (end_mark (end_owner p e.a)) h.mail) m.mine))
    (one_there e.a q (end_marks p)
    ∙ sym (ap (λ (w : ℕ). map (end_mark w) (end_half (pair_after BindCame e.a p) (not e.a)).mail) (after_owner BindCame e.a (not e.a) p)
    ∙ ap (λ (h : Half). map (end_mark (end_owner p (not e.a))) h.mail) m.theirs ∙ ap (map (end_mark (end_owner p (not e.a)))) (no_more (end_half p (not e.a)).mail)))

module _ (c : Control) (kept : Kept c) (slot : ℕ) (rest : List Letter) (at : ℕ) (e : EndId) (h : Answers) where
  abbrev mail_of : List EndWord
  mail_of = (end_half (pair c.rows e.pair.0) e.a).mail

  pub pipe_bind_kept : (peer : List ℕ) → c.boxes slot ≡ record { to = id at; word = PipeBind e peer } ∷ rest → Kept (processed at (PipeBind e peer) h (without_front slot c))
  pipe_bind_kept peer is = bound_kept at (without_front slot c) e (h.kind e) there front.1 (at_once at c.rows c.output_left kept.prompt) all
    where
      first : Oldest (slot_of c.rows) (queue c.rows) c.boxes slot rest (EndLink e.pair.0 e.a) (record { to = at; sign = BindSign })
      first = first_of c kept slot rest (record { to = id at; word = PipeBind e peer }) is (EndLink e.pair.0 e.a) (record { to = at; sign = BindSign }) (λ link. refl)

      front : (front_is_bind mail_of ≡ true) × (end_owner (pair c.rows e.pair.0) e.a ≡ at) × (map (end_mark (end_owner (pair c.rows e.pair.0) e.a)) (behind_first mail_of) ≡ first.behind)
      front = bind_front (end_owner (pair c.rows e.pair.0) e.a) mail_of at first.behind first.is_first

      there : e.pair.0 < length c.rows.pairs
      there = pair_there c.rows e.pair.0 e.a BindCame front.0

      all : KeptBut at (attach BindCame e (without_front slot c))
      all = kept_of at (attach BindCame e (without_front slot c))
          (rows_pair at c.rows c.output_left e.pair.0 e.a BindCame (rows_of (kept_but at c kept)) bind_not_opens front.0 front.1)
          (pair_now c.rows e.pair.0 (pair_after BindCame e.a (pair c.rows e.pair.0)) _ _ _ there (λ x. after_owner BindCame e.a x (pair c.rows e.pair.0))
          (end_now c.rows e.pair.0 e.a (end_marks (pair c.rows e.pair.0)) first.behind (queue c.rows) (rows_pair_queues c.rows e.pair.0))
          (left_over c kept slot rest (record { to = id at; word = PipeBind e peer }) is (EndLink e.pair.0 e.a) (record { to = at; sign = BindSign }) (λ link. refl))
          (bind_ends c.rows e first.behind ((inv c kept slot rest).phases e.pair.0) front.0 front.2))
          (attached_listed c.rows e BindCame c.attached there kept.listed)
          (names_same c.rows _ c.names (λ i u. record { socket = u.socket; unasked = u.unasked }) kept.names)

  pub plug_end_kept : c.boxes slot ≡ record { to = id at; word = Plug (Some e) } ∷ rest → Kept (processed at (Plug (Some e)) h (without_front slot c))
  plug_end_kept is =
      kept_unasked at (greet (h.kind e) e (attach BindCame e (link PlugComes at (without_front slot c)))) (greet_kept at (h.kind e) e (attach BindCame e (link PlugComes at (without_front slot c))) all (m.owners e ∙ bind.1))
      (ap (λ (l : List Row). was_asked (slice_index_or l at nobody).stage) g.leaves.objects ∙ ap (λ (o : Row). was_asked o.stage) row
      ∙ unplugged_unasked (obj c.rows at).stage (obj c.rows at).noted (obj c.rows at).plugged (obj c.rows at).request (obj c.rows at).stop (at_stage (obj c.rows at) (fits.fits at)) plug.0)
    where
      fits : Inv c.rows
      fits = inv c kept slot rest

      first : OldestOfTwo (slot_of c.rows) (queue c.rows) c.boxes slot rest (DownLink at) (EndLink e.pair.0 e.a) (record { to = at; sign = PlugSign }) (record { to = at; sign = BindSign })
      first = take_two (slot_of c.rows) (queue c.rows) c.boxes slot (record { to = id at; word = Plug (Some e) }) rest (DownLink at) (EndLink e.pair.0 e.a) (record { to = at; sign = PlugSign }) (record { to = at; sign = BindSign })
          kept.delivered is refl refl (λ link. refl)

      plug : ((obj c.rows at).plugged ≡ false) × (down_marks at (link_after PlugComes (obj c.rows at)) ≡ first.behind)
      plug = plug_front at (obj c.rows at).plugged (is_coming (obj c.rows at).stop) (is_told (obj c.rows at).stage) at first.behind first.is_first

      bind : (front_is_bind mail_of ≡ true) × (end_owner (pair c.rows e.pair.0) e.a ≡ at) × (map (end_mark (end_owner (pair c.rows e.pair.0) e.a)) (behind_first mail_of) ≡ first.behind_also)
      bind = bind_front (end_owner (pair c.rows e.pair.0) e.a) mail_of at first.behind_also first.is_first_also

      may_plug : link_may PlugComes (obj c.rows at) ≡ true
      may_plug = ap not plug.0

      there : at < length c.rows.objects
      there = link_there c.rows at PlugComes fits may_plug

      pair_is_there : e.pair.0 < length c.rows.pairs
      pair_is_there = pair_there c.rows e.pair.0 e.a BindCame bind.0

      row : obj (with_object at (link_after PlugComes (obj c.rows at)) c.rows) at ≡ link_after PlugComes (obj c.rows at)
      row = get_or-set_same c.rows.objects at (link_after PlugComes (obj c.rows at)) nobody there

      m : AttachMoved BindCame e (link PlugComes at (without_front slot c)) (attach BindCame e (link PlugComes at (without_front slot c)))
      m = attach_moved (link PlugComes at (without_front slot c)) BindCame e pair_is_there

      g : Greets true e (attach BindCame e (link PlugComes at (without_front slot c))) (greet (h.kind e) e (attach BindCame e (link PlugComes at (without_front slot c))))
      g = greets true (h.kind e) e (attach BindCame e (link PlugComes at (without_front slot c)))

      rows1 : RowsKept at (with_object at (link_after PlugComes (obj c.rows at)) c.rows) c.output_left
      rows1 = rows_link at c.rows c.output_left at PlugComes (rows_of (kept_but at c kept)) may_plug refl

      o : ObjectQueues c.rows at (up_marks (obj c.rows at)) first.behind (with_queue (DownLink at) first.behind (queue c.rows))
      o = downward_now c.rows at _ _ first.behind (queue c.rows) (rows_queues c.rows at)

      same : (link : Link) → with_queue (DownLink at) first.behind (queue c.rows) link ≡ queue (with_object at (link_after PlugComes (obj c.rows at)) c.rows) link
      same = object_queue c.rows at (link_after PlugComes (obj c.rows at)) (with_queue (DownLink at) first.behind (queue c.rows)) there o.upward (o.downward ∙ sym plug.1) o.rest

      taken_boxes : with_value slot rest c.boxes ≡ with_value slot (behind_first (c.boxes slot)) c.boxes
      taken_boxes = ap (λ (q : List Letter). with_value slot q c.boxes) (sym (ap behind_first is))

      all : KeptBut at (attach BindCame e (link PlugComes at (without_front slot c)))
      all = kept_of at (attach BindCame e (link PlugComes at (without_front slot c)))
          (rows_pair at (with_object at (link_after PlugComes (obj c.rows at)) c.rows) c.output_left e.pair.0 e.a BindCame rows1 bind_not_opens bind.0 bind.1)
          (pair_now (with_object at (link_after PlugComes (obj c.rows at)) c.rows) e.pair.0 (pair_after BindCame e.a (pair c.rows e.pair.0)) _ _ _ pair_is_there (λ x. after_owner BindCame e.a x (pair c.rows e.pair.0))
          (end_now (with_object at (link_after PlugComes (obj c.rows at)) c.rows) e.pair.0 e.a (end_marks (pair c.rows e.pair.0)) first.behind_also (with_queue (DownLink at) first.behind (queue c.rows))
          (record { to_end = λ x. same (EndLink e.pair.0 x); rest = λ link n k. same link }))
          (resort _ _ _ _ (subst (Delivers (slot_of c.rows) (with_queue (EndLink e.pair.0 e.a) first.behind_also (with_queue (DownLink at) first.behind (queue c.rows)))) taken_boxes first.left_over)
          (λ link. inl (object_slot c.rows at (link_after PlugComes (obj c.rows at)) there refl refl link)))
          (bind_ends c.rows e first.behind_also (fits.phases e.pair.0) bind.0 bind.2))
          (attached_listed (with_object at (link_after PlugComes (obj c.rows at)) c.rows) e BindCame c.attached pair_is_there kept.listed)
          (names_same (with_object at (link_after PlugComes (obj c.rows at)) c.rows) _ c.names (λ i u. record { socket = u.socket; unasked = u.unasked })
          (names_same c.rows _ c.names (unasked_link c.rows at PlugComes there refl may_plug) kept.names))
