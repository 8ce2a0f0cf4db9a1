-- Whether an end of a closed socket reads on is told by the control state.
use Rattle.std.specs.Prelude.{◌≡◌, ◌==◌, ◌||◌, ◌++◌, ◌∷◌, [], ℕ, Bool, true, false, not, List, All, if◌then◌else◌, map, refl}
use Rattle.std.specs.List.{list_any}
use Rattle.std.proofs.Common.{sym, ap, ◌∙◌, subst}
use Rattle.std.proofs.lemmas.Bool.{eq-eqb}
use Rattle.std.proofs.lemmas.List.Elements.{All-head, All-tail}
use Rattle.zq_base.specs.declared.ids.EndId.{EndId}
use Rattle.spec_control.specs.declared.end.EndState.{EndState}
use Rattle.spec_control.specs.declared.end.EndState.TheVariants.{WaitDelimiter}
use Rattle.spec_control.specs.Place.{At, is_here, looks}
use Rattle.spec_control.specs.Rows.{obj}
use Rattle.spec_control.specs.Stage.{has_ended}
use Rattle.spec_control.specs.Control.{Control, begun, id, is_end, owner_of, place_of}
use Rattle.spec_control.specs.ControlRun.{after_all}
use Rattle.spec_control.specs.Names.{name_of}
use Rattle.control_laws.proofs.ListLemmas.{never}
use Rattle.control_laws.specs.Kept.{Kept}
use Rattle.spec_run.specs.OpenSocket.{awaits_delimiter}
use Rattle.msg_pipe.specs.Known.{Known}
use Rattle.desk.specs.declared.given.Given.{Given}
use Rattle.desk.specs.Holding.{has_end, held_given}
use Rattle.desk.specs.Lent.{HasAll}
use Rattle.desk.specs.TakingOver.{AllTwo, AreTwo}
use Rattle.ctl_plane.specs.Past.{control_of}
use Rattle.desk.specs.Desk.{HasWhatTheySay}
use Rattle.control_laws.specs.Closed.{lives}
use Rattle.sock_core.proofs.FindLemmas.{same_end}
use Rattle.socket_laws.specs.Places.{is_end_of}
use Rattle.socket_laws.proofs.PlaceLemmas.{any_filter, held_here}
use Rattle.line_socket.proofs.HereLemmas.{awaits_is}
use Rattle.closed_ends.specs.declared.sockets.ClosedSocket.{ClosedSocket}
use Rattle.closed_ends.specs.declared.sockets.ClosedSockets.{ClosedSockets}
use Rattle.closed_ends.specs.Has.{all_ends, ends_of, holding_in, is_of, is_socket, state_in}
use Rattle.closed_ends.specs.Sound.{AreSound}
use Rattle.closed_ends.proofs.ChangeLemmas.{among, ends_none}
use Rattle.closed_ends.proofs.FormLemmas.{sound_of}
use Rattle.closed_ends.proofs.ListLemmas.{any_back}
use Rattle.closed_ends.proofs.ReadingLemmas.{state_none}
use Rattle.plain_desk.specs.Lent.{moments_of, IsOneOrder, Lent}
use Rattle.socket_laws.proofs.SocketLemmas.{kept_now}
use Rattle.plain_desk.specs.Reaping.{is_taken}
use Rattle.core_laws.specs.ReapedComing.{HasTaken}
use Rattle.core_laws.proofs.ReapedComingLemmas.{has_now}
use Rattle.core_laws.proofs.HadLemmas.{ended_has_none}

-- ---- how far an end is, among those of its socket and among all
module _ {N O I : Type 0} (out_name : O → N) (in_name : I → N) (e : EndId) where
  same_among : (gs : List (Given N O I)) → has_end e (map (held_given out_name in_name) gs) ≡ list_any (is_of e) gs
  same_among [] = refl
  same_among (g ∷ gs) = ap (λ (b : Bool). is_end e g.end || b) (same_among gs)

  same_held : (gs : List (Given N O I)) → list_any (is_end e) (map (λ x. x.end) (map (held_given out_name in_name) gs)) ≡ list_any (is_of e) gs
  same_held [] = refl
  same_held (g ∷ gs) = ap (λ (b : Bool). is_end e g.end || b) (same_held gs)

  state_front : (xs ys : List (Given N O I)) → list_any (is_of e) xs ≡ true → state_in (xs ++ ys) e ≡ state_in xs e
  state_front [] ys h = absurd (never h)
  state_front (x ∷ xs) ys h = by (is_of e x) h (state_front xs ys)
    where
      by : (b : Bool) → (b || list_any (is_of e) xs) ≡ true → (list_any (is_of e) xs ≡ true → state_in (xs ++ ys) e ≡ state_in xs e) → (if b then x.state else state_in (xs ++ ys) e) ≡ (if b then x.state else state_in xs e)
      by true k rest = refl
      by false k rest = rest k

  state_behind : (xs ys : List (Given N O I)) → list_any (is_of e) xs ≡ false → state_in (xs ++ ys) e ≡ state_in ys e
  state_behind [] ys h = refl
  state_behind (x ∷ xs) ys h = by (is_of e x) h (state_behind xs ys)
    where
      by : (b : Bool) → (b || list_any (is_of e) xs) ≡ false → (list_any (is_of e) xs ≡ false → state_in (xs ++ ys) e ≡ state_in ys e) → (if b then x.state else state_in (xs ++ ys) e) ≡ state_in ys e
      by true k rest = absurd (never (sym k))
      by false k rest = rest k

  module _ (exact : Bool) where
    -- none behind the end is the same
    alone : (g : Given N O I) → is_of e g ≡ true → (xs : List (Given N O I)) → All (AreTwo exact (held_given out_name in_name g)) (map (held_given out_name in_name) xs) → list_any (is_of e) xs ≡ false
    alone g is [] all = refl
    alone g is (x ∷ xs) all =
        by (is_of e x) refl (alone g is xs (All-tail (AreTwo exact (held_given out_name in_name g)) (held_given out_name in_name x) (map (held_given out_name in_name) xs) all))
      where
        by : (b : Bool) → is_of e x ≡ b → list_any (is_of e) xs ≡ false → (b || list_any (is_of e) xs) ≡ false
        by true k rest = absurd ((All-head (AreTwo exact (held_given out_name in_name g)) (held_given out_name in_name x) (map (held_given out_name in_name) xs) all).ends (sym (same_end e g.end is) ∙ same_end e x.end k))
        by false k rest = rest

    before : (xs ys : List (Given N O I)) → AllTwo exact (map (held_given out_name in_name) (xs ++ ys)) → list_any (is_of e) ys ≡ true → list_any (is_of e) xs ≡ false
    before [] ys two h = refl
    before (x ∷ xs) ys two h = by (is_of e x) refl (before xs ys two.1 h)
      where
        by : (b : Bool) → is_of e x ≡ b → list_any (is_of e) xs ≡ false → (b || list_any (is_of e) xs) ≡ false
        by true k rest = absurd (never (sym (alone x k (xs ++ ys) two.0) ∙ any_back (is_of e) xs ys h))
        by false k rest = rest

    rest_two : (xs ys : List (Given N O I)) → AllTwo exact (map (held_given out_name in_name) (xs ++ ys)) → AllTwo exact (map (held_given out_name in_name) ys)
    rest_two [] ys two = two
    rest_two (x ∷ xs) ys two = rest_two xs ys two.1

    pub state_whole : (o : ℕ) (ss : List (ClosedSocket N O I)) → AllTwo exact (map (held_given out_name in_name) (all_ends ss)) → list_any (is_of e) (ends_of ss o) ≡ true → state_in (all_ends ss) e ≡ state_in (ends_of ss o) e
    state_whole o [] two h = refl
    state_whole o (s ∷ ss) two h = by (is_socket o s) h (state_whole o ss (rest_two s.ends.items (all_ends ss) two))
      where
        by : (b : Bool) → list_any (is_of e) (if b then s.ends.items else ends_of ss o) ≡ true → (list_any (is_of e) (ends_of ss o) ≡ true → state_in (all_ends ss) e ≡ state_in (ends_of ss o) e) →
            state_in (s.ends.items ++ all_ends ss) e ≡ state_in (if b then s.ends.items else ends_of ss o) e
        by true k rest = state_front s.ends.items (all_ends ss) k
        by false k rest = state_behind s.ends.items (all_ends ss) (before s.ends.items (all_ends ss) two (among (is_of e) o ss k)) ∙ rest k

-- ---- by the control state
module _ {S N O I T : Type 0} (K : Known S O I N) (d : Lent (Given N O I) N T) (order : IsOneOrder d) (pipes : S) (closed : ClosedSockets N O I) (sound : AreSound K pipes closed.sockets.items)
    (say : HasWhatTheySay d.caller (moments_of d) (holding_in K.out_name K.in_name closed)) (o : ℕ) (e : EndId) where
  abbrev its : List (Given N O I)
  its = ends_of closed.sockets.items o

  module _ (holds : list_any (is_socket o) closed.sockets.items ≡ true) (here : list_any (is_of e) (ends_of closed.sockets.items o) ≡ true) where
    has_here : has_end e (map (held_given K.out_name K.in_name) (ends_of closed.sockets.items o)) ≡ true
    has_here = same_among K.out_name K.in_name e its ∙ here

    -- it is where its state says
    place_is : place_of (control_of d.past) e ≡ At (state_in (ends_of closed.sockets.items o) e)
    place_is =
        (has_now K d order pipes closed sound say o holds).states e has_here
        ∙ ap At (state_whole K.out_name K.in_name e K.exact o closed.sockets.items (sound_of K pipes closed.sockets.items sound).apart here)

  -- ---- one that reads on
  module _ (reads : awaits_delimiter (At (state_in (ends_of closed.sockets.items o) e)) ≡ true) where
    here_so : list_any (is_of e) (ends_of closed.sockets.items o) ≡ true
    here_so = by (list_any (is_of e) its) refl
      where
        by : (b : Bool) → list_any (is_of e) its ≡ b → b ≡ true
        by true k = refl
        by false k = absurd (never (ap (λ (s : EndState). awaits_delimiter (At s)) (sym (state_none e its k)) ∙ reads))

    pub holds_so : list_any (is_socket o) closed.sockets.items ≡ true
    holds_so = by (list_any (is_socket o) closed.sockets.items) refl
      where
        by : (b : Bool) → list_any (is_socket o) closed.sockets.items ≡ b → b ≡ true
        by true k = refl
        by false k = absurd (never (ap (list_any (is_of e)) (sym (ends_none o closed.sockets.items k)) ∙ here_so))

    pub has_so : has_end e (map (held_given K.out_name K.in_name) (ends_of closed.sockets.items o)) ≡ true
    has_so = has_here holds_so here_so

    place_so : place_of (control_of d.past) e ≡ At WaitDelimiter
    place_so = place_is holds_so here_so ∙ awaits_is (At (state_in its e)) reads

    pub looks_so : looks (place_of (control_of d.past) e) ≡ true
    looks_so = ap looks place_so

  -- ---- of a socket that was taken over
  module _ (taken : HasTaken (control_of d.past) (holding_in K.out_name K.in_name closed)) (own : owner_of (control_of d.past) e ≡ o) (over : is_taken (obj (control_of d.past).rows o) ≡ true) where
    abbrev c : Control
    c = control_of d.past

    module _ (awaits : awaits_delimiter (place_of (control_of d.past) e) ≡ true) where
      is_there : is_here (place_of (control_of d.past) e) ≡ true
      is_there = ap is_here (awaits_is (place_of c e) awaits)

      lives_yet : lives (control_of d.past) (id o) ≡ true
      lives_yet = by (has_ended (obj c.rows o).stage) refl
        where
          by : (b : Bool) → has_ended (obj c.rows o).stage ≡ b → not b ≡ true
          by false k = refl
          by true k = absurd (ended_has_none c (kept_now d order) e is_there (ap (λ (i : ℕ). has_ended (obj c.rows i).stage) own ∙ k))

      holds_it : list_any (is_socket o) closed.sockets.items ≡ true
      holds_it = taken o over lives_yet

      kept : Kept (control_of d.past)
      kept = kept_now d order

      its_end : is_end_of o (control_of d.past) e ≡ true
      its_end = any_filter (λ x. owner_of c x == o) e c.attached (eq-eqb (owner_of c e) o own) (kept.listed e.pair.0 e.a is_there)

      has_all : HasAll (name_of d.items) (after_all d.items (begun d.past.workers)) (holding_in K.out_name K.in_name closed)
      has_all = subst (λ (x : Control). HasAll (name_of d.items) x (holding_in K.out_name K.in_name closed)) order.control (has_now K d order pipes closed sound say)

      among_its : list_any (is_of e) (ends_of closed.sockets.items o) ≡ true
      among_its =
          let run = order.order in
          sym (same_held K.out_name K.in_name e its)
          ∙ held_here d.past.workers d.items run.run o (name_of d.items) (holding_in K.out_name K.in_name closed) (has_all o holds_it) e
          (subst (λ (x : Control). is_end_of o x e ≡ true) order.control its_end) (subst (λ (x : Control). is_here (place_of x e) ≡ true) order.control is_there)

      reads_it : awaits_delimiter (At (state_in (ends_of closed.sockets.items o) e)) ≡ true
      reads_it = ap awaits_delimiter (sym (place_is holds_it among_its)) ∙ awaits

    pub reads_are : awaits_delimiter (place_of (control_of d.past) e) ≡ awaits_delimiter (At (state_in (ends_of closed.sockets.items o) e))
    reads_are = by (awaits_delimiter (place_of c e)) refl
      where
        by : (b : Bool) → awaits_delimiter (place_of c e) ≡ b → b ≡ awaits_delimiter (At (state_in its e))
        by true k = sym (reads_it k)
        by false k = none (awaits_delimiter (At (state_in its e))) refl
          where
            none : (b : Bool) → awaits_delimiter (At (state_in its e)) ≡ b → false ≡ b
            none false reads = refl
            none true reads = absurd (never (sym k ∙ ap awaits_delimiter (place_so reads)))
