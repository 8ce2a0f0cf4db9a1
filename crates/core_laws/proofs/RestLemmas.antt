-- Each other socket that its caller has open agrees still, behind calls of one.
use Rattle.std.specs.Prelude.{◌≡◌, ◌≢◌, ◌≤◌, ◌<◌, ◌⊎◌, ◌++◌, ℕ, Bool, true, false, List, [], ◌∷◌, Option, Some, None, map, refl}
use Rattle.std.specs.List.{AllByRecursion}
use Rattle.std.proofs.Common.{arith, sym, ap, ◌∙◌, subst, inl, inr, true≢false}
use Rattle.std.proofs.lemmas.Bool.{cases_lt}
use Rattle.std.proofs.lemmas.List.Elements.{All-weaker}
use Rattle.zq_base.specs.Ends.{other_end}
use Rattle.zq_base.specs.declared.ids.EndId.{EndId}
use Rattle.zq_base.specs.declared.ids.SlotId.{SlotId}
use Rattle.spec_pattern.specs.Half.{Writing}
use Rattle.spec_control.specs.declared.end.EndState.TheVariants.{Gone}
use Rattle.spec_control.specs.Place.{At, is_away}
use Rattle.spec_control.specs.Control.{Control, begun, ends_of, id, next_pair, owner_of, place_of}
use Rattle.spec_control.specs.ControlRun.{after_all}
use Rattle.spec_control.specs.Rows.{obj}
use Rattle.spec_control.specs.Names.{name_of}
use Rattle.control_laws.proofs.AttachedOnceLemmas.{old_run}
use Rattle.spec_control.specs.Has.{has_after}
use Rattle.spec_control.specs.Moments.{moments_from}
use Rattle.msg_pipe.specs.Known.{Known, IsThere}
use Rattle.any_sock.specs.declared.any_sock.AnySock.{AnySock}
use Rattle.any_sock.specs.Over.{peer_places}
use Rattle.ctl_moves.proofs.HeldLemmas.{other_twice}
use Rattle.desk.specs.declared.given.Given.{Given}
use Rattle.desk.specs.declared.halves.Halves.{Halves}
use Rattle.desk.specs.Lent.{has_writer}
use Rattle.desk.specs.TakingOver.{AreDistinct}
use Rattle.ctl_plane.specs.Past.{control_of}
use Rattle.desk.specs.Desk.{slot_after}
use Rattle.end_table.specs.Rows.{row_at}
use Rattle.end_table.specs.declared.table.Place.{Place}
use Rattle.end_table.specs.Places.{place_at}
use Rattle.end_table.specs.Sound.{Fits, IsSound}
use Rattle.end_table.proofs.SoundLemmas.{Carries, carried}
use Rattle.sock_core.specs.declared.sock.SockCore.{SockCore}
use Rattle.sock_core.specs.Sound.{AreSound}
use Rattle.sock_core.proofs.FormLemmas.{are_sound, sound_of}
use Rattle.sock_calls.specs.Calls.{FitsCore, MayJoin}
use Rattle.line_socket.specs.Standing.{IsStanding}
use Rattle.plain_desk.specs.Lent.{coming_to, moments_of, GrowsBy, HasSocket, IsOneOrder, Lent}
use Rattle.socket_laws.specs.Behind.{IsOfIts}
use Rattle.socket_laws.proofs.NewLemmas.{away, any_of, mine, there}
use Rattle.socket_laws.proofs.SocketLemmas.{is_in, kept_now}
use Rattle.socket_laws.specs.Places.{is_end_of}
use Rattle.socket_laws.specs.Asked.{EndsAreSealedOnce, WereAsked, asked_rank}
use Rattle.socket_laws.specs.Said.{sealed_with}
use Rattle.line_socket.specs.Owned.{IsOwned}
use Rattle.line_socket.specs.Leaving.{IsNoneItReads, IsNoneItSettled, IsNoneItWrites, LeavesPipes, TellsRest}
use Rattle.core_laws.specs.Agrees.{AgreesIn}
use Rattle.core_laws.specs.Apart.{IsHeldBy}
use Rattle.core_laws.specs.Calls.{AreCallsOn, SaySame, for_caller}
use Rattle.core_laws.specs.Coming.{IsSent, WasComing}
use Rattle.core_laws.specs.Rest.{LeavesRest, OthersAgreeStill, OthersAreKept}
use Rattle.core_laws.proofs.ApartLemmas.{across, else_of, is_out, not_first, not_second, other_out}
use Rattle.core_laws.proofs.ChainLemmas.{IsOwn, own_ends}
use Rattle.core_laws.proofs.ComingLemmas.{old_end_came}
use Rattle.plain_desk.proofs.StayLemmas.{found_by, led_more, run_more}
use Rattle.core_laws.proofs.GrownLemmas.{objects_stay}
use Rattle.core_laws.proofs.JoinLemmas.{joins_by}
use Rattle.core_laws.proofs.OwnedLemmas.{held_by, owned_still}
use Rattle.core_laws.proofs.SilentLemmas.{one_order_of, others_say_the_same}

some_is : {X : Type 0} {x y : X} → Some x ≡ Some y → x ≡ y
some_is e = Prim.grind arith

-- ---- ends that were asked

all_front : {X : Type 0} (Q : X → Type 0) (xs ys : List X) → AllByRecursion Q (xs ++ ys) → AllByRecursion Q xs
all_front Q [] ys all = tt
all_front Q (x ∷ xs) ys all = (all.0, all_front Q xs ys all.1)

module _ {G N T : Type 0} (once : EndsAreSealedOnce N T) (old new : Lent G N T) (o : ℕ) (calls : AreCallsOn o old new) where
  -- they were so still, whoever's calls came
  asked_still : (es : List EndId) → WereAsked (control_of old.past) es → WereAsked (control_of new.past) es
  asked_still es were =
      let grows : GrowsBy old new = calls.grows in
      let before : IsOneOrder old = calls.before in
      let c = found_by old new calls.behind grows in
      let all = once old.past.workers old.items grows.more before.order.run (run_more old new calls.behind grows) es (subst (λ (d : Control). WereAsked d es) before.control were) in
      subst (λ (d : Control). WereAsked d es) (sym (led_more old new calls.behind grows))
      (all_front (λ e. (e.pair.0 < next_pair (after_all grows.more c)) × (0 < asked_rank (place_of (after_all grows.more c) e))) es (sealed_with (moments_from c grows.more)) all.1)

-- an end of an object is one that it owns
owns : {G N T : Type 0} (d : Lent G N T) (order : IsOneOrder d) (o : ℕ) (x : EndId) → is_end_of o (control_of d.past) x ≡ true → owner_of (control_of d.past) x ≡ o
owns d order o x its =
    subst (λ (c : Control). owner_of c x ≡ o) (sym order.control)
    (any_of (λ e. owner_of c e ≡ o) (ends_of o c) x (All-weaker (IsOwn o c) (λ e. owner_of c e ≡ o) (λ e is. is.own) (ends_of o c) (own_ends o c (old_run d.past.workers d.items order.order.run)))
    (subst (λ (q : Control). is_end_of o q x ≡ true) order.control its))
  where
    c : Control
    c = after_all d.items (begun d.past.workers)

module _ (W T : Type 0) {P N O I : Type 0} (K : Known P O I N) (o : ℕ) (old new : Lent (Given N O I) N T) (calls : AreCallsOn o old new) (had : HasSocket old (id o)) (before behind : P)
    (j : ℕ) (t : SockCore AnySock W N O I) (other_one : j ≡ old.caller → t.number.0 ≢ o) (agrees : AgreesIn K old j before t) (once : EndsAreSealedOnce N T) where
  abbrev grows : GrowsBy old new
  grows = calls.grows

  abbrev order : IsOneOrder old
  order = calls.before

  abbrev order_now : IsOneOrder new
  order_now = calls.behind

  abbrev u : ℕ
  u = t.number.0

  -- the control state behind them
  abbrev c : Control
  c = control_of new.past

  owned : IsOwned K j (moments_of (for_caller j old)) before t
  owned = agrees.owned

  same : SaySame u (moments_of (for_caller j old)) (moments_of (for_caller j new))
  same = others_say_the_same (Given N O I) N T old new o calls j u other_one owned.is_open

  owned_now : IsOwned K j (moments_of (for_caller j new)) before t
  owned_now = owned_still K j (moments_of (for_caller j old)) (moments_of (for_caller j new)) before t same owned

  -- one caller has it
  other : o ≢ u
  other is =
      let has = (is_in old order o had).has in
      let its = (is_in (for_caller j old) (one_order_of j old order) u owned.is_open).has in
      other_one (some_is (sym its ∙ ap (λ (n : ℕ). has_after n old.items) (sym is) ∙ has)) (sym is)

  slot : slot_after u (moments_of (for_caller j new)) ≡ slot_after u (moments_of (for_caller j old))
  slot = ap (λ (d : Control). let s : SlotId = record { 0 = (obj d.rows u).slot } in s) same.left

  abbrev box_now : ℕ
  box_now = (slot_after u (moments_of (for_caller j new))).0

  abbrev MayBind : (was now : P) → EndId → Halves O I → Type 0
  MayBind was now e h = coming_to new box_now e ≡ true → name_of new.items e ≡ Some (K.out_name h.out) → name_of new.items (other_end e) ≡ Some (K.in_name h.input) → MayJoin K now (Some t) h

  -- halves that might join it before may have done so
  might : (e : EndId) (h : Halves O I) → WasComing box_now old new e → name_of new.items e ≡ Some (K.out_name h.out) → name_of new.items (other_end e) ≡ Some (K.in_name h.input) → Fits K before t.ends.places.items h
  might e h came written read = agrees.binds e h (ap (λ (s : SlotId). coming_to old s.0 e) (sym slot) ∙ came.coming) (sym came.written ∙ written) (sym came.read ∙ read)

  -- an end on its way was so before, or its pair was made since
  came_or_sent : (e : EndId) → coming_to new box_now e ≡ true → WasComing box_now old new e ⊎ IsSent old new e
  came_or_sent e coming = by (cases_lt e.pair.0 (next_pair (control_of old.past)))
    where
      by : (e.pair.0 < next_pair (control_of old.past)) ⊎ (next_pair (control_of old.past) ≤ e.pair.0) → WasComing box_now old new e ⊎ IsSent old new e
      by (inl within) = inl (old_end_came old new o calls had e within box_now coming)
      by (inr since) = inr (record { away = away (for_caller j new) u (one_order_of j new order_now) owned_now.is_open e coming; since = since })

  -- an end on its way to it is the other's own
  module _ (e : EndId) (coming : coming_to new box_now e ≡ true) where
    is_away_now : is_away (place_of c e) ≡ true
    is_away_now = away (for_caller j new) u (one_order_of j new order_now) owned_now.is_open e coming

    its_own : owner_of c e ≡ u
    its_own = mine (for_caller j new) u (one_order_of j new order_now) owned_now.is_open e coming

    not_its : is_end_of o c e ≡ false
    not_its = by (is_end_of o c e) refl
      where
        by : (b : Bool) → is_end_of o c e ≡ b → b ≡ false
        by false is = refl
        by true is = absurd (other (sym (owns new order_now o e is) ∙ its_own))

    reader : place_of c (other_end e) ≡ At Gone → ⊥
    reader gone =
        not_second (has_writer (place_of c e)) (is_away (place_of c e)) (ap (λ (x : EndId). is_out (place_of c x)) (sym (other_twice e)) ∙ other_out c (kept_now new order_now) (other_end e) gone) is_away_now

  asked : WereAsked c (map (λ x. x.0) t.sealed.items)
  asked = asked_still once old new o calls (map (λ x. x.0) t.sealed.items) agrees.asked

  -- ---- the calls left its pipes
  module _ (distinct : AreDistinct K.exact (name_of new.items)) (pipes : LeavesPipes K o new c before behind) where
    not_own : (e : EndId) → owner_of c e ≡ u → (x : EndId) → is_end_of o c x ≡ true → e ≢ x
    not_own e own x its same = other (sym (owns new order_now o x its) ∙ ap (owner_of c) (sym same) ∙ own)

    module _ (e : EndId) (own : owner_of c e ≡ u) where
      no_writer : (n : N) → name_of new.items e ≡ Some n → IsNoneItWrites K o new n
      no_writer n is x w its writes = else_of K new distinct e x n w is writes (not_own e own x its)

      no_reader : (n : N) → name_of new.items (other_end e) ≡ Some n → IsNoneItReads K o new n
      no_reader n is x r its reads = else_of K new distinct (other_end e) (other_end x) n r is reads (across e x (not_own e own x its))

      none_settled : (n : N) → name_of new.items e ≡ Some n → ((x : EndId) → e ≡ other_end x → place_of c x ≡ At Gone → ⊥) → IsNoneItSettled K o new n c
      none_settled n is there_still x r its gone reads = else_of K new distinct e (other_end x) n r is reads (λ same. there_still x same gone)

    -- of an end that it holds
    module _ (k : ℕ) (p : Place N I) (at : place_at t.ends.places.items k ≡ Some p) (held : p.held ≡ true) where
      its : IsHeldBy u (for_caller j new) p
      its = held_by W T K new order_now j before t owned_now k p at held

      of_its : IsOfIts u (for_caller j new) p.end p.written p.read
      of_its = its.its

      own : owner_of c p.end ≡ u
      own = (there (for_caller j new) u (one_order_of j new order_now) owned_now.is_open p.end of_its.its).own

      writes_still : p.writes ≡ true → (x : EndId) → p.end ≡ other_end x → place_of c x ≡ At Gone → ⊥
      writes_still writes x same gone =
          not_first (has_writer (place_of c p.end)) (is_away (place_of c p.end)) (ap (λ (e : EndId). is_out (place_of c e)) same ∙ other_out c (kept_now new order_now) x gone) (its.writes writes)

      carries : Carries K before behind p
      carries = record {
        there_out = λ is writes was. pipes.there p.written was;
        there_in = λ is was. pipes.there p.read was;
        outs = λ is writes x name was.
            pipes.outs x (subst (IsThere K before) (sym name) was) (subst (λ (n : N). IsNoneItWrites K o new n) (sym name) (no_writer p.end own p.written of_its.written))
            (subst (λ (n : N). IsNoneItSettled K o new n c) (sym name) (none_settled p.end own p.written of_its.written (writes_still writes)));
        ins = λ is x name was. pipes.ins x (subst (IsThere K before) (sym name) was) (subst (λ (n : N). IsNoneItReads K o new n) (sym name) (no_reader p.end own p.read of_its.read));
      }

    sound_was : IsSound K before t.ends.rows.items t.ends.places.items
    sound_was = sound_of K before t.ends.rows.items t.ends.places.items owned.stands.fits.sound

    not_held : (p : Place N I) → p.held ≡ false → Carries K before behind p
    not_held p free = record {
      there_out = λ is writes was. pipes.there p.written was;
      there_in = λ is was. pipes.there p.read was;
      outs = λ is. absurd (true≢false (sym is ∙ free));
      ins = λ is. absurd (true≢false (sym is ∙ free));
    }

    carries_all : (k : ℕ) (p : Place N I) → place_at t.ends.places.items k ≡ Some p → (b : Bool) → p.held ≡ b → Carries K before behind p
    carries_all k p at true held = carries k p at held
    carries_all k p at false free = not_held p free

    sound_now : AreSound K behind t.ends.rows.items t.ends.places.items
    sound_now = are_sound K behind t.ends.rows.items t.ends.places.items (record {
      count = sound_was.count;
      stands = λ k p at. carried K before behind (row_at t.ends.rows.items k) p (carries_all k p at p.held refl) p.held p.writes refl refl (sound_was.stands k p at);
      apart = sound_was.apart;
      crossed = sound_was.crossed;
    })

    fits_now : FitsCore K peer_places behind t
    fits_now = (let was = owned.stands.fits in record {
      sound = sound_now;
      peers_are = was.peers_are;
      room = was.room;
      gone = was.gone;
      stopped_is = was.stopped_is;
      flagged = was.flagged;
      in_use = was.in_use;
      settled_are = was.settled_are;
      sealed_are = was.sealed_are;
    })

    owned_left_so : IsOwned K j (moments_of (for_caller j new)) behind t
    owned_left_so = record {
      stands = (let was : IsStanding K before t = owned.stands in record { fits = fits_now; is_open = was.is_open; told = was.told; unsealed = was.unsealed });
      has = owned_now.has;
      held = owned_now.held;
      is_open = owned_now.is_open;
      ends_are = owned_now.ends_are;
      sealed_out = owned_now.sealed_out;
    }

    -- halves that came before may join it still
    joins_came : (e : EndId) (h : Halves O I) → WasComing box_now old new e → MayBind before behind e h
    joins_came e h came coming written read =
        let may = might e h came written read in
        let own = its_own e coming in
        record {
          out_there = pipes.there (K.out_name h.out) may.out_there;
          in_there = pipes.there (K.in_name h.input) may.in_there;
          unsealed = ap (λ (w : Writing). w.sealed) (pipes.outs h.out may.out_there (no_writer e own (K.out_name h.out) written)
              (none_settled e own (K.out_name h.out) written (λ x same gone. reader e coming (ap (place_of c) (ap other_end same ∙ other_twice x) ∙ gone)))) ∙ may.unsealed;
          crossed = may.crossed;
          others = may.others;
        }

  module _ (rest : LeavesRest K o old new before behind) where
    tells : TellsRest K o old new before behind
    tells = rest.rest

    owned_behind : IsOwned K j (moments_of (for_caller j new)) behind t
    owned_behind = owned_left_so rest.named_now.distinct tells.pipes

    unnamed : (e : EndId) → next_pair (control_of old.past) ≤ e.pair.0 → (m : Option N) → name_of old.items e ≡ m → name_of old.items e ≡ None
    unnamed e since None is = is
    unnamed e since (Some m) is = absurd (let made = rest.named.made e m is in omega (arith, made, since))

    bind_so : (e : EndId) (h : Halves O I) → WasComing box_now old new e ⊎ IsSent old new e → MayBind before behind e h
    bind_so e h (inl came) coming written read = joins_came rest.named_now.distinct tells.pipes e h came coming written read
    bind_so e h (inr sent) coming written read =
        joins_by K new order_now rest.named_now.distinct j u owned_now.is_open e h coming written read behind t.ends.places.items
        (λ k p at held. held_by W T K new order_now j behind t owned_behind k p at held)
        (rest.named_now.there e (K.out_name h.out) written) (rest.named_now.there (other_end e) (K.in_name h.input) read)
        (tells.unsealed rest.exact rest.named e (unnamed e sent.since (name_of old.items e) refl) (not_its e coming) (reader e coming) h.out written)

    pub agrees_still : AgreesIn K new j behind t
    agrees_still = record { owned = owned_behind; asked = asked; binds = λ e h coming written read. bind_so e h (came_or_sent e coming) coming written read }

pub others_agree_still : (W T : Type 0) {P N O I : Type 0} (K : Known P O I N) → EndsAreSealedOnce N T → OthersAgreeStill W T K
others_agree_still W T K once o old new before behind rest j t other agrees = agrees_still W T K o old new rest.calls rest.had before behind j t other agrees once rest

pub others_are_kept : (W T : Type 0) {P N O I : Type 0} (K : Known P O I N) → EndsAreSealedOnce N T → OthersAreKept W T K
others_are_kept W T {P} {N} {O} {I} K once o old new before behind rest box =
    let calls : AreCallsOn o old new = rest.calls in
    record {
      sockets = λ k s agrees other. others_agree_still W T K once o old new before behind rest k s other agrees;
      numbers = λ i there. objects_stay old new calls.behind calls.grows calls.before i there;
    }
