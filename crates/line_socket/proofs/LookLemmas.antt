-- A look at an end of a socket, as a run tells it.
use Rattle.std.proofs.Common.{◌≡◌, ◌∙◌, ◌&&◌, ◌||◌, ℕ, zero, suc, Bool, true, false, List, [], ◌∷◌, set, Some, None, refl, sym, ap, subst, if◌then◌else◌, true≢false, arith}
use Rattle.std.specs.List.{list_any}
use Rattle.zq_base.specs.declared.ids.EndId.{EndId}
use Rattle.spec_pattern.specs.PipeStep.{read_through}
use Rattle.spec_control.specs.declared.end.EndState.{EndState}
use Rattle.spec_control.specs.declared.entry.Joining.{Joining}
use Rattle.spec_control.specs.Control.{is_end}
use Rattle.spec_control.specs.Place.{At}
use Rattle.spec_control.specs.Held.{Held}
use Rattle.msg_pipe.specs.Known.{Known}
use Rattle.msg_pipe.specs.Told.{front_step}
use Rattle.msg_pipe.specs.declared.pipes.Front.{Front}
use Rattle.msg_pipe.specs.declared.pipes.Front.TheVariants.{Message, Empty, Delimiter}
use Rattle.end_table.specs.Rows.{table}
use Rattle.end_table.specs.Runs.{DoesAll}
use Rattle.any_sock.specs.declared.any_sock.AnySock.{AnySock}
use Rattle.any_sock.specs.Over.{over, caught_up, left_of, peer_places}
use Rattle.end_table.specs.declared.table.EndTable.{EndTable}
use Rattle.end_table.specs.declared.table.Place.{Place}
use Rattle.end_table.specs.Places.{place_at, held_of, held_in, is_of, writes_of, writes_in, met_of, met_in}
use Rattle.end_table.specs.Looking.{met_after}
use Rattle.end_table.specs.Sound as held
use Rattle.sock_core.specs.declared.sock.SockCore.{SockCore}
use Rattle.sock_core.specs.Has.{state_in}
use Rattle.sock_core.specs.Standing.{standing_joins}
use Rattle.sock_core.proofs.FindLemmas.{same_end}
use Rattle.sock_core.specs.Holding.{LooksHere, KeepsButEnds}
use Rattle.sock_calls.specs.Calls.{FitsCore}
use Rattle.spec_run.specs.OpenSocket.{SockEnd, place_in}
use Rattle.line_socket.specs.View.{end_at, ends_told, pattern_told, open_view}
use Rattle.line_socket.specs.Standing.{IsStanding, IsWhole}
use Rattle.line_socket.specs.Looking.{IsButMet, AreButMet, LooksSo}
use Rattle.line_socket.proofs.ViewLemmas.{opens_are}

pub front_of : (b c : Bool) → b && c ≡ true → b ≡ true
front_of true c h = refl
front_of false c h = absurd (true≢false (sym h))

pub back_of : (b c : Bool) → b && c ≡ true → c ≡ true
back_of true c h = h
back_of false c h = absurd (true≢false (sym h))

both_of : (b c : Bool) → b ≡ true → c ≡ true → b && c ≡ true
both_of true c hb hc = hc
both_of false c hb hc = absurd (true≢false (sym hb))

pub or_left : (b c : Bool) → b ≡ true → b || c ≡ true
or_left true c h = refl
or_left false c h = absurd (true≢false (sym h))

or_more : (b b' c c' : Bool) → (b ≡ true → b' ≡ true) → (c ≡ true → c' ≡ true) → b || c ≡ true → b' || c' ≡ true
or_more true b' c c' f g h = or_left b' c' (f refl)
or_more false true c c' f g h = refl
or_more false false c c' f g h = g h

module _ {N I : Type 0} where
  -- ---- one place

  met_so : (p : Place N I) (b : Bool) → (p.met ≡ true → b ≡ true) → IsButMet p (record p { met = b })
  met_so p b f = record { same = refl; still = f }

  as_is : (p : Place N I) → IsButMet p p
  as_is p = record { same = refl; still = λ m. m }

  module _ (p q : Place N I) (is : IsButMet p q) where
    pub end_so : q.end ≡ p.end
    end_so = ap (λ (y : Place N I). y.end) is.same

    pub held_so : q.held ≡ p.held
    held_so = ap (λ (y : Place N I). y.held) is.same

    pub writes_so : q.writes ≡ p.writes
    writes_so = ap (λ (y : Place N I). y.writes) is.same

    pub sealed_so : q.sealed ≡ p.sealed
    sealed_so = ap (λ (y : Place N I). y.sealed) is.same

    pub state_so : q.state ≡ p.state
    state_so = ap (λ (y : Place N I). y.state) is.same

    pub named_so : held_of q ≡ held_of p
    named_so = ap (λ (y : Place N I). held_of y) is.same

    is_of_so : (e : EndId) → is_of e q ≡ is_of e p
    is_of_so e = ap (λ (y : Place N I). is_of e y) is.same

    writes_of_so : (e : EndId) → writes_of e q ≡ writes_of e p
    writes_of_so e = ap (λ (y : Place N I). writes_of e y) is.same

    met_of_so : (e : EndId) → met_of e p ≡ true → met_of e q ≡ true
    met_of_so e h = both_of q.met (is_of e q) (is.still (front_of p.met (is_of e p) h)) (is_of_so e ∙ back_of p.met (is_of e p) h)

  -- ---- all of them

  all_as_is : (ps : List (Place N I)) → AreButMet ps ps
  all_as_is [] = tt
  all_as_is (p ∷ ps) = (as_is p, all_as_is ps)

  some_eq : {x y : Place N I} → Some x ≡ Some y → x ≡ y
  some_eq e = Prim.grind arith

  -- one end is at its delimiter
  pub met_set : (ps : List (Place N I)) (k : ℕ) (p : Place N I) (b : Bool) → place_at ps k ≡ Some p → (p.met ≡ true → b ≡ true) → AreButMet ps (set ps k (record p { met = b }))
  met_set [] k p b at f = absurd (none_some at) where
    none_some : {x : Place N I} → None ≡ Some x → ⊥
    none_some e = Prim.grind arith
  met_set (x ∷ xs) zero p b at f = (subst (λ (y : Place N I). IsButMet y (record p { met = b })) (sym (some_eq at)) (met_so p b f), all_as_is xs)
  met_set (x ∷ xs) (suc k) p b at f = (as_is x, met_set xs k p b at f)

  pub held_met : (ps qs : List (Place N I)) → AreButMet ps qs → held_in qs ≡ held_in ps
  held_met [] [] are = refl
  held_met [] (q ∷ qs) are = absurd are
  held_met (p ∷ ps) [] are = absurd are
  held_met (p ∷ ps) (q ∷ qs) are =
      ap (λ (b : Bool). if b then held_of q ∷ held_in qs else held_in qs) (held_so p q are.0)
      ∙ ap (λ (x : Held N). if p.held then x ∷ held_in qs else held_in qs) (named_so p q are.0)
      ∙ ap (λ (l : List (Held N)). if p.held then held_of p ∷ l else l) (held_met ps qs are.1)

  pub writes_met : (ps qs : List (Place N I)) (e : EndId) → AreButMet ps qs → writes_in qs e ≡ writes_in ps e
  writes_met [] [] e are = refl
  writes_met [] (q ∷ qs) e are = absurd are
  writes_met (p ∷ ps) [] e are = absurd are
  writes_met (p ∷ ps) (q ∷ qs) e are =
      ap (λ (b : Bool). b || list_any (writes_of e) qs) (writes_of_so p q are.0 e) ∙ ap (λ (b : Bool). writes_of e p || b) (writes_met ps qs e are.1)

  pub met_met : (ps qs : List (Place N I)) (e : EndId) → AreButMet ps qs → met_in ps e ≡ true → met_in qs e ≡ true
  met_met [] [] e are h = h
  met_met [] (q ∷ qs) e are h = absurd are
  met_met (p ∷ ps) [] e are h = absurd are
  met_met (p ∷ ps) (q ∷ qs) e are h = or_more (met_of e p) (met_of e q) (met_in ps e) (met_in qs e) (met_of_so p q are.0 e) (met_met ps qs e are.1) h

  pub state_met : (ps qs : List (Place N I)) (e : EndId) → AreButMet ps qs → state_in qs e ≡ state_in ps e
  state_met [] [] e are = refl
  state_met [] (q ∷ qs) e are = absurd are
  state_met (p ∷ ps) [] e are = absurd are
  state_met (p ∷ ps) (q ∷ qs) e are =
      ap (λ (b : Bool). if b then q.state else state_in qs e) (is_of_so p q are.0 e)
      ∙ ap (λ (x : EndState). if is_of e p then x else state_in qs e) (state_so p q are.0)
      ∙ ap (λ (x : EndState). if is_of e p then p.state else x) (state_met ps qs e are.1)

  end_met : (ps qs : List (Place N I)) → AreButMet ps qs → (k : ℕ) → end_at qs k ≡ end_at ps k
  end_met [] [] are k = refl
  end_met [] (q ∷ qs) are k = absurd are
  end_met (p ∷ ps) [] are k = absurd are
  end_met (p ∷ ps) (q ∷ qs) are zero = end_so p q are.0
  end_met (p ∷ ps) (q ∷ qs) are (suc k) = end_met ps qs are.1 k

  ends_met : (ps qs : List (Place N I)) → AreButMet ps qs → end_at qs ≡ end_at ps
  ends_met ps qs are = λ i k. end_met ps qs are k i

  pub told_met : (js : List (Joining N)) (ps qs : List (Place N I)) → AreButMet ps qs → ends_told js qs ≡ ends_told js ps
  told_met [] ps qs are = refl
  told_met (j ∷ js) ps qs are =
      ap (λ (x : EndState). let e : SockEnd = record { end = j.end; place = At x } in e ∷ ends_told js qs) (state_met ps qs j.end are)
      ∙ ap (λ (l : List SockEnd). let e : SockEnd = record { end = j.end; place = At (state_in ps j.end) } in e ∷ l) (told_met js ps qs are)

  -- what stands at a place stood there
  pub place_met : (ps qs : List (Place N I)) → AreButMet ps qs → (k : ℕ) (q : Place N I) → place_at qs k ≡ Some q → (p : Place N I) × (place_at ps k ≡ Some p) × IsButMet p q
  place_met [] [] are k q at = absurd (none_some at) where
    none_some : {x : Place N I} → None ≡ Some x → ⊥
    none_some e = Prim.grind arith
  place_met [] (y ∷ ys) are k q at = absurd are
  place_met (x ∷ xs) [] are k q at = absurd are
  place_met (x ∷ xs) (y ∷ ys) are zero q at = (x, refl, subst (IsButMet x) (some_eq at) are.0)
  place_met (x ∷ xs) (y ∷ ys) are (suc k) q at = place_met xs ys are.1 k q at

  -- the end at a place has met its delimiter
  pub met_there : (ps : List (Place N I)) (k : ℕ) (p : Place N I) (e : EndId) → place_at ps k ≡ Some p → is_of e p ≡ true → met_in (set ps k (record p { met = true })) e ≡ true
  met_there [] k p e at is = absurd (none_some at) where
    none_some : {x : Place N I} → None ≡ Some x → ⊥
    none_some e = Prim.grind arith
  met_there (x ∷ xs) zero p e at is = or_left (is_of e p) (met_in xs e) is
  met_there (x ∷ xs) (suc k) p e at is = or_second (met_of e x) _ (met_there xs k p e at is) where
    or_second : (b c : Bool) → c ≡ true → b || c ≡ true
    or_second true c h = refl
    or_second false c h = h

met_after_still : (found : Front) (b : Bool) → b ≡ true → met_after found b ≡ true
met_after_still Message b h = h
met_after_still Empty b h = h
met_after_still Delimiter b h = refl

-- another state of its ends leaves all else of a socket
pub keeps_but : {W N O I : Type 0} (s : SockCore AnySock W N O I) (ends : EndTable N O I) → KeepsButEnds s (record s { ends = ends })
keeps_but s ends = record { number = refl; is_open = refl; stopped = refl; reads = refl; kind = refl; waker = refl; room = refl; turns = refl; sealed = refl; joins = refl; heard = refl; way = refl }

module _ {W N O I S : Type 0} (K : Known S O I N) (p q : S) (s t : SockCore AnySock W N O I) where
  module _ (e : EndId) (found : Front) (looks : LooksHere K e found p s.ends q t.ends) (rest : KeepsButEnds s t) where
    pub places_met : AreButMet s.ends.places.items t.ends.places.items
    places_met = subst (λ (l : List (Place N I)). AreButMet s.ends.places.items l) (sym looks.looks.now)
        (met_set s.ends.places.items looks.place looks.looks.place (met_after found looks.looks.place.met) looks.looks.there (met_after_still found looks.looks.place.met))

    -- it is the place of this end
    place_is : is_of e looks.looks.place ≡ true
    place_is = subst (λ (x : Place N I). is_of e x ≡ true) (some_eq (sym looks.is_held.there ∙ looks.looks.there)) looks.is_held.is

    end_is : e ≡ looks.looks.place.end
    end_is = same_end e looks.looks.place.end (back_of looks.looks.place.held (is_end e looks.looks.place.end) place_is)

    pub looks_so : LooksSo K e found p (Some s) q (Some t)
    looks_so = record {
      does = subst (λ (x : EndId). DoesAll K (table p s.ends.rows.items) (front_step (read_through x) found ∷ []) (table q t.ends.rows.items)) (sym end_is) looks.looks.does;
      places = places_met;
      met = λ is. subst (λ (l : List (Place N I)). met_in l e ≡ true) (sym (looks.looks.now ∙ ap (λ (f : Front). set s.ends.places.items looks.place (record looks.looks.place { met = met_after f looks.looks.place.met })) is))
          (met_there s.ends.places.items looks.place looks.looks.place e looks.looks.there place_is);
      rest = rest;
    }

    ends_so : ends_told (standing_joins t.joins.items) t.ends.places.items ≡ ends_told (standing_joins s.joins.items) s.ends.places.items
    ends_so = told_met (standing_joins t.joins.items) s.ends.places.items t.ends.places.items places_met ∙ ap (λ v. ends_told (standing_joins v.items) s.ends.places.items) rest.joins

    pub view_met : (slot : ℕ) → open_view slot (Some t) ≡ open_view slot (Some s)
    view_met slot = opens_are t.number.0 s.number.0 slot t.stopped s.stopped (pattern_told t) (pattern_told s) _ _ (ap (λ n. n.0) rest.number) rest.stopped
        (ap (λ (f : ℕ → EndId). over f (caught_up f t.kind)) (ends_met s.ends.places.items t.ends.places.items places_met) ∙ ap (λ (k : AnySock). over (end_at s.ends.places.items) (caught_up (end_at s.ends.places.items) k)) rest.kind)
        ends_so

    pub whole_met : IsWhole (Some s) → IsWhole (Some t)
    whole_met whole = ap left_of rest.kind ∙ whole

    pub stands_met : IsStanding K p s → FitsCore K peer_places q t → IsStanding K q t
    stands_met stands fits = record {
      fits = fits;
      is_open = rest.is_open ∙ stands.is_open;
      told = λ k y at h.
          let o = place_met s.ends.places.items t.ends.places.items places_met k y at in
          ap (λ l. place_in l y.end) ends_so ∙ ap (place_in (ends_told (standing_joins s.joins.items) s.ends.places.items)) (end_so o.0 y o.2) ∙ stands.told k o.0 o.1 (sym (held_so o.0 y o.2) ∙ h) ∙ ap At (sym (state_so o.0 y o.2));
      unsealed = λ k y at h active.
          let o = place_met s.ends.places.items t.ends.places.items places_met k y at in
          sealed_so o.0 y o.2 ∙ stands.unsealed k o.0 o.1 (sym (held_so o.0 y o.2) ∙ h) (ap held.is_active (sym (state_so o.0 y o.2)) ∙ active);
    }
