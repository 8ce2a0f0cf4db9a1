-- That all pairs that a bind has drawn are made, one after the other.
use Rattle.std.specs.Prelude.{◌≡◌, ◌<◌, ◌≤◌, ◌+◌, ◌==◌, ◌++◌, ◌∷◌, [], ℕ, Bool, true, false, cond, List, Option, Some, All, length, map, slice_index_or, refl}
use Rattle.std.proofs.Common.{arith, sym, ap, ◌∙◌, subst}
use Rattle.std.proofs.lemmas.List.{append-nil, append_assoc, map-append}
use Rattle.std.proofs.lemmas.List.Elements.{All-cons, All-head, All-nil, All-push, All-tail}
use Rattle.zq_base.specs.declared.endpoint.Endpoint.{Endpoint}
use Rattle.zq_base.specs.declared.ids.EndId.{EndId}
use Rattle.zq_base.specs.declared.ids.ObjId.{ObjId}
use Rattle.spec_control.specs.Rows.{PairRow}
use Rattle.spec_control.specs.declared.end.EndState.{EndState}
use Rattle.spec_control.specs.Place.{Place, At, Unmade}
use Rattle.spec_control.specs.Control.{Control, end_of, next_pair, place_of}
use Rattle.desk.specs.declared.load.Load.{Load}
use Rattle.desk.specs.Holding.{Holding, Stays, has_end}
use Rattle.desk.specs.Turns.{TurnsBy, turn_at, turned_over}
use Rattle.ctl_moves.specs.Turning.{PutsLoaded}
use Rattle.ctl_moves.proofs.MailLemmas.{puts_not, puts_on}
use Rattle.ctl_moves.proofs.TurnLemmas.{turned_not}
use Rattle.ctl_moves.proofs.TurnedLemmas.{over_append, turns_on, turns_same}
use Rattle.ctl_state.specs.declared.state.State.{State}
use Rattle.ctl_state.specs.Lists.{belongings_at}
use Rattle.ctl_state.specs.Stands.{Stands}
use Rattle.ctl_moves.proofs.JoinedLemmas.{stay_same}
use Rattle.ctl_moves.specs.declared.batch.Drawn.{Drawn}
use Rattle.ctl_moves.specs.Batch.{AreNames, first_of}
use Rattle.ctl_moves.specs.Pairing.{CanJoin, JoinsAll, JoinsNext, MayJoinNext, MovesAll, fulfilled, fulfilled_all}
use Rattle.ctl_moves.proofs.FulfilLemmas.{AreMade, made_next, one_made}
use Rattle.ctl_moves.proofs.TakenLemmas.{pair_other}

-- a list of no length
pub nothing_left : {X : Type 0} (xs : List X) → length xs ≡ 0 → xs ≡ []
nothing_left [] none = refl
nothing_left (x ∷ xs) none = absurd (some none)
  where
    some : length (x ∷ xs) ≡ 0 → ⊥
    some h = omega (arith, h)

module _ {N : Type 0} where
  stays_on : (o : ℕ) (h m k : Holding N) → Stays o h m → Stays o m k → Stays o h k
  stays_on o h m k first last = record {
    now = record {
      ends = last.now.ends ∙ first.now.ends;
      others = λ i other. last.now.others i other ∙ first.now.others i other;
      objects = λ i. last.now.objects i ∙ first.now.objects i;
      kinds = λ i. last.now.kinds i ∙ first.now.kinds i;
      output = λ i. last.now.output i ∙ first.now.output i;
      delimiters = λ i e here at. last.now.delimiters i e here (first.now.delimiters i e (sym (ap (has_end e) (stay_same o m k last i)) ∙ here) at);
    };
    writers = λ e. last.writers e ∙ first.writers e;
  }

-- ends that stay are told the same
over_made : {N O I : Type 0} (c d : Control) (ds : List (Drawn N O I)) → All (λ (x : Drawn N O I). place_of d (first_of x) ≡ place_of c (first_of x)) ds →
    turned_over (λ e. Unmade) (place_of c) (map first_of ds) ≡ turned_over (λ e. Unmade) (place_of d) (map first_of ds)
over_made c d [] same = refl
over_made c d (x ∷ ds) same =
    ap (λ (p : Place). turn_at (first_of x) Unmade p ++ turned_over (λ e. Unmade) (place_of c) (map first_of ds)) (sym (All-head (λ (y : Drawn _ _ _). place_of d (first_of y) ≡ place_of c (first_of y)) x ds same))
    ∙ ap (λ (ts : List (EndId × EndState)). turn_at (first_of x) Unmade (place_of d (first_of x)) ++ ts) (over_made c d ds (All-tail (λ (y : Drawn _ _ _). place_of d (first_of y) ≡ place_of c (first_of y)) x ds same))

module _ {N O I : Type 0} (out_name : O → N) (in_name : I → N) where
  -- some are made, and these are left
  pub record JoinsSoFar (at : Endpoint) (i : ObjId) (ds rest : List (Drawn N O I)) (s t : State (Load N O I)) (h k : Holding N) (c : Control) : Type 0 where
    pub control : Control
    pub can : CanJoin out_name in_name control t k i rest
    pub leads : fulfilled_all at rest control ≡ fulfilled_all at ds c
    pub stays : Stays i.0 h k
    pub puts : (names : EndId → Option N) → AreNames names ds → PutsLoaded out_name in_name names s.boxes t.boxes × AreNames names rest
    pub done : List (Drawn N O I)
    pub parts : ds ≡ done ++ rest
    pub more : next_pair c ≤ next_pair control
    pub moved : MovesAll (next_pair c) control done h k
    pub here : All (λ d. has_end (first_of d) (k.ends i.0) ≡ true) done
    pub within : All (λ d. d.pair.0 < next_pair control) done
    pub places : (j : ℕ) → (belongings_at s.objects.lists j).ends.spare + cond (i.0 == j) (length rest) 0 ≤ (belongings_at t.objects.lists j).ends.spare + cond (i.0 == j) (length ds) 0

  module _ (at : Endpoint) (i : ObjId) (ds : List (Drawn N O I)) (s : State (Load N O I)) (h : Holding N) (c : Control) where
    pub none_joined : CanJoin out_name in_name c s h i ds → JoinsSoFar at i ds ds s s h h c
    none_joined can = record {
      control = c;
      can = can;
      leads = refl;
      stays = record { now = (turned_not i.0 (end_of 0 true) h).now; writers = λ e. refl };
      puts = λ names named. (puts_not out_name in_name names s.boxes s.boxes refl, named);
      done = [];
      parts = refl;
      more = omega arith;
      moved = record { mine = All-nil (λ (d : Drawn N O I). place_of c (first_of d) ≡ At (h.state (first_of d))); others = λ j e less here. refl; turned = turns_same h; joined = refl; heard = refl };
      here = All-nil (λ (d : Drawn N O I). has_end (first_of d) (h.ends i.0) ≡ true);
      within = All-nil (λ (d : Drawn N O I). d.pair.0 < next_pair c);
      places = λ j. omega arith;
    }

    module _ (d : Drawn N O I) (rest : List (Drawn N O I)) (t : State (Load N O I)) (k : Holding N) (so_far : JoinsSoFar at i ds (d ∷ rest) s t h k c) where
      abbrev pub may_join_next : MayJoinNext out_name in_name t k i d
      may_join_next = record { control = so_far.control; rest = rest; can = so_far.can }

      pub one_joined : (u : State (Load N O I)) (l : Holding N) → JoinsNext out_name in_name at so_far.control i d rest t u k l → JoinsSoFar at i ds rest s u h l c
      one_joined u l next = record {
        control = fulfilled at d so_far.control;
        can = next.can;
        leads = so_far.leads;
        stays = stays_on i.0 h k l so_far.stays next.joins.stays;
        puts = λ names named.
            (let before = so_far.puts names named in
            let P : Drawn N O I → Type 0 = λ x. (names (end_of x.pair.0 true) ≡ Some x.other.written) × (names (first_of x) ≡ Some x.other.read) in
            (puts_on out_name in_name names s.boxes t.boxes u.boxes before.0 (next.joins.puts names (All-cons P d [] (All-head P d rest before.1) (All-nil P))), All-tail P d rest before.1));
        done = so_far.done ++ d ∷ [];
        parts = so_far.parts ∙ sym (append_assoc so_far.done (d ∷ []) rest);
        more = (let past = so_far.more in let one = next_is in omega (arith, past, one));
        moved = record {
          mine = All-push (λ (x : Drawn N O I). place_of now (first_of x) ≡ At (l.state (first_of x))) so_far.done d
              (λ j y lt.
              let x : Drawn N O I = slice_index_or so_far.done j y in
              stay j y lt ∙ so_far.moved.mine j y lt
              ∙ ap At (sym (next.moves.others i.0 (first_of x) (here_now j y lt) (pair_other (first_of x) first (let less = so_far.within j y lt in let number = is_next in omega (arith, less, number)))))) next.moves.mine;
          others = λ j e less here.
              next.moves.others j e here (pair_other e first (let past = so_far.more in let number = is_next in omega (arith, less, past, number)))
              ∙ so_far.moved.others j e less (sym (ap (has_end e) (stay_same i.0 k l next.joins.stays j)) ∙ here);
          turned = subst (λ (ts : List (EndId × EndState)). TurnsBy ts h l) turns_are
              (turns_on (turned_over (λ e. Unmade) (place_of so_far.control) (map first_of so_far.done)) (turn_at first Unmade (place_of now first)) h k l so_far.moved.turned next.moves.turned);
          joined = next.moves.joined ∙ so_far.moved.joined;
          heard = next.moves.heard ∙ so_far.moved.heard;
        };
        here = All-push (λ (x : Drawn N O I). has_end (first_of x) (l.ends i.0) ≡ true) so_far.done d here_now
            (ap (has_end first) next.joins.stays.now.ends ∙ All-head (λ (x : Drawn N O I). has_end (first_of x) (k.ends i.0) ≡ true) d rest so_far.can.has);
        within = All-push (λ (x : Drawn N O I). x.pair.0 < next_pair now) so_far.done d (λ j y lt. let less = so_far.within j y lt in let one = next_is in omega (arith, less, one)) (let one = next_is in let number = is_next in omega (arith, one, number));
        places = λ j. (let before = so_far.places j in let one = next.joins.places j in let more = by_one (i.0 == j) in omega (arith, before, one, more));
      }
        where
          now : Control
          now = fulfilled at d so_far.control

          first : EndId
          first = first_of d

          is_next : d.pair.0 ≡ next_pair so_far.control
          is_next = so_far.can.numbers.0

          next_is : next_pair (fulfilled at d so_far.control) ≡ next_pair so_far.control + 1
          next_is = made_next at so_far.control d so_far.can.numbers.0

          made : AreMade so_far.control (fulfilled at d so_far.control) i.0 (d ∷ [])
          made =
              one_made at so_far.control d so_far.can.numbers.0 i.0 (ap (λ (x : ObjId). x.0) (All-head (λ (x : Drawn N O I). x.o.first ≡ i) d rest so_far.can.owners)) so_far.can.unasked
              (so_far.can.unstruck (first_of d) (let number = is_next in omega (arith, number)))

          -- those that were made before stay where they are
          stay : All (λ (x : Drawn N O I). place_of (fulfilled at d so_far.control) (first_of x) ≡ place_of so_far.control (first_of x)) so_far.done
          stay = λ j y lt. made.attaches.places (first_of (slice_index_or so_far.done j y)) (so_far.within j y lt)

          here_now : All (λ (x : Drawn N O I). has_end (first_of x) (l.ends i.0) ≡ true) so_far.done
          here_now = λ j y lt. ap (has_end (first_of (slice_index_or so_far.done j y))) next.joins.stays.now.ends ∙ so_far.here j y lt

          turns_are : turned_over (λ e. Unmade) (place_of so_far.control) (map first_of so_far.done) ++ turn_at (first_of d) Unmade (place_of (fulfilled at d so_far.control) (first_of d)) ≡
              turned_over (λ e. Unmade) (place_of (fulfilled at d so_far.control)) (map first_of (so_far.done ++ d ∷ []))
          turns_are =
              ap (λ (ts : List (EndId × EndState)). ts ++ turn_at first Unmade (place_of now first)) (over_made so_far.control now so_far.done stay)
              ∙ ap (λ (ts : List (EndId × EndState)). turned_over (λ e. Unmade) (place_of now) (map first_of so_far.done) ++ ts) (sym (append-nil (turn_at first Unmade (place_of now first))))
              ∙ sym (over_append (λ e. Unmade) (place_of now) (map first_of so_far.done) (first ∷ []))
              ∙ ap (turned_over (λ e. Unmade) (place_of now)) (sym (map-append first_of so_far.done (d ∷ [])))

          by_one : (b : Bool) → ◌≡◌ {A = ℕ} (cond b (length (d ∷ rest)) 0) (cond b 1 0 + cond b (length rest) 0)
          by_one true = omega arith
          by_one false = omega arith

    module _ (t : State (Load N O I)) (k : Holding N) (so_far : JoinsSoFar at i ds [] s t h k c) where
      pub all_stand : Stands t (fulfilled_all at ds c)
      all_stand =
          subst (λ (x : Control). Stands t x) so_far.leads
          (subst (λ (ps : List PairRow). Stands t (record so_far.control { rows = record so_far.control.rows { pairs = ps } })) (append-nil so_far.control.rows.pairs) so_far.can.stands)

      pub all_moved : MovesAll (next_pair c) (fulfilled_all at ds c) ds h k
      all_moved =
          subst (λ (x : Control). MovesAll (next_pair c) x ds h k) so_far.leads
          (subst (λ (xs : List (Drawn N O I)). MovesAll (next_pair c) so_far.control xs h k) (sym (so_far.parts ∙ append-nil so_far.done)) so_far.moved)

      pub all_joined : JoinsAll out_name in_name i.0 ds s t h k
      all_joined = record {
        stays = so_far.stays;
        puts = λ names named. (so_far.puts names named).0;
        places = λ j. (let all = so_far.places j in omega (arith, all));
      }
