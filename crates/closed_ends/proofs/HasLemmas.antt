-- What the control plane is told of closed sockets once one of their ends changed or is gone.
use Rattle.std.proofs.Common.{◌≡◌, ◌&&◌, ◌||◌, ◌∙◌, ℕ, Bool, true, false, List, [], ◌∷◌, ◌++◌, All, map, Some, refl, sym, ap, subst, if◌then◌else◌}
use Rattle.std.specs.Prelude.{is_some}
use Rattle.std.specs.List.{list_any}
use Rattle.std.proofs.lemmas.List.Elements.{All-cons, All-head, All-tail}
use Rattle.zq_base.specs.declared.ids.EndId.{EndId}
use Rattle.spec_control.specs.declared.end.EndState.{EndState}
use Rattle.spec_control.specs.Control.{is_end}
use Rattle.spec_control.specs.Held.{Held}
use Rattle.desk.specs.declared.given.Given.{Given}
use Rattle.desk.specs.declared.notice.Notice.{Notice}
use Rattle.desk.specs.Holding.{HoldsNow, Stays, Left, Yielded, KeepsTurns, TurnsTo, Seals, BeginsNone, has_end, held_given, is_state, written_in, read_in, without_end}
use Rattle.desk.specs.TakingOver.{AllTwo}
use Rattle.sock_core.proofs.FindLemmas.{same_end}
use Rattle.closed_ends.specs.declared.sockets.ClosedSocket.{ClosedSocket}
use Rattle.closed_ends.specs.Has.{all_ends, ends_of, is_of, writes_of, met_of, input_in, state_in, has, Heard}
use Rattle.closed_ends.proofs.ListLemmas.{never, and_false, any_same, any_without, any_grows, skipped, none_any, all_both, all_front, all_back}
use Rattle.closed_ends.proofs.ChangeLemmas.{Replaces, apart_from, same_held, none_is, without, has_listed, input_here, state_here, state_same, state_else, state_without, among}

module _ {N O I : Type 0} (out_name : O → N) (in_name : I → N) (exact : Bool) (o : ℕ) (e : EndId) (ss ts : List (ClosedSocket N O I)) (g : Given N O I)
    (apart : AllTwo exact (map (held_given out_name in_name) (all_ends ss))) where
  abbrev Changed : List (Given N O I) → Type 0
  Changed rs = Replaces o e g rs ss ts

  module _ (rs : List (Given N O I)) (r : Replaces o e g rs ss ts) where
    none : All (λ x. is_of e x ≡ false) ((r.pre ++ r.front) ++ (r.back ++ r.post))
    none =
        none_is out_name in_name exact e g ((r.pre ++ r.front) ++ (r.back ++ r.post)) r.is
        (apart_from out_name in_name exact (r.pre ++ r.front) (r.back ++ r.post) g (subst (λ l. AllTwo exact (map (held_given out_name in_name) l)) r.was apart))

    none_before : All (λ x. is_of e x ≡ false) (r.pre ++ r.front)
    none_before = all_front (λ x. is_of e x ≡ false) (r.pre ++ r.front) (r.back ++ r.post) none

    none_behind : All (λ x. is_of e x ≡ false) (r.back ++ r.post)
    none_behind = all_back (λ x. is_of e x ≡ false) (r.pre ++ r.front) (r.back ++ r.post) none

    none_front : All (λ x. is_of e x ≡ false) r.front
    none_front = all_back (λ x. is_of e x ≡ false) r.pre r.front none_before

    none_back : All (λ x. is_of e x ≡ false) r.back
    none_back = all_front (λ x. is_of e x ≡ false) r.back r.post none_behind

    same_is : e ≡ g.end
    same_is = same_end e g.end r.is

    -- it is how far the end is
    pub state_is : state_in (all_ends ss) e ≡ g.state
    state_is = ap (λ l. state_in l e) r.was ∙ state_here e (r.pre ++ r.front) (r.back ++ r.post) g none_before r.is

    -- and its reading half
    pub input_is : input_in (all_ends ss) e ≡ Some g.input
    input_is = ap (λ l. input_in l e) r.was ∙ input_here e (r.pre ++ r.front) (r.back ++ r.post) g none_before r.is

    -- what is said of it
    flag : (f : Given N O I → Bool) (x : Given N O I) → is_of e x ≡ false → (f x && is_of e x) ≡ false
    flag f x off = ap (λ (b : Bool). f x && b) off ∙ by (f x)
      where
        by : (b : Bool) → (b && false) ≡ false
        by true = refl
        by false = refl

    none_flag : (f : Given N O I → Bool) (xs : List (Given N O I)) → All (λ x. is_of e x ≡ false) xs → All (λ x. (f x && is_of e x) ≡ false) xs
    none_flag f xs off = λ k d lt. flag f _ (off k d lt)

    flag_here : (f : Given N O I → Bool) (behind : List (Given N O I)) → All (λ x. is_of e x ≡ false) behind → list_any (λ x. f x && is_of e x) (g ∷ behind) ≡ f g
    flag_here f behind offb =
        ap (λ (b : Bool). (f g && b) || list_any (λ x. f x && is_of e x) behind) r.is
        ∙ ap (λ (b : Bool). (f g && true) || b) (none_any (λ x. f x && is_of e x) behind (none_flag f behind offb)) ∙ by (f g)
      where
        by : (b : Bool) → ((b && true) || false) ≡ b
        by true = refl
        by false = refl

    flag_at : (f : Given N O I → Bool) (before behind : List (Given N O I)) → All (λ x. is_of e x ≡ false) before → All (λ x. is_of e x ≡ false) behind → list_any (λ x. f x && is_of e x) (before ++ g ∷ behind) ≡ f g
    flag_at f before behind off offb = skipped (λ x. f x && is_of e x) before (g ∷ behind) (none_flag f before off) ∙ flag_here f behind offb

    pub writes_is : list_any (writes_of e) (all_ends ss) ≡ is_some g.out
    writes_is = ap (list_any (writes_of e)) r.was ∙ flag_at (λ x. is_some x.out) (r.pre ++ r.front) (r.back ++ r.post) none_before none_behind

    pub met_is : list_any (met_of e) (all_ends ss) ≡ g.met
    met_is = ap (list_any (met_of e)) r.was ∙ flag_at (λ x. x.met) (r.pre ++ r.front) (r.back ++ r.post) none_before none_behind

    -- the names of its pipes
    pub written_is : written_in (map (held_given out_name in_name) (ends_of ss o)) e ≡ Some g.written
    written_is = ap (λ l. written_in (map (held_given out_name in_name) l) e) r.own_was ∙ at r.front none_front
      where
        at : (xs : List (Given N O I)) → All (λ x. is_of e x ≡ false) xs → written_in (map (held_given out_name in_name) (xs ++ g ∷ r.back)) e ≡ Some g.written
        at [] nones = ap (λ (b : Bool). if b then Some g.written else written_in (map (held_given out_name in_name) r.back) e) r.is
        at (x ∷ xs) nones =
            ap (λ (b : Bool). if b then Some x.written else written_in (map (held_given out_name in_name) (xs ++ g ∷ r.back)) e) (All-head (λ y. is_of e y ≡ false) x xs nones)
            ∙ at xs (All-tail (λ y. is_of e y ≡ false) x xs nones)

    pub read_is : read_in (map (held_given out_name in_name) (ends_of ss o)) e ≡ Some (in_name g.input)
    read_is = ap (λ l. read_in (map (held_given out_name in_name) l) e) r.own_was ∙ at r.front none_front
      where
        at : (xs : List (Given N O I)) → All (λ x. is_of e x ≡ false) xs → read_in (map (held_given out_name in_name) (xs ++ g ∷ r.back)) e ≡ Some (in_name g.input)
        at [] nones = ap (λ (b : Bool). if b then Some (in_name g.input) else read_in (map (held_given out_name in_name) r.back) e) r.is
        at (x ∷ xs) nones =
            ap (λ (b : Bool). if b then Some (in_name x.input) else read_in (map (held_given out_name in_name) (xs ++ g ∷ r.back)) e) (All-head (λ y. is_of e y ≡ false) x xs nones)
            ∙ at xs (All-tail (λ y. is_of e y ≡ false) x xs nones)

  -- ---- one end changed

  module _ (k : Given N O I) (r : Replaces o e g (k ∷ []) ss ts) (held : held_given out_name in_name k ≡ held_given out_name in_name g) where
    is_same : (d : EndId) → is_of d k ≡ is_of d g
    is_same d = ap (λ (x : Held N). is_end d x.end) held

    -- its reading half now
    pub input_now : input_in (all_ends ts) e ≡ Some k.input
    input_now = ap (λ l. input_in l e) r.now ∙ input_here e (r.pre ++ r.front) (r.back ++ r.post) k (none_before (k ∷ []) r) (is_same e ∙ r.is)

    ends_now : map (held_given out_name in_name) (ends_of ts o) ≡ map (held_given out_name in_name) (ends_of ss o)
    ends_now = ap (map (held_given out_name in_name)) r.own_now ∙ same_held out_name in_name exact r.front r.back g k held ∙ sym (ap (map (held_given out_name in_name)) r.own_was)

    module _ (turns turns' : List (EndId × EndState)) (sealed sealed' : List EndId) (heard : Heard N) where
      holds_now : (g.met ≡ true → k.met ≡ true) → HoldsNow o (map (held_given out_name in_name) (ends_of ss o)) (has out_name in_name turns sealed heard ss) (has out_name in_name turns' sealed' heard ts)
      holds_now met = record {
        ends = ends_now;
        others = λ i ne. ap (map (held_given out_name in_name)) (r.others i ne);
        objects = r.holds;
        kinds = λ i. refl;
        output = λ i. refl;
        delimiters = λ i d here at.
            ap (list_any (met_of d)) r.now
            ∙ any_grows (met_of d) (r.pre ++ r.front) (r.back ++ r.post) g k (both d) (sym (ap (list_any (met_of d)) r.was) ∙ at);
      }
        where
          both : (d : EndId) → (g.met && is_of d g) ≡ true → (k.met && is_of d k) ≡ true
          both d h = by g.met k.met (is_of d g) (is_of d k) met (is_same d) h
            where
              by : (a b c x : Bool) → (a ≡ true → b ≡ true) → x ≡ c → (a && c) ≡ true → (b && x) ≡ true
              by true true c x more same i = same ∙ i
              by true false c x more same i = never (sym (more refl))
              by false b c x more same i = never (sym i)

      pub stays : (g.met ≡ true → k.met ≡ true) → is_some k.out ≡ is_some g.out → Stays o (has out_name in_name turns sealed heard ss) (has out_name in_name turns' sealed' heard ts)
      stays met writes = record {
        now = holds_now met;
        writers = λ d.
            ap (list_any (writes_of d)) r.now
            ∙ any_same (writes_of d) (r.pre ++ r.front) (r.back ++ r.post) g k (ap (λ (b : Bool). b && is_of d k) writes ∙ ap (λ (b : Bool). is_some g.out && b) (is_same d))
            ∙ sym (ap (list_any (writes_of d)) r.was);
      }

      pub yielded : (g.met ≡ true → k.met ≡ true) → is_some k.out ≡ false → Yielded o e (has out_name in_name turns sealed heard ss) (has out_name in_name turns' sealed' heard ts)
      yielded met gone = record { now = holds_now met; writers = λ d. by d (is_end d e) refl }
        where
          none_now : All (λ x. (is_some x.out && is_of e x) ≡ false) (all_ends ts)
          none_now = subst (λ l. All (λ x. (is_some x.out && is_of e x) ≡ false) l) (sym r.now)
              (all_both (λ x. (is_some x.out && is_of e x) ≡ false) (r.pre ++ r.front) (k ∷ (r.back ++ r.post)) (none_flag (k ∷ []) r (λ x. is_some x.out) (r.pre ++ r.front) (none_before (k ∷ []) r))
              (All-cons (λ x. (is_some x.out && is_of e x) ≡ false) k (r.back ++ r.post) (ap (λ (b : Bool). b && is_of e k) gone) (none_flag (k ∷ []) r (λ x. is_some x.out) (r.back ++ r.post) (none_behind (k ∷ []) r))))

          by : (d : EndId) (b : Bool) → is_end d e ≡ b → list_any (writes_of d) (all_ends ts) ≡ (if b then false else list_any (writes_of d) (all_ends ss))
          by d true same = ap (λ x. list_any (writes_of x) (all_ends ts)) (same_end d e same) ∙ none_any (writes_of e) (all_ends ts) none_now
          by d false other =
              let off : is_of d g ≡ false = ap (is_end d) (sym (same_is (k ∷ []) r)) ∙ other in
              ap (list_any (writes_of d)) r.now
              ∙ any_same (writes_of d) (r.pre ++ r.front) (r.back ++ r.post) g k (ap (λ (b : Bool). b && is_of d k) gone ∙ sym (ap (λ (b : Bool). is_some g.out && b) off ∙ and_false (is_some g.out)))
              ∙ sym (ap (list_any (writes_of d)) r.was)

    state_still : k.state ≡ g.state → (d : EndId) → state_in (all_ends ts) d ≡ state_in (all_ends ss) d
    state_still state d =
        ap (λ l. state_in l d) r.now ∙ state_same d (r.pre ++ r.front) (r.back ++ r.post) g k (is_same d) state ∙ sym (ap (λ l. state_in l d) r.was)

    module _ (turns : List (EndId × EndState)) (sealed : List EndId) (heard : Heard N) where
      pub keeps_turns : k.state ≡ g.state → KeepsTurns (has out_name in_name turns sealed heard ss) (has out_name in_name turns sealed heard ts)
      keeps_turns state = record { states = λ i d here. state_still state d; turns = refl; sealed = refl; joined = refl }

      pub seals : k.state ≡ g.state → Seals e (has out_name in_name turns sealed heard ss) (has out_name in_name turns (sealed ++ e ∷ []) heard ts)
      seals state = record { states = λ i d here. state_still state d; turns = refl; sealed = refl; joined = refl }

      pub turns_to : (state : EndState) → k.state ≡ state → TurnsTo e state (has out_name in_name turns sealed heard ss) (has out_name in_name (turns ++ (if is_state g.state state then [] else (e, state) ∷ [])) sealed heard ts)
      turns_to state is = record {
        states = λ i d here. by d (is_end d e) refl;
        turns = ap (λ (t : EndState). turns ++ (if is_state t state then [] else (e, state) ∷ [])) (sym (state_is (k ∷ []) r));
        sealed = refl;
        joined = refl;
      }
        where
          by : (d : EndId) (b : Bool) → is_end d e ≡ b → state_in (all_ends ts) d ≡ (if b then state else state_in (all_ends ss) d)
          by d true same =
              ap (λ x. state_in (all_ends ts) x) (same_end d e same) ∙ ap (λ l. state_in l e) r.now
              ∙ state_here e (r.pre ++ r.front) (r.back ++ r.post) k (none_before (k ∷ []) r) (is_same e ∙ r.is) ∙ is
          by d false other =
              let off : is_of d g ≡ false = ap (is_end d) (sym (same_is (k ∷ []) r)) ∙ other in
              ap (λ l. state_in l d) r.now ∙ state_else d (r.pre ++ r.front) (r.back ++ r.post) g k off (is_same d ∙ off) ∙ sym (ap (λ l. state_in l d) r.was)

  -- ---- one end is gone

  module _ (r : Replaces o e g [] ss ts) where
    none_left : All (λ x. is_of e x ≡ false) (all_ends ts)
    none_left = subst (λ l. All (λ x. is_of e x ≡ false) l) (sym r.now) (none [] r)

    other_there : (i : ℕ) (d : EndId) → has_end d (map (held_given out_name in_name) (ends_of ts i)) ≡ true → is_of d g ≡ false
    other_there i d here = by (is_of d g) refl
      where
        by : (b : Bool) → is_of d g ≡ b → b ≡ false
        by true same =
            let is : d ≡ e = same_end d g.end same ∙ sym (same_is [] r) in
            never (sym (among (is_of e) i ts (sym (has_listed out_name in_name exact e (ends_of ts i)) ∙ ap (λ x. has_end x (map (held_given out_name in_name) (ends_of ts i))) (sym is) ∙ here)) ∙ none_any (is_of e) (all_ends ts) none_left)
        by false other = refl

    state_left : (i : ℕ) (d : EndId) → has_end d (map (held_given out_name in_name) (ends_of ts i)) ≡ true → state_in (all_ends ts) d ≡ state_in (all_ends ss) d
    state_left i d here = ap (λ l. state_in l d) r.now ∙ state_without d (r.pre ++ r.front) (r.back ++ r.post) g (other_there i d here) ∙ sym (ap (λ l. state_in l d) r.was)

    module _ (turns : List (EndId × EndState)) (sealed : List EndId) (heard : Heard N) where
      pub left : Left o e (has out_name in_name turns sealed heard ss) (has out_name in_name turns sealed heard ts)
      left = record {
        now = record {
          ends = ap (map (held_given out_name in_name)) r.own_now ∙ without out_name in_name exact e r.front r.back g r.is (none_front [] r) (none_back [] r)
              ∙ sym (ap (λ l. without_end e (map (held_given out_name in_name) l)) r.own_was);
          others = λ i ne. ap (map (held_given out_name in_name)) (r.others i ne);
          objects = r.holds;
          kinds = λ i. refl;
          output = λ i. refl;
          delimiters = λ i d here at.
              ap (list_any (met_of d)) r.now ∙ any_without (met_of d) (r.pre ++ r.front) (r.back ++ r.post) g (ap (λ (b : Bool). g.met && b) (other_there i d here) ∙ and_false g.met)
              ∙ sym (ap (list_any (met_of d)) r.was) ∙ at;
        };
        writers = λ d. by d (is_end d e) refl;
      }
        where
          by : (d : EndId) (b : Bool) → is_end d e ≡ b → list_any (writes_of d) (all_ends ts) ≡ (if b then false else list_any (writes_of d) (all_ends ss))
          by d true same = ap (λ x. list_any (writes_of x) (all_ends ts)) (same_end d e same) ∙ none_any (writes_of e) (all_ends ts) (none_flag [] r (λ x. is_some x.out) (all_ends ts) none_left)
          by d false other =
              let off : is_of d g ≡ false = ap (is_end d) (sym (same_is [] r)) ∙ other in
              ap (list_any (writes_of d)) r.now ∙ any_without (writes_of d) (r.pre ++ r.front) (r.back ++ r.post) g (ap (λ (b : Bool). is_some g.out && b) off ∙ and_false (is_some g.out))
              ∙ sym (ap (list_any (writes_of d)) r.was)

      pub keeps_left : KeepsTurns (has out_name in_name turns sealed heard ss) (has out_name in_name turns sealed heard ts)
      keeps_left = record { states = state_left; turns = refl; sealed = refl; joined = refl }
