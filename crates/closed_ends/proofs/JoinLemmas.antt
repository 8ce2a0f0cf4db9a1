-- What is seen of closed sockets once an end joined one of them.
use Rattle.std.proofs.Common.{◌≡◌, ◌≢◌, ◌==◌, ◌&&◌, ◌||◌, ◌⊎◌, ◌∙◌, ◌<◌, ℕ, Bool, true, false, List, [], ◌∷◌, ◌++◌, All, None, Some, length, map, set, refl, sym, ap, subst, inl, inr, if◌then◌else◌, eqb-true}
use Rattle.std.proofs.lemmas.Bool.{cases_eq}
use Rattle.end_table.proofs.SoundLemmas.{one_some}
use Rattle.std.specs.Prelude.{Err, IfErr, Ok, OnOk, Result, is_some, position, slice_index_or, unwrap_or}
use Rattle.std.specs.List.{list_any}
use Rattle.std.proofs.lemmas.List.{append-nil}
use Rattle.std.proofs.lemmas.List.Elements.{All-nil, All-cons, All-head, All-tail}
use Rattle.zq_base.specs.declared.ids.EndId.{EndId}
use Rattle.spec_control.specs.declared.end.EndState.{EndState}
use Rattle.spec_control.specs.declared.end.EndState.TheVariants.{Active}
use Rattle.spec_control.specs.declared.entry.Joining.{Joining}
use Rattle.spec_control.specs.Control.{is_end}
use Rattle.spec_control.specs.Held.{Held}
use Rattle.msg_pipe.specs.Known.{Known, IsElse}
use Rattle.desk.specs.declared.given.Given.{Given}
use Rattle.desk.specs.declared.halves.Halves.{Halves}
use Rattle.desk.specs.Holding.{BeginsActive, HasNowhere, HoldsNow, Joined, KeepsTurns, Stays, has_end, held_given, held_with}
use Rattle.desk.specs.TakingOver.{AreGivenWith, AreTwo, AllTwo, IsGivenWith}
use Rattle.end_table.specs.declared.table.Place.{Place}
use Rattle.sock_core.proofs.FindLemmas.{end_self, same_end}
use Rattle.closed_ends.specs.declared.sockets.ClosedSocket.{ClosedSocket}
use Rattle.closed_ends.specs.declared.sockets.ClosedSockets.{ClosedSockets}
use Rattle.closed_ends.specs.Has.{Heard, all_ends, ends_of, has, holding_in, is_of, is_socket, met_of, state_in, writes_of}
use Rattle.closed_ends.specs.Finding.{AreIndexed, IsFirst, JoinsAt, came_given, given_joined}
use Rattle.closed_ends.specs.Others.{IsUnsettled, Leaves}
use Rattle.closed_ends.specs.Sound.{IsElseOf, MayJoin}
use Rattle.closed_ends.proofs.FormLemmas.{AllAlone, IsSound}
use Rattle.closed_ends.proofs.ListLemmas.{never, all_flat, any_same, behind_front, index_there, mapped, position_same, same_ends, set_there, within}
use Rattle.closed_ends.proofs.ChangeLemmas.{all_in, alone_same, numbers_same, other_ends, own_ends, state_here}

module _ {N O I : Type 0} where
  -- an end stands behind those of a socket, and all else is as it was
  pub record AddsEnd (o : ℕ) (g : Given N O I) (ss ts : List (ClosedSocket N O I)) : Type 0 where
    pub pre : List (Given N O I)
    pub post : List (Given N O I)
    pub was : all_ends ss ≡ pre ++ post
    pub now : all_ends ts ≡ pre ++ g ∷ post
    pub own : ends_of ts o ≡ ends_of ss o ++ g ∷ []
    pub others : (i : ℕ) → i ≢ o → ends_of ts i ≡ ends_of ss i
    pub holds : (i : ℕ) → list_any (is_socket i) ts ≡ list_any (is_socket i) ss
    pub places : (i : ℕ) → position (is_socket i) ts ≡ position (is_socket i) ss
    pub numbers : map (λ s. s.number) ts ≡ map (λ s. s.number) ss
    pub alone : AllAlone ss → AllAlone ts

  -- all is as it was, wherever there is room
  pub record AddsNoEnd (ss ts : List (ClosedSocket N O I)) : Type 0 where
    pub now : all_ends ts ≡ all_ends ss
    pub own : (i : ℕ) → ends_of ts i ≡ ends_of ss i
    pub holds : (i : ℕ) → list_any (is_socket i) ts ≡ list_any (is_socket i) ss
    pub places : (i : ℕ) → position (is_socket i) ts ≡ position (is_socket i) ss
    pub numbers : map (λ s. s.number) ts ≡ map (λ s. s.number) ss
    pub alone : AllAlone ss → AllAlone ts

  module _ (o j : ℕ) (more : List (Given N O I)) (ss ts : List (ClosedSocket N O I)) (at : JoinsAt o j more ss ts) where
    abbrev f : IsFirst (is_socket o) ss j
    f = at.its

    same_socket : (i : ℕ) → is_socket i at.now ≡ is_socket i f.one
    same_socket i = ap (λ n. i == n.0) at.number_is

    all_were : all_ends ss ≡ (all_ends f.before ++ f.one.ends.items) ++ all_ends f.behind
    all_were =
        ap all_ends f.are ∙ all_flat (λ (x : ClosedSocket N O I). x.ends.items) f.before f.one f.behind
        ∙ sym (same_ends (all_ends f.before) f.one.ends.items (all_ends f.behind))

    all_now : all_ends ts ≡ (all_ends f.before ++ f.one.ends.items) ++ (more ++ all_ends f.behind)
    all_now =
        ap all_ends at.are ∙ all_flat (λ (x : ClosedSocket N O I). x.ends.items) f.before at.now f.behind
        ∙ ap (λ (l : List (Given N O I)). all_ends f.before ++ (l ++ all_ends f.behind)) at.ends_are
        ∙ ap (λ (l : List (Given N O I)). all_ends f.before ++ l) (same_ends f.one.ends.items more (all_ends f.behind))
        ∙ sym (same_ends (all_ends f.before) f.one.ends.items (more ++ all_ends f.behind))

    own_now : ends_of ts o ≡ ends_of ss o ++ more
    own_now =
        ap (λ (l : List (ClosedSocket N O I)). ends_of l o) at.are ∙ own_ends o f.before f.behind at.now f.others (same_socket o ∙ f.is) ∙ at.ends_are
        ∙ ap (λ (l : List (Given N O I)). l ++ more) (sym (ap (λ (l : List (ClosedSocket N O I)). ends_of l o) f.are ∙ own_ends o f.before f.behind f.one f.others f.is))

    other : (i : ℕ) → i ≢ o → is_socket i f.one ≡ false
    other i ne = by (is_socket i f.one) refl
      where
        by : (b : Bool) → is_socket i f.one ≡ b → b ≡ false
        by true h = absurd (ne (eqb-true i f.one.number.0 h ∙ sym (eqb-true o f.one.number.0 f.is)))
        by false h = refl

    others_now : (i : ℕ) → i ≢ o → ends_of ts i ≡ ends_of ss i
    others_now i ne =
        ap (λ (l : List (ClosedSocket N O I)). ends_of l i) at.are ∙ other_ends i f.before f.behind f.one at.now (other i ne) (same_socket i ∙ other i ne)
        ∙ sym (ap (λ (l : List (ClosedSocket N O I)). ends_of l i) f.are)

    holds_now : (i : ℕ) → list_any (is_socket i) ts ≡ list_any (is_socket i) ss
    holds_now i =
        ap (list_any (is_socket i)) at.are ∙ any_same (is_socket i) f.before f.behind f.one at.now (same_socket i)
        ∙ sym (ap (list_any (is_socket i)) f.are)

    places_now : (i : ℕ) → position (is_socket i) ts ≡ position (is_socket i) ss
    places_now i =
        ap (position (is_socket i)) at.are ∙ position_same (is_socket i) f.before f.behind f.one at.now (same_socket i)
        ∙ sym (ap (position (is_socket i)) f.are)

    numbers_now : map (λ s. s.number) ts ≡ map (λ s. s.number) ss
    numbers_now =
        ap (map (λ (x : ClosedSocket N O I). x.number)) at.are ∙ numbers_same f.before f.behind f.one at.now at.number_is
        ∙ sym (ap (map (λ (x : ClosedSocket N O I). x.number)) f.are)

    alone_now : AllAlone ss → AllAlone ts
    alone_now alone = subst AllAlone (sym at.are) (alone_same f.before f.behind f.one at.now at.number_is (subst AllAlone f.are alone))

  pub adds_end : (o j : ℕ) (g : Given N O I) (ss ts : List (ClosedSocket N O I)) → JoinsAt o j (g ∷ []) ss ts → AddsEnd o g ss ts
  adds_end o j g ss ts at = record {
    pre = all_ends at.its.before ++ at.its.one.ends.items;
    post = all_ends at.its.behind;
    was = all_were o j (g ∷ []) ss ts at;
    now = all_now o j (g ∷ []) ss ts at;
    own = own_now o j (g ∷ []) ss ts at;
    others = others_now o j (g ∷ []) ss ts at;
    holds = holds_now o j (g ∷ []) ss ts at;
    places = places_now o j (g ∷ []) ss ts at;
    numbers = numbers_now o j (g ∷ []) ss ts at;
    alone = alone_now o j (g ∷ []) ss ts at;
  }

  pub adds_none : (o j : ℕ) (ss ts : List (ClosedSocket N O I)) → JoinsAt o j [] ss ts → AddsNoEnd ss ts
  adds_none o j ss ts at = record {
    now = all_now o j [] ss ts at ∙ sym (all_were o j [] ss ts at);
    own = λ i. by i (cases_eq i o);
    holds = holds_now o j [] ss ts at;
    places = places_now o j [] ss ts at;
    numbers = numbers_now o j [] ss ts at;
    alone = alone_now o j [] ss ts at;
  }
    where
      by : (i : ℕ) → (i ≡ o) ⊎ (i ≡ o → ⊥) → ends_of ts i ≡ ends_of ss i
      by i (inl same) = ap (ends_of ts) same ∙ own_now o j [] ss ts at ∙ append-nil (ends_of ss o) ∙ ap (ends_of ss) (sym same)
      by i (inr ne) = others_now o j [] ss ts at i ne

  -- the socket at its place, and another in its stead
  module _ (o j : ℕ) (ss : List (ClosedSocket N O I)) (its : IsFirst (is_socket o) ss j) where
    pub first_there : j < length ss
    first_there = subst (λ (l : List (ClosedSocket N O I)). j < length l) (sym its.are) (within its.before its.behind its.one j its.at)

    pub first_is : (x : ClosedSocket N O I) → x ≡ slice_index_or ss j x → x ≡ its.one
    first_is x is = is ∙ ap (λ (l : List (ClosedSocket N O I)). slice_index_or l j x) its.are ∙ index_there its.before its.behind its.one x j its.at

    pub joins_at : (x : ClosedSocket N O I) → x ≡ slice_index_or ss j x → (more : List (Given N O I)) (t : ClosedSocket N O I) → t.number ≡ x.number → t.ends.items ≡ x.ends.items ++ more → JoinsAt o j more ss (set ss j t)
    joins_at x is more t number ends = record {
      its = its;
      now = t;
      number_is = number ∙ ap (λ (y : ClosedSocket N O I). y.number) (first_is x is);
      ends_are = ends ∙ ap (λ (y : ClosedSocket N O I). y.ends.items ++ more) (first_is x is);
      are = ap (λ (l : List (ClosedSocket N O I)). set l j t) its.are ∙ set_there its.before its.behind its.one t j its.at;
    }

-- ---- lists

module _ {X : Type 0} (f : X → Bool) where
  any_put : (xs ys : List X) (x : X) → list_any f (xs ++ x ∷ ys) ≡ (f x || list_any f (xs ++ ys))
  any_put [] ys x = refl
  any_put (y ∷ xs) ys x = ap (λ (b : Bool). f y || b) (any_put xs ys x) ∙ turned (f y) (f x) (list_any f (xs ++ ys))
    where
      turned : (a b c : Bool) → (a || (b || c)) ≡ (b || (a || c))
      turned true true c = refl
      turned true false c = refl
      turned false true c = refl
      turned false false c = refl

later : {c : Bool} (b : Bool) → c ≡ true → (b || c) ≡ true
later true is = refl
later false is = is

-- ---- what is seen, where an end joined

module _ {S O I N : Type 0} (K : Known S O I N) (e : EndId) (h : Halves O I) where
  abbrev g : Given N O I
  g = given_joined K.out_name e h

  abbrev two : Given N O I → Given N O I → Type 0
  two x y = AreTwo K.exact (held_given K.out_name K.in_name x) (held_given K.out_name K.in_name y)

  none_here : (gs : List (Given N O I)) → has_end e (map (held_given K.out_name K.in_name) gs) ≡ false → All (λ x. is_of e x ≡ false) gs
  none_here [] none = All-nil (λ (x : Given N O I). is_of e x ≡ false)
  none_here (x ∷ gs) none = by (none_here gs) (is_of e x) refl none
    where
      by : (has_end e (map (held_given K.out_name K.in_name) gs) ≡ false → All (λ y. is_of e y ≡ false) gs) → (b : Bool) → is_of e x ≡ b → (b || has_end e (map (held_given K.out_name K.in_name) gs)) ≡ false → All (λ y. is_of e y ≡ false) (x ∷ gs)
      by rest true is k = never k
      by rest false is k = All-cons (λ y. is_of e y ≡ false) x gs is (rest k)

  -- it is another than those that are there
  pub apart_all : (ss : List (ClosedSocket N O I)) (turns : List (EndId × EndState)) (sealed : List EndId) (heard : Heard N) → AllAlone ss → HasNowhere e (has K.out_name K.in_name turns sealed heard ss) → All (λ x. IsElseOf K x h) (all_ends ss) → All (λ x. two x g) (all_ends ss)
  apart_all ss turns sealed heard alone new others =
      λ k x lt. record {
        ends = λ same. never (sym (ap (λ (d : EndId). is_end e d) same ∙ end_self e) ∙ ends k x lt);
        written = λ ex. (others k x lt).written ex;
        read = λ ex. (others k x lt).read ex;
      }
    where
      ends : All (λ x. is_of e x ≡ false) (all_ends ss)
      ends = all_in (λ x. is_of e x ≡ false) ss alone (λ i here. none_here (ends_of ss i) (new i here))

  module _ (o : ℕ) (ss ts : List (ClosedSocket N O I)) (a : AddsEnd o g ss ts) (apart : All (λ x. two x g) (all_ends ss)) where
    others_apart : All (λ x. two x g) (a.pre ++ a.post)
    others_apart = subst (λ (l : List (Given N O I)). All (λ x. two x g) l) a.was apart

    two_put : (pre post : List (Given N O I)) → AllTwo K.exact (map (held_given K.out_name K.in_name) (pre ++ post)) → All (λ x. two x g) (pre ++ post) → AllTwo K.exact (map (held_given K.out_name K.in_name) (pre ++ g ∷ post))
    two_put [] post all each = (from_each post each, all)
      where
        from_each : (xs : List (Given N O I)) → All (λ x. two x g) xs → All (AreTwo K.exact (held_given K.out_name K.in_name g)) (map (held_given K.out_name K.in_name) xs)
        from_each [] h = All-nil (AreTwo K.exact (held_given K.out_name K.in_name g))
        from_each (x ∷ xs) h =
            let t = All-head (λ y. two y g) x xs h in
            All-cons (AreTwo K.exact (held_given K.out_name K.in_name g)) (held_given K.out_name K.in_name x) (map (held_given K.out_name K.in_name) xs)
            (record { ends = λ s. t.ends (sym s); written = λ ex s. t.written ex (sym s); read = λ ex s. t.read ex (sym s) })
            (from_each xs (All-tail (λ y. two y g) x xs h))
    two_put (x ∷ pre) post all each = (with_one pre all.0 (All-head (λ y. two y g) x (pre ++ post) each), two_put pre post all.1 (All-tail (λ y. two y g) x (pre ++ post) each))
      where
        with_one : (ys : List (Given N O I)) → All (AreTwo K.exact (held_given K.out_name K.in_name x)) (map (held_given K.out_name K.in_name) (ys ++ post)) → two x g → All (AreTwo K.exact (held_given K.out_name K.in_name x)) (map (held_given K.out_name K.in_name) (ys ++ g ∷ post))
        with_one [] h t = All-cons (AreTwo K.exact (held_given K.out_name K.in_name x)) (held_given K.out_name K.in_name g) (map (held_given K.out_name K.in_name) post) t h
        with_one (y ∷ ys) h t =
            All-cons (AreTwo K.exact (held_given K.out_name K.in_name x)) (held_given K.out_name K.in_name y) (map (held_given K.out_name K.in_name) (ys ++ g ∷ post))
            (All-head (AreTwo K.exact (held_given K.out_name K.in_name x)) (held_given K.out_name K.in_name y) (map (held_given K.out_name K.in_name) (ys ++ post)) h)
            (with_one ys (All-tail (AreTwo K.exact (held_given K.out_name K.in_name x)) (held_given K.out_name K.in_name y) (map (held_given K.out_name K.in_name) (ys ++ post)) h) t)

    pub joined_sound : (pipes : S) (c : ClosedSockets N O I) → MayJoin K pipes c h → IsSound K pipes ss → IsSound K pipes ts
    joined_sound pipes c may sound = record {
      halves = subst (AreGivenWith K pipes) (sym a.now)
          (all_put (IsGivenWith K pipes) a.pre a.post (subst (AreGivenWith K pipes) a.was sound.halves) (record {
            read_there = may.in_there;
            met = λ m. never (sym m);
            out_is = λ w is. ap K.out_name (sym (one_some h.out w is));
            written_there = λ w is. may.out_there;
            unsealed = λ w is s. subst (λ (x : O). (K.writing pipes x).sealed ≡ false) (one_some h.out w is) may.unsealed;
          }));
      apart = subst (λ (l : List (Given N O I)). AllTwo K.exact (map (held_given K.out_name K.in_name) l)) (sym a.now)
          (two_put a.pre a.post (subst (λ (l : List (Given N O I)). AllTwo K.exact (map (held_given K.out_name K.in_name) l)) a.was sound.apart) others_apart);
      alone = a.alone sound.alone;
    }
      where
        all_put : (P : Given N O I → Type 0) (pre post : List (Given N O I)) → All P (pre ++ post) → P g → All P (pre ++ g ∷ post)
        all_put P [] post all p = All-cons P g post p all
        all_put P (x ∷ pre) post all p = All-cons P x (pre ++ g ∷ post) (All-head P x (pre ++ post) all) (all_put P pre post (All-tail P x (pre ++ post) all) p)

    -- ---- as the control plane is told

    none_before : (pre post : List (Given N O I)) → All (λ x. two x g) (pre ++ post) → All (λ x. is_of e x ≡ false) pre
    none_before [] post all = All-nil (λ x. is_of e x ≡ false)
    none_before (x ∷ pre) post all = All-cons (λ y. is_of e y ≡ false) x pre (by (is_of e x) refl) (none_before pre post (All-tail (λ y. two y g) x (pre ++ post) all))
      where
        by : (b : Bool) → is_of e x ≡ b → b ≡ false
        by true is = absurd ((All-head (λ y. two y g) x (pre ++ post) all).ends (sym (same_end e x.end is)))
        by false is = refl

    state_else : (d : EndId) → is_end d e ≡ false → (pre post : List (Given N O I)) → state_in (pre ++ g ∷ post) d ≡ state_in (pre ++ post) d
    state_else d off [] post = ap (λ (b : Bool). if b then Active else state_in post d) off
    state_else d off (x ∷ pre) post = ap (λ (t : EndState). if is_of d x then x.state else t) (state_else d off pre post)

    module _ (turns : List (EndId × EndState)) (sealed : List EndId) (was now : Heard N) where
      pub joined : Joined o (held_with K.out_name K.in_name e h) (has K.out_name K.in_name turns sealed was ss) (has K.out_name K.in_name turns sealed now ts)
      joined = record {
        now = record {
          ends = ap (map (held_given K.out_name K.in_name)) a.own ∙ mapped (held_given K.out_name K.in_name) (ends_of ss o) (g ∷ []);
          others = λ i ne. ap (map (held_given K.out_name K.in_name)) (a.others i ne);
          objects = a.holds;
          kinds = λ i. refl;
          output = λ i. refl;
          delimiters = λ i d here at. ap (list_any (met_of d)) a.now ∙ any_put (met_of d) a.pre a.post g ∙ later (met_of d g) (ap (list_any (met_of d)) (sym a.was) ∙ at);
        };
        writers = λ d. ap (list_any (writes_of d)) a.now ∙ any_put (writes_of d) a.pre a.post g ∙ by (is_end d e) (list_any (writes_of d) (a.pre ++ a.post)) ∙ ap (λ (b : Bool). if is_end d e then true else b) (ap (list_any (writes_of d)) (sym a.was));
      }
        where
          by : (b c : Bool) → ((true && b) || c) ≡ (if b then true else c)
          by true c = refl
          by false c = refl

      pub begins : BeginsActive e (has K.out_name K.in_name turns sealed was ss) (has K.out_name K.in_name turns sealed now ts)
      begins = record { states = λ i d here. ap (λ (l : List (Given N O I)). state_in l d) a.now ∙ by d (is_end d e) refl; turns = refl; sealed = refl }
        where
          by : (d : EndId) (b : Bool) → is_end d e ≡ b → state_in (a.pre ++ g ∷ a.post) d ≡ unwrap_or (if is_end d e then Some Active else None) (state_in (all_ends ss) d)
          by d true is =
              let same = same_end d e is in
              ap (state_in (a.pre ++ g ∷ a.post)) same ∙ state_here e a.pre a.post g (none_before a.pre a.post others_apart) (end_self e)
              ∙ sym (ap (λ (b : Bool). unwrap_or (if b then Some Active else None) (state_in (all_ends ss) d)) is)
          by d false is =
              state_else d is a.pre a.post ∙ ap (λ (l : List (Given N O I)). state_in l d) (sym a.was)
              ∙ sym (ap (λ (b : Bool). unwrap_or (if b then Some Active else None) (state_in (all_ends ss) d)) is)

  -- others are left what they had
  pub leaves_joined : (pipes : S) (o : ℕ) (c d : ClosedSockets N O I) → AddsEnd o g c.sockets.items d.sockets.items → d.came.items ≡ c.came.items ++ came_given K.in_name g ∷ [] → d.settled.items ≡ c.settled.items → Leaves K pipes c pipes d
  leaves_joined pipes o c d a came settled = record {
    written = λ n u t. t;
    read = λ n r t. t;
    outs = λ x t w u. refl;
    ins = λ x t r. refl;
    writes = λ n w. subst (λ (l : List (Given N O I)). All (λ y. is_some y.out ≡ true → IsElse K n y.written) l) (sym a.now)
        (put (λ y. is_some y.out ≡ true → IsElse K n y.written) a.pre a.post (subst (λ (l : List (Given N O I)). All (λ y. is_some y.out ≡ true → IsElse K n y.written) l) a.was w.first)
        (λ has. All-head (λ (x : Place N I × Unit {0}). IsElse K n x.0.written) (came_given K.in_name g) [] (w.since (came_given K.in_name g ∷ []) came)));
    reads = λ n r. subst (λ (l : List (Given N O I)). All (λ y. IsElse K n (K.in_name y.input)) l) (sym a.now)
        (put (λ y. IsElse K n (K.in_name y.input)) a.pre a.post (subst (λ (l : List (Given N O I)). All (λ y. IsElse K n (K.in_name y.input)) l) a.was r.first)
        (All-head (λ (x : Place N I × Unit {0}). IsElse K n x.0.read) (came_given K.in_name g) [] (r.since (came_given K.in_name g ∷ []) came)));
    came = behind_front c.came.items (came_given K.in_name g ∷ []) d.came.items came;
    settled = λ n u. subst (λ (l : List (N × Unit {0})). All (λ x. IsElse K n x.0) l) settled u;
  }
    where
      put : (P : Given N O I → Type 0) (pre post : List (Given N O I)) → All P (pre ++ post) → P g → All P (pre ++ g ∷ post)
      put P [] post all p = All-cons P g post p all
      put P (x ∷ pre) post all p = All-cons P x (pre ++ g ∷ post) (All-head P x (pre ++ post) all) (put P pre post (All-tail P x (pre ++ post) all) p)

-- ---- where none did

module _ {S O I N : Type 0} (K : Known S O I N) (ss ts : List (ClosedSocket N O I)) (a : AddsNoEnd ss ts) where
  pub none_sound : (pipes : S) → IsSound K pipes ss → IsSound K pipes ts
  none_sound pipes sound = record {
    halves = subst (AreGivenWith K pipes) (sym a.now) sound.halves;
    apart = subst (λ (l : List (Given N O I)). AllTwo K.exact (map (held_given K.out_name K.in_name) l)) (sym a.now) sound.apart;
    alone = a.alone sound.alone;
  }

  module _ (turns : List (EndId × EndState)) (sealed : List EndId) (heard : Heard N) where
    pub none_stays : (o : ℕ) → Stays o (has K.out_name K.in_name turns sealed heard ss) (has K.out_name K.in_name turns sealed heard ts)
    none_stays o = record {
      now = record {
        ends = ap (map (held_given K.out_name K.in_name)) (a.own o);
        others = λ i ne. ap (map (held_given K.out_name K.in_name)) (a.own i);
        objects = a.holds;
        kinds = λ i. refl;
        output = λ i. refl;
        delimiters = λ i d here at. ap (list_any (met_of d)) a.now ∙ at;
      };
      writers = λ d. ap (list_any (writes_of d)) a.now;
    }

    pub none_turns : KeepsTurns (has K.out_name K.in_name turns sealed heard ss) (has K.out_name K.in_name turns sealed heard ts)
    none_turns = record { states = λ i d here. ap (λ (l : List (Given N O I)). state_in l d) a.now; turns = refl; sealed = refl; joined = refl }

  pub leaves_joined_none : (pipes : S) (c d : ClosedSockets N O I) → c.sockets.items ≡ ss → d.sockets.items ≡ ts → d.came.items ≡ c.came.items → d.settled.items ≡ c.settled.items → Leaves K pipes c pipes d
  leaves_joined_none pipes c d was is came settled = record {
    written = λ n u t. t;
    read = λ n r t. t;
    outs = λ x t w u. refl;
    ins = λ x t r. refl;
    writes = λ n w. subst (λ (l : List (Given N O I)). All (λ y. is_some y.out ≡ true → IsElse K n y.written) l) (ap all_ends was ∙ sym a.now ∙ ap all_ends (sym is)) w.first;
    reads = λ n r. subst (λ (l : List (Given N O I)). All (λ y. IsElse K n (K.in_name y.input)) l) (ap all_ends was ∙ sym a.now ∙ ap all_ends (sym is)) r.first;
    came = behind_front c.came.items [] d.came.items (came ∙ sym (append-nil c.came.items));
    settled = λ n u. subst (λ (l : List (N × Unit {0})). All (λ x. IsElse K n x.0) l) settled u;
  }

-- ---- whether one did

pub join_ways : {X E A : Type 0} (P : E → Type 0) (r : Result X E) → OnOk r A → IfErr r P → A ⊎ ((e : E) × P e)
join_ways P (Ok x) ok err = inl ok
join_ways P (Err e) ok err = inr (e, err)

-- what was told is as it was
pub told_kept : {N O I : Type 0} (c d : ClosedSockets N O I) (P : List (EndId × EndState) → List EndId → Type 0) → d.turns.items ≡ c.turns.items → d.sealed.items ≡ c.sealed.items
    → P c.turns.items (map (λ x. x.0) c.sealed.items) → P d.turns.items (map (λ x. x.0) d.sealed.items)
told_kept c d P turns sealed h =
    subst (λ t. P t (map (λ x. x.0) d.sealed.items)) (sym turns) (subst (λ (z : List (EndId × Unit {0})). P c.turns.items (map (λ x. x.0) z)) (sym sealed) h)
