-- What is seen of closed sockets once one of their ends changed or is gone.
use Rattle.std.proofs.Common.{◌≡◌, ◌≢◌, ◌==◌, ◌||◌, ◌∙◌, ℕ, Bool, true, false, not, List, [], ◌∷◌, ◌++◌, All, Some, map, refl, sym, ap, subst, if◌then◌else◌, eqb-true}
use Rattle.std.specs.Prelude.{position, slice_index_or}
use Rattle.std.specs.List.{AllPairs, list_any}
use Rattle.std.proofs.lemmas.Bool.{eq-eqb}
use Rattle.std.proofs.lemmas.List.Elements.{All-nil, All-cons, All-head, All-tail}
use Rattle.zq_base.specs.declared.ids.EndId.{EndId}
use Rattle.zq_base.specs.declared.ids.ObjId.{ObjId}
use Rattle.spec_control.specs.declared.end.EndState.{EndState}
use Rattle.spec_control.specs.Control.{is_end}
use Rattle.spec_control.specs.Held.{Held}
use Rattle.desk.specs.declared.given.Given.{Given}
use Rattle.desk.specs.Holding.{has_end, held_given, without_end}
use Rattle.desk.specs.TakingOver.{AreTwo, AllTwo}
use Rattle.sock_core.proofs.FindLemmas.{same_end}
use Rattle.closed_ends.specs.declared.sockets.ClosedSocket.{ClosedSocket}
use Rattle.closed_ends.specs.Has.{all_ends, is_socket, ends_of, is_of, input_in, state_in}
use Rattle.closed_ends.specs.Finding.{AreTwoByTwo, FindsEnd}
use Rattle.closed_ends.proofs.FormLemmas.{AllAlone}
use Rattle.closed_ends.proofs.ListLemmas.{never, position_same, any_more, any_same, any_front, any_back, all_both, parts, all_flat}

module _ {N O I : Type 0} where
  -- in the place of one end of a closed socket stand these, and all else is as it was
  pub record Replaces (o : ℕ) (e : EndId) (g : Given N O I) (rs : List (Given N O I)) (ss ts : List (ClosedSocket N O I)) : Type 0 where
    pub pre : List (Given N O I)
    pub front : List (Given N O I)
    pub back : List (Given N O I)
    pub post : List (Given N O I)
    pub was : all_ends ss ≡ (pre ++ front) ++ g ∷ (back ++ post)
    pub now : all_ends ts ≡ (pre ++ front) ++ (rs ++ (back ++ post))
    pub own_was : ends_of ss o ≡ front ++ g ∷ back
    pub own_now : ends_of ts o ≡ front ++ (rs ++ back)
    pub others : (i : ℕ) → i ≢ o → ends_of ts i ≡ ends_of ss i
    pub holds : (i : ℕ) → list_any (is_socket i) ts ≡ list_any (is_socket i) ss
    pub places : (i : ℕ) → position (is_socket i) ts ≡ position (is_socket i) ss
    pub numbers : map (λ s. s.number) ts ≡ map (λ s. s.number) ss
    pub is : is_of e g ≡ true

  -- the ends of the socket found
  pub own_ends : (o : ℕ) (before after : List (ClosedSocket N O I)) (s : ClosedSocket N O I) → All (λ x. is_socket o x ≡ false) before → is_socket o s ≡ true → ends_of (before ++ s ∷ after) o ≡ s.ends.items
  own_ends o [] after s none is = ap (λ (b : Bool). if b then s.ends.items else ends_of after o) is
  own_ends o (x ∷ before) after s none is =
      ap (λ (b : Bool). if b then x.ends.items else ends_of (before ++ s ∷ after) o) (All-head (λ y. is_socket o y ≡ false) x before none)
      ∙ own_ends o before after s (All-tail (λ y. is_socket o y ≡ false) x before none) is

  pub ends_none : (o : ℕ) (ss : List (ClosedSocket N O I)) → list_any (is_socket o) ss ≡ false → ends_of ss o ≡ []
  ends_none o [] h = refl
  ends_none o (s ∷ ss) h = by (is_socket o s) h (ends_none o ss)
    where
      by : (b : Bool) → (b || list_any (is_socket o) ss) ≡ false → (list_any (is_socket o) ss ≡ false → ends_of ss o ≡ []) → (if b then s.ends.items else ends_of ss o) ≡ []
      by true k later = never k
      by false k later = later k

  pub other_ends : (i : ℕ) (before after : List (ClosedSocket N O I)) (s t : ClosedSocket N O I) → is_socket i s ≡ false → is_socket i t ≡ false → ends_of (before ++ t ∷ after) i ≡ ends_of (before ++ s ∷ after) i
  other_ends i [] after s t off off2 =
      ap (λ (b : Bool). if b then t.ends.items else ends_of after i) off2 ∙ sym (ap (λ (b : Bool). if b then s.ends.items else ends_of after i) off)
  other_ends i (x ∷ before) after s t off off2 = ap (λ (l : List (Given N O I)). if is_socket i x then x.ends.items else l) (other_ends i before after s t off off2)

  pub numbers_same : (before after : List (ClosedSocket N O I)) (s t : ClosedSocket N O I) → t.number ≡ s.number → map (λ x. x.number) (before ++ t ∷ after) ≡ map (λ x. x.number) (before ++ s ∷ after)
  numbers_same [] after s t same = ap (λ (n : ObjId). n ∷ map (λ x. x.number) after) same
  numbers_same (x ∷ before) after s t same = ap (λ (l : List ObjId). x.number ∷ l) (numbers_same before after s t same)

  module _ (o : ℕ) (e : EndId) (ss : List (ClosedSocket N O I)) (j k : ℕ) (f : FindsEnd o e ss j k) where
    abbrev s : ClosedSocket N O I
    s = f.its.one

    same_number : (i : ℕ) (t : ClosedSocket N O I) → t.number ≡ s.number → is_socket i t ≡ is_socket i s
    same_number i t same = ap (λ n. i == n.0) same

    -- the socket at its place changed in one end
    pub replaced : (t : ClosedSocket N O I) (rs : List (Given N O I)) (ts : List (ClosedSocket N O I)) → t.number ≡ s.number → t.ends.items ≡ f.here.before ++ (rs ++ f.here.behind) → ts ≡ f.its.before ++ t ∷ f.its.behind → Replaces o e f.here.one rs ss ts
    replaced t rs ts number ends now = record {
      pre = all_ends f.its.before;
      front = f.here.before;
      back = f.here.behind;
      post = all_ends f.its.behind;
      was = ap all_ends f.its.are ∙ all_flat (λ (x : ClosedSocket N O I). x.ends.items) f.its.before s f.its.behind
          ∙ ap (λ (l : List (Given N O I)). all_ends f.its.before ++ (l ++ all_ends f.its.behind)) f.here.are
          ∙ parts (all_ends f.its.before) f.here.before (f.here.one ∷ []) f.here.behind (all_ends f.its.behind);
      now = ap all_ends now ∙ all_flat (λ (x : ClosedSocket N O I). x.ends.items) f.its.before t f.its.behind
          ∙ ap (λ (l : List (Given N O I)). all_ends f.its.before ++ (l ++ all_ends f.its.behind)) ends
          ∙ parts (all_ends f.its.before) f.here.before rs f.here.behind (all_ends f.its.behind);
      own_was = ap (λ (l : List (ClosedSocket N O I)). ends_of l o) f.its.are ∙ own_ends o f.its.before f.its.behind s f.its.others f.its.is ∙ f.here.are;
      own_now = ap (λ (l : List (ClosedSocket N O I)). ends_of l o) now ∙ own_ends o f.its.before f.its.behind t f.its.others (same_number o t number ∙ f.its.is) ∙ ends;
      others = λ i ne.
          let off = other i ne in
          ap (λ (l : List (ClosedSocket N O I)). ends_of l i) now ∙ other_ends i f.its.before f.its.behind s t off (same_number i t number ∙ off)
          ∙ sym (ap (λ (l : List (ClosedSocket N O I)). ends_of l i) f.its.are);
      holds = λ i. ap (λ (l : List (ClosedSocket N O I)). list_any (is_socket i) l) now ∙ any_same (is_socket i) f.its.before f.its.behind s t (same_number i t number) ∙ sym (ap (λ (l : List (ClosedSocket N O I)). list_any (is_socket i) l) f.its.are);
      places = λ i. ap (λ (l : List (ClosedSocket N O I)). position (is_socket i) l) now ∙ position_same (is_socket i) f.its.before f.its.behind s t (same_number i t number) ∙ sym (ap (λ (l : List (ClosedSocket N O I)). position (is_socket i) l) f.its.are);
      numbers = ap (map (λ (x : ClosedSocket N O I). x.number)) now ∙ numbers_same f.its.before f.its.behind s t number ∙ sym (ap (map (λ (x : ClosedSocket N O I). x.number)) f.its.are);
      is = f.here.is;
    }
      where
        other : (i : ℕ) → i ≢ o → is_socket i s ≡ false
        other i ne = by (is_socket i s) refl
          where
            by : (b : Bool) → is_socket i s ≡ b → b ≡ false
            by true h = absurd (ne (eqb-true i s.number.0 h ∙ sym (eqb-true o s.number.0 f.its.is)))
            by false h = refl

  -- ---- ends of two are two

  module _ (out_name : O → N) (in_name : I → N) (exact : Bool) where
    abbrev two : Given N O I → Given N O I → Type 0
    two x y = AreTwo exact (held_given out_name in_name x) (held_given out_name in_name y)

    turned : (x y : Held N) → AreTwo exact x y → AreTwo exact y x
    turned x y t = record { ends = λ h. t.ends (sym h); written = λ ex h. t.written ex (sym h); read = λ ex h. t.read ex (sym h) }

    to_all : (x : Given N O I) (ys : List (Given N O I)) → All (AreTwo exact (held_given out_name in_name x)) (map (held_given out_name in_name) ys) → All (λ y. two y x) ys
    to_all x [] h = All-nil (λ y. two y x)
    to_all x (y ∷ ys) h =
        All-cons (λ z. two z x) y ys
        (turned (held_given out_name in_name x) (held_given out_name in_name y) (All-head (AreTwo exact (held_given out_name in_name x)) (held_given out_name in_name y) (map (held_given out_name in_name) ys) h))
        (to_all x ys (All-tail (AreTwo exact (held_given out_name in_name x)) (held_given out_name in_name y) (map (held_given out_name in_name) ys) h))

    -- one end is apart from each of the others
    pub apart_from : (before behind : List (Given N O I)) (g : Given N O I) → AllTwo exact (map (held_given out_name in_name) (before ++ g ∷ behind)) → All (λ x. two x g) (before ++ behind)
    apart_from [] behind g all = to_all g behind all.0
    apart_from (x ∷ before) behind g all =
        All-cons (λ z. two z g) x (before ++ behind) (at before all.0) (apart_from before behind g all.1)
      where
        at : (ys : List (Given N O I)) → All (AreTwo exact (held_given out_name in_name x)) (map (held_given out_name in_name) (ys ++ g ∷ behind)) → two x g
        at [] h = All-head (AreTwo exact (held_given out_name in_name x)) (held_given out_name in_name g) (map (held_given out_name in_name) behind) h
        at (y ∷ ys) h = at ys (All-tail (AreTwo exact (held_given out_name in_name x)) (held_given out_name in_name y) (map (held_given out_name in_name) (ys ++ g ∷ behind)) h)

    -- those that are left are apart
    fewer : (x : Held N) (before behind : List (Given N O I)) (g : Given N O I) → All (AreTwo exact x) (map (held_given out_name in_name) (before ++ g ∷ behind)) → All (AreTwo exact x) (map (held_given out_name in_name) (before ++ behind))
    fewer x [] behind g h = All-tail (AreTwo exact x) (held_given out_name in_name g) (map (held_given out_name in_name) behind) h
    fewer x (y ∷ before) behind g h =
        All-cons (AreTwo exact x) (held_given out_name in_name y) (map (held_given out_name in_name) (before ++ behind))
        (All-head (AreTwo exact x) (held_given out_name in_name y) (map (held_given out_name in_name) (before ++ g ∷ behind)) h)
        (fewer x before behind g (All-tail (AreTwo exact x) (held_given out_name in_name y) (map (held_given out_name in_name) (before ++ g ∷ behind)) h))

    pub left_apart : (before behind : List (Given N O I)) (g : Given N O I) → AllTwo exact (map (held_given out_name in_name) (before ++ g ∷ behind)) → AllTwo exact (map (held_given out_name in_name) (before ++ behind))
    left_apart [] behind g all = all.1
    left_apart (x ∷ before) behind g all = (fewer (held_given out_name in_name x) before behind g all.0, left_apart before behind g all.1)

    pub same_held : (before behind : List (Given N O I)) (g h : Given N O I) → held_given out_name in_name h ≡ held_given out_name in_name g → map (held_given out_name in_name) (before ++ h ∷ behind) ≡ map (held_given out_name in_name) (before ++ g ∷ behind)
    same_held [] behind g h same = ap (λ (x : Held N). x ∷ map (held_given out_name in_name) behind) same
    same_held (x ∷ before) behind g h same = ap (λ (l : List (Held N)). held_given out_name in_name x ∷ l) (same_held before behind g h same)

    -- none of them is the end
    pub none_is : (e : EndId) (g : Given N O I) (xs : List (Given N O I)) → is_of e g ≡ true → All (λ x. two x g) xs → All (λ x. is_of e x ≡ false) xs
    none_is e g [] is all = All-nil (λ x. is_of e x ≡ false)
    none_is e g (x ∷ xs) is all = All-cons (λ y. is_of e y ≡ false) x xs (by (is_of e x) refl) (none_is e g xs is (All-tail (λ y. two y g) x xs all))
      where
        by : (b : Bool) → is_of e x ≡ b → b ≡ false
        by true h = absurd ((All-head (λ y. two y g) x xs all).ends (sym (same_end e x.end h) ∙ same_end e g.end is))
        by false h = refl

    -- ---- the ends of the socket, as they are held
    kept : (e : EndId) (xs : List (Given N O I)) → All (λ x. is_of e x ≡ false) xs → without_end e (map (held_given out_name in_name) xs) ≡ map (held_given out_name in_name) xs
    kept e [] none = refl
    kept e (x ∷ xs) none =
        ap (λ (b : Bool). if not b then held_given out_name in_name x ∷ without_end e (map (held_given out_name in_name) xs) else without_end e (map (held_given out_name in_name) xs)) (All-head (λ y. is_of e y ≡ false) x xs none)
        ∙ ap (λ (l : List (Held N)). held_given out_name in_name x ∷ l) (kept e xs (All-tail (λ y. is_of e y ≡ false) x xs none))

    pub without : (e : EndId) (before behind : List (Given N O I)) (g : Given N O I) → is_of e g ≡ true → All (λ x. is_of e x ≡ false) before → All (λ x. is_of e x ≡ false) behind
        → map (held_given out_name in_name) (before ++ behind) ≡ without_end e (map (held_given out_name in_name) (before ++ g ∷ behind))
    without e [] behind g is none_before none_behind =
        sym (ap (λ (b : Bool). if not b then held_given out_name in_name g ∷ without_end e (map (held_given out_name in_name) behind) else without_end e (map (held_given out_name in_name) behind)) is ∙ kept e behind none_behind)
    without e (x ∷ before) behind g is none_before none_behind =
        ap (λ (l : List (Held N)). held_given out_name in_name x ∷ l) (without e before behind g is (All-tail (λ y. is_of e y ≡ false) x before none_before) none_behind)
        ∙ sym (ap (λ (b : Bool). if not b then held_given out_name in_name x ∷ without_end e (map (held_given out_name in_name) (before ++ g ∷ behind)) else without_end e (map (held_given out_name in_name) (before ++ g ∷ behind))) (All-head (λ y. is_of e y ≡ false) x before none_before))

    pub has_listed : (e : EndId) (xs : List (Given N O I)) → has_end e (map (held_given out_name in_name) xs) ≡ list_any (is_of e) xs
    has_listed e [] = refl
    has_listed e (x ∷ xs) = ap (λ (b : Bool). is_end e x.end || b) (has_listed e xs)

  -- at most one of them is the end
  pub one_is : (e : EndId) (gs : List (Given N O I)) → AreTwoByTwo gs → AllPairs (λ x y. is_of e y ≡ true → is_of e x ≡ false) gs
  one_is e gs apart i j d less within is = by (is_of e (slice_index_or gs i d)) refl
    where
      by : (b : Bool) → is_of e (slice_index_or gs i d) ≡ b → b ≡ false
      by true h = absurd (apart i j d less within (sym (same_end e (slice_index_or gs i d).end h) ∙ same_end e (slice_index_or gs j d).end is))
      by false h = refl

  -- ---- the reading half of an end

  pub input_here : (e : EndId) (before behind : List (Given N O I)) (g : Given N O I) → All (λ x. is_of e x ≡ false) before → is_of e g ≡ true → input_in (before ++ g ∷ behind) e ≡ Some g.input
  input_here e [] behind g none is = ap (λ (b : Bool). if b then Some g.input else input_in behind e) is
  input_here e (x ∷ before) behind g none is =
      ap (λ (b : Bool). if b then Some x.input else input_in (before ++ g ∷ behind) e) (All-head (λ y. is_of e y ≡ false) x before none)
      ∙ input_here e before behind g (All-tail (λ y. is_of e y ≡ false) x before none) is

  -- ---- how far an end is

  pub state_here : (e : EndId) (before behind : List (Given N O I)) (g : Given N O I) → All (λ x. is_of e x ≡ false) before → is_of e g ≡ true → state_in (before ++ g ∷ behind) e ≡ g.state
  state_here e [] behind g none is = ap (λ (b : Bool). if b then g.state else state_in behind e) is
  state_here e (x ∷ before) behind g none is =
      ap (λ (b : Bool). if b then x.state else state_in (before ++ g ∷ behind) e) (All-head (λ y. is_of e y ≡ false) x before none)
      ∙ state_here e before behind g (All-tail (λ y. is_of e y ≡ false) x before none) is

  pub state_same : (d : EndId) (before behind : List (Given N O I)) (g h : Given N O I) → is_of d h ≡ is_of d g → h.state ≡ g.state → state_in (before ++ h ∷ behind) d ≡ state_in (before ++ g ∷ behind) d
  state_same d [] behind g h same state =
      ap (λ (b : Bool). if b then h.state else state_in behind d) same ∙ ap (λ (t : EndState). if is_of d g then t else state_in behind d) state
  state_same d (x ∷ before) behind g h same state = ap (λ (t : EndState). if is_of d x then x.state else t) (state_same d before behind g h same state)

  pub state_else : (d : EndId) (before behind : List (Given N O I)) (g h : Given N O I) → is_of d g ≡ false → is_of d h ≡ false → state_in (before ++ h ∷ behind) d ≡ state_in (before ++ g ∷ behind) d
  state_else d [] behind g h off off2 = ap (λ (b : Bool). if b then h.state else state_in behind d) off2 ∙ sym (ap (λ (b : Bool). if b then g.state else state_in behind d) off)
  state_else d (x ∷ before) behind g h off off2 = ap (λ (t : EndState). if is_of d x then x.state else t) (state_else d before behind g h off off2)

  pub state_without : (d : EndId) (before behind : List (Given N O I)) (g : Given N O I) → is_of d g ≡ false → state_in (before ++ behind) d ≡ state_in (before ++ g ∷ behind) d
  state_without d [] behind g off = sym (ap (λ (b : Bool). if b then g.state else state_in behind d) off)
  state_without d (x ∷ before) behind g off = ap (λ (t : EndState). if is_of d x then x.state else t) (state_without d before behind g off)

  -- an end of one of them is among all
  pub among : (test : Given N O I → Bool) (i : ℕ) (ss : List (ClosedSocket N O I)) → list_any test (ends_of ss i) ≡ true → list_any test (all_ends ss) ≡ true
  among test i [] h = never (sym h)
  among test i (s ∷ ss) h = by (is_socket i s) h (among test i ss)
    where
      by : (b : Bool) → list_any test (if b then s.ends.items else ends_of ss i) ≡ true → (list_any test (ends_of ss i) ≡ true → list_any test (all_ends ss) ≡ true) → list_any test (s.ends.items ++ all_ends ss) ≡ true
      by true k later = any_front test s.ends.items (all_ends ss) k
      by false k later = any_back test s.ends.items (all_ends ss) (later k)

-- ---- sockets by their numbers

module _ {N O I : Type 0} where
  socket_self : (s : ClosedSocket N O I) → is_socket s.number.0 s ≡ true
  socket_self s = eq-eqb s.number.0 s.number.0 refl

  -- one that stays the socket that it was
  pub alone_same : (before after : List (ClosedSocket N O I)) (s t : ClosedSocket N O I) → t.number ≡ s.number → AllAlone (before ++ s ∷ after) → AllAlone (before ++ t ∷ after)
  alone_same [] after s t same alone = (ap (λ n. list_any (is_socket n.0) after) same ∙ alone.0, alone.1)
  alone_same (x ∷ before) after s t same alone = (
    any_same (is_socket x.number.0) before after s t (ap (λ n. x.number.0 == n.0) same) ∙ alone.0,
    alone_same before after s t same alone.1,
  )

  pub alone_more : (ss : List (ClosedSocket N O I)) (s : ClosedSocket N O I) → list_any (is_socket s.number.0) ss ≡ false → AllAlone ss → AllAlone (ss ++ s ∷ [])
  alone_more [] s new alone = (refl, tt)
  alone_more (x ∷ ss) s new alone = (
    any_more (is_socket x.number.0) ss s (by (is_socket x.number.0 s) refl) ∙ alone.0,
    alone_more ss s (off (is_socket s.number.0 x) new) alone.1,
  )
    where
      by : (b : Bool) → is_socket x.number.0 s ≡ b → b ≡ false
      by true h = never (sym (ap (λ (b : Bool). b || list_any (is_socket s.number.0) ss) (eq-eqb s.number.0 x.number.0 (sym (eqb-true x.number.0 s.number.0 h)))) ∙ new)
      by false h = refl

      off : (b : Bool) → (b || list_any (is_socket s.number.0) ss) ≡ false → list_any (is_socket s.number.0) ss ≡ false
      off true h = never h
      off false h = h

  -- what holds of the ends of each socket holds of all
  pub all_in : (P : Given N O I → Type 0) (ss : List (ClosedSocket N O I)) → AllAlone ss → ((i : ℕ) → list_any (is_socket i) ss ≡ true → All P (ends_of ss i)) → All P (all_ends ss)
  all_in P [] alone each = All-nil P
  all_in P (s ∷ ss) alone each =
      all_both P s.ends.items (all_ends ss)
      (subst (All P) (ap (λ (b : Bool). if b then s.ends.items else ends_of ss s.number.0) (socket_self s)) (each s.number.0 (ap (λ (b : Bool). b || list_any (is_socket s.number.0) ss) (socket_self s))))
      (all_in P ss alone.1 (λ i here.
      subst (All P) (ap (λ (b : Bool). if b then s.ends.items else ends_of ss i) (other i here (is_socket i s) refl)) (each i (ap (λ (b : Bool). is_socket i s || b) here ∙ or_true (is_socket i s)))))
    where
      or_true : (b : Bool) → (b || true) ≡ true
      or_true true = refl
      or_true false = refl

      other : (i : ℕ) → list_any (is_socket i) ss ≡ true → (b : Bool) → is_socket i s ≡ b → is_socket i s ≡ false
      other i here true h = never (sym here ∙ ap (λ n. list_any (is_socket n) ss) (eqb-true i s.number.0 h) ∙ alone.0)
      other i here false h = h
