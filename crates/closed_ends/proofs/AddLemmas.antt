-- What is seen of closed sockets once one more came with its ends.
use Rattle.std.proofs.Common.{◌≡◌, ◌≢◌, ◌&&◌, ◌||◌, ◌∙◌, ℕ, Bool, true, false, List, [], ◌∷◌, ◌++◌, All, map, None, Option, Some, refl, sym, ap, subst, if◌then◌else◌, eqb-true}
use Rattle.std.specs.Prelude.{is_some, unwrap_or}
use Rattle.std.specs.List.{list_any}
use Rattle.std.proofs.lemmas.Bool.{eq-eqb}
use Rattle.std.proofs.lemmas.List.Elements.{All-nil, All-cons, All-head, All-tail, All-weaker}
use Rattle.zq_base.specs.declared.ids.EndId.{EndId}
use Rattle.spec_control.specs.declared.end.EndState.{EndState}
use Rattle.spec_control.specs.declared.end.EndState.TheVariants.{Gone}
use Rattle.spec_control.specs.Held.{Held}
use Rattle.desk.specs.declared.given.Given.{Given}
use Rattle.desk.specs.declared.notice.Notice.{Notice}
use Rattle.desk.specs.Holding.{IsPlugged, Begins, AreAtDelimiter, held_given, states_given, writes_in}
use Rattle.desk.specs.TakingOver.{AreTwo, AllTwo, ComeApart}
use Rattle.sock_core.proofs.FindLemmas.{end_self, same_end}
use Rattle.closed_ends.specs.declared.sockets.ClosedSocket.{ClosedSocket}
use Rattle.closed_ends.specs.Has.{all_ends, is_socket, ends_of, is_of, writes_of, met_of, state_in, has, Heard}
use Rattle.closed_ends.proofs.FormLemmas.{AllAlone}
use Rattle.closed_ends.proofs.ListLemmas.{never, and_false, any_more, any_here, any_front, any_back, skipped, none_any, all_both, mapped, nil_behind, all_flat}
use Rattle.closed_ends.proofs.ChangeLemmas.{all_in}

-- what holds of each of a mapped list
pub from_map : {A B : Type 0} (P : B → Type 0) (f : A → B) (xs : List A) → All P (map f xs) → All (λ x. P (f x)) xs
from_map P f [] all = All-nil (λ x. P (f x))
from_map P f (x ∷ xs) all = All-cons (λ y. P (f y)) x xs (All-head P (f x) (map f xs) all) (from_map P f xs (All-tail P (f x) (map f xs) all))

module _ {N O I : Type 0} where
  -- the ends of a socket that came
  pub all_added : (ss : List (ClosedSocket N O I)) (s : ClosedSocket N O I) → all_ends (ss ++ s ∷ []) ≡ all_ends ss ++ s.ends.items
  all_added ss s = all_flat (λ (x : ClosedSocket N O I). x.ends.items) ss s [] ∙ ap (λ l. all_ends ss ++ l) (nil_behind s.ends.items)

  own_added : (ss : List (ClosedSocket N O I)) (s : ClosedSocket N O I) → list_any (is_socket s.number.0) ss ≡ false → ends_of (ss ++ s ∷ []) s.number.0 ≡ s.ends.items
  own_added [] s new = ap (λ (b : Bool). if b then s.ends.items else []) (eq-eqb s.number.0 s.number.0 refl)
  own_added (x ∷ ss) s new = by (is_socket s.number.0 x) new (own_added ss s)
    where
      by : (b : Bool) → (b || list_any (is_socket s.number.0) ss) ≡ false → (list_any (is_socket s.number.0) ss ≡ false → ends_of (ss ++ s ∷ []) s.number.0 ≡ s.ends.items) → (if b then x.ends.items else ends_of (ss ++ s ∷ []) s.number.0) ≡ s.ends.items
      by true h later = never h
      by false h later = later h

  else_added : (i : ℕ) (ss : List (ClosedSocket N O I)) (s : ClosedSocket N O I) → is_socket i s ≡ false → ends_of (ss ++ s ∷ []) i ≡ ends_of ss i
  else_added i [] s off = ap (λ (b : Bool). if b then s.ends.items else []) off
  else_added i (x ∷ ss) s off = ap (λ l. if is_socket i x then x.ends.items else l) (else_added i ss s off)

  -- each of these is among them
  self_met : (xs : List (Given N O I)) → All (λ x. x.met ≡ true → list_any (met_of x.end) xs ≡ true) xs
  self_met [] = All-nil (λ (x : Given N O I). x.met ≡ true → list_any (met_of {N = N} {O = O} {I = I} x.end) [] ≡ true)
  self_met (x ∷ xs) =
      All-cons (λ y. y.met ≡ true → list_any (met_of y.end) (x ∷ xs) ≡ true) x xs
      (λ m. ap (λ (b : Bool). (b && is_of x.end x) || list_any (met_of x.end) xs) m ∙ ap (λ (b : Bool). b || list_any (met_of x.end) xs) (end_self x.end))
      (λ k d lt m. later (met_of _ x) (self_met xs k d lt m))
    where
      later : {c : Bool} (b : Bool) → c ≡ true → (b || c) ≡ true
      later true is = refl
      later false is = is

  pub self_writes : (xs : List (Given N O I)) → All (λ x. is_some x.out ≡ true → list_any (writes_of x.end) xs ≡ true) xs
  self_writes [] = All-nil (λ (x : Given N O I). is_some x.out ≡ true → list_any (writes_of {N = N} {O = O} {I = I} x.end) [] ≡ true)
  self_writes (x ∷ xs) =
      All-cons (λ y. is_some y.out ≡ true → list_any (writes_of y.end) (x ∷ xs) ≡ true) x xs
      (λ w. ap (λ (b : Bool). (b && is_of x.end x) || list_any (writes_of x.end) xs) w ∙ ap (λ (b : Bool). b || list_any (writes_of x.end) xs) (end_self x.end))
      (λ k d lt w. later (writes_of _ x) (self_writes xs k d lt w))
    where
      later : {c : Bool} (b : Bool) → c ≡ true → (b || c) ≡ true
      later true is = refl
      later false is = is

  -- ---- how far ends are that came

  state_front : (d : EndId) (xs gs : List (Given N O I)) → list_any (is_of d) xs ≡ true → state_in (xs ++ gs) d ≡ state_in xs d
  state_front d [] gs h = never (sym h)
  state_front d (x ∷ xs) gs h = by (is_of d x) h (state_front d xs gs)
    where
      by : (b : Bool) → (b || list_any (is_of d) xs) ≡ true → (list_any (is_of d) xs ≡ true → state_in (xs ++ gs) d ≡ state_in xs d) → (if b then x.state else state_in (xs ++ gs) d) ≡ (if b then x.state else state_in xs d)
      by true h later = refl
      by false h later = later h

  state_back : (d : EndId) (xs gs : List (Given N O I)) → list_any (is_of d) xs ≡ false → (state_in (xs ++ gs) d ≡ state_in gs d) × (state_in xs d ≡ Gone)
  state_back d [] gs h = (refl, refl)
  state_back d (x ∷ xs) gs h = by (is_of d x) h (state_back d xs gs)
    where
      by : (b : Bool) → (b || list_any (is_of d) xs) ≡ false → (list_any (is_of d) xs ≡ false → (state_in (xs ++ gs) d ≡ state_in gs d) × (state_in xs d ≡ Gone))
          → ((if b then x.state else state_in (xs ++ gs) d) ≡ state_in gs d) × ((if b then x.state else state_in xs d) ≡ Gone)
      by true h later = never h
      by false h later = later h

  state_given : (d : EndId) (gs : List (Given N O I)) → state_in gs d ≡ unwrap_or (states_given gs d) Gone
  state_given d [] = refl
  state_given d (g ∷ gs) = by (is_of d g) (state_given d gs)
    where
      by : (b : Bool) → state_in gs d ≡ unwrap_or (states_given gs d) Gone → (if b then g.state else state_in gs d) ≡ unwrap_or (if b then Some g.state else states_given gs d) Gone
      by true rest = refl
      by false rest = rest

  none_given : (d : EndId) (gs : List (Given N O I)) → All (λ g. is_of d g ≡ false) gs → states_given gs d ≡ None
  none_given d [] none = refl
  none_given d (g ∷ gs) none =
      ap (λ (b : Bool). if b then Some g.state else states_given gs d) (All-head (λ x. is_of d x ≡ false) g gs none) ∙ none_given d gs (All-tail (λ x. is_of d x ≡ false) g gs none)

  writes_else : (d : EndId) (was : Bool) (gs : List (Given N O I)) → list_any (is_of d) gs ≡ false → (writes_in gs d was ≡ was) × (list_any (writes_of d) gs ≡ false)
  writes_else d was [] none = (refl, refl)
  writes_else d was (g ∷ gs) none = by (is_of d g) none (writes_else d was gs)
    where
      by : (b : Bool) → (b || list_any (is_of d) gs) ≡ false → (list_any (is_of d) gs ≡ false → (writes_in gs d was ≡ was) × (list_any (writes_of d) gs ≡ false))
          → ((if b then is_some g.out else writes_in gs d was) ≡ was) × (((is_some g.out && b) || list_any (writes_of d) gs) ≡ false)
      by true h later = never h
      by false h later = (let r = later h in (r.0, ap (λ (c : Bool). c || list_any (writes_of d) gs) (and_false (is_some g.out)) ∙ r.1))

  module _ (out_name : O → N) (in_name : I → N) (exact : Bool) where
    abbrev held : Given N O I → Held N
    held = held_given out_name in_name

    not_of : (d : EndId) (x g : Given N O I) → AreTwo exact (held_given out_name in_name x) (held_given out_name in_name g) → is_of d x ≡ true → is_of d g ≡ false
    not_of d x g apart is = by (is_of d g) refl
      where
        by : (b : Bool) → is_of d g ≡ b → b ≡ false
        by true h = absurd (apart.ends (sym (same_end d x.end is) ∙ same_end d g.end h))
        by false h = refl

    -- an end that is there does not come
    cross_none : (d : EndId) (gs xs : List (Given N O I)) → All (λ x. All (AreTwo exact (held_given out_name in_name x)) (map (held_given out_name in_name) gs)) xs → list_any (is_of d) xs ≡ true → All (λ g. is_of d g ≡ false) gs
    cross_none d gs [] cross h = never (sym h)
    cross_none d gs (x ∷ xs) cross h = by (is_of d x) refl h (cross_none d gs xs (All-tail (λ y. All (AreTwo exact (held_given out_name in_name y)) (map (held_given out_name in_name) gs)) x xs cross))
      where
        by : (b : Bool) → is_of d x ≡ b → (b || list_any (is_of d) xs) ≡ true → (list_any (is_of d) xs ≡ true → All (λ g. is_of d g ≡ false) gs) → All (λ g. is_of d g ≡ false) gs
        by true is k later = All-weaker (λ g. AreTwo exact (held_given out_name in_name x) (held_given out_name in_name g)) (λ g. is_of d g ≡ false) (λ g t. not_of d x g t is) gs (from_map (AreTwo exact (held_given out_name in_name x)) (held_given out_name in_name) gs (All-head (λ y. All (AreTwo exact (held_given out_name in_name y)) (map (held_given out_name in_name) gs)) x xs cross))
        by false is k later = later k

    -- nor is one that comes there
    cross_other : (d : EndId) (gs xs : List (Given N O I)) → All (λ x. All (AreTwo exact (held_given out_name in_name x)) (map (held_given out_name in_name) gs)) xs → list_any (is_of d) gs ≡ true → All (λ x. is_of d x ≡ false) xs
    cross_other d gs [] cross h = All-nil (λ x. is_of d x ≡ false)
    cross_other d gs (x ∷ xs) cross h =
        All-cons (λ y. is_of d y ≡ false) x xs (by (is_of d x) refl)
        (cross_other d gs xs (All-tail (λ y. All (AreTwo exact (held_given out_name in_name y)) (map (held_given out_name in_name) gs)) x xs cross) h)
      where
        by : (b : Bool) → is_of d x ≡ b → b ≡ false
        by true is = never (sym h ∙ none_any (is_of d) gs (cross_none d gs (x ∷ []) (All-cons (λ y. All (AreTwo exact (held_given out_name in_name y)) (map (held_given out_name in_name) gs)) x [] (All-head (λ y. All (AreTwo exact (held_given out_name in_name y)) (map (held_given out_name in_name) gs)) x xs cross) (All-nil (λ y. All (AreTwo exact (held_given out_name in_name y)) (map (held_given out_name in_name) gs)))) (ap (λ (b : Bool). b || false) is)))
        by false is = refl

    -- of those that come, one is the end
    given_writes : (d : EndId) (was : Bool) (gs : List (Given N O I)) → AllTwo exact (map (held_given out_name in_name) gs) → list_any (is_of d) gs ≡ true → writes_in gs d was ≡ list_any (writes_of d) gs
    given_writes d was [] two h = never (sym h)
    given_writes d was (g ∷ gs) two h = by (is_of d g) refl h (given_writes d was gs two.1)
      where
        others : is_of d g ≡ true → list_any (is_of d) gs ≡ false
        others is = none_any (is_of d) gs (All-weaker (λ x. AreTwo exact (held_given out_name in_name g) (held_given out_name in_name x)) (λ x. is_of d x ≡ false) (λ x t. not_of d g x t is) gs (from_map (AreTwo exact (held_given out_name in_name g)) (held_given out_name in_name) gs two.0))

        last : (b : Bool) → ((b && true) || false) ≡ b
        last true = refl
        last false = refl

        by : (b : Bool) → is_of d g ≡ b → (b || list_any (is_of d) gs) ≡ true → (list_any (is_of d) gs ≡ true → writes_in gs d was ≡ list_any (writes_of d) gs)
            → (if b then is_some g.out else writes_in gs d was) ≡ ((is_some g.out && b) || list_any (writes_of d) gs)
        by true is k later = sym (ap (λ (c : Bool). (is_some g.out && true) || c) (writes_else d was gs (others is)).1 ∙ last (is_some g.out))
        by false is k later = later k ∙ sym (ap (λ (c : Bool). c || list_any (writes_of d) gs) (and_false (is_some g.out)))

    pub two_more : (xs gs : List (Given N O I)) → AllTwo exact (map (held_given out_name in_name) xs) → AllTwo exact (map (held_given out_name in_name) gs) → All (λ x. All (AreTwo exact (held_given out_name in_name x)) (map (held_given out_name in_name) gs)) xs
        → AllTwo exact (map (held_given out_name in_name) (xs ++ gs))
    two_more [] gs a b cross = b
    two_more (x ∷ xs) gs a b cross = (
      subst (All (AreTwo exact (held_given out_name in_name x))) (sym (mapped (held_given out_name in_name) xs gs))
          (all_both (AreTwo exact (held_given out_name in_name x)) (map (held_given out_name in_name) xs) (map (held_given out_name in_name) gs) a.0
          (All-head (λ y. All (AreTwo exact (held_given out_name in_name y)) (map (held_given out_name in_name) gs)) x xs cross)),
      two_more xs gs a.1 b (All-tail (λ y. All (AreTwo exact (held_given out_name in_name y)) (map (held_given out_name in_name) gs)) x xs cross),
    )

    module _ (ss : List (ClosedSocket N O I)) (s : ClosedSocket N O I) (new : list_any (is_socket s.number.0) ss ≡ false) (alone : AllAlone ss) (turns : List (EndId × EndState)) (sealed : List EndId) (heard : Heard N)
        (come : ComeApart exact (map (held_given out_name in_name) s.ends.items) (has out_name in_name turns sealed heard ss)) where
      pub cross : All (λ x. All (AreTwo exact (held_given out_name in_name x)) (map (held_given out_name in_name) s.ends.items)) (all_ends ss)
      cross = all_in (λ x. All (AreTwo exact (held_given out_name in_name x)) (map (held_given out_name in_name) s.ends.items)) ss alone
          (λ i here. from_map (λ (x : Held N). All (AreTwo exact x) (map (held_given out_name in_name) s.ends.items)) (held_given out_name in_name) (ends_of ss i) (come.here i here))

      other : (i : ℕ) → i ≢ s.number.0 → is_socket i s ≡ false
      other i ne = by (is_socket i s) refl
        where
          by : (b : Bool) → is_socket i s ≡ b → b ≡ false
          by true h = absurd (ne (eqb-true i s.number.0 h))
          by false h = refl

      pub plugged : IsPlugged s.number.0 (map (held_given out_name in_name) s.ends.items) (has out_name in_name turns sealed heard ss) (has out_name in_name turns sealed heard (ss ++ s ∷ []))
      plugged = record {
        here = any_here (is_socket s.number.0) ss [] s (eq-eqb s.number.0 s.number.0 refl);
        ends = ap (map (held_given out_name in_name)) (own_added ss s new);
        no_kind = refl;
        others = λ i ne. (any_more (is_socket i) ss s (other i ne), (ap (map (held_given out_name in_name)) (else_added i ss s (other i ne)), refl));
        output = λ i ne. refl;
        delimiters = λ i e here at. ap (list_any (met_of e)) (all_added ss s) ∙ any_front (met_of e) (all_ends ss) s.ends.items at;
      }

      pub at_delimiter : AreAtDelimiter (λ e. list_any (met_of e) (all_ends (ss ++ s ∷ []))) s.ends.items
      at_delimiter = λ k d lt m. ap (list_any (met_of _)) (all_added ss s) ∙ any_back (met_of _) (all_ends ss) s.ends.items (self_met s.ends.items k d lt m)

      pub begins : Begins (states_given s.ends.items) (has out_name in_name turns sealed heard ss) (has out_name in_name turns sealed heard (ss ++ s ∷ []))
      begins = record { states = λ i d here. ap (λ l. state_in l d) (all_added ss s) ∙ by d (list_any (is_of d) (all_ends ss)) refl; turns = refl; sealed = refl }
        where
          by : (d : EndId) (b : Bool) → list_any (is_of d) (all_ends ss) ≡ b → state_in (all_ends ss ++ s.ends.items) d ≡ unwrap_or (states_given s.ends.items d) (state_in (all_ends ss) d)
          by d true h = state_front d (all_ends ss) s.ends.items h
              ∙ sym (ap (λ (x : Option EndState). unwrap_or x (state_in (all_ends ss) d)) (none_given d s.ends.items (cross_none d s.ends.items (all_ends ss) cross h)))
          by d false h = let r = state_back d (all_ends ss) s.ends.items h in r.0 ∙ state_given d s.ends.items ∙ sym (ap (λ (t : EndState). unwrap_or (states_given s.ends.items d) t) r.1)

      pub writing : (d : EndId) → list_any (writes_of d) (all_ends (ss ++ s ∷ [])) ≡ writes_in s.ends.items d (list_any (writes_of d) (all_ends ss))
      writing d = ap (list_any (writes_of d)) (all_added ss s) ∙ by (list_any (is_of d) s.ends.items) refl
        where
          no_end : (x : Given N O I) → is_of d x ≡ false → writes_of d x ≡ false
          no_end x off = ap (λ (b : Bool). is_some x.out && b) off ∙ and_false (is_some x.out)

          front : (xs : List (Given N O I)) → list_any (writes_of d) s.ends.items ≡ false → list_any (writes_of d) (xs ++ s.ends.items) ≡ list_any (writes_of d) xs
          front [] h = h
          front (y ∷ ys) h = ap (λ (b : Bool). writes_of d y || b) (front ys h)

          by : (b : Bool) → list_any (is_of d) s.ends.items ≡ b → list_any (writes_of d) (all_ends ss ++ s.ends.items) ≡ writes_in s.ends.items d (list_any (writes_of d) (all_ends ss))
          by true h =
              skipped (writes_of d) (all_ends ss) s.ends.items (All-weaker (λ x. is_of d x ≡ false) (λ x. writes_of d x ≡ false) no_end (all_ends ss) (cross_other d s.ends.items (all_ends ss) cross h))
              ∙ sym (given_writes d (list_any (writes_of d) (all_ends ss)) s.ends.items come.each h)
          by false h = let r = writes_else d (list_any (writes_of d) (all_ends ss)) s.ends.items h in front (all_ends ss) r.1 ∙ sym r.0
