-- The two forms in which closed sockets are said to be sound: place by place, and by recursion.
use Rattle.std.proofs.Common.{◌≡◌, ◌≢◌, ◌<◌, ℕ, zero, suc, Bool, false, List, [], ◌∷◌, ◌++◌, All, length, map, refl, ap, subst, arith}
use Rattle.std.specs.Prelude.{slice_index_or}
use Rattle.std.specs.List.{list_any}
use Rattle.std.proofs.lemmas.List.Elements.{All-nil, All-cons, All-head, All-tail}
use Rattle.spec_control.specs.Held.{Held}
use Rattle.msg_pipe.specs.Known.{Known}
use Rattle.desk.specs.declared.given.Given.{Given}
use Rattle.desk.specs.Holding.{held_given}
use Rattle.desk.specs.TakingOver.{AreGivenWith, AreTwo, AllTwo}
use Rattle.closed_ends.specs.declared.sockets.ClosedSocket.{ClosedSocket}
use Rattle.closed_ends.specs.Has.{all_ends, is_socket}
use Rattle.closed_ends.specs.Finding.{AreTwoByTwo}
use Rattle.closed_ends.specs.Sound.{AnyTwo, AreAlone, AreSound}

-- no two closed sockets have one number
abbrev pub AllAlone : {N O I : Type 0} → List (ClosedSocket N O I) → Type 0
AllAlone [] = Unit {0}
AllAlone (s ∷ ss) = (list_any (is_socket s.number.0) ss ≡ false) × AllAlone ss

module _ {S O I N : Type 0} (K : Known S O I N) where
  pub record IsSound (pipes : S) (ss : List (ClosedSocket N O I)) : Type 0 where
    pub halves : AreGivenWith K pipes (all_ends ss)
    pub apart : AllTwo K.exact (map (held_given K.out_name K.in_name) (all_ends ss))
    pub alone : AllAlone ss

module _ {N : Type 0} (exact : Bool) where
  first_two : (x : Held N) (xs : List (Held N)) → ((middle : List (Held N)) (y : Held N) (behind : List (Held N)) → xs ≡ middle ++ y ∷ behind → AreTwo exact x y) → All (AreTwo exact x) xs
  first_two x [] h = All-nil (AreTwo exact x)
  first_two x (y ∷ ys) h = All-cons (AreTwo exact x) y ys (h [] y ys refl) (first_two x ys (λ m z b e. h (y ∷ m) z b (ap (λ l. y ∷ l) e)))

  to_two : (xs : List (Held N)) → AnyTwo exact xs → AllTwo exact xs
  to_two [] h = tt
  to_two (x ∷ xs) h = (
    first_two x xs (λ m y b e. h [] x m y b (ap (λ l. x ∷ l) e)),
    to_two xs (λ b y m z e same. h (x ∷ b) y m z e (ap (λ l. x ∷ l) same)),
  )

  one_two : (x : Held N) (middle : List (Held N)) (y : Held N) (behind : List (Held N)) → All (AreTwo exact x) (middle ++ y ∷ behind) → AreTwo exact x y
  one_two x [] y behind h = All-head (AreTwo exact x) y behind h
  one_two x (z ∷ middle) y behind h = one_two x middle y behind (All-tail (AreTwo exact x) z (middle ++ y ∷ behind) h)

  from_at : (before : List (Held N)) (x : Held N) (middle : List (Held N)) (y : Held N) (behind : List (Held N)) → AllTwo exact (before ++ x ∷ (middle ++ y ∷ behind)) → AreTwo exact x y
  from_at [] x middle y behind h = one_two x middle y behind h.0
  from_at (z ∷ before) x middle y behind h = from_at before x middle y behind h.1

  from_two : (xs : List (Held N)) → AllTwo exact xs → AnyTwo exact xs
  from_two xs h before x middle y behind e = from_at before x middle y behind (subst (AllTwo exact) e h)

module _ {N O I : Type 0} where
  to_alone : (ss : List (ClosedSocket N O I)) → AreAlone ss → AllAlone ss
  to_alone [] h = tt
  to_alone (s ∷ ss) h = (h [] s ss refl, to_alone ss (λ b t a e. h (s ∷ b) t a (ap (λ l. s ∷ l) e)))

  alone_at : (before : List (ClosedSocket N O I)) (s : ClosedSocket N O I) (behind : List (ClosedSocket N O I)) → AllAlone (before ++ s ∷ behind) → list_any (is_socket s.number.0) behind ≡ false
  alone_at [] s behind h = h.0
  alone_at (x ∷ before) s behind h = alone_at before s behind h.1

  from_alone : (ss : List (ClosedSocket N O I)) → AllAlone ss → AreAlone ss
  from_alone ss h before s behind e = alone_at before s behind (subst AllAlone e h)

module _ {S O I N : Type 0} (K : Known S O I N) where
  pub sound_of : (pipes : S) (ss : List (ClosedSocket N O I)) → AreSound K pipes ss → IsSound K pipes ss
  sound_of pipes ss sound = record {
    halves = sound.halves;
    apart = to_two K.exact (map (held_given K.out_name K.in_name) (all_ends ss)) sound.apart;
    alone = to_alone ss sound.alone;
  }

  pub are_sound : (pipes : S) (ss : List (ClosedSocket N O I)) → IsSound K pipes ss → AreSound K pipes ss
  are_sound pipes ss sound = record {
    halves = sound.halves;
    apart = from_two K.exact (map (held_given K.out_name K.in_name) (all_ends ss)) sound.apart;
    alone = from_alone ss sound.alone;
  }

-- ---- no two ends of one socket are one

module _ {N O I : Type 0} (out_name : O → N) (in_name : I → N) (exact : Bool) where
  other_end : (x : Given N O I) (xs ys : List (Given N O I)) (j : ℕ) (d : Given N O I) → j < length xs → All (AreTwo exact (held_given out_name in_name x)) (map (held_given out_name in_name) (xs ++ ys)) → x.end ≢ (slice_index_or xs j d).end
  other_end x [] ys j d within all = absurd (omega (arith, within))
  other_end x (y ∷ xs) ys zero d within all = (All-head (AreTwo exact (held_given out_name in_name x)) (held_given out_name in_name y) (map (held_given out_name in_name) (xs ++ ys)) all).ends
  other_end x (y ∷ xs) ys (suc j) d within all =
      other_end x xs ys j d (omega (arith, within)) (All-tail (AreTwo exact (held_given out_name in_name x)) (held_given out_name in_name y) (map (held_given out_name in_name) (xs ++ ys)) all)

  front_two : (xs ys : List (Given N O I)) → AllTwo exact (map (held_given out_name in_name) (xs ++ ys)) → AreTwoByTwo xs
  front_two [] ys all i j d less within = absurd (omega (arith, within))
  front_two (x ∷ xs) ys all i zero d less within = absurd (omega (arith, less))
  front_two (x ∷ xs) ys all zero (suc j) d less within = other_end x xs ys j d (omega (arith, within)) all.0
  front_two (x ∷ xs) ys all (suc i) (suc j) d less within = front_two xs ys all.1 i j d (omega (arith, less)) (omega (arith, within))

  back_two : (xs ys : List (Given N O I)) → AllTwo exact (map (held_given out_name in_name) (xs ++ ys)) → AllTwo exact (map (held_given out_name in_name) ys)
  back_two [] ys all = all
  back_two (x ∷ xs) ys all = back_two xs ys all.1

  each_two : (ss : List (ClosedSocket N O I)) → AllTwo exact (map (held_given out_name in_name) (all_ends ss)) → All (λ s. AreTwoByTwo s.ends.items) ss
  each_two [] all = All-nil (λ s. AreTwoByTwo s.ends.items)
  each_two (s ∷ ss) all = All-cons (λ t. AreTwoByTwo t.ends.items) s ss (front_two s.ends.items (all_ends ss) all) (each_two ss (back_two s.ends.items (all_ends ss) all))

pub ends_two : {S O I N : Type 0} (K : Known S O I N) (pipes : S) (ss : List (ClosedSocket N O I)) → AreSound K pipes ss → All (λ s. AreTwoByTwo s.ends.items) ss
ends_two K pipes ss sound = each_two K.out_name K.in_name K.exact ss (sound_of K pipes ss sound).apart
