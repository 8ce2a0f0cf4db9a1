-- Which closed sockets came in a call, by their numbers.
use Rattle.std.proofs.Common.{◌≡◌, ◌⊎◌, ◌++◌, ◌∙◌, ◌==◌, ◌||◌, inl, inr, ℕ, Bool, true, false, List, [], ◌∷◌, map, refl, sym, ap, subst}
use Rattle.std.specs.Prelude.{flat_map}
use Rattle.std.specs.List.{list_any}
use Rattle.std.proofs.lemmas.Bool.{eq-eqb, eqb-true}
use Rattle.zq_base.specs.declared.ids.ObjId.{ObjId}
use Rattle.msg_pipe.specs.Known.{Known}
use Rattle.closed_ends.specs.declared.sockets.ClosedSocket.{ClosedSocket}
use Rattle.closed_ends.specs.Coming.{sockets_by}
use Rattle.closed_ends.specs.Has.{is_socket}
use Rattle.closed_ends.proofs.FormLemmas.{AllAlone, sound_of}
use Rattle.closed_ends.proofs.ListLemmas.{same_ends}
use Rattle.core_laws.specs.Came.{SocketsCame, NoSocketComes, OneSocketComes}

never : true ≡ false → ⊥
never e = cc

-- one of these numbers is this
abbrev among_numbers : ℕ → List ObjId → Bool
among_numbers i ns = list_any (λ n. i == n.0) ns

-- no number comes twice
abbrev AreOnce : List ObjId → Type 0
AreOnce [] = Unit {0}
AreOnce (n ∷ ns) = (among_numbers n.0 ns ≡ false) × AreOnce ns

it_is_there : (i : ℕ) (ns os : List ObjId) (o : ObjId) → i ≡ o.0 → among_numbers i (ns ++ o ∷ os) ≡ true
it_is_there i [] os o same = ap (λ (b : Bool). b || among_numbers i os) (eq-eqb i o.0 same)
it_is_there i (n ∷ ns) os o same = by (i == n.0) (it_is_there i ns os o same)
  where
    by : (b : Bool) → among_numbers i (ns ++ o ∷ os) ≡ true → (b || among_numbers i (ns ++ o ∷ os)) ≡ true
    by true t = refl
    by false t = t

-- so one behind others is none of those
not_before : (o : ObjId) (ns os : List ObjId) → AreOnce (ns ++ o ∷ os) → among_numbers o.0 ns ≡ true → ⊥
not_before o [] os once some = never (sym some)
not_before o (n ∷ ns) os once some = by (o.0 == n.0) refl some (not_before o ns os once.1)
  where
    by : (b : Bool) → (o.0 == n.0) ≡ b → (b || among_numbers o.0 ns) ≡ true → (among_numbers o.0 ns ≡ true → ⊥) → ⊥
    by true is t rest = never (sym (it_is_there n.0 ns os o (sym (eqb-true o.0 n.0 is))) ∙ once.0)
    by false is t rest = rest t

module _ {N O I : Type 0} where
  abbrev numbers : List (ClosedSocket N O I) → List ObjId
  numbers ss = map (λ s. s.number) ss

  by_number : (i : ℕ) (ss : List (ClosedSocket N O I)) → list_any (is_socket i) ss ≡ among_numbers i (numbers ss)
  by_number i [] = refl
  by_number i (s ∷ ss) = ap (λ (b : Bool). (i == s.number.0) || b) (by_number i ss)

  are_once : (ss : List (ClosedSocket N O I)) → AllAlone ss → AreOnce (numbers ss)
  are_once [] alone = tt
  are_once (s ∷ ss) alone = (sym (by_number s.number.0 ss) ∙ alone.0, are_once ss alone.1)

pub no_socket_comes : {S O I N : Type 0} (K : Known S O I N) → NoSocketComes K
no_socket_comes K c now found given pipes from to has sound keeps none_in stay = by (flat_map sockets_by has.ways) has.sockets
  where
    by : (os : List ObjId) → numbers to.sockets.items ≡ numbers from.sockets.items ++ os → SocketsCame K from to []
    by [] are = are
    by (o ∷ os) are =
        let held : list_any (is_socket o.0) to.sockets.items ≡ true = by_number o.0 to.sockets.items ∙ ap (among_numbers o.0) are ∙ it_is_there o.0 (numbers from.sockets.items) os o refl in
        elim (keeps.had o.0 held) [
          | inl was ↦ absurd (not_before o (numbers from.sockets.items) os (subst AreOnce are (are_once to.sockets.items (sound_of K pipes to.sockets.items sound).alone)) (sym (by_number o.0 from.sockets.items) ∙ was.0))
          | inr came ↦ elim came [
            | inl reaped ↦ absurd (never (sym (stay o.0 reaped.between) ∙ reaped.taken))
            | inr taken ↦ absurd (never (sym taken.came ∙ none_in o.0))
          ]
        ]

in_front : (i : ℕ) (ns os : List ObjId) → among_numbers i ns ≡ true → among_numbers i (ns ++ os) ≡ true
in_front i [] os some = absurd (never (sym some))
in_front i (n ∷ ns) os some = by (i == n.0) some (in_front i ns os)
  where
    by : (b : Bool) → (b || among_numbers i ns) ≡ true → (among_numbers i ns ≡ true → among_numbers i (ns ++ os) ≡ true) → (b || among_numbers i (ns ++ os)) ≡ true
    by true t rest = refl
    by false t rest = rest t

pub one_socket_comes : {S O I N : Type 0} (K : Known S O I N) → OneSocketComes K
one_socket_comes {S} {O} {I} {N} K c now found given pipes from to has sound keeps none_in r only = by (flat_map sockets_by has.ways) has.sockets
  where
    -- a closed socket that is none of those before came with its Reap
    reaped : (ns os : List ObjId) (o : ObjId) → numbers to.sockets.items ≡ ns ++ o ∷ os → (among_numbers o.0 (numbers from.sockets.items) ≡ true → among_numbers o.0 ns ≡ true) → o.0 ≡ r
    reaped ns os o are front =
        let held : list_any (is_socket o.0) to.sockets.items ≡ true = by_number o.0 to.sockets.items ∙ ap (among_numbers o.0) are ∙ it_is_there o.0 ns os o refl in
        elim (keeps.had o.0 held) [
          | inl was ↦ absurd (not_before o ns os (subst AreOnce are (are_once to.sockets.items (sound_of K pipes to.sockets.items sound).alone)) (front (sym (by_number o.0 from.sockets.items) ∙ was.0)))
          | inr came ↦ elim came [
            | inl between ↦ only o.0 between.between between.taken
            | inr taken ↦ absurd (never (sym taken.came ∙ none_in o.0))
          ]
        ]

    by : (os : List ObjId) → numbers to.sockets.items ≡ numbers from.sockets.items ++ os → SocketsCame K from to [] ⊎ ((o : ObjId) × (o.0 ≡ r) × SocketsCame K from to (o ∷ []))
    by [] are = inl are
    by (o ∷ []) are = inr (o, reaped (numbers from.sockets.items) [] o are (λ some. some), are)
    by (o ∷ p ∷ os) are =
        let ns = numbers from.sockets.items in
        let more = are ∙ sym (same_ends ns (o ∷ []) (p ∷ os)) in
        let first = reaped ns (p ∷ os) o are (λ some. some) in
        let second = reaped (ns ++ o ∷ []) os p more (λ some. in_front p.0 ns (o ∷ []) some) in
        absurd (not_before p (ns ++ o ∷ []) os (subst AreOnce more (are_once to.sockets.items (sound_of K pipes to.sockets.items sound).alone)) (it_is_there p.0 ns [] o (second ∙ sym first)))
