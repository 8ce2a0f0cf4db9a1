-- What the control plane is told of a socket's ends, with one more behind them.
use Rattle.std.proofs.Common.{◌≡◌, ◌≢◌, ◌==◌, ◌&&◌, ◌||◌, ◌∙◌, ℕ, Bool, true, false, List, [], ◌∷◌, ◌++◌, None, Some, refl, sym, ap, if◌then◌else◌, eqb-true, ◌≤◌, arith}
use Rattle.std.specs.Prelude.{unwrap_or}
use Rattle.sock_core.specs.Sound.{KeepsRoom}
use Rattle.sock_core.specs.declared.sock.Room.{Room}
use Rattle.std.specs.List.{list_any}
use Rattle.zq_base.specs.declared.ids.EndId.{EndId}
use Rattle.zq_base.specs.declared.kind.Kind.{Kind}
use Rattle.spec_control.specs.declared.end.EndState.{EndState}
use Rattle.spec_control.specs.declared.end.EndState.TheVariants.{Active}
use Rattle.spec_control.specs.Control.{is_end}
use Rattle.spec_control.specs.Held.{Held}
use Rattle.desk.specs.Holding.{Joined, BeginsActive, has_end}
use Rattle.end_table.specs.declared.table.Place.{Place}
use Rattle.end_table.specs.Places.{held_of, held_in, is_of, writes_of, writes_in, met_of, met_in}
use Rattle.end_table.specs.Attaching.{new_place}
use Rattle.sock_core.specs.Has.{Told, state_in, has}
use Rattle.sock_core.proofs.FindLemmas.{never, same_end, has_here}

or_true : (b : Bool) → (b || true) ≡ true
or_true true = refl
or_true false = refl

or_false : (b : Bool) → (b || false) ≡ b
or_false true = refl
or_false false = refl

-- the object is the socket's, and it has no such end yet
pub mine_of : (is_open mine : Bool) → (is_open && mine) ≡ true → mine ≡ true
mine_of true mine h = h
mine_of false mine h = never (sym h)

pub open_of : (is_open mine : Bool) → (is_open && mine) ≡ true → is_open ≡ true
open_of true mine h = refl
open_of false mine h = never (sym h)

pub none_of : {N I : Type 0} (mine : Bool) (e : EndId) (ps : List (Place N I)) → mine ≡ true → has_end e (if mine then held_in ps else []) ≡ false → list_any (is_of e) ps ≡ false
none_of true e ps same h = sym (has_here e ps) ∙ h
none_of false e ps same h = never (sym same)

-- room for the ends, if there are no more than so many
pub room_of : {N O I : Type 0} (is_open : Bool) (n m : ℕ) (r : Room N O I) → m ≤ n → KeepsRoom true n r → KeepsRoom is_open m r
room_of is_open n m r few room = record {
  given = λ o. let k = room.given refl in omega (arith, few, k);
  joined = λ o. let k = room.joined refl in omega (arith, few, k);
  none_given = room.none_given;
  none_joined = room.none_joined;
}

module _ {N I : Type 0} where
  any_more : (test : Place N I → Bool) (ps : List (Place N I)) (q : Place N I) → list_any test (ps ++ q ∷ []) ≡ (list_any test ps || test q)
  any_more test [] q = or_false (test q)
  any_more test (x ∷ xs) q = ap (λ (b : Bool). test x || b) (any_more test xs q) ∙ same (test x) (list_any test xs) (test q)
    where
      same : (a b c : Bool) → (a || (b || c)) ≡ ((a || b) || c)
      same true b c = refl
      same false b c = refl

  held_more : (ps : List (Place N I)) (q : Place N I) → q.held ≡ true → held_in (ps ++ q ∷ []) ≡ held_in ps ++ held_of q ∷ []
  held_more [] q h = ap (λ (b : Bool). if b then held_of q ∷ [] else []) h
  held_more (x ∷ xs) q h = by (held_more xs q h) x.held
    where
      by : held_in (xs ++ q ∷ []) ≡ held_in xs ++ held_of q ∷ [] → (b : Bool) → (if b then held_of x ∷ held_in (xs ++ q ∷ []) else held_in (xs ++ q ∷ [])) ≡ (if b then held_of x ∷ held_in xs else held_in xs) ++ held_of q ∷ []
      by rest true = ap (λ (l : List (Held N)). held_of x ∷ l) rest
      by rest false = rest

  -- the last is the end, which none before is
  state_last : (ps : List (Place N I)) (q : Place N I) (d : EndId) → list_any (is_of d) ps ≡ false → is_of d q ≡ true → state_in (ps ++ q ∷ []) d ≡ q.state
  state_last [] q d none is = ap (λ (b : Bool). if b then q.state else state_in {N = N} {I = I} [] d) is
  state_last (x ∷ xs) q d none is =
      ap (λ (b : Bool). if b then x.state else state_in (xs ++ q ∷ []) d) (first (is_of d x) (list_any (is_of d) xs) none)
      ∙ state_last xs q d (later (is_of d x) (list_any (is_of d) xs) none) is
    where
      first : (a b : Bool) → (a || b) ≡ false → a ≡ false
      first true b h = h
      first false b h = refl

      later : (a b : Bool) → (a || b) ≡ false → b ≡ false
      later true b h = never h
      later false b h = h

  state_before : (ps : List (Place N I)) (q : Place N I) (d : EndId) → is_of d q ≡ false → state_in (ps ++ q ∷ []) d ≡ state_in ps d
  state_before [] q d off = ap (λ (b : Bool). if b then q.state else state_in {N = N} {I = I} [] d) off
  state_before (x ∷ xs) q d off = ap (λ (s : EndState). if is_of d x then x.state else s) (state_before xs q d off)

  module _ (ps : List (Place N I)) (e : EndId) (written read : N) (n o : ℕ) (is_open : Bool) (kind : Kind) (t u : Told N) (peer : Bool) where
    abbrev pub last : Place N I
    last = new_place e written read peer

    -- the end joined
    pub joined_of : (o == n) ≡ true → Joined o (record { end = e; written = written; read = read }) (has n is_open kind t ps) (has n is_open kind u (ps ++ last ∷ []))
    joined_of mine = record {
      now = record {
        ends =
            ap (λ (b : Bool). if b then held_in (ps ++ last ∷ []) else []) mine ∙ held_more ps last refl
            ∙ sym (ap (λ (b : Bool). (if b then held_in ps else []) ++ held_of last ∷ []) mine);
        others = λ i ne. other i ne (i == n) refl;
        objects = λ i. refl;
        kinds = λ i. refl;
        output = λ i. refl;
        delimiters = λ i d here at. any_more (met_of d) ps last ∙ or_false (met_in ps d) ∙ at;
      };
      writers = λ d. any_more (writes_of d) ps last ∙ by (is_end d e) (writes_in ps d);
    }
      where
        other : (i : ℕ) → i ≢ o → (b : Bool) → (i == n) ≡ b → (if b then held_in (ps ++ last ∷ []) else []) ≡ (if b then held_in ps else [])
        other i ne true same = absurd (ne (eqb-true i n same ∙ sym (eqb-true o n mine)))
        other i ne false off = refl

        by : (b w : Bool) → (w || b) ≡ (if b then true else w)
        by true w = or_true w
        by false w = or_false w

    pub begins_of : u.turns ≡ t.turns → u.sealed ≡ t.sealed → list_any (is_of e) ps ≡ false → BeginsActive e (has n is_open kind t ps) (has n is_open kind u (ps ++ last ∷ []))
    begins_of turns sealed none = record {
      states = λ i d here. by d (is_end d e) refl;
      turns = turns;
      sealed = sealed;
    }
      where
        by : (d : EndId) (b : Bool) → is_end d e ≡ b → state_in (ps ++ last ∷ []) d ≡ unwrap_or (if b then Some Active else None) (state_in ps d)
        by d true same = state_last ps last d (ap (λ (x : EndId). list_any (is_of x) ps) (same_end d e same) ∙ none) same
        by d false off = state_before ps last d off
