-- The ends of a closed socket are others than those that the reaper has, and so are their pipes.
use Rattle.std.specs.Prelude.{◌≡◌, ◌≢◌, ◌==◌, ◌||◌, ◌∷◌, [], ℕ, Bool, true, false, not, List, Option, Some, All, filter, map, refl, if◌then◌else◌}
use Rattle.std.specs.List.{list_any}
use Rattle.std.proofs.Common.{sym, ap, ◌∙◌, subst}
use Rattle.std.proofs.lemmas.List.Elements.{All-nil, All-cons, All-head, All-tail, All-weaker, All-map}
use Rattle.zq_base.specs.Ends.{other_end}
use Rattle.zq_base.specs.declared.ids.EndId.{EndId}
use Rattle.zq_base.specs.declared.ids.ObjId.{ObjId}
use Rattle.spec_control.specs.Place.{is_here}
use Rattle.spec_control.specs.Control.{ends_of, is_end, owner_of, place_of}
use Rattle.spec_control.specs.Held.{Held}
use Rattle.control_laws.specs.AttachedOnce.{AreOnce}
use Rattle.control_laws.proofs.AskLemmas.{end_self}
use Rattle.control_laws.proofs.ListLemmas.{never}
use Rattle.desk.specs.declared.given.Given.{Given}
use Rattle.desk.specs.declared.given.Parting.{Parting}
use Rattle.desk.specs.declared.load.Load.{Load}
use Rattle.desk.specs.Holding.{Holding, given_as, held_given}
use Rattle.desk.specs.Lent.{HasBothNames}
use Rattle.desk.specs.Load.{IsNamed}
use Rattle.desk.specs.TakingOver.{AreDistinct, AreTwo, AllTwo, ComeApart}
use Rattle.spec_control.specs.declared.entry.Joining.{Joining}
use Rattle.ctl_state.specs.declared.state.State.{State}
use Rattle.ctl_moves.specs.Reaping.{MayReap}
use Rattle.ctl_moves.proofs.ReapLemmas.{all_of_map, map_of_map, ends_are, own_ends}

none_among : (f : EndId → Bool) (e : EndId) (ds : List EndId) → list_any (is_end e) ds ≡ false → list_any (is_end e) (filter f ds) ≡ false
none_among f e [] h = refl
none_among f e (d ∷ ds) h = by (none_among f e ds) (f d) (is_end e d) refl h
  where
    by : (list_any (is_end e) ds ≡ false → list_any (is_end e) (filter f ds) ≡ false) → (b c : Bool) → is_end e d ≡ c → (c || list_any (is_end e) ds) ≡ false → list_any (is_end e) (if b then d ∷ filter f ds else filter f ds) ≡ false
    by later b true same k = absurd (never (sym k))
    by later true false other k = ap (λ (x : Bool). x || list_any (is_end e) (filter f ds)) other ∙ later k
    by later false false other k = later k

-- ends that stand once stand once among fewer
once_among : (f : EndId → Bool) (es : List EndId) → AreOnce es → AreOnce (filter f es)
once_among f [] once = tt
once_among f (e ∷ es) once = by (f e) (once_among f es once.1)
  where
    by : (b : Bool) → AreOnce (filter f es) → AreOnce (if b then e ∷ filter f es else filter f es)
    by true rest = (none_among f e es once.0, rest)
    by false rest = rest

others_end : (d e : EndId) → other_end d ≡ other_end e → d ≡ e
others_end d e same = sym (twice d) ∙ ap other_end same ∙ twice e where
  back : (b : Bool) → not (not b) ≡ b
  back true = refl
  back false = refl

  twice : (x : EndId) → other_end (other_end x) ≡ x
  twice x = ap (λ (b : Bool). let y : EndId = record { pair = x.pair; a = b } in y) (back x.a)

module _ {N : Type 0} (exact : Bool) (names : EndId → Option N) (distinct : AreDistinct exact names) where
  -- pipes of two ends that have their names are two
  two_of : (x y : Held N) → HasBothNames names x → HasBothNames names y → x.end ≢ y.end → AreTwo exact x y
  two_of x y mine theirs other = record {
    ends = other;
    written = λ ex same. other (distinct ex x.end y.end x.written mine.written (theirs.written ∙ ap Some (sym same)));
    read = λ ex same. other (others_end x.end y.end (distinct ex (other_end x.end) (other_end y.end) x.read mine.read (theirs.read ∙ ap Some (sym same))));
  }

  two_from : (x : Held N) (ys : List (Held N)) → HasBothNames names x → All (HasBothNames names) ys → All (λ y. x.end ≢ y.end) ys → All (AreTwo exact x) ys
  two_from x [] mine all other = All-nil (AreTwo exact x)
  two_from x (y ∷ ys) mine all other =
      All-cons (AreTwo exact x) y ys
      (two_of x y mine (All-head (HasBothNames names) y ys all) (All-head (λ (z : Held N). x.end ≢ z.end) y ys other))
      (two_from x ys mine (All-tail (HasBothNames names) y ys all) (All-tail (λ (z : Held N). x.end ≢ z.end) y ys other))

  none_same : (e : EndId) (ys : List (Held N)) → list_any (is_end e) (map (λ (y : Held N). y.end) ys) ≡ false → All (λ y. e ≢ y.end) ys
  none_same e [] h = All-nil (λ (y : Held N). e ≢ y.end)
  none_same e (y ∷ ys) h = by (none_same e ys) (is_end e y.end) refl h
    where
      by : (list_any (is_end e) (map (λ (z : Held N). z.end) ys) ≡ false → All (λ z. e ≢ z.end) ys) → (b : Bool) → is_end e y.end ≡ b → (b || list_any (is_end e) (map (λ (z : Held N). z.end) ys)) ≡ false → All (λ z. e ≢ z.end) (y ∷ ys)
      by later true same k = absurd (never (sym k))
      by later false other k = All-cons (λ (z : Held N). e ≢ z.end) y ys (λ (same : e ≡ y.end). never (sym other ∙ ap (is_end e) (sym same) ∙ end_self e)) (later k)

  all_two : (xs : List (Held N)) → AreOnce (map (λ (x : Held N). x.end) xs) → All (HasBothNames names) xs → AllTwo exact xs
  all_two [] once all = tt
  all_two (x ∷ xs) once all = (
    two_from x xs (All-head (HasBothNames names) x xs all) (All-tail (HasBothNames names) x xs all) (none_same x.end xs once.0),
    all_two xs once.1 (All-tail (HasBothNames names) x xs all),
  )

  -- ends of one object are others than those of another
  apart_from : (owner : EndId → ℕ) (i o : ℕ) → i ≢ o → (xs ys : List (Held N)) → All (λ x. owner x.end ≡ i) xs → All (λ y. owner y.end ≡ o) ys
      → All (HasBothNames names) xs → All (HasBothNames names) ys → All (λ x. All (AreTwo exact x) ys) xs
  apart_from owner i o ne [] ys mine theirs named all = All-nil (λ (x : Held N). All (AreTwo exact x) ys)
  apart_from owner i o ne (x ∷ xs) ys mine theirs named all =
      All-cons (λ (z : Held N). All (AreTwo exact z) ys) x xs
      (two_from x ys (All-head (HasBothNames names) x xs named) all
      (All-weaker (λ (y : Held N). owner y.end ≡ o) (λ (y : Held N). x.end ≢ y.end)
      (λ y at same. ne (sym (All-head (λ (z : Held N). owner z.end ≡ i) x xs mine) ∙ ap owner same ∙ at)) ys theirs))
      (apart_from owner i o ne xs ys (All-tail (λ (z : Held N). owner z.end ≡ i) x xs mine) theirs (All-tail (HasBothNames names) x xs named) all)

module _ {N O I : Type 0} (out_name : O → N) (in_name : I → N) (s : State (Load N O I)) (h : Holding N) (socket : ObjId) (parting : Parting N O I) (w : MayReap out_name in_name s h socket.0 parting) where
  abbrev hs : List (Held N)
  hs = map (held_given out_name in_name) parting.ends.items

  ends_given : map (λ (x : Held N). x.end) (map (held_given out_name in_name) parting.ends.items) ≡ filter (λ e. is_here (place_of w.control e)) (ends_of socket.0 w.control)
  ends_given = map_of_map (λ (x : Held N). x.end) (held_given out_name in_name) parting.ends.items ∙ ends_are out_name in_name s h socket parting w

  named_given : All (HasBothNames w.names) (map (held_given out_name in_name) parting.ends.items)
  named_given =
      All-map (HasBothNames w.names) (held_given out_name in_name) parting.ends.items
      (All-weaker (λ (g : Given N O I). IsNamed out_name in_name w.names (given_as out_name in_name g)) (λ (g : Given N O I). HasBothNames w.names (held_given out_name in_name g)) (λ g is. record { written = is.written; read = is.read }) parting.ends.items
      (all_of_map (IsNamed out_name in_name w.names) (given_as out_name in_name) parting.ends.items (subst (λ (js : List (Joining N)). All (IsNamed out_name in_name w.names) js) w.reaps.ends.listed w.reaps.ends.named)))

  owned : (i : ℕ) (xs : List (Held N)) → map (λ (x : Held N). x.end) xs ≡ filter (λ e. is_here (place_of w.control e)) (ends_of i w.control) → All (λ x. owner_of w.control x.end ≡ i) xs
  owned i xs are = all_of_map (λ e. owner_of w.control e ≡ i) (λ (x : Held N). x.end) xs (subst (λ (es : List EndId). All (λ e. owner_of w.control e ≡ i) es) (sym are) (own_ends out_name in_name s h socket parting w i))

  -- where pipes have names of their own, and no end was attached twice
  pub reaped_apart : (exact : Bool) → AreOnce w.control.attached → AreDistinct exact w.names → ComeApart exact (map (held_given out_name in_name) parting.ends.items) h
  reaped_apart exact once distinct = record {
    each = all_two exact w.names distinct (map (held_given out_name in_name) parting.ends.items)
        (subst AreOnce (sym ends_given) (once_among (λ e. is_here (place_of w.control e)) (ends_of socket.0 w.control) (once_among (λ e. owner_of w.control e == socket.0) w.control.attached once)))
        named_given;
    here = λ i holds.
        apart_from exact w.names distinct (owner_of w.control) i socket.0 (λ (same : i ≡ socket.0). never (sym w.reaps.free ∙ ap h.holds (sym same) ∙ holds)) (h.ends i) (map (held_given out_name in_name) parting.ends.items)
        (owned i (h.ends i) (w.has i holds).ends) (owned socket.0 (map (held_given out_name in_name) parting.ends.items) ends_given) (w.has i holds).named named_given;
  }
