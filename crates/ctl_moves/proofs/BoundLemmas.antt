-- That the bind of an end attaches it, in the control state and at its holder.
use Rattle.std.specs.Prelude.{◌≡◌, ◌≢◌, ◌<◌, ◌≤◌, ◌⊎◌, ◌+◌, ◌==◌, ◌||◌, ◌++◌, ◌∷◌, [], ℕ, Bool, true, false, not, cond, List, Option, Some, None, All, filter, map, length, sum_by, unwrap_or, if◌then◌else◌, refl}
use Rattle.std.specs.List.{list_any}
use Rattle.std.proofs.Common.{arith, sym, ap, ◌∙◌, subst, inl, inr}
use Rattle.std.proofs.lemmas.Bool.{cases_eq, eq-eqb, ne_eqb}
use Rattle.std.proofs.lemmas.List.{append-nil, map-append}
use Rattle.std.proofs.lemmas.List.Elements.{All-append, All-cons, All-filter, All-head, All-nil, All-tail, All-weaker, filter-append}
use Rattle.std.proofs.lemmas.List.Folds.{list_any-append}
use Rattle.std.proofs.lemmas.List.Sums.{sum_by-set}
use Rattle.zq_base.specs.declared.ids.EndId.{EndId}
use Rattle.spec_control.specs.declared.end.EndState.TheVariants.{Active}
use Rattle.spec_control.specs.declared.end.Reason.{Reason}
use Rattle.spec_control.specs.PairPhase.{BindCame, Opens, may}
use Rattle.spec_control.specs.Place.{Place, Away, At, is_here}
use Rattle.spec_control.specs.Rows.{PairRow, no_pair, pair, pair_after, end_half, end_owner, end_place, of_ends, bind_waits}
use Rattle.spec_control.specs.Control.{Control, attach, end_of, is_end, met_in, owner_of, place_of}
use Rattle.control_laws.specs.Room.{to_come}
use Rattle.control_laws.proofs.RoomLemmas.{goes_room}
use Rattle.spec_control.specs.Held.{Held}
use Rattle.control_laws.proofs.AskLemmas.{end_self, same_end}
use Rattle.control_laws.proofs.AttachLemmas.{AttachMoved, attach_moved}
use Rattle.control_laws.specs.Move.{EndMoves, MovesTo}
use Rattle.control_laws.proofs.SoundLemmas.{Sound}
use Rattle.control_laws.proofs.ListLemmas.{never, clash, is_here as here_is, is_elsewhere, written}
use Rattle.desk.specs.Holding.{BeginsActive, Holding, Joined, has_end}
use Rattle.desk.specs.Lent.{has_writer, here_ends, HasBothNames, HasEnds, HasAll}
use Rattle.ctl_moves.proofs.HeldLemmas.{has_listed}
use Rattle.ctl_moves.proofs.SettleLemmas.{end_sym}

-- ---- lists
-- tests that agree on each element pass the same ones
pub agree_on : (p q : EndId → Bool) (es : List EndId) → All (λ e. p e ≡ q e) es → filter p es ≡ filter q es
agree_on p q [] all = refl
agree_on p q (e ∷ es) all =
    ap (λ (b : Bool). cond b (e ∷ filter p es) (filter p es)) (All-head (λ x. p x ≡ q x) e es all)
    ∙ ap (λ (xs : List EndId). cond (q e) (e ∷ xs) xs) (agree_on p q es (All-tail (λ x. p x ≡ q x) e es all))

-- an end that is none of these
pub none_any : (e : EndId) (es : List EndId) → All (λ d. is_end d e ≡ false) es → list_any (is_end e) es ≡ false
none_any e [] all = refl
none_any e (d ∷ es) all =
    ap (λ (b : Bool). b || list_any (is_end e) es) (end_sym e d ∙ All-head (λ x. is_end x e ≡ false) d es all) ∙ none_any e es (All-tail (λ x. is_end x e ≡ false) d es all)

pub or_none : (a b : Bool) → (a || (b || false)) ≡ true → b ≡ false → a ≡ true
or_none true b h none = refl
or_none false true h none = absurd (never (sym none))
or_none false false h none = absurd (never h)

-- ---- an end that is on its way
module _ (c : Control) (e : EndId) (within : e.pair.0 < length c.rows.pairs) where
  moved : AttachMoved BindCame e c (attach BindCame e c)
  moved = attach_moved c BindCame e within

  pub now_active : place_of (attach BindCame e c) e ≡ At Active
  now_active = moved.here

  pub same_owners : (x : EndId) → owner_of (attach BindCame e c) x ≡ owner_of c x
  same_owners = moved.owners

  side : (a x : Bool) (p : PairRow) → x ≢ a → end_place (pair_after BindCame a p) x ≡ end_place p x
  side true true p n = absurd (n refl)
  side true false p n = refl
  side false true p n = refl
  side false false p n = absurd (n refl)

  -- every other end is where it was
  pub elsewhere : (x : EndId) → is_end x e ≡ false → place_of (attach BindCame e c) x ≡ place_of c x
  elsewhere x other =
      elim (written c.rows.pairs (pair_after BindCame e.a (pair c.rows e.pair.0)) no_pair e.pair.0 x.pair.0 within) [
        | here_is here same ↦
            ap (λ (p : PairRow). end_place p x.a) same
            ∙ side e.a x.a (pair c.rows e.pair.0) (λ y. clash (is_end x e) (ap (λ (i : EndId). is_end i e) (ap (λ (i : ℕ). end_of i x.a) here ∙ ap (end_of e.pair.0) y) ∙ end_self e) other)
            ∙ ap (λ (i : ℕ). end_place (pair c.rows i) x.a) (sym here)
        | is_elsewhere same ↦ ap (λ (p : PairRow). end_place p x.a) same
      ]

  -- no more may come of its pair than before
  pub room_stays : Sound c.rows → may BindCame (end_half (pair c.rows e.pair.0) e.a) (end_half (pair c.rows e.pair.0) (not e.a)) ≡ true → (m : ℕ) → to_come (attach BindCame e c) m ≤ to_come c m
  room_stays sound comes m = let all = goes_room (EndMoves e BindCame ∷ []) c (attach BindCame e c) sound moves m in omega (arith, all)
    where
      other : BindCame ≡ Opens → ⊥
      other f = grind arith

      moves : MovesTo (EndMoves e BindCame ∷ []) c (attach BindCame e c)
      moves = record { moves = EndMoves e BindCame ∷ []; own_are = refl; leads = (record { comes = comes; unended = λ f x. absurd (other f) }, (refl, refl)) }

  -- ---- the ends that are there
  module _ (fresh : All (λ x. is_end x e ≡ false) c.attached) (o : ℕ) (owner : owner_of c e ≡ o) where
    old_ones : (i : ℕ) → here_ends (attach BindCame e c).rows.pairs c.attached i ≡ here_ends c.rows.pairs c.attached i
    old_ones i =
        ap (filter (λ x. is_here (place_of (attach BindCame e c) x)))
        (agree_on (λ x. owner_of (attach BindCame e c) x == i) (λ x. owner_of c x == i) c.attached
        (All-weaker (λ x. is_end x e ≡ false) (λ x. (owner_of (attach BindCame e c) x == i) ≡ (owner_of c x == i)) (λ x other. ap (λ (n : ℕ). n == i) (same_owners x)) c.attached fresh))
        ∙ agree_on (λ x. is_here (place_of (attach BindCame e c) x)) (λ x. is_here (place_of c x)) (filter (λ x. owner_of c x == i) c.attached)
        (All-weaker (λ x. is_end x e ≡ false) (λ x. is_here (place_of (attach BindCame e c) x) ≡ is_here (place_of c x)) (λ x other. ap is_here (elsewhere x other)) (filter (λ x. owner_of c x == i) c.attached)
        (All-filter (λ x. owner_of c x == i) (λ x. is_end x e ≡ false) c.attached fresh))

    all_ones : (i : ℕ) → here_ends (attach BindCame e c).rows.pairs (attach BindCame e c).attached i
        ≡ here_ends c.rows.pairs c.attached i ++ filter (λ x. is_here (place_of (attach BindCame e c) x)) (filter (λ x. owner_of (attach BindCame e c) x == i) (e ∷ []))
    all_ones i =
        ap (filter (λ x. is_here (place_of (attach BindCame e c) x))) (filter-append (λ x. owner_of (attach BindCame e c) x == i) c.attached (e ∷ []))
        ∙ filter-append (λ x. is_here (place_of (attach BindCame e c) x)) (filter (λ x. owner_of (attach BindCame e c) x == i) c.attached) (filter (λ x. owner_of (attach BindCame e c) x == i) (e ∷ []))
        ∙ ap (λ (es : List EndId). es ++ filter (λ x. is_here (place_of (attach BindCame e c) x)) (filter (λ x. owner_of (attach BindCame e c) x == i) (e ∷ []))) (old_ones i)

    mine_more : here_ends (attach BindCame e c).rows.pairs (attach BindCame e c).attached o ≡ here_ends c.rows.pairs c.attached o ++ e ∷ []
    mine_more =
        all_ones o
        ∙ ap (λ (b : Bool). here_ends c.rows.pairs c.attached o ++ filter (λ x. is_here (place_of (attach BindCame e c) x)) (cond b (e ∷ []) [])) (eq-eqb (owner_of (attach BindCame e c) e) o (same_owners e ∙ owner))
        ∙ ap (λ (p : Place). here_ends c.rows.pairs c.attached o ++ cond (is_here p) (e ∷ []) []) now_active

    theirs_same : (i : ℕ) → i ≢ o → here_ends (attach BindCame e c).rows.pairs (attach BindCame e c).attached i ≡ here_ends c.rows.pairs c.attached i
    theirs_same i other =
        all_ones i
        ∙ ap (λ (b : Bool). here_ends c.rows.pairs c.attached i ++ filter (λ x. is_here (place_of (attach BindCame e c) x)) (cond b (e ∷ []) []))
        (ne_eqb (owner_of (attach BindCame e c) e) i (λ same. other (sym same ∙ same_owners e ∙ owner)))
        ∙ append-nil (here_ends c.rows.pairs c.attached i)

    -- the holder has no such end
    pub not_there : {N : Type 0} (names : EndId → Option N) (h : Holding N) (i : ℕ) → HasEnds names c.rows.pairs c.attached c.reasons h i → has_end e (h.ends i) ≡ false
    not_there names h i has =
        has_listed e (h.ends i) ∙ ap (list_any (is_end e)) has.ends
        ∙ none_any e (here_ends c.rows.pairs c.attached i)
        (All-filter (λ x. is_here (place_of c x)) (λ x. is_end x e ≡ false) (filter (λ x. owner_of c x == i) c.attached) (All-filter (λ x. owner_of c x == i) (λ x. is_end x e ≡ false) c.attached fresh))

    module _ {N : Type 0} (names : EndId → Option N) (h k : Holding N) (w r : N) (joined : Joined o (record { end = e; written = w; read = r }) h k) (begins : BeginsActive e h k) (named : HasBothNames names (record { end = e; written = w; read = r })) where
      abbrev now : Held N
      now = record { end = e; written = w; read = r }

      had : (i : ℕ) (x : EndId) → is_end x e ≡ false → has_end x (k.ends i) ≡ true → has_end x (h.ends i) ≡ true
      had i x other here = by (cases_eq i o)
        where
          by : (i ≡ o) ⊎ (i ≡ o → ⊥) → has_end x (h.ends i) ≡ true
          by (inl same) =
              or_none (has_end x (h.ends i)) (is_end x e)
              (sym (list_any-append (λ y. is_end x y.end) (h.ends i) (now ∷ [])) ∙ sym (ap (has_end x) (ap k.ends same ∙ joined.now.ends ∙ ap (λ (n : ℕ). h.ends n ++ now ∷ []) (sym same))) ∙ here) other
          by (inr differ) = sym (ap (has_end x) (joined.now.others i differ)) ∙ here

      ends_now : (i : ℕ) → HasEnds names c.rows.pairs c.attached c.reasons h i → map (λ x. x.end) (k.ends i) ≡ here_ends (attach BindCame e c).rows.pairs (attach BindCame e c).attached i
      ends_now i has = by (cases_eq i o)
        where
          by : (i ≡ o) ⊎ (i ≡ o → ⊥) → map (λ x. x.end) (k.ends i) ≡ here_ends (attach BindCame e c).rows.pairs (attach BindCame e c).attached i
          by (inl same) =
              ap (λ (hs : List (Held N)). map (λ x. x.end) hs) (ap k.ends same ∙ joined.now.ends ∙ ap (λ (n : ℕ). h.ends n ++ now ∷ []) (sym same))
              ∙ map-append (λ x. x.end) (h.ends i) (now ∷ []) ∙ ap (λ (es : List EndId). es ++ e ∷ []) has.ends
              ∙ ap (λ (n : ℕ). here_ends c.rows.pairs c.attached n ++ e ∷ []) same ∙ sym mine_more ∙ ap (λ (n : ℕ). here_ends (attach BindCame e c).rows.pairs (attach BindCame e c).attached n) (sym same)
          by (inr differ) = ap (λ (hs : List (Held N)). map (λ x. x.end) hs) (joined.now.others i differ) ∙ has.ends ∙ sym (theirs_same i differ)

      named_now : (i : ℕ) → HasEnds names c.rows.pairs c.attached c.reasons h i → All (HasBothNames names) (k.ends i)
      named_now i has = by (cases_eq i o)
        where
          by : (i ≡ o) ⊎ (i ≡ o → ⊥) → All (HasBothNames names) (k.ends i)
          by (inl same) =
              subst (λ (hs : List (Held N)). All (HasBothNames names) hs) (sym (ap k.ends same ∙ joined.now.ends ∙ ap (λ (n : ℕ). h.ends n ++ now ∷ []) (sym same)))
              (All-append (HasBothNames names) (h.ends i) (now ∷ []) has.named (All-cons (HasBothNames names) now [] named (All-nil (HasBothNames names))))
          by (inr differ) = subst (λ (hs : List (Held N)). All (HasBothNames names) hs) (sym (joined.now.others i differ)) has.named

      writes_now : (i : ℕ) → HasEnds names c.rows.pairs c.attached c.reasons h i → (x : EndId) → has_end x (k.ends i) ≡ true → k.writes x ≡ has_writer (place_of (attach BindCame e c) x)
      writes_now i has x here = by (is_end x e) refl
        where
          by : (b : Bool) → is_end x e ≡ b → k.writes x ≡ has_writer (place_of (attach BindCame e c) x)
          by true same =
              joined.writers x ∙ ap (λ (y : Bool). if y then true else h.writes x) same
              ∙ sym (ap (λ (y : EndId). has_writer (place_of (attach BindCame e c) y)) (same_end x e same) ∙ ap has_writer now_active)
          by false other =
              joined.writers x ∙ ap (λ (y : Bool). if y then true else h.writes x) other ∙ has.writes x (had i x other here) ∙ sym (ap has_writer (elsewhere x other))

      met_now : (i : ℕ) → HasEnds names c.rows.pairs c.attached c.reasons h i → (x : EndId) → has_end x (k.ends i) ≡ true → met_in (place_of (attach BindCame e c) x) (c.reasons x) ≡ true → k.at_delimiter x ≡ true
      met_now i has x here met = by (is_end x e) refl
        where
          unmet : (reason : Option Reason) → met_in (At Active) reason ≡ false
          unmet None = refl
          unmet (Some reason) = refl

          by : (b : Bool) → is_end x e ≡ b → k.at_delimiter x ≡ true
          by true same =
              absurd (never (sym (ap (λ (p : Place). met_in p (c.reasons x)) (ap (λ (y : EndId). place_of (attach BindCame e c) y) (same_end x e same) ∙ now_active) ∙ unmet (c.reasons x)) ∙ met))
          by false other =
              joined.now.delimiters i x here (has.delimiters x (had i x other here) (sym (ap (λ (p : Place). met_in p (c.reasons x)) (elsewhere x other)) ∙ met))

      states_now : (i : ℕ) → HasEnds names c.rows.pairs c.attached c.reasons h i → (x : EndId) → has_end x (k.ends i) ≡ true → place_of (attach BindCame e c) x ≡ At (k.state x)
      states_now i has x here = by (is_end x e) refl
        where
          by : (b : Bool) → is_end x e ≡ b → place_of (attach BindCame e c) x ≡ At (k.state x)
          by true same =
              ap (λ (y : EndId). place_of (attach BindCame e c) y) (same_end x e same) ∙ now_active
              ∙ ap At (sym (begins.states i x here ∙ ap (λ (y : Bool). unwrap_or (if y then Some Active else None) (h.state x)) same))
          by false other =
              elsewhere x other ∙ has.states x (had i x other here)
              ∙ ap At (sym (begins.states i x here ∙ ap (λ (y : Bool). unwrap_or (if y then Some Active else None) (h.state x)) other))

      -- it has this one more
      pub has_bound : HasAll names c h → HasAll names (attach BindCame e c) k
      has_bound has i holds = of (has i (sym (joined.now.objects i) ∙ holds))
        where
          of : HasEnds names c.rows.pairs c.attached c.reasons h i → HasEnds names (attach BindCame e c).rows.pairs (attach BindCame e c).attached (attach BindCame e c).reasons k i
          of was = record { ends = ends_now i was; named = named_now i was; writes = writes_now i was; delimiters = met_now i was; states = states_now i was }

-- ---- how many ends are on their way to an object
one_gone : (b : Bool) (n : ℕ) → n ≡ 1 → ◌≡◌ {A = ℕ} (cond b 0 0 + cond b 1 0) (cond b n 0)
one_gone true n is = sym is
one_gone false n is = refl

pair_gone : (a : Bool) (p : PairRow) (i : ℕ) → end_place p a ≡ Away → ◌≡◌ {A = ℕ} (of_ends bind_waits i (pair_after BindCame a p) + cond (end_owner p a == i) 1 0) (of_ends bind_waits i p)
pair_gone true p i away =
    let mine = one_gone (p.a_owner == i) (bind_waits p.a) (ap bind_waits away) in
    omega (arith, mine)
pair_gone false p i away =
    let mine = one_gone (p.b_owner == i) (bind_waits p.b) (ap bind_waits away) in
    omega (arith, mine)

module _ (c : Control) (e : EndId) (within : e.pair.0 < length c.rows.pairs) (away : place_of c e ≡ Away) where
  -- there is one fewer of its owner's
  pub binds_gone : (i : ℕ) → sum_by (of_ends bind_waits i) (attach BindCame e c).rows.pairs + cond (owner_of c e == i) 1 0 ≡ sum_by (of_ends bind_waits i) c.rows.pairs
  binds_gone i =
      let sums = sum_by-set (of_ends bind_waits i) c.rows.pairs e.pair.0 (pair_after BindCame e.a (pair c.rows e.pair.0)) no_pair within in
      let one = pair_gone e.a (pair c.rows e.pair.0) i away in
      omega (arith, sums, one)

  -- and there was one at least
  pub one_waits : (at : ℕ) → owner_of c e ≡ at → 1 ≤ sum_by (of_ends bind_waits at) c.rows.pairs
  one_waits at owner =
      let gone = binds_gone at in
      let mine = ap {B = ℕ} (λ (b : Bool). cond b 1 0) (eq-eqb (owner_of c e) at owner) in
      omega (arith, gone, mine)
