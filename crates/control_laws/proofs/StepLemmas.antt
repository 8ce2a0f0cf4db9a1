-- One step of the rows, within an event of one object, with all that is kept of them.
use Rattle.std.specs.Prelude.{◌≡◌, ◌≢◌, ◌<◌, ℕ, Bool, true, false, not, [], ◌∷◌, length, Option, Some, refl}
use Rattle.std.proofs.Common.{arith, sym, ap, ◌∙◌, subst, length-set, length-append}
use Rattle.spec_control.specs.declared.stage.Stage.TheVariants.{Finished}
use Rattle.spec_control.specs.Stage.{has_ended}
use Rattle.spec_control.specs.Place.{Half}
use Rattle.spec_control.specs.PairPhase.{PairEvent, Opens, place_in, half, place_after, other_after, may, mine_after, theirs_after, GoesOn}
use Rattle.spec_control.specs.Row.{Row, nobody, LinkEvent, OwnComes, PlugComes, IsTold, TermComes, AsksOver, RequestComes, ReapComes, AckComes, RootAsked, StopPut, StopComes, AsksForLink, AsksForLinger, link_may, link_after, is_over}
use Rattle.spec_control.specs.Rows.{PairRow, Rows, no_pair, obj, pair, with_object, with_pair, end_place, end_owner, end_half, pair_after, IsInPhase, PairMoves, MayEnd, makes_object, draws_pair, opens_pair, link_moves, pair_moves, object_ends}
use Rattle.spec_control.specs.After.{pair_or_none}
use Rattle.spec_control.proofs.PhaseLemmas.{phases_are_closed}
use Rattle.control_laws.specs.Reached.{IsReached, begins, goes_on}
use Rattle.control_laws.specs.Prompt.{IsPromptBut, HasShape, IsOf, HaveTheirPairs}
use Rattle.control_laws.proofs.ListLemmas.{is_here as here_is, is_elsewhere, written, placed}
use Rattle.control_laws.proofs.LinkLemmas.{IsSeen, link_keeps, seen, half_of, place_is}
use Rattle.control_laws.proofs.ClosedLemmas.{Inv}
use Rattle.control_laws.proofs.RowLemmas.{holds, pair_there}
use Rattle.control_laws.proofs.ShapeLemmas.{shape_row, shape_pair}
use Rattle.control_laws.proofs.OthersLemmas.{link_prompt}
use Rattle.control_laws.proofs.PromptLemmas.{half_prompt, end_prompt}

-- what is kept of the rows within an event of b
pub record RowsKept (b : ℕ) (s : Rows) (out : ℕ → Bool) : Type 0 where
  pub reached : IsReached s
  pub shape : HasShape s
  pub prompt : IsPromptBut b s out
  pub pairs : HaveTheirPairs s

pub inv_of : {b : ℕ} {s : Rows} {out : ℕ → Bool} → RowsKept b s out → Inv s
inv_of {b} {s} k = holds s k.reached

-- a row that is not over is there
pub link_there : (s : Rows) (c : ℕ) (e : LinkEvent) → Inv s → link_may e (obj s c) ≡ true → c < length s.objects
link_there s c e inv may = placed is_over s.objects nobody c refl (link_keeps (obj s c) (inv.fits c) e may).busy

-- what no event between an object and its owner changes
pub same_kind : (e : LinkEvent) (o : Row) → (link_after e o).kind ≡ o.kind
same_kind OwnComes o = refl
same_kind PlugComes o = refl
same_kind IsTold o = refl
same_kind TermComes o = refl
same_kind AsksOver o = refl
same_kind RequestComes o = refl
same_kind ReapComes o = refl
same_kind AckComes o = refl
same_kind RootAsked o = refl
same_kind StopPut o = refl
same_kind StopComes o = refl
same_kind AsksForLink o = refl
same_kind AsksForLinger o = refl

pub same_owner : (e : LinkEvent) (o : Row) → (link_after e o).owner ≡ o.owner
same_owner OwnComes o = refl
same_owner PlugComes o = refl
same_owner IsTold o = refl
same_owner TermComes o = refl
same_owner AsksOver o = refl
same_owner RequestComes o = refl
same_owner ReapComes o = refl
same_owner AckComes o = refl
same_owner RootAsked o = refl
same_owner StopPut o = refl
same_owner StopComes o = refl
same_owner AsksForLink o = refl
same_owner AsksForLinger o = refl

pub same_slot : (e : LinkEvent) (o : Row) → (link_after e o).slot ≡ o.slot
same_slot OwnComes o = refl
same_slot PlugComes o = refl
same_slot IsTold o = refl
same_slot TermComes o = refl
same_slot AsksOver o = refl
same_slot RequestComes o = refl
same_slot ReapComes o = refl
same_slot AckComes o = refl
same_slot RootAsked o = refl
same_slot StopPut o = refl
same_slot StopComes o = refl
same_slot AsksForLink o = refl
same_slot AsksForLinger o = refl

pub same_pair : (e : LinkEvent) (o : Row) → ((link_after e o).accepted ≡ o.accepted) × ((link_after e o).pair ≡ o.pair)
same_pair OwnComes o = (refl, refl)
same_pair PlugComes o = (refl, refl)
same_pair IsTold o = (refl, refl)
same_pair TermComes o = (refl, refl)
same_pair AsksOver o = (refl, refl)
same_pair RequestComes o = (refl, refl)
same_pair ReapComes o = (refl, refl)
same_pair AckComes o = (refl, refl)
same_pair RootAsked o = (refl, refl)
same_pair StopPut o = (refl, refl)
same_pair StopComes o = (refl, refl)
same_pair AsksForLink o = (refl, refl)
same_pair AsksForLinger o = (refl, refl)

-- sessions' pairs, where a row of the same owner and pair is written, and where a pair of the same owners is
pairs_row : (s : Rows) (c : ℕ) (n : Row) → c < length s.objects → n.owner ≡ (obj s c).owner → n.accepted ≡ (obj s c).accepted → n.pair ≡ (obj s c).pair → HaveTheirPairs s → HaveTheirPairs (with_object c n s)
pairs_row s c n there owner accepted number have i h =
    let p = λ (o : Row). pair s (pair_or_none o.pair) in
    elim (written s.objects n nobody c i there) [
      | here_is here same ↦
          let was = have c (sym accepted ∙ sym (ap (λ (o : Row). o.accepted) same) ∙ h) in
          let pair_is = ap (λ (o : Row). pair s (pair_or_none o.pair)) same ∙ ap (λ (v : Option ℕ). pair s (pair_or_none v)) number in
          (ap (λ (q : PairRow). q.a_owner) pair_is ∙ was.0 ∙ sym here, ap (λ (o : Row). o.owner) same ∙ owner ∙ was.1 ∙ ap (λ (q : PairRow). Some q.b_owner) (sym pair_is))
      | is_elsewhere same ↦
          let was = have i (sym (ap (λ (o : Row). o.accepted) same) ∙ h) in
          let pair_is = ap (λ (o : Row). pair s (pair_or_none o.pair)) same in
          (ap (λ (q : PairRow). q.a_owner) pair_is ∙ was.0, ap (λ (o : Row). o.owner) same ∙ was.1 ∙ ap (λ (q : PairRow). Some q.b_owner) (sym pair_is))
    ]

pairs_pair : (s : Rows) (k : ℕ) (p : PairRow) → k < length s.pairs → p.a_owner ≡ (pair s k).a_owner → p.b_owner ≡ (pair s k).b_owner → HaveTheirPairs s → HaveTheirPairs (with_pair k p s)
pairs_pair s k p there a b have i h =
    let was = have i h in
    elim (written s.pairs p no_pair k (pair_or_none (obj s i).pair) there) [
      | here_is here same ↦ (
        ap (λ (q : PairRow). q.a_owner) same ∙ a ∙ ap (λ (j : ℕ). (pair s j).a_owner) (sym here) ∙ was.0,
        was.1 ∙ ap (λ (n : ℕ). Some n) (ap (λ (j : ℕ). (pair s j).b_owner) here ∙ sym b ∙ sym (ap (λ (q : PairRow). q.b_owner) same)),
      )
      | is_elsewhere same ↦ (ap (λ (q : PairRow). q.a_owner) same ∙ was.0, was.1 ∙ ap (λ (q : PairRow). Some q.b_owner) (sym same))
    ]

pub rows_link : (b : ℕ) (s : Rows) (out : ℕ → Bool) (c : ℕ) (e : LinkEvent) → RowsKept b s out → link_may e (obj s c) ≡ true → IsOf e c (obj s c) b →
    RowsKept b (with_object c (link_after e (obj s c)) s) out
rows_link b s out c e kept may is =
    let inv = inv_of kept in
    let there = link_there s c e inv may in
    let row = same_pair e (obj s c) in
    record {
      reached = goes_on s _ kept.reached (link_moves c e may refl);
      shape = shape_row s c (link_after e (obj s c)) there (same_owner e (obj s c)) (same_kind e (obj s c)) kept.shape;
      prompt = link_prompt s out b c e inv may is kept.prompt;
      pairs = pairs_row s c (link_after e (obj s c)) there (same_owner e (obj s c)) row.0 row.1 kept.pairs;
    }

-- an event that may come moves the pair as the table of its end's life says
after_place : (e : PairEvent) (a : Bool) (p : PairRow) → (end_place (pair_after e a p) a ≡ place_after e (end_place p a)) × (end_place (pair_after e a p) (not a) ≡ other_after e (end_place p (not a)))
after_place e true p = (refl, refl)
after_place e false p = (refl, refl)

back : (a : Bool) → not (not a) ≡ a
back true = refl
back false = refl

pub after_owner : (e : PairEvent) (a x : Bool) (p : PairRow) → end_owner (pair_after e a p) x ≡ end_owner p x
after_owner e true true p = refl
after_owner e true false p = refl
after_owner e false true p = refl
after_owner e false false p = refl

pub moves_after : (e : PairEvent) (a : Bool) (p : PairRow) → IsInPhase p → may e (end_half p a) (end_half p (not a)) ≡ true → PairMoves e a p (pair_after e a p)
moves_after e a p phase comes = record { comes = comes; a_owner = after_owner e a true p; b_owner = after_owner e a false p; mine = mine; theirs = theirs }
  where
    v : IsSeen p a
    v = seen p phase a

    g : GoesOn e (half v.phase v.first) (half v.phase (not v.first))
    g = phases_are_closed e v.phase v.first (subst (λ (x : Half). may e x (half v.phase (not v.first)) ≡ true) v.mine (subst (λ (x : Half). may e (end_half p a) x ≡ true) v.theirs comes))

    here : end_place (pair_after e a p) a ≡ place_in g.next g.first
    here = (after_place e a p).0 ∙ ap (λ (h : Half). place_after e h.place) v.mine ∙ sym (place_is _ _ g.mine_is)

    there : end_place (pair_after e a p) (not a) ≡ place_in g.next (not g.first)
    there = (after_place e a p).1 ∙ ap (λ (h : Half). other_after e h.place) v.theirs ∙ sym (place_is _ _ g.theirs_is)

    mine : end_half (pair_after e a p) a ≡ mine_after e (end_half p a)
    mine = half_of _ _ _ _ here there ∙ g.mine_is ∙ sym (ap (mine_after e) v.mine)

    theirs : end_half (pair_after e a p) (not a) ≡ theirs_after e (end_half p a) (end_half p (not a))
    theirs =
        half_of _ _ _ _ there (ap (end_place (pair_after e a p)) (back a) ∙ here ∙ ap (place_in g.next) (sym (back g.first))) ∙ g.theirs_is
        ∙ sym (ap (λ (x : Half). theirs_after e x (end_half p (not a))) v.mine ∙ ap (theirs_after e (half v.phase v.first)) v.theirs)

pub rows_pair : (b : ℕ) (s : Rows) (out : ℕ → Bool) (k : ℕ) (a : Bool) (e : PairEvent) → RowsKept b s out → e ≢ Opens → may e (end_half (pair s k) a) (end_half (pair s k) (not a)) ≡ true → end_owner (pair s k) a ≡ b →
    RowsKept b (with_pair k (pair_after e a (pair s k)) s) out
rows_pair b s out k a e kept other comes is =
    let m = moves_after e a (pair s k) ((inv_of kept).phases k) comes in
    record {
      reached = goes_on s _ kept.reached (pair_moves k a e (pair_after e a (pair s k)) other m refl);
      shape = shape_pair s k a e (pair_after e a (pair s k)) m kept.shape;
      prompt = half_prompt s out b k a e (pair_after e a (pair s k)) m is kept.prompt;
      pairs = pairs_pair s k (pair_after e a (pair s k)) (pair_there s k a e comes) (after_owner e a true (pair s k)) (after_owner e a false (pair s k)) kept.pairs;
    }

pub rows_open : (b : ℕ) (s : Rows) (out : ℕ → Bool) (k : ℕ) (a : Bool) → RowsKept b s out → may Opens (end_half (pair s k) a) (end_half (pair s k) (not a)) ≡ true → end_owner (pair s k) a ≡ b →
    ((x : Bool) → has_ended (obj s (end_owner (pair s k) x)).stage ≡ false) → RowsKept b (with_pair k (pair_after Opens a (pair s k)) s) out
rows_open b s out k a kept comes is unended =
    let m = moves_after Opens a (pair s k) ((inv_of kept).phases k) comes in
    record {
      reached = goes_on s _ kept.reached (opens_pair k a (pair_after Opens a (pair s k)) m
          (ap (λ (i : ℕ). has_ended (obj s i).stage) (after_owner Opens a true (pair s k)) ∙ unended true) (ap (λ (i : ℕ). has_ended (obj s i).stage) (after_owner Opens a false (pair s k)) ∙ unended false) refl);
      shape = shape_pair s k a Opens (pair_after Opens a (pair s k)) m kept.shape;
      prompt = half_prompt s out b k a Opens (pair_after Opens a (pair s k)) m is kept.prompt;
      pairs = pairs_pair s k (pair_after Opens a (pair s k)) (pair_there s k a Opens comes) (after_owner Opens a true (pair s k)) (after_owner Opens a false (pair s k)) kept.pairs;
    }

pub rows_end : (b : ℕ) (s : Rows) (out : ℕ → Bool) → RowsKept b s out → MayEnd s b → RowsKept b (with_object b (record (obj s b) { stage = Finished }) s) out
rows_end b s out kept m =
    let there = placed (λ (x : Row). has_ended x.stage) s.objects nobody b refl (ap has_ended m.asked) in
    record {
      reached = goes_on s _ kept.reached (object_ends b m refl);
      shape = shape_row s b (record (obj s b) { stage = Finished }) there refl refl kept.shape;
      prompt = end_prompt s out b m kept.prompt;
      pairs = pairs_row s b (record (obj s b) { stage = Finished }) there refl refl refl kept.pairs;
    }

-- the root is there
pub some_object : (s : Rows) → IsReached s → 0 < length s.objects
some_object s begins = omega arith
some_object s (goes_on old new reached (makes_object w o x y z v e)) = let more = length-append old.objects (o ∷ []) in let was = some_object old reached in let same = ap (λ (r : Rows). length r.objects) e in omega (arith, more, was, same)
some_object s (goes_on old new reached (draws_pair p x y e)) = subst (λ (r : Rows). 0 < length r.objects) (sym e) (some_object old reached)
some_object s (goes_on old new reached (opens_pair k a p m x y e)) = subst (λ (r : Rows). 0 < length r.objects) (sym e) (some_object old reached)
some_object s (goes_on old new reached (link_moves c e may is)) = let same = ap (λ (r : Rows). length r.objects) is in let set = length-set old.objects c (link_after e (obj old c)) in let was = some_object old reached in omega (arith, same, set, was)
some_object s (goes_on old new reached (pair_moves k a e p n m is)) = subst (λ (r : Rows). 0 < length r.objects) (sym is) (some_object old reached)
some_object s (goes_on old new reached (object_ends c m is)) = let same = ap (λ (r : Rows). length r.objects) is in let set = length-set old.objects c (record (obj old c) { stage = Finished }) in let was = some_object old reached in omega (arith, same, set, was)
