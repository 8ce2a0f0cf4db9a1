-- Items of an open socket, one behind another, put no end on its way whose pair was there before, and name no pipe of it.
use Rattle.std.specs.Prelude.{◌≡◌, ◌≤◌, ◌<◌, ◌++◌, ◌∷◌, [], ℕ, Bool, true, false, if◌then◌else◌, All, List, None, Some, flat_map, length, refl}
use Rattle.std.proofs.Common.{arith, ap, ◌∙◌, subst}
use Rattle.std.proofs.lemmas.List.Elements.{All-head, All-tail}
use Rattle.zq_base.specs.declared.ids.EndId.{EndId}
use Rattle.spec_control.specs.declared.entry.Item.{Item}
use Rattle.spec_control.specs.declared.entry.Item.TheVariants.{Event, Seen}
use Rattle.spec_control.specs.declared.entry.PipeName.{PipeName}
use Rattle.spec_control.specs.declared.letter.Letter.{Letter}
use Rattle.spec_control.specs.Rows.{Rows, pair}
use Rattle.spec_control.specs.Control.{Control, is_end, next_pair}
use Rattle.spec_control.specs.After.{after}
use Rattle.spec_control.specs.ControlRun.{FitsItem, after_item}
use Rattle.spec_control.specs.Names.{name_in, named_in}
use Rattle.control_laws.specs.Kept.{Kept}
use Rattle.control_laws.proofs.MoveLemmas.{move_many}
use Rattle.spec_control.specs.Moments.{Moment, items_in}
use Rattle.control_laws.specs.Move.{Leads, Move, move_boxes, move_rows}
use Rattle.control_laws.specs.OwnMoves.{having_taken}
use Rattle.control_laws.proofs.EventGoLemmas.{event_goes}
use Rattle.control_laws.proofs.WeighLemmas.{taken_rows}
use Rattle.socket_laws.specs.Open.{IsOfItem}
use Rattle.control_laws.proofs.AwayLemmas.{away_in}
use Rattle.core_laws.proofs.ActLemmas.{IsOn}
use Rattle.core_laws.proofs.ChainLemmas.{Follow, IsNext, led_by}
use Rattle.core_laws.proofs.OpenedLemmas.{item_away, item_unnamed}

leads_many : (ms : List Move) (s : Rows) (boxes : ℕ → List Letter) (d : Control) → Leads ms s boxes d → length s.pairs ≤ next_pair d
leads_many [] s boxes d h = let e = ap (λ (r : Rows). length r.pairs) h.0 in omega (arith, e)
leads_many (m ∷ ms) s boxes d h =
    let one = move_many m s in
    let rest = leads_many ms (move_rows m s) (move_boxes m s boxes) d h.1 in
    omega (arith, one, rest)

-- pairs never go
pairs_grow : {N S : Type 0} (c : Control) (item : Item N S) → Kept c → FitsItem c item → next_pair c ≤ next_pair (after_item item c)
pairs_grow c (Event entry) kept fits =
    let g = event_goes c entry.did kept fits in
    let all = leads_many g.moves (having_taken entry.did c).rows (having_taken entry.did c).boxes (after entry.did c) g.leads in
    let same = ap (λ (r : Rows). length r.pairs) (taken_rows entry.did c) in
    omega (arith, all, same)
pairs_grow c (Seen sight) kept fits = omega arith

-- what is not among the first is looked for behind them
named_behind : {N : Type 0} (e : EndId) (ns rest : List (PipeName N)) → name_in e ns ≡ None → name_in e (ns ++ rest) ≡ name_in e rest
named_behind e [] rest none = refl
named_behind {N} e (n ∷ ns) rest none = by (is_end e n.pipe) none (named_behind e ns rest)
  where
    none_some : {x : N} → Some x ≡ None → ⊥
    none_some h = Prim.grind arith

    by : (b : Bool) → (if b then Some n.name else name_in e ns) ≡ None → (name_in e ns ≡ None → name_in e (ns ++ rest) ≡ name_in e rest) → (if b then Some n.name else name_in e (ns ++ rest)) ≡ name_in e rest
    by true h f = absurd (none_some h)
    by false h f = f h

-- and what is not among the last, among the first
pub named_before : {N : Type 0} (e : EndId) (ns rest : List (PipeName N)) → name_in e rest ≡ None → name_in e (ns ++ rest) ≡ name_in e ns
named_before e [] rest none = none
named_before {N} e (n ∷ ns) rest none = ap (λ x. if is_end e n.pipe then Some n.name else x) (named_before e ns rest none)

-- a moment's item is of the object by the control state that it found
found_on : {N S : Type 0} (w o : ℕ) (m : Moment N S) (c : Control) → IsNext w o c m → IsOn o m → IsOfItem o c m.item
found_on w o m c next on = subst (λ (x : Control). IsOfItem o x m.item) next.found on

module _ {N S : Type 0} (w o : ℕ) (e : EndId) where
  pub all_unnamed : (ms : List (Moment N S)) (c : Control) → Follow w o c ms → All (IsOn o) ms → e.pair.0 < next_pair c → name_in e (flat_map named_in (items_in ms)) ≡ None
  all_unnamed [] c f on within = refl
  all_unnamed (m ∷ ms) c f on within =
      let next = f.0 in
      let sound = next.sound in
      let grow = pairs_grow c m.item sound.kept next.fits in
      named_behind e (named_in m.item) (flat_map named_in (items_in ms)) (item_unnamed e o c m.item sound.socket next.fits (found_on w o m c next (All-head (IsOn o) m ms on)) within)
      ∙ all_unnamed ms (after_item m.item c) f.1 (All-tail (IsOn o) m ms on) (omega (arith, within, grow))

  pub all_away : (n : ℕ) (ms : List (Moment N S)) (c : Control) → Follow w o c ms → All (IsOn o) ms → e.pair.0 < next_pair c → away_in e n (pair (led_by c ms).rows e.pair.0) ≡ true → away_in e n (pair c.rows e.pair.0) ≡ true
  all_away n [] c f on within is = is
  all_away n (m ∷ ms) c f on within is =
      let next = f.0 in
      let sound = next.sound in
      let grow = pairs_grow c m.item sound.kept next.fits in
      item_away e n o c m.item sound.socket sound.kept next.fits (found_on w o m c next (All-head (IsOn o) m ms on)) within
      (all_away n ms (after_item m.item c) f.1 (All-tail (IsOn o) m ms on) (omega (arith, within, grow)) is)
