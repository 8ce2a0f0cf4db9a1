-- A pipe that a control run gave a name is of a pair that has its number.
use Rattle.std.specs.Prelude.{◌≡◌, ◌<◌, ◌||◌, ℕ, Bool, true, false, List, [], ◌∷◌, All, Option, Some, None, flat_map, refl}
use Rattle.std.specs.List.{list_any}
use Rattle.std.proofs.Common.{arith, sym, ap, ◌∙◌, subst, true≢false}
use Rattle.std.proofs.lemmas.List.Elements.{All-head, All-tail, All-weaker}
use Rattle.zq_base.specs.declared.ids.EndId.{EndId}
use Rattle.zq_base.specs.Ends.{PipeId}
use Rattle.spec_control.specs.declared.entry.Did.{Did}
use Rattle.spec_control.specs.declared.entry.Did.TheVariants.{Asked as DidAsk, Delivered, Delimited}
use Rattle.spec_control.specs.declared.entry.Item.{Item}
use Rattle.spec_control.specs.declared.entry.Item.TheVariants.{Event, Seen}
use Rattle.spec_control.specs.Control.{Control, begun, end_of, is_end, next_pair}
use Rattle.spec_control.specs.After.{after}
use Rattle.spec_control.specs.ControlRun.{Joins, Fits, IsControlRun, after_all, all_pipes, answer_of, opened_in, request_joins, unless_refused}
use Rattle.spec_control.specs.Names.{name_in, named_in}
use Rattle.control_laws.proofs.AskLemmas.{same_end}
use Rattle.control_laws.proofs.AttachedLemmas.{ends_of_joins, asked_ends}
use Rattle.control_laws.proofs.LeadLemmas.{New, attached_by, new_ends}
use Rattle.control_laws.specs.OwnMoves.{own_moves}
use Rattle.socket_laws.proofs.SideLemmas.{IsKept, begun_is, grows}
use Rattle.socket_laws.specs.Named.{NamesAreMade}
use Rattle.socket_laws.proofs.MadeLemmas.{name_more, named_any}

none_some : {X : Type 0} {x : X} → None ≡ Some x → ⊥
none_some e = Prim.grind arith

-- a pipe of an end that joins is of its pair
pair_of_joins : (m : ℕ) (p : PipeId) (js : List Joins) → All (λ e. e.pair.0 < m) (ends_of_joins js) → list_any (is_end p) (all_pipes js) ≡ true → p.pair.0 < m
pair_of_joins m p [] all h = absurd (true≢false (sym h))
pair_of_joins m p (j ∷ js) all h = by (is_end p (end_of j.end.pair.0 true)) refl (is_end p (end_of j.end.pair.0 false)) refl h (pair_of_joins m p js (All-tail (λ (e : EndId). e.pair.0 < m) j.end (ends_of_joins js) all))
  where
    here : j.end.pair.0 < m
    here = All-head (λ (e : EndId). e.pair.0 < m) j.end (ends_of_joins js) all

    by : (a : Bool) → is_end p (end_of j.end.pair.0 true) ≡ a → (b : Bool) → is_end p (end_of j.end.pair.0 false) ≡ b → (a || (b || list_any (is_end p) (all_pipes js))) ≡ true
        → (list_any (is_end p) (all_pipes js) ≡ true → p.pair.0 < m) → p.pair.0 < m
    by true x b y g rest = subst (λ (q : PipeId). q.pair.0 < m) (sym (same_end p (end_of j.end.pair.0 true) x)) here
    by false x true y g rest = subst (λ (q : PipeId). q.pair.0 < m) (sym (same_end p (end_of j.end.pair.0 false) y)) here
    by false x false y g rest = rest g

module _ {N S : Type 0} where
  -- an event that names a pipe gives its pair its number, or it had it
  did_numbered : (c : Control) (did : Did N S) → IsKept c → Fits c did → (p : PipeId) → list_any (is_end p) (opened_in c did) ≡ true → p.pair.0 < next_pair (after did c)
  did_numbered c (DidAsk req reply h) is fits p any =
      let did : Did N S = DidAsk req reply h in
      pair_of_joins (next_pair (after did c)) p (unless_refused reply (request_joins c req))
      (subst (λ (es : List EndId). All (λ e. e.pair.0 < next_pair (after did c)) es) (sym (asked_ends c req reply))
      (All-weaker (New (own_moves c did) (after did c)) (λ e. e.pair.0 < next_pair (after did c)) (λ e n. n.within) (attached_by (own_moves c did)) (new_ends c did is.kept fits)))
      any
  did_numbered c (Delivered slot letter h) is fits p any = absurd (true≢false (sym any))
  did_numbered c (Delimited e h) is fits p any = absurd (true≢false (sym any))

  all_numbered : (items : List (Item N S)) (c : Control) → IsKept c → IsControlRun c items → (p : PipeId) (n : N) → name_in p (flat_map named_in items) ≡ Some n → p.pair.0 < next_pair (after_all items c)
  all_numbered [] c is run p n h = absurd (none_some h)
  all_numbered (Seen sight ∷ items) c is run p n h = all_numbered items c is run.1 p n h
  all_numbered (Event entry ∷ items) c is run p n h = by (name_in p (answer_of entry.did).opened) refl (all_numbered items now is_now run.1 p n)
    where
      now : Control
      now = after entry.did c

      is_now : IsKept now
      is_now = (grows (Event entry ∷ []) c is (run.0, tt)).1

      by : (x : Option N) → name_in p (answer_of entry.did).opened ≡ x → (name_in p (flat_map named_in items) ≡ Some n → p.pair.0 < next_pair (after_all items now)) → p.pair.0 < next_pair (after_all items now)
      by None none later = later (name_more p (answer_of entry.did).opened (flat_map named_in items) n none h)
      by (Some m) some later =
          let pairs = (grows items now is_now run.1).0.pairs in
          let lt = did_numbered c entry.did is run.0 p (ap (list_any (is_end p)) (sym run.0.answered.opened) ∙ named_any p (answer_of entry.did).opened m some) in
          omega (arith, lt, pairs)

pub names_are_made : (N S : Type 0) → NamesAreMade N S
names_are_made N S io items run p n h = all_numbered items (begun io) (begun_is io) run p n h
