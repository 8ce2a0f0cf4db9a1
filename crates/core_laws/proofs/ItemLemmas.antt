-- What comes to the reaper with one item of a control run.
use Rattle.std.specs.Prelude.{◌≡◌, ◌≤◌, ◌∷◌, [], ℕ, true, false, List, Some, None, length, map, refl}
use Rattle.std.specs.List.{list_any}
use Rattle.std.proofs.Common.{arith, sym, ap, ◌∙◌, inl, inr, true≢false}
use Rattle.std.proofs.lemmas.Bool.{eqb-true}
use Rattle.zq_base.specs.declared.ids.ObjId.{ObjId}
use Rattle.spec_control.specs.declared.entry.Did.{Did}
use Rattle.spec_control.specs.declared.entry.Did.TheVariants.{Asked, Delivered, Delimited}
use Rattle.spec_control.specs.declared.entry.Item.{Item}
use Rattle.spec_control.specs.declared.entry.Item.TheVariants.{Event, Seen}
use Rattle.spec_control.specs.declared.entry.Joining.{Joining}
use Rattle.spec_control.specs.declared.letter.Word.{Word}
use Rattle.spec_control.specs.declared.letter.Word.TheVariants.{Own, Plug, TermReq, Term, TermAck, PipeBind, PipeTerm, PipeTermAck, Stop, Reap}
use Rattle.spec_control.specs.Rows.{obj}
use Rattle.spec_control.specs.Control.{Control, begun}
use Rattle.spec_control.specs.ControlRun.{after_all, after_item, is_between, word_joins, Fits, FitsItem}
use Rattle.control_laws.proofs.ListLemmas.{never}
use Rattle.control_laws.specs.Kept.{Kept}
use Rattle.control_laws.proofs.RootLemmas.{runs_are_kept}
use Rattle.control_laws.specs.OwnMoves.{own_moves}
use Rattle.desk.specs.Joins.{come_by, came_in}
use Rattle.desk.specs.Desk.{came_with}
use Rattle.control_laws.proofs.BetweenLemmas.{between_on, reap_comes}
use Rattle.control_laws.proofs.HeldEventLemmas.{asked_reaps, reaps, word_reaps}
use Rattle.control_laws.proofs.LawLemmas.{made_none}
use Rattle.socket_laws.specs.Behind.{is_request, is_requested}
use Rattle.core_laws.specs.Items.{ComesBy, ItemsBring, reaped_by, reaped_by_word, reaped_in}

pub none_some : {X : Type 0} {x : X} → None ≡ Some x → ⊥
none_some e = Prim.grind arith

same_one : (o p : ObjId) → Some o ≡ Some p → o ≡ p
same_one o p e = Prim.grind (arith, e)

as_many : {X Y : Type 0} (f : X → Y) (xs : List X) → length xs ≡ length (map f xs)
as_many f [] = refl
as_many f (x ∷ xs) = let e = as_many f xs in omega (arith, e)

-- ---- a command
-- its Reap is that of this socket
of_word : (i : ℕ) (word : Word) → reaps i word ≡ true → (o : ObjId) × (reaped_by_word word ≡ Some o) × (i ≡ o.0)
of_word i (Own child) r = absurd (never r)
of_word i (Plug end) r = absurd (never r)
of_word i (TermReq child) r = absurd (never r)
of_word i Term r = absurd (never r)
of_word i (TermAck child) r = absurd (never r)
of_word i (PipeBind e peer) r = absurd (never r)
of_word i (PipeTerm e) r = absurd (never r)
of_word i (PipeTermAck e) r = absurd (never r)
of_word i Stop r = absurd (never r)
of_word i (Reap socket) r = (socket, refl, sym (eqb-true socket.0 i r))

none_joins : {N : Type 0} (word : Word) (js : List (Joining N)) (o : ObjId) → reaped_by_word word ≡ Some o → come_by word js ≡ []
none_joins (Own child) js o e = absurd (none_some e)
none_joins (Plug end) js o e = absurd (none_some e)
none_joins (TermReq child) js o e = absurd (none_some e)
none_joins Term js o e = absurd (none_some e)
none_joins (TermAck child) js o e = absurd (none_some e)
none_joins (PipeBind end peer) js o e = absurd (none_some e)
none_joins (PipeTerm end) js o e = absurd (none_some e)
none_joins (PipeTermAck end) js o e = absurd (none_some e)
none_joins Stop js o e = absurd (none_some e)
none_joins (Reap socket) js o e = refl

few_join : {N : Type 0} (c : Control) (word : Word) (js : List (Joining N)) → length js ≡ length (word_joins c word) → length (come_by word js) ≤ 1
few_join c (Own child) js e = omega (arith, e)
few_join c (Plug None) js e = omega (arith, e)
few_join c (Plug (Some end)) js e = omega (arith, e)
few_join c (TermReq child) js e = omega (arith, e)
few_join c Term js e = omega (arith, e)
few_join c (TermAck child) js e = omega (arith, e)
few_join c (PipeBind end peer) js e = omega (arith, e)
few_join c (PipeTerm end) js e = omega (arith, e)
few_join c (PipeTermAck end) js e = omega (arith, e)
few_join c Stop js e = omega (arith, e)
few_join c (Reap socket) js e = omega arith

module _ {N S : Type 0} (c : Control) where
  -- ---- an event
  of_did : (i : ℕ) (did : Did N S) → list_any (reap_comes i) (own_moves c did) ≡ true → (o : ObjId) × (reaped_in did ≡ Some o) × (i ≡ o.0)
  of_did i (Asked req reply h) any = absurd (never (sym (asked_reaps i c req reply) ∙ any))
  of_did i (Delivered slot letter h) any = of_word i letter.word (sym (word_reaps i letter.to.0 letter.word) ∙ any)
  of_did i (Delimited e h) any = absurd (never any)

  none_in : (did : Did N S) (o : ObjId) → reaped_in did ≡ Some o → came_in did ≡ []
  none_in (Asked req reply h) o e = absurd (none_some e)
  none_in (Delivered slot letter h) o e = none_joins letter.word h.joined o e
  none_in (Delimited e h) o is = absurd (none_some is)

  few_in : (did : Did N S) → is_requested did ≡ false → Fits c did → length (came_in did) ≤ 1
  few_in (Asked req reply h) none fits = absurd (never (sym none))
  few_in (Delivered slot letter h) none fits = few_join c letter.word h.joined (as_many (λ j. record { end = j.end; peer = j.peer; met = j.met }) h.joined ∙ ap length (let is = fits.answered in is.joined))
  few_in (Delimited e h) none fits = let few = as_many (λ j. record { end = j.end; peer = j.peer; met = j.met }) h.joined ∙ ap length (let is = fits.answered in is.joined) in omega (arith, few)

  -- ---- an item
  module _ (kept : Kept c) where
    -- what is between still, or came with its Reap
    still_or : (x : Item N S) → FitsItem c x → (i : ℕ) → is_between (obj c.rows i) ≡ true → is_between (obj (after_item x c).rows i) ≡ false → (o : ObjId) × (reaped_by x ≡ Some o) × (i ≡ o.0)
    still_or (Seen sight) fits i was now = absurd (true≢false (sym was ∙ now))
    still_or (Event entry) fits i was now = elim (between_on c entry.did kept fits (made_none c kept entry.did) i was) [
      | inl so ↦ absurd (true≢false (sym so ∙ now))
      | inr any ↦ of_did i entry.did any
    ]

    stays : (x : Item N S) → FitsItem c x → reaped_by x ≡ None → (i : ℕ) → is_between (obj c.rows i) ≡ true → is_between (obj (after_item x c).rows i) ≡ true
    stays x fits none i was = by (is_between (obj (after_item x c).rows i)) refl
      where
        by : (b : _) → is_between (obj (after_item x c).rows i) ≡ b → b ≡ true
        by true e = refl
        by false e = let r = still_or x fits i was e in absurd (none_some (sym none ∙ r.1))

    comes_alone : (x : Item N S) (o : ObjId) → reaped_by x ≡ Some o → came_with x ≡ []
    comes_alone (Event entry) o e = none_in entry.did o e
    comes_alone (Seen sight) o e = absurd (none_some e)

    come_few : (x : Item N S) → FitsItem c x → is_request x ≡ false → length (came_with x) ≤ 1
    come_few (Event entry) fits none = few_in entry.did none fits
    come_few (Seen sight) fits none = omega arith

    pub comes_by : (x : Item N S) → FitsItem c x → ComesBy c x
    comes_by x fits = record {
      none = λ none i was. stays x fits none i was;
      one = λ o is i was now. let r = still_or x fits i was now in r.2 ∙ ap (λ (p : ObjId). p.0) (same_one r.0 o (sym r.1 ∙ is));
      alone = λ o is. comes_alone x o is;
      few = λ none. come_few x fits none;
    }

pub items_bring : (N S : Type 0) → ItemsBring N S
items_bring N S io items x run fits = comes_by (after_all items (begun io)) (runs_are_kept N S io items run) x fits
