-- That no pipe of a pair whose number is not drawn has a name.
use Rattle.std.specs.Prelude.{◌≡◌, ◌<◌, ◌≤◌, ◌⊎◌, ◌+◌, ◌==◌, ◌&&◌, ◌||◌, ◌++◌, ◌∷◌, [], ℕ, Bool, true, false, List, Option, Some, None, if◌then◌else◌, length, map, sum_by, flat_map, slice_index_or, refl}
use Rattle.std.specs.List.{list_any}
use Rattle.std.proofs.Common.{arith, sym, ap, ◌∙◌, inl, inr}
use Rattle.std.proofs.lemmas.Bool.{cases_lt, ne_eqb}
use Rattle.std.proofs.lemmas.List.{get_or_past}
use Rattle.std.proofs.lemmas.List.Sums.{sum_by-append}
use Rattle.zq_base.specs.declared.endpoint.Endpoint.TheVariants.{Inproc, Tcp}
use Rattle.zq_base.specs.declared.ids.EndId.{EndId}
use Rattle.spec_control.specs.declared.book.Binding.{Binding}
use Rattle.spec_control.specs.declared.book.Waiting.{Waiting}
use Rattle.spec_control.specs.declared.entry.PipeName.{PipeName}
use Rattle.spec_control.specs.declared.entry.Did.{Did}
use Rattle.spec_control.specs.declared.entry.Did.TheVariants.{Asked as DidAsk, Delivered, Delimited}
use Rattle.spec_control.specs.declared.entry.Item.{Item}
use Rattle.spec_control.specs.declared.entry.Item.TheVariants.{Event, Seen}
use Rattle.spec_control.specs.declared.end.EndState.TheVariants.{Gone}
use Rattle.spec_control.specs.declared.request.Req.{Req}
use Rattle.spec_control.specs.declared.request.Req.TheVariants.{Socket as MakeSocket, AskTerm, Bind, Connect, Unbind, Disconnect, Close, Accepted, Shaken, AskEnd, AskOver, OutputOver}
use Rattle.spec_control.specs.declared.request.Reply.{Reply}
use Rattle.spec_control.specs.declared.request.Reply.TheVariants.{Done, Object, Pair, Both, Wait, Asked, Before, Refused}
use Rattle.spec_control.specs.Names.{name_in, named_in, name_of}
use Rattle.spec_control.specs.Register.{fulfilled_by}
use Rattle.spec_control.specs.Place.{Unmade, At}
use Rattle.spec_control.specs.Rows.{PairRow, no_pair, obj}
use Rattle.spec_control.specs.Control.{Control, is_end, same_side, end_of, next_pair}
use Rattle.spec_control.specs.After.{after, binding_by, pair_or_none}
use Rattle.spec_control.specs.ControlRun.{Joins, Fits, MayAsk, bind_joins, connect_joins, request_joins, unless_refused, all_pipes, opened_in, answer_of, after_all, IsControlRun}
use Rattle.control_laws.specs.Kept.{Kept}
use Rattle.control_laws.proofs.RunLemmas.{after_kept}
use Rattle.control_laws.proofs.ListLemmas.{never}
use Rattle.control_laws.specs.OwnMoves.{request_moves, join_moves, fulfil_moves, connect_moves}
use Rattle.ctl_plane.proofs.EventLemmas.{pairs_drawn, pairs_after}

module _ (e : EndId) where
  -- an end of another pair is another one
  other_pair : (k : ℕ) (a : Bool) → k < e.pair.0 → is_end e (end_of k a) ≡ false
  other_pair k a less = other (ne_eqb e.pair.0 k (λ is. omega (arith, is, less)))
    where
      other : (e.pair.0 == k) ≡ false → is_end e (end_of k a) ≡ false
      other is = ap (λ (b : Bool). b && same_side e.a a) is

  -- all are ends of pairs below this one's number
  abbrev AreBelow : List Joins → Type 0
  AreBelow [] = Unit {0}
  AreBelow (j ∷ js) = (j.end.pair.0 < e.pair.0) × AreBelow js

  none_among : (js : List Joins) → AreBelow js → list_any (is_end e) (all_pipes js) ≡ false
  none_among [] h = refl
  none_among (j ∷ js) h =
      ap (λ (b : Bool). b || (is_end e (end_of j.end.pair.0 false) || list_any (is_end e) (all_pipes js))) (other_pair j.end.pair.0 true h.0)
      ∙ ap (λ (b : Bool). b || list_any (is_end e) (all_pipes js)) (other_pair j.end.pair.0 false h.0) ∙ none_among js h.1

  binds_below : (c : Control) (k : ℕ) (ws : List Waiting) → k + length ws ≤ e.pair.0 → AreBelow (bind_joins c k ws)
  binds_below c k [] h = tt
  binds_below c k (w ∷ ws) h = (omega (arith, h), binds_below c (k + 1) ws (omega (arith, h)))

pub fulfils_draw : (c : Control) (i k : ℕ) (ws : List Waiting) → sum_by pairs_drawn (fulfil_moves c i k ws) ≡ length ws
fulfils_draw c i k [] = refl
fulfils_draw c i k (w ∷ ws) =
    let rest = fulfils_draw c i (k + 1) ws in
    let parts = sum_by-append pairs_drawn (join_moves c k w.waiter.0 i false) (fulfil_moves c i (k + 1) ws) in
    omega (arith, parts, rest)

-- a pair that is not made was drawn
unmade_drawn : (pairs : List PairRow) (k : ℕ) → (slice_index_or pairs k no_pair).a ≡ Unmade → k < length pairs
unmade_drawn pairs k is = by (cases_lt k (length pairs))
  where
    gone : At Gone ≡ Unmade → ⊥
    gone h = cc

    by : (k < length pairs) ⊎ (length pairs ≤ k) → k < length pairs
    by (inl less) = less
    by (inr past) = absurd (gone (sym (ap (λ (p : PairRow). p.a) (get_or_past pairs k no_pair past)) ∙ is))

module _ (e : EndId) (c : Control) where
  -- the ends that join in a request are of pairs that are drawn behind it
  joins_below : (req : Req) → MayAsk c req → next_pair c + sum_by pairs_drawn (request_moves c req) ≤ e.pair.0 → AreBelow e (request_joins c req)
  joins_below (MakeSocket kind options) may h = tt
  joins_below AskTerm may h = tt
  joins_below (Bind o (Inproc name)) may h =
      let many = fulfils_draw c o.0 (next_pair c) (fulfilled_by (Inproc name) (binding_by o.0 c) c.names) in
      binds_below e c (next_pair c) (fulfilled_by (Inproc name) (binding_by o.0 c) c.names) (omega (arith, many, h))
  joins_below (Bind o (Tcp address)) may h = tt
  joins_below (Connect o (Inproc name)) may h = by (c.names.held (Inproc name)) h
    where
      by : (held : Option Binding) → next_pair c + sum_by pairs_drawn (connect_moves c o.0 held) ≤ e.pair.0 → AreBelow e (connect_joins c held)
      by None h = tt
      by (Some binding) h = (omega (arith, h), tt)
  joins_below (Connect o (Tcp address)) may h = (omega (arith, h), tt)
  joins_below (Unbind o at) may h = tt
  joins_below (Disconnect o at) may h = tt
  joins_below (Close o) may h = tt
  joins_below (Accepted o) may h = tt
  joins_below (Shaken o peer) may h =
      let drawn = unmade_drawn c.rows.pairs (pair_or_none (obj c.rows o.0).pair) may.unmade in
      (omega (arith, h, drawn), tt)
  joins_below (AskEnd e reason) may h = tt
  joins_below (AskOver o) may h = tt
  joins_below (OutputOver o) may h = tt

  none_asked : (req : Req) (reply : Reply) → MayAsk c req → next_pair c + sum_by pairs_drawn (unless_refused reply (request_moves c req)) ≤ e.pair.0 →
      list_any (is_end e) (all_pipes (unless_refused reply (request_joins c req))) ≡ false
  none_asked req Done may h = none_among e (request_joins c req) (joins_below req may h)
  none_asked req (Object o) may h = none_among e (request_joins c req) (joins_below req may h)
  none_asked req (Pair p) may h = none_among e (request_joins c req) (joins_below req may h)
  none_asked req (Both o p) may h = none_among e (request_joins c req) (joins_below req may h)
  none_asked req Wait may h = none_among e (request_joins c req) (joins_below req may h)
  none_asked req Asked may h = none_among e (request_joins c req) (joins_below req may h)
  none_asked req Before may h = refl
  none_asked req (Refused refusal) may h = refl

module _ {N : Type 0} (e : EndId) where
  pub name_none : (ns : List (PipeName N)) → list_any (is_end e) (map (λ n. n.pipe) ns) ≡ false → (rest : List (PipeName N)) → name_in e (ns ++ rest) ≡ name_in e rest
  name_none [] h rest = refl
  name_none (n ∷ ns) h rest = by (is_end e n.pipe) (list_any (is_end e) (map (λ x. x.pipe) ns)) (name_none ns) h
    where
      by : (a b : Bool) → (b ≡ false → (rest : List (PipeName N)) → name_in e (ns ++ rest) ≡ name_in e rest) → (a || b) ≡ false → (if a then Some n.name else name_in e (ns ++ rest)) ≡ name_in e rest
      by true b f is = absurd (never (sym is))
      by false b f is = f is rest

module _ {N S : Type 0} (e : EndId) where
  -- the pipes that an event opens are of pairs that are drawn behind it
  none_opened : (c : Control) (did : Did N S) → Kept c → Fits c did → next_pair (after did c) ≤ e.pair.0 → list_any (is_end e) (opened_in c did) ≡ false
  none_opened c (DidAsk req reply h) kept fits past =
      let drawn = pairs_after c (DidAsk req reply h) kept fits in
      none_asked e c req reply fits.may.0 (omega (arith, drawn, past))
  none_opened c (Delivered slot letter h) kept fits past = refl
  none_opened c (Delimited d h) kept fits past = refl

  -- and so are those that a run opens
  more_pairs : (items : List (Item N S)) (c : Control) → Kept c → IsControlRun c items → next_pair c ≤ next_pair (after_all items c)
  more_pairs [] c kept run = omega arith
  more_pairs (Event entry ∷ items) c kept run =
      let drawn = pairs_after c entry.did kept run.0 in
      let rest = more_pairs items (after entry.did c) (after_kept c entry.did kept run.0) run.1 in
      omega (arith, drawn, rest)
  more_pairs (Seen sight ∷ items) c kept run = more_pairs items c kept run.1

  pub names_fresh : (items : List (Item N S)) (c : Control) → Kept c → IsControlRun c items → next_pair (after_all items c) ≤ e.pair.0 → name_of items e ≡ None
  names_fresh [] c kept run past = refl
  names_fresh (Event entry ∷ items) c kept run past =
      let kept_now = after_kept c entry.did kept run.0 in
      let more = more_pairs items (after entry.did c) kept_now run.1 in
      name_none e (answer_of entry.did).opened
      (ap (list_any (is_end e)) run.0.answered.opened ∙ none_opened c entry.did kept run.0 (omega (arith, more, past))) (flat_map named_in items)
      ∙ names_fresh items (after entry.did c) kept_now run.1 past
  names_fresh (Seen sight ∷ items) c kept run past = names_fresh items c kept run.1 past
