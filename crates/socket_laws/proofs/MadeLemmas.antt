-- The pipes that a socket's request made go by the names that its item tells.
use Rattle.std.specs.Prelude.{◌≡◌, ◌≤◌, ◌<◌, ◌||◌, ◌++◌, ℕ, Bool, true, false, List, [], ◌∷◌, All, Some, None, find, flat_map, map, refl, if◌then◌else◌}
use Rattle.std.specs.List.{list_any}
use Rattle.std.specs.Coded.{codes, ×_prop}
use Rattle.std.proofs.Common.{arith, sym, ap, ◌∙◌, subst, append-nil, true≢false}
use Rattle.std.proofs.Math.Logic.{∥∥₁_elim}
use Rattle.std.proofs.lemmas.Grind.{flat_map-append}
use Rattle.std.proofs.lemmas.List.Elements.{All-head, All-tail}
use Rattle.zq_base.specs.declared.ids.EndId.{EndId}
use Rattle.zq_base.specs.Ends.{PipeId, other_end}
use Rattle.msg_pipe.specs.Known.{Known}
use Rattle.end_table.proofs.RowLemmas.{some_same}
use Rattle.spec_control.specs.declared.entry.Did.TheVariants.{Asked as DidAsk}
use Rattle.spec_control.specs.declared.entry.Item.{Item}
use Rattle.spec_control.specs.declared.entry.Joining.{Joining}
use Rattle.spec_control.specs.declared.entry.PipeName.{PipeName}
use Rattle.spec_control.specs.declared.request.Reply.{Reply}
use Rattle.spec_control.specs.declared.request.Reply.TheVariants.{Done, Object, Pair, Both, Wait, Asked, Before, Refused}
use Rattle.spec_control.specs.Control.{Control, Settlement, begun, end_of, is_end, next_pair}
use Rattle.spec_control.specs.After.{answers_in}
use Rattle.spec_control.specs.ControlRun.{Joins, Fits, FitsItem, after_all, after_item, all_pipes, request_joins, unless_refused}
use Rattle.spec_control.specs.Names.{name_in, name_of, named_in, joined_in, IsTold}
use Rattle.control_laws.proofs.AskLemmas.{same_end}
use Rattle.control_laws.proofs.FateLemmas.{answered_same}
use Rattle.desk.specs.Making.{IsMadeFor}
use Rattle.end_table.specs.Changes.{made_last, AreMadeFor}
use Rattle.spec_run.specs.OwnedRun.{settlement_of, pipe_capacity}
use Rattle.socket_laws.specs.Hold.{is_done, MadePipesHold}
use Rattle.socket_laws.specs.Changes.{IsMade}
use Rattle.socket_laws.specs.Made.{AreMadeAll, MadeNamesGoOn}
use native.Mathlib.Bridge.{le_prop}

none_some : {X : Type 0} {x : X} → None ≡ Some x → ⊥
none_some e = Prim.grind arith

-- ---- a pipe of an end that joined

-- it is the one that the end writes, or the one that it reads
data IsOf (p : PipeId) (e : EndId) : Type 0 where
  writes_it : p ≡ e → IsOf p e
  reads_it : p ≡ other_end e → IsOf p e

of_first : (p : PipeId) (e : EndId) (a : Bool) → p ≡ end_of e.pair.0 true → e.a ≡ a → IsOf p e
of_first p e true h g = writes_it (h ∙ ap (end_of e.pair.0) (sym g))
of_first p e false h g = reads_it (h ∙ ap (λ (b : Bool). other_end (end_of e.pair.0 b)) (sym g))

of_last : (p : PipeId) (e : EndId) (a : Bool) → p ≡ end_of e.pair.0 false → e.a ≡ a → IsOf p e
of_last p e true h g = reads_it (h ∙ ap (λ (b : Bool). other_end (end_of e.pair.0 b)) (sym g))
of_last p e false h g = writes_it (h ∙ ap (end_of e.pair.0) (sym g))

-- ---- names

module _ {N : Type 0} where
  -- a name behind others
  pub name_kept : (e : EndId) (xs ys : List (PipeName N)) (n : N) → name_in e xs ≡ Some n → name_in e (xs ++ ys) ≡ Some n
  name_kept e [] ys n h = absurd (none_some h)
  name_kept e (x ∷ xs) ys n h = by (is_end e x.pipe) (name_kept e xs ys n) h
    where
      by : (b : Bool) → (name_in e xs ≡ Some n → name_in e (xs ++ ys) ≡ Some n) → (if b then Some x.name else name_in e xs) ≡ Some n → (if b then Some x.name else name_in e (xs ++ ys)) ≡ Some n
      by true rest g = g
      by false rest g = rest g

  pub name_more : (e : EndId) (xs ys : List (PipeName N)) (n : N) → name_in e xs ≡ None → name_in e (xs ++ ys) ≡ Some n → name_in e ys ≡ Some n
  name_more e [] ys n none h = h
  name_more e (x ∷ xs) ys n none h = by (is_end e x.pipe) (name_more e xs ys n) none h
    where
      by : (b : Bool) → (name_in e xs ≡ None → name_in e (xs ++ ys) ≡ Some n → name_in e ys ≡ Some n) → (if b then Some x.name else name_in e xs) ≡ None
          → (if b then Some x.name else name_in e (xs ++ ys)) ≡ Some n → name_in e ys ≡ Some n
      by true rest f g = absurd (none_some (sym f))
      by false rest f g = rest f g

  pub named_any : (e : EndId) (ns : List (PipeName N)) (n : N) → name_in e ns ≡ Some n → list_any (is_end e) (map (λ x. x.pipe) ns) ≡ true
  named_any e [] n h = absurd (none_some h)
  named_any e (x ∷ ns) n h = by (is_end e x.pipe) (named_any e ns n) h
    where
      by : (b : Bool) → (name_in e ns ≡ Some n → list_any (is_end e) (map (λ y. y.pipe) ns) ≡ true) → (if b then Some x.name else name_in e ns) ≡ Some n → (b || list_any (is_end e) (map (λ y. y.pipe) ns)) ≡ true
      by true rest g = refl
      by false rest g = rest g

  abbrev pub shown : Joining N → Joins
  shown j = record { end = j.end; peer = j.peer; met = j.met }

  -- what is so of a pipe of each of the ends that joined
  of_joined : (R : Type 0) (P : Joining N → Type 0) (p : PipeId) (js : List (Joining N)) → list_any (is_end p) (all_pipes (map shown js)) ≡ true → All P js → ((j : Joining N) → P j → IsOf p j.end → R) → R
  of_joined R P p [] h all f = absurd (true≢false (sym h))
  of_joined R P p (j ∷ js) h all f = by (is_end p (end_of j.end.pair.0 true)) refl (is_end p (end_of j.end.pair.0 false)) refl h (λ g. of_joined R P p js g (All-tail P j js all) f)
    where
      by : (a : Bool) → is_end p (end_of j.end.pair.0 true) ≡ a → (b : Bool) → is_end p (end_of j.end.pair.0 false) ≡ b → (a || (b || list_any (is_end p) (all_pipes (map shown js)))) ≡ true
          → (list_any (is_end p) (all_pipes (map shown js)) ≡ true → R) → R
      by true x b y g rest = f j (All-head P j js all) (of_first p j.end j.end.a (same_end p (end_of j.end.pair.0 true) x) refl)
      by false x true y g rest = f j (All-head P j js all) (of_last p j.end j.end.a (same_end p (end_of j.end.pair.0 false) y) refl)
      by false x false y g rest = rest g

  both_all : (P Q : Joining N → Type 0) (js : List (Joining N)) → All P js → All Q js → All (λ j. P j × Q j) js
  both_all P Q js a b k x lt = (a k x lt, b k x lt)

-- a request with such a pipe was not refused
done_if : (p : PipeId) (reply : Reply) (xs : List Joins) → list_any (is_end p) (all_pipes (unless_refused reply xs)) ≡ true → is_done reply ≡ true
done_if p Done xs h = refl
done_if p (Object o) xs h = refl
done_if p (Pair k) xs h = refl
done_if p (Both o k) xs h = refl
done_if p Wait xs h = refl
done_if p Asked xs h = refl
done_if p Before xs h = absurd (true≢false (sym h))
done_if p (Refused refusal) xs h = absurd (true≢false (sym h))

nat_set : IsSet ℕ
nat_set = Prim.hlevel codes

-- what its pipes hold, as a statement about numbers
abbrev Holds : Control → Control → EndId → (written read : ℕ) → Type 0
Holds c now e written read = (next_pair c ≤ e.pair.0) × ((e.pair.0 < next_pair now) × ((written ≡ pipe_capacity now e) × (read ≡ pipe_capacity now (other_end e))))

holds_prop : (c now : Control) (e : EndId) (written read : ℕ) → IsProp (Holds c now e written read)
holds_prop c now e written read = ×_prop le_prop (×_prop le_prop (×_prop (nat_set written (pipe_capacity now e)) (nat_set read (pipe_capacity now (other_end e)))))

pub made_names_go_on : {S O I N : Type 0} (K : Known S O I N) (T : Type 0) → MadePipesHold N T → MadeNamesGoOn K T
made_names_go_on {S} {O} {I} {N} K T hold io items item run fits told req reply is of changes made = record { kept = kept; more = more }
  where
    c : Control
    c = after_all items (begun io)

    now : Control
    now = after_item item c

    both : (p : PipeId) → name_of (items ++ item ∷ []) p ≡ name_in p (flat_map named_in items ++ (named_in item ++ []))
    both p = ap (name_in p) (flat_map-append named_in items (item ∷ []))

    kept : (p : PipeId) (n : N) → name_of items p ≡ Some n → name_of (items ++ item ∷ []) p ≡ Some n
    kept p n h = both p ∙ name_kept p (flat_map named_in items) (named_in item ++ []) n h

    settles_none : (q : PipeId) → settlement_of c q ≡ None → settlement_of now q ≡ None
    settles_none q none =
        ap (λ (x : Item N T). settlement_of (after_item x c) q) is.item_is
        ∙ ap (λ (ss : List Settlement). find (λ (s : Settlement). is_end (other_end q) s.end) ss) (answered_same req reply (answers_in is.answered) c) ∙ none

    -- of an end that joined
    of_end : is_done reply ≡ true → (j : Joining N) → AreMadeFor K (IsMadeFor c req) changes j.end j.written j.read → IsTold (items ++ item ∷ []) j → (p : PipeId) (n : N) → name_of (items ++ item ∷ []) p ≡ Some n → IsOf p j.end → IsMade K c now changes p n
    of_end done j a t p n says (writes_it at) = record {
      drawn = subst (λ (q : PipeId). next_pair c ≤ q.pair.0) (sym at) holds.0;
      numbered = subst (λ (q : PipeId). q.pair.0 < next_pair now) (sym at) holds.1.0;
      capacity = a.written;
      half = a.out;
      made = ap (λ (q : PipeId). made_last q changes) at ∙ a.writes;
      name_is = a.writes_it ∙ some_same j.written n (sym t.written ∙ ap (name_of (items ++ item ∷ [])) (sym at) ∙ says);
      holds = holds.1.1.0 ∙ ap (pipe_capacity now) (sym at);
      settles_none = settles_none;
    }
      where
        holds : Holds c now j.end a.written a.read
        holds = ∥∥₁_elim a.may (holds_prop c now j.end a.written a.read) (λ m. let h = hold io items item run fits req reply is done of j.end a.written a.read m in (h.drawn, (h.numbered, (h.written_is, h.read_is))))
    of_end done j a t p n says (reads_it at) = record {
      drawn = subst (λ (q : PipeId). next_pair c ≤ q.pair.0) (sym at) holds.0;
      numbered = subst (λ (q : PipeId). q.pair.0 < next_pair now) (sym at) holds.1.0;
      capacity = a.read;
      half = a.other;
      made = ap (λ (q : PipeId). made_last q changes) at ∙ a.reads;
      name_is = a.reads_it ∙ some_same j.read n (sym t.read ∙ ap (name_of (items ++ item ∷ [])) (sym at) ∙ says);
      holds = holds.1.1.1 ∙ ap (pipe_capacity now) (sym at);
      settles_none = settles_none;
    }
      where
        holds : Holds c now j.end a.written a.read
        holds = ∥∥₁_elim a.may (holds_prop c now j.end a.written a.read) (λ m. let h = hold io items item run fits req reply is done of j.end a.written a.read m in (h.drawn, (h.numbered, (h.written_is, h.read_is))))

    more : (p : PipeId) (n : N) → name_of items p ≡ None → name_of (items ++ item ∷ []) p ≡ Some n → IsMade K c now changes p n
    more p n none says = of_joined (IsMade K c now changes p n) (λ j. AreMadeFor K (IsMadeFor c req) changes j.end j.written j.read × IsTold (items ++ item ∷ []) j) p is.answered.joined
        (subst (λ (l : List Joins). list_any (is_end p) (all_pipes l) ≡ true) (sym ok.answered.joined) opened) all (λ j both. of_end done j both.0 both.1 p n says)
      where
        ok : Fits c (DidAsk req reply is.answered)
        ok = subst (FitsItem c) is.item_is fits

        opened : list_any (is_end p) (all_pipes (unless_refused reply (request_joins c req))) ≡ true
        opened =
            ap (list_any (is_end p)) (sym ok.answered.opened)
            ∙ named_any p is.answered.opened n (subst (λ (x : Item N T). name_in p (named_in x) ≡ Some n) is.item_is
            (ap (name_in p) (sym (append-nil (named_in item))) ∙ name_more p (flat_map named_in items) (named_in item ++ []) n none (sym (both p) ∙ says)))

        done : is_done reply ≡ true
        done = done_if p reply (request_joins c req) opened

        all : All (λ j. AreMadeFor K (IsMadeFor c req) changes j.end j.written j.read × IsTold (items ++ item ∷ []) j) is.answered.joined
        all = both_all (λ j. AreMadeFor K (IsMadeFor c req) changes j.end j.written j.read) (IsTold (items ++ item ∷ [])) is.answered.joined
            (subst (λ (x : Item N T). AreMadeAll K c req changes (joined_in x)) is.item_is made) (subst (λ (x : Item N T). All (IsTold (items ++ item ∷ [])) (joined_in x)) is.item_is told)
