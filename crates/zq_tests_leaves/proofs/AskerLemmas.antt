-- A socket that was made, and stays open, has what its caller's moments say, and may make its requests.
use Rattle.std.proofs.Common.{◌≡◌, ◌<◌, ◌∙◌, ◌==◌, ◌&&◌, ◌++◌, ℕ, Bool, true, false, List, [], ◌∷◌, Option, Some, None, refl, sym, ap, subst, arith, if◌then◌else◌}
use Rattle.std.specs.Prelude.{is_some}
use Rattle.std.proofs.lemmas.Bool.{eq-eqb, eqb-true, ne_eqb}
use Rattle.zq_base.specs.declared.ids.EndId.{EndId}
use Rattle.zq_base.specs.declared.ids.ObjId.{ObjId}
use Rattle.zq_base.specs.declared.kind.Kind.{Kind}
use Rattle.zq_base.specs.declared.endpoint.Endpoint.{Endpoint}
use Rattle.zq_base.specs.declared.options.Options.{Options}
use Rattle.spec_control.specs.declared.entry.Item.{Item}
use Rattle.spec_control.specs.declared.request.Req.{Req}
use Rattle.spec_control.specs.declared.request.Req.TheVariants.{Socket as MakeSocket, AskTerm, Bind, Connect, Unbind, Disconnect, Close, Accepted, Shaken, AskEnd, AskOver, OutputOver}
use Rattle.spec_control.specs.declared.request.Reply.TheVariants.{Object}
use Rattle.spec_control.specs.Held.{Held, asker}
use Rattle.spec_control.specs.Has.{has_after}
use Rattle.spec_control.specs.Moments.{Moment, items_in}
use Rattle.spec_control.specs.OwnAsks.{MayAskOwn, known_after}
use Rattle.control_laws.proofs.KnownLemmas.{known_sockets_have_kinds}
use Rattle.control_laws.proofs.ListLemmas.{never, right}
use Rattle.desk.specs.Asking.{HasMarks, IsOfSockets}
use Rattle.desk.specs.Desk.{AsksOnce, HasWhatTheySay, by_caller}
use Rattle.desk.specs.Holding.{Holding, has_end}
use Rattle.desk.specs.Kinds.{kind_after}
use Rattle.end_table.specs.declared.table.Place.{Place}
use Rattle.end_table.specs.Places.{held_in}
use Rattle.sock_core.specs.declared.sock.SockCore.{SockCore}
use Rattle.sock_core.specs.Has.{IsNew}
use Rattle.sock_calls.specs.Calls.{holding_of, owner_of}
use Rattle.plain_desk.specs.Lent.{Asks, Lent, moments_of}
use Rattle.plain_desk.proofs.AskLemmas.{asks_once}
use Rattle.zq_tests_leaves.specs.Asking.{IsOfIts, IsOpenAs}

-- a request of a socket's is one of five
by_five : (P : ℕ → Req → Type 0) → ((s : ObjId) (at : Endpoint) → P s.0 (Bind s at)) → ((s : ObjId) (at : Endpoint) → P s.0 (Connect s at)) → ((s : ObjId) (at : Endpoint) → P s.0 (Unbind s at)) → ((s : ObjId) (at : Endpoint) → P s.0 (Disconnect s at))
    → ((s : ObjId) → P s.0 (Close s)) → (o : ℕ) (req : Req) → IsOfIts o req → P o req
by_five P b k u d c o (Bind s at) is = subst (λ (n : ℕ). P n (Bind s at)) is (b s at)
by_five P b k u d c o (Connect s at) is = subst (λ (n : ℕ). P n (Connect s at)) is (k s at)
by_five P b k u d c o (Unbind s at) is = subst (λ (n : ℕ). P n (Unbind s at)) is (u s at)
by_five P b k u d c o (Disconnect s at) is = subst (λ (n : ℕ). P n (Disconnect s at)) is (d s at)
by_five P b k u d c o (Close s) is = subst (λ (n : ℕ). P n (Close s)) is (c s)
by_five P b k u d c o (MakeSocket kind options) is = absurd is
by_five P b k u d c o AskTerm is = absurd is
by_five P b k u d c o (Accepted s) is = absurd is
by_five P b k u d c o (Shaken s peer) is = absurd is
by_five P b k u d c o (AskEnd e reason) is = absurd is
by_five P b k u d c o (AskOver s) is = absurd is
by_five P b k u d c o (OutputOver s) is = absurd is

pub its_marks : (o : ℕ) (req : Req) → IsOfIts o req → HasMarks req
its_marks o req is = by_five (λ n r. HasMarks r) (λ s at. tt) (λ s at. tt) (λ s at. tt) (λ s at. tt) (λ s. tt) o req is

pub its_sockets : (o : ℕ) (req : Req) → IsOfIts o req → IsOfSockets true req
its_sockets o req is = by_five (λ n r. IsOfSockets true r) (λ s at. tt) (λ s at. tt) (λ s at. tt) (λ s at. tt) (λ s. tt) o req is

may : {N S : Type 0} (items : List (Item N S)) (o : ℕ) (req : Req) → IsOfIts o req → (known_after o items).open_socket ≡ true → MayAskOwn items req
may items o req is = by_five (λ n r. (known_after n items).open_socket ≡ true → MayAskOwn items r) (λ s at h. h) (λ s at h. h) (λ s at h. h) (λ s at h. h) (λ s h. h) o req is

module _ {C W N O I : Type 0} (kinds : C → Kind) (o : ℕ) where
  pub its_own : (s : Option (SockCore C W N O I)) → IsOpenAs o s → (req : Req) → IsOfIts o req → asker req ≡ Some (owner_of s)
  its_own None there req is = absurd there
  its_own (Some s) there req is = by_five (λ n r. asker r ≡ Some n) (λ s at. refl) (λ s at. refl) (λ s at. refl) (λ s at. refl) (λ s. refl) o req is ∙ ap (λ (n : ℕ). Some n) (sym there.1)

  pub its_held : (s : Option (SockCore C W N O I)) → IsOpenAs o s → (holding_of kinds s).holds (owner_of s) ≡ true
  its_held None there = absurd there
  its_held (Some s) there = ap (λ (b : Bool). b && s.number.0 == s.number.0) there.0 ∙ eq-eqb s.number.0 s.number.0 refl

  module _ {S : Type 0} (by : ℕ) (ms : List (Moment N S)) where
    its_open : (s : Option (SockCore C W N O I)) → IsOpenAs o s → HasWhatTheySay by ms (holding_of kinds s) → (known_after (owner_of s) (items_in ms)).open_socket ≡ true
    its_open None there has = absurd there
    its_open (Some s) there has =
        let held = its_held (Some s) there in
        known_sockets_have_kinds N S (items_in ms) s.number.0
        ∙ ap is_some (sym (has.kinds s.number.0 held))
        ∙ ap (λ (b : Bool). is_some (let k : Option Kind = if b then Some (kinds s.kind) else None in k)) held

    pub its_may : (s : Option (SockCore C W N O I)) → IsOpenAs o s → HasWhatTheySay by ms (holding_of kinds s) → (req : Req) → IsOfIts o req → MayAskOwn (items_in ms) req
    its_may None there has req is = absurd there
    its_may (Some s) there has req is = may (items_in ms) o req is (ap (λ (n : ℕ). (known_after n (items_in ms)).open_socket) (sym there.1) ∙ its_open (Some s) there has)

if_none : {X : Type 0} (b : Bool) → (let r : List X = if b then [] else [] in r) ≡ []
if_none true = refl
if_none false = refl

-- ---- a socket that was made by the first moment of its caller
module _ {C W N O I G S : Type 0} (kinds : C → Kind) (state : C) (kind : Kind) (same : kinds state ≡ kind) (options : Options) (o : ℕ) (more : 0 < o) (s : SockCore C W N O I) (fresh : IsNew o state s)
    (object : ObjId) (numbered : object.0 ≡ o) (old new : Lent G N S) (first : moments_of old ≡ []) (asks : Asks (MakeSocket kind options) (Object object) old new) where
  abbrev h : Holding N
  h = holding_of kinds (Some s)

  abbrev once : AsksOnce old.caller (MakeSocket kind options) (Object object) (moments_of old) (moments_of new)
  once = asks_once (MakeSocket kind options) (Object object) old new asks

  abbrev ms : List (Moment N S)
  ms = record { found = once.found; item = by_caller old.caller (Rattle.spec_control.specs.declared.entry.Did.TheVariants.Asked (MakeSocket kind options) (Object object) once.answered) } ∷ []

  it_alone : (i : ℕ) → h.holds i ≡ true → i ≡ object.0
  it_alone i holds = eqb-true i s.number.0 (right s.is_open (i == s.number.0) holds) ∙ fresh.number_is ∙ sym numbered

  none_held : (i : ℕ) → h.ends i ≡ []
  none_held i = ap (λ (ps : List (Place N I)). let r : List (Held N) = if i == s.number.0 then held_in ps else [] in r) fresh.no_ends ∙ if_none (i == s.number.0)

  none_had : {X : Type 0} (i : ℕ) (e : EndId) → has_end e (h.ends i) ≡ true → X
  none_had i e is = absurd (never (sym (ap (has_end e) (none_held i)) ∙ is))

  not_root : s.number.0 ≡ 0 → ⊥
  not_root none = Prim.grind arith

  says : HasWhatTheySay old.caller ms h
  says = record {
    objects = λ i holds. ap (λ (n : ℕ). has_after n (items_in ms)) (it_alone i holds) ∙ ap (λ (b : Bool). let r : Option ℕ = if b then Some old.caller else None in r) (eq-eqb object.0 object.0 refl);
    no_root = ap (λ (b : Bool). b && 0 == s.number.0) fresh.is_open ∙ ne_eqb 0 s.number.0 (λ is. not_root (sym is));
    ends = λ i holds. none_held i;
    writes = λ i e holds is. none_had i e is;
    delimiters = λ i e holds is met. none_had i e is;
    states = λ i e holds is. none_had i e is;
    kinds = λ i holds.
        ap (λ (b : Bool). let r : Option Kind = if b then Some (kinds s.kind) else None in r) holds
        ∙ ap (λ (c : C). Some (kinds c)) fresh.kind_is ∙ ap (λ (k : Kind). Some k) same
        ∙ sym (ap (λ (n : ℕ). kind_after n (items_in ms)) (it_alone i holds) ∙ ap (λ (b : Bool). let r : Option Kind = if b then Some kind else None in r) (eq-eqb object.0 object.0 refl));
  }

  pub made_says : HasWhatTheySay new.caller (moments_of new) h
  made_says =
      subst (λ (k : ℕ). HasWhatTheySay k (moments_of new) h) (sym asks.caller)
      (subst (λ (l : List (Moment N S)). HasWhatTheySay old.caller l h) (sym (once.one_more ∙ ap (λ (l : List (Moment N S)). l ++ ms) first)) says)
