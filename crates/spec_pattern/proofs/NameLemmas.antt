-- ROUTER: a send has one outcome, and so has a receive where no peer has two names.
use Rattle.std.proofs.Common.{◌≡◌, ◌∙◌, ℕ, suc, List, [], ◌∷◌, Bool, true, false, Option, Some, cond, refl, sym, ap}
use Rattle.std.specs.Prelude.{find, slice_get}
use Rattle.std.specs.Str.{bytes_eq}
use Rattle.std.specs.Option.{option_map}
use Rattle.std.proofs.lemmas.Slice.Eq.{bytes_eq-Decides}
use Rattle.zq_base.specs.Message.{Frames}
use Rattle.zq_base.specs.Ends.{PipeId}
use Rattle.spec_pattern.specs.TurnList.{End}
use Rattle.spec_pattern.specs.Routing.{Named, Names, named, when_missing, when_full, RouterSends, RouterReceives}
use Rattle.spec_pattern.specs.declared.answers.RecvAnswer.TheVariants as got
use Rattle.spec_pattern.specs.Peers.{HaveOneName}
use Rattle.spec_pattern.proofs.StepLemmas.{IsSettled}
use Rattle.spec_pattern.proofs.OutLemmas.{turns_from}
use Rattle.spec_pattern.proofs.InLemmas.{Found, in_settled, in_or_none, none_settled}
use Rattle.spec_pattern.proofs.ByTurnLemmas.{ReceivesBy}
use Rattle.spec_pattern.proofs.RouteLemmas.{routes_settled}

-- the place of a name that was found
pub record NamedAt (names : Names) (name : List ℕ) (e : End) : Type 0 where
  pub place : ℕ
  pub entry : Named
  pub here : slice_get names place ≡ Some entry
  pub name_is : entry.name ≡ name
  pub peer_is : entry.peer ≡ e

pub named_at : (names : Names) (name : List ℕ) (e : End) → named names name ≡ Some e → NamedAt names name e
named_at [] name e found = absurd (cc)
named_at (n ∷ ns) name e found = by (bytes_eq n.name name) refl found (named_at ns name e)
  where
    by : (b : Bool) → bytes_eq n.name name ≡ b → option_map (λ (x : Named). x.peer) (cond b (Some n) (find (λ (x : Named). bytes_eq x.name name) ns)) ≡ Some e
        → (named ns name ≡ Some e → NamedAt ns name e) → NamedAt (n ∷ ns) name e
    by true same is later = record { place = 0; entry = n; here = refl; name_is = (bytes_eq-Decides n.name name).0 same; peer_is = cc }
    by false other is later =
        let at = later is in
        record { place = suc at.place; entry = at.entry; here = at.here; name_is = at.name_is; peer_is = at.peer_is }

-- of two names of one peer, where it has one
pub one_name : (names : Names) → HaveOneName names → (a b : List ℕ) (e : End) → named names a ≡ Some e → named names b ≡ Some e → a ≡ b
one_name names one a b e is is2 =
    let x = named_at names a e is in
    let y = named_at names b e is2 in
    let place = one x.place y.place x.entry y.entry x.here y.here (x.peer_is ∙ sym y.peer_is) in
    let entry = same_entry x.place y.place x.entry y.entry place x.here y.here in
    sym x.name_is ∙ ap (λ (n : Named). n.name) entry ∙ y.name_is
  where
    same_entry : (i j : ℕ) (n k : Named) → i ≡ j → slice_get names i ≡ Some n → slice_get names j ≡ Some k → n ≡ k
    same_entry i j n k place x y = cc

module _ (c d : PipeId → ℕ) where
  pub router_send_settled : (mandatory : Bool) (w : End → Bool) (peers : List ℕ → Option End) (m : Frames) → ((name : List ℕ) (e : End) → peers name ≡ Some e → c e ≡ d e)
      → IsSettled c d (RouterSends mandatory w peers m)
  router_send_settled mandatory w peers [] agree past xs ys a b g h x y = elim g [ ]
  router_send_settled mandatory w peers (name ∷ []) agree past xs ys a b g h x y = record { same_steps = g.1 ∙ sym h.1; same_end = g.0 ∙ sym h.0 }
  router_send_settled mandatory w peers (name ∷ (body ∷ frames)) agree past xs ys a b g h x y =
      routes_settled c d (when_missing mandatory) (when_full mandatory) w (body ∷ frames) (peers name) (agree name) past xs ys a b g h x y

  pub router_recv_settled : (peers : List ℕ → Option End) (ins : List End) → ((a b : List ℕ) (e : End) → peers a ≡ Some e → peers b ≡ Some e → a ≡ b)
      → IsSettled c d (ReceivesBy (RouterReceives peers ins))
  router_recv_settled peers ins one_name past xs ys (got.Got from_ m, new) (got.Got from2 n, new2) g h x y =
      let one = in_settled c d ins past xs ys g.body h.body from_ from2 new new2 g.by_turn h.by_turn x y in
      let peer : g.by_turn.peer ≡ h.by_turn.peer = ap (λ (f : Found). f.place.peer) one.same_end in
      let name : g.name ≡ h.name = one_name g.name h.name h.by_turn.peer (g.name_is ∙ ap (λ (e : End). Some e) peer) h.name_is in
      let body : g.body ≡ h.body = ap (λ (f : Found). f.message) one.same_end in
      let from_one : from_ ≡ from2 = g.by_turn.from_is ∙ ap (λ (e : End). e.pair) peer ∙ sym h.by_turn.from_is in
      let message : m ≡ n = g.message_is ∙ ap (λ (k : List ℕ). k ∷ g.body) name ∙ ap (λ (f : Frames). h.name ∷ f) body ∙ sym h.message_is in
      let new_one : new ≡ new2 = g.by_turn.new_is ∙ ap (λ (f : Found). turns_from f.place) one.same_end ∙ sym h.by_turn.new_is in
      record { same_steps = one.same_steps; same_end = λ i. (got.Got (from_one i) (message i), new_one i) }
  router_recv_settled peers ins one_name past xs ys (got.Got from_ m, new) (got.Refused r, new2) g (again, none) x y =
      absurd (in_or_none c d ins past xs ys g.body from_ new new2 g.by_turn none x y)
  router_recv_settled peers ins one_name past xs ys (got.Refused r, new) (got.Got from_ m, new2) (again, none) h x y =
      absurd (in_or_none d c ins past ys xs h.body from_ new2 new h.by_turn none y x)
  router_recv_settled peers ins one_name past xs ys (got.Refused r, new) (got.Refused r2, new2) (again, none) (again2, none2) x y =
      let one = none_settled c d ins past xs ys new new2 none none2 x y in
      let refused : r ≡ r2 = again ∙ sym again2 in
      record { same_steps = one.same_steps; same_end = λ i. (got.Refused (refused i), one.same_end i) }
