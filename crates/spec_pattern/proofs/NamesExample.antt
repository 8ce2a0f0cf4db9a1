-- A receive that could give a message behind either of two names.
use Rattle.std.proofs.Common.{◌≡◌, ℕ, List, [], ◌∷◌, refl, ap, arith}
use Rattle.zq_base.specs.Message.{Frames}
use Rattle.zq_base.specs.declared.ids.PairId.{PairId}
use Rattle.spec_pattern.specs.TurnList.{ComesIn}
use Rattle.spec_pattern.specs.declared.answers.RecvAnswer.TheVariants as got
use Rattle.spec_pattern.specs.Outcomes.{RecvOutcome}
use Rattle.spec_pattern.specs.NamesExample.{lone_peer, one_body, given_as, TwoNamesLeaveItOpen}

abbrev by_turn : ComesIn (lone_peer ∷ []) (given_as 1).steps one_body lone_peer.pair (lone_peer ∷ [])
by_turn = record {
  before = [];
  peer = lone_peer;
  after = [];
  looks = [];
  turns_are = refl;
  looks_are = refl;
  steps_are = refl;
  from_is = refl;
  new_is = refl;
}

one_answer : (p q : PairId) (m n : Frames) → got.Got p m ≡ got.Got q n → m ≡ n
one_answer p q m n same = cc

one_first : (a b : List ℕ) (f g : Frames) → a ∷ f ≡ b ∷ g → a ≡ b
one_first a b f g same = cc

apart : ◌≡◌ {A = List ℕ} (1 ∷ []) (2 ∷ []) → ⊥
apart same = let one : ◌≡◌ {A = ℕ} 1 2 = cc in omega (arith, one)

pub two_names_leave_it_open : TwoNamesLeaveItOpen
two_names_leave_it_open = record {
  first = (refl, (lone_peer ∷ [], record { body = one_body; by_turn = by_turn; name = 1 ∷ []; name_is = refl; message_is = refl }, refl));
  second = (refl, (lone_peer ∷ [], record { body = one_body; by_turn = by_turn; name = 2 ∷ []; name_is = refl; message_is = refl }, refl));
  go_on = record { one = (refl, tt); other = (refl, tt) };
  differ = λ same. apart (one_first (1 ∷ []) (2 ∷ []) one_body one_body (one_answer lone_peer.pair lone_peer.pair _ _ (ap (λ (o : RecvOutcome). o.answer) same)));
}
