-- The calls of an open socket are told as one piece more.
use Rattle.std.specs.Prelude.{◌≡◌, ◌++◌, ℕ, Bool, true, false, List, [], ◌∷◌, All, length, refl}
use Rattle.std.proofs.Common.{arith, sym, ap, ◌∙◌, subst}
use Rattle.std.proofs.lemmas.List.Elements.{All-cons, All-head, All-nil, All-tail}
use Rattle.spec_control.specs.declared.entry.Item.{Item}
use Rattle.spec_control.specs.Control.{Control, begun}
use Rattle.spec_control.specs.ControlRun.{after_all, after_item, IsControlRun}
use Rattle.spec_control.specs.Held.{caller_of}
use Rattle.spec_control.specs.Moments.{Moment, moments_from}
use Rattle.msg_pipe.specs.Known.{Known}
use Rattle.spec_run.specs.Act.{Act, Step, Said, moments_in}
use Rattle.spec_pattern.specs.declared.answers.Skip.{Skip}
use Rattle.zq_world.specs.Piece.{Piece, piece_of, AddsPiece, AreActsBy}
use Rattle.socket_laws.specs.Standing.{CoreStands}
use Rattle.socket_laws.specs.StandingCalls.{CallStands, CallsGoOn}
use Rattle.zq_world.specs.declared.marks.PieceMark.{PieceMark}
use Rattle.zq_world.specs.Marks.{all_told, piece_marks, pieces_told, TalesGoOn}
use Rattle.plain_desk.specs.Lent.{GrowsBy, IsOneOrder, Lent}
use Rattle.plain_desk.proofs.StayLemmas.{run_more}
use Rattle.core_laws.specs.Reaps.{ReapsAreTold}
use Rattle.core_laws.specs.Told.{told_in, CallsAreTold, TaleStands}
use Rattle.core_laws.proofs.StandLemmas.{call_stands, reap_stands}

module _ {N T : Type 0} where
  all_moments : (xs ys : List (Item N T)) (c : Control) → moments_from c (xs ++ ys) ≡ moments_from c xs ++ moments_from (after_all xs c) ys
  all_moments [] ys c = refl
  all_moments (x ∷ xs) ys c = ap (λ (ms : List (Moment N T)). record { found = c; item = x } ∷ ms) (all_moments xs ys (after_item x c))

  many : (xs : List (Item N T)) (c : Control) → length (moments_from c xs) ≡ length xs
  many [] c = refl
  many (x ∷ xs) c = omega (arith, many xs (after_item x c))

  -- items of one caller make moments of it
  module _ (k : ℕ) where
    abbrev IsBy : Moment N T → Type 0
    IsBy m = caller_of m.item ≡ k

    by_all : (xs : List (Item N T)) (c : Control) → All (λ x. caller_of x ≡ k) xs → All (λ m. caller_of m.item ≡ k) (moments_from c xs)
    by_all [] c all = All-nil IsBy
    by_all (x ∷ xs) c all =
        All-cons IsBy (record { found = c; item = x }) (moments_from (after_item x c) xs) (All-head (λ (y : Item N T). caller_of y ≡ k) x xs all)
        (by_all xs (after_item x c) (All-tail (λ (y : Item N T). caller_of y ≡ k) x xs all))

    -- and acts by it
    acts_by : (acts : List (Act N T)) → All (λ m. caller_of m.item ≡ k) (moments_in acts) → AreActsBy k acts
    acts_by [] all = tt
    acts_by (Step step ∷ acts) all = acts_by acts all
    acts_by (Said m ∷ acts) all = (All-head IsBy m (moments_in acts) all, acts_by acts (All-tail IsBy m (moments_in acts) all))

-- ---- a call more
module _ {S O I N : Type 0} (K : Known S O I N) {G T : Type 0} (go : CallsGoOn K T) (tales : TalesGoOn N T) (old new : Lent G N T) (before behind : S) (was : IsOneOrder old) (is : IsOneOrder new) (grows : GrowsBy old new)
    (k : ℕ) (reaps : Bool) (acts : List (Act N T)) (skips : List Skip) (marks now : List PieceMark) (so : now ≡ marks ++ piece_marks k reaps acts skips) (tale : TaleStands K old before marks)
    (stands : CallStands K old.items grows.more before behind (told_in old marks) k reaps acts) where
  said_so : moments_in acts ≡ moments_from (after_all old.items (begun 1)) grows.more
  said_so = stands.said

  same : moments_from (begun 1) new.items ≡ moments_from (begun 1) old.items ++ moments_in acts
  same =
      ap (moments_from (begun 1)) grows.items ∙ all_moments old.items grows.more (begun 1)
      ∙ ap (λ (ms : List (Moment N T)). moments_from (begun 1) old.items ++ ms) (sym said_so)

  both : (pieces_told (marks ++ piece_marks k reaps acts skips) (moments_from (begun 1) old.items ++ moments_in acts) ≡ pieces_told marks (moments_from (begun 1) old.items) ++ piece_of k reaps acts skips)
      × (all_told (marks ++ piece_marks k reaps acts skips) ≡ length (moments_from (begun 1) old.items ++ moments_in acts))
  both = tales marks (moments_from (begun 1) old.items) k reaps acts skips (tale.all ∙ sym (many old.items (begun 1)))

  are : told_in new now ≡ told_in old marks ++ piece_of k reaps acts skips
  are = ap (λ (ms : List PieceMark). told_in new ms) so ∙ ap (λ (ms : List (Moment N T)). pieces_told (marks ++ piece_marks k reaps acts skips) ms) same ∙ both.0

  run : IsControlRun (begun 1) old.items
  run = (let order = was.order in subst (λ (n : ℕ). IsControlRun (begun n) old.items) tale.one order.run)

  on : IsControlRun (after_all old.items (begun 1)) grows.more
  on = subst (λ (n : ℕ). IsControlRun (after_all old.items (begun n)) grows.more) tale.one (run_more old new is grows)

  pub tale_more : TaleStands K new behind now
  tale_more = record {
    one = grows.workers ∙ tale.one;
    all = ap all_told so ∙ both.1 ∙ ap length (sym same) ∙ many new.items (begun 1);
    stands = subst (λ (ps : List (Piece N T)). CoreStands K new.items behind ps) (sym are)
        (subst (λ (xs : List (Item N T)). CoreStands K xs behind (told_in old marks ++ piece_of k reaps acts skips)) (sym grows.items)
        (go old.items grows.more before behind (told_in old marks) k reaps acts skips run on stands tale.stands));
  }

  pub piece_more : k ≡ old.caller → AddsPiece k reaps acts skips (told_in old marks) (told_in new now)
  piece_more mine = record {
    added = are;
    by = subst (λ (n : ℕ). AreActsBy n acts) (sym mine)
        (acts_by old.caller acts (subst (λ (ms : List (Moment N T)). All (λ m. caller_of m.item ≡ old.caller) ms) (sym said_so) (by_all old.caller grows.more (after_all old.items (begun 1)) grows.by)));
  }

pub calls_are_told : {S O I N : Type 0} (K : Known S O I N) (G T : Type 0) → CallsGoOn K T → TalesGoOn N T → CallsAreTold K G T
calls_are_told K G T go tales o old new before behind acts was is had done made skips marks now so tale =
    let stands = call_stands K o old new before behind acts was is had done tale.one made (told_in old marks) tale.stands in record {
      tale = tale_more K go tales old new before behind was is done.grows old.caller false acts skips marks now so tale stands;
      adds = piece_more K go tales old new before behind was is done.grows old.caller false acts skips marks now so tale stands refl;
    }

pub reaps_are_told : {S O I N : Type 0} (K : Known S O I N) (G T : Type 0) → CallsGoOn K T → TalesGoOn N T → ReapsAreTold K G T
reaps_are_told K G T go tales old new before behind acts was is done made marks now so only tale =
    let stands = reap_stands K old new before behind acts was is done tale.one made (told_in old marks) only tale.stands in record {
      tale = tale_more K go tales old new before behind was is done.grows old.caller true acts [] marks now so tale stands;
      adds = piece_more K go tales old new before behind was is done.grows old.caller true acts [] marks now so tale stands refl;
    }
