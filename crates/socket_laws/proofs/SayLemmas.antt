-- The identities that moves tell are such as a peer may say.
use Rattle.std.specs.Prelude.{◌≡◌, ◌<◌, ◌≤◌, ◌⊎◌, ◌==◌, ℕ, Bool, true, false, cond, if◌then◌else◌, List, [], ◌∷◌, ◌++◌, Option, Some, None, All, length, slice_index_or, slice_set, refl}
use Rattle.std.proofs.Common.{sym, ap, ◌∙◌, subst, inl, inr}
use Rattle.std.proofs.lemmas.Bool.{cases_eq, cases_lt}
use Rattle.std.proofs.lemmas.List.{get_or-set_same, get_or-set_other, set_past}
use Rattle.std.proofs.lemmas.List.Elements.{All-nil, All-cons, All-head, All-tail, All-append}
use Rattle.zq_base.specs.declared.ids.EndId.{EndId}
use Rattle.spec_control.specs.declared.end.EndCommands.{EndCommands}
use Rattle.spec_control.specs.declared.end.EndCommands.TheVariants.{Nothing, TermAndSeal, Ack, Settle, SettleAndAck}
use Rattle.spec_control.specs.declared.letter.Letter.{Letter}
use Rattle.spec_control.specs.declared.letter.Word.{Word}
use Rattle.spec_control.specs.declared.letter.Word.TheVariants.{Own, Plug, TermReq, Term, TermAck, PipeBind, PipeTerm, PipeTermAck, Stop, Reap}
use Rattle.spec_control.specs.declared.stage.Stage.TheVariants.{Finished}
use Rattle.spec_control.specs.Place.{Place}
use Rattle.spec_control.specs.PairPhase.{PairEvent, Opens, BindCame, Happens}
use Rattle.spec_control.specs.Row.{Row, nobody, LinkEvent, OwnComes, PlugComes, IsTold, TermComes, AsksOver, RequestComes, ReapComes, AckComes, RootAsked, StopPut, StopComes, AsksForLink, AsksForLinger, link_after, is_socket}
use Rattle.spec_control.specs.Rows.{Rows, obj, pair, end_place}
use Rattle.spec_control.specs.Control.{Control, with_value, id, commands_in}
use Rattle.spec_control.specs.After.{owner_or_root}
use Rattle.control_laws.proofs.ListLemmas.{pushed, is_old, is_new}
use Rattle.control_laws.specs.Move.{Move, LinkMoves, EndMoves, ObjectEnds, ObjectMade, PairDrawn, LetterPut, move_rows, move_boxes, move_letters, link_letters, end_letters, pair_letters, ack_letters, put_all, Leads}
use Rattle.router_dealer.specs.Named.{IsIdentity}

-- the identity that a command tells
abbrev pub SaysSo : Word → Type 0
SaysSo (Own child) = Unit {0}
SaysSo (Plug end) = Unit {0}
SaysSo (TermReq child) = Unit {0}
SaysSo Term = Unit {0}
SaysSo (TermAck child) = Unit {0}
SaysSo (PipeBind e peer) = IsIdentity peer
SaysSo (PipeTerm e) = Unit {0}
SaysSo (PipeTermAck e) = Unit {0}
SaysSo Stop = Unit {0}
SaysSo (Reap socket) = Unit {0}

abbrev pub AllSay : List Letter → Type 0
AllSay ls = All (λ l. SaysSo l.word) ls

-- each object's identity is one that a peer may say, and each command tells such a one
pub record Says (s : Rows) (boxes : ℕ → List Letter) : Type 0 where
  pub rows : (i : ℕ) → IsIdentity (obj s i).options.id
  pub boxes_say : (m : ℕ) → AllSay (boxes m)

-- ---- moves
-- what a move makes tells such ones
abbrev pub Makes : Move → Type 0
Makes (LinkMoves i event) = Unit {0}
Makes (EndMoves e event) = Unit {0}
Makes (ObjectEnds i) = Unit {0}
Makes (ObjectMade row) = IsIdentity row.options.id
Makes (PairDrawn a b) = Unit {0}
Makes (LetterPut to word) = SaysSo word

abbrev pub AllMake : List Move → Type 0
AllMake [] = Unit {0}
AllMake (m ∷ ms) = Makes m × AllMake ms

one_says : (to : ℕ) (word : Word) → SaysSo word → AllSay (record { to = id to; word = word } ∷ [])
one_says to word is = All-cons (λ l. SaysSo l.word) (record { to = id to; word = word }) [] is (All-nil (λ l. SaysSo l.word))

pub none_says : AllSay []
none_says = All-nil (λ l. SaysSo l.word)

link_says : (event : LinkEvent) (i : ℕ) (o : Row) → AllSay (link_letters event i o)
link_says OwnComes i o = none_says
link_says PlugComes i o = none_says
link_says IsTold i o = one_says i Term tt
link_says TermComes i o = none_says
link_says AsksOver i o = by (is_socket o.kind)
  where
    by : (b : Bool) → AllSay (record { to = id (owner_or_root o.owner); word = cond b (Reap (id i)) (TermReq (id i)) } ∷ [])
    by true = one_says (owner_or_root o.owner) (Reap (id i)) tt
    by false = one_says (owner_or_root o.owner) (TermReq (id i)) tt
link_says RequestComes i o = none_says
link_says ReapComes i o = one_says i Term tt
link_says AckComes i o = none_says
link_says RootAsked i o = none_says
link_says StopPut i o = one_says i Stop tt
link_says StopComes i o = none_says
link_says AsksForLink i o = none_says
link_says AsksForLinger i o = none_says

command_says : (commands : EndCommands) (owner : ℕ) (e : EndId) → AllSay (end_letters commands owner e)
command_says Nothing owner e = none_says
command_says TermAndSeal owner e = one_says owner (PipeTerm _) tt
command_says Ack owner e = one_says owner (PipeTermAck _) tt
command_says Settle owner e = none_says
command_says SettleAndAck owner e = one_says owner (PipeTermAck _) tt

pair_says : (event : PairEvent) (place : Place) (owner : ℕ) (e : EndId) → AllSay (pair_letters event place owner e)
pair_says Opens place owner e = none_says
pair_says BindCame place owner e = none_says
pair_says (Happens event) place owner e = command_says (commands_in event place) owner e

ack_says : (owner : Option ℕ) (i : ℕ) → AllSay (ack_letters owner i)
ack_says None i = none_says
ack_says (Some owner) i = one_says owner (TermAck (id i)) tt

letters_say : (m : Move) (s : Rows) → Makes m → AllSay (move_letters m s)
letters_say (LinkMoves i event) s is = link_says event i (obj s i)
letters_say (EndMoves e event) s is = pair_says event (end_place (pair s e.pair.0) e.a) _ e
letters_say (ObjectEnds i) s is = ack_says (obj s i).owner i
letters_say (ObjectMade row) s is = none_says
letters_say (PairDrawn a b) s is = none_says
letters_say (LetterPut to word) s is = one_says to word is

put_say : (s : Rows) (ls : List Letter) (boxes : ℕ → List Letter) → AllSay ls → ((m : ℕ) → AllSay (boxes m)) → (m : ℕ) → AllSay (put_all s ls boxes m)
put_say s [] boxes all so m = so m
put_say s (l ∷ ls) boxes all so m =
    put_say s ls (with_value (obj s l.to.0).slot (boxes (obj s l.to.0).slot ++ l ∷ []) boxes) (All-tail (λ x. SaysSo x.word) l ls all) now m
  where
    now : (n : ℕ) → AllSay (with_value (obj s l.to.0).slot (boxes (obj s l.to.0).slot ++ l ∷ []) boxes n)
    now n = by (n == (obj s l.to.0).slot)
      where
        by : (b : Bool) → AllSay (if b then boxes (obj s l.to.0).slot ++ l ∷ [] else boxes n)
        by true = All-append (λ x. SaysSo x.word) (boxes (obj s l.to.0).slot) (l ∷ []) (so (obj s l.to.0).slot) (All-cons (λ x. SaysSo x.word) l [] (All-head (λ x. SaysSo x.word) l ls all) none_says)
        by false = so n

-- a row in place of one with the same options
same_options : (os : List Row) (i : ℕ) (now : Row) → now.options.id ≡ (slice_index_or os i nobody).options.id → (j : ℕ) → (slice_index_or (slice_set os i now) j nobody).options.id ≡ (slice_index_or os j nobody).options.id
same_options os i now same j = by (cases_eq j i)
  where
    here : (i < length os) ⊎ (length os ≤ i) → (slice_index_or (slice_set os i now) i nobody).options.id ≡ (slice_index_or os i nobody).options.id
    here (inl below) = ap (λ (o : Row). o.options.id) (get_or-set_same os i now nobody below) ∙ same
    here (inr past) = ap (λ (xs : List Row). (slice_index_or xs i nobody).options.id) (set_past os i now past)

    by : (j ≡ i) ⊎ (j ≡ i → ⊥) → (slice_index_or (slice_set os i now) j nobody).options.id ≡ (slice_index_or os j nobody).options.id
    by (inl is) = subst (λ (n : ℕ). (slice_index_or (slice_set os i now) n nobody).options.id ≡ (slice_index_or os n nobody).options.id) (sym is) (here (cases_lt i (length os)))
    by (inr other) = ap (λ (o : Row). o.options.id) (get_or-set_other os i j now nobody other)

link_options : (event : LinkEvent) (o : Row) → (link_after event o).options.id ≡ o.options.id
link_options OwnComes o = refl
link_options PlugComes o = refl
link_options IsTold o = refl
link_options TermComes o = refl
link_options AsksOver o = refl
link_options RequestComes o = refl
link_options ReapComes o = refl
link_options AckComes o = refl
link_options RootAsked o = refl
link_options StopPut o = refl
link_options StopComes o = refl
link_options AsksForLink o = refl
link_options AsksForLinger o = refl

rows_say : (m : Move) (s : Rows) → Makes m → ((i : ℕ) → IsIdentity (obj s i).options.id) → (i : ℕ) → IsIdentity (obj (move_rows m s) i).options.id
rows_say (LinkMoves j event) s is so i = subst IsIdentity (sym (same_options s.objects j (link_after event (obj s j)) (link_options event (obj s j)) i)) (so i)
rows_say (EndMoves e event) s is so i = so i
rows_say (ObjectEnds j) s is so i = subst IsIdentity (sym (same_options s.objects j (record (obj s j) { stage = Finished }) refl i)) (so i)
rows_say (ObjectMade row) s is so i =
    elim (pushed s.objects row nobody i) [
      | is_old was ↦ subst (λ (o : Row). IsIdentity o.options.id) (sym was) (so i)
      | is_new last now was ↦ subst (λ (o : Row). IsIdentity o.options.id) (sym now) is
    ]
rows_say (PairDrawn a b) s is so i = so i
rows_say (LetterPut to word) s is so i = so i

pub leads_say : (ms : List Move) (s : Rows) (boxes : ℕ → List Letter) (d : Control) → Leads ms s boxes d → AllMake ms → Says s boxes → Says d.rows d.boxes
leads_say [] s boxes d h make says = record {
  rows = subst (λ (r : Rows). (i : ℕ) → IsIdentity (obj r i).options.id) (sym h.0) says.rows;
  boxes_say = subst (λ (b : ℕ → List Letter). (m : ℕ) → AllSay (b m)) (sym h.1) says.boxes_say;
}
leads_say (m ∷ ms) s boxes d h make says =
    leads_say ms (move_rows m s) (move_boxes m s boxes) d h.1 make.1
    (record { rows = rows_say m s make.0 says.rows; boxes_say = put_say (move_rows m s) (move_letters m s) boxes (letters_say m s make.0) says.boxes_say })
