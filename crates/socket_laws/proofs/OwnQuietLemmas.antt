-- Items that give no pair its number and no pipe a name.
use Rattle.std.specs.Prelude.{◌≡◌, ◌||◌, ◌++◌, ℕ, Bool, true, false, cond, List, [], ◌∷◌, Some, None, filter, flat_map, length, map, refl}
use Rattle.std.specs.List.{list_any}
use Rattle.std.proofs.Common.{arith, ap, ◌∙◌, append-nil, length-set, true≢false}
use Rattle.std.proofs.lemmas.Grind.{flat_map-append}
use Rattle.spec_control.specs.declared.end.Reason.{Reason}
use Rattle.spec_control.specs.declared.end.Reason.TheVariants.{Closed, BadId, Second, Linger, Link}
use Rattle.spec_control.specs.declared.entry.Did.{Did}
use Rattle.spec_control.specs.declared.entry.Did.TheVariants.{Asked as DidAsk, Delivered, Delimited}
use Rattle.spec_control.specs.declared.entry.Item.{Item}
use Rattle.spec_control.specs.declared.entry.Item.TheVariants.{Event, Seen}
use Rattle.spec_control.specs.declared.entry.PipeName.{PipeName}
use Rattle.spec_control.specs.declared.letter.Letter.{Letter}
use Rattle.spec_control.specs.declared.letter.Word.{Word}
use Rattle.spec_control.specs.declared.letter.Word.TheVariants.{Own, Plug, TermReq, Term, TermAck, PipeBind, PipeTerm, PipeTermAck, Stop, Reap}
use Rattle.spec_control.specs.declared.request.Req.{Req}
use Rattle.spec_control.specs.declared.request.Req.TheVariants.{Socket as MakeSocket, AskTerm, Bind, Connect, Unbind, Disconnect, Close, Accepted, Shaken, AskEnd, AskOver, OutputOver}
use Rattle.spec_control.specs.declared.request.Reply.{Reply}
use Rattle.spec_control.specs.declared.request.Reply.TheVariants.{Done, Object, Pair, Both, Wait, Asked, Before, Refused}
use Rattle.spec_control.specs.Rows.{Rows, pair, pair_after}
use Rattle.spec_control.specs.Control.{Control, begun, next_pair}
use Rattle.spec_control.specs.After.{after}
use Rattle.spec_control.specs.ControlRun.{Fits, FitsItem, after_all, after_item, all_pipes, answer_of, opened_in, request_joins, unless_refused}
use Rattle.spec_control.specs.Names.{name_in, named_in}
use Rattle.control_laws.specs.Kept.{Kept}
use Rattle.control_laws.proofs.RootLemmas.{runs_are_kept}
use Rattle.control_laws.specs.Move.{Move, LinkMoves, EndMoves, ObjectEnds, ObjectMade, PairDrawn, LetterPut, move_rows, move_boxes, Leads, is_named}
use Rattle.control_laws.specs.OwnMoves.{having_taken, own_moves, reason_moves, request_moves, word_moves}
use Rattle.control_laws.proofs.EventGoLemmas.{event_goes}
use Rattle.control_laws.proofs.WeighLemmas.{taken_rows}
use Rattle.socket_laws.specs.OwnQuiet.{may_pair, may_pair_in, may_pair_by, OthersMakeNone}

-- ---- moves that draw no pair's number

abbrev is_drawn : Move → Bool
is_drawn (LinkMoves i event) = false
is_drawn (EndMoves e event) = false
is_drawn (ObjectEnds i) = false
is_drawn (ObjectMade row) = false
is_drawn (PairDrawn x y) = true
is_drawn (LetterPut to word) = false

either : (a b : Bool) → (a || b) ≡ false → (a ≡ false) × (b ≡ false)
either true b h = absurd (true≢false h)
either false b h = (refl, h)

named_free : (ms : List Move) → list_any is_drawn (filter is_named ms) ≡ false → list_any is_drawn ms ≡ false
named_free [] h = refl
named_free (m ∷ ms) h = by m (is_named m) refl h (named_free ms)
  where
    by : (m : Move) (b : Bool) → is_named m ≡ b → list_any is_drawn (cond b (m ∷ filter is_named ms) (filter is_named ms)) ≡ false → (list_any is_drawn (filter is_named ms) ≡ false → list_any is_drawn ms ≡ false) → (is_drawn m || list_any is_drawn ms) ≡ false
    by m true e h rest = ap (λ (b : Bool). b || list_any is_drawn ms) (either (is_drawn m) (list_any is_drawn (filter is_named ms)) h).0 ∙ rest (either (is_drawn m) (list_any is_drawn (filter is_named ms)) h).1
    by (LinkMoves i event) false e h rest = rest h
    by (EndMoves x event) false e h rest = rest h
    by (ObjectEnds i) false e h rest = rest h
    by (ObjectMade row) false e h rest = rest h
    by (PairDrawn x y) false e h rest = absurd (true≢false e)
    by (LetterPut to word) false e h rest = rest h

free_length : (ms : List Move) (s : Rows) (boxes : ℕ → List Letter) (d : Control) → list_any is_drawn ms ≡ false → Leads ms s boxes d → length d.rows.pairs ≡ length s.pairs
free_length [] s boxes d free h = ap (λ (r : Rows). length r.pairs) h.0
free_length (m ∷ ms) s boxes d free h = free_length ms (move_rows m s) (move_boxes m s boxes) d (either (is_drawn m) (list_any is_drawn ms) free).1 h.1 ∙ by m (either (is_drawn m) (list_any is_drawn ms) free).0
  where
    by : (m : Move) → is_drawn m ≡ false → length (move_rows m s).pairs ≡ length s.pairs
    by (LinkMoves i event) e = refl
    by (EndMoves x event) e = length-set s.pairs x.pair.0 (pair_after event x.a (pair s x.pair.0))
    by (ObjectEnds i) e = refl
    by (ObjectMade row) e = refl
    by (PairDrawn a b) e = absurd (true≢false e)
    by (LetterPut to word) e = refl

unless_free : (reply : Reply) (ms : List Move) → list_any is_drawn ms ≡ false → list_any is_drawn (unless_refused reply ms) ≡ false
unless_free Done ms h = h
unless_free (Object o) ms h = h
unless_free (Pair p) ms h = h
unless_free (Both o p) ms h = h
unless_free Wait ms h = h
unless_free Asked ms h = h
unless_free Before ms h = refl
unless_free (Refused refusal) ms h = refl

reason_free : (reason : Reason) (i : ℕ) → list_any is_drawn (reason_moves reason i) ≡ false
reason_free Closed i = refl
reason_free BadId i = refl
reason_free Second i = refl
reason_free Linger i = refl
reason_free Link i = refl

request_free : (c : Control) (req : Req) → may_pair req ≡ false → list_any is_drawn (request_moves c req) ≡ false
request_free c (MakeSocket kind options) h = refl
request_free c AskTerm h = refl
request_free c (Bind o at) h = absurd (true≢false h)
request_free c (Connect o at) h = absurd (true≢false h)
request_free c (Unbind o at) h = refl
request_free c (Disconnect o at) h = refl
request_free c (Close o) h = refl
request_free c (Accepted o) h = absurd (true≢false h)
request_free c (Shaken o peer) h = absurd (true≢false h)
request_free c (AskEnd e reason) h = reason_free reason _
request_free c (AskOver o) h = refl
request_free c (OutputOver o) h = refl

word_free : (at : ℕ) (word : Word) → list_any is_drawn (word_moves at word) ≡ false
word_free at (Own child) = refl
word_free at (Plug None) = refl
word_free at (Plug (Some e)) = refl
word_free at (TermReq child) = refl
word_free at Term = refl
word_free at (TermAck child) = refl
word_free at (PipeBind e peer) = refl
word_free at (PipeTerm e) = refl
word_free at (PipeTermAck e) = refl
word_free at Stop = refl
word_free at (Reap socket) = refl

-- ---- and names

pub none_mapped : {X Y : Type 0} (f : X → Y) (xs : List X) → map f xs ≡ [] → xs ≡ []
none_mapped f [] h = refl
none_mapped f (x ∷ xs) h = absurd (no h)
  where
    no : {Z : Type 0} {z : Z} {zs : List Z} → z ∷ zs ≡ [] → ⊥
    no e = Prim.grind arith

unless_none : (reply : Reply) → all_pipes (unless_refused reply []) ≡ []
unless_none Done = refl
unless_none (Object o) = refl
unless_none (Pair p) = refl
unless_none (Both o p) = refl
unless_none Wait = refl
unless_none Asked = refl
unless_none Before = refl
unless_none (Refused refusal) = refl

request_none : (c : Control) (req : Req) (reply : Reply) → may_pair req ≡ false → all_pipes (unless_refused reply (request_joins c req)) ≡ []
request_none c (MakeSocket kind options) reply h = unless_none reply
request_none c AskTerm reply h = unless_none reply
request_none c (Bind o at) reply h = absurd (true≢false h)
request_none c (Connect o at) reply h = absurd (true≢false h)
request_none c (Unbind o at) reply h = unless_none reply
request_none c (Disconnect o at) reply h = unless_none reply
request_none c (Close o) reply h = unless_none reply
request_none c (Accepted o) reply h = absurd (true≢false h)
request_none c (Shaken o peer) reply h = absurd (true≢false h)
request_none c (AskEnd e reason) reply h = unless_none reply
request_none c (AskOver o) reply h = unless_none reply
request_none c (OutputOver o) reply h = unless_none reply

-- ---- of an item

module _ {N S : Type 0} where
  own_free : (c : Control) (did : Did N S) → may_pair_in did ≡ false → list_any is_drawn (own_moves c did) ≡ false
  own_free c (DidAsk req reply h) quiet = unless_free reply (request_moves c req) (request_free c req quiet)
  own_free c (Delivered slot letter h) quiet = word_free letter.to.0 letter.word
  own_free c (Delimited e h) quiet = refl

  event_pairs : (c : Control) (did : Did N S) → Kept c → Fits c did → may_pair_in did ≡ false → next_pair (after did c) ≡ next_pair c
  event_pairs c did kept fits quiet =
      let g = event_goes c did kept fits in
      free_length g.moves (having_taken did c).rows (having_taken did c).boxes (after did c) (named_free g.moves (ap (list_any is_drawn) g.own_are ∙ own_free c did quiet)) g.leads
      ∙ ap (λ (r : Rows). length r.pairs) (taken_rows did c)

  opened_none : (c : Control) (did : Did N S) → may_pair_in did ≡ false → opened_in c did ≡ []
  opened_none c (DidAsk req reply h) quiet = request_none c req reply quiet
  opened_none c (Delivered slot letter h) quiet = refl
  opened_none c (Delimited e h) quiet = refl

  named_none : (c : Control) (item : Item N S) → FitsItem c item → may_pair_by item ≡ false → named_in item ≡ []
  named_none c (Seen sight) fits quiet = refl
  named_none c (Event entry) fits quiet = none_mapped (λ (n : PipeName N). n.pipe) (answer_of entry.did).opened (fits.answered.opened ∙ opened_none c entry.did quiet)

  item_pairs : (c : Control) (item : Item N S) → Kept c → FitsItem c item → may_pair_by item ≡ false → next_pair (after_item item c) ≡ next_pair c
  item_pairs c (Seen sight) kept fits quiet = refl
  item_pairs c (Event entry) kept fits quiet = event_pairs c entry.did kept fits quiet

pub others_make_none : (N S : Type 0) → OthersMakeNone N S
others_make_none N S io items item run fits quiet = (
  item_pairs (after_all items (begun io)) item (runs_are_kept N S io items run) fits quiet,
  λ p. ap (name_in p) (
      flat_map-append named_in items (item ∷ []) ∙ ap (λ (ns : List (PipeName N)). flat_map named_in items ++ (ns ++ [])) (named_none (after_all items (begun io)) item fits quiet) ∙ append-nil (flat_map named_in items)
      ),
)
