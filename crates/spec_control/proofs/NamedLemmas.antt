-- The names that a caller reads off its items are those of the order.
use Rattle.std.specs.Prelude.{◌≡◌, ◌<◌, ℕ, Bool, true, false, List, [], ◌∷◌, ◌++◌, Option, Some, None, if◌then◌else◌, All, map, flat_map, refl}
use Rattle.std.proofs.Common.{arith, sym, ap, ◌∙◌, subst}
use Rattle.std.proofs.lemmas.List.Elements.{All-append, All-map, All-filter}
use Rattle.std.proofs.lemmas.Grind.{flat_map-append}
use Rattle.zq_base.specs.Ends.{other_end}
use Rattle.zq_base.specs.declared.ids.EndId.{EndId}
use Rattle.spec_control.specs.declared.letter.Word.{Word}
use Rattle.spec_control.specs.declared.letter.Word.TheVariants.{Own, Plug, TermReq, Term, TermAck, PipeBind, PipeTerm, PipeTermAck, Stop, Reap}
use Rattle.spec_control.specs.declared.request.Req.{Req}
use Rattle.spec_control.specs.declared.request.Req.TheVariants.{Socket as MakeSocket, AskTerm, Bind, Connect, Unbind, Disconnect, Close, Accepted, Shaken, AskEnd, AskOver, OutputOver}
use Rattle.spec_control.specs.declared.entry.PipeName.{PipeName}
use Rattle.spec_control.specs.declared.entry.Joining.{Joining}
use Rattle.spec_control.specs.declared.entry.Did.{Did}
use Rattle.spec_control.specs.declared.entry.Did.TheVariants.{Asked, Delivered, Delimited}
use Rattle.spec_control.specs.declared.entry.Item.{Item}
use Rattle.spec_control.specs.declared.entry.Item.TheVariants.{Event, Seen}
use Rattle.spec_control.specs.Rows.{is_owner}
use Rattle.spec_control.specs.Control.{is_end}
use Rattle.spec_control.specs.ControlRun.{answer_of}
use Rattle.spec_control.specs.Names.{name_in, named_in, name_of, IsTold, FitsNames, AreNamed}
use Rattle.spec_control.specs.Held.{Held, subject_of, held_as, ends_at_request, ends_at_word, ends_in, ends_then, ends_over}
use Rattle.spec_control.specs.HeldLaws.{HasNames, HeldEndsAreNamed}

none : {X : Type 0} (P : X → Type 0) → All P []
none P k d lt = absurd (below lt)
  where
    below : {k : ℕ} → k < 0 → ⊥
    below h = omega arith

some_none : {X : Type 0} {x : X} → None ≡ Some x → ⊥
some_none e = Prim.grind arith

found : {N : Type 0} (b : Bool) (x n : N) (short long : Option N) → (short ≡ Some n → long ≡ Some n) → (if b then Some x else short) ≡ Some n → (if b then Some x else long) ≡ Some n
found true x n short long more h = h
found false x n short long more h = more h

-- a name that is found in a list is found in a longer one
name_more : {N : Type 0} (e : EndId) (xs ys : List (PipeName N)) (n : N) → name_in e xs ≡ Some n → name_in e (xs ++ ys) ≡ Some n
name_more e [] ys n h = absurd (some_none h)
name_more e (x ∷ xs) ys n h = found (is_end e x.pipe) x.name n (name_in e xs) (name_in e (xs ++ ys)) (name_more e xs ys n) h

module _ {N S : Type 0} where
  pub later : (past more : List (Item N S)) (e : EndId) (n : N) → name_of past e ≡ Some n → name_of (past ++ more) e ≡ Some n
  later past more e n h =
      ap (name_in e) (flat_map-append named_in past more) ∙ name_more e (flat_map named_in past) (flat_map named_in more) n h

  has_more : (past more : List (Item N S)) (h : Held N) → HasNames past h → HasNames (past ++ more) h
  has_more past more h has = record {
    written = later past more h.end h.written has.written;
    read = later past more (other_end h.end) h.read has.read;
  }

  all_more : (past more : List (Item N S)) (hs : List (Held N)) → All (HasNames past) hs → All (HasNames (past ++ more)) hs
  all_more past more hs all k d lt = has_more past more _ (all k d lt)

  -- an end that joins is told its names
  joins_named : (items : List (Item N S)) (js : List (Joining N)) → All (IsTold items) js → All (HasNames items) (map held_as js)
  joins_named items js told = All-map (HasNames items) held_as js (λ k d lt. named _ (told k d lt))
    where
      named : (j : Joining N) → IsTold items j → HasNames items (held_as j)
      named j is = record { written = is.written; read = is.read }

  with_joins : (items : List (Item N S)) (js : List (Joining N)) (hs : List (Held N)) → All (IsTold items) js → All (HasNames items) hs → All (HasNames items) (hs ++ map held_as js)
  with_joins items js hs told all = All-append (HasNames items) hs (map held_as js) all (joins_named items js told)

  request_named : (items : List (Item N S)) (req : Req) (js : List (Joining N)) (hs : List (Held N)) → All (IsTold items) js → All (HasNames items) hs → All (HasNames items) (ends_at_request req js hs)
  request_named items (MakeSocket kind options) js hs told all = all
  request_named items AskTerm js hs told all = all
  request_named items (Bind o at) js hs told all = with_joins items js hs told all
  request_named items (Connect o at) js hs told all = with_joins items js hs told all
  request_named items (Unbind o at) js hs told all = all
  request_named items (Disconnect o at) js hs told all = all
  request_named items (Close o) js hs told all = none (HasNames items)
  request_named items (Accepted o) js hs told all = all
  request_named items (Shaken o peer) js hs told all = with_joins items js hs told all
  request_named items (AskEnd e reason) js hs told all = all
  request_named items (AskOver o) js hs told all = all
  request_named items (OutputOver o) js hs told all = all

  word_named : (items : List (Item N S)) (word : Word) (js : List (Joining N)) (hs : List (Held N)) → All (IsTold items) js → All (HasNames items) hs → All (HasNames items) (ends_at_word word js hs)
  word_named items (Own child) js hs told all = all
  word_named items (Plug end) js hs told all = with_joins items js hs told all
  word_named items (TermReq child) js hs told all = all
  word_named items Term js hs told all = all
  word_named items (TermAck child) js hs told all = all
  word_named items (PipeBind e peer) js hs told all = with_joins items js hs told all
  word_named items (PipeTerm e) js hs told all = all
  word_named items (PipeTermAck e) js hs told all = All-filter _ (HasNames items) hs all
  word_named items Stop js hs told all = all
  word_named items (Reap socket) js hs told all = with_joins items js hs told all

  event_named : (items : List (Item N S)) (did : Did N S) (hs : List (Held N)) → All (IsTold items) (answer_of did).joined → All (HasNames items) hs → All (HasNames items) (ends_in did hs)
  event_named items (Asked req reply h) hs told all = request_named items req h.joined hs told all
  event_named items (Delivered slot letter h) hs told all = word_named items letter.word h.joined hs told all
  event_named items (Delimited e h) hs told all = all

  then_named : (past : List (Item N S)) (item : Item N S) (i : ℕ) (hs : List (Held N)) → FitsNames past item → All (HasNames past) hs →
      All (HasNames (past ++ item ∷ [])) (ends_then i item hs)
  then_named past (Seen sight) i hs fits all = all_more past (Seen sight ∷ []) hs all
  then_named past (Event entry) i hs fits all = by (is_owner i (subject_of entry.did))
    where
      by : (b : Bool) → All (HasNames (past ++ Event entry ∷ [])) (if b then ends_in entry.did hs else hs)
      by true = event_named (past ++ Event entry ∷ []) entry.did hs fits (all_more past (Event entry ∷ []) hs all)
      by false = all_more past (Event entry ∷ []) hs all

  joined_lists : (past : List (Item N S)) (item : Item N S) (items : List (Item N S)) → (past ++ item ∷ []) ++ items ≡ past ++ item ∷ items
  joined_lists [] item items = refl
  joined_lists (x ∷ past) item items = ap (λ ys. x ∷ ys) (joined_lists past item items)

  nothing_more : (past : List (Item N S)) → past ++ [] ≡ past
  nothing_more [] = refl
  nothing_more (x ∷ past) = ap (λ ys. x ∷ ys) (nothing_more past)

  over_named : (past items : List (Item N S)) (i : ℕ) (hs : List (Held N)) → AreNamed past items → All (HasNames past) hs → All (HasNames (past ++ items)) (ends_over i hs items)
  over_named past [] i hs named all = subst (λ ys. All (HasNames ys) hs) (sym (nothing_more past)) all
  over_named past (item ∷ items) i hs named all =
      subst (λ ys. All (HasNames ys) (ends_over i (ends_then i item hs) items)) (joined_lists past item items)
      (over_named (past ++ item ∷ []) items i (ends_then i item hs) named.1 (then_named past item i hs named.0 all))

pub held_ends_are_named : (N S : Type 0) → HeldEndsAreNamed N S
held_ends_are_named N S items named i = over_named [] items i [] named (none _)
