-- The own items of the caller that has an object say of it what the whole order says.
use Rattle.std.specs.Prelude.{◌≡◌, ◌≢◌, ◌==◌, ℕ, zero, suc, Bool, true, false, cond, List, [], ◌∷◌, ◌++◌, Option, Some, None, if◌then◌else◌, refl}
use Rattle.std.proofs.Common.{arith, sym, ap, ◌∙◌, subst}
use Rattle.std.proofs.lemmas.Bool.{eqb-true, eq-eqb}
use Rattle.spec_control.specs.declared.letter.Word.{Word}
use Rattle.spec_control.specs.declared.letter.Word.TheVariants.{Own, Plug, TermReq, Term, TermAck, PipeBind, PipeTerm, PipeTermAck, Stop, Reap}
use Rattle.spec_control.specs.declared.request.Req.{Req}
use Rattle.spec_control.specs.declared.request.Req.TheVariants.{Socket as MakeSocket, AskTerm, Bind, Connect, Unbind, Disconnect, Close, Accepted, Shaken, AskEnd, AskOver, OutputOver}
use Rattle.spec_control.specs.declared.entry.Did.{Did}
use Rattle.spec_control.specs.declared.entry.Did.TheVariants.{Asked, Delivered, Delimited}
use Rattle.spec_control.specs.declared.entry.Item.{Item}
use Rattle.spec_control.specs.declared.entry.Item.TheVariants.{Event, Seen}
use Rattle.spec_control.specs.Rows.{is_owner}
use Rattle.spec_control.specs.Control.{Control}
use Rattle.spec_control.specs.ControlRun.{after_item}
use Rattle.spec_control.specs.Held.{Held, asker, heard_of, subject_of, ends_in, ends_then, ends_over, items_by}
use Rattle.spec_control.specs.Has.{unless_root, acts_at_word, acts_in_request, taken_by_word, taken_in, given_up, acts_in, has_then, has_over, has_after, IsBy, AreBy}
use Rattle.spec_control.specs.HeldLaws.{OwnItemsAreWhole}

never : false ≡ true → ⊥
never f = Prim.grind arith

none_some : {X : Type 0} {x : X} → None ≡ Some x → ⊥
none_some e = Prim.grind arith

some_of : {x y : ℕ} → Some x ≡ Some y → x ≡ y
some_of e = Prim.grind arith

owned_by : (i : ℕ) (w : Option ℕ) → is_owner i w ≡ true → w ≡ Some i
owned_by i None e = absurd (never e)
owned_by i (Some w) e = ap (λ (n : ℕ). Some n) (eqb-true w i e)

owns : (i : ℕ) (w : Option ℕ) → w ≡ Some i → is_owner i w ≡ true
owns i w e = ap (is_owner i) e ∙ eq-eqb i i refl

clash : {A : Type 0} {b : Bool} → b ≡ true → b ≡ false → A
clash holds fails = absurd (never (sym fails ∙ holds))

-- an object that is not the root acts under its own number
acts_itself : (i to : ℕ) → i ≢ 0 → is_owner i (Some to) ≡ true → unless_root to ≡ Some i
acts_itself i zero other e = absurd (other (sym (some_of (owned_by i (Some 0) e))))
acts_itself i (suc n) other e = owned_by i (Some (suc n)) e

asker_acts : (c : Control) (req : Req) (i : ℕ) → is_owner i (asker req) ≡ true → acts_in_request c req ≡ Some i
asker_acts c (MakeSocket kind options) i e = absurd (never e)
asker_acts c AskTerm i e = absurd (never e)
asker_acts c (Bind o at) i e = owned_by i (Some o.0) e
asker_acts c (Connect o at) i e = owned_by i (Some o.0) e
asker_acts c (Unbind o at) i e = owned_by i (Some o.0) e
asker_acts c (Disconnect o at) i e = owned_by i (Some o.0) e
asker_acts c (Close o) i e = owned_by i (Some o.0) e
asker_acts c (Accepted o) i e = owned_by i (Some o.0) e
asker_acts c (Shaken o peer) i e = owned_by i (Some o.0) e
asker_acts c (AskEnd end reason) i e = absurd (never e)
asker_acts c (AskOver o) i e = owned_by i (Some o.0) e
asker_acts c (OutputOver o) i e = owned_by i (Some o.0) e

heard_acts : (to : ℕ) (word : Word) (i : ℕ) → i ≢ 0 → is_owner i (Some (heard_of to word)) ≡ true → is_owner i (taken_by_word to word) ≡ false → acts_at_word to word ≡ Some i
heard_acts to (Own child) i other e free = acts_itself i to other e
heard_acts to (Plug end) i other e free = clash e free
heard_acts to (TermReq child) i other e free = acts_itself i to other e
heard_acts to Term i other e free = acts_itself i to other e
heard_acts to (TermAck child) i other e free = acts_itself i to other e
heard_acts to (PipeBind end peer) i other e free = acts_itself i to other e
heard_acts to (PipeTerm end) i other e free = acts_itself i to other e
heard_acts to (PipeTermAck end) i other e free = acts_itself i to other e
heard_acts to Stop i other e free = acts_itself i to other e
heard_acts to (Reap socket) i other e free = clash e free

-- what a close gives away
record IsClosed {N S : Type 0} (c : Control) (did : Did N S) (i : ℕ) : Type 0 where
  acts : acts_in c did ≡ Some i
  subject : is_owner i (subject_of did) ≡ true
  ends : (hs : List (Held N)) → ends_in did hs ≡ []

module _ {N S : Type 0} where
  -- an object whose ends may change acts, or is taken in
  subject_acts : (c : Control) (did : Did N S) (i : ℕ) → i ≢ 0 → is_owner i (subject_of did) ≡ true → is_owner i (taken_in did) ≡ false → acts_in c did ≡ Some i
  subject_acts c (Asked req reply h) i other e free = asker_acts c req i e
  subject_acts c (Delivered slot letter h) i other e free = heard_acts letter.to.0 letter.word i other e free
  subject_acts c (Delimited end h) i other e free = absurd (never e)

  closed : (c : Control) (did : Did N S) (i : ℕ) → is_owner i (given_up did) ≡ true → IsClosed c did i
  closed c (Asked (MakeSocket kind options) reply h) i e = absurd (never e)
  closed c (Asked AskTerm reply h) i e = absurd (never e)
  closed c (Asked (Bind o at) reply h) i e = absurd (never e)
  closed c (Asked (Connect o at) reply h) i e = absurd (never e)
  closed c (Asked (Unbind o at) reply h) i e = absurd (never e)
  closed c (Asked (Disconnect o at) reply h) i e = absurd (never e)
  closed c (Asked (Close o) reply h) i e = record { acts = owned_by i (Some o.0) e; subject = e; ends = λ hs. refl }
  closed c (Asked (Accepted o) reply h) i e = absurd (never e)
  closed c (Asked (Shaken o peer) reply h) i e = absurd (never e)
  closed c (Asked (AskEnd end reason) reply h) i e = absurd (never e)
  closed c (Asked (AskOver o) reply h) i e = absurd (never e)
  closed c (Asked (OutputOver o) reply h) i e = absurd (never e)
  closed c (Delivered slot letter h) i e = absurd (never e)
  closed c (Delimited end h) i e = absurd (never e)

-- of an object: who has it, its ends, and what caller k reads off its own items of both
record Fit {N : Type 0} (k : ℕ) (had : Option ℕ) (hs : List (Held N)) (own_had : Option ℕ) (own : List (Held N)) : Type 0 where
  mine_has : is_owner k had ≡ true → own_had ≡ Some k
  mine_ends : is_owner k had ≡ true → own ≡ hs
  other_has : is_owner k had ≡ false → own_had ≡ None
  other_ends : is_owner k had ≡ false → own ≡ []
  nobody : had ≡ None → hs ≡ []

-- what an event of caller b does to it: the object is taken in, given away, or stays whose it is
record Turn {N : Type 0} (b i : ℕ) (had : Option ℕ) (taken given subject : Bool) (ends : List (Held N) → List (Held N)) : Type 0 where
  takes : taken ≡ true → had ≡ None
  gives : given ≡ true → had ≡ Some b
  gives_all : given ≡ true → subject ≡ true
  leaves : given ≡ true → (hs : List (Held N)) → ends hs ≡ []
  changes : subject ≡ true → taken ≡ false → had ≡ Some b

abbrev has_at : (b : ℕ) (taken given : Bool) → Option ℕ → Option ℕ
has_at b taken given had = if taken then Some b else (if given then None else had)

abbrev ends_at : {N : Type 0} (subject : Bool) → (List (Held N) → List (Held N)) → List (Held N) → List (Held N)
ends_at subject ends hs = if subject then ends hs else hs

-- where k has the object
is_mine : (k b : ℕ) (had : Option ℕ) → had ≡ Some b → is_owner k had ≡ (b == k)
is_mine k b had e = ap (is_owner k) e

module _ {N : Type 0} (k b i : ℕ) (had : Option ℕ) (hs : List (Held N)) (own_had : Option ℕ) (own : List (Held N)) (ends : List (Held N) → List (Held N)) where
  nobody_has : had ≡ None → is_owner k had ≡ false
  nobody_has e = ap (is_owner k) e

  -- an event of k itself
  own_turn : (taken given subject : Bool) → (b == k) ≡ true → Fit k had hs own_had own → Turn b i had taken given subject ends →
      Fit k (has_at b taken given had) (ends_at subject ends hs) (has_at b taken given own_had) (ends_at subject ends own)
  own_turn true given subject same fit turn = record {
    mine_has = λ e. ap (λ (n : ℕ). Some n) (eqb-true b k same);
    mine_ends = λ e. ap (ends_at subject ends) (fit.other_ends (nobody_has (turn.takes refl)) ∙ sym (fit.nobody (turn.takes refl)));
    other_has = λ e. clash same e;
    other_ends = λ e. clash same e;
    nobody = λ e. absurd (none_some (sym e));
  }
  own_turn false true false same fit turn = absurd (never (turn.gives_all refl))
  own_turn false true true same fit turn = record {
    mine_has = λ e. absurd (never e);
    mine_ends = λ e. absurd (never e);
    other_has = λ e. refl;
    other_ends = λ e. turn.leaves refl own;
    nobody = λ e. turn.leaves refl hs;
  }
  own_turn false false true same fit turn = record {
    mine_has = fit.mine_has;
    mine_ends = λ e. ap ends (fit.mine_ends e);
    other_has = fit.other_has;
    other_ends = λ e. clash (is_mine k b had (turn.changes refl refl) ∙ same) e;
    nobody = λ e. absurd (none_some (sym e ∙ turn.changes refl refl));
  }
  own_turn false false false same fit turn = fit

  -- an event of another caller
  other_turn : (taken given subject : Bool) → (b == k) ≡ false → Fit k had hs own_had own → Turn b i had taken given subject ends →
      Fit k (has_at b taken given had) (ends_at subject ends hs) own_had own
  other_turn true given subject apart fit turn = record {
    mine_has = λ e. clash e apart;
    mine_ends = λ e. clash e apart;
    other_has = λ e. fit.other_has (nobody_has (turn.takes refl));
    other_ends = λ e. fit.other_ends (nobody_has (turn.takes refl));
    nobody = λ e. absurd (none_some (sym e));
  }
  other_turn false true false apart fit turn = absurd (never (turn.gives_all refl))
  other_turn false true true apart fit turn = record {
    mine_has = λ e. absurd (never e);
    mine_ends = λ e. absurd (never e);
    other_has = λ e. fit.other_has (is_mine k b had (turn.gives refl) ∙ apart);
    other_ends = λ e. fit.other_ends (is_mine k b had (turn.gives refl) ∙ apart);
    nobody = λ e. turn.leaves refl hs;
  }
  other_turn false false true apart fit turn = record {
    mine_has = fit.mine_has;
    mine_ends = λ e. clash e (is_mine k b had (turn.changes refl refl) ∙ apart);
    other_has = fit.other_has;
    other_ends = fit.other_ends;
    nobody = λ e. absurd (none_some (sym e ∙ turn.changes refl refl));
  }
  other_turn false false false apart fit turn = fit

module _ {N S : Type 0} where
  -- an event whose caller may make it
  may_turn : (past : List (Item N S)) (c : Control) (did : Did N S) (b i : ℕ) → i ≢ 0 → IsBy past c did b →
      Turn {N = N} b i (has_after i past) (is_owner i (taken_in did)) (is_owner i (given_up did)) (is_owner i (subject_of did)) (ends_in did)
  may_turn past c did b i other by = record {
    takes = λ e. by.takes i (owned_by i (taken_in did) e);
    gives = λ e. by.acts i (closed c did i e).acts;
    gives_all = λ e. (closed c did i e).subject;
    leaves = λ e. (closed c did i e).ends;
    changes = λ e free. by.acts i (subject_acts c did i other e free);
  }

  has_snoc : (i : ℕ) (had : Option ℕ) (past : List (Item N S)) (item : Item N S) → has_over i had (past ++ item ∷ []) ≡ has_then i item (has_over i had past)
  has_snoc i had [] item = refl
  has_snoc i had (x ∷ past) item = has_snoc i (has_then i x had) past item

  -- what is read off the rest of the order, and off k's own items of it
  record Ends (k i : ℕ) (had : Option ℕ) (hs : List (Held N)) (own_had : Option ℕ) (own : List (Held N)) (items mine : List (Item N S)) : Type 0 where
    fit : Fit k (has_over i had items) (ends_over i hs items) (has_over i own_had mine) (ends_over i own mine)

  over : (k i : ℕ) → i ≢ 0 → (items past : List (Item N S)) (c : Control) (had : Option ℕ) (hs : List (Held N)) (own_had : Option ℕ) (own : List (Held N)) →
      has_after i past ≡ had → AreBy past c items → Fit k had hs own_had own → Ends k i had hs own_had own items (items_by k items)
  over k i other [] past c had hs own_had own is may fit = record { fit = fit }
  over k i other (Seen sight ∷ items) past c had hs own_had own is may fit =
      skip (sight.by == k) (over k i other items (past ++ Seen sight ∷ []) c had hs own_had own (has_snoc i None past (Seen sight) ∙ is) may.1 fit)
    where
      skip : (x : Bool) → Ends k i had hs own_had own items (items_by k items) → Ends k i had hs own_had own (Seen sight ∷ items) (cond x (Seen sight ∷ items_by k items) (items_by k items))
      skip true ends = record { fit = ends.fit }
      skip false ends = record { fit = ends.fit }
  over k i other (Event entry ∷ items) past c had hs own_had own is may fit =
      step (entry.by == k) refl
      (λ same. over k i other items (past ++ Event entry ∷ []) (after_item (Event entry) c) (has_then i (Event entry) had) (ends_then i (Event entry) hs) (has_then i (Event entry) own_had) (ends_then i (Event entry) own)
      (has_snoc i None past (Event entry) ∙ ap (has_then i (Event entry)) is) may.1
      (own_turn k entry.by i had hs own_had own (ends_in entry.did) (is_owner i (taken_in entry.did)) (is_owner i (given_up entry.did)) (is_owner i (subject_of entry.did)) same fit turn))
      (λ apart. over k i other items (past ++ Event entry ∷ []) (after_item (Event entry) c) (has_then i (Event entry) had) (ends_then i (Event entry) hs) own_had own
      (has_snoc i None past (Event entry) ∙ ap (has_then i (Event entry)) is) may.1
      (other_turn k entry.by i had hs own_had own (ends_in entry.did) (is_owner i (taken_in entry.did)) (is_owner i (given_up entry.did)) (is_owner i (subject_of entry.did)) apart fit turn))
    where
      turn : Turn {N = N} entry.by i had (is_owner i (taken_in entry.did)) (is_owner i (given_up entry.did)) (is_owner i (subject_of entry.did)) (ends_in entry.did)
      turn = subst (λ (h : Option ℕ). Turn {N = N} entry.by i h (is_owner i (taken_in entry.did)) (is_owner i (given_up entry.did)) (is_owner i (subject_of entry.did)) (ends_in entry.did)) is
          (may_turn past c entry.did entry.by i other may.0)

      step : (x : Bool) → (entry.by == k) ≡ x →
          ((entry.by == k) ≡ true → Ends k i (has_then i (Event entry) had) (ends_then i (Event entry) hs) (has_then i (Event entry) own_had) (ends_then i (Event entry) own) items (items_by k items)) →
          ((entry.by == k) ≡ false → Ends k i (has_then i (Event entry) had) (ends_then i (Event entry) hs) own_had own items (items_by k items)) →
          Ends k i had hs own_had own (Event entry ∷ items) (cond x (Event entry ∷ items_by k items) (items_by k items))
      step true e same apart = record { fit = (same e).fit }
      step false e same apart = record { fit = (apart e).fit }

begins : {N : Type 0} (k : ℕ) → Fit {N = N} k None [] None []
begins k = record {
  mine_has = λ e. absurd (never e);
  mine_ends = λ e. absurd (never e);
  other_has = λ e. refl;
  other_ends = λ e. refl;
  nobody = λ e. refl;
}

pub own_items_are_whole : (N S : Type 0) → OwnItemsAreWhole N S
own_items_are_whole N S c items may i k other has =
    let fit = (over k i other items [] c None [] None [] refl may (begins k)).fit in
    record { has = fit.mine_has (owns k (has_after i items) has); ends = fit.mine_ends (owns k (has_after i items) has) }

-- and who has it by its own items has it in the order
pub own_has : {N S : Type 0} (c : Control) (items : List (Item N S)) → AreBy [] c items → (i k : ℕ) → i ≢ 0 → has_after i (items_by k items) ≡ Some k → has_after i items ≡ Some k
own_has c items may i k other own = by (is_owner k (has_after i items)) refl
  where
    by : (b : Bool) → is_owner k (has_after i items) ≡ b → has_after i items ≡ Some k
    by true mine = owned_by k (has_after i items) mine
    by false none = absurd (none_some (sym ((over k i other items [] c None [] None [] refl may (begins k)).fit.other_has none) ∙ own))
