-- An item of one object says nothing of another that a caller has.
use Rattle.std.specs.Prelude.{◌≡◌, ◌≢◌, ◌==◌, ◌||◌, ◌++◌, ◌∷◌, [], ℕ, zero, suc, Bool, true, false, List, Option, Some, None, if◌then◌else◌, All, refl}
use Rattle.std.proofs.Common.{arith, sym, ap, ◌∙◌, subst}
use Rattle.std.proofs.lemmas.Bool.{eq-eqb, eqb-true, ne_eqb}
use Rattle.std.proofs.lemmas.List.{append-nil, append_assoc, append_cancel_left}
use Rattle.std.proofs.lemmas.List.Elements.{All-cons, All-head, All-nil, All-tail}
use Rattle.zq_base.specs.declared.kind.Kind.{Kind}
use Rattle.spec_control.specs.declared.letter.Word.{Word}
use Rattle.spec_control.specs.declared.letter.Word.TheVariants.{Own, Plug, TermReq, Term, TermAck, PipeBind, PipeTerm, PipeTermAck, Stop, Reap}
use Rattle.spec_control.specs.declared.entry.Did.{Did}
use Rattle.spec_control.specs.declared.entry.Did.TheVariants.{Asked, Delivered, Delimited}
use Rattle.spec_control.specs.declared.entry.Item.{Item}
use Rattle.spec_control.specs.declared.entry.Item.TheVariants.{Event, Seen}
use Rattle.spec_control.specs.declared.request.Req.{Req}
use Rattle.spec_control.specs.declared.request.Req.TheVariants.{Socket as MakeSocket, AskTerm, Bind, Connect, Unbind, Disconnect, Close, Accepted, Shaken, AskEnd, AskOver, OutputOver}
use Rattle.spec_control.specs.declared.request.Reply.{Reply}
use Rattle.spec_control.specs.Rows.{is_owner}
use Rattle.spec_control.specs.Control.{Control, begun}
use Rattle.spec_control.specs.ControlRun.{after_all, after_item}
use Rattle.spec_control.specs.Held.{Held, asker, ends_in, ends_over, ends_then, heard_of, subject_of}
use Rattle.spec_control.specs.Has.{acts_at_word, acts_in, acts_in_request, given_by_request, given_up, has_after, has_over, has_then, taken_by_request, taken_by_word, taken_in, unless_root, AreBy, IsByItem}
use Rattle.spec_control.specs.Moments.{Moment, is_of_item, items_in, left_by, left_over, left_then, moments_from}
use Rattle.spec_control.specs.OwnAsks.{Known, known_at_request, known_at_word, known_in, known_over, unknown}
use Rattle.desk.specs.Kinds.{kind_at_request, kind_in, kind_over}
use Rattle.socket_laws.specs.Open.{IsOf, IsOfItem}
use Rattle.plain_desk.specs.Lent.{moments_of, GrowsBy, Lent}
use Rattle.plain_desk.specs.Lent.{IsOneOrder}
use Rattle.control_laws.proofs.ListLemmas.{never}
use Rattle.socket_laws.proofs.LastLemmas.{grown, others_stay}
use Rattle.socket_laws.proofs.SocketLemmas.{is_in}
use Rattle.core_laws.specs.Calls.{AreCallsOn, SaySame, for_caller}
use Rattle.core_laws.specs.Laws.{OthersSayTheSame}

none_some : {X : Type 0} {x : X} → None ≡ Some x → ⊥
none_some e = Prim.grind arith

some_is : {x y : ℕ} → Some x ≡ Some y → x ≡ y
some_is e = Prim.grind arith

-- nobody's, where it is not this one's
none_of : (u : ℕ) (w : Option ℕ) → (w ≡ Some u → ⊥) → is_owner u w ≡ false
none_of u None apart = refl
none_of u (Some w) apart = ne_eqb w u (λ same. apart (ap (λ (n : ℕ). Some n) same))

both_none : (a b : Bool) → a ≡ false → b ≡ false → (a || b) ≡ false
both_none false b x y = y
both_none true b x y = x

-- an item that says nothing of an object, whatever was so before
record IsSilent {N S : Type 0} (u : ℕ) (c : Control) (item : Item N S) : Type 0 where
  pub has : (w : Option ℕ) → has_over u w (item ∷ []) ≡ w
  pub ends : (hs : List (Held N)) → ends_over u hs (item ∷ []) ≡ hs
  pub kind : (k : Option Kind) → kind_over u k (item ∷ []) ≡ k
  pub knows : (k : Known) → known_over u k (item ∷ []) ≡ k
  pub of : is_of_item u c item ≡ false

-- ---- a request is of who asks
given_asks : (u : ℕ) (req : Req) → given_by_request req ≡ Some u → asker req ≡ Some u
given_asks u (MakeSocket kind options) e = absurd (none_some e)
given_asks u AskTerm e = e
given_asks u (Bind x at) e = absurd (none_some e)
given_asks u (Connect x at) e = absurd (none_some e)
given_asks u (Unbind x at) e = absurd (none_some e)
given_asks u (Disconnect x at) e = absurd (none_some e)
given_asks u (Close x) e = e
given_asks u (Accepted x) e = absurd (none_some e)
given_asks u (Shaken x peer) e = absurd (none_some e)
given_asks u (AskEnd x reason) e = absurd (none_some e)
given_asks u (AskOver x) e = absurd (none_some e)
given_asks u (OutputOver x) e = absurd (none_some e)

acts_asks : (o u : ℕ) (c : Control) (req : Req) → asker req ≡ Some o → acts_in_request c req ≡ Some u → asker req ≡ Some u
acts_asks o u c (MakeSocket kind options) of e = e
acts_asks o u c AskTerm of e = e
acts_asks o u c (Bind x at) of e = e
acts_asks o u c (Connect x at) of e = e
acts_asks o u c (Unbind x at) of e = e
acts_asks o u c (Disconnect x at) of e = e
acts_asks o u c (Close x) of e = e
acts_asks o u c (Accepted x) of e = e
acts_asks o u c (Shaken x peer) of e = e
acts_asks o u c (AskEnd x reason) of e = absurd (none_some of)
acts_asks o u c (AskOver x) of e = e
acts_asks o u c (OutputOver x) of e = e

root_is : (n u : ℕ) → unless_root n ≡ Some u → n ≡ u
root_is zero u e = absurd (none_some e)
root_is (suc n) u e = some_is e

word_acts : (to u : ℕ) (word : Word) → acts_at_word to word ≡ Some u → to ≡ u
word_acts to u (Own child) e = root_is to u e
word_acts to u (Plug end) e = absurd (none_some e)
word_acts to u (TermReq child) e = root_is to u e
word_acts to u Term e = root_is to u e
word_acts to u (TermAck child) e = root_is to u e
word_acts to u (PipeBind end peer) e = root_is to u e
word_acts to u (PipeTerm end) e = root_is to u e
word_acts to u (PipeTermAck end) e = root_is to u e
word_acts to u Stop e = root_is to u e
word_acts to u (Reap socket) e = absurd (none_some e)

-- the addressee's ends may change, or a socket is taken in
word_heard : (to u : ℕ) (word : Word) → (to ≡ u → ⊥) → (taken_by_word to word ≡ Some u → ⊥) → heard_of to word ≡ u → ⊥
word_heard to u (Own child) apart taken e = apart e
word_heard to u (Plug end) apart taken e = apart e
word_heard to u (TermReq child) apart taken e = apart e
word_heard to u Term apart taken e = apart e
word_heard to u (TermAck child) apart taken e = apart e
word_heard to u (PipeBind end peer) apart taken e = apart e
word_heard to u (PipeTerm end) apart taken e = apart e
word_heard to u (PipeTermAck end) apart taken e = apart e
word_heard to u Stop apart taken e = apart e
word_heard to u (Reap socket) apart taken e = taken (ap (λ (n : ℕ). Some n) e)

module _ (o u : ℕ) (other : o ≢ u) where
  -- ---- an item that is of another object
  acts_none : {N S : Type 0} (c : Control) (did : Did N S) → IsOf o c did → acts_in c did ≡ Some u → ⊥
  acts_none c (Asked req reply h) of e = other (some_is (sym of ∙ acts_asks o u c req of e))
  acts_none c (Delivered slot letter h) of e = other (sym of ∙ word_acts letter.to.0 u letter.word e)
  acts_none c (Delimited d h) of e = other (sym of ∙ some_is e)

  gives_none : {N S : Type 0} (c : Control) (did : Did N S) → IsOf o c did → given_up did ≡ Some u → ⊥
  gives_none c (Asked req reply h) of e = other (some_is (sym of ∙ given_asks u req e))
  gives_none c (Delivered slot letter h) of e = none_some e
  gives_none c (Delimited d h) of e = none_some e

  heard_none : {N S : Type 0} (c : Control) (did : Did N S) → IsOf o c did → (taken_in did ≡ Some u → ⊥) → subject_of did ≡ Some u → ⊥
  heard_none c (Asked req reply h) of taken e = other (some_is (sym of ∙ e))
  heard_none c (Delivered slot letter h) of taken e = word_heard letter.to.0 u letter.word (λ same. other (sym of ∙ same)) taken (some_is e)
  heard_none c (Delimited d h) of taken e = none_some e

  kind_none : (req : Req) (reply : Reply) (k : Option Kind) → is_owner u (taken_by_request req reply) ≡ false → is_owner u (given_by_request req) ≡ false → kind_at_request u req reply k ≡ k
  kind_none (MakeSocket kind options) reply k taken given = ap (λ (b : Bool). if b then Some kind else k) taken
  kind_none AskTerm reply k taken given = refl
  kind_none (Bind x at) reply k taken given = refl
  kind_none (Connect x at) reply k taken given = refl
  kind_none (Unbind x at) reply k taken given = refl
  kind_none (Disconnect x at) reply k taken given = refl
  kind_none (Close x) reply k taken given = ap (λ (b : Bool). if b then None else k) given
  kind_none (Accepted x) reply k taken given = refl
  kind_none (Shaken x peer) reply k taken given = refl
  kind_none (AskEnd x reason) reply k taken given = refl
  kind_none (AskOver x) reply k taken given = refl
  kind_none (OutputOver x) reply k taken given = refl

  knows_none : (req : Req) (reply : Reply) (k : Known) → is_owner u (taken_by_request req reply) ≡ false → is_owner u (asker req) ≡ false → known_at_request u req reply k ≡ k
  knows_none (MakeSocket kind options) reply k taken asks = ap (λ (b : Bool). if b then record k { open_socket = true } else k) taken
  knows_none AskTerm reply k taken asks = refl
  knows_none (Bind x at) reply k taken asks = refl
  knows_none (Connect x at) reply k taken asks = refl
  knows_none (Unbind x at) reply k taken asks = refl
  knows_none (Disconnect x at) reply k taken asks = refl
  knows_none (Close x) reply k taken asks = ap (λ (b : Bool). if b then record k { open_socket = false } else k) asks
  knows_none (Accepted x) reply k taken asks = ap (λ (b : Bool). if b then record k { session = true; accepted = true } else k) taken
  knows_none (Shaken x peer) reply k taken asks = ap (λ (b : Bool). if b then record k { shaken = true } else k) asks
  knows_none (AskEnd x reason) reply k taken asks = refl
  knows_none (AskOver x) reply k taken asks = ap (λ (b : Bool). if b then record k { asked_over = true } else k) asks
  knows_none (OutputOver x) reply k taken asks = ap (λ (b : Bool). if b then record k { output_left = false } else k) asks

  module _ {N S : Type 0} where
    kind_same : (c : Control) (did : Did N S) (k : Option Kind) → IsOf o c did → is_owner u (taken_in did) ≡ false → kind_in u did k ≡ k
    kind_same c (Asked req reply h) k of taken = kind_none req reply k taken (none_of u (given_by_request req) (gives_none c (let d : Did N S = Asked req reply h in d) of))
    kind_same c (Delivered slot letter h) k of taken = refl
    kind_same c (Delimited d h) k of taken = refl

    knows_same : (c : Control) (did : Did N S) (k : Known) → IsOf o c did → is_owner u (taken_in did) ≡ false → known_in u did k ≡ k
    knows_same c (Asked req reply h) k of taken = knows_none req reply k taken (none_of u (asker req) (λ e. other (some_is (sym of ∙ e))))
    knows_same c (Delivered slot letter h) k of taken = ap (λ (b : Bool). if b then known_at_word letter.word h.output_left k else k) (ne_eqb letter.to.0 u (λ same. other (sym of ∙ same)))
    knows_same c (Delimited d h) k of taken = refl

    -- of another that somebody has
    silent : (past : List (Item N S)) (c : Control) (item : Item N S) (k : ℕ) → IsOfItem o c item → IsByItem past c item → has_after u past ≡ Some k → IsSilent u c item
    silent past c (Seen sight) k of by has = record { has = λ w. refl; ends = λ hs. refl; kind = λ k. refl; knows = λ k. refl; of = refl }
    silent past c (Event entry) k of by has = record {
      has = λ w. ap (λ (b : Bool). if b then Some entry.by else (if is_owner u (given_up entry.did) then None else w)) taken ∙ ap (λ (b : Bool). if b then None else w) (none_of u (given_up entry.did) (gives_none c entry.did of));
      ends = λ hs. ap (λ (b : Bool). if b then ends_in entry.did hs else hs) (none_of u (subject_of entry.did) (heard_none c entry.did of takes));
      kind = λ x. kind_same c entry.did x of taken;
      knows = λ x. knows_same c entry.did x of taken;
      of = both_none (is_owner u (acts_in c entry.did)) (is_owner u (taken_in entry.did)) (none_of u (acts_in c entry.did) (acts_none c entry.did of)) taken;
    }
      where
        takes : taken_in entry.did ≡ Some u → ⊥
        takes e = none_some (sym (by.takes u e) ∙ has)

        taken : is_owner u (taken_in entry.did) ≡ false
        taken = none_of u (taken_in entry.did) takes

-- ---- moments more
module _ {N S : Type 0} where
  has_more : (u : ℕ) (w : Option ℕ) (xs : List (Item N S)) (x : Item N S) → has_over u w (xs ++ x ∷ []) ≡ has_over u (has_over u w xs) (x ∷ [])
  has_more u w [] x = refl
  has_more u w (y ∷ xs) x = has_more u (has_then u y w) xs x

  ends_more : (u : ℕ) (hs : List (Held N)) (xs : List (Item N S)) (x : Item N S) → ends_over u hs (xs ++ x ∷ []) ≡ ends_over u (ends_over u hs xs) (x ∷ [])
  ends_more u hs [] x = refl
  ends_more u hs (y ∷ xs) x = ends_more u (ends_then u y hs) xs x

  kind_more : (u : ℕ) (k : Option Kind) (xs : List (Item N S)) (x : Item N S) → kind_over u k (xs ++ x ∷ []) ≡ kind_over u (kind_over u k xs) (x ∷ [])
  kind_more u k [] x = refl
  kind_more u k (Event entry ∷ xs) x = kind_more u (kind_in u entry.did k) xs x
  kind_more u k (Seen sight ∷ xs) x = kind_more u k xs x

  knows_more : (u : ℕ) (k : Known) (xs : List (Item N S)) (x : Item N S) → known_over u k (xs ++ x ∷ []) ≡ known_over u (known_over u k xs) (x ∷ [])
  knows_more u k [] x = refl
  knows_more u k (Event entry ∷ xs) x = knows_more u (known_in u entry.did k) xs x
  knows_more u k (Seen sight ∷ xs) x = knows_more u k xs x

  left_more : (u : ℕ) (c : Control) (ms : List (Moment N S)) (m : Moment N S) → is_of_item u m.found m.item ≡ false → left_over u c (ms ++ m ∷ []) ≡ left_over u c ms
  left_more u c [] m none = ap (λ (b : Bool). let r : Control = if b then left_by m else c in r) none
  left_more u c (x ∷ ms) m none = left_more u (left_then u x c) ms m none

  items_more : (ms : List (Moment N S)) (m : Moment N S) → items_in (ms ++ m ∷ []) ≡ items_in ms ++ m.item ∷ []
  items_more [] m = refl
  items_more (x ∷ ms) m = ap (λ (xs : List (Item N S)). x.item ∷ xs) (items_more ms m)

  module _ (u : ℕ) where
    same_one : (ms : List (Moment N S)) (m : Moment N S) → IsSilent u m.found m.item → SaySame u ms (ms ++ m ∷ [])
    same_one ms m silent = record {
      has = ap (has_over u None) (items_more ms m) ∙ has_more u None (items_in ms) m.item ∙ silent.has _;
      ends = ap (ends_over u []) (items_more ms m) ∙ ends_more u [] (items_in ms) m.item ∙ silent.ends _;
      kind = ap (kind_over u None) (items_more ms m) ∙ kind_more u None (items_in ms) m.item ∙ silent.kind _;
      knows = ap (known_over u unknown) (items_more ms m) ∙ knows_more u unknown (items_in ms) m.item ∙ silent.knows _;
      left = left_more u (begun 0) ms m silent.of;
    }

    pub same_all : (ms ns : List (Moment N S)) → ms ≡ ns → SaySame u ms ns
    same_all ms ns same = record {
      has = ap (λ (l : List (Moment N S)). has_over u None (items_in l)) (sym same);
      ends = ap (λ (l : List (Moment N S)). ends_over u [] (items_in l)) (sym same);
      kind = ap (λ (l : List (Moment N S)). kind_over u None (items_in l)) (sym same);
      knows = ap (λ (l : List (Moment N S)). known_over u unknown (items_in l)) (sym same);
      left = ap (left_over u (begun 0)) (sym same);
    }

    same_on : (xs ys zs : List (Moment N S)) → SaySame u xs ys → SaySame u ys zs → SaySame u xs zs
    same_on xs ys zs one two = record {
      has = two.has ∙ one.has;
      ends = two.ends ∙ one.ends;
      kind = two.kind ∙ one.kind;
      knows = two.knows ∙ one.knows;
      left = two.left ∙ one.left;
    }

    same_more : (ms ns : List (Moment N S)) → All (λ m. IsSilent u m.found m.item) ns → SaySame u ms (ms ++ ns)
    same_more ms [] all = same_all ms (ms ++ []) (sym (append-nil ms))
    same_more ms (n ∷ ns) all =
        same_on ms (ms ++ n ∷ []) (ms ++ n ∷ ns) (same_one ms n (All-head (λ m. IsSilent u m.found m.item) n ns all))
        (subst (λ (l : List (Moment N S)). SaySame u (ms ++ n ∷ []) l) (append_assoc ms (n ∷ []) ns) (same_more (ms ++ n ∷ []) ns (All-tail (λ m. IsSilent u m.found m.item) n ns all)))

  -- those behind the first of an order are by callers that may make them
  by_rest : (xs past ys : List (Item N S)) (c : Control) → AreBy past c (xs ++ ys) → AreBy (past ++ xs) (after_all xs c) ys
  by_rest [] past ys c by = subst (λ (l : List (Item N S)). AreBy l c ys) (sym (append-nil past)) by
  by_rest (x ∷ xs) past ys c by = subst (λ (l : List (Item N S)). AreBy l (after_all xs (after_item x c)) ys) (append_assoc past (x ∷ []) xs) (by_rest xs (past ++ x ∷ []) ys (after_item x c) by.1)

  module _ (o u : ℕ) (other : o ≢ u) (k : ℕ) where
    all_silent : (xs past : List (Item N S)) (c : Control) → AreBy past c xs → All (λ m. IsOfItem o m.found m.item) (moments_from c xs) → has_after u past ≡ Some k → All (λ m. IsSilent u m.found m.item) (moments_from c xs)
    all_silent [] past c by of has = All-nil (λ (m : Moment N S). IsSilent u m.found m.item)
    all_silent (x ∷ xs) past c by of has =
        let m : Moment N S = record { found = c; item = x } in
        let one = silent o u other past c x k (All-head (λ (m : Moment N S). IsOfItem o m.found m.item) m (moments_from (after_item x c) xs) of) by.0 has in
        All-cons (λ (m : Moment N S). IsSilent u m.found m.item) m (moments_from (after_item x c) xs) one
        (all_silent xs (past ++ x ∷ []) (after_item x c) by.1 (All-tail (λ (m : Moment N S). IsOfItem o m.found m.item) m (moments_from (after_item x c) xs) of)
        (has_more u None past x ∙ one.has (has_after u past) ∙ has))

-- calls on one object say nothing of another that its caller has
pub own_say_same : {G N S : Type 0} (old new : Lent G N S) (o u : ℕ) → o ≢ u → AreCallsOn o old new → has_after u old.items ≡ Some old.caller → SaySame u (moments_of old) (moments_of new)
own_say_same {G} {N} {S} old new o u other calls has =
    let w = old.past.workers in
    let c = after_all old.items (begun w) in
    let grows = calls.grows in
    let behind = calls.behind in
    let order = behind.order in
    let same = append_cancel_left (moments_of old) calls.more (moments_from c grows.more) (sym calls.moments ∙ grown old new grows) in
    let by = subst (λ (n : ℕ). AreBy [] (begun n) (old.items ++ grows.more)) grows.workers (subst (λ (l : List (Item N S)). AreBy [] (begun new.past.workers) l) grows.items order.by) in
    let quiet = all_silent o u other old.caller grows.more old.items c (by_rest old.items [] grows.more (begun w) by) (subst (λ (l : List (Moment N S)). All (λ m. IsOfItem o m.found m.item) l) same calls.each) has in
    subst (λ (l : List (Moment N S)). SaySame u (moments_of old) l) (sym (grown old new grows)) (same_more u (moments_of old) (moments_from c grows.more) quiet)

-- ---- whoever has it
module _ {G N S : Type 0} where
  pub one_order_of : (k : ℕ) (d : Lent G N S) → IsOneOrder d → IsOneOrder (for_caller k d)
  one_order_of k d is = record { order = is.order; control = is.control; boxes = is.boxes; options = is.options; closed = is.closed }

pub others_say_the_same : (G N S : Type 0) → OthersSayTheSame G N S
others_say_the_same G N S old new o calls j u apart known = by (j == old.caller) refl
  where
    grows : GrowsBy old new
    grows = calls.grows

    by : (b : Bool) → (j == old.caller) ≡ b → SaySame u (moments_of (for_caller j old)) (moments_of (for_caller j new))
    by false other = same_all u (moments_of (for_caller j old)) (moments_of (for_caller j new)) (sym (others_stay G N S old new grows j (λ same. never (sym other ∙ eq-eqb j old.caller same))))
    by true is =
        let same = eqb-true j old.caller is in
        let has = (is_in (for_caller j old) (one_order_of j old calls.before) u known).has in
        subst (λ (k : ℕ). SaySame u (moments_of (for_caller k old)) (moments_of (for_caller k new))) (sym same)
        (subst (λ (k : ℕ). SaySame u (moments_of (for_caller old.caller old)) (moments_of (for_caller k new))) grows.caller
        (own_say_same old new o u (λ e. apart same (sym e)) calls (has ∙ ap (λ (k : ℕ). Some k) same)))
