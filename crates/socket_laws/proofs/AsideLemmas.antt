-- Over an item that leaves all pipes aside what stands goes on.
use Rattle.std.specs.Prelude.{◌≡◌, ◌<◌, ◌==◌, ◌&&◌, ◌||◌, ◌++◌, nat_lt, ℕ, zero, suc, Bool, true, false, not, cond, List, [], ◌∷◌, Option, Some, None, if◌then◌else◌, filter, find, flat_map, length, map, refl}
use Rattle.std.specs.List.{AllByRecursion}
use Rattle.std.proofs.Common.{arith, sym, ap, ◌∙◌, subst, append-nil}
use Rattle.std.proofs.lemmas.Bool.{ne_eqb}
use Rattle.std.proofs.lemmas.Grind.{flat_map-append}
use Rattle.std.proofs.lemmas.List.Elements.{filter-append, filter_map-append}
use Rattle.zq_base.specs.declared.ids.EndId.{EndId}
use Rattle.zq_base.specs.declared.kind.Kind.{Kind}
use Rattle.zq_base.specs.declared.options.Options.{Options}
use Rattle.zq_base.specs.Ends.{PipeId, other_end}
use Rattle.msg_pipe.specs.Known.{Known}
use Rattle.end_table.specs.Past.{OneName, IsPast}
use Rattle.spec_pattern.specs.PipeStep.{PipeStep, Seal}
use Rattle.spec_control.specs.declared.entry.Answered.{Answered}
use Rattle.spec_control.specs.declared.entry.Did.TheVariants.{Asked as DidAsk}
use Rattle.spec_control.specs.declared.entry.Item.{Item}
use Rattle.spec_control.specs.declared.entry.Item.TheVariants.{Event, Seen}
use Rattle.spec_control.specs.declared.entry.PipeName.{PipeName}
use Rattle.spec_control.specs.declared.letter.Word.TheVariants.{Stop}
use Rattle.spec_control.specs.declared.request.Req.TheVariants.{AskTerm, Socket as MakeSocket}
use Rattle.spec_control.specs.declared.request.Reply.{Reply}
use Rattle.spec_control.specs.declared.request.Reply.TheVariants.{Done, Object, Pair, Both, Wait, Asked, Before, Refused}
use Rattle.spec_control.specs.declared.stage.Stage.TheVariants.{Finished}
use Rattle.spec_control.specs.Row.{RootAsked, StopPut, link_may}
use Rattle.spec_control.specs.Rows.{PairRow, end_place, is_owner, may_end, obj, pair, with_object}
use Rattle.spec_control.specs.Control.{Control, Settlement, begun, id, is_end, link, next_object, place_of, put, finish, stop_sockets, tell_owner, try_end, with_value}
use Rattle.spec_control.specs.After.{Answers, answered, answers_in, requested}
use Rattle.spec_control.specs.ControlRun.{after_all, after_item, Fits, FitsItem, IsControlRun, Joins, all_pipes, unless_refused}
use Rattle.spec_control.specs.Reply.{has_object, living_sockets, most_living_sockets, root_asked, unless}
use Rattle.spec_control.specs.declared.request.Refusal.TheVariants.{Term, TooMany}
use Rattle.spec_control.specs.Names.{name_in, name_of, named_in}
use Rattle.spec_control.specs.Held.{caller_of, items_by}
use Rattle.spec_control.specs.Has.{has_after, has_over, has_then, made_by}
use Rattle.spec_control.specs.Moments.{Moment, left_by, moments_from}
use Rattle.spec_control.specs.OwnAsks.{Known as KnownOf, known_after, known_over}
use Rattle.spec_run.specs.Act.{Act, Step, Said, moment_of, moments_in, pipe_step_of, steps_in}
use Rattle.spec_run.specs.Event.{acts_said, is_asked_once, seals_in}
use Rattle.spec_run.specs.OwnedRun.{settlement_of, pipe_capacity, AreCountedBy}
use Rattle.run_laws.specs.CapacitiesStay.{pipe_at}
use Rattle.zq_world.specs.Piece.{Piece, piece_of, acts_in, pipe_steps}
use Rattle.zq_world.specs.OneSided.{OneSided}
use Rattle.socket_laws.specs.Past.{PastStaysOver}
use Rattle.socket_laws.specs.Sides.{OpensGoOn, SidesStand, SidesStandOn, at_no_end, AreAtEnds}
use Rattle.socket_laws.specs.Standing.{open_by, opens_in, unless_settled, goes_in, PastStands, StandsAt, CoreStands}
use Rattle.socket_laws.specs.Aside.{next_moment, IsAside, AsidesGoOn, LooksAreAsides, RootAsksAreAsides, MakingsAreAsides}

-- ---- lists of items with one more

module _ {N T : Type 0} where
  pub state_more : (items : List (Item N T)) (item : Item N T) (c : Control) → after_all (items ++ item ∷ []) c ≡ after_item item (after_all items c)
  state_more [] item c = refl
  state_more (x ∷ items) item c = state_more items item (after_item x c)

  pub moments_more : (items : List (Item N T)) (item : Item N T) (c : Control) → moments_from c (items ++ item ∷ []) ≡ moments_from c items ++ record { found = after_all items c; item = item } ∷ []
  moments_more [] item c = refl
  moments_more (x ∷ items) item c = ap (λ (ms : List (Moment N T)). record { found = c; item = x } ∷ ms) (moments_more items item (after_item x c))

  has_more : (o : ℕ) (had : Option ℕ) (items : List (Item N T)) (item : Item N T) → has_over o had (items ++ item ∷ []) ≡ has_then o item (has_over o had items)
  has_more o had [] item = refl
  has_more o had (x ∷ items) item = has_more o (has_then o x had) items item

  pub known_more : (o : ℕ) (kn : KnownOf) (xs ys : List (Item N T)) → known_over o kn (xs ++ ys) ≡ known_over o (known_over o kn xs) ys
  known_more o kn [] ys = refl
  known_more o kn (Event entry ∷ xs) ys = known_more o (known_over o kn (Event entry ∷ [])) xs ys
  known_more o kn (Seen sight ∷ xs) ys = known_more o kn xs ys

  -- an item that gives an object to nobody, and after which its caller knows of it what it knew
  record IsSilentOf (o : ℕ) (item : Item N T) : Type 0 where
    has : (had : Option ℕ) → has_then o item had ≡ had
    knows : (kn : KnownOf) → known_over o kn (item ∷ []) ≡ kn

  module _ (items : List (Item N T)) (item : Item N T) (o : ℕ) (silent : IsSilentOf o item) where
    known_same : (k : ℕ) → known_after o (items_by k (items ++ item ∷ [])) ≡ known_after o (items_by k items)
    known_same k =
        ap (known_after o) (filter-append (λ (x : Item N T). caller_of x == k) items (item ∷ []))
        ∙ by (caller_of item == k)
      where
        by : (b : Bool) → known_after o (items_by k items ++ cond b (item ∷ []) []) ≡ known_after o (items_by k items)
        by true = known_more o _ (items_by k items) (item ∷ []) ∙ silent.knows (known_after o (items_by k items))
        by false = ap (known_after o) (append-nil (items_by k items))

    by_same : (h : Option ℕ) → open_by h o (items ++ item ∷ []) ≡ open_by h o items
    by_same None = refl
    by_same (Some k) = ap (λ (kn : KnownOf). let r : Option ℕ = if kn.open_socket then Some k else None in r) (known_same k)

    opens_same : opens_in (items ++ item ∷ []) o ≡ opens_in items o
    opens_same =
        ap (λ (h : Option ℕ). open_by h o (items ++ item ∷ [])) (has_more o None items item ∙ silent.has (has_after o items))
        ∙ by_same (has_after o items)

  opens_go_on : (items : List (Item N T)) (item : Item N T) (c : Control) → ((o : ℕ) → o < next_object c → IsSilentOf o item) → OpensGoOn c (opens_in items) (opens_in (items ++ item ∷ []))
  opens_go_on items item c silent o k there is = sym (opens_same items item o (silent o there)) ∙ is

  -- an item that names no pipe
  pub names_more : (items : List (Item N T)) (item : Item N T) → named_in item ≡ [] → name_of (items ++ item ∷ []) ≡ name_of items
  names_more items item none =
      ap {B = PipeId → Option N} (λ (ns : List (PipeName N)) (e : EndId). name_in e ns)
      (flat_map-append named_in items (item ∷ []) ∙ ap (λ (ns : List (PipeName N)). flat_map named_in items ++ (ns ++ [])) none ∙ append-nil (flat_map named_in items))

-- ---- nothing is sealed where no pair changes

not_now : (b : Bool) → (b && not b) ≡ false
not_now true = refl
not_now false = refl

none_pass : {X : Type 0} (test : X → Bool) → ((x : X) → test x ≡ false) → (xs : List X) → filter test xs ≡ []
none_pass test none [] = refl
none_pass test none (x ∷ xs) = ap (λ (b : Bool). cond b (x ∷ filter test xs) (filter test xs)) (none x) ∙ none_pass test none xs

module _ {N T : Type 0} (m : Moment N T) (same : (left_by m).rows.pairs ≡ m.found.rows.pairs) where
  same_place : (e : EndId) → place_of (left_by m) e ≡ place_of m.found e
  same_place e = ap (λ (ps : List PairRow). end_place (pair (record m.found.rows { pairs = ps }) e.pair.0) e.a) same

  none_sealed : seals_in m ≡ []
  none_sealed =
      none_pass (λ (e : EndId). is_asked_once (place_of (left_by m) e) && not (is_asked_once (place_of m.found e)))
      (λ e. ap (λ p. is_asked_once p && not (is_asked_once (place_of m.found e))) (same_place e) ∙ not_now (is_asked_once (place_of m.found e))) (left_by m).attached

  pub said_alone : acts_said m ≡ Said m ∷ []
  said_alone = ap (λ (es : List EndId). Said m ∷ map (λ e. let a : Act N T = Step (Seal e) in a) es) none_sealed

-- ---- what was done, with one call more

module _ {N T : Type 0} where
  acts_more : (pieces : List (Piece N T)) (x : Piece N T) → acts_in (pieces ++ x ∷ []) ≡ acts_in pieces ++ x.acts
  acts_more pieces x = flat_map-append (λ (y : Piece N T). y.acts) pieces (x ∷ []) ∙ ap (λ (l : List (Act N T)). acts_in pieces ++ l) (append-nil x.acts)

  pub steps_more : (pieces : List (Piece N T)) (x : Piece N T) → pipe_steps (pieces ++ x ∷ []) ≡ pipe_steps pieces ++ steps_in x.acts
  steps_more pieces x = ap steps_in (acts_more pieces x) ∙ filter_map-append pipe_step_of (acts_in pieces) x.acts

  pub told_more : (pieces : List (Piece N T)) (x : Piece N T) → moments_in (acts_in (pieces ++ x ∷ [])) ≡ moments_in (acts_in pieces) ++ moments_in x.acts
  told_more pieces x = ap moments_in (acts_more pieces x) ∙ filter_map-append moment_of (acts_in pieces) x.acts

-- ---- what stands goes on

module _ {S O I N : Type 0} (K : Known S O I N) (T : Type 0) (over : PastStaysOver K N T) (side : SidesStandOn N T) where
  module _ (items : List (Item N T)) (item : Item N T) (k : ℕ) (pipes : S) (pieces : List (Piece N T)) (run : IsControlRun (begun 1) items) (fits : FitsItem (after_all items (begun 1)) item) (aside : IsAside items item)
      (is : CoreStands K items pipes pieces) where
    abbrev c : Control
    c = after_all items (begun 1)

    abbrev d : Control
    d = after_item item c

    abbrev m : Moment N T
    m = next_moment items item

    abbrev one : Piece N T
    one = record { by = k; reaps = false; acts = acts_said m; skips = [] }

    alone : acts_said m ≡ Said m ∷ []
    alone = said_alone m aside.pairs

    same_steps : pipe_steps (pieces ++ one ∷ []) ≡ pipe_steps pieces
    same_steps = steps_more pieces one ∙ ap (λ (l : List (Act N T)). pipe_steps pieces ++ steps_in l) alone ∙ append-nil (pipe_steps pieces)

    same_names : name_of (items ++ item ∷ []) ≡ name_of items
    same_names = names_more items item aside.names

    same_goes : goes_in c (name_of items) ≡ goes_in d (name_of items)
    same_goes = ap {B = PipeId → Option N} (λ (ss : List Settlement) (p : PipeId). unless_settled (find (λ (s : Settlement). is_end (other_end p) s.end) ss) (name_of items p)) (sym aside.settlements)

    settled_none : (s : Option Settlement) (given : Option N) (n : N) → unless_settled s given ≡ Some n → given ≡ Some n
    settled_none None given n e = e
    settled_none (Some s) given n e = Prim.grind arith

    past_now : PastStands K d (name_of items) pipes (pipe_steps pieces)
    past_now = record {
      past_is = subst (λ (goes : PipeId → Option N). IsPast K goes (pipe_capacity d) pipes (pipe_steps pieces)) same_goes
          (over 1 items (item ∷ []) run (fits, tt) (goes_in c (name_of items)) pipes (pipe_steps pieces)
          (λ p n e. is.names_made p n (settled_none (settlement_of c p) (name_of items p) n e)) is.past.made is.past.past_is);
      one_name = subst (λ (goes : PipeId → Option N). OneName goes) same_goes is.past.one_name;
      made = subst (λ (ps : List PairRow). AllByRecursion (λ (s : PipeStep). (pipe_at s).pair.0 < length ps) (pipe_steps pieces)) (sym aside.pairs) is.past.made;
    }

    sides_now : OneSided (pieces ++ one ∷ []) × SidesStand d (opens_in (items ++ item ∷ [])) (pieces ++ one ∷ [])
    sides_now =
        side.calls 1 items (item ∷ []) run (fits, tt) (opens_in items) (opens_in (items ++ item ∷ [])) pieces k false (acts_said m) [] is.sided is.sides aside.opens
        (at_no_end (subst (λ (l : List (Act N T)). AreAtEnds d (λ i. false) l) (sym alone) tt))

    at_next : StandsAt K d (name_of items) (opens_in (items ++ item ∷ [])) (moments_from (begun 1) items ++ m ∷ []) pipes (pieces ++ one ∷ [])
    at_next = record {
      told = told_more pieces one ∙ ap (λ (l : List (Act N T)). moments_in (acts_in pieces) ++ moments_in l) alone ∙ ap (λ (l : List (Moment N T)). l ++ m ∷ []) is.told;
      past = subst (λ (l : List PipeStep). PastStands K d (name_of items) pipes l) (sym same_steps) past_now;
      names_made = λ p n e. subst (λ (ps : List PairRow). p.pair.0 < length ps) (sym aside.pairs) (is.names_made p n e);
      sided = sides_now.0;
      sides = sides_now.1;
      counted = subst (λ (l : List PipeStep). AreCountedBy l d.settlements) (sym same_steps) (subst (λ (ss : List Settlement). AreCountedBy (pipe_steps pieces) ss) (sym aside.settlements) is.counted);
    }

    pub aside_goes_on : CoreStands K (items ++ item ∷ []) pipes (pieces ++ piece_of k false (acts_said m) [])
    aside_goes_on =
        subst (λ (e : Control). StandsAt K e (name_of (items ++ item ∷ [])) (opens_in (items ++ item ∷ [])) (moments_from (begun 1) (items ++ item ∷ [])) pipes (pieces ++ one ∷ [])) (sym (state_more items item (begun 1)))
        (subst (λ (ms : List (Moment N T)). StandsAt K d (name_of (items ++ item ∷ [])) (opens_in (items ++ item ∷ [])) ms pipes (pieces ++ one ∷ [])) (sym (moments_more items item (begun 1)))
        (subst (λ (names : PipeId → Option N). StandsAt K d names (opens_in (items ++ item ∷ [])) (moments_from (begun 1) items ++ m ∷ []) pipes (pieces ++ one ∷ [])) (sym same_names) at_next))

  pub asides_go_on : AsidesGoOn K T
  asides_go_on = aside_goes_on

-- ---- a look is aside

pub looks_are_asides : (N T : Type 0) → LooksAreAsides N T
looks_are_asides N T items sight = record {
  pairs = refl;
  settlements = refl;
  names = refl;
  opens = opens_go_on items (Seen sight) (after_all items (begun 1)) (λ o there. record { has = λ had. refl; knows = λ kn. refl });
}

-- ---- the asking of the root is aside

-- what it leaves
record Left : Type 0 where
  pairs : List PairRow
  settlements : List Settlement

abbrev left : Control → Left
left c = record { pairs = c.rows.pairs; settlements = c.settlements }

if_left : (b : Bool) (x y c : Control) → left x ≡ left c → left y ≡ left c → left (if b then x else y) ≡ left c
if_left true x y c first second = first
if_left false x y c first second = second

stops_left : (n : ℕ) (c : Control) → left (stop_sockets n c) ≡ left c
stops_left zero c = refl
stops_left (suc n) c =
    let before : Control = stop_sockets n c in
    if_left (link_may StopPut (obj before.rows n)) (put n Stop (link StopPut n before)) before before refl refl ∙ stops_left n c

owner_left : (owner : Option ℕ) (i : ℕ) (c : Control) → left (tell_owner owner i c) ≡ left c
owner_left None i c = refl
owner_left (Some owner) i c = refl

finish_left : (i : ℕ) (c : Control) → left (finish i c) ≡ left c
finish_left i c = owner_left (obj c.rows i).owner i (record c { rows = with_object i (record (obj c.rows i) { stage = Finished }) c.rows; ended = c.ended ++ id i ∷ [] })

try_left : (i : ℕ) (out : Bool) (c : Control) → left (try_end i out c) ≡ left c
try_left i out c =
    let now : Control = record c { output_left = with_value i out c.output_left } in
    if_left (may_end c.rows i) (if out then now else finish i now) now c (if_left out now (finish i now) c refl (finish_left i now)) refl

root_left : (h : Answers) (c : Control) → left (requested AskTerm h c) ≡ left c
root_left h c = try_left 0 h.left (stop_sockets (length c.rows.objects) (link RootAsked 0 c)) ∙ stops_left (length c.rows.objects) (link RootAsked 0 c)

asked_left : (reply : Reply) (h : Answers) (c : Control) → left (answered AskTerm reply h c) ≡ left c
asked_left Done h c = root_left h c
asked_left (Object o) h c = root_left h c
asked_left (Pair p) h c = root_left h c
asked_left (Both o p) h c = root_left h c
asked_left Wait h c = root_left h c
asked_left Asked h c = root_left h c
asked_left Before h c = refl
asked_left (Refused refusal) h c = refl

-- it makes no pipe
unless_nil : (reply : Reply) → unless_refused reply (let js : List Joins = [] in js) ≡ []
unless_nil Done = refl
unless_nil (Object o) = refl
unless_nil (Pair p) = refl
unless_nil (Both o p) = refl
unless_nil Wait = refl
unless_nil Asked = refl
unless_nil Before = refl
unless_nil (Refused refusal) = refl

none_named : {N : Type 0} (ns : List (PipeName N)) → map (λ n. n.pipe) ns ≡ [] → ns ≡ []
none_named [] e = refl
none_named (n ∷ ns) e = Prim.grind arith

silent_if : {N : Type 0} (reply : Reply) (ns : List (PipeName N)) → map (λ n. n.pipe) ns ≡ all_pipes (unless_refused reply (let js : List Joins = [] in js)) → ns ≡ []
silent_if reply ns e = none_named ns (e ∙ ap all_pipes (unless_nil reply))

pub root_asks_are_asides : (N T : Type 0) → RootAsksAreAsides N T
root_asks_are_asides N T items by reply h fits =
    let item : Item N T = Event (record { by = by; did = DidAsk AskTerm reply h }) in
    let same = asked_left reply (answers_in h) (after_all items (begun 1)) in record {
      pairs = ap (λ (l : Left). l.pairs) same;
      settlements = ap (λ (l : Left). l.settlements) same;
      names = silent_if reply h.opened fits.answered.opened;
      opens = opens_go_on items item (after_all items (begun 1)) (λ o there. record { has = λ had. refl; knows = λ kn. refl });
    }

-- ---- the making of a socket is aside

made_left : (kind : Kind) (options : Options) (reply : Reply) (h : Answers) (c : Control) → left (answered (MakeSocket kind options) reply h c) ≡ left c
made_left kind options Done h c = refl
made_left kind options (Object o) h c = refl
made_left kind options (Pair p) h c = refl
made_left kind options (Both o p) h c = refl
made_left kind options Wait h c = refl
made_left kind options Asked h c = refl
made_left kind options Before h c = refl
made_left kind options (Refused refusal) h c = refl

other_made : (o n : ℕ) (made : Option ℕ) → o < n → ((i : ℕ) → made ≡ Some i → i ≡ n) → is_owner o made ≡ false
other_made o n None lt is = refl
other_made o n (Some i) lt is = ne_eqb _ _ (λ same. let e : i ≡ n = is i refl in omega (arith, lt, e, same))

made_if : (first second : Bool) (n o : ℕ) → made_by (unless first Term (unless second TooMany (Object (id n)))) ≡ Some o → o ≡ n
made_if true second n o e = Prim.grind arith
made_if false true n o e = Prim.grind arith
made_if false false n o e = Prim.grind arith

-- the object that is made has the next number
pub made_next : {N T : Type 0} (c : Control) (kind : Kind) (options : Options) (reply : Reply) (h : Answered N T) → Fits c (DidAsk (MakeSocket kind options) reply h) → (o : ℕ) → o < next_object c → is_owner o (made_by reply) ≡ false
made_next c kind options reply h fits o there =
    other_made o (next_object c) (made_by reply) there
    (λ i e. made_if (root_asked c) (not (nat_lt (living_sockets c) most_living_sockets) || not (has_object c)) (next_object c) i (sym (ap made_by fits.may.1) ∙ e))

pub makings_are_asides : (N T : Type 0) → MakingsAreAsides N T
makings_are_asides N T items by kind options reply h fits =
    let item : Item N T = Event (record { by = by; did = DidAsk (MakeSocket kind options) reply h }) in
    let same = made_left kind options reply (answers_in h) (after_all items (begun 1)) in record {
      pairs = ap (λ (l : Left). l.pairs) same;
      settlements = ap (λ (l : Left). l.settlements) same;
      names = silent_if reply h.opened fits.answered.opened;
      opens = opens_go_on items item (after_all items (begun 1)) (λ o there.
          let not_it = made_next (after_all items (begun 1)) kind options reply h fits o there in record {
            has = λ had. ap (λ (b : Bool). let r : Option ℕ = if b then Some by else had in r) not_it;
            knows = λ kn. ap (λ (b : Bool). let r : KnownOf = if b then record kn { open_socket = true } else kn in r) not_it;
          });
    }
